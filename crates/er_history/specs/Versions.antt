-- What the versions of the format share. Lists of records stand newest first.
use Rattle.std.specs.Prelude.{◌≡◌, ℕ, ◌<◌, List, Some}
use Rattle.er_trace.specs.declared.record.Record.{Record}
use Rattle.er_trace.specs.declared.version.Version.{Version}
use Rattle.er_history.specs.History.{Timeout, TimeoutRun, Action, told}
use Rattle.er_history.specs.Rules.{rules, any_holds}
use Rattle.er_history.specs.Edges.{path, is_ruled}
use Rattle.er_history.specs.Laws.{Among}
use Rattle.er_history.specs.Sound.{cause, IsSound}

-- A record has the same cause in each version.
abbrev pub CausesAreShared : Type 0
CausesAreShared = (v w : Version) (h : List Record) (x : Record)
    → cause (rules v) h x ≡ cause (rules w) h x

-- A list that is sound in one version is sound in each.
abbrev pub SoundListsAreShared : Type 0
SoundListsAreShared = (v w : Version) (h : List Record) → IsSound (rules v) h → IsSound (rules w) h

-- The piece that set a timeout comes before the event of its callback.
abbrev pub SetBeforeCallback : Type 0
SetBeforeCallback = (h : List Record) (a : Action) (t : ℕ) (x : Timeout) → Among a (told h).actions
    → a.event.what ≡ TimeoutRun t (Some x) → x.piece < a.event.number

-- So a rule that is told of the paths among the actions before the later event holds exactly where
-- it does by all paths.
abbrev pub PathsBeforeSuffice : Type 0
PathsBeforeSuffice = (v : Version) (h : List Record) (a b : Action) → Among b (told h).actions
    → is_ruled (rules v) (path (rules v) h) a b
    ≡ any_holds (rules v) (path (rules v) h) a.event b.event

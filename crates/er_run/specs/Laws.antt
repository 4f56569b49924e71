-- What holds of the definitions.
use Rattle.std.specs.Prelude.{◌≡◌, ◌≢◌, ◌⊎◌, ◌<◌, ◌+◌, ℕ, true, false, List, ◌++◌, length, map, reverse, Some}
use Rattle.std.specs.List.{slice_get}
use Rattle.std.specs.List.Sorted.{IsStrictlyIncreasing}
use Rattle.er_paths.specs.Paths.{joins}
use Rattle.er_text.specs.Bytes.{count_of_lf}
use Rattle.er_text.specs.declared.causes.Cause.{Cause}
use Rattle.er_text.specs.declared.causes.Cause.TheVariants.{NoEnd}
use Rattle.er_run.specs.declared.outcome.Outcome.{Outcome}
use Rattle.er_run.specs.declared.outcome.Outcome.TheVariants.{Refused}
use Rattle.er_words.specs.declared.commands.Command.{Command}
use Rattle.er_trace.specs.declared.record.Record.{Record}
use Rattle.er_trace.specs.declared.version.Version.{Version}
use Rattle.er_lines.specs.Lines.{IsTrace}
use Rattle.er_history.specs.History.{told}
use Rattle.er_history.specs.Rules.{rules}
use Rattle.er_history.specs.Edges.{edges, path}
use Rattle.er_access.specs.Kept.{Kept}
use Rattle.er_cover.specs.declared.class.Class.{Class}
use Rattle.er_cover.specs.Classes.{class_of, classes_by_race}
use Rattle.er_cover.specs.Groups.{covers}
use Rattle.er_cover.specs.Laws.{NamesACover}
use Rattle.er_paths.specs.orders.Orders.{is_lawful, is_next, before_order, after_order}
use Rattle.er_run.specs.Answer.{format_of, FirstIllegal, Answers}
use Rattle.er_run.specs.Legal.{IsLegal}
use Rattle.er_run.specs.Report.{refusal_for}
use Rattle.er_run.specs.Races.{kept, races, groups}

-- to each command a byte string has one outcome, and one text is due for it
abbrev pub OneAnswer : Type 0
OneAnswer = (asked : Command) (bytes : List ℕ) (o p : Outcome) (due text : List ℕ)
    → Answers (format_of asked) asked bytes o due → Answers (format_of asked) asked bytes p text
    → (o ≡ p) × (due ≡ text)

-- to each command a byte string has an outcome, and a text is due for it; under a double negation,
-- since the words of the definitions decide nothing
abbrev pub EveryAnswer : Type 0
EveryAnswer = (asked : Command) (bytes : List ℕ)
    → ¬ ¬ ((o : Outcome) × (due : List ℕ) × Answers (format_of asked) asked bytes o due)

-- a refusal other than `no-end` is that of every longer input
abbrev pub LongerInput : Type 0
LongerInput = (asked : Command) (bytes more : List ℕ) (n : ℕ) (c : Cause)
    → FirstIllegal (format_of asked) asked bytes n c → c ≢ NoEnd
    → FirstIllegal (format_of asked) asked (bytes ++ more) n c

-- The bytes of a legal trace, without some of the last, are refused for `no-end`, at the line
-- after their last LF.
abbrev pub CutTrace : Type 0
CutTrace = (asked : Command) (v : Version) (records : List Record) (bytes more : List ℕ)
    → IsTrace (format_of asked) v (bytes ++ more) records → IsLegal (rules v) (reverse records)
    → 0 < length more
    → Answers (format_of asked) asked bytes (Refused (count_of_lf bytes + 1) NoEnd)
    (refusal_for asked (count_of_lf bytes + 1) NoEnd)

-- The distinct accesses are in the order of their lines, each once.
abbrev pub KeptInOrder : Type 0
KeptInOrder = (h : List Record) → IsStrictlyIncreasing (map (λ (x : Kept). x.line) (kept h))

-- the lines of one race come before those of another: its first line is less, or the first lines
-- are the same and its second is less
abbrev pub StandsBefore : Kept × Kept → Kept × Kept → Type 0
StandsBefore p q = (p.0.line < q.0.line) ⊎ ((p.0.line ≡ q.0.line) × (p.1.line < q.1.line))

-- The races are in the order of their lines, each once.
abbrev pub RacesInOrder : Type 0
RacesInOrder = (v : Version) (h : List Record) (i j : ℕ) (p q : Kept × Kept) → i < j
    → slice_get (races v h) i ≡ Some p → slice_get (races v h) j ≡ Some q → StandsBefore p q

-- race k names a group that covers it, and none of the groups before that one does
pub record NamesFirstCover (v : Version) (h : List Record) (k : ℕ)
    (race : Kept × Kept) : Type 0 where
  pub cover : NamesACover (path (rules v) h) (classes_by_race (path (rules v) h) (kept h)) k
      (class_of race)
  pub first : (m : ℕ) (g : Class) → m < cover.number → slice_get (groups v h) m ≡ Some g
      → covers (path (rules v) h) g (class_of race) ≡ false

-- Each race names the first group that covers it, and there is one.
abbrev pub EachRaceNamesACover : Type 0
EachRaceNamesACover = (v : Version) (h : List Record) (k : ℕ) (race : Kept × Kept)
    → slice_get (races v h) k ≡ Some race → NamesFirstCover v h k race

-- by these lists no edge leads back in either order of the two actions, and each order shows them
-- side by side
pub record AreBothLawful (lists : List (List ℕ)) (i j : ℕ) : Type 0 where
  pub first : is_lawful lists (before_order (joins lists) (length lists) i j) ≡ true
  pub second : is_lawful lists (after_order (joins lists) (length lists) i j) ≡ true
  pub shows_first : is_next i j (before_order (joins lists) (length lists) i j) ≡ true
  pub shows_second : is_next j i (after_order (joins lists) (length lists) i j) ≡ true

-- so it is of the actions of each race
abbrev pub OrdersKeepRules : Type 0
OrdersKeepRules = (v : Version) (h : List Record) (k : ℕ) (race : Kept × Kept)
    → slice_get (races v h) k ≡ Some race
    → AreBothLawful (edges (rules v) (told h).actions) race.0.action race.1.action

-- Lists at whose end a record is handed as many pieces as `Counts.antt` of er_pieces allows. Lists
-- stand oldest first.
use Rattle.std.specs.Prelude.{◌≡◌, ℕ, List, [], ◌∷◌, map, reverse, codes, length, None}
use Rattle.er_trace.specs.declared.record.Record.{Record}
use Rattle.er_trace.specs.declared.record.Record.TheVariants.{Parse, ParseFrame, Exec, Timer, Tick, Dcl, Load, Eload, Fire, Wfire, Reply, Inline, Run, Close, Back, On, Set, Every, Send}
use Rattle.er_trace.specs.declared.record.Kind.TheVariants as kinds
use Rattle.er_trace.specs.declared.version.Version.{Version}
use Rattle.er_trace.specs.declared.version.Version.TheVariants.{One, Two}
use Rattle.er_history.specs.History.{History, told}
use Rattle.er_history.specs.Rules.{rules}
use Rattle.er_history.specs.Edges.{path}
use Rattle.er_history.specs.Rows.{causes_in}
use Rattle.er_pieces.specs.HandedPieces.{parse_handed, script_handed, load_handed, timer_handed, request_handed, dispatch_handed}
use Rattle.er_pieces.specs.Counts.{most_parse, most_script, most_load, most_timer, most_request, most_dispatch}

-- records, the record that comes next, and how many pieces are handed for it
abbrev pub Next : Type 0
Next = List Record × Record × ℕ

-- all of them, newest first
abbrev pub records_of : Next → List Record
records_of n = n.1 ∷ reverse n.0

-- In each the record is handed as many pieces as it says, which is the most that is allowed, and no
-- record has a cause.
pub record AllFullOf (v : Version) (handed : List Record → Record → List ℕ)
    (most : List Record → Record → ℕ) (rows : List Next) : Type 0 where
  pub given : map (λ (n : Next). length (handed (reverse n.0) n.1)) rows
      ≡ map (λ (n : Next). n.2) rows
  pub allowed : map (λ (n : Next). most (reverse n.0) n.1) rows ≡ map (λ (n : Next). n.2) rows
  pub legal : map (λ (n : Next). causes_in v (records_of n)) rows
      ≡ map (λ (n : Next). map (λ (x : Record). None) (records_of n)) rows

abbrev pub AllFull : (History → Record → List ℕ) → (List Record → Record → ℕ) → List Next → Type 0
AllFull handed most rows = AllFullOf One (λ h x. handed (told h) x) most rows

-- A parse step: the latest parse step of its document, and the event that declared this.
abbrev pub FullParse : Type 0
FullParse = AllFull parse_handed most_parse (
    (ParseFrame 0 1 1 ∷ Parse 1 2 kinds.Plain ∷ [], Parse 1 3 kinds.Plain, 2) ∷
    (ParseFrame 0 1 1 ∷ Parse 1 2 kinds.Plain ∷ [], ParseFrame 1 3 2, 2) ∷
    [])

-- The latest blocking run before a parse step; before the run of a deferred script its maker, and
-- the latest parse step, blocking run and deferred run.
abbrev pub FullScript : Type 0
FullScript = AllFull script_handed most_script (
    (Parse 0 1 kinds.Inline ∷ Exec 1 ∷ [], Parse 0 2 kinds.Plain, 1) ∷
    (Parse 0 1 kinds.Inline ∷ Exec 1 ∷ [], ParseFrame 0 2 1, 1) ∷ (
      Parse 0 1 kinds.Inline ∷ Exec 1 ∷ Parse 0 2 kinds.Defer ∷ Parse 0 3 kinds.Defer ∷ Exec 2
          ∷ [],
      Exec 3,
      4,
    ) ∷
    [])

-- DOMContentLoaded, and load with two async runs and two static closes.
abbrev pub FullLoad : Type 0
FullLoad = AllFull load_handed most_load ((
  Parse 0 1 kinds.Inline ∷ Exec 1 ∷ Parse 0 2 kinds.Defer ∷ Parse 0 3 kinds.Defer ∷ Exec 2
      ∷ Exec 3 ∷ [],
  Dcl 1 0,
  3,
) ∷ (
  Parse 0 1 kinds.Inline ∷ Exec 1 ∷ Parse 0 2 kinds.Defer ∷ Parse 0 3 kinds.Async
      ∷ Parse 0 4 kinds.Async ∷ Parse 0 5 kinds.Image ∷ Parse 0 6 kinds.Image ∷ Exec 2 ∷ Exec 3
      ∷ Exec 4 ∷ Eload 1 5 ∷ Close 1 ∷ Eload 2 6 ∷ Close 2 ∷ Dcl 3 0 ∷ Close 3 ∷ [],
  Load 4 0,
  8,
) ∷
    [])

-- The first load event of a frame that has run as a script, behind load of its document. No legal
-- list has it: there the maker and one piece more are handed.
abbrev pub frame_that_ran : List Record
frame_that_ran = reverse (ParseFrame 0 1 1 ∷ Exec 1 ∷ Load 1 1 ∷ Close 1 ∷ [])

pub record FullEload : Type 0 where
  pub given : length (load_handed (told frame_that_ran) (Eload 2 1)) ≡ 3
  pub allowed : most_load frame_that_ran (Eload 2 1) ≡ 3

-- A frame behind load of its document, and a script that ran.
abbrev pub LegalEload : Type 0
LegalEload =
    (length (load_handed (told (reverse (ParseFrame 0 1 1 ∷ Load 1 1 ∷ Close 1 ∷ []))) (Eload 2 1))
    ≡ 2)
    × (length (load_handed (told (reverse (Parse 0 1 kinds.Async ∷ Exec 1 ∷ []))) (Eload 1 1)) ≡ 2)

abbrev pub AllFullTimers : Version → List Next → Type 0
AllFullTimers v rows =
    AllFullOf v (λ h x. timer_handed v (path (rules v) h) (told h) x) (most_timer v) rows

-- A timeout behind two that were set in the same event, and a tick behind one.
abbrev pub FullTimer : Type 0
FullTimer = AllFullTimers One ((
  Parse 0 1 kinds.Inline ∷ Exec 1 ∷ Set 1 0 ∷ Set 2 0 ∷ Set 3 0 ∷ Timer 1 ∷ Timer 2
      ∷ [],
  Timer 3,
  3,
) ∷
    (Parse 0 1 kinds.Inline ∷ Exec 1 ∷ Every 1 5 ∷ Tick 1 ∷ [], Tick 1, 2) ∷
    [])

-- In version 2 a timeout behind two that were set in other pieces, which have a path to that in
-- which it was set.
abbrev pub FullTimerOfPieces : Type 0
FullTimerOfPieces = AllFullTimers Two ((
  Parse 0 1 kinds.Inline ∷ Set 1 0 ∷ Exec 1 ∷ Set 2 0 ∷ Parse 0 2 kinds.Plain ∷ Set 3 0 ∷ Timer 1
      ∷ Timer 2 ∷ [],
  Timer 3,
  3,
) ∷ (
  Parse 0 1 kinds.Inline ∷ Exec 1 ∷ Set 1 0 ∷ Set 2 0 ∷ Set 3 0 ∷ Timer 1 ∷ Timer 2
      ∷ [],
  Timer 3,
  3,
) ∷
    [])

-- A reply behind a closed one of its request.
abbrev pub FullRequest : Type 0
FullRequest = AllFull request_handed most_request (
    (Parse 0 1 kinds.Inline ∷ Exec 1 ∷ Send 1 ∷ Reply 1 1 ∷ Close 1 ∷ [], Reply 2 1, 2) ∷
    [])

-- Begins of dispatches: behind a close of the same target and type, inline with the piece that it
-- suspends, and in a document that has a maker.
abbrev pub FullBegins : Type 0
FullBegins = AllFull dispatch_handed most_dispatch (
    (Parse 0 1 kinds.Plain ∷ Fire 1 1 (codes "a") ∷ Close 1 ∷ [], Fire 2 1 (codes "a"), 2) ∷
    (ParseFrame 0 1 1 ∷ Wfire 1 1 (codes "a") ∷ Close 1 ∷ [], Wfire 2 1 (codes "a"), 2) ∷ (
      Parse 0 1 kinds.Inline ∷ Exec 1 ∷ Inline 1 1 (codes "a") ∷ Close 1 ∷ Back 1
          ∷ [],
      Inline 2 1 (codes "a"),
      3,
    ) ∷
    (ParseFrame 0 1 1 ∷ [], Dcl 1 1, 1) ∷
    (ParseFrame 0 1 1 ∷ [], Load 1 1, 1) ∷
    [])

-- Handlers and closes: behind the begin alone, behind two handlers of the greatest group that
-- counts, and at the end of an inline dispatch.
abbrev pub FullDispatch : Type 0
FullDispatch = AllFull dispatch_handed most_dispatch (
    (Parse 0 1 kinds.Plain ∷ On 1 ∷ Fire 1 1 (codes "a") ∷ [], Run 1 0 1, 2) ∷ (
      Parse 0 1 kinds.Plain ∷ On 1 ∷ Fire 1 1 (codes "a") ∷ Run 1 0 1 ∷ Run 1 1 1 ∷ Run 1 1 1
          ∷ [],
      Run 1 2 1,
      3,
    ) ∷
    (Parse 0 1 kinds.Plain ∷ Fire 1 1 (codes "a") ∷ [], Close 1, 1) ∷ (
      Parse 0 1 kinds.Plain ∷ On 1 ∷ Fire 1 1 (codes "a") ∷ Run 1 0 1 ∷ Run 1 1 1 ∷ Run 1 1 1
          ∷ [],
      Close 1,
      2,
    ) ∷
    (Parse 0 1 kinds.Inline ∷ Exec 1 ∷ Inline 1 1 (codes "a") ∷ Close 1 ∷ [], Back 1, 1) ∷
    [])

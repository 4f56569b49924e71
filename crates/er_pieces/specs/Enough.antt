-- What the rules that are the same in every version ask of a table and of a list, and the two laws
-- of nested pieces that the laws of handed pieces rest on. Lists of records stand newest first.
use Rattle.std.specs.Prelude.{◌≡◌, ℕ, ◌≤◌, true, false, ◌||◌, List, [], ◌∷◌, Some, None}
use Rattle.std.specs.List.{list_any}
use Rattle.er_trace.specs.declared.record.Record.{Record}
use Rattle.er_trace.specs.declared.record.Record.TheVariants.{Back}
use Rattle.er_trace.specs.declared.version.Version.{Version}
use Rattle.er_history.specs.History.{History, Action, Dispatch, CloseOf, told, begins, running, action_begun}
use Rattle.er_history.specs.Rules.{Rule, same_target, parse_rules, script_rules, load_rules, dispatch_rules, timer_rules, request_rules, task_rules, set_before_timer, ticks_in_order}
use Rattle.er_history.specs.Edges.{around_inline, of_one_event, is_ruled, path}
use Rattle.er_history.specs.Laws.{Among}
use Rattle.er_history.specs.Handed.{HasFamily, AreEnough}
use Rattle.er_pieces.specs.HandedPieces.{parse_handed, script_handed, load_handed, timer_handed, request_handed, task_handed, dispatch_handed}
use Rattle.er_history.specs.Naming.{naming, IsNamed}
use Rattle.er_history.specs.Sound.{out_of_order}

-- the table has rules 1 to 18, 20, 21 and 24 to 31
pub record HasSteady (table : List (ℕ × Rule)) : Type 0 where
  pub parse : HasFamily table parse_rules
  pub script : HasFamily table script_rules
  pub load : HasFamily table load_rules
  pub dispatch : HasFamily table dispatch_rules
  pub timeouts : HasFamily table ((18, set_before_timer) ∷ [])
  pub ticks : HasFamily table ((20, ticks_in_order) ∷ [])
  pub requests : HasFamily table request_rules
  pub tasks : HasFamily table task_rules

-- no record is out of order after those before it
abbrev pub AreInOrder : List (ℕ × Rule) → List Record → Type 0
AreInOrder table [] = Unit {0}
AreInOrder table (x ∷ h) = (out_of_order table h x ≡ false) × AreInOrder table h

-- a table with the steady rules, and a list in which each record is named and in order
pub record IsSteady (table : List (ℕ × Rule)) (h : List Record) : Type 0 where
  pub has : HasSteady table
  pub named : IsNamed h
  pub ordered : AreInOrder table h

-- The source of an edge of the table to the piece that `back` begins has a path to the
-- running action.
abbrev pub BackFollowsClose : List (ℕ × Rule) → Type 0
BackFollowsClose table = (h : List Record) (p : ℕ) (i c : Action) → IsSteady table h
    → naming h (Back p) ≡ None
    → Among i (told h).actions → running (told h).actions ≡ Some c
    → is_ruled table (path table h) i (action_begun (told h) (Back p)) ≡ true
    → path table h i.number c.number ≡ true

-- Close pieces of one target and type are joined by paths in recorded order.
abbrev pub ClosesInOrder : List (ℕ × Rule) → Type 0
ClosesInOrder table = (h : List Record) (i j : Action) (p q : Dispatch) → IsSteady table h
    → Among i (told h).actions → Among j (told h).actions
    → i.event.what ≡ CloseOf p → j.event.what ≡ CloseOf q → same_target p.delivers q.delivers ≡ true
    → i.number ≤ j.number → path table h i.number j.number ≡ true

-- the two laws of nested pieces
pub record NestedFacts (table : List (ℕ × Rule)) : Type 0 where
  pub back : BackFollowsClose table
  pub closes : ClosesInOrder table

-- They hold.
abbrev pub NestedFactsHold : Type 0
NestedFactsHold = (table : List (ℕ × Rule)) → NestedFacts table

-- The handed pieces of a family suffice for the record, after a list to which naming and order have
-- nothing against.
abbrev pub Suffices : List (ℕ × Rule) → List (ℕ × Rule) → (History → Record → List ℕ) → Type 0
Suffices table family handed = (h : List Record) (x : Record)
    → IsSteady table h → naming h x ≡ None → out_of_order table h x ≡ false
    → AreEnough family (path table h) (told h) x (handed (told h) x)

-- Latest pieces suffice for the rules of parsing.
abbrev pub EnoughParse : Type 0
EnoughParse = (table : List (ℕ × Rule)) → NestedFacts table
    → Suffices table parse_rules parse_handed

-- And for those of scripts.
abbrev pub EnoughScript : Type 0
EnoughScript = (table : List (ℕ × Rule)) → NestedFacts table
    → Suffices table script_rules script_handed

-- And for those of loads.
abbrev pub EnoughLoad : Type 0
EnoughLoad = (table : List (ℕ × Rule)) → NestedFacts table
    → Suffices table load_rules load_handed

-- And for those of timers of a version, where the table has them all. What is handed by them may
-- rest on the paths.
abbrev pub EnoughTimer : Type 0
EnoughTimer = (v : Version) (table : List (ℕ × Rule)) → HasFamily table (timer_rules v)
    → NestedFacts table
    → (h : List Record) (x : Record)
    → IsSteady table h → naming h x ≡ None → out_of_order table h x ≡ false
    → AreEnough (timer_rules v) (path table h) (told h) x (timer_handed v (path table h) (told h) x)

-- And for that of requests.
abbrev pub EnoughRequest : Type 0
EnoughRequest = (table : List (ℕ × Rule)) → NestedFacts table
    → Suffices table request_rules request_handed

-- And for those of tasks. What is handed by them may rest on the paths.
abbrev pub EnoughTask : Type 0
EnoughTask = (table : List (ℕ × Rule)) → NestedFacts table
    → (h : List Record) (x : Record)
    → IsSteady table h → naming h x ≡ None → out_of_order table h x ≡ false
    → AreEnough task_rules (path table h) (told h) x (task_handed (path table h) (told h) x)

-- And for those of dispatches between events.
abbrev pub EnoughDispatch : Type 0
EnoughDispatch = (table : List (ℕ × Rule)) → NestedFacts table
    → Suffices table dispatch_rules dispatch_handed

-- And for rules 22 and 23, between pieces, with no more asked.
abbrev pub EnoughPieces : Type 0
EnoughPieces = (table : List (ℕ × Rule)) (h : List Record) (x : Record)
    → IsSteady table h → naming h x ≡ None → begins x ≡ true
    → (i : Action) → Among i (told h).actions
    → (around_inline i (action_begun (told h) x) || of_one_event i (action_begun (told h) x)) ≡ true
    → list_any (λ k. path table h i.number k) (dispatch_handed (told h) x) ≡ true

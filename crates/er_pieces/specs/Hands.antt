-- What is handed is sources, and enough of them: the laws of each family whole. Lists of records
-- stand newest first.
use Rattle.std.specs.Prelude.{◌≡◌, ℕ, Bool, true, false, ◌||◌, List, [], None}
use Rattle.er_trace.specs.declared.record.Record.{Record}
use Rattle.er_paths.specs.Paths.{is_among}
use Rattle.er_trace.specs.declared.version.Version.{Version}
use Rattle.er_history.specs.History.{History, Action, told, begins, action_begun}
use Rattle.er_history.specs.Rules.{Rule, parse_rules, script_rules, load_rules, dispatch_rules, timer_rules, request_rules, task_rules}
use Rattle.er_history.specs.Edges.{around_inline, of_one_event, is_ruled, path}
use Rattle.er_history.specs.Laws.{Among}
use Rattle.er_history.specs.Naming.{naming}
use Rattle.er_history.specs.Sound.{out_of_order}
use Rattle.er_history.specs.Handed.{HasFamily, AreHanded}
use Rattle.er_pieces.specs.HandedPieces.{parse_handed, script_handed, load_handed, timer_handed, request_handed, task_handed, dispatch_handed}
use Rattle.er_pieces.specs.Enough.{IsSteady, NestedFacts}

-- the pieces of the family are sources and enough, after a list to which naming and order have
-- nothing against
abbrev pub Hands : List (ℕ × Rule) → List (ℕ × Rule) → (History → Record → List ℕ) → Type 0
Hands table family handed = (h : List Record) (x : Record)
    → IsSteady table h → naming h x ≡ None → out_of_order table h x ≡ false
    → AreHanded family (path table h) (told h) x (handed (told h) x)

abbrev pub HandsParse : Type 0
HandsParse = (table : List (ℕ × Rule)) → NestedFacts table
    → Hands table parse_rules parse_handed

abbrev pub HandsScript : Type 0
HandsScript = (table : List (ℕ × Rule)) → NestedFacts table
    → Hands table script_rules script_handed

abbrev pub HandsLoad : Type 0
HandsLoad = (table : List (ℕ × Rule)) → NestedFacts table
    → Hands table load_rules load_handed

abbrev pub HandsTimer : Type 0
HandsTimer = (v : Version) (table : List (ℕ × Rule)) → HasFamily table (timer_rules v)
    → NestedFacts table
    → (h : List Record) (x : Record)
    → IsSteady table h → naming h x ≡ None → out_of_order table h x ≡ false
    → AreHanded (timer_rules v) (path table h) (told h) x (timer_handed v (path table h) (told h) x)

abbrev pub HandsRequest : Type 0
HandsRequest = (table : List (ℕ × Rule)) → NestedFacts table
    → Hands table request_rules request_handed

abbrev pub HandsTask : Type 0
HandsTask = (table : List (ℕ × Rule)) → NestedFacts table
    → (h : List Record) (x : Record)
    → IsSteady table h → naming h x ≡ None → out_of_order table h x ≡ false
    → AreHanded task_rules (path table h) (told h) x (task_handed (path table h) (told h) x)

-- For dispatches, each is the source of an edge by a rule of the family, or by one of the
-- two on pieces.
abbrev pub DispatchHandsSources : Type 0
DispatchHandsSources =
    (table : List (ℕ × Rule)) (h : List Record) (x : Record) (joined : ℕ → ℕ → Bool)
    → IsSteady table h → naming h x ≡ None
    → (k : ℕ) → is_among k (dispatch_handed (told h) x) ≡ true
    → (i : Action) × Among i (told h).actions × (i.number ≡ k)
    × ((is_ruled dispatch_rules joined i (action_begun (told h) x)
    || (around_inline i (action_begun (told h) x)
    || of_one_event i (action_begun (told h) x))) ≡ true)

-- and a record that begins no action has none
abbrev pub DispatchHandsNothing : Type 0
DispatchHandsNothing = (h : List Record) (x : Record) → begins x ≡ false
    → dispatch_handed (told h) x ≡ []

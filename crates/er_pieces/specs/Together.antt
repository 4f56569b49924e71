-- The seven families of rules together: what they hand one behind the other is enough for all
-- edges. Lists of records stand newest first.
use Rattle.std.specs.Prelude.{◌≡◌, ℕ, ◌<◌, Bool, true, false, List, ◌∷◌, length, None, All}
use Rattle.er_trace.specs.declared.record.Record.{Record}
use Rattle.er_paths.specs.Laws.{IsEnough}
use Rattle.er_trace.specs.declared.version.Version.{Version}
use Rattle.er_history.specs.History.{told, begins}
use Rattle.er_history.specs.Rules.{Rule, rules, parse_rules, script_rules, load_rules, dispatch_rules, timer_rules, request_rules, task_rules}
use Rattle.er_history.specs.Edges.{edges, path}
use Rattle.er_history.specs.Naming.{naming}
use Rattle.er_history.specs.Handed.{HasHanded}
use Rattle.er_history.specs.Sound.{IsSound, out_of_order}
use Rattle.er_pieces.specs.Enough.{IsSteady}
use Rattle.er_pieces.specs.HandedPieces.{dispatch_handed}
use Rattle.er_pieces.specs.PiecesHanded.{ArePiecesHanded, HasHandedPieces}

-- a sound list has what the latest pieces ask
abbrev pub SoundListsAreSteady : Type 0
SoundListsAreSteady = (v : Version) (h : List Record) → IsSound (rules v) h → IsSteady (rules v) h

-- each family has handed behind those before it
pub record HandInTurn (v : Version) (joined : ℕ → ℕ → Bool) (h : List Record) (x : Record)
    (old new : List ℕ) : Type 0 where
  pub steps : List ℕ
  pub runs : List ℕ
  pub loads : List ℕ
  pub dispatches : List ℕ
  pub timers : List ℕ
  pub requests : List ℕ
  pub parse : HasHanded parse_rules joined (told h) x old steps
  pub script : HasHanded script_rules joined (told h) x steps runs
  pub load : HasHanded load_rules joined (told h) x runs loads
  pub dispatch : HasHandedPieces dispatch_rules joined (told h) x loads dispatches
  pub timer : HasHanded (timer_rules v) joined (told h) x dispatches timers
  pub request : HasHanded request_rules joined (told h) x timers requests
  pub task : HasHanded task_rules joined (told h) x requests new

-- Then all that is handed are sources of edges by all rules, and enough of them.
abbrev pub AllHand : Type 0
AllHand = (v : Version) (h : List Record) (x : Record) (old new : List ℕ) → IsSteady (rules v) h
    → naming h x ≡ None
    → HandInTurn v (path (rules v) h) h x old new
    → HasHandedPieces (rules v) (path (rules v) h) (told h) x old new

-- Beside the lists of the actions before it, the handed numbers are enough for the list of the
-- action that the record begins.
abbrev pub HandedStayEnough : Type 0
HandedStayEnough = (table : List (ℕ × Rule)) (h : List Record) (x : Record)
    (handed : List ℕ) (lists : List (List ℕ))
    → begins x ≡ true → ArePiecesHanded table (path table h) (told h) x handed
    → IsEnough lists (edges table (told h).actions)
    → IsEnough (handed ∷ lists) (edges table (told (x ∷ h)).actions)

-- They are numbers of actions.
abbrev pub HandedAreBelow : Type 0
HandedAreBelow = (table : List (ℕ × Rule)) (h : List Record) (x : Record) (handed : List ℕ)
    → ArePiecesHanded table (path table h) (told h) x handed
    → All (λ k. k < length (told h).actions) handed

-- The pieces that the rules of dispatches hand are sources by them, and enough.
abbrev pub HandsDispatches : Type 0
HandsDispatches = (table : List (ℕ × Rule)) (h : List Record) (x : Record) → IsSteady table h
    → naming h x ≡ None → out_of_order table h x ≡ false
    → ArePiecesHanded dispatch_rules (path table h) (told h) x (dispatch_handed (told h) x)

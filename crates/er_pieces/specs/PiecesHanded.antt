-- What is handed where the two rules on pieces are asked too: sources of edges, and enough of them.
-- Lists of records stand newest first.
use Rattle.std.specs.Prelude.{◌≡◌, ℕ, Bool, true, false, ◌||◌, List, [], ◌++◌}
use Rattle.std.specs.List.{list_any}
use Rattle.er_trace.specs.declared.record.Record.{Record}
use Rattle.er_paths.specs.Paths.{is_among}
use Rattle.er_history.specs.History.{History, Action, told, action_begun, begins}
use Rattle.er_history.specs.Rules.{Rule}
use Rattle.er_history.specs.Edges.{is_ruled, around_inline, of_one_event, path}
use Rattle.er_history.specs.Laws.{Among}
use Rattle.er_pieces.specs.Contract.{ComesNext}

-- a rule of the table leads from i to j between their events, or one of the two on pieces
abbrev pub is_led : List (ℕ × Rule) → (ℕ → ℕ → Bool) → Action → Action → Bool
is_led table joined i j = is_ruled table joined i j || (around_inline i j || of_one_event i j)

-- each of these has an edge to the action that the record begins
abbrev pub ArePieceSources : List (ℕ × Rule) → (ℕ → ℕ → Bool) → History → Record → List ℕ → Type 0
ArePieceSources table joined h x handed = (k : ℕ) → is_among k handed ≡ true
    → (i : Action) × Among i h.actions × (i.number ≡ k)
    × (is_led table joined i (action_begun h x) ≡ true)

-- the source of each such edge has a path to one of them, for a piece that `back` begins too
abbrev pub AreEnoughPieces : List (ℕ × Rule) → (ℕ → ℕ → Bool) → History → Record → List ℕ → Type 0
AreEnoughPieces table joined h x handed = begins x ≡ true → (i : Action) → Among i h.actions
    → is_led table joined i (action_begun h x) ≡ true
    → list_any (λ k. joined i.number k) handed ≡ true

-- sources, and enough of them; a record that begins no action has none
pub record ArePiecesHanded (table : List (ℕ × Rule)) (joined : ℕ → ℕ → Bool) (h : History)
    (x : Record) (handed : List ℕ) : Type 0 where
  pub sources : ArePieceSources table joined h x handed
  pub enough : AreEnoughPieces table joined h x handed
  pub none : begins x ≡ false → handed ≡ []

-- numbers have grown by what is handed
pub record HasHandedPieces (table : List (ℕ × Rule)) (joined : ℕ → ℕ → Bool) (h : History)
    (x : Record) (old : List ℕ) (new : List ℕ) : Type 0 where
  pub handed : List ℕ
  pub grown : new ≡ old ++ handed
  pub are_handed : ArePiecesHanded table joined h x handed

-- memory ran out: they have grown by some of the sources
pub record HasHandedSomePieces (table : List (ℕ × Rule)) (joined : ℕ → ℕ → Bool) (h : History)
    (x : Record) (old : List ℕ) (new : List ℕ) : Type 0 where
  pub handed : List ℕ
  pub grown : new ≡ old ++ handed
  pub sources : ArePieceSources table joined h x handed

-- What a crate of such rules says of what it handed, beside the words of specs/Contract: it is
-- enough, and all of it sources, for every table by which the record comes next.

abbrev pub HandsEnoughPieces : (List Record → Type 0) → List (ℕ × Rule) → Record → List ℕ → List ℕ
    → Type 0
HandsEnoughPieces stands family x old new = (table : List (ℕ × Rule)) (h : List Record) → stands h
    → ComesNext table h x → HasHandedPieces family (path table h) (told h) x old new

abbrev pub HandsSourcePieces : (List Record → Type 0) → List (ℕ × Rule) → Record → List ℕ → List ℕ
    → Type 0
HandsSourcePieces stands family x old new = (table : List (ℕ × Rule)) (h : List Record) → stands h
    → ComesNext table h x → HasHandedSomePieces family (path table h) (told h) x old new

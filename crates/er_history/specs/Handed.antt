-- What a family of rules between events hands: sources of its edges, enough of them that the other
-- sources have a path to these. Lists of records stand newest first.
use Rattle.std.specs.Prelude.{◌≡◌, ℕ, Bool, true, false, List, [], ◌++◌, Some}
use Rattle.std.specs.List.{list_any}
use Rattle.er_trace.specs.declared.record.Record.{Record}
use Rattle.er_trace.specs.declared.record.Record.TheVariants.{Back}
use Rattle.er_paths.specs.Paths.{is_among}
use Rattle.er_history.specs.History.{History, Action, Event, action_begun, begins, running}
use Rattle.er_history.specs.Rules.{Rule, any_holds}
use Rattle.er_history.specs.Edges.{is_ruled}
use Rattle.er_history.specs.Laws.{Among}

-- where a rule of the family holds, one of the table does
abbrev pub HasFamily : List (ℕ × Rule) → List (ℕ × Rule) → Type 0
HasFamily table family = (joined : ℕ → ℕ → Bool) (u v : Event) → any_holds family joined u v ≡ true
    → any_holds table joined u v ≡ true

-- each of these has an edge of the family to the action that the record begins
abbrev pub AreSources : List (ℕ × Rule) → (ℕ → ℕ → Bool) → History → Record → List ℕ → Type 0
AreSources family joined h x handed = (k : ℕ) → is_among k handed ≡ true
    → (i : Action) × Among i h.actions × (i.number ≡ k)
    × (is_ruled family joined i (action_begun h x) ≡ true)

-- the source of each such edge has a path to one of them; or, for a piece that `back` begins, to
-- the running action, which is the latest piece of the close
abbrev pub AreEnough : List (ℕ × Rule) → (ℕ → ℕ → Bool) → History → Record → List ℕ → Type 0
AreEnough family joined h (Back p) handed = (i c : Action) → Among i h.actions
    → running h.actions ≡ Some c
    → is_ruled family joined i (action_begun h (Back p)) ≡ true → joined i.number c.number ≡ true
AreEnough family joined h x handed = (i : Action) → Among i h.actions
    → is_ruled family joined i (action_begun h x) ≡ true
    → list_any (λ k. joined i.number k) handed ≡ true

-- sources, and enough of them; a record that begins no action has none
pub record AreHanded (family : List (ℕ × Rule)) (joined : ℕ → ℕ → Bool) (h : History) (x : Record)
    (handed : List ℕ) : Type 0 where
  pub sources : AreSources family joined h x handed
  pub enough : AreEnough family joined h x handed
  pub none : begins x ≡ false → handed ≡ []

-- numbers have grown by what is handed
pub record HasHanded (family : List (ℕ × Rule)) (joined : ℕ → ℕ → Bool) (h : History) (x : Record)
    (old : List ℕ) (new : List ℕ) : Type 0 where
  pub handed : List ℕ
  pub grown : new ≡ old ++ handed
  pub are_handed : AreHanded family joined h x handed

-- an allocation failed: they have grown by some of the sources
pub record HasHandedSome (family : List (ℕ × Rule)) (joined : ℕ → ℕ → Bool) (h : History)
    (x : Record) (old : List ℕ) (new : List ℕ) : Type 0 where
  pub handed : List ℕ
  pub grown : new ≡ old ++ handed
  pub sources : AreSources family joined h x handed

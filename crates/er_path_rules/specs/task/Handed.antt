-- What is handed of the events that pass a test, by the lists that page and clocks stand for. Lists
-- of records stand newest first.
use Rattle.std.specs.Prelude.{◌≡◌, ℕ, ◌≤◌, Bool, true, List, ◌++◌, length}
use Rattle.std.specs.List.{list_any}
use Rattle.er_trace.specs.declared.record.Record.{Record}
use Rattle.er_trace.specs.declared.version.Version.TheVariants.{Three}
use Rattle.er_paths.specs.Paths.{is_among}
use Rattle.er_history.specs.History.{Event, Action, told}
use Rattle.er_history.specs.Rules.{rules}
use Rattle.er_history.specs.Edges.{path}
use Rattle.er_history.specs.Laws.{Among}

-- numbers have grown by so many pieces at most of events that pass
pub record HandsSomeEvents (actions : List Action) (test : Event → Bool) (most : ℕ)
    (old new : List ℕ) : Type 0 where
  pub handed : List ℕ
  pub grown : new ≡ old ++ handed
  pub sources : (k : ℕ) → is_among k handed ≡ true
      → (i : Action) × Among i actions × (i.number ≡ k) × (test i.event ≡ true)
  pub few : length handed ≤ most

-- and each piece of such an event has a path to one of them
pub record HandsEvents (joined : ℕ → ℕ → Bool) (actions : List Action) (test : Event → Bool)
    (most : ℕ) (old new : List ℕ) : Type 0 where
  pub some : HandsSomeEvents actions test most old new
  pub enough : (i : Action) → Among i actions → test i.event ≡ true
      → list_any (λ k. joined i.number k) some.handed ≡ true

-- for each list that stands

abbrev pub HandsEnoughOf : (List Record → Type 0) → (List Record → Event → Bool) → (List Record → ℕ)
    → List ℕ → List ℕ → Type 0
HandsEnoughOf stands test most old new = (h : List Record) → stands h
    → HandsEvents (path (rules Three) h) (told h).actions (test h) (most h) old new

abbrev pub HandsSome : (List Record → Type 0) → (List Record → Event → Bool) → (List Record → ℕ)
    → List ℕ → List ℕ → Type 0
HandsSome stands test most old new = (h : List Record) → stands h
    → HandsSomeEvents (told h).actions (test h) (most h) old new

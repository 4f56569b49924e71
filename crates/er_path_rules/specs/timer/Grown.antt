-- Numbers that have grown by some of what is due, and by enough of it. Lists of records stand
-- newest first.
use Rattle.std.specs.Prelude.{◌≡◌, ℕ, ◌≤◌, Bool, true, List, ◌++◌, length}
use Rattle.std.specs.List.{list_any}
use Rattle.er_trace.specs.declared.record.Record.{Record}
use Rattle.er_trace.specs.declared.version.Version.{Version}
use Rattle.er_paths.specs.Paths.{is_among}
use Rattle.er_history.specs.Rules.{rules}
use Rattle.er_history.specs.Edges.{path}
use Rattle.er_page.specs.declared.page.Page.{Page}
use Rattle.er_path_rules.specs.timer.Timed.{IsTimed}

-- all of these are due, and they are no more than that
pub record AreOf (due handed : List ℕ) : Type 0 where
  pub among : (k : ℕ) → is_among k handed ≡ true → is_among k due ≡ true
  pub few : length handed ≤ length due

-- and from each that is due a path leads to one of them
pub record Suffice (joined : ℕ → ℕ → Bool) (due handed : List ℕ) : Type 0 where
  pub of_due : AreOf due handed
  pub reached : (k : ℕ) → is_among k due ≡ true → list_any (λ m. joined k m) handed ≡ true

-- numbers have grown so

pub record GrewSome (due old new : List ℕ) : Type 0 where
  pub handed : List ℕ
  pub grown : new ≡ old ++ handed
  pub of_due : AreOf due handed

pub record GrewEnough (joined : ℕ → ℕ → Bool) (due old new : List ℕ) : Type 0 where
  pub handed : List ℕ
  pub grown : new ≡ old ++ handed
  pub suffice : Suffice joined due handed

-- for each list that page and clocks stand for

abbrev pub GrewSomeFor : Version → Page → List (List ℕ) → (List Record → List ℕ) → List ℕ → List ℕ
    → Type 0
GrewSomeFor v page links due old new = (h : List Record) → IsTimed v page links h
    → GrewSome (due h) old new

abbrev pub GrewEnoughFor : Version → Page → List (List ℕ) → (List Record → List ℕ) → List ℕ → List ℕ
    → Type 0
GrewEnoughFor v page links due old new = (h : List Record) → IsTimed v page links h
    → GrewEnough (path (rules v) h) (due h) old new

-- What a table of numbers answers, against what the list says. Lists of records stand newest first.
use Rattle.std.specs.Prelude.{◌≡◌, ℕ, ◌<◌, Bool, List, Option, Some, None, is_some, option_map}
use Rattle.std.specs.List.{list_any}
use Rattle.er_trace.specs.declared.record.Record.{Record}
use Rattle.er_history.specs.History.{told, first_to, maker_by, Action, Entry}
use Rattle.er_history.specs.LookUps.{before}

-- one record more, where this action runs
abbrev pub entry_of : Record → ℕ → Action → Entry
entry_of x place a = record { read = x; place = place; action = Some a }

-- Under each number stands the event whose piece holds the first record that passes the test,
-- and something stands exactly where a record does.
pub record MakersAre (test : ℕ → Record → Bool)
    (found : ℕ → Option ℕ) (h : List Record) : Type 0 where
  pub made : (k : ℕ) → found k ≡ maker_by (test k) (told h).entries
  pub known : (k : ℕ) → is_some (found k) ≡ list_any (test k) h

-- under each number what the first record that gives something gives
pub record FirstsAre (test : ℕ → Record → Bool) (gives : ℕ → Record → Option ℕ)
    (found : ℕ → Option ℕ) (h : List Record) : Type 0 where
  pub first : (k : ℕ) → found k ≡ first_to (gives k) h
  pub known : (k : ℕ) → is_some (found k) ≡ list_any (test k) h

-- a rank and a place, if there are some, are below these
abbrev pub IsUnder : ℕ → ℕ → Option (ℕ × ℕ) → Type 0
IsUnder rank place None = Unit {0}
IsUnder rank place (Some p) = (p.0 < rank) × (p.1 < place)

-- Numbers are ranked in the order of the places of the records that declare them.
-- Each has a rank below the count of them, and a place in the list of so many entries.
pub record IsRanked (rank_at place_at : ℕ → Option ℕ) (count entries : ℕ) : Type 0 where
  pub pairs : ℕ → Option (ℕ × ℕ)
  pub ranks : (k : ℕ) → rank_at k ≡ option_map (λ p. p.0) (pairs k)
  pub places : (k : ℕ) → place_at k ≡ option_map (λ p. p.1) (pairs k)
  pub order : (k n : ℕ)
      → before (option_map (λ p. p.0) (pairs k)) (option_map (λ p. p.0) (pairs n))
      ≡ before (option_map (λ p. p.1) (pairs k)) (option_map (λ p. p.1) (pairs n))
  pub under : (k : ℕ) → IsUnder count entries (pairs k)

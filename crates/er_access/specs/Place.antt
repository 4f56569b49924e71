-- What is kept of a location.
use Rattle.std.specs.Prelude.{ℕ, ◌+◌, ◌-◌, Bool, false, ◌==◌, cond, List, [], ◌∷◌, ◌++◌, map, filter, length, Option, Some, None, ◌&&◌}
use Rattle.std.specs.List.{last_or}
use Rattle.er_trace.specs.declared.record.Mode.{Mode}
use Rattle.er_trace.specs.declared.record.Mode.TheVariants.{R, W}
use Rattle.er_access.specs.declared.access.Access.{Access}
use Rattle.er_access.specs.declared.place.Tally.{Tally}
use Rattle.er_access.specs.Kept.{is_write, same_mode}
use Rattle.er_access.specs.Numbers.{rows_of}

pub record Seen : Type 0 where
  pub rows : List ℕ
  pub reads : Tally
  pub writes : Tally

abbrev pub nothing : Seen
nothing = record {
  rows = [];
  reads = record { count = 0; last = None };
  writes = record { count = 0; last = None };
}

abbrev pub tally_of : Seen → Mode → Tally
tally_of seen mode = cond (is_write mode) seen.writes seen.reads

abbrev pub is_last : Tally → ℕ → Bool
is_last tally action = by tally.last
  where
    by : Option ℕ → Bool
    by None = false
    by (Some n) = n == action

abbrev pub others : Tally → ℕ → ℕ
others tally action = cond (is_last tally action) (tally.count - 1) tally.count

abbrev pub counted : Tally → ℕ → Tally
counted tally action = record { count = tally.count + 1; last = Some action }

abbrev pub partners : Seen → ℕ → Mode → ℕ
partners seen action mode =
    others seen.writes action + cond (is_write mode) (others seen.reads action) 0

abbrev pub noted : Seen → ℕ → ℕ → Mode → Seen
noted seen n action mode = record {
  rows = seen.rows ++ n ∷ [];
  reads = cond (is_write mode) seen.reads (counted seen.reads action);
  writes = cond (is_write mode) (counted seen.writes action) seen.writes;
}

-- the actions of the accesses of one location and mode
abbrev pub actions_at : List Access → ℕ → Mode → List ℕ
actions_at accesses k m =
    map (λ (x : Access). x.action)
    (filter (λ (x : Access). (x.location == k) && same_mode m x.mode) accesses)

abbrev pub tally : List ℕ → Tally
tally actions = record { count = length actions; last = last_or None actions }

-- what these accesses come to at location k
abbrev pub seen_at : List Access → ℕ → Seen
seen_at accesses k = record {
  rows = rows_of accesses k;
  reads = tally (actions_at accesses k R);
  writes = tally (actions_at accesses k W);
}

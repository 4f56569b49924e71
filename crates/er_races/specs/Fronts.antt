-- What one access of a location is listed with.
use Rattle.std.specs.Prelude.{◌≡◌, ◌<◌, ℕ, suc, Bool, true, ◌==◌, cond, List, [], ◌∷◌, map, length}
use Rattle.std.specs.List.{AllByRecursion}
use Rattle.er_trace.specs.declared.record.Mode.{Mode}
use Rattle.er_access.specs.declared.access.Access.{Access}
use Rattle.er_access.specs.Kept.{is_write}
use Rattle.er_access.specs.Numbers.{access_at}
use Rattle.er_races.specs.Listing.{writes_among}
use Rattle.er_races.specs.declared.columns.Columns.{Columns}

abbrev pub action_of : List Access → ℕ → ℕ
action_of accesses n = (access_at accesses n).action

abbrev pub actions_of : List Access → List ℕ → List ℕ
actions_of accesses numbers = map (action_of accesses) numbers

-- a write can race with all, a read with writes alone
abbrev pub partners : Mode → List ℕ → List ℕ → List ℕ
partners mode all writes = cond (is_write mode) all writes

-- the columns are those of these accesses
pub record AreColumns (accesses : List Access) (rows : List ℕ) (columns : Columns) : Type 0 where
  pub actions : columns.actions.items ≡ actions_of accesses rows
  pub writes : columns.writes.items ≡ writes_among accesses rows
  pub write_actions : columns.write_actions.items ≡ actions_of accesses (writes_among accesses rows)

-- how many there are, without the last where it is this one
abbrev pub front_len : List ℕ → ℕ → ℕ
front_len [] n = 0
front_len (x ∷ []) n = cond (x == n) 0 1
front_len (x ∷ y ∷ xs) n = suc (front_len (y ∷ xs) n)

-- all but the last
abbrev pub AllButLast : (ℕ → Type 0) → List ℕ → Type 0
AllButLast P [] = Unit {0}
AllButLast P (x ∷ []) = Unit {0}
AllButLast P (x ∷ y ∷ xs) = P x × AllButLast P (y ∷ xs)

-- these come before j at its location, all but the last of lesser actions
pub record IsFront (accesses : List Access) (rows : List ℕ) (j : ℕ) : Type 0 where
  pub earlier : AllByRecursion (λ i. i < j) rows
  pub here : AllByRecursion
      (λ i. ((access_at accesses i).location == (access_at accesses j).location) ≡ true) rows
  pub lesser : AllButLast (λ i. action_of accesses i < action_of accesses j) rows

-- the numbers whose action does not pass
abbrev pub unjoined : (ℕ → Bool) → List ℕ → List ℕ → List ℕ
unjoined joined [] actions = []
unjoined joined (n ∷ numbers) [] = []
unjoined joined (n ∷ numbers) (a ∷ actions) =
    cond (joined a) (unjoined joined numbers actions) (n ∷ unjoined joined numbers actions)

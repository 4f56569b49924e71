-- What tables answer, and what is put in them.
use Rattle.std.specs.Prelude.{ℕ, ◌<◌, ◌≤◌, ◌-◌, Bool, ◌==◌, ◌&&◌, if◌then◌else◌, List, [], ◌∷◌, ◌++◌, Option, Some, None, IsSomeAnd, nat_eq, length, slice_index, Vec, vec_len, vec_capacity}
use Rattle.std.specs.declared.hash.FoldHasher.{FoldHasher}
use Rattle.std.specs.declared.hash.BuildHasherDefault.{BuildHasherDefault}
use Rattle.std.specs.Cmp.Lexicographic.{pointwise}
use Rattle.indexmap.specs.IndexMap.{IndexMap, get, spare}
use Rattle.er_history.specs.Latest.{greater}
use Rattle.er_history.specs.declared.firsts.Now.{Now}
use Rattle.er_numbers.specs.declared.Numbers.{Numbers}
use Rattle.er_numbers.specs.Numbers.{HasRoomUnder}

abbrev pub Table : Type 0 → Type 0 → Type 0
Table K V = IndexMap K V (BuildHasherDefault FoldHasher)

-- Numbers by numbers: the last that was put under each.

-- what stands under number k once this number has been put under that one, if any
abbrev pub put_last : Option ℕ → ℕ → ℕ → Option ℕ → Option ℕ
put_last None value k old = old
put_last (Some n) value k old = if n == k then Some value else old

-- there is room for a value under the number, if there is one
abbrev pub HasPlace : Numbers ℕ → Option ℕ → Type 0
HasPlace table None = Unit {0}
HasPlace table (Some k) = HasRoomUnder table k

-- Numbers by names and numbers.

abbrev pub under : Option (Table ℕ ℕ) → ℕ → Option ℕ
under None k = None
under (Some table) k = get nat_eq table k

abbrev pub by_name : Table (List ℕ) (Table ℕ ℕ) → List ℕ → ℕ → Option ℕ
by_name tables name k = under (get (pointwise nat_eq) tables name) k

abbrev pub put_named : Option (ℕ × List ℕ) → ℕ → List ℕ → ℕ → Option ℕ → Option ℕ
put_named None value name k old = old
put_named (Some p) value name k old =
    if (p.0 == k) && pointwise nat_eq p.1 name then Some value else old

abbrev pub HasPlaceNamed : Table (List ℕ) (Table ℕ ℕ) → Option (ℕ × List ℕ) → Type 0
HasPlaceNamed tables None = Unit {0}
HasPlaceNamed tables (Some p) =
    IsSomeAnd (get (pointwise nat_eq) tables p.1) (λ table. 0 < spare table)

-- Lists by keys.

-- no list is as an empty one
abbrev pub items_of : {A : Type 0} → Option (Vec ℕ A) → List ℕ
items_of None = []
items_of (Some v) = v.items

-- the list has room for a number more
abbrev pub HasRoom : {A : Type 0} → Option (Vec ℕ A) → Type 0
HasRoom list = IsSomeAnd list (λ v. vec_len v < vec_capacity v)

-- the list of this key has, if there is one
abbrev pub HasRoomFor : {K A : Type 0} → (K → K → Bool) → Table K (Vec ℕ A) → Option K → Type 0
HasRoomFor eq lists None = Unit {0}
HasRoomFor eq lists (Some k) = HasRoom (get eq lists k)

-- the list of key k once this event has been put at the end of that one, if any, where the action
-- is its first piece
abbrev pub put_first : {K : Type 0} → (K → K → Bool) → Option K → Now → K → List ℕ → List ℕ
put_first eq None now k old = old
put_first eq (Some n) now k old =
    if (now.action == now.event) && eq n k then old ++ now.event ∷ [] else old

abbrev pub pair_eq : ℕ × ℕ → ℕ × ℕ → Bool
pair_eq p q = nat_eq p.0 q.0 && nat_eq p.1 q.1

-- Groups: those of a dispatch that have run, each once, in order.

abbrev pub IsBelowAll : ℕ → List ℕ → Type 0
IsBelowAll g [] = Unit {0}
IsBelowAll g (x ∷ xs) = (g < x) × IsBelowAll g xs

-- each is less than those behind it
abbrev pub IsRising : List ℕ → Type 0
IsRising [] = Unit {0}
IsRising (x ∷ xs) = IsBelowAll x xs × IsRising xs

-- in a list that rises, those before the place are less than g, and no others
pub record IsPlaceOf (g : ℕ) (xs : List ℕ) (place : ℕ) : Type 0 where
  pub within : place ≤ length xs
  pub others : (k : ℕ) → place ≤ k → k < length xs → g ≤ slice_index xs k
  pub less : 0 < place → slice_index xs (place - 1) < g

-- what stands just before the place
abbrev pub just_before : ℕ → List ℕ → Option ℕ
just_before place xs = if place == 0 then None else Some (slice_index xs (place - 1))

-- the greatest of a list that passes
abbrev pub greatest_in : (ℕ → Bool) → List ℕ → Option ℕ
greatest_in test [] = None
greatest_in test (g ∷ gs) = greater (if test g then Some g else None) (greatest_in test gs)

abbrev pub first_of : Option (ℕ × ℕ) → Option ℕ
first_of None = None
first_of (Some p) = Some p.0

-- the group of this handler, where it is of dispatch p and passes
abbrev pub group_put : Option (ℕ × ℕ) → ℕ → (ℕ → Bool) → Option ℕ
group_put None p test = None
group_put (Some h) p test = if (h.0 == p) && test h.1 then Some h.1 else None

-- Locations and their numbers.
use Rattle.std.proofs.Common.{◌≡◌, ℕ, zero, suc, ◌+◌, ◌<◌, Bool, true, false, not, ◌&&◌, cond, List, [], ◌∷◌, ◌++◌, length, get_or, Some, refl, sym, ap, ◌∙◌, arith}
use Rattle.std.specs.Prelude.{◌==◌, ◌||◌, if◌then◌else◌, slice_get, nat_eq}
use Rattle.std.specs.Bool.{Decides}
use Rattle.std.specs.Cmp.Lexicographic.{pointwise}
use Rattle.std.specs.List.{AllByRecursion, list_any, position_or_len}
use Rattle.std.specs.Str.{bytes_eq}
use Rattle.std.proofs.lemmas.Option.{slice_get_read}
use Rattle.std.proofs.lemmas.Slice.Eq.{bytes_eq-Decides}
use Rattle.std.proofs.lemmas.Bool.Decides.{nat_tests, Decides-at, Decides-and, Decides-like, Decides-eqb}
use Rattle.er_trace.specs.declared.record.Loc.{Loc}
use Rattle.er_trace.specs.declared.record.Loc.TheVariants.{Var, Elem, Slot}
use Rattle.er_access.specs.Kept.{Kept, same_loc}
use Rattle.er_access.specs.Numbers.{number_of, with_location, locations_from, locations_of}
use Rattle.er_access.specs.Table.{AreDistinct, location_at}

-- a test of locations says what it is named for

same_bytes : (xs ys : List ℕ) → pointwise nat_eq xs ys ≡ bytes_eq xs ys
same_bytes [] [] = refl
same_bytes [] (y ∷ ys) = refl
same_bytes (x ∷ xs) [] = refl
same_bytes (x ∷ xs) (y ∷ ys) = ap (λ b. (x == y) && b) (same_bytes xs ys)

parts_decide : (i j : ℕ) (m n : List ℕ) → Decides ((i == j) && pointwise nat_eq m n) ((i ≡ j) × (m ≡ n))
parts_decide i j m n = Decides-and (i == j) (pointwise nat_eq m n) (Decides-eqb i j) (Decides-at (pointwise nat_eq m n) (bytes_eq m n) (same_bytes m n) (bytes_eq-Decides m n))

never : (P : Type 0) → (P → false ≡ true) → Decides false P
never P none = ((λ h. cc), none)

pub same_loc_decides : (a b : Loc) → Decides (same_loc a b) (a ≡ b)
same_loc_decides (Var i m) (Var j n) = Decides-like ((i == j) && pointwise nat_eq m n) (λ h. cc (h.0, h.1)) (λ h. (cc, cc)) (parts_decide i j m n)
same_loc_decides (Elem i m) (Elem j n) = Decides-like ((i == j) && pointwise nat_eq m n) (λ h. cc (h.0, h.1)) (λ h. (cc, cc)) (parts_decide i j m n)
same_loc_decides (Slot i m) (Slot j n) = Decides-like ((i == j) && pointwise nat_eq m n) (λ h. cc (h.0, h.1)) (λ h. (cc, cc)) (parts_decide i j m n)
same_loc_decides (Var i m) (Elem j n) = never (Var i m ≡ Elem j n) (λ h. cc)
same_loc_decides (Var i m) (Slot j n) = never (Var i m ≡ Slot j n) (λ h. cc)
same_loc_decides (Elem i m) (Var j n) = never (Elem i m ≡ Var j n) (λ h. cc)
same_loc_decides (Elem i m) (Slot j n) = never (Elem i m ≡ Slot j n) (λ h. cc)
same_loc_decides (Slot i m) (Var j n) = never (Slot i m ≡ Var j n) (λ h. cc)
same_loc_decides (Slot i m) (Elem j n) = never (Slot i m ≡ Elem j n) (λ h. cc)

same_is : (a b : Loc) → same_loc a b ≡ true → a ≡ b
same_is a b e = (same_loc_decides a b).0 e

pub same_self : (a : Loc) → same_loc a a ≡ true
same_self a = (same_loc_decides a a).1 refl

by_bool : (P : Type 0) (b : Bool) → (b ≡ true → P) → (b ≡ false → P) → P
by_bool P true f g = f refl
by_bool P false f g = g refl

same_back : (a b : Loc) → same_loc a b ≡ false → same_loc b a ≡ false
same_back a b e = by_bool (same_loc b a ≡ false) (same_loc b a) (λ h. (let no : true ≡ false = sym (same_self b) ∙ (ap (λ x. same_loc x b) (same_is b a h) ∙ e) in cc)) (λ h. h)

or_left : (a b : Bool) → (a || b) ≡ false → a ≡ false
or_left true b e = let no : true ≡ false = e in cc
or_left false b e = refl

or_right : (a b : Bool) → (a || b) ≡ false → b ≡ false
or_right true b e = let no : true ≡ false = e in cc
or_right false b e = e

both_false : (a b : Bool) → a ≡ false → b ≡ false → (a || b) ≡ false
both_false a b e f = ap (λ x. x || b) e ∙ f

-- locations stay distinct

not_at_end : (l loc : Loc) (ls : List Loc) → list_any (same_loc l) ls ≡ false → same_loc l loc ≡ false → list_any (same_loc l) (ls ++ loc ∷ []) ≡ false
not_at_end l loc [] e f = both_false (same_loc l loc) false f refl
not_at_end l loc (m ∷ ls) e f = both_false (same_loc l m) (list_any (same_loc l) (ls ++ loc ∷ [])) (or_left (same_loc l m) (list_any (same_loc l) ls) e) (not_at_end l loc ls (or_right (same_loc l m) (list_any (same_loc l) ls) e) f)

pub distinct_push : (loc : Loc) (ls : List Loc) → AreDistinct ls → list_any (same_loc loc) ls ≡ false → AreDistinct (ls ++ loc ∷ [])
distinct_push loc [] d e = (refl, tt)
distinct_push loc (l ∷ ls) d e = (
  not_at_end l loc ls d.0 (same_back loc l (or_left (same_loc loc l) (list_any (same_loc loc) ls) e)),
  distinct_push loc ls d.1 (or_right (same_loc loc l) (list_any (same_loc loc) ls) e),
)

pub distinct_with : (loc : Loc) (ls : List Loc) → AreDistinct ls → AreDistinct (with_location loc ls)
distinct_with loc ls d = by (list_any (same_loc loc) ls) refl
  where
    by : (b : Bool) → list_any (same_loc loc) ls ≡ b → AreDistinct (if b then ls else ls ++ loc ∷ [])
    by true e = d
    by false e = distinct_push loc ls d e

-- a location that is not there would go last
none_before : {X : Type 0} (p : X → Bool) (xs : List X) → list_any p xs ≡ false → position_or_len p xs ≡ length xs
none_before p [] e = refl
none_before p (x ∷ xs) e = by (p x) (list_any p xs) (position_or_len p xs) (none_before p xs) e
  where
    by : (b a : Bool) (n : ℕ) → (a ≡ false → n ≡ length xs) → (b || a) ≡ false → cond (not b) (1 + n) 0 ≡ length (x ∷ xs)
    by true a n rest g = let no : true ≡ false = g in cc
    by false a n rest g = omega (arith, rest g)

pub number_new : (locations : List Loc) (loc : Loc) → list_any (same_loc loc) locations ≡ false → number_of loc locations ≡ length locations
number_new locations loc absent = none_before (same_loc loc) locations absent

-- a location's number is where it stands

get_in : (l loc : Loc) (ls : List Loc) (k : ℕ) (b : Loc) → list_any (same_loc l) ls ≡ false → slice_get ls k ≡ Some b → same_loc l b ≡ false
get_in l loc [] k b e at = cc
get_in l loc (m ∷ ls) zero b e at = let same : m ≡ b = cc in ap (same_loc l) (sym same) ∙ or_left (same_loc l m) (list_any (same_loc l) ls) e
get_in l loc (m ∷ ls) (suc k) b e at = get_in l loc ls k b (or_right (same_loc l m) (list_any (same_loc l) ls) e) at

eq_zero : (n : ℕ) → (0 == 1 + n) ≡ false
eq_zero n = grind (arith, nat_tests)

suc_zero : (n : ℕ) → (suc n == 0) ≡ false
suc_zero n = grind (arith, nat_tests)

suc_suc : (k n : ℕ) → (suc k == 1 + n) ≡ (k == n)
suc_suc k n = grind (arith, nat_tests)

pub place_tells : (loc : Loc) (ls : List Loc) (k : ℕ) (b : Loc) → AreDistinct ls → slice_get ls k ≡ Some b → (k == number_of loc ls) ≡ same_loc loc b
place_tells loc [] k b d at = cc
place_tells loc (l ∷ ls) zero b d at =
    let same : l ≡ b = cc in
    by (same_loc loc l) ∙ ap (same_loc loc) same
  where
    by : (c : Bool) → (0 == cond (not c) (1 + number_of loc ls) 0) ≡ c
    by true = refl
    by false = eq_zero (number_of loc ls)
place_tells loc (l ∷ ls) (suc k) b d at =
    by (same_loc loc l) (λ e. ap (λ x. same_loc x b) (same_is loc l e) ∙ get_in l loc ls k b d.0 at) (place_tells loc ls k b d.1 at) refl
  where
    by : (c : Bool) → (same_loc loc l ≡ true → same_loc loc b ≡ false) → (k == number_of loc ls) ≡ same_loc loc b → same_loc loc l ≡ c → (suc k == cond (not c) (1 + number_of loc ls) 0) ≡ same_loc loc b
    by true apart rest e = suc_zero k ∙ sym (apart e)
    by false apart rest e = suc_suc k (number_of loc ls) ∙ rest

get_end : (loc : Loc) (ls : List Loc) → slice_get (ls ++ loc ∷ []) (length ls) ≡ Some loc
get_end loc [] = refl
get_end loc (l ∷ ls) = get_end loc ls

pub get_there : (loc : Loc) (ls : List Loc) → list_any (same_loc loc) ls ≡ true → slice_get ls (number_of loc ls) ≡ Some loc
get_there loc [] e = let no : false ≡ true = e in cc
get_there loc (l ∷ ls) e = by (same_loc loc l) (λ h. ap Some (sym (same_is loc l h))) (get_there loc ls) refl e
  where
    by : (c : Bool) → (same_loc loc l ≡ true → Some l ≡ Some loc) → (list_any (same_loc loc) ls ≡ true → slice_get ls (number_of loc ls) ≡ Some loc) → same_loc loc l ≡ c → (c || list_any (same_loc loc) ls) ≡ true
        → slice_get (l ∷ ls) (cond (not c) (1 + number_of loc ls) 0) ≡ Some loc
    by true first rest f g = first f
    by false first rest f g = (let e : 1 + number_of loc ls ≡ suc (number_of loc ls) = omega arith in ap (slice_get (l ∷ ls)) e) ∙ rest g

pub number_stands : (loc : Loc) (ls : List Loc) → slice_get (with_location loc ls) (number_of loc ls) ≡ Some loc
number_stands loc ls = by (list_any (same_loc loc) ls) refl
  where
    by : (c : Bool) → list_any (same_loc loc) ls ≡ c → slice_get (if c then ls else ls ++ loc ∷ []) (number_of loc ls) ≡ Some loc
    by true e = get_there loc ls e
    by false e = ap (slice_get (ls ++ loc ∷ [])) (number_new ls loc e) ∙ get_end loc ls

pub get_more : (ls : List Loc) (loc b : Loc) (k : ℕ) → slice_get ls k ≡ Some b → slice_get (ls ++ loc ∷ []) k ≡ Some b
get_more [] loc b k at = cc
get_more (l ∷ ls) loc b zero at = at
get_more (l ∷ ls) loc b (suc k) at = get_more ls loc b k at

pub get_with : (ls : List Loc) (loc b : Loc) (k : ℕ) → slice_get ls k ≡ Some b → slice_get (with_location loc ls) k ≡ Some b
get_with ls loc b k at = by (list_any (same_loc loc) ls)
  where
    by : (c : Bool) → slice_get (if c then ls else ls ++ loc ∷ []) k ≡ Some b
    by true = at
    by false = get_more ls loc b k at

-- the location that stands at a number has that number
pub get_same : (ls : List Loc) (k : ℕ) (b loc : Loc) → k < length ls → b ≡ get_or ls k b → same_loc b loc ≡ true → slice_get ls k ≡ Some loc
get_same ls k b loc h at same = slice_get_read ls (length ls) k b refl h at ∙ ap Some (same_is b loc same)

pub number_at : (loc : Loc) (ls : List Loc) (k : ℕ) → AreDistinct ls → slice_get ls k ≡ Some loc → k ≡ number_of loc ls
number_at loc ls k d at = number_is k (number_of loc ls) (place_tells loc ls k loc d at ∙ same_self loc)
  where
    number_is : (a b : ℕ) → (a == b) ≡ true → a ≡ b
    number_is a b e = grind (arith, nat_tests)

pub any_at : (loc : Loc) (ls : List Loc) (k : ℕ) → slice_get ls k ≡ Some loc → list_any (same_loc loc) ls ≡ true
any_at loc ls k at = by_bool (list_any (same_loc loc) ls ≡ true) (list_any (same_loc loc) ls) (λ h. h) (λ h. (let no : true ≡ false = sym (same_self loc) ∙ get_in loc loc ls k loc h at in cc))

-- one number is one location
pub numbers_tell : (ls : List Loc) (i j : ℕ) (a b : Loc) → AreDistinct ls → slice_get ls i ≡ Some a → slice_get ls j ≡ Some b → (i == j) ≡ same_loc a b
numbers_tell ls i j a b d at_i at_j =
    let own : (i == number_of a ls) ≡ true = place_tells a ls i a d at_i ∙ same_self a in
    swap i j (number_of a ls) own ∙ place_tells a ls j b d at_j
  where
    swap : (x y z : ℕ) → (x == z) ≡ true → (x == y) ≡ (y == z)
    swap x y z e = grind (arith, nat_tests)

-- the locations of a list of accesses

pub locations_push : (ls : List Loc) (xs : List Kept) (x : Kept) → locations_from ls (xs ++ x ∷ []) ≡ with_location x.loc (locations_from ls xs)
locations_push ls [] x = refl
locations_push ls (y ∷ ys) x = locations_push (with_location y.loc ls) ys x

distinct_from : (ls : List Loc) (xs : List Kept) → AreDistinct ls → AreDistinct (locations_from ls xs)
distinct_from ls [] d = d
distinct_from ls (x ∷ xs) d = distinct_from (with_location x.loc ls) xs (distinct_with x.loc ls d)

pub are_distinct : (kept : List Kept) → AreDistinct (locations_of kept)
are_distinct kept = distinct_from [] kept tt

pub is_there : (loc : Loc) (ls : List Loc) → list_any (same_loc loc) ls ≡ true → with_location loc ls ≡ ls
is_there loc ls e = ap (λ b. if b then ls else ls ++ loc ∷ []) e

pub is_new : (loc : Loc) (ls : List Loc) → list_any (same_loc loc) ls ≡ false → with_location loc ls ≡ ls ++ loc ∷ []
is_new loc ls e = ap (λ b. if b then ls else ls ++ loc ∷ []) e

or_true : (a b : Bool) → b ≡ true → (a || b) ≡ true
or_true true b e = refl
or_true false b e = e

any_more : (loc l : Loc) (ls : List Loc) → list_any (same_loc loc) ls ≡ true → list_any (same_loc loc) (ls ++ l ∷ []) ≡ true
any_more loc l [] e = let no : false ≡ true = e in cc
any_more loc l (m ∷ ls) e = by (same_loc loc m) (any_more loc l ls) e
  where
    by : (b : Bool) → (list_any (same_loc loc) ls ≡ true → list_any (same_loc loc) (ls ++ l ∷ []) ≡ true) → (b || list_any (same_loc loc) ls) ≡ true → (b || list_any (same_loc loc) (ls ++ l ∷ [])) ≡ true
    by true rest e = refl
    by false rest e = rest e

any_end : (loc : Loc) (ls : List Loc) → list_any (same_loc loc) (ls ++ loc ∷ []) ≡ true
any_end loc [] = ap (λ b. b || false) (same_self loc)
any_end loc (m ∷ ls) = or_true (same_loc loc m) (list_any (same_loc loc) (ls ++ loc ∷ [])) (any_end loc ls)

any_with : (loc l : Loc) (ls : List Loc) → list_any (same_loc loc) ls ≡ true → list_any (same_loc loc) (with_location l ls) ≡ true
any_with loc l ls e = by (list_any (same_loc l) ls)
  where
    by : (b : Bool) → list_any (same_loc loc) (if b then ls else ls ++ l ∷ []) ≡ true
    by true = e
    by false = any_more loc l ls e

own_with : (loc : Loc) (ls : List Loc) → list_any (same_loc loc) (with_location loc ls) ≡ true
own_with loc ls = by (list_any (same_loc loc) ls) refl
  where
    by : (b : Bool) → list_any (same_loc loc) ls ≡ b → list_any (same_loc loc) (if b then ls else ls ++ loc ∷ []) ≡ true
    by true e = e
    by false e = any_end loc ls

still_there : (loc : Loc) (ls : List Loc) (xs : List Kept) → list_any (same_loc loc) ls ≡ true → list_any (same_loc loc) (locations_from ls xs) ≡ true
still_there loc ls [] e = e
still_there loc ls (x ∷ xs) e = still_there loc (with_location x.loc ls) xs (any_with loc x.loc ls e)

-- the location of the access is one of these
abbrev pub IsKnown : List Loc → Kept → Type 0
IsKnown ls x = list_any (same_loc x.loc) ls ≡ true

known_from : (ls : List Loc) (xs : List Kept) → AllByRecursion (IsKnown (locations_from ls xs)) xs
known_from ls [] = tt
known_from ls (x ∷ xs) = (still_there x.loc (with_location x.loc ls) xs (own_with x.loc ls), known_from (with_location x.loc ls) xs)

pub are_known : (kept : List Kept) → AllByRecursion (IsKnown (locations_of kept)) kept
are_known kept = known_from [] kept

pub at_there : (ls : List Loc) (k : ℕ) → k < length ls → list_any (same_loc (location_at ls k)) ls ≡ true
at_there [] k h = absurd (omega (arith, h))
at_there (l ∷ ls) zero h = ap (λ b. b || list_any (same_loc l) ls) (same_self l)
at_there (l ∷ ls) (suc k) h = or_true (same_loc (location_at ls k) l) (list_any (same_loc (location_at ls k)) ls) (at_there ls k (omega (arith, h)))

get_within : (ls : List Loc) (k : ℕ) (b : Loc) → slice_get ls k ≡ Some b → k < length ls
get_within [] k b at = cc
get_within (l ∷ ls) zero b at = omega arith
get_within (l ∷ ls) (suc k) b at = omega (arith, get_within ls k b at)

pub number_within : (loc : Loc) (ls : List Loc) → list_any (same_loc loc) ls ≡ true → number_of loc ls < length ls
number_within loc ls e = get_within ls (number_of loc ls) loc (get_there loc ls e)

pub numbers_same : (a b : Loc) (ls : List Loc) → AreDistinct ls → list_any (same_loc a) ls ≡ true → list_any (same_loc b) ls ≡ true → (number_of a ls == number_of b ls) ≡ same_loc a b
numbers_same a b ls d in_a in_b = numbers_tell ls (number_of a ls) (number_of b ls) a b d (get_there a ls in_a) (get_there b ls in_b)

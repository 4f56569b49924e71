-- The kept accesses by the numbers of their locations.
use Rattle.std.proofs.Common.{◌≡◌, ℕ, zero, suc, ◌<◌, Bool, true, false, not, ◌&&◌, cond, List, [], ◌∷◌, ◌++◌, map, length, Some, refl, sym, ap, ◌∙◌, arith}
use Rattle.std.specs.Prelude.{◌==◌, ◌||◌, if◌then◌else◌, slice_get, filter}
use Rattle.std.specs.Bool.{Decides}
use Rattle.std.specs.List.{All, AllByRecursion, list_any}
use Rattle.std.proofs.lemmas.List.Elements.{All-from_recursion}
use Rattle.std.proofs.lemmas.Bool.Decides.{nat_tests, Decides-and, Decides-eqb}
use Rattle.std.proofs.lemmas.List.{length-map, map-append}
use Rattle.std.proofs.lemmas.Simd.{map-map}
use Rattle.er_trace.specs.declared.record.Loc.{Loc}
use Rattle.er_trace.specs.declared.record.Mode.{Mode}
use Rattle.er_trace.specs.declared.record.Mode.TheVariants.{R, W}
use Rattle.er_access.specs.declared.access.Access.{Access}
use Rattle.er_access.specs.Kept.{Kept, access_of, repeats, with_access, same_loc, same_mode, is_write, is_candidate, pairs_of, candidates_of}
use Rattle.er_access.specs.Numbers.{number_of, with_location, by_number, locations_of, accesses_of, access_at, IsKeptAt}
use Rattle.er_access.specs.ByNumber.{repeats_by_number, with_numbered, is_candidate_by_number, candidates_by_number}
use Rattle.er_access.specs.Table.{AreDistinct, location_at, kept_by}
use Rattle.er_access.proofs.LocationLemmas.{place_tells, number_stands, same_self, same_loc_decides, get_with, get_there, are_distinct, are_known, IsKnown, numbers_same, number_within}

-- the access is this one, its location in place of the number
abbrev pub IsLocated : List Loc → Access → Kept → Type 0
IsLocated ls x y = (x.line ≡ y.line) × (x.action ≡ y.action) × (x.mode ≡ y.mode) × (slice_get ls x.location ≡ Some y.loc)

abbrev pub AreLocated : List Loc → List Access → List Kept → Type 0
AreLocated ls [] [] = Unit {0}
AreLocated ls (x ∷ xs) (y ∷ ys) = IsLocated ls x y × AreLocated ls xs ys
AreLocated ls _ _ = ⊥

located_more : (loc : Loc) (ls : List Loc) (xs : List Access) (ys : List Kept) → AreLocated ls xs ys → AreLocated (with_location loc ls) xs ys
located_more loc ls [] [] are = tt
located_more loc ls [] (y ∷ ys) are = elim are [ ]
located_more loc ls (x ∷ xs) [] are = elim are [ ]
located_more loc ls (x ∷ xs) (y ∷ ys) are = ((are.0.0, are.0.1, are.0.2, get_with ls loc y.loc x.location are.0.3), located_more loc ls xs ys are.1)

located_push : (ls : List Loc) (xs : List Access) (ys : List Kept) (x : Access) (y : Kept) → AreLocated ls xs ys → IsLocated ls x y → AreLocated ls (xs ++ x ∷ []) (ys ++ y ∷ [])
located_push ls [] [] x y are is = (is, tt)
located_push ls [] (b ∷ ys) x y are is = elim are [ ]
located_push ls (a ∷ xs) [] x y are is = elim are [ ]
located_push ls (a ∷ xs) (b ∷ ys) x y are is = (are.0, located_push ls xs ys x y are.1 is)

pub repeat_located : (loc : Loc) (ls : List Loc) (xs : List Access) (ys : List Kept) (x : Access) (y : Kept) → AreDistinct ls → AreLocated ls xs ys → x.location ≡ number_of loc ls → y.loc ≡ loc → x.mode ≡ y.mode → x.action ≡ y.action
    → list_any (repeats_by_number x) xs ≡ list_any (repeats y) ys
repeat_located loc ls [] [] x y d are at of mode action = refl
repeat_located loc ls [] (b ∷ ys) x y d are at of mode action = elim are [ ]
repeat_located loc ls (a ∷ xs) [] x y d are at of mode action = elim are [ ]
repeat_located loc ls (a ∷ xs) (b ∷ ys) x y d are at of mode action =
    let tells : (a.location == x.location) ≡ same_loc y.loc b.loc = ap (λ n. a.location == n) at ∙ (place_tells loc ls a.location b.loc d are.0.3 ∙ ap (λ l. same_loc l b.loc) (sym of)) in
    let modes : same_mode x.mode a.mode ≡ same_mode y.mode b.mode = ap (λ m. same_mode m a.mode) mode ∙ ap (same_mode y.mode) are.0.2 in
    let actions : (a.action == x.action) ≡ (b.action == y.action) = ap (λ n. n == x.action) are.0.1 ∙ ap (λ n. b.action == n) action in
    ap (λ t. ((t && same_mode x.mode a.mode) && (a.action == x.action)) || list_any (repeats_by_number x) xs) tells
    ∙ (ap (λ t. ((same_loc y.loc b.loc && t) && (a.action == x.action)) || list_any (repeats_by_number x) xs) modes
    ∙ (ap (λ t. ((same_loc y.loc b.loc && same_mode y.mode b.mode) && t) || list_any (repeats_by_number x) xs) actions
    ∙ ap (λ t. repeats y b || t) (repeat_located loc ls xs ys x y d are.1 at of mode action)))

-- one access more
pub located_with : (ls : List Loc) (xs : List Access) (kept : List Kept) (line action : ℕ) (mode : Mode) (loc : Loc) → AreDistinct ls → AreLocated ls xs kept
    → AreLocated (with_location loc ls) (with_numbered (record { line = line; action = action; mode = mode; location = number_of loc ls }) xs) (with_access (record { line = line; action = action; mode = mode; loc = loc }) kept)
located_with ls xs kept line action mode loc d are =
    let x : Access = record { line = line; action = action; mode = mode; location = number_of loc ls } in
    let y : Kept = record { line = line; action = action; mode = mode; loc = loc } in
    by x y (list_any (repeats_by_number x) xs) (list_any (repeats y) kept) (repeat_located loc ls xs kept x y d are refl refl refl refl) (refl, refl, refl, number_stands loc ls)
  where
    by : (x : Access) (y : Kept) (b c : Bool) → b ≡ c → IsLocated (with_location loc ls) x y → AreLocated (with_location loc ls) (if b then xs else xs ++ x ∷ []) (if c then kept else kept ++ y ∷ [])
    by x y true true e is = located_more loc ls xs kept are
    by x y false false e is = located_push (with_location loc ls) xs kept x y (located_more loc ls xs kept are) is
    by x y true false e is = let no : true ≡ false = e in cc
    by x y false true e is = let no : false ≡ true = e in cc

-- what is seen of accesses by number

get_at : (ls : List Loc) (k : ℕ) → k < length ls → slice_get ls k ≡ Some (location_at ls k)
get_at [] k h = absurd (omega (arith, h))
get_at (l ∷ ls) zero h = refl
get_at (l ∷ ls) (suc k) h = get_at ls k (omega (arith, h))

at_get : (ls : List Loc) (k : ℕ) (b : Loc) → slice_get ls k ≡ Some b → location_at ls k ≡ b
at_get [] k b at = cc
at_get (l ∷ ls) zero b at = cc
at_get (l ∷ ls) (suc k) b at = at_get ls k b at

pub located_by : (ls : List Loc) (xs : List Access) → AllByRecursion (λ (x : Access). x.location < length ls) xs → AreLocated ls xs (kept_by ls xs)
located_by ls [] known = tt
located_by ls (x ∷ xs) known = ((refl, refl, refl, get_at ls x.location known.0), located_by ls xs known.1)

pub by_located : (ls : List Loc) (xs : List Access) (ys : List Kept) → AreLocated ls xs ys → kept_by ls xs ≡ ys
by_located ls [] [] are = refl
by_located ls [] (y ∷ ys) are = elim are [ ]
by_located ls (x ∷ xs) [] are = elim are [ ]
by_located ls (x ∷ xs) (y ∷ ys) are =
    ap (λ n. access_of n x.action x.mode (location_at ls x.location) ∷ kept_by ls xs) are.0.0
    ∙ (ap (λ n. access_of y.line n x.mode (location_at ls x.location) ∷ kept_by ls xs) are.0.1
    ∙ (ap (λ m. access_of y.line y.action m (location_at ls x.location) ∷ kept_by ls xs) are.0.2
    ∙ (ap (λ l. access_of y.line y.action y.mode l ∷ kept_by ls xs) (at_get ls x.location y.loc are.0.3)
    ∙ ap (λ l. y ∷ l) (by_located ls xs ys are.1))))

own_number : (ls : List Loc) (k : ℕ) → AreDistinct ls → k < length ls → number_of (location_at ls k) ls ≡ k
own_number ls k d h = number_is k (number_of (location_at ls k) ls) (place_tells (location_at ls k) ls k (location_at ls k) d (get_at ls k h) ∙ same_self (location_at ls k))
  where
    number_is : (a b : ℕ) → (a == b) ≡ true → b ≡ a
    number_is a b e = grind (arith, nat_tests)

numbers_by : (ls : List Loc) (xs : List Access) → AreDistinct ls → AllByRecursion (λ (x : Access). x.location < length ls) xs → map (by_number ls) (kept_by ls xs) ≡ xs
numbers_by ls [] d known = refl
numbers_by ls (x ∷ xs) d known =
    let with_number : ℕ → List Access = λ n. record { line = x.line; action = x.action; mode = x.mode; location = n } ∷ map (by_number ls) (kept_by ls xs) in
    ap with_number (own_number ls x.location d known.0) ∙ ap (λ l. x ∷ l) (numbers_by ls xs d known.1)

-- the accesses of what is seen are the accesses
pub accesses_are : (ls : List Loc) (xs : List Access) → AreDistinct ls → AllByRecursion (λ (x : Access). x.location < length ls) xs → locations_of (kept_by ls xs) ≡ ls → accesses_of (kept_by ls xs) ≡ xs
accesses_are ls xs d known first = ap (λ l. map (by_number l) (kept_by ls xs)) first ∙ numbers_by ls xs d known

-- the access of a number

at_number : (ls : List Loc) (ys : List Kept) (n : ℕ) → AllByRecursion (IsKnown ls) ys → n < length ys
    → (loc : Loc) → slice_get ls (access_at (map (by_number ls) ys) n).location ≡ Some loc
    → slice_get ys n ≡ Some (access_of (access_at (map (by_number ls) ys) n).line (access_at (map (by_number ls) ys) n).action (access_at (map (by_number ls) ys) n).mode loc)
at_number ls [] n known h loc at = absurd (omega (arith, h))
at_number ls (y ∷ ys) zero known h loc at =
    let there = get_there y.loc ls known.0 in
    let same : y.loc ≡ loc = cc in
    ap (λ l. Some (access_of y.line y.action y.mode l)) same
at_number ls (y ∷ ys) (suc n) known h loc at = at_number ls ys n known.1 (omega (arith, h)) loc at

known_at : (ls : List Loc) (ys : List Kept) (n : ℕ) → AllByRecursion (IsKnown ls) ys → n < length ys → (access_at (map (by_number ls) ys) n).location < length ls
known_at ls [] n known h = absurd (omega (arith, h))
known_at ls (y ∷ ys) zero known h = number_within y.loc ls known.0
known_at ls (y ∷ ys) (suc n) known h = known_at ls ys n known.1 (omega (arith, h))

pub kept_at_number : (kept : List Kept) (n : ℕ) → n < length kept → IsKeptAt kept n (access_at (accesses_of kept) n)
kept_at_number kept n h = at_number (locations_of kept) kept n (are_known kept) h

pub number_known : (kept : List Kept) (n : ℕ) → n < length kept → (access_at (accesses_of kept) n).location < length (locations_of kept)
number_known kept n h = known_at (locations_of kept) kept n (are_known kept) h

pub known_all : (ls : List Loc) (ys : List Kept) → AllByRecursion (IsKnown ls) ys → AllByRecursion (λ (x : Access). x.location < length ls) (map (by_number ls) ys)
known_all ls [] known = tt
known_all ls (y ∷ ys) known = (number_within y.loc ls known.0, known_all ls ys known.1)

pub numbers_known : (kept : List Kept) → All (λ (x : Access). x.location < length (locations_of kept)) (accesses_of kept)
numbers_known kept = All-from_recursion (λ (x : Access). x.location < length (locations_of kept)) (accesses_of kept) (known_all (locations_of kept) kept (are_known kept))

-- tests by number are tests by location

pub candidates_alike : (ls : List Loc) (a b : Kept) → AreDistinct ls → IsKnown ls a → IsKnown ls b → is_candidate_by_number (by_number ls a) (by_number ls b) ≡ is_candidate a b
candidates_alike ls a b d in_a in_b = ap (λ t. t && (not (a.action == b.action) && (is_write a.mode || is_write b.mode))) (numbers_same a.loc b.loc ls d in_a in_b)

all_map : {X Y : Type 0} (P : Y → Type 0) (f : X → Y) (xs : List X) → AllByRecursion (λ x. P (f x)) xs → AllByRecursion P (map f xs)
all_map P f [] all = tt
all_map P f (x ∷ xs) all = (all.0, all_map P f xs all.1)

all_append : {X : Type 0} (P : X → Type 0) (xs ys : List X) → AllByRecursion P xs → AllByRecursion P ys → AllByRecursion P (xs ++ ys)
all_append P [] ys a b = b
all_append P (x ∷ xs) ys a b = (a.0, all_append P xs ys a.1 b)

-- two members of a list that all have it
pub pairs_all : {X : Type 0} (P : X → Type 0) (Q : X × X → Type 0) (xs : List X) → ((x y : X) → P x → P y → Q (x, y)) → AllByRecursion P xs → AllByRecursion Q (pairs_of xs)
pairs_all P Q [] h all = tt
pairs_all {X = X} P Q (x ∷ xs) h all = all_append Q (map (λ y. (x, y)) xs) (pairs_of xs) (all_map Q (λ y. (x, y)) xs (firsts xs all.1)) (pairs_all P Q xs h all.1)
  where
    firsts : (ys : List X) → AllByRecursion P ys → AllByRecursion (λ y. Q (x, y)) ys
    firsts [] ys_all = tt
    firsts (y ∷ ys) ys_all = (h x y all.0 ys_all.0, firsts ys ys_all.1)

pub pairs_map : {X Y : Type 0} (f : X → Y) (xs : List X) → pairs_of (map f xs) ≡ map (λ (p : X × X). (f p.0, f p.1)) (pairs_of xs)
pairs_map f [] = refl
pairs_map {X = X} f (x ∷ xs) =
    ap (λ l. l ++ pairs_of (map f xs)) (map-map (λ b. (f x, b)) f xs ∙ sym (map-map (λ (p : X × X). (f p.0, f p.1)) (λ b. (x, b)) xs))
    ∙ (ap (λ l. map (λ (p : X × X). (f p.0, f p.1)) (map (λ b. (x, b)) xs) ++ l) (pairs_map f xs)
    ∙ sym (map-append (λ (p : X × X). (f p.0, f p.1)) (map (λ b. (x, b)) xs) (pairs_of xs)))

pub filter_map : {X Y : Type 0} (p : Y → Bool) (f : X → Y) (xs : List X) → filter p (map f xs) ≡ map f (filter (λ x. p (f x)) xs)
filter_map p f [] = refl
filter_map {X = X} {Y = Y} p f (x ∷ xs) = step (p (f x)) x (filter p (map f xs)) (filter (λ y. p (f y)) xs) (filter_map p f xs)
  where
    step : (b : Bool) (x : X) (l : List Y) (m : List X) → l ≡ map f m → cond b (f x ∷ l) l ≡ map f (cond b (x ∷ m) m)
    step true x l m e = ap (λ t. f x ∷ t) e
    step false x l m e = e

pub filter_same : {X : Type 0} (p q : X → Bool) (xs : List X) → AllByRecursion (λ x. p x ≡ q x) xs → filter p xs ≡ filter q xs
filter_same p q [] all = refl
filter_same p q (x ∷ xs) all = ap (λ b. cond b (x ∷ filter p xs) (filter p xs)) all.0 ∙ ap (λ l. cond (q x) (x ∷ l) l) (filter_same p q xs all.1)

pub candidate_count : (kept : List Kept) → length (candidates_by_number (accesses_of kept)) ≡ length (candidates_of kept)
candidate_count kept =
    let ls = locations_of kept in
    let f : Kept → Access = by_number ls in
    let F : Kept × Kept → Access × Access = λ p. (f p.0, f p.1) in
    let T : Access × Access → Bool = λ p. is_candidate_by_number p.0 p.1 in
    let U : Kept × Kept → Bool = λ p. is_candidate p.0 p.1 in
    ap (λ l. length (filter T l)) (pairs_map f kept)
    ∙ (ap length (filter_map T F (pairs_of kept))
    ∙ (length-map (filter (λ p. T (F p)) (pairs_of kept)) F
    ∙ ap length (filter_same (λ p. T (F p)) U (pairs_of kept) (pairs_all (IsKnown ls) (λ p. T (F p) ≡ U p) kept (λ a b in_a in_b. candidates_alike ls a b (are_distinct kept) in_a in_b) (are_known kept)))))

-- a repeat is of the same location, mode and action

same_mode_decides : (m n : Mode) → Decides (same_mode m n) (m ≡ n)
same_mode_decides R R = ((λ h. refl), (λ h. refl))
same_mode_decides R W = ((λ h. cc), (λ h. cc))
same_mode_decides W R = ((λ h. cc), (λ h. cc))
same_mode_decides W W = ((λ h. refl), (λ h. refl))

pub repeats_decides : (x y : Kept) → Decides (repeats x y) (((x.loc ≡ y.loc) × (x.mode ≡ y.mode)) × (y.action ≡ x.action))
repeats_decides x y = Decides-and (same_loc x.loc y.loc && same_mode x.mode y.mode) (y.action == x.action) (Decides-and (same_loc x.loc y.loc) (same_mode x.mode y.mode) (same_loc_decides x.loc y.loc) (same_mode_decides x.mode y.mode)) (Decides-eqb y.action x.action)

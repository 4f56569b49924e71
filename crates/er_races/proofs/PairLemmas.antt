-- Pairs of numbers, listed by their first.
use Rattle.std.proofs.Common.{◌≡◌, ℕ, zero, suc, ◌+◌, ◌<◌, ◌≤◌, Bool, true, false, ◌&&◌, cond, List, [], ◌∷◌, ◌++◌, map, length, refl, sym, ap, ◌∙◌, arith, subst}
use Rattle.std.specs.Prelude.{nat_lt, ◌==◌, ◌||◌}
use Rattle.std.specs.List.{AllByRecursion, filter, range_with_len}
use Rattle.std.specs.List.Sorted.{IsPermutation}
use Rattle.std.proofs.lemmas.Bool.Decides.{nat_tests}
use Rattle.std.proofs.lemmas.List.{map-append, length-map}
use Rattle.std.proofs.lemmas.Simd.{map-map}
use Rattle.std.proofs.lemmas.List.Elements.{filter-append}
use Rattle.std.proofs.lemmas.List.Sorted.{IsPermutation-refl, IsPermutation-cons, IsPermutation-middle, IsPermutation-trans}
use Rattle.er_access.specs.declared.access.Access.{Access}
use Rattle.er_access.specs.Kept.{pairs_of}
use Rattle.er_access.specs.Numbers.{numbered, numbered_from, access_at}
use Rattle.er_access.proofs.LocatedLemmas.{filter_map, filter_same, pairs_map}
use Rattle.er_races.specs.declared.race.Race.{Race}
use Rattle.er_races.specs.Races.{passing}
use Rattle.er_races.specs.Pairs.{with_each, each, passes, all_pairs}
use Rattle.er_races.proofs.Order.{IsUp}

abbrev pub IsRising : List ℕ → Type 0
IsRising [] = Unit {0}
IsRising (x ∷ xs) = AllByRecursion (λ y. x < y) xs × IsRising xs

-- filters

pub filter_within : {X : Type 0} (p q : X → Bool) (xs : List X) → ((x : X) → p x ≡ true → q x ≡ true) → filter p (filter q xs) ≡ filter p xs
filter_within p q [] h = refl
filter_within p q (x ∷ xs) h = step (q x) (p x) refl (h x) (filter_within p q xs h)
  where
    step : (b c : Bool) → p x ≡ c → (c ≡ true → b ≡ true) → filter p (filter q xs) ≡ filter p xs → filter p (cond b (x ∷ filter q xs) (filter q xs)) ≡ cond c (x ∷ filter p xs) (filter p xs)
    step true c e g rest = ap (λ a. cond a (x ∷ filter p (filter q xs)) (filter p (filter q xs))) e ∙ ap (λ l. cond c (x ∷ l) l) rest
    step false true e g rest = let no : false ≡ true = g refl in cc
    step false false e g rest = rest

pub filter_all : {X : Type 0} (p : X → Bool) (xs : List X) → AllByRecursion (λ x. p x ≡ true) xs → filter p xs ≡ xs
filter_all p [] all = refl
filter_all p (x ∷ xs) all = ap (λ b. cond b (x ∷ filter p xs) (filter p xs)) all.0 ∙ ap (λ l. x ∷ l) (filter_all p xs all.1)

pub filter_none : {X : Type 0} (p : X → Bool) (xs : List X) → AllByRecursion (λ x. p x ≡ false) xs → filter p xs ≡ []
filter_none p [] all = refl
filter_none p (x ∷ xs) all = ap (λ b. cond b (x ∷ filter p xs) (filter p xs)) all.0 ∙ filter_none p xs all.1

pub all_of : {X : Type 0} (P : X → Type 0) (xs : List X) → ((x : X) → P x) → AllByRecursion P xs
all_of P [] h = tt
all_of P (x ∷ xs) h = (h x, all_of P xs h)

pub all_more : {X : Type 0} (P Q : X → Type 0) (xs : List X) → ((x : X) → P x → Q x) → AllByRecursion P xs → AllByRecursion Q xs
all_more P Q [] h all = tt
all_more P Q (x ∷ xs) h all = (h x all.0, all_more P Q xs h all.1)

-- what passes the test q, and has P where it does
pub all_filtered : {X : Type 0} (P : X → Type 0) (q : X → Bool) (xs : List X) → ((x : X) → q x ≡ true → P x) → AllByRecursion P (filter q xs)
all_filtered P q [] h = tt
all_filtered {X = X} P q (x ∷ xs) h = step (q x) x (filter q xs) (h x) (all_filtered P q xs h)
  where
    step : (b : Bool) (y : X) (l : List X) → (b ≡ true → P y) → AllByRecursion P l → AllByRecursion P (cond b (y ∷ l) l)
    step true y l g all = (g refl, all)
    step false y l g all = all

pub all_kept : {X : Type 0} (P : X → Type 0) (q : X → Bool) (xs : List X) → AllByRecursion P xs → AllByRecursion P (filter q xs)
all_kept P q [] all = tt
all_kept {X = X} P q (x ∷ xs) all = step (q x) x (filter q xs) all.0 (all_kept P q xs all.1)
  where
    step : (b : Bool) (y : X) (l : List X) → P y → AllByRecursion P l → AllByRecursion P (cond b (y ∷ l) l)
    step true y l g all = (g, all)
    step false y l g all = all

pub all_mapped : {X Y : Type 0} (P : Y → Type 0) (f : X → Y) (xs : List X) → AllByRecursion (λ x. P (f x)) xs → AllByRecursion P (map f xs)
all_mapped P f [] all = tt
all_mapped P f (x ∷ xs) all = (all.0, all_mapped P f xs all.1)

pub all_append : {X : Type 0} (P : X → Type 0) (xs ys : List X) → AllByRecursion P xs → AllByRecursion P ys → AllByRecursion P (xs ++ ys)
all_append P [] ys a b = b
all_append P (x ∷ xs) ys a b = (a.0, all_append P xs ys a.1 b)

-- ranges

pub range_above : (a b n : ℕ) → a < b → AllByRecursion (λ y. a < y) (range_with_len b n)
range_above a b zero h = tt
range_above a b (suc n) h = (h, range_above a (b + 1) n (omega (arith, h)))

pub range_rises : (a n : ℕ) → IsRising (range_with_len a n)
range_rises a zero = tt
range_rises a (suc n) = (range_above a (a + 1) n (omega arith), range_rises (a + 1) n)

pub range_below : (a n m : ℕ) → a + n ≤ m → AllByRecursion (λ y. y < m) (range_with_len a n)
range_below a zero m h = tt
range_below a (suc n) m h = (omega (arith, h), range_below (a + 1) n m (omega (arith, h)))

pub rising_kept : (p : ℕ → Bool) (xs : List ℕ) → IsRising xs → IsRising (filter p xs)
rising_kept p [] up = tt
rising_kept p (x ∷ xs) up = step (p x) x (filter p xs) (all_kept (λ y. x < y) p xs up.0) (rising_kept p xs up.1)
  where
    step : (b : Bool) (y : ℕ) (l : List ℕ) → AllByRecursion (λ z. y < z) l → IsRising l → IsRising (cond b (y ∷ l) l)
    step true y l all up = (all, up)
    step false y l all up = up

-- pairs by their first

pub each_same : (f g : ℕ → List ℕ) (is : List ℕ) → AllByRecursion (λ i. f i ≡ g i) is → each f is ≡ each g is
each_same f g [] all = refl
each_same f g (i ∷ is) all = ap (λ l. with_each i l ++ each f is) all.0 ∙ ap (λ l. with_each i (g i) ++ l) (each_same f g is all.1)

pub each_kept : (f : ℕ → List ℕ) (q : ℕ → Bool) (is : List ℕ) → each f (filter q is) ≡ filter (λ (r : Race). q r.first) (each f is)
each_kept f q [] = refl
each_kept f q (i ∷ is) =
    by (q i) refl (each_kept f q is) ∙ sym (filter-append (λ (r : Race). q r.first) (with_each i (f i)) (each f is))
  where
    by : (b : Bool) → q i ≡ b → each f (filter q is) ≡ filter (λ (r : Race). q r.first) (each f is)
        → each f (cond b (i ∷ filter q is) (filter q is)) ≡ filter (λ (r : Race). q r.first) (with_each i (f i)) ++ filter (λ (r : Race). q r.first) (each f is)
    by true e rest = ap (λ l. with_each i (f i) ++ l) rest ∙ ap (λ l. l ++ filter (λ (r : Race). q r.first) (each f is)) (sym (filter_all (λ (r : Race). q r.first) (with_each i (f i)) (all_mapped (λ (r : Race). q r.first ≡ true) (λ j. record { first = i; second = j }) (f i) (all_of (λ j. q i ≡ true) (f i) (λ j. e)))))
    by false e rest = rest ∙ ap (λ l. l ++ filter (λ (r : Race). q r.first) (each f is)) (sym (filter_none (λ (r : Race). q r.first) (with_each i (f i)) (all_mapped (λ (r : Race). q r.first ≡ false) (λ j. record { first = i; second = j }) (f i) (all_of (λ j. q i ≡ false) (f i) (λ j. e)))))

pub all_each : (P : ℕ → Type 0) (f : ℕ → List ℕ) (is : List ℕ) → AllByRecursion P is → AllByRecursion (λ (r : Race). P r.first) (each f is)
all_each P f [] all = tt
all_each P f (i ∷ is) all = all_append (λ (r : Race). P r.first) (with_each i (f i)) (each f is) (all_mapped (λ (r : Race). P r.first) (λ j. record { first = i; second = j }) (f i) (all_of (λ j. P i) (f i) (λ j. all.0))) (all_each P f is all.1)

-- pairs of an earlier and a later member of a rising list

abbrev as_race : ℕ × ℕ → Race
as_race p = record { first = p.0; second = p.1 }

pub pairs_rising : (t : ℕ → ℕ → Bool) (xs : List ℕ) → IsRising xs → map as_race (filter (λ p. t p.0 p.1) (pairs_of xs)) ≡ each (λ i. filter (λ j. nat_lt i j && t i j) xs) xs
pairs_rising t [] up = refl
pairs_rising t (x ∷ xs) up =
    ap (map as_race) (filter-append (λ p. t p.0 p.1) (map (λ b. (x, b)) xs) (pairs_of xs))
    ∙ (map-append as_race (filter (λ p. t p.0 p.1) (map (λ b. (x, b)) xs)) (filter (λ p. t p.0 p.1) (pairs_of xs))
    ∙ (ap (λ l. l ++ map as_race (filter (λ p. t p.0 p.1) (pairs_of xs))) head
    ∙ ap (λ l. with_each x (filter (λ j. nat_lt x j && t x j) (x ∷ xs)) ++ l) (pairs_rising t xs up.1 ∙ sym tail)))
  where
    not_self : (n : ℕ) → nat_lt n n ≡ false
    not_self n = grind (arith, nat_tests)

    not_less : (m n : ℕ) → m < n → nat_lt n m ≡ false
    not_less m n h = grind (arith, nat_tests)

    is_less : (m n : ℕ) → m < n → nat_lt m n ≡ true
    is_less m n h = grind (arith, nat_tests)

    drop_first : (i y : ℕ) (ys : List ℕ) → nat_lt i y ≡ false → filter (λ j. nat_lt i j && t i j) (y ∷ ys) ≡ filter (λ j. nat_lt i j && t i j) ys
    drop_first i y ys e = ap (λ b. cond (b && t i y) (y ∷ filter (λ j. nat_lt i j && t i j) ys) (filter (λ j. nat_lt i j && t i j) ys)) e

    head : map as_race (filter (λ p. t p.0 p.1) (map (λ b. (x, b)) xs)) ≡ with_each x (filter (λ j. nat_lt x j && t x j) (x ∷ xs))
    head =
        ap (map as_race) (filter_map (λ p. t p.0 p.1) (λ b. (x, b)) xs)
        ∙ (map-map as_race (λ b. (x, b)) (filter (t x) xs)
        ∙ ap (with_each x) (filter_same (t x) (λ j. nat_lt x j && t x j) xs (all_more (λ y. x < y) (λ j. t x j ≡ (nat_lt x j && t x j)) xs (λ y h. ap (λ b. b && t x y) (sym (is_less x y h))) up.0) ∙ sym (drop_first x x xs (not_self x))))

    tail : each (λ i. filter (λ j. nat_lt i j && t i j) (x ∷ xs)) xs ≡ each (λ i. filter (λ j. nat_lt i j && t i j) xs) xs
    tail = each_same (λ i. filter (λ j. nat_lt i j && t i j) (x ∷ xs)) (λ i. filter (λ j. nat_lt i j && t i j) xs) xs (all_more (λ y. x < y) (λ i. filter (λ j. nat_lt i j && t i j) (x ∷ xs) ≡ filter (λ j. nat_lt i j && t i j) xs) xs (λ y h. drop_first y x xs (not_less x y h)) up.0)

-- the numbered accesses

numbered_map : (at : ℕ → Access) (n : ℕ) (xs : List Access) → ((j : ℕ) → j < length xs → at (n + j) ≡ access_at xs j) → numbered_from n xs ≡ map (λ i. (i, at i)) (range_with_len n (length xs))
numbered_map at n [] h = refl
numbered_map at n (x ∷ xs) h =
    ap (λ a. (n, a) ∷ numbered_from (n + 1) xs) (sym (h 0 (omega arith)) ∙ (let e : n + 0 ≡ n = omega arith in ap at e))
    ∙ ap (λ l. (n, at n) ∷ l) (numbered_map at (n + 1) xs (λ j within. let e : n + 1 + j ≡ n + suc j = omega arith in ap at e ∙ h (suc j) (omega (arith, within))))

pub numbered_is : (accesses : List Access) → numbered accesses ≡ map (λ i. (i, access_at accesses i)) (range_with_len 0 (length accesses))
numbered_is accesses = numbered_map (access_at accesses) 0 accesses (λ j within. let e : 0 + j ≡ j = omega arith in ap (access_at accesses) e)

pub passing_is : (test : Access → Access → Bool) (accesses : List Access) → passing test accesses ≡ all_pairs (passes test accesses) (length accesses)
passing_is test accesses =
    ap (λ l. map (λ (p : (ℕ × Access) × (ℕ × Access)). record { first = p.0.0; second = p.1.0 }) (filter (λ (p : (ℕ × Access) × (ℕ × Access)). test p.0.1 p.1.1) l)) (ap pairs_of (numbered_is accesses) ∙ pairs_map f nums)
    ∙ (ap (map (λ (p : (ℕ × Access) × (ℕ × Access)). record { first = p.0.0; second = p.1.0 })) (filter_map (λ (p : (ℕ × Access) × (ℕ × Access)). test p.0.1 p.1.1) F (pairs_of nums))
    ∙ (map-map (λ (p : (ℕ × Access) × (ℕ × Access)). record { first = p.0.0; second = p.1.0 }) F (filter (λ (p : ℕ × ℕ). test (access_at accesses p.0) (access_at accesses p.1)) (pairs_of nums))
    ∙ pairs_rising (λ i j. test (access_at accesses i) (access_at accesses j)) nums (range_rises 0 (length accesses))))
  where
    nums : List ℕ
    nums = range_with_len 0 (length accesses)

    f : ℕ → ℕ × Access
    f i = (i, access_at accesses i)

    F : ℕ × ℕ → (ℕ × Access) × (ℕ × Access)
    F p = (f p.0, f p.1)

-- how many pass

numbered_members : {X : Type 0} (n : ℕ) (xs : List X) → map (λ (p : ℕ × X). p.1) (numbered_from n xs) ≡ xs
numbered_members n [] = refl
numbered_members n (x ∷ xs) = ap (λ l. x ∷ l) (numbered_members (n + 1) xs)

pub passing_members : {X : Type 0} (test : X → X → Bool) (xs : List X)
    → filter (λ p. test p.0 p.1) (pairs_of xs) ≡ map (λ (p : (ℕ × X) × (ℕ × X)). (p.0.1, p.1.1)) (filter (λ (p : (ℕ × X) × (ℕ × X)). test p.0.1 p.1.1) (pairs_of (numbered xs)))
passing_members {X = X} test xs =
    ap (λ l. filter (λ (p : X × X). test p.0 p.1) l) (ap pairs_of (sym (numbered_members 0 xs)) ∙ pairs_map (λ (p : ℕ × X). p.1) (numbered xs))
    ∙ filter_map (λ (p : X × X). test p.0 p.1) (λ (p : (ℕ × X) × (ℕ × X)). (p.0.1, p.1.1)) (pairs_of (numbered xs))

pub passing_count : (test : Access → Access → Bool) (accesses : List Access) → length (filter (λ p. test p.0 p.1) (pairs_of accesses)) ≡ length (all_pairs (passes test accesses) (length accesses))
passing_count test accesses =
    ap length (passing_members test accesses)
    ∙ (length-map found (λ (p : (ℕ × Access) × (ℕ × Access)). (p.0.1, p.1.1))
    ∙ (sym (length-map found (λ (p : (ℕ × Access) × (ℕ × Access)). record { first = p.0.0; second = p.1.0 }))
    ∙ ap length (passing_is test accesses)))
  where
    found : List ((ℕ × Access) × (ℕ × Access))
    found = filter (λ (p : (ℕ × Access) × (ℕ × Access)). test p.0.1 p.1.1) (pairs_of (numbered accesses))

-- one number more

put_one : {X : Type 0} (x : X) (us vs ws : List X) (b c d : Bool) → d ≡ (b || c) → (b && c) ≡ false → IsPermutation (us ++ vs) ws → IsPermutation (cond b (x ∷ us) us ++ cond c (x ∷ vs) vs) (cond d (x ∷ ws) ws)
put_one x us vs ws true true d e f same = let no : true ≡ false = f in cc
put_one x us vs ws true false true e f same = IsPermutation-cons x (us ++ vs) ws same
put_one x us vs ws true false false e f same = let no : false ≡ true = e in cc
put_one x us vs ws false true true e f same = IsPermutation-trans (us ++ x ∷ vs) (x ∷ (us ++ vs)) (x ∷ ws) (IsPermutation-middle us x vs) (IsPermutation-cons x (us ++ vs) ws same)
put_one x us vs ws false true false e f same = let no : false ≡ true = e in cc
put_one x us vs ws false false true e f same = let no : true ≡ false = e in cc
put_one x us vs ws false false false e f same = same

-- what passes one of two tests, of which none passes both
pub two_parts : {X : Type 0} (a b c : X → Bool) (xs : List X) → ((x : X) → c x ≡ (a x || b x)) → ((x : X) → (a x && b x) ≡ false) → IsPermutation (filter a xs ++ filter b xs) (filter c xs)
two_parts a b c [] either not_both = IsPermutation-refl []
two_parts a b c (x ∷ xs) either not_both = put_one x (filter a xs) (filter b xs) (filter c xs) (a x) (b x) (c x) (either x) (not_both x) (two_parts a b c xs either not_both)

and_false : (b : Bool) → (b && false) ≡ false
and_false true = refl
and_false false = refl

one_later : (a k : ℕ) → nat_lt a (k + 1) ≡ (nat_lt a k || (a == k))
one_later a k = grind (arith, nat_tests)

not_later : (a k : ℕ) → (nat_lt a k && (a == k)) ≡ false
not_later a k = grind (arith, nat_tests)

is_equal : (a k : ℕ) → (a == k) ≡ true → a ≡ k
is_equal a k e = grind (arith, nat_tests)

-- one location more, where it is asked for
pub one_more : {X : Type 0} (at : X → ℕ) (own : ℕ → Bool) (k : ℕ) (xs : List X)
    → IsPermutation (filter (λ x. nat_lt (at x) k && own (at x)) xs ++ cond (own k) (filter (λ x. at x == k) xs) []) (filter (λ x. nat_lt (at x) (k + 1) && own (at x)) xs)
one_more {X = X} at own k xs = by (own k) refl
  where
    P : List X → Type 0
    P l = IsPermutation l (filter (λ x. nat_lt (at x) (k + 1) && own (at x)) xs)

    either : own k ≡ true → (a : ℕ) → (nat_lt a (k + 1) && own a) ≡ ((nat_lt a k && own a) || (a == k))
    either e a = same (nat_lt a k) (a == k) (nat_lt a (k + 1)) (own a) (one_later a k) (λ at_k. ap own (is_equal a k at_k) ∙ e)
      where
        same : (l m n o : Bool) → n ≡ (l || m) → (m ≡ true → o ≡ true) → (n && o) ≡ ((l && o) || m)
        same l true n o e f = let g = f refl in grind arith
        same l false n o e f = grind arith

    not_both : (a : ℕ) → ((nat_lt a k && own a) && (a == k)) ≡ false
    not_both a = apart (nat_lt a k) (own a) (a == k) (not_later a k)
      where
        apart : (l o m : Bool) → (l && m) ≡ false → ((l && o) && m) ≡ false
        apart l o m e = grind arith

    fewer : own k ≡ false → (a : ℕ) → (nat_lt a (k + 1) && own a) ≡ ((nat_lt a k && own a) || false)
    fewer e a = same (nat_lt a k) (a == k) (nat_lt a (k + 1)) (own a) (one_later a k) (λ at_k. ap own (is_equal a k at_k) ∙ e)
      where
        same : (l m n o : Bool) → n ≡ (l || m) → (m ≡ true → o ≡ false) → (n && o) ≡ ((l && o) || false)
        same l true n o e f = let g = f refl in grind arith
        same l false n o e f = grind arith

    none : filter (λ (x : X). false) xs ≡ []
    none = filter_none (λ (x : X). false) xs (all_of (λ (x : X). false ≡ false) xs (λ x. refl))

    by : (b : Bool) → own k ≡ b → IsPermutation (filter (λ x. nat_lt (at x) k && own (at x)) xs ++ cond b (filter (λ x. at x == k) xs) []) (filter (λ x. nat_lt (at x) (k + 1) && own (at x)) xs)
    by true e = two_parts (λ x. nat_lt (at x) k && own (at x)) (λ x. at x == k) (λ x. nat_lt (at x) (k + 1) && own (at x)) xs (λ x. either e (at x)) (λ x. not_both (at x))
    by false e =
        subst P (ap (λ l. filter (λ x. nat_lt (at x) k && own (at x)) xs ++ l) none)
        (two_parts (λ x. nat_lt (at x) k && own (at x)) (λ (x : X). false) (λ x. nat_lt (at x) (k + 1) && own (at x)) xs (λ x. fewer e (at x)) (λ x. and_false (nat_lt (at x) k && own (at x))))

-- the pairs are in order

abbrev pub race_below : Race → Race → Bool
race_below x y = nat_lt x.first y.first || ((x.first == y.first) && nat_lt x.second y.second)

up_append : {X : Type 0} (lt : X → X → Bool) (xs ys : List X) → IsUp lt xs → IsUp lt ys → AllByRecursion (λ x. AllByRecursion (λ y. lt y x ≡ false) ys) xs → IsUp lt (xs ++ ys)
up_append lt [] ys up_x up_y far = up_y
up_append lt (x ∷ xs) ys up_x up_y far = (all_append (λ y. lt y x ≡ false) xs ys up_x.0 far.0, up_append lt xs ys up_x.1 up_y far.1)

up_with_each : (i : ℕ) (js : List ℕ) → IsRising js → IsUp race_below (with_each i js)
up_with_each i [] up = tt
up_with_each i (j ∷ js) up = (
  all_mapped (λ (y : Race). race_below y (record { first = i; second = j }) ≡ false) (λ m. record { first = i; second = m }) js (all_more (λ m. j < m) (λ m. race_below (record { first = i; second = m }) (record { first = i; second = j }) ≡ false) js (λ m h. not_below i m j h) up.0),
  up_with_each i js up.1,
)
  where
    not_below : (i m j : ℕ) → j < m → (nat_lt i i || ((i == i) && nat_lt m j)) ≡ false
    not_below i m j h = grind (arith, nat_tests)

up_each : (f : ℕ → List ℕ) → ((i : ℕ) → IsRising (f i)) → (is : List ℕ) → IsRising is → IsUp race_below (each f is)
up_each f rises [] up = tt
up_each f rises (i ∷ is) up =
    up_append race_below (with_each i (f i)) (each f is) (up_with_each i (f i) (rises i)) (up_each f rises is up.1)
    (all_mapped (λ (x : Race). AllByRecursion (λ y. race_below y x ≡ false) (each f is)) (λ j. record { first = i; second = j }) (f i)
    (all_of (λ j. AllByRecursion (λ y. race_below y (record { first = i; second = j }) ≡ false) (each f is)) (f i)
    (λ j. all_more (λ (r : Race). i < r.first) (λ y. race_below y (record { first = i; second = j }) ≡ false) (each f is) (λ r h. later r.first r.second i j h) (all_each (λ n. i < n) f is up.0))))
  where
    later : (a b i j : ℕ) → i < a → (nat_lt a i || ((a == i) && nat_lt b j)) ≡ false
    later a b i j h = grind (arith, nat_tests)

pub all_pairs_up : (t : ℕ → ℕ → Bool) (n : ℕ) → IsUp race_below (all_pairs t n)
all_pairs_up t n = up_each (λ i. filter (t i) (range_with_len 0 n)) (λ i. rising_kept (t i) (range_with_len 0 n) (range_rises 0 n)) (range_with_len 0 n) (range_rises 0 n)

-- One access more.
use Rattle.std.proofs.Common.{◌≡◌, ℕ, suc, ◌≢◌, ◌+◌, ◌-◌, ◌*◌, ◌<◌, ◌≤◌, ◌^◌, Bool, true, false, not, ◌&&◌, cond, List, [], ◌∷◌, ◌++◌, map, length, get_or, set, Some, None, Option, refl, sym, ap, ◌∙◌, arith, subst, inl, inr}
use Rattle.std.specs.Prelude.{◌==◌, ◌||◌, if◌then◌else◌}
use Rattle.std.specs.List.{All, AllByRecursion, filter, list_any, last_or}
use Rattle.std.proofs.lemmas.Bool.Decides.{nat_tests, eqb_tells}
use Rattle.std.proofs.lemmas.List.{map-append, length-append, length-map, length-set, get_or-set_same, get_or-set_other, get_or_append_left, append-nil}
use Rattle.std.proofs.lemmas.List.Elements.{filter-append, recursion_from_All}
use Rattle.er_trace.specs.declared.record.Mode.{Mode}
use Rattle.er_trace.specs.declared.record.Mode.TheVariants.{R, W}
use Rattle.er_access.specs.declared.access.Access.{Access}
use Rattle.er_access.specs.declared.place.Tally.{Tally}
use Rattle.er_access.specs.Kept.{is_write, same_mode, pairs_of, most_accesses}
use Rattle.er_access.specs.Numbers.{numbered_from, numbered, rows_of}
use Rattle.er_access.specs.ByNumber.{repeats_by_number, with_numbered, is_candidate_by_number, candidates_by_number}
use Rattle.er_access.specs.Place.{Seen, nothing, tally_of, is_last, others, counted, partners, noted, actions_at, tally, seen_at}
use Rattle.er_access.specs.Table.{AreInOrder, IsRising, IsHeld}

all_push : {X : Type 0} (P : X → Type 0) (xs : List X) (x : X) → AllByRecursion P xs → P x → AllByRecursion P (xs ++ x ∷ [])
all_push P [] x all h = (h, tt)
all_push P (y ∷ ys) x all h = (all.0, all_push P ys x all.1 h)

all_more : {X : Type 0} (P Q : X → Type 0) (xs : List X) → ((x : X) → P x → Q x) → AllByRecursion P xs → AllByRecursion Q xs
all_more P Q [] h all = tt
all_more P Q (x ∷ xs) h all = (h x all.0, all_more P Q xs h all.1)

filter_none : {X : Type 0} (p : X → Bool) (xs : List X) → AllByRecursion (λ x. p x ≡ false) xs → filter p xs ≡ []
filter_none p [] all = refl
filter_none p (x ∷ xs) all = ap (λ b. cond b (x ∷ filter p xs) (filter p xs)) all.0 ∙ filter_none p xs all.1

-- what is seen grows at one location

numbered_push : (n : ℕ) (xs : List Access) (x : Access) → numbered_from n (xs ++ x ∷ []) ≡ numbered_from n xs ++ (n + length xs, x) ∷ []
numbered_push n [] x = let e : n ≡ n + 0 = omega arith in ap (λ m. (m, x) ∷ []) e
numbered_push n (y ∷ ys) x = ap (λ l. (n, y) ∷ l) (numbered_push (n + 1) ys x ∙ (let e : n + 1 + length ys ≡ n + suc (length ys) = omega arith in ap (λ m. numbered_from (n + 1) ys ++ (m, x) ∷ []) e))

map_push : {X Y : Type 0} (p : X → Bool) (f : X → Y) (xs : List X) (x : X) → map f (filter p (xs ++ x ∷ [])) ≡ cond (p x) (map f (filter p xs) ++ f x ∷ []) (map f (filter p xs))
map_push {X = X} {Y = Y} p f xs x = ap (map f) (filter-append p xs (x ∷ [])) ∙ (map-append f (filter p xs) (filter p (x ∷ [])) ∙ by (p x) (map f (filter p xs)))
  where
    by : (b : Bool) (l : List Y) → l ++ map f (cond b (x ∷ []) []) ≡ cond b (l ++ f x ∷ []) l
    by true l = refl
    by false l = append-nil l

rows_push : (xs : List Access) (x : Access) (k : ℕ) → rows_of (xs ++ x ∷ []) k ≡ cond (x.location == k) (rows_of xs k ++ length xs ∷ []) (rows_of xs k)
rows_push xs x k =
    ap (λ l. map (λ (p : ℕ × Access). p.0) (filter (λ (p : ℕ × Access). p.1.location == k) l)) (numbered_push 0 xs x ∙ (let e : 0 + length xs ≡ length xs = omega arith in ap (λ m. numbered xs ++ (m, x) ∷ []) e))
    ∙ map_push (λ (p : ℕ × Access). p.1.location == k) (λ (p : ℕ × Access). p.0) (numbered xs) (length xs, x)

actions_push : (xs : List Access) (x : Access) (k : ℕ) (m : Mode) → actions_at (xs ++ x ∷ []) k m ≡ cond ((x.location == k) && same_mode m x.mode) (actions_at xs k m ++ x.action ∷ []) (actions_at xs k m)
actions_push xs x k m = map_push (λ (y : Access). (y.location == k) && same_mode m y.mode) (λ (y : Access). y.action) xs x

last_push : (o : Option ℕ) (l : List ℕ) (a : ℕ) → last_or o (l ++ a ∷ []) ≡ Some a
last_push o [] a = refl
last_push o (x ∷ l) a = last_push (Some x) l a

tally_push : (l : List ℕ) (a : ℕ) → tally (l ++ a ∷ []) ≡ counted (tally l) a
tally_push l a =
    let longer : length (l ++ a ∷ []) ≡ length l + 1 = omega (arith, length-append l (a ∷ [])) in
    let make : ℕ → Option ℕ → Tally = λ n o. record { count = n; last = o } in
    ap (λ n. make n (last_or None (l ++ a ∷ []))) longer ∙ ap (make (length l + 1)) (last_push None l a)

pub seen_push : (xs : List Access) (x : Access) (k : ℕ) → seen_at (xs ++ x ∷ []) k ≡ cond (x.location == k) (noted (seen_at xs k) (length xs) x.action x.mode) (seen_at xs k)
seen_push xs x k =
    ap (λ r. make r (actions_at (xs ++ x ∷ []) k R) (actions_at (xs ++ x ∷ []) k W)) (rows_push xs x k)
    ∙ (ap (λ l. make (cond (x.location == k) (rows_of xs k ++ length xs ∷ []) (rows_of xs k)) l (actions_at (xs ++ x ∷ []) k W)) (actions_push xs x k R)
    ∙ (ap (λ l. make (cond (x.location == k) (rows_of xs k ++ length xs ∷ []) (rows_of xs k)) (cond ((x.location == k) && same_mode R x.mode) (actions_at xs k R ++ x.action ∷ []) (actions_at xs k R)) l) (actions_push xs x k W)
    ∙ by (x.location == k) x.mode (rows_of xs k) (length xs) (actions_at xs k R) (actions_at xs k W) x.action))
  where
    make : List ℕ → List ℕ → List ℕ → Seen
    make r a w = record { rows = r; reads = tally a; writes = tally w }

    by : (b : Bool) (m : Mode) (rows : List ℕ) (n : ℕ) (reads writes : List ℕ) (a : ℕ)
        → make (cond b (rows ++ n ∷ []) rows) (cond (b && same_mode R m) (reads ++ a ∷ []) reads) (cond (b && same_mode W m) (writes ++ a ∷ []) writes) ≡ cond b (noted (make rows reads writes) n a m) (make rows reads writes)
    by true R rows n reads writes a = let with_reads : Tally → Seen = λ t. record { rows = rows ++ n ∷ []; reads = t; writes = tally writes } in ap with_reads (tally_push reads a)
    by true W rows n reads writes a = let with_writes : Tally → Seen = λ t. record { rows = rows ++ n ∷ []; reads = tally reads; writes = t } in ap with_writes (tally_push writes a)
    by false m rows n reads writes a = refl

-- the last action tells the rest

not_equal : (x y a : ℕ) → x < y → y ≤ a → (x == a) ≡ false
not_equal x y a h le = grind (arith, nat_tests)

or_false : (b : Bool) → b ≡ (b || false)
or_false true = refl
or_false false = refl

last_tells : (l : List ℕ) (a : ℕ) → IsRising l → AllByRecursion (λ n. n ≤ a) l → is_last (tally l) a ≡ list_any (λ n. n == a) l
last_tells [] a up le = refl
last_tells (x ∷ []) a up le = or_false (x == a)
last_tells (x ∷ y ∷ l) a up le = last_tells (y ∷ l) a up.1 le.1 ∙ ap (λ b. b || list_any (λ n. n == a) (y ∷ l)) (sym (not_equal x y a up.0.0 le.1.0))

others_tell : (l : List ℕ) (a : ℕ) → IsRising l → AllByRecursion (λ n. n ≤ a) l → others (tally l) a ≡ length (filter (λ n. not (n == a)) l)
others_tell [] a up le = refl
others_tell (x ∷ []) a up le = by (x == a)
  where
    by : (b : Bool) → cond b (length (x ∷ []) - 1) (length (x ∷ [])) ≡ length (cond (not b) (x ∷ []) [])
    by true = omega arith
    by false = omega arith
others_tell (x ∷ y ∷ l) a up le =
    more (is_last (tally (y ∷ l)) a) (length (filter (λ n. not (n == a)) (y ∷ l))) (others_tell (y ∷ l) a up.1 le.1)
    ∙ ap (λ b. length (cond (not b) (x ∷ filter (λ n. not (n == a)) (y ∷ l)) (filter (λ n. not (n == a)) (y ∷ l)))) (sym (not_equal x y a up.0.0 le.1.0))
  where
    more : (b : Bool) (f : ℕ) → cond b (length (y ∷ l) - 1) (length (y ∷ l)) ≡ f → cond b (length (x ∷ y ∷ l) - 1) (length (x ∷ y ∷ l)) ≡ suc f
    more true f e = omega (arith, e)
    more false f e = omega (arith, e)

actions_below : (xs : List Access) (k : ℕ) (m : Mode) (a : ℕ) → AllByRecursion (λ (x : Access). x.action ≤ a) xs → AllByRecursion (λ n. n ≤ a) (actions_at xs k m)
actions_below [] k m a le = tt
actions_below (x ∷ xs) k m a le = by ((x.location == k) && same_mode m x.mode) (filter (λ (y : Access). (y.location == k) && same_mode m y.mode) xs) (actions_below xs k m a le.1)
  where
    by : (b : Bool) (l : List Access) → AllByRecursion (λ n. n ≤ a) (map (λ (y : Access). y.action) l) → AllByRecursion (λ n. n ≤ a) (map (λ (y : Access). y.action) (cond b (x ∷ l) l))
    by true l all = (le.0, all)
    by false l all = all

repeats_any : (x : Access) (xs : List Access) → list_any (repeats_by_number x) xs ≡ list_any (λ n. n == x.action) (actions_at xs x.location x.mode)
repeats_any x [] = refl
repeats_any x (y ∷ ys) = by ((y.location == x.location) && same_mode x.mode y.mode) (list_any (repeats_by_number x) ys) (filter (λ (z : Access). (z.location == x.location) && same_mode x.mode z.mode) ys) (repeats_any x ys)
  where
    by : (b rest : Bool) (l : List Access) → rest ≡ list_any (λ n. n == x.action) (map (λ (z : Access). z.action) l) → ((b && (y.action == x.action)) || rest) ≡ list_any (λ n. n == x.action) (map (λ (z : Access). z.action) (cond b (y ∷ l) l))
    by true rest l e = ap (λ r. (y.action == x.action) || r) e
    by false rest l e = e

-- the last action of the location and mode tells a repeat
pub repeat_tells : (x : Access) (xs : List Access) → IsRising (actions_at xs x.location x.mode) → AllByRecursion (λ (y : Access). y.action ≤ x.action) xs
    → is_last (tally_of (seen_at xs x.location) x.mode) x.action ≡ list_any (repeats_by_number x) xs
repeat_tells x xs up le = of_mode x.mode ∙ (last_tells (actions_at xs x.location x.mode) x.action up (actions_below xs x.location x.mode x.action le) ∙ sym (repeats_any x xs))
  where
    of_mode : (m : Mode) → is_last (tally_of (seen_at xs x.location) m) x.action ≡ is_last (tally (actions_at xs x.location m)) x.action
    of_mode R = refl
    of_mode W = refl

-- how many candidates

abbrev pub others_at : Access → List Access → Mode → ℕ
others_at x xs m = length (filter (λ n. not (n == x.action)) (actions_at xs x.location m))

length_cond : {X : Type 0} (b : Bool) (y : X) (l : List X) → length (cond b (y ∷ l) l) ≡ cond b 1 0 + length l
length_cond true y l = omega arith
length_cond false y l = omega arith

-- one more action, where it is another
others_more : (x y : Access) (b : Bool) (l : List Access)
    → length (filter (λ n. not (n == x.action)) (map (λ (z : Access). z.action) (cond b (y ∷ l) l))) ≡ cond (b && not (y.action == x.action)) 1 0 + length (filter (λ n. not (n == x.action)) (map (λ (z : Access). z.action) l))
others_more x y true l = length_cond (not (y.action == x.action)) y.action (filter (λ n. not (n == x.action)) (map (λ (z : Access). z.action) l))
others_more x y false l = omega arith

pub partners_any : (x : Access) (xs : List Access) → length (filter (λ y. is_candidate_by_number y x) xs) ≡ others_at x xs W + cond (is_write x.mode) (others_at x xs R) 0
partners_any x [] = by (is_write x.mode)
  where
    by : (b : Bool) → length (filter (λ y. is_candidate_by_number y x) []) ≡ others_at x [] W + cond b (others_at x [] R) 0
    by true = omega arith
    by false = omega arith
partners_any x (y ∷ ys) =
    length_cond (is_candidate_by_number y x) y (filter (λ z. is_candidate_by_number z x) ys)
    ∙ (by (y.location == x.location) (y.action == x.action) (is_write y.mode) (is_write x.mode) (length (filter (λ z. is_candidate_by_number z x) ys)) (others_at x ys W) (others_at x ys R) (partners_any x ys)
    ∙ sym (ap (λ n. n + cond (is_write x.mode) (others_at x (y ∷ ys) R) 0) (others_more x y ((y.location == x.location) && is_write y.mode) (filter (λ (z : Access). (z.location == x.location) && is_write z.mode) ys))
    ∙ ap (λ n. cond (((y.location == x.location) && is_write y.mode) && not (y.action == x.action)) 1 0 + others_at x ys W + cond (is_write x.mode) n 0) (others_more x y ((y.location == x.location) && not (is_write y.mode)) (filter (λ (z : Access). (z.location == x.location) && not (is_write z.mode)) ys))))
  where
    by : (at same wy wx : Bool) (c w r : ℕ) → c ≡ w + cond wx r 0
        → cond (at && (not same && (wy || wx))) 1 0 + c ≡ cond ((at && wy) && not same) 1 0 + w + cond wx (cond ((at && not wy) && not same) 1 0 + r) 0
    by false same wy true c w r e = omega (arith, e)
    by false same wy false c w r e = omega (arith, e)
    by true true true true c w r e = omega (arith, e)
    by true true true false c w r e = omega (arith, e)
    by true true false true c w r e = omega (arith, e)
    by true true false false c w r e = omega (arith, e)
    by true false true true c w r e = omega (arith, e)
    by true false true false c w r e = omega (arith, e)
    by true false false true c w r e = omega (arith, e)
    by true false false false c w r e = omega (arith, e)

pub candidates_push : (xs : List Access) (x : Access) → length (candidates_by_number (xs ++ x ∷ [])) ≡ length (candidates_by_number xs) + length (filter (λ y. is_candidate_by_number y x) xs)
candidates_push [] x = omega arith
candidates_push (a ∷ xs) x =
    let P : Access × Access → Bool = λ p. is_candidate_by_number p.0 p.1 in
    let with_a : Access → Access × Access = λ b. (a, b) in
    let split = ap (λ l. length (filter P (l ++ pairs_of (xs ++ x ∷ [])))) (map-append with_a xs (x ∷ [])) in
    let parts = ap length (filter-append P (map with_a xs ++ (a, x) ∷ []) (pairs_of (xs ++ x ∷ []))) in
    let ends = ap length (filter-append P (map with_a xs) ((a, x) ∷ [])) in
    let old = ap length (filter-append P (map with_a xs) (pairs_of xs)) in
    let one : length (filter P ((a, x) ∷ [])) ≡ cond (is_candidate_by_number a x) 1 0 + 0 = length_cond (is_candidate_by_number a x) (a, x) [] in
    omega (
      arith,
      split,
      parts,
      ends,
      old,
      one,
      candidates_push xs x,
      length_cond (is_candidate_by_number a x) a (filter (λ y. is_candidate_by_number y x) xs),
      length-append (filter P (map with_a xs ++ (a, x) ∷ [])) (filter P (pairs_of (xs ++ x ∷ []))),
      length-append (filter P (map with_a xs)) (filter P ((a, x) ∷ [])),
      length-append (filter P (map with_a xs)) (filter P (pairs_of xs)),
    )

pub partners_tell : (x : Access) (xs : List Access) → ((m : Mode) → IsRising (actions_at xs x.location m)) → AllByRecursion (λ (y : Access). y.action ≤ x.action) xs
    → partners (seen_at xs x.location) x.action x.mode ≡ length (filter (λ y. is_candidate_by_number y x) xs)
partners_tell x xs up le =
    ap (λ n. n + cond (is_write x.mode) (others (tally (actions_at xs x.location R)) x.action) 0) (others_tell (actions_at xs x.location W) x.action (up W) (actions_below xs x.location W x.action le))
    ∙ (ap (λ n. others_at x xs W + cond (is_write x.mode) n 0) (others_tell (actions_at xs x.location R) x.action (up R) (actions_below xs x.location R x.action le))
    ∙ sym (partners_any x xs))

-- the actions still rise

or_left : (a b : Bool) → (a || b) ≡ false → a ≡ false
or_left true b e = let no : true ≡ false = e in cc
or_left false b e = refl

or_right : (a b : Bool) → (a || b) ≡ false → b ≡ false
or_right true b e = let no : true ≡ false = e in cc
or_right false b e = e

rising_push : (l : List ℕ) (a : ℕ) → IsRising l → AllByRecursion (λ n. n ≤ a) l → list_any (λ n. n == a) l ≡ false → IsRising (l ++ a ∷ [])
rising_push [] a up le none = (tt, tt)
rising_push (x ∷ l) a up le none = (all_push (λ y. x < y) l a up.0 (less x a le.0 (or_left (x == a) (list_any (λ n. n == a) l) none)), rising_push l a up.1 le.1 (or_right (x == a) (list_any (λ n. n == a) l) none))
  where
    less : (x a : ℕ) → x ≤ a → (x == a) ≡ false → x < a
    less x a le e = grind (arith, nat_tests)

and_left : (a b : Bool) → (a && b) ≡ true → a ≡ true
and_left true b e = refl
and_left false b e = e

and_right : (a b : Bool) → (a && b) ≡ true → b ≡ true
and_right true b e = e
and_right false b e = let no : false ≡ true = e in cc

mode_is : (m n : Mode) → same_mode m n ≡ true → m ≡ n
mode_is R R e = refl
mode_is R W e = let no : false ≡ true = e in cc
mode_is W R e = let no : false ≡ true = e in cc
mode_is W W e = refl

number_is : (a b : ℕ) → (a == b) ≡ true → a ≡ b
number_is a b e = grind (arith, nat_tests)

rises_still : (xs : List Access) (x : Access) → ((k : ℕ) (m : Mode) → IsRising (actions_at xs k m)) → AllByRecursion (λ (y : Access). y.action ≤ x.action) xs → list_any (repeats_by_number x) xs ≡ false
    → (k : ℕ) (m : Mode) → IsRising (actions_at (xs ++ x ∷ []) k m)
rises_still xs x up le none k m = subst IsRising (sym (actions_push xs x k m)) (by ((x.location == k) && same_mode m x.mode) refl)
  where
    by : (b : Bool) → ((x.location == k) && same_mode m x.mode) ≡ b → IsRising (cond b (actions_at xs k m ++ x.action ∷ []) (actions_at xs k m))
    by true e =
        let at : x.location ≡ k = number_is x.location k (and_left (x.location == k) (same_mode m x.mode) e) in
        let of : x.mode ≡ m = sym (mode_is m x.mode (and_right (x.location == k) (same_mode m x.mode) e)) in
        let P : ℕ → Type 0 = λ j. list_any (λ n. n == x.action) (actions_at xs j x.mode) ≡ false in
        let Q : Mode → Type 0 = λ o. list_any (λ n. n == x.action) (actions_at xs k o) ≡ false in
        rising_push (actions_at xs k m) x.action (up k m) (actions_below xs k m x.action le) (subst Q of (subst P at (sym (repeats_any x xs) ∙ none)))
    by false e = up k m

-- one access more, which is of no lesser action and repeats none
ordered_push : (xs : List Access) (x : Access) → AreInOrder xs → AllByRecursion (λ (y : Access). y.action ≤ x.action) xs → list_any (repeats_by_number x) xs ≡ false → AreInOrder (xs ++ x ∷ [])
ordered_push [] x ordered le none = (tt, tt)
ordered_push (y ∷ xs) x ordered le none = (
  all_push (λ (z : Access). (y.action ≤ z.action) × (repeats_by_number z y ≡ false)) xs x ordered.0 (le.0, or_left (repeats_by_number x y) (list_any (repeats_by_number x) xs) none),
  ordered_push xs x ordered.1 le.1 (or_right (repeats_by_number x y) (list_any (repeats_by_number x) xs) none),
)

-- how large the counts are

pub actions_short : (xs : List Access) (k : ℕ) → length (actions_at xs k R) + length (actions_at xs k W) ≤ length xs
actions_short [] k = omega arith
actions_short (x ∷ xs) k = by (x.location == k) (is_write x.mode) (filter (λ (y : Access). (y.location == k) && not (is_write y.mode)) xs) (filter (λ (y : Access). (y.location == k) && is_write y.mode) xs) (length xs) (actions_short xs k)
  where
    by : (b w : Bool) (r s : List Access) (n : ℕ) → length (map (λ (y : Access). y.action) r) + length (map (λ (y : Access). y.action) s) ≤ n
        → length (map (λ (y : Access). y.action) (cond (b && not w) (x ∷ r) r)) + length (map (λ (y : Access). y.action) (cond (b && w) (x ∷ s) s)) ≤ suc n
    by true true r s n e = omega (arith, e)
    by true false r s n e = omega (arith, e)
    by false w r s n e = omega (arith, e)

-- the table with one access more, at a location that has a place

pub held_push : (places : List Seen) (xs : List Access) (pairs : ℕ) (x : Access) (d : Seen) → IsHeld places xs pairs → x.location < length places → length xs < most_accesses
    → AllByRecursion (λ (y : Access). y.action ≤ x.action) xs → list_any (repeats_by_number x) xs ≡ false
    → IsHeld (set places x.location (noted (get_or places x.location d) (length xs) x.action x.mode)) (xs ++ x ∷ []) (pairs + partners (get_or places x.location d) x.action x.mode)
held_push places xs pairs x d held within room le none =
    let p = noted (get_or places x.location d) (length xs) x.action x.mode in
    record {
      few = omega (arith, length-append xs (x ∷ []), room);
      known = let K : ℕ → Type 0 = λ n. AllByRecursion (λ (y : Access). y.location < n) (xs ++ x ∷ []) in
          subst K (sym (length-set places x.location p)) (all_push (λ (y : Access). y.location < length places) xs x held.known within);
      seen = λ k e h. seen_at_k k e (let n = length-set places x.location p in omega (arith, h, n));
      rising = rises_still xs x held.rising le none;
      ordered = ordered_push xs x held.ordered le none;
      counted = omega (arith, held.counted, candidates_push xs x, counted_now);
    }
  where
    counted_now : partners (get_or places x.location d) x.action x.mode ≡ length (filter (λ y. is_candidate_by_number y x) xs)
    counted_now = ap (λ s. partners s x.action x.mode) (held.seen x.location d within) ∙ partners_tell x xs (held.rising x.location) le

    seen_at_k : (k : ℕ) (e : Seen) → k < length places → get_or (set places x.location (noted (get_or places x.location d) (length xs) x.action x.mode)) k e ≡ seen_at (xs ++ x ∷ []) k
    seen_at_k k e h =
        elim (eqb_tells x.location k) [
          | inl same ↦
              let P : ℕ → Type 0 = λ j. get_or (set places x.location (noted (get_or places x.location d) (length xs) x.action x.mode)) j e ≡ noted (seen_at xs j) (length xs) x.action x.mode in
              subst P same.1 (get_or-set_same places x.location (noted (get_or places x.location d) (length xs) x.action x.mode) e within ∙ ap (λ s. noted s (length xs) x.action x.mode) (held.seen x.location d within))
              ∙ (ap (λ b. cond b (noted (seen_at xs k) (length xs) x.action x.mode) (seen_at xs k)) (sym same.0) ∙ sym (seen_push xs x k))
          | inr other ↦
              get_or-set_other places x.location k (noted (get_or places x.location d) (length xs) x.action x.mode) e (λ q. other.1 (sym q))
              ∙ (held.seen k e h ∙ (ap (λ b. cond b (noted (seen_at xs k) (length xs) x.action x.mode) (seen_at xs k)) (sym other.0) ∙ sym (seen_push xs x k)))
        ]

-- the same, by what the code knows

place_is : (places : List Seen) (xs : List Access) (pairs k : ℕ) (p : Seen) → IsHeld places xs pairs → k < length places → p ≡ get_or places k p → p ≡ seen_at xs k
place_is places xs pairs k p held h e = e ∙ held.seen k p h

pub known_tells : (places : List Seen) (xs : List Access) (pairs : ℕ) (x : Access) (p : Seen) (b : Bool) → IsHeld places xs pairs → x.location < length places → All (λ (y : Access). y.action ≤ x.action) xs
    → p ≡ get_or places x.location p → b ≡ is_last (tally_of p x.mode) x.action → list_any (repeats_by_number x) xs ≡ b
known_tells places xs pairs x p b held within le at e =
    sym (e ∙ (ap (λ q. is_last (tally_of q x.mode) x.action) (place_is places xs pairs x.location p held within at) ∙ repeat_tells x xs (held.rising x.location x.mode) (recursion_from_All (λ (y : Access). y.action ≤ x.action) xs le)))

pub with_repeat : (x : Access) (xs : List Access) → list_any (repeats_by_number x) xs ≡ true → xs ≡ with_numbered x xs
with_repeat x xs e = ap (λ b. if b then xs else xs ++ x ∷ []) (sym e)

pub with_more : (x : Access) (xs new : List Access) → list_any (repeats_by_number x) xs ≡ false → new ≡ xs ++ x ∷ [] → new ≡ with_numbered x xs
with_more x xs new e f = f ∙ ap (λ b. if b then xs else xs ++ x ∷ []) (sym e)

pub counts_small : (places : List Seen) (xs : List Access) (pairs k : ℕ) (p : Seen) → IsHeld places xs pairs → k < length places → p ≡ get_or places k p → p.reads.count + p.writes.count ≤ most_accesses
counts_small places xs pairs k p held h e =
    let P : Seen → Type 0 = λ q. q.reads.count + q.writes.count ≤ most_accesses in
    subst P (sym (place_is places xs pairs k p held h e)) (omega (arith, actions_short xs k, held.few))

pub held_known : (places : List Seen) (xs ys : List Access) (pairs n more : ℕ) (x : Access) (p q new : Seen) → IsHeld places xs pairs → x.location < length places → length xs ≢ most_accesses → All (λ (y : Access). y.action ≤ x.action) xs
    → list_any (repeats_by_number x) xs ≡ false → p ≡ get_or places x.location p → q ≡ get_or places x.location q → n ≡ length xs → new ≡ noted p n x.action x.mode → more ≡ partners q x.action x.mode → ys ≡ xs ++ x ∷ []
    → IsHeld (set places x.location new) ys (pairs + more)
held_known places xs ys pairs n more x p q new held within room le none at_p at_q e_n e_new e_more e_ys =
    let same : q ≡ p = place_is places xs pairs x.location q held within at_q ∙ sym (place_is places xs pairs x.location p held within at_p) in
    let N : Seen → Type 0 = λ s. IsHeld (set places x.location s) ys (pairs + more) in
    let M : ℕ → Type 0 = λ m. IsHeld (set places x.location (noted (get_or places x.location p) (length xs) x.action x.mode)) ys (pairs + m) in
    let Y : List Access → Type 0 = λ l. IsHeld (set places x.location (noted (get_or places x.location p) (length xs) x.action x.mode)) l (pairs + partners (get_or places x.location p) x.action x.mode) in
    subst N (sym (e_new ∙ (ap (λ m. noted p m x.action x.mode) e_n ∙ ap (λ s. noted s (length xs) x.action x.mode) at_p)))
    (subst M (sym (e_more ∙ ap (λ s. partners s x.action x.mode) (same ∙ at_p)))
    (subst Y (sym e_ys) (held_push places xs pairs x p held within (omega (arith, held.few, room)) (recursion_from_All (λ (y : Access). y.action ≤ x.action) xs le) none)))

-- few pairs

filter_short : {X : Type 0} (p : X → Bool) (xs : List X) → length (filter p xs) ≤ length xs
filter_short p [] = omega arith
filter_short p (x ∷ xs) = let h : length (filter p (x ∷ xs)) ≤ length xs + 1 = shorter (p x) (filter p xs) x (filter_short p xs) in omega arith
  where
    shorter : {X : Type 0} {n : ℕ} (t : Bool) (l : List X) (x : X) → length l ≤ n → length (cond t (x ∷ l) l) ≤ n + 1
    shorter true l x h = omega arith
    shorter false l x h = omega arith

few_pairs : (accesses : List Access) (most : ℕ) → length accesses ≤ most → length (pairs_of accesses) ≤ length accesses * most
few_pairs [] most few = omega arith
few_pairs (a ∷ rest) most few = omega (arith, few_pairs rest most (omega arith), length-append (map (λ b. (a, b)) rest) (pairs_of rest), length-map {B = Access × Access} rest (λ b. (a, b)))

pub few_candidates : (places : List Seen) (accesses : List Access) (pairs : ℕ) → IsHeld places accesses pairs → pairs < 2 ^ 50
few_candidates places accesses pairs held = omega (arith, held.counted, held.few, few_pairs accesses most_accesses held.few, filter_short (λ p. is_candidate_by_number p.0 p.1) (pairs_of accesses))

others_small : (t : Tally) (a : ℕ) → others t a ≤ t.count
others_small t a = by (is_last t a)
  where
    by : (b : Bool) → cond b (t.count - 1) t.count ≤ t.count
    by true = omega arith
    by false = omega arith

pub partners_small : (p : Seen) (a : ℕ) (m : Mode) → partners p a m ≤ p.reads.count + p.writes.count
partners_small p a m = by (is_write m)
  where
    by : (b : Bool) → others p.writes a + cond b (others p.reads a) 0 ≤ p.reads.count + p.writes.count
    by true = omega (arith, others_small p.writes a, others_small p.reads a)
    by false = omega (arith, others_small p.writes a)

-- a location that is new

get_seam : (places : List Seen) (p d : Seen) → get_or (places ++ p ∷ []) (length places) d ≡ p
get_seam [] p d = refl
get_seam (q ∷ places) p d = get_seam places p d

rows_none : (n k : ℕ) (xs : List Access) → AllByRecursion (λ (x : Access). x.location < k) xs → filter (λ (p : ℕ × Access). p.1.location == k) (numbered_from n xs) ≡ []
rows_none n k [] known = refl
rows_none n k (x ∷ xs) known =
    ap (λ b. cond b ((n, x) ∷ filter (λ (p : ℕ × Access). p.1.location == k) (numbered_from (n + 1) xs)) (filter (λ (p : ℕ × Access). p.1.location == k) (numbered_from (n + 1) xs))) (apart x.location k known.0)
    ∙ rows_none (n + 1) k xs known.1
  where
    apart : (a b : ℕ) → a < b → (a == b) ≡ false
    apart a b h = grind (arith, nat_tests)

actions_none : (k : ℕ) (m : Mode) (xs : List Access) → AllByRecursion (λ (x : Access). x.location < k) xs → actions_at xs k m ≡ []
actions_none k m xs known =
    ap (map (λ (x : Access). x.action)) (filter_none (λ (x : Access). (x.location == k) && same_mode m x.mode) xs
    (all_more (λ (x : Access). x.location < k) (λ (x : Access). ((x.location == k) && same_mode m x.mode) ≡ false) xs (λ x h. ap (λ b. b && same_mode m x.mode) (apart x.location k h)) known))
  where
    apart : (a b : ℕ) → a < b → (a == b) ≡ false
    apart a b h = grind (arith, nat_tests)

seen_none : (xs : List Access) (k : ℕ) → AllByRecursion (λ (x : Access). x.location < k) xs → seen_at xs k ≡ nothing
seen_none xs k known =
    ap (λ r. make r (actions_at xs k R) (actions_at xs k W)) (ap (map (λ (p : ℕ × Access). p.0)) (rows_none 0 k xs known))
    ∙ (ap (λ l. make [] l (actions_at xs k W)) (actions_none k R xs known) ∙ ap (λ l. make [] [] l) (actions_none k W xs known))
  where
    make : List ℕ → List ℕ → List ℕ → Seen
    make r a w = record { rows = r; reads = tally a; writes = tally w }

held_open : (places : List Seen) (xs : List Access) (pairs : ℕ) → IsHeld places xs pairs → IsHeld (places ++ nothing ∷ []) xs pairs
held_open places xs pairs held = record {
  few = held.few;
  known = all_more (λ (x : Access). x.location < length places) (λ (x : Access). x.location < length (places ++ nothing ∷ [])) xs (λ x h. let n = length-append places (nothing ∷ []) in omega (arith, n, h)) held.known;
  seen = λ k d h. seen_at_k k d (let n = length-append places (nothing ∷ []) in omega (arith, n, h));
  rising = held.rising;
  ordered = held.ordered;
  counted = held.counted;
}
  where
    seen_at_k : (k : ℕ) (d : Seen) → k < length places + 1 → get_or (places ++ nothing ∷ []) k d ≡ seen_at xs k
    seen_at_k k d h =
        elim (eqb_tells k (length places)) [
          | inl same ↦
              let P : ℕ → Type 0 = λ j. get_or (places ++ nothing ∷ []) j d ≡ seen_at xs j in
              subst P (sym same.1) (get_seam places nothing d ∙ sym (seen_none xs (length places) held.known))
          | inr other ↦ get_or_append_left places (nothing ∷ []) d k (omega (arith, h, other.1)) ∙ held.seen k d (omega (arith, h, other.1))
        ]

set_end : (places : List Seen) (p q : Seen) → set (places ++ p ∷ []) (length places) q ≡ places ++ q ∷ []
set_end [] p q = refl
set_end (s ∷ places) p q = ap (λ l. s ∷ l) (set_end places p q)

no_partners : (a : ℕ) (m : Mode) → partners nothing a m ≡ 0
no_partners a R = omega arith
no_partners a W = omega arith

pub none_there : (places : List Seen) (xs : List Access) (pairs : ℕ) (x : Access) → IsHeld places xs pairs → length places ≤ x.location → list_any (repeats_by_number x) xs ≡ false
none_there places xs pairs x held at =
    repeats_any x xs ∙ ap (list_any (λ n. n == x.action)) (actions_none x.location x.mode xs (all_more (λ (y : Access). y.location < length places) (λ (y : Access). y.location < x.location) xs (λ y h. omega (arith, h, at)) held.known))

pub held_new : (places : List Seen) (xs ys : List Access) (pairs n : ℕ) (x : Access) (new : Seen) → IsHeld places xs pairs → x.location ≡ length places → length xs < most_accesses → All (λ (y : Access). y.action ≤ x.action) xs
    → n ≡ length xs → new ≡ noted nothing n x.action x.mode → ys ≡ xs ++ x ∷ [] → IsHeld (places ++ new ∷ []) ys pairs
held_new places xs ys pairs n x new held at room le e_n e_new e_ys =
    let opened = held_open places xs pairs held in
    let long = length-append places (nothing ∷ []) in
    let due = held_push (places ++ nothing ∷ []) xs pairs x nothing opened (omega (arith, long, at)) room (recursion_from_All (λ (y : Access). y.action ≤ x.action) xs le) (none_there places xs pairs x held (omega (arith, at))) in
    let there : get_or (places ++ nothing ∷ []) x.location nothing ≡ nothing = (let P : ℕ → Type 0 = λ j. get_or (places ++ nothing ∷ []) j nothing ≡ nothing in subst P (sym at) (get_seam places nothing nothing)) in
    let S : Seen → Type 0 = λ s. IsHeld (set (places ++ nothing ∷ []) x.location (noted s (length xs) x.action x.mode)) (xs ++ x ∷ []) (pairs + partners s x.action x.mode) in
    let L : ℕ → Type 0 = λ j. IsHeld (set (places ++ nothing ∷ []) j (noted nothing (length xs) x.action x.mode)) (xs ++ x ∷ []) (pairs + partners nothing x.action x.mode) in
    let E : List Seen → Type 0 = λ l. IsHeld l (xs ++ x ∷ []) (pairs + partners nothing x.action x.mode) in
    let C : ℕ → Type 0 = λ m. IsHeld (places ++ noted nothing (length xs) x.action x.mode ∷ []) (xs ++ x ∷ []) m in
    let N : Seen → Type 0 = λ s. IsHeld (places ++ s ∷ []) (xs ++ x ∷ []) pairs in
    let Y : List Access → Type 0 = λ l. IsHeld (places ++ new ∷ []) l pairs in
    let none : pairs + partners nothing x.action x.mode ≡ pairs = omega (arith, no_partners x.action x.mode) in
    subst Y (sym e_ys) (subst N (sym (e_new ∙ ap (λ m. noted nothing m x.action x.mode) e_n)) (subst C none (subst E (set_end places nothing (noted nothing (length xs) x.action x.mode)) (subst L at (subst S there due)))))

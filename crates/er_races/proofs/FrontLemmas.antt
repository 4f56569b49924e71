-- One access with the front of a column.
use Rattle.std.proofs.Common.{◌≡◌, ◌≢◌, ℕ, zero, suc, ◌+◌, ◌-◌, ◌<◌, ◌≤◌, Bool, true, false, not, ◌&&◌, cond, List, [], ◌∷◌, ◌++◌, map, length, get_or, take, drop, refl, sym, ap, ◌∙◌, arith, subst, append_assoc}
use Rattle.std.specs.Prelude.{nat_lt, ◌==◌, ◌||◌}
use Rattle.std.specs.List.{All, AllByRecursion, filter, position_or_len}
use Rattle.std.proofs.lemmas.Bool.Decides.{nat_tests}
use Rattle.std.proofs.lemmas.List.{append-nil, drop_all, length-append, length-map}
use Rattle.std.proofs.lemmas.List.Elements.{All-from_recursion}
use Rattle.er_trace.specs.declared.record.Mode.{Mode}
use Rattle.er_trace.specs.declared.record.Mode.TheVariants.{R, W}
use Rattle.er_access.specs.declared.access.Access.{Access}
use Rattle.er_access.specs.Kept.{is_write}
use Rattle.er_access.specs.Numbers.{access_at, rows_of}
use Rattle.er_access.specs.ByNumber.{is_candidate_by_number, repeats_by_number}
use Rattle.er_access.specs.Table.{AreInOrder}
use Rattle.er_access.proofs.LocatedLemmas.{filter_same}
use Rattle.er_clocks.specs.Asked.{first_apart}
use Rattle.er_races.specs.declared.race.Race.{Race}
use Rattle.er_races.specs.Pairs.{with_second}
use Rattle.er_races.specs.Listing.{candidate, race, writes_among}
use Rattle.er_races.specs.declared.columns.Columns.{Columns}
use Rattle.er_races.specs.Fronts.{action_of, actions_of, partners, front_len, AllButLast, AreColumns, IsFront, unjoined}
use Rattle.er_races.proofs.PairLemmas.{IsRising, all_kept, all_mapped, all_more}
use Rattle.er_races.proofs.RaceLemmas.{filter_filter}
use Rattle.er_races.proofs.ListLemmas.{all_rows_at, rows_at, rows_rise, rows_within}

-- those that do not join

pub unjoined_next : (t : ℕ → Bool) (ns bs : List ℕ) (n : ℕ) → length ns ≡ length bs → n ≡ position_or_len (λ a. not (t a)) bs → n < length bs
    → unjoined t ns bs ≡ get_or ns n 0 ∷ unjoined t (drop (n + 1) ns) (drop (n + 1) bs)
unjoined_next t [] [] n e p h = absurd (omega (arith, h))
unjoined_next t [] (a ∷ bs) n e p h = absurd (omega (arith, e))
unjoined_next t (m ∷ ns) [] n e p h = absurd (omega (arith, e))
unjoined_next t (m ∷ ns) (a ∷ bs) zero e p h = by (t a) refl
  where
    by : (b : Bool) → t a ≡ b → unjoined t (m ∷ ns) (a ∷ bs) ≡ m ∷ unjoined t ns bs
    by true q = let z = p ∙ ap (λ c. cond (not (not c)) (1 + position_or_len (λ a. not (t a)) bs) 0) q in absurd (omega (arith, z))
    by false q = ap (λ c. cond c (unjoined t ns bs) (m ∷ unjoined t ns bs)) q
unjoined_next t (m ∷ ns) (a ∷ bs) (suc n) e p h = by (t a) refl (λ q. unjoined_next t ns bs n (omega (arith, e)) q (omega (arith, h)))
  where
    next : suc n + 1 ≡ suc (n + 1)
    next = omega arith

    by : (b : Bool) → t a ≡ b → (n ≡ position_or_len (λ a. not (t a)) bs → unjoined t ns bs ≡ get_or ns n 0 ∷ unjoined t (drop (n + 1) ns) (drop (n + 1) bs))
        → unjoined t (m ∷ ns) (a ∷ bs) ≡ get_or ns n 0 ∷ unjoined t (drop (suc n + 1) (m ∷ ns)) (drop (suc n + 1) (a ∷ bs))
    by true q rest =
        let z = p ∙ ap (λ c. cond (not (not c)) (1 + position_or_len (λ a. not (t a)) bs) 0) q in
        rw next (ap (λ c. cond c (unjoined t ns bs) (m ∷ unjoined t ns bs)) q ∙ rest (omega (arith, z)))
    by false q rest = let z = p ∙ ap (λ c. cond (not (not c)) (1 + position_or_len (λ a. not (t a)) bs) 0) q in absurd (omega (arith, z))

pub unjoined_none : (t : ℕ → Bool) (ns bs : List ℕ) → length ns ≡ length bs → length bs ≡ position_or_len (λ a. not (t a)) bs → unjoined t ns bs ≡ []
unjoined_none t [] bs e p = refl
unjoined_none t (m ∷ ns) [] e p = refl
unjoined_none t (m ∷ ns) (a ∷ bs) e p = by (t a) refl (λ q. unjoined_none t ns bs (omega (arith, e)) q)
  where
    by : (b : Bool) → t a ≡ b → (length bs ≡ position_or_len (λ a. not (t a)) bs → unjoined t ns bs ≡ []) → unjoined t (m ∷ ns) (a ∷ bs) ≡ []
    by true q rest =
        let z = p ∙ ap (λ c. cond (not (not c)) (1 + position_or_len (λ a. not (t a)) bs) 0) q in
        ap (λ c. cond c (unjoined t ns bs) (m ∷ unjoined t ns bs)) q ∙ rest (omega (arith, z))
    by false q rest = let z = p ∙ ap (λ c. cond (not (not c)) (1 + position_or_len (λ a. not (t a)) bs) 0) q in absurd (omega (arith, z))

pub unjoined_is : (t : ℕ → Bool) (f : ℕ → ℕ) (ns : List ℕ) → unjoined t ns (map f ns) ≡ filter (λ i. not (t (f i))) ns
unjoined_is t f [] = refl
unjoined_is t f (n ∷ ns) = by (t (f n)) (unjoined_is t f ns)
  where
    by : (b : Bool) → unjoined t ns (map f ns) ≡ filter (λ i. not (t (f i))) ns
        → cond b (unjoined t ns (map f ns)) (n ∷ unjoined t ns (map f ns)) ≡ cond (not b) (n ∷ filter (λ i. not (t (f i))) ns) (filter (λ i. not (t (f i))) ns)
    by true e = e
    by false e = ap (λ l. n ∷ l) e

-- the front is gone through

pub take_all : (xs : List ℕ) (n : ℕ) → length xs ≤ n → take n xs ≡ xs
take_all [] zero h = refl
take_all [] (suc n) h = refl
take_all (x ∷ xs) zero h = absurd (omega (arith, h))
take_all (x ∷ xs) (suc n) h = ap (λ l. x ∷ l) (take_all xs n (omega (arith, h)))

drop_none : (n : ℕ) → drop {A = ℕ} n [] ≡ []
drop_none zero = refl
drop_none (suc n) = refl

drop_twice : (from n : ℕ) (xs : List ℕ) → drop n (drop from xs) ≡ drop (from + n) xs
drop_twice zero n xs = let e : n ≡ 0 + n = omega arith in ap (λ (m : ℕ). drop m xs) e
drop_twice (suc from) n [] = drop_none n ∙ sym (drop_none (suc from + n))
drop_twice (suc from) n (x ∷ xs) = let e : suc (from + n) ≡ suc from + n = omega arith in drop_twice from n xs ∙ ap (λ (m : ℕ). drop m (x ∷ xs)) e

get_dropped : (from n : ℕ) (xs : List ℕ) → from + n < length xs → get_or (drop from xs) n 0 ≡ get_or xs (from + n) 0
get_dropped zero n xs h = let e : n ≡ 0 + n = omega arith in ap (λ (m : ℕ). get_or xs m 0) e
get_dropped (suc from) n [] h = absurd (omega (arith, h))
get_dropped (suc from) n (x ∷ xs) h = let e : suc (from + n) ≡ suc from + n = omega arith in get_dropped from n xs (omega (arith, h)) ∙ ap (λ (m : ℕ). get_or (x ∷ xs) m 0) e

pub dropped_len : (n : ℕ) (xs : List ℕ) → length (drop n xs) ≡ length xs - n
dropped_len zero xs = omega arith
dropped_len (suc n) [] = omega arith
dropped_len (suc n) (x ∷ xs) = let rest = dropped_len n xs in omega (arith, rest)

rest_is : (n : ℕ) (xs : List ℕ) → take (length xs - n) (drop n xs) ≡ drop n xs
rest_is n xs = let l = dropped_len n xs in take_all (drop n xs) (length xs - n) (omega (arith, l))

pub rest_len : (n : ℕ) (xs : List ℕ) → length (take (length xs - n) (drop n xs)) ≡ length xs - n
rest_len n xs = ap length (rest_is n xs) ∙ dropped_len n xs

-- the rest from a place on, of which n join j
abbrev pub rest : (ℕ → ℕ → Bool) → ℕ → List ℕ → List ℕ → ℕ → List ℕ
rest joined j ns bs from = unjoined (λ a. joined a j) (drop from ns) (drop from bs)

pub rest_none : (joined : ℕ → ℕ → Bool) (j : ℕ) (ns bs : List ℕ) (from n : ℕ) → length ns ≡ length bs → n ≡ first_apart joined (take (length bs - from) (drop from bs)) j → from + n ≡ length bs → rest joined j ns bs from ≡ []
rest_none joined j ns bs from n e p end =
    let l = dropped_len from ns in
    let m = dropped_len from bs in
    let q : n ≡ first_apart joined (drop from bs) j = p ∙ ap (λ (l : List ℕ). first_apart joined l j) (rest_is from bs) in
    unjoined_none (λ a. joined a j) (drop from ns) (drop from bs) (omega (arith, l, m, e)) (omega (arith, m, q, end))

pub rest_next : (joined : ℕ → ℕ → Bool) (j : ℕ) (ns bs : List ℕ) (from n : ℕ) → length ns ≡ length bs → n ≡ first_apart joined (take (length bs - from) (drop from bs)) j → from + n < length bs
    → rest joined j ns bs from ≡ get_or ns (from + n) 0 ∷ rest joined j ns bs (from + n + 1)
rest_next joined j ns bs from n e p within =
    let l = dropped_len from ns in
    let m = dropped_len from bs in
    let q : n ≡ first_apart joined (drop from bs) j = p ∙ ap (λ (l : List ℕ). first_apart joined l j) (rest_is from bs) in
    let sum : from + (n + 1) ≡ from + n + 1 = omega arith in
    unjoined_next (λ a. joined a j) (drop from ns) (drop from bs) n (omega (arith, l, m, e)) q (omega (arith, m, within))
    ∙ (ap (λ (i : ℕ). i ∷ unjoined (λ a. joined a j) (drop (n + 1) (drop from ns)) (drop (n + 1) (drop from bs))) (get_dropped from n ns (omega (arith, e, within)))
    ∙ (ap (λ (xs : List ℕ). get_or ns (from + n) 0 ∷ unjoined (λ a. joined a j) xs (drop (n + 1) (drop from bs))) (drop_twice from (n + 1) ns ∙ ap (λ (i : ℕ). drop i ns) sum)
    ∙ ap (λ (xs : List ℕ). get_or ns (from + n) 0 ∷ unjoined (λ a. joined a j) (drop (from + n + 1) ns) xs) (drop_twice from (n + 1) bs ∙ ap (λ (i : ℕ). drop i bs) sum)))

pub rest_past : (joined : ℕ → ℕ → Bool) (j : ℕ) (ns bs : List ℕ) (from : ℕ) → length ns ≡ length bs → length bs ≤ from → rest joined j ns bs from ≡ []
rest_past joined j ns bs from e past = ap (λ (xs : List ℕ). unjoined (λ a. joined a j) xs (drop from bs)) (drop_all from ns (omega (arith, e, past)))

pub front_end : (second : ℕ) (found whole : List Race) (left : List ℕ) → left ≡ [] → found ++ with_second left second ≡ whole → found ≡ whole
front_end second found whole left none before = sym (append-nil found) ∙ (ap (λ (l : List ℕ). found ++ with_second l second) (sym none) ∙ before)

pub front_next : (second first : ℕ) (found new whole : List Race) (left more : List ℕ) → left ≡ first ∷ more → new ≡ found ++ record { first = first; second = second } ∷ [] → found ++ with_second left second ≡ whole → new ++ with_second more second ≡ whole
front_next second first found new whole left more next e before =
    ap (λ (l : List Race). l ++ with_second more second) e
    ∙ (append_assoc found (record { first = first; second = second } ∷ []) (with_second more second) ∙ (ap (λ (l : List ℕ). found ++ with_second l second) (sym next) ∙ before))

pub front_many : (second first most : ℕ) (found old : List Race) (left more all : List ℕ) → left ≡ first ∷ more → length found ≡ most → found ++ with_second left second ≡ old ++ with_second all second → most < length old + length all
front_many second first most found old left more all next full before =
    let c = ap length before in
    let d = ap length next in
    omega (arith, c, d, full, length-append found (with_second left second), length-append old (with_second all second), length-map {B = Race} left (λ i. record { first = i; second = second }), length-map {B = Race} all (λ i. record { first = i; second = second }))

-- less the last one, where it is of the same action

pub last_front : (x : ℕ) (xs : List ℕ) (a : ℕ) → front_len (x ∷ xs) a ≡ cond (get_or (x ∷ xs) (length xs) 0 == a) (length xs) (suc (length xs))
last_front x [] a = refl
last_front x (y ∷ ys) a = ap suc (last_front y ys a) ∙ by (get_or (y ∷ ys) (length ys) 0 == a)
  where
    by : (b : Bool) → suc (cond b (length ys) (suc (length ys))) ≡ cond b (suc (length ys)) (suc (suc (length ys)))
    by true = refl
    by false = refl

pub front_less : (xs : List ℕ) (a : ℕ) → 0 < length xs → get_or xs (length xs - 1) 0 ≡ a → length xs - 1 ≡ front_len xs a
front_less [] a some e = absurd (omega (arith, some))
front_less (x ∷ xs) a some e =
    let last : suc (length xs) - 1 ≡ length xs = omega arith in
    let same : (get_or (x ∷ xs) (length xs) 0 == a) ≡ true = is_same (get_or (x ∷ xs) (length xs) 0) (ap (λ (k : ℕ). get_or (x ∷ xs) k 0) (sym last) ∙ e) in
    last ∙ sym (last_front x xs a ∙ ap (λ c. cond c (length xs) (suc (length xs))) same)
  where
    is_same : (m : ℕ) → m ≡ a → (m == a) ≡ true
    is_same m e = grind (arith, nat_tests)

pub front_all : (xs : List ℕ) (a : ℕ) → 0 < length xs → get_or xs (length xs - 1) 0 ≢ a → length xs ≡ front_len xs a
front_all [] a some e = absurd (omega (arith, some))
front_all (x ∷ xs) a some e =
    let last : suc (length xs) - 1 ≡ length xs = omega arith in
    let other : (get_or (x ∷ xs) (length xs) 0 == a) ≡ false = is_other_one (get_or (x ∷ xs) (length xs) 0) (λ q. e (ap (λ (k : ℕ). get_or (x ∷ xs) k 0) last ∙ q)) in
    sym (last_front x xs a ∙ ap (λ c. cond c (length xs) (suc (length xs))) other)
  where
    is_other_one : (m : ℕ) → m ≢ a → (m == a) ≡ false
    is_other_one m e = grind (arith, nat_tests)

pub front_within : (xs : List ℕ) (a : ℕ) → front_len xs a ≤ length xs
front_within [] a = omega arith
front_within (x ∷ xs) a = by (get_or (x ∷ xs) (length xs) 0 == a) (last_front x xs a)
  where
    by : (b : Bool) → front_len (x ∷ xs) a ≡ cond b (length xs) (suc (length xs)) → front_len (x ∷ xs) a ≤ suc (length xs)
    by true e = omega (arith, e)
    by false e = omega (arith, e)

is_other : (a b : ℕ) → a < b → not (a == b) ≡ true
is_other a b h = grind (arith, nat_tests)

pub others_are : (f : ℕ → ℕ) (a : ℕ) (xs : List ℕ) → AllButLast (λ i. f i < a) xs → filter (λ i. not (f i == a)) xs ≡ take (front_len (map f xs) a) xs
others_are f a [] all = refl
others_are f a (x ∷ []) all = by (f x == a)
  where
    by : (b : Bool) → cond (not b) (x ∷ []) [] ≡ take (cond b 0 1) (x ∷ [])
    by true = refl
    by false = refl
others_are f a (x ∷ y ∷ ys) all =
    ap (λ b. cond b (x ∷ filter (λ i. not (f i == a)) (y ∷ ys)) (filter (λ i. not (f i == a)) (y ∷ ys))) (is_other (f x) a all.0)
    ∙ ap (λ l. x ∷ l) (others_are f a (y ∷ ys) all.1)

but_last_cons : (P : ℕ → Type 0) (x : ℕ) (xs : List ℕ) → P x → AllButLast P xs → AllButLast P (x ∷ xs)
but_last_cons P x [] h all = tt
but_last_cons P x (y ∷ ys) h all = (h, all)

but_last_kept : (P : ℕ → Type 0) (q : ℕ → Bool) (xs : List ℕ) → AllButLast P xs → AllButLast P (filter q xs)
but_last_kept P q [] all = tt
but_last_kept P q (x ∷ []) all = by (q x)
  where
    by : (b : Bool) → AllButLast P (cond b (x ∷ []) [])
    by true = tt
    by false = tt
but_last_kept P q (x ∷ y ∷ ys) all = by (q x) (filter q (y ∷ ys)) (but_last_kept P q (y ∷ ys) all.1)
  where
    by : (b : Bool) (l : List ℕ) → AllButLast P l → AllButLast P (cond b (x ∷ l) l)
    by true l rest = but_last_cons P x l all.0 rest
    by false l rest = rest

-- the candidates among earlier accesses of a location

pub front_is : (accesses : List Access) (rows : List ℕ) (j : ℕ) → IsFront accesses rows j
    → filter (λ i. candidate accesses i j) rows
    ≡ take (front_len (actions_of accesses (partners (access_at accesses j).mode rows (writes_among accesses rows))) (action_of accesses j)) (partners (access_at accesses j).mode rows (writes_among accesses rows))
front_is accesses rows j front =
    narrow rows front.earlier front.here
    ∙ (by (is_write (access_at accesses j).mode) front.lesser)
  where
    a : ℕ
    a = action_of accesses j

    other : ℕ → Bool
    other i = not (action_of accesses i == a)

    writes : ℕ → Bool
    writes i = is_write (access_at accesses i).mode

    is_less : (i : ℕ) → i < j → nat_lt i j ≡ true
    is_less i h = grind (arith, nat_tests)

    narrow : (xs : List ℕ) → AllByRecursion (λ i. i < j) xs → AllByRecursion (λ i. ((access_at accesses i).location == (access_at accesses j).location) ≡ true) xs
        → filter (λ i. candidate accesses i j) xs ≡ filter (λ i. other i && (writes i || is_write (access_at accesses j).mode)) xs
    narrow [] less here = refl
    narrow (x ∷ xs) less here =
        ap (λ b. cond (b && (((access_at accesses x).location == (access_at accesses j).location) && (other x && (writes x || is_write (access_at accesses j).mode)))) (x ∷ filter (λ i. candidate accesses i j) xs) (filter (λ i. candidate accesses i j) xs)) (is_less x less.0)
        ∙ (ap (λ b. cond (b && (other x && (writes x || is_write (access_at accesses j).mode))) (x ∷ filter (λ i. candidate accesses i j) xs) (filter (λ i. candidate accesses i j) xs)) here.0
        ∙ ap (λ l. cond (other x && (writes x || is_write (access_at accesses j).mode)) (x ∷ l) l) (narrow xs less.1 here.1))

    each_other : (xs : List ℕ) → filter (λ i. other i && (writes i || true)) xs ≡ filter other xs
    each_other [] = refl
    each_other (x ∷ xs) = ap (λ b. cond b (x ∷ filter (λ i. other i && (writes i || true)) xs) (filter (λ i. other i && (writes i || true)) xs)) (whole (other x) (writes x)) ∙ ap (λ l. cond (other x) (x ∷ l) l) (each_other xs)
      where
        whole : (b c : Bool) → (b && (c || true)) ≡ b
        whole true true = refl
        whole true false = refl
        whole false c = refl

    each_write : (xs : List ℕ) → filter (λ i. other i && (writes i || false)) xs ≡ filter other (filter writes xs)
    each_write xs = turned xs ∙ sym (filter_filter writes other xs)
      where
        turned : (ys : List ℕ) → filter (λ i. other i && (writes i || false)) ys ≡ filter (λ i. writes i && other i) ys
        turned [] = refl
        turned (y ∷ ys) = ap (λ b. cond b (y ∷ filter (λ i. other i && (writes i || false)) ys) (filter (λ i. other i && (writes i || false)) ys)) (same (other y) (writes y)) ∙ ap (λ l. cond (writes y && other y) (y ∷ l) l) (turned ys)
          where
            same : (b c : Bool) → (b && (c || false)) ≡ (c && b)
            same true true = refl
            same true false = refl
            same false true = refl
            same false false = refl

    by : (w : Bool) → AllButLast (λ i. action_of accesses i < a) rows
        → filter (λ i. other i && (writes i || w)) rows ≡ take (front_len (actions_of accesses (cond w rows (writes_among accesses rows))) a) (cond w rows (writes_among accesses rows))
    by true lesser = each_other rows ∙ others_are (action_of accesses) a rows lesser
    by false lesser = each_write rows ∙ others_are (action_of accesses) a (filter writes rows) (but_last_kept (λ i. action_of accesses i < a) writes rows lesser)

-- the races among the candidates
pub races_are : (joined : ℕ → ℕ → Bool) (accesses : List Access) (rows : List ℕ) (j : ℕ)
    → filter (λ i. race joined accesses i j) rows ≡ filter (λ i. not (joined (action_of accesses i) (action_of accesses j))) (filter (λ i. candidate accesses i j) rows)
races_are joined accesses rows j = split rows ∙ sym (filter_filter (λ i. candidate accesses i j) (λ i. not (joined (action_of accesses i) (action_of accesses j))) rows)
  where
    split : (xs : List ℕ) → filter (λ i. race joined accesses i j) xs ≡ filter (λ i. candidate accesses i j && not (joined (action_of accesses i) (action_of accesses j))) xs
    split [] = refl
    split (x ∷ xs) =
        ap (λ b. cond b (x ∷ filter (λ i. race joined accesses i j) xs) (filter (λ i. race joined accesses i j) xs)) (same (nat_lt x j) (is_candidate_by_number (access_at accesses x) (access_at accesses j)) (not (joined (action_of accesses x) (action_of accesses j))))
        ∙ ap (λ l. cond (candidate accesses x j && not (joined (action_of accesses x) (action_of accesses j))) (x ∷ l) l) (split xs)
      where
        same : (a b c : Bool) → (a && (b && c)) ≡ ((a && b) && c)
        same true b c = refl
        same false b c = refl

pub actions_taken : (f : ℕ → ℕ) (n : ℕ) (xs : List ℕ) → take n (map f xs) ≡ map f (take n xs)
actions_taken f zero xs = refl
actions_taken f (suc n) [] = refl
actions_taken f (suc n) (x ∷ xs) = ap (λ l. f x ∷ l) (actions_taken f n xs)

-- each access of a location with the earlier ones

abbrev IsBehind : List Access → ℕ → ℕ → Type 0
IsBehind accesses i j = (action_of accesses i ≤ action_of accesses j) × (repeats_by_number (access_at accesses j) (access_at accesses i) ≡ false)

in_order_at : (accesses : List Access) → AreInOrder accesses → (i j : ℕ) → i < j → j < length accesses → IsBehind accesses i j
in_order_at [] all i j less within = absurd (omega (arith, within))
in_order_at (x ∷ xs) all i zero less within = absurd (omega (arith, less))
in_order_at (x ∷ xs) all zero (suc j) less within = All-from_recursion (λ (y : Access). (x.action ≤ y.action) × (repeats_by_number y x ≡ false)) xs all.0 j (record { line = 0; action = 0; mode = R; location = 0 }) (omega (arith, within))
in_order_at (x ∷ xs) all (suc i) (suc j) less within = in_order_at xs all.1 i j (omega (arith, less)) (omega (arith, within))

abbrev AllPairs : (ℕ → ℕ → Type 0) → List ℕ → Type 0
AllPairs P [] = Unit {0}
AllPairs P (x ∷ xs) = AllByRecursion (P x) xs × AllPairs P xs

all_two : (P Q O : ℕ → Type 0) (xs : List ℕ) → ((x : ℕ) → P x → Q x → O x) → AllByRecursion P xs → AllByRecursion Q xs → AllByRecursion O xs
all_two P Q O [] h p q = tt
all_two P Q O (x ∷ xs) h p q = (h x p.0 q.0, all_two P Q O xs h p.1 q.1)

pairs_behind : (accesses : List Access) (rows : List ℕ) → AreInOrder accesses → IsRising rows → AllByRecursion (λ i. i < length accesses) rows → AllPairs (IsBehind accesses) rows
pairs_behind accesses [] order up within = tt
pairs_behind accesses (x ∷ xs) order up within = (
  all_two (λ y. x < y) (λ y. y < length accesses) (IsBehind accesses x) xs (λ y less below. in_order_at accesses order x y less below) up.0 within.1,
  pairs_behind accesses xs order up.1 within.1,
)

-- of three accesses of one location the last is of a greater action than the first
three : (a b c : Access) (k : ℕ) → (a.location == k) ≡ true → (b.location == k) ≡ true → (c.location == k) ≡ true → a.action ≤ b.action → b.action ≤ c.action
    → repeats_by_number b a ≡ false → repeats_by_number c b ≡ false → repeats_by_number c a ≡ false → a.action < c.action
three a b c k ka kb kc ab bc no_ab no_bc no_ac = by a.mode b.mode c.mode a.location b.location c.location a.action b.action c.action ka kb kc ab bc no_ab no_bc no_ac
  where
    apart : (l m x y : ℕ) → (l == k) ≡ true → (m == k) ≡ true → x ≤ y → (((l == m) && true) && (x == y)) ≡ false → x < y
    apart l m x y kl km le other = grind (arith, nat_tests)

    by : (u v w : Mode) (l m n x y z : ℕ) → (l == k) ≡ true → (m == k) ≡ true → (n == k) ≡ true → x ≤ y → y ≤ z
        → repeats_by_number (record { line = 0; action = y; mode = v; location = m }) (record { line = 0; action = x; mode = u; location = l }) ≡ false
        → repeats_by_number (record { line = 0; action = z; mode = w; location = n }) (record { line = 0; action = y; mode = v; location = m }) ≡ false
        → repeats_by_number (record { line = 0; action = z; mode = w; location = n }) (record { line = 0; action = x; mode = u; location = l }) ≡ false → x < z
    by R R w l m n x y z kl km kn xy yz p q r = let h = apart l m x y kl km xy p in omega (arith, h, yz)
    by W W w l m n x y z kl km kn xy yz p q r = let h = apart l m x y kl km xy p in omega (arith, h, yz)
    by R W W l m n x y z kl km kn xy yz p q r = let h = apart m n y z km kn yz q in omega (arith, h, xy)
    by W R R l m n x y z kl km kn xy yz p q r = let h = apart m n y z km kn yz q in omega (arith, h, xy)
    by R W R l m n x y z kl km kn xy yz p q r = apart l n x z kl kn (omega (arith, xy, yz)) r
    by W R W l m n x y z kl km kn xy yz p q r = apart l n x z kl kn (omega (arith, xy, yz)) r

lesser : (accesses : List Access) (k : ℕ) (rows : List ℕ) (n : ℕ) → n < length rows → AllPairs (IsBehind accesses) rows → AllByRecursion (λ i. ((access_at accesses i).location == k) ≡ true) rows
    → AllButLast (λ i. action_of accesses i < action_of accesses (get_or rows n 0)) (take n rows)
lesser accesses k [] n h pairs at = absurd (omega (arith, h))
lesser accesses k (x ∷ xs) zero h pairs at = tt
lesser accesses k (x ∷ []) (suc n) h pairs at = absurd (omega (arith, h))
lesser accesses k (x ∷ y ∷ ys) (suc zero) h pairs at = tt
lesser accesses k (x ∷ y ∷ ys) (suc (suc n)) h pairs at =
    let q : ℕ = get_or ys n 0 in
    let from_x = All-from_recursion (IsBehind accesses x) ys pairs.0.1 n 0 (omega (arith, h)) in
    let from_y = All-from_recursion (IsBehind accesses y) ys pairs.1.0 n 0 (omega (arith, h)) in
    let here = All-from_recursion (λ i. ((access_at accesses i).location == k) ≡ true) ys at.1.1 n 0 (omega (arith, h)) in (
      three (access_at accesses x) (access_at accesses y) (access_at accesses q) k at.0 at.1.0 here pairs.0.0.0 from_y.0 pairs.0.0.1 from_y.1 from_x.1,
      lesser accesses k (y ∷ ys) (suc n) (omega (arith, h)) pairs.1 at.1,
    )

all_taken : (P : ℕ → Type 0) (n : ℕ) (xs : List ℕ) → AllByRecursion P xs → AllByRecursion P (take n xs)
all_taken P zero xs all = tt
all_taken P (suc n) [] all = tt
all_taken P (suc n) (x ∷ xs) all = (all.0, all_taken P n xs all.1)

pub rising_before : (rows : List ℕ) (n : ℕ) → IsRising rows → n < length rows → AllByRecursion (λ j. j < get_or rows n 0) (take n rows)
rising_before [] n up h = absurd (omega (arith, h))
rising_before (x ∷ xs) zero up h = tt
rising_before (x ∷ xs) (suc n) up h = (All-from_recursion (λ y. x < y) xs up.0 n 0 (omega (arith, h)), rising_before xs n up.1 (omega (arith, h)))

pub front_of : (accesses : List Access) (k n : ℕ) (rows : List ℕ) → AreInOrder accesses → rows ≡ rows_of accesses k → n < length rows → IsFront accesses (take n rows) (get_or rows n 0)
front_of accesses k n rows order e h = record {
  earlier = rising_before rows n up h;
  here = all_more (λ i. ((access_at accesses i).location == k) ≡ true) (λ i. ((access_at accesses i).location == (access_at accesses (get_or rows n 0)).location) ≡ true) (take n rows) (λ i at. swap (access_at accesses i).location (access_at accesses (get_or rows n 0)).location at (rows_at accesses k rows n e h)) (all_taken (λ i. ((access_at accesses i).location == k) ≡ true) n rows at_k);
  lesser = lesser accesses k rows n h (pairs_behind accesses rows order up (subst (λ (l : List ℕ). AllByRecursion (λ i. i < length accesses) l) (sym e) (rows_within accesses k))) at_k;
}
  where
    up : IsRising rows
    up = rows_rise accesses k rows e

    at_k : AllByRecursion (λ i. ((access_at accesses i).location == k) ≡ true) rows
    at_k = all_rows_at accesses k rows e

    swap : (l m : ℕ) → (l == k) ≡ true → (m == k) ≡ true → (l == m) ≡ true
    swap l m f g = grind (arith, nat_tests)

-- what is asked for one access

-- the candidates, with their actions
pub record AreAsked (accesses : List Access) (rows : List ℕ) (j : ℕ) (numbers actions : List ℕ) : Type 0 where
  pub numbers_are : numbers ≡ filter (λ i. candidate accesses i j) rows
  pub actions_are : actions ≡ actions_of accesses (filter (λ i. candidate accesses i j) rows)

pub front_asked : (accesses : List Access) (rows : List ℕ) (j : ℕ) (columns : Columns) (access : Access) (numbers actions : List ℕ) (count : ℕ) → IsFront accesses rows j → AreColumns accesses rows columns → access ≡ access_at accesses j
    → numbers ≡ partners access.mode rows columns.writes.items → actions ≡ partners access.mode columns.actions.items columns.write_actions.items → count ≡ front_len actions access.action
    → AreAsked accesses rows j (take count numbers) (take count actions)
front_asked accesses rows j columns access numbers actions count front are of numbers_are actions_are len =
    let cands : List ℕ = filter (λ i. candidate accesses i j) rows in
    let numbers_in : numbers ≡ column = numbers_are ∙ (ap (λ (x : Access). partners x.mode rows columns.writes.items) of ∙ ap (λ (l : List ℕ). partners (access_at accesses j).mode rows l) are.writes) in
    let actions_in : actions ≡ actions_of accesses column =
    actions_are ∙ (ap (λ (x : Access). partners x.mode columns.actions.items columns.write_actions.items) of ∙ (ap (λ (l : List ℕ). partners (access_at accesses j).mode l columns.write_actions.items) are.actions
    ∙ (ap (λ (l : List ℕ). partners (access_at accesses j).mode (actions_of accesses rows) l) are.write_actions ∙ either (is_write (access_at accesses j).mode)))) in
    let count_is : count ≡ front_len (actions_of accesses column) (action_of accesses j) = len ∙ (ap (λ (l : List ℕ). front_len l access.action) actions_in ∙ ap (λ (x : Access). front_len (actions_of accesses column) x.action) of) in
    let front_all : take count column ≡ cands = ap (λ (n : ℕ). take n column) count_is ∙ sym (front_is accesses rows j front) in
    record {
      numbers_are = ap (take count) numbers_in ∙ front_all;
      actions_are = ap (take count) actions_in ∙ (actions_taken (action_of accesses) count column ∙ ap (actions_of accesses) front_all);
    }
  where
    column : List ℕ
    column = partners (access_at accesses j).mode rows (writes_among accesses rows)

    either : (w : Bool) → cond w (actions_of accesses rows) (actions_of accesses (writes_among accesses rows)) ≡ actions_of accesses (cond w rows (writes_among accesses rows))
    either true = refl
    either false = refl

pub asked_races : (joined : ℕ → ℕ → Bool) (accesses : List Access) (rows : List ℕ) (j : ℕ) (access : Access) (numbers actions : List ℕ) → AreAsked accesses rows j numbers actions → access ≡ access_at accesses j
    → unjoined (λ a. joined a access.action) numbers actions ≡ filter (λ i. race joined accesses i j) rows
asked_races joined accesses rows j access numbers actions asked of =
    let cands : List ℕ = filter (λ i. candidate accesses i j) rows in
    ap (λ (x : Access). unjoined (λ a. joined a x.action) numbers actions) of
    ∙ (ap (λ (l : List ℕ). unjoined (λ a. joined a (action_of accesses j)) l actions) asked.numbers_are
    ∙ (ap (λ (l : List ℕ). unjoined (λ a. joined a (action_of accesses j)) cands l) asked.actions_are
    ∙ (unjoined_is (λ a. joined a (action_of accesses j)) (action_of accesses) cands ∙ sym (races_are joined accesses rows j))))

pub asked_len : (accesses : List Access) (rows : List ℕ) (j : ℕ) (numbers actions : List ℕ) → AreAsked accesses rows j numbers actions → length actions ≡ length (filter (λ i. candidate accesses i j) rows)
asked_len accesses rows j numbers actions asked = ap length asked.actions_are ∙ length-map (filter (λ i. candidate accesses i j) rows) (action_of accesses)

pub asked_known : (most : ℕ) (accesses : List Access) (rows : List ℕ) (j : ℕ) (numbers actions : List ℕ) → All (λ (x : Access). x.action < most) accesses → j < length accesses → IsFront accesses rows j → AreAsked accesses rows j numbers actions
    → All (λ a. a < most) actions
asked_known most accesses rows j numbers actions known within front asked =
    subst (λ (l : List ℕ). All (λ a. a < most) l) (sym asked.actions_are)
    (All-from_recursion (λ a. a < most) (actions_of accesses cands)
    (all_mapped (λ a. a < most) (action_of accesses) cands
    (all_more (λ i. i < j) (λ i. action_of accesses i < most) cands (λ i h. known i (record { line = 0; action = 0; mode = R; location = 0 }) (omega (arith, h, within))) (all_kept (λ i. i < j) (λ i. candidate accesses i j) rows front.earlier))))
  where
    cands : List ℕ
    cands = filter (λ i. candidate accesses i j) rows

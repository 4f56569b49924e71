-- Proofs of the laws of chains, and what fronts of chains count.
use Rattle.std.proofs.Common.{◌≡◌, ℕ, zero, suc, ◌<◌, ◌≤◌, Bool, true, false, List, [], ◌∷◌, ◌++◌, length, max, refl, sym, ap, ◌∙◌, arith, subst, inl, inr, length-append}
use Rattle.std.specs.Prelude.{◌==◌, ◌||◌, nat_lt}
use Rattle.std.specs.List.{list_any, AllByRecursion}
use Rattle.std.proofs.lemmas.Bool.Decides.{nat_tests}
use Rattle.std.proofs.Math.Path.{fun_ext}
use Rattle.er_paths.specs.Paths.{joins, is_among}
use Rattle.er_paths.specs.links.Chains.{last_passes, first_fit, chains, members, number_in, place_in, count_in, chain_of, place_of, entry}
use Rattle.er_paths.specs.links.Laws.{ChainsStay, ChainsTellPaths, ChainsOfPaths}
use Rattle.er_paths.proofs.Paths.{any_some, any_from, joins_older, joins_below, joins_past, place_cases, paths_compose, paths_go_forward}
use Rattle.er_paths.proofs.links.Tests.{decide, never}

-- how many members pass

pub count_le : (q : ℕ → Bool) (c : List ℕ) → count_in q c ≤ length c
count_le q [] = omega arith
count_le q (m ∷ c) = grind (arith, nat_tests, count_le q c)

pub count_none : (c : List ℕ) → count_in (λ i. false) c ≡ 0
count_none [] = refl
count_none (m ∷ c) = count_none c

pub count_same : (q r : ℕ → Bool) (c : List ℕ) → AllByRecursion (λ i. q i ≡ r i) c → count_in q c ≡ count_in r c
count_same q r [] a = refl
count_same q r (m ∷ c) a = let e : q m ≡ r m = a.0 in grind (arith, count_same q r c a.1)

pub count_all : (q : ℕ → Bool) (c : List ℕ) → AllByRecursion (λ i. q i ≡ true) c → count_in q c ≡ length c
count_all q [] a = refl
count_all q (m ∷ c) a = let e : q m ≡ true = a.0 in grind (arith, count_all q c a.1)

-- where a member passes, all before it do: those that pass are a front of the chain
abbrev pub IsFront : (ℕ → Bool) → List ℕ → Type 0
IsFront q [] = Unit {0}
IsFront q (m ∷ c) = (q m ≡ true → count_in q c ≡ length c) × IsFront q c

pub place_less : (c : List ℕ) (i : ℕ) → is_among i c ≡ true → place_in c i < length c
place_less [] i h = absurd (cc)
place_less (m ∷ c) i h = grind (arith, nat_tests, place_less c i)

-- so the place decides
pub place_decides : (q : ℕ → Bool) (c : List ℕ) (i : ℕ) → IsFront q c → is_among i c ≡ true → nat_lt (place_in c i) (count_in q c) ≡ q i
place_decides q [] i f h = absurd (cc)
place_decides q (m ∷ c) i f h = elim (decide (m == i)) [
  | inl same ↦ elim (decide (q m)) [
    | inl t ↦ let all : count_in q c ≡ length c = f.0 t in grind (arith, nat_tests)
    | inr n ↦ grind (arith, nat_tests, count_le q c)
  ]
  | inr other ↦ elim (decide (q m)) [
    | inl t ↦
        let all : count_in q c ≡ length c = f.0 t in
        let e : nat_lt (place_in c i) (count_in q c) ≡ q i = place_decides q c i f.1 (grind (arith, nat_tests)) in
        let l : place_in c i < length c = place_less c i (grind (arith, nat_tests)) in grind (arith, nat_tests)
    | inr n ↦ grind (arith, nat_tests, place_decides q c i f.1)
  ]
]

-- of two fronts, the members that pass the one or the other are the longer front
pub count_either : (q r : ℕ → Bool) (c : List ℕ) → IsFront q c → IsFront r c → count_in (λ i. q i || r i) c ≡ max (count_in q c) (count_in r c)
count_either q r [] f g = grind arith
count_either q r (m ∷ c) f g = elim (decide (q m)) [
  | inl t ↦ let all : count_in q c ≡ length c = f.0 t in grind (arith, nat_tests, count_either q r c f.1 g.1, count_le r c)
  | inr n ↦ elim (decide (r m)) [
    | inl t ↦ let all : count_in r c ≡ length c = g.0 t in grind (arith, nat_tests, count_either q r c f.1 g.1, count_le q c)
    | inr k ↦ grind (arith, nat_tests, count_either q r c f.1 g.1)
  ]
]

-- members of one chain are joined by paths in order
abbrev pub IsLinked : List (List ℕ) → List ℕ → Type 0
IsLinked lists [] = Unit {0}
IsLinked lists (m ∷ c) = AllByRecursion (λ i. joins lists i m ≡ true) c × IsLinked lists c

-- what passes also passes where a path leads to it
abbrev pub GoesBack : List (List ℕ) → (ℕ → Bool) → Type 0
GoesBack lists q = (i m : ℕ) → joins lists i m ≡ true → q m ≡ true → q i ≡ true

all_back : (lists : List (List ℕ)) (q : ℕ → Bool) (m : ℕ) (c : List ℕ) → GoesBack lists q → AllByRecursion (λ i. joins lists i m ≡ true) c → q m ≡ true → AllByRecursion (λ i. q i ≡ true) c
all_back lists q m [] back a h = tt
all_back lists q m (i ∷ c) back a h = (back i m a.0 h, all_back lists q m c back a.1 h)

pub front_linked : (lists : List (List ℕ)) (q : ℕ → Bool) (c : List ℕ) → GoesBack lists q → IsLinked lists c → IsFront q c
front_linked lists q [] back a = tt
front_linked lists q (m ∷ c) back a = (λ h. count_all q c (all_back lists q m c back a.0 h), front_linked lists q c back a.1)

-- a path to j, and a path to one of these
pub back_to : (lists : List (List ℕ)) (j : ℕ) → GoesBack lists (λ i. joins lists i j)
back_to lists j i m e h = paths_compose lists i m j e h

pub back_any : (lists : List (List ℕ)) (p : List ℕ) → GoesBack lists (λ i. list_any (λ k. joins lists i k) p)
back_any lists p i m e h = let s = any_some (λ k. joins lists m k) p h in any_from (λ k. joins lists i k) s.0 p s.1 (paths_compose lists i m s.0 e s.2)

-- paths stay as the lists grow
joins_still : (p : List ℕ) (older : List (List ℕ)) (i j : ℕ) → joins older i j ≡ true → joins (p ∷ older) i j ≡ true
joins_still p older i j h = joins_older p older i j (joins_below older i j h) ∙ h

all_still : (p : List ℕ) (older : List (List ℕ)) (m : ℕ) (c : List ℕ) → AllByRecursion (λ i. joins older i m ≡ true) c → AllByRecursion (λ i. joins (p ∷ older) i m ≡ true) c
all_still p older m [] a = tt
all_still p older m (i ∷ c) a = (joins_still p older i m a.0, all_still p older m c a.1)

linked_still : (p : List ℕ) (older : List (List ℕ)) (c : List ℕ) → IsLinked older c → IsLinked (p ∷ older) c
linked_still p older [] a = tt
linked_still p older (m ∷ c) a = (all_still p older m c a.0, linked_still p older c a.1)

pub all_linked_still : (p : List ℕ) (older : List (List ℕ)) (cs : List (List ℕ)) → AllByRecursion (IsLinked older) cs → AllByRecursion (IsLinked (p ∷ older)) cs
all_linked_still p older [] a = tt
all_linked_still p older (c ∷ cs) a = (linked_still p older c a.0, all_linked_still p older cs a.1)

joined_linked : (lists : List (List ℕ)) (j : ℕ) (c : List ℕ) → IsLinked lists c → last_passes (λ i. joins lists i j) c ≡ true → IsLinked lists (j ∷ c)
joined_linked lists j [] a h = absurd (cc)
joined_linked lists j (m ∷ c) a h = ((h, all_back lists (λ i. joins lists i j) m c (back_to lists j) a.0 h), a)

fit_linked : (lists : List (List ℕ)) (j : ℕ) (cs : List (List ℕ)) → AllByRecursion (IsLinked lists) cs → AllByRecursion (IsLinked lists) (first_fit (λ i. joins lists i j) j cs)
fit_linked lists j [] a = ((tt, tt), tt)
fit_linked lists j (c ∷ cs) a = elim (decide (last_passes (λ i. joins lists i j) c)) [
  | inl t ↦ rw t ((joined_linked lists j c a.0 t), a.1)
  | inr n ↦ rw n (a.0, fit_linked lists j cs a.1)
]

pub chains_linked : (lists : List (List ℕ)) → AllByRecursion (IsLinked lists) (chains lists)
chains_linked [] = tt
chains_linked (p ∷ older) = fit_linked (p ∷ older) (length older) (chains older) (all_linked_still p older (chains older) (chains_linked older))

-- what holds of each chain holds of the one at a place, and of no members
pub at_place : (P : List ℕ → Type 0) (cs : List (List ℕ)) (c : ℕ) → P [] → AllByRecursion P cs → P (members cs c)
at_place P [] c e a = e
at_place P (x ∷ cs) zero e a = a.0
at_place P (x ∷ cs) (suc c) e a = at_place P cs c e a.1

pub members_linked : (lists : List (List ℕ)) (c : ℕ) → IsLinked lists (members (chains lists) c)
members_linked lists c = at_place (IsLinked lists) (chains lists) c tt (chains_linked lists)

-- an action that has no path from the new one keeps its entries
pub fit_entries : (q r : ℕ → Bool) (j : ℕ) (cs : List (List ℕ)) (t : ℕ) → r j ≡ false → count_in r (members (first_fit q j cs) t) ≡ count_in r (members cs t)
fit_entries q r j [] zero h = rw h refl
fit_entries q r j [] (suc t) h = refl
fit_entries q r j (c ∷ cs) zero h = elim (decide (last_passes q c)) [
  | inl t ↦ rw (t, h) refl
  | inr n ↦ rw n refl
]
fit_entries q r j (c ∷ cs) (suc t) h = elim (decide (last_passes q c)) [
  | inl t ↦ rw t refl
  | inr n ↦ rw n (fit_entries q r j cs t h)
]

-- where the others stand
abbrev pub holds : List (List ℕ) → ℕ → Bool
holds cs i = list_any (λ c. is_among i c) cs

pub fit_chain_still : (q : ℕ → Bool) (j i : ℕ) (cs : List (List ℕ)) → i < j → holds cs i ≡ true → number_in (first_fit q j cs) i ≡ number_in cs i
fit_chain_still q j i [] l h = absurd (cc)
fit_chain_still q j i (c ∷ cs) l h = elim (decide (last_passes q c)) [
  | inl t ↦ rw t (grind (arith, nat_tests))
  | inr n ↦ rw n (elim (decide (is_among i c)) [
    | inl here ↦ rw here refl
    | inr on ↦ rw on (ap suc (fit_chain_still q j i cs l (grind (arith, nat_tests))))
  ])
]

fit_place_still : (q : ℕ → Bool) (j i : ℕ) (cs : List (List ℕ)) (t : ℕ) → i < j → is_among i (members cs t) ≡ true → place_in (members (first_fit q j cs) t) i ≡ place_in (members cs t) i
fit_place_still q j i [] t l h = absurd (cc)
fit_place_still q j i (c ∷ cs) zero l h = elim (decide (last_passes q c)) [
  | inl t ↦ rw t (grind (arith, nat_tests))
  | inr n ↦ rw n refl
]
fit_place_still q j i (c ∷ cs) (suc t) l h = elim (decide (last_passes q c)) [
  | inl t ↦ rw t refl
  | inr n ↦ rw n (fit_place_still q j i cs t l h)
]

fit_holds_new : (q : ℕ → Bool) (j : ℕ) (cs : List (List ℕ)) → holds (first_fit q j cs) j ≡ true
fit_holds_new q j [] = grind (arith, nat_tests)
fit_holds_new q j (c ∷ cs) = elim (decide (last_passes q c)) [
  | inl t ↦ rw t (grind (arith, nat_tests))
  | inr n ↦ rw n (grind (arith, nat_tests, fit_holds_new q j cs))
]

fit_holds : (q : ℕ → Bool) (j i : ℕ) (cs : List (List ℕ)) → holds cs i ≡ true → holds (first_fit q j cs) i ≡ true
fit_holds q j i [] h = absurd (cc)
fit_holds q j i (c ∷ cs) h = elim (decide (last_passes q c)) [
  | inl t ↦ rw t (grind (arith, nat_tests))
  | inr n ↦ rw n (grind (arith, nat_tests, fit_holds q j i cs))
]

-- each action stands in a chain
pub chains_hold : (lists : List (List ℕ)) (i : ℕ) → i < length lists → holds (chains lists) i ≡ true
chains_hold [] i h = absurd (omega arith)
chains_hold (p ∷ older) i h =
    let q : ℕ → Bool = λ i. joins (p ∷ older) i (length older) in
    elim (decide (i == length older)) [
      | inl last ↦ let e : i ≡ length older = grind (arith, nat_tests) in let H : ℕ → Type 0 = λ m. holds (chains (p ∷ older)) m ≡ true in subst H (sym e) (fit_holds_new q (length older) (chains older))
      | inr earlier ↦ let less : i < length older = grind (arith, nat_tests) in fit_holds q (length older) i (chains older) (chains_hold older i less)
    ]

pub chain_has : (cs : List (List ℕ)) (i : ℕ) → holds cs i ≡ true → is_among i (members cs (number_in cs i)) ≡ true
chain_has [] i h = absurd (cc)
chain_has (c ∷ cs) i h = elim (decide (is_among i c)) [
  | inl here ↦ rw here here
  | inr on ↦ rw on (chain_has cs i (grind (arith, nat_tests)))
]

-- members are earlier actions
abbrev pub AreBelow : ℕ → List ℕ → Type 0
AreBelow n c = AllByRecursion (λ i. i < n) c

fit_below : (q : ℕ → Bool) (j n : ℕ) (cs : List (List ℕ)) → j < n → AllByRecursion (AreBelow n) cs → AllByRecursion (AreBelow n) (first_fit q j cs)
fit_below q j n [] l a = ((l, tt), tt)
fit_below q j n (c ∷ cs) l a = elim (decide (last_passes q c)) [
  | inl t ↦ rw t ((l, a.0), a.1)
  | inr k ↦ rw k (a.0, fit_below q j n cs l a.1)
]

pub chains_below : (lists : List (List ℕ)) (n : ℕ) → length lists ≤ n → AllByRecursion (AreBelow n) (chains lists)
chains_below [] n h = tt
chains_below (p ∷ older) n h = fit_below (λ i. joins (p ∷ older) i (length older)) (length older) n (chains older) (omega arith) (chains_below older n (omega arith))

-- a front of the actions decides by its counts
pub count_decides : (lists : List (List ℕ)) (q : ℕ → Bool) (i : ℕ) → GoesBack lists q → i < length lists → nat_lt (place_of lists i) (count_in q (members (chains lists) (chain_of lists i))) ≡ q i
count_decides lists q i back h =
    let c : ℕ = chain_of lists i in
    place_decides q (members (chains lists) c) i (front_linked lists q (members (chains lists) c) back (members_linked lists c)) (chain_has (chains lists) i (chains_hold lists i h))

pub chains_tell_paths : ChainsTellPaths
chains_tell_paths lists i j h = count_decides lists (λ m. joins lists m j) i (back_to lists j) h

-- one list more

all_of : (P : ℕ → Type 0) (c : List ℕ) → ((i : ℕ) → P i) → AllByRecursion P c
all_of P [] f = tt
all_of P (i ∷ c) f = (f i, all_of P c f)

chain_still : (p : List ℕ) (older : List (List ℕ)) (j : ℕ) → j < length older → chain_of (p ∷ older) j ≡ chain_of older j
chain_still p older j h = fit_chain_still (λ i. joins (p ∷ older) i (length older)) (length older) j (chains older) h (chains_hold older j h)

place_still : (p : List ℕ) (older : List (List ℕ)) (j : ℕ) → j < length older → place_of (p ∷ older) j ≡ place_of older j
place_still p older j h =
    ap (λ (c : ℕ). place_in (members (chains (p ∷ older)) c) j) (chain_still p older j h)
    ∙ fit_place_still (λ i. joins (p ∷ older) i (length older)) (length older) j (chains older) (chain_of older j) h (chain_has (chains older) j (chains_hold older j h))

entry_still : (p : List ℕ) (older : List (List ℕ)) (j c : ℕ) → j < length older → entry (p ∷ older) j c ≡ entry older j c
entry_still p older j c h =
    let back : joins (p ∷ older) (length older) j ≡ false = never (joins (p ∷ older) (length older) j) (λ e. let f = paths_go_forward (p ∷ older) (length older) j e in absurd (omega (arith, f.0))) in
    fit_entries (λ i. joins (p ∷ older) i (length older)) (λ i. joins (p ∷ older) i j) (length older) (chains older) c back
    ∙ count_same (λ i. joins (p ∷ older) i j) (λ i. joins older i j) (members (chains older) c) (all_of (λ i. joins (p ∷ older) i j ≡ joins older i j) (members (chains older) c) (λ i. joins_older p older i j h))

pub chain_stays : (p : List ℕ) (older : List (List ℕ)) (j c : ℕ) → j < length older → (chain_of (p ∷ older) j ≡ chain_of older j) × (place_of (p ∷ older) j ≡ place_of older j) × (entry (p ∷ older) j c ≡ entry older j c)
chain_stays p older j c h = (chain_still p older j h, place_still p older j h, entry_still p older j c h)

pub chains_stay : ChainsStay
chains_stay [] lists j c h = (refl, refl, refl)
chains_stay (p ∷ more) lists j c h =
    let deeper : j < length (more ++ lists) = omega (arith, length-append more lists) in
    let one = chain_stays p (more ++ lists) j c deeper in
    let rest = chains_stay more lists j c h in
    (one.0 ∙ rest.0, one.1 ∙ rest.1, one.2 ∙ rest.2)

-- lists with the same paths

pub same_older : (p q : List ℕ) (older others : List (List ℕ)) → length older ≡ length others → ((i j : ℕ) → joins (p ∷ older) i j ≡ joins (q ∷ others) i j) → (i j : ℕ) → joins older i j ≡ joins others i j
same_older p q older others long same i j =
    elim (place_cases j (length older)) [
      | inl below ↦ sym (joins_older p older i j below) ∙ same i j ∙ joins_older q others i j (omega arith)
      | inr rest ↦ joins_past older i j (omega (arith, rest)) ∙ sym (joins_past others i j (omega (arith, rest)))
    ]

pub chains_of_paths : ChainsOfPaths
chains_of_paths [] [] long same = refl
chains_of_paths [] (q ∷ others) long same = absurd (omega arith)
chains_of_paths (p ∷ older) [] long same = absurd (omega arith)
chains_of_paths (p ∷ older) (q ∷ others) long same =
    let n : length older ≡ length others = omega arith in
    ap (λ (m : ℕ). first_fit (λ i. joins (p ∷ older) i m) m (chains older)) n
    ∙ ap (λ (t : ℕ → Bool). first_fit t (length others) (chains older)) (fun_ext (λ i. same i (length others)))
    ∙ ap (λ (cs : List (List ℕ)). first_fit (λ i. joins (q ∷ others) i (length others)) (length others) cs) (chains_of_paths older others n (same_older p q older others n same))

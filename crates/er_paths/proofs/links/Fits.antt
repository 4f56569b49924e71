-- Which chain first fit takes, and where each action stands after it.
use Rattle.std.proofs.Common.{◌≡◌, ◌≢◌, ℕ, zero, suc, ◌<◌, ◌≤◌, Bool, true, false, List, [], ◌∷◌, length, get_or, refl, sym, ap, ◌∙◌, arith, subst, inl, inr}
use Rattle.std.specs.Prelude.{◌==◌, if◌then◌else◌, map}
use Rattle.std.specs.List.{AllByRecursion}
use Rattle.std.proofs.lemmas.Bool.Decides.{nat_tests}
use Rattle.er_paths.specs.Paths.{joins, is_among}
use Rattle.er_paths.specs.links.Chains.{last_passes, first_fit, chains, members, number_in, place_in, count_in, chain_of, place_of}
use Rattle.er_paths.specs.links.Laws.{ChainsAreFirstFit, EachInOneChain, EntryOfItself}
use Rattle.er_paths.proofs.Paths.{paths_go_forward, paths_stand}
use Rattle.er_paths.proofs.links.Tests.{decide, never}
use Rattle.er_paths.proofs.links.Chains.{IsLinked, count_all, holds, place_less, fit_chain_still, chain_has, chains_hold, members_linked}

-- no chain is empty
abbrev pub IsBegun : List ℕ → Type 0
IsBegun c = 0 < length c

fit_begun : (q : ℕ → Bool) (j : ℕ) (cs : List (List ℕ)) → AllByRecursion IsBegun cs → AllByRecursion IsBegun (first_fit q j cs)
fit_begun q j [] a = (omega arith, tt)
fit_begun q j (c ∷ cs) a = elim (decide (last_passes q c)) [
  | inl t ↦ rw t (omega arith, a.1)
  | inr n ↦ rw n (a.0, fit_begun q j cs a.1)
]

pub chains_begun : (lists : List (List ℕ)) → AllByRecursion IsBegun (chains lists)
chains_begun [] = tt
chains_begun (p ∷ older) = fit_begun (λ i. joins (p ∷ older) i (length older)) (length older) (chains older) (chains_begun older)

-- the lowest chain whose last member passes, or their number
abbrev pub fit_number : (ℕ → Bool) → List (List ℕ) → ℕ
fit_number q [] = 0
fit_number q (c ∷ cs) = if last_passes q c then 0 else suc (fit_number q cs)

-- where the new one stands
abbrev pub IsLacking : ℕ → List ℕ → Type 0
IsLacking j c = is_among j c ≡ false

pub fit_chain : (q : ℕ → Bool) (j : ℕ) (cs : List (List ℕ)) → AllByRecursion (IsLacking j) cs → number_in (first_fit q j cs) j ≡ fit_number q cs
fit_chain q j [] a = grind (arith, nat_tests)
fit_chain q j (c ∷ cs) a = elim (decide (last_passes q c)) [
  | inl t ↦ rw t (grind (arith, nat_tests))
  | inr n ↦ rw (n, a.0) (ap suc (fit_chain q j cs a.1))
]

pub fit_place : (q : ℕ → Bool) (j : ℕ) (cs : List (List ℕ)) → AllByRecursion (IsLacking j) cs → place_in (members (first_fit q j cs) (fit_number q cs)) j ≡ get_or (map length cs) (fit_number q cs) 0
fit_place q j [] a = grind (arith, nat_tests)
fit_place q j (c ∷ cs) a = elim (decide (last_passes q c)) [
  | inl t ↦ rw t (grind (arith, nat_tests))
  | inr n ↦ rw n (fit_place q j cs a.1)
]

-- and no later one does
fit_lacking : (q : ℕ → Bool) (j n : ℕ) (cs : List (List ℕ)) → j < n → AllByRecursion (IsLacking n) cs → AllByRecursion (IsLacking n) (first_fit q j cs)
fit_lacking q j n [] l a = (grind (arith, nat_tests), tt)
fit_lacking q j n (c ∷ cs) l a = elim (decide (last_passes q c)) [
  | inl t ↦ let e : is_among n c ≡ false = a.0 in rw t (grind (arith, nat_tests), a.1)
  | inr k ↦ rw k (a.0, fit_lacking q j n cs l a.1)
]

pub chains_lack : (lists : List (List ℕ)) (n : ℕ) → length lists ≤ n → AllByRecursion (IsLacking n) (chains lists)
chains_lack [] n h = tt
chains_lack (p ∷ older) n h = fit_lacking (λ i. joins (p ∷ older) i (length older)) (length older) n (chains older) (omega arith) (chains_lack older n (omega arith))

-- the chain that first fit takes is the lowest

fit_within : (q : ℕ → Bool) (cs : List (List ℕ)) → fit_number q cs ≤ length cs
fit_within q [] = omega arith
fit_within q (c ∷ cs) = elim (decide (last_passes q c)) [
  | inl t ↦ rw t (omega arith)
  | inr n ↦ rw n (let h = fit_within q cs in omega (arith, h))
]

lower_fails : (q : ℕ → Bool) (c : List ℕ) (cs : List (List ℕ)) (t : ℕ) → last_passes q c ≡ false → ((t : ℕ) → t < fit_number q cs → last_passes q (members cs t) ≡ false) → t < suc (fit_number q cs) → last_passes q (members (c ∷ cs) t) ≡ false
lower_fails q c cs zero e f h = e
lower_fails q c cs (suc t) e f h = f t (omega arith)

lower_fail : (q : ℕ → Bool) (cs : List (List ℕ)) (t : ℕ) → t < fit_number q cs → last_passes q (members cs t) ≡ false
lower_fail q [] t h = absurd (omega arith)
lower_fail q (c ∷ cs) t h = elim (decide (last_passes q c)) [
  | inl e ↦ let l : t < 0 = subst (λ (b : Bool). t < (if b then 0 else suc (fit_number q cs))) e h in absurd (omega arith)
  | inr e ↦ lower_fails q c cs t e (λ u l. lower_fail q cs u l) (subst (λ (b : Bool). t < (if b then 0 else suc (fit_number q cs))) e h)
]

fit_takes : (q : ℕ → Bool) (cs : List (List ℕ)) → fit_number q cs < length cs → last_passes q (members cs (fit_number q cs)) ≡ true
fit_takes q [] h = absurd (omega arith)
fit_takes q (c ∷ cs) h = elim (decide (last_passes q c)) [
  | inl e ↦ rw e e
  | inr e ↦ let l : suc (fit_number q cs) < length (c ∷ cs) = subst (λ (b : Bool). (if b then 0 else suc (fit_number q cs)) < length (c ∷ cs)) e h in rw e (fit_takes q cs (omega arith))
]

-- that chain has one member more, and no other chain changes
fit_members : (q : ℕ → Bool) (j : ℕ) (cs : List (List ℕ)) (t : ℕ) → members (first_fit q j cs) t ≡ (if t == fit_number q cs then j ∷ members cs t else members cs t)
fit_members q j [] zero = refl
fit_members q j [] (suc t) = let e : (suc t == 0) ≡ false = grind (arith, nat_tests) in rw e refl
fit_members q j (c ∷ cs) zero = elim (decide (last_passes q c)) [
  | inl e ↦ rw e refl
  | inr e ↦ let z : (0 == suc (fit_number q cs)) ≡ false = grind (arith, nat_tests) in rw (e, z) refl
]
fit_members q j (c ∷ cs) (suc t) = elim (decide (last_passes q c)) [
  | inl e ↦ let z : (suc t == 0) ≡ false = grind (arith, nat_tests) in rw (e, z) refl
  | inr e ↦ let same : (suc t == suc (fit_number q cs)) ≡ (t == fit_number q cs) = grind (arith, nat_tests) in rw (e, same) (fit_members q j cs t)
]

newest_fits : (p : List ℕ) (older : List (List ℕ)) → chain_of (p ∷ older) (length older) ≡ fit_number (λ i. joins (p ∷ older) i (length older)) (chains older)
newest_fits p older = fit_chain (λ i. joins (p ∷ older) i (length older)) (length older) (chains older) (chains_lack older (length older) (omega arith))

pub chains_are_first_fit : ChainsAreFirstFit
chains_are_first_fit p older =
    let q : ℕ → Bool = λ i. joins (p ∷ older) i (length older) in
    let is = newest_fits p older in
    rw is (fit_within q (chains older), λ c h. lower_fail q (chains older) c h, fit_takes q (chains older), λ c. fit_members q (length older) (chains older) c)

-- each action stands in one chain alone

in_longer : (j i t f : ℕ) (c : List ℕ) → i ≢ j → is_among i (if t == f then j ∷ c else c) ≡ is_among i c
in_longer j i t f c other = elim (decide (t == f)) [
  | inl e ↦ rw e (grind (arith, nat_tests))
  | inr e ↦ rw e refl
]

in_new : (j t f : ℕ) (c : List ℕ) → is_among j c ≡ false → is_among j (if t == f then j ∷ c else c) ≡ true → t ≡ f
in_new j t f c lacks h = elim (decide (t == f)) [
  | inl e ↦ grind (arith, nat_tests)
  | inr e ↦ let n : is_among j c ≡ true = subst (λ (b : Bool). is_among j (if b then j ∷ c else c) ≡ true) e h in absurd (cc)
]

lacks_at : (j : ℕ) (cs : List (List ℕ)) (t : ℕ) → AllByRecursion (IsLacking j) cs → is_among j (members cs t) ≡ false
lacks_at j [] t a = refl
lacks_at j (c ∷ cs) zero a = a.0
lacks_at j (c ∷ cs) (suc t) a = lacks_at j cs t a.1

pub in_one_chain : (lists : List (List ℕ)) (i c : ℕ) → i < length lists → is_among i (members (chains lists) c) ≡ true → chain_of lists i ≡ c
in_one_chain [] i c h e = absurd (omega arith)
in_one_chain (p ∷ older) i c h e =
    let q : ℕ → Bool = λ i. joins (p ∷ older) i (length older) in
    let all : List (List ℕ) = chains older in
    let n : ℕ = length older in
    let t : is_among i (if c == fit_number q all then n ∷ members all c else members all c) ≡ true = sym (ap (is_among i) (fit_members q n all c)) ∙ e in
    elim (decide (i == n)) [
      | inl last ↦
          let s : i ≡ n = grind (arith, nat_tests) in
          let T : ℕ → Type 0 = λ m. is_among m (if c == fit_number q all then n ∷ members all c else members all c) ≡ true in
          ap (chain_of (p ∷ older)) s ∙ newest_fits p older ∙ sym (in_new n c (fit_number q all) (members all c) (lacks_at n all c (chains_lack older n (omega arith))) (subst T s t))
      | inr earlier ↦
          let less : i < n = grind (arith, nat_tests) in
          let there : is_among i (members all c) ≡ true = sym (in_longer n i c (fit_number q all) (members all c) (λ s. absurd (omega arith))) ∙ t in
          fit_chain_still q n i all less (chains_hold older i less) ∙ in_one_chain older i c less there
    ]

pub each_in_one_chain : EachInOneChain
each_in_one_chain lists i c h = (λ e. in_one_chain lists i c h e, λ e. subst (λ (m : ℕ). is_among i (members (chains lists) m) ≡ true) e (chain_has (chains lists) i (chains_hold lists i h)))

-- an action is the last of its chain that has a path to it

linked_at : (lists : List (List ℕ)) (m i : ℕ) (c : List ℕ) → AllByRecursion (λ k. joins lists k m ≡ true) c → is_among i c ≡ true → joins lists i m ≡ true
linked_at lists m i [] a e = absurd (cc)
linked_at lists m i (k ∷ c) a e = elim (decide (k == i)) [
  | inl same ↦ let s : k ≡ i = grind (arith, nat_tests) in subst (λ (x : ℕ). joins lists x m ≡ true) s a.0
  | inr other ↦ linked_at lists m i c a.1 (grind (arith, nat_tests))
]

own_count : (lists : List (List ℕ)) (i : ℕ) (c : List ℕ) → i < length lists → IsLinked lists c → is_among i c ≡ true → count_in (λ m. joins lists m i) c ≡ suc (place_in c i)
own_count lists i [] h a e = absurd (cc)
own_count lists i (m ∷ c) h a e = elim (decide (m == i)) [
  | inl same ↦
      let s : m ≡ i = grind (arith, nat_tests) in
      let itself : joins lists m i ≡ true = subst (λ (x : ℕ). joins lists x i ≡ true) (sym s) (paths_stand lists i h) in
      let all : count_in (λ k. joins lists k i) c ≡ length c = count_all (λ k. joins lists k i) c (subst (λ (x : ℕ). AllByRecursion (λ k. joins lists k x ≡ true) c) s a.0) in
      rw (itself, same) (ap suc all)
  | inr other ↦
      let there : is_among i c ≡ true = grind (arith, nat_tests) in
      let up = paths_go_forward lists i m (linked_at lists m i c a.0 there) in
      let back : joins lists m i ≡ false = never (joins lists m i) (λ t. let down = paths_go_forward lists m i t in let s : m ≡ i = omega (arith, up.0, down.0) in absurd (grind (arith, nat_tests))) in
      rw (back, other) (own_count lists i c h a.1 there)
]

pub entry_of_itself : EntryOfItself
entry_of_itself lists i h = own_count lists i (members (chains lists) (chain_of lists i)) h (members_linked lists (chain_of lists i)) (chain_has (chains lists) i (chains_hold lists i h))

-- numbers of chains and places are small

number_short : (cs : List (List ℕ)) (i : ℕ) → holds cs i ≡ true → number_in cs i < length cs
number_short [] i h = absurd (cc)
number_short (c ∷ cs) i h = elim (decide (is_among i c)) [
  | inl here ↦ rw here (omega arith)
  | inr on ↦ let l : number_in cs i < length cs = number_short cs i (grind (arith, nat_tests)) in rw on (omega (arith, l))
]

pub chain_number_short : (lists : List (List ℕ)) (i : ℕ) → i < length lists → chain_of lists i < length (chains lists)
chain_number_short lists i h = number_short (chains lists) i (chains_hold lists i h)

chain_short : (lists : List (List ℕ)) (c : ℕ) → length (members (chains lists) c) ≤ length lists
chain_short [] c = omega arith
chain_short (p ∷ older) c =
    let q : ℕ → Bool = λ i. joins (p ∷ older) i (length older) in
    let all : List ℕ = members (chains older) c in
    let f : ℕ = fit_number q (chains older) in
    let rest : length all ≤ length older = chain_short older c in
    let e : length (members (chains (p ∷ older)) c) ≡ length (if c == f then length older ∷ all else all) = ap length (fit_members q (length older) (chains older) c) in
    elim (decide (c == f)) [
      | inl t ↦ let g : length (if c == f then length older ∷ all else all) ≡ suc (length all) = rw t refl in omega (arith, e, g, rest)
      | inr n ↦ let g : length (if c == f then length older ∷ all else all) ≡ length all = rw n refl in omega (arith, e, g, rest)
    ]

pub place_short : (lists : List (List ℕ)) (i : ℕ) → i < length lists → place_of lists i < length lists
place_short lists i h =
    let l : place_of lists i < length (members (chains lists) (chain_of lists i)) = place_less (members (chains lists) (chain_of lists i)) i (chain_has (chains lists) i (chains_hold lists i h)) in
    let s = chain_short lists (chain_of lists i) in omega (arith, l, s)

-- The row of a new action, made of the rows of its links.
use Rattle.std.proofs.Common.{◌≡◌, ◌≢◌, ℕ, zero, suc, ◌<◌, ◌≤◌, inl, inr, subst, Bool, true, false, List, [], ◌∷◌, ◌++◌, length, get_or, drop, max, All, refl, sym, ap, ◌∙◌, arith}
use Rattle.std.specs.Prelude.{◌==◌, ◌||◌, nat_lt, slice_index, map, reverse, if◌then◌else◌}
use Rattle.std.specs.List.{AllByRecursion}
use Rattle.std.proofs.lemmas.Grind.{common_steps}
use Rattle.std.proofs.Math.Seq.{drop-length}
use Rattle.std.proofs.lemmas.Bool.Decides.{nat_tests}
use Rattle.std.specs.List.Sorted.{IsStrictlyIncreasing}
use Rattle.std.proofs.lemmas.List.Elements.{recursion_from_All}
use Rattle.er_paths.specs.Paths.{joins, is_among}
use Rattle.er_paths.specs.links.Links.{links_of}
use Rattle.er_paths.specs.links.Chains.{chains, members, count_in, chain_of, place_of, entry}
use Rattle.er_paths.proofs.Paths.{joins_newest}
use Rattle.er_paths.proofs.links.Tests.{any_members, decide}
use Rattle.er_paths.proofs.links.Fits.{entry_of_itself}
use Rattle.er_paths.proofs.links.Chains.{count_decides, count_either, count_none, count_same, front_linked, back_to, back_any, members_linked, AreBelow, chains_below, at_place}
use Rattle.er_paths.proofs.links.Links.{links_newest}
use Rattle.er_clocks.proofs.Uncovered.{uncovered_kept, rises_sorted, known_same}
use Rattle.er_clocks.specs.Sources.{uncovered, reaches, IsReach, IsTaken}

pub reach_none : (lists : List (List ℕ)) → IsReach lists [] []
reach_none lists c = sym (count_none (members (chains lists) c))

-- whether i reaches one of these, by two numbers
pub reach_decides : (lists : List (List ℕ)) (row xs : List ℕ) (i : ℕ) → IsReach lists row xs → i < length lists → nat_lt (place_of lists i) (slice_index row (chain_of lists i)) ≡ reaches lists xs i
reach_decides lists row xs i is h = ap (λ (n : ℕ). nat_lt (place_of lists i) n) (is (chain_of lists i)) ∙ count_decides lists (reaches lists xs) i (back_any lists xs) h

-- one that reaches a later one adds nothing
pub or_absorbed : (a b : Bool) → (a ≡ true → b ≡ true) → (a || b) ≡ b
or_absorbed true b f = sym (f refl)
or_absorbed false b f = refl

pub all_of : (P : ℕ → Type 0) (c : List ℕ) → ((i : ℕ) → P i) → AllByRecursion P c
all_of P [] f = tt
all_of P (i ∷ c) f = (f i, all_of P c f)

pub reach_covered : (lists : List (List ℕ)) (row xs : List ℕ) (i : ℕ) → IsReach lists row xs → reaches lists xs i ≡ true → IsReach lists row (i ∷ xs)
reach_covered lists row xs i is covered c =
    let same : (m : ℕ) → reaches lists (i ∷ xs) m ≡ reaches lists xs m = λ m. or_absorbed (joins lists m i) (reaches lists xs m) (λ e. back_any lists xs m i e covered) in
    is c ∙ sym (count_same (reaches lists (i ∷ xs)) (reaches lists xs) (members (chains lists) c) (all_of (λ m. reaches lists (i ∷ xs) m ≡ reaches lists xs m) (members (chains lists) c) same))

-- one more row, which need not tell of the chain of i itself
pub reach_raised : (lists : List (List ℕ)) (row new other xs : List ℕ) (i : ℕ) → IsReach lists row xs → i < length lists → slice_index row (chain_of lists i) ≤ place_of lists i
    → ((c : ℕ) → c ≢ chain_of lists i → slice_index other c ≡ entry lists i c)
    → ((c : ℕ) → slice_index new c ≡ (if c == chain_of lists i then suc (place_of lists i) else max (slice_index row c) (slice_index other c))) → IsReach lists new (i ∷ xs)
reach_raised lists row new other xs i is h low there raised c =
    let all : List ℕ = members (chains lists) c in
    let one = front_linked lists (λ m. joins lists m i) all (back_to lists i) (members_linked lists c) in
    let rest = front_linked lists (reaches lists xs) all (back_any lists xs) (members_linked lists c) in
    let both : max (entry lists i c) (count_in (reaches lists xs) all) ≡ count_in (reaches lists (i ∷ xs)) all = sym (count_either (λ m. joins lists m i) (reaches lists xs) all one rest) in
    let n : count_in (reaches lists xs) all ≡ slice_index row c = sym (is c) in
    raised c ∙ elim (decide (c == chain_of lists i)) [
      | inl own ↦
          let s : c ≡ chain_of lists i = grind (arith, nat_tests) in
          let e : entry lists i c ≡ suc (place_of lists i) = ap (entry lists i) s ∙ entry_of_itself lists i h in
          let l : slice_index row c ≤ place_of lists i = subst (λ (x : ℕ). slice_index row x ≤ place_of lists i) (sym s) low in
          let m : max (entry lists i c) (count_in (reaches lists xs) all) ≡ suc (place_of lists i) = grind (arith) in rw own (sym m ∙ both)
      | inr other_chain ↦
          let e : slice_index other c ≡ entry lists i c = there c (λ s. absurd (grind (arith, nat_tests))) in
          let m : max (slice_index row c) (slice_index other c) ≡ max (entry lists i c) (count_in (reaches lists xs) all) = grind (arith) in rw other_chain (m ∙ both)
    ]

-- one number more, before those that were gone through

pub taken_none : (lists : List (List ℕ)) (xs : List ℕ) → IsTaken lists [] [] (drop (length xs) xs)
taken_none lists xs = rw (drop-length xs) (reach_none lists, refl)

pub taken_covered : (lists : List (List ℕ)) (row links : List ℕ) (i : ℕ) → i < length lists → nat_lt (place_of lists i) (slice_index row (chain_of lists i)) ≡ true
    → (later : List ℕ) → IsTaken lists row links later → IsTaken lists row links (i ∷ later)
taken_covered lists row links i known test later is =
    let covered : reaches lists later i ≡ true = sym (reach_decides lists row later i is.0 known) ∙ test in
    (reach_covered lists row later i is.0 covered, rw covered is.1)

pub taken_kept : (lists : List (List ℕ)) (row new links : List ℕ) (i : ℕ) → i < length lists → nat_lt (place_of lists i) (slice_index row (chain_of lists i)) ≡ false
    → ((later : List ℕ) → IsTaken lists row links later → IsReach lists new (i ∷ later))
    → (later : List ℕ) → IsTaken lists row links later → IsTaken lists new (links ++ i ∷ []) (i ∷ later)
taken_kept lists row new links i known test joined later is =
    let not_yet : reaches lists later i ≡ false = sym (reach_decides lists row later i is.0 known) ∙ test in
    (joined later is, rw not_yet (ap (λ (ks : List ℕ). ks ++ i ∷ []) is.1 ∙ sym (reverse_more i (uncovered (joins lists) later))))
  where
    reverse_more : (x : ℕ) (xs : List ℕ) → reverse (x ∷ xs) ≡ reverse xs ++ x ∷ []
    reverse_more x xs = grind (arith, common_steps)

-- what is reached has a path to the new action

agree : (lists : List (List ℕ)) (p s c : List ℕ) → ((i : ℕ) → is_among i s ≡ is_among i p) → AreBelow (length lists) c → AllByRecursion (λ i. reaches lists s i ≡ joins (p ∷ lists) i (length lists)) c
agree lists p s [] same a = tt
agree lists p s (i ∷ c) same a =
    let h : i < length lists = a.0 in
    let apart : (i == length lists) ≡ false = grind (arith, nat_tests) in
    (any_members (λ k. joins lists i k) s p same ∙ sym (joins_newest p lists i (length lists) refl ∙ ap (λ (b : Bool). b || reaches lists p i) apart), agree lists p s c same a.1)

pub get_map : (f : List ℕ → ℕ) (xs : List (List ℕ)) (c : ℕ) → f [] ≡ 0 → get_or (map f xs) c 0 ≡ f (get_or xs c [])
get_map f [] c h = sym h
get_map f (x ∷ xs) zero h = refl
get_map f (x ∷ xs) (suc c) h = get_map f xs c h

-- of a chain, those that reach one of these have a path to the new action
pub members_agree : (lists : List (List ℕ)) (p : List ℕ) (c : ℕ) → count_in (reaches lists p) (members (chains lists) c) ≡ count_in (λ i. joins (p ∷ lists) i (length lists)) (members (chains lists) c)
members_agree lists p c =
    count_same (reaches lists p) (λ i. joins (p ∷ lists) i (length lists)) (members (chains lists) c)
    (agree lists p p (members (chains lists) c) (λ i. refl) (at_place (AreBelow (length lists)) (chains lists) c tt (chains_below lists (length lists) (omega arith))))

-- numbers with the same members are reached by the same
pub reach_same : (lists : List (List ℕ)) (row p s : List ℕ) → ((i : ℕ) → is_among i s ≡ is_among i p) → IsReach lists row s → IsReach lists row p
reach_same lists row p s same is c =
    is c ∙ count_same (reaches lists s) (reaches lists p) (members (chains lists) c) (all_of (λ i. reaches lists s i ≡ reaches lists p i) (members (chains lists) c) (λ i. any_members (λ k. joins lists i k) s p same))

-- and the links are those into the new action
pub links_made : (lists : List (List ℕ)) (p s row links : List ℕ) → IsStrictlyIncreasing s → ((i : ℕ) → is_among i s ≡ is_among i p) → All (λ k. k < length lists) p → IsTaken lists row links s → reverse links ≡ links_of (p ∷ lists) (length lists)
links_made lists p s row links sorted same known is =
    ap reverse is.1 ∙ twice (uncovered (joins lists) s)
    ∙ uncovered_kept lists p s (rises_sorted s sorted) same (recursion_from_All (λ k. k < length lists) s (known_same (length lists) s p same known))
    ∙ sym (links_newest p lists)
  where
    twice : (xs : List ℕ) → reverse (reverse xs) ≡ xs
    twice xs = grind (arith, common_steps)

-- The steps from one action to another follow links.
use Rattle.std.proofs.Common.{◌≡◌, ◌≢◌, ℕ, zero, suc, ◌<◌, ◌≤◌, true, false, List, [], ◌∷◌, ◌++◌, length, Option, Some, None, refl, sym, ap, ◌∙◌, arith, inl, inr}
use Rattle.std.specs.Prelude.{◌==◌}
use Rattle.std.specs.List.{filter}
use Rattle.std.proofs.lemmas.Bool.Decides.{nat_tests}
use Rattle.er_paths.specs.Paths.{joins, is_among}
use Rattle.er_paths.proofs.Paths.{or_left, paths_go_forward}
use Rattle.er_paths.specs.links.Links.{is_link, links_of, links}
use Rattle.er_paths.proofs.links.Tests.{decide, both, and_true, not_false, never, apart}
use Rattle.er_paths.proofs.links.Links.{links_have_the_paths, link_parts}
use Rattle.er_paths.proofs.links.Ascending.{member_links, member_filter}
use Rattle.er_paths.proofs.links.Sources.{last_source, list_of_links}
use Rattle.er_history.specs.History.{told}
use Rattle.er_history.specs.Edges.{edges}
use Rattle.er_pieces.specs.steps.Steps.{rule_of, Step, first_of, least_source, number_of, then_link, steps_within, steps}
use Rattle.er_pieces.specs.steps.Laws.{LeadsByLinks, StepsFollowLinks}
use Rattle.er_pieces.proofs.steps.Rules.{links_are_edges}

-- a least source is the source of a link, behind a path from i
pub source_parts : (lists : List (List ℕ)) (i j k : ℕ) → least_source lists i j ≡ Some k → (is_link lists k j ≡ true) × (joins lists i k ≡ true)
source_parts lists i j k e =
    let among : is_among k (filter (λ m. joins lists i m) (links_of lists j)) ≡ true = first_among (filter (λ m. joins lists i m) (links_of lists j)) k e in
    let b = both (is_among k (links_of lists j)) (joins lists i k) (sym (member_filter (λ m. joins lists i m) (links_of lists j) k) ∙ among) in
    (sym (member_links lists j k) ∙ b.0, b.1)
  where
    first_among : (xs : List ℕ) (k : ℕ) → first_of xs ≡ Some k → is_among k xs ≡ true
    first_among [] k e = absurd (cc)
    first_among (x ∷ xs) k e = let same : x ≡ k = cc in or_left (x == k) (is_among k xs) (grind (arith, nat_tests))

-- a link leads forward
pub link_forward : (lists : List (List ℕ)) (k j : ℕ) → is_link lists k j ≡ true → (k < j) × (j < length lists)
link_forward lists k j e =
    let l = link_parts (joins lists) (length lists) k j e in
    let f = paths_go_forward lists k j l.1 in
    (let le : k ≤ j = f.0 in omega (arith, l.0), f.1)

-- where a path leads to another action, there is a least source
pub source_found : (lists : List (List ℕ)) (i j : ℕ) → i ≢ j → joins lists i j ≡ true → (k : ℕ) × (least_source lists i j ≡ Some k)
source_found lists i j other e =
    let over : joins (links lists) i j ≡ true = links_have_the_paths lists i j ∙ e in
    elim (last_source (links lists) i j over) [
      | inl same ↦ absurd (other same)
      | inr step ↦
          let below : j < length lists = (paths_go_forward lists i j e).1 in
          let among : is_among step.0 (links_of lists j) ≡ true = sym (ap (is_among step.0) (list_of_links lists j below)) ∙ step.1 in
          let way : joins lists i step.0 ≡ true = sym (links_have_the_paths lists i step.0) ∙ step.2 in
          some_first (filter (λ m. joins lists i m) (links_of lists j)) step.0 (member_filter (λ m. joins lists i m) (links_of lists j) step.0 ∙ and_true _ _ among way)
    ]
  where
    some_first : (xs : List ℕ) (k : ℕ) → is_among k xs ≡ true → (n : ℕ) × (first_of xs ≡ Some n)
    some_first [] k e = absurd (cc)
    some_first (x ∷ xs) k e = (x, refl)

-- the steps to a source

source_before : (lists : List (List ℕ)) (i j k : ℕ) → least_source lists i j ≡ Some k → k < j
source_before lists i j k e = (link_forward lists k j (source_parts lists i j k e).0).0

none_to_first : (rule : ℕ → ℕ → Option ℕ) (lists : List (List ℕ)) (m i j : ℕ) → j ≤ 0 → steps_within rule lists m i j ≡ []
none_to_first rule lists zero i j l = refl
none_to_first rule lists (suc m) i j l = elim (decide (i == j)) [
  | inl e ↦ rw e refl
  | inr e ↦ rw e (by (least_source lists i j) refl)
]
  where
    by : (o : Option ℕ) → least_source lists i j ≡ o → then_link (λ k. rule k j) (steps_within rule lists m i) j o ≡ []
    by None is = refl
    by (Some k) is = absurd (let b = source_before lists i j k is in omega arith)

-- so many steps are enough
pub steps_enough : (rule : ℕ → ℕ → Option ℕ) (lists : List (List ℕ)) (n m i j : ℕ) → j ≤ n → j ≤ m → steps_within rule lists n i j ≡ steps_within rule lists m i j
steps_enough rule lists zero m i j a b = sym (none_to_first rule lists m i j a)
steps_enough rule lists (suc n) zero i j a b = none_to_first rule lists (suc n) i j b
steps_enough rule lists (suc n) (suc m) i j a b = elim (decide (i == j)) [
  | inl e ↦ rw e refl
  | inr e ↦ rw e (by (least_source lists i j) refl (λ k l. steps_enough rule lists n m i k (omega arith) (omega arith)))
]
  where
    by : (o : Option ℕ) → least_source lists i j ≡ o → ((k : ℕ) → k < j → steps_within rule lists n i k ≡ steps_within rule lists m i k)
        → then_link (λ k. rule k j) (steps_within rule lists n i) j o ≡ then_link (λ k. rule k j) (steps_within rule lists m i) j o
    by None is same = refl
    by (Some k) is same = ap (λ (before : List Step). before ++ record { source = k; target = j; rule = number_of (rule k j) } ∷ []) (same k (source_before lists i j k is))

-- no step leads from an action to itself
pub steps_none : (rule : ℕ → ℕ → Option ℕ) (lists : List (List ℕ)) (i : ℕ) → steps rule lists i i ≡ []
steps_none rule lists zero = refl
steps_none rule lists (suc i) = let e : (suc i == suc i) ≡ true = grind (arith, nat_tests) in rw e refl

-- the last step
pub steps_last : (rule : ℕ → ℕ → Option ℕ) (lists : List (List ℕ)) (i j k : ℕ) → i ≢ j → least_source lists i j ≡ Some k
    → steps rule lists i j ≡ steps rule lists i k ++ record { source = k; target = j; rule = number_of (rule k j) } ∷ []
steps_last rule lists i zero k other is = absurd (let l = source_before lists i 0 k is in omega arith)
steps_last rule lists i (suc j) k other is =
    let l = source_before lists i (suc j) k is in
    let e : (i == suc j) ≡ false = never (i == suc j) (λ t. other (grind (arith, nat_tests))) in
    rw (e, is) (ap (λ (before : List Step). before ++ record { source = k; target = suc j; rule = number_of (rule k (suc j)) } ∷ []) (steps_enough rule lists j k i k (omega arith) (omega arith)))

-- the law

leads_more : (rule : ℕ → ℕ → Option ℕ) (lists : List (List ℕ)) (i : ℕ) (before : List Step) (k j n : ℕ) → LeadsByLinks rule lists i before k → is_link lists k j ≡ true → rule k j ≡ Some n
    → LeadsByLinks rule lists i (before ++ record { source = k; target = j; rule = n } ∷ []) j
leads_more rule lists i [] k j n same link is = (sym same, ap (λ (m : ℕ). is_link lists m j) same ∙ link, ap (λ (m : ℕ). rule m j) same ∙ is, refl)
leads_more rule lists i (s ∷ before) k j n w link is = (w.0, w.1, w.2, leads_more rule lists s.target before k j n w.3 link is)

follow : (rule : ℕ → ℕ → Option ℕ) (lists : List (List ℕ)) → ((i j : ℕ) → is_link lists i j ≡ true → (n : ℕ) × (rule i j ≡ Some n)) → (n i j : ℕ) → j ≤ n → joins lists i j ≡ true → LeadsByLinks rule lists i (steps rule lists i j) j
follow rule lists ruled zero i j below e =
    let f : i ≤ j = (paths_go_forward lists i j e).0 in
    let same : i ≡ j = omega arith in
    let none : steps rule lists i j ≡ [] = ap (λ (m : ℕ). steps rule lists m j) same ∙ steps_none rule lists j in
    rw none same
follow rule lists ruled (suc n) i j below e = elim (decide (i == j)) [
  | inl t ↦
      let same : i ≡ j = grind (arith, nat_tests) in
      let none : steps rule lists i j ≡ [] = ap (λ (m : ℕ). steps rule lists m j) same ∙ steps_none rule lists j in
      rw none same
  | inr t ↦
      let other : i ≢ j = apart j i (not_false _ t) in
      let found = source_found lists i j other e in
      let k = found.0 in
      let parts = source_parts lists i j k found.1 in
      let has = ruled k j parts.0 in
      let number : number_of (rule k j) ≡ has.0 = ap number_of has.1 in
      rw (steps_last rule lists i j k other found.1, number) (leads_more rule lists i (steps rule lists i k) k j has.0 (follow rule lists ruled n i k (let l = source_before lists i j k found.1 in omega arith) parts.1) parts.0 has.1)
]

pub steps_follow_links : StepsFollowLinks
steps_follow_links table h i j e = follow (rule_of table h) (edges table (told h).actions) (λ i j link. (links_are_edges table h i j link).1) j i j (omega arith) e

-- The last step of a path, and links as lists of predecessors.
use Rattle.std.proofs.Common.{◌≡◌, ℕ, zero, suc, ◌<◌, ◌≤◌, true, List, [], ◌∷◌, length, sym, ap, ◌∙◌, arith, inl, inr, ◌⊎◌}
use Rattle.std.specs.Prelude.{◌==◌}
use Rattle.std.proofs.lemmas.Bool.Decides.{nat_tests}
use Rattle.std.proofs.Math.Path.{fun_ext}
use Rattle.er_paths.specs.Paths.{joins, is_among, list_of}
use Rattle.er_paths.specs.Laws.{GoForward}
use Rattle.er_paths.proofs.Paths.{joins_below, joins_older, joins_newest_cases, list_newest, list_older, listed_below, place_cases, paths_go_forward}
use Rattle.er_paths.specs.links.Links.{links, links_of, links_to, is_link}
use Rattle.er_paths.proofs.links.Tests.{decide}
use Rattle.er_paths.proofs.links.Links.{joins_still, length-links, links_have_the_paths, links_long, link_parts}
use Rattle.er_paths.proofs.links.Ascending.{member_links}

-- the last step of a path
pub last_source : (lists : List (List ℕ)) (i j : ℕ) → joins lists i j ≡ true → (i ≡ j) ⊎ ((s : ℕ) × (is_among s (list_of lists j) ≡ true) × (joins lists i s ≡ true))
last_source [] i j e = absurd (cc)
last_source (p ∷ older) i j e = elim (place_cases j (length older)) [
  | inl below ↦ elim (last_source older i j (sym (joins_older p older i j below) ∙ e)) [
    | inl same ↦ inl same
    | inr step ↦ inr (step.0, ap (is_among step.0) (list_older p older j below) ∙ step.1, joins_still p older i step.0 step.2)
  ]
  | inr rest ↦
      let newest : j ≡ length older = omega (arith, joins_below (p ∷ older) i j e) in
      elim (joins_newest_cases p older i j newest e) [
        | inl same ↦ inl same
        | inr step ↦ inr (step.0, ap (is_among step.0) (list_newest p older j newest) ∙ step.1, joins_still p older i step.0 step.2)
      ]
]

-- links as lists

list_of_links_to : (lists : List (List ℕ)) (n j : ℕ) → j < n → list_of (links_to lists n) j ≡ links_of lists j
list_of_links_to lists zero j l = absurd (omega arith)
list_of_links_to lists (suc n) j l = elim (decide (j == n)) [
  | inl s ↦
      let same : j ≡ n = grind (arith, nat_tests) in
      list_newest (links_of lists n) (links_to lists n) j (same ∙ sym (links_long lists n)) ∙ ap (links_of lists) (sym same)
  | inr s ↦
      let less : j < n = grind (arith, nat_tests) in
      list_older (links_of lists n) (links_to lists n) j (omega (arith, links_long lists n)) ∙ list_of_links_to lists n j less
]

pub list_of_links : (lists : List (List ℕ)) (j : ℕ) → j < length lists → list_of (links lists) j ≡ links_of lists j
list_of_links lists j l = list_of_links_to lists (length lists) j l

pub links_go_forward : (lists : List (List ℕ)) → GoForward (links lists)
links_go_forward lists i j e =
    let below : j < length lists = omega (arith, listed_below (links lists) i j e, length-links lists) in
    let among : is_among i (links_of lists j) ≡ true = sym (ap (is_among i) (list_of_links lists j below)) ∙ e in
    let link : is_link lists i j ≡ true = sym (member_links lists j i) ∙ among in
    let l = link_parts (joins lists) (length lists) i j link in
    let f : i ≤ j = (paths_go_forward lists i j l.1).0 in
    omega (arith, l.0)

pub paths_of_links : (lists : List (List ℕ)) → joins (links lists) ≡ joins lists
paths_of_links lists = fun_ext (λ i. fun_ext (λ j. links_have_the_paths lists i j))

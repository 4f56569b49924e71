-- Whether sources stand before what they lead to, and what that says of paths.
use Rattle.std.proofs.Common.{◌≡◌, ℕ, ◌+◌, ◌<◌, ◌≤◌, Bool, true, false, List, [], ◌∷◌, length, refl, ap, ◌∙◌, arith, inl, inr}
use Rattle.std.specs.Prelude.{◌==◌, ◌&&◌, not, nat_lt}
use Rattle.std.specs.List.{list_any, list_all}
use Rattle.std.proofs.lemmas.Bool.Decides.{nat_tests}
use Rattle.er_paths.specs.Paths.{joins, is_among, list_of}
use Rattle.er_paths.specs.Laws.{GoForward}
use Rattle.er_paths.proofs.Paths.{or_cases, or_left, or_right, edge_joins}
use Rattle.er_paths.specs.links.Links.{links}
use Rattle.er_paths.proofs.links.Tests.{decide, same_test, both, and_true, never, apart_true}
use Rattle.er_paths.proofs.links.Links.{length-links}
use Rattle.er_paths.proofs.links.Sources.{last_source, links_go_forward, paths_of_links}
use Rattle.er_paths.specs.orders.Orders.{times, has_each_once, none_leads_back, has_edge, leads_on, is_lawful, keeps_paths}
use Rattle.er_paths.specs.orders.Laws.{LawfulOrdersKeepPaths, LinksDecide}
use Rattle.er_paths.proofs.orders.Times.{times_among, among_times, all_from, all_at, once_at, once_below, once_at_most}
use Rattle.er_paths.proofs.orders.Orders.{none_from, at_first}

-- each source stands before what it leads to, from these on, which stand before
abbrev pub follows : (ℕ → List ℕ) → List ℕ → List ℕ → Bool
follows sources before [] = true
follows sources before (k ∷ later) = list_all (λ s. is_among s before) (sources k) && follows sources (k ∷ before) later

-- each number stands once at most, here or there
abbrev pub OnceAtMost : List ℕ → List ℕ → Type 0
OnceAtMost before later = (m : ℕ) → times m before + times m later ≤ 1

pub moves_on : (before later : List ℕ) (k m : ℕ) → times m (k ∷ before) + times m later ≡ times m before + times m (k ∷ later)
moves_on before later k m = elim (decide (k == m)) [
  | inl e ↦ rw e (omega arith)
  | inr e ↦ rw e refl
]

once_on : (before later : List ℕ) (k : ℕ) → OnceAtMost before (k ∷ later) → OnceAtMost (k ∷ before) later
once_on before later k once m = omega (arith, moves_on before later k m, once m)

-- what has a path to one of these is one of these
abbrev pub IsClosed : List (List ℕ) → List ℕ → Type 0
IsClosed lists before = (x y : ℕ) → is_among x before ≡ true → joins lists y x ≡ true → is_among y before ≡ true

closed_on : (lists : List (List ℕ)) (before : List ℕ) (k : ℕ) → IsClosed lists before → list_all (λ s. is_among s before) (list_of lists k) ≡ true → IsClosed lists (k ∷ before)
closed_on lists before k closed all x y among e = elim (or_cases (k == x) (is_among x before) among) [
  | inr in_before ↦ or_right (k == y) (is_among y before) (closed x y in_before e)
  | inl same ↦
      let is : k ≡ x = grind (arith, nat_tests) in
      elim (last_source lists y k (ap (joins lists y) is ∙ e)) [
        | inl self ↦ or_left (k == y) (is_among y before) (grind (arith, nat_tests))
        | inr step ↦ or_right (k == y) (is_among y before) (closed step.0 y (all_at (λ s. is_among s before) (list_of lists k) step.0 all step.1) step.2)
      ]
]

-- where sources stand before, no path leads back
paths_follow : (lists : List (List ℕ)) (before later : List ℕ) → IsClosed lists before → OnceAtMost before later → follows (list_of lists) before later ≡ true → none_leads_back (leads_on (joins lists)) later ≡ true
paths_follow lists before [] closed once e = refl
paths_follow lists before (k ∷ later) closed once e =
    let b = both (list_all (λ s. is_among s before) (list_of lists k)) (follows (list_of lists) (k ∷ before) later) e in
    let more = closed_on lists before k closed b.0 in
    none_from (leads_on (joins lists)) k later
    (λ m among t.
    let c = both (not (m == k)) (joins lists m k) t in
    let here : is_among m (k ∷ before) ≡ true = more k m (or_left (k == k) (is_among k before) (grind (arith, nat_tests))) c.1 in
    let one = times_among m (k ∷ before) here in
    let two = times_among m later among in
    let few = once_on before later k once m in
    omega arith)
    (paths_follow lists (k ∷ before) later more (once_on before later k once) b.1)

-- where no edge leads back, sources stand before
edges_follow : (lists : List (List ℕ)) (n : ℕ) (before later : List ℕ) → GoForward lists → ((m : ℕ) → m < n → times m before + times m later ≡ 1) → ((k : ℕ) → is_among k later ≡ true → k < n)
    → none_leads_back (has_edge lists) later ≡ true → follows (list_of lists) before later ≡ true
edges_follow lists n before [] forward each below e = refl
edges_follow lists n before (k ∷ later) forward each below e =
    let b = both (not (list_any (λ m. has_edge lists m k) later)) (none_leads_back (has_edge lists) later) e in
    let here : k < n = below k (or_left (k == k) (is_among k later) (grind (arith, nat_tests))) in
    and_true _ _
    (all_from (λ s. is_among s before) (list_of lists k) (λ s source.
    let l : s < k = forward s k source in
    let one : times s before + times s (k ∷ later) ≡ 1 = each s (omega arith) in
    let moved = moves_on before later k s in
    let not_k : (k == s) ≡ false = never (k == s) (λ t. let same : k ≡ s = grind (arith, nat_tests) in absurd (omega arith)) in
    let later_none : times s later < 1 = elim (decide (is_among s later)) [
      | inl among ↦ absurd (at_first (has_edge lists) k later s b.0 among source)
      | inr none ↦ elim (decide (nat_lt 0 (times s later))) [
        | inl some ↦ let among : is_among s later ≡ true = among_times s later (grind (arith, nat_tests)) in absurd (cc)
        | inr some ↦ grind (arith, nat_tests)
      ]
    ] in
    let same_count : times s (k ∷ later) ≡ times s later = rw not_k refl in
    among_times s before (omega arith)))
    (edges_follow lists n (k ∷ before) later forward (λ m l. moves_on before later k m ∙ each m l) (λ m a. below m (or_right (k == m) (is_among m later) a)) b.1)

-- an edge is a path to another
edge_leads_on : (lists : List (List ℕ)) (i j : ℕ) → GoForward lists → has_edge lists i j ≡ true → leads_on (joins lists) i j ≡ true
edge_leads_on lists i j forward e =
    let l : i < j = forward i j e in
    and_true _ _ (apart_true j i (λ s. absurd (omega arith))) (edge_joins lists i j l e)

none_fewer : (more fewer : ℕ → ℕ → Bool) (xs : List ℕ) → ((m k : ℕ) → fewer m k ≡ true → more m k ≡ true) → none_leads_back more xs ≡ true → none_leads_back fewer xs ≡ true
none_fewer more fewer [] f e = refl
none_fewer more fewer (k ∷ later) f e =
    let b = both (not (list_any (λ m. more m k) later)) (none_leads_back more later) e in
    none_from fewer k later (λ m among t. at_first more k later m b.0 among (f m k t)) (none_fewer more fewer later f b.1)

nothing_closed : (lists : List (List ℕ)) → IsClosed lists []
nothing_closed lists x y among e = absurd (cc)

pub lawful_orders_keep_paths : LawfulOrdersKeepPaths
lawful_orders_keep_paths lists order forward = same_test _ _
    (λ e.
    let b = both (has_each_once (length lists) order) (none_leads_back (has_edge lists) order) e in
    let fine : follows (list_of lists) [] order ≡ true = edges_follow lists (length lists) [] order forward (λ m l. let one = once_at (length lists) order m b.0 l in omega arith) (λ k a. once_below (length lists) order k b.0 a) b.1 in
    and_true _ _ b.0 (paths_follow lists [] order (nothing_closed lists) (λ m. let few = once_at_most (length lists) order m b.0 in omega arith) fine))
    (λ e.
    let b = both (has_each_once (length lists) order) (none_leads_back (leads_on (joins lists)) order) e in
    and_true _ _ b.0 (none_fewer (leads_on (joins lists)) (has_edge lists) order (λ m k t. edge_leads_on lists m k forward t) b.1))

pub links_decide : LinksDecide
links_decide lists order =
    lawful_orders_keep_paths (links lists) order (links_go_forward lists)
    ∙ ap (λ (joined : ℕ → ℕ → Bool). keeps_paths joined (length (links lists)) order) (paths_of_links lists)
    ∙ ap (λ (n : ℕ). keeps_paths (joins lists) n order) (length-links lists)

-- an order is lawful exactly where each source stands before what it leads to
pub lawful_follows : (lists : List (List ℕ)) (order : List ℕ) → GoForward lists → is_lawful lists order ≡ (has_each_once (length lists) order && follows (list_of lists) [] order)
lawful_follows lists order forward = same_test _ _
    (λ e.
    let b = both (has_each_once (length lists) order) (none_leads_back (has_edge lists) order) e in
    and_true _ _ b.0 (edges_follow lists (length lists) [] order forward (λ m l. let one = once_at (length lists) order m b.0 l in omega arith) (λ k a. once_below (length lists) order k b.0 a) b.1))
    (λ e.
    let b = both (has_each_once (length lists) order) (follows (list_of lists) [] order) e in
    let none = paths_follow lists [] order (nothing_closed lists) (λ m. let few = once_at_most (length lists) order m b.0 in omega arith) b.1 in
    and_true _ _ b.0 (none_fewer (leads_on (joins lists)) (has_edge lists) order (λ m k t. edge_leads_on lists m k forward t) none))

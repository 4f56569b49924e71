-- What clocks tell of paths, and how the parts of an order grow.
use Rattle.std.proofs.Common.{◌≡◌, ℕ, zero, suc, ◌+◌, ◌-◌, ◌<◌, ◌≤◌, Bool, false, List, [], ◌∷◌, ◌++◌, length, get_or, drop, refl, sym, ap, ◌∙◌, arith, inl, inr, add-one, append-nil}
use Rattle.std.specs.Prelude.{◌==◌, ◌||◌, ◌&&◌, if◌then◌else◌}
use Rattle.std.specs.List.{filter}
use native.Mathlib.Numerals.{unary_clauses}
use Rattle.std.proofs.lemmas.List.Elements.{filter-append}
use Rattle.std.proofs.lemmas.Bool.Decides.{nat_tests}
use Rattle.er_paths.specs.Paths.{joins}
use Rattle.er_paths.specs.Laws.{GoForward}
use Rattle.er_paths.specs.links.Links.{numbers_below}
use Rattle.er_paths.proofs.links.Tests.{decide}
use Rattle.er_paths.proofs.links.Links.{length-links, links_have_the_paths}
use Rattle.er_clocks.specs.Clock.{StandsFor}
use Rattle.er_paths.specs.orders.Orders.{is_next, before_order, after_order}
use Rattle.er_paths.specs.orders.Laws.{AreApart}
use Rattle.er_paths.proofs.orders.Orders.{both_orders_are_lawful}
use Rattle.er_schedule.specs.Schedules.{AreLawful}

pub long_told : (kept lists : List (List ℕ)) → StandsFor kept lists → length kept ≡ length lists
long_told kept lists stands = ap length stands.are_links ∙ length-links lists

pub path_told : (kept lists : List (List ℕ)) (i j : ℕ) → StandsFor kept lists → joins kept i j ≡ joins lists i j
path_told kept lists i j stands = ap (λ (ls : List (List ℕ)). joins ls i j) stands.are_links ∙ links_have_the_paths lists i j

-- one number more, where it passes
pub filter_more : (t : ℕ → Bool) (n : ℕ) → filter t (numbers_below (n + 1)) ≡ (if t n then filter t (numbers_below n) ++ n ∷ [] else filter t (numbers_below n))
filter_more t n = rw add-one (filter-append t (numbers_below n) (n ∷ []) ∙ last)
  where
    last : filter t (numbers_below n) ++ filter t (n ∷ []) ≡ (if t n then filter t (numbers_below n) ++ n ∷ [] else filter t (numbers_below n))
    last = elim (decide (t n)) [
      | inl e ↦ rw e refl
      | inr e ↦ rw e (append-nil (filter t (numbers_below n)))
    ]

pub part_more : (t : ℕ → Bool) (n : ℕ) (old new : List ℕ) → old ≡ filter t (numbers_below n) → new ≡ (if t n then old ++ n ∷ [] else old) → new ≡ filter t (numbers_below (n + 1))
part_more t n old new so_far one = one ∙ ap (λ (xs : List ℕ). if t n then xs ++ n ∷ [] else xs) so_far ∙ sym (filter_more t n)

pub part_whole : (t : ℕ → Bool) (kept lists : List (List ℕ)) (n : ℕ) (found : List ℕ) → StandsFor kept lists → n ≡ length kept → found ≡ filter t (numbers_below n) → found ≡ filter t (numbers_below (length lists))
part_whole t kept lists n found stands long is = is ∙ ap (λ (m : ℕ). filter t (numbers_below m)) (long ∙ long_told kept lists stands)

-- one place of an order, and those behind it
pub next_step : (i j : ℕ) (order : List ℕ) (k : ℕ) → k + 1 < length order → is_next i j (drop k order) ≡ (((get_or order k 0 == i) && (get_or order (k + 1) 0 == j)) || is_next i j (drop (k + 1) order))
next_step i j [] k l = absurd (omega arith)
next_step i j (x ∷ []) k l = absurd (omega arith)
next_step i j (x ∷ y ∷ rest) zero l = refl
next_step i j (x ∷ y ∷ rest) (suc k) l = simp unary_clauses (simp unary_clauses at (next_step i j (y ∷ rest) k (omega arith)))

alone : (i j x : ℕ) → is_next i j (x ∷ []) ≡ false
alone i j x = grind (arith, nat_tests)

drop_none : (k : ℕ) → drop {A = ℕ} k [] ≡ []
drop_none zero = refl
drop_none (suc k) = refl

-- no member stands before another where at most one is left
pub next_last : (i j : ℕ) (order : List ℕ) (k : ℕ) → length order ≤ k + 1 → is_next i j (drop k order) ≡ false
next_last i j [] k l = rw (drop_none k) refl
next_last i j (x ∷ []) zero l = alone i j x
next_last i j (x ∷ []) (suc k) l = rw (drop_none k) refl
next_last i j (x ∷ y ∷ rest) zero l = absurd (omega arith)
next_last i j (x ∷ y ∷ rest) (suc k) l = next_last i j (y ∷ rest) k (omega arith)

-- both orders are lawful
pub both_lawful : (kept lists : List (List ℕ)) (i j : ℕ) (first second : List ℕ) → StandsFor kept lists → GoForward lists → i < j → j < length kept → joins kept i j ≡ false
    → first ≡ before_order (joins lists) (length lists) i j → second ≡ after_order (joins lists) (length lists) i j → AreLawful lists (record { first = first; second = second })
both_lawful kept lists i j first second stands forward earlier begun apart is_first is_second =
    let are : AreApart lists i j = record { earlier = earlier; begun = omega (arith, long_told kept lists stands, begun); no_path = sym (path_told kept lists i j stands) ∙ apart } in
    let both = both_orders_are_lawful lists i j forward are in
    rw (is_first, is_second) (record { first = both.0; second = both.1 })

-- the parts and what stands between them
pub made_of : (front before rest after order : List ℕ) (x y : ℕ) → order ≡ front ++ x ∷ y ∷ rest → front ≡ before → rest ≡ after → order ≡ before ++ x ∷ y ∷ after
made_of front before rest after order x y is first second = is ∙ ap (λ (xs : List ℕ). xs ++ x ∷ y ∷ rest) first ∙ ap (λ (ys : List ℕ). before ++ x ∷ y ∷ ys) second

-- one place more at which the two do not stand
pub next_more : (i j : ℕ) (order : List ℕ) (n : ℕ) → 1 ≤ n → n < length order → false ≡ ((get_or order (n - 1) 0 == i) && (get_or order n 0 == j))
    → is_next i j (drop (n - 1) order) ≡ is_next i j order → is_next i j (drop (n + 1 - 1) order) ≡ is_next i j order
next_more i j order n begun below not_here so_far =
    let place : n - 1 + 1 ≡ n = omega arith in
    let after : n + 1 - 1 ≡ n = omega arith in
    let step : is_next i j (drop (n - 1) order) ≡ (((get_or order (n - 1) 0 == i) && (get_or order n 0 == j)) || is_next i j (drop n order)) = rw place at (next_step i j order (n - 1) (omega arith)) in
    let on : is_next i j (drop (n - 1) order) ≡ is_next i j (drop n order) = step ∙ ap (λ (b : Bool). b || is_next i j (drop n order)) (sym not_here) in
    rw after (sym on ∙ so_far)

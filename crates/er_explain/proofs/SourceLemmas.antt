-- What clocks tell of paths and of the links into an action.
use Rattle.std.proofs.Common.{◌≡◌, ℕ, zero, suc, ◌+◌, ◌<◌, true, false, List, [], ◌∷◌, length, get_or, drop, Some, refl, sym, ap, ◌∙◌, arith}
use Rattle.std.specs.Prelude.{◌==◌}
use Rattle.std.specs.List.{filter}
use Rattle.std.proofs.Math.Logic.{∥∥₁_elim}
use Rattle.std.proofs.Props.{props}
use Rattle.std.proofs.Math.Seq.{drop-cons}
use Rattle.std.proofs.lemmas.Bool.Decides.{nat_tests}
use Rattle.er_paths.specs.Paths.{joins, is_among}
use Rattle.er_paths.proofs.Paths.{or_left, or_right}
use Rattle.er_paths.specs.links.Links.{links_of}
use Rattle.er_paths.proofs.links.Links.{length-links}
use Rattle.er_paths.proofs.links.Ascending.{member_links}
use Rattle.er_clocks.specs.Clock.{StandsFor}
use Rattle.er_pieces.specs.steps.Steps.{first_of, least_source}
use Rattle.er_pieces.proofs.steps.Steps.{link_forward}
use Rattle.er_explain.specs.Steps.{AreSome}

pub long_told : (kept lists : List (List ℕ)) → StandsFor kept lists → length kept ≡ length lists
long_told kept lists stands = ap length stands.are_links ∙ length-links lists

-- sources of links are earlier

among_at : (xs : List ℕ) (i : ℕ) → i < length xs → is_among (get_or xs i 0) xs ≡ true
among_at [] i l = absurd (omega arith)
among_at (x ∷ xs) zero l = or_left (x == x) (is_among x xs) (grind (arith, nat_tests))
among_at (x ∷ xs) (suc i) l = or_right (x == get_or xs i 0) (is_among (get_or xs i 0) xs) (among_at xs i (omega arith))

pub source_earlier : (kept : List (List ℕ)) (at : ℕ) (found : List ℕ) (i : ℕ) → ∥ AreSome kept ∥₁ → ((lists : List (List ℕ)) → StandsFor kept lists → found ≡ links_of lists at) → i < length found → get_or found i 0 < at
source_earlier kept at found i some tells below = ∥∥₁_elim some (hlevel props) (λ one.
    let is = tells one.lists one.stands in
    let among : is_among (get_or found i 0) (links_of one.lists at) ≡ true = ap (is_among (get_or found i 0)) (sym is) ∙ among_at found i below in
    (link_forward one.lists (get_or found i 0) at (sym (member_links one.lists at (get_or found i 0)) ∙ among)).0)

-- the first source that is reached

pub source_here : (lists : List (List ℕ)) (from at : ℕ) (found : List ℕ) (i : ℕ) → i < length found → true ≡ joins lists from (get_or found i 0)
    → first_of (filter (λ k. joins lists from k) (drop i found)) ≡ least_source lists from at → Some (get_or found i 0) ≡ least_source lists from at
source_here lists from at found i below here so_far =
    let split : drop i found ≡ get_or found i 0 ∷ drop (suc i) found = drop-cons found i 0 below in
    let e : joins lists from (get_or found i 0) ≡ true = sym here in
    let first : first_of (filter (λ k. joins lists from k) (get_or found i 0 ∷ drop (suc i) found)) ≡ Some (get_or found i 0) = rw e refl in
    sym first ∙ ap (λ (xs : List ℕ). first_of (filter (λ k. joins lists from k) xs)) (sym split) ∙ so_far

pub source_on : (lists : List (List ℕ)) (from at : ℕ) (found : List ℕ) (i : ℕ) → i < length found → false ≡ joins lists from (get_or found i 0)
    → first_of (filter (λ k. joins lists from k) (drop i found)) ≡ least_source lists from at → first_of (filter (λ k. joins lists from k) (drop (i + 1) found)) ≡ least_source lists from at
source_on lists from at found i below here so_far =
    let split : drop i found ≡ get_or found i 0 ∷ drop (suc i) found = drop-cons found i 0 below in
    let e : joins lists from (get_or found i 0) ≡ false = sym here in
    let one : i + 1 ≡ suc i = omega arith in
    let rest : filter (λ k. joins lists from k) (get_or found i 0 ∷ drop (suc i) found) ≡ filter (λ k. joins lists from k) (drop (suc i) found) = rw e refl in
    rw one (ap first_of (sym rest) ∙ ap (λ (xs : List ℕ). first_of (filter (λ k. joins lists from k) xs)) (sym split) ∙ so_far)

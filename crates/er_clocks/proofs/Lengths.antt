-- Steps of the proofs about lengths.
use Rattle.std.proofs.Common.{◌≡◌, ℕ, zero, suc, ◌+◌, ◌<◌, ◌≤◌, List, [], ◌∷◌, ◌++◌, length, get_or, set, refl, ap, arith, All, sum}
use Rattle.std.specs.List.{AllByRecursion}
use Rattle.std.proofs.lemmas.Grind.{common_steps}
use Rattle.std.proofs.lemmas.List.Elements.{recursion_from_All}
use Rattle.er_clocks.specs.Lengths.{one_more}

few_by_recursion : (xs : List ℕ) → AllByRecursion (λ n. 0 < n) xs → length xs ≤ sum xs
few_by_recursion [] a = omega arith
few_by_recursion (x ∷ xs) a = let l : 0 < x = a.0 in let e : length xs ≤ sum xs = few_by_recursion xs a.1 in grind (arith, common_steps)

-- no more chains than members
pub few_chains : (xs : List ℕ) → All (λ n. 0 < n) xs → length xs ≤ sum xs
few_chains xs a = few_by_recursion xs (recursion_from_All (λ n. 0 < n) xs a)

pub more_set : (xs : List ℕ) (x v : ℕ) → x < length xs → v ≡ get_or xs x 0 → set xs x (v + 1) ≡ one_more x xs
more_set [] x v h e = absurd (omega arith)
more_set (n ∷ xs) zero v h e = ap (λ (m : ℕ). m ∷ xs) (omega arith)
more_set (n ∷ xs) (suc x) v h e = ap (λ (ms : List ℕ). n ∷ ms) (more_set xs x v (omega arith) e)

pub more_end : (xs : List ℕ) (x : ℕ) → x ≤ length xs → length xs ≤ x → xs ++ 1 ∷ [] ≡ one_more x xs
more_end [] x h k = refl
more_end (n ∷ xs) zero h k = absurd (omega arith)
more_end (n ∷ xs) (suc x) h k = ap (λ (ms : List ℕ). n ∷ ms) (more_end xs x (omega arith) (omega arith))

pub ruleset lengthens = (few_chains, more_set, more_end)

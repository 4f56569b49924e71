-- The least number of a test that passes.
use Rattle.std.proofs.Common.{◌≡◌, ℕ, suc, ◌+◌, ◌<◌, ◌≤◌, Bool, true, false, List, [], ◌∷◌, ◌++◌, length, get_or, drop, Option, Some, None, refl, sym, ap, ◌∙◌, arith, inl, inr}
use Rattle.std.specs.Prelude.{nat_lt}
use Rattle.std.proofs.Math.Seq.{drop-cons}
use Rattle.std.proofs.lemmas.Bool.Decides.{nat_tests}
use Rattle.er_paths.proofs.links.Tests.{decide, never}
use Rattle.er_history.specs.History.{Event}
use Rattle.er_history.specs.Rules.{Rule}
use Rattle.er_pieces.specs.steps.Steps.{lesser, given, least_rule}
use Rattle.er_reasons.specs.Numbers.{least_from}

lesser_none : (o : Option ℕ) → lesser o None ≡ o
lesser_none None = refl
lesser_none (Some n) = refl

-- a number that is above none of the others
lesser_first : (k : ℕ) (o : Option ℕ) → ((n : ℕ) → o ≡ Some n → k ≤ n) → lesser (Some k) o ≡ Some k
lesser_first k None f = refl
lesser_first k (Some n) f = let l : nat_lt n k ≡ false = (let le : k ≤ n = f n refl in grind (arith, nat_tests)) in rw l refl

pub least_above : (k : ℕ) (tests : List Bool) (n : ℕ) → least_from k tests ≡ Some n → k ≤ n
least_above k [] n e = absurd (cc)
least_above k (true ∷ more) n e =
    let first : lesser (Some k) (least_from (k + 1) more) ≡ Some k = lesser_first k (least_from (k + 1) more) (λ m f. let l = least_above (k + 1) more m f in omega arith) in
    let same : Some k ≡ Some n = sym first ∙ e in
    let is : k ≡ n = cc in omega arith
least_above k (false ∷ more) n e = let l = least_above (k + 1) more n e in omega arith

pub least_here : (first : ℕ) (tests : List Bool) (n : ℕ) → n < length tests → get_or tests n false ≡ true → least_from (first + n) (drop n tests) ≡ least_from first tests → Some (first + n) ≡ least_from first tests
least_here first tests n below here so_far =
    let k = first + n in
    let split : drop n tests ≡ true ∷ drop (suc n) tests = drop-cons tests n false below ∙ ap (λ (b : Bool). b ∷ drop (suc n) tests) here in
    let rest : least_from k (true ∷ drop (suc n) tests) ≡ Some k = lesser_first k (least_from (k + 1) (drop (suc n) tests)) (λ m f. let l = least_above (k + 1) (drop (suc n) tests) m f in omega arith) in
    sym rest ∙ ap (least_from k) (sym split) ∙ so_far

pub least_on : (first : ℕ) (tests : List Bool) (n : ℕ) → n < length tests → get_or tests n false ≡ false → least_from (first + n) (drop n tests) ≡ least_from first tests → least_from (first + (n + 1)) (drop (n + 1) tests) ≡ least_from first tests
least_on first tests n below here so_far =
    let split : drop n tests ≡ false ∷ drop (suc n) tests = drop-cons tests n false below ∙ ap (λ (b : Bool). b ∷ drop (suc n) tests) here in
    let one : n + 1 ≡ suc n = omega arith in
    let place : first + (n + 1) ≡ first + n + 1 = omega arith in
    let later : least_from (first + (n + 1)) (drop (n + 1) tests) ≡ least_from (first + n + 1) (drop (suc n) tests) = ap (λ (k : ℕ). least_from k (drop (n + 1) tests)) place ∙ ap (λ (m : ℕ). least_from (first + n + 1) (drop m tests)) one in
    later ∙ ap (least_from (first + n)) (sym split) ∙ so_far

-- rules of several families

lesser_assoc : (a b c : Option ℕ) → lesser (lesser a b) c ≡ lesser a (lesser b c)
lesser_assoc None b c = refl
lesser_assoc (Some n) None c = refl
lesser_assoc (Some n) (Some m) None = lesser_none (lesser (Some n) (Some m))
lesser_assoc (Some n) (Some m) (Some k) = elim (decide (nat_lt m n)) [
  | inl a ↦ elim (decide (nat_lt k m)) [
    | inl b ↦ let c : nat_lt k n ≡ true = grind (arith, nat_tests) in rw (a, b, c) refl
    | inr b ↦ rw (a, b, a) refl
  ]
  | inr a ↦ elim (decide (nat_lt k m)) [
    | inl b ↦ rw (a, b) refl
    | inr b ↦ let c : nat_lt k n ≡ false = never (nat_lt k n) (λ t. absurd (grind (arith, nat_tests))) in rw (a, b, c, a) refl
  ]
]

pub least_append : (xs ys : List (ℕ × Rule)) (joined : ℕ → ℕ → Bool) (u v : Event) → least_rule (xs ++ ys) joined u v ≡ lesser (least_rule xs joined u v) (least_rule ys joined u v)
least_append [] ys joined u v = refl
least_append (r ∷ xs) ys joined u v =
    ap (lesser (given (r.1 joined u v) r.0)) (least_append xs ys joined u v)
    ∙ sym (lesser_assoc (given (r.1 joined u v) r.0) (least_rule xs joined u v) (least_rule ys joined u v))

-- The bytes before the first that needs an escape.
use Rattle.std.proofs.Common.{◌≡◌, ℕ, suc, ◌+◌, List, [], ◌∷◌, take, Bool, true, false, not, ◌&&◌, cond, Some, refl, ap, ◌∙◌, arith}
use Rattle.std.specs.Prelude.{position}
use Rattle.std.specs.List.{list_all, position_or_len}
use Rattle.std.proofs.lemmas.Grind.{common_steps}
use Rattle.er_lines.specs.json_line.Plain.{needs_no_escape}

passes_before : (test : ℕ → Bool) (bytes : List ℕ) → list_all test (take (position_or_len (λ b. not (test b)) bytes) bytes) ≡ true
passes_before test [] = refl
passes_before test (b ∷ bytes) = by (test b) refl (passes_before test bytes)
  where
    by : (t : Bool) → test b ≡ t → list_all test (take (position_or_len (λ c. not (test c)) bytes) bytes) ≡ true
        → list_all test (take (cond (not (not t)) (1 + position_or_len (λ c. not (test c)) bytes) 0) (b ∷ bytes)) ≡ true
    by false e before = refl
    by true e before =
        let more : 1 + position_or_len (λ c. not (test c)) bytes ≡ suc (position_or_len (λ c. not (test c)) bytes) = omega arith in
        ap (λ k. list_all test (take k (b ∷ bytes))) more
        ∙ (ap (λ t. t && list_all test (take (position_or_len (λ c. not (test c)) bytes) bytes)) e ∙ before)

pub plain_before : (bytes : List ℕ) (k : ℕ) → Some k ≡ position (λ b. not (needs_no_escape b)) bytes → list_all needs_no_escape (take k bytes) ≡ true
plain_before bytes k h =
    let test : ℕ → Bool = λ b. not (needs_no_escape b) in
    let at : k ≡ position_or_len test bytes = grind (arith, common_steps) in
    ap (λ n. list_all needs_no_escape (take n bytes)) at ∙ passes_before needs_no_escape bytes

-- The first line of some bytes.
use Rattle.std.proofs.Common.{◌≡◌, ℕ, ◌+◌, ◌-◌, ◌<◌, List, [], ◌∷◌, ◌++◌, length, take, drop, Bool, true, false, cond, refl, arith, Option, Some, None}
use Rattle.std.specs.Prelude.{◌==◌, ◌≤◌, option_map, position}
use Rattle.std.specs.List.{position_or_len}
use Rattle.std.proofs.lemmas.List.{take_rest}
use Rattle.std.proofs.lemmas.Grind.{common_steps}
use Rattle.er_text.specs.Bytes.{has_no_lf}
use Rattle.er_text.specs.Lines.{first_line}

-- a line with its end, and more bytes
pub first_line-at : (line rest : List ℕ) → has_no_lf line ≡ true → first_line (line ++ 10 ∷ rest) ≡ Some (line, rest)
first_line-at [] rest h = refl
first_line-at (b ∷ line) rest h = grind (arith, common_steps, first_line-at line rest)

first_line_within : (bytes : List ℕ) → position_or_len (λ b. b == 10) bytes < length bytes → first_line bytes ≡ Some (take (position_or_len (λ b. b == 10) bytes) bytes, drop (position_or_len (λ b. b == 10) bytes + 1) bytes)
first_line_within [] h = grind arith
first_line_within (b ∷ bytes) h = grind (arith, common_steps, first_line_within bytes)

first_line_past : (bytes : List ℕ) → length bytes ≤ position_or_len (λ b. b == 10) bytes → first_line bytes ≡ None
first_line_past [] h = refl
first_line_past (b ∷ bytes) h = grind (arith, common_steps, first_line_past bytes)

-- by the place of the first line end
pub first_line_found : (bytes : List ℕ) (k : ℕ) → Some k ≡ position (λ b. b == 10) bytes → first_line bytes ≡ Some (take k bytes, take (length bytes - (k + 1)) (drop (k + 1) bytes))
first_line_found bytes k h = grind (arith, common_steps, first_line_within bytes, take_rest bytes (k + 1))

pub first_line_missing : (bytes : List ℕ) → None ≡ position (λ b. b == 10) bytes → first_line bytes ≡ None
first_line_missing bytes h = grind (arith, common_steps, first_line_past bytes)

-- the bytes are a line, its end, and more bytes
abbrev AreParts : List ℕ → List ℕ → List ℕ → Type 0
AreParts bytes line rest = (has_no_lf line ≡ true) × (bytes ≡ line ++ 10 ∷ rest)

abbrev with_byte : ℕ → List ℕ × List ℕ → List ℕ × List ℕ
with_byte b parts = (b ∷ parts.0, parts.1)

parts_after : (b : ℕ) (bytes line rest : List ℕ) (before : Option (List ℕ × List ℕ)) → (b == 10) ≡ false
    → ((l r : List ℕ) → before ≡ Some (l, r) → AreParts bytes l r)
    → option_map (with_byte b) before ≡ Some (line, rest) → AreParts (b ∷ bytes) line rest
parts_after b bytes line rest None other earlier h = cc
parts_after b bytes line rest (Some (l, r)) other earlier h = grind (arith, common_steps, earlier l r refl)

parts_by_byte : (b : ℕ) (bytes line rest : List ℕ) (t : Bool) → (b == 10) ≡ t
    → ((l r : List ℕ) → first_line bytes ≡ Some (l, r) → AreParts bytes l r)
    → cond {A = Option (List ℕ × List ℕ)} t (Some ([], bytes)) (option_map (with_byte b) (first_line bytes)) ≡ Some (line, rest) → AreParts (b ∷ bytes) line rest
parts_by_byte b bytes line rest true here earlier h = grind (arith, common_steps)
parts_by_byte b bytes line rest false other earlier h = parts_after b bytes line rest (first_line bytes) other earlier h

-- back from a first line to the bytes
pub first_line_parts : (bytes line rest : List ℕ) → first_line bytes ≡ Some (line, rest) → (has_no_lf line ≡ true) × (bytes ≡ line ++ 10 ∷ rest)
first_line_parts [] line rest h = cc
first_line_parts (b ∷ bytes) line rest h = parts_by_byte b bytes line rest (b == 10) refl (first_line_parts bytes) h

pub first_line_none : (bytes : List ℕ) → has_no_lf bytes ≡ true → first_line bytes ≡ None
first_line_none [] h = refl
first_line_none (b ∷ bytes) h = grind (arith, common_steps, first_line_none bytes)

pub first_line_some : (bytes : List ℕ) → first_line bytes ≡ None → has_no_lf bytes ≡ true
first_line_some [] h = refl
first_line_some (b ∷ bytes) h = grind (arith, common_steps, first_line_some bytes)

pub ruleset takes_line = (first_line_found, first_line_missing)

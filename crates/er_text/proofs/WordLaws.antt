-- The words of a line.
use Rattle.std.proofs.Common.{◌≡◌, ℕ, ◌+◌, ◌-◌, ◌<◌, List, [], ◌∷◌, ◌++◌, length, take, drop, true, false, refl, ap, ◌∙◌, arith, Some, None}
use Rattle.std.specs.Prelude.{◌==◌, ◌≤◌, position}
use Rattle.std.specs.List.{position_or_len, list_all}
use Rattle.std.proofs.lemmas.List.{take_rest}
use Rattle.std.proofs.lemmas.Grind.{common_steps}
use Rattle.er_text.specs.Bytes.{space, lacks, has_no_space}
use Rattle.er_text.proofs.ByteLaws.{lacks-append}
use Rattle.er_text.specs.Words.{words, joined, with_byte}

words_within : (line : List ℕ) → position_or_len (λ b. b == 32) line < length line → words line ≡ take (position_or_len (λ b. b == 32) line) line ∷ words (drop (position_or_len (λ b. b == 32) line + 1) line)
words_within [] h = grind arith
words_within (b ∷ line) h = grind (arith, common_steps, words_within line)

words_past : (line : List ℕ) → length line ≤ position_or_len (λ b. b == 32) line → words line ≡ line ∷ []
words_past [] h = refl
words_past (b ∷ line) h = grind (arith, common_steps, words_past line)

-- by the place of the first space
pub words_found : (line : List ℕ) (k : ℕ) → Some k ≡ position (λ b. b == 32) line → words line ≡ take k line ∷ words (take (length line - (k + 1)) (drop (k + 1) line))
words_found line k h = grind (arith, common_steps, words_within line, take_rest line (k + 1))

pub words_one : (line : List ℕ) → None ≡ position (λ b. b == 32) line → words line ≡ line ∷ []
words_one line h = grind (arith, common_steps, words_past line)

words_not_empty : (line : List ℕ) → 0 < length (words line)
words_not_empty [] = omega arith
words_not_empty (b ∷ line) = grind (arith, common_steps, words_not_empty line)

joined-with_byte : (b : ℕ) (parts : List (List ℕ)) → 0 < length parts → joined (with_byte b parts) ≡ b ∷ joined parts
joined-with_byte b [] h = absurd (omega arith)
joined-with_byte b (word ∷ []) h = grind (arith, common_steps)
joined-with_byte b (word ∷ next ∷ later) h = grind (arith, common_steps)

pub joined-words : (line : List ℕ) → joined (words line) ≡ line
joined-words [] = refl
joined-words (b ∷ line) = joined-with_byte b (words line) (words_not_empty line) ∙ ap (λ rest. b ∷ rest) (joined-words line)

pub words-word : (word : List ℕ) → has_no_space word ≡ true → words word ≡ word ∷ []
words-word [] h = refl
words-word (b ∷ word) h = grind (arith, common_steps, words-word word)

pub words-first : (word line : List ℕ) → has_no_space word ≡ true → words (word ++ 32 ∷ line) ≡ word ∷ words line
words-first [] line h = refl
words-first (b ∷ word) line h = grind (arith, common_steps, words-first word line)

pub words-joined : (word : List ℕ) (later : List (List ℕ)) → list_all has_no_space (word ∷ later) ≡ true → words (joined (word ∷ later)) ≡ word ∷ later
words-joined word [] h = grind (arith, common_steps, words-word word)
words-joined word (next ∷ later) h = grind (arith, common_steps, words-first word (joined (next ∷ later)), words-joined next later)

-- a byte that is no space, and stands in no word, stands nowhere in the line
pub lacks-joined : (c : ℕ) (parts : List (List ℕ)) → (space == c) ≡ false → list_all (lacks c) parts ≡ true → lacks c (joined parts) ≡ true
lacks-joined c [] other h = refl
lacks-joined c (word ∷ []) other h = grind (arith, common_steps)
lacks-joined c (word ∷ next ∷ later) other h = grind (arith, common_steps, lacks-append c word (space ∷ joined (next ∷ later)), lacks-joined c (next ∷ later))

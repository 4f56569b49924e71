-- The lines of an explanation, as the pieces that are written.
use Rattle.std.proofs.Common.{◌≡◌, ℕ, [], ◌∷◌, ◌++◌, append_assoc, codes}
use Rattle.er_trace.specs.Items.{Word, Number}
use Rattle.er_syntax.specs.Lines.{item_start}
use Rattle.er_syntax.specs.Lines.{item_line}
use Rattle.er_syntax.proofs.LineLemmas.{first_item}
use Rattle.er_explain.specs.Text.{head_line}

pub head_parts : (i j : ℕ) → head_line i j ≡ item_start (Word (codes "explain")) ++ item_start (Number i) ++ item_line (Number j ∷ [])
head_parts i j = simp (first_item, append_assoc)

pub step_parts : (a b n : ℕ) → item_line (Word (codes "step") ∷ Number a ∷ Number b ∷ Number n ∷ []) ≡ item_start (Word (codes "step")) ++ item_start (Number a) ++ item_start (Number b) ++ item_line (Number n ∷ [])
step_parts a b n = simp (first_item, append_assoc)

-- The text of an explanation.
use Rattle.std.specs.Prelude.{ℕ, List, [], ◌∷◌, ◌++◌, codes, Option, Some, None}
use Rattle.er_trace.specs.Items.{Word, Number}
use Rattle.er_trace.specs.Trace.{line}
use Rattle.er_syntax.specs.Lines.{item_line, lines_from}
use Rattle.er_pieces.specs.steps.Steps.{Step}

-- `explain I J`
abbrev pub head_line : ℕ → ℕ → List ℕ
head_line i j = item_line (Word (codes "explain") ∷ Number i ∷ Number j ∷ [])

-- `step A B N`
abbrev pub step_line : ℕ → Step → List ℕ
step_line k s =
    item_line (Word (codes "step") ∷ Number s.source ∷ Number s.target ∷ Number s.rule ∷ [])

-- a line for each step, or one that says that there is no path
abbrev pub body_lines : Option (List Step) → List ℕ
body_lines None = line (codes "unordered")
body_lines (Some steps) = lines_from step_line 1 steps

abbrev pub end_line : List ℕ
end_line = line (codes "end")

abbrev pub explain_text : ℕ → ℕ → Option (List Step) → List ℕ
explain_text i j steps = head_line i j ++ body_lines steps ++ end_line

-- The first line of some bytes.
use Rattle.std.specs.Prelude.{ℕ, List, [], ◌∷◌, ◌==◌, if◌then◌else◌, Option, Some, None, option_map}
use Rattle.er_text.specs.Bytes.{line_end}

-- the bytes before the first line end, and those after it
abbrev pub first_line : List ℕ → Option (List ℕ × List ℕ)
first_line [] = None
first_line (b ∷ bytes) =
    if b == line_end then Some ([], bytes)
    else option_map (λ parts. (b ∷ parts.0, parts.1)) (first_line bytes)

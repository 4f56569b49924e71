-- The bytes that stand between words and at the end of a line.
use Rattle.std.specs.Prelude.{ℕ, List, Bool, not, ◌==◌, filter, length}
use Rattle.std.specs.List.{list_all}

abbrev pub space : ℕ
space = 32

-- LF
abbrev pub line_end : ℕ
line_end = 10

-- whether the byte stands nowhere in the list
abbrev pub lacks : ℕ → List ℕ → Bool
lacks byte bytes = list_all (λ b. not (b == byte)) bytes

abbrev pub has_no_space : List ℕ → Bool
has_no_space word = lacks space word

abbrev pub has_no_lf : List ℕ → Bool
has_no_lf line = lacks line_end line

-- how many LFs the bytes have
abbrev pub count_of_lf : List ℕ → ℕ
count_of_lf bytes = length (filter (λ b. b == line_end) bytes)

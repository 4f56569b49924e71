-- A byte that stands nowhere in a list.
use Rattle.std.proofs.Common.{◌≡◌, ℕ, List, ◌++◌, not, ◌&&◌}
use Rattle.std.specs.Prelude.{◌==◌}
use Rattle.std.proofs.lemmas.List.Folds.{list_all-append}
use Rattle.er_text.specs.Bytes.{lacks}

pub lacks-append : (c : ℕ) (xs ys : List ℕ) → lacks c (xs ++ ys) ≡ (lacks c xs && lacks c ys)
lacks-append c xs ys = list_all-append (λ b. not (b == c)) xs ys

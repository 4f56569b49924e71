-- What all kept accesses have, after one more.
use Rattle.std.proofs.Common.{Bool, true, false, List, [], ◌∷◌, ◌++◌}
use Rattle.std.specs.Prelude.{if◌then◌else◌}
use Rattle.std.specs.List.{All}
use Rattle.std.proofs.lemmas.List.Elements.{All-push}
use Rattle.er_access.specs.Kept.{Kept, repeats_any, with_access}

pub all_with : (P : Kept → Type 0) (x : Kept) (xs : List Kept) → All P xs → P x → All P (with_access x xs)
all_with P x xs all one = by (repeats_any x xs)
  where
    by : (b : Bool) → All P (if b then xs else xs ++ x ∷ [])
    by true = all
    by false = All-push P xs x all one

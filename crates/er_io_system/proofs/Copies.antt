-- What a read from bytes in memory gives.
use Rattle.std.proofs.Common.{◌≡◌, ℕ, ◌+◌, ◌-◌, ◌≤◌, List, ◌++◌, length, take, drop, sym, arith}
use Rattle.std.proofs.lemmas.List.{take-append-drop}
use Rattle.std.proofs.lemmas.Grind.{common_steps}

-- the bytes that were copied to the front of the buffer are the front of what was left
pub copied_gives : (bytes copied tail : List ℕ) (given count : ℕ) → given + count ≤ length bytes
    → copied ≡ take (given + count - given) (drop given bytes)
    → drop given bytes ≡ take count (copied ++ tail) ++ drop (given + count) bytes
copied_gives bytes copied tail given count within is =
    let long : length copied ≡ count = grind (arith, common_steps) in
    let front : take count (copied ++ tail) ≡ copied = grind (arith, common_steps) in
    let same : copied ≡ take count (drop given bytes) = grind (arith, common_steps) in
    let rest : drop (given + count) bytes ≡ drop count (drop given bytes) = grind (arith, common_steps) in
    rw (front, same, rest) (sym (take-append-drop count (drop given bytes)))

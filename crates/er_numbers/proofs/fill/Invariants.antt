use Rattle.std.proofs.Common.{◌≡◌, ℕ, ◌+◌, None, length}
use Rattle.std.specs.Prelude.{get_or, vec_len, vec_capacity}
use Rattle.er_numbers.proofs.fill.Given as goal

abbrev pub invariant-loop : goal.invariant-loop
invariant-loop g l = record {
  kept : (k : ℕ) → get_or l.dense.items k None ≡ get_or l.fn.dense.items k None;
  long : length l.dense.items ≡ length l.fn.dense.items + l.counter;
  len : vec_len l.dense ≡ vec_len l.fn.dense + l.counter;
  room : vec_capacity l.dense ≡ vec_capacity l.fn.dense;
}

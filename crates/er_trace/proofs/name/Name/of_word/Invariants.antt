use Rattle.std.proofs.Common.{◌≡◌}
use Rattle.er_trace.proofs.name.Name.of_word.Given as goal

-- the bytes so far
abbrev pub invariant-loop-byte : goal.invariant-loop-byte
invariant-loop-byte l = l.bytes.items ≡ l.yielded

use Rattle.std.proofs.Common.{◌≡◌, ◌*◌, ◌≤◌, take}
use Rattle.er_text.specs.Name.{name_spelling}
use Rattle.er_text.proofs.names.spell_name.Given as goal

abbrev pub invariant-loop-byte : goal.invariant-loop-byte
invariant-loop-byte l = record {
  within : l.end ≤ 3 * l.byte-index;
  spelt : take l.end l.buffer ≡ name_spelling (take l.byte-index l.name);
}

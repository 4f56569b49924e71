use Rattle.std.proofs.Common.{◌+◌, ◌≤◌, Some, ap, length, drop, arith}
use Rattle.std.proofs.lemmas.Grind.{common_steps}
use Rattle.er_io_system.proofs.Copies.{copied_gives}
use Rattle.er_io_system.proofs.sure.SureSourceSource.read.Goals as goal

pub returns-clause-given : goal.returns-clause-given
returns-clause-given c =
    let bytes = c.self.inside.bytes.items in
    let count = c.min-count.result in
    let within : c.self.inside.given + count ≤ length bytes = grind (arith, common_steps) in
    let copied = c.copy_from_slice.new.self in
    rw (← c.self.view_is) (ap Some (copied_gives bytes copied (drop count c.args.buf.now) c.self.inside.given count within (grind (arith, common_steps))))

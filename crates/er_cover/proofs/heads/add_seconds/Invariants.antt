use Rattle.std.proofs.Common.{◌≡◌, ◌++◌, take}
use Rattle.er_cover.specs.Passes.{seconds_of}
use Rattle.er_cover.proofs.heads.add_seconds.Given as goal

abbrev pub invariant-loop-group : goal.invariant-loop-group
invariant-loop-group l = l.seconds.items ≡ l.fn.seconds.items ++ seconds_of (take l.group-index l.groups)

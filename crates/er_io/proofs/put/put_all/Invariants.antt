use Rattle.std.proofs.Common.{◌≡◌, length, take, ◌-◌, ◌≤◌}
use Rattle.er_io.specs.Ends.{Gets}
use Rattle.er_io.proofs.put.put_all.Given as goal

-- what was written so far has come
abbrev pub invariant-loop-done : goal.invariant-loop-done
invariant-loop-done g l = record {
  within : l.done ≤ length l.chunk;
  came : Gets (g.K.Sink.got l.fn.sink) (take l.done l.chunk) (g.K.Sink.got l.sink);
  stands : g.K.Sink.faults l.sink ≡ g.K.Sink.faults l.fn.sink;
}

abbrev pub decreases-loop-done : goal.decreases-loop-done
decreases-loop-done g l = length l.chunk - l.done

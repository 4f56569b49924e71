use Rattle.std.proofs.Common.{◌≡◌, ◌++◌, take}
use Rattle.er_syntax.specs.Buffered.{HoldsRest}
use Rattle.er_syntax.specs.Lines.{lines_from}
use Rattle.er_explain.specs.Text.{step_line}
use Rattle.er_explain.proofs.write.put_steps.Given as goal

-- the lines of the steps so far came, or are held
abbrev pub invariant-loop-k : goal.invariant-loop-k
invariant-loop-k g l = record {
  came : HoldsRest (g.K.Sink.got l.fn.sink) (l.fn.buffer ++ lines_from step_line 1 (take l.k l.steps)) (g.K.Sink.got l.sink) l.buffer;
  stands : g.K.Sink.faults l.sink ≡ g.K.Sink.faults l.fn.sink;
}

use Rattle.std.proofs.Common.{◌≡◌, ◌++◌, take}
use Rattle.er_syntax.specs.Buffered.{HoldsRest}
use Rattle.er_syntax.specs.Lines.{lines_from}
use Rattle.er_report.specs.Report.{cover_line}
use Rattle.er_report.proofs.writer.put_covers.Given as goal

-- the lines of the races so far came, or are held
abbrev pub invariant-loop-k : goal.invariant-loop-k
invariant-loop-k g l = record {
  came : HoldsRest (g.K.Sink.got l.fn.sink) (l.fn.buffer ++ lines_from cover_line 1 (take l.k l.groups.names)) (g.K.Sink.got l.sink) l.buffer;
  stands : g.K.Sink.faults l.sink ≡ g.K.Sink.faults l.fn.sink;
}

use Rattle.std.proofs.Common.{◌≡◌, ◌++◌, take}
use Rattle.er_io.specs.Ends.{Gets}
use Rattle.er_syntax.proofs.PrintLaws.{later_spelling}
use Rattle.er_syntax.proofs.print.put_tokens.Given as goal

abbrev pub invariant-loop-token : goal.invariant-loop-token
invariant-loop-token g l = record {
  whole : Gets (g.K.Sink.got l.fn.sink) (l.fn.word ++ later_spelling (take l.token-index l.later)) (g.K.Sink.got l.sink);
  stands : g.K.Sink.faults l.sink ≡ g.K.Sink.faults l.fn.sink;
}

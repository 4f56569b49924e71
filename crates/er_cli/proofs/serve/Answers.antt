use Rattle.std.proofs.Common.{ap}
use Rattle.er_cli.proofs.serve.Goals as goal

pub returns : goal.returns
returns g c = record {
  outcome = c.run-outcome.result;
  from = c.new-meters.result;
  to = c.run-outcome.new.meters;
  from_zero = (c.new-meters.ensures.compares, c.new-meters.ensures.tests);
  status_is = c.finish.ensures.status;
  line_is = c.finish.ensures.line;
  ran = c.run-outcome.ensures.ran;
  unread = λ is. ap g.S.Source.left (c.run-outcome.ensures.unread is);
  generated = λ asked n asks is. let given = c.run-outcome.ensures.generated asked n asks is in (ap g.S.Source.left given.0, given.1);
  unwritten = λ silent. ap g.K.Sink.got (c.run-outcome.ensures.unwritten silent);
}

use Rattle.std.proofs.Common.{arith}
use Rattle.er_io.specs.Ends.{GetsPart}
use Rattle.er_io.proofs.Puts.{composes}
use Rattle.er_syntax.specs.Tokens.{tokens_spelling}
use Rattle.er_trace.proofs.ResultLaws.{on_err}
use Rattle.er_syntax.proofs.PrintLaws.{tokens_part_later, tokens_all, same_token}
use Rattle.er_syntax.proofs.print.put_tokens.Goals as goal

pub returns-in_err-put_next : goal.returns-in_err-put_next
returns-in_err-put_next g c = record {
  whole = grind arith;
  stands = grind arith;
  part =
      on_err c.from_residual-in_err-put_next.result (GetsPart (g.K.Sink.got c.args.sink.now) (tokens_spelling c.args.word.now c.args.later.now) (g.K.Sink.got c.put_next.new.sink))
      (tokens_part_later (g.K.Sink.got c.args.sink.now) (g.K.Sink.got c.loop-token.sink) (g.K.Sink.got c.put_next.new.sink) c.args.word.now c.args.later.now c.loop-token.token-index _
      c.loop-token-test.true (same_token c.args.later.now c.loop-token.token-index _ c.loop-token-test.true) c.loop-token.invariant.whole c.in_err-put_next.ensures.part);
  cause = grind (arith, composes);
  raised = grind (arith, composes);
  count = grind arith;
}

pub returns : goal.returns
returns g c = record {
  whole = tokens_all (g.K.Sink.got c.args.sink.now) (g.K.Sink.got c.loop-token.sink) c.args.word.now c.args.later.now c.loop-token.token-index c.loop-token-test.false c.loop-token.invariant.whole;
  stands = c.loop-token.invariant.stands;
  part = tt;
  cause = tt;
  raised = tt;
  count = grind arith;
}

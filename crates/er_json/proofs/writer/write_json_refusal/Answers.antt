use Rattle.std.proofs.Common.{arith, rules}
use Rattle.std.proofs.lemmas.Grind.{common_steps}
use Rattle.er_io.specs.Ends.{GetsPart}
use Rattle.er_io.proofs.Puts.{composes}
use Rattle.er_json.specs.Json.{refusal}
use Rattle.er_syntax.proofs.BufferedLemmas.{all_came, part_came}
use Rattle.er_json.proofs.writer.write_json_refusal.Goals as goal

pub returns-in_err-flush : goal.returns-in_err-flush
returns-in_err-flush g c =
    let sink = g.K.Sink.got in
    let part : GetsPart (sink c.args.sink.now) (refusal c.args.line c.args.cause) (sink c.flush.new.sink) = part_came _ _ _ _ _ _ c.new-buffer.ensures (rw c.parts_of_refusal.ensures at c.in_ok-put_fragment.ensures.whole) c.in_err-flush.ensures.puts.part in
    record {
      whole = search rules;
      stands = search rules;
      part = search rules;
      cause = grind (arith, common_steps, composes);
      raised = grind (arith, common_steps, composes);
      count = grind (arith, common_steps, composes);
    }

pub returns : goal.returns
returns g c = record {
  whole = all_came _ _ _ _ _ _ c.new-buffer.ensures (rw c.parts_of_refusal.ensures at c.in_ok-put_fragment.ensures.whole) c.in_ok-flush.ensures.puts.whole;
  stands = grind (arith, common_steps, composes);
  part = search rules;
  cause = search rules;
  raised = search rules;
  count = grind (arith, common_steps, composes);
}

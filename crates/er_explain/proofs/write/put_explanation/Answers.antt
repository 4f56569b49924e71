use Rattle.std.proofs.Common.{◌++◌, rules}
use Rattle.std.proofs.lemmas.Result.{on_ok_weaker, on_err_weaker}
use Rattle.er_io.specs.Ends.{GetsPart}
use Rattle.er_syntax.specs.Buffered.{HoldsRest}
use Rattle.er_syntax.proofs.BufferedLemmas.{all_came, part_came}
use Rattle.er_syntax.proofs.SequenceLemmas.{three_held, second_of_three, third_of_three}
use Rattle.er_explain.specs.Text.{head_line, body_lines, end_line, explain_text}
use Rattle.er_explain.proofs.write.put_explanation.Goals as goal

pub returns-in_err-put_body-clause-part : goal.returns-in_err-put_body-clause-part
returns-in_err-put_body-clause-part g c =
    let sink = g.K.Sink.got in
    let part : GetsPart (sink c.args.sink.now) (explain_text c.args.from c.args.to c.args.steps.now) (sink c.put_body.new.sink) =
    second_of_three _ _ _ _ _ (head_line c.args.from c.args.to) (body_lines c.args.steps.now) end_line c.new-buffer.ensures c.in_ok-put_text.ensures.whole c.in_err-put_body.ensures.part in
    search rules

pub returns-in_err-put_text-2-clause-part : goal.returns-in_err-put_text-2-clause-part
returns-in_err-put_text-2-clause-part g c =
    let sink = g.K.Sink.got in
    let part : GetsPart (sink c.args.sink.now) (explain_text c.args.from c.args.to c.args.steps.now) (sink c.put_text-2.new.sink) =
    third_of_three _ _ _ _ _ _ _ (head_line c.args.from c.args.to) (body_lines c.args.steps.now) end_line c.new-buffer.ensures c.in_ok-put_text.ensures.whole c.in_ok-put_body.ensures.whole c.in_err-put_text-2.ensures.part in
    search rules

pub returns-clause-whole : goal.returns-clause-whole
returns-clause-whole g c =
    let sink = g.K.Sink.got in
    let held : HoldsRest (sink c.args.sink.now) (c.new-buffer.result ++ explain_text c.args.from c.args.to c.args.steps.now) (sink c.put_text-2.new.sink) c.put_text-2.new.buffer =
    three_held _ _ _ _ _ _ _ _ (head_line c.args.from c.args.to) (body_lines c.args.steps.now) end_line c.in_ok-put_text.ensures.whole c.in_ok-put_body.ensures.whole c.in_ok-put_text-2.ensures.whole in
    on_ok_weaker c.flush.result (λ more. all_came _ _ _ _ _ _ c.new-buffer.ensures held more) c.flush.ensures.puts.whole

pub returns-clause-part : goal.returns-clause-part
returns-clause-part g c =
    let sink = g.K.Sink.got in
    let held : HoldsRest (sink c.args.sink.now) (c.new-buffer.result ++ explain_text c.args.from c.args.to c.args.steps.now) (sink c.put_text-2.new.sink) c.put_text-2.new.buffer =
    three_held _ _ _ _ _ _ _ _ (head_line c.args.from c.args.to) (body_lines c.args.steps.now) end_line c.in_ok-put_text.ensures.whole c.in_ok-put_body.ensures.whole c.in_ok-put_text-2.ensures.whole in
    on_err_weaker c.flush.result (λ more. part_came _ _ _ _ _ _ c.new-buffer.ensures held more) c.flush.ensures.puts.part

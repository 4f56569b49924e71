use Rattle.std.proofs.Common.{refl, rules, get_or, ◌∙◌}
use Rattle.std.proofs.lemmas.Option.{slice_get-get_or}
use Rattle.er_schedule.specs.Text.{order_line}
use Rattle.er_syntax.proofs.BufferedLemmas.{holds_start}
use Rattle.er_syntax.proofs.SequenceLemmas.{line_held, line_part}
use Rattle.er_schedule.proofs.write.put_order.Goals as goal

pub loop-k-init : goal.loop-k-init
loop-k-init g c = record { came = holds_start _ _; stands = refl }

pub returns-in_err-put_text-clause-part : goal.returns-in_err-put_text-clause-part
returns-in_err-put_text-clause-part g c =
    let order = c.args.order.now in
    let part = line_part (order_line c.args.word.now) order c.loop-k.k (get_or order c.loop-k.k 0) _ _ _ _ _ (slice_get-get_or order c.loop-k.k 0 c.loop-k-test.true) c.loop-k.invariant.came c.in_err-put_text.ensures.part in
    search rules

pub loop-k-preserved : goal.loop-k-preserved
loop-k-preserved g c =
    let order = c.args.order.now in
    record {
      came = line_held (order_line c.args.word.now) order c.loop-k.k (get_or order c.loop-k.k 0) _ _ _ _ _ _ (slice_get-get_or order c.loop-k.k 0 c.loop-k-test.true) c.loop-k.invariant.came c.in_ok-put_text.ensures.whole;
      stands = c.in_ok-put_text.ensures.counts.stands ∙ c.loop-k.invariant.stands;
    }

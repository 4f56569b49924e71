use Rattle.std.proofs.Common.{sym}
use Rattle.std.proofs.lemmas.Result.{on_ok_weaker}
use Rattle.er_graph.proofs.PartLemmas.{next_page, told_more, same_lines, timed_still}
use Rattle.er_graph.proofs.grow.grow.Goals as goal

pub apply-requires : goal.apply-requires
apply-requires c = record { next = next_page c.args.version c.args.page.now c.args.clocks.now c.args.lines.now.items c.args.rec.now c.requires.next }

pub returns-clause-told : goal.returns-clause-told
returns-clause-told c = on_ok_weaker c.apply.result (λ taken accepted told legal.
    told_more c.args.version c.args.page.now c.apply.new.self c.args.lines.now.items c.args.lines.now.items c.args.line c.args.rec.now accepted told c.requires.of_version legal taken
    (same_lines c.args.line c.args.rec.now accepted c.args.lines.now.items (sym c.if-begins.ensures) told.lines)) c.apply.ensures.taken

pub returns-clause-timed : goal.returns-clause-timed
returns-clause-timed c = on_ok_weaker c.apply.result (λ _ accepted told timed legal. timed_still c.args.version c.args.clocks.now c.args.line c.args.rec.now accepted (sym c.if-begins.ensures) timed) c.apply.ensures.taken

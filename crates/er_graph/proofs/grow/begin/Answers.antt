use Rattle.std.proofs.Common.{ap, ◌∙◌, ◌++◌, ◌∷◌, [], List, ℕ}
use Rattle.er_graph.specs.Accepted.{records}
use Rattle.er_graph.proofs.PartLemmas.{comes_after, comes_now, next_page, told_more, begun_lines}
use Rattle.er_graph.proofs.grow.begin.Goals as goal

pub push-requires : goal.push-requires
push-requires c = record {
  now = comes_now c.args.version c.args.page.now c.args.clocks.now c.args.lines.now.items c.args.rec.now c.requires.of_version c.requires.next;
  begins = c.requires.begins;
}

pub apply-requires : goal.apply-requires
apply-requires c = record { next = next_page c.args.version c.args.page.now c.args.clocks.now c.args.lines.now.items c.args.rec.now c.requires.next }

pub returns-clause-told : goal.returns-clause-told
returns-clause-told c = λ accepted told legal.
    told_more c.args.version c.args.page.now c.apply.new.self c.args.lines.now.items c.push-2.new.self.items c.args.line c.args.rec.now accepted told c.requires.of_version legal c.in_ok-apply.ensures.taken
    (begun_lines c.args.line c.args.rec.now accepted c.args.lines.now.items c.push-2.new.self.items c.requires.begins told.lines
    (c.in-Ok-push.ensures.items ∙ ap (λ (l : List ℕ). l ++ c.args.line ∷ []) c.in-Ok.ensures.items))

pub returns-clause-timed : goal.returns-clause-timed
returns-clause-timed c = λ accepted told timed legal.
    c.in_ok-_number.ensures (records accepted) (comes_after c.args.version c.args.page.now c.args.clocks.now c.args.lines.now.items c.args.rec.now accepted told timed c.requires.of_version legal)

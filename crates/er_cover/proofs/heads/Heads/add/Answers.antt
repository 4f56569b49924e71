use Rattle.std.proofs.Common.{◌∙◌, sym}
use Rattle.er_cover.proofs.HeadLemmas.{ends_otherwise, ends_so, heads_more, heads_same}
use Rattle.er_cover.proofs.heads.Heads.add.Goals as goal

pub returns-then-ends_with : goal.returns-then-ends_with
returns-then-ends_with c =
    let last = ends_so c.args.self.now c.args.class.now.first (sym c.ends_with.ensures ∙ c.if-ends_with.true) in
    heads_same c.args.found.now c.args.class.now c.args.self.now c.requires.heads last.0 last.1

pub returns : goal.returns
returns c =
    heads_more c.args.found.now c.args.class.now c.args.self.now (record { firsts = c.push.new.self; starts = c.push-2.new.self }) c.requires.heads c.in-Ok.ensures.items c.in-Ok-push.ensures.items
    (ends_otherwise c.args.self.now c.args.class.now.first (sym c.ends_with.ensures ∙ c.if-ends_with.false))

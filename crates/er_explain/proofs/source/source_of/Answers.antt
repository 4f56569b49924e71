use Rattle.er_explain.proofs.SourceLemmas.{source_earlier, source_here, source_on}
use Rattle.er_explain.proofs.source.source_of.Goals as goal

pub returns-then-joined-clause-found : goal.returns-then-joined-clause-found
returns-then-joined-clause-found c = λ lists stands.
    rw c.from-source.ensures (source_here lists c.args.from c.args.at c.links_of-links.result.now c.loop-n.n c.loop-n-test.true (rw c.from-source.ensures at c.if-joined.ensures lists stands) (c.loop-n.invariant lists stands))

pub returns-then-joined-clause-earlier : goal.returns-then-joined-clause-earlier
returns-then-joined-clause-earlier c = rw c.from-source.ensures (source_earlier c.args.clocks.now c.args.at c.links_of-links.result.now c.loop-n.n c.requires.some c.links_of-links.ensures c.loop-n-test.true)

pub loop-n-preserved : goal.loop-n-preserved
loop-n-preserved c = λ lists stands. source_on lists c.args.from c.args.at c.links_of-links.result.now c.loop-n.n c.loop-n-test.true (rw c.from-source.ensures at c.if-joined.ensures lists stands) (c.loop-n.invariant lists stands)

use Rattle.std.proofs.Common.{ℕ, ◌<◌, ◌∙◌, length, slice_index, sym}
use Rattle.std.proofs.lemmas.List.Elements.{All-get_or}
use Rattle.er_paths.specs.Paths.{joins}
use Rattle.er_clocks.proofs.AskedLemmas.{found_apart, joined_laid, joins_more, none_apart}
use Rattle.er_clocks.proofs.clocks.Clocks.first_uncovered.Goals as goal

pub returns-then-not-covers_laid-clause-answer : goal.returns-then-not-covers_laid-clause-answer
returns-then-not-covers_laid-clause-answer c = λ j are.
    let n : ℕ = c.loop-n.n in
    let known = All-get_or (λ i. i < length c.args.self.now) c.args.firsts.now n 0 c.loop-n-test.true c.requires.firsts in
    let joined = joined_laid c.args.self.now (slice_index c.args.firsts.now n) j c.args.laid.now known are in
    found_apart (joins c.args.self.now) c.args.firsts.now j n c.loop-n-test.true (c.loop-n.invariant j are) (sym joined ∙ sym c.covers_laid.ensures ∙ c.if-not-covers_laid.true)

pub loop-n-preserved : goal.loop-n-preserved
loop-n-preserved c = λ j are.
    let n : ℕ = c.loop-n.n in
    let known = All-get_or (λ i. i < length c.args.self.now) c.args.firsts.now n 0 c.loop-n-test.true c.requires.firsts in
    let joined = joined_laid c.args.self.now (slice_index c.args.firsts.now n) j c.args.laid.now known are in
    joins_more (joins c.args.self.now) c.args.firsts.now j n (c.loop-n.invariant j are) (sym joined ∙ sym c.covers_laid.ensures ∙ c.if-not-covers_laid.false)

pub returns-clause-answer : goal.returns-clause-answer
returns-clause-answer c = λ j are. none_apart (joins c.args.self.now) c.args.firsts.now j c.loop-n.n c.loop-n-test.false (c.loop-n.invariant j are)

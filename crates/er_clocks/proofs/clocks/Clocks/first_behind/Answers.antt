use Rattle.std.proofs.Common.{◌≡◌, ℕ, ◌∙◌, true, false, slice_index, sym, arith}
use Rattle.std.specs.Prelude.{nat_lt}
use Rattle.std.proofs.lemmas.Bool.Decides.{nat_tests}
use Rattle.er_paths.specs.Paths.{joins}
use Rattle.er_clocks.proofs.AskedLemmas.{fails_more, found_first, none_first}
use Rattle.er_clocks.proofs.LookUps.{as_seen, chain_seen, joined_seen, place_seen}
use Rattle.er_clocks.proofs.clocks.Clocks.first_behind.Goals as goal

pub returns-then-place-own_entry-clause-answer : goal.returns-then-place-own_entry-clause-answer
returns-then-place-own_entry-clause-answer c =
    let seen = c.args.self.now in
    let n : ℕ = c.loop-n.n in
    let s = as_seen c.self.inside seen c.self.invariant c.self.view_is in
    let place : ℕ = c.index-place.result.now in
    let number : ℕ = c.own_entry.result in
    let chain = chain_seen c.self.inside seen c.args.i c.index-chain.result.now s c.requires.first c.index-chain.ensures in
    let there = place_seen c.self.inside seen c.args.i place s c.requires.first c.index-place.ensures in
    let joined = joined_seen seen c.args.i (slice_index c.args.seconds.now n) place c.index-chain.result.now number c.requires.first there chain c.own_entry.ensures in
    let below : nat_lt place number ≡ true = let t = c.if-place-own_entry.true in grind (arith, nat_tests) in
    found_first (joins seen c.args.i) c.args.seconds.now n c.loop-n-test.true c.loop-n.invariant (sym joined ∙ below)

pub loop-n-preserved : goal.loop-n-preserved
loop-n-preserved c =
    let seen = c.args.self.now in
    let n : ℕ = c.loop-n.n in
    let s = as_seen c.self.inside seen c.self.invariant c.self.view_is in
    let place : ℕ = c.index-place.result.now in
    let number : ℕ = c.own_entry.result in
    let chain = chain_seen c.self.inside seen c.args.i c.index-chain.result.now s c.requires.first c.index-chain.ensures in
    let there = place_seen c.self.inside seen c.args.i place s c.requires.first c.index-place.ensures in
    let joined = joined_seen seen c.args.i (slice_index c.args.seconds.now n) place c.index-chain.result.now number c.requires.first there chain c.own_entry.ensures in
    let below : nat_lt place number ≡ false = let t = c.if-place-own_entry.false in grind (arith, nat_tests) in
    fails_more (joins seen c.args.i) c.args.seconds.now n c.loop-n.invariant (sym joined ∙ below)

pub returns-clause-answer : goal.returns-clause-answer
returns-clause-answer c = none_first (joins c.args.self.now c.args.i) c.args.seconds.now c.loop-n.n c.loop-n-test.false c.loop-n.invariant

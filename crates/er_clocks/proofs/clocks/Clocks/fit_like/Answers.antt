use Rattle.std.proofs.Common.{[], ◌≡◌, ◌≢◌, ◌∙◌, ℕ, List, length, slice_index, ap, sym, arith}
use Rattle.er_paths.specs.links.Chains.{chains, chain_of, members}
use Rattle.er_paths.proofs.links.Fits.{chain_number_short}
use Rattle.er_clocks.proofs.LookUps.{as_seen, begun_seen, chain_few, chain_seen, chains_seen, rows_in}
use Rattle.er_clocks.proofs.Places.{fit_above, fit_here, length_at}
use Rattle.er_clocks.proofs.clocks.Clocks.fit_like.Goals as goal

pub length-requires : goal.length-requires
length-requires c =
    let s = as_seen c.self.inside c.args.self.now c.self.invariant c.self.view_is in
    let is = chain_seen c.self.inside c.args.self.now c.args.j c.index-chain.result.now s c.requires c.index-chain.ensures in
    let short = chain_number_short c.args.self.now c.args.j c.requires in
    let all = chains_seen c.self.inside c.args.self.now s in omega (arith, is, short, all)

pub returns-then-length-number : goal.returns-then-length-number
returns-then-length-number c =
    let was = c.self.inside in
    let s = as_seen c.self.inside c.args.self.now c.self.invariant c.self.view_is in
    let is = chain_seen c.self.inside c.args.self.now c.args.j c.index-chain.result.now s c.requires c.index-chain.ensures in
    fit_here c.args.self.now c.args.j c.args.number c.index-chain.result.now c.requires is
    (sym (length_at (rows_in was) c.args.self.now was.numbers.items was.places.items was.chains was.count c.index-chain.result.now s.clock) ∙ sym c.length.ensures ∙ c.if-length-number.true)

pub overflow_add-chain : goal.overflow_add-chain
overflow_add-chain c =
    let s = as_seen c.self.inside c.args.self.now c.self.invariant c.self.view_is in
    let is = chain_seen c.self.inside c.args.self.now c.args.j c.index-chain.result.now s c.requires c.index-chain.ensures in
    let short = chain_few c.self.inside c.args.self.now c.args.j s c.requires in omega (arith, is, short)

pub first_full-requires : goal.first_full-requires
first_full-requires c = record { begun = begun_seen c.self.inside c.args.self.now (as_seen c.self.inside c.args.self.now c.self.invariant c.self.view_is) }

pub returns : goal.returns
returns c =
    let was = c.self.inside in
    let s = as_seen c.self.inside c.args.self.now c.self.invariant c.self.view_is in
    let chain : ℕ = c.index-chain.result.now in
    let x : ℕ = c.first_full.result in
    let is : chain ≡ chain_of c.args.self.now c.args.j = chain_seen c.self.inside c.args.self.now c.args.j chain s c.requires c.index-chain.ensures in
    let more : length (members (chains c.args.self.now) chain) ≢ c.args.number = λ e.
    c.if-length-number.false (c.length.ensures ∙ length_at (rows_in was) c.args.self.now was.numbers.items was.places.items was.chains was.count chain s.clock ∙ e) in
    let found = c.first_full.ensures in
    fit_above (rows_in was) c.args.self.now was.numbers.items was.places.items was.chains was.count c.args.j c.args.number chain x s.clock c.requires is more
    found.within (λ h. let a = found.above h in omega (arith, a))
    (λ d a h e. found.lower d (omega (arith, a)) h (ap (λ (row : List ℕ). slice_index row d) (c.numbers.ensures ∙ c.list.ensures []) ∙ e))
    (λ h. ap (λ (row : List ℕ). slice_index row x) (sym (c.numbers.ensures ∙ c.list.ensures [])) ∙ found.full h)

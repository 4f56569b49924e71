use Rattle.std.proofs.Common.{[], ◌≡◌, ◌<◌, ◌+◌, ◌∙◌, ℕ, List, suc, length, slice_index, ap, arith}
use Rattle.std.specs.Prelude.{◌==◌, if◌then◌else◌}
use Rattle.std.proofs.lemmas.List.Elements.{All-get_or}
use Rattle.er_paths.specs.links.Chains.{chain_of, place_of}
use Rattle.er_clocks.proofs.Entries.{reach_raised}
use Rattle.er_clocks.proofs.Twins.{reach_twin, link_reached}
use Rattle.er_clocks.proofs.LookUps.{as_seen, chain_seen, place_few, place_seen, row_seen}
use Rattle.er_clocks.proofs.clocks.Clocks.join.Goals as goal

pub overflow_add-number : goal.overflow_add-number
overflow_add-number c = let few = place_few c.self.inside c.args.self.now c.args.i c.index.result.now (as_seen c.self.inside c.args.self.now c.self.invariant c.self.view_is) c.requires.known c.index.ensures in omega (arith, few)

pub returns-then-has_twin : goal.returns-then-has_twin
returns-then-has_twin c = λ later taken.
    let s = as_seen c.self.inside c.args.self.now c.self.invariant c.self.view_is in
    let seen = c.args.self.now in
    let row : List ℕ = c.args.row.now in
    let number : ℕ = c.index.result.now + 1 in
    let chain : c.index-chain.result.now ≡ chain_of seen c.args.i = chain_seen c.self.inside c.args.self.now c.args.i c.index-chain.result.now s c.requires.known c.index-chain.ensures in
    let there : c.index.result.now ≡ place_of seen c.args.i = place_seen c.self.inside c.args.self.now c.args.i c.index.result.now s c.requires.known c.index.ensures in
    let next : number ≡ suc (place_of seen c.args.i) = omega (arith, there) in
    let twin = c.has_twin.ensures c.if-has_twin.true in
    reach_twin seen row c.set.new.self later c.args.i (slice_index c.args.links.now twin.0) taken.0 c.requires.known twin.2
    (link_reached seen c.args.links.now later twin.0 taken.1 twin.1 (All-get_or (λ k. k < length seen) c.args.links.now twin.0 0 twin.1 c.requires.taken))
    c.requires.low
    (λ d. c.in_ok-set.ensures d ∙ ap (λ (m : ℕ). if d == m then number else slice_index row d) chain ∙ ap (λ (m : ℕ). if d == chain_of seen c.args.i then m else slice_index row d) next)

pub returns : goal.returns
returns c = λ later taken.
    let s = as_seen c.self.inside c.args.self.now c.self.invariant c.self.view_is in
    let seen = c.args.self.now in
    let row : List ℕ = c.args.row.now in
    let other : List ℕ = c.numbers.result.now in
    let number : ℕ = c.index.result.now + 1 in
    let chain : c.index-chain.result.now ≡ chain_of seen c.args.i = chain_seen c.self.inside c.args.self.now c.args.i c.index-chain.result.now s c.requires.known c.index-chain.ensures in
    let there : c.index.result.now ≡ place_of seen c.args.i = place_seen c.self.inside c.args.self.now c.args.i c.index.result.now s c.requires.known c.index.ensures in
    let next : number ≡ suc (place_of seen c.args.i) = omega (arith, there) in
    reach_raised seen row c.set-2.new.self other later c.args.i taken.0 c.requires.known c.requires.low
    (λ d e. ap (λ (xs : List ℕ). slice_index xs d) (c.numbers.ensures ∙ c.list.ensures []) ∙ row_seen c.self.inside c.args.self.now c.args.i d s c.requires.known e)
    (λ d. c.in_ok-set-2.ensures d ∙ ap (λ (m : ℕ). if d == m then number else slice_index c.raise.new.self d) chain ∙ ap (λ (m : ℕ). if d == chain_of seen c.args.i then m else slice_index c.raise.new.self d) next
    ∙ ap (λ (m : ℕ). if d == chain_of seen c.args.i then suc (place_of seen c.args.i) else m) (c.in_ok-raise.ensures d))

pub set-requires : goal.set-requires
set-requires c = let few = place_few c.self.inside c.args.self.now c.args.i c.index.result.now (as_seen c.self.inside c.args.self.now c.self.invariant c.self.view_is) c.requires.known c.index.ensures in omega (arith, few)

pub set-requires-2 : goal.set-requires-2
set-requires-2 c = let few = place_few c.self.inside c.args.self.now c.args.i c.index.result.now (as_seen c.self.inside c.args.self.now c.self.invariant c.self.view_is) c.requires.known c.index.ensures in omega (arith, few)

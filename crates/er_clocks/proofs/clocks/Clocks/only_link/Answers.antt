use Rattle.std.proofs.Common.{◌≡◌, ◌<◌, ℕ, List, length, slice_index, refl, arith}
use Rattle.std.proofs.lemmas.List.Elements.{recursion_from_All}
use Rattle.er_clocks.proofs.Again.{number_stands, only_itself}
use Rattle.er_clocks.proofs.Uncovered.{below_listed}
use Rattle.er_clocks.proofs.clocks.Clocks.only_link.Goals as goal

pub all_join-requires-clause-begun : goal.all_join-requires-clause-begun
all_join-requires-clause-begun c = below_listed (length c.args.self.now) c.args.preds.now c.greatest-link.result (recursion_from_All (λ k. k < length c.args.self.now) c.args.preds.now c.requires) c.greatest-link.ensures

pub returns-then-preds-eq1 : goal.returns-then-preds-eq1
returns-then-preds-eq1 c =
    let preds : List ℕ = c.args.preds.now in
    let long : length preds ≡ 1 = omega (arith, c.if-preds-eq1.true) in
    let among = number_stands preds 0 (omega (arith, long)) in
    let below = below_listed (length c.args.self.now) preds (slice_index preds 0) (recursion_from_All (λ k. k < length c.args.self.now) preds c.requires) among in
    only_itself c.args.self.now preds (slice_index preds 0) long refl below

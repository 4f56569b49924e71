use Rattle.std.proofs.Common.{◌≡◌, rules, ap}
use Rattle.std.proofs.lemmas.List.Elements.{All-same}
use Rattle.er_claims.specs.Fired.{IsFound, sets, sets_at, timeouts_at}
use Rattle.er_claims.proofs.fired.Fired.timeouts_with.Goals as goal

pub returns-in-Some-clause-found : goal.returns-in-Some-clause-found
returns-in-Some-clause-found c = λ found are.
    let same : c.as_slice.result.now ≡ timeouts_at c.args.self.now c.args.event = search rules in
    All-same (IsFound found) (sets c.as_slice.result.now) (sets_at c.args.self.now c.args.event) (ap sets same) (are.each c.args.event)

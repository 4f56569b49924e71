use Rattle.std.proofs.Common.{rules, ◌≡◌, ◌<◌, true, length, get_or, sym}
use Rattle.er_access.specs.Kept.{same_loc}
use Rattle.er_access.proofs.LocationLemmas.{any_at, get_same, number_at}
use Rattle.er_access.proofs.table.find.Goals as goal

pub returns-then-eq-clause-found : goal.returns-then-eq-clause-found
returns-then-eq-clause-found c =
    let within : c.args.last < length c.args.keys.now.keys = search rules in
    let at : c.in-Some.key.now ≡ get_or c.args.keys.now.keys c.args.last c.in-Some.key.now = search rules in
    let same : same_loc c.in-Some.key.now c.args.loc.now ≡ true = search rules in
    number_at c.args.loc.now c.args.keys.now.keys c.args.last c.requires.distinct (get_same c.args.keys.now.keys c.args.last c.in-Some.key.now c.args.loc.now within at same)

pub returns-then-eq-clause-known : goal.returns-then-eq-clause-known
returns-then-eq-clause-known c =
    let within : c.args.last < length c.args.keys.now.keys = search rules in
    let at : c.in-Some.key.now ≡ get_or c.args.keys.now.keys c.args.last c.in-Some.key.now = search rules in
    let same : same_loc c.in-Some.key.now c.args.loc.now ≡ true = search rules in
    sym (any_at c.args.loc.now c.args.keys.now.keys c.args.last (get_same c.args.keys.now.keys c.args.last c.in-Some.key.now c.args.loc.now within at same))

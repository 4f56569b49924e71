use Rattle.std.proofs.Common.{arith, sym, ap, ◌∙◌, subst}
use Rattle.er_access.specs.declared.access.Access.{Access}
use Rattle.er_access.specs.Numbers.{IsKeptAt, access_at}
use Rattle.er_access.proofs.LocatedLemmas.{kept_at_number}
use Rattle.er_access.proofs.TableLemmas.{accesses_seen, access_read, count_seen}
use Rattle.er_access.proofs.table.Table.access.Goals as goal

pub returns-clause-access : goal.returns-clause-access
returns-clause-access c =
    let count = count_seen c.self.inside.keys.keys c.self.inside.accesses.items c.args.self.now c.self.view_is in
    let same = accesses_seen c.self.inside.keys.keys c.self.inside.places.items c.self.inside.accesses.items c.self.inside.pairs c.args.self.now c.self.view_is c.self.invariant in
    access_read c.self.inside.accesses.items c.args.n c.index.result.now (omega (arith, count, c.requires)) c.index.ensures
    ∙ ap (λ l. access_at l c.args.n) (sym same)

pub returns-clause-kept : goal.returns-clause-kept
returns-clause-kept c =
    let count = count_seen c.self.inside.keys.keys c.self.inside.accesses.items c.args.self.now c.self.view_is in
    let same = accesses_seen c.self.inside.keys.keys c.self.inside.places.items c.self.inside.accesses.items c.self.inside.pairs c.args.self.now c.self.view_is c.self.invariant in
    let P : Access → Type 0 = λ x. IsKeptAt c.args.self.now c.args.n x in
    subst P (sym (access_read c.self.inside.accesses.items c.args.n c.index.result.now (omega (arith, count, c.requires)) c.index.ensures ∙ ap (λ l. access_at l c.args.n) (sym same)))
    (kept_at_number c.args.self.now c.args.n c.requires)

use Rattle.std.proofs.Common.{◌++◌, ◌∷◌, [], arith, sym, ap, ◌∙◌, List, subst}
use Rattle.er_access.specs.Place.{Seen}
use Rattle.er_access.specs.Table.{IsHeld}
use Rattle.er_access.proofs.AddLemmas.{held_new}
use Rattle.er_access.proofs.add.put.Goals as goal

pub returns-clause-held : goal.returns-clause-held
returns-clause-held c = λ pairs held.
    let n = c.args.accesses.now.ok.0 in
    let P : List Seen → Type 0 = λ l. IsHeld l c.push-2.new.self.items pairs in
    subst P (sym c.in-Ok.ensures.items)
    (held_new c.args.places.now.items c.args.accesses.now.items c.push-2.new.self.items pairs c.len-n.result c.args.access c.in_ok-place.place held c.requires.new c.requires.room c.requires.action
    (omega (arith, n, c.len-n.ensures)) c.in_ok-place.ensures (c.in-Ok-push.ensures.items ∙ ap (λ l. l ++ c.args.access ∷ []) c.reserve.ensures.items))

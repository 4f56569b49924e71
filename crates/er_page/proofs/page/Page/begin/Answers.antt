use Rattle.std.proofs.Common.{arith, ap, sym, length, reverse, subst, ◌∙◌, ◌++◌, ◌∷◌, []}
use Rattle.er_page.specs.Roles.{role_by}
use Rattle.er_page.specs.Stack.{HasDepth, StackIs}
use Rattle.er_page.proofs.TakenLemmas.{page_begun, pieces_few, depth_next}
use Rattle.er_page.proofs.PiecesLemmas.{pieces_same}
use Rattle.er_page.proofs.WithinLemmas.{within_kept}
use Rattle.er_page.proofs.page.Page.begin.Goals as goal

pub take-requires-4-clause-depth : goal.take-requires-4-clause-depth
take-requires-4-clause-depth c = subst (λ ls. HasDepth (reverse ls) c.args.rec.now) (sym c.in_ok-make_room-2.ensures.kept) (depth_next c.args.self.now c.args.rec.now c.requires.next)

pub take-requires-5-clause-few : goal.take-requires-5-clause-few
take-requires-5-clause-few c = omega (arith, ap length c.in_ok-make_room.ensures.list, pieces_few c.args.self.now c.args.rec.now c.requires.next)

pub returns-clause-taken : goal.returns-clause-taken
returns-clause-taken c = λ h is next starts.
    let pieces = c.make_room.new.self in
    let role = c.role_by-role.ensures h is.claimed ∙ (λ i. role_by h (c.first_of-first.ensures i) (c.served_of.ensures i)) in
    let stack : StackIs c.make_room-2.new.self h = record { levels = ap reverse c.in_ok-make_room-2.ensures.kept ∙ is.stack.levels } in
    page_begun _ c.make_room-2.new.self pieces c.make_room-3.new.self c.make_room-4.new.self c.job_dispatch-dispatch.result h c.args.rec.now c.args.start c.count-action.result c.role_by-role.result
    stack
    (pieces_same c.args.self.now.pieces pieces h is.pieces c.in_ok-make_room.ensures.list c.in_ok-make_room.ensures.latest)
    (c.in_ok-make_room-3.ensures.kept _ is.latest) (within_kept c.args.self.now.within c.make_room-4.new.self h c.in_ok-make_room-4.ensures.kept is.within)
    (c.job_dispatch-dispatch.ensures h stack) is.accepted next starts (c.count-action.ensures ∙ ap length (sym c.in_ok-make_room.ensures.list))
    (c.take-2.ensures h is.claimed) (c.take-3.ensures h is.tasks) c.take-4.ensures (c.take-5.ensures.list ∙ ap (λ b. pieces.list.items ++ record { begin = b; start = c.args.start } ∷ []) c.in_ok-begin.ensures) c.take-5.ensures.latest role c.take.ensures c.take-6.ensures

use Rattle.std.proofs.Common.{refl}
use Rattle.er_latest.proofs.LatestLemmas.{kept}
use Rattle.er_latest.proofs.latest.Latest.make_room.Goals as goal

pub returns-in_err-make_room-9-clause-kept : goal.returns-in_err-make_room-9-clause-kept
returns-in_err-make_room-9-clause-kept c = λ actions stands.
    kept c.args.self.now _ actions stands c.make_room.ensures.kept c.make_room-2.ensures.kept c.make_room-3.ensures.kept c.make_room-4.ensures.kept c.make_room-5.ensures.kept c.make_room-6.ensures.kept
    c.make_room-7.ensures.kept c.make_room-8.ensures.kept c.make_room-9.ensures.kept (λ k. refl) (λ n k. refl) (λ n k. refl)

pub returns-in_err-make_room-10-clause-kept : goal.returns-in_err-make_room-10-clause-kept
returns-in_err-make_room-10-clause-kept c = λ actions stands.
    kept c.args.self.now _ actions stands c.make_room.ensures.kept c.make_room-2.ensures.kept c.make_room-3.ensures.kept c.make_room-4.ensures.kept c.make_room-5.ensures.kept c.make_room-6.ensures.kept
    c.make_room-7.ensures.kept c.make_room-8.ensures.kept c.make_room-9.ensures.kept c.make_room-10.ensures.kept (λ n k. refl) (λ n k. refl)

pub returns-in_err-make_room-11-clause-kept : goal.returns-in_err-make_room-11-clause-kept
returns-in_err-make_room-11-clause-kept c = λ actions stands.
    kept c.args.self.now _ actions stands c.make_room.ensures.kept c.make_room-2.ensures.kept c.make_room-3.ensures.kept c.make_room-4.ensures.kept c.make_room-5.ensures.kept c.make_room-6.ensures.kept
    c.make_room-7.ensures.kept c.make_room-8.ensures.kept c.make_room-9.ensures.kept c.make_room-10.ensures.kept c.make_room-11.ensures.kept (λ n k. refl)

pub returns-clause-kept : goal.returns-clause-kept
returns-clause-kept c = λ actions stands.
    kept c.args.self.now _ actions stands c.make_room.ensures.kept c.make_room-2.ensures.kept c.make_room-3.ensures.kept c.make_room-4.ensures.kept c.make_room-5.ensures.kept c.make_room-6.ensures.kept
    c.make_room-7.ensures.kept c.make_room-8.ensures.kept c.make_room-9.ensures.kept c.make_room-10.ensures.kept c.make_room-11.ensures.kept c.make_room-12.ensures.kept

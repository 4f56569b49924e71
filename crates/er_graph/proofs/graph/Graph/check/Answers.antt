use Rattle.er_graph.specs.Accepted.{records}
use Rattle.er_history.specs.Naming.{naming}
use Rattle.er_graph.proofs.PartLemmas.{named_first, room_last, late_next, ok_none}
use Rattle.er_graph.proofs.graph.Graph.check.Goals as goal

pub returns-in-Err : goal.returns-in-Err
returns-in-Err c = λ accepted listed. named_first c.args.self.now.version accepted c.args.rec.now c.in-Err.cause (c.in-Err.ensures (records accepted) listed.page)

pub returns : goal.returns
returns c = λ accepted listed.
    let h = records accepted in
    let named = c.in_default.ensures h listed.page in
    room_last c.args.self.now.version accepted c.args.rec.now c.room.result named (c.if-is_late.ensures c.args.self.now.version h listed.page listed.sound (ok_none (naming h c.args.rec.now) named)) (c.room.ensures h listed.page)

pub returns-then-is_late : goal.returns-then-is_late
returns-then-is_late c = λ accepted listed.
    let h = records accepted in
    let named = c.in_default.ensures h listed.page in
    late_next c.args.self.now.version accepted c.args.rec.now named (c.if-is_late.ensures c.args.self.now.version h listed.page listed.sound (ok_none (naming h c.args.rec.now) named))

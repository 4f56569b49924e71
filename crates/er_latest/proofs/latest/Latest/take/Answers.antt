use Rattle.er_latest.proofs.LatestLemmas.{taken}
use Rattle.er_latest.proofs.latest.Latest.take.Goals as goal

pub returns : goal.returns
returns c = λ actions a stands told.
    taken c.args.self.now _ c.args.role.now c.args.now a actions stands told
    (rw c.step.ensures at c.put.ensures) (rw c.blocking.ensures at c.put-2.ensures) (rw c.deferred.ensures at c.put-3.ensures)
    (rw (c.deferred-2.ensures, c.script.ensures) at c.put-4.ensures) (rw c.tick.ensures at c.put-5.ensures) (rw c.reply.ensures at c.put-6.ensures)
    (rw c.async_run.ensures at c.put-10.ensures) (rw c.static_load.ensures at c.put-11.ensures) (rw c.handler-2.ensures at c.put-12.ensures)
    (rw c.handler.ensures at c.put-9.ensures.greatest) c.put-9.ensures.ordered
    (rw c.at_element.ensures at c.put-7.ensures) (rw c.at_window.ensures at c.put-8.ensures)

use Rattle.std.proofs.lemmas.Result.{on_ok_weaker}
use Rattle.er_clocks.proofs.Growth.{made_of, stands_put}
use Rattle.er_clocks.proofs.clocks.Clocks.push.Goals as goal

pub put-requires : goal.put-requires
put-requires c =
    let made = c.in_ok-sources.ensures in
    let sources = c.in_ok-sources.sources in
    record {
      room = c.requires.room;
      links = made.known.0;
      reach = made.known.1;
      made = made_of c.args.self.now sources.links sources.reach c.args.preds.now made.links made.reach;
    }

pub returns-clause-pushed : goal.returns-clause-pushed
returns-clause-pushed c = on_ok_weaker c.put.result
    (λ put. stands_put c.args.self.now c.put.new.self c.in_ok-sources.sources.links c.args.preds.now c.in_ok-sources.ensures.links put) c.put.ensures.put

use Rattle.std.proofs.Common.{sym}
use Rattle.std.proofs.lemmas.Result.{on_ok_weaker}
use Rattle.er_graph.proofs.PartLemmas.{some_page, some_timed, known_sources, clocks_room, clocks_begun, timed_more, timed_again}
use Rattle.er_graph.proofs.grow.push.Goals as goal

pub follows_peer-requires : goal.follows_peer-requires
follows_peer-requires c = record { some = some_page c.args.version c.args.page.now c.args.clocks.now c.args.rec.now c.requires.now }

pub push_again-requires : goal.push_again-requires
push_again-requires c = record {
  begun = clocks_begun c.args.version c.args.page.now c.args.clocks.now c.args.rec.now c.requires.now (λ h page. sym (c.if-follows_peer.ensures h page));
  room = clocks_room c.args.version c.args.page.now c.args.clocks.now c.args.rec.now c.requires.now c.requires.begins;
}

pub returns-then-follows_peer : goal.returns-then-follows_peer
returns-then-follows_peer c = on_ok_weaker c.push_again.result
    (λ pushed. timed_again c.args.version c.args.page.now c.args.clocks.now c.push_again.new.self c.args.rec.now (λ h page. sym (c.if-follows_peer.ensures h page)) pushed) c.push_again.ensures.pushed

pub sources-requires : goal.sources-requires
sources-requires c = record {
  some = some_page c.args.version c.args.page.now c.args.clocks.now c.args.rec.now c.requires.now;
  timed = some_timed c.args.version c.args.page.now c.args.clocks.now c.args.rec.now c.requires.now;
}

pub push-requires : goal.push-requires
push-requires c = record {
  known = known_sources c.args.version c.args.page.now c.args.clocks.now c.args.rec.now c.in_ok-sources.sources.items c.as_slice.result.now c.requires.now c.as_slice.ensures c.in_ok-sources.ensures;
  room = clocks_room c.args.version c.args.page.now c.args.clocks.now c.args.rec.now c.requires.now c.requires.begins;
}

pub returns : goal.returns
returns c = on_ok_weaker c.push.result
    (λ pushed. timed_more c.args.version c.args.page.now c.args.clocks.now c.push.new.self c.args.rec.now c.in_ok-sources.sources.items c.as_slice.result.now c.requires.begins c.in_ok-sources.ensures c.as_slice.ensures pushed) c.push.ensures.pushed

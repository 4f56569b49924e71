use Rattle.er_page.proofs.PageLemmas.{begun_of_count}
use Rattle.er_page_tests.proofs.nested.latest.Goals as goal

pub event_of-found-requires : goal.event_of-found-requires
event_of-found-requires c = record { begun = begun_of_count _ _ c.actions.result c.args.reading.now.some c.actions.ensures c.if-event-actions.false }

use Rattle.er_page.proofs.PageLemmas.{begun_of_count}
use Rattle.er_page_tests.proofs.answers.begun.Goals as goal

pub event_of-event-requires : goal.event_of-event-requires
event_of-event-requires c = record { begun = begun_of_count _ _ c.actions.result c.args.reading.now.some c.actions.ensures c.if-action-actions.false }

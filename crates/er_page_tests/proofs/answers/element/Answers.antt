use Rattle.er_page.proofs.PageLemmas.{begun_of_count}
use Rattle.er_page_tests.proofs.answers.element.Goals as goal

pub begin_of-requires : goal.begin_of-requires
begin_of-requires c = record { begun = begun_of_count _ _ c.actions.result c.args.reading.now.some c.actions.ensures c.if-action-actions.false }

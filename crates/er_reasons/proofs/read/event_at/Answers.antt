use Rattle.er_reasons.proofs.ReadLemmas.{event_begun, event_read, some_page}
use Rattle.er_reasons.specs.Shown.{what_shown}
use Rattle.er_reasons.proofs.read.event_at.Goals as goal

pub begin_of-begin-requires : goal.begin_of-begin-requires
begin_of-begin-requires c = record { begun = event_begun c.args.page.now c.args.action c.event_of-number.result c.requires.begun c.event_of-number.ensures }

pub what_of-requires : goal.what_of-requires
what_of-requires c = record { some = some_page c.args.page.now c.args.action c.requires.begun }

pub returns : goal.returns
returns c = λ h a stands found. event_read c.args.page.now h c.args.action c.event_of-number.result c.begin_of-begin.result.now (what_shown h c.what_of.result) a stands found (c.event_of-number.ensures h stands) (c.begin_of-begin.ensures h stands) (c.what_of.ensures h stands)

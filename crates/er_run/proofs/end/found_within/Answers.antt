use Rattle.er_run.proofs.JudgedLemmas.{judged_check, judged_summary}
use Rattle.er_run.proofs.end.found_within.Goals as goal

pub returns-in-Ok-clause-found : goal.returns-in-Ok-clause-found
returns-in-Ok-clause-found g c = λ h stands.
    judged_check c.args.session.now c.args.command c.in-Check.json c.in-Check.input h _ c.in-Ok.listing c.in-Check.is stands (c.in-Ok.ensures.listed h stands) (c.for_text.ensures c.in-Check.input)

pub returns-in-Ok-listing_within-clause-found : goal.returns-in-Ok-listing_within-clause-found
returns-in-Ok-listing_within-clause-found g c = λ h stands.
    judged_summary c.args.session.now c.args.command c.in-Gen.number h c.in-Ok-listing_within.listing c.in-Gen.is stands (c.in-Ok-listing_within.ensures.listed h stands)

pub returns-in-Schedule-clause-found : goal.returns-in-Schedule-clause-found
returns-in-Schedule-clause-found g c = rw c.in-Schedule.is c.orders_within.ensures.found

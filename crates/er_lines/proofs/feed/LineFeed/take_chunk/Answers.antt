use Rattle.er_lines.proofs.FeedLaws.{leads_more, leads_part}
use Rattle.er_lines.proofs.feed.LineFeed.take_chunk.Goals as goal

pub returns-in-Err-clause-refused : goal.returns-in-Err-clause-refused
returns-in-Err-clause-refused g c = λ n cause e.
    leads_more _ _ _ _ _ _ _ _ _ _ _ _ _ c.loop-rest.invariant.took (c.take_next.ensures.refused n cause cc)

pub returns-in-Err-clause-no_memory : goal.returns-in-Err-clause-no_memory
returns-in-Err-clause-no_memory g c = λ e.
    leads_part _ _ _ _ _ _ _ _ _ _ c.loop-rest.invariant.took (c.take_next.ensures.no_memory cc)

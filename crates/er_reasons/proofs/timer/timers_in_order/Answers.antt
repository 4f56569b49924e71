use Rattle.er_paths.specs.Paths.{joins}
use Rattle.er_history.specs.Edges.{up_to}
use Rattle.er_reasons.proofs.timer.timers_in_order.Goals as goal

pub returns-in-One : goal.returns-in-One
returns-in-One c = λ h lists stands timed. rw c.in-One.is (c.timers_of_one_event_in_order.ensures (up_to c.args.v.now.number (joins lists)) h stands)

pub returns-in-Two : goal.returns-in-Two
returns-in-Two c = λ h lists stands timed. rw c.in-Two.is (c.timers_of_joined_pieces_in_order.ensures h lists stands timed)

pub returns-in-Three : goal.returns-in-Three
returns-in-Three c = λ h lists stands timed. rw c.in-Three.is (c.timers_of_joined_pieces_in_order-in-Three.ensures h lists stands timed)

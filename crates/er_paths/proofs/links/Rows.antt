-- The worked rows, by computing.
use Rattle.std.proofs.Common.{refl}
use Rattle.er_paths.specs.links.Rows.{NoAction, TwoTimeoutsApart, TwoTimeoutsInOrder, ImageAfterLoad, LoadAfterImage, OneChain, TwoHandlers, NoEdge, LowerChain, WorkedRows}

no_action : NoAction
no_action = record { chained_are = refl; placed_are = refl; entered_are = refl; linked_are = refl; counted_are = refl }

two_timeouts_apart : TwoTimeoutsApart
two_timeouts_apart = record { chained_are = refl; placed_are = refl; entered_are = refl; linked_are = refl; counted_are = refl }

two_timeouts_in_order : TwoTimeoutsInOrder
two_timeouts_in_order = record { chained_are = refl; placed_are = refl; entered_are = refl; linked_are = refl; counted_are = refl }

image_after_load : ImageAfterLoad
image_after_load = record { chained_are = refl; placed_are = refl; entered_are = refl; linked_are = refl; counted_are = refl }

load_after_image : LoadAfterImage
load_after_image = record { chained_are = refl; placed_are = refl; entered_are = refl; linked_are = refl; counted_are = refl }

one_chain : OneChain
one_chain = record { chained_are = refl; placed_are = refl; entered_are = refl; linked_are = refl; counted_are = refl }

two_handlers : TwoHandlers
two_handlers = record { chained_are = refl; placed_are = refl; entered_are = refl; linked_are = refl; counted_are = refl }

no_edge : NoEdge
no_edge = record { chained_are = refl; placed_are = refl; entered_are = refl; linked_are = refl; counted_are = refl }

lower_chain : LowerChain
lower_chain = record { chained_are = refl; placed_are = refl; entered_are = refl; linked_are = refl; counted_are = refl }

pub worked_rows : WorkedRows
worked_rows = (no_action, two_timeouts_apart, two_timeouts_in_order, image_after_load, load_after_image, one_chain, two_handlers, no_edge, lower_chain)

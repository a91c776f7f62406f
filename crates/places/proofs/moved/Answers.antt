use Rattle.places_layout.specs.Placed.{moved_by}
use Rattle.places.proofs.moved.Goals as goal

pub returns : goal.returns
unfolding moved_by
returns c = λ j. record { edition = c.args.p.edition; runtime = c.moved_place.ensures j; stage = c.args.p.stage; resources = c.moved_place-2.ensures j; resource_count = c.args.p.resource_count; resource_size = c.args.p.resource_size; strings = c.later_place.ensures j; string_bytes = c.args.p.string_bytes; indices = c.later_place-2.ensures j; index_count = c.args.p.index_count; elements = c.later_place-3.ensures j; element_count = c.args.p.element_count; element_size = c.args.p.element_size; masks = c.later_place-4.ensures j; mask_words = c.args.p.mask_words }

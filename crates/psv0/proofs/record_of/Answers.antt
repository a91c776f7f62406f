use mathlib.Core.List.{[], ◌∷◌}
use Rattle.psv0_layout.specs.Field.{mask_words_of}
use Rattle.psv0.proofs.Accepted.{edition_small, resources_small, resource_count_small, resource_size_small, strings_small_lem, string_bytes_small, indices_small_lem, index_count_small, elements_small, element_count_small, element_size_small, masks_small}
use Rattle.psv0.proofs.Recording.{pos, head_record, guide_is, guide_fits, whole_record}
use Rattle.psv0.proofs.record_of.Goals as goal

pub overflow_cast-result : goal.overflow_cast-result
overflow_cast-result c = record { fits = resources_small c.requires }

pub overflow_cast-result-then-p-eq0 : goal.overflow_cast-result-then-p-eq0
overflow_cast-result-then-p-eq0 c = record { fits = resource_count_small c.requires }

pub overflow_cast-result-then-p-eq0-2 : goal.overflow_cast-result-then-p-eq0-2
overflow_cast-result-then-p-eq0-2 c = record { fits = resource_size_small c.requires }

pub returns-then-p-eq0 : goal.returns-then-p-eq0
returns-then-p-eq0 c = head_record c.requires c.if-p-eq0.true

pub slice_bounds-r-end : goal.slice_bounds-r-end
slice_bounds-r-end c = guide_fits c.requires (pos c.if-p-eq0.false)

pub overflow_cast-result-2 : goal.overflow_cast-result-2
overflow_cast-result-2 c = record { fits = edition_small c.requires }

pub overflow_cast-result-4 : goal.overflow_cast-result-4
overflow_cast-result-4 c = record { fits = resources_small c.requires }

pub overflow_cast-result-5 : goal.overflow_cast-result-5
overflow_cast-result-5 c = record { fits = resource_count_small c.requires }

pub overflow_cast-result-6 : goal.overflow_cast-result-6
overflow_cast-result-6 c = record { fits = resource_size_small c.requires }

pub overflow_cast-result-7 : goal.overflow_cast-result-7
overflow_cast-result-7 c = record { fits = strings_small_lem c.requires (pos c.if-p-eq0.false) }

pub overflow_cast-result-8 : goal.overflow_cast-result-8
overflow_cast-result-8 c = record { fits = string_bytes_small c.requires (pos c.if-p-eq0.false) }

pub overflow_cast-result-9 : goal.overflow_cast-result-9
overflow_cast-result-9 c = record { fits = indices_small_lem c.requires (pos c.if-p-eq0.false) }

pub overflow_cast-result-10 : goal.overflow_cast-result-10
overflow_cast-result-10 c = record { fits = index_count_small c.requires (pos c.if-p-eq0.false) }

pub overflow_cast-result-11 : goal.overflow_cast-result-11
overflow_cast-result-11 c = record { fits = elements_small c.requires (pos c.if-p-eq0.false) }

pub overflow_cast-result-12 : goal.overflow_cast-result-12
overflow_cast-result-12 c = record { fits = element_count_small c.requires (pos c.if-p-eq0.false) }

pub overflow_cast-result-13 : goal.overflow_cast-result-13
overflow_cast-result-13 c = record { fits = element_size_small c.requires (pos c.if-p-eq0.false) }

pub overflow_cast-result-14 : goal.overflow_cast-result-14
overflow_cast-result-14 c = record { fits = masks_small c.requires (pos c.if-p-eq0.false) }

pub returns : goal.returns
unfolding mask_words_of
returns c = let g = c.requires in let h = pos c.if-p-eq0.false in whole_record g h _ _ (rw (← (guide_is g h)) c.byte_at.ensures) (rw (← (guide_is g h)) (λ i. c.mask_word.ensures i ∷ c.mask_word-2.ensures i ∷ c.mask_word-3.ensures i ∷ c.mask_word-4.ensures i ∷ c.mask_word-5.ensures i ∷ c.mask_word-6.ensures i ∷ c.mask_word-7.ensures i ∷ c.mask_word-8.ensures i ∷ c.mask_word-9.ensures i ∷ c.mask_word-10.ensures i ∷ c.mask_word-11.ensures i ∷ []))

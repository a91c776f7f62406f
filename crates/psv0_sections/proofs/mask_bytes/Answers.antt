use Rattle.psv0_layout.proofs.Masks.{bytes_are, bytes_fit}
use Rattle.psv0_sections.proofs.mask_bytes.Goals as goal

pub overflow_mul-result : goal.overflow_mul-result
overflow_mul-result c = record { fits = bytes_fit _ _ c.words_before.ensures (record { below = λ k. (c.type_inv.r k).fits }) }

pub returns : goal.returns
returns c = bytes_are _ _ c.words_before.ensures

use Rattle.std.specs.Prelude.{Some}
use Prim.Native.Nat.{◌/◌, ◌%◌}
use Rattle.psv0_layout.specs.Answers.{element_of}
use Rattle.psv0_layout.specs.Parts.{element_shown}
use Rattle.places.proofs.element_at.Goals as goal

pub returns : goal.returns
unfolding element_of element_shown
returns c =
    λ i.
    record {
      name_offset = c.number_field.ensures i;
      index_reference = c.number_field-2.ensures i;
      rows = c.byte_field.ensures i;
      start_row = c.byte_field-2.ensures i;
      columns = Some (c.byte_at-columns_byte.ensures i % 16);
      start_column = Some (c.byte_at-columns_byte.ensures i / 16 % 4);
      allocated = Some (c.byte_at-columns_byte.ensures i / 64 % 2);
      semantic_kind = c.byte_field-3.ensures i;
      component_type = c.byte_field-4.ensures i;
      interpolation = c.byte_field-5.ensures i;
      dynamic_mask = Some (c.byte_at-stream_byte.ensures i % 16);
      stream = Some (c.byte_at-stream_byte.ensures i / 16 % 4);
      reserved = c.byte_field-6.ensures i;
    }

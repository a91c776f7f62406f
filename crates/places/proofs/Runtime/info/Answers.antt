use Rattle.psv0_layout.specs.Shown.{value}
use Rattle.psv0_layout.specs.Answers.{info_of}
use Rattle.places_layout.specs.Parts.{of_runtime}
use Rattle.places_layout.specs.Read.{source_of, is_there, value_by}
use Rattle.places.proofs.Runtime.info.Goals as goal

pub returns : goal.returns
unfolding info_of of_runtime source_of is_there value_by value
returns c =
    λ i.
    record {
      minimum_wave_lanes = c.number.ensures i;
      maximum_wave_lanes = c.number-2.ensures i;
      stage = c.byte.ensures i;
      uses_view_id = c.byte-2.ensures i;
      max_vertex_count = c.max_vertex_count.ensures i;
      patch_vectors = c.patch_vectors.ensures i;
      mesh_topology = c.mesh_topology.ensures i;
      input_elements = c.byte-3.ensures i;
      output_elements = c.byte-4.ensures i;
      patch_elements = c.byte-5.ensures i;
      input_vectors = c.byte-6.ensures i;
      output_vectors_0 = c.byte-7.ensures i;
      output_vectors_1 = c.byte-8.ensures i;
      output_vectors_2 = c.byte-9.ensures i;
      output_vectors_3 = c.byte-10.ensures i;
      threads_x = c.thread_count.ensures i;
      threads_y = c.thread_count-2.ensures i;
      threads_z = c.thread_count-3.ensures i;
      entry_name_offset = c.number-3.ensures i;
    }

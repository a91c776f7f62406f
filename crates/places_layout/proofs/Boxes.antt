-- Worked boxes: what the places of PSV0 data answer on them, and on other bytes; and what made-up places answer.
-- Assumes nothing.
use Prim.Native.Nat.{ℕ}
use mathlib.Core.Path.{◌≡◌, refl}
use mathlib.Core.List.{List, [], ◌∷◌, ◌++◌}
use lib.ListN.{take, replicate}
use Rattle.utf8_layout.specs.Sequence.{table, fits, front, more, after, counted as counted_in, well_formed, code_points}
use Rattle.wire.specs.Number.{u16_at, u32_at}
use Rattle.wire.specs.Verdict.{◌then◌, check, under}
use Rattle.std.specs.Prelude.{Err}
use Rattle.psv0_layout.specs.Field.{mask_words_of, sum}
use Rattle.psv0_layout.specs.Judged.{opened}
use Rattle.psv0_layout.specs.Layout.{counted, after_counted, rows, edition_read_of}
use Rattle.psv0_layout.specs.Position.{next_records, stride_at, first_record, resources_start, strings_start, indices_start, elements_start, masks_start}
use Rattle.psv0_layout.specs.Reference.{has_zero, until_zero, string_ends, string_good, string_at, index_good, array_at}
use Rattle.psv0_layout.specs.Shown.{number, view, Question, least_lanes, max_vertex_count, threads, resource_field, element_field, element_string, element_points, element_array, mask, entry_name, entry_points, string_bytes, value}
use Rattle.places_layout.specs.Placed.{head_at, whole_at, places_at, opened_places}
use Rattle.places_layout.specs.Read.{body_by, seen_by, source_of, is_there, readable, value_by, Answer, given, refusal, answered_from, answered_by}
use Rattle.places_layout.specs.declared.SectionPlaces.{SectionPlaces}

abbrev zeros : ℕ → List ℕ
zeros n = replicate n 0

abbrev word : ℕ → List ℕ
word n = n ∷ 0 ∷ 0 ∷ 0 ∷ []

-- the PSV0 data of document 01's box C, with a name offset: the string table stands at 64, up to 72
abbrev box_c : ℕ → List ℕ
box_c o =
    word 52 ++ zeros 24 ++ (5 ∷ []) ++ zeros 23 ++ word o ++ word 0 ++ word 8 ++ (0 ∷ 109 ∷ 97 ∷ 105 ∷ 110 ∷ 0 ∷ 0 ∷ 0 ∷ []) ++ word 0

-- of edition 1, stage 1, with one input element of two rows, named `A`, with an index reference; one resource record of 16 bytes: the resource stands
-- at 48, the strings at 68, the indices at 76, the element at 88, and the data end at 104
abbrev box_e : ℕ → List ℕ
box_e c =
    word 36 ++ zeros 24 ++ (1 ∷ 0 ∷ 0 ∷ 0 ∷ 1 ∷ []) ++ zeros 7 ++ word 1 ++ word 16 ++ word 3 ++ word 4 ++ word 5 ++ word 6 ++ word 4 ++ (65 ∷ 0 ∷ 0 ∷ 0 ∷ []) ++ word 2
    ++ word 8 ++ word 9 ++ word 16 ++ word 0 ++ word c ++ (2 ∷ []) ++ zeros 7

-- the places of d opened at edition k, asked of the bytes b
abbrev asked : List ℕ → ℕ → List ℕ → Question → Answer
asked d k b q = answered_by (places_at 0 (edition_read_of k d) d) b q

-- made-up places: an edition above 3, and numbers as great as 32 bits hold
abbrev great : ℕ → SectionPlaces
great k =
    record {
      edition = k;
      runtime = 4294967295;
      stage = 4294967295;
      resources = 4294967295;
      resource_count = 4294967295;
      resource_size = 4294967295;
      strings = 4294967295;
      string_bytes = 4294967295;
      indices = 4294967295;
      index_count = 4294967295;
      elements = 4294967295;
      element_count = 4294967295;
      element_size = 4294967295;
      masks = 4294967295;
      mask_words = replicate 11 4294967295;
    }

abbrev answers : List Answer
answers =
    asked (box_c 1) 3 (box_c 1) entry_name
    ∷ asked (box_c 1) 3 (box_c 1) entry_points
    ∷ asked (box_c 1) 3 (box_c 1) (threads 0)
    ∷ asked (box_c 1) 3 (box_c 1) max_vertex_count
    ∷ asked (box_c 1) 3 (box_c 5) entry_name
    ∷ asked (box_c 1) 3 (box_c 8) entry_name
    ∷ asked (box_c 1) 3 (take 71 (box_c 1)) entry_name
    ∷ asked (box_c 1) 3 (take 72 (box_c 1)) entry_name
    ∷ asked (box_c 1) 3 [] string_bytes
    ∷ asked (box_c 1) 3 [] (element_field 0 0)
    ∷ asked (box_c 1) 3 [] (mask 11)
    ∷ asked (box_c 1) 3 [] least_lanes
    ∷ asked (box_c 1) 1 [] entry_name
    ∷ asked (box_c 1) 0 [] string_bytes
    ∷ asked (box_e 0) 3 (box_e 0) (resource_field 0 3)
    ∷ asked (box_e 0) 3 (box_e 0) (resource_field 0 4)
    ∷ asked (box_e 0) 3 (box_e 0) (element_string 0)
    ∷ asked (box_e 0) 3 (box_e 0) (element_points 0)
    ∷ asked (box_e 0) 3 (box_e 0) (element_array 0)
    ∷ asked (box_e 0) 3 (box_e 1) (element_array 0)
    ∷ asked (box_e 0) 3 (take 103 (box_e 0)) (element_field 0 12)
    ∷ asked (box_e 0) 3 (box_e 0) (element_field 0 13)
    ∷ answered_by (great 7) (box_e 0) entry_name
    ∷ answered_by (great 7) (box_e 0) (resource_field 4294967294 5)
    ∷ answered_by (great 7) (box_e 0) (resource_field 4294967295 5)
    ∷ answered_by (great 0) (box_e 0) (element_field 0 0)
    ∷ answered_by (great 0) (box_e 0) (resource_field 0 4)
    ∷ []

abbrev said : List Answer
said =
    given (view (109 ∷ 97 ∷ 105 ∷ 110 ∷ []))
    ∷ given (number 4)
    -- a thread count, of stage 5; no vertex count
    ∷ given (number 0)
    ∷ refusal 26
    -- other bytes: another good reference, and one that is not good
    ∷ given (view [])
    ∷ refusal 29
    -- the whole string table is needed
    ∷ refusal 29
    ∷ given (view (109 ∷ 97 ∷ 105 ∷ 110 ∷ []))
    -- no bytes: lengths and 26 by the record, then 29
    ∷ given (number 8)
    ∷ refusal 26
    ∷ refusal 26
    ∷ refusal 29
    ∷ refusal 26
    ∷ refusal 26
    -- a record of 16 bytes has an upper bound and no kind
    ∷ given (number 6)
    ∷ refusal 26
    ∷ given (view (65 ∷ []))
    ∷ given (number 1)
    ∷ given (view (8 ∷ 0 ∷ 0 ∷ 0 ∷ 9 ∷ 0 ∷ 0 ∷ 0 ∷ []))
    -- two rows from 1 on are one too many
    ∷ refusal 29
    ∷ refusal 29
    ∷ refusal 26
    -- made up: what is recorded is not inside, or not recorded
    ∷ refusal 29
    ∷ refusal 29
    ∷ refusal 26
    ∷ refusal 26
    ∷ refusal 26
    ∷ []

pub boxes_hold : answers ≡ said
unfolding u16_at u32_at mask_words_of sum counted after_counted rows next_records stride_at first_record resources_start strings_start indices_start elements_start masks_start has_zero until_zero string_ends string_good string_at index_good array_at value head_at whole_at places_at body_by seen_by source_of is_there readable value_by answered_from answered_by table fits front more after counted_in well_formed code_points
boxes_hold = refl

-- a refused opening hands back the refusal alone
pub refused_holds : opened_places 4 (box_c 1) ≡ Err (record { number = 25; place = 0 })
unfolding opened ◌then◌ check opened_places under
refused_holds = refl

-- Worked openings and figures: what the definitions give, and beside it what the papers say.
-- Assumes nothing.
use Rattle.std.specs.Prelude.{Option, Some, None, Result, Ok, Err}
use Prim.Native.Nat.{ℕ}
use mathlib.Core.Path.{◌≡◌, refl}
use mathlib.Core.List.{List, [], ◌∷◌, ◌++◌}
use lib.ListN.{get_or, replicate}
use Rattle.wire.specs.Number.{u16_at, u32_at}
use Rattle.wire.specs.Verdict.{◌then◌, check, when, from, each, under}
use Rattle.part_table_layout.specs.Lookup.{find}
use Rattle.part_table_layout.specs.Table.{count_of, offset_at, name_at, size_at, data_at, end_at, earliest, part_judged, may_repeat, may_stand, name_judged, header_judged, parts_judged, table_judged}
use Rattle.psv0_layout.specs.Field.{mask_words_of, sum}
use Rattle.psv0_layout.specs.Judged.{head_judged, fields_judged, body_fits, element_judged, elements_judged, entry_judged, judged_at}
use Rattle.psv0_layout.specs.Layout.{counted as counted_bytes, after_counted, counted_fits, records, after_records, records_fit, rows, sections, body_of, seen}
use Rattle.psv0_layout.specs.Reference.{has_zero, until_zero, string_ends, string_good, string_at}
use Rattle.psv0_layout.specs.Shown.{value, shown_at}
use Rattle.utf8_layout.specs.Sequence as utf8
use Rattle.container_layout.specs.Container.{psv_of, before_psv, container_judged, container_answered}
use Rattle.container_layout.proofs.Boxes.{psv_m, psv_c, boxed}
use Rattle.figures_layout.specs.declared.Addition.{Addition}
use Rattle.figures_layout.specs.declared.Answer.{Answer}
use Rattle.figures_layout.specs.declared.Figures.{Figures}
use Rattle.figures_layout.specs.declared.Full.{Full}
use Rattle.figures_layout.specs.declared.JoinError.{JoinError}
use Rattle.figures_layout.specs.declared.JoinError.TheVariants.{OtherEdition, Full as NoRoom}
use Rattle.figures_layout.specs.Kinds.{answer_of, history, tally, total}
use Rattle.figures_layout.specs.Figures.{table, figures_of, sums, summed, fits, joined, single, added}

-- document 01's M and C, 31 bytes, M with S = 26, which is no multiple of 4, and C with name offset 8
abbrev files : List (List ℕ)
files = boxed (psv_m 24) ∷ boxed (psv_c 52 1) ∷ replicate 31 0 ∷ boxed (psv_m 26) ∷ boxed (psv_c 52 8) ∷ []

abbrev passed : ℕ → Option ℕ → ℕ → Answer
passed e s n = record { opening = Ok (record { file_edition = e; stage = s }); len = n }

abbrev stopped : ℕ → ℕ → Answer
stopped n m = record { opening = Err (record { number = n; place = 0 }); len = m }

abbrev given : List (List Answer)
given = history 1 files ∷ history 3 files ∷ history 0 files ∷ history 4 files ∷ []

abbrev said : List (List Answer)
said =
    -- C is a file of edition 3 and of stage 5, and edition 1 does not look at its entry name
    (passed 0 None 92 ∷ passed 3 (Some 5) 136 ∷ stopped 1 31 ∷ stopped 12 94 ∷ passed 3 (Some 5) 136 ∷ [])
    ∷ (passed 0 None 92 ∷ passed 3 (Some 5) 136 ∷ stopped 1 31 ∷ stopped 12 94 ∷ stopped 24 136 ∷ [])
    -- a reading at edition 0 shows no stage
    ∷ (passed 0 None 92 ∷ passed 3 None 136 ∷ stopped 1 31 ∷ stopped 12 94 ∷ passed 3 None 136 ∷ [])
    -- "A start at an edition above 3 counts every opening as 25"
    ∷ (stopped 25 92 ∷ stopped 25 136 ∷ stopped 25 31 ∷ stopped 25 94 ∷ stopped 25 136 ∷ [])
    ∷ []

pub history_holds : given ≡ said
unfolding history answer_of u16_at u32_at ◌then◌ check when from each under find count_of offset_at name_at size_at data_at end_at earliest part_judged may_repeat may_stand name_judged header_judged parts_judged table_judged mask_words_of sum head_judged fields_judged body_fits element_judged elements_judged entry_judged judged_at counted_bytes after_counted counted_fits records after_records records_fit rows sections body_of seen has_zero until_zero string_ends string_good string_at utf8.table utf8.fits utf8.front utf8.more utf8.after utf8.counted utf8.well_formed value shown_at psv_of before_psv container_judged container_answered
history_holds = refl

-- ---- the figures of the first of these histories, by what is counted: `opened 5 accepted 3 refused 2 bytes 364`
abbrev zeros : ℕ → List ℕ
zeros n = replicate n 0

abbrev night : Figures
night =
    record {
      edition = 1;
      bytes = 364;
      opened = 5;
      accepted = 3;
      refused = 2;
      refusals = (0 ∷ 1 ∷ []) ++ zeros 10 ++ (1 ∷ []) ++ zeros 15;
      editions = 1 ∷ 0 ∷ 0 ∷ 2 ∷ [];
      stages = zeros 5 ++ (2 ∷ []) ++ zeros 10;
      unset = 1;
    }

pub figures_hold : figures_of 1 (get_or said 0 []) ≡ night
unfolding figures_of table tally total
figures_hold = refl

-- ---- figures that someone made up: every count is a
abbrev made : ℕ → ℕ → ℕ → ℕ → Figures
made k o a n =
    record {
      edition = k;
      bytes = n;
      opened = o;
      accepted = a;
      refused = a;
      refusals = replicate 28 a;
      editions = replicate 4 a;
      stages = replicate 16 a;
      unset = a;
    }

abbrev joins : List (Result Figures JoinError)
joins =
    joined (made 1 65534 2 5) (made 1 1 3 7)
    ∷ joined (made 1 65534 2 5) (made 1 2 3 7)
    ∷ joined (made 1 0 65535 18446744073709551615) (made 1 65535 1 1)
    ∷ joined (made 1 0 65534 18446744073709551614) (made 1 0 1 1)
    ∷ joined (made 1 65535 2 5) (made 2 65535 3 7)
    ∷ joined (made 4 1 2 5) (made 5 1 3 7)
    ∷ []

abbrev answers : List (Result Figures JoinError)
answers =
    Ok (made 1 65535 5 12)
    ∷ Err NoRoom
    -- no count wraps
    ∷ Ok (made 1 65535 65535 18446744073709551615)
    ∷ Ok (made 1 0 65535 18446744073709551615)
    -- figures of two editions, however full and whatever editions
    ∷ Err OtherEdition
    ∷ Err OtherEdition
    ∷ []

pub joins_hold : joins ≡ answers
unfolding joined fits summed sums
joins_hold = refl

-- ---- "A container past 65,535 changes nothing and is answered as full": the 65,535th is counted, the next is not
abbrev last : List (Result Addition Full)
last = added (made 4 65534 2 5) [] ∷ added (made 4 65535 2 5) [] ∷ []

abbrev lastly : List (Result Addition Full)
lastly =
    Ok
    (record {
      opening = Err (record { number = 25; place = 0 });
      figures =
          record {
            edition = 4;
            bytes = 5;
            opened = 65535;
            accepted = 2;
            refused = 3;
            refusals = replicate 25 2 ++ (3 ∷ 2 ∷ 2 ∷ []);
            editions = replicate 4 2;
            stages = replicate 16 2;
            unset = 2;
          };
    })
    ∷ Err (record {})
    ∷ []

pub last_holds : last ≡ lastly
unfolding added single answer_of fits summed sums figures_of table tally total container_judged container_answered before_psv check ◌then◌ under
last_holds = refl

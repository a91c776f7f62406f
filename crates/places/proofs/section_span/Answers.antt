use mathlib.Core.Path.{◌≡◌}
use native.Mathlib.Omega.{arith}
use lib.ListN.{length, take}
use lib.Seq.{take_all}
use Rattle.places_layout.specs.Handed.{handed_by, start_by, length_by}
use Rattle.places.proofs.section_span.Goals as goal

pub returns-in-RuntimeRecord : goal.returns-in-RuntimeRecord
unfolding handed_by start_by length_by
returns-in-RuntimeRecord c = rw c.in-RuntimeRecord.is (rw c.edition_size.ensures at c.stretch.ensures)

pub returns-in-ResourceRecords : goal.returns-in-ResourceRecords
unfolding handed_by start_by length_by
returns-in-ResourceRecords c = rw c.in-ResourceRecords.is (rw c.bytes_of.ensures at c.stretch-in-ResourceRecords.ensures)

pub returns-in-StringTable : goal.returns-in-StringTable
unfolding handed_by start_by length_by
returns-in-StringTable c = rw c.in-StringTable.is c.later.ensures

pub returns-in-IndexTable : goal.returns-in-IndexTable
unfolding handed_by start_by length_by
returns-in-IndexTable c = rw c.in-IndexTable.is c.later-in-IndexTable.ensures

pub returns-in-ElementRecords : goal.returns-in-ElementRecords
unfolding handed_by start_by length_by
returns-in-ElementRecords c = rw c.in-ElementRecords.is (rw c.bytes_of-in-ElementRecords.ensures at c.later-in-ElementRecords.ensures)

pub returns-in-Masks : goal.returns-in-Masks
unfolding handed_by start_by length_by
returns-in-Masks c =
    let words = c.args.p.mask_words in
    let n : length words ≡ 11 = omega arith in
    let all : take 11 words ≡ words = take_all 11 words (omega arith) in
    rw c.in-Masks.is (rw (c.words_before.ensures.0, all) at c.later-in-Masks.ensures)

-- Refusals 25, 2 and 12 to 24 of PSV0 data, in the order of checking.
use Rattle.std.specs.Prelude.{◌&&◌, ◌||◌, List, [], ℕ, ◌+◌, ◌%◌, leb, eqb, length, get_or, drop}
use Rattle.wire.specs.Number.{u32_at}
use Rattle.wire.specs.Verdict.{◌then◌, check, from, each, Verdict}
use Rattle.psv0_layout.specs.Field.{stage, uses_view_id_of, output_vectors, element_total, mask_bytes_of, name_offset_of, index_reference_of, row_count}
use Rattle.psv0_layout.specs.Layout.{after_counted, counted_fits, after_records, records_fit, sections, after1, after2, guide_of, resource_count_of, Body, Seen, seen, edition_read_of}
use Rattle.psv0_layout.specs.Reference.{string_good, index_good}

-- 12: "PSV0 data under 4 bytes, S not a multiple of 4, or S < 24"; 13: "the S bytes don't fit"; 14: "a field or record of section 2
-- doesn't fit, or a bad record size"
unfoldable pub head_judged : List ℕ → Verdict
head_judged d =
    check (leb 4 (length d) && eqb (u32_at d 0 % 4) 0 && leb 24 (u32_at d 0)) 12 0
    then check (counted_fits 1 d) 13 0
    then check (leb 4 (length (after1 d)) && records_fit (resource_count_of d) (drop 4 (after1 d))) 14 0

-- 15: "stage above 15"; 16: "UsesViewID above 1"; 17: "stage isn't 2 and a stream 1 to 3 has vectors"; r is the runtime record
unfoldable pub fields_judged : List ℕ → Verdict
fields_judged r =
    check (leb (stage r) 15) 15 0
    then check (leb (uses_view_id_of r) 1) 16 0
    then check (eqb (stage r) 2 || eqb (output_vectors r 1 + output_vectors r 2 + output_vectors r 3) 0) 17 0

-- 18: "section 3 doesn't fit or T is no multiple of 4"; 19: "section 4 doesn't fit"; 20: "section 5: as 14"; 21: "masks don't fit";
-- of the bytes after section 2, with e elements and m bytes of masks
unfoldable pub body_fits : List ℕ → ℕ → ℕ → Verdict
body_fits l e m =
    check (counted_fits 1 l && eqb (u32_at l 0 % 4) 0) 18 0
    then check (counted_fits 4 (after_counted 1 l)) 19 0
    then check (records_fit e (after_counted 4 (after_counted 1 l))) 20 0
    then check (leb m (length (after_records e (after_counted 4 (after_counted 1 l))))) 21 0

-- "an element's name (22) or index (23) reference isn't good; element by element, 22 first": element i of es, by the string table t
-- and the index table x; the place is "that element, from 0 over all E"
unfoldable pub element_judged : List ℕ → List ℕ → List (List ℕ) → ℕ → Verdict
element_judged t x es i =
    check (string_good t (name_offset_of (get_or es i []))) 22 i
    then check (index_good x (index_reference_of (get_or es i [])) (row_count (get_or es i []))) 23 i

unfoldable pub elements_judged : Body → Verdict
elements_judged b = each (element_judged b.strings b.indices b.elements) (length b.elements)

-- 24: "the entry name's reference isn't good". "Edition 3: 48 entry name offset"
unfoldable pub entry_judged : Seen → Verdict
entry_judged v = check (string_good v.body.strings (u32_at v.runtime 48)) 24 0

-- 12 to 24, where er is the edition read: "15 to 23 are checked only for edition read 1 or more, 24 only for 3"
unfoldable pub judged_at : ℕ → List ℕ → Verdict
judged_at er d =
    head_judged d
    then from 1 er
    (fields_judged (seen 1 (sections d)).runtime
    then body_fits (after2 d) (element_total (guide_of d)) (mask_bytes_of (guide_of d))
    then elements_judged (seen 1 (sections d)).body
    then from 3 er (entry_judged (seen 3 (sections d))))

-- "PSV0 alone gives 25, 2, 12 to 24": 25, "an edition above 3 was asked for; checked first"; 2, "longer than 16,777,216"
unfoldable pub opened : ℕ → List ℕ → Verdict
opened k d = check (leb k 3) 25 0 then check (leb (length d) 16777216) 2 0 then judged_at (edition_read_of k d) d

-- The data d of a part ISG1, OSG1 or PSG1: the header, the elements and their names. Document 02, Ask 3. All of it is total: past the end a
-- byte is 0.
use Rattle.std.specs.Prelude.{Option, Some, None, Result, Ok, Err, Bool, ◌||◌, List, [], ℕ, ◌+◌, ◌*◌, leb, ltb, eqb, length, get_or, take, drop}
use Rattle.utf8_layout.specs.Sequence.{code_points}
use Rattle.wire.specs.Choice.{choose}
use Rattle.wire.specs.Number.{u32_at}
use Rattle.wire.specs.Verdict.{◌then◌, check, each, under, Verdict, Accepted, Refused}
use Rattle.wire.specs.declared.Refusal.{Refusal}
use Rattle.psv0_layout.specs.Reference.{string_ends, string_good, string_at}
use Rattle.psv0_layout.specs.declared.Span.{Span}
use Rattle.signature_layout.specs.declared.NameSpan.{NameSpan}
use Rattle.signature_layout.specs.declared.SignatureAnswer.{SignatureAnswer}
use Rattle.signature_layout.specs.declared.SignatureElement.{SignatureElement}

-- "Header: element count, then the first element's offset from the header's start"
abbrev pub count_of : List ℕ → ℕ
count_of d = u32_at d 0

abbrev pub first_of : List ℕ → ℕ
first_of d = u32_at d 4

-- "Elements of 32 bytes": where element i starts, and its bytes. Sums and products are exact
abbrev pub start_of : List ℕ → ℕ → ℕ
start_of d i = first_of d + 32 * i

unfoldable pub element_at : List ℕ → ℕ → List ℕ
element_at d i = take 32 (drop (start_of d i) d)

-- "stream, name offset, index, system value, component type, register (4 each), mask, exclusive mask, 2 unused, precision (4)"; e is the
-- element's bytes
unfoldable pub fields_of : List ℕ → SignatureElement
fields_of e =
    record {
      stream = u32_at e 0;
      name_offset = u32_at e 4;
      index = u32_at e 8;
      system_value = u32_at e 12;
      component_type = u32_at e 16;
      register_number = u32_at e 20;
      mask = get_or e 24 0;
      exclusive_mask = get_or e 25 0;
      precision = u32_at e 28;
    }

abbrev pub name_offset_of : List ℕ → ℕ → ℕ
name_offset_of d i = u32_at (element_at d i) 4

-- "A name offset of 0 is no name; any other counts from the header's start and needs a zero byte before the part ends": o is the offset, and the
-- rule is that of a string reference with the part's data as the table. It may lie anywhere in the data
unfoldable pub name_ends : List ℕ → ℕ → Bool
name_ends d o = eqb o 0 || string_ends d o

-- document 02, Ask 7: "The signature names of Ask 3 follow the same rule": of a name that ends, the rest of it is that it is well formed
unfoldable pub name_good : List ℕ → ℕ → Bool
name_good d o = eqb o 0 || string_good d o

-- "the first element with a bad name (45, its number as place)"; Ask 7: "under 52 with 45's place, checked next for that element"
unfoldable pub name_judged : List ℕ → ℕ → Verdict
name_judged d i = check (name_ends d (name_offset_of d i)) 45 i then check (name_good d (name_offset_of d i)) 52 i

-- "Refuse, in this order, .. a short header (43), elements outside the part (44: offset plus 32 times count above its size), the first element
-- with a bad name". 44 also with count 0; an offset below 8 is not refused
unfoldable pub signature_judged : List ℕ → Verdict
signature_judged d =
    check (leb 8 (length d)) 43 0
    then check (leb (start_of d (count_of d)) (length d)) 44 0
    then each (name_judged d) (count_of d)

-- a query for element i: 26 where there is none
unfoldable pub element_judged : List ℕ → ℕ → Verdict
element_judged d i = signature_judged d then check (ltb i (count_of d)) 26 0

-- element i by itself, which judges no other element: 43, 26, 44 where its own 32 bytes aren't inside, 45 and 52 for its own name
unfoldable pub alone_judged : List ℕ → ℕ → Verdict
alone_judged d i =
    check (leb 8 (length d)) 43 0
    then check (ltb i (count_of d)) 26 0
    then check (leb (start_of d i + 32) (length d)) 44 0
    then name_judged d i

-- ---- what is shown: the element count
unfoldable pub signature_of : List ℕ → Result ℕ Refusal
signature_of d = under (signature_judged d) (count_of d)

-- the name at the offset o: unset where that is 0, else up to the first zero byte, with its code points
unfoldable pub name_of : List ℕ → ℕ → Option NameSpan
name_of d o = choose (eqb o 0) None (Some (record { start = o; len = length (string_at d o); points = code_points (string_at d o) }))

-- element i
abbrev pub element_shown : List ℕ → ℕ → SignatureAnswer
element_shown d i = record { element = fields_of (element_at d i); name = name_of d (name_offset_of d i) }

-- element i of all that are judged, and element i by itself
unfoldable pub element_of : List ℕ → ℕ → Result SignatureAnswer Refusal
element_of d i = under (element_judged d i) (element_shown d i)

unfoldable pub alone_of : List ℕ → ℕ → Result SignatureAnswer Refusal
alone_of d i = under (alone_judged d i) (element_shown d i)

-- the name of an answer as a view: 26 where it has none
abbrev pub name_view : Option NameSpan → Result Span Refusal
name_view (Some x) = Ok (record { start = x.start; points = Some x.points; len = x.len })
name_view None = Err (record { number = 26; place = 0 })

abbrev pub view_of : Result SignatureAnswer Refusal → Result Span Refusal
view_of (Ok a) = name_view a.name
view_of (Err r) = Err r

-- the bytes of a name in d: none where it is unset or does not lie inside
abbrev pub bytes_of : List ℕ → Option NameSpan → List ℕ
bytes_of d (Some x) = choose (leb (x.start + x.len) (length d)) (take x.len (drop x.start d)) []
bytes_of d None = []

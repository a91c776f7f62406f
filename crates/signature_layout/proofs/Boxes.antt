-- Worked examples of signature data, as rows of one list: what the definitions give, and beside it what the request says.
-- Assumes nothing.
use Rattle.std.specs.Prelude.{Some, None, Result, Ok, Err}
use Prim.Native.Nat.{ℕ}
use mathlib.Core.Path.{◌≡◌, refl}
use mathlib.Core.List.{List, [], ◌∷◌, ◌++◌}
use lib.ListN.{take}
use Rattle.wire.specs.Number.{u32_at}
use Rattle.wire.specs.Verdict.{◌then◌, check, each, under, Verdict, Accepted, Refused}
use Rattle.wire.specs.declared.Refusal.{Refusal}
use Rattle.utf8_layout.specs.Sequence.{table, fits, front, more, after, counted, well_formed, code_points}
use Rattle.psv0_layout.specs.Reference.{has_zero, until_zero, string_ends, string_at, string_good}
use Rattle.psv0_layout.specs.declared.Span.{Span}
use Rattle.signature_layout.specs.Signature.{element_at, fields_of, name_ends, name_good, name_judged, signature_judged, element_judged, alone_judged, name_of, element_of, alone_of, view_of, bytes_of}
use Rattle.signature_layout.specs.declared.SignatureAnswer.{SignatureAnswer}
use Rattle.signature_layout.specs.declared.SignatureElement.{SignatureElement}

-- a number below 256, in four bytes
abbrev word : ℕ → List ℕ
word n = n ∷ 0 ∷ 0 ∷ 0 ∷ []

-- an element without a zero byte but in its name offset
abbrev element : List ℕ → List ℕ
element o =
    (1 ∷ 2 ∷ 3 ∷ 4 ∷ [])
    ++ o
    ++ (5 ∷ 6 ∷ 7 ∷ 8 ∷ 9 ∷ 10 ∷ 11 ∷ 12 ∷ 13 ∷ 14 ∷ 15 ∷ 16 ∷ 17 ∷ 18 ∷ 19 ∷ 20 ∷ 21 ∷ 22 ∷ 23 ∷ 24 ∷ 25 ∷ 26 ∷ 27 ∷ 28 ∷ [])

-- two elements after the header, then the bytes 66, 67, 0, 68: names are good up to byte 74
abbrev two : List ℕ → List ℕ → List ℕ
two o p = word 2 ++ word 8 ++ element o ++ element p ++ (66 ∷ 67 ∷ 0 ∷ 68 ∷ [])

-- the same with other bytes: from 72 on a name of two bytes and one code point, which from 73 on isn't well formed; at 75 one that doesn't end, and
-- isn't well formed either
abbrev accented : List ℕ → List ℕ → List ℕ
accented o p = word 2 ++ word 8 ++ element o ++ element p ++ (0xC3 ∷ 0xA9 ∷ 0 ∷ 0xFF ∷ [])

abbrev fields : ℕ → SignatureElement
fields o =
    record {
      stream = 67305985;
      name_offset = o;
      index = 134678021;
      system_value = 202050057;
      component_type = 269422093;
      register_number = 336794129;
      mask = 21;
      exclusive_mask = 22;
      precision = 471538201;
    }

-- ---- verdicts at the edges
abbrev judged : List Verdict
judged =
    signature_judged (take 7 (word 0 ++ word 0))
    ∷ signature_judged (word 0 ++ word 0)
    ∷ signature_judged (word 0 ++ word 8)
    ∷ signature_judged (word 0 ++ word 9)
    ∷ signature_judged (word 1 ++ word 8 ++ take 31 (element (word 0)))
    ∷ signature_judged (word 1 ++ word 8 ++ element (word 0))
    ∷ signature_judged (word 1 ++ word 0 ++ element (word 0))
    ∷ alone_judged ((1 ∷ 0 ∷ 0 ∷ 8 ∷ []) ++ word 8 ++ element (word 0)) 134217728
    ∷ signature_judged (two (word 74) (word 1))
    ∷ signature_judged (two (word 75) (word 76))
    ∷ signature_judged (two (word 72) (word 75))
    ∷ alone_judged (two (word 72) (word 75)) 0
    ∷ alone_judged (two (word 72) (word 75)) 1
    ∷ alone_judged (two (word 72) (word 75)) 2
    ∷ alone_judged (take 71 (two (word 1) (word 1))) 0
    ∷ alone_judged (take 71 (two (word 1) (word 1))) 1
    ∷ element_judged (two (word 72) (word 0)) 2
    ∷ signature_judged (accented (word 72) (word 74))
    ∷ signature_judged (accented (word 72) (word 73))
    ∷ signature_judged (accented (word 73) (word 75))
    ∷ signature_judged (accented (word 75) (word 73))
    ∷ alone_judged (accented (word 72) (word 73)) 0
    ∷ alone_judged (accented (word 72) (word 73)) 1
    ∷ []

abbrev judged_said : List Verdict
judged_said =
    -- 43: 7 bytes. 44, also with count 0: an offset of 8 in 8 bytes, and of 9; one of 0 is not refused
    Refused 43 0
    ∷ Accepted
    ∷ Accepted
    ∷ Refused 44 0
    -- one element: a byte too few, and all; at offset 0, in the header; after 134,217,728 elements, whose size in 32 bits is 0
    ∷ Refused 44 0
    ∷ Accepted
    ∷ Accepted
    ∷ Refused 44 0
    -- names: at the last zero byte and in the header; past it, first of two; past it, second of two
    ∷ Accepted
    ∷ Refused 45 0
    ∷ Refused 45 1
    -- the same two, each by itself; one that isn't there; the first of two where the second doesn't fit
    ∷ Accepted
    ∷ Refused 45 1
    ∷ Refused 26 0
    ∷ Accepted
    ∷ Refused 44 0
    ∷ Refused 26 0
    -- well-formed names, though a byte that none refers to isn't; 52 of the second; the first's 52 before the second's 45; 45 of the first, whose
    -- name isn't well formed either
    ∷ Accepted
    ∷ Refused 52 1
    ∷ Refused 52 0
    ∷ Refused 45 0
    -- two of these, each by itself
    ∷ Accepted
    ∷ Refused 52 1
    ∷ []

pub verdicts_hold : judged ≡ judged_said
unfolding table fits front more after counted well_formed u32_at ◌then◌ check each has_zero until_zero string_ends string_at string_good element_at name_ends name_good name_judged signature_judged element_judged alone_judged
verdicts_hold = refl

-- ---- what is shown: a name, the empty name at its zero byte, no name, a name of one code point in two bytes, and a refusal alone
abbrev shown : List (Result SignatureAnswer Refusal)
shown =
    element_of (two (word 72) (word 74)) 0
    ∷ element_of (two (word 72) (word 74)) 1
    ∷ element_of (two (word 72) (word 0)) 1
    ∷ element_of (two (word 72) (word 75)) 0
    ∷ alone_of (two (word 73) (word 75)) 0
    ∷ element_of (accented (word 72) (word 74)) 0
    ∷ element_of (accented (word 72) (word 73)) 0
    ∷ []

abbrev accepted : ℕ → ℕ → ℕ → Result SignatureAnswer Refusal
accepted o n c = Ok (record { element = fields o; name = Some (record { start = o; len = n; points = c }) })

abbrev refused : ℕ → ℕ → Result SignatureAnswer Refusal
refused n p = Err (record { number = n; place = p })

abbrev shown_said : List (Result SignatureAnswer Refusal)
shown_said =
    accepted 72 2 2
    ∷ accepted 74 0 0
    ∷ Ok (record { element = fields 0; name = None })
    ∷ refused 45 1
    ∷ accepted 73 1 1
    ∷ accepted 72 2 1
    ∷ refused 52 1
    ∷ []

pub elements_hold : shown ≡ shown_said
unfolding table fits front more after counted well_formed code_points u32_at ◌then◌ check each under has_zero until_zero string_ends string_at string_good element_at fields_of name_ends name_good name_judged signature_judged element_judged alone_judged name_of element_of alone_of
elements_hold = refl

-- ---- names as views, with their code points: 26 where there is none
abbrev views : List (Result Span Refusal)
views =
    view_of (element_of (two (word 72) (word 0)) 0)
    ∷ view_of (element_of (two (word 72) (word 0)) 1)
    ∷ view_of (element_of (two (word 72) (word 75)) 0)
    ∷ view_of (element_of (accented (word 72) (word 74)) 0)
    ∷ []

abbrev views_said : List (Result Span Refusal)
views_said =
    Ok (record { start = 72; points = Some 2; len = 2 })
    ∷ Err (record { number = 26; place = 0 })
    ∷ Err (record { number = 45; place = 1 })
    ∷ Ok (record { start = 72; points = Some 1; len = 2 })
    ∷ []

pub views_hold : views ≡ views_said
unfolding table fits front more after counted well_formed code_points u32_at ◌then◌ check each under has_zero until_zero string_ends string_at string_good element_at fields_of name_ends name_good name_judged signature_judged element_judged name_of element_of
views_hold = refl

pub bytes_hold : bytes_of (two (word 72) (word 0)) (Some (record { start = 72; len = 2; points = 2 })) ≡ 66 ∷ 67 ∷ []
bytes_hold = refl

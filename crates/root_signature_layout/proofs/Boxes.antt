-- Worked examples of root signatures, as rows of lists: what the definitions give, and beside it what the request says.
-- Assumes nothing.
use Rattle.std.specs.Prelude.{Some, None, Result, Ok, Err}
use Prim.Native.Nat.{ℕ}
use mathlib.Core.Path.{◌≡◌, refl}
use mathlib.Core.List.{List, [], ◌∷◌, ◌++◌}
use lib.Ieee.{binary32, of_bits}
use lib.ListN.{take}
use Rattle.wire.specs.Number.{u32_at}
use Rattle.wire.specs.Verdict.{◌then◌, check, when, each, under, Verdict, Accepted, Refused}
use Rattle.wire.specs.declared.Refusal.{Refusal}
use Rattle.root_signature_layout.specs.Root.{in11, descriptor_size, range_size, parameter_at, type_at, visibility_at, data_at, data_size, ranges_of, range_at, sampler_at, header_judged, own_judged, type_judged, data_judged, ranges_judged, parameter_judged, sampler_judged, item_judged, root_judged, single_of, parameter_of, sampler_of, item_at, range_of, header_of, root_of, item_there, range_there, item_queried, item_alone, item_of, item_alone_of, range_answer_of, range_alone_of}
use Rattle.root_signature_layout.specs.declared.DescriptorRange.{DescriptorRange}
use Rattle.root_signature_layout.specs.declared.Item.{Item}
use Rattle.root_signature_layout.specs.declared.Item.TheVariants.{Constants, Descriptor, Table, Sampler}
use Rattle.root_signature_layout.specs.declared.RootHeader.{RootHeader}
use Rattle.root_signature_layout.specs.declared.Single.{Single}

-- a number below 256, in four bytes
abbrev word : ℕ → List ℕ
word n = n ∷ 0 ∷ 0 ∷ 0 ∷ []

abbrev header : ℕ → ℕ → ℕ → ℕ → ℕ → List ℕ
header v n at m to = word v ++ word n ++ word at ++ word m ++ word to ++ word 99

abbrev parameter : ℕ → ℕ → List ℕ
parameter t at = word t ++ word 7 ++ word at

-- one parameter of type t after the header, its data at a place, and then l from byte 36 on
abbrev one : ℕ → ℕ → ℕ → List ℕ → List ℕ
one v t at l = header v 1 24 0 0 ++ parameter t at ++ l

abbrev bytes12 : List ℕ
bytes12 = word 1 ++ word 2 ++ word 3

-- a table of two ranges at 24, constants at 36, a descriptor at 48 and a sampler at 140; their data at 60, 68 and 80, the ranges from 92 on
abbrev sampler : List ℕ
sampler =
    word 1 ++ word 2 ++ word 3 ++ word 4 ++ (5 ∷ 0 ∷ 128 ∷ 127 ∷ []) ++ word 6 ++ word 7 ++ word 8 ++ (0 ∷ 0 ∷ 128 ∷ 191 ∷ [])
    ++ (255 ∷ 255 ∷ 127 ∷ 127 ∷ []) ++ word 11 ++ word 12 ++ word 13

abbrev all : ℕ → List ℕ
all v =
    header v 3 24 1 140
    ++ (parameter 0 60 ++ parameter 1 68 ++ parameter 4 80)
    ++ (word 2 ++ word 92)
    ++ (word 21 ++ word 22 ++ word 23)
    ++ (word 31 ++ word 32 ++ word 33)
    ++ (word 41 ++ word 42 ++ word 43 ++ word 44 ++ word 45 ++ word 46)
    ++ (word 51 ++ word 52 ++ word 53 ++ word 54 ++ word 55 ++ word 56)
    ++ sampler

-- ---- verdicts at the edges
abbrev judged : List Verdict
judged =
    root_judged (take 23 (header 2 0 0 0 0))
    ∷ root_judged (header 1 0 0 0 0)
    ∷ root_judged (header 2 0 255 0 255)
    ∷ root_judged (header 0 0 0 0 0)
    ∷ root_judged (header 3 0 0 0 0)
    ∷ root_judged ((2 ∷ 1 ∷ 0 ∷ 0 ∷ []) ++ header 2 0 0 0 0)
    -- a parameter's own bytes and its type
    ∷ root_judged (take 35 (one 2 1 0 []))
    ∷ root_judged (one 2 1 0 [])
    ∷ root_judged (one 2 4 0 [])
    ∷ root_judged (one 2 5 0 [])
    ∷ root_judged (one 2 5 255 [])
    -- its data: a table, constants in 1.1 and in 1.0, a descriptor in 1.0 and in 1.1
    ∷ root_judged (one 2 0 40 (word 9 ++ word 0 ++ word 0))
    ∷ root_judged (one 2 0 41 (word 9 ++ word 0 ++ word 0))
    ∷ root_judged (one 2 1 36 bytes12)
    ∷ root_judged (one 2 1 37 bytes12)
    ∷ root_judged (one 1 1 36 bytes12)
    ∷ root_judged (one 1 1 37 bytes12)
    ∷ root_judged (one 1 2 40 bytes12)
    ∷ root_judged (one 1 2 41 bytes12)
    ∷ root_judged (one 2 2 36 bytes12)
    ∷ root_judged (one 2 2 37 bytes12)
    -- a table's ranges: none at the end and past it; one that ends at the end and past it, in 1.1 and 1.0; 178,956,971 of them, whose end in 32 bits is 8
    ∷ root_judged (one 2 0 36 (word 0 ++ word 44))
    ∷ root_judged (one 2 0 36 (word 0 ++ word 45))
    ∷ root_judged (one 2 0 36 (word 1 ++ word 20))
    ∷ root_judged (one 2 0 36 (word 1 ++ word 21))
    ∷ root_judged (one 1 0 36 (word 1 ++ word 24))
    ∷ root_judged (one 1 0 36 (word 1 ++ word 25))
    ∷ root_judged (one 2 0 36 ((171 ∷ 170 ∷ 170 ∷ 10 ∷ []) ++ word 0))
    -- the first bad item: none, the sampler after three parameters, the first of four; the second of three, the sampler after two parameters
    ∷ root_judged (all 2)
    ∷ root_judged (take 191 (all 2))
    ∷ root_judged (take 139 (all 2))
    ∷ root_judged (header 2 2 24 1 255 ++ (parameter 1 0 ++ parameter 5 0))
    ∷ root_judged (header 2 2 24 1 255 ++ (parameter 1 0 ++ parameter 3 0))
    -- by itself: an item beside a bad one, one that isn't there, number 357,913,942, whose place in 32 bits is 32
    ∷ item_alone (take 139 (all 2)) 1
    ∷ item_alone (take 139 (all 2)) 0
    ∷ item_alone (take 139 (all 2)) 3
    ∷ item_alone (take 139 (all 2)) 4
    ∷ item_alone (word 2 ++ (87 ∷ 85 ∷ 85 ∷ 21 ∷ []) ++ word 24 ++ word 0 ++ word 0 ++ word 0 ++ bytes12 ++ bytes12) 357913942
    ∷ []

abbrev judged_said : List Verdict
judged_said =
    Refused 46 0
    ∷ Accepted
    ∷ Accepted
    ∷ Refused 47 0
    ∷ Refused 47 0
    ∷ Refused 47 0
    ∷ Refused 48 0
    ∷ Accepted
    ∷ Accepted
    ∷ Refused 49 0
    ∷ Refused 49 0
    ∷ Accepted
    ∷ Refused 50 0
    ∷ Accepted
    ∷ Refused 50 0
    ∷ Accepted
    ∷ Refused 50 0
    ∷ Accepted
    ∷ Refused 50 0
    ∷ Accepted
    ∷ Refused 50 0
    ∷ Accepted
    ∷ Refused 51 0
    ∷ Accepted
    ∷ Refused 51 0
    ∷ Accepted
    ∷ Refused 51 0
    ∷ Refused 51 0
    ∷ Accepted
    ∷ Refused 48 3
    ∷ Refused 51 0
    ∷ Refused 49 1
    ∷ Refused 48 2
    ∷ Accepted
    ∷ Refused 51 0
    ∷ Refused 48 3
    ∷ Refused 26 0
    ∷ Refused 48 357913942
    ∷ []

pub verdicts_hold : judged ≡ judged_said
unfolding u32_at ◌then◌ check when each descriptor_size range_size parameter_at type_at data_at data_size ranges_of range_at sampler_at header_judged own_judged type_judged data_judged ranges_judged parameter_judged sampler_judged item_judged root_judged item_there item_alone
verdicts_hold = refl

abbrev refused : {A : Type 0} → ℕ → ℕ → Result A Refusal
refused n p = Err (record { number = n; place = p })

-- ---- items: each case in 1.1; a descriptor in 1.0, its flags unset
abbrev items : List (Result Item Refusal)
items =
    item_of (all 2) 0
    ∷ item_of (all 2) 1
    ∷ item_of (all 2) 2
    ∷ item_of (all 1) 2
    ∷ item_of (all 2) 3
    ∷ item_of (all 2) 4
    ∷ item_of (take 139 (all 2)) 1
    ∷ item_alone_of (take 139 (all 2)) 1
    ∷ []

-- a float of the file, by its bits
abbrev single : ℕ → Single
single n = record { bits = n; value = of_bits binary32 n }

abbrev items_said : List (Result Item Refusal)
items_said =
    Ok (Table 7 2 92)
    ∷ Ok (Constants 7 21 22 23)
    ∷ Ok (Descriptor 4 7 31 32 (Some 33))
    ∷ Ok (Descriptor 4 7 31 32 None)
    -- a signalling NaN's bits, those of -1 and of the greatest number
    ∷ Ok (Sampler 1 2 3 4 (single 2139095045) 6 7 8 (single 3212836864) (single 2139095039) 11 12 13)
    ∷ refused 26 0
    ∷ refused 51 0
    ∷ Ok (Constants 7 21 22 23)
    ∷ []

pub items_hold : items ≡ items_said
unfolding u32_at ◌then◌ check when each under in11 descriptor_size range_size parameter_at type_at visibility_at data_at data_size ranges_of range_at sampler_at header_judged own_judged type_judged data_judged ranges_judged parameter_judged sampler_judged item_judged root_judged single_of parameter_of sampler_of item_at item_there item_queried item_alone item_of item_alone_of
items_hold = refl

-- ---- ranges: in 1.1 24 bytes apart, the flags before the offset; in 1.0 20 bytes apart, the offset alone; 26 for a range that isn't there and
-- for an item that is no table
abbrev ranges : List (Result DescriptorRange Refusal)
ranges =
    range_answer_of (all 2) 0 0
    ∷ range_answer_of (all 2) 0 1
    ∷ range_answer_of (all 1) 0 0
    ∷ range_answer_of (all 1) 0 1
    ∷ range_answer_of (all 2) 0 2
    ∷ range_answer_of (all 2) 1 0
    ∷ range_answer_of (all 2) 3 0
    ∷ range_answer_of (all 2) 4 0
    ∷ range_alone_of (all 2) 0 1
    ∷ range_alone_of (take 191 (all 2)) 0 0
    ∷ []

abbrev ranges_said : List (Result DescriptorRange Refusal)
ranges_said =
    Ok (record { range_type = 41; descriptors = 42; base_register = 43; space = 44; flags = Some 45; offset = 46 })
    ∷ Ok (record { range_type = 51; descriptors = 52; base_register = 53; space = 54; flags = Some 55; offset = 56 })
    ∷ Ok (record { range_type = 41; descriptors = 42; base_register = 43; space = 44; flags = None; offset = 45 })
    ∷ Ok (record { range_type = 46; descriptors = 51; base_register = 52; space = 53; flags = None; offset = 54 })
    ∷ refused 26 0
    ∷ refused 26 0
    ∷ refused 26 0
    ∷ refused 26 0
    ∷ Ok (record { range_type = 51; descriptors = 52; base_register = 53; space = 54; flags = Some 55; offset = 56 })
    ∷ Ok (record { range_type = 41; descriptors = 42; base_register = 43; space = 44; flags = Some 45; offset = 46 })
    ∷ []

pub ranges_hold : ranges ≡ ranges_said
unfolding u32_at ◌then◌ check when each under in11 descriptor_size range_size parameter_at type_at data_at data_size ranges_of range_at sampler_at header_judged own_judged type_judged data_judged ranges_judged parameter_judged sampler_judged item_judged root_judged range_of item_there range_there item_queried item_alone range_answer_of range_alone_of
ranges_hold = refl

-- ---- headers: as they stand
abbrev headers : List (Result RootHeader Refusal)
headers = root_of (all 2) ∷ root_of (take 191 (all 2)) ∷ []

abbrev headers_said : List (Result RootHeader Refusal)
headers_said =
    Ok (record { version = 2; parameters = 3; samplers = 1; flags = 99 })
    ∷ refused 48 3
    ∷ []

pub headers_hold : headers ≡ headers_said
unfolding u32_at ◌then◌ check when each under descriptor_size range_size parameter_at type_at data_at data_size ranges_of range_at sampler_at header_judged own_judged type_judged data_judged ranges_judged parameter_judged sampler_judged item_judged root_judged header_of root_of
headers_hold = refl

-- The data d of a part RTS0: the header, the items and the ranges of tables. Document 02, Ask 6: "Read RTS0 by the layouts in 001." Numbers have
-- 4 bytes; "Offsets count from the start of the part's data." All of it is total: past the end a byte is 0. Sums and products are exact.
use Rattle.std.specs.Prelude.{Option, Some, None, Result, Bool, ◌&&◌, ◌||◌, List, [], ◌∷◌, ℕ, ◌+◌, ◌-◌, ◌*◌, leb, ltb, eqb, length}
use Rattle.std.specs.Float.{binary32}
use Rattle.std.specs.Float.Ieee.{of_bits}
use Rattle.wire.specs.Choice.{choose}
use Rattle.wire.specs.Number.{u32_at}
use Rattle.wire.specs.Verdict.{◌then◌, check, when, each, under, Verdict}
use Rattle.wire.specs.declared.Refusal.{Refusal}
use Rattle.root_signature_layout.specs.declared.DescriptorRange.{DescriptorRange}
use Rattle.root_signature_layout.specs.declared.Item.{Item}
use Rattle.root_signature_layout.specs.declared.Item.TheVariants.{Constants, Descriptor, Table, Sampler}
use Rattle.root_signature_layout.specs.declared.RootHeader.{RootHeader}
use Rattle.root_signature_layout.specs.declared.Single.{Single}

-- ---- the header, 24 bytes: "the version, number and offset of parameters, number and offset of static samplers, and a flags field" (001)
abbrev pub version_of : List ℕ → ℕ
version_of d = u32_at d 0

abbrev pub parameters_of : List ℕ → ℕ
parameters_of d = u32_at d 4

abbrev pub parameters_at : List ℕ → ℕ
parameters_at d = u32_at d 8

abbrev pub samplers_of : List ℕ → ℕ
samplers_of d = u32_at d 12

abbrev pub samplers_at : List ℕ → ℕ
samplers_at d = u32_at d 16

abbrev pub flags_of : List ℕ → ℕ
flags_of d = u32_at d 20

-- "parameters before samplers in one numbering"
abbrev pub items_of : List ℕ → ℕ
items_of d = parameters_of d + samplers_of d

abbrev pub is_parameter : List ℕ → ℕ → Bool
is_parameter d i = ltb i (parameters_of d)

-- ---- "Version 1 is 1.0 and 2 is 1.1"; "fields 1.0 lacks are unset": v is the version
unfoldable pub in11 : ℕ → ℕ → Option ℕ
in11 v n = choose (eqb v 1) None (Some n)

-- a descriptor has 8 bytes in 1.0 and 12 in 1.1, a range 20 and 24 (001)
unfoldable pub descriptor_size : ℕ → ℕ
descriptor_size v = choose (eqb v 1) 8 12

unfoldable pub range_size : ℕ → ℕ
range_size v = choose (eqb v 1) 20 24

-- ---- parameter i, 12 bytes: "the parameter type, a flag encoding the pipeline stages where the data is visible, and an offset" (001)
unfoldable pub parameter_at : List ℕ → ℕ → ℕ
parameter_at d i = parameters_at d + 12 * i

unfoldable pub type_at : List ℕ → ℕ → ℕ
type_at d i = u32_at d (parameter_at d i)

unfoldable pub visibility_at : List ℕ → ℕ → ℕ
visibility_at d i = u32_at d (parameter_at d i + 4)

unfoldable pub data_at : List ℕ → ℕ → ℕ
data_at d i = u32_at d (parameter_at d i + 8)

-- "Parameter types: 0 table, 1 constants, 2 to 4 descriptors": how many bytes the data of type t have
unfoldable pub data_size : ℕ → ℕ → ℕ
data_size v t = choose (eqb t 0) 8 (choose (eqb t 1) 12 (descriptor_size v))

-- "a table begins with a range count and the offset of its ranges": of parameter i, a table, how many ranges and where range j starts
unfoldable pub ranges_of : List ℕ → ℕ → ℕ
ranges_of d i = u32_at d (data_at d i)

unfoldable pub range_at : List ℕ → ℕ → ℕ → ℕ
range_at d i j = u32_at d (data_at d i + 4) + range_size (version_of d) * j

-- ---- item i, a static sampler: 52 bytes
unfoldable pub sampler_at : List ℕ → ℕ → ℕ
sampler_at d i = samplers_at d + 52 * (i - parameters_of d)

-- ---- refusals: "a short header (46), the version (47)"; "Version 1 is 1.0 and 2 is 1.1, others are refused"
unfoldable pub header_judged : List ℕ → Verdict
header_judged d = check (leb 24 (length d)) 46 0 then check (eqb (version_of d) 1 || eqb (version_of d) 2) 47 0

-- "then the first bad item, its number as place, .. with the first check failed: its own bytes inside the part (48), type (49), data (50), its
-- ranges' end (51)"
unfoldable pub own_judged : List ℕ → ℕ → ℕ → Verdict
own_judged d i end = check (leb end (length d)) 48 i

unfoldable pub type_judged : List ℕ → ℕ → Verdict
type_judged d i = check (leb (type_at d i) 4) 49 i

unfoldable pub data_judged : List ℕ → ℕ → Verdict
data_judged d i = check (leb (data_at d i + data_size (version_of d) (type_at d i)) (length d)) 50 i

-- an offset equal to the length is fine where there is no range
unfoldable pub ranges_judged : List ℕ → ℕ → Verdict
ranges_judged d i = when (eqb (type_at d i) 0) (check (leb (range_at d i (ranges_of d i)) (length d)) 51 i)

unfoldable pub parameter_judged : List ℕ → ℕ → Verdict
parameter_judged d i = own_judged d i (parameter_at d i + 12) then type_judged d i then data_judged d i then ranges_judged d i

unfoldable pub sampler_judged : List ℕ → ℕ → Verdict
sampler_judged d i = own_judged d i (sampler_at d i + 52)

unfoldable pub item_judged : List ℕ → ℕ → Verdict
item_judged d i = choose (is_parameter d i) (parameter_judged d i) (sampler_judged d i)

unfoldable pub root_judged : List ℕ → Verdict
root_judged d = header_judged d then each (item_judged d) (items_of d)

-- ---- what is shown. A float is its four bytes as a number, and the float of that pattern
unfoldable pub single_of : ℕ → Single
single_of n = record { bits = n; value = of_bits binary32 n }

-- "Each item is answered as constants, a descriptor, a table, or a static sampler": parameter i, whose type was accepted
unfoldable pub parameter_of : List ℕ → ℕ → Item
parameter_of d i =
    let t = type_at d i in
    let v = visibility_at d i in
    let at = data_at d i in
    choose (eqb t 0) (Table v (u32_at d at) (u32_at d (at + 4)))
    (choose (eqb t 1) (Constants v (u32_at d at) (u32_at d (at + 4)) (u32_at d (at + 8)))
    (Descriptor t v (u32_at d at) (u32_at d (at + 4)) (in11 (version_of d) (u32_at d (at + 8)))))

-- "carrying its LOD bias and its least and greatest LOD as floats with the same bits as the file": the sampler at a place, its 13 fields in 001's
-- order: filter, address modes, LOD bias, anisotropy, comparison, border, least and greatest LOD, register, space, visibility
unfoldable pub sampler_of : List ℕ → ℕ → Item
sampler_of d at =
    Sampler (u32_at d at) (u32_at d (at + 4)) (u32_at d (at + 8)) (u32_at d (at + 12)) (single_of (u32_at d (at + 16))) (u32_at d (at + 20))
    (u32_at d (at + 24)) (u32_at d (at + 28)) (single_of (u32_at d (at + 32))) (single_of (u32_at d (at + 36))) (u32_at d (at + 40))
    (u32_at d (at + 44)) (u32_at d (at + 48))

unfoldable pub item_at : List ℕ → ℕ → Item
item_at d i = choose (is_parameter d i) (parameter_of d i) (sampler_of d (sampler_at d i))

-- the range at a place: type, number of descriptors, base register and space; then in 1.1 THE FLAGS AND THEN THE OFFSET from the table's start, in
-- 1.0 the offset alone. (001's block for 1.1 has the two the other way round; the header that it names and every real file have the flags first.)
unfoldable pub range_of : ℕ → List ℕ → ℕ → DescriptorRange
range_of v d at =
    record {
      range_type = u32_at d at;
      descriptors = u32_at d (at + 4);
      base_register = u32_at d (at + 8);
      space = u32_at d (at + 12);
      flags = in11 v (u32_at d (at + 16));
      offset = u32_at d (at + choose (eqb v 1) 16 20);
    }

-- ---- each case of the enum by the paper's number, which is the parameter's type (a static sampler has none), and its values in the order of 001's
-- blocks, a parameter's visibility first and a float as its bits. `Roots.Told` says that they are what the file has
abbrev pub number_of : Item → Option ℕ
number_of (Table v n o) = Some 0
number_of (Constants v r s n) = Some 1
number_of (Descriptor t v r s f) = Some t
number_of (Sampler a b c e f g h i j k l m n) = None

abbrev pub values_of : Item → List (Option ℕ)
values_of (Table v n o) = Some v ∷ Some n ∷ Some o ∷ []
values_of (Constants v r s n) = Some v ∷ Some r ∷ Some s ∷ Some n ∷ []
values_of (Descriptor t v r s f) = Some v ∷ Some r ∷ Some s ∷ f ∷ []
values_of (Sampler a b c e f g h i j k l m n) =
    Some a ∷ Some b ∷ Some c ∷ Some e ∷ Some f.bits ∷ Some g ∷ Some h ∷ Some i ∷ Some j.bits ∷ Some k.bits ∷ Some l ∷ Some m ∷ Some n ∷ []

-- ---- the answers
unfoldable pub header_of : List ℕ → RootHeader
header_of d = record { version = version_of d; parameters = parameters_of d; samplers = samplers_of d; flags = flags_of d }

unfoldable pub root_of : List ℕ → Result RootHeader Refusal
root_of d = under (root_judged d) (header_of d)

-- range j of item i
abbrev pub range_shown : List ℕ → ℕ → ℕ → DescriptorRange
range_shown d i j = range_of (version_of d) d (range_at d i j)

-- a query for item i: 26 where there is none; for range j of it: 26 where it is no table or has no such range
unfoldable pub item_there : List ℕ → ℕ → Verdict
item_there d i = check (ltb i (items_of d)) 26 0

unfoldable pub range_there : List ℕ → ℕ → ℕ → Verdict
range_there d i j = check (is_parameter d i && eqb (type_at d i) 0 && ltb j (ranges_of d i)) 26 0

unfoldable pub item_queried : List ℕ → ℕ → Verdict
item_queried d i = root_judged d then item_there d i

-- item i by itself, which judges no other item: 46, 47, 26, then 48 to 51 of its own
unfoldable pub item_alone : List ℕ → ℕ → Verdict
item_alone d i = header_judged d then item_there d i then item_judged d i

unfoldable pub item_of : List ℕ → ℕ → Result Item Refusal
item_of d i = under (item_queried d i) (item_at d i)

unfoldable pub item_alone_of : List ℕ → ℕ → Result Item Refusal
item_alone_of d i = under (item_alone d i) (item_at d i)

unfoldable pub range_answer_of : List ℕ → ℕ → ℕ → Result DescriptorRange Refusal
range_answer_of d i j = under (item_queried d i then range_there d i j) (range_shown d i j)

unfoldable pub range_alone_of : List ℕ → ℕ → ℕ → Result DescriptorRange Refusal
range_alone_of d i j = under (item_alone d i then range_there d i j) (range_shown d i j)

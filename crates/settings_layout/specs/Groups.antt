-- "every number in groups of seven bits, least first, high bit set on all but the last, shortest form only, at most five groups and below
-- 4,294,967,296"
use Rattle.std.specs.Prelude.{Result, Ok, Err, List, [], ◌∷◌, ℕ, zero, suc, ◌+◌, ◌*◌, ◌-◌, ◌/◌, ◌%◌, ltb, eqb, drop}
use Rattle.wire.specs.Choice.{choose}
use Rattle.settings_layout.specs.declared.Number.{Number}

-- a number that is read: its value and its length in bytes. Where there is none, the refusal's number is told
abbrev pub good : ℕ → ℕ → Result Number ℕ
good v s = Ok (record { value = v; size = s })

-- a group b that is not the last, before the others. 54: "five groups that give 2^32 or more"; fewer never do
unfoldable pub grouped : ℕ → Result Number ℕ → Result Number ℕ
grouped b (Ok n) = choose (ltb (b - 128 + 128 * n.value) 4294967296) (good (b - 128 + 128 * n.value) (suc n.size)) (Err 54)
grouped b (Err e) = Err e

-- the groups after the first, k at most. 54: "a fifth group with its high bit set (whatever follows, the file's end too)"; 55: "the file ends before
-- the number's last group"; 53: "more than one group and the last is 0"
unfoldable pub further : ℕ → List ℕ → Result Number ℕ
further zero l = Err 54
further (suc k) [] = Err 55
further (suc k) (b ∷ l) = choose (ltb b 128) (choose (eqb b 0) (Err 53) (good b 1)) (grouped b (further k l))

-- the number at the front of a list. 55: the file ends before its first group
unfoldable pub number : List ℕ → Result Number ℕ
number [] = Err 55
number (b ∷ l) = choose (ltb b 128) (good b 1) (grouped b (further 4 l))

-- its value and its length in bytes, 0 where there is none
abbrev pub value_if : Result Number ℕ → ℕ
value_if (Ok n) = n.value
value_if (Err e) = 0

abbrev pub size_if : Result Number ℕ → ℕ
size_if (Ok n) = n.size
size_if (Err e) = 0

unfoldable pub value_of : List ℕ → ℕ
value_of l = value_if (number l)

unfoldable pub size_of : List ℕ → ℕ
size_of l = size_if (number l)

-- what follows it
unfoldable pub after : List ℕ → List ℕ
after l = drop (size_of l) l

-- the shortest form of a number, in k + 1 groups at most. What doesn't fit stays in the last of them, which then has its high bit set: 54
unfoldable pub groups : ℕ → ℕ → List ℕ
groups zero n = n ∷ []
groups (suc k) n = choose (ltb n 128) (n ∷ []) ((n % 128 + 128) ∷ groups k (n / 128))

unfoldable pub in_groups : ℕ → List ℕ
in_groups n = groups 4 n

-- how many numbers k + 1 groups have
abbrev pub capacity : ℕ → ℕ
capacity zero = 128
capacity (suc k) = 128 * capacity k

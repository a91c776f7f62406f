-- Worked examples: each row of table 3-7 at both ends of its ranges and one past them, computed from the definitions.
-- Assumes nothing.
use mathlib.Core.Path.{◌≡◌, refl}
use mathlib.Core.List.{List, [], ◌∷◌}
use Prim.Native.Nat.{ℕ}
use Rattle.utf8_layout.specs.Sequence.{Count, sequences, broken, table, fits, front, more, after, counted}

-- a string, and what it counts
pub record Box : Type 0 where
  pub string : List ℕ
  pub count : Count

abbrev of : List ℕ → Count → Box
of l c = record { string = l; count = c }

pub boxes : List Box
boxes =
    of [] (sequences 0)
    -- 00..7F
    ∷ of (0x00 ∷ []) (sequences 1)
    ∷ of (0x7F ∷ []) (sequences 1)
    ∷ of (0x80 ∷ []) broken
    ∷ of (0xBF ∷ []) broken
    -- C2..DF 80..BF; C0 and C1 would be overlong
    ∷ of (0xC0 ∷ 0x80 ∷ []) broken
    ∷ of (0xC1 ∷ 0xBF ∷ []) broken
    ∷ of (0xC2 ∷ 0x80 ∷ []) (sequences 1)
    ∷ of (0xC2 ∷ 0x7F ∷ []) broken
    ∷ of (0xDF ∷ 0xBF ∷ []) (sequences 1)
    ∷ of (0xDF ∷ 0xC0 ∷ []) broken
    -- E0 A0..BF 80..BF; E0 80 would be overlong
    ∷ of (0xE0 ∷ 0x80 ∷ 0x80 ∷ []) broken
    ∷ of (0xE0 ∷ 0x9F ∷ 0xBF ∷ []) broken
    ∷ of (0xE0 ∷ 0xA0 ∷ 0x80 ∷ []) (sequences 1)
    ∷ of (0xE0 ∷ 0xBF ∷ 0xBF ∷ []) (sequences 1)
    ∷ of (0xE0 ∷ 0xC0 ∷ 0x80 ∷ []) broken
    ∷ of (0xE0 ∷ 0xA0 ∷ 0x7F ∷ []) broken
    ∷ of (0xE0 ∷ 0xA0 ∷ 0xC0 ∷ []) broken
    -- E1..EC 80..BF 80..BF
    ∷ of (0xE1 ∷ 0x7F ∷ 0x80 ∷ []) broken
    ∷ of (0xE1 ∷ 0x80 ∷ 0x80 ∷ []) (sequences 1)
    ∷ of (0xE1 ∷ 0x80 ∷ 0x7F ∷ []) broken
    ∷ of (0xEC ∷ 0xBF ∷ 0xBF ∷ []) (sequences 1)
    ∷ of (0xEC ∷ 0xC0 ∷ 0xBF ∷ []) broken
    ∷ of (0xEC ∷ 0xBF ∷ 0xC0 ∷ []) broken
    -- ED 80..9F 80..BF; ED A0 would be a surrogate
    ∷ of (0xED ∷ 0x7F ∷ 0x80 ∷ []) broken
    ∷ of (0xED ∷ 0x80 ∷ 0x80 ∷ []) (sequences 1)
    ∷ of (0xED ∷ 0x80 ∷ 0x7F ∷ []) broken
    ∷ of (0xED ∷ 0x9F ∷ 0xBF ∷ []) (sequences 1)
    ∷ of (0xED ∷ 0x9F ∷ 0xC0 ∷ []) broken
    ∷ of (0xED ∷ 0xA0 ∷ 0x80 ∷ []) broken
    ∷ of (0xED ∷ 0xBF ∷ 0xBF ∷ []) broken
    -- EE..EF 80..BF 80..BF: U+FEFF and the noncharacters U+FFFE and U+FFFF are among them
    ∷ of (0xEE ∷ 0x7F ∷ 0x80 ∷ []) broken
    ∷ of (0xEE ∷ 0x80 ∷ 0x80 ∷ []) (sequences 1)
    ∷ of (0xEE ∷ 0x80 ∷ 0x7F ∷ []) broken
    ∷ of (0xEF ∷ 0xBB ∷ 0xBF ∷ []) (sequences 1)
    ∷ of (0xEF ∷ 0xBF ∷ 0xBE ∷ []) (sequences 1)
    ∷ of (0xEF ∷ 0xBF ∷ 0xBF ∷ []) (sequences 1)
    ∷ of (0xEF ∷ 0xBF ∷ 0xC0 ∷ []) broken
    ∷ of (0xEF ∷ 0xC0 ∷ 0xBF ∷ []) broken
    -- F0 90..BF 80..BF 80..BF; F0 80 would be overlong
    ∷ of (0xF0 ∷ 0x80 ∷ 0x80 ∷ 0x80 ∷ []) broken
    ∷ of (0xF0 ∷ 0x8F ∷ 0xBF ∷ 0xBF ∷ []) broken
    ∷ of (0xF0 ∷ 0x90 ∷ 0x80 ∷ 0x80 ∷ []) (sequences 1)
    ∷ of (0xF0 ∷ 0x90 ∷ 0x7F ∷ 0x80 ∷ []) broken
    ∷ of (0xF0 ∷ 0x90 ∷ 0x80 ∷ 0x7F ∷ []) broken
    ∷ of (0xF0 ∷ 0xBF ∷ 0xBF ∷ 0xBF ∷ []) (sequences 1)
    ∷ of (0xF0 ∷ 0xC0 ∷ 0xBF ∷ 0xBF ∷ []) broken
    ∷ of (0xF0 ∷ 0xBF ∷ 0xC0 ∷ 0xBF ∷ []) broken
    ∷ of (0xF0 ∷ 0xBF ∷ 0xBF ∷ 0xC0 ∷ []) broken
    -- F1..F3 80..BF 80..BF 80..BF
    ∷ of (0xF1 ∷ 0x7F ∷ 0x80 ∷ 0x80 ∷ []) broken
    ∷ of (0xF1 ∷ 0x80 ∷ 0x80 ∷ 0x80 ∷ []) (sequences 1)
    ∷ of (0xF1 ∷ 0x80 ∷ 0x7F ∷ 0x80 ∷ []) broken
    ∷ of (0xF1 ∷ 0x80 ∷ 0x80 ∷ 0x7F ∷ []) broken
    ∷ of (0xF3 ∷ 0xBF ∷ 0xBF ∷ 0xBF ∷ []) (sequences 1)
    ∷ of (0xF3 ∷ 0xC0 ∷ 0xBF ∷ 0xBF ∷ []) broken
    ∷ of (0xF3 ∷ 0xBF ∷ 0xC0 ∷ 0xBF ∷ []) broken
    ∷ of (0xF3 ∷ 0xBF ∷ 0xBF ∷ 0xC0 ∷ []) broken
    -- F4 80..8F 80..BF 80..BF; F4 90 and F5 would pass U+10FFFF
    ∷ of (0xF4 ∷ 0x7F ∷ 0x80 ∷ 0x80 ∷ []) broken
    ∷ of (0xF4 ∷ 0x80 ∷ 0x80 ∷ 0x80 ∷ []) (sequences 1)
    ∷ of (0xF4 ∷ 0x80 ∷ 0x7F ∷ 0x80 ∷ []) broken
    ∷ of (0xF4 ∷ 0x80 ∷ 0x80 ∷ 0x7F ∷ []) broken
    ∷ of (0xF4 ∷ 0x8F ∷ 0xBF ∷ 0xBF ∷ []) (sequences 1)
    ∷ of (0xF4 ∷ 0x8F ∷ 0xC0 ∷ 0xBF ∷ []) broken
    ∷ of (0xF4 ∷ 0x8F ∷ 0xBF ∷ 0xC0 ∷ []) broken
    ∷ of (0xF4 ∷ 0x90 ∷ 0x80 ∷ 0x80 ∷ []) broken
    ∷ of (0xF5 ∷ 0x80 ∷ 0x80 ∷ 0x80 ∷ []) broken
    ∷ of (0xFF ∷ []) broken
    -- cut sequences
    ∷ of (0xC2 ∷ []) broken
    ∷ of (0xE1 ∷ 0x80 ∷ []) broken
    ∷ of (0xF1 ∷ 0x80 ∷ 0x80 ∷ []) broken
    ∷ of (0xC2 ∷ 0x41 ∷ []) broken
    -- c, é, あ and a face: ten bytes, four code points; the same with one byte that follows left over
    ∷ of (0x63 ∷ 0xC3 ∷ 0xA9 ∷ 0xE3 ∷ 0x81 ∷ 0x82 ∷ 0xF0 ∷ 0x9F ∷ 0x98 ∷ 0x80 ∷ []) (sequences 4)
    ∷ of (0x63 ∷ 0xC3 ∷ 0xA9 ∷ 0xA9 ∷ []) broken
    ∷ []

pub given : List Box → List Count
given [] = []
given (b ∷ bs) = counted b.string 0 ∷ given bs

pub said : List Box → List Count
said [] = []
said (b ∷ bs) = b.count ∷ said bs

pub boxes_hold : given boxes ≡ said boxes
unfolding given said boxes table fits front more after counted
boxes_hold = refl

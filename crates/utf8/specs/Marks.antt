-- Marks: for each block of 32 bytes of a table one bit, which says whether a string that goes on into the block ends well. With them a reference is
-- judged within its own block, however long its string is.
use Rattle.std.specs.Prelude.{◌≡◌, Bool, List, ℕ, zero, suc, ◌+◌, ◌*◌, ◌≤◌, ◌<◌, get_or}
use Rattle.wire.specs.Choice.{choose}
use Rattle.utf8_layout.specs.Lead.{follows}
use Rattle.psv0_layout.specs.Reference.{string_good}

-- past at most n bytes of t that follow a lead byte, from p on
unfoldable pub past_by : List ℕ → ℕ → ℕ → ℕ
past_by t p zero = p
past_by t p (suc n) = choose (follows (get_or t p 0)) (past_by t (suc p) n) p

-- a sequence that began before p has at most three bytes from p on
unfoldable pub past_at : List ℕ → ℕ → ℕ
past_at t p = past_by t p 3

-- the reference there is good
unfoldable pub flag : List ℕ → ℕ → Bool
flag t p = string_good t (past_at t p)

abbrev pub bit : Bool → ℕ
bit b = choose b 1 0

-- the mark of the 256 bytes from p on: eight blocks, the first in the lowest bit
unfoldable pub mark_of : List ℕ → ℕ → ℕ
mark_of t p =
    bit (flag t p)
    + bit (flag t (p + 32)) * 2
    + bit (flag t (p + 64)) * 4
    + bit (flag t (p + 96)) * 8
    + bit (flag t (p + 128)) * 16
    + bit (flag t (p + 160)) * 32
    + bit (flag t (p + 192)) * 64
    + bit (flag t (p + 224)) * 128

-- marks from number i up to n are right
pub record Marked (t marks : List ℕ) (i n : ℕ) : Type 0 where
  pub told : (j : ℕ) → i ≤ j → j < n → get_or marks j 0 ≡ mark_of t (j * 256)

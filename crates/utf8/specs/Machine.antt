-- The machine that reads a string forward, byte by byte. A state is a number of bits by which a word of its table is shifted.
use Rattle.std.specs.Prelude.{Bool, true, false, ◌&&◌, List, [], ◌∷◌, ℕ, zero, suc, ltb, eqb, get_or}
use Rattle.wire.specs.Choice.{choose}
use Rattle.utf8_layout.specs.Sequence.{Range, ◌to◌, within, well_formed}
use Rattle.psv0_layout.specs.Reference.{has_zero, until_zero}

-- 0: no good string; 6: between two sequences; 54: past the zero byte; from 12 to 48 inside a sequence, by the ranges that have to follow
pub data State : ℕ → Type 0 where
  bad : State 0
  between : State 6
  one : State 12
  two : State 18
  three : State 24
  after_e0 : State 30
  after_ed : State 36
  after_f0 : State 42
  after_f4 : State 48
  done : State 54

abbrev pub middle : Range
middle = 0x80 to 0xBF

unfoldable pub rest_of : ℕ → List Range
rest_of s =
    choose (eqb s 12) (middle ∷ [])
    (choose (eqb s 18) (middle ∷ middle ∷ [])
    (choose (eqb s 24) (middle ∷ middle ∷ middle ∷ [])
    (choose (eqb s 30) (0xA0 to 0xBF ∷ middle ∷ [])
    (choose (eqb s 36) (0x80 to 0x9F ∷ middle ∷ [])
    (choose (eqb s 42) (0x90 to 0xBF ∷ middle ∷ middle ∷ [])
    (choose (eqb s 48) (0x80 to 0x8F ∷ middle ∷ middle ∷ [])
    []))))))

-- the string that a list starts with ends inside it and is well formed
unfoldable pub good_from : List ℕ → Bool
good_from l = has_zero l && well_formed (until_zero l)

-- the same where bytes in some ranges have to come first
unfoldable pub resumed : List Range → List ℕ → Bool
resumed [] l = good_from l
resumed (r ∷ rs) [] = false
resumed (lo to hi ∷ rs) (x ∷ l) = within lo hi x && resumed rs l

-- whether a list, read on from a state, ends a good string
unfoldable pub good_in : ℕ → List ℕ → Bool
good_in s l = choose (eqb s 0) false (choose (eqb s 54) true (resumed (rest_of s) l))

-- the state after a byte a: between two sequences, and inside one
unfoldable pub begin : ℕ → ℕ
begin a =
    choose (eqb a 0) 54
    (choose (ltb a 0x80) 6
    (choose (ltb a 0xC2) 0
    (choose (ltb a 0xE0) 12
    (choose (eqb a 0xE0) 30
    (choose (eqb a 0xED) 36
    (choose (ltb a 0xF0) 18
    (choose (eqb a 0xF0) 42
    (choose (ltb a 0xF4) 24
    (choose (eqb a 0xF4) 48
    0)))))))))

unfoldable pub onward : ℕ → ℕ → ℕ
onward a s =
    choose (eqb s 12) (choose (within 0x80 0xBF a) 6 0)
    (choose (eqb s 18) (choose (within 0x80 0xBF a) 12 0)
    (choose (eqb s 24) (choose (within 0x80 0xBF a) 18 0)
    (choose (eqb s 30) (choose (within 0xA0 0xBF a) 12 0)
    (choose (eqb s 36) (choose (within 0x80 0x9F a) 12 0)
    (choose (eqb s 42) (choose (within 0x90 0xBF a) 18 0)
    (choose (eqb s 48) (choose (within 0x80 0x8F a) 18 0)
    s))))))

-- 0 and 54 stay
unfoldable pub step : ℕ → ℕ → ℕ
step a s = choose (eqb s 6) (begin a) (onward a s)

-- the state after n bytes of t from p on
unfoldable pub ran : List ℕ → ℕ → ℕ → ℕ → ℕ
ran t p zero s = s
ran t p (suc n) s = ran t (suc p) n (step (get_or t p 0) s)

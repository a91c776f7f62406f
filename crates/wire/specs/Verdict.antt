-- The verdict of checks in a row: the first that fails gives the refusal's number and place.
use Rattle.std.specs.Prelude.{Bool, true, false, ℕ, zero, suc, leb, Result, Ok, Err}
use Rattle.wire.specs.declared.Refusal.{Refusal}

-- what checks in a row say: accepted, or refused with a number of the table of refusals and a place
pub data Verdict : Type 0 where
  Accepted : Verdict
  Refused : ℕ → ℕ → Verdict

infixr 40 ◌then◌
-- the first verdict, and where it accepts, the second
unfoldable pub ◌then◌ : Verdict → Verdict → Verdict
Accepted then v = v
Refused n p then v = Refused n p

-- the check with a number and a place: accepted where the test is true
unfoldable pub check : Bool → ℕ → ℕ → Verdict
check true n p = Accepted
check false n p = Refused n p

-- a verdict that is given only where the test is true
unfoldable pub when : Bool → Verdict → Verdict
when true v = v
when false v = Accepted

-- a verdict that only readings at edition e or above give; er is the edition read
unfoldable pub from : ℕ → ℕ → Verdict → Verdict
from e er v = when (leb e er) v

-- the checks of 0, 1, .. below n, one after the other
unfoldable pub each : (ℕ → Verdict) → ℕ → Verdict
each f zero = Accepted
each f (suc n) = each f n then f n

-- the number that document 01 gives a verdict, 0 where it accepts, and its place
abbrev pub number_of : Verdict → ℕ
number_of Accepted = 0
number_of (Refused n p) = n

abbrev pub place_of : Verdict → ℕ
place_of Accepted = 0
place_of (Refused n p) = p

-- what a call answers under a verdict: x where it accepts, else the refusal's number and place alone
unfoldable pub under : {A : Type 0} → Verdict → A → Result A Refusal
under Accepted x = Ok x
under (Refused n p) x = Err (record { number = n; place = p })

-- the verdict of an answer
unfoldable pub verdict_of : {A : Type 0} → Result A Refusal → Verdict
verdict_of (Ok x) = Accepted
verdict_of (Err r) = Refused r.number r.place

-- The writer's checks at numbers that the code holds.
-- Assumes nothing.
use Rattle.std.specs.Prelude.{Result, Ok, Err}
use Prim.Native.Nat.{ℕ, ◌≤◌, ◌<◌}
use mathlib.Core.Path.{◌≡◌, refl, sym, ◌∙◌}
use mathlib.Core.Bool.{true, false}
use mathlib.Core.List.{List, ◌++◌}
use lib.Dec.{leb}
use lib.ListN.{length, drop}
use borrow.Author.Tests.{le-leb, lt-leb, leb-true}
use Rattle.wire.specs.Verdict.{◌then◌, check, Verdict, Accepted, Refused}
use Rattle.wire.specs.declared.Refusal.{Refusal}
use Rattle.wire.proofs.Verdicts.{check_then, check_accepted, then_accepted, refused_by, accepted_by, value_by}
use Rattle.psv0_layout.specs.Judged.{elements_judged}
use Rattle.psv0_layout.specs.Given.{sections_judged}
use Rattle.psv0_writer_layout.specs.Checked.{body_from, given_judged}
use Rattle.psv0_writer_layout.specs.Stretch.{written_bytes, written_length}
use Rattle.psv0_writer_layout.specs.Written.{Given, lengths_right, written, writer_judged}
use Rattle.psv0_writer_layout.proofs.Writing.{writer_refusals, written_length_lem, written_stretches}
use Rattle.psv0_writer_layout.specs.Answer.{answer, output}

-- ---- the verdict: 25, 27, 2, 15 to 24, 28
module _ (e : ℕ) (g : Given) (room : ℕ) where
  given_same : given_judged e g ≡ sections_judged e g.runtime g.strings g.indices g.elements
  unfolding given_judged sections_judged body_from elements_judged
  given_same = refl

  pub no_edition : 3 < e → Refused 25 0 ≡ writer_judged e g room
  unfolding check ◌then◌
  no_edition h = rw (writer_refusals e g room, lt-leb _ _ h)

  module _ (few : e ≤ 3) where
    pub lengths_refused : lengths_right e g ≡ false → Refused 27 0 ≡ writer_judged e g room
    unfolding check ◌then◌
    lengths_refused h = rw (writer_refusals e g room, le-leb _ _ few, h)

    module _ (right : lengths_right e g ≡ true) where
      pub too_long : 16777216 < written_length e g → Refused 2 0 ≡ writer_judged e g room
      unfolding check ◌then◌
      too_long h = rw (writer_refusals e g room, le-leb _ _ few, right, lt-leb _ _ h)

      module _ {len : ℕ} (hl : len ≡ written_length e g) (short : len ≤ 16777216)
          {v : Verdict} (hv : v ≡ sections_judged e g.runtime g.strings g.indices g.elements) where
        in_limit : leb (written_length e g) 16777216 ≡ true
        in_limit = le-leb _ _ (rw hl at short)

        pub given_refused : {n p : ℕ} → v ≡ Refused n p → Refused n p ≡ writer_judged e g room
        unfolding check ◌then◌
        given_refused q = rw (writer_refusals e g room, le-leb _ _ few, right, in_limit, given_same, ← hv, q)

        module _ (a : v ≡ Accepted) where
          pub no_room : room < len → Refused 28 0 ≡ writer_judged e g room
          unfolding check ◌then◌
          no_room h = rw (writer_refusals e g room, le-leb _ _ few, right, in_limit, given_same, ← hv, a, ← hl, lt-leb _ _ h)

          pub all_right : len ≤ room → Accepted ≡ writer_judged e g room
          unfolding check ◌then◌
          all_right h = rw (writer_refusals e g room, le-leb _ _ few, right, in_limit, given_same, ← hv, a, le-leb _ _ (rw hl at h))

-- ---- what an answer tells
module _ (e : ℕ) (g : Given) (o : List ℕ) {r : Result ℕ Refusal} (h : r ≡ answer e g (length o)) where
  pub kept : {x : Refusal} → r ≡ Err x → o ≡ output e g o
  unfolding output
  kept q = rw (refused_by _ _ h q)

  module _ {len : ℕ} (q : r ≡ Ok len) where
    pub accepted : writer_judged e g (length o) ≡ Accepted
    accepted = accepted_by _ _ h q

    pub len_is : len ≡ length (written e g)
    len_is = value_by _ _ h q

    told : (lengths_right e g ≡ true) × (written_length e g ≤ 16777216) × (written_length e g ≤ length o)
    told =
        let (c25, v27) = check_then _ _ _ _ (sym (writer_refusals e g (length o)) ∙ accepted) in
        let (c27, v2) = check_then _ _ _ _ v27 in
        let (c2, v15) = check_then _ _ _ _ v2 in
        let (v, c28) = then_accepted _ _ v15 in
        (c27, leb-true _ _ c2, leb-true _ _ (check_accepted _ _ _ c28))

    pub len_told : len ≡ written_length e g
    len_told = len_is ∙ written_length_lem e g told.0

    pub within_limit : len ≤ 16777216
    within_limit = rw len_told told.1

    pub within_room : len ≤ length o
    within_room = rw len_told told.2

    pub filled : {l : List ℕ} → l ≡ written_bytes e g → l ++ drop len o ≡ output e g o
    unfolding output
    filled w = rw (accepted, len_is, written_stretches e g told.0, w)

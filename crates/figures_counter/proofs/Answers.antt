-- What adding and joining answer.
-- Assumes nothing.
use Prim.Native.Nat.{ℕ, ◌+◌, ◌<◌, ◌≤◌}
use mathlib.Core.Path.{◌≡◌, refl}
use mathlib.Core.List.{List, [], ◌∷◌}
use native.Mathlib.Omega.{arith}
use borrow.Author.Tests.{le-leb, lt-leb, eq-eqb, ne_eqb}
use Rattle.std.specs.Prelude.{Ok, Err}
use Rattle.wire.specs.Verdict.{under}
use Rattle.wire.proofs.Verdicts.{accepted_by, refused_by}
use Rattle.wire.specs.declared.Refusal.{Refusal}
use Rattle.figures_layout.specs.declared.Told.{Told}
use Rattle.figures_layout.specs.declared.Figures.{Figures}
use Rattle.figures_layout.specs.declared.JoinError.TheVariants.{OtherEdition, Full as NoRoom}
use Rattle.figures_layout.specs.Kinds.{answer_of}
use Rattle.figures_layout.specs.Figures.{figures_of, summed, fits, joined, single, added}

-- ---- one container more
module _ (f : Figures) (b : List ℕ) where
  pub full_answer : 65535 ≤ f.opened → Err (record {}) ≡ added f b
  unfolding added single fits figures_of
  full_answer h = rw (lt-leb (f.opened + 1) 65535 (omega arith))

  module _ (h : f.opened < 65535) {g : Figures} (e : g ≡ summed f (figures_of f.edition (answer_of f.edition b ∷ []))) where
    pub accepted_added : {t : Told} → (answer_of f.edition b).opening ≡ Ok t → Ok (record { opening = Ok tt; figures = g }) ≡ added f b
    unfolding added single fits figures_of answer_of under
    accepted_added k = rw (e, le-leb (f.opened + 1) 65535 (omega arith), accepted_by _ _ refl k)

    pub refused_added : {r : Refusal} → (answer_of f.edition b).opening ≡ Err r → Ok (record { opening = Err r; figures = g }) ≡ added f b
    unfolding added single fits figures_of answer_of under
    refused_added k = rw (e, le-leb (f.opened + 1) 65535 (omega arith), refused_by _ _ refl k)

-- ---- two figures joined
module _ (f g : Figures) where
  pub other_answer : (f.edition ≡ g.edition → ⊥) → Err OtherEdition ≡ joined f g
  unfolding joined
  other_answer h = rw (ne_eqb f.edition g.edition h)

  module _ (e : f.edition ≡ g.edition) where
    pub room_answer : 65535 < f.opened + g.opened → Err NoRoom ≡ joined f g
    unfolding joined fits
    room_answer h = rw (eq-eqb f.edition g.edition e, lt-leb (f.opened + g.opened) 65535 h)

    pub joined_answer : f.opened + g.opened ≤ 65535 → {r : Figures} → r ≡ summed f g → Ok r ≡ joined f g
    unfolding joined fits
    joined_answer h q = rw (q, eq-eqb f.edition g.edition e, le-leb (f.opened + g.opened) 65535 h)

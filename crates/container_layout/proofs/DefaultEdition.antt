-- What document 02's Ask 5 changes for an opening that names no edition, which read as edition 1 before: of every container.
-- Assumes nothing.
use Prim.Native.Nat.{ℕ, zero, suc, ◌≤◌, min}
use mathlib.Core.Path.{◌≡◌, refl, sym, ◌∙◌, ap}
use mathlib.Core.Bool.{Bool, true, false, not, true≢false}
use mathlib.Core.List.{List}
use native.Mathlib.Omega.{arith}
use lib.Dec.{leb, eqb}
use borrow.Author.Tests.{le-leb}
use Rattle.constants.specs.Edition.{file_edition_of}
use Rattle.constants.proofs.Editions.{edition_few}
use Rattle.wire.specs.Number.{u32_at}
use Rattle.wire.specs.Verdict.{◌then◌, check, when, from, Verdict, Accepted, Refused}
use Rattle.part_table_layout.specs.Table.{header_judged, part_judged, name_judged, parts_judged, table_judged}
use Rattle.psv0_layout.specs.Judged.{head_judged, fields_judged, body_fits, element_judged, elements_judged, entry_judged, judged_at}
use Rattle.psv0_layout.specs.Layout.{edition_read_of, default_edition}
use Rattle.container_layout.specs.Container.{psv_of, before_psv, container_judged}
use Rattle.container_layout.proofs.Demand3.{editions_agree}
use Rattle.container_layout.proofs.Numbers.{passes, Passes, next, one, all}

-- the same verdict; or 24 in the place of an acceptance, and then the file is of edition 3
pub data Change (f : ℕ) (old new : Verdict) : Type 0 where
  same : new ≡ old → Change f old new
  newly : old ≡ Accepted → new ≡ Refused 24 0 → f ≡ 3 → Change f old new

after : (f : ℕ) (a : Verdict) {v w : Verdict} → Change f v w → Change f (a then v) (a then w)
unfolding ◌then◌
after f Accepted c = c
after f (Refused n p) c = same refl

last : (t : Bool) → Change 3 Accepted (check t 24 0)
unfolding check
last true = same refl
last false = newly refl refl refl

module _ (d : List ℕ) where
  -- editions 1 and 2 check the same
  alike : (k : ℕ) → 1 ≤ k → k ≤ 2 → judged_at k d ≡ judged_at 1 d
  unfolding judged_at from when
  alike zero g h = absurd (omega arith)
  alike (suc zero) g h = refl
  alike (suc (suc zero)) g h = refl
  alike (suc (suc (suc k))) g h = absurd (omega arith)

  -- PSV0 data of edition f, at edition 1 or 2 and at 3
  of_data : (k f : ℕ) → 1 ≤ k → k ≤ 2 → f ≤ 3 → Change f (judged_at (min k f) d) (judged_at (min 3 f) d)
  unfolding judged_at from when entry_judged
  of_data k zero g h l = let e : min k 0 ≡ 0 = omega arith in rw e (same refl)
  of_data k (suc zero) g h l = let e : min k 1 ≡ 1 = omega arith in rw e (same refl)
  of_data k (suc (suc zero)) g h l = let e : min k 2 ≡ k = omega arith in rw (e, alike k g h) (same refl)
  of_data k (suc (suc (suc zero))) g h l =
      let e : min k 3 ≡ k = omega arith in
      rw (e, alike k g h) (after 3 _ (after 3 _ (after 3 _ (after 3 _ (last _)))))
  of_data k (suc (suc (suc (suc f)))) g h l = absurd (omega arith)

-- ---- edition 2, and any older one, never gives 24
abbrev other : ℕ → Bool
other n = not (eqb n 24)

older_before : (k : ℕ) (b : List ℕ) → Passes other (before_psv k b)
unfolding before_psv table_judged header_judged parts_judged part_judged name_judged
older_before k b = search (next other, one other, all other) depth 20

older_data : (d : List ℕ) (er : ℕ) → er ≤ 2 → Passes other (judged_at er d)
unfolding judged_at head_judged fields_judged body_fits elements_judged element_judged from when
older_data d zero h = search (next other, one other) depth 20
older_data d (suc zero) h = search (next other, one other, all other) depth 20
older_data d (suc (suc zero)) h = search (next other, one other, all other) depth 20
older_data d (suc (suc (suc er))) h = absurd (omega arith)

module _ (b : List ℕ) where
  abbrev edition : ℕ
  edition = file_edition_of (u32_at (psv_of b) 0)

  changed : (k : ℕ) → 1 ≤ k → k ≤ 2 → Change edition (container_judged k b) (container_judged default_edition b)
  unfolding container_judged before_psv ◌then◌ check
  changed k g h =
      let l : leb k 3 ≡ true = le-leb k 3 (omega arith) in
      rw l (after edition (before_psv default_edition b) (of_data (psv_of b) k edition g h (edition_few (u32_at (psv_of b) 0))))

  -- what an opening without an edition gave before, at edition 1, and gives now
  pub default_changed : Change edition (container_judged 1 b) (container_judged default_edition b)
  default_changed = changed 1 (omega arith) (omega arith)

  older : (k : ℕ) → k ≤ 2 → Passes other (container_judged k b)
  unfolding container_judged
  older k h = next other _ _ (older_before k b) (older_data (psv_of b) (edition_read_of k (psv_of b)) (omega arith))

  -- what gives 24 now is of edition 3, and every older edition accepts it
  module _ {p : ℕ} (r : container_judged default_edition b ≡ Refused 24 p) where
    told : Change edition (container_judged 2 b) (container_judged default_edition b) → (container_judged 2 b ≡ Accepted) × (edition ≡ 3)
    told (same e) = absurd (true≢false (sym (older 2 (omega arith)).told ∙ ap (passes other) (sym e ∙ r)))
    told (newly a n f) = (a, f)

    pub of_edition_3 : file_edition_of (u32_at (psv_of b) 0) ≡ 3
    of_edition_3 = (told (changed 2 (omega arith) (omega arith))).1

    pub older_accepts : (k : ℕ) → k ≤ 2 → container_judged k b ≡ Accepted
    older_accepts k h = (editions_agree k 2 b h (omega arith)).opens (told (changed 2 (omega arith) (omega arith))).0

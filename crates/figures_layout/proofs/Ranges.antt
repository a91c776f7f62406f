-- The answers of openings lie in the figures' tables: the refusal's number, the file's edition, the stage; and accepted lengths are short.
-- Assumes nothing.
use Rattle.std.specs.Prelude.{Some, Result, Ok, Err}
use Prim.Native.Nat.{ℕ, ◌≤◌, ◌<◌}
use mathlib.Core.Path.{◌≡◌, refl, sym, ◌∙◌, ap}
use mathlib.Core.Bool.{Bool, true, false}
use mathlib.Core.List.{List}
use native.Mathlib.Omega.{arith}
use lib.Dec.{leb}
use borrow.Author.Tests.{lt-leb, leb-true}
use Rattle.constants.proofs.Editions.{edition_few}
use Rattle.wire.specs.Number.{u32_at}
use Rattle.wire.specs.Verdict.{◌then◌, check, under, Verdict, Accepted, Refused}
use Rattle.wire.proofs.Verdicts.{check_then, refused_by, accepted_by, value_by}
use Rattle.wire.specs.declared.Refusal.{Refusal}
use Rattle.part_table_layout.proofs.Accepted.{accepted_told}
use Rattle.psv0_layout.specs.Answers.{field_of}
use Rattle.psv0_layout.specs.Field.{stage}
use Rattle.psv0_layout.specs.Judged.{fields_judged}
use Rattle.psv0_layout.specs.Layout.{sections, seen, edition_read_of}
use Rattle.psv0_layout.specs.Shown.{number, set_if, value, shown_at, beside}
use Rattle.psv0_layout.proofs.Opened.{fields_accepted}
use Rattle.container_layout.specs.Container.{psv_of, before_psv, container_judged, container_answered}
use Rattle.container_layout.proofs.Containers.{before_told, opened_told, data_opens}
use Rattle.container_layout.proofs.Numbers.{opening_numbers}
use Rattle.figures_layout.specs.declared.Told.{Told}
use Rattle.figures_layout.specs.Kinds.{answer_of, when_told, accepted_length}
use Rattle.wire.specs.Choice.{choose}

module _ (k : ℕ) (b : List ℕ) where
  -- "A start at an edition above 3 counts every opening as 25"
  pub above_3 : 3 < k → (answer_of k b).opening ≡ Err (record { number = 25; place = 0 })
  unfolding answer_of container_judged before_psv check ◌then◌ under
  above_3 h = rw (lt-leb k 3 h)

  pub number_in : {r : Refusal} → (answer_of k b).opening ≡ Err r → (1 ≤ r.number) × (r.number ≤ 25)
  unfolding answer_of
  number_in e = opening_numbers k b (refused_by _ _ refl e)

  pub edition_in : {t : Told} → (answer_of k b).opening ≡ Ok t → t.file_edition ≤ 3
  unfolding answer_of
  edition_in e = rw (value_by _ _ refl e) (edition_few (u32_at (psv_of b) 0))

  pub length_in : accepted_length (answer_of k b) ≤ 16777216
  unfolding answer_of
  length_in = go (answer_of k b).opening refl
    where
      go : (o : Result Told Refusal) → (answer_of k b).opening ≡ o → choose (when_told (λ t. true) o) (answer_of k b).len 0 ≤ 16777216
      go (Ok t) e = (accepted_told b (before_told k b (opened_told k b (accepted_by _ _ refl e)).0).table).header.short
      go (Err r) e = omega arith

  -- the stage that is shown is at most 15
  module _ (e : container_judged k b ≡ Accepted) (h : 1 ≤ edition_read_of k (psv_of b)) where
    stage_most : stage (seen 1 (sections (psv_of b))).runtime ≤ 15
    unfolding fields_judged
    stage_most = leb-true _ 15 (check_then _ 15 0 _ (fields_accepted k (psv_of b) (data_opens k b e) h)).0

  pub stage_in : {t : Told} {s : ℕ} → (answer_of k b).opening ≡ Ok t → t.stage ≡ Some s → s ≤ 15
  unfolding answer_of container_answered shown_at value
  stage_in {t} {s} q g = go (container_judged k b) refl (leb 1 (edition_read_of k (psv_of b))) refl (sym (ap (λ (t : Told). t.stage) (value_by _ _ refl q)) ∙ g)
    where
      go : (v : Verdict) → container_judged k b ≡ v → (t : Bool) → leb 1 (edition_read_of k (psv_of b)) ≡ t
          → field_of (beside v (set_if t (number (stage (seen 1 (sections (psv_of b))).runtime)))) ≡ Some s → s ≤ 15
      go Accepted e true t f =
          let m = stage_most e (leb-true 1 _ t) in
          let q : stage (seen 1 (sections (psv_of b))).runtime ≡ s = cc in
          omega arith
      go Accepted e false t f = absurd (let z : ◌≡◌ {A = ℕ} 0 1 = cc in omega arith)
      go (Refused n p) e t c f = absurd (let z : ◌≡◌ {A = ℕ} 0 1 = cc in omega arith)

-- What opening a container says of its PSV0 part, and what stays the same in a widening.
-- Assumes nothing.
use Rattle.std.specs.Prelude.{None, Option, Some}
use Prim.Native.Nat.{ℕ, ◌≤◌, ◌<◌}
use mathlib.Core.Path.{◌≡◌, refl, sym, ◌∙◌, ap}
use mathlib.Core.Bool.{true, true≢false}
use mathlib.Core.List.{List}
use native.Mathlib.Omega.{arith}
use native.Mathlib.Nat.{le_trans}
use lib.Dec.{leb, ltb}
use lib.ListN.{length, length-take, length-drop}
use borrow.Author.Tests.{le-leb}
use Rattle.wire.specs.Number.{u32_at}
use Rattle.wire.specs.Verdict.{◌then◌, check, Accepted, Refused}
use Rattle.wire.proofs.Verdicts.{check_then, check_accepted, then_accepted, accepted_then, checked}
use Rattle.part_table_layout.specs.Lookup.{find, find_occurrence}
use Rattle.part_table_layout.specs.Table.{may_repeat, count_of, name_at, data_at, table_judged}
use Rattle.part_table_layout.proofs.Accepted.{accepted_told, data_length}
use Rattle.part_table_layout.proofs.Lookups.{find_told, found_alone, first_occurrence}
use Rattle.part_table_layout.proofs.Occurrences.{occurrence_agree}
use Rattle.psv0_layout.specs.Judged.{judged_at, opened}
use Rattle.psv0_layout.specs.Layout.{edition_read_of}
use Rattle.psv0_layout.specs.Shown.{unset, Question, answered}
use Rattle.psv0_layout.specs.Widened.{Widening}
use Rattle.container_layout.specs.Container.{dxil, psv0, is_there, size_found, data_found, psv_of, before_psv, container_judged, container_answered}
use Rattle.container_layout.specs.Widened.{WiderContainer}

-- ---- the PSV0 part of an accepted table is no longer than a container may be
data_short : (b : List ℕ) (f : Option ℕ) → length (data_found b f) ≤ length b
unfolding data_at
data_short b (Some k) = simp (length-take, length-drop) (omega arith)
data_short b None = omega arith

pub psv_short : (b : List ℕ) → table_judged b ≡ Accepted → length (psv_of b) ≤ 16777216
unfolding psv_of
psv_short b h = le_trans (data_short b (find b psv0)) (accepted_told b h).header.short

-- ---- DXIL and PSV0 are found wherever they stand, whatever PRIV parts stand beside them: their names may not repeat
module _ (b : List ℕ) (h : table_judged b ≡ Accepted) (k : ℕ) (l : k < count_of b) where
  pub program_found : name_at b k ≡ dxil → find b dxil ≡ Some k
  unfolding may_repeat u32_at
  program_found = found_alone b h dxil refl k l

  pub psv0_found : name_at b k ≡ psv0 → find b psv0 ≡ Some k
  unfolding may_repeat u32_at
  psv0_found = found_alone b h psv0 refl k l

-- ---- an opening that accepts, taken apart and put together
pub record Before (k : ℕ) (b : List ℕ) : Type 0 where
  pub edition : leb k 3 ≡ true
  pub table : table_judged b ≡ Accepted
  pub program : ltb 0 (size_found b (find b dxil)) ≡ true
  pub validation : is_there (find b psv0) ≡ true

pub before_told : (k : ℕ) (b : List ℕ) → before_psv k b ≡ Accepted → Before k b
unfolding before_psv
before_told k b h =
    let (c25, o1) = check_then _ _ _ _ h in
    let (t, o2) = then_accepted _ _ o1 in
    let (c10, o3) = check_then _ _ _ _ o2 in
    record { edition = c25; table = t; program = c10; validation = check_accepted _ _ _ o3 }

pub before_is : (k : ℕ) (b : List ℕ) → Before k b → before_psv k b ≡ Accepted
unfolding before_psv
before_is k b p =
    accepted_then _ _ (checked _ 25 0 p.edition)
    (accepted_then _ _ p.table (accepted_then _ _ (checked _ 10 0 p.program) (checked _ 11 0 p.validation)))

pub opened_told : (k : ℕ) (b : List ℕ) → container_judged k b ≡ Accepted
    → (before_psv k b ≡ Accepted) × (judged_at (edition_read_of k (psv_of b)) (psv_of b) ≡ Accepted)
unfolding container_judged
opened_told k b h = then_accepted _ _ h

pub opened_is : (k : ℕ) (b : List ℕ) → before_psv k b ≡ Accepted → judged_at (edition_read_of k (psv_of b)) (psv_of b) ≡ Accepted
    → container_judged k b ≡ Accepted
unfolding container_judged
opened_is k b p j = accepted_then _ _ p j

-- ---- a container that passes what is checked before is opened as its PSV0 data alone; one that does not shows nothing
module _ (k : ℕ) (b : List ℕ) where
  pub opens_alone : before_psv k b ≡ Accepted → container_judged k b ≡ opened k (psv_of b)
  unfolding container_judged opened ◌then◌ check
  opens_alone h =
      let p = before_told k b h in
      let s = le-leb _ _ (psv_short b p.table) in
      simp (h, p.edition, s)

  -- the PSV0 data of a container that opens are accepted alone
  pub data_opens : container_judged k b ≡ Accepted → opened k (psv_of b) ≡ Accepted
  data_opens h = sym (opens_alone (opened_told k b h).0) ∙ h

  pub shows_alone : before_psv k b ≡ Accepted → (q : Question) → container_answered k b q ≡ answered k (psv_of b) q
  unfolding container_answered answered
  shows_alone h q = rw (opens_alone h)

  pub refuses_before : {n p : ℕ} → before_psv k b ≡ Refused n p → container_judged k b ≡ Refused n p
  unfolding container_judged ◌then◌
  refuses_before h = rw h

  pub shows_nothing : {n p : ℕ} → before_psv k b ≡ Refused n p → (q : Question) → container_answered k b q ≡ unset
  unfolding container_answered
  shows_nothing h q = rw (refuses_before h)

-- ---- what stays the same where no data differ but those of PSV0
-- b' passes 1 to 9, with the parts of b in order, "equal but for PSV0"
pub record SameParts (b b' : List ℕ) : Type 0 where
  pub passes : table_judged b' ≡ Accepted
  pub counts : count_of b' ≡ count_of b
  pub names : (i : ℕ) → i < count_of b → name_at b' i ≡ name_at b i
  pub others : (i : ℕ) → i < count_of b → (name_at b i ≡ psv0 → ⊥) → data_at b' i ≡ data_at b i

module _ (b b' : List ℕ) (w : SameParts b b') where
  pub occurrence_same : (x o : ℕ) → find_occurrence b' x o ≡ find_occurrence b x o
  unfolding find_occurrence
  occurrence_same x o = rw w.counts (occurrence_agree (name_at b') (name_at b) (count_of b) x o w.names)

  pub find_same : (x : ℕ) → find b' x ≡ find b x
  find_same x = sym (first_occurrence b' x) ∙ occurrence_same x 0 ∙ first_occurrence b x

  -- the DXIL part is there, and as long as it was
  program_same : table_judged b ≡ Accepted → size_found b' (find b' dxil) ≡ size_found b (find b dxil)
  unfolding u32_at
  program_same t = rw (find_same dxil) (go (find b dxil) refl)
    where
      go : (f : Option ℕ) → find b dxil ≡ f → size_found b' f ≡ size_found b f
      go None e = refl
      go (Some i) e =
          let n = find_told b dxil i e in
          let l = n.listed in
          let l' : i < count_of b' = rw w.counts l in
          let other : name_at b i ≡ psv0 → ⊥ = λ q. let z : dxil ≡ psv0 = sym n.named ∙ q in omega arith in
          sym (data_length b' w.passes i l') ∙ ap length (w.others i l other) ∙ data_length b t i l

  -- what is checked before the PSV0 data passes again, at any edition that a reader has
  pub before_again : (k j : ℕ) → leb j 3 ≡ true → Before k b → Before j b'
  before_again k j h p =
      record {
        edition = h;
        table = w.passes;
        program = rw (program_same p.table) p.program;
        validation = rw (find_same psv0) p.validation;
      }

-- ---- a widening
pub wider_parts : (k : ℕ) (b b' : List ℕ) → WiderContainer k b b' → SameParts b b'
wider_parts k b b' w = record { passes = w.passes; counts = w.counts; names = w.names; others = w.others }

module _ (k : ℕ) (b b' : List ℕ) (w : WiderContainer k b b') where
  pub psv_wider : is_there (find b psv0) ≡ true → Widening k (psv_of b) (psv_of b')
  unfolding psv_of
  psv_wider t = rw (find_same b b' (wider_parts k b b' w) psv0) (go (find b psv0) refl t)
    where
      go : (f : Option ℕ) → find b psv0 ≡ f → is_there f ≡ true → Widening k (data_found b f) (data_found b' f)
      go None e t = absurd (true≢false (sym t))
      go (Some i) e t = let n = find_told b psv0 i e in w.psv i n.listed n.named

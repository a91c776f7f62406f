-- Which numbers the refusals of an opening have.
-- Assumes nothing.
use Prim.Native.Nat.{ℕ, zero, suc, ◌≤◌}
use mathlib.Core.Path.{◌≡◌, refl, sym, ◌∙◌, ap}
use mathlib.Core.Bool.{Bool, true, false, ◌&&◌}
use mathlib.Core.List.{List}
use lib.Dec.{leb}
use borrow.Author.Tests.{leb-true}
use Rattle.wire.specs.Verdict.{◌then◌, check, when, from, each, Verdict, Accepted, Refused}
use Rattle.wire.proofs.Choices.{both}
use Rattle.part_table_layout.specs.Table.{header_judged, part_judged, name_judged, parts_judged, table_judged}
use Rattle.psv0_layout.specs.Judged.{head_judged, fields_judged, body_fits, element_judged, elements_judged, entry_judged, judged_at}
use Rattle.psv0_layout.specs.Layout.{edition_read_of}
use Rattle.container_layout.specs.Container.{psv_of, before_psv, container_judged}

-- ---- where a test passes the numbers of all checks in a row, it passes the number of what they give
abbrev pub passes : (ℕ → Bool) → Verdict → Bool
passes p Accepted = true
passes p (Refused n q) = p n

pub record Passes (p : ℕ → Bool) (v : Verdict) : Type 0 where
  pub told : passes p v ≡ true

module _ (p : ℕ → Bool) where
  pub next : (a b : Verdict) → Passes p a → Passes p b → Passes p (a then b)
  unfolding ◌then◌
  next Accepted b f g = g
  next (Refused n q) b f g = f

  pub one : (t : Bool) (n q : ℕ) → p n ≡ true → Passes p (check t n q)
  unfolding check
  one true n q h = record { told = refl }
  one false n q h = record { told = h }

  pub all : (f : ℕ → Verdict) (n : ℕ) → ((i : ℕ) → Passes p (f i)) → Passes p (each f n)
  unfolding each
  all f zero h = record { told = refl }
  all f (suc n) h = next _ _ (all f n h) (h n)

  pub later : (e er : ℕ) (v : Verdict) → Passes p v → Passes p (from e er v)
  unfolding from when
  later e er v h = go (leb e er)
    where
      go : (t : Bool) → Passes p (when t v)
      go true = h
      go false = record { told = refl }

-- ---- 1 to 25, of every container at every edition
abbrev of_opening : ℕ → Bool
of_opening n = leb 1 n && leb n 25

before_numbers : (k : ℕ) (b : List ℕ) → Passes of_opening (before_psv k b)
unfolding before_psv table_judged header_judged parts_judged part_judged name_judged
before_numbers k b = search (next of_opening, one of_opening, all of_opening) depth 20

data_numbers : (er : ℕ) (d : List ℕ) → Passes of_opening (judged_at er d)
unfolding judged_at head_judged fields_judged body_fits elements_judged element_judged entry_judged
data_numbers er d = search (next of_opening, one of_opening, all of_opening, later of_opening) depth 20

pub opening_numbers : (k : ℕ) (b : List ℕ) {n p : ℕ} → container_judged k b ≡ Refused n p → (1 ≤ n) × (n ≤ 25)
unfolding container_judged
opening_numbers k b {n} e =
    let t = (next of_opening _ _ (before_numbers k b) (data_numbers (edition_read_of k (psv_of b)) (psv_of b))).told in
    let h = both (leb 1 n) (leb n 25) (sym (ap (passes of_opening) e) ∙ t) in
    (leb-true 1 n h.0, leb-true n 25 h.1)

-- What an accepted root signature tells, what an item's number and values are in the file, and that an item or range by itself is answered as the
-- whole reader answers it.
-- Assumes nothing.
use Rattle.std.specs.Prelude.{None, Option, Some}
use Prim.Native.Nat.{ℕ, zero, suc, ◌+◌, ◌*◌, ◌≤◌, ◌<◌}
use mathlib.Core.Path.{◌≡◌, refl, sym, ◌∙◌}
use mathlib.Core.Bool.{Bool, true, false}
use mathlib.Core.List.{List, [], ◌∷◌, ◌++◌}
use native.Mathlib.Omega.{arith}
use native.Mathlib.Nat.{mul-le-mul_left, mul-suc}
use lib.Dec.{leb, ltb, eqb}
use lib.ListN.{length}
use borrow.Author.Tests.{leb-true, lt-ltb, le-ltb, ltb-true, eq-eqb, ne_eqb, eqb-true}
use Rattle.wire.specs.Number.{u32_at}
use Rattle.wire.specs.Verdict.{◌then◌, check, when, each, Accepted}
use Rattle.wire.proofs.Verdicts.{then_accepted, check_accepted, each_accepted}
use Rattle.root_signature_layout.specs.Root.{version_of, parameters_of, items_of, in11, range_size, parameter_at, type_at, visibility_at, data_at, data_size, ranges_of, range_at, sampler_at, header_judged, own_judged, type_judged, data_judged, ranges_judged, parameter_judged, sampler_judged, item_judged, root_judged, single_of, parameter_of, sampler_of, item_at, number_of, values_of, item_there, item_queried, item_alone, item_of, item_alone_of, range_answer_of, range_alone_of}

-- ---- item i by itself
module _ (d : List ℕ) (a : root_judged d ≡ Accepted) where
  told : (header_judged d ≡ Accepted) × (each (item_judged d) (items_of d) ≡ Accepted)
  unfolding root_judged
  told = then_accepted _ _ a

  pub item_accepted : (i : ℕ) → i < items_of d → item_judged d i ≡ Accepted
  item_accepted i h = each_accepted _ _ i told.1 h

  verdicts_agree : (i : ℕ) → item_alone d i ≡ item_queried d i
  unfolding item_alone item_queried item_there check ◌then◌
  verdicts_agree i = go (ltb i (items_of d)) refl
    where
      go : (t : Bool) → ltb i (items_of d) ≡ t → item_alone d i ≡ item_queried d i
      go true q = simp (a, told.0, q, item_accepted i (ltb-true i (items_of d) q))
      go false q = simp (a, told.0, q)

  -- "answers as the whole reader does wherever that accepts"
  pub item_agrees : (i : ℕ) → item_alone_of d i ≡ item_of d i
  unfolding item_alone_of item_of
  item_agrees i = rw (verdicts_agree i)

  pub range_agrees : (i j : ℕ) → range_alone_of d i j ≡ range_answer_of d i j
  unfolding range_alone_of range_answer_of
  range_agrees i j = rw (verdicts_agree i)

-- ---- all that is shown of an accepted item lies inside the data
module _ (d : List ℕ) (i : ℕ) (a : item_judged d i ≡ Accepted) where
  pub sampler_inside : parameters_of d ≤ i → sampler_at d i + 52 ≤ length d
  unfolding item_judged sampler_judged own_judged
  sampler_inside h = leb-true _ _ (check_accepted _ 48 i (sym (rw (le-ltb i (parameters_of d) h)) ∙ a))

  module _ (h : i < parameters_of d) where
    checks : (leb (parameter_at d i + 12) (length d) ≡ true) × (leb (type_at d i) 4 ≡ true)
        × (leb (data_at d i + data_size (version_of d) (type_at d i)) (length d) ≡ true) × (ranges_judged d i ≡ Accepted)
    unfolding item_judged parameter_judged own_judged type_judged data_judged
    checks =
        let p : parameter_judged d i ≡ Accepted = sym (rw (lt-ltb i (parameters_of d) h)) ∙ a in
        let (c48, v) = then_accepted _ _ p in
        let (c49, w) = then_accepted _ _ v in
        let (c50, r) = then_accepted _ _ w in
        (check_accepted _ 48 i c48, check_accepted _ 49 i c49, check_accepted _ 50 i c50, r)

    pub parameter_inside : parameter_at d i + 12 ≤ length d
    parameter_inside = leb-true _ _ checks.0

    pub type_known : type_at d i ≤ 4
    type_known = leb-true _ _ checks.1

    pub data_inside : data_at d i + data_size (version_of d) (type_at d i) ≤ length d
    data_inside = leb-true _ _ checks.2

    -- every range of a table
    pub range_inside : (j : ℕ) → type_at d i ≡ 0 → j < ranges_of d i → range_at d i j + range_size (version_of d) ≤ length d
    unfolding ranges_judged when range_at
    range_inside j z l =
        let e : u32_at d (data_at d i + 4) + range_size (version_of d) * ranges_of d i ≤ length d =
        leb-true _ _ (check_accepted _ 51 i (rw (eq-eqb (type_at d i) 0 z) at checks.3)) in
        let m : range_size (version_of d) * suc j ≤ range_size (version_of d) * ranges_of d i = mul-le-mul_left _ (omega arith) in
        let s : range_size (version_of d) * suc j ≡ range_size (version_of d) * j + range_size (version_of d) = mul-suc _ _ in
        omega arith

-- ---- an item's number and values are those of the file: n numbers in a row from a place on, and those that stand k bytes after it
unfoldable pub numbers_after : List ℕ → ℕ → ℕ → ℕ → List (Option ℕ)
numbers_after d at k zero = []
numbers_after d at k (suc n) = Some (u32_at d (at + k)) ∷ numbers_after d at (k + 4) n

unfoldable pub numbers_at : List ℕ → ℕ → ℕ → List (Option ℕ)
numbers_at d at zero = []
numbers_at d at (suc n) = Some (u32_at d at) ∷ numbers_after d at 4 n

pub record Told (d : List ℕ) (i : ℕ) : Type 0 where
  pub number : i < parameters_of d → number_of (item_at d i) ≡ Some (type_at d i)
  pub table : i < parameters_of d → type_at d i ≡ 0 → values_of (item_at d i) ≡ Some (visibility_at d i) ∷ numbers_at d (data_at d i) 2
  pub constants : i < parameters_of d → type_at d i ≡ 1 → values_of (item_at d i) ≡ Some (visibility_at d i) ∷ numbers_at d (data_at d i) 3
  pub descriptor10 : i < parameters_of d → 2 ≤ type_at d i → version_of d ≡ 1
      → values_of (item_at d i) ≡ Some (visibility_at d i) ∷ (numbers_at d (data_at d i) 2 ++ (None ∷ []))
  pub descriptor11 : i < parameters_of d → 2 ≤ type_at d i → version_of d ≡ 2
      → values_of (item_at d i) ≡ Some (visibility_at d i) ∷ numbers_at d (data_at d i) 3
  pub sampler : parameters_of d ≤ i → (number_of (item_at d i) ≡ None) × (values_of (item_at d i) ≡ numbers_at d (sampler_at d i) 13)

module _ (d : List ℕ) (i : ℕ) where
  parameter_is : i < parameters_of d → item_at d i ≡ parameter_of d i
  unfolding item_at
  parameter_is h = rw (lt-ltb i (parameters_of d) h)

  sampler_is : parameters_of d ≤ i → item_at d i ≡ sampler_of d (sampler_at d i)
  unfolding item_at
  sampler_is h = rw (le-ltb i (parameters_of d) h)

  number_is : number_of (parameter_of d i) ≡ Some (type_at d i)
  unfolding parameter_of
  number_is = table (eqb (type_at d i) 0) refl
    where
      constants : (t : Bool) → eqb (type_at d i) 1 ≡ t → (eqb (type_at d i) 0 ≡ false) → number_of (parameter_of d i) ≡ Some (type_at d i)
      constants true q z = rw (z, q, eqb-true (type_at d i) 1 q)
      constants false q z = rw (z, q)

      table : (t : Bool) → eqb (type_at d i) 0 ≡ t → number_of (parameter_of d i) ≡ Some (type_at d i)
      table true q = rw (q, eqb-true (type_at d i) 0 q)
      table false q = constants (eqb (type_at d i) 1) refl q

  other : 2 ≤ type_at d i → (eqb (type_at d i) 0 ≡ false) × (eqb (type_at d i) 1 ≡ false)
  other l = (ne_eqb (type_at d i) 0 (λ q. omega arith), ne_eqb (type_at d i) 1 (λ q. omega arith))

  pub item_told : Told d i
  unfolding parameter_of sampler_of in11 single_of numbers_at numbers_after
  item_told =
      record {
        number = λ h. rw (parameter_is h) number_is;
        table = λ h z. rw (parameter_is h, eq-eqb (type_at d i) 0 z);
        constants = λ h e. rw (parameter_is h, e);
        descriptor10 = λ h l v. rw (parameter_is h, (other l).0, (other l).1, v);
        descriptor11 = λ h l v. rw (parameter_is h, (other l).0, (other l).1, v);
        sampler = λ h. (rw (sampler_is h), rw (sampler_is h));
      }

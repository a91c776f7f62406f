-- One string by its reference, from what the code finds of it.
-- Assumes nothing.
use Prim.Native.Nat.{ℕ, suc, ◌+◌, ◌-◌, ◌≤◌, ◌<◌}
use mathlib.Core.Path.{◌≡◌, refl, sym, ◌∙◌, ap}
use mathlib.Core.Bool.{Bool, true, false}
use mathlib.Core.List.{List, [], ◌∷◌}
use mathlib.Core.Logic.{inr}
use native.Mathlib.Omega.{arith}
use Rattle.std.specs.Prelude.{Option, Some, None}
use Rattle.std.specs.Option.{is_some}
use lib.Dec.{ltb}
use lib.ListN.{length, get_or, take, drop, length-take, length-drop}
use lib.Seq.{get_or-take, get_or-drop}
use borrow.Author.Tests.{ltb-true, ltb-false}
use Rattle.wire.specs.Choice.{choose}
use Rattle.utf8_layout.specs.Lead.{leads}
use Rattle.utf8_layout.specs.Sequence.{well_formed, code_points}
use Rattle.utf8_layout.proofs.Counts.{points_leads}
use Rattle.psv0_layout.specs.Position.{PlainFrom, NoZero}
use Rattle.psv0_layout.specs.Reference.{string_at, string_good}
use Rattle.psv0_layout.proofs.References.{good_parts, string_is, plain_well}
use Rattle.strings.proofs.Compared.{string_length}
use Rattle.utf8.specs.One.{Letters, read_of}
use Rattle.utf8.specs.declared.StringRead.{StringRead}
use Rattle.utf8.proofs.Plain.{lead_one}
use Rattle.utf8.proofs.Stops.{good_plain}

-- ---- a walk over letters
module _ (t : List ℕ) (i : ℕ) where
  pub letters_none : Letters t i i
  letters_none j a b = absurd (omega arith)

  pub letters_more : (n : ℕ) → Letters t i n → (get_or t n 0 ≡ 0 → ⊥) → get_or t n 0 ≤ 127 → Letters t i (n + 1)
  letters_more n f z l j a b = go (ltb j n) refl
    where
      go : (s : Bool) → ltb j n ≡ s → (0 < get_or t j 0) × (get_or t j 0 < 0x80)
      go true e = f j a (ltb-true j n e)
      go false e =
          let g = ltb-false j n e in
          let q : j ≡ n = omega arith in
          rw q (omega arith, omega arith)

-- ---- what is told of the string
-- bytes below 0x80 are a code point each
plain_leads : (l : List ℕ) → PlainFrom l 0 → leads l ≡ length l
unfolding leads
plain_leads [] f = refl
plain_leads (x ∷ l) f =
    let z = f 0 (omega arith) (omega arith) in
    let r = plain_leads l (λ j a b. f (suc j) (omega arith) (omega arith)) in
    rw (lead_one x (λ q. omega arith)) (omega arith)

plain_points : (l : List ℕ) → PlainFrom l 0 → code_points l ≡ length l
plain_points l f = points_leads l (plain_well l f) ∙ plain_leads l f

module _ (t : List ℕ) (o : ℕ) where
  pub read_ill : string_good t o ≡ false → None ≡ read_of t o
  unfolding read_of
  read_ill g = rw g

  -- a string of n bytes
  module _ (n : ℕ) (h : o ≤ length t) (e : n ≡ length (string_at t o)) where
    pub read_well : (c : ℕ) → string_good t o ≡ true → (well_formed (take n (drop o t)) ≡ true → c ≡ code_points (take n (drop o t)))
        → Some (record { len = n; points = c }) ≡ read_of t o
    unfolding read_of
    read_well c g f =
        let q : c ≡ code_points (string_at t o) = (rw (← (string_is t o n e h).1) at f) (good_parts t o g).1 in
        rw (g, q, e)

    pub read_plain : o + n < length t → PlainFrom (take n (drop o t)) 0 → Some (record { len = n; points = n }) ≡ read_of t o
    read_plain l f =
        let k : length (take n (drop o t)) ≡ n = simp (length-take, length-drop) (omega arith) in
        read_well n (sym (good_plain t o n h e l f)) (λ w. sym (plain_points (take n (drop o t)) f ∙ k))

  -- one whose letters go up to a zero byte
  pub read_letters : (i : ℕ) → o ≤ i → i < length t → Letters t o i → get_or t i 0 ≡ 0 → Some (record { len = i - o; points = i - o }) ≡ read_of t o
  read_letters i h l f z =
      let none : NoZero t o i = λ j a b q. omega (arith, (f j a b).0) in
      let e = string_length t o i h none (inr z) in
      read_plain (i - o) (omega arith) e (omega arith)
      (λ j a b.
      let k = simp (length-take, length-drop) at b in
      let m : j < i - o = omega arith in
      rw (get_or-take, get_or-drop) (f (o + j) (omega arith) (omega arith)).1)

  -- and what such an answer tells
  pub told_good : (r : StringRead) → read_of t o ≡ Some r → (string_good t o ≡ true) × (r.len ≡ length (string_at t o)) × (r.points ≡ code_points (string_at t o))
  unfolding read_of
  told_good r e = go (string_good t o) refl e
    where
      go : (b : Bool) → string_good t o ≡ b → choose b (Some (record { len = length (string_at t o); points = code_points (string_at t o) })) None ≡ Some r
          → (string_good t o ≡ true) × (r.len ≡ length (string_at t o)) × (r.points ≡ code_points (string_at t o))
      go true g f =
          let p : r ≡ record { len = length (string_at t o); points = code_points (string_at t o) } = cc in
          (g, ap (λ (x : StringRead). x.len) p, ap (λ (x : StringRead). x.points) p)
      go false g f = absurd (cc)

  pub good_some : is_some (read_of t o) ≡ string_good t o
  unfolding read_of
  good_some = go (string_good t o)
    where
      go : (b : Bool) → is_some (choose {A = Option StringRead} b (Some (record { len = length (string_at t o); points = code_points (string_at t o) })) None) ≡ b
      go true = refl
      go false = refl

  pub told_ill : read_of t o ≡ None → string_good t o ≡ false
  told_ill e = sym good_some ∙ ap is_some e

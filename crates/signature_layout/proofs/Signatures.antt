-- The checks of a signature's data at numbers that the code holds, what an accepted signature tells, and that an element by itself is
-- answered as the whole reader answers it.
-- Assumes nothing.
use Rattle.std.specs.Prelude.{Some, None, Ok}
use Prim.Native.Nat.{ℕ, ◌+◌, ◌-◌, ◌*◌, ◌≤◌, ◌<◌}
use mathlib.Core.Path.{◌≡◌, refl, sym, ◌∙◌, ap}
use mathlib.Core.Bool.{Bool, true, false, not, ◌&&◌}
use mathlib.Core.Logic.{◌⊎◌, inl, inr}
use mathlib.Core.List.{List}
use native.Mathlib.Omega.{arith}
use native.Mathlib.Numerals.{add-one}
use lib.Dec.{leb, ltb, eqb}
use lib.ListN.{length, take, drop}
use borrow.Author.Tests.{le-leb, lt-leb, leb-true, leb-false, lt-ltb, le-ltb, ltb-true, ltb-false, eq-eqb, ne_eqb, eqb-true, eqb-false}
use Rattle.wire.specs.Choice.{choose}
use Rattle.wire.specs.Search.{first}
use Rattle.wire.specs.Verdict.{◌then◌, check, each, Accepted, Refused}
use Rattle.wire.proofs.Verdicts.{then_accepted, check_then, check_accepted, each_accepted, each_stop, each_next, accepted_by, value_by}
use Rattle.wire.proofs.Searches.{first_agree, first_below, first_at}
use Rattle.utf8_layout.specs.Sequence.{well_formed, code_points}
use Rattle.psv0_layout.specs.Position.{UpToLastZero, PlainFrom, reference_at}
use Rattle.psv0_layout.specs.Reference.{string_ends, string_good, string_at}
use Rattle.psv0_layout.proofs.Positions.{part_u32}
use Rattle.psv0_layout.proofs.References.{string_ends_lem, string_is, ends_length, good_parts, plain_good}
use Rattle.signature_layout.specs.Named.{NamesFrom, NamesDecided}
use Rattle.signature_layout.specs.Signature.{count_of, first_of, start_of, element_at, name_offset_of, name_ends, name_good, name_judged, signature_judged, element_judged, alone_judged, name_of, element_shown, element_of, alone_of}
use Rattle.signature_layout.specs.declared.NameSpan.{NameSpan}
use Rattle.signature_layout.specs.declared.SignatureAnswer.{SignatureAnswer}

-- ---- 43 and 44: n is the count that was read and f the first element's offset
module _ (d : List ℕ) where
  pub short_header : length d < 8 → Refused 43 0 ≡ signature_judged d
  unfolding signature_judged check ◌then◌
  short_header h = simp (lt-leb _ _ h)

  module _ (l : 8 ≤ length d) {n f : ℕ} (ef : f ≡ first_of d) (en : n ≡ count_of d) where
    pub past_end : length d < f + 32 * n → Refused 44 0 ≡ signature_judged d
    unfolding signature_judged check ◌then◌
    past_end h = simp (le-leb _ _ l, lt-leb _ _ (rw (ef, en) at h))

    pub names_decide : f + 32 * n ≤ length d → each (name_judged d) (count_of d) ≡ signature_judged d
    unfolding signature_judged check ◌then◌
    names_decide h = simp (le-leb _ _ l, le-leb _ _ (rw (ef, en) at h))

-- ---- 45 and 52: a name offset that isn't 0
module _ (d : List ℕ) {o : ℕ} (f : o ≡ 0 → ⊥) where
  pub ends_named : name_ends d o ≡ string_ends d o
  unfolding name_ends
  ends_named = rw (ne_eqb o 0 f)

  pub good_named : name_good d o ≡ string_good d o
  unfolding name_good
  good_named = rw (ne_eqb o 0 f)

module _ (d : List ℕ) {o : ℕ} (z : o ≡ 0) where
  pub ends_unnamed : name_ends d o ≡ true
  unfolding name_ends
  ends_unnamed = rw (eq-eqb o 0 z)

  pub good_unnamed : name_good d o ≡ true
  unfolding name_good
  good_unnamed = rw (eq-eqb o 0 z)

-- by the last zero byte, at m - 1
pub ends_by_zero : (d : List ℕ) (o : ℕ) {m : ℕ} → UpToLastZero d m → name_ends d o ≡ not (ltb 0 o && leb m o)
ends_by_zero d o {m} u = go (eqb o 0) refl
  where
    before : (t : Bool) → leb m o ≡ t → ltb o m ≡ not t
    before true q = le-ltb _ _ (leb-true m o q)
    before false q = lt-ltb _ _ (leb-false m o q)

    go : (t : Bool) → eqb o 0 ≡ t → name_ends d o ≡ not (ltb 0 o && leb m o)
    go true e = let z = eqb-true o 0 e in ends_unnamed d z ∙ rw z
    go false e =
        let f = eqb-false o 0 e in
        let l : 0 < o = omega arith in
        ends_named d f ∙ string_ends_lem d m o u ∙ before (leb m o) refl ∙ rw (lt-ltb 0 o l)

-- ---- from where on the names of the first i elements lie, and with element i of one more
pub names_none : (d : List ℕ) (m : ℕ) → NamesFrom d m 0
names_none d m j l z = absurd (omega arith)

pub names_more : (d : List ℕ) (i : ℕ) {m r : ℕ} → NamesFrom d m i → r ≤ m → ((name_offset_of d i ≡ 0 → ⊥) → r ≤ name_offset_of d i) → NamesFrom d r (i + 1)
names_more d i {m} {r} f h g j l z = go (ltb j i) refl
  where
    go : (t : Bool) → ltb j i ≡ t → r ≤ name_offset_of d j
    go true q = let k = f j (ltb-true j i q) z in omega arith
    go false q =
        let k = ltb-false j i q in
        let e : j ≡ i = omega arith in
        rw e (g (rw e at z))

-- ---- which names that end are well formed; n is the count
module _ (d : List ℕ) {n : ℕ} (en : n ≡ count_of d) where
  pub decided_none : n ≡ 0 → NamesDecided d n
  decided_none z = record { told = λ i h. absurd (omega arith) }

  -- all, where every byte from the first name on is below 0x80
  pub decided_plain : {m from : ℕ} → UpToLastZero d m → NamesFrom d from (count_of d) → PlainFrom d from → NamesDecided d n
  decided_plain {m} {from} u g f = record { told = λ i h l e. go i h e (eqb (name_offset_of d i) 0) refl ∙ rw (ne_eqb i n (λ z. omega arith)) }
    where
      go : (i : ℕ) → i < count_of d → name_ends d (name_offset_of d i) ≡ true → (t : Bool) → eqb (name_offset_of d i) 0 ≡ t → name_good d (name_offset_of d i) ≡ true
      go i h e true q = good_unnamed d (eqb-true (name_offset_of d i) 0 q)
      go i h e false q =
          let z = eqb-false (name_offset_of d i) 0 q in
          good_named d z
          ∙ plain_good d from m (name_offset_of d i) f u (g i h z)
          ∙ sym (string_ends_lem d m (name_offset_of d i) u)
          ∙ sym (ends_named d z)
          ∙ e

  -- by the first that isn't good
  decided_first : {ill : ℕ} → ill ≡ first (λ i. not (name_good d (name_offset_of d i))) (count_of d) → NamesDecided d ill
  decided_first {ill} e = record { told = λ i h l w. go i h (ltb i ill) refl l }
    where
      bad : ℕ → Bool
      bad i = not (name_good d (name_offset_of d i))

      flip : (s t : Bool) → not s ≡ t → s ≡ not t
      flip true t q = rw (← q)
      flip false t q = rw (← q)

      go : (i : ℕ) → i < count_of d → (s : Bool) → ltb i ill ≡ s → i ≤ ill → name_good d (name_offset_of d i) ≡ not (eqb i ill)
      go i h true q l =
          let k = ltb-true i ill q in
          rw (ne_eqb i ill (λ z. omega arith)) (flip _ false (first_below bad (count_of d) i (rw (← e) k)))
      go i h false q l =
          let k = ltb-false i ill q in
          let z : i ≡ ill = omega arith in
          rw (eq-eqb i ill z) (flip _ true (rw (sym e ∙ sym z) at (first_at bad (count_of d) (rw (← e, ← z) h))))

  -- f is the first element's offset: from the first name offset on they are 32 bytes apart
  module _ {f : ℕ} (ef : f ≡ first_of d) where
    reference_is : (i : ℕ) → i < n → reference_at (take (f + 32 * n - (f + 4)) (drop (f + 4) d)) 32 n 0 i ≡ name_offset_of d i
    unfolding reference_at element_at
    reference_is i h =
        let z : f + 4 + i * 32 ≡ f + 32 * i + 4 = omega arith in
        rw (lt-ltb i n h, part_u32 d (f + 4) (f + 32 * n - (f + 4)) (i * 32) (omega arith), part_u32 d (first_of d + 32 * i) 32 4 (omega arith), ← ef, z)

    pub decided_search : {ill : ℕ} → ill ≡ first (λ i. not (name_good d (reference_at (take (f + 32 * n - (f + 4)) (drop (f + 4) d)) 32 n 0 i))) n
        → NamesDecided d ill
    decided_search e = decided_first (e ∙ first_agree _ _ n (λ i h. rw (reference_is i h)) ∙ ap (first (λ i. not (name_good d (name_offset_of d i)))) en)

-- ---- the loop over the elements: the name offset of element i is o; m is the end of the last string
module _ (d : List ℕ) (i : ℕ) {o m ill : ℕ} (eo : o ≡ name_offset_of d i)
    (u : UpToLastZero d m) (q : NamesDecided d ill) (so_far : each (name_judged d) i ≡ Accepted) (h : i < count_of d) (l : i ≤ ill) where
  pub cut_name : (o ≡ 0 → ⊥) → m ≤ o → Refused 45 i ≡ each (name_judged d) (count_of d)
  unfolding name_judged check ◌then◌
  cut_name z g =
      let e : name_ends d o ≡ false = ends_by_zero d o u ∙ rw (lt-ltb 0 o (omega arith), le-leb m o g) in
      sym (each_stop _ i _ 45 i h so_far (rw (← eo) (simp e)))

  module _ (g : ((o ≡ 0 → ⊥) × (o < m)) ⊎ (o ≡ 0)) where
    ends : name_ends d (name_offset_of d i) ≡ true
    ends = rw (← eo) (go g)
      where
        go : ((o ≡ 0 → ⊥) × (o < m)) ⊎ (o ≡ 0) → name_ends d o ≡ true
        go (inl (f, k)) = ends_by_zero d o u ∙ rw (lt-ltb 0 o (omega arith), lt-leb m o k)
        go (inr z) = ends_unnamed d z

    good_is : name_good d (name_offset_of d i) ≡ not (eqb i ill)
    good_is = q.told i h l ends

    pub ill_name : i ≡ ill → Refused 52 i ≡ each (name_judged d) (count_of d)
    unfolding name_judged check ◌then◌
    ill_name z = sym (each_stop _ i _ 52 i h so_far (simp (ends, good_is, eq-eqb i ill z)))

    pub good_name : (i ≡ ill → ⊥) → each (name_judged d) (i + 1) ≡ Accepted
    unfolding name_judged check ◌then◌
    good_name z = rw (add-one i) (each_next _ i so_far (simp (ends, good_is, ne_eqb i ill z)))

-- ---- the name of element i by itself, whose offset is o
module _ (d : List ℕ) (i : ℕ) {o : ℕ} (eo : o ≡ name_offset_of d i) where
  pub unnamed : o ≡ 0 → Accepted ≡ name_judged d i
  unfolding name_judged check ◌then◌
  unnamed z = rw (← eo) (simp (ends_unnamed d z, good_unnamed d z))

  module _ (f : o ≡ 0 → ⊥) where
    pub named_good : string_good d o ≡ true → Accepted ≡ name_judged d i
    unfolding name_judged check ◌then◌
    named_good g = rw (← eo) (simp (ends_named d f, (good_parts d o g).0, good_named d f, g))

    -- n is the name's length
    module _ {n : ℕ} (en : n ≡ length (string_at d o)) where
      pub named_cut : length d ≤ o + n → Refused 45 i ≡ name_judged d i
      unfolding name_judged check ◌then◌
      named_cut l = rw (← eo) (simp (ends_named d f, ends_length d o, ← en, le-ltb (o + n) (length d) l))

      pub named_ill : o + n < length d → string_good d o ≡ false → Refused 52 i ≡ name_judged d i
      unfolding name_judged check ◌then◌
      named_ill l g = rw (← eo) (simp (ends_named d f, ends_length d o, ← en, lt-ltb (o + n) (length d) l, good_named d f, g))

-- a name that is accepted is good
pub judged_good : (d : List ℕ) (i : ℕ) → name_judged d i ≡ Accepted → name_good d (name_offset_of d i) ≡ true
unfolding name_judged
judged_good d i a = check_accepted _ 52 i (check_then _ 45 i _ a).1

-- ---- what an accepted signature tells
module _ (d : List ℕ) (a : signature_judged d ≡ Accepted) where
  told : (8 ≤ length d) × (start_of d (count_of d) ≤ length d) × (each (name_judged d) (count_of d) ≡ Accepted)
  unfolding signature_judged
  told =
      let (c43, v) = check_then _ _ _ _ a in
      let (c44, w) = check_then _ _ _ _ v in
      (leb-true 8 (length d) c43, leb-true _ _ c44, w)

  pub element_inside_lem : (i : ℕ) → i < count_of d → start_of d i + 32 ≤ length d
  element_inside_lem i h = omega (arith, told.1)

  pub name_accepted : (i : ℕ) → i < count_of d → name_judged d i ≡ Accepted
  name_accepted i h = each_accepted _ _ i told.2 h

-- ---- element i of a signature that was read: n is its count
module _ (d : List ℕ) (i : ℕ) {n : ℕ} (a : signature_judged d ≡ Accepted) (en : n ≡ count_of d) where
  pub none_there : n ≤ i → Refused 26 0 ≡ element_judged d i
  unfolding element_judged check ◌then◌
  none_there h = rw (a, le-ltb i (count_of d) (rw en at h))

  pub one_there : i < n → Accepted ≡ element_judged d i
  unfolding element_judged check ◌then◌
  one_there h = rw (a, lt-ltb i (count_of d) (rw en at h))

  pub there_inside : i < n → start_of d i + 32 ≤ length d
  there_inside h = element_inside_lem d a i (rw en at h)

  pub there_good : i < n → name_good d (name_offset_of d i) ≡ true
  there_good h = judged_good d i (name_accepted d a i (rw en at h))

-- ---- a name tells its offset o
pub set_offset : (d : List ℕ) (o : ℕ) {x : NameSpan} → name_of d o ≡ Some x
    → (o ≡ 0 → ⊥) × (o ≡ x.start) × (x.len ≡ length (string_at d o)) × (x.points ≡ code_points (string_at d o))
unfolding name_of
set_offset d o {x} = go (eqb o 0) refl
  where
    go : (t : Bool) → eqb o 0 ≡ t → choose t None (Some (record { start = o; len = length (string_at d o); points = code_points (string_at d o) })) ≡ Some x
        → (o ≡ 0 → ⊥) × (o ≡ x.start) × (x.len ≡ length (string_at d o)) × (x.points ≡ code_points (string_at d o))
    go true q e = absurd (let z : ◌≡◌ {A = ℕ} 0 1 = cc in omega arith)
    go false q e = (eqb-false o 0 q, cc, cc, cc)

-- ---- element i by itself: n is the count, f the first element's offset
module _ (d : List ℕ) (i : ℕ) where
  pub alone_43 : length d < 8 → Refused 43 0 ≡ alone_judged d i
  unfolding alone_judged check ◌then◌
  alone_43 h = simp (lt-leb _ _ h)

  module _ (l : 8 ≤ length d) {n : ℕ} (en : n ≡ count_of d) where
    pub alone_26 : n ≤ i → Refused 26 0 ≡ alone_judged d i
    unfolding alone_judged check ◌then◌
    alone_26 h = simp (le-leb _ _ l, le-ltb i (count_of d) (rw en at h))

    module _ (h : i < n) {f : ℕ} (ef : f ≡ first_of d) where
      pub alone_44 : length d < f + 32 * i + 32 → Refused 44 0 ≡ alone_judged d i
      unfolding alone_judged check ◌then◌
      alone_44 g = simp (le-leb _ _ l, lt-ltb i (count_of d) (rw en at h), lt-leb _ _ (rw ef at g))

      -- the rest is what its name is judged
      pub alone_name : f + 32 * i + 32 ≤ length d → name_judged d i ≡ alone_judged d i
      unfolding alone_judged check ◌then◌
      alone_name g = simp (le-leb _ _ l, lt-ltb i (count_of d) (rw en at h), le-leb _ _ (rw ef at g))

-- ---- "answers as the whole reader does wherever that accepts"
module _ (d : List ℕ) (i : ℕ) (a : signature_judged d ≡ Accepted) where
  verdicts_agree : alone_judged d i ≡ element_judged d i
  unfolding alone_judged element_judged check ◌then◌
  verdicts_agree = go (ltb i (count_of d)) refl
    where
      go : (t : Bool) → ltb i (count_of d) ≡ t → alone_judged d i ≡ element_judged d i
      go true q =
          let h : i < count_of d = ltb-true i (count_of d) q in
          simp (a, q, le-leb _ _ (told d a).0, le-leb _ _ (element_inside_lem d a i h), name_accepted d a i h)
      go false q = simp (a, q, le-leb _ _ (told d a).0)

  pub alone_agrees : alone_of d i ≡ element_of d i
  unfolding alone_of element_of
  alone_agrees = rw verdicts_agree

-- ---- the name of an element that is accepted lies inside, its zero byte too, is well formed and is the string at its offset; its number of code
-- points is that of its bytes
module _ (d : List ℕ) (i : ℕ) {x : NameSpan} (a : name_judged d i ≡ Accepted) (e : name_of d (name_offset_of d i) ≡ Some x) where
  pub name_shown : (x.start + x.len < length d) × (take x.len (drop x.start d) ≡ string_at d x.start)
  name_shown =
      let (f, es, en, ec) = set_offset d (name_offset_of d i) e in
      let g : string_ends d (name_offset_of d i) ≡ true = (good_parts d (name_offset_of d i) (sym (good_named d f) ∙ judged_good d i a)).0 in
      let l : name_offset_of d i + length (string_at d (name_offset_of d i)) < length d = ltb-true _ _ (sym (ends_length d (name_offset_of d i)) ∙ g) in
      let (k, q) = string_is d (name_offset_of d i) x.len en (omega arith) in
      (omega arith, rw es at (sym q))

  pub name_points : (well_formed (take x.len (drop x.start d)) ≡ true) × (x.points ≡ code_points (take x.len (drop x.start d)))
  name_points =
      let (f, es, en, ec) = set_offset d (name_offset_of d i) e in
      let w = (good_parts d (name_offset_of d i) (sym (good_named d f) ∙ judged_good d i a)).1 in
      rw name_shown.1 (rw es at w, rw es at ec)

pub name_inside : (d : List ℕ) (i : ℕ) {a : SignatureAnswer} {x : NameSpan} → element_of d i ≡ Ok a → a.name ≡ Some x → x.start + x.len < length d
unfolding element_of element_judged
name_inside d i {a} {x} w e =
    let v = accepted_by _ _ refl w in
    let (j, c) = then_accepted _ _ v in
    let z : a ≡ element_shown d i = value_by _ _ refl w in
    (name_shown d i (name_accepted d j i (ltb-true i (count_of d) (check_accepted _ 26 0 c))) (rw z at e)).0

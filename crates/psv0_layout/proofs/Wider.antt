-- Wider records and sections: they are whole where the narrow ones are, and a reading sees the same of both.
-- Assumes nothing.
use Prim.Native.Nat.{ℕ, zero, suc, ◌+◌, ◌*◌, ◌%◌, ◌≤◌, ◌<◌}
use mathlib.Core.Path.{◌≡◌, refl, sym, ◌∙◌, subst}
use mathlib.Core.Bool.{Bool, true, false, ◌&&◌}
use mathlib.Core.List.{List, [], ◌++◌}
use native.Mathlib.Omega.{arith}
use native.Mathlib.Nat.{suc-mul, zero-mul}
use lib.Dec.{leb}
use lib.ListN.{length, take, drop, length-append}
use lib.Seq.{take-append-le, drop_at, drop-drop}
use borrow.Author.Tests.{le-leb, lt-leb, leb-true, leb-false}
use Rattle.constants.specs.Edition.{size_of}
use Rattle.wire.specs.Choice.{choose}
use Rattle.wire.proofs.Numbers.{le32_length}
use Rattle.psv0_layout.specs.Laid.{rows_laid, records_laid, head_laid, body_laid}
use Rattle.psv0_layout.specs.Layout.{Records, Sections, rows, resource_width}
use Rattle.psv0_layout.specs.Widened.{WiderRows, done, row, WiderRecords, WiderHead, WiderBody}
use Rattle.psv0_layout.proofs.Layouts.{WholeRecords, none, some, WholeHead, WholeBody}
use Rattle.psv0_layout.proofs.Wholes.{count_small, width_fits}

-- ---- rows of s bytes, each with m bytes more
rows_wider : {s m n : ℕ} {a b : List ℕ} (w : ℕ) → w ≤ s → WiderRows s m n a b → rows w n (s + m) b ≡ rows w n s a
unfolding rows
rows_wider w h done = refl
rows_wider {s} {m} w h (row {n} {a} {b} r x p q k) =
    let e1 : take w (r ++ (x ++ b)) ≡ take w (r ++ a) =
    take-append-le w r (x ++ b) (omega arith) ∙ sym (take-append-le w r a (omega arith)) in
    let e2 : drop (s + m) (r ++ (x ++ b)) ≡ b =
    sym (drop-drop m s (r ++ (x ++ b))) ∙ rw (drop_at r (x ++ b) s p) (drop_at x b m q) in
    let e3 : drop s (r ++ a) ≡ a = drop_at r a s p in
    rw (e1, e2, e3, rows_wider w h k)

length_wider : {s m n : ℕ} {a b : List ℕ} → WiderRows s m n a b → length b ≡ n * (s + m)
length_wider done = sym (zero-mul _)
length_wider {s} {m} (row {n} {a} {b} r x p q k) = simp (length-append, p, q, length_wider k, suc-mul) (omega arith)

none_wider : {s m n : ℕ} {a b : List ℕ} → WiderRows s m n a b → n ≡ 0 → b ≡ []
none_wider done e = refl
none_wider (row r x p q k) e = absurd (omega arith)

-- ---- wider records of whole ones are whole
whole_wider : {t t' : Records} → WholeRecords t → WiderRecords t t' → length t'.bytes ≤ 16777216 → WholeRecords t'
whole_wider {t' = t'} none w h =
    let e1 : t'.stride ≡ 0 = w.stride ∙ simp (w.empty refl) in
    let e2 : t'.bytes ≡ [] = none_wider w.rows refl in
    let e : record { count = 0; stride = 0; bytes = [] } ≡ t' =
    λ i. record { count = sym w.count i; stride = sym e1 i; bytes = sym e2 i } in
    subst WholeRecords e none
whole_wider {t' = t'} (some n s b four least small e) w h =
    let l : length t'.bytes ≡ suc n * (s + w.more) = length_wider w.rows in
    let l2 = simp suc-mul at l in
    let four' : (s + w.more) % 4 ≡ 0 = omega (arith, w.whole) in
    let q : record { count = suc n; stride = s + w.more; bytes = t'.bytes } ≡ t' =
    λ i. record { count = sym w.count i; stride = sym w.stride i; bytes = t'.bytes } in
    subst WholeRecords q (some n (s + w.more) t'.bytes four' (omega arith) (omega arith) l)

-- ---- what is laid out is no shorter than its parts
rows_laid_short : (n s : ℕ) (b l : List ℕ) → (n ≡ 0 → b ≡ []) → length b + length l ≤ length (rows_laid n s b l)
unfolding rows_laid
rows_laid_short zero s b l h = rw (h refl) (omega arith)
rows_laid_short (suc n) s b l h = simp (length-append, le32_length) (omega arith)

records_laid_short : {t t' : Records} (l : List ℕ) → WiderRecords t t' → length t'.bytes + length l ≤ length (records_laid t' l)
unfolding records_laid
records_laid_short {t} {t'} l w =
    rows_laid_short t'.count t'.stride t'.bytes l (λ z. none_wider w.rows (sym w.count ∙ z))

-- ---- wider sections of whole ones are whole
module _ (k : ℕ) (s s' : Sections) (l : List ℕ) (w : WiderHead k s s') where
  pub rest_short : length l ≤ length (head_laid s' l)
  unfolding head_laid
  rest_short = simp (length-append, le32_length) (omega (arith, records_laid_short l w.resources))

  pub head_wider : WholeHead s → length (head_laid s' l) ≤ 16777216 → WholeHead s'
  unfolding head_laid
  head_wider h b =
      let b' = simp (length-append, le32_length) at b in
      let r = records_laid_short l w.resources in
      let e : length s'.runtime ≡ length s.runtime + length w.extra =
      rw w.runtime (length-append s.runtime w.extra) in
      let t = whole_wider h.resources w.resources (omega arith) in
      record {
        four = omega (arith, h.four, w.whole);
        least = omega (arith, h.least);
        small = omega arith;
        resources = t;
        few = count_small t (omega arith);
      }

pub body_wider : (s s' : Sections) (x l : List ℕ) → WholeBody s → WiderBody s s'
    → size_of 1 ≤ length s.runtime → s'.runtime ≡ s.runtime ++ x → length (body_laid s' l) ≤ 16777216 → WholeBody s'
unfolding body_laid
body_wider s s' x l h w long er b =
    let b' = simp (length-append, le32_length) at b in
    let r = records_laid_short (s'.masks ++ l) w.elements in
    let e : take (size_of 1) s'.runtime ≡ take (size_of 1) s.runtime = rw er (take-append-le (size_of 1) s.runtime x long) in
    record {
      strings4 = rw w.strings h.strings4;
      strings_small = rw w.strings h.strings_small;
      indices4 = rw w.indices h.indices4;
      indices_small = rw w.indices h.indices_small;
      elements = whole_wider h.elements w.elements (omega arith);
      counts = w.elements.count ∙ rw e h.counts;
      masks = rw (w.masks, e) h.masks;
    }

-- ---- of each record the same bytes are looked at; of a resource record as many as before
width_wider : (k e s m : ℕ) → e ≤ k → (2 ≤ k → s < 24 → m ≡ 0) → resource_width e (s + m) ≡ resource_width e s
width_wider k e s m h allowed = go (leb 2 e) (leb 24 s) (leb-true 2 e) refl
  where
    go : (a b : Bool) → (a ≡ true → 2 ≤ e) → leb 24 s ≡ b → choose {A = ℕ} (a && leb 24 (s + m)) 24 16 ≡ choose (a && b) 24 16
    go false b f q = refl
    go true true f q = simp (le-leb 24 (s + m) (omega (arith, leb-true 24 s q)))
    go true false f q =
        let short = leb-false 24 s q in
        let z : m ≡ 0 = allowed (omega (arith, f refl)) short in
        simp (lt-leb 24 (s + m) (omega arith))

pub resources_seen : (k e : ℕ) {t t' : Records} → e ≤ k → WholeRecords t → (w : WiderRecords t t')
    → (2 ≤ k → t.stride < 24 → w.more ≡ 0)
    → rows (resource_width e t'.stride) t'.count t'.stride t'.bytes
    ≡ rows (resource_width e t.stride) t.count t.stride t.bytes
resources_seen k e h none w a = rw w.count (unfold rows in refl)
resources_seen k e h (some n s b four least small q) w a =
    rw (w.count, w.stride, width_wider k e s w.more h a) (rows_wider (resource_width e s) (width_fits e s least) w.rows)

pub elements_seen : {t t' : Records} → WholeRecords t → WiderRecords t t'
    → rows 16 t'.count t'.stride t'.bytes ≡ rows 16 t.count t.stride t.bytes
elements_seen none w = rw w.count (unfold rows in refl)
elements_seen (some n s b four least small q) w = rw (w.count, w.stride) (rows_wider 16 least w.rows)

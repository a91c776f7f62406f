-- What stands at each place of bytes that are laid stretch after stretch, and of the offsets among them.
-- Assumes nothing.
use Prim.Native.Nat.{ℕ, zero, suc, ◌+◌, ◌*◌, ◌<◌}
use mathlib.Core.Path.{◌≡◌, refl, sym, ◌∙◌, ap}
use mathlib.Core.List.{List, ◌++◌, append_assoc, append-nil}
use native.Mathlib.Nat.{add-zero}
use native.Mathlib.Omega.{arith}
use lib.ListN.{length, take, drop, length-append}
use lib.Seq.{take_at, drop_at, drop-drop}
use Rattle.wire.specs.Number.{u16_at, u32_at, le16, le32}
use Rattle.wire.proofs.Numbers.{le32_length, u32_le32, u16_le16, u32_drop, u16_drop}
use Rattle.part_table_layout.specs.Table.{offset_bytes}

-- ---- a list p ++ r from the place n of b on
module _ (b : List ℕ) (n : ℕ) (p r : List ℕ) (h : drop n b ≡ p ++ r) where
  pub rest_at : (m : ℕ) → length p ≡ m → drop (n + m) b ≡ r
  rest_at m e = sym (drop-drop m n b) ∙ rw h (drop_at p r m e)

  pub part_at : (m : ℕ) → length p ≡ m → take m (drop n b) ≡ p
  part_at m e = rw h (take_at p r m e)

module _ (b : List ℕ) (n x : ℕ) (r : List ℕ) where
  pub word_at : drop n b ≡ le32 x ++ r → x < 4294967296 → u32_at b n ≡ x
  word_at h l =
      let e : u32_at (drop n b) 0 ≡ u32_at b n = u32_drop n b 0 ∙ rw add-zero in
      sym e ∙ rw h (u32_le32 x r l)

  pub half_at : drop n b ≡ le16 x ++ r → x < 65536 → u16_at b n ≡ x
  half_at h l =
      let e : u16_at (drop n b) 0 ≡ u16_at b n = u16_drop n b 0 ∙ rw add-zero in
      sym e ∙ rw h (u16_le16 x r l)

-- ---- offsets
module _ (f : ℕ → ℕ) where
  pub offsets_length : (k m : ℕ) → length (offset_bytes f k m) ≡ 4 * m
  unfolding offset_bytes
  offsets_length k zero = refl
  offsets_length k (suc m) = simp (length-append, le32_length, offsets_length (suc k) m) (omega arith)

  -- one more at the end
  pub offsets_grow : (k m : ℕ) → offset_bytes f k (suc m) ≡ offset_bytes f k m ++ le32 (f (k + m))
  unfolding offset_bytes
  offsets_grow k zero = let e : k + 0 ≡ k = omega arith in rw (e, append-nil)
  offsets_grow k (suc m) =
      let e : k + suc m ≡ suc k + m = omega arith in
      rw (e, append_assoc) (ap (λ (l : List ℕ). le32 (f k) ++ l) (offsets_grow (suc k) m))

  -- the j-th
  pub offset_in : (k m j : ℕ) (rest : List ℕ) → j < m → f (k + j) < 4294967296 → u32_at (offset_bytes f k m ++ rest) (4 * j) ≡ f (k + j)
  unfolding offset_bytes
  offset_in k zero j rest h l = absurd (omega arith)
  offset_in k (suc m) zero rest h l =
      let e : k + 0 ≡ k = omega arith in
      rw e (rw append_assoc (u32_le32 (f k) _ (rw e at l)))
  offset_in k (suc m) (suc j) rest h l =
      let e : k + suc j ≡ suc k + j = omega arith in
      let g : 4 * suc j ≡ 4 + 4 * j = omega arith in
      let d = drop_at (le32 (f k)) (offset_bytes f (suc k) m ++ rest) 4 (le32_length (f k)) in
      let s = offset_in (suc k) m j rest (omega arith) (rw e at l) in
      let t = u32_drop 4 (le32 (f k) ++ (offset_bytes f (suc k) m ++ rest)) (4 * j) in
      rw (e, g, append_assoc) (sym t ∙ rw d s)

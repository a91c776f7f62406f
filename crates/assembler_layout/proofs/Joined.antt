-- The names and the data given are those of the parts, end to end.
-- Assumes nothing.
use Prim.Native.Nat.{ℕ, zero, suc, ◌+◌, ◌*◌, ◌≤◌, ◌<◌}
use mathlib.Core.Path.{◌≡◌, refl, sym, ◌∙◌, ap, ap₂}
use mathlib.Core.List.{List, [], ◌++◌}
use native.Mathlib.Omega.{arith}
use lib.ListN.{take}
use lib.Seq.{take-add, take_all, take-length}
use Rattle.assembler_layout.specs.Assembled.{Parts, total, part_count, size_given, name_bytes, data_given}
use Rattle.assembler_layout.proofs.Lengths.{Right, total_more}

-- f 0, f 1, .. below n, end to end
unfoldable pub joined : (ℕ → List ℕ) → ℕ → List ℕ
joined f zero = []
joined f (suc n) = joined f n ++ f n

pub joined_agree : (f h : ℕ → List ℕ) (n : ℕ) → ((k : ℕ) → k < n → f k ≡ h k) → joined f n ≡ joined h n
unfolding joined
joined_agree f h zero e = refl
joined_agree f h (suc n) e = ap₂ ◌++◌ (joined_agree f h n (λ k l. e k (omega arith))) (e n (omega arith))

module _ (g : Parts) where
  data_to : (k : ℕ) → k ≤ part_count g → joined (data_given g) k ≡ take (total (take k g.sizes)) g.bytes
  unfolding joined data_given total
  data_to zero h = refl
  data_to (suc k) h =
      rw (total_more g.sizes k h) (ap (λ (l : List ℕ). l ++ data_given g k) (data_to k (omega arith)) ∙ sym (take-add (total (take k g.sizes)) (size_given g k) g.bytes))

  names_to : (k : ℕ) → joined (name_bytes g) k ≡ take (4 * k) g.names
  unfolding joined name_bytes
  names_to zero = refl
  names_to (suc k) =
      let e : 4 * suc k ≡ 4 * k + 4 = omega arith in
      rw e (ap (λ (l : List ℕ). l ++ name_bytes g k) (names_to k) ∙ sym (take-add (4 * k) 4 g.names))

  module _ (r : Right g) where
    pub data_joined : joined (data_given g) (part_count g) ≡ g.bytes
    data_joined =
        let s = r.summed in
        data_to (part_count g) (omega arith) ∙ rw take-length (take_all (total g.sizes) g.bytes (omega arith))

    pub names_joined : joined (name_bytes g) (part_count g) ≡ g.names
    names_joined = let n = r.named in names_to (part_count g) ∙ take_all (4 * part_count g) g.names (omega arith)

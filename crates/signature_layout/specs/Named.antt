-- The names of the elements as the reader's code has them: from where on they lie, and which of them that end are well formed.
use Rattle.std.specs.Prelude.{◌≡◌, true, not, List, ℕ, ◌≤◌, ◌<◌, eqb}
use Rattle.signature_layout.specs.Signature.{count_of, name_offset_of, name_ends, name_good}

-- the names of the first n elements lie at m or later
abbrev pub NamesFrom : List ℕ → ℕ → ℕ → Type 0
NamesFrom d m n = (i : ℕ) → i < n → (name_offset_of d i ≡ 0 → ⊥) → m ≤ name_offset_of d i

-- up to the element numbered ill, each name that ends is good exactly when it isn't that element's
pub record NamesDecided (d : List ℕ) (ill : ℕ) : Type 0 where
  pub told : (i : ℕ) → i < count_of d → i ≤ ill → name_ends d (name_offset_of d i) ≡ true → name_good d (name_offset_of d i) ≡ not (eqb i ill)

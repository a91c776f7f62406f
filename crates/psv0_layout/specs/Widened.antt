-- Widening of PSV0 data (document 01's term), for reader k.
use Rattle.std.specs.Prelude.{◌≡◌, List, [], ◌++◌, ℕ, suc, ◌+◌, ◌%◌, ◌≤◌, ◌<◌, length}
use Rattle.psv0_layout.specs.Laid.{head_laid, body_laid}
use Rattle.psv0_layout.specs.Layout.{Sections, Records, sections}

-- n records of s bytes, each with m bytes more at its end
pub data WiderRows (s m : ℕ) : ℕ → List ℕ → List ℕ → Type 0 where
  done : WiderRows s m 0 [] []
  row : {n : ℕ} {a b : List ℕ} (r x : List ℕ) → length r ≡ s → length x ≡ m → WiderRows s m n a b → WiderRows s m (suc n) (r ++ a) (r ++ (x ++ b))

-- "equally many bytes, a multiple of 4, added at the end of every .. record"; "Size fields follow"
pub record WiderRecords (t t' : Records) : Type 0 where
  pub more : ℕ
  pub whole : more % 4 ≡ 0
  pub empty : t.count ≡ 0 → more ≡ 0
  pub count : t'.count ≡ t.count
  pub stride : t'.stride ≡ t.stride + more
  pub rows : WiderRows t.stride more t.count t.bytes t'.bytes

-- "bytes added at the end of the runtime record (S still a multiple of 4)"; resource records "if its size was already 24 or more or
-- k < 2"
pub record WiderHead (k : ℕ) (s s' : Sections) : Type 0 where
  pub extra : List ℕ
  pub runtime : s'.runtime ≡ s.runtime ++ extra
  pub whole : length extra % 4 ≡ 0
  pub resources : WiderRecords s.resources s'.resources
  pub allowed : 2 ≤ k → s.resources.stride < 24 → resources.more ≡ 0

-- "the same for elements, if k > 0"; the other sections as they were
pub record WiderBody (s s' : Sections) : Type 0 where
  pub strings : s'.strings ≡ s.strings
  pub indices : s'.indices ≡ s.indices
  pub elements : WiderRecords s.elements s'.elements
  pub masks : s'.masks ≡ s.masks

-- d' is a widening of d for reader k: wider sections, and "any bytes in place of those after the last section reader k reads"
pub record Widening (k : ℕ) (d d' : List ℕ) : Type 0 where
  pub new : Sections
  pub rest : List ℕ
  pub laid : d' ≡ head_laid new rest
  pub head : WiderHead k (sections d) new
  pub tail : 1 ≤ k → (t : List ℕ) × (rest ≡ body_laid new t) × WiderBody (sections d) new

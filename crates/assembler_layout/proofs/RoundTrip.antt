-- "an assembled container [reads back] by the table reader": the reader accepts what was assembled, and shows the parts
-- that were given, in their order, each where it should start; the digest is carried.
-- Assumes nothing.
use Rattle.std.specs.Prelude.{Some}
use Prim.Native.Nat.{ℕ, ◌-◌, ◌%◌, ◌≤◌, ◌<◌}
use mathlib.Core.Path.{◌≡◌, sym, ◌∙◌}
use mathlib.Core.List.{List}
use native.Mathlib.Omega.{arith}
use lib.ListN.{length, take, drop, replicate}
use Rattle.wire.specs.Verdict.{Accepted}
use Rattle.wire.proofs.Sums.{count_agree}
use Rattle.part_table_layout.specs.Lookup.{find_occurrence, occurrence_data}
use Rattle.part_table_layout.specs.Table.{priv, borne, occurrence_at, count_of, offset_at, name_at, size_at, data_at, earliest, table_judged}
use Rattle.part_table_layout.proofs.Accepted.{accepted_is}
use Rattle.part_table_layout.proofs.Lookups.{found_by_occurrence, data_shown}
use Rattle.assembler_layout.specs.Assembled.{Parts, part_count, size_given, name_given, name_bytes, data_given, end_before, start_of, file_length, assembled, assembly_judged}
use Rattle.assembler_layout.proofs.Joined.{joined, joined_agree, data_joined, names_joined}
use Rattle.assembler_layout.proofs.Lengths.{Sound, accepted_told, rounded, earliest_multiple}
use Rattle.assembler_layout.proofs.Places.{digest_read, name_bytes_read, data_read, filler_read}
use Rattle.assembler_layout.proofs.Reading.{long_is, count_is, offset_is, name_is, size_is, earliest_is, sound_is}

-- what the table reader shows of part k
pub record PartReads (g : Parts) (b : List ℕ) (k : ℕ) : Type 0 where
  pub name : name_at b k ≡ name_given g k
  pub bytes_of_name : take 4 (drop (offset_at b k) b) ≡ name_bytes g k
  pub offset : offset_at b k ≡ start_of g k
  pub size : size_at b k ≡ size_given g k
  pub content : data_at b k ≡ data_given g k
  -- "Parts start at multiples of 4, as early as possible"
  pub multiple : offset_at b k % 4 ≡ 0
  pub early : (s : ℕ) → earliest b k ≤ s → s % 4 ≡ 0 → offset_at b k ≤ s
  -- the part is found again by its name and its occurrence among the names that were given
  pub occurrence : occurrence_at (name_at b) k ≡ occurrence_at (name_given g) k
  pub found : find_occurrence b (name_given g k) (occurrence_at (name_given g) k) ≡ Some k
  pub found_data : occurrence_data b (name_given g k) (occurrence_at (name_given g) k) ≡ data_given g k
  -- "filler is zero"
  pub filler : take (offset_at b k - earliest b k) (drop (earliest b k) b) ≡ replicate (offset_at b k - earliest b k) 0

pub record ReadsBack (g : Parts) (b : List ℕ) : Type 0 where
  pub accepted : table_judged b ≡ Accepted
  pub long : length b ≡ file_length g
  pub count : count_of b ≡ part_count g
  pub part : (k : ℕ) → k < part_count g → PartReads g b k
  pub digest : take 16 (drop 4 b) ≡ g.digest
  -- all that was given is there
  pub names : joined (λ k. take 4 (drop (offset_at b k) b)) (count_of b) ≡ g.names
  pub contents : joined (data_at b) (count_of b) ≡ g.bytes
  -- "The file ends with the last part's data": there is nothing after the last part
  pub last : earliest b (count_of b) ≡ length b

occurrence_is : (g : Parts) → Sound g → (k : ℕ) → k < part_count g → occurrence_at (name_at (assembled g)) k ≡ occurrence_at (name_given g) k
occurrence_is g s k h = rw (name_is g s k h) (count_agree _ _ k (λ j l. let e = name_is g s j (omega arith) in rw e))

part_reads : (g : Parts) → Sound g → (k : ℕ) → k < part_count g → PartReads g (assembled g) k
unfolding data_at
part_reads g s k h =
    let o = offset_is g s k h in
    let z = size_is g s k h in
    let e = earliest_is g s k (omega arith) in
    let t = accepted_is (assembled g) (sound_is g s) in
    let l : k < count_of (assembled g) = rw (count_is g s) h in
    let c : data_at (assembled g) k ≡ data_given g k = rw (z, o) (data_read g s.right k h) in
    record {
      name = name_is g s k h;
      bytes_of_name = rw o (name_bytes_read g s.right k h);
      offset = o;
      size = z;
      content = c;
      multiple = rw o (rounded (end_before g k));
      early = λ t l. rw o (earliest_multiple (end_before g k) t (rw e at l));
      occurrence = occurrence_is g s k h;
      found = rw (← occurrence_is g s k h, ← name_is g s k h) (found_by_occurrence (assembled g) k l);
      found_data = rw (← occurrence_is g s k h, ← name_is g s k h) (data_shown (assembled g) t k l) ∙ c;
      filler = rw (o, e) (filler_read g s.right k h);
    }

pub round_trip : (g : Parts) (room : ℕ) → assembly_judged g room ≡ Accepted → ReadsBack g (assembled g)
round_trip g room h =
    let s = (accepted_told g room h).0 in
    let c = count_is g s in
    record {
      accepted = accepted_is (assembled g) (sound_is g s);
      long = long_is g s;
      count = c;
      part = part_reads g s;
      digest = digest_read g s.right;
      names = rw c (joined_agree _ _ (part_count g) (λ k l. (part_reads g s k l).bytes_of_name) ∙ names_joined g s.right);
      contents = rw c (joined_agree _ _ (part_count g) (λ k l. (part_reads g s k l).content) ∙ data_joined g s.right);
      last = rw c (earliest_is g s (part_count g) (omega arith)) ∙ sym (long_is g s);
    }

-- Document 02, Ask 8: of several PRIV parts each is found again by how many of them were given before it, with its own data
pub private_found : (g : Parts) (room : ℕ) → assembly_judged g room ≡ Accepted → (k : ℕ) → k < part_count g → name_given g k ≡ priv
    → (find_occurrence (assembled g) priv (borne (name_given g) priv k) ≡ Some k) × (occurrence_data (assembled g) priv (borne (name_given g) priv k) ≡ data_given g k)
private_found g room h k l e =
    let p = (round_trip g room h).part k l in
    (rw e at p.found, rw e at p.found_data)

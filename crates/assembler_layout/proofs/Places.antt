-- What stands at each place of an assembled container.
-- Assumes nothing.
use Prim.Native.Nat.{ℕ, zero, suc, ◌+◌, ◌-◌, ◌*◌, ◌≤◌, ◌<◌}
use mathlib.Core.Path.{◌≡◌, refl, sym, ◌∙◌, ap}
use mathlib.Core.List.{List, ◌++◌, append_assoc, append-nil}
use native.Mathlib.Nat.{add-zero}
use native.Mathlib.Numerals.{add-one}
use native.Mathlib.Omega.{arith}
use lib.ListN.{length, take, drop, replicate, length-append, length-replicate}
use lib.Seq.{drop_at}
use Rattle.wire.specs.Number.{u16_at, u32_at, le16, le32}
use Rattle.wire.proofs.Numbers.{le16_length, le32_length, u32_front, u32_take, u32_drop}
use Rattle.part_table_layout.specs.Table.{magic}
use Rattle.part_table_layout.proofs.Laid.{rest_at, part_at, word_at, half_at, offsets_length, offsets_grow, offset_in}
use Rattle.assembler_layout.specs.Assembled.{Parts, part_count, size_given, name_given, name_bytes, data_given, end_before, start_of, file_length, offsets_from, part_bytes, parts_from, assembled}
use Rattle.assembler_layout.proofs.Lengths.{Right, start_after, ends_grow, end_of_table, name_length, data_length, parts_length}

regroup : (a b c d e f o p q : List ℕ)
    → a ++ (b ++ (c ++ (d ++ (e ++ (f ++ (o ++ (p ++ q))))))) ≡ ((a ++ (b ++ (c ++ (d ++ (e ++ f))))) ++ (o ++ p)) ++ q
regroup a b c d e f o p q = simp append_assoc

module _ (g : Parts) where
  -- the header, 32 bytes
  unfoldable pub header_of : List ℕ
  header_of = magic ++ (g.digest ++ (le16 1 ++ (le16 0 ++ (le32 (file_length g) ++ le32 (part_count g)))))

  -- what stands before part k and the filler before it
  unfoldable pub front_to : ℕ → List ℕ
  front_to k = header_of ++ (offsets_from g 0 (part_count g) ++ parts_from g 0 k)

  pub parts_split : (k j m : ℕ) → parts_from g k (j + m) ≡ parts_from g k j ++ parts_from g (k + j) m
  unfolding parts_from
  parts_split k zero m = let e : k + 0 ≡ k = omega arith in let f : 0 + m ≡ m = omega arith in rw (e, f)
  parts_split k (suc j) m =
      let e : k + suc j ≡ suc k + j = omega arith in
      let f : suc j + m ≡ suc (j + m) = omega arith in
      rw (e, f) (rw append_assoc (ap (λ (l : List ℕ). part_bytes g k ++ l) (parts_split (suc k) j m)))

  pub parts_more : (k : ℕ) → parts_from g 0 (k + 1) ≡ parts_from g 0 k ++ part_bytes g k
  unfolding parts_from
  parts_more k = let e : 0 + k ≡ k = omega arith in parts_split 0 k 1 ∙ rw (e, append-nil)

  pub offsets_more : (k : ℕ) → offsets_from g 0 (k + 1) ≡ offsets_from g 0 k ++ le32 (start_of g k)
  offsets_more k = let e : 0 + k ≡ k = omega arith in rw (add-one k, offsets_grow (start_of g) 0 k, e)

  pub assembled_split : (k m : ℕ) → k + m ≡ part_count g → assembled g ≡ front_to k ++ parts_from g k m
  unfolding assembled front_to header_of
  assembled_split k m h =
      let e = parts_split 0 k m in
      let f : 0 + k ≡ k = omega arith in
      let s : parts_from g 0 (part_count g) ≡ parts_from g 0 k ++ parts_from g k m = rw (← h) (rw (e, f)) in
      rw s (regroup magic g.digest (le16 1) (le16 0) (le32 (file_length g)) (le32 (part_count g)) (offsets_from g 0 (part_count g)) (parts_from g 0 k) (parts_from g k m))

  module _ (r : Right g) where
    pub header_length : length header_of ≡ 32
    unfolding header_of
    header_length = let d = r.digested in simp (length-append, le16_length, le32_length) (omega arith)

    pub front_length : (k : ℕ) → k ≤ part_count g → length (front_to k) ≡ end_before g k
    unfolding front_to
    front_length k h =
        let p : length (parts_from g 0 k) ≡ end_before g (0 + k) - end_before g 0 = parts_length g r 0 k (omega arith) in
        let e : 0 + k ≡ k = omega arith in
        let p2 = rw e at p in
        let l = ends_grow g 0 k (omega arith) in
        let t = end_of_table g in
        simp (length-append, header_length, offsets_length) (omega arith)

    pub assembled_length : length (assembled g) ≡ file_length g
    unfolding parts_from
    assembled_length =
        let e = assembled_split (part_count g) 0 (omega arith) in
        let l = front_length (part_count g) (omega arith) in
        rw e (simp length-append (omega arith))

    -- part k, from the filler before it on; from its name on; from its size on; from its data on
    module _ (k : ℕ) (h : k < part_count g) where
      after : List ℕ
      after = parts_from g (suc k) (part_count g - suc k)

      filler : List ℕ
      filler = replicate (start_of g k - end_before g k) 0

      at_filler : drop (end_before g k) (assembled g) ≡ filler ++ (name_bytes g k ++ (le32 (size_given g k) ++ (data_given g k ++ after)))
      unfolding parts_from part_bytes after filler
      at_filler =
          let e : part_count g - k ≡ suc (part_count g - suc k) = omega arith in
          let s = rw e at (assembled_split k (part_count g - k) (omega arith)) in
          rw s (drop_at (front_to k) _ (end_before g k) (front_length k (omega arith)) ∙ simp append_assoc)

      at_name : drop (start_of g k) (assembled g) ≡ name_bytes g k ++ (le32 (size_given g k) ++ (data_given g k ++ after))
      unfolding filler
      at_name =
          let l = start_after g k in
          let e : end_before g k + (start_of g k - end_before g k) ≡ start_of g k = omega arith in
          rw e at (rest_at (assembled g) (end_before g k) filler _ at_filler (start_of g k - end_before g k) (length-replicate _ 0))

      at_size : drop (start_of g k + 4) (assembled g) ≡ le32 (size_given g k) ++ (data_given g k ++ after)
      at_size = rest_at (assembled g) (start_of g k) (name_bytes g k) _ at_name 4 (name_length g r k h)

      at_data : drop (start_of g k + 8) (assembled g) ≡ data_given g k ++ after
      at_data =
          let e : start_of g k + 4 + 4 ≡ start_of g k + 8 = omega arith in
          rw e at (rest_at (assembled g) (start_of g k + 4) (le32 (size_given g k)) _ at_size 4 (le32_length (size_given g k)))

      pub name_read : u32_at (assembled g) (start_of g k) ≡ name_given g k
      unfolding name_bytes
      name_read =
          let n = r.named in
          let e : u32_at (drop (start_of g k) (assembled g)) 0 ≡ u32_at (assembled g) (start_of g k) = u32_drop (start_of g k) (assembled g) 0 ∙ rw add-zero in
          let f : u32_at (name_bytes g k ++ (le32 (size_given g k) ++ (data_given g k ++ after))) 0 ≡ u32_at (name_bytes g k) 0 =
          u32_front (name_bytes g k) _ 0 (let l = name_length g r k h in omega arith) in
          let t : u32_at (take 4 (drop (4 * k) g.names)) 0 ≡ name_given g k = u32_take 4 _ 0 (omega arith) ∙ u32_drop (4 * k) g.names 0 ∙ rw add-zero in
          sym e ∙ ap (λ (l : List ℕ). u32_at l 0) at_name ∙ f ∙ t

      pub name_bytes_read : take 4 (drop (start_of g k) (assembled g)) ≡ name_bytes g k
      name_bytes_read = part_at (assembled g) (start_of g k) (name_bytes g k) _ at_name 4 (name_length g r k h)

      pub size_read : size_given g k < 4294967296 → u32_at (assembled g) (start_of g k + 4) ≡ size_given g k
      size_read = word_at (assembled g) (start_of g k + 4) (size_given g k) _ at_size

      pub data_read : take (size_given g k) (drop (start_of g k + 8) (assembled g)) ≡ data_given g k
      data_read = part_at (assembled g) (start_of g k + 8) (data_given g k) _ at_data (size_given g k) (data_length g r k h)

      pub filler_read : take (start_of g k - end_before g k) (drop (end_before g k) (assembled g)) ≡ replicate (start_of g k - end_before g k) 0
      unfolding filler
      filler_read = part_at (assembled g) (end_before g k) filler _ at_filler (start_of g k - end_before g k) (length-replicate _ 0)

    -- ---- the header's fields, one after the other
    offsets_parts : List ℕ
    offsets_parts = offsets_from g 0 (part_count g) ++ parts_from g 0 (part_count g)

    at_digest : drop 4 (assembled g) ≡ g.digest ++ (le16 1 ++ (le16 0 ++ (le32 (file_length g) ++ (le32 (part_count g) ++ offsets_parts))))
    unfolding assembled offsets_parts
    at_digest = refl

    at_major : drop 20 (assembled g) ≡ le16 1 ++ (le16 0 ++ (le32 (file_length g) ++ (le32 (part_count g) ++ offsets_parts)))
    at_major = rest_at (assembled g) 4 g.digest _ at_digest 16 r.digested

    at_minor : drop 22 (assembled g) ≡ le16 0 ++ (le32 (file_length g) ++ (le32 (part_count g) ++ offsets_parts))
    at_minor = rest_at (assembled g) 20 (le16 1) _ at_major 2 (le16_length 1)

    at_file_size : drop 24 (assembled g) ≡ le32 (file_length g) ++ (le32 (part_count g) ++ offsets_parts)
    at_file_size = rest_at (assembled g) 22 (le16 0) _ at_minor 2 (le16_length 0)

    at_count : drop 28 (assembled g) ≡ le32 (part_count g) ++ offsets_parts
    at_count = rest_at (assembled g) 24 (le32 (file_length g)) _ at_file_size 4 (le32_length (file_length g))

    at_offsets : drop 32 (assembled g) ≡ offsets_parts
    at_offsets = rest_at (assembled g) 28 (le32 (part_count g)) _ at_count 4 (le32_length (part_count g))

    pub magic_read : u32_at (assembled g) 0 ≡ u32_at magic 0
    unfolding assembled
    magic_read = u32_front magic _ 0 (omega arith)

    pub digest_read : take 16 (drop 4 (assembled g)) ≡ g.digest
    digest_read = part_at (assembled g) 4 g.digest _ at_digest 16 r.digested

    pub major_read : u16_at (assembled g) 20 ≡ 1
    major_read = half_at (assembled g) 20 1 _ at_major (omega arith)

    pub minor_read : u16_at (assembled g) 22 ≡ 0
    minor_read = half_at (assembled g) 22 0 _ at_minor (omega arith)

    pub file_size_read : file_length g < 4294967296 → u32_at (assembled g) 24 ≡ file_length g
    file_size_read = word_at (assembled g) 24 (file_length g) _ at_file_size

    pub count_read : part_count g < 4294967296 → u32_at (assembled g) 28 ≡ part_count g
    count_read = word_at (assembled g) 28 (part_count g) _ at_count

    pub offset_read : (k : ℕ) → k < part_count g → start_of g k < 4294967296 → u32_at (assembled g) (32 + 4 * k) ≡ start_of g k
    unfolding offsets_parts
    offset_read k h l =
        let e : 0 + k ≡ k = omega arith in
        let s = rw e at (offset_in (start_of g) 0 (part_count g) k (parts_from g 0 (part_count g)) h (rw e l)) in
        sym (u32_drop 32 (assembled g) (4 * k)) ∙ rw at_offsets s

-- "For the bytes it was made from, each answer equals the fresh one": of whole containers.
-- Assumes nothing.
use Rattle.std.specs.Prelude.{None, Option, Some}
use Prim.Native.Nat.{ℕ}
use mathlib.Core.Path.{◌≡◌, refl, sym, ◌∙◌}
use mathlib.Core.Bool.{true, true≢false}
use mathlib.Core.List.{List}
use Rattle.wire.specs.Verdict.{Accepted}
use Rattle.part_table_layout.specs.Lookup.{find}
use Rattle.part_table_layout.specs.Table.{data_at, table_judged}
use Rattle.part_table_layout.proofs.Accepted.{part_inside, data_length}
use Rattle.part_table_layout.proofs.Lookups.{find_told}
use Rattle.psv0_layout.specs.Handed.{Section, handed}
use Rattle.psv0_layout.specs.Layout.{edition_read_of}
use Rattle.psv0_layout.specs.Shown.{view, Question, shown, queried}
use Rattle.psv0_layout.specs.Answers.{info_answer_of}
use Rattle.places_layout.specs.Answers.{info_by}
use Rattle.places_layout.specs.Handed.{handed_by}
use Rattle.places_layout.specs.Read.{given, answered_by}
use Rattle.places_layout.proofs.Fresh as fresh
use Rattle.places_layout.proofs.Placing.{PartAt}
use Rattle.container_layout.specs.Container.{psv0, is_there, start_found, data_found, psv_of, container_judged, container_answered}
use Rattle.container_layout.specs.Placed.{container_places}
use Rattle.container_layout.proofs.Containers.{before_told, opened_told, data_opens}

-- the data of a part that was found are the bytes from its place on
found_there : (b : List ℕ) (x : ℕ) → table_judged b ≡ Accepted → (f : Option ℕ) → find b x ≡ f → is_there f ≡ true → PartAt b (data_found b f) (start_found b f)
found_there b x t None e p = absurd (true≢false (sym p))
found_there b x t (Some i) e p =
    let l = (find_told b x i e).listed in
    let n = data_length b t i l in
    let m = part_inside b t i l in
    record { part = rw n (unfold data_at in refl); room = rw n m }

module _ (k : ℕ) (b : List ℕ) (h : container_judged k b ≡ Accepted) where
  pub psv_there : PartAt b (psv_of b) (start_found b (find b psv0))
  unfolding psv_of
  psv_there = let p = before_told k b (opened_told k b h).0 in found_there b psv0 p.table (find b psv0) refl p.validation

  -- the record of an opening that accepts answers every question as a query on the bytes does
  pub answers_fresh : (q : Question) → answered_by (container_places k b) b q ≡ record { verdict = queried (container_judged k b) (container_answered k b q); value = container_answered k b q }
  unfolding container_places container_answered
  answers_fresh q = rw h (fresh.answers_fresh psv_there k (data_opens k b h) q)

  -- and hands out the same bytes of every section
  pub hands_fresh : (t : Section) → handed_by (container_places k b) b t ≡ given (view (handed (edition_read_of k (psv_of b)) (psv_of b) t))
  unfolding container_places
  hands_fresh t = fresh.hands_fresh psv_there k (data_opens k b h) t

  -- so of the runtime info as a whole
  pub info_fresh : info_by (container_places k b) b ≡ info_answer_of (container_judged k b) (container_answered k b)
  unfolding container_places container_answered
  info_fresh = fresh.info_fresh psv_there k (data_opens k b h) ∙ (λ i. info_answer_of (sym h i) (λ q. shows q i))
    where
      shows : (q : Question) → shown k (psv_of b) q ≡ container_answered k b q
      shows q = rw h

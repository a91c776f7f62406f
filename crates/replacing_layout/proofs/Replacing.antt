-- Replacing PSV0, where nothing refuses: what holds of the result.
-- Assumes nothing.
use Prim.Native.Nat.{ℕ, ◌≤◌}
use mathlib.Core.Path.{◌≡◌}
use mathlib.Core.List.{List}
use lib.ListN.{length}
use borrow.Author.Tests.{leb-true}
use Rattle.constants.specs.Edition.{file_edition_of}
use Rattle.wire.specs.Number.{u32_at, Bytes}
use Rattle.wire.specs.Verdict.{Accepted}
use Rattle.wire.proofs.Verdicts.{then_accepted, check_then, check_accepted}
use Rattle.part_table_layout.specs.Lookup.{find}
use Rattle.psv0_layout.specs.Judged.{opened}
use Rattle.psv0_layout.specs.Layout.{edition_read_of}
use Rattle.psv0_layout.specs.Shown.{Question, answered}
use Rattle.psv0_writer_layout.specs.Plain.{PlainForm}
use Rattle.places_layout.specs.Placed.{places_at}
use Rattle.container_layout.specs.Container.{psv0, start_found, psv_of, container_judged, container_answered}
use Rattle.container_layout.specs.Placed.{container_places}
use Rattle.container_layout.proofs.Containers.{Before, before_told, opened_told}
use Rattle.replacing_layout.specs.Judged.{new_judged, replacing_judged}
use Rattle.replacing_layout.specs.Replaced.{replaced}
use Rattle.replacing_layout.proofs.Containers.{Replaces, replaces, opens_accepted, shows_new, places_new, replaced_same}
use Rattle.replacing_layout.proofs.Plain.{plain_told}

-- the checks that passed, taken apart
pub record Passed (k : ℕ) (b new : List ℕ) (room : ℕ) : Type 0 where
  pub opens : container_judged k b ≡ Accepted
  pub before : Before k b
  pub read : opened 3 new ≡ Accepted
  pub plain : PlainForm (file_edition_of (u32_at new 0)) new
  pub short : length (replaced b new) ≤ 16777216
  pub fits : length (replaced b new) ≤ room

pub passed_told : (k : ℕ) (b new : List ℕ) (room : ℕ) → replacing_judged k b new room ≡ Accepted → Passed k b new room
unfolding replacing_judged new_judged
passed_told k b new room a =
    let (o, a1) = then_accepted _ _ a in
    let (j, a2) = then_accepted _ _ a1 in
    let (n, p) = then_accepted _ _ j in
    let (s, a3) = check_then _ 2 0 _ a2 in
    record {
      opens = o;
      before = before_told k b (opened_told k b o).0;
      read = n;
      plain = plain_told new n (check_accepted _ 27 0 p);
      short = leb-true _ _ s;
      fits = leb-true _ _ (check_accepted _ 28 0 a3);
    }

-- r is what replacing gives of b and the plain data new
pub record ReplacedWell (b new r : List ℕ) : Type 0 where
  pub plain : PlainForm (file_edition_of (u32_at new 0)) new
  pub kept : Replaces b new r
  -- every reader opens it, and shows of it what it shows of the new data
  pub opens : (j : ℕ) → j ≤ 3 → container_judged j r ≡ Accepted
  pub shows : (j : ℕ) → j ≤ 3 → (q : Question) → container_answered j r q ≡ answered j new q
  pub places : (j : ℕ) → container_places j r ≡ places_at (start_found b (find b psv0)) (edition_read_of j new) new

pub replaced_well : (k : ℕ) (b new : List ℕ) (room : ℕ) → replacing_judged k b new room ≡ Accepted → ReplacedWell b new (replaced b new)
replaced_well k b new room a =
    let p = passed_told k b new room a in
    let w : Replaces b new (replaced b new) = replaces b new p.before.table p.before.validation p.short in
    record {
      plain = p.plain;
      kept = w;
      opens = λ j h. opens_accepted b new (replaced b new) w k p.opens j h p.read;
      shows = λ j h. shows_new b new (replaced b new) w k p.opens j h;
      places = places_new b new (replaced b new) w;
    }

-- replacing by the PSV0 data that are there gives the same bytes
pub replaced_by_own : (k : ℕ) (b : List ℕ) (room : ℕ) → Bytes b → replacing_judged k b (psv_of b) room ≡ Accepted → replaced b (psv_of b) ≡ b
replaced_by_own k b room bytes a =
    let p = passed_told k b (psv_of b) room a in
    replaced_same b bytes p.before.table p.before.validation

-- Beside a refusal nothing is shown: what a query that is refused would show is unset, field by field; and of three parts that are looked up at
-- once, each is refused as the table is.
-- Assumes nothing.
use Rattle.std.specs.Prelude.{Result, Ok, Err}
use mathlib.Core.Path.{◌≡◌, refl, sym, ◌∙◌}
use mathlib.Core.Bool.{Bool, true, false}
use mathlib.Core.List.{List, []}
use Prim.Native.Nat.{ℕ}
use native.Mathlib.Omega.{arith}
use lib.Dec.{leb, ltb}
use lib.ListN.{length, get_or}
use Rattle.wire.specs.Verdict.{◌then◌, check, Verdict, Accepted, Refused}
use Rattle.wire.specs.declared.Refusal.{Refusal}
use Rattle.wire.proofs.Verdicts.{refused_by}
use Rattle.part_table_layout.specs.Lookup.{occurrence_of}
use Rattle.part_table_layout.specs.Three.{three_of}
use Rattle.part_table_layout.specs.declared.ThreeParts.{ThreeParts}
use Rattle.part_table_layout.proofs.Lookups.{part_refused}
use Rattle.part_table_layout.proofs.Threes.{three_refused}
use Rattle.psv0_layout.specs.Answers.{resource_answer_of, element_answer_of}
use Rattle.psv0_layout.specs.Layout.{sections, seen}
use Rattle.psv0_layout.specs.Shown.{Value, unset, number, view, Question, resource_field, element_field, set_if, element_fields, value, shown_at, beside, queried}

-- values under the two tests of an element: where a query for the first refuses, none is set
under_tests : (s t : Bool) (x : ℕ → Value) {m n p : ℕ} → number m ≡ x 0 → Refused n p ≡ queried Accepted (set_if s (set_if t (x 0)))
    → (f : ℕ) → unset ≡ set_if s (set_if t (x f))
unfolding queried ◌then◌ check
under_tests false t x g e f = refl
under_tests true false x g e f = refl
under_tests true true x g e f = absurd (let h = rw (← g) at e in let z : ◌≡◌ {A = ℕ} 0 1 = cc in omega arith)

-- of an element that is refused, by the opening or since it isn't there, no field is set
element_unset : (o : Verdict) (er : ℕ) (d : List ℕ) (i : ℕ) {n p : ℕ} → Refused n p ≡ queried o (beside o (shown_at er d (element_field i 0)))
    → (f : ℕ) → unset ≡ beside o (shown_at er d (element_field i f))
unfolding shown_at value
element_unset Accepted er d i v f =
    let b = (seen 1 (sections d)).body in
    under_tests (leb 1 er) (ltb i (length b.elements)) (λ k. set_if (ltb k 13) (number (get_or (element_fields (get_or b.elements i [])) k 0))) refl v f
element_unset (Refused m q) er d i v f = refl

pub element_hidden : (o : Verdict) (er : ℕ) (d : List ℕ) (i : ℕ) {r : Refusal} → element_answer_of o (λ q. beside o (shown_at er d q)) i ≡ Err r
    → (f : ℕ) → beside o (shown_at er d (element_field i f)) ≡ unset
unfolding element_answer_of
element_hidden o er d i e f = sym (element_unset o er d i (sym (refused_by _ _ refl e)) f)

-- of a resource that the opening refuses
opening_refuses : (o : Verdict) (x : Value) {n p : ℕ} → Refused n p ≡ queried o x → (n ≡ 26 → ⊥) → Refused n p ≡ o
unfolding queried ◌then◌ check
opening_refuses (Refused m q) x e h = e
opening_refuses Accepted unset e h = absurd (h (cc))
opening_refuses Accepted (number m) e h = absurd (let z : ◌≡◌ {A = ℕ} 0 1 = cc in omega arith)
opening_refuses Accepted (view l) e h = absurd (let z : ◌≡◌ {A = ℕ} 0 1 = cc in omega arith)

pub resource_hidden : (o : Verdict) (g : Question → Value) (i : ℕ) {r : Refusal} → resource_answer_of o (λ q. beside o (g q)) i ≡ Err r → (r.number ≡ 26 → ⊥)
    → (f : ℕ) → beside o (g (resource_field i f)) ≡ unset
unfolding resource_answer_of
resource_hidden o g i e h f =
    let k = opening_refuses o (beside o (g (resource_field i 0))) (sym (refused_by _ _ refl e)) h in
    rw (← k)

-- each of three parts is refused as the table is
pub lookup_refused : (b : List ℕ) (x y z : ℕ) {r : Refusal} → three_of b x y z ≡ Err r → (u o : ℕ) → Err r ≡ occurrence_of b u o
lookup_refused b x y z e u o = sym (part_refused b u o (three_refused b x y z refl e))

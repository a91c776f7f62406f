-- Spans: when one shows the bytes of a section, or of a part of one.
-- Assumes nothing.
use Rattle.std.specs.Prelude.{None, Option, Result, Ok, Err, IsErr, IsErrAnd}
use mathlib.Core.Path.{◌≡◌, refl, sym, ap, ◌∙◌}
use mathlib.Core.Bool.{true}
use mathlib.Core.List.{List, []}
use Prim.Native.Nat.{ℕ, ◌+◌, ◌-◌, ◌*◌, ◌≤◌}
use native.Mathlib.Omega.{arith}
use lib.ListN.{length, take, drop, length-drop}
use lib.Seq.{length-take-le}
use Rattle.wire.specs.Verdict.{verdict_of, Verdict, Accepted, Refused}
use Rattle.wire.specs.declared.Refusal.{Refusal}
use Rattle.psv0_layout.specs.Answers.{points_of, SpanOf, SpanShows}
use Rattle.psv0_layout.specs.Parts.{accepted_span, refused_with}
use Rattle.psv0_layout.specs.Reference.{string_at, index_good, array_at}
use Rattle.psv0_layout.specs.Shown.{unset}
use Rattle.psv0_layout.specs.declared.Span.{Span}
use Rattle.psv0_layout.specs.declared.View.{View}
use Rattle.psv0_layout.specs.declared.View.TheVariants.{StageUnion, ElementString, ElementArray, EntryName, Mask}
use Rattle.psv0_layout.proofs.Positions.{part_part}
use Rattle.psv0_layout.proofs.References.{index_inside}

-- where nothing is shown there are no code points
pub no_points : (v : View) → points_of v (λ q. unset) ≡ None
no_points StageUnion = refl
no_points (ElementString i) = refl
no_points (ElementArray i) = refl
no_points EntryName = refl
no_points (Mask m) = refl

-- what `?` returns of a refusal r
pub passed_err : {A : Type 0} (q : Result A Refusal) {r : Refusal} → IsErr q × IsErrAnd q (λ (s : Refusal). s ≡ r) → q ≡ Err r
passed_err (Ok x) h = absurd h.1
passed_err (Err s) h = ap Err h.1

module _ (d : List ℕ) where
  pub span_shows : {l : List ℕ} {c : Option ℕ} {x : Span} → SpanOf d l c x → SpanShows d Accepted l c (Ok x)
  unfolding verdict_of
  span_shows {l} {c} {x} h =
      record {
        verdict = refl;
        shown = λ {x = y} e. let q : x ≡ y = cc in rw (← q) h;
        refused = λ e. absurd (cc);
      }

  -- an answer that is the verdict's refusal
  pub nothing_shows : {s : Result Span Refusal} {v : Verdict} {r : Refusal} → s ≡ Err r → v ≡ Refused r.number r.place → SpanShows d v [] None s
  unfolding verdict_of
  nothing_shows {s} {v} {r} e h =
      record {
        verdict = ap verdict_of e ∙ sym h;
        shown = λ q. absurd (cc);
        refused = λ q. (refl, refl);
      }

  pub refused_shows : (n p : ℕ) → SpanShows d (Refused n p) [] None (refused_with n p)
  refused_shows n p = nothing_shows refl refl

  -- ---- n bytes of the data from a position on are t
  module _ (t : List ℕ) (at n : ℕ) (e : take n (drop at d) ≡ t) (fits : at + n ≤ length d) where
    pub whole_shows : SpanShows d Accepted t None (accepted_span at n None)
    whole_shows = span_shows (record { inside = fits; bytes = e; points = refl })

    pub part_shows : (o m : ℕ) (c : Option ℕ) → o + m ≤ n → SpanShows d Accepted (take m (drop o t)) c (accepted_span (at + o) m c)
    part_shows o m c h =
        span_shows
        (record {
          inside = omega arith;
          bytes = sym (part_part d at n o m h) ∙ ap (λ x. take m (drop o x)) e;
          points = refl;
        })

    pub stretch_length : length t ≡ n
    stretch_length = rw (← e) (length-take-le n (drop at d) (simp length-drop (omega arith)))

    -- t is the string table, and the string at o has m bytes
    pub string_shows : (o m : ℕ) (c : Option ℕ) → o + m ≤ length t → string_at t o ≡ take m (drop o t)
        → SpanShows d Accepted (string_at t o) c (accepted_span (at + o) m c)
    string_shows o m c h q = let l = stretch_length in rw q (part_shows o m c (omega arith))

    -- t is the index table, and i a good reference for r rows
    pub array_shows : (i r : ℕ) → index_good t i r ≡ true → SpanShows d Accepted (array_at t i r) None (accepted_span (at + i * 4) (r * 4) None)
    unfolding array_at
    array_shows i r g = let l = stretch_length in part_shows (i * 4) (r * 4) None (omega (arith, index_inside t i r g))

-- ---- an answer that shows the bytes t
module _ (d : List ℕ) {v : Verdict} {t : List ℕ} {c : Option ℕ} {s : Result Span Refusal} (h : SpanShows d v t c s) where
  -- the bytes of its span
  pub span_slice : {x : Span} → s ≡ Ok x → take (x.start + x.len - x.start) (drop x.start d) ≡ t
  span_slice {x} e = let q : x.start + x.len - x.start ≡ x.len = omega arith in rw q (h.shown e).bytes

  pub span_inside : {x : Span} → s ≡ Ok x → x.start + x.len ≤ length d
  span_inside e = (h.shown e).inside

  -- no bytes where it is a refusal
  pub no_slice : {r : Refusal} → s ≡ Err r → [] ≡ t
  no_slice e = sym (h.refused e).0

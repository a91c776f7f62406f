-- What an opening tells the figures, the kinds of such answers, and how many of a history are of a kind.
use Rattle.std.specs.Prelude.{Bool, true, false, List, [], ◌∷◌, ℕ, ◌+◌, eqb, length, Option, Some, None, Result, Ok, Err}
use Rattle.constants.specs.Edition.{file_edition_of}
use Rattle.wire.specs.Choice.{choose}
use Rattle.wire.specs.Number.{u32_at}
use Rattle.wire.specs.Verdict.{under}
use Rattle.wire.specs.declared.Refusal.{Refusal}
use Rattle.psv0_layout.specs.Answers.{field_of}
use Rattle.psv0_layout.specs.Shown.{stage_number}
use Rattle.container_layout.specs.Container.{psv_of, container_judged, container_answered}
use Rattle.figures_layout.specs.declared.Answer.{Answer}
use Rattle.figures_layout.specs.declared.Told.{Told}

-- what opening b at edition k tells: the "edition of the file" and the stage that the reading shows, or the refusal, and the length
unfoldable pub answer_of : ℕ → List ℕ → Answer
answer_of k b =
    record {
      opening =
          under (container_judged k b)
          (record { file_edition = file_edition_of (u32_at (psv_of b) 0); stage = field_of (container_answered k b stage_number) });
      len = length b;
    }

-- the history of openings: what opening each file at edition k tells
unfoldable pub history : ℕ → List (List ℕ) → List Answer
history k [] = []
history k (b ∷ files) = answer_of k b ∷ history k files

-- ---- kinds of answers
-- an answer that is accepted and of which a test holds
abbrev pub when_told : (Told → Bool) → Result Told Refusal → Bool
when_told p (Ok t) = p t
when_told p (Err r) = false

abbrev pub refuses : Result Told Refusal → Bool
refuses (Ok t) = false
refuses (Err r) = true

abbrev pub refuses_with : ℕ → Result Told Refusal → Bool
refuses_with n (Ok t) = false
refuses_with n (Err r) = eqb r.number n

abbrev pub is_stage : ℕ → Option ℕ → Bool
is_stage t (Some s) = eqb s t
is_stage t None = false

abbrev pub is_unset : Option ℕ → Bool
is_unset (Some s) = false
is_unset None = true

abbrev pub is_accepted : Answer → Bool
is_accepted a = when_told (λ t. true) a.opening

abbrev pub is_refused : Answer → Bool
is_refused a = refuses a.opening

-- "by refusal number"
abbrev pub refused_with : ℕ → Answer → Bool
refused_with n a = refuses_with n a.opening

-- "by edition of the file and by stage (or unset) for accepted ones"
abbrev pub of_edition : ℕ → Answer → Bool
of_edition e a = when_told (λ t. eqb t.file_edition e) a.opening

abbrev pub of_stage : ℕ → Answer → Bool
of_stage n a = when_told (λ t. is_stage n t.stage) a.opening

abbrev pub of_no_stage : Answer → Bool
of_no_stage a = when_told (λ t. is_unset t.stage) a.opening

-- the length that an answer adds to "the sum of the accepted lengths"
abbrev pub accepted_length : Answer → ℕ
accepted_length a = choose (is_accepted a) a.len 0

-- ---- over a history
-- "the number of openings in the history with that answer"
unfoldable pub tally : (Answer → Bool) → List Answer → ℕ
tally p [] = 0
tally p (a ∷ h) = choose (p a) 1 0 + tally p h

-- "the sum of the accepted lengths"
unfoldable pub total : List Answer → ℕ
total [] = 0
total (a ∷ h) = accepted_length a + total h

-- The figures of a history, joined, and kept from container to container.
use Rattle.std.specs.Prelude.{Bool, List, [], ◌∷◌, ℕ, zero, suc, ◌+◌, ◌-◌, min, leb, eqb, length, Result, Ok, Err}
use Rattle.wire.specs.Choice.{choose}
use Rattle.container_layout.specs.Container.{container_judged}
use Rattle.wire.specs.Verdict.{under}
use Rattle.figures_layout.specs.declared.Addition.{Addition}
use Rattle.figures_layout.specs.declared.Answer.{Answer}
use Rattle.figures_layout.specs.declared.Figures.{Figures}
use Rattle.figures_layout.specs.declared.Full.{Full}
use Rattle.figures_layout.specs.declared.JoinError.{JoinError}
use Rattle.figures_layout.specs.declared.JoinError.TheVariants.{OtherEdition, Full as NoRoom}
use Rattle.figures_layout.specs.Kinds.{answer_of, is_accepted, is_refused, refused_with, of_edition, of_stage, of_no_stage, tally, total}

-- "a list of up to 65,535 containers"
abbrev pub most : ℕ
most = 65535

-- the greatest sum of bytes that the figures hold, far above 65,535 accepted lengths
abbrev pub most_bytes : ℕ
most_bytes = 18446744073709551615

-- ---- the figures of a history h of openings at edition k
-- f 0, f 1, .. below n
unfoldable pub table : (ℕ → ℕ) → ℕ → List ℕ
table f zero = []
table f (suc n) = f 0 ∷ table (λ k. f (suc k)) n

-- "exact counts: by refusal number, by edition of the file and by stage (or unset) for accepted ones, and the sum of the accepted lengths"
unfoldable pub figures_of : ℕ → List Answer → Figures
figures_of k h =
    record {
      edition = k;
      bytes = min (total h) most_bytes;
      opened = length h;
      accepted = tally is_accepted h;
      refused = tally is_refused h;
      refusals = table (λ n. tally (refused_with n) h) 28;
      editions = table (λ e. tally (of_edition e) h) 4;
      stages = table (λ t. tally (of_stage t) h) 16;
      unset = tally of_no_stage h;
    }

-- ---- two figures in one
-- a sum that stays at a greatest number m, so that no count wraps, whatever figures someone made up
abbrev pub sum_up_to : ℕ → ℕ → ℕ → ℕ
sum_up_to m a b = choose (leb b (m - a)) (a + b) m

abbrev pub plus : ℕ → ℕ → ℕ
plus a b = sum_up_to most a b

-- two lists of counts, count by count
unfoldable pub sums : List ℕ → List ℕ → List ℕ
sums [] m = []
sums (a ∷ l) [] = a ∷ l
sums (a ∷ l) (b ∷ m) = plus a b ∷ sums l m

unfoldable pub summed : Figures → Figures → Figures
summed f g =
    record {
      edition = f.edition;
      bytes = sum_up_to most_bytes f.bytes g.bytes;
      opened = plus f.opened g.opened;
      accepted = plus f.accepted g.accepted;
      refused = plus f.refused g.refused;
      refusals = sums f.refusals g.refusals;
      editions = sums f.editions g.editions;
      stages = sums f.stages g.stages;
      unset = plus f.unset g.unset;
    }

-- whether two figures have room in one
unfoldable pub fits : Figures → Figures → Bool
fits f g = leb (f.opened + g.opened) most

-- two figures joined: those of two editions are not, and where there is no room the answer is full
unfoldable pub joined : Figures → Figures → Result Figures JoinError
joined f g =
    choose (eqb f.edition g.edition)
    (choose (fits f g) (Ok (summed f g)) (Err NoRoom))
    (Err OtherEdition)

-- ---- from container to container
-- "opened one by one at one edition, named at the start"
unfoldable pub started : ℕ → Figures
started k = figures_of k []

-- the figures of one container, opened at the edition of the figures f
unfoldable pub single : Figures → List ℕ → Figures
single f b = figures_of f.edition (answer_of f.edition b ∷ [])

-- one container more. "A container past 65,535 changes nothing and is answered as full"
unfoldable pub added : Figures → List ℕ → Result Addition Full
added f b =
    choose (fits f (single f b))
    (Ok (record { opening = under (container_judged f.edition b) tt; figures = summed f (single f b) }))
    (Err (record {}))

-- the figures after an addition to f: f as it was where they are full
abbrev pub after : Figures → Result Addition Full → Figures
after f (Ok a) = a.figures
after f (Err e) = f

-- the figures f after others were joined to them: f as it was where the two don't join
abbrev pub after_join : Figures → Result Figures JoinError → Figures
after_join f (Ok g) = g
after_join f (Err e) = f

-- the figures f after some files, and those of a list of files from the start
unfoldable pub carried : Figures → List (List ℕ) → Figures
carried f [] = f
carried f (b ∷ files) = carried (after f (added f b)) files

unfoldable pub counted : ℕ → List (List ℕ) → Figures
counted k files = carried (started k) files

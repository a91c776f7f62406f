use Rattle.places_layout.proofs.Views.{no_entry, entry_read, entry_outside}
use Rattle.places.proofs.Queries.{told_inside, told_outside, passed_outside}
use Rattle.places.proofs.entry_name.Goals as goal

pub returns-then-p-lt3 : goal.returns-then-p-lt3
returns-then-p-lt3 c = no_entry _ _ _ c.if-p-lt3.true c.refused.ensures

pub returns-in_err-inside : goal.returns-in_err-inside
returns-in_err-inside c =
    let h = c.inside.ensures in
    entry_outside _ _ _ c.if-p-lt3.false (told_outside _ _ h c.in_err-inside.was) (passed_outside _ _ h c.from_residual.ensures c.in_err-inside.was)

pub returns : goal.returns
returns c = entry_read _ _ _ c.if-p-lt3.false (told_inside _ _ c.inside.ensures c.in_ok-inside.was) (rw c.u32_at-o.ensures at c.string.ensures)

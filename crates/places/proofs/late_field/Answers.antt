use Rattle.places.proofs.late_field.Goals as goal

pub returns : goal.returns
returns c = rw (← c.u32_at.ensures) c.from_if.ensures

use native.Mathlib.Omega.{arith}
use Rattle.psv0_layout.specs.Answers.{field_of}
use Rattle.psv0_layout.specs.Shown.{number}
use Rattle.psv0_layout.proofs.Fields.{set_from}
use Rattle.places_layout.proofs.Views.{lengths_read}
use Rattle.places.proofs.lengths.Goals as goal

pub returns : goal.returns
returns c = let p = c.args.p in lengths_read p c.args.b.now _ (λ j. record { resources = field_of (set_from 0 p.edition (number p.resource_count) (omega arith) j); strings = c.from.ensures j; indices = c.from-2.ensures j; elements = c.from-3.ensures j })

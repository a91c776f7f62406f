use mathlib.Core.Path.{refl}
use Rattle.part_table_layout.proofs.Judged.{stood, fresh}
use Rattle.part_table_layout.proofs.Lookups.{found_stood, none_stood}
use Rattle.assembler.proofs.may_stand.Goals as goal

pub returns-in-Some : goal.returns-in-Some
returns-in-Some c =
    stood _ _ _ (found_stood _ _ _ c.requires c.find_name.ensures c.in-Some.is) refl c.may_repeat.ensures

pub returns-in-None : goal.returns-in-None
returns-in-None c =
    fresh _ _ _ (none_stood _ _ _ c.requires c.find_name.ensures c.in-None.is) refl

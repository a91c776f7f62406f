use Rattle.places.proofs.view_span.Goals as goal

pub returns-in-StageUnion : goal.returns-in-StageUnion
returns-in-StageUnion c = rw c.in-StageUnion.is c.stage_union.ensures

pub returns-in-ElementString : goal.returns-in-ElementString
returns-in-ElementString c = rw c.in-ElementString.is c.element_string.ensures

pub returns-in-ElementArray : goal.returns-in-ElementArray
returns-in-ElementArray c = rw c.in-ElementArray.is c.element_array.ensures

pub returns-in-EntryName : goal.returns-in-EntryName
returns-in-EntryName c = rw c.in-EntryName.is c.entry_name.ensures

pub returns-in-Mask : goal.returns-in-Mask
returns-in-Mask c = rw c.in-Mask.is c.mask.ensures

use mathlib.Core.Path.{◌∙◌}
use Rattle.wire.proofs.Stretches.{copied_is}
use Rattle.replacing.proofs.write_head.Goals as goal

pub returns : goal.returns
returns c =
    c.put_u32.ensures ∙ rw (c.copy.ensures, copied_is c.args.out.now c.args.head.now c.requires)

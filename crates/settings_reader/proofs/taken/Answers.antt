use mathlib.Core.Logic.{inl, inr}
use borrow.Author.Tests.{eq-eqb, le-leb}
use Rattle.settings_layout.specs.Rules.{tells}
use Rattle.settings_reader.proofs.Walks.{untold}
use Rattle.settings_reader.proofs.taken.Goals.{else-row-key-via-then-row-key+else-row-version, else-row-key-via-else-row-key}
use Rattle.settings_reader.proofs.taken.Goals as goal

pub returns-then-row-version : goal.returns-then-row-version
unfolding tells
returns-then-row-version c = rw (eq-eqb _ _ c.if-row-key.true, le-leb _ _ c.if-row-version.true)

pub returns-else-row-key : goal.returns-else-row-key
returns-else-row-key c =
    let untold_here = untold c.args.key c.args.version c.args.row.now in
    elim c.else-row-key.branch [
      | else-row-key-via-then-row-key+else-row-version w ↦ rw (untold_here (inl (w.if-row-key.true, w.if-row-version.false)))
      | else-row-key-via-else-row-key w ↦ rw (untold_here (inr w.if-row-key.false))
    ]

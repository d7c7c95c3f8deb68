use mathlib.Core.Path.{sym, ap, ◌∙◌}
use Rattle.paper.specs.Refusals.{judged_of}
use Rattle.table_read.proofs.PartsStand.{header-room, refused-15, after-header}
use Rattle.table_read.proofs.parts.read.Goals as goal

pub returns-then-not-header : goal.returns-then-not-header
returns-then-not-header c = refused-15 _ _ (sym c.header.ensures ∙ c.if-not-header.true)

pub stand-requires : goal.stand-requires
stand-requires c = header-room _ _ (sym c.header.ensures ∙ c.if-not-header.false)

pub returns : goal.returns
returns c = ap judged_of c.ok_or.ensures.value ∙ c.stand.ensures ∙ after-header _ _ (sym c.header.ensures ∙ c.if-not-header.false)

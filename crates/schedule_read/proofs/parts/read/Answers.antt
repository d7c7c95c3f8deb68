-- One law of PartsStand for each return.
use mathlib.Core.Path.{sym, ◌∙◌}
use Rattle.paper.proofs.Answered.{refuses-with}
use Rattle.schedule_read.specs.FileParts.{parts_in}
use Rattle.schedule_read.proofs.PartsStand.{header-room, opened, refused-1, refused-2, sections-judged}
use Rattle.schedule_read.proofs.parts.read.Goals as goal

pub returns-then-not-header : goal.returns-then-not-header
returns-then-not-header c = refuses-with parts_in (refused-1 _ c.args.file.now (sym c.header.ensures ∙ c.if-not-header.true))

pub length_field-requires : goal.length_field-requires
length_field-requires c = header-room _ c.args.file.now (sym c.header.ensures ∙ c.if-not-header.false)

pub returns-then-not-length_field : goal.returns-then-not-length_field
returns-then-not-length_field c = refuses-with parts_in (refused-2 _ c.args.file.now (sym c.header.ensures ∙ c.if-not-header.false) (sym c.length_field.ensures ∙ c.if-not-length_field.true))

pub sections-requires : goal.sections-requires
sections-requires c = header-room _ c.args.file.now (sym c.header.ensures ∙ c.if-not-header.false)

pub returns : goal.returns
returns c = let o = opened _ c.args.file.now c.header.ensures c.if-not-header.false c.length_field.ensures c.if-not-length_field.false in
    rw c.ok_or.ensures.value (sections-judged _ c.args.file.now o c.sections.result c.sections.ensures)

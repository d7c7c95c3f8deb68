use Rattle.edition.specs.Editions.{edition_of}
use Rattle.paper.proofs.PassedOn.{passed_on}
use Rattle.table_read.specs.TableIndex.{table_index}
use Rattle.table_read.proofs.TableStages.{by_parts, parts-stand, sections-lent, by-sections}
use Rattle.table_read.proofs.call.index.Goals as goal

pub returns-in_err-p : goal.returns-in_err-p
returns-in_err-p c = let a = c.args in
    passed_on (table_index (edition_of a.ed) a.table.now) c.from_residual.result c.in_err-p.field-0.0 c.from_residual.ensures.1 (by_parts _ _ c.in_err-p.ensures)

pub of-requires : goal.of-requires
of-requires c = (parts-stand (edition_of c.args.ed) _ c.in_ok-p.ensures).variables.inside

pub of-requires-2 : goal.of-requires-2
of-requires-2 c = (parts-stand (edition_of c.args.ed) _ c.in_ok-p.ensures).equations.inside

pub of-requires-3 : goal.of-requires-3
of-requires-3 c = (parts-stand (edition_of c.args.ed) _ c.in_ok-p.ensures).actions.inside

pub of-requires-4 : goal.of-requires-4
of-requires-4 c = (parts-stand (edition_of c.args.ed) _ c.in_ok-p.ensures).locations.inside

pub returns : goal.returns
returns c = let ed = edition_of c.args.ed in
    let t = c.args.table.now in
    by-sections ed t c.in_ok-p.ensures (sections-lent ed t c.in_ok-p.ensures c.of.ensures c.of-2.ensures c.of-3.ensures c.of-4.ensures) c.sections.ensures

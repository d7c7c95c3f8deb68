-- One law of Looking for each return.
use Rattle.semantics.specs.Editions.{edition1}
use Rattle.lookahead.proofs.Looking.{by_table, room_of, by-start, admitting, by-events}
use Rattle.lookahead.proofs.three.Goals as goal

pub returns-in_err-x : goal.returns-in_err-x
returns-in_err-x c = let q = c.args in
    by_table edition1 q.table.now q.start.now q.a q.b q.c c.from_residual.result c.in_err-x.field-0.0 c.from_residual.ensures.1 c.in_err-x.ensures

pub admit-requires : goal.admit-requires
admit-requires c = let q = c.args in room_of edition1 q.table.now q.start.now q.a q.b q.c c.in_ok-x.ensures

pub returns-in_err-asked : goal.returns-in_err-asked
returns-in_err-asked c = let q = c.args in
    by-start edition1 q.table.now q.start.now q.a q.b q.c c.in_ok-x.ensures c.from_residual-in_err-asked.result c.in_err-asked.field-0.0 c.from_residual-in_err-asked.ensures.1 c.in_err-asked.ensures

pub lend-requires : goal.lend-requires
lend-requires c = let q = c.args in admitting edition1 q.table.now q.start.now q.a q.b q.c c.in_ok-x.ensures c.in_ok-asked.ensures

pub returns : goal.returns
returns c = let q = c.args in by-events edition1 q.table.now q.start.now q.a q.b q.c c.in_ok-x.ensures c.in_ok-asked.ensures c.lend.result c.lend.ensures

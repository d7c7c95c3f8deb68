-- One law for each return: `by_table`, `by-admission`, `by-events` (Calling).
use mathlib.Core.Path.{refl}
use Rattle.table_run.proofs.Calling.{by_table, room_of, by-admission, admitting, by-events}
use Rattle.table_run.proofs.call.run.Goals as goal

pub returns-in_err-ix : goal.returns-in_err-ix
returns-in_err-ix c = let a = c.args in
    by_table _ a.table.now a.start.now a.events.now a.records.now c.from_residual.result c.in_err-ix.field-0.0 c.from_residual.ensures.1 c.in_err-ix.ensures

pub admit-requires : goal.admit-requires
admit-requires c = let a = c.args in
    room_of _ a.table.now a.start.now a.events.now a.records.now c.in_ok-ix.ensures

pub returns-in_err-asked : goal.returns-in_err-asked
returns-in_err-asked c = let a = c.args in
    by-admission _ a.table.now a.start.now a.events.now a.records.now c.in_ok-ix.ensures c.from_residual-in_err-asked.result c.in_err-asked.field-0.0
    c.from_residual-in_err-asked.ensures.1 (λ p k. c.in_err-asked.ensures p k _ _ refl refl)

pub lend-requires : goal.lend-requires
lend-requires c = let a = c.args in
    (c.in_ok-ix.ensures, admitting _ a.table.now a.start.now a.events.now a.records.now c.in_ok-ix.ensures (λ p k. c.in_ok-asked.ensures p k _ _ refl refl))

pub returns : goal.returns
returns c = let a = c.args in
    by-events _ a.table.now a.start.now a.events.now a.records.now c.in_ok-ix.ensures (λ p k. c.in_ok-asked.ensures p k _ _ refl refl) c.lend.ensures

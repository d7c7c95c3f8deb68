-- One law for each return: `by-file`, `by-admission`, `by-events` (Calling).
use mathlib.Core.Path.{refl}
use Rattle.rule_run.proofs.Calling.{by-file, room_of, by-admission, admitting, by-events}
use Rattle.rule_run.proofs.call.run.Goals as goal

pub returns-in_err-ix : goal.returns-in_err-ix
returns-in_err-ix c = let a = c.args in
    by-file _ a.file.now a.start.now a.events.now a.records.now c.from_residual.result c.from_residual.ensures.1 c.in_err-ix.ensures

pub admit-requires : goal.admit-requires
admit-requires c = let a = c.args in
    room_of _ a.file.now a.start.now a.events.now a.records.now c.in_ok-ix.ensures

pub returns-in_err-asked : goal.returns-in_err-asked
returns-in_err-asked c = let a = c.args in
    by-admission _ a.file.now a.start.now a.events.now a.records.now c.in_ok-ix.ensures c.in_err-asked.field-0.0 (λ p k. c.in_err-asked.ensures p k _ _ refl refl) c.from_residual-in_err-asked.result
    c.from_residual-in_err-asked.ensures.1

pub lend-requires : goal.lend-requires
lend-requires c = let a = c.args in
    (c.in_ok-ix.ensures, admitting _ a.file.now a.start.now a.events.now a.records.now c.in_ok-ix.ensures (λ p k. c.in_ok-asked.ensures p k _ _ refl refl))

pub returns : goal.returns
returns c = let a = c.args in
    by-events _ a.file.now a.start.now a.events.now a.records.now c.in_ok-ix.ensures (λ p k. c.in_ok-asked.ensures p k _ _ refl refl) c.lend.ensures

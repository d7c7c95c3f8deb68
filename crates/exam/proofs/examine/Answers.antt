-- Refused as it is judged (`none_told`); else no call refuses (`compiles`, `runs-by_rules`, `runs-by_table`), and all is told (`all_told`).
use mathlib.Core.Path.{refl, sym}
use Rattle.std.proofs.lemmas.Result.{err_from_is_err_and}
use Rattle.semantics.specs.Editions.{edition1}
use Rattle.semantics.specs.Refusals.{refusal_of}
use Rattle.exam.proofs.Sizes.{front_length}
use Rattle.exam.proofs.ExamStages.{all_told, none_told, table_fits, rooms, compiles, runs-by_rules, runs-by_table}
use Rattle.exam.proofs.examine.Goals as goal

pub returns-in_err-judged : goal.returns-in_err-judged
unfolding refusal_of
returns-in_err-judged c = let a = c.args in
    let p = err_from_is_err_and c.from_residual.result c.from_residual.ensures.1 in
    rw (p.1, p.2) (none_told edition1 a.file.now a.start.now a.events.now a.table.now a.records.now a.others.now _ (c.in_err-judged.ensures a.events.now a.table.now a.records.now a.others.now refl refl refl refl))

pub returns-in_err-c : goal.returns-in_err-c
unfolding refusal_of
returns-in_err-c c = let a = c.args in
    absurd (compiles edition1 a.file.now a.start.now a.events.now a.table.now a.records.now a.others.now (sym (c.in_ok-judged.ensures a.events.now a.table.now a.records.now a.others.now refl refl refl refl)) _ c.in_err-c.ensures)

pub returns-in_err-r : goal.returns-in_err-r
unfolding refusal_of
returns-in_err-r c = let a = c.args in
    absurd (runs-by_rules edition1 a.file.now a.start.now a.events.now a.table.now a.records.now a.others.now (sym (c.in_ok-judged.ensures a.events.now a.table.now a.records.now a.others.now refl refl refl refl)) _ _ c.in_err-r.ensures)

pub slice_bounds-run-end : goal.slice_bounds-run-end
unfolding refusal_of
slice_bounds-run-end c = let a = c.args in
    table_fits edition1 a.file.now a.start.now a.events.now a.table.now a.records.now a.others.now (sym (c.in_ok-judged.ensures a.events.now a.table.now a.records.now a.others.now refl refl refl refl)) c.in_ok-c.ensures

pub slice_bounds-run-end-2 : goal.slice_bounds-run-end-2
unfolding refusal_of
slice_bounds-run-end-2 c = let a = c.args in
    front_length _ _ (table_fits edition1 a.file.now a.start.now a.events.now a.table.now a.records.now a.others.now (sym (c.in_ok-judged.ensures a.events.now a.table.now a.records.now a.others.now refl refl refl refl)) c.in_ok-c.ensures)

pub returns-in_err-t : goal.returns-in_err-t
unfolding refusal_of
returns-in_err-t c = let a = c.args in
    absurd (runs-by_table edition1 a.file.now a.start.now a.events.now a.table.now a.records.now a.others.now (sym (c.in_ok-judged.ensures a.events.now a.table.now a.records.now a.others.now refl refl refl refl)) c.in_ok-c.ensures _ _ c.in_err-t.ensures)

pub compared-requires : goal.compared-requires
unfolding refusal_of
compared-requires c = let a = c.args in
    rooms edition1 a.file.now a.start.now a.events.now a.table.now a.records.now a.others.now (sym (c.in_ok-judged.ensures a.events.now a.table.now a.records.now a.others.now refl refl refl refl)) c.in_ok-c.ensures _ _ _ _ c.in_ok-r.ensures c.in_ok-t.ensures

pub returns : goal.returns
unfolding refusal_of
returns c = let a = c.args in
    all_told edition1 a.file.now a.start.now a.events.now a.table.now a.records.now a.others.now (sym (c.in_ok-judged.ensures a.events.now a.table.now a.records.now a.others.now refl refl refl refl)) c.in_ok-c.ensures _ _ _ _ c.in_ok-r.ensures c.in_ok-t.ensures c.compared.ensures

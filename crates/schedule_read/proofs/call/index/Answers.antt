-- One law of Stages for each return, in the order of the calls.
use mathlib.Core.Path.{refl}
use Rattle.std.proofs.lemmas.Result.{err_from_is_err_and}
use Rattle.edition.specs.Editions.{edition_of}
use Rattle.schedule_read.proofs.PartsStand.{parts-stand}
use Rattle.schedule_read.proofs.Stages.{by-layout, standing, by-plant, plant-planted, by-nodes, index-of, by-tree, by_last, all-passed}
use Rattle.schedule_read.proofs.call.index.Goals as goal

pub returns-in_err-parts : goal.returns-in_err-parts
returns-in_err-parts c = let p = err_from_is_err_and c.from_residual.result c.from_residual.ensures.1 in
    rw (p.1, p.2) (by-layout _ c.args.file.now c.in_err-parts.ensures)

pub of-es-requires : goal.of-es-requires
of-es-requires c = (parts-stand _ c.args.file.now c.in_ok-parts.ensures).equations

pub of-s-requires : goal.of-s-requires
of-s-requires c = (parts-stand _ c.args.file.now c.in_ok-parts.ensures).schedule

pub of-requires : goal.of-requires
of-requires c = (parts-stand _ c.args.file.now c.in_ok-parts.ensures).variables

pub returns-in_err-plant : goal.returns-in_err-plant
returns-in_err-plant c = let p = err_from_is_err_and c.from_residual-in_err-plant.result c.from_residual-in_err-plant.ensures.1 in
    let a = standing _ c.args.file.now c.in_ok-parts.ensures c.of.ensures c.of-es.ensures c.of-s.ensures in
    rw (p.1, p.2) (by-plant _ c.args.file.now a (c.in_err-plant.ensures _))

pub returns-in_err-count : goal.returns-in_err-count
returns-in_err-count c = let p = err_from_is_err_and c.from_residual-in_err-count.result c.from_residual-in_err-count.ensures.1 in
    let a = standing _ c.args.file.now c.in_ok-parts.ensures c.of.ensures c.of-es.ensures c.of-s.ensures in
    rw (p.1, p.2) (by-nodes _ c.args.file.now a (c.in_ok-plant.ensures _) c.in_err-count.ensures.answers)

pub read-requires-4 : goal.read-requires-4
read-requires-4 c = ((edition_of c.args.ed, (_, c.in_ok-count.ensures.laid _ refl)), refl)

pub returns-in_err-read : goal.returns-in_err-read
returns-in_err-read c = let p = err_from_is_err_and c.from_residual-in_err-read.result c.from_residual-in_err-read.ensures.1 in
    let a = standing _ c.args.file.now c.in_ok-parts.ensures c.of.ensures c.of-es.ensures c.of-s.ensures in
    let n = c.in_ok-count.ensures.laid _ refl in
    rw (p.1, p.2) (by-tree _ c.args.file.now a (c.in_ok-plant.ensures _) c.in_ok-count.ensures.answers n (c.read-4.ensures (edition_of c.args.ed) (_, n)) c.in_err-read.was)

pub checked-requires : goal.checked-requires
checked-requires c = let a = standing _ c.args.file.now c.in_ok-parts.ensures c.of.ensures c.of-es.ensures c.of-s.ensures in
    let n = c.in_ok-count.ensures.laid _ refl in
    (index-of _ c.args.file.now a (c.in_ok-plant.ensures _) c.in_ok-count.ensures.answers n, plant-planted (edition_of c.args.ed) c.args.file.now a (c.in_ok-plant.ensures _))

pub returns-in_err-checked : goal.returns-in_err-checked
returns-in_err-checked c = let p = err_from_is_err_and c.from_residual-in_err-checked.result c.from_residual-in_err-checked.ensures.1 in
    let a = standing _ c.args.file.now c.in_ok-parts.ensures c.of.ensures c.of-es.ensures c.of-s.ensures in
    let n = c.in_ok-count.ensures.laid _ refl in
    rw (p.1, p.2) (by_last _ c.args.file.now a (c.in_ok-plant.ensures _) c.in_ok-count.ensures.answers n (c.read-4.ensures (edition_of c.args.ed) (_, n)) c.in_ok-read.was
    (c.in_err-checked.ensures _))

pub returns : goal.returns
returns c = let a = standing _ c.args.file.now c.in_ok-parts.ensures c.of.ensures c.of-es.ensures c.of-s.ensures in
    let n = c.in_ok-count.ensures.laid _ refl in
    all-passed _ c.args.file.now a (c.in_ok-plant.ensures _) c.in_ok-count.ensures.answers n (c.read-4.ensures (edition_of c.args.ed) (_, n)) c.in_ok-read.was (c.in_ok-checked.ensures _)

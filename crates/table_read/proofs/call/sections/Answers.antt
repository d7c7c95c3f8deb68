-- One law of TableStages for each return.
use Rattle.edition.specs.Editions.{edition_of}
use Rattle.paper.proofs.Answered.{refuses-with}
use Rattle.table_read.specs.TableIndex.{index_of}
use Rattle.table_read.specs.TableParts.{sections_from}
use Rattle.table_read.proofs.TableStages.{by-plant, few-variables, counts-room, equations-there, by-switches, by-actions, by-operands, by-locations, all-passed}
use Rattle.table_read.proofs.call.sections.Goals as goal

pub returns-in_default : goal.returns-in_default
returns-in_default c = let ed = edition_of c.args.ed in
    by-plant ed _ _ _ _ _ (c.in_default.ensures ed)

pub read-requires-2 : goal.read-requires-2
read-requires-2 c = let ed = edition_of c.args.ed in
    (equations-there ed _ _ (c.in-Ok.ensures ed), few-variables ed _ _ (c.in-Ok.ensures ed))

pub returns-then-not-read : goal.returns-then-not-read
returns-then-not-read c = let ed = edition_of c.args.ed in
    by-switches ed _ _ _ _ _ (c.in-Ok.ensures ed) (c.read-2.ensures ed) c.if-not-read.true

pub returns-in-Err : goal.returns-in-Err
returns-in-Err c = let a = c.args in
    let ed = edition_of a.ed in
    refuses-with (index_of ed a.parts (sections_from a.vs.now a.es.now a.ops.now a.locs.now))
    (by-actions ed a.parts a.vs.now a.es.now a.ops.now a.locs.now (c.in-Ok.ensures ed) (c.read-2.ensures ed) c.if-not-read.false (rw c.in-Err.is at c.read-operations.ensures))

pub read-requires-3 : goal.read-requires-3
read-requires-3 c = let ed = edition_of c.args.ed in
    (rw c.in-Ok-operations.is at c.read-operations.ensures, few-variables ed _ _ (c.in-Ok.ensures ed), counts-room ed _ _ (c.in-Ok.ensures ed))

pub returns-then-not-read-2 : goal.returns-then-not-read-2
returns-then-not-read-2 c = let ed = edition_of c.args.ed in
    by-operands ed _ _ _ _ _ (c.in-Ok.ensures ed) (c.read-2.ensures ed) c.if-not-read.false (rw c.in-Ok-operations.is at c.read-operations.ensures) c.read-3.ensures c.if-not-read-2.true

pub returns-in-Err-places : goal.returns-in-Err-places
returns-in-Err-places c = let a = c.args in
    let ed = edition_of a.ed in
    refuses-with (index_of ed a.parts (sections_from a.vs.now a.es.now a.ops.now a.locs.now))
    (by-locations ed a.parts a.vs.now a.es.now a.ops.now a.locs.now (c.in-Ok.ensures ed) (c.read-2.ensures ed) c.if-not-read.false (rw c.in-Ok-operations.is at c.read-operations.ensures)
    c.read-3.ensures c.if-not-read-2.false (λ l k. rw c.in-Err-places.is at c.read-places.ensures l k))

pub returns : goal.returns
returns c = let ed = edition_of c.args.ed in
    all-passed ed _ _ _ _ _ (c.in-Ok.ensures ed) (c.read-2.ensures ed) c.if-not-read.false (rw c.in-Ok-operations.is at c.read-operations.ensures) c.read-3.ensures c.if-not-read-2.false
    (λ l k. rw c.in-Ok-places.is at c.read-places.ensures l k)

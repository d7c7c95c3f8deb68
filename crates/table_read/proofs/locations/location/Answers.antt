use native.Mathlib.Omega.{arith}
use Rattle.codec.proofs.Widths.{number_small}
use Rattle.edition.specs.Editions.{edition_of}
use Rattle.table_read.proofs.Ended.{found, not_found}
use Rattle.table_read.proofs.EntryLoop.{entry-inside, entries-start, entries_next, location-none, location-empty, location-stop, location-ok}
use Rattle.table_read.proofs.LikeKinds.{like-says}
use Rattle.table_read.proofs.locations.location.Goals as goal

pub returns-then-s-at : goal.returns-then-s-at
returns-then-s-at c = location-none _ _ _ _ _ (omega arith)

pub returns-then-c-lt1 : goal.returns-then-c-lt1
returns-then-c-lt1 c = location-empty _ _ _ _ _ (omega arith) (omega arith)

pub loop-init : goal.loop-init
loop-init c = entries-start _ _ _ _ _ (omega arith)

pub entry-requires : goal.entry-requires
entry-requires c = c.loop.invariant.took.inside

pub returns-in_err-q : goal.returns-in_err-q
returns-in_err-q c = rw c.from_residual.ensures (location-stop _ _ _ _ _ (omega arith) c.loop.invariant (omega (arith, c.loop-test.true)) (not_found (c.in_err-q.ensures _ (like-says _))))

pub number-low-requires : goal.number-low-requires
number-low-requires c = omega (arith, entry-inside _ (found (c.in_ok-q.ensures _ (like-says _))))

pub overflow_add-low : goal.overflow_add-low
overflow_add-low c = let a = c.args in
    omega (arith, number_small (edition_of a.ed).width a.s.now c.loop.p (λ i. omega (arith, c.type_inv.s i)), c.number-low.ensures)

pub loop-preserved : goal.loop-preserved
loop-preserved c = entries_next _ _ _ _ _ c.loop.invariant (found (c.in_ok-q.ensures _ (like-says _))) c.number-low.ensures

pub returns : goal.returns
returns c = location-ok _ _ _ _ _ (omega arith) {c = c.from-c.result} c.loop.invariant (omega arith) c.from-c.ensures (omega arith)

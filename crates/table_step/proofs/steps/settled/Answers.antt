-- Each result has its law, the same for both runs (execution Stepping).
use Rattle.semantics.specs.Calls.{program_of_table}
use Rattle.execution.proofs.Stepping.{settled-away, settled-above, settled-below, settled-stay, settled-move}
use Rattle.table_step.proofs.Settling.{told-away, told-above, told-below, told-stay, told-move, moving-as, movable-as, acts-here, stands-here, stands-end}
use Rattle.table_step.proofs.steps.settled.Goals as goal

pub moved-requires : goal.moved-requires
moved-requires c = moving-as _ (told-move c.in-Ok-Some.is (rw c.in-Ok-Some.is at c.in-Ok-Some.field-0-is)) c.requires

pub returns-in-Err-Away : goal.returns-in-Err-Away
returns-in-Err-Away c = λ t m h i vs ms e vs' ms' l. settled-away _ (program_of_table t) _ _ _ (acts-here _ h) vs ms e vs' ms' l (told-away c.in-Err-Away.is (rw c.in-Err-Away.is at c.in-Err-Away.field-0-is)) (stands-here _ h i)

pub returns-in-Err-Above : goal.returns-in-Err-Above
returns-in-Err-Above c = let r = c.end.ensures in
    λ t m h i vs ms e vs' ms' l. settled-above _ (program_of_table t) _ _ _ (acts-here _ h) vs ms e vs' ms' l
    (told-above c.in-Err-Above.is (rw c.in-Err-Above.is at c.in-Err-Above.field-0-is)) (stands-end t r.place r.none)

pub returns-in-Err-Below : goal.returns-in-Err-Below
returns-in-Err-Below c = let r = c.end-in-Err-Below.ensures in
    λ t m h i vs ms e vs' ms' l. settled-below _ (program_of_table t) _ _ _ (acts-here _ h) vs ms e vs' ms' l
    (told-below c.in-Err-Below.is (rw c.in-Err-Below.is at c.in-Err-Below.field-0-is)) (stands-end t r.place r.none)

pub returns-in-Ok-None : goal.returns-in-Ok-None
returns-in-Ok-None c = λ t m h i vs ms e vs' ms' l. settled-stay _ (program_of_table t) _ _ _ (acts-here _ h) vs ms e vs' ms' l (told-stay c.in-Ok-None.is (rw c.in-Ok-None.is at c.in-Ok-None.field-0-is)) (stands-here _ h i)

pub returns-in-Ok-Some : goal.returns-in-Ok-Some
returns-in-Ok-Some c = let q = told-move c.in-Ok-Some.is (rw c.in-Ok-Some.is at c.in-Ok-Some.field-0-is) in
    λ t m h i vs ms e vs' ms' l. settled-move _ (program_of_table t) _ _ _ (acts-here _ h) vs ms e vs' ms' l q (c.moved.ensures t (movable-as _ q m))

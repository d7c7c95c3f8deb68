use mathlib.Core.Path.{refl}
use native.Mathlib.Omega.{arith}
use Rattle.schedule_read.proofs.Passing.{tell-next}
use Rattle.schedule_read.proofs.Stages.{told-all, by-11, by-34, by-12, nodes-passed}
use Rattle.schedule_read.proofs.call.checked.Goals as goal

pub one-named-requires : goal.one-named-requires
one-named-requires c = c.requires.1.room

pub one-read-requires : goal.one-read-requires
one-read-requires c = c.requires.1.at.few

pub loop-i-preserved : goal.loop-i-preserved
loop-i-preserved c = let g = c.loop-i.invariant in let x = c.at-x.ensures in record {
  named = λ ed cs d. tell-next _ c.loop-i-test.true (g.named ed cs d) (rw (x.kind, x.payload) at (c.one-named.ensures cs d)) refl;
  parted = λ ed qs d. tell-next _ c.loop-i-test.true (g.parted ed qs d) (rw (x.kind, x.payload) at (c.one-parted.ensures qs d)) refl;
  reads = λ ed. tell-next _ c.loop-i-test.true (g.reads ed) (rw (x.kind, x.payload) at (c.one-read.ensures ed)) refl;
}

pub returns-then-not-named : goal.returns-then-not-named
returns-then-not-named c = let g = c.loop-i.invariant in
    λ ed ns d p e. by-11 ed (told-all ed (omega arith) (g.named ed) (g.parted ed) (c.read-read.ensures ed) (g.reads ed)) ns d p e c.if-not-named.true

pub returns-then-not-parted : goal.returns-then-not-parted
returns-then-not-parted c = let g = c.loop-i.invariant in
    λ ed ns d p e. by-34 ed (told-all ed (omega arith) (g.named ed) (g.parted ed) (c.read-read.ensures ed) (g.reads ed)) ns d p e c.if-not-named.false c.if-not-parted.true

pub returns-then-not-read : goal.returns-then-not-read
returns-then-not-read c = let g = c.loop-i.invariant in
    λ ed ns d p e. by-12 ed (told-all ed (omega arith) (g.named ed) (g.parted ed) (c.read-read.ensures ed) (g.reads ed)) ns d p e c.if-not-named.false c.if-not-parted.false c.if-not-read.true

pub returns : goal.returns
returns c = let g = c.loop-i.invariant in
    λ ed ns d p e. nodes-passed ed (told-all ed (omega arith) (g.named ed) (g.parted ed) (c.read-read.ensures ed) (g.reads ed)) ns d p e c.if-not-named.false c.if-not-parted.false c.if-not-read.false

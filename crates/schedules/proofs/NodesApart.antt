-- What stands in a part of a tree, and in which of a PARALLEL's children.
use mathlib.Core.Path.{◌≡◌}
use mathlib.Core.List.{[], ◌∷◌}
use Prim.Native.Nat.{ℕ, suc, ◌<◌}
use native.Mathlib.Omega.{arith}
use Rattle.schedules.specs.Trees.{Tree, Forest, par, cons}
use Rattle.schedules.specs.Residuals.{acting_at}
use Rattle.schedules.specs.IndependenceRules.{NthChild, nth_here, nth_later, Within, itself, in_body, in_first, in_second, in_sequence, in_parallel, NodeIn, DifferentChildren}

-- ---- what is in a part is in the whole
within_on : {t u v : Tree} → Within t u → Within u v → Within t v
within_on h itself = h
within_on h (in_body k) = in_body (within_on h k)
within_on h (in_first k) = in_first (within_on h k)
within_on h (in_second k) = in_second (within_on h k)
within_on h (in_sequence c k) = in_sequence c (within_on h k)
within_on h (in_parallel c k) = in_parallel c (within_on h k)

pub node-up : {n : ℕ} {t u : Tree} → Within t u → NodeIn n t → NodeIn n u
node-up w h = record { own = h.own; within = within_on h.within w; is_own = h.is_own }

pub different-up : {a b : ℕ} {t u : Tree} → Within t u → DifferentChildren a b t → DifferentChildren a b u
different-up w h = record {
  first = h.first;
  others = h.others;
  somewhere = within_on h.somewhere w;
  i = h.i;
  j = h.j;
  different = h.different;
  one = h.one;
  other = h.other;
  is_one = h.is_one;
  is_other = h.is_other;
  a_in = h.a_in;
  b_in = h.b_in;
}

-- a node stands in its own tree
pub own-node : {n m : ℕ} (t : Tree) → acting_at t ≡ m ∷ [] → n ≡ m → NodeIn n t
own-node t e h = record { own = t; within = itself; is_own = rw h e }

-- one of these trees has it
pub record Some (P : Tree → Type 0) (ts : Forest) : Type 0 where
  pub i : ℕ
  pub child : Tree
  pub is_child : NthChild child ts i
  pub has : P child

module _ {P : Tree → Type 0} {t : Tree} {ts : Forest} where
  pub this-has : P t → Some P (cons t ts)
  this-has h = record { i = 0; child = t; is_child = nth_here; has = h }

  pub later-has : Some P ts → Some P (cons t ts)
  later-has h = record { i = suc h.i; child = h.child; is_child = nth_later h.is_child; has = h.has }

-- two of these trees, the one before the other
pub record Two (a b : ℕ) (ts : Forest) : Type 0 where
  pub i : ℕ
  pub j : ℕ
  pub before : i < j
  pub one : Tree
  pub other : Tree
  pub is_one : NthChild one ts i
  pub is_other : NthChild other ts j
  pub a_in : NodeIn a one
  pub b_in : NodeIn b other

pub two-now : {a b : ℕ} {t : Tree} {ts : Forest} → NodeIn a t → Some (NodeIn b) ts → Two a b (cons t ts)
two-now h k = record {
  i = 0;
  j = suc k.i;
  before = omega arith;
  one = _;
  other = k.child;
  is_one = nth_here;
  is_other = nth_later k.is_child;
  a_in = h;
  b_in = k.has;
}

pub two-later : {a b : ℕ} {t : Tree} {ts : Forest} → Two a b ts → Two a b (cons t ts)
two-later h = record {
  i = suc h.i;
  j = suc h.j;
  before = let k = h.before in omega arith;
  one = h.one;
  other = h.other;
  is_one = nth_later h.is_one;
  is_other = nth_later h.is_other;
  a_in = h.a_in;
  b_in = h.b_in;
}

module _ {a b : ℕ} {t : Tree} {ts : Forest} where
  pub different-here : Two a b (cons t ts) → DifferentChildren a b (par t ts)
  different-here h = record {
    first = t;
    others = ts;
    somewhere = itself;
    i = h.i;
    j = h.j;
    different = λ e. (let k = h.before in omega arith);
    one = h.one;
    other = h.other;
    is_one = h.is_one;
    is_other = h.is_other;
    a_in = h.a_in;
    b_in = h.b_in;
  }

  pub different-turned : Two b a (cons t ts) → DifferentChildren a b (par t ts)
  different-turned h = record {
    first = t;
    others = ts;
    somewhere = itself;
    i = h.j;
    j = h.i;
    different = λ e. (let k = h.before in omega arith);
    one = h.other;
    other = h.one;
    is_one = h.is_other;
    is_other = h.is_one;
    a_in = h.b_in;
    b_in = h.a_in;
  }

  pub different-below : Some (DifferentChildren a b) (cons t ts) → DifferentChildren a b (par t ts)
  different-below h = different-up (in_parallel h.is_child itself) h.has

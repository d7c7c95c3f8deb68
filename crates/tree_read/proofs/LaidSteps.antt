-- A tree that lies in arrays: entries that do not change it, and a root over its children.
use mathlib.Core.Path.{◌≡◌, sym, ◌∙◌, subst}
use mathlib.Core.List.{List}
use mathlib.Core.Option.{some}
use Prim.Native.Nat.{ℕ, suc, ◌≤◌, ◌<◌}
use native.Mathlib.Omega.{arith}
use lib.ListN.{length, get_or}
use Rattle.semantics.proofs.Facts.{none-not-some, some_is}
use Rattle.schedules.specs.Nodes.{Node, sequence, parallel, while_do, if_else, continue_until, reset, reinitial, switch_to, stop_all}
use Rattle.schedules.specs.Trees.{Tree, Forest, loop, branch, seq, par, nil, cons, of_none, of_one, of_two, of_some, tree_from}
use Rattle.schedules.specs.Laid.{NodeRow, Laid, LaidF, laid_leaf, laid-halt, laid-loop, laid-branch, laid-seq, laid-par, laid_nil, laid_cons}
use Rattle.tree_read.proofs.NodeKinds.{kind_number}

-- ---- where a tree ends
module _ {ks es : List ℕ} where
  pub laid_end : {t : Tree} {n e : ℕ} → Laid ks es t n e → get_or es n 0 ≡ e
  laid_end (laid_leaf r q p) = r.ends
  laid_end (laid-halt r q) = r.ends
  laid_end (laid-loop r h) = r.ends
  laid_end (laid-branch r h k) = r.ends
  laid_end (laid-seq r h) = r.ends
  laid_end (laid-par r h) = r.ends

  mutual
    laid-below : {t : Tree} {n e : ℕ} → Laid ks es t n e → n < e
    laid-below (laid_leaf r q p) = omega arith
    laid-below (laid-halt r q) = omega arith
    laid-below (laid-loop r h) = let q = laid-below h in omega arith
    laid-below (laid-branch r h k) = let q = laid-below h in let s = laid-below k in omega arith
    laid-below (laid-seq r h) = laid_f-below h
    laid-below (laid-par r h) = laid_f-below h

    laid_f-below : {ts : Forest} {c e : ℕ} → LaidF ks es ts c e → c ≤ e
    laid_f-below (laid_nil q) = omega arith
    laid_f-below (laid_cons p q) = let u = laid-below p in let v = laid_f-below q in omega arith

-- ---- the same entries from n up to m
pub record Same (e e' : List ℕ) (n m : ℕ) : Type 0 where
  pub long : length e' ≡ length e
  pub at : (i : ℕ) → n ≤ i → i < m → get_or e' i 0 ≡ get_or e i 0

same-part : {e e' : List ℕ} {n m n' m' : ℕ} → Same e e' n m → n ≤ n' → m' ≤ m → Same e e' n' m'
same-part s a b = record { long = s.long; at = λ i h k. s.at i (omega arith) (omega arith) }

module _ {ks e e' : List ℕ} where
  row_same : {n k m : ℕ} → NodeRow ks e n k m → Same e e' n m → n < m → NodeRow ks e' n k m
  row_same {n = n} r s h = record { in_kinds = r.in_kinds; in_ends = omega (arith, r.in_ends, s.long); kind = r.kind; ends = s.at n (omega arith) h ∙ r.ends }

  mutual
    pub laid_same : {t : Tree} {n m : ℕ} → Laid ks e t n m → Same e e' n m → Laid ks e' t n m
    laid_same (laid_leaf r q p) s = laid_leaf (row_same r s (omega arith)) q p
    laid_same (laid-halt r q) s = laid-halt (row_same r s (omega arith)) q
    laid_same (laid-loop r h) s = let a = laid-below h in laid-loop (row_same r s (omega arith)) (laid_same h (same-part s (omega arith) (omega arith)))
    laid_same (laid-branch r h k) s =
        let a = laid-below h in
        let b = laid-below k in
        laid-branch (row_same r s (omega arith)) (laid_same h (same-part s (omega arith) (omega arith))) (laid_same k (same-part s (omega arith) (omega arith)))
    laid_same (laid-seq r h) s = let a = laid_f-below h in laid-seq (row_same r s (omega arith)) (laid_f-same h (same-part s (omega arith) (omega arith)))
    laid_same (laid-par r h) s = let a = laid_f-below h in laid-par (row_same r s (omega arith)) (laid_f-same h (same-part s (omega arith) (omega arith)))

    pub laid_f-same : {ts : Forest} {n m : ℕ} → LaidF ks e ts n m → Same e e' n m → LaidF ks e' ts n m
    laid_f-same (laid_nil q) s = laid_nil q
    laid_f-same (laid_cons p q) s =
        let a = laid-below p in
        let b = laid_f-below q in
        laid_cons (laid_same p (same-part s (omega arith) (omega arith))) (laid_f-same q (same-part s (omega arith) (omega arith)))

-- ---- a root over its children
module _ {ks e : List ℕ} {n m : ℕ} where
  root_none : {t u : Tree} (ts : Forest) → (m ≡ suc n → Laid ks e u n m) → of_none u ts ≡ some t → LaidF ks e ts (suc n) m → Laid ks e t n m
  unfolding of_none
  root_none nil f g (laid_nil q) = subst (λ t. Laid ks e t n m) (some_is g) (f (sym q))
  root_none (cons u us) f g l = none-not-some g

  root-loop : {t : Tree} (ts : Forest) → NodeRow ks e n 3 m → of_one (loop n) ts ≡ some t → LaidF ks e ts (suc n) m → Laid ks e t n m
  unfolding of_one
  root-loop nil r g l = none-not-some g
  root-loop (cons u nil) r g (laid_cons p (laid_nil q)) = subst (λ t. Laid ks e t n m) (some_is g) (laid-loop r (subst (Laid ks e u (suc n)) q p))
  root-loop (cons u (cons v vs)) r g l = none-not-some g

  root-branch : {t : Tree} (ts : Forest) → NodeRow ks e n 4 m → of_two (branch n) ts ≡ some t → LaidF ks e ts (suc n) m → Laid ks e t n m
  unfolding of_two
  root-branch nil r g l = none-not-some g
  root-branch (cons u nil) r g l = none-not-some g
  root-branch (cons u (cons v nil)) r g (laid_cons {m = c} p (laid_cons q (laid_nil z))) = subst (λ t. Laid ks e t n m) (some_is g) (laid-branch r p (subst (Laid ks e v c) z q))
  root-branch (cons u (cons v (cons w ws))) r g l = none-not-some g

  root-seq : {t : Tree} (ts : Forest) → NodeRow ks e n 1 m → of_some seq ts ≡ some t → LaidF ks e ts (suc n) m → Laid ks e t n m
  unfolding of_some
  root-seq nil r g l = none-not-some g
  root-seq (cons u us) r g l = subst (λ t. Laid ks e t n m) (some_is g) (laid-seq r l)

  root-par : {t : Tree} (ts : Forest) → NodeRow ks e n 2 m → of_some par ts ≡ some t → LaidF ks e ts (suc n) m → Laid ks e t n m
  unfolding of_some
  root-par nil r g l = none-not-some g
  root-par (cons u us) r g l = subst (λ t. Laid ks e t n m) (some_is g) (laid-par r l)

  pub laid_root : (x : Node) (ts : Forest) {t : Tree} → tree_from n x ts ≡ some t → NodeRow ks e n (kind_number x) m → LaidF ks e ts (suc n) m → Laid ks e t n m
  unfolding tree_from kind_number
  laid_root (sequence k) ts g r l = root-seq ts r g l
  laid_root (parallel k) ts g r l = root-par ts r g l
  laid_root (while_do c) ts g r l = root-loop ts r g l
  laid_root (if_else c) ts g r l = root-branch ts r g l
  laid_root (continue_until c) ts g r l = root_none ts (λ q. laid_leaf r q (record { low = omega arith; high = omega arith })) g l
  laid_root (reset v c) ts g r l = root_none ts (λ q. laid_leaf r q (record { low = omega arith; high = omega arith })) g l
  laid_root (reinitial v c) ts g r l = root_none ts (λ q. laid_leaf r q (record { low = omega arith; high = omega arith })) g l
  laid_root (switch_to s k) ts g r l = root_none ts (λ q. laid_leaf r q (record { low = omega arith; high = omega arith })) g l
  laid_root stop_all ts g r l = root_none ts (λ q. laid-halt r q) g l

-- A tree that lies in two arrays of ends has the same entries in both: a contract by `TreeAt` leaves nothing of the answer open.
use mathlib.Core.Path.{◌≡◌, refl, sym, ap₂, ◌∙◌, subst}
use mathlib.Core.Bool.{Bool, true, false}
use mathlib.Core.List.{List, [], ◌∷◌}
use Prim.Native.Nat.{ℕ, suc, ◌≤◌, ◌<◌}
use native.Mathlib.Omega.{arith}
use borrow.Author.Tests.{leb-true, leb-false}
use lib.Dec.{leb}
use lib.ListN.{length, get_or}
use Rattle.schedules.specs.Trees.{Tree, Forest, leaf, halt, loop, branch, seq, par, nil, cons}
use Rattle.schedules.specs.Laid.{NodeRow, Laid, LaidF, laid_leaf, laid-halt, laid-loop, laid-branch, laid-seq, laid-par, laid_nil, laid_cons}
use Rattle.tree_read.specs.Ends.{TreeAt}

record Told (es fs : List ℕ) (n e f : ℕ) : Type 0 where
  pub end : e ≡ f
  pub at : (i : ℕ) → n ≤ i → i < e → get_or es i 0 ≡ get_or fs i 0

-- nothing, a node and then its children, one after the other
told_none : {es fs : List ℕ} {n e f : ℕ} → n ≡ e → n ≡ f → Told es fs n e f
told_none p q = record { end = sym p ∙ q; at = λ i h l. absurd (omega arith) }

told-root : {ks es fs : List ℕ} {n k j e f : ℕ} → NodeRow ks es n k e → NodeRow ks fs n j f → Told es fs (suc n) e f → Told es fs n e f
told-root {es = es} {fs = fs} {n = n} {e = e} r s t = record { end = t.end; at = λ i h l. go i (leb (suc n) i) refl h l }
  where
    go : (i : ℕ) (b : Bool) → leb (suc n) i ≡ b → n ≤ i → i < e → get_or es i 0 ≡ get_or fs i 0
    go i true q h l = t.at i (leb-true (suc n) i q) l
    go i false q h l =
        let z = leb-false (suc n) i q in
        let here : n ≡ i = omega arith in
        subst (λ j. get_or es j 0 ≡ get_or fs j 0) here (r.ends ∙ t.end ∙ sym s.ends)

told-both : {es fs : List ℕ} {n m k e f : ℕ} → Told es fs n m k → Told es fs m e f → Told es fs n e f
told-both {es} {fs} {n} {m} {e = e} s t = record { end = t.end; at = λ i h l. go i (leb m i) refl h l }
  where
    go : (i : ℕ) (b : Bool) → leb m i ≡ b → n ≤ i → i < e → get_or es i 0 ≡ get_or fs i 0
    go i true q h l = t.at i (leb-true m i q) l
    go i false q h l = s.at i h (leb-false m i q)

-- what a tree that lies in the arrays tells by its form
abbrev Opened : List ℕ → List ℕ → Tree → ℕ → ℕ → Type 0
Opened ks es (leaf c) n e = (k : ℕ) × (NodeRow ks es n k e × (e ≡ suc n))
Opened ks es (halt c) n e = NodeRow ks es n 9 e × (e ≡ suc n)
Opened ks es (loop c t) n e = NodeRow ks es n 3 e × Laid ks es t (suc n) e
Opened ks es (branch c t u) n e = NodeRow ks es n 4 e × ((m : ℕ) × (Laid ks es t (suc n) m × Laid ks es u m e))
Opened ks es (seq t ts) n e = NodeRow ks es n 1 e × LaidF ks es (cons t ts) (suc n) e
Opened ks es (par t ts) n e = NodeRow ks es n 2 e × LaidF ks es (cons t ts) (suc n) e

abbrev OpenedF : List ℕ → List ℕ → Forest → ℕ → ℕ → Type 0
OpenedF ks es nil n e = n ≡ e
OpenedF ks es (cons t ts) n e = (m : ℕ) × (Laid ks es t n m × LaidF ks es ts m e)

opened : {ks es : List ℕ} {t : Tree} {n e : ℕ} → Laid ks es t n e → Opened ks es t n e
opened (laid_leaf r q p) = (_, (r, q))
opened (laid-halt r q) = (r, q)
opened (laid-loop r h) = (r, h)
opened (laid-branch r h k) = (r, (_, (h, k)))
opened (laid-seq r h) = (r, h)
opened (laid-par r h) = (r, h)

opened_f : {ks es : List ℕ} {ts : Forest} {n e : ℕ} → LaidF ks es ts n e → OpenedF ks es ts n e
opened_f (laid_nil p) = p
opened_f (laid_cons p q) = (_, (p, q))

module _ {ks es fs : List ℕ} where
  mutual
    laid-told : {t : Tree} {n e f : ℕ} → Laid ks es t n e → Opened ks fs t n f → Told es fs n e f
    laid-told (laid_leaf r q p) o = told-root r o.1.0 (told_none (sym q) (sym o.1.1))
    laid-told (laid-halt r q) o = told-root r o.0 (told_none (sym q) (sym o.1))
    laid-told (laid-loop r h) o = told-root r o.0 (laid-told h (opened o.1))
    laid-told {f = f} (laid-branch {u = u} r h k) o = let a = laid-told h (opened o.1.1.0) in told-root r o.0 (told-both a (laid-told k (opened (subst (λ n. Laid ks fs u n f) (sym a.end) o.1.1.1))))
    laid-told (laid-seq r h) o = told-root r o.0 (laid_f-told h (opened_f o.1))
    laid-told (laid-par r h) o = told-root r o.0 (laid_f-told h (opened_f o.1))

    laid_f-told : {ts : Forest} {n e f : ℕ} → LaidF ks es ts n e → OpenedF ks fs ts n f → Told es fs n e f
    laid_f-told (laid_nil p) o = told_none p o
    laid_f-told {f = f} (laid_cons {ts = ts} p q) o = let a = laid-told p (opened o.1.0) in told-both a (laid_f-told q (opened_f (subst (λ n. LaidF ks fs ts n f) (sym a.end) o.1.1)))

-- ---- arrays with the same entries
same-list : (l m : List ℕ) → length l ≡ length m → ((i : ℕ) → get_or l i 0 ≡ get_or m i 0) → l ≡ m
same-list [] [] e f = refl
same-list [] (y ∷ m) e f = absurd (omega arith)
same-list (x ∷ l) [] e f = absurd (omega arith)
same-list (x ∷ l) (y ∷ m) e f = ap₂ (λ (a : ℕ) (k : List ℕ). a ∷ k) (f 0) (same-list l m (omega arith) (λ i. f (suc i)))

pub one_answer : {kinds : List ℕ} {count : ℕ} {t : Tree} {es fs : List ℕ} → TreeAt kinds count t es → TreeAt kinds count t fs → es ≡ fs
one_answer {count = count} {es = es} {fs = fs} a b = same-list es fs (a.full ∙ sym b.full) (λ i. go i (leb count i) refl)
  where
    go : (i : ℕ) (t : Bool) → leb count i ≡ t → get_or es i 0 ≡ get_or fs i 0
    go i true e = a.behind i (leb-true count i e) ∙ sym (b.behind i (leb-true count i e))
    go i false e = let z = leb-false count i e in let w = a.whole in (laid-told a.lies.laid (opened b.lies.laid)).at i (omega arith) (omega arith)

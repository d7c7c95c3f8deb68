-- Condition 10: the nodes are read as a tree just where they are that tree, written in preorder.
use mathlib.Core.Path.{◌≡◌, refl, sym, ap, subst, ◌∙◌}
use mathlib.Core.Logic.{◌↔◌}
use mathlib.Core.List.{List, [], ◌∷◌, ◌++◌, append_assoc, append-nil}
use mathlib.Core.Option.{Option, none, some}
use Prim.Native.Nat.{ℕ, zero, suc, ◌+◌, ◌≤◌}
use native.Mathlib.Nat.{le_refl}
use native.Mathlib.Omega.{arith}
use lib.ListN.{length, length-append}
use Rattle.semantics.proofs.Facts.{none-not-some, some_is}
use Rattle.schedules.specs.Nodes.{Node, sequence, parallel, while_do, if_else, continue_until, reset, reinitial, switch_to, stop_all}
use Rattle.schedules.specs.Trees.{Tree, Forest, nil, cons, children, of_none, of_one, of_two, of_some, tree_from, Walked, lost, walked, onward, found, read_forest, read_tree, when_none_left, tree_of}
use Rattle.schedules.specs.Preorder.{forest_length, Written, WrittenAll, a_continue, a_reset, a_reinitial, a_switch, a_stop, a_while, an_if, a_sequence, a_parallel, no-tree, one_tree as next-tree}

-- ---- a walk taken apart
lost-not-walked : {A C : Type 0} {a : A} {m : ℕ} {ms : List Node} → lost ≡ walked a m ms → C
lost-not-walked h = let z : ◌≡◌ {A = ℕ} 0 1 = cc in absurd (omega arith)

walked-value : {A : Type 0} {a b : A} {m n : ℕ} {ms ns : List Node} → walked a m ms ≡ walked b n ns → a ≡ b
walked-value h = cc

walked-number : {A : Type 0} {a b : A} {m n : ℕ} {ms ns : List Node} → walked a m ms ≡ walked b n ns → m ≡ n
walked-number h = cc

walked-rest : {A : Type 0} {a b : A} {m n : ℕ} {ms ns : List Node} → walked a m ms ≡ walked b n ns → ms ≡ ns
walked-rest h = cc

record Onward {A B : Type 0} (w : Walked A) (f : A → ℕ → List Node → Walked B) (b : B) (l : ℕ) (ls : List Node) : Type 0 where
  value : A
  number : ℕ
  rest : List Node
  first : w ≡ walked value number rest
  then : f value number rest ≡ walked b l ls

went_on : {A B : Type 0} (w : Walked A) (f : A → ℕ → List Node → Walked B) {b : B} {l : ℕ} {ls : List Node} → onward w f ≡ walked b l ls → Onward w f b l ls
unfolding onward
went_on lost f h = lost-not-walked h
went_on (walked a m ms) f h = record { value = a; number = m; rest = ms; first = refl; then = h }

go_on : {A B : Type 0} {w : Walked A} {a : A} {m : ℕ} {ms : List Node} (f : A → ℕ → List Node → Walked B) → w ≡ walked a m ms → onward w f ≡ f a m ms
unfolding onward
go_on f e = rw e refl

was-found : {A : Type 0} (o : Option A) {m : ℕ} {ms : List Node} {a : A} {l : ℕ} {ls : List Node} → found o m ms ≡ walked a l ls → (o ≡ some a) × (m ≡ l) × (ms ≡ ls)
unfolding found
was-found none h = lost-not-walked h
was-found (some b) h = (ap some (walked-value h), walked-number h, walked-rest h)

none_left : (w : Walked Tree) {t : Tree} → when_none_left w ≡ some t → (m : ℕ) × (w ≡ walked t m [])
unfolding when_none_left
none_left lost h = none-not-some h
none_left (walked t m []) h = (m, ap (λ x. walked x m []) (some_is h))
none_left (walked t m (x ∷ ms)) h = none-not-some h

-- ---- a node and its children, written
-- the children of a node are as many as it says, and make its tree
pub record Rooted (t : Tree) (n : ℕ) (x : Node) (ts : Forest) : Type 0 where
  pub many : forest_length ts ≡ children x
  pub made : tree_from n x ts ≡ some t

pub only_one : {t : Tree} {n : ℕ} {ns : List Node} → WrittenAll (cons t nil) n ns → Written t n ns
only_one {t} {n} (next-tree {ms = ms} w no-tree e) = subst (Written t n) (sym (append-nil ms) ∙ sym e) w

pub one_only : {t : Tree} {n : ℕ} {ns : List Node} → Written t n ns → WrittenAll (cons t nil) n ns
one_only {ns = ns} w = next-tree w no-tree (sym (append-nil ns))

pub rooted-written : {t : Tree} {n : ℕ} (x : Node) (ts : Forest) {ns : List Node} → Rooted t n x ts → WrittenAll ts (suc n) ns → Written t n (x ∷ ns)
unfolding children tree_from of_none of_one of_two of_some
rooted-written (sequence k) nil r w = none-not-some r.made
rooted-written {n = n} (sequence k) (cons t ts) {ns} r w = subst (λ t. Written t n (sequence k ∷ ns)) (some_is r.made) (a_sequence w (sym r.many))
rooted-written (parallel k) nil r w = none-not-some r.made
rooted-written {n = n} (parallel k) (cons t ts) {ns} r w = subst (λ t. Written t n (parallel k ∷ ns)) (some_is r.made) (a_parallel w (sym r.many))
rooted-written (while_do c) nil r w = none-not-some r.made
rooted-written {n = n} (while_do c) (cons t nil) {ns} r w = subst (λ t. Written t n (while_do c ∷ ns)) (some_is r.made) (a_while (only_one w))
rooted-written (while_do c) (cons t (cons u us)) r w = none-not-some r.made
rooted-written (if_else c) nil r w = none-not-some r.made
rooted-written (if_else c) (cons t nil) r w = none-not-some r.made
rooted-written {n = n} (if_else c) (cons t (cons u nil)) {ns} r (next-tree v w e) = subst (λ t. Written t n (if_else c ∷ ns)) (some_is r.made) (an_if v (only_one w) e)
rooted-written (if_else c) (cons t (cons u (cons v vs))) r w = none-not-some r.made
rooted-written {n = n} (continue_until c) nil r no-tree = subst (λ t. Written t n (continue_until c ∷ [])) (some_is r.made) a_continue
rooted-written (continue_until c) (cons t ts) r w = none-not-some r.made
rooted-written {n = n} (reset v e) nil r no-tree = subst (λ t. Written t n (reset v e ∷ [])) (some_is r.made) a_reset
rooted-written (reset v e) (cons t ts) r w = none-not-some r.made
rooted-written {n = n} (reinitial v e) nil r no-tree = subst (λ t. Written t n (reinitial v e ∷ [])) (some_is r.made) a_reinitial
rooted-written (reinitial v e) (cons t ts) r w = none-not-some r.made
rooted-written {n = n} (switch_to s m) nil r no-tree = subst (λ t. Written t n (switch_to s m ∷ [])) (some_is r.made) a_switch
rooted-written (switch_to s m) (cons t ts) r w = none-not-some r.made
rooted-written {n = n} stop_all nil r no-tree = subst (λ t. Written t n (stop_all ∷ [])) (some_is r.made) a_stop
rooted-written stop_all (cons t ts) r w = none-not-some r.made

-- the first node of a written tree, its children and their nodes
pub record Headed (t : Tree) (n : ℕ) (ns : List Node) : Type 0 where
  pub node : Node
  pub trees : Forest
  pub rest : List Node
  pub split : ns ≡ node ∷ rest
  pub rooted : Rooted t n node trees
  pub written : WrittenAll trees (suc n) rest

headed : {t : Tree} {n : ℕ} {x : Node} {ts : Forest} {ns : List Node} → forest_length ts ≡ children x → tree_from n x ts ≡ some t → WrittenAll ts (suc n) ns → Headed t n (x ∷ ns)
headed {x = x} {ts = ts} {ns = ns} e f w = record { node = x; trees = ts; rest = ns; split = refl; rooted = record { many = e; made = f }; written = w }

pub written-headed : {t : Tree} {n : ℕ} {ns : List Node} → Written t n ns → Headed t n ns
unfolding forest_length children tree_from of_none of_one of_two of_some
written-headed a_continue = headed refl refl no-tree
written-headed a_reset = headed refl refl no-tree
written-headed a_reinitial = headed refl refl no-tree
written-headed a_switch = headed refl refl no-tree
written-headed a_stop = headed refl refl no-tree
written-headed (a_while w) = headed refl refl (one_only w)
written-headed (an_if v w e) = headed refl refl (next-tree v (one_only w) e)
written-headed (a_sequence w e) = headed (sym e) refl w
written-headed (a_parallel w e) = headed (sym e) refl w

-- ---- what is read is written
-- the nodes that were read stand at the front, and the numbers go on behind them
pub record Front (W : List Node → Type 0) (n : ℕ) (ns : List Node) (m : ℕ) (ms : List Node) : Type 0 where
  pub nodes : List Node
  pub parted : ns ≡ nodes ++ ms
  pub numbered : m ≡ n + length nodes
  pub written : W nodes

abbrev pub Sound : (ℕ → List Node → Walked Tree) → Type 0
Sound r = (n : ℕ) (ns : List Node) (t : Tree) (m : ℕ) (ms : List Node) → r n ns ≡ walked t m ms → Front (Written t n) n ns m ms

-- a tree and then others
joined : {t : Tree} {ts us : Forest} {n m l k : ℕ} {ns ms ls ks : List Node} → cons t ts ≡ us → Front (Written t n) n ns m ms → Front (WrittenAll ts m) m ms l ls → l ≡ k → ls ≡ ks →
    Front (WrittenAll us n) n ns k ks
joined {t} {ts} {us} {n} {m} {l} {k} {ns} {ms} {ls} {ks} e f g p q = record {
  nodes = f.nodes ++ g.nodes;
  parted = f.parted ∙ ap (λ s. f.nodes ++ s) (g.parted ∙ ap (λ s. g.nodes ++ s) q) ∙ sym (append_assoc f.nodes g.nodes ks);
  numbered = let i = f.numbered in let j = g.numbered in let u = length-append f.nodes g.nodes in omega arith;
  written = subst (λ us. WrittenAll us n (f.nodes ++ g.nodes)) e (next-tree f.written (subst (λ i. WrittenAll ts i g.nodes) f.numbered g.written) refl);
}

pub forest-sound : (r : ℕ → List Node → Walked Tree) → Sound r → (k n : ℕ) (ns : List Node) {ts : Forest} {m : ℕ} {ms : List Node} → read_forest r k n ns ≡ walked ts m ms →
    (forest_length ts ≡ k) × Front (WrittenAll ts n) n ns m ms
unfolding read_forest forest_length
forest-sound r s zero n ns h =
    let e : nil ≡ _ = walked-value h in
    (ap forest_length (sym e), record { nodes = []; parted = walked-rest h; numbered = let e = walked-number h in omega arith; written = subst (λ ts. WrittenAll ts n []) e no-tree })
forest-sound r s (suc k) n ns {ts} {m} {ms} h =
    let a = went_on (r n ns) _ h in
    let b = went_on (read_forest r k a.number a.rest) _ a.then in
    let e : cons a.value b.value ≡ ts = walked-value b.then in
    let f = s n ns _ _ _ a.first in
    let g = forest-sound r s k _ _ b.first in
    (ap forest_length (sym e) ∙ ap suc g.0, joined e f g.1 (walked-number b.then) (walked-rest b.then))

pub read-written : (d : ℕ) → Sound (read_tree d)
unfolding read_tree
read-written zero n ns t m ms h = lost-not-walked h
read-written (suc d) n [] t m ms h = lost-not-walked h
read-written (suc d) n (x ∷ ns) t m ms h =
    let a = went_on (read_forest (read_tree d) (children x) (suc n) ns) _ h in
    let b = was-found (tree_from n x a.value) a.then in
    let c = forest-sound (read_tree d) (read-written d) (children x) (suc n) ns a.first in
    let f = c.1 in
    let i = f.numbered in
    let k = b.1 in
    record {
      nodes = x ∷ f.nodes;
      parted = ap (λ l. x ∷ l) (f.parted ∙ ap (λ l. f.nodes ++ l) b.2);
      numbered = omega arith;
      written = rooted-written x a.value (record { many = c.0; made = b.0 }) f.written;
    }

-- ---- what is written is read, whatever follows it
-- no tree of at most d nodes is turned away
abbrev pub Complete : ℕ → (ℕ → List Node → Walked Tree) → Type 0
Complete d r = (t : Tree) (n : ℕ) (ps ms : List Node) → Written t n ps → length ps ≤ d → r n (ps ++ ms) ≡ walked t (n + length ps) ms

pub forest-complete : (d : ℕ) (r : ℕ → List Node → Walked Tree) → Complete d r → {ts : Forest} {n : ℕ} {ps : List Node} (ms : List Node) → WrittenAll ts n ps → length ps ≤ d →
    read_forest r (forest_length ts) n (ps ++ ms) ≡ walked ts (n + length ps) ms
unfolding read_forest forest_length
forest-complete d r c {n = n} ms no-tree h = ap (λ k. walked nil k ms) (omega arith)
forest-complete d r c {n = n} {ps = l} ms (next-tree {t = t} {ts = ts} {ms = ps} {ns = qs} w ws e) h =
    let u : length l ≡ length ps + length qs = ap length e ∙ length-append ps qs in
    let i : r n (l ++ ms) ≡ walked t (n + length ps) (qs ++ ms) = rw (e, append_assoc ps qs ms) (c t n ps (qs ++ ms) w (omega arith)) in
    let j = forest-complete d r c ms ws (omega arith) in
    go_on _ i ∙ go_on _ j ∙ ap (λ k. walked (cons t ts) k ms) (omega arith)

headed-read : {t : Tree} {n : ℕ} {x : Node} {ts : Forest} (d : ℕ) (ps ms : List Node) → Rooted t n x ts →
    read_forest (read_tree d) (forest_length ts) (suc n) (ps ++ ms) ≡ walked ts (suc n + length ps) ms → read_tree (suc d) n (x ∷ ps ++ ms) ≡ walked t (n + suc (length ps)) ms
unfolding read_tree found
headed-read {t} {n} {x} {ts} d ps ms r h =
    let i : read_forest (read_tree d) (children x) (suc n) (ps ++ ms) ≡ walked ts (suc n + length ps) ms = rw (← r.many) h in
    go_on _ i ∙ rw r.made (ap (λ k. walked t k ms) (omega arith))

pub written_read : (d : ℕ) → Complete d (read_tree d)
unfolding read_tree
written_read zero t n ps ms w h =
    let k = written-headed w in
    let e : length ps ≡ suc (length k.rest) = ap length k.split in
    absurd (omega arith)
written_read (suc d) t n ps ms w h =
    let k = written-headed w in
    let e : length ps ≡ suc (length k.rest) = ap length k.split in
    let i = forest-complete d (read_tree d) (written_read d) ms k.written (omega arith) in
    let f = headed-read d k.rest ms k.rooted i in
    subst (λ ps. read_tree (suc d) n (ps ++ ms) ≡ walked t (n + length ps) ms) (sym k.split) f

pub one_tree : (ns : List Node) (t : Tree) → (tree_of ns ≡ some t) ↔ Written t 0 ns
unfolding tree_of when_none_left
one_tree ns t = (there, back)
  where
    there : when_none_left (read_tree (length ns) 0 ns) ≡ some t → Written t 0 ns
    there h =
        let a = none_left _ h in
        let f = read-written (length ns) 0 ns t a.0 [] a.1 in
        subst (Written t 0) (sym (append-nil f.nodes) ∙ sym f.parted) f.written

    back : Written t 0 ns → when_none_left (read_tree (length ns) 0 ns) ≡ some t
    back w =
        let e : read_tree (length ns) 0 ns ≡ walked t (0 + length ns) [] = subst (λ l. read_tree (length ns) 0 l ≡ walked t (0 + length ns) []) (append-nil ns) (written_read (length ns) t 0 ns [] w (le_refl (length ns))) in
        rw e refl

-- nodes that are refused are no tree's
pub one-tree-none : {ns : List Node} → tree_of ns ≡ none → (t : Tree) → Written t 0 ns → ⊥
one-tree-none {ns} h t w = none-not-some (sym h ∙ (one_tree ns t).1 w)

-- nodes are at most one tree's
pub one-tree-unique : {ns : List Node} {t u : Tree} → Written t 0 ns → Written u 0 ns → t ≡ u
one-tree-unique {ns} {t} {u} v w = some_is (sym ((one_tree ns t).1 v) ∙ (one_tree ns u).1 w)

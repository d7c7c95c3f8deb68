-- Nodes in preorder, read from the last to the first, make a stack of trees: each node takes its children off and puts its tree there.
use mathlib.Core.Path.{◌≡◌, refl, sym, ap, ap₂, subst, ◌∙◌}
use mathlib.Core.List.{List, [], ◌∷◌, ◌++◌, append_assoc, append-nil}
use Prim.Native.Nat.{ℕ, suc, ◌+◌, ◌≤◌, ◌<◌}
use native.Mathlib.Omega.{arith}
use lib.ListN.{length, length-append}
use Rattle.semantics.proofs.Facts.{some_is}
use Rattle.schedules.specs.Nodes.{Node}
use Rattle.schedules.specs.Trees.{Tree, Forest, leaf, halt, loop, branch, seq, par, nil, cons, children, tree_from}
use Rattle.schedules.specs.Preorder.{forest_length, Written, WrittenAll, no-tree, one_tree as next-tree}
use Rattle.schedules.specs.Preorder.{a_continue, a_reset, a_reinitial, a_switch, a_stop, a_while, an_if, a_sequence, a_parallel}
use Rattle.schedules.proofs.OneTree.{Rooted, written-headed}

-- the first k trees of a stack, and the others
pub data Cut : ℕ → Forest → Forest → Forest → Type 0 where
  cut_none : {ts : Forest} → Cut 0 ts nil ts
  cut_next : {k : ℕ} {t : Tree} {ts cs os : Forest} → Cut k ts cs os → Cut (suc k) (cons t ts) (cons t cs) os

cut-same : {k : ℕ} {ts cs os ds ps : Forest} → Cut k ts cs os → Cut k ts ds ps → (cs ≡ ds) × (os ≡ ps)
cut-same cut_none cut_none = (refl, refl)
cut-same (cut_next {t = t} c) (cut_next d) = let e = cut-same c d in (ap (cons t) e.0, e.1)

-- ---- one node
-- trees on top of a stack
record Joined (cs os : Forest) (n : ℕ) (ns : List Node) : Type 0 where
  all : Forest
  cut : Cut (forest_length cs) all cs os
  written : WrittenAll all n ns

joined : {cs os : Forest} {n m : ℕ} {ms ns : List Node} → WrittenAll cs n ms → WrittenAll os m ns → n + length ms ≡ m → Joined cs os n (ms ++ ns)
unfolding forest_length
joined {os = os} {n} {m} {ns = ns} no-tree w e = record { all = os; cut = cut_none; written = subst (λ i. WrittenAll os i ns) (omega arith) w }
joined {ns = ns} (next-tree {t = t} {ms = is} {ns = js} v c f) w e =
    let i = ap length f ∙ length-append is js in
    let j = joined c w (omega arith) in
    record { all = cons t j.all; cut = cut_next j.cut; written = next-tree v j.written (ap (λ (l : List Node). l ++ ns) f ∙ append_assoc is js ns) }

-- the tree of the first node, and the stack that the others make
pub record Opened (ts : Forest) (n : ℕ) (x : Node) (ns : List Node) : Type 0 where
  pub tree : Tree
  pub trees : Forest
  pub others : Forest
  pub all : Forest
  pub is : ts ≡ cons tree others
  pub rooted : Rooted tree n x trees
  pub cut : Cut (children x) all trees others
  pub written : WrittenAll all (suc n) ns

pub opened : {ts : Forest} {n : ℕ} {x : Node} {ns : List Node} → WrittenAll ts n (x ∷ ns) → Opened ts n x ns
opened {n = n} {x} {ns} (next-tree {t = t} {ts = os} {ms = is} {ns = js} v w e) =
    let h = written-headed v in
    let i : length is ≡ suc (length h.rest) = ap length h.split in
    let f : x ∷ ns ≡ h.node ∷ (h.rest ++ js) = e ∙ ap (λ (l : List Node). l ++ js) h.split in
    let j = joined h.written w (omega arith) in
    let p : h.node ≡ x = cc in
    let q : h.rest ++ js ≡ ns = cc in
    record {
      tree = t;
      trees = h.trees;
      others = os;
      all = j.all;
      is = refl;
      rooted = subst (λ x. Rooted t n x h.trees) p h.rooted;
      cut = subst (λ k. Cut k j.all h.trees os) (h.rooted.many ∙ ap children p) j.cut;
      written = subst (WrittenAll j.all (suc n)) q j.written;
    }

-- ---- two stacks, node by node
-- l numbers from m on become those from k on
abbrev pub Moves : (ℕ → ℕ) → ℕ → ℕ → ℕ → Type 0
Moves f m k l = (i j : ℕ) → m ≤ i → i < m + l → i + k ≡ j + m → f i ≡ j

-- a relation of stacks that one more node keeps
pub record Kept (R : Forest → Forest → Type 0) (f : ℕ → ℕ) : Type 0 where
  pub keeps : {ts us : Forest} {m k : ℕ} (x : Node) {ms ns : List Node} (a : Opened ts m x ms) (b : Opened us k x ns) → f m ≡ k → R a.all b.all → R ts us

-- what the nodes after them make is related, so what they make on top of it is
pub on-top : (R : Forest → Forest → Type 0) (f : ℕ → ℕ) → Kept R f → (zs : List Node) {xs ys : List Node} {ts us : Forest} {m k : ℕ} → Moves f m k (length zs) →
    ((i j : ℕ) (ts us : Forest) → m + length zs ≡ i → k + length zs ≡ j → WrittenAll ts i xs → WrittenAll us j ys → R ts us) → WrittenAll ts m (zs ++ xs) → WrittenAll us k (zs ++ ys) → R ts us
on-top R f s [] h r v w = r _ _ _ _ (omega arith) (omega arith) v w
on-top R f s (z ∷ zs) {m = m} {k = k} h r v w =
    let a = opened v in
    let b = opened w in
    s.keeps z a b (h m k (omega arith) (omega arith) (omega arith)) (on-top R f s zs (λ i j p q e. h i j (omega arith) (omega arith) (omega arith))
    (λ i j ts us p q. r i j ts us (omega arith) (omega arith)) a.written b.written)

no_node : {ts : Forest} {n : ℕ} → WrittenAll ts n [] → ts ≡ nil
no_node no-tree = refl
no_node (next-tree {ms = is} {ns = js} v w e) =
    let h = written-headed v in
    let i : 0 ≡ length is + length js = ap length e ∙ length-append is js in
    let j : length is ≡ suc (length h.rest) = ap length h.split in
    absurd (omega arith)

pub same_nodes : (R : Forest → Forest → Type 0) (f : ℕ → ℕ) → Kept R f → R nil nil → {ns : List Node} {ts us : Forest} {m k : ℕ} → Moves f m k (length ns) →
    WrittenAll ts m ns → WrittenAll us k ns → R ts us
same_nodes R f s r {ns} {ts} {us} {m} {k} h v w =
    let e = sym (append-nil ns) in
    on-top R f s ns h (λ i j ts us p q v w. subst (R ts) (sym (no_node w)) (subst (λ ts. R ts nil) (sym (no_node v)) r)) (subst (WrittenAll ts m) e v) (subst (WrittenAll us k) e w)

one-stack : {ns : List Node} {ts us : Forest} {n : ℕ} → WrittenAll ts n ns → WrittenAll us n ns → ts ≡ us
one-stack = same_nodes ◌≡◌ (λ n. n) (record { keeps = kept }) refl (λ i j p q e. omega arith)
  where
    kept : {ts us : Forest} {m k : ℕ} (x : Node) {ms ns : List Node} (a : Opened ts m x ms) (b : Opened us k x ns) → m ≡ k → a.all ≡ b.all → ts ≡ us
    kept x a b e h =
        let c = cut-same a.cut (subst (λ l. Cut (children x) l b.trees b.others) (sym h) b.cut) in
        let f : a.tree ≡ b.tree = some_is (sym a.rooted.made ∙ ap₂ (λ (i : ℕ) (l : Forest). tree_from i x l) e c.0 ∙ b.rooted.made) in
        a.is ∙ ap₂ cons f c.1 ∙ sym b.is

-- ---- the first trees of a stack
-- trees that are not none have a first
some-tree : (us : Forest) {n l : ℕ} {ns : List Node} → WrittenAll us n ns → forest_length us ≡ suc l → (u : Tree) × (vs : Forest) × WrittenAll (cons u vs) n ns × (forest_length (cons u vs) ≡ suc l)
unfolding forest_length
some-tree nil w e = absurd (omega arith)
some-tree (cons u us) w e = (u, us, w, e)

-- the same nodes, counted from another number
mutual
  unfolding forest_length

  shifted : {t : Tree} {m : ℕ} {ns : List Node} → Written t m ns → (k : ℕ) → (u : Tree) × Written u k ns
  shifted a_continue k = (leaf k, a_continue)
  shifted a_reset k = (leaf k, a_reset)
  shifted a_reinitial k = (leaf k, a_reinitial)
  shifted a_switch k = (leaf k, a_switch)
  shifted a_stop k = (halt k, a_stop)
  shifted (a_while w) k = let b = shifted w (suc k) in (loop k b.0, a_while b.1)
  shifted (an_if {ms = is} v w e) k =
      let a = shifted v (suc k) in
      let b = shifted w (suc k + length is) in
      (branch k a.0 b.0, an_if a.1 b.1 e)
  shifted (a_sequence w f) k =
      let a = shifted-all w (suc k) in
      let b = some-tree a.0 a.1 (sym a.2) in
      (seq b.0 b.1, a_sequence b.2 (f ∙ sym b.3))
  shifted (a_parallel w f) k =
      let a = shifted-all w (suc k) in
      let b = some-tree a.0 a.1 (sym a.2) in
      (par b.0 b.1, a_parallel b.2 (f ∙ sym b.3))

  shifted-all : {ts : Forest} {m : ℕ} {ns : List Node} → WrittenAll ts m ns → (k : ℕ) → (us : Forest) × WrittenAll us k ns × (forest_length ts ≡ forest_length us)
  shifted-all no-tree k = (nil, no-tree, refl)
  shifted-all (next-tree {ms = is} v w e) k =
      let a = shifted v k in
      let b = shifted-all w (k + length is) in
      (cons a.0 b.0, next-tree a.1 b.1 e, ap suc b.2)

what-follows : {ts : Forest} {n : ℕ} (ms ns : List Node) → WrittenAll ts n (ms ++ ns) → (os : Forest) × WrittenAll os (n + length ms) ns
what-follows {ts} {n} [] ns w = (ts, subst (λ i. WrittenAll ts i ns) (omega arith) w)
what-follows {ts = ts} {n = n} (x ∷ ms) ns w = let a = opened w in let b = what-follows {ts = a.all} ms ns a.written in (b.0, subst (λ i. WrittenAll b.0 i ns) (omega arith) b.1)

-- the first k trees of a stack are those of the nodes ms
pub record TopTrees (k : ℕ) (ts : Forest) (n : ℕ) (ms ns : List Node) : Type 0 where
  pub trees : Forest
  pub others : Forest
  pub cut : Cut k ts trees others
  pub written : WrittenAll trees n ms
  pub others_written : WrittenAll others (n + length ms) ns

-- nodes that are so many trees counted from one number are so many from any other
pub top-trees : {vs ts : Forest} {m n : ℕ} {ms ns : List Node} → WrittenAll vs m ms → WrittenAll ts n (ms ++ ns) → TopTrees (forest_length vs) ts n ms ns
top-trees {vs} {ts} {n = n} {ms} {ns} v w =
    let o = what-follows ms ns w in
    let s = shifted-all v n in
    let j = joined s.1 o.1 refl in
    record {
      trees = s.0;
      others = o.0;
      cut = subst (λ k. Cut k ts s.0 o.0) (sym s.2) (subst (λ l. Cut (forest_length s.0) l s.0 o.0) (one-stack j.written w) j.cut);
      written = s.1;
      others_written = o.1;
    }

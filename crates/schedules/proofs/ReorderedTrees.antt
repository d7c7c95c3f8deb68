-- Nodes in another order of PARALLELs' children: one tree as before, of the same size, with the same nodes.
use mathlib.Core.Path.{◌≡◌, refl, sym, ap, ◌∙◌}
use mathlib.Core.Bool.{Bool, true, false, not}
use mathlib.Core.List.{List, [], ◌∷◌, ◌++◌, append-nil}
use mathlib.Core.Option.{Option, none, some, bind}
use Prim.Native.Nat.{ℕ, zero, suc, ◌+◌, ◌≤◌}
use native.Mathlib.Omega.{arith}
use borrow.Author.Tests.{ne_eqb}
use lib.Dec.{eqb}
use lib.ListN.{length, take, drop, length-append}
use Rattle.semantics.specs.Bytes.{every}
use Rattle.semantics.proofs.Facts.{none-not-some}
use Rattle.semantics.proofs.FirstNumber.{bind-some}
use Rattle.schedules.specs.Nodes.{Node, parallel}
use Rattle.schedules.specs.Trees.{Tree, Forest, nil, cons, children, tree_of}
use Rattle.schedules.specs.Preorder.{WrittenAll}
use Rattle.schedules.specs.Sizes.{Size, one, side_by_side, parallel_size, size_of, sizes_of}
use Rattle.schedules.specs.Reordered.{Swapped, Reordered, unchanged, swapped}
use Rattle.schedules.proofs.OneTree.{one_tree, only_one}
use Rattle.schedules.proofs.Counting.{total, total-append}
use Rattle.schedules.proofs.PreorderSizes.{side_swap, as_some, size_from, push, stack_of, written-stack, all-stack, sizes-length, stack-written}

-- ---- two neighbours on the stack
module _ (a b : Size) (l : List Size) where
  parallel-swap : (k : ℕ) (f : List Size) → length f + 2 ≤ k → parallel_size (take k (f ++ (a ∷ b ∷ l))) ≡ parallel_size (take k (f ++ (b ∷ a ∷ l)))
  unfolding parallel_size
  parallel-swap zero f h = absurd (omega arith)
  parallel-swap (suc zero) f h = absurd (omega arith)
  parallel-swap (suc (suc k)) [] h = side_swap a b (parallel_size (take k l))
  parallel-swap (suc (suc k)) (x ∷ f) h = ap (side_by_side x) (parallel-swap (suc k) f (omega arith))

  some-swap : (k : ℕ) (f : List Size) → length f + 2 ≤ k → as_some parallel_size (take k (f ++ (a ∷ b ∷ l))) ≡ as_some parallel_size (take k (f ++ (b ∷ a ∷ l)))
  unfolding as_some
  some-swap zero f h = absurd (omega arith)
  some-swap (suc k) [] h = ap some (parallel-swap (suc k) [] h)
  some-swap (suc k) (x ∷ f) h = ap some (parallel-swap (suc k) (x ∷ f) h)

  drop-swap : (k : ℕ) (f : List Size) → length f + 2 ≤ k → drop k (f ++ (a ∷ b ∷ l)) ≡ drop k (f ++ (b ∷ a ∷ l))
  drop-swap zero f h = absurd (omega arith)
  drop-swap (suc zero) f h = absurd (omega arith)
  drop-swap (suc (suc k)) [] h = refl
  drop-swap (suc (suc k)) (x ∷ f) h = drop-swap (suc k) f (omega arith)

  push-swap : (k : ℕ) (f : List Size) → length f + 2 ≤ k → push (parallel k) (f ++ (a ∷ b ∷ l)) ≡ push (parallel k) (f ++ (b ∷ a ∷ l))
  unfolding push size_from children
  push-swap k f h =
      let e : length (f ++ (a ∷ b ∷ l)) ≡ length (f ++ (b ∷ a ∷ l)) = length-append f (a ∷ b ∷ l) ∙ sym (length-append f (b ∷ a ∷ l)) in
      rw (e, some-swap k f h, drop-swap k f h) refl

-- ---- the stack
under : (zs xs ys : List Node) → stack_of xs ≡ stack_of ys → stack_of (zs ++ xs) ≡ stack_of (zs ++ ys)
unfolding stack_of
under [] xs ys e = e
under (z ∷ zs) xs ys e = ap (λ (o : Option (List Size)). bind o (push z)) (under zs xs ys e)

none-under : (zs xs : List Node) → stack_of xs ≡ none → stack_of (zs ++ xs) ≡ none
unfolding stack_of bind
none-under [] xs e = e
none-under (z ∷ zs) xs e = ap (λ (o : Option (List Size)). bind o (push z)) (none-under zs xs e)

swapped-stack : {ns ms : List Node} → Swapped ns ms → stack_of ns ≡ stack_of ms
unfolding stack_of bind
swapped-stack s = ap stack_of s.here ∙ under s.before _ _ (go (stack_of s.after) refl) ∙ sym (ap stack_of s.there)
  where
    go : (o : Option (List Size)) → stack_of s.after ≡ o →
        stack_of (parallel s.count ∷ (s.first ++ (s.one ++ (s.other ++ s.after)))) ≡ stack_of (parallel s.count ∷ (s.first ++ (s.other ++ (s.one ++ s.after))))
    go none e =
        ap (λ (o : Option (List Size)). bind o (push (parallel s.count))) (none-under s.first _ (none-under s.one _ (none-under s.other _ e)))
        ∙ sym (ap (λ (o : Option (List Size)). bind o (push (parallel s.count))) (none-under s.first _ (none-under s.other _ (none-under s.one _ e))))
    go (some l) e =
        let f = sizes-length s.first_trees in
        let h = s.both in
        bind-some (push (parallel s.count)) (all-stack _ s.first_written (written-stack _ s.one_tree.1 (written-stack _ s.other_tree.1 e)))
        ∙ push-swap (size_of s.one_tree.0) (size_of s.other_tree.0) l s.count (sizes_of s.first_trees) (omega arith)
        ∙ sym (bind-some (push (parallel s.count)) (all-stack _ s.first_written (written-stack _ s.other_tree.1 (written-stack _ s.one_tree.1 e))))

reordered-stack : {ns ms : List Node} → Reordered ns ms → stack_of ns ≡ stack_of ms
reordered-stack unchanged = refl
reordered-stack (swapped r s) = reordered-stack r ∙ swapped-stack s

-- ---- the tree
tree-stack : (ns : List Node) {t : Tree} → tree_of ns ≡ some t → stack_of ns ≡ some (size_of t ∷ [])
unfolding stack_of
tree-stack ns {t} h = ap stack_of (sym (append-nil ns)) ∙ written-stack [] ((one_tree ns t).0 h) refl

stack-tree : (ns : List Node) {a : Size} → stack_of ns ≡ some (a ∷ []) → (t : Tree) × (tree_of ns ≡ some t) × (size_of t ≡ a)
unfolding sizes_of
stack-tree ns {a} e = let s = stack-written 0 ns e in go s.trees s.written s.sizes
  where
    go : (ts : Forest) → WrittenAll ts 0 ns → sizes_of ts ≡ a ∷ [] → (t : Tree) × (tree_of ns ≡ some t) × (size_of t ≡ a)
    go nil w e = let z : ◌≡◌ {A = ℕ} 0 1 = ap length e in absurd (omega arith)
    go (cons t nil) w e = (t, (one_tree ns t).1 (only_one w), cc)
    go (cons t (cons u us)) w e = let z : suc (suc (length (sizes_of us))) ≡ 1 = ap length e in absurd (omega arith)

pub reordered-tree : {ns ms : List Node} {t : Tree} → Reordered ns ms → tree_of ns ≡ some t → (u : Tree) × (tree_of ms ≡ some u) × (size_of u ≡ size_of t)
reordered-tree {ns} {ms} r h = stack-tree ms (sym (reordered-stack r) ∙ tree-stack ns h)

pub reordered-none : {ns ms : List Node} → Reordered ns ms → tree_of ns ≡ none → tree_of ms ≡ none
reordered-none {ns} {ms} r h = go (tree_of ms) refl
  where
    go : (o : Option Tree) → tree_of ms ≡ o → tree_of ms ≡ none
    go none e = e
    go (some u) e = let p = stack-tree ns (reordered-stack r ∙ tree-stack ms e) in none-not-some (sym h ∙ p.1)

-- ---- the nodes
swapped-total : (w : Node → ℕ) {ns ms : List Node} → Swapped ns ms → total w ns ≡ total w ms
unfolding total
swapped-total w s =
    ap (total w) s.here ∙ total-append w s.before _ ∙ ap (λ n. total w s.before + (w (parallel s.count) + n)) (order s.first s.one s.other s.after)
    ∙ sym (total-append w s.before _) ∙ sym (ap (total w) s.there)
  where
    order : (f i j a : List Node) → total w (f ++ (i ++ (j ++ a))) ≡ total w (f ++ (j ++ (i ++ a)))
    order f i j a =
        let b = total-append w f (i ++ (j ++ a)) in
        let c = total-append w i (j ++ a) in
        let d = total-append w j a in
        let e = total-append w f (j ++ (i ++ a)) in
        let g = total-append w j (i ++ a) in
        let h = total-append w i a in
        omega arith

pub reordered-total : (w : Node → ℕ) {ns ms : List Node} → Reordered ns ms → total w ns ≡ total w ms
reordered-total w unchanged = refl
reordered-total w (swapped r s) = reordered-total w r ∙ swapped-total w s

total-length : (ns : List Node) → total (λ x. 1) ns ≡ length ns
unfolding total
total-length [] = refl
total-length (x ∷ ns) = let e = total-length ns in omega arith

pub reordered-length : {ns ms : List Node} → Reordered ns ms → length ns ≡ length ms
reordered-length {ns} {ms} r = sym (total-length ns) ∙ reordered-total (λ x. 1) r ∙ total-length ms

-- how many fail a test
every-none : (f : Node → Bool) (ns : List Node) → every f ns ≡ eqb (total (λ x. one (not (f x))) ns) 0
unfolding every total one
every-none f [] = refl
every-none f (x ∷ ns) = go (f x) (every-none f ns)
  where
    n : ℕ
    n = total (λ x. one (not (f x))) ns

    go : (b : Bool) → every f ns ≡ eqb n 0 → elim b [ true ↦ every f ns | false ↦ false ] ≡ eqb (one (not b) + n) 0
    go true e = let z : 0 + n ≡ n = omega arith in rw z e
    go false e = sym (ne_eqb (1 + n) 0 (λ h. omega arith))

pub reordered-every : (f : Node → Bool) {ns ms : List Node} → Reordered ns ms → every f ns ≡ every f ms
reordered-every f {ns} {ms} r = every-none f ns ∙ ap (λ n. eqb n 0) (reordered-total (λ x. one (not (f x))) r) ∙ sym (every-none f ms)

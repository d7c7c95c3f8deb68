-- Exchanges of neighbours bring the children of a PARALLEL into any order.
use mathlib.Core.Path.{◌≡◌, refl, sym, ap, ap₂, subst, ◌∙◌}
use mathlib.Core.List.Permᴰ.{cons as perm-cons}
use mathlib.Core.List.Permᴰ.{nil as perm-nil}
use mathlib.Core.List.Permᴰ.{swap as perm-swap}
use mathlib.Core.List.Permᴰ.{trans as perm-trans}
use mathlib.Core.List.{List, [], ◌∷◌, ◌++◌, flat_map, append_assoc, append-nil, Permᴰ as Permuted}
use mathlib.Core.Option.{some}
use Prim.Native.Nat.{ℕ, suc, ◌+◌, ◌≤◌}
use native.Mathlib.Omega.{arith}
use lib.ListN.{length, length-append}
use Rattle.semantics.proofs.Facts.{All, all_cons}
use Rattle.schedules.specs.Nodes.{Node, parallel}
use Rattle.schedules.specs.Preorder.{forest_length}
use Rattle.schedules.specs.Sizes.{Size, size_of}
use Rattle.schedules.specs.Reordered.{OneTree, Reordered, unchanged, swapped}
use Rattle.schedules.proofs.PreorderSizes.{stack_of, written-stack, all-stack, sizes-length, stack-written}

reordered-trans : {ns ms ls : List Node} → Reordered ns ms → Reordered ms ls → Reordered ns ls
reordered-trans r unchanged = r
reordered-trans r (swapped q s) = swapped (reordered-trans r q) s

perm-all : {A : Type 0} {P : A → Type 0} {l k : List A} → Permuted l k → All P l → All P k
perm-all perm-nil p = p
perm-all {P = P} (perm-cons e d) (all_cons h p) = all_cons (subst P e h) (perm-all d p)
perm-all {P = P} (perm-swap e f) (all_cons h (all_cons i p)) = all_cons (subst P f i) (all_cons (subst P e h) p)
perm-all (perm-trans d e) p = perm-all e (perm-all d p)

perm-length : {A : Type 0} {l k : List A} → Permuted l k → length l ≡ length k
perm-length perm-nil = refl
perm-length (perm-cons e d) = ap suc (perm-length d)
perm-length (perm-swap e f) = refl
perm-length (perm-trans d e) = perm-length d ∙ perm-length e

abbrev all_nodes : List (List Node) → List Node
all_nodes cs = flat_map (λ (c : List Node). c) cs

module _ (before after : List Node) (k : ℕ) where
  -- a PARALLEL whose first children are f
  abbrev with : List Node → List (List Node) → List Node
  with f cs = before ++ (parallel k ∷ (f ++ (all_nodes cs ++ after)))

  -- one child more in front
  step : (f c : List Node) (cs : List (List Node)) → with f (c ∷ cs) ≡ with (f ++ c) cs
  unfolding flat_map
  step f c cs = ap (λ (l : List Node). before ++ (parallel k ∷ l)) (ap (λ (l : List Node). f ++ l) (append_assoc c (all_nodes cs) after) ∙ sym (append_assoc f c (all_nodes cs ++ after)))

  two : (f a b : List Node) (cs : List (List Node)) → with f (a ∷ b ∷ cs) ≡ before ++ (parallel k ∷ (f ++ (a ++ (b ++ (all_nodes cs ++ after)))))
  unfolding flat_map
  two f a b cs = ap (λ (l : List Node). before ++ (parallel k ∷ (f ++ l))) (append_assoc a (b ++ all_nodes cs) after ∙ ap (λ (l : List Node). a ++ l) (append_assoc b (all_nodes cs) after))

  in-front : (f c : List Node) {l : List Size} → stack_of f ≡ some l → (h : OneTree c) → stack_of (f ++ c) ≡ some (l ++ (size_of h.0 ∷ []))
  unfolding stack_of
  in-front f c {l} e h =
      let s = stack-written 0 f e in
      let d : stack_of c ≡ some (size_of h.0 ∷ []) = ap stack_of (sym (append-nil c)) ∙ written-stack [] h.1 refl in
      all-stack c s.written d ∙ ap (λ (l : List Size). some (l ++ (size_of h.0 ∷ []))) s.sizes

  any-from : (f : List Node) {l : List Size} {cs ds : List (List Node)} → stack_of f ≡ some l → All OneTree cs → Permuted cs ds → length l + length cs ≤ k → Reordered (with f cs) (with f ds)
  any-from f e p perm-nil h = unchanged
  any-from f {l} e (all_cons {x = a} t p) (perm-cons {b = b} {l₁ = cs} {l₂ = ds} i d) h =
      let z = length-append l (size_of t.0 ∷ []) in
      let r = any-from (f ++ a) (in-front f a e t) p d (omega arith) in
      subst (λ ns. Reordered ns (with f (b ∷ ds))) (sym (step f a cs)) (subst (Reordered (with (f ++ a) cs)) (ap (λ c. with (f ++ c) ds) i ∙ sym (step f b ds)) r)
  any-from f {l} e (all_cons {x = a} t (all_cons {x = b} u p)) (perm-swap {a' = c} {b' = d} {l = cs} i j) h =
      let s = stack-written 0 f e in
      let n : forest_length s.trees ≡ length l = sym (sizes-length s.trees) ∙ ap length s.sizes in
      swapped unchanged (record {
        before = before;
        first = f;
        one = a;
        other = b;
        after = all_nodes cs ++ after;
        count = k;
        first_trees = s.trees;
        first_written = s.written;
        one_tree = t;
        other_tree = u;
        both = omega arith;
        here = two f a b cs;
        there = ap₂ (λ (x y : List Node). with f (x ∷ y ∷ cs)) (sym j) (sym i) ∙ two f b a cs;
      })
  any-from f e p (perm-trans d g) h = reordered-trans (any-from f e p d h) (any-from f e (perm-all d p) g (let z = perm-length d in omega arith))

pub any_order : (before after : List Node) {cs ds : List (List Node)} → All OneTree cs → Permuted cs ds →
    Reordered (before ++ (parallel (length cs) ∷ (all_nodes cs ++ after))) (before ++ (parallel (length cs) ∷ (all_nodes ds ++ after)))
unfolding stack_of
any_order before after {cs} p d = any-from before after (length cs) [] refl p d (omega arith)

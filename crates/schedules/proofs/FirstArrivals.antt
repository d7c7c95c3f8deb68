-- The numbers of the locations rise with the first moves that lead there.
use mathlib.Core.Path.{◌≡◌, refl, sym, ap, ◌∙◌}
use mathlib.Core.Bool.{Bool, true, false}
use mathlib.Core.Logic.{◌⊎◌, inl, inr}
use mathlib.Core.List.Memᴰ
use mathlib.Core.List.{List, [], ◌∷◌, ◌++◌, flat_map, Memᴰ as Mem}
use mathlib.Core.Option.{some}
use Prim.Native.Nat.{ℕ, ◌<◌}
use native.Mathlib.Omega.{arith}
use lib.ListN.{length, get_elem?}
use Rattle.semantics.specs.Run.{Next, to}
use Rattle.semantics.specs.Editions.{Edition}
use Rattle.semantics.proofs.Facts.{true-not-false, some_is, at-below, at_mem, at-exists}
use Rattle.semantics.proofs.TablesProper.{rising-there}
use Rattle.schedules.specs.Nodes.{Node}
use Rattle.schedules.specs.Trees.{Tree, tree_of}
use Rattle.schedules.specs.Residuals.{Residual, fresh, acting, move, same?}
use Rattle.schedules.specs.Numbering.{residual_in, node_targets, targets}
use Rattle.schedules.specs.Reached.{Of, Reached}
use Rattle.schedules.specs.Arrivals.{Way, Sooner, lower_location, lower_node, true_before_false, Arrives, NumberedInOrder}
use Rattle.schedules.specs.Compiling.{tests_of}
use Rattle.schedules.specs.Agreement.{TableHolds}
use Rattle.schedules.proofs.OneTree.{one_tree}
use Rattle.schedules.proofs.Places.{flat-from}
use Rattle.schedules.proofs.Numbered.{number-exists, number_found, number-at}
use Rattle.schedules.proofs.Reached.{residual-in, node-target, targets-moves}
use Rattle.schedules.proofs.MovesByRule.{acting-rules, acting-rises, move-rules-of, rule-mover}
use Rattle.schedules.proofs.CallsHold.{reached-of}
use Rattle.schedules.proofs.Cuts.{Cut, cut_right, Flat, of_earlier, of_same, cut-flat, Place, cut-place, Below, cut-rising, before-first}

-- on false the target on true comes before
record OnTrue (r : Residual) (m : ℕ) (c : Bool) (x : Residual) : Type 0 where
  was_false : c ≡ false
  leads : move r m true ≡ to x

cut-node : (tests : ℕ → Bool) (r : Residual) (m : ℕ) (c : Bool) {y : Residual} → (c ≡ true) ⊎ (tests m ≡ true) → move r m c ≡ to y → Cut y (OnTrue r m c) (node_targets tests r m)
unfolding node_targets residual_in
cut-node tests r m true can e = record {
  front = [];
  back = elim (tests m) [ true ↦ residual_in (move r m false) | false ↦ [] ];
  is = ap (λ (z : Next Residual). residual_in z ++ elim (tests m) [ true ↦ residual_in (move r m false) | false ↦ [] ]) e;
  before = λ x i. absurd (Memᴰ.not-nil i);
}
cut-node tests r m false (inl c) e = true-not-false (sym c)
cut-node tests r m false (inr c) e = record {
  front = residual_in (move r m true);
  back = [];
  is = ap (λ (b : Bool). residual_in (move r m true) ++ elim b [ true ↦ residual_in (move r m false) | false ↦ [] ]) c ∙ ap (λ (z : Next Residual). residual_in (move r m true) ++ residual_in z) e;
  before = λ x i. record { was_false = refl; leads = residual-in (move r m true) i };
}

module _ (ns : List Node) (t : Tree) (h : tree_of ns ≡ some t) (tests : ℕ → Bool) (l : List Residual) (reached : Reached tests t l) where
  stands : (i : ℕ) {r : Residual} → get_elem? l i ≡ some r → Of t r
  stands i {r} e = reached-of tests t r ((reached.exact r).0 (at_mem l i e))

  not-fresh : (k : ℕ) {x : Residual} → 0 < k → get_elem? l k ≡ some x → x ≡ fresh t → ⊥
  not-fresh k p e f =
      let z : k ≡ 0 = some_is (sym (number-at same? reached.distinct k e) ∙ number-at same? reached.distinct 0 (reached.first ∙ ap some (sym f))) in
      omega arith

  arrives : (i n : ℕ) (b : Bool) (k : ℕ) {r s : Residual} → get_elem? l i ≡ some r → get_elem? l k ≡ some s → Mem n (acting r) → (b ≡ true) ⊎ (tests n ≡ true) → move r n b ≡ to s →
      Arrives tests l (record { location = i; node = n; outcome = b }) k
  arrives i n b k {r} {s} p q m c e =
      record { from = r; is-from = p; target = s; is-target = q; can = c; leads = (move-rules-of ns t h r (stands i p) n b (to s) ((acting-rules r n).0 m)).0 e }

  arrived : (k : ℕ) → 0 < k → k < length l → (w : Way) × Arrives tests l w k
  arrived k p f = let x = at-exists l k f in go x.0 x.1 (Memᴰ.cases_cons ((reached.occurrences.same x.0).0 (at_mem l k x.1)))
    where
      go : (x : Residual) → get_elem? l k ≡ some x → (x ≡ fresh t) ⊎ Mem x (flat_map (targets tests) l) → (w : Way) × Arrives tests l w k
      go x e (inl i) = absurd (not-fresh k p e i)
      go x e (inr m) =
          let q = flat-from (targets tests) l m in
          let v = (targets-moves tests q.0 x).0 q.2 in
          let i = number-exists same? q.1 in
          (record { location = i.0; node = v.node; outcome = v.outcome }, arrives i.0 v.node v.outcome k (number_found same? q.0 l i.0 i.1) e v.is_acting v.can v.leads)

  -- what comes before an arrival at y in the list of all targets
  abbrev Earlier : Residual → ℕ → ℕ → Bool → Residual → Type 0
  Earlier r j m c x = Mem x (fresh t ∷ []) ⊎ Flat (targets tests) (Place l j) (Flat (node_targets tests r) (Below (acting r) m) (OnTrue r m c)) x

  sooner : (g k : ℕ) → 0 < g → g < k → (w : Way) → Arrives tests l w k → (v : Way) × Arrives tests l v g × Sooner v w
  unfolding targets
  sooner g k p f w a =
      let r = a.from in
      let acts = rule-mover a.leads in
      let e = (move-rules-of ns t h r (stands w.location a.is-from) w.node w.outcome (to a.target) acts).1 a.leads in
      let cut : Cut a.target (Earlier r w.location w.node w.outcome) (fresh t ∷ flat_map (targets tests) l) =
      cut_right (fresh t ∷ []) (cut-flat (targets tests) (cut-place l w.location a.is-from)
      (cut-flat (node_targets tests r) (cut-rising (acting r) w.node (rising-there 0 (acting r) (acting-rises ns t r h (stands w.location a.is-from))) ((acting-rules r w.node).1 acts))
      (cut-node tests r w.node w.outcome a.can e))) in
      let x = at-exists l g below in
      go x.0 x.1 (before-first same? reached.occurrences cut g k x.0 x.1 a.is-target f)
    where
      below : g < length l
      below = let z = at-below l k a.is-target in omega arith

      go : (x : Residual) → get_elem? l g ≡ some x → Earlier a.from w.location w.node w.outcome x → (v : Way) × Arrives tests l v g × Sooner v w
      go x e (inl m) = absurd (not-fresh g p e (Memᴰ.eq_of_singleton m))
      go x e (inr (of_earlier {w = z} q m)) =
          let v = (targets-moves tests z x).0 m in
          (record { location = q.place; node = v.node; outcome = v.outcome }, arrives q.place v.node v.outcome g q.there e v.is_acting v.can v.leads, lower_location q.lower)
      go x e (inr (of_same (of_earlier {w = n} q m))) =
          let v = node-target tests a.from n m in
          (record { location = w.location; node = n; outcome = v.0 }, arrives w.location n v.0 g a.is-from e q.listed v.1 v.2, lower_node q.lower)
      go x e (inr (of_same (of_same q))) = (
        record { location = w.location; node = w.node; outcome = true },
        arrives w.location w.node true g a.is-from e ((acting-rules a.from w.node).1 (rule-mover a.leads)) (inl refl) q.leads,
        on_true w.outcome q.was_false,
      )
        where
          on_true : (c : Bool) → c ≡ false → Sooner (record { location = w.location; node = w.node; outcome = true }) (record { location = w.location; node = w.node; outcome = c })
          on_true true i = true-not-false i
          on_true false i = true_before_false

  pub in_order : NumberedInOrder tests l
  in_order = record { arrived = arrived; sooner = sooner }

-- of the locations that a written table has
pub table-in-order : (ed : Edition) (file table : List ℕ) (x : TableHolds ed file table) → NumberedInOrder (tests_of x.schedule.nodes) x.locations
table-in-order ed file table x =
    in_order x.schedule.nodes x.schedule.root ((one_tree x.schedule.nodes x.schedule.root).1 x.tree) (tests_of x.schedule.nodes) x.locations x.reached

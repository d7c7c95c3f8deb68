-- Runs of two schedules that are the same but for the order of PARALLELs' children: corresponding events get the same answers.
use mathlib.Core.Path.{◌≡◌, refl, sym, ap, ap₂, subst, subst₂, ◌∙◌}
use mathlib.Core.List.{List}
use mathlib.Core.Option.{some}
use Prim.Native.Nat.{ℕ}
use lib.ListN.{get_elem?}
use Rattle.semantics.specs.Editions.{Edition}
use Rattle.semantics.specs.Refusals.{accepted}
use Rattle.semantics.specs.Plant.{Plant, judge_plant}
use Rattle.semantics.specs.Run.{Control, at, answers}
use Rattle.semantics.specs.Renumbering.{Corresponding, SameButNumbers, EitherFirstAtTicks}
use Rattle.semantics.specs.Starts.{Start}
use Rattle.semantics.specs.Writing.{Each}
use Rattle.semantics.proofs.Facts.{some_is}
use Rattle.semantics.proofs.Judging.{accepted-is}
use Rattle.semantics.proofs.RenumberedRuns.{AgreeRenumbered, runs-renumbered, agree-unchanged, agree_then}
use Rattle.schedules.specs.Nodes.{Node, nodes_in, node_action}
use Rattle.schedules.specs.Trees.{Tree, tree_of}
use Rattle.schedules.specs.Residuals.{Residual, fresh}
use Rattle.schedules.specs.Files.{Schedule, judge_file, rule_control}
use Rattle.schedules.specs.FileSections.{FileSections}
use Rattle.schedules.specs.Reordered.{Swapped, Reordered, unchanged, swapped, swapped_number, new_number, SameButOrder}
use Rattle.schedules.proofs.FirstNumber.{Passed, passed}
use Rattle.schedules.proofs.ReadShapes.{root-shapes}
use Rattle.schedules.proofs.ReorderedTrees.{reordered-tree}
use Rattle.schedules.proofs.SwappedNumbers.{swapped-node, swapped-one-to-one}
use Rattle.schedules.proofs.SwappedTrees.{swapped-trees}
use Rattle.schedules.proofs.AlikeMoves.{alike-agree}

-- ---- which node is which
-- the node with the new number is the same node
pub reordered-node : {ns ms : List Node} (r : Reordered ns ms) (n : ℕ) → get_elem? ms (new_number r n) ≡ get_elem? ns n
unfolding new_number
reordered-node unchanged n = refl
reordered-node (swapped r s) n = swapped-node s (new_number r n) ∙ reordered-node r n

pub reordered-one-to-one : {ns ms : List Node} (r : Reordered ns ms) (m n : ℕ) → new_number r m ≡ new_number r n → m ≡ n
unfolding new_number
reordered-one-to-one unchanged m n e = e
reordered-one-to-one (swapped r s) m n e = reordered-one-to-one r m n (swapped-one-to-one s (new_number r m) (new_number r n) e)

-- ---- the controls
-- a schedule with the other parts of this one
abbrev with : Schedule → List Node → Tree → Schedule
with s ns t = record { sections = s.sections; plant = s.plant; nodes = ns; root = t }

same-action : (ns ms : List Node) (n m : ℕ) → get_elem? ms m ≡ get_elem? ns n → node_action ms m ≡ node_action ns n
unfolding node_action
same-action ns ms n m e = rw (e, node_action) refl

-- two controls that agree, whatever stands for what
data Agreeing (number : ℕ → ℕ) (c d : Control Residual) : Type 1 where
  agreeing : {Sim : Residual → Residual → Type 0} → AgreeRenumbered number c d Sim → Agreeing number c d

then-agreeing : {f g : ℕ → ℕ} {c d e : Control Residual} → Agreeing f c d → Agreeing g d e → Agreeing (λ n. g (f n)) c e
then-agreeing (agreeing a) (agreeing b) = agreeing (agree_then a b)

module _ (s : Schedule) where
  swapped-agree : {ns ms : List Node} {t u : Tree} (w : Swapped ns ms) → tree_of ns ≡ some t → tree_of ms ≡ some u →
      Agreeing (swapped_number w) (rule_control (with s ns t)) (rule_control (with s ms u))
  swapped-agree {ns} {ms} {t} {u} w h k =
      agreeing (alike-agree (with s ns t) (with s ms u) (swapped_number w) (swapped-one-to-one w) (λ n. same-action ns ms n (swapped_number w n) (swapped-node w n))
      (root-shapes ns h).0 (swapped-trees w h k))

  reordered-agree : {ns ms : List Node} {t u : Tree} (r : Reordered ns ms) → tree_of ns ≡ some t → tree_of ms ≡ some u →
      Agreeing (new_number r) (rule_control (with s ns t)) (rule_control (with s ms u))
  unfolding new_number
  reordered-agree {ns} {t = t} {u = u} unchanged h k =
      subst (λ u. Agreeing (λ n. n) (rule_control (with s ns t)) (rule_control (with s ns u))) (some_is (sym h ∙ k)) (agreeing (agree-unchanged (rule_control (with s ns t))))
  reordered-agree (swapped r w) h k =
      let m = reordered-tree r h in
      then-agreeing (reordered-agree r h m.1) (swapped-agree w m.1 k)

-- ---- two files
module _ (ed : Edition) (file other : List ℕ) (o : SameButOrder ed file other) (s u : Schedule) (h : judge_file ed file ≡ accepted s) (k : judge_file ed other ≡ accepted u) where
  here : Passed ed file s
  here = passed ed file s h

  there : Passed ed other u
  there = passed ed other u k

  pub same_plant : s.plant ≡ u.plant
  same_plant =
      let a : o.parts ≡ s.sections = some_is (sym o.in_file ∙ here.parts) in
      let b : o.other_parts ≡ u.sections = some_is (sym o.in_other ∙ there.parts) in
      let v : s.sections.variables ≡ u.sections.variables = ap (λ (x : FileSections). x.variables) (sym a) ∙ o.same_variables ∙ ap (λ (x : FileSections). x.variables) b in
      let e : s.sections.equations ≡ u.sections.equations = ap (λ (x : FileSections). x.equations) (sym a) ∙ o.same_equations ∙ ap (λ (x : FileSections). x.equations) b in
      accepted-is (sym here.plant ∙ ap₂ (judge_plant ed) v e ∙ there.plant)

  own-nodes : o.nodes ≡ s.nodes
  own-nodes = some_is (sym o.nodes_read ∙ ap (λ (x : FileSections). nodes_in ed x.schedule) (some_is (sym o.in_file ∙ here.parts)) ∙ here.nodes)

  other_nodes : o.other_nodes ≡ u.nodes
  other_nodes = some_is (sym o.other_read ∙ ap (λ (x : FileSections). nodes_in ed x.schedule) (some_is (sym o.in_other ∙ there.parts)) ∙ there.nodes)

  files-agree : Agreeing (new_number o.order) (rule_control s) (rule_control u)
  unfolding rule_control
  files-agree =
      let a = reordered-agree s o.order (ap tree_of own-nodes ∙ here.tree) (ap tree_of other_nodes ∙ there.tree) in
      subst₂ (λ ns ms. Agreeing (new_number o.order) (rule_control (with s ns s.root)) (rule_control (with s ms u.root))) own-nodes other_nodes a

  module _ (st : Start) (es fs : List (List ℕ)) where
    -- over one plant or over two equal ones
    abbrev Correspond : Plant → Type 0
    Correspond p = Each (SameButNumbers (new_number o.order) (rule_control s) (rule_control u)) (answers ed s.plant (rule_control s) (at (fresh s.root) st.values st.modes) es)
        (answers ed p (rule_control u) (at (fresh u.root) st.values st.modes) fs)

    over-one-plant : EitherFirstAtTicks ed s.plant (rule_control s) (at (fresh s.root) st.values st.modes) es → Each (Corresponding ed (new_number o.order)) es fs →
        Agreeing (new_number o.order) (rule_control s) (rule_control u) → Correspond s.plant
    unfolding rule_control
    over-one-plant a q (agreeing b) = runs-renumbered ed s.plant b st.values st.modes es fs a q

    pub reordered-runs : EitherFirstAtTicks ed s.plant (rule_control s) (at (fresh s.root) st.values st.modes) es → Each (Corresponding ed (new_number o.order)) es fs →
        Each (SameButNumbers (new_number o.order) (rule_control s) (rule_control u)) (answers ed s.plant (rule_control s) (at (fresh s.root) st.values st.modes) es)
        (answers ed u.plant (rule_control u) (at (fresh u.root) st.values st.modes) fs)
    reordered-runs a q = subst Correspond same_plant (over-one-plant a q files-agree)

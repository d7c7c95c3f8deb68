-- A schedule file that was read is lent: what a run asks of the file's bytes, the index and the ranges.
use mathlib.Core.Path.{◌≡◌, refl, sym, ap, subst, ◌∙◌}
use mathlib.Core.Bool.{true}
use mathlib.Core.List.{List, ◌++◌}
use mathlib.Core.Option.{Option, none, some, bind}
use Prim.Native.Nat.{ℕ, ◌^◌, ◌≤◌, ◌<◌}
use native.Mathlib.Decide.{dec_lt}
use native.Mathlib.Omega.{arith}
use lib.IntN.{ℤ}
use lib.ListN.{length, get_or, get_elem?, take, length-take}
use lib.Seq.{get_or-take}
use Rattle.semantics.specs.Bytes.{every}
use Rattle.semantics.specs.Editions.{Edition}
use Rattle.semantics.specs.Refusals.{accepted}
use Rattle.semantics.specs.Plant.{selectors, judge_plant}
use Rattle.semantics.specs.Run.{Action}
use Rattle.semantics.specs.Tables.{operand_fits, action_at, action_or_stop}
use Rattle.semantics.proofs.Facts.{and_left, none-not-some, among-mem, every-all, all-mem, at_mem}
use Rattle.schedules.specs.Nodes.{Node, node_named, node_reads, action_of, node_action, actions_of}
use Rattle.schedules.specs.Residuals.{acting}
use Rattle.schedules.specs.Files.{Schedule}
use Rattle.schedules.proofs.NodeActions.{node-action}
use Rattle.schedules.proofs.ActionsListed.{operand-fits}
use Rattle.schedules.proofs.FirstNumber.{passed}
use Rattle.codec.specs.Parts.{between}
use Rattle.tree_read.specs.Index.{NodesAt}
use Rattle.program.specs.Filled.{Filled}
use Rattle.program.specs.Lent.{lent, NodeLent}
use Rattle.program.proofs.LentParts.{plant-lent, node-lent}
use Rattle.schedule_read.specs.Actions.{ActionKinds}
use Rattle.schedule_read.specs.Lent.{ScheduleLent}
use Rattle.schedule_read.specs.declared.call.ScheduleIndex.{ScheduleIndex}
use Rattle.schedule_read.proofs.NodeActions.{action-of-node, action-by, action-beyond, acting-action}
use Rattle.schedule_read.proofs.Promises.{Promised}

module _ (ed : Edition) (f : List ℕ) {x : ScheduleIndex} {s : Schedule} (p : Promised ed f x s) where
  -- ---- conditions 11 and 12, of the action
  action-fits : (n : ℕ) {a : Action} → action_at (actions_of s.nodes) n ≡ some a → operand_fits ed (length s.plant.variables) (selectors s.plant) a ≡ true
  unfolding bind
  action-fits n {a} h = go (get_elem? s.nodes n) refl
    where
      go : (o : Option Node) → get_elem? s.nodes n ≡ o → operand_fits ed (length s.plant.variables) (selectors s.plant) a ≡ true
      go none e = none-not-some (sym (action-of-node s.nodes n ∙ ap (λ o. bind o action_of) e) ∙ h)
      go (some y) e =
          let i : action_of y ≡ some a = sym (action-of-node s.nodes n ∙ ap (λ o. bind o action_of) e) ∙ h in
          let m = at_mem s.nodes n e in
          let j = passed ed f s p.judged in
          let reads = and_left (every (node_reads ed (length s.plant.variables)) s.nodes) _ j.reads in
          operand-fits ed _ _ y a i (all-mem (every-all (node_named (length s.plant.variables) (selectors s.plant)) s.nodes j.named) m) (all-mem (every-all (node_reads ed (length s.plant.variables)) s.nodes reads) m)

  -- a node that acts is there
  acting-below : (n : ℕ) {a : Action} → action_at (actions_of s.nodes) n ≡ some a → n < x.nodes.count
  acting-below n h = elim (dec_lt n x.nodes.count) [ yes i ↦ i | no i ↦ none-not-some (sym (action-beyond p.nodes n (omega arith)) ∙ h) ]

  or-stop : (n : ℕ) {a : Action} → action_at (actions_of s.nodes) n ≡ some a → a ≡ node_action s.nodes n
  unfolding action_or_stop
  or-stop n h = rw (node-action s.nodes n, h, action_or_stop) refl

  -- ---- the sections, as parts of the file
  plant_judged : judge_plant ed s.sections.variables (between x.parts.equations.start x.parts.equations.end f) ≡ accepted s.plant
  plant_judged = ap (judge_plant ed s.sections.variables) p.equations.is ∙ p.plant_judged

  nodes-at : NodesAt ed (between x.parts.schedule.start x.parts.schedule.end f) x.nodes.kinds x.nodes.starts x.nodes.ends x.nodes.count s.nodes
  nodes-at = subst (λ z. NodesAt ed z x.nodes.kinds x.nodes.starts x.nodes.ends x.nodes.count s.nodes) (sym p.schedule.is) p.nodes

  -- ---- the index and the ranges: the rows have the entries of m nodes, which are all
  module _ (small : length f < 2 ^ 64) {m : ℕ} (all : x.nodes.count ≤ 256 → m ≡ x.nodes.count)
      {acts ix : List ℕ} {rs : List ℤ} (kinds : ActionKinds x.nodes.kinds m acts)
      (filled : Filled x.plant (take m acts) (take m x.nodes.starts) (take m x.nodes.ends) x.parts.equations.start x.parts.schedule.start ix)
      (ranges : rs ≡ x.plant.lows ++ (x.plant.highs ++ x.plant.steady)) where
    node_of : (n : ℕ) {a : Action} → action_at (actions_of s.nodes) n ≡ some a → NodeLent ed s.plant a (lent f ix rs) n
    node_of n h =
        let i = acting-below n h in
        let d = nodes-at in
        let e = d.entries n i in
        let r : n < 256 = omega (arith, d.few, ed.entries_fit) in
        let j : n < m = omega (arith, all (omega (arith, d.few, ed.entries_fit))) in
        let k : get_or (take m acts) n 0 ≡ get_or acts n 0 = get_or-take m acts n 0 j in
        let b : get_or (take m x.nodes.starts) n 0 ≡ get_or x.nodes.starts n 0 = get_or-take m x.nodes.starts n 0 j in
        let c : get_or (take m x.nodes.ends) n 0 ≡ get_or x.nodes.ends n 0 = get_or-take m x.nodes.ends n 0 j in
        node-lent ed f small filled x.parts.schedule.end n (omega (arith, d.few)) (omega (arith, kinds.full, length-take m acts))
        (omega (arith, d.starts_full, length-take m x.nodes.starts)) (omega (arith, d.ends_full, length-take m x.nodes.ends))
        (omega (arith, p.schedule.inside.ordered, p.schedule.inside.ends)) (rw (b, c) e.ordered) (rw c e.inside)
        (rw (k, b, c) (action-by d n i (kinds.each n j) ∙ h)) (action-fits n h)

    pub schedule-lent : ScheduleLent ed s (lent f ix rs)
    schedule-lent = record {
      plant = plant-lent ed f small x.parts.equations.start x.parts.equations.end s.sections.variables plant_judged p.plant filled ranges;
      nodes = λ r o n e. (let k = acting-action s.nodes (passed ed f s p.judged).tree o n (among-mem n (acting r) e) in subst (λ a. NodeLent ed s.plant a (lent f ix rs) n) (or-stop n k.1) (node_of n k.1));
    }

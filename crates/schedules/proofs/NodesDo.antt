-- The actions that a list of nodes and a written table have.
use mathlib.Core.Path.{◌≡◌, refl, sym, ap, subst, ◌∙◌}
use mathlib.Core.List.{List, Memᴰ as Mem}
use mathlib.Core.Logic.{◌↔◌}
use mathlib.Core.Option.{Option, none, some, bind}
use Prim.Native.Nat.{ℕ}
use native.Mathlib.Omega.{arith}
use lib.ListN.{get_elem?, take}
use Rattle.semantics.specs.Editions.{Edition}
use Rattle.semantics.specs.Refusals.{accepted}
use Rattle.semantics.specs.Run.{Action}
use Rattle.semantics.specs.Tables.{Table, judge_table, action_at}
use Rattle.semantics.proofs.Facts.{none-not-some}
use Rattle.semantics.proofs.WrittenSources.{found}
use Rattle.semantics.proofs.TablesProper.{rising-there, listed_found, is-listed}
use Rattle.schedules.specs.Nodes.{Node, action_of, actions_of}
use Rattle.schedules.specs.Doing.{Does}
use Rattle.schedules.specs.Files.{Schedule, judge_file}
use Rattle.schedules.specs.Calls.{compile}
use Rattle.schedules.proofs.ActionDone.{does, done}
use Rattle.schedules.proofs.ActionsListed.{actions-rise}
use Rattle.schedules.proofs.NodeActions.{action-at-node}
use Rattle.schedules.proofs.Demand2.{table-holds}

-- the actions of a list of nodes
pub actions-do : (ns : List Node) (n : ℕ) (a : Action) → Mem (record { node = n; action = a }) (actions_of ns) ↔ ((x : Node) × (get_elem? ns n ≡ some x) × Does x a)
unfolding actions_of bind
actions-do ns n a = (
  λ m. there (get_elem? ns n) refl (sym listing ∙ listed_found (actions_of ns) (record { node = n; action = a }) (rising-there 0 _ (actions-rise ns)) m),
  λ p.
      let f = found (actions_of ns) n (listing ∙ ap (λ o. bind o action_of) p.1 ∙ done p.2) in
      subst (λ b. Mem b (actions_of ns)) (is-listed f.entry f.node_is f.action_is) f.listed,
)
  where
    listing : action_at (actions_of ns) n ≡ bind (get_elem? ns n) action_of
    listing = action-at-node 0 n n ns (omega arith)

    there : (o : Option Node) → get_elem? ns n ≡ o → bind (get_elem? ns n) action_of ≡ some a → (x : Node) × (get_elem? ns n ≡ some x) × Does x a
    there none e h = none-not-some (sym (ap (λ o. bind o action_of) e) ∙ h)
    there (some x) e h = (x, e, does x (sym (ap (λ o. bind o action_of) e) ∙ h))

-- and of the table that compiling writes
pub table-actions : (ed : Edition) (file room : List ℕ) → (compile ed file room).refusal ≡ 0 →
    (s : Schedule) × (judge_file ed file ≡ accepted s) × (t : Table) × (judge_table ed (take (compile ed file room).written (compile ed file room).table) ≡ accepted t) ×
    ((n : ℕ) (a : Action) → Mem (record { node = n; action = a }) t.actions ↔ ((x : Node) × (get_elem? s.nodes n ≡ some x) × Does x a))
table-actions ed file room z =
    let h = table-holds ed file room z in
    (h.schedule, h.schedule_read, h.back, h.table_read, λ n a. rw h.actions (actions-do h.schedule.nodes n a))

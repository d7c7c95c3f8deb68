-- Document 02, item 5, for every reachable state of a run.
use mathlib.Core.Path.{◌≡◌, sym, subst, ◌∙◌}
use mathlib.Core.Bool.{true}
use mathlib.Core.List.{List, [], ◌∷◌, Memᴰ as Mem}
use mathlib.Core.Option.{some}
use Prim.Native.Nat.{ℕ}
use native.Mathlib.Omega.{arith}
use lib.Dec.{eqb}
use lib.ListN.{length}
use Rattle.semantics.specs.Editions.{Edition}
use Rattle.semantics.specs.Refusals.{accepted}
use Rattle.semantics.specs.Plant.{selectors}
use Rattle.semantics.specs.Run.{Action, assign, stop, halted, Situation, step}
use Rattle.semantics.specs.Rules.{Standing, stands_at, stands_over}
use Rattle.semantics.proofs.Facts.{none-not-some, some_is}
use Rattle.semantics.proofs.RunCounts.{step-stepped}
use Rattle.semantics.proofs.StepRules.{rule-of, rule-standing}
use Rattle.semantics.proofs.Halting.{fitting-halts}
use Rattle.semantics.proofs.CallsHold.{start-values}
use Rattle.schedules.specs.Nodes.{node_action}
use Rattle.schedules.specs.Residuals.{Residual, acting, move}
use Rattle.schedules.specs.Reached.{Of}
use Rattle.schedules.specs.Files.{Schedule, judge_file, rule_control}
use Rattle.schedules.specs.Independent.{WithoutCase, in_statement, left_by, begun, Reachable, Independent, EitherOrder}
use Rattle.schedules.proofs.FirstNumber.{passed}
use Rattle.schedules.proofs.ReadShapes.{root-shapes}
use Rattle.schedules.proofs.ScheduleSound.{comes_of, schedule-fits, schedule-sound, root_stands}
use Rattle.schedules.proofs.MovesCommute.{exchange}
use Rattle.schedules.proofs.IndependentOrder.{neither_left, neither_right, other-variable, either_order}

same-assignment : {a : Action} {v w : ℕ} {d e : List ℕ} → a ≡ assign v d → a ≡ assign w e → v ≡ w
same-assignment p q = cc

assign-no-stop : {a : Action} {v : ℕ} {e : List ℕ} {C : Type 0} → a ≡ assign v e → a ≡ stop → C
assign-no-stop p q = let z : ◌≡◌ {A = ℕ} 0 1 = cc in absurd (omega arith)

module _ (ed : Edition) (file : List ℕ) (s : Schedule) (h : judge_file ed file ≡ accepted s) where
  -- what a run keeps: it stands at a residual of the tree or is over, and values and modes stay as many
  pub record Kept (x : Situation Residual) : Type 0 where
    pub standing : Standing (rule_control s) x
    pub as_many : length x.values ≡ length s.plant.variables
    pub all-modes : length x.modes ≡ length (selectors s.plant)

  pub kept_step : (x : Situation Residual) (e : List ℕ) → Kept x → Kept (step ed s.plant (rule_control s) x e).left
  kept_step x e k =
      let o = step-stepped ed s.plant (rule_control s) x e in
      record {
        standing = rule-standing ed s.plant (rule_control s) k.standing (rule-of ed s.plant (rule_control s) (schedule-sound ed file s (passed ed file s h)) x k.standing e);
        as_many = o.values_kept ∙ k.as_many;
        all-modes = o.modes_kept ∙ k.all-modes;
      }

  kept_run : (x : Situation Residual) (es : List (List ℕ)) → Kept x → Kept (left_by ed s x es)
  unfolding left_by
  kept_run x [] k = k
  kept_run x (e ∷ es) k = kept_run (step ed s.plant (rule_control s) x e).left es (kept_step x e k)

  pub reachable-kept : {x : Situation Residual} → Reachable ed s x → Kept x
  reachable-kept r =
      let v = start-values s.plant r.start r.start_read in
      let k : Kept (begun ed s r.st) = record { standing = root_stands s r.st.values r.st.modes; as_many = v.0; all-modes = v.1 } in
      subst Kept r.reached (kept_run (begun ed s r.st) r.events k)

  place_of : {x : Situation Residual} {r : Residual} → Standing (rule_control s) x → x.place ≡ some r → Of s.root r
  place_of (stands_at c) e = subst (Of s.root) (some_is e) (comes_of s c)
  place_of stands_over e = none-not-some e

  -- where a reachable situation stands
  pub reachable-of : {x : Situation Residual} {r : Residual} → Reachable ed s x → x.place ≡ some r → Of s.root r
  reachable-of reach e = place_of (reachable-kept reach).standing e

  assign-goes-on : {r : Residual} {n v : ℕ} {e : List ℕ} → Of s.root r → Mem n (acting r) → node_action s.nodes n ≡ assign v e → move r n true ≡ halted → ⊥
  assign-goes-on {r} {n} o m q k = assign-no-stop q ((fitting-halts (schedule-fits s (passed ed file s h).tree r o n true m)).0 k)

  -- that the two stand in different children is not used: two nodes that act at once always do (`acting-apart`)
  pub independent-picks : WithoutCase s → (x : Situation Residual) → Reachable ed s x → (one other : List ℕ) → Independent ed s x one other → EitherOrder ed s x one other
  unfolding in_statement
  independent-picks free x reach one other i =
      let k = reachable-kept reach in
      let p = i.picks-a in
      let q = i.picks-b in
      let r = p.place in
      let o = reachable-of reach p.stands in
      let j : Mem i.b (acting r) = subst (λ t. Mem i.b (acting t)) (some_is (sym q.stands ∙ p.stands)) q.acts in
      let different : i.v ≡ i.w → ⊥ = λ e. other-variable i.v i.w (neither_left (eqb i.w i.v) _ i.v-free) (sym e) in
      let nodes : i.a ≡ i.b → ⊥ = λ e. different (same-assignment p.assigns (subst (λ n. node_action s.nodes n ≡ assign i.w i.e) (sym e) q.assigns)) in
      let spans = (root-shapes s.nodes (passed ed file s h).tree).0 in
      let ex = exchange i.a i.b true true nodes o spans p.acts j (assign-goes-on o p.acts p.assigns) (assign-goes-on o j q.assigns) in
      either_order ed s free x r p.stands (record { is-pick = p.is-pick; acts = p.acts; assigns = p.assigns }) (record { is-pick = q.is-pick; acts = j; assigns = q.assigns })
      different (rw k.as_many (neither_right (eqb i.w i.v) _ i.v-free)) (rw k.as_many (neither_right (eqb i.v i.w) _ i.w-free)) ex

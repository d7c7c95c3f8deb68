-- Two picks are independent by the tests of Independent just where they are by the rules; by the rules, such picks are taken in one order just as in the other.
use mathlib.Core.Path.{◌≡◌, refl, sym, ap, subst, ◌∙◌}
use mathlib.Core.Bool.{Bool, true, false}
use mathlib.Core.List.{List, Memᴰ as Mem}
use mathlib.Core.Logic.{◌↔◌}
use mathlib.Core.Option.{Option, none, some, bind}
use Prim.Native.Nat.{ℕ, ◌<◌}
use native.Mathlib.Omega.{arith}
use lib.ListN.{length, get_elem?}
use Rattle.semantics.specs.Bytes.{is_some, every}
use Rattle.semantics.specs.Editions.{Edition}
use Rattle.semantics.specs.Refusals.{accepted}
use Rattle.semantics.specs.Expressions.{number_in}
use Rattle.semantics.specs.Plant.{switches_read}
use Rattle.semantics.specs.Events.{pick, event_in}
use Rattle.semantics.specs.Run.{Action, assign, stop, Situation}
use Rattle.semantics.specs.Rules.{SaysPick}
use Rattle.semantics.specs.Writing.{AllBytes}
use Rattle.semantics.proofs.Facts.{true-not-false, by_cases, and_left, at_mem, All, all-mem, every-all}
use Rattle.semantics.proofs.EventDecoding.{decoded-pick, Said, says_pick, said_of}
use Rattle.schedules.specs.Nodes.{Node, action_of, node_action, node_reads}
use Rattle.schedules.specs.Doing.{Does, reset_assigns, reinitial_assigns}
use Rattle.schedules.specs.Residuals.{Residual, acting}
use Rattle.schedules.specs.Files.{Schedule, judge_file}
use Rattle.schedules.specs.Writing.{PayloadLimits, reset_within, reinitial_within}
use Rattle.schedules.specs.Independent.{different_children, in_statement, Reachable, PicksAssignment, Independent}
use Rattle.schedules.specs.IndependenceRules.{NoCase, InStatement, ReachedByRules, PicksByRules, IndependentByRules, BothTaken}
use Rattle.schedules.proofs.ActionDone.{does, done}
use Rattle.schedules.proofs.MovesByRule.{acting-rules}
use Rattle.schedules.proofs.FirstNumber.{passed}
use Rattle.schedules.proofs.FilesProper.{schedule-accepted}
use Rattle.schedules.proofs.CallsHold.{sound-rules}
use Rattle.schedules.proofs.ActingApart.{acting-apart, different-is}
use Rattle.schedules.proofs.IndependentPicks.{reachable-kept, reachable-of, independent-picks}
use Rattle.schedules.proofs.IndependenceTold.{no-case-is, statement-is, both_is}
use Rattle.schedules.proofs.ReachedTold.{reached-is}

-- ---- the event
pick-said : (ed : Edition) (e : List ℕ) {n : ℕ} → event_in ed e ≡ pick n → SaysPick ed e n
pick-said ed e {n} h = go (subst (Said ed e) h (said_of ed e))
  where
    go : Said ed e (pick n) → SaysPick ed e n
    go (says_pick w) = w

-- ---- the assignment
-- where a number has no node that acts its action is STOP, so that one which assigns is its node's own
module _ (ns : List Node) (n : ℕ) {v : ℕ} {e : List ℕ} where
  own-assignment : node_action ns n ≡ assign v e → (x : Node) × (get_elem? ns n ≡ some x) × Does x (assign v e)
  unfolding node_action bind
  own-assignment h = go (get_elem? ns n) refl h
    where
      no_stop : {C : Type 0} → stop ≡ assign v e → C
      no_stop k = let z : ◌≡◌ {A = ℕ} 0 1 = cc in absurd (omega arith)

      is_own : (o : Option Action) → elim o [ none ↦ stop | some a ↦ a ] ≡ assign v e → o ≡ some (assign v e)
      is_own none k = no_stop k
      is_own (some a) k = ap some k

      go : (o : Option Node) → get_elem? ns n ≡ o → elim (bind o action_of) [ none ↦ stop | some a ↦ a ] ≡ assign v e → (x : Node) × (get_elem? ns n ≡ some x) × Does x (assign v e)
      go none q k = no_stop k
      go (some x) q k = (x, q, does x (is_own (action_of x) k))

  assigned : {x : Node} → get_elem? ns n ≡ some x → Does x (assign v e) → node_action ns n ≡ assign v e
  unfolding node_action bind
  assigned q d = rw (q, node_action, done d) refl

module _ (ed : Edition) (s : Schedule) (x : Situation Residual) (event : List ℕ) {n v : ℕ} {e : List ℕ} where
  picks-there : PicksAssignment ed s x event n v e → PicksByRules ed s x event n v e
  picks-there h =
      let o = own-assignment s.nodes n h.assigns in
      record { says = pick-said ed event h.is-pick; place = h.place; stands = h.stands; acts = (acting-rules h.place n).0 h.acts; node = o.0; is_node = o.1; does = o.2 }

  picks-here : PicksByRules ed s x event n v e → PicksAssignment ed s x event n v e
  picks-here h =
      record { is-pick = decoded-pick ed h.says; place = h.place; stands = h.stands; acts = (acting-rules h.place n).1 h.acts; assigns = assigned s.nodes n h.is_node h.does }

-- ---- its number
read_number : (ed : Edition) (variables : ℕ) {x : Node} {v : ℕ} {e : List ℕ} → Does x (assign v e) → node_reads ed variables x ≡ true → is_some (number_in ed variables e) ≡ true
unfolding node_reads
read_number ed variables reset_assigns h = h
read_number ed variables reinitial_assigns h = h

number-bytes : {x : Node} {v : ℕ} {e : List ℕ} → Does x (assign v e) → PayloadLimits x → AllBytes e
number-bytes reset_assigns (reset_within p q) = q
number-bytes reinitial_assigns (reinitial_within p q) = q

-- a test that tells P says false just where P does not hold
told-not : {P : Type 0} (b : Bool) → (b ≡ true) ↔ P → (b ≡ false) ↔ (P → ⊥)
told-not b h = (λ k p. true-not-false (sym (h.1 p) ∙ k), λ f. by_cases b (λ k. absurd (f (h.0 k))) (λ k. k))

module _ (ed : Edition) (file : List ℕ) (s : Schedule) (z : All (λ b. b < 256) file) (h : judge_file ed file ≡ accepted s) where
  abbrev variables : ℕ
  variables = length s.plant.variables

  -- 12 has read the number of each node, and its bytes are the file's
  free-is : {x : Situation Residual} {event : List ℕ} {n v : ℕ} {e : List ℕ} → PicksByRules ed s x event n v e → (u : ℕ) → (in_statement ed variables u v e ≡ false) ↔ (InStatement ed u v e → ⊥)
  free-is {v = v} {e = e} p u =
      let m = at_mem s.nodes _ p.is_node in
      let limits = ((schedule-accepted ed file s).0 (z, h)).limits.nodes.each in
      let reads = and_left (every (node_reads ed variables) s.nodes) (switches_read ed s.plant) (passed ed file s h).reads in
      let read = read_number ed variables p.does (all-mem (every-all (node_reads ed variables) s.nodes reads) m) in
      told-not (in_statement ed variables u v e) (statement-is ed variables u v e (number-bytes p.does (all-mem limits m).payload) read)

  pub independent-told : (x : Situation Residual) (one other : List ℕ) → Independent ed s x one other ↔ IndependentByRules ed s x one other
  independent-told x one other = (there, here)
    where
      there : Independent ed s x one other → IndependentByRules ed s x one other
      there i =
          let p = picks-there ed s x one i.picks-a in
          let q = picks-there ed s x other i.picks-b in
          record {
            a = i.a;
            b = i.b;
            v = i.v;
            w = i.w;
            d = i.d;
            e = i.e;
            picks-a = p;
            picks-b = q;
            apart = (different-is i.a i.b s.root).0 i.apart;
            v-free = (free-is q i.v).0 i.v-free;
            w-free = (free-is p i.w).0 i.w-free;
          }

      here : IndependentByRules ed s x one other → Independent ed s x one other
      here i = record {
        a = i.a;
        b = i.b;
        v = i.v;
        w = i.w;
        d = i.d;
        e = i.e;
        picks-a = picks-here ed s x one i.picks-a;
        picks-b = picks-here ed s x other i.picks-b;
        apart = (different-is i.a i.b s.root).1 i.apart;
        v-free = (free-is i.picks-b i.v).1 i.v-free;
        w-free = (free-is i.picks-a i.w).1 i.w-free;
      }

  pub independent-picks-rules : NoCase s → (x : Situation Residual) → ReachedByRules ed s x → (one other : List ℕ) → IndependentByRules ed s x one other →
      (answer : ℕ) (end : Situation Residual) → BothTaken ed s x one other answer end ↔ BothTaken ed s x other one answer end
  independent-picks-rules free x reached one other i answer end =
      let reach = (reached-is ed file s z h x).1 reached in
      let either = independent-picks ed file s h ((no-case-is s).1 free) x reach one other ((independent-told x one other).1 i) in
      let stand = (reachable-kept ed file s h reach).standing in
      let sound = sound-rules ed file s h in
      let first = both_is ed s sound x stand one other answer end in
      let last = both_is ed s sound x stand other one answer end in (
        λ t. (let k = first.0 t in last.1 (sym either.taken ∙ k.0, sym (either.same k.0) ∙ k.1)),
        λ t. (let k = last.0 t in let b = either.taken ∙ k.0 in first.1 (b, either.same b ∙ k.1)),
      )

-- two nodes that act at once always stand in different children of one PARALLEL
pub reached-apart : (ed : Edition) (file : List ℕ) (s : Schedule) → judge_file ed file ≡ accepted s → (x : Situation Residual) → Reachable ed s x → (r : Residual) → x.place ≡ some r →
    (a b : ℕ) → (a ≡ b → ⊥) → Mem a (acting r) → Mem b (acting r) → different_children a b s.root ≡ true
reached-apart ed file s h x reach r e a b differ m k = (different-is a b s.root).1 (acting-apart a b differ (reachable-of ed file s h reach e) m k)

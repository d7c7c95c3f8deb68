-- A run of an accepted table goes from location to location as its entries say.
use mathlib.Core.Path.{◌≡◌, refl, sym, ap, subst, ◌∙◌}
use mathlib.Core.Bool.{Bool, true, false, cond}
use mathlib.Core.List.Memᴰ
use mathlib.Core.List.Memᴰ.{head as first}
use mathlib.Core.List.Memᴰ.{tail as later}
use mathlib.Core.List.{List, [], ◌∷◌, Memᴰ as Mem}
use mathlib.Core.Logic.{◌⊎◌, inl, inr}
use mathlib.Core.Option.{some}
use Prim.Native.Nat.{ℕ, zero, suc, ◌≤◌}
use native.Mathlib.Omega.{arith}
use borrow.Author.Tests.{eq-eqb, ne_eqb}
use lib.Dec.{eqb}
use lib.ListN.{length, get_or, get_elem?}
use Rattle.semantics.specs.Editions.{Edition}
use Rattle.semantics.specs.Refusals.{accepted}
use Rattle.semantics.specs.Run.{Action, test}
use Rattle.semantics.specs.TableFile.{Entry, FINISHED, HALTED, NONE, location_limit}
use Rattle.semantics.specs.Tables.{Table, judge_table, rising_from, action_nodes, actions_fit, operands_fit, node_exists, actions_numbered, action_or_stop, entry_nodes, going_to, next_of_entry, entry_target, entries_at, table_control}
use Rattle.semantics.specs.Bytes.{every}
use Rattle.semantics.specs.Proper.{Rising, GoesOn, FitTargets, fit_test, fit_wait, fit_assign, fit_switch, fit_stop, ProperRow}
use Rattle.semantics.specs.TableRuns.{Coded, coded_location, coded_finished, coded_halted, EntryRuns, TableRuns}
use Rattle.semantics.proofs.Facts.{none-not-some, some_is, and_left, all-mem, at_mem}
use Rattle.semantics.proofs.TablePassed.{table-passed}
use Rattle.semantics.proofs.CallsHold.{few-locations, found-or-stop}
use Rattle.semantics.proofs.TablesProper.{rising-there, rising-rest, rising-above, listed_found, locations-proper}

-- ---- targets
module _ (k : ℕ) (few : k ≤ location_limit) where
  coded-on : (t : ℕ) → GoesOn k t → Coded k (going_to t) t
  unfolding going_to FINISHED HALTED NONE
  coded-on t (inl h) =
      rw (ne_eqb t 0xfffe (λ q. omega arith), ne_eqb t 0xfffd (λ q. omega arith), ne_eqb t 0xffff (λ q. omega arith)) (coded_location h)
  coded-on t (inr h) = rw h coded_finished

  coded-halt : (t : ℕ) → t ≡ 0xfffd → Coded k (going_to t) t
  unfolding going_to FINISHED HALTED NONE
  coded-halt t h = rw h coded_halted

  coded-true : {a : Action} {t u : ℕ} → FitTargets k a t u → Coded k (going_to t) t
  coded-true (fit_test h i) = coded-on _ h
  coded-true (fit_wait h i) = coded-on _ h
  coded-true (fit_assign h i) = coded-on _ h
  coded-true (fit_switch h i) = coded-on _ h
  coded-true (fit_stop h i) = coded-halt _ h

  coded-false : {b : List ℕ} {t u : ℕ} → FitTargets k (test b) t u → Coded k (going_to u) u
  coded-false (fit_test h i) = coded-on _ i

-- ---- the entry of a node is found
entry-mem : {e : Entry} {es : List Entry} → Mem e es → Mem e.node (entry_nodes es)
unfolding entry_nodes
entry-mem (first h) = first (ap (λ (e : Entry). e.node) h)
entry-mem (later m) = later (entry-mem m)

entry-target : (es : List Entry) (e : Entry) → Rising (entry_nodes es) → Mem e es → (b : Bool) → entry_target es e.node b ≡ cond b e.target e.other
unfolding entry_nodes entry_target
entry-target [] e r m b = absurd (Memᴰ.not-nil m)
entry-target (x ∷ es) e r m b = go (Memᴰ.cases_cons m) (λ i. entry-target es e (rising-rest r) i b)
  where
    go : (e ≡ x) ⊎ Mem e es → (Mem e es → entry_target es e.node b ≡ cond b e.target e.other) →
        elim (eqb x.node e.node) [ true ↦ cond b x.target x.other | false ↦ entry_target es e.node b ] ≡ cond b e.target e.other
    go (inl h) f = rw (eq-eqb x.node e.node (ap (λ (e : Entry). e.node) (sym h))) (ap (λ (e : Entry). cond b e.target e.other) (sym h))
    go (inr i) f = let l = rising-above e.node r (entry-mem i) in rw (ne_eqb x.node e.node (λ h. omega arith)) (f i)

entry_next : (es : List Entry) (e : Entry) → Rising (entry_nodes es) → Mem e es → (b : Bool) → next_of_entry es e.node b ≡ going_to (cond b e.target e.other)
unfolding next_of_entry
entry_next es e r m b = ap going_to (entry-target es e r m b)

at_default : {A : Type 0} (d : A) (l : List A) (x : ℕ) {a : A} → get_elem? l x ≡ some a → get_or l x d ≡ a
at_default d [] x h = none-not-some h
at_default d (b ∷ l) zero h = some_is h
at_default d (b ∷ l) (suc x) h = at_default d l x h

-- ---- the run
module _ (ed : Edition) (table : List ℕ) (t : Table) (h : judge_table ed table ≡ accepted t) where
  few : length t.locations ≤ location_limit
  few = few-locations ed _ (table-passed ed table h).locs

  acts-rise : Rising (action_nodes t.actions)
  unfolding actions_fit actions_numbered
  acts-rise =
      let a = t.actions in
      rising-there 0 _ (and_left (rising_from 0 (action_nodes a)) (every (node_exists ed) a) (and_left (actions_numbered ed a) (operands_fit ed t.plant a) (table-passed ed table h).acts_fit))

  row : (x : ℕ) {es : List Entry} → get_elem? t.locations x ≡ some es → ProperRow t.actions (length t.locations) es
  row x i = all-mem ((locations-proper t.actions t.locations acts-rise).0 (table-passed ed table h).locs_fit) (at_mem t.locations x i)

  entry_runs : (x : ℕ) (es : List Entry) → get_elem? t.locations x ≡ some es → (e : Entry) → Mem e es → EntryRuns t (table_control t) x e
  unfolding table_control entries_at
  entry_runs x es i e m =
      let r = row x i in
      let p = all-mem r.entries m in
      let a : action_or_stop t.actions e.node ≡ p.action = found-or-stop t.actions e.node (listed_found t.actions (record { node = e.node; action = p.action }) acts-rise p.listed) in
      let n : (b : Bool) → next_of_entry (get_or t.locations x []) e.node b ≡ going_to (cond b e.target e.other) =
      λ b. ap (λ es. next_of_entry es e.node b) (at_default [] t.locations x i) ∙ entry_next es e r.rising m b in
      record {
        listed = subst (λ a. Mem (record { node = e.node; action = a }) t.actions) (sym a) p.listed;
        on_true = subst (λ y. Coded (length t.locations) y e.target) (sym (n true)) (coded-true (length t.locations) few p.targets);
        on_false = λ b j. subst (λ y. Coded (length t.locations) y e.other) (sym (n false))
            (coded-false (length t.locations) few (subst (λ a. FitTargets (length t.locations) a e.target e.other) (sym a ∙ j) p.targets));
      }

  pub table_runs : TableRuns t (table_control t)
  unfolding table_control entries_at entry_nodes
  table_runs = record { start = refl; acting = λ x es i. ap entry_nodes (at_default [] t.locations x i); entries = entry_runs }

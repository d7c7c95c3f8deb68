-- What the index of the actions says of each node.
use mathlib.Core.Path.{◌≡◌, refl, sym, ap, subst, ◌∙◌}
use mathlib.Core.Bool.{Bool, true, false}
use mathlib.Core.List.{List, [], ◌∷◌}
use mathlib.Core.Option.{Option, none, some}
use Prim.Native.Nat.{ℕ, zero, suc, ◌+◌, ◌-◌, ◌≤◌, ◌<◌}
use native.Mathlib.Omega.{arith}
use borrow.Author.Tests.{eqb-true, ne_eqb, ltb-true}
use lib.Dec.{eqb}
use lib.ListN.{length, get_or, take, drop, length-drop, get_or-eq_default}
use lib.Seq.{drop-drop}
use Rattle.semantics.specs.Bytes.{every, read, give, times}
use Rattle.semantics.specs.Editions.{Edition}
use Rattle.semantics.specs.Refusals.{Judged, accepted}
use Rattle.semantics.specs.Run.{Action, test, wait, assign, switch, stop}
use Rattle.semantics.specs.TableFile.{NodeAction, action_kind, action_of_kind, kind_number, read_action, read_action_count, read_actions, actions_in}
use Rattle.semantics.specs.Tables.{rising_from, action_nodes, action_at, node_exists, actions_numbered, judge_actions}
use Rattle.semantics.proofs.Facts.{All, all_nil, all_cons, every-all, and_right}
use Rattle.semantics.proofs.Judging.{refused-not-accepted, accepted-is}
use Rattle.semantics.proofs.Readers.{read-value, split, whole-read}
use Rattle.codec.specs.Numbers.{wide, num_at}
use Rattle.codec.specs.Places.{places_from}
use Rattle.codec.proofs.Known.{cons, times-length}
use Rattle.codec.proofs.Reading.{either}
use Rattle.codec.proofs.Places.{Takes, takes-then, takes-guard, takes-byte, takes-number, takes-bytes, takes-from, takes-give, places-next}
use Rattle.table_read.specs.declared.actions.Actions.{Actions}
use Rattle.table_read.specs.ActionIndex.{kind_code, kind_at, KindsSay, place_at, operand_start, operand_end, by_node, action_index}
use Rattle.table_read.proofs.ActionForms.{was, kind-is}
use Rattle.table_read.proofs.Fitted.{Fitted, fit, unfit, fitted}
use Rattle.table_read.proofs.ByNode.{listed-length, listed_at}
use Rattle.table_read.proofs.ActionLoop.{count-was, in-times}

-- ---- what is judged alone: the section, and the numbers of the nodes
pub was_judged : (ed : Edition) (s : List ℕ) {l : List NodeAction} → judge_actions ed s ≡ accepted l → (actions_in ed s ≡ some l) × (actions_numbered ed l ≡ true)
unfolding judge_actions
was_judged ed s {l} h = go (fitted 18 (actions_in ed s) (actions_numbered ed)) h
  where
    go : {j : Judged (List NodeAction)} → Fitted 18 (actions_in ed s) (actions_numbered ed) j → j ≡ accepted l → (actions_in ed s ≡ some l) × (actions_numbered ed l ≡ true)
    go (fit {a = m} e k) h = let i = accepted-is h in (e ∙ ap some i, ap (actions_numbered ed) (sym i) ∙ k)
    go (unfit k) h = refused-not-accepted h

-- ---- a node's action and its place
data Looked (ed : Edition) (s : List ℕ) (l : List NodeAction) (ps : List ℕ) (n : ℕ) : Type 0 where
  nowhere : action_at l n ≡ none → place_at l ps n ≡ none → Looked ed s l ps n
  at_place : {a : Action} {p : ℕ} {e : List ℕ} → action_at l n ≡ some a → place_at l ps n ≡ some p → read_action ed (drop p s) ≡ read (record { node = n; action = a }) e → Looked ed s l ps n

takes-action : (ed : Edition) → Takes (read_action ed)
unfolding read_action
takes-action ed =
    takes-then (takes-number _) (λ l. takes-guard _ (takes-then (takes-number _)
    (λ n. takes-then takes-byte (λ k. takes-then (takes-bytes _) (λ b. takes-then (takes-from _) (λ a. takes-give _))))))

module _ (ed : Edition) (s : List ℕ) (n : ℕ) where
  look-next : (a : NodeAction) (l : List NodeAction) (p : ℕ) (ps : List ℕ) {e : List ℕ} → read_action ed (drop p s) ≡ read a e → Looked ed s l ps n → Looked ed s (a ∷ l) (p ∷ ps) n
  unfolding action_at place_at
  look-next a l p ps {e} h x = go (eqb a.node n) refl x
    where
      same : a.node ≡ n → read_action ed (drop p s) ≡ read (record { node = n; action = a.action }) e
      same k = h ∙ ap (λ m. read (record { node = m; action = a.action }) e) k

      go : (t : Bool) → eqb a.node n ≡ t → Looked ed s l ps n → Looked ed s (a ∷ l) (p ∷ ps) n
      go true k x = at_place {a = a.action} {p = p} (rw (action_at, k) refl) (rw (place_at, k) refl) (same (eqb-true a.node n k))
      go false k (nowhere i j) = nowhere (rw (action_at, k) i) (rw (place_at, k) j)
      go false k (at_place {a = b} {p = q} i j r) = at_place {a = b} {p = q} (rw (action_at, k) i) (rw (place_at, k) j) r

  look : (k from : ℕ) (m : List ℕ) {l : List NodeAction} {e : List ℕ} → from ≤ length s → m ≡ drop from s → times k (read_action ed) m ≡ read l e →
      Looked ed s l (places_from (length s) (read_action ed) k m) n
  unfolding times give action_at place_at
  look zero from m b q h = subst (λ l. Looked ed s l (places_from (length s) (read_action ed) zero m) n) (read-value h) (nowhere refl refl)
  look (suc k) from m b q h =
      let c = cons (read_action ed) k h in
      let t = (takes-action ed).leaves m c.first in
      let f = t.few in
      let o : length m ≡ length s - from = ap length q ∙ length-drop from s in
      let p : length s - length m ≡ from = omega arith in
      let v : c.mid ≡ drop (from + t.count) s = t.is ∙ ap (drop t.count) q ∙ drop-drop t.count from s in
      let i : from + t.count ≤ length s = omega arith in
      let x = look k (from + t.count) c.mid i v c.rest in
      let ps = places-next (length s) (read_action ed) k m c.first ∙ ap (λ z. z ∷ places_from (length s) (read_action ed) k c.mid) p in
      let y = look-next c.head c.tail from (places_from (length s) (read_action ed) k c.mid) (ap (read_action ed) (sym q) ∙ c.first) x in
      subst (λ l. Looked ed s l (places_from (length s) (read_action ed) (suc k) m) n) c.is (subst (λ z. Looked ed s (c.head ∷ c.tail) z n) (sym ps) y)

-- the operand of the action at a place: its kind, its start and its end
operand_at : (ed : Edition) (s : List ℕ) (p : ℕ) {n : ℕ} {a : Action} {e : List ℕ} {k st en : ℕ} → read_action ed (drop p s) ≡ read (record { node = n; action = a }) e →
    k ≡ kind_code (some a) → st ≡ p + wide ed + wide ed + 1 → en ≡ p + wide ed + num_at ed s p → (st ≤ en) × (en ≤ length s) × (action_of_kind (action_kind k) (take (en - st) (drop st s)) ≡ some a)
operand_at ed s p {a = a} {k = k} {st = st} {en = en} h i j l =
    let w = was ed s p h in
    let low = w.low in
    let inside = w.inside in
    let size : en - st ≡ num_at ed s p - (wide ed + 1) = omega arith in
    let kind : k ≡ get_or s (p + wide ed + wide ed) 0 = i ∙ kind-is _ _ w.is in
    (omega arith, omega arith, rw (size, j, kind) w.is)

-- ---- what stands at a node
pub data Here (s : List ℕ) (x : Actions) (o : Option Action) (n : ℕ) : Type 0 where
  no_action : o ≡ none → get_or x.kinds n 0 ≡ 0 → get_or x.starts n 0 ≡ 0 → get_or x.ends n 0 ≡ 0 → Here s x o n
  one_action : {a : Action} → o ≡ some a → get_or x.kinds n 0 ≡ kind_code (some a) → get_or x.starts n 0 ≤ get_or x.ends n 0 → get_or x.ends n 0 ≤ length s →
      action_of_kind (action_kind (get_or x.kinds n 0)) (take (get_or x.ends n 0 - get_or x.starts n 0) (drop (get_or x.starts n 0) s)) ≡ some a → Here s x o n

times-of : (ed : Edition) (s : List ℕ) {l : List NodeAction} → actions_in ed s ≡ some l → (wide ed ≤ length s) × (times (length l) (read_action ed) (drop (wide ed) s) ≡ read l [])
unfolding actions_in read_actions
times-of ed s {l} e =
    let k = split (read_action_count ed) _ (whole-read (read_actions ed) s e) in
    let c = count-was ed s k.first in
    let g = in-times ed c e in
    (c.some_bytes, subst (λ n. times n (read_action ed) (drop (wide ed) s) ≡ read l []) (sym (times-length (read_action ed) k.value (drop (wide ed) s) g)) g)

module _ (ed : Edition) (s : List ℕ) {l : List NodeAction} (e : actions_in ed s ≡ some l) (n : ℕ) where
  abbrev places : List ℕ
  places = places_from (length s) (read_action ed) (length l) (drop (wide ed) s)

  pub here : n < 256 → Here s (action_index ed s l) (action_at l n) n
  unfolding action_index by_node kind_at kind_code operand_start operand_end
  here h =
      let t = times-of ed s e in
      go (look ed s n (length l) (wide ed) (drop (wide ed) s) t.0 refl t.1)
    where
      kind : get_or (action_index ed s l).kinds n 0 ≡ kind_code (action_at l n)
      kind = listed_at 256 (kind_at l) n h

      start : get_or (action_index ed s l).starts n 0 ≡ operand_start ed (place_at l places n)
      start = listed_at 256 (λ n. operand_start ed (place_at l places n)) n h

      end : get_or (action_index ed s l).ends n 0 ≡ operand_end ed s (place_at l places n)
      end = listed_at 256 (λ n. operand_end ed s (place_at l places n)) n h

      go : Looked ed s l places n → Here s (action_index ed s l) (action_at l n) n
      go (nowhere i j) = no_action i (kind ∙ ap kind_code i) (start ∙ ap (operand_start ed) j) (end ∙ ap (operand_end ed s) j)
      go (at_place {a = a} {p = p} i j r) =
          let x = operand_at ed s p r (kind ∙ ap kind_code i) (start ∙ ap (operand_start ed) j) (end ∙ ap (operand_end ed s) j) in
          one_action {a = a} i (kind ∙ ap kind_code i) x.0 x.1 x.2

-- a kind is never 0
code-some : (a : Action) → 1 ≤ kind_code (some a)
unfolding kind_code kind_number
code-some (test t) = omega arith
code-some (wait t) = omega arith
code-some (assign v b) = omega arith
code-some (switch s m) = omega arith
code-some stop = omega arith

module _ (ed : Edition) (s : List ℕ) {l : List NodeAction} (e : actions_in ed s ≡ some l) (n : ℕ) (k : n < 256) where
  pub operand-inside : (get_or (action_index ed s l).starts n 0 ≤ get_or (action_index ed s l).ends n 0) × (get_or (action_index ed s l).ends n 0 ≤ length s)
  operand-inside = go (here ed s e n k)
    where
      go : Here s (action_index ed s l) (action_at l n) n → (get_or (action_index ed s l).starts n 0 ≤ get_or (action_index ed s l).ends n 0) × (get_or (action_index ed s l).ends n 0 ≤ length s)
      go (no_action j z st en) = (omega arith, omega arith)
      go (one_action j z b c o) = (b, c)

-- ---- the kinds by node say what the actions are
pub nowhere-above : (ed : Edition) (l : List NodeAction) (n : ℕ) → every (node_exists ed) l ≡ true → ed.nodes ≤ n → action_at l n ≡ none
unfolding action_at node_exists
nowhere-above ed l n h k = go (every-all (node_exists ed) l h)
  where
    go : {l : List NodeAction} → All (λ a. node_exists ed a ≡ true) l → action_at l n ≡ none
    go all_nil = refl
    go (all_cons {x = a} h p) =
        let i = ltb-true a.node ed.nodes h in
        rw (action_at, ne_eqb a.node n (λ e. omega arith)) (go p)

pub kinds-say : (ed : Edition) (s : List ℕ) {l : List NodeAction} → actions_numbered ed l ≡ true → KindsSay l (action_index ed s l).kinds
unfolding actions_numbered action_index by_node kind_at kind_code
kinds-say ed s {l} h = record {
  known = λ n a i. sym (said n ∙ ap kind_code i);
  unknown = λ n i a j. (let z : get_or (action_index ed s l).kinds n 0 ≡ 0 = said n ∙ ap kind_code i in omega (arith, code-some a));
}
  where
    exist : every (node_exists ed) l ≡ true
    exist = and_right (rising_from 0 (action_nodes l)) (every (node_exists ed) l) h

    size : {n : ℕ} → 256 ≤ n → length (by_node (kind_at l)) ≤ n
    size k = let z = listed-length 256 (kind_at l) in omega arith

    above : {n : ℕ} → 256 ≤ n → ed.nodes ≤ n
    above k = omega (arith, ed.entries_fit)

    said : (n : ℕ) → get_or (action_index ed s l).kinds n 0 ≡ kind_at l n
    said n =
        either n 256 (λ k. listed_at 256 (kind_at l) n k)
        (λ k. get_or-eq_default (by_node (kind_at l)) 0 (size k) ∙ sym (ap kind_code (nowhere-above ed l n exist (above k))))

-- The loop over the actions: what is read so far, and what the code answers.
use mathlib.Core.Path.{◌≡◌, refl, sym, ap, subst, ◌∙◌}
use mathlib.Core.Bool.{true, false, and-false}
use mathlib.Core.List.{List, [], ◌∷◌, ◌++◌}
use mathlib.Core.Option.{Option, none, some}
use Prim.Native.Nat.{ℕ, ◌+◌, ◌≤◌, ◌<◌}
use native.Mathlib.Numerals.{add-one}
use native.Mathlib.Omega.{arith}
use borrow.Author.Tests.{leb-true, ltb-true, lt-ltb, le-ltb, le-leb, lt-leb}
use lib.Dec.{ltb}
use lib.ListN.{length, get_or, set, drop, replicate, length-drop}
use Rattle.std.specs.Prelude.{Some, None}
use Rattle.semantics.specs.Bytes.{number, Read, broken, read, and_then, ◌>>=◌, give, fail, guard, times, just, whole}
use Rattle.semantics.specs.Editions.{Edition}
use Rattle.semantics.specs.Refusals.{Judged, refused, accepted}
use Rattle.semantics.specs.TableFile.{NodeAction, read_action, read_action_count, read_actions, actions_in}
use Rattle.semantics.specs.Tables.{rising_from, action_nodes, action_at, node_exists, actions_numbered, judge_actions}
use Rattle.semantics.proofs.Facts.{and_left, and_right, and_both, within_both, within_low, within-high, none-not-some}
use Rattle.semantics.proofs.Judging.{go-need, go-ensure}
use Rattle.semantics.proofs.Readers.{broken-not-read, read-rest, guarded, given, given-rest, whole-read}
use Rattle.paper.specs.Refusals.{answered}
use Rattle.paper.proofs.Answered.{accepts-with}
use Rattle.codec.specs.Numbers.{wide, num_at}
use Rattle.codec.specs.Reading.{Took}
use Rattle.codec.specs.Places.{places_from}
use Rattle.codec.proofs.Reading.{number-front, no_front, within-below, within-above, drop_past, either}
use Rattle.codec.proofs.Known.{after_front, not-lost, snoc}
use Rattle.codec.proofs.Loops.{counted as as_many}
use Rattle.codec.proofs.Places.{places-more, places_count}
use Rattle.table_read.specs.declared.actions.Actions.{Actions}
use Rattle.table_read.specs.Ends.{anything, follows, number_read, EndsWith, good_at, good_none}
use Rattle.table_read.specs.ActionIndex.{kind_code, kind_at, node_of, place_at, operand_start, operand_end, by_node, action_index}
use Rattle.table_read.proofs.Early.{early}
use Rattle.table_read.proofs.Fitted.{Fitted, fit, unfit, fitted}
use Rattle.table_read.proofs.Rising.{rising_one, laid, Laid, laid_none, laid_more, laid-true, not-laid, laid-fronts}
use Rattle.table_read.proofs.ActionForms.{was, ends, kind-is}
use Rattle.table_read.proofs.ByNode.{listed-set, listed-zero, action-other, action-new, place_other, place-new, place_none, not_yet}

abbrev places_to : Edition → List ℕ → ℕ → List ℕ
places_to ed s i = places_from (length s) (read_action ed) i (drop (wide ed) s)

-- ---- refusals
-- what the code answers of the section s
abbrev pub Answer : Edition → List ℕ → Judged Actions
Answer ed s = answered (action_index ed s) (judge_actions ed s)

pub refuse : (ed : Edition) (s : List ℕ) → ((l : List NodeAction) → actions_in ed s ≡ some l → actions_numbered ed l ≡ true → ⊥) → refused 18 ≡ Answer ed s
unfolding judge_actions
refuse ed s h = go (fitted 18 (actions_in ed s) (actions_numbered ed))
  where
    go : {j : Judged (List NodeAction)} → Fitted 18 (actions_in ed s) (actions_numbered ed) j → refused 18 ≡ answered (action_index ed s) j
    go (fit {a = l} e k) = absurd (h l e k)
    go (unfit k) = refl

module _ (ed : Edition) (s : List ℕ) {l : List NodeAction} (e : actions_in ed s ≡ some l) (h : actions_numbered ed l ≡ true) where
  pub judged : judge_actions ed s ≡ accepted l
  unfolding judge_actions
  judged = go-need 18 _ e ∙ go-ensure 18 _ h

-- ---- the count
pub no-count : (ed : Edition) (s : List ℕ) → length s < wide ed → None ≡ number_read (read_action_count ed s)
unfolding read_action_count number_read ◌>>=◌ and_then
no-count ed s h = rw (no_front ed.width s h) refl

pub few : (ed : Edition) (s : List ℕ) → wide ed ≤ length s → num_at ed s 0 < 1 → None ≡ number_read (read_action_count ed s)
unfolding read_action_count number_read ◌>>=◌ and_then guard fail
few ed s i h = rw (number-front ed.width s i, within-below 1 ed.nodes (num_at ed s 0) h) refl

pub many : (ed : Edition) (s : List ℕ) → wide ed ≤ length s → ed.nodes < num_at ed s 0 → None ≡ number_read (read_action_count ed s)
unfolding read_action_count number_read ◌>>=◌ and_then guard fail
many ed s i h = rw (number-front ed.width s i, within-above 1 ed.nodes (num_at ed s 0) h) refl

pub count-is : (ed : Edition) (s : List ℕ) {n : ℕ} → n ≡ num_at ed s 0 → wide ed ≤ length s → 1 ≤ n → n ≤ ed.nodes → Some n ≡ number_read (read_action_count ed s)
unfolding read_action_count number_read ◌>>=◌ and_then guard give fail
count-is ed s {n} e i l h = rw (number-front ed.width s i, ← e, within_both 1 ed.nodes n l h) refl

pub record Count (ed : Edition) (s : List ℕ) (n : ℕ) : Type 0 where
  pub some_bytes : wide ed ≤ length s
  pub low : 1 ≤ n
  pub high : n ≤ ed.nodes
  pub first : read_action_count ed s ≡ read n (drop (wide ed) s)

pub count-was : (ed : Edition) (s : List ℕ) {n : ℕ} {e : List ℕ} → read_action_count ed s ≡ read n e → Count ed s n
unfolding read_action_count
count-was ed s {n} h = either (length s) (wide ed) (λ i. not-lost _ (number ed.width) s (no_front ed.width s i) h) (λ i.
    let g = guarded _ _ (after_front _ s ed.width i h) in
    let is : num_at ed s 0 ≡ n = given _ _ g.1 in
    record {
      some_bytes = i;
      low = subst (λ n. 1 ≤ n) is (within_low 1 ed.nodes _ g.0);
      high = subst (λ n. n ≤ ed.nodes) is (within-high 1 ed.nodes _ g.0);
      first = h ∙ ap (read n) (sym (given-rest _ _ g.1));
    })

pub count_of : (ed : Edition) {s : List ℕ} {n : ℕ} → Some n ≡ number_read (read_action_count ed s) → Count ed s n
unfolding number_read
count_of ed {s} {n} e = go (read_action_count ed s) refl e
  where
    go : (o : Read ℕ) → read_action_count ed s ≡ o → Some n ≡ number_read o → Count ed s n
    go broken h e = cc
    go (read m t) h e =
        let i : n ≡ m = cc in
        subst (Count ed s) (sym i) (count-was ed s h)

pub refuse-count : (ed : Edition) (s : List ℕ) → None ≡ number_read (read_action_count ed s) → refused 18 ≡ Answer ed s
unfolding number_read actions_in read_actions whole just ◌>>=◌ and_then
refuse-count ed s e = go (read_action_count ed s) refl e
  where
    go : (o : Read ℕ) → read_action_count ed s ≡ o → None ≡ number_read o → refused 18 ≡ Answer ed s
    go broken h e = refuse ed s (λ l i g. none-not-some (sym (ap (λ o. just (and_then o (λ n. times n (read_action ed)))) h) ∙ i))
    go (read m t) h e = cc

-- ---- what the section's reader does after the count
after-count : (ed : Edition) {s : List ℕ} {n : ℕ} → Count ed s n → read_actions ed s ≡ times n (read_action ed) (drop (wide ed) s)
unfolding read_actions ◌>>=◌ and_then
after-count ed c = rw c.first refl

pub in-times : (ed : Edition) {s : List ℕ} {n : ℕ} {l : List NodeAction} → Count ed s n → actions_in ed s ≡ some l → times n (read_action ed) (drop (wide ed) s) ≡ read l []
unfolding actions_in
in-times ed {s} c e = sym (after-count ed c) ∙ whole-read (read_actions ed) s e

times-in : (ed : Edition) {s : List ℕ} {n : ℕ} {l : List NodeAction} → Count ed s n → times n (read_action ed) (drop (wide ed) s) ≡ read l [] → actions_in ed s ≡ some l
unfolding actions_in whole just
times-in ed c e = ap just (after-count ed c ∙ e)

-- ---- the first i actions, the last of which ends at p, are in the lists; the next node is low or above
pub record Indexing (ed : Edition) (s : List ℕ) (i p low : ℕ) (ks ss es : List ℕ) : Type 0 where
  pub took : Took (times i (read_action ed)) anything s (wide ed) p tt
  pub sound : Laid node_of (node_exists ed) took.value low
  pub kinds : ks ≡ by_node (kind_at took.value)
  pub starts : ss ≡ by_node (λ n. operand_start ed (place_at took.value (places_to ed s i) n))
  pub stops : es ≡ by_node (λ n. operand_end ed s (place_at took.value (places_to ed s i) n))

-- w is what code holds, here and below
pub index-start : (ed : Edition) (s : List ℕ) {w : ℕ} → w ≡ wide ed → w ≤ length s → Indexing ed s 0 w 0 (replicate 256 0) (replicate 256 0) (replicate 256 0)
unfolding times give by_node kind_at action_at kind_code operand_start operand_end
index-start ed s e h = rw e (record {
  took = record { value = []; got = refl; inside = omega arith; means = tt };
  sound = laid_none node_of (node_exists ed);
  kinds = listed-zero 256 (kind_at []) (λ n. refl);
  starts = listed-zero 256 _ (λ n. start_none n);
  stops = listed-zero 256 _ (λ n. stop-none n);
})
  where
    start_none : (n : ℕ) → operand_start ed (place_at [] (places_to ed s 0) n) ≡ 0
    start_none n = ap (operand_start ed) (place_none (places_to ed s 0) n)

    stop-none : (n : ℕ) → operand_end ed s (place_at [] (places_to ed s 0) n) ≡ 0
    stop-none n = ap (operand_end ed s) (place_none (places_to ed s 0) n)

-- the node and the kind of the action at p are inside
pub node-inside : (ed : Edition) {K : NodeAction → Unit {0} → Type 0} {s : List ℕ} {p q w : ℕ} → w ≡ wide ed → Took (read_action ed) K s p q tt → p + w + w + 1 ≤ length s
node-inside ed {s = s} {p = p} e u = let a = was ed s p u.got in omega (arith, a.low, a.inside)

-- one more in the lists
kinds-more : (l : List NodeAction) (a : NodeAction) (n k : ℕ) (ks : List ℕ) → ks ≡ by_node (kind_at l) → n ≡ a.node → action_at l a.node ≡ none →
    kind_code (some a.action) ≡ k → n < 256 → set ks n k ≡ by_node (kind_at (l ++ (a ∷ [])))
unfolding by_node kind_at
kinds-more l a n k ks e m new c h =
    ap (λ z. set z n k) e ∙ listed-set 256 (kind_at l) (kind_at (l ++ (a ∷ []))) n k h
    (ap (kind_at (l ++ (a ∷ []))) m ∙ ap kind_code (action-new a l new) ∙ c)
    (λ j o. ap kind_code (action-other a l j (λ i. o (m ∙ i))))

places-more-by : (f : Option ℕ → ℕ) (l : List NodeAction) (ps : List ℕ) (a : NodeAction) (n p v : ℕ) (ss : List ℕ) → ss ≡ by_node (λ m. f (place_at l ps m)) → n ≡ a.node →
    action_at l a.node ≡ none → length ps ≡ length l → f (some p) ≡ v → n < 256 → set ss n v ≡ by_node (λ m. f (place_at (l ++ (a ∷ [])) (ps ++ (p ∷ [])) m))
unfolding by_node
places-more-by f l ps a n p v ss e m new b c h =
    ap (λ z. set z n v) e ∙ listed-set 256 (λ m. f (place_at l ps m)) (λ m. f (place_at (l ++ (a ∷ [])) (ps ++ (p ∷ [])) m)) n v h
    (ap (λ j. f (place_at (l ++ (a ∷ [])) (ps ++ (p ∷ [])) j)) m ∙ ap f (place-new a l ps p b new) ∙ c)
    (λ j o. ap f (place_other a l ps p j b (λ i. o (m ∙ i))))

-- ---- the action at p, where its node is the next one
pub next-broken : (ed : Edition) {s : List ℕ} {p : ℕ} (low : ℕ) → read_action ed (drop p s) ≡ broken → EndsWith (read_action ed) (follows node_of (node_exists ed) low) s p None
next-broken ed low h = good_none (λ a e k. broken-not-read (sym h ∙ k))

abbrev Next : Edition → List ℕ → ℕ → ℕ → ℕ → Type 0
Next ed s p q low = Took (read_action ed) (λ a (x : Unit {0}). follows node_of (node_exists ed) low a ≡ true) s p q tt

-- n is its node's number as code holds it
module _ (ed : Edition) (s : List ℕ) (p low : ℕ) {w n : ℕ} (ew : w ≡ wide ed) (en : n ≡ num_at ed s (p + w)) where
  node_is : {a : NodeAction} {e : List ℕ} → read_action ed (drop p s) ≡ read a e → n ≡ a.node
  node_is k = en ∙ ap (λ z. num_at ed s (p + z)) ew ∙ (was ed s p k).node

  pub next_low : n < low → EndsWith (read_action ed) (follows node_of (node_exists ed) low) s p None
  unfolding follows
  next_low h = good_none (λ a e k. rw (rising_one low a.node, lt-leb low a.node (subst (λ n. n < low) (node_is k) h)) refl)

  pub next-high : ed.nodes ≤ n → EndsWith (read_action ed) (follows node_of (node_exists ed) low) s p None
  unfolding follows node_exists
  next-high h = good_none (λ a e k. rw (le-ltb a.node ed.nodes (subst (λ n. ed.nodes ≤ n) (node_is k) h), and-false (rising_from low (a.node ∷ []))) refl)

  pub next-found : {q : ℕ} → Took (read_action ed) anything s p q tt → low ≤ n → n < ed.nodes → EndsWith (read_action ed) (follows node_of (node_exists ed) low) s p (Some q)
  unfolding follows node_exists
  next-found {q} t h k =
      let a = t.value.node in
      let node = node_is t.got in
      good_at {q = q} (record {
        value = t.value;
        got = t.got;
        inside = t.inside;
        means = and_both (rising_one low a ∙ le-leb low a (subst (λ n. low ≤ n) node h))
            (lt-ltb a ed.nodes (subst (λ n. n < ed.nodes) node k));
      })

  -- it is the next one, and there is one
  pub next-node : {q : ℕ} → Next ed s p q low → (low ≤ n) × (n < ed.nodes)
  unfolding follows node_exists
  next-node u =
      let node = node_is u.got in
      let l = leb-true low u.value.node (sym (rising_one low u.value.node) ∙ and_left (rising_from low (u.value.node ∷ [])) (ltb u.value.node ed.nodes) u.means) in
      let h = ltb-true u.value.node ed.nodes (and_right (rising_from low (u.value.node ∷ [])) (ltb u.value.node ed.nodes) u.means) in
      (omega arith, omega arith)

  pub node-small : {q : ℕ} → Next ed s p q low → n < 256
  node-small u = omega (arith, (next-node u).1, ed.entries_fit)

module _ (ed : Edition) {s : List ℕ} {i p low : ℕ} {ks ss es : List ℕ} (x : Indexing ed s i p low ks ss es) {q : ℕ} (u : Next ed s p q low) where
  pub index-next : {w n : ℕ} → w ≡ wide ed → n ≡ num_at ed s (p + w) → Indexing ed s (i + 1) q (n + 1) (set ks n (get_or s (p + w + w) 0)) (set ss n (p + w + w + 1)) (set es n q)
  unfolding operand_start operand_end
  index-next {n = n} ew en =
      let done = x.took.value in
      let a = u.value in
      let is = was ed s p u.got in
      let node = node_is ed s p low ew en u.got in
      let h = (next-node ed s p low ew en u).0 in
      let k = node-small ed s p low ew en u in
      let new = not_yet a.node low done x.sound.rises x.sound.next (subst (λ n. low ≤ n) node h) in
      let more = places-more (read_action ed) i x.took u in
      let counts = places_count (read_action ed) i x.took ∙ sym (as_many (read_action ed) i x.took) in
      rw ew (record {
        took = record { value = done ++ (a ∷ []); got = rw add-one (snoc (read_action ed) i (drop (wide ed) s) x.took.got u.got); inside = u.inside; means = tt };
        sound = subst (λ n. Laid node_of (node_exists ed) (done ++ (a ∷ [])) (n + 1)) (sym node) (laid_more node_of (node_exists ed) a x.sound u.means);
        kinds = kinds-more done a n _ ks x.kinds node new (kind-is _ _ is.is) k;
        starts = places-more-by (operand_start ed) done (places_to ed s i) a n p _ ss x.starts node new counts refl k ∙ ap
            (λ ps. by_node (λ m. operand_start ed (place_at (done ++ (a ∷ [])) ps m))) (sym more);
        stops = places-more-by (operand_end ed s) done (places_to ed s i) a n p _ es x.stops node new counts (sym (ends ed u is)) k ∙ ap
            (λ ps. by_node (λ m. operand_end ed s (place_at (done ++ (a ∷ [])) ps m))) (sym more);
      })

-- ---- a loop that stops early
laid-is : (ed : Edition) (l : List NodeAction) → actions_numbered ed l ≡ laid node_of (node_exists ed) l
unfolding actions_numbered action_nodes laid
laid-is ed l = refl

pub index-stop : (ed : Edition) {s : List ℕ} {i p low n : ℕ} {ks ss es : List ℕ} (x : Indexing ed s i p low ks ss es) → Count ed s n → i < n →
    ((a : NodeAction) (e : List ℕ) → read_action ed (drop p s) ≡ read a e → follows node_of (node_exists ed) low a ≡ false) → refused 18 ≡ Answer ed s
index-stop ed {s} {i} x c h bad =
    refuse ed s (λ l e g. early (read_action ed) (laid node_of (node_exists ed)) (laid-fronts node_of (node_exists ed)) i x.took h
    (λ a r k. not-laid node_of (node_exists ed) a x.sound (bad a r k)) (in-times ed c e) (sym (laid-is ed l) ∙ g))

-- ---- after the last turn
module _ (ed : Edition) {s : List ℕ} {i p low n : ℕ} {ks ss es : List ℕ} (x : Indexing ed s i p low ks ss es) (c : Count ed s n) (e : i ≡ n) where
  all : times n (read_action ed) (drop (wide ed) s) ≡ read x.took.value (drop p s)
  all = subst (λ n. times n (read_action ed) (drop (wide ed) s) ≡ read x.took.value (drop p s)) e x.took.got

  pub index-over : p < length s → refused 18 ≡ Answer ed s
  index-over h = refuse ed s (λ l k g. let n : length (drop p s) ≡ 0 = ap length (read-rest (sym all ∙ in-times ed c k)) in omega (arith, length-drop p s))

  all_read : length s ≤ p → actions_in ed s ≡ some x.took.value
  all_read k = times-in ed c (all ∙ ap (read x.took.value) (drop_past p s k))

  pub index-end : length s ≤ p → accepted (record { count = n; kinds = ks; starts = ss; ends = es }) ≡ Answer ed s
  unfolding action_index
  index-end k =
      let l = x.took.value in
      let m = as_many (read_action ed) i x.took in
      accepts-with (action_index ed s) (judged ed s (all_read k) (laid-is ed l ∙ laid-true node_of (node_exists ed) x.sound)) (same (sym e ∙ sym m) x.kinds
      (x.starts ∙ ap (λ j. by_node (λ m. operand_start ed (place_at l (places_to ed s j) m))) (sym m))
      (x.stops ∙ ap (λ j. by_node (λ m. operand_end ed s (place_at l (places_to ed s j) m))) (sym m)))
    where
      same : {c d : ℕ} {ks ls ss ts es fs : List ℕ} → c ≡ d → ks ≡ ls → ss ≡ ts → es ≡ fs → ◌≡◌ {A = Actions} (record { count = c; kinds = ks; starts = ss; ends = es }) (record { count = d; kinds = ls; starts = ts; ends = fs })
      same h i j k = cc

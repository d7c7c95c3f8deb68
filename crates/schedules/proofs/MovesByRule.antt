-- Fresh, acting and moves are what the paper's rules say, rule by rule.
use mathlib.Core.Path.{◌≡◌, refl, sym, ap, ap₂, subst, ◌∙◌}
use mathlib.Core.Bool.{Bool, true, false, cond}
use mathlib.Core.List.Memᴰ
use mathlib.Core.List.Memᴰ.{head as first}
use mathlib.Core.List.{List, [], ◌∷◌, ◌++◌, Memᴰ as Mem}
use mathlib.Core.Logic.{◌↔◌, ◌⊎◌, inl, inr}
use mathlib.Core.Option.{Option, none, some}
use Prim.Native.Nat.{ℕ, suc, ◌≤◌}
use native.Mathlib.Omega.{arith}
use borrow.Author.Tests.{eqb-true, eq-eqb, leb-true}
use lib.Dec.{eqb, leb}
use Rattle.semantics.specs.Run.{Next, to, finished, halted, idle}
use Rattle.semantics.proofs.Facts.{true-not-false, none-not-some, some_is, by_cases}
use Rattle.semantics.specs.Tables.{rising_from}
use Rattle.schedules.specs.Nodes.{Node}
use Rattle.schedules.specs.Trees.{Tree, Forest, leaf, halt, loop, branch, seq, par, nil, cons, tree_of}
use Rattle.schedules.specs.Residuals.{Residual, Parts, at-node, in-loop, in-branch, in-seq, in-par, no_part, finished-part, part, fresh, fresh_parts, acting, acting_at, acting_parts, when_node, move_at, inside, next_child, every_finished, joined, or_else, move, move_parts}
use Rattle.semantics.specs.Proper.{Distinct, distinct_nil, distinct_cons}
use Rattle.schedules.specs.Reached.{Of, Leads, stays, goes}
use Rattle.schedules.specs.MoveRules.{Fresh, AllFresh, fresh-sequence, fresh-parallel, fresh-leaf, fresh-stop, fresh-while, fresh-if, no_child, one-child, Child, this_child, past_child, past_finished, Becomes, goes_here, finishes_here, stays_child, stays_finished, AllFinished, none_left, one_finished, Acts, leaf_acts, stop_acts, while_acts, if_acts, body_acts, branch_acts, sequence_acts, parallel_acts, MoveRule, leaf_finishes, stop_halts, body_halts, branch_halts, sequence_halts, parallel_halts, while_true, while_false, body_finished, body_goes, if_true, if_false, branch_finished, branch_goes, gives_way, last_finished, sequence_goes, child_finished, all_finished, child_goes, LeadsByRule, rule_stays, rule_goes}
use Rattle.schedules.proofs.MovesFit.{no_move, never-idle}
use Rattle.schedules.proofs.ReadShapes.{root-shapes}
use Rattle.schedules.proofs.ResidualsKept.{of-fresh, kept-to, acting-rise-from-0}

-- ---- fresh
mutual
  unfolding fresh

  pub fresh-ruled : (t : Tree) → Fresh t (fresh t)
  fresh-ruled (leaf n) = fresh-leaf
  fresh-ruled (halt n) = fresh-stop
  fresh-ruled (loop n t) = fresh-while
  fresh-ruled (branch n t u) = fresh-if
  fresh-ruled (seq t ts) = fresh-sequence (fresh-ruled t)
  fresh-ruled (par t ts) = fresh-parallel (one-child (fresh-ruled t) (all-fresh-ruled ts))

  all-fresh-ruled : (ts : Forest) → AllFresh ts (fresh_parts ts)
  all-fresh-ruled nil = no_child
  all-fresh-ruled (cons t ts) = one-child (fresh-ruled t) (all-fresh-ruled ts)

mutual
  unfolding fresh

  rule-fresh : {t : Tree} {r : Residual} → Fresh t r → fresh t ≡ r
  rule-fresh (fresh-sequence {ts = ts} h) = ap (λ r. in-seq r ts) (rule-fresh h)
  rule-fresh (fresh-parallel h) = ap in-par (rule-all-fresh h)
  rule-fresh fresh-leaf = refl
  rule-fresh fresh-stop = refl
  rule-fresh fresh-while = refl
  rule-fresh fresh-if = refl

  rule-all-fresh : {ts : Forest} {ps : Parts} → AllFresh ts ps → fresh_parts ts ≡ ps
  rule-all-fresh no_child = refl
  rule-all-fresh (one-child h k) = ap₂ part (rule-fresh h) (rule-all-fresh k)

pub fresh-rules : (t : Tree) (r : Residual) → (fresh t ≡ r) ↔ Fresh t r
fresh-rules t r = (λ e. subst (Fresh t) e (fresh-ruled t), rule-fresh)

-- ---- who acts
single : {m n : ℕ} → m ≡ n → Mem n (m ∷ [])
single e = first (sym e)

child-acts : {n : ℕ} {r : Residual} {ps : Parts} → Child r ps → Mem n (acting r) → Mem n (acting_parts ps)
unfolding acting
child-acts (this_child {ps = ps}) m = Memᴰ.append_left (acting_parts ps) m
child-acts (past_child {q = q} c) m = Memᴰ.append_right (acting q) (child-acts c m)
child-acts (past_finished c) m = child-acts c m

rule-acts : {n : ℕ} {r : Residual} → Acts n r → Mem n (acting r)
unfolding acting acting_at
rule-acts leaf_acts = single refl
rule-acts stop_acts = single refl
rule-acts while_acts = single refl
rule-acts if_acts = single refl
rule-acts (body_acts h) = rule-acts h
rule-acts (branch_acts h) = rule-acts h
rule-acts (sequence_acts h) = rule-acts h
rule-acts (parallel_acts c h) = child-acts c (rule-acts h)

-- some child acts
data ChildActs (n : ℕ) (ps : Parts) : Type 0 where
  child_acting : {r : Residual} → Child r ps → Acts n r → ChildActs n ps

at-ruled : (n : ℕ) (t : Tree) → Mem n (acting_at t) → Acts n (at-node t)
unfolding acting_at
at-ruled n (leaf m) k = rw (Memᴰ.eq_of_singleton k) leaf_acts
at-ruled n (halt m) k = rw (Memᴰ.eq_of_singleton k) stop_acts
at-ruled n (loop m t) k = rw (Memᴰ.eq_of_singleton k) while_acts
at-ruled n (branch m t u) k = rw (Memᴰ.eq_of_singleton k) if_acts
at-ruled n (seq t ts) k = absurd (Memᴰ.not-nil k)
at-ruled n (par t ts) k = absurd (Memᴰ.not-nil k)

past : {n : ℕ} {q : Residual} {ps : Parts} → ChildActs n ps → ChildActs n (part q ps)
past (child_acting c h) = child_acting (past_child c) h

past_end : {n : ℕ} {ps : Parts} → ChildActs n ps → ChildActs n (finished-part ps)
past_end (child_acting c h) = child_acting (past_finished c) h

some-child : {n : ℕ} {ps : Parts} → ChildActs n ps → Acts n (in-par ps)
some-child (child_acting c h) = parallel_acts c h

mutual
  unfolding acting

  acts-ruled : {n : ℕ} (r : Residual) → Mem n (acting r) → Acts n r
  acts-ruled {n} (at-node t) k = at-ruled n t k
  acts-ruled (in-loop m t r) k = body_acts (acts-ruled r k)
  acts-ruled (in-branch r) k = branch_acts (acts-ruled r k)
  acts-ruled (in-seq r ts) k = sequence_acts (acts-ruled r k)
  acts-ruled (in-par ps) k = some-child (parts-ruled ps k)

  parts-ruled : {n : ℕ} (ps : Parts) → Mem n (acting_parts ps) → ChildActs n ps
  parts-ruled no_part k = absurd (Memᴰ.not-nil k)
  parts-ruled (finished-part ps) k = past_end (parts-ruled ps k)
  parts-ruled {n} (part r ps) k = go (Memᴰ.append_cases (acting r) k) (λ m. acts-ruled r m) (λ m. parts-ruled ps m)
    where
      go : Mem n (acting r) ⊎ Mem n (acting_parts ps) → (Mem n (acting r) → Acts n r) → (Mem n (acting_parts ps) → ChildActs n ps) → ChildActs n (part r ps)
      go (inl m) f g = child_acting this_child (f m)
      go (inr m) f g = past (g m)

pub acting-rules : (r : Residual) (n : ℕ) → Mem n (acting r) ↔ Acts n r
acting-rules r n = (acts-ruled r, rule-acts)

-- ---- a move is a rule's
-- what a rule gives, or no move
data Ruled (r : Residual) (n : ℕ) (b : Bool) : Next Residual → Type 0 where
  ruled : {x : Next Residual} → MoveRule r n b x → Ruled r n b x
  unmoved : Ruled r n b idle

only-ruled : (m n : ℕ) {t : Tree} {b : Bool} {x : Next Residual} → (m ≡ n → MoveRule (at-node t) n b x) → Ruled (at-node t) n b (when_node m n x)
unfolding when_node
only-ruled m n {t} {b} {x} f = go (eqb m n) refl
  where
    go : (c : Bool) → eqb m n ≡ c → Ruled (at-node t) n b (cond c x idle)
    go true e = ruled (f (eqb-true m n e))
    go false e = unmoved

at-move : (t : Tree) (n : ℕ) (b : Bool) → Ruled (at-node t) n b (move_at t n b)
unfolding move_at
at-move (leaf m) n b = only-ruled m n (λ e. rw e leaf_finishes)
at-move (halt m) n b = only-ruled m n (λ e. rw e stop_halts)
at-move (loop m t) n true = only-ruled m n (λ e. rw e (while_true (fresh-ruled t)))
at-move (loop m t) n false = only-ruled m n (λ e. rw e while_false)
at-move (branch m t u) n true = only-ruled m n (λ e. rw e (if_true (fresh-ruled t)))
at-move (branch m t u) n false = only-ruled m n (λ e. rw e (if_false (fresh-ruled u)))
at-move (seq t ts) n b = unmoved
at-move (par t ts) n b = unmoved

module _ {n : ℕ} {b : Bool} where
  body-move : (m : ℕ) (t : Tree) {r : Residual} {x : Next Residual} → Ruled r n b x → Ruled (in-loop m t r) n b (inside (in-loop m t) (to (at-node (loop m t))) x)
  unfolding inside
  body-move m t {x = to s} (ruled h) = ruled (body_goes h)
  body-move m t {x = finished} (ruled h) = ruled (body_finished h)
  body-move m t {x = halted} (ruled h) = ruled (body_halts h)
  body-move m t {x = idle} h = unmoved

  branch-move : {r : Residual} {x : Next Residual} → Ruled r n b x → Ruled (in-branch r) n b (inside in-branch finished x)
  unfolding inside
  branch-move {x = to s} (ruled h) = ruled (branch_goes h)
  branch-move {x = finished} (ruled h) = ruled (branch_finished h)
  branch-move {x = halted} (ruled h) = ruled (branch_halts h)
  branch-move {x = idle} h = unmoved

  after-move : (ts : Forest) {r : Residual} → MoveRule r n b finished → Ruled (in-seq r ts) n b (next_child ts)
  unfolding next_child
  after-move nil h = ruled (last_finished h)
  after-move (cons t ts) h = ruled (gives_way h (fresh-ruled t))

  sequence-move : (ts : Forest) {r : Residual} {x : Next Residual} → Ruled r n b x → Ruled (in-seq r ts) n b (inside (λ s. in-seq s ts) (next_child ts) x)
  unfolding inside
  sequence-move ts {x = to s} (ruled h) = ruled (sequence_goes h)
  sequence-move ts {x = finished} (ruled h) = after-move ts h
  sequence-move ts {x = halted} (ruled h) = ruled (sequence_halts h)
  sequence-move ts {x = idle} h = unmoved

-- what comes of a PARALLEL's children
data PartsRuled (ps : Parts) (n : ℕ) (b : Bool) : Next Parts → Type 0 where
  part_goes : {r s : Residual} {qs : Parts} → MoveRule r n b (to s) → Becomes r (some s) ps qs → PartsRuled ps n b (to qs)
  part_finishes : {r : Residual} {qs : Parts} → MoveRule r n b finished → Becomes r none ps qs → PartsRuled ps n b (to qs)
  part_halts : {r : Residual} → Child r ps → MoveRule r n b halted → PartsRuled ps n b halted
  parts_unmoved : PartsRuled ps n b idle

finished-all : {ps : Parts} → AllFinished ps → every_finished ps ≡ true
unfolding every_finished
finished-all none_left = refl
finished-all (one_finished h) = finished-all h

all-of-finished : (ps : Parts) → every_finished ps ≡ true → AllFinished ps
unfolding every_finished
all-of-finished no_part e = none_left
all-of-finished (finished-part ps) e = one_finished (all-of-finished ps e)
all-of-finished (part r ps) e = true-not-false (sym e)

-- a child that goes on is not finished
goes-unfinished : {r s : Residual} {o : Option Residual} {ps qs : Parts} → Becomes r o ps qs → o ≡ some s → every_finished qs ≡ false
unfolding every_finished
goes-unfinished goes_here e = refl
goes-unfinished finishes_here e = none-not-some e
goes-unfinished (stays_child h) e = refl
goes-unfinished (stays_finished h) e = goes-unfinished h e

module _ {n : ℕ} {b : Bool} where
  joined-move : {ps : Parts} {x : Next Parts} → PartsRuled ps n b x → Ruled (in-par ps) n b (joined x)
  unfolding joined
  joined-move (part_goes h k) = rw (goes-unfinished k refl, joined) (ruled (child_goes h k))
  joined-move {ps} (part_finishes {qs = qs} h k) = go (every_finished qs) refl
    where
      go : (c : Bool) → every_finished qs ≡ c → Ruled (in-par ps) n b (elim c [ true ↦ finished | false ↦ to (in-par qs) ])
      go true e = ruled (all_finished h k (all-of-finished qs e))
      go false e = ruled (child_finished h k (λ f. true-not-false (sym (finished-all f) ∙ e)))
  joined-move (part_halts c h) = ruled (parallel_halts c h)
  joined-move parts_unmoved = unmoved

  past-finished-move : {ps : Parts} {x : Next Parts} → PartsRuled ps n b x → PartsRuled (finished-part ps) n b (inside finished-part finished x)
  unfolding inside
  past-finished-move (part_goes h k) = part_goes h (stays_finished k)
  past-finished-move (part_finishes h k) = part_finishes h (stays_finished k)
  past-finished-move (part_halts c h) = part_halts (past_finished c) h
  past-finished-move parts_unmoved = parts_unmoved

  past-child-move : (r : Residual) {ps : Parts} {x : Next Parts} → PartsRuled ps n b x → PartsRuled (part r ps) n b (inside (part r) finished x)
  unfolding inside
  past-child-move r (part_goes h k) = part_goes h (stays_child k)
  past-child-move r (part_finishes h k) = part_finishes h (stays_child k)
  past-child-move r (part_halts c h) = part_halts (past_child c) h
  past-child-move r parts_unmoved = parts_unmoved

  -- the first child moves, or a later one
  part-move : {r : Residual} (ps : Parts) {x : Next Residual} {y : Next Parts} → Ruled r n b x → PartsRuled (part r ps) n b y →
      PartsRuled (part r ps) n b (or_else (inside (λ s. part s ps) (to (finished-part ps)) x) y)
  unfolding or_else inside
  part-move ps {x = to s} (ruled h) k = part_goes h goes_here
  part-move ps {x = finished} (ruled h) k = part_finishes h finishes_here
  part-move ps {x = halted} (ruled h) k = part_halts this_child h
  part-move ps {x = idle} h k = k

mutual
  unfolding move

  move-ruled : (r : Residual) (n : ℕ) (b : Bool) → Ruled r n b (move r n b)
  move-ruled (at-node t) n b = at-move t n b
  move-ruled (in-loop m t r) n b = body-move m t (move-ruled r n b)
  move-ruled (in-branch r) n b = branch-move (move-ruled r n b)
  move-ruled (in-seq r ts) n b = sequence-move ts (move-ruled r n b)
  move-ruled (in-par ps) n b = joined-move (parts-move-ruled ps n b)

  parts-move-ruled : (ps : Parts) (n : ℕ) (b : Bool) → PartsRuled ps n b (move_parts ps n b)
  parts-move-ruled no_part n b = parts_unmoved
  parts-move-ruled (finished-part ps) n b = past-finished-move (parts-move-ruled ps n b)
  parts-move-ruled (part r ps) n b = part-move ps (move-ruled r n b) (past-child-move r (parts-move-ruled ps n b))

rule-of-ruled : {r : Residual} {n : ℕ} {b : Bool} {x : Next Residual} → Ruled r n b x → (x ≡ idle → ⊥) → MoveRule r n b x
rule-of-ruled (ruled h) f = h
rule-of-ruled unmoved f = absurd (f refl)

-- ---- a rule is a move
-- whose move it is acts
becomes-child : {r : Residual} {o : Option Residual} {ps qs : Parts} → Becomes r o ps qs → Child r ps
becomes-child goes_here = this_child
becomes-child finishes_here = this_child
becomes-child (stays_child h) = past_child (becomes-child h)
becomes-child (stays_finished h) = past_finished (becomes-child h)

pub rule-mover : {r : Residual} {n : ℕ} {b : Bool} {x : Next Residual} → MoveRule r n b x → Acts n r
rule-mover leaf_finishes = leaf_acts
rule-mover stop_halts = stop_acts
rule-mover (body_halts h) = body_acts (rule-mover h)
rule-mover (branch_halts h) = branch_acts (rule-mover h)
rule-mover (sequence_halts h) = sequence_acts (rule-mover h)
rule-mover (parallel_halts c h) = parallel_acts c (rule-mover h)
rule-mover (while_true f) = while_acts
rule-mover while_false = while_acts
rule-mover (body_finished h) = body_acts (rule-mover h)
rule-mover (body_goes h) = body_acts (rule-mover h)
rule-mover (if_true f) = if_acts
rule-mover (if_false f) = if_acts
rule-mover (branch_finished h) = branch_acts (rule-mover h)
rule-mover (branch_goes h) = branch_acts (rule-mover h)
rule-mover (gives_way h f) = sequence_acts (rule-mover h)
rule-mover (last_finished h) = sequence_acts (rule-mover h)
rule-mover (sequence_goes h) = sequence_acts (rule-mover h)
rule-mover (child_finished h k f) = parallel_acts (becomes-child k) (rule-mover h)
rule-mover (all_finished h k f) = parallel_acts (becomes-child k) (rule-mover h)
rule-mover (child_goes h k) = parallel_acts (becomes-child k) (rule-mover h)

-- no number stands twice
pub distinct-front : (l k : List ℕ) → Distinct (l ++ k) → Distinct l
distinct-front [] k d = distinct_nil
distinct-front (x ∷ l) k (distinct_cons f d) = distinct_cons (λ m. f (Memᴰ.append_left k m)) (distinct-front l k d)

pub distinct-back : (l k : List ℕ) → Distinct (l ++ k) → Distinct k
distinct-back [] k d = d
distinct-back (x ∷ l) k (distinct_cons f d) = distinct-back l k d

pub distinct_apart : {n : ℕ} (l k : List ℕ) → Distinct (l ++ k) → Mem n l → Mem n k → ⊥
distinct_apart [] k d m i = Memᴰ.not-nil m
distinct_apart {n} (x ∷ l) k (distinct_cons f d) m i = go (Memᴰ.cases_cons m) (λ j. distinct_apart l k d j i)
  where
    go : (n ≡ x) ⊎ Mem n l → (Mem n l → ⊥) → ⊥
    go (inl e) g = f (Memᴰ.append_right l (rw e at i))
    go (inr j) g = g j

child-distinct : {r : Residual} {ps : Parts} → Child r ps → Distinct (acting_parts ps) → Distinct (acting r)
unfolding acting
child-distinct {r} (this_child {ps = ps}) d = distinct-front (acting r) (acting_parts ps) d
child-distinct (past_child {q = q} {ps = ps} c) d = child-distinct c (distinct-back (acting q) (acting_parts ps) d)
child-distinct (past_finished c) d = child-distinct c d

module _ (n : ℕ) (b : Bool) where
  -- a child that does not act is passed over
  passed_over : (q : Residual) (ps : Parts) → (Mem n (acting q) → ⊥) → move_parts (part q ps) n b ≡ inside (part q) finished (move_parts ps n b)
  unfolding move or_else inside
  passed_over q ps f = rw (no_move q n b f) refl

  later-acts : {r : Residual} (q : Residual) {ps : Parts} → Child r ps → Distinct (acting q ++ acting_parts ps) → Mem n (acting r) → Mem n (acting q) → ⊥
  later-acts q {ps} c d m i = distinct_apart (acting q) (acting_parts ps) d i (child-acts c m)

  child-halted : {r : Residual} {ps : Parts} → Child r ps → Distinct (acting_parts ps) → Mem n (acting r) → move r n b ≡ halted → move_parts ps n b ≡ halted
  unfolding move or_else inside acting
  child-halted {r} (this_child {ps = ps}) d m e = ap (λ x. or_else (inside (λ s. part s ps) (to (finished-part ps)) x) (inside (part r) finished (move_parts ps n b))) e
  child-halted (past_child {q = q} {ps = ps} c) d m e =
      passed_over q ps (later-acts q c d m) ∙ ap (inside (part q) finished) (child-halted c (distinct-back (acting q) (acting_parts ps) d) m e)
  child-halted (past_finished c) d m e = ap (inside finished-part finished) (child-halted c d m e)

  child-went : {r : Residual} {o : Option Residual} {ps qs : Parts} → Becomes r o ps qs → Distinct (acting_parts ps) → Mem n (acting r) →
      ((s : Residual) → o ≡ some s → move r n b ≡ to s) → (o ≡ none → move r n b ≡ finished) → move_parts ps n b ≡ to qs
  unfolding move or_else inside acting
  child-went {r} (goes_here {s = s} {ps = ps}) d m f g = ap (λ x. or_else (inside (λ s. part s ps) (to (finished-part ps)) x) (inside (part r) finished (move_parts ps n b))) (f s refl)
  child-went {r} (finishes_here {ps = ps}) d m f g = ap (λ x. or_else (inside (λ s. part s ps) (to (finished-part ps)) x) (inside (part r) finished (move_parts ps n b))) (g refl)
  child-went (stays_child {q = q} {ps = ps} k) d m f g =
      passed_over q ps (later-acts q (becomes-child k) d m) ∙ ap (inside (part q) finished) (child-went k (distinct-back (acting q) (acting_parts ps) d) m f g)
  child-went (stays_finished k) d m f g = ap (inside finished-part finished) (child-went k d m f g)

joined-goes : (qs : Parts) → every_finished qs ≡ false → joined (to qs) ≡ to (in-par qs)
unfolding joined
joined-goes qs e = rw (e, joined) refl

joined-on : (qs : Parts) → (AllFinished qs → ⊥) → joined (to qs) ≡ to (in-par qs)
joined-on qs f = joined-goes qs (by_cases (every_finished qs) (λ e. absurd (f (all-of-finished qs e))) (λ e. e))

joined_end : (qs : Parts) → AllFinished qs → joined (to qs) ≡ finished
unfolding joined
joined_end qs f = rw (finished-all f, joined) refl

only_one : (n : ℕ) (x : Next Residual) → when_node n n x ≡ x
unfolding when_node
only_one n x = rw (eq-eqb n n refl) refl

rule-move : {r : Residual} {n : ℕ} {b : Bool} {x : Next Residual} → MoveRule r n b x → Distinct (acting r) → move r n b ≡ x
unfolding move move_at inside next_child joined acting
rule-move (leaf_finishes {n = n}) d = only_one n _
rule-move (stop_halts {n = n}) d = only_one n _
rule-move (body_halts h) d = ap (inside _ _) (rule-move h d)
rule-move (branch_halts h) d = ap (inside _ _) (rule-move h d)
rule-move (sequence_halts h) d = ap (inside _ _) (rule-move h d)
rule-move (parallel_halts {n = n} {b = b} c h) d = ap joined (child-halted n b c d (rule-acts (rule-mover h)) (rule-move h (child-distinct c d)))
rule-move (while_true {n = n} {t = t} f) d = only_one n _ ∙ ap (λ r. to (in-loop n t r)) (rule-fresh f)
rule-move (while_false {n = n}) d = only_one n _
rule-move (body_finished h) d = ap (inside _ _) (rule-move h d)
rule-move (body_goes h) d = ap (inside _ _) (rule-move h d)
rule-move (if_true {n = n} f) d = only_one n _ ∙ ap (λ r. to (in-branch r)) (rule-fresh f)
rule-move (if_false {n = n} f) d = only_one n _ ∙ ap (λ r. to (in-branch r)) (rule-fresh f)
rule-move (branch_finished h) d = ap (inside _ _) (rule-move h d)
rule-move (branch_goes h) d = ap (inside _ _) (rule-move h d)
rule-move (gives_way {ts = ts} h f) d = ap (inside _ _) (rule-move h d) ∙ ap (λ r. to (in-seq r ts)) (rule-fresh f)
rule-move (last_finished h) d = ap (inside _ _) (rule-move h d)
rule-move (sequence_goes h) d = ap (inside _ _) (rule-move h d)
rule-move (child_finished {n = n} {b = b} {qs = qs} h k f) d =
    ap joined (child-went n b k d (rule-acts (rule-mover h)) (λ s e. none-not-some e) (λ e. rule-move h (child-distinct (becomes-child k) d))) ∙ joined-on qs f
rule-move (all_finished {n = n} {b = b} {qs = qs} h k f) d =
    ap joined (child-went n b k d (rule-acts (rule-mover h)) (λ s e. none-not-some e) (λ e. rule-move h (child-distinct (becomes-child k) d))) ∙ joined_end qs f
rule-move (child_goes {n = n} {b = b} {qs = qs} h k) d =
    ap joined (child-went n b k d (rule-acts (rule-mover h)) (λ s e. rule-move h (child-distinct (becomes-child k) d) ∙ ap to (some_is e)) (λ e. none-not-some (sym e))) ∙ joined-goes qs (goes-unfinished k refl)

-- ---- moves are just the rules
-- of an acting node, where no number acts in two places
pub move-rules : (r : Residual) → Distinct (acting r) → (n : ℕ) (b : Bool) (x : Next Residual) → Acts n r → (move r n b ≡ x) ↔ MoveRule r n b x
move-rules r d n b x a = (λ e. subst (MoveRule r n b) e (rule-of-ruled (move-ruled r n b) (never-idle r n b (rule-acts a))), λ h. rule-move h d)

-- and no other node has a move
pub idle-rules : (r : Residual) (n : ℕ) (b : Bool) → (move r n b ≡ idle) ↔ (Acts n r → ⊥)
idle-rules r n b = (λ e a. never-idle r n b (rule-acts a) e, λ f. no_move r n b (λ m. f (acts-ruled r m)))

-- numbers that rise are distinct
rising-low : (a n : ℕ) (l : List ℕ) → rising_from a l ≡ true → Mem n l → a ≤ n
unfolding rising_from
rising-low a n [] h m = absurd (Memᴰ.not-nil m)
rising-low a n (k ∷ l) h m = go (leb a k) refl h (Memᴰ.cases_cons m) (rising-low (suc k) n l)
  where
    go : (c : Bool) → leb a k ≡ c → elim c [ true ↦ rising_from (suc k) l | false ↦ false ] ≡ true → (n ≡ k) ⊎ Mem n l → (rising_from (suc k) l ≡ true → Mem n l → suc k ≤ n) → a ≤ n
    go true e h (inl i) ih = let j = leb-true a k e in omega arith
    go true e h (inr i) ih = let j = leb-true a k e in let q = ih h i in omega arith
    go false e h i ih = true-not-false (sym h)

pub rising-distinct : (a : ℕ) (l : List ℕ) → rising_from a l ≡ true → Distinct l
unfolding rising_from
rising-distinct a [] h = distinct_nil
rising-distinct a (k ∷ l) h = go (leb a k) refl h (rising-distinct (suc k) l)
  where
    go : (c : Bool) → leb a k ≡ c → elim c [ true ↦ rising_from (suc k) l | false ↦ false ] ≡ true → (rising_from (suc k) l ≡ true → Distinct l) → Distinct (k ∷ l)
    go true e h ih = distinct_cons (λ m. let q = rising-low (suc k) k l h m in omega arith) (ih h)
    go false e h ih = true-not-false (sym h)

-- so it is in every residual of a tree that was read
pub acting-rises : (ns : List Node) (t : Tree) (r : Residual) → tree_of ns ≡ some t → Of t r → rising_from 0 (acting r) ≡ true
acting-rises ns t r h o = acting-rise-from-0 o (root-shapes ns h).0

pub acting-distinct : (ns : List Node) (t : Tree) (r : Residual) → tree_of ns ≡ some t → Of t r → Distinct (acting r)
acting-distinct ns t r h o = rising-distinct 0 (acting r) (acting-rises ns t r h o)

pub move-rules-of : (ns : List Node) (t : Tree) → tree_of ns ≡ some t → (r : Residual) → Of t r → (n : ℕ) (b : Bool) (x : Next Residual) → Acts n r → (move r n b ≡ x) ↔ MoveRule r n b x
move-rules-of ns t h r o n b x a = move-rules r (acting-distinct ns t r h o) n b x a

-- ---- what is reached
module _ (ns : List Node) (t : Tree) (h : tree_of ns ≡ some t) (tests : ℕ → Bool) where
  leads-of : {r : Residual} → Leads tests (fresh t) r → Of t r
  leads-of stays = of-fresh t
  leads-of (goes k m) = kept-to (leads-of k) m.node m.outcome m.leads

  leads-ruled : {r : Residual} → Leads tests (fresh t) r → LeadsByRule tests t r
  leads-ruled stays = rule_stays (fresh-ruled t)
  leads-ruled (goes {s = s} {u = u} k m) =
      rule_goes (leads-ruled k) m.can ((move-rules-of ns t h s (leads-of k) m.node m.outcome (to u) (acts-ruled s m.is_acting)).0 m.leads)

  ruled-leads : {r : Residual} → LeadsByRule tests t r → Leads tests (fresh t) r
  ruled-leads (rule_stays f) = subst (Leads tests (fresh t)) (rule-fresh f) stays
  ruled-leads (rule_goes {r = r} {s = s} {n = n} {b = b} k c m) =
      let l = ruled-leads k in
      goes l (record { node = n; outcome = b; is_acting = rule-acts (rule-mover m); can = c; leads = (move-rules-of ns t h r (leads-of l) n b (to s) (rule-mover m)).1 m })

  pub reached-rules : (r : Residual) → Leads tests (fresh t) r ↔ LeadsByRule tests t r
  reached-rules r = (leads-ruled, ruled-leads)

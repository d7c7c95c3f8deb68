-- Document 01, "Residuals and moves", rule by rule: what is fresh, who acts and what comes of a move, as relations.
-- They are written from the paper, a constructor for each of its sentences; `fresh`, `acting` and `move` of Residuals are shown to be just them.
use Rattle.std.specs.Prelude.{◌≡◌, Bool, true, false, ◌⊎◌, ℕ}
use Rattle.std.proofs.Math.Option.{Option, none, some}
use Rattle.semantics.specs.Run.{Next, to, finished, halted}
use Rattle.schedules.specs.Trees.{Tree, Forest, leaf, halt, loop, branch, seq, par, nil, cons}
use Rattle.schedules.specs.Residuals.{Residual, Parts, at-node, in-loop, in-branch, in-seq, in-par, no_part, finished-part, part}

-- ---- "Fresh"
mutual
  pub data Fresh : Tree → Residual → Type 0 where
    -- "a SEQUENCE stands at its first child, fresh"
    fresh-sequence : {t : Tree} {ts : Forest} {r : Residual} → Fresh t r → Fresh (seq t ts) (in-seq r ts)
    -- "a PARALLEL has all children fresh"
    fresh-parallel : {t : Tree} {ts : Forest} {ps : Parts} → AllFresh (cons t ts) ps → Fresh (par t ts) (in-par ps)
    -- "any other node stands at itself and acts"
    fresh-leaf : {n : ℕ} → Fresh (leaf n) (at-node (leaf n))
    fresh-stop : {n : ℕ} → Fresh (halt n) (at-node (halt n))
    fresh-while : {n : ℕ} {t : Tree} → Fresh (loop n t) (at-node (loop n t))
    fresh-if : {n : ℕ} {t u : Tree} → Fresh (branch n t u) (at-node (branch n t u))

  pub data AllFresh : Forest → Parts → Type 0 where
    no_child : AllFresh nil no_part
    one-child : {t : Tree} {ts : Forest} {r : Residual} {ps : Parts} → Fresh t r → AllFresh ts ps → AllFresh (cons t ts) (part r ps)

-- ---- the children of a PARALLEL
-- a child that is not finished
pub data Child (r : Residual) : Parts → Type 0 where
  this_child : {ps : Parts} → Child r (part r ps)
  past_child : {q : Residual} {ps : Parts} → Child r ps → Child r (part q ps)
  past_finished : {ps : Parts} → Child r ps → Child r (finished-part ps)

-- a child r of the first becomes what is named, none where it is finished, and the others stay as they are: "a finished child stays finished"
pub data Becomes (r : Residual) : Option Residual → Parts → Parts → Type 0 where
  goes_here : {s : Residual} {ps : Parts} → Becomes r (some s) (part r ps) (part s ps)
  finishes_here : {ps : Parts} → Becomes r none (part r ps) (finished-part ps)
  stays_child : {o : Option Residual} {q : Residual} {ps qs : Parts} → Becomes r o ps qs → Becomes r o (part q ps) (part q qs)
  stays_finished : {o : Option Residual} {ps qs : Parts} → Becomes r o ps qs → Becomes r o (finished-part ps) (finished-part qs)

pub data AllFinished : Parts → Type 0 where
  none_left : AllFinished no_part
  one_finished : {ps : Parts} → AllFinished ps → AllFinished (finished-part ps)

-- ---- who acts
pub data Acts (n : ℕ) : Residual → Type 0 where
  -- a node that "stands at itself and acts"
  leaf_acts : Acts n (at-node (leaf n))
  stop_acts : Acts n (at-node (halt n))
  while_acts : {t : Tree} → Acts n (at-node (loop n t))
  if_acts : {t u : Tree} → Acts n (at-node (branch n t u))
  -- and what acts in a part acts in the whole
  body_acts : {m : ℕ} {t : Tree} {r : Residual} → Acts n r → Acts n (in-loop m t r)
  branch_acts : {r : Residual} → Acts n r → Acts n (in-branch r)
  sequence_acts : {r : Residual} {ts : Forest} → Acts n r → Acts n (in-seq r ts)
  parallel_acts : {r : Residual} {ps : Parts} → Child r ps → Acts n r → Acts n (in-par ps)

-- ---- "A move is one acting node's": the residual, the node, its outcome (true also for done), and what comes of it
pub data MoveRule : Residual → ℕ → Bool → Next Residual → Type 0 where
  -- "CONTINUE, assignments and SWITCH finish their node": they have one outcome only, so it is not asked for
  leaf_finishes : {n : ℕ} {b : Bool} → MoveRule (at-node (leaf n)) n b finished
  -- "STOP halts the whole."
  stop_halts : {n : ℕ} {b : Bool} → MoveRule (at-node (halt n)) n b halted
  body_halts : {n m : ℕ} {b : Bool} {t : Tree} {r : Residual} → MoveRule r n b halted → MoveRule (in-loop m t r) n b halted
  branch_halts : {n : ℕ} {b : Bool} {r : Residual} → MoveRule r n b halted → MoveRule (in-branch r) n b halted
  sequence_halts : {n : ℕ} {b : Bool} {r : Residual} {ts : Forest} → MoveRule r n b halted → MoveRule (in-seq r ts) n b halted
  parallel_halts : {n : ℕ} {b : Bool} {r : Residual} {ps : Parts} → Child r ps → MoveRule r n b halted → MoveRule (in-par ps) n b halted
  -- "WHILE true: its body, fresh."
  while_true : {n : ℕ} {t : Tree} {r : Residual} → Fresh t r → MoveRule (at-node (loop n t)) n true (to (in-loop n t r))
  -- "False: it finishes."
  while_false : {n : ℕ} {t : Tree} → MoveRule (at-node (loop n t)) n false finished
  -- "Its body finished: it acts again."
  body_finished : {n m : ℕ} {b : Bool} {t : Tree} {r : Residual} → MoveRule r n b finished → MoveRule (in-loop m t r) n b (to (at-node (loop m t)))
  body_goes : {n m : ℕ} {b : Bool} {t : Tree} {r s : Residual} → MoveRule r n b (to s) → MoveRule (in-loop m t r) n b (to (in-loop m t s))
  -- "IF: the first child on true, else the second, fresh"
  if_true : {n : ℕ} {t u : Tree} {r : Residual} → Fresh t r → MoveRule (at-node (branch n t u)) n true (to (in-branch r))
  if_false : {n : ℕ} {t u : Tree} {r : Residual} → Fresh u r → MoveRule (at-node (branch n t u)) n false (to (in-branch r))
  -- "the child finished, it finishes"
  branch_finished : {n : ℕ} {b : Bool} {r : Residual} → MoveRule r n b finished → MoveRule (in-branch r) n b finished
  branch_goes : {n : ℕ} {b : Bool} {r s : Residual} → MoveRule r n b (to s) → MoveRule (in-branch r) n b (to (in-branch s))
  -- "SEQUENCE: a finished child gives way to the next, fresh"
  gives_way : {n : ℕ} {b : Bool} {r s : Residual} {t : Tree} {ts : Forest} → MoveRule r n b finished → Fresh t s → MoveRule (in-seq r (cons t ts)) n b (to (in-seq s ts))
  -- "the last finishes it"
  last_finished : {n : ℕ} {b : Bool} {r : Residual} → MoveRule r n b finished → MoveRule (in-seq r nil) n b finished
  sequence_goes : {n : ℕ} {b : Bool} {r s : Residual} {ts : Forest} → MoveRule r n b (to s) → MoveRule (in-seq r ts) n b (to (in-seq s ts))
  -- "PARALLEL: a finished child stays finished"
  child_finished : {n : ℕ} {b : Bool} {r : Residual} {ps qs : Parts} → MoveRule r n b finished → Becomes r none ps qs → (AllFinished qs → ⊥) → MoveRule (in-par ps) n b (to (in-par qs))
  -- "all finished finishes it"
  all_finished : {n : ℕ} {b : Bool} {r : Residual} {ps qs : Parts} → MoveRule r n b finished → Becomes r none ps qs → AllFinished qs → MoveRule (in-par ps) n b finished
  child_goes : {n : ℕ} {b : Bool} {r s : Residual} {ps qs : Parts} → MoveRule r n b (to s) → Becomes r (some s) ps qs → MoveRule (in-par ps) n b (to (in-par qs))

-- ---- what moves lead to from the fresh root, by the rules alone: a node that tests has both outcomes, any other is done
pub data LeadsByRule (tests : ℕ → Bool) (t : Tree) : Residual → Type 0 where
  rule_stays : {r : Residual} → Fresh t r → LeadsByRule tests t r
  rule_goes : {r s : Residual} {n : ℕ} {b : Bool} → LeadsByRule tests t r → (b ≡ true) ⊎ (tests n ≡ true) → MoveRule r n b (to s) → LeadsByRule tests t s

-- What is left of a judged event, case by case; the paper's number of a case is the event's answer, in every run.
use mathlib.Core.Path.{◌≡◌, refl, sym}
use mathlib.Core.Bool.{Bool}
use mathlib.Core.List.{List}
use mathlib.Core.Option.{none, some}
use Prim.Native.Nat.{ℕ}
use lib.IntN.{ℤ}
use Rattle.semantics.specs.Expressions.{above, below}
use Rattle.semantics.specs.Run as Run
use Rattle.semantics.specs.Run.{away, faulty, pass, Next, to, finished, halted, idle, nobody, mover, Done, Control, Situation, at, fault_answer, turned_away_by, arrive, follow, settle}
use Rattle.semantics.proofs.Facts.{none-not-some, some_is}
use Rattle.effects.specs.Verdicts.{judged_as, Left}
use Rattle.effects.specs.PaperNumbers.{Verdict, Away, Above, Below, Stay, Move, paper_answer}

-- an answer that has a number tells of an event that is answered by it
pub answer-is : {S : Type 0} (c : Control S) (x : S) (s : Situation S) (r : Verdict) (vs : List ℤ) (ms : List ℕ) (n : ℕ) → paper_answer r ≡ some n → (settle c x s (judged_as r vs ms)).answer ≡ n
unfolding paper_answer judged_as settle follow turned_away_by arrive fault_answer
answer-is c x s (Away m) vs ms n e = some_is e
answer-is c x s Above vs ms n e = some_is e
answer-is c x s Below vs ms n e = some_is e
answer-is c x s Stay vs ms n e = some_is e
answer-is c x s (Move m b) vs ms n e = none-not-some e

-- an answer without a number is a node's move
answer-moves : (r : Verdict) → paper_answer r ≡ none → (n : ℕ) × (b : Bool) × (r ≡ Move n b)
unfolding paper_answer
answer-moves (Away n) e = none-not-some (sym e)
answer-moves Above e = none-not-some (sym e)
answer-moves Below e = none-not-some (sym e)
answer-moves Stay e = none-not-some (sym e)
answer-moves (Move n b) e = (n, b, refl)

-- a move that leads somewhere leaves the values and modes of its event
module _ {S : Type 0} (s : Situation S) (ys : List ℤ) (ns : List ℕ) where
  arrived-values : (y : Next S) → (y ≡ idle → ⊥) → (arrive s y ys ns).left.values ≡ ys
  unfolding arrive
  arrived-values (to y) h = refl
  arrived-values finished h = refl
  arrived-values halted h = refl
  arrived-values idle h = absurd (h refl)

  arrived-modes : (y : Next S) → (y ≡ idle → ⊥) → (arrive s y ys ns).left.modes ≡ ns
  unfolding arrive
  arrived-modes (to y) h = refl
  arrived-modes finished h = refl
  arrived-modes halted h = refl
  arrived-modes idle h = absurd (h refl)

module _ {j : Run.Verdict Done} {vs : List ℤ} {ms : List ℕ} {r : Verdict} where
  -- the event was not taken
  pub left-away : {n : ℕ} → r ≡ Away n → j ≡ away n → Left j vs ms r vs ms
  unfolding judged_as settle turned_away_by
  left-away {n} e h = rw (e, h) (record { judged = refl; number = λ k i c x s. answer-is c x s (Away n) vs ms k i; unnumbered = answer-moves (Away n); values = λ c l x. refl; modes = λ c l x. refl })

  pub left-above : r ≡ Above → j ≡ faulty above → Left j vs ms r vs ms
  unfolding judged_as settle
  left-above e h = rw (e, h) (record { judged = refl; number = λ k i c x s. answer-is c x s Above vs ms k i; unnumbered = answer-moves Above; values = λ c l x. refl; modes = λ c l x. refl })

  pub left_below : r ≡ Below → j ≡ faulty below → Left j vs ms r vs ms
  unfolding judged_as settle
  left_below e h = rw (e, h) (record { judged = refl; number = λ k i c x s. answer-is c x s Below vs ms k i; unnumbered = answer-moves Below; values = λ c l x. refl; modes = λ c l x. refl })

  -- it was taken, and values and modes are these
  module _ {ys : List ℤ} {ns : List ℕ} where
    pub left-stay : r ≡ Stay → j ≡ pass (record { moved = nobody; values = ys; modes = ns }) → Left j vs ms r ys ns
    unfolding judged_as settle follow arrive
    left-stay e h = rw (e, h) (record { judged = refl; number = λ k i c x s. answer-is c x s Stay ys ns k i; unnumbered = answer-moves Stay; values = λ c l x. refl; modes = λ c l x. refl })

    pub left-move : {n : ℕ} {b : Bool} → r ≡ Move n b → j ≡ pass (record { moved = mover n b; values = ys; modes = ns }) → Left j vs ms r ys ns
    unfolding judged_as settle follow
    left-move {n} {b} e h = rw (e, h) (record {
      judged = refl;
      number = λ k i c x s. answer-is c x s (Move n b) ys ns k i;
      unnumbered = answer-moves (Move n b);
      values = λ c l x. arrived-values (at x vs ms) ys ns (c.next x n b) (l x n b);
      modes = λ c l x. arrived-modes (at x vs ms) ys ns (c.next x n b) (l x n b);
    })

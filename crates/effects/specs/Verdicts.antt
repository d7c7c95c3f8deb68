-- How a step of an event ends, and what the event leaves of values and modes.
use Rattle.std.specs.Prelude.{◌≡◌, Bool, true, false, List, ℕ, ℤ}
use Rattle.std.proofs.Math.Option.{none, some}
use Rattle.semantics.specs.Expressions.{above, below, Value, ok, fault}
use Rattle.semantics.specs.Run as Run
use Rattle.semantics.specs.Run.{away, faulty, pass, valued, idle, nobody, mover, Done, Control, Situation, at, settle}
use Rattle.effects.specs.PaperNumbers.{Verdict, Away, Above, Below, Stay, Move, paper_answer}

-- a step of an event: the answer is d where it passes
unfoldable pub done_verdict : {A : Type 0} → Verdict → Run.Verdict A → Verdict
done_verdict d (away n) = Away n
done_verdict d (faulty above) = Above
done_verdict d (faulty below) = Below
done_verdict d (pass a) = d

-- a step after which the event goes on
abbrev pub step_verdict : {A : Type 0} → Run.Verdict A → Verdict
step_verdict v = done_verdict Stay v

unfoldable pub is_going_on : Verdict → Bool
is_going_on (Away n) = false
is_going_on Above = false
is_going_on Below = false
is_going_on Stay = true
is_going_on (Move n b) = false

-- a truth: the first answer where it is true, the second where it is false
unfoldable pub truth_verdict : Verdict → Verdict → Value Bool → Verdict
truth_verdict y n (ok true) = y
truth_verdict y n (ok false) = n
truth_verdict y n (fault above) = Above
truth_verdict y n (fault below) = Below

-- ---- the whole event
-- the judged event that an answer tells of, with the values and modes that are left
unfoldable pub judged_as : Verdict → List ℤ → List ℕ → Run.Verdict Done
judged_as (Away n) vs ms = away n
judged_as Above vs ms = faulty above
judged_as Below vs ms = faulty below
judged_as Stay vs ms = pass (record { moved = nobody; values = vs; modes = ms })
judged_as (Move n b) vs ms = pass (record { moved = mover n b; values = vs; modes = ms })

-- no move is idle: in a run no moving node is, 25 has turned the others away
abbrev pub NeverIdle : Control ℕ → Type 0
NeverIdle c = (x n : ℕ) (b : Bool) → c.next x n b ≡ idle → ⊥

-- values vs and modes ms, the event judged j: the answer r, the papers' number of it (24 to 31, 203, 204, 200; of a node's move none),
-- and the values and modes that `settle` leaves
pub record Left (j : Run.Verdict Done) (vs : List ℤ) (ms : List ℕ) (r : Verdict) (vs' : List ℤ) (ms' : List ℕ) : Type 0 where
  pub judged : j ≡ judged_as r vs' ms'
  pub number : (n : ℕ) → paper_answer r ≡ some n → (c : Control ℕ) (x : ℕ) (s : Situation ℕ) → (settle c x s j).answer ≡ n
  pub unnumbered : paper_answer r ≡ none → (n : ℕ) × (b : Bool) × (r ≡ Move n b)
  pub values : (c : Control ℕ) → NeverIdle c → (x : ℕ) → (settle c x (at x vs ms) j).left.values ≡ vs'
  pub modes : (c : Control ℕ) → NeverIdle c → (x : ℕ) → (settle c x (at x vs ms) j).left.modes ≡ ms'

-- what is left where a value faults
unfoldable pub or_else : {A : Type 0} → A → Value A → A
or_else a (ok b) = b
or_else a (fault s) = a

-- the answer of a value, d where it is one, and what is left of what was a
pub record Gives {A : Type 0} (d : Verdict) (a : A) (v : Value A) (r : Verdict) (b : A) : Type 0 where
  pub answer : r ≡ done_verdict d (valued v)
  pub left : b ≡ or_else a v

-- How an event is answered, and the papers' number for each case.
use Rattle.std.proofs.Math.Option.{Option, none, some}
use Rattle.std.specs.Prelude.{Bool, ℕ}

-- turned away with a number, a fault on a side of its range, or taken, with nobody's move or with the move of a node, on done or true, or on false
pub data Verdict : Type 0 where
  Away : ℕ → Verdict
  Above Below Stay : Verdict
  Move : ℕ → Bool → Verdict

-- 24 to 31 for an event that is turned away; "203 means above and a new answer 204 means below"; 200 where nobody moves.
-- Of a node's move none: where it leads decides between 200, 201 and 202.
unfoldable pub paper_answer : Verdict → Option ℕ
paper_answer (Away n) = some n
paper_answer Above = some 203
paper_answer Below = some 204
paper_answer Stay = some 200
paper_answer (Move n b) = none

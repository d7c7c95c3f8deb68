-- What code that reads a slice by position says of a reader of lists.
-- X is what the code answers of a value, and K what that answer means; a crate's own answer comes in by its view, Option (ℕ × X).
use Rattle.std.specs.Prelude.{◌≡◌, List, ℕ, ◌≤◌, length, drop}
use Rattle.std.proofs.Math.Option.{Option, none, some}
use Rattle.semantics.specs.Bytes.{Reader, broken, read}

-- r, at place p of s, takes a value and comes to place q; x tells what K says of the value
pub record Took {A X : Type 0} (r : Reader A) (K : A → X → Type 0) (s : List ℕ) (p q : ℕ) (x : X) : Type 0 where
  pub value : A
  pub got : r (drop p s) ≡ read value (drop q s)
  pub inside : q ≤ length s
  pub means : K value x

-- the answer that r, at place p of s, has
pub data Reads {A X : Type 0} (r : Reader A) (K : A → X → Type 0) (s : List ℕ) (p : ℕ) : Option (ℕ × X) → Type 0 where
  reads_at : {q : ℕ} {x : X} → Took r K s p q x → Reads r K s p (some (q, x))
  reads_none : r (drop p s) ≡ broken → Reads r K s p none

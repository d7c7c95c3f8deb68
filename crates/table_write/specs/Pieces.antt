-- A piece of a table written into a lent buffer.
use Rattle.std.specs.Prelude.{◌≡◌, List, ℕ, ◌+◌, length}
use Rattle.codec.specs.Writing.{Wrote}

-- the bytes are written over d from place i on, which leaves e, and r is the next place
pub record Put (d : List ℕ) (i : ℕ) (bs e : List ℕ) (r : ℕ) : Type 0 where
  pub ends : r ≡ i + length bs
  pub writes : Wrote d i bs e

-- Pieces of equal length, one after the other, by the place of the next.
use Rattle.std.specs.Prelude.{ℕ, ◌+◌, ◌*◌, ◌≤◌}

-- from place p on there is room for n pieces of w bytes each before place e
pub record Ahead (w n p e : ℕ) : Type 0 where
  pub inside : p + n * w ≤ e

-- A part of the bytes, from its start to its end.
use Rattle.std.specs.Prelude.{List, ℕ, ◌≤◌, length}
use Rattle.codec.specs.Parts.{between}
use Rattle.codec.specs.declared.part.Part.{Part}

-- it stands in s
pub record Inside (p : Part) (s : List ℕ) : Type 0 where
  pub ordered : p.start ≤ p.end
  pub ends : p.end ≤ length s

-- the bytes that stand there
abbrev pub part_of : Part → List ℕ → List ℕ
part_of p s = between p.start p.end s

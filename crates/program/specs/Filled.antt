-- The rows that a reader fills.
use Rattle.std.specs.Prelude.{◌≡◌, cond, List, ℕ, ◌+◌, ◌<◌, leb, length, get_or}
use Rattle.plant.specs.declared.sections.PlantRead.{PlantRead}
use Rattle.program.specs.Rows.{kind_row, start_row, end_row}

-- a place in a section that starts at `by`, as a place in the file; a sum that is no number is no place
unfoldable pub shifted_by : ℕ → ℕ → ℕ
shifted_by by p = cond (leb (p + by) 0xffff_ffff_ffff_ffff) (p + by) 0

-- all rows but that of locations: of a plant whose equations start at e in the file, and of nodes whose operands' section starts at o
pub record Filled (p : PlantRead) (ks ss es : List ℕ) (e o : ℕ) (ix : List ℕ) : Type 0 where
  pub long : length ix ≡ 2048
  pub modes : (k : ℕ) → k < length p.mode_offsets → get_or ix k 0 ≡ shifted_by e (get_or p.mode_offsets k 0)
  pub kinds : (n : ℕ) → n < length ks → get_or (kind_row ix) n 0 ≡ get_or ks n 0
  pub starts : (n : ℕ) → n < length ss → get_or (start_row ix) n 0 ≡ shifted_by o (get_or ss n 0)
  pub ends : (n : ℕ) → n < length es → get_or (end_row ix) n 0 ≡ shifted_by o (get_or es n 0)

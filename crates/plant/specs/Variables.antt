-- Conditions 4 and 5: the variable section as the code answers it.
use Rattle.std.specs.Prelude.{◌≡◌, List, map, ℕ, ◌+◌, ◌*◌, ◌≤◌, length, get_or, ℤ, pos, Option, Some, None}
use Rattle.std.proofs.Math.Option.{none}
use Rattle.semantics.specs.Editions.{Edition}
use Rattle.semantics.specs.Sections.{Variable, variable_limit, variables_in}
use Rattle.codec.specs.Padding.{pad}
use Rattle.plant.specs.declared.variables.Variables.{Variables}

-- one number of each variable, in an array of 32
unfoldable pub column : (Variable → ℤ) → List Variable → List ℤ
column f vs = pad variable_limit (pos 0) (map f vs)

-- what the code has of variables that 4 and 5 let pass
unfoldable pub accepted_variables : List Variable → Variables
accepted_variables vs = record {
  count = length vs;
  lows = column (λ (v : Variable). v.minimum) vs;
  highs = column (λ (v : Variable). v.maximum) vs;
  initials = column (λ (v : Variable). v.initial) vs;
}

-- ---- for the parts of the code
-- the section has the bytes of n variables, which are the same in every edition
pub record VariablesStand (s : List ℕ) (n : ℕ) : Type 0 where
  pub first : get_or s 0 0 ≡ n
  pub low : 1 ≤ n
  pub high : n ≤ variable_limit
  pub size : length s ≡ 1 + 12 * n

-- so many variables stand there, or none can be read
abbrev pub Counted : List ℕ → Option ℕ → Type 0
Counted s (Some n) = VariablesStand s n
Counted s None = (ed : Edition) → variables_in ed s ≡ none

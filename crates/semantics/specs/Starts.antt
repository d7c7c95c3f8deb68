-- 20: "The starting values (4 bytes each, then modes) have a wrong length, value or mode."
use Rattle.std.specs.Prelude.{Bool, true, false, ◌&&◌, List, [], ◌∷◌, ℕ, length, ltb, ℤ}
use Rattle.std.proofs.Math.Option.{Option}
use Rattle.semantics.specs.Bytes.{Reader, ◌>>=◌, give, byte, int4, times, whole}
use Rattle.semantics.specs.Expressions.{Value, ok, fault}
use Rattle.semantics.specs.Sections.{Variable, Selector}
use Rattle.semantics.specs.Plant.{Plant, selectors, all_declared}

pub record Start : Type 0 where
  pub values : List ℤ
  pub modes : List ℕ

unfoldable pub read_start : Plant → Reader Start
read_start p = do
  vs ← times (length p.variables) int4
  ms ← times (length (selectors p)) byte
  give (record { values = vs; modes = ms })

unfoldable pub start_in : Plant → List ℕ → Option Start
start_in p = whole (read_start p)

unfoldable pub is_ok : {A : Type 0} → Value A → Bool
is_ok (ok a) = true
is_ok (fault s) = false

-- a value in its declared range each
abbrev pub values_fit : List Variable → List ℤ → Bool
values_fit xs vs = is_ok (all_declared xs vs)

-- a mode of its CASE each
unfoldable pub modes_fit : List Selector → List ℕ → Bool
modes_fit [] ms = true
modes_fit (c ∷ cs) [] = false
modes_fit (c ∷ cs) (m ∷ ms) = ltb m (length c.modes) && modes_fit cs ms

unfoldable pub fits_start : Plant → Start → Bool
fits_start p st = values_fit p.variables st.values && modes_fit (selectors p) st.modes

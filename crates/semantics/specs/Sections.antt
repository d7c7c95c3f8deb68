-- Document 01, "Schedule file": the layout of the variable and the equation section, which a table copies.
use Rattle.std.specs.Prelude.{cond, List, ℕ, ◌-◌, leb, eqb, ℤ}
use Rattle.std.proofs.Math.Option.{Option}
use Rattle.semantics.specs.Bytes.{within, Reader, ◌>>=◌, give, fail, guard, from, byte, int4, bytes, times, section2, whole}
use Rattle.semantics.specs.Editions.{Edition}

pub record Variable : Type 0 where
  pub minimum : ℤ
  pub maximum : ℤ
  pub initial : ℤ

pub record Rate : Type 0 where
  pub driven : ℕ
  pub rate : ℤ

pub record Switch : Type 0 where
  pub target : ℕ
  -- the bytes of a truth
  pub truth : List ℕ

pub record Mode : Type 0 where
  pub rates : List Rate
  pub switches : List Switch

-- a CASE: "CASEs are selectors 0, 1, .. in order"
pub record Selector : Type 0 where
  pub initial : ℕ
  pub modes : List Mode

pub data Equation : Type 0 where
  steady : Rate → Equation
  choice : Selector → Equation

-- ---- limits
-- "Variables: count 1..32", "Equations: count 0..16", "mode count 1..8"
abbrev pub variable_limit : ℕ
variable_limit = 32

abbrev pub equation_limit : ℕ
equation_limit = 16

abbrev pub mode_limit : ℕ
mode_limit = 8

-- ---- layout
module _ (ed : Edition) where
  -- "minimum, maximum, initial (4 bytes each)"
  unfoldable pub read_variable : Reader Variable
  read_variable = do
    low ← int4
    high ← int4
    first ← int4
    give (record { minimum = low; maximum = high; initial = first })

  -- "Variables: count 1..32, then .."
  unfoldable pub read_variables : Reader (List Variable)
  read_variables = do
    n ← byte
    guard (within 1 variable_limit n) (times n read_variable)

  -- 4: "The variable count or section length is wrong."
  unfoldable pub variables_in : List ℕ → Option (List Variable)
  variables_in = whole read_variables

-- "variable, rate (4 bytes)"
unfoldable pub read_rate : Reader Rate
read_rate = do
  v ← byte
  r ← int4
  give (record { driven = v; rate = r })

-- "length byte first, then target mode and a truth that fills the rest"
unfoldable pub read_switch : Reader Switch
read_switch = do
  l ← byte
  guard (leb 1 l) (do
    m ← byte
    t ← bytes (l - 1)
    give (record { target = m; truth = t }))

-- "rate count, rates (..), switch count, switches (..)"
unfoldable pub read_mode : Reader Mode
read_mode = do
  n ← byte
  rs ← times n read_rate
  k ← byte
  ss ← times k read_switch
  give (record { rates = rs; switches = ss })

-- "Kind 1: variable, rate (4 bytes)."
unfoldable pub read_steady : Reader Equation
read_steady = do
  r ← read_rate
  give (steady r)

-- "Kind 2, a CASE: initial mode, mode count 1..8, then each mode"
unfoldable pub read_choice : Reader Equation
read_choice = do
  first ← byte
  n ← byte
  guard (within 1 mode_limit n) (do
    ms ← times n read_mode
    give (choice (record { initial = first; modes = ms })))

unfoldable pub read_equation_body : Reader Equation
read_equation_body = do
  k ← byte
  cond (eqb k 1) read_steady (cond (eqb k 2) read_choice fail)

unfoldable pub equation_in_bytes : List ℕ → Option Equation
equation_in_bytes = whole read_equation_body

-- "records with a 2-byte length first"
unfoldable pub read_equation : Reader Equation
read_equation = do
  b ← section2
  from (equation_in_bytes b)

-- "Equations: count 0..16, then .."
unfoldable pub read_equations : Reader (List Equation)
read_equations = do
  n ← byte
  guard (within 0 equation_limit n) (times n read_equation)

-- 6: "The equation section breaks its layout or a count."
unfoldable pub equations_in : List ℕ → Option (List Equation)
equations_in = whole read_equations

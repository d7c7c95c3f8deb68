-- A program as a run looks things up in it: the plain data that a reader makes of a file, and what it promises of them.
use Rattle.std.specs.Prelude.{◌≡◌, true, List, [], map, ℕ, ◌+◌, ◌*◌, ◌≤◌, ◌<◌, ℤ, length, get_or, take, drop}
use Rattle.std.proofs.Math.Option.{some}
use Rattle.std.proofs.Math.ListN.{get_elem?}
use Rattle.semantics.specs.Bytes.{read}
use Rattle.semantics.specs.Editions.{Edition}
use Rattle.semantics.specs.Sections.{Variable, Rate, Mode, Selector, variable_limit, mode_limit, read_mode}
use Rattle.semantics.specs.Plant.{Plant, equations_named, driven_once, selectors, no_such_mode, rates_of}
use Rattle.semantics.specs.Run.{Action}
use Rattle.semantics.specs.TableFile.{action_kind, action_of_kind}
use Rattle.semantics.specs.Tables.{operand_fits}
use Rattle.codec.specs.Parts.{part_at}
use Rattle.plant.specs.Equations.{rates_from}
use Rattle.program.specs.declared.Program.{Program}
use Rattle.program.specs.Rows.{kind_row, start_row, end_row, location_row, high_row, steady_row}

-- ---- parts of a file at their places
-- the mode that is read at a place
pub record Stands (s : List ℕ) (at : ℕ) (m : Mode) : Type 0 where
  pub inside : at ≤ length s
  pub rest : List ℕ
  pub reads : read_mode (drop at s) ≡ read m rest

-- where the operand of node n lies
pub record Cut (s starts ends : List ℕ) (n : ℕ) : Type 0 where
  pub low : get_or starts n 0 ≤ get_or ends n 0
  pub high : get_or ends n 0 ≤ length s

-- an array with a rate for each variable
pub record RatesIn (zs : List ℤ) (rs : List Rate) : Type 0 where
  pub are : zs ≡ rates_from rs 0 (length zs)

-- ---- what is lent
pub record Lent : Type 0 where
  -- the bytes of the schedule file or table; all places are places in them
  pub bytes : List ℕ
  -- the place of mode m of selector j at mode_limit * j + m
  pub places : List ℕ
  -- of each node its action's kind as in a table (1 test, 2 wait, 3 assign, 4 switch, 5 stop), and where its operand lies
  pub kinds : List ℕ
  pub starts : List ℕ
  pub ends : List ℕ
  -- the place of each location; none of a schedule
  pub locations : List ℕ
  -- of each variable its range and its rate of kind 1; entries beyond the variables stand for nothing
  pub lows : List ℤ
  pub highs : List ℤ
  pub steady : List ℤ

-- its index and its array of ranges and rates, row by row
abbrev pub lent : (bytes index : List ℕ) → List ℤ → Lent
lent s ix rs = record {
  bytes = s;
  places = ix;
  kinds = kind_row ix;
  starts = start_row ix;
  ends = end_row ix;
  locations = location_row ix;
  lows = rs;
  highs = high_row rs;
  steady = steady_row rs;
}

-- what a program lends
abbrev pub lent_of : Program → Lent
lent_of p = lent p.bytes.now p.index.now p.ranges.now

-- ---- the plant
-- mode m of selector j stands at its place
pub record ModeLent (l : Lent) (j : ℕ) (c : Selector) (m : ℕ) : Type 0 where
  pub row : mode_limit * j + m < length l.places
  pub stands : Stands l.bytes (get_or l.places (mode_limit * j + m) 0) (get_or c.modes m no_such_mode)

pub record PlantLent (p : Plant) (l : Lent) : Type 0 where
  pub lows : take (length p.variables) l.lows ≡ map (λ (x : Variable). x.minimum) p.variables
  pub highs : take (length p.variables) l.highs ≡ map (λ (x : Variable). x.maximum) p.variables
  pub few : length p.variables ≤ variable_limit
  pub long : length l.steady ≡ variable_limit
  pub steady : RatesIn l.steady (rates_of p.equations [])
  pub modes : (j : ℕ) (c : Selector) → get_elem? (selectors p) j ≡ some c → (m : ℕ) → m < length c.modes → ModeLent l j c m
  -- conditions 7 and 8
  pub named : equations_named (length p.variables) p.equations ≡ true
  pub once : driven_once [] p.equations ≡ true

-- ---- a node
abbrev pub operand_at : Lent → ℕ → List ℕ
operand_at l n = part_at l.bytes l.starts l.ends n

pub record NodeLent (ed : Edition) (p : Plant) (a : Action) (l : Lent) (n : ℕ) : Type 0 where
  pub below : n < ed.nodes
  pub cut : Cut l.bytes l.starts l.ends n
  pub is : action_of_kind (action_kind (get_or l.kinds n 0)) (operand_at l n) ≡ some a
  pub fits : operand_fits ed (length p.variables) (selectors p) a ≡ true

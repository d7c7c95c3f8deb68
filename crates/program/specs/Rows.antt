-- The rows of a program's index, and those of its array of ranges and rates.
use Rattle.std.specs.Prelude.{List, ℕ, ℤ, drop}

-- ---- the index: its first row has where mode m of selector j stands, at mode_limit * j + m
-- of each node its action's kind, and where its operand starts and ends
abbrev pub kind_row : List ℕ → List ℕ
kind_row ix = drop 256 ix

abbrev pub start_row : List ℕ → List ℕ
start_row ix = drop 512 ix

abbrev pub end_row : List ℕ → List ℕ
end_row ix = drop 768 ix

-- where each location of a table stands
abbrev pub location_row : List ℕ → List ℕ
location_row ix = drop 1024 ix

-- ---- ranges and rates: its first row has the minimum of each variable
abbrev pub high_row : List ℤ → List ℤ
high_row rs = drop 32 rs

-- its rate of kind 1
abbrev pub steady_row : List ℤ → List ℤ
steady_row rs = drop 64 rs

-- Where the four sections of a table stand.
use Rattle.std.specs.Prelude.{List, [], ℕ, ◌+◌, length, drop}
use Rattle.std.proofs.Math.Option.{Option, none, some}
use Rattle.semantics.specs.TableFile.{TableSections, table_sections_in}
use Rattle.table_read.specs.declared.parts.Parts.{Parts}

-- the sections that end at v, e, a and l: after the header of 5 bytes each has its length before it, in 2, 2, 2 and 4 bytes
abbrev pub parts_at : ℕ → ℕ → ℕ → ℕ → Parts
parts_at v e a l = record {
  variables = record { start = 7; end = v };
  equations = record { start = v + 2; end = e };
  actions = record { start = e + 2; end = a };
  locations = record { start = a + 4; end = l };
}

unfoldable pub parts_in : TableSections → Parts
parts_in s =
    let v = 7 + length s.variables in
    let e = v + 2 + length s.equations in
    let a = e + 2 + length s.actions in
    parts_at v e a (a + 4 + length s.locations)

-- four sections
abbrev pub sections_from : List ℕ → List ℕ → List ℕ → List ℕ → TableSections
sections_from vs es ops locs = record { variables = vs; equations = es; actions = ops; locations = locs }

unfoldable pub sections_or_none : Option TableSections → TableSections
sections_or_none none = sections_from [] [] [] []
sections_or_none (some s) = s

-- the sections of a table; no bytes where they do not fill it
unfoldable pub sections_of : List ℕ → TableSections
sections_of t = sections_or_none (table_sections_in (drop 5 t))

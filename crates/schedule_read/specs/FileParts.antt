-- Where the three sections of a schedule file stand.
use Rattle.std.specs.Prelude.{List, ℕ, ◌+◌, length}
use Rattle.schedules.specs.FileSections.{FileSections}
use Rattle.codec.specs.Part.{part_of}
use Rattle.schedule_read.specs.declared.parts.Parts.{Parts}

-- the sections that end at v, e and s: after the header of 3 bytes each has its length before it, in 2 bytes
abbrev pub parts_at : ℕ → ℕ → ℕ → Parts
parts_at v e s = record {
  variables = record { start = 5; end = v };
  equations = record { start = v + 2; end = e };
  schedule = record { start = e + 2; end = s };
}

unfoldable pub parts_in : FileSections → Parts
parts_in s =
    let v = 5 + length s.variables in
    let e = v + 2 + length s.equations in
    parts_at v e (e + 2 + length s.schedule)

-- the sections that stand there
unfoldable pub sections_at : List ℕ → Parts → FileSections
sections_at f p = record {
  variables = part_of p.variables f;
  equations = part_of p.equations f;
  schedule = part_of p.schedule f;
}

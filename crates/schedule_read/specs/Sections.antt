-- Document 01, "Schedule file": "One reader carries the lent file and its place from section to section".
use Rattle.std.specs.Prelude.{◌≡◌, List, ℕ, ◌+◌, drop, Option, Some, None, option_map}
use Rattle.std.proofs.Math.Option as Math
use Rattle.semantics.specs.Bytes.{section2}
use Rattle.schedules.specs.FileSections.{FileSections, file_sections_in}
use Rattle.codec.specs.Ends.{end_of}
use Rattle.codec.specs.declared.part.Part.{Part}
use Rattle.schedule_read.specs.FileParts.{parts_in}
use Rattle.schedule_read.specs.declared.parts.Parts.{Parts}

-- the section at a place of the file, "each with its 2-byte length first"
abbrev pub section_at : List ℕ → ℕ → Option Part
section_at f p = option_map (λ (q : ℕ). let part : Part = record { start = p + 2; end = q } in part) (end_of section2 f p)

-- the three sections behind the header of 3 bytes, where they fill the file
abbrev pub SectionsRead : List ℕ → Option Parts → Type 0
SectionsRead f None = file_sections_in (drop 3 f) ≡ Math.none
SectionsRead f (Some p) = (s : FileSections) × (file_sections_in (drop 3 f) ≡ Math.some s) × (p ≡ parts_in s)

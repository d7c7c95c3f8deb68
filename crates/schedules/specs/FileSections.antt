-- Document 01, "Schedule file": "Byte 0 is version 1, then the whole file's length (2 bytes), then three sections, each with its 2-byte length first (bytes after it)."
use Rattle.std.specs.Prelude.{List, ℕ}
use Rattle.std.proofs.Math.Option.{Option}
use Rattle.semantics.specs.Bytes.{Reader, ◌>>=◌, give, section2, whole}

pub record FileSections : Type 0 where
  pub variables : List ℕ
  pub equations : List ℕ
  pub schedule : List ℕ

unfoldable pub read_file_sections : Reader FileSections
read_file_sections = do
  vs ← section2
  es ← section2
  ns ← section2
  give (record { variables = vs; equations = es; schedule = ns })

-- 3: "The three sections do not fill it just so."
unfoldable pub file_sections_in : List ℕ → Option FileSections
file_sections_in = whole read_file_sections

-- Document 01, "Table file", its last sentences: how a run goes through a table, in terms of the entries that stand in it. `table_control` of Tables is shown to be so.
use Rattle.std.specs.Prelude.{◌≡◌, true, false, ℕ, ◌<◌, length}
use mathlib.Core.List.{List, map, Memᴰ as Mem}
use Rattle.std.proofs.Math.Option.{some}
use Rattle.std.proofs.Math.ListN.{get_elem?}
use Rattle.semantics.specs.Run.{test, Next, to, finished, halted, Control}
use Rattle.semantics.specs.TableFile.{Entry}
use Rattle.semantics.specs.Tables.{Table}

-- "FFFE is finished, FFFD halted"; any other target is the number of a location
pub data Coded (locations : ℕ) : Next ℕ → ℕ → Type 0 where
  coded_location : {k : ℕ} → k < locations → Coded locations (to k) k
  coded_finished : Coded locations finished 0xfffe
  coded_halted : Coded locations halted 0xfffd

-- an entry of a location
pub record EntryRuns (t : Table) (c : Control ℕ) (x : ℕ) (e : Entry) : Type 0 where
  -- "their actions hold the truths and assignments"
  pub listed : Mem (record { node = e.node; action = c.action e.node }) t.actions
  -- "A taken pick goes to its entry's target"
  pub on_true : Coded (length t.locations) (c.next x e.node true) e.target
  -- "a false test to the second one"
  pub on_false : (b : List ℕ) → c.action e.node ≡ test b → Coded (length t.locations) (c.next x e.node false) e.other

pub record TableRuns (t : Table) (c : Control ℕ) : Type 0 where
  -- "A run of a table starts at location 0"
  pub start : c.start ≡ 0
  -- "The acting nodes are the location's entries"
  pub acting : (x : ℕ) (es : List Entry) → get_elem? t.locations x ≡ some es → c.acting x ≡ map (λ (e : Entry). e.node) es
  pub entries : (x : ℕ) (es : List Entry) → get_elem? t.locations x ≡ some es → (e : Entry) → Mem e es → EntryRuns t c x e

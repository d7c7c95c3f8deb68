-- The editions of the formats. Whatever reads or writes bytes takes one. Edition 1 is document 01's, edition 2 that of document 02, item 6.
-- "Rules 1, 9, 15, 18, 19 and 21 read the edition's limits.": where a comment quotes document 01's 1, 3, 8, 63, 64 or "length byte", the edition's is meant.
use Rattle.std.specs.Prelude.{◌≡◌, cond, List, ℕ, ◌*◌, ◌≤◌, ◌<◌, get_or, eqb}
use Rattle.std.proofs.Math.Option.{some}
use Rattle.std.proofs.Math.ListN.{get_elem?}
use Rattle.std.proofs.Common.{lit<, lit≤}
use Rattle.semantics.specs.Bytes.{Width, one_byte, two_bytes}

-- the numbers that fit a width are below this
abbrev pub capacity : Width → ℕ
capacity one_byte = 256
capacity two_bytes = 65536

pub record Edition : Type 0 where
  -- byte 0 of a file and of a table
  pub version : ℕ
  -- of a node count, an action count, a node's number, a node's length and an action's length
  pub width : Width
  -- nodes are numbered below this
  pub nodes : ℕ
  -- of a record's set of acting nodes
  pub set_bytes : ℕ
  pub event_bytes : ℕ
  -- what every edition keeps: its numbers fit their bytes; a location's entries are counted in one byte, since of 256 nodes
  -- that act together one more, a PARALLEL, would not act; an event has room for a kind and a selector with its switch
  pub version_fits : version < 256
  pub nodes_fit : nodes < capacity width
  pub entries_fit : nodes ≤ 256
  pub set_holds : nodes ≤ 8 * set_bytes
  pub event_holds : 3 ≤ event_bytes

-- "Byte 0 is version 1"; "node count 1..64"; "An event is 3 bytes"; "set of acting nodes (8 bytes, ..)"
abbrev pub edition1 : Edition
edition1 = record {
  version = 1;
  width = one_byte;
  nodes = 64;
  set_bytes = 8;
  event_bytes = 3;
  version_fits = lit< tt;
  nodes_fit = lit< tt;
  entries_fit = lit≤ tt;
  set_holds = lit≤ tt;
  event_holds = lit≤ tt;
}

-- Document 02, item 6: "version byte 2, node counts, action counts and node numbers of two bytes, and node lengths of two bytes"; "Action lengths are two bytes too."; "up to 256 nodes";
-- "An event is then 4 bytes"; "The set in a record grows to 32 bytes"
abbrev pub edition2 : Edition
edition2 = record {
  version = 2;
  width = two_bytes;
  nodes = 256;
  set_bytes = 32;
  event_bytes = 4;
  version_fits = lit< tt;
  nodes_fit = lit< tt;
  entries_fit = lit≤ tt;
  set_holds = lit≤ tt;
  event_holds = lit≤ tt;
}

-- "Edition 2 files and tables have version byte 2": byte 0 tells the edition of a file or table.
-- What has another byte 0 is judged by edition 1, which refuses it with 1 or 15.
unfoldable pub edition_in : List ℕ → Edition
edition_in bytes = cond (eqb (get_or bytes 0 0) edition2.version) edition2 edition1

-- the same without a test: bytes that begin with 1 are of edition 1, bytes that begin with 2 of edition 2, and no others are of one
pub data OfEdition (bytes : List ℕ) : Edition → Type 0 where
  of_first : get_elem? bytes 0 ≡ some 1 → OfEdition bytes edition1
  of_second : get_elem? bytes 0 ≡ some 2 → OfEdition bytes edition2

abbrev pub NoEdition : List ℕ → Type 0
NoEdition bytes = (ed : Edition) → OfEdition bytes ed → ⊥

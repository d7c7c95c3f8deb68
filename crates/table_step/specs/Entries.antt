-- The entries of a location, as the code finds them.
use Rattle.std.specs.Prelude.{◌≡◌, Bool, true, List, ℕ, ◌<◌, drop}
use Rattle.semantics.specs.Bytes.{read}
use Rattle.semantics.specs.Editions.{Edition}
use Rattle.semantics.specs.Plant.{among}
use Rattle.semantics.specs.TableFile.{Entry, read_location}
use Rattle.semantics.specs.Tables.{rising_from, entry_nodes, entry_target}
use Rattle.nodeset.specs.Sets.{members, Words}

-- these entries are read as a location at a place, their nodes rising and such as a set may have
pub record Listed (ed : Edition) (s : List ℕ) (p : ℕ) (es : List Entry) : Type 0 where
  pub rest : List ℕ
  pub reads : read_location ed (drop p s) ≡ read es rest
  pub rising : rising_from 0 (entry_nodes es) ≡ true
  pub small : (n : ℕ) → among n (entry_nodes es) ≡ true → n < 256

-- some entries are
pub record Located (ed : Edition) (s : List ℕ) (p : ℕ) : Type 0 where
  pub entries : List Entry
  pub listed : Listed ed s p entries

-- "The acting nodes are the location's entries": ws is the set of them
pub record Gathered (ed : Edition) (s : List ℕ) (p : ℕ) (ws : List ℕ) : Type 0 where
  pub words : Words ws
  pub are : (es : List Entry) → Listed ed s p es → members ws ≡ entry_nodes es

-- t is the target of node n's entry, on done or true, or on false
pub record Found (ed : Edition) (s : List ℕ) (p : ℕ) (n : ℕ) (b : Bool) (t : ℕ) : Type 0 where
  pub is : (es : List Entry) → Listed ed s p es → t ≡ entry_target es n b

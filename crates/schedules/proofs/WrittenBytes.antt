-- Where the inputs are bytes, so is every element of a table that is compiled and of a record that is written.
use mathlib.Core.Path.{◌≡◌, refl, sym, subst}
use mathlib.Core.Bool.{Bool, true, false, cond}
use mathlib.Core.List.{List, [], ◌∷◌, map}
use mathlib.Core.Option.{none, some}
use Prim.Native.Nat.{ℕ, ◌≤◌, ◌<◌}
use native.Mathlib.Nat.{le_trans}
use native.Mathlib.Omega.{arith}
use lib.Dec.{leb, lit<}
use lib.ListN.{length, drop, length-map}
use Rattle.semantics.specs.Bytes.{overwrite, section2, byte_and_rest, from_two_bytes, from_no_bytes}
use Rattle.semantics.specs.Editions.{Edition}
use Rattle.semantics.specs.Refusals.{Judged, refused, accepted}
use Rattle.semantics.specs.Run.{Action}
use Rattle.semantics.specs.TableFile.{location_limit, action_bytes, kind_number, operand_bytes}
use Rattle.semantics.specs.Calls.{Program}
use Rattle.semantics.proofs.Facts.{none-not-some, some_is, All, all_nil, all_cons, all_append}
use Rattle.semantics.proofs.Judging.{accepted-is, passed_then}
use Rattle.semantics.proofs.Readers.{bytes_read}
use Rattle.semantics.proofs.WrittenRecords.{Byte}
use Rattle.semantics.proofs.WrittenSources.{Makes, makes-then, makes-give, makes-guard, makes-from, makes-byte, makes-nat2, makes-number, makes-bytes, makes-times, whole-makes, all_drop, plant-bytes, ActionWritten, actions-bytes, ProgramBytes, buffer-bytes}
use Rattle.semantics.proofs.WrittenTables.{table-bytes, writable}
use Rattle.schedules.specs.FileSections.{FileSections, read_file_sections, file_sections_in}
use Rattle.schedules.specs.Nodes.{Node, sequence, parallel, while_do, if_else, continue_until, reset, reinitial, switch_to, stop_all, Kind, a_sequence, a_parallel, a_while, an_if, a_continue, a_reset, a_reinitial, a_switch, a_stop, no_kind, kind_of, child_count, node_of, read_node, read_nodes, nodes_in, action_of, actions_of}
use Rattle.schedules.specs.Residuals.{Residual, acting}
use Rattle.schedules.specs.Files.{Schedule, judge_file, rule_control}
use Rattle.schedules.specs.Compiling.{tests_of, schedule_locations, entry_of, entries_of, table_of, judge_compile}
use Rattle.schedules.specs.Calls.{compile, compiled_into, file_comparisons, rule_program, rule_run_of}
use Rattle.schedules.proofs.NodeActions.{node-action}
use Rattle.schedules.proofs.FirstNumber.{Passed, passed}
use Rattle.schedules.proofs.ResidualsKept.{acting-fit-a-byte}
use Rattle.schedules.proofs.ActionsListed.{actions-few, actions-all}
use Rattle.schedules.proofs.TableAccepted.{counted, acts_fit, acts-short, of-root, spans, locs_fit, as_many, all_of, all-mapped}
use Rattle.schedules.proofs.Agreement.{compile-taken}

-- ---- sections
pub record SectionBytes (b : List ℕ) : Type 0 where
  pub each : All Byte b
  pub fits : length b < 65536

makes-section : Makes section2 SectionBytes
unfolding section2
makes-section = makes-then _ _ makes-nat2 (λ n h. record {
  makes = λ s k b t e.
      let m = (makes-bytes n).makes s k b t e in
      let l = (bytes_read n s e).0 in
      record { made = record { each = m.made; fits = subst (λ n. n < 65536) (sym l) h }; left = m.left };
})

pub record PartsBytes (p : FileSections) : Type 0 where
  pub variables : SectionBytes p.variables
  pub equations : SectionBytes p.equations
  pub schedule : SectionBytes p.schedule

makes-parts : Makes read_file_sections PartsBytes
unfolding read_file_sections
makes-parts =
    makes-then section2 _ makes-section (λ v h. makes-then section2 _ makes-section (λ e i. makes-then section2 _ makes-section (λ n j.
    makes-give _ (record { variables = h; equations = i; schedule = j }))))

-- ---- nodes
abbrev NodeBytes : Node → Type 0
NodeBytes x = (y : Action) → action_of x ≡ some y → All Byte (action_bytes y)

-- an action of a kind below 256 and these bytes
of-action : {a y : Action} → some a ≡ some y → All Byte (action_bytes a) → All Byte (action_bytes y)
of-action e h = subst (λ z. All Byte (action_bytes z)) (some_is e) h

module _ {x : Node} where
  is_node : (f : Node) → NodeBytes f → some f ≡ some x → NodeBytes x
  is_node f h e = subst NodeBytes (some_is e) h

  counts-bytes : (f : ℕ → Node) → ((k : ℕ) → NodeBytes (f k)) → (b : List ℕ) → child_count f b ≡ some x → NodeBytes x
  unfolding child_count
  counts-bytes f h [] e = none-not-some e
  counts-bytes f h (k ∷ []) e = go (leb 1 k) e
    where
      go : (t : Bool) → cond t (some (f k)) none ≡ some x → NodeBytes x
      go true e = is_node (f k) (h k) e
      go false e = none-not-some e
  counts-bytes f h (k ∷ y ∷ s) e = none-not-some e

  assign-bytes : (f : ℕ → List ℕ → Node) → ((v : ℕ) (t : List ℕ) → Byte v → All Byte t → NodeBytes (f v t)) → {b : List ℕ} → All Byte b → byte_and_rest f b ≡ some x → NodeBytes x
  unfolding byte_and_rest
  assign-bytes f h all_nil e = none-not-some e
  assign-bytes f h (all_cons {x = v} {l = t} p q) e = is_node (f v t) (h v t p q) e

  switch-bytes : {b : List ℕ} → All Byte b → from_two_bytes switch_to b ≡ some x → NodeBytes x
  unfolding from_two_bytes action_of action_bytes kind_number operand_bytes
  switch-bytes all_nil e = none-not-some e
  switch-bytes (all_cons p all_nil) e = none-not-some e
  switch-bytes (all_cons {x = s} p (all_cons {x = m} q all_nil)) e = is_node (switch_to s m) (λ y f. of-action f (all_cons (lit< tt) (all_cons p (all_cons q all_nil)))) e
  switch-bytes (all_cons p (all_cons q (all_cons r k))) e = none-not-some e

  stop-bytes : (b : List ℕ) → from_no_bytes stop_all b ≡ some x → NodeBytes x
  unfolding from_no_bytes action_of action_bytes kind_number operand_bytes
  stop-bytes [] e = is_node stop_all (λ y f. of-action f (all_cons (lit< tt) all_nil)) e
  stop-bytes (a ∷ s) e = none-not-some e

  node-bytes : (k : Kind) (b : List ℕ) → All Byte b → node_of k b ≡ some x → NodeBytes x
  unfolding node_of action_of action_bytes kind_number operand_bytes
  node-bytes a_sequence b h e = counts-bytes sequence (λ k y f. none-not-some f) b e
  node-bytes a_parallel b h e = counts-bytes parallel (λ k y f. none-not-some f) b e
  node-bytes a_while b h e = is_node (while_do b) (λ y f. of-action f (all_cons (lit< tt) h)) e
  node-bytes an_if b h e = is_node (if_else b) (λ y f. of-action f (all_cons (lit< tt) h)) e
  node-bytes a_continue b h e = is_node (continue_until b) (λ y f. of-action f (all_cons (lit< tt) h)) e
  node-bytes a_reset b h e = assign-bytes reset (λ v t p q y f. of-action f (all_cons (lit< tt) (all_cons p q))) h e
  node-bytes a_reinitial b h e = assign-bytes reinitial (λ v t p q y f. of-action f (all_cons (lit< tt) (all_cons p q))) h e
  node-bytes a_switch b h e = switch-bytes h e
  node-bytes a_stop b h e = stop-bytes b e
  node-bytes no_kind b h e = none-not-some e

makes-node : (ed : Edition) → Makes (read_node ed) NodeBytes
unfolding read_node
makes-node ed = makes-then _ _ (makes-number ed.width) (λ l h. makes-guard _ _ (λ g. makes-then _ _ makes-byte (λ k i. makes-then _ _ (makes-bytes _) (λ b j.
    makes-from (node_of (kind_of k) b) (λ x e. node-bytes (kind_of k) b j e)))))

makes-nodes : (ed : Edition) → Makes (read_nodes ed) (All NodeBytes)
unfolding read_nodes
makes-nodes ed = makes-then _ _ (makes-number ed.width) (λ n h. makes-guard _ _ (λ g. record {
  makes = λ s k l t e.
      let m = (makes-times n (read_node ed) (makes-node ed)).makes s k l t e in record { made = m.made.each; left = m.left };
}))

few-entries : (tests : ℕ → Bool) (l : List Residual) (r : Residual) → length (acting r) ≤ 255 → length (entries_of tests l r) ≤ 255
unfolding entries_of
few-entries tests l r k = let e = length-map (acting r) (entry_of tests l r) in omega arith

-- ---- an accepted file of bytes
module _ (ed : Edition) (file : List ℕ) (s : Schedule) (g : Passed ed file s) (h : All Byte file) where
  parts-bytes : PartsBytes s.sections
  unfolding file_sections_in
  parts-bytes = whole-makes makes-parts (drop 3 file) (all_drop 3 h) g.parts

  nodes-bytes : All NodeBytes s.nodes
  unfolding nodes_in
  nodes-bytes = whole-makes (makes-nodes ed) s.sections.schedule parts-bytes.schedule.each g.nodes

  acts-bytes : All ActionWritten (actions_of s.nodes)
  unfolding actions_of
  acts-bytes = actions-all ActionWritten NodeBytes (length s.nodes) (λ n x y i e q. q y e) 0 nodes-bytes (omega arith)

  pub program-bytes : ProgramBytes (record { plant = s.plant; control = rule_control s })
  unfolding rule_control
  program-bytes = record {
    plant = plant-bytes ed s.sections.variables s.sections.equations g.plant parts-bytes.variables.each parts-bytes.equations.each;
    control = record { actions = λ n. rw (node-action s.nodes n) (actions-bytes acts-bytes n) };
  }

  written-table : length (schedule_locations s) ≤ location_limit → All Byte (table_of ed s)
  unfolding table_of
  written-table fits =
      let l = schedule_locations s in
      let tests = tests_of s.nodes in
      let few = (counted ed file s g fits).few-nodes in
      let many = as_many ed file s g fits in
      table-bytes ed s.sections.variables s.sections.equations (actions_of s.nodes) (map (entries_of tests l) l)
      (writable ed s.plant s.sections.variables s.sections.equations (actions_of s.nodes) (map (entries_of tests l) l)
      parts-bytes.variables.each parts-bytes.variables.fits parts-bytes.equations.each parts-bytes.equations.fits
      (le_trans (actions-few s.nodes) few) (acts-short ed file s g fits) acts-bytes (acts_fit ed file s g fits)
      (omega arith) (all-mapped _ (entries_of tests l) (all_of l (λ r m. few-entries tests l r (acting-fit-a-byte (of-root ed file s g fits r m) (spans ed file s g fits) (le_trans few ed.entries_fit)))))
      (locs_fit ed file s g fits))

-- ---- the calls
program : (ed : Edition) (file : List ℕ) → All Byte file → (g : Program Residual) → rule_program ed file ≡ accepted g → ProgramBytes g
unfolding rule_program
program ed file f g e =
    let p = passed_then (judge_file ed file) _ e in
    subst ProgramBytes (accepted-is p.2) (program-bytes ed file p.0 (passed ed file p.0 p.1) f)

pub rule-run-bytes : (ed : Edition) (file start events buffer : List ℕ) → All Byte file → All Byte start → All Byte buffer → All Byte (rule_run_of ed file start events buffer).records
unfolding rule_run_of
rule-run-bytes ed file start events buffer f st b = buffer-bytes ed (rule_program ed file) (program ed file f) start events buffer st b

pub compile-bytes : (ed : Edition) (file buffer : List ℕ) → All Byte file → All Byte buffer → All Byte (compile ed file buffer).table
unfolding compile compiled_into overwrite
compile-bytes ed file buffer f b = go (judge_compile ed file buffer) refl
  where
    go : (j : Judged (List ℕ)) → judge_compile ed file buffer ≡ j → All Byte (compiled_into (file_comparisons (judge_file ed file)) buffer j).table
    go (refused n) e = b
    go (accepted t) e =
        let k = compile-taken ed file buffer e in
        all_append (subst (All Byte) k.is_table (written-table ed file k.of (passed ed file k.of k.of_file) f k.few)) (all_drop (length t) b)

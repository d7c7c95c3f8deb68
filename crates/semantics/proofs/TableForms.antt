-- A table is read just where it is a written form within the printed limits.
use mathlib.Core.Path.{◌≡◌, refl, sym, ap, subst, ◌∙◌}
use mathlib.Core.Bool.{true, ◌&&◌, cond}
use mathlib.Core.List.{List, [], ◌∷◌, ◌++◌, append-nil}
use mathlib.Core.Logic.{◌↔◌}
use mathlib.Core.Option.{some}
use Prim.Native.Nat.{ℕ, suc, ◌+◌, ◌-◌, ◌<◌}
use native.Mathlib.Omega.{arith}
use borrow.Author.Tests.{eqb-true, leb-true}
use lib.Dec.{leb, eqb}
use lib.ListN.{length, drop}
use Rattle.semantics.specs.Bytes.{be4, out4, width_of, within, from, byte, nat2, number, bytes, section2, section4, from_no_bytes, from_two_bytes, byte_and_rest}
use Rattle.semantics.specs.Editions.{Edition}
use Rattle.semantics.specs.Run.{Action}
use Rattle.semantics.specs.TableFile.{TEST, WAIT, ASSIGN, SWITCH, STOP, NodeAction, Entry, TableSections, ActionKind, a_test, a_wait, an_assignment, a_switch, a_stop, no_kind, action_kind, action_of_kind, read_table_sections, table_sections_in, read_action, read_actions, actions_in, read_entry, read_location, read_locations, locations_in, action_bytes, kind_number, operand_bytes, write_action, write_actions, write_entry, write_location, write_locations, table_body, table_bytes, write_table_sections}
use Rattle.semantics.specs.Tables.{Table, table_header}
use Rattle.semantics.specs.Writing.{AllBytes, write_variables, write_equations, write_table, ActionLimits, ActionsLimits, EntryLimits, RowLimits, LocationsLimits, TableLimits, TableReadAs, TableSectionsLimits}
use Rattle.semantics.proofs.Facts.{none-not-some, some_is, true-not-false, by_cases, and_left, and_right, within_low, within-high, within_both, all_cons, all_append, all_map, all-flat}
use Rattle.semantics.proofs.Readers.{reads_then, reads-last, reads-nat2, reads-number}
use Rattle.semantics.proofs.SignedBytes.{be4-fits, out4-be4}
use Rattle.semantics.proofs.TableBack.{actions-in-order, locations-in-order, reads-section2, reads-section4, reads-action, reads-location, sections-back, body_back, header-back}
use Rattle.semantics.proofs.WrittenRecords.{out2-bytes, out4-bytes, out-bytes}
use Rattle.semantics.proofs.WrittenSources.{all_drop}
use Rattle.semantics.proofs.WrittenTables.{width_small, capacity-large, section4-written, table-length}
use Rattle.semantics.proofs.TakenBytes.{Is, Takes, takes-then, takes-last, takes-option, takes-guard, takes-as, takes-byte, takes-nat2, takes-number, takes-bytes, takes-section2, takes-section4, takes-counted, reads-counted, Exact, exact}
use Rattle.semantics.proofs.SectionForms.{section-written, variables-bytes, equations-bytes}

-- ---- actions
-- the byte that stands for a kind
abbrev Stands : ℕ → ActionKind → Type 0
Stands k a_test = k ≡ TEST
Stands k a_wait = k ≡ WAIT
Stands k an_assignment = k ≡ ASSIGN
Stands k a_switch = k ≡ SWITCH
Stands k a_stop = k ≡ STOP
Stands k no_kind = Unit {0}

code : (k n : ℕ) (f g : ActionKind) → (k ≡ n → Stands k f) → Stands k g → Stands k (cond (eqb k n) f g)
code k n f g h r = by_cases (eqb k n) (λ e. rw e (h (eqb-true k n e))) (λ e. rw e r)

kind-stands : (k : ℕ) → Stands k (action_kind k)
unfolding action_kind
kind-stands k = code k TEST _ _ (λ e. e) (code k WAIT _ _ (λ e. e) (code k ASSIGN _ _ (λ e. e) (code k SWITCH _ _ (λ e. e) (code k STOP _ _ (λ e. e) tt))))

-- this action, of this kind and operand
is_action : {n k : ℕ} {b : List ℕ} {x a : Action} → k ≡ n → some x ≡ some a → n ∷ b ≡ action_bytes x → k ∷ b ≡ action_bytes a
is_action {b = b} h e f = ap (λ n. n ∷ b) h ∙ f ∙ ap action_bytes (some_is e)

action-coded : (k : ℕ) (c : ActionKind) → Stands k c → (b : List ℕ) {a : Action} → action_of_kind c b ≡ some a → k ∷ b ≡ action_bytes a
unfolding action_of_kind action_bytes kind_number operand_bytes from_no_bytes from_two_bytes byte_and_rest
action-coded k a_test h b e = is_action h e refl
action-coded k a_wait h b e = is_action h e refl
action-coded k an_assignment h [] e = none-not-some e
action-coded k an_assignment h (v ∷ b) e = is_action h e refl
action-coded k a_switch h [] e = none-not-some e
action-coded k a_switch h (s ∷ []) e = none-not-some e
action-coded k a_switch h (s ∷ m ∷ []) e = is_action h e refl
action-coded k a_switch h (s ∷ m ∷ x ∷ b) e = none-not-some e
action-coded k a_stop h [] e = is_action h e refl
action-coded k a_stop h (x ∷ b) e = none-not-some e
action-coded k no_kind h b e = none-not-some e

module _ (ed : Edition) where
  action-taken : Takes (read_action ed) (Is (write_action ed) (ActionLimits ed))
  unfolding read_action write_action
  action-taken =
      let w = ed.width in
      let m = width_of w in
      takes-then (number w) _ (takes-number w) (λ l h. takes-guard (within (m + 1) (m + 200) l) _ (λ g.
      takes-then (number w) _ (takes-number w) (λ n i. takes-then byte _ takes-byte (λ k j. takes-then (bytes (l - (m + 1))) _ (takes-bytes (l - (m + 1))) (λ b c.
      takes-last (from (action_of_kind (action_kind k) b)) _ (takes-option (action_of_kind (action_kind k) b)) (λ a e.
      let f = action-coded k (action_kind k) (kind-stands k) b e in
      let low = within_low (m + 1) (m + 200) l g in
      let high = within-high (m + 1) (m + 200) l g in
      let count = c.count in
      let size : suc (length b) ≡ length (action_bytes a) = ap length f in
      let whole : m + length (action_bytes a) ≡ l = omega arith in
      record {
        written = rw (append-nil b, f, whole) refl;
        fits = record { node = i; bytes = subst AllBytes f (all_cons j c.each); at_most = omega arith };
      }))))))

  action-written : (a : NodeAction) → ActionLimits ed a → AllBytes (write_action ed a)
  unfolding write_action
  action-written a h =
      let b = action_bytes a.action in
      let s = h.at_most in
      let w = width_small ed.width in
      let c = capacity-large ed.width in
      all_append (out-bytes ed.width (width_of ed.width + length b) (omega arith)) (all_append (out-bytes ed.width a.node h.node) h.bytes)

  actions-form : Exact (read_actions ed) (write_actions ed) (ActionsLimits ed)
  unfolding write_actions
  actions-form = subst (λ r. Exact r (write_actions ed) (ActionsLimits ed)) (sym (actions-in-order ed)) (record {
    taken = takes-as (λ l w i. record {
      written = i.written;
      fits = record { at_least = within_low 1 ed.nodes (length l) i.fits.tested; at_most = within-high 1 ed.nodes (length l) i.fits.tested; each = i.fits.each };
    }) (takes-counted (number ed.width) (within 1 ed.nodes) (read_action ed) (takes-number ed.width) action-taken);
    back = λ l h. reads-counted (number ed.width) (within 1 ed.nodes) (read_action ed) (reads-number ed.width) (λ a k. reads-action ed a k.at_most)
        (within_both 1 ed.nodes (length l) h.at_least h.at_most) h.each;
    in_bytes = λ l h. (let k = h.at_most in let f = ed.nodes_fit in all_append (out-bytes ed.width (length l) (omega arith)) (all-flat (write_action ed) (all_map action-written h.each)));
  })

  pub actions-bytes : (s : List ℕ) (l : List NodeAction) → (AllBytes s × (actions_in ed s ≡ some l)) ↔ ((s ≡ write_actions ed l) × ActionsLimits ed l)
  unfolding actions_in
  actions-bytes = exact actions-form

  -- ---- locations
  entry-taken : Takes (read_entry ed) (Is (write_entry ed) (EntryLimits ed))
  unfolding read_entry write_entry
  entry-taken =
      takes-then (number ed.width) _ (takes-number ed.width) (λ n h. takes-then nat2 _ takes-nat2 (λ t i. takes-last nat2 _ takes-nat2 (λ u j.
      record { written = refl; fits = record { node = h; target = i; other = j } })))

  entry-written : (e : Entry) → EntryLimits ed e → AllBytes (write_entry ed e)
  unfolding write_entry
  entry-written e h = all_append (out-bytes ed.width e.node h.node) (all_append (out2-bytes e.target h.target) (out2-bytes e.other h.other))

  row-taken : Takes (read_location ed) (Is (write_location ed) (RowLimits ed))
  unfolding read_location write_location
  row-taken = takes-as (λ es w i. record {
    written = i.written;
    fits = record { at_least = leb-true 1 (length es) i.fits.tested; at_most = i.fits.count; each = i.fits.each };
  }) (takes-counted byte (leb 1) (read_entry ed) takes-byte entry-taken)

  row_written : (es : List Entry) → RowLimits ed es → AllBytes (write_location ed es)
  unfolding write_location
  row_written es h = all_cons h.at_most (all-flat (write_entry ed) (all_map entry-written h.each))

  locations-form : Exact (read_locations ed) (write_locations ed) (LocationsLimits ed)
  unfolding write_locations
  locations-form = subst (λ r. Exact r (write_locations ed) (LocationsLimits ed)) (sym (locations-in-order ed)) (record {
    taken = takes-as (λ l w i. record {
      written = i.written;
      fits = record { at_least = within_low 1 1024 (length l) i.fits.tested; at_most = within-high 1 1024 (length l) i.fits.tested; each = i.fits.each };
    }) (takes-counted nat2 (within 1 1024) (read_location ed) takes-nat2 row-taken);
    back = λ l h. reads-counted nat2 (within 1 1024) (read_location ed) reads-nat2 (λ es k. reads-location ed es k.at_least) (within_both 1 1024 (length l) h.at_least h.at_most) h.each;
    in_bytes = λ l h. (let k = h.at_most in all_append (out2-bytes (length l) (omega arith)) (all-flat (write_location ed) (all_map row_written h.each)));
  })

  pub locations-bytes : (s : List ℕ) (l : List (List Entry)) → (AllBytes s × (locations_in ed s ≡ some l)) ↔ ((s ≡ write_locations ed l) × LocationsLimits ed l)
  unfolding locations_in
  locations-bytes = exact locations-form

-- ---- the four sections
sections-form : Exact read_table_sections write_table_sections TableSectionsLimits
unfolding read_table_sections
sections-form = record {
  taken = takes-then section2 _ takes-section2 (λ v h. takes-then section2 _ takes-section2 (λ e i. takes-then section2 _ takes-section2 (λ a j. takes-last section4 _ takes-section4 (λ l k.
      record { written = refl; fits = record { variables = h; equations = i; actions = j; locations = k } }))));
  back = λ x h. reads_then section2 _ (reads-section2 x.variables) (reads_then section2 _ (reads-section2 x.equations)
      (reads_then section2 _ (reads-section2 x.actions) (reads-last section4 _ (reads-section4 x.locations))));
  in_bytes = λ x h. all_append (section-written h.variables) (all_append (section-written h.equations) (all_append (section-written h.actions)
      (section4-written x.locations h.locations.short h.locations.each)));
}

pub sections-bytes : (s : List ℕ) (x : TableSections) → (AllBytes s × (table_sections_in s ≡ some x)) ↔ ((s ≡ write_table_sections x) × TableSectionsLimits x)
unfolding table_sections_in
sections-bytes = exact sections-form

module _ (ed : Edition) where
  -- ---- "Version 1, whole length (4 bytes)"
  abbrev headed : List ℕ → List ℕ
  headed body = ed.version ∷ (out4 (5 + length body) ++ body)

  headed-length : (body : List ℕ) → length (headed body) ≡ 5 + length body
  unfolding out4
  headed-length body = omega arith

  header-taken : (t : List ℕ) → AllBytes t → table_header ed t ≡ true → (t ≡ headed (drop 5 t)) × (5 + length (drop 5 t) < 0x1_0000_0000)
  unfolding table_header
  header-taken [] z h = true-not-false (sym h)
  header-taken (a ∷ []) z h = true-not-false (sym h)
  header-taken (a ∷ b ∷ []) z h = true-not-false (sym h)
  header-taken (a ∷ b ∷ c ∷ []) z h = true-not-false (sym h)
  header-taken (a ∷ b ∷ c ∷ d ∷ []) z h = true-not-false (sym h)
  header-taken (a ∷ b ∷ c ∷ d ∷ e ∷ u) (all_cons p (all_cons q (all_cons r (all_cons s (all_cons t k))))) h =
      let n = suc (suc (suc (suc (suc (length u))))) in
      let g = and_right (leb 5 n) (eqb a ed.version && eqb (be4 b c d e) n) h in
      let v = eqb-true a ed.version (and_left (eqb a ed.version) (eqb (be4 b c d e) n) g) in
      let l = eqb-true (be4 b c d e) n (and_right (eqb a ed.version) (eqb (be4 b c d e) n) g) in
      let f = be4-fits b c d e q r s t in
      let m : 5 + length u ≡ be4 b c d e = omega arith in
      (rw (v, m, out4-be4 b c d e q r s t) refl, omega arith)

  -- ---- the whole
  written_read : (t : Table) → TableLimits ed t → TableReadAs ed (write_table ed t) t
  unfolding write_table
  written_read t h =
      let vs = write_variables t.plant.variables in
      let es = write_equations t.plant.equations in
      record {
        header = header-back ed vs es t.actions t.locations;
        sections = record { variables = vs; equations = es; actions = write_actions ed t.actions; locations = write_locations ed t.locations };
        sections_read = ap table_sections_in (body_back ed vs es t.actions t.locations) ∙ sections-back ed vs es t.actions t.locations;
        variables_read = ((variables-bytes ed vs t.plant.variables).1 (refl, h.plant.variables)).1;
        equations_read = ((equations-bytes es t.plant.equations).1 (refl, h.plant.equations)).1;
        actions_read = ((actions-bytes ed _ t.actions).1 (refl, h.actions)).1;
        locations_read = ((locations-bytes ed _ t.locations).1 (refl, h.locations)).1;
      }

  written-in-bytes : (t : Table) → TableLimits ed t → AllBytes (write_table ed t)
  unfolding write_table table_bytes table_body
  written-in-bytes t h =
      let vs = write_variables t.plant.variables in
      let es = write_equations t.plant.equations in
      let acts = write_actions ed t.actions in
      let locs = write_locations ed t.locations in
      let n = length (table_body ed vs es t.actions t.locations) in
      let short : 5 + n < 4294967296 = let l = h.whole_length in omega (arith, table-length ed vs es t.actions t.locations) in
      all_cons ed.version_fits (all_append (out4-bytes (5 + n) short) (sections-form.in_bytes (record { variables = vs; equations = es; actions = acts; locations = locs }) (record {
        variables = record { short = h.plant.variables_length; each = ((variables-bytes ed vs t.plant.variables).1 (refl, h.plant.variables)).0 };
        equations = record { short = h.plant.equations_length; each = ((equations-bytes es t.plant.equations).1 (refl, h.plant.equations)).0 };
        actions = record { short = h.actions-length; each = ((actions-bytes ed acts t.actions).1 (refl, h.actions)).0 };
        locations = record { short = h.locations-length; each = ((locations-bytes ed locs t.locations).1 (refl, h.locations)).0 };
      })))

  read-written : (table : List ℕ) (t : Table) → AllBytes table → TableReadAs ed table t → (table ≡ write_table ed t) × TableLimits ed t
  unfolding write_table table_bytes table_body
  read-written table t z h =
      let x = h.sections in
      let head = header-taken table z h.header in
      let parts = (sections-bytes (drop 5 table) x).0 (all_drop 5 z, h.sections_read) in
      let v = (variables-bytes ed x.variables t.plant.variables).0 (parts.1.variables.each, h.variables_read) in
      let e = (equations-bytes x.equations t.plant.equations).0 (parts.1.equations.each, h.equations_read) in
      let a = (actions-bytes ed x.actions t.actions).0 (parts.1.actions.each, h.actions_read) in
      let l = (locations-bytes ed x.locations t.locations).0 (parts.1.locations.each, h.locations_read) in
      let body : drop 5 table ≡ table_body ed (write_variables t.plant.variables) (write_equations t.plant.equations) t.actions t.locations =
      parts.0 ∙ rw (v.0, e.0, a.0, l.0) refl in
      let all : table ≡ write_table ed t = head.0 ∙ ap headed body in (
        all,
        record {
          plant = record {
            variables = v.1;
            variables_length = subst (λ s. length s < 65536) v.0 parts.1.variables.short;
            equations = e.1;
            equations_length = subst (λ s. length s < 65536) e.0 parts.1.equations.short;
          };
          actions = a.1;
          actions-length = subst (λ s. length s < 65536) a.0 parts.1.actions.short;
          locations = l.1;
          locations-length = subst (λ s. length s < 4294967296) l.0 parts.1.locations.short;
          whole_length = subst (λ s. length s < 4294967296) all (let k = head.1 in let m = ap length head.0 ∙ headed-length (drop 5 table) in omega arith);
        },
      )

  pub table-bytes : (table : List ℕ) (t : Table) → (AllBytes table × TableReadAs ed table t) ↔ ((table ≡ write_table ed t) × TableLimits ed t)
  table-bytes table t = (λ h. read-written table t h.0 h.1, here)
    where
      here : (table ≡ write_table ed t) × TableLimits ed t → AllBytes table × TableReadAs ed table t
      here h = subst (λ table. AllBytes table × TableReadAs ed table t) (sym h.0) (written-in-bytes t h.1, written_read t h.1)

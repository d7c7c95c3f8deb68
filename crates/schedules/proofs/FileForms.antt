-- A schedule file is read just where it is a written form within the printed limits.
use mathlib.Core.Path.{◌≡◌, refl, sym, ap, subst, ◌∙◌}
use mathlib.Core.Bool.{Bool, true, false, cond}
use mathlib.Core.List.{List, [], ◌∷◌, ◌++◌}
use mathlib.Core.Logic.{◌↔◌}
use mathlib.Core.Option.{none, some}
use Prim.Native.Nat.{ℕ, suc, ◌+◌, ◌-◌, ◌*◌, ◌/◌, ◌%◌, ◌≤◌, ◌<◌}
use native.Mathlib.Omega.{arith}
use borrow.Author.Tests.{eqb-true, eq-eqb, leb-true, le-leb}
use lib.Dec.{leb, eqb, lit<}
use lib.ListN.{length, drop}
use Rattle.semantics.specs.Bytes.{be2, out2, within, byte, number, bytes, section2, from_no_bytes, from_two_bytes, byte_and_rest}
use Rattle.semantics.specs.Editions.{Edition}
use Rattle.semantics.specs.Plant.{Plant}
use Rattle.semantics.specs.Writing.{AllBytes}
use Rattle.semantics.proofs.Facts.{none-not-some, some_is, true-not-false, by_cases, and_right, and_both, within_low, within-high, within_both, all_nil, all_cons, all_append, all_map, all-flat}
use Rattle.semantics.proofs.Readers.{Reads, reads_then, reads-last, reads_byte, reads-number, reads-guard, reads-from, whole-reads}
use Rattle.semantics.proofs.TableBack.{reads-nothing-more, reads-section2}
use Rattle.semantics.proofs.WrittenRecords.{out2-bytes, out-bytes}
use Rattle.semantics.proofs.WrittenSources.{all_drop}
use Rattle.semantics.proofs.WrittenTables.{capacity-large}
use Rattle.semantics.proofs.TakenBytes.{Is, Takes, takes-then, takes-last, takes-from, takes-guard, takes-as, out2-be2, be2-fits, takes-byte, takes-number, takes-bytes, takes-section2, takes-counted, reads-counted, Exact, exact}
use Rattle.semantics.proofs.SectionForms.{reads-stretch, section-written, variables-bytes, equations-bytes}
use Rattle.schedules.specs.FileSections.{FileSections, read_file_sections, file_sections_in}
use Rattle.schedules.specs.Nodes.{Node, sequence, parallel, Kind, a_sequence, a_parallel, a_while, an_if, a_continue, a_reset, a_reinitial, a_switch, a_stop, no_kind, kind_of, child_count, node_of, read_node, read_nodes, nodes_in}
use Rattle.schedules.specs.Files.{file_header, file_length}
use Rattle.schedules.specs.Writing.{node_bytes, PayloadLimits, sequence_within, parallel_within, while_within, if_within, continue_within, reset_within, reinitial_within, switch_within, stop_within, NodeLimits, write_node, write_nodes, NodesLimits, write_sections, SectionsLimits, sections_of, write_file, FileLimits, FileReadAs}

-- ---- nodes
-- the byte that stands for a kind
abbrev Stands : ℕ → Kind → Type 0
Stands k a_sequence = k ≡ 1
Stands k a_parallel = k ≡ 2
Stands k a_while = k ≡ 3
Stands k an_if = k ≡ 4
Stands k a_continue = k ≡ 5
Stands k a_reset = k ≡ 6
Stands k a_reinitial = k ≡ 7
Stands k a_switch = k ≡ 8
Stands k a_stop = k ≡ 9
Stands k no_kind = Unit {0}

code : (k n : ℕ) (f g : Kind) → (k ≡ n → Stands k f) → Stands k g → Stands k (cond (eqb k n) f g)
code k n f g h r = by_cases (eqb k n) (λ e. rw e (h (eqb-true k n e))) (λ e. rw e r)

kind-stands : (k : ℕ) → Stands k (kind_of k)
unfolding kind_of
kind-stands k =
    code k 1 _ _ (λ e. e) (code k 2 _ _ (λ e. e) (code k 3 _ _ (λ e. e) (code k 4 _ _ (λ e. e) (code k 5 _ _ (λ e. e)
    (code k 6 _ _ (λ e. e) (code k 7 _ _ (λ e. e) (code k 8 _ _ (λ e. e) (code k 9 _ _ (λ e. e) tt))))))))

-- this node, of this kind and payload
is_node : {n k : ℕ} {b : List ℕ} {x y : Node} → k ≡ n → some x ≡ some y → n ∷ b ≡ node_bytes x → PayloadLimits x → Is node_bytes PayloadLimits y (k ∷ b)
is_node {b = b} h e f l = record { written = ap (λ n. n ∷ b) h ∙ f ∙ ap node_bytes (some_is e); fits = subst PayloadLimits (some_is e) l }

is-parent : {n k : ℕ} {y : Node} (f : ℕ → Node) → k ≡ n → ((c : ℕ) → n ∷ c ∷ [] ≡ node_bytes (f c)) → ((c : ℕ) → 1 ≤ c → c < 256 → PayloadLimits (f c)) →
    {b : List ℕ} → AllBytes b → child_count f b ≡ some y → Is node_bytes PayloadLimits y (k ∷ b)
unfolding child_count
is-parent f h g l all_nil e = none-not-some e
is-parent {k = k} {y = y} f h g l (all_cons {x = c} p all_nil) e = go (leb 1 c) refl e
  where
    go : (t : Bool) → leb 1 c ≡ t → cond t (some (f c)) none ≡ some y → Is node_bytes PayloadLimits y (k ∷ c ∷ [])
    go true i e = is_node h e (g c) (l c (leb-true 1 c i) p)
    go false i e = none-not-some e
is-parent f h g l (all_cons p (all_cons q r)) e = none-not-some e

node-coded : (k : ℕ) (c : Kind) → Stands k c → {b : List ℕ} {y : Node} → AllBytes b → node_of c b ≡ some y → Is node_bytes PayloadLimits y (k ∷ b)
unfolding node_of node_bytes from_no_bytes from_two_bytes byte_and_rest
node-coded k a_sequence h z e = is-parent sequence h (λ c. refl) (λ c i j. sequence_within i j) z e
node-coded k a_parallel h z e = is-parent parallel h (λ c. refl) (λ c i j. parallel_within i j) z e
node-coded k a_while h z e = is_node h e refl (while_within z)
node-coded k an_if h z e = is_node h e refl (if_within z)
node-coded k a_continue h z e = is_node h e refl (continue_within z)
node-coded k a_reset h all_nil e = none-not-some e
node-coded k a_reset h (all_cons v z) e = is_node h e refl (reset_within v z)
node-coded k a_reinitial h all_nil e = none-not-some e
node-coded k a_reinitial h (all_cons v z) e = is_node h e refl (reinitial_within v z)
node-coded k a_switch h all_nil e = none-not-some e
node-coded k a_switch h (all_cons s all_nil) e = none-not-some e
node-coded k a_switch h (all_cons s (all_cons m all_nil)) e = is_node h e refl (switch_within s m)
node-coded k a_switch h (all_cons s (all_cons m (all_cons x z))) e = none-not-some e
node-coded k a_stop h all_nil e = is_node h e refl stop_within
node-coded k a_stop h (all_cons x z) e = none-not-some e
node-coded k no_kind h z e = none-not-some e

-- the bytes of a node are a kind and a payload that give it back
record Coded (x : Node) : Type 0 where
  kind : ℕ
  payload : List ℕ
  coded : node_bytes x ≡ kind ∷ payload
  decoded : node_of (kind_of kind) payload ≡ some x
  in_bytes : AllBytes (kind ∷ payload)

coded-parent : (n k : ℕ) (f : ℕ → Node) → node_bytes (f k) ≡ n ∷ k ∷ [] → ((b : List ℕ) → node_of (kind_of n) b ≡ child_count f b) → n < 256 → 1 ≤ k → k < 256 → Coded (f k)
unfolding child_count
coded-parent n k f e h i l m =
    record { kind = n; payload = k ∷ []; coded = e; decoded = h (k ∷ []) ∙ rw (le-leb 1 k l) refl; in_bytes = all_cons i (all_cons m all_nil) }

node-back : {x : Node} → PayloadLimits x → Coded x
unfolding node_bytes node_of kind_of from_no_bytes from_two_bytes byte_and_rest
node-back (sequence_within {k = k} h i) = coded-parent 1 k sequence refl (λ b. refl) (lit< tt) h i
node-back (parallel_within {k = k} h i) = coded-parent 2 k parallel refl (λ b. refl) (lit< tt) h i
node-back (while_within {t = t} z) = record { kind = 3; payload = t; coded = refl; decoded = refl; in_bytes = all_cons (lit< tt) z }
node-back (if_within {t = t} z) = record { kind = 4; payload = t; coded = refl; decoded = refl; in_bytes = all_cons (lit< tt) z }
node-back (continue_within {t = t} z) = record { kind = 5; payload = t; coded = refl; decoded = refl; in_bytes = all_cons (lit< tt) z }
node-back (reset_within {v = v} {e = e} h z) = record { kind = 6; payload = v ∷ e; coded = refl; decoded = refl; in_bytes = all_cons (lit< tt) (all_cons h z) }
node-back (reinitial_within {v = v} {e = e} h z) = record { kind = 7; payload = v ∷ e; coded = refl; decoded = refl; in_bytes = all_cons (lit< tt) (all_cons h z) }
node-back (switch_within {s = s} {m = m} h i) = record { kind = 8; payload = s ∷ m ∷ []; coded = refl; decoded = refl; in_bytes = all_cons (lit< tt) (all_cons h (all_cons i all_nil)) }
node-back stop_within = record { kind = 9; payload = []; coded = refl; decoded = refl; in_bytes = all_cons (lit< tt) all_nil }

pub payload-bytes : {x : Node} → PayloadLimits x → AllBytes (node_bytes x)
payload-bytes l = let c = node-back l in subst AllBytes (sym c.coded) c.in_bytes

module _ (ed : Edition) where
  node-taken : Takes (read_node ed) (Is (write_node ed) NodeLimits)
  unfolding read_node write_node
  node-taken =
      let w = ed.width in
      takes-then (number w) _ (takes-number w) (λ l h. takes-guard (within 1 200 l) _ (λ g. takes-then byte _ takes-byte (λ k j.
      takes-from (bytes (l - 1)) (λ b. node_of (kind_of k) b) (takes-bytes (l - 1)) (λ b x c e.
      let f = node-coded k (kind_of k) (kind-stands k) c.each e in
      let low = within_low 1 200 l g in
      let high = within-high 1 200 l g in
      let count = c.count in
      let size : suc (length b) ≡ length (node_bytes x) = ap length f.written in
      let whole : length (node_bytes x) ≡ l = omega arith in
      record { written = rw (f.written, whole) refl; fits = record { payload = f.fits; at_most = omega arith } }))))

  reads-node : (x : Node) → NodeLimits x → Reads (read_node ed) (write_node ed x) x
  unfolding read_node write_node
  reads-node x h =
      let c = node-back h.payload in
      let l = suc (length c.payload) in
      let e : length (node_bytes x) ≡ l = ap length c.coded in
      let m = h.at_most in
      rw (e, c.coded) (reads_then (number ed.width) _ (reads-number ed.width l) (reads-guard _ (within_both 1 200 l (omega arith) (omega arith))
      (reads_then byte _ (reads_byte c.kind) (reads-nothing-more (bytes (l - 1)) _ (reads-stretch (l - 1) c.payload (omega arith)) (reads-from c.decoded)))))

  node-written : (x : Node) → NodeLimits x → AllBytes (write_node ed x)
  unfolding write_node
  node-written x h =
      let m = h.at_most in
      let k = capacity-large ed.width in
      all_append (out-bytes ed.width (length (node_bytes x)) (omega arith)) (payload-bytes h.payload)

  nodes-form : Exact (read_nodes ed) (write_nodes ed) (NodesLimits ed)
  unfolding read_nodes write_nodes
  nodes-form = record {
    taken = takes-as (λ l w i. record {
      written = i.written;
      fits = record { at_least = within_low 1 ed.nodes (length l) i.fits.tested; at_most = within-high 1 ed.nodes (length l) i.fits.tested; each = i.fits.each };
    }) (takes-counted (number ed.width) (within 1 ed.nodes) (read_node ed) (takes-number ed.width) node-taken);
    back = λ l h. reads-counted (number ed.width) (within 1 ed.nodes) (read_node ed) (reads-number ed.width) reads-node
        (within_both 1 ed.nodes (length l) h.at_least h.at_most) h.each;
    in_bytes = λ l h. (let k = h.at_most in let f = ed.nodes_fit in all_append (out-bytes ed.width (length l) (omega arith)) (all-flat (write_node ed) (all_map node-written h.each)));
  }

  pub nodes-bytes : (s : List ℕ) (ns : List Node) → (AllBytes s × (nodes_in ed s ≡ some ns)) ↔ ((s ≡ write_nodes ed ns) × NodesLimits ed ns)
  unfolding nodes_in
  nodes-bytes = exact nodes-form

-- ---- the three sections
sections-taken : Takes read_file_sections (Is write_sections SectionsLimits)
unfolding read_file_sections write_sections
sections-taken =
    takes-then section2 _ takes-section2 (λ v h. takes-then section2 _ takes-section2 (λ e i. takes-last section2 _ takes-section2 (λ n j.
    record { written = refl; fits = record { variables = h; equations = i; schedule = j } })))

sections-back : (x : FileSections) → Reads read_file_sections (write_sections x) x
unfolding read_file_sections write_sections
sections-back x = reads_then section2 _ (reads-section2 x.variables) (reads_then section2 _ (reads-section2 x.equations) (reads-last section2 _ (reads-section2 x.schedule)))

sections-form : Exact read_file_sections write_sections SectionsLimits
unfolding write_sections
sections-form = record {
  taken = sections-taken;
  back = λ x h. sections-back x;
  in_bytes = λ x h. all_append (section-written h.variables) (all_append (section-written h.equations) (section-written h.schedule));
}

pub sections_read : (x : FileSections) → file_sections_in (write_sections x) ≡ some x
unfolding file_sections_in
sections_read x = whole-reads _ (sections-back x)

pub sections-bytes : (s : List ℕ) (x : FileSections) → (AllBytes s × (file_sections_in s ≡ some x)) ↔ ((s ≡ write_sections x) × SectionsLimits x)
unfolding file_sections_in
sections-bytes = exact sections-form

module _ (ed : Edition) where
  -- ---- "Byte 0 is version 1, then the whole file's length (2 bytes)"
  abbrev headed : List ℕ → List ℕ
  headed body = ed.version ∷ (out2 (3 + length body) ++ body)

  headed-length : (body : List ℕ) → length (headed body) ≡ 3 + length body
  unfolding out2
  headed-length body = omega arith

  header-back : (body : List ℕ) → (file_header ed (headed body) ≡ true) × (file_length (headed body) ≡ true)
  unfolding file_header file_length out2 be2
  header-back body =
      let n = length body in
      let e : (3 + n) / 256 * 256 + (3 + n) % 256 ≡ suc (suc (suc n)) = omega arith in
      (and_both (le-leb 3 (suc (suc (suc n))) (omega arith)) (eq-eqb ed.version ed.version refl), eq-eqb _ _ e)

  body_back : (body : List ℕ) → drop 3 (headed body) ≡ body
  unfolding out2
  body_back body = refl

  header-taken : (f : List ℕ) → AllBytes f → file_header ed f ≡ true → file_length f ≡ true → (f ≡ headed (drop 3 f)) × (length f < 65536)
  unfolding file_header file_length
  header-taken [] z h k = true-not-false (sym h)
  header-taken (a ∷ []) z h k = true-not-false (sym h)
  header-taken (a ∷ b ∷ []) z h k = true-not-false (sym h)
  header-taken (a ∷ b ∷ c ∷ u) (all_cons p (all_cons q (all_cons r z))) h k =
      let n = suc (suc (suc (length u))) in
      let v = eqb-true a ed.version (and_right (leb 3 n) (eqb a ed.version) h) in
      let l = eqb-true (be2 b c) n k in
      let f = be2-fits b c q r in
      let m : 3 + length u ≡ be2 b c = omega arith in
      (rw (v, m, ← out2-be2 b c q r) refl, omega arith)

  -- ---- the whole
  module _ (p : Plant) (ns : List Node) where
    written_read : FileLimits ed p ns → FileReadAs ed (write_file ed p ns) p ns
    unfolding write_file
    written_read h =
        let b = write_sections (sections_of ed p ns) in
        record {
          header = (header-back b).0;
          own_length = (header-back b).1;
          sections = sections_of ed p ns;
          sections_read = ap file_sections_in (body_back b) ∙ sections_read (sections_of ed p ns);
          variables_read = ((variables-bytes ed _ p.variables).1 (refl, h.plant.variables)).1;
          equations_read = ((equations-bytes _ p.equations).1 (refl, h.plant.equations)).1;
          nodes_read = ((nodes-bytes ed _ ns).1 (refl, h.nodes)).1;
        }

    written-in-bytes : FileLimits ed p ns → AllBytes (write_file ed p ns)
    unfolding write_file
    written-in-bytes h =
        let x = sections_of ed p ns in
        let short : 3 + length (write_sections x) < 65536 = let l = h.whole_length in omega (arith, headed-length (write_sections x)) in
        all_cons ed.version_fits (all_append (out2-bytes (3 + length (write_sections x)) short) (sections-form.in_bytes x (record {
          variables = record { short = h.plant.variables_length; each = ((variables-bytes ed _ p.variables).1 (refl, h.plant.variables)).0 };
          equations = record { short = h.plant.equations_length; each = ((equations-bytes _ p.equations).1 (refl, h.plant.equations)).0 };
          schedule = record { short = h.nodes-length; each = ((nodes-bytes ed _ ns).1 (refl, h.nodes)).0 };
        })))

    read-written : (file : List ℕ) → AllBytes file → FileReadAs ed file p ns → (file ≡ write_file ed p ns) × FileLimits ed p ns
    unfolding write_file write_sections
    read-written file z h =
        let x = h.sections in
        let head = header-taken file z h.header h.own_length in
        let parts = (sections-bytes (drop 3 file) x).0 (all_drop 3 z, h.sections_read) in
        let v = (variables-bytes ed x.variables p.variables).0 (parts.1.variables.each, h.variables_read) in
        let e = (equations-bytes x.equations p.equations).0 (parts.1.equations.each, h.equations_read) in
        let n = (nodes-bytes ed x.schedule ns).0 (parts.1.schedule.each, h.nodes_read) in
        let body : drop 3 file ≡ write_sections (sections_of ed p ns) = parts.0 ∙ rw (v.0, e.0, n.0) refl in
        let all : file ≡ write_file ed p ns = head.0 ∙ ap headed body in (
          all,
          record {
            plant = record {
              variables = v.1;
              variables_length = subst (λ s. length s < 65536) v.0 parts.1.variables.short;
              equations = e.1;
              equations_length = subst (λ s. length s < 65536) e.0 parts.1.equations.short;
            };
            nodes = n.1;
            nodes-length = subst (λ s. length s < 65536) n.0 parts.1.schedule.short;
            whole_length = subst (λ s. length s < 65536) all head.1;
          },
        )

  -- the sections are the written ones, too
  pub sections-written : (file : List ℕ) (p : Plant) (ns : List Node) (x : FileSections) → file ≡ write_file ed p ns → file_sections_in (drop 3 file) ≡ some x → x ≡ sections_of ed p ns
  unfolding write_file
  sections-written file p ns x e h =
      let b = write_sections (sections_of ed p ns) in
      some_is (sym h ∙ ap (λ f. file_sections_in (drop 3 f)) e ∙ ap file_sections_in (body_back b) ∙ sections_read (sections_of ed p ns))

  pub schedule-bytes : (file : List ℕ) (p : Plant) (ns : List Node) → (AllBytes file × FileReadAs ed file p ns) ↔ ((file ≡ write_file ed p ns) × FileLimits ed p ns)
  schedule-bytes file p ns = (λ h. read-written p ns file h.0 h.1, here)
    where
      here : (file ≡ write_file ed p ns) × FileLimits ed p ns → AllBytes file × FileReadAs ed file p ns
      here h = subst (λ file. AllBytes file × FileReadAs ed file p ns) (sym h.0) (written-in-bytes p ns h.1, written_read p ns h.1)

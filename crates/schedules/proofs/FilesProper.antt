-- A schedule file is accepted just where it is the written form, within the printed limits, of a schedule that 5, 7, 8, 10 to 12 and 34 have nothing against.
use mathlib.Core.Path.{◌≡◌, refl, sym, ap, subst, ◌∙◌}
use mathlib.Core.Bool.{true, false, not}
use mathlib.Core.List.{List, ◌∷◌}
use mathlib.Core.Logic.{◌↔◌}
use mathlib.Core.Option.{some}
use Prim.Native.Nat.{ℕ}
use borrow.Author.Tests.{ltb-true, lt-ltb}
use lib.ListN.{length}
use Rattle.semantics.specs.Bytes.{every, is_some}
use Rattle.semantics.specs.Editions.{Edition}
use Rattle.semantics.specs.Refusals.{accepted}
use Rattle.semantics.specs.Plant.{Plant, selectors, is_driven_in, switches_read}
use Rattle.semantics.specs.Starts.{Start, start_in, fits_start}
use Rattle.semantics.specs.Conditions.{is20}
use Rattle.semantics.specs.Writing.{AllBytes, start_bytes, StartLimits}
use Rattle.semantics.specs.Expressions.{number_in, truth_in}
use Rattle.semantics.specs.Proper.{IsTruth, IsNumber}
use Rattle.semantics.proofs.Facts.{true-not-false, by_cases, and_left, and_right, and_both, All}
use Rattle.semantics.proofs.Judging.{go-need, go-ensure, go-then}
use Rattle.semantics.proofs.ProperForms.{every-is, every-plain, truth-read, number_read, driven_is, plant-proper, mode-there}
use Rattle.semantics.proofs.PlantPassed.{plant-passed, plant-accepted}
use Rattle.semantics.proofs.TablesProper.{tail-bytes}
use Rattle.semantics.proofs.StartForms as StartForms
use Rattle.schedules.specs.Nodes.{Node, sequence, parallel, while_do, if_else, continue_until, reset, reinitial, switch_to, stop_all, node_reads, node_named, node_parted}
use Rattle.schedules.specs.Files.{Schedule, judge_file_sections, judge_file}
use Rattle.schedules.specs.Writing.{node_bytes, NodeLimits}
use Rattle.schedules.specs.Proper.{NamedNode, PartedNode, ReadNode, ScheduleWritten}
use Rattle.schedules.proofs.FirstNumber.{file-in-order, nodes-in-order, passed}
use Rattle.schedules.proofs.OneTree.{one_tree}
use Rattle.schedules.proofs.FileForms.{payload-bytes, schedule-bytes, sections-written}

module _ (p : Plant) where
  abbrev n : ℕ
  n = length p.variables

  -- ---- 11
  named-there : (x : Node) → node_named n (selectors p) x ≡ true → NamedNode p x
  unfolding node_named
  named-there x h = record {
    resets = λ v e q. ltb-true v n (subst (λ x. node_named n (selectors p) x ≡ true) q h);
    reinitials = λ v e q. ltb-true v n (subst (λ x. node_named n (selectors p) x ≡ true) q h);
    switches = λ s m q. (mode-there (selectors p) s m).0 (subst (λ x. node_named n (selectors p) x ≡ true) q h);
  }

  named_here : (x : Node) → NamedNode p x → node_named n (selectors p) x ≡ true
  unfolding node_named
  named_here (sequence k) h = refl
  named_here (parallel k) h = refl
  named_here (while_do t) h = refl
  named_here (if_else t) h = refl
  named_here (continue_until t) h = refl
  named_here (reset v e) h = lt-ltb v n (h.resets v e refl)
  named_here (reinitial v e) h = lt-ltb v n (h.reinitials v e refl)
  named_here (switch_to s m) h = (mode-there (selectors p) s m).1 (h.switches s m refl)
  named_here stop_all h = refl

  pub nodes-named : (ns : List Node) → (every (node_named n (selectors p)) ns ≡ true) ↔ All (NamedNode p) ns
  nodes-named ns = every-plain (node_named n (selectors p)) (λ x. (named-there x, named_here x)) ns

  -- ---- 34
  parted-there : (x : Node) → node_parted p.equations x ≡ true → PartedNode p x
  unfolding node_parted
  parted-there x h = record {
    resets = λ v e q d. true-not-false (sym (subst (λ x. node_parted p.equations x ≡ true) q h) ∙ ap not ((driven_is p.equations v).1 d));
    reinitials = λ v e q. (driven_is p.equations v).0 (subst (λ x. node_parted p.equations x ≡ true) q h);
  }

  parted-here : (x : Node) → PartedNode p x → node_parted p.equations x ≡ true
  unfolding node_parted
  parted-here (sequence k) h = refl
  parted-here (parallel k) h = refl
  parted-here (while_do t) h = refl
  parted-here (if_else t) h = refl
  parted-here (continue_until t) h = refl
  parted-here (reset v e) h = by_cases (is_driven_in p.equations v) (λ d. absurd (h.resets v e refl ((driven_is p.equations v).0 d))) (λ d. ap not d)
  parted-here (reinitial v e) h = (driven_is p.equations v).1 (h.reinitials v e refl)
  parted-here (switch_to s m) h = refl
  parted-here stop_all h = refl

  pub nodes-parted : (ns : List Node) → (every (node_parted p.equations) ns ≡ true) ↔ All (PartedNode p) ns
  nodes-parted ns = every-plain (node_parted p.equations) (λ x. (parted-there x, parted-here x)) ns

  -- ---- 12
  module _ (ed : Edition) where
    -- the bytes after the kind
    after-kind : {x : Node} {k : ℕ} {t : List ℕ} → NodeLimits x → node_bytes x ≡ k ∷ t → AllBytes t
    after-kind l e = tail-bytes (subst AllBytes e (payload-bytes l.payload))

    as-truth : {x : Node} {k : ℕ} (t : List ℕ) → NodeLimits x → node_bytes x ≡ k ∷ t → (is_some (truth_in ed n t) ≡ true) ↔ IsTruth ed n t
    as-truth t l e = truth-read ed n t (after-kind l e)

    as_number : {x : Node} {k v : ℕ} (t : List ℕ) → NodeLimits x → node_bytes x ≡ k ∷ v ∷ t → (is_some (number_in ed n t) ≡ true) ↔ IsNumber ed n t
    as_number t l e = number_read ed n t (tail-bytes (after-kind l e))

    read-there : (x : Node) → NodeLimits x → node_reads ed n x ≡ true → ReadNode ed p x
    unfolding node_reads node_bytes
    read-there x l h = record {
      whiles = λ t q. (as-truth t l (ap node_bytes q)).0 (subst (λ x. node_reads ed n x ≡ true) q h);
      ifs = λ t q. (as-truth t l (ap node_bytes q)).0 (subst (λ x. node_reads ed n x ≡ true) q h);
      continues = λ t q. (as-truth t l (ap node_bytes q)).0 (subst (λ x. node_reads ed n x ≡ true) q h);
      resets = λ v e q. (as_number e l (ap node_bytes q)).0 (subst (λ x. node_reads ed n x ≡ true) q h);
      reinitials = λ v e q. (as_number e l (ap node_bytes q)).0 (subst (λ x. node_reads ed n x ≡ true) q h);
    }

    read_here : (x : Node) → NodeLimits x → ReadNode ed p x → node_reads ed n x ≡ true
    unfolding node_reads node_bytes
    read_here (sequence k) l h = refl
    read_here (parallel k) l h = refl
    read_here (while_do t) l h = (as-truth t l refl).1 (h.whiles t refl)
    read_here (if_else t) l h = (as-truth t l refl).1 (h.ifs t refl)
    read_here (continue_until t) l h = (as-truth t l refl).1 (h.continues t refl)
    read_here (reset v e) l h = (as_number e l refl).1 (h.resets v e refl)
    read_here (reinitial v e) l h = (as_number e l refl).1 (h.reinitials v e refl)
    read_here (switch_to s m) l h = refl
    read_here stop_all l h = refl

    pub nodes_read : {ns : List Node} → All NodeLimits ns → (every (node_reads ed n) ns ≡ true) ↔ All (ReadNode ed p) ns
    nodes_read l = every-is (node_reads ed n) (λ x k. (read-there x k, read_here x k)) l

module _ (ed : Edition) (file : List ℕ) (s : Schedule) where
  accepted-there : AllBytes file → judge_file ed file ≡ accepted s → ScheduleWritten ed file s
  accepted-there z h =
      let g = passed ed file s h in
      let p = s.plant in
      let v = length p.variables in
      let j = plant-passed ed s.sections.variables s.sections.equations g.plant in
      let w = (schedule-bytes ed file p s.nodes).0 (
        z,
        record {
          header = g.header;
          own_length = g.own_length;
          sections = s.sections;
          sections_read = g.parts;
          variables_read = j.variables;
          equations_read = j.equations;
          nodes_read = g.nodes;
        },
      ) in
      let l = w.1 in
      record {
        bytes = w.0;
        sections = sections-written ed file p s.nodes s.sections w.0 g.parts;
        limits = l;
        proper = record {
          plant = (plant-proper ed p l.plant.equations.each).0
              (record { is_ordered = j.in_order; named = j.named; once = j.once; reads = and_right (every (node_reads ed v) s.nodes) (switches_read ed p) g.reads });
          tree = (one_tree s.nodes s.root).0 g.tree;
          named = (nodes-named p s.nodes).0 g.named;
          parted = (nodes-parted p s.nodes).0 g.parted;
          read = (nodes_read p ed l.nodes.each).0 (and_left (every (node_reads ed v) s.nodes) (switches_read ed p) g.reads);
        };
      }

  accepted-here : ScheduleWritten ed file s → AllBytes file × (judge_file ed file ≡ accepted s)
  unfolding judge_file_sections
  accepted-here h =
      let p = s.plant in
      let v = length p.variables in
      let l = h.limits in
      let w = (schedule-bytes ed file p s.nodes).1 (h.bytes, l) in
      let r = w.1 in
      let k = (plant-proper ed p l.plant.equations.each).1 h.proper.plant in
      let plant = plant-accepted ed r.sections.variables r.sections.equations
      (record { variables = r.variables_read; equations = r.equations_read; in_order = k.is_ordered; named = k.named; once = k.once }) in
      let same = sections-written ed file p s.nodes r.sections h.bytes r.sections_read in (
        w.0,
        file-in-order ed file
            ∙ go-ensure 1 _ r.header
            ∙ go-ensure 2 _ r.own_length
            ∙ go-need 3 _ r.sections_read
            ∙ go-then _ plant
            ∙ go-need 9 _ r.nodes_read
            ∙ go-need 10 _ ((one_tree s.nodes s.root).1 h.proper.tree)
            ∙ nodes-in-order ed p s.nodes _
            ∙ go-ensure 11 _ ((nodes-named p s.nodes).1 h.proper.named)
            ∙ go-ensure 34 _ ((nodes-parted p s.nodes).1 h.proper.parted)
            ∙ go-ensure 12 _ (and_both ((nodes_read p ed l.nodes.each).1 h.proper.read) k.reads)
            ∙ rw (same, ← h.sections) refl,
      )

  pub schedule-accepted : (AllBytes file × (judge_file ed file ≡ accepted s)) ↔ ScheduleWritten ed file s
  schedule-accepted = (λ h. accepted-there h.0 h.1, accepted-here)

  -- 20, of an accepted file
  pub starts-admitted : AllBytes file → judge_file ed file ≡ accepted s → (start : List ℕ) (st : Start) →
      (AllBytes start × (start_in s.plant start ≡ some st) × (fits_start s.plant st ≡ true)) ↔ ((start ≡ start_bytes st) × StartLimits s.plant st)
  starts-admitted z h = StartForms.starts-admitted s.plant (accepted-there z h).limits.plant

  pub start-let-pass : AllBytes file → judge_file ed file ≡ accepted s → (start events buffer : List ℕ) →
      (AllBytes start × (is20 ed (some s.plant) start events buffer ≡ false)) ↔ ((st : Start) × (start ≡ start_bytes st) × StartLimits s.plant st)
  start-let-pass z h = StartForms.start-let-pass s.plant (accepted-there z h).limits.plant ed

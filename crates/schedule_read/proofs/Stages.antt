-- A schedule file judged in order: what the answers about its parts make of the whole.
use mathlib.Core.Path.{◌≡◌, refl, sym, ap, subst, ◌∙◌}
use mathlib.Core.Bool.{Bool, true, false, ◌&&◌, and-true}
use mathlib.Core.List.{List}
use mathlib.Core.Option.{some}
use Prim.Native.Nat.{ℕ, ◌≤◌}
use native.Mathlib.Omega.{arith}
use lib.ListN.{length}
use Rattle.std.proofs.Common.{Result, Ok, Err}
use Rattle.semantics.specs.Bytes.{every}
use Rattle.semantics.specs.Editions.{Edition}
use Rattle.semantics.specs.Refusals.{Judged, refused, accepted, need, ensure, ◌>>=◌, ◌>>◌}
use Rattle.semantics.specs.Sections.{Selector, Equation, equations_in}
use Rattle.semantics.specs.Plant.{Plant, judge_plant, switches_read, equation_reads, selectors}
use Rattle.semantics.proofs.Judging.{go-then, go-need}
use Rattle.paper.specs.Refusals.{number_of, answered}
use Rattle.paper.specs.declared.refusals.Refusal.{Refusal}
use Rattle.paper.proofs.Answered.{Accepted as AnswerAccepted, was-refused, was-accepted, stops-then, stops_after}
use Rattle.schedules.specs.FileSections.{FileSections}
use Rattle.schedules.specs.Nodes.{Node, nodes_in, node_named, node_parted, node_reads}
use Rattle.schedules.specs.Trees.{Tree, tree_of}
use Rattle.schedules.specs.Files.{Schedule, judge_file_layout, judge_file, judge_file_sections, judge_node_section, judge_nodes}
use Rattle.schedules.specs.Calls.{schedule_counts, read_schedule}
use Rattle.schedules.proofs.FirstNumber as FirstNumber
use Rattle.codec.specs.Part.{part_of}
use Rattle.plant.specs.ModeCounts.{ModesAt}
use Rattle.plant.specs.Driven.{DrivenAt}
use Rattle.plant.specs.Sound.{There}
use Rattle.plant.specs.PlantRead.{accepted_plant}
use Rattle.plant.specs.declared.sections.PlantRead.{PlantRead}
use Rattle.plant.proofs.ModeCounts.{modes-held, modes-room}
use Rattle.plant.proofs.DrivenVariables.{driven-held}
use Rattle.plant.proofs.PlantLaws.{passed-all, variables-of, variables-high, selectors-of}
use Rattle.schedule_read.specs.FileParts.{parts_in, sections_at}
use Rattle.schedule_read.specs.Indexed.{NodesIn, Indexed}
use Rattle.tree_read.specs.Index.{nodes_of}
use Rattle.tree_read.specs.Ends.{TreeAt, TreeIn}
use Rattle.schedule_read.specs.ScheduleFile.{told, ScheduleIndexed, PlantAt, Planted, NodesJudged}
use Rattle.schedule_read.specs.declared.call.ScheduleIndex.{ScheduleIndex}
use Rattle.schedule_read.specs.declared.parts.Parts.{Parts}
use Rattle.tree_read.specs.declared.nodes.Nodes.{Nodes}
use Rattle.schedule_read.proofs.PartsStand.{parts-stand}
use Rattle.schedule_read.proofs.FoundNodes.{found-nodes}
use Rattle.schedule_read.proofs.Passing.{Telling, tell-end}
use Rattle.tree_read.proofs.NodeIndex.{indexed, nodes-accepted}
use Rattle.tree_read.proofs.LaidTree.{tree-accepted, tree-refused}

-- ---- the plant
module _ (ed : Edition) (vs es : List ℕ) {q : Plant} (h : judge_plant ed vs es ≡ accepted q) {x : PlantRead} (e : x ≡ accepted_plant q) where
  pub plant-at : PlantAt es x q
  plant-at = record {
    equations = (passed-all ed vs es h).equations;
    counted = sym (variables-of q e);
    few = omega (arith, variables-of q e, variables-high ed vs es h);
    modes_at = modes-held ed vs es h e;
    driven_at = driven-held ed vs es h e;
  }

  pub planted : Planted es x
  planted = record { plant = q; at = plant-at; room = modes-room ed vs es h e }

-- ---- the file, section by section: vs, es and s are its sections, and p says where they stand
pub by-layout : (ed : Edition) (f : List ℕ) {why : Refusal} → refused (number_of why) ≡ answered parts_in (judge_file_layout ed f) → ScheduleIndexed ed f (Err why)
unfolding judge_file
by-layout ed f h = record { at = stops-then (judge_file_sections ed) (was-refused parts_in (judge_file_layout ed f) h) }

abbrev three : List ℕ → List ℕ → List ℕ → FileSections
three vs es s = record { variables = vs; equations = es; schedule = s }

pub record Standing (ed : Edition) (f : List ℕ) (p : Parts) (vs es s : List ℕ) : Type 0 where
  pub judged : judge_file ed f ≡ judge_file_sections ed (three vs es s)
  pub is : p ≡ parts_in (three vs es s)

pub standing : (ed : Edition) (f : List ℕ) {p : Parts} {vs es s : List ℕ} → accepted p ≡ answered parts_in (judge_file_layout ed f) →
    vs ≡ part_of p.variables f → es ≡ part_of p.equations f → s ≡ part_of p.schedule f → Standing ed f p vs es s
unfolding judge_file sections_at
standing ed f {p} {vs} {es} {s} h v e k =
    let a = parts-stand ed f h in
    record { judged = go-then (judge_file_sections ed) a.are ∙ ap (judge_file_sections ed) (sym (same v e k)); is = a.is ∙ ap parts_in (sym (same v e k)) }
  where
    same : {x y z : List ℕ} → vs ≡ x → es ≡ y → s ≡ z → three vs es s ≡ three x y z
    same i j k = cc

module _ (ed : Edition) (f : List ℕ) {p : Parts} {vs es s : List ℕ} (a : Standing ed f p vs es s) where
  pub by-plant : {why : Refusal} → refused (number_of why) ≡ answered accepted_plant (judge_plant ed vs es) → ScheduleIndexed ed f (Err why)
  unfolding judge_file_sections
  by-plant h = record { at = a.judged ∙ stops-then _ (was-refused accepted_plant (judge_plant ed vs es) h) }

  module _ {x : PlantRead} (b : accepted x ≡ answered accepted_plant (judge_plant ed vs es)) where
    plant : AnswerAccepted accepted_plant (judge_plant ed vs es) x
    plant = was-accepted accepted_plant (judge_plant ed vs es) b

    pub plant-planted : Planted es x
    plant-planted = planted ed vs es plant.judged plant.is

    pub by-nodes : {why : Refusal} → refused (number_of why) ≡ answered (λ (ns : List Node). length ns) (judge_node_section ed s) → ScheduleIndexed ed f (Err why)
    unfolding judge_file_sections
    by-nodes h = record { at = a.judged ∙ go-then _ plant.judged ∙ stops-then _ (was-refused (λ (ns : List Node). length ns) (judge_node_section ed s) h) }

    module _ {m : ℕ} (c : accepted m ≡ answered (λ (ns : List Node). length ns) (judge_node_section ed s)) {n : Nodes} (k : n ≡ nodes_of ed s) where
      ns : (ns : List Node) × (nodes_in ed s ≡ some ns)
      ns = nodes-accepted ed s c

      at : NodesIn ed s n ns.0
      at = found-nodes ed s k ns.1

      pub index-of : Indexed s n
      index-of = record { edition = ed; nodes = ns.0; at = at }

      module _ {r : Result (Unit {0}) Refusal} {ends : List ℕ} (w : TreeIn ed s r ends) where
        pub by-tree : {why : Refusal} → r ≡ Err why → ScheduleIndexed ed f (Err why)
        unfolding judge_file_sections need ◌>>=◌
        by-tree e = let t = tree-refused ed s ns.1 w e in record { at = a.judged ∙ go-then _ plant.judged ∙ go-need 9 _ ns.1 ∙ rw (t.0, t.1) refl }

        module _ (e : r ≡ Ok tt) where
          tree : (t : Tree) × (tree_of ns.0 ≡ some t) × TreeAt (nodes_of ed s).kinds (nodes_of ed s).count t ends
          tree = tree-accepted ed s ns.1 w e

          schedule : Schedule
          schedule = record { sections = three vs es s; plant = plant.value; nodes = ns.0; root = tree.0 }

          after-10 : judge_file ed f ≡ (judge_nodes ed plant.value ns.0 >> accepted schedule)
          unfolding judge_file_sections schedule
          after-10 = a.judged ∙ go-then _ plant.judged ∙ go-need 9 _ ns.1 ∙ go-need 10 _ tree.1

          -- what is told of all nodes and plants is told of these
          these : {j : Judged (Unit {0})} → ((ns : List Node) → NodesIn ed s n ns → (p : Plant) → PlantAt es x p → j ≡ judge_nodes ed p ns) → j ≡ judge_nodes ed plant.value ns.0
          these h = h ns.0 at plant.value (plant-at ed vs es plant.judged plant.is)

          pub by_last : {why : Refusal} → NodesJudged ed es s n x (Err why) → ScheduleIndexed ed f (Err why)
          by_last h = record { at = after-10 ∙ stops_after _ (sym (these h)) }

          pub all-passed : NodesJudged ed es s n x (Ok tt) → ScheduleIndexed ed f (Ok (record { parts = p; plant = x; subtrees = ends; nodes = n }))
          unfolding ◌>>◌ schedule
          all-passed h = record {
            at = (
              schedule,
              after-10 ∙ rw (sym (these h)) refl,
              record {
                parts = a.is;
                plant = plant.is;
                nodes = k;
                subtrees = subst (λ (n : Nodes). TreeAt n.kinds n.count tree.0 ends) (sym k) tree.2;
              },
            );
          }

-- ---- 11, 34 and 12
module _ {es : List ℕ} {x : PlantRead} where
  pub equations-there : Planted es x → There (equations_in es)
  equations-there d = record { value = d.plant.equations; is = d.at.equations }

-- a, b and r answer what the three ask of all nodes, the last of the switches too
pub record Told (ed : Edition) (es s : List ℕ) (n : Nodes) (x : PlantRead) (a b r : Bool) : Type 0 where
  pub names : (ns : List Node) → NodesIn ed s n ns → (p : Plant) → PlantAt es x p → a ≡ every (node_named (length p.variables) (selectors p)) ns
  pub parts : (ns : List Node) → NodesIn ed s n ns → (p : Plant) → PlantAt es x p → b ≡ every (node_parted p.equations) ns
  pub reads : (ns : List Node) → NodesIn ed s n ns → (p : Plant) → PlantAt es x p →
      r ≡ (every (node_reads ed (length p.variables)) ns && switches_read ed p)

module _ (ed : Edition) {es s : List ℕ} {n : Nodes} {x : PlantRead} {a b r : Bool} where
  -- by the pass over the nodes, and the answer about the switches before it
  pub told-all : {i : ℕ} {t : Bool} → n.count ≤ i → ((cs : List Selector) → ModesAt x.modes x.selectors cs → Telling ed (node_named x.variables cs) s n i true a) →
      ((qs : List Equation) → DrivenAt x.driven qs → Telling ed (node_parted qs) s n i true b) → ((qs : List Equation) → equations_in es ≡ some qs → t ≡ every (equation_reads ed x.variables) qs) →
      Telling ed (node_reads ed x.variables) s n i t r → Told ed es s n x a b r
  unfolding switches_read
  told-all c f g l k = record {
    names = λ ns d p e. sym (tell-end _ c (f (selectors p) e.modes_at) ns d) ∙ and-true _ ∙ ap (λ n. every (node_named n (selectors p)) ns) (sym e.counted);
    parts = λ ns d p e. sym (tell-end _ c (g p.equations e.driven_at) ns d) ∙ and-true _;
    reads = λ ns d p e. sym (tell-end _ c k ns d) ∙ ap (λ q. every (node_reads ed x.variables) ns && q) (l p.equations e.equations)
        ∙ ap (λ n. every (node_reads ed n) ns && every (equation_reads ed n) p.equations) (sym e.counted);
  }

module _ (ed : Edition) {es s : List ℕ} {n : Nodes} {x : PlantRead} {a b r : Bool} (h : Told ed es s n x a b r) (ns : List Node) (d : NodesIn ed s n ns) (p : Plant) (e : PlantAt es x p) where
  pub by-11 : a ≡ false → refused 11 ≡ judge_nodes ed p ns
  unfolding judge_nodes ensure ◌>>◌
  by-11 i = rw (sym (h.names ns d p e) ∙ i) refl

  pub by-34 : a ≡ true → b ≡ false → refused 34 ≡ judge_nodes ed p ns
  unfolding judge_nodes ensure ◌>>◌
  by-34 i j = rw (sym (h.names ns d p e) ∙ i, sym (h.parts ns d p e) ∙ j) refl

  pub by-12 : a ≡ true → b ≡ true → r ≡ false → refused 12 ≡ judge_nodes ed p ns
  unfolding judge_nodes ensure ◌>>◌
  by-12 i j k = rw (sym (h.names ns d p e) ∙ i, sym (h.parts ns d p e) ∙ j, sym (h.reads ns d p e) ∙ k) refl

  pub nodes-passed : a ≡ true → b ≡ true → r ≡ true → accepted tt ≡ judge_nodes ed p ns
  unfolding judge_nodes ensure ◌>>◌
  nodes-passed i j k = rw (sym (h.names ns d p e) ∙ i, sym (h.parts ns d p e) ∙ j, sym (h.reads ns d p e) ∙ k) refl

-- ---- the report
same-report : {a b c x y z : ℕ} → a ≡ x → b ≡ y → c ≡ z → told (Ok (record { variables = a; selectors = b; nodes = c })) ≡ told (Ok (record { variables = x; selectors = y; nodes = z }))
same-report d e f = cc

module _ (ed : Edition) (f : List ℕ) where
  pub counts-refused : {why : Refusal} → ScheduleIndexed ed f (Err why) → told (Err why) ≡ read_schedule ed f
  unfolding read_schedule schedule_counts
  counts-refused h = rw h.at refl

  pub counted : {x : ScheduleIndex} → ScheduleIndexed ed f (Ok x) → told (Ok (record { variables = x.plant.variables; selectors = x.plant.selectors; nodes = x.nodes.count })) ≡ read_schedule ed f
  unfolding read_schedule schedule_counts
  counted {x} h =
      let s = h.at.0 in
      let o = h.at.2 in
      let a = FirstNumber.passed ed f s h.at.1 in
      same-report (variables-of s.plant o.plant) (selectors-of s.plant o.plant) (ap (λ (n : Nodes). n.count) o.nodes ∙ sym (indexed ed _ a.nodes).counted) ∙ sym (ap schedule_counts h.at.1)

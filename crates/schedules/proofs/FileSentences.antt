-- Reading a schedule, compiling it and running it by the rules refuse with the first number whose sentence holds.
use mathlib.Core.Path.{◌≡◌, refl, sym, ap, ap₂, subst, ◌∙◌}
use mathlib.Core.Bool.{true, ◌&&◌}
use mathlib.Core.List.{List, [], ◌∷◌}
use mathlib.Core.Logic.{◌↔◌, ◌⊎◌}
use mathlib.Core.Option.{some}
use Prim.Native.Nat.{ℕ, suc, ◌≤◌}
use native.Mathlib.Omega.{arith}
use borrow.Author.Tests.{leb-true, le-leb, eqb-true, eq-eqb}
use lib.Dec.{leb, eqb}
use lib.ListN.{length, drop, get_or}
use Rattle.semantics.specs.Bytes.{every, be2}
use Rattle.semantics.specs.Editions.{Edition}
use Rattle.semantics.specs.Refusals.{Judged, accepted}
use Rattle.semantics.specs.Sections.{variables_in, equations_in}
use Rattle.semantics.specs.Plant.{Plant, selectors, switches_read}
use Rattle.semantics.specs.TableFile.{location_limit}
use Rattle.semantics.specs.Calls.{Program, judge_run}
use Rattle.semantics.specs.Writing.{AllBytes, PlantLimits}
use Rattle.semantics.specs.Sentences.{Clause, FirstHolds, AnyHolds, WrittenAs, PlantSections}
use Rattle.semantics.proofs.Facts.{true-not-false, some_is, and_left, and_right, and_both}
use Rattle.semantics.proofs.Judging.{accepted-is, passed_then}
use Rattle.semantics.proofs.FirstNumber.{plant-is, ran-refusal}
use Rattle.semantics.proofs.ProperForms.{all_read}
use Rattle.semantics.proofs.WrittenSources.{all_drop}
use Rattle.semantics.proofs.SentenceSteps.{Answers, first_or_none, by-ensure, by-then, by_end, by_map, by-test, by_read}
use Rattle.semantics.proofs.TableSentences.{as_written, as-variables, as-equations, plant-answers, run-answers}
use Rattle.schedules.specs.FileSections.{FileSections, file_sections_in}
use Rattle.schedules.specs.Nodes.{Node, nodes_in, node_named, node_parted, node_reads}
use Rattle.schedules.specs.Trees.{tree_of}
use Rattle.schedules.specs.Residuals.{Residual}
use Rattle.schedules.specs.Files.{Schedule, file_header, file_length, judge_file_sections, judge_file}
use Rattle.schedules.specs.Compiling.{schedule_locations, table_of, judge_compile}
use Rattle.schedules.specs.Calls.{rule_program, rule_run_of, read_schedule, compile}
use Rattle.schedules.specs.Writing.{write_sections, SectionsLimits, write_nodes, NodesLimits}
use Rattle.schedules.specs.Proper.{ScheduleWritten}
use Rattle.schedules.specs.Agreement.{TooMany}
use Rattle.schedules.specs.TableSizes.{table_length_of}
use Rattle.schedules.specs.Sentences.{FileHead, HeadOfFile, three_bytes, FileSource, FileSectionsThere, PlantSectionsOfFile, of_file, NodesThere, FileSourceThere, AllRead, file_clauses, compile_clauses, FilePlant, file-plant, rule_run_clauses}
use Rattle.schedules.proofs.FirstNumber.{file-in-order, nodes-in-order, schedule-refusal, compile-refusal, passed, compile-steps}
use Rattle.schedules.proofs.OneTree.{one_tree}
use Rattle.schedules.proofs.FileForms.{nodes-bytes, sections-bytes}
use Rattle.schedules.proofs.FilesProper.{nodes-named, nodes-parted, nodes_read, schedule-accepted}
use Rattle.schedules.proofs.Demand2.{too_many, beyond}
use Rattle.schedules.proofs.TableLength.{table-of-length}

-- ---- 1 and 2
head-is : {f : List ℕ} {h : FileHead} → HeadOfFile f h → record { version = get_or f 0 0; length_field = be2 (get_or f 1 0) (get_or f 2 0); rest = drop 3 f } ≡ h
head-is three_bytes = refl

module _ (ed : Edition) where
  head-there : (file : List ℕ) → file_header ed file ≡ true → (h : FileHead) × HeadOfFile file h × (h.version ≡ ed.version)
  unfolding file_header
  head-there [] h = true-not-false (sym h)
  head-there (v ∷ []) h = true-not-false (sym h)
  head-there (v ∷ a ∷ []) h = true-not-false (sym h)
  head-there (v ∷ a ∷ b ∷ s) h = let n = length (v ∷ a ∷ b ∷ s) in (
    record { version = v; length_field = be2 a b; rest = s },
    three_bytes,
    eqb-true v ed.version (and_right (leb 3 n) (eqb v ed.version) h),
  )

  head-here : {file : List ℕ} {h : FileHead} → HeadOfFile file h → h.version ≡ ed.version → file_header ed file ≡ true
  unfolding file_header
  head-here (three_bytes {v = v} {s = s}) e = and_both (le-leb 3 (suc (suc (suc (length s)))) (omega arith)) (eq-eqb v ed.version e)

own_length : {file : List ℕ} {h : FileHead} → HeadOfFile file h → (file_length file ≡ true) ↔ (h.length_field ≡ length file)
unfolding file_length
own_length (three_bytes {a = a} {b = b}) = (eqb-true (be2 a b) _, eq-eqb (be2 a b) _)

-- ---- the parts of a file that has a head
module _ (file : List ℕ) (z : AllBytes file) where
  as-sections : {h : FileHead} → HeadOfFile file h → (x : FileSections) → (file_sections_in (drop 3 file) ≡ some x) ↔ WrittenAs write_sections SectionsLimits h.rest x
  as-sections i x =
      subst (λ s. (file_sections_in (drop 3 file) ≡ some x) ↔ WrittenAs write_sections SectionsLimits s x) (ap (λ (h : FileHead). h.rest) (head-is i))
      (as_written (sections-bytes (drop 3 file) x) (all_drop 3 z))

  sections_read : {x : FileSections} → FileSectionsThere file x → file_sections_in (drop 3 file) ≡ some x
  sections_read {x} t = (as-sections t.is-head x).1 t.sections

  sections-one : {x y : FileSections} → FileSectionsThere file x → FileSectionsThere file y → x ≡ y
  sections-one t u = some_is (sym (sections_read t) ∙ sections_read u)

  plant-one : {x : FileSections} → FileSectionsThere file x → (y : PlantSections) → PlantSectionsOfFile file y → record { variables = x.variables; equations = x.equations } ≡ y
  plant-one t y (of_file u) = ap (λ (x : FileSections). record { variables = x.variables; equations = x.equations }) (sections-one t u)

  module _ (ed : Edition) where
    as-nodes : {x : FileSections} → FileSectionsThere file x → (ns : List Node) → (nodes_in ed x.schedule ≡ some ns) ↔ WrittenAs (write_nodes ed) (NodesLimits ed) x.schedule ns
    as-nodes {x} t ns = as_written (nodes-bytes ed x.schedule ns) t.sections.limits.schedule.each

    nodes-one : {ms ns : List Node} → NodesThere ed file ms → NodesThere ed file ns → ms ≡ ns
    nodes-one {ms} {ns} t u =
        some_is (sym ((as-nodes t.there ms).1 t.nodes) ∙ ap (λ (x : FileSections). nodes_in ed x.schedule) (sections-one t.there u.there) ∙ (as-nodes u.there ns).1 u.nodes)

    source-nodes : {x : FileSource} → FileSourceThere ed file x → NodesThere ed file x.nodes
    source-nodes t = record { parts = t.parts; there = t.there; nodes = t.nodes }

    source_one : {x y : FileSource} → FileSourceThere ed file x → FileSourceThere ed file y → x ≡ y
    source_one {x} {y} t u =
        let s = sections-one t.there u.there in
        let l = t.there.sections.limits in
        let m = u.there.sections.limits in
        let v : x.plant.variables ≡ y.plant.variables = some_is (sym ((as-variables ed _ x.plant.variables l.variables.each).1 t.variables)
        ∙ ap (λ (s : FileSections). variables_in ed s.variables) s ∙ (as-variables ed _ y.plant.variables m.variables.each).1 u.variables) in
        let e : x.plant.equations ≡ y.plant.equations = some_is (sym ((as-equations _ x.plant.equations l.equations.each).1 t.equations)
        ∙ ap (λ (s : FileSections). equations_in s.equations) s ∙ (as-equations _ y.plant.equations m.equations.each).1 u.equations) in
        ap₂ (λ (p : Plant) (ns : List Node). record { plant = p; nodes = ns }) (ap₂ (λ v e. record { variables = v; equations = e }) v e) (nodes-one (source-nodes t) (source-nodes u))

    -- 12: both tests of the call, and what the sentence asks
    reads-is : (x : FileSource) → FileSourceThere ed file x →
        ((every (node_reads ed (length x.plant.variables)) x.nodes && switches_read ed x.plant) ≡ true) ↔ AllRead ed x
    unfolding switches_read
    reads-is x t =
        let p = x.plant in
        let a = every (node_reads ed (length p.variables)) x.nodes in
        let n = nodes_read p ed t.nodes.limits.each in
        let e = all_read ed (length p.variables) t.equations.limits.each in
        (λ h. record { nodes = n.0 (and_left a (switches_read ed p) h); switches = e.0 (and_right a (switches_read ed p) h) }, λ h. and_both (n.1 h.nodes) (e.1 h.switches))

-- ---- 1 to 12, with 34
as-judged : {A : Type 0} {i j : Judged A} {l : List Clause} → i ≡ j → Answers j l → Answers i l
as-judged {l = l} e k = subst (λ i. Answers i l) (sym e) k

pub file-answers : (ed : Edition) (file : List ℕ) → AllBytes file → Answers (judge_file ed file) (file_clauses ed file)
unfolding judge_file_sections
file-answers ed file z = as-judged (file-in-order ed file) (
    by-ensure 1 (file_header ed file) (λ e h i v. true-not-false (sym (head-here ed i v) ∙ e)) (λ e f. (let k = head-there ed file e in f k.0 k.1 k.2)) (λ h1.
    let head = head-there ed file h1 in
    let i = head.1 in
    by-test i (λ x j. sym (head-is i) ∙ head-is j) 2 (file_length file) (own_length i) (λ h2.
    by_read i (λ x j. sym (head-is i) ∙ head-is j) 3 (file_sections_in (drop 3 file)) (as-sections file z i) (λ x e.
    let there : FileSectionsThere file x = record { head = head.0; is-head = i; sections = (as-sections file z i x).0 e } in
    let l = there.sections.limits in
    by-then (plant-answers ed (record { variables = x.variables; equations = x.equations }) (of_file there) (plant-one file z there) l.variables.each l.equations.each) (λ p j.
    let k = plant-is ed x.variables x.equations j in
    by_read there (λ y u. sections-one file z there u) 9 (nodes_in ed x.schedule) (as-nodes file z ed there) (λ ns f.
    let nodes = (as-nodes file z ed there ns).0 f in
    let n : NodesThere ed file ns = record { parts = x; there = there; nodes = nodes } in
    by_read n (λ y u. nodes-one file z ed n u) 10 (tree_of ns) (λ t. one_tree ns t) (λ t g.
    let s : FileSourceThere ed file (record { plant = p; nodes = ns }) = record {
      parts = x;
      there = there;
      variables = (as-variables ed x.variables p.variables l.variables.each).0 k.0;
      equations = (as-equations x.equations p.equations l.equations.each).0 k.1;
      nodes = nodes;
    } in
    as-judged (nodes-in-order ed p ns _) (
    by-test s (λ y u. source_one file z ed s u) 11 (every (node_named (length p.variables) (selectors p)) ns) (nodes-named p ns) (λ h11.
    by-test s (λ y u. source_one file z ed s u) 34 (every (node_parted p.equations) ns) (nodes-parted p ns) (λ h34.
    by-test s (λ y u. source_one file z ed s u) 12 (every (node_reads ed (length p.variables)) ns && switches_read ed p)
    (reads-is file z ed (record { plant = p; nodes = ns }) s) (λ h12. by_end _)))))))))))

-- ---- 13 and 14, and a run
module _ (ed : Edition) (file : List ℕ) (z : AllBytes file) where
  -- an accepted file is one schedule's
  schedule-there : {s : Schedule} → judge_file ed file ≡ accepted s → ScheduleWritten ed file s
  schedule-there {s} e = (schedule-accepted ed file s).0 (z, e)

  schedule-one : {s : Schedule} → judge_file ed file ≡ accepted s → (t : Schedule) → ScheduleWritten ed file t → s ≡ t
  schedule-one e t w = accepted-is (sym e ∙ ((schedule-accepted ed file t).1 w).1)

  pub compile-answers : (buffer : List ℕ) → Answers (judge_compile ed file buffer) (compile_clauses ed file buffer)
  compile-answers buffer = rw (compile-steps ed file buffer) (by-then (file-answers ed file z) (λ s e.
      let n = length (table_of ed s) in
      by-ensure 13 (leb (length (schedule_locations s)) location_limit) (λ f. (s, schedule-there e, too_many s f)) (λ f k. few s f k.2 (schedule-one e k.0 k.1)) (λ h13.
      let long : n ≡ table_length_of ed s = table-of-length ed s (passed ed file s e).tree (leb-true (length (schedule_locations s)) location_limit h13) in
      by-test (schedule-there e) (schedule-one e) 14 (leb n (length buffer)) (λ b. subst (λ n. n ≤ length buffer) long (leb-true n (length buffer) b), λ h. le-leb n (length buffer) (subst (λ n. n ≤ length buffer) (sym long) h)) (λ h14. by_end _))))
    where
      few : (s : Schedule) → leb (length (schedule_locations s)) location_limit ≡ true → {t : Schedule} → TooMany t → s ≡ t → ⊥
      few s f m i = true-not-false (sym f ∙ beyond s (subst TooMany (sym i) m))

  pub plant-of-file : {s : Schedule} → judge_file ed file ≡ accepted s → FilePlant ed file s.plant × ((p : Plant) → FilePlant ed file p → s.plant ≡ p) × PlantLimits s.plant
  plant-of-file {s} e = let w = schedule-there e in (file-plant w, one, w.limits.plant)
    where
      one : (p : Plant) → FilePlant ed file p → s.plant ≡ p
      one p (file-plant {s = t} u) = ap (λ (s : Schedule). s.plant) (schedule-one e t u)

  pub rule-run-answers : (start events buffer : List ℕ) → AllBytes start → Answers (judge_run ed (rule_program ed file) start events buffer) (rule_run_clauses ed file start events buffer)
  unfolding rule_program
  rule-run-answers start events buffer y = run-answers ed start events buffer y (by_map _ (file-answers ed file z)) program
    where
      program : (g : Program Residual) → rule_program ed file ≡ accepted g → FilePlant ed file g.plant × ((p : Plant) → FilePlant ed file p → g.plant ≡ p) × PlantLimits g.plant
      program g e =
          let a = passed_then (judge_file ed file) _ e in
          subst (λ q. FilePlant ed file q × ((p : Plant) → FilePlant ed file p → q ≡ p) × PlantLimits q) (ap (λ (g : Program Residual). g.plant) (accepted-is a.2)) (plant-of-file a.1)

  -- ---- the numbers that the calls return
  pub first-read-schedule : FirstHolds (read_schedule ed file).refusal (file_clauses ed file) ⊎ (((read_schedule ed file).refusal ≡ 0) × (AnyHolds (file_clauses ed file) → ⊥))
  unfolding read_schedule
  first-read-schedule = rw (schedule-refusal (judge_file ed file)) (first_or_none (file-answers ed file z))

  pub first-compile : (buffer : List ℕ) →
      FirstHolds (compile ed file buffer).refusal (compile_clauses ed file buffer) ⊎ (((compile ed file buffer).refusal ≡ 0) × (AnyHolds (compile_clauses ed file buffer) → ⊥))
  first-compile buffer = rw (compile-refusal ed file buffer) (first_or_none (compile-answers buffer))

  pub first-rule-run : (start events buffer : List ℕ) → AllBytes start →
      FirstHolds (rule_run_of ed file start events buffer).refusal (rule_run_clauses ed file start events buffer) ⊎
      (((rule_run_of ed file start events buffer).refusal ≡ 0) × (AnyHolds (rule_run_clauses ed file start events buffer) → ⊥))
  unfolding rule_run_of
  first-rule-run start events buffer y = rw (ran-refusal buffer (judge_run ed (rule_program ed file) start events buffer)) (first_or_none (rule-run-answers start events buffer y))

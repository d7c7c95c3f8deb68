-- Reading a schedule, running it by the rules and compiling it refuse with the first number that applies.
use mathlib.Core.Path.{◌≡◌, refl, sym, ap, subst, ◌∙◌}
use mathlib.Core.Bool.{Bool, true, ◌&&◌, false}
use mathlib.Core.List.{List, ◌∷◌, ◌++◌}
use mathlib.Core.Option.{some}
use Prim.Native.Nat.{ℕ}
use lib.ListN.{length, drop}
use lib.Dec.{leb}
use Rattle.semantics.specs.Bytes.{every}
use Rattle.semantics.specs.Editions.{Edition}
use Rattle.semantics.specs.Refusals.{Judged, refused, accepted, ◌>>=◌, ◌>>◌, ensure, need, refusal_of}
use Rattle.semantics.specs.Plant.{Plant, judge_plant, selectors, switches_read}
use Rattle.semantics.specs.TableFile.{location_limit}
use Rattle.semantics.specs.Calls.{Program, judge_run}
use Rattle.semantics.specs.Conditions.{Condition, ◌if◌, is4, is5, is6, is7, is8, plant_conditions}
use Rattle.semantics.proofs.Judging as Judging
use Rattle.semantics.proofs.FirstNumber.{Firsts, by-ensure, by-need, by-then, by_map, by_end, given-some, bind-some, plant-first, plant-in, run-first}
use Rattle.schedules.specs.FileSections.{FileSections, file_sections_in}
use Rattle.schedules.specs.Nodes.{Node, nodes_in, node_named, node_parted, node_reads}
use Rattle.schedules.specs.Trees.{tree_of}
use Rattle.schedules.specs.Residuals.{Residual}
use Rattle.schedules.specs.Files.{Schedule, judge_nodes, judge_file_sections, judge_file_layout, judge_file, file_header, file_length}
use Rattle.schedules.specs.Compiling.{schedule_locations, table_of, judge_compile, judge_table_of}
use Rattle.schedules.specs.Calls.{rule_program, schedule_counts, compiled_into, file_comparisons, compile}
use Rattle.schedules.specs.Conditions.{file_parts, file_plant, file_nodes, file_tree, file_schedule, is1, is2, is3, of_plant, is9, is10, is11, is34, is12, is13, is14, file_conditions, compile_conditions, rule_run_conditions}

-- 1 to 3, as a call goes through them
pub file-in-order : (ed : Edition) (file : List ℕ) →
    judge_file ed file ≡ (ensure 1 (file_header ed file) >> (ensure 2 (file_length file) >> (need 3 (file_sections_in (drop 3 file)) >>= judge_file_sections ed)))
unfolding judge_file judge_file_layout
file-in-order ed file =
    Judging.ensure-then 1 _ _ (judge_file_sections ed) ∙ ap (λ j. ensure 1 (file_header ed file) >> j) (Judging.ensure-then 2 _ _ (judge_file_sections ed))

-- 11, 34 and 12, as a call goes through them
pub nodes-in-order : {A : Type 0} (ed : Edition) (p : Plant) (ns : List Node) (j : Judged A) →
    (judge_nodes ed p ns >> j) ≡ (ensure 11 (every (node_named (length p.variables) (selectors p)) ns) >> (ensure 34 (every (node_parted p.equations) ns) >>
    (ensure 12 (every (node_reads ed (length p.variables)) ns && switches_read ed p) >> j)))
unfolding judge_nodes
nodes-in-order ed p ns j =
    Judging.then-after _ _ j ∙ ap (λ i. ensure 11 (every (node_named (length p.variables) (selectors p)) ns) >> i) (Judging.then-after _ _ j)

as-judged : {A : Type 0} {i j : Judged A} {l : List Condition} → i ≡ j → Firsts j l → Firsts i l
as-judged {l = l} e f = subst (λ i. Firsts i l) (sym e) f

module _ (ed : Edition) (file : List ℕ) where
  -- 4 to 8 of the two sections, as conditions of the file
  of_parts : {parts : FileSections} → file_parts ed file ≡ some parts → (is : Edition → List ℕ → List ℕ → Bool) → of_plant ed file is ≡ is ed parts.variables parts.equations
  unfolding of_plant
  of_parts e is = given-some _ e

  of-plant : {parts : FileSections} {A : Type 0} {j : Judged A} {l : List Condition} → file_parts ed file ≡ some parts →
      Firsts j (plant_conditions ed parts.variables parts.equations ++ l) →
      Firsts j ((4 if of_plant ed file is4) ∷ (5 if of_plant ed file is5) ∷ (6 if of_plant ed file is6) ∷ (7 if of_plant ed file is7) ∷ (8 if of_plant ed file is8) ∷ l)
  unfolding plant_conditions
  of-plant e f = rw (of_parts e is4, of_parts e is5, of_parts e is6, of_parts e is7, of_parts e is8) f

  pub file-first : Firsts (judge_file ed file) (file_conditions ed file)
  unfolding judge_file_sections file_conditions is1 is2 is3 is9 is10 is11 is34 is12 file_nodes file_plant file_parts
  file-first = as-judged (file-in-order ed file) (
      by-ensure 1 (file_header ed file) refl (λ h1.
      by-ensure 2 (file_length file) refl (λ h2.
      by-need 3 (file_sections_in (drop 3 file)) refl (λ parts e.
      of-plant e (by-then (plant-first ed parts.variables parts.equations) (λ p j.
      let q = bind-some _ e ∙ plant-in ed parts.variables parts.equations j in
      by-need 9 (nodes_in ed parts.schedule) (given-some _ e) (λ ns f.
      let n = bind-some _ e ∙ f in
      by-need 10 (tree_of ns) (given-some _ n) (λ t g.
      as-judged (nodes-in-order ed p ns _) (
      by-ensure 11 (every (node_named (length p.variables) (selectors p)) ns) (given-some _ q ∙ given-some _ n) (λ h11.
      by-ensure 34 (every (node_parted p.equations) ns) (given-some _ q ∙ given-some _ n) (λ h34.
      by-ensure 12 (every (node_reads ed (length p.variables)) ns && switches_read ed p) (given-some _ q ∙ given-some _ n) (λ h12. by_end _))))))))))))

-- an accepted file: its parts, and the conditions that they passed
pub record Passed (ed : Edition) (file : List ℕ) (s : Schedule) : Type 0 where
  pub header : file_header ed file ≡ true
  pub own_length : file_length file ≡ true
  pub parts : file_sections_in (drop 3 file) ≡ some s.sections
  pub plant : judge_plant ed s.sections.variables s.sections.equations ≡ accepted s.plant
  pub nodes : nodes_in ed s.sections.schedule ≡ some s.nodes
  pub tree : tree_of s.nodes ≡ some s.root
  pub named : every (node_named (length s.plant.variables) (selectors s.plant)) s.nodes ≡ true
  pub parted : every (node_parted s.plant.equations) s.nodes ≡ true
  pub reads : (every (node_reads ed (length s.plant.variables)) s.nodes && switches_read ed s.plant) ≡ true

pub passed : (ed : Edition) (file : List ℕ) (s : Schedule) → judge_file ed file ≡ accepted s → Passed ed file s
unfolding judge_file_sections
passed ed file s h =
    let a = Judging.passed-ensure 1 _ _ (sym (file-in-order ed file) ∙ h) in
    let b = Judging.passed-ensure 2 _ _ a.1 in
    let c = Judging.passed-need 3 (file_sections_in (drop 3 file)) _ b.1 in
    let d = Judging.passed_then (judge_plant ed c.0.variables c.0.equations) _ c.2 in
    let f = Judging.passed-need 9 (nodes_in ed c.0.schedule) _ d.2 in
    let g = Judging.passed-need 10 (tree_of f.0) _ f.2 in
    let i = Judging.passed-ensure 11 _ _ (sym (nodes-in-order ed d.0 f.0 _) ∙ g.2) in
    let k = Judging.passed-ensure 34 _ _ i.1 in
    let j = Judging.passed-ensure 12 _ _ k.1 in
    subst (Passed ed file) (Judging.accepted-is j.1) (record {
      header = a.0;
      own_length = b.0;
      parts = c.1;
      plant = d.1;
      nodes = f.1;
      tree = g.1;
      named = i.0;
      parted = k.0;
      reads = j.0;
    })

module _ (ed : Edition) (file : List ℕ) where
  pub file-schedule : {s : Schedule} → judge_file ed file ≡ accepted s → file_schedule ed file ≡ some s
  unfolding file_schedule file_tree file_nodes file_plant file_parts
  file-schedule {s} h =
      let p = passed ed file s h in
      bind-some _ p.parts ∙ bind-some _ (bind-some _ p.parts ∙ plant-in ed _ _ p.plant) ∙ bind-some _ (bind-some _ p.parts ∙ p.nodes)
      ∙ bind-some _ (bind-some _ (bind-some _ p.parts ∙ p.nodes) ∙ p.tree)

  pub file-plant : {s : Schedule} → judge_file ed file ≡ accepted s → file_plant ed file ≡ some s.plant
  unfolding file_plant file_parts
  file-plant {s} h = let p = passed ed file s h in bind-some _ p.parts ∙ plant-in ed _ _ p.plant

  -- 13 and 14 in one list
  pub compile-steps : (buffer : List ℕ) → judge_compile ed file buffer ≡
      (judge_file ed file >>= λ s. ensure 13 (leb (length (schedule_locations s)) location_limit) >> (ensure 14 (leb (length (table_of ed s)) (length buffer)) >> accepted (table_of ed s)))
  unfolding judge_compile judge_table_of ◌>>=◌ ◌>>◌ ensure
  compile-steps buffer = go (judge_file ed file)
    where
      fits : List ℕ → Judged (List ℕ)
      fits t = ensure 14 (leb (length t) (length buffer)) >> accepted t

      at13 : (b : Bool) (t : List ℕ) → ((ensure 13 b >> accepted t) >>= fits) ≡ (ensure 13 b >> fits t)
      at13 true t = refl
      at13 false t = refl

      go : (j : Judged Schedule) → ((j >>= λ s. ensure 13 (leb (length (schedule_locations s)) location_limit) >> accepted (table_of ed s)) >>= fits) ≡
          (j >>= λ s. ensure 13 (leb (length (schedule_locations s)) location_limit) >> fits (table_of ed s))
      go (refused n) = refl
      go (accepted s) = at13 (leb (length (schedule_locations s)) location_limit) (table_of ed s)

  pub compile-first : (buffer : List ℕ) → Firsts (judge_compile ed file buffer) (compile_conditions ed file buffer)
  unfolding compile_conditions is13 is14
  compile-first buffer = rw (compile-steps buffer) (by-then (file-first ed file) (λ s e.
      by-ensure 13 (leb (length (schedule_locations s)) location_limit) (given-some _ (file-schedule e)) (λ h13.
      by-ensure 14 (leb (length (table_of ed s)) (length buffer)) (given-some _ (file-schedule e)) (λ h14. by_end _))))

  pub rule-run-first : (start events buffer : List ℕ) → Firsts (judge_run ed (rule_program ed file) start events buffer) (rule_run_conditions ed file start events buffer)
  unfolding rule_program rule_run_conditions
  rule-run-first start events buffer = run-first ed start events buffer (by_map _ (file-first ed file)) program
    where
      program : (g : Program Residual) → rule_program ed file ≡ accepted g → file_plant ed file ≡ some g.plant
      program g e =
          let a = Judging.passed_then (judge_file ed file) _ e in
          file-plant a.1 ∙ ap (λ (g : Program Residual). some g.plant) (Judging.accepted-is a.2)

-- ---- the numbers that the calls return
pub schedule-refusal : (j : Judged Schedule) → (schedule_counts j).refusal ≡ refusal_of j
unfolding schedule_counts refusal_of
schedule-refusal (refused n) = refl
schedule-refusal (accepted s) = refl

pub compile-refusal : (ed : Edition) (file room : List ℕ) → (compile ed file room).refusal ≡ refusal_of (judge_compile ed file room)
unfolding compile compiled_into refusal_of
compile-refusal ed file room = go (judge_compile ed file room)
  where
    go : (j : Judged (List ℕ)) → (compiled_into (file_comparisons (judge_file ed file)) room j).refusal ≡ refusal_of j
    go (refused n) = refl
    go (accepted t) = refl

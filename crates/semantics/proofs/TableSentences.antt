-- Reading a table and running it refuse with the first number whose sentence holds.
use mathlib.Core.Path.{◌≡◌, refl, sym, ap, ap₂, subst, ◌∙◌}
use mathlib.Core.Bool.{true, false, ◌&&◌}
use mathlib.Core.List.{List, [], ◌∷◌, ◌++◌}
use mathlib.Core.Logic.{◌↔◌, ◌⊎◌, inl, inr}
use mathlib.Core.Option.{Option, some}
use Prim.Native.Nat.{ℕ, suc, ◌+◌, ◌*◌, ◌/◌, ◌%◌}
use native.Mathlib.Omega.{arith}
use native.Mathlib.Nat.{div-add-mod', mul-mod_left, add-zero}
use borrow.Author.Tests.{le-leb, eqb-true, eq-eqb}
use lib.Dec.{leb, eqb}
use lib.ListN.{length, drop, get_or}
use Rattle.semantics.specs.Bytes.{every, be4}
use Rattle.semantics.specs.Editions.{Edition}
use Rattle.semantics.specs.Refusals.{Judged, accepted}
use Rattle.semantics.specs.Sections.{Variable, Equation, variables_in, equations_in}
use Rattle.semantics.specs.Plant.{Plant, judge_variables, judge_equations, judge_plant, switches_read, ordered, equation_named, driven_once}
use Rattle.semantics.specs.TableFile.{NodeAction, Entry, TableSections, table_sections_in, actions_in, locations_in, write_table_sections}
use Rattle.semantics.specs.Tables.{Table, judge_table, table_header, actions_fit, locations_fit_in}
use Rattle.semantics.specs.Starts.{Start, start_in, fits_start}
use Rattle.semantics.specs.Calls.{Program, judge_start, judge_admission, judge_run, table_program, whole_events, room_for_records, read_table_of, table_run_of}
use Rattle.semantics.specs.Writing.{AllBytes, write_variables, VariablesLimits, write_equations, EquationsLimits, TableSectionsLimits, PlantLimits, start_bytes, StartLimits}
use Rattle.semantics.specs.Sentences.{Clause, ◌when◌, FirstHolds, AnyHolds, WrittenAs, PlantSections, VariablesThere, PlantThere, Sentence4, Sentence5, Sentence6, Sentence7, SwitchSentence12, plant_clauses, TableHead, HeadOfTable, five_bytes, TableSource, TableActions, ActionsOf, LocationsOf, ProperHead, TableSectionsThere, PlantSectionsOfTable, of-table, SourceThere, ActionsThere, table_clauses, TablePlant, table-plant, run_clauses, table_run_clauses}
use Rattle.semantics.proofs.Facts.{true-not-false, some_is, and_left, and_right, and_both}
use Rattle.semantics.proofs.TableJudged.{table-in-order}
use Rattle.semantics.proofs.Judging.{accepted-is, passed_then}
use Rattle.semantics.proofs.EventsCut.{room-for-each}
use Rattle.semantics.proofs.FirstNumber.{plant-is, table-refusal, ran-refusal}
use Rattle.semantics.proofs.ProperForms.{all-ordered, all_named, driven-once, all_read}
use Rattle.semantics.proofs.SectionForms.{variables-bytes, equations-bytes}
use Rattle.semantics.proofs.TableForms.{actions-bytes, locations-bytes, sections-bytes}
use Rattle.semantics.proofs.PlantPassed.{variables-passed, equations-passed}
use Rattle.semantics.proofs.TablesProper.{actions-proper, locations-proper, table-accepted}
use Rattle.semantics.proofs.StartForms as StartForms
use Rattle.semantics.proofs.WrittenSources.{all_drop}
use Rattle.semantics.proofs.SentenceSteps.{Answers, first_or_none, any_left, any-right, none-of-both, by-ensure, by-then, by_only, by_end, by_map, not-failing, failing, by-test, by_read, by-read-test}

-- bytes are read just where they are a written form within its limits
pub as_written : {A : Type 0} {write : A → List ℕ} {Limits : A → Type 0} {s : List ℕ} {a : A} {o : Option A} →
    (AllBytes s × (o ≡ some a)) ↔ ((s ≡ write a) × Limits a) → AllBytes s → (o ≡ some a) ↔ WrittenAs write Limits s a
as_written k z = (λ e. (let w = k.0 (z, e) in record { bytes = w.0; limits = w.1 }), λ w. (k.1 (w.bytes, w.limits)).1)

-- ---- 4 to 8 and 12
module _ (ed : Edition) where
  pub as-variables : (s : List ℕ) (xs : List Variable) → AllBytes s → (variables_in ed s ≡ some xs) ↔ WrittenAs write_variables VariablesLimits s xs
  as-variables s xs z = as_written (variables-bytes ed s xs) z

pub as-equations : (s : List ℕ) (es : List Equation) → AllBytes s → (equations_in s ≡ some es) ↔ WrittenAs write_equations EquationsLimits s es
as-equations s es z = as_written (equations-bytes s es) z

module _ (ed : Edition) {There : PlantSections → Type 0} (s : PlantSections) (there : There s) (one : (x : PlantSections) → There x → s ≡ x) (zv : AllBytes s.variables) (ze : AllBytes s.equations) where
  variables-one : {xs : List Variable} → variables_in ed s.variables ≡ some xs → (ys : List Variable) → VariablesThere There ys → xs ≡ ys
  variables-one e ys t =
      some_is (sym e ∙ (as-variables ed s.variables ys zv).1 (subst (λ (x : PlantSections). WrittenAs write_variables VariablesLimits x.variables ys) (sym (one t.sections t.there)) t.variables))

  plant-one : {xs : List Variable} {es : List Equation} → variables_in ed s.variables ≡ some xs → equations_in s.equations ≡ some es → (q : Plant) → PlantThere There q →
      record { variables = xs; equations = es } ≡ q
  plant-one {xs} {es} e f q t =
      let a : xs ≡ q.variables = variables-one e q.variables (record { sections = t.sections; there = t.there; variables = t.variables }) in
      let b : es ≡ q.equations = some_is (sym f ∙ (as-equations s.equations q.equations ze).1
      (subst (λ (x : PlantSections). WrittenAs write_equations EquationsLimits x.equations q.equations) (sym (one t.sections t.there)) t.equations)) in
      ap₂ (λ v e. record { variables = v; equations = e }) a b

  plant-there : {xs : List Variable} {es : List Equation} → variables_in ed s.variables ≡ some xs → equations_in s.equations ≡ some es → PlantThere There (record { variables = xs; equations = es })
  plant-there {xs} {es} e f = record { sections = s; there = there; variables = (as-variables ed s.variables xs zv).0 e; equations = (as-equations s.equations es ze).0 f }

  -- 4 and 5, then 6 and 7, then 8
  variables-answers : Answers (judge_variables ed s.variables) ((4 when Sentence4 There) ∷ (5 when Sentence5 There) ∷ [])
  unfolding judge_variables
  variables-answers =
      by_read there one 4 (variables_in ed s.variables) (λ xs. as-variables ed s.variables xs zv) (λ xs e.
      by-test (record { sections = s; there = there; variables = (as-variables ed s.variables xs zv).0 e }) (variables-one e) 5 (every ordered xs) (all-ordered xs) (λ h5. by_end _))

  equations-answers : {xs : List Variable} → variables_in ed s.variables ≡ some xs → Answers (judge_equations (length xs) s.equations) ((6 when Sentence6 There) ∷ (7 when Sentence7 There) ∷ [])
  unfolding judge_equations
  equations-answers {xs} e =
      by_read there one 6 (equations_in s.equations) (λ es. as-equations s.equations es ze) (λ es f.
      by-test (plant-there e f) (plant-one e f) 7 (every (equation_named (length xs)) es) (all_named (length xs) es) (λ h7. by_end _))

  pub plant-answers : Answers (judge_plant ed s.variables s.equations) (plant_clauses There)
  unfolding judge_plant
  plant-answers =
      by-then variables-answers (λ xs i.
      let e = (variables-passed ed s.variables i).is in
      by-then (equations-answers e) (λ es j.
      let f = (equations-passed (length xs) s.equations j).is in
      by-test (plant-there e f) (plant-one e f) 8 (driven_once [] es) (driven-once es) (λ h8. by_end _)))

  -- 12 of the switches, of the plant that 4 to 8 let pass
  pub switch-sentence : {p : Plant} → judge_plant ed s.variables s.equations ≡ accepted p → (switches_read ed p ≡ false → SwitchSentence12 There ed) × (switches_read ed p ≡ true → SwitchSentence12 There ed → ⊥)
  unfolding switches_read
  switch-sentence {p} h =
      let k = plant-is ed s.variables s.equations h in
      let t = plant-there k.0 k.1 in
      let same = all_read ed (length p.variables) t.equations.limits.each in
      (λ e. failing t (plant-one k.0 k.1) (λ q. true-not-false (sym (same.1 q) ∙ e)), λ e. not-failing t (plant-one k.0 k.1) (same.0 e))

-- ---- 15 and 16
module _ (ed : Edition) (table : List ℕ) where
  head-there : table_header ed table ≡ true → (h : TableHead) × ProperHead ed table h
  unfolding table_header
  head-there = go table
    where
      go : (t : List ℕ) → table_header ed t ≡ true → (h : TableHead) × ProperHead ed t h
      go [] h = true-not-false (sym h)
      go (v ∷ []) h = true-not-false (sym h)
      go (v ∷ a ∷ []) h = true-not-false (sym h)
      go (v ∷ a ∷ b ∷ []) h = true-not-false (sym h)
      go (v ∷ a ∷ b ∷ c ∷ []) h = true-not-false (sym h)
      go (v ∷ a ∷ b ∷ c ∷ d ∷ s) h =
          let n = length (v ∷ a ∷ b ∷ c ∷ d ∷ s) in
          let g = and_right (leb 5 n) (eqb v ed.version && eqb (be4 a b c d) n) h in (
            record { version = v; length_field = be4 a b c d; rest = s },
            record { is-head = five_bytes; version = eqb-true v ed.version (and_left (eqb v ed.version) (eqb (be4 a b c d) n) g); own_length = eqb-true (be4 a b c d) n (and_right (eqb v ed.version) (eqb (be4 a b c d) n) g) },
          )

  head-here : (h : TableHead) → ProperHead ed table h → table_header ed table ≡ true
  unfolding table_header
  head-here h p = go p.is-head p.version p.own_length
    where
      go : {t : List ℕ} {h : TableHead} → HeadOfTable t h → h.version ≡ ed.version → h.length_field ≡ length t → table_header ed t ≡ true
      go (five_bytes {v = v} {s = s}) e f = and_both (le-leb 5 (suc (suc (suc (suc (suc (length s)))))) (omega arith)) (and_both (eq-eqb v ed.version e) (eq-eqb _ _ f))

head-is : {t : List ℕ} {h : TableHead} → HeadOfTable t h → record { version = get_or t 0 0; length_field = be4 (get_or t 1 0) (get_or t 2 0) (get_or t 3 0) (get_or t 4 0); rest = drop 5 t } ≡ h
head-is five_bytes = refl

-- the sections of a table that has a head
module _ (table : List ℕ) (z : AllBytes table) where
  as-sections : {h : TableHead} → HeadOfTable table h → (x : TableSections) → (table_sections_in (drop 5 table) ≡ some x) ↔ WrittenAs write_table_sections TableSectionsLimits h.rest x
  as-sections i x =
      subst (λ s. (table_sections_in (drop 5 table) ≡ some x) ↔ WrittenAs write_table_sections TableSectionsLimits s x) (ap (λ (h : TableHead). h.rest) (head-is i))
      (as_written (sections-bytes (drop 5 table) x) (all_drop 5 z))

  sections_read : {x : TableSections} → TableSectionsThere table x → table_sections_in (drop 5 table) ≡ some x
  sections_read {x} t = (as-sections t.is-head x).1 t.sections

  sections-limits : {x : TableSections} → TableSectionsThere table x → TableSectionsLimits x
  sections-limits t = t.sections.limits

  first_one : {x : TableSections} → table_sections_in (drop 5 table) ≡ some x → (y : PlantSections) → PlantSectionsOfTable table y → record { variables = x.variables; equations = x.equations } ≡ y
  first_one e y (of-table t) = ap (λ (x : TableSections). record { variables = x.variables; equations = x.equations }) (some_is (sym e ∙ sections_read t))

  module _ (ed : Edition) where
    -- what is there can be read
    source-variables : {x : TableSource} → SourceThere table x → variables_in ed x.sections.variables ≡ some x.plant.variables
    source-variables {x} t = (as-variables ed x.sections.variables x.plant.variables (sections-limits t.sections).variables.each).1 t.variables

    source-equations : {x : TableSource} → SourceThere table x → equations_in x.sections.equations ≡ some x.plant.equations
    source-equations {x} t = (as-equations x.sections.equations x.plant.equations (sections-limits t.sections).equations.each).1 t.equations

    source_one : {x y : TableSource} → SourceThere table x → SourceThere table y → x ≡ y
    source_one {x} {y} t u =
        let s : x.sections ≡ y.sections = some_is (sym (sections_read t.sections) ∙ sections_read u.sections) in
        let v : x.plant.variables ≡ y.plant.variables = some_is (sym (source-variables t) ∙ ap (λ (s : TableSections). variables_in ed s.variables) s ∙ source-variables u) in
        let e : x.plant.equations ≡ y.plant.equations = some_is (sym (source-equations t) ∙ ap (λ (s : TableSections). equations_in s.equations) s ∙ source-equations u) in
        ap₂ (λ (s : TableSections) (p : Plant). record { sections = s; plant = p }) s (ap₂ (λ v e. record { variables = v; equations = e }) v e)

    actions-one : {x y : TableActions} → ActionsThere ed table x → ActionsThere ed table y → x ≡ y
    actions-one {x} {y} t u =
        let o = source_one t.source u.source in
        let s : x.sections ≡ y.sections = ap (λ (x : TableSource). x.sections) o in
        let a = (as_written (actions-bytes ed x.sections.actions x.actions) (sections-limits t.source.sections).actions.each).1 t.actions.written in
        let b = (as_written (actions-bytes ed y.sections.actions y.actions) (sections-limits u.source.sections).actions.each).1 u.actions.written in
        let l : x.actions ≡ y.actions = some_is (sym a ∙ ap (λ (s : TableSections). actions_in ed s.actions) s ∙ b) in
        ap₂ (λ (s : TableSections) (l : List NodeAction). record { sections = s; actions = l }) s l

    -- ---- 18 and 19, of parts that are there
    as-actions : (x : TableSource) → SourceThere table x → (l : List NodeAction) → ((actions_in ed x.sections.actions ≡ some l) × (actions_fit ed x.plant l ≡ true)) ↔ ActionsOf ed x l
    as-actions x t l =
        let k = as_written (actions-bytes ed x.sections.actions l) (sections-limits t.sections).actions.each in (
          λ h. (let w = k.0 h.0 in record { written = w; proper = (actions-proper ed x.plant w.limits.each).0 h.1 }),
          λ w. (k.1 w.written, (actions-proper ed x.plant w.written.limits.each).1 w.proper),
        )

    as-locations : (x : TableActions) → ActionsThere ed table x → (l : List (List Entry)) → ((locations_in ed x.sections.locations ≡ some l) × (locations_fit_in x.actions l ≡ true)) ↔ LocationsOf ed x l
    as-locations x t l =
        let k = as_written (locations-bytes ed x.sections.locations l) (sections-limits t.source.sections).locations.each in
        let r = locations-proper x.actions l t.actions.proper.rising in (
          λ h. record { written = k.0 h.0; proper = r.0 h.1 },
          λ w. (k.1 w.written, r.1 w.proper),
        )

-- ---- 15 to 19
abbrev last : Edition → List ℕ → List Clause
last ed table = (12 when SwitchSentence12 (PlantSectionsOfTable table) ed) ∷ []

pub table-answers : (ed : Edition) (table : List ℕ) → AllBytes table → Answers (judge_table ed table) (table_clauses ed table)
table-answers ed table z = rw (table-in-order ed table) (
    by-ensure 15 (table_header ed table) (λ e h p. true-not-false (sym (head-here ed table h p) ∙ e)) (λ e f. (let k = head-there ed table e in f k.0 k.1)) (λ h15.
    let head = head-there ed table h15 in
    let i = head.1.is-head in
    by_read i (λ x j. sym (head-is i) ∙ head-is j) 16 (table_sections_in (drop 5 table)) (as-sections table z i) (λ x e.
    let there : TableSectionsThere table x = record { head = head.0; is-head = i; sections = (as-sections table z i x).0 e } in
    let two : PlantSections = record { variables = x.variables; equations = x.equations } in
    let zv = (sections-limits table z there).variables.each in
    let ze = (sections-limits table z there).equations.each in
    by_only 17 (plant-answers ed two (of-table there) (first_one table z e) zv ze) (any_left (plant_clauses (PlantSectionsOfTable table)) (last ed table)) (λ p j c.
    let k = plant-is ed x.variables x.equations j in
    let s = switch-sentence ed two (of-table there) (first_one table z e) zv ze j in
    by-ensure 17 (switches_read ed p) (λ f. any-right (plant_clauses (PlantSectionsOfTable table)) (last ed table) (inl (s.0 f))) (λ f. none-of-both (plant_clauses (PlantSectionsOfTable table)) (last ed table) c (only_one (s.1 f))) (λ h17.
    let source : TableSource = record { sections = x; plant = p } in
    let t : SourceThere table source = record { sections = there; variables = (as-variables ed x.variables p.variables zv).0 k.0; equations = (as-equations x.equations p.equations ze).0 k.1 } in
    by-read-test t (λ y u. source_one table z ed t u) 18 (actions_in ed x.actions) (actions_fit ed p) (as-actions table z ed source t) (λ acts f h18.
    let parts : TableActions = record { sections = x; actions = acts } in
    let a : ActionsThere ed table parts = record { plant = p; source = t; actions = (as-actions table z ed source t acts).0 (f, h18) } in
    by-read-test a (λ y u. actions-one table z ed a u) 19 (locations_in ed x.locations) (locations_fit_in acts) (as-locations table z ed parts a) (λ locs g h19. by_end _)))))))
  where
    only_one : {P : Type 0} → (P → ⊥) → P ⊎ ⊥ → ⊥
    only_one h (inl p) = h p
    only_one h (inr q) = q

-- ---- 20 to 22, of a program whose plant is that of an accepted file or table
pub whole-events : (w : ℕ) (events : List ℕ) → (whole_events w events ≡ true) ↔ ((n : ℕ) × (length events ≡ n * w))
unfolding whole_events
whole-events w events = (
  λ h. (let e = eqb-true (length events % w) 0 h in (length events / w, sym (div-add-mod' (length events) w) ∙ ap (λ r. length events / w * w + r) e ∙ add-zero (length events / w * w))),
  λ k. eq-eqb (length events % w) 0 (ap (λ l. l % w) k.1 ∙ mul-mod_left k.0 w),
)

-- p is the plant that is accepted, the only one, and it keeps the printed limits
abbrev pub OnlyPlant : (Plant → Type 0) → Plant → Type 0
OnlyPlant Accepted p = Accepted p × ((q : Plant) → Accepted q → p ≡ q) × PlantLimits p

module _ (ed : Edition) {Accepted : Plant → Type 0} (start events buffer : List ℕ) (z : AllBytes start) where
  pub admission-answers : (p : Plant) → OnlyPlant Accepted p → Answers (judge_admission ed p start events buffer) (run_clauses ed Accepted start events buffer)
  unfolding judge_admission judge_start
  admission-answers p a =
      by-then (by-read-test a.0 a.1 20 (start_in p start) (fits_start p) admitted (λ st i h20. by_end st)) (λ st i.
      by-test a.0 a.1 21 (whole_events ed.event_bytes events) (whole-events ed.event_bytes events) (λ h21.
      by-test a.0 a.1 22 (room_for_records ed p events buffer) (room-for-each ed p events buffer ((whole-events ed.event_bytes events).0 h21)) (λ h22. by_end st)))
    where
      admitted : (st : Start) → ((start_in p start ≡ some st) × (fits_start p st ≡ true)) ↔ WrittenAs start_bytes (StartLimits p) start st
      admitted st =
          let k = StartForms.starts-admitted p a.2 start st in
          (λ i. (let w = k.0 (z, i.0, i.1) in record { bytes = w.0; limits = w.1 }), λ w. (let i = k.1 (w.bytes, w.limits) in (i.1, i.2)))

  pub run-answers : {S : Type 0} {j : Judged (Program S)} {k : List Clause} → Answers j k → ((g : Program S) → j ≡ accepted g → OnlyPlant Accepted g.plant) →
      Answers (judge_run ed j start events buffer) (k ++ run_clauses ed Accepted start events buffer)
  unfolding judge_run
  run-answers f h = by-then f (λ g e. by_map _ (admission-answers g.plant (h g e)))

-- the plant of an accepted table
plant-of : (ed : Edition) (table : List ℕ) {t : Table} → judge_table ed table ≡ accepted t → (p : Plant) → TablePlant ed table p → t.plant ≡ p
plant-of ed table e p (table-plant {t = u} w) = ap (λ (t : Table). t.plant) (accepted-is (sym e ∙ ((table-accepted ed table u).1 w).1))

pub table-run-answers : (ed : Edition) (table start events buffer : List ℕ) → AllBytes table → AllBytes start →
    Answers (judge_run ed (table_program ed table) start events buffer) (table_run_clauses ed table start events buffer)
unfolding table_program
table-run-answers ed table start events buffer z y = run-answers ed start events buffer y (by_map _ (table-answers ed table z)) program
  where
    program : (g : Program ℕ) → table_program ed table ≡ accepted g → OnlyPlant (TablePlant ed table) g.plant
    program g e =
        let a = passed_then (judge_table ed table) _ e in
        let w = (table-accepted ed table a.0).0 (z, a.1) in
        let i : a.0.plant ≡ g.plant = ap (λ (g : Program ℕ). g.plant) (accepted-is a.2) in
        (subst (TablePlant ed table) i (table-plant w), λ p t. sym i ∙ plant-of ed table a.1 p t, subst PlantLimits i w.limits.plant)

-- ---- the numbers that the calls return
pub first-read-table : (ed : Edition) (table : List ℕ) → AllBytes table →
    FirstHolds (read_table_of ed table).refusal (table_clauses ed table) ⊎ (((read_table_of ed table).refusal ≡ 0) × (AnyHolds (table_clauses ed table) → ⊥))
unfolding read_table_of
first-read-table ed table z = rw (table-refusal (judge_table ed table)) (first_or_none (table-answers ed table z))

pub first-run-table : (ed : Edition) (table start events buffer : List ℕ) → AllBytes table → AllBytes start →
    FirstHolds (table_run_of ed table start events buffer).refusal (table_run_clauses ed table start events buffer) ⊎
    (((table_run_of ed table start events buffer).refusal ≡ 0) × (AnyHolds (table_run_clauses ed table start events buffer) → ⊥))
unfolding table_run_of
first-run-table ed table start events buffer z y =
    rw (ran-refusal buffer (judge_run ed (table_program ed table) start events buffer)) (first_or_none (table-run-answers ed table start events buffer z y))

-- A table judged in order: what the answers about its parts make of the whole.
use mathlib.Core.Path.{◌≡◌, refl, sym, ap, subst, ◌∙◌}
use mathlib.Core.Bool.{Bool, true, false}
use mathlib.Core.List.{List}
use mathlib.Core.Option.{some}
use Prim.Native.Nat.{ℕ, ◌≤◌}
use native.Mathlib.Omega.{arith}
use lib.ListN.{length}
use Rattle.semantics.specs.Bytes.{every}
use Rattle.semantics.specs.Editions.{Edition}
use Rattle.semantics.specs.Refusals.{Judged, refused, accepted, with_one_number, ensure, ◌>>◌}
use Rattle.semantics.specs.Sections.{Equation, equations_in}
use Rattle.semantics.specs.Plant.{Plant, judge_plant, switches_read, equation_reads, selectors}
use Rattle.semantics.specs.TableFile.{NodeAction, TableSections}
use Rattle.semantics.specs.Tables.{Table, operands_fit, judge_actions, judge_locations, judge_table_sections, judge_table_layout, judge_table}
use Rattle.semantics.proofs.Judging.{go-then, go-ensure, go-only}
use Rattle.paper.specs.Refusals.{answered}
use Rattle.paper.proofs.Answered.{Accepted, was-refused, was-accepted, refuses-with, accepts-with, stops-then}
use Rattle.codec.specs.Part.{part_of}
use Rattle.plant.specs.ModeCounts.{ModesAt}
use Rattle.plant.specs.Sound.{There}
use Rattle.plant.specs.PlantRead.{accepted_plant}
use Rattle.plant.specs.declared.sections.PlantRead.{PlantRead}
use Rattle.plant.proofs.ModeCounts.{modes-held, modes-full, modes-room}
use Rattle.plant.proofs.PlantLaws.{passed-all, variables-of, variables-high}
use Rattle.table_read.specs.declared.parts.Parts.{Parts}
use Rattle.table_read.specs.declared.actions.Actions.{Actions}
use Rattle.table_read.specs.declared.locations.Locations.{Locations}
use Rattle.table_read.specs.declared.call.TableIndex.{TableIndex}
use Rattle.table_read.specs.TableParts.{parts_in, sections_from, sections_of}
use Rattle.table_read.specs.ActionIndex.{KindsSay, action_index, Indexes}
use Rattle.table_read.specs.OperandForms.{AllFit}
use Rattle.table_read.specs.LocationIndex.{location_index}
use Rattle.table_read.specs.TableIndex.{index_of, table_index}
use Rattle.table_read.proofs.PartsStand.{AllStand, laid_out}
use Rattle.table_read.proofs.ActionsFound.{was_judged, kinds-say}

-- ---- 15 and 16
module _ (ed : Edition) (t : List ℕ) where
  pub by_parts : {n : ℕ} → refused n ≡ answered parts_in (judge_table_layout ed t) → judge_table ed t ≡ refused n
  unfolding judge_table
  by_parts h = stops-then _ (was-refused parts_in _ h)

  module _ {p : Parts} (h : accepted p ≡ answered parts_in (judge_table_layout ed t)) where
    laid : Accepted parts_in (judge_table_layout ed t) p
    laid = was-accepted parts_in _ h

    are : sections_of t ≡ laid.value
    are = (laid_out ed t laid.judged).1

    at : p ≡ parts_in (sections_of t)
    at = laid.is ∙ ap parts_in (sym are)

    pub parts-stand : AllStand t p (sections_of t)
    parts-stand = rw (at, are) (laid_out ed t laid.judged).2

    after-16 : judge_table ed t ≡ judge_table_sections ed (sections_of t)
    unfolding judge_table
    after-16 = go-then _ laid.judged ∙ ap (judge_table_sections ed) (sym are)

    -- the sections that are lent
    pub sections-lent : {vs es ops locs : List ℕ} → vs ≡ part_of p.variables t → es ≡ part_of p.equations t → ops ≡ part_of p.actions t → locs ≡ part_of p.locations t →
        sections_from vs es ops locs ≡ sections_of t
    sections-lent i j k l =
        let s = parts-stand in
        same (i ∙ s.variables.is) (j ∙ s.equations.is) (k ∙ s.actions.is) (l ∙ s.locations.is)
      where
        same : {x y z w : List ℕ} {s : TableSections} → x ≡ s.variables → y ≡ s.equations → z ≡ s.actions → w ≡ s.locations → sections_from x y z w ≡ s
        same h i j k = λ n. record { variables = h n; equations = i n; actions = j n; locations = k n }

    pub by-sections : {s : TableSections} {r : Judged TableIndex} → s ≡ sections_of t → r ≡ answered (index_of ed p s) (judge_table_sections ed s) → r ≡ answered (table_index ed t) (judge_table ed t)
    unfolding table_index
    by-sections e k =
        k ∙ ap (λ s. answered (index_of ed p s) (judge_table_sections ed s)) e ∙ ap (λ p. answered (index_of ed p (sections_of t)) (judge_table_sections ed (sections_of t))) at
        ∙ ap (answered (table_index ed t)) (sym after-16)

-- ---- 17
module _ (ed : Edition) (vs es : List ℕ) {q : PlantRead} (h : accepted q ≡ answered accepted_plant (judge_plant ed vs es)) where
  plant : Accepted accepted_plant (judge_plant ed vs es) q
  plant = was-accepted accepted_plant _ h

  variables-are : q.variables ≡ length plant.value.variables
  variables-are = variables-of plant.value plant.is

  pub few-variables : q.variables ≤ 32
  few-variables = omega (arith, variables-are, variables-high ed vs es plant.judged)

  pub counts-full : length q.modes ≡ 16
  counts-full = modes-full ed vs es plant.judged plant.is

  pub counts-room : q.selectors ≤ length q.modes
  counts-room = modes-room ed vs es plant.judged plant.is

  counts-at : ModesAt q.modes q.selectors (selectors plant.value)
  counts-at = modes-held ed vs es plant.judged plant.is

  pub equations-there : There (equations_in es)
  equations-there = record { value = plant.value.equations; is = (passed-all ed vs es plant.judged).equations }

module _ (ed : Edition) (p : Parts) (vs es ops locs : List ℕ) where
  abbrev judged : Judged Table
  judged = judge_table_sections ed (sections_from vs es ops locs)

  abbrev Answer : Judged TableIndex
  Answer = answered (index_of ed p (sections_from vs es ops locs)) judged

  refuses : {n : ℕ} → judged ≡ refused n → refused n ≡ Answer
  refuses e = refuses-with _ e

  pub by-plant : {n : ℕ} → refused n ≡ answered accepted_plant (judge_plant ed vs es) → refused 17 ≡ Answer
  unfolding judge_table_sections with_one_number
  by-plant h = refuses (stops-then _ (rw (was-refused accepted_plant _ h) refl))

  module _ {q : PlantRead} (h : accepted q ≡ answered accepted_plant (judge_plant ed vs es)) where
    abbrev own : Plant
    own = (plant ed vs es h).value

    abbrev passed-plant : judge_plant ed vs es ≡ accepted own
    passed-plant = (plant ed vs es h).judged

    module _ {b : Bool} (k : (qs : List Equation) → equations_in es ≡ some qs → b ≡ every (equation_reads ed q.variables) qs) where
      switches-are : b ≡ switches_read ed own
      unfolding switches_read
      switches-are = k own.equations (passed-all ed vs es passed-plant).equations ∙ ap (λ n. every (equation_reads ed n) own.equations) (variables-are ed vs es h)

      pub by-switches : b ≡ false → refused 17 ≡ Answer
      unfolding judge_table_sections ensure ◌>>◌
      by-switches e = refuses (go-then _ (go-only 17 passed-plant) ∙ rw (sym switches-are ∙ e) refl)

      -- ---- 18
      module _ (e : b ≡ true) where
        passed-17 : switches_read ed own ≡ true
        passed-17 = sym switches-are ∙ e

        pub by-actions : {n : ℕ} → refused n ≡ answered (action_index ed ops) (judge_actions ed ops) → judged ≡ refused n
        unfolding judge_table_sections
        by-actions y = go-then _ (go-only 17 passed-plant) ∙ go-ensure 17 _ passed-17 ∙ stops-then _ (was-refused (action_index ed ops) _ y)

        module _ {a : Actions} (y : Indexes ed ops a) where
          acts : Accepted (action_index ed ops) (judge_actions ed ops) a
          acts = was-accepted (action_index ed ops) _ y

          module _ {r : Bool} (j : AllFit ed ops q.variables q.selectors q.modes r) where
            operands-are : r ≡ operands_fit ed own acts.value
            operands-are = j own (variables-are ed vs es h) (counts-at ed vs es h) acts.value (was_judged ed ops acts.judged).0

            pub by-operands : r ≡ false → refused 18 ≡ Answer
            unfolding judge_table_sections ensure ◌>>◌
            by-operands f = refuses (go-then _ (go-only 17 passed-plant) ∙ go-ensure 17 _ passed-17 ∙ go-then _ acts.judged ∙ rw (sym operands-are ∙ f) refl)

            -- ---- 19
            module _ (f : r ≡ true) where
              passed-18 : operands_fit ed own acts.value ≡ true
              passed-18 = sym operands-are ∙ f

              kinds : KindsSay acts.value a.kinds
              kinds = subst (λ (a : Actions). KindsSay acts.value a.kinds) (sym acts.is) (kinds-say ed ops (was_judged ed ops acts.judged).1)

              pub by-locations : {n : ℕ} → ((m : List NodeAction) → KindsSay m a.kinds → refused n ≡ answered (location_index ed locs) (judge_locations ed m locs)) → judged ≡ refused n
              unfolding judge_table_sections
              by-locations w = go-then _ (go-only 17 passed-plant) ∙ go-ensure 17 _ passed-17 ∙ go-then _ acts.judged ∙ go-ensure 18 _ passed-18 ∙
                  stops-then _ (was-refused (location_index ed locs) _ (w acts.value kinds))

              pub all-passed : {l : Locations} → ((m : List NodeAction) → KindsSay m a.kinds → accepted l ≡ answered (location_index ed locs) (judge_locations ed m locs)) →
                  accepted (record { parts = p; plant = q; actions = a; locations = l }) ≡ Answer
              unfolding index_of judge_table_sections
              all-passed w =
                  let x = was-accepted (location_index ed locs) _ (w acts.value kinds) in
                  accepts-with (index_of ed p (sections_from vs es ops locs))
                  (go-then _ (go-only 17 passed-plant) ∙ go-ensure 17 _ passed-17 ∙ go-then _ acts.judged ∙ go-ensure 18 _ passed-18 ∙ go-then _ x.judged)
                  (found (plant ed vs es h).is acts.is x.is)
                where
                  found : {q q' : PlantRead} {a a' : Actions} {l l' : Locations} → q ≡ q' → a ≡ a' → l ≡ l' →
                      ◌≡◌ {A = TableIndex} (record { parts = p; plant = q; actions = a; locations = l }) (record { parts = p; plant = q'; actions = a'; locations = l' })
                  found e f g = cc

-- The table that was planned, written section by section, and the comparisons of its numbering.
use mathlib.Core.Path.{◌≡◌, refl, sym, ap, ◌∙◌}
use mathlib.Core.Bool.{Bool}
use mathlib.Core.List.{List, [], ◌++◌, append_assoc}
use Prim.Native.Nat.{ℕ, ◌+◌, ◌-◌, ◌≤◌, ◌<◌}
use native.Mathlib.Omega.{arith}
use lib.ListN.{length, length-append}
use Rattle.semantics.specs.Bytes.{width_of}
use Rattle.semantics.specs.Editions.{Edition}
use Rattle.semantics.specs.Refusals.{accepted}
use Rattle.semantics.specs.TableFile.{NodeAction, in_section2, copied_then, action_section, write_actions, table_head, table_bytes, table_body}
use Rattle.semantics.proofs.Judging.{accepted-is}
use Rattle.semantics.proofs.WrittenTables.{table-length}
use Rattle.schedules.specs.Files.{judge_file}
use Rattle.schedules.specs.Comparisons.{comparisons}
use Rattle.schedules.specs.Compiling.{schedule_locations, schedule_comparisons, table_of, judge_table_of}
use Rattle.schedules.specs.Calls.{file_comparisons}
use Rattle.numbering.specs.Located.{ComparisonsAre}
use Rattle.codec.specs.Part.{part_of}
use Rattle.codec.specs.declared.part.Part.{Part}
use Rattle.schedule_read.specs.Promised.{Slice}
use Rattle.table_write.specs.ActionTable.{actions_to, Operands}
use Rattle.table_write.specs.LocationTable.{section_of, Counted, LocationsPut}
use Rattle.table_write.specs.Pieces.{Put}
use Rattle.table_write.proofs.TableBytes.{front_long, put_then, put_as, actions-long, locations-long}
use Rattle.compiler.specs.Plans.{Planned}
use Rattle.compiler.specs.declared.call.Plan.{Plan}
use Rattle.compiler.proofs.Planning.{slice-length}

part-length : {f x : List ℕ} {p : Part} → Slice f p x → length (part_of p f) ≡ p.end - p.start
part-length g = ap length g.is ∙ slice-length g

regroup : (h a b c d : List ℕ) → ((h ++ (a ++ (b ++ []))) ++ c) ++ d ≡ h ++ (a ++ (b ++ (c ++ d)))
regroup h a b c d = simp append_assoc

module _ {ed : Edition} {f : List ℕ} {p : Plan} (g : Planned ed f p) where
  abbrev vs : List ℕ
  vs = part_of p.index.parts.variables f

  abbrev es : List ℕ
  es = part_of p.index.parts.equations f

  abbrev sch : List ℕ
  sch = part_of p.index.parts.schedule f

  abbrev front : List ℕ
  front = table_head ed p.length ++ copied_then vs es []

  abbrev acts : List NodeAction
  acts = actions_to sch p.acts p.index.nodes.starts p.index.nodes.ends p.index.nodes.count

  -- what its parts are asked for
  pub front_fits : (length vs < 65536) × (length es < 65536) × (p.length < 4294967296)
  front_fits =
      let v = g.promise.variables in
      let e = g.promise.equations in
      (omega (arith, part-length v, v.inside.ends, g.short), omega (arith, part-length e, e.inside.ends, g.short), g.fits)

  pub operands : Operands ed sch p.acts p.index.nodes.starts p.index.nodes.ends p.index.nodes.count
  operands = rw g.promise.schedule.is g.operands

  -- where they stand
  pub front-planned : length front ≡ length vs + length es + 9
  front-planned = front_long ed p.length vs es

  pub list-long : length (action_section (write_actions ed acts)) ≡ p.list.at + width_of ed.width + 2
  list-long = actions-long operands g.list

  -- all of them
  table_is : (front ++ action_section (write_actions ed acts))
      ++ section_of ed p.acts g.schedule.root ≡
      table_of ed g.schedule
  unfolding table_of table_bytes table_body schedule_locations
  table_is =
      let l = action_section (write_actions ed acts) in
      let k = section_of ed p.acts g.schedule.root in
      let e : table_head ed p.length ++ copied_then vs es (l ++ k) ≡ table_of ed g.schedule
      = rw (g.promise.variables.is, g.promise.equations.is, g.promise.schedule.is, g.actions, g.tests, g.whole ∙ table-length ed _ _ _ _) refl in
      regroup (table_head ed p.length) (in_section2 vs) (in_section2 es) l k ∙ e

  pub rows_long : length (section_of ed p.acts g.schedule.root) ≡ p.rows.at + 6
  rows_long = locations-long g.rows

  pub planned-long : p.length ≡ length vs + length es + p.list.at + p.rows.at + 17 + width_of ed.width
  planned-long =
      let l = action_section (write_actions ed acts) in
      omega (
        arith,
        g.whole,
        ap length table_is,
        length-append (front ++ l) (section_of ed p.acts g.schedule.root),
        length-append front l,
        front-planned,
        list-long,
        rows_long,
      )

  -- where the locations stand
  pub counted : {d : List ℕ} {i : ℕ} → i + (p.rows.at + 6) ≤ length d → Counted ed p.index.nodes.kinds p.index.subtrees p.acts p.rows.count p.rows.at d i
  counted h = record { tree = g.schedule.root; has = g.rows; room = omega (arith, rows_long) }

  pub table-written : {d d₁ d₂ d' : List ℕ} {i j r : ℕ} → Put d 0 front d₁ i →
      Put d₁ i (action_section (write_actions ed acts)) d₂ j →
      LocationsPut ed p.index.nodes.kinds p.index.subtrees p.acts p.rows.count p.rows.at d₂ j d' r →
      (t : List ℕ) → judge_table_of ed f ≡ accepted t → Put d 0 t d' r
  table-written a b x t h = put_as (table_is ∙ accepted-is (sym g.judged ∙ h)) (put_then (put_then a b (omega arith)) (x.of g.schedule.root g.rows) (omega arith))

  pub comparisons-made : {n : ℕ} → ComparisonsAre p.index.nodes.kinds p.index.subtrees p.acts n → n ≡ file_comparisons (judge_file ed f)
  unfolding file_comparisons schedule_comparisons
  comparisons-made x = x.is g.schedule.root g.rows.lies ∙ ap (λ (tests : ℕ → Bool). comparisons tests g.schedule.root) g.tests ∙ sym (ap file_comparisons g.promise.judged)

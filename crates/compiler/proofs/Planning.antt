-- What is planned before a table is written, a law for each return.
use mathlib.Core.Path.{◌≡◌, refl, sym, ap, ◌∙◌}
use mathlib.Core.Bool.{true}
use mathlib.Core.List.{List}
use mathlib.Core.Option.{some}
use Prim.Native.Nat.{ℕ, ◌+◌, ◌-◌, ◌*◌, ◌≤◌, ◌<◌}
use native.Mathlib.Nat.{mul-le-mul}
use native.Mathlib.Omega.{arith}
use lib.Dec.{leb}
use lib.ListN.{length, get_or, drop, length-append, length-drop}
use lib.Seq.{length-take-le}
use borrow.Author.Tests.{le-leb, lt-leb, leb-true, eqb-true}
use Rattle.semantics.specs.Bytes.{be2, out, width_of}
use Rattle.std.proofs.Common.{Ok, Err}
use Rattle.semantics.specs.Editions.{Edition}
use Rattle.paper.specs.Refusals.{number_of}
use Rattle.paper.specs.declared.refusals.Refusal.{Refusal}
use Rattle.codec.specs.declared.part.Part.{Part}
use Rattle.semantics.specs.Refusals.{refused, ◌>>=◌, ◌>>◌, ensure}
use Rattle.semantics.specs.TableFile.{NodeAction, location_limit, write_actions, write_action_rows}
use Rattle.semantics.proofs.WrittenTables.{out-length}
use Rattle.edition.proofs.Widths.{width-high}
use Rattle.semantics.proofs.Judging.{go-then, go-ensure}
use Rattle.schedules.specs.Trees.{tree_of}
use Rattle.schedules.specs.Nodes.{actions_of}
use Rattle.schedules.specs.Files.{Schedule, file_length}
use Rattle.schedules.specs.Compiling.{tests_of, schedule_locations, table_of, judge_table_of}
use Rattle.schedules.specs.Sizes.{Size, size_of}
use Rattle.schedules.specs.TableSizes.{rows_length, length_of_parts, table_length_of}
use Rattle.schedules.proofs.Counting.{total}
use Rattle.schedules.proofs.FirstNumber.{passed}
use Rattle.schedules.proofs.LocationCount.{entries_at, locations-counted, few-locations}
use Rattle.schedules.proofs.TableLength.{rows-length, table-of-length}
use Rattle.schedule_read.specs.ScheduleFile.{ScheduleIndexed}
use Rattle.schedule_read.specs.declared.call.ScheduleIndex.{ScheduleIndex}
use Rattle.schedule_read.specs.declared.parts.Parts.{Parts}
use Rattle.schedule_read.specs.Actions.{ActionKinds}
use Rattle.schedule_read.specs.Promised.{Slice}
use Rattle.schedule_read.proofs.Promises.{index-refused}
use Rattle.moves.proofs.Preorder.{laid-ends}
use Rattle.numbering.specs.Meeting.{tests_in}
use Rattle.sizes.specs.Rows.{Measures}
use Rattle.sizes.specs.declared.Over.{Over}
use Rattle.sizes.specs.declared.Size.{Size as Held}
use Rattle.sizes.proofs.Nodes.{laid-weighed}
use Rattle.table_write.specs.ActionTable.{actions_to, Operands, Listed, Measured}
use Rattle.table_write.specs.LocationTable.{Counts}
use Rattle.compiler.specs.Plans.{Found, Planned}
use Rattle.compiler.specs.declared.call.Plan.{Plan}
use Rattle.compiler.proofs.ActionForms.{actions-listed, operands, tests-are}
use Rattle.compiler.proofs.Indexes.{Indexed}

-- 1 to 11, 34 and 12
pub measure-refused : (ed : Edition) (f : List ℕ) {why : Refusal} → ScheduleIndexed ed f (Err why) → judge_table_of ed f ≡ refused (number_of why)
unfolding judge_table_of ◌>>=◌
measure-refused ed f h = rw (index-refused ed f h) refl

-- the file is as long as its length field can say
file-short : (f : List ℕ) → file_length f ≡ true → get_or f 1 0 < 256 → get_or f 2 0 < 256 → length f < 65536
unfolding file_length be2
file-short f e a b = let z = eqb-true (get_or f 1 0 * 256 + get_or f 2 0) (length f) e in omega arith

pub slice-length : {f x : List ℕ} {p : Part} → Slice f p x → length x ≡ p.end - p.start
slice-length {f} {x} {p} g = sym (ap length g.is) ∙ length-take-le (p.end - p.start) (drop p.start f) (omega (arith, length-drop p.start f, g.inside.ordered, g.inside.ends))

-- ---- a schedule that was read, with its size
module _ {ed : Edition} {f : List ℕ} {ix : ScheduleIndex} (g : Indexed ed f ix) where
  abbrev s : Schedule
  s = g.schedule

  abbrev size : ℕ
  size = (size_of s.root).locations

  limit : leb (length (schedule_locations s)) location_limit ≡ leb size location_limit
  unfolding schedule_locations
  limit = few-locations s.nodes (passed ed f s g.promise.judged).tree

  -- 13
  pub measure-over : {o : Over} → Measures ix.nodes.kinds ix.subtrees (Err o) → judge_table_of ed f ≡ refused 13
  unfolding judge_table_of ◌>>◌ ensure
  measure-over x = go-then _ g.promise.judged ∙ rw (limit ∙ lt-leb size location_limit (x.told s.root g.promise.tree).0) refl

  -- at most as many nodes act in a location as there are
  pub found : {m : Held} → Measures ix.nodes.kinds ix.subtrees (Ok m) → get_or f 1 0 < 256 → get_or f 2 0 < 256 → Found ed f ix m
  unfolding judge_table_of
  found {m} x a b =
      let e = x.told s.root g.promise.tree in
      let locations : m.locations ≡ size = ap (λ (z : Size). z.locations) e.0 in
      let entries : m.entries ≡ (size_of s.root).entries = ap (λ (z : Size). z.entries) e.0 in
      let l : size ≤ location_limit = omega (arith, e.1, locations) in
      let n : ix.nodes.count - 0 ≤ 256 = omega (arith, g.promise.nodes.few, ed.entries_fit) in
      record {
        schedule = s;
        promise = g.promise;
        judged = go-then _ g.promise.judged ∙ go-ensure 13 _ (limit ∙ le-leb size location_limit l);
        short = file-short f (passed ed f s g.promise.judged).own_length a b;
        locations = locations;
        entries = entries;
        few = e.1;
        light = omega (arith, mul-le-mul n l, (laid-weighed g.promise.tree_laid).light, entries);
      }

-- ---- its plan
-- so many entries, and the bytes of each
pub entries-short : (ed : Edition) (n : ℕ) → n ≤ 262144 → n * (width_of ed.width + 4) ≤ 1572864
entries-short ed n h = let w : width_of ed.width + 4 ≤ 6 = omega (arith, width-high ed.width) in mul-le-mul h w

-- the length of a table with these copied sections, so many bytes of actions after their count, and so many of rows
abbrev length_in : Edition → Parts → ℕ → ℕ → ℕ
length_in ed q list rows = length_of_parts (q.variables.end - q.variables.start) (q.equations.end - q.equations.start) (width_of ed.width + list) rows

module _ {ed : Edition} {f : List ℕ} {ix : ScheduleIndex} {m : Held} (g : Found ed f ix m) {acts : List ℕ} (e : ActionKinds ix.nodes.kinds ix.nodes.count acts) where
  abbrev t : Schedule
  t = g.schedule

  tree-read : tree_of t.nodes ≡ some t.root
  tree-read = (passed ed f t g.promise.judged).tree

  acts-operands : Operands ed t.sections.schedule acts ix.nodes.starts ix.nodes.ends ix.nodes.count
  acts-operands = operands g.promise.nodes e (passed ed f t g.promise.judged).nodes

  acts-tests : tests_in acts ≡ tests_of t.nodes
  acts-tests = tests-are g.promise.nodes e

  acts-listed : actions_to t.sections.schedule acts ix.nodes.starts ix.nodes.ends ix.nodes.count ≡ actions_of t.nodes
  acts-listed = actions-listed g.promise.nodes e

  pub listed : Listed ed acts ix.nodes.starts ix.nodes.ends ix.nodes.count
  listed = record { section = t.sections.schedule; operands = acts-operands }

  few : length (schedule_locations t) ≤ location_limit
  unfolding schedule_locations
  few = leb-true (length (schedule_locations t)) location_limit (few-locations t.nodes tree-read ∙ le-leb (size_of t.root).locations location_limit (omega (arith, g.few, g.locations)))

  counted : (length (schedule_locations t) ≡ m.locations) × (total entries_at (schedule_locations t) ≡ m.entries)
  unfolding schedule_locations
  counted = let c = locations-counted t.nodes tree-read few in (c.0 ∙ sym g.locations, c.1 ∙ sym g.entries)

  plan-rows : {n bytes : ℕ} → n ≡ m.locations → bytes ≡ rows_length ed m.locations m.entries → Counts ed ix.nodes.kinds ix.subtrees acts n bytes t.root
  unfolding schedule_locations
  plan-rows h k = record {
    lies = g.promise.tree;
    counts = rw acts-tests (counted.0 ∙ sym h);
    sizes = rw acts-tests (rows-length ed (tests_of t.nodes) (schedule_locations t) (schedule_locations t) ∙ rw (counted.0, counted.1) (sym k));
    small = omega (arith, laid-ends g.promise.tree_laid, g.promise.nodes.few);
    few = omega (arith, g.few);
    short = omega (arith, g.few, entries-short ed m.entries g.light);
  }

  -- the table's length, by its parts
  plan-long : {n bytes : ℕ} → Measured ed acts ix.nodes.starts ix.nodes.ends ix.nodes.count n bytes →
      length_in ed ix.parts bytes (rows_length ed m.locations m.entries) ≡ length (table_of ed t)
  unfolding table_length_of write_actions
  plan-long l =
      let b = l.sizes t.sections.schedule acts-operands.each in
      let w = ap (λ (z : List NodeAction). length (write_actions ed z)) acts-listed in
      let l = actions_to t.sections.schedule acts ix.nodes.starts ix.nodes.ends ix.nodes.count in
      let a = length-append (out ed.width (length l)) (write_action_rows ed l) in
      let e = ap (λ (k : ℕ). k * (width_of ed.width + 4)) g.entries in
      omega (arith, table-of-length ed t tree-read few, slice-length g.promise.variables, slice-length g.promise.equations, b, w, a, out-length ed.width (length l), g.locations, e)

pub plan-made : {ed : Edition} {f : List ℕ} {m : Held} (p : Plan) (g : Found ed f p.index m) → ActionKinds p.index.nodes.kinds p.index.nodes.count p.acts →
    Measured ed p.acts p.index.nodes.starts p.index.nodes.ends p.index.nodes.count p.list.count p.list.at →
    p.rows.count ≡ m.locations → p.rows.at ≡ rows_length ed m.locations m.entries →
    (p.length ≡ length_in ed p.index.parts p.list.at p.rows.at) × (p.length < 4294967296) → Planned ed f p
plan-made {ed = ed} p g e l n b k = record {
  schedule = g.schedule;
  promise = g.promise;
  judged = g.judged;
  short = g.short;
  full = e.full;
  tests = acts-tests g e;
  operands = acts-operands g e;
  actions = acts-listed g e;
  list = l;
  rows = plan-rows g e n b;
  fits = k.1;
  whole = k.0 ∙ ap (length_in ed p.index.parts p.list.at) b ∙ plan-long g e l;
}

-- What the index of a schedule file promises to those that run or compile it.
use mathlib.Core.Path.{◌≡◌, sym, ap, subst, ◌∙◌}
use mathlib.Core.List.{List}
use Prim.Native.Nat.{ℕ}
use Rattle.std.proofs.Common.{Ok, Err}
use Rattle.semantics.specs.Editions.{Edition}
use Rattle.semantics.specs.Refusals.{refused, accepted}
use Rattle.semantics.proofs.Judging.{accepted-is, refused-not-accepted}
use Rattle.paper.specs.Refusals.{number_of}
use Rattle.paper.specs.declared.refusals.Refusal.{Refusal}
use Rattle.schedules.specs.Laid.{Laid}
use Rattle.schedules.specs.Files.{Schedule, judge_file_layout, judge_file}
use Rattle.schedules.specs.FileSections.{FileSections}
use Rattle.schedules.proofs.FirstNumber.{passed}
use Rattle.codec.specs.Part.{Inside}
pub use Rattle.schedule_read.specs.Promised.{Slice, Promised}
use Rattle.schedule_read.specs.FileParts.{sections_at}
use Rattle.schedule_read.specs.ScheduleFile.{Opened, ScheduleIndexed}
use Rattle.schedule_read.specs.declared.call.ScheduleIndex.{ScheduleIndex}
use Rattle.schedule_read.specs.declared.parts.Parts.{Parts}
use Rattle.plant.specs.declared.sections.PlantRead.{PlantRead}
use Rattle.tree_read.specs.Ends.{TreeAt}
use Rattle.tree_read.specs.declared.nodes.Nodes.{Nodes}
use Rattle.tree_read.proofs.OneAnswer.{one_answer}
use Rattle.schedule_read.proofs.FoundNodes.{found-nodes}
use Rattle.schedule_read.proofs.PartsStand.{laid_out, accepted-parts}

-- ---- refused or not
module _ (ed : Edition) (f : List ℕ) where
  pub index-refused : {why : Refusal} → ScheduleIndexed ed f (Err why) → judge_file ed f ≡ refused (number_of why)
  index-refused h = h.at

  pub index-schedule : {ix : ScheduleIndex} → ScheduleIndexed ed f (Ok ix) → (s : Schedule) × (judge_file ed f ≡ accepted s)
  index-schedule h = (h.at.0, h.at.1)

-- ---- an accepted file
module _ (ed : Edition) (f : List ℕ) {ix : ScheduleIndex} (h : ScheduleIndexed ed f (Ok ix)) {s : Schedule} (e : judge_file ed f ≡ accepted s) where
  opened : Opened ed s ix
  opened = subst (λ s. Opened ed s ix) (accepted-is (sym h.at.1 ∙ e)) h.at.2

  layout : judge_file_layout ed f ≡ accepted s.sections
  layout = let a = passed ed f s e in laid_out ed f (record { header = a.header; length_field = a.own_length }) a.parts

  sections-at : sections_at f ix.parts ≡ s.sections
  sections-at = ap (sections_at f) opened.parts ∙ accepted-is (sym (accepted-parts ed f layout).are ∙ layout)

  variables-slice : Slice f ix.parts.variables s.sections.variables
  unfolding sections_at
  variables-slice = record { inside = subst (λ (p : Parts). Inside p.variables f) (sym opened.parts) (accepted-parts ed f layout).variables; is = ap (λ (x : FileSections). x.variables) sections-at }

  equations-slice : Slice f ix.parts.equations s.sections.equations
  unfolding sections_at
  equations-slice = record { inside = subst (λ (p : Parts). Inside p.equations f) (sym opened.parts) (accepted-parts ed f layout).equations; is = ap (λ (x : FileSections). x.equations) sections-at }

  schedule-slice : Slice f ix.parts.schedule s.sections.schedule
  unfolding sections_at
  schedule-slice = record { inside = subst (λ (p : Parts). Inside p.schedule f) (sym opened.parts) (accepted-parts ed f layout).schedule; is = ap (λ (x : FileSections). x.schedule) sections-at }

  pub promised : Promised ed f ix s
  promised =
      let a = passed ed f s e in
      let at = found-nodes ed s.sections.schedule opened.nodes a.nodes in
      let tree = opened.subtrees in
      record {
        judged = e;
        variables = variables-slice;
        equations = equations-slice;
        schedule = schedule-slice;
        plant = opened.plant;
        plant_judged = a.plant;
        nodes = at;
        tree = tree.lies;
        tree_laid = subst (Laid ix.nodes.kinds ix.subtrees s.root 0) tree.whole tree.lies.laid;
        ends_full = tree.full;
      }

-- ---- a file has one index: the contract leaves nothing of it open
same_index : {p p' : Parts} {q q' : PlantRead} {n n' : Nodes} {t t' : List ℕ} → p ≡ p' → q ≡ q' → n ≡ n' → t ≡ t' → ◌≡◌ {A = ScheduleIndex} (record { parts = p; plant = q; nodes = n; subtrees = t }) (record { parts = p'; plant = q'; nodes = n'; subtrees = t' })
same_index b c d e = cc

pub one_index : (ed : Edition) (f : List ℕ) {x y : ScheduleIndex} → ScheduleIndexed ed f (Ok x) → ScheduleIndexed ed f (Ok y) → x ≡ y
one_index ed f {x} {y} a b =
    let i = opened ed f a b.at.1 in
    let k = b.at.2 in
    let nodes : x.nodes ≡ y.nodes = i.nodes ∙ sym k.nodes in
    let tree = subst (λ (n : Nodes). TreeAt n.kinds n.count b.at.0.root x.subtrees) nodes i.subtrees in
    same_index (i.parts ∙ sym k.parts) (i.plant ∙ sym k.plant) nodes (one_answer tree k.subtrees)

-- or one number, and then no index
pub one-refusal : (ed : Edition) (f : List ℕ) {why : Refusal} {x : ScheduleIndex} {C : Type 0} → ScheduleIndexed ed f (Err why) → ScheduleIndexed ed f (Ok x) → C
one-refusal ed f a b = refused-not-accepted (sym a.at ∙ b.at.1)

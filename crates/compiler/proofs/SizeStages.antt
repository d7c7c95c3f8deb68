-- The call "size of a schedule", a law for each return.
use mathlib.Core.Path.{◌≡◌, refl, sym, ap, subst, ◌∙◌}
use mathlib.Core.List.{List}
use Prim.Native.Nat.{ℕ, ◌≤◌}
use borrow.Author.Tests.{le-leb, lt-leb}
use Rattle.std.proofs.Common.{Ok, Err}
use Rattle.semantics.specs.Editions.{Edition}
use Rattle.semantics.specs.TableFile.{location_limit}
use Rattle.schedules.specs.Sizes.{Size, size_of}
use Rattle.schedules.specs.Calls.{size_counts, size}
use Rattle.schedules.proofs.SizeCall.{told-exact, told_over, size-accepted}
use Rattle.schedule_read.specs.ScheduleFile.{ScheduleIndexed}
use Rattle.schedule_read.specs.declared.call.ScheduleIndex.{ScheduleIndex}
use Rattle.schedule_read.proofs.Promises.{index-refused}
use Rattle.sizes.specs.Rows.{Measures}
use Rattle.sizes.specs.declared.Over.{Over}
use Rattle.sizes.specs.declared.Size.{Size as Held}
use Rattle.paper.specs.declared.refusals.Refusal.{Refusal}
use Rattle.compiler.specs.Answers.{sized, told_size}
use Rattle.compiler.proofs.Indexes.{Indexed}

pub size-refused : (ed : Edition) (f : List ℕ) {why : Refusal} → ScheduleIndexed ed f (Err why) → told_size (Err why) ≡ size ed f
unfolding size size_counts
size-refused ed f h = rw (index-refused ed f h) refl

module _ {ed : Edition} {f : List ℕ} {ix : ScheduleIndex} (g : Indexed ed f ix) where
  pub size-over : {o : Over} → Measures ix.nodes.kinds ix.subtrees (Err o) → sized 0 1025 0 ≡ size ed f
  size-over x =
      let s = size_of g.schedule.root in
      sym (size-accepted ed f g.promise.judged ∙ told_over s (lt-leb s.locations location_limit (x.told g.schedule.root g.promise.tree).0))

  pub size_exact : {m : Held} → Measures ix.nodes.kinds ix.subtrees (Ok m) → sized 0 m.locations m.entries ≡ size ed f
  size_exact x =
      let s = size_of g.schedule.root in
      let e = x.told g.schedule.root g.promise.tree in
      ap (λ (z : Size). sized 0 z.locations z.entries) e.0
      ∙ sym (size-accepted ed f g.promise.judged ∙ told-exact s (le-leb s.locations location_limit (subst (λ (z : Size). z.locations ≤ location_limit) e.0 e.1)))

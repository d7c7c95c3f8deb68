-- After some draws the generator has the seed after them, and the list of their events is written.
use Rattle.std.proofs.Common.{◌≡◌, ◌*◌, length}
use Rattle.semantics.specs.Practice.{practice_list}
use Rattle.semantics.proofs.PracticeCall.{seed_after}
use Rattle.codec.specs.Writing.{Wrote}
use Rattle.practice.proofs.events.put_list.Given as goal

abbrev pub invariant-loop : goal.invariant-loop
invariant-loop l = (l.at ≡ 3 * l.counter) × (length l.d ≡ length l.initial.d) × (l.generator.seed ≡ seed_after l.seed l.counter) × Wrote l.initial.d 0 (practice_list l.seed l.counter) l.d

-- The paper's numbers of the answers are those of what was read.
use mathlib.Core.Path.{◌≡◌, refl, sym, ap, ◌∙◌}
use mathlib.Core.Bool.{Bool, true, false}
use mathlib.Core.List.{List}
use mathlib.Core.Option.{Option, none, some}
use Prim.Native.Nat.{ℕ}
use Rattle.std.specs.Prelude.{Option as Answer, Some, None}
use lib.ListN.{drop}
use Rattle.semantics.specs.Bytes.{Reader}
use Rattle.semantics.specs.Refusals.{accepted, ◌>>=◌, ◌>>◌, ensure, need, refusal_of}
use Rattle.semantics.specs.Plant.{judge_named}
use Rattle.codec.specs.Reading.{Took, Reads}
use Rattle.codec.proofs.Reading.{taken, lost}
use Rattle.plant.specs.Equations.{Says, view, seen, read_value, StepSays, SeenSays}
use Rattle.plant.specs.PaperNumbers.{paper_named, paper_step, paper_seen}
use Rattle.plant.specs.declared.equations.Step.{Step}

-- 7 or 0, by the test of the names
number-named : {A : Type 0} (a : A) (x : Bool) → paper_named x ≡ refusal_of (ensure 7 x >> accepted a)
unfolding paper_named refusal_of ensure ◌>>◌
number-named a true = refl
number-named a false = refl

pub step-says : {A : Type 0} {r : Reader A} {P : A → Bool} {s : List ℕ} {p : ℕ} {w : Answer Step} → Reads r (Says P) s p (view w) → StepSays r P s p w
unfolding paper_step refusal_of need read_value ◌>>=◌
step-says {r = r} {P = P} {s = s} {p = p} {w = w} h = record { reads = h; number = go w h }
  where
    go : (w : Answer Step) → Reads r (Says P) s p (view w) → paper_step w ≡ refusal_of (judge_named P (read_value (r (drop p s))))
    go (Some w) h =
        let t : Took r (Says P) s p w.end w.named = taken h refl in
        number-named t.value w.named ∙ ap (λ (b : Bool). refusal_of (ensure 7 b >> accepted t.value)) t.means ∙ sym (ap (λ z. refusal_of (judge_named P (read_value z))) t.got)
    go None h = sym (ap (λ z. refusal_of (judge_named P (read_value z))) (lost h refl))

pub seen-says : {A : Type 0} {P : A → Bool} {o : Option A} {w : Answer Bool} → w ≡ seen P o → SeenSays P o w
unfolding seen paper_seen refusal_of need ◌>>=◌
seen-says {A} {P} {o} e = record { is = e; number = ap paper_seen e ∙ go o }
  where
    go : (o : Option A) → paper_seen (seen P o) ≡ refusal_of (judge_named P o)
    go none = refl
    go (some a) = number-named a (P a)

-- The parts of the equation section, read by position: what each is, from what its parts are.
use mathlib.Core.Path.{◌≡◌, refl, sym, ap₂, subst, ◌∙◌}
use mathlib.Core.Bool.{Bool, true, false, ◌&&◌}
use mathlib.Core.List.{List}
use mathlib.Core.Option.{Option, none, some}
use Prim.Native.Nat.{ℕ, ◌+◌, ◌-◌, ◌≤◌, ◌<◌}
use native.Mathlib.Omega.{arith}
use borrow.Author.Tests.{le-leb, lt-leb}
use Rattle.std.specs.Prelude.{Option as Answer, Some, None}
use lib.Dec.{ltb}
use lib.ListN.{length, get_or, take, drop}
use Rattle.semantics.specs.Bytes.{every, Reader, give, times, section2}
use Rattle.semantics.specs.Bytes as Bytes
use Rattle.paper.specs.Refusals.{answered}
use Rattle.semantics.specs.Refusals.{refused, accepted, need, ensure, ◌>>=◌, ◌>>◌}
use Rattle.semantics.specs.Sections.{Equation, read_rate, read_switch, read_equation, read_equations, equation_in_bytes, equations_in}
use Rattle.semantics.specs.Plant.{rate_named, switch_named, equation_named, judge_equations}
use Rattle.semantics.proofs.Facts.{within_both}
use Rattle.codec.specs.Reading.{Took, Reads, reads_at, reads_none}
use Rattle.codec.proofs.Reading.{taken, lost, broke, then-took, then-byte, no_byte, then-bytes, no_bytes, then-int4, no-int4, then-guard, no-guard, gives, lifts, no-lift, either, within-above, none_kept}
use Rattle.codec.specs.Ends.{end_of}
use Rattle.codec.proofs.Sections.{Section, cuts2, ended, not-ended}
use Rattle.codec.proofs.Loops.{loop-start, loop-next, loop-broken, loop-end, every-snoc}
use Rattle.plant.specs.Equations.{Says, StepSays, view, seen, SoFar, at_first, and_next, Several, all_read, one_broken}
use Rattle.plant.specs.declared.equations.Step.{Step}

-- a value that is made of another, with the answer of that
pub made : {A B X : Type 0} {r : Reader A} (g : A → B) {K : A → X → Type 0} {L : B → X → Type 0} {s : List ℕ} {p : ℕ} {w : Option (ℕ × X)} → ((a : A) (x : X) → K a x → L (g a) x) → Reads r K s p w → Reads (Bytes.◌>>=◌ r (λ a. give (g a))) L s p w
unfolding Bytes.◌>>=◌ Bytes.and_then
made g h (reads_at t) = then-took _ t (gives (g t.value) t.inside (h t.value _ t.means))
made g h (reads_none e) = reads_none (rw e refl)

-- ---- a rate, and a switch
module _ (s : List ℕ) (p variables : ℕ) where
  pub rate-there : p + 5 ≤ length s → Reads read_rate (Says (rate_named variables)) s p (some (p + 5, ltb (get_or s p 0) variables))
  unfolding read_rate rate_named
  rate-there h =
      let e : p + 5 ≡ p + 1 + 4 = omega arith in
      rw e (then-byte _ (omega arith) (then-int4 _ (omega arith) (gives _ (omega arith) refl)))

  pub rate-short : p ≤ length s → length s < p + 5 → Reads read_rate (Says (rate_named variables)) s p none
  unfolding read_rate
  rate-short i h = either p (length s) (λ l. then-byte _ l (no-int4 _ (omega arith) (omega arith))) (λ l. no_byte _ l)

module _ (s : List ℕ) (p modes : ℕ) (i : p < length s) where
  pub switch-there : 1 ≤ get_or s p 0 → p + 1 + get_or s p 0 ≤ length s → Reads read_switch (Says (switch_named modes)) s p (some (p + 1 + get_or s p 0, ltb (get_or s (p + 1) 0) modes))
  unfolding read_switch switch_named
  switch-there g h =
      let e : p + 1 + get_or s p 0 ≡ p + 1 + 1 + (get_or s p 0 - 1) = omega arith in
      rw e (then-byte _ i (then-guard _ _ (le-leb 1 (get_or s p 0) (omega arith)) (then-byte _ (omega arith) (then-bytes _ _ (omega arith) (gives _ (omega arith) refl)))))

  pub switch-empty : get_or s p 0 < 1 → Reads read_switch (Says (switch_named modes)) s p none
  unfolding read_switch
  switch-empty h = then-byte _ i (no-guard _ _ (lt-leb 1 (get_or s p 0) h))

  pub switch-short : 1 ≤ get_or s p 0 → length s < p + 1 + get_or s p 0 → Reads read_switch (Says (switch_named modes)) s p none
  unfolding read_switch
  switch-short g h =
      then-byte _ i (then-guard _ _ (le-leb 1 (get_or s p 0) g)
      (either (p + 1) (length s) (λ m. then-byte _ m (no_bytes _ _ (omega arith) (omega arith))) (λ m. no_byte _ m)))

-- ---- an equation, in a section that ends at q
seen-some : {A : Type 0} {P : A → Bool} (o : Option A) {x : Bool} → Some x ≡ seen P o → (a : A) × (o ≡ some a) × (x ≡ P a)
unfolding seen
seen-some none h = cc
seen-some (some a) h = (a, refl, cc)

seen-none : {A : Type 0} (P : A → Bool) (o : Option A) → None ≡ seen P o → o ≡ none
unfolding seen
seen-none P none h = refl
seen-none P (some a) h = cc

module _ (s : List ℕ) (p variables : ℕ) (h : p ≤ length s) where
  pub equation-cut : None ≡ end_of section2 s p → Reads read_equation (Says (equation_named variables)) s p none
  unfolding read_equation
  equation-cut e = let missing : Reads {X = Bool} section2 (λ b x. Unit {0}) s p none = reads_none (not-ended cuts2 s p h e) in broke _ missing refl

  module _ {q : ℕ} (e : Some q ≡ end_of section2 s p) {w : Answer Bool} (k : w ≡ seen (equation_named variables) (equation_in_bytes (take (q - (p + 2)) (drop (p + 2) s)))) where
    part : Section 2 section2 s p q
    part = ended cuts2 s p h e

    took : Took {X = Bool} section2 (λ b x. Unit {0}) s p q true
    took = record { value = part.value; got = part.got; inside = part.inside; means = tt }

    pub equation-kept : {x : Bool} → w ≡ Some x → Reads read_equation (Says (equation_named variables)) s p (some (q, x))
    unfolding read_equation took part
    equation-kept g =
        let j = seen-some _ (sym g ∙ rw part.stands at k) in
        then-took _ took (lifts _ part.inside j.1 j.2)

    pub equation-lost : w ≡ None → Reads read_equation (Says (equation_named variables)) s p none
    unfolding read_equation took part
    equation-lost g = then-took _ took (no-lift _ (seen-none (equation_named variables) _ (sym g ∙ rw part.stands at k)))

-- ---- n of them, each with its names
pub ends-inside : {A : Type 0} {r : Reader A} {P : A → Bool} {s : List ℕ} {p : ℕ} {w : Step} → StepSays r P s p (Some w) → w.end ≤ length s
ends-inside h = (taken h.reads refl).inside

pub all-read : {one : ℕ → Answer Step → Type 0} {at i n : ℕ} {w : Step} → SoFar one at i w → i ≡ n → Several one at n (Some w)
all-read {one} {at} {w = w} t e = all_read (subst (λ m. SoFar one at m w) e t)

module _ {A : Type 0} (r : Reader A) (P : A → Bool) (s : List ℕ) {one : ℕ → Answer Step → Type 0} {at : ℕ} (i : at ≤ length s) (f : (p : ℕ) (w : Answer Step) → p ≤ length s → one p w → StepSays r P s p w) where
  so_far : {n : ℕ} {w : Step} → SoFar one at n w → Took (times n r) (Says (every P)) s at w.end w.named
  unfolding every
  so_far at_first = loop-start r (Says (every P)) (Says P) s at refl i
  so_far (and_next {i = n} {w} {v} t k) =
      let u = so_far t in
      loop-next r (Says (every P)) (Says P) s at n u (taken (f w.end (Some v) u.inside k).reads refl) (λ l a m o. ap₂ ◌&&◌ m o ∙ sym (every-snoc P l a))

  pub several-read : {n : ℕ} {w : Answer Step} → Several one at n w → Reads (times n r) (Says (every P)) s at (view w)
  several-read (all_read t) = loop-end r (Says (every P)) (Says P) s at (so_far t) refl
  several-read (one_broken {i = m} {w} t h k) = let u = so_far t in loop-broken r (Says (every P)) (Says P) s at m u (lost (f w.end None u.inside k).reads refl) h

-- ---- the whole section
module _ (s : List ℕ) (variables : ℕ) where
  pub broken_judged : equations_in s ≡ none → refused 6 ≡ answered (λ (es : List Equation). tt {0}) (judge_equations variables s)
  unfolding judge_equations need ◌>>=◌
  broken_judged e = rw e refl

  module _ {es : List Equation} (e : equations_in s ≡ some es) {x : Bool} (n : x ≡ every (equation_named variables) es) where
    pub named_judged : x ≡ true → accepted (tt {0}) ≡ answered (λ (es : List Equation). tt {0}) (judge_equations variables s)
    unfolding judge_equations need ensure ◌>>=◌ ◌>>◌
    named_judged h = rw (e, ← n, h) refl

    pub unnamed_judged : x ≡ false → refused 7 ≡ answered (λ (es : List Equation). tt {0}) (judge_equations variables s)
    unfolding judge_equations need ensure ◌>>=◌ ◌>>◌
    unnamed_judged h = rw (e, ← n, h) refl

-- the count, then that many equations
pub section-reads : {X : Type 0} {K : List Equation → X → Type 0} {s : List ℕ} {w : Option (ℕ × X)} → 0 < length s → get_or s 0 0 ≤ 16 → Reads (times (get_or s 0 0) read_equation) K s 1 w → Reads read_equations K s 0 w
unfolding read_equations
section-reads i h k = then-byte _ i (then-guard _ _ (within_both 0 16 _ (omega arith) h) k)

module _ (s : List ℕ) where
  pub section-empty : length s < 1 → equations_in s ≡ none
  unfolding equations_in read_equations
  section-empty h = none_kept {K = λ es x. Unit {0}} (no_byte {X = ℕ} _ (omega arith)) refl

  pub section-long : 0 < length s → 16 < get_or s 0 0 → equations_in s ≡ none
  unfolding equations_in read_equations
  section-long i h = none_kept {K = λ es x. Unit {0}} (then-byte {X = ℕ} _ i (no-guard _ _ (within-above 0 16 _ h))) refl

-- The answer about an equation section, from that of `check` and what was noted of it.
use mathlib.Core.Path.{◌≡◌, refl}
use mathlib.Core.Bool.{Bool, true, false}
use mathlib.Core.List.{List, []}
use mathlib.Core.Option.{Option, none, some}
use Prim.Native.Nat.{ℕ, ◌<◌}
use lib.IntN.{ℤ, pos}
use lib.ListN.{length, get_or, replicate}
use Rattle.paper.specs.Refusals.{answered}
use Rattle.semantics.specs.Bytes.{every, times}
use Rattle.semantics.specs.Refusals.{accepted, need, ensure, ◌>>=◌, ◌>>◌}
use Rattle.semantics.specs.Sections.{Equation, read_equation, equations_in}
use Rattle.semantics.specs.Plant.{rates_of, rate_among, equation_named, judge_equations}
use Rattle.plant.specs.Equations.{each, accepted_equations, rates_steady, Stands, SectionStands}
use Rattle.plant.specs.declared.equations.Equations.{Equations}
use Rattle.plant.proofs.EquationCases.{section-at, equations_stand}

-- a section with no refusal
pub record Taken (s : List ℕ) (variables : ℕ) : Type 0 where
  pub section : SectionStands s
  pub named : every (equation_named variables) section.equations ≡ true
  pub judged : judge_equations variables s ≡ accepted section.equations

pub taken-by : {B : Type 0} (s : List ℕ) (variables : ℕ) (f : List Equation → B) {b : B} → accepted b ≡ answered f (judge_equations variables s) → Taken s variables
unfolding judge_equations need ensure ◌>>=◌ ◌>>◌
taken-by {B} s variables f {b} h = go (equations_in s) refl h
  where
    both : (es : List Equation) (b' : Bool) → equations_in s ≡ some es → every (equation_named variables) es ≡ b' → accepted b ≡ answered f (ensure 7 b' >> accepted es) → Taken s variables
    both es true i j k = record { section = record { equations = es; read = i }; named = j; judged = rw (i, j) refl }
    both es false i j k = cc

    go : (o : Option (List Equation)) → equations_in s ≡ o → accepted b ≡ answered f (need 6 o >>= (λ es. ensure 7 (every (equation_named variables) es) >> accepted es)) → Taken s variables
    go none i k = cc
    go (some es) i k = both es (every (equation_named variables) es) i refl k

-- before the first equation
pub no-rates : replicate 32 (pos 0) ≡ rates_steady []
unfolding each rate_among rates_of
no-rates = refl

module _ (s : List ℕ) (variables : ℕ) (t : Taken s variables) where
  pub some_byte : 0 < length s
  some_byte = (section-at s t.section.read).some_byte

  pub all-stand : Stands (times (get_or s 0 0) read_equation) s 1
  all-stand = equations_stand s t.section

  pub answer-taken : {e : Equations} {rates : List ℤ} → ((t : SectionStands s) → rates ≡ rates_steady t.equations → e ≡ accepted_equations t.equations) → ((t : Stands (times (get_or s 0 0) read_equation) s 1) → rates ≡ rates_steady t.value) →
      accepted e ≡ answered accepted_equations (judge_equations variables s)
  answer-taken f g = rw (t.judged, f t.section (g (equations_stand s t.section))) refl

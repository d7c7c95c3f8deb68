-- The loops over switches, modes and equations that ask one test of each: the place after a turn, and 12 of what it takes.
use mathlib.Core.Path.{◌≡◌, sym, ap, ◌∙◌}
use mathlib.Core.Bool.{Bool, true, false}
use mathlib.Core.List.{List, []}
use mathlib.Core.Option.{some}
use Prim.Native.Nat.{ℕ, ◌+◌, ◌-◌, ◌*◌, ◌≤◌, ◌<◌}
use native.Mathlib.Omega.{arith}
use lib.ListN.{length, get_or, take, drop}
use Rattle.semantics.specs.Bytes.{every, is_some, read, times}
use Rattle.semantics.specs.Editions.{Edition}
use Rattle.semantics.specs.Expressions.{truth_in}
use Rattle.semantics.specs.Sections.{Switch, Mode, Equation, read_switch, read_mode, read_equation, equation_in_bytes, equations_in}
use Rattle.semantics.specs.Plant.{switch_reads, equation_reads, mode_reads}
use Rattle.codec.proofs.Reading.{nat2_at}
use Rattle.semantics.specs.Writing.{write_mode}
use Rattle.plant.specs.Equations.{Stands}
use Rattle.plant.specs.Sound.{There, Sound}
use Rattle.plant.proofs.Walks.{SwitchAt, switch-at, ModeAt, mode-at, past-mode, Shape, is_steady, is_choice, shape_of, not-both, EquationAt, equation-at, lent_is, lent-inside, lent-end, section-at}
use Rattle.plant.proofs.Turns.{Turns, turn, turns-false, turns_next}

-- ---- switches
module _ {f : Edition → Switch → Bool} {s : List ℕ} {from k p i : ℕ} (t : Turns read_switch f s from k p i) (h : i < k) where
  switch : SwitchAt s p (turn t h).head (turn t h).mid
  switch = switch-at s p (turn t h).first

  pub switch-low : 1 ≤ get_or s p 0
  switch-low = switch.low

  pub switch-inside : p + 1 + get_or s p 0 ≤ length s
  switch-inside = switch.inside

  pub switches-next : ((ed : Edition) → f ed (turn t h).head ≡ true) → Turns read_switch f s from k (p + 1 + get_or s p 0) (i + 1)
  switches-next x = turns_next t h x (p + 1 + get_or s p 0) switch.end switch.inside

  -- the slice that is lent is the switch's truth
  pub switch-reads : (ed : Edition) (variables : ℕ) {r : Bool} → r ≡ is_some (truth_in ed variables (take (p + 1 + get_or s p 0 - (p + 2)) (drop (p + 2) s))) → r ≡ switch_reads ed variables (turn t h).head
  unfolding switch_reads
  switch-reads ed variables e =
      let k : p + 2 ≡ p + 1 + 1 = omega arith in
      e ∙ ap (λ l. is_some (truth_in ed variables l)) (ap (λ q. take (p + 1 + get_or s p 0 - q) (drop q s)) k ∙ sym switch.truth_is)

-- ---- modes
module _ {f : Edition → Mode → Bool} {s : List ℕ} {from n p i : ℕ} (t : Turns read_mode f s from n p i) (h : i < n) where
  mode : ModeAt s p (turn t h).head (turn t h).mid
  mode = mode-at s p (turn t h).first

  pub mode-before : p < length s
  mode-before = mode.before

  pub mode-between : p + 1 + 5 * get_or s p 0 < length s
  mode-between = mode.between

  pub mode-switches : Sound (times (get_or s (p + 1 + 5 * get_or s p 0) 0) read_switch) s (p + 1 + 5 * get_or s p 0 + 1)
  mode-switches = let b = mode.between in record { value = (turn t h).head.switches; end = (turn t h).mid; got = mode.switches_got; inside = omega arith }

  pub mode-reads : (ed : Edition) (variables : ℕ) {r : Bool} → ((ss : List Switch) (e : List ℕ) → times (get_or s (p + 1 + 5 * get_or s p 0) 0) read_switch (drop (p + 1 + 5 * get_or s p 0 + 1) s) ≡ read ss e → r ≡ every (switch_reads ed variables) ss) → r ≡ mode_reads ed variables (turn t h).head
  unfolding mode_reads
  mode-reads ed variables u = u (turn t h).head.switches (turn t h).mid mode.switches_got

  pub mode-there : Stands read_mode s p
  mode-there = record { value = (turn t h).head; rest = (turn t h).mid; got = (turn t h).first }

  pub modes-next : ((ed : Edition) → f ed (turn t h).head ≡ true) → (q : ℕ) → ((t : Stands read_mode s p) → q ≡ p + length (write_mode t.value)) → Turns read_mode f s from n q (i + 1)
  modes-next x q u = let w = past-mode s p t.inside (turn t h).first u in turns_next t h x q w.0 w.1

-- ---- one equation
module _ (ed : Edition) (variables : ℕ) (s : List ℕ) where
  pub steady-reads : get_or s 0 0 ≡ 1 → (q : Equation) → equation_in_bytes s ≡ some q → true ≡ equation_reads ed variables q
  unfolding equation_reads
  steady-reads k q h = go (shape_of s h).1
    where
      go : Shape s q → true ≡ equation_reads ed variables q
      go (is_steady x e j g) = sym (ap (equation_reads ed variables) j)
      go (is_choice c e j i g) = not-both (get_or s 0 0) k e

  pub choice-reads : (get_or s 0 0 ≡ 1 → ⊥) → {r : Bool} → ((ms : List Mode) (e : List ℕ) → times (get_or s 2 0) read_mode (drop (1 + 1 + 1) s) ≡ read ms e → r ≡ every (mode_reads ed variables) ms) → (q : Equation) → equation_in_bytes s ≡ some q → r ≡ equation_reads ed variables q
  unfolding equation_reads mode_reads
  choice-reads k {r} u q h = go (shape_of s h).1
    where
      go : Shape s q → r ≡ equation_reads ed variables q
      go (is_steady x e j g) = absurd (k e)
      go (is_choice c e j i g) = u c.modes [] g ∙ sym (ap (equation_reads ed variables) j)

-- ---- all equations
pub section-sound : (s : List ℕ) → There (equations_in s) → Sound (times (get_or s 0 0) read_equation) s 1
section-sound s n = let k = section-at s n.is in record { value = n.value; end = []; got = k.got; inside = k.inside }

module _ {f : Edition → Equation → Bool} {s : List ℕ} {n p i : ℕ} (t : Turns read_equation f s 1 n p i) (h : i < n) where
  equation : EquationAt s p (turn t h).head (turn t h).mid
  equation = equation-at s p t.inside (turn t h).first

  pub equation-ends : p + 2 + nat2_at s p ≤ length s
  equation-ends = equation.inside

  -- m is its length
  module _ {m : ℕ} (x : m ≡ nat2_at s p) where
    pub slice_inside : p + 2 + m ≤ length s
    slice_inside = lent-inside equation x

    pub slice-there : There (equation_in_bytes (take (p + 2 + m - (p + 2)) (drop (p + 2) s)))
    slice-there = record { value = (turn t h).head; is = lent_is equation x }

    module _ {r : Bool} (u : (ed : Edition) (q : Equation) → equation_in_bytes (take (p + 2 + m - (p + 2)) (drop (p + 2) s)) ≡ some q → r ≡ f ed q) where
      pub equations-false : r ≡ false → (ed : Edition) (l : List Equation) (e : List ℕ) → times n read_equation (drop 1 s) ≡ read l e → false ≡ every (f ed) l
      equations-false e ed = turns-false t h ed (sym (u ed (turn t h).head (lent_is equation x)) ∙ e)

      pub equations-next : r ≡ true → Turns read_equation f s 1 n (p + 2 + m) (i + 1)
      equations-next e = turns_next t h (λ ed. sym (u ed (turn t h).head (lent_is equation x)) ∙ e) (p + 2 + m) (lent-end equation x) slice_inside

-- 20 never refuses the start that a file itself gives.
use mathlib.Core.Path.{◌≡◌, refl, sym, ap}
use mathlib.Core.Bool.{true, false}
use mathlib.Core.List.{List, [], ◌∷◌, map, flat_map}
use mathlib.Core.Option.{some}
use Prim.Native.Nat.{ℕ}
use borrow.Author.Tests.{leb-true, le-ltb}
use lib.Dec.{ltb}
use lib.IntN.{ℤ, pos, negsuc}
use lib.Signed.{le_z, lt_z}
use lib.ListN.{length}
use Rattle.semantics.specs.Bytes.{All, all_nil, all_cons, byte, int4, times}
use Rattle.semantics.specs.Editions.{Edition}
use Rattle.semantics.specs.Expressions.{ok, fits32, ranged, then_value}
use Rattle.semantics.specs.Refusals.{accepted}
use Rattle.semantics.specs.Sections.{Variable, Selector, Equation, steady, choice}
use Rattle.semantics.specs.Plant.{Plant, ordered, equation_named, selectors_of, selectors, declared, all_declared, judge_plant}
use Rattle.semantics.specs.Starts.{read_start, start_in, is_ok, modes_fit, fits_start}
use Rattle.semantics.specs.Run.{value_bytes}
use Rattle.semantics.specs.Writing.{start_bytes}
use Rattle.semantics.specs.Calls.{judge_start}
use Rattle.semantics.proofs.Admission.{start-judged}
use Rattle.semantics.proofs.Facts.{true-not-false, and_left, and_right, and_both, every-all}
use Rattle.semantics.proofs.Readers.{Reads, reads_then, reads-last, reads-give, reads_byte, whole-reads}
use Rattle.semantics.proofs.SignedBytes.{reads-int4}
use Rattle.plant.proofs.PlantLaws.{passed-all}
use Rattle.initial_start.specs.Initial.{initial_values, initial_modes, initial_start_of}

-- what four bytes give
abbrev pub InBits : Variable → Type 0
InBits x = fits32 x.initial ≡ true

-- ---- it is read back
values-read : (xs : List Variable) → All InBits xs → Reads (times (length xs) int4) (flat_map value_bytes (initial_values xs)) (initial_values xs)
unfolding initial_values value_bytes times flat_map
values-read [] all_nil = reads-give []
values-read (x ∷ xs) (all_cons h k) = reads_then int4 _ (reads-int4 x.initial h) (reads-last (times (length xs) int4) (λ l. x.initial ∷ l) (values-read xs k))

modes-read : (cs : List Selector) → Reads (times (length cs) byte) (map (λ (c : Selector). c.initial) cs) (map (λ (c : Selector). c.initial) cs)
unfolding times
modes-read [] = reads-give []
modes-read (c ∷ cs) = reads_then byte _ (reads_byte c.initial) (reads-last (times (length cs) byte) (λ l. c.initial ∷ l) (modes-read cs))

pub own-start-read : (p : Plant) → All InBits p.variables → start_in p (start_bytes (initial_start_of p)) ≡ some (initial_start_of p)
unfolding start_in read_start start_bytes initial_start_of initial_modes selectors
own-start-read p h =
    whole-reads (read_start p)
    (reads_then (times (length p.variables) int4) _ (values-read p.variables h)
    (reads-last (times (length (selectors p)) byte) (λ ms. record { values = initial_values p.variables; modes = ms }) (modes-read (selectors p))))

-- ---- its modes are there
pub modes-fit : (n : ℕ) (es : List Equation) → All (λ q. equation_named n q ≡ true) es → modes_fit (selectors_of es) (initial_modes es) ≡ true
unfolding modes_fit selectors_of initial_modes equation_named
modes-fit n [] all_nil = refl
modes-fit n (steady r ∷ es) (all_cons h k) = modes-fit n es k
modes-fit n (choice c ∷ es) (all_cons h k) = and_both (and_left (ltb c.initial (length c.modes)) _ h) (modes-fit n es k)

-- ---- its values are in their ranges
le_not_lt : (a b : ℤ) → le_z a b ≡ true → lt_z b a ≡ false
le_not_lt (pos a) (pos b) h = le-ltb b a (leb-true a b h)
le_not_lt (pos a) (negsuc b) h = true-not-false (sym h)
le_not_lt (negsuc a) (pos b) h = refl
le_not_lt (negsuc a) (negsuc b) h = le-ltb a b (leb-true b a h)

declared-ok : (x : Variable) → ordered x ≡ true → declared x x.initial ≡ ok x.initial
unfolding declared ranged ordered
declared-ok x h =
    rw (
      le_not_lt x.minimum x.initial (and_left (le_z x.minimum x.initial) (le_z x.initial x.maximum) h),
      le_not_lt x.initial x.maximum (and_right (le_z x.minimum x.initial) (le_z x.initial x.maximum) h),
    )
    refl

values-fit : (xs : List Variable) → All (λ x. ordered x ≡ true) xs → all_declared xs (initial_values xs) ≡ ok (initial_values xs)
unfolding all_declared initial_values then_value
values-fit [] all_nil = refl
values-fit (x ∷ xs) (all_cons h k) = rw (declared-ok x h, values-fit xs k) refl

-- ---- both, of a plant that 4 to 8 let pass
module _ (ed : Edition) (vs es : List ℕ) {p : Plant} (h : judge_plant ed vs es ≡ accepted p) where
  pub own-start-fits : fits_start p (initial_start_of p) ≡ true
  unfolding fits_start initial_start_of is_ok selectors
  own-start-fits =
      let a = passed-all ed vs es h in
      and_both (ap is_ok (values-fit p.variables (every-all ordered p.variables a.in_order)))
      (modes-fit (length p.variables) p.equations (every-all (equation_named (length p.variables)) p.equations a.named))

  pub own-start-admitted : All InBits p.variables → judge_start p (start_bytes (initial_start_of p)) ≡ accepted (initial_start_of p)
  own-start-admitted b = start-judged p _ (record { is_read = own-start-read p b; fits = own-start-fits })

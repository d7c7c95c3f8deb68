-- The CASEs of an equation section: what the loop over the equations has noted of them.
use mathlib.Core.Path.{◌≡◌, refl, sym, ap, ◌∙◌}
use mathlib.Core.List.{List, [], ◌∷◌, ◌++◌, map, append_assoc, append-nil}
use mathlib.Core.Option.{some}
use Prim.Native.Nat.{ℕ, suc, ◌+◌, ◌-◌, ◌*◌, ◌≤◌, ◌<◌}
use native.Mathlib.Omega.{arith}
use lib.IntN.{ℤ}
use lib.ListN.{length, get_or, drop, set, replicate, length-append}
use lib.Seq.{sets, append_snoc}
use Rattle.semantics.specs.Bytes.{read, times}
use Rattle.semantics.specs.Sections.{Selector, Equation, choice, read_mode, read_equation_body, read_equation, read_equations, equations_in}
use Rattle.semantics.specs.Writing.{write_mode, write_equation}
use Rattle.semantics.specs.Plant.{selectors_of}
use Rattle.semantics.proofs.Facts.{within-high}
use Rattle.semantics.proofs.Readers.{guarded, whole-read}
use Rattle.codec.specs.Padding.{pad}
use Rattle.codec.proofs.Reading.{nat2_at, either}
use Rattle.codec.proofs.Known.{after-byte, not-past, times-length}
use Rattle.plant.specs.Equations.{starts_from, places_of_mode, mode_count_of, rates_steady, accepted_equations, Stands, SectionStands}
use Rattle.plant.proofs.EquationPlaces.{steady-at, ChoiceAt, choice-at}
use Rattle.plant.proofs.EquationIndex.{equation-fits, equation-kind, next-is, next_fits, equations-left, first-and-left, none_left}
use Rattle.codec.proofs.Padding.{length-pad, sets-pad, pad-part, pad-map-snoc}

-- ---- the count, and the equations from place 1 on
pub record SectionAt (s : List ℕ) (es : List Equation) : Type 0 where
  pub some_byte : 0 < length s
  pub few : get_or s 0 0 ≤ 16
  pub got : times (get_or s 0 0) read_equation (drop 1 s) ≡ read es []

pub section-at : (s : List ℕ) {es : List Equation} → equations_in s ≡ some es → SectionAt s es
unfolding equations_in read_equations
section-at s h =
    let r = whole-read read_equations s h in
    either 0 (length s) (λ i. let g = guarded _ _ (after-byte _ s 0 i r) in record { some_byte = i; few = within-high 0 16 _ g.0; got = g.1 })
    (λ i. not-past _ s 0 i r)

abbrev pub equations_stand : (s : List ℕ) (t : SectionStands s) → Stands (times (get_or s 0 0) read_equation) s 1
equations_stand s t = record { value = t.equations; rest = []; got = (section-at s t.read).got }

pub starts-length : {A : Type 0} (write : A → List ℕ) (p : ℕ) (l : List A) → length (starts_from write p l) ≡ length l
unfolding starts_from
starts-length write p [] = refl
starts-length write p (x ∷ l) = ap suc (starts-length write (p + length (write x)) l)

-- ---- after some of the equations, so many of them left from place p on
pub record Noted (s : List ℕ) (es : List Equation) (count : ℕ) (modes places : List ℕ) (p left : ℕ) : Type 0 where
  pub rest : Stands (times left read_equation) s p
  pub done : List Selector
  pub selectors : done ++ selectors_of rest.value ≡ selectors_of es
  pub few : count + left ≤ 16
  pub counted : length done ≡ count
  pub modes_are : modes ≡ pad 16 0 (map mode_count_of done)
  pub noted : List ℕ
  pub eights : length noted ≡ 8 * count
  pub placed : noted ++ places_of_mode p rest.value ≡ places_of_mode 1 es
  pub places_are : places ≡ pad 128 0 noted

pub noted-start : (s : List ℕ) (t : SectionStands s) → Noted s t.equations 0 (replicate 16 0) (replicate 128 0) 1 (get_or s 0 0)
unfolding pad map
noted-start s t = record {
  rest = equations_stand s t;
  done = [];
  selectors = refl;
  few = omega (arith, (section-at s t.read).few);
  counted = refl;
  modes_are = refl;
  noted = [];
  eights = refl;
  placed = refl;
  places_are = refl;
}

module _ {s : List ℕ} {es : List Equation} {count : ℕ} {modes places : List ℕ} {p left : ℕ} (a : Noted s es count modes places p left) (i : 0 < left) where
  pub here-fits : p + 2 < length s
  here-fits = equation-fits s p left a.rest i

  here : Stands read_equation_body s (p + 2)
  here = equation-kind s p left a.rest i

  pub count_fits : count < 16
  count_fits = omega (arith, a.few)

  -- past an equation of kind 1
  module _ (k : ℕ) (e : k ≡ nat2_at s p) where
    after : Stands (times (left - 1) read_equation) s (p + 2 + k)
    after = equations-left s p left a.rest i k e

    parts : a.rest.value ≡ here.value ∷ after.value
    unfolding here after
    parts = first-and-left s p left a.rest i k e

    next_place : p + 2 + k ≡ p + length (write_equation here.value)
    unfolding here
    next_place = next-is s p left a.rest i k e

    pub past_fits : p + 2 + k ≤ length s
    past_fits = next_fits s p left a.rest i k e

    pub noted-steady : get_or s (p + 2) 0 ≡ 1 → Noted s es count modes places (p + 2 + k) (left - 1)
    unfolding selectors_of places_of_mode
    noted-steady j =
        let q = steady-at s (p + 2) here.got j in
        record {
          rest = after;
          done = a.done;
          selectors = ap (λ z. a.done ++ selectors_of z) (sym (parts ∙ ap (λ x. x ∷ after.value) q.is)) ∙ a.selectors;
          few = let f = a.few in omega arith;
          counted = a.counted;
          modes_are = a.modes_are;
          noted = a.noted;
          eights = a.eights;
          placed = ap (λ z. a.noted ++ places_of_mode z after.value) (next_place ∙ ap (λ x. p + length (write_equation x)) q.is) ∙ ap (λ z. a.noted ++ places_of_mode p z) (sym (parts ∙ ap (λ x. x ∷ after.value) q.is)) ∙ a.placed;
          places_are = a.places_are;
        }

  -- a CASE there
  module _ (j : get_or s (p + 2) 0 ≡ 1 → ⊥) where
    case : ChoiceAt s (p + 2) here.value here.rest
    case = choice-at s (p + 2) here.got j

    pub case-fits : p + 2 + 2 < length s
    case-fits = case.fits

    pub few-modes : get_or s (p + 2 + 2) 0 ≤ 8
    few-modes = case.few

    pub modes-stand : Stands (times (get_or s (p + 2 + 2) 0) read_mode) s (p + 2 + 3)
    modes-stand = record { value = case.modes; rest = here.rest; got = case.got }

    pub places-fit : 8 * count + get_or s (p + 2 + 2) 0 ≤ 128
    places-fit = omega (arith, few-modes, count_fits)

    chosen : Selector
    chosen = record { initial = case.initial; modes = case.modes }

    counted-modes : length case.modes ≡ get_or s (p + 2 + 2) 0
    counted-modes = times-length read_mode (get_or s (p + 2 + 2) 0) (drop (p + 2 + 3) s) case.got

    row : List ℕ
    row = starts_from write_mode (p + 5) case.modes

    row-length : length row ≡ get_or s (p + 2 + 2) 0
    unfolding row
    row-length = starts-length write_mode (p + 5) case.modes ∙ counted-modes

    modes-more : set modes count (get_or s (p + 2 + 2) 0) ≡ pad 16 0 (map mode_count_of (a.done ++ (chosen ∷ [])))
    unfolding mode_count_of chosen
    modes-more =
        ap (λ z. set z count (get_or s (p + 2 + 2) 0)) a.modes_are
        ∙ ap (set (pad 16 0 (map mode_count_of a.done)) count) (sym counted-modes)
        ∙ pad-map-snoc 16 0 mode_count_of a.done count chosen a.counted (omega (arith, count_fits))

    places-more : {next : List ℕ} → ((t : Stands (times (get_or s (p + 2 + 2) 0) read_mode) s (p + 2 + 3)) → next ≡ sets places (8 * count) (starts_from write_mode (p + 2 + 3) t.value)) → next ≡ pad 128 0 (a.noted ++ pad 8 0 row)
    unfolding modes-stand row
    places-more f =
        let five : p + 2 + 3 ≡ p + 5 = omega arith in
        f modes-stand
        ∙ ap (λ z. sets places (8 * count) (starts_from write_mode z case.modes)) five
        ∙ ap (λ z. sets z (8 * count) row) a.places_are
        ∙ ap (λ z. sets (pad 128 0 a.noted) z row) (sym a.eights)
        ∙ sets-pad 128 0 a.noted row (omega (arith, row-length, a.eights, places-fit))
        ∙ sym (pad-part 128 0 a.noted 8 row (omega (arith, a.eights, count_fits)) (omega (arith, row-length, few-modes)))

    module _ (k : ℕ) (e : k ≡ nat2_at s p) where
      case-parts : a.rest.value ≡ choice chosen ∷ (after k e).value
      unfolding chosen
      case-parts = parts k e ∙ ap (λ x. x ∷ (after k e).value) case.is

      case-next : p + 2 + k ≡ p + length (write_equation (choice chosen))
      unfolding chosen
      case-next = next_place k e ∙ ap (λ x. p + length (write_equation x)) case.is

      selectors-more : (a.done ++ (chosen ∷ [])) ++ selectors_of (after k e).value ≡ selectors_of es
      unfolding selectors_of
      selectors-more = append_snoc a.done chosen (selectors_of (after k e).value) ∙ ap (λ z. a.done ++ selectors_of z) (sym case-parts) ∙ a.selectors

      placed-more : (a.noted ++ pad 8 0 row) ++ places_of_mode (p + 2 + k) (after k e).value ≡ places_of_mode 1 es
      unfolding places_of_mode row chosen
      placed-more =
          append_assoc a.noted (pad 8 0 row) (places_of_mode (p + 2 + k) (after k e).value)
          ∙ ap (λ z. a.noted ++ (pad 8 0 row ++ places_of_mode z (after k e).value)) case-next
          ∙ ap (λ z. a.noted ++ places_of_mode p z) (sym case-parts)
          ∙ a.placed

      -- past it
      pub noted-case : {next : List ℕ} → ((t : Stands (times (get_or s (p + 2 + 2) 0) read_mode) s (p + 2 + 3)) → next ≡ sets places (8 * count) (starts_from write_mode (p + 2 + 3) t.value)) → Noted s es (count + 1) (set modes count (get_or s (p + 2 + 2) 0)) next (p + 2 + k) (left - 1)
      noted-case f = record {
        rest = after k e;
        done = a.done ++ (chosen ∷ []);
        selectors = selectors-more;
        few = let g = a.few in omega arith;
        counted = length-append a.done (chosen ∷ []) ∙ ap (λ z. z + 1) a.counted;
        modes_are = modes-more;
        noted = a.noted ++ pad 8 0 row;
        eights = omega (arith, length-append a.noted (pad 8 0 row), length-pad 8 0 row (omega (arith, row-length, few-modes)), a.eights);
        placed = placed-more;
        places_are = places-more f;
      }

-- the same of equal counts and arrays
pub noted-as : {s : List ℕ} {es : List Equation} {count count' : ℕ} {modes modes' places places' : List ℕ} {p left left' : ℕ} → left ≡ left' → count ≡ count' → modes ≡ modes' → places ≡ places' → Noted s es count' modes' places' p left' → Noted s es count modes places p left
noted-as l e f g a = rw (l, e, f, g) a

pub noted-end : {s : List ℕ} {es : List Equation} {count : ℕ} {modes places : List ℕ} {steady : List ℤ} {p left : ℕ} → Noted s es count modes places p left → left ≡ 0 → steady ≡ rates_steady es →
    record { selectors = count; modes = modes; mode_offsets = places; steady = steady } ≡ accepted_equations es
unfolding selectors_of places_of_mode accepted_equations
noted-end {es = es} {p = p} {left = left} a e f =
    let n = none_left read_equation left e a.rest in
    let d : a.done ≡ selectors_of es = sym (append-nil a.done) ∙ ap (λ z. a.done ++ selectors_of z) (sym n) ∙ a.selectors in
    rw (sym a.counted ∙ ap length d, a.modes_are ∙ ap (λ z. pad 16 0 (map mode_count_of z)) d, a.places_are ∙ ap (pad 128 0) (sym (append-nil a.noted) ∙ ap (λ z. a.noted ++ places_of_mode p z) (sym n) ∙ a.placed), f) refl

-- The initial modes of an equation section: what the loop over the equations has written of them.
use mathlib.Core.Path.{◌≡◌, refl, sym, ap, ◌∙◌}
use mathlib.Core.Bool.{Bool, true, false, cond}
use mathlib.Core.List.{List, [], ◌∷◌, ◌++◌, append-nil}
use Prim.Native.Nat.{ℕ, ◌+◌, ◌-◌, ◌≤◌, ◌<◌}
use native.Mathlib.Nat.{sub-zero}
use native.Mathlib.Omega.{arith}
use borrow.Author.Tests.{ne_eqb}
use lib.Dec.{eqb}
use lib.ListN.{length, get_or, drop, length-append}
use lib.Seq.{append_snoc}
use Rattle.semantics.specs.Bytes.{read, times, fail}
use Rattle.semantics.specs.Sections.{Mode, Equation, choice, read_mode, read_choice, read_equation_body, read_equation}
use Rattle.semantics.specs.Plant.{selectors_of}
use Rattle.semantics.proofs.Readers.{broken-not-read, guarded}
use Rattle.codec.specs.Writing.{Wrote}
use Rattle.codec.proofs.Reading.{nat2_at, either}
use Rattle.codec.proofs.Known.{after-byte, not-past, last}
use Rattle.codec.proofs.Writing.{wrote_none, put-more}
use Rattle.plant.specs.Equations.{Stands, SectionStands}
use Rattle.plant.proofs.EquationPlaces.{kind-before, steady-at}
use Rattle.plant.proofs.EquationCases.{section-at, equations_stand}
use Rattle.plant.proofs.EquationIndex.{equation-fits, equation-kind, next_fits, equations-left, first-and-left, none_left}
use Rattle.initial_start.specs.Initial.{initial_modes}

-- ---- a CASE at a place: its initial mode is the byte after its kind
pub record FirstMode (s : List ℕ) (p : ℕ) (q : Equation) : Type 0 where
  pub modes : List Mode
  pub is : q ≡ choice (record { initial = get_or s (p + 1) 0; modes = modes })
  pub fits : p + 1 < length s

first-in : (s : List ℕ) (p : ℕ) {q : Equation} {e : List ℕ} → read_choice (drop (p + 1) s) ≡ read q e → FirstMode s p q
unfolding read_choice
first-in s p h =
    either (p + 1) (length s) (λ i.
    let a = after-byte _ s (p + 1) i h in
    either (p + 1 + 1) (length s) (λ j.
    let g = guarded _ _ (after-byte _ s (p + 1 + 1) j a) in
    let c = last (times (get_or s (p + 1 + 1) 0) read_mode) _ g.1 in
    record { modes = c.value; is = sym c.made; fits = i })
    (λ j. not-past _ s (p + 1 + 1) j a)) (λ i. not-past _ s (p + 1) i h)

pub first-mode : (s : List ℕ) (p : ℕ) {q : Equation} {e : List ℕ} → read_equation_body (drop p s) ≡ read q e → (get_or s p 0 ≡ 1 → ⊥) → FirstMode s p q
unfolding read_equation_body fail
first-mode s p {q} {e} h k = go (eqb (get_or s p 0) 2) refl (rw (ne_eqb (get_or s p 0) 1 k) at (after-byte _ s p (kind-before s p h) h))
  where
    go : (b : Bool) → eqb (get_or s p 0) 2 ≡ b → cond b read_choice fail (drop (p + 1) s) ≡ read q e → FirstMode s p q
    go true i j = first-in s p j
    go false i j = broken-not-read j

-- ---- after some of the equations, so many of them left from place p on
pub record Written (s : List ℕ) (es : List Equation) (d₀ : List ℕ) (i : ℕ) (d : List ℕ) (at p left : ℕ) : Type 0 where
  pub rest : Stands (times left read_equation) s p
  pub done : List ℕ
  pub modes : done ++ initial_modes rest.value ≡ initial_modes es
  pub few : length done + left ≤ 16
  pub place : at ≡ i + length done
  pub wrote : Wrote d₀ i done d

pub written_start : (s d : List ℕ) (i : ℕ) (t : SectionStands s) → Written s t.equations d i d i 1 (get_or s 0 0 - 0)
written_start s d i t = rw sub-zero (record {
  rest = equations_stand s t;
  done = [];
  modes = refl;
  few = let f = (section-at s t.read).few in omega arith;
  place = omega arith;
  wrote = wrote_none d i;
})

module _ {s : List ℕ} {es : List Equation} {d₀ d : List ℕ} {i at p left : ℕ} (a : Written s es d₀ i d at p left) (l : 0 < left) where
  pub here-fits : p + 2 < length s
  here-fits = equation-fits s p left a.rest l

  here : Stands read_equation_body s (p + 2)
  here = equation-kind s p left a.rest l

  pub place-fits : i + 16 ≤ length d → at + 1 ≤ length d
  place-fits h = let f = a.few in let g = a.place in omega arith

  module _ (j : get_or s (p + 2) 0 ≡ 1 → ⊥) where
    case : FirstMode s (p + 2) here.value
    case = first-mode s (p + 2) here.got j

    pub mode-fits : p + 2 + 1 < length s
    mode-fits = case.fits

  module _ (k : ℕ) (e : k ≡ nat2_at s p) where
    after : Stands (times (left - 1) read_equation) s (p + 2 + k)
    after = equations-left s p left a.rest l k e

    parts : a.rest.value ≡ here.value ∷ after.value
    unfolding here after
    parts = first-and-left s p left a.rest l k e

    pub past_fits : p + 2 + k ≤ length s
    past_fits = next_fits s p left a.rest l k e

    pub written-steady : get_or s (p + 2) 0 ≡ 1 → Written s es d₀ i d at (p + 2 + k) (left - 1)
    unfolding initial_modes selectors_of
    written-steady j =
        let q = steady-at s (p + 2) here.got j in
        record {
          rest = after;
          done = a.done;
          modes = ap (λ z. a.done ++ initial_modes z) (sym (parts ∙ ap (λ x. x ∷ after.value) q.is)) ∙ a.modes;
          few = let f = a.few in omega arith;
          place = a.place;
          wrote = a.wrote;
        }

    pub written-case : (get_or s (p + 2) 0 ≡ 1 → ⊥) → i ≤ length d₀ → {r : ℕ} {d' : List ℕ} → r ≡ at + 1 → Wrote d at (get_or s (p + 2 + 1) 0 ∷ []) d' → Written s es d₀ i d' r (p + 2 + k) (left - 1)
    unfolding initial_modes selectors_of
    written-case j n f w =
        let q = case j in
        let m = get_or s (p + 2 + 1) 0 in
        record {
          rest = after;
          done = a.done ++ (m ∷ []);
          modes = append_snoc a.done m (initial_modes after.value) ∙ ap (λ z. a.done ++ initial_modes z) (sym (parts ∙ ap (λ x. x ∷ after.value) q.is)) ∙ a.modes;
          few = let g = a.few in omega (arith, length-append a.done (m ∷ []));
          place = let g = a.place in omega (arith, length-append a.done (m ∷ []));
          wrote = put-more a.wrote w n a.place;
        }

-- the same of an equal place, buffer and number
pub written_as : {s : List ℕ} {es : List Equation} {d₀ d d' : List ℕ} {i at at' p left left' : ℕ} → at ≡ at' → d ≡ d' → left ≡ left' → Written s es d₀ i d' at' p left' → Written s es d₀ i d at p left
written_as e f g a = rw (e, f, g) a

-- none is left
pub record AllWritten (es : List Equation) (d₀ : List ℕ) (i : ℕ) (d : List ℕ) (at : ℕ) : Type 0 where
  pub place : at ≡ i + length (initial_modes es)
  pub wrote : Wrote d₀ i (initial_modes es) d

pub written-end : {s : List ℕ} {es : List Equation} {d₀ d : List ℕ} {i at p left : ℕ} → Written s es d₀ i d at p left → left ≡ 0 → AllWritten es d₀ i d at
unfolding initial_modes selectors_of
written-end {es = es} {d₀ = d₀} {d = d} {i = i} {left = left} a e =
    let n = none_left read_equation left e a.rest in
    let m : a.done ≡ initial_modes es = sym (append-nil a.done) ∙ ap (λ z. a.done ++ initial_modes z) (sym n) ∙ a.modes in
    record { place = a.place ∙ ap (λ z. i + length z) m; wrote = rw m at a.wrote }

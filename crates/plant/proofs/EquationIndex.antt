-- Loops over an equation section whose layout is right: what the index holds after some of its parts.
use mathlib.Core.Path.{◌≡◌, refl, sym, ap, ◌∙◌}
use mathlib.Core.List.{List, [], ◌∷◌, ◌++◌, flat_map}
use Prim.Native.Nat.{ℕ, ◌+◌, ◌-◌, ◌≤◌, ◌<◌}
use native.Mathlib.Omega.{arith}
use lib.ListN.{length, get_or, drop, set, length-set, length-append, length-drop}
use lib.Seq.{sets, set_out}
use native.Mathlib.Numerals.{add-one}
use Rattle.codec.proofs.Reading.{nat2_at, nat4_at}
use lib.IntN.{ℤ}
use Rattle.semantics.specs.Bytes.{signed, Reader, read, times}
use Rattle.semantics.specs.Sections.{Rate, Equation, steady, read_switch, read_mode, read_equation_body, read_equation}
use Rattle.semantics.specs.Plant.{rates_of}
use Rattle.semantics.specs.Writing.{write_switch, write_mode, write_equation}
use Rattle.semantics.proofs.Readers.{given}
use Rattle.plant.specs.Equations.{starts_from, rates_steady, Stands}
use Rattle.plant.proofs.EquationSizes.{Cuts, mode-length, cuts-switch, cuts-equation}
use Rattle.plant.proofs.RateArrays.{rate-put}
use Rattle.plant.proofs.EquationPlaces.{same-value, Headed, headed, switch-at, mode-at, switches_from, kind-before, steady-at, choice-at, equation-at}

-- ---- how many are left, by how many are done
pub minus_0 : {n : ℕ} → n - 0 ≡ n
minus_0 = omega arith

pub minus-more : (n i : ℕ) → n - (i + 1) ≡ n - i - 1
minus-more n i = omega arith

-- ---- n values from place at on, of which so many are left from place p on
pub record Ahead {A : Type 0} (r : Reader A) (write : A → List ℕ) (s : List ℕ) (at n p left : ℕ) : Type 0 where
  pub values : List A
  pub rest : List ℕ
  pub got : times left r (drop p s) ≡ read values rest
  pub total : (t : Stands (times n r) s at) → p + length (flat_map write values) ≡ at + length (flat_map write t.value)

module _ {A : Type 0} (r : Reader A) (write : A → List ℕ) (s : List ℕ) (at n : ℕ) where
  pub ahead-start : Stands (times n r) s at → Ahead r write s at n at n
  ahead-start t = record { values = t.value; rest = t.rest; got = t.got; total = λ u. ap (λ v. at + length (flat_map write v)) (same-value t u) }

  ahead_after : {p left q : ℕ} (a : Ahead r write s at n p left) (h : Headed r write s p left a.values a.rest) → q ≡ p + length (write h.head) → Ahead r write s at n q (left - 1)
  unfolding flat_map
  ahead_after {p} {left} {q} a h e = record {
    values = h.tail;
    rest = a.rest;
    got = ap (λ k. times (left - 1) r (drop k s)) e ∙ h.others;
    total = λ t. (let i = a.total t in let j : length (flat_map write a.values) ≡ length (write h.head ++ flat_map write h.tail) = ap (λ l. length (flat_map write l)) h.is in omega (arith, length-append (write h.head) (flat_map write h.tail)));
  }

  pub ahead-next : Cuts r (λ a n. n ≡ length (write a)) → {p left q : ℕ} → Ahead r write s at n p left → 0 < left → ((v : A) (e : List ℕ) → r (drop p s) ≡ read v e → q ≡ p + length (write v)) → Ahead r write s at n q (left - 1)
  ahead-next c {p} {left} a i f = let h = headed write c s p left i a.got in ahead_after a h (f h.head _ h.got)

  pub ahead-end : {p left : ℕ} → Ahead r write s at n p left → left ≡ 0 → (t : Stands (times n r) s at) → p ≡ at + length (flat_map write t.value)
  unfolding times flat_map
  ahead-end {p} {left} a e t =
      let i = a.total t in
      let j = ap (λ l. length (flat_map write l)) (given [] (drop p s) (rw e at a.got)) in
      omega arith

  -- the value that stands there
  pub ahead-there : Cuts r (λ a n. n ≡ length (write a)) → {p left : ℕ} → Ahead r write s at n p left → 0 < left → Stands r s p
  ahead-there c {p} {left} a i = let h = headed write c s p left i a.got in record { value = h.head; rest = _; got = h.got }

pub ahead-switch : {s : List ℕ} {at n p left : ℕ} → Ahead read_switch write_switch s at n p left → 0 < left → p + 1 + get_or s p 0 ≤ length s
ahead-switch {s} {at} {n} {p} a i = let t = ahead-there read_switch write_switch s at n cuts-switch a i in (switch-at s p t.got).fits

pub ahead-past-switch : {s : List ℕ} {at n p left : ℕ} → Ahead read_switch write_switch s at n p left → 0 < left → Ahead read_switch write_switch s at n (p + 1 + get_or s p 0) (left - 1)
ahead-past-switch {s} {at} {n} {p} a i = ahead-next read_switch write_switch s at n cuts-switch a i (λ v e h. omega (arith, (switch-at s p h).size))

-- ---- the places of such values, noted one after the other from entry `from` on
pub record Noting {A : Type 0} (r : Reader A) (write : A → List ℕ) (s : List ℕ) (at n from : ℕ) (places₀ : List ℕ) (places : List ℕ) (p i left : ℕ) : Type 0 where
  pub values : List A
  pub rest : List ℕ
  pub got : times left r (drop p s) ≡ read values rest
  pub few : i + left ≤ 128
  pub room : length places ≡ length places₀
  pub total : (t : Stands (times n r) s at) → sets places i (starts_from write p values) ≡ sets places₀ from (starts_from write at t.value)

module _ {A : Type 0} (r : Reader A) (write : A → List ℕ) (s : List ℕ) (at n from : ℕ) (places₀ : List ℕ) where
  pub noting-start : from + n ≤ 128 → Stands (times n r) s at → Noting r write s at n from places₀ places₀ at from n
  noting-start h t = record { values = t.value; rest = t.rest; got = t.got; few = h; room = refl; total = λ u. ap (λ v. sets places₀ from (starts_from write at v)) (same-value t u) }

  module _ {places : List ℕ} {p i left : ℕ} (a : Noting r write s at n from places₀ places p i left) where
    noting-after : {q : ℕ} (h : Headed r write s p left a.values a.rest) → 0 < left → q ≡ p + length (write h.head) → Noting r write s at n from places₀ (set places i p) q (i + 1) (left - 1)
    unfolding starts_from
    noting-after {q} h j e = record {
      values = h.tail;
      rest = a.rest;
      got = ap (λ k. times (left - 1) r (drop k s)) e ∙ h.others;
      few = let f = a.few in omega arith;
      room = length-set places i p ∙ a.room;
      total = λ t. (rw (e, add-one) (ap (λ v. sets places i (starts_from write p v)) (sym h.is) ∙ a.total t));
    }

    pub noting-next : Cuts r (λ a n. n ≡ length (write a)) → {q : ℕ} → 0 < left → ((v : A) (e : List ℕ) → r (drop p s) ≡ read v e → q ≡ p + length (write v)) → Noting r write s at n from places₀ (set places i p) q (i + 1) (left - 1)
    noting-next c j f = let h = headed write c s p left j a.got in noting-after h j (f h.head _ h.got)

    pub noting-there : Cuts r (λ a n. n ≡ length (write a)) → 0 < left → Stands r s p
    noting-there c j = let h = headed write c s p left j a.got in record { value = h.head; rest = _; got = h.got }

    pub noting-end : left ≡ 0 → (t : Stands (times n r) s at) → places ≡ sets places₀ from (starts_from write at t.value)
    unfolding times starts_from
    noting-end e t = ap (λ v. sets places i (starts_from write p v)) (given [] (drop p s) (rw e at a.got)) ∙ a.total t

-- the same at equal numbers
pub noted-at : {A : Type 0} {r : Reader A} {write : A → List ℕ} {s : List ℕ} {at n from : ℕ} {places₀ places : List ℕ} {p i j left more : ℕ} → i ≡ j → left ≡ more → Noting r write s at n from places₀ places p j more → Noting r write s at n from places₀ places p i left
noted-at e f a = rw (e, f) a

-- ---- the ends of a mode
module _ (s : List ℕ) (p : ℕ) where
  pub switches-stand : (t : Stands read_mode s p) → Stands (times (get_or s (switches_from s p) 0) read_switch) s (switches_from s p + 1)
  switches-stand t = record { value = t.value.switches; rest = t.rest; got = (mode-at s p t.got).switches }

  pub mode-ends : {r : ℕ} → ((t : Stands (times (get_or s (switches_from s p) 0) read_switch) s (switches_from s p + 1)) → r ≡ switches_from s p + 1 + length (flat_map write_switch t.value)) → (t : Stands read_mode s p) → r ≡ p + length (write_mode t.value)
  unfolding switches-stand
  mode-ends h t = let e = h (switches-stand t) in let m = (mode-at s p t.got).count in omega (arith, mode-length t.value)

  pub mode-fits : Stands read_mode s p → switches_from s p < length s
  mode-fits t = (mode-at s p t.got).inside

-- ---- the rate of one equation
one_more : (es : List Equation) (r : Rate) {rates : List ℤ} {d : ℕ} {z : ℤ} {q : Equation} → rates ≡ rates_steady es → d ≡ r.driven → z ≡ r.rate → q ≡ steady r → set rates d z ≡ rates_steady (q ∷ es)
unfolding rates_of
one_more es r h d z q = rw (h, d, z, q) (rate-put r (rates_of es []) 32)

module _ (s : List ℕ) (p : ℕ) (t : Stands read_equation_body s p) where
  pub kind_fits : p < length s
  kind_fits = kind-before s p t.got

  pub steady-fits : get_or s p 0 ≡ 1 → p + 6 ≤ length s
  steady-fits k = omega (arith, (steady-at s p t.got k).stands.fits)

  pub with_none : {rates : List ℤ} (es : List Equation) → rates ≡ rates_steady es → (get_or s p 0 ≡ 1 → ⊥) → rates ≡ rates_steady (t.value ∷ es)
  unfolding rates_of
  with_none es h k = rw (choice-at s p t.got k).is h

  pub with-one : {rates : List ℤ} (es : List Equation) → rates ≡ rates_steady es → {z : ℤ} → get_or s p 0 ≡ 1 → z ≡ signed (nat4_at s (p + 2)) → set rates (get_or s (p + 1) 0) z ≡ rates_steady (t.value ∷ es)
  with-one es h k e =
      let a = steady-at s p t.got k in
      let two : p + 1 + 1 ≡ p + 2 = omega arith in
      one_more es a.rate h (sym a.stands.driven) (e ∙ ap (λ j. signed (nat4_at s j)) (sym two) ∙ sym a.stands.rate) a.is

  -- of a variable that no array has a place for
  pub with_out : {rates : List ℤ} (es : List Equation) → rates ≡ rates_steady es → get_or s p 0 ≡ 1 → length rates ≤ get_or s (p + 1) 0 → rates ≡ rates_steady (t.value ∷ es)
  with_out es h k i = sym (set_out _ _ _ i) ∙ with-one es h k refl

-- ---- n equations: the first, and the others
module _ (s : List ℕ) (p n : ℕ) (t : Stands (times n read_equation) s p) (i : 0 < n) where
  first-equation : Headed read_equation write_equation s p n t.value t.rest
  first-equation = headed write_equation cuts-equation s p n i t.got

  pub equation-fits : p + 2 < length s
  equation-fits = (equation-at s p first-equation.got).head

  pub equation-kind : Stands read_equation_body s (p + 2)
  equation-kind = record { value = first-equation.head; rest = _; got = (equation-at s p first-equation.got).kind }

  module _ (k : ℕ) (e : k ≡ nat2_at s p) where
    pub next-is : p + 2 + k ≡ p + length (write_equation equation-kind.value)
    unfolding equation-kind
    next-is = omega (arith, (equation-at s p first-equation.got).next)

    pub next_fits : p + 2 + k ≤ length s
    unfolding equation-kind
    next_fits = omega (arith, next-is, first-equation.fits, length-drop p s, equation-fits)

    pub equations-left : Stands (times (n - 1) read_equation) s (p + 2 + k)
    unfolding equation-kind
    equations-left = record { value = first-equation.tail; rest = t.rest; got = ap (λ k. times (n - 1) read_equation (drop k s)) next-is ∙ first-equation.others }

    pub first-and-left : t.value ≡ equation-kind.value ∷ equations-left.value
    unfolding equation-kind equations-left
    first-and-left = first-equation.is

pub none_left : {A : Type 0} (r : Reader A) {s : List ℕ} {p : ℕ} (n : ℕ) → n ≡ 0 → (t : Stands (times n r) s p) → t.value ≡ []
unfolding times
none_left r {s} {p} n e t = sym (given [] (drop p s) (rw e at t.got))

-- ---- the rates of kind 1
pub steady-none : {s : List ℕ} {p : ℕ} (n : ℕ) → n ≡ 0 → (t : Stands (times n read_equation) s p) → rates_steady [] ≡ rates_steady t.value
steady-none n e t = rw (none_left read_equation n e t) refl

pub steady-more : (s : List ℕ) (p n : ℕ) (i : 0 < n) (k : ℕ) (e : k ≡ nat2_at s p) {rates out : List ℤ} → ((t : Stands (times (n - 1) read_equation) s (p + 2 + k)) → rates ≡ rates_steady t.value) → ((t : Stands read_equation_body s (p + 2)) (es : List Equation) → rates ≡ rates_steady es → out ≡ rates_steady (t.value ∷ es)) → (t : Stands (times n read_equation) s p) → out ≡ rates_steady t.value
steady-more s p n i k e {rates} {out} f g t =
    let q = equation-kind s p n t i in
    let l = equations-left s p n t i k e in
    g q l.value (f l) ∙ ap (λ es. rates_steady es) (sym (first-and-left s p n t i k e))

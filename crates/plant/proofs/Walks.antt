-- The parts of an equation section that is known to be sound, by place: where each begins and ends.
use mathlib.Core.Path.{◌≡◌, refl, sym, ap, ◌∙◌}
use mathlib.Core.Bool.{true, cond}
use mathlib.Core.List.{List, [], ◌∷◌}
use mathlib.Core.Option.{some}
use Prim.Native.Nat.{ℕ, suc, ◌+◌, ◌-◌, ◌*◌, ◌≤◌, ◌<◌}
use native.Mathlib.Nat.{sub-zero}
use native.Mathlib.Omega.{arith}
use borrow.Author.Tests.{leb-true, eqb-true}
use lib.Dec.{leb, eqb}
use lib.ListN.{length, get_or, take, drop, length-drop}
use lib.Seq.{drop-drop}
use Rattle.semantics.specs.Bytes.{within, Reader, read, and_then, ◌>>=◌, give, fail, guard, byte, int4, bytes, times, section2}
use Rattle.semantics.specs.Sections.{Rate, Switch, Mode, Selector, Equation, steady, choice, read_rate, read_switch, read_mode, read_steady, read_choice, read_equation_body, equation_in_bytes, read_equation, read_equations, equations_in}
use Rattle.semantics.proofs.Facts.{by_cases}
use Rattle.semantics.proofs.Readers.{broken-not-read, split, given, given-rest, guarded, from_some, whole-read}
use Rattle.codec.proofs.Reading.{nat2_at, section2-short, either}
use Rattle.codec.proofs.Known.{after-byte, not-past, after-bytes, not_short, after-section2, not-section2, not-lost, Cons, cons, last}
use Rattle.codec.proofs.Places.{Takes, takes-give, takes-then, takes-byte, takes-int4, takes-times}
use Rattle.semantics.specs.Writing.{write_mode}
use Rattle.plant.specs.Sound.{There, Sound}
use Rattle.plant.specs.Equations.{Stands}
use Rattle.plant.proofs.EquationSizes.{cuts-mode}
use Rattle.plant.proofs.Costs.{Costs, costs-give, costs-byte, costs-then, costs-int4, costs-times}

-- ---- a reader of a fixed size ends there
module _ {A : Type 0} {r : Reader A} {k : ℕ} (t : Takes r) (c : Costs r k) (s : List ℕ) (p : ℕ) {a : A} {e : List ℕ} (i : p ≤ length s) (h : r (drop p s) ≡ read a e) where
  pub fixed-inside : p + k ≤ length s
  fixed-inside = omega (arith, c.spent (drop p s) h, length-drop p s)

  pub fixed-end : e ≡ drop (p + k) s
  fixed-end =
      let u = t.leaves (drop p s) h in
      let few = u.few in
      let e1 = ap length u.is in
      let n : u.count ≡ k = omega (arith, c.spent (drop p s) h, length-drop u.count (drop p s)) in
      u.is ∙ drop-drop u.count p s ∙ ap (λ m. drop (p + m) s) n

-- ---- the next of those that are left
pub next_of : {A : Type 0} (r : Reader A) (n i : ℕ) (l : List ℕ) {a : List A} {e : List ℕ} → i < n → times (n - i) r l ≡ read a e → Cons r (n - (i + 1)) l a e
next_of r n i l h g =
    let k : n - i ≡ suc (n - (i + 1)) = omega arith in
    cons r (n - (i + 1)) (ap (λ m. times m r l) (sym k) ∙ g)

pub all_left : {A : Type 0} (r : Reader A) (n : ℕ) (l : List ℕ) {a : List A} {e : List ℕ} → times n r l ≡ read a e → times (n - 0) r l ≡ read a e
all_left r n l g = rw sub-zero g

pub none_left : {A : Type 0} (r : Reader A) (n i : ℕ) (l : List ℕ) {a : List A} {e : List ℕ} → i ≡ n → times (n - i) r l ≡ read a e → (a ≡ []) × (l ≡ e)
unfolding times
none_left r n i l h g =
    let k : n - i ≡ 0 = omega arith in
    let z = ap (λ m. times m r l) (sym k) ∙ g in
    (sym (given [] l z), given-rest [] l z)

-- ---- rates
costs-rate : Costs read_rate 5
unfolding read_rate
costs-rate = costs-then costs-byte (λ v. costs-then costs-int4 (λ z. costs-give (record { driven = v; rate = z })))

takes-rate : Takes read_rate
unfolding read_rate
takes-rate = takes-then takes-byte (λ v. takes-then takes-int4 (λ z. takes-give (record { driven = v; rate = z })))

rate-driven : (s : List ℕ) (p : ℕ) {r : Rate} {e : List ℕ} → p < length s → read_rate (drop p s) ≡ read r e → r.driven ≡ get_or s p 0
unfolding read_rate
rate-driven s p i h =
    let k = last int4 (λ z. record { driven = get_or s p 0; rate = z }) (after-byte _ s p i h) in
    sym (ap (λ (x : Rate). x.driven) k.made)

-- the rate at a place, and the rates after it
pub record NextRate (s : List ℕ) (m p : ℕ) (rs : List Rate) (e : List ℕ) : Type 0 where
  pub head : Rate
  pub tail : List Rate
  pub is : head ∷ tail ≡ rs
  pub driven_is : head.driven ≡ get_or s p 0
  pub inside : p + 1 + 4 ≤ length s
  pub got : times m read_rate (drop (p + 1 + 4) s) ≡ read tail e

pub next-rate : (s : List ℕ) (n i p : ℕ) {rs : List Rate} {e : List ℕ} → i < n → p ≤ length s → times (n - i) read_rate (drop p s) ≡ read rs e → NextRate s (n - (i + 1)) p rs e
next-rate s n i p h k g =
    let c = next_of read_rate n i (drop p s) h g in
    let f = fixed-inside takes-rate costs-rate s p k c.first in
    let m : p + 5 ≡ p + 1 + 4 = omega arith in
    let e = fixed-end takes-rate costs-rate s p k c.first ∙ ap (λ q. drop q s) m in
    record {
      head = c.head;
      tail = c.tail;
      is = c.is;
      driven_is = rate-driven s p (omega arith) c.first;
      inside = omega arith;
      got = ap (times (n - (i + 1)) read_rate) (sym e) ∙ c.rest;
    }

-- ---- switches
pub record SwitchAt (s : List ℕ) (p : ℕ) (w : Switch) (e : List ℕ) : Type 0 where
  pub low : 1 ≤ get_or s p 0
  pub inside : p + 1 + get_or s p 0 ≤ length s
  pub truth_is : w.truth ≡ take (p + 1 + get_or s p 0 - (p + 1 + 1)) (drop (p + 1 + 1) s)
  pub end : e ≡ drop (p + 1 + get_or s p 0) s

pub switch-at : (s : List ℕ) (p : ℕ) {w : Switch} {e : List ℕ} → read_switch (drop p s) ≡ read w e → SwitchAt s p w e
unfolding read_switch
switch-at s p {w} {e} h = either p (length s) (λ i. first i) (λ i. not-past _ s p i h)
  where
    l : ℕ
    l = get_or s p 0

    third : leb 1 l ≡ true → p + 1 + 1 + (l - 1) ≤ length s → (bytes (l - 1) >>= (λ t. give (record { target = get_or s (p + 1) 0; truth = t }))) (drop (p + 1 + 1) s) ≡ read w e → SwitchAt s p w e
    third g i k =
        let m = leb-true 1 l g in
        let q : p + 1 + 1 + (l - 1) ≡ p + 1 + l = omega arith in
        let j = after-bytes _ s (p + 1 + 1) (l - 1) i k in
        let o : l - 1 ≡ p + 1 + l - (p + 1 + 1) = omega arith in
        record {
          low = m;
          inside = omega arith;
          truth_is = sym (ap (λ (x : Switch). x.truth) (given (record { target = get_or s (p + 1) 0; truth = take (l - 1) (drop (p + 1 + 1) s) }) _ j)) ∙ ap (λ n. take n (drop (p + 1 + 1) s)) o;
          end = sym (given-rest _ _ j) ∙ ap (λ q. drop q s) q;
        }

    second : leb 1 l ≡ true → p + 1 < length s → (byte >>= (λ m. bytes (l - 1) >>= (λ t. give (record { target = m; truth = t })))) (drop (p + 1) s) ≡ read w e → SwitchAt s p w e
    second g i k =
        let j = after-byte _ s (p + 1) i k in
        either (length s) (p + 1 + 1 + (l - 1)) (λ m. not_short _ s (p + 1 + 1) (l - 1) (omega arith) m j) (λ m. third g m j)

    first : p < length s → SwitchAt s p w e
    first i =
        let g = guarded (leb 1 l) _ (after-byte _ s p i h) in
        either (p + 1) (length s) (λ j. second g.0 j g.1) (λ j. not-past _ s (p + 1) j g.1)

-- ---- a mode: its rates, then its switches
pub record ModeAt (s : List ℕ) (p : ℕ) (m : Mode) (e : List ℕ) : Type 0 where
  pub before : p < length s
  pub rates_got : times (get_or s p 0) read_rate (drop (p + 1) s) ≡ read m.rates (drop (p + 1 + 5 * get_or s p 0) s)
  pub between : p + 1 + 5 * get_or s p 0 < length s
  pub switches_got : times (get_or s (p + 1 + 5 * get_or s p 0) 0) read_switch (drop (p + 1 + 5 * get_or s p 0 + 1) s) ≡ read m.switches e

-- the rates, and what follows them
record Rated (s : List ℕ) (p n : ℕ) (m : Mode) (e : List ℕ) : Type 0 where
  rates : List Rate
  got : times n read_rate (drop p s) ≡ read rates (drop (p + 5 * n) s)
  then : (byte >>= (λ k. times k read_switch >>= (λ ss. give (record { rates = rates; switches = ss })))) (drop (p + 5 * n) s) ≡ read m e

rated : (s : List ℕ) (p n : ℕ) {m : Mode} {e : List ℕ} → p ≤ length s → (times n read_rate >>= (λ rs. byte >>= (λ k. times k read_switch >>= (λ ss. give (record { rates = rs; switches = ss }))))) (drop p s) ≡ read m e → Rated s p n m e
rated s p n i h =
    let k = split (times n read_rate) _ h in
    let q : p + n * 5 ≡ p + 5 * n = omega arith in
    let f = fixed-end (takes-times n takes-rate) (costs-times n costs-rate) s p i k.first ∙ ap (λ j. drop j s) q in
    record { rates = k.value; got = k.first ∙ ap (read k.value) f; then = ap (byte >>= (λ j. times j read_switch >>= (λ ss. give (record { rates = k.value; switches = ss })))) (sym f) ∙ k.then }

pub mode-at : (s : List ℕ) (p : ℕ) {m : Mode} {e : List ℕ} → read_mode (drop p s) ≡ read m e → ModeAt s p m e
unfolding read_mode
mode-at s p {m} {e} h = either p (length s) (λ i. first i (rated s (p + 1) (get_or s p 0) (omega arith) (after-byte _ s p i h))) (λ i. not-past _ s p i h)
  where
    q : ℕ
    q = p + 1 + 5 * get_or s p 0

    first : p < length s → Rated s (p + 1) (get_or s p 0) m e → ModeAt s p m e
    first i r = either q (length s) (λ j. second j) (λ j. not-past _ s q j r.then)
      where
        second : q < length s → ModeAt s p m e
        second j =
            let k = last (times (get_or s q 0) read_switch) (λ ss. record { rates = r.rates; switches = ss }) (after-byte _ s q j r.then) in
            record {
              before = i;
              rates_got = r.got ∙ ap (λ (x : Mode). read x.rates (drop q s)) k.made;
              between = j;
              switches_got = k.got ∙ ap (λ (x : Mode). read x.switches e) k.made;
            }

-- a mode ends at place q, by what is written of it
pub past-mode : (s : List ℕ) (p : ℕ) {m : Mode} {e : List ℕ} → p ≤ length s → read_mode (drop p s) ≡ read m e → {q : ℕ} → ((t : Stands read_mode s p) → q ≡ p + length (write_mode t.value)) → (e ≡ drop q s) × (q ≤ length s)
past-mode s p {m} {e} i h {q} f =
    let c = cuts-mode.cuts (drop p s) m e h in
    let k : p + c.count ≡ q = omega (arith, f (record { value = m; rest = e; got = h }), c.fits) in
    (c.cut.rest ∙ drop-drop c.count p s ∙ ap (λ n. drop n s) k, omega (arith, c.cut.few, length-drop p s))

-- ---- an equation: a rate, or the modes of a CASE
pub data Shape (s : List ℕ) (q : Equation) : Type 0 where
  is_steady : (r : Rate) → get_or s 0 0 ≡ 1 → q ≡ steady r → times 1 read_rate (drop 1 s) ≡ read (r ∷ []) [] → Shape s q
  is_choice : (c : Selector) → get_or s 0 0 ≡ 2 → q ≡ choice c → 1 + 1 + 1 ≤ length s → times (get_or s 2 0) read_mode (drop (1 + 1 + 1) s) ≡ read c.modes [] → Shape s q

module _ (s : List ℕ) {q : Equation} where
  steady-shape : get_or s 0 0 ≡ 1 → read_steady (drop 1 s) ≡ read q [] → Shape s q
  unfolding read_steady times ◌>>=◌ and_then give
  steady-shape e h =
      let k = last read_rate steady h in
      is_steady k.value e (sym k.made) (rw k.got refl)

  choice-shape : get_or s 0 0 ≡ 2 → read_choice (drop 1 s) ≡ read q [] → Shape s q
  unfolding read_choice
  choice-shape e h = either 1 (length s) (λ i. second i (after-byte _ s 1 i h)) (λ i. not-past _ s 1 i h)
    where
      third : 2 < length s → guard (within 1 8 (get_or s 2 0)) (times (get_or s 2 0) read_mode >>= (λ ms. give (choice (record { initial = get_or s 1 0; modes = ms })))) (drop 3 s) ≡ read q [] → Shape s q
      third i k =
          let g = guarded (within 1 8 (get_or s 2 0)) _ k in
          let j = last (times (get_or s 2 0) read_mode) (λ ms. choice (record { initial = get_or s 1 0; modes = ms })) g.1 in
          is_choice (record { initial = get_or s 1 0; modes = j.value }) e (sym j.made) (omega arith) j.got

      second : 1 < length s → (byte >>= (λ n. guard (within 1 8 n) (times n read_mode >>= (λ ms. give (choice (record { initial = get_or s 1 0; modes = ms })))))) (drop 2 s) ≡ read q [] → Shape s q
      second i k = either 2 (length s) (λ j. third j (after-byte _ s 2 j k)) (λ j. not-past _ s 2 j k)

  pub shape_of : equation_in_bytes s ≡ some q → (1 ≤ length s) × Shape s q
  unfolding equation_in_bytes read_equation_body fail
  shape_of h =
      let g = whole-read read_equation_body s h in
      either 0 (length s) (λ i. (i, kind (get_or s 0 0) refl (after-byte _ s 0 i g))) (λ i. not-past _ s 0 i g)
    where
      kind : (k : ℕ) → get_or s 0 0 ≡ k → cond (eqb k 1) read_steady (cond (eqb k 2) read_choice fail) (drop 1 s) ≡ read q [] → Shape s q
      kind k e g =
          by_cases (eqb k 1)
          (λ a. steady-shape (e ∙ eqb-true k 1 a) (rw a at g))
          (λ a. by_cases (eqb k 2) (λ b. choice-shape (e ∙ eqb-true k 2 b) (rw b at (rw a at g))) (λ b. broken-not-read (rw b at (rw a at g))))

-- the kind says which
pub not-both : {C : Type 0} (k : ℕ) → k ≡ 1 → k ≡ 2 → C
not-both k a b = absurd (omega arith)

pub equation-inside : (s : List ℕ) → There (equation_in_bytes s) → 1 ≤ length s
equation-inside s f = (shape_of s f.is).0

module _ (s : List ℕ) (f : There (equation_in_bytes s)) (k : get_or s 0 0 ≡ 1 → ⊥) where
  pub choice-inside : 1 + 1 + 1 ≤ length s
  choice-inside = go (shape_of s f.is).1
    where
      go : Shape s f.value → 1 + 1 + 1 ≤ length s
      go (is_steady r e q t) = absurd (k e)
      go (is_choice c e q i t) = i

  pub choice-sound : Sound (times (get_or s 2 0) read_mode) s (1 + 1 + 1)
  choice-sound = go (shape_of s f.is).1
    where
      go : Shape s f.value → Sound (times (get_or s 2 0) read_mode) s (1 + 1 + 1)
      go (is_steady r e q t) = absurd (k e)
      go (is_choice c e q i t) = record { value = c.modes; end = []; got = t; inside = i }

-- ---- the record of an equation: its length, then its bytes
pub record EquationAt (s : List ℕ) (p : ℕ) (q : Equation) (e : List ℕ) : Type 0 where
  pub inside : p + 2 + nat2_at s p ≤ length s
  pub is : equation_in_bytes (take (nat2_at s p) (drop (p + 2) s)) ≡ some q
  pub end : e ≡ drop (p + 2 + nat2_at s p) s

pub equation-at : (s : List ℕ) (p : ℕ) {q : Equation} {e : List ℕ} → p ≤ length s → read_equation (drop p s) ≡ read q e → EquationAt s p q e
unfolding read_equation
equation-at s p {q} {e} i h = either (length s) (p + 2) (λ j. not-lost _ section2 (drop p s) (section2-short s p j i) h) (λ j. either (length s) (p + 2 + nat2_at s p) (λ k. not-section2 _ s p (nat2_at s p) refl j k h) (λ k. inner k))
  where
    inner : p + 2 + nat2_at s p ≤ length s → EquationAt s p q e
    inner k =
        let g = from_some (equation_in_bytes (take (nat2_at s p) (drop (p + 2) s))) (after-section2 _ s p (nat2_at s p) refl k h) in
        record { inside = k; is = g.0; end = sym g.1 }

-- m is its length: the slice that code lends
module _ {s : List ℕ} {p : ℕ} {q : Equation} {e : List ℕ} (a : EquationAt s p q e) {m : ℕ} (x : m ≡ nat2_at s p) where
  pub lent_is : equation_in_bytes (take (p + 2 + m - (p + 2)) (drop (p + 2) s)) ≡ some q
  lent_is = let k : p + 2 + m - (p + 2) ≡ nat2_at s p = omega arith in ap (λ n. equation_in_bytes (take n (drop (p + 2) s))) k ∙ a.is

  pub lent-inside : p + 2 + m ≤ length s
  lent-inside = omega (arith, a.inside)

  pub lent-end : e ≡ drop (p + 2 + m) s
  lent-end = a.end ∙ ap (λ n. drop (p + 2 + n) s) (sym x)

-- ---- the section: its count, then its equations
pub record SectionAt (s : List ℕ) (es : List Equation) : Type 0 where
  pub inside : 1 ≤ length s
  pub got : times (get_or s 0 0) read_equation (drop 1 s) ≡ read es []

pub section-at : (s : List ℕ) {es : List Equation} → equations_in s ≡ some es → SectionAt s es
unfolding equations_in read_equations
section-at s h =
    let g = whole-read read_equations s h in
    either 0 (length s) (λ i. record { inside = i; got = (guarded (within 0 16 (get_or s 0 0)) _ (after-byte _ s 0 i g)).1 }) (λ i. not-past _ s 0 i g)

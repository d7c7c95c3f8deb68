-- What stands at the places of an equation section whose layout is right.
use mathlib.Core.Path.{◌≡◌, refl, sym, ap, ◌∙◌, subst}
use mathlib.Core.Bool.{Bool, true, false, cond}
use mathlib.Core.List.{List, [], ◌∷◌}
use mathlib.Core.Option.{some}
use Prim.Native.Nat.{ℕ, suc, ◌+◌, ◌-◌, ◌*◌, ◌≤◌, ◌<◌}
use native.Mathlib.Omega.{arith}
use borrow.Author.Tests.{ne_eqb, leb-true}
use lib.Dec.{eqb}
use lib.ListN.{length, get_or, take, drop, length-drop, take-append-drop}
use lib.Seq.{drop-drop, length-take-le}
use Rattle.semantics.specs.Bytes.{out2, signed, Reader, broken, read, and_then, ◌>>=◌, byte, fail, times}
use Rattle.semantics.specs.Sections.{Rate, Switch, Mode, Equation, steady, choice, read_rate, read_switch, read_mode, read_steady, read_choice, read_equation_body, read_equation, equation_in_bytes}
use Rattle.semantics.specs.TableFile.{in_section2}
use Rattle.semantics.specs.Writing.{write_rate, write_switch, equation_bytes, write_equation}
use Rattle.semantics.proofs.Readers.{broken-not-read, read-value, split, given, guarded, from_some, whole-read}
use Rattle.semantics.proofs.Facts.{within-high}
use Rattle.codec.proofs.Reading.{nat2_at, nat4_at, drop_past, either}
use Rattle.codec.proofs.Known.{after-byte, not-past, after-int4, after-bytes, not_short, after-section2, not-section2, Cons, cons, Last, last, times-length}
use Rattle.plant.specs.Equations.{Stands}
use Rattle.plant.proofs.EquationSizes.{Cut, Cuts, cuts-times, rate-length, rates-length, cuts-rate, cuts-kind, kind-size, cuts-equation}

-- one value stands at a place
pub same-value : {A : Type 0} {r : Reader A} {s : List ℕ} {p : ℕ} (t u : Stands r s p) → t.value ≡ u.value
same-value t u = read-value (sym t.got ∙ u.got)

-- ---- n values one after the other: the first, and the others
pub record Headed {A : Type 0} (r : Reader A) (write : A → List ℕ) (s : List ℕ) (p n : ℕ) (l : List A) (e : List ℕ) : Type 0 where
  pub head : A
  pub fits : length (write head) ≤ length (drop p s)
  pub got : r (drop p s) ≡ read head (drop (p + length (write head)) s)
  pub tail : List A
  pub others : times (n - 1) r (drop (p + length (write head)) s) ≡ read tail e
  pub is : l ≡ head ∷ tail

module _ {A : Type 0} {r : Reader A} (write : A → List ℕ) (cs : Cuts r (λ a n. n ≡ length (write a))) (s : List ℕ) (p n : ℕ) {l : List A} {e : List ℕ} where
  headed-by : (c : Cons r (n - 1) (drop p s) l e) (k : ℕ) → k ≡ length (write c.head) → Cut r k (drop p s) c.head c.mid → c.mid ≡ drop (p + length (write c.head)) s → Headed r write s p n l e
  headed-by c k i f g = record {
    head = c.head;
    fits = subst (λ k. k ≤ length (drop p s)) i f.few;
    got = c.first ∙ ap (read c.head) g;
    tail = c.tail;
    others = ap (times (n - 1) r) (sym g) ∙ c.rest;
    is = sym c.is;
  }

  headed-of : (c : Cons r (n - 1) (drop p s) l e) (k : ℕ) → k ≡ length (write c.head) → Cut r k (drop p s) c.head c.mid → Headed r write s p n l e
  headed-of c k i f = headed-by c k i f (f.rest ∙ drop-drop k p s ∙ ap (λ k. drop (p + k) s) i)

  pub headed : 0 < n → times n r (drop p s) ≡ read l e → Headed r write s p n l e
  headed i h =
      let m : n ≡ suc (n - 1) = omega arith in
      let c = cons r (n - 1) (rw m at h) in
      let f = cs.cuts (drop p s) c.head c.mid c.first in
      headed-of c f.count f.fits f.cut

-- what is read takes at least a byte, and so stands before the end
before_end : {A : Type 0} (r : Reader A) (s : List ℕ) (p : ℕ) {a : A} {e : List ℕ} → r [] ≡ broken → r (drop p s) ≡ read a e → p < length s
before_end r s p i h = either p (length s) (λ l. l) (λ l. broken-not-read (sym i ∙ ap r (sym (drop_past p s l)) ∙ h))

pub switch-before : (s : List ℕ) (p : ℕ) {w : Switch} {e : List ℕ} → read_switch (drop p s) ≡ read w e → p < length s
unfolding read_switch ◌>>=◌ and_then byte
switch-before s p h = before_end read_switch s p refl h

pub mode-before : (s : List ℕ) (p : ℕ) {m : Mode} {e : List ℕ} → read_mode (drop p s) ≡ read m e → p < length s
unfolding read_mode ◌>>=◌ and_then byte
mode-before s p h = before_end read_mode s p refl h

pub kind-before : (s : List ℕ) (p : ℕ) {q : Equation} {e : List ℕ} → read_equation_body (drop p s) ≡ read q e → p < length s
unfolding read_equation_body ◌>>=◌ and_then byte
kind-before s p h = before_end read_equation_body s p refl h

-- ---- a switch: its length, its target, its truth
pub record SwitchStands (s : List ℕ) (p : ℕ) (w : Switch) : Type 0 where
  pub some : 1 ≤ get_or s p 0
  pub fits : p + 1 + get_or s p 0 ≤ length s
  pub target : w.target ≡ get_or s (p + 1) 0
  pub truth : w.truth ≡ take (get_or s p 0 - 1) (drop (p + 2) s)
  pub size : length (write_switch w) ≡ 1 + get_or s p 0

switch-made : (s : List ℕ) (p : ℕ) {w : Switch} → 1 ≤ get_or s p 0 → p + 1 + get_or s p 0 ≤ length s → record { target = get_or s (p + 1) 0; truth = take (get_or s p 0 - 1) (drop (p + 1 + 1) s) } ≡ w → SwitchStands s p w
unfolding write_switch
switch-made s p {w} i j k =
    let two : p + 1 + 1 ≡ p + 2 = omega arith in
    let t : w.truth ≡ take (get_or s p 0 - 1) (drop (p + 2) s) = ap (λ (w : Switch). w.truth) (sym k) ∙ ap (λ q. take (get_or s p 0 - 1) (drop q s)) two in
    let n : length (take (get_or s p 0 - 1) (drop (p + 2) s)) ≡ get_or s p 0 - 1 = length-take-le (get_or s p 0 - 1) (drop (p + 2) s) (omega (arith, length-drop (p + 2) s)) in
    record { some = i; fits = j; target = ap (λ (w : Switch). w.target) (sym k); truth = t; size = omega (arith, ap length t) }

pub switch-at : (s : List ℕ) (p : ℕ) {w : Switch} {e : List ℕ} → read_switch (drop p s) ≡ read w e → SwitchStands s p w
unfolding read_switch
switch-at s p h =
    let i = switch-before s p h in
    let b = guarded _ _ (after-byte _ s p i h) in
    let g = leb-true 1 (get_or s p 0) b.0 in
    either (p + 1) (length s) (λ j.
    let c = after-byte _ s (p + 1) j b.1 in
    either (length s) (p + 1 + 1 + (get_or s p 0 - 1)) (λ k. not_short _ s (p + 1 + 1) (get_or s p 0 - 1) (omega arith) k c)
    (λ k. switch-made s p g (omega arith) (given _ _ (after-bytes _ s (p + 1 + 1) (get_or s p 0 - 1) k c))))
    (λ j. not-past _ s (p + 1) j b.1)

-- ---- a mode: its rates, and its switches from k on
abbrev pub switches_from : List ℕ → ℕ → ℕ
switches_from s p = p + 1 + 5 * get_or s p 0

pub record ModeAt (s : List ℕ) (p : ℕ) (m : Mode) (e : List ℕ) : Type 0 where
  pub before : p < length s
  pub rates : times (get_or s p 0) read_rate (drop (p + 1) s) ≡ read m.rates (drop (switches_from s p) s)
  pub count : length m.rates ≡ get_or s p 0
  pub inside : switches_from s p < length s
  pub switches : times (get_or s (switches_from s p) 0) read_switch (drop (switches_from s p + 1) s) ≡ read m.switches e

rates-end : (s : List ℕ) (p : ℕ) (rs : List Rate) (t : List ℕ) → times (get_or s p 0) read_rate (drop (p + 1) s) ≡ read rs t → t ≡ drop (switches_from s p) s
rates-end s p rs t h =
    let f = (cuts-times write_rate cuts-rate (get_or s p 0)).cuts (drop (p + 1) s) rs t h in
    let n = times-length read_rate (get_or s p 0) (drop (p + 1) s) h in
    let k : f.count ≡ 5 * get_or s p 0 = omega (arith, f.fits, rates-length rs) in
    f.cut.rest ∙ ap (λ k. drop k (drop (p + 1) s)) k ∙ drop-drop (5 * get_or s p 0) (p + 1) s

module _ (s : List ℕ) (p : ℕ) {m : Mode} {e : List ℕ} where
  mode-made : p < length s → switches_from s p < length s → (rs : List Rate) → times (get_or s p 0) read_rate (drop (p + 1) s) ≡ read rs (drop (switches_from s p) s) → Last (times (get_or s (switches_from s p) 0) read_switch) (λ ws. record { rates = rs; switches = ws }) (drop (switches_from s p + 1) s) m e → ModeAt s p m e
  mode-made i j rs h c = record {
    before = i;
    rates = h ∙ ap (λ (m : Mode). read m.rates (drop (switches_from s p) s)) c.made;
    count = ap (λ (m : Mode). length m.rates) (sym c.made) ∙ times-length read_rate (get_or s p 0) (drop (p + 1) s) h;
    inside = j;
    switches = c.got ∙ ap (λ (m : Mode). read m.switches e) c.made;
  }

  pub mode-at : read_mode (drop p s) ≡ read m e → ModeAt s p m e
  unfolding read_mode
  mode-at h =
      let i = mode-before s p h in
      let c = split (times (get_or s p 0) read_rate) _ (after-byte _ s p i h) in
      let t = rates-end s p c.value c.rest c.first in
      let r = rw t at c.first in
      let k = rw t at c.then in
      either (switches_from s p) (length s) (λ j. mode-made i j c.value r (last (times (get_or s (switches_from s p) 0) read_switch) _ (after-byte _ s (switches_from s p) j k)))
      (λ j. not-past _ s (switches_from s p) j k)

-- ---- an equation: its length, and what it is
pub record EquationAt (s : List ℕ) (p : ℕ) (q : Equation) (e : List ℕ) : Type 0 where
  pub head : p + 2 < length s
  pub kind : read_equation_body (drop (p + 2) s) ≡ read q e
  pub next : p + 2 + nat2_at s p ≡ p + length (write_equation q)

three_bytes : (q : Equation) → 3 ≤ length (write_equation q)
unfolding write_equation in_section2 out2 equation_bytes
three_bytes (steady r) = omega arith
three_bytes (choice c) = omega arith

module _ (s : List ℕ) (p n : ℕ) {q : Equation} {e : List ℕ} (i : p + 2 < length s) (k : p + 2 + n ≤ length s) where
  equation-in : n ≡ nat2_at s p → equation_in_bytes (take n (drop (p + 2) s)) ≡ some q → drop (p + 2 + n) s ≡ e → EquationAt s p q e
  unfolding equation_in_bytes
  equation-in m h j =
      let l : length (take n (drop (p + 2) s)) ≡ n = length-take-le n (drop (p + 2) s) (omega (arith, length-drop (p + 2) s)) in
      let z = kind-size (take n (drop (p + 2) s)) h in
      let f = cuts-kind.cuts (take n (drop (p + 2) s)) q [] (whole-read read_equation_body (take n (drop (p + 2) s)) h) in
      record {
        head = i;
        kind = ap read_equation_body (sym (take-append-drop n (drop (p + 2) s))) ∙ f.cut.more (drop n (drop (p + 2) s)) ∙ ap (read q) (drop-drop n (p + 2) s ∙ j);
        next = omega arith;
      }

pub equation-at : (s : List ℕ) (p : ℕ) {q : Equation} {e : List ℕ} → read_equation (drop p s) ≡ read q e → EquationAt s p q e
unfolding read_equation
equation-at s p {q} {e} h =
    let f = cuts-equation.cuts (drop p s) q e h in
    let g = f.fits in
    let k = f.cut.few in
    let i : p + 2 < length s = omega (arith, length-drop p s, three_bytes q) in
    either (length s) (p + 2 + nat2_at s p) (λ j. not-section2 _ s p (nat2_at s p) refl (omega arith) j h)
    (λ j. let o = from_some _ (after-section2 _ s p (nat2_at s p) refl j h) in equation-in s p (nat2_at s p) i j refl o.0 o.1)

-- a rate at place p
pub record RateAt (s : List ℕ) (p : ℕ) (r : Rate) : Type 0 where
  pub fits : p + 5 ≤ length s
  pub driven : r.driven ≡ get_or s p 0
  pub rate : r.rate ≡ signed (nat4_at s (p + 1))

rate-made : (s : List ℕ) (p : ℕ) {r : Rate} → p + 5 ≤ length s → record { driven = get_or s p 0; rate = signed (nat4_at s (p + 1)) } ≡ r → RateAt s p r
rate-made s p i k = record { fits = i; driven = ap (λ (r : Rate). r.driven) (sym k); rate = ap (λ (r : Rate). r.rate) (sym k) }

pub rate-at : (s : List ℕ) (p : ℕ) {r : Rate} {e : List ℕ} → read_rate (drop p s) ≡ read r e → RateAt s p r
unfolding read_rate
rate-at s p {r} {e} h =
    let f = cuts-rate.cuts (drop p s) r e h in
    let g = f.fits in
    let k = f.cut.few in
    let i : p + 5 ≤ length s = omega (arith, length-drop p s, rate-length r) in
    rate-made s p i (given _ _ (after-int4 _ s (p + 1) (omega arith) (after-byte _ s p (omega arith) h)))

-- a kind at place p
pub record SteadyAt (s : List ℕ) (p : ℕ) (q : Equation) : Type 0 where
  pub rate : Rate
  pub is : q ≡ steady rate
  pub stands : RateAt s (p + 1) rate

pub record ChoiceAt (s : List ℕ) (p : ℕ) (q : Equation) (e : List ℕ) : Type 0 where
  pub initial : ℕ
  pub modes : List Mode
  pub is : q ≡ choice (record { initial = initial; modes = modes })
  pub fits : p + 2 < length s
  pub few : get_or s (p + 2) 0 ≤ 8
  pub got : times (get_or s (p + 2) 0) read_mode (drop (p + 3) s) ≡ read modes e

choice-made : (s : List ℕ) (p : ℕ) {q : Equation} {e : List ℕ} (initial : ℕ) (modes : List Mode) (a b : ℕ) → a ≡ p + 2 → b ≡ p + 3 → a < length s → get_or s a 0 ≤ 8 → times (get_or s a 0) read_mode (drop b s) ≡ read modes e → q ≡ choice (record { initial = initial; modes = modes }) → ChoiceAt s p q e
choice-made s p {q} {e} initial modes a b i j k l h o = record {
  initial = initial;
  modes = modes;
  is = o;
  fits = subst (λ x. x < length s) i k;
  few = subst (λ x. get_or s x 0 ≤ 8) i l;
  got = subst (λ x. times (get_or s x 0) read_mode (drop (p + 3) s) ≡ read modes e) i (subst (λ x. times (get_or s a 0) read_mode (drop x s) ≡ read modes e) j h);
}

choice-in : (s : List ℕ) (p : ℕ) {q : Equation} {e : List ℕ} → read_choice (drop (p + 1) s) ≡ read q e → ChoiceAt s p q e
unfolding read_choice
choice-in s p h =
    either (p + 1) (length s) (λ i.
    let a = after-byte _ s (p + 1) i h in
    either (p + 1 + 1) (length s) (λ j.
    let g = guarded _ _ (after-byte _ s (p + 1 + 1) j a) in
    let c = last (times (get_or s (p + 1 + 1) 0) read_mode) _ g.1 in
    choice-made s p (get_or s (p + 1) 0) c.value (p + 1 + 1) (p + 1 + 1 + 1) (omega arith) (omega arith) j (within-high 1 8 _ g.0) c.got (sym c.made))
    (λ j. not-past _ s (p + 1 + 1) j a)) (λ i. not-past _ s (p + 1) i h)

module _ (s : List ℕ) (p : ℕ) {q : Equation} {e : List ℕ} (h : read_equation_body (drop p s) ≡ read q e) where
  pub steady-at : get_or s p 0 ≡ 1 → SteadyAt s p q
  unfolding read_equation_body read_steady
  steady-at k =
      let c = last read_rate steady (rw k at (after-byte _ s p (kind-before s p h) h)) in
      record { rate = c.value; is = sym c.made; stands = rate-at s (p + 1) c.got }

  pub choice-at : (get_or s p 0 ≡ 1 → ⊥) → ChoiceAt s p q e
  unfolding read_equation_body fail
  choice-at k = go (eqb (get_or s p 0) 2) refl (rw (ne_eqb (get_or s p 0) 1 k) at (after-byte _ s p (kind-before s p h) h))
    where
      go : (b : Bool) → eqb (get_or s p 0) 2 ≡ b → cond b read_choice fail (drop (p + 1) s) ≡ read q e → ChoiceAt s p q e
      go true i j = choice-in s p j
      go false i j = broken-not-read j

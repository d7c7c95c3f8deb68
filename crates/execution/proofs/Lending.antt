-- What the promises give the code: the current modes, the rates in force, the ranges.
use mathlib.Core.Path.{◌≡◌, refl, sym, ap, ap₂, ◌∙◌, subst}
use mathlib.Core.Bool.{true}
use mathlib.Core.List.{List, [], ◌∷◌, map}
use mathlib.Core.Option.{some}
use Prim.Native.Nat.{ℕ, zero, suc, ◌+◌, ◌*◌, ◌≤◌, ◌<◌}
use native.Mathlib.Omega.{arith}
use borrow.Author.Tests.{ltb-true, lt-ltb}
use lib.Dec.{ltb}
use lib.IntN.{ℤ, pos, ◌+ℤ◌}
use lib.ListN.{length, get_or, get_elem?, take}
use Rattle.semantics.specs.Bytes.{every}
use Rattle.semantics.specs.Expressions.{then_value, ok}
use Rattle.semantics.specs.Sections.{Variable, Rate, Mode, Selector, Equation, steady, choice}
use Rattle.semantics.specs.Plant.{Plant, rate_named, switch_named, mode_named, equation_named, selectors_of, selectors, no_such_mode, current_of, current_modes, rates_of, rate_of, declared, declared_at, all_declared, added, advance}
use Rattle.semantics.specs.Starts.{modes_fit}
use Rattle.semantics.proofs.Facts.{some_is, none-not-some, and_left, and_right, at-exists, All, all_nil, all_cons, every-all, all-every, all_map}
use Rattle.plant.proofs.RateArrays.{rate-at}
use Rattle.effects.specs.Ranges.{ranges_of, rate_in, Sized}
use Rattle.program.specs.Lent.{Stands, Lent, ModeLent, PlantLent}
use Rattle.modes.specs.Modes.{mode_at, place_at, modes_from, Current, Driving, InForce}
use Rattle.execution.specs.Ready.{Fits}

-- ---- the mode at its place
pub stands-mode : {es : List ℕ} {at : ℕ} {m : Mode} → Stands es at m → mode_at es at ≡ m
unfolding mode_at
stands-mode s = rw (s.reads, mode_at) refl

stands_here : {es : List ℕ} {at : ℕ} {m : Mode} → Stands es at m → Stands es at (mode_at es at)
stands_here {es} {at} s = subst (Stands es at) (sym (stands-mode s)) s

-- ---- the mode of each selector exists
module _ where
  pub fit-head : (c : Selector) (cs : List Selector) (m : ℕ) (ms : List ℕ) → modes_fit (c ∷ cs) (m ∷ ms) ≡ true → (m < length c.modes) × (modes_fit cs ms ≡ true)
  unfolding modes_fit
  fit-head c cs m ms h = (ltb-true m (length c.modes) (and_left (ltb m (length c.modes)) (modes_fit cs ms) h), and_right (ltb m (length c.modes)) (modes_fit cs ms) h)

  pub fit_at : (cs : List Selector) (ms : List ℕ) (j : ℕ) {c : Selector} → modes_fit cs ms ≡ true → length ms ≡ length cs → get_elem? cs j ≡ some c → get_or ms j 0 < length c.modes
  fit_at [] ms j h l e = none-not-some e
  fit_at (x ∷ cs) [] j h l e = absurd (omega arith)
  fit_at (x ∷ cs) (m ∷ ms) zero {c} h l e = subst (λ (y : Selector). m < length y.modes) (some_is e) (fit-head x cs m ms h).0
  fit_at (x ∷ cs) (m ∷ ms) (suc j) h l e = fit_at cs ms j (fit-head x cs m ms h).1 (omega arith) e

-- the selectors from j on, where they lie
modes_are : (l : Lent) (cs : List Selector) (j : ℕ) (ms : List ℕ) → ((i : ℕ) (c : Selector) → get_elem? cs i ≡ some c → (m : ℕ) → m < length c.modes → ModeLent l (j + i) c m) → modes_fit cs ms ≡ true → length ms ≡ length cs
    → modes_from l.bytes l.places j ms ≡ current_of cs ms
unfolding modes_from current_of
modes_are l [] j [] f h k = refl
modes_are l [] j (m ∷ ms) f h k = absurd (omega arith)
modes_are l (c ∷ cs) j [] f h k = absurd (omega arith)
modes_are l (c ∷ cs) j (m ∷ ms) f h k =
    let q = fit-head c cs m ms h in
    let z : j ≡ j + 0 = omega arith in
    let x = f 0 c refl m q.0 in
    ap₂ ◌∷◌ (ap (λ n. mode_at l.bytes (get_or l.places (8 * n + m) 0)) z ∙ stands-mode x.stands) (modes_are l cs (suc j) ms (λ i d e n o. let w : suc j + i ≡ j + suc i = omega arith in subst (λ (y : ℕ). ModeLent l y d n) (sym w) (f (suc i) d e n o)) q.1 (omega arith))

-- ---- conditions 7
named-selector : (n : ℕ) (es : List Equation) (j : ℕ) {c : Selector} → every (equation_named n) es ≡ true → get_elem? (selectors_of es) j ≡ some c → every (mode_named n (length c.modes)) c.modes ≡ true
unfolding selectors_of equation_named
named-selector n es j {c} h e = go (every-all (equation_named n) es h) j e
  where
    go : {es : List Equation} → All (λ x. equation_named n x ≡ true) es → (j : ℕ) → get_elem? (selectors_of es) j ≡ some c → every (mode_named n (length c.modes)) c.modes ≡ true
    go all_nil j e = none-not-some e
    go (all_cons {x = steady r} h a) j e = go a j e
    go (all_cons {x = choice d} h a) zero e = subst (λ (y : Selector). every (mode_named n (length y.modes)) y.modes ≡ true) (some_is e) (and_right (ltb d.initial (length d.modes)) (every (mode_named n (length d.modes)) d.modes) h)
    go (all_cons {x = choice d} h a) (suc j) e = go a j e

named-mode : (n k : ℕ) (modes : List Mode) (m : ℕ) → every (mode_named n k) modes ≡ true → m < length modes → mode_named n k (get_or modes m no_such_mode) ≡ true
named-mode n k modes m h i = go (every-all (mode_named n k) modes h) m i
  where
    go : {modes : List Mode} → All (λ x. mode_named n k x ≡ true) modes → (m : ℕ) → m < length modes → mode_named n k (get_or modes m no_such_mode) ≡ true
    go all_nil m i = absurd (omega arith)
    go (all_cons h a) zero i = h
    go (all_cons h a) (suc m) i = go a m (omega arith)

pub mode-rates-named : (n k : ℕ) (m : Mode) → mode_named n k m ≡ true → every (rate_named n) m.rates ≡ true
unfolding mode_named
mode-rates-named n k m h = and_left (every (rate_named n) m.rates) (every (switch_named k) m.switches) h

pub mode-targets-named : (n k : ℕ) (m : Mode) → mode_named n k m ≡ true → every (switch_named k) m.switches ≡ true
unfolding mode_named
mode-targets-named n k m h = and_right (every (rate_named n) m.rates) (every (switch_named k) m.switches) h

more-named : (n k : ℕ) (rs : List Rate) → n ≤ k → every (rate_named n) rs ≡ true → every (rate_named k) rs ≡ true
unfolding rate_named
more-named n k rs h e = all-every (rate_named k) (all_map (λ r f. lt-ltb r.driven k (let q = ltb-true r.driven n f in omega arith)) (every-all (rate_named n) rs e))

-- ---- the plant as it is lent
module _ (p : Plant) (l : Lent) (q : PlantLent p l) (vs : List ℤ) (ms : List ℕ) (f : Fits p vs ms) where
  -- the current mode of selector j, and where it lies
  pub record Here (j : ℕ) : Type 0 where
    pub selector : Selector
    pub is : get_elem? (selectors p) j ≡ some selector
    pub exists : get_or ms j 0 < length selector.modes
    pub lent : ModeLent l j selector (get_or ms j 0)

  pub here : (j : ℕ) → j < length ms → Here j
  here j h =
      let k = f.modes in
      let x = at-exists (selectors p) j (omega arith) in
      let e = fit_at (selectors p) ms j f.exist f.modes x.1 in
      record { selector = x.0; is = x.1; exists = e; lent = q.modes j x.0 x.1 (get_or ms j 0) e }

  pub modes-current : modes_from l.bytes l.places 0 ms ≡ current_modes p ms
  unfolding current_modes
  modes-current = modes_are l (selectors p) 0 ms (λ i c e m h. let z : i ≡ 0 + i = omega arith in subst (λ (y : ℕ). ModeLent l y c m) z (q.modes i c e m h)) f.exist f.modes

  pub is_current : Current l.bytes l.places ms
  is_current = record { row = λ j h. (here j h).lent.row; stands = λ j h. stands_here (here j h).lent.stands }

  pub mode-named : (j : ℕ) (h : j < length ms) → mode_named (length p.variables) (length (here j h).selector.modes) (mode_at l.bytes (place_at l.places ms j)) ≡ true
  unfolding selectors
  mode-named j h =
      let x = here j h in
      ap (mode_named (length p.variables) (length x.selector.modes)) (stands-mode x.lent.stands)
      ∙ named-mode (length p.variables) (length x.selector.modes) x.selector.modes (get_or ms j 0) (named-selector (length p.variables) p.equations j q.named x.is) x.exists

  pub is-driving : Driving l.bytes l.places ms 32
  is-driving = record { named = λ j h. more-named (length p.variables) 32 (mode_at l.bytes (place_at l.places ms j)).rates q.few (mode-rates-named (length p.variables) _ _ (mode-named j h)) }

  pub few-values : length vs ≤ 32
  few-values =
      let i = q.few in
      let k = f.values in
      omega arith

  -- the rates that the code works out
  module _ (rs : List ℤ) (x : InForce l.bytes l.places ms l.steady rs) where
    many : length vs ≤ length rs
    many =
        let i = q.few in
        let o = q.long in
        let k = f.values in
        let n = x.long in
        omega arith

    pub rate-is : (v : ℕ) → v < length vs → rate_of p ms v ≡ get_or rs v (pos 0)
    unfolding rate_of current_modes selectors
    rate-is v h = let n = many in let r = rates_of p.equations ms in sym (ap (λ z. get_or z v (pos 0)) (x.rates p.equations q.once modes-current q.steady).are ∙ rate-at r (length rs) v (omega arith))

    pub is-sized : Sized rs vs
    is-sized = record { few = few-values; rates = many }

-- ---- the same ranges
all_same : (xs : List Variable) (zs : List ℤ) → all_declared (ranges_of (map (λ (x : Variable). x.minimum) xs) (map (λ (x : Variable). x.maximum) xs)) zs ≡ all_declared xs zs
unfolding all_declared ranges_of declared
all_same [] zs = refl
all_same (x ∷ xs) [] = refl
all_same (x ∷ xs) (z ∷ zs) = ap (λ w. then_value (declared x z) (λ y. then_value w (λ ys. ok (y ∷ ys)))) (all_same xs zs)

one_same : (xs : List Variable) (v : ℕ) (z : ℤ) → declared_at (ranges_of (map (λ (x : Variable). x.minimum) xs) (map (λ (x : Variable). x.maximum) xs)) v z ≡ declared_at xs v z
unfolding declared_at ranges_of declared
one_same [] v z = refl
one_same (x ∷ xs) zero z = refl
one_same (x ∷ xs) (suc v) z = one_same xs v z

-- the variables that the rows have for so many values
abbrev pub variables_of : Lent → ℕ → List Variable
variables_of l n = ranges_of (take n l.lows) (take n l.highs)

pub declared_same : (p : Plant) (l : Lent) → PlantLent p l → (n : ℕ) → n ≡ length p.variables → (v : ℕ) (z : ℤ) → declared_at (variables_of l n) v z ≡ declared_at p.variables v z
declared_same p l q n e v z = ap₂ (λ a b. declared_at (ranges_of a b) v z) (ap (λ k. take k l.lows) e ∙ q.lows) (ap (λ k. take k l.highs) e ∙ q.highs) ∙ one_same p.variables v z

-- ---- the same sums
added-same : (f g : ℕ → ℤ) (k : ℕ) (vs : List ℤ) → ((i : ℕ) → i < length vs → f (k + i) ≡ g (k + i)) → added f k vs ≡ added g k vs
unfolding added
added-same f g k [] h = refl
added-same f g k (v ∷ vs) h =
    let z : k + 0 ≡ k = omega arith in
    ap₂ ◌∷◌ (ap (λ (x : ℤ). v +ℤ x) (ap f (sym z) ∙ h 0 (omega arith) ∙ ap g z))
    (added-same f g (suc k) vs (λ i j. let w : k + suc i ≡ suc k + i = omega arith in ap f (sym w) ∙ h (suc i) (omega arith) ∙ ap g w))

pub advance-is : (p : Plant) (l : Lent) (q : PlantLent p l) (vs : List ℤ) (ms : List ℕ) (f : Fits p vs ms) (rs : List ℤ) → InForce l.bytes l.places ms l.steady rs
    → advance (variables_of l (length vs)) (rate_in rs) vs ≡ advance p.variables (rate_of p ms) vs
unfolding advance
advance-is p l q vs ms f rs x =
    ap₂ (λ a b. all_declared (ranges_of a b) (added (rate_in rs) 0 vs)) (ap (λ k. take k l.lows) f.values ∙ q.lows) (ap (λ k. take k l.highs) f.values ∙ q.highs) ∙ all_same p.variables (added (rate_in rs) 0 vs)
    ∙ ap (all_declared p.variables) (added-same (rate_in rs) (rate_of p ms) 0 vs (λ i h. let z : 0 + i ≡ i = omega arith in ap (rate_in rs) z ∙ sym (rate-is p l q vs ms f rs x i h) ∙ ap (rate_of p ms) (sym z)))

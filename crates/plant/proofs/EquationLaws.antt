-- What callers learn of the answer about an equation section: where its modes stand, and what the arrays hold.
use mathlib.Core.Path.{◌≡◌, sym, ap, ◌∙◌, subst}
use mathlib.Core.Bool.{true}
use mathlib.Core.List.{List, [], ◌∷◌, ◌++◌, map}
use mathlib.Core.Option.{some}
use Prim.Native.Nat.{ℕ, zero, suc, ◌+◌, ◌-◌, ◌*◌, ◌≤◌, ◌<◌}
use native.Mathlib.Nat.{zero-add}
use native.Mathlib.Omega.{arith}
use lib.ListN.{length, get_or, drop, get_elem?, get_or-append}
use lib.Seq.{get_or-append-add}
use Rattle.semantics.specs.Bytes.{every, Reader, read, times}
use Rattle.semantics.specs.Sections.{Rate, Mode, Selector, Equation, steady, choice, read_mode, read_equation, equations_in}
use Rattle.semantics.specs.Writing.{write_mode, write_equation}
use Rattle.semantics.specs.Plant.{equation_named, selectors_of}
use Rattle.semantics.proofs.Facts.{some_is, none-not-some, at-below, All, all_cons, every-all}
use Rattle.codec.specs.Padding.{pad}
use Rattle.codec.proofs.Known.{times-length}
use Rattle.codec.proofs.Padding.{length-pad, pad-at, pad-map-some}
use Rattle.plant.specs.Equations.{starts_from, places_of_mode, mode_count_of, Stands, mode_at}
use Rattle.plant.proofs.EquationSizes.{Cuts, cuts-mode, cuts-equation}
use Rattle.plant.proofs.EquationPlaces.{Headed, headed, mode-before, equation-at, steady-at, ChoiceAt, choice-at}
use Rattle.plant.proofs.EquationCases.{section-at, starts-length}
use Rattle.plant.proofs.EquationLookups.{mode-is}

-- ---- a mode stands at the place that is noted for it
pub record ModePlaced (s : List ℕ) (q : ℕ) (m : Mode) : Type 0 where
  pub stands : Stands read_mode s q
  pub is : mode_at s q ≡ m
  pub inside : q < length s

placed_by : (s : List ℕ) (q : ℕ) {m : Mode} {e : List ℕ} → read_mode (drop q s) ≡ read m e → ModePlaced s q m
placed_by s q {m} {e} h =
    let t : Stands read_mode s q = record { value = m; rest = e; got = h } in
    record { stands = t; is = mode-is s q t; inside = mode-before s q h }

-- the first of n values, and the others
record Parts {A : Type 0} (r : Reader A) (write : A → List ℕ) (s : List ℕ) (p n : ℕ) (x : A) (l : List A) (e : List ℕ) : Type 0 where
  first : r (drop p s) ≡ read x (drop (p + length (write x)) s)
  others : times (n - 1) r (drop (p + length (write x)) s) ≡ read l e

parts : {A : Type 0} {r : Reader A} (write : A → List ℕ) → Cuts r (λ a n. n ≡ length (write a)) → (s : List ℕ) (p n : ℕ) {x : A} {l : List A} {e : List ℕ} → times n r (drop p s) ≡ read (x ∷ l) e → Parts r write s p n x l e
parts {A} {r} write cs s p n {x} {l} {e} h = go (headed write cs s p n (omega (arith, times-length r n (drop p s) h)) h)
  where
    go : Headed r write s p n (x ∷ l) e → Parts r write s p n x l e
    go f =
        let a : f.head ≡ x = let i = f.is in cc in
        let b : f.tail ≡ l = let i = f.is in cc in
        record {
          first = subst (λ z. r (drop p s) ≡ read z (drop (p + length (write z)) s)) a f.got;
          others = ap (λ z. times (n - 1) r (drop (p + length (write z)) s)) (sym a) ∙ f.others ∙ ap (λ z. read z e) b;
        }

-- in the row of a CASE
row-placed : (s : List ℕ) (n p k : ℕ) (ms : List Mode) {m : Mode} {e : List ℕ} → times n read_mode (drop p s) ≡ read ms e → get_elem? ms k ≡ some m → ModePlaced s (get_or (starts_from write_mode p ms) k 0) m
unfolding starts_from
row-placed s n p k [] h g = none-not-some g
row-placed s n p zero (x ∷ ms) h g = placed_by s p ((parts write_mode cuts-mode s p n h).first ∙ ap (λ z. read z (drop (p + length (write_mode x)) s)) (some_is g))
row-placed s n p (suc k) (x ∷ ms) h g = row-placed s (n - 1) (p + length (write_mode x)) k ms (parts write_mode cuts-mode s p n h).others g

-- the row of a CASE that stands at p
case-of : (s : List ℕ) (p : ℕ) {c : Selector} {e : List ℕ} → read_equation (drop p s) ≡ read (choice c) e → ChoiceAt s (p + 2) (choice c) e
case-of s p {c} {e} h =
    let k = (equation-at s p h).kind in
    choice-at s (p + 2) k (λ i. other (steady-at s (p + 2) k i).is)
  where
    other : {r : Rate} → choice c ≡ steady r → ⊥
    other i = let z : ◌≡◌ {A = ℕ} 0 1 = cc in omega arith

module _ (s : List ℕ) (p : ℕ) {c : Selector} {e : List ℕ} (h : read_equation (drop p s) ≡ read (choice c) e) where
  abbrev row : List ℕ
  row = starts_from write_mode (p + 5) c.modes

  same : (case-of s p h).modes ≡ c.modes
  same = let i = (case-of s p h).is in ap modes_of (sym i)
    where
      modes_of : Equation → List Mode
      modes_of (steady r) = []
      modes_of (choice c) = c.modes

  row-few : length c.modes ≤ 8
  row-few =
      let a = case-of s p h in
      let n = times-length read_mode (get_or s (p + 2 + 2) 0) (drop (p + 2 + 3) s) a.got in
      omega (arith, ap length same, a.few)

  row-eight : length (pad 8 0 row) ≡ 8
  row-eight = length-pad 8 0 row (omega (arith, starts-length write_mode (p + 5) c.modes, row-few))

  in_row : (k : ℕ) {m : Mode} → get_elem? c.modes k ≡ some m → ModePlaced s (get_or row k 0) m
  in_row k g =
      let a = case-of s p h in
      let five : p + 2 + 3 ≡ p + 5 = omega arith in
      row-placed s (get_or s (p + 2 + 2) 0) (p + 5) k c.modes (ap (λ z. times (get_or s (p + 2 + 2) 0) read_mode (drop z s)) (sym five) ∙ a.got ∙ ap (λ z. read z e) same) g

  few-there : (k : ℕ) {m : Mode} → get_elem? c.modes k ≡ some m → k < 8
  few-there k g = omega (arith, at-below c.modes k g, row-few)

  first-row : (l : List ℕ) (k : ℕ) {m : Mode} → get_elem? c.modes k ≡ some m → ModePlaced s (get_or (pad 8 0 row ++ l) (0 + k) 0) m
  first-row l k {m} g =
      let i = few-there k g in
      let at : get_or (pad 8 0 row ++ l) (0 + k) 0 ≡ get_or row k 0 = ap (λ z. get_or (pad 8 0 row ++ l) z 0) (zero-add k) ∙ get_or-append (pad 8 0 row) l 0 k (omega (arith, row-eight)) ∙ pad-at 8 0 row k in
      subst (λ q. ModePlaced s q m) (sym at) (in_row k g)

  later_rows : (l : List ℕ) (j k : ℕ) → get_or l (8 * j + k) 0 ≡ get_or (pad 8 0 row ++ l) (8 * suc j + k) 0
  later_rows l j k =
      let i : length (pad 8 0 row) + (8 * j + k) ≡ 8 * suc j + k = omega (arith, row-eight) in
      sym (get_or-append-add (pad 8 0 row) l (8 * j + k) 0) ∙ ap (λ z. get_or (pad 8 0 row ++ l) z 0) i

placed-in : (s : List ℕ) (n p : ℕ) (es : List Equation) {e : List ℕ} → times n read_equation (drop p s) ≡ read es e → (j k : ℕ) {c : Selector} {m : Mode} → get_elem? (selectors_of es) j ≡ some c → get_elem? c.modes k ≡ some m → ModePlaced s (get_or (places_of_mode p es) (8 * j + k) 0) m
unfolding selectors_of places_of_mode
placed-in s n p [] h j k g f = none-not-some g
placed-in s n p (steady r ∷ es) h j k g f = placed-in s (n - 1) (p + length (write_equation (steady r))) es (parts write_equation cuts-equation s p n h).others j k g f
placed-in s n p (choice x ∷ es) h zero k g f = first-row s p (parts write_equation cuts-equation s p n h).first (places_of_mode (p + length (write_equation (choice x))) es) k (ap (λ (c : Selector). get_elem? c.modes k) (some_is g) ∙ f)
placed-in s n p (choice x ∷ es) h (suc j) k {m = m} g f =
    let t = parts write_equation cuts-equation s p n h in
    subst (λ q. ModePlaced s q m) (later_rows s p t.first (places_of_mode (p + length (write_equation (choice x))) es) j k) (placed-in s (n - 1) (p + length (write_equation (choice x))) es t.others j k g f)

pub mode-placed : (s : List ℕ) {es : List Equation} → equations_in s ≡ some es → (j k : ℕ) {c : Selector} {m : Mode} → get_elem? (selectors_of es) j ≡ some c → get_elem? c.modes k ≡ some m → ModePlaced s (get_or (pad 128 0 (places_of_mode 1 es)) (8 * j + k) 0) m
mode-placed s {es} h j k {c} {m} g f = subst (λ q. ModePlaced s q m) (sym (pad-at 128 0 (places_of_mode 1 es) (8 * j + k))) (placed-in s (get_or s 0 0) 1 es (section-at s h).got j k g f)

-- ---- how many there are
selectors-few : (es : List Equation) → length (selectors_of es) ≤ length es
unfolding selectors_of
selectors-few [] = omega arith
selectors-few (steady r ∷ es) = let i = selectors-few es in omega arith
selectors-few (choice c ∷ es) = let i = selectors-few es in omega arith

pub few_selectors : (s : List ℕ) {es : List Equation} → equations_in s ≡ some es → length (selectors_of es) ≤ 16
few_selectors s {es} h =
    let a = section-at s h in
    omega (arith, selectors-few es, a.few, times-length read_equation (get_or s 0 0) (drop 1 s) a.got)

few-in : (s : List ℕ) (n p : ℕ) (es : List Equation) {e : List ℕ} → times n read_equation (drop p s) ≡ read es e → (j : ℕ) {c : Selector} → get_elem? (selectors_of es) j ≡ some c → length c.modes ≤ 8
unfolding selectors_of
few-in s n p [] h j g = none-not-some g
few-in s n p (steady r ∷ es) h j g = few-in s (n - 1) (p + length (write_equation (steady r))) es (parts write_equation cuts-equation s p n h).others j g
few-in s n p (choice x ∷ es) h zero {c} g = subst (λ (c : Selector). length c.modes ≤ 8) (some_is g) (row-few s p (parts write_equation cuts-equation s p n h).first)
few-in s n p (choice x ∷ es) h (suc j) g = few-in s (n - 1) (p + length (write_equation (choice x))) es (parts write_equation cuts-equation s p n h).others j g

pub few-modes-each : (s : List ℕ) {es : List Equation} → equations_in s ≡ some es → (j : ℕ) {c : Selector} → get_elem? (selectors_of es) j ≡ some c → length c.modes ≤ 8
few-modes-each s {es} h j g = few-in s (get_or s 0 0) 1 es (section-at s h).got j g

pub mode-count-at : (es : List Equation) (j : ℕ) {c : Selector} → get_elem? (selectors_of es) j ≡ some c → get_or (pad 16 0 (map mode_count_of (selectors_of es))) j 0 ≡ length c.modes
unfolding mode_count_of
mode-count-at es j g = pad-map-some 16 0 mode_count_of (selectors_of es) j g

-- ---- names
named_in : (variables : ℕ) (es : List Equation) → All (λ e. equation_named variables e ≡ true) es → (j : ℕ) {c : Selector} → get_elem? (selectors_of es) j ≡ some c → equation_named variables (choice c) ≡ true
unfolding selectors_of
named_in variables [] a j g = none-not-some g
named_in variables (steady r ∷ es) (all_cons h a) j g = named_in variables es a j g
named_in variables (choice x ∷ es) (all_cons h a) zero g = subst (λ c. equation_named variables (choice c) ≡ true) (some_is g) h
named_in variables (choice x ∷ es) (all_cons h a) (suc j) g = named_in variables es a j g

pub selector-named : (variables : ℕ) (es : List Equation) → every (equation_named variables) es ≡ true → (j : ℕ) {c : Selector} → get_elem? (selectors_of es) j ≡ some c → equation_named variables (choice c) ≡ true
selector-named variables es h j g = named_in variables es (every-all (equation_named variables) es h) j g

-- What is current, by the rules and by the step: the switch check is a walk over the current truths, and a current rate is one of the rates in force.
use mathlib.Core.Path.{◌≡◌, refl, sym, ap, subst, ◌∙◌}
use mathlib.Core.Bool.{Bool, true, false}
use mathlib.Core.List.Memᴰ
use mathlib.Core.List.Memᴰ.{head as first}
use mathlib.Core.List.Memᴰ.{tail as later}
use mathlib.Core.List.{List, [], ◌∷◌, ◌++◌, map, flat_map, Memᴰ as Mem}
use mathlib.Core.Logic.{◌⊎◌, inl, inr}
use mathlib.Core.Option.{Option, none, some}
use Prim.Native.Nat.{ℕ, zero, suc}
use native.Mathlib.Omega.{arith}
use native.Mathlib.Nat.{zero-add}
use borrow.Author.Tests.{eqb-true, eqb-false}
use lib.Dec.{eqb}
use lib.IntN.{ℤ, pos, ◌+ℤ◌}
use lib.ListN.{get_or, get_elem?}
use Rattle.semantics.specs.Editions.{Edition}
use Rattle.semantics.specs.Expressions.{Value, ok}
use Rattle.semantics.specs.Evaluating.{TruthComesTo}
use Rattle.semantics.specs.Sections.{Rate, Switch, Mode, Selector, Equation, steady, choice}
use Rattle.semantics.specs.Plant.{Plant, selectors_of, selectors, no_such_mode, current_of, current_modes, switch_truths, current_truths, rates_of, rate_among, rate_of, added}
use Rattle.semantics.specs.Rules.{CaseAt, this_case, past_case, past_rate, CurrentSwitch, CurrentRate, own_rate, mode_rate, Before, lower_selector, listed_before, Found, found_fault, Walks, walk_ends, walk-on, stops-at-truth, stops-at-fault, Stops, by-truth, by-fault, Checks, check-ends, check-stops, Added}
use Rattle.semantics.proofs.Facts.{none-not-some, some_is, got}
use Rattle.semantics.proofs.ComesTo.{truth-value}
use Rattle.semantics.proofs.StepParts.{found-walk, added-length, added-each, added-only}

-- ---- switches by their numbers
-- row s has w at place k
data In : List (List Switch) → ℕ → ℕ → Switch → Type 0 where
  in_first : {ws : List Switch} {l : List (List Switch)} {k : ℕ} {w : Switch} → get_elem? ws k ≡ some w → In (ws ∷ l) 0 k w
  in_later : {ws : List Switch} {l : List (List Switch)} {s k : ℕ} {w : Switch} → In l s k w → In (ws ∷ l) (suc s) k w

nowhere : {l : List (List Switch)} {s k : ℕ} {w : Switch} → In l s k w → l ≡ [] → ⊥
nowhere (in_first e) h = let z : ◌≡◌ {A = ℕ} 0 1 = cc in omega arith
nowhere (in_later i) h = let z : ◌≡◌ {A = ℕ} 0 1 = cc in omega arith

truths : List Switch → List (List ℕ)
truths ws = map (λ (w : Switch). w.truth) ws

lower : {s k t l : ℕ} → Before (suc s) k (suc t) l → Before s k t l
lower (lower_selector h) = lower_selector (omega arith)
lower (listed_before h i) = listed_before (omega arith) i

sooner : {k l : ℕ} → Before 0 (suc k) 0 (suc l) → Before 0 k 0 l
sooner (lower_selector h) = absurd (omega arith)
sooner (listed_before h i) = listed_before refl (omega arith)

first-first : {s k l : ℕ} → Before (suc s) k 0 l → ⊥
first-first (lower_selector h) = omega arith
first-first (listed_before h i) = omega arith

nothing-before : {s k : ℕ} → Before s k 0 0 → ⊥
nothing-before (lower_selector h) = omega arith
nothing-before (listed_before h i) = omega arith

data Ordered (s k t l : ℕ) : Type 0 where
  before : Before s k t l → Ordered s k t l
  after : Before t l s k → Ordered s k t l
  level : s ≡ t → k ≡ l → Ordered s k t l

ordered : (s k t l : ℕ) → Ordered s k t l
ordered zero zero zero zero = level refl refl
ordered zero zero zero (suc l) = before (listed_before refl (omega arith))
ordered zero (suc k) zero zero = after (listed_before refl (omega arith))
ordered zero (suc k) zero (suc l) = go (ordered 0 k 0 l)
  where
    go : Ordered 0 k 0 l → Ordered 0 (suc k) 0 (suc l)
    go (before (lower_selector h)) = absurd (omega arith)
    go (before (listed_before h i)) = before (listed_before refl (omega arith))
    go (after (lower_selector h)) = absurd (omega arith)
    go (after (listed_before h i)) = after (listed_before refl (omega arith))
    go (level h i) = level refl (omega arith)
ordered zero k (suc t) l = before (lower_selector (omega arith))
ordered (suc s) k zero l = after (lower_selector (omega arith))
ordered (suc s) k (suc t) l = go (ordered s k t l)
  where
    go : Ordered s k t l → Ordered (suc s) k (suc t) l
    go (before (lower_selector h)) = before (lower_selector (omega arith))
    go (before (listed_before h i)) = before (listed_before (omega arith) i)
    go (after (lower_selector h)) = after (lower_selector (omega arith))
    go (after (listed_before h i)) = after (listed_before (omega arith) i)
    go (level h i) = level (omega arith) i

module _ (ed : Edition) (vs : List ℤ) where
  abbrev False : Switch → Type 0
  False w = TruthComesTo ed vs w.truth (ok false)

  -- a row that is empty, or whose first switch is false, is passed
  skip-row : {l : List (List Switch)} {f : Found} → Checks ed vs (In l) f → Checks ed vs (In ([] ∷ l)) f
  skip-row {l} (check-ends g) = check-ends go
    where
      go : (s k : ℕ) (w : Switch) → In ([] ∷ l) s k w → False w
      go zero k w (in_first e) = none-not-some e
      go (suc s) k w (in_later i) = g s k w i
  skip-row {l} (check-stops {s = s} {k = k} c b e) = check-stops (in_later c) go e
    where
      go : (t j : ℕ) (u : Switch) → Before t j (suc s) k → In ([] ∷ l) t j u → False u
      go zero j u h (in_first e) = none-not-some e
      go (suc t) j u h (in_later i) = b t j u (lower h) i

  skip-switch : {w : Switch} {ws : List Switch} {l : List (List Switch)} {f : Found} → False w → Checks ed vs (In (ws ∷ l)) f → Checks ed vs (In ((w ∷ ws) ∷ l)) f
  skip-switch {w} {ws} {l} h (check-ends g) = check-ends go
    where
      go : (s k : ℕ) (u : Switch) → In ((w ∷ ws) ∷ l) s k u → False u
      go zero zero u (in_first e) = subst False (some_is e) h
      go zero (suc k) u (in_first e) = g 0 k u (in_first e)
      go (suc s) k u (in_later i) = g (suc s) k u (in_later i)
  skip-switch {w} {ws} {l} h (check-stops {k = k} (in_first q) b e) = check-stops {s = 0} {k = suc k} (in_first q) go e
    where
      go : (t j : ℕ) (u : Switch) → Before t j 0 (suc k) → In ((w ∷ ws) ∷ l) t j u → False u
      go zero zero u i (in_first q) = subst False (some_is q) h
      go zero (suc j) u i (in_first q) = b 0 j u (sooner i) (in_first q)
      go (suc t) j u i (in_later q) = absurd (first-first i)
  skip-switch {w} {ws} {l} h (check-stops {k = k} (in_later {s = s} q) b e) = check-stops {s = suc s} {k = k} (in_later q) go e
    where
      go : (t j : ℕ) (u : Switch) → Before t j (suc s) k → In ((w ∷ ws) ∷ l) t j u → False u
      go zero zero u i (in_first q) = subst False (some_is q) h
      go zero (suc j) u i (in_first q) = b 0 j u (lower_selector (omega arith)) (in_first q)
      go (suc t) j u i (in_later q) = b (suc t) j u i (in_later q)

  stops_first : {w : Switch} {ws : List Switch} {l : List (List Switch)} {f : Found} → Stops ed vs w.truth f → Checks ed vs (In ((w ∷ ws) ∷ l)) f
  stops_first e = check-stops {s = 0} {k = 0} (in_first refl) (λ t j u i c. absurd (nothing-before i)) e

  row-checks : (ws : List Switch) {l : List (List Switch)} {rest : List (List ℕ)} {f : Found} → (Walks ed vs rest f → Checks ed vs (In l) f) → Walks ed vs (truths ws ++ rest) f → Checks ed vs (In (ws ∷ l)) f
  unfolding truths
  row-checks [] g h = skip-row (g h)
  row-checks (w ∷ ws) {l} {rest} {f} g h = go h (row-checks ws {l = l} {rest = rest} g)
    where
      go : {d : Found} → Walks ed vs (w.truth ∷ (truths ws ++ rest)) d → (Walks ed vs (truths ws ++ rest) d → Checks ed vs (In (ws ∷ l)) d) → Checks ed vs (In ((w ∷ ws) ∷ l)) d
      go (walk-on e k) ih = skip-switch e (ih k)
      go (stops-at-truth e) ih = stops_first (by-truth e)
      go (stops-at-fault e) ih = stops_first (by-fault e)

  rows-check : (l : List (List Switch)) {f : Found} → Walks ed vs (flat_map truths l) f → Checks ed vs (In l) f
  unfolding flat_map
  rows-check [] walk_ends = check-ends (λ s k w i. absurd (nowhere i refl))
  rows-check (ws ∷ l) h = row-checks ws (λ k. rows-check l k) h

  -- a check stops at one thing
  comes-once : {t : List ℕ} {a b : Value Bool} → TruthComesTo ed vs t a → TruthComesTo ed vs t b → a ≡ b
  comes-once h k = sym (truth-value ed vs h) ∙ truth-value ed vs k

  stops-not-false : {C : Type 0} {t : List ℕ} {f : Found} → Stops ed vs t f → TruthComesTo ed vs t (ok false) → C
  stops-not-false (by-truth e) h = let i = comes-once e h in let z : ◌≡◌ {A = ℕ} 0 1 = cc in absurd (omega arith)
  stops-not-false (by-fault e) h = let i = comes-once e h in let z : ◌≡◌ {A = ℕ} 0 1 = cc in absurd (omega arith)

  stops-once : {t : List ℕ} {f g : Found} → Stops ed vs t f → Stops ed vs t g → f ≡ g
  stops-once (by-truth e) (by-truth h) = refl
  stops-once (by-truth e) (by-fault h) = let i = comes-once e h in let z : ◌≡◌ {A = ℕ} 0 1 = cc in absurd (omega arith)
  stops-once (by-fault e) (by-truth h) = let i = comes-once e h in let z : ◌≡◌ {A = ℕ} 0 1 = cc in absurd (omega arith)
  stops-once (by-fault {side = a} e) (by-fault {side = b} h) = let i = comes-once e h in let z : a ≡ b = cc in ap found_fault z

  in-once : {l : List (List Switch)} {s t k j : ℕ} {w u : Switch} → In l s k w → In l t j u → s ≡ t → k ≡ j → w ≡ u
  in-once (in_first e) (in_first h) a b = some_is (sym e ∙ (rw b h))
  in-once (in_first e) (in_later h) a b = absurd (omega arith)
  in-once (in_later e) (in_first h) a b = absurd (omega arith)
  in-once (in_later e) (in_later h) a b = in-once e h (omega arith) b

  checks-once : {l : List (List Switch)} {f g : Found} → Checks ed vs (In l) f → Checks ed vs (In l) g → f ≡ g
  checks-once (check-ends h) (check-ends i) = refl
  checks-once (check-ends h) (check-stops c b e) = stops-not-false e (h _ _ _ c)
  checks-once (check-stops c b e) (check-ends h) = stops-not-false e (h _ _ _ c)
  checks-once {l} {f} {g} (check-stops {s = s} {k = k} {w = w} c b e) (check-stops {s = t} {k = j} {w = u} d a h) = go (ordered s k t j)
    where
      go : Ordered s k t j → f ≡ g
      go (before i) = stops-not-false e (a s k w i c)
      go (after i) = stops-not-false h (b t j u i d)
      go (level m n) = stops-once e (subst (λ (x : Switch). Stops ed vs x.truth g) (in-once d c (sym m) (sym n)) h)

  check-rows : (l : List (List Switch)) {f : Found} → Checks ed vs (In l) f → Walks ed vs (flat_map truths l) f
  check-rows l {f} h =
      let w = found-walk ed vs (flat_map truths l) in
      subst (λ g. Walks ed vs (flat_map truths l) g) (checks-once (rows-check l w.1) h) w.1

  -- it depends only on which switches are current
  same_check : {C D : ℕ → ℕ → Switch → Type 0} {f : Found} → ((s k : ℕ) (w : Switch) → C s k w → D s k w) → ((s k : ℕ) (w : Switch) → D s k w → C s k w) → Checks ed vs C f → Checks ed vs D f
  same_check to from (check-ends h) = check-ends (λ s k w d. h s k w (from s k w d))
  same_check to from (check-stops {s = s} {k = k} {w = w} c b e) = check-stops (to s k w c) (λ t l u i d. b t l u i (from t l u d)) e

-- ---- the current modes
missing : {A : Type 0} (l : List A) (n : ℕ) (d : A) → get_elem? l n ≡ none → get_or l n d ≡ d
missing [] n d h = refl
missing (y ∷ l) zero d h = none-not-some (sym h)
missing (y ∷ l) (suc n) d h = missing l n d h

rows : List Equation → List ℕ → List (List Switch)
rows es ms = map (λ (m : Mode). m.switches) (current_of (selectors_of es) ms)

current-in : {es : List Equation} {s : ℕ} {c : Selector} → CaseAt es s c → (ms : List ℕ) {n k : ℕ} {m : Mode} {w : Switch} → get_elem? ms s ≡ some n → get_elem? c.modes n ≡ some m →
    get_elem? m.switches k ≡ some w → In (rows es ms) s k w
unfolding rows current_of selectors_of
current-in this_case [] h i j = none-not-some h
current-in (this_case {c = c}) (n ∷ ms) {k = k} {m = m} {w = w} h i j =
    let e : get_elem? c.modes n ≡ some m = rw (some_is h) i in
    let f : get_elem? (get_or c.modes n no_such_mode).switches k ≡ some w = rw (got c.modes n no_such_mode e) j in
    in_first f
current-in (past_case a) [] h i j = none-not-some h
current-in (past_case a) (n ∷ ms) h i j = in_later (current-in a ms h i j)
current-in (past_rate a) ms h i j = current-in a ms h i j

-- row s is that of a CASE and its mode
record Row (es : List Equation) (ms : List ℕ) (s k : ℕ) (w : Switch) : Type 0 where
  selector : Selector
  number : ℕ
  mode : Mode
  is_selector : CaseAt es s selector
  is_number : get_elem? ms s ≡ some number
  is_mode : get_elem? selector.modes number ≡ some mode
  is_switch : get_elem? mode.switches k ≡ some w

in-current : (es : List Equation) (ms : List ℕ) {s k : ℕ} {w : Switch} → In (rows es ms) s k w → Row es ms s k w
unfolding rows current_of selectors_of
in-current [] ms i = absurd (nowhere i refl)
in-current (steady r ∷ es) ms i =
    let q = in-current es ms i in
    record { selector = q.selector; number = q.number; mode = q.mode; is_selector = past_rate q.is_selector; is_number = q.is_number; is_mode = q.is_mode; is_switch = q.is_switch }
in-current (choice c ∷ es) [] i = absurd (nowhere i refl)
in-current (choice c ∷ es) (n ∷ ms) (in_first {k = k} {w = w} e) = go (get_elem? c.modes n) refl
  where
    go : (o : Option Mode) → get_elem? c.modes n ≡ o → Row (choice c ∷ es) (n ∷ ms) 0 k w
    go none h = none-not-some (rw (missing c.modes n no_such_mode h) at e)
    go (some m) h = record { selector = c; number = n; mode = m; is_selector = this_case; is_number = refl; is_mode = h; is_switch = rw (got c.modes n no_such_mode h) at e }
in-current (choice c ∷ es) (n ∷ ms) (in_later i) =
    let q = in-current es ms i in
    record { selector = q.selector; number = q.number; mode = q.mode; is_selector = past_case q.is_selector; is_number = q.is_number; is_mode = q.is_mode; is_switch = q.is_switch }

module _ (p : Plant) (ms : List ℕ) where
  to_row : {s k : ℕ} {w : Switch} → CurrentSwitch p ms s k w → In (rows p.equations ms) s k w
  to_row h = current-in h.is_current.is_selector ms h.is_current.is_number h.is_current.is_mode h.is_switch

  from_row : {s k : ℕ} {w : Switch} → In (rows p.equations ms) s k w → CurrentSwitch p ms s k w
  from_row i =
      let q = in-current p.equations ms i in
      record { mode = q.mode; is_current = record { selector = q.selector; number = q.number; is_selector = q.is_selector; is_number = q.is_number; is_mode = q.is_mode }; is_switch = q.is_switch }

flat_rows : (l : List Mode) → flat_map truths (map (λ (m : Mode). m.switches) l) ≡ flat_map switch_truths l
unfolding flat_map truths switch_truths
flat_rows [] = refl
flat_rows (m ∷ l) = ap (λ k. truths m.switches ++ k) (flat_rows l)

rows-truths : (p : Plant) (ms : List ℕ) → flat_map truths (rows p.equations ms) ≡ current_truths (current_modes p ms)
unfolding rows current_truths current_modes selectors
rows-truths p ms = flat_rows (current_of (selectors_of p.equations) ms)

-- the switch check of the rules is the step's walk
module _ {ed : Edition} {p : Plant} {vs : List ℤ} {ms : List ℕ} {f : Found} where
  pub check-walk : Checks ed vs (CurrentSwitch p ms) f → Walks ed vs (current_truths (current_modes p ms)) f
  check-walk h =
      let i = same_check ed vs (λ s k w c. to_row p ms c) (λ s k w c. from_row p ms c) h in
      subst (λ ts. Walks ed vs ts f) (rows-truths p ms) (check-rows ed vs (rows p.equations ms) i)

  pub walk-check : Walks ed vs (current_truths (current_modes p ms)) f → Checks ed vs (CurrentSwitch p ms) f
  walk-check h =
      let i = rows-check ed vs (rows p.equations ms) (subst (λ ts. Walks ed vs ts f) (sym (rows-truths p ms)) h) in
      same_check ed vs (λ s k w c. from_row p ms c) (λ s k w c. to_row p ms c) i

pub found-check : (ed : Edition) (p : Plant) (vs : List ℤ) (ms : List ℕ) → (f : Found) × Checks ed vs (CurrentSwitch p ms) f
found-check ed p vs ms = let w = found-walk ed vs (current_truths (current_modes p ms)) in (w.0, walk-check w.1)

-- ---- a switch event's switch
in-of : (l : List Mode) (s : ℕ) {k : ℕ} {m : Mode} {w : Switch} → get_elem? l s ≡ some m → get_elem? m.switches k ≡ some w → In (map (λ (m : Mode). m.switches) l) s k w
in-of [] s h i = none-not-some h
in-of (x ∷ l) zero {k = k} {w = w} h i = let j : get_elem? x.switches k ≡ some w = rw (some_is h) i in in_first j
in-of (x ∷ l) (suc s) h i = in_later (in-of l s h i)

of-in : (l : List Mode) {s k : ℕ} {w : Switch} → In (map (λ (m : Mode). m.switches) l) s k w → (m : Mode) × (get_elem? l s ≡ some m) × (get_elem? m.switches k ≡ some w)
of-in [] i = absurd (nowhere i refl)
of-in (x ∷ l) (in_first e) = (x, refl, e)
of-in (x ∷ l) (in_later i) = of-in l i

module _ (p : Plant) (ms : List ℕ) (s k : ℕ) {w : Switch} where
  pub is_current : {m : Mode} → get_elem? (current_modes p ms) s ≡ some m → get_elem? m.switches k ≡ some w → CurrentSwitch p ms s k w
  unfolding current_modes selectors rows
  is_current h i = from_row p ms (in-of (current_modes p ms) s h i)

  pub current-is : CurrentSwitch p ms s k w → (m : Mode) × (get_elem? (current_modes p ms) s ≡ some m) × (get_elem? m.switches k ≡ some w)
  unfolding current_modes selectors rows
  current-is c = of-in (current_modes p ms) (to_row p ms c)

-- ---- rates
-- one of the rates in force
pub record Rated (l : List Rate) (v : ℕ) (z : ℤ) : Type 0 where
  pub rate : Rate
  pub listed : Mem rate l
  pub drives_it : rate.driven ≡ v
  pub is_rate : rate.rate ≡ z

own_in : (es : List Equation) {r : Rate} → Mem (steady r) es → (ms : List ℕ) → Mem r (rates_of es ms)
unfolding rates_of
own_in [] m ms = absurd (Memᴰ.not-nil m)
own_in (steady q ∷ es) {r} m ms = go (Memᴰ.cases_cons m) (λ i. own_in es i ms)
  where
    go : (steady r ≡ steady q) ⊎ Mem (steady r) es → (Mem (steady r) es → Mem r (rates_of es ms)) → Mem r (q ∷ rates_of es ms)
    go (inl e) f = let h : r ≡ q = cc in first h
    go (inr i) f = later (f i)
own_in (choice c ∷ es) {r} m [] = go (Memᴰ.cases_cons m) (λ i. own_in es i [])
  where
    go : (steady r ≡ choice c) ⊎ Mem (steady r) es → (Mem (steady r) es → Mem r (rates_of es [])) → Mem r (rates_of es [])
    go (inl e) f = let z : ◌≡◌ {A = ℕ} 0 1 = cc in absurd (omega arith)
    go (inr i) f = f i
own_in (choice c ∷ es) {r} m (n ∷ ms) = go (Memᴰ.cases_cons m) (λ i. own_in es i ms)
  where
    go : (steady r ≡ choice c) ⊎ Mem (steady r) es → (Mem (steady r) es → Mem r (rates_of es ms)) → Mem r ((get_or c.modes n no_such_mode).rates ++ rates_of es ms)
    go (inl e) f = let z : ◌≡◌ {A = ℕ} 0 1 = cc in absurd (omega arith)
    go (inr i) f = Memᴰ.append_right (get_or c.modes n no_such_mode).rates (f i)

mode-in : {es : List Equation} {s : ℕ} {c : Selector} → CaseAt es s c → (ms : List ℕ) {n : ℕ} {m : Mode} {r : Rate} → get_elem? ms s ≡ some n → get_elem? c.modes n ≡ some m → Mem r m.rates →
    Mem r (rates_of es ms)
unfolding rates_of
mode-in this_case [] h i j = none-not-some h
mode-in (this_case {c = c} {es = es}) (n ∷ ms) {m = m} {r = r} h i j =
    let e : get_elem? c.modes n ≡ some m = rw (some_is h) i in
    let k : Mem r (get_or c.modes n no_such_mode).rates = rw (got c.modes n no_such_mode e) j in
    Memᴰ.append_left (rates_of es ms) k
mode-in (past_case a) [] h i j = none-not-some h
mode-in (past_case {d = d} a) (n ∷ ms) h i j = Memᴰ.append_right (get_or d.modes n no_such_mode).rates (mode-in a ms h i j)
mode-in (past_rate a) ms h i j = later (mode-in a ms h i j)

-- where a rate in force comes from
data Source (es : List Equation) (ms : List ℕ) (r : Rate) : Type 0 where
  own : Mem (steady r) es → Source es ms r
  by_mode : {s n : ℕ} {c : Selector} {m : Mode} → CaseAt es s c → get_elem? ms s ≡ some n → get_elem? c.modes n ≡ some m → Mem r m.rates → Source es ms r

source : (es : List Equation) (ms : List ℕ) {r : Rate} → Mem r (rates_of es ms) → Source es ms r
unfolding rates_of
source [] ms m = absurd (Memᴰ.not-nil m)
source (steady q ∷ es) ms {r} m = go (Memᴰ.cases_cons m) (λ i. source es ms i)
  where
    more : Source es ms r → Source (steady q ∷ es) ms r
    more (own i) = own (later i)
    more (by_mode a h i j) = by_mode (past_rate a) h i j

    go : (r ≡ q) ⊎ Mem r (rates_of es ms) → (Mem r (rates_of es ms) → Source es ms r) → Source (steady q ∷ es) ms r
    go (inl e) f = own (first (ap steady e))
    go (inr i) f = more (f i)
source (choice c ∷ es) [] {r} m = more (source es [] m)
  where
    more : Source es [] r → Source (choice c ∷ es) [] r
    more (own i) = own (later i)
    more (by_mode a h i j) = none-not-some h
source (choice c ∷ es) (n ∷ ms) {r} m = go (Memᴰ.append_cases (get_or c.modes n no_such_mode).rates m) (λ i. source es ms i)
  where
    more : Source es ms r → Source (choice c ∷ es) (n ∷ ms) r
    more (own i) = own (later i)
    more (by_mode a h i j) = by_mode (past_case a) h i j

    here : (o : Option Mode) → get_elem? c.modes n ≡ o → Mem r (get_or c.modes n no_such_mode).rates → Source (choice c ∷ es) (n ∷ ms) r
    here none h i = absurd (Memᴰ.not-nil (rw (missing c.modes n no_such_mode h) at i))
    here (some d) h i = by_mode this_case refl h (rw (got c.modes n no_such_mode h) at i)

    go : Mem r (get_or c.modes n no_such_mode).rates ⊎ Mem r (rates_of es ms) → (Mem r (rates_of es ms) → Source es ms r) → Source (choice c ∷ es) (n ∷ ms) r
    go (inl i) f = here (get_elem? c.modes n) refl i
    go (inr i) f = more (f i)

module _ {p : Plant} {ms : List ℕ} {v : ℕ} {z : ℤ} where
  pub rate-in : CurrentRate p ms v z → Rated (rates_of p.equations ms) v z
  rate-in (own_rate {r = r} m e f) = record { rate = r; listed = own_in p.equations m ms; drives_it = e; is_rate = f }
  rate-in (mode_rate {r = r} c m e f) = record { rate = r; listed = mode-in c.is_selector ms c.is_number c.is_mode m; drives_it = e; is_rate = f }

  rate-of : Rated (rates_of p.equations ms) v z → CurrentRate p ms v z
  rate-of q = go (source p.equations ms q.listed)
    where
      go : Source p.equations ms q.rate → CurrentRate p ms v z
      go (own m) = own_rate m q.drives_it q.is_rate
      go (by_mode {n = n} {c = c} a h i j) = mode_rate (record { selector = c; number = n; is_selector = a; is_number = h; is_mode = i }) j q.drives_it q.is_rate

-- the rate that is found is one of them, or there is none and it is 0
pub data RateFound (l : List Rate) (v : ℕ) : Type 0 where
  found_rate : Rated l v (rate_among l v) → RateFound l v
  no_rate : ((z : ℤ) → Rated l v z → ⊥) → rate_among l v ≡ pos 0 → RateFound l v

rated-later : {r : Rate} {l : List Rate} {v : ℕ} {z : ℤ} → Rated l v z → Rated (r ∷ l) v z
rated-later q = record { rate = q.rate; listed = later q.listed; drives_it = q.drives_it; is_rate = q.is_rate }

pub rate-found : (l : List Rate) (v : ℕ) → RateFound l v
unfolding rate_among
rate-found [] v = no_rate (λ z q. Memᴰ.not-nil q.listed) refl
rate-found (r ∷ l) v = go (eqb r.driven v) refl (rate-found l v)
  where
    other : eqb r.driven v ≡ false → ((z : ℤ) → Rated l v z → ⊥) → (z : ℤ) → Rated (r ∷ l) v z → ⊥
    other e f z q = pick (Memᴰ.cases_cons q.listed)
      where
        pick : (q.rate ≡ r) ⊎ Mem q.rate l → ⊥
        pick (inl i) = eqb-false r.driven v e (ap (λ (r : Rate). r.driven) (sym i) ∙ q.drives_it)
        pick (inr i) = f z (record { rate = q.rate; listed = i; drives_it = q.drives_it; is_rate = q.is_rate })

    go : (b : Bool) → eqb r.driven v ≡ b → RateFound l v → RateFound (r ∷ l) v
    go true e f = found_rate (record { rate = r; listed = first refl; drives_it = eqb-true r.driven v e; is_rate = rw (e, rate_among) refl })
    go false e (found_rate q) = found_rate (rw (e, rate_among) (rated-later q))
    go false e (no_rate f h) = no_rate (other e f) (rw (e, rate_among) h)

-- "each driven variable adds its current rate (0 where its CASE's mode gives none)" is the sum with `rate_of`
pub rates-added : (p : Plant) (ms : List ℕ) (vs : List ℤ) → ((v : ℕ) (y z : ℤ) → CurrentRate p ms v y → CurrentRate p ms v z → y ≡ z) → Added p ms vs (added (rate_of p ms) 0 vs)
unfolding rate_of
rates-added p ms vs one = record {
  as_many = added-length (rate_of p ms) 0 vs;
  driven = λ v x z h c. each v x h ∙ ap (λ y. some (x +ℤ y)) (with-rate v z c (rate-found (rates_of p.equations ms) v));
  others = λ v x h f. each v x h ∙ ap (λ y. some (x +ℤ y)) (without v f (rate-found (rates_of p.equations ms) v));
}
  where
    each : (v : ℕ) (x : ℤ) → get_elem? vs v ≡ some x → get_elem? (added (rate_of p ms) 0 vs) v ≡ some (x +ℤ rate_of p ms v)
    each v x h = rw zero-add at (added-each (rate_of p ms) 0 vs v x h)

    with-rate : (v : ℕ) (z : ℤ) → CurrentRate p ms v z → RateFound (rates_of p.equations ms) v → rate_among (rates_of p.equations ms) v ≡ z
    with-rate v z c (found_rate q) = one v _ z (rate-of q) c
    with-rate v z c (no_rate f e) = absurd (f z (rate-in c))

    without : (v : ℕ) → ((z : ℤ) → CurrentRate p ms v z → ⊥) → RateFound (rates_of p.equations ms) v → rate_among (rates_of p.equations ms) v ≡ pos 0
    without v f (found_rate q) = absurd (f _ (rate-of q))
    without v f (no_rate g e) = e

pub added-rates : {p : Plant} {ms : List ℕ} {vs ys : List ℤ} → Added p ms vs ys → ys ≡ added (rate_of p ms) 0 vs
unfolding rate_of
added-rates {p} {ms} {vs} {ys} h = added-only (rate_of p ms) 0 vs ys h.as_many (λ v x g. rw (zero-add v) (go v x g (rate-found (rates_of p.equations ms) v)))
  where
    go : (v : ℕ) (x : ℤ) → get_elem? vs v ≡ some x → RateFound (rates_of p.equations ms) v → get_elem? ys v ≡ some (x +ℤ rate_among (rates_of p.equations ms) v)
    go v x g (found_rate q) = h.driven v x _ g (rate-of q)
    go v x g (no_rate f e) = h.others v x g (λ z c. f z (rate-in c)) ∙ ap (λ y. some (x +ℤ y)) (sym e)

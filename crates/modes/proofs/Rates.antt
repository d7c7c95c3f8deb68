-- Rates put before each other are the rates in force: condition 8 has each variable driven once, so that only which rates there are counts.
use mathlib.Core.Path.{◌≡◌, refl, sym, ap, ◌∙◌}
use mathlib.Core.Bool.{true}
use mathlib.Core.List.Memᴰ
use mathlib.Core.List.Memᴰ.{head as first}
use mathlib.Core.List.Memᴰ.{tail as later}
use mathlib.Core.List.{List, [], ◌∷◌, ◌++◌, flat_map, Memᴰ as Mem}
use mathlib.Core.Logic.{◌⊎◌, inl, inr}
use Prim.Native.Nat.{ℕ}
use lib.IntN.{ℤ}
use lib.ListN.{length, get_or}
use Rattle.semantics.specs.Sections.{Rate, Mode, Selector, Equation, steady, choice}
use Rattle.semantics.specs.Plant.{no_such_mode, driven_once, selectors_of, current_of, rates_of, rate_among}
use Rattle.semantics.proofs.Currents.{Rated, RateFound, found_rate, no_rate, rate-found}
use Rattle.semantics.proofs.OneRate.{one_of}
use Rattle.plant.specs.Equations.{rates_from}
use Rattle.plant.proofs.RateArrays.{rates-same}
use Rattle.modes.specs.Modes.{modes_from, before, Laid, InForce}

-- ---- two lists of the same rates
-- each of the first is in the second
abbrev Within : List Rate → List Rate → Type 0
Within l k = (r : Rate) → Mem r l → Mem r k

rated-in : {l k : List Rate} → Within l k → {v : ℕ} {z : ℤ} → Rated l v z → Rated k v z
rated-in f q = record { rate = q.rate; listed = f q.rate q.listed; drives_it = q.drives_it; is_rate = q.is_rate }

same-rate : (l k : List Rate) → Within l k → Within k l → ((r q : Rate) → Mem r k → Mem q k → r.driven ≡ q.driven → r.rate ≡ q.rate) → (v : ℕ) → rate_among l v ≡ rate_among k v
same-rate l k f g one v = go (rate-found l v) (rate-found k v)
  where
    go : RateFound l v → RateFound k v → rate_among l v ≡ rate_among k v
    go (found_rate a) (found_rate b) = sym a.is_rate ∙ one a.rate b.rate (f a.rate a.listed) b.listed (a.drives_it ∙ sym b.drives_it) ∙ b.is_rate
    go (found_rate a) (no_rate n e) = absurd (n _ (rated-in f a))
    go (no_rate n e) (found_rate b) = absurd (n _ (rated-in g b))
    go (no_rate n e) (no_rate m h) = e ∙ sym h

-- ---- which rates there are
before-parts : (rs l : List Rate) {r : Rate} → Mem r (before rs l) → Mem r rs ⊎ Mem r l
unfolding before
before-parts [] l m = inr m
before-parts (q ∷ rs) l {r} m = go (before-parts rs (q ∷ l) m)
  where
    there : (r ≡ q) ⊎ Mem r l → Mem r (q ∷ rs) ⊎ Mem r l
    there (inl e) = inl (first e)
    there (inr i) = inr i

    go : Mem r rs ⊎ Mem r (q ∷ l) → Mem r (q ∷ rs) ⊎ Mem r l
    go (inl i) = inl (later i)
    go (inr i) = there (Memᴰ.cases_cons i)

before-old : (rs l : List Rate) {r : Rate} → Mem r l → Mem r (before rs l)
unfolding before
before-old [] l m = m
before-old (q ∷ rs) l m = before-old rs (q ∷ l) (later m)

before-new : (rs l : List Rate) {r : Rate} → Mem r rs → Mem r (before rs l)
unfolding before
before-new [] l m = absurd (Memᴰ.not-nil m)
before-new (q ∷ rs) l {r} m = go (Memᴰ.cases_cons m) (λ i. before-new rs (q ∷ l) i)
  where
    go : (r ≡ q) ⊎ Mem r rs → (Mem r rs → Mem r (before rs (q ∷ l))) → Mem r (before rs (q ∷ l))
    go (inl e) f = before-old rs (q ∷ l) (first e)
    go (inr i) f = f i

before-in : (rs l : List Rate) {r : Rate} → Mem r rs ⊎ Mem r l → Mem r (before rs l)
before-in rs l (inl i) = before-new rs l i
before-in rs l (inr i) = before-old rs l i

-- the rates of the current modes
abbrev current : List Equation → List ℕ → List Rate
current es ms = flat_map (λ (m : Mode). m.rates) (current_of (selectors_of es) ms)

no-modes : (cs : List Selector) → current_of cs [] ≡ []
unfolding current_of
no-modes [] = refl
no-modes (c ∷ cs) = refl

in-force : (es : List Equation) (ms : List ℕ) {r : Rate} → Mem r (current es ms) ⊎ Mem r (rates_of es []) → Mem r (rates_of es ms)
unfolding rates_of selectors_of current_of flat_map
in-force [] ms (inl m) = absurd (Memᴰ.not-nil m)
in-force [] ms (inr m) = absurd (Memᴰ.not-nil m)
in-force (steady q ∷ es) ms (inl m) = later (in-force es ms (inl m))
in-force (steady q ∷ es) ms {r} (inr m) = go (Memᴰ.cases_cons m) (λ i. in-force es ms (inr i))
  where
    go : (r ≡ q) ⊎ Mem r (rates_of es []) → (Mem r (rates_of es []) → Mem r (rates_of es ms)) → Mem r (q ∷ rates_of es ms)
    go (inl e) f = first e
    go (inr i) f = later (f i)
in-force (choice c ∷ es) [] (inl m) = absurd (Memᴰ.not-nil m)
in-force (choice c ∷ es) [] (inr m) = in-force es [] (inr m)
in-force (choice c ∷ es) (n ∷ ms) {r} (inl m) = go (Memᴰ.append_cases (get_or c.modes n no_such_mode).rates m) (λ i. in-force es ms (inl i))
  where
    go : Mem r (get_or c.modes n no_such_mode).rates ⊎ Mem r (current es ms) → (Mem r (current es ms) → Mem r (rates_of es ms)) → Mem r ((get_or c.modes n no_such_mode).rates ++ rates_of es ms)
    go (inl i) f = Memᴰ.append_left (rates_of es ms) i
    go (inr i) f = Memᴰ.append_right (get_or c.modes n no_such_mode).rates (f i)
in-force (choice c ∷ es) (n ∷ ms) (inr m) = Memᴰ.append_right (get_or c.modes n no_such_mode).rates (in-force es ms (inr m))

force-parts : (es : List Equation) (ms : List ℕ) {r : Rate} → Mem r (rates_of es ms) → Mem r (current es ms) ⊎ Mem r (rates_of es [])
unfolding rates_of selectors_of current_of flat_map
force-parts [] ms m = absurd (Memᴰ.not-nil m)
force-parts (steady q ∷ es) ms {r} m = go (Memᴰ.cases_cons m) (λ i. force-parts es ms i)
  where
    more : Mem r (current es ms) ⊎ Mem r (rates_of es []) → Mem r (current es ms) ⊎ Mem r (q ∷ rates_of es [])
    more (inl i) = inl i
    more (inr i) = inr (later i)

    go : (r ≡ q) ⊎ Mem r (rates_of es ms) → (Mem r (rates_of es ms) → Mem r (current es ms) ⊎ Mem r (rates_of es [])) → Mem r (current es ms) ⊎ Mem r (q ∷ rates_of es [])
    go (inl e) f = inr (first e)
    go (inr i) f = more (f i)
force-parts (choice c ∷ es) [] {r} m = go (force-parts es [] m) (no-modes (selectors_of es))
  where
    go : Mem r (current es []) ⊎ Mem r (rates_of es []) → current_of (selectors_of es) [] ≡ [] → Mem r [] ⊎ Mem r (rates_of es [])
    go (inl i) e = inl (rw e at i)
    go (inr i) e = inr i
force-parts (choice c ∷ es) (n ∷ ms) {r} m = go (Memᴰ.append_cases (get_or c.modes n no_such_mode).rates m) (λ i. force-parts es ms i)
  where
    more : Mem r (current es ms) ⊎ Mem r (rates_of es []) → Mem r ((get_or c.modes n no_such_mode).rates ++ current es ms) ⊎ Mem r (rates_of es [])
    more (inl i) = inl (Memᴰ.append_right (get_or c.modes n no_such_mode).rates i)
    more (inr i) = inr i

    go : Mem r (get_or c.modes n no_such_mode).rates ⊎ Mem r (rates_of es ms) → (Mem r (rates_of es ms) → Mem r (current es ms) ⊎ Mem r (rates_of es [])) → Mem r ((get_or c.modes n no_such_mode).rates ++ current es ms) ⊎ Mem r (rates_of es [])
    go (inl i) f = inl (Memᴰ.append_left (current es ms) i)
    go (inr i) f = more (f i)

-- ---- the array
pub laid-in-force : {es places ms : List ℕ} {first old new : List ℤ} → old ≡ first → Laid old (flat_map (λ (m : Mode). m.rates) (modes_from es places 0 ms)) new → InForce es places ms first new
laid-in-force {es} {places} {ms} {new = new} f x = rw (← f) (record {
  long = x.long;
  rates = λ eqs once e s. record {
    are = (x.holds (rates_of eqs []) s).are ∙ ap (λ (l : List Mode). rates_from (before (flat_map (λ (m : Mode). m.rates) l) (rates_of eqs [])) 0 (length new)) e ∙ rates-same _ _ (same eqs once) 0 (length new);
  };
})
  where
    same : (eqs : List Equation) → driven_once [] eqs ≡ true → (v : ℕ) → rate_among (before (current eqs ms) (rates_of eqs [])) v ≡ rate_among (rates_of eqs ms) v
    same eqs once = same-rate _ (rates_of eqs ms) (λ r m. in-force eqs ms (before-parts (current eqs ms) (rates_of eqs []) m)) (λ r m. before-in (current eqs ms) (rates_of eqs []) (force-parts eqs ms m)) (λ r q i j d. one_of [] eqs once ms i j d)

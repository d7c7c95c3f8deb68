-- 8: "A variable is in two equations or twice in one mode.": in an accepted plant no variable has two current rates.
use mathlib.Core.Path.{◌≡◌, refl, sym, ap, ◌∙◌}
use mathlib.Core.Bool.{Bool, true, false, not, ◌&&◌}
use mathlib.Core.List.Memᴰ
use mathlib.Core.List.Memᴰ.{head as first}
use mathlib.Core.List.Memᴰ.{tail as later}
use mathlib.Core.List.{List, [], ◌∷◌, ◌++◌, map, flat_map, Memᴰ as Mem}
use mathlib.Core.Logic.{◌⊎◌, inl, inr}
use Prim.Native.Nat.{ℕ, zero, suc}
use lib.IntN.{ℤ}
use lib.ListN.{get_or}
use Rattle.semantics.specs.Editions.{Edition}
use Rattle.semantics.specs.Refusals.{accepted}
use Rattle.semantics.specs.Sections.{Rate, Mode, Equation, steady, choice}
use Rattle.semantics.specs.Plant.{Plant, among, apart, once_after, rates_drive, mode_drives, drives, mode_once, modes_once, driven_once, no_such_mode, rates_of, judge_plant}
use Rattle.semantics.specs.Rules.{CurrentRate}
use Rattle.semantics.proofs.Facts.{true-not-false, and_left, and_right, All, all_nil, all_cons, all-mem, every-all, mem-among}
use Rattle.semantics.proofs.PlantPassed.{plant-passed}
use Rattle.semantics.proofs.Currents.{rate-in}

pub map-mem : {r : Rate} (l : List Rate) → Mem r l → Mem r.driven (map (λ (r : Rate). r.driven) l)
map-mem [] m = absurd (Memᴰ.not-nil m)
map-mem {r} (q ∷ l) m = go (Memᴰ.cases_cons m) (λ i. map-mem l i)
  where
    go : (r ≡ q) ⊎ Mem r l → (Mem r l → Mem r.driven (map (λ (r : Rate). r.driven) l)) → Mem r.driven (q.driven ∷ map (λ (r : Rate). r.driven) l)
    go (inl e) f = first (ap (λ (r : Rate). r.driven) e)
    go (inr i) f = later (f i)

-- ---- one list that names nothing twice
once-step : (m : ℕ) (seen l : List ℕ) → once_after seen (m ∷ l) ≡ true → (Mem m seen → ⊥) × (once_after (m ∷ seen) l ≡ true)
unfolding once_after
once-step m seen l h = go (among m seen) refl h
  where
    go : (b : Bool) → among m seen ≡ b → elim b [ true ↦ false | false ↦ once_after (m ∷ seen) l ] ≡ true → (Mem m seen → ⊥) × (once_after (m ∷ seen) l ≡ true)
    go true e h = true-not-false (sym h)
    go false e h = (λ i. true-not-false (sym (mem-among m seen i) ∙ e), h)

once-apart : (seen l : List ℕ) → once_after seen l ≡ true → {n : ℕ} → Mem n l → Mem n seen → ⊥
once-apart seen [] h i j = Memᴰ.not-nil i
once-apart seen (m ∷ l) h {n} i j =
    let q = once-step m seen l h in
    go q.0 (Memᴰ.cases_cons i) (λ k. once-apart (m ∷ seen) l q.1 k (later j))
  where
    go : (Mem m seen → ⊥) → (n ≡ m) ⊎ Mem n l → (Mem n l → ⊥) → ⊥
    go f (inl e) g = f (rw e at j)
    go f (inr k) g = g k

-- the rates of one mode
once-rate : (seen : List ℕ) (l : List Rate) → once_after seen (map (λ (r : Rate). r.driven) l) ≡ true → {r q : Rate} → Mem r l → Mem q l → r.driven ≡ q.driven → r.rate ≡ q.rate
once-rate seen [] h i j e = absurd (Memᴰ.not-nil i)
once-rate seen (x ∷ l) h {r} {q} i j e =
    let k = once-step x.driven seen (map (λ (r : Rate). r.driven) l) h in
    go k.1 (Memᴰ.cases_cons i) (Memᴰ.cases_cons j) (λ a b. once-rate (x.driven ∷ seen) l k.1 a b e)
  where
    go : once_after (x.driven ∷ seen) (map (λ (r : Rate). r.driven) l) ≡ true → (r ≡ x) ⊎ Mem r l → (q ≡ x) ⊎ Mem q l → (Mem r l → Mem q l → r.rate ≡ q.rate) → r.rate ≡ q.rate
    go k (inl a) (inl b) f = ap (λ (r : Rate). r.rate) (a ∙ sym b)
    go k (inl a) (inr b) f = absurd (once-apart (x.driven ∷ seen) _ k (map-mem l b) (first (sym e ∙ ap (λ (r : Rate). r.driven) a)))
    go k (inr a) (inl b) f = absurd (once-apart (x.driven ∷ seen) _ k (map-mem l a) (first (e ∙ ap (λ (r : Rate). r.driven) b)))
    go k (inr a) (inr b) f = f a b

-- ---- what an equation gives now, and the modes of those after it
here_of : Equation → List ℕ → List Rate
here_of (steady r) ms = r ∷ []
here_of (choice c) [] = []
here_of (choice c) (m ∷ ms) = (get_or c.modes m no_such_mode).rates

rest_of : Equation → List ℕ → List ℕ
rest_of (steady r) ms = ms
rest_of (choice c) [] = []
rest_of (choice c) (m ∷ ms) = ms

rates-split : (e : Equation) (es : List Equation) (ms : List ℕ) → rates_of (e ∷ es) ms ≡ here_of e ms ++ rates_of es (rest_of e ms)
unfolding rates_of here_of rest_of
rates-split (steady r) es ms = refl
rates-split (choice c) es [] = refl
rates-split (choice c) es (m ∷ ms) = refl

mode-driven : (l : List Mode) (n : ℕ) {r : Rate} → Mem r (get_or l n no_such_mode).rates → Mem r.driven (flat_map mode_drives l)
unfolding flat_map rates_drive mode_drives
mode-driven [] n m = absurd (Memᴰ.not-nil m)
mode-driven (x ∷ l) zero m = Memᴰ.append_left (flat_map mode_drives l) (map-mem x.rates m)
mode-driven (x ∷ l) (suc n) m = Memᴰ.append_right (mode_drives x) (mode-driven l n m)

here-driven : (e : Equation) (ms : List ℕ) {r : Rate} → Mem r (here_of e ms) → Mem r.driven (drives e)
unfolding here_of drives
here-driven (steady q) ms m = first (ap (λ (r : Rate). r.driven) (Memᴰ.eq_of_singleton m))
here-driven (choice c) [] m = absurd (Memᴰ.not-nil m)
here-driven (choice c) (n ∷ ms) m = mode-driven c.modes n m

mode-once : {l : List Mode} → All (λ m. once_after [] (mode_drives m) ≡ true) l → (n : ℕ) → once_after [] (mode_drives (get_or l n no_such_mode)) ≡ true
unfolding once_after rates_drive mode_drives
mode-once all_nil n = refl
mode-once (all_cons h p) zero = h
mode-once (all_cons h p) (suc n) = mode-once p n

here-once : (e : Equation) (ms : List ℕ) → modes_once e ≡ true → {r q : Rate} → Mem r (here_of e ms) → Mem q (here_of e ms) → r.driven ≡ q.driven → r.rate ≡ q.rate
unfolding here_of modes_once mode_once rates_drive mode_drives
here-once (steady x) ms h i j e = ap (λ (r : Rate). r.rate) (Memᴰ.eq_of_singleton i ∙ sym (Memᴰ.eq_of_singleton j))
here-once (choice c) [] h i j e = absurd (Memᴰ.not-nil i)
here-once (choice c) (n ∷ ms) h i j e = once-rate [] (get_or c.modes n no_such_mode).rates (mode-once (every-all (λ m. once_after [] (mode_drives m)) c.modes h) n) i j e

-- ---- all equations
apart-mem : (seen l : List ℕ) → apart seen l ≡ true → {n : ℕ} → Mem n l → Mem n seen → ⊥
unfolding apart
apart-mem seen l h {n} m i =
    let a = all-mem (every-all (λ n. not (among n seen)) l h) m in
    true-not-false (sym (rw (mem-among n seen i) at a))

record Distinct (seen : List ℕ) (e : Equation) (es : List Equation) : Type 0 where
  modes : modes_once e ≡ true
  unseen : apart seen (drives e) ≡ true
  others : driven_once (drives e ++ seen) es ≡ true

once-parts : (seen : List ℕ) (e : Equation) (es : List Equation) → driven_once seen (e ∷ es) ≡ true → Distinct seen e es
unfolding driven_once
once-parts seen e es h =
    let a = and_left (modes_once e && apart seen (drives e)) (driven_once (drives e ++ seen) es) h in
    record {
      modes = and_left (modes_once e) (apart seen (drives e)) a;
      unseen = and_right (modes_once e) (apart seen (drives e)) a;
      others = and_right (modes_once e && apart seen (drives e)) (driven_once (drives e ++ seen) es) h;
    }

in_parts : (e : Equation) (es : List Equation) (ms : List ℕ) {r : Rate} → Mem r (rates_of (e ∷ es) ms) → Mem r (here_of e ms) ⊎ Mem r (rates_of es (rest_of e ms))
in_parts e es ms m = Memᴰ.append_cases (here_of e ms) (rw (rates-split e es ms) at m)

not_seen : (seen : List ℕ) (es : List Equation) → driven_once seen es ≡ true → (ms : List ℕ) {r : Rate} → Mem r (rates_of es ms) → Mem r.driven seen → ⊥
unfolding rates_of
not_seen seen [] h ms m i = Memᴰ.not-nil m
not_seen seen (e ∷ es) h ms {r} m i =
    let o = once-parts seen e es h in
    go o (in_parts e es ms m) (λ k. not_seen (drives e ++ seen) es o.others (rest_of e ms) k (Memᴰ.append_right (drives e) i))
  where
    go : Distinct seen e es → Mem r (here_of e ms) ⊎ Mem r (rates_of es (rest_of e ms)) → (Mem r (rates_of es (rest_of e ms)) → ⊥) → ⊥
    go o (inl k) f = apart-mem seen (drives e) o.unseen (here-driven e ms k) i
    go o (inr k) f = f k

pub one_of : (seen : List ℕ) (es : List Equation) → driven_once seen es ≡ true → (ms : List ℕ) {r q : Rate} → Mem r (rates_of es ms) → Mem q (rates_of es ms) → r.driven ≡ q.driven → r.rate ≡ q.rate
unfolding rates_of
one_of seen [] h ms i j e = absurd (Memᴰ.not-nil i)
one_of seen (x ∷ es) h ms {r} {q} i j e =
    let o = once-parts seen x es h in
    go o (in_parts x es ms i) (in_parts x es ms j) (λ a b. one_of (drives x ++ seen) es o.others (rest_of x ms) a b e)
  where
    go : Distinct seen x es → Mem r (here_of x ms) ⊎ Mem r (rates_of es (rest_of x ms)) → Mem q (here_of x ms) ⊎ Mem q (rates_of es (rest_of x ms)) →
        (Mem r (rates_of es (rest_of x ms)) → Mem q (rates_of es (rest_of x ms)) → r.rate ≡ q.rate) → r.rate ≡ q.rate
    go o (inl a) (inl b) f = here-once x ms o.modes a b e
    go o (inl a) (inr b) f = absurd (not_seen (drives x ++ seen) es o.others (rest_of x ms) b (Memᴰ.append_left seen (rw e at (here-driven x ms a))))
    go o (inr a) (inl b) f = absurd (not_seen (drives x ++ seen) es o.others (rest_of x ms) a (Memᴰ.append_left seen (rw (sym e) at (here-driven x ms b))))
    go o (inr a) (inr b) f = f a b

pub one_rate : (ed : Edition) (variables equations : List ℕ) {p : Plant} → judge_plant ed variables equations ≡ accepted p →
    (ms : List ℕ) (v : ℕ) (y z : ℤ) → CurrentRate p ms v y → CurrentRate p ms v z → y ≡ z
one_rate ed variables equations {p} h ms v y z a b =
    let r = rate-in a in
    let q = rate-in b in
    sym r.is_rate ∙ one_of [] p.equations (plant-passed ed variables equations h).once ms r.listed q.listed (r.drives_it ∙ sym q.drives_it) ∙ q.is_rate

-- 5, 7, 8 and 12 of a plant let pass just what their sentences say.
use mathlib.Core.Path.{◌≡◌, refl, sym, ap, subst, ◌∙◌}
use mathlib.Core.Bool.{Bool, true, false, not, ◌&&◌}
use mathlib.Core.List.Memᴰ
use mathlib.Core.List.Memᴰ.{head as first}
use mathlib.Core.List.Memᴰ.{tail as later}
use mathlib.Core.List.{List, [], ◌∷◌, ◌++◌, map, flat_map, Memᴰ as Mem}
use mathlib.Core.Logic.{◌↔◌, ◌⊎◌, inl, inr}
use mathlib.Core.Option.{Option, none, some}
use Prim.Native.Nat.{ℕ, ◌≤◌, ◌<◌}
use borrow.Author.Tests.{ltb-true, lt-ltb}
use lib.Dec.{ltb}
use lib.ListN.{length, get_elem?}
use lib.Signed.{le_z}
use Rattle.semantics.specs.Bytes.{every, is_some}
use Rattle.semantics.specs.Editions.{Edition}
use Rattle.semantics.specs.Expressions.{Number, constant, variable, operate, negation, Truth, compare, connect, opposite, always, number_bytes, truth_bytes, number_depth, truth_depth, number_known, truth_known, number_in, truth_in}
use Rattle.semantics.specs.Sections.{Variable, Rate, Switch, Mode, Selector, Equation, steady, choice}
use Rattle.semantics.specs.Plant.{Plant, ordered, rate_named, switch_named, mode_named, equation_named, among, apart, once_after, rates_drive, mode_drives, drives, mode_once, modes_once, driven_once, is_driven_in, switch_reads, mode_reads, equation_reads, switches_read, mode_exists_in}
use Rattle.semantics.specs.Rules.{InRange}
use Rattle.semantics.specs.Writing.{AllBytes, ModeLimits, SelectorLimits, PayloadLimits, steady_within, choice_within, EquationLimits}
use Rattle.semantics.specs.Proper.{NamesKnown, known_constant, known_variable, known_operands, known_negation, TruthNamesKnown, known_numbers, known_truths, known_opposite, known_always, IsTruth, IsNumber, NamedInMode, Named, named_steady, named_choice, Distinct, distinct_nil, distinct_cons, OnceInModes, once_steady, once_choice, Drives, drives_always, drives_in_mode, Apart, apart_nil, apart_cons, DrivenOnce, Driven, TruthsInMode, Truths, truths_steady, truths_choice, ProperPlant, ModeThere}
use Rattle.semantics.proofs.Facts.{true-not-false, by_cases, and_left, and_right, and_both, every-all, all-every, among-mem, mem-among, All, all_nil, all_cons, all_map, all-mem}
use Rattle.semantics.proofs.OneRate.{map-mem}
use Rattle.semantics.proofs.ExpressionBytes.{number_is, truth_is, expression-bytes, truth-bytes}

-- ---- a test of each element, and a relation of each
pub every-is : {A : Type 0} {P : A → Type 0} {F : A → Type 0} (t : A → Bool) → ((a : A) → F a → (t a ≡ true) ↔ P a) → {l : List A} → All F l → (every t l ≡ true) ↔ All P l
every-is {A} {P} {F} t h {l} f = (λ e. there f (every-all t l e), λ p. all-every t (here f p))
  where
    there : {l : List A} → All F l → All (λ a. t a ≡ true) l → All P l
    there all_nil all_nil = all_nil
    there (all_cons {x = a} i f) (all_cons j q) = all_cons ((h a i).0 j) (there f q)

    here : {l : List A} → All F l → All P l → All (λ a. t a ≡ true) l
    here all_nil all_nil = all_nil
    here (all_cons {x = a} i f) (all_cons j q) = all_cons ((h a i).1 j) (here f q)

-- nothing asked of the elements
pub all_any : {A : Type 0} (l : List A) → All (λ a. Unit {0}) l
all_any [] = all_nil
all_any (a ∷ l) = all_cons tt (all_any l)

pub every-plain : {A : Type 0} {P : A → Type 0} (t : A → Bool) → ((a : A) → (t a ≡ true) ↔ P a) → (l : List A) → (every t l ≡ true) ↔ All P l
every-plain t h l = every-is t (λ a u. h a) (all_any l)

pub below : (n m : ℕ) → (ltb n m ≡ true) ↔ (n < m)
below n m = (ltb-true n m, lt-ltb n m)

-- ---- 12
module _ (variables : ℕ) where
  names-there : (e : Number) → number_known variables e ≡ true → NamesKnown variables e
  unfolding number_known
  names-there (constant z) h = known_constant h
  names-there (variable v) h = known_variable (ltb-true v variables h)
  names-there (operate o a b) h =
      known_operands (names-there a (and_left (number_known variables a) (number_known variables b) h)) (names-there b (and_right (number_known variables a) (number_known variables b) h))
  names-there (negation a) h = known_negation (names-there a h)

  names-here : {e : Number} → NamesKnown variables e → number_known variables e ≡ true
  unfolding number_known
  names-here (known_constant h) = h
  names-here (known_variable {v = v} h) = lt-ltb v variables h
  names-here (known_operands h k) = and_both (names-here h) (names-here k)
  names-here (known_negation h) = names-here h

  truth-names-there : (e : Truth) → truth_known variables e ≡ true → TruthNamesKnown variables e
  unfolding truth_known
  truth-names-there (compare c a b) h =
      known_numbers (names-there a (and_left (number_known variables a) (number_known variables b) h)) (names-there b (and_right (number_known variables a) (number_known variables b) h))
  truth-names-there (connect c a b) h =
      known_truths (truth-names-there a (and_left (truth_known variables a) (truth_known variables b) h)) (truth-names-there b (and_right (truth_known variables a) (truth_known variables b) h))
  truth-names-there (opposite a) h = known_opposite (truth-names-there a h)
  truth-names-there always h = known_always

  truth-names-here : {e : Truth} → TruthNamesKnown variables e → truth_known variables e ≡ true
  unfolding truth_known
  truth-names-here (known_numbers h k) = and_both (names-here h) (names-here k)
  truth-names-here (known_truths h k) = and_both (truth-names-here h) (truth-names-here k)
  truth-names-here (known_opposite h) = truth-names-here h
  truth-names-here known_always = refl

module _ (ed : Edition) (variables : ℕ) where
  -- bytes are read as this expression just where they are its encoding
  pub number-written : (s : List ℕ) (e : Number) → AllBytes s → (number_in ed variables s ≡ some e) ↔ ((number_bytes ed e ≡ s) × (number_depth e ≤ 16) × NamesKnown variables e)
  number-written s e z = let k = number_is ed variables s e z in (
    λ h. (let i = k.0 h in (i.0, i.1, names-there variables e i.2)),
    λ h. k.1 (h.0, h.1, names-here variables h.2),
  )

  pub truth-written : (s : List ℕ) (e : Truth) → AllBytes s → (truth_in ed variables s ≡ some e) ↔ ((truth_bytes ed e ≡ s) × (truth_depth e ≤ 16) × TruthNamesKnown variables e)
  truth-written s e z = let k = truth_is ed variables s e z in (
    λ h. (let i = k.0 h in (i.0, i.1, truth-names-there variables e i.2)),
    λ h. k.1 (h.0, h.1, truth-names-here variables h.2),
  )

  pub truth-read : (s : List ℕ) → AllBytes s → (is_some (truth_in ed variables s) ≡ true) ↔ IsTruth ed variables s
  truth-read s z = let k = truth-bytes ed variables s z in (
    λ h. (let i = k.0 h in record { truth = i.0; written = i.1; depth = i.2; known = truth-names-there variables i.0 i.3 }),
    λ h. k.1 (h.truth, h.written, h.depth, truth-names-here variables h.known),
  )

  pub number_read : (s : List ℕ) → AllBytes s → (is_some (number_in ed variables s) ≡ true) ↔ IsNumber ed variables s
  number_read s z = let k = expression-bytes ed variables s z in (
    λ h. (let i = k.0 h in record { number = i.0; written = i.1; depth = i.2; known = names-there variables i.0 i.3 }),
    λ h. k.1 (h.number, h.written, h.depth, names-here variables h.known),
  )

-- ---- 5
pub ordered-is : (x : Variable) → (ordered x ≡ true) ↔ InRange x x.initial
unfolding ordered
ordered-is x =
    let a = le_z x.minimum x.initial in
    let b = le_z x.initial x.maximum in
    (λ h. record { not_below = and_left a b h; not_above = and_right a b h }, λ h. and_both h.not_below h.not_above)

-- ---- 8
-- no number of the second list stands in the first
abbrev Without : List ℕ → List ℕ → Type 0
Without seen l = (n : ℕ) → Mem n l → Mem n seen → ⊥

not-among : (n : ℕ) (l : List ℕ) → (among n l ≡ false) ↔ (Mem n l → ⊥)
not-among n l = (λ h m. true-not-false (sym (mem-among n l m) ∙ h), λ h. by_cases (among n l) (λ e. absurd (h (among-mem n l e))) (λ e. e))

once-there : (seen l : List ℕ) → once_after seen l ≡ true → Distinct l × Without seen l
unfolding once_after
once-there seen [] h = (distinct_nil, λ n m k. Memᴰ.not-nil m)
once-there seen (n ∷ l) h = go (among n seen) refl h (λ k. once-there (n ∷ seen) l k)
  where
    split : (among n seen ≡ false) → Distinct l × Without (n ∷ seen) l → Distinct (n ∷ l) × Without seen (n ∷ l)
    split e k = (distinct_cons (λ m. k.1 n m (first refl)) k.0, λ x m s. at x s (Memᴰ.cases_cons m))
      where
        at : (x : ℕ) → Mem x seen → (x ≡ n) ⊎ Mem x l → ⊥
        at x s (inl f) = (not-among n seen).0 e (subst (λ x. Mem x seen) f s)
        at x s (inr m) = k.1 x m (later s)

    go : (b : Bool) → among n seen ≡ b → elim b [ true ↦ false | false ↦ once_after (n ∷ seen) l ] ≡ true → (once_after (n ∷ seen) l ≡ true → Distinct l × Without (n ∷ seen) l) → Distinct (n ∷ l) × Without seen (n ∷ l)
    go true e h ih = true-not-false (sym h)
    go false e h ih = split e (ih h)

once-here : (seen : List ℕ) {l : List ℕ} → Distinct l → Without seen l → once_after seen l ≡ true
unfolding once_after
once-here seen distinct_nil w = refl
once-here seen (distinct_cons {x = n} {l = l} h k) w = rw ((not-among n seen).1 (w n (first refl)), once_after) (once-here (n ∷ seen) k more)
  where
    more : Without (n ∷ seen) l
    more x m s = at (Memᴰ.cases_cons s)
      where
        at : (x ≡ n) ⊎ Mem x seen → ⊥
        at (inl f) = h (subst (λ x. Mem x l) f m)
        at (inr s) = w x (later m) s

mode-once : (m : Mode) → (once_after [] (mode_drives m) ≡ true) ↔ Distinct (map (λ (r : Rate). r.driven) m.rates)
unfolding rates_drive mode_drives
mode-once m = (λ h. (once-there [] (mode_drives m) h).0, λ h. once-here [] h (λ n k e. Memᴰ.not-nil e))

apart-is : (seen l : List ℕ) → (apart seen l ≡ true) ↔ Without seen l
unfolding apart
apart-is seen l = (λ h n m. (not-among n seen).0 (flip (among n seen) (all-mem (every-all (λ n. not (among n seen)) l h) m)), λ w. all-every (λ n. not (among n seen)) (here l w))
  where
    flip : (b : Bool) → not b ≡ true → b ≡ false
    flip true e = sym e
    flip false e = refl

    here : (l : List ℕ) → Without seen l → All (λ n. not (among n seen) ≡ true) l
    here [] w = all_nil
    here (n ∷ l) w = all_cons (ap not ((not-among n seen).1 (w n (first refl)))) (here l (λ x m. w x (later m)))

-- ---- a variable is in an equation where it is in the equation's list
rate-there : (l : List Rate) (n : ℕ) → Mem n (map (λ (r : Rate). r.driven) l) → (r : Rate) × Mem r l × (r.driven ≡ n)
rate-there [] n m = absurd (Memᴰ.not-nil m)
rate-there (r ∷ l) n m = go (Memᴰ.cases_cons m) (rate-there l n)
  where
    go : (n ≡ r.driven) ⊎ Mem n (map (λ (r : Rate). r.driven) l) → (Mem n (map (λ (r : Rate). r.driven) l) → (q : Rate) × Mem q l × (q.driven ≡ n)) → (q : Rate) × Mem q (r ∷ l) × (q.driven ≡ n)
    go (inl e) f = (r, first refl, sym e)
    go (inr m) f = let p = f m in (p.0, later p.1, p.2)

-- in the lists of all where it is in that of one
flat-there : {A : Type 0} (f : A → List ℕ) (l : List A) (n : ℕ) → Mem n (flat_map f l) → (x : A) × Mem x l × Mem n (f x)
unfolding flat_map
flat-there f [] n i = absurd (Memᴰ.not-nil i)
flat-there {A} f (x ∷ l) n i = go (Memᴰ.append_cases (f x) i) (flat-there f l n)
  where
    go : Mem n (f x) ⊎ Mem n (flat_map f l) → (Mem n (flat_map f l) → (y : A) × Mem y l × Mem n (f y)) → (y : A) × Mem y (x ∷ l) × Mem n (f y)
    go (inl i) h = (x, first refl, i)
    go (inr i) h = let p = h i in (p.0, later p.1, p.2)

flat-here : {A : Type 0} (f : A → List ℕ) {x : A} {n : ℕ} {l : List A} → Mem x l → Mem n (f x) → Mem n (flat_map f l)
unfolding flat_map
flat-here f {n = n} (first {xs = l} e) i = Memᴰ.append_left (flat_map f l) (subst (λ x. Mem n (f x)) e i)
flat-here f (later {x = x} k) i = Memᴰ.append_right (f x) (flat-here f k i)

drives-there : (e : Equation) (n : ℕ) → Mem n (drives e) → Drives e n
unfolding drives rates_drive mode_drives
drives-there (steady r) n m = drives_always (sym (Memᴰ.eq_of_singleton m))
drives-there (choice c) n m =
    let p = flat-there mode_drives c.modes n m in
    let q = rate-there p.0.rates n p.2 in
    drives_in_mode p.1 q.1 q.2

drives-here : {e : Equation} {n : ℕ} → Drives e n → Mem n (drives e)
unfolding drives rates_drive mode_drives
drives-here (drives_always h) = first (sym h)
drives-here (drives_in_mode {m = m} i j h) = flat-here mode_drives i (subst (λ n. Mem n (mode_drives m)) h (map-mem m.rates j))

-- document 02, item 3: a variable is driven where it is in some equation
pub driven_is : (es : List Equation) (v : ℕ) → (is_driven_in es v ≡ true) ↔ Driven es v
unfolding is_driven_in
driven_is es v = (
  λ h. (let p = flat-there drives es v (among-mem v (flat_map drives es) h) in record { equation = p.0; listed = p.1; names = drives-there p.0 v p.2 }),
  λ d. mem-among v (flat_map drives es) (flat-here drives d.listed (drives-here d.names)),
)

-- wherever its rate stands: in an equation of kind 1, in any mode of a CASE
pub driven-anywhere : (r : Rate) (before behind : List Equation) → is_driven_in (before ++ (steady r ∷ behind)) r.driven ≡ true
driven-anywhere r before behind = (driven_is _ r.driven).1 (record { equation = steady r; listed = Memᴰ.append_right before (first refl); names = drives_always refl })

pub driven-in-any-mode : (r : Rate) (rs qs : List Rate) (ws : List Switch) (ms ns : List Mode) (initial : ℕ) (before behind : List Equation) →
    is_driven_in (before ++ (choice (record { initial = initial; modes = ms ++ (record { rates = rs ++ (r ∷ qs); switches = ws } ∷ ns) }) ∷ behind)) r.driven ≡ true
driven-in-any-mode r rs qs ws ms ns initial before behind = (driven_is _ r.driven).1 (record {
  equation = choice (record { initial = initial; modes = ms ++ (record { rates = rs ++ (r ∷ qs); switches = ws } ∷ ns) });
  listed = Memᴰ.append_right before (first refl);
  names = drives_in_mode (Memᴰ.append_right ms (first refl)) (Memᴰ.append_right rs (first refl)) refl;
})

-- no equation drives what is in the list
abbrev NotAmong : List ℕ → List Equation → Type 0
NotAmong seen es = (f : Equation) (n : ℕ) → Mem f es → Mem n (drives f) → Mem n seen → ⊥

driven-there : (seen : List ℕ) (es : List Equation) → driven_once seen es ≡ true → All (λ e. modes_once e ≡ true) es × NotAmong seen es × Apart es
unfolding driven_once
driven-there seen [] h = (all_nil, λ f n m. absurd (Memᴰ.not-nil m), apart_nil)
driven-there seen (e ∷ es) h = join (driven-there (drives e ++ seen) es (and_right (modes_once e && apart seen (drives e)) (driven_once (drives e ++ seen) es) h))
  where
    both : (modes_once e && apart seen (drives e)) ≡ true
    both = and_left (modes_once e && apart seen (drives e)) (driven_once (drives e ++ seen) es) h

    here : Without seen (drives e)
    here = (apart-is seen (drives e)).0 (and_right (modes_once e) (apart seen (drives e)) both)

    join : All (λ e. modes_once e ≡ true) es × NotAmong (drives e ++ seen) es × Apart es → All (λ e. modes_once e ≡ true) (e ∷ es) × NotAmong seen (e ∷ es) × Apart (e ∷ es)
    join k = (all_cons (and_left (modes_once e) (apart seen (drives e)) both) k.0, λ f n m d s. at f n d s (Memᴰ.cases_cons m), apart_cons (λ f n m d s. k.1 f n m (drives-here d) (Memᴰ.append_left seen (drives-here s))) k.2)
      where
        at : (f : Equation) (n : ℕ) → Mem n (drives f) → Mem n seen → (f ≡ e) ⊎ Mem f es → ⊥
        at f n d s (inl i) = here n (subst (λ f. Mem n (drives f)) i d) s
        at f n d s (inr m) = k.1 f n m d (Memᴰ.append_right (drives e) s)

driven-here : (seen : List ℕ) {es : List Equation} → All (λ e. modes_once e ≡ true) es → NotAmong seen es → Apart es → driven_once seen es ≡ true
unfolding driven_once
driven-here seen all_nil w apart_nil = refl
driven-here seen (all_cons {x = e} {l = es} h k) w (apart_cons a b) =
    and_both (and_both h ((apart-is seen (drives e)).1 (λ n d s. w e n (first refl) d s))) (driven-here (drives e ++ seen) k more b)
  where
    more : NotAmong (drives e ++ seen) es
    more f n m d s = at (Memᴰ.append_cases (drives e) s)
      where
        at : Mem n (drives e) ⊎ Mem n seen → ⊥
        at (inl s) = a f n m (drives-there f n d) (drives-there e n s)
        at (inr s) = w f n (later m) d s

-- ---- 5, 7, 8 and 12 of a plant, one by one
pub all-ordered : (xs : List Variable) → (every ordered xs ≡ true) ↔ All (λ (x : Variable). InRange x x.initial) xs
all-ordered xs = every-plain ordered ordered-is xs

mode-named : (variables modes : ℕ) (m : Mode) → (mode_named variables modes m ≡ true) ↔ NamedInMode variables modes m
unfolding mode_named rate_named switch_named
mode-named variables modes m =
    let a = every (rate_named variables) m.rates in
    let b = every (switch_named modes) m.switches in
    let j = every-plain (rate_named variables) (λ r. below r.driven variables) m.rates in
    let k = every-plain (switch_named modes) (λ w. below w.target modes) m.switches in
    (λ h. record { rates = j.0 (and_left a b h); targets = k.0 (and_right a b h) }, λ h. and_both (j.1 h.rates) (k.1 h.targets))

named-there : (variables : ℕ) (e : Equation) → equation_named variables e ≡ true → Named variables e
unfolding equation_named rate_named
named-there variables (steady r) h = named_steady (ltb-true r.driven variables h)
named-there variables (choice c) h =
    let n = length c.modes in
    let a = ltb c.initial n in
    let b = every (mode_named variables n) c.modes in
    named_choice (record { exists = ltb-true c.initial n (and_left a b h) }) ((every-plain (mode_named variables n) (mode-named variables n) c.modes).0 (and_right a b h))

named_here : (variables : ℕ) {e : Equation} → Named variables e → equation_named variables e ≡ true
unfolding equation_named rate_named
named_here variables (named_steady {r = r} h) = lt-ltb r.driven variables h
named_here variables (named_choice {c = c} h k) =
    let n = length c.modes in
    and_both (lt-ltb c.initial n h.exists) ((every-plain (mode_named variables n) (mode-named variables n) c.modes).1 k)

pub all_named : (variables : ℕ) (es : List Equation) → (every (equation_named variables) es ≡ true) ↔ All (Named variables) es
all_named variables es = every-plain (equation_named variables) (λ e. (named-there variables e, named_here variables)) es

modes-once-there : (e : Equation) → modes_once e ≡ true → OnceInModes e
unfolding modes_once mode_once
modes-once-there (steady r) h = once_steady
modes-once-there (choice c) h = once_choice ((every-plain (λ m. once_after [] (mode_drives m)) mode-once c.modes).0 h)

modes-once-here : {e : Equation} → OnceInModes e → modes_once e ≡ true
unfolding modes_once mode_once
modes-once-here once_steady = refl
modes-once-here (once_choice {c = c} h) = (every-plain (λ m. once_after [] (mode_drives m)) mode-once c.modes).1 h

pub driven-once : (es : List Equation) → (driven_once [] es ≡ true) ↔ DrivenOnce es
driven-once es = (
  λ h. (let d = driven-there [] es h in record { in_modes = all_map modes-once-there d.0; apart = d.2 }),
  λ h. driven-here [] (all_map (λ e k. modes-once-here k) h.in_modes) (λ f n m d s. Memᴰ.not-nil s) h.apart,
)

module _ (ed : Edition) (variables : ℕ) where
  switches-read : (m : Mode) → ModeLimits m → (every (switch_reads ed variables) m.switches ≡ true) ↔ TruthsInMode ed variables m
  unfolding switch_reads
  switches-read m h = every-is (switch_reads ed variables) (λ w k. truth-read ed variables w.truth k.truth) h.switches

  modes-read : (c : Selector) → SelectorLimits c → (every (λ (m : Mode). every (switch_reads ed variables) m.switches) c.modes ≡ true) ↔ All (TruthsInMode ed variables) c.modes
  modes-read c h = every-is (λ (m : Mode). every (switch_reads ed variables) m.switches) switches-read h.modes

  equation-read-there : {e : Equation} → PayloadLimits e → equation_reads ed variables e ≡ true → Truths ed variables e
  unfolding equation_reads mode_reads
  equation-read-there (steady_within l) h = truths_steady
  equation-read-there (choice_within {c = c} l) h = truths_choice ((modes-read c l).0 h)

  equation-read-here : {e : Equation} → PayloadLimits e → Truths ed variables e → equation_reads ed variables e ≡ true
  unfolding equation_reads mode_reads
  equation-read-here (steady_within l) truths_steady = refl
  equation-read-here (choice_within {c = c} l) (truths_choice h) = (modes-read c l).1 h

  pub all_read : {es : List Equation} → All EquationLimits es → (every (equation_reads ed variables) es ≡ true) ↔ All (Truths ed variables) es
  all_read l = every-is (equation_reads ed variables) (λ e k. (equation-read-there k.payload, equation-read-here k.payload)) l

-- all four
pub record PlantPasses (ed : Edition) (p : Plant) : Type 0 where
  pub is_ordered : every ordered p.variables ≡ true
  pub named : every (equation_named (length p.variables)) p.equations ≡ true
  pub once : driven_once [] p.equations ≡ true
  pub reads : switches_read ed p ≡ true

pub plant-proper : (ed : Edition) (p : Plant) → All EquationLimits p.equations → PlantPasses ed p ↔ ProperPlant ed p
unfolding switches_read
plant-proper ed p l =
    let v = all-ordered p.variables in
    let n = all_named (length p.variables) p.equations in
    let o = driven-once p.equations in
    let r = all_read ed (length p.variables) l in (
      λ h. record { initial = v.0 h.is_ordered; named = n.0 h.named; once = o.0 h.once; truths = r.0 h.reads },
      λ h. record { is_ordered = v.1 h.initial; named = n.1 h.named; once = o.1 h.once; reads = r.1 h.truths },
    )

-- ---- a selector and a mode
pub mode-there : (cs : List Selector) (s m : ℕ) → (mode_exists_in cs s m ≡ true) ↔ ModeThere cs s m
unfolding mode_exists_in
mode-there cs s m = (λ h. go (get_elem? cs s) refl h, λ h. rw (h.there, mode_exists_in) (lt-ltb m (length h.selector.modes) h.mode.exists))
  where
    go : (o : Option Selector) → get_elem? cs s ≡ o → elim o [ none ↦ false | some c ↦ ltb m (length c.modes) ] ≡ true → ModeThere cs s m
    go none e h = true-not-false (sym h)
    go (some c) e h = record { selector = c; there = e; mode = record { exists = ltb-true m (length c.modes) h } }

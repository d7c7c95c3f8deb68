-- The walks of the code over a mode's rates and switches, and over the current modes.
use mathlib.Core.Path.{◌≡◌, refl, sym, ap, ap₂, ◌∙◌, subst}
use mathlib.Core.Bool.{Bool, true, false}
use mathlib.Core.List.{List, [], ◌∷◌, ◌++◌, map, flat_map, append-nil}
use mathlib.Core.Option.{some}
use Prim.Native.Nat.{ℕ, suc, ◌+◌, ◌*◌, ◌-◌, ◌≤◌, ◌<◌}
use native.Mathlib.Numerals.{add-one}
use native.Mathlib.Omega.{arith}
use borrow.Author.Tests.{ltb-true}
use lib.Dec.{ltb}
use lib.IntN.{ℤ}
use lib.ListN.{length, get_or, set, drop, get_elem?, length-set, drop_of_length-le}
use lib.Seq.{drop-cons}
use Rattle.std.specs.Prelude.{Ok}
use Rattle.semantics.specs.Bytes.{signed, every}
use Rattle.semantics.specs.Editions.{Edition}
use Rattle.semantics.specs.Expressions.{value_of_truth}
use Rattle.semantics.specs.Sections.{Rate, Switch, Mode, read_rate, read_switch}
use Rattle.semantics.specs.Plant.{rate_named, switch_truths, current_truths}
use Rattle.semantics.specs.Run as Run
use Rattle.semantics.specs.Run.{◌>>◌, walk, check_modes}
use Rattle.semantics.proofs.Facts.{true-not-false, some_is}
use Rattle.codec.proofs.Reading.{nat4_at}
use Rattle.plant.specs.Equations.{rates_from}
use Rattle.plant.proofs.RateArrays.{rate-put}
use Rattle.effects.specs.Verdicts.{done_verdict, step_verdict, is_going_on, truth_verdict}
use Rattle.effects.specs.Told.{told_truth}
use Rattle.program.specs.Lent.{Stands, RatesIn}
use Rattle.modes.specs.Modes.{mode_at, SwitchAt, SwitchHere, Asked, modes_from, place_at, Driving, before, Laid}
use Rattle.effects.specs.PaperNumbers.{Verdict, Away, Stay}
use Rattle.effects.proofs.Steps.{walk-out, walk-on, walk-then, then-out, then-on}
use Rattle.modes.proofs.Standing.{Ahead, none_ahead, parts, next-rate, next-switch}

-- ---- rates written into an array
rate-set : (zs : List ℤ) (r : Rate) (l : List Rate) {v : ℕ} {z : ℤ} → v ≡ r.driven → z ≡ r.rate → RatesIn zs l → RatesIn (set zs v z) (r ∷ l)
rate-set zs r l e f h = rw (e, f) (record {
  are = ap (λ y. set y r.driven r.rate) h.are ∙ rate-put r l (length zs) ∙ ap (rates_from (r ∷ l) 0) (sym (length-set zs r.driven r.rate));
})

pub laid_none : (zs : List ℤ) → Laid zs [] zs
unfolding before
laid_none zs = record { long = refl; holds = λ l h. h }

laid_first : (zs : List ℤ) (r : Rate) (rs : List Rate) {v : ℕ} {z : ℤ} {ys : List ℤ} → v ≡ r.driven → z ≡ r.rate → Laid (set zs v z) rs ys → Laid zs (r ∷ rs) ys
unfolding before
laid_first zs r rs {v} {z} e f x = record { long = x.long ∙ length-set zs v z; holds = λ l h. x.holds (r ∷ l) (rate-set zs r l e f h) }

before-append : (rs qs l : List Rate) → before (rs ++ qs) l ≡ before qs (before rs l)
unfolding before
before-append [] qs l = refl
before-append (r ∷ rs) qs l = before-append rs qs (r ∷ l)

pub laid_then : {xs ys zs : List ℤ} {rs qs : List Rate} → Laid xs rs ys → Laid ys qs zs → Laid xs (rs ++ qs) zs
laid_then {rs = rs} {qs} x y = record { long = y.long ∙ x.long; holds = λ l h. rw (before-append rs qs l) (y.holds (before rs l) (x.holds l h)) }

named-head : (n : ℕ) (r : Rate) (rs : List Rate) → every (rate_named n) (r ∷ rs) ≡ true → (r.driven < n) × (every (rate_named n) rs ≡ true)
unfolding every rate_named
named-head n r rs h = go (ltb r.driven n) refl h
  where
    go : (b : Bool) → ltb r.driven n ≡ b → elim b [ true ↦ every (rate_named n) rs | false ↦ false ] ≡ true → (r.driven < n) × (every (rate_named n) rs ≡ true)
    go true e h = (ltb-true r.driven n e, h)
    go false e h = true-not-false (sym h)

-- k rates of the list are left, from place p on
pub record Laying (es : List ℕ) (k p : ℕ) (first : List ℤ) (rs : List Rate) (zs : List ℤ) : Type 0 where
  pub rates : List Rate
  pub ahead : Ahead read_rate es k p rates
  pub named : every (rate_named (length first)) rates ≡ true
  pub long : length zs ≡ length first
  pub rest : (ys : List ℤ) → Laid zs rates ys → Laid first rs ys

pub lay-start : {es : List ℕ} {at : ℕ} {m : Mode} (zs : List ℤ) → Stands es at m → every (rate_named (length zs)) m.rates ≡ true → Laying es (get_or es at 0) (at + 1) zs m.rates zs
lay-start {m = m} zs s h = record { rates = m.rates; ahead = (parts s).rates; named = h; long = refl; rest = λ ys x. x }

pub record OneRate (es : List ℕ) (k p : ℕ) (first : List ℤ) (rs : List Rate) (zs : List ℤ) : Type 0 where
  pub inside : p + 5 ≤ length es
  pub known : get_or es p 0 < length zs
  pub on : {j v : ℕ} {z : ℤ} → j ≡ k - 1 → v ≡ get_or es p 0 → z ≡ signed (nat4_at es (p + 1)) → Laying es j (p + 5) first rs (set zs v z)

pub lay-next : {es : List ℕ} {k p : ℕ} {first : List ℤ} {rs : List Rate} {zs : List ℤ} → Laying es k p first rs zs → 0 < k → OneRate es k p first rs zs
lay-next {es} {k} {p} {first} {rs} {zs} l h =
    let n = next-rate l.ahead h in
    let x = n.here in
    let m = named-head (length first) n.head n.tail (ap (every (rate_named (length first))) (sym n.is) ∙ l.named) in
    let d = x.driven in
    let o = l.long in
    record {
      inside = x.inside;
      known = omega (arith, m.0);
      on = λ {j} {v} {z} e i f. rw (e, i) (record {
        rates = n.tail;
        ahead = n.ahead;
        named = m.1;
        long = length-set zs (get_or es p 0) z ∙ l.long;
        rest = λ ys q. l.rest ys (rw n.is (laid_first zs n.head n.tail (sym d) (f ∙ sym x.rate) q));
      });
    }

pub lay-end : {es : List ℕ} {k p : ℕ} {first : List ℤ} {rs : List Rate} {zs : List ℤ} → Laying es k p first rs zs → k ≡ 0 → Laid first rs zs
lay-end {zs = zs} l h = l.rest zs (rw (none_ahead l.ahead h) (laid_none zs))

-- ---- a truth that is known
module _ {es : List ℕ} {q : ℕ} {vs : List ℤ} {y n : Verdict} {b : Bool} where
  pub asked_true : b ≡ true → Asked es q vs y n (told_truth y n (Ok b)) → Asked es q vs y n y
  asked_true e a = subst (λ (b : Bool). Asked es q vs y n (told_truth y n (Ok b))) e a

  pub asked_false : b ≡ false → Asked es q vs y n (told_truth y n (Ok b)) → Asked es q vs y n n
  asked_false e a = subst (λ (b : Bool). Asked es q vs y n (told_truth y n (Ok b))) e a

-- ---- a mode's switches
-- k switches are left, from place p on
pub record Walking (n : ℕ) (vs : List ℤ) (es : List ℕ) (k p : ℕ) (ws : List Switch) : Type 0 where
  pub switches : List Switch
  pub ahead : Ahead read_switch es k p switches
  pub same : (ed : Edition) → walk ed n vs (map (λ (w : Switch). w.truth) ws) ≡ walk ed n vs (map (λ (w : Switch). w.truth) switches)

pub walk_start : (n : ℕ) (vs : List ℤ) {es : List ℕ} {at : ℕ} {m : Mode} → Stands es at m → (c : ℕ) → c ≡ at + 1 + 5 * get_or es at 0 → Walking n vs es (get_or es c 0) (c + 1) m.switches
walk_start n vs {m = m} s c e = record { switches = m.switches; ahead = rw e (parts s).switches; same = λ ed. refl }

module _ {n : ℕ} {vs : List ℤ} {es : List ℕ} {k p : ℕ} {ws : List Switch} (l : Walking n vs es k p ws) where
  module _ (h : 0 < k) where
    abbrev head : Switch
    head = (next-switch l.ahead h).head

    abbrev tail : List (List ℕ)
    tail = map (λ (w : Switch). w.truth) (next-switch l.ahead h).tail

    pub walk_here : SwitchHere es p
    walk_here = record { switch = head; stands = (next-switch l.ahead h).here }

    truths-are : (ed : Edition) → walk ed n vs (map (λ (w : Switch). w.truth) ws) ≡ walk ed n vs (head.truth ∷ tail)
    truths-are ed = l.same ed ∙ ap (λ z. walk ed n vs (map (λ (w : Switch). w.truth) z)) (next-switch l.ahead h).is

    module _ {r : Verdict} (e : Asked es p vs (Away n) Stay r) where
      told : (ed : Edition) → r ≡ truth_verdict (Away n) Stay (value_of_truth ed vs head.truth)
      told ed = e.answer ed head (next-switch l.ahead h).here

      pub walk-stops : (ed : Edition) → is_going_on r ≡ false → r ≡ step_verdict (walk ed n vs (map (λ (w : Switch). w.truth) ws))
      walk-stops ed f = walk-out ed n vs head.truth tail r (told ed) f ∙ sym (ap step_verdict (truths-are ed))

      pub walk-next : {j q : ℕ} → j ≡ k - 1 → q ≡ get_or es p 0 → is_going_on r ≡ true → Walking n vs es j (p + 1 + q) ws
      walk-next i g f = rw (i, g) (record { switches = (next-switch l.ahead h).tail; ahead = (next-switch l.ahead h).ahead; same = λ ed. truths-are ed ∙ walk-on ed n vs head.truth tail r (told ed) f })

  pub walk_end : (ed : Edition) → k ≡ 0 → Stay ≡ step_verdict (walk ed n vs (map (λ (w : Switch). w.truth) ws))
  unfolding walk done_verdict
  walk_end ed h = sym (ap step_verdict (l.same ed ∙ ap (λ z. walk ed n vs (map (λ (w : Switch). w.truth) z)) (none_ahead l.ahead h)))

-- ---- one switch of a mode: i more are passed over
pub record Seeking (es : List ℕ) (i p : ℕ) (ws : List Switch) (k : ℕ) : Type 0 where
  pub count : ℕ
  pub switches : List Switch
  pub ahead : Ahead read_switch es count p switches
  pub enough : i < count
  pub same : get_elem? ws k ≡ get_elem? switches i

pub seek-start : {es : List ℕ} {at : ℕ} {m : Mode} → Stands es at m → (c k : ℕ) → c ≡ at + 1 + 5 * get_or es at 0 → k < get_or es c 0 → Seeking es k (c + 1) m.switches k
seek-start {es} {m = m} s c k e h = record { count = get_or es c 0; switches = m.switches; ahead = rw e (parts s).switches; enough = h; same = refl }

module _ {es : List ℕ} {i p : ℕ} {ws : List Switch} {k : ℕ} (l : Seeking es i p ws k) where
  seek-some : 0 < l.count
  seek-some = let h = l.enough in omega arith

  pub seek-here : SwitchHere es p
  seek-here = record { switch = _; stands = (next-switch l.ahead seek-some).here }

  pub seek-next : 0 < i → {j q : ℕ} → j ≡ i - 1 → q ≡ get_or es p 0 → Seeking es j (p + 1 + q) ws k
  seek-next h f g =
      let x = next-switch l.ahead seek-some in
      let e : i ≡ suc (i - 1) = omega arith in
      rw (f, g) (record { count = l.count - 1; switches = x.tail; ahead = x.ahead; enough = omega (arith, l.enough); same = l.same ∙ ap₂ get_elem? x.is e })

  pub seek-end : i ≡ 0 → (w : Switch) → get_elem? ws k ≡ some w → SwitchAt es p w
  seek-end h w e =
      let x = next-switch l.ahead seek-some in
      subst (SwitchAt es p) (some_is (sym (ap₂ get_elem? x.is h) ∙ sym l.same ∙ e)) x.here

-- ---- the current modes
-- a place that was worked out
pub stands_at : {es : List ℕ} {at i : ℕ} → i ≡ at → Stands es at (mode_at es at) → Stands es i (mode_at es i)
stands_at {es} e s = subst (λ (k : ℕ). Stands es k (mode_at es k)) (sym e) s

pub named-at : (es : List ℕ) {at i m n : ℕ} → i ≡ at → m ≡ n → every (rate_named n) (mode_at es at).rates ≡ true → every (rate_named m) (mode_at es i).rates ≡ true
named-at es e f h = rw (e, f) h

pub driving-as : {es places ms : List ℕ} {m n : ℕ} → m ≡ n → Driving es places ms m → Driving es places ms n
driving-as {es} {places} {ms} e d = subst (Driving es places ms) e d

module _ (es places ms : List ℕ) (j : ℕ) where
  pub modes-more : j < length ms → modes_from es places j (drop j ms) ≡ mode_at es (place_at places ms j) ∷ modes_from es places (j + 1) (drop (j + 1) ms)
  unfolding modes_from
  modes-more h = rw (drop-cons ms j 0 h, add-one j) refl

  pub modes-end : length ms ≤ j → modes_from es places j (drop j ms) ≡ []
  unfolding modes_from
  modes-end h = ap (modes_from es places j) (drop_of_length-le ms {i = j} h)

-- one mode, then the others
module _ (ed : Edition) (vs : List ℤ) (m : Mode) where
  pub check-one : walk ed 28 vs (map (λ (w : Switch). w.truth) m.switches) ≡ check_modes ed (m ∷ []) vs
  unfolding check_modes current_truths flat_map switch_truths
  check-one = ap (walk ed 28 vs) (sym (append-nil (map (λ (w : Switch). w.truth) m.switches)))

  check-cons : (l : List Mode) → check_modes ed (m ∷ l) vs ≡ (check_modes ed (m ∷ []) vs >> check_modes ed l vs)
  unfolding check_modes current_truths flat_map switch_truths
  check-cons l = walk-then ed 28 vs (switch_truths m) (current_truths l) ∙ ap (λ v. v >> check_modes ed l vs) check-one

module _ (ed : Edition) (vs : List ℤ) (es places ms : List ℕ) where
  abbrev pub check_from : ℕ → Run.Verdict (Unit {0})
  check_from j = check_modes ed (modes_from es places j (drop j ms)) vs

  module _ (j : ℕ) (h : j < length ms) {i : ℕ} (at : i ≡ place_at places ms j) {r : Verdict} (told : r ≡ step_verdict (check_modes ed (mode_at es i ∷ []) vs)) where
    abbrev one : Run.Verdict (Unit {0})
    one = check_modes ed (mode_at es (place_at places ms j) ∷ []) vs

    here : r ≡ step_verdict one
    here = told ∙ ap (λ (i : ℕ). step_verdict (check_modes ed (mode_at es i ∷ []) vs)) at

    check-more : check_from j ≡ (one >> check_from (j + 1))
    check-more = ap (λ z. check_modes ed z vs) (modes-more es places ms j h) ∙ check-cons ed vs _ (modes_from es places (j + 1) (drop (j + 1) ms))

    pub check-stops : is_going_on r ≡ false → r ≡ step_verdict (check_from j)
    check-stops f = then-out one (check_from (j + 1)) r here f ∙ sym (ap step_verdict check-more)

    pub check-next : is_going_on r ≡ true → check_from j ≡ check_from (j + 1)
    check-next f = check-more ∙ then-on one (check_from (j + 1)) r here f

  pub check-end : (j : ℕ) → length ms ≤ j → Stay ≡ step_verdict (check_from j)
  unfolding check_modes current_truths walk flat_map done_verdict
  check-end j h = sym (ap (λ z. step_verdict (check_modes ed z vs)) (modes-end es places ms j h))

-- ---- the rates of the current modes, one mode after the other
abbrev pub mode_rates : List ℕ → List ℕ → List ℕ → ℕ → List Rate
mode_rates es places ms j = flat_map (λ (m : Mode). m.rates) (modes_from es places j (drop j ms))

pub record LayingAll (es places ms : List ℕ) (first : List ℤ) (j : ℕ) (zs : List ℤ) : Type 0 where
  pub few : j ≤ length ms
  pub long : length zs ≡ length first
  pub rest : (ys : List ℤ) → Laid zs (mode_rates es places ms j) ys → Laid first (mode_rates es places ms 0) ys

module _ {es places ms : List ℕ} {first : List ℤ} where
  pub all_start : LayingAll es places ms first 0 first
  all_start = record { few = omega arith; long = refl; rest = λ ys x. x }

  pub all-next : {j : ℕ} {zs : List ℤ} → LayingAll es places ms first j zs → j < length ms → {i : ℕ} → i ≡ place_at places ms j → {ys : List ℤ} → Laid zs (mode_at es i).rates ys → LayingAll es places ms first (j + 1) ys
  unfolding flat_map
  all-next {j} {zs} a h {i} at {ys} x = record {
    few = omega arith;
    long = x.long ∙ a.long;
    rest = λ us y. a.rest us (rw (modes-more es places ms j h, ← at) (laid_then x y));
  }

  pub all_end : {j : ℕ} {zs : List ℤ} → LayingAll es places ms first j zs → length ms ≤ j → Laid first (mode_rates es places ms 0) zs
  unfolding flat_map
  all_end {j} {zs} a h = a.rest zs (rw (modes-end es places ms j h) (laid_none zs))

-- Rates and switches by position, where the bytes of a mode are known to read.
use mathlib.Core.Path.{◌≡◌, refl, sym, ap, ◌∙◌}
use mathlib.Core.Bool.{true}
use mathlib.Core.List.{List, [], ◌∷◌}
use Prim.Native.Nat.{ℕ, zero, suc, ◌+◌, ◌*◌, ◌-◌, ◌≤◌, ◌<◌}
use native.Mathlib.Omega.{arith}
use borrow.Author.Tests.{leb-true}
use lib.Dec.{leb}
use lib.ListN.{length, get_or, take, drop}
use Rattle.semantics.specs.Bytes.{signed, read, Reader, ◌>>=◌, give, byte, bytes, times}
use Rattle.semantics.specs.Sections.{Rate, Switch, Mode, read_rate, read_switch, read_mode}
use Rattle.semantics.proofs.Readers.{split, given, given-rest, guarded}
use Rattle.codec.proofs.Reading.{nat4_at, either}
use Rattle.codec.proofs.Known.{after-byte, not-past, after-int4, not-int4, after-bytes, not_short, last, cons, Cons}
use Rattle.program.specs.Lent.{Stands}
use Rattle.modes.specs.Modes.{SwitchAt}

-- ---- k values to be read from a place on
pub record Ahead {A : Type 0} (r : Reader A) (es : List ℕ) (k p : ℕ) (l : List A) : Type 0 where
  pub inside : p ≤ length es
  pub rest : List ℕ
  pub got : times k r (drop p es) ≡ read l rest

-- ---- a rate
pub record RateAt (es : List ℕ) (p : ℕ) (a : Rate) (m : List ℕ) : Type 0 where
  pub inside : p + 5 ≤ length es
  pub driven : a.driven ≡ get_or es p 0
  pub rate : a.rate ≡ signed (nat4_at es (p + 1))
  pub rest : m ≡ drop (p + 5) es

rate-at : (es : List ℕ) (p : ℕ) {a : Rate} {m : List ℕ} → p ≤ length es → read_rate (drop p es) ≡ read a m → RateAt es p a m
unfolding read_rate
rate-at es p {a} {m} i h = either p (length es) (λ l. either (p + 4) (length es) (λ j. whole l j) (λ j. not-int4 _ es (p + 1) (omega arith) (omega arith) (after-byte _ es p l h))) (λ l. not-past _ es p l h)
  where
    whole : p < length es → p + 4 < length es → RateAt es p a m
    whole l j =
        let k = after-int4 _ es (p + 1) (omega arith) (after-byte _ es p l h) in
        let e : record { driven = get_or es p 0; rate = signed (nat4_at es (p + 1)) } ≡ a = given _ (drop (p + 1 + 4) es) k in
        let q : p + 1 + 4 ≡ p + 5 = omega arith in
        record { inside = omega arith; driven = ap (λ (x : Rate). x.driven) (sym e); rate = ap (λ (x : Rate). x.rate) (sym e); rest = sym (given-rest _ (drop (p + 1 + 4) es) k) ∙ ap (λ n. drop n es) q }

-- ---- a switch: its length, its target, its truth
pub record SwitchBytes (es : List ℕ) (p : ℕ) (w : Switch) : Type 0 where
  pub long : 1 ≤ get_or es p 0
  pub inside : p + 1 + get_or es p 0 ≤ length es
  pub target : w.target ≡ get_or es (p + 1) 0
  pub truth : w.truth ≡ take (get_or es p 0 - 1) (drop (p + 2) es)

record SwitchRead (es : List ℕ) (p : ℕ) (w : Switch) (m : List ℕ) : Type 0 where
  pub bytes_are : SwitchBytes es p w
  pub rest : m ≡ drop (p + 1 + get_or es p 0) es

switch-at : (es : List ℕ) (p : ℕ) {w : Switch} {m : List ℕ} → read_switch (drop p es) ≡ read w m → SwitchRead es p w m
unfolding read_switch
switch-at es p {w} {m} h = either p (length es) (λ l. counted l (guarded (leb 1 (get_or es p 0)) _ (after-byte _ es p l h))) (λ l. not-past _ es p l h)
  where
    whole : (n : ℕ) → 1 ≤ get_or es p 0 → n ≡ get_or es p 0 - 1 → p + 2 + n ≤ length es → give (record { target = get_or es (p + 1) 0; truth = take n (drop (p + 1 + 1) es) }) (drop (p + 1 + 1 + n) es) ≡ read w m → SwitchRead es p w m
    whole n c b j k =
        let e = given (record { target = get_or es (p + 1) 0; truth = take n (drop (p + 1 + 1) es) }) (drop (p + 1 + 1 + n) es) k in
        let q : p + 1 + 1 ≡ p + 2 = omega arith in
        let o : p + 1 + 1 + n ≡ p + 1 + get_or es p 0 = omega arith in
        record {
          bytes_are = record {
            long = c;
            inside = omega arith;
            target = ap (λ (x : Switch). x.target) (sym e);
            truth = ap (λ (x : Switch). x.truth) (sym e) ∙ ap (λ j. take n (drop j es)) q ∙ ap (λ j. take j (drop (p + 2) es)) b;
          };
          rest = sym (given-rest _ (drop (p + 1 + 1 + n) es) k) ∙ ap (λ j. drop j es) o;
        }

    counted : p < length es → (leb 1 (get_or es p 0) ≡ true) × ((byte >>= (λ t. bytes (get_or es p 0 - 1) >>= (λ b. give (record { target = t; truth = b })))) (drop (p + 1) es) ≡ read w m) → SwitchRead es p w m
    counted l g =
        let c = leb-true 1 (get_or es p 0) g.0 in
        either (p + 1) (length es)
        (λ j. either (length es) (p + 1 + 1 + (get_or es p 0 - 1))
        (λ s. not_short _ es (p + 1 + 1) (get_or es p 0 - 1) (omega arith) s (after-byte _ es (p + 1) j g.1))
        (λ s. whole (get_or es p 0 - 1) c refl (omega arith) (after-bytes _ es (p + 1 + 1) (get_or es p 0 - 1) s (after-byte _ es (p + 1) j g.1))))
        (λ j. not-past _ es (p + 1) j g.1)

pub switch-bytes : {es : List ℕ} {p : ℕ} {w : Switch} → SwitchAt es p w → SwitchBytes es p w
switch-bytes {es} {p} s = (switch-at es p s.reads).bytes_are

-- ---- one of them, and the others
less : (k : ℕ) → 0 < k → k ≡ suc (k - 1)
less k h = omega arith

module _ {A : Type 0} {r : Reader A} {es : List ℕ} {k p : ℕ} {l : List A} (a : Ahead r es k p l) where
  next : 0 < k → Cons r (k - 1) (drop p es) l a.rest
  next h = cons r (k - 1) (ap (λ n. times n r (drop p es)) (sym (less k h)) ∙ a.got)

  pub none_ahead : k ≡ 0 → l ≡ []
  unfolding times
  none_ahead h = sym (given [] (drop p es) (ap (λ n. times n r (drop p es)) (sym h) ∙ a.got))

pub record NextRate (es : List ℕ) (k p : ℕ) (l : List Rate) : Type 0 where
  pub head : Rate
  pub tail : List Rate
  pub is : l ≡ head ∷ tail
  pub here : RateAt es p head (drop (p + 5) es)
  pub ahead : Ahead read_rate es (k - 1) (p + 5) tail

pub next-rate : {es : List ℕ} {k p : ℕ} {l : List Rate} → Ahead read_rate es k p l → 0 < k → NextRate es k p l
next-rate {es} {k} {p} a h =
    let c = next a h in
    let x = rate-at es p a.inside c.first in
    record {
      head = c.head;
      tail = c.tail;
      is = sym c.is;
      here = record { inside = x.inside; driven = x.driven; rate = x.rate; rest = refl };
      ahead = record { inside = x.inside; rest = a.rest; got = ap (times (k - 1) read_rate) (sym x.rest) ∙ c.rest };
    }

pub record NextSwitch (es : List ℕ) (k p : ℕ) (l : List Switch) : Type 0 where
  pub head : Switch
  pub tail : List Switch
  pub is : l ≡ head ∷ tail
  pub here : SwitchAt es p head
  pub ahead : Ahead read_switch es (k - 1) (p + 1 + get_or es p 0) tail

pub next-switch : {es : List ℕ} {k p : ℕ} {l : List Switch} → Ahead read_switch es k p l → 0 < k → NextSwitch es k p l
next-switch {es} {k} {p} a h =
    let c = next a h in
    let x = switch-at es p c.first in
    record {
      head = c.head;
      tail = c.tail;
      is = sym c.is;
      here = record { rest = _; reads = c.first };
      ahead = record { inside = x.bytes_are.inside; rest = a.rest; got = ap (times (k - 1) read_switch) (sym x.rest) ∙ c.rest };
    }

-- ---- where all rates end
pub record RatesEnd (es : List ℕ) (n p : ℕ) (m : List ℕ) : Type 0 where
  pub inside : p + 5 * n ≤ length es
  pub rest : m ≡ drop (p + 5 * n) es

rates-end : (es : List ℕ) (n p : ℕ) {l : List Rate} {m : List ℕ} → p ≤ length es → times n read_rate (drop p es) ≡ read l m → RatesEnd es n p m
unfolding times
rates-end es zero p i h = let e : p ≡ p + 5 * 0 = omega arith in record { inside = omega arith; rest = sym (given-rest [] (drop p es) h) ∙ ap (λ j. drop j es) e }
rates-end es (suc n) p i h =
    let c = cons read_rate n h in
    let x = rate-at es p i c.first in
    let y = rates-end es n (p + 5) x.inside (ap (times n read_rate) (sym x.rest) ∙ c.rest) in
    let e : p + 5 + 5 * n ≡ p + 5 * suc n = omega arith in
    record { inside = omega (arith, y.inside); rest = y.rest ∙ ap (λ j. drop j es) e }

-- ---- a mode
pub record Parts (es : List ℕ) (at : ℕ) (m : Mode) : Type 0 where
  pub some : at < length es
  pub room : at + 1 + 5 * get_or es at 0 < length es
  pub rates : Ahead read_rate es (get_or es at 0) (at + 1) m.rates
  pub switches : Ahead read_switch es (get_or es (at + 1 + 5 * get_or es at 0) 0) (at + 1 + 5 * get_or es at 0 + 1) m.switches

pub parts : {es : List ℕ} {at : ℕ} {m : Mode} → Stands es at m → Parts es at m
unfolding read_mode
parts {es} {at} {m} s = either at (length es) (λ l. counted l) (λ l. not-past _ es at l s.reads)
  where
    counted : at < length es → Parts es at m
    counted l =
        let n = get_or es at 0 in
        let q = at + 1 + 5 * n in
        let k = split (times n read_rate) _ (after-byte _ es at l s.reads) in
        let e = rates-end es n (at + 1) (omega arith) k.first in
        let t = ap (λ z. (byte >>= (λ c. times c read_switch >>= (λ ss. give (record { rates = k.value; switches = ss })))) z) (sym e.rest) ∙ k.then in
        either q (length es)
        (λ j.
        let w = last (times (get_or es q 0) read_switch) (λ ss. record { rates = k.value; switches = ss }) (after-byte _ es q j t) in
        record {
          some = l;
          room = j;
          rates = record { inside = omega arith; rest = k.rest; got = k.first ∙ ap (λ (x : Mode). read x.rates k.rest) w.made };
          switches = record { inside = omega arith; rest = s.rest; got = w.got ∙ ap (λ (x : Mode). read x.switches s.rest) w.made };
        })
        (λ j. not-past _ es q j t)

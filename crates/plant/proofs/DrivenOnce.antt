-- The loops of condition 8: what is known before each turn, and why a turn keeps it.
use mathlib.Core.Path.{◌≡◌, refl, sym, ap, ap₂, subst, ◌∙◌}
use mathlib.Core.Bool.{Bool, true, false, not, ◌&&◌, and-false}
use mathlib.Core.List.{List, [], ◌∷◌, ◌++◌, flat_map}
use Prim.Native.Nat.{ℕ, ◌+◌, ◌-◌, ◌*◌, ◌≤◌, ◌<◌}
use native.Mathlib.Omega.{arith}
use lib.ListN.{length, get_or, set, drop, replicate, length-set, get_or-replicate}
use Rattle.semantics.specs.Bytes.{every, read, times}
use Rattle.semantics.specs.Sections.{Rate, Mode, read_rate, read_mode}
use Rattle.semantics.specs.Plant.{among, once_after, mode_drives, rates_drive, mode_once}
use Rattle.semantics.proofs.Facts.{true-not-false}
use Rattle.semantics.proofs.Readers.{read-value}
use Rattle.codec.proofs.Known.{Cons}
use Rattle.semantics.specs.Writing.{write_mode}
use Rattle.plant.specs.Equations.{Stands}
use Rattle.plant.specs.Driven.{Small, Held, Marks, Tried, rates_once, modes_apart}
use Rattle.plant.proofs.MarkTests.{unmarked, Marked, Answered, rates_test, modes_test}
use Rattle.plant.proofs.Marks.{small-first, small-rest, small-left, small-right, marked-set, Owed, owed_start, owed-set, owed-next, owed-end, by-lists, by-marks}
use Rattle.plant.proofs.Walks.{next_of, all_left, none_left, NextRate, next-rate, ModeAt, mode-at, past-mode}

-- ---- tests
pub marked-none : Marked [] [] (replicate 32 false)
unfolding among
marked-none = record { sized = refl; at = λ v h. get_or-replicate 32 v false false h }

unmarked-not : (a : List Bool) (v : ℕ) (l : List ℕ) → get_or a v false ≡ true → unmarked a (v ∷ l) ≡ false
unfolding unmarked every
unmarked-not a v l h = rw (unmarked, every, h) refl

unmarked-next : (a : List Bool) (v : ℕ) (l : List ℕ) → get_or a v false ≡ false → unmarked a (v ∷ l) ≡ unmarked a l
unfolding unmarked every
unmarked-next a v l h = rw (unmarked, every, h) refl

once-not : (noted : List ℕ) (v : ℕ) (l : List ℕ) → among v noted ≡ true → once_after noted (v ∷ l) ≡ false
unfolding once_after
once-not noted v l h = rw (once_after, h) refl

once-next : (noted : List ℕ) (v : ℕ) (l : List ℕ) → among v noted ≡ false → once_after noted (v ∷ l) ≡ once_after (v ∷ noted) l
unfolding once_after
once-next noted v l h = rw (once_after, h) refl

-- ---- answers
pub tried-false : {test : Bool} {a : List Bool} {l : List ℕ} {b : List Bool} → test ≡ false → Answered test a l false b
tried-false e = record { is = sym e; marks = λ h. true-not-false (sym h) }

pub tried-true : {test : Bool} {a : List Bool} {l : List ℕ} {b : List Bool} → test ≡ true → Marked a l b → Answered test a l true b
tried-true e m = record { is = sym e; marks = λ h. m }

pub tried-as : {A : Type 0} (test : A → Bool) (l : A → List ℕ) {x y : A} {a : List Bool} {r : Bool} {b : List Bool} → x ≡ y → Answered (test x) a (l x) r b → Answered (test y) a (l y) r b
tried-as test l {a = a} {r = r} {b = b} e t = subst (λ z. Answered (test z) a (l z) r b) e t

-- ---- the rates of a mode
pub record RatesGoing (s : List ℕ) (at n : ℕ) (before a seen mine : List Bool) (p i : ℕ) : Type 0 where
  pub all : List Rate
  pub end : List ℕ
  pub is : times n read_rate (drop at s) ≡ read all end
  pub rest : List Rate
  pub got : times (n - i) read_rate (drop p s) ≡ read rest end
  pub inside : p ≤ length s
  pub few : Small (rates_drive all)
  pub small : Small (rates_drive rest)
  pub noted : List ℕ
  pub stands : Marked [] noted mine
  pub same : rates_test before all ≡ (once_after noted (rates_drive rest) && unmarked before (rates_drive rest))
  pub owed : Owed a (rates_drive all) seen (rates_drive rest)
  pub seen_length : length seen ≡ 32

pub rates-start : (s : List ℕ) (at n : ℕ) (before a : List Bool) → length a ≡ 32 → Held (times n read_rate) rates_drive s at → RatesGoing s at n before a a (replicate 32 false) (at + 5 * 0) 0
rates-start s at n before a h t = let e : at + 5 * 0 ≡ at = omega arith in record {
  all = t.sound.value;
  end = t.sound.end;
  is = t.sound.got;
  rest = t.sound.value;
  got = all_left read_rate n (drop (at + 5 * 0) s) (rw e t.sound.got);
  inside = rw e t.sound.inside;
  few = t.small;
  small = t.small;
  noted = [];
  stands = marked-none;
  same = refl;
  owed = owed_start a (rates_drive t.sound.value);
  seen_length = h;
}

module _ {s : List ℕ} {at n : ℕ} {before a seen mine : List Bool} {p i : ℕ} (g : RatesGoing s at n before a seen mine p i) where
  -- the answer, whatever name the rates have
  rates-say : {r : Bool} {b : List Bool} (rs : List Rate) (e : List ℕ) → times n read_rate (drop at s) ≡ read rs e → Answered (rates_test before rs) a (rates_drive rs) r b → (old new : List ℕ) → Marks old before → Marks new a → Tried (rates_once old rs) (rates_drive rs ++ new) r b
  rates-say rs e h t = by-lists (once_after [] (rates_drive rs)) (rates_drive rs) (subst (λ x. Small (rates_drive x)) (read-value (sym g.is ∙ h)) g.few) t

  pub rates-false : rates_test before g.all ≡ false → (b : List Bool) (rs : List Rate) (e : List ℕ) → times n read_rate (drop at s) ≡ read rs e → (old new : List ℕ) → Marks old before → Marks new a → Tried (rates_once old rs) (rates_drive rs ++ new) false b
  rates-false t b rs e h = rates-say rs e h (tried-false (ap (rates_test before) (read-value (sym h ∙ g.is)) ∙ t))

  rates-true : i ≡ n → (rs : List Rate) (e : List ℕ) → times n read_rate (drop at s) ≡ read rs e → Answered (rates_test before rs) a (rates_drive rs) true seen
  unfolding rates_drive once_after unmarked every
  rates-true k rs e h =
      let z = (none_left read_rate n i (drop p s) k g.got).0 in
      let t : rates_test before g.all ≡ true = g.same ∙ ap (λ x. once_after g.noted (rates_drive x) && unmarked before (rates_drive x)) z in
      let m : Owed a (rates_drive g.all) seen [] = subst (λ x. Owed a (rates_drive g.all) seen (rates_drive x)) z g.owed in
      tried-as (rates_test before) rates_drive (read-value (sym g.is ∙ h)) (tried-true t (owed-end seen g.seen_length m))

  pub rates-end : i ≡ n → (rs : List Rate) (e : List ℕ) → times n read_rate (drop at s) ≡ read rs e → (old new : List ℕ) → Marks old before → Marks new a → Tried (rates_once old rs) (rates_drive rs ++ new) true seen
  rates-end k rs e h = rates-say rs e h (rates-true k rs e h)

module _ {s : List ℕ} {at n : ℕ} {before a seen mine : List Bool} {p i : ℕ} (g : RatesGoing s at n before a seen mine p i) (h : i < n) where
  rate : NextRate s (n - (i + 1)) p g.rest g.end
  rate = next-rate s n i p h g.inside g.got

  next-rates_drive : rates_drive g.rest ≡ get_or s p 0 ∷ rates_drive rate.tail
  unfolding rates_drive
  next-rates_drive = ap rates_drive (sym rate.is) ∙ ap (λ v. v ∷ rates_drive rate.tail) rate.driven_is

  next_small : Small (get_or s p 0 ∷ rates_drive rate.tail)
  next_small = rw next-rates_drive at g.small

  pub rate-inside : p + 1 + 4 ≤ length s
  rate-inside = rate.inside

  pub rate-variable : get_or s p 0 < 32
  rate-variable = small-first (get_or s p 0) (rates_drive rate.tail) next_small

  pub rates-before : get_or before (get_or s p 0) false ≡ true → rates_test before g.all ≡ false
  rates-before e = g.same ∙ ap (λ l. once_after g.noted l && unmarked before l) next-rates_drive ∙ ap (λ t. once_after g.noted (get_or s p 0 ∷ rates_drive rate.tail) && t) (unmarked-not before (get_or s p 0) (rates_drive rate.tail) e) ∙ and-false (once_after g.noted (get_or s p 0 ∷ rates_drive rate.tail))

  pub rates-twice : get_or mine (get_or s p 0) false ≡ true → rates_test before g.all ≡ false
  rates-twice e = g.same ∙ ap (λ l. once_after g.noted l && unmarked before l) next-rates_drive ∙ ap (λ t. t && unmarked before (get_or s p 0 ∷ rates_drive rate.tail)) (once-not g.noted (get_or s p 0) (rates_drive rate.tail) (sym (g.stands.at (get_or s p 0) rate-variable) ∙ e))

  pub rates-next : {q : ℕ} → q ≡ p + 1 + 4 → get_or before (get_or s p 0) false ≡ false → get_or mine (get_or s p 0) false ≡ false → RatesGoing s at n before a (set seen (get_or s p 0) true) (set mine (get_or s p 0) true) q (i + 1)
  rates-next {q} x e f =
      let sl = g.seen_length in
      let ml = g.stands.sized in
      let v = rate-variable in
      record {
        all = g.all;
        end = g.end;
        is = g.is;
        rest = rate.tail;
        got = rw x rate.got;
        inside = rw x rate.inside;
        few = g.few;
        small = small-rest (get_or s p 0) (rates_drive rate.tail) next_small;
        noted = get_or s p 0 ∷ g.noted;
        stands = marked-set [] g.noted mine (get_or s p 0) (omega arith) g.stands;
        same = g.same ∙ ap (λ l. once_after g.noted l && unmarked before l) next-rates_drive ∙ ap₂ ◌&&◌ (once-next g.noted (get_or s p 0) (rates_drive rate.tail) (sym (g.stands.at (get_or s p 0) v) ∙ f)) (unmarked-next before (get_or s p 0) (rates_drive rate.tail) e);
        owed = owed-set seen (get_or s p 0) (rates_drive rate.tail) (omega arith) (rw next-rates_drive at g.owed);
        seen_length = length-set seen (get_or s p 0) true ∙ sl;
      }

-- ---- the modes of a CASE
rates_drive-of : (m : Mode) → mode_drives m ≡ rates_drive m.rates
unfolding mode_drives rates_drive
rates_drive-of m = refl

all-next : (m : Mode) (ms : List Mode) → (flat_map mode_drives) (m ∷ ms) ≡ rates_drive m.rates ++ (flat_map mode_drives) ms
unfolding flat_map mode_drives rates_drive
all-next m ms = refl

unmarked-append : (a : List Bool) (l k : List ℕ) → unmarked a (l ++ k) ≡ (unmarked a l && unmarked a k)
unfolding unmarked every
unmarked-append a [] k = refl
unmarked-append a (v ∷ l) k = go (not (get_or a v false)) (unmarked-append a l k)
  where
    go : (t : Bool) → unmarked a (l ++ k) ≡ (unmarked a l && unmarked a k) → ◌≡◌ {A = Bool} (elim t [ true ↦ unmarked a (l ++ k) | false ↦ false ]) (elim t [ true ↦ unmarked a l | false ↦ false ] && unmarked a k)
    go true h = h
    go false h = refl

each_next : (m : Mode) (ms : List Mode) → every mode_once (m ∷ ms) ≡ (once_after [] (rates_drive m.rates) && every mode_once ms)
unfolding mode_once every mode_drives rates_drive
each_next m ms = go (once_after [] (rates_drive m.rates))
  where
    go : (t : Bool) → elim t [ true ↦ every mode_once ms | false ↦ false ] ≡ (t && every mode_once ms)
    go true = refl
    go false = refl

swap : (a b c d : Bool) → ((a && b) && (c && d)) ≡ ((a && c) && (b && d))
swap true true c d = refl
swap true false true d = refl
swap true false false d = refl
swap false b c d = refl

modes-split : (before : List Bool) (m : Mode) (ms : List Mode) → modes_test before (m ∷ ms) ≡ (rates_test before m.rates && modes_test before ms)
modes-split before m ms =
    ap₂ ◌&&◌ (each_next m ms) (ap (unmarked before) (all-next m ms) ∙ unmarked-append before (rates_drive m.rates) (flat_map mode_drives ms)) ∙ swap (once_after [] (rates_drive m.rates)) (every mode_once ms) (unmarked before (rates_drive m.rates)) (unmarked before (flat_map mode_drives ms))

pub record ModesGoing (s : List ℕ) (at n : ℕ) (before a seen : List Bool) (p i : ℕ) : Type 0 where
  pub all : List Mode
  pub end : List ℕ
  pub is : times n read_mode (drop at s) ≡ read all end
  pub rest : List Mode
  pub got : times (n - i) read_mode (drop p s) ≡ read rest end
  pub inside : p ≤ length s
  pub few : Small (flat_map mode_drives all)
  pub small : Small (flat_map mode_drives rest)
  pub same : modes_test before all ≡ modes_test before rest
  pub owed : Owed a (flat_map mode_drives all) seen (flat_map mode_drives rest)
  pub seen_length : length seen ≡ 32

pub modes-start : (s : List ℕ) (at n : ℕ) (before a : List Bool) → length a ≡ 32 → Held (times n read_mode) (flat_map mode_drives) s at → ModesGoing s at n before a a at 0
modes-start s at n before a h t = record {
  all = t.sound.value;
  end = t.sound.end;
  is = t.sound.got;
  rest = t.sound.value;
  got = all_left read_mode n (drop at s) t.sound.got;
  inside = t.sound.inside;
  few = t.small;
  small = t.small;
  same = refl;
  owed = owed_start a (flat_map mode_drives t.sound.value);
  seen_length = h;
}

module _ {s : List ℕ} {at n : ℕ} {before a seen : List Bool} {p i : ℕ} (g : ModesGoing s at n before a seen p i) where
  modes-say : {r : Bool} {b : List Bool} (ms : List Mode) (e : List ℕ) → times n read_mode (drop at s) ≡ read ms e → Answered (modes_test before ms) a (flat_map mode_drives ms) r b → (old new : List ℕ) → Marks old before → Marks new a → Tried (modes_apart old ms) (flat_map mode_drives ms ++ new) r b
  modes-say ms e h t = by-lists (every mode_once ms) (flat_map mode_drives ms) (subst (λ x. Small (flat_map mode_drives x)) (read-value (sym g.is ∙ h)) g.few) t

  modes-true : i ≡ n → (ms : List Mode) (e : List ℕ) → times n read_mode (drop at s) ≡ read ms e → Answered (modes_test before ms) a (flat_map mode_drives ms) true seen
  unfolding flat_map mode_once unmarked every
  modes-true k ms e h =
      let z = (none_left read_mode n i (drop p s) k g.got).0 in
      let t : modes_test before g.all ≡ true = g.same ∙ ap (modes_test before) z in
      let m : Owed a (flat_map mode_drives g.all) seen [] = subst (λ x. Owed a (flat_map mode_drives g.all) seen (flat_map mode_drives x)) z g.owed in
      tried-as (modes_test before) (flat_map mode_drives) (read-value (sym g.is ∙ h)) (tried-true t (owed-end seen g.seen_length m))

  pub modes-end : i ≡ n → (ms : List Mode) (e : List ℕ) → times n read_mode (drop at s) ≡ read ms e → (old new : List ℕ) → Marks old before → Marks new a → Tried (modes_apart old ms) (flat_map mode_drives ms ++ new) true seen
  modes-end k ms e h = modes-say ms e h (modes-true k ms e h)

  module _ (h : i < n) where
    mode : Cons read_mode (n - (i + 1)) (drop p s) g.rest g.end
    mode = next_of read_mode n i (drop p s) h g.got

    mode-is : ModeAt s p mode.head mode.mid
    mode-is = mode-at s p mode.first

    pub mode-before : p < length s
    mode-before = mode-is.before

    next-all : flat_map mode_drives g.rest ≡ rates_drive mode.head.rates ++ (flat_map mode_drives) mode.tail
    next-all = ap (flat_map mode_drives) (sym mode.is) ∙ all-next mode.head mode.tail

    next-few : Small (rates_drive mode.head.rates ++ (flat_map mode_drives) mode.tail)
    next-few = rw next-all at g.small

    next-test : modes_test before g.all ≡ (rates_test before mode.head.rates && modes_test before mode.tail)
    next-test = g.same ∙ ap (modes_test before) (sym mode.is) ∙ modes-split before mode.head mode.tail

    pub rates-there : Held (times (get_or s p 0) read_rate) rates_drive s (p + 1)
    rates-there = let b = mode-is.before in record {
      sound = record { value = mode.head.rates; end = drop (p + 1 + 5 * get_or s p 0) s; got = mode-is.rates_got; inside = omega arith };
      small = small-left (rates_drive mode.head.rates) (flat_map mode_drives mode.tail) next-few;
    }

    pub mode-there : Stands read_mode s p
    mode-there = record { value = mode.head; rest = mode.mid; got = mode.first }

    -- the answer for the mode's rates
    module _ {r : Bool} {b : List Bool} (t : (rs : List Rate) (e : List ℕ) → times (get_or s p 0) read_rate (drop (p + 1) s) ≡ read rs e → (old new : List ℕ) → Marks old before → Marks new seen → Tried (rates_once old rs) (rates_drive rs ++ new) r b) where
      tried : Answered (rates_test before mode.head.rates) seen (rates_drive mode.head.rates) r b
      tried =
          let rs = mode.head.rates in
          by-marks (once_after [] (rates_drive rs)) (rates_drive rs) (small-left (rates_drive rs) (flat_map mode_drives mode.tail) next-few) (t rs (drop (p + 1 + 5 * get_or s p 0) s) mode-is.rates_got)

      pub modes-false : r ≡ false → (c : List Bool) (ms : List Mode) (e : List ℕ) → times n read_mode (drop at s) ≡ read ms e → (old new : List ℕ) → Marks old before → Marks new a → Tried (modes_apart old ms) (flat_map mode_drives ms ++ new) false c
      modes-false f c ms e k =
          let x : modes_test before g.all ≡ false = next-test ∙ ap (λ y. y && modes_test before mode.tail) (sym tried.is ∙ f) in
          modes-say ms e k (tried-as (modes_test before) (flat_map mode_drives) (read-value (sym g.is ∙ k)) (tried-false x))

      pub modes-next : r ≡ true → (q : ℕ) → ((t : Stands read_mode s p) → q ≡ p + length (write_mode t.value)) → ModesGoing s at n before a b q (i + 1)
      modes-next f q u =
          let w = past-mode s p g.inside mode.first u in
          record {
            all = g.all;
            end = g.end;
            is = g.is;
            rest = mode.tail;
            got = ap (times (n - (i + 1)) read_mode) (sym w.0) ∙ mode.rest;
            inside = w.1;
            few = g.few;
            small = small-right (rates_drive mode.head.rates) (flat_map mode_drives mode.tail) next-few;
            same = next-test ∙ ap (λ y. y && modes_test before mode.tail) (sym tried.is ∙ f);
            owed = owed-next seen (rates_drive mode.head.rates) (flat_map mode_drives mode.tail) b (rw next-all at g.owed) (tried.marks f);
            seen_length = (tried.marks f).sized;
          }

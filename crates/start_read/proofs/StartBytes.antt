-- The bytes of a start: their number, the values and modes at their places, and what the code's tests say of them.
use mathlib.Core.Path.{◌≡◌, refl, sym, ap, ap₂, ◌∙◌, subst}
use mathlib.Core.Bool.{Bool, true, false, not, cond, ◌&&◌, and-false}
use mathlib.Core.List.{List, [], ◌∷◌}
use mathlib.Core.Option.{none, some}
use Rattle.std.specs.Prelude.{Option, Some, None}
use Rattle.std.specs.Ordering.{is_le, int_cmp}
use Rattle.std.specs.declared.cmp.Ordering.TheVariants.{Less, Equal, Greater}
use Prim.Native.Nat.{ℕ, zero, suc, ◌+◌, ◌-◌, ◌*◌, ◌≤◌}
use native.Mathlib.Nat.{add-zero}
use native.Mathlib.Omega.{arith}
use lib.Dec.{ltb}
use lib.IntN.{ℤ, pos}
use lib.Signed.{lt_z}
use lib.ListN.{length, get_or, take, drop, get_elem?, length-drop}
use lib.Seq.{take_all}
use mir.Syntax.{w32}
use mir.Val.{to_z, of_z}
use Rattle.semantics.specs.Bytes as Bytes
use Rattle.semantics.specs.Bytes.{be4, signed, read, and_then, give, byte, int4, times, just, whole}
use Rattle.semantics.specs.Refusals.{refused, accepted, need, ensure, ◌>>=◌, ◌>>◌}
use Rattle.semantics.specs.Expressions.{Value, ok, fault, below, above, ranged, then_value}
use Rattle.semantics.specs.Sections.{Variable, Selector}
use Rattle.semantics.specs.Plant.{Plant, selectors, declared, all_declared}
use Rattle.semantics.specs.Starts.{Start, read_start, start_in, is_ok, values_fit, modes_fit, fits_start}
use Rattle.semantics.specs.Calls.{judge_start}
use Rattle.semantics.proofs.Admission.{start-judged}
use Rattle.semantics.proofs.Facts.{and_both}
use Rattle.semantics.proofs.Readers.{whole-read}
use Rattle.paper.specs.Refusals.{answered}
use Rattle.paper.proofs.Answered.{accepts-with}
use Rattle.codec.proofs.Reading.{int4-at, drop_past, drop-some}
use Rattle.plant.specs.declared.sections.PlantRead.{PlantRead}
use Rattle.start_read.specs.declared.admission.Admitted.{Admitted}
use Rattle.plant.specs.ModeCounts.{ModesAt}
use Rattle.start_read.specs.StartRead.{Ranges, Arrays, ValuesOf, ModesOf}
use Rattle.start_read.specs.Admission.{admitted}
use Rattle.start_read.proofs.StartLoop.{entries}
use Rattle.plant.proofs.VariableSection.{not-both}
use Rattle.plant.proofs.Costs.{costs-give, costs-byte, costs-then, costs-int4, costs-times}

-- ---- a value and a mode at their places
-- value k, in the four bytes from 4 * k on
abbrev pub value_at : List ℕ → ℕ → ℤ
value_at s k = signed (be4 (get_or s (4 * k) 0) (get_or s (4 * k + 1) 0) (get_or s (4 * k + 2) 0) (get_or s (4 * k + 3) 0))

abbrev pub mode_at : List ℕ → ℕ → ℕ
mode_at s k = get_or s k 0

-- ---- a value against its range, a mode against its count
-- a number that is read back from its bits
abbrev pub held : ℤ → ℤ
held z = to_z w32 (of_z w32 z)

-- what `<=` answers of signed numbers
le_as : (a b : ℤ) → is_le (int_cmp a b) ≡ not (lt_z b a)
le_as a b = go (lt_z a b) (lt_z b a) refl refl
  where
    go : (s t : Bool) → lt_z a b ≡ s → lt_z b a ≡ t → is_le (cond (lt_z a b) Less (cond (lt_z b a) Greater Equal)) ≡ not (lt_z b a)
    go true true e f = absurd (not-both a b e f)
    go true false e f = rw (e, f) refl
    go false true e f = rw (e, f) refl
    go false false e f = rw (e, f) refl

-- a range's test of a number
pub within-range : (low high z : ℤ) → (is_le (int_cmp low z) && is_le (int_cmp z high)) ≡ is_ok (ranged low high z)
unfolding ranged is_ok
within-range low high z = ap₂ ◌&&◌ (le_as low z) (le_as z high) ∙ go (lt_z z low) (lt_z high z)
  where
    go : (s t : Bool) → (not s && not t) ≡ is_ok (cond s (fault below) (cond t (fault above) (ok z)))
    go true t = refl
    go false true = refl
    go false false = refl

abbrev pub value_fits : Variable → ℤ → Bool
value_fits x z = is_ok (declared x z)

abbrev pub mode_fits : Selector → ℕ → Bool
mode_fits c m = ltb m (length c.modes)

pub values-step : (x : Variable) (xs : List Variable) (z : ℤ) (zs : List ℤ) → values_fit (x ∷ xs) (z ∷ zs) ≡ (value_fits x z && values_fit xs zs)
unfolding all_declared then_value is_ok
values-step x xs z zs = go (declared x z) (all_declared xs zs)
  where
    go : (v : Value ℤ) (w : Value (List ℤ)) → is_ok (then_value v (λ y. then_value w (λ ys. ok (y ∷ ys)))) ≡ (is_ok v && is_ok w)
    go (ok y) (ok ys) = refl
    go (ok y) (fault s) = refl
    go (fault s) w = refl

pub values-none : values_fit [] [] ≡ true
unfolding all_declared is_ok
values-none = refl

pub modes-step : (c : Selector) (cs : List Selector) (m : ℕ) (ms : List ℕ) → modes_fit (c ∷ cs) (m ∷ ms) ≡ (mode_fits c m && modes_fit cs ms)
unfolding modes_fit
modes-step c cs m ms = refl

pub modes-none : modes_fit [] [] ≡ true
unfolding modes_fit
modes-none = refl

-- what the arrays say of the variable and of the selector at a place
pub value-at : {n : ℕ} {lows highs : List ℤ} (k : ℕ) (z : ℤ) {b : Bool} → is_ok (ranged (get_or lows k (pos 0)) (get_or highs k (pos 0)) z) ≡ b → (xs : List Variable) (x : Variable) → Ranges xs n lows highs → get_elem? xs k ≡ some x → value_fits x z ≡ b
unfolding declared
value-at k z h xs x r e = rw (r.low k e, r.high k e) at h

pub mode-at : {n : ℕ} {counts : List ℕ} (k m : ℕ) {b : Bool} → ltb m (get_or counts k 0) ≡ b → (cs : List Selector) (c : Selector) → ModesAt counts n cs → get_elem? cs k ≡ some c → mode_fits c m ≡ b
mode-at k m h cs c r e = rw (r.entries k e) at h

-- ---- the bytes
values-read : (s : List ℕ) (n k : ℕ) → 4 * (k + n) ≤ length s → times n int4 (drop (4 * k) s) ≡ read (entries (value_at s) k n) (drop (4 * (k + n)) s)
unfolding times Bytes.◌>>=◌ and_then give entries
values-read s zero k h = rw add-zero refl
values-read s (suc n) k h =
    let e : 4 * k + 4 ≡ 4 * suc k = omega arith in
    let g : suc k + n ≡ k + suc n = omega arith in
    let m : times n int4 (drop (4 * k + 4) s) ≡ read (entries (value_at s) (suc k) n) (drop (4 * (k + suc n)) s) = ap (λ q. times n int4 (drop q s)) e ∙ values-read s n (suc k) (omega arith) ∙ ap (λ q. read (entries (value_at s) (suc k) n) (drop (4 * q) s)) g in
    rw (int4-at s (4 * k) (omega arith), m) refl

modes-read : (s : List ℕ) (n k : ℕ) → k + n ≤ length s → times n byte (drop k s) ≡ read (entries (mode_at s) k n) (drop (k + n) s)
unfolding times Bytes.◌>>=◌ and_then give byte entries
modes-read s zero k h = rw add-zero refl
modes-read s (suc n) k h =
    let e : k + 1 ≡ suc k = omega arith in
    let g : suc k + n ≡ k + suc n = omega arith in
    let m : times n byte (drop (k + 1) s) ≡ read (entries (mode_at s) (suc k) n) (drop (k + suc n) s) = ap (λ q. times n byte (drop q s)) e ∙ modes-read s n (suc k) (omega arith) ∙ ap (λ q. read (entries (mode_at s) (suc k) n) (drop q s)) g in
    rw (drop-some k s (omega arith), m) refl

-- what the reader gave
pub values-told : (s : List ℕ) (n : ℕ) → 4 * n ≤ length s → {vs : List ℤ} {rest : List ℕ} → times n int4 s ≡ read vs rest → vs ≡ entries (value_at s) 0 n
values-told s n h e = let same = sym e ∙ values-read s n 0 (omega arith) in cc

pub modes-told : (s : List ℕ) (n : ℕ) → n ≤ length s → {ms rest : List ℕ} → times n byte s ≡ read ms rest → ms ≡ entries (mode_at s) 0 n
modes-told s n h e = let same = sym e ∙ modes-read s n 0 (omega arith) in cc

start-from : (p : Plant) (s : List ℕ) {vs : List ℤ} {ms l : List ℕ} → times (length p.variables) int4 s ≡ read vs l → times (length (selectors p)) byte l ≡ read ms [] → start_in p s ≡ some (record { values = vs; modes = ms })
unfolding start_in read_start whole just Bytes.◌>>=◌ and_then give
start-from p s a b = rw (a, b) refl

start-size : (p : Plant) (s : List ℕ) {st : Start} → start_in p s ≡ some st → length s ≡ 4 * length p.variables + length (selectors p)
unfolding start_in read_start
start-size p s h =
    let c = costs-then (costs-times (length p.variables) costs-int4) (λ vs. costs-then {B = Start} (costs-times (length (selectors p)) costs-byte) (λ ms. costs-give (record { values = vs; modes = ms }))) in
    omega (arith, c.spent s (whole-read (read_start p) s h))

-- ---- the answer
not_there : (p : Plant) (s : List ℕ) → start_in p s ≡ none → refused 20 ≡ answered admitted (judge_start p s)
unfolding judge_start need ◌>>=◌
not_there p s h = rw h refl

not-fit : (p : Plant) (s : List ℕ) {st : Start} → start_in p s ≡ some st → fits_start p st ≡ false → refused 20 ≡ answered admitted (judge_start p s)
unfolding judge_start need ensure ◌>>=◌ ◌>>◌
not-fit p s h k = rw (h, k) refl

module _ (p : Plant) (s : List ℕ) {x : PlantRead} (a : Arrays p x) where
  pub wrong_size : (length s ≡ 4 * x.variables + x.selectors → ⊥) → refused 20 ≡ answered admitted (judge_start p s)
  wrong_size f = not_there p s (go (start_in p s) refl)
    where
      go : (o : mathlib.Core.Option.Option Start) → start_in p s ≡ o → start_in p s ≡ none
      go none e = e
      go (some st) e =
          let z = start-size p s e in
          let i = a.ranges.count in
          let j = a.counts.counted in
          absurd (f (omega arith))

  module _ (h : length s ≡ 4 * x.variables + x.selectors) where
    abbrev n : ℕ
    n = x.variables

    abbrev rest : List ℕ
    rest = drop (4 * n) s

    abbrev started : Start
    started = record { values = entries (value_at s) 0 n; modes = entries (mode_at rest) 0 x.selectors }

    values-there : times n int4 s ≡ read started.values rest
    values-there = let z : 4 * (0 + n) ≡ 4 * n = omega arith in values-read s n 0 (omega arith) ∙ ap (λ q. read started.values (drop q s)) z

    modes-there : times x.selectors byte rest ≡ read started.modes []
    modes-there =
        let l = length-drop (4 * n) s in
        modes-read rest x.selectors 0 (omega arith) ∙ ap (read started.modes) (drop_past (0 + x.selectors) rest (omega arith))

    there : start_in p s ≡ some started
    there = start-from p s (ap (λ q. times q int4 s) (sym a.ranges.count) ∙ values-there) (ap (λ q. times q byte rest) a.counts.counted ∙ modes-there)

    pub values-unfit : ValuesOf s n x.lows x.highs None → refused 20 ≡ answered admitted (judge_start p s)
    unfolding fits_start
    values-unfit v = not-fit p s there (rw (v.unfit values-there p.variables a.ranges) refl)

    -- all bytes from that place on
    modes_are : (o : Option (List ℕ)) → ModesOf (take (length s - 4 * n) rest) x.selectors x.modes o → ModesOf rest x.selectors x.modes o
    modes_are o m = subst (λ l. ModesOf l x.selectors x.modes o) (take_all (length s - 4 * n) rest (omega (arith, length-drop (4 * n) s))) m

    pub modes-unfit : ModesOf (take (length s - 4 * n) rest) x.selectors x.modes None → refused 20 ≡ answered admitted (judge_start p s)
    unfolding fits_start
    modes-unfit m = not-fit p s there (rw ((modes_are None m).unfit modes-there (selectors p) a.counts) (and-false (values_fit p.variables started.values)))

    pub all_fit : {values : List ℤ} {modes : List ℕ} → ValuesOf s n x.lows x.highs (Some values) → ModesOf (take (length s - 4 * n) rest) x.selectors x.modes (Some modes)
        → accepted (record { values = values; modes = modes }) ≡ answered admitted (judge_start p s)
    unfolding fits_start admitted
    all_fit {values} {modes} v m =
        let t = modes_are (Some modes) m in
        let k = start-judged p s (record { is_read = there; fits = and_both (v.fit values-there p.variables a.ranges) (t.fit modes-there (selectors p) a.counts) }) in
        let y = v.are values-there in
        let z = t.are modes-there in
        let q : ◌≡◌ {A = Admitted} (record { values = values; modes = modes }) (admitted started) = λ j. record { values = y j; modes = z j } in
        accepts-with admitted k q

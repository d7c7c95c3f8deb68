-- What a run writes are bytes: numbers that fit, and the records of a run whose plant and actions came from bytes.
use mathlib.Core.Path.{◌≡◌, refl, ap, subst}
use mathlib.Core.Bool.{Bool, true, false, not, cond}
use mathlib.Core.List.{List, [], ◌∷◌, flat_map}
use mathlib.Core.Option.{Option, none, some}
use Prim.Native.Nat.{ℕ, zero, suc, ◌-◌, ◌/◌, ◌%◌, ◌^◌, ◌≤◌, ◌<◌}
use native.Mathlib.Omega.{arith}
use borrow.Author.Tests.{leb-true, le-leb, ltb-false}
use lib.Dec.{leb, lit<}
use lib.ListN.{length, get_or, get_elem?, set, length-set}
use lib.IntN.{ℤ, pos, negsuc}
use lib.Signed.{lt_z, mag}
use Rattle.semantics.specs.Bytes.{out2, out4, out, big_endian, unsigned, Width, one_byte, two_bytes}
use Rattle.semantics.specs.Editions.{Edition, capacity}
use Rattle.semantics.specs.Expressions.{Side, above, below, Value, ok, fault, ranged, then_value, fits32, value_of_truth}
use Rattle.semantics.specs.Sections.{Variable, Switch, Mode, Selector}
use Rattle.semantics.specs.Plant.{Plant, selectors, no_such_mode, current_of, current_modes, current_truths, declared, declared_at, all_declared, added, rate_of, advance}
use Rattle.semantics.specs.Events.{Event, tick, pick, take_switch, senseless, event_in}
use Rattle.semantics.specs.Run as Run
use Rattle.semantics.specs.Run.{Action, test, wait, assign, switch, stop, Next, to, finished, halted, idle, Control, Verdict, away, faulty, pass, allow, find, valued, Moved, nobody, mover, Done, walk, check_modes, assigned, act, judge_switch, check_of_switch, judge_pick, judge_tick, judge, Situation, Answered, fault_answer, turned_away_by, arrive, follow, settle, step, answers, value_bytes, record_bytes, record_of}
use Rattle.semantics.proofs.Verdicts.{assigned-is}
use Rattle.semantics.proofs.Facts.{true-not-false, and_left, and_right, and_both, All, all_nil, all_cons, all_append, all_map, all-mem, all-flat, at_mem}

abbrev pub Byte : ℕ → Type 0
Byte n = n < 256

-- ---- numbers written
one : (n : ℕ) {l : List ℕ} → n < 256 → All Byte l → All Byte (n ∷ l)
one n h k = all_cons h k

digit : (n : ℕ) {l : List ℕ} → All Byte l → All Byte (n % 256 ∷ l)
digit n k = one (n % 256) (omega arith) k

pub out2-bytes : (n : ℕ) → n < 65536 → All Byte (out2 n)
unfolding out2
out2-bytes n h = one (n / 256) (omega arith) (digit n all_nil)

pub out4-bytes : (n : ℕ) → n < 4294967296 → All Byte (out4 n)
unfolding out4
out4-bytes n h = one (n / 0x100_0000) (omega arith) (digit (n / 0x1_0000) (digit (n / 256) (digit n all_nil)))

pub out-bytes : (w : Width) (n : ℕ) → n < capacity w → All Byte (out w n)
unfolding out
out-bytes one_byte n h = all_cons h all_nil
out-bytes two_bytes n h = out2-bytes n h

pub big_endian-bytes : (k n : ℕ) → All Byte (big_endian k n)
unfolding big_endian
big_endian-bytes zero n = all_nil
big_endian-bytes (suc k) n = digit (n / 256 ^ k) (big_endian-bytes k n)

-- a 32-bit number: n or -(n + 1), with n below half of what 32 bits hold
pub record Bits32 (z : ℤ) : Type 0 where
  pub small : mag z < 2147483648

pub bits32-fits : (z : ℤ) → Bits32 z → fits32 z ≡ true
unfolding fits32
bits32-fits (pos n) h = and_both refl (le-leb n 2147483647 (let s = h.small in omega arith))
bits32-fits (negsuc n) h = and_both (le-leb n 2147483647 (let s = h.small in omega arith)) refl

pub fits-bits32 : (z : ℤ) → fits32 z ≡ true → Bits32 z
unfolding fits32
fits-bits32 (pos n) h = record { small = (let s = leb-true n 2147483647 (and_right true (leb n 2147483647) h) in omega arith) }
fits-bits32 (negsuc n) h = record { small = (let s = leb-true n 2147483647 (and_left (leb n 2147483647) true h) in omega arith) }

pub value-bytes : (z : ℤ) → Bits32 z → All Byte (value_bytes z)
unfolding value_bytes unsigned
value-bytes (pos n) h = out4-bytes n (let s = h.small in omega arith)
value-bytes (negsuc n) h = out4-bytes (0xffff_ffff - n) (omega arith)

pub values-bytes : {zs : List ℤ} → All Bits32 zs → All Byte (flat_map value_bytes zs)
values-bytes h = all-flat value_bytes (all_map value-bytes h)

-- ---- declared ranges
fault-not-ok : {A C : Type 0} {s : Side} {a : A} → fault s ≡ ok a → C
fault-not-ok h = let z : ◌≡◌ {A = ℕ} 0 1 = cc in absurd (omega arith)

ok-is : {A : Type 0} {x y : A} → ok x ≡ ok y → x ≡ y
ok-is h = cc

then_ok : {A B : Type 0} (v : Value A) (f : A → Value B) {b : B} → then_value v f ≡ ok b → (a : A) × (v ≡ ok a) × (f a ≡ ok b)
unfolding then_value
then_ok (ok a) f h = (a, refl, h)
then_ok (fault s) f h = fault-not-ok h

pub record VariableBytes (x : Variable) : Type 0 where
  pub low : Bits32 x.minimum
  pub high : Bits32 x.maximum

between : (low high z : ℤ) → Bits32 low → Bits32 high → lt_z z low ≡ false → lt_z high z ≡ false → Bits32 z
between low (pos h) (pos n) b c e f = let s = c.small in let k = ltb-false h n f in record { small = omega arith }
between low (negsuc h) (pos n) b c e f = true-not-false f
between (pos l) high (negsuc n) b c e f = true-not-false e
between (negsuc l) high (negsuc n) b c e f = let s = b.small in let k = ltb-false l n e in record { small = omega arith }

ranged-bytes : (low high z : ℤ) {y : ℤ} → Bits32 low → Bits32 high → ranged low high z ≡ ok y → Bits32 y
unfolding ranged
ranged-bytes low high z {y} b c h = go (lt_z z low) (lt_z high z) refl refl h
  where
    go : (s t : Bool) → lt_z z low ≡ s → lt_z high z ≡ t → cond s (fault below) (cond t (fault above) (ok z)) ≡ ok y → Bits32 y
    go true t e f h = fault-not-ok h
    go false true e f h = fault-not-ok h
    go false false e f h = subst Bits32 (ok-is h) (between low high z b c e f)

declared-bytes : (xs : List Variable) (v : ℕ) (z : ℤ) {y : ℤ} → All VariableBytes xs → declared_at xs v z ≡ ok y → Bits32 y
unfolding declared_at declared
declared-bytes xs v z {y} h e = go (get_elem? xs v) refl e
  where
    go : (o : Option Variable) → get_elem? xs v ≡ o → elim o [ none ↦ fault above | some x ↦ declared x z ] ≡ ok y → Bits32 y
    go none k e = fault-not-ok e
    go (some x) k e = let b = all-mem h (at_mem xs v k) in ranged-bytes x.minimum x.maximum z b.low b.high e

all-declared : {xs : List Variable} (zs : List ℤ) {ys : List ℤ} → All VariableBytes xs → length zs ≤ length xs → all_declared xs zs ≡ ok ys → (length ys ≡ length zs) × All Bits32 ys
unfolding all_declared declared
all-declared [] {ys} all_nil k e = subst (λ l. (length l ≡ 0) × All Bits32 l) (ok-is e) (refl, all_nil)
all-declared (z ∷ zs) {ys} all_nil k e = absurd (omega arith)
all-declared [] {ys} (all_cons b h) k e = subst (λ l. (length l ≡ 0) × All Bits32 l) (ok-is e) (refl, all_nil)
all-declared (z ∷ zs) {ys} (all_cons {x = x} {l = xs} b h) k e =
    let p = then_ok (declared x z) _ e in
    let q = then_ok (all_declared xs zs) _ p.2 in
    let i = all-declared {xs = xs} zs h (omega arith) q.1 in
    subst (λ l. (length l ≡ suc (length zs)) × All Bits32 l) (ok-is q.2) (ap suc i.0, all_cons (ranged-bytes x.minimum x.maximum z b.low b.high p.1) i.1)

length-added : (rate : ℕ → ℤ) (v : ℕ) (zs : List ℤ) → length (added rate v zs) ≡ length zs
unfolding added
length-added rate v [] = refl
length-added rate v (z ∷ zs) = ap suc (length-added rate (suc v) zs)

-- ---- plants and actions that came from bytes
abbrev pub TargetByte : Switch → Type 0
TargetByte w = w.target < 256

abbrev pub ModeBytes : Mode → Type 0
ModeBytes m = All TargetByte m.switches

abbrev pub SelectorBytes : Selector → Type 0
SelectorBytes c = All ModeBytes c.modes

pub record PlantBytes (p : Plant) : Type 0 where
  pub variables : All VariableBytes p.variables
  pub selectors : All SelectorBytes (selectors p)

-- the mode that a node sets is a byte
abbrev pub ActionByte : Action → Type 0
ActionByte a = (s m : ℕ) → a ≡ switch s m → m < 256

pub record ActionsBytes {S : Type 0} (c : Control S) : Type 0 where
  pub actions : (n : ℕ) → ActionByte (c.action n)

-- ---- one event
-- a verdict whose answer is a byte and whose outcome has the property
data Fine {A : Type 0} (P : A → Type 0) : Verdict A → Type 0 where
  fine_away : {n : ℕ} → n < 256 → Fine P (away n)
  fine_faulty : {s : Side} → Fine P (faulty s)
  fine_pass : {a : A} → P a → Fine P (pass a)

fine-then : {A B : Type 0} {P : A → Type 0} {Q : B → Type 0} {v : Verdict A} (f : A → Verdict B) → Fine P v → ((a : A) → P a → Fine Q (f a)) → Fine Q (Run.◌>>=◌ v f)
unfolding Run.◌>>=◌
fine-then f (fine_away h) k = fine_away h
fine-then f fine_faulty k = fine_faulty
fine-then f (fine_pass {a = a} h) k = k a h

fine-next : {A B : Type 0} {P : A → Type 0} {Q : B → Type 0} {v : Verdict A} (w : Verdict B) → Fine P v → Fine Q w → Fine Q (Run.◌>>◌ v w)
unfolding Run.◌>>◌
fine-next w (fine_away h) k = fine_away h
fine-next w fine_faulty k = fine_faulty
fine-next w (fine_pass h) k = k

-- whatever it is
abbrev Any : {A : Type 0} → A → Type 0
Any a = Unit {0}

fine-allow : (n : ℕ) (b : Bool) → n < 256 → Fine Any (allow n b)
unfolding allow
fine-allow n true h = fine_pass tt
fine-allow n false h = fine_away h

fine-find : {A : Type 0} {P : A → Type 0} (n : ℕ) (o : Option A) → n < 256 → ((a : A) → o ≡ some a → P a) → Fine P (find n o)
unfolding find
fine-find n none h k = fine_away h
fine-find n (some a) h k = fine_pass (k a refl)

fine-valued : {A : Type 0} {P : A → Type 0} (v : Value A) → ((a : A) → v ≡ ok a → P a) → Fine P (valued v)
unfolding valued
fine-valued (ok a) k = fine_pass (k a refl)
fine-valued (fault s) k = fine_faulty

fine-any : {A : Type 0} (v : Value A) → Fine Any (valued v)
fine-any v = fine-valued v (λ a e. tt)

-- values of variables, each a 32-bit number, and modes that are bytes
pub record StateBytes (p : Plant) (vs : List ℤ) (ms : List ℕ) : Type 0 where
  pub few : length vs ≤ length p.variables
  pub bits : All Bits32 vs
  pub modes : All Byte ms

abbrev DoneBytes : Plant → Done → Type 0
DoneBytes p d = StateBytes p d.values d.modes

pub all_set : {A : Type 0} {P : A → Type 0} {l : List A} (i : ℕ) (x : A) → P x → All P l → All P (set l i x)
all_set i x h all_nil = all_nil
all_set zero x h (all_cons k q) = all_cons h q
all_set (suc i) x h (all_cons k q) = all_cons k (all_set i x h q)

pub all-at : {A : Type 0} {P : A → Type 0} {l : List A} (i : ℕ) (d : A) → All P l → P d → P (get_or l i d)
all-at i d all_nil h = h
all-at zero d (all_cons k q) h = k
all-at (suc i) d (all_cons k q) h = all-at i d q h

current-bytes : {cs : List Selector} (ms : List ℕ) → All SelectorBytes cs → All ModeBytes (current_of cs ms)
unfolding current_of
current-bytes ms all_nil = all_nil
current-bytes [] (all_cons h q) = all_nil
current-bytes (m ∷ ms) (all_cons h q) = all_cons (all-at m no_such_mode h all_nil) (current-bytes ms q)

module _ (ed : Edition) (p : Plant) (pb : PlantBytes p) where
  walk_fine : (n : ℕ) (vs : List ℤ) (ts : List (List ℕ)) → n < 256 → Fine Any (walk ed n vs ts)
  unfolding walk
  walk_fine n vs [] h = fine_pass tt
  walk_fine n vs (t ∷ ts) h = fine-then _ (fine-any (value_of_truth ed vs t)) (λ b u. fine-next _ (fine-allow n (not b) h) (walk_fine n vs ts h))

  check-fine : (vs : List ℤ) (ms : List ℕ) → Fine Any (check_of_switch ed p vs ms)
  unfolding check_of_switch check_modes
  check-fine vs ms = walk_fine 28 vs (current_truths (current_modes p ms)) (lit< tt)

  act-fine : (vs : List ℤ) (ms : List ℕ) (n : ℕ) (a : Action) → StateBytes p vs ms → ActionByte a → Fine (DoneBytes p) (act ed p.variables vs ms n a)
  unfolding act
  act-fine vs ms n (test t) h k = fine-then _ (fine-any (value_of_truth ed vs t)) (λ b u. fine_pass h)
  act-fine vs ms n (wait t) h k = fine-then _ (fine-any (value_of_truth ed vs t)) (λ b u. fine-next _ (fine-allow 29 b (lit< tt)) (fine_pass h))
  act-fine vs ms n (assign v e) h k =
      fine-then _ (fine-valued {P = λ ys. StateBytes p ys ms} (assigned ed p.variables vs v e) (λ ys i.
      let q = assigned-is ed p.variables vs v e i in
      let b = declared-bytes p.variables v q.number pb.variables q.in_range in
      rw q.is (record { few = rw (length-set vs v q.value) h.few; bits = all_set v q.value b h.bits; modes = h.modes }))) (λ ys b. fine_pass b)
  act-fine vs ms n (switch s m) h k = fine_pass (record { few = h.few; bits = h.bits; modes = all_set s m (k s m refl) h.modes })
  act-fine vs ms n stop h k = fine_pass h

  switch-fine : (vs : List ℤ) (ms : List ℕ) (s k : ℕ) → StateBytes p vs ms → Fine (DoneBytes p) (judge_switch ed (current_modes p ms) vs ms s k)
  unfolding judge_switch current_modes
  switch-fine vs ms s k h =
      let modes = current_modes p ms in
      fine-then _ (fine-find {P = ModeBytes} 26 (get_elem? modes s) (lit< tt) (λ m e. all-mem (current-bytes ms pb.selectors) (at_mem modes s e))) (λ m b.
      fine-then _ (fine-find {P = TargetByte} 26 (get_elem? m.switches k) (lit< tt) (λ w e. all-mem b (at_mem m.switches k e))) (λ w t.
      fine-then _ (fine-any (value_of_truth ed vs w.truth)) (λ b u.
      fine-next _ (fine-allow 30 b (lit< tt)) (fine_pass (record { few = h.few; bits = h.bits; modes = all_set s w.target t h.modes })))))

  advance-bytes : (vs : List ℤ) (ms : List ℕ) {ys : List ℤ} → StateBytes p vs ms → advance p.variables (rate_of p ms) vs ≡ ok ys → StateBytes p ys ms
  unfolding advance
  advance-bytes vs ms {ys} h e =
      let n = length-added (rate_of p ms) 0 vs in
      let f = h.few in
      let d = all-declared (added (rate_of p ms) 0 vs) pb.variables (omega arith) e in
      let l = d.0 in
      record { few = omega arith; bits = d.1; modes = h.modes }

  tick-fine : (action : ℕ → Action) (acting : List ℕ) (vs : List ℤ) (ms : List ℕ) → StateBytes p vs ms → Fine (DoneBytes p) (judge_tick ed p action acting vs ms)
  unfolding judge_tick
  tick-fine action acting vs ms h =
      fine-next _ (fine-allow 27 _ (lit< tt)) (fine-next _ (check-fine vs ms) (fine-next _ (walk_fine 31 vs _ (lit< tt))
      (fine-then _ (fine-valued {P = λ ys. StateBytes p ys ms} (advance p.variables (rate_of p ms) vs) (λ ys. advance-bytes vs ms h)) (λ ys b. fine_pass b))))

  judge-fine : (action : ℕ → Action) (acting : List ℕ) (vs : List ℤ) (ms : List ℕ) (e : Event) → ((n : ℕ) → ActionByte (action n)) → StateBytes p vs ms →
      Fine (DoneBytes p) (judge ed p action acting vs ms e)
  unfolding judge judge_pick
  judge-fine action acting vs ms tick k h = tick-fine action acting vs ms h
  judge-fine action acting vs ms (pick n) k h = fine-next _ (fine-allow 25 _ (lit< tt)) (fine-next _ (check-fine vs ms) (act-fine vs ms n (action n) h (k n)))
  judge-fine action acting vs ms (take_switch s i) k h = switch-fine vs ms s i h
  judge-fine action acting vs ms senseless k h = fine_away (lit< tt)

-- ---- a run
abbrev pub SituationBytes : {S : Type 0} → Plant → Situation S → Type 0
SituationBytes p s = StateBytes p s.values s.modes

pub record AnsweredBytes {S : Type 0} (p : Plant) (o : Answered S) : Type 0 where
  pub answer : o.answer < 256
  pub left : SituationBytes p o.left

arrive-bytes : {S : Type 0} (p : Plant) (s : Situation S) (x : Next S) (vs : List ℤ) (ms : List ℕ) → SituationBytes p s → StateBytes p vs ms → AnsweredBytes p (arrive s x vs ms)
unfolding arrive turned_away_by
arrive-bytes p s (to y) vs ms h k = record { answer = lit< tt; left = k }
arrive-bytes p s finished vs ms h k = record { answer = lit< tt; left = k }
arrive-bytes p s halted vs ms h k = record { answer = lit< tt; left = k }
arrive-bytes p s idle vs ms h k = record { answer = lit< tt; left = h }

fault-byte : (s : Side) → fault_answer s < 256
unfolding fault_answer
fault-byte above = lit< tt
fault-byte below = lit< tt

follow-bytes : {S : Type 0} (p : Plant) (c : Control S) (x : S) (s : Situation S) (d : Moved) (vs : List ℤ) (ms : List ℕ) → SituationBytes p s → StateBytes p vs ms → AnsweredBytes p (follow c x s d vs ms)
unfolding follow
follow-bytes p c x s nobody vs ms h k = arrive-bytes p s (to x) vs ms h k
follow-bytes p c x s (mover n b) vs ms h k = arrive-bytes p s (c.next x n b) vs ms h k

settle-bytes : {S : Type 0} (p : Plant) (c : Control S) (x : S) (s : Situation S) {v : Verdict Done} → SituationBytes p s → Fine (DoneBytes p) v → AnsweredBytes p (settle c x s v)
unfolding settle turned_away_by
settle-bytes p c x s h (fine_away k) = record { answer = k; left = h }
settle-bytes p c x s h (fine_faulty {s = side}) = record { answer = fault-byte side; left = h }
settle-bytes p c x s h (fine_pass {a = d} k) = follow-bytes p c x s d.moved d.values d.modes h k

module _ {S : Type 0} (ed : Edition) (p : Plant) (c : Control S) (pb : PlantBytes p) (cb : ActionsBytes c) where
  pub step-bytes : (s : Situation S) → SituationBytes p s → (e : List ℕ) → AnsweredBytes p (step ed p c s e)
  unfolding step turned_away_by
  step-bytes s h e = go s.place
    where
      go : (o : Option S) → AnsweredBytes {S = S} p (elim o [
        | none ↦ turned_away_by 23 s
        | some x ↦ settle c x s (judge ed p c.action (c.acting x) s.values s.modes (event_in ed e))
      ])
      go none = record { answer = lit< tt; left = h }
      go (some x) = settle-bytes p c x s h (judge-fine ed p pb c.action (c.acting x) s.values s.modes (event_in ed e) cb.actions h)

  pub record-bytes : (o : Answered S) → AnsweredBytes p o → All Byte (record_of ed c o)
  unfolding record_of record_bytes
  record-bytes o h = all_cons h.answer (all_append (big_endian-bytes ed.set_bytes _) (all_append (values-bytes h.left.bits) h.left.modes))

  pub records-bytes : (s : Situation S) → SituationBytes p s → (es : List (List ℕ)) → All Byte (flat_map (record_of ed c) (answers ed p c s es))
  unfolding answers flat_map
  records-bytes s h [] = all_nil
  records-bytes s h (e ∷ es) = let a = step-bytes s h e in all_append (record-bytes (step ed p c s e) a) (records-bytes (step ed p c s e).left a.left es)

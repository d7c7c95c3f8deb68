-- The records of two runs whose answers are the same but for numbers: the same bytes, but for the sets of acting nodes, which have the same nodes by their other numbers.
use mathlib.Core.Path.{◌≡◌, refl, ap, ap₂, subst, ◌∙◌}
use mathlib.Core.List.Memᴰ
use mathlib.Core.List.{List, [], ◌∷◌, ◌++◌, flat_map, append_assoc, Memᴰ as Mem}
use mathlib.Core.Logic.{◌↔◌}
use mathlib.Core.Option.{Option, none, some}
use Prim.Native.Nat.{ℕ, zero, suc, ◌+◌, ◌*◌, ◌<◌}
use native.Mathlib.Nat.{suc-mul, zero-mul}
use native.Mathlib.Omega.{arith}
use lib.ListN.{length, take, drop, get_elem?}
use lib.Seq.{take_at, drop-append-add}
use Rattle.semantics.specs.Bytes.{All, all_nil, all_cons}
use Rattle.semantics.specs.Editions.{Edition}
use Rattle.semantics.specs.Plant.{Plant, selectors}
use Rattle.semantics.specs.Run.{Control, Situation, Answered, step, answers, record_of}
use Rattle.semantics.specs.Records.{InSet, ActsAt, acts_at, record_at}
use Rattle.semantics.specs.Renumbering.{acting_now, SameButNumbers, RecordsCorrespond}
use Rattle.semantics.specs.Writing.{Each, each_nil, each_cons}
use Rattle.semantics.specs.Calls.{record_size}
use Rattle.semantics.proofs.Facts.{none-not-some, some_is, all-mem, at_mem, at-exists}
use Rattle.semantics.proofs.RecordForms.{RisesAt, record-bits}
use Rattle.semantics.proofs.RunCounts.{step-stepped, record_length}
use Rattle.semantics.proofs.RenumberedRuns.{renumbered-mem, records-but-numbers}

-- ---- a record by its place
module _ {A : Type 0} (f : A → List ℕ) (size : ℕ) where
  -- records of one length, one after the other, and then other bytes
  pub record-found : {l : List A} → All (λ a. length (f a) ≡ size) l → (k : ℕ) {a : A} → get_elem? l k ≡ some a → (rest : List ℕ) → record_at size k (flat_map f l ++ rest) ≡ f a
  unfolding record_at flat_map
  record-found all_nil k h rest = none-not-some h
  record-found (all_cons {x = x} {l = l} e p) zero h rest =
      let z : 0 * size ≡ 0 = zero-mul size in
      ap (λ n. take size (drop n ((f x ++ flat_map f l) ++ rest))) z ∙ ap (take size) (append_assoc (f x) (flat_map f l) rest) ∙ take_at (f x) (flat_map f l ++ rest) size e ∙ ap f (some_is h)
  record-found (all_cons {x = x} {l = l} e p) (suc k) h rest =
      let z : suc k * size ≡ length (f x) + k * size = let i = suc-mul k size in omega arith in
      ap₂ (λ (n : ℕ) (s : List ℕ). take size (drop n s)) z (append_assoc (f x) (flat_map f l) rest) ∙ ap (take size) (drop-append-add (f x) (flat_map f l ++ rest) (k * size)) ∙ record-found p k h rest

-- ---- two lists, one for each
each-found : {A B : Type 0} {R : A → B → Type 0} {l : List A} {m : List B} → Each R l m → (k : ℕ) {a : A} → get_elem? l k ≡ some a → (b : B) × (get_elem? m k ≡ some b) × R a b
each-found each_nil k h = none-not-some h
each-found {R = R} (each_cons {b = b} r e) zero h = (b, refl, subst (λ a. R a b) (some_is h) r)
each-found (each_cons r e) (suc k) h = each-found e k h

-- every record of a run has the plant's length
pub records-long : {S : Type 0} (ed : Edition) (p : Plant) (c : Control S) (s : Situation S) (es : List (List ℕ)) →
    length s.values ≡ length p.variables → length s.modes ≡ length (selectors p) → All (λ o. length (record_of ed c o) ≡ record_size ed p) (answers ed p c s es)
unfolding answers
records-long ed p c s [] h k = all_nil
records-long ed p c s (e ∷ es) h k =
    let o = step-stepped ed p c s e in
    all_cons (record_length ed p c (step ed p c s e) (o.values_kept ∙ h) (o.modes_kept ∙ k)) (records-long ed p c (step ed p c s e).left es (o.values_kept ∙ h) (o.modes_kept ∙ k))

-- ---- sets
acts-now : {S : Type 0} {c : Control S} {place : Option S} {n : ℕ} → ActsAt c place n → Mem n (acting_now c place)
unfolding acting_now
acts-now (acts_at m) = m

now-acts : {S : Type 0} (c : Control S) (place : Option S) {n : ℕ} → Mem n (acting_now c place) → ActsAt c place n
unfolding acting_now
now-acts c none m = absurd (Memᴰ.not-nil m)
now-acts c (some x) m = acts_at m

module _ {S R : Type 0} {number : ℕ → ℕ} {c : Control S} {d : Control R} (ed : Edition) (one_to_one : (m n : ℕ) → number m ≡ number n → m ≡ n) where
  -- the sets of two answers
  same-sets : {o : Answered S} {q : Answered R} → RisesAt c o.left.place → RisesAt d q.left.place → SameButNumbers number c d o q → (n : ℕ) →
      n < 8 * ed.set_bytes → number n < 8 * ed.set_bytes → InSet ed (record_of ed c o) n ↔ InSet ed (record_of ed d q) (number n)
  same-sets {o} {q} rising rising' same n h k =
      let here = record-bits ed c o rising n h in
      let there = record-bits ed d q rising' (number n) k in
      let both = renumbered-mem one_to_one same.acting n in
      (λ i. there.1 (now-acts d q.left.place (both.0 (acts-now (here.0 i)))), λ i. here.1 (now-acts c o.left.place (both.1 (acts-now (there.0 i)))))

module _ {S R : Type 0} {number : ℕ → ℕ} {c : Control S} {d : Control R} (ed : Edition) (size : ℕ) {l : List (Answered S)} {m : List (Answered R)}
    (long : All (λ o. length (record_of ed c o) ≡ size) l) (long' : All (λ q. length (record_of ed d q) ≡ size) m) (e : Each (SameButNumbers number c d) l m) (rest rest' : List ℕ) where
  abbrev bytes : List ℕ
  bytes = flat_map (record_of ed c) l ++ rest

  abbrev bytes' : List ℕ
  bytes' = flat_map (record_of ed d) m ++ rest'

  -- record k of the one and of the other
  record Both (k : ℕ) : Type 0 where
    one : Answered S
    other : Answered R
    is_one : get_elem? l k ≡ some one
    is_other : get_elem? m k ≡ some other
    same : SameButNumbers number c d one other
    here : record_at size k bytes ≡ record_of ed c one
    there : record_at size k bytes' ≡ record_of ed d other

  both : (k : ℕ) → k < length l → Both k
  both k h =
      let o = at-exists l k h in
      let q = each-found e k o.1 in
      record {
        one = o.0;
        other = q.0;
        is_one = o.1;
        is_other = q.1;
        same = q.2;
        here = record-found (record_of ed c) size long k o.1 rest;
        there = record-found (record_of ed d) size long' k q.1 rest';
      }

  pub records-correspond : ((m n : ℕ) → number m ≡ number n → m ≡ n) → All (λ o. RisesAt c o.left.place) l → All (λ q. RisesAt d q.left.place) m →
      RecordsCorrespond ed number size (length l) bytes bytes'
  records-correspond one_to_one rising rising' = record {
    answer = λ k h. (let b = both k h in rw (b.here, b.there) (records-but-numbers ed b.same).0);
    behind = λ k h. (let b = both k h in rw (b.here, b.there) (records-but-numbers ed b.same).1);
    acting = λ k n h i j. (let b = both k h in rw (b.here, b.there)
        (same-sets ed one_to_one (all-mem rising (at_mem l k b.is_one)) (all-mem rising' (at_mem m k b.is_other)) b.same n i j));
  }

-- How many bytes the parts of the equation section take, and that what stands after them does not change what they are.
use mathlib.Core.Path.{◌≡◌, refl, sym, ap, ◌∙◌, subst}
use mathlib.Core.Bool.{Bool, true, false, cond}
use mathlib.Core.List.{List, [], ◌∷◌, ◌++◌, flat_map}
use mathlib.Core.Option.{Option, none, some}
use Prim.Native.Nat.{ℕ, zero, suc, ◌+◌, ◌-◌, ◌*◌, ◌≤◌}
use native.Mathlib.Omega.{arith}
use borrow.Author.Tests.{leb-true, le-leb}
use lib.Dec.{leb, eqb}
use lib.ListN.{length, take, drop, length-append, length-drop}
use lib.Seq.{drop-drop, drop-append-le, take-append-le, length-take-le}
use Rattle.semantics.specs.Bytes.{out2, out4, Read, broken, read, Reader, and_then, ◌>>=◌, give, fail, guard, from, byte, nat2, nat4, int4, bytes, times, section2}
use Rattle.semantics.specs.Sections.{Rate, Mode, Equation, read_rate, read_switch, read_mode, read_steady, read_choice, read_equation_body, read_equation, equation_in_bytes}
use Rattle.semantics.specs.Run.{value_bytes}
use Rattle.semantics.specs.TableFile.{in_section2}
use Rattle.semantics.specs.Writing.{write_rate, write_switch, write_mode, equation_bytes, write_equation}
use Rattle.semantics.proofs.Readers.{broken-not-read, read-value, read-rest, split, whole-read}

-- r has read a from the first n bytes of l, and does so whatever follows
pub record Cut {A : Type 0} (r : Reader A) (n : ℕ) (l : List ℕ) (a : A) (t : List ℕ) : Type 0 where
  pub few : n ≤ length l
  pub rest : t ≡ drop n l
  pub more : (u : List ℕ) → r (l ++ u) ≡ read a (t ++ u)

-- r takes n bytes for a value of which P says n
pub record Found {A : Type 0} (r : Reader A) (P : A → ℕ → Type 0) (l : List ℕ) (a : A) (t : List ℕ) : Type 0 where
  pub count : ℕ
  pub fits : P a count
  pub cut : Cut r count l a t

pub record Cuts {A : Type 0} (r : Reader A) (P : A → ℕ → Type 0) : Type 0 where
  pub cuts : (l : List ℕ) (a : A) (t : List ℕ) → r l ≡ read a t → Found r P l a t

-- ---- one law for each way to put readers together
cut-then : {A B : Type 0} (r : Reader A) (f : A → Reader B) {n k : ℕ} {l m t : List ℕ} {a : A} {b : B} → Cut r n l a m → Cut (f a) k m b t → Cut (r >>= f) (n + k) l b t
unfolding ◌>>=◌ and_then
cut-then r f {n} {k} {l} {m} c d =
    let e : length m ≡ length l - n = ap length c.rest ∙ length-drop n l in
    let i = c.few in
    let j = d.few in
    record { few = omega arith; rest = d.rest ∙ ap (drop k) c.rest ∙ drop-drop k n l; more = λ u. rw (c.more u) (d.more u) }

cuts-then : {A B : Type 0} {P : A → ℕ → Type 0} {Q : B → ℕ → Type 0} (r : Reader A) (f : A → Reader B) → Cuts r P → ((a : A) (n : ℕ) → P a n → Cuts (f a) (λ b k. Q b (n + k))) → Cuts (r >>= f) Q
cuts-then {A} {B} {P} {Q} r f c d = record { cuts = go }
  where
    go : (l : List ℕ) (b : B) (t : List ℕ) → (r >>= f) l ≡ read b t → Found (r >>= f) Q l b t
    go l b t h =
        let k = split r f h in
        let x = c.cuts l k.value k.rest k.first in
        let y = (d k.value x.count x.fits).cuts k.rest b t k.then in
        record { count = x.count + y.count; fits = y.fits; cut = cut-then r f x.cut y.cut }

cuts-give : {A : Type 0} {Q : A → ℕ → Type 0} (a : A) → Q a 0 → Cuts (give a) Q
unfolding give
cuts-give {A} {Q} a q = record { cuts = go }
  where
    go : (l : List ℕ) (b : A) (t : List ℕ) → give a l ≡ read b t → Found (give a) Q l b t
    go l b t h = record { count = 0; fits = subst (λ x. Q x 0) (read-value h) q; cut = record { few = omega arith; rest = sym (read-rest h); more = λ u. ap (λ z. read z (l ++ u)) (read-value h) ∙ ap (λ z. read b (z ++ u)) (read-rest h) } }

cuts-guard : {A : Type 0} {Q : A → ℕ → Type 0} (g : Bool) {r : Reader A} → Cuts r Q → Cuts (guard g r) Q
unfolding guard fail
cuts-guard true c = c
cuts-guard false c = record { cuts = λ l a t h. broken-not-read h }

cuts-fail : {A : Type 0} {Q : A → ℕ → Type 0} → Cuts (fail {A = A}) Q
unfolding fail
cuts-fail = record { cuts = λ l a t h. broken-not-read h }

cuts-byte : Cuts byte (λ a n. n ≡ 1)
unfolding byte
cuts-byte = record { cuts = go }
  where
    go : (l : List ℕ) (a : ℕ) (t : List ℕ) → byte l ≡ read a t → Found byte (λ a n. n ≡ 1) l a t
    go [] a t h = broken-not-read h
    go (b ∷ l) a t h = record { count = 1; fits = refl; cut = record { few = omega arith; rest = sym (read-rest h); more = λ u. ap (λ z. read z (l ++ u)) (read-value h) ∙ ap (λ z. read a (z ++ u)) (read-rest h) } }

cuts-bytes : (n : ℕ) → Cuts (bytes n) (λ a k. k ≡ length a)
unfolding bytes
cuts-bytes n = record { cuts = λ l a t h. go l a t (leb n (length l)) refl h }
  where
    go : (l a t : List ℕ) (c : Bool) → leb n (length l) ≡ c → cond {A = Read (List ℕ)} c (read (take n l) (drop n l)) broken ≡ read a t → Found (bytes n) (λ a k. k ≡ length a) l a t
    go l a t true e h =
        let i = leb-true n (length l) e in
        record {
          count = n;
          fits = sym (length-take-le n l i) ∙ ap length (read-value h);
          cut = record {
            few = i;
            rest = sym (read-rest h);
            more = λ u. rw (le-leb n (length (l ++ u)) (omega (arith, length-append l u)), take-append-le n l u i, drop-append-le n l u i) (ap (λ z. read z (drop n l ++ u)) (read-value h) ∙ ap (λ z. read a (z ++ u)) (read-rest h));
          };
        }
    go l a t false e h = broken-not-read h

cuts-int4 : Cuts int4 (λ a n. n ≡ 4)
unfolding int4 nat4
cuts-int4 = cuts-then nat4 _ (cuts-then {Q = λ a n. n ≡ 4} byte _ cuts-byte (λ a i e. cuts-then byte _ cuts-byte (λ b j f. cuts-then byte _ cuts-byte (λ c k g. cuts-then byte _ cuts-byte (λ d m h. cuts-give _ (omega arith)))))) (λ n i e. cuts-give _ (omega arith))

pub cuts-times : {A : Type 0} {r : Reader A} (write : A → List ℕ) → Cuts r (λ a n. n ≡ length (write a)) → (n : ℕ) → Cuts (times n r) (λ l k. k ≡ length (flat_map write l))
unfolding times flat_map
cuts-times write c zero = cuts-give [] refl
cuts-times {r = r} write c (suc n) = cuts-then r _ c (λ a i e. cuts-then (times n r) _ (cuts-times write c n) (λ l j f. cuts-give (a ∷ l) (omega (arith, length-append (write a) (flat_map write l)))))

cuts-nat2 : Cuts nat2 (λ a n. n ≡ 2)
unfolding nat2
cuts-nat2 = cuts-then byte _ cuts-byte (λ a i e. cuts-then byte _ cuts-byte (λ b j f. cuts-give _ (omega arith)))

cuts-section2 : Cuts section2 (λ b n. n ≡ 2 + length b)
unfolding section2
cuts-section2 = cuts-then nat2 _ cuts-nat2 (λ n i e. longer e (cuts-bytes n))
  where
    longer : {i : ℕ} {r : Reader (List ℕ)} → i ≡ 2 → Cuts r (λ b k. k ≡ length b) → Cuts r (λ b k. i + k ≡ 2 + length b)
    longer e c = record { cuts = λ l a t h. (let f = c.cuts l a t h in record { count = f.count; fits = let g = f.fits in omega arith; cut = f.cut }) }

cuts-from : {A : Type 0} {Q : A → ℕ → Type 0} (o : Option A) → ((a : A) → o ≡ some a → Q a 0) → Cuts (from o) Q
unfolding from
cuts-from none f = cuts-fail
cuts-from (some a) f = cuts-give a (f a refl)

-- ---- the parts of the section: each takes as many bytes as its written form
pub rate-length : (r : Rate) → length (write_rate r) ≡ 5
unfolding write_rate value_bytes out4
rate-length r = refl

pub rates-length : (rs : List Rate) → length (flat_map write_rate rs) ≡ 5 * length rs
unfolding flat_map
rates-length [] = refl
rates-length (r ∷ rs) = let e = rates-length rs in omega (arith, rate-length r, length-append (write_rate r) (flat_map write_rate rs))

-- rate count, rates of 5 bytes, switch count, switches
pub mode-length : (m : Mode) → length (write_mode m) ≡ 2 + 5 * length m.rates + length (flat_map write_switch m.switches)
unfolding write_mode
mode-length m = omega (arith, length-append (flat_map write_rate m.rates) (length m.switches ∷ flat_map write_switch m.switches), rates-length m.rates)

pub cuts-rate : Cuts read_rate (λ r n. n ≡ length (write_rate r))
unfolding read_rate
cuts-rate = cuts-then byte _ cuts-byte (λ v i e. cuts-then int4 _ cuts-int4 (λ z j f. cuts-give _ (omega (arith, rate-length (record { driven = v; rate = z })))))

pub cuts-switch : Cuts read_switch (λ w n. n ≡ length (write_switch w))
unfolding read_switch write_switch
cuts-switch = cuts-then byte _ cuts-byte (λ l i e. cuts-guard _ (cuts-then byte _ cuts-byte (λ m j f. cuts-then (bytes (l - 1)) _ (cuts-bytes (l - 1)) (λ t k g. cuts-give _ (omega arith)))))

pub cuts-mode : Cuts read_mode (λ m n. n ≡ length (write_mode m))
unfolding read_mode
cuts-mode =
    cuts-then byte _ cuts-byte (λ n i e. cuts-then (times n read_rate) _ (cuts-times write_rate cuts-rate n) (λ rs j f. cuts-then byte _ cuts-byte (λ k m g.
    cuts-then (times k read_switch) _ (cuts-times write_switch cuts-switch k) (λ ws o h. cuts-give _ (omega (arith, rates-length rs, mode-length (record { rates = rs; switches = ws })))))))

-- without the kind
cuts-steady : Cuts read_steady (λ e n. 1 + n ≡ length (equation_bytes e))
unfolding read_steady equation_bytes
cuts-steady = cuts-then read_rate _ cuts-rate (λ r i e. cuts-give _ (omega arith))

cuts-choice : Cuts read_choice (λ e n. 1 + n ≡ length (equation_bytes e))
unfolding read_choice equation_bytes
cuts-choice =
    cuts-then byte _ cuts-byte (λ first i e. cuts-then byte _ cuts-byte (λ n j f. cuts-guard _
    (cuts-then (times n read_mode) _ (cuts-times write_mode cuts-mode n) (λ ms k g. cuts-give _ (omega arith)))))

cuts-cond : {A : Type 0} {Q : A → ℕ → Type 0} (b : Bool) {r t : Reader A} → Cuts r Q → Cuts t Q → Cuts (cond b r t) Q
cuts-cond true c d = c
cuts-cond false c d = d

with-kind : {n : ℕ} {r : Reader Equation} → n ≡ 1 → Cuts r (λ e k. 1 + k ≡ length (equation_bytes e)) → Cuts r (λ e k. n + k ≡ length (equation_bytes e))
with-kind i c = rw i c

-- without the two bytes of its length
pub cuts-kind : Cuts read_equation_body (λ e n. n ≡ length (equation_bytes e))
unfolding read_equation_body
cuts-kind = cuts-then byte _ cuts-byte (λ k i e. cuts-cond (eqb k 1) (with-kind e cuts-steady) (cuts-cond (eqb k 2) (with-kind e cuts-choice) cuts-fail))

pub kind-size : (b : List ℕ) {e : Equation} → equation_in_bytes b ≡ some e → 2 + length b ≡ length (write_equation e)
unfolding equation_in_bytes write_equation in_section2 out2
kind-size b {e} h =
    let f = cuts-kind.cuts b e [] (whole-read read_equation_body b h) in
    let i = f.fits in
    let j = f.cut.few in
    let k : 0 ≡ length b - f.count = ap length f.cut.rest ∙ length-drop f.count b in
    omega arith

pub cuts-equation : Cuts read_equation (λ e n. n ≡ length (write_equation e))
unfolding read_equation
cuts-equation = cuts-then section2 _ cuts-section2 (λ b n e. cuts-from (equation_in_bytes b) (λ q h. let k = kind-size b h in omega arith))

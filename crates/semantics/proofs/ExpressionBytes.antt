-- 12 accepts bytes just where they are the encoding of a number or truth of depth at most 16 whose variables are known.
use mathlib.Core.Path.{◌≡◌, refl, sym, ap, subst, ◌∙◌}
use mathlib.Core.Bool.{Bool, true, ◌&&◌, cond}
use mathlib.Core.List.{List, ◌∷◌, ◌++◌, append_assoc, append-nil}
use mathlib.Core.Logic.{◌↔◌}
use mathlib.Core.Option.{Option, some}
use Prim.Native.Nat.{ℕ, zero, suc, max, ◌≤◌, ◌<◌}
use native.Mathlib.Omega.{arith}
use borrow.Author.Tests.{eqb-true}
use lib.Dec.{ltb, eqb}
use Rattle.semantics.specs.Bytes.{Reader, read, ◌>>=◌, give, fail, from, byte, int4, is_some}
use Rattle.semantics.specs.Editions.{Edition}
use Rattle.semantics.specs.Expressions.{Operation, sum, difference, product, Comparison, at_most, less, equal, unequal, Connective, both, either, Number, constant, variable, operate, negation, Truth, compare, connect, opposite, always, number_depth, truth_depth, Form, a_constant, a_variable, an_operation, a_negation, a_comparison, a_connective, an_opposite, a_true, unknown, form_of, operation_code, comparison_code, connective_code, number_bytes, truth_bytes, number_known, truth_known, Expression, a_number, a_truth, number_of_expression, to_truth, read_variable_number, read_as_number, read_truth, read_form, read_expression, number_in, truth_in}
use Rattle.semantics.proofs.Facts.{some_is, none-not-some, by_cases, and_left, and_right, and_both, is-some, some_of, All, all_cons}
use Rattle.semantics.proofs.Readers.{broken-not-read, split, given, given-rest, guarded, from_some, byte-read, whole-read, Reads, reads_then, reads-last, reads-give, reads_byte, reads-guard, reads-from, whole-reads}
use Rattle.semantics.proofs.SignedBytes.{Bytes, reads-int4, int4-read}

-- ---- codes
-- the byte that stands for a form
abbrev pub Stands : ℕ → Form → Type 0
Stands c a_constant = c ≡ 0x01
Stands c a_variable = c ≡ 0x02
Stands c (an_operation o) = c ≡ operation_code o
Stands c a_negation = c ≡ 0x14
Stands c (a_comparison r) = c ≡ comparison_code r
Stands c (a_connective j) = c ≡ connective_code j
Stands c an_opposite = c ≡ 0x2a
Stands c a_true = c ≡ 0x2f
Stands c unknown = Unit {0}

-- the byte is this code, or what the rest of the chain says
code : (c k : ℕ) (f g : Form) → (c ≡ k → Stands c f) → Stands c g → Stands c (cond (eqb c k) f g)
code c k f g h r = by_cases (eqb c k) (λ e. rw e (h (eqb-true c k e))) (λ e. rw e r)

pub form-stands : (c : ℕ) → Stands c (form_of c)
unfolding form_of operation_code comparison_code connective_code
form-stands c =
    code c 0x01 _ _ (λ e. e) (code c 0x02 _ _ (λ e. e)
    (code c 0x10 _ _ (λ e. e) (code c 0x11 _ _ (λ e. e)
    (code c 0x12 _ _ (λ e. e) (code c 0x14 _ _ (λ e. e)
    (code c 0x20 _ _ (λ e. e) (code c 0x21 _ _ (λ e. e)
    (code c 0x22 _ _ (λ e. e) (code c 0x23 _ _ (λ e. e)
    (code c 0x28 _ _ (λ e. e) (code c 0x29 _ _ (λ e. e)
    (code c 0x2a _ _ (λ e. e) (code c 0x2f _ _ (λ e. e) tt)))))))))))))

pub operation-form : (o : Operation) → form_of (operation_code o) ≡ an_operation o
unfolding form_of operation_code
operation-form sum = refl
operation-form difference = refl
operation-form product = refl

pub comparison-form : (c : Comparison) → form_of (comparison_code c) ≡ a_comparison c
unfolding form_of comparison_code
comparison-form at_most = refl
comparison-form less = refl
comparison-form equal = refl
comparison-form unequal = refl

pub connective-form : (c : Connective) → form_of (connective_code c) ≡ a_connective c
unfolding form_of connective_code
connective-form both = refl
connective-form either = refl

-- an operand of the sort that is wanted
reads-sort : {A : Type 0} (r : Reader Expression) (to : Expression → Option A) {w : List ℕ} {x : Expression} {e : A} → to x ≡ some e → Reads r w x → Reads (r >>= λ x. from (to x)) w e
reads-sort r to {w} {x} {e} k h = subst (λ w. Reads (r >>= λ x. from (to x)) w e) (append-nil w) (reads_then r _ h (reads-from k))

module _ (ed : Edition) (v : ℕ) where
  -- ---- an expression is read back from its bytes
  reads-form : (d c : ℕ) (f : Form) {w : List ℕ} {x : Expression} → form_of c ≡ f → Reads (read_form ed v (read_expression ed v d) f) w x → Reads (read_expression ed v (suc d)) (c ∷ w) x
  unfolding read_expression
  reads-form d c f e h = reads_then byte _ (reads_byte c) (rw e h)

  reads-as-number : (r : Reader Expression) {w : List ℕ} {e : Number} → Reads r w (a_number e) → Reads (read_as_number ed v r) w e
  unfolding read_as_number number_of_expression
  reads-as-number r h = reads-sort r number_of_expression refl h

  reads-as-truth : (r : Reader Expression) {w : List ℕ} {e : Truth} → Reads r w (a_truth e) → Reads (read_truth ed v r) w e
  unfolding read_truth to_truth
  reads-as-truth r h = reads-sort r to_truth refl h

  pub reads-number : (e : Number) (d : ℕ) → number_depth e ≤ d → number_known v e ≡ true → Reads (read_expression ed v d) (number_bytes ed e) (a_number e)
  unfolding number_depth number_known number_bytes read_form read_variable_number form_of
  reads-number (constant z) zero h k = absurd (omega arith)
  reads-number (constant z) (suc d) h k = reads-form d 0x01 a_constant refl (reads-last int4 (λ z. a_number (constant z)) (reads-int4 z k))
  reads-number (variable n) zero h k = absurd (omega arith)
  reads-number (variable n) (suc d) h k = reads-form d 0x02 a_variable refl (reads_then byte _ (reads_byte n) (reads-guard _ k (reads-give (a_number (variable n)))))
  reads-number (operate o a b) zero h k = absurd (omega arith)
  reads-number (operate o a b) (suc d) h k =
      let p = reads-as-number _ (reads-number a d (omega arith) (and_left (number_known v a) (number_known v b) k)) in
      let q = reads-as-number _ (reads-number b d (omega arith) (and_right (number_known v a) (number_known v b) k)) in
      reads-form d (operation_code o) (an_operation o) (operation-form o) (reads_then _ _ p (reads-last _ (λ b. a_number (operate o a b)) q))
  reads-number (negation a) zero h k = absurd (omega arith)
  reads-number (negation a) (suc d) h k =
      reads-form d 0x14 a_negation refl (reads-last _ (λ a. a_number (negation a)) (reads-as-number _ (reads-number a d (omega arith) k)))

  pub reads-truth : (e : Truth) (d : ℕ) → truth_depth e ≤ d → truth_known v e ≡ true → Reads (read_expression ed v d) (truth_bytes ed e) (a_truth e)
  unfolding truth_depth truth_known truth_bytes read_form form_of
  reads-truth (compare c a b) zero h k = absurd (omega arith)
  reads-truth (compare c a b) (suc d) h k =
      let p = reads-as-number _ (reads-number a d (omega arith) (and_left (number_known v a) (number_known v b) k)) in
      let q = reads-as-number _ (reads-number b d (omega arith) (and_right (number_known v a) (number_known v b) k)) in
      reads-form d (comparison_code c) (a_comparison c) (comparison-form c) (reads_then _ _ p (reads-last _ (λ b. a_truth (compare c a b)) q))
  reads-truth (connect c a b) zero h k = absurd (omega arith)
  reads-truth (connect c a b) (suc d) h k =
      let p = reads-as-truth _ (reads-truth a d (omega arith) (and_left (truth_known v a) (truth_known v b) k)) in
      let q = reads-as-truth _ (reads-truth b d (omega arith) (and_right (truth_known v a) (truth_known v b) k)) in
      reads-form d (connective_code c) (a_connective c) (connective-form c) (reads_then _ _ p (reads-last _ (λ b. a_truth (connect c a b)) q))
  reads-truth (opposite a) zero h k = absurd (omega arith)
  reads-truth (opposite a) (suc d) h k =
      reads-form d 0x2a an_opposite refl (reads-last _ (λ a. a_truth (opposite a)) (reads-as-truth _ (reads-truth a d (omega arith) k)))
  reads-truth always zero h k = absurd (omega arith)
  reads-truth always (suc d) h k = reads-form d 0x2f a_true refl (reads-give (a_truth always))

  -- ---- the encoding is accepted
  pub number-encoded : (e : Number) → number_depth e ≤ 16 → number_known v e ≡ true → number_in ed v (number_bytes ed e) ≡ some e
  unfolding number_in
  number-encoded e h k = whole-reads _ (reads-as-number _ (reads-number e 16 h k))

  pub truth-encoded : (e : Truth) → truth_depth e ≤ 16 → truth_known v e ≡ true → truth_in ed v (truth_bytes ed e) ≡ some e
  unfolding truth_in
  truth-encoded e h k = whole-reads _ (reads-as-truth _ (reads-truth e 16 h k))

-- ---- what is read is an expression's encoding
abbrev pub bytes_of : Edition → Expression → List ℕ
bytes_of ed (a_number e) = number_bytes ed e
bytes_of ed (a_truth e) = truth_bytes ed e

abbrev pub depth_of : Expression → ℕ
depth_of (a_number e) = number_depth e
depth_of (a_truth e) = truth_depth e

abbrev pub known_of : ℕ → Expression → Bool
known_of v (a_number e) = number_known v e
known_of v (a_truth e) = truth_known v e

-- s is the encoding of x, of at most this depth, and t after it
pub record Decoded (ed : Edition) (v depth : ℕ) (s : List ℕ) (x : Expression) (t : List ℕ) : Type 0 where
  pub taken : s ≡ bytes_of ed x ++ t
  pub deep : depth_of x ≤ depth
  pub known : known_of v x ≡ true
  pub left : Bytes t

-- a reader that takes encodings of at most this depth
pub record Decodes (ed : Edition) (v depth : ℕ) (r : Reader Expression) : Type 0 where
  pub decodes : (s : List ℕ) {x : Expression} {t : List ℕ} → Bytes s → r s ≡ read x t → Decoded ed v depth s x t

gives : {ed : Edition} {v d : ℕ} {s : List ℕ} (y : Expression) (u : List ℕ) {x : Expression} {t : List ℕ} → Decoded ed v d s y u → give y u ≡ read x t → Decoded ed v d s x t
gives {ed} {v} {d} {s} y u {x} {t} h e = subst (λ x. Decoded ed v d s x t) (given y u e) (subst (λ t. Decoded ed v d s y t) (given-rest y u e) h)

-- a code and one operand, or two
one-operand : {ed : Edition} {v d c k : ℕ} (a x : Expression) {s t : List ℕ} → c ≡ k → bytes_of ed x ≡ k ∷ bytes_of ed a → depth_of x ≡ suc (depth_of a) → known_of v x ≡ known_of v a →
    Decoded ed v d s a t → Decoded ed v (suc d) (c ∷ s) x t
one-operand {k = k} a x h e f g i = record {
  taken = rw (h, e) (ap (λ u. k ∷ u) i.taken);
  deep = let l = i.deep in omega arith;
  known = g ∙ i.known;
  left = i.left;
}

two_operands : {ed : Edition} {v d c k : ℕ} (a b x : Expression) {s u t : List ℕ} → c ≡ k → bytes_of ed x ≡ k ∷ (bytes_of ed a ++ bytes_of ed b) → depth_of x ≡ suc (max (depth_of a) (depth_of b)) →
    known_of v x ≡ (known_of v a && known_of v b) → Decoded ed v d s a u → Decoded ed v d u b t → Decoded ed v (suc d) (c ∷ s) x t
two_operands {ed = ed} {k = k} a b x {t = t} h e f g i j = record {
  taken = rw (h, e, append_assoc (bytes_of ed a) (bytes_of ed b) t, ← j.taken) (ap (λ u. k ∷ u) i.taken);
  deep = let l = i.deep in let m = j.deep in omega arith;
  known = g ∙ and_both i.known j.known;
  left = j.left;
}

bytes-tail : {n : ℕ} {s t : List ℕ} → s ≡ n ∷ t → Bytes s → Bytes t
bytes-tail e p = go (subst Bytes e p)
  where
    go : {n : ℕ} {t : List ℕ} → Bytes (n ∷ t) → Bytes t
    go (all_cons h p) = p

pub to_number : (x : Expression) (e : Number) → number_of_expression x ≡ some e → x ≡ a_number e
unfolding number_of_expression
to_number (a_number a) e h = ap a_number (some_is h)
to_number (a_truth a) e h = none-not-some h

pub to-truth : (x : Expression) (e : Truth) → to_truth x ≡ some e → x ≡ a_truth e
unfolding to_truth
to-truth (a_number a) e h = none-not-some h
to-truth (a_truth a) e h = ap a_truth (some_is h)

decoded-sort : {A : Type 0} {ed : Edition} {v d : ℕ} (r : Reader Expression) (to : Expression → Option A) (back : A → Expression) → ((x : Expression) (e : A) → to x ≡ some e → x ≡ back e) →
    Decodes ed v d r → (s : List ℕ) {e : A} {t : List ℕ} → Bytes s → (r >>= λ x. from (to x)) s ≡ read e t → Decoded ed v d s (back e) t
decoded-sort {ed = ed} {v = v} {d = d} r to back inverse h s {e} {t} p k =
    let q = split r _ k in
    let f = from_some (to q.value) q.then in
    let i = h.decodes s p q.first in
    subst (λ x. Decoded ed v d s x t) (inverse q.value e f.0) (subst (λ t. Decoded ed v d s q.value t) f.1 i)

module _ (ed : Edition) (v : ℕ) where
  decoded-number : {d : ℕ} (r : Reader Expression) → Decodes ed v d r → (s : List ℕ) {e : Number} {t : List ℕ} → Bytes s → read_as_number ed v r s ≡ read e t → Decoded ed v d s (a_number e) t
  unfolding read_as_number
  decoded-number r h s p k = decoded-sort r number_of_expression a_number to_number h s p k

  decoded-truth : {d : ℕ} (r : Reader Expression) → Decodes ed v d r → (s : List ℕ) {e : Truth} {t : List ℕ} → Bytes s → read_truth ed v r s ≡ read e t → Decoded ed v d s (a_truth e) t
  unfolding read_truth
  decoded-truth r h s p k = decoded-sort r to_truth a_truth to-truth h s p k

  variable-decoded : {c d n : ℕ} {s t : List ℕ} → c ≡ 0x02 → s ≡ n ∷ t → Bytes s → ltb n v ≡ true → Decoded ed v (suc d) (c ∷ s) (a_number (variable n)) t
  unfolding number_bytes number_depth number_known
  variable-decoded e f p g = record { taken = rw (e, f) refl; deep = omega arith; known = g; left = bytes-tail f p }

  decoded-form : {d : ℕ} (r : Reader Expression) → Decodes ed v d r → (c : ℕ) (f : Form) → Stands c f →
      (s : List ℕ) {x : Expression} {t : List ℕ} → Bytes s → read_form ed v r f s ≡ read x t → Decoded ed v (suc d) (c ∷ s) x t
  unfolding read_form read_variable_number fail number_bytes truth_bytes number_depth truth_depth number_known truth_known
  decoded-form r h c a_constant e s p k =
      let q = split int4 _ k in
      let i = int4-read s p q.first in
      gives (a_number (constant q.value)) q.rest (record { taken = rw e (ap (λ u. 0x01 ∷ u) i.taken); deep = omega arith; known = i.fits; left = i.left }) q.then
  decoded-form r h c a_variable e s p k =
      let q = split byte _ k in
      let g = guarded (ltb q.value v) _ q.then in
      gives (a_number (variable q.value)) q.rest (variable-decoded e (byte-read s q.first) p g.0) g.1
  decoded-form r h c (an_operation o) e s p k =
      let q = split (read_as_number ed v r) _ k in
      let i = decoded-number r h s p q.first in
      let l = split (read_as_number ed v r) _ q.then in
      let j = decoded-number r h q.rest i.left l.first in
      gives _ _ (two_operands _ _ (a_number (operate o q.value l.value)) e refl refl refl i j) l.then
  decoded-form r h c a_negation e s p k =
      let q = split (read_as_number ed v r) _ k in
      let i = decoded-number r h s p q.first in
      gives _ _ (one-operand _ (a_number (negation q.value)) e refl refl refl i) q.then
  decoded-form r h c (a_comparison o) e s p k =
      let q = split (read_as_number ed v r) _ k in
      let i = decoded-number r h s p q.first in
      let l = split (read_as_number ed v r) _ q.then in
      let j = decoded-number r h q.rest i.left l.first in
      gives _ _ (two_operands _ _ (a_truth (compare o q.value l.value)) e refl refl refl i j) l.then
  decoded-form r h c (a_connective o) e s p k =
      let q = split (read_truth ed v r) _ k in
      let i = decoded-truth r h s p q.first in
      let l = split (read_truth ed v r) _ q.then in
      let j = decoded-truth r h q.rest i.left l.first in
      gives _ _ (two_operands _ _ (a_truth (connect o q.value l.value)) e refl refl refl i j) l.then
  decoded-form r h c an_opposite e s p k =
      let q = split (read_truth ed v r) _ k in
      let i = decoded-truth r h s p q.first in
      gives _ _ (one-operand _ (a_truth (opposite q.value)) e refl refl refl i) q.then
  decoded-form r h c a_true e s p k = gives (a_truth always) s (record { taken = ap (λ c. c ∷ s) e; deep = omega arith; known = refl; left = p }) k
  decoded-form r h c unknown e s p k = broken-not-read k

  decoded-byte : {d : ℕ} → Decodes ed v d (read_expression ed v d) → (s : List ℕ) {x : Expression} {t : List ℕ} → Bytes s → read_expression ed v (suc d) s ≡ read x t → Decoded ed v (suc d) s x t
  unfolding read_expression
  decoded-byte {d} h s {x} {t} p k =
      let q = split byte _ k in
      let e = byte-read s q.first in
      subst (λ s. Decoded ed v (suc d) s x t) (sym e) (decoded-form (read_expression ed v d) h q.value (form_of q.value) (form-stands q.value) q.rest (bytes-tail e p) q.then)

  pub decoded : (d : ℕ) → Decodes ed v d (read_expression ed v d)
  unfolding read_expression fail
  decoded zero = record { decodes = λ s p k. broken-not-read k }
  decoded (suc d) = record { decodes = decoded-byte (decoded d) }

  -- ---- what is accepted is an encoding
  pub number-decoded : (s : List ℕ) (e : Number) → All (λ b. b < 256) s → number_in ed v s ≡ some e → (number_bytes ed e ≡ s) × (number_depth e ≤ 16) × (number_known v e ≡ true)
  unfolding number_in
  number-decoded s e p k =
      let i = decoded-number (read_expression ed v 16) (decoded 16) s p (whole-read _ s k) in
      (sym (i.taken ∙ append-nil (number_bytes ed e)), i.deep, i.known)

  pub truth-decoded : (s : List ℕ) (e : Truth) → All (λ b. b < 256) s → truth_in ed v s ≡ some e → (truth_bytes ed e ≡ s) × (truth_depth e ≤ 16) × (truth_known v e ≡ true)
  unfolding truth_in
  truth-decoded s e p k =
      let i = decoded-truth (read_expression ed v 16) (decoded 16) s p (whole-read _ s k) in
      (sym (i.taken ∙ append-nil (truth_bytes ed e)), i.deep, i.known)

  -- ---- 12: accepted just where they are an encoding
  pub number_is : (s : List ℕ) (e : Number) → All (λ b. b < 256) s →
      (number_in ed v s ≡ some e) ↔ ((number_bytes ed e ≡ s) × (number_depth e ≤ 16) × (number_known v e ≡ true))
  number_is s e p = (number-decoded s e p, λ h. subst (λ s. number_in ed v s ≡ some e) h.0 (number-encoded ed v e h.1 h.2))

  pub truth_is : (s : List ℕ) (e : Truth) → All (λ b. b < 256) s →
      (truth_in ed v s ≡ some e) ↔ ((truth_bytes ed e ≡ s) × (truth_depth e ≤ 16) × (truth_known v e ≡ true))
  truth_is s e p = (truth-decoded s e p, λ h. subst (λ s. truth_in ed v s ≡ some e) h.0 (truth-encoded ed v e h.1 h.2))

  pub expression-bytes : (s : List ℕ) → All (λ b. b < 256) s →
      (is_some (number_in ed v s) ≡ true) ↔ ((e : Number) × (number_bytes ed e ≡ s) × (number_depth e ≤ 16) × (number_known v e ≡ true))
  expression-bytes s p = (there, λ h. is-some ((number_is s h.0 p).1 (h.1, h.2, h.3)))
    where
      there : is_some (number_in ed v s) ≡ true → (e : Number) × (number_bytes ed e ≡ s) × (number_depth e ≤ 16) × (number_known v e ≡ true)
      there h =
          let o = some_of (number_in ed v s) h in
          let i = number-decoded s o.0 p o.1 in
          (o.0, i.0, i.1, i.2)

  pub truth-bytes : (s : List ℕ) → All (λ b. b < 256) s →
      (is_some (truth_in ed v s) ≡ true) ↔ ((e : Truth) × (truth_bytes ed e ≡ s) × (truth_depth e ≤ 16) × (truth_known v e ≡ true))
  truth-bytes s p = (there, λ h. is-some ((truth_is s h.0 p).1 (h.1, h.2, h.3)))
    where
      there : is_some (truth_in ed v s) ≡ true → (e : Truth) × (truth_bytes ed e ≡ s) × (truth_depth e ≤ 16) × (truth_known v e ≡ true)
      there h =
          let o = some_of (truth_in ed v s) h in
          let i = truth-decoded s o.0 p o.1 in
          (o.0, i.0, i.1, i.2)

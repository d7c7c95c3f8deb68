-- What is read from bytes: numbers that fit theirs, and plants, starts and tables that keep a run's records bytes.
use mathlib.Core.Path.{◌≡◌, refl, sym, ap, subst}
use mathlib.Core.Bool.{Bool, true, false, cond}
use mathlib.Core.List.Memᴰ.{head as first}
use mathlib.Core.List.Memᴰ.{tail as later}
use mathlib.Core.List.{Memᴰ as Mem, List, [], ◌∷◌, ◌++◌}
use mathlib.Core.Option.{Option, none, some}
use Prim.Native.Nat.{ℕ, zero, suc, ◌+◌, ◌-◌, ◌*◌, ◌<◌}
use native.Mathlib.Nat.{le_of_eq}
use native.Mathlib.Omega.{arith}
use borrow.Author.Tests.{eqb-true, ltb-true, ltb-false}
use lib.Dec.{ltb, leb, eqb, lit<}
use lib.ListN.{length, drop}
use lib.IntN.{pos, negsuc}
use Rattle.semantics.specs.Bytes.{overwrite, be2, be4, signed, Width, one_byte, two_bytes, read, Reader, ◌>>=◌, give, fail, guard, from, byte, nat2, nat4, int4, number, bytes, times, section2, section4, whole, within, from_no_bytes, from_two_bytes, byte_and_rest, width_of}
use Rattle.semantics.specs.Editions.{Edition, capacity}
use Rattle.semantics.specs.Refusals.{Judged, refused, accepted}
use Rattle.semantics.specs.Sections.{Rate, Selector, Equation, steady, choice, read_variable, read_variables, variables_in, read_rate, read_switch, read_mode, read_steady, read_choice, read_equation_body, equation_in_bytes, read_equation, read_equations, equations_in}
use Rattle.semantics.specs.Plant.{Plant, judge_plant, selectors, selectors_of}
use Rattle.semantics.specs.Starts.{Start, read_start, start_in}
use Rattle.semantics.specs.Run.{at, Action, stop}
use Rattle.semantics.specs.TableFile.{NodeAction, TableSections, ActionKind, a_test, a_wait, an_assignment, a_switch, a_stop, no_kind, action_kind, action_of_kind, read_table_sections, table_sections_in, read_action, read_actions, actions_in, action_bytes, kind_number, operand_bytes}
use Rattle.semantics.specs.Tables.{Table, judge_table, action_at, action_or_stop, table_control}
use Rattle.semantics.specs.Calls.{Program, Outcome, run_from, outcome_of, judge_admission, judge_run, report, table_program, table_run_of}
use Rattle.semantics.proofs.Facts.{all-mem, none-not-some, some_is, All, all_nil, all_cons, all_append}
use Rattle.semantics.proofs.TablePassed.{table-passed}
use Rattle.semantics.proofs.TableBack.{actions-in-order}
use Rattle.semantics.proofs.PlantPassed.{plant-passed}
use Rattle.semantics.proofs.Judging.{accepted-is, passed_then}
use Rattle.semantics.proofs.Admission.{admission-passed}
use Rattle.semantics.proofs.Readers.{broken-not-read, split, given, given-rest, guarded, from_some, byte-read, bytes_read, whole-read}
use Rattle.semantics.proofs.WrittenRecords.{records-bytes, Byte, Bits32, VariableBytes, TargetByte, ModeBytes, SelectorBytes, PlantBytes, ActionByte, ActionsBytes, StateBytes}

-- ---- a reader that makes such values of bytes, and leaves bytes
pub record Made {A : Type 0} (P : A → Type 0) (a : A) (t : List ℕ) : Type 0 where
  pub made : P a
  pub left : All Byte t

pub record Makes {A : Type 0} (r : Reader A) (P : A → Type 0) : Type 0 where
  pub makes : (s : List ℕ) → All Byte s → (a : A) (t : List ℕ) → r s ≡ read a t → Made P a t

pub makes-then : {A B : Type 0} {P : A → Type 0} {Q : B → Type 0} (r : Reader A) (f : A → Reader B) → Makes r P → ((a : A) → P a → Makes (f a) Q) → Makes (r >>= f) Q
makes-then {A} {B} {P} {Q} r f h k = record { makes = go }
  where
    go : (s : List ℕ) → All Byte s → (b : B) (t : List ℕ) → (r >>= f) s ≡ read b t → Made Q b t
    go s z b t e =
        let p = split r f e in
        let m = h.makes s z p.value p.rest p.first in
        (k p.value m.made).makes p.rest m.left b t p.then

pub makes-give : {A : Type 0} {P : A → Type 0} (a : A) → P a → Makes (give a) P
makes-give {A} {P} a h = record { makes = λ s z b t e. record { made = subst P (given a s e) h; left = subst (All Byte) (given-rest a s e) z } }

pub makes-guard : {A : Type 0} {P : A → Type 0} (g : Bool) (r : Reader A) → (g ≡ true → Makes r P) → Makes (guard g r) P
makes-guard g r h = record { makes = λ s z a t e. (let p = guarded g r e in (h p.0).makes s z a t p.1) }

pub makes-from : {A : Type 0} {P : A → Type 0} (o : Option A) → ((a : A) → o ≡ some a → P a) → Makes (from o) P
makes-from o h = record { makes = λ s z a t e. (let p = from_some o e in record { made = h a p.0; left = subst (All Byte) p.1 z }) }

pub makes-fail : {A : Type 0} {P : A → Type 0} → Makes (fail {A = A}) P
unfolding fail
makes-fail = record { makes = λ s z a t e. broken-not-read e }

head_byte : {n : ℕ} {t : List ℕ} → All Byte (n ∷ t) → Made Byte n t
head_byte (all_cons h k) = record { made = h; left = k }

pub makes-byte : Makes byte Byte
makes-byte = record { makes = λ s z n t e. head_byte (subst (All Byte) (byte-read s e) z) }

pub makes-nat2 : Makes nat2 (λ n. n < 65536)
unfolding nat2 be2
makes-nat2 = makes-then byte _ makes-byte (λ a h. makes-then byte _ makes-byte (λ b k. makes-give _ (let q : a * 256 + b < 65536 = omega arith in q)))

pub makes-nat4 : Makes nat4 (λ n. n < 4294967296)
unfolding nat4 be4
makes-nat4 =
    makes-then byte _ makes-byte (λ a h. makes-then byte _ makes-byte (λ b i. makes-then byte _ makes-byte (λ c j. makes-then byte _ makes-byte (λ d k.
    makes-give _ (let q : ((a * 256 + b) * 256 + c) * 256 + d < 4294967296 = omega arith in q)))))

signed-bits : (n : ℕ) → n < 4294967296 → Bits32 (signed n)
unfolding signed
signed-bits n h = go (ltb n 0x8000_0000) refl
  where
    go : (b : Bool) → ltb n 0x8000_0000 ≡ b → Bits32 (cond b (pos n) (negsuc (0xffff_ffff - n)))
    go true e = record { small = ltb-true n 0x8000_0000 e }
    go false e = let l = ltb-false n 0x8000_0000 e in record { small = omega arith }

pub makes-int4 : Makes int4 Bits32
unfolding int4
makes-int4 = makes-then nat4 _ makes-nat4 (λ n h. makes-give _ (signed-bits n h))

pub all_left : {A : Type 0} {P : A → Type 0} (l k : List A) → All P (l ++ k) → All P l
all_left [] k h = all_nil
all_left (x ∷ l) k (all_cons h q) = all_cons h (all_left l k q)

pub all_right : {A : Type 0} {P : A → Type 0} (l k : List A) → All P (l ++ k) → All P k
all_right [] k h = h
all_right (x ∷ l) k (all_cons h q) = all_right l k q

pub makes-bytes : (n : ℕ) → Makes (bytes n) (All Byte)
makes-bytes n = record { makes = λ s z b t e. (let w = subst (All Byte) (bytes_read n s e).1 z in record { made = all_left b t w; left = all_right b t w }) }

-- n of them
pub record Several {A : Type 0} (n : ℕ) (P : A → Type 0) (l : List A) : Type 0 where
  pub count : length l ≡ n
  pub each : All P l

pub makes-times : {A : Type 0} {P : A → Type 0} (n : ℕ) (r : Reader A) → Makes r P → Makes (times n r) (Several n P)
unfolding times
makes-times zero r h = makes-give [] (record { count = refl; each = all_nil })
makes-times (suc n) r h = makes-then r _ h (λ a p. makes-then (times n r) _ (makes-times n r h) (λ l q. makes-give _ (record { count = ap suc q.count; each = all_cons p q.each })))

pub makes-number : (w : Width) → Makes (number w) (λ n. n < capacity w)
unfolding number
makes-number one_byte = makes-byte
makes-number two_bytes = makes-nat2

pub makes-section2 : Makes section2 (All Byte)
unfolding section2
makes-section2 = makes-then nat2 _ makes-nat2 (λ n h. makes-bytes n)

pub makes-section4 : Makes section4 (All Byte)
unfolding section4
makes-section4 = makes-then nat4 _ makes-nat4 (λ n h. makes-bytes n)

pub whole-makes : {A : Type 0} {P : A → Type 0} {r : Reader A} → Makes r P → (s : List ℕ) → All Byte s → {a : A} → whole r s ≡ some a → P a
whole-makes {r = r} h s z {a} e = (h.makes s z a [] (whole-read r s e)).made

makes-either : {A : Type 0} {P : A → Type 0} (b : Bool) {r q : Reader A} → Makes r P → Makes q P → Makes (cond b r q) P
makes-either true h k = h
makes-either false h k = k

-- a weaker property
makes-weaker : {A : Type 0} {P Q : A → Type 0} {r : Reader A} → ((a : A) → P a → Q a) → Makes r P → Makes r Q
makes-weaker f h = record { makes = λ s z a t e. (let m = h.makes s z a t e in record { made = f a m.made; left = m.left }) }

-- ---- the two sections of a plant
module _ (ed : Edition) where
  makes-variable : Makes (read_variable ed) VariableBytes
  unfolding read_variable
  makes-variable = makes-then int4 _ makes-int4 (λ l b. makes-then int4 _ makes-int4 (λ h c. makes-then int4 _ makes-int4 (λ i d. makes-give _ (record { low = b; high = c }))))

  makes-variables : Makes (read_variables ed) (All VariableBytes)
  unfolding read_variables
  makes-variables = makes-then byte _ makes-byte (λ n h. makes-guard (within 1 32 n) _ (λ g. makes-weaker (λ l q. q.each) (makes-times n (read_variable ed) makes-variable)))

makes-rate : Makes read_rate (λ r. Unit {0})
unfolding read_rate
makes-rate = makes-then byte _ makes-byte (λ v h. makes-then int4 _ makes-int4 (λ r b. makes-give _ tt))

makes_switch : Makes read_switch TargetByte
unfolding read_switch
makes_switch =
    makes-then byte _ makes-byte (λ l h. makes-guard (leb 1 l) _ (λ g.
    makes-then byte _ makes-byte (λ m k. makes-then (bytes (l - 1)) _ (makes-bytes (l - 1)) (λ t u. makes-give _ k))))

makes-mode : Makes read_mode ModeBytes
unfolding read_mode
makes-mode =
    makes-then byte _ makes-byte (λ n h. makes-then (times n read_rate) _ (makes-times n read_rate makes-rate) (λ rs u.
    makes-then byte _ makes-byte (λ k i. makes-then (times k read_switch) _ (makes-times k read_switch makes_switch) (λ ss q. makes-give _ q.each))))

-- of a CASE, its switches
pub data EquationBytes : Equation → Type 0 where
  steady_bytes : {r : Rate} → EquationBytes (steady r)
  choice_bytes : {c : Selector} → SelectorBytes c → EquationBytes (choice c)

makes-steady : Makes read_steady EquationBytes
unfolding read_steady
makes-steady = makes-then read_rate _ makes-rate (λ r u. makes-give _ steady_bytes)

makes-choice : Makes read_choice EquationBytes
unfolding read_choice
makes-choice =
    makes-then byte _ makes-byte (λ f h. makes-then byte _ makes-byte (λ n k. makes-guard (within 1 8 n) _ (λ g.
    makes-then (times n read_mode) _ (makes-times n read_mode makes-mode) (λ ms q. makes-give _ (choice_bytes q.each)))))

makes-kind : Makes read_equation_body EquationBytes
unfolding read_equation_body
makes-kind = makes-then byte _ makes-byte (λ k h. makes-either (eqb k 1) makes-steady (makes-either (eqb k 2) makes-choice makes-fail))

makes-equation : Makes read_equation EquationBytes
unfolding read_equation equation_in_bytes
makes-equation = makes-then section2 _ makes-section2 (λ b h. makes-from (equation_in_bytes b) (λ e k. whole-makes makes-kind b h k))

makes-equations : Makes read_equations (All EquationBytes)
unfolding read_equations
makes-equations = makes-then byte _ makes-byte (λ n h. makes-guard (within 0 16 n) _ (λ g. makes-weaker (λ l q. q.each) (makes-times n read_equation makes-equation)))

selectors-bytes : {es : List Equation} → All EquationBytes es → All SelectorBytes (selectors_of es)
unfolding selectors_of
selectors-bytes all_nil = all_nil
selectors-bytes (all_cons steady_bytes q) = selectors-bytes q
selectors-bytes (all_cons (choice_bytes h) q) = all_cons h (selectors-bytes q)

pub plant-bytes : (ed : Edition) (vs es : List ℕ) {p : Plant} → judge_plant ed vs es ≡ accepted p → All Byte vs → All Byte es → PlantBytes p
unfolding variables_in equations_in selectors
plant-bytes ed vs es e v w =
    let k = plant-passed ed vs es e in
    record { variables = whole-makes (makes-variables ed) vs v k.variables; selectors = selectors-bytes (whole-makes makes-equations es w k.equations) }

-- ---- a start
makes-start : (p : Plant) → Makes (read_start p) (λ (st : Start). StateBytes p st.values st.modes)
unfolding read_start
makes-start p =
    makes-then (times (length p.variables) int4) _ (makes-times (length p.variables) int4 makes-int4) (λ vs h.
    makes-then (times (length (selectors p)) byte) _ (makes-times (length (selectors p)) byte makes-byte) (λ ms k.
    makes-give _ (record { few = le_of_eq h.count; bits = h.each; modes = k.each })))

pub start-bytes : (p : Plant) (s : List ℕ) {st : Start} → start_in p s ≡ some st → All Byte s → StateBytes p st.values st.modes
unfolding start_in
start-bytes p s e h = whole-makes (makes-start p) s h e

-- ---- a table
-- the action as it is written
abbrev pub ActionWritten : NodeAction → Type 0
ActionWritten a = All Byte (action_bytes a.action)

action-bytes : (k : ActionKind) (b : List ℕ) {a : Action} → All Byte b → action_of_kind k b ≡ some a → All Byte (action_bytes a)
unfolding action_of_kind action_bytes kind_number operand_bytes from_no_bytes from_two_bytes byte_and_rest
action-bytes a_test b h e = subst (λ a. All Byte (action_bytes a)) (some_is e) (all_cons (lit< tt) h)
action-bytes a_wait b h e = subst (λ a. All Byte (action_bytes a)) (some_is e) (all_cons (lit< tt) h)
action-bytes an_assignment [] h e = none-not-some e
action-bytes an_assignment (v ∷ b) h e = subst (λ a. All Byte (action_bytes a)) (some_is e) (all_cons (lit< tt) h)
action-bytes a_switch [] h e = none-not-some e
action-bytes a_switch (x ∷ []) h e = none-not-some e
action-bytes a_switch (x ∷ y ∷ []) h e = subst (λ a. All Byte (action_bytes a)) (some_is e) (all_cons (lit< tt) h)
action-bytes a_switch (x ∷ y ∷ z ∷ b) h e = none-not-some e
action-bytes a_stop [] h e = subst (λ a. All Byte (action_bytes a)) (some_is e) (all_cons (lit< tt) h)
action-bytes a_stop (x ∷ b) h e = none-not-some e
action-bytes no_kind b h e = none-not-some e

module _ (ed : Edition) where
  makes-action : Makes (read_action ed) ActionWritten
  unfolding read_action
  makes-action =
      makes-then (number ed.width) _ (makes-number ed.width) (λ l h. makes-guard _ _ (λ g.
      makes-then (number ed.width) _ (makes-number ed.width) (λ n i.
      makes-then byte _ makes-byte (λ k j. makes-then (bytes (l - (width_of ed.width + 1))) _ (makes-bytes _) (λ b c.
      makes-then (from (action_of_kind (action_kind k) b)) _ (makes-from {P = λ a. All Byte (action_bytes a)} _ (λ a e. action-bytes (action_kind k) b c e)) (λ a w. makes-give _ w))))))

  makes-actions : Makes (read_actions ed) (All ActionWritten)
  makes-actions =
      subst (λ r. Makes r (All ActionWritten)) (sym (actions-in-order ed)) (makes-then (number ed.width) _ (makes-number ed.width) (λ n h. makes-guard (within 1 ed.nodes n) _ (λ g.
      makes-weaker (λ l q. q.each) (makes-times n (read_action ed) makes-action))))

pub record SectionsBytes (t : TableSections) : Type 0 where
  pub variables : All Byte t.variables
  pub equations : All Byte t.equations
  pub actions : All Byte t.actions
  pub locations : All Byte t.locations

makes-sections : Makes read_table_sections SectionsBytes
unfolding read_table_sections
makes-sections =
    makes-then section2 _ makes-section2 (λ v h. makes-then section2 _ makes-section2 (λ e i. makes-then section2 _ makes-section2 (λ a j. makes-then section4 _ makes-section4 (λ l k.
    makes-give _ (record { variables = h; equations = i; actions = j; locations = k })))))

pub all_drop : {A : Type 0} {P : A → Type 0} (n : ℕ) {l : List A} → All P l → All P (drop n l)
all_drop zero h = h
all_drop (suc n) all_nil = all_nil
all_drop (suc n) (all_cons h q) = all_drop n q

third : {a b c : ℕ} → All Byte (a ∷ b ∷ c ∷ []) → c < 256
third (all_cons h (all_cons k (all_cons l all_nil))) = l

pub action-byte : (a : Action) → All Byte (action_bytes a) → ActionByte a
unfolding action_bytes kind_number operand_bytes
action-byte a h s m e = third (subst (λ a. All Byte (action_bytes a)) e h)

-- the action of a node stands in the list
pub record Found (l : List NodeAction) (n : ℕ) (a : Action) : Type 0 where
  pub entry : NodeAction
  pub listed : Mem entry l
  pub node_is : entry.node ≡ n
  pub action_is : entry.action ≡ a

pub found : (l : List NodeAction) (n : ℕ) {a : Action} → action_at l n ≡ some a → Found l n a
unfolding action_at
found [] n e = none-not-some e
found (x ∷ l) n {a} e = go (eqb x.node n) refl e (λ k. found l n k)
  where
    further : Found l n a → Found (x ∷ l) n a
    further f = record { entry = f.entry; listed = later f.listed; node_is = f.node_is; action_is = f.action_is }

    go : (b : Bool) → eqb x.node n ≡ b → elim b [ true ↦ some x.action | false ↦ action_at l n ] ≡ some a → (action_at l n ≡ some a → Found l n a) → Found (x ∷ l) n a
    go true k e ih = record { entry = x; listed = first refl; node_is = eqb-true x.node n k; action_is = some_is e }
    go false k e ih = further (ih e)

-- of the actions of a table, or of any list
pub actions-bytes : {l : List NodeAction} → All ActionWritten l → (n : ℕ) → ActionByte (action_or_stop l n)
unfolding action_or_stop action_bytes kind_number operand_bytes
actions-bytes {l} h n = go (action_at l n) refl
  where
    go : (o : Option Action) → action_at l n ≡ o → ActionByte (elim o [ none ↦ stop | some a ↦ a ])
    go none e = action-byte stop (all_cons (lit< tt) all_nil)
    go (some a) e = let f = found l n e in action-byte a (subst (λ a. All Byte (action_bytes a)) f.action_is (all-mem h f.listed))

-- what keeps a run's records bytes
pub record ProgramBytes {S : Type 0} (g : Program S) : Type 0 where
  pub plant : PlantBytes g.plant
  pub control : ActionsBytes g.control

abbrev of_table : Table → Program ℕ
of_table t = record { plant = t.plant; control = table_control t }

pub table-read-bytes : (ed : Edition) (t : List ℕ) {tab : Table} → judge_table ed t ≡ accepted tab → All Byte t → ProgramBytes (record { plant = tab.plant; control = table_control tab })
unfolding table_sections_in actions_in table_control
table-read-bytes ed t e h =
    let p = table-passed ed t e in
    let parts = whole-makes makes-sections (drop 5 t) (all_drop 5 h) p.is_parts in
    record {
      plant = plant-bytes ed p.parts.variables p.parts.equations p.plant parts.variables parts.equations;
      control = record { actions = actions-bytes (whole-makes (makes-actions ed) p.parts.actions parts.actions p.acts) };
    }

-- ---- the record buffer after a run
module _ {S : Type 0} (ed : Edition) (j : Judged (Program S)) (b : (g : Program S) → j ≡ accepted g → ProgramBytes g) (start events buffer : List ℕ) (h : All Byte start) where
  pub written-bytes : {o : Outcome} → judge_run ed j start events buffer ≡ accepted o → All Byte o.written
  unfolding judge_run run_from outcome_of
  written-bytes {o} e =
      let p = passed_then j _ e in
      let g = p.0 in
      let s = passed_then (judge_admission ed g.plant start events buffer) _ p.2 in
      let st = s.0 in
      let i = (admission-passed ed g.plant start events buffer s.1).starts.is_read in
      let q = b g p.1 in
      subst (λ (o : Outcome). All Byte o.written) (accepted-is s.2)
      (records-bytes ed g.plant g.control q.plant q.control (at g.control.start st.values st.modes) (start-bytes g.plant start i h) _)

  pub buffer-bytes : All Byte buffer → All Byte (report buffer (judge_run ed j start events buffer)).records
  unfolding report overwrite
  buffer-bytes k = go (judge_run ed j start events buffer) refl
    where
      go : (r : Judged Outcome) → judge_run ed j start events buffer ≡ r → All Byte (report buffer r).records
      go (refused n) e = k
      go (accepted o) e = all_append (written-bytes e) (all_drop (length o.written) k)

pub table-run-bytes : (ed : Edition) (table start events buffer : List ℕ) → All Byte table → All Byte start → All Byte buffer → All Byte (table_run_of ed table start events buffer).records
unfolding table_run_of table_program
table-run-bytes ed table start events buffer t h k = buffer-bytes ed (table_program ed table) program start events buffer h k
  where
    program : (g : Program ℕ) → table_program ed table ≡ accepted g → ProgramBytes g
    program g e =
        let p = passed_then (judge_table ed table) _ e in
        let q = table-read-bytes ed table p.1 t in
        subst ProgramBytes (accepted-is p.2) q

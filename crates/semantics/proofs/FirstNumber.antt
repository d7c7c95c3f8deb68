-- A call refuses with the first number of its list that applies, and accepts where none does.
use mathlib.Core.Path.{◌≡◌, refl, sym, ap, ◌∙◌}
use mathlib.Core.Bool.{Bool, true, false, not, ◌||◌}
use mathlib.Core.List.{List, [], ◌∷◌, ◌++◌}
use mathlib.Core.Option.{Option, none, some, bind}
use Prim.Native.Nat.{ℕ}
use borrow.Author.Tests.{eq-eqb}
use lib.Dec.{eqb}
use lib.ListN.{length, drop}
use Rattle.semantics.specs.Bytes.{all_nil, every, is_some}
use Rattle.semantics.specs.Editions.{Edition}
use Rattle.semantics.specs.Refusals.{Judged, refused, accepted, ◌>>=◌, ◌>>◌, ensure, need, with_one_number, refusal_of}
use Rattle.semantics.specs.Sections.{Variable, variables_in, equations_in}
use Rattle.semantics.specs.Plant.{Plant, judge_variables, judge_equations, judge_plant, switches_read, ordered, equation_named, driven_once}
use Rattle.semantics.specs.TableFile.{table_sections_in, actions_in, locations_in}
use Rattle.semantics.specs.Tables.{Table, judge_table, table_header, actions_fit, locations_fit_in}
use Rattle.semantics.specs.Starts.{start_in, fits_start}
use Rattle.semantics.specs.Calls.{Program, Outcome, report, table_counts_of, judge_start, judge_admission, judge_run, table_program, whole_events, room_for_records}
use Rattle.semantics.specs.Conditions.{Condition, ◌if◌, any_applies, given, is4, is5, is6, is7, is8, is_12_switches, plant_conditions, plant_in, table_parts, table_plant, is15, is16, is17, is18, is19, table_conditions, is20, is21, is22, run_conditions, table_run_conditions}
pub use Rattle.semantics.specs.Conditions.{First, here, further, Clear, none_left, one_clear, Firsts, refuses, accepts}
use Rattle.semantics.proofs.Facts.{true-not-false, every-all, All, all_cons, all_map}
use Rattle.semantics.proofs.Judging
use Rattle.semantics.proofs.PlantPassed.{variables-passed, equations-passed, plant-passed}
use Rattle.semantics.proofs.TablePassed.{table-passed}
use Rattle.semantics.proofs.TableJudged.{table-in-order}
use Rattle.semantics.proofs.Judging.{accepted-is}

-- ---- steps of a call
not-flip : (t : Bool) (b : Bool) → b ≡ not t → t ≡ true → b ≡ false
not-flip t b e h = rw h at e

pub by-ensure : {A : Type 0} (n : ℕ) (t : Bool) {b : Bool} {j : Judged A} {l : List Condition} → b ≡ not t → (t ≡ true → Firsts j l) → Firsts (ensure n t >> j) ((n if b) ∷ l)
unfolding ensure ◌>>◌
by-ensure n true {b} e f = after e (f refl)
  where
    after : {A : Type 0} {j : Judged A} {l : List Condition} → b ≡ false → Firsts j l → Firsts j ((n if b) ∷ l)
    after e (refuses g) = refuses (further e g)
    after e (accepts k) = accepts (one_clear e k)
by-ensure n false e f = refuses (here e refl)

pub by-need : {A B : Type 0} (n : ℕ) (o : Option A) {b : Bool} {f : A → Judged B} {l : List Condition} → b ≡ not (is_some o) → ((a : A) → o ≡ some a → Firsts (f a) l) → Firsts (need n o >>= f) ((n if b) ∷ l)
unfolding need ◌>>=◌ is_some
by-need n none e f = refuses (here e refl)
by-need n (some a) {b} e f = after e (f a refl)
  where
    after : {B : Type 0} {j : Judged B} {l : List Condition} → b ≡ false → Firsts j l → Firsts j ((n if b) ∷ l)
    after e (refuses g) = refuses (further e g)
    after e (accepts k) = accepts (one_clear e k)

-- ---- numbers that a list does not have: a test, which computes
pub lacks : (n : ℕ) (l : List Condition) → every (λ (c : Condition). not (eqb c.refusal n)) l ≡ true → All (λ (c : Condition). c.refusal ≡ n → ⊥) l
lacks n l h = all_map (λ c k e. true-not-false (sym k ∙ ap not (eq-eqb c.refusal n e))) (every-all (λ (c : Condition). not (eqb c.refusal n)) l h)

pub first-not : {n m : ℕ} {l : List Condition} → All (λ (c : Condition). c.refusal ≡ n → ⊥) l → First m l → m ≡ n → ⊥
first-not all_nil f z = elim f [ ]
first-not (all_cons h k) (here e f) z = h (f ∙ z)
first-not (all_cons h k) (further e f) z = first-not k f z

first-append : {n : ℕ} {k : List Condition} (l : List Condition) → First n k → First n (k ++ l)
first-append l (here e h) = here e h
first-append l (further e f) = further e (first-append l f)

clear-append : {n : ℕ} {k l : List Condition} → Clear k → First n l → First n (k ++ l)
clear-append none_left f = f
clear-append (one_clear e k) f = further e (clear-append k f)

clear_both : {k l : List Condition} → Clear k → Clear l → Clear (k ++ l)
clear_both none_left q = q
clear_both (one_clear e k) q = one_clear e (clear_both k q)

-- one call's list, then the next one's
pub by-then : {A B : Type 0} {j : Judged A} {f : A → Judged B} {k l : List Condition} → Firsts j k → ((a : A) → j ≡ accepted a → Firsts (f a) l) → Firsts (j >>= f) (k ++ l)
unfolding ◌>>=◌
by-then {l = l} (refuses g) h = refuses (first-append l g)
by-then {B = B} {f = f} {l = l} (accepts {a = a} {l = k} c) h = go (h a refl)
  where
    go : {i : Judged B} → Firsts i l → Firsts i (k ++ l)
    go (refuses g) = refuses (clear-append c g)
    go (accepts d) = accepts (clear_both c d)

pub by_end : {A : Type 0} (a : A) → Firsts (accepted a) []
by_end a = accepts none_left

pub given-some : {A : Type 0} {o : Option A} {a : A} (f : A → Bool) → o ≡ some a → given o f ≡ f a
unfolding given
given-some f e = rw e refl

pub bind-some : {A B : Type 0} {o : Option A} {a : A} (f : A → Option B) → o ≡ some a → bind o f ≡ f a
unfolding bind
bind-some f e = rw e refl

-- ---- 4 to 8
module _ (ed : Edition) (vs es : List ℕ) where
  pub variables-first : Firsts (judge_variables ed vs) ((4 if is4 ed vs es) ∷ (5 if is5 ed vs es) ∷ [])
  unfolding judge_variables is4 is5
  variables-first =
      by-need 4 (variables_in ed vs) refl (λ xs e.
      by-ensure 5 (every ordered xs) (given-some _ e) (λ h5. by_end _))

  equations-first : {xs : List Variable} → variables_in ed vs ≡ some xs → Firsts (judge_equations (length xs) es) ((6 if is6 ed vs es) ∷ (7 if is7 ed vs es) ∷ [])
  unfolding judge_equations is6 is7
  equations-first {xs} e =
      by-need 6 (equations_in es) refl (λ eqs f.
      by-ensure 7 (every (equation_named (length xs)) eqs) (given-some _ e ∙ given-some _ f) (λ h7. by_end _))

  pub plant-first : Firsts (judge_plant ed vs es) (plant_conditions ed vs es)
  unfolding judge_plant plant_conditions is8
  plant-first =
      by-then variables-first (λ xs i.
      by-then (equations-first (variables-passed ed vs i).is) (λ eqs j.
      by-ensure 8 (driven_once [] eqs) (given-some _ (equations-passed (length xs) es j).is) (λ h8. by_end _)))

  -- the plant that is accepted is the one that stands in the two sections
  pub plant-is : {p : Plant} → judge_plant ed vs es ≡ accepted p →
      (variables_in ed vs ≡ some p.variables) × (equations_in es ≡ some p.equations)
  plant-is h = let k = plant-passed ed vs es h in (k.variables, k.equations)

  pub plant-in : {p : Plant} → judge_plant ed vs es ≡ accepted p → plant_in ed vs es ≡ some p
  unfolding plant_in
  plant-in h = let k = plant-is h in bind-some _ k.0 ∙ bind-some _ k.1

  -- 12 of the two sections, where they are read as p
  plant-reads : {p : Plant} → judge_plant ed vs es ≡ accepted p → is_12_switches ed vs es ≡ not (switches_read ed p)
  unfolding is_12_switches switches_read
  plant-reads h = let k = plant-is h in given-some _ k.0 ∙ given-some _ k.1

first_any : {n : ℕ} {l : List Condition} → First n l → any_applies l ≡ true
unfolding any_applies
first_any (here e h) = rw (e, any_applies) refl
first_any (further e f) = rw (e, any_applies) (first_any f)

clear-any : {l : List Condition} → Clear l → any_applies l ≡ false
unfolding any_applies
clear-any none_left = refl
clear-any (one_clear e k) = rw (e, any_applies) (clear-any k)

-- one number for a whole list, then the rest
by_only : {A B : Type 0} (n : ℕ) {j : Judged A} {f : A → Judged B} {b : Bool} {k l : List Condition} → Firsts j k → (any_applies k ≡ true → b ≡ true) →
    ((a : A) → j ≡ accepted a → any_applies k ≡ false → Firsts (f a) ((n if b) ∷ l)) → Firsts (with_one_number n j >>= f) ((n if b) ∷ l)
unfolding with_one_number ◌>>=◌
by_only n (refuses g) h f = refuses (here (h (first_any g)) refl)
by_only n (accepts {a = a} c) h f = f a refl (clear-any c)

or-true : (a b : Bool) → a ≡ true → (a || b) ≡ true
or-true a b e = rw e refl

or-false : (a b : Bool) → a ≡ false → (a || b) ≡ b
or-false a b e = rw e refl

-- one number for what cannot be read and for what does not fit
pub by_read : {A B : Type 0} (n : ℕ) (o : Option A) (t : A → Bool) {b : Bool} {f : A → Judged B} {l : List Condition} → b ≡ not (given o t) →
    ((a : A) → o ≡ some a → t a ≡ true → Firsts (f a) l) → Firsts (need n o >>= λ a. ensure n (t a) >> f a) ((n if b) ∷ l)
unfolding need ◌>>=◌ given
by_read n none t e f = refuses (here e refl)
by_read n (some a) t e f = by-ensure n (t a) e (f a refl)

-- ---- 15 to 19
module _ (ed : Edition) (table : List ℕ) where
  pub table-first : Firsts (judge_table ed table) (table_conditions ed table)
  unfolding table_conditions is15 is16 is17 is18 is19 table_parts table_plant
  table-first = rw (table-in-order ed table) (
      by-ensure 15 (table_header ed table) refl (λ h15.
      by-need 16 (table_sections_in (drop 5 table)) refl (λ parts e.
      by_only 17 (plant-first ed parts.variables parts.equations) (λ a. given-some _ e ∙ or-true _ _ a) (λ p j c.
      by-ensure 17 (switches_read ed p) (given-some _ e ∙ or-false _ _ c ∙ plant-reads ed parts.variables parts.equations j) (λ h17.
      by_read 18 (actions_in ed parts.actions) (actions_fit ed p)
      (given-some _ e ∙ ap not (given-some _ (bind-some _ e ∙ plant-in ed parts.variables parts.equations j))) (λ acts f h18.
      by_read 19 (locations_in ed parts.locations) (locations_fit_in acts) (given-some _ e ∙ ap not (given-some _ f)) (λ locs g h19. by_end _)))))))

  -- the plant of an accepted table
  pub table-plant : {t : Table} → judge_table ed table ≡ accepted t → table_plant ed table ≡ some t.plant
  unfolding table_plant table_parts
  table-plant h = let p = table-passed ed table h in bind-some _ p.is_parts ∙ plant-in ed p.parts.variables p.parts.equations p.plant

-- a call that makes one more thing of what another accepted keeps its list
pub by_map : {A B : Type 0} {j : Judged A} (f : A → B) {k : List Condition} → Firsts j k → Firsts (j >>= λ a. accepted (f a)) k
unfolding ◌>>=◌
by_map f (refuses g) = refuses g
by_map f (accepts c) = accepts c

-- ---- 20 to 22, of the plant that a call speaks of
module _ (ed : Edition) (start events buffer : List ℕ) {plant : Option Plant} {p : Plant} (h : plant ≡ some p) where
  pub start_first : Firsts (judge_start p start) ((20 if is20 ed plant start events buffer) ∷ [])
  unfolding judge_start is20
  start_first = by_read 20 (start_in p start) (fits_start p) (given-some _ h) (λ st i h20. by_end st)

  pub admission-first : Firsts (judge_admission ed p start events buffer) (run_conditions ed plant start events buffer)
  unfolding judge_admission run_conditions is21 is22
  admission-first = by-then start_first (λ st i.
      by-ensure 21 (whole_events ed.event_bytes events) refl (λ h21.
      by-ensure 22 (room_for_records ed p events buffer) (given-some _ h) (λ h22. by_end st)))

module _ {S : Type 0} (ed : Edition) (start events buffer : List ℕ) where
  pub run-first : {j : Judged (Program S)} {plant : Option Plant} {k : List Condition} → Firsts j k → ((g : Program S) → j ≡ accepted g → plant ≡ some g.plant) →
      Firsts (judge_run ed j start events buffer) (k ++ run_conditions ed plant start events buffer)
  unfolding judge_run
  run-first f h = by-then f (λ g e. by_map _ (admission-first ed start events buffer (h g e)))

pub table-run-first : (ed : Edition) (table start events buffer : List ℕ) →
    Firsts (judge_run ed (table_program ed table) start events buffer) (table_run_conditions ed table start events buffer)
unfolding table_program table_run_conditions
table-run-first ed table start events buffer = run-first ed start events buffer (by_map _ (table-first ed table)) program
  where
    program : (g : Program ℕ) → table_program ed table ≡ accepted g → table_plant ed table ≡ some g.plant
    program g e =
        let a = Judging.passed_then (judge_table ed table) _ e in
        table-plant ed table a.1 ∙ ap (λ (g : Program ℕ). some g.plant) (accepted-is a.2)

-- ---- the numbers that the calls return
pub ran-refusal : (buffer : List ℕ) (j : Judged Outcome) → (report buffer j).refusal ≡ refusal_of j
unfolding report refusal_of
ran-refusal buffer (refused n) = refl
ran-refusal buffer (accepted o) = refl

pub table-refusal : (j : Judged Table) → (table_counts_of j).refusal ≡ refusal_of j
unfolding table_counts_of refusal_of
table-refusal (refused n) = refl
table-refusal (accepted t) = refl

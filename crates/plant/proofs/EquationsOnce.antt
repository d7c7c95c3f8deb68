-- Condition 8 of one equation and of all: what is known before each turn, and why a turn keeps it.
use mathlib.Core.Path.{◌≡◌, refl, sym, ap, subst, ◌∙◌}
use mathlib.Core.Bool.{Bool, true, false, ◌&&◌, ◌||◌, or-false, or_assoc, or_comm}
use mathlib.Core.List.{List, [], ◌∷◌, ◌++◌, flat_map}
use mathlib.Core.Option.{some}
use Prim.Native.Nat.{ℕ, ◌+◌, ◌-◌, ◌≤◌, ◌<◌}
use native.Mathlib.Omega.{arith}
use borrow.Author.Tests.{eqb-true, ltb-true}
use lib.Dec.{eqb, ltb}
use lib.ListN.{length, get_or, take, drop, replicate}
use Rattle.semantics.specs.Bytes.{every, read, times}
use Rattle.semantics.specs.Refusals.{refused, accepted, ensure, ◌>>◌}
use Rattle.semantics.specs.Sections.{Rate, Mode, Equation, steady, choice, read_rate, read_mode, read_equation, equation_in_bytes, equations_in}
use Rattle.semantics.specs.Plant.{rate_named, switch_named, mode_named, equation_named, among, once_after, mode_drives, drives, modes_once, equation_once, driven_once, is_driven_in, rates_drive, mode_once}
use Rattle.semantics.proofs.Facts.{true-not-false, some_is, and_left, and_right, by_cases, All, all_nil, all_cons, every-all}
use Rattle.semantics.proofs.Judging.{go-ensure}
use Rattle.semantics.proofs.PlantPassed.{equations-passed}
use Rattle.paper.specs.Refusals.{answered}
use Rattle.paper.proofs.Answered.{accepts-with}
use Rattle.codec.proofs.Reading.{nat2_at}
use Rattle.codec.proofs.Known.{Cons}
use Rattle.plant.specs.Driven.{Named, Small, Held, Few, Marks, Tried, rates_once, modes_apart, driven_marks, judge_driven}
use Rattle.plant.specs.Equations.{each}
use Rattle.plant.proofs.ByVariable.{each-is}
use Rattle.plant.proofs.Marks.{among-append, among_there, small-left, small-right}
use Rattle.plant.proofs.Walks.{next_of, all_left, none_left, Shape, is_steady, is_choice, shape_of, not-both, equation-inside, EquationAt, equation-at, lent_is, lent-inside, lent-end, section-at}
use Rattle.plant.proofs.DrivenOnce.{marked-none}

-- ---- one equation
module _ (s : List ℕ) (f : Few (equation_in_bytes s) drives) where
  pub steady-there : get_or s 0 0 ≡ 1 → Held (times 1 read_rate) rates_drive s 1
  unfolding drives rates_drive
  steady-there k = go (shape_of s f.there.is).1
    where
      go : Shape s f.there.value → Held (times 1 read_rate) rates_drive s 1
      go (is_steady r e q t) = record { sound = record { value = r ∷ []; end = []; got = t; inside = equation-inside s f.there }; small = subst (λ x. Small (drives x)) q f.small }
      go (is_choice c e q i t) = not-both (get_or s 0 0) k e

  pub choice-there : (get_or s 0 0 ≡ 1 → ⊥) → Held (times (get_or s 2 0) read_mode) (flat_map mode_drives) s (1 + 1 + 1)
  unfolding drives flat_map
  choice-there k = go (shape_of s f.there.is).1
    where
      go : Shape s f.there.value → Held (times (get_or s 2 0) read_mode) (flat_map mode_drives) s (1 + 1 + 1)
      go (is_steady r e q t) = absurd (k e)
      go (is_choice c e q i t) = record { sound = record { value = c.modes; end = []; got = t; inside = i }; small = subst (λ x. Small (drives x)) q f.small }

module _ (s : List ℕ) (a : List Bool) {r : Bool} {b : List Bool} where
  pub steady-tried : get_or s 0 0 ≡ 1 → ((rs : List Rate) (e : List ℕ) → times 1 read_rate (drop 1 s) ≡ read rs e → (old new : List ℕ) → Marks old a → Marks new a → Tried (rates_once old rs) (rates_drive rs ++ new) r b) → (q : Equation) → equation_in_bytes s ≡ some q → (old : List ℕ) → Marks old a → Tried (equation_once old q) (drives q ++ old) r b
  unfolding drives rates_drive modes_once once_after among mode_once
  steady-tried k t q h old m = go (shape_of s h).1
    where
      go : Shape s q → Tried (equation_once old q) (drives q ++ old) r b
      go (is_steady x e j g) = subst (λ y. Tried (equation_once old y) (drives y ++ old) r b) (sym j) (t (x ∷ []) [] g old old m m)
      go (is_choice c e j i g) = not-both (get_or s 0 0) k e

  pub choice-tried : (get_or s 0 0 ≡ 1 → ⊥) → ((ms : List Mode) (e : List ℕ) → times (get_or s 2 0) read_mode (drop (1 + 1 + 1) s) ≡ read ms e → (old new : List ℕ) → Marks old a → Marks new a → Tried (modes_apart old ms) (flat_map mode_drives ms ++ new) r b) → (q : Equation) → equation_in_bytes s ≡ some q → (old : List ℕ) → Marks old a → Tried (equation_once old q) (drives q ++ old) r b
  unfolding drives flat_map modes_once mode_once
  choice-tried k t q h old m = go (shape_of s h).1
    where
      go : Shape s q → Tried (equation_once old q) (drives q ++ old) r b
      go (is_steady x e j g) = absurd (k e)
      go (is_choice c e j i g) = subst (λ y. Tried (equation_once old y) (drives y ++ old) r b) (sym j) (t c.modes [] g old old m m)

-- ---- 7 keeps the variables small
small-nil : Small []
unfolding among
small-nil = record { below = λ v h. true-not-false (sym h) }

small-cons : (v : ℕ) (l : List ℕ) → v < 32 → Small l → Small (v ∷ l)
small-cons v l h s = record { below = λ u k. by_cases (eqb v u) (λ e. rw (eqb-true v u e) at h) (λ e. s.below u (sym (among_there u v l e) ∙ k)) }

small-append : (l k : List ℕ) → Small l → Small k → Small (l ++ k)
small-append l k s t = record { below = λ v h. by_cases (among v l) (λ e. s.below v e) (λ e. t.below v (rw e at (sym (among-append v l k) ∙ h))) }

small-flat : {A : Type 0} {P : A → Type 0} (f : A → List ℕ) → ((x : A) → P x → Small (f x)) → {l : List A} → All P l → Small (flat_map f l)
unfolding flat_map
small-flat f h all_nil = small-nil
small-flat f h (all_cons {x = x} {l = l} p a) = small-append (f x) (flat_map f l) (h x p) (small-flat f h a)

module _ (n : ℕ) (few : n ≤ 32) where
  small-rates : (rs : List Rate) → every (rate_named n) rs ≡ true → Small (rates_drive rs)
  unfolding rates_drive rate_named
  small-rates rs h = go (every-all (rate_named n) rs h)
    where
      go : {l : List Rate} → All (λ x. rate_named n x ≡ true) l → Small (rates_drive l)
      go all_nil = small-nil
      go (all_cons {x = x} {l = l} p a) = let b = ltb-true x.driven n p in small-cons x.driven (rates_drive l) (omega arith) (go a)

  small-mode : (k : ℕ) (m : Mode) → mode_named n k m ≡ true → Small (mode_drives m)
  unfolding mode_named mode_drives rates_drive
  small-mode k m h = small-rates m.rates (and_left (every (rate_named n) m.rates) (every (switch_named k) m.switches) h)

  small-equation : (q : Equation) → equation_named n q ≡ true → Small (drives q)
  unfolding equation_named drives rate_named
  small-equation (steady r) h = let b = ltb-true r.driven n h in small-cons r.driven [] (omega arith) small-nil
  small-equation (choice c) h = small-flat mode_drives (small-mode (length c.modes)) (every-all (mode_named n (length c.modes)) c.modes (and_right (ltb c.initial (length c.modes)) (every (mode_named n (length c.modes)) c.modes) h))

  pub small-equations : (es : List Equation) → every (equation_named n) es ≡ true → Small (flat_map drives es)
  small-equations es h = small-flat drives small-equation (every-all (equation_named n) es h)

-- ---- all equations
once-split : (noted : List ℕ) (q : Equation) (es : List Equation) → driven_once noted (q ∷ es) ≡ (equation_once noted q && driven_once (drives q ++ noted) es)
unfolding driven_once
once-split noted q es = refl

-- the answer, by whether 8 lets the section pass
answer-once : (es : List Equation) {seen : List Bool} → driven_once [] es ≡ true → seen ≡ driven_marks es → accepted seen ≡ answered driven_marks (judge_driven es)
unfolding judge_driven
answer-once es e m = accepts-with driven_marks (go-ensure 8 _ e) m

answer-not : (es : List Equation) → driven_once [] es ≡ false → refused 8 ≡ answered driven_marks (judge_driven es)
unfolding judge_driven ensure ◌>>◌
answer-not es e = rw e refl

pub record OnceGoing (s : List ℕ) (seen : List Bool) (p i : ℕ) : Type 0 where
  pub all : List Equation
  pub is : equations_in s ≡ some all
  pub rest : List Equation
  pub got : times (get_or s 0 0 - i) read_equation (drop p s) ≡ read rest []
  pub inside : p ≤ length s
  pub small : Small (flat_map drives rest)
  pub noted : List ℕ
  pub stands : Marks noted seen
  pub sized : length seen ≡ 32
  pub same : driven_once [] all ≡ driven_once noted rest
  pub named : (v : ℕ) → is_driven_in all v ≡ (among v noted || among v (flat_map drives rest))

pub section-inside : (s : List ℕ) → Named s → 1 ≤ length s
section-inside s n = (section-at s (equations-passed n.variables s n.judged).is).inside

pub once-start : (s : List ℕ) → Named s → OnceGoing s (replicate 32 false) 1 0
unfolding is_driven_in among
once-start s n =
    let j = equations-passed n.variables s n.judged in
    let k = section-at s j.is in
    record {
      all = n.equations;
      is = j.is;
      rest = n.equations;
      got = all_left read_equation (get_or s 0 0) (drop 1 s) k.got;
      inside = k.inside;
      small = small-equations n.variables n.few n.equations j.named;
      noted = [];
      stands = record { at = marked-none.at };
      sized = marked-none.sized;
      same = refl;
      named = λ v. refl;
    }

module _ {s : List ℕ} {seen : List Bool} {p i : ℕ} (g : OnceGoing s seen p i) where
  pub once-end : i ≡ get_or s 0 0 → (es : List Equation) → equations_in s ≡ some es → accepted seen ≡ answered driven_marks (judge_driven es)
  unfolding driven_once among flat_map
  once-end k es h =
      let z = (none_left read_equation (get_or s 0 0) i (drop p s) k g.got).0 in
      let all : es ≡ g.all = some_is (sym h ∙ g.is) in
      let once = ap (driven_once []) all ∙ g.same ∙ ap (driven_once g.noted) z in
      let named : (v : ℕ) → among v g.noted ≡ is_driven_in es v =
      λ v. sym (ap (λ es. is_driven_in es v) all ∙ g.named v ∙ ap (λ es. among v g.noted || among v (flat_map drives es)) z ∙ or-false (among v g.noted)) in
      let marks = each-is (is_driven_in es) false seen (λ v i. g.stands.at v (omega (arith, g.sized)) ∙ named v) ∙ ap (each (is_driven_in es) 0) g.sized in
      answer-once es once marks

  module _ (h : i < get_or s 0 0) where
    next : Cons read_equation (get_or s 0 0 - (i + 1)) (drop p s) g.rest []
    next = next_of read_equation (get_or s 0 0) i (drop p s) h g.got

    equation : EquationAt s p next.head next.mid
    equation = equation-at s p g.inside next.first

    next-all : Small (drives next.head ++ flat_map drives next.tail)
    unfolding flat_map
    next-all = subst (λ l. Small (flat_map drives l)) (sym next.is) g.small

    next_small : Small (drives next.head)
    next_small = small-left (drives next.head) (flat_map drives next.tail) next-all

    pub next-inside : p + 2 + nat2_at s p ≤ length s
    next-inside = equation.inside

    -- m is its length
    module _ {m : ℕ} (x : m ≡ nat2_at s p) where
      pub slice_inside : p + 2 + m ≤ length s
      slice_inside = lent-inside equation x

      pub next-few : Few (equation_in_bytes (take (p + 2 + m - (p + 2)) (drop (p + 2) s))) drives
      next-few = record { there = record { value = next.head; is = lent_is equation x }; small = next_small }

      module _ {r : Bool} {c : List Bool} (t : (q : Equation) → equation_in_bytes (take (p + 2 + m - (p + 2)) (drop (p + 2) s)) ≡ some q → (old : List ℕ) → Marks old seen → Tried (equation_once old q) (drives q ++ old) r c) where
        tried : Tried (equation_once g.noted next.head) (drives next.head ++ g.noted) r c
        tried = t next.head (lent_is equation x) g.noted g.stands

        next-test : driven_once [] g.all ≡ (r && driven_once (drives next.head ++ g.noted) next.tail)
        next-test = g.same ∙ ap (driven_once g.noted) (sym next.is) ∙ once-split g.noted next.head next.tail ∙ ap (λ y. y && driven_once (drives next.head ++ g.noted) next.tail) (sym tried.is)

        pub once-false : r ≡ false → (es : List Equation) → equations_in s ≡ some es → refused 8 ≡ answered driven_marks (judge_driven es)
        once-false f es k = answer-not es (ap (driven_once []) (some_is (sym k ∙ g.is)) ∙ next-test ∙ ap (λ y. y && driven_once (drives next.head ++ g.noted) next.tail) f)

        next-named : (v : ℕ) → is_driven_in g.all v ≡ (among v (drives next.head ++ g.noted) || among v (flat_map drives next.tail))
        unfolding flat_map
        next-named v =
            let h = among v (drives next.head) in
            let n = among v g.noted in
            let t = among v (flat_map drives next.tail) in
            g.named v ∙ ap (λ es. n || among v (flat_map drives es)) (sym next.is) ∙ ap (λ b. n || b) (among-append v (drives next.head) (flat_map drives next.tail))
            ∙ sym (or_assoc n h t) ∙ ap (λ b. b || t) (or_comm n h ∙ sym (among-append v (drives next.head) g.noted))

        pub once-next : r ≡ true → OnceGoing s c (p + 2 + m) (i + 1)
        once-next f = record {
          all = g.all;
          is = g.is;
          rest = next.tail;
          got = ap (times (get_or s 0 0 - (i + 1)) read_equation) (sym (lent-end equation x)) ∙ next.rest;
          inside = slice_inside;
          small = small-right (drives next.head) (flat_map drives next.tail) next-all;
          noted = drives next.head ++ g.noted;
          stands = tried.marks f;
          sized = tried.sized f;
          same = next-test ∙ ap (λ y. y && driven_once (drives next.head ++ g.noted) next.tail) f;
          named = next-named;
        }

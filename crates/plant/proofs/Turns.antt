-- A loop that takes what a reader reads n times, one a turn, and asks a test of each, by any edition.
use mathlib.Core.Path.{◌≡◌, refl, sym, ap, ◌∙◌}
use mathlib.Core.Bool.{Bool, true, false}
use mathlib.Core.List.{List, ◌∷◌}
use Prim.Native.Nat.{ℕ, ◌+◌, ◌-◌, ◌≤◌, ◌<◌}
use lib.ListN.{length, drop}
use Rattle.semantics.specs.Bytes.{every, Reader, read, times}
use Rattle.semantics.specs.Editions.{Edition}
use Rattle.semantics.proofs.Readers.{read-value}
use Rattle.codec.proofs.Known.{Cons}
use Rattle.plant.specs.Sound.{Sound}
use Rattle.plant.proofs.Walks.{next_of, all_left, none_left}

pub every-next : {A : Type 0} (f : A → Bool) (x : A) (l : List A) → f x ≡ true → every f (x ∷ l) ≡ every f l
unfolding every
every-next f x l h = rw (every, h) refl

pub every-not : {A : Type 0} (f : A → Bool) (x : A) (l : List A) → f x ≡ false → every f (x ∷ l) ≡ false
unfolding every
every-not f x l h = rw (every, h) refl

-- before turn i, at place p: those before it have passed
pub record Turns {A : Type 0} (r : Reader A) (f : Edition → A → Bool) (s : List ℕ) (from n p i : ℕ) : Type 0 where
  pub all : List A
  pub end : List ℕ
  pub is : times n r (drop from s) ≡ read all end
  pub rest : List A
  pub got : times (n - i) r (drop p s) ≡ read rest end
  pub inside : p ≤ length s
  pub same : (ed : Edition) → every (f ed) all ≡ every (f ed) rest

module _ {A : Type 0} {r : Reader A} (f : Edition → A → Bool) {s : List ℕ} {from : ℕ} (n : ℕ) where
  pub turns-start : Sound (times n r) s from → Turns r f s from n from 0
  turns-start t = record { all = t.value; end = t.end; is = t.got; rest = t.value; got = all_left r n (drop from s) t.got; inside = t.inside; same = λ ed. refl }

module _ {A : Type 0} {r : Reader A} {f : Edition → A → Bool} {s : List ℕ} {from n p i : ℕ} (t : Turns r f s from n p i) where
  pub turns-true : i ≡ n → (ed : Edition) (l : List A) (e : List ℕ) → times n r (drop from s) ≡ read l e → true ≡ every (f ed) l
  unfolding every
  turns-true h ed l e k = sym (ap (every (f ed)) (read-value (sym k ∙ t.is)) ∙ t.same ed ∙ ap (every (f ed)) (none_left r n i (drop p s) h t.got).0)

  module _ (h : i < n) where
    -- what this turn takes
    pub turn : Cons r (n - (i + 1)) (drop p s) t.rest t.end
    turn = next_of r n i (drop p s) h t.got

    pub turns-false : (ed : Edition) → f ed turn.head ≡ false → (l : List A) (e : List ℕ) → times n r (drop from s) ≡ read l e → false ≡ every (f ed) l
    turns-false ed x l e k = sym (ap (every (f ed)) (read-value (sym k ∙ t.is)) ∙ t.same ed ∙ ap (every (f ed)) (sym turn.is) ∙ every-not (f ed) turn.head turn.tail x)

    pub turns_next : ((ed : Edition) → f ed turn.head ≡ true) → (q : ℕ) → turn.mid ≡ drop q s → q ≤ length s → Turns r f s from n q (i + 1)
    turns_next x q e k = record {
      all = t.all;
      end = t.end;
      is = t.is;
      rest = turn.tail;
      got = ap (times (n - (i + 1)) r) (sym e) ∙ turn.rest;
      inside = k;
      same = λ ed. t.same ed ∙ ap (every (f ed)) (sym turn.is) ∙ every-next (f ed) turn.head turn.tail (x ed);
    }

-- The entries of a location one after the other.
use mathlib.Core.Path.{◌≡◌, refl, sym, ap, ◌∙◌}
use mathlib.Core.Bool.{Bool, true, false, ◌||◌, cond}
use mathlib.Core.List.{List, [], ◌∷◌, ◌++◌}
use mathlib.Core.Option.{some}
use Prim.Native.Nat.{ℕ, zero, suc, ◌+◌, ◌≤◌, ◌<◌}
use native.Mathlib.Numerals.{add-one}
use native.Mathlib.Omega.{arith}
use borrow.Author.Tests.{eq-eqb, ne_eqb, eqb-true}
use lib.Dec.{eqb}
use lib.ListN.{length, get_or, get_elem?, take, drop}
use Rattle.semantics.specs.Editions.{Edition}
use Rattle.semantics.specs.Plant.{among}
use Rattle.semantics.specs.Run.{Action, possible}
use Rattle.semantics.specs.TableFile.{NodeAction, Entry, NONE}
use Rattle.semantics.specs.Tables.{Table, action_at, action_or_stop, entry_nodes, entry_target, entries_at}
use Rattle.semantics.proofs.Facts.{All, all_nil, all_cons, none-not-some, some_is, true-not-false}
use Rattle.codec.specs.Numbers.{wide, num_at}
use Rattle.codec.proofs.Reading.{nat2_at}
use Rattle.nodeset.specs.Sets.{mem, empty_set, inserted, Words}
use Rattle.nodeset.proofs.Members.{members-are}
use Rattle.nodeset.proofs.Membership.{mem-empty, mem-inserted, words-empty, words-inserted}
use Rattle.program.specs.Lent.{Lent}
use Rattle.table_read.specs.Promised.{LocationPromised, Leads}
use Rattle.table_read.specs.Lent.{TableLent}
use Rattle.table_read.proofs.EntryLoop.{entry_at}
use Rattle.table_read.proofs.LocationsFound.{EntriesAt, EntryHere, entry_here, LocationStands, location-stands}
use Rattle.table_read.proofs.Promises.{EntryPromised, entries-promised, nodes-rise, leads}
use Rattle.table_step.specs.Entries.{Listed, Located, Gathered, Found}

-- ---- lists
data Split {A : Type 0} (l : List A) (j : ℕ) (x : A) : Type 0 where
  split_at : take (suc j) l ≡ take j l ++ (x ∷ []) → drop j l ≡ x ∷ drop (suc j) l → Split l j x

split-here : {A : Type 0} (l : List A) (j : ℕ) {x : A} → get_elem? l j ≡ some x → Split l j x
split-here [] j h = none-not-some h
split-here (y ∷ l) zero {x} h = split_at (ap (λ z. z ∷ []) (some_is h)) (ap (λ z. z ∷ l) (some_is h))
split-here (y ∷ l) (suc j) h = go (split-here l j h)
  where
    go : {x : _} → Split l j x → Split (y ∷ l) (suc j) x
    go (split_at a b) = split_at (ap (λ z. y ∷ z) a) b

take_whole : {A : Type 0} (l : List A) (j : ℕ) → length l ≤ j → take j l ≡ l
take_whole [] zero h = refl
take_whole [] (suc j) h = refl
take_whole (x ∷ l) zero h = absurd (omega arith)
take_whole (x ∷ l) (suc j) h = ap (λ z. x ∷ z) (take_whole l j (omega arith))

drop-whole : {A : Type 0} (l : List A) (j : ℕ) → length l ≤ j → drop j l ≡ []
drop-whole [] zero h = refl
drop-whole [] (suc j) h = refl
drop-whole (x ∷ l) zero h = absurd (omega arith)
drop-whole (x ∷ l) (suc j) h = drop-whole l j (omega arith)

among-last : (k : ℕ) (l : List Entry) (e : Entry) → among k (entry_nodes (l ++ (e ∷ []))) ≡ (eqb e.node k || among k (entry_nodes l))
unfolding among entry_nodes
among-last k [] e = go (eqb e.node k)
  where
    go : (b : Bool) → elim b [ true ↦ true | false ↦ false ] ≡ (b || false)
    go true = refl
    go false = refl
among-last k (x ∷ l) e = go (eqb x.node k) (eqb e.node k) (among k (entry_nodes l)) (among-last k l e)
  where
    go : (a b c : Bool) {d : Bool} → d ≡ (b || c) → elim a [ true ↦ true | false ↦ d ] ≡ (b || elim a [ true ↦ true | false ↦ c ])
    go true true c h = refl
    go true false c h = refl
    go false b c h = h

-- an entry that stands there is of an acting node
among-here : (es : List Entry) (j : ℕ) {e : Entry} → get_elem? es j ≡ some e → among e.node (entry_nodes es) ≡ true
unfolding among entry_nodes
among-here [] j h = none-not-some h
among-here (x ∷ es) zero {e} h = go (eqb x.node e.node) (among e.node (entry_nodes es)) (eq-eqb x.node e.node (ap (λ (z : Entry). z.node) (some_is h)))
  where
    go : (b d : Bool) → b ≡ true → elim b [ true ↦ true | false ↦ d ] ≡ true
    go true d i = refl
    go false d i = true-not-false (sym i)
among-here (x ∷ es) (suc j) {e} h = go (eqb x.node e.node) (among-here es j h)
  where
    go : (b : Bool) {d : Bool} → d ≡ true → elim b [ true ↦ true | false ↦ d ] ≡ true
    go true i = refl
    go false i = i

-- ---- where the entries stand
stands : (ed : Edition) {s : List ℕ} {p : ℕ} {es : List Entry} → Listed ed s p es → LocationStands ed s p es
stands ed {s} {p} l = location-stands ed s p l.reads

pub count-before-end : (ed : Edition) {s : List ℕ} {p : ℕ} → Located ed s p → p < length s
count-before-end ed l = (stands ed l.listed).before_end

-- a walk over them has come to entry j, at place q
pub record At (ed : Edition) (s : List ℕ) (p j q : ℕ) : Type 0 where
  pub entries : (es : List Entry) → Listed ed s p es → EntriesAt ed s q (drop j es)

at_start : (ed : Edition) (s : List ℕ) (p : ℕ) → At ed s p 0 (p + 1)
at_start ed s p = record { entries = λ es l. from es (stands ed l).entries }
  where
    from : (es : List Entry) → EntriesAt ed s (p + 1) es → EntriesAt ed s (p + 1) (drop 0 es)
    from [] x = x
    from (e ∷ es) x = x

module _ (ed : Edition) {s : List ℕ} {p j q : ℕ} (at : At ed s p j q) (h : j < get_or s p 0) where
  here : (es : List Entry) → Listed ed s p es → EntryHere ed s es j q
  here es l = entry_here ed s es j q (at.entries es l) (omega (arith, (stands ed l).counted))

  at_next : At ed s p (j + 1) (q + (wide ed + 4))
  at_next = record { entries = λ es l. (here es l).others }

  -- its bytes, and its node
  module _ (l : Located ed s p) where
    pub entry-inside : q + (wide ed + 4) ≤ length s
    entry-inside = (here l.entries l.listed).inside

    pub entry-small : num_at ed s q < 256
    entry-small = l.listed.small (num_at ed s q) (among-here l.entries j (here l.entries l.listed).is)

-- ---- the acting nodes: those of the first j entries
pub record Gathering (ed : Edition) (s : List ℕ) (p : ℕ) (j q : ℕ) (ws : List ℕ) : Type 0 where
  pub words : Words ws
  pub at : At ed s p j q
  pub are : (es : List Entry) → Listed ed s p es → (k : ℕ) → mem ws k ≡ among k (entry_nodes (take j es))

pub gather-start : (ed : Edition) (s : List ℕ) (p : ℕ) {ws : List ℕ} → ws ≡ empty_set → Gathering ed s p 0 (p + 1) ws
unfolding among entry_nodes
gather-start ed s p e = rw e (record { words = words-empty; at = at_start ed s p; are = λ es l k. mem-empty k ∙ none es k })
  where
    none : (es : List Entry) (k : ℕ) → false ≡ among k (entry_nodes (take 0 es))
    none [] k = refl
    none (x ∷ es) k = refl

pub gather-next : (ed : Edition) (s : List ℕ) (p : ℕ) {j q n r : ℕ} {ws ws' : List ℕ} → Gathering ed s p j q ws → j < get_or s p 0 → n ≡ num_at ed s q → n < 256 → ws' ≡ inserted ws n → r ≡ q + (wide ed + 4) → Gathering ed s p (j + 1) r ws'
gather-next ed s p {j} {q} {n} {ws = ws} {ws' = ws'} g h e b i z =
    rw z (record { words = rw i (words-inserted g.words b); at = at_next ed g.at h; are = more })
  where
    more : (es : List Entry) → Listed ed s p es → (k : ℕ) → mem ws' k ≡ among k (entry_nodes (take (j + 1) es))
    more es l k = go (split-here es j (here ed g.at h es l).is)
      where
        go : Split es j (entry_at ed s q) → mem ws' k ≡ among k (entry_nodes (take (j + 1) es))
        go (split_at a d) =
            ap (λ z. mem z k) i ∙ mem-inserted g.words b k ∙ ap (λ z. eqb n k || z) (g.are es l k) ∙ ap (λ z. eqb z k || among k (entry_nodes (take j es))) e
            ∙ sym (among-last k (take j es) (entry_at ed s q)) ∙ ap (λ z. among k (entry_nodes z)) (sym a) ∙ ap (λ z. among k (entry_nodes (take z es))) (sym (add-one j))

pub gather-end : (ed : Edition) (s : List ℕ) (p : ℕ) {j q : ℕ} {ws : List ℕ} → Gathering ed s p j q ws → get_or s p 0 ≤ j → Gathered ed s p ws
gather-end ed s p {j} {q} {ws} g h = record {
  words = g.words;
  are = λ es l. members-are g.words l.rising (λ k. g.are es l k ∙ ap (λ z. among k (entry_nodes z)) (take_whole es j (omega (arith, (stands ed l).counted))));
}

-- ---- a node's entry: none among the first j
pub record Looking (ed : Edition) (s : List ℕ) (p : ℕ) (n : ℕ) (b : Bool) (j q : ℕ) : Type 0 where
  pub at : At ed s p j q
  pub later : (es : List Entry) → Listed ed s p es → entry_target es n b ≡ entry_target (drop j es) n b

pub look-start : (ed : Edition) (s : List ℕ) (p n : ℕ) (b : Bool) → Looking ed s p n b 0 (p + 1)
look-start ed s p n b = record { at = at_start ed s p; later = λ es l. all es }
  where
    all : (es : List Entry) → entry_target es n b ≡ entry_target (drop 0 es) n b
    all [] = refl
    all (x ∷ es) = refl

module _ (ed : Edition) (s : List ℕ) (p n : ℕ) (b : Bool) {j q m : ℕ} (g : Looking ed s p n b j q) (h : j < get_or s p 0) (e : m ≡ num_at ed s q) where
  split-entry : (es : List Entry) → Listed ed s p es → Split es j (entry_at ed s q)
  split-entry es l = split-here es j (here ed g.at h es l).is

  pub look-next : (m ≡ n → ⊥) → {r : ℕ} → r ≡ q + (wide ed + 4) → Looking ed s p n b (j + 1) r
  unfolding entry_target
  look-next d z = rw z (record { at = at_next ed g.at h; later = λ es l. go es l (split-entry es l) })
    where
      go : (es : List Entry) → Listed ed s p es → Split es j (entry_at ed s q) → entry_target es n b ≡ entry_target (drop (j + 1) es) n b
      go es l (split_at a f) = g.later es l ∙ ap (λ z. entry_target z n b) f ∙ rw (entry_target, ne_eqb (num_at ed s q) n (λ i. d (e ∙ i))) (ap (λ z. entry_target (drop z es) n b) (sym (add-one j)))

  look-found : m ≡ n → (es : List Entry) → Listed ed s p es → entry_target es n b ≡ cond b (entry_at ed s q).target (entry_at ed s q).other
  unfolding entry_target
  look-found d es l = go (split-entry es l)
    where
      go : Split es j (entry_at ed s q) → entry_target es n b ≡ cond b (entry_at ed s q).target (entry_at ed s q).other
      go (split_at a f) = g.later es l ∙ ap (λ z. entry_target z n b) f ∙ rw (entry_target, eq-eqb (num_at ed s q) n (sym e ∙ d)) refl

  pub look-true : m ≡ n → b ≡ true → {w t : ℕ} → w ≡ wide ed → t ≡ nat2_at s (q + w) → Found ed s p n b t
  look-true d i y k = record { is = λ es l. k ∙ ap (λ w. nat2_at s (q + w)) y ∙ sym (look-found d es l ∙ ap (λ b. cond b (entry_at ed s q).target (entry_at ed s q).other) i) }

  pub look-false : m ≡ n → b ≡ false → {w t : ℕ} → w ≡ wide ed → t ≡ nat2_at s (q + w + 2) → Found ed s p n b t
  look-false d i y k = record { is = λ es l. k ∙ ap (λ w. nat2_at s (q + w + 2)) y ∙ sym (look-found d es l ∙ ap (λ b. cond b (entry_at ed s q).target (entry_at ed s q).other) i) }

pub look-end : (ed : Edition) (s : List ℕ) (p n : ℕ) (b : Bool) {j q : ℕ} → Looking ed s p n b j q → get_or s p 0 ≤ j → Found ed s p n b 65535
unfolding entry_target NONE
look-end ed s p n b {j} g h = record { is = λ es l. sym (g.later es l ∙ ap (λ z. entry_target z n b) (drop-whole es j (omega (arith, (stands ed l).counted)))) }

-- ---- what an accepted table promises of its entries
or-stop : (acts : List NodeAction) (n : ℕ) {a : Action} → action_at acts n ≡ some a → action_or_stop acts n ≡ a
unfolding action_or_stop
or-stop acts n h = rw (h, action_or_stop) refl

-- a node that acts has an action
all-acting : {n : ℕ} {acts : List NodeAction} {es : List Entry} → All (EntryPromised n acts) es → (k : ℕ) → among k (entry_nodes es) ≡ true → action_at acts k ≡ some (action_or_stop acts k)
unfolding among entry_nodes
all-acting all_nil k h = true-not-false (sym h)
all-acting {n} {acts} (all_cons {x = e} {l = es} p a) k h = go (eqb e.node k) refl h (all-acting a k)
  where
    go : (t : Bool) → eqb e.node k ≡ t → elim t [ true ↦ true | false ↦ among k (entry_nodes es) ] ≡ true → (among k (entry_nodes es) ≡ true → action_at acts k ≡ some (action_or_stop acts k)) → action_at acts k ≡ some (action_or_stop acts k)
    go true i m f =
        let q : action_at acts k ≡ some p.action = ap (action_at acts) (sym (eqb-true e.node k i)) ∙ p.is in
        q ∙ ap some (sym (or-stop acts k q))
    go false i m f = f m

-- and its move leads to a location or to an end
all-leading : {n : ℕ} {acts : List NodeAction} {es : List Entry} → All (EntryPromised n acts) es → (k : ℕ) (b : Bool) → among k (entry_nodes es) ≡ true → possible (action_or_stop acts k) b ≡ true → Leads n (entry_target es k b)
unfolding among entry_nodes entry_target
all-leading all_nil k b h i = true-not-false (sym h)
all-leading {n} {acts} (all_cons {x = e} {l = es} p a) k b h i = go (eqb e.node k) refl h (λ q. all-leading a k b q i)
  where
    go : (t : Bool) → eqb e.node k ≡ t → elim t [ true ↦ true | false ↦ among k (entry_nodes es) ] ≡ true → (among k (entry_nodes es) ≡ true → Leads n (entry_target es k b)) → Leads n (elim t [ true ↦ cond b e.target e.other | false ↦ entry_target es k b ])
    go true m q f =
        let same : action_or_stop acts k ≡ p.action = ap (action_or_stop acts) (sym (eqb-true e.node k m)) ∙ or-stop acts e.node p.is in
        leads n p.action e.target e.other b p.fits (ap (λ x. possible x b) (sym same) ∙ i)
    go false m q f = f q

module _ (ed : Edition) {s : List ℕ} {p n : ℕ} {acts : List NodeAction} {es : List Entry} (l : LocationPromised ed s p n acts es) where
  pub acting-action : (k : ℕ) → among k (entry_nodes es) ≡ true → action_at acts k ≡ some (action_or_stop acts k)
  acting-action = all-acting (entries-promised n acts es l.fits)

  pub acting-leads : (k : ℕ) (b : Bool) → among k (entry_nodes es) ≡ true → possible (action_or_stop acts k) b ≡ true → Leads n (entry_target es k b)
  acting-leads = all-leading (entries-promised n acts es l.fits)

-- ---- location x of a table that is lent
module _ (ed : Edition) {l : Lent} {t : Table} (d : TableLent ed t l) {x : ℕ} (h : x < length t.locations) where
  pub listed_here : Listed ed l.bytes (get_or l.locations x 0) (entries_at t x)
  listed_here =
      let p = (d.locations.at x h).promised in
      record {
        rest = p.rest;
        reads = p.reads;
        rising = nodes-rise _ t.actions (entries_at t x) p.fits;
        small = λ n m. omega (arith, (d.nodes n (action_or_stop t.actions n) (acting-action ed p n m)).below, ed.entries_fit);
      }

  pub located_here : Located ed l.bytes (get_or l.locations x 0)
  located_here = record { entries = entries_at t x; listed = listed_here }

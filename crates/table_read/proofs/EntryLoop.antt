-- An entry at a place, and the loop over the entries of a location.
use mathlib.Core.Path.{◌≡◌, refl, sym, ap, subst, ◌∙◌}
use mathlib.Core.Bool.{Bool, true, false, and-false}
use mathlib.Core.List.{List, [], ◌∷◌, ◌++◌}
use mathlib.Core.Option.{none}
use Prim.Native.Nat.{ℕ, ◌+◌, ◌≤◌, ◌<◌}
use native.Mathlib.Numerals.{add-one}
use native.Mathlib.Omega.{arith}
use borrow.Author.Tests.{le-leb, lt-leb}
use lib.Dec.{leb}
use lib.ListN.{length, get_or, drop, get_or-eq_default}
use Rattle.std.specs.Prelude.{Option, Some, None}
use Rattle.semantics.specs.Bytes.{broken, read, give, times}
use Rattle.semantics.specs.Editions.{Edition}
use Rattle.semantics.specs.TableFile.{NodeAction, Entry, read_entry, read_location}
use Rattle.semantics.specs.Tables.{rising_from, entry_fits, entry_nodes, location_fits}
use Rattle.semantics.proofs.Facts.{true-not-false, by_cases, and_both}
use Rattle.semantics.proofs.Readers.{broken-not-read, read-value, guarded}
use Rattle.codec.specs.Numbers.{wide, num_at}
use Rattle.codec.specs.Reading.{Took, reads_at}
use Rattle.codec.proofs.Reading.{taken, lost, gives, then-byte, then-guard, then-number, no_number, then-nat2, no-nat2, nat2_at, either}
use Rattle.codec.proofs.Known.{after-byte, not-past, snoc}
use Rattle.table_read.specs.Ends.{anything, follows, EndsWith, good_at, good_none}
use Rattle.table_read.specs.ActionIndex.{KindsSay}
use Rattle.table_read.specs.LocationIndex.{entry_node, FitsKind}
use Rattle.table_read.proofs.Early.{early}
use Rattle.table_read.proofs.Rising.{rising_one, laid, Laid, laid_none, laid_more, laid-true, not-laid, laid-fronts}
use Rattle.table_read.proofs.LikeKinds.{actions_like, none-fits, entry-told, location-same}

-- ---- the entry at place p
abbrev pub entry_at : Edition → List ℕ → ℕ → Entry
entry_at ed s p = record { node = num_at ed s p; target = nat2_at s (p + wide ed); other = nat2_at s (p + wide ed + 2) }

pub entry-took : (ed : Edition) (s : List ℕ) (p : ℕ) → p + wide ed + 4 ≤ length s → Took (read_entry ed) (λ e (x : Unit {0}). e ≡ entry_at ed s p) s p (p + wide ed + 2 + 2) tt
unfolding read_entry
entry-took ed s p h = taken (then-number _ _ (omega arith) (then-nat2 _ (omega arith) (then-nat2 _ (omega arith) (gives (entry_at ed s p) (omega arith) refl)))) refl

entry-short : (ed : Edition) (s : List ℕ) (p : ℕ) → length s < p + wide ed + 4 → read_entry ed (drop p s) ≡ broken
unfolding read_entry
entry-short ed s p h = lost {r = read_entry ed} {K = anything} {s = s} {p = p} {w = none} (either (length s) (p + wide ed) (λ i. no_number _ _ i)
    (λ i. then-number _ _ i (either (length s) (p + wide ed + 2) (λ j. no-nat2 _ j (omega arith)) (λ j. then-nat2 _ j (no-nat2 _ (omega arith) (omega arith)))))) refl

-- an entry that was read is the one there
pub entry-is : (ed : Edition) (s : List ℕ) (p : ℕ) {a : Entry} {e : List ℕ} → read_entry ed (drop p s) ≡ read a e → (p + wide ed + 4 ≤ length s) × (a ≡ entry_at ed s p)
entry-is ed s p {a} h = either (length s) (p + wide ed + 4) (λ i. broken-not-read (sym (entry-short ed s p i) ∙ h)) (λ i. let t = entry-took ed s p i in (i, read-value (sym h ∙ t.got) ∙ t.means))

pub entry-inside : (ed : Edition) {K : Entry → Unit {0} → Type 0} {s : List ℕ} {p q : ℕ} → Took (read_entry ed) K s p q tt → p + wide ed + 4 ≤ length s
entry-inside ed {s = s} {p = p} u = (entry-is ed s p u.got).0

entry-node : (ed : Edition) (s : List ℕ) (p : ℕ) {a : Entry} {e : List ℕ} → read_entry ed (drop p s) ≡ read a e → a.node ≡ num_at ed s p
entry-node ed s p h = ap (λ e. e.node) (entry-is ed s p h).1

-- ---- what the code says of it, for n locations and actions of the kinds ks
module _ (ed : Edition) (n : ℕ) {ks : List ℕ} {l : List NodeAction} (said : KindsSay l ks) (low : ℕ) where
  abbrev good : Entry → Bool
  good = follows entry_node (entry_fits n l) low

  module _ (s : List ℕ) (p : ℕ) where
    pub entry-none : length s < p + wide ed + 4 → EndsWith (read_entry ed) good s p None
    entry-none h = good_none (λ a e k. broken-not-read (sym (entry-short ed s p h) ∙ k))

    pub entry-low : num_at ed s p < low → EndsWith (read_entry ed) good s p None
    unfolding follows
    entry-low h = good_none (λ a e k. rw (rising_one low a.node, lt-leb low a.node (subst (λ m. m < low) (sym (entry-node ed s p k)) h)) refl)

    unfit : ((a : Entry) → a ≡ entry_at ed s p → entry_fits n l a ≡ false) → EndsWith (read_entry ed) good s p None
    unfolding follows
    unfit h = good_none (λ a e k. rw (h a (entry-is ed s p k).1, and-false (rising_from low (a.node ∷ []))) refl)

    pub entry-outside : length ks ≤ num_at ed s p → EndsWith (read_entry ed) good s p None
    entry-outside h = unfit (λ a e. sym (entry-told n l ks a said (subst (λ k. FitsKind n k a.target a.other false) (sym (no_kind a e)) (none-fits n a.target a.other))))
      where
        no_kind : (a : Entry) → a ≡ entry_at ed s p → get_or ks a.node 0 ≡ 0
        no_kind a e = ap (λ (z : Entry). get_or ks z.node 0) e ∙ get_or-eq_default ks 0 h

    -- w and m are the width and the node that code holds
    module _ {x : Bool} {w m t u : ℕ} (ew : w ≡ wide ed) (em : m ≡ num_at ed s p) (f : FitsKind n (get_or ks m 0) t u x) (i : t ≡ nat2_at s (p + w)) (j : u ≡ nat2_at s (p + w + 2)) where
      here : x ≡ entry_fits n l (entry_at ed s p)
      here = entry-told n l ks (entry_at ed s p) said (rw (em, i, j, ew) at f)

      pub entry-bad : x ≡ false → EndsWith (read_entry ed) good s p None
      entry-bad e = unfit (λ a k. ap (entry_fits n l) k ∙ sym here ∙ e)

      pub entry-ok : x ≡ true → low ≤ num_at ed s p → p + wide ed + 4 ≤ length s → EndsWith (read_entry ed) good s p (Some (p + w + 2 + 2))
      unfolding follows
      entry-ok e o h = rw ew (
          let k = entry-took ed s p h in
          good_at {q = p + wide ed + 2 + 2} (record {
            value = k.value;
            got = k.got;
            inside = k.inside;
            means = and_both (rising_one low k.value.node ∙ le-leb low k.value.node (subst (λ i. low ≤ i) (sym (entry-node ed s p k.got)) o)) (ap (entry_fits n l) k.means ∙ sym here ∙ e);
          }))

-- ---- the first i entries of the location at p, the last of which ends at q, fit actions of the kinds ks; the next node is low or above
pub record Entries (ed : Edition) (n : ℕ) (ks s : List ℕ) (p i q low : ℕ) : Type 0 where
  pub took : Took (times i (read_entry ed)) anything s (p + 1) q tt
  pub sound : Laid entry_node (entry_fits n (actions_like ks)) took.value low

module _ (ed : Edition) (n : ℕ) (ks s : List ℕ) (p : ℕ) where
  pub entries-start : p < length s → Entries ed n ks s p 0 (p + 1) 0
  unfolding times give
  entries-start h = record { took = record { value = []; got = refl; inside = omega arith; means = tt }; sound = laid_none entry_node (entry_fits n (actions_like ks)) }

  pub entries_next : {i q r low : ℕ} → Entries ed n ks s p i q low → Took (read_entry ed)
      (λ a (x : Unit {0}). follows entry_node (entry_fits n (actions_like ks)) low a ≡ true) s q r tt → {m : ℕ} → m ≡ num_at ed s q → Entries ed n ks s p (i + 1) r (m + 1)
  entries_next {i} {q} x u e = record {
    took = record { value = x.took.value ++ (u.value ∷ []); got = rw (add-one i) (snoc (read_entry ed) i (drop (p + 1) s) x.took.got u.got); inside = u.inside; means = tt };
    sound = subst (λ m. Laid entry_node (entry_fits n (actions_like ks)) (x.took.value ++ (u.value ∷ [])) (m + 1)) (entry-node ed s q u.got ∙ sym e)
        (laid_more entry_node (entry_fits n (actions_like ks)) u.value x.sound u.means);
  }

  -- whatever actions have these kinds
  abbrev LocationEnds : Option ℕ → Type 0
  LocationEnds q = (l : List NodeAction) → KindsSay l ks → EndsWith (read_location ed) (location_fits n l) s p q

  for-all : (q : Option ℕ) → EndsWith (read_location ed) (location_fits n (actions_like ks)) s p q → LocationEnds q
  for-all q h l k = subst (λ f. EndsWith (read_location ed) f s p q) (location-same n l ks k) h

  pub location-none : length s ≤ p → LocationEnds None
  unfolding read_location
  location-none h l said = good_none (λ a e k. not-past _ s p h k)

  module _ (h : p < length s) where
    -- what is read after the count
    counted-entries : {es : List Entry} {e : List ℕ} → read_location ed (drop p s) ≡ read es e → (leb 1 (get_or s p 0) ≡ true) × (times (get_or s p 0) (read_entry ed) (drop (p + 1) s) ≡ read es e)
    unfolding read_location
    counted-entries k = guarded _ _ (after-byte _ s p h k)

    pub location-empty : get_or s p 0 < 1 → LocationEnds None
    location-empty i l said = good_none (λ a e k. true-not-false (sym (counted-entries k).0 ∙ lt-leb 1 (get_or s p 0) i))

    pub location-stop : {i q low : ℕ} → Entries ed n ks s p i q low → i < get_or s p 0 →
        ((a : Entry) (e : List ℕ) → read_entry ed (drop q s) ≡ read a e → follows entry_node (entry_fits n (actions_like ks)) low a ≡ false) → LocationEnds None
    unfolding location_fits entry_nodes laid
    location-stop {i} x k bad = for-all None (good_none (λ es e g. by_cases (location_fits n (actions_like ks) es)
        (λ fit. absurd (early (read_entry ed) (laid entry_node (entry_fits n (actions_like ks))) (laid-fronts entry_node (entry_fits n (actions_like ks))) i x.took k
        (λ a r j. not-laid entry_node (entry_fits n (actions_like ks)) a x.sound (bad a r j)) (counted-entries g).1 fit))
        (λ unfit. unfit)))

    pub location-ok : {i q low c : ℕ} → Entries ed n ks s p i q low → i ≡ c → c ≡ get_or s p 0 → 1 ≤ c → LocationEnds (Some q)
    unfolding read_location location_fits entry_nodes laid
    location-ok {i} {q} {low} {c} x e f g =
        let t : Took (times (get_or s p 0) (read_entry ed)) (λ es (x : Unit {0}). location_fits n (actions_like ks) es ≡ true) s (p + 1) q tt = record {
          value = x.took.value;
          got = subst (λ m. times m (read_entry ed) (drop (p + 1) s) ≡ read x.took.value (drop q s)) (e ∙ f) x.took.got;
          inside = x.took.inside;
          means = laid-true entry_node (entry_fits n (actions_like ks)) x.sound;
        } in
        for-all (Some q) (good_at (taken (then-byte _ h (then-guard _ _ (le-leb 1 (get_or s p 0) (omega arith)) (reads_at t))) refl))

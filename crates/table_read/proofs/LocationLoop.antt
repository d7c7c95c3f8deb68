-- The loop over the locations: what is read so far, and what the code answers.
use mathlib.Core.Path.{◌≡◌, refl, sym, ap, subst, ◌∙◌}
use mathlib.Core.Bool.{true, false, and-false}
use mathlib.Core.List.{List, [], ◌∷◌, ◌++◌}
use mathlib.Core.Option.{some}
use Prim.Native.Nat.{ℕ, ◌+◌, ◌≤◌, ◌<◌}
use native.Mathlib.Numerals.{add-one}
use native.Mathlib.Omega.{arith}
use lib.ListN.{length, set, drop, replicate, length-drop}
use Rattle.std.specs.Prelude.{Some, None}
use Rattle.semantics.specs.Bytes.{every, Read, broken, read, and_then, ◌>>=◌, give, fail, guard, times, just, whole}
use Rattle.semantics.specs.Editions.{Edition}
use Rattle.semantics.specs.Refusals.{Judged, refused, accepted}
use Rattle.semantics.specs.TableFile.{NodeAction, Entry, read_location, read_location_count, read_locations, locations_in}
use Rattle.semantics.specs.Tables.{location_fits, locations_fit_in, judge_locations}
use Rattle.semantics.proofs.Facts.{and_both, within_both, within_low, within-high, none-not-some}
use Rattle.semantics.proofs.Judging.{go-need, go-ensure}
use Rattle.semantics.proofs.Readers.{read-rest, guarded, given, given-rest, whole-read}
use Rattle.paper.specs.Refusals.{answered}
use Rattle.paper.proofs.Answered.{accepts-with}
use Rattle.codec.specs.Reading.{Took}
use Rattle.codec.specs.Places.{places_from}
use Rattle.codec.specs.Padding.{pad}
use Rattle.codec.proofs.Reading.{lost, then-nat2, no-nat2, no-guard, within-below, within-above, nat2_at, nat2-at, drop_past, either}
use Rattle.codec.proofs.Known.{after-nat2, not-nat2, snoc, times-length}
use Rattle.codec.proofs.Loops.{every-snoc}
use Rattle.codec.proofs.Padding.{pad-none, set-pad}
use Rattle.codec.proofs.Places.{places-start, places-more, places_count}
use Rattle.table_read.specs.declared.locations.Locations.{Locations}
use Rattle.table_read.specs.Ends.{anything, number_read}
use Rattle.table_read.specs.LocationIndex.{location_index}
use Rattle.table_read.proofs.Early.{early}
use Rattle.table_read.proofs.Fitted.{Fitted, fit, unfit, fitted}
use Rattle.table_read.proofs.Rising.{every_append}

-- ---- refusals
-- what the code answers of the section s
abbrev pub Answer : Edition → List NodeAction → List ℕ → Judged Locations
Answer ed acts s = answered (location_index ed s) (judge_locations ed acts s)

pub refuse : (ed : Edition) (acts : List NodeAction) (s : List ℕ) → ((ls : List (List Entry)) → locations_in ed s ≡ some ls → locations_fit_in acts ls ≡ true → ⊥) → refused 19 ≡ Answer ed acts s
unfolding judge_locations
refuse ed acts s h = go (fitted 19 (locations_in ed s) (locations_fit_in acts))
  where
    go : {j : Judged (List (List Entry))} → Fitted 19 (locations_in ed s) (locations_fit_in acts) j → refused 19 ≡ answered (location_index ed s) j
    go (fit {a = ls} e k) = absurd (h ls e k)
    go (unfit k) = refl

module _ (ed : Edition) (acts : List NodeAction) (s : List ℕ) {ls : List (List Entry)} (e : locations_in ed s ≡ some ls) (h : locations_fit_in acts ls ≡ true) where
  pub judged : judge_locations ed acts s ≡ accepted ls
  unfolding judge_locations
  judged = go-need 19 _ e ∙ go-ensure 19 _ h

-- ---- the count
pub no-count : (s : List ℕ) → length s < 2 → None ≡ number_read (read_location_count s)
unfolding read_location_count number_read
no-count s h = sym (ap number_read (lost {K = anything} {s = s} {p = 0} (no-nat2 _ h (omega arith)) refl))

pub few : (s : List ℕ) {n : ℕ} → n ≡ nat2_at s 0 → 2 ≤ length s → n < 1 → None ≡ number_read (read_location_count s)
unfolding read_location_count number_read
few s {n} e i h = sym (ap number_read (lost {K = anything} {s = s} {p = 0} (then-nat2 _ i (no-guard _ _ (within-below 1 1024 _ (subst (λ n. n < 1) e h)))) refl))

pub many : (s : List ℕ) {n : ℕ} → n ≡ nat2_at s 0 → 2 ≤ length s → 1024 < n → None ≡ number_read (read_location_count s)
unfolding read_location_count number_read
many s {n} e i h = sym (ap number_read (lost {K = anything} {s = s} {p = 0} (then-nat2 _ i (no-guard _ _ (within-above 1 1024 _ (subst (λ n. 1024 < n) e h)))) refl))

pub count-is : (s : List ℕ) {n : ℕ} → n ≡ nat2_at s 0 → 2 ≤ length s → 1 ≤ n → n ≤ 1024 → Some n ≡ number_read (read_location_count s)
unfolding read_location_count number_read ◌>>=◌ and_then guard give fail
count-is s {n} e i l h = rw (nat2-at s 0 i, ← e, within_both 1 1024 n l h) refl

pub record Count (s : List ℕ) (n : ℕ) : Type 0 where
  pub room : 2 ≤ length s
  pub low : 1 ≤ n
  pub high : n ≤ 1024
  pub first : read_location_count s ≡ read n (drop 2 s)

pub count-was : (s : List ℕ) {n : ℕ} {e : List ℕ} → read_location_count s ≡ read n e → Count s n
unfolding read_location_count
count-was s {n} h = either (length s) 2 (λ i. not-nat2 _ s 0 i (omega arith) h) (λ i.
    let g = guarded _ _ (after-nat2 _ s 0 i h) in
    let is : nat2_at s 0 ≡ n = given _ _ g.1 in
    record {
      room = i;
      low = subst (λ n. 1 ≤ n) is (within_low 1 1024 _ g.0);
      high = subst (λ n. n ≤ 1024) is (within-high 1 1024 _ g.0);
      first = h ∙ ap (read n) (sym (given-rest _ _ g.1));
    })

pub count_of : {s : List ℕ} {n : ℕ} → Some n ≡ number_read (read_location_count s) → Count s n
unfolding number_read
count_of {s} {n} e = go (read_location_count s) refl e
  where
    go : (o : Read ℕ) → read_location_count s ≡ o → Some n ≡ number_read o → Count s n
    go broken h e = cc
    go (read m t) h e =
        let i : n ≡ m = cc in
        subst (Count s) (sym i) (count-was s h)

pub refuse-count : (ed : Edition) (acts : List NodeAction) (s : List ℕ) → None ≡ number_read (read_location_count s) → refused 19 ≡ Answer ed acts s
unfolding number_read locations_in read_locations whole just ◌>>=◌ and_then
refuse-count ed acts s e = go (read_location_count s) refl e
  where
    go : (o : Read ℕ) → read_location_count s ≡ o → None ≡ number_read o → refused 19 ≡ Answer ed acts s
    go broken h e = refuse ed acts s (λ l i g. none-not-some (sym (ap (λ o. just (and_then o (λ n. times n (read_location ed)))) h) ∙ i))
    go (read m t) h e = cc

-- ---- what the section's reader does after the count
after-count : (ed : Edition) {s : List ℕ} {n : ℕ} → Count s n → read_locations ed s ≡ times n (read_location ed) (drop 2 s)
unfolding read_locations ◌>>=◌ and_then
after-count ed c = rw c.first refl

pub in-times : (ed : Edition) {s : List ℕ} {n : ℕ} {ls : List (List Entry)} → Count s n → locations_in ed s ≡ some ls → times n (read_location ed) (drop 2 s) ≡ read ls []
unfolding locations_in
in-times ed {s} c e = sym (after-count ed c) ∙ whole-read (read_locations ed) s e

times-in : (ed : Edition) {s : List ℕ} {n : ℕ} {ls : List (List Entry)} → Count s n → times n (read_location ed) (drop 2 s) ≡ read ls [] → locations_in ed s ≡ some ls
unfolding locations_in whole just
times-in ed c e = ap just (after-count ed c ∙ e)

-- ---- the first i of n locations, the last of which ends at p; all fit, and their places are in the list
pub record Located (ed : Edition) (acts : List NodeAction) (n : ℕ) (s : List ℕ) (i p : ℕ) (places : List ℕ) : Type 0 where
  pub took : Took (times i (read_location ed)) anything s 2 p tt
  pub all_fit : every (location_fits n acts) took.value ≡ true
  pub noted : places ≡ pad 1024 0 (places_from (length s) (read_location ed) i (drop 2 s))

module _ (ed : Edition) (acts : List NodeAction) {n : ℕ} {s : List ℕ} where
  pub located-start : Count s n → Located ed acts n s 0 2 (replicate 1024 0)
  unfolding times give every
  located-start c = record {
    took = record { value = []; got = refl; inside = c.room; means = tt };
    all_fit = refl;
    noted = pad-none 1024 0 ∙ ap (pad 1024 0) (sym (places-start (length s) (read_location ed) (drop 2 s)));
  }

  module _ {i p : ℕ} {places : List ℕ} (x : Located ed acts n s i p places) where
    pub located-next : {q : ℕ} → i < 1024 → Took (read_location ed) (λ a (y : Unit {0}). location_fits n acts a ≡ true) s p q tt → Located ed acts n s (i + 1) q (set places i p)
    located-next h u = record {
      took = record { value = x.took.value ++ (u.value ∷ []); got = rw (add-one i) (snoc (read_location ed) i (drop 2 s) x.took.got u.got); inside = u.inside; means = tt };
      all_fit = every-snoc (location_fits n acts) x.took.value u.value ∙ and_both x.all_fit u.means;
      noted =
          ap (λ z. set z i p) x.noted ∙ set-pad 1024 0 (places_from (length s) (read_location ed) i (drop 2 s)) i p (places_count (read_location ed) i x.took) h
          ∙ ap (pad 1024 0) (sym (places-more (read_location ed) i x.took u));
    }

    module _ (c : Count s n) where
      -- as many as were counted
      in_count : {ls : List (List Entry)} → locations_in ed s ≡ some ls → length ls ≡ n
      in_count e = times-length (read_location ed) n (drop 2 s) (in-times ed c e)

      fits_count : (ls : List (List Entry)) → length ls ≡ n → locations_fit_in acts ls ≡ every (location_fits n acts) ls
      unfolding locations_fit_in
      fits_count ls e = rw e refl

      pub located-stop : i < n → ((a : List Entry) (e : List ℕ) → read_location ed (drop p s) ≡ read a e → location_fits n acts a ≡ false) → refused 19 ≡ Answer ed acts s
      located-stop h bad = refuse ed acts s (λ ls e g. early (read_location ed) (every (location_fits n acts)) (every_append (location_fits n acts)) i x.took h
          (λ a r k. rw (every-snoc (location_fits n acts) x.took.value a, bad a r k, and-false (every (location_fits n acts) x.took.value)) refl)
          (in-times ed c e) (sym (fits_count ls (in_count e)) ∙ g))

      module _ (e : i ≡ n) where
        all : times n (read_location ed) (drop 2 s) ≡ read x.took.value (drop p s)
        all = subst (λ n. times n (read_location ed) (drop 2 s) ≡ read x.took.value (drop p s)) e x.took.got

        pub located-over : p < length s → refused 19 ≡ Answer ed acts s
        located-over h = refuse ed acts s (λ l k g. let n : length (drop p s) ≡ 0 = ap length (read-rest (sym all ∙ in-times ed c k)) in omega (arith, length-drop p s))

        pub located_end : length s ≤ p → accepted (record { count = n; places = places }) ≡ Answer ed acts s
        unfolding location_index
        located_end k =
            let ls = x.took.value in
            let found = times-in ed c (all ∙ ap (read ls) (drop_past p s k)) in
            let m : length ls ≡ n = in_count found in
            accepts-with (location_index ed s) (judged ed acts s found (fits_count ls m ∙ x.all_fit))
            (same (sym m) (x.noted ∙ ap (λ j. pad 1024 0 (places_from (length s) (read_location ed) j (drop 2 s))) (e ∙ sym m)))
          where
            same : {c d : ℕ} {ps qs : List ℕ} → c ≡ d → ps ≡ qs → ◌≡◌ {A = Locations} (record { count = c; places = ps }) (record { count = d; places = qs })
            same h i = cc

-- What the index of the locations says of each, and where its entries stand.
use mathlib.Core.Path.{◌≡◌, refl, sym, ap, subst, ◌∙◌}
use mathlib.Core.Bool.{true}
use mathlib.Core.List.{List, [], ◌∷◌}
use mathlib.Core.Option.{some}
use Prim.Native.Nat.{ℕ, zero, suc, ◌+◌, ◌-◌, ◌≤◌, ◌<◌}
use native.Mathlib.Omega.{arith}
use lib.ListN.{length, get_or, drop, replicate, get_elem?, length-append, length-replicate, get_or-append}
use Rattle.semantics.specs.Bytes.{read, give, times}
use Rattle.semantics.specs.Editions.{Edition}
use Rattle.semantics.specs.Refusals.{Judged, accepted}
use Rattle.semantics.specs.TableFile.{NodeAction, Entry, read_entry, read_location, read_location_count, read_locations, locations_in}
use Rattle.semantics.specs.Tables.{locations_fit_in, judge_locations}
use Rattle.semantics.proofs.Facts.{none-not-some, some_is}
use Rattle.semantics.proofs.Judging.{refused-not-accepted, accepted-is}
use Rattle.semantics.proofs.Readers.{read-value, read-rest, split, guarded, whole-read}
use Rattle.codec.specs.Numbers.{wide}
use Rattle.codec.specs.Places.{places_from}
use Rattle.codec.specs.Padding.{pad}
use Rattle.codec.proofs.Reading.{either}
use Rattle.codec.proofs.Known.{cons, times-length, after-byte, not-past}
use Rattle.codec.proofs.Places.{Takes, takes-then, takes-guard, takes-byte, takes-number, takes-nat2, takes-give, takes-times, places-length, placed}
use Rattle.table_read.specs.LocationIndex.{location_index}
use Rattle.table_read.proofs.Fitted.{Fitted, fit, unfit, fitted}
use Rattle.table_read.proofs.EntryLoop.{entry_at, entry-is, entry-took}
use Rattle.table_read.proofs.LocationLoop.{count-was, in-times}

-- ---- what is judged alone: the section, and the fit of the targets
pub was_judged : (ed : Edition) (acts : List NodeAction) (s : List ℕ) {ls : List (List Entry)} → judge_locations ed acts s ≡ accepted ls → (locations_in ed s ≡ some ls) × (locations_fit_in acts ls ≡ true)
unfolding judge_locations
was_judged ed acts s {ls} h = go (fitted 19 (locations_in ed s) (locations_fit_in acts)) h
  where
    go : {j : Judged (List (List Entry))} → Fitted 19 (locations_in ed s) (locations_fit_in acts) j → j ≡ accepted ls → (locations_in ed s ≡ some ls) × (locations_fit_in acts ls ≡ true)
    go (fit {a = m} e k) h = let i = accepted-is h in (e ∙ ap some i, ap (locations_fit_in acts) (sym i) ∙ k)
    go (unfit k) h = refused-not-accepted h

times-of : (ed : Edition) (s : List ℕ) {ls : List (List Entry)} → locations_in ed s ≡ some ls →
    (2 ≤ length s) × (1 ≤ length ls) × (length ls ≤ 1024) × (times (length ls) (read_location ed) (drop 2 s) ≡ read ls [])
unfolding locations_in read_locations
times-of ed s {ls} e =
    let k = split read_location_count _ (whole-read (read_locations ed) s e) in
    let c = count-was s k.first in
    let g = in-times ed c e in
    let n = times-length (read_location ed) k.value (drop 2 s) g in
    let low = c.low in
    let high = c.high in
    (c.room, omega arith, omega arith, subst (λ n. times n (read_location ed) (drop 2 s) ≡ read ls []) (sym n) g)

takes-entry : (ed : Edition) → Takes (read_entry ed)
unfolding read_entry
takes-entry ed = takes-then (takes-number _) (λ n. takes-then takes-nat2 (λ t. takes-then takes-nat2 (λ u. takes-give _)))

takes-location : (ed : Edition) → Takes (read_location ed)
unfolding read_location
takes-location ed = takes-then takes-byte (λ n. takes-guard _ (takes-times n (takes-entry ed)))

-- ---- location k
pub record LocationAt (ed : Edition) (s : List ℕ) (ls : List (List Entry)) (k p : ℕ) : Type 0 where
  pub rest : List ℕ
  pub reads : read_location ed (drop p s) ≡ read (get_or ls k []) rest

get_d_of : {A : Type 0} (l : List A) (k : ℕ) {x : A} (d : A) → get_elem? l k ≡ some x → x ≡ get_or l k d
get_d_of [] k d h = none-not-some h
get_d_of (y ∷ l) zero d h = sym (some_is h)
get_d_of (y ∷ l) (suc k) d h = get_d_of l k d h

module _ (ed : Edition) (s : List ℕ) {ls : List (List Entry)} (e : locations_in ed s ≡ some ls) where
  -- at least location 0 is there
  pub count-bounds : (1 ≤ length ls) × (length ls ≤ 1024)
  count-bounds = let t = times-of ed s e in (t.1, t.2)

  pub places-full : length (location_index ed s ls).places ≡ 1024
  unfolding location_index pad
  places-full =
      let t = times-of ed s e in
      let high = t.2 in
      let ps = places_from (length s) (read_location ed) (length ls) (drop 2 s) in
      let m : length ps ≡ length ls = places-length (length s) (read_location ed) (length ls) (drop 2 s) t.3 in
      length-append ps _ ∙ simp length-replicate (omega arith)

  pub location-at : (k : ℕ) → k < length ls → LocationAt ed s ls k (get_or (location_index ed s ls).places k 0)
  unfolding location_index pad
  location-at k j =
      let t = times-of ed s e in
      let ps = places_from (length s) (read_location ed) (length ls) (drop 2 s) in
      let m : length ps ≡ length ls = places-length (length s) (read_location ed) (length ls) (drop 2 s) t.3 in
      let x = placed (takes-location ed) s (length ls) k 2 t.0 t.3 j in
      let at : get_or (location_index ed s ls).places k 0 ≡ get_or ps k 0 = get_or-append ps (replicate (1024 - length ps) 0) 0 k (omega arith) in
      subst (LocationAt ed s ls k) (sym at) (record {
        rest = x.nth.end;
        reads = x.nth.got ∙ ap (λ z. read z x.nth.end) (get_d_of ls k [] x.nth.is);
      })

-- ---- the entries of a location, one after the other from place p on
pub data EntriesAt (ed : Edition) (s : List ℕ) : ℕ → List Entry → Type 0 where
  no_entries : {p : ℕ} → EntriesAt ed s p []
  entry_then : {p : ℕ} {e : Entry} {es : List Entry} → p + (wide ed + 4) ≤ length s → e ≡ entry_at ed s p → EntriesAt ed s (p + (wide ed + 4)) es → EntriesAt ed s p (e ∷ es)

entries_from : (ed : Edition) (s : List ℕ) (n p : ℕ) (m : List ℕ) {es : List Entry} {e : List ℕ} → p ≤ length s → m ≡ drop p s → times n (read_entry ed) m ≡ read es e → EntriesAt ed s p es
unfolding times give
entries_from ed s zero p m b q h = subst (EntriesAt ed s p) (read-value h) no_entries
entries_from ed s (suc n) p m b q h =
    let c = cons (read_entry ed) n h in
    let f = ap (read_entry ed) (sym q) ∙ c.first in
    let i = entry-is ed s p f in
    let inside = i.0 in
    let next : p + wide ed + 2 + 2 ≡ p + (wide ed + 4) = omega arith in
    let v : c.mid ≡ drop (p + (wide ed + 4)) s = read-rest (sym f ∙ (entry-took ed s p inside).got) ∙ ap (λ q. drop q s) next in
    subst (EntriesAt ed s p) c.is (entry_then (omega arith) i.1 (entries_from ed s n (p + (wide ed + 4)) c.mid (omega arith) v c.rest))

-- entry j of a walk over them that has come to place q
pub record EntryHere (ed : Edition) (s : List ℕ) (es : List Entry) (j q : ℕ) : Type 0 where
  pub inside : q + (wide ed + 4) ≤ length s
  pub is : get_elem? es j ≡ some (entry_at ed s q)
  pub others : EntriesAt ed s (q + (wide ed + 4)) (drop (j + 1) es)

pub entry_here : (ed : Edition) (s : List ℕ) (es : List Entry) (j q : ℕ) → EntriesAt ed s q (drop j es) → j < length es → EntryHere ed s es j q
entry_here ed s [] j q x h = absurd (omega arith)
entry_here ed s (e ∷ es) zero q (entry_then i k x) h = record { inside = i; is = ap some k; others = x }
entry_here ed s (e ∷ es) (suc j) q x h =
    let y = entry_here ed s es j q x (omega arith) in
    let next : suc (j + 1) ≡ suc j + 1 = omega arith in
    record { inside = y.inside; is = y.is; others = subst (λ k. EntriesAt ed s (q + (wide ed + 4)) (drop k (e ∷ es))) next y.others }

-- their count, then the entries
pub record LocationStands (ed : Edition) (s : List ℕ) (p : ℕ) (es : List Entry) : Type 0 where
  pub before_end : p < length s
  pub counted : length es ≡ get_or s p 0
  pub entries : EntriesAt ed s (p + 1) es

pub location-stands : (ed : Edition) (s : List ℕ) (p : ℕ) {es : List Entry} {e : List ℕ} → read_location ed (drop p s) ≡ read es e → LocationStands ed s p es
unfolding read_location
location-stands ed s p h = either p (length s) (λ i.
    let g = guarded _ _ (after-byte _ s p i h) in
    let n = times-length (read_entry ed) (get_or s p 0) (drop (p + 1) s) g.1 in
    record { before_end = i; counted = n; entries = entries_from ed s (get_or s p 0) (p + 1) (drop (p + 1) s) (omega arith) refl g.1 }) (λ i. not-past _ s p i h)

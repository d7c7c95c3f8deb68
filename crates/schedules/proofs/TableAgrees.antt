-- The table of a schedule agrees with its rules: location k is the residual with number k.
use mathlib.Core.Path.{◌≡◌, refl, sym, ap}
use mathlib.Core.Bool.{Bool, true, false, cond}
use mathlib.Core.List.Memᴰ
use mathlib.Core.List.{List, [], ◌∷◌, map, Memᴰ as Mem}
use mathlib.Core.Logic.{◌⊎◌, inl, inr}
use mathlib.Core.Option.{some}
use Prim.Native.Nat.{ℕ, zero, suc, ◌≤◌, ◌<◌}
use native.Mathlib.Omega.{arith}
use borrow.Author.Tests.{eqb-true, eqb-false, ne_eqb}
use lib.Dec.{eqb}
use lib.ListN.{length, get_or, get_elem?}
use Rattle.semantics.specs.Run.{possible, Next, to, finished, halted, idle}
use Rattle.semantics.specs.TableFile.{FINISHED, HALTED, NONE, location_limit}
use Rattle.semantics.specs.Tables.{Table, action_or_stop, entry_nodes, going_to, entry_target, next_of_entry, entries_at, table_control}
use Rattle.semantics.proofs.Facts.{none-not-some, some_is, at-below, at_mem}
use Rattle.semantics.proofs.Simulation.{NextRel, to-rel, finished-rel, halted-rel, idle-rel, Agree}
use Rattle.schedules.specs.Nodes.{Node, actions_of}
use Rattle.schedules.specs.Residuals.{Residual, fresh, acting, move, same?}
use Rattle.schedules.specs.Numbering.{number_of}
use Rattle.schedules.proofs.NodeActions.{node-action}
use Rattle.schedules.specs.Files.{Schedule, rule_control}
use Rattle.schedules.specs.Compiling.{tests_of, schedule_locations, target_code, entry_of, entries_of}

-- the table whose bytes compiling writes
unfoldable pub table_for : Schedule → Table
table_for s =
    let l = schedule_locations s in
    record { plant = s.plant; actions = actions_of s.nodes; locations = map (entries_of (tests_of s.nodes) l) l }

get_d-map-at : {A B : Type 0} (f : A → B) (l : List A) (k : ℕ) (d : B) {x : A} → get_elem? l k ≡ some x → get_or (map f l) k d ≡ f x
get_d-map-at f [] k d h = none-not-some h
get_d-map-at f (y ∷ l) zero d h = ap f (some_is h)
get_d-map-at f (y ∷ l) (suc k) d h = get_d-map-at f l k d h

-- ---- the entries of a location
module _ (tests : ℕ → Bool) (l : List Residual) (r : Residual) where
  pub nodes-of : (ns : List ℕ) → entry_nodes (map (entry_of tests l r) ns) ≡ ns
  unfolding entry_nodes entry_of
  nodes-of [] = refl
  nodes-of (n ∷ ns) = ap (λ k. n ∷ k) (nodes-of ns)

  other-of : (n : ℕ) → tests n ≡ true → (entry_of tests l r n).other ≡ target_code l (move r n false)
  unfolding entry_of
  other-of n h = rw h refl

  outcome : ℕ → Bool → ℕ
  outcome n b = cond b (entry_of tests l r n).target (entry_of tests l r n).other

  -- the entry of an acting node is found
  entry_found : (n : ℕ) (b : Bool) (ns : List ℕ) → Mem n ns → entry_target (map (entry_of tests l r) ns) n b ≡ outcome n b
  unfolding entry_target entry_of outcome
  entry_found n b [] m = absurd (Memᴰ.not-nil m)
  entry_found n b (k ∷ ns) m = go (eqb k n) refl (Memᴰ.cases_cons m) (entry_found n b ns)
    where
      go : (t : Bool) → eqb k n ≡ t → (n ≡ k) ⊎ Mem n ns → (Mem n ns → entry_target (map (entry_of tests l r) ns) n b ≡ outcome n b) →
          elim t [ true ↦ outcome k b | false ↦ entry_target (map (entry_of tests l r) ns) n b ] ≡ outcome n b
      go true e m ih = ap (λ i. outcome i b) (eqb-true k n e)
      go false e (inl h) ih = absurd (eqb-false k n e (sym h))
      go false e (inr h) ih = ih h

-- ---- where a move leads
-- what numbering gives: the residuals that are met have numbers, each its own place in the list
record Numbers (l : List Residual) : Type 0 where
  few : length l ≤ location_limit
  found : (x : Residual) (k : ℕ) → number_of same? x l ≡ some k → get_elem? l k ≡ some x
  exists : (x : Residual) → Mem x l → (k : ℕ) × (number_of same? x l ≡ some k)

-- a number of a location is no code of an end
pub location-read : (k : ℕ) → k < location_limit → going_to k ≡ to k
unfolding going_to FINISHED HALTED NONE
location-read k h = rw (ne_eqb k 0xfffe (λ e. omega arith), ne_eqb k 0xfffd (λ e. omega arith), ne_eqb k 0xffff (λ e. omega arith)) refl

-- a target in the table is read back as what it was
read_back : (l : List Residual) → Numbers l → (x : Next Residual) → ((r : Residual) → x ≡ to r → Mem r l) →
    NextRel (λ r k. get_elem? l k ≡ some r) x (going_to (target_code l x))
unfolding target_code going_to FINISHED HALTED NONE
read_back l ns (to r) h =
    let p = ns.exists r (h r refl) in
    let q = ns.found r p.0 p.1 in
    let few = ns.few in
    let low = at-below l p.0 q in
    rw (p.1, location-read p.0 (omega arith)) (to-rel q)
read_back l ns finished h = finished-rel
read_back l ns halted h = halted-rel
read_back l ns idle h = idle-rel

module _ (ns : List Node) (l : List Residual) (numbers : Numbers l)
    (closed : (x y : Residual) (n : ℕ) (b : Bool) → Mem x l → Mem n (acting x) → possible (action_or_stop (actions_of ns) n) b ≡ true → move x n b ≡ to y → Mem y l) where
  leads : (r : Residual) → Mem r l → (n : ℕ) → Mem n (acting r) → (b : Bool) → possible (action_or_stop (actions_of ns) n) b ≡ true →
      NextRel (λ r k. get_elem? l k ≡ some r) (move r n b) (going_to (outcome (tests_of ns) l r n b))
  unfolding outcome entry_of possible tests_of
  leads r m n a true e = read_back l numbers (move r n true) (λ y g. closed r y n true m a e g)
  leads r m n a false e = rw (other-of (tests_of ns) l r n e) (read_back l numbers (move r n false) (λ y g. closed r y n false m a e g))

  nexts-at : (r : Residual) (k : ℕ) → get_elem? l k ≡ some r → (n : ℕ) → Mem n (acting r) → (b : Bool) → possible (action_or_stop (actions_of ns) n) b ≡ true →
      NextRel (λ r k. get_elem? l k ≡ some r) (move r n b) (next_of_entry (get_or (map (entries_of (tests_of ns) l) l) k []) n b)
  unfolding entries_of next_of_entry
  nexts-at r k h n m b e =
      rw (get_d-map-at (entries_of (tests_of ns) l) l k [] h, entry_found (tests_of ns) l r n b (acting r) m) (leads r (at_mem l k h) n m b e)

  acting-at : (r : Residual) (k : ℕ) → get_elem? l k ≡ some r → acting r ≡ entry_nodes (get_or (map (entries_of (tests_of ns) l) l) k [])
  unfolding entries_of
  acting-at r k h = rw (get_d-map-at (entries_of (tests_of ns) l) l k [] h, nodes-of (tests_of ns) l r (acting r)) refl

-- the parameters are what numbering gives: few locations, the fresh root first, every target of a location a location,
-- and each residual that is met found at its number
module _ (s : Schedule)
    (fits : length (schedule_locations s) ≤ 1024)
    (first : get_elem? (schedule_locations s) 0 ≡ some (fresh s.root))
    (closed : (x y : Residual) (n : ℕ) (b : Bool) → Mem x (schedule_locations s) → Mem n (acting x) →
    possible (action_or_stop (actions_of s.nodes) n) b ≡ true → move x n b ≡ to y → Mem y (schedule_locations s))
    (found : (x : Residual) (k : ℕ) → number_of same? x (schedule_locations s) ≡ some k → get_elem? (schedule_locations s) k ≡ some x)
    (exists : (x : Residual) → Mem x (schedule_locations s) → (k : ℕ) × (number_of same? x (schedule_locations s) ≡ some k)) where
  numbers : Numbers (schedule_locations s)
  numbers = record { few = fits; found = found; exists = exists }

  pub table-agrees : Agree (rule_control s) (table_control (table_for s)) (λ r k. get_elem? (schedule_locations s) k ≡ some r)
  unfolding rule_control table_control table_for entries_at
  table-agrees = record {
    starts = first;
    actions = λ n. node-action s.nodes n;
    acting_same = acting-at s.nodes (schedule_locations s) numbers closed;
    nexts = λ r k h n m b e. nexts-at s.nodes (schedule_locations s) numbers closed r k h n m b (rw (node-action s.nodes n) at e);
  }

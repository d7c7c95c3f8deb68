-- The events of a list of whole events: as many as there are, each as it came.
use mathlib.Core.Path.{◌≡◌, refl, sym, ap, ap₂, ◌∙◌}
use mathlib.Core.Bool.{true}
use mathlib.Core.List.{List, ◌∷◌, ◌++◌, flatten}
use mathlib.Core.Logic.{◌↔◌}
use Prim.Native.Nat.{ℕ, zero, suc, ◌*◌, ◌/◌, ◌≤◌}
use native.Mathlib.Omega.{arith}
use native.Mathlib.Nat.{mul-div_cancel, suc-mul}
use borrow.Author.Tests.{leb-true, le-leb}
use lib.ListN.{length, length-append, take, drop}
use lib.Seq.{take-append_seam, drop-append_seam}
use Rattle.semantics.specs.Editions.{Edition}
use Rattle.semantics.specs.Events.{events_in}
use Rattle.semantics.specs.Plant.{Plant}
use Rattle.semantics.specs.Calls.{event_count, record_size, room_for_records}
use Rattle.semantics.proofs.Facts.{All, all_nil, all_cons}

-- so many whole events
pub event-count : (ed : Edition) (events : List ℕ) (n : ℕ) → length events ≡ n * ed.event_bytes → event_count ed events ≡ n
unfolding event_count
event-count ed events n e = let k = ed.event_holds in ap (λ l. l / ed.event_bytes) e ∙ mul-div_cancel n {n = ed.event_bytes} (omega arith)

pub events-length : (w n : ℕ) (l : List ℕ) → length (events_in w n l) ≡ n
unfolding events_in
events-length w zero l = refl
events-length w (suc n) l = ap suc (events-length w n (drop w l))

pub flat-length : (w : ℕ) {es : List (List ℕ)} → All (λ e. length e ≡ w) es → length (flatten es) ≡ length es * w
unfolding flatten
flat-length w all_nil = omega arith
flat-length w (all_cons {x = e} {l = es} h p) = let a = length-append e (flatten es) in let b = flat-length w p in let c = suc-mul (length es) w in omega arith

cut : (w : ℕ) {es : List (List ℕ)} → All (λ e. length e ≡ w) es → events_in w (length es) (flatten es) ≡ es
unfolding events_in flatten
cut w all_nil = refl
cut w (all_cons {x = e} {l = es} h p) =
    ap₂ (λ (x : List ℕ) (y : List (List ℕ)). x ∷ y) (ap (λ n. take n (e ++ flatten es)) (sym h) ∙ take-append_seam e (flatten es))
    (ap (events_in w (length es)) (ap (λ n. drop n (e ++ flatten es)) (sym h) ∙ drop-append_seam e (flatten es)) ∙ cut w p)

pub events-cut : (ed : Edition) (es : List (List ℕ)) → All (λ e. length e ≡ ed.event_bytes) es → events_in ed.event_bytes (event_count ed (flatten es)) (flatten es) ≡ es
events-cut ed es h =
    ap (λ n. events_in ed.event_bytes n (flatten es)) (event-count ed (flatten es) (length es) (flat-length ed.event_bytes h)) ∙ cut ed.event_bytes h

-- 22, of whole events: the buffer holds a record for each of them
pub room-for-each : (ed : Edition) (p : Plant) (events buffer : List ℕ) → ((n : ℕ) × (length events ≡ n * ed.event_bytes)) →
    (room_for_records ed p events buffer ≡ true) ↔ ((n : ℕ) → length events ≡ n * ed.event_bytes → n * record_size ed p ≤ length buffer)
unfolding room_for_records
room-for-each ed p events buffer k =
    let r = record_size ed p in (
      λ h n e. let a = leb-true (event_count ed events * r) (length buffer) h in let b : event_count ed events * r ≡ n * r = ap (λ c. c * r) (event-count ed events n e) in omega arith,
      λ h. le-leb (event_count ed events * r) (length buffer)
          (let a = h k.0 k.1 in let b : event_count ed events * r ≡ k.0 * r = ap (λ c. c * r) (event-count ed events k.0 k.1) in omega arith),
    )

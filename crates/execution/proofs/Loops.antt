-- A run's loop with the place where it stands, for any control.
use mathlib.Core.Path.{◌≡◌, sym, ap, ◌∙◌}
use mathlib.Core.List.{List}
use mathlib.Core.Option.{Option, some}
use Prim.Native.Nat.{ℕ, ◌+◌, ◌/◌, ◌^◌, ◌≤◌, ◌<◌}
use native.Mathlib.Nat.{div-le_self}
use lib.IntN.{ℤ}
use lib.ListN.{length, take, drop}
use Rattle.semantics.specs.Editions.{Edition}
use Rattle.semantics.specs.Starts.{Start}
use Rattle.semantics.specs.Run.{set_number, acting_set, record_bytes, no_counts}
use Rattle.semantics.specs.Calls.{event_count, record_length_of, Program, run_from}
use Rattle.codec.specs.Writing.{Wrote}
use Rattle.codec.proofs.Strides.{ahead-here}
use Rattle.nodeset.specs.Sets.{members}
use Rattle.event.specs.Decoded.{Decodes}
use Rattle.event.specs.declared.Event.{Event}
use Rattle.records.specs.Booking.{Room}
use Rattle.records.specs.Reported.{told}
use Rattle.records.specs.declared.Counts.{Counts}
use Rattle.records.proofs.Books.{Booked}
use Rattle.execution.specs.Ready.{Fits}
use Rattle.execution.specs.Runs.{Reports, Steps, MayRun, Going}
use Rattle.execution.proofs.Runs.{run-start, run-counts, run_length, run_room, run-next, run_end}

-- as the code counts them
pub events-counted : (ed : Edition) (events : List ℕ) {w : ℕ} → w ≡ ed.event_bytes → length events / w ≡ event_count ed events
unfolding event_count
events-counted ed events e = ap (λ w. length events / w) e

pub events-few : (ed : Edition) (events : List ℕ) → event_count ed events ≤ length events
unfolding event_count
events-few ed events = div-le_self (length events) ed.event_bytes

-- no event is counted at the start
pub none-counted : (c : Counts) → c.taken ≡ 0 → c.turned_away ≡ 0 → c.faulted ≡ 0 → told c ≡ no_counts
none-counted c e f g = λ i. record { taken = e i; turned_away = f i; faulted = g i }

abbrev begun : List ℤ → List ℕ → Start
begun vs ms = record { values = vs; modes = ms }

module _ {S : Type 0} (ed : Edition) (g : Program S) {vs₀ : List ℤ} {ms₀ events d₀ : List ℕ} where
  pub going_start : {stands : Option S → Type 0} {cs : Counts} → told cs ≡ no_counts → MayRun ed g.plant vs₀ ms₀ events d₀ → stands (some g.control.start) → Going ed g stands (begun vs₀ ms₀) events d₀ 0 0 0 cs vs₀ ms₀ d₀
  going_start e m s = record { place = some g.control.start; stands = s; so_far = run-start ed g (begun vs₀ ms₀) events d₀ e m.fits }

  module _ {stands : Option S → Type 0} {k p i : ℕ} {cs : Counts} {vs : List ℤ} {ms d : List ℕ} (x : Going ed g stands (begun vs₀ ms₀) events d₀ k p i cs vs ms d) where
    -- room for the next record
    pub going-room : MayRun ed g.plant vs₀ ms₀ events d₀ → k < event_count ed events → {vs' : List ℤ} {ms' : List ℕ} → Fits g.plant vs' ms' → i + record_length_of ed (length vs') (length ms') ≤ length d
    going-room m h f = run_room ed g (begun vs₀ ms₀) events d₀ x.so_far m.room h f

    -- what is lent keeps its length
    pub going-values : MayRun ed g.plant vs₀ ms₀ events d₀ → length vs ≡ length vs₀
    going-values m = x.so_far.fits.values ∙ sym m.fits.values

    pub going-modes : MayRun ed g.plant vs₀ ms₀ events d₀ → length ms ≡ length ms₀
    going-modes m = x.so_far.fits.modes ∙ sym m.fits.modes

    pub going-records : MayRun ed g.plant vs₀ ms₀ events d₀ → length d ≡ length d₀
    going-records m = run_length ed g (begun vs₀ ms₀) events d₀ x.so_far m.room

    -- the next event is whole
    pub going-event : k < event_count ed events → p + ed.event_bytes ≤ length events
    going-event h = ahead-here h x.so_far.ahead

    pub going-counts : k < event_count ed events → length events < 2 ^ 64 → Room cs
    going-counts h m = run-counts ed g (begun vs₀ ms₀) events d₀ x.so_far h m

    -- an event more
    pub going_next : k < event_count ed events → {after : Option S → Type 0} {e : Event} {a : ℕ} {vs' : List ℤ} {ms' : List ℕ} → Decodes ed (take ed.event_bytes (drop p events)) e
        → (s : Steps ed g after x.place vs ms e a vs' ms') → Fits g.plant vs' ms' → (ws : List ℕ) → acting_set g.control s.place ≡ set_number (members ws) → {i' p' : ℕ} {cs' : Counts} {d' : List ℕ}
        → Wrote d i (record_bytes ed a (set_number (members ws)) vs' ms') d' → i' ≡ i + record_length_of ed (length vs') (length ms') → Booked cs a cs' → p' ≡ p + ed.event_bytes → Going ed g after (begun vs₀ ms₀) events d₀ (k + 1) p' i' cs' vs' ms' d'
    going_next h {a = a} {vs' = vs'} {ms' = ms'} q s f ws u w j b z = rw z (record {
      place = s.place;
      stands = s.stands;
      so_far = run-next ed g (begun vs₀ ms₀) events d₀ x.so_far h a s.place vs' ms' ws q s.is u f w j b;
    })

    pub going_end : k ≡ event_count ed events → Reports ed g.control (run_from ed g (begun vs₀ ms₀) events) d₀ cs d
    going_end h = run_end ed g (begun vs₀ ms₀) events d₀ x.so_far h

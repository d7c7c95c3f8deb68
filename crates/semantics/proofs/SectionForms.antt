-- The variable and the equation section are read just where they are written forms within the printed limits.
use mathlib.Core.Path.{◌≡◌, refl, ap}
use mathlib.Core.Bool.{true, cond}
use mathlib.Core.List.{List, ◌∷◌, flat_map}
use mathlib.Core.Logic.{◌↔◌}
use mathlib.Core.Option.{some}
use Prim.Native.Nat.{ℕ, suc, ◌-◌}
use native.Mathlib.Omega.{arith}
use borrow.Author.Tests.{eqb-true, leb-true, le-leb}
use lib.Dec.{leb, eqb, lit<}
use lib.IntN.{ℤ}
use lib.ListN.{length}
use Rattle.semantics.specs.Bytes.{within, byte, int4, bytes, times, section2, unsigned}
use Rattle.semantics.specs.Editions.{Edition}
use Rattle.semantics.specs.Expressions.{fits32}
use Rattle.semantics.specs.Run.{value_bytes}
use Rattle.semantics.specs.Sections.{Variable, Rate, Switch, Mode, Equation, steady, choice, read_variable, read_variables, variables_in, read_rate, read_switch, read_mode, read_steady, read_choice, read_equation_body, equation_in_bytes, read_equation, read_equations, equations_in}
use Rattle.semantics.specs.TableFile.{in_section2}
use Rattle.semantics.specs.Writing.{AllBytes, SectionLimits, write_variable, write_variables, VariableLimits, VariablesLimits, write_rate, write_switch, write_mode, equation_bytes, write_equation, write_equations, RateLimits, SwitchLimits, ModeLimits, PayloadLimits, steady_within, choice_within, EquationLimits, EquationsLimits}
use Rattle.semantics.proofs.Facts.{by_cases, within_low, within-high, within_both, all_cons, all_append, all_map, all-flat}
use Rattle.semantics.proofs.Readers.{Reads, reads_then, reads-last, reads_byte, reads_bytes, reads-guard, reads-from, reads_times, whole-reads}
use Rattle.semantics.proofs.SignedBytes.{unsigned-fits, reads-int4}
use Rattle.semantics.proofs.TableBack.{reads-nothing-more, reads-section2}
use Rattle.semantics.proofs.WrittenRecords.{out4-bytes}
use Rattle.semantics.proofs.WrittenTables.{section2-written}
use Rattle.semantics.proofs.TakenBytes.{Is, Takes, takes-then, takes-last, takes-from, takes-guard, takes-fail, takes-as, whole_takes, takes-byte, takes-int4, takes-bytes, takes-section2, takes-times, takes-counted, reads-counted, Exact, exact}

-- ---- values
pub reads-value : (z : ℤ) → fits32 z ≡ true → Reads int4 (value_bytes z) z
unfolding value_bytes
reads-value z h = reads-int4 z h

pub value_written : (z : ℤ) → fits32 z ≡ true → AllBytes (value_bytes z)
unfolding value_bytes
value_written z h = out4-bytes (unsigned z) (unsigned-fits z h)

-- a stretch of bytes whose length is given otherwise
pub reads-stretch : (n : ℕ) (b : List ℕ) → n ≡ length b → Reads (bytes n) b b
reads-stretch n b e = rw e (reads_bytes b)

-- a section of 2-byte length
pub section-written : {s : List ℕ} → SectionLimits 65536 s → AllBytes (in_section2 s)
section-written {s} h = section2-written s h.short h.each

-- ---- variables
module _ (ed : Edition) where
  variable-taken : Takes (read_variable ed) (Is write_variable VariableLimits)
  unfolding read_variable write_variable
  variable-taken =
      takes-then int4 _ takes-int4 (λ a h. takes-then int4 _ takes-int4 (λ b i. takes-last int4 _ takes-int4 (λ c j.
      record { written = refl; fits = record { minimum = h; maximum = i; initial = j } })))

  variable-back : (x : Variable) → VariableLimits x → Reads (read_variable ed) (write_variable x) x
  unfolding read_variable write_variable
  variable-back x h =
      reads_then int4 _ (reads-value x.minimum h.minimum) (reads_then int4 _ (reads-value x.maximum h.maximum) (reads-last int4 _ (reads-value x.initial h.initial)))

  variable-written : (x : Variable) → VariableLimits x → AllBytes (write_variable x)
  unfolding write_variable
  variable-written x h = all_append (value_written x.minimum h.minimum) (all_append (value_written x.maximum h.maximum) (value_written x.initial h.initial))

  variables-form : Exact (read_variables ed) write_variables VariablesLimits
  unfolding read_variables write_variables
  variables-form = record {
    taken = takes-as (λ xs w i. record {
      written = i.written;
      fits = record { at_least = within_low 1 32 (length xs) i.fits.tested; at_most = within-high 1 32 (length xs) i.fits.tested; each = i.fits.each };
    }) (takes-counted byte (within 1 32) (read_variable ed) takes-byte variable-taken);
    back = λ xs h. reads-counted byte (within 1 32) (read_variable ed) reads_byte variable-back (within_both 1 32 (length xs) h.at_least h.at_most) h.each;
    in_bytes = λ xs h. (let k = h.at_most in all_cons {x = length xs} (omega arith) (all-flat write_variable (all_map variable-written h.each)));
  }

  pub variables-bytes : (s : List ℕ) (xs : List Variable) → (AllBytes s × (variables_in ed s ≡ some xs)) ↔ ((s ≡ write_variables xs) × VariablesLimits xs)
  unfolding variables_in
  variables-bytes = exact variables-form

-- ---- rates, switches, modes
rate-taken : Takes read_rate (Is write_rate RateLimits)
unfolding read_rate write_rate
rate-taken = takes-then byte _ takes-byte (λ v h. takes-last int4 _ takes-int4 (λ z i. record { written = refl; fits = record { driven = h; rate = i } }))

rate-back : (r : Rate) → RateLimits r → Reads read_rate (write_rate r) r
unfolding read_rate write_rate
rate-back r h = reads_then byte _ (reads_byte r.driven) (reads-last int4 _ (reads-value r.rate h.rate))

rate-written : (r : Rate) → RateLimits r → AllBytes (write_rate r)
unfolding write_rate
rate-written r h = all_cons h.driven (value_written r.rate h.rate)

switch-taken : Takes read_switch (Is write_switch SwitchLimits)
unfolding read_switch write_switch
switch-taken =
    takes-then byte _ takes-byte (λ l h. takes-guard (leb 1 l) _ (λ g. takes-then byte _ takes-byte (λ m i. takes-last (bytes (l - 1)) _ (takes-bytes (l - 1)) (λ t k.
    let n = leb-true 1 l g in
    let c = k.count in
    let e : l ≡ suc (length t) = omega arith in
    record { written = ap (λ l. l ∷ m ∷ t) e; fits = record { target = i; truth = k.each; length_byte = omega arith } }))))

switch_back : (w : Switch) → SwitchLimits w → Reads read_switch (write_switch w) w
unfolding read_switch write_switch
switch_back w h =
    let l = suc (length w.truth) in
    reads_then byte _ (reads_byte l) (reads-guard _ (le-leb 1 l (omega arith))
    (reads_then byte _ (reads_byte w.target) (reads-last (bytes (l - 1)) _ (reads-stretch (l - 1) w.truth (omega arith)))))

switch-written : (w : Switch) → SwitchLimits w → AllBytes (write_switch w)
unfolding write_switch
switch-written w h = all_cons h.length_byte (all_cons h.target h.truth)

mode-taken : Takes read_mode (Is write_mode ModeLimits)
unfolding read_mode write_mode
mode-taken =
    takes-then byte _ takes-byte (λ n h. takes-then (times n read_rate) _ (takes-times n read_rate rate-taken) (λ rs p.
    takes-then byte _ takes-byte (λ k i. takes-last (times k read_switch) _ (takes-times k read_switch switch-taken) (λ ss q. record {
      written = rw (p.count, q.count) refl;
      fits = record { rate_count = rw p.count h; rates = p.each; switch_count = rw q.count i; switches = q.each };
    }))))

mode-back : (m : Mode) → ModeLimits m → Reads read_mode (write_mode m) m
unfolding read_mode write_mode
mode-back m h =
    reads_then byte _ (reads_byte (length m.rates)) (reads_then (times (length m.rates) read_rate) _ (reads_times read_rate write_rate rate-back h.rates)
    (reads_then byte _ (reads_byte (length m.switches)) (reads-last (times (length m.switches) read_switch) _ (reads_times read_switch write_switch switch_back h.switches))))

mode-written : (m : Mode) → ModeLimits m → AllBytes (write_mode m)
unfolding write_mode
mode-written m h =
    all_cons h.rate_count (all_append (all-flat write_rate (all_map rate-written h.rates)) (all_cons h.switch_count (all-flat write_switch (all_map switch-written h.switches))))

-- ---- equations
kind-taken : Takes read_equation_body (Is equation_bytes PayloadLimits)
unfolding read_equation_body read_steady read_choice equation_bytes
kind-taken = takes-then byte _ takes-byte (λ k h. by_cases (eqb k 1)
    (λ e. rw (e, cond) (takes-last read_rate steady rate-taken (λ r i. record { written = ap (λ k. k ∷ write_rate r) (eqb-true k 1 e); fits = steady_within i })))
    (λ e. rw (e, cond) (by_cases (eqb k 2)
    (λ f. rw (f, cond) (takes-then byte _ takes-byte (λ a i. takes-then byte _ takes-byte (λ n j. takes-guard (within 1 8 n) _ (λ g.
    takes-last (times n read_mode) _ (takes-times n read_mode mode-taken) (λ ms p. record {
      written = rw p.count (ap (λ k. k ∷ a ∷ n ∷ flat_map write_mode ms) (eqb-true k 2 f));
      fits = choice_within (record { initial = i; at_least = rw p.count (within_low 1 8 n g); at_most = rw p.count (within-high 1 8 n g); modes = p.each });
    }))))))
    (λ f. rw (f, cond) takes-fail))))

kind-back : (e : Equation) → PayloadLimits e → Reads read_equation_body (equation_bytes e) e
unfolding read_equation_body read_steady read_choice equation_bytes
kind-back (steady r) (steady_within h) = reads_then byte _ (reads_byte 1) (reads-last read_rate steady (rate-back r h))
kind-back (choice c) (choice_within h) =
    let n = length c.modes in
    reads_then byte _ (reads_byte 2) (reads_then byte _ (reads_byte c.initial) (reads_then byte _ (reads_byte n)
    (reads-guard _ (within_both 1 8 n h.at_least h.at_most) (reads-last (times n read_mode) _ (reads_times read_mode write_mode mode-back h.modes)))))

payload-written : (e : Equation) → PayloadLimits e → AllBytes (equation_bytes e)
unfolding equation_bytes
payload-written (steady r) (steady_within h) = all_cons (lit< tt) (rate-written r h)
payload-written (choice c) (choice_within h) =
    let k = h.at_most in
    all_cons (lit< tt) (all_cons h.initial (all_cons {x = length c.modes} (omega arith) (all-flat write_mode (all_map mode-written h.modes))))

equation-taken : Takes read_equation (Is write_equation EquationLimits)
unfolding read_equation equation_in_bytes write_equation
equation-taken = takes-from section2 equation_in_bytes takes-section2 (λ b e h k.
    let i = whole_takes kind-taken b h.each k in
    record { written = ap in_section2 i.written; fits = record { payload = i.fits; record_length = rw (← i.written) h.short } })

equation-back : (e : Equation) → EquationLimits e → Reads read_equation (write_equation e) e
unfolding read_equation equation_in_bytes write_equation
equation-back e h = reads-nothing-more section2 _ (reads-section2 (equation_bytes e)) (reads-from (whole-reads read_equation_body (kind-back e h.payload)))

equation-written : (e : Equation) → EquationLimits e → AllBytes (write_equation e)
unfolding write_equation
equation-written e h = section2-written (equation_bytes e) h.record_length (payload-written e h.payload)

equations-form : Exact read_equations write_equations EquationsLimits
unfolding read_equations write_equations
equations-form = record {
  taken = takes-as (λ es w i. record { written = i.written; fits = record { at_most = within-high 0 16 (length es) i.fits.tested; each = i.fits.each } })
      (takes-counted byte (within 0 16) read_equation takes-byte equation-taken);
  back = λ es h. reads-counted byte (within 0 16) read_equation reads_byte equation-back (within_both 0 16 (length es) (omega arith) h.at_most) h.each;
  in_bytes = λ es h. (let k = h.at_most in all_cons {x = length es} (omega arith) (all-flat write_equation (all_map equation-written h.each)));
}

pub equations-bytes : (s : List ℕ) (es : List Equation) → (AllBytes s × (equations_in s ≡ some es)) ↔ ((s ≡ write_equations es) × EquationsLimits es)
unfolding equations_in
equations-bytes = exact equations-form

-- Events that correspond are those that say the same, a pick by the other number.
use mathlib.Core.Path.{◌≡◌, refl, sym, ap, subst, ◌∙◌}
use mathlib.Core.List.{List}
use mathlib.Core.Logic.{◌↔◌}
use Prim.Native.Nat.{ℕ}
use Rattle.semantics.specs.Editions.{Edition}
use Rattle.semantics.specs.Events.{Event, senseless, event_in}
use Rattle.semantics.specs.Renumbering.{renumbered, Corresponding, SaysNothing, SameEvent, both_tick, both_pick, both_switch, both_senseless}
use Rattle.semantics.proofs.EventDecoding.{decoded-tick, decoded-pick, decoded-switch, Said, says_tick, says_pick, says_switch, says_nothing, said_of}

module _ (ed : Edition) (number : ℕ → ℕ) where
  nothing-decoded : {e : List ℕ} → SaysNothing ed e → event_in ed e ≡ senseless
  nothing-decoded {e} n = go (said_of ed e) refl
    where
      go : {m : Event} → Said ed e m → event_in ed e ≡ m → event_in ed e ≡ senseless
      go (says_tick s) i = absurd (n.no_tick s)
      go (says_pick {n = k} s) i = absurd (n.no_pick k s)
      go (says_switch {s = j} {k = k} s) i = absurd (n.no_switch j k s)
      go (says_nothing a b c) i = i

  same-corresponds : {e f : List ℕ} → SameEvent ed number e f → Corresponding ed number e f
  unfolding renumbered
  same-corresponds (both_tick s t) = decoded-tick ed t ∙ sym (ap (renumbered number) (decoded-tick ed s))
  same-corresponds (both_pick s t) = decoded-pick ed t ∙ sym (ap (renumbered number) (decoded-pick ed s))
  same-corresponds (both_switch s t) = decoded-switch ed t ∙ sym (ap (renumbered number) (decoded-switch ed s))
  same-corresponds (both_senseless s t) = nothing-decoded t ∙ sym (ap (renumbered number) (nothing-decoded s))

  said-alike : {e f : List ℕ} {m : Event} → Said ed e m → Said ed f (renumbered number m) → SameEvent ed number e f
  unfolding renumbered
  said-alike (says_tick s) (says_tick t) = both_tick s t
  said-alike (says_pick s) (says_pick t) = both_pick s t
  said-alike (says_switch s) (says_switch t) = both_switch s t
  said-alike (says_nothing a b c) (says_nothing i j k) = both_senseless (record { no_tick = a; no_pick = b; no_switch = c }) (record { no_tick = i; no_pick = j; no_switch = k })

  pub same-event : (e f : List ℕ) → SameEvent ed number e f ↔ Corresponding ed number e f
  same-event e f = (λ h. same-corresponds h, λ h. said-alike (said_of ed e) (subst (Said ed f) h (said_of ed f)))

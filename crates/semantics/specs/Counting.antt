-- Document 01, "Run by the rules": "taken (200..202), turned away (23..31) and faulted (203), .. each the number of the run's events with such an answer".
-- Document 02, item 2, of 203 and 204: "Both count as faulted."
use Rattle.std.specs.Prelude.{◌≡◌, List, [], ◌∷◌, ℕ, suc, ◌≤◌}

-- answers, and how many of them are of each kind; an answer of none of the three kinds is counted by no rule
pub data Counted : List ℕ → ℕ → ℕ → ℕ → Type 0 where
  no_answer : Counted [] 0 0 0
  one_taken : {a taken away faulted : ℕ} {l : List ℕ} → 200 ≤ a → a ≤ 202 → Counted l taken away faulted → Counted (a ∷ l) (suc taken) away faulted
  one_away : {a taken away faulted : ℕ} {l : List ℕ} → 23 ≤ a → a ≤ 31 → Counted l taken away faulted → Counted (a ∷ l) taken (suc away) faulted
  one_above : {a taken away faulted : ℕ} {l : List ℕ} → a ≡ 203 → Counted l taken away faulted → Counted (a ∷ l) taken away (suc faulted)
  one_below : {a taken away faulted : ℕ} {l : List ℕ} → a ≡ 204 → Counted l taken away faulted → Counted (a ∷ l) taken away (suc faulted)

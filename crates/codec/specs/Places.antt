-- Where the values stand that a reader takes one after the other.
use Rattle.std.specs.Prelude.{List, [], ◌∷◌, ℕ, zero, suc, ◌-◌, length}
use Rattle.semantics.specs.Bytes.{Reader, broken, read}

-- the places of n values, where the list is what is left of so many bytes
unfoldable pub places_from : {A : Type 0} → ℕ → Reader A → ℕ → List ℕ → List ℕ
places_from total r zero s = []
places_from total r (suc n) s = elim (r s) [ broken ↦ [] | read a rest ↦ (total - length s) ∷ places_from total r n rest ]

-- Conditions 20 to 22: the judged start of a run in the code's arrays.
use Rattle.std.specs.Prelude.{List, ℕ, ℤ, pos, length, take}
use Rattle.semantics.specs.Sections.{variable_limit, equation_limit}
use Rattle.semantics.specs.Plant.{Plant, selectors}
use Rattle.semantics.specs.Starts.{Start}
use Rattle.codec.specs.Padding.{pad}
use Rattle.start_read.specs.declared.admission.Admitted.{Admitted}

-- what the code has of a start that is admitted
unfoldable pub admitted : Start → Admitted
admitted st = record { values = pad variable_limit (pos 0) st.values; modes = pad equation_limit 0 st.modes }

-- the values and modes that are admitted, of this plant
abbrev pub values_for : Plant → Admitted → List ℤ
values_for p a = take (length p.variables) a.values

abbrev pub modes_for : Plant → Admitted → List ℕ
modes_for p a = take (length (selectors p)) a.modes

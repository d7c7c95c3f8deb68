use mathlib.Core.Path.{ap, ◌∙◌}
use Rattle.std.proofs.Common.{rules}
use lib.Seq.{sets}
use Rattle.program.proofs.Stores.{map_same}
use Rattle.program.proofs.fill.put_kinds.Goals as goal

pub returns : goal.returns
returns c = c.put_row.ensures (λ k. k) (λ x r p. search rules) ∙ ap (sets c.args.ix.now 256) (map_same c.args.from.now)

-- The sum modulo 2^32 of the product modulo 2^32 is the sum of both modulo 2^32.
use Rattle.semantics.specs.Practice.{next_seed}
use Rattle.std.proofs.Common.{rules}
use Rattle.practice.proofs.generator.Generator.draw.Goals as goal

pub returns : goal.returns
unfolding next_seed
returns c = search rules

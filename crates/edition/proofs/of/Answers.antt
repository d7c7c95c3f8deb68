use Rattle.std.proofs.Common.{sym}
use Rattle.semantics.proofs.EditionBytes.{edition-none, edition-first, edition-second}
use Rattle.edition.proofs.of.Goals as goal

pub returns-then-bytes-eq0 : goal.returns-then-bytes-eq0
returns-then-bytes-eq0 c = sym (edition-none _ c.if-bytes-eq0.true)

pub returns-then-bytes-eq-SECOND_VERSION : goal.returns-then-bytes-eq-SECOND_VERSION
returns-then-bytes-eq-SECOND_VERSION c = sym (edition-second _ c.if-bytes-eq-SECOND_VERSION.true)

pub returns : goal.returns
returns c = sym (edition-first _ c.if-bytes-eq-SECOND_VERSION.false)

-- Each return by its law of Fronts.
use Rattle.std.proofs.Common.{arith}
use Rattle.output.proofs.Fronts.{none-taken, records-are}
use Rattle.output.proofs.records_length.Goals as goal

pub returns-then-events-bytes : goal.returns-then-events-bytes
returns-then-events-bytes c = none-taken _ _ _ _ c.event_bytes-bytes.ensures c.then-events-bytes.either

pub returns : goal.returns
returns c = records-are _ _ _ _ c.event_bytes-bytes.ensures (omega arith) (omega arith) (omega arith) c.record_length.ensures

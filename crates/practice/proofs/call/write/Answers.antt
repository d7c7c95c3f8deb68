-- One law for each return.
use Rattle.std.proofs.Common.{arith}
use Rattle.codec.proofs.Writing.{wrote-front}
use Rattle.practice.proofs.Returns.{too_many, too_short, taken}
use Rattle.practice.proofs.call.write.Goals as goal

pub returns-then-count-gt-MOST_EVENTS : goal.returns-then-count-gt-MOST_EVENTS
returns-then-count-gt-MOST_EVENTS c = let d = c.args.events.now in too_many c.args.seed c.args.count d (omega arith)

pub returns-then-events-n : goal.returns-then-events-n
returns-then-events-n c = let d = c.args.events.now in too_short c.args.seed c.args.count d (omega arith) (omega arith)

pub returns : goal.returns
returns c = let p = c.put_list.ensures in
    taken c.args.seed c.args.count c.args.events.now (omega arith) (omega arith) p.0 (wrote-front p.1)

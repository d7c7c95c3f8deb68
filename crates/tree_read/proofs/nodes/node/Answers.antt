-- One law of NodeForms for each return: four that no node is read, and `has-payload`.
use mathlib.Core.Path.{sym, ◌∙◌}
use native.Mathlib.Omega.{arith}
use Rattle.tree_read.proofs.NodeForms.{past_end, too_short, too_long, cut_off, has-payload, found_is}
use Rattle.tree_read.proofs.nodes.node.Goals as goal

pub returns-then-s-at : goal.returns-then-s-at
returns-then-s-at c = past_end _ c.args.s.now c.args.at (omega arith)

pub returns-then-l-lt1 : goal.returns-then-l-lt1
returns-then-l-lt1 c = too_short _ c.args.s.now c.args.at (omega arith) (omega arith)

pub returns-then-l-gt-NODE_BYTES : goal.returns-then-l-gt-NODE_BYTES
returns-then-l-gt-NODE_BYTES c = too_long _ c.args.s.now c.args.at (omega arith) (omega arith)

pub returns-then-s-at-2 : goal.returns-then-s-at-2
returns-then-s-at-2 c = cut_off _ c.args.s.now c.args.at (omega arith) (omega arith) (omega arith) (omega arith)

pub returns-then-not-payload : goal.returns-then-not-payload
returns-then-not-payload c = sym c.if-not-payload.true ∙ has-payload _ c.args.s.now c.args.at (omega arith) (omega arith) (omega arith) (omega arith) c.width-w.ensures c.number-l.ensures c.payload.ensures

pub returns : goal.returns
returns c = (
  sym c.if-not-payload.false ∙ has-payload _ c.args.s.now c.args.at (omega arith) (omega arith) (omega arith) (omega arith) c.width-w.ensures c.number-l.ensures c.payload.ensures,
  found_is _ c.args.s.now c.args.at c.width-w.ensures c.number-l.ensures,
)

-- How long the action of a node is in a table, against the node in the file.
use mathlib.Core.Path.{◌≡◌, refl}
use mathlib.Core.List.{◌++◌}
use Prim.Native.Nat.{ℕ, ◌+◌}
use native.Mathlib.Omega.{arith}
use lib.ListN.{length, length-append}
use Rattle.semantics.specs.Bytes.{width_of, out}
use Rattle.semantics.specs.Editions.{Edition, edition1}
use Rattle.semantics.specs.Run.{Action}
use Rattle.semantics.specs.TableFile.{action_bytes, kind_number, operand_bytes, write_action}
use Rattle.semantics.proofs.WrittenTables.{out-length}
use Rattle.schedules.specs.Nodes.{Node}
use Rattle.schedules.specs.Doing.{Does, while_tests, if_tests, continue_waits, reset_assigns, reinitial_assigns, switch_switches, stop_stops}
use Rattle.schedules.specs.Writing.{node_bytes, write_node}

-- kind and operand are as long as kind and payload
as_long : {x : Node} {a : Action} → Does x a → length (action_bytes a) ≡ length (node_bytes x)
unfolding action_bytes kind_number operand_bytes node_bytes
as_long while_tests = refl
as_long if_tests = refl
as_long continue_waits = refl
as_long reset_assigns = refl
as_long reinitial_assigns = refl
as_long switch_switches = refl
as_long stop_stops = refl

-- the node's number is what comes on top
pub action-length : (ed : Edition) (x : Node) (n : ℕ) (a : Action) → Does x a → length (write_action ed (record { node = n; action = a })) ≡ width_of ed.width + length (write_node ed x)
unfolding write_action write_node
action-length ed x n a d =
    let w = ed.width in
    let l = width_of w + length (action_bytes a) in
    let p = length-append (out w l) (out w n ++ action_bytes a) in
    let q = length-append (out w n) (action_bytes a) in
    let r = length-append (out w (length (node_bytes x))) (node_bytes x) in
    let i = out-length w l in
    let j = out-length w n in
    let k = out-length w (length (node_bytes x)) in
    let e = as_long d in
    omega arith

pub action-one-more : (x : Node) (n : ℕ) (a : Action) → Does x a → length (write_action edition1 (record { node = n; action = a })) ≡ 1 + length (write_node edition1 x)
unfolding width_of
action-one-more x n a d = let h = action-length edition1 x n a d in omega arith

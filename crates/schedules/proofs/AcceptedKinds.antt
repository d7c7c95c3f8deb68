-- Papers of document 02, item 3: which RESETs and REINITIALs reading takes, and which number the others get.
use mathlib.Core.Path.{◌≡◌, refl}
use mathlib.Core.List.{List, [], ◌∷◌}
use Prim.Native.Nat.{ℕ}
use lib.ListN.{take, drop}
use Rattle.semantics.specs.Editions.{edition1}
use Rattle.semantics.specs.K1.{k1_file}
use Rattle.schedules.specs.Nodes.{Node, sequence, parallel, while_do, if_else, continue_until, reset, reinitial, stop_all}
use Rattle.schedules.specs.Writing.{write_file}
use Rattle.schedules.specs.Exchanged.{exchanged_at, OneByte}
use Rattle.schedules.specs.AssignmentExamples.{k1_reset_file, k1_plant, k1_nodes, planned, steadily, mode, rate, case_of, switch_on, resets, reinitials, number0, truth0, told, Kinds, Around}
use Rattle.schedules.proofs.Computes.{schedules}

-- ---- "In K1 node 1 therefore becomes kind 7"
pub K1-kind-6 : told k1_reset_file ≡ 34
unfolding schedules k1_reset_file
K1-kind-6 = refl

pub K1-kind-7 : told k1_file ≡ 0
unfolding schedules k1_file
K1-kind-7 = refl

pub K1-one-byte : OneByte 6 7 k1_reset_file k1_file
unfolding k1_file k1_reset_file
K1-one-byte = record { front = take 36 k1_file; behind = drop 37 k1_file; file_is = refl; other_is = refl }

-- K1 as document 01 prints it is the same schedule with kinds 6 and 7 of node 1 exchanged, and the other way round
pub K1-exchanged : (k1_reset_file ≡ write_file edition1 k1_plant (exchanged_at 1 k1_nodes)) × (k1_file ≡ write_file edition1 k1_plant (exchanged_at 1 (exchanged_at 1 k1_nodes)))
unfolding schedules k1_file k1_reset_file
K1-exchanged = (refl, refl)

-- ---- "RESET belongs to variables that no equation drives, REINITIAL to driven ones."
pub kind-1-drives : Kinds (steadily 0 1 ∷ []) 34 0
unfolding schedules
kind-1-drives = record { a_reset = refl; a_reinitial = refl }

pub no-equation : Kinds [] 0 34
unfolding schedules
no-equation = record { a_reset = refl; a_reinitial = refl }

pub other-variable : Kinds (steadily 1 1 ∷ steadily 2 1 ∷ []) 0 34
unfolding schedules
other-variable = record { a_reset = refl; a_reinitial = refl }

pub last-equation : Kinds (steadily 1 1 ∷ case_of 0 (mode (rate 2 1 ∷ []) [] ∷ []) ∷ steadily 0 1 ∷ []) 34 0
unfolding schedules
last-equation = record { a_reset = refl; a_reinitial = refl }

-- ---- a rate in any mode of a CASE, the initial one or not; rate 0 drives, too
pub other-mode : Kinds (case_of 0 (mode [] [] ∷ mode (rate 0 1 ∷ []) [] ∷ []) ∷ []) 34 0
unfolding schedules
other-mode = record { a_reset = refl; a_reinitial = refl }

pub initial-mode : Kinds (case_of 0 (mode (rate 0 1 ∷ []) [] ∷ mode [] [] ∷ []) ∷ []) 34 0
unfolding schedules
initial-mode = record { a_reset = refl; a_reinitial = refl }

pub mode-before-initial : Kinds (case_of 1 (mode (rate 1 1 ∷ rate 0 1 ∷ []) [] ∷ mode (rate 1 1 ∷ []) [] ∷ []) ∷ []) 34 0
unfolding schedules
mode-before-initial = record { a_reset = refl; a_reinitial = refl }

pub second-case : Kinds (case_of 0 (mode (rate 1 1 ∷ []) [] ∷ []) ∷ case_of 0 (mode [] [] ∷ mode (rate 0 1 ∷ []) [] ∷ []) ∷ []) 34 0
unfolding schedules
second-case = record { a_reset = refl; a_reinitial = refl }

pub rate-0 : Kinds (steadily 0 0 ∷ []) 34 0
unfolding schedules
rate-0 = record { a_reset = refl; a_reinitial = refl }

pub rate-0-in-a-mode : Kinds (case_of 0 (mode [] [] ∷ mode (rate 0 0 ∷ []) [] ∷ []) ∷ []) 34 0
unfolding schedules
rate-0-in-a-mode = record { a_reset = refl; a_reinitial = refl }

-- ---- a variable that only stands in a truth or a number is not driven
pub in-a-switch : Kinds (case_of 0 (mode (rate 1 1 ∷ []) (switch_on truth0 ∷ []) ∷ []) ∷ []) 0 34
unfolding schedules
in-a-switch = record { a_reset = refl; a_reinitial = refl }

pub in-a-truth : Around (λ es x. planned es (sequence 2 ∷ continue_until truth0 ∷ x ∷ [])) 34 0
unfolding schedules
in-a-truth = record { driven_reset = refl; driven_reinitial = refl; undriven_reset = refl; undriven_reinitial = refl }

pub in-a-number : Around (λ es x. planned es (sequence 2 ∷ x ∷ reset 1 number0 ∷ [])) 34 0
unfolding schedules
in-a-number = record { driven_reset = refl; driven_reinitial = refl; undriven_reset = refl; undriven_reinitial = refl }

-- ---- reached or not, at whatever depth, and behind nodes that keep the rule
pub after_stop : Around (λ es x. planned es (sequence 2 ∷ stop_all ∷ x ∷ [])) 34 0
unfolding schedules
after_stop = record { driven_reset = refl; driven_reinitial = refl; undriven_reset = refl; undriven_reinitial = refl }

pub inside : Around (λ es x. planned es (parallel 2 ∷ while_do truth0 ∷ if_else truth0 ∷ x ∷ stop_all ∷ stop_all ∷ [])) 34 0
unfolding schedules
inside = record { driven_reset = refl; driven_reinitial = refl; undriven_reset = refl; undriven_reinitial = refl }

pub last-of-many : Around (λ es x. planned (steadily 1 1 ∷ es) (sequence 4 ∷ reinitials 1 ∷ resets 2 ∷ reinitials 1 ∷ x ∷ [])) 34 0
unfolding schedules
last-of-many = record { driven_reset = refl; driven_reinitial = refl; undriven_reset = refl; undriven_reinitial = refl }

pub first-of-many : Around (λ es x. planned (steadily 1 1 ∷ es) (sequence 3 ∷ x ∷ resets 2 ∷ reinitials 1 ∷ [])) 34 0
unfolding schedules
first-of-many = record { driven_reset = refl; driven_reinitial = refl; undriven_reset = refl; undriven_reinitial = refl }

-- ---- two nodes that break it: of both kinds in either order, of one kind
pub two-break : (let file : Node → Node → List ℕ = λ x y. planned (steadily 1 1 ∷ []) (sequence 2 ∷ x ∷ y ∷ []) in
    (told (file (reinitials 0) (resets 1)) ≡ 34) × (told (file (resets 1) (reinitials 0)) ≡ 34)
    × (told (file (resets 1) (resets 1)) ≡ 34) × (told (file (reinitials 0) (reinitials 2)) ≡ 34))
unfolding schedules
two-break = (refl, refl, refl, refl)

-- ---- "directly after 11": 10 and 11 of any node come first, whichever stands in front
pub no-tree : Around (λ es x. planned es (x ∷ stop_all ∷ [])) 10 10
unfolding schedules
no-tree = record { driven_reset = refl; driven_reinitial = refl; undriven_reset = refl; undriven_reinitial = refl }

pub missing-behind : Around (λ es x. planned es (sequence 2 ∷ x ∷ resets 3 ∷ [])) 11 11
unfolding schedules
missing-behind = record { driven_reset = refl; driven_reinitial = refl; undriven_reset = refl; undriven_reinitial = refl }

pub missing-before : Around (λ es x. planned es (sequence 2 ∷ resets 3 ∷ x ∷ [])) 11 11
unfolding schedules
missing-before = record { driven_reset = refl; driven_reinitial = refl; undriven_reset = refl; undriven_reinitial = refl }

pub missing-itself : (told (planned [] (reinitials 3 ∷ [])) ≡ 11) × (told (planned (steadily 0 1 ∷ []) (reinitials 3 ∷ [])) ≡ 11) × (told (planned [] (resets 3 ∷ [])) ≡ 11)
unfolding schedules
missing-itself = (refl, refl, refl)

-- ---- and 12 of anything comes after: of a node in front or behind, of the node itself, of a switch; these bytes are no truth and no number
pub unread-before : Around (λ es x. planned es (sequence 2 ∷ continue_until [] ∷ x ∷ [])) 34 12
unfolding schedules
unread-before = record { driven_reset = refl; driven_reinitial = refl; undriven_reset = refl; undriven_reinitial = refl }

pub unread-behind : Around (λ es x. planned es (sequence 2 ∷ x ∷ reset 1 [] ∷ [])) 34 12
unfolding schedules
unread-behind = record { driven_reset = refl; driven_reinitial = refl; undriven_reset = refl; undriven_reinitial = refl }

pub unread-switch : Around (λ es x. planned (case_of 0 (mode [] (switch_on [] ∷ []) ∷ []) ∷ es) (x ∷ [])) 34 12
unfolding schedules
unread-switch = record { driven_reset = refl; driven_reinitial = refl; undriven_reset = refl; undriven_reinitial = refl }

pub unread-itself : (told (planned (steadily 0 1 ∷ []) (reset 0 [] ∷ [])) ≡ 34) × (told (planned (steadily 0 1 ∷ []) (reinitial 0 [] ∷ [])) ≡ 12)
    × (told (planned [] (reset 0 [] ∷ [])) ≡ 12) × (told (planned [] (reinitial 0 [] ∷ [])) ≡ 34)
unfolding schedules
unread-itself = (refl, refl, refl, refl)

-- Document 01, "When a file, table or event is turned away": what 5, 7, 8, 11 and 12, and 17 to 19, ask of what was read, as relations;
-- and when a variable is driven, for 34 of document 02, item 3.
use Rattle.std.specs.Prelude.{◌≡◌, true, ◌⊎◌, ℕ, ◌≤◌, ◌<◌, length, ℤ}
use mathlib.Core.List.{List, [], ◌∷◌, map, Memᴰ as Mem}
use Rattle.std.proofs.Math.Option.{some}
use Rattle.std.proofs.Math.ListN.{get_elem?}
use Rattle.semantics.specs.Bytes.{All}
use Rattle.semantics.specs.Editions.{Edition}
use Rattle.semantics.specs.Expressions.{Number, constant, variable, operate, negation, Truth, compare, connect, opposite, always, Operation, Comparison, Connective, number_bytes}
use Rattle.semantics.specs.Expressions.{truth_bytes, number_depth, truth_depth, fits32}
use Rattle.semantics.specs.Sections.{Variable, Rate, Switch, Mode, Selector, Equation, steady, choice}
use Rattle.semantics.specs.Plant.{Plant, selectors}
use Rattle.semantics.specs.Run.{Action, test, wait, assign, switch, stop}
use Rattle.semantics.specs.TableFile.{NodeAction, Entry}
use Rattle.semantics.specs.Tables.{Table, action_nodes, entry_nodes}
use Rattle.semantics.specs.Rules.{InRange}
use Rattle.semantics.specs.Writing.{HasMode, write_table, TableLimits}

-- ---- 12: these bytes are a truth or number, of depth at most 16, that names no missing variable
-- each variable that is named is one of so many; constants are "32-bit two's complement"
pub data NamesKnown (variables : ℕ) : Number → Type 0 where
  known_constant : {z : ℤ} → fits32 z ≡ true → NamesKnown variables (constant z)
  known_variable : {v : ℕ} → v < variables → NamesKnown variables (variable v)
  known_operands : {o : Operation} {a b : Number} → NamesKnown variables a → NamesKnown variables b → NamesKnown variables (operate o a b)
  known_negation : {a : Number} → NamesKnown variables a → NamesKnown variables (negation a)

pub data TruthNamesKnown (variables : ℕ) : Truth → Type 0 where
  known_numbers : {c : Comparison} {a b : Number} → NamesKnown variables a → NamesKnown variables b → TruthNamesKnown variables (compare c a b)
  known_truths : {c : Connective} {a b : Truth} → TruthNamesKnown variables a → TruthNamesKnown variables b → TruthNamesKnown variables (connect c a b)
  known_opposite : {a : Truth} → TruthNamesKnown variables a → TruthNamesKnown variables (opposite a)
  known_always : TruthNamesKnown variables always

pub record IsTruth (ed : Edition) (variables : ℕ) (s : List ℕ) : Type 0 where
  pub truth : Truth
  pub written : truth_bytes ed truth ≡ s
  pub depth : truth_depth truth ≤ 16
  pub known : TruthNamesKnown variables truth

pub record IsNumber (ed : Edition) (variables : ℕ) (s : List ℕ) : Type 0 where
  pub number : Number
  pub written : number_bytes ed number ≡ s
  pub depth : number_depth number ≤ 16
  pub known : NamesKnown variables number

-- ---- 7: "An equation names a missing variable or mode, truths left aside."
pub record NamedInMode (variables modes : ℕ) (m : Mode) : Type 0 where
  pub rates : All (λ (r : Rate). r.driven < variables) m.rates
  pub targets : All (λ (w : Switch). w.target < modes) m.switches

-- each variable and mode that it names is there
pub data Named (variables : ℕ) : Equation → Type 0 where
  named_steady : {r : Rate} → r.driven < variables → Named variables (steady r)
  named_choice : {c : Selector} → HasMode c c.initial → All (NamedInMode variables (length c.modes)) c.modes → Named variables (choice c)

-- ---- 8: "A variable is in two equations or twice in one mode."
-- no element stands twice
pub data Distinct {A : Type 0} : List A → Type 0 where
  distinct_nil : Distinct []
  distinct_cons : {x : A} {l : List A} → (Mem x l → ⊥) → Distinct l → Distinct (x ∷ l)

pub data OnceInModes : Equation → Type 0 where
  once_steady : {r : Rate} → OnceInModes (steady r)
  once_choice : {c : Selector} → All (λ (m : Mode). Distinct (map (λ (r : Rate). r.driven) m.rates)) c.modes → OnceInModes (choice c)

-- a variable is in an equation: it has the rate of its own, or a rate in one of the CASE's modes
pub data Drives : Equation → ℕ → Type 0 where
  drives_always : {r : Rate} {n : ℕ} → r.driven ≡ n → Drives (steady r) n
  drives_in_mode : {c : Selector} {m : Mode} {r : Rate} {n : ℕ} → Mem m c.modes → Mem r m.rates → r.driven ≡ n → Drives (choice c) n

-- none in two equations
pub data Apart : List Equation → Type 0 where
  apart_nil : Apart []
  apart_cons : {e : Equation} {es : List Equation} → ((f : Equation) (n : ℕ) → Mem f es → Drives f n → Drives e n → ⊥) → Apart es → Apart (e ∷ es)

pub record DrivenOnce (es : List Equation) : Type 0 where
  pub in_modes : All OnceInModes es
  pub apart : Apart es

-- ---- document 02, item 3: some equation drives it
pub record Driven (es : List Equation) (v : ℕ) : Type 0 where
  pub equation : Equation
  pub listed : Mem equation es
  pub names : Drives equation v

-- ---- 12 of the switches
abbrev pub TruthsInMode : Edition → ℕ → Mode → Type 0
TruthsInMode ed variables m = All (λ (w : Switch). IsTruth ed variables w.truth) m.switches

pub data Truths (ed : Edition) (variables : ℕ) : Equation → Type 0 where
  truths_steady : {r : Rate} → Truths ed variables (steady r)
  truths_choice : {c : Selector} → All (TruthsInMode ed variables) c.modes → Truths ed variables (choice c)

-- ---- 5, 7, 8 and 12
pub record ProperPlant (ed : Edition) (p : Plant) : Type 0 where
  -- "Minimum ≤ initial ≤ maximum"
  pub initial : All (λ (x : Variable). InRange x x.initial) p.variables
  pub named : All (Named (length p.variables)) p.equations
  pub once : DrivenOnce p.equations
  pub truths : All (Truths ed (length p.variables)) p.equations

-- ---- 11 and 12 of a node or an action
-- a selector and a mode of it that exist
pub record ModeThere (cs : List Selector) (s m : ℕ) : Type 0 where
  pub selector : Selector
  pub there : get_elem? cs s ≡ some selector
  pub mode : HasMode selector m

pub data ProperAction (ed : Edition) (p : Plant) : Action → Type 0 where
  proper_test : {t : List ℕ} → IsTruth ed (length p.variables) t → ProperAction ed p (test t)
  proper_wait : {t : List ℕ} → IsTruth ed (length p.variables) t → ProperAction ed p (wait t)
  proper_assign : {v : ℕ} {e : List ℕ} → v < length p.variables → IsNumber ed (length p.variables) e → ProperAction ed p (assign v e)
  proper_switch : {s m : ℕ} → ModeThere (selectors p) s m → ProperAction ed p (switch s m)
  proper_stop : ProperAction ed p stop

-- ---- 18 and 19
-- each greater than the one before it
pub data Rising : List ℕ → Type 0 where
  rising_nil : Rising []
  rising_one : {n : ℕ} → Rising (n ∷ [])
  rising_more : {m n : ℕ} {l : List ℕ} → m < n → Rising (n ∷ l) → Rising (m ∷ n ∷ l)

-- "a location or FFFE"
abbrev pub GoesOn : ℕ → ℕ → Type 0
GoesOn locations t = (t < locations) ⊎ (t ≡ 0xfffe)

-- "Fit targets: tests take two, each a location or FFFE; stop has FFFD, FFFF; others a location or FFFE, then FFFF."
pub data FitTargets (locations : ℕ) : Action → ℕ → ℕ → Type 0 where
  fit_test : {c : List ℕ} {t u : ℕ} → GoesOn locations t → GoesOn locations u → FitTargets locations (test c) t u
  fit_wait : {c : List ℕ} {t u : ℕ} → GoesOn locations t → u ≡ 0xffff → FitTargets locations (wait c) t u
  fit_assign : {v : ℕ} {e : List ℕ} {t u : ℕ} → GoesOn locations t → u ≡ 0xffff → FitTargets locations (assign v e) t u
  fit_switch : {s m t u : ℕ} → GoesOn locations t → u ≡ 0xffff → FitTargets locations (switch s m) t u
  fit_stop : {t u : ℕ} → t ≡ 0xfffd → u ≡ 0xffff → FitTargets locations stop t u

-- its node is known, and its targets fit that node's action
pub record ProperEntry (acts : List NodeAction) (locations : ℕ) (e : Entry) : Type 0 where
  pub action : Action
  pub listed : Mem (record { node = e.node; action = action }) acts
  pub targets : FitTargets locations action e.target e.other

pub record ProperRow (acts : List NodeAction) (locations : ℕ) (es : List Entry) : Type 0 where
  pub rising : Rising (entry_nodes es)
  pub entries : All (ProperEntry acts locations) es

-- 18: "a node number above 63 or not rising, .. or operand wrong (.. 11 and 12 judge operands)"
pub record ProperActions (ed : Edition) (p : Plant) (l : List NodeAction) : Type 0 where
  pub rising : Rising (action_nodes l)
  pub nodes : All (λ (a : NodeAction). a.node < ed.nodes) l
  pub operands : All (λ (a : NodeAction). ProperAction ed p a.action) l

-- 19: "a node unknown or not rising, a target unfit for its kind"
abbrev pub ProperLocations : List NodeAction → List (List Entry) → Type 0
ProperLocations acts l = All (ProperRow acts (length l)) l

pub record ProperTable (ed : Edition) (t : Table) : Type 0 where
  pub plant : ProperPlant ed t.plant
  pub actions : ProperActions ed t.plant t.actions
  pub locations : ProperLocations t.actions t.locations

-- what an accepted table is: the written form of its parts, within the printed limits
pub record TableWritten (ed : Edition) (table : List ℕ) (t : Table) : Type 0 where
  pub bytes : table ≡ write_table ed t
  pub limits : TableLimits ed t
  pub proper : ProperTable ed t

-- What firings depend on and what they change, in the game with groups of loads.
use Rattle.std.proofs.Common.{◌≡◌, ◌⊎◌, inl, inr, ⊎_elim, ℕ, ◌&&◌, ℤ, Bool, true, false, not, if◌then◌else◌, List, map, Option, Some, None, is_some, Ok, Err, Result, slice_get, refl, sym, ap, ◌∙◌}
use Rattle.std.specs.List.{list_all}
use Rattle.std.proofs.lemmas.Bool.{cases_Bool}
use Rattle.alias_classes.specs.Classes.{ClassTable}
use Rattle.op_table.specs.declared.Trap.{Trap as Kind_of_trap}
use Rattle.firing.specs.declared.system.NodeName.{NodeName}
use Rattle.firing.specs.declared.system.NodeName.TheVariants.{Act, Merge, Switch, Op}
use Rattle.firing.specs.Footprints.{HasFootprints}
use Rattle.list_laws.specs.Member.{Member}
use Rattle.net_board.specs.Footprints.{Line, Left, Word, Count, StepOf, Taken, Trap}
use Rattle.net_board.specs.ProgramFacts.{ProgramFacts}
use Rattle.net_board.proofs.ListPlaces.{all_pass, put, same_tests, with_all_other, with_all_same}
use Rattle.op_board.specs.Effects.{Effect, gives}
use Rattle.op_board.specs.Needs.{WorkNeeds}
use Rattle.op_board.specs.Operations.{Operand, Work, Load, Operate, Store, Take, Write, Begin, Advance, DecideTruth, DecideSign, DecideNumber, DecideTrips, DecideFirst}
use Rattle.op_board.specs.OperationFootprints.{OperationPart, Token, Passed, Given, foot_as, operation_foot, part_at}
use Rattle.op_board.specs.OperationNets.{OperationNet, needed, operation_at}
use Rattle.op_board.specs.OperationTokens.{OperationTokens, fired_as, is_given, operand_in, operated, operated_on, operation_moves, performed_at, serial_as, stopped_by, value_at, zero_effect}
use Rattle.op_board.specs.SoundOperationNets.{IsOperationNet, OperationsCanCome}
use Rattle.op_board.proofs.FiringOperations.{AgreeAt, alike, operated_inside, operated_outside, same_given, same_own}
use Rattle.op_board.proofs.NeededLines.{needed_has}
use Rattle.op_board.proofs.OperationEffects.{IfPerformed, IsEffectFramed, performed_framed}
use Rattle.op_board.proofs.OperationFirings.{FiringFacts, operations_footed}
use Rattle.op_board.proofs.OperationNumbers.{IsOperationNamed}
use Rattle.op_board.proofs.ReplacedItems.{replaced_other, replaced_same}
use Rattle.fork_board.specs.LoadGroups.{is_load}
use Rattle.fork_board.specs.ForkTokens.{ForkTokens, Standing, after_load, fork_ready_as, is_open, loaded_on, read_by, standing}
use Rattle.fork_board.specs.ForkFootprints.{ForkPart, Rest, Stand, StandValue, fork_foot_as, fork_part_at, is_read, put_in, rest_at, standing_of, stand_read, stood_as, tells_line}
use Rattle.fork_board.proofs.ForkLines.{index_get}
use Rattle.fork_board.proofs.ForkNodes.{IsLoadDone, load_done, load_ready, rest_loaded, rest_same, rest_told}
use Rattle.fork_board.proofs.ForksApart.{IsReadyLoad, needed_line, ready_load}
use mathlib.Core.Path.{fun_ext}

pub both_ways : {P : Type 0} (b : Bool) → b ≡ true → b ≡ false → P
both_ways b yes' no' = let e : true ≡ false = sym yes' ∙ no' in absurd cc

pub same_stand : (a b : StandValue) → a.edge ≡ b.edge → a.passed ≡ b.passed → a.loaded ≡ b.loaded → a ≡ b
same_stand a b edge passed loaded = λ i. record { edge = edge i; passed = passed i; loaded = loaded i }

-- equal parts
pub equal_forks : ((m n : OperationTokens) → ((part : OperationPart) → part_at m part ≡ part_at n part) → m ≡ n) → (m n : ForkTokens) → ((part : ForkPart) → fork_part_at m part ≡ fork_part_at n part) → m ≡ n
equal_forks equal m n same =
    let operations = equal m.operations n.operations each in
    let loaded = fun_ext (λ line. ap (λ (v : StandValue). v.loaded) (same (Stand line))) in
    λ i. record { operations = operations i; loaded = loaded i }
  where
    each : (part : OperationPart) → part_at m.operations part ≡ part_at n.operations part
    each (Token (Line line)) = ap (λ (v : StandValue). v.edge) (same (Stand line))
    each (Token (Left node)) = same (Rest (Token (Left node)))
    each (Token (Word word)) = same (Rest (Token (Word word)))
    each (Token (Count n)) = same (Rest (Token (Count n)))
    each (Token (StepOf n)) = same (Rest (Token (StepOf n)))
    each (Token Taken) = same (Rest (Token Taken))
    each (Token Trap) = same (Rest (Token Trap))
    each (Passed line) = ap (λ (v : StandValue). v.passed) (same (Stand line))
    each (Given k) = same (Rest (Given k))

pub three_from : (a b d : Bool) → a ≡ true → b ≡ true → d ≡ true → (a && b && d) ≡ true
three_from true true d first second third = third
three_from true false d first second third = absurd cc
three_from false b d first second third = absurd cc

-- a serial node has the line of output
pub serial_foot : (x : OperationNet) (c : ClassTable) (k : ℕ) (name : NodeName) → serial_as x name ≡ true → foot_as x c k name (Token (Line 0)) ≡ true
serial_foot x c k (Op piece i) serial = serial
serial_foot x c k (Switch piece line) serial = serial
serial_foot x c k (Merge piece line) serial = serial
serial_foot x c k (Act piece) serial = absurd cc

-- a load doesn't need the line of output
pub load_needs_no_output : (c : ClassTable) (touches : ℕ → Bool) (work : Work) (operands : List Operand) → is_load work ≡ true → WorkNeeds c touches work operands 0 → ⊥
load_needs_no_output c touches (Load name subs) operands loads needs = needs
load_needs_no_output c touches (Operate op) operands loads needs = absurd cc
load_needs_no_output c touches (Store name subs) operands loads needs = absurd cc
load_needs_no_output c touches Take operands loads needs = absurd cc
load_needs_no_output c touches (Write items) operands loads needs = absurd cc
load_needs_no_output c touches (Begin loop_no var) operands loads needs = absurd cc
load_needs_no_output c touches (Advance loop_no var) operands loads needs = absurd cc
load_needs_no_output c touches DecideTruth operands loads needs = absurd cc
load_needs_no_output c touches DecideSign operands loads needs = absurd cc
load_needs_no_output c touches (DecideNumber count) operands loads needs = absurd cc
load_needs_no_output c touches (DecideTrips loop_no) operands loads needs = absurd cc
load_needs_no_output c touches DecideFirst operands loads needs = absurd cc

put_alike : {A : Type 0} (new : A) (o : Option A) → put new o ≡ put_in new o
put_alike new None = refl
put_alike new (Some old) = refl

pub seen_standing : (m : ForkTokens) (line : ℕ) → standing m line ≡ standing_of (fork_part_at m (Stand line))
seen_standing m line = ap (λ (passed : ℕ). let s : Standing = record { edge = (standing m line).edge; passed = passed; loaded = m.loaded line } in s) (index_get m.operations.passed line)

-- the part is told by the rest, and the node has it
pub rest_foot : (b mine : Bool) → (if b then false else mine) ≡ false → (b ≡ true) ⊎ (mine ≡ false)
rest_foot true mine not_in = inl refl
rest_foot false mine not_in = inr not_in

module _ (ground : ProgramFacts) (x : OperationNet) (n : IsOperationNet x) (facts : FiringFacts x n.is_net.classes) where
  -- ---- other nodes: as in a net of operations

  pub feet : HasFootprints (OperationsCanCome x) (operation_moves x) part_at (operation_foot x n.is_net.classes)
  feet = operations_footed ground x n.is_net facts

  -- ---- loads

  pub framed : (m : OperationTokens) (piece i : ℕ) → IsOperationNamed x (Op piece i) → IfPerformed (performed_at x m piece (operation_at x piece i)) (IsEffectFramed n.is_net.classes (x.needs piece i) m.tokens.memory)
  framed m piece i named =
      performed_framed x.net.program.names x.net.input n.is_net.classes (x.needs piece i) m.tokens.memory (operation_at x piece i).work (map (operand_in x m piece) (operation_at x piece i).operands) (facts.covers m piece i named.exists named.fits.2)

  pub silent_load : (piece i : ℕ) → IsOperationNamed x (Op piece i) → is_load (operation_at x piece i).work ≡ true → x.needs piece i 0 ≡ false
  silent_load piece i named loads = ⊎_elim
      (λ (needs : x.needs piece i 0 ≡ true). absurd (load_needs_no_output n.is_net.classes (x.net.touches piece) (operation_at x piece i).work (operation_at x piece i).operands loads ((n.own_needs piece i 0 named.exists named.fits.2).0 needs)))
      (λ not. not)
      (cases_Bool (x.needs piece i 0))

  -- what a load leaves

  pub load_outside : (m : ForkTokens) (k piece i : ℕ) → IsOperationNamed x (Op piece i) → (part : ForkPart) → fork_foot_as x n.is_net.classes k (Op piece i) part ≡ false → fork_part_at (loaded_on x m piece i (fired_as x m.operations k (Op piece i))) part ≡ fork_part_at m part
  load_outside m k piece i named (Stand line) not_in =
      let none : Member (needed x piece i) line → ⊥ = λ among. both_ways (x.needs piece i line) ((needed_has x piece i line among).1) not_in in
      same_stand (fork_part_at (loaded_on x m piece i (fired_as x m.operations k (Op piece i))) (Stand line)) (fork_part_at m (Stand line))
      (with_all_other m.operations.tokens.lines (needed x piece i) (λ line. (after_load x m piece i line).edge) line none)
      (replaced_other m.operations.passed (needed x piece i) (λ line. (after_load x m piece i line).passed) line none)
      (ap (λ b. if b then (after_load x m piece i line).loaded else m.loaded line) not_in)
  load_outside m k piece i named (Rest part) not_in =
      rest_loaded x m piece i (fired_as x m.operations k (Op piece i)) part
      ∙ ⊎_elim
      (λ (tells : tells_line part ≡ true). rest_told (fired_as x m.operations k (Op piece i)) m.operations part tells)
      (λ not. rest_same (fired_as x m.operations k (Op piece i)) m.operations part (operated_outside x n.is_net.classes m.operations k piece i (performed_at x m.operations piece (operation_at x piece i)) (framed m.operations piece i named) part not))
      (rest_foot (tells_line part) (foot_as x n.is_net.classes k (Op piece i) part) not_in)

  -- what it makes of what it shares

  pub load_stands : (m : ForkTokens) (k piece i line : ℕ) → IsOperationNamed x (Op piece i) → x.needs piece i line ≡ true → fork_part_at (loaded_on x m piece i (fired_as x m.operations k (Op piece i))) (Stand line) ≡ stand_read x line (Op piece i) (fork_part_at m (Stand line))
  load_stands m k piece i line named needs =
      let among : Member (needed x piece i) line = needed_line ground x n.is_net facts.touched piece i line named needs in
      same_stand (fork_part_at (loaded_on x m piece i (fired_as x m.operations k (Op piece i))) (Stand line)) (stood_as (after_load x m piece i line) (fork_part_at m (Stand line)))
      (with_all_same m.operations.tokens.lines (needed x piece i) (λ line. (after_load x m piece i line).edge) line among ∙ put_alike (after_load x m piece i line).edge (slice_get m.operations.tokens.lines line))
      (replaced_same m.operations.passed (needed x piece i) (λ line. (after_load x m piece i line).passed) line among ∙ put_alike (after_load x m piece i line).passed (slice_get m.operations.passed line))
      (ap (λ b. if b then (after_load x m piece i line).loaded else m.loaded line) needs)
      ∙ ap (λ (s : Standing). stood_as (read_by x line piece i s) (fork_part_at m (Stand line))) (seen_standing m line)

  pub load_reads : (m : ForkTokens) (k piece i : ℕ) → is_load (operation_at x piece i).work ≡ true → (part : OperationPart) → is_read part ≡ true → rest_at (loaded_on x m piece i (fired_as x m.operations k (Op piece i))).operations part ≡ rest_at m.operations part
  load_reads m k piece i loads part reads =
      let done : IsLoadDone x m.operations k piece i = load_done x m.operations k piece i loads in
      rest_loaded x m piece i (fired_as x m.operations k (Op piece i)) part
      ∙ ap (λ (after : OperationTokens). rest_at after part) done.is
      ∙ kept done.value part reads
    where
      kept : (value : ℤ) (part : OperationPart) → is_read part ≡ true → rest_at (operated_on x m.operations k piece i (operation_at x piece i) (gives m.operations.tokens.memory value)) part ≡ rest_at m.operations part
      kept value (Token (Line line)) reads = absurd cc
      kept value (Token (Left node)) reads = absurd cc
      kept value (Token (Word word)) reads = refl
      kept value (Token (Count n)) reads = refl
      kept value (Token (StepOf n)) reads = refl
      kept value (Token Taken) reads = absurd cc
      kept value (Token Trap) reads = absurd cc
      kept value (Passed line) reads = absurd cc
      kept value (Given k) reads = absurd cc

  -- the second marking, with the lines of the first one
  abbrev pub aligned : (m o : OperationTokens) → OperationTokens
  aligned m o = record { tokens = record o.tokens { lines = m.tokens.lines }; passed = m.passed; values = o.values }

  -- what doesn't tell where lines stand is the same to the node
  abbrev pub RestAlike : (m o : ForkTokens) (k : ℕ) → NodeName → Type 0
  RestAlike m o k name = (part : OperationPart) → tells_line part ≡ false → foot_as x n.is_net.classes k name part ≡ true → rest_at o.operations part ≡ rest_at m.operations part

  pub agree_aligned : (m o : ForkTokens) (k piece i : ℕ) → RestAlike m o k (Op piece i) → AgreeAt x n.is_net.classes m.operations (aligned m.operations o.operations) k piece i
  agree_aligned m o k piece i same (Token (Line line)) mine = refl
  agree_aligned m o k piece i same (Token (Left node)) mine = same (Token (Left node)) refl mine
  agree_aligned m o k piece i same (Token (Word word)) mine = same (Token (Word word)) refl mine
  agree_aligned m o k piece i same (Token (Count loop_no)) mine = same (Token (Count loop_no)) refl mine
  agree_aligned m o k piece i same (Token (StepOf loop_no)) mine = same (Token (StepOf loop_no)) refl mine
  agree_aligned m o k piece i same (Token Taken) mine = same (Token Taken) refl mine
  agree_aligned m o k piece i same (Token Trap) mine = same (Token Trap) refl mine
  agree_aligned m o k piece i same (Passed line) mine = refl
  agree_aligned m o k piece i same (Given j) mine = same (Given j) refl mine

  pub load_ready_then : (m o : ForkTokens) (k piece i : ℕ) → IsOperationNamed x (Op piece i) → is_load (operation_at x piece i).work ≡ true → RestAlike m o k (Op piece i) → ((line : ℕ) → x.needs piece i line ≡ true → is_open x line piece i (standing o line) ≡ true)
      → fork_ready_as x m k (Op piece i) ≡ true → fork_ready_as x o k (Op piece i) ≡ true
  load_ready_then m o k piece i named loads same open_there ready =
      let r : IsReadyLoad x m k piece i = ready_load x m k piece i loads ready in
      let agree = agree_aligned m o k piece i same in
      let lines : list_all (λ line. is_open x line piece i (standing o line)) (needed x piece i) ≡ true =
      same_tests (λ line. is_open x line piece i (standing o line)) (λ line. is_open x line piece i (standing m line)) (needed x piece i) (λ line among. open_there line ((needed_has x piece i line among).1) ∙ sym (all_pass (λ line. is_open x line piece i (standing m line)) (needed x piece i) line r.lines among)) ∙ r.lines in
      let given : list_all (is_given x o.operations piece) (operation_at x piece i).operands ≡ true =
      same_tests (is_given x o.operations piece) (is_given x m.operations piece) (operation_at x piece i).operands (same_given x n.is_net.classes m.operations (aligned m.operations o.operations) k piece i agree) ∙ r.given in
      let empty : not (is_some (value_at o.operations k)) ≡ true = ap (λ v. not (is_some v)) (same_own x n.is_net.classes m.operations (aligned m.operations o.operations) k piece i agree) ∙ r.empty in
      load_ready x o k piece i loads ∙ three_from (list_all (λ line. is_open x line piece i (standing o line)) (needed x piece i)) (list_all (is_given x o.operations piece) (operation_at x piece i).operands) (not (is_some (value_at o.operations k))) lines given empty

  -- lines make no difference to the rest
  on_apart : (m o : OperationTokens) (k piece i : ℕ) (effect : Effect) (part : OperationPart) → rest_at (operated_on x o k piece i (operation_at x piece i) effect) part ≡ rest_at (operated_on x (aligned m o) k piece i (operation_at x piece i) effect) part
  on_apart m o k piece i effect (Token (Line line)) = refl
  on_apart m o k piece i effect (Token (Left node)) = refl
  on_apart m o k piece i effect (Token (Word word)) = refl
  on_apart m o k piece i effect (Token (Count loop_no)) = refl
  on_apart m o k piece i effect (Token (StepOf loop_no)) = refl
  on_apart m o k piece i effect (Token Taken) = refl
  on_apart m o k piece i effect (Token Trap) = refl
  on_apart m o k piece i effect (Passed line) = refl
  on_apart m o k piece i effect (Given j) = refl

  stopped_apart : (m o : OperationTokens) (piece i : ℕ) (trap : Kind_of_trap) (part : OperationPart) → rest_at (stopped_by x o piece i (operation_at x piece i) trap) part ≡ rest_at (stopped_by x (aligned m o) piece i (operation_at x piece i) trap) part
  stopped_apart m o piece i trap (Token (Line line)) = refl
  stopped_apart m o piece i trap (Token (Left node)) = refl
  stopped_apart m o piece i trap (Token (Word word)) = refl
  stopped_apart m o piece i trap (Token (Count loop_no)) = refl
  stopped_apart m o piece i trap (Token (StepOf loop_no)) = refl
  stopped_apart m o piece i trap (Token Taken) = refl
  stopped_apart m o piece i trap (Token Trap) = refl
  stopped_apart m o piece i trap (Passed line) = refl
  stopped_apart m o piece i trap (Given j) = refl

  lines_apart : (m o : OperationTokens) (k piece i : ℕ) (r : Result Effect Kind_of_trap) (part : OperationPart) → rest_at (operated x o k piece i (operation_at x piece i) r) part ≡ rest_at (operated x (aligned m o) k piece i (operation_at x piece i) r) part
  lines_apart m o k piece i (Ok effect) part = on_apart m o k piece i effect part
  lines_apart m o k piece i (Err trap) part = by (x.needs piece i 0)
    where
      by : (b : Bool) → rest_at (if b then stopped_by x o piece i (operation_at x piece i) trap else operated_on x o k piece i (operation_at x piece i) (zero_effect o (operation_at x piece i).work)) part
          ≡ rest_at (if b then stopped_by x (aligned m o) piece i (operation_at x piece i) trap else operated_on x (aligned m o) k piece i (operation_at x piece i) (zero_effect (aligned m o) (operation_at x piece i).work)) part
      by true = stopped_apart m o piece i trap part
      by false = on_apart m o k piece i (zero_effect o (operation_at x piece i).work) part

  pub load_rest : (m o : ForkTokens) (k piece i : ℕ) → IsOperationNamed x (Op piece i) → RestAlike m o k (Op piece i) → (part : OperationPart) → tells_line part ≡ false → foot_as x n.is_net.classes k (Op piece i) part ≡ true
      → rest_at (loaded_on x o piece i (fired_as x o.operations k (Op piece i))).operations part ≡ rest_at (loaded_on x m piece i (fired_as x m.operations k (Op piece i))).operations part
  load_rest m o k piece i named same part not mine =
      let agree = agree_aligned m o k piece i same in
      let other : OperationTokens = aligned m.operations o.operations in
      rest_loaded x o piece i (fired_as x o.operations k (Op piece i)) part
      ∙ lines_apart m.operations o.operations k piece i (performed_at x o.operations piece (operation_at x piece i)) part
      ∙ rest_same (fired_as x other k (Op piece i)) (fired_as x m.operations k (Op piece i)) part
      (operated_inside x n.is_net.classes m.operations other k piece i agree (performed_at x other piece (operation_at x piece i)) (performed_at x m.operations piece (operation_at x piece i)) (alike x n.is_net.classes m.operations other k piece i agree (facts.covers m.operations piece i named.exists named.fits.2)) part mine)
      ∙ sym (rest_loaded x m piece i (fired_as x m.operations k (Op piece i)) part)

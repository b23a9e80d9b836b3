-- Nets of operations keep the laws of firing, by their footprints.
use Rattle.std.proofs.Common.{◌≡◌, ◌<◌, ℕ, ◌==◌, ◌&&◌, Bool, true, false, length, map, None, is_some, slice_get, slice_set, refl, sym, ap, ◌∙◌}
use Rattle.std.proofs.lemmas.Bool.{eq-eqb}
use Rattle.std.proofs.lemmas.List.{length-replicate}
use Rattle.alias_classes.specs.Classes.{ClassTable}
use Rattle.firing.specs.declared.system.NodeName.{NodeName}
use Rattle.firing.specs.declared.system.NodeName.TheVariants.{Act, Merge, Switch, Op}
use Rattle.firing.specs.Footprints.{HasFootprints}
use Rattle.firing.specs.Laws.{IsLawful}
use Rattle.firing.proofs.FootprintLemmas.{lawful as by_feet}
use Rattle.net_board.specs.Footprints.{Part, Line, Left, Word, Count, StepOf, Taken, Trap, at, foot_as as statement_foot}
use Rattle.net_board.specs.Nodes.{graph_in}
use Rattle.net_board.specs.ProgramFacts.{ProgramFacts}
use Rattle.net_board.specs.SoundNets.{IsNet}
use Rattle.net_board.specs.Tokens.{is_before, joined, left_for, switched}
use Rattle.net_board.specs.WokenNodes.{switch_number}
use Rattle.net_board.proofs.FiringLaws.{equal, first_comes, merged_inside, merged_outside, same_before, switched_inside, switched_outside, switched_trap}
use Rattle.net_board.proofs.ListPlaces.{get_set_other, same_list}
use Rattle.op_board.specs.OperationNets.{OperationNet, all_operation_nodes, operation_at, operation_count, operation_node}
use Rattle.op_board.specs.OperationTokens.{OperationTokens, fired_as, first_operation_tokens, line_as, merged_on, operand_in, operation_moves, performed_at, ready_as, serial_as, switched_on}
use Rattle.op_board.specs.OperationFootprints.{OperationPart, Token, Passed, Given, foot_as, operation_foot, part_at}
use Rattle.op_board.specs.SoundOperationNets.{IsOperationNet, OperationsCanCome}
use Rattle.op_board.proofs.AlikeItems.{replaced_one_alike}
use Rattle.op_board.proofs.FiringOperations.{alike, both_ways, operated_inside, operated_outside, quiet, same_can_operate, same_text, same_trap}
use Rattle.op_board.proofs.OperationEffects.{Covers, IfPerformed, IsEffectFramed, performed_framed}
use Rattle.op_board.proofs.OperationMarkings.{IsFramedAt, fired_marking}
use Rattle.op_board.proofs.OperationNumbers.{IsOperationNamed, operation_named}
use Rattle.op_board.proofs.OperationsApart.{AreNeedsTouched, apart}

-- Whatever the values of its operands are, all that an operation reads and changes belongs to the lines that it needs.
abbrev pub AreNeedsCovering : OperationNet → ClassTable → Type 0
AreNeedsCovering x c = (m : OperationTokens) (piece i : ℕ) → piece < (graph_in x.net).nodes → i < operation_count x piece → Covers x.net.program.names c (x.needs piece i) (operation_at x piece i).work (map (operand_in x m piece) (operation_at x piece i).operands)

-- what the laws of firing ask of the lines that operations need
pub record FiringFacts (x : OperationNet) (c : ClassTable) : Type 0 where
  pub touched : AreNeedsTouched x
  pub covers : AreNeedsCovering x c

-- ---- equal parts

equal_operations : (m n : OperationTokens) → ((part : OperationPart) → part_at m part ≡ part_at n part) → m ≡ n
equal_operations m n same =
    let tokens = equal m.tokens n.tokens (λ part. same (Token part)) in
    let passed = same_list m.passed n.passed (λ k. same (Passed k)) in
    let values = same_list m.values n.values (λ k. same (Given k)) in
    λ i. record { tokens = tokens i; passed = passed i; values = values i }

module _ (ground : ProgramFacts) (x : OperationNet) (is : IsNet x.net) (facts : FiringFacts x is.classes) where
  -- ---- switches and merges have the footprints that they have in a net of statements

  switch_foot : (k piece line : ℕ) (part : Part) (b : Bool) → foot_as x is.classes k (Switch piece line) (Token part) ≡ b → statement_foot x.net is.classes (switch_number x.net piece line) (Switch piece line) part ≡ b
  switch_foot k piece line (Line other) b same = same
  switch_foot k piece line (Left node) b same = same
  switch_foot k piece line (Word word) b same = same
  switch_foot k piece line (Count n) b same = same
  switch_foot k piece line (StepOf n) b same = same
  switch_foot k piece line Taken b same = same
  switch_foot k piece line Trap b same = same

  foot_of_switch : (k piece line : ℕ) (part : Part) → statement_foot x.net is.classes (switch_number x.net piece line) (Switch piece line) part ≡ true → foot_as x is.classes k (Switch piece line) (Token part) ≡ true
  foot_of_switch k piece line (Line other) mine = mine
  foot_of_switch k piece line (Left node) mine = mine
  foot_of_switch k piece line (Word word) mine = mine
  foot_of_switch k piece line (Count n) mine = mine
  foot_of_switch k piece line (StepOf n) mine = mine
  foot_of_switch k piece line Taken mine = mine
  foot_of_switch k piece line Trap mine = mine

  merge_foot : (k piece line : ℕ) (part : Part) (b : Bool) → foot_as x is.classes k (Merge piece line) (Token part) ≡ b → statement_foot x.net is.classes k (Merge piece line) part ≡ b
  merge_foot k piece line (Line other) b same = same
  merge_foot k piece line (Left node) b same = same
  merge_foot k piece line (Word word) b same = same
  merge_foot k piece line (Count n) b same = same
  merge_foot k piece line (StepOf n) b same = same
  merge_foot k piece line Taken b same = same
  merge_foot k piece line Trap b same = same

  foot_of_merge : (k piece line : ℕ) (part : Part) → statement_foot x.net is.classes k (Merge piece line) part ≡ true → foot_as x is.classes k (Merge piece line) (Token part) ≡ true
  foot_of_merge k piece line (Line other) mine = mine
  foot_of_merge k piece line (Left node) mine = mine
  foot_of_merge k piece line (Word word) mine = mine
  foot_of_merge k piece line (Count n) mine = mine
  foot_of_merge k piece line (StepOf n) mine = mine
  foot_of_merge k piece line Taken mine = mine
  foot_of_merge k piece line Trap mine = mine

  -- ---- what a firing leaves

  framed : (m : OperationTokens) (piece i : ℕ) → IsOperationNamed x (Op piece i) → IfPerformed (performed_at x m piece (operation_at x piece i)) (IsEffectFramed is.classes (x.needs piece i) m.tokens.memory)
  framed m piece i named =
      performed_framed x.net.program.names x.net.input is.classes (x.needs piece i) m.tokens.memory (operation_at x piece i).work (map (operand_in x m piece) (operation_at x piece i).operands) (facts.covers m piece i named.exists named.fits.2)

  framed_at : (m : OperationTokens) (name : NodeName) → IsOperationNamed x name → IsFramedAt ground x is m name
  framed_at m (Op piece i) named = framed m piece i named
  framed_at m (Switch piece line) named = tt
  framed_at m (Merge piece line) named = tt
  framed_at m (Act piece) named = tt

  unpassed_outside : (m : OperationTokens) (line other : ℕ) → (line == other) ≡ false → slice_get (slice_set m.passed line 0) other ≡ slice_get m.passed other
  unpassed_outside m line other not_in = get_set_other m.passed line other 0 (λ e. both_ways (line == other) (eq-eqb line other e) not_in)

  outside : (m : OperationTokens) (k : ℕ) (name : NodeName) → IsOperationNamed x name → (part : OperationPart) → foot_as x is.classes k name part ≡ false → part_at (fired_as x m k name) part ≡ part_at m part
  outside m k (Op piece i) named part not_in = operated_outside x is.classes m k piece i (performed_at x m piece (operation_at x piece i)) (framed m piece i named) part not_in
  outside m k (Switch piece line) named (Token part) not_in =
      switched_outside ground x.net is m.tokens (switch_number x.net piece line) piece line (left_for m.tokens (switch_number x.net piece line)) part (switch_foot k piece line part false not_in)
  outside m k (Switch piece line) named (Passed other) not_in = unpassed_outside m line other not_in
  outside m k (Switch piece line) named (Given j) not_in = refl
  outside m k (Merge piece line) named (Token part) not_in = merged_outside ground x.net is m.tokens k piece line part (merge_foot k piece line part false not_in)
  outside m k (Merge piece line) named (Passed other) not_in = unpassed_outside m line other not_in
  outside m k (Merge piece line) named (Given j) not_in = refl
  outside m k (Act piece) named part not_in = refl

  -- ---- what a firing depends on

  -- two markings agree on the footprint of a node
  abbrev Agree : (m n : OperationTokens) (k : ℕ) → NodeName → Type 0
  Agree m n k name = (part : OperationPart) → foot_as x is.classes k name part ≡ true → part_at n part ≡ part_at m part

  same_ready : (m n : OperationTokens) (k : ℕ) (name : NodeName) → Agree m n k name → ready_as x n k name ≡ ready_as x m k name
  same_ready m n k (Op piece i) agree = same_can_operate x is.classes m n k piece i agree
  same_ready m n k (Switch piece line) agree =
      let number : ℕ = switch_number x.net piece line in
      ap (λ b. b && is_some (left_for n.tokens number)) (same_before ground x.net is m.tokens n.tokens piece line (agree (Token (Line line)) (eq-eqb line line refl)))
      ∙ ap (λ o. is_before x.net m.tokens piece line && is_some (joined o)) (agree (Token (Left number)) (eq-eqb number number refl))
  same_ready m n k (Merge piece line) agree = same_before ground x.net is m.tokens n.tokens piece line (agree (Token (Line line)) (eq-eqb line line refl))
  same_ready m n k (Act piece) agree = refl

  same_line : (m n : OperationTokens) (k : ℕ) (name : NodeName) → IsOperationNamed x name → Agree m n k name → line_as x n name ≡ line_as x m name
  same_line m n k (Op piece i) named agree =
      same_text x is.classes m n k piece i agree (performed_at x n piece (operation_at x piece i)) (performed_at x m piece (operation_at x piece i)) (alike x is.classes m n k piece i agree (facts.covers m piece i named.exists named.fits.2))
  same_line m n k (Switch piece line) named agree = refl
  same_line m n k (Merge piece line) named agree = refl
  same_line m n k (Act piece) named agree = refl

  same_trap_then : (m n : OperationTokens) (k : ℕ) (name : NodeName) → IsOperationNamed x name → Agree m n k name → n.tokens.trap ≡ m.tokens.trap → (fired_as x n k name).tokens.trap ≡ (fired_as x m k name).tokens.trap
  same_trap_then m n k (Op piece i) named agree traps =
      same_trap x is.classes m n k piece i agree traps (performed_at x n piece (operation_at x piece i)) (performed_at x m piece (operation_at x piece i)) (alike x is.classes m n k piece i agree (facts.covers m piece i named.exists named.fits.2))
  same_trap_then m n k (Switch piece line) named agree traps =
      let number : ℕ = switch_number x.net piece line in
      switched_trap ground x.net is n.tokens number line (left_for n.tokens number) ∙ traps ∙ sym (switched_trap ground x.net is m.tokens number line (left_for m.tokens number))
  same_trap_then m n k (Merge piece line) named agree traps = traps
  same_trap_then m n k (Act piece) named agree traps = traps

  -- ---- what it makes of its footprint

  unpassed_inside : (m n : OperationTokens) (line other : ℕ) → slice_get n.passed other ≡ slice_get m.passed other → slice_get (slice_set n.passed line 0) other ≡ slice_get (slice_set m.passed line 0) other
  unpassed_inside m n line other same = replaced_one_alike n.passed m.passed line 0 0 other same refl

  switch_inside : (m n : OperationTokens) (k piece line : ℕ) → Agree m n k (Switch piece line) → (part : OperationPart) → foot_as x is.classes k (Switch piece line) part ≡ true → part_at (switched_on x n piece line) part ≡ part_at (switched_on x m piece line) part
  switch_inside m n k piece line agree (Token part) mine =
      let number : ℕ = switch_number x.net piece line in
      switched_inside ground x.net is m.tokens n.tokens number piece line (left_for n.tokens number) (λ part mine. agree (Token part) (foot_of_switch k piece line part mine)) part (switch_foot k piece line part true mine)
      ∙ ap (λ o. at (switched x.net m.tokens number line (joined o)) part) (agree (Token (Left number)) (eq-eqb number number refl))
  switch_inside m n k piece line agree (Passed other) mine = unpassed_inside m n line other (agree (Passed other) mine)
  switch_inside m n k piece line agree (Given j) mine = absurd cc

  merge_inside : (m n : OperationTokens) (k piece line : ℕ) → Agree m n k (Merge piece line) → (part : OperationPart) → foot_as x is.classes k (Merge piece line) part ≡ true → part_at (merged_on x n piece line) part ≡ part_at (merged_on x m piece line) part
  merge_inside m n k piece line agree (Token part) mine =
      merged_inside ground x.net is m.tokens n.tokens k piece line (λ part mine. agree (Token part) (foot_of_merge k piece line part mine)) part (merge_foot k piece line part true mine)
  merge_inside m n k piece line agree (Passed other) mine = unpassed_inside m n line other (agree (Passed other) mine)
  merge_inside m n k piece line agree (Given j) mine = absurd cc

  inside : (m n : OperationTokens) (k : ℕ) (name : NodeName) → IsOperationNamed x name → Agree m n k name → (part : OperationPart) → foot_as x is.classes k name part ≡ true → part_at (fired_as x n k name) part ≡ part_at (fired_as x m k name) part
  inside m n k (Op piece i) named agree part mine =
      operated_inside x is.classes m n k piece i agree (performed_at x n piece (operation_at x piece i)) (performed_at x m piece (operation_at x piece i)) (alike x is.classes m n k piece i agree (facts.covers m piece i named.exists named.fits.2)) part mine
  inside m n k (Switch piece line) named agree part mine = switch_inside m n k piece line agree part mine
  inside m n k (Merge piece line) named agree part mine = merge_inside m n k piece line agree part mine
  inside m n k (Act piece) named agree part mine = agree part mine

  -- ---- silence

  quiet_as : (m : OperationTokens) (k : ℕ) (name : NodeName) → IsOperationNamed x name → serial_as x name ≡ false → (line_as x m name ≡ None) × ((fired_as x m k name).tokens.trap ≡ m.tokens.trap)
  quiet_as m k (Op piece i) named not_out = quiet x is.classes m k piece i (performed_at x m piece (operation_at x piece i)) not_out (framed m piece i named)
  quiet_as m k (Switch piece line) named not_out = (refl, switched_trap ground x.net is m.tokens (switch_number x.net piece line) line (left_for m.tokens (switch_number x.net piece line)))
  quiet_as m k (Merge piece line) named not_out = (refl, refl)
  quiet_as m k (Act piece) named not_out = (refl, refl)

  serial_foot : (k : ℕ) (name : NodeName) → serial_as x name ≡ true → foot_as x is.classes k name (Token (Line 0)) ≡ true
  serial_foot k (Op piece i) serial = serial
  serial_foot k (Switch piece line) serial = serial
  serial_foot k (Merge piece line) serial = serial
  serial_foot k (Act piece) serial = absurd cc

  pub operations_footed : HasFootprints (OperationsCanCome x) (operation_moves x) part_at (operation_foot x is.classes)
  operations_footed = record {
    equal = equal_operations;
    outside = λ m k ready part not_in. outside m k (operation_node x k) (operation_named x k ready.node) part not_in;
    ready = λ m n k seen. same_ready m n k (operation_node x k) seen.agree ∙ seen.first.ready;
    line = λ m n k seen. same_line m n k (operation_node x k) (operation_named x k seen.first.node) seen.agree;
    trap = λ m n k seen going other. same_trap_then m n k (operation_node x k) (operation_named x k seen.first.node) seen.agree (other ∙ sym going);
    inside = λ m n k seen part mine. inside m n k (operation_node x k) (operation_named x k seen.first.node) seen.agree part mine;
    apart = apart ground x is facts.touched;
    output = Token (Line 0);
    serial = λ k serial. serial_foot k (operation_node x k) serial;
    silent = λ m k comes can_fire not_serial.
        let q = quiet_as m k (operation_node x k) (operation_named x k can_fire.node) not_serial in
        record { line = q.0; trap = q.1 ∙ can_fire.going };
    stays_sound = λ m k comes can_fire.
        let named = operation_named x k can_fire.node in
        record { ground = comes.ground; is_net = comes.is_net; is_marking = fired_marking ground x is m k (operation_node x k) named (framed_at m (operation_node x k) named) comes.is_marking };
  }

-- what can come of a net of operations keeps the laws of firing
pub operation_laws : ((x : OperationNet) → ProgramFacts → (n : IsOperationNet x) → FiringFacts x n.is_net.classes) → (x : OperationNet) → IsLawful (OperationsCanCome x) (operation_moves x)
operation_laws facts x = record {
  either_order = λ m j k both. (laws both.is_sound).either_order m j k both;
  stays_ready = λ m j k both. (laws both.is_sound).stays_ready m j k both;
  one_serial = λ m j k both serial. (laws both.is_sound).one_serial m j k both serial;
  same_line = λ m j k both none. (laws both.is_sound).same_line m j k both none;
  same_trap = λ m j k both none. (laws both.is_sound).same_trap m j k both none;
  silent = λ m k comes can_fire not_serial. (laws comes).silent m k comes can_fire not_serial;
  stays_sound = λ m k comes can_fire. (laws comes).stays_sound m k comes can_fire;
}
  where
    laws : {m : OperationTokens} → OperationsCanCome x m → IsLawful (OperationsCanCome x) (operation_moves x)
    laws comes = by_feet (OperationsCanCome x) (operation_moves x) part_at (operation_foot x comes.is_net.is_net.classes) (operations_footed comes.ground x comes.is_net.is_net (facts x comes.ground comes.is_net))

-- the marking before any firing can come
pub first_operations_come : (ground : ProgramFacts) (x : OperationNet) → IsOperationNet x → OperationsCanCome x (first_operation_tokens x)
first_operations_come ground x n = record {
  ground = ground;
  is_net = n;
  is_marking = record {
    tokens = (first_comes ground x.net n.is_net).is_marking;
    passed = length-replicate x.net.routing.lines 0;
    values = length-replicate (length (all_operation_nodes x)) None;
  };
}

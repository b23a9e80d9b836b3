-- The operations of a piece fire one after another, and do what the piece does.
use Rattle.std.proofs.Common.{◌≡◌, ◌<◌, ◌≤◌, ℕ, zero, suc, ◌+◌, ◌&&◌, ◌==◌, ℤ, Bool, true, false, not, if◌then◌else◌, List, [], ◌∷◌, length, drop, take, replicate, Option, Some, None, is_some, slice_get, refl, sym, ap, ◌∙◌, eq-eqb, arith}
use Rattle.std.proofs.lemmas.Bool.{and_from}
use Rattle.std.specs.List.{list_all}
use Rattle.f77_tree.specs.Execution.{Memory, Outcome, Goes, Stops, Ends, outcome}
use Rattle.f77_tree.specs.Steps.{HoldsWords}
use Rattle.cfg_build.specs.declared.pieces.PieceKind.{PieceKind}
use Rattle.cfg_build.specs.declared.pieces.PieceKind.TheVariants as kind
use Rattle.cfg_build.specs.Passes.{out, pass_of}
use Rattle.dep_routing.specs.Sound.{DoesTrap}
use Rattle.dep_routing.specs.Touches.{exec_kind}
use Rattle.alias_classes.specs.Classes.{ClassTable}
use Rattle.list_laws.specs.Member.{Member}
use Rattle.list_laws.proofs.Members.{Member-filter, Member-range}
use Rattle.firing.specs.Moves.{CanFire}
use Rattle.firing.specs.declared.system.NodeName.TheVariants.{Op}
use Rattle.net_board.specs.Nodes.{graph_in, kind_in, is_acting, switches, switch_lines, touched}
use Rattle.net_board.specs.SoundNets.{HasSizesOf}
use Rattle.net_board.specs.Tokens.{Tokens, is_before, joined, led_from, leads_to, left_for, pass_at}
use Rattle.net_board.specs.WithinPiece.{leaving}
use Rattle.net_board.proofs.ListPlaces.{all_pass}
use Rattle.net_board.proofs.ListPrefixes.{below_length}
use Rattle.net_board.proofs.PieceSteps.{all_members}
use Rattle.op_board.specs.Operations.{Operation, Work, Operate, Load, Store, Take, Write, Begin, Advance, DecideTruth, DecideSign, DecideNumber, DecideTrips, DecideFirst, Operand, is_decision}
use Rattle.op_board.specs.Effects.{Effect, ran}
use Rattle.op_board.specs.Needs.{WorkNeeds}
use Rattle.op_board.specs.OperationFacts.{OperationFacts, is_parting}
use Rattle.op_board.specs.OperationLists.{IsOperationList, takes_by}
use Rattle.op_board.specs.OperationNets.{OperationNet, all_operation_nodes, first_operation, needed, needing_before, operation_at, operation_count, operation_in, operation_node, operations_at}
use Rattle.op_board.specs.OperationOrder.{ran_at}
use Rattle.op_board.specs.OperationTokens.{OperationTokens, are_clear, between_pieces, can_operate, has_room, is_given, operation_moves, passed_by, ready_as, stands_before, value_at, value_of}
use Rattle.op_board.specs.SoundOperationNets.{IsOperationNet}
use Rattle.op_board.proofs.NeededLines.{amid_passed, amid_state, needed_has}
use Rattle.op_board.proofs.OperandValues.{all_given, is_some_at}
use Rattle.op_board.proofs.PieceNodes.{is_operation, operation_below, operation_named}
use Rattle.op_board.proofs.PieceLines.{AreLines, ArePassed, first_lines, first_passed, needs_low}
use Rattle.op_board.proofs.ReplacedItems.{get_replicate, index_is}
use Rattle.op_board.proofs.WaitingValues.{IsTaken, none_waits, taken_here, waiting}

-- the piece acts in a net of statements from this marking
pub record IsAtPiece (x : OperationNet) (piece : ℕ) (m : Tokens) : Type 0 where
  pub exists : piece < (graph_in x.net).nodes
  pub acts : is_acting (kind_in x.net piece) ≡ true
  pub going : m.trap ≡ None
  pub before : list_all (is_before x.net m piece) (touched x.net piece) ≡ true
  pub clear : list_all (λ switch. not (is_some (left_for m switch))) (switches x.net piece) ≡ true
  pub sizes : HasSizesOf x.net.program m.memory
  pub words : HoldsWords m.memory
  pub traps : DoesTrap (pass_at x.net piece m.memory) → x.net.touches piece 0 ≡ true

-- ---- decisions

-- a decision needs all that its piece touches
pub decision_needs : (c : ClassTable) (touches : ℕ → Bool) (work : Work) (operands : List Operand) (line : ℕ) → is_decision work ≡ true → touches line ≡ true → WorkNeeds c touches work operands line
decision_needs c touches DecideTruth operands line is own = own
decision_needs c touches DecideSign operands line is own = own
decision_needs c touches (DecideNumber count) operands line is own = own
decision_needs c touches (DecideTrips loop_no) operands line is own = own
decision_needs c touches DecideFirst operands line is own = own
decision_needs c touches (Load name subs) operands line is own = absurd cc
decision_needs c touches (Operate op) operands line is own = absurd cc
decision_needs c touches (Store name subs) operands line is own = absurd cc
decision_needs c touches Take operands line is own = absurd cc
decision_needs c touches (Write items) operands line is own = absurd cc
decision_needs c touches (Begin loop_no var) operands line is own = absurd cc
decision_needs c touches (Advance loop_no var) operands line is own = absurd cc

-- what does not part edges leaves by the first one
pub one_way : (x : OperationNet) (piece : ℕ) (memory : Memory) (k : PieceKind) → is_acting k ≡ true → is_parting k ≡ false → leaving x.net piece (pass_of x.net.program x.net.input memory (out (graph_in x.net) piece) k (exec_kind x.net.program piece)) ≡ out (graph_in x.net) piece 0
one_way x piece memory kind.Act acts one = by (outcome x.net.program.names x.net.input memory (exec_kind x.net.program piece))
  where
    by : (o : Outcome) → leaving x.net piece (Rattle.cfg_build.specs.Passes.acted (out (graph_in x.net) piece 0) o) ≡ out (graph_in x.net) piece 0
    by (Goes exec new text) = refl
    by (Stops trap) = refl
    by Ends = refl
one_way x piece memory kind.Branch acts one = absurd cc
one_way x piece memory kind.Hold acts one = absurd cc
one_way x piece memory kind.Start acts one = absurd cc
one_way x piece memory kind.Pass acts one = absurd cc
one_way x piece memory kind.Join acts one = absurd cc
one_way x piece memory kind.End acts one = absurd cc

pub no_switches : (x : OperationNet) (piece : ℕ) (k : PieceKind) → is_parting k ≡ false → switch_lines x.net piece k ≡ []
no_switches x piece kind.Act one = refl
no_switches x piece kind.Branch one = absurd cc
no_switches x piece kind.Hold one = absurd cc
no_switches x piece kind.Start one = refl
no_switches x piece kind.Pass one = refl
no_switches x piece kind.Join one = refl
no_switches x piece kind.End one = refl

not_given : (values : List ℤ) (i : ℕ) (b : Bool) → length values ≡ i → (if b then slice_get values i else None) ≡ None
not_given values i false long = refl
not_given values i true long = outside values i (omega (arith, long))
  where
    outside : (xs : List ℤ) (j : ℕ) → length xs ≤ j → slice_get xs j ≡ None
    outside [] j high = refl
    outside (y ∷ xs) zero high = absurd (omega (arith, high))
    outside (y ∷ xs) (suc j) high = outside xs j (omega (arith, high))

module _ (x : OperationNet) (n : IsOperationNet x) (facts : OperationFacts x) (piece : ℕ) (m : Tokens) (at : IsAtPiece x piece m) where
  abbrev count : ℕ
  count = operation_count x piece

  -- the edge by which control leaves the piece
  abbrev pub exit : ℕ
  exit = leaving x.net piece (pass_at x.net piece m.memory)

  pub list : IsOperationList (operations_at x piece)
  list = facts.lists piece at.exists at.acts

  -- the first i operations have fired since then, none of them the last one
  pub record IsPart (i : ℕ) (t : OperationTokens) : Type 0 where
    pub values : List ℤ
    pub last : Effect
    pub long : length values ≡ i
    pub rest : ran x.net.program.names x.net.input values last (drop i (operations_at x piece)) ≡ ran_at x piece m.memory
    pub memory_is : t.tokens.memory ≡ last.memory
    pub trap_is : t.tokens.trap ≡ None
    pub edges_are : t.tokens.edges ≡ m.edges
    pub lines_are : AreLines x piece m.lines exit i t.tokens.lines
    pub passed_are : ArePassed x piece i t.passed
    pub own : (j : ℕ) → j < operation_count x piece → slice_get t.values (first_operation x piece + j) ≡ Some (waiting (operations_at x piece) values i j)
    pub others : (k : ℕ) → ((j : ℕ) → j < operation_count x piece → first_operation x piece + j ≡ k → ⊥) → slice_get t.values k ≡ slice_get (replicate (length (all_operation_nodes x)) None) k

  pub own_below : (j : ℕ) → j < operation_count x piece → first_operation x piece + j < length (all_operation_nodes x)
  own_below j low = operation_below x piece j at.exists (below_length (Rattle.op_board.specs.OperationNets.operation_nodes_at x piece) j (Op piece j) (is_operation x piece j at.acts low))

  pub part_first : IsPart 0 (between_pieces x m)
  part_first = record {
    values = [];
    last = record { value = None; memory = m.memory; text = []; choice = 0 };
    long = refl;
    rest = refl;
    memory_is = refl;
    trap_is = at.going;
    edges_are = refl;
    lines_are = first_lines x piece m.lines exit;
    passed_are = first_passed x piece;
    own = λ j low. get_replicate (length (all_operation_nodes x)) (first_operation x piece + j) None (own_below j low) ∙ ap (λ (o : Option ℤ). Some o) (sym (none_waits (operations_at x piece) j));
    others = λ k apart. refl;
  }

  module _ (i : ℕ) (t : OperationTokens) (part : IsPart i t) (op : Operation) (is : slice_get (operations_at x piece) i ≡ Some op) where
    pub low : i < operation_count x piece
    low = below_length (operations_at x piece) i op is

    pub op_is : operation_at x piece i ≡ op
    op_is = ap operation_in is

    pub named : operation_node x (first_operation x piece + i) ≡ Op piece i
    named = operation_named x piece i (Op piece i) at.exists (is_operation x piece i at.acts low)

    -- ---- it is ready

    line_before : (line : ℕ) → Member (needed x piece i) line → stands_before x t piece i line ≡ true
    line_before line own =
        let h = needed_has x piece i line own in
        let lines : AreLines x piece m.lines exit i t.tokens.lines = part.lines_are in
        let passed : ArePassed x piece i t.passed = part.passed_are in
        let less = needs_low x piece i line low h.1 in
        let stands : slice_get t.tokens.lines line ≡ slice_get m.lines line = lines.inside line h.0 ∙ amid_state (needing_before x piece i line) (needing_before x piece (operation_count x piece) line) (led_from x.net exit line) (slice_get m.lines line) less in
        let among : Member (touched x.net piece) line = Member-filter (x.net.touches piece) (Rattle.net_board.specs.Nodes.all_lines x.net) line (let line_low = h.0 in Member-range 0 x.net.routing.lines line (omega arith) (omega (arith, line_low))) (facts.touched piece i line at.exists low h.1) in
        let before : is_before x.net t.tokens piece line ≡ true = ap (λ (o : Option (Option ℕ)). leads_to (graph_in x.net) piece (joined o)) stands ∙ all_pass (is_before x.net m piece) (touched x.net piece) line at.before among in
        let number : passed_by t line ≡ needing_before x piece i line = index_is t.passed line (needing_before x piece i line) (passed.inside line h.0 ∙ ap (λ (k : ℕ). Some k) (amid_passed (needing_before x piece i line) (needing_before x piece (operation_count x piece) line) less)) in
        and_from (is_before x.net t.tokens piece line) (passed_by t line == needing_before x piece i line) before (eq-eqb (passed_by t line) (needing_before x piece i line) number)

    -- the operands are there
    pub operand_there : (j : ℕ) → 0 < takes_by op.operands j → value_at t (first_operation x piece + j) ≡ slice_get part.values j
    operand_there j some =
        let r : IsTaken (operations_at x piece) list i op is j = taken_here (operations_at x piece) list i op is j some in
        let before = r.before in
        ap value_of (part.own j (omega (arith, before, low)))
        ∙ ap (λ (k : ℕ). if k == 0 then slice_get part.values j else None) r.untaken

    operand_given : (j : ℕ) → 0 < takes_by op.operands j → is_some (value_at t (first_operation x piece + j)) ≡ true
    operand_given j some =
        let r : IsTaken (operations_at x piece) list i op is j = taken_here (operations_at x piece) list i op is j some in
        let before = r.before in
        let long = part.long in
        ap (λ (o : Option ℤ). is_some o) (operand_there j some) ∙ is_some_at part.values j (omega (arith, before, long))

    own_empty : not (is_some (value_at t (first_operation x piece + i))) ≡ true
    own_empty = ap (λ (o : Option ℤ). not (is_some o)) (ap value_of (part.own i low) ∙ not_given part.values i (Rattle.op_board.specs.OperationLists.takes_of (take i (operations_at x piece)) i == 0) part.long)

    room : has_room x t piece op.work ≡ true
    room = by (is_decision op.work)
      where
        clear : are_clear x t piece ≡ true
        clear = ap (λ (edges : List (Option ℕ)). list_all (λ switch. not (is_some (joined (slice_get edges switch)))) (switches x.net piece)) part.edges_are ∙ at.clear

        by : (b : Bool) → (if b then are_clear x t piece else true) ≡ true
        by true = clear
        by false = refl

    can_here : can_operate x t (first_operation x piece + i) piece i op ≡ true
    can_here =
        and_from (list_all (stands_before x t piece i) (needed x piece i) && list_all (is_given x t piece) op.operands && not (is_some (value_at t (first_operation x piece + i)))) (has_room x t piece op.work)
        (and_from (list_all (stands_before x t piece i) (needed x piece i) && list_all (is_given x t piece) op.operands) (not (is_some (value_at t (first_operation x piece + i))))
        (and_from (list_all (stands_before x t piece i) (needed x piece i)) (list_all (is_given x t piece) op.operands)
        (all_members (stands_before x t piece i) (needed x piece i) line_before)
        (all_given x t piece part.values op.operands operand_given))
        own_empty)
        room

    pub part_can : CanFire (operation_moves x) t (first_operation x piece + i)
    part_can = record {
      going = part.trap_is;
      node = own_below i low;
      ready = ap (ready_as x t (first_operation x piece + i)) named ∙ ap (can_operate x t (first_operation x piece + i) piece i) op_is ∙ can_here;
    }

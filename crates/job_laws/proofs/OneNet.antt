-- A program and its data have one net.
use Rattle.std.proofs.Common.{◌≡◌, ◌<◌, ◌≤◌, ◌↔◌, ℕ, suc, ℤ, Bool, true, false, List, refl, sym, ap, subst, ◌∙◌, ⊎_elim}
use Rattle.std.proofs.lemmas.Bool.{cases_lt}
use mathlib.Core.Path.{fun_ext}
use Rattle.closed_walks.specs.Region.{IsFlowGraph}
use Rattle.f77_tree.specs.declared.programs.Program.{Program}
use Rattle.alias_classes.specs.Classes.{ClassTable, IsClasses, class_count}
use Rattle.cfg_build.specs.Flow.{flow}
use Rattle.dep_routing.specs.LineTable.{HaveRows}
use Rattle.dep_routing.specs.OneTable.{OneRouting}
use Rattle.dep_routing.specs.Routing.{Routing, IsRouting}
use Rattle.range_lines.specs.RangeTouches.{OneRangeTouching}
use Rattle.net_board.specs.Nodes.{NetOf, graph_in}
use Rattle.net_board.specs.NetParts.{AreParts, net_with}
use Rattle.op_board.specs.Needs.{OperationNeeds}
use Rattle.op_board.specs.OperationNets.{OperationNet, operation_at, operation_count}
use Rattle.op_board.specs.SoundOperationNets.{AreNeeds}
use Rattle.program_nets.specs.Game.{AreToldByRanges, IsNetOn}

-- a program has one table of classes and of touches, and touches have one table of wires
pub record OneOfEach : Type 0 where
  pub classes : (p : Program) (t other : ClassTable) → IsClasses p t → IsClasses p other → t ≡ other
  pub touching : OneRangeTouching
  pub routing : OneRouting

-- ---- nets

-- what a net has beside a program and its data
record HasParts (p : Program) (touches : ℕ → ℕ → Bool) (routing : Routing) : Type 0 where
  parts : AreParts p (flow p.execs) touches routing
  ranges : AreToldByRanges p touches
  rows : HaveRows routing

module _ (each : OneOfEach) (p : Program) (strong : IsFlowGraph (flow p.execs).graph) where
  touches_same : (a b : ℕ → ℕ → Bool) (r s : Routing) → HasParts p a r → HasParts p b s → a ≡ b
  touches_same a b r s one two =
      let left = one.parts in
      let right = two.parts in
      each.touching p one.ranges.classes two.ranges.classes a b one.ranges.own_classes two.ranges.own_classes one.ranges.are two.ranges.are left.outside right.outside

  routing_same : (a : ℕ → ℕ → Bool) (r s : Routing) → HasParts p a r → HasParts p a s → r ≡ s
  routing_same a r s one two =
      let left = one.parts in
      let right = two.parts in
      let classes = each.classes p left.classes right.classes left.own_classes right.own_classes in
      each.routing (flow p.execs).graph left.tree right.tree a (suc (class_count right.classes)) r s strong left.own_tree right.own_tree
      (subst (λ c. IsRouting (flow p.execs).graph left.tree a (suc (class_count c)) r) classes left.own_routing) right.own_routing one.rows two.rows

  one_statement_net : (words : List ℤ) (x y : OperationNet) → IsNetOn p words x → IsNetOn p words y → x.net ≡ y.net
  one_statement_net words x y own too =
      let one : HasParts p x.net.touches x.net.routing = record { parts = own.parts; ranges = own.ranges; rows = own.rows } in
      let two : HasParts p y.net.touches y.net.routing = record { parts = too.parts; ranges = too.ranges; rows = too.rows } in
      let touches = touches_same x.net.touches y.net.touches x.net.routing y.net.routing one two in
      let routing = routing_same y.net.touches x.net.routing y.net.routing (subst (λ a. HasParts p a x.net.routing) touches one) two in
      own.is
      ∙ ap (λ a. net_with p words a x.net.routing) touches
      ∙ ap (λ r. net_with p words y.net.touches r) routing
      ∙ sym too.is

-- ---- which lines operations need

-- a net tells what its operations need by a table of classes of its program, and nothing beside
record HasNeeds (x : OperationNet) : Type 0 where
  classes : ClassTable
  own_classes : IsClasses x.net.program classes
  needs : AreNeeds x classes
  outside_pieces : (piece i line : ℕ) → (graph_in x.net).nodes ≤ piece → x.needs piece i line ≡ false
  outside_operations : (piece i line : ℕ) → operation_count x piece ≤ i → x.needs piece i line ≡ false

has_needs : (p : Program) (words : List ℤ) (x : OperationNet) → IsNetOn p words x → HasNeeds x
has_needs p words x own = record {
  classes = own.operations.is_net.classes;
  own_classes = own.operations.is_net.own_classes;
  needs = own.operations.own_needs;
  outside_pieces = own.outside_pieces;
  outside_operations = own.outside_operations;
}

-- two tests of one fact
same_test : (A : Type 0) (a b : Bool) → (a ≡ true) ↔ A → (b ≡ true) ↔ A → a ≡ b
same_test A true b left right = sym (right.1 (left.0 refl))
same_test A false true left right = left.1 (right.0 refl)
same_test A false false left right = refl

module _ (each : OneOfEach) (net : NetOf) (a b : (piece i line : ℕ) → Bool) where
  abbrev x : OperationNet
  x = record { net = net; needs = a }

  abbrev y : OperationNet
  y = record { net = net; needs = b }

  same_at : HasNeeds x → HasNeeds y → (piece i line : ℕ) → a piece i line ≡ b piece i line
  same_at one two piece i line =
      let classes : one.classes ≡ two.classes = each.classes net.program one.classes two.classes one.own_classes two.own_classes in
      ⊎_elim
      (λ (exists : piece < (graph_in net).nodes). ⊎_elim
      (λ (inside : i < operation_count x piece).
      same_test (OperationNeeds two.classes (net.touches piece) (operation_at x piece i) line) (a piece i line) (b piece i line)
      (subst (λ c. (a piece i line ≡ true) ↔ OperationNeeds c (net.touches piece) (operation_at x piece i) line) classes (one.needs piece i line exists inside))
      (two.needs piece i line exists inside))
      (λ out. one.outside_operations piece i line out ∙ sym (two.outside_operations piece i line out))
      (cases_lt i (operation_count x piece)))
      (λ out. one.outside_pieces piece i line out ∙ sym (two.outside_pieces piece i line out))
      (cases_lt piece (graph_in net).nodes)

  same_needs : HasNeeds x → HasNeeds y → a ≡ b
  same_needs one two = fun_ext (λ piece. fun_ext (λ i. fun_ext (λ line. same_at one two piece i line)))

-- ---- nets

module _ (each : OneOfEach) (p : Program) (strong : IsFlowGraph (flow p.execs).graph) where
  pub one_net : (words : List ℤ) (net other : OperationNet) → IsNetOn p words net → IsNetOn p words other → net ≡ other
  one_net words net other own too =
      let nets : net.net ≡ other.net = one_statement_net each p strong words net other own too in
      let there : HasNeeds other = has_needs p words other too in
      let here : HasNeeds (record { net = net.net; needs = other.needs }) = subst (λ (n : NetOf). HasNeeds (record { net = n; needs = other.needs })) (sym nets) there in
      let needs : net.needs ≡ other.needs = same_needs each net.net net.needs other.needs (has_needs p words net own) here in
      ap (λ (f : ℕ → ℕ → ℕ → Bool). record { net = net.net; needs = f }) needs ∙ ap (λ (n : NetOf). record { net = n; needs = other.needs }) nets

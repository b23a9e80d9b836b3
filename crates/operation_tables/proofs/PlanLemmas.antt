-- The operations of pieces, as they are planned, make a net of operations.
use Rattle.std.proofs.Common.{◌≡◌, ◌<◌, ◌≤◌, ⊎_elim, ◌↔◌, ℕ, ℤ, zero, suc, ◌+◌, Bool, true, List, [], ◌∷◌, ◌++◌, length, slice_get, Option, Some, map, All, sym, ap, ◌∙◌, subst, arith, length-append}
use Rattle.std.specs.Option.{option_map}
use Rattle.std.proofs.lemmas.Bool.{cases_lt}
use Rattle.std.proofs.lemmas.List.{length-map}
use Rattle.std.proofs.lemmas.Option.{get_or_from_slice_get, slice_get-map, slice_get_within}
use mathlib.Core.Path.{fun_ext}
use Rattle.op_table.specs.Words.{IsWord}
use Rattle.class_set.specs.ClassSet.{holds}
use Rattle.class_set.specs.declared.ClassSet.{ClassSet}
use Rattle.set_lists.specs.declared.lists.SetList.{SetList}
use Rattle.set_lists.specs.Sets.{set_count, test_at}
use Rattle.f77_tree.specs.declared.programs.Program.{Program}
use Rattle.f77_tree.specs.CanRun.{CanRun}
use Rattle.f77_tree.specs.WellFormed.{IsWellFormed}
use Rattle.alias_classes.specs.Classes.{ClassTable}
use Rattle.cfg_build.specs.Joined.{FlowGraph}
use Rattle.dep_routing.specs.Routing.{Routing}
use Rattle.dep_routing.specs.Touch.{touches_in}
use Rattle.net_board.specs.Nodes.{NetOf, graph_in}
use Rattle.net_board.specs.NetParts.{net_with}
use Rattle.net_board.specs.SoundNets.{IsNet}
use Rattle.net_tables.specs.declared.lookups.Board.{Board}
use Rattle.net_tables.specs.LookupView.{net_on}
use Rattle.op_board.specs.Needs.{OperationNeeds, TrapsAsKnown}
use Rattle.op_board.specs.OperationNets.{OperationNet, operation_at, operation_count, operation_in, operations_at}
use Rattle.op_board.specs.Operations as board
use Rattle.op_board.specs.SoundOperationNets.{AreNeeds, IsOperationNet}
use Rattle.operation_lists.specs.declared.operations.Operation.{Operation}
use Rattle.operation_lists.specs.Seen.{operation_seen}
use Rattle.operation_tables.specs.declared.plan.PieceOperations.{PieceOperations}
use Rattle.operation_tables.specs.OperationParts.{AreOperationParts}
use Rattle.operation_tables.specs.PieceView.{net_with_operations, piece_needs}
use Rattle.operation_tables.specs.PlannedPieces.{AreNeedsOf, AreOperationsOf, ArePlanned}
use Rattle.operation_tables.proofs.GrownLists.{get_last, get_some}

-- what holds of each item holds of one that is found
pub all_at : {X : Type 0} (P : X → Type 0) (xs : List X) → All P xs → (i : ℕ) (x : X) → slice_get xs i ≡ Some x → P x
all_at P xs all i x at = subst P (get_or_from_slice_get xs i x x at) (all i x (slice_get_within xs i x at))

-- ---- the program

-- what holds of the program holds of that of its net
pub on_net : (P : Program → Type 0) (net : NetOf) (p : Program) (input : List ℤ) (touches : (piece line : ℕ) → Bool) (routing : Routing) → net ≡ net_with p input touches routing → P p → P net.program
on_net P net p input touches routing same holds = subst (λ (x : NetOf). P x.program) (sym same) holds

-- ---- the sets of lines

touches_at : {W : ℕ} (sets : List (ClassSet W)) (node line : ℕ) (s : ClassSet W) → slice_get sets node ≡ Some s → holds s line ≡ touches_in sets node line
touches_at [] node line s is = absurd cc
touches_at (x ∷ sets) zero line s is = let same : s ≡ x = cc in ap (λ y. holds y line) same
touches_at (x ∷ sets) (suc node) line s is = touches_at sets node line s is

-- a node touches the lines of its set
pub same_touches : {W : ℕ} (sets : List (ClassSet W)) (node : ℕ) (s : ClassSet W) → slice_get sets node ≡ Some s → holds s ≡ touches_in sets node
same_touches sets node s is = fun_ext (λ line. touches_at sets node line s is)

-- ---- what the operations of a piece need

-- the lines that so many of the operations need
pub record AreFirstNeeds {W : ℕ} (c : ClassTable) (touches : ℕ → Bool) (operations : List Operation) (n : ℕ) (needs : SetList W) : Type 0 where
  pub count : set_count needs ≡ n
  pub each : (i line : ℕ) (operation : Operation) → i < n → slice_get operations i ≡ Some operation → (test_at needs i line ≡ true) ↔ OperationNeeds c touches (operation_seen operation) line

module _ {W : ℕ} (c : ClassTable) (touches : ℕ → Bool) (operations : List Operation) where
  -- those of one operation more
  pub next_needs : (n : ℕ) (needs new : SetList W) (operation : Operation) (set : ClassSet W) → AreFirstNeeds c touches operations n needs → slice_get operations n ≡ Some operation → ((line : ℕ) → (holds set line ≡ true) ↔ OperationNeeds c touches (operation_seen operation) line)
      → set_count new ≡ set_count needs + 1 → ((line : ℕ) → test_at new (set_count needs) line ≡ holds set line) → ((i line : ℕ) → i < set_count needs → test_at new i line ≡ test_at needs i line) → AreFirstNeeds c touches operations (n + 1) new
  next_needs n needs new operation set first at told more last others = record {
    count = more ∙ ap (λ k. k + 1) first.count;
    each = λ i line other below is. ⊎_elim
        (λ (before : i < n).
        let same : test_at new i line ≡ test_at needs i line = others i line (omega (arith, before, first.count)) in
        subst (λ (b : Bool). (b ≡ true) ↔ OperationNeeds c touches (operation_seen other) line) (sym same) (first.each i line other before is))
        (λ (past : n ≤ i).
        let here : i ≡ n = omega (arith, past, below) in
        let same : test_at new i line ≡ holds set line = ap (λ k. test_at new k line) (here ∙ sym first.count) ∙ last line in
        let found : Some operation ≡ Some other = sym at ∙ ap (slice_get operations) (sym here) ∙ is in
        let own : operation ≡ other = cc in
        subst (λ (b : Bool). (b ≡ true) ↔ OperationNeeds c touches (operation_seen other) line) (sym same) (subst (λ (op : Operation). (holds set line ≡ true) ↔ OperationNeeds c touches (operation_seen op) line) own (told line)))
        (cases_lt i n);
  }

  pub needs_done : (n : ℕ) (needs : SetList W) → AreFirstNeeds c touches operations n needs → n ≡ length operations → AreNeedsOf c touches operations needs
  needs_done n needs first all = record {
    count = first.count ∙ all;
    each = λ i line operation is. first.each i line operation (let below = slice_get_within operations i operation is in omega (arith, below, all)) is;
  }

-- ---- the operations of pieces

-- the operations of so many pieces
pub record AreFirstPlanned {W : ℕ} (net : NetOf) (c : ClassTable) (n : ℕ) (pieces : List (PieceOperations W)) : Type 0 where
  pub count : length pieces ≡ n
  pub each : (piece : ℕ) (planned : PieceOperations W) → slice_get pieces piece ≡ Some planned → AreOperationsOf net c piece planned

module _ {W : ℕ} (net : NetOf) (c : ClassTable) where
  pub next_planned : (n : ℕ) (pieces new : List (PieceOperations W)) (planned : PieceOperations W) → AreFirstPlanned net c n pieces → AreOperationsOf net c n planned → new ≡ pieces ++ planned ∷ [] → AreFirstPlanned net c (n + 1) new
  next_planned n pieces new planned first here are = record {
    count = let l = length-append pieces (planned ∷ []) in let e = ap length are in omega (arith, l, e, first.count);
    each = λ piece other at. ⊎_elim
        (λ (before : slice_get pieces piece ≡ Some other). first.each piece other before)
        (λ (last : (piece ≡ length pieces) × (planned ≡ other)).
        subst (λ (k : ℕ). AreOperationsOf net c k other) (sym (last.0 ∙ first.count)) (subst (λ (y : PieceOperations W). AreOperationsOf net c n y) last.1 here))
        (get_last pieces planned other piece (ap (λ xs. slice_get xs piece) (sym are) ∙ at));
  }

-- ---- the net of them

-- a net with these classes
record IsNetWith (net : NetOf) (c : ClassTable) : Type 0 where
  is_net : IsNet net
  own : is_net.classes ≡ c

module _ {W : ℕ} (on : Board W) (c : ClassTable) (pieces : List (PieceOperations W)) (planned : ArePlanned (net_on on) c pieces) where
  abbrev x : OperationNet
  x = net_with_operations on pieces

  pub operations_are : (piece : ℕ) (o : PieceOperations W) → slice_get pieces piece ≡ Some o → map operation_seen o.operations.items ≡ operations_at x piece
  operations_are piece o at = let own = planned.each piece o at in own.operations

  pub needs_are : (piece : ℕ) (o : PieceOperations W) → slice_get pieces piece ≡ Some o → set_count o.needs ≡ length o.operations.items
  needs_are piece o at = let own = planned.each piece o at in own.needs.count

  are_needs : AreNeeds x c
  are_needs piece i line exists inside =
      let found = get_some pieces piece (omega (arith, exists, planned.every_piece)) in
      let own : AreOperationsOf (net_on on) c piece found.0 = planned.each piece found.0 found.1 in
      let count : length found.0.operations.items ≡ operation_count x piece = sym (length-map found.0.operations.items operation_seen) ∙ ap length own.operations in
      let op = get_some found.0.operations.items i (omega (arith, inside, count)) in
      let is : operation_at x piece i ≡ operation_seen op.0 = ap operation_in (ap (λ ops. slice_get ops i) (sym own.operations) ∙ slice_get-map operation_seen found.0.operations.items i ∙ ap (option_map operation_seen) op.1) in
      let told = own.needs.each i line op.0 op.1 in
      subst (λ (o : board.Operation). (x.needs piece i line ≡ true) ↔ OperationNeeds c (x.net.touches piece) o line) (sym is)
      (subst (λ (o : Option (PieceOperations W)). (piece_needs o i line ≡ true) ↔ OperationNeeds c (x.net.touches piece) (operation_seen op.0) line) (sym found.1) told)

  pub planned_net : (p : Program) (f : FlowGraph) (touches : (piece line : ℕ) → Bool) (routing : Routing) (input : List ℤ)
      → ((p : Program) → IsWellFormed p → CanRun p)
      → ((x : OperationNet) (piece i : ℕ) → IsNet x.net → piece < (graph_in x.net).nodes → i < operation_count x piece → TrapsAsKnown (operation_at x piece i) → x.net.touches piece 0 ≡ true)
      → net_on on ≡ net_with p input touches routing → AreOperationParts p f c touches routing → All IsWord input → IsOperationNet x
  planned_net p f touches routing input can known same both words =
      let parts = both.parts in
      let made : IsNetWith (net_with p input touches routing) c = record {
        is_net = record {
          program = parts.program;
          can_run = can p parts.program;
          input_words = words;
          classes = parts.classes;
          own_classes = parts.own_classes;
          tree = parts.tree;
          own_tree = parts.own_tree;
          sound_touches = parts.sound_touches;
          own_routing = parts.own_routing;
        };
        own = both.own_classes;
      } in
      let n : IsNetWith x.net c = subst (λ (net : NetOf). IsNetWith net c) (sym same) made in
      record {
        is_net = n.is_net;
        own_needs = subst (λ (t : ClassTable). AreNeeds x t) (sym n.own) are_needs;
        traps = λ piece i exists inside t. known x piece i n.is_net exists inside t;
      }

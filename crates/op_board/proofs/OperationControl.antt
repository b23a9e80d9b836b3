-- Control in a net of operations beside that in its net of statements.
use Rattle.std.proofs.Common.{◌≡◌, ◌<◌, ◌⊎◌, ⊎_elim, ℕ, zero, suc, ◌+◌, ◌-◌, ◌||◌, ◌==◌, not, nat_lt, Bool, true, false, if◌then◌else◌, List, [], ◌∷◌, length, Option, Some, None, is_some, slice_get, refl, sym, ap, ◌∙◌, subst, inl, inr, arith, eqb-true, eq-eqb, ltb-true, ltb-false}
use Rattle.std.proofs.lemmas.Bool.{and_parts, cases_Bool}
use Rattle.std.specs.List.{list_all}
use Rattle.f77_tree.specs.Execution.{Memory}
use Rattle.f77_tree.specs.Steps.{HoldsWords}
use Rattle.f77_tree.specs.declared.programs.ExecKind.{ExecKind}
use Rattle.cfg_build.specs.declared.pieces.PieceKind.{PieceKind}
use Rattle.cfg_build.specs.declared.pieces.PieceKind.TheVariants as kind
use Rattle.cfg_build.specs.Joined.{is_end}
use Rattle.cfg_build.specs.Passes.{out, pass_of, passes}
use Rattle.dep_routing.specs.Sound.{DoesTrap}
use Rattle.dep_routing.specs.Touches.{exec_kind}
use Rattle.firing.specs.declared.system.NodeName.{NodeName}
use Rattle.firing.specs.declared.system.NodeName.TheVariants.{Act}
use Rattle.net_board.specs.declared.control.Control.{Control}
use Rattle.net_board.specs.ControlCourse.{arrived, edge_or, moved_on, taken}
use Rattle.net_board.specs.NetLockstep.{IsInLockstep}
use Rattle.net_board.specs.Nodes.{graph_in, kind_in, first_node, is_acting, node_at, node_count, nodes_at, switches, touched}
use Rattle.net_board.specs.SoundNets.{CanCome}
use Rattle.net_board.specs.Tokens.{Tokens, is_before, left_for, pass_at, ready_as}
use Rattle.net_board.proofs.ListPrefixes.{below_length}
use Rattle.net_board.proofs.LockstepLaws.{due_ready, piece_exists, traps_touch}
use Rattle.net_board.proofs.PieceSteps.{node_named}
use Rattle.op_board.specs.Operations.{Operation}
use Rattle.op_board.specs.OperationCourse.{choice_of, control_after, decided, edge_taken}
use Rattle.op_board.specs.OperationFacts.{OperationFacts}
use Rattle.op_board.specs.OperationLists.{IsOperationList}
use Rattle.op_board.specs.OperationLockstep.{IsInOperationLockstep, act_count}
use Rattle.op_board.specs.OperationNets.{OperationNet, operation_count, operation_in, operation_node_count, operations_at}
use Rattle.op_board.specs.OperationTokens.{OperationTokens, between_pieces, performed_at}
use Rattle.op_board.specs.SoundOperationNets.{IsOperationNet}
use Rattle.op_board.proofs.AmidPieces.{IsAtPiece}
use Rattle.op_board.proofs.OtherNodes.{IsBeside, beside_count}
use Rattle.op_board.proofs.PieceNodes.{no_operations}
use Rattle.op_board.proofs.PiecesBeside.{act_first}

-- such a place
abbrev pub at_place : (piece fired leaves : ℕ) → Control
at_place piece fired leaves = record { piece = piece; fired = fired; leaves = leaves }

pub is_not : (a b : ℕ) → (a ≡ b → ⊥) → (a == b) ≡ false
is_not a b differ = ⊎_elim (λ (h : (a == b) ≡ true). absurd (differ (eqb-true a b h))) (λ (h : (a == b) ≡ false). h) (cases_Bool (a == b))

same_test : (a b c d : ℕ) → b + c ≡ d + a → nat_lt a b ≡ nat_lt c d
same_test a b c d sum = by (nat_lt a b) refl (nat_lt c d) refl
  where
    by : (p : Bool) → nat_lt a b ≡ p → (q : Bool) → nat_lt c d ≡ q → nat_lt a b ≡ nat_lt c d
    by true h true k = h ∙ sym k
    by false h false k = h ∙ sym k
    by true h false k = let less = ltb-true a b h in let more = ltb-false c d k in absurd (omega (arith, less, more, sum))
    by false h true k = let more = ltb-false a b h in let less = ltb-true c d k in absurd (omega (arith, less, more, sum))

module _ (x : OperationNet) where
  -- a piece that doesn't act leaves by the first one
  pub idle_way : (piece : ℕ) (memory : Memory) (exec : ExecKind) (k : PieceKind) → is_acting k ≡ false → edge_or (out (graph_in x.net) piece 0) (pass_of x.net.program x.net.input memory (out (graph_in x.net) piece) k exec) ≡ out (graph_in x.net) piece 0
  idle_way piece memory exec kind.Start idle = refl
  idle_way piece memory exec kind.Pass idle = refl
  idle_way piece memory exec kind.Join idle = refl
  idle_way piece memory exec kind.End idle = refl
  idle_way piece memory exec kind.Act idle = absurd cc
  idle_way piece memory exec kind.Branch idle = absurd cc
  idle_way piece memory exec kind.Hold idle = absurd cc

  none_at : (ops : List Operation) (i : ℕ) → length ops ≡ 0 → slice_get ops i ≡ None
  none_at [] i none = refl
  none_at (op ∷ ops) i none = absurd (omega (arith, none))

  -- without operations it is told as if by a hold
  pub idle_decided : (m : OperationTokens) (piece i : ℕ) → is_acting (kind_in x.net piece) ≡ false → decided x m piece i ≡ out (graph_in x.net) piece 0
  idle_decided m piece i idle = ap (λ (o : Option Operation). out (graph_in x.net) piece (choice_of (performed_at x m piece (operation_in o)))) (none_at (operations_at x piece) i (no_operations x piece idle))

module _ (x : OperationNet) (n : IsOperationNet x) (facts : OperationFacts x) (words : (k : ℕ) → HoldsWords (passes x.net.program x.net.input k).memory) where
  -- ---- a piece that acts

  pub at_start : (start : Tokens) (piece leaves : ℕ) → IsInLockstep x.net start (at_place piece 0 leaves) → CanCome x.net start → is_acting (kind_in x.net piece) ≡ true → IsAtPiece x piece start
  at_start start piece leaves lockstep comes acts =
      let exists : piece < (graph_in x.net).nodes = piece_exists x.net start (at_place piece 0 leaves) lockstep in
      let first : slice_get (nodes_at x.net piece) 0 ≡ Some (Act piece) = act_first x.net piece (kind_in x.net piece) acts in
      let low = below_length (nodes_at x.net piece) 0 (Act piece) first in
      let named : node_at x.net (first_node x.net piece + 0) ≡ Act piece = node_named x.net piece 0 (Act piece) exists first in
      let ready : ready_as x.net start (first_node x.net piece + 0) (Act piece) ≡ true = subst (λ (a : NodeName). ready_as x.net start (first_node x.net piece + 0) a ≡ true) named (due_ready x.net start (at_place piece 0 leaves) lockstep low) in
      let both = and_parts (list_all (is_before x.net start piece) (touched x.net piece)) (list_all (λ switch. not (is_some (left_for start switch))) (switches x.net piece)) ready in
      let amid = lockstep.amid in
      let way = lockstep.way in
      let marking = comes.is_marking in
      let memory_is : start.memory ≡ lockstep.memory = amid.memory_is in
      record {
        exists = exists;
        acts = acts;
        going = amid.trap_is;
        before = both.0;
        clear = both.1;
        sizes = marking.memory;
        words = subst (λ (y : Memory). HoldsWords y) (way.memory_is ∙ sym memory_is) (words lockstep.passes_made);
        traps = λ does. traps_touch x.net lockstep.is_net lockstep.passes_made lockstep.edge piece lockstep.memory way lockstep.comes (subst (λ (y : Memory). DoesTrap (pass_at x.net piece y)) memory_is does);
      }

  some_operations : (piece : ℕ) → piece < (graph_in x.net).nodes → is_acting (kind_in x.net piece) ≡ true → 0 < operation_count x piece
  some_operations piece exists acts = let list : IsOperationList (operations_at x piece) = facts.lists piece exists acts in list.some

  -- ---- where control comes to a piece

  pub begins : (start : Tokens) (piece leaves : ℕ) → IsInLockstep x.net start (at_place piece 0 leaves) → CanCome x.net start → IsInOperationLockstep x (between_pieces x start) (at_place piece 0 leaves)
  begins start piece leaves lockstep comes = by (cases_Bool (is_acting (kind_in x.net piece)))
    where
      by : (is_acting (kind_in x.net piece) ≡ true) ⊎ (is_acting (kind_in x.net piece) ≡ false) → IsInOperationLockstep x (between_pieces x start) (at_place piece 0 leaves)
      by (inl acts) = inl (record {
        start = start;
        control = at_place piece 0 leaves;
        lockstep = lockstep;
        can_come = comes;
        at_first = refl;
        same_piece = refl;
        some_left = some_operations piece (piece_exists x.net start (at_place piece 0 leaves) lockstep) acts;
        order = tt;
        is = refl;
      })
      by (inr idle) = inr (record {
        start = start;
        control = at_place piece 0 leaves;
        lockstep = lockstep;
        same_piece = refl;
        acted = λ acts. (let clash : true ≡ false = sym acts ∙ idle in absurd cc);
        fired = ap (λ (b : Bool). 0 + act_count b) idle ∙ ap (λ (a : ℕ). 0 + a) (sym (no_operations x piece idle));
        leaves = λ some. refl;
        is = refl;
      })

  -- ---- where control goes on

  -- both controls go on alike
  pub goes_on : (m : OperationTokens) (piece i leaves j left : ℕ) (start next : Tokens) → IsBeside x piece (suc i) (suc j) → edge_taken x m (at_place piece i leaves) ≡ taken x.net start (at_place piece j left) → IsInLockstep x.net next (moved_on x.net start (at_place piece j left)) → CanCome x.net next → IsInOperationLockstep x (between_pieces x next) (control_after x m (at_place piece i leaves))
  goes_on m piece i leaves j left start next is same lockstep comes = by (nat_lt (suc j) (node_count x.net piece) || is_end (kind_in x.net piece)) refl
    where
      test : (nat_lt (suc i) (operation_node_count x piece) || is_end (kind_in x.net piece)) ≡ (nat_lt (suc j) (node_count x.net piece) || is_end (kind_in x.net piece))
      test = ap (λ (b : Bool). b || is_end (kind_in x.net piece)) (same_test (suc i) (operation_node_count x piece) (suc j) (node_count x.net piece) (beside_count x piece (suc i) (suc j) is))

      by : (b : Bool) → (nat_lt (suc j) (node_count x.net piece) || is_end (kind_in x.net piece)) ≡ b → IsInOperationLockstep x (between_pieces x next) (control_after x m (at_place piece i leaves))
      by true more =
          let here : control_after x m (at_place piece i leaves) ≡ at_place piece (suc i) (edge_taken x m (at_place piece i leaves)) = ap (λ (b : Bool). if b then at_place piece (suc i) (edge_taken x m (at_place piece i leaves)) else arrived x.net (edge_taken x m (at_place piece i leaves))) (test ∙ more) in
          let there : moved_on x.net start (at_place piece j left) ≡ at_place piece (suc j) (taken x.net start (at_place piece j left)) = ap (λ (b : Bool). if b then at_place piece (suc j) (taken x.net start (at_place piece j left)) else arrived x.net (taken x.net start (at_place piece j left))) more in
          let own : IsInLockstep x.net next (at_place piece (suc j) (taken x.net start (at_place piece j left))) = subst (λ (c : Control). IsInLockstep x.net next c) there lockstep in
          subst (λ (c : Control). IsInOperationLockstep x (between_pieces x next) c) (sym here) (inr (record {
            start = next;
            control = at_place piece (suc j) (taken x.net start (at_place piece j left));
            lockstep = own;
            same_piece = refl;
            acted = is.0;
            fired = is.1;
            leaves = λ some. same;
            is = refl;
          }))
      by false last =
          let here : control_after x m (at_place piece i leaves) ≡ arrived x.net (edge_taken x m (at_place piece i leaves)) = ap (λ (b : Bool). if b then at_place piece (suc i) (edge_taken x m (at_place piece i leaves)) else arrived x.net (edge_taken x m (at_place piece i leaves))) (test ∙ last) in
          let there : moved_on x.net start (at_place piece j left) ≡ arrived x.net (taken x.net start (at_place piece j left)) = ap (λ (b : Bool). if b then at_place piece (suc j) (taken x.net start (at_place piece j left)) else arrived x.net (taken x.net start (at_place piece j left))) last in
          let d = taken x.net start (at_place piece j left) in
          let own : IsInLockstep x.net next (arrived x.net (taken x.net start (at_place piece j left))) = subst (λ (c : Control). IsInLockstep x.net next c) there lockstep in
          subst (λ (c : Control). IsInOperationLockstep x (between_pieces x next) c) (sym (here ∙ ap (arrived x.net) same)) (begins next (Rattle.net_board.specs.ControlCourse.arrival x.net d) 0 own comes)

  -- ---- by which edge

  first_taken : (start : Tokens) (piece j left : ℕ) → j ≡ 0 → taken x.net start (at_place piece j left) ≡ edge_or (out (graph_in x.net) piece 0) (pass_at x.net piece start.memory)
  first_taken start piece j left none = ap (λ (b : Bool). if b then edge_or (out (graph_in x.net) piece 0) (pass_at x.net piece start.memory) else left) (eq-eqb j 0 none)

  later_taken : (start : Tokens) (piece j left : ℕ) → (j ≡ 0 → ⊥) → taken x.net start (at_place piece j left) ≡ left
  later_taken start piece j left some = ap (λ (b : Bool). if b then edge_or (out (graph_in x.net) piece 0) (pass_at x.net piece start.memory) else left) (is_not j 0 some)

  pub past_taken : (m : OperationTokens) (piece i leaves j left : ℕ) (start : Tokens) → piece < (graph_in x.net).nodes → IsBeside x piece i j → (0 < i → leaves ≡ left) → edge_taken x m (at_place piece i leaves) ≡ taken x.net start (at_place piece j left)
  past_taken m piece i leaves j left start exists is left_is = by (cases_Bool (is_acting (kind_in x.net piece)))
    where
      first : (i ≡ operation_count x piece - 1) → edge_taken x m (at_place piece i leaves) ≡ decided x m piece i
      first same = ap (λ (b : Bool). if b then decided x m piece i else leaves) (eq-eqb i (operation_count x piece - 1) same)

      later : (i ≡ operation_count x piece - 1 → ⊥) → edge_taken x m (at_place piece i leaves) ≡ leaves
      later differ = ap (λ (b : Bool). if b then decided x m piece i else leaves) (is_not i (operation_count x piece - 1) differ)

      idle_by : is_acting (kind_in x.net piece) ≡ false → (j ≡ i) → operation_count x piece ≡ 0 → (i : ℕ) → i ≡ j → edge_taken x m (at_place piece j leaves) ≡ taken x.net start (at_place piece j left)
      idle_by idle same none zero at =
          let e : j ≡ operation_count x piece - 1 = omega (arith, none, at) in
          ap (λ (b : Bool). if b then decided x m piece j else leaves) (eq-eqb j (operation_count x piece - 1) e)
          ∙ idle_decided x m piece j idle
          ∙ sym (first_taken start piece j left (sym at) ∙ idle_way x piece start.memory (exec_kind x.net.program piece) (kind_in x.net piece) idle)
      idle_by idle same none (suc k) at =
          let e : (j ≡ operation_count x piece - 1) → ⊥ = λ h. omega (arith, none, at, h) in
          ap (λ (b : Bool). if b then decided x m piece j else leaves) (is_not j (operation_count x piece - 1) e)
          ∙ left_is (omega (arith, at, same))
          ∙ sym (later_taken start piece j left (λ h. omega (arith, at, h)))

      by : (is_acting (kind_in x.net piece) ≡ true) ⊎ (is_acting (kind_in x.net piece) ≡ false) → edge_taken x m (at_place piece i leaves) ≡ taken x.net start (at_place piece j left)
      by (inl acts) =
          let sum : i + 1 ≡ j + operation_count x piece = ap (λ (b : Bool). i + act_count b) (sym acts) ∙ is.1 in
          let some = is.0 acts in
          let many = some_operations piece exists acts in
          later (λ h. omega (arith, sum, some, many, h)) ∙ left_is (omega (arith, sum, some, many)) ∙ sym (later_taken start piece j left (λ h. omega (arith, some, h)))
      by (inr idle) =
          let none = no_operations x piece idle in
          let sum : i + 0 ≡ j + operation_count x piece = ap (λ (b : Bool). i + act_count b) (sym idle) ∙ is.1 in
          let same : j ≡ i = omega (arith, sum, none) in
          ap (λ (a : ℕ). edge_taken x m (at_place piece a leaves)) (sym same) ∙ idle_by idle same none i (sym same)

  pub last_taken : (m : OperationTokens) (piece i leaves left : ℕ) (start : Tokens) → suc i ≡ operation_count x piece → decided x m piece i ≡ edge_or (out (graph_in x.net) piece 0) (pass_at x.net piece start.memory) → edge_taken x m (at_place piece i leaves) ≡ taken x.net start (at_place piece 0 left)
  last_taken m piece i leaves left start last told =
      let e : i ≡ operation_count x piece - 1 = omega (arith, last) in
      ap (λ (b : Bool). if b then decided x m piece i else leaves) (eq-eqb i (operation_count x piece - 1) e) ∙ told

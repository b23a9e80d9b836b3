-- Loads fire line by line, and those that have fired are near.
use Rattle.std.proofs.Common.{◌≡◌, ◌<◌, ⊎_elim, inl, inr, ℕ, true, false, List, [], ◌∷◌, length, refl, sym, ap, ◌∙◌, subst}
use Rattle.std.proofs.lemmas.Bool.{cases_Bool}
use Rattle.list_laws.specs.Member.{Member}
use Rattle.firing.specs.Moves.{CanFire}
use Rattle.firing.specs.declared.system.NodeName.TheVariants.{Op}
use Rattle.net_board.proofs.ListPlaces.{all_pass, length_slice_set}
use Rattle.net_board.proofs.NodeLaws.{Distinct}
use Rattle.op_board.specs.OperationNets.{OperationNet, all_operation_nodes, needed, operation_at, operation_node}
use Rattle.op_board.proofs.NeededLines.{needed_has}
use Rattle.op_board.proofs.OperationLaws.{firing_facts}
use Rattle.op_board.proofs.OperationNumbers.{IsOperationNamed, operation_named}
use Rattle.fork_board.specs.ForkTokens.{ForkTokens, first_fork_tokens, fork_fired_as, fork_moves, fork_ready_as, is_load_node, is_open, standing}
use Rattle.fork_board.specs.LoadGroups.{is_load}
use Rattle.fork_board.specs.SoundForks.{ForksCanCome}
use Rattle.fork_board.proofs.ForkNodes.{IsLoadNamed, load_named, other_fired, other_ready}
use Rattle.fork_board.proofs.ForksApart.{IsReadyLoad, needed_line, ready_load}
use Rattle.read_forks.specs.LoadSteps.{line_read, lines_read, load_fired, load_performed}
use Rattle.read_forks.specs.LoadedGroups.{AreNear}
use Rattle.read_forks.proofs.LinesRead.{still_before}
use Rattle.read_forks.proofs.LoadFirings.{fired_in_steps, needed_distinct}
use Rattle.read_forks.proofs.NearLoads.{line_read_near, other_near}

module _ (x : OperationNet) where
  pub needs_exist : (m : ForkTokens) (piece i : ℕ) → ForksCanCome x m → IsOperationNamed x (Op piece i) → (line : ℕ) → x.needs piece i line ≡ true → Member (needed x piece i) line
  needs_exist m piece i comes named line needs = needed_line comes.ground x comes.is_net.is_net (firing_facts comes.ground x comes.is_net).touched piece i line named needs

  pub in_steps : (m : ForkTokens) (k piece i : ℕ) → ForksCanCome x m → k < length (all_operation_nodes x) → operation_node x k ≡ Op piece i → is_load (operation_at x piece i).work ≡ true → (fork_moves x).fired m k ≡ load_fired x m k piece i
  in_steps m k piece i comes below name loads =
      let named : IsOperationNamed x (Op piece i) = subst (λ a. IsOperationNamed x a) name (operation_named x k below) in
      ap (fork_fired_as x m k) name ∙ fired_in_steps x piece i (needs_exist m piece i comes named) m k loads

  -- ---- near loads

  pub nothing_near : AreNear x (first_fork_tokens x)
  nothing_near line piece number is = let e : false ≡ true = is in absurd cc

  -- a load keeps them near on one line after another
  read_near : (piece i : ℕ) (m : ForkTokens) (lines : List ℕ) → Distinct lines → ((line : ℕ) → Member lines line → (line < length m.operations.tokens.lines) × (line < length m.operations.passed)) → ((line : ℕ) → Member lines line → is_open x line piece i (standing m line) ≡ true) → AreNear x m → AreNear x (lines_read x piece i m lines)
  read_near piece i m [] apart exist before near = near
  read_near piece i m (line ∷ lines) apart exist before near =
      let there = exist line (inl refl) in
      let next : ForkTokens = line_read x piece i m line in
      let same_lines : length next.operations.tokens.lines ≡ length m.operations.tokens.lines = length_slice_set m.operations.tokens.lines line _ in
      let same_passed : length next.operations.passed ≡ length m.operations.passed = length_slice_set m.operations.passed line _ in
      read_near piece i next lines apart.1
      (λ j among. let e = exist j (inr among) in (subst (λ n. j < n) (sym same_lines) e.0, subst (λ n. j < n) (sym same_passed) e.1))
      (λ j among. still_before x piece i m line j (λ e. apart.0 (subst (λ l. Member lines l) (sym e) among)) (before j (inr among)))
      (line_read_near x piece i m line there.0 there.1 (before line (inl refl)) near)

  load_near : (m : ForkTokens) (k piece i : ℕ) → ForksCanCome x m → k < length (all_operation_nodes x) → (fork_moves x).ready m k ≡ true → operation_node x k ≡ Op piece i → is_load (operation_at x piece i).work ≡ true → AreNear x m → AreNear x ((fork_moves x).fired m k)
  load_near m k piece i comes below ready name loads near =
      let can : IsReadyLoad x m k piece i = ready_load x m k piece i loads (ap (fork_ready_as x m k) (sym name) ∙ ready) in
      subst (λ (f : ForkTokens). AreNear x f) (sym (in_steps m k piece i comes below name loads))
      (read_near piece i (load_performed x m k piece i) (needed x piece i) (needed_distinct x piece i)
      (λ line among. let low = (needed_has x piece i line among).0 in (subst (λ n. line < n) (sym comes.is_marking.tokens.lines) low, subst (λ n. line < n) (sym comes.is_marking.passed) low))
      (λ line among. all_pass (λ line. is_open x line piece i (standing m line)) (needed x piece i) line can.lines among)
      near)

  pub stays_near : (m : ForkTokens) (k : ℕ) → ForksCanCome x m → CanFire (fork_moves x) m k → AreNear x m → AreNear x ((fork_moves x).fired m k)
  stays_near m k comes can near = ⊎_elim
      (λ (load : is_load_node x (operation_node x k) ≡ true). let n : IsLoadNamed x (operation_node x k) = load_named x (operation_node x k) load in load_near m k n.piece n.number comes can.node can.ready n.is n.loads near)
      (λ (other : is_load_node x (operation_node x k) ≡ false).
      subst (λ (f : ForkTokens). AreNear x f) (sym (other_fired x m k (operation_node x k) other))
      (other_near comes.ground x comes.is_net (firing_facts comes.ground x comes.is_net) m k (record { ground = comes.ground; is_net = comes.is_net; is_marking = comes.is_marking }) can.node (sym (other_ready x m k (operation_node x k) other) ∙ can.ready) other near))
      (cases_Bool (is_load_node x (operation_node x k)))

-- How long the own order of a net of operations is.
use Rattle.std.proofs.Common.{◌≡◌, ◌≢◌, ◌<◌, ◌≤◌, ◌⊎◌, ⊎_elim, ℕ, zero, suc, ◌+◌, ◌*◌, Bool, true, false, if◌then◌else◌, List, [], ◌∷◌, length, sum_by, take, Some, slice_get, slice_index, refl, sym, ap, ◌∙◌, subst, inl, inr, length-append, mul-le-mul_right, suc-mul, mul-suc, arith}
use Rattle.std.proofs.lemmas.Bool.{cases_Bool}
use Rattle.std.proofs.lemmas.List.Sums.{sum_by-append, sum_by-cons}
use Rattle.std.specs.List.{range_with_len}
use Rattle.closed_walks.specs.Graph.{to}
use Rattle.f77_tree.specs.declared.programs.Exec.{Exec}
use Rattle.f77_tree.specs.Operations.{most_operations}
use Rattle.f77_tree.specs.Run.{Mark, Running, Ended, Trapped, State, source}
use Rattle.f77_tree.specs.Steps.{HoldsWords}
use Rattle.cfg_build.specs.Chains.{chain, entry, following, goes_on, passes_of}
use Rattle.cfg_build.specs.Flow.{flow, piece_at}
use Rattle.cfg_build.specs.Passes.{Passed, Along, Traps, Done, PassState, out, pass, passes}
use Rattle.cfg_build.specs.Steps.{ComesTo, IsWithin, IsWithinStep, led_in}
use Rattle.net_board.specs.FlowFacts.{FlowFacts}
use Rattle.net_board.specs.Nodes.{graph_in, kind_in, is_acting, node_count, nodes_of}
use Rattle.net_board.specs.OwnOrder.{own_passes}
use Rattle.net_board.specs.SoundNets.{CanCome, IsNet}
use Rattle.net_board.specs.Tokens.{Tokens, first_tokens, net_moves}
use Rattle.firing.specs.Orders.{after}
use Rattle.net_board.proofs.ListPrefixes.{HasItem, item_at, take_more, take_whole}
use Rattle.net_board.proofs.OrderBounds.{nodes_few, some_line}
use Rattle.net_board.proofs.PassLockstep.{IsPassLockstep, StandsBeside, pass_lockstep}
use Rattle.op_board.specs.OperationFacts.{OperationFacts}
use Rattle.op_board.specs.OperationNets.{OperationNet, first_operation, operation_count, operation_node_count}
use Rattle.op_board.specs.OperationOrder.{operation_firings, operation_firings_from, own_operation_passes, own_operations}
use Rattle.op_board.specs.OperationSimulation.{AreFewOperations}
use Rattle.op_board.specs.OrderFacts.{HasChain}
use Rattle.op_board.specs.SoundOperationNets.{IsOperationNet}
use Rattle.op_board.proofs.ChainOperations.{chain_few, more_than_one}
use Rattle.op_board.proofs.PassesBeside.{acting_at, acts, comes_after, many, stop}
use Rattle.op_board.proofs.PieceLines.{low_or_high}
use Rattle.op_board.proofs.PieceNodes.{acting_count, nodes_same}
use Rattle.op_board.proofs.PieceRuns.{IsStopRun}
use Rattle.op_board.proofs.ReplacedItems.{index_is}

length_range : (a n : ℕ) → length (range_with_len a n) ≡ n
length_range a zero = refl
length_range a (suc n) = ap suc (length_range (a + 1) n)

following_few : (most : ℕ) (execs : List Exec) (node : ℕ) → length (following most execs node) ≤ most
following_few zero execs node = omega arith
following_few (suc most) execs node = by (goes_on execs (piece_at (flow execs).pieces node)) (following_few most execs (to (flow execs).graph (out (flow execs).graph node 0)))
  where
    by : (b : Bool) → length (following most execs (to (flow execs).graph (out (flow execs).graph node 0))) ≤ most → length (node ∷ (if b then following most execs (to (flow execs).graph (out (flow execs).graph node 0)) else [])) ≤ suc most
    by true few = omega (arith, few)
    by false few = omega arith

-- so much for each, and what each has besides
sum_each : (l : ℕ) (f : ℕ → ℕ) (xs : List ℕ) → sum_by (λ k. l + f k) xs ≡ length xs * l + sum_by f xs
sum_each l f [] = zero_times l
  where
    zero_times : (a : ℕ) → 0 ≡ 0 * a + 0
    zero_times a = omega arith
sum_each l f (k ∷ xs) =
    let here = sum_by-cons (λ i. l + f i) k xs in
    let there = sum_by-cons f k xs in
    let rest = sum_each l f xs in
    let times : suc (length xs) * l ≡ length xs * l + l = suc-mul (length xs) l in
    sums (sum_by (λ i. l + f i) (k ∷ xs)) l (f k) (sum_by (λ i. l + f i) xs) (length xs * l) (sum_by f xs) (sum_by f (k ∷ xs)) (suc (length xs) * l) here there rest times
  where
    sums : (all l f rest a b c d : ℕ) → all ≡ l + f + rest → c ≡ f + b → rest ≡ a + b → d ≡ a + l → all ≡ d + c
    sums all l f rest a b c d here there more times = omega (arith, here, there, more, times)

is_running : (mark : Mark) → (mark ≡ Running) ⊎ (mark ≢ Running)
is_running Running = inl refl
is_running Ended = inr (λ e. cc)
is_running (Trapped trap line) = inr (λ e. cc)

module _ (x : OperationNet) (n : IsOperationNet x) (facts : OperationFacts x) (is_net : IsNet x.net) (ground : FlowFacts x.net is_net.tree) (first_comes : CanCome x.net (first_tokens x.net)) (words : (k : ℕ) → HoldsWords (passes x.net.program x.net.input k).memory) where
  -- what a pass fires at a piece, at most
  abbrev weight : ℕ → ℕ
  weight piece = x.net.routing.lines + more_than_one x piece

  nodes_weigh : (piece : ℕ) → piece < (graph_in x.net).nodes → operation_node_count x piece ≤ x.net.routing.lines + more_than_one x piece
  nodes_weigh piece exists = by (cases_Bool (is_acting (kind_in x.net piece)))
    where
      by : (is_acting (kind_in x.net piece) ≡ true) ⊎ (is_acting (kind_in x.net piece) ≡ false) → operation_node_count x piece ≤ x.net.routing.lines + more_than_one x piece
      by (inl acting) =
          let few = nodes_few x.net is_net ground piece (kind_in x.net piece) exists refl in
          let count = acting_count x piece acting in
          omega (arith, few, count)
      by (inr idle) =
          let few = nodes_few x.net is_net ground piece (kind_in x.net piece) exists refl in
          let same : operation_node_count x piece ≡ node_count x.net piece = ap (λ names. length names) (nodes_same x piece idle) in
          omega (arith, few, same)

  module _ (k : ℕ) (m : Tokens) (room : length m.edges ≡ length (nodes_of x.net)) (comes : CanCome x.net m) (running : (passes x.net.program x.net.input k).mark ≡ Running) (stands : StandsBeside x.net is_net ground m (passes x.net.program x.net.input k) Running) where
    all_weigh : length (range_with_len (first_operation x (to (graph_in x.net) (passes x.net.program x.net.input k).edge)) (operation_node_count x (to (graph_in x.net) (passes x.net.program x.net.input k).edge))) ≤ weight (to (graph_in x.net) (passes x.net.program x.net.input k).edge)
    all_weigh =
        let piece = to (graph_in x.net) (passes x.net.program x.net.input k).edge in
        let few = nodes_weigh piece (ground.graph.heads (passes x.net.program x.net.input k).edge stands.1) in
        let long = length_range (first_operation x piece) (operation_node_count x piece) in
        omega (arith, few, long)

    pass_weighs : (made : Passed) → pass x.net.program x.net.input (passes x.net.program x.net.input k).edge (passes x.net.program x.net.input k).memory ≡ made → length (operation_firings x (to (graph_in x.net) (passes x.net.program x.net.input k).edge) (passes x.net.program x.net.input k).memory made) ≤ weight (to (graph_in x.net) (passes x.net.program x.net.input k).edge)
    pass_weighs (Along d new text) is = all_weigh
    pass_weighs Done is = all_weigh
    pass_weighs (Traps trap) is =
        let piece = to (graph_in x.net) (passes x.net.program x.net.input k).edge in
        let own : IsStopRun x n facts piece m (acting_at x n facts is_net ground first_comes words k m room comes running stands (acts x n facts is_net ground first_comes words k m room comes running stands trap is)) = stop x n facts is_net ground first_comes words k m room comes running stands trap is in
        let inside = own.inside in
        let line = some_line x.net is_net ground in
        let few : suc own.number ≤ weight piece = omega (arith, inside, line) in
        subst (λ (i : ℕ). length (range_with_len (first_operation x piece) i) ≤ weight piece) (sym (many x n facts is_net ground first_comes words k m room comes running stands trap is)) (subst (λ (i : ℕ). i ≤ weight piece) (sym (length_range (first_operation x piece) (suc own.number))) few)

  -- a pass fires as many as its piece weighs, at most
  firings_weigh : (k : ℕ) (mark : Mark) → (passes x.net.program x.net.input k).mark ≡ mark → mark ≡ Running → length (operation_firings_from x (passes x.net.program x.net.input k) mark) ≤ weight (to (graph_in x.net) (passes x.net.program x.net.input k).edge)
  firings_weigh k Running is runs =
      let lockstep : IsPassLockstep x.net is_net ground k = pass_lockstep x.net is_net ground k in
      let m = after (net_moves x.net) (first_tokens x.net) (own_passes x.net k) in
      pass_weighs k m lockstep.room_is (comes_after x n facts is_net ground first_comes words k) is (subst (λ (mark : Mark). StandsBeside x.net is_net ground m (passes x.net.program x.net.input k) mark) is lockstep.stands)
      (pass x.net.program x.net.input (passes x.net.program x.net.input k).edge (passes x.net.program x.net.input k).memory) refl
  firings_weigh k Ended is runs = absurd cc
  firings_weigh k (Trapped trap line) is runs = absurd cc

  no_firings : (y : PassState) (mark : Mark) → mark ≢ Running → length (operation_firings_from x y mark) ≡ 0
  no_firings y Running other = absurd (other refl)
  no_firings y Ended other = refl
  no_firings y (Trapped trap line) other = refl

  module _ (few : (piece : ℕ) → operation_count x piece ≤ most_operations x.net.program) (chains : (k : ℕ) → HasChain x (source x.net.program x.net.input k).position) (within : (k i : ℕ) → i < length (chain x.net.program.execs (source x.net.program x.net.input k).position) → IsWithinStep x.net.program x.net.input k i) where
    module _ (steps : ℕ) where
      abbrev pieces : List ℕ
      pieces = chain x.net.program.execs (source x.net.program x.net.input steps).position

      abbrev begun : ℕ
      begun = passes_of x.net.program x.net.input steps

      -- where the run goes on, it comes to the pieces of the chain
      comes_by : (node : ℕ) (before : State) (y : PassState) → ComesTo (graph_in x.net) node before y → y.mark ≡ Running → to (graph_in x.net) y.edge ≡ node
      comes_by node before y comes runs = comes.comes (sym comes.mark_is ∙ runs)

      piece_of : (i : ℕ) → i < length (chain x.net.program.execs (source x.net.program x.net.input steps).position) → (passes x.net.program x.net.input (passes_of x.net.program x.net.input steps + i)).mark ≡ Running → to (graph_in x.net) (passes x.net.program x.net.input (passes_of x.net.program x.net.input steps + i)).edge ≡ slice_index (chain x.net.program.execs (source x.net.program x.net.input steps).position) i
      piece_of i low runs =
          let p = x.net.program in
          let y = passes p x.net.input (passes_of p x.net.input steps + i) in
          let f = flow p.execs in
          let is : IsWithin f pieces i (source p x.net.input steps) (source p x.net.input (suc steps)) y = within steps i low in
          ⊎_elim
          (λ (past : led_in f pieces < i). comes_by (slice_index pieces i) (source p x.net.input (suc steps)) y (is.past_own past) runs)
          (λ (up : i ≤ led_in f pieces). comes_by (slice_index pieces i) (source p x.net.input steps) y (is.up_to_own up) runs)
          (low_or_high (led_in f pieces) i)

      one_more : (i piece : ℕ) → slice_get (chain x.net.program.execs (source x.net.program x.net.input steps).position) i ≡ Some piece → i < length (chain x.net.program.execs (source x.net.program x.net.input steps).position) → length (operation_firings_from x (passes x.net.program x.net.input (passes_of x.net.program x.net.input steps + i)) (passes x.net.program x.net.input (passes_of x.net.program x.net.input steps + i)).mark) ≤ weight piece
      one_more i piece at low = by (is_running (passes x.net.program x.net.input (begun + i)).mark)
        where
          by : ((passes x.net.program x.net.input (begun + i)).mark ≡ Running) ⊎ ((passes x.net.program x.net.input (begun + i)).mark ≢ Running) → length (operation_firings_from x (passes x.net.program x.net.input (begun + i)) (passes x.net.program x.net.input (begun + i)).mark) ≤ weight piece
          by (inl runs) =
              let same : to (graph_in x.net) (passes x.net.program x.net.input (begun + i)).edge ≡ piece = piece_of i low runs ∙ index_is pieces i piece at in
              subst (λ (q : ℕ). length (operation_firings_from x (passes x.net.program x.net.input (begun + i)) (passes x.net.program x.net.input (begun + i)).mark) ≤ weight q) same (firings_weigh (begun + i) (passes x.net.program x.net.input (begun + i)).mark refl runs)
          by (inr other) = let none = no_firings (passes x.net.program x.net.input (begun + i)) (passes x.net.program x.net.input (begun + i)).mark other in omega (arith, none)

      so_many : (i : ℕ) → i ≤ length (chain x.net.program.execs (source x.net.program x.net.input steps).position) → length (own_operation_passes x (passes_of x.net.program x.net.input steps + i)) ≤ length (own_operation_passes x (passes_of x.net.program x.net.input steps)) + sum_by weight (take i (chain x.net.program.execs (source x.net.program x.net.input steps).position))
      so_many zero low = subst (λ (j : ℕ). length (own_operation_passes x j) ≤ length (own_operation_passes x begun) + 0) (plus_zero begun) (omega arith)
        where
          plus_zero : (a : ℕ) → a ≡ a + 0
          plus_zero a = omega arith
      so_many (suc i) low =
          let e : suc (begun + i) ≡ begun + suc i = omega arith in
          on e (so_many i (omega (arith, low))) (item_at pieces i (omega (arith, low)))
        where
          on : suc (begun + i) ≡ begun + suc i → length (own_operation_passes x (begun + i)) ≤ length (own_operation_passes x begun) + sum_by weight (take i pieces) → HasItem pieces i → length (own_operation_passes x (begun + suc i)) ≤ length (own_operation_passes x begun) + sum_by weight (take (suc i) pieces)
          on e before own =
              let y = passes x.net.program x.net.input (begun + i) in
              let long = length-append (own_operation_passes x (begun + i)) (operation_firings_from x y y.mark) in
              let one = one_more i own.item own.at (omega (arith, low)) in
              let sum : sum_by weight (take (suc i) pieces) ≡ sum_by weight (take i pieces) + sum_by weight (own.item ∷ []) = ap (sum_by weight) (take_more pieces i own.item own.at) ∙ sum_by-append weight (take i pieces) (own.item ∷ []) in
              let last = sum_by-cons weight own.item [] in
              subst (λ (j : ℕ). length (own_operation_passes x j) ≤ length (own_operation_passes x begun) + sum_by weight (take (suc i) pieces)) e
              (sums (length (own_operation_passes x (suc (begun + i)))) (length (own_operation_passes x (begun + i))) (length (operation_firings_from x y y.mark)) (length (own_operation_passes x begun)) (sum_by weight (take i pieces)) (sum_by weight (take (suc i) pieces)) (sum_by weight (own.item ∷ [])) (weight own.item) long before one sum last)
            where
              sums : (all a b c d e f w : ℕ) → all ≡ a + b → a ≤ c + d → b ≤ w → e ≡ d + f → f ≡ w + 0 → all ≤ c + e
              sums all a b c d e f w long before one sum last = omega (arith, long, before, one, sum, last)

      -- a step takes five passes at most
      pub step_few : length (own_operations x (suc steps)) ≤ length (own_operations x steps) + (5 * x.net.routing.lines + most_operations x.net.program)
      step_few =
          let whole = so_many (length pieces) (omega arith) in
          let all : sum_by weight (take (length pieces) pieces) ≡ length pieces * x.net.routing.lines + sum_by (more_than_one x) pieces = ap (sum_by weight) (take_whole pieces) ∙ sum_each x.net.routing.lines (more_than_one x) pieces in
          let five = mul-le-mul_right x.net.routing.lines (following_few 5 x.net.program.execs (entry x.net.program.execs (source x.net.program x.net.input steps).position)) in
          let most = chain_few x few (source x.net.program x.net.input steps).position (chains steps) in
          sums (length (own_operations x (suc steps))) (length (own_operations x steps)) (sum_by weight (take (length pieces) pieces)) (length pieces * x.net.routing.lines) (sum_by (more_than_one x) pieces) (5 * x.net.routing.lines) (most_operations x.net.program) whole all five most
        where
          sums : (all a b c d e f : ℕ) → all ≤ a + b → b ≡ c + d → c ≤ e → d ≤ f → all ≤ a + (e + f)
          sums all a b c d e f whole parts five most = omega (arith, whole, parts, five, most)

    pub few_operations : (steps : ℕ) → AreFewOperations x steps
    few_operations zero = omega arith
    few_operations (suc steps) =
        let before = few_operations steps in
        let one = step_few steps in
        let times = mul-suc (5 * x.net.routing.lines + most_operations x.net.program) steps in
        sums (length (own_operations x (suc steps))) (length (own_operations x steps)) (5 * x.net.routing.lines + most_operations x.net.program) ((5 * x.net.routing.lines + most_operations x.net.program) * steps) ((5 * x.net.routing.lines + most_operations x.net.program) * suc steps) one before times
      where
        sums : (all a b c d : ℕ) → all ≤ a + b → a ≤ c → d ≡ c + b → all ≤ d
        sums all a b c d one before times = omega (arith, one, before, times)

-- How long the source's own order is, and what words it leaves.
use Rattle.std.proofs.Common.{◌≡◌, ℕ, zero, suc, ◌+◌, ◌*◌, ◌<◌, ◌≤◌, ◌&&◌, Bool, true, false, not, cond, if◌then◌else◌, List, [], ◌∷◌, length, map, filter, refl, sym, ap, ◌∙◌, subst, inl, inr, length-append, mul-le-mul_right, mul_right_comm, suc-mul, arith}
use Rattle.std.specs.List.{range_with_len}
use Rattle.closed_walks.specs.Graph.{to}
use Rattle.f77_tree.specs.declared.programs.Exec.{Exec}
use Rattle.f77_tree.specs.Run.{Mark, Running, Ended, Trapped, source}
use Rattle.cfg_build.specs.declared.pieces.PieceKind.{PieceKind}
use Rattle.cfg_build.specs.declared.pieces.PieceKind.TheVariants as kind
use Rattle.cfg_build.specs.Chains.{StandsAt, chain, following, goes_on, passes_of}
use Rattle.cfg_build.specs.Flow.{flow, piece_at}
use Rattle.cfg_build.specs.Passes.{Passed, Along, Traps, Done, PassState, out, pass, passes}
use Rattle.firing.specs.Orders.{after}
use Rattle.firing.specs.declared.system.NodeName.{NodeName}
use Rattle.firing.specs.declared.system.NodeName.TheVariants.{Merge, Switch}
use Rattle.net_board.specs.SoundNets.{IsNet}
use Rattle.net_board.specs.FlowFacts.{FlowFacts}
use Rattle.list_laws.specs.Member.{Member}
use Rattle.net_board.specs.NetLockstep.{IsInLockstep}
use Rattle.net_board.specs.ControlCourse.{first_control}
use Rattle.net_board.specs.Nodes.{NetOf, graph_in, kind_in, is_acting, is_free, all_lines, led_to, passing, nodes_by, node_count, first_node}
use Rattle.net_board.specs.OwnOrder.{firings_of, firings_from, own_passes, own_order}
use Rattle.net_board.specs.ProgramStages.{RunFacts}
use Rattle.net_board.specs.Tokens.{Tokens, net_moves, first_tokens}
use Rattle.list_laws.proofs.Members.{Member-range}
use Rattle.net_board.proofs.LockstepLaws.{in_lockstep_arrived}
use Rattle.net_board.proofs.PassLockstep.{StandsBeside, IsPassLockstep, pass_lockstep, begins_between}
use Rattle.net_board.proofs.ControlWays.{IsThere}

-- ---- lengths

length_map : (f : ℕ → NodeName) (lines : List ℕ) → length (map f lines) ≡ length lines
length_map f [] = refl
length_map f (x ∷ lines) = ap suc (length_map f lines)

length_range : (a n : ℕ) → length (range_with_len a n) ≡ n
length_range a zero = refl
length_range a (suc n) = ap suc (length_range (a + 1) n)

cond_most : (b : Bool) (x : ℕ) (ys : List ℕ) (n : ℕ) → length ys ≤ n → length (cond b (x ∷ ys) ys) ≤ suc n
cond_most true x ys n few = omega (arith, few)
cond_most false x ys n few = omega (arith, few)

filter_most : (test : ℕ → Bool) (xs : List ℕ) → length (filter test xs) ≤ length xs
filter_most test [] = omega arith
filter_most test (x ∷ xs) = cond_most (test x) x (filter test xs) (length xs) (filter_most test xs)

-- where one doesn't pass, fewer do
filter_less : (test : ℕ → Bool) (xs : List ℕ) (x : ℕ) → Member xs x → test x ≡ false → length (filter test xs) < length xs
filter_less test [] x m not_so = absurd m
filter_less test (y ∷ ys) x (inl same) not_so =
    let most = filter_most test ys in
    let here : test y ≡ false = ap test same ∙ not_so in
    subst (λ (b : Bool). length (cond b (y ∷ filter test ys) (filter test ys)) < suc (length ys)) (sym here) (omega (arith, most))
filter_less test (y ∷ ys) x (inr m) not_so = by (test y) (filter_less test ys x m not_so)
  where
    by : (b : Bool) → length (filter test ys) < length ys → length (cond b (y ∷ filter test ys) (filter test ys)) < suc (length ys)
    by true less = omega (arith, less)
    by false less = omega (arith, less)

following_few : (most : ℕ) (execs : List Exec) (node : ℕ) → length (following most execs node) ≤ most
following_few zero execs node = omega arith
following_few (suc most) execs node = by (goes_on execs (piece_at (flow execs).pieces node)) (following_few most execs (to (flow execs).graph (out (flow execs).graph node 0)))
  where
    by : (b : Bool) → length (following most execs (to (flow execs).graph (out (flow execs).graph node 0))) ≤ most → length (node ∷ (if b then following most execs (to (flow execs).graph (out (flow execs).graph node 0)) else [])) ≤ suc most
    by true few = omega (arith, few)
    by false few = omega arith

few_passes : (net : NetOf) (n : ℕ) → passes_of net.program net.input n ≤ 5 * n
few_passes net zero = omega arith
few_passes net (suc n) = more (passes_of net.program net.input n) (length (chain net.program.execs (source net.program net.input n).position)) (few_passes net n) (following_few 5 net.program.execs (Rattle.cfg_build.specs.Chains.entry net.program.execs (source net.program net.input n).position))
  where
    more : (a b : ℕ) → a ≤ 5 * n → b ≤ 5 → a + b ≤ 5 * suc n
    more a b low few = omega (arith, low, few)

module _ (net : NetOf) (is_net : IsNet net) (ground : FlowFacts net is_net.tree) where
  all_long : length (all_lines net) ≡ net.routing.lines
  all_long = length_range 0 net.routing.lines

  -- one node for what the piece touches, and a switch for each other line at most
  acting_few : (piece : ℕ) → piece < (graph_in net).nodes → is_acting (kind_in net piece) ≡ true → suc (length (passing net piece)) ≤ net.routing.lines
  acting_few piece exists acts =
      let line = ground.touch_some piece exists acts in
      let low = line.1 in
      let test : ℕ → Bool = λ l. is_free net piece l && not (net.touches piece l) in
      let less = filter_less test (all_lines net) line.0 (Member-range 0 net.routing.lines line.0 (omega arith) (omega (arith, low))) (ap (λ (b : Bool). is_free net piece line.0 && not b) line.2 ∙ and_false (is_free net piece line.0)) in
      let long = all_long in
      omega (arith, less, long)
    where
      and_false : (b : Bool) → (b && false) ≡ false
      and_false true = refl
      and_false false = refl

  pub nodes_few : (piece : ℕ) (k : PieceKind) → piece < (graph_in net).nodes → kind_in net piece ≡ k → length (nodes_by net piece k) ≤ net.routing.lines
  nodes_few piece kind.Act exists is = let few = acting_few piece exists (ap is_acting is) in omega (arith, few)
  nodes_few piece kind.Branch exists is = let few = acting_few piece exists (ap is_acting is) in let long = length_map (Switch piece) (passing net piece) in omega (arith, few, long)
  nodes_few piece kind.Hold exists is = let few = acting_few piece exists (ap is_acting is) in let long = length_map (Switch piece) (passing net piece) in omega (arith, few, long)
  nodes_few piece kind.Join exists is = let most = filter_most (is_free net piece) (all_lines net) in let long = all_long in let same = length_map (Merge piece) (led_to net piece) in omega (arith, most, long, same)
  nodes_few piece kind.End exists is = let most = filter_most (is_free net piece) (all_lines net) in let long = all_long in let same = length_map (Merge piece) (led_to net piece) in omega (arith, most, long, same)
  nodes_few piece kind.Start exists is = omega arith
  nodes_few piece kind.Pass exists is = omega arith

  pub some_line : 1 ≤ net.routing.lines
  some_line = subst (λ (i : ℕ). 1 ≤ i) (sym is_net.own_routing.count) (omega arith)

  firings_few : (piece : ℕ) (made : Passed) → piece < (graph_in net).nodes → length (firings_of net piece made) ≤ net.routing.lines
  firings_few piece (Along d new text) exists = let few = nodes_few piece (kind_in net piece) exists refl in let long = length_range (first_node net piece) (node_count net piece) in omega (arith, few, long)
  firings_few piece Done exists = let few = nodes_few piece (kind_in net piece) exists refl in let long = length_range (first_node net piece) (node_count net piece) in omega (arith, few, long)
  firings_few piece (Traps trap) exists = some_line

  pass_few : (n : ℕ) (mark : Mark) → StandsBeside net is_net ground (after (net_moves net) (first_tokens net) (own_passes net n)) (passes net.program net.input n) mark → length (firings_from net (passes net.program net.input n) mark) ≤ net.routing.lines
  pass_few n Running stands = firings_few (to (graph_in net) (passes net.program net.input n).edge) (pass net.program net.input (passes net.program net.input n).edge (passes net.program net.input n).memory) (ground.graph.heads (passes net.program net.input n).edge stands.1)
  pass_few n Ended stands = omega arith
  pass_few n (Trapped trap line) stands = omega arith

  own_few : (n : ℕ) → length (own_passes net n) ≤ n * net.routing.lines
  own_few zero = omega arith
  own_few (suc n) =
      let lockstep : IsPassLockstep net is_net ground n = pass_lockstep net is_net ground n in
      let x = passes net.program net.input n in
      let long = length-append (own_passes net n) (firings_from net x x.mark) in
      let before = own_few n in
      let here = pass_few n x.mark lockstep.stands in
      more (length (own_passes net (suc n))) (length (own_passes net n)) (length (firings_from net x x.mark)) (n * net.routing.lines) (suc n * net.routing.lines) net.routing.lines long before here (suc-mul n net.routing.lines)
    where
      more : (all a b c d l : ℕ) → all ≡ a + b → a ≤ c → b ≤ l → d ≡ c + l → all ≤ d
      more all a b c d l long before here times = omega (arith, long, before, here, times)

  -- a step takes five passes at most, and a pass fires a node for each line at most
  pub order_few : (n : ℕ) → length (own_order net n) ≤ 5 * net.routing.lines * n
  order_few n =
      let few = own_few (passes_of net.program net.input n) in
      let most = mul-le-mul_right net.routing.lines (few_passes net n) in
      let same : 5 * n * net.routing.lines ≡ 5 * net.routing.lines * n = mul_right_comm 5 n net.routing.lines in
      subst (λ (i : ℕ). length (own_order net n) ≤ i) same (Rattle.std.proofs.Common.le_trans few most)

  -- ---- words

  memory_beside : (m : Tokens) (x : PassState) (mark : Mark) → StandsBeside net is_net ground m x mark → m.memory ≡ x.memory
  memory_beside m x Running stands = let between = stands.2 in between.memory_is
  memory_beside m x Ended stands = stands.memory_is
  memory_beside m x (Trapped trap line) stands = stands.1

  pub order_memory : RunFacts net is_net.tree → (n : ℕ) → (after (net_moves net) (first_tokens net) (own_order net n)).memory ≡ (source net.program net.input n).memory
  order_memory run n =
      let k = passes_of net.program net.input n in
      let lockstep : IsPassLockstep net is_net ground k = pass_lockstep net is_net ground k in
      let stand : StandsAt net.program (source net.program net.input n) (passes net.program net.input k) = run.steps n in
      memory_beside (after (net_moves net) (first_tokens net) (own_passes net k)) (passes net.program net.input k) (passes net.program net.input k).mark lockstep.stands ∙ stand.memory_is

  -- ---- the first place

  pub begins_in_lockstep : IsInLockstep net (first_tokens net) (first_control net)
  begins_in_lockstep =
      let two = ground.graph.shape.two_edges in
      let there : IsThere net is_net ground (first_tokens net) 1 = record {
        passes_made = 0;
        memory = Rattle.f77_tree.specs.Run.first_memory net.program;
        way = record { running = refl; edge_is = refl; memory_is = refl; exists = two; later = omega arith };
        between = begins_between net is_net ground;
      } in
      in_lockstep_arrived net is_net ground (first_tokens net) 1 two there

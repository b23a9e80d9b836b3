-- The source's own order of a net stays in lockstep with the steps of its program.
use Rattle.std.proofs.Common.{◌≡◌, ◌≢◌, ℕ, zero, suc, ◌+◌, ◌<◌, ◌≤◌, ◌⊎◌, true, List, [], ◌∷◌, length, Some, slice_get, refl, sym, ap, ◌∙◌, subst, inl, inr, ⊎_elim, eq-eqb, arith}
use Rattle.std.specs.List.{range_with_len}
use Rattle.f77_tree.specs.Run.{Mark, Running, Ended, Trapped, source}
use Rattle.cfg_build.specs.Chains.{StandsAt, passes_of, chain}
use Rattle.cfg_build.specs.Passes.{Passed, Along, Traps, Done, PassState, pass, passes, passed_from}
use Rattle.dep_routing.specs.Quiet.{IsFree}
use Rattle.dep_routing.specs.Sound.{DoesTrap, comes_to}
use Rattle.firing.specs.Orders.{after, counted, serial_count}
use Rattle.firing.specs.Pacing.{Going, IsBusy, IsSimulation}
use Rattle.firing.specs.Pacing as pacing
use Rattle.firing.specs.declared.system.NodeName.{NodeName}
use Rattle.firing.specs.declared.system.NodeName.TheVariants.{Act, Merge, Switch, Op}
use Rattle.net_board.specs.WithinPiece.{moved_by}
use Rattle.net_board.specs.SoundNets.{IsNet}
use Rattle.net_board.specs.FlowFacts.{FlowFacts}
use Rattle.list_laws.specs.Member.{Member}
use Rattle.net_board.specs.NetLockstep.{IsOnWay}
use Rattle.net_board.specs.Nodes.{NetOf, graph_in, kind_in, is_free, nodes_at, node_count, node_at, first_node}
use Rattle.net_board.specs.OwnOrder.{firings_of, firings_from, own_passes, own_order}
use Rattle.net_board.specs.ProgramStages.{stage_of, program_stage, program_text, OutputMoves, RunFacts}
use Rattle.net_board.specs.Tokens.{Tokens, net_moves, first_tokens, pass_at, serial_as}
use Rattle.net_board.proofs.FreeLines.{test_of_free}
use Rattle.list_laws.proofs.Members.{IsFromOne, Member-filtered, Member-range, Member-flat_mapped}
use Rattle.net_board.proofs.OrderJoins.{serial_join}
use Rattle.net_board.proofs.LockstepLaws.{traps_touch}
use Rattle.net_board.proofs.PassLockstep.{StandsBeside, IsPassLockstep, pass_lockstep, trap_acts}
use Rattle.net_board.proofs.PieceEnds.{moves_each}
use Rattle.net_board.proofs.PieceSteps.{exists, node_named}
use Rattle.net_board.proofs.ListPrefixes.{below_length}
use Rattle.net_board.proofs.RestLaws.{rests}
use Rattle.net_board.proofs.ControlWays.{not_start}

-- ---- members and their places

pub record IsAtPlace {X : Type 0} (xs : List X) (x : X) : Type 0 where
  pub place : ℕ
  pub is : slice_get xs place ≡ Some x

place_of_member : {X : Type 0} (xs : List X) (x : X) → Member xs x → IsAtPlace xs x
place_of_member [] x m = absurd m
place_of_member (y ∷ ys) x (inl same) = record { place = 0; is = ap (λ z. Some z) same }
place_of_member (y ∷ ys) x (inr m) = let r : IsAtPlace ys x = place_of_member ys x m in record { place = suc r.place; is = r.is }

serial_some : (net : NetOf) (ks : List ℕ) (k : ℕ) → Member ks k → serial_as net (node_at net k) ≡ true → 1 ≤ serial_count (net_moves net) ks
serial_some net [] k m is = absurd m
serial_some net (j ∷ ks) k (inl same) is = at_least (counted (serial_as net (node_at net j))) (serial_count (net_moves net) ks) (ap (λ (i : ℕ). counted (serial_as net (node_at net i))) same ∙ ap counted is)
  where
    at_least : (a b : ℕ) → a ≡ 1 → 1 ≤ a + b
    at_least a b is = omega (arith, is)
serial_some net (j ∷ ks) k (inr m) is = at_least (counted (serial_as net (node_at net j))) (serial_count (net_moves net) ks) (serial_some net ks k m is)
  where
    at_least : (a b : ℕ) → 1 ≤ b → 1 ≤ a + b
    at_least a b is = omega (arith, is)

is_running : (mark : Mark) → (mark ≡ Running) ⊎ (mark ≢ Running)
is_running Running = inl refl
is_running Ended = inr (λ e. cc)
is_running (Trapped trap line) = inr (λ e. cc)

going_runs : (mark : Mark) → stage_of mark ≡ Going → mark ≡ Running
going_runs Running is = refl
going_runs Ended is = absurd cc
going_runs (Trapped trap line) is = absurd cc

-- a node that moves the line of output is serial
moves_serial : (net : NetOf) (name : NodeName) → Member (moved_by net name) 0 → serial_as net name ≡ true
moves_serial net (Act piece) m = (Member-filtered (net.touches piece) (range_with_len 0 net.routing.lines) 0 m).1
moves_serial net (Switch piece line) (inl same) = eq-eqb line 0 same
moves_serial net (Switch piece line) (inr none) = absurd none
moves_serial net (Merge piece line) (inl same) = eq-eqb line 0 same
moves_serial net (Merge piece line) (inr none) = absurd none
moves_serial net (Op piece i) m = absurd m

module _ (net : NetOf) (is_net : IsNet net) (ground : FlowFacts net is_net.tree) where
  -- ---- passes that fire serial nodes

  module _ (n : ℕ) (running : (passes net.program net.input n).mark ≡ Running) (free : IsFree (graph_in net) is_net.tree net.touches 0 (comes_to net.program net.input n)) where
    beside : StandsBeside net is_net ground (after (net_moves net) (first_tokens net) (own_passes net n)) (passes net.program net.input n) Running
    beside = let lockstep : IsPassLockstep net is_net ground n = pass_lockstep net is_net ground n in subst (λ (mark : Mark). StandsBeside net is_net ground (after (net_moves net) (first_tokens net) (own_passes net n)) (passes net.program net.input n) mark) running lockstep.stands

    on_way : IsOnWay net n (passes net.program net.input n).edge (passes net.program net.input n).memory
    on_way = record { running = running; edge_is = refl; memory_is = refl; exists = beside.1; later = beside.0 }

    some_line : 0 < net.routing.lines
    some_line = subst (λ (i : ℕ). 0 < i) (sym is_net.own_routing.count) (omega arith)

    serial_in_range : 1 ≤ serial_count (net_moves net) (range_with_len (first_node net (comes_to net.program net.input n)) (node_count net (comes_to net.program net.input n)))
    serial_in_range =
        let edge = (passes net.program net.input n).edge in
        let piece = comes_to net.program net.input n in
        let later : 0 ≢ piece = not_start net is_net ground n edge (passes net.program net.input n).memory on_way in
        let led : is_free net piece 0 ≡ true = test_of_free net is_net edge piece 0 beside.1 refl some_line free in
        let own : IsFromOne (moved_by net) (nodes_at net piece) 0 = Member-flat_mapped (moved_by net) (nodes_at net piece) 0 (moves_each net is_net ground edge piece beside.1 refl later (kind_in net piece) 0 refl some_line led) in
        let at : IsAtPlace (nodes_at net piece) own.origin = place_of_member (nodes_at net piece) own.origin own.among in
        let low = below_length (nodes_at net piece) at.place own.origin at.is in
        let named : node_at net (first_node net piece + at.place) ≡ own.origin = node_named net piece at.place own.origin (exists net is_net ground edge piece beside.1 refl) at.is in
        serial_some net (range_with_len (first_node net piece) (node_count net piece)) (first_node net piece + at.place)
        (Member-range (first_node net piece) (node_count net piece) (first_node net piece + at.place) (omega arith) (omega (arith, low)))
        (ap (serial_as net) named ∙ moves_serial net own.origin own.has)

    serial_of : (made : Passed) → pass net.program net.input (passes net.program net.input n).edge (passes net.program net.input n).memory ≡ made → 1 ≤ serial_count (net_moves net) (firings_of net (comes_to net.program net.input n) made)
    serial_of (Along d new text) is = serial_in_range
    serial_of Done is = serial_in_range
    serial_of (Traps trap) is =
        let x = passes net.program net.input n in
        let piece = comes_to net.program net.input n in
        let does : DoesTrap (pass_at net piece x.memory) = subst DoesTrap (sym is) tt in
        let at : slice_get (nodes_at net piece) 0 ≡ Some (Act piece) = trap_acts net piece x.memory (Rattle.dep_routing.specs.Touches.exec_kind net.program piece) (kind_in net piece) does in
        let same : first_node net piece + 0 ≡ first_node net piece = omega arith in
        let named : node_at net (first_node net piece) ≡ Act piece = subst (λ (i : ℕ). node_at net i ≡ Act piece) same (node_named net piece 0 (Act piece) (exists net is_net ground x.edge piece beside.1 refl) at) in
        serial_some net (first_node net piece ∷ []) (first_node net piece) (inl refl) (ap (serial_as net) named ∙ traps_touch net is_net n x.edge piece x.memory on_way refl does)

    serial_pass : suc (serial_count (net_moves net) (own_passes net n)) ≤ serial_count (net_moves net) (own_passes net (suc n))
    serial_pass =
        let x = passes net.program net.input n in
        let all = serial_join (net_moves net) (own_passes net n) (firings_from net x x.mark) in
        let one : 1 ≤ serial_count (net_moves net) (firings_from net x x.mark) = subst (λ (mark : Mark). 1 ≤ serial_count (net_moves net) (firings_from net x mark)) (sym running) (serial_of (pass net.program net.input x.edge x.memory) refl) in
        omega (arith, all, one)

  -- ---- later passes

  serial_later : (n i : ℕ) → serial_count (net_moves net) (own_passes net n) ≤ serial_count (net_moves net) (own_passes net (i + n))
  serial_later n zero = subst (λ (k : ℕ). serial_count (net_moves net) (own_passes net n) ≤ serial_count (net_moves net) (own_passes net k)) same (omega arith)
    where
      same : n ≡ 0 + n
      same = omega arith
  serial_later n (suc i) =
      let same : suc (i + n) ≡ suc i + n = omega arith in
      let x = passes net.program net.input (i + n) in
      let all = serial_join (net_moves net) (own_passes net (i + n)) (firings_from net x x.mark) in
      let before = serial_later n i in
      subst (λ (k : ℕ). serial_count (net_moves net) (own_passes net n) ≤ serial_count (net_moves net) (own_passes net k)) same (omega (arith, all, before))

  stays_stopped : (n i : ℕ) → (passes net.program net.input n).mark ≢ Running → (passes net.program net.input (i + n)).mark ≢ Running
  stays_stopped n zero stopped = subst (λ (k : ℕ). (passes net.program net.input k).mark ≢ Running) same stopped
    where
      same : n ≡ 0 + n
      same = omega arith
  stays_stopped n (suc i) stopped =
      let same : suc (i + n) ≡ suc i + n = omega arith in
      subst (λ (k : ℕ). (passes net.program net.input k).mark ≢ Running) same (by (passes net.program net.input (i + n)) (stays_stopped n i stopped))
    where
      by_mark : (x : PassState) (mark : Mark) → x.mark ≡ mark → mark ≢ Running → (passed_from net.program net.input x mark).mark ≢ Running
      by_mark x Running is other = absurd (other refl)
      by_mark x Ended is other = λ (r : x.mark ≡ Running). other (sym is ∙ r)
      by_mark x (Trapped trap line) is other = λ (r : x.mark ≡ Running). other (sym is ∙ r)

      by : (x : PassState) → x.mark ≢ Running → (passed_from net.program net.input x x.mark).mark ≢ Running
      by x other = by_mark x x.mark refl other

  -- ---- output moves again and again

  pub record IsBusyRun (count : ℕ) : Type 0 where
    pub at : ℕ
    pub enough : ((passes net.program net.input at).mark ≢ Running) ⊎ (count ≤ serial_count (net_moves net) (own_passes net at))

  module _ (run : RunFacts net is_net.tree) where
    busier : (count n : ℕ) → count ≤ serial_count (net_moves net) (own_passes net n) → ((passes net.program net.input n).mark ≡ Running) ⊎ ((passes net.program net.input n).mark ≢ Running) → IsBusyRun (suc count)
    busier count n enough (inr stopped) = record { at = n; enough = inl stopped }
    busier count n enough (inl running) = by (run.moving n running)
      where
        by : OutputMoves net is_net.tree n → IsBusyRun (suc count)
        by moving = to_free moving.moves (is_running (passes net.program net.input (n + moving.later)).mark)
          where
            to_free : ((passes net.program net.input (n + moving.later)).mark ≢ Running) ⊎ IsFree (graph_in net) is_net.tree net.touches 0 (comes_to net.program net.input (n + moving.later)) → ((passes net.program net.input (n + moving.later)).mark ≡ Running) ⊎ ((passes net.program net.input (n + moving.later)).mark ≢ Running) → IsBusyRun (suc count)
            to_free (inl stopped) marked = record { at = n + moving.later; enough = inl stopped }
            to_free (inr free) (inr stopped) = record { at = n + moving.later; enough = inl stopped }
            to_free (inr free) (inl runs) =
                let one_more = serial_pass (n + moving.later) runs free in
                let same : moving.later + n ≡ n + moving.later = omega arith in
                let before = subst (λ (k : ℕ). serial_count (net_moves net) (own_passes net n) ≤ serial_count (net_moves net) (own_passes net k)) same (serial_later n moving.later) in
                record { at = suc (n + moving.later); enough = inr (omega (arith, enough, one_more, before)) }

    busy_run : (count : ℕ) → IsBusyRun count
    busy_run zero = record { at = 0; enough = inr (omega arith) }
    busy_run (suc count) = on (busy_run count)
      where
        on : IsBusyRun count → IsBusyRun (suc count)
        on busy = by busy.enough
          where
            by : ((passes net.program net.input busy.at).mark ≢ Running) ⊎ (count ≤ serial_count (net_moves net) (own_passes net busy.at)) → IsBusyRun (suc count)
            by (inl stopped) = record { at = busy.at; enough = inl stopped }
            by (inr enough) = busier count busy.at enough (is_running (passes net.program net.input busy.at).mark)

    -- ---- steps

    at_least_steps : (n : ℕ) → n ≤ passes_of net.program net.input n
    at_least_steps zero = omega arith
    at_least_steps (suc n) = more (passes_of net.program net.input n) (length (chain net.program.execs (source net.program net.input n).position)) (at_least_steps n) (omega arith)
      where
        more : (a b : ℕ) → n ≤ a → 1 ≤ b → suc n ≤ a + b
        more a b low some = omega (arith, low, some)

    pub record IsSum (n k : ℕ) : Type 0 where
      pub rest : ℕ
      pub is : rest + n ≡ k

    rest_of : (n k : ℕ) → n ≤ k → IsSum n k
    rest_of zero k low = record { rest = k; is = omega arith }
    rest_of (suc n) zero low = absurd (omega (arith, low))
    rest_of (suc n) (suc k) low = let r : IsSum n k = rest_of n k (omega (arith, low)) in let is = r.is in record { rest = r.rest; is = omega (arith, is) }

    busy_steps : (count : ℕ) → IsBusy (net_moves net) (own_order net) (program_stage net) count
    busy_steps count =
        let busy : IsBusyRun count = busy_run count in
        let n = busy.at in
        let k = passes_of net.program net.input n in
        let sum : IsSum n k = rest_of n k (at_least_steps n) in
        let stand : StandsAt net.program (source net.program net.input n) (passes net.program net.input k) = run.steps n in
        record {
          at = n;
          enough = ⊎_elim
              (λ (stopped : (passes net.program net.input n).mark ≢ Running). inl (λ going.
              let runs : (passes net.program net.input k).mark ≡ Running = stand.mark_is ∙ going_runs (source net.program net.input n).mark going in
              stays_stopped n sum.rest stopped (subst (λ (i : ℕ). (passes net.program net.input i).mark ≡ Running) (sym sum.is) runs)))
              (λ (enough : count ≤ serial_count (net_moves net) (own_passes net n)). inr (
              let more = subst (λ (i : ℕ). serial_count (net_moves net) (own_passes net n) ≤ serial_count (net_moves net) (own_passes net i)) sum.is (serial_later n sum.rest) in
              omega (arith, enough, more)))
              busy.enough;
        }

    stands_so : (m : Tokens) (x : PassState) (mark : Mark) → StandsBeside net is_net ground m x mark → pacing.StandsAt (net_moves net) m (stage_of mark)
    stands_so m x Running stands = let between = stands.2 in between.trap_is
    stands_so m x Ended stands = (stands.trap_is, rests net is_net ground m x.memory stands)
    stands_so m x (Trapped trap line) stands = stands.0

    pub own_simulated : IsSimulation (net_moves net) (first_tokens net) (program_text net) (program_stage net) (own_order net)
    own_simulated = record {
      order = λ n. let lockstep : IsPassLockstep net is_net ground (passes_of net.program net.input n) = pass_lockstep net is_net ground (passes_of net.program net.input n) in lockstep.order;
      stands = λ n.
          let k = passes_of net.program net.input n in
          let lockstep : IsPassLockstep net is_net ground k = pass_lockstep net is_net ground k in
          let stand : StandsAt net.program (source net.program net.input n) (passes net.program net.input k) = run.steps n in
          subst (λ (mark : Mark). pacing.StandsAt (net_moves net) (after (net_moves net) (first_tokens net) (own_passes net k)) (stage_of mark)) stand.mark_is (stands_so (after (net_moves net) (first_tokens net) (own_passes net k)) (passes net.program net.input k) (passes net.program net.input k).mark lockstep.stands);
      lines = λ n.
          let k = passes_of net.program net.input n in
          let lockstep : IsPassLockstep net is_net ground k = pass_lockstep net is_net ground k in
          let stand : StandsAt net.program (source net.program net.input n) (passes net.program net.input k) = run.steps n in
          lockstep.lines ∙ stand.out_is;
      busy = busy_steps;
    }

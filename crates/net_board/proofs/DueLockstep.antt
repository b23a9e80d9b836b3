-- Each firing of the source's own order is due in its turn.
use Rattle.std.proofs.Common.{◌≡◌, ◌≢◌, ℕ, zero, suc, ◌+◌, ◌<◌, ◌⊎◌, ◌&&◌, ◌||◌, ◌==◌, Bool, true, false, not, if◌then◌else◌, List, [], ◌∷◌, ◌++◌, length, Some, None, slice_get, refl, sym, ap, ◌∙◌, subst, inl, inr, ⊎_elim, nat_lt, eqb-true, lt-ltb, arith}
use Rattle.std.proofs.lemmas.Bool.{cases_Bool, or_left}
use Rattle.std.specs.List.{range_with_len}
use Rattle.closed_walks.specs.Graph.{edge_count, to}
use Rattle.f77_tree.specs.Execution.{Memory}
use Rattle.f77_tree.specs.Run.{Mark, Running, Ended, Trapped}
use Rattle.cfg_build.specs.declared.pieces.PieceKind.{PieceKind}
use Rattle.cfg_build.specs.declared.pieces.PieceKind.TheVariants as kind
use Rattle.cfg_build.specs.Joined.{is_end}
use Rattle.cfg_build.specs.Passes.{Passed, Along, Traps, Done, PassState, out, pass, pass_of, passes, passed_from, after_pass, line_at}
use Rattle.dep_routing.specs.Sound.{DoesTrap}
use Rattle.dep_routing.specs.Touches.{exec_kind}
use Rattle.firing.specs.Control.{Course}
use Rattle.firing.specs.Moves.{Moves}
use Rattle.firing.specs.Orders.{after}
use Rattle.firing.specs.SourceOrder.{IsDueOrder}
use Rattle.firing.specs.declared.system.NodeName.TheVariants.{Act}
use Rattle.net_board.specs.declared.control.Control.{Control}
use Rattle.net_board.specs.WithinPiece.{leaving, IsAmid}
use Rattle.net_board.specs.SoundNets.{IsNet}
use Rattle.net_board.specs.FlowFacts.{FlowFacts}
use Rattle.net_board.specs.ControlCourse.{is_idle, passed, passed_times, arrived, edge_or, taken, due_node, moved_on, net_course, first_control}
use Rattle.net_board.specs.NetLockstep.{IsBetween, IsOnWay}
use Rattle.net_board.specs.Nodes.{NetOf, graph_in, kind_in, nodes_at, nodes_of, node_count, first_node}
use Rattle.net_board.specs.OwnOrder.{firings_of, firings_from, own_passes}
use Rattle.net_board.specs.Tokens.{Tokens, net_moves, first_tokens, pass_at}
use Rattle.net_board.proofs.ArrivalLaws.{arrived_busy, arrival_past}
use Rattle.net_board.proofs.OrderJoins.{range_more}
use Rattle.net_board.proofs.PassFirings.{IsPartFired, part_fired}
use Rattle.net_board.proofs.PassLockstep.{StandsBeside, IsPassLockstep, pass_lockstep, trap_acts}
use Rattle.net_board.proofs.ListPrefixes.{below_length}
use Rattle.net_board.proofs.ControlWays.{idle_pass, not_start}
use Rattle.std.proofs.lemmas.Bool.{and_parts}

-- ---- places after firings

abbrev pub place_after : {M P : Type 0} → Moves M → Course M P → M → P → List ℕ → P
place_after s course m p [] = p
place_after s course m p (k ∷ ks) = place_after s course (s.fired m k) (course.moved m p) ks

module _ {M P : Type 0} (s : Moves M) (course : Course M P) where
  due_join : (m : M) (p : P) (ks js : List ℕ) → IsDueOrder s course m p ks → IsDueOrder s course (after s m ks) (place_after s course m p ks) js → IsDueOrder s course m p (ks ++ js)
  due_join m p [] js first next = next
  due_join m p (k ∷ ks) js first next = (first.0, due_join (s.fired m k) (course.moved m p) ks js first.1 next)

  place_join : (m : M) (p : P) (ks js : List ℕ) → place_after s course m p (ks ++ js) ≡ place_after s course (after s m ks) (place_after s course m p ks) js
  place_join m p [] js = refl
  place_join m p (k ∷ ks) js = place_join (s.fired m k) (course.moved m p) ks js

-- control at the piece, so many of whose nodes have fired
abbrev leaves_at : (leaves fired : ℕ) → ℕ
leaves_at leaves zero = 0
leaves_at leaves (suc fired) = leaves

abbrev at_piece : (piece leaves fired : ℕ) → Control
at_piece piece leaves fired = record { piece = piece; fired = fired; leaves = leaves_at leaves fired }

not_zero : (j : ℕ) → (suc j == 0) ≡ false
not_zero j = ⊎_elim (λ (h : (suc j == 0) ≡ true). let clash : suc j ≡ 0 = eqb-true (suc j) 0 h in absurd (omega (arith, clash))) (λ (h : (suc j == 0) ≡ false). h) (cases_Bool (suc j == 0))

module _ (net : NetOf) (is_net : IsNet net) (ground : FlowFacts net is_net.tree) where
  -- ---- at a piece

  module _ (e piece : ℕ) (inside : e < edge_count (graph_in net)) (comes : to (graph_in net) e ≡ piece) (later : 0 ≢ piece) (s : Tokens) (memory : Memory) (between : IsBetween net is_net.tree s e memory) (room : length s.edges ≡ length (nodes_of net)) (goes : DoesTrap (pass_at net piece memory) → ⊥) where
    taken_at : (m : Tokens) (j : ℕ) → IsAmid net s m piece j memory (pass_at net piece memory) → taken net m (at_piece piece (leaving net piece (pass_at net piece memory)) j) ≡ leaving net piece (pass_at net piece memory)
    taken_at m zero amid = let same : m.memory ≡ memory = amid.memory_is in ap (λ x. edge_or (out (graph_in net) piece 0) (pass_at net piece x)) same
    taken_at m (suc j) amid = ap (λ (b : Bool). if b then edge_or (out (graph_in net) piece 0) (pass_at net piece m.memory) else leaving net piece (pass_at net piece memory)) (not_zero j)

    pub record IsPartDue (j : ℕ) : Type 0 where
      pub due : IsDueOrder (net_moves net) (net_course net) s (at_piece piece (leaving net piece (pass_at net piece memory)) 0) (range_with_len (first_node net piece) j)
      pub place : place_after (net_moves net) (net_course net) s (at_piece piece (leaving net piece (pass_at net piece memory)) 0) (range_with_len (first_node net piece) j) ≡ at_piece piece (leaving net piece (pass_at net piece memory)) j

    due_here : (j : ℕ) → j < node_count net piece → due_node net (at_piece piece (leaving net piece (pass_at net piece memory)) j) ≡ Some (first_node net piece + j)
    due_here j low = ap (λ (b : Bool). if b then Some (first_node net piece + j) else None) (lt-ltb j (node_count net piece) low)

    -- one firing further
    due_more : (j : ℕ) → j < node_count net piece → IsPartDue j → IsDueOrder (net_moves net) (net_course net) s (at_piece piece (leaving net piece (pass_at net piece memory)) 0) (range_with_len (first_node net piece) (suc j))
    due_more j low part =
        let c = at_piece piece (leaving net piece (pass_at net piece memory)) 0 in
        let ks = range_with_len (first_node net piece) j in
        subst (IsDueOrder (net_moves net) (net_course net) s c) (sym (range_more (first_node net piece) j))
        (due_join (net_moves net) (net_course net) s c ks ((first_node net piece + j) ∷ []) part.due
        (subst (λ (p : Control). IsDueOrder (net_moves net) (net_course net) (after (net_moves net) s ks) p ((first_node net piece + j) ∷ [])) (sym part.place) (due_here j low, tt)))

    place_more : (j : ℕ) → j < node_count net piece → IsPartDue j → place_after (net_moves net) (net_course net) s (at_piece piece (leaving net piece (pass_at net piece memory)) 0) (range_with_len (first_node net piece) (suc j)) ≡ (if nat_lt (suc j) (node_count net piece) || is_end (kind_in net piece) then at_piece piece (leaving net piece (pass_at net piece memory)) (suc j) else arrived net (leaving net piece (pass_at net piece memory)))
    place_more j low part =
        let c = at_piece piece (leaving net piece (pass_at net piece memory)) 0 in
        let ks = range_with_len (first_node net piece) j in
        let fired : IsPartFired net is_net ground e piece inside comes later s memory between room j = part_fired net is_net ground e piece inside comes later s memory between room j goes (omega (arith, low)) in
        ap (place_after (net_moves net) (net_course net) s c) (range_more (first_node net piece) j)
        ∙ place_join (net_moves net) (net_course net) s c ks ((first_node net piece + j) ∷ [])
        ∙ ap (λ (p : Control). moved_on net (after (net_moves net) s ks) p) part.place
        ∙ ap (λ (d : ℕ). if nat_lt (suc j) (node_count net piece) || is_end (kind_in net piece) then record { piece = piece; fired = suc j; leaves = d } else arrived net d) (taken_at (after (net_moves net) s ks) j fired.amid)

    part_due : (j : ℕ) → j < node_count net piece → IsPartDue j
    part_due zero low = record { due = tt; place = refl }
    part_due (suc j) low = on (part_due j (omega (arith, low)))
      where
        on : IsPartDue j → IsPartDue (suc j)
        on part = record {
          due = due_more j (omega (arith, low)) part;
          place = place_more j (omega (arith, low)) part
              ∙ ap (λ (b : Bool). if b then at_piece piece (leaving net piece (pass_at net piece memory)) (suc j) else arrived net (leaving net piece (pass_at net piece memory))) (or_left (nat_lt (suc j) (node_count net piece)) (is_end (kind_in net piece)) (lt-ltb (suc j) (node_count net piece) low));
        }

    all_due : (count : ℕ) → count ≡ node_count net piece → IsDueOrder (net_moves net) (net_course net) s (at_piece piece (leaving net piece (pass_at net piece memory)) 0) (range_with_len (first_node net piece) count)
    all_due zero is = tt
    all_due (suc j) is = due_more j (omega (arith, is)) (part_due j (omega (arith, is)))

    all_placed : (count : ℕ) → count ≡ node_count net piece → 0 < count → is_end (kind_in net piece) ≡ false → place_after (net_moves net) (net_course net) s (at_piece piece (leaving net piece (pass_at net piece memory)) 0) (range_with_len (first_node net piece) count) ≡ arrived net (leaving net piece (pass_at net piece memory))
    all_placed zero is some not_end = absurd (omega (arith, some))
    all_placed (suc j) is some not_end =
        place_more j (omega (arith, is)) (part_due j (omega (arith, is)))
        ∙ ap (λ (b : Bool). if b then at_piece piece (leaving net piece (pass_at net piece memory)) (suc j) else arrived net (leaving net piece (pass_at net piece memory))) (Rattle.std.proofs.lemmas.Bool.or_from (nat_lt (suc j) (node_count net piece)) (is_end (kind_in net piece)) (not_less (suc j) (node_count net piece) is) not_end)
      where
        not_less : (a b : ℕ) → a ≡ b → nat_lt a b ≡ false
        not_less a b same = grind (arith, same)

  -- ---- the run

  -- these firings are due, and lead to where the run goes on
  pub record IsDueBeside (m : Tokens) (c : Control) (ks : List ℕ) (y : PassState) : Type 0 where
    pub due : IsDueOrder (net_moves net) (net_course net) m c ks
    pub place : y.mark ≡ Running → place_after (net_moves net) (net_course net) m c ks ≡ arrived net y.edge

  module _ (n : ℕ) (m : Tokens) (room : length m.edges ≡ length (nodes_of net)) (running : (passes net.program net.input n).mark ≡ Running) (stands : StandsBeside net is_net ground m (passes net.program net.input n) Running) where
    on_way : IsOnWay net n (passes net.program net.input n).edge (passes net.program net.input n).memory
    on_way = record { running = running; edge_is = refl; memory_is = refl; exists = stands.1; later = stands.0 }

    left_start : 0 ≢ to (graph_in net) (passes net.program net.input n).edge
    left_start = not_start net is_net ground n (passes net.program net.input n).edge (passes net.program net.input n).memory on_way

    -- past an idle piece
    due_idle : is_idle net (to (graph_in net) (passes net.program net.input n).edge) ≡ true → IsDueBeside m (arrived net (passes net.program net.input n).edge) (firings_from net (passes net.program net.input n) Running) (passed_from net.program net.input (passes net.program net.input n) Running)
    due_idle idle =
        let x = passes net.program net.input n in
        let piece = to (graph_in net) x.edge in
        let d = out (graph_in net) piece 0 in
        let along : pass net.program net.input x.edge x.memory ≡ Along d x.memory [] = idle_pass net piece x.memory (exec_kind net.program piece) (kind_in net piece) idle in
        let none : node_count net piece ≡ 0 = eqb-true (node_count net piece) 0 ((and_parts (node_count net piece == 0) (not (is_end (kind_in net piece))) idle).0) in
        let nothing : firings_of net piece (pass net.program net.input x.edge x.memory) ≡ [] = ap (firings_of net piece) along ∙ ap (range_with_len (first_node net piece)) none in
        let step : passed net x.edge ≡ d = ap (λ (b : Bool). if b then out (graph_in net) (to (graph_in net) x.edge) 0 else x.edge) idle in
        let same : arrived net x.edge ≡ arrived net d = ap (λ (e : ℕ). record { piece = to (graph_in net) e; fired = 0; leaves = 0 }) (sym (arrival_past net ground.graph x.edge stands.1) ∙ ap (passed_times net (graph_in net).nodes) step) in
        let next : after_pass x (line_at net.program x.edge) (pass net.program net.input x.edge x.memory) ≡ after_pass x (line_at net.program x.edge) (Along d x.memory []) = ap (after_pass x (line_at net.program x.edge)) along in
        record {
          due = subst (IsDueOrder (net_moves net) (net_course net) m (arrived net x.edge)) (sym nothing) tt;
          place = λ runs. ap (place_after (net_moves net) (net_course net) m (arrived net x.edge)) nothing ∙ same ∙ ap (λ (y : PassState). arrived net y.edge) (sym next);
        }

    module _ (busy : is_idle net (to (graph_in net) (passes net.program net.input n).edge) ≡ false) where
      here : arrived net (passes net.program net.input n).edge ≡ record { piece = to (graph_in net) (passes net.program net.input n).edge; fired = 0; leaves = 0 }
      here = ap (λ (e : ℕ). record { piece = to (graph_in net) e; fired = 0; leaves = 0 }) (arrived_busy net ground.graph (graph_in net).nodes (passes net.program net.input n).edge busy)

      due_busy : (made : Passed) → pass net.program net.input (passes net.program net.input n).edge (passes net.program net.input n).memory ≡ made → IsDueBeside m (record { piece = to (graph_in net) (passes net.program net.input n).edge; fired = 0; leaves = 0 }) (firings_of net (to (graph_in net) (passes net.program net.input n).edge) made) (after_pass (passes net.program net.input n) (line_at net.program (passes net.program net.input n).edge) made)
      due_busy (Along d new text) is =
          let x = passes net.program net.input n in
          let piece = to (graph_in net) x.edge in
          let goes : DoesTrap (pass_at net piece x.memory) → ⊥ = λ trap. subst DoesTrap is trap in
          let not_end : is_end (kind_in net piece) ≡ false = ⊎_elim
          (λ (h : is_end (kind_in net piece) ≡ true). absurd (no_end (kind_in net piece) h is))
          (λ (h : is_end (kind_in net piece) ≡ false). h)
          (cases_Bool (is_end (kind_in net piece)))
          in
          record {
            due = all_due x.edge piece stands.1 refl left_start m x.memory stands.2 room goes (node_count net piece) refl;
            place = λ runs. all_placed x.edge piece stands.1 refl left_start m x.memory stands.2 room goes (node_count net piece) refl (some_nodes (node_count net piece) (is_end (kind_in net piece)) busy not_end) not_end ∙ ap (λ made. arrived net (leaving net piece made)) is;
          }
        where
          no_end : (k : PieceKind) → is_end k ≡ true → pass_of net.program net.input (passes net.program net.input n).memory (out (graph_in net) (to (graph_in net) (passes net.program net.input n).edge)) k (exec_kind net.program (to (graph_in net) (passes net.program net.input n).edge)) ≡ Along d new text → ⊥
          no_end kind.End h is = let clash : Done ≡ Along d new text = is in cc
          no_end kind.Start h is = cc
          no_end kind.Act h is = cc
          no_end kind.Pass h is = cc
          no_end kind.Branch h is = cc
          no_end kind.Join h is = cc
          no_end kind.Hold h is = cc

          some_nodes : (n : ℕ) (b : Bool) → ((n == 0) && not b) ≡ false → b ≡ false → 0 < n
          some_nodes zero true busy not_end = absurd cc
          some_nodes zero false busy not_end = let clash : true ≡ false = busy in absurd cc
          some_nodes (suc n) b busy not_end = omega arith
      due_busy Done is =
          let x = passes net.program net.input n in
          let piece = to (graph_in net) x.edge in
          let goes : DoesTrap (pass_at net piece x.memory) → ⊥ = λ trap. subst DoesTrap is trap in
          record {
            due = all_due x.edge piece stands.1 refl left_start m x.memory stands.2 room goes (node_count net piece) refl;
            place = λ (runs : Ended ≡ Running). absurd cc;
          }
      due_busy (Traps trap) is =
          let x = passes net.program net.input n in
          let piece = to (graph_in net) x.edge in
          let at : slice_get (nodes_at net piece) 0 ≡ Some (Act piece) = trap_acts net piece x.memory (exec_kind net.program piece) (kind_in net piece) (subst DoesTrap (sym is) tt) in
          let low : 0 < node_count net piece = below_length (nodes_at net piece) 0 (Act piece) at in
          let same : first_node net piece + 0 ≡ first_node net piece = omega arith in
          record {
            due = (ap (λ (b : Bool). if b then Some (first_node net piece + 0) else None) (lt-ltb 0 (node_count net piece) low) ∙ ap (λ (i : ℕ). Some i) same, tt);
            place = λ (runs : Trapped trap (line_at net.program x.edge) ≡ Running). absurd cc;
          }

    due_running : IsDueBeside m (arrived net (passes net.program net.input n).edge) (firings_from net (passes net.program net.input n) Running) (passed_from net.program net.input (passes net.program net.input n) Running)
    due_running = by (cases_Bool (is_idle net (to (graph_in net) (passes net.program net.input n).edge)))
      where
        by : (is_idle net (to (graph_in net) (passes net.program net.input n).edge) ≡ true) ⊎ (is_idle net (to (graph_in net) (passes net.program net.input n).edge) ≡ false) → IsDueBeside m (arrived net (passes net.program net.input n).edge) (firings_from net (passes net.program net.input n) Running) (passed_from net.program net.input (passes net.program net.input n) Running)
        by (inl idle) = due_idle idle
        by (inr busy) =
            let x = passes net.program net.input n in
            subst (λ (c : Control). IsDueBeside m c (firings_from net x Running) (passed_from net.program net.input x Running)) (sym (here busy)) (due_busy busy (pass net.program net.input x.edge x.memory) refl)

  pub record IsDueLockstep (n : ℕ) : Type 0 where
    pub due : IsDueOrder (net_moves net) (net_course net) (first_tokens net) (first_control net) (own_passes net n)
    pub place : (passes net.program net.input n).mark ≡ Running → place_after (net_moves net) (net_course net) (first_tokens net) (first_control net) (own_passes net n) ≡ arrived net (passes net.program net.input n).edge

  due_on : (n : ℕ) → IsDueLockstep n → (mark : Mark) → (passes net.program net.input n).mark ≡ mark → StandsBeside net is_net ground (after (net_moves net) (first_tokens net) (own_passes net n)) (passes net.program net.input n) mark → IsDueBeside (after (net_moves net) (first_tokens net) (own_passes net n)) (place_after (net_moves net) (net_course net) (first_tokens net) (first_control net) (own_passes net n)) (firings_from net (passes net.program net.input n) mark) (passed_from net.program net.input (passes net.program net.input n) mark)
  due_on n lockstep Running is stands =
      let x = passes net.program net.input n in
      let m = after (net_moves net) (first_tokens net) (own_passes net n) in
      let beside : IsPassLockstep net is_net ground n = pass_lockstep net is_net ground n in
      subst (λ (c : Control). IsDueBeside m c (firings_from net x Running) (passed_from net.program net.input x Running)) (sym (lockstep.place is)) (due_running n m beside.room_is is stands)
  due_on n lockstep Ended is stands = record { due = tt; place = λ runs. absurd (stopped (sym is ∙ runs)) }
    where
      stopped : Ended ≡ Running → ⊥
      stopped e = cc
  due_on n lockstep (Trapped trap line) is stands = record { due = tt; place = λ runs. absurd (stopped (sym is ∙ runs)) }
    where
      stopped : Trapped trap line ≡ Running → ⊥
      stopped e = cc

  pub due_lockstep : (n : ℕ) → IsDueLockstep n
  due_lockstep zero = record { due = tt; place = λ runs. refl }
  due_lockstep (suc n) = on (due_lockstep n)
    where
      on : IsDueLockstep n → IsDueLockstep (suc n)
      on lockstep =
          let x = passes net.program net.input n in
          let s = net_moves net in
          let m = after s (first_tokens net) (own_passes net n) in
          let c = place_after s (net_course net) (first_tokens net) (first_control net) (own_passes net n) in
          let ks = firings_from net x x.mark in
          let beside : IsPassLockstep net is_net ground n = pass_lockstep net is_net ground n in
          let step : IsDueBeside m c ks (passes net.program net.input (suc n)) = due_on n lockstep x.mark refl beside.stands in
          record {
            due = due_join s (net_course net) (first_tokens net) (first_control net) (own_passes net n) ks lockstep.due step.due;
            place = λ runs. place_join s (net_course net) (first_tokens net) (first_control net) (own_passes net n) ks ∙ step.place runs;
          }

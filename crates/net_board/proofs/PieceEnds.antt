-- Once all nodes of a piece have fired, the marking is that between two passes again.
use Rattle.std.proofs.Common.{◌≡◌, ◌≢◌, ℕ, zero, suc, ◌+◌, ◌<◌, ◌≤◌, ◌⊎◌, ◌&&◌, true, false, not, List, [], ◌∷◌, ◌++◌, length, map, flat_map, Option, Some, None, slice_get, refl, sym, ap, ◌∙◌, subst, inl, inr, ⊎_elim, arith}
use Rattle.std.proofs.lemmas.Bool.{and_from, cases_Bool}
use Rattle.closed_walks.specs.Graph.{edge_count, from, to}
use Rattle.f77_tree.specs.declared.programs.ExecKind.{ExecKind}
use Rattle.f77_tree.specs.Execution.{Memory}
use Rattle.cfg_build.specs.declared.pieces.PieceKind.{PieceKind}
use Rattle.cfg_build.specs.declared.pieces.PieceKind.TheVariants as kind
use Rattle.cfg_build.specs.Passes.{out, pass_of}
use Rattle.cfg_build.specs.Shape.{takes_one, leaves_one}
use Rattle.dep_routing.specs.Place.{Place}
use Rattle.dep_routing.specs.Quiet.{IsFree}
use Rattle.dep_routing.specs.Routing.{next_at}
use Rattle.dep_routing.specs.Touches.{exec_kind}
use Rattle.firing.specs.declared.system.NodeName.{NodeName}
use Rattle.firing.specs.declared.system.NodeName.TheVariants.{Merge, Switch}
use Rattle.net_board.specs.WithinPiece.{moved_by, moved_first, leaving, memory_or, memory_amid, switch_count, IsAmid}
use Rattle.net_board.specs.SoundNets.{IsNet}
use Rattle.net_board.specs.FlowFacts.{FlowFacts}
use Rattle.list_laws.specs.Member.{Member}
use Rattle.net_board.specs.NetLockstep.{IsBetween}
use Rattle.net_board.specs.Nodes.{NetOf, graph_in, kind_in, is_acting, is_free, touched, led_to, passing, nodes_by, nodes_at, node_count, first_node, switch_lines, all_lines}
use Rattle.net_board.specs.Tokens.{Tokens, joined, edge_of, left_for, with_all, led_from, pass_at}
use Rattle.net_board.proofs.FreeLines.{free_of_test, test_of_free, line_below}
use Rattle.list_laws.proofs.Members.{Member-filter, Member-range, Member-left, Member-right, Member-cases}
use Rattle.net_board.proofs.ListPrefixes.{take_whole}
use Rattle.net_board.proofs.PieceSteps.{IsLed, exists, led_touched, led_passing, led_led}
use Rattle.net_board.proofs.ListPlaces.{put, with_all_other, with_all_same}

moved_switches : (net : NetOf) (piece : ℕ) (lines : List ℕ) → flat_map (moved_by net) (map (Switch piece) lines) ≡ lines
moved_switches net piece [] = refl
moved_switches net piece (line ∷ lines) = ap (λ rest. line ∷ rest) (moved_switches net piece lines)

moved_merges : (net : NetOf) (piece : ℕ) (lines : List ℕ) → flat_map (moved_by net) (map (Merge piece) lines) ≡ lines
moved_merges net piece [] = refl
moved_merges net piece (line ∷ lines) = ap (λ rest. line ∷ rest) (moved_merges net piece lines)

-- the lines that the nodes of a piece of this kind move
abbrev pub moved_by_all : NetOf → (piece : ℕ) → PieceKind → List ℕ
moved_by_all net piece k = flat_map (moved_by net) (nodes_by net piece k)

-- a piece without nodes changes nothing
memory_by : (net : NetOf) (piece : ℕ) (memory : Memory) (x : ExecKind) (k : PieceKind) (n : ℕ) → n ≡ length (nodes_by net piece k) → memory_amid memory (pass_of net.program net.input memory (out (graph_in net) piece) k x) n ≡ memory_or memory (pass_of net.program net.input memory (out (graph_in net) piece) k x)
memory_by net piece memory x k (suc n) is = refl
memory_by net piece memory x kind.Act zero is = absurd (omega (arith, is))
memory_by net piece memory x kind.Branch zero is = absurd (omega (arith, is))
memory_by net piece memory x kind.Hold zero is = absurd (omega (arith, is))
memory_by net piece memory x kind.Join zero is = refl
memory_by net piece memory x kind.End zero is = refl
memory_by net piece memory x kind.Start zero is = refl
memory_by net piece memory x kind.Pass zero is = refl

length_map : (f : ℕ → NodeName) (lines : List ℕ) → length (map f lines) ≡ length lines
length_map f [] = refl
length_map f (x ∷ lines) = ap suc (length_map f lines)

none_or_more : (net : NetOf) (piece : ℕ) (k : PieceKind) → (length (nodes_by net piece k) ≡ 0) ⊎ (suc (length (switch_lines net piece k)) ≤ length (nodes_by net piece k))
none_or_more net piece kind.Act = inr (omega arith)
none_or_more net piece kind.Branch = let h = length_map (Switch piece) (passing net piece) in inr (omega (arith, h))
none_or_more net piece kind.Hold = let h = length_map (Switch piece) (passing net piece) in inr (omega (arith, h))
none_or_more net piece kind.Join = none_or_some (length (map (Merge piece) (led_to net piece)))
  where
    none_or_some : (n : ℕ) → (n ≡ 0) ⊎ (1 ≤ n)
    none_or_some n = grind arith
none_or_more net piece kind.End = none_or_some (length (map (Merge piece) (led_to net piece)))
  where
    none_or_some : (n : ℕ) → (n ≡ 0) ⊎ (1 ≤ n)
    none_or_some n = grind arith
none_or_more net piece kind.Start = inl refl
none_or_more net piece kind.Pass = inl refl

module _ (net : NetOf) (is_net : IsNet net) (ground : FlowFacts net is_net.tree) (e piece : ℕ) (inside : e < edge_count (graph_in net)) (comes : to (graph_in net) e ≡ piece) (later : 0 ≢ piece) where
  here : piece < (graph_in net).nodes
  here = exists net is_net ground e piece inside comes

  touch_member : (line : ℕ) → line < net.routing.lines → net.touches piece line ≡ true → Member (touched net piece) line
  touch_member line low is = Member-filter (net.touches piece) (all_lines net) line (Member-range 0 net.routing.lines line (omega arith) (omega (arith, low))) is

  pass_member : (line : ℕ) → line < net.routing.lines → is_free net piece line ≡ true → net.touches piece line ≡ false → Member (passing net piece) line
  pass_member line low free is = Member-filter (λ l. is_free net piece l && not (net.touches piece l)) (all_lines net) line (Member-range 0 net.routing.lines line (omega arith) (omega (arith, low))) (and_from (is_free net piece line) (not (net.touches piece line)) free (ap not is))

  led_member : (line : ℕ) → line < net.routing.lines → is_free net piece line ≡ true → Member (led_to net piece) line
  led_member line low free = Member-filter (is_free net piece) (all_lines net) line (Member-range 0 net.routing.lines line (omega arith) (omega (arith, low))) free

  own_touch : (k : PieceKind) (line : ℕ) → kind_in net piece ≡ k → takes_one k ≡ true → leaves_one k ≡ true → line < net.routing.lines → is_free net piece line ≡ true → net.touches piece line ≡ true
  own_touch k line is one_in one_out low free = ground.alone piece line here later (ap takes_one is ∙ one_in) (ap leaves_one is ∙ one_out) (free_of_test net is_net piece line low free)

  split_member : (rest : List ℕ) → ((line : ℕ) → line < net.routing.lines → is_free net piece line ≡ true → net.touches piece line ≡ false → Member rest line) → (line : ℕ) → line < net.routing.lines → is_free net piece line ≡ true → Member (touched net piece ++ rest) line
  split_member rest other line low free = ⊎_elim
      (λ (t : net.touches piece line ≡ true). Member-left (touched net piece) rest line (touch_member line low t))
      (λ (t : net.touches piece line ≡ false). Member-right (touched net piece) rest line (other line low free t))
      (cases_Bool (net.touches piece line))

  -- each line that is led to the piece is moved
  pub moves_each : (k : PieceKind) (line : ℕ) → kind_in net piece ≡ k → line < net.routing.lines → is_free net piece line ≡ true → Member (moved_by_all net piece k) line
  moves_each kind.Act line is low free = Member-left (touched net piece) [] line (touch_member line low (own_touch kind.Act line is refl refl low free))
  moves_each kind.Branch line is low free = split_member (flat_map (moved_by net) (map (Switch piece) (passing net piece))) (λ l low free none. subst (λ (xs : List ℕ). Member xs l) (sym (moved_switches net piece (passing net piece))) (pass_member l low free none)) line low free
  moves_each kind.Hold line is low free = split_member (flat_map (moved_by net) (map (Switch piece) (passing net piece))) (λ l low free none. subst (λ (xs : List ℕ). Member xs l) (sym (moved_switches net piece (passing net piece))) (pass_member l low free none)) line low free
  moves_each kind.Join line is low free = subst (λ (xs : List ℕ). Member xs line) (sym (moved_merges net piece (led_to net piece))) (led_member line low free)
  moves_each kind.End line is low free = subst (λ (xs : List ℕ). Member xs line) (sym (moved_merges net piece (led_to net piece))) (led_member line low free)
  moves_each kind.Start line is low free = absurd (later (sym ((ground.graph.shape.start piece here).0 is)))
  moves_each kind.Pass line is low free =
      let touches = own_touch kind.Pass line is refl refl low free in
      let clash : true ≡ false = sym touches ∙ ground.touch_none piece line here (ap is_acting is) in
      absurd cc

  led_split : (rest : List ℕ) (line : ℕ) → (Member rest line → IsLed net is_net ground e piece inside comes line) → Member (touched net piece ++ rest) line → IsLed net is_net ground e piece inside comes line
  led_split rest line other m = ⊎_elim
      (λ (t : Member (touched net piece) line). led_touched net is_net ground e piece inside comes line t)
      other
      (Member-cases (touched net piece) rest line m)

  -- and no other is
  moves_led : (k : PieceKind) (line : ℕ) → Member (moved_by_all net piece k) line → IsLed net is_net ground e piece inside comes line
  moves_led kind.Act line m = led_split [] line (λ none. absurd none) m
  moves_led kind.Branch line m = led_split (flat_map (moved_by net) (map (Switch piece) (passing net piece))) line (λ r. led_passing net is_net ground e piece inside comes line (subst (λ (xs : List ℕ). Member xs line) (moved_switches net piece (passing net piece)) r)) m
  moves_led kind.Hold line m = led_split (flat_map (moved_by net) (map (Switch piece) (passing net piece))) line (λ r. led_passing net is_net ground e piece inside comes line (subst (λ (xs : List ℕ). Member xs line) (moved_switches net piece (passing net piece)) r)) m
  moves_led kind.Join line m = led_led net is_net ground e piece inside comes line (subst (λ (xs : List ℕ). Member xs line) (moved_merges net piece (led_to net piece)) m)
  moves_led kind.End line m = led_led net is_net ground e piece inside comes line (subst (λ (xs : List ℕ). Member xs line) (moved_merges net piece (led_to net piece)) m)
  moves_led kind.Start line m = absurd m
  moves_led kind.Pass line m = absurd m

  module _ (s : Tokens) (memory : Memory) (between : IsBetween net is_net.tree s e memory) where
    -- where no node has fired
    pub none_fired : IsAmid net s s piece 0 memory (pass_at net piece memory)
    none_fired = record {
      lines = refl;
      at_first = λ none k. between.edges k;
      before = λ k low. between.edges k;
      left = λ k some low high. absurd (omega (arith, some));
      after = λ k high. between.edges k;
      memory_is = between.memory_is;
      trap_is = between.trap_is;
      no_trap = λ some. absurd (omega (arith, some));
    }

    module _ (m : Tokens) (amid : IsAmid net s m piece (node_count net piece) memory (pass_at net piece memory)) (d : ℕ) (leaves : leaving net piece (pass_at net piece memory) ≡ d) (exit : d < edge_count (graph_in net)) (begins : from (graph_in net) d ≡ piece) where
      moved_is : moved_first net (nodes_at net piece) (node_count net piece) ≡ moved_by_all net piece (kind_in net piece)
      moved_is = ap (flat_map (moved_by net)) (take_whole (nodes_at net piece))

      lines_are : m.lines ≡ with_all s.lines (moved_first net (nodes_at net piece) (node_count net piece)) (led_from net d)
      lines_are = amid.lines ∙ ap (λ (x : ℕ). with_all s.lines (moved_first net (nodes_at net piece) (node_count net piece)) (led_from net x)) leaves

      pub record IsPlaced (line : ℕ) : Type 0 where
        pub place : ℕ
        pub stands : edge_of m line ≡ Some place
        pub is : Place (graph_in net) is_net.tree net.touches line d place

      put_on : (o : Option (Option ℕ)) (old new : ℕ) → joined o ≡ Some old → joined (put (Some new) o) ≡ Some new
      put_on None old new is = let clash : None ≡ Some old = is in absurd cc
      put_on (Some x) old new is = refl

      placed : (line : ℕ) → line < net.routing.lines → IsPlaced line
      placed line low = by (cases_Bool (is_free net piece line))
        where
          by : (is_free net piece line ≡ true) ⊎ (is_free net piece line ≡ false) → IsPlaced line
          by (inl free) =
              let at = between.stand line low in
              let one : Member (moved_first net (nodes_at net piece) (node_count net piece)) line = subst (λ (xs : List ℕ). Member xs line) (sym moved_is) (moves_each (kind_in net piece) line refl low free) in
              record {
                place = next_at net.routing line d;
                stands = ap (λ (lines : List (Option ℕ)). joined (slice_get lines line)) lines_are
                    ∙ ap joined (with_all_same s.lines (moved_first net (nodes_at net piece) (node_count net piece)) (led_from net d) line one)
                    ∙ put_on (slice_get s.lines line) at.0 (next_at net.routing line d) at.1;
                is = ground.departs line d (next_at net.routing line d) (subst (λ (x : ℕ). IsFree (graph_in net) is_net.tree net.touches line x) (sym begins) (free_of_test net is_net piece line low free)) (is_net.own_routing.next line d (line_below net is_net line low) exit);
              }
          by (inr held) =
              let at = between.stand line low in
              record {
                place = at.0;
                stands = ap (λ (lines : List (Option ℕ)). joined (slice_get lines line)) lines_are
                    ∙ ap joined (with_all_other s.lines (moved_first net (nodes_at net piece) (node_count net piece)) (led_from net d) line (λ one.
                    let led : IsLed net is_net ground e piece inside comes line = moves_led (kind_in net piece) line (subst (λ (xs : List ℕ). Member xs line) moved_is one) in
                    let clash : true ≡ false = sym led.free ∙ held in
                    absurd cc))
                    ∙ at.1;
                is = ground.stays line e d at.0 inside exit (begins ∙ sym comes) (λ free.
                    let clash : true ≡ false = sym (test_of_free net is_net e piece line inside comes low (subst (λ (x : ℕ). IsFree (graph_in net) is_net.tree net.touches line x) comes free)) ∙ held in
                    absurd cc) (between.lines line at.0 low at.1);
              }

      same_some : (a b : ℕ) → Some a ≡ Some b → a ≡ b
      same_some a b e = cc

      nothing_left : (k : ℕ) → left_for m k ≡ None
      nothing_left k = by (none_or_more net piece (kind_in net piece))
        where
          low_or_high : (a b c k : ℕ) → suc c ≤ b → (k < a + b) ⊎ (a + c < k)
          low_or_high a b c k more = grind (arith, more)

          by : (node_count net piece ≡ 0) ⊎ (suc (switch_count net piece) ≤ node_count net piece) → left_for m k ≡ None
          by (inl none) = amid.at_first none k
          by (inr more) = ⊎_elim (λ (low : k < first_node net piece + node_count net piece). amid.before k low) (λ (high : first_node net piece + switch_count net piece < k). amid.after k high) (low_or_high (first_node net piece) (node_count net piece) (switch_count net piece) k more)

      pub all_fired : IsBetween net is_net.tree m d (memory_or memory (pass_at net piece memory))
      all_fired = record {
        lines = λ line place low at.
            let r : IsPlaced line = placed line low in
            subst (λ (x : ℕ). Place (graph_in net) is_net.tree net.touches line d x) (same_some r.place place (sym r.stands ∙ at)) r.is;
        stand = λ line low. let r : IsPlaced line = placed line low in (r.place, r.stands);
        edges = nothing_left;
        memory_is = amid.memory_is ∙ memory_by net piece memory (exec_kind net.program piece) (kind_in net piece) (node_count net piece) refl;
        trap_is = amid.trap_is;
      }

-- The firings of a pass, one after another.
use Rattle.std.proofs.Common.{◌≡◌, ◌≢◌, ℕ, zero, suc, ◌+◌, ◌<◌, ◌≤◌, Bool, true, false, if◌then◌else◌, List, [], ◌∷◌, ◌++◌, length, Option, Some, None, slice_get, refl, sym, ap, ◌∙◌, subst, inl, inr, append-nil, arith}
use Rattle.std.specs.List.{range_with_len}
use Rattle.closed_walks.specs.Graph.{edge_count, to}
use Rattle.f77_tree.specs.Execution.{Memory}
use Rattle.cfg_build.specs.Passes.{Passed, Along, Traps, Done, out}
use Rattle.dep_routing.specs.Sound.{DoesTrap}
use Rattle.dep_routing.specs.Touches.{exec_kind}
use Rattle.firing.specs.Moves.{CanFire, line_bytes}
use Rattle.firing.specs.Orders.{IsOrder, after, written}
use Rattle.firing.specs.declared.system.NodeName.{NodeName}
use Rattle.firing.specs.declared.system.NodeName.TheVariants.{Act, Merge, Switch, Op}
use Rattle.net_board.specs.WithinPiece.{memory_amid, text_in, text_amid, IsAmid}
use Rattle.net_board.specs.SoundNets.{IsNet}
use Rattle.net_board.specs.FlowFacts.{FlowFacts}
use Rattle.net_board.specs.NetLockstep.{IsBetween}
use Rattle.net_board.specs.Nodes.{NetOf, graph_in, kind_in, switches, nodes_at, nodes_of, node_count, node_at, first_node}
use Rattle.net_board.specs.Tokens.{Tokens, net_moves, pass_at, left_for, gone, stopped, acted, switched, fired_as, line_as, text_of, written as text_written}
use Rattle.net_board.proofs.WithinPieceLaws.{NodeCase}
use Rattle.net_board.proofs.OrderJoins.{after_join, order_join, written_join, range_more}
use Rattle.net_board.proofs.ListPrefixes.{HasItem, item_at}
use Rattle.net_board.proofs.PieceEnds.{none_fired}
use Rattle.net_board.proofs.PieceSteps.{exists, node_named, node_below, ready_next, further, own_case, same_name}
use Rattle.net_board.proofs.ListPlaces.{length_with_all, length_slice_set}

-- ---- what no firing changes

acted_room : (net : NetOf) (m : Tokens) (piece : ℕ) (made : Passed) → length (acted net m piece made).edges ≡ length m.edges
acted_room net m piece (Along edge new text) = length_with_all m.edges (switches net piece) (λ switch. Some edge)
acted_room net m piece Done = length_with_all m.edges (switches net piece) (λ switch. Some (out (graph_in net) piece 0))
acted_room net m piece (Traps trap) = by (net.touches piece 0)
  where
    by : (b : Bool) → length (if b then stopped net m piece trap else gone net m piece (out (graph_in net) piece 0) m.memory).edges ≡ length m.edges
    by true = refl
    by false = length_with_all m.edges (switches net piece) (λ switch. Some (out (graph_in net) piece 0))

pub fired_room : (net : NetOf) (m : Tokens) (k : ℕ) (name : NodeName) → length (fired_as net m k name).edges ≡ length m.edges
fired_room net m k (Act piece) = acted_room net m piece (pass_at net piece m.memory)
fired_room net m k (Switch piece line) = by (left_for m k)
  where
    by : (left : Option ℕ) → length (switched net m k line left).edges ≡ length m.edges
    by None = refl
    by (Some edge) = length_slice_set m.edges k None
fired_room net m k (Merge piece line) = refl
fired_room net m k (Op piece i) = refl

acted_goes : (net : NetOf) (m : Tokens) (piece : ℕ) (made : Passed) → (DoesTrap made → ⊥) → m.trap ≡ None → (acted net m piece made).trap ≡ None
acted_goes net m piece (Along edge new text) goes none = none
acted_goes net m piece Done goes none = none
acted_goes net m piece (Traps trap) goes none = absurd (goes tt)

line_text : (made : Passed) → line_bytes (text_of made) ≡ text_in made
line_text (Along edge new text) = by text
  where
    by : (text : List ℕ) → line_bytes (text_written text) ≡ text
    by [] = refl
    by (byte ∷ more) = refl
line_text (Traps trap) = refl
line_text Done = refl

module _ (net : NetOf) (is_net : IsNet net) (ground : FlowFacts net is_net.tree) (e piece : ℕ) (inside : e < edge_count (graph_in net)) (comes : to (graph_in net) e ≡ piece) (later : 0 ≢ piece) (s : Tokens) (memory : Memory) (between : IsBetween net is_net.tree s e memory) (room : length s.edges ≡ length (nodes_of net)) where
  module _ (m : Tokens) (j : ℕ) (amid : IsAmid net s m piece j memory (pass_at net piece memory)) (name : NodeName) (at : slice_get (nodes_at net piece) j ≡ Some name) where
    the_case : NodeCase net piece j (kind_in net piece)
    the_case = own_case net is_net ground e piece inside comes s memory between m j amid name at

    memory_first : j ≡ 0 → m.memory ≡ memory
    memory_first first = amid.memory_is ∙ ap (memory_amid memory (pass_at net piece memory)) first

    fired_goes : (DoesTrap (pass_at net piece memory) → ⊥) → (fired_as net m (first_node net piece + j) name).trap ≡ None
    fired_goes goes = by the_case
      where
        switched_trap : (line : ℕ) (left : Option ℕ) → (switched net m (first_node net piece + j) line left).trap ≡ m.trap
        switched_trap line None = refl
        switched_trap line (Some edge) = refl

        by : NodeCase net piece j (kind_in net piece) → (fired_as net m (first_node net piece + j) name).trap ≡ None
        by (inl act) =
            let same : Act piece ≡ name = same_name (Act piece) name (sym act.name ∙ at) in
            ap (λ n. (fired_as net m (first_node net piece + j) n).trap) (sym same)
            ∙ ap (λ x. (acted net m piece (pass_at net piece x)).trap) (memory_first act.first)
            ∙ acted_goes net m piece (pass_at net piece memory) goes amid.trap_is
        by (inr (inl switch)) =
            let same : Switch piece switch.line ≡ name = same_name (Switch piece switch.line) name (sym switch.name ∙ at) in
            ap (λ n. (fired_as net m (first_node net piece + j) n).trap) (sym same) ∙ switched_trap switch.line (left_for m (first_node net piece + j)) ∙ amid.trap_is
        by (inr (inr merge)) =
            let same : Merge piece merge.line ≡ name = same_name (Merge piece merge.line) name (sym merge.name ∙ at) in
            ap (λ n. (fired_as net m (first_node net piece + j) n).trap) (sym same) ∙ amid.trap_is

    text_more : text_amid (pass_at net piece memory) j ++ line_bytes (line_as net m name) ≡ text_amid (pass_at net piece memory) (suc j)
    text_more = by the_case
      where
        no_text : (i : ℕ) → text_in (pass_at net piece memory) ≡ [] → text_amid (pass_at net piece memory) i ≡ []
        no_text zero quiet = refl
        no_text (suc i) quiet = quiet

        by : NodeCase net piece j (kind_in net piece) → text_amid (pass_at net piece memory) j ++ line_bytes (line_as net m name) ≡ text_in (pass_at net piece memory)
        by (inl act) =
            let same : Act piece ≡ name = same_name (Act piece) name (sym act.name ∙ at) in
            ap (λ (i : ℕ). text_amid (pass_at net piece memory) i ++ line_bytes (line_as net m name)) act.first
            ∙ ap (λ n. line_bytes (line_as net m n)) (sym same)
            ∙ ap (λ x. line_bytes (text_of (pass_at net piece x))) (memory_first act.first)
            ∙ line_text (pass_at net piece memory)
        by (inr (inl switch)) =
            let same : Switch piece switch.line ≡ name = same_name (Switch piece switch.line) name (sym switch.name ∙ at) in
            ap (λ (i : ℕ). text_amid (pass_at net piece memory) i ++ line_bytes (line_as net m name)) switch.place
            ∙ ap (λ n. text_in (pass_at net piece memory) ++ line_bytes (line_as net m n)) (sym same)
            ∙ append-nil (text_in (pass_at net piece memory))
        by (inr (inr merge)) =
            let same : Merge piece merge.line ≡ name = same_name (Merge piece merge.line) name (sym merge.name ∙ at) in
            let quiet : text_in (pass_at net piece memory) ≡ [] = merge.quiet memory (exec_kind net.program piece) in
            ap (λ n. text_amid (pass_at net piece memory) j ++ line_bytes (line_as net m n)) (sym same)
            ∙ ap (λ (xs : List ℕ). xs ++ []) (no_text j quiet)
            ∙ sym quiet

  -- the first so many nodes have fired
  pub record IsPartFired (j : ℕ) : Type 0 where
    pub order : IsOrder (net_moves net) s (range_with_len (first_node net piece) j)
    pub amid : IsAmid net s (after (net_moves net) s (range_with_len (first_node net piece) j)) piece j memory (pass_at net piece memory)
    pub room_is : length (after (net_moves net) s (range_with_len (first_node net piece) j)).edges ≡ length (nodes_of net)
    pub lines : written (net_moves net) s (range_with_len (first_node net piece) j) ≡ text_amid (pass_at net piece memory) j

  one_further : (j : ℕ) → (DoesTrap (pass_at net piece memory) → ⊥) → j < node_count net piece → IsPartFired j → IsPartFired (suc j)
  one_further j goes low part =
      let ks = range_with_len (first_node net piece) j in
      let k = first_node net piece + j in
      let m = after (net_moves net) s (range_with_len (first_node net piece) j) in
      let own : HasItem (nodes_at net piece) j = item_at (nodes_at net piece) j low in
      let here = exists net is_net ground e piece inside comes in
      let named : node_at net (first_node net piece + j) ≡ own.item = node_named net piece j own.item here own.at in
      let more : range_with_len (first_node net piece) (suc j) ≡ range_with_len (first_node net piece) j ++ ((first_node net piece + j) ∷ []) = range_more (first_node net piece) j in
      let next : after (net_moves net) s (range_with_len (first_node net piece) (suc j)) ≡ fired_as net (after (net_moves net) s (range_with_len (first_node net piece) j)) (first_node net piece + j) own.item =
      ap (after (net_moves net) s) more ∙ after_join (net_moves net) s (range_with_len (first_node net piece) j) ((first_node net piece + j) ∷ []) ∙ ap (fired_as net (after (net_moves net) s (range_with_len (first_node net piece) j)) (first_node net piece + j)) named
      in
      let can : CanFire (net_moves net) (after (net_moves net) s (range_with_len (first_node net piece) j)) (first_node net piece + j) = record {
        going = let amid = part.amid in amid.trap_is;
        node = node_below net piece j here low;
        ready = subst (λ (n : NodeName). Rattle.net_board.specs.Tokens.ready_as net (after (net_moves net) s (range_with_len (first_node net piece) j)) (first_node net piece + j) n ≡ true) (sym named) (ready_next net is_net ground e piece inside comes s memory between (after (net_moves net) s (range_with_len (first_node net piece) j)) j part.amid own.item own.at);
      } in
      record {
        order = subst (IsOrder (net_moves net) s) (sym more) (order_join (net_moves net) s (range_with_len (first_node net piece) j) ((first_node net piece + j) ∷ []) part.order (can, tt));
        amid = subst (λ (x : Tokens). IsAmid net s x piece (suc j) memory (pass_at net piece memory)) (sym next) (further net is_net ground e piece inside comes s memory between (after (net_moves net) s (range_with_len (first_node net piece) j)) j part.amid own.item own.at part.room_is (λ trap. absurd (goes trap)) (fired_goes (after (net_moves net) s (range_with_len (first_node net piece) j)) j part.amid own.item own.at goes));
        room_is = ap (λ (x : Tokens). length x.edges) next ∙ fired_room net (after (net_moves net) s (range_with_len (first_node net piece) j)) (first_node net piece + j) own.item ∙ part.room_is;
        lines = ap (written (net_moves net) s) more
            ∙ written_join (net_moves net) s (range_with_len (first_node net piece) j) ((first_node net piece + j) ∷ [])
            ∙ ap (λ (xs : List ℕ). xs ++ (line_bytes (line_as net (after (net_moves net) s (range_with_len (first_node net piece) j)) (node_at net (first_node net piece + j))) ++ [])) part.lines
            ∙ ap (λ (xs : List ℕ). text_amid (pass_at net piece memory) j ++ xs) (append-nil (line_bytes (line_as net (after (net_moves net) s (range_with_len (first_node net piece) j)) (node_at net (first_node net piece + j)))))
            ∙ ap (λ n. text_amid (pass_at net piece memory) j ++ line_bytes (line_as net (after (net_moves net) s (range_with_len (first_node net piece) j)) n)) named
            ∙ text_more (after (net_moves net) s (range_with_len (first_node net piece) j)) j part.amid own.item own.at;
      }

  pub part_fired : (j : ℕ) → (DoesTrap (pass_at net piece memory) → ⊥) → j ≤ node_count net piece → IsPartFired j
  part_fired zero goes few = record { order = tt; amid = none_fired net is_net ground e piece inside comes later s memory between; room_is = room; lines = refl }
  part_fired (suc j) goes few = one_further j goes (omega (arith, few)) (part_fired j goes (omega (arith, few)))

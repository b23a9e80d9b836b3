-- The nodes of a piece fire one after another, and do what the pass does.
use Rattle.std.proofs.Common.{◌≡◌, ℕ, suc, ◌+◌, ◌<◌, ◌&&◌, Bool, true, false, not, List, [], ◌∷◌, length, map, filter, Option, Some, None, is_some, slice_get, refl, sym, ap, ◌∙◌, subst, inl, inr, arith, eq-eqb}
use Rattle.std.proofs.lemmas.Bool.{and_from}
use Rattle.std.specs.List.{list_all, range_with_len}
use Rattle.closed_walks.specs.Graph.{edge_count, to}
use Rattle.f77_tree.specs.Execution.{Memory}
use Rattle.cfg_build.specs.declared.pieces.PieceKind.{PieceKind}
use Rattle.cfg_build.specs.declared.pieces.PieceKind.TheVariants as kind
use Rattle.cfg_build.specs.Joined.{is_end}
use Rattle.cfg_build.specs.Passes.{Done, pass}
use Rattle.dep_routing.specs.Sound.{DoesTrap}
use Rattle.dep_routing.specs.Touches.{exec_kind}
use Rattle.firing.specs.declared.system.NodeName.{NodeName}
use Rattle.firing.specs.declared.system.NodeName.TheVariants.{Act, Merge, Switch}
use Rattle.net_board.specs.WithinPiece.{moved_by, moved_first, leaving, memory_amid, switch_count, IsAmid}
use Rattle.net_board.specs.SoundNets.{IsNet}
use Rattle.net_board.specs.FlowFacts.{FlowFacts}
use Rattle.list_laws.specs.Member.{Member}
use Rattle.net_board.specs.NetLockstep.{IsBetween}
use Rattle.net_board.specs.Nodes.{NetOf, graph_in, kind_in, is_free, touched, led_to, passing, nodes_by, nodes_at, nodes_of, node_count, node_at, name_in, first_node, switch_lines, switches}
use Rattle.net_board.specs.Tokens.{Tokens, joined, edge_of, left_for, led_from, is_before, leads_to, ready_as, pass_at, acted, switched, merged, fired_as}
use Rattle.net_board.proofs.WithinPieceLaws.{NodeCase, node_case, not_moved}
use Rattle.net_board.proofs.WithinPieceSteps.{act_amid, switch_amid, merge_amid}
use Rattle.net_board.proofs.FreeLines.{test_of_free, stands_before}
use Rattle.list_laws.proofs.Members.{Member-filtered, Member-in_range}
use Rattle.net_board.proofs.ListPrefixes.{member_at, below_length, HasItem, item_at, get_flat}
use Rattle.net_board.proofs.ListPlaces.{with_all_other}
use Rattle.std.proofs.lemmas.Bool.{and_parts}

-- ---- numbers of nodes

pub node_number : (net : NetOf) (piece j : ℕ) (name : NodeName) → piece < (graph_in net).nodes → slice_get (nodes_at net piece) j ≡ Some name → slice_get (nodes_of net) (first_node net piece + j) ≡ Some name
node_number net piece j name exists at =
    let same : piece ≡ 0 + piece = omega arith in
    get_flat (nodes_at net) 0 (graph_in net).nodes piece j name exists (subst (λ (x : ℕ). slice_get (nodes_at net x) j ≡ Some name) same at)

pub node_named : (net : NetOf) (piece j : ℕ) (name : NodeName) → piece < (graph_in net).nodes → slice_get (nodes_at net piece) j ≡ Some name → node_at net (first_node net piece + j) ≡ name
node_named net piece j name exists at = ap name_in (node_number net piece j name exists at)

pub node_below : (net : NetOf) (piece j : ℕ) → piece < (graph_in net).nodes → j < node_count net piece → first_node net piece + j < length (nodes_of net)
node_below net piece j exists low =
    let r : HasItem (nodes_at net piece) j = item_at (nodes_at net piece) j low in
    below_length (nodes_of net) (first_node net piece + j) r.item (node_number net piece j r.item exists r.at)

pub all_members : (test : ℕ → Bool) (xs : List ℕ) → ((x : ℕ) → Member xs x → test x ≡ true) → list_all test xs ≡ true
all_members test [] each = refl
all_members test (x ∷ xs) each = and_from (test x) (list_all test xs) (each x (inl refl)) (all_members test xs (λ y m. each y (inr m)))

pub same_name : (a b : NodeName) → Some a ≡ Some b → a ≡ b
same_name a b e = cc

-- the piece has as many nodes as switches, and one more
one_more : (net : NetOf) (piece : ℕ) (k : PieceKind) → slice_get (nodes_by net piece k) 0 ≡ Some (Act piece) → length (switch_lines net piece k) < length (nodes_by net piece k)
one_more net piece kind.Act at = omega arith
one_more net piece kind.Branch at = let h = length_map (passing net piece) in omega (arith, h)
  where
    length_map : (lines : List ℕ) → length (map (Switch piece) lines) ≡ length lines
    length_map [] = refl
    length_map (x ∷ lines) = ap suc (length_map lines)
one_more net piece kind.Hold at = let h = length_map (passing net piece) in omega (arith, h)
  where
    length_map : (lines : List ℕ) → length (map (Switch piece) lines) ≡ length lines
    length_map [] = refl
    length_map (x ∷ lines) = ap suc (length_map lines)
one_more net piece kind.Join at = absurd (no_merge (led_to net piece) at)
  where
    no_merge : (lines : List ℕ) → slice_get (map (Merge piece) lines) 0 ≡ Some (Act piece) → ⊥
    no_merge [] at = let e : None ≡ Some (Act piece) = at in cc
    no_merge (x ∷ lines) at = let e : Some (Merge piece x) ≡ Some (Act piece) = at in cc
one_more net piece kind.End at = absurd (no_merge (led_to net piece) at)
  where
    no_merge : (lines : List ℕ) → slice_get (map (Merge piece) lines) 0 ≡ Some (Act piece) → ⊥
    no_merge [] at = let e : None ≡ Some (Act piece) = at in cc
    no_merge (x ∷ lines) at = let e : Some (Merge piece x) ≡ Some (Act piece) = at in cc
one_more net piece kind.Start at = let e : None ≡ Some (Act piece) = at in absurd cc
one_more net piece kind.Pass at = let e : None ≡ Some (Act piece) = at in absurd cc

module _ (net : NetOf) (is_net : IsNet net) (ground : FlowFacts net is_net.tree) (e piece : ℕ) (inside : e < edge_count (graph_in net)) (comes : to (graph_in net) e ≡ piece) where
  pub exists : piece < (graph_in net).nodes
  exists = subst (λ (x : ℕ). x < (graph_in net).nodes) comes (ground.graph.heads e inside)

  pub record IsLed (line : ℕ) : Type 0 where
    pub below : line < net.routing.lines
    pub free : is_free net piece line ≡ true

  -- a line that passes a test of all lines
  low_of : (test : ℕ → Bool) (line : ℕ) → Member (filter test (range_with_len 0 net.routing.lines)) line → line < net.routing.lines
  low_of test line m =
      let h = (Member-in_range 0 net.routing.lines line (Member-filtered test (range_with_len 0 net.routing.lines) line m).0).1 in
      omega (arith, h)

  pub led_touched : (line : ℕ) → Member (touched net piece) line → IsLed line
  led_touched line m =
      let low = low_of (net.touches piece) line m in
      let touches = (Member-filtered (net.touches piece) (range_with_len 0 net.routing.lines) line m).1 in
      record { below = low; free = test_of_free net is_net e piece line inside comes low (ground.touching piece line touches) }

  pub led_passing : (line : ℕ) → Member (passing net piece) line → IsLed line
  led_passing line m =
      let test : ℕ → Bool = λ l. is_free net piece l && not (net.touches piece l) in
      record { below = low_of test line m; free = (and_parts (is_free net piece line) (not (net.touches piece line)) (Member-filtered test (range_with_len 0 net.routing.lines) line m).1).0 }

  pub led_led : (line : ℕ) → Member (led_to net piece) line → IsLed line
  led_led line m = record { below = low_of (is_free net piece) line m; free = (Member-filtered (is_free net piece) (range_with_len 0 net.routing.lines) line m).1 }

  -- the lines that a node of the piece moves are led to it
  led_moved : (j : ℕ) (name : NodeName) (line : ℕ) → NodeCase net piece j (kind_in net piece) → slice_get (nodes_at net piece) j ≡ Some name → Member (moved_by net name) line → IsLed line
  led_moved j name line (inl act) at m = led_touched line (subst (λ n. Member (moved_by net n) line) (same_name name (Act piece) (sym at ∙ act.name)) m)
  led_moved j name line (inr (inl switch)) at m = by (subst (λ n. Member (moved_by net n) line) (same_name name (Switch piece switch.line) (sym at ∙ switch.name)) m)
    where
      by : Member (switch.line ∷ []) line → IsLed line
      by (inl same) = led_passing line (subst (λ (l : ℕ). Member (passing net piece) l) same (member_at (passing net piece) switch.i switch.line switch.at))
      by (inr none) = absurd none
  led_moved j name line (inr (inr merge)) at m = by (subst (λ n. Member (moved_by net n) line) (same_name name (Merge piece merge.line) (sym at ∙ merge.name)) m)
    where
      by : Member (merge.line ∷ []) line → IsLed line
      by (inl same) = led_led line (subst (λ (l : ℕ). Member (led_to net piece) l) same (member_at (led_to net piece) j merge.line merge.at))
      by (inr none) = absurd none

  module _ (s : Tokens) (memory : Memory) (between : IsBetween net is_net.tree s e memory) (m : Tokens) (j : ℕ) (amid : IsAmid net s m piece j memory (pass_at net piece memory)) (name : NodeName) (at : slice_get (nodes_at net piece) j ≡ Some name) where
    some_low : j < node_count net piece
    some_low = below_length (nodes_at net piece) j name at

    pub own_case : NodeCase net piece j (kind_in net piece)
    own_case = node_case net piece j (kind_in net piece) some_low

    before_it : (line : ℕ) → Member (moved_by net name) line → is_before net m piece line ≡ true
    before_it line mine =
        let led : IsLed line = led_moved j name line own_case at mine in
        let made = pass_at net piece memory in
        let moved = moved_first net (nodes_at net piece) j in
        let at_edge : edge_of m line ≡ Some e =
        ap (λ (lines : List (Option ℕ)). joined (slice_get lines line)) amid.lines
        ∙ ap joined (with_all_other s.lines moved (led_from net (leaving net piece made)) line (not_moved net piece j (kind_in net piece) name line some_low at mine))
        ∙ stands_before net is_net ground s e piece line memory inside comes between led.below led.free
        in
        ap (leads_to (graph_in net) piece) at_edge ∙ eq-eqb (to (graph_in net) e) piece comes

    pub ready_next : ready_as net m (first_node net piece + j) name ≡ true
    ready_next = by own_case
      where
        by : NodeCase net piece j (kind_in net piece) → ready_as net m (first_node net piece + j) name ≡ true
        by (inl act) =
            let same : Act piece ≡ name = same_name (Act piece) name (sym act.name ∙ at) in
            let lines : list_all (is_before net m piece) (touched net piece) ≡ true = all_members (is_before net m piece) (touched net piece) (λ line own. before_it line (subst (λ n. Member (moved_by net n) line) same own)) in
            let free : list_all (λ switch. not (is_some (left_for m switch))) (switches net piece) ≡ true = all_members (λ switch. not (is_some (left_for m switch))) (switches net piece) (λ switch own. ap (λ (o : Option ℕ). not (is_some o)) (amid.at_first act.first switch)) in
            subst (λ n. ready_as net m (first_node net piece + j) n ≡ true) same (and_from (list_all (is_before net m piece) (touched net piece)) (list_all (λ switch. not (is_some (left_for m switch))) (switches net piece)) lines free)
        by (inr (inl switch)) =
            let same : Switch piece switch.line ≡ name = same_name (Switch piece switch.line) name (sym switch.name ∙ at) in
            let low = below_length (passing net piece) switch.i switch.line switch.at in
            let place = switch.place in
            let count = switch.count in
            let left : left_for m (first_node net piece + j) ≡ Some (leaving net piece (pass_at net piece memory)) = amid.left (first_node net piece + j) (omega (arith, place)) (omega arith) (omega (arith, place, low, count)) in
            subst (λ n. ready_as net m (first_node net piece + j) n ≡ true) same (and_from (is_before net m piece switch.line) (is_some (left_for m (first_node net piece + j))) (before_it switch.line (subst (λ n. Member (moved_by net n) switch.line) same (inl refl))) (ap (λ (o : Option ℕ). is_some o) left))
        by (inr (inr merge)) =
            let same : Merge piece merge.line ≡ name = same_name (Merge piece merge.line) name (sym merge.name ∙ at) in
            subst (λ n. ready_as net m (first_node net piece + j) n ≡ true) same (before_it merge.line (subst (λ n. Member (moved_by net n) merge.line) same (inl refl)))

    pub further : length m.edges ≡ length (nodes_of net) → (DoesTrap (pass_at net piece memory) → net.touches piece 0 ≡ true) → (fired_as net m (first_node net piece + j) name).trap ≡ None → IsAmid net s (fired_as net m (first_node net piece + j) name) piece (suc j) memory (pass_at net piece memory)
    further room traps no_trap = by own_case
      where
        by : NodeCase net piece j (kind_in net piece) → IsAmid net s (fired_as net m (first_node net piece + j) name) piece (suc j) memory (pass_at net piece memory)
        by (inl act) =
            let made = pass_at net piece memory in
            let same : Act piece ≡ name = same_name (Act piece) name (sym act.name ∙ at) in
            let memory_is : m.memory ≡ memory = amid.memory_is ∙ ap (memory_amid memory made) act.first in
            let whole : fired_as net m (first_node net piece + j) name ≡ acted net m piece made = ap (fired_as net m (first_node net piece + j)) (sym same) ∙ ap (λ x. acted net m piece (pass_at net piece x)) memory_is in
            let first : slice_get (nodes_at net piece) 0 ≡ Some (Act piece) = subst (λ (i : ℕ). slice_get (nodes_at net piece) i ≡ Some (Act piece)) act.first act.name in
            let low : first_node net piece + switch_count net piece < length (nodes_of net) = node_below net piece (switch_count net piece) exists (one_more net piece (kind_in net piece) first) in
            let going : made ≡ Done → ⊥ = λ is.
            let ended : pass net.program net.input e memory ≡ Done = ap (λ (x : ℕ). pass_at net x memory) comes ∙ is in
            let end_kind : kind_in net piece ≡ kind.End = ap (kind_in net) (sym comes) ∙ ground.graph.ends e memory inside ended in
            let clash : false ≡ true = sym act.acts ∙ ap is_end end_kind in
            absurd cc
            in
            let after : IsAmid net s (acted net m piece made) piece 1 memory made = act_amid net s m piece memory made (subst (λ (i : ℕ). IsAmid net s m piece i memory made) act.first amid) first (omega (arith, low, room)) going traps (ap (λ (x : Tokens). x.trap) (sym whole) ∙ no_trap) in
            subst (λ (x : Tokens). IsAmid net s x piece (suc j) memory made) (sym whole) (subst (λ (i : ℕ). IsAmid net s (acted net m piece made) piece (suc i) memory made) (sym act.first) after)
        by (inr (inl switch)) =
            let made = pass_at net piece memory in
            let edge = leaving net piece made in
            let line = switch.line in
            let same : Switch piece line ≡ name = same_name (Switch piece line) name (sym switch.name ∙ at) in
            let low = below_length (passing net piece) switch.i line switch.at in
            let place = switch.place in
            let count = switch.count in
            let left : left_for m (first_node net piece + j) ≡ Some edge = amid.left (first_node net piece + j) (omega (arith, place)) (omega arith) (omega (arith, place, low, count)) in
            let whole : fired_as net m (first_node net piece + j) name ≡ switched net m (first_node net piece + j) line (Some edge) = ap (fired_as net m (first_node net piece + j)) (sym same) ∙ ap (switched net m (first_node net piece + j) line) left in
            let first : slice_get (nodes_at net piece) (suc switch.i) ≡ Some (Switch piece line) = subst (λ (i : ℕ). slice_get (nodes_at net piece) i ≡ Some (Switch piece line)) place switch.name in
            let after : IsAmid net s (switched net m (first_node net piece + suc switch.i) line (Some edge)) piece (suc (suc switch.i)) memory made = switch_amid net s m piece memory made switch.i line (subst (λ (i : ℕ). IsAmid net s m piece i memory made) place amid) first (omega (arith, low, count)) in
            subst (λ (x : Tokens). IsAmid net s x piece (suc j) memory made) (sym whole) (subst (λ (i : ℕ). IsAmid net s (switched net m (first_node net piece + i) line (Some edge)) piece (suc i) memory made) (sym place) after)
        by (inr (inr merge)) =
            let made = pass_at net piece memory in
            let same : Merge piece merge.line ≡ name = same_name (Merge piece merge.line) name (sym merge.name ∙ at) in
            let after : IsAmid net s (merged net m piece merge.line) piece (suc j) memory made = merge_amid net s m piece memory made j merge.line amid merge.name merge.none (merge.edge memory (exec_kind net.program piece)) (merge.memory memory (exec_kind net.program piece)) (merge.goes memory (exec_kind net.program piece)) in
            subst (λ (n : NodeName). IsAmid net s (fired_as net m (first_node net piece + j) n) piece (suc j) memory made) same after

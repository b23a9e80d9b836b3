-- Pieces that act, and their switches.
use Rattle.std.proofs.Common.{◌≡◌, ◌<◌, ◌≤◌, ◌+◌, ◌-◌, ◌&&◌, ℕ, suc, Bool, true, false, not, is_some, List, [], length, Option, Some, None, refl, sym, ap, ◌∙◌, subst, arith}
use Rattle.std.specs.List.{list_all, range_with_len}
use Rattle.std.proofs.lemmas.List.{length-map}
use Rattle.std.proofs.lemmas.List.FromFn.{length-range_with_len}
use Rattle.std.proofs.lemmas.Bool.{eq-eqb}
use Rattle.cfg_build.specs.declared.pieces.PieceKind.{PieceKind}
use Rattle.cfg_build.specs.declared.pieces.PieceKind.TheVariants as kind
use Rattle.firing.specs.Control.{steered, is_node}
use Rattle.firing.specs.declared.system.NodeName.TheVariants.{Act, Merge, Switch}
use Rattle.net_board.specs.declared.control.Control.{Control}
use Rattle.net_board.specs.ControlCourse.{due_node, moved_on, net_course}
use Rattle.net_board.specs.Nodes.{is_acting, NetOf, graph_in, kind_in, all_lines, is_free, touched, passing, nodes_by, nodes_of, node_at, node_count, first_node, switch_lines, switches}
use Rattle.net_board.specs.Tokens.{Tokens, is_before, left_for, ready_as}
use Rattle.net_board.proofs.NodeLaws.{IsNamed, named}
use Rattle.net_tables.proofs.NodeRanges.{nodes_within}
use Rattle.net_tables.proofs.TableLemmas.{short_filter}

module _ (net : NetOf) (piece : ℕ) where
  acting_count : (k : PieceKind) → is_acting k ≡ true → length (nodes_by net piece k) ≡ suc (length (switch_lines net piece k))
  acting_count kind.Act acts = refl
  acting_count kind.Branch acts = ap suc (length-map (passing net piece) (Switch piece))
  acting_count kind.Hold acts = ap suc (length-map (passing net piece) (Switch piece))
  acting_count kind.Start acts = absurd cc
  acting_count kind.Pass acts = absurd cc
  acting_count kind.Join acts = absurd cc
  acting_count kind.End acts = absurd cc

  pub acting_some : is_acting (kind_in net piece) ≡ true → node_count net piece ≡ suc (length (switch_lines net piece (kind_in net piece)))
  acting_some acts = acting_count (kind_in net piece) acts

  pub switches_are : (first end : ℕ) → is_acting (kind_in net piece) ≡ true → first ≡ first_node net piece → end ≡ first_node net piece + node_count net piece → range_with_len (suc first) (end - suc first) ≡ switches net piece
  switches_are first end acts begins ends =
      let n = acting_some acts in
      let count : end - suc first ≡ length (switch_lines net piece (kind_in net piece)) = omega (arith, n, begins, ends) in
      ap (λ x. range_with_len (suc x) (end - suc first)) begins ∙ ap (range_with_len (suc (first_node net piece))) count

  passing_few : length (passing net piece) ≤ net.routing.lines
  passing_few =
      let s = short_filter (λ line. is_free net piece line && not (net.touches piece line)) (all_lines net) in
      let r = length-range_with_len 0 net.routing.lines in
      omega (arith, s, r)

  few_by : (k : PieceKind) → length (switch_lines net piece k) ≤ net.routing.lines
  few_by kind.Act = omega arith
  few_by kind.Branch = passing_few
  few_by kind.Hold = passing_few
  few_by kind.Start = omega arith
  few_by kind.Pass = omega arith
  few_by kind.Join = omega arith
  few_by kind.End = omega arith

  pub switches_few : (first end : ℕ) → is_acting (kind_in net piece) ≡ true → first ≡ first_node net piece → end ≡ first_node net piece + node_count net piece → end - suc first ≤ net.routing.lines
  switches_few first end acts begins ends =
      let n = acting_some acts in
      let f = few_by (kind_in net piece) in
      omega (arith, n, f, begins, ends)

  pub first_below : (first : ℕ) → piece < (graph_in net).nodes → is_acting (kind_in net piece) ≡ true → first ≡ first_node net piece → first < length (nodes_of net)
  first_below first exists acts begins =
      let n = acting_some acts in
      let within = nodes_within net piece exists in
      omega (arith, n, within, begins)

  -- ---- names

  pub record IsActing (k : ℕ) : Type 0 where
    pub exists : piece < (graph_in net).nodes
    pub acts : is_acting (kind_in net piece) ≡ true

  pub act_named : (k : ℕ) → k < length (nodes_of net) → node_at net k ≡ Act piece → IsActing k
  act_named k below name =
      let n : IsNamed net (Act piece) = subst (λ a. IsNamed net a) name (named net k below) in
      record { exists = n.exists; acts = n.fits.1 }

  pub record IsSwitching (line k : ℕ) : Type 0 where
    pub exists : piece < (graph_in net).nodes
    pub acts : is_acting (kind_in net piece) ≡ true
    pub inside : line < net.routing.lines

  pub switch_named : (k line : ℕ) → k < length (nodes_of net) → node_at net k ≡ Switch piece line → IsSwitching line k
  switch_named k line below name =
      let n : IsNamed net (Switch piece line) = subst (λ a. IsNamed net a) name (named net k below) in
      record { exists = n.exists; acts = n.fits.1; inside = n.fits.2 }

  pub record IsMerging (line k : ℕ) : Type 0 where
    pub exists : piece < (graph_in net).nodes
    pub inside : line < net.routing.lines

  pub merge_named : (k line : ℕ) → k < length (nodes_of net) → node_at net k ≡ Merge piece line → IsMerging line k
  merge_named k line below name =
      let n : IsNamed net (Merge piece line) = subst (λ a. IsNamed net a) name (named net k below) in
      record { exists = n.exists; inside = n.fits.2 }

-- ---- what is ready

pub ready_if : (net : NetOf) (m : Tokens) (piece k : ℕ) (before clear : Bool) (moved row : List ℕ) → moved ≡ touched net piece → row ≡ switches net piece → before ≡ list_all (is_before net m piece) moved → clear ≡ list_all (λ switch. not (is_some (left_for m switch))) row → before ≡ true → clear ≡ ready_as net m k (Act piece)
ready_if net m piece k before clear moved row lines nodes all none yes' =
    let here : list_all (is_before net m piece) (touched net piece) ≡ true = ap (list_all (is_before net m piece)) (sym lines) ∙ sym all ∙ yes' in
    none ∙ ap (list_all (λ switch. not (is_some (left_for m switch)))) nodes ∙ ap (λ b. b && list_all (λ switch. not (is_some (left_for m switch))) (switches net piece)) (sym here)

pub ready_unless : (net : NetOf) (m : Tokens) (piece k : ℕ) (before : Bool) (moved : List ℕ) → moved ≡ touched net piece → before ≡ list_all (is_before net m piece) moved → before ≡ false → before ≡ ready_as net m k (Act piece)
ready_unless net m piece k before moved lines all no' =
    let here : list_all (is_before net m piece) (touched net piece) ≡ false = ap (list_all (is_before net m piece)) (sym lines) ∙ sym all ∙ no' in
    no' ∙ ap (λ b. b && list_all (λ switch. not (is_some (left_for m switch))) (switches net piece)) (sym here)

-- ---- control

pub steered_if : (net : NetOf) (m : Tokens) (control : Option Control) (c moved : Control) (k : ℕ) → control ≡ Some c → due_node net c ≡ Some k → moved ≡ moved_on net m c → Some moved ≡ steered (net_course net) m control k
steered_if net m control c moved k stands due is =
    let here : is_node (due_node net c) k ≡ true = ap (λ o. is_node o k) due ∙ eq-eqb k k refl in
    ap (λ x. Some x) is
    ∙ ap (λ (b : Bool). Rattle.std.proofs.Common.cond b (Some (moved_on net m c)) None) (sym here)
    ∙ ap (λ o. steered (net_course net) m o k) (sym stands)

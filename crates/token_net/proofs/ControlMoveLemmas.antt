-- Which node is due at a place of control, and where its firing moves that.
use Rattle.std.proofs.Common.{◌≡◌, ◌<◌, ◌+◌, ◌==◌, ◌||◌, ◌⊎◌, inl, inr, ℕ, suc, nat_lt, Bool, true, false, if◌then◌else◌, List, [], ◌∷◌, length, map, Some, slice_get, refl, sym, ap, ◌∙◌, arith}
use Rattle.std.proofs.lemmas.Bool.{cases_Bool, eqb-true, eq-eqb}
use Rattle.f77_tree.specs.declared.programs.ExecKind.{ExecKind}
use Rattle.f77_tree.specs.Execution.{Memory}
use Rattle.cfg_build.specs.declared.pieces.PieceKind.{PieceKind}
use Rattle.cfg_build.specs.declared.pieces.PieceKind.TheVariants as kind
use Rattle.cfg_build.specs.Joined.{is_end}
use Rattle.cfg_build.specs.Passes.{out, pass_of}
use Rattle.dep_routing.specs.Touches.{exec_kind}
use Rattle.firing.specs.declared.system.NodeName.{NodeName}
use Rattle.firing.specs.declared.system.NodeName.TheVariants.{Act, Merge, Switch}
use Rattle.net_board.specs.declared.control.Control.{Control}
use Rattle.net_board.specs.ControlCourse.{arrived, due_node, edge_or, moved_on, taken}
use Rattle.net_board.specs.Nodes.{is_acting, NetOf, graph_in, kind_in, nodes_by, nodes_of, node_at, node_count, first_node, led_to}
use Rattle.net_board.specs.ControlPlaces.{IsPlaced, Leads}
use Rattle.net_board.specs.Tokens.{Tokens, pass_at}
use Rattle.net_board.proofs.NodeLaws.{node_is, node_of}
use Rattle.net_board.proofs.LockstepLaws.{IsDue, due_is}

-- ---- where it leads

pub leaves_are : (net : NetOf) (m : Tokens) (c : Control) (edge leaves : ℕ) → leaves ≡ (if c.fired == 0 then edge else c.leaves) → (c.fired ≡ 0 → taken net m c ≡ edge) → leaves ≡ taken net m c
leaves_are net m c edge leaves is takes = by (cases_Bool (c.fired == 0))
  where
    by : ((c.fired == 0) ≡ true) ⊎ ((c.fired == 0) ≡ false) → leaves ≡ taken net m c
    by (inl first) = is ∙ ap (λ b. if b then edge else c.leaves) first ∙ sym (takes (eqb-true c.fired 0 first))
    by (inr later) = is ∙ ap (λ b. if b then edge else c.leaves) later ∙ ap (λ b. if b then edge_or (out (graph_in net) c.piece 0) (pass_at net c.piece m.memory) else c.leaves) (sym later)

pub moved_unless : (net : NetOf) (m : Tokens) (c : Control) (leaves piece : ℕ) → leaves ≡ taken net m c → piece ≡ Rattle.net_board.specs.ControlCourse.arrival net leaves → (nat_lt (suc c.fired) (node_count net c.piece) || is_end (kind_in net c.piece)) ≡ false → (record { piece = piece; fired = 0; leaves = 0 }) ≡ moved_on net m c
moved_unless net m c leaves piece are comes goes =
    ap (λ p. record { piece = p; fired = 0; leaves = 0 }) comes
    ∙ ap (arrived net) are
    ∙ ap (λ (b : Bool). if b then record { piece = c.piece; fired = suc c.fired; leaves = taken net m c } else arrived net (taken net m c)) (sym goes)

-- ---- the edge that the first node of a piece takes

-- what the first node of a piece is
abbrev FirstIs : (piece : ℕ) → PieceKind → NodeName → Type 0
FirstIs piece k name = ((name ≡ Act piece) × (is_acting k ≡ true)) ⊎ ((line : ℕ) × (name ≡ Merge piece line) × (is_acting k ≡ false))

module _ (net : NetOf) (piece : ℕ) where
  act_first : (name : NodeName) (k : PieceKind) → is_acting k ≡ true → Some (Act piece) ≡ Some name → FirstIs piece k name
  act_first name k acts e = let same : name ≡ Act piece = cc in inl (same, acts)

  merge_first : (name : NodeName) (k : PieceKind) → is_acting k ≡ false → (lines : List ℕ) → slice_get (map (Merge piece) lines) 0 ≡ Some name → FirstIs piece k name
  merge_first name k joins [] e = absurd cc
  merge_first name k joins (line ∷ lines) e = let same : name ≡ Merge piece line = cc in inr (line, same, joins)

  first_is : (name : NodeName) (k : PieceKind) → slice_get (nodes_by net piece k) 0 ≡ Some name → FirstIs piece k name
  first_is name kind.Act e = act_first name kind.Act refl e
  first_is name kind.Branch e = act_first name kind.Branch refl e
  first_is name kind.Hold e = act_first name kind.Hold refl e
  first_is name kind.Join e = merge_first name kind.Join refl (led_to net piece) e
  first_is name kind.End e = merge_first name kind.End refl (led_to net piece) e
  first_is name kind.Start e = absurd cc
  first_is name kind.Pass e = absurd cc

  -- a piece that joins takes its first edge
  joins_first : (k : PieceKind) (e : ExecKind) (m : Memory) → is_acting k ≡ false → edge_or (out (graph_in net) piece 0) (pass_of net.program net.input m (out (graph_in net) piece) k e) ≡ out (graph_in net) piece 0
  joins_first kind.Act e m joins = absurd cc
  joins_first kind.Branch e m joins = absurd cc
  joins_first kind.Hold e m joins = absurd cc
  joins_first kind.Join e m joins = refl
  joins_first kind.End e m joins = refl
  joins_first kind.Start e m joins = refl
  joins_first kind.Pass e m joins = refl

module _ (net : NetOf) (m : Tokens) (k : ℕ) (below : k < length (nodes_of net)) where
  due_first : (c : Control) → IsPlaced net c → due_node net c ≡ Some k → c.fired ≡ 0 → FirstIs c.piece (kind_in net c.piece) (node_at net k)
  due_first c placed due none =
      let d : IsDue net c k = due_is net c k due in
      let low : 0 < node_count net c.piece = omega (arith, d.low, none) in
      let here : first_node net c.piece + 0 ≡ k = omega (arith, d.is, none) in
      first_is net c.piece (node_at net k) (kind_in net c.piece) (sym (node_of net c.piece 0 placed.piece low) ∙ ap (slice_get (nodes_of net)) here ∙ node_is net k below)

  takes_pass : (c : Control) → c.fired ≡ 0 → taken net m c ≡ edge_or (out (graph_in net) c.piece 0) (pass_at net c.piece m.memory)
  takes_pass c none = ap (λ b. if b then edge_or (out (graph_in net) c.piece 0) (pass_at net c.piece m.memory) else c.leaves) (eq-eqb c.fired 0 none)

  pub act_leads : (piece edge : ℕ) → node_at net k ≡ Act piece → edge_or (out (graph_in net) piece 0) (pass_at net piece m.memory) ≡ edge → Leads net m k edge
  act_leads piece edge name takes c placed due none = by (due_first c placed due none)
    where
      by : FirstIs c.piece (kind_in net c.piece) (node_at net k) → taken net m c ≡ edge
      by (inl (is, acts)) =
          let e : Act c.piece ≡ Act piece = sym is ∙ name in
          let same : c.piece ≡ piece = cc in
          takes_pass c none ∙ ap (λ p. edge_or (out (graph_in net) p 0) (pass_at net p m.memory)) same ∙ takes
      by (inr (line, is, joins)) = let e : Merge c.piece line ≡ Act piece = sym is ∙ name in absurd cc

  pub switch_leads : (piece line edge : ℕ) → node_at net k ≡ Switch piece line → Leads net m k edge
  switch_leads piece line edge name c placed due none = by (due_first c placed due none)
    where
      by : FirstIs c.piece (kind_in net c.piece) (node_at net k) → taken net m c ≡ edge
      by (inl (is, acts)) = let e : Act c.piece ≡ Switch piece line = sym is ∙ name in absurd cc
      by (inr (other, is, joins)) = let e : Merge c.piece other ≡ Switch piece line = sym is ∙ name in absurd cc

  pub merge_leads : (piece line : ℕ) → node_at net k ≡ Merge piece line → Leads net m k (out (graph_in net) piece 0)
  merge_leads piece line name c placed due none = by (due_first c placed due none)
    where
      by : FirstIs c.piece (kind_in net c.piece) (node_at net k) → taken net m c ≡ out (graph_in net) piece 0
      by (inl (is, acts)) = let e : Act c.piece ≡ Merge piece line = sym is ∙ name in absurd cc
      by (inr (other, is, joins)) =
          let e : Merge c.piece other ≡ Merge piece line = sym is ∙ name in
          let same : c.piece ≡ piece = cc in
          takes_pass c none ∙ joins_first net c.piece (kind_in net c.piece) (exec_kind net.program c.piece) m.memory joins ∙ ap (λ p. out (graph_in net) p 0) same

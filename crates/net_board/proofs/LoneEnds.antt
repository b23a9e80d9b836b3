-- An end to which one edge leads has no nodes.
use Rattle.std.proofs.Common.{◌≡◌, ◌≢◌, ℕ, ◌<◌, Bool, true, false, cond, List, [], ◌∷◌, map, filter, refl, sym, ap, ◌∙◌, inl, inr, ⊎_elim, arith}
use Rattle.std.proofs.lemmas.Bool.{cases_Bool}
use Rattle.closed_walks.specs.Region.{IsFlowGraph, IsPassed}
use Rattle.cfg_build.specs.declared.pieces.PieceKind.TheVariants as kind
use Rattle.cfg_build.specs.Degrees.{in_degree}
use Rattle.cfg_build.specs.Shape.{leaves_one}
use Rattle.dep_routing.specs.Quiet.{IsFree}
use Rattle.firing.specs.declared.system.NodeName.TheVariants.{Merge}
use Rattle.net_board.specs.SoundNets.{IsNet}
use Rattle.net_board.specs.FlowFacts.{FlowFacts}
use Rattle.list_laws.specs.Member.{Member}
use Rattle.net_board.specs.Nodes.{NetOf, graph_in, kind_in, is_acting, is_free, all_lines, led_to, nodes_by, nodes_at}
use Rattle.net_board.proofs.FreeLines.{free_of_test}
use Rattle.list_laws.proofs.Members.{Member-in_range}
use Rattle.net_board.proofs.OneWayNodes.{IsOnOneWay, on_one_way}

-- where none passes, none is left
filter_none : (test : ℕ → Bool) (xs : List ℕ) → ((x : ℕ) → Member xs x → test x ≡ false) → filter test xs ≡ []
filter_none test [] none = refl
filter_none test (x ∷ xs) none =
    ap (λ (b : Bool). cond b (x ∷ filter test xs) (filter test xs)) (none x (inl refl)) ∙ filter_none test xs (λ y m. none y (inr m))

module _ (net : NetOf) (is_net : IsNet net) (ground : FlowFacts net is_net.tree) (flow : IsFlowGraph (graph_in net)) where
  module _ (node : ℕ) (exists : node < (graph_in net).nodes) (end_kind : kind_in net node ≡ kind.End) (one : in_degree (graph_in net) node ≡ 1) where
    not_start : 0 ≢ node
    not_start is =
        let start : kind_in net node ≡ kind.Start = (ground.graph.shape.start node exists).1 (sym is) in
        let clash : kind.Start ≡ kind.End = sym start ∙ end_kind in
        cc

    way : IsOnOneWay (graph_in net) node
    way = on_one_way (graph_in net) node flow exists not_start one (ground.graph.shape.one_leaves node exists (ap leaves_one end_kind))

    none_free : ((line : ℕ) → IsFree (graph_in net) is_net.tree net.touches line node → net.touches node line ≡ true) → (line : ℕ) → line < net.routing.lines → is_free net node line ≡ false
    none_free touching line low = ⊎_elim
        (λ (h : is_free net node line ≡ true).
        let touches : net.touches node line ≡ true = touching line (free_of_test net is_net node line low h) in
        let none : net.touches node line ≡ false = ground.touch_none node line exists (ap is_acting end_kind) in
        let clash : true ≡ false = sym touches ∙ none in
        absurd cc)
        (λ (h : is_free net node line ≡ false). h)
        (cases_Bool (is_free net node line))

    pub lone_end : ((line a b : ℕ) → IsPassed (graph_in net) node a b → 0 ≢ node → IsFree (graph_in net) is_net.tree net.touches line node → net.touches node line ≡ true) → nodes_at net node ≡ []
    unfolding way
    lone_end passed =
        let touching : (line : ℕ) → IsFree (graph_in net) is_net.tree net.touches line node → net.touches node line ≡ true = λ line free. passed line way.a way.b way.passed not_start free in
        let none : led_to net node ≡ [] = filter_none (is_free net node) (all_lines net) (λ line m. let low = (Member-in_range 0 net.routing.lines line m).1 in none_free touching line (omega (arith, low))) in
        ap (nodes_by net node) end_kind ∙ ap (map (Merge node)) none

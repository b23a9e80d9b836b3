-- The walk along a group, for whose loads a line is opened: what is so far, and one load more.
use Rattle.std.proofs.Common.{◌≡◌, ◌<◌, ℕ, suc, true, false, List, slice_get, refl, sym, ◌∙◌, subst}
use Rattle.closed_walks.specs.Graph.{edge_count}
use Rattle.firing.specs.declared.system.NodeName.TheVariants.{Op}
use Rattle.net_board.specs.Nodes.{graph_in}
use Rattle.op_board.specs.OperationNets.{OperationNet, operation_node}
use Rattle.op_board.specs.OperationTokens.{OperationTokens}
use Rattle.op_net.specs.ApartLoads.{flags_of}
use Rattle.op_net.specs.NetView.{marking_of as operations_on, net_of as net_in}
use Rattle.op_net.specs.declared.net.OpNet.{OpNet}
use Rattle.fork_board.specs.Chains.{ComeOnce}
use Rattle.fork_board.specs.ForkTokens.{is_load_node}
use Rattle.fork_board.specs.LoadGroups.{Site, Spot, loads_within, site, spot_after}
use Rattle.read_forks.specs.KeptLoads.{AreTables, IsOpenForNone, opened_of}
use Rattle.read_forks.specs.LoadChanges.{IsPut}
use Rattle.read_forks.specs.MarkedNets.{AreLoadsApart}
use Rattle.read_forks.specs.OpenGroups.{AreClosed}
use Rattle.read_forks.specs.OpenedGroups.{IsOpenedFor, StandsAt, is_open_in, node_at}
use Rattle.read_forks.specs.RisingLinks.{line_at}
use Rattle.read_forks.specs.WaitingLoads.{IsRemarked, KeepsMarks}
use Rattle.read_forks.specs.Ways.{IsWayOf}
use Rattle.read_forks.specs.declared.steps.Link.{Link}
use Rattle.read_forks.specs.declared.waiting.Waiting.{Waiting}
use Rattle.read_forks.specs.declared.ways.Way.{Way}
use Rattle.read_forks.proofs.KeptNets.{apart_too, remarked_self, remarked_twice}
use Rattle.read_forks.proofs.OpenedWalks.{IsAlong, IsFurther, further, none_yet, not_before, one_more_opened}
use Rattle.read_forks.proofs.StoodLinks.{IsLoadOf, load_of, loads, shut}
use Rattle.read_forks.proofs.WaitTests.{kept_twice, marks_kept}

module _ {W : ℕ} (first : OpNet W) (old : Waiting) (line : ℕ) (s : Spot) where
  abbrev x : OperationNet
  x = net_in first

  -- the line was opened for so many loads from s on
  pub record HasOpened (count : ℕ) (now : Waiting) (net : OpNet W) : Type 0 where
    pub rest : IsRemarked first net
    pub tables : AreTables x now
    pub closed : AreClosed x (opened_of x now) now.closed.items
    pub marks : KeepsMarks x (operations_on first) old.closed.items now.closed.items (flags_of first) (flags_of net)
    pub steps : now.steps ≡ old.steps
    pub groups : now.groups ≡ old.groups
    pub opened : IsOpenedFor line (loads_within count x line s) (opened_of x old) (opened_of x now)

  pub nothing_opened : AreTables x old → AreClosed x (opened_of x old) old.closed.items → IsOpenForNone (opened_of x old) line → HasOpened 0 old first
  nothing_opened tables closed none = record {
    rest = remarked_self first;
    tables = tables;
    closed = closed;
    marks = marks_kept x (operations_on first) old.closed.items (flags_of first);
    steps = refl;
    groups = refl;
    opened = none_yet line (opened_of x old) none;
  }

  -- ---- the next load

  module _ (count : ℕ) (now : Waiting) (net : OpNet W) (t : Spot) (has : HasOpened count now net) (along : IsAlong x line s count t) (at : ℕ) (stands : StandsAt x now.links.items line at t) where
    abbrev y : OperationNet
    y = net_in net

    abbrev same : y ≡ x
    same = has.rest.net

    abbrev load : IsLoadOf x line t (node_at now.links.items at)
    load = load_of x line t (node_at now.links.items at) stands.load

    pub loads_there : is_load_node y (operation_node y (node_at now.links.items at)) ≡ true
    loads_there = subst (λ (z : OperationNet). is_load_node z (operation_node z (node_at now.links.items at)) ≡ true) (sym same) (loads x now.links.items line at t stands)

    pub apart_there : AreLoadsApart first → AreLoadsApart net
    apart_there apart = apart_too first net has.rest.net has.rest.apart apart

    pub tables_there : AreTables y now
    tables_there = subst (λ (z : OperationNet). AreTables z now) (sym same) has.tables

    pub closed_there : AreClosed y (opened_of y now) now.closed.items
    closed_there = subst (λ (z : OperationNet). AreClosed z (opened_of z now) now.closed.items) (sym same) has.closed

    pub shut_there : ComeOnce x → line < x.net.routing.lines → s.edge < edge_count (graph_in x.net) → is_open_in (slice_get now.links.items at) ≡ false
    shut_there once low exists =
        shut x now.links.items line at t stands now.steps has.tables.steps
        (has.opened.here load.piece load.number ∙ not_before x line once low s count (site load.piece load.number) t exists along load.here)

    module _ (new : Waiting) (after : OpNet W) (rest : IsRemarked net after) (tables : AreTables y new) (closed : AreClosed y (opened_of y new) new.closed.items)
        (opened : (piece number : ℕ) → operation_node y (node_at now.links.items at) ≡ Op piece number → IsPut (line_at now.links.items at) piece number true (opened_of y now) (opened_of y new))
        (marks : KeepsMarks y (operations_on net) now.closed.items new.closed.items (flags_of net) (flags_of after))
        (steps : new.steps ≡ now.steps) (groups : new.groups ≡ now.groups) where
      put : IsPut line load.piece load.number true (opened_of x now) (opened_of x new)
      put =
          let there = subst (λ (z : OperationNet). operation_node z (node_at now.links.items at) ≡ Op load.piece load.number → IsPut (line_at now.links.items at) load.piece load.number true (opened_of z now) (opened_of z new)) same (opened load.piece load.number) in
          subst (λ (l : ℕ). IsPut l load.piece load.number true (opened_of x now) (opened_of x new)) stands.same (there load.name)

      pub one_more_load : (u : Spot) → (spot_after x line t).edge ≡ u.edge → (spot_after x line t).passed ≡ u.passed → u.edge < edge_count (graph_in x.net) → HasOpened (suc count) new after × IsAlong x line s (suc count) u
      one_more_load u edge passed exists =
          let more : IsFurther x line s count (site load.piece load.number) u = further x line s count (site load.piece load.number) t u along load.here edge passed exists in (
            record {
              rest = remarked_twice first net after has.rest rest;
              tables = subst (λ (z : OperationNet). AreTables z new) same tables;
              closed = subst (λ (z : OperationNet). AreClosed z (opened_of z new) new.closed.items) same closed;
              marks = kept_twice x (operations_on first) old.closed.items now.closed.items new.closed.items (flags_of first) (flags_of net) (flags_of after) has.marks
                  (subst (λ (n : OperationTokens). KeepsMarks x n now.closed.items new.closed.items (flags_of net) (flags_of after)) has.rest.marking
                  (subst (λ (z : OperationNet). KeepsMarks z (operations_on net) now.closed.items new.closed.items (flags_of net) (flags_of after)) same marks));
              steps = steps ∙ has.steps;
              groups = groups ∙ has.groups;
              opened = subst (λ (sites : List Site). IsOpenedFor line sites (opened_of x old) (opened_of x new)) (sym more.list) (one_more_opened line load.piece load.number (loads_within count x line s) (opened_of x old) (opened_of x now) (opened_of x new) has.opened put);
            },
            more.along,
          )

    -- the way of its link
    pub way_there : (links : List Link) (way : Way) → ∥ IsWayOf y links (operation_node y (node_at now.links.items at)) (line_at now.links.items at) way ∥₁ → ∥ IsWayOf x links (operation_node x (node_at now.links.items at)) (line_at now.links.items at) way ∥₁
    way_there links way is = subst (λ (z : OperationNet). ∥ IsWayOf z links (operation_node z (node_at now.links.items at)) (line_at now.links.items at) way ∥₁) same is

-- A link of a load that has fired is closed, and counted for the group of its line.
use Rattle.std.proofs.Common.{◌≡◌, ◌<◌, ◌≤◌, ℕ, zero, suc, ◌+◌, ◌-◌, Bool, true, false, List, length, Option, None, Some, slice_get, slice_set, refl, sym, ap, ◌∙◌, subst, arith}
use Rattle.closed_walks.specs.Graph.{edge_count}
use Rattle.firing.specs.declared.system.NodeName.TheVariants.{Op}
use Rattle.net_board.specs.Nodes.{graph_in}
use Rattle.net_board.specs.Tokens.{edge_of}
use Rattle.net_board.proofs.ListPlaces.{get_set_other, length_slice_set}
use Rattle.op_board.specs.OperationNets.{OperationNet, operation_node}
use Rattle.op_board.specs.OperationTokens.{OperationTokens, passed_by}
use Rattle.op_board.specs.SoundOperationNets.{OperationsCanCome}
use Rattle.operation_places.specs.PlacesView.{line_put}
use Rattle.operation_tables.specs.Waits.{IsNodeBefore}
use Rattle.fork_board.specs.Chains.{ComeOnce, GroupsEnd}
use Rattle.fork_board.specs.LoadGroups.{Spot, behind_group, group_at, load_at, most_loads, spot}
use Rattle.read_forks.specs.KeptLoads.{AreLinesKept, AreTables, opened_of}
use Rattle.read_forks.specs.LoadChanges.{IsPut, Loaded}
use Rattle.read_forks.specs.LoadSteps.{line_read}
use Rattle.read_forks.specs.NodeLinks.{AreSteps, AreValueLoads, IsStep, opened_in}
use Rattle.read_forks.specs.OpenGroups.{AreGroups, AreOpenNear, IsGroupAt, marking_by}
use Rattle.read_forks.specs.Ways.{AreWays}
use Rattle.read_forks.specs.RisingLinks.{line_at, line_in}
use Rattle.read_forks.specs.declared.steps.Group.{Group}
use Rattle.read_forks.specs.declared.steps.Link.{Link}
use Rattle.read_forks.specs.declared.steps.Step.{Step}
use Rattle.read_forks.specs.declared.waiting.Waiting.{Waiting}
use Rattle.read_forks.proofs.ClosedLines.{StandsNear, differ, goes_groups, goes_near, goes_read, stands_near, stays_groups, stays_near, stays_read}
use Rattle.read_forks.proofs.LineReads.{is_inside}
use Rattle.read_forks.proofs.OnceLoads.{count_of, one_less}
use Rattle.read_forks.proofs.OpenedLinks.{set_opened, set_steps}
use Rattle.read_forks.proofs.PutLines.{put_sound}
use Rattle.read_forks.proofs.SameLinks.{AreSameLinks, get_set_here, same_ways, set_links, set_ways}

-- what is told of a link that is about to be closed
module _ (x : OperationNet) (m : OperationTokens) (w : Waiting) (k : ℕ) (step : Step) (at : ℕ) (comes : OperationsCanCome x m) (kept : AreLinesKept x m w) (own : slice_get w.steps k ≡ Some step) (name : operation_node x k ≡ Op step.piece step.number)
    (from : step.first ≤ at) (below : at < step.first + step.count) where
  is_step : IsStep x w.links.items k step
  is_step = kept.tables.steps.each k step own

  pub inside : at < length w.links.items
  inside = let all = is_step.has_links.inside in omega (arith, all, below)

  -- the link of the node k for this line, for which it is wide
  module _ (link : Link) (is : slice_get w.links.items at ≡ Some link) (told : opened_of x w (line_at w.links.items at) step.piece step.number ≡ true) where
    abbrev links : List Link
    links = w.links.items

    abbrev line : ℕ
    line = link.line

    wide : opened_of x w line step.piece step.number ≡ true
    wide = ap (λ (l : ℕ). opened_of x w l step.piece step.number) (sym (ap line_in is)) ∙ told

    name_is : operation_node x link.node ≡ Op step.piece step.number
    name_is =
        let one : step.first + (at - step.first) ≡ at = omega (arith, from) in
        let node = is_step.has_links.node (at - step.first) link (omega (arith, from, below)) (ap (slice_get links) one ∙ is) in
        ap (operation_node x) node ∙ name

    pub stands : StandsNear x m line step.piece step.number
    stands = stands_near x m line step.piece step.number (kept.near line step.piece step.number wide)

    abbrev here_spot : Spot
    here_spot = spot stands.edge (passed_by m line)

    pub exists : stands.edge < edge_count (graph_in x.net)
    exists = comes.is_marking.tokens.stand line stands.edge stands.stands

    pub in_lines : line < length m.tokens.lines
    in_lines = is_inside m.tokens.lines line stands.edge stands.stands

    pub low : line < x.net.routing.lines
    low = let all = comes.is_marking.tokens.lines in let i = in_lines in omega (arith, all, i)

    pub in_groups : line < length w.groups.items
    in_groups = let all = kept.tables.lines in let i = low in omega (arith, all, i)

    pub group_is : (g : Group) → slice_get w.groups.items line ≡ Some g → IsGroupAt x (opened_of x w) line here_spot g
    group_is g is = kept.groups line step.piece step.number stands.edge g wide stands.stands is

    pub before_is : (g : Group) → slice_get w.groups.items line ≡ Some g → IsNodeBefore x line (edge_of m.tokens line) (passed_by m line) g.from
    before_is g is = subst (λ (o : Option ℕ). IsNodeBefore x line o (passed_by m line) g.from) (sym stands.stands) (group_is g is).from

    -- ---- what the line is closed to

    module _ (changed : Link) (changed_line : changed.line ≡ link.line) (changed_node : changed.node ≡ link.node) (changed_way : changed.way ≡ link.way) (closed : changed.open ≡ false) where
      abbrev then_links : List Link
      then_links = slice_set links at changed

      abbrev after : Loaded
      after = opened_in x then_links

      pub put_is : IsPut line step.piece step.number false (opened_of x w) after
      put_is =
          subst (λ (b : Bool). IsPut line step.piece step.number b (opened_of x w) after) closed
          (set_opened x w.steps links kept.tables.steps at link changed is changed_line changed_node step.piece step.number name_is)

      less : ComeOnce x → count_of (opened_of x w line) (group_at x line here_spot) ≡ suc (count_of (after line) (group_at x line here_spot))
      less once =
          one_less x line once comes.ground comes.is_net low step.piece step.number (opened_of x w line) (after line)
          (differ x m (opened_of x w) after line step.piece step.number kept.near wide put_is stands) (most_loads x) here_spot exists stands.among

      module _ (once : ComeOnce x) (ends : GroupsEnd x) (g : Group) (was : slice_get w.groups.items line ≡ Some g) where
        pub some_left : 0 < g.left
        some_left = let had = (group_is g was).left in let more = less once in omega (arith, had, more)

        -- the tables beside it
        module _ (then_is : Waiting) (links_are : then_is.links.items ≡ then_links) (steps_are : then_is.steps ≡ w.steps) (givers_are : then_is.givers.items ≡ w.givers.items) (closed_are : then_is.closed.items ≡ w.closed.items) (h : Group) (h_is : h ≡ record g { left = g.left - 1 }) (groups_are : then_is.groups.items ≡ slice_set w.groups.items line h) where
          tables : AreTables x then_is
          tables =
              let old : AreTables x w = kept.tables in
              let same : AreSameLinks links then_links = set_links links at link changed is changed_line changed_node in
              let steps : AreSteps x w.steps then_links = set_steps x w.steps links old.steps at link changed is changed_line changed_node in
              record {
                steps = subst (λ (s : List Step). AreSteps x s then_is.links.items) (sym steps_are) (subst (λ (l : List Link). AreSteps x w.steps l) (sym links_are) steps);
                ways = subst (λ (l : List Link). ∥ AreWays x l ∥₁) (sym links_are) (same_ways links then_links same x (set_ways links at link changed is changed_way) old.ways);
                values = subst (λ (s : List Step). AreValueLoads x s then_is.givers.items) (sym steps_are) (subst (λ (l : List ℕ). AreValueLoads x w.steps l) (sym givers_are) old.values);
                lines = ap length groups_are ∙ length_slice_set w.groups.items line h ∙ old.lines;
                nodes = ap length closed_are ∙ old.nodes ∙ sym (ap length steps_are);
              }

          other_groups : (l : ℕ) → (l ≡ line → ⊥) → slice_get then_is.groups.items l ≡ slice_get w.groups.items l
          other_groups l other = ap (λ (gs : List Group). slice_get gs l) groups_are ∙ get_set_other w.groups.items line l h (λ e. other (sym e))

          own_group : slice_get then_is.groups.items line ≡ Some (record g { left = g.left - 1 })
          own_group = ap (λ (gs : List Group). slice_get gs line) groups_are ∙ get_set_here w.groups.items line g h was ∙ ap (λ (a : Group). Some a) h_is

          opened_is : opened_of x then_is ≡ after
          opened_is = ap (opened_in x) links_are

          pub put_then : IsPut line step.piece step.number false (opened_of x w) (opened_of x then_is)
          put_then = subst (λ (o : Loaded). IsPut line step.piece step.number false (opened_of x w) o) (sym opened_is) put_is

          left_then : count_of (after line) (group_at x line here_spot) ≡ g.left - 1
          left_then = let had = (group_is g was).left in let more = less once in omega (arith, had, more)

          -- some loads of the group are left
          module _ (more : g.left ≡ 1 → ⊥) where
            some_open : 0 < count_of (after line) (group_at x line here_spot)
            some_open = let l = left_then in let s = some_left in at_least g.left s more l
              where
                at_least : (n : ℕ) → 0 < n → (n ≡ 1 → ⊥) → count_of (after line) (group_at x line here_spot) ≡ n - 1 → 0 < count_of (after line) (group_at x line here_spot)
                at_least zero some not l = absurd (omega (arith, some))
                at_least (suc zero) some not l = absurd (not refl)
                at_least (suc (suc n)) some not l = omega (arith, l)

            pub stays_read_then : marking_by x m (opened_of x then_is) ≡ line_read x step.piece step.number (marking_by x m (opened_of x w)) line
            stays_read_then = ap (marking_by x m) opened_is ∙ stays_read x m (opened_of x w) after line step.piece step.number kept.near wide put_is stands some_open

            pub stays_kept : AreLinesKept x m then_is
            stays_kept = record {
              tables = tables;
              near = subst (λ (o : Loaded). AreOpenNear x m o) (sym opened_is) (stays_near x m (opened_of x w) after line step.piece step.number kept.near wide put_is stands);
              groups = subst (λ (o : Loaded). AreGroups x m o then_is.groups.items) (sym opened_is)
                  (stays_groups x m (opened_of x w) after line step.piece step.number kept.near wide put_is stands (less once) w.groups.items then_is.groups.items g was own_group other_groups kept.groups);
            }

          -- it was the last one
          module _ (one : g.left ≡ 1) (n : OperationTokens) (n_is : n ≡ line_put m line (Some g.edge) g.passed) where
            none_open : count_of (after line) (group_at x line here_spot) ≡ 0
            none_open = let l = left_then in omega (arith, l, one)

            behind_is : spot g.edge g.passed ≡ behind_group x line here_spot
            behind_is = (group_is g was).behind

            moved_is : n ≡ line_put m line (Some (behind_group x line here_spot).edge) (behind_group x line here_spot).passed
            moved_is = n_is ∙ ap (λ (s : Spot). line_put m line (Some s.edge) s.passed) behind_is

            in_passed : line < length m.passed
            in_passed = let all = comes.is_marking.passed in let l = low in omega (arith, all, l)

            no_load : load_at x line (behind_group x line here_spot) ≡ None
            no_load = ends line here_spot low exists

            pub goes_sound : OperationsCanCome x n
            goes_sound = subst (λ (t : OperationTokens). OperationsCanCome x t) (sym n_is) (put_sound x m line g.edge g.passed (group_is g was).exists in_lines comes)

            pub goes_read_then : marking_by x n (opened_of x then_is) ≡ line_read x step.piece step.number (marking_by x m (opened_of x w)) line
            goes_read_then =
                ap (marking_by x n) opened_is
                ∙ ap (λ (t : OperationTokens). marking_by x t after) moved_is
                ∙ goes_read x m (opened_of x w) after line step.piece step.number kept.near wide put_is stands no_load none_open in_passed

            pub goes_kept : AreLinesKept x n then_is
            goes_kept = record {
              tables = tables;
              near = subst (λ (o : Loaded). AreOpenNear x n o) (sym opened_is)
                  (subst (λ (t : OperationTokens). AreOpenNear x t after) (sym moved_is) (goes_near x m (opened_of x w) after line step.piece step.number kept.near wide put_is stands no_load none_open in_passed));
              groups = subst (λ (o : Loaded). AreGroups x n o then_is.groups.items) (sym opened_is)
                  (subst (λ (t : OperationTokens). AreGroups x t after then_is.groups.items) (sym moved_is)
                  (goes_groups x m (opened_of x w) after line step.piece step.number kept.near wide put_is stands no_load none_open in_passed w.groups.items then_is.groups.items other_groups kept.groups));
            }

-- The load before which a line stands, where the node before which it stands is looked up.
use Rattle.std.proofs.Common.{◌≡◌, ◌<◌, ◌≤◌, inl, inr, ℕ, suc, ◌+◌, ◌-◌, ◌==◌, ◌&&◌, Bool, true, false, not, if◌then◌else◌, List, [], ◌∷◌, Option, Some, None, slice_get, refl, sym, ap, ◌∙◌, subst, eqb-true, arith}
use Rattle.std.proofs.lemmas.Bool.{and_from, and_parts, eq-eqb}
use Rattle.closed_walks.specs.Graph.{edge_count, to}
use Rattle.firing.specs.declared.system.NodeName.{NodeName}
use Rattle.firing.specs.declared.system.NodeName.TheVariants.{Act, Merge, Op, Switch}
use Rattle.list_laws.specs.Member.{Member}
use Rattle.net_board.specs.Nodes.{graph_in}
use Rattle.net_board.specs.Tokens.{leads_to}
use Rattle.net_board.proofs.NodeLaws.{get_some}
use Rattle.op_board.specs.OperationNets.{OperationNet, first_operation, needed, needing_before, operation_count, operation_node}
use Rattle.op_board.proofs.NeededLines.{needed_in}
use Rattle.op_board.proofs.OperationNumbers.{IsOperationNamed, operation_named}
use Rattle.operation_tables.specs.Waits.{IsNodeBefore, goes_through, node_total, stands_at}
use Rattle.fork_board.specs.ForkTokens.{is_load_node}
use Rattle.fork_board.specs.LoadGroups.{Site, load_at, load_in, number_at, piece_at, site, spot}
use Rattle.fork_board.proofs.ForkFirings.{both_ways}
use Rattle.fork_board.proofs.LoadSpots.{IsLoadIn, IsNumberAt, load_is, number_is, number_there}
use Rattle.read_forks.specs.NodeLinks.{HasLinks, IsStep, linked_lines}
use Rattle.read_forks.specs.RisingLinks.{HasLine, line_at, line_in}
use Rattle.read_forks.specs.Ways.{IsLinkAt, IsLinkOf}
use Rattle.read_forks.specs.declared.steps.Link.{Link}
use Rattle.read_forks.specs.declared.steps.Step.{Step}
use Rattle.read_forks.proofs.LoadWalks.{IsNeeding, needing_at, within}
use Rattle.read_forks.proofs.StoodLinks.{HasHeads, name_there, node_within}

pub not_false : (b : Bool) → not b ≡ false → b ≡ true
not_false true is = refl
not_false false is = absurd cc

pub not_true : (b : Bool) → not b ≡ true → b ≡ false
not_true true is = absurd cc
not_true false is = refl

-- where a member of a list stands
record IsPlaced (xs : List ℕ) (a : ℕ) : Type 0 where
  place : ℕ
  is : slice_get xs place ≡ Some a

placed : (xs : List ℕ) (a : ℕ) → Member xs a → IsPlaced xs a
placed [] a m = absurd m
placed (y ∷ xs) a (inl same) = record { place = 0; is = ap (λ (n : ℕ). Some n) same }
placed (y ∷ xs) a (inr m) = let r : IsPlaced xs a = placed xs a m in record { place = suc r.place; is = r.is }

module _ (x : OperationNet) (line edge passed k : ℕ) (before : IsNodeBefore x line (Some edge) passed k) where
  -- ---- the node is a load

  pub record IsLoadBefore : Type 0 where
    pub piece : ℕ
    pub number : ℕ
    pub name : operation_node x k ≡ Op piece number
    pub needs : x.needs piece number line ≡ true
    pub here : load_at x line (spot edge passed) ≡ Some (site piece number)

  pub load_before : k < node_total x → is_load_node x (operation_node x k) ≡ true → IsLoadBefore
  load_before low loads = by (operation_node x k) refl loads (before k low ∙ eq-eqb k k refl)
    where
      by : (name : NodeName) → operation_node x k ≡ name → is_load_node x name ≡ true → (goes_through x name line && stands_at x (Some edge) passed name line) ≡ true → IsLoadBefore
      by (Op piece i) name is both =
          let two = and_parts (x.needs piece i line) (leads_to (graph_in x.net) piece (Some edge) && passed == needing_before x piece i line) both in
          let three = and_parts (to (graph_in x.net) edge == piece) (passed == needing_before x piece i line) two.1 in
          let leads : to (graph_in x.net) edge ≡ piece = eqb-true (to (graph_in x.net) edge) piece three.0 in
          let count : passed ≡ needing_before x piece i line = eqb-true passed (needing_before x piece i line) three.1 in
          let named : IsOperationNamed x (Op piece i) = subst (λ (a : NodeName). IsOperationNamed x a) name (operation_named x k low) in
          let number : number_at x line (spot edge passed) ≡ Some i =
          ap (λ n. number_at x line (spot edge n)) (count ∙ ap (λ (p : ℕ). needing_before x p i line) (sym leads))
          ∙ number_there x line edge i (subst (λ (p : ℕ). i < operation_count x p) (sym leads) named.fits.2) (subst (λ (p : ℕ). x.needs p i line ≡ true) (sym leads) two.0) in
          record {
            piece = piece;
            number = i;
            name = name;
            needs = two.0;
            here = ap (load_in x (piece_at x (spot edge passed))) number ∙ ap (λ (p : ℕ). load_in x p (Some i)) leads ∙ ap (λ b. if b then Some (site piece i) else None) is;
          }
      by (Switch piece own) name is both = let e : false ≡ true = is in absurd cc
      by (Merge piece own) name is both = let e : false ≡ true = is in absurd cc
      by (Act piece) name is both = let e : false ≡ true = is in absurd cc

  -- ---- it isn't

  -- the node of a load that stands there
  pub node_is : HasHeads x → edge < edge_count (graph_in x.net) → (load : Site) → load_at x line (spot edge passed) ≡ Some load → first_operation x load.piece + load.number ≡ k
  node_is heads exists load here =
      let n : IsNeeding x line (spot edge passed) load = needing_at x line (spot edge passed) load here in
      let r : IsLoadIn x (piece_at x (spot edge passed)) (number_at x line (spot edge passed)) load = load_is x (piece_at x (spot edge passed)) (number_at x line (spot edge passed)) load here in
      let at : IsNumberAt x line (spot edge passed) r.number = number_is x line (spot edge passed) r.number r.at in
      let count : passed ≡ needing_before x load.piece load.number line =
      sym at.before ∙ ap (λ (z : Site). needing_before x z.piece z.number line) (sym r.is) in
      let there : load.piece < (graph_in x.net).nodes = subst (λ (p : ℕ). p < (graph_in x.net).nodes) (sym n.here) (heads edge exists) in
      let name : operation_node x (first_operation x load.piece + load.number) ≡ Op load.piece load.number = name_there x heads line (spot edge passed) exists load here in
      let stands : (goes_through x (Op load.piece load.number) line && stands_at x (Some edge) passed (Op load.piece load.number) line) ≡ true =
      and_from (x.needs load.piece load.number line) (leads_to (graph_in x.net) load.piece (Some edge) && passed == needing_before x load.piece load.number line) n.needs
      (and_from (to (graph_in x.net) edge == load.piece) (passed == needing_before x load.piece load.number line) (eq-eqb (to (graph_in x.net) edge) load.piece (sym n.here)) (eq-eqb passed (needing_before x load.piece load.number line) count)) in
      eqb-true (first_operation x load.piece + load.number) k
      (sym (before (first_operation x load.piece + load.number) (node_within x load.piece load.number there n.below))
      ∙ ap (λ (a : NodeName). goes_through x a line && stands_at x (Some edge) passed a line) name
      ∙ stands)

  pub none_where_no_node : HasHeads x → edge < edge_count (graph_in x.net) → node_total x ≤ k → load_at x line (spot edge passed) ≡ None
  none_where_no_node heads exists over = by (load_at x line (spot edge passed)) refl
    where
      by : (o : Option Site) → load_at x line (spot edge passed) ≡ o → o ≡ None
      by None at = refl
      by (Some load) at =
          let n : IsNeeding x line (spot edge passed) load = needing_at x line (spot edge passed) load at in
          let is = node_is heads exists load at in
          let low = node_within x load.piece load.number (subst (λ (p : ℕ). p < (graph_in x.net).nodes) (sym n.here) (heads edge exists)) n.below in
          absurd (omega (arith, over, is, low))

  pub none_where_no_load : HasHeads x → edge < edge_count (graph_in x.net) → is_load_node x (operation_node x k) ≡ false → load_at x line (spot edge passed) ≡ None
  none_where_no_load heads exists not = by (load_at x line (spot edge passed)) refl
    where
      by : (o : Option Site) → load_at x line (spot edge passed) ≡ o → o ≡ None
      by None at = refl
      by (Some load) at =
          let n : IsNeeding x line (spot edge passed) load = needing_at x line (spot edge passed) load at in
          let name : operation_node x k ≡ Op load.piece load.number = sym (ap (operation_node x) (node_is heads exists load at)) ∙ name_there x heads line (spot edge passed) exists load at in
          absurd (both_ways (is_load_node x (operation_node x k)) (ap (is_load_node x) name ∙ n.loads) not)

-- ---- the link of a node for a line

module _ (x : OperationNet) (links : List Link) (k : ℕ) (step : Step) (is : IsStep x links k step) (line piece number : ℕ) where
  pub has_line : operation_node x k ≡ Op piece number → line < x.net.routing.lines → x.needs piece number line ≡ true → HasLine links line step.first (step.first + step.count)
  has_line name low needs =
      let has : HasLinks x links k step = is.has_links in
      let lines : linked_lines x (operation_node x k) ≡ needed x piece number = ap (linked_lines x) name in
      let at : IsPlaced (needed x piece number) line = placed (needed x piece number) line (needed_in x piece number line low needs) in
      let j = at.place in
      let there : slice_get (linked_lines x (operation_node x k)) j ≡ Some line = ap (λ ls. slice_get ls j) lines ∙ at.is in
      let inside = within (linked_lines x (operation_node x k)) j line there in
      let count = has.count in
      let room = has.inside in
      let found = get_some x.net links (step.first + j) (omega (arith, inside, count, room)) in
      let own = has.line j found.0 (omega (arith, inside, count)) found.1 in
      record {
        place = step.first + j;
        from = omega arith;
        below = omega (arith, inside, count);
        is = ap line_in found.1 ∙ (let both : Some found.0.line ≡ Some line = sym own ∙ there in cc);
      }

  -- and it is one of the node
  pub link_is : (n : ℕ) → line_at links n ≡ line → step.first ≤ n → n < step.first + step.count → IsLinkAt links n line k
  link_is n own from below =
      let has : HasLinks x links k step = is.has_links in
      let room = has.inside in
      let found = get_some x.net links n (omega (arith, below, room)) in
      let place : step.first + (n - step.first) ≡ n = omega (arith, from) in
      let node = has.node (n - step.first) found.0 (omega (arith, from, below)) (ap (slice_get links) place ∙ found.1) in
      subst (λ (o : Option Link). IsLinkOf o line k) (sym found.1) (sym (ap line_in found.1) ∙ own, node)

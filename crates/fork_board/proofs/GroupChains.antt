-- Groups of loads are chains: along a line no load comes twice.
use Rattle.std.proofs.Common.{◌≡◌, ◌<◌, ◌≤◌, ◌⊎◌, inl, inr, ⊎_elim, ℕ, zero, suc, ◌+◌, ◌-◌, ◌==◌, ◌||◌, Bool, true, false, if◌then◌else◌, List, [], ◌∷◌, length, Some, refl, sym, ap, ◌∙◌, subst, eqb-true, eq-eqb, arith}
use Rattle.std.proofs.lemmas.Bool.{cases_Bool, and_from}
use Rattle.alias_classes.specs.Classes.{ClassTable}
use Rattle.closed_walks.specs.Graph.{edge_count, from, to}
use Rattle.closed_walks.specs.Region.{IsFlowGraph}
use Rattle.closed_walks.specs.Walk.{Walk, Reach, no_edge}
use Rattle.region_tree.specs.Laws.{HasBorders}
use Rattle.region_tree.specs.Tree.{IsIn, IsNumber}
use Rattle.cfg_build.specs.declared.pieces.PieceKind.{PieceKind}
use Rattle.cfg_build.specs.declared.pieces.PieceKind.TheVariants as kind
use Rattle.cfg_build.specs.Passes.{out}
use Rattle.cfg_build.specs.Shape.{leaves_one}
use Rattle.dep_routing.specs.Next.{Next}
use Rattle.dep_routing.specs.Routing.{next_at}
use Rattle.dep_routing.specs.Touches.{exec_kind}
use Rattle.net_board.specs.FlowFacts.{GraphFacts}
use Rattle.net_board.specs.Nodes.{graph_in, is_acting, kind_in}
use Rattle.op_board.specs.Needs.{WorkNeeds}
use Rattle.op_board.specs.Operations.{Operand, Work, Load, Operate, Store, Take, Write, Begin, Advance, DecideTruth, DecideSign, DecideNumber, DecideTrips, DecideFirst, is_decision}
use Rattle.op_board.specs.OperationFacts.{OperationFacts, is_parting}
use Rattle.op_board.specs.OperationNets.{OperationNet, needing_before, operation_at, operation_count}
use Rattle.op_board.specs.SoundOperationNets.{IsOperationNet}
use Rattle.op_board.proofs.NeededLines.{passing_some}
use Rattle.op_board.proofs.OperationsApart.{operation_get}
use Rattle.fork_board.specs.LoadGroups.{Site, Spot, is_among, is_last_there, is_load, is_site, load_at, loads_within, number_at, piece_at, site, spot, spot_after, spot_behind}
use Rattle.fork_board.proofs.ForkLines.{same_site}
use Rattle.fork_board.proofs.ForksApart.{acting_with}
use Rattle.fork_board.proofs.LoadLists.{AreLoads, IsFirstLoad, first_of}
use Rattle.fork_board.proofs.LoadSpots.{IsLoadIn, IsNumberAt, load_is, number_is}
use Rattle.fork_board.proofs.ShorterWalks.{IsNearer, led_back, nearer_still, never_nearer}

both_ways : {P : Type 0} (b : Bool) → b ≡ true → b ≡ false → P
both_ways b yes' no' = let e : true ≡ false = sym yes' ∙ no' in absurd cc

-- a decision needs all that its piece touches
decision_needs : (c : ClassTable) (touches : ℕ → Bool) (work : Work) (operands : List Operand) (line : ℕ) → is_decision work ≡ true → touches line ≡ true → WorkNeeds c touches work operands line
decision_needs c touches (Load name subs) operands line decides touched = absurd cc
decision_needs c touches (Operate op) operands line decides touched = absurd cc
decision_needs c touches (Store name subs) operands line decides touched = absurd cc
decision_needs c touches Take operands line decides touched = absurd cc
decision_needs c touches (Write items) operands line decides touched = absurd cc
decision_needs c touches (Begin loop_no var) operands line decides touched = absurd cc
decision_needs c touches (Advance loop_no var) operands line decides touched = absurd cc
decision_needs c touches DecideTruth operands line decides touched = touched
decision_needs c touches DecideSign operands line decides touched = touched
decision_needs c touches (DecideNumber count) operands line decides touched = touched
decision_needs c touches (DecideTrips loop_no) operands line decides touched = touched
decision_needs c touches DecideFirst operands line decides touched = touched

load_decides : {P : Type 0} (work : Work) → is_load work ≡ true → is_decision work ≡ true → P
load_decides (Load name subs) loads decides = absurd cc
load_decides (Operate op) loads decides = absurd cc
load_decides (Store name subs) loads decides = absurd cc
load_decides Take loads decides = absurd cc
load_decides (Write items) loads decides = absurd cc
load_decides (Begin loop_no var) loads decides = absurd cc
load_decides (Advance loop_no var) loads decides = absurd cc
load_decides DecideTruth loads decides = absurd cc
load_decides DecideSign loads decides = absurd cc
load_decides (DecideNumber count) loads decides = absurd cc
load_decides (DecideTrips loop_no) loads decides = absurd cc
load_decides DecideFirst loads decides = absurd cc

pub act_leaves_one : (k : PieceKind) → is_acting k ≡ true → is_parting k ≡ false → leaves_one k ≡ true
act_leaves_one kind.Act acts not = refl
act_leaves_one kind.Branch acts not = absurd cc
act_leaves_one kind.Hold acts not = absurd cc
act_leaves_one kind.Join acts not = refl
act_leaves_one kind.End acts not = refl
act_leaves_one kind.Start acts not = refl
act_leaves_one kind.Pass acts not = refl

same_or_less : (a b : ℕ) → a ≤ b → (a ≡ b) ⊎ (a < b)
same_or_less zero zero le = inl refl
same_or_less zero (suc b) le = inr (omega arith)
same_or_less (suc a) zero le = absurd (omega (arith, le))
same_or_less (suc a) (suc b) le = ⊎_elim (λ e. inl (ap suc e)) (λ (l : a < b). inr (omega (arith, l))) (same_or_less a b (omega (arith, le)))

-- what the chains of a line rest on
pub record LineFacts (x : OperationNet) (n : IsOperationNet x) (line : ℕ) : Type 0 where
  pub operations : OperationFacts x
  pub graph : GraphFacts x.net
  pub flow : IsFlowGraph (graph_in x.net)
  pub borders : (r : ℕ) → IsNumber n.is_net.tree r → HasBorders (graph_in x.net) n.is_net.tree r
  pub start : (r : ℕ) → IsNumber n.is_net.tree r → IsIn (graph_in x.net) n.is_net.tree r 0 → ⊥
  pub next : (e : ℕ) → e < edge_count (graph_in x.net) → Next (graph_in x.net) n.is_net.tree x.net.touches line e (next_at x.net.routing line e)
  pub led : (e : ℕ) → e < edge_count (graph_in x.net) → next_at x.net.routing line e < edge_count (graph_in x.net)
  pub out_exists : (piece : ℕ) → out (graph_in x.net) piece 0 < edge_count (graph_in x.net)

module _ (x : OperationNet) (n : IsOperationNet x) (line : ℕ) (facts : LineFacts x n line) where
  abbrev pub Exists : Spot → Type 0
  Exists s = s.edge < edge_count (graph_in x.net)

  -- ---- a load that is the last one in its piece

  pub record IsLoadThere (s : Spot) (load : Site) : Type 0 where
    pub number : ℕ
    pub at : IsNumberAt x line s number
    pub loads : is_load (operation_at x (piece_at x s) number).work ≡ true
    pub is : load ≡ site (piece_at x s) number

  pub load_there : (s : Spot) (load : Site) → load_at x line s ≡ Some load → IsLoadThere s load
  load_there s load at =
      let r : IsLoadIn x (piece_at x s) (number_at x line s) load = load_is x (piece_at x s) (number_at x line s) load at in
      record { number = r.number; at = number_is x line s r.number r.at; loads = r.loads; is = r.is }

  pub acting : (s : Spot) (load : Site) → IsLoadThere s load → is_acting (kind_in x.net (piece_at x s)) ≡ true
  acting s load r = acting_with x.net.program.names (kind_in x.net (piece_at x s)) (exec_kind x.net.program (piece_at x s)) r.number r.at.below

  -- after a load where edges part, a decision needs the line
  parted : (s : Spot) (load : Site) → Exists s → IsLoadThere s load → is_last_there x line s ≡ true → is_parting (kind_in x.net (piece_at x s)) ≡ true → ⊥
  parted s load exists r last parts =
      let p : ℕ = piece_at x s in
      let z : ℕ = operation_count x p - 1 in
      let below : p < (graph_in x.net).nodes = facts.graph.heads s.edge exists in
      let inside = r.at.below in
      let count : suc z ≡ operation_count x p = omega (arith, inside) in
      let z_below : z < operation_count x p = omega (arith, count) in
      let decides : is_decision (operation_at x p z).work ≡ true =
      facts.operations.decisions p z (operation_at x p z) below (operation_get x p z z_below) ∙ and_from (is_parting (kind_in x.net p)) (suc z == operation_count x p) parts (eq-eqb (suc z) (operation_count x p) count) in
      let touched : x.net.touches p line ≡ true = facts.operations.touched p r.number line below inside r.at.needs in
      let needs : x.needs p z line ≡ true = (n.own_needs p z line below z_below).1 (decision_needs n.is_net.classes (x.net.touches p) (operation_at x p z).work (operation_at x p z).operands line decides touched) in
      ⊎_elim
      (λ (same : r.number ≡ z). load_decides (operation_at x p z).work (subst (λ i. is_load (operation_at x p i).work ≡ true) same r.loads) decides)
      (λ (low : r.number < z).
      let before = r.at.before in
      let up = passing_some (λ j. x.needs p j line) r.number z low r.at.needs in
      let more = passing_some (λ j. x.needs p j line) z (operation_count x p) z_below needs in
      let same : needing_before x p (operation_count x p) line ≡ suc s.passed = eqb-true (needing_before x p (operation_count x p) line) (suc s.passed) last in
      absurd (omega (arith, before, up, more, same)))
      (same_or_less r.number z (omega (arith, inside, count)))

  pub not_parting : (s : Spot) (load : Site) → Exists s → IsLoadThere s load → is_last_there x line s ≡ true → is_parting (kind_in x.net (piece_at x s)) ≡ false
  not_parting s load exists r last = ⊎_elim (λ (parts : is_parting (kind_in x.net (piece_at x s)) ≡ true). absurd (parted s load exists r last parts)) (λ not. not) (cases_Bool (is_parting (kind_in x.net (piece_at x s))))

  -- after it the start is nearer
  last_is_nearer : (s : Spot) (load : Site) → Exists s → IsLoadThere s load → is_last_there x line s ≡ true → IsNearer (graph_in x.net) (piece_at x s) (to (graph_in x.net) (next_at x.net.routing line (out (graph_in x.net) (piece_at x s) 0)))
  last_is_nearer s load exists r last [] leads =
      both_ways (is_acting (kind_in x.net (piece_at x s))) (acting s load r)
      (ap (λ k. is_acting k) ((facts.graph.shape.start (piece_at x s) (facts.graph.heads s.edge exists)).1 leads))
  last_is_nearer s load exists r last (e ∷ walk) leads =
      let one : leaves_one (kind_in x.net (from (graph_in x.net) e)) ≡ true = subst (λ p. leaves_one (kind_in x.net p) ≡ true) (sym leads.1) (act_leaves_one (kind_in x.net (piece_at x s)) (acting s load r) (not_parting s load exists r last)) in
      let is : e ≡ out (graph_in x.net) (piece_at x s) 0 = facts.graph.one_out e leads.0 one ∙ ap (λ p. out (graph_in x.net) p 0) leads.1 in
      let o : ℕ = out (graph_in x.net) (piece_at x s) 0 in
      (length walk, omega arith, led_back (graph_in x.net) n.is_net.tree x.net.touches line facts.borders facts.start o (next_at x.net.routing line o) (facts.next o (facts.out_exists (piece_at x s))) walk (subst (λ k. Walk (graph_in x.net) (to (graph_in x.net) k) walk 0) is leads.2))

  -- ---- one load after another

  -- so many operations further in the same piece, or nearer to the start
  abbrev pub IsFurther : (s t : Spot) (count : ℕ) → Type 0
  IsFurther s t count = ((t.edge ≡ s.edge) × (t.passed ≡ s.passed + count)) ⊎ IsNearer (graph_in x.net) (piece_at x s) (piece_at x t)

  pub one_further : (s : Spot) (load : Site) → Exists s → load_at x line s ≡ Some load → Exists (spot_after x line s) × IsFurther s (spot_after x line s) 1
  one_further s load exists at = by (is_last_there x line s) refl
    where
      by : (b : Bool) → is_last_there x line s ≡ b
          → Exists (if b then spot (next_at x.net.routing line (out (graph_in x.net) (piece_at x s) 0)) 0 else spot s.edge (suc s.passed)) × IsFurther s (if b then spot (next_at x.net.routing line (out (graph_in x.net) (piece_at x s) 0)) 0 else spot s.edge (suc s.passed)) 1
      by true last = (facts.led (out (graph_in x.net) (piece_at x s) 0) (facts.out_exists (piece_at x s)), inr (last_is_nearer s load exists (load_there s load at) last))
      by false last = (exists, inl (refl, omega arith))

  joined : (s t u : Spot) (count : ℕ) → IsFurther s t 1 → IsFurther t u count → IsFurther s u (suc count)
  joined s t u count (inl same) (inl more) = let a = same.1 in let b = more.1 in inl (more.0 ∙ same.0, omega (arith, a, b))
  joined s t u count (inl same) (inr nearer) = inr (subst (λ e. IsNearer (graph_in x.net) (to (graph_in x.net) e) (piece_at x u)) same.0 nearer)
  joined s t u count (inr nearer) (inl same) = inr (subst (λ e. IsNearer (graph_in x.net) (piece_at x s) (to (graph_in x.net) e)) (sym same.0) nearer)
  joined s t u count (inr nearer) (inr more) = inr (nearer_still (graph_in x.net) (piece_at x s) (piece_at x t) (piece_at x u) nearer more)

  further : (count : ℕ) (s : Spot) → Exists s → AreLoads x line count s → IsFurther s (spot_behind count x line s) count
  further zero s exists are = inl (refl, omega arith)
  further (suc count) s exists are =
      let f : IsFirstLoad x line count s = first_of x line count s are in
      let one = one_further s f.load exists f.at in
      subst (λ t. IsFurther s t (suc count)) (sym f.behind) (joined s (spot_after x line s) (spot_behind count x line (spot_after x line s)) count one.1 (further count (spot_after x line s) one.0 f.others))

  -- a load doesn't come again after so many
  not_again : (count : ℕ) (s t : Spot) (load other : Site) → Exists s → load_at x line s ≡ Some load → load_at x line t ≡ Some other → IsFurther s t (suc count) → is_site other.piece other.number load ≡ true → ⊥
  not_again count s t load other exists at there apart same =
      let a : IsLoadThere s load = load_there s load at in
      let b : IsLoadThere t other = load_there t other there in
      let sites = same_site other.piece other.number load same in
      let piece : piece_at x s ≡ piece_at x t = sym (ap (λ (l : Site). l.piece) a.is) ∙ sites.0 ∙ ap (λ (l : Site). l.piece) b.is in
      let number : a.number ≡ b.number = sym (ap (λ (l : Site). l.number) a.is) ∙ sites.1 ∙ ap (λ (l : Site). l.number) b.is in
      ⊎_elim
      (λ (more : (t.edge ≡ s.edge) × (t.passed ≡ s.passed + suc count)).
      let passed : s.passed ≡ t.passed = sym a.at.before ∙ ap (λ p. needing_before x p a.number line) piece ∙ ap (λ i. needing_before x (piece_at x t) i line) number ∙ b.at.before in
      let further = more.1 in
      absurd (omega (arith, passed, further)))
      (λ nearer.
      let there = facts.graph.heads s.edge exists in
      let way : Reach (graph_in x.net) no_edge (piece_at x s) 0 = facts.flow.strong (piece_at x s) 0 there (omega (arith, there)) in
      never_nearer (graph_in x.net) (piece_at x s) way.walk way.leads (subst (λ p. IsNearer (graph_in x.net) (piece_at x s) p) (sym piece) nearer))
      apart

  -- So the load after so many loads isn't one of them.
  pub not_among : (count : ℕ) (s : Spot) (load : Site) → Exists s → AreLoads x line count s → load_at x line (spot_behind count x line s) ≡ Some load → is_among (loads_within count x line s) load.piece load.number ≡ false
  not_among zero s load exists are at = refl
  not_among (suc count) s load exists are at =
      ap (λ sites. is_among sites load.piece load.number) f.list
      ∙ neither (is_site load.piece load.number f.load) (is_among (loads_within count x line (spot_after x line s)) load.piece load.number)
      (⊎_elim (λ (same : is_site load.piece load.number f.load ≡ true). absurd (not_again count s (spot_behind (suc count) x line s) f.load load exists f.at at (further (suc count) s exists are) same)) (λ not. not) (cases_Bool (is_site load.piece load.number f.load)))
      (not_among count (spot_after x line s) load ((one_further s f.load exists f.at).0) f.others (ap (load_at x line) (sym f.behind) ∙ at))
    where
      f : IsFirstLoad x line count s
      f = first_of x line count s are

      neither : (a b : Bool) → a ≡ false → b ≡ false → (a || b) ≡ false
      neither true b first second = absurd cc
      neither false b first second = second

-- The firing of a node that is no load: which lines it leads on, and what is kept for the loads of the others.
use Rattle.std.proofs.Common.{◌≡◌, ◌<◌, ℕ, ◌==◌, ◌&&◌, ◌||◌, Bool, true, false, not, List, length, Option, Some, None, refl, sym, ap, ◌∙◌, subst, eqb-true}
use Rattle.std.specs.List.{list_any}
use mathlib.Core.Path.{fun_ext}
use Rattle.firing.specs.declared.system.NodeName.{NodeName}
use Rattle.firing.specs.declared.system.NodeName.TheVariants.{Act, Merge, Switch, Op}
use Rattle.net_board.specs.Nodes.{kind_in}
use Rattle.net_board.specs.Tokens.{edge_of}
use Rattle.op_board.specs.OperationNets.{OperationNet, all_operation_nodes, operation_at, operation_node}
use Rattle.op_board.specs.OperationTokens.{OperationTokens, fired_as, operation_moves, passed_by, performed_at, ready_as}
use Rattle.op_board.specs.SoundOperationNets.{OperationsCanCome}
use Rattle.op_board.proofs.NeededLines.{needed_has}
use Rattle.op_board.proofs.OperationFirings.{FiringFacts}
use Rattle.op_board.proofs.OperationLaws.{firing_facts}
use Rattle.op_board.proofs.OperationNumbers.{IsOperationNamed, operation_named, switch_line}
use Rattle.operation_tables.specs.Waits.{goes_through}
use Rattle.fork_board.specs.ForkTokens.{ForkTokens, Standing, is_load_node, standing, unforked}
use Rattle.fork_board.specs.LoadGroups.{group_at, is_among, most_loads, spot}
use Rattle.fork_board.specs.SoundForks.{ForksCanCome}
use Rattle.fork_board.proofs.ForkFirings.{both_ways}
use Rattle.fork_board.proofs.LoadSpots.{has_load}
use Rattle.read_forks.specs.KeptLoads.{AreKept, AreOpened, IsOpenForNone, opened_of}
use Rattle.read_forks.specs.LedLines.{HasGoneOn, IsLedOn}
use Rattle.read_forks.specs.LoadChanges.{Loaded}
use Rattle.read_forks.specs.LoadedGroups.{is_near, is_near_on}
use Rattle.read_forks.specs.NodeLinks.{moved_lines}
use Rattle.read_forks.specs.OpenGroups.{AreOpenNear, IsGroupAt, is_near_in, marking_by}
use Rattle.read_forks.specs.declared.waiting.Waiting.{Waiting}
use Rattle.read_forks.proofs.FarValues.{foot_through}
use Rattle.read_forks.proofs.GoneLines.{passed_none, passed_on}
use Rattle.read_forks.proofs.LoadFirings.{needed_is}
use Rattle.read_forks.proofs.NearLoads.{no_load, stands_still}
use Rattle.read_forks.proofs.StepLaws.{needs_exist}

never : (b : Bool) → (b ≡ true → ⊥) → b ≡ false
never true not = absurd (not refl)
never false not = refl

or_none : (b : Bool) → (b || false) ≡ b
or_none true = refl
or_none false = refl

module _ (x : OperationNet) (t : ForkTokens) (comes : ForksCanCome x t) (k : ℕ) (below : k < length (all_operation_nodes x)) (ready : (operation_moves x).ready t.operations k ≡ true) (other : is_load_node x (operation_node x k) ≡ false) where
  abbrev m : OperationTokens
  m = t.operations

  abbrev name : NodeName
  name = operation_node x k

  abbrev facts : FiringFacts x comes.is_net.is_net.classes
  facts = firing_facts comes.ground x comes.is_net

  abbrev before : OperationsCanCome x m
  before = record { ground = comes.ground; is_net = comes.is_net; is_marking = comes.is_marking }

  abbrev then_is : OperationTokens
  then_is = (operation_moves x).fired m k

  named : IsOperationNamed x name
  named = operation_named x k below

  -- ---- where lines stand

  -- a line that the node doesn't move stands where it stood
  still : (line : ℕ) → goes_through x name line ≡ false → standing (unforked t then_is) line ≡ standing t line
  still line not = stands_still comes.ground x comes.is_net facts t k before below ready line (foot_through x comes.is_net.is_net.classes k line name ∙ not)

  pub near_still : (line p i : ℕ) → goes_through x name line ≡ false → is_near_in x then_is line p i ≡ is_near_in x m line p i
  near_still line p i not = ap (λ (u : Standing). is_near x line p i u) (still line not)

  -- before it no load stood on a line that it moves
  pub none_near : (line p i : ℕ) → goes_through x name line ≡ true → is_near_in x m line p i ≡ false
  none_near line p i own = by (edge_of m.tokens line) refl
    where
      by : (o : Option ℕ) → edge_of m.tokens line ≡ o → is_near_in x m line p i ≡ false
      by None is = ap (is_near_on x line p i (passed_by m line)) is
      by (Some e) is =
          ap (is_near_on x line p i (passed_by m line)) is
          ∙ never (is_among (group_at x line (spot e (passed_by m line))) p i)
          (λ among. no_load comes.ground x comes.is_net facts t k before below ready name named other ready line e (foot_through x comes.is_net.is_net.classes k line name ∙ own) is
          (has_load x line (most_loads x) (spot e (passed_by m line)) p i among))

  -- ---- the lines that the node moves

  pub moved_is : (line : ℕ) → list_any (λ l. l == line) (moved_lines x name) ≡ goes_through x name line
  moved_is line = by name refl
    where
      by : (n : NodeName) → name ≡ n → list_any (λ l. l == line) (moved_lines x n) ≡ goes_through x n line
      by (Op piece i) is = needed_is x piece i (needs_exist x t piece i comes (subst (λ a. IsOperationNamed x a) is named)) line
      by (Switch piece own) is = or_none (own == line)
      by (Merge piece own) is = or_none (own == line)
      by (Act piece) is = let a : IsOperationNamed x (Act piece) = subst (λ a. IsOperationNamed x a) is named in absurd a.fits

  exists : (line : ℕ) → goes_through x name line ≡ true → line < x.net.routing.lines
  exists line own = by name refl own
    where
      by : (n : NodeName) → name ≡ n → goes_through x n line ≡ true → line < x.net.routing.lines
      by (Op piece i) is own = (needed_has x piece i line (needs_exist x t piece i comes (subst (λ a. IsOperationNamed x a) is named) line own)).0
      by (Switch piece line_own) is own =
          let a : IsOperationNamed x (Switch piece line_own) = subst (λ a. IsOperationNamed x a) is named in
          subst (λ l. l < x.net.routing.lines) (eqb-true line_own line own) (switch_line x.net piece line_own (kind_in x.net piece) a.fits.2).exists
      by (Merge piece line_own) is own =
          let a : IsOperationNamed x (Merge piece line_own) = subst (λ a. IsOperationNamed x a) is named in
          subst (λ l. l < x.net.routing.lines) (eqb-true line_own line own) a.fits.2
      by (Act piece) is own = absurd cc

  gone : (line : ℕ) → goes_through x name line ≡ true → HasGoneOn x then_is name line
  gone line own = by name refl own
    where
      low : line < length m.passed
      low = let e = exists line own in subst (λ n. line < n) (sym comes.is_marking.passed) e

      turned : (l : ℕ) → l ≡ line → (now : OperationTokens) → now.passed ≡ Rattle.std.specs.Prelude.slice_set m.passed l 0 → passed_by now line ≡ 0
      turned l same now is =
          ap (λ (ns : List ℕ). Rattle.std.specs.Prelude.slice_index ns line) (is ∙ ap (λ n. Rattle.std.specs.Prelude.slice_set m.passed n 0) same) ∙ passed_none m.passed line low

      by : (n : NodeName) → name ≡ n → goes_through x n line ≡ true → HasGoneOn x (fired_as x m k n) n line
      by (Op piece i) is own =
          passed_on x m comes.is_marking k piece i line (sym (ap (ready_as x m k) is) ∙ ready) (needs_exist x t piece i comes (subst (λ a. IsOperationNamed x a) is named) line own) (performed_at x m piece (operation_at x piece i))
      by (Switch piece line_own) is own = turned line_own (eqb-true line_own line own) (fired_as x m k (Switch piece line_own)) refl
      by (Merge piece line_own) is own = turned line_own (eqb-true line_own line own) (fired_as x m k (Merge piece line_own)) refl
      by (Act piece) is own = absurd cc

  -- ---- what is kept for loads

  module _ (opened : Loaded) (near : AreOpenNear x m opened) where
    -- a line that is open for a load isn't moved
    not_moved : (line p i : ℕ) → opened line p i ≡ true → goes_through x name line ≡ false
    not_moved line p i is = never (goes_through x name line) (λ own. both_ways (is_near_in x m line p i) (near line p i is) (none_near line p i own))

    open_for_none : (line : ℕ) → goes_through x name line ≡ true → IsOpenForNone opened line
    open_for_none line own p i = never (opened line p i) (λ is. both_ways (is_near_in x m line p i) (near line p i is) (none_near line p i own))

    pub led_on : (line : ℕ) → list_any (λ l. l == line) (moved_lines x name) ≡ true → IsLedOn x then_is opened name line
    led_on line among =
        let own : goes_through x name line ≡ true = sym (moved_is line) ∙ among in
        record { exists = exists line own; gone = gone line own; none = open_for_none line own }

    -- once its lines are open for the loads before which they stand, the marking is that after its firing
    pub marking_then : (new : Loaded) → AreOpened x then_is (moved_lines x name) opened new → marking_by x then_is new ≡ unforked (marking_by x m opened) then_is
    marking_then new are = ap (λ (l : Loaded). record { operations = then_is; loaded = l }) (fun_ext (λ line. fun_ext (λ p. fun_ext (λ i. by line p i (goes_through x name line) refl))))
      where
        opposed : (b : Bool) → (b && not b) ≡ false
        opposed true = refl
        opposed false = refl

        by : (line p i : ℕ) (b : Bool) → goes_through x name line ≡ b → (is_near_in x then_is line p i && not (new line p i)) ≡ (is_near_in x m line p i && not (opened line p i))
        by line p i true own =
            ap (λ b. is_near_in x then_is line p i && not b) (are.here line (moved_is line ∙ own) p i)
            ∙ opposed (is_near_in x then_is line p i)
            ∙ sym (ap (λ b. b && not (opened line p i)) (none_near line p i own))
        by line p i false own =
            ap (λ b. is_near_in x then_is line p i && not b) (are.others line (moved_is line ∙ own) p i)
            ∙ ap (λ b. b && not (opened line p i)) (near_still line p i own)

  pub kept_then : (w : Waiting) → AreKept x m w → AreKept x then_is w
  kept_then w kept = record {
    tables = kept.tables;
    near = λ line p i is. near_still line p i (not_moved (opened_of x w) kept.near line p i is) ∙ kept.near line p i is;
    closed = kept.closed;
    groups = λ line p i edge group is stands at.
        let s = still line (not_moved (opened_of x w) kept.near line p i is) in
        let there : edge_of m.tokens line ≡ Some edge = sym (ap (λ (u : Standing). u.edge) s) ∙ stands in
        subst (λ n. IsGroupAt x (opened_of x w) line (spot edge n) group) (sym (ap (λ (u : Standing). u.passed) s)) (kept.groups line p i edge group is there at);
  }

-- Loads that have fired belong to the groups before which their lines stand, whatever fires.
use Rattle.std.proofs.Common.{◌≡◌, ◌<◌, ◌⊎◌, inl, inr, ⊎_elim, ℕ, ◌==◌, ◌&&◌, ◌||◌, Bool, true, false, not, if◌then◌else◌, is_some, length, Option, Some, None, refl, sym, ap, ◌∙◌, subst, eqb-true, arith}
use Rattle.std.proofs.lemmas.Bool.{and_parts, cases_Bool}
use Rattle.std.specs.List.{list_all}
use Rattle.closed_walks.specs.Graph.{to}
use Rattle.firing.specs.Footprints.{IsReadyAt}
use Rattle.firing.specs.declared.system.NodeName.{NodeName}
use Rattle.firing.specs.declared.system.NodeName.TheVariants.{Act, Merge, Switch, Op}
use Rattle.net_board.specs.Footprints.{Line}
use Rattle.net_board.specs.Nodes.{graph_in, kind_in}
use Rattle.net_board.specs.ProgramFacts.{ProgramFacts}
use Rattle.net_board.specs.Tokens.{edge_of, is_before, joined, leads_to, left_for}
use Rattle.net_board.specs.WokenNodes.{switch_number}
use Rattle.net_board.proofs.ListPlaces.{all_pass, index_of, same_or_not}
use Rattle.op_board.specs.OperationFootprints.{Passed, Token, foot_as}
use Rattle.op_board.specs.OperationNets.{OperationNet, all_operation_nodes, needed, needing_before, operation_at, operation_count, operation_node}
use Rattle.op_board.specs.OperationTokens.{has_room, is_given, operation_moves, passed_by, ready_as, stands_before, value_at}
use Rattle.op_board.specs.SoundOperationNets.{IsOperationNet, OperationsCanCome}
use Rattle.op_board.proofs.OperationFirings.{FiringFacts}
use Rattle.op_board.proofs.OperationNumbers.{IsOperationNamed, not_touched, operation_named, switch_line}
use Rattle.op_board.proofs.PieceNodes.{no_operations}
use Rattle.fork_board.specs.ForkTokens.{ForkTokens, Standing, gone_on, is_load_node, is_open, is_whole, read_by, standing, standing_at, unforked, with_load}
use Rattle.fork_board.specs.LoadGroups.{behind_group, is_load, most_loads, number_at, spot}
use Rattle.fork_board.proofs.ForkFirings.{both_ways, feet}
use Rattle.fork_board.proofs.ForkLines.{IsOpen, opened}
use Rattle.fork_board.proofs.ForksApart.{needed_line}
use Rattle.fork_board.proofs.LoadSpots.{HasLoad, IsNumberAt, has_load, number_is, number_there}
use Rattle.read_forks.specs.LoadSteps.{line_read}
use Rattle.read_forks.specs.LoadedGroups.{AreNear, LineIsNear, is_near, is_near_on}
use Rattle.read_forks.proofs.LinesRead.{other_stands, own_stands}

first_of_four : (a b c d : Bool) → (a && b && c && d) ≡ true → a ≡ true
first_of_four true b c d is = refl
first_of_four false b c d is = absurd cc

-- ---- loads

module _ (x : OperationNet) (line : ℕ) where
  -- the loads that have fired are of the group
  abbrev Near : Standing → Type 0
  Near s = (piece number : ℕ) → s.loaded piece number ≡ true → is_near x line piece number s ≡ true

  pub read_near : (piece i : ℕ) (s : Standing) → is_open x line piece i s ≡ true → Near s → Near (read_by x line piece i s)
  read_near piece i s before near =
      let at : IsOpen x line piece i s = opened x line piece i s before in
      subst (λ (u : Standing). Near u) (sym (ap (gone_on x line fired) at.stands)) (by at (is_whole x line fired (spot at.edge s.passed)))
    where
      fired : Standing
      fired = record s { loaded = with_load piece i s.loaded }

      none : {P : Type 0} → false ≡ true → P
      none is = absurd cc

      among : (at : IsOpen x line piece i s) (p n : ℕ) (b : Bool) → ((piece == p) && (i == n)) ≡ b → (b || s.loaded p n) ≡ true → is_near x line p n fired ≡ true
      among at p n true same is =
          let both = and_parts (piece == p) (i == n) same in
          let own : is_near x line piece i fired ≡ true = ap (is_near_on x line piece i s.passed) at.stands ∙ at.among in
          subst (λ (q : ℕ). is_near x line q n fired ≡ true) (eqb-true piece p both.0) (subst (λ (q : ℕ). is_near x line piece q fired ≡ true) (eqb-true i n both.1) own)
      among at p n false same is = near p n is

      by : (at : IsOpen x line piece i s) (b : Bool) → Near (if b then standing_at (behind_group x line (spot at.edge s.passed)) else fired)
      by at true = λ p n is. none is
      by at false = λ p n is. among at p n ((piece == p) && (i == n)) refl is

-- a load has fired on a line that it needs
pub line_read_near : (x : OperationNet) (piece i : ℕ) (m : ForkTokens) (line : ℕ) → line < length m.operations.tokens.lines → line < length m.operations.passed → is_open x line piece i (standing m line) ≡ true → AreNear x m → AreNear x (line_read x piece i m line)
line_read_near x piece i m line inside there before near j = by (same_or_not line j)
  where
    s : Standing
    s = read_by x line piece i (standing m line)

    own : LineIsNear x (line_read x piece i m line) line
    own = subst (λ (u : Standing). Near x line u) (sym (own_stands m line s inside there)) (read_near x line piece i (standing m line) before (near line))

    by : (line ≡ j) ⊎ (line ≡ j → ⊥) → LineIsNear x (line_read x piece i m line) j
    by (inl e) = subst (λ (l : ℕ). LineIsNear x (line_read x piece i m line) l) e own
    by (inr differ) = subst (λ (u : Standing). Near x j u) (sym (other_stands m line j s differ)) (near j)

-- ---- other nodes

module _ (ground : ProgramFacts) (x : OperationNet) (n : IsOperationNet x) (facts : FiringFacts x n.is_net.classes) where
  abbrev mine : ℕ → NodeName → (line : ℕ) → Bool
  mine k name line = foot_as x n.is_net.classes k name (Token (Line line))

  passed_too : (k : ℕ) (name : NodeName) (line : ℕ) → mine k name line ≡ false → foot_as x n.is_net.classes k name (Passed line) ≡ false
  passed_too k (Op piece i) line not_in = not_in
  passed_too k (Switch piece own) line not_in = not_in
  passed_too k (Merge piece own) line not_in = not_in
  passed_too k (Act piece) line not_in = refl

  -- a line that a node doesn't move stands where it stood
  module _ (m : ForkTokens) (k : ℕ) (comes : OperationsCanCome x m.operations) (below : k < length (all_operation_nodes x)) (ready : (operation_moves x).ready m.operations k ≡ true) where
    abbrev later : ForkTokens
    later = unforked m ((operation_moves x).fired m.operations k)

    abbrev at : IsReadyAt (OperationsCanCome x) (operation_moves x) m.operations k
    at = record { is_sound = comes; node = below; ready = ready }

    pub stands_still : (line : ℕ) → mine k (operation_node x k) line ≡ false → standing later line ≡ standing m line
    stands_still line not_in =
        let laws = feet ground x n facts in
        let edge : edge_of later.operations.tokens line ≡ edge_of m.operations.tokens line = ap joined (laws.outside m.operations k at (Token (Line line)) not_in) in
        let passed : passed_by later.operations line ≡ passed_by m.operations line = index_of later.operations.passed m.operations.passed line (laws.outside m.operations k at (Passed line) (passed_too k (operation_node x k) line not_in)) in
        λ n. record { edge = edge n; passed = passed n; loaded = m.loaded line }

    -- where a line stands before another node than a load, no load of its group has fired
    leads : (piece line : ℕ) (o : Option ℕ) → leads_to (graph_in x.net) piece o ≡ true → (e : ℕ) → o ≡ Some e → to (graph_in x.net) e ≡ piece
    leads piece line o before e is = eqb-true (to (graph_in x.net) e) piece (sym (ap (leads_to (graph_in x.net) piece) is) ∙ before)

    abbrev IsHere : (line e : ℕ) → Type 0
    IsHere line e = HasLoad x line (spot e (passed_by m.operations line))

    pub no_load : (name : NodeName) → IsOperationNamed x name → is_load_node x name ≡ false → ready_as x m.operations k name ≡ true → (line e : ℕ) → mine k name line ≡ true → edge_of m.operations.tokens line ≡ Some e → IsHere line e → ⊥
    no_load (Op piece i) named other can line e own is has =
        let all = first_of_four (list_all (stands_before x m.operations piece i) (needed x piece i)) (list_all (is_given x m.operations piece) (operation_at x piece i).operands) (not (is_some (value_at m.operations k))) (has_room x m.operations piece (operation_at x piece i).work) can in
        let stands = all_pass (stands_before x m.operations piece i) (needed x piece i) line all (needed_line ground x n.is_net facts.touched piece i line named own) in
        let two = and_parts (is_before x.net m.operations.tokens piece line) (passed_by m.operations line == needing_before x piece i line) stands in
        let there : to (graph_in x.net) e ≡ piece = leads piece line (edge_of m.operations.tokens line) two.0 e is in
        let passed : passed_by m.operations line ≡ needing_before x piece i line = eqb-true (passed_by m.operations line) (needing_before x piece i line) two.1 in
        let below_too : i < operation_count x (to (graph_in x.net) e) = subst (λ (p : ℕ). i < operation_count x p) (sym there) named.fits.2 in
        let needs : x.needs (to (graph_in x.net) e) i line ≡ true = subst (λ (p : ℕ). x.needs p i line ≡ true) (sym there) own in
        let number : number_at x line (spot e (passed_by m.operations line)) ≡ Some i =
        ap (λ c. number_at x line (spot e c)) (passed ∙ ap (λ (p : ℕ). needing_before x p i line) (sym there)) ∙ number_there x line e i below_too needs in
        let same : has.number ≡ i = let both : Some has.number ≡ Some i = sym has.at ∙ number in cc in
        both_ways (is_load (operation_at x piece i).work) (subst (λ (p : ℕ). is_load (operation_at x p i).work ≡ true) there (subst (λ (a : ℕ). is_load (operation_at x (to (graph_in x.net) e) a).work ≡ true) same has.loads)) other
    no_load (Switch piece own) named other can line e mine_too is has =
        let same : own ≡ line = eqb-true own line mine_too in
        let parts = and_parts (is_before x.net m.operations.tokens piece own) (is_some (left_for m.operations.tokens (switch_number x.net piece own))) can in
        let there : to (graph_in x.net) e ≡ piece = leads piece line (edge_of m.operations.tokens line) (subst (λ (l : ℕ). is_before x.net m.operations.tokens piece l ≡ true) same parts.0) e is in
        let one : IsNumberAt x line (spot e (passed_by m.operations line)) has.number = number_is x line (spot e (passed_by m.operations line)) has.number has.at in
        let below_too : has.number < operation_count x piece = subst (λ (p : ℕ). has.number < operation_count x p) there one.below in
        let needs : x.needs piece has.number line ≡ true = subst (λ (p : ℕ). x.needs p has.number line ≡ true) there one.needs in
        let touched = facts.touched piece has.number line named.exists below_too needs in
        let untouched = not_touched x.net piece own (switch_line x.net piece own (kind_in x.net piece) named.fits.2) in
        both_ways (x.net.touches piece line) touched (subst (λ (l : ℕ). x.net.touches piece l ≡ false) same untouched)
    no_load (Merge piece own) named other can line e mine_too is has =
        let same : own ≡ line = eqb-true own line mine_too in
        let there : to (graph_in x.net) e ≡ piece = leads piece line (edge_of m.operations.tokens line) (subst (λ (l : ℕ). is_before x.net m.operations.tokens piece l ≡ true) same can) e is in
        let one : IsNumberAt x line (spot e (passed_by m.operations line)) has.number = number_is x line (spot e (passed_by m.operations line)) has.number has.at in
        let below_too : has.number < operation_count x piece = subst (λ (p : ℕ). has.number < operation_count x p) there one.below in
        let none = no_operations x piece named.fits.1 in
        absurd (omega (arith, below_too, none))
    no_load (Act piece) named other can line e mine_too is has = absurd named.fits

    pub other_near : is_load_node x (operation_node x k) ≡ false → AreNear x m → AreNear x later
    other_near other near line = ⊎_elim moved (λ still. subst (λ (u : Standing). Near x line u) (sym (stands_still line still)) (near line)) (cases_Bool (mine k (operation_node x k) line))
      where
        has : (p i : ℕ) (o : Option ℕ) → edge_of m.operations.tokens line ≡ o → mine k (operation_node x k) line ≡ true → is_near_on x line p i (passed_by m.operations line) o ≡ true → ⊥
        has p i None is own among = let e : false ≡ true = among in absurd cc
        has p i (Some e) is own among = no_load (operation_node x k) (operation_named x k below) other ready line e own is (has_load x line (most_loads x) (spot e (passed_by m.operations line)) p i among)

        moved : mine k (operation_node x k) line ≡ true → LineIsNear x later line
        moved own p i is = absurd (has p i (edge_of m.operations.tokens line) refl own (near line p i is))

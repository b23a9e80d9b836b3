-- Orders of a net of operations are orders of the game with groups of loads, and the two go on in step.
use Rattle.std.proofs.Common.{◌≡◌, ◌<◌, inl, inr, ℕ, suc, ◌==◌, Bool, true, false, not, if◌then◌else◌, List, [], ◌∷◌, length, Option, Some, None, is_some, slice_get, refl, sym, ap, ◌∙◌, subst, eqb-true, arith}
use Rattle.std.specs.List.{list_all}
use Rattle.std.proofs.lemmas.Bool.{and_from}
use Rattle.closed_walks.specs.Graph.{edge_count, to}
use Rattle.cfg_build.specs.Passes.{out}
use Rattle.dep_routing.specs.Routing.{next_at}
use Rattle.firing.specs.declared.system.NodeName.{NodeName}
use Rattle.firing.specs.declared.system.NodeName.TheVariants.{Act, Merge, Switch, Op}
use Rattle.list_laws.specs.Member.{Member}
use Rattle.net_board.specs.Footprints.{Line}
use Rattle.net_board.specs.Nodes.{graph_in, kind_in}
use Rattle.net_board.specs.ProgramFacts.{ProgramFacts}
use Rattle.net_board.specs.Tokens.{is_before, joined, leads_to, led_from, with_all}
use Rattle.net_board.proofs.FiringLaws.{touched_line}
use Rattle.net_board.proofs.ListPlaces.{put, same_tests, with_all_other, with_all_same}
use Rattle.net_board.proofs.NodeLaws.{get_some}
use Rattle.op_board.specs.OperationFootprints.{OperationPart, Token, foot_as}
use Rattle.op_board.specs.OperationNets.{OperationNet, all_operation_nodes, is_last_at, last_needed, needed, needing_before, operation_at, operation_count}
use Rattle.op_board.specs.OperationTokens.{OperationTokens, fired_as, has_room, is_given, passed_after, passed_by, ready_as, stands_before, value_at}
use Rattle.op_board.specs.SoundOperationNets.{IsOperationNet, OperationsCanCome}
use Rattle.op_board.proofs.FiringOperations.{same_given, same_own}
use Rattle.op_board.proofs.NeededLines.{last_has, last_in, needed_has, needed_in}
use Rattle.op_board.proofs.OperationFirings.{FiringFacts}
use Rattle.op_board.proofs.OperationNumbers.{IsOperationNamed, switch_line}
use Rattle.op_board.proofs.OperationsApart.{before, passed_is}
use Rattle.op_board.proofs.ReplacedItems.{replaced_same}
use Rattle.fork_board.specs.Chains.{ComeOnce}
use Rattle.fork_board.specs.LoadGroups.{Spot, group_at, is_among, is_last_there, is_load, load_at, load_in, number_at, piece_at, site, spot, spot_after, spot_behind}
use Rattle.fork_board.specs.ForkTokens.{ForkTokens, fork_ready_as, is_open, standing, with_no_loads}
use Rattle.fork_board.specs.ForkFootprints.{Stand, fork_part_at, number_in, rest_at, standing_of, tells_line}
use Rattle.fork_board.specs.SoundForks.{ForksCanCome}
use Rattle.fork_board.proofs.ForkFirings.{RestAlike, agree_aligned, aligned, both_ways, seen_standing, three_from}
use Rattle.fork_board.proofs.ForkLines.{IsOpen, index_get, open_from}
use Rattle.fork_board.proofs.ForkNodes.{IsLoadDone, load_done, load_ready}
use Rattle.fork_board.proofs.ForksApart.{four_parts}
use Rattle.fork_board.proofs.LinesInStep.{InStep, IsAmid, amid_among, amid_fresh, amid_here}
use Rattle.fork_board.proofs.LoadSpots.{number_there}

all_of : (test : ℕ → Bool) (xs : List ℕ) → ((y : ℕ) → Member xs y → test y ≡ true) → list_all test xs ≡ true
all_of test [] each = refl
all_of test (y ∷ xs) each = and_from (test y) (list_all test xs) (each y (inl refl)) (all_of test xs (λ z among. each z (inr among)))

module _ (ground : ProgramFacts) (x : OperationNet) (n : IsOperationNet x) (facts : FiringFacts x n.is_net.classes) (once : ComeOnce x) where
  -- ---- markings in step

  -- Each line is in step, and all else is the same.
  pub record IsInStep (m : OperationTokens) (f : ForkTokens) : Type 0 where
    pub comes : OperationsCanCome x m
    pub forks : ForksCanCome x f
    pub rest : (part : OperationPart) → tells_line part ≡ false → rest_at f.operations part ≡ rest_at m part
    pub lines : (line : ℕ) → line < x.net.routing.lines → InStep x line (slice_get m.tokens.lines line) (slice_get m.passed line) (fork_part_at f (Stand line))

  -- a line that a node needs or moves
  pub foot_line : (k line : ℕ) (name : NodeName) → IsOperationNamed x name → foot_as x n.is_net.classes k name (Token (Line line)) ≡ true → line < x.net.routing.lines
  foot_line k line (Op piece i) named mine = touched_line ground x.net n.is_net piece line named.exists (facts.touched piece i line named.exists named.fits.2 mine)
  foot_line k line (Switch piece own) named mine = subst (λ l. l < x.net.routing.lines) (eqb-true own line mine) ((switch_line x.net piece own (kind_in x.net piece) named.fits.2).exists)
  foot_line k line (Merge piece own) named mine = subst (λ l. l < x.net.routing.lines) (eqb-true own line mine) named.fits.2
  foot_line k line (Act piece) named mine = absurd named.fits

  -- ---- the load before which a line stands

  load_here : (line i : ℕ) (t : Spot) → i < operation_count x (piece_at x t) → x.needs (piece_at x t) i line ≡ true → t.passed ≡ needing_before x (piece_at x t) i line → is_load (operation_at x (piece_at x t) i).work ≡ true → load_at x line t ≡ Some (site (piece_at x t) i)
  load_here line i t below needs passed loads =
      ap (λ c. load_in x (piece_at x t) (number_at x line (spot t.edge c))) passed
      ∙ ap (load_in x (piece_at x t)) (number_there x line t.edge i below needs)
      ∙ ap (λ b. if b then Some (site (piece_at x t) i) else None) loads

  -- where a line stands that a ready load needs
  pub record IsStood (m : OperationTokens) (piece i line : ℕ) : Type 0 where
    pub at : ℕ
    pub edge : slice_get m.tokens.lines line ≡ Some (Some at)
    pub leads : to (graph_in x.net) at ≡ piece
    pub passed : slice_get m.passed line ≡ Some (needing_before x piece i line)
    pub exists : at < edge_count (graph_in x.net)
    pub load : load_at x line (spot at (needing_before x piece i line)) ≡ Some (site piece i)

  pub stood : (m : OperationTokens) (k piece i line : ℕ) → OperationsCanCome x m → IsOperationNamed x (Op piece i) → is_load (operation_at x piece i).work ≡ true → ready_as x m k (Op piece i) ≡ true → x.needs piece i line ≡ true → IsStood m piece i line
  stood m k piece i line comes named loads ready needs = by (slice_get m.tokens.lines line) refl
    where
      stands : is_before x.net m.tokens piece line ≡ true
      stands = before ground x n.is_net facts.touched m k (Op piece i) line named ready needs

      count : slice_get m.passed line ≡ Some (needing_before x piece i line)
      count =
          let low = foot_line k line (Op piece i) named needs in
          let long = comes.is_marking.passed in
          let s = get_some x.net m.passed line (omega (arith, low, long)) in
          let is : s.0 ≡ needing_before x piece i line = sym (index_get m.passed line ∙ ap number_in s.1) ∙ passed_is ground x n.is_net facts.touched m k piece i line named ready needs in
          s.1 ∙ ap (λ c. Some c) is

      on : (at : ℕ) → slice_get m.tokens.lines line ≡ Some (Some at) → to (graph_in x.net) at ≡ piece → IsStood m piece i line
      on at edge leads = record {
        at = at;
        edge = edge;
        leads = leads;
        passed = count;
        exists = comes.is_marking.tokens.stand line at (ap joined edge);
        load = subst (λ p. i < operation_count x p → x.needs p i line ≡ true → is_load (operation_at x p i).work ≡ true → load_at x line (spot at (needing_before x p i line)) ≡ Some (site p i)) leads
            (λ below needs loads. load_here line i (spot at (needing_before x (to (graph_in x.net) at) i line)) below needs refl loads) named.fits.2 needs loads;
      }

      by : (o : Option (Option ℕ)) → slice_get m.tokens.lines line ≡ o → IsStood m piece i line
      by None is = let none : false ≡ true = sym (ap (λ o. leads_to (graph_in x.net) piece (joined o)) is) ∙ stands in absurd cc
      by (Some None) is = let none : false ≡ true = sym (ap (λ o. leads_to (graph_in x.net) piece (joined o)) is) ∙ stands in absurd cc
      by (Some (Some at)) is = on at is (eqb-true (to (graph_in x.net) at) piece (sym (ap (λ o. leads_to (graph_in x.net) piece (joined o)) is) ∙ stands))

  -- beside it the other game stands before the group of the load
  pub amid : (m : OperationTokens) (f : ForkTokens) (k piece i line : ℕ) → IsInStep m f → k < length (all_operation_nodes x) → IsOperationNamed x (Op piece i) → is_load (operation_at x piece i).work ≡ true → ready_as x m k (Op piece i) ≡ true → x.needs piece i line ≡ true
      → IsAmid x line (slice_get m.tokens.lines line) (slice_get m.passed line) (fork_part_at f (Stand line)) (site piece i)
  amid m f k piece i line step below named loads ready needs = by (step.lines line (foot_line k line (Op piece i) named needs))
    where
      s : IsStood m piece i line
      s = stood m k piece i line step.comes named loads ready needs

      same_some : {A : Type 0} (a b : A) → Some a ≡ Some b → a ≡ b
      same_some a b e = cc

      by : InStep x line (slice_get m.tokens.lines line) (slice_get m.passed line) (fork_part_at f (Stand line)) → IsAmid x line (slice_get m.tokens.lines line) (slice_get m.passed line) (fork_part_at f (Stand line)) (site piece i)
      by (inl same) =
          amid_here x line (slice_get m.tokens.lines line) (slice_get m.passed line) (fork_part_at f (Stand line)) (spot s.at (needing_before x piece i line)) (site piece i) s.exists (omega (arith, below)) s.load s.edge s.passed same
      by (inr (load, a)) =
          let t : Spot = spot_behind a.count x line a.s in
          let edge : t.edge ≡ s.at = same_some t.edge s.at (same_some (Some t.edge) (Some s.at) (sym a.other_edge ∙ s.edge)) in
          let passed : t.passed ≡ needing_before x piece i line = same_some t.passed (needing_before x piece i line) (sym a.other_passed ∙ s.passed) in
          let is : Some load ≡ Some (site piece i) = sym a.next ∙ (λ j. load_at x line (spot (edge j) (passed j))) ∙ s.load in
          subst (λ l. IsAmid x line (slice_get m.tokens.lines line) (slice_get m.passed line) (fork_part_at f (Stand line)) l) (same_some load (site piece i) is) a

  -- ---- a load fires in both

  open_there : (m : OperationTokens) (f : ForkTokens) (k piece i line : ℕ) → IsInStep m f → k < length (all_operation_nodes x) → IsOperationNamed x (Op piece i) → is_load (operation_at x piece i).work ≡ true → ready_as x m k (Op piece i) ≡ true → x.needs piece i line ≡ true
      → is_open x line piece i (standing f line) ≡ true
  open_there m f k piece i line step below named loads ready needs =
      let a : IsAmid x line (slice_get m.tokens.lines line) (slice_get m.passed line) (fork_part_at f (Stand line)) (site piece i) = amid m f k piece i line step below named loads ready needs in
      let o : IsOpen x line piece i (standing_of (fork_part_at f (Stand line))) = record {
        edge = a.s.edge;
        stands = ap joined a.edge;
        among = ap (λ c. is_among (group_at x line (spot a.s.edge (number_in c))) piece i) a.passed ∙ amid_among x line (λ count s load. once line count s load (foot_line k line (Op piece i) named needs)) (slice_get m.tokens.lines line) (slice_get m.passed line) (fork_part_at f (Stand line)) (site piece i) a;
        fresh = amid_fresh x line (λ count s load. once line count s load (foot_line k line (Op piece i) named needs)) (slice_get m.tokens.lines line) (slice_get m.passed line) (fork_part_at f (Stand line)) (site piece i) a;
      } in
      ap (is_open x line piece i) (seen_standing f line) ∙ open_from x line piece i (standing_of (fork_part_at f (Stand line))) o

  pub rest_in_step : (m : OperationTokens) (f : ForkTokens) (k : ℕ) (name : NodeName) → IsInStep m f → RestAlike ground x n facts (with_no_loads m) f k name
  rest_in_step m f k name step part not mine = step.rest part not

  pub load_can : (m : OperationTokens) (f : ForkTokens) (k piece i : ℕ) → IsInStep m f → k < length (all_operation_nodes x) → IsOperationNamed x (Op piece i) → is_load (operation_at x piece i).work ≡ true → ready_as x m k (Op piece i) ≡ true → fork_ready_as x f k (Op piece i) ≡ true
  load_can m f k piece i step below named loads ready =
      let agree = agree_aligned ground x n facts (with_no_loads m) f k piece i (rest_in_step m f k (Op piece i) step) in
      let parts = four_parts ground x n.is_net facts.touched (list_all (stands_before x m piece i) (needed x piece i)) (list_all (is_given x m piece) (operation_at x piece i).operands) (not (is_some (value_at m k))) (has_room x m piece (operation_at x piece i).work) ready in
      let given : list_all (is_given x f.operations piece) (operation_at x piece i).operands ≡ true =
      same_tests (is_given x f.operations piece) (is_given x m piece) (operation_at x piece i).operands (same_given x n.is_net.classes m (aligned ground x n facts m f.operations) k piece i agree) ∙ parts.0 in
      let empty : not (is_some (value_at f.operations k)) ≡ true = ap (λ v. not (is_some v)) (same_own x n.is_net.classes m (aligned ground x n facts m f.operations) k piece i agree) ∙ parts.1 in
      load_ready x f k piece i loads
      ∙ three_from (list_all (λ line. is_open x line piece i (standing f line)) (needed x piece i)) (list_all (is_given x f.operations piece) (operation_at x piece i).operands) (not (is_some (value_at f.operations k)))
      (all_of (λ line. is_open x line piece i (standing f line)) (needed x piece i) (λ line among. open_there m f k piece i line step below named loads ready ((needed_has x piece i line among).1))) given empty

  -- where the line stands in the net of operations after the load
  pub after_load_there : (m : OperationTokens) (k piece i line : ℕ) → OperationsCanCome x m → IsOperationNamed x (Op piece i) → is_load (operation_at x piece i).work ≡ true → x.needs piece i line ≡ true → (s : IsStood m piece i line)
      → (slice_get (fired_as x m k (Op piece i)).tokens.lines line ≡ Some (Some (spot_after x line (spot s.at (needing_before x piece i line))).edge)) × (slice_get (fired_as x m k (Op piece i)).passed line ≡ Some (spot_after x line (spot s.at (needing_before x piece i line))).passed)
  after_load_there m k piece i line comes named loads needs s = (
    ap (λ (done : OperationTokens). slice_get done.tokens.lines line) done.is ∙ edge_by (is_last_at x piece i line) refl ∙ sym (ap (λ b. Some (Some (if b then spot (next_at x.net.routing line (out (graph_in x.net) (to (graph_in x.net) s.at) 0)) 0 else spot s.at (suc (needing_before x piece i line))).edge)) last_same ∙ ap (λ p. Some (Some (if is_last_at x piece i line then spot (next_at x.net.routing line (out (graph_in x.net) p 0)) 0 else spot s.at (suc (needing_before x piece i line))).edge)) s.leads),
    ap (λ (done : OperationTokens). slice_get done.passed line) done.is
        ∙ replaced_same m.passed (needed x piece i) (passed_after x m piece i) line among ∙ ap (put (passed_after x m piece i line)) s.passed
        ∙ passed_by_last (is_last_at x piece i line)
        ∙ sym (ap (λ b. Some (if b then spot (next_at x.net.routing line (out (graph_in x.net) (to (graph_in x.net) s.at) 0)) 0 else spot s.at (suc (needing_before x piece i line))).passed) last_same),
  )
    where
      done : IsLoadDone x m k piece i
      done = load_done x m k piece i loads

      low : line < x.net.routing.lines
      low = foot_line k line (Op piece i) named needs

      among : Member (needed x piece i) line
      among = needed_in x piece i line low needs

      last_same : is_last_there x line (spot s.at (needing_before x piece i line)) ≡ is_last_at x piece i line
      last_same = ap (λ p. needing_before x p (operation_count x p) line == suc (needing_before x piece i line)) s.leads

      counted : passed_by m line ≡ needing_before x piece i line
      counted = index_get m.passed line ∙ ap number_in s.passed

      passed_by_last : (b : Bool) → Some (if b then 0 else suc (passed_by m line)) ≡ Some (if b then spot (next_at x.net.routing line (out (graph_in x.net) (to (graph_in x.net) s.at) 0)) 0 else spot s.at (suc (needing_before x piece i line))).passed
      passed_by_last true = refl
      passed_by_last false = ap (λ c. Some (suc c)) counted

      edge_by : (b : Bool) → is_last_at x piece i line ≡ b
          → slice_get (with_all m.tokens.lines (last_needed x piece i) (led_from x.net (out (graph_in x.net) piece 0))) line ≡ Some (Some (if b then spot (next_at x.net.routing line (out (graph_in x.net) piece 0)) 0 else spot s.at (suc (needing_before x piece i line))).edge)
      edge_by true last = with_all_same m.tokens.lines (last_needed x piece i) (led_from x.net (out (graph_in x.net) piece 0)) line (last_in x piece i line low needs last) ∙ ap (put (led_from x.net (out (graph_in x.net) piece 0) line)) s.edge
      edge_by false not_last = with_all_other m.tokens.lines (last_needed x piece i) (led_from x.net (out (graph_in x.net) piece 0)) line (λ last. both_ways (is_last_at x piece i line) ((last_has x piece i line last).2) not_last) ∙ s.edge

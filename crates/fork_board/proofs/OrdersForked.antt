-- Each firing of a net of operations is one of the game with groups of loads, and leaves the two in step.
use Rattle.std.proofs.Common.{◌≡◌, ◌<◌, inl, ⊎_elim, ℕ, ◌++◌, Bool, true, false, if◌then◌else◌, List, [], ◌∷◌, Option, Some, None, slice_get, refl, sym, ap, ◌∙◌, subst}
use Rattle.std.proofs.lemmas.Bool.{cases_Bool}
use Rattle.firing.specs.declared.system.NodeName.{NodeName}
use Rattle.firing.specs.declared.system.NodeName.TheVariants.{Op}
use Rattle.firing.specs.Footprints.{IsReadyAt, LooksSame}
use Rattle.firing.specs.Moves.{CanFire, line_bytes}
use Rattle.firing.specs.Orders.{IsOrder, after, written}
use Rattle.net_board.specs.Footprints.{Line, Left, Word, Count, StepOf, Taken, Trap}
use Rattle.net_board.specs.ProgramFacts.{ProgramFacts}
use Rattle.net_board.specs.Tokens.{joined}
use Rattle.op_board.specs.OperationFootprints.{OperationPart, Token, Passed, Given, foot_as, operation_foot, part_at}
use Rattle.op_board.specs.OperationNets.{OperationNet, needing_before, operation_at, operation_node}
use Rattle.op_board.specs.OperationTokens.{OperationTokens, fired_as, line_as, operation_moves, passed_by, ready_as, text_written}
use Rattle.op_board.specs.SoundOperationNets.{IsOperationNet, OperationsCanCome}
use Rattle.op_board.proofs.OperationFirings.{FiringFacts}
use Rattle.op_board.proofs.OperationLaws.{operations_lawful}
use Rattle.op_board.proofs.OperationNumbers.{IsOperationNamed, operation_named}
use Rattle.fork_board.specs.Chains.{ComeOnce}
use Rattle.fork_board.specs.LoadGroups.{Site, Spot, is_load, number_at, piece_at, site, spot, spot_after, spot_behind}
use Rattle.fork_board.specs.ForkTokens.{ForkTokens, fork_fired_as, fork_moves, fork_ready_as, is_load_node, loaded_on, unforked, with_no_loads}
use Rattle.fork_board.specs.ForkFootprints.{Rest, Stand, StandValue, fork_part_at, number_in, rest_at, stand_read, tells_line}
use Rattle.fork_board.specs.SoundForks.{ForksCanCome}
use Rattle.fork_board.proofs.ForkFirings.{feet, load_outside, load_rest, load_stands}
use Rattle.fork_board.proofs.ForkLaws.{forks_lawful}
use Rattle.fork_board.proofs.ForkLines.{index_get}
use Rattle.fork_board.proofs.ForkNodes.{IsLoadDone, IsLoadNamed, load_done, load_fired, load_named, other_fired, other_ready, rest_back, rest_loaded, rest_same}
use Rattle.fork_board.proofs.ForksApart.{IsFirst, meet}
use Rattle.fork_board.proofs.ForksFooted.{foot_passed}
use Rattle.fork_board.proofs.LinesInStep.{InStep, IsAmid, IsSame, amid_read}
use Rattle.fork_board.proofs.LoadSpots.{IsLoadIn, IsNumberAt, load_is, number_is}
use Rattle.fork_board.proofs.OrdersInStep.{IsInStep, IsStood, after_load_there, amid, foot_line, load_can, rest_in_step, stood}

-- the rest of what a node doesn't have
rest_not : (b mine : Bool) → mine ≡ false → (if b then false else mine) ≡ false
rest_not true mine not = refl
rest_not false mine not = not

-- places that are the same are in step alike
moved : (x : OperationNet) (line : ℕ) (e d : Option (Option ℕ)) (c b : Option ℕ) (v w : StandValue) → e ≡ d → c ≡ b → v ≡ w → InStep x line d b w → InStep x line e c v
moved x line e d c b v w edge passed value step = subst (λ a. InStep x line a c v) (sym edge) (subst (λ a. InStep x line d a v) (sym passed) (subst (λ a. InStep x line d b a) (sym value) step))

module _ (ground : ProgramFacts) (x : OperationNet) (n : IsOperationNet x) (facts : FiringFacts x n.is_net.classes) (once : ComeOnce x) where
  abbrev node : ℕ → NodeName
  node k = operation_node x k

  abbrev Step : OperationTokens → ForkTokens → Type 0
  Step m f = IsInStep ground x n facts once m f

  ready_at : (m : OperationTokens) (f : ForkTokens) (k : ℕ) → Step m f → CanFire (operation_moves x) m k → IsReadyAt (OperationsCanCome x) (operation_moves x) m k
  ready_at m f k step can = record { is_sound = step.comes; node = can.node; ready = can.ready }

  pub trap_same : (m : OperationTokens) (f : ForkTokens) → Step m f → f.operations.tokens.trap ≡ m.tokens.trap
  trap_same m f step = step.rest (Token Trap) refl

  -- ---- a load

  module _ (m : OperationTokens) (f : ForkTokens) (k piece i : ℕ) (step : Step m f) (can : CanFire (operation_moves x) m k) (is : node k ≡ Op piece i) (loads : is_load (operation_at x piece i).work ≡ true) where
    load_names : IsOperationNamed x (Op piece i)
    load_names = subst (λ name. IsOperationNamed x name) is (operation_named x k can.node)

    load_readies : ready_as x m k (Op piece i) ≡ true
    load_readies = sym (ap (ready_as x m k) is) ∙ can.ready

    load_fires : fork_ready_as x f k (Op piece i) ≡ true
    load_fires = load_can ground x n facts once m f k piece i step can.node load_names loads load_readies

    -- what the load leaves in the net of operations
    load_leaves : (part : OperationPart) → foot_as x n.is_net.classes k (Op piece i) part ≡ false → part_at (fired_as x m k (Op piece i)) part ≡ part_at m part
    load_leaves part not_in =
        ap (λ name. part_at (fired_as x m k name) part) (sym is)
        ∙ (feet ground x n facts).outside m k (ready_at m f k step can) part (ap (λ name. foot_as x n.is_net.classes k name part) is ∙ not_in)

    load_rest_alike : (part : OperationPart) → tells_line part ≡ false → rest_at (loaded_on x f piece i (fired_as x f.operations k (Op piece i))).operations part ≡ rest_at (fired_as x m k (Op piece i)) part
    load_rest_alike part not = ⊎_elim
        (λ (mine : foot_as x n.is_net.classes k (Op piece i) part ≡ true).
        load_rest ground x n facts (with_no_loads m) f k piece i load_names (rest_in_step ground x n facts once m f k (Op piece i) step) part not mine
        ∙ rest_loaded x (with_no_loads m) piece i (fired_as x m k (Op piece i)) part)
        (λ (not_in : foot_as x n.is_net.classes k (Op piece i) part ≡ false).
        load_outside ground x n facts f k piece i load_names (Rest part) (rest_not (tells_line part) (foot_as x n.is_net.classes k (Op piece i) part) not_in)
        ∙ step.rest part not
        ∙ sym (rest_same (fired_as x m k (Op piece i)) m part (load_leaves part not_in)))
        (cases_Bool (foot_as x n.is_net.classes k (Op piece i) part))

    same_some : {A : Type 0} (a b : A) → Some a ≡ Some b → a ≡ b
    same_some a b e = cc

    load_line_needed : (line : ℕ) → line < x.net.routing.lines → x.needs piece i line ≡ true
        → InStep x line (slice_get (fired_as x m k (Op piece i)).tokens.lines line) (slice_get (fired_as x m k (Op piece i)).passed line) (fork_part_at (loaded_on x f piece i (fired_as x f.operations k (Op piece i))) (Stand line))
    load_line_needed line low needs =
        let s : IsStood ground x n facts once m piece i line = stood ground x n facts once m k piece i line step.comes load_names loads load_readies needs in
        let a : IsAmid x line (slice_get m.tokens.lines line) (slice_get m.passed line) (fork_part_at f (Stand line)) (site piece i) = amid ground x n facts once m f k piece i line step can.node load_names loads load_readies needs in
        let t : Spot = spot_behind a.count x line a.s in
        let here : Spot = spot s.at (needing_before x piece i line) in
        let edge : t.edge ≡ s.at = same_some t.edge s.at (same_some (Some t.edge) (Some s.at) (sym a.other_edge ∙ s.edge)) in
        let passed : t.passed ≡ needing_before x piece i line = same_some t.passed (needing_before x piece i line) (sym a.other_passed ∙ s.passed) in
        let same : spot t.edge t.passed ≡ here = λ j. spot (edge j) (passed j) in
        let there = after_load_there ground x n facts once m k piece i line step.comes load_names loads needs s in
        moved x line (slice_get (fired_as x m k (Op piece i)).tokens.lines line) (Some (Some (spot_after x line t).edge)) (slice_get (fired_as x m k (Op piece i)).passed line) (Some (spot_after x line t).passed)
        (fork_part_at (loaded_on x f piece i (fired_as x f.operations k (Op piece i))) (Stand line)) (stand_read x line (Op piece i) (fork_part_at f (Stand line)))
        (there.0 ∙ ap (λ (u : Spot). Some (Some (spot_after x line u).edge)) (sym same)) (there.1 ∙ ap (λ (u : Spot). Some (spot_after x line u).passed) (sym same))
        (load_stands ground x n facts f k piece i line load_names needs)
        (amid_read x line (λ count s load exists. once line count s load low exists) (slice_get m.tokens.lines line) (slice_get m.passed line) (fork_part_at f (Stand line)) piece i a)

    load_line : (line : ℕ) → line < x.net.routing.lines
        → InStep x line (slice_get (fired_as x m k (Op piece i)).tokens.lines line) (slice_get (fired_as x m k (Op piece i)).passed line) (fork_part_at (loaded_on x f piece i (fired_as x f.operations k (Op piece i))) (Stand line))
    load_line line low = ⊎_elim
        (λ (needs : x.needs piece i line ≡ true). load_line_needed line low needs)
        (λ not_in. moved x line (slice_get (fired_as x m k (Op piece i)).tokens.lines line) (slice_get m.tokens.lines line) (slice_get (fired_as x m k (Op piece i)).passed line) (slice_get m.passed line)
        (fork_part_at (loaded_on x f piece i (fired_as x f.operations k (Op piece i))) (Stand line)) (fork_part_at f (Stand line))
        (load_leaves (Token (Line line)) not_in) (load_leaves (Passed line) not_in) (load_outside ground x n facts f k piece i load_names (Stand line) not_in) (step.lines line low))
        (cases_Bool (x.needs piece i line))

    load_text : line_as x f.operations (Op piece i) ≡ line_as x m (Op piece i)
    load_text =
        let a : IsLoadDone x f.operations k piece i = load_done x f.operations k piece i loads in
        let b : IsLoadDone x m k piece i = load_done x m k piece i loads in
        ap text_written a.performs ∙ sym (ap text_written b.performs)

  -- ---- another node

  module _ (m : OperationTokens) (f : ForkTokens) (k : ℕ) (step : Step m f) (can : CanFire (operation_moves x) m k) (not_load : is_load_node x (node k) ≡ false) where
    -- where it needs a line the two stand on the same edge
    meets : {P : Type 0} (line : ℕ) (load : Site) → IsAmid x line (slice_get m.tokens.lines line) (slice_get m.passed line) (fork_part_at f (Stand line)) load → operation_foot x n.is_net.classes k (Token (Line line)) ≡ true → P
    meets line load a mine =
        let t : Spot = spot_behind a.count x line a.s in
        let r : IsLoadIn x (piece_at x t) (number_at x line t) load = load_is x (piece_at x t) (number_at x line t) load a.next in
        let counted : passed_by m line ≡ t.passed = index_get m.passed line ∙ ap number_in a.other_passed in
        let first : IsFirst ground x n.is_net facts.touched (with_no_loads m) line = record {
          edge = t.edge;
          stands = ap joined a.other_edge;
          number = r.number;
          at = subst (λ c. IsNumberAt x line (spot t.edge c) r.number) (sym counted) (number_is x line (spot t.edge t.passed) r.number r.at);
          loads = r.loads;
        } in
        meet ground x n.is_net facts.touched (with_no_loads m) k line (node k) first (operation_named x k can.node) not_load can.ready mine

    other_same : (line : ℕ) → operation_foot x n.is_net.classes k (Token (Line line)) ≡ true → IsSame x line (slice_get m.tokens.lines line) (slice_get m.passed line) (fork_part_at f (Stand line))
    other_same line mine = ⊎_elim
        (λ (same : IsSame x line (slice_get m.tokens.lines line) (slice_get m.passed line) (fork_part_at f (Stand line))). same)
        (λ amid. meets line amid.0 amid.1 mine)
        (step.lines line (foot_line ground x n facts once k line (node k) (operation_named x k can.node) mine))

    other_looks : LooksSame (OperationsCanCome x) (operation_moves x) part_at (operation_foot x n.is_net.classes) m f.operations k
    other_looks = record { first = ready_at m f k step can; second = record { ground = step.forks.ground; is_net = step.forks.is_net; is_marking = step.forks.is_marking }; agree = agree }
      where
        rest : (part : OperationPart) → tells_line part ≡ false → part_at f.operations part ≡ part_at m part
        rest part not = rest_back f.operations m part not (step.rest part not)

        agree : (part : OperationPart) → operation_foot x n.is_net.classes k part ≡ true → part_at f.operations part ≡ part_at m part
        agree (Token (Line line)) mine = (other_same line mine).edge
        agree (Token (Left left)) mine = rest (Token (Left left)) refl
        agree (Token (Word word)) mine = rest (Token (Word word)) refl
        agree (Token (Count loop_no)) mine = rest (Token (Count loop_no)) refl
        agree (Token (StepOf loop_no)) mine = rest (Token (StepOf loop_no)) refl
        agree (Token Taken) mine = rest (Token Taken) refl
        agree (Token Trap) mine = rest (Token Trap) refl
        agree (Passed line) mine = (other_same line (sym (foot_passed ground x n facts k line (node k)) ∙ mine)).passed
        agree (Given j) mine = rest (Given j) refl

    other_fires : fork_ready_as x f k (node k) ≡ true
    other_fires = other_ready x f k (node k) not_load ∙ (feet ground x n facts).ready m f.operations k other_looks

    other_ready_at : IsReadyAt (OperationsCanCome x) (operation_moves x) f.operations k
    other_ready_at = record { is_sound = other_looks.second; node = can.node; ready = (feet ground x n facts).ready m f.operations k other_looks }

    -- what it leaves in both
    other_leaves : (part : OperationPart) → operation_foot x n.is_net.classes k part ≡ false → (part_at (fired_as x m k (node k)) part ≡ part_at m part) × (part_at (fired_as x f.operations k (node k)) part ≡ part_at f.operations part)
    other_leaves part not_in = ((feet ground x n facts).outside m k (ready_at m f k step can) part not_in, (feet ground x n facts).outside f.operations k other_ready_at part not_in)

    other_rest_alike : (part : OperationPart) → tells_line part ≡ false → rest_at (fired_as x f.operations k (node k)) part ≡ rest_at (fired_as x m k (node k)) part
    other_rest_alike part not = ⊎_elim
        (λ (mine : operation_foot x n.is_net.classes k part ≡ true). rest_same (fired_as x f.operations k (node k)) (fired_as x m k (node k)) part ((feet ground x n facts).inside m f.operations k other_looks part mine))
        (λ not_in.
        let leaves = other_leaves part not_in in
        rest_same (fired_as x f.operations k (node k)) f.operations part leaves.1 ∙ step.rest part not ∙ sym (rest_same (fired_as x m k (node k)) m part leaves.0))
        (cases_Bool (operation_foot x n.is_net.classes k part))

    other_line : (line : ℕ) → line < x.net.routing.lines
        → InStep x line (slice_get (fired_as x m k (node k)).tokens.lines line) (slice_get (fired_as x m k (node k)).passed line) (fork_part_at (unforked f (fired_as x f.operations k (node k))) (Stand line))
    other_line line low = ⊎_elim
        (λ (mine : operation_foot x n.is_net.classes k (Token (Line line)) ≡ true). inl (record {
          edge = (feet ground x n facts).inside m f.operations k other_looks (Token (Line line)) mine;
          passed = (feet ground x n facts).inside m f.operations k other_looks (Passed line) (foot_passed ground x n facts k line (node k) ∙ mine);
          loaded = (other_same line mine).loaded;
        }))
        (λ not_in.
        let edge = other_leaves (Token (Line line)) not_in in
        let passed = other_leaves (Passed line) (foot_passed ground x n facts k line (node k) ∙ not_in) in
        let there = edge.1 in
        let counted = passed.1 in
        let value : fork_part_at (unforked f (fired_as x f.operations k (node k))) (Stand line) ≡ fork_part_at f (Stand line) = λ j. record { edge = there j; passed = counted j; loaded = f.loaded line } in
        moved x line (slice_get (fired_as x m k (node k)).tokens.lines line) (slice_get m.tokens.lines line) (slice_get (fired_as x m k (node k)).passed line) (slice_get m.passed line)
        (fork_part_at (unforked f (fired_as x f.operations k (node k))) (Stand line)) (fork_part_at f (Stand line)) edge.0 passed.0 value (step.lines line low))
        (cases_Bool (operation_foot x n.is_net.classes k (Token (Line line))))

  -- ---- each node

  -- it fires in both
  pub record FiresInBoth (m : OperationTokens) (f : ForkTokens) (k : ℕ) : Type 0 where
    pub can_fire : CanFire (fork_moves x) f k
    pub step : Step ((operation_moves x).fired m k) ((fork_moves x).fired f k)
    pub text : (fork_moves x).line f k ≡ (operation_moves x).line m k

  -- the markings after it are in step where their parts are
  in_step_then : (m : OperationTokens) (f : ForkTokens) (k : ℕ) → Step m f → CanFire (operation_moves x) m k → CanFire (fork_moves x) f k → (done : OperationTokens) (after : ForkTokens) → (operation_moves x).fired m k ≡ done → (fork_moves x).fired f k ≡ after
      → ((part : OperationPart) → tells_line part ≡ false → rest_at after.operations part ≡ rest_at done part) → ((line : ℕ) → line < x.net.routing.lines → InStep x line (slice_get done.tokens.lines line) (slice_get done.passed line) (fork_part_at after (Stand line)))
      → Step ((operation_moves x).fired m k) ((fork_moves x).fired f k)
  in_step_then m f k step can fork_can done after is is_after rest lines =
      let comes = (operations_lawful x).stays_sound m k step.comes can in
      let forks = (forks_lawful x).stays_sound f k step.forks fork_can in
      subst (λ a. Step a ((fork_moves x).fired f k)) (sym is) (subst (λ b. Step done b) (sym is_after)
      (record { comes = subst (λ a. OperationsCanCome x a) is comes; forks = subst (λ b. ForksCanCome x b) is_after forks; rest = rest; lines = lines }))

  pub fires_in_both : (m : OperationTokens) (f : ForkTokens) (k : ℕ) → Step m f → CanFire (operation_moves x) m k → FiresInBoth m f k
  fires_in_both m f k step can = by (is_load_node x (node k)) refl
    where
      going : f.operations.tokens.trap ≡ None
      going = trap_same m f step ∙ can.going

      by : (b : Bool) → is_load_node x (node k) ≡ b → FiresInBoth m f k
      by true loads =
          let r : IsLoadNamed x (node k) = load_named x (node k) loads in
          let fork_can : CanFire (fork_moves x) f k = record { going = going; node = can.node; ready = ap (fork_ready_as x f k) r.is ∙ load_fires m f k r.piece r.number step can r.is r.loads } in
          record {
            can_fire = fork_can;
            step = in_step_then m f k step can fork_can (fired_as x m k (Op r.piece r.number)) (loaded_on x f r.piece r.number (fired_as x f.operations k (Op r.piece r.number)))
                (ap (fired_as x m k) r.is) (ap (fork_fired_as x f k) r.is ∙ load_fired x f k r.piece r.number r.loads) (load_rest_alike m f k r.piece r.number step can r.is r.loads) (load_line m f k r.piece r.number step can r.is r.loads);
            text = ap (line_as x f.operations) r.is ∙ load_text m f k r.piece r.number step can r.is r.loads ∙ sym (ap (line_as x m) r.is);
          }
      by false not_load =
          let fork_can : CanFire (fork_moves x) f k = record { going = going; node = can.node; ready = other_fires m f k step can not_load } in
          record {
            can_fire = fork_can;
            step = in_step_then m f k step can fork_can (fired_as x m k (node k)) (unforked f (fired_as x f.operations k (node k))) refl (other_fired x f k (node k) not_load) (other_rest_alike m f k step can not_load) (other_line m f k step can not_load);
            text = (feet ground x n facts).line m f.operations k (other_looks m f k step can not_load);
          }

  -- ---- orders

  pub record GoInStep (m : OperationTokens) (f : ForkTokens) (ks : List ℕ) : Type 0 where
    pub order : IsOrder (fork_moves x) f ks
    pub step : Step (after (operation_moves x) m ks) (after (fork_moves x) f ks)
    pub text : written (fork_moves x) f ks ≡ written (operation_moves x) m ks

  pub go_in_step : (m : OperationTokens) (f : ForkTokens) (ks : List ℕ) → Step m f → IsOrder (operation_moves x) m ks → GoInStep m f ks
  go_in_step m f [] step order = record { order = tt; step = step; text = refl }
  go_in_step m f (k ∷ ks) step order =
      let one : FiresInBoth m f k = fires_in_both m f k step order.0 in
      let rest : GoInStep ((operation_moves x).fired m k) ((fork_moves x).fired f k) ks = go_in_step ((operation_moves x).fired m k) ((fork_moves x).fired f k) ks one.step order.1 in
      record {
        order = (one.can_fire, rest.order);
        step = rest.step;
        text = ap (λ text. line_bytes text ++ written (fork_moves x) ((fork_moves x).fired f k) ks) one.text ∙ ap (λ bytes. line_bytes ((operation_moves x).line m k) ++ bytes) rest.text;
      }

  -- they begin in step
  pub begin_in_step : (m : OperationTokens) → OperationsCanCome x m → Step m (with_no_loads m)
  begin_in_step m comes = record {
    comes = comes;
    forks = record { ground = comes.ground; is_net = comes.is_net; is_marking = comes.is_marking };
    rest = λ part not. refl;
    lines = λ line low. inl (record { edge = refl; passed = refl; loaded = refl });
  }

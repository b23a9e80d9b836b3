-- Nets with groups of loads keep the laws of firing, by their footprints and what loads share.
use Rattle.std.proofs.Common.{◌≡◌, ◌<◌, ◌⊎◌, inl, inr, ⊎_elim, ℕ, ◌&&◌, Bool, true, false, if◌then◌else◌, List, [], ◌∷◌, length, slice_get, None, zero, suc, ◌≤◌, arith, refl, sym, ap, ◌∙◌, subst}
use Rattle.std.proofs.lemmas.Bool.{cases_Bool, and_parts, and_from}
use Rattle.firing.specs.declared.system.NodeName.{NodeName}
use Rattle.firing.specs.declared.system.NodeName.TheVariants.{Act, Merge, Switch, Op}
use Rattle.firing.specs.Footprints.{IsReadyAt, IsUpdated, LooksSame, LooksShared, SharesFootprints}
use Rattle.firing.specs.Laws.{AreReady}
use Rattle.firing.specs.Moves.{CanFire, IsSilent}
use Rattle.net_board.specs.Footprints.{Line, Left, Word, Count, StepOf, Taken, Trap}
use Rattle.net_board.specs.ProgramFacts.{ProgramFacts}
use Rattle.op_board.specs.OperationFootprints.{OperationPart, Token, Passed, Given, foot_as, operation_foot, part_at}
use Rattle.op_board.specs.OperationNets.{OperationNet, all_operation_nodes, operation_node}
use Rattle.op_board.specs.OperationTokens.{OperationTokens, fired_as, line_as, operation_moves, text_written}
use Rattle.op_board.specs.SoundOperationNets.{IsOperationMarking, IsOperationNet, OperationsCanCome}
use Rattle.op_board.proofs.OperationFirings.{FiringFacts}
use Rattle.op_board.proofs.OperationMarkings.{fired_marking}
use Rattle.op_board.proofs.ValueTaking.{below_or_not}
use Rattle.net_board.specs.Nodes.{name_in}
use Rattle.op_board.proofs.OperationNumbers.{IsOperationNamed, one_operation_number, operation_named}
use Rattle.fork_board.specs.ForkTokens.{ForkTokens, fork_fired_as, fork_moves, fork_ready_as, is_load_node, is_open, loaded_on, standing, unforked}
use Rattle.fork_board.specs.ForkFootprints.{ForkPart, Rest, Stand, StandValue, fork_foot, fork_foot_as, fork_part_at, fork_shares, fork_shares_as, fork_update, is_read, rest_at, standing_of, stand_read, tells_line}
use Rattle.fork_board.specs.SoundForks.{ForksCanCome}
use Rattle.fork_board.proofs.ForkFirings.{RestAlike, both_ways, equal_forks, feet, framed, load_outside, load_reads, load_ready_then, load_rest, load_stands, rest_foot, same_stand, seen_standing, serial_foot, silent_load}
use Rattle.fork_board.proofs.ForkLines.{IsOpen, open_from, reads_commute, value_open}
use Rattle.fork_board.proofs.ForkMarkings.{loaded_marking}
use Rattle.fork_board.proofs.ForkNodes.{IsLoadDone, IsLoadNamed, load_done, load_fired, load_named, other_fired, other_ready, rest_back, rest_same, rest_told}
use Rattle.fork_board.proofs.ForksApart.{AreTwo, load_and_other, opens, two_loads}

pub get_none : {A : Type 0} (xs : List A) (k : ℕ) → length xs ≤ k → slice_get xs k ≡ None
get_none [] k past = refl
get_none (y ∷ xs) zero past = absurd (omega (arith, past))
get_none (y ∷ xs) (suc k) past = get_none xs k (omega (arith, past))

module _ (ground : ProgramFacts) (x : OperationNet) (n : IsOperationNet x) (facts : FiringFacts x n.is_net.classes) where
  operations_come : (m : ForkTokens) → ForksCanCome x m → OperationsCanCome x m.operations
  operations_come m comes = record { ground = comes.ground; is_net = comes.is_net; is_marking = comes.is_marking }

  abbrev Ready : ForkTokens → ℕ → Type 0
  Ready m k = IsReadyAt (ForksCanCome x) (fork_moves x) m k

  abbrev Looks : (m o : ForkTokens) → ℕ → Type 0
  Looks m o k = LooksShared (ForksCanCome x) (fork_moves x) fork_part_at (fork_foot x n.is_net.classes) (fork_shares x n.is_net.classes) (fork_update x) m o k

  pub foot_passed : (k line : ℕ) (name : NodeName) → foot_as x n.is_net.classes k name (Passed line) ≡ foot_as x n.is_net.classes k name (Token (Line line))
  foot_passed k line (Op piece i) = refl
  foot_passed k line (Switch piece own) = refl
  foot_passed k line (Merge piece own) = refl
  foot_passed k line (Act piece) = refl

  -- a node and what is known of it
  abbrev node : ℕ → NodeName
  node k = operation_node x k

  -- ---- nodes that aren't loads

  ready_there : (m : ForkTokens) (k : ℕ) → Ready m k → is_load_node x (node k) ≡ false → IsReadyAt (OperationsCanCome x) (operation_moves x) m.operations k
  ready_there m k ready not_load = record { is_sound = operations_come m ready.is_sound; node = ready.node; ready = sym (other_ready x m k (node k) not_load) ∙ ready.ready }

  rest_alike : (m o : ForkTokens) (k : ℕ) → Looks m o k → RestAlike ground x n facts m o k (node k)
  rest_alike m o k looks part not mine = by (looks.agree (Rest part) (ap (λ b. if b then false else foot_as x n.is_net.classes k (node k) part) not ∙ mine))
    where
      by : (rest_at o.operations part ≡ rest_at m.operations part) ⊎ IsUpdated (ForksCanCome x) (fork_moves x) fork_part_at (fork_shares x n.is_net.classes) (fork_update x) m o k (Rest part) → rest_at o.operations part ≡ rest_at m.operations part
      by (inl same) = same
      by (inr updated) = updated.is

  stand_alike : (m o : ForkTokens) (k line : ℕ) → Looks m o k → is_load_node x (node k) ≡ false → operation_foot x n.is_net.classes k (Token (Line line)) ≡ true → fork_part_at o (Stand line) ≡ fork_part_at m (Stand line)
  stand_alike m o k line looks not_load mine = by (looks.agree (Stand line) mine)
    where
      by : (fork_part_at o (Stand line) ≡ fork_part_at m (Stand line)) ⊎ IsUpdated (ForksCanCome x) (fork_moves x) fork_part_at (fork_shares x n.is_net.classes) (fork_update x) m o k (Stand line) → fork_part_at o (Stand line) ≡ fork_part_at m (Stand line)
      by (inl same) = same
      by (inr updated) = both_ways (is_load_node x (node k)) ((and_parts (is_load_node x (node k)) (operation_foot x n.is_net.classes k (Token (Line line))) updated.shares_too).0) not_load

  other_alike : (m o : ForkTokens) (k : ℕ) → Looks m o k → is_load_node x (node k) ≡ false → LooksSame (OperationsCanCome x) (operation_moves x) part_at (operation_foot x n.is_net.classes) m.operations o.operations k
  other_alike m o k looks not_load = record { first = ready_there m k looks.first not_load; second = operations_come o looks.second; agree = agree }
    where
      rest : (part : OperationPart) → tells_line part ≡ false → operation_foot x n.is_net.classes k part ≡ true → part_at o.operations part ≡ part_at m.operations part
      rest part not mine = rest_back o.operations m.operations part not (rest_alike m o k looks part not mine)

      agree : (part : OperationPart) → operation_foot x n.is_net.classes k part ≡ true → part_at o.operations part ≡ part_at m.operations part
      agree (Token (Line line)) mine = ap (λ (v : StandValue). v.edge) (stand_alike m o k line looks not_load mine)
      agree (Token (Left left)) mine = rest (Token (Left left)) refl mine
      agree (Token (Word word)) mine = rest (Token (Word word)) refl mine
      agree (Token (Count loop_no)) mine = rest (Token (Count loop_no)) refl mine
      agree (Token (StepOf loop_no)) mine = rest (Token (StepOf loop_no)) refl mine
      agree (Token Taken) mine = rest (Token Taken) refl mine
      agree (Token Trap) mine = rest (Token Trap) refl mine
      agree (Passed line) mine = ap (λ (v : StandValue). v.passed) (stand_alike m o k line looks not_load (sym (foot_passed k line (node k)) ∙ mine))
      agree (Given j) mine = rest (Given j) refl mine

  other_outside : (m : ForkTokens) (k : ℕ) → Ready m k → is_load_node x (node k) ≡ false → (part : ForkPart) → fork_foot x n.is_net.classes k part ≡ false → fork_part_at (unforked m (fired_as x m.operations k (node k))) part ≡ fork_part_at m part
  other_outside m k ready not_load (Stand line) not_in =
      same_stand (fork_part_at (unforked m (fired_as x m.operations k (node k))) (Stand line)) (fork_part_at m (Stand line))
      ((feet ground x n facts).outside m.operations k (ready_there m k ready not_load) (Token (Line line)) not_in)
      ((feet ground x n facts).outside m.operations k (ready_there m k ready not_load) (Passed line) (foot_passed k line (node k) ∙ not_in)) refl
  other_outside m k ready not_load (Rest part) not_in = ⊎_elim
      (λ (tells : tells_line part ≡ true). rest_told (fired_as x m.operations k (node k)) m.operations part tells)
      (λ not. rest_same (fired_as x m.operations k (node k)) m.operations part ((feet ground x n facts).outside m.operations k (ready_there m k ready not_load) part not))
      (rest_foot (tells_line part) (operation_foot x n.is_net.classes k part) not_in)

  -- a part of the rest that a node has
  rest_mine : (b mine : Bool) → (if b then false else mine) ≡ true → (b ≡ false) × (mine ≡ true)
  rest_mine true mine is = absurd cc
  rest_mine false mine is = (refl, is)

  other_inside : (m o : ForkTokens) (k : ℕ) → Looks m o k → is_load_node x (node k) ≡ false → (part : ForkPart) → fork_foot x n.is_net.classes k part ≡ true
      → fork_part_at (unforked o (fired_as x o.operations k (node k))) part ≡ fork_part_at (unforked m (fired_as x m.operations k (node k))) part
  other_inside m o k looks not_load (Stand line) mine =
      same_stand (fork_part_at (unforked o (fired_as x o.operations k (node k))) (Stand line)) (fork_part_at (unforked m (fired_as x m.operations k (node k))) (Stand line))
      ((feet ground x n facts).inside m.operations o.operations k (other_alike m o k looks not_load) (Token (Line line)) mine)
      ((feet ground x n facts).inside m.operations o.operations k (other_alike m o k looks not_load) (Passed line) (foot_passed k line (node k) ∙ mine))
      (ap (λ (v : StandValue). v.loaded) (stand_alike m o k line looks not_load mine))
  other_inside m o k looks not_load (Rest part) mine =
      rest_same (fired_as x o.operations k (node k)) (fired_as x m.operations k (node k)) part
      ((feet ground x n facts).inside m.operations o.operations k (other_alike m o k looks not_load) part ((rest_mine (tells_line part) (operation_foot x n.is_net.classes k part) mine).1))

  -- ---- loads

  -- the number of a node, and its name as a load
  record IsLoadNode (k : ℕ) : Type 0 where
    pub below : k < length (all_operation_nodes x)
    pub load : IsLoadNamed x (node k)
    pub named : IsOperationNamed x (Op load.piece load.number)

  load_node : (k : ℕ) → k < length (all_operation_nodes x) → is_load_node x (node k) ≡ true → IsLoadNode k
  load_node k below loads =
      let r : IsLoadNamed x (node k) = load_named x (node k) loads in
      record { below = below; load = r; named = subst (λ name. IsOperationNamed x name) r.is (operation_named x k below) }

  apart_names : (j k : ℕ) (a : IsLoadNode j) (b : IsLoadNode k) → (j ≡ k → ⊥) → ((a.load.piece ≡ b.load.piece) × (a.load.number ≡ b.load.number) → ⊥)
  apart_names j k a b differ same =
      differ (one_operation_number x j k a.below b.below (a.load.is ∙ ap (λ p. Op p a.load.number) same.0 ∙ ap (λ i. Op b.load.piece i) same.1 ∙ sym b.load.is))

  load_is_ready : (m : ForkTokens) (k : ℕ) (r : IsLoadNode k) → fork_ready_as x m k (node k) ≡ true → fork_ready_as x m k (Op r.load.piece r.load.number) ≡ true
  load_is_ready m k r ready = sym (ap (fork_ready_as x m k) r.load.is) ∙ ready

  load_foot : (k : ℕ) (r : IsLoadNode k) (part : OperationPart) (b : Bool) → operation_foot x n.is_net.classes k part ≡ b → foot_as x n.is_net.classes k (Op r.load.piece r.load.number) part ≡ b
  load_foot k r part b mine = sym (ap (λ name. foot_as x n.is_net.classes k name part) r.load.is) ∙ mine

  load_is_fired : (m : ForkTokens) (k : ℕ) (r : IsLoadNode k) → fork_fired_as x m k (node k) ≡ loaded_on x m r.load.piece r.load.number (fired_as x m.operations k (Op r.load.piece r.load.number))
  load_is_fired m k r = ap (fork_fired_as x m k) r.load.is ∙ load_fired x m k r.load.piece r.load.number r.load.loads

  -- a load is open on its lines
  open_on : (m : ForkTokens) (k line : ℕ) (r : IsLoadNode k) → fork_ready_as x m k (node k) ≡ true → operation_foot x n.is_net.classes k (Token (Line line)) ≡ true → IsOpen x line r.load.piece r.load.number (standing m line)
  open_on m k line r ready mine = opens ground x n.is_net facts.touched m k r.load.piece r.load.number line r.named r.load.loads (load_is_ready m k r ready) (load_foot k r (Token (Line line)) true mine)

  open_value : (m : ForkTokens) (k line : ℕ) (r : IsLoadNode k) → fork_ready_as x m k (node k) ≡ true → operation_foot x n.is_net.classes k (Token (Line line)) ≡ true → IsOpen x line r.load.piece r.load.number (standing_of (fork_part_at m (Stand line)))
  open_value m k line r ready mine = subst (λ s. IsOpen x line r.load.piece r.load.number s) (seen_standing m line) (open_on m k line r ready mine)

  shared_load : (k line : ℕ) → k < length (all_operation_nodes x) → fork_shares x n.is_net.classes k (Stand line) ≡ true → IsLoadNode k × (operation_foot x n.is_net.classes k (Token (Line line)) ≡ true)
  shared_load k line below shares =
      let both = and_parts (is_load_node x (node k)) (operation_foot x n.is_net.classes k (Token (Line line))) shares in
      (load_node k below both.0, both.1)

  -- it stays open where another load has fired
  opens_then : (m o : ForkTokens) (k line : ℕ) (r : IsLoadNode k) → Looks m o k → operation_foot x n.is_net.classes k (Token (Line line)) ≡ true → is_open x line r.load.piece r.load.number (standing o line) ≡ true
  opens_then m o k line r looks mine =
      ap (is_open x line r.load.piece r.load.number) (seen_standing o line)
      ∙ open_from x line r.load.piece r.load.number (standing_of (fork_part_at o (Stand line))) (by (looks.agree (Stand line) mine))
    where
      first : IsOpen x line r.load.piece r.load.number (standing_of (fork_part_at m (Stand line)))
      first = open_value m k line r looks.first.ready mine

      by : (fork_part_at o (Stand line) ≡ fork_part_at m (Stand line)) ⊎ IsUpdated (ForksCanCome x) (fork_moves x) fork_part_at (fork_shares x n.is_net.classes) (fork_update x) m o k (Stand line)
          → IsOpen x line r.load.piece r.load.number (standing_of (fork_part_at o (Stand line)))
      by (inl same) = subst (λ v. IsOpen x line r.load.piece r.load.number (standing_of v)) (sym same) first
      by (inr updated) =
          let q : IsLoadNode updated.other = (shared_load updated.other line updated.both.first.node updated.other_shares).0 in
          subst (λ v. IsOpen x line r.load.piece r.load.number (standing_of v)) (sym (updated.is ∙ ap (λ name. stand_read x line name (fork_part_at m (Stand line))) q.load.is))
          (value_open x line q.load.piece q.load.number r.load.piece r.load.number (fork_part_at m (Stand line)) (apart_names updated.other k q r updated.both.differ) first)

  load_alike : (m o : ForkTokens) (k : ℕ) (r : IsLoadNode k) → Looks m o k → RestAlike ground x n facts m o k (Op r.load.piece r.load.number)
  load_alike m o k r looks = subst (λ name. RestAlike ground x n facts m o k name) r.load.is (rest_alike m o k looks)

  -- ---- what the laws ask, node by node

  -- each node is a load or not
  abbrev either : {P : Type 0} (k : ℕ) → k < length (all_operation_nodes x) → (IsLoadNode k → P) → (is_load_node x (node k) ≡ false → P) → P
  either k below load other = ⊎_elim (λ (loads : is_load_node x (node k) ≡ true). load (load_node k below loads)) other (cases_Bool (is_load_node x (node k)))

  outside : (m : ForkTokens) (k : ℕ) → Ready m k → (part : ForkPart) → fork_foot x n.is_net.classes k part ≡ false → fork_part_at (fork_fired_as x m k (node k)) part ≡ fork_part_at m part
  outside m k ready part not_in = either k ready.node
      (λ r. ap (λ after. fork_part_at after part) (load_is_fired m k r)
      ∙ load_outside ground x n facts m k r.load.piece r.load.number r.named part (sym (ap (λ name. fork_foot_as x n.is_net.classes k name part) r.load.is) ∙ not_in))
      (λ not_load. ap (λ after. fork_part_at after part) (other_fired x m k (node k) not_load) ∙ other_outside m k ready not_load part not_in)

  updates : (m : ForkTokens) (k : ℕ) → Ready m k → (part : ForkPart) → fork_shares x n.is_net.classes k part ≡ true → fork_part_at (fork_fired_as x m k (node k)) part ≡ fork_update x k part (fork_part_at m part)
  updates m k ready (Stand line) shares =
      let s = shared_load k line ready.node shares in
      let r : IsLoadNode k = s.0 in
      ap (λ after. fork_part_at after (Stand line)) (load_is_fired m k r)
      ∙ load_stands ground x n facts m k r.load.piece r.load.number line r.named (load_foot k r (Token (Line line)) true s.1)
      ∙ ap (λ name. stand_read x line name (fork_part_at m (Stand line))) (sym r.load.is)
  updates m k ready (Rest part) shares =
      let both = and_parts (is_load_node x (node k)) (is_read part && operation_foot x n.is_net.classes k part) shares in
      let r : IsLoadNode k = load_node k ready.node both.0 in
      ap (λ after. fork_part_at after (Rest part)) (load_is_fired m k r)
      ∙ load_reads ground x n facts m k r.load.piece r.load.number r.load.loads part ((and_parts (is_read part) (operation_foot x n.is_net.classes k part) both.1).0)

  ready_then : (m o : ForkTokens) (k : ℕ) → Looks m o k → fork_ready_as x o k (node k) ≡ true
  ready_then m o k looks = either k looks.first.node
      (λ r. ap (fork_ready_as x o k) r.load.is
      ∙ load_ready_then ground x n facts m o k r.load.piece r.load.number r.named r.load.loads (load_alike m o k r looks)
      (λ line needs. opens_then m o k line r looks (ap (λ name. foot_as x n.is_net.classes k name (Token (Line line))) r.load.is ∙ needs))
      (load_is_ready m k r looks.first.ready))
      (λ not_load. other_ready x o k (node k) not_load ∙ (feet ground x n facts).ready m.operations o.operations k (other_alike m o k looks not_load))

  no_line : (m : OperationTokens) (k : ℕ) (r : IsLoadNode k) → line_as x m (node k) ≡ None
  no_line m k r =
      let done : IsLoadDone x m k r.load.piece r.load.number = load_done x m k r.load.piece r.load.number r.load.loads in
      ap (line_as x m) r.load.is ∙ ap text_written done.performs

  no_trap : (m : ForkTokens) (k : ℕ) (r : IsLoadNode k) → (fork_fired_as x m k (node k)).operations.tokens.trap ≡ m.operations.tokens.trap
  no_trap m k r =
      let done : IsLoadDone x m.operations k r.load.piece r.load.number = load_done x m.operations k r.load.piece r.load.number r.load.loads in
      ap (λ (after : ForkTokens). after.operations.tokens.trap) (load_is_fired m k r) ∙ ap (λ (after : OperationTokens). after.tokens.trap) done.is

  line_then : (m o : ForkTokens) (k : ℕ) → Looks m o k → line_as x o.operations (node k) ≡ line_as x m.operations (node k)
  line_then m o k looks = either k looks.first.node
      (λ r. no_line o.operations k r ∙ sym (no_line m.operations k r))
      (λ not_load. (feet ground x n facts).line m.operations o.operations k (other_alike m o k looks not_load))

  trap_then : (m o : ForkTokens) (k : ℕ) → Looks m o k → m.operations.tokens.trap ≡ None → o.operations.tokens.trap ≡ None → (fork_fired_as x o k (node k)).operations.tokens.trap ≡ (fork_fired_as x m k (node k)).operations.tokens.trap
  trap_then m o k looks going going_too = either k looks.first.node
      (λ r. no_trap o k r ∙ going_too ∙ sym going ∙ sym (no_trap m k r))
      (λ not_load.
      ap (λ (after : ForkTokens). after.operations.tokens.trap) (other_fired x o k (node k) not_load)
      ∙ (feet ground x n facts).trap m.operations o.operations k (other_alike m o k looks not_load) going going_too
      ∙ sym (ap (λ (after : ForkTokens). after.operations.tokens.trap) (other_fired x m k (node k) not_load)))

  load_inside : (m o : ForkTokens) (k : ℕ) (r : IsLoadNode k) → Looks m o k → (part : ForkPart) → fork_foot x n.is_net.classes k part ≡ true → fork_shares x n.is_net.classes k part ≡ false
      → fork_part_at (fork_fired_as x o k (node k)) part ≡ fork_part_at (fork_fired_as x m k (node k)) part
  load_inside m o k r looks (Stand line) mine own =
      both_ways (fork_shares x n.is_net.classes k (Stand line)) (and_from (is_load_node x (node k)) (operation_foot x n.is_net.classes k (Token (Line line))) (ap (is_load_node x) r.load.is ∙ r.load.loads) mine) own
  load_inside m o k r looks (Rest part) mine own =
      let has = rest_mine (tells_line part) (operation_foot x n.is_net.classes k part) mine in
      ap (λ after. fork_part_at after (Rest part)) (load_is_fired o k r)
      ∙ load_rest ground x n facts m o k r.load.piece r.load.number r.named (load_alike m o k r looks) part has.0 (load_foot k r part true has.1)
      ∙ sym (ap (λ after. fork_part_at after (Rest part)) (load_is_fired m k r))

  inside : (m o : ForkTokens) (k : ℕ) → Looks m o k → (part : ForkPart) → fork_foot x n.is_net.classes k part ≡ true → fork_shares x n.is_net.classes k part ≡ false
      → fork_part_at (fork_fired_as x o k (node k)) part ≡ fork_part_at (fork_fired_as x m k (node k)) part
  inside m o k looks part mine own = either k looks.first.node
      (λ r. load_inside m o k r looks part mine own)
      (λ not_load.
      ap (λ after. fork_part_at after part) (other_fired x o k (node k) not_load)
      ∙ other_inside m o k looks not_load part mine
      ∙ sym (ap (λ after. fork_part_at after part) (other_fired x m k (node k) not_load)))

  -- ---- what two nodes have in common

  abbrev Both : ForkTokens → (j k : ℕ) → Type 0
  Both m j k = AreReady (ForksCanCome x) (fork_moves x) m j k

  turned : (m : ForkTokens) (j k : ℕ) → Both m j k → Both m k j
  turned m j k both = record { is_sound = both.is_sound; differ = λ e. both.differ (sym e); first = both.second; second = both.first }

  two_names : (m : ForkTokens) (j k : ℕ) (r : IsLoadNode j) → Both m j k → AreTwo ground x n.is_net facts.touched m j k (Op r.load.piece r.load.number) (node k)
  two_names m j k r both = record {
    first = r.named;
    second = operation_named x k both.second.node;
    first_ready = load_is_ready m j r both.first.ready;
    second_ready = both.second.ready;
  }

  load_meets : {P : Type 0} (m : ForkTokens) (j k : ℕ) (r : IsLoadNode j) → Both m j k → is_load_node x (node k) ≡ false → (part : OperationPart) → operation_foot x n.is_net.classes j part ≡ true → operation_foot x n.is_net.classes k part ≡ true → P
  load_meets m j k r both not_load part mine theirs =
      load_and_other ground x n.is_net facts.touched m j k r.load.piece r.load.number (node k) part both.differ (two_names m j k r both) r.load.loads not_load (load_foot j r part true mine) theirs

  others_meet : {P : Type 0} (m : ForkTokens) (j k : ℕ) → Both m j k → is_load_node x (node j) ≡ false → is_load_node x (node k) ≡ false → (part : OperationPart) → operation_foot x n.is_net.classes j part ≡ true → operation_foot x n.is_net.classes k part ≡ true → P
  others_meet m j k both first second part mine theirs =
      both_ways (operation_foot x n.is_net.classes k part) theirs ((feet ground x n facts).apart m.operations j k (record {
        is_sound = operations_come m both.is_sound;
        differ = both.differ;
        first = record { going = both.first.going; node = both.first.node; ready = sym (other_ready x m j (node j) first) ∙ both.first.ready };
        second = record { going = both.second.going; node = both.second.node; ready = sym (other_ready x m k (node k) second) ∙ both.second.ready };
      }) part mine)

  -- only loads have a part in common
  common : {P : Type 0} (m : ForkTokens) (j k : ℕ) → Both m j k → (part : OperationPart) → operation_foot x n.is_net.classes j part ≡ true → operation_foot x n.is_net.classes k part ≡ true → (IsLoadNode j → IsLoadNode k → P) → P
  common m j k both part mine theirs loads = either j both.first.node
      (λ a. either k both.second.node (λ b. loads a b) (λ other. load_meets m j k a both other part mine theirs))
      (λ first. either k both.second.node (λ b. load_meets m k j b (turned m j k both) first part theirs mine) (λ second. others_meet m j k both first second part mine theirs))

  is_loading : (k : ℕ) → IsLoadNode k → is_load_node x (node k) ≡ true
  is_loading k r = ap (is_load_node x) r.load.is ∙ r.load.loads

  loads_read : (m : ForkTokens) (j k : ℕ) (a : IsLoadNode j) (b : IsLoadNode k) → Both m j k → (part : OperationPart) → tells_line part ≡ false → operation_foot x n.is_net.classes j part ≡ true → operation_foot x n.is_net.classes k part ≡ true → is_read part ≡ true
  loads_read m j k a b both part not mine theirs =
      two_loads ground x n.is_net facts.touched m j k a.load.piece a.load.number b.load.piece b.load.number part both.differ
      (λ same. both.differ (one_operation_number x j k a.below b.below (a.load.is ∙ same ∙ sym b.load.is)))
      (record { first = a.named; second = b.named; first_ready = load_is_ready m j a both.first.ready; second_ready = load_is_ready m k b both.second.ready })
      b.load.loads (silent_load ground x n facts b.load.piece b.load.number b.named b.load.loads) not (load_foot j a part true mine) (load_foot k b part true theirs)

  apart : (m : ForkTokens) (j k : ℕ) → Both m j k → (part : ForkPart) → fork_foot x n.is_net.classes j part ≡ true → fork_foot x n.is_net.classes k part ≡ true → fork_shares x n.is_net.classes k part ≡ true
  apart m j k both (Stand line) mine theirs =
      common m j k both (Token (Line line)) mine theirs (λ a b. and_from (is_load_node x (node k)) (operation_foot x n.is_net.classes k (Token (Line line))) (is_loading k b) theirs)
  apart m j k both (Rest part) mine theirs =
      let first = rest_mine (tells_line part) (operation_foot x n.is_net.classes j part) mine in
      let second = rest_mine (tells_line part) (operation_foot x n.is_net.classes k part) theirs in
      common m j k both part first.1 second.1
      (λ a b. and_from (is_load_node x (node k)) (is_read part && operation_foot x n.is_net.classes k part) (is_loading k b)
      (and_from (is_read part) (operation_foot x n.is_net.classes k part) (loads_read m j k a b both part first.0 first.1 second.1) second.1))

  commute : (m : ForkTokens) (j k : ℕ) → Both m j k → (part : ForkPart) → fork_shares x n.is_net.classes j part ≡ true → fork_shares x n.is_net.classes k part ≡ true
      → fork_update x j part (fork_update x k part (fork_part_at m part)) ≡ fork_update x k part (fork_update x j part (fork_part_at m part))
  commute m j k both (Rest part) first second = refl
  commute m j k both (Stand line) first second =
      let a = shared_load j line both.first.node first in
      let b = shared_load k line both.second.node second in
      let p : IsLoadNode j = a.0 in
      let q : IsLoadNode k = b.0 in
      let v : StandValue = fork_part_at m (Stand line) in
      ap (λ name. stand_read x line name (stand_read x line (node k) v)) p.load.is
      ∙ ap (λ name. stand_read x line (Op p.load.piece p.load.number) (stand_read x line name v)) q.load.is
      ∙ reads_commute x line p.load.piece p.load.number q.load.piece q.load.number v (apart_names j k p q both.differ) (open_value m j line p both.first.ready a.1) (open_value m k line q both.second.ready b.1)
      ∙ ap (λ name. stand_read x line (Op q.load.piece q.load.number) (stand_read x line name v)) (sym p.load.is)
      ∙ ap (λ name. stand_read x line name (stand_read x line (node j) v)) (sym q.load.is)

  -- ---- silence, and markings that can come

  -- a load that needed the line of output would share it
  alone : (k : ℕ) → (fork_moves x).serial k ≡ true → fork_shares x n.is_net.classes k (Stand 0) ≡ false
  alone k serial = ⊎_elim
      (λ (below : k < length (all_operation_nodes x)). either k below
      (λ r. both_ways (x.needs r.load.piece r.load.number 0) (load_foot k r (Token (Line 0)) true (serial_foot x n.is_net.classes k (node k) serial)) (silent_load ground x n facts r.load.piece r.load.number r.named r.load.loads))
      (λ not_load. ap (λ b. b && operation_foot x n.is_net.classes k (Token (Line 0))) not_load))
      (λ past. ap (λ name. fork_shares_as x n.is_net.classes k name (Stand 0)) (no_node k past))
      (below_or_not k (length (all_operation_nodes x)))
    where
      no_node : (k : ℕ) → length (all_operation_nodes x) ≤ k → node k ≡ Act 0
      no_node k past = ap name_in (get_none (all_operation_nodes x) k past)

  silent : (m : ForkTokens) (k : ℕ) → ForksCanCome x m → CanFire (fork_moves x) m k → (fork_moves x).serial k ≡ false → IsSilent (fork_moves x) m k
  silent m k comes can_fire not_serial = either k can_fire.node
      (λ r. record { line = no_line m.operations k r; trap = no_trap m k r ∙ can_fire.going })
      (λ not_load.
      let s = (feet ground x n facts).silent m.operations k (operations_come m comes) (record { going = can_fire.going; node = can_fire.node; ready = sym (other_ready x m k (node k) not_load) ∙ can_fire.ready }) not_serial in
      record { line = s.line; trap = ap (λ (after : ForkTokens). after.operations.tokens.trap) (other_fired x m k (node k) not_load) ∙ s.trap })

  comes_after : (m : ForkTokens) (k : ℕ) → ForksCanCome x m → CanFire (fork_moves x) m k → ForksCanCome x (fork_fired_as x m k (node k))
  comes_after m k comes can_fire = either k can_fire.node
      (λ r.
      let done : IsOperationMarking x (fired_as x m.operations k (Op r.load.piece r.load.number)) =
      fired_marking ground x n.is_net m.operations k (Op r.load.piece r.load.number) r.named (framed ground x n facts m.operations r.load.piece r.load.number r.named) comes.is_marking in
      subst (λ after. ForksCanCome x after) (sym (load_is_fired m k r))
      (record { ground = comes.ground; is_net = comes.is_net; is_marking = loaded_marking ground x n.is_net m r.load.piece r.load.number (fired_as x m.operations k (Op r.load.piece r.load.number)) comes.is_marking done }))
      (λ not_load.
      let s = (feet ground x n facts).stays_sound m.operations k (operations_come m comes) (record { going = can_fire.going; node = can_fire.node; ready = sym (other_ready x m k (node k) not_load) ∙ can_fire.ready }) in
      subst (λ after. ForksCanCome x after) (sym (other_fired x m k (node k) not_load)) (record { ground = comes.ground; is_net = comes.is_net; is_marking = s.is_marking }))

  pub forks_footed : SharesFootprints (ForksCanCome x) (fork_moves x) fork_part_at (fork_foot x n.is_net.classes) (fork_shares x n.is_net.classes) (fork_update x)
  forks_footed = record {
    equal = equal_forks (feet ground x n facts).equal;
    outside = outside;
    updates = updates;
    ready = ready_then;
    line = line_then;
    trap = trap_then;
    inside = inside;
    apart = apart;
    commute = commute;
    output = Stand 0;
    serial = λ k serial. serial_foot x n.is_net.classes k (node k) serial;
    alone = alone;
    silent = silent;
    stays_sound = comes_after;
  }

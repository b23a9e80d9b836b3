-- A firing makes no other nodes ready than those before which the lines that it moved stand now, and those that it freed.
use Rattle.std.proofs.Common.{◌≡◌, ◌≢◌, ◌<◌, ◌⊎◌, inl, inr, ⊎_elim, ℕ, ◌&&◌, ◌==◌, Bool, true, false, not, List, [], ◌∷◌, length, Contains, Option, Some, None, is_some, refl, sym, ap, ◌∙◌, subst, arith}
use Rattle.std.specs.List.{list_all}
use Rattle.std.proofs.lemmas.Bool.{cases_Bool, eqb-true, eq-eqb}
use Rattle.closed_walks.specs.Graph.{to}
use Rattle.alias_classes.specs.Classes.{ClassTable}
use Rattle.firing.specs.declared.system.NodeName.{NodeName}
use Rattle.firing.specs.declared.system.NodeName.TheVariants.{Act, Merge, Switch, Op}
use Rattle.firing.specs.Footprints.{IsReadyAt, HasFootprints}
use Rattle.firing.specs.Marks.{Wakes}
use Rattle.firing.specs.Moves.{CanFire}
use Rattle.net_board.specs.SoundNets.{IsNet, CanCome}
use Rattle.net_board.specs.Footprints.{Line, Left, at, foot_as, foot}
use Rattle.net_board.specs.ProgramFacts.{ProgramFacts}
use Rattle.list_laws.specs.Member.{Member}
use Rattle.net_board.specs.Nodes.{NetOf, graph_in, all_lines, touched, nodes_of, node_at, first_node, switches}
use Rattle.net_board.specs.Tokens.{Tokens, joined, edge_of, left_for, leads_to, is_before, ready_as, fired_as, net_moves}
use Rattle.net_board.specs.WithinPiece.{moved_by}
use Rattle.net_board.specs.WokenNodes.{place_of, HasNext, waiting_for, IsWoken}
use Rattle.list_laws.proofs.Members.{Member-filtered, Member-in_range, IsPassed, member_of_list_any}
use Rattle.net_board.proofs.FiringLaws.{footed}
use Rattle.net_board.proofs.NodeLaws.{piece_of, is_touched, one_number, IsNamed, named, IsSwitch, switch_is}
use Rattle.net_board.proofs.ListPlaces.{all_pass, same_tests}
use Rattle.net_board.proofs.NodeNumbers.{act_is_first, act_place, switch_is_at, merge_is_at}
use Rattle.std.proofs.lemmas.Bool.{and_parts}

both_ways : {P : Type 0} (b : Bool) → b ≡ true → b ≡ false → P
both_ways b yes' no' = let e : true ≡ false = sym yes' ∙ no' in absurd cc

-- one passes the test, or none does
search_all : {X : Type 0} (test : X → Bool) (xs : List X) → IsPassed test xs ⊎ ((x : X) → Member xs x → test x ≡ false)
search_all test [] = inr (λ x m. absurd m)
search_all test (y ∷ ys) = by (cases_Bool (test y)) (search_all test ys)
  where
    by : (test y ≡ true) ⊎ (test y ≡ false) → IsPassed test ys ⊎ ((x : _) → Member ys x → test x ≡ false) → IsPassed test (y ∷ ys) ⊎ ((x : _) → Member (y ∷ ys) x → test x ≡ false)
    by (inl here) rest = inl (record { one = y; among = inl refl; passes = here })
    by (inr none) (inl found) = inl (record { one = found.one; among = inr found.among; passes = found.passes })
    by (inr none) (inr others) = inr (λ x m. ⊎_elim (λ (e : y ≡ x). ap test (sym e) ∙ none) (λ (r : Member ys x). others x r) m)

-- the line goes through the node
abbrev takes : NetOf → NodeName → (line : ℕ) → Bool
takes net (Act piece) line = net.touches piece line
takes net (Switch piece own) line = own == line
takes net (Merge piece own) line = own == line
takes net (Op piece i) line = false

-- a line has its place at the piece of a node that it goes through
has_place : (net : NetOf) (k line : ℕ) (name : NodeName) → k < length (nodes_of net) → node_at net k ≡ name → takes net name line ≡ true → place_of net (piece_of name) line ≡ k
has_place net k line (Act piece) below is mine = act_place net k piece line below is mine
has_place net k line (Switch piece own) below is mine = ap (place_of net piece) (sym (eqb-true own line mine)) ∙ switch_is_at net k piece own below is
has_place net k line (Merge piece own) below is mine = ap (place_of net piece) (sym (eqb-true own line mine)) ∙ merge_is_at net k piece own below is
has_place net k line (Op piece i) below is mine = absurd cc

foot_line : (net : NetOf) (c : ClassTable) (k : ℕ) (name : NodeName) (line : ℕ) → foot_as net c k name (Line line) ≡ takes net name line
foot_line net c k (Act piece) line = refl
foot_line net c k (Switch piece own) line = refl
foot_line net c k (Merge piece own) line = refl
foot_line net c k (Op piece i) line = refl

moves_it : (net : NetOf) (name : NodeName) (line : ℕ) → line < net.routing.lines → takes net name line ≡ true → Member (moved_by net name) line
moves_it net (Act piece) line below is = is_touched net piece line below is
moves_it net (Switch piece own) line below is = inl (eqb-true own line is)
moves_it net (Merge piece own) line below is = inl (eqb-true own line is)
moves_it net (Op piece i) line below is = absurd cc

module _ (ground : ProgramFacts) (net : NetOf) (is : IsNet net) (m : Tokens) (k : ℕ) (ready : IsReadyAt (CanCome net) (net_moves net) m k) (woken : List ℕ) (are : IsWoken net (fired_as net m k (node_at net k)) (node_at net k) woken) where
  abbrev n : Tokens
  n = fired_as net m k (node_at net k)

  feet : HasFootprints (CanCome net) (net_moves net) at (foot net is.classes)
  feet = footed ground net is

  -- what the firing doesn't change
  same_before : (piece line : ℕ) → takes net (node_at net k) line ≡ false → is_before net n piece line ≡ is_before net m piece line
  same_before piece line apart =
      ap (λ o. leads_to (graph_in net) piece (joined o)) (feet.outside m k ready (Line line) (foot_line net is.classes k (node_at net k) line ∙ apart))

  same_left : (node : ℕ) → foot_as net is.classes k (node_at net k) (Left node) ≡ false → left_for n node ≡ left_for m node
  same_left node apart = ap joined (feet.outside m k ready (Left node) apart)

  by_line : (j line : ℕ) → j < length (nodes_of net) → line < net.routing.lines → takes net (node_at net j) line ≡ true → is_before net n (piece_of (node_at net j)) line ≡ true → takes net (node_at net k) line ≡ true → Contains woken j
  by_line j line below inside mine stands moved =
      next (edge_of n line) (are.lines line (moves_it net (node_at net k) line inside moved)) stands
    where
      next : (o : Option ℕ) → HasNext net woken line o → leads_to (graph_in net) (piece_of (node_at net j)) o ≡ true → Contains woken j
      next None has stands = absurd cc
      next (Some edge) has stands =
          let there : place_of net (to (graph_in net) edge) line ≡ j = ap (λ p. place_of net p line) (eqb-true (to (graph_in net) edge) (piece_of (node_at net j)) stands) ∙ has_place net j line (node_at net j) below refl mine in
          subst (λ i. Contains woken i) there (has (subst (λ i. i < length (nodes_of net)) (sym there) below))

  abbrev IsNew : ℕ → NodeName → Type 0
  IsNew j b = (ready_as net m j b ≡ false) × (ready_as net n j b ≡ true)

  -- a node that one line goes through
  alone : (j piece line : ℕ) → j < length (nodes_of net) → line < net.routing.lines → takes net (node_at net j) line ≡ true → piece_of (node_at net j) ≡ piece → is_before net n piece line ≡ true → (is_before net n piece line ≡ is_before net m piece line → Contains woken j) → Contains woken j
  alone j piece line below inside mine at_piece stands same = ⊎_elim
      (λ (moved : takes net (node_at net k) line ≡ true). by_line j line below inside mine (subst (λ p. is_before net n p line ≡ true) (sym at_piece) stands) moved)
      (λ (apart : takes net (node_at net k) line ≡ false). same (same_before piece line apart))
      (cases_Bool (takes net (node_at net k) line))

  merge : (j piece line : ℕ) → j < length (nodes_of net) → node_at net j ≡ Merge piece line → IsNew j (Merge piece line) → Contains woken j
  merge j piece line below name new =
      let own : IsNamed net (Merge piece line) = subst (λ a. IsNamed net a) name (named net j below) in
      alone j piece line below own.fits.2 (ap (λ a. takes net a line) name ∙ eq-eqb line line refl) (ap piece_of name) new.1 (λ same. both_ways (is_before net m piece line) (sym same ∙ new.1) new.0)

  -- an edge is left for the switch j
  freed_switch : (j : ℕ) (a : NodeName) → j ≢ k → node_at net k ≡ a → foot_as net is.classes k a (Left j) ≡ true → Contains woken j
  freed_switch j (Act piece) differ name mine =
      let r : IsPassed (λ switch. switch == j) (switches net piece) = member_of_list_any (λ switch. switch == j) (switches net piece) mine in
      let among : Member (waiting_for net (Act piece)) j = subst (λ i. Member (switches net piece) i) (eqb-true r.one j r.passes) r.among in
      are.nodes j (subst (λ b. Member (waiting_for net b) j) (sym name) among)
  freed_switch j (Switch piece line) differ name mine = absurd (differ (sym (eqb-true k j mine)))
  freed_switch j (Merge piece line) differ name mine = absurd cc
  freed_switch j (Op piece i) differ name mine = absurd cc

  switch : (j piece line : ℕ) → j < length (nodes_of net) → j ≢ k → node_at net j ≡ Switch piece line → IsNew j (Switch piece line) → Contains woken j
  switch j piece line below differ name new =
      let own : IsNamed net (Switch piece line) = subst (λ a. IsNamed net a) name (named net j below) in
      let stands : is_before net n piece line ≡ true = (and_parts (is_before net n piece line) (is_some (left_for n j)) new.1).0 in
      let full : is_some (left_for n j) ≡ true = (and_parts (is_before net n piece line) (is_some (left_for n j)) new.1).1 in
      alone j piece line below own.fits.2 (ap (λ a. takes net a line) name ∙ eq-eqb line line refl) (ap piece_of name) stands
      (λ same. ⊎_elim
      (λ (mine : foot_as net is.classes k (node_at net k) (Left j) ≡ true). freed_switch j (node_at net k) differ refl mine)
      (λ (apart : foot_as net is.classes k (node_at net k) (Left j) ≡ false).
      both_ways (is_before net m piece line && is_some (left_for m j))
      (ap (λ b. b && is_some (left_for m j)) (sym same ∙ stands) ∙ ap is_some (sym (same_left j apart)) ∙ full) new.0)
      (cases_Bool (foot_as net is.classes k (node_at net k) (Left j))))

  -- the edge that was left for one of the switches of a piece is taken
  freed_act : (j piece node : ℕ) (a : NodeName) → j < length (nodes_of net) → j ≢ k → node_at net j ≡ Act piece → Member (switches net piece) node → node_at net k ≡ a → foot_as net is.classes k a (Left node) ≡ true → Contains woken j
  freed_act j piece node (Act other) below differ name own is_a mine =
      let r : IsPassed (λ switch. switch == node) (switches net other) = member_of_list_any (λ switch. switch == node) (switches net other) mine in
      let theirs : Member (switches net other) node = subst (λ i. Member (switches net other) i) (eqb-true r.one node r.passes) r.among in
      let there : IsNamed net (Act other) = subst (λ a. IsNamed net a) is_a (named net k ready.node) in
      let here : IsNamed net (Act piece) = subst (λ a. IsNamed net a) name (named net j below) in
      let s : IsSwitch net piece node = switch_is net piece node here.exists own in
      let t : IsSwitch net other node = switch_is net other node there.exists theirs in
      let same : piece ≡ other = ap piece_of (sym s.is ∙ t.is) in
      absurd (differ (one_number net j k below ready.node (name ∙ ap (λ p. Act p) same ∙ sym is_a)))
  freed_act j piece node (Switch other line) below differ name own is_a mine =
      let here : IsNamed net (Act piece) = subst (λ a. IsNamed net a) name (named net j below) in
      let s : IsSwitch net piece node = switch_is net piece node here.exists own in
      let same : piece ≡ other = ap piece_of (sym s.is ∙ ap (node_at net) (sym (eqb-true k node mine)) ∙ is_a) in
      let first : first_node net other ≡ j = ap (first_node net) (sym same) ∙ act_is_first net piece j below name in
      are.nodes j (subst (λ b. Member (waiting_for net b) j) (sym is_a) (inl first))
  freed_act j piece node (Merge other line) below differ name own is_a mine = absurd cc
  freed_act j piece node (Op other i) below differ name own is_a mine = absurd cc

  act : (j piece : ℕ) → j < length (nodes_of net) → j ≢ k → node_at net j ≡ Act piece → IsNew j (Act piece) → Contains woken j
  act j piece below differ name new = by (search_all (takes net (node_at net k)) (touched net piece)) (search_all (λ node. foot_as net is.classes k (node_at net k) (Left node)) (switches net piece))
    where
      stand : list_all (is_before net n piece) (touched net piece) ≡ true
      stand = (and_parts (list_all (is_before net n piece) (touched net piece)) (list_all (λ node. not (is_some (left_for n node))) (switches net piece)) new.1).0

      clear : list_all (λ node. not (is_some (left_for n node))) (switches net piece) ≡ true
      clear = (and_parts (list_all (is_before net n piece) (touched net piece)) (list_all (λ node. not (is_some (left_for n node))) (switches net piece)) new.1).1

      by : IsPassed (takes net (node_at net k)) (touched net piece) ⊎ ((line : ℕ) → Member (touched net piece) line → takes net (node_at net k) line ≡ false)
          → IsPassed (λ node. foot_as net is.classes k (node_at net k) (Left node)) (switches net piece) ⊎ ((node : ℕ) → Member (switches net piece) node → foot_as net is.classes k (node_at net k) (Left node) ≡ false)
          → Contains woken j
      by (inl moved) rest =
          let f = Member-filtered (net.touches piece) (all_lines net) moved.one moved.among in
          let r = Member-in_range 0 net.routing.lines moved.one f.0 in
          let high = r.1 in
          by_line j moved.one below (omega (arith, high)) (ap (λ a. takes net a moved.one) name ∙ f.1)
          (ap (λ a. is_before net n (piece_of a) moved.one) name ∙ all_pass (is_before net n piece) (touched net piece) moved.one stand moved.among) moved.passes
      by (inr none) (inl freed) = freed_act j piece freed.one (node_at net k) below differ name freed.among refl freed.passes
      by (inr none) (inr kept) =
          let lines = same_tests (is_before net n piece) (is_before net m piece) (touched net piece) (λ line t. same_before piece line (none line t)) in
          let lefts = same_tests (λ node. not (is_some (left_for n node))) (λ node. not (is_some (left_for m node))) (switches net piece) (λ node t. ap (λ o. not (is_some o)) (same_left node (kept node t))) in
          both_ways (list_all (is_before net m piece) (touched net piece) && list_all (λ node. not (is_some (left_for m node))) (switches net piece))
          (ap (λ b. b && list_all (λ node. not (is_some (left_for m node))) (switches net piece)) (sym lines ∙ stand) ∙ sym lefts ∙ clear) new.0

  each : (j : ℕ) (b : NodeName) → j < length (nodes_of net) → j ≢ k → node_at net j ≡ b → IsNew j b → Contains woken j
  each j (Act piece) below differ name new = act j piece below differ name new
  each j (Switch piece line) below differ name new = switch j piece line below differ name new
  each j (Merge piece line) below differ name new = merge j piece line below name new
  each j (Op piece i) below differ name new = absurd (let e : false ≡ true = new.1 in cc)

  wakes_by : Wakes (net_moves net) m k woken
  wakes_by = record { are_nodes = are.are_nodes; all = λ none j below differ not_ready is_ready. each j (node_at net j) below differ refl (not_ready, is_ready) }

-- such a list wakes the nodes that the firing can have made ready
pub wakes : (net : NetOf) (m : Tokens) (k : ℕ) (woken : List ℕ) → CanCome net m → CanFire (net_moves net) m k → IsWoken net (fired_as net m k (node_at net k)) (node_at net k) woken → Wakes (net_moves net) m k woken
wakes net m k woken comes can are = wakes_by comes.ground net comes.is_net m k (record { is_sound = comes; node = can.node; ready = can.ready }) woken are

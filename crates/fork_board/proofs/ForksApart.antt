-- Two different nodes that are ready have no part of the marking in common but what loads share.
use Rattle.std.proofs.Common.{◌≡◌, ◌<◌, ◌⊎◌, inl, inr, ⊎_elim, ℕ, ◌+◌, ◌==◌, ◌&&◌, ◌||◌, Bool, true, false, not, List, length, Some, is_some, refl, sym, ap, ◌∙◌, subst, eqb-true, arith}
use Rattle.std.specs.List.{list_all}
use Rattle.std.proofs.lemmas.Bool.{and_parts}
use Rattle.alias_classes.specs.Classes.{class_of_word, class_of_loop}
use Rattle.closed_walks.specs.Graph.{to}
use Rattle.cfg_build.specs.declared.pieces.PieceKind.{PieceKind}
use Rattle.cfg_build.specs.declared.pieces.PieceKind.TheVariants as kind
use Rattle.f77_tree.specs.declared.programs.ExecKind.{ExecKind}
use Rattle.f77_tree.specs.declared.programs.NameInfo.{NameInfo}
use Rattle.dep_routing.specs.Touches.{exec_kind}
use Rattle.firing.specs.declared.system.NodeName.{NodeName}
use Rattle.firing.specs.declared.system.NodeName.TheVariants.{Act, Merge, Switch, Op}
use Rattle.list_laws.specs.Member.{Member}
use Rattle.net_board.specs.Footprints.{Line, Left, Word, Count, StepOf, Taken, Trap, is_switch}
use Rattle.net_board.specs.Nodes.{graph_in, is_acting, kind_in}
use Rattle.net_board.specs.ProgramFacts.{ProgramFacts}
use Rattle.net_board.specs.SoundNets.{IsNet}
use Rattle.net_board.specs.Tokens.{edge_of, is_before, leads_to}
use Rattle.net_board.proofs.FiringLaws.{touched_line}
use Rattle.net_board.proofs.ListPlaces.{all_pass}
use Rattle.op_board.specs.Operations.{Work, Load, Operate, Store, Take, Write, Begin, Advance, DecideTruth, DecideSign, DecideNumber, DecideTrips, DecideFirst, From, is_decision, operations_of}
use Rattle.op_board.specs.OperationFootprints.{OperationPart, Token, Passed, Given, foot_as, is_giver}
use Rattle.op_board.specs.OperationNets.{OperationNet, first_operation, needed, needing_before, operation_at, operation_count}
use Rattle.op_board.specs.OperationTokens.{has_room, is_given, passed_by, ready_as, stands_before, value_at}
use Rattle.op_board.proofs.NeededLines.{needed_in}
use Rattle.op_board.proofs.OperationNumbers.{IsOperationNamed}
use Rattle.op_board.proofs.OperationsApart.{AreNeedsTouched, IsTaker, before, belongs, line_of, passed_is, same_place, same_taker, taker, untouched}
use Rattle.fork_board.specs.LoadGroups.{is_load, spot}
use Rattle.fork_board.specs.ForkTokens.{ForkTokens, fork_ready_as, is_load_node, is_open, standing}
use Rattle.fork_board.specs.ForkFootprints.{is_read, tells_line}
use Rattle.fork_board.proofs.ForkLines.{IsOpen, opened}
use Rattle.fork_board.proofs.ForkNodes.{load_ready, other_ready}
use Rattle.fork_board.proofs.LoadSpots.{HasLoad, IsNumberAt, has_load, number_is}

three_parts : (a b d : Bool) → (a && b && d) ≡ true → (a ≡ true) × (b ≡ true) × (d ≡ true)
three_parts true true true is = (refl, refl, refl)
three_parts true true false is = absurd cc
three_parts true false d is = absurd cc
three_parts false b d is = absurd cc

both_ways : {P : Type 0} (b : Bool) → b ≡ true → b ≡ false → P
both_ways b yes' no' = let e : true ≡ false = sym yes' ∙ no' in absurd cc

-- a piece with operations acts, branches or holds
pub acting_with : (names : List NameInfo) (k : PieceKind) (exec : ExecKind) (i : ℕ) → i < length (operations_of names k exec) → is_acting k ≡ true
acting_with names kind.Act exec i below = refl
acting_with names kind.Branch exec i below = refl
acting_with names kind.Hold exec i below = refl
acting_with names kind.Join exec i below = let none : i < 0 = below in absurd (omega (arith, none))
acting_with names kind.End exec i below = let none : i < 0 = below in absurd (omega (arith, none))
acting_with names kind.Start exec i below = let none : i < 0 = below in absurd (omega (arith, none))
acting_with names kind.Pass exec i below = let none : i < 0 = below in absurd (omega (arith, none))

pub record IsReadyLoad (x : OperationNet) (m : ForkTokens) (k piece i : ℕ) : Type 0 where
  pub lines : list_all (λ line. is_open x line piece i (standing m line)) (needed x piece i) ≡ true
  pub given : list_all (is_given x m.operations piece) (operation_at x piece i).operands ≡ true
  pub empty : not (is_some (value_at m.operations k)) ≡ true

pub ready_load : (x : OperationNet) (m : ForkTokens) (k piece i : ℕ) → is_load (operation_at x piece i).work ≡ true → fork_ready_as x m k (Op piece i) ≡ true → IsReadyLoad x m k piece i
ready_load x m k piece i loads ready =
    let parts = three_parts (list_all (λ line. is_open x line piece i (standing m line)) (needed x piece i)) (list_all (is_given x m.operations piece) (operation_at x piece i).operands) (not (is_some (value_at m.operations k))) (sym (load_ready x m k piece i loads) ∙ ready) in
    record { lines = parts.0; given = parts.1; empty = parts.2 }

module _ (ground : ProgramFacts) (x : OperationNet) (is : IsNet x.net) (touched : AreNeedsTouched x) where
  pub needed_line : (piece i line : ℕ) → IsOperationNamed x (Op piece i) → x.needs piece i line ≡ true → Member (needed x piece i) line
  needed_line piece i line named needs = needed_in x piece i line (touched_line ground x.net is piece line named.exists (touched piece i line named.exists named.fits.2 needs)) needs

  -- a load that is ready is stood on the lines that it needs
  pub opens : (m : ForkTokens) (k piece i line : ℕ) → IsOperationNamed x (Op piece i) → is_load (operation_at x piece i).work ≡ true → fork_ready_as x m k (Op piece i) ≡ true → x.needs piece i line ≡ true → IsOpen x line piece i (standing m line)
  opens m k piece i line named loads ready needs =
      opened x line piece i (standing m line)
      (all_pass (λ line. is_open x line piece i (standing m line)) (needed x piece i) line ((ready_load x m k piece i loads ready).lines) (needed_line piece i line named needs))

  -- ---- a load and another node need no line both

  -- the first load of the group before which the line stands
  pub record IsFirst (m : ForkTokens) (line : ℕ) : Type 0 where
    pub edge : ℕ
    pub stands : edge_of m.operations.tokens line ≡ Some edge
    pub number : ℕ
    pub at : IsNumberAt x line (spot edge (passed_by m.operations line)) number
    pub loads : is_load (operation_at x (to (graph_in x.net) edge) number).work ≡ true

  pub first_load : (m : ForkTokens) (piece i line : ℕ) → IsOpen x line piece i (standing m line) → IsFirst m line
  first_load m piece i line stood =
      let r : HasLoad x line (spot stood.edge (passed_by m.operations line)) = has_load x line _ (spot stood.edge (passed_by m.operations line)) piece i stood.among in
      record { edge = stood.edge; stands = stood.stands; number = r.number; at = number_is x line (spot stood.edge (passed_by m.operations line)) r.number r.at; loads = r.loads }

  -- the line stands before a piece, so that is the piece of the first load
  first_piece : (m : ForkTokens) (line piece : ℕ) (f : IsFirst m line) → is_before x.net m.operations.tokens piece line ≡ true → to (graph_in x.net) f.edge ≡ piece
  first_piece m line piece f stands = eqb-true (to (graph_in x.net) f.edge) piece (sym (ap (leads_to (graph_in x.net) piece) f.stands) ∙ stands)

  pub meet : {P : Type 0} (m : ForkTokens) (k line : ℕ) (name : NodeName) → IsFirst m line → IsOperationNamed x name → is_load_node x name ≡ false → ready_as x m.operations k name ≡ true → foot_as x is.classes k name (Token (Line line)) ≡ true → P
  meet m k line (Op piece i) f named not_load ready mine =
      let at : to (graph_in x.net) f.edge ≡ piece = first_piece m line piece f (before ground x is touched m.operations k (Op piece i) line named ready mine) in
      let count : needing_before x piece f.number line ≡ needing_before x piece i line =
      ap (λ p. needing_before x p f.number line) (sym at) ∙ f.at.before ∙ passed_is ground x is touched m.operations k piece i line named ready mine in
      let needs : x.needs piece f.number line ≡ true = subst (λ p. x.needs p f.number line ≡ true) at f.at.needs in
      let same : f.number ≡ i = same_place ground x is touched piece f.number i line needs mine count in
      let loads : is_load (operation_at x piece i).work ≡ true = subst (λ n. is_load (operation_at x piece n).work ≡ true) same (subst (λ p. is_load (operation_at x p f.number).work ≡ true) at f.loads) in
      both_ways (is_load (operation_at x piece i).work) loads not_load
  meet m k line (Switch piece own) f named not_load ready mine =
      let at : to (graph_in x.net) f.edge ≡ piece = first_piece m line piece f (before ground x is touched m.operations k (Switch piece own) line named ready mine) in
      let needs : x.needs piece f.number line ≡ true = subst (λ p. x.needs p f.number line ≡ true) at f.at.needs in
      let below : f.number < operation_count x piece = subst (λ p. f.number < operation_count x p) at f.at.below in
      untouched ground x is touched piece f.number own line (record { exists = named.exists; fits = (refl, named.fits.1, below) }) named.fits.2 needs mine
  meet m k line (Merge piece own) f named not_load ready mine =
      let at : to (graph_in x.net) f.edge ≡ piece = first_piece m line piece f (before ground x is touched m.operations k (Merge piece own) line named ready mine) in
      let below : f.number < operation_count x piece = subst (λ p. f.number < operation_count x p) at f.at.below in
      both_ways (is_acting (kind_in x.net piece)) (acting_with x.net.program.names (kind_in x.net piece) (exec_kind x.net.program piece) f.number below) named.fits.1
  meet m k line (Act piece) f named not_load ready mine = absurd named.fits

  -- ---- a load and another node have no value both

  -- a load is ready where its value was taken, and an operation where its operands are there
  record HasValues (m : ForkTokens) (k piece i : ℕ) : Type 0 where
    pub given : list_all (is_given x m.operations piece) (operation_at x piece i).operands ≡ true
    pub empty : not (is_some (value_at m.operations k)) ≡ true

  pub four_parts : (a b d e : Bool) → (a && b && d && e) ≡ true → (b ≡ true) × (d ≡ true)
  four_parts true true true e all = (refl, refl)
  four_parts true true false e all = absurd cc
  four_parts true false d e all = absurd cc
  four_parts false b d e all = absurd cc

  has_values : (m : ForkTokens) (k piece i : ℕ) → fork_ready_as x m k (Op piece i) ≡ true → HasValues m k piece i
  has_values m k piece i ready = by (is_load (operation_at x piece i).work) refl
    where
      by : (b : Bool) → is_load (operation_at x piece i).work ≡ b → HasValues m k piece i
      by true loads = let r : IsReadyLoad x m k piece i = ready_load x m k piece i loads ready in record { given = r.given; empty = r.empty }
      by false loads =
          let parts = four_parts (list_all (stands_before x m.operations piece i) (needed x piece i)) (list_all (is_given x m.operations piece) (operation_at x piece i).operands) (not (is_some (value_at m.operations k))) (has_room x m.operations piece (operation_at x piece i).work) (sym (other_ready x m k (Op piece i) loads) ∙ ready) in
          record { given = parts.0; empty = parts.1 }

  empty_and_full : {P : Type 0} (b : Bool) → b ≡ true → not b ≡ true → P
  empty_and_full true full empty = absurd cc
  empty_and_full false full empty = absurd cc

  taken_and_given : {P : Type 0} (m : ForkTokens) (i j p s q t : ℕ) → HasValues m i p s → HasValues m j q t → is_giver x q t i ≡ true → P
  taken_and_given m i j p s q t first second gives =
      let r : IsTaker ground x is touched q t i = taker ground x is touched q t i gives in
      let full : is_some (value_at m.operations (first_operation x q + r.number)) ≡ true = all_pass (is_given x m.operations q) (operation_at x q t).operands (From r.number) second.given r.among in
      empty_and_full (is_some (value_at m.operations i)) (subst (λ n. is_some (value_at m.operations n) ≡ true) r.gives_it full) first.empty

  or_cases : (a b : Bool) → (a || b) ≡ true → (a ≡ true) ⊎ (b ≡ true)
  or_cases true b all = inl refl
  or_cases false b all = inr all

  -- two nodes that are ready
  pub record AreTwo (m : ForkTokens) (i j : ℕ) (a b : NodeName) : Type 0 where
    pub first : IsOperationNamed x a
    pub second : IsOperationNamed x b
    pub first_ready : fork_ready_as x m i a ≡ true
    pub second_ready : fork_ready_as x m j b ≡ true

  same_by_value : (m : ForkTokens) (i j p s k : ℕ) (b : NodeName) → AreTwo m i j (Op p s) b → foot_as x is.classes i (Op p s) (Given k) ≡ true → foot_as x is.classes j b (Given k) ≡ true → (Op p s ≡ b) ⊎ (i ≡ j)
  same_by_value m i j p s k (Op q t) two mine theirs = by (or_cases (i == k) (is_giver x p s k) mine) (or_cases (j == k) (is_giver x q t k) theirs)
    where
      first : HasValues m i p s
      first = has_values m i p s two.first_ready

      second : HasValues m j q t
      second = has_values m j q t two.second_ready

      by : ((i == k) ≡ true) ⊎ (is_giver x p s k ≡ true) → ((j == k) ≡ true) ⊎ (is_giver x q t k ≡ true) → (Op p s ≡ Op q t) ⊎ (i ≡ j)
      by (inl own) (inl own_too) = inr (eqb-true i k own ∙ sym (eqb-true j k own_too))
      by (inl own) (inr takes) = taken_and_given m i j p s q t first second (subst (λ n. is_giver x q t n ≡ true) (sym (eqb-true i k own)) takes)
      by (inr takes) (inl own) = taken_and_given m j i q t p s second first (subst (λ n. is_giver x p s n ≡ true) (sym (eqb-true j k own)) takes)
      by (inr takes) (inr takes_too) = inl (same_taker ground x is touched p s q t k two.first two.second takes takes_too)
  same_by_value m i j p s k (Switch q line) two mine theirs = absurd cc
  same_by_value m i j p s k (Merge q line) two mine theirs = absurd cc
  same_by_value m i j p s k (Act q) two mine theirs = absurd cc

  -- ---- a load and another node

  pub load_not_decision : (work : Work) → is_load work ≡ true → is_decision work ≡ false
  load_not_decision (Load name subs) loads = refl
  load_not_decision (Operate op) loads = absurd cc
  load_not_decision (Store name subs) loads = absurd cc
  load_not_decision Take loads = absurd cc
  load_not_decision (Write items) loads = absurd cc
  load_not_decision (Begin loop_no var) loads = absurd cc
  load_not_decision (Advance loop_no var) loads = absurd cc
  load_not_decision DecideTruth loads = absurd cc
  load_not_decision DecideSign loads = absurd cc
  load_not_decision (DecideNumber count) loads = absurd cc
  load_not_decision (DecideTrips loop_no) loads = absurd cc
  load_not_decision DecideFirst loads = absurd cc

  -- a load depends on nothing that is left for a switch
  no_switch : {P : Type 0} (p s node : ℕ) → is_load (operation_at x p s).work ≡ true → foot_as x is.classes 0 (Op p s) (Token (Left node)) ≡ true → P
  no_switch p s node loads mine = both_ways (is_decision (operation_at x p s).work) ((and_parts (is_decision (operation_at x p s).work) (is_switch x.net p node) mine).0) (load_not_decision (operation_at x p s).work loads)

  names_differ : {P : Type 0} (p s : ℕ) (b : NodeName) → is_load (operation_at x p s).work ≡ true → is_load_node x b ≡ false → Op p s ≡ b → P
  names_differ p s b loads not_load same = both_ways (is_load (operation_at x p s).work) loads (ap (is_load_node x) same ∙ not_load)

  -- of a load and another node, what both depend on
  pub load_and_other : {P : Type 0} (m : ForkTokens) (i j p s : ℕ) (b : NodeName) (part : OperationPart) → (i ≡ j → ⊥) → AreTwo m i j (Op p s) b → is_load (operation_at x p s).work ≡ true → is_load_node x b ≡ false → foot_as x is.classes i (Op p s) part ≡ true → foot_as x is.classes j b part ≡ true → P
  load_and_other m i j p s b part differ two loads not_load mine theirs = by part mine theirs
    where
      ready : ready_as x m.operations j b ≡ true
      ready = sym (other_ready x m j b not_load) ∙ two.second_ready

      in_line : {P : Type 0} (part : OperationPart) (line : ℕ) → line_of ground x is touched part ≡ Some line → foot_as x is.classes i (Op p s) part ≡ true → foot_as x is.classes j b part ≡ true → P
      in_line part line at mine theirs =
          meet m j line b (first_load m p s line (opens m i p s line two.first loads two.first_ready (belongs ground x is touched i (Op p s) part line at mine)))
          two.second not_load ready (belongs ground x is touched j b part line at theirs)

      by : {P : Type 0} (part : OperationPart) → foot_as x is.classes i (Op p s) part ≡ true → foot_as x is.classes j b part ≡ true → P
      by (Token (Line line)) mine theirs = in_line (Token (Line line)) line refl mine theirs
      by (Token (Left node)) mine theirs = no_switch p s node loads mine
      by (Token (Word word)) mine theirs = in_line (Token (Word word)) (class_of_word is.classes word) refl mine theirs
      by (Token (Count n)) mine theirs = in_line (Token (Count n)) (class_of_loop is.classes n) refl mine theirs
      by (Token (StepOf n)) mine theirs = in_line (Token (StepOf n)) (class_of_loop is.classes n) refl mine theirs
      by (Token Taken) mine theirs = in_line (Token Taken) 0 refl mine theirs
      by (Token Trap) mine theirs = in_line (Token Trap) 0 refl mine theirs
      by (Passed line) mine theirs = in_line (Passed line) line refl mine theirs
      by (Given k) mine theirs = absurd (⊎_elim (λ same. names_differ p s b loads not_load same) (λ same. differ same) (same_by_value m i j p s k b two mine theirs))

  -- ---- two loads

  -- Two loads have in common the lines that both need, and what belongs to these in the memory.
  pub two_loads : (m : ForkTokens) (i j p s q t : ℕ) (part : OperationPart) → (i ≡ j → ⊥) → (Op p s ≡ Op q t → ⊥) → AreTwo m i j (Op p s) (Op q t) → is_load (operation_at x q t).work ≡ true → x.needs q t 0 ≡ false
      → tells_line part ≡ false → foot_as x is.classes i (Op p s) part ≡ true → foot_as x is.classes j (Op q t) part ≡ true → is_read part ≡ true
  two_loads m i j p s q t (Token (Line line)) differ names two loads silent not mine theirs = absurd cc
  two_loads m i j p s q t (Token (Left node)) differ names two loads silent not mine theirs = no_switch q t node loads theirs
  two_loads m i j p s q t (Token (Word word)) differ names two loads silent not mine theirs = refl
  two_loads m i j p s q t (Token (Count n)) differ names two loads silent not mine theirs = refl
  two_loads m i j p s q t (Token (StepOf n)) differ names two loads silent not mine theirs = refl
  two_loads m i j p s q t (Token Taken) differ names two loads silent not mine theirs = both_ways (x.needs q t 0) theirs silent
  two_loads m i j p s q t (Token Trap) differ names two loads silent not mine theirs = both_ways (x.needs q t 0) theirs silent
  two_loads m i j p s q t (Passed line) differ names two loads silent not mine theirs = absurd cc
  two_loads m i j p s q t (Given k) differ names two loads silent not mine theirs = absurd (⊎_elim (λ same. names same) (λ same. differ same) (same_by_value m i j p s k (Op q t) two mine theirs))

-- Two different nodes of a net of operations that are ready have no part of the marking in common.
use Rattle.std.proofs.Common.{◌≡◌, ◌<◌, ◌⊎◌, inl, inr, ⊎_elim, ℕ, zero, suc, ◌+◌, ◌==◌, ◌&&◌, ◌||◌, Bool, true, false, not, if◌then◌else◌, List, [], ◌∷◌, Option, Some, None, is_some, slice_get, refl, sym, ap, ◌∙◌, subst, arith}
use Rattle.std.specs.List.{list_all}
use Rattle.std.proofs.lemmas.Bool.{cases_Bool, and_parts, eqb-true}
use Rattle.alias_classes.specs.Classes.{class_of_word, class_of_loop}
use Rattle.dep_routing.specs.Touches.{exec_kind}
use Rattle.firing.specs.declared.system.NodeName.{NodeName}
use Rattle.firing.specs.declared.system.NodeName.TheVariants.{Act, Merge, Switch, Op}
use Rattle.firing.specs.Laws.{AreReady}
use Rattle.list_laws.specs.Member.{Member}
use Rattle.list_laws.proofs.Members.{Member-filter, Member-range, IsPassed, member_of_list_any}
use Rattle.net_board.specs.Footprints.{Line, Left, Word, Count, StepOf, Taken, Trap, is_switch}
use Rattle.net_board.specs.Nodes.{is_acting, graph_in, all_lines, kind_in, node_at, switch_lines, switches}
use Rattle.net_board.specs.ProgramFacts.{ProgramFacts}
use Rattle.net_board.specs.SoundNets.{IsNet}
use Rattle.net_board.specs.Tokens.{edge_of, is_before, left_for}
use Rattle.net_board.specs.WokenNodes.{switch_number}
use Rattle.net_board.proofs.FiringLaws.{one_piece, touched_line}
use Rattle.net_board.proofs.ListPlaces.{all_pass}
use Rattle.net_board.proofs.NodeLaws.{get_some, piece_of, switch_is}
use Rattle.op_board.specs.Operations.{Operand, Known, From, is_decision}
use Rattle.op_board.specs.OperationFootprints.{OperationPart, Token, Passed, Given, foot_as, is_giver, operation_foot}
use Rattle.op_board.specs.OperationNets.{OperationNet, first_operation, needed, needing_before, operation_at, operation_count, operation_in, operation_node, operations_at}
use Rattle.op_board.specs.OperationTokens.{OperationTokens, are_clear, givers, has_room, is_given, operation_moves, passed_by, ready_as, stands_before, value_at}
use Rattle.op_board.specs.SoundOperationNets.{OperationsCanCome}
use Rattle.op_board.proofs.FiringOperations.{both_ways}
use Rattle.op_board.proofs.NeededLines.{passing_some}
use Rattle.op_board.proofs.OperationNumbers.{IsOperationNamed, not_touched, one_operation_number, operation_name, operation_named, switch_line, switch_named}
use Rattle.op_board.proofs.OperationTakers.{one_decision, one_taker, takes_among}
use Rattle.op_board.proofs.ValueTaking.{taken_later, taken_once}

-- a piece touches the lines that its operations need
abbrev pub AreNeedsTouched : OperationNet → Type 0
AreNeedsTouched x = (piece i line : ℕ) → piece < (graph_in x.net).nodes → i < operation_count x piece → x.needs piece i line ≡ true → x.net.touches piece line ≡ true

four_parts : (a b d e : Bool) → (a && b && d && e) ≡ true → (a ≡ true) × (b ≡ true) × (d ≡ true) × (e ≡ true)
four_parts true true true true is = (refl, refl, refl, refl)
four_parts true true true false is = absurd cc
four_parts true true false e is = absurd cc
four_parts true false d e is = absurd cc
four_parts false b d e is = absurd cc

or_cases : (a b : Bool) → (a || b) ≡ true → (a ≡ true) ⊎ (b ≡ true)
or_cases true b is = inl refl
or_cases false b is = inr is

empty_and_full : {P : Type 0} (b : Bool) → b ≡ true → not b ≡ true → P
empty_and_full true full empty = absurd cc
empty_and_full false full empty = absurd cc

-- an operation of a piece by its number
pub operation_get : (x : OperationNet) (piece i : ℕ) → i < operation_count x piece → slice_get (operations_at x piece) i ≡ Some (operation_at x piece i)
operation_get x piece i below =
    let s = get_some x.net (operations_at x piece) i below in
    s.1 ∙ ap (λ o. Some (operation_in o)) (sym s.1)

module _ (ground : ProgramFacts) (x : OperationNet) (is : IsNet x.net) (touched : AreNeedsTouched x) where
  -- ---- what a ready operation has

  record IsReadyOperation (m : OperationTokens) (k piece i : ℕ) : Type 0 where
    pub stands : list_all (stands_before x m piece i) (needed x piece i) ≡ true
    pub given : list_all (is_given x m piece) (operation_at x piece i).operands ≡ true
    pub empty : not (is_some (value_at m k)) ≡ true
    pub room : has_room x m piece (operation_at x piece i).work ≡ true

  ready_operation : (m : OperationTokens) (k piece i : ℕ) → ready_as x m k (Op piece i) ≡ true → IsReadyOperation m k piece i
  ready_operation m k piece i ready =
      let parts = four_parts (list_all (stands_before x m piece i) (needed x piece i)) (list_all (is_given x m piece) (operation_at x piece i).operands) (not (is_some (value_at m k))) (has_room x m piece (operation_at x piece i).work) ready in
      record { stands = parts.0; given = parts.1; empty = parts.2; room = parts.3 }

  stands : (m : OperationTokens) (k piece i line : ℕ) → IsOperationNamed x (Op piece i) → ready_as x m k (Op piece i) ≡ true → x.needs piece i line ≡ true → stands_before x m piece i line ≡ true
  stands m k piece i line named ready needs =
      let below : line < x.net.routing.lines = touched_line ground x.net is piece line named.exists (touched piece i line named.exists named.fits.2 needs) in
      all_pass (stands_before x m piece i) (needed x piece i) line ((ready_operation m k piece i ready).stands)
      (Member-filter (x.needs piece i) (all_lines x.net) line (Member-range 0 x.net.routing.lines line (omega arith) (omega (arith, below))) needs)

  -- two nodes that are ready at a marking
  record AreTwo (m : OperationTokens) (i j : ℕ) (a b : NodeName) : Type 0 where
    pub first : IsOperationNamed x a
    pub second : IsOperationNamed x b
    pub first_ready : ready_as x m i a ≡ true
    pub second_ready : ready_as x m j b ≡ true

  -- ---- lines

  pub before : (m : OperationTokens) (k : ℕ) (name : NodeName) (line : ℕ) → IsOperationNamed x name → ready_as x m k name ≡ true → foot_as x is.classes k name (Token (Line line)) ≡ true → is_before x.net m.tokens (piece_of name) line ≡ true
  before m k (Op piece i) line named ready mine = (and_parts (is_before x.net m.tokens piece line) (passed_by m line == needing_before x piece i line) (stands m k piece i line named ready mine)).0
  before m k (Switch piece own) line named ready mine =
      subst (λ l. is_before x.net m.tokens piece l ≡ true) (eqb-true own line mine) ((and_parts (is_before x.net m.tokens piece own) (is_some (left_for m.tokens (switch_number x.net piece own))) ready).0)
  before m k (Merge piece own) line named ready mine = subst (λ l. is_before x.net m.tokens piece l ≡ true) (eqb-true own line mine) ready
  before m k (Act piece) line named ready mine = absurd named.fits

  pub passed_is : (m : OperationTokens) (k piece i line : ℕ) → IsOperationNamed x (Op piece i) → ready_as x m k (Op piece i) ≡ true → x.needs piece i line ≡ true → passed_by m line ≡ needing_before x piece i line
  passed_is m k piece i line named ready needs = eqb-true (passed_by m line) (needing_before x piece i line) ((and_parts (is_before x.net m.tokens piece line) (passed_by m line == needing_before x piece i line) (stands m k piece i line named ready needs)).1)

  order : (i j : ℕ) → (i ≡ j) ⊎ ((i < j) ⊎ (j < i))
  order zero zero = inl refl
  order zero (suc j) = inr (inl (omega arith))
  order (suc i) zero = inr (inr (omega arith))
  order (suc i) (suc j) = ⊎_elim
      (λ same. inl (ap suc same))
      (λ (apart : (i < j) ⊎ (j < i)). ⊎_elim (λ low. inr (inl (omega (arith, low)))) (λ high. inr (inr (omega (arith, high)))) apart)
      (order i j)

  -- two operations that need the line come at different numbers of those that need it
  pub same_place : (piece i j line : ℕ) → x.needs piece i line ≡ true → x.needs piece j line ≡ true → needing_before x piece i line ≡ needing_before x piece j line → i ≡ j
  same_place piece i j line needs needs_too same = ⊎_elim
      (λ is. is)
      (λ (apart : (i < j) ⊎ (j < i)). ⊎_elim
      (λ (low : i < j). let up = passing_some (λ n. x.needs piece n line) i j low needs in absurd (omega (arith, up, same)))
      (λ (low : j < i). let up = passing_some (λ n. x.needs piece n line) j i low needs_too in absurd (omega (arith, up, same)))
      apart)
      (order i j)

  pub untouched : {P : Type 0} (piece i own line : ℕ) → IsOperationNamed x (Op piece i) → Member (switch_lines x.net piece (kind_in x.net piece)) own → x.needs piece i line ≡ true → (own == line) ≡ true → P
  untouched piece i own line named among needs same =
      both_ways (x.net.touches piece line) (touched piece i line named.exists named.fits.2 needs)
      (subst (λ l. x.net.touches piece l ≡ false) (eqb-true own line same) (not_touched x.net piece own (switch_line x.net piece own (kind_in x.net piece) among)))

  same_name : (m : OperationTokens) (i j line : ℕ) (a b : NodeName) → AreTwo m i j a b → piece_of b ≡ piece_of a → foot_as x is.classes i a (Token (Line line)) ≡ true → foot_as x is.classes j b (Token (Line line)) ≡ true → a ≡ b
  same_name m i j line (Op p s) (Op q t) two at mine theirs =
      let there : x.needs p t line ≡ true = subst (λ n. x.needs n t line ≡ true) at theirs in
      let second : passed_by m line ≡ needing_before x p t line = passed_is m j q t line two.second two.second_ready theirs ∙ ap (λ n. needing_before x n t line) at in
      let same : s ≡ t = same_place p s t line mine there (sym (passed_is m i p s line two.first two.first_ready mine) ∙ second) in
      ap (λ n. Op n s) (sym at) ∙ ap (λ n. Op q n) same
  same_name m i j line (Op p s) (Switch q own) two at mine theirs =
      untouched p s own line two.first (subst (λ n. Member (switch_lines x.net n (kind_in x.net n)) own) at two.second.fits.2) mine theirs
  same_name m i j line (Op p s) (Merge q own) two at mine theirs = both_ways (is_acting (kind_in x.net p)) two.first.fits.1 (subst (λ n. is_acting (kind_in x.net n) ≡ false) at two.second.fits.1)
  same_name m i j line (Op p s) (Act q) two at mine theirs = absurd two.second.fits
  same_name m i j line (Switch p own) (Op q t) two at mine theirs =
      untouched q t own line two.second (subst (λ n. Member (switch_lines x.net n (kind_in x.net n)) own) (sym at) two.first.fits.2) theirs mine
  same_name m i j line (Switch p own) (Switch q other) two at mine theirs = ap (λ n. Switch n own) (sym at) ∙ ap (λ l. Switch q l) (eqb-true own line mine ∙ sym (eqb-true other line theirs))
  same_name m i j line (Switch p own) (Merge q other) two at mine theirs = both_ways (is_acting (kind_in x.net p)) two.first.fits.1 (subst (λ n. is_acting (kind_in x.net n) ≡ false) at two.second.fits.1)
  same_name m i j line (Switch p own) (Act q) two at mine theirs = absurd two.second.fits
  same_name m i j line (Merge p own) (Op q t) two at mine theirs = both_ways (is_acting (kind_in x.net p)) (subst (λ n. is_acting (kind_in x.net n) ≡ true) at two.second.fits.1) two.first.fits.1
  same_name m i j line (Merge p own) (Switch q other) two at mine theirs = both_ways (is_acting (kind_in x.net p)) (subst (λ n. is_acting (kind_in x.net n) ≡ true) at two.second.fits.1) two.first.fits.1
  same_name m i j line (Merge p own) (Merge q other) two at mine theirs = ap (λ n. Merge n own) (sym at) ∙ ap (λ l. Merge q l) (eqb-true own line mine ∙ sym (eqb-true other line theirs))
  same_name m i j line (Merge p own) (Act q) two at mine theirs = absurd two.second.fits
  same_name m i j line (Act p) b two at mine theirs = absurd two.first.fits

  same_by_line : (m : OperationTokens) (i j line : ℕ) (a b : NodeName) → AreTwo m i j a b → foot_as x is.classes i a (Token (Line line)) ≡ true → foot_as x is.classes j b (Token (Line line)) ≡ true → a ≡ b
  same_by_line m i j line a b two mine theirs =
      same_name m i j line a b two
      (one_piece ground x.net is (piece_of b) (piece_of a) (edge_of m.tokens line) (before m j b line two.second two.second_ready theirs) (before m i a line two.first two.first_ready mine)) mine theirs

  -- ---- the line to which a part belongs

  abbrev pub line_of : OperationPart → Option ℕ
  line_of (Token (Line line)) = Some line
  line_of (Token (Left node)) = None
  line_of (Token (Word word)) = Some (class_of_word is.classes word)
  line_of (Token (Count n)) = Some (class_of_loop is.classes n)
  line_of (Token (StepOf n)) = Some (class_of_loop is.classes n)
  line_of (Token Taken) = Some 0
  line_of (Token Trap) = Some 0
  line_of (Passed line) = Some line
  line_of (Given k) = None

  pub belongs : (k : ℕ) (name : NodeName) (part : OperationPart) (line : ℕ) → line_of part ≡ Some line → foot_as x is.classes k name part ≡ true → foot_as x is.classes k name (Token (Line line)) ≡ true
  belongs k (Op piece i) (Token (Line l)) line at mine = let same : l ≡ line = cc in subst (λ n. x.needs piece i n ≡ true) same mine
  belongs k (Op piece i) (Token (Left node)) line at mine = absurd cc
  belongs k (Op piece i) (Token (Word word)) line at mine = let same : class_of_word is.classes word ≡ line = cc in subst (λ n. x.needs piece i n ≡ true) same mine
  belongs k (Op piece i) (Token (Count n)) line at mine = let same : class_of_loop is.classes n ≡ line = cc in subst (λ n. x.needs piece i n ≡ true) same mine
  belongs k (Op piece i) (Token (StepOf n)) line at mine = let same : class_of_loop is.classes n ≡ line = cc in subst (λ n. x.needs piece i n ≡ true) same mine
  belongs k (Op piece i) (Token Taken) line at mine = let same : 0 ≡ line = cc in subst (λ n. x.needs piece i n ≡ true) same mine
  belongs k (Op piece i) (Token Trap) line at mine = let same : 0 ≡ line = cc in subst (λ n. x.needs piece i n ≡ true) same mine
  belongs k (Op piece i) (Passed l) line at mine = let same : l ≡ line = cc in subst (λ n. x.needs piece i n ≡ true) same mine
  belongs k (Op piece i) (Given j) line at mine = absurd cc
  belongs k (Switch piece own) (Token (Line l)) line at mine = let same : l ≡ line = cc in subst (λ n. (own == n) ≡ true) same mine
  belongs k (Switch piece own) (Token (Left node)) line at mine = absurd cc
  belongs k (Switch piece own) (Token (Word word)) line at mine = absurd cc
  belongs k (Switch piece own) (Token (Count n)) line at mine = absurd cc
  belongs k (Switch piece own) (Token (StepOf n)) line at mine = absurd cc
  belongs k (Switch piece own) (Token Taken) line at mine = absurd cc
  belongs k (Switch piece own) (Token Trap) line at mine = absurd cc
  belongs k (Switch piece own) (Passed l) line at mine = let same : l ≡ line = cc in subst (λ n. (own == n) ≡ true) same mine
  belongs k (Switch piece own) (Given j) line at mine = absurd cc
  belongs k (Merge piece own) (Token (Line l)) line at mine = let same : l ≡ line = cc in subst (λ n. (own == n) ≡ true) same mine
  belongs k (Merge piece own) (Token (Left node)) line at mine = absurd cc
  belongs k (Merge piece own) (Token (Word word)) line at mine = absurd cc
  belongs k (Merge piece own) (Token (Count n)) line at mine = absurd cc
  belongs k (Merge piece own) (Token (StepOf n)) line at mine = absurd cc
  belongs k (Merge piece own) (Token Taken) line at mine = absurd cc
  belongs k (Merge piece own) (Token Trap) line at mine = absurd cc
  belongs k (Merge piece own) (Passed l) line at mine = let same : l ≡ line = cc in subst (λ n. (own == n) ≡ true) same mine
  belongs k (Merge piece own) (Given j) line at mine = absurd cc
  belongs k (Act piece) (Token (Line l)) line at mine = absurd cc
  belongs k (Act piece) (Token (Left node)) line at mine = absurd cc
  belongs k (Act piece) (Token (Word word)) line at mine = absurd cc
  belongs k (Act piece) (Token (Count n)) line at mine = absurd cc
  belongs k (Act piece) (Token (StepOf n)) line at mine = absurd cc
  belongs k (Act piece) (Token Taken) line at mine = absurd cc
  belongs k (Act piece) (Token Trap) line at mine = absurd cc
  belongs k (Act piece) (Passed l) line at mine = absurd cc
  belongs k (Act piece) (Given j) line at mine = absurd cc

  -- ---- what is left for switches

  room_empty : (m : OperationTokens) (piece node : ℕ) (b : Bool) → b ≡ true → (if b then are_clear x m piece else true) ≡ true → is_switch x.net piece node ≡ true → not (is_some (left_for m.tokens node)) ≡ true
  room_empty m piece node false decides room mine = absurd cc
  room_empty m piece node true decides room mine =
      let r : IsPassed (λ switch. switch == node) (switches x.net piece) = member_of_list_any (λ switch. switch == node) (switches x.net piece) mine in
      all_pass (λ switch. not (is_some (left_for m.tokens switch))) (switches x.net piece) node room (subst (λ j. Member (switches x.net piece) j) (eqb-true r.one node r.passes) r.among)

  -- a decision is ready where nothing is left for the switches of its piece, and a switch where something is
  decision_and_switch : {P : Type 0} (m : OperationTokens) (i j p s q line node : ℕ) → ready_as x m i (Op p s) ≡ true → ready_as x m j (Switch q line) ≡ true → (is_decision (operation_at x p s).work && is_switch x.net p node) ≡ true → (switch_number x.net q line == node) ≡ true → P
  decision_and_switch m i j p s q line node first second mine theirs =
      let parts = and_parts (is_decision (operation_at x p s).work) (is_switch x.net p node) mine in
      let empty = room_empty m p node (is_decision (operation_at x p s).work) parts.0 ((ready_operation m i p s first).room) parts.1 in
      let full : is_some (left_for m.tokens (switch_number x.net q line)) ≡ true = (and_parts (is_before x.net m.tokens q line) (is_some (left_for m.tokens (switch_number x.net q line))) second).1 in
      empty_and_full (is_some (left_for m.tokens node)) (subst (λ n. is_some (left_for m.tokens n) ≡ true) (eqb-true (switch_number x.net q line) node theirs) full) empty

  in_switches : (piece node : ℕ) → is_switch x.net piece node ≡ true → Member (switches x.net piece) node
  in_switches piece node is =
      let r : IsPassed (λ switch. switch == node) (switches x.net piece) = member_of_list_any (λ switch. switch == node) (switches x.net piece) is in
      subst (λ j. Member (switches x.net piece) j) (eqb-true r.one node r.passes) r.among

  same_decision : (p s q t node : ℕ) → IsOperationNamed x (Op p s) → IsOperationNamed x (Op q t) → (is_decision (operation_at x p s).work && is_switch x.net p node) ≡ true → (is_decision (operation_at x q t).work && is_switch x.net q node) ≡ true → Op p s ≡ Op q t
  same_decision p s q t node first second mine theirs =
      let a = and_parts (is_decision (operation_at x p s).work) (is_switch x.net p node) mine in
      let b = and_parts (is_decision (operation_at x q t).work) (is_switch x.net q node) theirs in
      let r = switch_is x.net p node first.exists (in_switches p node a.1) in
      let w = switch_is x.net q node second.exists (in_switches q node b.1) in
      let piece : p ≡ q = ap piece_of (sym r.is ∙ w.is) in
      let there : is_decision (operation_at x p t).work ≡ true = subst (λ n. is_decision (operation_at x n t).work ≡ true) (sym piece) b.0 in
      let below : t < operation_count x p = subst (λ n. t < operation_count x n) (sym piece) second.fits.2 in
      let same : s ≡ t = one_decision x.net.program.names (kind_in x.net p) (exec_kind x.net.program p) s t (operation_at x p s) (operation_at x p t) (operation_get x p s first.fits.2) (operation_get x p t below) a.0 there in
      ap (λ n. Op n s) piece ∙ ap (λ n. Op q n) same

  -- a switch has the number of another one where it is that
  same_switch : (p q line other node : ℕ) → IsOperationNamed x (Switch p line) → IsOperationNamed x (Switch q other) → (switch_number x.net p line == node) ≡ true → (switch_number x.net q other == node) ≡ true → Switch p line ≡ Switch q other
  same_switch p q line other node first second mine theirs =
      sym (switch_named x.net p line first.exists first.fits.2)
      ∙ ap (node_at x.net) (eqb-true (switch_number x.net p line) node mine ∙ sym (eqb-true (switch_number x.net q other) node theirs))
      ∙ switch_named x.net q other second.exists second.fits.2

  same_by_left : (m : OperationTokens) (i j node : ℕ) (a b : NodeName) → AreTwo m i j a b → foot_as x is.classes i a (Token (Left node)) ≡ true → foot_as x is.classes j b (Token (Left node)) ≡ true → a ≡ b
  same_by_left m i j node (Op p s) (Op q t) two mine theirs = same_decision p s q t node two.first two.second mine theirs
  same_by_left m i j node (Op p s) (Switch q line) two mine theirs = decision_and_switch m i j p s q line node two.first_ready two.second_ready mine theirs
  same_by_left m i j node (Switch p line) (Op q t) two mine theirs = decision_and_switch m j i q t p line node two.second_ready two.first_ready theirs mine
  same_by_left m i j node (Switch p line) (Switch q other) two mine theirs = same_switch p q line other node two.first two.second mine theirs
  same_by_left m i j node (Op p s) (Merge q line) two mine theirs = absurd cc
  same_by_left m i j node (Op p s) (Act q) two mine theirs = absurd cc
  same_by_left m i j node (Switch p line) (Merge q other) two mine theirs = absurd cc
  same_by_left m i j node (Switch p line) (Act q) two mine theirs = absurd cc
  same_by_left m i j node (Merge p line) b two mine theirs = absurd cc
  same_by_left m i j node (Act p) b two mine theirs = absurd cc

  -- ---- values

  -- an operation that takes the value of this node
  pub record IsTaker (piece i k : ℕ) : Type 0 where
    pub number : ℕ
    pub among : Member (operation_at x piece i).operands (From number)
    pub gives_it : first_operation x piece + number ≡ k

  taker_by : (piece k : ℕ) (operands : List Operand) → Member (givers x piece operands) k → (number : ℕ) × Member operands (From number) × (first_operation x piece + number ≡ k)
  taker_by piece k [] m = absurd m
  taker_by piece k (Known z ∷ operands) m = let r = taker_by piece k operands m in (r.0, inr r.1, r.2)
  taker_by piece k (From number ∷ operands) (inl e) = (number, inl refl, e)
  taker_by piece k (From number ∷ operands) (inr m) = let r = taker_by piece k operands m in (r.0, inr r.1, r.2)

  pub taker : (piece i k : ℕ) → is_giver x piece i k ≡ true → IsTaker piece i k
  taker piece i k gives =
      let r : IsPassed (λ giver. giver == k) (givers x piece (operation_at x piece i).operands) = member_of_list_any (λ giver. giver == k) (givers x piece (operation_at x piece i).operands) gives in
      let m : Member (givers x piece (operation_at x piece i).operands) k = subst (λ j. Member (givers x piece (operation_at x piece i).operands) j) (eqb-true r.one k r.passes) r.among in
      let t = taker_by piece k (operation_at x piece i).operands m in
      record { number = t.0; among = t.1; gives_it = t.2 }

  -- a node is ready where its value was taken, and another one where that is there
  taken_and_given : {P : Type 0} (m : OperationTokens) (i j p s q t : ℕ) → ready_as x m i (Op p s) ≡ true → ready_as x m j (Op q t) ≡ true → is_giver x q t i ≡ true → P
  taken_and_given m i j p s q t first second gives =
      let r : IsTaker q t i = taker q t i gives in
      let full : is_some (value_at m (first_operation x q + r.number)) ≡ true = all_pass (is_given x m q) (operation_at x q t).operands (From r.number) ((ready_operation m j q t second).given) r.among in
      empty_and_full (is_some (value_at m i)) (subst (λ n. is_some (value_at m n) ≡ true) r.gives_it full) ((ready_operation m i p s first).empty)

  taken_name : (piece i k : ℕ) → IsOperationNamed x (Op piece i) → (t : IsTaker piece i k) → operation_node x k ≡ Op piece t.number
  taken_name piece i k named t =
      let below = named.fits.2 in
      let low = taken_later x.net.program.names (kind_in x.net piece) (exec_kind x.net.program piece) i t.number (operation_at x piece i) (operation_get x piece i below) (takes_among (operation_at x piece i).operands t.number t.among) in
      ap (operation_node x) (sym t.gives_it) ∙ operation_name x piece t.number named.exists named.fits.1 (omega (arith, low, below))

  number_of : NodeName → ℕ
  number_of (Op piece i) = i
  number_of (Switch piece line) = 0
  number_of (Merge piece line) = 0
  number_of (Act piece) = 0

  pub same_taker : (p s q t k : ℕ) → IsOperationNamed x (Op p s) → IsOperationNamed x (Op q t) → is_giver x p s k ≡ true → is_giver x q t k ≡ true → Op p s ≡ Op q t
  unfolding number_of
  same_taker p s q t k first second mine theirs =
      let a : IsTaker p s k = taker p s k mine in
      let b : IsTaker q t k = taker q t k theirs in
      let names : Op p a.number ≡ Op q b.number = sym (taken_name p s k first a) ∙ taken_name q t k second b in
      let piece : p ≡ q = ap piece_of names in
      let number : a.number ≡ b.number = ap number_of names in
      let below : t < operation_count x p = subst (λ n. t < operation_count x n) (sym piece) second.fits.2 in
      let takes = takes_among (operation_at x p s).operands a.number a.among in
      let there : Member (operation_at x p t).operands (From a.number) = subst (λ n. Member (operation_at x n t).operands (From a.number)) (sym piece) (subst (λ n. Member (operation_at x q t).operands (From n)) (sym number) b.among) in
      let takes_too = takes_among (operation_at x p t).operands a.number there in
      let most = taken_once x.net.program.names (kind_in x.net p) (exec_kind x.net.program p) a.number in
      let same : s ≡ t = one_taker (operations_at x p) s t a.number (operation_at x p s) (operation_at x p t) (operation_get x p s first.fits.2) (operation_get x p t below) takes takes_too most in
      ap (λ n. Op n s) piece ∙ ap (λ n. Op q n) same

  same_by_value : (m : OperationTokens) (i j k : ℕ) (a b : NodeName) → AreTwo m i j a b → foot_as x is.classes i a (Given k) ≡ true → foot_as x is.classes j b (Given k) ≡ true → (a ≡ b) ⊎ (i ≡ j)
  same_by_value m i j k (Op p s) (Op q t) two mine theirs = by (or_cases (i == k) (is_giver x p s k) mine) (or_cases (j == k) (is_giver x q t k) theirs)
    where
      by : ((i == k) ≡ true) ⊎ (is_giver x p s k ≡ true) → ((j == k) ≡ true) ⊎ (is_giver x q t k ≡ true) → (Op p s ≡ Op q t) ⊎ (i ≡ j)
      by (inl own) (inl own_too) = inr (eqb-true i k own ∙ sym (eqb-true j k own_too))
      by (inl own) (inr takes) = taken_and_given m i j p s q t two.first_ready two.second_ready (subst (λ n. is_giver x q t n ≡ true) (sym (eqb-true i k own)) takes)
      by (inr takes) (inl own) = taken_and_given m j i q t p s two.second_ready two.first_ready (subst (λ n. is_giver x p s n ≡ true) (sym (eqb-true j k own)) takes)
      by (inr takes) (inr takes_too) = inl (same_taker p s q t k two.first two.second takes takes_too)
  same_by_value m i j k (Op p s) (Switch q line) two mine theirs = absurd cc
  same_by_value m i j k (Op p s) (Merge q line) two mine theirs = absurd cc
  same_by_value m i j k (Op p s) (Act q) two mine theirs = absurd cc
  same_by_value m i j k (Switch p line) b two mine theirs = absurd cc
  same_by_value m i j k (Merge p line) b two mine theirs = absurd cc
  same_by_value m i j k (Act p) b two mine theirs = absurd cc

  -- ---- all parts

  in_line : (m : OperationTokens) (i j : ℕ) (a b : NodeName) (part : OperationPart) (line : ℕ) → line_of part ≡ Some line → AreTwo m i j a b → foot_as x is.classes i a part ≡ true → foot_as x is.classes j b part ≡ true → (a ≡ b) ⊎ (i ≡ j)
  in_line m i j a b part line at two mine theirs = inl (same_by_line m i j line a b two (belongs i a part line at mine) (belongs j b part line at theirs))

  same_by : (m : OperationTokens) (i j : ℕ) (a b : NodeName) (part : OperationPart) → AreTwo m i j a b → foot_as x is.classes i a part ≡ true → foot_as x is.classes j b part ≡ true → (a ≡ b) ⊎ (i ≡ j)
  same_by m i j a b (Token (Line line)) two mine theirs = in_line m i j a b (Token (Line line)) line refl two mine theirs
  same_by m i j a b (Token (Left node)) two mine theirs = inl (same_by_left m i j node a b two mine theirs)
  same_by m i j a b (Token (Word word)) two mine theirs = in_line m i j a b (Token (Word word)) (class_of_word is.classes word) refl two mine theirs
  same_by m i j a b (Token (Count n)) two mine theirs = in_line m i j a b (Token (Count n)) (class_of_loop is.classes n) refl two mine theirs
  same_by m i j a b (Token (StepOf n)) two mine theirs = in_line m i j a b (Token (StepOf n)) (class_of_loop is.classes n) refl two mine theirs
  same_by m i j a b (Token Taken) two mine theirs = in_line m i j a b (Token Taken) 0 refl two mine theirs
  same_by m i j a b (Token Trap) two mine theirs = in_line m i j a b (Token Trap) 0 refl two mine theirs
  same_by m i j a b (Passed line) two mine theirs = in_line m i j a b (Passed line) line refl two mine theirs
  same_by m i j a b (Given k) two mine theirs = same_by_value m i j k a b two mine theirs

  pub apart : (m : OperationTokens) (j k : ℕ) → AreReady (OperationsCanCome x) (operation_moves x) m j k → (part : OperationPart) → operation_foot x is.classes j part ≡ true → operation_foot x is.classes k part ≡ false
  apart m j k both part mine = ⊎_elim
      (λ (theirs : operation_foot x is.classes k part ≡ true). absurd (both.differ (⊎_elim
      (λ same. one_operation_number x j k both.first.node both.second.node same)
      (λ same. same)
      (same_by m j k (operation_node x j) (operation_node x k) part two mine theirs))))
      (λ not_theirs. not_theirs)
      (cases_Bool (operation_foot x is.classes k part))
    where
      two : AreTwo m j k (operation_node x j) (operation_node x k)
      two = record { first = operation_named x j both.first.node; second = operation_named x k both.second.node; first_ready = both.first.ready; second_ready = both.second.ready }

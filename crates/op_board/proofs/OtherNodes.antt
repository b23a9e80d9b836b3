-- Switches and merges do the same in a net of operations as in its net of statements.
use Rattle.std.proofs.Common.{◌≡◌, ◌<◌, ◌⊎◌, ℕ, zero, suc, ◌+◌, ◌&&◌, Bool, true, false, not, if◌then◌else◌, List, [], length, map, replicate, Some, None, is_some, slice_get, refl, sym, ap, ◌∙◌, subst, inl, inr, arith}
use Rattle.std.proofs.lemmas.Bool.{and_parts, cases_Bool}
use Rattle.cfg_build.specs.declared.pieces.PieceKind.{PieceKind}
use Rattle.cfg_build.specs.declared.pieces.PieceKind.TheVariants as kind
use Rattle.firing.specs.declared.system.NodeName.{NodeName}
use Rattle.firing.specs.declared.system.NodeName.TheVariants.{Act, Merge, Switch, Op}
use Rattle.list_laws.proofs.Members.{IsImage, Member-filtered, Member-mapped}
use Rattle.net_board.specs.Nodes.{NetOf, graph_in, kind_in, all_lines, first_node, is_acting, is_free, led_to, node_at, node_count, nodes_at, nodes_by, passing}
use Rattle.net_board.specs.Tokens.{Tokens, fired_as, is_before, left_for, line_as, merged, net_moves, ready_as, serial_as, switched}
use Rattle.net_board.specs.WokenNodes.{no_node, place_by, place_of, switch_number}
use Rattle.net_board.proofs.ListPrefixes.{HasItem, item_at, member_at, below_length}
use Rattle.net_board.proofs.NodeNumbers.{switch_is_at}
use Rattle.net_board.proofs.PieceSteps.{node_below, node_named}
use Rattle.op_board.specs.OperationLockstep.{act_count}
use Rattle.op_board.specs.OperationNets.{OperationNet, first_operation, operation_count, operation_node, operation_node_count}
use Rattle.op_board.specs.OperationTokens as game
use Rattle.op_board.specs.OperationTokens.{between_pieces, operation_moves}
use Rattle.op_board.proofs.PieceNodes.{acting_count, no_operations, nodes_same, operation_named, others_same}
use Rattle.op_board.proofs.ReplacedItems.{set_replicate}

-- a node of the net of operations does what one of the net of statements does
pub record Commutes (x : OperationNet) (k j : ℕ) : Type 0 where
  pub ready : (m : Tokens) → (operation_moves x).ready (between_pieces x m) k ≡ (net_moves x.net).ready m j
  pub fired : (m : Tokens) → (operation_moves x).fired (between_pieces x m) k ≡ between_pieces x ((net_moves x.net).fired m j)
  pub line : (m : Tokens) → (operation_moves x).line (between_pieces x m) k ≡ (net_moves x.net).line m j
  pub serial : (operation_moves x).serial k ≡ (net_moves x.net).serial j

-- a switch with this number in the net of statements, or a merge
abbrev pub IsOther : NetOf → (j : ℕ) → NodeName → Type 0
IsOther net j (Switch piece line) = switch_number net piece line ≡ j
IsOther net j (Merge piece line) = Unit {0}
IsOther net j (Act piece) = ⊥
IsOther net j (Op piece i) = ⊥

module _ (x : OperationNet) where
  with_tokens : (tokens : Tokens) (line : ℕ) → record { tokens = tokens; passed = Rattle.std.proofs.Common.slice_set (replicate x.net.routing.lines 0) line 0; values = (between_pieces x tokens).values } ≡ between_pieces x tokens
  with_tokens tokens line = ap (λ (passed : List ℕ). record { tokens = tokens; passed = passed; values = (between_pieces x tokens).values }) (set_replicate x.net.routing.lines line 0)

  fired_other : (m : Tokens) (k j : ℕ) (name : NodeName) → IsOther x.net j name → game.fired_as x (between_pieces x m) k name ≡ between_pieces x (fired_as x.net m j name)
  fired_other m k j (Switch piece line) same = with_tokens (switched x.net m (switch_number x.net piece line) line (left_for m (switch_number x.net piece line))) line ∙ ap (λ (i : ℕ). between_pieces x (switched x.net m i line (left_for m i))) same
  fired_other m k j (Merge piece line) other = with_tokens (merged x.net m piece line) line
  fired_other m k j (Act piece) none = absurd none
  fired_other m k j (Op piece i) none = absurd none

  ready_other : (m : Tokens) (k j : ℕ) (name : NodeName) → IsOther x.net j name → game.ready_as x (between_pieces x m) k name ≡ ready_as x.net m j name
  ready_other m k j (Switch piece line) same = ap (λ (i : ℕ). is_before x.net m piece line && is_some (left_for m i)) same
  ready_other m k j (Merge piece line) other = refl
  ready_other m k j (Act piece) none = absurd none
  ready_other m k j (Op piece i) none = absurd none

  line_other : (m : Tokens) (j : ℕ) (name : NodeName) → IsOther x.net j name → game.line_as x (between_pieces x m) name ≡ line_as x.net m name
  line_other m j (Switch piece line) same = refl
  line_other m j (Merge piece line) other = refl
  line_other m j (Act piece) none = absurd none
  line_other m j (Op piece i) none = absurd none

  serial_other : (j : ℕ) (name : NodeName) → IsOther x.net j name → game.serial_as x name ≡ serial_as x.net name
  serial_other j (Switch piece line) same = refl
  serial_other j (Merge piece line) other = refl
  serial_other j (Act piece) none = absurd none
  serial_other j (Op piece i) none = absurd none

  commutes_named : (k j : ℕ) (name : NodeName) → operation_node x k ≡ name → node_at x.net j ≡ name → IsOther x.net j name → Commutes x k j
  commutes_named k j name here there other = record {
    ready = λ m. ap (game.ready_as x (between_pieces x m) k) here ∙ ready_other m k j name other ∙ ap (ready_as x.net m j) (sym there);
    fired = λ m. ap (game.fired_as x (between_pieces x m) k) here ∙ fired_other m k j name other ∙ ap (λ (a : NodeName). between_pieces x (fired_as x.net m j a)) (sym there);
    line = λ m. ap (game.line_as x (between_pieces x m)) here ∙ line_other m j name other ∙ ap (line_as x.net m) (sym there);
    serial = ap (game.serial_as x) here ∙ serial_other j name other ∙ ap (serial_as x.net) (sym there);
  }

  -- ---- which nodes these are

  not_true : (b : Bool) → not b ≡ true → b ≡ false
  not_true true is = absurd cc
  not_true false is = refl

  -- what comes after the first node of such a piece is a switch
  pub record IsSwitchOf (piece : ℕ) (name : NodeName) : Type 0 where
    pub line : ℕ
    pub is : Switch piece line ≡ name
    pub free : is_free x.net piece line ≡ true
    pub untouched : x.net.touches piece line ≡ false

  among_switches : (piece j : ℕ) (name : NodeName) → slice_get (map (Switch piece) (passing x.net piece)) j ≡ Some name → IsSwitchOf piece name
  among_switches piece j name at =
      let r : IsImage (Switch piece) (passing x.net piece) name = Member-mapped (Switch piece) (passing x.net piece) name (member_at (map (Switch piece) (passing x.net piece)) j name at) in
      let test = (Member-filtered (λ l. is_free x.net piece l && not (x.net.touches piece l)) (all_lines x.net) r.origin r.among).1 in
      let both = and_parts (is_free x.net piece r.origin) (not (x.net.touches piece r.origin)) test in
      record { line = r.origin; is = r.is; free = both.0; untouched = not_true (x.net.touches piece r.origin) both.1 }

  switch_by : (piece j : ℕ) (k : PieceKind) (name : NodeName) → is_acting k ≡ true → slice_get (nodes_by x.net piece k) (suc j) ≡ Some name → IsSwitchOf piece name
  switch_by piece j kind.Act name acts at = let e : None ≡ Some name = at in absurd cc
  switch_by piece j kind.Branch name acts at = among_switches piece j name at
  switch_by piece j kind.Hold name acts at = among_switches piece j name at
  switch_by piece j kind.Start name acts at = absurd cc
  switch_by piece j kind.Pass name acts at = absurd cc
  switch_by piece j kind.Join name acts at = absurd cc
  switch_by piece j kind.End name acts at = absurd cc

  place_switch : (piece j line : ℕ) (k : PieceKind) (name : NodeName) → is_acting k ≡ true → slice_get (nodes_by x.net piece k) (suc j) ≡ Some name → is_free x.net piece line ≡ true → x.net.touches piece line ≡ false → place_by x.net piece line k ≡ switch_number x.net piece line
  place_switch piece j line kind.Act name acts at free untouched = let e : None ≡ Some name = at in absurd cc
  place_switch piece j line kind.Branch name acts at free untouched = ap (λ (b : Bool). if b then first_node x.net piece else if is_free x.net piece line then switch_number x.net piece line else no_node x.net) untouched ∙ ap (λ (b : Bool). if b then switch_number x.net piece line else no_node x.net) free
  place_switch piece j line kind.Hold name acts at free untouched = ap (λ (b : Bool). if b then first_node x.net piece else if is_free x.net piece line then switch_number x.net piece line else no_node x.net) untouched ∙ ap (λ (b : Bool). if b then switch_number x.net piece line else no_node x.net) free
  place_switch piece j line kind.Start name acts at free untouched = absurd cc
  place_switch piece j line kind.Pass name acts at free untouched = absurd cc
  place_switch piece j line kind.Join name acts at free untouched = absurd cc
  place_switch piece j line kind.End name acts at free untouched = absurd cc

  other_switch : (piece j : ℕ) (name : NodeName) → piece < (graph_in x.net).nodes → is_acting (kind_in x.net piece) ≡ true → slice_get (nodes_at x.net piece) (suc j) ≡ Some name → IsOther x.net (first_node x.net piece + suc j) name
  other_switch piece j name exists acts at =
      let own : IsSwitchOf piece name = switch_by piece j (kind_in x.net piece) name acts at in
      let low = node_below x.net piece (suc j) exists (below_length (nodes_at x.net piece) (suc j) name at) in
      let there : node_at x.net (first_node x.net piece + suc j) ≡ Switch piece own.line = node_named x.net piece (suc j) name exists at ∙ sym own.is in
      let place : place_of x.net piece own.line ≡ first_node x.net piece + suc j = switch_is_at x.net (first_node x.net piece + suc j) piece own.line low there in
      subst (λ (a : NodeName). IsOther x.net (first_node x.net piece + suc j) a) own.is (sym (place_switch piece j own.line (kind_in x.net piece) name acts at own.free own.untouched) ∙ place)

  merges_other : (piece j : ℕ) (lines : List ℕ) (i : ℕ) (name : NodeName) → slice_get (map (Merge piece) lines) i ≡ Some name → IsOther x.net j name
  merges_other piece j lines i name at =
      let r : IsImage (Merge piece) lines name = Member-mapped (Merge piece) lines name (member_at (map (Merge piece) lines) i name at) in
      subst (λ (a : NodeName). IsOther x.net j a) r.is tt

  other_by : (piece j i : ℕ) (k : PieceKind) (name : NodeName) → is_acting k ≡ false → slice_get (nodes_by x.net piece k) i ≡ Some name → IsOther x.net j name
  other_by piece j i kind.Act name acts at = absurd cc
  other_by piece j i kind.Branch name acts at = absurd cc
  other_by piece j i kind.Hold name acts at = absurd cc
  other_by piece j i kind.Start name acts at = let e : None ≡ Some name = at in absurd cc
  other_by piece j i kind.Pass name acts at = let e : None ≡ Some name = at in absurd cc
  other_by piece j i kind.Join name acts at = merges_other piece j (led_to x.net piece) i name at
  other_by piece j i kind.End name acts at = merges_other piece j (led_to x.net piece) i name at

  -- ---- beside one another

  beside_acting : (piece j : ℕ) → piece < (graph_in x.net).nodes → is_acting (kind_in x.net piece) ≡ true → suc j < node_count x.net piece → Commutes x (first_operation x piece + (operation_count x piece + j)) (first_node x.net piece + suc j)
  beside_acting piece j exists acts low =
      let own : HasItem (nodes_at x.net piece) (suc j) = item_at (nodes_at x.net piece) (suc j) low in
      commutes_named (first_operation x piece + (operation_count x piece + j)) (first_node x.net piece + suc j) own.item
      (operation_named x piece (operation_count x piece + j) own.item exists (others_same x piece acts j own.item own.at))
      (node_named x.net piece (suc j) own.item exists own.at)
      (other_switch piece j own.item exists acts own.at)

  beside_idle : (piece j : ℕ) → piece < (graph_in x.net).nodes → is_acting (kind_in x.net piece) ≡ false → j < node_count x.net piece → Commutes x (first_operation x piece + j) (first_node x.net piece + j)
  beside_idle piece j exists acts low =
      let own : HasItem (nodes_at x.net piece) j = item_at (nodes_at x.net piece) j low in
      commutes_named (first_operation x piece + j) (first_node x.net piece + j) own.item
      (operation_named x piece j own.item exists (subst (λ (names : List NodeName). slice_get names j ≡ Some own.item) (sym (nodes_same x piece acts)) own.at))
      (node_named x.net piece j own.item exists own.at)
      (other_by piece (first_node x.net piece + j) j (kind_in x.net piece) own.item acts own.at)

  -- the i-th node of the piece does what the j-th node of the net of statements does, where all operations come before it
  abbrev pub IsBeside : (piece i j : ℕ) → Type 0
  IsBeside piece i j = (is_acting (kind_in x.net piece) ≡ true → 0 < j) × (i + act_count (is_acting (kind_in x.net piece)) ≡ j + operation_count x piece)

  pub beside : (piece i j : ℕ) → piece < (graph_in x.net).nodes → IsBeside piece i j → j < node_count x.net piece → Commutes x (first_operation x piece + i) (first_node x.net piece + j)
  beside piece i j exists is low = by (cases_Bool (is_acting (kind_in x.net piece))) j is low
    where
      by : (is_acting (kind_in x.net piece) ≡ true) ⊎ (is_acting (kind_in x.net piece) ≡ false) → (j : ℕ) → IsBeside piece i j → j < node_count x.net piece → Commutes x (first_operation x piece + i) (first_node x.net piece + j)
      by (inl acts) zero is low = let some = is.0 acts in absurd (omega (arith, some))
      by (inl acts) (suc j) is low =
          let sum : i + 1 ≡ suc j + operation_count x piece = ap (λ (b : Bool). i + act_count b) (sym acts) ∙ is.1 in
          let same : operation_count x piece + j ≡ i = omega (arith, sum) in
          subst (λ (a : ℕ). Commutes x (first_operation x piece + a) (first_node x.net piece + suc j)) same (beside_acting piece j exists acts low)
      by (inr idle) j is low =
          let sum : i + 0 ≡ j + operation_count x piece = ap (λ (b : Bool). i + act_count b) (sym idle) ∙ is.1 in
          let none = no_operations x piece idle in
          let same : j ≡ i = omega (arith, sum, none) in
          subst (λ (a : ℕ). Commutes x (first_operation x piece + a) (first_node x.net piece + j)) same (beside_idle piece j exists idle low)

  -- there are as many more nodes here as there
  pub beside_count : (piece i j : ℕ) → IsBeside piece i j → operation_node_count x piece + j ≡ node_count x.net piece + i
  beside_count piece i j is = by (cases_Bool (is_acting (kind_in x.net piece)))
    where
      by : (is_acting (kind_in x.net piece) ≡ true) ⊎ (is_acting (kind_in x.net piece) ≡ false) → operation_node_count x piece + j ≡ node_count x.net piece + i
      by (inl acts) =
          let sum : i + 1 ≡ j + operation_count x piece = ap (λ (b : Bool). i + act_count b) (sym acts) ∙ is.1 in
          let all = acting_count x piece acts in
          omega (arith, sum, all)
      by (inr idle) =
          let sum : i + 0 ≡ j + operation_count x piece = ap (λ (b : Bool). i + act_count b) (sym idle) ∙ is.1 in
          let none = no_operations x piece idle in
          let all : operation_node_count x piece ≡ node_count x.net piece = ap (λ (names : List NodeName). length names) (nodes_same x piece idle) in
          omega (arith, sum, none, all)

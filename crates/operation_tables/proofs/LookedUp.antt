-- What is looked up in the tables of a net of operations is there.
use Rattle.std.proofs.Common.{◌≡◌, ◌≢◌, ◌<◌, ◌≤◌, ◌+◌, ◌∙◌, ℕ, suc, true, List, length, get_or, Option, Some, None, Vec, Global, Bor, HoldsAt, MatchOption, option_copied, slice_get, slice_index, refl, sym, ap, subst, arith}
use Rattle.std.proofs.lemmas.Option.{get_or_from_slice_get, slice_get_past, slice_get_read, slice_get_within}
use Rattle.std.proofs.Math.Logic.{∥∥₁_elim}
use Rattle.std.proofs.Props.{props}
use Rattle.firing.specs.declared.system.NodeName.{NodeName}
use Rattle.firing.specs.declared.system.NodeName.TheVariants.{Act, Merge, Switch, Op}
use Rattle.net_board.specs.Nodes.{first_node, graph_in, is_acting, kind_in, node_count, nodes_of, touched}
use Rattle.net_board.specs.WokenNodes.{switch_number}
use Rattle.op_board.specs.OperationNets.{OperationNet, first_operation, operation_count, operation_node, operation_node_count}
use Rattle.op_board.proofs.PieceNodes.{acting_count}
use Rattle.operation_tables.specs.BoardView.{operation_net_on}
use Rattle.operation_tables.specs.OperationRows.{EntryIs, IsEntry, IsRow}
use Rattle.operation_tables.specs.OperationTables.{RowOfNode}
use Rattle.operation_tables.specs.Telling.{IsOperation}
use Rattle.operation_tables.specs.PieceTables.{entry_in, rows_before}
use Rattle.operation_tables.specs.Waits.{IsSwitchOf, node_total}
use Rattle.operation_tables.specs.declared.lookups.OperationBoard.{OperationBoard}
use Rattle.operation_tables.specs.declared.rows.Row.{Row}
use Rattle.operation_tables.proofs.FirstRows.{row_low, row_there, rows_rise, start_at, starts_count}
use Rattle.operation_tables.proofs.GrownLists.{get_some}
use Rattle.operation_tables.proofs.NodeNames.{IsOperationAt, IsSwitchAt, operation_at_node, switch_at_node}

module _ {X : Type 0} where
  -- what is read at a place stands there
  pub item_copied : (xs : List X) (i : ℕ) (r : Option (Bor X)) → MatchOption r (length xs ≤ i) (λ x. (i < length xs) × HoldsAt (λ y. x.now ≡ y) xs i) → option_copied r ≡ slice_get xs i
  item_copied xs i None is = sym (slice_get_past xs i is)
  item_copied xs i (Some x) is = sym (slice_get_read xs (length xs) i x.now refl is.0 (is.1 x.now))

module _ {W : ℕ} (board : OperationBoard W) where
  abbrev net : OperationNet
  net = operation_net_on board

  abbrev all : List Row
  all = board.tables.rows.items

  -- ---- rows by their pieces

  pub starts_long : length board.tables.starts.items ≡ suc (graph_in net.net).nodes
  starts_long = starts_count net (graph_in net.net).nodes all board.tables.starts.items board.tables.entries.items board.own_tables.rows

  pub start_is : (piece n : ℕ) → piece ≤ (graph_in net.net).nodes → n ≡ get_or board.tables.starts.items piece n → n ≡ rows_before net piece
  start_is piece n low at = at ∙ start_at net (graph_in net.net).nodes all board.tables.starts.items board.tables.entries.items board.own_tables.rows piece n low

  pub end_is : (piece n : ℕ) → piece < (graph_in net.net).nodes → n ≡ get_or board.tables.starts.items (piece + 1) n → n ≡ rows_before net piece + operation_count net piece
  end_is piece n exists at = start_is (piece + 1) n (omega (arith, exists)) at ∙ ap (rows_before net) (let one : piece + 1 ≡ suc piece = omega arith in one)

  pub row_exists : (piece i : ℕ) → piece < (graph_in net.net).nodes → i < operation_count net piece → rows_before net piece + i < length all
  row_exists piece i exists inside = row_low net (graph_in net.net).nodes all board.tables.starts.items board.tables.entries.items board.own_tables.rows piece i exists inside

  pub row_is : (piece i : ℕ) (row : Row) → piece < (graph_in net.net).nodes → i < operation_count net piece → row ≡ get_or all (rows_before net piece + i) row → ∥ IsRow net piece i row ∥₁
  row_is piece i row exists inside at = row_there net (graph_in net.net).nodes all board.tables.starts.items board.tables.entries.items board.own_tables.rows piece i row exists inside at

  pub rows_end : (piece : ℕ) → piece < (graph_in net.net).nodes → rows_before net piece + operation_count net piece ≤ length all
  rows_end piece exists = let rise = rows_rise net piece (graph_in net.net).nodes exists in let count = board.own_tables.rows.count in omega (arith, rise, count)

  -- ---- rows by their nodes

  record_is : (k n : ℕ) → k < node_total net → n ≡ get_or board.tables.records.items k n → slice_index board.tables.records.items k ≡ n
  record_is k n below at =
      let records = board.tables.records.items in
      let count = board.own_tables.records in
      get_or_from_slice_get records k n 0 (slice_get_read records (length records) k n refl (omega (arith, below, count)) at)

  number_is : (k n piece i : ℕ) → k < node_total net → operation_node net k ≡ Op piece i → n ≡ get_or board.tables.records.items k n → n ≡ rows_before net piece + i
  number_is k n piece i below is at = sym (record_is k n below at) ∙ board.own_tables.operations k piece i below is

  past_rows : (k n : ℕ) → k < node_total net → ((piece i : ℕ) → operation_node net k ≢ Op piece i) → n ≡ get_or board.tables.records.items k n → slice_get all n ≡ None
  past_rows k n below other at =
      let is = record_is k n below at in
      let past = board.own_tables.others k below other in
      slice_get_past all n (omega (arith, is, past))

  row_found : (k n : ℕ) (name : NodeName) → k < node_total net → operation_node net k ≡ name → n ≡ get_or board.tables.records.items k n → RowOfNode net name (slice_get all n)
  row_found k n (Op piece i) below is at =
      let own : IsOperationAt net k piece i = operation_at_node net k piece i below is in
      let found = get_some all (rows_before net piece + i) (row_exists piece i own.exists own.inside) in
      subst (λ (o : Option Row). RowOfNode net (Op piece i) o) (sym (ap (slice_get all) (number_is k n piece i below is at) ∙ found.1)) (board.own_tables.rows.rows piece i found.0 own.exists own.inside found.1)
  row_found k n (Switch piece line) below is at = past_rows k n below (λ p i e. let no : Switch piece line ≡ Op p i = sym is ∙ e in cc) at
  row_found k n (Merge piece line) below is at = past_rows k n below (λ p i e. let no : Merge piece line ≡ Op p i = sym is ∙ e in cc) at
  row_found k n (Act piece) below is at = past_rows k n below (λ p i e. let no : Act piece ≡ Op p i = sym is ∙ e in cc) at

  pub row_of_node : (k n : ℕ) → k < node_total net → n ≡ get_or board.tables.records.items k n → RowOfNode net (operation_node net k) (slice_get all n)
  row_of_node k n below at = row_found k n (operation_node net k) below refl at

  row_inside : (n : ℕ) (name : NodeName) (row : Option Row) → slice_get all n ≡ row → IsOperation name → RowOfNode net name row → n < length all
  row_inside n (Op piece i) (Some row) at is found = slice_get_within all n row at
  row_inside n (Op piece i) None at is found = absurd found
  row_inside n (Switch piece line) row at is found = absurd is
  row_inside n (Merge piece line) row at is found = absurd is
  row_inside n (Act piece) row at is found = absurd is

  pub record_low : (k n : ℕ) → k < node_total net → IsOperation (operation_node net k) → n ≡ get_or board.tables.records.items k n → n < length all
  record_low k n below is at = row_inside n (operation_node net k) (slice_get all n) refl is (row_of_node k n below at)

  -- ---- the first operation that needs a line

  in_entries : (x : OperationNet) (piece line place : ℕ) (entries : List ℕ) (o : Option ℕ) → slice_get entries place ≡ o → EntryIs x piece line o → place < length entries
  in_entries x piece line place entries None at is = absurd is
  in_entries x piece line place entries (Some n) at is = slice_get_within entries place n at

  own_entry : (x : OperationNet) (piece line place n : ℕ) (entries : List ℕ) → n ≡ get_or entries place n → EntryIs x piece line (slice_get entries place) → IsEntry x piece line n
  own_entry x piece line place n entries own is =
      let low = in_entries x piece line place entries (slice_get entries place) refl is in
      subst (λ (o : Option ℕ). EntryIs x piece line o) (slice_get_read entries (length entries) place n refl low own) is

  module _ (piece line place : ℕ) (own : Vec ℕ Global) (exists : piece < (graph_in net.net).nodes) (at : own ≡ get_or board.tables.entries.items piece own) (acts : is_acting (kind_in net.net piece) ≡ true) (touches : slice_get (touched net.net piece) place ≡ Some line) where
    entry_there : ∥ EntryIs net piece line (slice_get own.items place) ∥₁
    entry_there =
        let entries = board.tables.entries.items in
        let count = board.own_tables.rows.pieces in
        let there : slice_get entries piece ≡ Some own = slice_get_read entries (length entries) piece own refl (omega (arith, exists, count)) at in
        subst (λ (o : Option (Vec ℕ Global)). ∥ EntryIs net piece line (entry_in o place) ∥₁) there (board.own_tables.rows.entries piece place line exists acts touches)

    pub entry_exists : place < length own.items
    entry_exists = ∥∥₁_elim entry_there (Prim.hlevel props) (λ (is : EntryIs net piece line (slice_get own.items place)). in_entries net piece line place own.items (slice_get own.items place) refl is)

    pub entry_is : (n : ℕ) → n ≡ get_or own.items place n → IsEntry net piece line n
    entry_is n here = ∥∥₁_elim entry_there (Prim.hlevel props) (λ (is : EntryIs net piece line (slice_get own.items place)). own_entry net piece line place n own.items here is)

module _ (x : OperationNet) where
  record IsNamedSwitch (name : NodeName) (piece : ℕ) : Type 0 where
    pub line : ℕ
    pub named : name ≡ Switch piece line

  switch_named : (name : NodeName) (piece : ℕ) → IsSwitchOf name piece → IsNamedSwitch name piece
  switch_named (Switch other line) piece is = record { line = line; named = ap (λ (n : ℕ). Switch n line) is }
  switch_named (Op other i) piece is = absurd is
  switch_named (Merge other line) piece is = absurd is
  switch_named (Act other) piece is = absurd is

  -- a switch has as many nodes of its piece behind it as it has in the net of statements
  pub record IsSwitchBehind (k piece : ℕ) : Type 0 where
    pub line : ℕ
    pub named : operation_node x k ≡ Switch piece line
    pub exists : piece < (graph_in x.net).nodes
    pub first : first_operation x piece ≤ k
    pub low : k < first_operation x piece + operation_node_count x piece
    pub short : first_operation x piece + operation_node_count x piece ≤ first_node x.net piece + node_count x.net piece + k
    pub behind : switch_number x.net piece line + (first_operation x piece + operation_node_count x piece) ≡ (first_node x.net piece + node_count x.net piece) + k
    pub within : switch_number x.net piece line < length (nodes_of x.net)

  pub switch_behind : (k piece : ℕ) → k < node_total x → IsSwitchOf (operation_node x k) piece → IsSwitchBehind k piece
  switch_behind k piece below is =
      let s : IsNamedSwitch (operation_node x k) piece = switch_named (operation_node x k) piece is in
      let at : IsSwitchAt x k piece s.line = switch_at_node x k piece s.line below s.named in
      let number = at.number in
      let within = at.within in
      let statement = at.statement in
      let all = acting_count x piece at.acts in
      record {
        line = s.line;
        named = s.named;
        exists = at.exists;
        first = omega (arith, number);
        low = omega (arith, number, within);
        short = omega (arith, number, within, all);
        behind = omega (arith, number, statement, all);
        within = at.below;
      }

  pub same_line : (piece a b : ℕ) → Switch piece a ≡ Switch piece b → a ≡ b
  same_line piece a b e = cc

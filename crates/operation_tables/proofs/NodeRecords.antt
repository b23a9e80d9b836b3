-- The number of the row of each node.
use Rattle.std.proofs.Common.{◌≡◌, ◌≢◌, ◌<◌, ◌≤◌, ◌+◌, ℕ, List, ◌∷◌, [], ◌++◌, length, Some, Vec, Global, slice_get, slice_index, refl, sym, ap, ◌∙◌, arith, ⊎_elim}
use Rattle.std.proofs.lemmas.Bool.{cases_lt}
use Rattle.std.proofs.lemmas.Option.{get_or_from_slice_get, slice_get_within}
use Rattle.firing.specs.declared.system.NodeName.{NodeName}
use Rattle.firing.specs.declared.system.NodeName.TheVariants.{Act, Merge, Op, Switch}
use Rattle.net_board.specs.Nodes.{graph_in, name_in}
use Rattle.op_board.specs.OperationNets.{OperationNet, all_operation_nodes, operation_node}
use Rattle.operation_tables.specs.declared.rows.Row.{Row}
use Rattle.operation_tables.specs.PieceTables.{AreFirstRows, IsCounted, record_in, rows_before}
use Rattle.operation_tables.specs.Waits.{node_total}
use Rattle.operation_tables.proofs.FirstRows.{row_low, start_at, starts_count}
use Rattle.operation_tables.proofs.GrownLists.{get_before, get_end, get_some}
use Rattle.operation_tables.proofs.NodeNames.{IsOperationAt, operation_at_node}

-- the numbers of the rows of so many nodes
pub record AreRecords (names : List NodeName) (starts : List ℕ) (n : ℕ) (records : List ℕ) : Type 0 where
  pub count : length records ≡ n
  pub each : (k : ℕ) (name : NodeName) → k < n → slice_get names k ≡ Some name → slice_get records k ≡ Some (record_in starts name)

module _ (names : List NodeName) (starts : List ℕ) where
  pub no_records : (records : List ℕ) → records ≡ [] → AreRecords names starts 0 records
  no_records records none = record { count = ap length none; each = λ k name below. absurd (omega (arith, below)) }

  pub next_records : (n : ℕ) (records new : List ℕ) (name : NodeName) (number : ℕ) → AreRecords names starts n records → slice_get names n ≡ Some name → number ≡ record_in starts name → new ≡ records ++ number ∷ [] → AreRecords names starts (n + 1) new
  next_records n records new name number are here is more = record {
    count = ap length more ∙ Rattle.std.proofs.Common.length-append records (number ∷ []) ∙ ap (λ k. k + 1) are.count;
    each = λ k other below at. ⊎_elim
        (λ (before : k < n).
        let count = are.count in
        ap (λ ks. slice_get ks k) more ∙ get_before records (number ∷ []) k (omega (arith, before, count)) ∙ are.each k other before at)
        (λ (past : n ≤ k).
        let same : k ≡ n = omega (arith, past, below) in
        let found : Some name ≡ Some other = sym here ∙ ap (slice_get names) (sym same) ∙ at in
        let own : name ≡ other = cc in
        ap (λ ks. slice_get ks k) more ∙ get_end records number k (same ∙ sym are.count) ∙ ap (λ m. Some m) (is ∙ ap (record_in starts) own))
        (cases_lt k n);
  }

module _ (x : OperationNet) (rows : List Row) (starts : List ℕ) (entries : List (Vec ℕ Global)) (are : AreFirstRows x (graph_in x.net).nodes rows starts entries) where
  row_number : (piece i : ℕ) → piece < (graph_in x.net).nodes → slice_index starts piece + i ≡ rows_before x piece + i
  row_number piece i exists = ap (λ n. n + i) (start_at x (graph_in x.net).nodes rows starts entries are piece 0 (omega (arith, exists)))

  -- the rows of all nodes can be numbered
  counted : (k : ℕ) (name : NodeName) → k < node_total x → operation_node x k ≡ name → IsCounted starts name
  counted k (Op piece i) below is =
      let at : IsOperationAt x k piece i = operation_at_node x k piece i below is in
      let exists = at.exists in
      let all = starts_count x (graph_in x.net).nodes rows starts entries are in
      let low = row_low x (graph_in x.net).nodes rows starts entries are piece i exists at.inside in
      let few = are.few in
      let number = row_number piece i exists in
      (omega (arith, exists, all), omega (arith, low, few, number))
  counted k (Switch piece line) below is = tt
  counted k (Merge piece line) below is = tt
  counted k (Act piece) below is = tt

  pub all_counted : (k : ℕ) (name : NodeName) → slice_get (all_operation_nodes x) k ≡ Some name → IsCounted starts name
  all_counted k name at = counted k name (slice_get_within (all_operation_nodes x) k name at) (ap name_in at)

  other_record : (name : NodeName) → ((piece i : ℕ) → name ≢ Op piece i) → record_in starts name ≡ 4294967295
  other_record (Op piece i) other = absurd (other piece i refl)
  other_record (Switch piece line) other = refl
  other_record (Merge piece line) other = refl
  other_record (Act piece) other = refl

  -- ---- each node has its row by its number, if it is an operation

  module _ (records : List ℕ) (each : AreRecords (all_operation_nodes x) starts (node_total x) records) where
    recorded : (k : ℕ) (name : NodeName) → k < node_total x → operation_node x k ≡ name → slice_index records k ≡ record_in starts name
    recorded k name below is =
        let found = get_some (all_operation_nodes x) k below in
        let at : slice_get records k ≡ Some (record_in starts found.0) = each.each k found.0 below found.1 in
        get_or_from_slice_get records k (record_in starts found.0) 0 at ∙ ap (record_in starts) (sym (ap name_in found.1) ∙ is)

    pub operation_recorded : (k piece i : ℕ) → k < node_total x → operation_node x k ≡ Op piece i → slice_index records k ≡ rows_before x piece + i
    operation_recorded k piece i below is =
        let at : IsOperationAt x k piece i = operation_at_node x k piece i below is in
        recorded k (Op piece i) below is ∙ row_number piece i at.exists

    pub other_recorded : (k : ℕ) → k < node_total x → ((piece i : ℕ) → operation_node x k ≢ Op piece i) → length rows ≤ slice_index records k
    other_recorded k below other =
        let number = recorded k (operation_node x k) below refl ∙ other_record (operation_node x k) other in
        let few = are.few in
        omega (arith, number, few)

-- The operations of a piece, performed one after another over the values that those before gave.
use Rattle.std.proofs.Common.{◌≡◌, ◌<◌, ℕ, ℤ, ◌+◌, ◌++◌, Bool, true, false, List, [], ◌∷◌, length, map, drop, take, All, get_or, Option, None, Some, IfSome, Ok, sym, ap, ◌∙◌, subst, arith, add-one, drop_of_length-le}
use mathlib.Core.Logic.{∥∥₁_elim}
use Rattle.std.proofs.lemmas.List.{map_push, take_more}
use Rattle.f77_tree.specs.Execution.{Memory}
use Rattle.f77_tree.specs.declared.programs.NameInfo.{NameInfo}
use Rattle.op_board.specs.Effects.{All_done, Effect, after_one, changes, gives, operand_at, performed, ran, value_or_zero}
use Rattle.op_board.specs.OperationNets.{OperationNet, operation_at, operation_count, operations_at}
use Rattle.op_board.specs.Operations.{From, Known, Operand, Operation, Work, gives_value}
use Rattle.op_board.proofs.OperationsApart.{operation_get}
use Rattle.operation_effects.specs.Done.{told}
use Rattle.operation_effects.specs.declared.performing.Did.{Did}
use Rattle.operation_effects.specs.declared.performing.Did.TheVariants as did
use Rattle.operation_effects.specs.OperandValues.{IsAmong, operand_values}
use Rattle.operation_effects.specs.Tasks.{IsTaskOf}
use Rattle.op_net.proofs.TaskPropositions.{result_prop}
use Rattle.operation_lists.specs.Seen.{operand_seen}
use Rattle.operation_lists.specs.declared.operations.Operand as rust
use Rattle.operation_tables.specs.OperationRows.{IsRow}
use Rattle.op_net.specs.PieceValues.{performed_over, ran_from}
use Rattle.op_net.specs.PlaceSteps.{IsOwnOperand}
use Rattle.operation_tables.specs.declared.rows.Row.{Row}
use Rattle.op_net.proofs.FiringParts.{giving}
use Rattle.operation_tables.proofs.NodesAfter.{giver_before}
use Rattle.operation_places.proofs.PieceLines.{left_from}
use Rattle.op_net.proofs.RowFacts.{row_operands}
use Rattle.op_net.proofs.WalkedRows as walked

-- ---- what an operation leaves

abbrev pub is_gave : Did → Bool
is_gave (did.Gave z) = true
is_gave _ = false

module _ (names : List NameInfo) (input : List ℤ) where
  -- an operation that gives no value doesn't give one
  pub no_value : {P : Type 0} (d : Did) (m new : Memory) (line : List ℕ) (work : Work) (args : List ℤ) → gives_value work ≡ false → performed names input m work args ≡ told d new line → is_gave d ≡ true → P
  no_value (did.Gave z) m new line work args none is gave = let e : true ≡ false = sym (giving names input m work args new z is) ∙ none in absurd cc
  no_value did.Changed m new line work args none is gave = absurd cc
  no_value did.Wrote m new line work args none is gave = absurd cc
  no_value (did.Told choice) m new line work args none is gave = absurd cc
  no_value (did.Trapped trap) m new line work args none is gave = absurd cc

-- ---- what becomes of the operations

module _ (x : OperationNet) (piece : ℕ) where
  abbrev names : List NameInfo
  names = x.net.program.names

  abbrev ops : List Operation
  ops = operations_at x piece

  operations_left : (i : ℕ) → i < operation_count x piece → drop i ops ≡ operation_at x piece i ∷ drop (i + 1) ops
  operations_left i low = left_from ops i (operation_at x piece i) (operation_get x piece i low) ∙ ap (λ k. operation_at x piece i ∷ drop k ops) (sym (add-one i))

  -- one of them is performed, over the values so far
  ran_one : (i : ℕ) (m : Memory) (values : List ℤ) (effect : Effect) → i < operation_count x piece → performed_over x piece i m values ≡ Ok effect → ran_from x piece i m values ≡ ran names x.net.input (values ++ value_or_zero effect.value ∷ []) effect (drop (i + 1) ops)
  ran_one i m values effect low is =
      ap (λ (left : List Operation). ran names x.net.input values (changes m) left) (operations_left i low)
      ∙ ap (after_one (length values) m (λ (e : Effect). ran names x.net.input (values ++ value_or_zero e.value ∷ []) e (drop (i + 1) ops))) is

  pub next_ran : (i : ℕ) (m : Memory) (values : List ℤ) (z : ℤ) → i + 1 < operation_count x piece → performed_over x piece i m values ≡ Ok (gives m z) → ran_from x piece i m values ≡ ran_from x piece (i + 1) m (values ++ z ∷ [])
  next_ran i m values z low is =
      let next = operations_left (i + 1) low in
      ran_one i m values (gives m z) (omega (arith, low)) is
      ∙ ap (λ (left : List Operation). ran names x.net.input (values ++ z ∷ []) (gives m z) left) next
      ∙ ap (λ (left : List Operation). ran names x.net.input (values ++ z ∷ []) (changes m) left) (sym next)

  pub last_ran : (last : ℕ) (m : Memory) (values : List ℤ) (effect : Effect) → last + 1 ≡ operation_count x piece → performed_over x piece last m values ≡ Ok effect → ran_from x piece last m values ≡ All_done effect
  last_ran last m values effect all is =
      ran_one last m values effect (omega (arith, all)) is
      ∙ ap (λ (left : List Operation). ran names x.net.input (values ++ value_or_zero effect.value ∷ []) effect left) (drop_of_length-le ops (omega (arith, all)))

  -- ---- the values of operands

  module _ (i : ℕ) (inside : i < operation_count x piece) where
    own_among : (operand : Operand) → IsOwnOperand x piece i operand → IsAmong i operand
    own_among (Known z) own = tt
    own_among (From number) own = giver_before x piece i number inside own.takes

    pub row_among : (row : Row) → ∥ IsRow x piece i row ∥₁ → (count : ℕ) → count ≡ i → All (λ (operand : rust.Operand). IsAmong count (operand_seen operand)) row.operands.items
    row_among row is count same j d low =
        subst (λ (n : ℕ). IsAmong n (operand_seen (get_or row.operands.items j d))) (sym same)
        (own_among (operand_seen (get_or row.operands.items j d)) (walked.own_at x piece i row.operands.items j d (row_operands x piece i row is) low inside))

-- one operand more is read
pub read_next : (values now new : List ℤ) (items shown : List rust.Operand) (j : ℕ) (d : rust.Operand) (z : ℤ) → shown ≡ items → j < length items → now ≡ operand_values values (take j items) → new ≡ now ++ z ∷ [] → z ≡ operand_at values (operand_seen (get_or shown j d)) → new ≡ operand_values values (take (j + 1) items)
read_next values now new items shown j d z same low is made read =
    let operand = operand_seen (get_or items j d) in
    made
    ∙ ap (λ y. now ++ y ∷ []) (read ∙ ap (λ (xs : List rust.Operand). operand_at values (operand_seen (get_or xs j d))) same)
    ∙ ap (λ ys. ys ++ operand_at values operand ∷ []) is
    ∙ sym (ap (operand_values values) (take_more items j d low) ∙ ap (map (operand_at values)) (map_push operand_seen (take j items) (get_or items j d)) ∙ map_push (operand_at values) (map operand_seen (take j items)) operand)

module _ (x : OperationNet) (piece i : ℕ) (row : Row) (is : ∥ IsRow x piece i row ∥₁) (values : List ℤ) where
  -- the operands of a row are those of its operation
  pub row_values : operand_values values row.operands.items ≡ map (operand_at values) (operation_at x piece i).operands
  row_values = ap (map (operand_at values)) (row_operands x piece i row is)

  -- what the task of a row gives is what its operation does
  pub row_gives : (m : Memory) (items : List rust.Operand) → items ≡ row.operands.items → (answer : Option ℤ) → IfSome answer (λ z. (input : List ℤ) (work : Work) → IsTaskOf x.net.program.names work row.task → performed x.net.program.names input m work (operand_values values items) ≡ Ok (gives m z)) → IfSome answer (λ z. performed_over x piece i m values ≡ Ok (gives m z))
  row_gives m items same None does = tt
  row_gives m items same (Some z) does =
      let work = (operation_at x piece i).work in
      ∥∥₁_elim is (result_prop _ _) (λ (r : IsRow x piece i row). ap (performed x.net.program.names x.net.input m work) (sym (ap (operand_values values) same ∙ row_values)) ∙ does x.net.input work r.task)

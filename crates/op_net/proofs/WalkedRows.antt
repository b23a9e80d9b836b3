-- The operands and the lines of an operation are gone through as its row lists them.
use Rattle.std.proofs.Common.{◌≡◌, ◌<◌, ◌≤◌, ℕ, ℤ, zero, suc, ◌+◌, ◌++◌, true, List, [], ◌∷◌, length, get_or, map, drop, fold, None, refl, sym, ap, ◌∙◌, subst, arith, length-append, length-drop}
use Rattle.std.proofs.Math.Logic.{∥∥₁_map}
use Rattle.std.proofs.lemmas.List.{length-map}
use Rattle.std.specs.List.{list_all}
use Rattle.list_laws.specs.Member.{Member}
use Rattle.net_board.proofs.ListPlaces.{length_slice_set}
use Rattle.op_board.specs.OperationNets.{OperationNet, first_operation, needed, operation_at, operation_count}
use Rattle.op_board.specs.OperationTokens.{OperationTokens, givers, is_given, operand_in, stands_before}
use Rattle.op_board.specs.Operations.{Operand}
use Rattle.op_board.proofs.NeededLines.{needed_has}
use Rattle.operation_lists.specs.Seen.{operand_seen}
use Rattle.operation_lists.specs.declared.operations.Operand as rust
use Rattle.operation_tables.specs.OperationRows.{IsHop, IsRow}
use Rattle.op_net.specs.PlaceSteps.{IsOwnOperand, line_dropped, line_moved, operand_taken, values_for}
use Rattle.operation_places.specs.PlacesView.{IsAheadBy, MakesUp, line_put}
use Rattle.operation_tables.specs.declared.hops.Hop.{Hop}
use Rattle.operation_places.specs.declared.places.Places.{Places}
use Rattle.operation_tables.specs.declared.rows.Row.{Row}
use Rattle.op_net.proofs.MadeUp.{LeavesAhead, leaves_ahead, leaves_next}
use Rattle.operation_places.proofs.FoldedLists.{Member-left_at, first_passes, fold_next, left_at, map_next, not_left, rest_passes}
use Rattle.op_net.proofs.MovedLines.{distinct_needed, moved_length, moved_passed, moved_stand, still_stand}
use Rattle.op_net.proofs.TakenOperands.{own_operand, rest_given, rest_read, taken_length, values_next}

get_or_any : {A : Type 0} (xs : List A) (i : ℕ) (a b : A) → i < length xs → get_or xs i a ≡ get_or xs i b
get_or_any [] i a b low = absurd (omega (arith, low))
get_or_any (x ∷ xs) zero a b low = refl
get_or_any (x ∷ xs) (suc i) a b low = get_or_any xs i a b (omega (arith, low))

left_get : {A B : Type 0} (f : A → B) (items : List A) (seen : List B) (i : ℕ) (d : A) → map f items ≡ seen → i < length items → drop i seen ≡ f (get_or items i d) ∷ drop (i + 1) seen
left_get f items seen i d is low = left_at f items seen i (get_or items i d) is low (get_or_any items i d (get_or items i d) low)

pub read_length : {A B : Type 0} (done : List B) (xs : List A) (i : ℕ) (f whole : A → B) → done ++ map f (drop i xs) ≡ map whole xs → i ≤ length xs → length done ≡ i
read_length done xs i f whole is low =
    let all = ap length is in
    let both = length-append done (map f (drop i xs)) in
    let left = length-map (drop i xs) f in
    let every = length-map xs whole in
    let rest = length-drop i xs in
    omega (arith, all, both, left, every, rest, low)

module _ (x : OperationNet) (piece i : ℕ) where
  -- ---- operands

  module _ (items : List rust.Operand) (j : ℕ) (d : rust.Operand) (seen : map operand_seen items ≡ (operation_at x piece i).operands) (low : j < length items) where
    abbrev operands : List Operand
    operands = (operation_at x piece i).operands

    abbrev operand : Operand
    operand = operand_seen (get_or items j d)

    left_operands : drop j operands ≡ operand ∷ drop (j + 1) operands
    left_operands = left_get operand_seen items operands j d seen low

    -- so many values are taken for it and for those after it
    takes_next : length (givers x piece (drop j operands)) ≡ values_for operand + length (givers x piece (drop (j + 1) operands))
    takes_next = ap (λ (os : List Operand). length (givers x piece os)) left_operands ∙ values_next x piece operand (drop (j + 1) operands)

    module _ (old now : Places) (first : ℕ) (is : first ≡ first_operation x piece) (leaves : LeavesAhead x old now (first_operation x piece + i) (length (givers x piece operands)) (length (givers x piece (drop j operands)))) where
      pub operand_ahead : ∥ IsAheadBy x old (first_operation x piece + i) (length (givers x piece operands)) ∥₁ → ∥ IsAheadBy x now (first + i) (values_for operand) ∥₁
      operand_ahead ahead =
          subst (λ (f : ℕ). ∥ IsAheadBy x now (f + i) (values_for operand) ∥₁) (sym is)
          (leaves_ahead x (first_operation x piece + i) old now (length (givers x piece operands)) (length (givers x piece (drop j operands))) (values_for operand) (length (givers x piece (drop (j + 1) operands))) ahead leaves takes_next)

      pub operand_leaves : (new : Places) → MakesUp x now new (first + i) (values_for operand) → LeavesAhead x old new (first_operation x piece + i) (length (givers x piece operands)) (length (givers x piece (drop (j + 1) operands)))
      operand_leaves new makes =
          leaves_next x (first_operation x piece + i) old now new (length (givers x piece operands)) (length (givers x piece (drop j operands))) (values_for operand) (length (givers x piece (drop (j + 1) operands))) leaves takes_next
          (subst (λ (f : ℕ). MakesUp x now new (f + i) (values_for operand)) is makes)

    pub own_at : i < operation_count x piece → IsOwnOperand x piece i operand
    own_at inside = own_operand x piece i inside operand (Member-left_at operands j operand (drop (j + 1) operands) left_operands)

    pub given_at : (m : OperationTokens) → list_all (is_given x m piece) (drop j operands) ≡ true → is_given x m piece operand ≡ true
    given_at m given = first_passes (is_given x m piece) (drop j operands) operand (drop (j + 1) operands) left_operands given

    pub read_next : (f : Operand → ℤ) (done new all : List ℤ) → new ≡ done ++ f operand ∷ [] → done ++ map f (drop j operands) ≡ all → new ++ map f (drop (j + 1) operands) ≡ all
    read_next f done new all made so = map_next f done new all operand (drop j operands) (drop (j + 1) operands) left_operands made so

    pub record IsTakenOn (m new goal : OperationTokens) : Type 0 where
      pub taken : fold (operand_taken x piece) new (drop (j + 1) operands) ≡ goal
      pub given : list_all (is_given x new piece) (drop (j + 1) operands) ≡ true
      pub values : length new.values ≡ length m.values
      -- what is left is read as before
      pub read : map (operand_in x new piece) (drop (j + 1) operands) ≡ map (operand_in x m piece) (drop (j + 1) operands)

    pub taken_next : (m new goal : OperationTokens) → i < operation_count x piece → new ≡ operand_taken x piece m operand → fold (operand_taken x piece) m (drop j operands) ≡ goal → list_all (is_given x m piece) (drop j operands) ≡ true → IsTakenOn m new goal
    taken_next m new goal inside made so given = record {
      taken = fold_next (operand_taken x piece) m new operand (drop j operands) (drop (j + 1) operands) goal left_operands made so;
      given = subst (λ (n : OperationTokens). list_all (is_given x n piece) (drop (j + 1) operands) ≡ true) (sym made)
          (rest_given x piece i inside m j operand (drop (j + 1) operands) left_operands (rest_passes (is_given x m piece) (drop j operands) operand (drop (j + 1) operands) left_operands given));
      values = ap (λ (n : OperationTokens). length n.values) made ∙ taken_length x piece m operand;
      read = ap (λ (n : OperationTokens). map (operand_in x n piece) (drop (j + 1) operands)) made ∙ rest_read x piece i inside m j operand (drop (j + 1) operands) left_operands;
    }

  -- ---- lines

  abbrev line_of : Hop → ℕ
  line_of hop = hop.line

  module _ (items : List Hop) (j : ℕ) (d : Hop) (seen : map (λ (hop : Hop). hop.line) items ≡ needed x piece i) (low : j < length items) where
    abbrev line : ℕ
    line = (get_or items j d).line

    abbrev lines : List ℕ
    lines = needed x piece i

    left_lines : drop j lines ≡ line ∷ drop (j + 1) lines
    left_lines = left_get line_of items lines j d seen low

    -- with it one more is left than after it
    lines_next : length (drop j lines) ≡ 1 + length (drop (j + 1) lines)
    lines_next = let same : length (drop j lines) ≡ suc (length (drop (j + 1) lines)) = ap length left_lines in omega (arith, same)

    module _ (old now : Places) (first : ℕ) (is : first ≡ first_operation x piece) (leaves : LeavesAhead x old now (first_operation x piece + i) (length lines) (length (drop j lines))) where
      pub line_ahead : ∥ IsAheadBy x old (first_operation x piece + i) (length lines) ∥₁ → ∥ IsAheadBy x now (first + i) 1 ∥₁
      line_ahead ahead =
          subst (λ (f : ℕ). ∥ IsAheadBy x now (f + i) 1 ∥₁) (sym is)
          (leaves_ahead x (first_operation x piece + i) old now (length lines) (length (drop j lines)) 1 (length (drop (j + 1) lines)) ahead leaves lines_next)

      pub line_leaves : (new : Places) → MakesUp x now new (first + i) 1 → LeavesAhead x old new (first_operation x piece + i) (length lines) (length (drop (j + 1) lines))
      line_leaves new makes =
          leaves_next x (first_operation x piece + i) old now new (length lines) (length (drop j lines)) 1 (length (drop (j + 1) lines)) leaves lines_next
          (subst (λ (f : ℕ). MakesUp x now new (f + i) 1) is makes)

    line_needed : Member lines line
    line_needed = Member-left_at lines j line (drop (j + 1) lines) left_lines

    pub line_exists : line < x.net.routing.lines
    line_exists = (needed_has x piece i line line_needed).0

    pub line_needs : x.needs piece i line ≡ true
    line_needs = (needed_has x piece i line line_needed).1

    pub line_stands : (m : OperationTokens) → list_all (stands_before x m piece i) (drop j lines) ≡ true → stands_before x m piece i line ≡ true
    line_stands m stand = first_passes (stands_before x m piece i) (drop j lines) line (drop (j + 1) lines) left_lines stand

    apart : Member (drop (j + 1) lines) line → ⊥
    apart = not_left lines j line (drop (j + 1) lines) (distinct_needed x piece i) left_lines

    rest_stand : (m : OperationTokens) → list_all (stands_before x m piece i) (drop j lines) ≡ true → list_all (stands_before x m piece i) (drop (j + 1) lines) ≡ true
    rest_stand m stand = rest_passes (stands_before x m piece i) (drop j lines) line (drop (j + 1) lines) left_lines stand

    pub record IsMovedOn (step : OperationTokens → ℕ → OperationTokens) (m new goal : OperationTokens) : Type 0 where
      pub moved : fold step new (drop (j + 1) lines) ≡ goal
      pub stand : list_all (stands_before x new piece i) (drop (j + 1) lines) ≡ true
      pub long : length new.tokens.lines ≡ length m.tokens.lines
      pub passed : length new.passed ≡ length m.passed

    pub moved_next : (edge : ℕ) (m new goal : OperationTokens) → new ≡ line_moved x piece i edge m line → fold (line_moved x piece i edge) m (drop j lines) ≡ goal → list_all (stands_before x m piece i) (drop j lines) ≡ true → IsMovedOn (line_moved x piece i edge) m new goal
    moved_next edge m new goal made so stand = record {
      moved = fold_next (line_moved x piece i edge) m new line (drop j lines) (drop (j + 1) lines) goal left_lines made so;
      stand = subst (λ (n : OperationTokens). list_all (stands_before x n piece i) (drop (j + 1) lines) ≡ true) (sym made) (moved_stand x piece i edge m line (drop (j + 1) lines) apart (rest_stand m stand));
      long = ap (λ (n : OperationTokens). length n.tokens.lines) made ∙ moved_length x piece i edge m line;
      passed = ap (λ (n : OperationTokens). length n.passed) made ∙ moved_passed x piece i edge m line;
    }

    pub dropped_next : (m new goal : OperationTokens) → new ≡ line_put m line None 0 → fold line_dropped m (drop j lines) ≡ goal → list_all (stands_before x m piece i) (drop j lines) ≡ true → IsMovedOn line_dropped m new goal
    dropped_next m new goal made so stand = record {
      moved = fold_next line_dropped m new line (drop j lines) (drop (j + 1) lines) goal left_lines made so;
      stand = subst (λ (n : OperationTokens). list_all (stands_before x n piece i) (drop (j + 1) lines) ≡ true) (sym made) (still_stand x piece i m line None 0 (drop (j + 1) lines) apart (rest_stand m stand));
      long = ap (λ (n : OperationTokens). length n.tokens.lines) made ∙ length_slice_set m.tokens.lines line None;
      passed = ap (λ (n : OperationTokens). length n.passed) made ∙ length_slice_set m.passed line 0;
    }

  pub hop_at : (row : Row) (items : List Hop) (j : ℕ) (d : Hop) → ∥ IsRow x piece i row ∥₁ → items ≡ row.hops.items → j < length items → ∥ IsHop x piece i (get_or items j d) ∥₁
  hop_at row items j d is same low =
      let below : j < length row.hops.items = subst (λ (hops : List Hop). j < length hops) same low in
      ∥∥₁_map is (λ (r : IsRow x piece i row). subst (λ (hops : List Hop). IsHop x piece i (get_or hops j d)) (sym same) (r.hops j d below))

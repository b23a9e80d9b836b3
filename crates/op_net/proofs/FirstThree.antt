-- The operands of an operation that has at most three are taken, with known zeros after them.
use Rattle.std.proofs.Common.{◌≡◌, ◌<◌, ◌≤◌, ◌⊎◌, ℕ, zero, suc, pos, ◌+◌, ◌-◌, ◌++◌, ◌&&◌, true, List, [], ◌∷◌, length, get_or, map, fold, refl, sym, ap, ◌∙◌, subst, inl, inr, arith}
use Rattle.std.specs.List.{list_all}
use Rattle.std.proofs.lemmas.Bool.{and_parts}
use Rattle.list_laws.specs.Member.{Member}
use Rattle.op_board.specs.OperationLists.{takes_by}
use Rattle.op_board.specs.OperationNets.{OperationNet, operation_at, operation_count}
use Rattle.op_board.specs.OperationTokens.{OperationTokens, givers, is_given, operand_in}
use Rattle.op_board.specs.Operations.{From, Known, Operand}
use Rattle.operation_lists.specs.Seen.{operand_seen}
use Rattle.operation_lists.specs.declared.operations.Operand as rust
use Rattle.operation_tables.specs.OperationRows.{IsRow, first_three}
use Rattle.op_net.specs.PlaceSteps.{IsOwnOperand, operand_taken, values_for}
use Rattle.operation_places.specs.StandingChanges.{values_taken}
use Rattle.operation_tables.specs.declared.rows.Row.{Row}
use Rattle.op_net.proofs.RowFacts.{row_few}
use Rattle.op_net.proofs.TakenOperands.{once_taken, operands_taken, own_operand, still_given, still_read, values_next}

-- so many zeros that are known
abbrev zeros : ℕ → List Operand
zeros zero = []
zeros (suc n) = Known (pos 0) ∷ zeros n

with_zeros : (operands : List Operand) → length operands ≤ 3 → first_three operands ≡ operands ++ zeros (3 - length operands)
with_zeros [] few = refl
with_zeros (a ∷ []) few = refl
with_zeros (a ∷ b ∷ []) few = refl
with_zeros (a ∷ b ∷ c ∷ []) few = refl
with_zeros (a ∷ b ∷ c ∷ d ∷ more) few = absurd (omega (arith, few))

three_long : (operands : List Operand) → length (first_three operands) ≡ 3
three_long [] = refl
three_long (a ∷ []) = refl
three_long (a ∷ b ∷ []) = refl
three_long (a ∷ b ∷ c ∷ more) = refl

seen_three : (few : List rust.Operand) (d : rust.Operand) (operands : List Operand) → map operand_seen few ≡ first_three operands → first_three operands ≡ operand_seen (get_or few 0 d) ∷ operand_seen (get_or few 1 d) ∷ operand_seen (get_or few 2 d) ∷ []
seen_three [] d operands is = let e : 0 ≡ 3 = ap length is ∙ three_long operands in absurd (omega (arith, e))
seen_three (a ∷ []) d operands is = let e : 1 ≡ 3 = ap length is ∙ three_long operands in absurd (omega (arith, e))
seen_three (a ∷ b ∷ []) d operands is = let e : 2 ≡ 3 = ap length is ∙ three_long operands in absurd (omega (arith, e))
seen_three (a ∷ b ∷ c ∷ []) d operands is = sym is
seen_three (a ∷ b ∷ c ∷ e ∷ more) d operands is = let long : suc (suc (suc (suc (length (map operand_seen more))))) ≡ 3 = ap length is ∙ three_long operands in absurd (omega (arith, long))

zeros_take : (n number : ℕ) → takes_by (zeros n) number ≡ 0
zeros_take zero number = refl
zeros_take (suc n) number = zeros_take n number

zeros_known : (n : ℕ) (operand : Operand) → Member (zeros n) operand → operand ≡ Known (pos 0)
zeros_known zero operand among = absurd among
zeros_known (suc n) operand (inl same) = sym same
zeros_known (suc n) operand (inr among) = zeros_known n operand among

member_of_both : (xs ys : List Operand) (operand : Operand) → Member (xs ++ ys) operand → Member xs operand ⊎ Member ys operand
member_of_both [] ys operand among = inr among
member_of_both (x ∷ xs) ys operand (inl same) = inl (inl same)
member_of_both (x ∷ xs) ys operand (inr among) = by (member_of_both xs ys operand among)
  where
    by : Member xs operand ⊎ Member ys operand → Member (x ∷ xs) operand ⊎ Member ys operand
    by (inl here) = inl (inr here)
    by (inr there) = inr there

module _ (x : OperationNet) (piece : ℕ) where
  zeros_taken : (m : OperationTokens) (n : ℕ) → fold (operand_taken x piece) m (zeros n) ≡ m
  zeros_taken m zero = refl
  zeros_taken m (suc n) = zeros_taken m n

  fold_with_zeros : (m : OperationTokens) (operands : List Operand) (n : ℕ) → fold (operand_taken x piece) m (operands ++ zeros n) ≡ fold (operand_taken x piece) m operands
  fold_with_zeros m [] n = zeros_taken m n
  fold_with_zeros m (operand ∷ operands) n = fold_with_zeros (operand_taken x piece m operand) operands n

  givers_none : (n : ℕ) → givers x piece (zeros n) ≡ []
  givers_none zero = refl
  givers_none (suc n) = givers_none n

  givers_with_zeros : (operands : List Operand) (n : ℕ) → length (givers x piece (operands ++ zeros n)) ≡ length (givers x piece operands)
  givers_with_zeros [] n = ap length (givers_none n)
  givers_with_zeros (Known z ∷ operands) n = givers_with_zeros operands n
  givers_with_zeros (From number ∷ operands) n = ap suc (givers_with_zeros operands n)

  zeros_given : (m : OperationTokens) (n : ℕ) → list_all (is_given x m piece) (zeros n) ≡ true
  zeros_given m zero = refl
  zeros_given m (suc n) = zeros_given m n

  given_with_zeros : (m : OperationTokens) (operands : List Operand) (n : ℕ) → list_all (is_given x m piece) operands ≡ true → list_all (is_given x m piece) (operands ++ zeros n) ≡ true
  given_with_zeros m [] n given = zeros_given m n
  given_with_zeros m (operand ∷ operands) n given =
      let parts = and_parts (is_given x m piece operand) (list_all (is_given x m piece) operands) given in
      ap (λ b. b && list_all (is_given x m piece) (operands ++ zeros n)) parts.0 ∙ given_with_zeros m operands n parts.1

  module _ (i : ℕ) where
    -- these operands of the operation may be taken one after another
    pub record MayTake (m : OperationTokens) (operands : List Operand) : Type 0 where
      pub own : (operand : Operand) → Member operands operand → IsOwnOperand x piece i operand
      pub once : (number : ℕ) → takes_by operands number ≤ 1
      pub given : list_all (is_given x m piece) operands ≡ true

    module _ (m : OperationTokens) (operand : Operand) (rest : List Operand) (may : MayTake m (operand ∷ rest)) where
      pub first_own : IsOwnOperand x piece i operand
      first_own = may.own operand (inl refl)

      pub first_given : is_given x m piece operand ≡ true
      first_given = (and_parts (is_given x m piece operand) (list_all (is_given x m piece) rest) may.given).0

      less_once : (number : ℕ) → takes_by rest number ≤ 1
      less_once number =
          let all = Rattle.op_board.proofs.ValueTaking.takes_by_more operand rest number in
          let most = may.once number in
          omega (arith, all, most)

      -- and so may the others after the first
      pub rest_may : (new : OperationTokens) → new ≡ operand_taken x piece m operand → MayTake new rest
      rest_may new made = record {
        own = λ other among. may.own other (inr among);
        once = less_once;
        given = subst (λ (n : OperationTokens). list_all (is_given x n piece) rest ≡ true) (sym made)
            (still_given x piece m operand rest may.once (and_parts (is_given x m piece operand) (list_all (is_given x m piece) rest) may.given).1);
      }

      -- which are read as before
      pub rest_same : (new : OperationTokens) → new ≡ operand_taken x piece m operand → map (operand_in x new piece) rest ≡ map (operand_in x m piece) rest
      rest_same new made = ap (λ (n : OperationTokens). map (operand_in x n piece) rest) made ∙ still_read x piece m operand rest may.once

    -- ---- the three

    module _ (inside : i < operation_count x piece) (few : length (operation_at x piece i).operands ≤ 3) where
      abbrev own_operands : List Operand
      own_operands = (operation_at x piece i).operands

      abbrev missing : ℕ
      missing = 3 - length own_operands

      three_are : first_three own_operands ≡ own_operands ++ zeros missing
      three_are = with_zeros own_operands few

      own_all : (operand : Operand) → Member own_operands operand ⊎ Member (zeros missing) operand → IsOwnOperand x piece i operand
      own_all operand (inl here) = own_operand x piece i inside operand here
      own_all operand (inr known) = subst (λ (o : Operand). IsOwnOperand x piece i o) (sym (zeros_known missing operand known)) tt

      three_may : (m : OperationTokens) → list_all (is_given x m piece) own_operands ≡ true → MayTake m (first_three own_operands)
      three_may m given = record {
        own = λ operand among. own_all operand (member_of_both own_operands (zeros missing) operand (subst (λ (os : List Operand). Member os operand) three_are among));
        once = λ number.
            let join = Rattle.op_board.proofs.ValueTaking.takes_by_join own_operands (zeros missing) number in
            let none = zeros_take missing number in
            let one = once_taken x piece i inside number in
            let same = ap (λ (os : List Operand). takes_by os number) three_are in
            omega (arith, join, none, one, same);
        given = ap (list_all (is_given x m piece)) three_are ∙ given_with_zeros m own_operands missing given;
      }

      three_taken : (m : OperationTokens) → fold (operand_taken x piece) m (first_three own_operands) ≡ values_taken x m piece i
      three_taken m = ap (fold (operand_taken x piece) m) three_are ∙ fold_with_zeros m own_operands missing ∙ operands_taken x piece m i

      three_givers : length (givers x piece (first_three own_operands)) ≡ length (givers x piece own_operands)
      three_givers = ap (λ (os : List Operand). length (givers x piece os)) three_are ∙ givers_with_zeros own_operands missing

      -- ---- as a row lists them

      module _ (row : Row) (is : ∥ IsRow x piece i row ∥₁) (d : rust.Operand) where
        abbrev few_at : ℕ → Operand
        few_at j = operand_seen (get_or row.few j d)

        few_are : first_three own_operands ≡ few_at 0 ∷ few_at 1 ∷ few_at 2 ∷ []
        few_are = seen_three row.few d own_operands (row_few x piece i row is)

        pub few_count : length (givers x piece own_operands) ≡ values_for (few_at 0) + (values_for (few_at 1) + values_for (few_at 2))
        few_count =
            let same : length (givers x piece (few_at 0 ∷ few_at 1 ∷ few_at 2 ∷ [])) ≡ length (givers x piece own_operands) = ap (λ (os : List Operand). length (givers x piece os)) (sym few_are) ∙ three_givers in
            let a = values_next x piece (few_at 0) (few_at 1 ∷ few_at 2 ∷ []) in
            let b = values_next x piece (few_at 1) (few_at 2 ∷ []) in
            let c : length (givers x piece (few_at 2 ∷ [])) ≡ values_for (few_at 2) + 0 = values_next x piece (few_at 2) [] in
            omega (arith, same, a, b, c)

        module _ (m : OperationTokens) (given : list_all (is_given x m piece) own_operands ≡ true) where
          pub few_may : MayTake m (few_at 0 ∷ few_at 1 ∷ few_at 2 ∷ [])
          few_may = subst (λ (os : List Operand). MayTake m os) few_are (three_may m given)

          module _ (second : OperationTokens) (made : second ≡ operand_taken x piece m (few_at 0)) where
            pub second_may : MayTake second (few_at 1 ∷ few_at 2 ∷ [])
            second_may = rest_may m (few_at 0) (few_at 1 ∷ few_at 2 ∷ []) few_may second made

            module _ (third : OperationTokens) (more : third ≡ operand_taken x piece second (few_at 1)) where
              pub third_may : MayTake third (few_at 2 ∷ [])
              third_may = rest_may second (few_at 1) (few_at 2 ∷ []) second_may third more

              pub few_read : map (operand_in x m piece) (first_three own_operands) ≡ operand_in x m piece (few_at 0) ∷ operand_in x second piece (few_at 1) ∷ operand_in x third piece (few_at 2) ∷ []
              few_read =
                  ap (map (operand_in x m piece)) few_are
                  ∙ ap (λ zs. operand_in x m piece (few_at 0) ∷ zs) (sym (rest_same m (few_at 0) (few_at 1 ∷ few_at 2 ∷ []) few_may second made))
                  ∙ ap (λ zs. operand_in x m piece (few_at 0) ∷ operand_in x second piece (few_at 1) ∷ zs) (sym (rest_same second (few_at 1) (few_at 2 ∷ []) second_may third more))

              pub few_taken : (end : OperationTokens) → end ≡ operand_taken x piece third (few_at 2) → end ≡ values_taken x m piece i
              few_taken end last =
                  last
                  ∙ ap (λ (n : OperationTokens). operand_taken x piece n (few_at 2)) (more ∙ ap (λ (n : OperationTokens). operand_taken x piece n (few_at 1)) made)
                  ∙ ap (fold (operand_taken x piece) m) (sym few_are)
                  ∙ three_taken m

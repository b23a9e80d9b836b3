-- Why operations trap: an operator at words that its operands may be, or no word of the data is left.
use Rattle.std.proofs.Common.{◌≡◌, ℕ, zero, suc, ◌+◌, ◌<◌, ℤ, pos, Bool, true, false, List, [], ◌∷◌, ◌++◌, length, map, Option, Some, None, Result, Ok, Err, All, slice_get, refl, sym, ap, subst, arith}
use Rattle.std.specs.Prelude.{if◌then◌else◌, is_err}
use Rattle.std.proofs.lemmas.List.{length-append}
use Rattle.std.proofs.lemmas.List.Elements.{All-append}
use Rattle.op_table.specs.declared.Trap.{Trap}
use Rattle.op_table.specs.Known.{MayAllBe}
use Rattle.op_table.specs.Operators.{applied}
use Rattle.op_table.specs.Words.{IsWord}
use Rattle.op_table.proofs.Laws.{applied-word}
use Rattle.f77_tree.specs.declared.programs.NameInfo.{NameInfo}
use Rattle.f77_tree.specs.Execution.{Memory, next_word}
use Rattle.f77_tree.specs.Value.{kind_of, place_of, word_at}
use Rattle.f77_tree.proofs.AllLemmas.{All-cons, All-get, All-nil}
use Rattle.f77_tree.proofs.Safety.{read-word, word_at-word, zero-word}
use Rattle.alias_classes.specs.Classes.{ClassTable}
use Rattle.op_board.specs.Operations.{Operand, Known, From, Work, Load, Operate, Store, Take, Write, Begin, Advance, DecideTruth, DecideSign, DecideNumber, DecideTrips, DecideFirst, Operation, known_of, gives_value}
use Rattle.op_board.specs.Effects.{Effect, All_done, Stopped, after_one, gives, is_place, loaded, operand_at, performed, ran, read_word, result_given, taken_from, value_or_zero, word_at_place}
use Rattle.op_board.specs.Needs.{OperationNeeds, WorkNeeds}

-- ---- values are words

-- operands whose values are words may be that
may_all_be : (values : List ℤ) (operands : List Operand) → All IsWord values → MayAllBe (map known_of operands) (map (operand_at values) operands)
may_all_be values [] words = tt
may_all_be values (Known z ∷ operands) words = (refl, may_all_be values operands words)
may_all_be values (From number ∷ operands) words = (word_at-word values number words, may_all_be values operands words)

loaded-word : (names : List NameInfo) (store : List ℤ) (name : ℕ) (args : List ℤ) → All IsWord store → IsWord (loaded names store name args)
loaded-word names store name [] words = read-word (kind_of names name) (word_at store (place_of names name)) (word_at-word store (place_of names name) words)
loaded-word names store name (place ∷ more) words = by (is_place names name place)
  where
    by : (b : Bool) → IsWord (if b then read_word names store name (word_at_place names name place) else pos 0)
    by true = read-word (kind_of names name) (word_at store (word_at_place names name place)) (word_at-word store (word_at_place names name place) words)
    by false = zero-word

-- an operation that gives a value gives a word, and leaves the store
record GivesWord (m : Memory) (effect : Effect) : Type 0 where
  word : IsWord (value_or_zero effect.value)
  store : effect.memory.store ≡ m.store

module _ (names : List NameInfo) (input : List ℤ) (fed : All IsWord input) where
  taken_word : (m : Memory) (o : Option ℤ) (effect : Effect) → next_word input m ≡ o → taken_from m o ≡ Ok effect → GivesWord m effect
  taken_word m None effect f e = absurd cc
  taken_word m (Some z) effect f e =
      let is : gives (record m { taken = suc m.taken }) z ≡ effect = cc in
      subst (GivesWord m) is (record { word = All-get IsWord input m.taken z fed f; store = refl })

  operated_word : (m : Memory) (r : Result ℤ Trap) (effect : Effect) → ((z : ℤ) → r ≡ Ok z → IsWord z) → result_given m r ≡ Ok effect → GivesWord m effect
  operated_word m (Err trap) effect words e = absurd cc
  operated_word m (Ok z) effect words e =
      let is : gives m z ≡ effect = cc in
      subst (GivesWord m) is (record { word = words z refl; store = refl })

  gives_word : (m : Memory) (work : Work) (args : List ℤ) (effect : Effect) → All IsWord m.store → gives_value work ≡ true → performed names input m work args ≡ Ok effect → GivesWord m effect
  gives_word m (Load name subs) args effect words giving e =
      let is : gives m (loaded names m.store name args) ≡ effect = cc in
      subst (GivesWord m) is (record { word = loaded-word names m.store name args words; store = refl })
  gives_word m (Operate op) args effect words giving e = operated_word m (applied op args) effect (λ z is. applied-word op args z is) e
  gives_word m Take args effect words giving e = taken_word m (next_word input m) effect refl e
  gives_word m (Store name subs) args effect words giving e = let no : false ≡ true = giving in absurd cc
  gives_word m (Write items) args effect words giving e = let no : false ≡ true = giving in absurd cc
  gives_word m (Begin loop_no var) args effect words giving e = let no : false ≡ true = giving in absurd cc
  gives_word m (Advance loop_no var) args effect words giving e = let no : false ≡ true = giving in absurd cc
  gives_word m DecideTruth args effect words giving e = let no : false ≡ true = giving in absurd cc
  gives_word m DecideSign args effect words giving e = let no : false ≡ true = giving in absurd cc
  gives_word m (DecideNumber count) args effect words giving e = let no : false ≡ true = giving in absurd cc
  gives_word m (DecideTrips loop_no) args effect words giving e = let no : false ≡ true = giving in absurd cc
  gives_word m DecideFirst args effect words giving e = let no : false ≡ true = giving in absurd cc

  -- ---- what traps needs the line of output

  module _ (c : ClassTable) (touches : ℕ → Bool) (touched : touches 0 ≡ true) where
    operator_needs : (m : Memory) (operator : _) (operands : List Operand) (args : List ℤ) (trap : Trap) (r : Result ℤ Trap) → MayAllBe (map known_of operands) args → applied operator args ≡ r → result_given m r ≡ Err trap → WorkNeeds c touches (Operate operator) operands zero
    operator_needs m operator operands args trap (Ok z) may f e = absurd cc
    operator_needs m operator operands args trap (Err other) may f e = (record { args = args; words = may; traps = ap is_err f }, touched)

    err_needs : (m : Memory) (work : Work) (operands : List Operand) (args : List ℤ) (trap : Trap) → MayAllBe (map known_of operands) args → performed names input m work args ≡ Err trap → WorkNeeds c touches work operands zero
    err_needs m (Load name subs) operands args trap may e = absurd cc
    err_needs m (Operate op) operands args trap may e = operator_needs m op operands args trap (applied op args) may refl e
    err_needs m Take operands args trap may e = tt
    err_needs m (Store name subs) operands args trap may e = absurd cc
    err_needs m (Write items) operands args trap may e = absurd cc
    err_needs m (Begin loop_no var) operands args trap may e = absurd cc
    err_needs m (Advance loop_no var) operands args trap may e = absurd cc
    err_needs m DecideTruth operands args trap may e = absurd cc
    err_needs m DecideSign operands args trap may e = absurd cc
    err_needs m (DecideNumber count) operands args trap may e = absurd cc
    err_needs m (DecideTrips loop_no) operands args trap may e = absurd cc
    err_needs m DecideFirst operands args trap may e = absurd cc

    -- the operation that traps, counted from this number
    pub record HasTrapped (ops : List Operation) (first at : ℕ) : Type 0 where
      pub op : Operation
      pub number : ℕ
      pub found : slice_get ops number ≡ Some op
      pub is : at ≡ first + number
      pub needs : OperationNeeds c touches op 0

    -- all but the last one give values
    abbrev pub AllButLastGive : List Operation → Type 0
    AllButLastGive ops = (i : ℕ) (op : Operation) → slice_get ops i ≡ Some op → suc i < length ops → gives_value op.work ≡ true

    rest_give : (op : Operation) (ops : List Operation) → AllButLastGive (op ∷ ops) → AllButLastGive ops
    rest_give op ops give i other at low = give (suc i) other at (omega (arith, low))

    later : (op : Operation) (ops : List Operation) (first next at : ℕ) → next ≡ suc first → HasTrapped ops next at → HasTrapped (op ∷ ops) first at
    later op ops first next at e trapped = let is = trapped.is in record { op = trapped.op; number = suc trapped.number; found = trapped.found; is = omega (arith, is, e); needs = trapped.needs }

    pub trap_needs : (ops : List Operation) (values : List ℤ) (last : Effect) (at : ℕ) (new : Memory) (trap : Trap) → All IsWord values → All IsWord last.memory.store → AllButLastGive ops →
        ran names input values last ops ≡ Stopped at new trap → HasTrapped ops (length values) at
    trap_needs [] values last at new trap words store give e = absurd cc
    trap_needs (op ∷ []) values last at new trap words store give e = one op (performed names input last.memory op.work (map (operand_at values) op.operands)) refl e
      where
        one : (op : Operation) (r : Result Effect Trap) → performed names input last.memory op.work (map (operand_at values) op.operands) ≡ r → after_one (length values) last.memory (λ effect. All_done effect) r ≡ Stopped at new trap → HasTrapped (op ∷ []) (length values) at
        one op (Ok effect) f h = absurd cc
        one op (Err other) f h =
            let same : length values ≡ at = cc in
            record { op = op; number = 0; found = refl; is = omega (arith, same); needs = err_needs last.memory op.work op.operands (map (operand_at values) op.operands) other (may_all_be values op.operands words) f }
    trap_needs (op ∷ next ∷ ops) values last at new trap words store give e =
        by (λ effect new_words new_store h. trap_needs (next ∷ ops) (values ++ value_or_zero effect.value ∷ []) effect at new trap new_words new_store (rest_give op (next ∷ ops) give) h)
        (performed names input last.memory op.work (map (operand_at values) op.operands)) refl e
      where
        by : ((effect : Effect) → All IsWord (values ++ value_or_zero effect.value ∷ []) → All IsWord effect.memory.store → ran names input (values ++ value_or_zero effect.value ∷ []) effect (next ∷ ops) ≡ Stopped at new trap → HasTrapped (next ∷ ops) (length (values ++ value_or_zero effect.value ∷ [])) at) →
            (r : Result Effect Trap) → performed names input last.memory op.work (map (operand_at values) op.operands) ≡ r → after_one (length values) last.memory (λ effect. ran names input (values ++ value_or_zero effect.value ∷ []) effect (next ∷ ops)) r ≡ Stopped at new trap → HasTrapped (op ∷ next ∷ ops) (length values) at
        by rest (Err other) f h =
            let same : length values ≡ at = cc in
            record { op = op; number = 0; found = refl; is = omega (arith, same); needs = err_needs last.memory op.work op.operands (map (operand_at values) op.operands) other (may_all_be values op.operands words) f }
        by rest (Ok effect) f h =
            let giving : gives_value op.work ≡ true = give 0 op refl (omega arith) in
            let word = gives_word last.memory op.work (map (operand_at values) op.operands) effect store giving f in
            let count = length-append values (value_or_zero effect.value ∷ []) in
            later op (next ∷ ops) (length values) (length (values ++ value_or_zero effect.value ∷ [])) at (omega (arith, count))
            (rest effect (All-append IsWord values (value_or_zero effect.value ∷ []) words (All-cons IsWord (value_or_zero effect.value) [] word.word (All-nil IsWord))) (subst (All IsWord) (sym word.store) store) h)

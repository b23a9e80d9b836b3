-- Operations that are performed one after another, up to some place in their list.
use Rattle.std.proofs.Common.{◌≡◌, ℕ, ◌+◌, ℤ, pos, List, [], ◌∷◌, ◌++◌, length, map, Option, Some, None, Result, Ok, Err, slice_get, unwrap_or, refl, sym, ap, subst, ◌∙◌, append_assoc, append-nil}
use Rattle.std.specs.Option.{option_map}
use Rattle.std.proofs.lemmas.List.{length-append}
use Rattle.op_table.specs.declared.Op.{Op}
use Rattle.op_table.specs.declared.Trap.{Trap}
use Rattle.op_table.specs.Known.{all_known, folded}
use Rattle.op_table.specs.Operators.{applied}
use Rattle.op_table.proofs.Laws.{folded-some}
use Rattle.f77_tree.specs.declared.programs.NameInfo.{NameInfo}
use Rattle.f77_tree.specs.Execution.{Memory}
use Rattle.op_board.specs.Operations.{Operand, Known, From, Work, Operate, Operation, Compiled, CompiledRow, known_of, operated, operated_by, with_operation, ended}
use Rattle.op_board.specs.Effects.{Effect, All_done, Stopped, changes, operand_at, performed, after_one, gives, ran, ran_all, result_given, value_or_zero}

-- ---- the values of operands

-- the operand has this value, whatever is performed later
abbrev pub HasValue : List ℤ → Operand → ℤ → Type 0
HasValue values operand z = (more : List ℤ) → operand_at (values ++ more) operand ≡ z

abbrev pub HaveValues : List ℤ → List Operand → List ℤ → Type 0
HaveValues values [] [] = Unit {0}
HaveValues values (operand ∷ operands) (z ∷ zs) = HasValue values operand z × HaveValues values operands zs
HaveValues values _ _ = ⊥

-- operands that have values keep them
abbrev pub Keeps : List ℤ → List ℤ → Type 0
Keeps values now = (operand : Operand) (z : ℤ) → HasValue values operand z → HasValue now operand z

pub keeps_appended : (values more : List ℤ) → Keeps values (values ++ more)
keeps_appended values more operand z has = λ others. ap (λ vs. operand_at vs operand) (append_assoc values more others) ∙ has (more ++ others)

value_now : (values : List ℤ) (operand : Operand) (z : ℤ) → HasValue values operand z → operand_at values operand ≡ z
value_now values operand z has = ap (λ vs. operand_at vs operand) (sym (append-nil values)) ∙ has []

pub values_now : (values : List ℤ) (operands : List Operand) (zs : List ℤ) → HaveValues values operands zs → map (operand_at values) operands ≡ zs
values_now values [] [] have = refl
values_now values [] (z ∷ zs) have = absurd have
values_now values (operand ∷ operands) [] have = absurd have
values_now values (operand ∷ operands) (z ∷ zs) have =
    ap (λ x. x ∷ map (operand_at values) operands) (value_now values operand z have.0) ∙ ap (λ xs. z ∷ xs) (values_now values operands zs have.1)

-- the value that was given last
got_last : (values : List ℤ) (z : ℤ) (more : List ℤ) → slice_get ((values ++ z ∷ []) ++ more) (length values) ≡ Some z
got_last [] z more = refl
got_last (v ∷ values) z more = got_last values z more

pub has_last : (values : List ℤ) (z : ℤ) (number : ℕ) → length values ≡ number → HasValue (values ++ z ∷ []) (From number) z
has_last values z number is = λ more. ap (λ n. unwrap_or (slice_get ((values ++ z ∷ []) ++ more) n) (pos 0)) (sym is) ∙ ap (λ o. unwrap_or o (pos 0)) (got_last values z more)

-- operands that are all known have these values
known_values : (values : List ℤ) (operands : List Operand) (args zs : List ℤ) → all_known (map known_of operands) ≡ Some args → HaveValues values operands zs → args ≡ zs
known_values values [] args [] e have = let is : [] ≡ args = cc in sym is
known_values values [] args (z ∷ zs) e have = absurd have
known_values values (operand ∷ operands) args [] e have = absurd have
known_values values (From number ∷ operands) args (z ∷ zs) e have = let no : None ≡ Some args = e in absurd cc
known_values values (Known x ∷ operands) args (z ∷ zs) e have = by (λ more f. known_values values operands more zs f have.1) (all_known (map known_of operands)) refl e
  where
    by : ((more : List ℤ) → all_known (map known_of operands) ≡ Some more → more ≡ zs) → (o : Option (List ℤ)) → all_known (map known_of operands) ≡ o → option_map (λ more. x ∷ more) o ≡ Some args → args ≡ z ∷ zs
    by rest None f h = let no : None ≡ Some args = h in absurd cc
    by rest (Some more) f h =
        let is : x ∷ more ≡ args = cc in
        sym is ∙ ap (λ y. y ∷ more) (have.0 []) ∙ ap (λ ys. z ∷ ys) (rest more f)

-- ---- lists that begin with others

pub record IsLonger (ops longer : List Operation) : Type 0 where
  pub more : List Operation
  pub is : longer ≡ ops ++ more

pub same_length : (ops : List Operation) → IsLonger ops ops
same_length ops = record { more = []; is = sym (append-nil ops) }

pub longer_yet : (a b c : List Operation) → IsLonger a b → IsLonger b c → IsLonger a c
longer_yet a b c first second = record { more = first.more ++ second.more; is = second.is ∙ ap (λ xs. xs ++ second.more) first.is ∙ append_assoc a first.more second.more }

pub operated_longer : (done : List Operation) (op : Op) (operands : List Operand) → IsLonger done (operated done op operands).done
operated_longer done op operands = by (folded op (map known_of operands))
  where
    by : (o : Option ℤ) → IsLonger done (operated_by done op operands o).done
    by None = record { more = (record { work = Operate op; operands = operands }) ∷ []; is = refl }
    by (Some z) = same_length done

-- ---- what was performed

module _ (names : List NameInfo) (input : List ℤ) (start : Memory) where
  -- The operations lead to this memory, with these values. So much is said of what follows them, since each piece has one more.
  pub record HasRun (m : Memory) (ops : List Operation) (values : List ℤ) : Type 0 where
    pub size : length values ≡ length ops
    pub is : (op : Operation) (rest : List Operation) → ran_all names input start (ops ++ op ∷ rest) ≡ ran names input values (changes m) (op ∷ rest)

  -- one of them traps, and the memory is still what it was at first
  pub record HasStopped (ops : List Operation) (trap : Trap) : Type 0 where
    pub number : ℕ
    pub is : (rest : List Operation) → ran_all names input start (ops ++ rest) ≡ Stopped number start trap

  pub run_none : HasRun start [] []
  run_none = record { size = refl; is = λ op rest. refl }

  pub stopped_longer : (ops longer : List Operation) (trap : Trap) → IsLonger ops longer → HasStopped ops trap → HasStopped longer trap
  stopped_longer ops longer trap grown stop = record {
    number = stop.number;
    is = λ rest. ap (λ xs. ran_all names input start (xs ++ rest)) grown.is ∙ ap (ran_all names input start) (append_assoc ops grown.more rest) ∙ stop.is (grown.more ++ rest);
  }

module _ (names : List NameInfo) (input : List ℤ) (start : Memory) where
  -- The operations up to there lead to this memory and more values, of which the operand has this one.
  pub record HasGiven (m : Memory) (values : List ℤ) (c : Compiled) (z : ℤ) : Type 0 where
    pub now : List ℤ
    pub keeps : Keeps values now
    pub run : HasRun names input start m c.done now
    pub gives : HasValue now c.operand z

  -- they give what the expression has as its value, or trap as that does
  abbrev pub Gives : Memory → List ℤ → Compiled → Result ℤ Trap → Type 0
  Gives m values c (Ok z) = HasGiven m values c z
  Gives m values c (Err trap) = HasStopped names input start c.done trap

  pub gives_kept : (m : Memory) (values now : List ℤ) (c : Compiled) (r : Result ℤ Trap) → Keeps values now → Gives m now c r → Gives m values c r
  gives_kept m values now c (Err trap) keeps stop = stop
  gives_kept m values now c (Ok z) keeps given = record {
    now = given.now;
    keeps = λ operand y has. given.keeps operand y (keeps operand y has);
    run = given.run;
    gives = given.gives;
  }

  pub record HasGivenAll (m : Memory) (values : List ℤ) (c : CompiledRow) (zs : List ℤ) : Type 0 where
    pub now : List ℤ
    pub keeps : Keeps values now
    pub run : HasRun names input start m c.done now
    pub gives : HaveValues now c.operands zs

  abbrev pub GiveAll : Memory → List ℤ → CompiledRow → Result (List ℤ) Trap → Type 0
  GiveAll m values c (Ok zs) = HasGivenAll m values c zs
  GiveAll m values c (Err trap) = HasStopped names input start c.done trap

  -- a known value needs no operation
  pub known_given : (m : Memory) (done : List Operation) (values : List ℤ) (z : ℤ) → HasRun names input start m done values → Gives m values (record { done = done; operand = Known z }) (Ok z)
  known_given m done values z run = record { now = values; keeps = λ operand y has. has; run = run; gives = λ more. refl }

  -- what the operation after those does at the values of its operands
  next_ran : (m : Memory) (done : List Operation) (values : List ℤ) (work : Work) (operands : List Operand) (args : List ℤ) (rest : List Operation) (r : Result Effect Trap) →
      HasRun names input start m done values → HaveValues values operands args → performed names input m work args ≡ r →
      ran_all names input start ((done ++ (record { work = work; operands = operands }) ∷ []) ++ rest) ≡ after_one (length values) m (λ effect. ran names input (values ++ value_or_zero effect.value ∷ []) effect rest) r
  next_ran m done values work operands args rest r run have is =
      let op : Operation = record { work = work; operands = operands } in
      ap (ran_all names input start) (append_assoc done (op ∷ []) rest)
      ∙ run.is op rest
      ∙ ap (λ e. after_one (length values) m (λ effect. ran names input (values ++ value_or_zero effect.value ∷ []) effect rest) e) (ap (performed names input m work) (values_now values operands args have) ∙ is)

  -- an operation more, which gives a value and leads to this memory, or traps
  pub operation_given : (m n : Memory) (done : List Operation) (values : List ℤ) (work : Work) (operands : List Operand) (args : List ℤ) (z : ℤ) →
      HasRun names input start m done values → HaveValues values operands args → performed names input m work args ≡ Ok (gives n z) → Gives n values (with_operation done work operands) (Ok z)
  operation_given m n done values work operands args z run have is = record {
    now = values ++ z ∷ [];
    keeps = keeps_appended values (z ∷ []);
    run = record {
      size = length-append values (z ∷ []) ∙ ap (λ k. k + 1) run.size ∙ sym (length-append done _);
      is = λ op rest. next_ran m done values work operands args (op ∷ rest) (Ok (gives n z)) run have is;
    };
    gives = has_last values z (length done) run.size;
  }

  pub operation_stopped : (n : Memory) (done : List Operation) (values : List ℤ) (work : Work) (operands : List Operand) (args : List ℤ) (trap : Trap) →
      HasRun names input start start done values → HaveValues values operands args → performed names input start work args ≡ Err trap → Gives n values (with_operation done work operands) (Err trap)
  operation_stopped n done values work operands args trap run have is = record {
    number = length values;
    is = λ rest. next_ran start done values work operands args rest (Err trap) run have is;
  }

  -- an operator at operands that have values, at which it doesn't trap
  pub operator_valued : (m : Memory) (done : List Operation) (values : List ℤ) (op : Op) (operands : List Operand) (args : List ℤ) (z : ℤ) →
      HasRun names input start m done values → HaveValues values operands args → applied op args ≡ Ok z → Gives m values (operated done op operands) (Ok z)
  operator_valued m done values op operands args z run have is = by (folded op (map known_of operands)) refl
    where
      by : (o : Option ℤ) → folded op (map known_of operands) ≡ o → Gives m values (operated_by done op operands o) (Ok z)
      by None e = operation_given m m done values (Operate op) operands args z run have (ap (result_given m) is)
      by (Some y) e =
          let there = folded-some op (map known_of operands) y e in
          let both : Ok y ≡ Ok z = sym there.value ∙ ap (applied op) (known_values values operands there.args args there.are_known have) ∙ is in
          let same : y ≡ z = cc in
          subst (λ x. Gives m values (record { done = done; operand = Known y }) (Ok x)) same (known_given m done values y run)

  -- and one that traps, or doesn't, before the memory has changed
  pub operator_given : (done : List Operation) (values : List ℤ) (op : Op) (operands : List Operand) (args : List ℤ) →
      HasRun names input start start done values → HaveValues values operands args → Gives start values (operated done op operands) (applied op args)
  operator_given done values op operands args run have = by (applied op args) refl (folded op (map known_of operands)) refl
    where
      by : (r : Result ℤ Trap) → applied op args ≡ r → (o : Option ℤ) → folded op (map known_of operands) ≡ o → Gives start values (operated done op operands) r
      by (Ok z) e o f = operator_valued start done values op operands args z run have e
      by (Err trap) e None f =
          subst (λ o. Gives start values (operated_by done op operands o) (Err trap)) (sym f) (operation_stopped start done values (Operate op) operands args trap run have (ap (result_given start) e))
      by (Err trap) e (Some y) f =
          let there = folded-some op (map known_of operands) y f in
          let no : Err trap ≡ Ok y = sym e ∙ sym (ap (applied op) (known_values values operands there.args args there.are_known have)) ∙ there.value in
          absurd cc

  -- ---- the last operation of a piece

  pub ended_ran : (m : Memory) (done : List Operation) (values : List ℤ) (work : Work) (operands : List Operand) (args : List ℤ) (last : Effect) →
      HasRun names input start m done values → HaveValues values operands args → performed names input m work args ≡ Ok last → ran_all names input start (ended done work operands) ≡ All_done last
  ended_ran m done values work operands args last run have is =
      ap (ran_all names input start) (sym (append-nil (done ++ _))) ∙ next_ran m done values work operands args [] (Ok last) run have is

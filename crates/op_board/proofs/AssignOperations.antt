-- The operations of an assignment do what its pass does.
use Rattle.std.proofs.Common.{◌≡◌, ℕ, suc, ◌+◌, ℤ, pos, nat_abs, Bool, true, false, List, [], ◌∷◌, ◌++◌, length, map, Option, Some, None, Result, Ok, Err, refl, sym, ap, subst, ◌∙◌, arith, slice_set}
use mathlib.Core.Logic.{inl, inr}
use Rattle.std.specs.Prelude.{◌⊎◌, if◌then◌else◌, ok_or}
use Rattle.std.proofs.lemmas.List.{length-map}
use Rattle.op_table.specs.declared.Op.TheVariants.{Truth as Truth_of}
use Rattle.op_table.specs.declared.Trap.{Trap}
use Rattle.op_table.specs.declared.Trap.TheVariants.{Input as NoInput}
use Rattle.op_table.specs.Operators.{applied}
use Rattle.op_table.specs.Words.{is_true, truth}
use Rattle.op_table.proofs.Laws.{applied-Truth}
use Rattle.f77_tree.specs.declared.declarations.Kind.{Kind}
use Rattle.f77_tree.specs.declared.declarations.Kind.TheVariants.{Integer, Logical}
use Rattle.f77_tree.specs.declared.expressions.Access.{Access}
use Rattle.f77_tree.specs.declared.expressions.Expr.{Expr, Row_of-Expr, end_of-Expr, more_of-Expr, items-the_row-Expr, items_hidden-the_row-Expr-0}
use Rattle.f77_tree.specs.declared.expressions.Expr.TheVariants.{Const, Truth, Input, Read, Read', Apply'}
use Rattle.f77_tree.specs.declared.programs.NameInfo.{NameInfo}
use Rattle.f77_tree.specs.Execution.{Memory, assigned, assign_outcome, count_if, is_input, is_truth, next_word, row_inputs, words_taken}
use Rattle.f77_tree.specs.Kinds.{IsProper, AllOfKind, IsAssignment, IsOfKind, taken_as}
use Rattle.f77_tree.specs.Known.{known}
use Rattle.f77_tree.specs.Value.{value, all_values, row_values, word_of, and_then, subscripted, dims_of, kind_of, place, place_of, ArePlaced}
use Rattle.f77_tree.proofs.ExpressionLemmas.{row_of, row_values-list}
use Rattle.f77_tree.proofs.Taking.{words_taken_apply}
use Rattle.cfg_build.specs.Passes.{Along, acted}
use Rattle.op_board.specs.Operations.{Store, Take, Operation, Compiled, compiled, row_compiled, place_of_read, place_operands, assign_operations, ended, operated, with_operation}
use Rattle.op_board.specs.Effects.{All_done, changes, ran_all, stored, stored_at, taken_from, word_at_place}
use Rattle.op_board.proofs.ExpressionOperations.{HasPlace, PlaceGives, access_gives, compiled_longer, expression_gives}
use Rattle.op_board.proofs.OperationRuns.{IsLonger, operated_longer, HasRun, HasGiven, Gives, gives_kept, run_none, ended_ran, stopped_longer, operation_given, operation_stopped, operator_valued}
use Rattle.op_board.proofs.PieceOperations.{DoesAs, does_end, stop_does}

-- ---- expressions of programs take no data

no_input : (names : List NameInfo) (e : Expr) → IsProper names e → is_input e ≡ false
no_input names (Const z) proper = refl
no_input names (Truth b) proper = refl
no_input names Input proper = absurd proper
no_input names (Read' name shape subs) proper = refl
no_input names (Apply' op shape args) proper = refl

counts_none : (b c : Bool) (more : List Bool) → c ≡ false → count_if b (c ∷ more) ≡ 0
counts_none b true more e = let no : true ≡ false = e in absurd cc
counts_none true false more e = refl
counts_none false false more e = refl

counts_nothing : (b : Bool) → count_if b [] ≡ 0
counts_nothing true = refl
counts_nothing false = refl

row_takes_none : {k : _} (names : List NameInfo) (kind : Kind) (b : Bool) (row : Row_of-Expr k) → AllOfKind names kind row → count_if b (row_inputs row) ≡ 0
row_takes_none names kind b end_of-Expr proper = counts_nothing b
row_takes_none names kind b (more_of-Expr e rest) proper = counts_none b (is_input e) (row_inputs rest) (no_input names e proper.0)

takes_none : (names : List NameInfo) (e : Expr) → IsProper names e → words_taken e ≡ 0
takes_none names (Const z) proper = refl
takes_none names (Truth b) proper = refl
takes_none names Input proper = absurd proper
takes_none names (Read' name shape subs) proper = refl
takes_none names (Apply' op shape args) proper = row_takes_none names _ (is_truth op) args proper.2

-- ---- a word is stored

module _ (names : List NameInfo) (input : List ℤ) (m : Memory) (out : ℕ → ℕ) where
  -- so many words of the data are taken then
  abbrev taken_to : ℕ → Memory
  taken_to taken = record m { taken = taken }

  module _ (name : ℕ) (taken : ℕ) where
    -- the value is stored at the word of the target
    store_ran : (subs : List Expr) (place c : Compiled) (q z : ℤ) (rs : List (Result ℤ Trap)) → length rs ≡ length subs → subscripted (dims_of names name) (pos 1) (pos (place_of names name)) rs ≡ Ok q →
        (has : HasPlace names input m name [] place q) → HasGiven names input m (taken_to taken) has.given.now c z →
        ran_all names input m (ended c.done (Store name (map known subs)) (place_operands subs place.operand ++ c.operand ∷ [])) ≡ All_done (changes (stored_at (taken_to taken) (nat_abs q) z))
    store_ran [] place c q z [] same e has given =
        let is : pos (place_of names name) ≡ q = cc in
        ended_ran names input m (taken_to taken) c.done given.now (Store name []) (c.operand ∷ []) (z ∷ []) (changes (stored_at (taken_to taken) (place_of names name) z)) given.run (given.gives, tt) refl
        ∙ ap (λ x. All_done (changes (stored_at (taken_to taken) (nat_abs x) z))) is
    store_ran [] place c q z (r ∷ rs) same e has given = absurd (omega (arith, same))
    store_ran (sub ∷ subs) place c q z rs same e has given =
        let there = has.inside in
        let word : word_at_place names name has.offset ≡ nat_abs q = sym there.word ∙ ap nat_abs (sym has.word) in
        let n = taken_to taken in
        let is : stored names n name (has.offset ∷ z ∷ []) ≡ stored_at n (nat_abs q) z =
        ap (λ b. if b then stored_at n (word_at_place names name has.offset) z else n) there.inside ∙ ap (λ w. stored_at n w z) word in
        ended_ran names input m n c.done given.now (Store name (map known (sub ∷ subs))) (place.operand ∷ c.operand ∷ []) (has.offset ∷ z ∷ []) (changes (stored names n name (has.offset ∷ z ∷ []))) given.run (given.keeps place.operand has.offset has.given.gives, (given.gives, tt)) refl
        ∙ ap (λ x. All_done (changes x)) is

    -- from the place and the value, in this order
    assigned_does : (subs : List Expr) (next more : ℕ) (place c : Compiled) (rs : List (Result ℤ Trap)) (r s : Result ℤ Trap) → length rs ≡ length subs → subscripted (dims_of names name) (pos 1) (pos (place_of names name)) rs ≡ r → taken ≡ m.taken + more → IsLonger place.done c.done →
        PlaceGives names input m name [] place r → ((now : List ℤ) → HasRun names input m m place.done now → Gives names input m (taken_to taken) now c s) →
        DoesAs m out (ran_all names input m (ended c.done (Store name (map known subs)) (place_operands subs place.operand ++ c.operand ∷ []))) (acted (out 0) (assigned m next (m.taken + more) (and_then (λ p. Ok (nat_abs p)) r) s))
    assigned_does subs next more place c rs (Err trap) s same e count grown stop given =
        stop_does names input m out c.done (Store name (map known subs)) (place_operands subs place.operand ++ c.operand ∷ []) trap (stopped_longer names input m place.done c.done trap grown stop)
    assigned_does subs next more place c rs (Ok q) (Err trap) same e count grown has given =
        stop_does names input m out c.done (Store name (map known subs)) (place_operands subs place.operand ++ c.operand ∷ []) trap (given has.given.now has.given.run)
    assigned_does subs next more place c rs (Ok q) (Ok z) same e count grown has given =
        let ops = ended c.done (Store name (map known subs)) (place_operands subs place.operand ++ c.operand ∷ []) in
        let last = changes (stored_at (taken_to taken) (nat_abs q) z) in
        subst (λ t. DoesAs m out (ran_all names input m ops) (Along (out 0) (record m { store = slice_set m.store (nat_abs q) z; taken = t }) [])) count
        (does_end m out (ran_all names input m ops) last (store_ran subs place c q z rs same e has (given has.given.now has.given.run)))

  -- ---- the next word of the data

  take_gives : (done : List Operation) (now : List ℤ) (o : Option ℤ) → HasRun names input m m done now → next_word input m ≡ o → Gives names input m (taken_to (suc m.taken)) now (with_operation done Take []) (ok_or o NoInput)
  take_gives done now None run e = operation_stopped names input m (taken_to (suc m.taken)) done now Take [] [] NoInput run tt (ap (taken_from m) e)
  take_gives done now (Some z) run e = operation_given names input m m (taken_to (suc m.taken)) done now Take [] [] z run tt (ap (taken_from m) e)

  -- the truth of a value
  truth_gives : (n : Memory) (now : List ℤ) (c : Compiled) (r : Result ℤ Trap) → Gives names input m n now c r → Gives names input m n now (operated c.done Truth_of (c.operand ∷ [])) (and_then (applied Truth_of) (all_values (r ∷ [])))
  truth_gives n now c (Err trap) stop = stopped_longer names input m c.done (operated c.done Truth_of (c.operand ∷ [])).done trap (operated_longer c.done Truth_of (c.operand ∷ [])) stop
  truth_gives n now c (Ok z) given =
      let is = applied-Truth z in
      let c_truth = operated c.done Truth_of (c.operand ∷ []) in
      subst (Gives names input m n now c_truth) (sym is)
      (gives_kept names input m n now given.now c_truth (Ok (truth (is_true z))) given.keeps
      (operator_valued names input m n c.done given.now Truth_of (c.operand ∷ []) (z ∷ []) (truth (is_true z)) given.run (given.gives, tt) is))

  -- the row of one operand
  truth_row : {k : _} (row : Row_of-Expr k) (e : Expr) (done : List Operation) (now : List ℤ) (n : Memory) (next : Option ℤ) → items-the_row-Expr k row ≡ e ∷ [] → Gives names input m n now (compiled names done e) (value names m.store next e) →
      Gives names input m n now (operated (row_compiled names done row).done Truth_of (row_compiled names done row).operands) (and_then (applied Truth_of) (all_values (row_values names m.store next row)))
  truth_row end_of-Expr e done now n next is given = let no : [] ≡ e ∷ [] = is in absurd cc
  truth_row (more_of-Expr x end_of-Expr) e done now n next is given =
      let same : x ≡ e = cc in
      truth_gives n now (compiled names done x) (value names m.store next x) (subst (λ y. Gives names input m n now (compiled names done y) (value names m.store next y)) (sym same) given)
  truth_row (more_of-Expr x (more_of-Expr y rest)) e done now n next is given = let no : x ∷ y ∷ items-the_row-Expr _ rest ≡ e ∷ [] = is in absurd cc

  taken_gives : (kind : Kind) (done : List Operation) (now : List ℤ) → HasRun names input m m done now → Gives names input m (taken_to (suc m.taken)) now (compiled names done (taken_as kind)) (value names m.store (next_word input m) (taken_as kind))
  taken_gives Integer done now run = take_gives done now (next_word input m) run refl
  taken_gives Logical done now run =
      let row = row_of (taken_as Logical) in
      truth_row row.1 Input done now (taken_to (suc m.taken)) (next_word input m) (items_hidden-the_row-Expr-0 (Input ∷ [])) (take_gives done now (next_word input m) run refl)

  takes_one : (kind : Kind) → words_taken (taken_as kind) ≡ 1
  takes_one Integer = refl
  takes_one Logical = words_taken_apply Truth_of (Input ∷ [])

  -- ---- assignments

  module _ (words : ℕ) (placed : ArePlaced names words) where
    -- the value comes after the place, and takes so many words of the data
    from_place : (target : Access) (e : Expr) (next taken : ℕ) → IsProper names (Read target) → taken ≡ m.taken + words_taken e →
        ((done : List Operation) (now : List ℤ) → HasRun names input m m done now → Gives names input m (taken_to taken) now (compiled names done e) (value names m.store (next_word input m) e)) →
        DoesAs m out (ran_all names input m (assign_operations names target e)) (acted (out 0) (assign_outcome names input m target e next))
    from_place target e next taken proper count given =
        let word = next_word input m in
        let row = row_of (Read target) in
        let rs = row_values names m.store word row.1 in
        let at = place_of_read names [] (Read target) in
        let c = compiled names at.done e in
        let same = row_values-list names m.store word target in
        subst (λ w. DoesAs m out (ran_all names input m (assign_operations names target e)) (acted (out 0) (assigned m next (m.taken + words_taken e) w (value names m.store word e)))) (ap (word_of names target.name) same)
        (assigned_does target.name taken target.subs next (words_taken e) at c rs (subscripted (dims_of names target.name) (pos 1) (pos (place_of names target.name)) rs) (value names m.store word e)
        (ap length same ∙ length-map target.subs (value names m.store word)) refl count (compiled_longer names at.done e)
        (access_gives names input m word words placed target.name row.1 [] [] proper.0 proper.2 (run_none names input m))
        (λ now run. given at.done now run))

    pub assign_does : (target : Access) (e : Expr) (next : ℕ) → IsAssignment names target e → DoesAs m out (ran_all names input m (assign_operations names target e)) (acted (out 0) (assign_outcome names input m target e next))
    assign_does target e next is = by is.of_kind
      where
        by : IsOfKind names (kind_of names target.name) e ⊎ (e ≡ taken_as (kind_of names target.name)) → DoesAs m out (ran_all names input m (assign_operations names target e)) (acted (out 0) (assign_outcome names input m target e next))
        by (inl of_kind) =
            let none = takes_none names e of_kind.proper in
            from_place target e next m.taken is.access (omega (arith, none)) (λ done now run. expression_gives names input m (next_word input m) words placed e done now of_kind.proper run)
        by (inr same) =
            let kind = kind_of names target.name in
            let one = takes_one kind in
            subst (λ x. DoesAs m out (ran_all names input m (assign_operations names target x)) (acted (out 0) (assign_outcome names input m target x next))) (sym same)
            (from_place target (taken_as kind) next (suc m.taken) is.access (omega (arith, one)) (λ done now run. taken_gives kind done now run))

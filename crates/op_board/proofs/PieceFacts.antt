-- What is known of the operations of a net's pieces, and the lines that they need.
use Rattle.std.proofs.Common.{◌≡◌, ◌⊎◌, ℕ, zero, suc, ◌<◌, ◌≤◌, ℤ, Bool, true, List, [], ◌∷◌, length, map, Option, Some, None, Result, slice_get, refl, sym, ap, ◌∙◌, subst, inl, inr, arith}
use Rattle.std.proofs.lemmas.Bool.{false≢true}
use Rattle.std.proofs.lemmas.Int.{ints}
use Rattle.std.proofs.lemmas.Option.{slice_get_within}
use Rattle.std.specs.Prelude.{Err, IsErr, Ok, is_err}
use Rattle.op_table.specs.declared.Op.{Op}
use Rattle.op_table.specs.declared.Trap.{Trap}
use Rattle.op_table.specs.Known.{all_known, folded}
use Rattle.op_table.specs.Operators.{applied}
use Rattle.op_table.proofs.Folds.{next_known}
use Rattle.op_table.proofs.Laws.{known_may, some-folded}
use Rattle.f77_tree.specs.declared.programs.Exec.{Exec}
use Rattle.f77_tree.specs.declared.programs.ExecKind.{ExecKind}
use Rattle.f77_tree.specs.declared.programs.ExecKind.TheVariants.{Assign, Print, Pass, Test, Sign, Pick, DoStart, DoNext, End}
use Rattle.f77_tree.specs.declared.programs.NameInfo.{NameInfo}
use Rattle.f77_tree.specs.declared.programs.Program.{Program}
use Rattle.f77_tree.specs.CanRun.{CanExecute, CanRun}
use Rattle.f77_tree.specs.KnownWith.{known_word}
use Rattle.f77_tree.specs.Places.{IsWordOf}
use Rattle.f77_tree.specs.Value.{place_of}
use Rattle.f77_tree.specs.WellFormed.{IsExecutable, IsWellFormed}
use Rattle.f77_tree.proofs.AllLemmas.{All-get}
use Rattle.f77_tree.proofs.WellFormedLaws.{well_formed-size}
use Rattle.alias_classes.specs.Classes.{ClassTable, IsClasses, class_count, class_of_loop, class_of_word}
use Rattle.alias_classes.specs.Needs.{ExecNeeds, HitsAt, HitsName}
use Rattle.cfg_build.specs.declared.pieces.PieceKind.{PieceKind}
use Rattle.cfg_build.specs.declared.pieces.PieceKind.TheVariants as kind
use Rattle.cfg_build.specs.Passes.{kind_in as exec_in}
use Rattle.dep_routing.specs.Sound.{KindMayTouchOut, KindMustTouchOut}
use Rattle.dep_routing.specs.Touches.{BranchNeeds, KindNeeds, exec_at, exec_kind}
use Rattle.net_board.specs.Nodes.{graph_in, is_acting, kind_in}
use Rattle.net_board.specs.ProgramFacts.{ProgramFacts}
use Rattle.net_board.proofs.ListPrefixes.{item_at}
use Rattle.op_board.specs.Needs.{OperationNeeds, TrapsAsKnown, WorkNeeds}
use Rattle.op_board.specs.OperationFacts.{IsNeededAt, NeedsLine, TakesValue}
use Rattle.op_board.specs.OperationLists.{takes_by}
use Rattle.op_board.specs.OperationNets.{OperationNet, operation_at, operation_count, operation_in, operations_at}
use Rattle.op_board.specs.Operations.{Operand, Known, From, is_decision, known_of, Work, Load, Operate, Store, Take, Write, Begin, Advance, DecideTruth, DecideSign, DecideNumber, DecideTrips, DecideFirst, Operation, operations_of}
use Rattle.op_board.specs.SoundOperationNets.{IsOperationNet}
use Rattle.op_board.proofs.ExecutableNeeds.{WritesOrTakes, operations_own}
use Rattle.op_board.proofs.ListEnds.{RunsExecutables, ends_fitting, fits, piece_fits}
use Rattle.op_board.proofs.TouchedLines.{act_class, act_out, decision_needs, parting_needs}
use Rattle.op_board.proofs.NeededOperations.{OneIs}
use Rattle.op_board.proofs.ValueTaking.{takes_by_more, takes_one_same}
use Rattle.op_board.proofs.OwnNeeds.{AllAre, HasClasses, IsOwn, WorkIsOwn}

-- ---- names have classes

has_classes : (p : Program) (c : ClassTable) → IsWellFormed p → IsClasses p c → HasClasses p.names c
has_classes p c well classes name subs exists = by (known_word c.names name subs)
  where
    first : IsWordOf p.names name (place_of p.names name)
    first = let size = well_formed-size p well name exists in record { known = exists; begins = omega arith; ends = omega (arith, ints, size) }

    word : IsWordOf c.names name (place_of c.names name)
    word = subst (λ (xs : List NameInfo). IsWordOf xs name (place_of xs name)) (sym classes.names) first

    by : (k : Option ℕ) → (n : ℕ) × HitsAt c name k n
    by None = (class_of_word c (place_of c.names name), record { word = place_of c.names name; has = word; is = refl })
    by (Some w) = (class_of_word c w, refl)

-- ---- the executables of pieces

can_in : (p : Program) (can : CanRun p) (k : ℕ) (o : Option Exec) → slice_get p.execs k ≡ o → CanExecute p (exec_in o)
can_in p can k None at = tt
can_in p can k (Some exec) at = can.executes k exec at

proper_in : (p : Program) (well : IsWellFormed p) (k : ℕ) (o : Option Exec) → slice_get p.execs k ≡ o → IsExecutable p.names (exec_in o)
proper_in p well k None at = tt
proper_in p well k (Some exec) at = All-get (λ (e : Exec). IsExecutable p.names e.kind) p.execs k exec well.execs.each at

pub piece_can : (p : Program) → CanRun p → (piece : ℕ) → CanExecute p (exec_kind p piece)
piece_can p can piece = can_in p can (exec_at p piece) (slice_get p.execs (exec_at p piece)) refl

pub piece_proper : (p : Program) → IsWellFormed p → (piece : ℕ) → IsExecutable p.names (exec_kind p piece)
piece_proper p well piece = proper_in p well (exec_at p piece) (slice_get p.execs (exec_at p piece)) refl

-- what a piece needs its executable needs
branch_needs : (c : ClassTable) (exec : ExecKind) (n : ℕ) → BranchNeeds c exec n → ExecNeeds c exec n
branch_needs c (DoStart loop_no var first last step body exit) n need = inr (inr need)
branch_needs c (Assign target e next) n need = need
branch_needs c (Print items next) n need = need
branch_needs c (Pass next) n need = need
branch_needs c (Test cond if_true if_false) n need = need
branch_needs c (Sign e neg zero' pos') n need = need
branch_needs c (Pick e targets other) n need = need
branch_needs c (DoNext loop_no var body exit) n need = need
branch_needs c End n need = need

piece_needs : (c : ClassTable) (piece : PieceKind) (exec : ExecKind) (n : ℕ) → KindNeeds c piece exec n → ExecNeeds c exec n
piece_needs c kind.Act exec n need = need
piece_needs c kind.Branch exec n need = branch_needs c exec n need
piece_needs c kind.Hold exec n need = absurd need
piece_needs c kind.Start exec n need = absurd need
piece_needs c kind.Pass exec n need = absurd need
piece_needs c kind.Join exec n need = absurd need
piece_needs c kind.End exec n need = absurd need

must_touch : (c : ClassTable) (piece : PieceKind) (exec : ExecKind) → WritesOrTakes piece exec → KindMustTouchOut c piece exec
must_touch c kind.Act exec why = why
must_touch c kind.Branch exec why = absurd why
must_touch c kind.Hold exec why = absurd why
must_touch c kind.Start exec why = absurd why
must_touch c kind.Pass exec why = absurd why
must_touch c kind.Join exec why = absurd why
must_touch c kind.End exec why = absurd why

-- a class that a piece touches
pub record IsOwnClass (c : ClassTable) (touches : ℕ → Bool) (n : ℕ) : Type 0 where
  pub least : 1 ≤ n
  pub most : n ≤ class_count c
  pub touched : touches n ≡ true

-- ---- what an operation waits for

-- all operands are known, or one is the value of an operation
known_or_taken : (operands : List Operand) → ((args : List ℤ) × (all_known (map known_of operands) ≡ Some args)) ⊎ ((number : ℕ) × (0 < takes_by operands number))
known_or_taken [] = inl ([], refl)
known_or_taken (Known z ∷ operands) = by (known_or_taken operands)
  where
    by : ((args : List ℤ) × (all_known (map known_of operands) ≡ Some args)) ⊎ ((number : ℕ) × (0 < takes_by operands number)) → ((args : List ℤ) × (all_known (Some z ∷ map known_of operands) ≡ Some args)) ⊎ ((number : ℕ) × (0 < takes_by operands number))
    by (inl known) = inl (z ∷ known.0, next_known (Some z) (map known_of operands) z known.0 refl known.1)
    by (inr taken) = inr taken
known_or_taken (From number ∷ operands) = inr (number, (let e = takes_by_more (From number) operands number in let one = takes_one_same number 0 in omega (arith, e, one)))

-- an operator whose value isn't known traps where its operands are known
unknown_traps : (op : Op) (ks : List (Option ℤ)) (args : List ℤ) → folded op ks ≡ None → all_known ks ≡ Some args → IsErr (applied op args)
unknown_traps op ks args unknown known = by (applied op args) refl
  where
    by : (r : Result ℤ Trap) → applied op args ≡ r → IsErr (applied op args)
    by (Ok z) is = let no : Some z ≡ None = sym (some-folded op ks args z known is) ∙ unknown in absurd cc
    by (Err trap) is = ap is_err is

-- an operation needs one of so many lines
record WaitsFor (c : ClassTable) (touches : ℕ → Bool) (lines : ℕ) (work : Work) (operands : List Operand) : Type 0 where
  line : ℕ
  exists : line < lines
  needs : WorkNeeds c touches work operands line

module _ (c : ClassTable) (touches : ℕ → Bool) (lines : ℕ) (count : lines ≡ suc (class_count c)) where
  abbrev Waits : Work → List Operand → Type 0
  Waits work operands = WaitsFor c touches lines work operands ⊎ ((number : ℕ) × (0 < takes_by operands number))

  out_waits : (work : Work) (operands : List Operand) → WorkNeeds c touches work operands 0 → Waits work operands
  out_waits work operands need = inl (record { line = 0; exists = omega (arith, count); needs = need })

  class_waits : (work : Work) (operands : List Operand) (n : ℕ) → IsOwnClass c touches n → ((m : ℕ) → n ≡ suc m → WorkNeeds c touches work operands (suc m)) → Waits work operands
  class_waits work operands zero own need = let some = own.least in absurd (omega (arith, some))
  class_waits work operands (suc m) own need = let most = own.most in inl (record { line = suc m; exists = omega (arith, count, most); needs = need m refl })

  operator_waits : (op : Op) (operands : List Operand) → folded op (map known_of operands) ≡ None → (TrapsAsKnown (record { work = Operate op; operands = operands }) → touches 0 ≡ true) → Waits (Operate op) operands
  operator_waits op operands unknown traps = by (known_or_taken operands)
    where
      by : ((args : List ℤ) × (all_known (map known_of operands) ≡ Some args)) ⊎ ((number : ℕ) × (0 < takes_by operands number)) → Waits (Operate op) operands
      by (inr taken) = inr taken
      by (inl known) =
          let fails = unknown_traps op (map known_of operands) known.0 unknown known.1 in
          out_waits (Operate op) operands (
            record { args = known.0; words = known_may (map known_of operands) known.0 known.1; traps = fails },
            traps (record { operator = op; is = refl; args = known.0; known = known.1; traps = fails }),
          )

  decision_waits : (work : Work) (operands : List Operand) → is_decision work ≡ true → ((line : ℕ) × (line < lines) × (touches line ≡ true)) → Waits work operands
  decision_waits work operands decides some = inl (record { line = some.0; exists = some.1; needs = decision_needs c touches work operands some.0 decides some.2 })

  own_waits : (work : Work) (operands : List Operand) → WorkIsOwn c (IsOwnClass c touches) (touches 0 ≡ true) work operands → (TrapsAsKnown (record { work = work; operands = operands }) → touches 0 ≡ true) → ((line : ℕ) × (line < lines) × (touches line ≡ true)) → Waits work operands
  own_waits (Load name subs) operands own traps some =
      class_waits (Load name subs) operands own.one (own.all own.one own.hits) (λ m is. subst (HitsName c name subs) is own.hits)
  own_waits (Operate op) operands own traps some = operator_waits op operands own traps
  own_waits (Store name subs) operands own traps some =
      class_waits (Store name subs) operands own.one (own.all own.one own.hits) (λ m is. subst (HitsName c name subs) is own.hits)
  own_waits Take operands own traps some = out_waits Take operands tt
  own_waits (Write items) operands own traps some = out_waits (Write items) operands tt
  own_waits (Begin loop_no var) operands own traps some =
      class_waits (Begin loop_no var) operands (class_of_loop c loop_no) (own (class_of_loop c loop_no) (inr refl)) (λ m is. inr is)
  own_waits (Advance loop_no var) operands own traps some =
      class_waits (Advance loop_no var) operands (class_of_loop c loop_no) (own (class_of_loop c loop_no) (inr refl)) (λ m is. inr is)
  own_waits DecideTruth operands own traps some = decision_waits DecideTruth operands refl some
  own_waits DecideSign operands own traps some = decision_waits DecideSign operands refl some
  own_waits (DecideNumber count) operands own traps some = decision_waits (DecideNumber count) operands refl some
  own_waits (DecideTrips loop_no) operands own traps some = decision_waits (DecideTrips loop_no) operands refl some
  own_waits DecideFirst operands own traps some = decision_waits DecideFirst operands refl some

-- pieces that have operations act, branch or hold
acts_of : (names : List NameInfo) (piece : PieceKind) (exec : ExecKind) (i : ℕ) → i < length (operations_of names piece exec) → is_acting piece ≡ true
acts_of names kind.Act exec i inside = refl
acts_of names kind.Branch exec i inside = refl
acts_of names kind.Hold exec i inside = refl
acts_of names kind.Start exec i inside = absurd (omega (arith, inside))
acts_of names kind.Pass exec i inside = absurd (omega (arith, inside))
acts_of names kind.Join exec i inside = absurd (omega (arith, inside))
acts_of names kind.End exec i inside = absurd (omega (arith, inside))

-- ---- what operations need is touched

own_touched : (c : ClassTable) (touches : ℕ → Bool) (work : Work) (operands : List Operand) (line : ℕ) → WorkIsOwn c (IsOwnClass c touches) (touches 0 ≡ true) work operands → WorkNeeds c touches work operands line → touches line ≡ true
own_touched c touches (Load name subs) operands zero own need = absurd need
own_touched c touches (Load name subs) operands (suc n) own need = (own.all (suc n) need).touched
own_touched c touches (Operate op) operands zero own need = need.1
own_touched c touches (Operate op) operands (suc n) own need = absurd need
own_touched c touches (Store name subs) operands zero own need = absurd need
own_touched c touches (Store name subs) operands (suc n) own need = (own.all (suc n) need).touched
own_touched c touches Take operands zero own need = own
own_touched c touches Take operands (suc n) own need = absurd need
own_touched c touches (Write items) operands zero own need = own
own_touched c touches (Write items) operands (suc n) own need = absurd need
own_touched c touches (Begin loop_no var) operands zero own need = absurd need
own_touched c touches (Begin loop_no var) operands (suc n) own need = (own (suc n) need).touched
own_touched c touches (Advance loop_no var) operands zero own need = absurd need
own_touched c touches (Advance loop_no var) operands (suc n) own need = (own (suc n) need).touched
own_touched c touches DecideTruth operands line own need = need
own_touched c touches DecideSign operands line own need = need
own_touched c touches (DecideNumber count) operands line own need = need
own_touched c touches (DecideTrips loop_no) operands line own need = need
own_touched c touches DecideFirst operands line own need = need

-- what the executables of a program need are classes
abbrev pub NeedsAreClasses : Program → ClassTable → Type 0
NeedsAreClasses p c = (exec : ExecKind) (n : ℕ) → CanExecute p exec → ExecNeeds c exec n → (1 ≤ n) × (n ≤ class_count c)

module _ (x : OperationNet) (is : IsOperationNet x) (numbered : NeedsAreClasses x.net.program is.is_net.classes) where
  abbrev c : ClassTable
  c = is.is_net.classes

  abbrev p : Program
  p = x.net.program

  abbrev Own : (piece n : ℕ) → Type 0
  Own piece n = IsOwnClass c (x.net.touches piece) n

  own_class : (piece n : ℕ) → piece < (graph_in x.net).nodes → KindNeeds c (kind_in x.net piece) (exec_kind p piece) n → Own piece n
  own_class piece n exists need = by n need (numbered (exec_kind p piece) n (piece_can p is.is_net.can_run piece) (piece_needs c (kind_in x.net piece) (exec_kind p piece) n need))
    where
      by : (n : ℕ) → KindNeeds c (kind_in x.net piece) (exec_kind p piece) n → (1 ≤ n) × (n ≤ class_count c) → Own piece n
      by zero need bounds = let some = bounds.0 in absurd (omega (arith, some))
      by (suc m) need bounds = record { least = bounds.0; most = bounds.1; touched = (is.is_net.sound_touches.classes piece m exists).1 need }

  -- the operations of a piece need what is its own
  pub all_own : (piece : ℕ) → piece < (graph_in x.net).nodes → AllAre (IsOwn c (Own piece) (x.net.touches piece 0 ≡ true)) (operations_at x piece)
  all_own piece exists =
      operations_own p c (has_classes p c is.is_net.program is.is_net.own_classes) (Own piece) (x.net.touches piece 0 ≡ true) (kind_in x.net piece) (exec_kind p piece)
      (piece_proper p is.is_net.program piece) (piece_can p is.is_net.can_run piece)
      (λ n need. own_class piece n exists need)
      (λ why. is.is_net.sound_touches.must piece exists (must_touch c (kind_in x.net piece) (exec_kind p piece) why))

  -- what is said of each operation holds of the one with a number
  pub at_number : (P : Operation → Type 0) (piece i : ℕ) → AllAre P (operations_at x piece) → i < operation_count x piece → P (operation_at x piece i)
  at_number P piece i all inside =
      let item = item_at (operations_at x piece) i inside in
      subst P (sym (ap operation_in item.at)) (all i item.item item.at)

  pub needed_touched : (piece i line : ℕ) → piece < (graph_in x.net).nodes → i < operation_count x piece → x.needs piece i line ≡ true → x.net.touches piece line ≡ true
  needed_touched piece i line exists inside needs =
      let op = operation_at x piece i in
      own_touched c (x.net.touches piece) op.work op.operands line (at_number (IsOwn c (Own piece) (x.net.touches piece 0 ≡ true)) piece i (all_own piece exists) inside) ((is.own_needs piece i line exists inside).0 needs)

  needed_at : (piece line : ℕ) → piece < (graph_in x.net).nodes → OneIs (λ op. OperationNeeds c (x.net.touches piece) op line) (operations_at x piece) → IsNeededAt x piece line
  needed_at piece line exists one =
      let inside = slice_get_within (operations_at x piece) one.number one.operation one.at in
      record {
        number = one.number;
        inside = inside;
        needs = (is.own_needs piece one.number line exists inside).1 (subst (λ (op : Operation). OperationNeeds c (x.net.touches piece) op line) (sym (ap operation_in one.at)) one.is);
      }

  pub waits_for : ((piece : ℕ) → piece < (graph_in x.net).nodes → is_acting (kind_in x.net piece) ≡ true → (line : ℕ) × (line < x.net.routing.lines) × (x.net.touches piece line ≡ true))
      → (piece i : ℕ) → piece < (graph_in x.net).nodes → i < operation_count x piece → NeedsLine x piece i ⊎ TakesValue (operation_at x piece i)
  waits_for some piece i exists inside =
      by (own_waits c (x.net.touches piece) x.net.routing.lines is.is_net.own_routing.count op.work op.operands
      (at_number (IsOwn c (Own piece) (x.net.touches piece 0 ≡ true)) piece i (all_own piece exists) inside)
      (λ traps. is.traps piece i exists inside traps)
      (some piece exists (acts_of p.names (kind_in x.net piece) (exec_kind p piece) i inside)))
    where
      op : Operation
      op = operation_at x piece i

      by : WaitsFor c (x.net.touches piece) x.net.routing.lines op.work op.operands ⊎ ((number : ℕ) × (0 < takes_by op.operands number)) → NeedsLine x piece i ⊎ TakesValue (operation_at x piece i)
      by (inl waits) = inl (record { line = waits.line; exists = waits.exists; needs = (is.own_needs piece i waits.line exists inside).1 waits.needs })
      by (inr takes) = inr (record { number = takes.0; takes = takes.1 })

  module _ (runs : RunsExecutables p) where
    abbrev One : (piece : ℕ) → PieceKind → (line : ℕ) → Type 0
    One piece k line = OneIs (λ op. OperationNeeds c (x.net.touches piece) op line) (operations_of p.names k (exec_kind p piece))

    pub needed_by : (piece line : ℕ) → piece < (graph_in x.net).nodes → is_acting (kind_in x.net piece) ≡ true → x.net.touches piece line ≡ true → IsNeededAt x piece line
    needed_by piece line exists acts touched = needed_at piece line exists (by (kind_in x.net piece) refl line touched acts)
      where
        fit : (k : PieceKind) → kind_in x.net piece ≡ k → is_acting k ≡ true → fits k (exec_kind p piece) ≡ true
        fit k same some = subst (λ (k : PieceKind). fits k (exec_kind p piece) ≡ true) same (piece_fits p runs piece exists acts)

        act : (line : ℕ) → kind_in x.net piece ≡ kind.Act → x.net.touches piece line ≡ true → One piece kind.Act line
        act zero same touched =
            act_out p c (x.net.touches piece) touched (exec_kind p piece) (fit kind.Act same refl) (piece_can p is.is_net.can_run piece)
            (subst (λ (k : PieceKind). KindMayTouchOut p k (exec_kind p piece)) same (is.is_net.sound_touches.may piece exists touched))
        act (suc n) same touched =
            act_class p c (x.net.touches piece) n (exec_kind p piece) (fit kind.Act same refl) (piece_can p is.is_net.can_run piece)
            (subst (λ (k : PieceKind). KindNeeds c k (exec_kind p piece) (suc n)) same ((is.is_net.sound_touches.classes piece n exists).0 touched))

        by : (k : PieceKind) → kind_in x.net piece ≡ k → (line : ℕ) → x.net.touches piece line ≡ true → is_acting k ≡ true → One piece k line
        by kind.Act same line touched some = act line same touched
        by kind.Branch same line touched some = parting_needs c (x.net.touches piece) (operations_of p.names kind.Branch (exec_kind p piece)) line (ends_fitting p.names kind.Branch (exec_kind p piece) (fit kind.Branch same some)) touched
        by kind.Hold same line touched some = parting_needs c (x.net.touches piece) (operations_of p.names kind.Hold (exec_kind p piece)) line (ends_fitting p.names kind.Hold (exec_kind p piece) (fit kind.Hold same some)) touched
        by kind.Start same line touched some = absurd (false≢true some)
        by kind.Pass same line touched some = absurd (false≢true some)
        by kind.Join same line touched some = absurd (false≢true some)
        by kind.End same line touched some = absurd (false≢true some)

-- the same, given what lower layers tell
pub touched_by : (ground : ProgramFacts) (x : OperationNet) (is : IsOperationNet x) (piece i line : ℕ) → piece < (graph_in x.net).nodes → i < operation_count x piece → x.needs piece i line ≡ true → x.net.touches piece line ≡ true
touched_by ground x is piece i line exists inside needs =
    let n = is.is_net in
    needed_touched x is (λ exec class can need. ground.are_classes x.net.program n.classes exec class n.program n.own_classes can need) piece i line exists inside needs

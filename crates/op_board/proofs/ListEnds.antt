-- The operations of the pieces of a net: where they are lists of operations, and which of them decide.
use Rattle.std.proofs.Common.{◌≡◌, ◌⊎◌, ⊎_elim, ℕ, suc, ◌<◌, ◌==◌, ◌&&◌, Bool, true, false, List, [], length, Some, None, slice_get, refl, sym, ap, ◌∙◌, inl, inr, arith, eq-eqb, ne_eqb}
use Rattle.std.proofs.lemmas.Bool.{false≢true}
use Rattle.std.proofs.lemmas.Option.{slice_get_within}
use Rattle.f77_tree.specs.declared.programs.ExecKind.{ExecKind}
use Rattle.f77_tree.specs.declared.programs.ExecKind.TheVariants.{Assign, Print, Pass, Test, Sign, Pick, DoStart, DoNext, End}
use Rattle.f77_tree.specs.declared.programs.NameInfo.{NameInfo}
use Rattle.f77_tree.specs.declared.programs.Program.{Program}
use Rattle.cfg_build.specs.declared.pieces.PieceKind.{PieceKind}
use Rattle.cfg_build.specs.declared.pieces.PieceKind.TheVariants as kind
use Rattle.cfg_build.specs.Flow.{flow}
use Rattle.cfg_build.specs.Passes.{kind_in}
use Rattle.cfg_build.specs.Runs.{IsPartOf, is_act, is_branch}
use Rattle.dep_routing.specs.Touches.{exec_kind, piece_kind}
use Rattle.net_board.specs.Nodes.{is_acting}
use Rattle.op_board.specs.Operations.{Operation, Work, Load, Operate, Store, Take, Write, Begin, Advance, DecideTruth, DecideSign, DecideNumber, DecideTrips, DecideFirst, gives_value, is_decision, act_operations, branch_operations, operations_of}
use Rattle.op_board.specs.OperationFacts.{is_parting}
use Rattle.op_board.specs.OperationLists.{IsOperationList}
use Rattle.op_board.proofs.ValueTaking.{EndsBy, assign_ends, begin_ends, decide_ends, lone_ends, print_ends, get_end, length_end, list_of, operations_end}

-- an operation that gives a value doesn't decide
giver_goes_on : (work : Work) → gives_value work ≡ true → is_decision work ≡ false
giver_goes_on (Load name subs) gives = refl
giver_goes_on (Operate op) gives = refl
giver_goes_on Take gives = refl
giver_goes_on (Store name subs) gives = refl
giver_goes_on (Write items) gives = refl
giver_goes_on (Begin loop_no var) gives = refl
giver_goes_on (Advance loop_no var) gives = refl
giver_goes_on DecideTruth gives = absurd (false≢true gives)
giver_goes_on DecideSign gives = absurd (false≢true gives)
giver_goes_on (DecideNumber count) gives = absurd (false≢true gives)
giver_goes_on (DecideTrips loop_no) gives = absurd (false≢true gives)
giver_goes_on DecideFirst gives = absurd (false≢true gives)

and_false : (b : Bool) → (b && false) ≡ false
and_false true = refl
and_false false = refl

and_true : (b : Bool) → (b && true) ≡ b
and_true true = refl
and_true false = refl

-- the last operation alone decides, where edges part
ended_decides : (parts : Bool) (ops : List Operation) (e : EndsBy parts ops) (i : ℕ) (op : Operation) → slice_get ops i ≡ Some op → is_decision op.work ≡ (parts && (suc i == length ops))
ended_decides parts ops e i op at = by (get_end e.done last op i (sym (ap (λ (xs : List Operation). slice_get xs i) e.is) ∙ at))
  where
    last : Operation
    last = record { work = e.work; operands = e.operands }

    count : length ops ≡ suc (length e.done)
    count = ap length e.is ∙ length_end e.done last

    by : (slice_get e.done i ≡ Some op) ⊎ ((i ≡ length e.done) × (last ≡ op)) → is_decision op.work ≡ (parts && (suc i == length ops))
    by (inl before) =
        let lt = slice_get_within e.done i op before in
        let other : (suc i == length ops) ≡ false = ne_eqb (suc i) (length ops) (λ same. omega (arith, same, lt, count)) in
        giver_goes_on op.work (e.taken.gives i op before) ∙ sym (ap (λ b. parts && b) other ∙ and_false parts)
    by (inr (here, same)) =
        let end : (suc i == length ops) ≡ true = eq-eqb (suc i) (length ops) (omega (arith, here, count)) in
        ap (λ (o : Operation). is_decision o.work) (sym same) ∙ e.decides ∙ sym (ap (λ b. parts && b) end ∙ and_true parts)

pub decisions_end : (names : List NameInfo) (piece : PieceKind) (exec : ExecKind) (i : ℕ) (op : Operation) → slice_get (operations_of names piece exec) i ≡ Some op → is_decision op.work ≡ (is_parting piece && (suc i == length (operations_of names piece exec)))
decisions_end names piece exec i op at =
    ⊎_elim
    (λ (none : operations_of names piece exec ≡ []). let no : None ≡ Some op = sym (ap (λ (xs : List Operation). slice_get xs i) none) ∙ at in absurd cc)
    (λ (e : EndsBy (is_parting piece) (operations_of names piece exec)). ended_decides (is_parting piece) (operations_of names piece exec) e i op at)
    (operations_end names piece exec)

-- an executable that the piece can run: one of an act, one of a branch, or any
abbrev pub fits : PieceKind → ExecKind → Bool
fits kind.Act exec = is_act exec
fits kind.Branch exec = is_branch exec
fits kind.Hold exec = true
fits _ exec = false

act_fits : (names : List NameInfo) (exec : ExecKind) → is_act exec ≡ true → EndsBy false (act_operations names exec)
act_fits names (Assign target e next) fit = assign_ends names target e
act_fits names (Print items next) fit = print_ends names items
act_fits names (DoStart loop_no var first last step body exit) fit = begin_ends names loop_no var first last step
act_fits names (DoNext loop_no var body exit) fit = lone_ends names (Advance loop_no var) false refl refl
act_fits names (Pass next) fit = absurd (false≢true fit)
act_fits names (Test cond if_true if_false) fit = absurd (false≢true fit)
act_fits names (Sign e neg zero' pos') fit = absurd (false≢true fit)
act_fits names (Pick e targets other) fit = absurd (false≢true fit)
act_fits names End fit = absurd (false≢true fit)

branch_fits : (names : List NameInfo) (exec : ExecKind) → is_branch exec ≡ true → EndsBy true (branch_operations names exec)
branch_fits names (Test cond if_true if_false) fit = decide_ends names DecideTruth cond refl refl
branch_fits names (Sign e neg zero' pos') fit = decide_ends names DecideSign e refl refl
branch_fits names (Pick e targets other) fit = decide_ends names (DecideNumber (length targets)) e refl refl
branch_fits names (DoStart loop_no var first last step body exit) fit = lone_ends names (DecideTrips loop_no) true refl refl
branch_fits names (Assign target e next) fit = absurd (false≢true fit)
branch_fits names (Print items next) fit = absurd (false≢true fit)
branch_fits names (DoNext loop_no var body exit) fit = absurd (false≢true fit)
branch_fits names (Pass next) fit = absurd (false≢true fit)
branch_fits names End fit = absurd (false≢true fit)

pub ends_fitting : (names : List NameInfo) (piece : PieceKind) (exec : ExecKind) → fits piece exec ≡ true → EndsBy (is_parting piece) (operations_of names piece exec)
ends_fitting names kind.Act exec fit = act_fits names exec fit
ends_fitting names kind.Branch exec fit = branch_fits names exec fit
ends_fitting names kind.Hold exec fit = lone_ends names DecideFirst true refl refl
ends_fitting names kind.Start exec fit = absurd (false≢true fit)
ends_fitting names kind.Pass exec fit = absurd (false≢true fit)
ends_fitting names kind.Join exec fit = absurd (false≢true fit)
ends_fitting names kind.End exec fit = absurd (false≢true fit)

pub lists_fitting : (names : List NameInfo) (piece : PieceKind) (exec : ExecKind) → fits piece exec ≡ true → IsOperationList (operations_of names piece exec)
lists_fitting names piece exec fit = list_of (is_parting piece) (operations_of names piece exec) (ends_fitting names piece exec fit)

-- ---- the pieces of a program

-- acts and branches run executables that fit them
pub record RunsExecutables (p : Program) : Type 0 where
  pub acts : (piece : ℕ) → piece < (flow p.execs).graph.nodes → piece_kind p piece ≡ kind.Act → IsPartOf (flow p.execs) p.execs piece is_act
  pub branches : (piece : ℕ) → piece < (flow p.execs).graph.nodes → piece_kind p piece ≡ kind.Branch → IsPartOf (flow p.execs) p.execs piece is_branch

pub piece_fits : (p : Program) → RunsExecutables p → (piece : ℕ) → piece < (flow p.execs).graph.nodes → is_acting (piece_kind p piece) ≡ true → fits (piece_kind p piece) (exec_kind p piece) ≡ true
piece_fits p runs piece exists acts = by (piece_kind p piece) refl acts
  where
    by : (k : PieceKind) → piece_kind p piece ≡ k → is_acting k ≡ true → fits k (exec_kind p piece) ≡ true
    by kind.Act is some = let part = runs.acts piece exists is in ap (λ o. is_act (kind_in o)) part.found ∙ part.fitting
    by kind.Branch is some = let part = runs.branches piece exists is in ap (λ o. is_branch (kind_in o)) part.found ∙ part.fitting
    by kind.Hold is some = refl
    by kind.Start is some = some
    by kind.Pass is some = some
    by kind.Join is some = some
    by kind.End is some = some

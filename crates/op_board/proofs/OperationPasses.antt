-- The operations of a piece of a net do what its pass does, and one that traps needs the line of output.
use Rattle.std.proofs.Common.{◌≡◌, ℕ, ◌<◌, Bool, true, false, List, [], refl, sym, ap, subst, arith}
use Rattle.op_table.specs.declared.Trap.{Trap}
use Rattle.f77_tree.specs.declared.programs.Exec.{Exec}
use Rattle.f77_tree.specs.declared.programs.ExecKind.{ExecKind}
use Rattle.f77_tree.specs.declared.programs.NameInfo.{NameInfo}
use Rattle.f77_tree.specs.Execution.{Memory}
use Rattle.f77_tree.specs.Steps.{HoldsWords}
use Rattle.f77_tree.specs.WellFormed.{AreExecs, IsExecutable}
use Rattle.f77_tree.proofs.AllLemmas.{All-get, All-nil}
use Rattle.cfg_build.specs.declared.pieces.PieceKind.{PieceKind}
use Rattle.cfg_build.specs.declared.pieces.PieceKind.TheVariants as kind
use Rattle.cfg_build.specs.Flow.{flow}
use Rattle.cfg_build.specs.Passes.{Passed, Along, Traps, Done, out, pass_of}
use Rattle.cfg_build.specs.Passes as passing
use Rattle.cfg_build.specs.Runs.{IsPartOf, is_act, is_branch}
use Rattle.cfg_build.specs.Shape.{kind_at}
use Rattle.dep_routing.specs.Touches.{exec_kind}
use Rattle.net_board.specs.Nodes.{graph_in, is_acting, kind_in}
use Rattle.net_board.specs.Tokens.{pass_at}
use Rattle.net_board.proofs.NodeNumbers.{get_within}
use Rattle.op_board.specs.Operations.{operations_of}
use Rattle.op_board.specs.Effects.{Ran, All_done, Stopped, changes, ran_all}
use Rattle.op_board.specs.Needs.{OperationNeeds}
use Rattle.op_board.specs.OperationLists.{DoesAsPass, IsOperationList}
use Rattle.op_board.specs.OperationNets.{OperationNet, operation_at, operation_in, operations_at}
use Rattle.op_board.specs.OperationOrder.{ran_at}
use Rattle.op_board.specs.SoundOperationNets.{IsOperationNet}
use Rattle.op_board.proofs.KindOperations.{act_does, branch_does}
use Rattle.op_board.proofs.OperationTraps.{HasTrapped, trap_needs}
use Rattle.op_board.proofs.PieceOperations.{DoesAs}

-- what they do, without the memory at a trap
does_as_pass : (m : Memory) (out : ℕ → ℕ) (r : Ran) (p : Passed) → DoesAs m out r p → DoesAsPass out r p
does_as_pass m out (All_done last) (Along edge memory text) does = does
does_as_pass m out (Stopped number memory trap) (Traps other) does = does.0
does_as_pass m out (All_done last) (Traps trap) does = absurd does
does_as_pass m out (All_done last) Done does = absurd does
does_as_pass m out (Stopped number memory trap) (Along edge new text) does = absurd does
does_as_pass m out (Stopped number memory trap) Done does = absurd does

-- and that alone
memory_kept : (m new : Memory) (out : ℕ → ℕ) (number : ℕ) (trap : Trap) (p : Passed) → DoesAs m out (Stopped number new trap) p → new ≡ m
memory_kept m new out number trap (Along edge memory text) does = absurd does
memory_kept m new out number trap (Traps other) does = does.1
memory_kept m new out number trap Done does = absurd does

-- such pieces run executables
abbrev pub RunExecutables : PieceKind → (ExecKind → Bool) → Type 0
RunExecutables k fits = (names : List NameInfo) (execs : List Exec) (loops node : ℕ) → AreExecs names execs loops → node < (flow execs).graph.nodes → kind_at (flow execs) node ≡ k → IsPartOf (flow execs) execs node fits

module _ (x : OperationNet) (n : IsOperationNet x) where
  -- the executable of a piece
  own_executable : (piece : ℕ) (fits : ExecKind → Bool) (P : ExecKind → Type 0) → IsPartOf (flow x.net.program.execs) x.net.program.execs piece fits → ((kind : ExecKind) → IsExecutable x.net.program.names kind → fits kind ≡ true → P kind) → P (exec_kind x.net.program piece)
  own_executable piece fits P part holds =
      let is : IsExecutable x.net.program.names part.exec.kind = All-get (λ (e : Exec). IsExecutable x.net.program.names e.kind) x.net.program.execs _ part.exec n.is_net.program.execs.each part.found in
      subst P (sym (ap passing.kind_in part.found)) (holds part.exec.kind is part.fitting)

  module _ (acts : RunExecutables kind.Act is_act) (branches : RunExecutables kind.Branch is_branch) where
    does_as : (piece : ℕ) (m : Memory) → piece < (graph_in x.net).nodes → is_acting (kind_in x.net piece) ≡ true → HoldsWords m → DoesAs m (out (graph_in x.net) piece) (ran_at x piece m) (pass_at x.net piece m)
    does_as piece m exists acting words = by (kind_in x.net piece) refl acting
      where
        way : ℕ → ℕ
        way = out (graph_in x.net) piece

        Does : PieceKind → ExecKind → Type 0
        Does k exec = DoesAs m way (ran_all x.net.program.names x.net.input m (operations_of x.net.program.names k exec)) (pass_of x.net.program x.net.input m way k exec)

        by : (k : PieceKind) → kind_in x.net piece ≡ k → is_acting k ≡ true → Does (kind_in x.net piece) (exec_kind x.net.program piece)
        by kind.Act e act =
            subst (λ k. Does k (exec_kind x.net.program piece)) (sym e)
            (own_executable piece is_act (λ exec. Does kind.Act exec) (acts x.net.program.names x.net.program.execs x.net.program.loops piece n.is_net.program.execs exists e)
            (λ exec is fits. act_does x.net.program.names x.net.input m way x.net.program.words n.is_net.can_run.placed exec words.store is fits))
        by kind.Branch e act =
            subst (λ k. Does k (exec_kind x.net.program piece)) (sym e)
            (own_executable piece is_branch (λ exec. Does kind.Branch exec) (branches x.net.program.names x.net.program.execs x.net.program.loops piece n.is_net.program.execs exists e)
            (λ exec is fits. branch_does x.net.program.names x.net.input m way x.net.program.words n.is_net.can_run.placed exec is fits))
        by kind.Hold e act = subst (λ k. Does k (exec_kind x.net.program piece)) (sym e) (refl, refl, refl)
        by kind.Start e act = let no : false ≡ true = act in absurd cc
        by kind.Pass e act = let no : false ≡ true = act in absurd cc
        by kind.Join e act = let no : false ≡ true = act in absurd cc
        by kind.End e act = let no : false ≡ true = act in absurd cc

    -- the operations of a piece do what it does
    pub passes : (piece : ℕ) (m : Memory) → piece < (graph_in x.net).nodes → is_acting (kind_in x.net piece) ≡ true → HoldsWords m → DoesAsPass (out (graph_in x.net) piece) (ran_at x piece m) (pass_at x.net piece m)
    passes piece m exists acting words = does_as_pass m (out (graph_in x.net) piece) (ran_at x piece m) (pass_at x.net piece m) (does_as piece m exists acting words)

    -- up to one that traps the memory is what it was before the piece
    pub unchanged : (piece at : ℕ) (m new : Memory) (trap : Trap) → piece < (graph_in x.net).nodes → is_acting (kind_in x.net piece) ≡ true → HoldsWords m → ran_at x piece m ≡ Stopped at new trap → new ≡ m
    unchanged piece at m new trap exists acting words e =
        memory_kept m new (out (graph_in x.net) piece) at trap (pass_at x.net piece m) (subst (λ r. DoesAs m (out (graph_in x.net) piece) r (pass_at x.net piece m)) e (does_as piece m exists acting words))

  -- a piece that doesn't act has no operations
  idle : (k : PieceKind) (exec : ExecKind) (m new : Memory) (at : ℕ) (trap : Trap) → is_acting k ≡ false → ran_all x.net.program.names x.net.input m (operations_of x.net.program.names k exec) ≡ Stopped at new trap → ⊥
  idle kind.Act exec m new at trap act e = let no : true ≡ false = act in cc
  idle kind.Branch exec m new at trap act e = let no : true ≡ false = act in cc
  idle kind.Hold exec m new at trap act e = let no : true ≡ false = act in cc
  idle kind.Start exec m new at trap act e = let no : All_done (changes m) ≡ Stopped at new trap = e in cc
  idle kind.Pass exec m new at trap act e = let no : All_done (changes m) ≡ Stopped at new trap = e in cc
  idle kind.Join exec m new at trap act e = let no : All_done (changes m) ≡ Stopped at new trap = e in cc
  idle kind.End exec m new at trap act e = let no : All_done (changes m) ≡ Stopped at new trap = e in cc

  -- an operation that traps needs the line of output, where its piece touches that
  pub traps : ((piece : ℕ) → piece < (graph_in x.net).nodes → is_acting (kind_in x.net piece) ≡ true → IsOperationList (operations_at x piece)) →
      (piece at : ℕ) (m new : Memory) (trap : Trap) → piece < (graph_in x.net).nodes → HoldsWords m → ran_at x piece m ≡ Stopped at new trap → x.net.touches piece 0 ≡ true → x.needs piece at 0 ≡ true
  traps lists piece at m new trap exists words e touched = by (is_acting (kind_in x.net piece)) refl
    where
      from : HasTrapped x.net.program.names x.net.input n.is_net.input_words n.is_net.classes (x.net.touches piece) touched (operations_at x piece) 0 at → x.needs piece at 0 ≡ true
      from stop =
          let is = stop.is in
          let same : at ≡ stop.number = omega (arith, is) in
          let low = get_within (operations_at x piece) stop.number stop.op stop.found in
          let needs : OperationNeeds n.is_net.classes (x.net.touches piece) (operation_at x piece stop.number) 0 = subst (λ op. OperationNeeds n.is_net.classes (x.net.touches piece) op 0) (sym (ap operation_in stop.found)) stop.needs in
          subst (λ i. x.needs piece i 0 ≡ true) (sym same) ((n.own_needs piece stop.number 0 exists low).1 needs)

      by : (b : Bool) → is_acting (kind_in x.net piece) ≡ b → x.needs piece at 0 ≡ true
      by true act = from (trap_needs x.net.program.names x.net.input n.is_net.input_words n.is_net.classes (x.net.touches piece) touched (operations_at x piece) [] (changes m) at new trap (All-nil _) words.store (lists piece exists act).gives e)
      by false act = absurd (idle (kind_in x.net piece) (exec_kind x.net.program piece) m new at trap act e)

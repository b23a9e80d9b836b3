-- The values of available expressions on runs.
use Rattle.std.proofs.Common.{◌≡◌, ◌≢◌, ℕ, zero, suc, ◌<◌, ◌≤◌, ◌⊎◌, ℤ, pos, ◌+ℤ◌, ◌≤ℤ◌, true, false, List, [], ◌∷◌, ◌++◌, length, get_or, All, Option, Some, None, Result, Ok, Err, refl, sym, ap, ◌∙◌, subst, inl, inr, ⊎_elim, arith, length-append}
use Rattle.std.specs.Prelude.{slice_get, Contains}
use Rattle.std.proofs.lemmas.Bool.{cases_eq}
use Rattle.std.proofs.lemmas.List.{get_or_append_left, get_or_push}
use Rattle.op_table.specs.declared.Trap.{Trap}
use Rattle.op_table.specs.Words.{IsWord}
use Rattle.closed_walks.specs.Graph.{edge_count, from, to}
use Rattle.closed_walks.specs.Walk.{Walk, Holds}
use Rattle.f77_tree.specs.declared.declarations.Dim.{Dim}
use Rattle.f77_tree.specs.declared.expressions.Expr.{Expr, Row_of-Expr, end_of-Expr, more_of-Expr, Read', Apply'}
use Rattle.f77_tree.specs.declared.expressions.Expr.TheVariants.{Const, Truth, Input}
use Rattle.f77_tree.specs.declared.programs.Exec.{Exec}
use Rattle.f77_tree.specs.declared.programs.ExecKind.{ExecKind}
use Rattle.f77_tree.specs.declared.programs.ExecKind.TheVariants.{Assign, Print, Pass, Test, Sign, Pick, DoStart, DoNext, End}
use Rattle.f77_tree.specs.declared.programs.NameInfo.{NameInfo}
use Rattle.f77_tree.specs.declared.programs.Program.{Program}
use Rattle.f77_tree.specs.Execution.{Memory, Outcome, Goes, Stops, Ends, outcome, value_in, branched as branch_outcome}
use Rattle.f77_tree.specs.Known.{MayTrapBut, SomeMayTrap, SubscriptsMayTrap, none, MayTrap}
use Rattle.f77_tree.specs.Run.{Mark, Running, Ended, Trapped}
use Rattle.f77_tree.specs.Steps.{IfGoes, DoesNotTrap}
use Rattle.f77_tree.specs.Value.{value, word_at, dims_of}
use Rattle.f77_tree.specs.WellFormed.{IsWellFormed}
use Rattle.cfg_build.specs.declared.pieces.PieceKind.{PieceKind}
use Rattle.cfg_build.specs.declared.pieces.PieceKind.TheVariants as piece
use Rattle.cfg_build.specs.Flow.{flow, piece_at}
use Rattle.cfg_build.specs.Passes.{PassState, Passed, Along, Traps, Done, acted, branched, choice, pass_of, pass, kind_in, after_pass, passed_from, passes, out}
use Rattle.redundancy.specs.Available.{IsAvailable}
use Rattle.redundancy.specs.Computed.{Computes, Kills, kind_of_piece, PieceWrites}
use Rattle.redundancy.specs.Runs.{comes_to, KeepsValue}
use Rattle.std.specs.Prelude.{flat_map, unwrap_or}
use Rattle.f77_tree.specs.declared.expressions.Access.{Access}
use Rattle.f77_tree.specs.CanRun.{CanExecute}
use Rattle.f77_tree.specs.Kinds.{IsProper}
use Rattle.f77_tree.specs.Known.{ExecMayTrapBut}
use Rattle.f77_tree.specs.Steps.{KeepsRest, Changes}
use Rattle.f77_tree.specs.Touched.{AccessMayName, ExecMayRead, ExecMayChange, MayRead}
use Rattle.f77_tree.specs.Value.{place_of, place_in, dims_in, size_of, IsExpression, IsAccess, ArePlaced}
use Rattle.std.proofs.lemmas.Option.{slice_get-get_or}
use Rattle.f77_tree.specs.WellFormed.{IsExecutable}
use Rattle.alias_classes.specs.Classes.{ClassTable, IsClasses, class_of_word}
use Rattle.alias_classes.specs.Needs.{Hits, ExprNeeds, ExecNeeds}
use Rattle.redundancy.specs.Candidates.{IsCandidate, subexpressions}
use Rattle.alias_classes.specs.Writes.{ExecWrites}
use Rattle.redundancy.specs.Computed.{computed_by, evaluated}
use Rattle.redundancy.specs.Fitting.{TargetFits}
use Rattle.redundancy.proofs.Executables.{program_fits, all-get}
use Rattle.redundancy.proofs.Fits.{piece_fits, contained_fits}
use Rattle.redundancy.proofs.PassWords.{exec_words}
use Rattle.redundancy.proofs.OnWalks.{Walk-more}

-- ---- one pass

-- what a pass does to memory: an act goes on as its executable does, and any other piece leaves it
abbrev KeptBy : List NameInfo → List ℤ → Memory → ExecKind → PieceKind → Memory → Type 0
KeptBy names input m kind pk new = (new ≡ m) ⊎ ((pk ≡ piece.Act) × ((next : ℕ) × (text : List ℕ) × (outcome names input m kind ≡ Goes next new text)))

branch_keeps : (m : Memory) (outs : ℕ → ℕ) (r : Result ℕ Trap) (edge : ℕ) (new : Memory) (text : List ℕ) → branched m outs r ≡ Along edge new text → new ≡ m
branch_keeps m outs (Ok i) edge new text e = cc
branch_keeps m outs (Err trap) edge new text e = let no' : Traps trap ≡ Along edge new text = e in absurd cc

act_keeps : (next : ℕ) (o : Outcome) (edge : ℕ) (new : Memory) (text : List ℕ) → acted next o ≡ Along edge new text → (exec : ℕ) × (o ≡ Goes exec new text)
act_keeps next (Goes exec m t) edge new text e = (exec, cc)
act_keeps next (Stops trap) edge new text e = let no' : Traps trap ≡ Along edge new text = e in absurd cc
act_keeps next Ends edge new text e = let no' : Done ≡ Along edge new text = e in absurd cc

pass_keeps : (p : Program) (input : List ℤ) (m : Memory) (outs : ℕ → ℕ) (pk : PieceKind) (kind : ExecKind) (edge : ℕ) (new : Memory) (text : List ℕ) → pass_of p input m outs pk kind ≡ Along edge new text → KeptBy p.names input m kind pk new
pass_keeps p input m outs piece.Start kind edge new text e = inl cc
pass_keeps p input m outs piece.Pass kind edge new text e = inl cc
pass_keeps p input m outs piece.Join kind edge new text e = inl cc
pass_keeps p input m outs piece.Hold kind edge new text e = inl cc
pass_keeps p input m outs piece.Act kind edge new text e = let a = act_keeps (outs 0) (outcome p.names input m kind) edge new text e in inr (refl, (a.0, text, a.1))
pass_keeps p input m outs piece.Branch kind edge new text e = inl (branch_keeps m outs (choice p.names m kind) edge new text e)
pass_keeps p input m outs piece.End kind edge new text e = let no' : Done ≡ Along edge new text = e in absurd cc

-- a run that goes on went along an edge
went_on : (x : PassState) (line : ℕ) (r : Passed) → (after_pass x line r).mark ≡ Running → (edge : ℕ) × (text : List ℕ) × (r ≡ Along edge (after_pass x line r).memory text)
went_on x line (Along edge m text) run = (edge, text, refl)
went_on x line (Traps trap) run = let no' : Trapped trap line ≡ Running = run in absurd cc
went_on x line Done run = let no' : Ended ≡ Running = run in absurd cc

still_running : (p : Program) (input : List ℤ) (x : PassState) (mark : Mark) → mark ≡ x.mark → (passed_from p input x mark).mark ≡ Running → x.mark ≡ Running
still_running p input x Running same run = sym same
still_running p input x Ended same run = run
still_running p input x (Trapped trap line) same run = run

pub ran_before : (p : Program) (input : List ℤ) (n : ℕ) → (passes p input (suc n)).mark ≡ Running → (passes p input n).mark ≡ Running
ran_before p input n run = still_running p input (passes p input n) (passes p input n).mark refl run

pub running_below : (p : Program) (input : List ℤ) (n k : ℕ) → k ≤ n → (passes p input n).mark ≡ Running → (passes p input k).mark ≡ Running
running_below p input zero k le run = let same : k ≡ 0 = omega (arith, le) in subst (λ x. (passes p input x).mark ≡ Running) (sym same) run
running_below p input (suc n) k le run = ⊎_elim
    (λ (same : k ≡ suc n). subst (λ x. (passes p input x).mark ≡ Running) (sym same) run)
    (λ (apart : k ≢ suc n). running_below p input n k (omega (arith, le, apart)) (ran_before p input n run))
    (cases_eq k (suc n))

-- the executable at the piece to which a run comes
abbrev pub kind_met : Program → List ℤ → ℕ → ExecKind
kind_met p input n = kind_of_piece p.execs (piece_at (flow p.execs).pieces (comes_to p input n))

abbrev pub piece_met : Program → List ℤ → ℕ → PieceKind
piece_met p input n = (piece_at (flow p.execs).pieces (comes_to p input n)).kind

next_state : (p : Program) (input : List ℤ) (n : ℕ) → (passes p input n).mark ≡ Running → passes p input (suc n) ≡ passed_from p input (passes p input n) Running
next_state p input n run = ap (passed_from p input (passes p input n)) run

pub memory_kept : (p : Program) (input : List ℤ) (n : ℕ) → (passes p input (suc n)).mark ≡ Running → KeptBy p.names input (passes p input n).memory (kind_met p input n) (piece_met p input n) (passes p input (suc n)).memory
memory_kept p input n run =
    let x = passes p input n in
    let is = next_state p input n (ran_before p input n run) in
    let r = pass p input x.edge x.memory in
    let line = (piece_at (flow p.execs).pieces (comes_to p input n)).line in
    let went = went_on x line r (sym (ap (λ (s : PassState). s.mark) is) ∙ run) in
    let kept = pass_keeps p input x.memory (out (flow p.execs).graph (comes_to p input n)) (piece_met p input n) (kind_met p input n) went.0 (after_pass x line r).memory went.1 went.2 in
    subst (λ (m : Memory). KeptBy p.names input x.memory (kind_met p input n) (piece_met p input n) m) (sym (ap (λ (s : PassState). s.memory) is)) kept

-- ---- the walk of a run

abbrev pub edges_to : Program → List ℤ → ℕ → List ℕ
edges_to p input zero = (passes p input 0).edge ∷ []
edges_to p input (suc n) = edges_to p input n ++ (passes p input (suc n)).edge ∷ []

module _ (p : Program) (input : List ℤ) (start : from (flow p.execs).graph (passes p input 0).edge ≡ 0) (edges : (n : ℕ) → (passes p input n).edge < edge_count (flow p.execs).graph)
    (leads_on : (n : ℕ) → (passes p input (suc n)).mark ≡ Running → from (flow p.execs).graph (passes p input (suc n)).edge ≡ to (flow p.execs).graph (passes p input n).edge) where
  pub run_walk : (n : ℕ) → (passes p input n).mark ≡ Running → Walk (flow p.execs).graph 0 (edges_to p input n) (comes_to p input n)
  run_walk zero run = (edges 0, start, refl)
  run_walk (suc n) run = Walk-more (flow p.execs).graph 0 (passes p input (suc n)).edge (edges_to p input n) (edges (suc n)) (subst (λ v. Walk (flow p.execs).graph 0 (edges_to p input n) v) (sym (leads_on n run)) (run_walk n (ran_before p input n run)))

edges_length : (p : Program) (input : List ℤ) (n : ℕ) → length (edges_to p input n) ≡ suc n
edges_length p input zero = refl
edges_length p input (suc n) = let rest = edges_length p input n in omega (arith, rest, length-append (edges_to p input n) ((passes p input (suc n)).edge ∷ []))

pub edge_of : (p : Program) (input : List ℤ) (n k : ℕ) → k ≤ n → get_or (edges_to p input n) k 0 ≡ (passes p input k).edge
edge_of p input zero k le = let same : k ≡ 0 = omega (arith, le) in ap (λ x. get_or (edges_to p input 0) x 0) same ∙ ap (λ x. (passes p input x).edge) (sym same)
edge_of p input (suc n) k le = ⊎_elim
    (λ (same : k ≡ suc n). get_or_push (edges_to p input n) (passes p input (suc n)).edge 0 k (edges_length p input n ∙ sym same) ∙ ap (λ x. (passes p input x).edge) (sym same))
    (λ (apart : k ≢ suc n). let len = edges_length p input n in get_or_append_left (edges_to p input n) ((passes p input (suc n)).edge ∷ []) 0 k (omega (arith, len, le, apart)) ∙ edge_of p input n k (omega (arith, le, apart)))
    (cases_eq k (suc n))

-- what stands after the beginning of a list
at_split : (before after : List ℕ) (edge : ℕ) → get_or (before ++ edge ∷ after) (length before) 0 ≡ edge
at_split [] after edge = refl
at_split (x ∷ before) after edge = at_split before after edge

held_at : (xs : List ℕ) (k : ℕ) → k < length xs → Holds xs (get_or xs k 0)
held_at [] k lt = absurd (omega (arith, lt))
held_at (x ∷ xs) zero lt = inl refl
held_at (x ∷ xs) (suc k) lt = inr (held_at xs k (omega arith))

held_split : (before after : List ℕ) (edge k : ℕ) → length before ≤ k → k < length (before ++ edge ∷ after) → Holds (edge ∷ after) (get_or (before ++ edge ∷ after) k 0)
held_split [] after edge k le lt = held_at (edge ∷ after) k lt
held_split (x ∷ before) after edge zero le lt = absurd (omega (arith, le))
held_split (x ∷ before) after edge (suc k) le lt = held_split before after edge k (omega (arith, le)) (omega (arith, lt))

short_split : (before after : List ℕ) (edge : ℕ) → length before < length (before ++ edge ∷ after)
short_split before after edge = omega (arith, length-append before (edge ∷ after))

-- ---- what can't trap

mutual
  but_traps : (ex : Expr → Dim → Type 0) (names : List NameInfo) (e : Expr) → MayTrapBut ex names e → MayTrap names e
  but_traps ex names (Const z) may = may
  but_traps ex names (Truth b) may = may
  but_traps ex names Input may = may
  but_traps ex names (Read' name shape subs) may = but_subscripts ex names (dims_of names name) _ subs may
  but_traps ex names (Apply' op shape args) (inl some) = inl (but_some ex names _ args some)
  but_traps ex names (Apply' op shape args) (inr can) = inr can

  but_some : (ex : Expr → Dim → Type 0) (names : List NameInfo) (n : _) (row : Row_of-Expr n) → SomeMayTrap ex names row → SomeMayTrap none names row
  but_some ex names n end_of-Expr some = some
  but_some ex names n (more_of-Expr e rest) (inl here) = inl (but_traps ex names e here)
  but_some ex names n (more_of-Expr e rest) (inr later) = inr (but_some ex names _ rest later)

  but_subscripts : (ex : Expr → Dim → Type 0) (names : List NameInfo) (dims : List Dim) (n : _) (row : Row_of-Expr n) → SubscriptsMayTrap ex names dims row → SubscriptsMayTrap none names dims row
  but_subscripts ex names dims n end_of-Expr some = some
  but_subscripts ex names [] n (more_of-Expr e rest) (inl here) = inl (but_traps ex names e here)
  but_subscripts ex names [] n (more_of-Expr e rest) (inr later) = inr (but_subscripts ex names [] _ rest later)
  but_subscripts ex names (dim ∷ dims) n (more_of-Expr e rest) (inl here) = inl ((λ no'. no'), ⊎_elim (λ t. inl (but_traps ex names e t)) (λ o. inr o) here.1)
  but_subscripts ex names (dim ∷ dims) n (more_of-Expr e rest) (inr later) = inr (but_subscripts ex names dims _ rest later)

no_trap : (m : Memory) (f : ℤ → ℕ) (r : Result ℤ Trap) → DoesNotTrap (branch_outcome m f r) → (z : ℤ) × (r ≡ Ok z)
no_trap m f (Ok z) safe = (z, refl)
no_trap m f (Err trap) safe = absurd safe

candidate_quiet : (names : List NameInfo) (e : Expr) → IsCandidate names e → MayTrap names e → ⊥
candidate_quiet names (Const z) is may = may
candidate_quiet names (Truth b) is may = may
candidate_quiet names Input is may = is
candidate_quiet names (Read' name shape subs) is may = is
candidate_quiet names (Apply' op shape args) is may = is.2 may

-- ---- what a pass writes

kind_fits : (p : Program) (k : ℕ) (o : Option Exec) → IsWellFormed p → slice_get p.execs k ≡ o → TargetFits p.names (kind_in o)
kind_fits p k None w is = tt
kind_fits p k (Some x) w is = (program_fits p k x w is).target

exec_of_kind : (p : Program) (k : ℕ) (o : Option Exec) → IsWellFormed p → slice_get p.execs k ≡ o → IsExecutable p.names (kind_in o)
exec_of_kind p k None w is = tt
exec_of_kind p k (Some x) w is = all-get (λ (y : Exec). IsExecutable p.names y.kind) p.execs k x w.execs.each is

module _ (p : Program) (c : ClassTable) (input : List ℤ) (well : IsWellFormed p) (classes : IsClasses p c) (placed : ArePlaced p.names p.words)
    (hits : (access : Access) (word : ℕ) → IsAccess p.names access → AccessMayName p.names access word → Hits c access (class_of_word c word))
    (reads : (kind : ExecKind) (word : ℕ) → CanExecute p kind → ExecMayRead p.names kind word → ExecNeeds c kind (class_of_word c word))
    (changes : (m : Memory) (kind : ExecKind) (word : ℕ) → Changes p.names input m kind word → ExecMayChange p.names kind word)
    (rest : (m : Memory) (kind : ExecKind) → IfGoes (outcome p.names input m kind) (λ next new text. KeepsRest p.names input kind m new))
    (values : (a b : List ℤ) (e : Expr) → ((word : ℕ) → MayRead p.names e word → word_at a word ≡ word_at b word) → value p.names a None e ≡ value p.names b None e) where
  class_written : (kind : ExecKind) (word : ℕ) → TargetFits p.names kind → ExecMayChange p.names kind word → ExecWrites c kind (class_of_word c word)
  class_written (Assign target value next) word fits may = hits target word fits may
  class_written (DoStart loop_no var first last step body exit) word fits may = ap (λ (names : List NameInfo). class_of_word c (place_of names var)) classes.names ∙ ap (class_of_word c) may
  class_written (DoNext loop_no var body exit) word fits may = ap (λ (names : List NameInfo). class_of_word c (place_of names var)) classes.names ∙ ap (class_of_word c) may
  class_written (Print items next) word fits may = may
  class_written (Pass next) word fits may = may
  class_written (Test cond a b) word fits may = may
  class_written (Sign value a b d) word fits may = may
  class_written (Pick value targets other) word fits may = may
  class_written End word fits may = may

  first_exec : 0 < length p.execs
  first_exec = well.execs.end.some

  reads_class : (e : Expr) (word : ℕ) → IsExpression p.names e → MayRead p.names e word → ExprNeeds c e (class_of_word c word)
  reads_class e word fits may = reads (Sign e 0 0 0) word (fits, first_exec, first_exec, first_exec) may

  goes_rest : (m new : Memory) (kind : ExecKind) (next : ℕ) (text : List ℕ) → outcome p.names input m kind ≡ Goes next new text → KeepsRest p.names input kind m new
  goes_rest m new kind next text is = subst (λ (o : Outcome). IfGoes o (λ n x t. KeepsRest p.names input kind m x)) is (rest m kind)

  -- what leaves the classes that an expression reads leaves its value
  value_over : (old new : Memory) (kind : ExecKind) (pk : PieceKind) (e : Expr) → IsExpression p.names e → TargetFits p.names kind → ((class : ℕ) → PieceWrites c pk kind class → ExprNeeds c e class → ⊥) → KeptBy p.names input old kind pk new → value_in p.names new e ≡ value_in p.names old e
  value_over old new kind pk e fits target lives (inl same) = ap (λ (m : Memory). value_in p.names m e) same
  value_over old new kind pk e fits target lives (inr act) =
      let kept = goes_rest old new kind act.1.0 act.1.1 act.1.2 in
      values new.store old.store e
      (λ word may. ap (λ (o : Option ℤ). unwrap_or o (pos 0)) (kept.store word (λ changed. lives (class_of_word c word)
      (subst (λ (k : PieceKind). PieceWrites c k kind (class_of_word c word)) (sym act.0) (class_written kind word target (changes old kind word changed)))
      (reads_class e word fits may))))

  -- a pass at whose piece nothing kills the expression leaves its value
  value_kept : (n : ℕ) (e : Expr) → IsExpression p.names e → (passes p input (suc n)).mark ≡ Running → (Kills p (flow p.execs) c e (comes_to p input n) → ⊥) → value_in p.names (passes p input (suc n)).memory e ≡ value_in p.names (passes p input n).memory e
  value_kept n e fits run lives =
      let node = piece_at (flow p.execs).pieces (comes_to p input n) in
      value_over (passes p input n).memory (passes p input (suc n)).memory (kind_met p input n) (piece_met p input n) e fits (kind_fits p node.exec (slice_get p.execs node.exec) well refl)
      (λ class w r. lives (record { class = class; writes = w; reads = r }))
      (memory_kept p input n run)

  values_kept : (m n : ℕ) (e : Expr) → IsExpression p.names e → (passes p input n).mark ≡ Running → ((q : ℕ) → m ≤ q → q < n → Kills p (flow p.execs) c e (comes_to p input q) → ⊥) → m ≤ n → value_in p.names (passes p input n).memory e ≡ value_in p.names (passes p input m).memory e
  values_kept m zero e fits run lives le = let same : m ≡ 0 = omega (arith, le) in ap (λ k. value_in p.names (passes p input k).memory e) (sym same)
  values_kept m (suc n) e fits run lives le = ⊎_elim
      (λ (same : m ≡ suc n). ap (λ k. value_in p.names (passes p input k).memory e) (sym same))
      (λ (apart : m ≢ suc n).
      let less : m ≤ n = omega (arith, le, apart) in
      value_kept n e fits run (lives n less (omega arith)) ∙ values_kept m n e fits (ran_before p input n run) (λ q from below. lives q from (omega (arith, below))) less)
      (cases_eq m (suc n))

  module _ (fed : All IsWord input) (first_words : All IsWord (passes p input 0).memory.store) (value_words : (store : List ℤ) (next : Option ℤ) (e : Expr) (z : ℤ) → All IsWord store → IsProper p.names e → value p.names store next e ≡ Ok z → IsWord z) where
    pass_words : (n : ℕ) → (passes p input n).mark ≡ Running → All IsWord (passes p input n).memory.store
    pass_words zero run = first_words
    pass_words (suc n) run =
        let before = pass_words n (ran_before p input n run) in
        let old = (passes p input n).memory in
        let node = piece_at (flow p.execs).pieces (comes_to p input n) in
        ⊎_elim
        (λ same. subst (λ (m : Memory). All IsWord m.store) (sym same) before)
        (λ act. subst (λ (o : Outcome). IfGoes o (λ n x t. All IsWord x.store)) act.1.2
        (exec_words p.names input old (kind_met p input n) (λ next e z proper is. value_words old.store next e z before proper is) fed (exec_of_kind p node.exec (slice_get p.execs node.exec) well refl) before))
        (memory_kept p input n run)

    module _ (safe : (m : Memory) (kind : ExecKind) → All IsWord m.store → (ExecMayTrapBut (λ sub dim. false ≡ true) p.names kind → ⊥) → DoesNotTrap (outcome p.names input m kind))
        (start : from (flow p.execs).graph (passes p input 0).edge ≡ 0) (edges : (n : ℕ) → (passes p input n).edge < edge_count (flow p.execs).graph)
        (leads_on : (n : ℕ) → (passes p input (suc n)).mark ≡ Running → from (flow p.execs).graph (passes p input (suc n)).edge ≡ to (flow p.execs).graph (passes p input n).edge)
        (starts : (piece_at (flow p.execs).pieces 0).kind ≡ piece.Start) where
      has_value : (m : Memory) (e : Expr) → All IsWord m.store → IsCandidate p.names e → (z : ℤ) × (value_in p.names m e ≡ Ok z)
      has_value m e words is = no_trap m _ (value_in p.names m e) (safe m (Sign e 0 0 0) words (λ may. candidate_quiet p.names e is (but_traps (λ sub dim. false ≡ true) p.names e may)))

      -- the start computes nothing
      not_at_start : (e : Expr) → Computes p (flow p.execs) e 0 → ⊥
      not_at_start e c' =
          let nothing : computed_by p.execs (piece_at (flow p.execs).pieces 0) ≡ [] = ap (λ (k : PieceKind). flat_map subexpressions (evaluated k (kind_of_piece p.execs (piece_at (flow p.execs).pieces 0)))) starts in
          let there = subst (λ (z : List Expr). Contains z e) nothing c'.stands in
          let lt = there.1 in
          omega (arith, lt)

      from_edge : (n k : ℕ) → k ≤ n → (passes p input n).mark ≡ Running → (q : ℕ) → k ≡ suc q → from (flow p.execs).graph (passes p input k).edge ≡ comes_to p input q
      from_edge n k le run q is = subst (λ x. from (flow p.execs).graph (passes p input x).edge ≡ comes_to p input q) (sym is) (leads_on q (subst (λ x. (passes p input x).mark ≡ Running) is (running_below p input n k le run)))

      by_place : (n : ℕ) (e : Expr) → (passes p input n).mark ≡ Running → (j : ℕ) → j ≤ n → Computes p (flow p.execs) e (from (flow p.execs).graph (passes p input j).edge) → ((k : ℕ) → j ≤ k → k ≤ n → Kills p (flow p.execs) c e (from (flow p.execs).graph (passes p input k).edge) → ⊥) → KeepsValue p input n e
      by_place n e run zero le computes kept = absurd (not_at_start e (subst (λ v. Computes p (flow p.execs) e v) start computes))
      by_place n e run (suc m) le computes kept =
          let at_m : Computes p (flow p.execs) e (comes_to p input m) = subst (λ v. Computes p (flow p.execs) e v) (from_edge n (suc m) le run m refl) computes in
          let fits : IsExpression p.names e = contained_fits p.names (computed_by p.execs (piece_at (flow p.execs).pieces (comes_to p input m))) e (piece_fits p (piece_at (flow p.execs).pieces (comes_to p input m)) well) at_m.stands in
          let lives : (k q : ℕ) → k ≤ n → m ≤ q → q < k → Kills p (flow p.execs) c e (comes_to p input q) → ⊥ = λ k q below from' less kill. kept (suc q) (omega (arith, from')) (omega (arith, less, below)) (subst (λ v. Kills p (flow p.execs) c e v) (sym (from_edge n (suc q) (omega (arith, less, below)) run q refl)) kill) in
          let ran = running_below p input n m (omega (arith, le)) run in
          let found = has_value (passes p input m).memory e (pass_words m ran) at_m.candidate in
          record {
            pass = m;
            earlier = omega (arith, le);
            computes = at_m;
            value = found.0;
            stays = λ k from' below. values_kept m k e fits (running_below p input n k below run) (λ q f l. lives k q below f l) from' ∙ found.1;
          }

      pub keeps_value : (n : ℕ) (e : Expr) → (passes p input n).mark ≡ Running → IsAvailable p (flow p.execs) c e (comes_to p input n) → KeepsValue p input n e
      keeps_value n e run available =
          let g = (flow p.execs).graph in
          let walk = run_walk p input start edges leads_on n run in
          let on = available (edges_to p input n) walk in
          let j = length on.before in
          let len = edges_length p input n in
          let short = short_split on.before on.after on.edge in
          let count : length (edges_to p input n) ≡ length (on.before ++ on.edge ∷ on.after) = ap length on.is in
          let j_le : j ≤ n = omega (arith, len, short, count) in
          let edge_is : on.edge ≡ (passes p input j).edge = sym (at_split on.before on.after on.edge) ∙ ap (λ (z : List ℕ). get_or z j 0) (sym on.is) ∙ edge_of p input n j j_le in
          let computes : Computes p (flow p.execs) e (from g (passes p input j).edge) = subst (λ x. Computes p (flow p.execs) e (from g x)) edge_is on.computed in
          let kept : (k : ℕ) → j ≤ k → k ≤ n → Kills p (flow p.execs) c e (from g (passes p input k).edge) → ⊥ = λ k from' below kill.
          let in_walk : get_or (on.before ++ on.edge ∷ on.after) k 0 ≡ (passes p input k).edge = ap (λ (z : List ℕ). get_or z k 0) (sym on.is) ∙ edge_of p input n k below in
          on.kept (passes p input k).edge (subst (λ x. Holds (on.edge ∷ on.after) x) in_walk (held_split on.before on.after on.edge k from' (omega (arith, below, len, count)))) kill
          in
          by_place n e run j j_le computes kept

-- ---- well-formed programs

pub well_placed : (p : Program) → IsWellFormed p → ArePlaced p.names p.words
well_placed p is = record {
  each = λ k d lt.
      let info = get_or p.names k d in
      let at : slice_get p.names k ≡ Some info = slice_get-get_or p.names k d lt in
      let fits = is.declarations.table k d lt in
      record {
        bounds = λ j e within. (fits.dimensions.bounds j e within).order;
        inside = subst (λ z. z ≤ℤ pos p.words) (ap (λ (o : Option NameInfo). pos (place_in o) +ℤ size_of (dims_in o)) at) (is.places.within k lt);
      };
  few = let few = is.word_count in omega (arith, few);
}

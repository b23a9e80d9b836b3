-- A step of a flat program, and the steps of its shared form that follow it.
use Rattle.std.proofs.Common.{◌≡◌, ℕ, suc, ◌+◌, ◌<◌, ◌≤◌, ℤ, ◌⊎◌, inl, inr, ⊎_elim, All, Bool, true, false, not, ◌&&◌, List, [], ◌∷◌, ◌++◌, length, filter, fold, Option, Some, None, Ok, refl, sym, ap, subst, ◌∙◌, arith}
use Rattle.std.specs.Prelude.{slice_get, slice_index, if◌then◌else◌, ◌==◌}
use Rattle.std.proofs.lemmas.Bool.{cases_Bool, cases_lt, eqb-true}
use Rattle.std.proofs.lemmas.Option.{slice_get-get_or}
use Rattle.list_laws.specs.Member.{Member}
use Rattle.list_laws.proofs.Members.{at_of, member_of_list_any, Member-filter, Member-flat_map, Member-left, Member-right}
use Rattle.op_table.specs.Words.{IsWord}
use Rattle.op_table.specs.declared.Op.TheVariants.{Truth as TruthOf}
use Rattle.alias_classes.specs.Classes.{ClassTable}
use Rattle.f77_tree.specs.declared.declarations.Kind.{Kind}
use Rattle.f77_tree.specs.declared.declarations.Kind.TheVariants.{Integer, Logical}
use Rattle.f77_tree.specs.declared.expressions.Access.{Access}
use Rattle.f77_tree.specs.declared.expressions.Expr.{Expr, Input}
use Rattle.f77_tree.specs.declared.programs.Exec.{Exec}
use Rattle.f77_tree.specs.declared.programs.ExecKind.{ExecKind}
use Rattle.f77_tree.specs.declared.programs.ExecKind.TheVariants.{Pass}
use Rattle.f77_tree.specs.declared.programs.Program.{Program}
use Rattle.f77_tree.specs.CanRun.{CanExecute, CanRun}
use Rattle.f77_tree.specs.Execution.{Memory, outcome, value_in, words_taken}
use Rattle.f77_tree.specs.Kinds.{taken_as, IsProper}
use Rattle.f77_tree.specs.Run.{Running, State, source, step}
use Rattle.f77_tree.specs.Steps.{IfGoes, IsMemoryOf, HasRoomFor, AgreeFor, AreAlike, Changes, KeepsRest}
use Rattle.f77_tree.specs.Value.{value, word_at, IsExpression}
use Rattle.f77_tree.specs.WellFormed.{IsExecutable, IsWellFormed}
use Rattle.f77_tree.proofs.AllLemmas.{All-cons, All-get, All-nil}
use Rattle.f77_tree.proofs.ExpressionLemmas.{Apply-IsExpression}
use Rattle.f77_tree.proofs.KindLemmas.{IsProper-expression}
use Rattle.cfg_build.specs.Flow.{flow}
use Rattle.cfg_build.specs.Passes.{passes}
use Rattle.flat_programs.specs.declared.statements.Flat.{Flat}
use Rattle.flat_programs.specs.declared.statements.Flat.TheVariants.{Mark as MarkHere, Assignment, Output, LogicalIf, ArithmeticIf, ComputedGoTo, DoLoop, Jump, Finish}
use Rattle.flat_programs.specs.declared.statements.FlatLine.{FlatLine}
use Rattle.flat_programs.specs.Executables.{beyond, executables, first_of, following, increment, leading, marked, width, width_by}
use Rattle.flat_programs.specs.FlatForm.{AreProper, AreStatementsOf, IsNumber, IsProperFlat}
use Rattle.flat_programs.specs.Marks.{is_end, loop_at, loop_to, mark_at, mark_count, variable_in}
use Rattle.redundancy.specs.Available.{Availability, IsAvailability, IsAvailable}
use Rattle.redundancy.specs.Candidates.{subexpressions}
use Rattle.redundancy.specs.Computed.{expressions}
use Rattle.redundancy.specs.Runs.{comes_to, KeepsValue}
use Rattle.shared_forms.specs.Numbered.{added, number_of, IsSharedNumber}
use Rattle.shared_forms.specs.Shared.{candidate, computed, due, expression_in, is_available, is_one_of, is_shared, replaced, replaced_in, shared, shared_program}
use Rattle.shared_laws.specs.SharedRuns.{temporary_word}
use Rattle.shared_laws.proofs.FrontRuns.{front-run, IsFrontRun}
use Rattle.shared_laws.proofs.FlatPlaces.{before-place, first_of-next, following-at, leading-at, loop-of, numbers-of, with_line}
use Rattle.shared_laws.proofs.ListPlaces.{item_at}
use Rattle.shared_forms.proofs.NumberLemmas.{number_in-is, number_in-within}
use Rattle.shared_laws.proofs.OwnPasses.{among-computed, at-most, available-here, computed-here, computed-none, due-nothing, kept-here, own-computes, own_pass, own_pass-rises, value-here, PieceLaws}
use Rattle.shared_forms.proofs.ProperCandidates.{executable-value, IsTaken}
use Rattle.shared_laws.proofs.ReplacedOutcomes.{following-same, leading-same, IsTwofold, KeepKinds, KeepValues, SameFollowing, SameStep}
use Rattle.shared_laws.proofs.ReplacedValues.{replaced-value}
use Rattle.shared_laws.proofs.SharedExecutables.{beyond-same, end-same, entry, first-next, first-statement, loop-same, loop_to-same, many, mark-same, marked-same, second-executable, statement-executable, Leads}
use Rattle.shared_laws.proofs.SharedStands.{all, changed, due_at, stands, statement-there}
use Rattle.shared_forms.proofs.SharedLineLemmas.{executables-length}
use Rattle.shared_forms.proofs.SharedProper.{FitTable}
use Rattle.shared_laws.proofs.SharedValues.{candidate-dry, candidate-longer, candidate-over, candidate-told, candidate-at, kinds-stay, taken-stays, value-told, value_over, ValueLaws}

-- ---- what is due

module _ (x : ℕ) where
  choice-seen : (b : Bool) (seen : List ℕ) (n : ℕ) → Member seen x → Member (if b then seen else (seen ++ n ∷ [])) x
  choice-seen true seen n m = m
  choice-seen false seen n m = Member-left seen (n ∷ []) x m

  fold-seen : (seen ns : List ℕ) → Member seen x → Member (fold added seen ns) x
  fold-seen seen [] m = m
  fold-seen seen (n ∷ ns) m = fold-seen (added seen n) ns (choice-seen (is_one_of seen n) seen n m)

  added-here : (seen : List ℕ) (b : Bool) → is_one_of seen x ≡ b → Member (if b then seen else (seen ++ x ∷ [])) x
  added-here seen true is = let r = member_of_list_any (λ m. m == x) seen is in subst (Member seen) (eqb-true r.one x r.passes) r.among
  added-here seen false is = Member-right seen (x ∷ []) x (inl refl)

  fold-has : (seen ns : List ℕ) → Member ns x → Member (fold added seen ns) x
  fold-has seen [] m = absurd m
  fold-has seen (n ∷ ns) (inl same) = fold-seen (added seen n) ns (subst (λ k. Member (added seen k) x) (sym same) (added-here seen (is_one_of seen x) refl))
  fold-has seen (n ∷ ns) (inr m) = fold-has (added seen n) ns m

due-has : (q : Program) (a : Availability) (k n : ℕ) → Member (computed q a (number_of a) k) n → is_shared q a (number_of a) n ≡ true → is_available q a (number_of a) k n ≡ false → Member (due q a (number_of a) k) n
due-has q a k n among is not_yet =
    let test : ℕ → Bool = λ i. is_shared q a (number_of a) i && not (is_available q a (number_of a) k i) in
    let passes : test n ≡ true = ap (λ b. b && not (is_available q a (number_of a) k n)) is ∙ ap not not_yet in
    fold-has n [] (filter test (computed q a (number_of a) k)) (Member-filter test (computed q a (number_of a) k) n among passes)

-- the second executable of a statement evaluates nothing
idle-choice : (b : Bool) (a kind : ExecKind) → expressions a ≡ [] → (if b then Some a else None) ≡ Some kind → expressions kind ≡ []
idle-choice true a kind none is = let e : a ≡ kind = cc in ap expressions (sym e) ∙ none
idle-choice false a kind none is = let e : None ≡ Some kind = is in absurd cc

following-idle : (flat : List FlatLine) (place : ℕ) (stmt : Flat) (kind : ExecKind) → following flat place stmt ≡ Some kind → expressions kind ≡ []
following-idle flat place MarkHere kind is = idle-choice (is_end flat (mark_at flat place)) (increment flat (loop_to flat (mark_at flat place)) (first_of flat (place + 1))) kind refl is
following-idle flat place (LogicalIf cond target) kind is = let e : Pass (marked flat target) ≡ kind = cc in ap expressions (sym e)
following-idle flat place (Assignment target given) kind is = absurd cc
following-idle flat place (Output items) kind is = absurd cc
following-idle flat place (ArithmeticIf given below at above) kind is = absurd cc
following-idle flat place (ComputedGoTo given targets) kind is = absurd cc
following-idle flat place (DoLoop end var first last step) kind is = absurd cc
following-idle flat place (Jump target) kind is = absurd cc
following-idle flat place Finish kind is = absurd cc

taken-fits : (q : Program) (kind : Kind) → IsExpression q.names (taken_as kind)
taken-fits q Integer = tt
taken-fits q Logical = Apply-IsExpression q.names TruthOf (Input ∷ []) refl (All-cons (IsExpression q.names) Input [] tt (All-nil (IsExpression q.names)))

-- what is told of a flat program and its runs
pub record StepLaws (q : Program) (c : ClassTable) (a : Availability) (flat : List FlatLine) (input : List ℤ) : Type 0 where
  pub pieces : PieceLaws q input
  pub values : ValueLaws q
  pub fit : FitTable q a
  pub proper : AreProper q.names flat
  pub can : CanRun q
  pub positions : (n : ℕ) → (source q input n).position < length q.execs
  pub memories : (n : ℕ) → IsMemoryOf q input (source q input n).memory
  pub words : (n : ℕ) → All IsWord (source q input n).memory.store
  pub keeps : (n : ℕ) (e : Expr) → (passes q input n).mark ≡ Running → IsAvailable q (flow q.execs) c e (comes_to q input n) → KeepsValue q input n e
  pub alike : (m n : Memory) (kind : ExecKind) → HasRoomFor q m → HasRoomFor q n → CanExecute q kind → AgreeFor q.names kind m n → AreAlike q.names input kind m n (outcome q.names input m kind) (outcome q.names input n kind)
  pub rest : (m : Memory) (kind : ExecKind) → IfGoes (outcome q.names input m kind) (λ next new text. KeepsRest q.names input kind m new)
  pub changes : (m : Memory) (kind : ExecKind) (word : ℕ) → CanExecute q kind → Changes q.names input m kind word → word < q.words

module _ (q : Program) (c : ClassTable) (a : Availability) (flat : List FlatLine) (input : List ℤ) (formed : IsWellFormed q) (available : IsAvailability q (flow q.execs) c a) (statements : AreStatementsOf q flat) (laws : StepLaws q c a flat input) where
  abbrev pub r : Program
  r = shared_program q a (number_of a) flat

  abbrev x : (t : ℕ) → State
  x t = source q input t

  abbrev pub cand : (n : ℕ) → Expr
  cand n = candidate q a (number_of a) n

  abbrev tword : (n : ℕ) → ℕ
  tword n = temporary_word q a (number_of a) n

  abbrev pub own : (t : ℕ) → ℕ
  own t = own_pass q input formed.execs laws.pieces t

  -- ---- executables that stand for each other

  -- the second executables of a statement
  pub record IsSecond (k j : ℕ) : Type 0 where
    pub place : ℕ
    pub l : FlatLine
    pub found : slice_get flat place ≡ Some l
    pub kind : ExecKind
    pub follows : following flat place l.stmt ≡ Some kind
    pub old : k ≡ first_of flat place + 1
    pub new : j ≡ entry q a flat place + many q a flat place + 1

  abbrev pub Stands : ℕ → ℕ → Type 0
  Stands k j = Leads q a flat k j ⊎ IsSecond k j

  origin : Stands 0 0
  origin = inl (record { place = 0; old = refl; new = refl })

  -- ---- states

  pub record IsAlike (x y : State) : Type 0 where
    pub words : (word : ℕ) → word < q.words → word_at y.memory.store word ≡ word_at x.memory.store word
    pub counts : (k : ℕ) → slice_index x.memory.counts k ≡ slice_index y.memory.counts k
    pub steps : (k : ℕ) → word_at x.memory.steps k ≡ word_at y.memory.steps k
    pub taken : x.memory.taken ≡ y.memory.taken
    pub size : IsMemoryOf r input y.memory
    pub out : y.out ≡ x.out
    pub mark : y.mark ≡ x.mark

  -- a state of the shared form that stands for the state after so many steps: the temporaries of candidates that have kept a value
  -- since they were computed hold it
  pub record InStep (t : ℕ) (y : State) : Type 0 where
    pub alike : IsAlike (x t) y
    pub position : (x t).mark ≡ Running → Stands (x t).position y.position
    pub holds : (x t).mark ≡ Running → (n : ℕ) → IsSharedNumber q a n → (kept : KeepsValue q input (own t) (cand n)) → word_at y.memory.store (tword n) ≡ kept.value

  -- a state before an executable of the shared form that does what the next one of the program does
  pub record IsReady (t line : ℕ) (kind kind' : ExecKind) (y : State) : Type 0 where
    pub alike : IsAlike (x t) y
    pub here : slice_get q.execs (x t).position ≡ Some (with_line line kind)
    pub there : slice_get r.execs y.position ≡ Some (with_line line kind')
    pub same : SameStep Stands (outcome q.names input y.memory kind) (outcome r.names input y.memory kind')
    pub holds : (x (suc t)).mark ≡ Running → (n : ℕ) → IsSharedNumber q a n → (kept : KeepsValue q input (own (suc t)) (cand n)) → word_at y.memory.store (tword n) ≡ kept.value

  pub record IsReadyAfter (t u : ℕ) : Type 0 where
    pub steps : ℕ
    pub count : steps ≡ u + length (due q a (number_of a) (x t).position)
    pub line : ℕ
    pub kind : ExecKind
    pub kind' : ExecKind
    pub ready : IsReady t line kind kind' (source r input steps)

  exec-found : (t : ℕ) → (exec : Exec) × (slice_get q.execs (x t).position ≡ Some exec)
  exec-found t = item_at q.execs (x t).position (laws.positions t)

  exec-in : (k : ℕ) (o : Option Exec) → slice_get (executables flat) k ≡ o → slice_get q.execs k ≡ o
  exec-in k o at = ap (λ (es : List Exec). slice_get es k) (sym statements.execs) ∙ at

  -- ---- values of candidates

  abbrev val : (t n : ℕ) → ℤ
  val t n = value_over q a (flow q.execs) laws.can.begins formed.execs.each available.candidates laws.fit laws.values (x t).memory.store n

  told : (n : ℕ) → IsSharedNumber q a n → number_of a (cand n) ≡ Some n
  told n is = candidate-told q a (flow q.execs) laws.can.begins formed.execs.each available.candidates laws.fit laws.values n is

  val-told : (t n : ℕ) (z : ℤ) → value_in q.names (x t).memory (cand n) ≡ Ok z → val t n ≡ z
  val-told t n z is = value-told q a (flow q.execs) laws.can.begins formed.execs.each available.candidates laws.fit laws.values (x t).memory.store n z is

  -- what is computed with the step has the value that it has then
  module _ (t : ℕ) (exec : Exec) (here : slice_get q.execs (x t).position ≡ Some exec) (runs : (x t).mark ≡ Running) (y z : State) (in_step : InStep t y)
      (stay : (n : ℕ) → IsSharedNumber q a n → word_at y.memory.store (tword n) ≡ val t n → word_at z.memory.store (tword n) ≡ val t n)
      (given : (n : ℕ) → IsSharedNumber q a n → Member (computed q a (number_of a) (x t).position) n → is_available q a (number_of a) (x t).position n ≡ false → word_at z.memory.store (tword n) ≡ val t n) where
    computed-holds : (n : ℕ) → IsSharedNumber q a n → Member (computed q a (number_of a) (x t).position) n → word_at z.memory.store (tword n) ≡ val t n
    computed-holds n is among =
        ⊎_elim
        (λ (yet : is_available q a (number_of a) (x t).position n ≡ true).
        let at = candidate-at q a (flow q.execs) laws.can.begins formed.execs.each available.candidates laws.fit laws.values n is in
        let kept = available-here q input formed.execs laws.pieces a c t n exec (cand n) available (λ passed ran there. laws.keeps passed (cand n) ran there) here runs at yet in
        let value = value-here q input formed.execs laws.pieces t (own t) exec (cand n) here kept (let less = kept.earlier in omega (arith, less)) (omega arith) in
        stay n is (in_step.holds runs n is kept ∙ sym (val-told t n kept.value value)))
        (λ (not_yet : is_available q a (number_of a) (x t).position n ≡ false). given n is among not_yet)
        (cases_Bool (is_available q a (number_of a) (x t).position n))

    -- what keeps its value up to the next step has it
    next-holds : (x (suc t)).mark ≡ Running → (n : ℕ) → IsSharedNumber q a n → (kept : KeepsValue q input (own (suc t)) (cand n)) → word_at z.memory.store (tword n) ≡ kept.value
    next-holds goes n is kept =
        let later = exec-found (suc t) in
        let low = at-most q input formed.execs laws.pieces t later.0 (cand n) later.1 goes kept in
        let up = own_pass-rises q input formed.execs laws.pieces t (suc t) (omega arith) in
        let value = val-told t n kept.value (value-here q input formed.execs laws.pieces t (own (suc t)) exec (cand n) here kept low up) in
        ⊎_elim
        (λ (before : kept.pass < own t). stay n is (in_step.holds runs n is (kept-here q input formed.execs laws.pieces t (own (suc t)) (cand n) kept before up) ∙ sym value) ∙ value)
        (λ (past : own t ≤ kept.pass). computed-holds n is (computed-here q input formed.execs laws.pieces a t n kept.pass exec (cand n) here runs kept.computes (omega (arith, past, low)) (told n is)) ∙ value)
        (cases_lt kept.pass (own t))

  -- ---- the first executable of a statement

  value-fits : (kind : ExecKind) (e : Expr) → IsProper q.names e ⊎ IsTaken e → IsExpression q.names e
  value-fits kind e (inl proper) = IsProper-expression q.names e proper
  value-fits kind e (inr taken) = subst (IsExpression q.names) (sym taken.is) (taken-fits q taken.kind)

  expression-fits : (k : ℕ) (exec : Exec) (e : Expr) → slice_get q.execs k ≡ Some exec → Member (expressions exec.kind) e → IsExpression q.names e
  expression-fits k exec e here among = value-fits exec.kind e (executable-value q.names exec.kind e (All-get (λ (y : Exec). IsExecutable q.names y.kind) q.execs k exec formed.execs.each here) among)

  module _ (t : ℕ) (exec : Exec) (here : slice_get q.execs (x t).position ≡ Some exec) (z : State) (agree : (word : ℕ) → word < q.words → word_at z.memory.store word ≡ word_at (x t).memory.store word)
      (holds : (n : ℕ) → IsSharedNumber q a n → Member (computed q a (number_of a) (x t).position) n → word_at z.memory.store (tword n) ≡ val t n) where
    held : (next : Option ℤ) (e d : Expr) (n : ℕ) → Member (expressions exec.kind) e → Member (subexpressions e) d → number_of a d ≡ Some n → is_shared q a (number_of a) n ≡ true → value q.names z.memory.store next d ≡ Ok (word_at z.memory.store (tword n))
    held next e d n among inside numbered shared =
        let is : IsSharedNumber q a n = record { within = number_in-within a.candidates d n numbered; shared = shared } in
        let same : cand n ≡ d = ap expression_in (number_in-is a.candidates d n numbered) in
        let there = subst (λ (es : List Expr). Member es d) (sym (own-computes q input formed.execs laws.pieces t exec here)) (Member-flat_map subexpressions (expressions exec.kind) e d among inside) in
        let computes = among-computed q input formed.execs laws.pieces a (x t).position n d there numbered in
        ap (value q.names z.memory.store next) (sym same)
        ∙ candidate-over q a (flow q.execs) laws.can.begins formed.execs.each available.candidates laws.fit laws.values (x t).memory.store z.memory.store next n is (laws.words t) agree
        ∙ ap (λ (w : ℤ). Ok w) (sym (holds n is computes))

    keep-values : KeepValues q a z.memory input (expressions exec.kind)
    keep-values next e among = replaced-value q a z.memory.store next (laws.values.truths z.memory.store next) e (expression-fits (x t).position exec e here among) (λ d n inside numbered shared. held next e d n among inside numbered shared)

  keep-kinds : (k : ℕ) (exec : Exec) (m : Memory) → slice_get q.execs k ≡ Some exec → KeepKinds q a m input (expressions exec.kind)
  keep-kinds k exec m here e among = kinds-stay q a (flow q.execs) laws.can.begins formed.execs.each available.candidates laws.fit laws.values exec.kind e (All-get (λ (y : Exec). IsExecutable q.names y.kind) q.execs k exec formed.execs.each here) among

  -- a mark has no assignments before it
  bare : (place : ℕ) (l : FlatLine) → slice_get flat place ≡ Some l → l.stmt ≡ MarkHere → due_at q a flat place ≡ []
  bare place l found mark =
      due-nothing q a (first_of flat place) (with_line l.line (leading flat place l.stmt)) (exec-in (first_of flat place) (Some (with_line l.line (leading flat place l.stmt))) (leading-at flat place l found))
      (ap (λ (stmt : Flat). expressions (leading flat place stmt)) mark)

  marked-at : (number : ℕ) → IsNumber (mark_count flat) number → Stands (marked flat number) (marked (all q a flat) number)
  marked-at number is = inl (marked-same q a flat bare number is)

  beyond-at : (number : ℕ) → IsNumber (mark_count flat) number → Stands (beyond flat number) (beyond (all q a flat) number)
  beyond-at number is = inl (beyond-same q a flat bare number is)

  next-at : (place : ℕ) (l : FlatLine) → slice_get flat place ≡ Some l → Stands (first_of flat (place + 1)) (first_of (all q a flat) (stands q a flat place + 1))
  next-at place l found = inl (record { place = place + 1; old = refl; new = first-next q a flat place l found })

  second-at : (place : ℕ) (l : FlatLine) (kind : ExecKind) → slice_get flat place ≡ Some l → following flat place l.stmt ≡ Some kind → Stands (first_of flat place + 1) (first_of (all q a flat) (stands q a flat place) + 1)
  second-at place l kind found follows = inr (record { place = place; l = l; found = found; kind = kind; follows = follows; old = refl; new = ap (λ n. n + 1) (first-statement q a flat place l found) })

  inner-mark : (place : ℕ) (l : FlatLine) → slice_get flat place ≡ Some l → l.stmt ≡ MarkHere → (b : Bool) → is_end flat (mark_at flat place) ≡ b → Stands (first_of flat place + 1) (first_of (all q a flat) (stands q a flat place) + 1)
  inner-mark place l found mark true ends =
      let kind = increment flat (loop_to flat (mark_at flat place)) (first_of flat (place + 1)) in
      second-at place l kind found (ap (following flat place) mark ∙ ap (λ b. if b then Some kind else None) ends)
  inner-mark place l found mark false none =
      let b = all q a flat in
      let old = first_of-next flat place l found ∙ ap (λ (stmt : Flat). first_of flat place + width flat place stmt) mark ∙ ap (λ e. first_of flat place + width_by e MarkHere) none in
      let there = statement-there q a flat place l found in
      let narrow : is_end b (mark_at b (stands q a flat place)) ≡ false = ap (is_end b) (mark-same q a flat place l found) ∙ end-same q a flat (mark_at flat place) ∙ none in
      let new = first_of-next b (stands q a flat place) (changed q a l) there ∙ ap (λ (stmt : Flat). first_of b (stands q a flat place) + width b (stands q a flat place) (replaced_in q a (number_of a) stmt)) mark ∙ ap (λ e. first_of b (stands q a flat place) + width_by e MarkHere) narrow in
      inl (record { place = place + 1; old = sym old; new = sym new ∙ first-next q a flat place l found })

  inner : (place : ℕ) (l : FlatLine) (stmt : Flat) → slice_get flat place ≡ Some l → l.stmt ≡ stmt → IsTwofold stmt → Stands (first_of flat place + 1) (first_of (all q a flat) (stands q a flat place) + 1)
  inner place l MarkHere found is two = inner-mark place l found is (is_end flat (mark_at flat place)) refl
  inner place l (LogicalIf cond target) found is two = second-at place l (Pass (marked flat target)) found (ap (following flat place) is)
  inner place l (Assignment target given) found is two = absurd two
  inner place l (Output items) found is two = absurd two
  inner place l (ArithmeticIf given below at above) found is two = absurd two
  inner place l (ComputedGoTo given targets) found is two = absurd two
  inner place l (DoLoop end var first last step) found is two = absurd two
  inner place l (Jump target) found is two = absurd two
  inner place l Finish found is two = absurd two

  given-taken : (place : ℕ) (l : FlatLine) → slice_get flat place ≡ Some l → (target : Access) (given : Expr) → l.stmt ≡ Assignment target given → words_taken (replaced q a (number_of a) given) ≡ words_taken given
  given-taken place l found target given is =
      let proper : IsProperFlat q.names (Assignment target given) = subst (IsProperFlat q.names) is (All-get (λ (y : FlatLine). IsProperFlat q.names y.stmt) flat place l laws.proper found) in
      taken-stays q a (flow q.execs) laws.can.begins formed.execs.each available.candidates laws.fit laws.values target given proper

  statement-found : (t place : ℕ) → (x t).position ≡ first_of flat place → (l : FlatLine) × (slice_get flat place ≡ Some l)
  statement-found t place at =
      let size = ap (λ (es : List Exec). length es) statements.execs in
      let many = executables-length flat in
      let within = laws.positions t in
      item_at flat place (before-place flat place (length flat) (omega (arith, at, size, many, within)))

  module _ (t u : ℕ) (y : State) (begins : source r input u ≡ y) (in_step : InStep t y) (runs : (x t).mark ≡ Running) (place : ℕ) (old : (x t).position ≡ first_of flat place) (new : y.position ≡ entry q a flat place) (l : FlatLine) (found : slice_get flat place ≡ Some l) where
    abbrev kind : ExecKind
    kind = leading flat place l.stmt

    here : slice_get q.execs (x t).position ≡ Some (with_line l.line kind)
    here = exec-in (x t).position (Some (with_line l.line kind)) (ap (slice_get (executables flat)) old ∙ leading-at flat place l found)

    valued : (n : ℕ) (store : List ℤ) (next : Option ℤ) → IsSharedNumber q a n → ((word : ℕ) → word < q.words → word_at store word ≡ word_at y.memory.store word) → value r.names store next (cand n) ≡ Ok (val t n)
    valued n store next is same = candidate-longer q a (flow q.execs) laws.can.begins formed.execs.each available.candidates laws.fit laws.values (x t).memory.store store next n is (laws.words t) (λ word less. same word less ∙ in_step.alike.words word less)

    dry : (n : ℕ) → IsSharedNumber q a n → words_taken (cand n) ≡ 0
    dry n is = candidate-dry q a (flow q.execs) laws.can.begins formed.execs.each available.candidates laws.fit laws.values n is

    front-made : IsFrontRun q a flat input place l found y (val t) valued dry u (many q a flat place)
    front-made = front-run q a flat input place l found y (val t) valued dry u (many q a flat place) begins new (in_step.alike.mark ∙ runs) in_step.alike.size.words (omega arith)

    abbrev z : State
    z = source r input front-made.steps

    alike-front : IsAlike (x t) z
    alike-front =
        let front = front-made.front in
        let alike = in_step.alike in
        record {
          words = λ word less. front.words word less ∙ alike.words word less;
          counts = λ k. alike.counts k ∙ ap (λ xs. slice_index xs k) (sym front.counts);
          steps = λ k. alike.steps k ∙ ap (λ (xs : List ℤ). word_at xs k) (sym front.steps);
          taken = alike.taken ∙ sym front.taken;
          size = record {
            words = front.size;
            counts = ap (λ (xs : List ℕ). length xs) front.counts ∙ alike.size.counts;
            steps = ap (λ (xs : List ℤ). length xs) front.steps ∙ alike.size.steps;
            taken = let same = front.taken in let most = alike.size.taken in omega (arith, same, most);
          };
          out = front.out ∙ alike.out;
          mark = front.mark ∙ sym runs;
        }

    stays : (n : ℕ) → IsSharedNumber q a n → word_at y.memory.store (tword n) ≡ val t n → word_at z.memory.store (tword n) ≡ val t n
    stays n is was = front-made.front.holds n is (inl was)

    is-given : (n : ℕ) → IsSharedNumber q a n → Member (computed q a (number_of a) (x t).position) n → is_available q a (number_of a) (x t).position n ≡ false → word_at z.memory.store (tword n) ≡ val t n
    is-given n is among not_yet =
        let among_due : Member (due_at q a flat place) n = subst (λ k. Member (due q a (number_of a) k) n) old (due-has q a (x t).position n among is.shared not_yet) in
        let at = at_of (due_at q a flat place) n among_due in
        front-made.front.holds n is (inr (record { index = at.place; less = at.exists; at = slice_get-get_or (due_at q a flat place) at.place 0 at.exists ∙ ap Some (at.is 0) }))

    front-holds : (n : ℕ) → IsSharedNumber q a n → Member (computed q a (number_of a) (x t).position) n → word_at z.memory.store (tword n) ≡ val t n
    front-holds = computed-holds t (with_line l.line kind) here runs y z in_step stays is-given

    first-ready : IsReadyAfter t u
    first-ready =
        record {
          steps = front-made.steps;
          count = front-made.count ∙ ap (λ k. u + length (due q a (number_of a) k)) (sym old);
          line = l.line;
          kind = kind;
          kind' = leading (all q a flat) (stands q a flat place) (replaced_in q a (number_of a) l.stmt);
          ready = record {
            alike = alike-front;
            here = here;
            there = ap (slice_get r.execs) front-made.front.position ∙ statement-executable q a flat place l found;
            same = leading-same q a z.memory input flat (all q a flat) place (stands q a flat place) Stands origin (next-at place l found) marked-at beyond-at l.stmt
                (laws.can.executes (x t).position (with_line l.line kind) here) (numbers-of flat statements.form place l found)
                (keep-values t (with_line l.line kind) here z alike-front.words front-holds)
                (keep-kinds (x t).position (with_line l.line kind) z.memory here)
                (given-taken place l found) (loop-same q a flat place l found) (inner place l l.stmt found refl);
            holds = next-holds t (with_line l.line kind) here runs y z in_step stays is-given;
          };
        }

  -- ---- the second executable of a statement

  same-variable : (stmt : Flat) (line : ℕ) → variable_in (Some (record { line = line; stmt = replaced_in q a (number_of a) stmt })) ≡ variable_in (Some (record { line = line; stmt = stmt }))
  same-variable MarkHere line = refl
  same-variable (Assignment target given) line = refl
  same-variable (Output items) line = refl
  same-variable (LogicalIf cond target) line = refl
  same-variable (ArithmeticIf given below at above) line = refl
  same-variable (ComputedGoTo given targets) line = refl
  same-variable (DoLoop end var first last step) line = refl
  same-variable (Jump target) line = refl
  same-variable Finish line = refl

  abbrev LoopsAlike : (d d' : ℕ) → Type 0
  LoopsAlike d d' = (loop_at (all q a flat) d' ≡ loop_at flat d) × (variable_in (slice_get (all q a flat) d') ≡ variable_in (slice_get flat d)) × Stands (first_of flat (d + 1)) (first_of (all q a flat) (d' + 1))

  loops-alike : (place : ℕ) (l : FlatLine) → slice_get flat place ≡ Some l → is_end flat (mark_at flat place) ≡ true → LoopsAlike (loop_to flat (mark_at flat place)) (loop_to (all q a flat) (mark_at (all q a flat) (stands q a flat place)))
  loops-alike place l found ends =
      let number = mark_at flat place in
      let d = loop_to flat number in
      let to' = loop-of flat number ends in
      let same : loop_to (all q a flat) (mark_at (all q a flat) (stands q a flat place)) ≡ stands q a flat d = ap (loop_to (all q a flat)) (mark-same q a flat place l found) ∙ loop_to-same q a flat number ends in
      let variable = ap variable_in (statement-there q a flat d to'.line to'.is) ∙ same-variable to'.line.stmt to'.line.line ∙ ap variable_in (sym to'.is) in
      subst (LoopsAlike d) (sym same) (loop-same q a flat d to'.line to'.is, variable, next-at d to'.line to'.is)

  module _ (t u : ℕ) (y : State) (begins : source r input u ≡ y) (in_step : InStep t y) (runs : (x t).mark ≡ Running) (two : IsSecond (x t).position y.position) where
    abbrev second_exec : Exec
    second_exec = with_line two.l.line two.kind

    second-here : slice_get q.execs (x t).position ≡ Some second_exec
    second-here = exec-in (x t).position (Some second_exec) (ap (slice_get (executables flat)) two.old ∙ following-at flat two.place two.l two.kind two.found two.follows)

    nothing : expressions two.kind ≡ []
    nothing = following-idle flat two.place two.l.stmt two.kind two.follows

    followed : SameFollowing q a y.memory input flat (all q a flat) two.place (stands q a flat two.place) Stands origin (next-at two.place two.l two.found) marked-at beyond-at two.kind two.l.stmt
    followed =
        following-same q a y.memory input flat (all q a flat) two.place (stands q a flat two.place) Stands origin (next-at two.place two.l two.found) marked-at beyond-at two.l.stmt two.kind two.follows
        (laws.can.executes (x t).position second_exec second-here) (numbers-of flat statements.form two.place two.l two.found)
        (ap (is_end (all q a flat)) (mark-same q a flat two.place two.l two.found) ∙ end-same q a flat (mark_at flat two.place))
        (loops-alike two.place two.l two.found)

    none-given : (n : ℕ) → IsSharedNumber q a n → Member (computed q a (number_of a) (x t).position) n → is_available q a (number_of a) (x t).position n ≡ false → word_at y.memory.store (tword n) ≡ val t n
    none-given n is among not_yet = absurd (subst (λ (ns : List ℕ). Member ns n) (computed-none q a (x t).position second_exec second-here nothing) among)

    second-ready : IsReadyAfter t u
    second-ready =
        let none : length (due q a (number_of a) (x t).position) ≡ 0 = ap (λ (ns : List ℕ). length ns) (due-nothing q a (x t).position second_exec second-here nothing) in
        record {
          steps = u;
          count = omega (arith, none);
          line = two.l.line;
          kind = two.kind;
          kind' = followed.new;
          ready = subst (λ (z : State). IsReady t two.l.line two.kind followed.new z) (sym begins) (record {
            alike = in_step.alike;
            here = second-here;
            there = ap (slice_get r.execs) two.new ∙ second-executable q a flat two.place two.l followed.new two.found followed.follows;
            same = followed.same;
            holds = next-holds t second_exec second-here runs y y in_step (λ n is was. was) none-given;
          });
        }

  -- the shared form comes to an executable that does what the next one of the program does
  pub ready-after : (t u : ℕ) → InStep t (source r input u) → (x t).mark ≡ Running → IsReadyAfter t u
  ready-after t u in_step runs =
      ⊎_elim
      (λ (first : Leads q a flat (x t).position (source r input u).position).
      let l = statement-found t first.place first.old in
      first-ready t u (source r input u) refl in_step runs first.place first.old first.new l.0 l.1)
      (λ (two : IsSecond (x t).position (source r input u).position). second-ready t u (source r input u) refl in_step runs two)
      (in_step.position runs)

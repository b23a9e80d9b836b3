-- The values of shared candidates: they have some over each store of words, and it is the same over each store that agrees on the
-- words of the program.
use Rattle.std.proofs.Common.{◌≡◌, ℕ, ◌<◌, ℤ, pos, inl, inr, ⊎_elim, All, List, ◌++◌, length, Option, Some, None, Result, Ok, Err, refl, sym, ap, ◌∙◌}
use Rattle.std.specs.Prelude.{slice_get}
use Rattle.std.proofs.lemmas.Option.{slice_get-get_or}
use Rattle.list_laws.specs.Member.{Member}
use Rattle.op_table.specs.declared.Trap.{Trap}
use Rattle.op_table.specs.Words.{is_true, truth, IsWord}
use Rattle.f77_tree.specs.declared.declarations.Kind.{Kind}
use Rattle.f77_tree.specs.declared.declarations.Kind.TheVariants.{Integer, Logical}
use Rattle.f77_tree.specs.declared.expressions.Access.{Access}
use Rattle.f77_tree.specs.declared.expressions.Expr.{Expr, Const, Truth, Input, Read', Apply', Row_of-Expr, end_of-Expr, more_of-Expr}
use Rattle.f77_tree.specs.declared.programs.ExecKind.{ExecKind}
use Rattle.f77_tree.specs.declared.programs.ExecKind.TheVariants.{Test}
use Rattle.f77_tree.specs.declared.programs.NameInfo.{NameInfo}
use Rattle.f77_tree.specs.declared.programs.Program.{Program}
use Rattle.f77_tree.specs.CanRun.{CanExecute}
use Rattle.f77_tree.specs.Execution.{words_taken}
use Rattle.f77_tree.specs.Kinds.{taken_as, AllOfKind, IsAssignment, IsProper}
use Rattle.f77_tree.specs.Known.{MayTrap}
use Rattle.f77_tree.specs.Line.{kind_of_expression}
use Rattle.f77_tree.specs.Results.{HasResult}
use Rattle.f77_tree.specs.Touched.{ExecMayRead, MayRead, ReadsData, SomeReadsData}
use Rattle.f77_tree.specs.Value.{value, word_at, IsExpression}
use Rattle.f77_tree.specs.WellFormed.{IsExecutable}
use Rattle.f77_tree.proofs.Keeping.{words_taken-none}
use Rattle.f77_tree.proofs.KindLemmas.{IsProper-expression}
use Rattle.cfg_build.specs.Joined.{FlowGraph}
use Rattle.redundancy.specs.Available.{Availability}
use Rattle.redundancy.specs.Candidates.{IsCandidate}
use Rattle.redundancy.specs.Computed.{expressions, AreCandidates}
use Rattle.shared_forms.specs.Numbered.{number_of, IsSharedNumber}
use Rattle.shared_forms.specs.Shared.{candidate, expression_in, replaced, temporaries}
use Rattle.shared_forms.proofs.ProperCandidates.{executable-value, place-number, IsTaken}
use Rattle.shared_forms.proofs.SharedProper.{replaced-of_kind, taken-replaced, FitTable}

-- ---- expressions of a program read no data

mutual
  dry : (names : List NameInfo) (e : Expr) → IsProper names e → ReadsData e → ⊥
  dry names (Const z) proper reads = reads
  dry names (Truth b) proper reads = reads
  dry names Input proper reads = proper
  dry names (Read' name shape subs) proper reads = row-dry names Integer _ subs proper.2 reads
  dry names (Apply' op shape args) proper reads = row-dry names _ _ args proper.2 reads

  row-dry : (names : List NameInfo) (kind : Kind) (m : _) (row : Row_of-Expr m) → AllOfKind names kind row → SomeReadsData row → ⊥
  row-dry names kind m end_of-Expr all reads = reads
  row-dry names kind m (more_of-Expr e rest) all (inl here) = dry names e all.0 here
  row-dry names kind m (more_of-Expr e rest) all (inr later) = row-dry names kind _ rest all.2 later

taken-none : (names : List NameInfo) (e : Expr) → IsProper names e → words_taken e ≡ 0
taken-none names e proper = words_taken-none e (dry names e proper)

quiet : (names : List NameInfo) (e : Expr) → IsCandidate names e → MayTrap names e → ⊥
quiet names (Const z) is may = may
quiet names (Truth b) is may = may
quiet names Input is may = is
quiet names (Read' name shape subs) is may = is
quiet names (Apply' op shape args) is may = is.2 may

abbrev result_or : Result ℤ Trap → ℤ
result_or (Err trap) = pos 0
result_or (Ok z) = z

-- what is told of values over the table of a program
pub record ValueLaws (q : Program) : Type 0 where
  pub longer : (more : List NameInfo) (store : List ℤ) (next : Option ℤ) (e : Expr) → IsExpression q.names e → value (q.names ++ more) store next e ≡ value q.names store next e
  pub values : (x y : List ℤ) (next next' : Option ℤ) (e : Expr) → ((word : ℕ) → MayRead q.names e word → word_at x word ≡ word_at y word) → (ReadsData e → next ≡ next') → value q.names x next e ≡ value q.names y next' e
  pub reads : (kind : ExecKind) (word : ℕ) → CanExecute q kind → ExecMayRead q.names kind word → word < q.words
  pub untrapped : (store : List ℤ) (next : Option ℤ) (e : Expr) → All IsWord store → (MayTrap q.names e → ⊥) → HasResult (value q.names store next e)
  pub truths : (store : List ℤ) (next : Option ℤ) (e : Expr) (z : ℤ) → kind_of_expression q.names e ≡ Logical → value q.names store next e ≡ Ok z → z ≡ truth (is_true z)

module _ (q : Program) (a : Availability) (f : FlowGraph) (some : 0 < length q.execs) (each : All (λ exec. IsExecutable q.names exec.kind) q.execs) (are : AreCandidates q f a.candidates) (fit : FitTable q a) (laws : ValueLaws q) where
  abbrev pub cand : (n : ℕ) → Expr
  cand n = candidate q a (number_of a) n

  pub candidate-at : (n : ℕ) → IsSharedNumber q a n → slice_get a.candidates n ≡ Some (cand n)
  candidate-at n is = let at = slice_get-get_or a.candidates n Input is.within in at ∙ ap Some (sym (ap expression_in at))

  pub candidate-told : (n : ℕ) → IsSharedNumber q a n → number_of a (cand n) ≡ Some n
  candidate-told n is = place-number q f a.candidates each are (cand n) n (candidate-at n is)

  candidate-proper : (n : ℕ) → IsSharedNumber q a n → IsProper q.names (cand n)
  candidate-proper n is = fit.proper n (cand n) (candidate-at n is)

  candidate-fits : (n : ℕ) → IsSharedNumber q a n → IsExpression q.names (cand n)
  candidate-fits n is = IsProper-expression q.names (cand n) (candidate-proper n is)

  -- it takes no data
  pub candidate-dry : (n : ℕ) → IsSharedNumber q a n → words_taken (cand n) ≡ 0
  candidate-dry n is = taken-none q.names (cand n) (candidate-proper n is)

  -- the value over a store
  abbrev pub value_over : (store : List ℤ) (n : ℕ) → ℤ
  value_over store n = result_or (value q.names store None (cand n))

  result-is : (r : Result ℤ Trap) → HasResult r → r ≡ Ok (result_or r)
  result-is (Err trap) has = let e : Err trap ≡ Ok has.result = has.is in absurd cc
  result-is (Ok z) has = refl

  candidate-value : (store : List ℤ) (n : ℕ) → IsSharedNumber q a n → All IsWord store → value q.names store None (cand n) ≡ Ok (value_over store n)
  candidate-value store n is words = result-is (value q.names store None (cand n)) (laws.untrapped store None (cand n) words (quiet q.names (cand n) (fit.candidates n (cand n) (candidate-at n is))))

  read-within : (e : Expr) (word : ℕ) → IsExpression q.names e → MayRead q.names e word → word < q.words
  read-within e word fits may = laws.reads (Test e 0 0) word (fits, some, some) may

  pub candidate-over : (store other : List ℤ) (next : Option ℤ) (n : ℕ) → IsSharedNumber q a n → All IsWord store → ((word : ℕ) → word < q.words → word_at other word ≡ word_at store word) → value q.names other next (cand n) ≡ Ok (value_over store n)
  candidate-over store other next n is words agree =
      laws.values other store next None (cand n) (λ word may. agree word (read-within (cand n) word (candidate-fits n is) may)) (λ reads. absurd (dry q.names (cand n) (candidate-proper n is) reads))
      ∙ candidate-value store n is words

  -- over the longer table too
  pub candidate-longer : (store other : List ℤ) (next : Option ℤ) (n : ℕ) → IsSharedNumber q a n → All IsWord store → ((word : ℕ) → word < q.words → word_at other word ≡ word_at store word) → value (q.names ++ temporaries q a (number_of a)) other next (cand n) ≡ Ok (value_over store n)
  candidate-longer store other next n is words agree =
      laws.longer (temporaries q a (number_of a)) other next (cand n) (candidate-fits n is)
      ∙ candidate-over store other next n is words agree

  pub value-told : (store : List ℤ) (n : ℕ) (z : ℤ) → value q.names store None (cand n) ≡ Ok z → value_over store n ≡ z
  value-told store n z is = ap result_or is

  -- ---- what takes data, and kinds

  same-taken : (kind : Kind) (e : Expr) → e ≡ taken_as kind → replaced q a (number_of a) e ≡ e
  same-taken kind e is = ap (replaced q a (number_of a)) is ∙ taken-replaced q a fit kind ∙ sym is

  taken-kind : (kind : Kind) → kind_of_expression (q.names ++ temporaries q a (number_of a)) (taken_as kind) ≡ kind_of_expression q.names (taken_as kind)
  taken-kind Integer = refl
  taken-kind Logical = refl

  -- kinds stay
  pub kinds-stay : (kind : ExecKind) (e : Expr) → IsExecutable q.names kind → Member (expressions kind) e → kind_of_expression (q.names ++ temporaries q a (number_of a)) (replaced q a (number_of a) e) ≡ kind_of_expression q.names e
  kinds-stay kind e is among =
      ⊎_elim
      (λ (proper : IsProper q.names e). (replaced-of_kind q a fit e proper).of_kind)
      (λ (taken : IsTaken e).
      ap (kind_of_expression (q.names ++ temporaries q a (number_of a))) (same-taken taken.kind e taken.is ∙ taken.is)
      ∙ taken-kind taken.kind
      ∙ ap (kind_of_expression q.names) (sym taken.is))
      (executable-value q.names kind e is among)

  -- as many data are taken
  pub taken-stays : (target : Access) (given : Expr) → IsAssignment q.names target given → words_taken (replaced q a (number_of a) given) ≡ words_taken given
  taken-stays target given is =
      ⊎_elim
      (λ of. taken-none (q.names ++ temporaries q a (number_of a)) (replaced q a (number_of a) given) (replaced-of_kind q a fit given of.proper).proper ∙ sym (taken-none q.names given of.proper))
      (λ taken. ap words_taken (same-taken _ given taken))
      is.of_kind

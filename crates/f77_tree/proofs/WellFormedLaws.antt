-- What a well-formed program gives to the crates that work on it: each step of it reads and writes only what there is.
use Rattle.std.proofs.Common.{◌≡◌, ℕ, zero, suc, ◌<◌, pos, List, [], ◌∷◌, ◌++◌, length, get_or, Some, ◌⊎◌, inl, inr, refl, sym, ap, subst, ◌∙◌, arith}
use Rattle.std.specs.Prelude.{All, slice_get, ◌≤ℤ◌, ◌+ℤ◌}
use Rattle.std.proofs.lemmas.Int.{ints}
use Rattle.op_table.specs.declared.Op.TheVariants.{Truth}
use Rattle.f77_tree.specs.declared.declarations.Kind.{Kind}
use Rattle.f77_tree.specs.declared.declarations.Kind.TheVariants.{Integer, Logical}
use Rattle.f77_tree.specs.declared.expressions.Access.{Access}
use Rattle.f77_tree.specs.declared.expressions.Expr.{Expr}
use Rattle.f77_tree.specs.declared.expressions.Expr.TheVariants.{Input}
use Rattle.f77_tree.specs.declared.programs.NameInfo.{NameInfo}
use Rattle.f77_tree.specs.declared.programs.Item.{Item}
use Rattle.f77_tree.specs.declared.programs.Item.TheVariants.{Value, Chars}
use Rattle.f77_tree.specs.declared.programs.Exec.{Exec}
use Rattle.f77_tree.specs.declared.programs.ExecKind.{ExecKind}
use Rattle.f77_tree.specs.declared.programs.ExecKind.TheVariants.{Assign, Print, Pass, Test, Sign, Pick, DoStart, DoNext, End}
use Rattle.f77_tree.specs.declared.programs.Program.{Program}
use Rattle.f77_tree.specs.Value.{place_of, kind_of, dims_of, size_of, place_in, dims_in, IsExpression, IsAccess, ArePlaced}
use Rattle.f77_tree.specs.CanRun.{CanRun, CanExecute, IsNext, CanLoop, CanPrint}
use Rattle.f77_tree.specs.Declarations.{IsNameInfo, IsDim, IsIntegerScalar}
use Rattle.f77_tree.specs.Kinds.{IsOfKind, IsProperAccess, IsAssignment, taken_as}
use Rattle.f77_tree.specs.Control.{successors}
use Rattle.f77_tree.specs.Loops.{Loop, begun, incremented, begun_in, incremented_in}
use Rattle.f77_tree.specs.Places.{end_of}
use Rattle.f77_tree.specs.WellFormed.{IsWellFormed, IsExecutable, IsProperItem}
use Rattle.f77_tree.proofs.AllLemmas.{All-nil, All-cons, All-get, All-first, All-rest}
use Rattle.f77_tree.proofs.Equations.{size-one}
use Rattle.f77_tree.proofs.ExpressionLemmas.{Apply-IsExpression}
use Rattle.f77_tree.proofs.KindLemmas.{IsProper-expression, IsProper-element}

-- ---- places

get-get_or : {X : Type 0} (xs : List X) (k : ℕ) (d : X) → k < length xs → slice_get xs k ≡ Some (get_or xs k d)
get-get_or [] k d lt = absurd (omega (arith, lt))
get-get_or (x ∷ xs) zero d lt = refl
get-get_or (x ∷ xs) (suc k) d lt = get-get_or xs k d (omega (arith, lt))

-- the words of each name lie among those of the program
pub well_formed-placed : (p : Program) → IsWellFormed p → ArePlaced p.names p.words
well_formed-placed p is = record {
  each = λ k d lt.
      let info : IsNameInfo (get_or p.names k d) = is.declarations.table k d lt in
      let inside = is.places.within k lt in
      let found = get-get_or p.names k d lt in
      record {
        bounds = λ j e below. (info.dimensions.bounds j e below).order;
        inside = subst (λ o. (pos (place_in o) +ℤ size_of (dims_in o)) ≤ℤ pos p.words) found inside;
      };
  few = omega (arith, is.word_count);
}

-- the word of a scalar is a word of the program
pub scalar-below : (names : List NameInfo) (words k : ℕ) → ((x : ℕ) → x < length names → end_of names x ≤ℤ pos words) → IsIntegerScalar names k → place_of names k < words
scalar-below names words k within is =
    let inside = within k is.known in
    let one : (pos (place_of names k) +ℤ pos 1) ≤ℤ pos words = subst (λ dims. (pos (place_of names k) +ℤ size_of dims) ≤ℤ pos words) is.scalar inside in
    omega (arith, ints, one)

-- ---- executables

-- the value that READ assigns is an expression of the table
taken-expression : (names : List NameInfo) (kind : Kind) → IsExpression names (taken_as kind)
taken-expression names Integer = tt
taken-expression names Logical = Apply-IsExpression names Truth (Input ∷ []) refl (All-cons (IsExpression names) Input [] tt (All-nil (IsExpression names)))

access-of : (names : List NameInfo) (access : Access) → IsProperAccess names access → IsAccess names access
access-of names access is =
    let element = IsProper-element names access is in
    record {
      known = element.known;
      as_many = element.as_many;
      subscripts = λ k d lt. IsProper-expression names _ (element.subscripts k d lt).proper;
    }

value-of : (names : List NameInfo) (target : Access) (value : Expr) → IsAssignment names target value → IsExpression names value
value-of names target value is = by is.of_kind
  where
    by : IsOfKind names (kind_of names target.name) value ⊎ (value ≡ taken_as (kind_of names target.name)) → IsExpression names value
    by (inl of_kind) = IsProper-expression names value of_kind.proper
    by (inr taken) = subst (λ e. IsExpression names e) (sym taken) (taken-expression names (kind_of names target.name))

item-of : (names : List NameInfo) (item : Item) → IsProperItem names item → CanPrint names item
item-of names (Value e) is = IsProper-expression names e is
item-of names (Chars text) is = tt

-- what holds of each item of a list with one more at its end
All-prefix : {X : Type 0} (P : X → Type 0) (xs : List X) (x : X) → All P (xs ++ x ∷ []) → All P xs
All-prefix P [] x all k d lt = absurd (omega (arith, lt))
All-prefix P (y ∷ ys) x all zero d lt = all zero d (omega arith)
All-prefix P (y ∷ ys) x all (suc k) d lt = All-prefix P ys x (λ j e below. all (suc j) e (omega (arith, below))) k d (omega (arith, lt))

All-back : {X : Type 0} (P : X → Type 0) (xs : List X) (x : X) → All P (xs ++ x ∷ []) → P x
All-back P [] x all = all zero x (omega arith)
All-back P (y ∷ ys) x all = All-back P ys x (λ j e below. all (suc j) e (omega (arith, below)))

module _ (p : Program) (within : (x : ℕ) → x < length p.names → end_of p.names x ≤ℤ pos p.words) where
  loop-of : (loop_no var body exit : ℕ) → loop_no < p.loops → IsIntegerScalar p.names var → All (IsNext p) (body ∷ exit ∷ []) → CanLoop p loop_no var body exit
  loop-of loop_no var body exit below scalar nexts = record {
    loop = below;
    name = scalar.known;
    word = scalar-below p.names p.words var within scalar;
    body_next = nexts 0 body (omega arith);
    exit_next = nexts 1 body (omega arith);
  }

  can_execute : (kind : ExecKind) → IsExecutable p.names kind → All (IsNext p) (successors kind) → ((loop : Loop) → begun kind ≡ Some loop → loop.number < p.loops) → ((loop : Loop) → incremented kind ≡ Some loop → loop.number < p.loops) → CanExecute p kind
  can_execute (Assign target value next) is nexts starts steps = (access-of p.names target is.access, value-of p.names target value is, nexts 0 next (omega arith))
  can_execute (Print items next) is nexts starts steps = (λ k d lt. item-of p.names _ (is k d lt), nexts 0 next (omega arith))
  can_execute (Pass next) is nexts starts steps = nexts 0 next (omega arith)
  can_execute (Test cond if_true if_false) is nexts starts steps = (IsProper-expression p.names cond is.proper, nexts 0 if_true (omega arith), nexts 1 if_true (omega arith))
  can_execute (Sign value neg zero' pos') is nexts starts steps = (IsProper-expression p.names value is.proper, nexts 0 neg (omega arith), nexts 1 neg (omega arith), nexts 2 neg (omega arith))
  can_execute (Pick value targets other) is nexts starts steps = (IsProper-expression p.names value is.0.proper, All-prefix (IsNext p) targets other nexts, All-back (IsNext p) targets other nexts)
  can_execute (DoStart loop_no var first last step body exit) is nexts starts steps = (
    loop-of loop_no var body exit (starts _ refl) is.variable nexts,
    IsProper-expression p.names first (is.integers 0 first (omega arith)).proper,
    IsProper-expression p.names last (is.integers 1 first (omega arith)).proper,
    IsProper-expression p.names step (is.integers 2 first (omega arith)).proper,
  )
  can_execute (DoNext loop_no var body exit) is nexts starts steps = loop-of loop_no var body exit (steps _ refl) is nexts
  can_execute End is nexts starts steps = tt

-- each step of a well-formed program reads and writes only what there is
pub well_formed-runs : (p : Program) → IsWellFormed p → CanRun p
well_formed-runs p is = record {
  placed = well_formed-placed p is;
  initial = is.initial_count;
  begins = is.execs.end.some;
  executes = λ k exec at. can_execute p is.places.within exec.kind
      (All-get (λ (e : Exec). IsExecutable p.names e.kind) p.execs k exec is.execs.each at)
      (All-get (λ (e : Exec). All (IsNext p) (successors e.kind)) p.execs k exec is.execs.successors at)
      (λ loop begins. is.execs.loops_nest.starts k loop (ap begun_in at ∙ begins))
      (λ loop steps. is.execs.loops_nest.nexts k loop (ap incremented_in at ∙ steps));
}

-- ---- words

-- the dimensions of each name of a table have their bounds in order
pub table-bounds : (names : List NameInfo) → All IsNameInfo names → (x : ℕ) → x < length names → All IsDim (dims_of names x)
table-bounds [] all x lt = absurd (omega (arith, lt))
table-bounds (info ∷ names) all zero lt = (All-first IsNameInfo info names all).dimensions.bounds
table-bounds (info ∷ names) all (suc x) lt = table-bounds names (All-rest IsNameInfo info names all) x (omega (arith, lt))

-- each name of a well-formed program has a word
pub well_formed-size : (p : Program) → IsWellFormed p → (x : ℕ) → x < length p.names → pos 1 ≤ℤ size_of (dims_of p.names x)
well_formed-size p is = size-one p.names (table-bounds p.names is.declarations.table)

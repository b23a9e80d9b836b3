-- Statements with temporaries are statements over the table with temporaries.
use Rattle.std.proofs.Common.{◌≡◌, ℕ, zero, suc, ◌<◌, inl, inr, ⊎_elim, All, Bool, true, false, List, [], ◌∷◌, ◌++◌, length, map, Option, Some, None, refl, sym, ap, subst, ◌∙◌, arith}
use Rattle.std.specs.Prelude.{flat_map, slice_get, if◌then◌else◌}
use Rattle.std.specs.List.{range_with_len}
use Rattle.std.proofs.lemmas.List.{length-append, length-map}
use Rattle.std.proofs.lemmas.List.Elements.{All-nil, All-cons, All-append, All-map, All-weaker, All-head, All-tail}
use Rattle.std.proofs.lemmas.Option.{slice_get-get_or}
use Rattle.op_table.specs.declared.Op.TheVariants.{Truth as TruthOf}
use Rattle.f77_tree.specs.declared.declarations.Kind.{Kind}
use Rattle.f77_tree.specs.declared.declarations.Kind.TheVariants.{Integer, Logical}
use Rattle.f77_tree.specs.declared.expressions.Access.{Access}
use Rattle.f77_tree.specs.declared.expressions.Expr.{Expr, Const, Truth, Input, Read, Read', Apply, Apply', Row_of-Expr, end_of-Expr, more_of-Expr}
use Rattle.f77_tree.specs.declared.programs.ExecKind.{ExecKind}
use Rattle.f77_tree.specs.declared.programs.ExecKind.TheVariants.{Test, Sign}
use Rattle.f77_tree.specs.declared.programs.Item.{Item}
use Rattle.f77_tree.specs.declared.programs.Item.TheVariants.{Value, Chars}
use Rattle.f77_tree.specs.declared.programs.NameInfo.{NameInfo}
use Rattle.f77_tree.specs.declared.programs.Program.{Program}
use Rattle.f77_tree.specs.Declarations.{IsIntegerScalar}
use Rattle.f77_tree.specs.Kinds.{operand_kind, taken_as, IsAssignment, IsProper, IsProperAccess, AllOfKind, IsOfKind}
use Rattle.f77_tree.specs.Line.{kind_of_expression}
use Rattle.f77_tree.specs.Value.{dims_in, dims_of, kind_in, kind_of, row_length}
use Rattle.f77_tree.specs.WellFormed.{IsExecutable, IsProperItem}
use Rattle.f77_tree.proofs.KindLemmas.{element-IsProper, IsProper-element, operation-IsProper}
use Rattle.flat_programs.specs.declared.statements.Flat.{Flat}
use Rattle.flat_programs.specs.declared.statements.Flat.TheVariants.{Mark, Assignment, Output, LogicalIf, ArithmeticIf, ComputedGoTo, DoLoop, Jump, Finish}
use Rattle.flat_programs.specs.declared.statements.FlatLine.{FlatLine}
use Rattle.flat_programs.specs.Executables.{first_of}
use Rattle.flat_programs.specs.FlatForm.{AreProper, IsProperFlat}
use Rattle.redundancy.specs.Available.{Availability}
use Rattle.redundancy.specs.Candidates.{IsCandidate}
use Rattle.shared_forms.specs.Numbered.{name_alone, number_of, IsSharedNumber}
use Rattle.shared_forms.specs.Shared.{candidate, due, expression_in, is_shared, kept_value, replaced, replaced_access, replaced_in, replaced_item, row_replaced, shared_flat, shared_lines, temporaries, temporary, temporary_or}
use Rattle.shared_forms.proofs.NumberLemmas.{number_in-is, number_in-within}
use Rattle.shared_forms.proofs.ProperCandidates.{untaken}
use Rattle.shared_forms.proofs.ReplacedLemmas.{replaced-untold}
use Rattle.shared_forms.proofs.SharedLineLemmas.{due-shared}
use Rattle.shared_forms.proofs.TemporaryTable.{slice_get-left, temporary-known, temporary-kind, temporary-dims}

-- what is known of the candidates, and of a longer table
pub record FitTable (q : Program) (a : Availability) : Type 0 where
  pub candidates : (k : ℕ) (e : Expr) → slice_get a.candidates k ≡ Some e → IsCandidate q.names e
  pub proper : (k : ℕ) (e : Expr) → slice_get a.candidates k ≡ Some e → IsProper q.names e
  pub longer : (more : List NameInfo) (kind : ExecKind) → IsExecutable q.names kind → IsExecutable (q.names ++ more) kind

All-flat_map : {X Y : Type 0} (P : Y → Type 0) (f : X → List Y) (xs : List X) → ((x : X) → All P (f x)) → All P (flat_map f xs)
All-flat_map {X} {Y} P f [] each = All-nil P
All-flat_map {X} {Y} P f (x ∷ xs) each = All-append P (f x) (flat_map f xs) (each x) (All-flat_map P f xs each)

module _ (q : Program) (a : Availability) (fit : FitTable q a) where
  abbrev longer : List NameInfo
  longer = q.names ++ temporaries q a (number_of a)

  kind-same : (name : ℕ) → name < length q.names → kind_of longer name ≡ kind_of q.names name
  kind-same name less = ap kind_in (slice_get-left q.names (temporaries q a (number_of a)) name less)

  dims-same : (name : ℕ) → name < length q.names → dims_of longer name ≡ dims_of q.names name
  dims-same name less = ap dims_in (slice_get-left q.names (temporaries q a (number_of a)) name less)

  known-longer : (name : ℕ) → name < length q.names → name < length longer
  known-longer name less = let size = length-append q.names (temporaries q a (number_of a)) in omega (arith, less, size)

  -- ---- candidates

  -- an expression fits the longer table
  expression-longer : (kind : Kind) (e : Expr) → IsOfKind q.names kind e → IsOfKind longer kind e
  expression-longer Integer e is = fit.longer (temporaries q a (number_of a)) (Sign e 0 0 0) is
  expression-longer Logical e is = fit.longer (temporaries q a (number_of a)) (Test e 0 0) is

  temporary-of_kind : (n : ℕ) → IsSharedNumber q a n → IsOfKind longer (kind_of_expression q.names (candidate q a (number_of a) n)) (Read (name_alone (temporary q a (number_of a) n)))
  temporary-of_kind n is =
      record {
        proper = element-IsProper longer (name_alone (temporary q a (number_of a) n)) (record { known = temporary-known q a n is; as_many = sym (ap length (temporary-dims q a n is)); subscripts = All-nil (IsOfKind longer Integer) });
        of_kind = temporary-kind q a n is;
      }

  choice-holds : (P : Expr → Type 0) (b : Bool) (t : ℕ) (other : Expr) → (b ≡ true → P (Read (name_alone t))) → P other → P (if b then Read (name_alone t) else other)
  choice-holds P true t other here also = here refl
  choice-holds P false t other here also = also

  or-holds : (P : Expr → Type 0) (o : Option ℕ) (other : Expr) → ((n : ℕ) → o ≡ Some n → is_shared q a (number_of a) n ≡ true → P (Read (name_alone (temporary q a (number_of a) n)))) → P other → P (temporary_or q a (number_of a) o other)
  or-holds P None other here also = also
  or-holds P (Some n) other here also = choice-holds P (is_shared q a (number_of a) n) (temporary q a (number_of a) n) other (here n refl) also

  candidate-is : (n : ℕ) (e : Expr) → slice_get a.candidates n ≡ Some e → candidate q a (number_of a) n ≡ e
  candidate-is n e at = ap expression_in at

  instead : (e : Expr) (n : ℕ) → number_of a e ≡ Some n → is_shared q a (number_of a) n ≡ true → IsOfKind longer (kind_of_expression q.names e) (Read (name_alone (temporary q a (number_of a) n)))
  instead e n told shared =
      let at = number_in-is a.candidates e n told in
      subst (λ (x : Expr). IsOfKind longer (kind_of_expression q.names x) (Read (name_alone (temporary q a (number_of a) n)))) (candidate-is n e at)
      (temporary-of_kind n (record { within = number_in-within a.candidates e n told; shared = shared }))

  -- ---- expressions

  row_replaced-length : (m : _) (row : Row_of-Expr m) → length (row_replaced q a (number_of a) row) ≡ row_length row
  row_replaced-length m end_of-Expr = refl
  row_replaced-length m (more_of-Expr e rest) = ap suc (row_replaced-length _ rest)

  mutual
    pub replaced-of_kind : (e : Expr) → IsProper q.names e → IsOfKind longer (kind_of_expression q.names e) (replaced q a (number_of a) e)
    replaced-of_kind (Const z) proper = record { proper = proper; of_kind = refl }
    replaced-of_kind (Truth b) proper = record { proper = proper; of_kind = refl }
    replaced-of_kind Input proper = absurd proper
    replaced-of_kind (Read' name shape subs) proper =
        let access : Access = record { name = name; subs = row_replaced q a (number_of a) subs } in
        record {
          proper = element-IsProper longer access (record { known = known-longer name proper.0; as_many = row_replaced-length _ subs ∙ proper.1 ∙ sym (ap length (dims-same name proper.0)); subscripts = row_replaced-of_kind _ subs Integer proper.2 });
          of_kind = kind-same name proper.0;
        }
    replaced-of_kind (Apply' op shape args) proper =
        or-holds (IsOfKind longer (kind_of_expression q.names (Apply' op shape args))) (number_of a (Apply' op shape args)) (Apply op (row_replaced q a (number_of a) args))
        (λ n told shared. instead (Apply' op shape args) n told shared)
        (record {
          proper = operation-IsProper longer op (row_replaced q a (number_of a) args) (record { written = proper.0; as_many = row_replaced-length _ args ∙ proper.1; operands = row_replaced-of_kind _ args (operand_kind op) proper.2 });
          of_kind = refl;
        })

    row_replaced-of_kind : (m : _) (row : Row_of-Expr m) (kind : Kind) → AllOfKind q.names kind row → All (IsOfKind longer kind) (row_replaced q a (number_of a) row)
    row_replaced-of_kind m end_of-Expr kind all = All-nil (IsOfKind longer kind)
    row_replaced-of_kind m (more_of-Expr e rest) kind all =
        All-cons (IsOfKind longer kind) (replaced q a (number_of a) e) (row_replaced q a (number_of a) rest)
        (subst (λ (k : Kind). IsOfKind longer k (replaced q a (number_of a) e)) all.1 (replaced-of_kind e all.0))
        (row_replaced-of_kind _ rest kind all.2)

  -- an expression of a kind
  pub replaced-kind : (kind : Kind) (e : Expr) → IsOfKind q.names kind e → IsOfKind longer kind (replaced q a (number_of a) e)
  replaced-kind kind e is = subst (λ (k : Kind). IsOfKind longer k (replaced q a (number_of a) e)) is.of_kind (replaced-of_kind e is.proper)

  replaced-access : (access : Access) → IsProperAccess q.names access → IsProperAccess longer (replaced_access q a (number_of a) access)
  replaced-access access proper =
      let is = IsProper-element q.names access proper in
      element-IsProper longer (replaced_access q a (number_of a) access) (record {
        known = known-longer access.name is.known;
        as_many = length-map access.subs (replaced q a (number_of a)) ∙ is.as_many ∙ sym (ap length (dims-same access.name is.known));
        subscripts = All-map (IsOfKind longer Integer) (replaced q a (number_of a)) access.subs (All-weaker (IsOfKind q.names Integer) (λ (e : Expr). IsOfKind longer Integer (replaced q a (number_of a) e)) (replaced-kind Integer) access.subs is.subscripts);
      })

  -- ---- data that is read stays

  no_candidate : (n : ℕ) → slice_get a.candidates n ≡ Some (Apply TruthOf (Input ∷ [])) → ⊥
  no_candidate n at = untaken q.names (fit.candidates n (Apply TruthOf (Input ∷ [])) at)

  untold : (o : Option ℕ) → ((n : ℕ) → o ≡ Some n → ⊥) → o ≡ None
  untold None none = refl
  untold (Some n) none = absurd (none n refl)

  pub taken-replaced : (kind : Kind) → replaced q a (number_of a) (taken_as kind) ≡ taken_as kind
  taken-replaced Integer = refl
  taken-replaced Logical =
      replaced-untold q a TruthOf (Input ∷ []) (untold (number_of a (Apply TruthOf (Input ∷ []))) (λ n told. no_candidate n (number_in-is a.candidates (Apply TruthOf (Input ∷ [])) n told))) refl

  -- ---- statements

  assigned : (target : Access) (value : Expr) → IsAssignment q.names target value → IsAssignment longer (replaced_access q a (number_of a) target) (replaced q a (number_of a) value)
  assigned target value is =
      let known = (IsProper-element q.names target is.access).known in
      let same : kind_of q.names target.name ≡ kind_of longer target.name = sym (kind-same target.name known) in
      record {
        access = replaced-access target is.access;
        of_kind =
            ⊎_elim
            (λ (of : IsOfKind q.names (kind_of q.names target.name) value). inl (subst (λ (k : Kind). IsOfKind longer k (replaced q a (number_of a) value)) same (replaced-kind (kind_of q.names target.name) value of)))
            (λ (taken : value ≡ taken_as (kind_of q.names target.name)). inr (ap (replaced q a (number_of a)) taken ∙ taken-replaced (kind_of q.names target.name) ∙ ap taken_as same))
            is.of_kind;
      }

  item-longer : (item : Item) → IsProperItem q.names item → IsProperItem longer (replaced_item q a (number_of a) item)
  item-longer (Value e) proper = (replaced-of_kind e proper).proper
  item-longer (Chars text) is = is

  variable-longer : (var : ℕ) → IsIntegerScalar q.names var → IsIntegerScalar longer var
  variable-longer var is = record { known = known-longer var is.known; integer = kind-same var is.known ∙ is.integer; scalar = dims-same var is.known ∙ is.scalar }

  statement-longer : (stmt : Flat) → IsProperFlat q.names stmt → IsProperFlat longer (replaced_in q a (number_of a) stmt)
  statement-longer Mark is = tt
  statement-longer (Assignment target value) is = assigned target value is
  statement-longer (Output items) is = All-map (IsProperItem longer) (replaced_item q a (number_of a)) items (All-weaker (IsProperItem q.names) (λ (item : Item). IsProperItem longer (replaced_item q a (number_of a) item)) item-longer items is)
  statement-longer (LogicalIf cond target) is = replaced-kind Logical cond is
  statement-longer (ArithmeticIf value below at above) is = replaced-kind Integer value is
  statement-longer (ComputedGoTo value targets) is = (replaced-kind Integer value is.0, is.1)
  statement-longer (DoLoop end var first last step) is =
      let P : Expr → Type 0 = IsOfKind q.names Integer in
      let L : Expr → Type 0 = IsOfKind longer Integer in
      let f = replaced q a (number_of a) in
      record {
        variable = variable-longer var is.variable;
        integers = All-map L f (first ∷ last ∷ step ∷ []) (All-weaker P (λ (e : Expr). L (f e)) (replaced-kind Integer) (first ∷ last ∷ step ∷ []) is.integers);
      }
  statement-longer (Jump target) is = tt
  statement-longer Finish is = tt

  -- ---- lines

  kept-longer : (line n : ℕ) → IsSharedNumber q a n → IsProperFlat longer (kept_value q a (number_of a) line n).stmt
  kept-longer line n is =
      let e = candidate q a (number_of a) n in
      let at : slice_get a.candidates n ≡ Some e = at_place n is.within in
      let of = temporary-of_kind n is in
      let value = expression-longer (kind_of_expression q.names e) e (record { proper = fit.proper n e at; of_kind = refl }) in
      record { access = of.proper; of_kind = inl (subst (λ (k : Kind). IsOfKind longer k e) (sym of.of_kind) value) }
    where
      at_place : (n : ℕ) → n < length a.candidates → slice_get a.candidates n ≡ Some (candidate q a (number_of a) n)
      at_place n less = let at = slice_get-get_or a.candidates n Input less in at ∙ ap Some (sym (ap expression_in at))

  lines-longer : (first : ℕ) (o : Option FlatLine) → ((l : FlatLine) → o ≡ Some l → IsProperFlat q.names l.stmt) → All (λ (l : FlatLine). IsProperFlat longer l.stmt) (shared_lines q a (number_of a) first o)
  lines-longer first None proper = All-nil (λ (l : FlatLine). IsProperFlat longer l.stmt)
  lines-longer first (Some l) proper =
      let P : FlatLine → Type 0 = λ l. IsProperFlat longer l.stmt in
      let last : FlatLine = record { line = l.line; stmt = replaced_in q a (number_of a) l.stmt } in
      All-append P (map (kept_value q a (number_of a) l.line) (due q a (number_of a) first)) (last ∷ [])
      (All-map P (kept_value q a (number_of a) l.line) (due q a (number_of a) first) (All-weaker (IsSharedNumber q a) (λ n. P (kept_value q a (number_of a) l.line n)) (kept-longer l.line) (due q a (number_of a) first) (due-shared q a first)))
      (All-cons P last [] (statement-longer l.stmt (proper l refl)) (All-nil P))

  -- the statements with temporaries fit the table with temporaries
  pub shared-proper : (flat : List FlatLine) → AreProper q.names flat → AreProper longer (shared_flat q a (number_of a) flat)
  shared-proper flat proper =
      All-flat_map (λ (l : FlatLine). IsProperFlat longer l.stmt) (λ place. shared_lines q a (number_of a) (first_of flat place) (slice_get flat place)) (range_with_len 0 (length flat))
      (λ place. lines-longer (first_of flat place) (slice_get flat place) (λ l at. at_line flat place l proper at))
    where
      at_line : (flat : List FlatLine) (place : ℕ) (l : FlatLine) → AreProper q.names flat → slice_get flat place ≡ Some l → IsProperFlat q.names l.stmt
      at_line [] place l proper at = let e : None ≡ Some l = at in absurd cc
      at_line (m ∷ flat) zero l proper at = let e : Some m ≡ Some l = at in let i : m ≡ l = cc in subst (λ (x : FlatLine). IsProperFlat q.names x.stmt) i (All-head (λ (x : FlatLine). IsProperFlat q.names x.stmt) m flat proper)
      at_line (m ∷ flat) (suc place) l proper at = at_line flat place l (All-tail (λ (x : FlatLine). IsProperFlat q.names x.stmt) m flat proper) at

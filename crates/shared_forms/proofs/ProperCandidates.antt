-- The candidates of a well-formed program are expressions of the program, and each has one number.
use Rattle.std.proofs.Common.{◌≡◌, ℕ, ◌<◌, ◌≤◌, ◌⊎◌, inl, inr, ⊎_elim, All, true, false, List, [], ◌∷◌, ◌++◌, Option, Some, None, ◌&&◌, refl, sym, ap, ◌∙◌, subst, arith}
use Rattle.std.specs.Prelude.{slice_get}
use Rattle.std.specs.List.{list_all}
use mathlib.Core.Former.{Count}
use Rattle.std.proofs.lemmas.Bool.{cases_eq, cases_lt}
use Rattle.std.proofs.lemmas.Option.{get_or_from_slice_get, slice_get_within, slice_get-get_or}
use Rattle.list_laws.specs.Member.{Member}
use Rattle.list_laws.proofs.Members.{at_of, Member-cases, Member-from_Contains, Member-flat_mapped}
use Rattle.op_table.specs.declared.Op.TheVariants.{Truth as ToTruth}
use Rattle.f77_tree.specs.declared.declarations.Kind.{Kind}
use Rattle.f77_tree.specs.declared.declarations.Kind.TheVariants.{Integer, Logical}
use Rattle.f77_tree.specs.declared.expressions.Expr.{Expr, Const, Truth, Input, Read', Apply', Row_of-Expr, end_of-Expr, more_of-Expr, items-the_row-Expr, items_hidden-the_row-Expr-0}
use Rattle.f77_tree.specs.declared.programs.Exec.{Exec}
use Rattle.f77_tree.specs.declared.programs.ExecKind.{ExecKind}
use Rattle.f77_tree.specs.declared.programs.ExecKind.TheVariants.{Assign, Print, Pass as Passing, Test, Sign, Pick, DoStart, DoNext, End as Ending}
use Rattle.f77_tree.specs.declared.programs.Item.{Item}
use Rattle.f77_tree.specs.declared.programs.Item.TheVariants.{Value, Chars}
use Rattle.f77_tree.specs.declared.programs.NameInfo.{NameInfo}
use Rattle.f77_tree.specs.declared.programs.Program.{Program}
use Rattle.f77_tree.specs.Kinds.{taken_as, IsProper, AllOfKind, IsOfKind}
use Rattle.f77_tree.specs.Value.{IsExpression}
use Rattle.f77_tree.specs.WellFormed.{IsExecutable, IsProperItem}
use Rattle.f77_tree.proofs.KindLemmas.{IsProper-element, IsProper-expression}
use Rattle.cfg_build.specs.declared.pieces.PieceKind.{PieceKind}
use Rattle.cfg_build.specs.declared.pieces.PieceKind.TheVariants.{Start, Join, Act, Pass, Branch, Hold, End}
use Rattle.cfg_build.specs.Joined.{FlowGraph}
use Rattle.cfg_build.specs.Passes.{kind_in}
use Rattle.redundancy.specs.Candidates.{IsCandidate, is_plain, are_plain, subexpressions, row_subexpressions}
use Rattle.redundancy.specs.Computed.{all_computed, computed_by, evaluated, expressions, in_item, kind_of_piece, selectors, AreCandidates}
use Rattle.shared_forms.specs.Numbered.{number_in}
use Rattle.shared_forms.proofs.NumberLemmas.{number_in-at, parts-Apply, subexpressions-parts}

all-member : {X : Type 0} (P : X → Type 0) (xs : List X) (x : X) → All P xs → Member xs x → P x
all-member {X} P xs x all m = let r = at_of xs x m in subst P (r.is x) (all r.place x r.exists)

pub all-at : {X : Type 0} (P : X → Type 0) (xs : List X) (k : ℕ) (x : X) → All P xs → slice_get xs k ≡ Some x → P x
all-at {X} P xs k x all is = subst P (get_or_from_slice_get xs k x x is) (all k x (slice_get_within xs k x is))

abbrev row_of : Expr → (n : Count) × Row_of-Expr n
row_of (Read' _ _ row) = (_, row)
row_of (Apply' _ _ row) = (_, row)
row_of _ = (_, end_of-Expr)

are_plain-items : (n : _) (row : Row_of-Expr n) → are_plain row ≡ list_all is_plain (items-the_row-Expr n row)
are_plain-items n end_of-Expr = refl
are_plain-items n (more_of-Expr e rest) = ap (λ b. is_plain e && b) (are_plain-items _ rest)

-- the next word of the data, taken as a value of this kind
pub record IsTaken (e : Expr) : Type 0 where
  pub kind : Kind
  pub is : e ≡ taken_as kind

module _ (names : List NameInfo) where
  last-proper : (e d : Expr) → IsProper names e → Member (e ∷ []) d → IsProper names d
  last-proper e d proper (inl same) = subst (IsProper names) same proper
  last-proper e d proper (inr m) = absurd m

  mutual
    sub-proper : (e d : Expr) → IsProper names e → Member (subexpressions e) d → IsProper names d
    sub-proper (Const z) d proper m = last-proper (Const z) d proper m
    sub-proper (Truth b) d proper m = last-proper (Truth b) d proper m
    sub-proper Input d proper m = absurd proper
    sub-proper (Read' name shape subs) d proper m = ⊎_elim
        (λ (r : Member (row_subexpressions subs) d). row-proper _ subs Integer d proper.2 r)
        (λ (h : Member (Read' name shape subs ∷ []) d). last-proper (Read' name shape subs) d proper h)
        (Member-cases (row_subexpressions subs) (Read' name shape subs ∷ []) d m)
    sub-proper (Apply' op shape args) d proper m = ⊎_elim
        (λ (r : Member (row_subexpressions args) d). row-proper _ args _ d proper.2 r)
        (λ (h : Member (Apply' op shape args ∷ []) d). last-proper (Apply' op shape args) d proper h)
        (Member-cases (row_subexpressions args) (Apply' op shape args ∷ []) d m)

    row-proper : (m : _) (row : Row_of-Expr m) (kind : Kind) (d : Expr) → AllOfKind names kind row → Member (row_subexpressions row) d → IsProper names d
    row-proper m end_of-Expr kind d all among = absurd among
    row-proper m (more_of-Expr e rest) kind d all among = ⊎_elim
        (λ (h : Member (subexpressions e) d). sub-proper e d all.0 h)
        (λ (r : Member (row_subexpressions rest) d). row-proper _ rest kind d all.2 r)
        (Member-cases (subexpressions e) (row_subexpressions rest) d among)

  -- what reads data has no candidate in it
  pub untaken : IsCandidate names (taken_as Logical) → ⊥
  untaken is =
      let row = row_of (taken_as Logical) in
      let e : false ≡ true = sym (are_plain-items row.0 row.1 ∙ ap (list_all is_plain) (items_hidden-the_row-Expr-0 (Input ∷ []))) ∙ is.0 in
      absurd cc

  taken-parts : subexpressions (taken_as Logical) ≡ Input ∷ taken_as Logical ∷ []
  taken-parts = subexpressions-parts (taken_as Logical) ∙ ap (λ (xs : List Expr). xs ++ taken_as Logical ∷ []) (parts-Apply ToTruth (Input ∷ []))

  taken-among : (d : Expr) → IsCandidate names d → Member (Input ∷ taken_as Logical ∷ []) d → ⊥
  taken-among d is (inl same) = subst (IsCandidate names) (sym same) is
  taken-among d is (inr (inl same)) = untaken (subst (IsCandidate names) (sym same) is)
  taken-among d is (inr (inr m)) = m

  taken-none : (kind : Kind) (d : Expr) → IsCandidate names d → Member (subexpressions (taken_as kind)) d → ⊥
  taken-none Integer d is (inl same) = subst (IsCandidate names) (sym same) is
  taken-none Integer d is (inr m) = m
  taken-none Logical d is m = taken-among d is (subst (λ (xs : List Expr). Member xs d) taken-parts m)

  value-proper : (e d : Expr) → IsProper names e ⊎ IsTaken e → IsCandidate names d → Member (subexpressions e) d → IsProper names d
  value-proper e d (inl proper) is m = sub-proper e d proper m
  value-proper e d (inr taken) is m = absurd (taken-none taken.kind d is (subst (λ (x : Expr). Member (subexpressions x) d) taken.is m))

  item-value : (item : Item) (e : Expr) → IsProperItem names item → Member (in_item item) e → IsProper names e ⊎ IsTaken e
  item-value (Value x) e proper m = inl (last-proper x e proper m)
  item-value (Chars text) e proper m = absurd m

  integer-value : (es : List Expr) (e : Expr) → All (IsOfKind names Integer) es → Member es e → IsProper names e ⊎ IsTaken e
  integer-value es e all m = inl (all-member (IsOfKind names Integer) es e all m).proper

  assigned-value : (x e : Expr) (kind : Kind) → IsOfKind names kind x ⊎ (x ≡ taken_as kind) → Member (x ∷ []) e → IsProper names e ⊎ IsTaken e
  assigned-value x e kind (inl of) m = inl (last-proper x e of.proper m)
  assigned-value x e kind (inr taken) (inl same) = inr (record { kind = kind; is = subst (λ (y : Expr). y ≡ taken_as kind) same taken })
  assigned-value x e kind (inr taken) (inr m) = absurd m

  -- what an executable evaluates
  pub executable-value : (kind : ExecKind) (e : Expr) → IsExecutable names kind → Member (expressions kind) e → IsProper names e ⊎ IsTaken e
  executable-value (Assign target value next) e is m = ⊎_elim
      (λ (r : Member target.subs e). integer-value target.subs e (IsProper-element names target is.access).subscripts r)
      (λ (h : Member (value ∷ []) e). assigned-value value e _ is.of_kind h)
      (Member-cases target.subs (value ∷ []) e m)
  executable-value (Print items next) e is m = let r = Member-flat_mapped in_item items e m in item-value r.origin e (all-member (IsProperItem names) items r.origin is r.among) r.has
  executable-value (Passing next) e is m = absurd m
  executable-value (Test cond if_true if_false) e is m = inl (last-proper cond e is.proper m)
  executable-value (Sign value below at above) e is m = inl (last-proper value e is.proper m)
  executable-value (Pick value targets other) e is m = inl (last-proper value e is.0.proper m)
  executable-value (DoStart loop_no var first last step body exit) e is m = integer-value (first ∷ last ∷ step ∷ []) e is.integers m
  executable-value (DoNext loop_no var body exit) e is m = absurd m
  executable-value Ending e is m = absurd m

selected : (kind : ExecKind) (e : Expr) → Member (selectors kind) e → Member (expressions kind) e
selected (Assign target value next) e m = m
selected (Print items next) e m = m
selected (Passing next) e m = m
selected (Test cond if_true if_false) e m = m
selected (Sign value below at above) e m = m
selected (Pick value targets other) e m = m
selected (DoStart loop_no var first last step body exit) e m = absurd m
selected (DoNext loop_no var body exit) e m = m
selected Ending e m = m

evaluates : (piece : PieceKind) (kind : ExecKind) (e : Expr) → Member (evaluated piece kind) e → Member (expressions kind) e
evaluates Act kind e m = m
evaluates Branch kind e m = selected kind e m
evaluates Start kind e m = absurd m
evaluates Join kind e m = absurd m
evaluates Pass kind e m = absurd m
evaluates Hold kind e m = absurd m
evaluates End kind e m = absurd m

executable-in : (names : List NameInfo) (o : Option Exec) → ((exec : Exec) → o ≡ Some exec → IsExecutable names exec.kind) → IsExecutable names (kind_in o)
executable-in names None each = tt
executable-in names (Some exec) each = each exec refl

module _ (q : Program) (f : FlowGraph) (candidates : List Expr) (each : All (λ (exec : Exec). IsExecutable q.names exec.kind) q.execs) (are : AreCandidates q f candidates) where
  pub candidate-proper : (k : ℕ) (e : Expr) → slice_get candidates k ≡ Some e → IsProper q.names e
  candidate-proper k e at =
      let both = are.sound k e at in
      let r = Member-flat_mapped (computed_by q.execs) f.pieces e (Member-from_Contains (all_computed q.execs f) e both.1) in
      let kind = kind_of_piece q.execs r.origin in
      let s = Member-flat_mapped subexpressions (evaluated r.origin.kind kind) e r.has in
      let is : IsExecutable q.names kind = executable-in q.names (slice_get q.execs r.origin.exec) (λ exec found. all-at (λ (x : Exec). IsExecutable q.names x.kind) q.execs r.origin.exec exec each found) in
      value-proper q.names s.origin e (executable-value q.names kind s.origin is (evaluates r.origin.kind kind s.origin s.among)) both.0 s.has

  pub candidates-fit : All (IsExpression q.names) candidates
  candidates-fit = λ k d less. IsProper-expression q.names _ (candidate-proper k _ (slice_get-get_or candidates k d less))

  once : (i j : ℕ) (e : Expr) → i < j → slice_get candidates i ≡ Some e → slice_get candidates j ≡ Some e → ⊥
  once i j e less at_i at_j = let s = are.ordered i j e e less at_i at_j in s.first s.place (omega arith) s.is

  one_place : (e : Expr) (i j : ℕ) → slice_get candidates i ≡ Some e → slice_get candidates j ≡ Some e → i ≡ j
  one_place e i j at_i at_j = ⊎_elim
      (λ (same : i ≡ j). same)
      (λ other. ⊎_elim
      (λ (less : i < j). absurd (once i j e less at_i at_j))
      (λ (most : j ≤ i). absurd (once j i e (omega (arith, most, other)) at_j at_i))
      (cases_lt i j))
      (cases_eq i j)

  -- each candidate has its place as its number
  pub place-number : (e : Expr) (k : ℕ) → slice_get candidates k ≡ Some e → number_in candidates e ≡ Some k
  place-number e k at = number_in-at candidates e k (one_place e) at

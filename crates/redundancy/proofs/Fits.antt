-- The expressions that pieces compute fit the table of names.
use Rattle.std.proofs.Common.{◌≡◌, List, [], ◌∷◌, get_or, All, Option, refl, sym, subst, arith}
use Rattle.std.specs.Prelude.{Some, None, slice_get, Contains, flat_map}
use Rattle.f77_tree.specs.declared.expressions.Expr.{Expr, Row_of-Expr, end_of-Expr, more_of-Expr, Read', Apply'}
use Rattle.f77_tree.specs.declared.expressions.Expr.TheVariants.{Const, Truth, Input}
use Rattle.f77_tree.specs.declared.programs.Exec.{Exec}
use Rattle.f77_tree.specs.declared.programs.ExecKind.{ExecKind}
use Rattle.f77_tree.specs.declared.programs.ExecKind.TheVariants as exec
use Rattle.f77_tree.specs.declared.programs.NameInfo.{NameInfo}
use Rattle.f77_tree.specs.declared.programs.Program.{Program}
use Rattle.f77_tree.specs.Value.{IsExpression, AllExpressions}
use Rattle.f77_tree.specs.WellFormed.{IsWellFormed}
use Rattle.cfg_build.specs.declared.pieces.Piece.{Piece}
use Rattle.cfg_build.specs.declared.pieces.PieceKind.{PieceKind}
use Rattle.cfg_build.specs.declared.pieces.PieceKind.TheVariants.{Start, Act, Pass, Branch, Join, Hold, End}
use Rattle.cfg_build.specs.Joined.{FlowGraph}
use Rattle.redundancy.specs.Candidates.{subexpressions, row_subexpressions}
use Rattle.redundancy.specs.Computed.{expressions, selectors, evaluated, computed_by, all_computed, AreCandidates}
use Rattle.redundancy.proofs.Executables.{all-none, all-one, all-append, all-tail, program_fits}
use Rattle.redundancy.proofs.PieceKinds.{nothing_of_none, computed_of}
use Rattle.std.proofs.lemmas.Option.{slice_get-get_or}

mutual
  sub_fits : (names : List NameInfo) (e : Expr) → IsExpression names e → All (IsExpression names) (subexpressions e)
  sub_fits names (Const z) is = all-one (IsExpression names) (Const z) is
  sub_fits names (Truth b) is = all-one (IsExpression names) (Truth b) is
  sub_fits names Input is = all-one (IsExpression names) Input is
  sub_fits names (Read' name shape subs) is = all-append (IsExpression names) (row_subexpressions subs) (Read' name shape subs ∷ []) (row_sub_fits names _ subs is.2) (all-one (IsExpression names) (Read' name shape subs) is)
  sub_fits names (Apply' op shape args) is = all-append (IsExpression names) (row_subexpressions args) (Apply' op shape args ∷ []) (row_sub_fits names _ args is.1) (all-one (IsExpression names) (Apply' op shape args) is)

  row_sub_fits : (names : List NameInfo) (n : _) (row : Row_of-Expr n) → AllExpressions names row → All (IsExpression names) (row_subexpressions row)
  row_sub_fits names n end_of-Expr all = all-none (IsExpression names)
  row_sub_fits names n (more_of-Expr e rest) all = all-append (IsExpression names) (subexpressions e) (row_subexpressions rest) (sub_fits names e all.0) (row_sub_fits names _ rest all.1)

all_sub_fits : (names : List NameInfo) (es : List Expr) → All (IsExpression names) es → All (IsExpression names) (flat_map subexpressions es)
all_sub_fits names [] all = all-none (IsExpression names)
all_sub_fits names (e ∷ es) all = all-append (IsExpression names) (subexpressions e) (flat_map subexpressions es) (sub_fits names e (all 0 e (omega arith))) (all_sub_fits names es (all-tail (IsExpression names) e es all))

selectors_fit : (names : List NameInfo) (kind : ExecKind) → All (IsExpression names) (expressions kind) → All (IsExpression names) (selectors kind)
selectors_fit names (exec.DoStart loop_no var first last step body exit) all = all-none (IsExpression names)
selectors_fit names (exec.Assign target value next) all = all
selectors_fit names (exec.Print items next) all = all
selectors_fit names (exec.Pass next) all = all
selectors_fit names (exec.Test cond a b) all = all
selectors_fit names (exec.Sign value a b d) all = all
selectors_fit names (exec.Pick value targets other) all = all
selectors_fit names (exec.DoNext loop_no var body exit) all = all
selectors_fit names exec.End all = all

evaluated_fit : (names : List NameInfo) (piece : PieceKind) (kind : ExecKind) → All (IsExpression names) (expressions kind) → All (IsExpression names) (evaluated piece kind)
evaluated_fit names Start kind all = all-none (IsExpression names)
evaluated_fit names Act kind all = all
evaluated_fit names Pass kind all = all-none (IsExpression names)
evaluated_fit names Branch kind all = selectors_fit names kind all
evaluated_fit names Join kind all = all-none (IsExpression names)
evaluated_fit names Hold kind all = all-none (IsExpression names)
evaluated_fit names End kind all = all-none (IsExpression names)

by_exec : (p : Program) (piece : Piece) (o : Option Exec) → IsWellFormed p → slice_get p.execs piece.exec ≡ o → All (IsExpression p.names) (computed_by p.execs piece)
by_exec p piece None w is = subst (λ (z : List Expr). All (IsExpression p.names) z) (sym (nothing_of_none p.execs piece is)) (all-none (IsExpression p.names))
by_exec p piece (Some x) w is = subst (λ (z : List Expr). All (IsExpression p.names) z) (sym (computed_of p.execs piece x is)) (all_sub_fits p.names (evaluated piece.kind x.kind) (evaluated_fit p.names piece.kind x.kind (program_fits p piece.exec x w is).evaluates))

pub piece_fits : (p : Program) (piece : Piece) → IsWellFormed p → All (IsExpression p.names) (computed_by p.execs piece)
piece_fits p piece w = by_exec p piece (slice_get p.execs piece.exec) w refl

pieces_fit : (p : Program) (pieces : List Piece) → IsWellFormed p → All (IsExpression p.names) (flat_map (computed_by p.execs) pieces)
pieces_fit p [] w = all-none (IsExpression p.names)
pieces_fit p (piece ∷ pieces) w = all-append (IsExpression p.names) (computed_by p.execs piece) (flat_map (computed_by p.execs) pieces) (piece_fits p piece w) (pieces_fit p pieces w)

pub contained_fits : (names : List NameInfo) (es : List Expr) (e : Expr) → All (IsExpression names) es → Contains es e → IsExpression names e
contained_fits names es e all c = subst (IsExpression names) c.2 (all c.0 e c.1)

pub candidates_fit : (p : Program) (f : FlowGraph) (candidates : List Expr) → IsWellFormed p → AreCandidates p f candidates → All (IsExpression p.names) candidates
candidates_fit p f candidates w are k d less =
    let e = get_or candidates k d in
    contained_fits p.names (all_computed p.execs f) e (pieces_fit p f.pieces w) (are.sound k e (slice_get-get_or candidates k d less)).1

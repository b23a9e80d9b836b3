-- Digests of trees, and trees that are the same.
use Rattle.std.proofs.Common.{◌≡◌, ℕ, ◌+◌, ◌<◌, List, [], ◌∷◌, ◌++◌, length, get_or, take, fold, refl, sym, ap, ◌∙◌}
use Rattle.std.proofs.lemmas.List.{take_more}
use Rattle.f77_tree.specs.declared.expressions.Access.{Access}
use Rattle.f77_tree.specs.declared.expressions.Expr.{Expr, Read, Apply, Row_of-Expr, end_of-Expr, more_of-Expr, items-the_row-Expr, items_hidden-the_row-Expr-0}
use Rattle.op_table.specs.declared.Op.{Op}
use Rattle.redundancy.specs.Digests.{digest, row_digest, digest_of_all, mixed}
use Rattle.redundancy.proofs.Operands.{row_of}

abbrev mix_in : ℕ → Expr → ℕ
mix_in all e = mixed all (digest e)

row_digest-items : (all : ℕ) (n : _) (row : Row_of-Expr n) → row_digest all row ≡ fold mix_in all (items-the_row-Expr n row)
row_digest-items all n end_of-Expr = refl
row_digest-items all n (more_of-Expr e rest) = row_digest-items (mixed all (digest e)) _ rest

pub digest-Apply : (op : Op) (args : List Expr) → digest (Apply op args) ≡ digest_of_all args
digest-Apply op args =
    let row = row_of (Apply op args) in
    row_digest-items 3 row.0 row.1 ∙ ap (λ es. fold mix_in 3 es) (items_hidden-the_row-Expr-0 args)

pub digest-Read : (access : Access) → digest (Read access) ≡ mixed (digest_of_all access.subs) access.name
digest-Read access =
    let row = row_of (Read access) in
    ap (λ n. mixed n access.name) (row_digest-items 3 row.0 row.1 ∙ ap (λ es. fold mix_in 3 es) (items_hidden-the_row-Expr-0 access.subs))

fold-push : (all : ℕ) (es : List Expr) (e : Expr) → fold mix_in all (es ++ e ∷ []) ≡ mixed (fold mix_in all es) (digest e)
fold-push all [] e = refl
fold-push all (x ∷ es) e = fold-push (mixed all (digest x)) es e

pub digest_more : (es : List Expr) (i : ℕ) (e : Expr) → i < length es → e ≡ get_or es i e → mixed (digest_of_all (take i es)) (digest e) ≡ digest_of_all (take (i + 1) es)
digest_more es i e lt at = sym (ap digest_of_all (take_more es i e lt ∙ ap (λ (x : Expr). take i es ++ x ∷ []) (sym at)) ∙ fold-push 3 (take i es) e)

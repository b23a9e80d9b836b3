use Rattle.std.proofs.Common.{◌≡◌, ℕ, ◌*◌, ◌<◌, ◌≤◌, List, All, length, take, drop, ap, subst, sym, ◌∙◌, ⊎_elim, arith}
use Rattle.std.proofs.lemmas.Bool.{cases_eq}
use Rattle.std.proofs.lemmas.List.{take_all, take_rest}
use Rattle.std.proofs.lemmas.List.Elements.{All-drop, All-take}
use Rattle.f77_tree.specs.Value.{IsExpression}
use Rattle.f77_tree.specs.declared.expressions.Expr.{Expr}
use Rattle.redundancy.proofs.avail.part.Goals as goal

-- the first 64 items, or all where there are fewer
first-items : (xs : List Expr) (m n : ℕ) → m ≤ n → (m < n → length xs ≤ m) → take m xs ≡ take n xs
first-items xs m n most all = ⊎_elim
    (λ (same : m ≡ n). ap (λ i. take i xs) same)
    (λ apart. let few = all (omega (arith, most, apart)) in take_all m xs few ∙ sym (take_all n xs (omega (arith, few, most))))
    (cases_eq m n)

pub returns-clause-part : goal.returns-clause-part
returns-clause-part g c =
    let xs = c.deref.result.now in
    let i = 64 * c.args.k in
    let rest = take_rest xs i in
    let len = ap length rest in
    ap (take c.min.result) rest
    ∙ first-items (drop i xs) c.min.result 64 (omega (arith, c.min.ensures)) (λ less. omega (arith, c.min.ensures, len, less))
    ∙ ap (λ (z : List Expr). take 64 (drop i z)) c.deref.ensures.value

pub returns-clause-fit : goal.returns-clause-fit
returns-clause-fit g c =
    let names = c.args.c.now.names in
    let xs = c.args.exprs.now.items in
    let i = 64 * c.args.k in
    subst (λ (z : List Expr). All (IsExpression names) z) (sym (returns-clause-part g c)) (All-take (IsExpression names) 64 (drop i xs) (All-drop (IsExpression names) i xs c.requires.fit))

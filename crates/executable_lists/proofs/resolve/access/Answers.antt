use Rattle.std.proofs.Common.{rules, ◌≡◌, ℕ, List, map, sym, ap, ◌∙◌}
use Rattle.f77_tree.specs.declared.expressions.Access.{Access}
use Rattle.f77_tree.specs.declared.expressions.Expr.{Expr}
use Rattle.f77_tree.specs.Declarations.{index_of}
use Rattle.layout_rules.specs.Resolved.{resolved, access_of}
use Rattle.executable_lists.proofs.ResolvedRows.{access_of-Call}
use Rattle.executable_lists.proofs.resolve.access.Goals as goal

pub returns-in_ok-subs-in-Call : goal.returns-in_ok-subs-in-Call
returns-in_ok-subs-in-Call c =
    let names = c.args.names.now in
    let checked = c.args.checked in
    let name = c.in-Call.name in
    let args = c.in-Call.args in
    let subs : c.in_ok-subs-in-Call.subs ≡ map (resolved names checked) args = search rules in
    ap (λ (k : ℕ). let access : Access = record { name = k; subs = c.in_ok-subs-in-Call.subs } in access) c.index.ensures ∙ ap (λ (es : List Expr). let access : Access = record { name = index_of names name; subs = es } in access) subs ∙ sym (access_of-Call names checked name args) ∙ ap (access_of names checked) (sym c.in-Call.is)

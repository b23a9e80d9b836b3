use Rattle.std.proofs.Common.{[], ◌∷◌, ◌++◌, ap, sym, ◌∙◌}
use Rattle.std.specs.Prelude.{bytes_eq}
use Rattle.f77_tree.specs.declared.declarations.Decl.{Decl}
use Rattle.layout_rules.specs.Faults.{has_repeat}
use Rattle.layout_rules.specs.StorageFaults.{array_names}
use Rattle.storage_checks.proofs.SeenNames.{seen_all, seen_twice, array_names-each}
use Rattle.storage_checks.proofs.declaration_faults.repeats_array_in.Goals as goal

pub returns-then-branch-clause-repeats : goal.returns-then-branch-clause-repeats
returns-then-branch-clause-repeats c =
    let decls = c.args.decls.now in
    seen_twice (λ (decl : Decl). array_names (decl ∷ [])) decls c.args.seen.now c.loop-decl.seen c.loop-decl.decl-index c.loop-decl.invariant c.decl-item.result c.loop-decl-test.true c.decl-item.is (sym c.in_ok-repeats_if_array.ensures.repeats ∙ c.if-branch.true)
    ∙ ap (has_repeat bytes_eq c.args.seen.now) (array_names-each decls)

pub returns-clause-repeats : goal.returns-clause-repeats
returns-clause-repeats c =
    let decls = c.args.decls.now in
    (seen_all (λ (decl : Decl). array_names (decl ∷ [])) decls c.args.seen.now c.loop-decl.seen c.loop-decl.decl-index c.loop-decl.invariant c.loop-decl-test.false).0
    ∙ ap (has_repeat bytes_eq c.args.seen.now) (array_names-each decls)

pub returns-clause-added : goal.returns-clause-added
returns-clause-added c = λ none.
    let decls = c.args.decls.now in
    (seen_all (λ (decl : Decl). array_names (decl ∷ [])) decls c.args.seen.now c.loop-decl.seen c.loop-decl.decl-index c.loop-decl.invariant c.loop-decl-test.false).1
    ∙ ap (λ names. c.args.seen.now ++ names) (array_names-each decls)

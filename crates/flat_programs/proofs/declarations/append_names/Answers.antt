use Rattle.std.proofs.Common.{◌≡◌, ◌++◌, length, get_or, ap, ◌∙◌, Some, List}
use Rattle.std.specs.Prelude.{slice_get}
use Rattle.std.proofs.lemmas.Option.{slice_get_read}
use Rattle.f77_tree.specs.declared.declarations.Decl.{Decl}
use Rattle.flat_programs.proofs.TextLemmas.{names_next}
use Rattle.flat_programs.proofs.declarations.append_names.Goals as goal

pub loop-decl-preserved : goal.loop-decl-preserved
loop-decl-preserved c =
    let decls = c.args.part.now.decls in
    let decl = c.decl-item.result in
    let k = c.loop-decl.decl-index in
    let items = c.as_slice-decl-items.ensures.items in
    let at : slice_get decls k ≡ Some decl = slice_get_read decls (length c.as_slice-decl-items.result.now) k decl (ap length items) c.loop-decl-test.true (c.decl-item.is ∙ ap (λ (ds : List Decl). get_or ds k decl) items) in
    names_next decls k decl c.args.out.now.items c.loop-decl.out.items c.append.new.out.items c.append-in-loop-decl.new.out.items at c.loop-decl.invariant c.in_ok-append.ensures (c.in_ok-append-2.ensures ∙ ap (λ t. c.append.new.out.items ++ t) c.as_bytes.ensures)

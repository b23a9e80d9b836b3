-- What the layout of a unit answers, as a refusal.
use Rattle.std.proofs.Common.{◌≡◌, Bool, List, Option, Some, None, refl, sym, ap, ◌∙◌}
use Rattle.std.specs.Prelude.{Ok, Err}
use Rattle.f77_tree.specs.declared.programs.Program.{Program}
use Rattle.f77_tree.specs.declared.statements.Labelled.{Labelled}
use Rattle.layout_rules.specs.declared.layout_end.LayoutEnd.{LayoutEnd}
use Rattle.layout_rules.specs.Layout.{layout, program, refusal, unless_refused}

none-by : (refused : Option LayoutEnd) (made p : Program) → unless_refused refused made ≡ Ok p → None ≡ refused
none-by None made p is = refl
none-by (Some end) made p is = absurd cc

some-by : (refused : Option LayoutEnd) (made : Program) (end : LayoutEnd) → unless_refused refused made ≡ Err end → Some end ≡ refused
some-by None made end is = absurd cc
some-by (Some other) made end is =
    let e : Err other ≡ Err end = is in
    let same : other ≡ end = cc in
    ap (λ (x : LayoutEnd). Some x) (sym same)

pub none-refused : (stmts list : List Labelled) (checked : Bool) (p : Program) → list ≡ stmts → layout list checked ≡ Ok p → None ≡ refusal stmts checked
none-refused stmts list checked p is laid =
    none-by (refusal stmts checked) (program stmts checked) p (ap (λ (s : List Labelled). layout s checked) (sym is) ∙ laid)

pub some-refused : (stmts list : List Labelled) (checked : Bool) (end : LayoutEnd) → list ≡ stmts → layout list checked ≡ Err end → Some end ≡ refusal stmts checked
some-refused stmts list checked end is laid =
    some-by (refusal stmts checked) (program stmts checked) end (ap (λ (s : List Labelled). layout s checked) (sym is) ∙ laid)

pub none-of : {A : Type 0} (o : Option A) → ((x : A) → o ≡ Some x → ⊥) → o ≡ None
none-of None none = refl
none-of (Some x) none = absurd (none x refl)

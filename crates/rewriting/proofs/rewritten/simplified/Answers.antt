use Rattle.std.proofs.Common.{◌≡◌, sym, ap, subst}
use Rattle.std.specs.Prelude.{IfOk, Result, Ok, Err}
use Rattle.std.proofs.lemmas.Result.{IfOk-weaker}
use Rattle.f77_tree.specs.declared.programs.Program.{Program}
use Rattle.alias_classes.specs.Classes.{ClassTable}
use Rattle.alias_classes.specs.Number.{HasFewClasses}
use Rattle.dep_routing.specs.Touch.{touches_in}
use Rattle.const_prop.specs.Table.{knowns_of}
use Rattle.flat_programs.specs.Executables.{program_of}
use Rattle.flat_programs.specs.FlatForm.{AreStatementsOf, IsFlatProgram}
use Rattle.simplified_forms.specs.declared.simplified.Simplified.{Simplified}
use Rattle.simplified_forms.specs.Simplified.{AreSimplified, HasManySimplified, IsSimplified}
use Rattle.rewriting.specs.Rewritten.{IsSimplifiedOf}
use Rattle.rewriting.proofs.Analyses.{constants_of, lines_routed, own_constants, simplified_has_few_classes}
use Rattle.rewriting.proofs.rewritten.simplified.Goals as goal

-- what follows from two things that hold of an answer
both-ok : {T E : Type 0} (r : Result T E) (P Q R : T → Type 0) → ((x : T) → P x → Q x → R x) → IfOk r P → IfOk r Q → IfOk r R
both-ok (Ok x) P Q R f p q = f x p q
both-ok (Err e) P Q R f p q = p

pub returns-clause-simplified : goal.returns-clause-simplified
returns-clause-simplified c =
    let p = c.args.p.now in
    let found = c.in_ok-found.found in
    let t = knowns_of c.in_ok-table.table in
    let simple = subst (λ (classes : ClassTable). IfOk c.simplify.result (λ (s : Simplified). IsSimplified p classes t c.args.checked s.form)) c.flow_and_classes-flow.ensures.classes c.simplify.ensures.simplified in
    IfOk-weaker c.simplify.result (λ (s : Simplified). IsSimplified p found.classes t c.args.checked s.form) (λ (s : Simplified). IsSimplifiedOf p c.args.checked s.form)
    (λ s is. record { classes = found.classes; table = t; constants = constants_of p found c.in_ok-found.ensures t c.in_ok-table.ensures.constants; simplified = is })
    simple

pub returns-clause-flat : goal.returns-clause-flat
returns-clause-flat c =
    let p = c.args.p.now in
    let found = c.in_ok-found.found in
    let is = c.in_ok-found.ensures in
    let t = knowns_of c.in_ok-table.table in
    let touches = touches_in found.touch in
    let routed = c.own_touches_route.ensures p found.classes touches found.tree found.lines c.requires.program is.classes is.tree is.touches (lines_routed p found is) in
    let constants = own_constants p found is t c.in_ok-table.ensures.constants in
    let simple = subst (λ (classes : ClassTable). IfOk c.simplify.result (λ (s : Simplified). IsSimplified p classes t c.args.checked s.form)) c.flow_and_classes-flow.ensures.classes c.simplify.ensures.simplified in
    IfOk-weaker c.simplify.result (λ (s : Simplified). IsSimplified p found.classes t c.args.checked s.form) (λ (s : Simplified). IsFlatProgram s.form)
    (λ s made. c.simplified_programs_are_flat.ensures p found.classes touches found.tree found.lines t c.args.checked s.form routed constants made)
    simple

pub returns-clause-statements : goal.returns-clause-statements
returns-clause-statements c =
    let p = c.args.p.now in
    let found = c.in_ok-found.found in
    let is = c.in_ok-found.ensures in
    let t = knowns_of c.in_ok-table.table in
    let touches = touches_in found.touch in
    let routed = c.own_touches_route.ensures p found.classes touches found.tree found.lines c.requires.program is.classes is.tree is.touches (lines_routed p found is) in
    let constants = own_constants p found is t c.in_ok-table.ensures.constants in
    let made = subst (λ (classes : ClassTable). IfOk c.simplify.result (λ (s : Simplified). AreSimplified p classes t c.args.checked s.statements)) c.flow_and_classes-flow.ensures.classes c.simplify.ensures.statements in
    both-ok c.simplify.result (λ (s : Simplified). AreSimplified p found.classes t c.args.checked s.statements) (λ (s : Simplified). s.form ≡ program_of p s.statements) (λ (s : Simplified). AreStatementsOf s.form s.statements)
    (λ s are form. record {
      form = c.simplified_statements_are_flat.ensures p found.classes touches found.tree found.lines t c.args.checked s.statements routed constants are;
      execs = sym (ap (λ (q : Program). q.execs) form);
    })
    made
    c.simplify.ensures.form

pub returns-clause-few : goal.returns-clause-few
returns-clause-few c =
    let p = c.args.p.now in
    let found = c.in_ok-found.found in
    let t = knowns_of c.in_ok-table.table in
    let simple = subst (λ (classes : ClassTable). IfOk c.simplify.result (λ (s : Simplified). IsSimplified p classes t c.args.checked s.form)) c.flow_and_classes-flow.ensures.classes c.simplify.ensures.simplified in
    IfOk-weaker c.simplify.result (λ (s : Simplified). IsSimplified p found.classes t c.args.checked s.form) (λ (s : Simplified). HasFewClasses s.form)
    (λ s is. simplified_has_few_classes p s.form found.classes t c.args.checked c.requires.program c.simplified_programs_have_no_more_classes.ensures c.requires.few is)
    simple

pub returns-clause-many : goal.returns-clause-many
returns-clause-many c =
    let p = c.args.p.now in
    let found = c.in_ok-found.found in
    let t = knowns_of c.in_ok-table.table in
    λ err. record {
      classes = found.classes;
      table = t;
      constants = constants_of p found c.in_ok-found.ensures t c.in_ok-table.ensures.constants;
      many = subst (λ (classes : ClassTable). HasManySimplified p classes t c.args.checked) c.flow_and_classes-flow.ensures.classes (c.simplify.ensures.many err);
    }

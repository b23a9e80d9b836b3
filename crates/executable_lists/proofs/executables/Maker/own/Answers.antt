use Rattle.std.proofs.Common.{rules, arith, ◌≡◌, ◌+◌, ◌++◌, ◌∷◌, [], List, length, sym, ap, subst, ◌∙◌, append_assoc, length-append}
use Rattle.std.specs.Result.{OnOk}
use Rattle.f77_tree.specs.declared.programs.Exec.{Exec}
use Rattle.f77_tree.specs.declared.programs.ExecKind.{ExecKind}
use Rattle.f77_tree.specs.declared.programs.ExecKind.TheVariants.{Test}
use Rattle.f77_tree.specs.declared.expressions.Expr.{Expr}
use Rattle.layout_rules.specs.Resolved.{resolved}
use Rattle.layout_rules.specs.Executables.{own_executables, own_kinds, at_line}
use Rattle.layout_rules.specs.Tables.{is_simple, has_simple_inner}
use Rattle.control_structure.proofs.OwnExecutables.{guarded_own, guarded_simple, guarded_kinds}
use Rattle.executable_lists.proofs.executables.Maker.own.Goals as goal

pub overflow_add-kind : goal.overflow_add-kind
overflow_add-kind c =
    let own = ap own_executables c.in-ThenIf.is ∙ guarded_own c.in-ThenIf.condition c.in-ThenIf.inner in
    search (rules, own)

pub push-requires : goal.push-requires
push-requires c =
    let own = ap own_executables c.in-ThenIf.is ∙ guarded_own c.in-ThenIf.condition c.in-ThenIf.inner in
    omega (arith, own)

pub simple-requires-clause-simple : goal.simple-requires-clause-simple
simple-requires-clause-simple c =
    let same : c.get.result.now ≡ c.in-ThenIf.inner = search rules in
    ap is_simple same ∙ sym (guarded_simple c.in-ThenIf.condition c.in-ThenIf.inner) ∙ sym (ap has_simple_inner c.in-ThenIf.is) ∙ c.requires.inner

pub simple-requires-clause-room : goal.simple-requires-clause-room
simple-requires-clause-room c =
    let same : c.get.result.now ≡ c.in-ThenIf.inner = search rules in
    let own = ap own_executables c.in-ThenIf.is ∙ guarded_own c.in-ThenIf.condition c.in-ThenIf.inner in
    let pushed : c.push.new.self ≡ c.args.execs.now ++ record { line = c.args.s.now.line; kind = Test c.in_ok-resolve-in-ThenIf.field-0 (c.len.result + 1) c.args.next } ∷ [] = search rules in
    omega (arith, own, ap own_executables same, ap (λ (xs : List Exec). length xs) pushed, length-append c.args.execs.now (record { line = c.args.s.now.line; kind = Test c.in_ok-resolve-in-ThenIf.field-0 (c.len.result + 1) c.args.next } ∷ []))

pub returns-in_ok-push-in-ThenIf : goal.returns-in_ok-push-in-ThenIf
returns-in_ok-push-in-ThenIf c =
    let names = c.args.self.now.names.now in
    let checked = c.args.self.now.checked in
    let whole = c.args.self.now.stmts.now in
    let place = c.args.place in
    let next = c.args.next in
    let old = c.args.execs.now in
    let line = c.args.s.now.line in
    let inner = c.in-ThenIf.inner in
    let same : c.get.result.now ≡ inner = search rules in
    let test : ExecKind = Test (resolved names checked c.in-ThenIf.condition) (length old + 1) next in
    let cond : c.in_ok-resolve-in-ThenIf.field-0 ≡ resolved names checked c.in-ThenIf.condition = search rules in
    let index : c.len.result ≡ length old = search rules in
    let pushed_so : c.push.new.self ≡ old ++ record { line = line; kind = Test c.in_ok-resolve-in-ThenIf.field-0 (c.len.result + 1) next } ∷ [] = search rules in
    let pushed : c.push.new.self ≡ old ++ record { line = line; kind = test } ∷ [] = pushed_so ∙ ap (λ (e : Expr). old ++ record { line = line; kind = Test e (c.len.result + 1) next } ∷ []) cond ∙ ap (λ k. old ++ record { line = line; kind = Test (resolved names checked c.in-ThenIf.condition) (k + 1) next } ∷ []) index in
    let longer : length c.push.new.self ≡ length old + 1 = ap (λ (xs : List Exec). length xs) pushed ∙ length-append old (record { line = line; kind = test } ∷ []) in
    let kinds = ap (λ stmt. own_kinds names checked whole place (length old) next stmt) c.in-ThenIf.is ∙ guarded_kinds names checked whole place (length old) next c.in-ThenIf.condition inner in
    let all : c.push.new.self ++ at_line line (own_kinds names checked whole place (length c.push.new.self) next c.get.result.now) ≡ old ++ at_line line (own_kinds names checked whole place (length old) next c.args.s.now.stmt) =
    ap (λ stmt. c.push.new.self ++ at_line line (own_kinds names checked whole place (length c.push.new.self) next stmt)) same
    ∙ ap (λ k. c.push.new.self ++ at_line line (own_kinds names checked whole place k next inner)) longer
    ∙ ap (λ (xs : List Exec). xs ++ at_line line (own_kinds names checked whole place (length old + 1) next inner)) pushed
    ∙ append_assoc old (record { line = line; kind = test } ∷ []) (at_line line (own_kinds names checked whole place (length old + 1) next inner))
    ∙ ap (λ (ks : List ExecKind). old ++ at_line line ks) (sym kinds)
    in
    subst (λ (xs : List Exec). OnOk c.simple.result (c.simple.new.execs ≡ xs)) all (c.simple.ensures place)

pub returns-in-Assign : goal.returns-in-Assign
returns-in-Assign c = c.simple-in-Assign.ensures c.args.place

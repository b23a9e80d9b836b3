use Rattle.std.proofs.Common.{◌≡◌, true, sym, ap, ◌∙◌}
use Rattle.std.specs.Prelude.{◌==◌}
use Rattle.std.specs.List.{list_any}
use Rattle.sure_traps.specs.Causes.{cause_of}
use Rattle.sure_traps.specs.declared.causes.SureTrap.{SureTrap}
use Rattle.sure_traps.proofs.Told.{with_told}
use Rattle.sure_traps.proofs.programs.add_trap.Goals as goal

pub returns-then-is_told : goal.returns-then-is_told
returns-then-is_told c =
    let told = c.args.traps.now.items in
    let line = c.args.exec.now.line in
    let any : list_any (λ (t : SureTrap). t.line == line) told ≡ true = ap (list_any (λ (t : SureTrap). t.line == line)) (sym c.as_slice.ensures.value) ∙ sym c.is_told.ensures ∙ c.if-is_told.true in
    with_told told line (cause_of c.args.p.now.names c.args.exec.now.kind) c.in-Some.cause (sym c.cause_of.ensures ∙ c.in-Some.is) any

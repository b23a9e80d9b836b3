use Rattle.std.proofs.Common.{◌*◌, sym, ap, subst}
use Rattle.firing.specs.Marks.{AreMarks}
use Rattle.bench_firing.specs.Swinging.{is_ready}
use Rattle.bench_firing.specs.SwingsView.{Unmarked}
use Rattle.bench_firing.proofs.swings.SwingsStepSystem.keep_ready.Goals as goal

pub returns-clause-keeps : goal.returns-clause-keeps
returns-clause-keeps c =
    let did = c.mark_ready.ensures in
    record {
      kept = ap (λ (u : Unmarked). u.kept) did.rest;
      marks = subst (λ (u : Unmarked). AreMarks (2 * u.pairs.count) (is_ready u.pairs u.even_has) c.mark_ready.new.sys.set) (sym did.rest) did.marks;
    }

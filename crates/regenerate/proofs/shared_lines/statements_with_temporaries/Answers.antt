use Rattle.std.proofs.Common.{◌≡◌, length, sym, ◌∙◌}
use Rattle.std.proofs.lemmas.Bool.{eqb-true}
use Rattle.std.proofs.lemmas.List.{nil_from_length}
use Rattle.regenerate.proofs.NoneShared.{flat_stays}
use Rattle.regenerate.proofs.shared_lines.statements_with_temporaries.Goals as goal

pub returns-then-is_empty : goal.returns-then-is_empty
returns-then-is_empty c =
    let ns = c.args.shared.now in
    let none : length ns ≡ 0 = eqb-true (length ns) 0 (sym c.is_empty.ensures ∙ c.if-is_empty.true) in
    flat_stays c.args.t.now.q.now c.args.t.now.a.now (sym c.requires.shared ∙ nil_from_length ns none) c.args.flat

use Rattle.std.proofs.Common.{◌+◌, ◌∷◌, sym, ap, ◌∙◌, length, drop, arith}
use Rattle.std.proofs.lemmas.List.{take_rest, drop_all}
use Rattle.std.specs.Str.Lines.{lines}
use Rattle.fixed_form.proofs.Lines.{lines_broken, lines_whole}
use Rattle.fixed_form.proofs.line.split_line.Goals as goal

pub returns-in-Some-clause-lines : goal.returns-in-Some-clause-lines
returns-in-Some-clause-lines c =
    let text = c.args.text.now in
    let n = c.in-Some.n in
    lines_broken text n (sym c.in-Some.ensures)
    ∙ ap (λ line. line ∷ lines (drop (n + 1) text)) (sym c.without_return.ensures)
    ∙ ap (λ rest. c.without_return.result.now ∷ lines rest) (sym (take_rest text (n + 1)))

pub returns-in-None-clause-lines : goal.returns-in-None-clause-lines
returns-in-None-clause-lines c =
    let text = c.args.text.now in
    lines_whole text (sym c.in-None.ensures) c.requires
    ∙ ap (λ rest. text ∷ lines rest) (sym (take_rest text (length text) ∙ drop_all (length text) text (omega arith)))

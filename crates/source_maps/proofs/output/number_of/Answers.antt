use Rattle.std.proofs.Common.{◌≡◌, Ok, arith, subst, sym, ◌∙◌}
use Rattle.std.specs.Fmt.{decimal}
use Rattle.std.specs.Str.{IsUtf8}
use Rattle.std.proofs.lemmas.Fmt.{IsAscii-decimal, parse-decimal}
use Rattle.std.proofs.lemmas.Str.{IsUtf8-from_ascii}
use Rattle.source_maps.proofs.output.number_of.Goals as goal

pub returns-in-Ok : goal.returns-in-Ok
returns-in-Ok c = λ line small is.
    let parsed : c.parse.result ≡ Ok line = parse-decimal 32 line c.in-Ok.text.now c.parse.result small (omega (arith, small)) (c.in-Ok.ensures.cases.0 ∙ is) c.parse.ensures.value.0 in
    grind (arith, c.unwrap_or.ensures)

pub returns-in-Err : goal.returns-in-Err
returns-in-Err c = λ line small is.
    absurd (c.in-Err.ensures.cases.0 (subst (λ bytes. IsUtf8 bytes) (sym is) (IsUtf8-from_ascii (decimal line) (IsAscii-decimal line (omega (arith, small))))))

use Rattle.std.proofs.Common.{◌≡◌, ℕ, ◌++◌, List, length, sym, ap, ◌∙◌, arith}
use Rattle.std.proofs.lemmas.List.{length-append}
use Rattle.flat_programs.specs.declared.statements.FlatLine.{FlatLine}
use Rattle.flat_programs.specs.Recovered.{lines_at}
use Rattle.flat_programs.proofs.RecoveredLemmas.{lines_at-most}
use Rattle.flat_programs.proofs.Rows.{rows-more}
use Rattle.flat_programs.proofs.recovery.statements_of.Goals as goal

pub loop-k-preserved : goal.loop-k-preserved
loop-k-preserved c =
    let execs = c.args.execs.now in
    let k = c.loop-k.k in
    let f : ℕ → List FlatLine = lines_at execs in
    let one : c.append_statement.new.flat ≡ c.loop-k.flat ++ f k = c.in_ok-append_statement.ensures in
    let size = ap length one ∙ length-append c.loop-k.flat (f k) in
    record {
      few = omega (arith, size, lines_at-most execs k, c.loop-k.invariant.few);
      flat = one ∙ ap (λ (ls : List FlatLine). ls ++ f k) c.loop-k.invariant.flat ∙ sym (rows-more f k);
    }

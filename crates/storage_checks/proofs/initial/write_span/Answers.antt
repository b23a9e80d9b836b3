use Rattle.std.proofs.Common.{◌+◌, ◌-◌, ◌∷◌, [], ℤ, List, drop, ap, ◌∙◌}
use Rattle.std.specs.Prelude.{zip}
use Rattle.std.proofs.lemmas.List.{drop-drop}
use Rattle.f77_tree.specs.declared.declarations.Lit.{Lit}
use Rattle.f77_tree.specs.InitialWords.{words_from}
use Rattle.storage_checks.specs.Writing.{written}
use Rattle.storage_checks.proofs.WrittenWords.{written-next}
use Rattle.storage_checks.proofs.initial.write_span.Goals as goal

pub loop-k-preserved : goal.loop-k-preserved
loop-k-preserved c =
    let first = c.args.span.now.first in
    let len = c.args.span.now.len in
    let k = c.loop-k.k in
    let later = words_from (first + (k + 1)) (len - (k + 1)) in
    record {
      cells = ap (λ (cells : List ℤ). written cells (zip later c.write_next.new.constants)) c.write_next.ensures.cells
          ∙ ap (λ (constants : List Lit). written (written c.loop-k.cells (zip ((first + k) ∷ []) c.loop-k.constants)) (zip later constants)) c.write_next.ensures.constants
          ∙ written-next c.loop-k.cells c.loop-k.constants first len k c.loop-k-test.true
          ∙ c.loop-k.invariant.cells;
      constants = c.write_next.ensures.constants ∙ ap (λ (constants : List Lit). drop 1 constants) c.loop-k.invariant.constants ∙ drop-drop 1 k c.args.constants.now;
    }

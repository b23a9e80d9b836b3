use Rattle.std.proofs.Common.{◌≡◌, ◌||◌, ℕ, Bool, true, false, List, Option, take, sym, ap, ◌∙◌, arith}
use Rattle.std.specs.List.{list_any}
use Rattle.std.proofs.lemmas.List.{take_all}
use Rattle.std.proofs.lemmas.List.Folds.{list_any_at, list_any_more}
use Rattle.program_units.specs.Units.{unit_at}
use Rattle.unit_checks.specs.BlockTables.{is_mismatched_block}
use Rattle.unit_checks.proofs.bad_blocks.has_mismatch.Goals as goal

pub returns-then-is_mismatched : goal.returns-then-is_mismatched
returns-then-is_mismatched c =
    let us = c.args.us.now in
    let test : Option (List ℕ) → Bool = is_mismatched_block us (unit_at us c.args.k) in
    let blocks = c.deref-block-items.result.now in
    let is : test c.block-item.result ≡ true = sym c.is_mismatched.ensures ∙ c.if-is_mismatched.true in
    sym (sym (ap (list_any test) c.deref-block-items.ensures.value ∙ c.table_at-table.ensures.kept.tested test) ∙ list_any_at test blocks c.loop-block.block-index c.block-item.result c.loop-block-test.true (ap test (sym c.block-item.is) ∙ is))

pub loop-block-preserved : goal.loop-block-preserved
loop-block-preserved c =
    let us = c.args.us.now in
    let test : Option (List ℕ) → Bool = is_mismatched_block us (unit_at us c.args.k) in
    let blocks = c.deref-block-items.result.now in
    let is : test c.block-item.result ≡ false = sym c.is_mismatched.ensures ∙ c.if-is_mismatched.false in
    list_any_more test blocks c.loop-block.block-index c.block-item.result c.loop-block-test.true
    ∙ ap (λ (o : Option (List ℕ)). list_any test (take c.loop-block.block-index blocks) || test o) (sym c.block-item.is)
    ∙ ap (λ (b : Bool). b || test c.block-item.result) c.loop-block.invariant
    ∙ is

pub returns : goal.returns
returns c =
    let us = c.args.us.now in
    let test : Option (List ℕ) → Bool = is_mismatched_block us (unit_at us c.args.k) in
    let blocks = c.deref-block-items.result.now in
    sym (sym (ap (list_any test) c.deref-block-items.ensures.value ∙ c.table_at-table.ensures.kept.tested test) ∙ ap (list_any test) (sym (take_all c.loop-block.block-index blocks (omega arith))) ∙ c.loop-block.invariant)

use Rattle.std.proofs.Common.{ap, ◌∙◌, get_or}
use Rattle.std.specs.Prelude.{nat_eq}
use Rattle.indexmap.specs.IndexMap.{get}
use Rattle.f77_tree.specs.declared.declarations.Kind.TheVariants.{Integer}
use Rattle.f77_tree.specs.declared.declarations.LetterRange.{LetterRange}
use Rattle.layout_rules.specs.Faults.{answer_or}
use Rattle.layout_rules.specs.Declarations.{kind_of_range}
use Rattle.layout_rules.proofs.FirstLine.{first_answer-more, item-is}
use Rattle.declared_names.proofs.declarations.keep_ranges.Goals as goal

pub loop-range-preserved : goal.loop-range-preserved
loop-range-preserved c = λ letter.
    let none : LetterRange = record { kind = Integer; from = 0; to = 0 } in
    let ranges = c.args.ranges.now in
    let i = c.loop-range.range-index in
    let range = get_or ranges i none in
    c.in_ok-keep_range.ensures letter
    ∙ ap (λ kept. answer_or kept (kind_of_range letter range)) (c.loop-range.invariant letter)
    ∙ first_answer-more (kind_of_range letter) (get nat_eq c.args.letters.now letter) ranges i range c.loop-range-test.true (item-is ranges i none c.loop-range-test.true)

use Rattle.std.proofs.Common.{◌≡◌, ◌≤◌, length, get_or, rules, sym, subst, ◌∙◌, arith}
use Rattle.alias_classes.specs.Spans.{AreSpans}
use Rattle.alias_classes.specs.Kept.{table_of}
use Rattle.alias_classes.proofs.FirstWords.{as-many}
use Rattle.alias_classes.proofs.MakingLemmas.{well-placed, are-spans, are-classes, set-of-name}
use Rattle.alias_classes.proofs.classes.classes_of.Goals as goal

pub number_spans-requires-clause-spans : goal.number_spans-requires-clause-spans
number_spans-requires-clause-spans g c = are-spans c.args.p.now c.requires.program c.in_ok-spans.spans.begins.items c.in_ok-spans.spans.ends.items c.in_ok-spans.ensures

pub returns-then-count-p-clause-many : goal.returns-then-count-p-clause-many
returns-then-count-p-clause-many g c = λ same.
    let numbers = c.in_ok-numbers.field-0.numbers.items in
    let count = c.in_ok-numbers.field-0.count in
    let many = c.if-count-p.true in
    let own = are-classes c.args.p.now c.requires.program c.in_ok-spans.spans.begins.items c.in_ok-spans.spans.ends.items numbers count c.in_ok-spans.ensures c.in_ok-numbers.ensures.numbering in
    omega (arith, many, as-many c.args.p.now (table_of c.args.p.now numbers count) own)

pub name_sets-requires : goal.name_sets-requires
name_sets-requires g c =
    let numbers = c.in_ok-numbers.field-0.numbers.items in
    let begins = c.in_ok-spans.spans.begins.items in
    let ends = c.in_ok-spans.spans.ends.items in
    let numbering = c.in_ok-numbers.ensures.numbering in
    let each : length numbers ≡ c.args.p.now.words = numbering.each in
    let few : c.args.p.now.words ≤ 262144 = c.requires.program.word_count in
    let spans : AreSpans (length numbers) begins ends = subst (λ n. AreSpans n begins ends) (sym each) (are-spans c.args.p.now c.requires.program begins ends c.in_ok-spans.ensures) in
    let test = c.if-count-p.false in
    (search rules, (c.requires.width, (spans, (omega (arith, each, few), λ v. let most = numbering.most v in omega (arith, most, test)))))

pub invariant_of-result : goal.invariant_of-result
invariant_of-result g c =
    let p = c.args.p.now in
    let numbers = c.in_ok-numbers.field-0.numbers.items in
    let count = c.in_ok-numbers.field-0.count in
    let begins = c.in_ok-spans.spans.begins.items in
    let ends = c.in_ok-spans.spans.ends.items in
    let spans = c.in_ok-spans.ensures in
    record {
      width = c.requires.width;
      placed = well-placed p c.requires.program;
      initial = c.requires.program.initial_count;
      own = are-classes p c.requires.program begins ends numbers count spans c.in_ok-numbers.ensures.numbering;
      few = c.if-count-p.false;
      count = c.in_ok-names.ensures.count ∙ spans.begin_count;
      each = λ k d known. set-of-name p c.requires.program begins ends numbers count spans k (get_or c.in_ok-names.names.items k d) known (c.in_ok-names.ensures.each k d (let many = spans.begin_count in omega (arith, known, many)));
    }

pub returns-clause-classes : goal.returns-clause-classes
returns-clause-classes g c = are-classes c.args.p.now c.requires.program c.in_ok-spans.spans.begins.items c.in_ok-spans.spans.ends.items c.in_ok-numbers.field-0.numbers.items c.in_ok-numbers.field-0.count c.in_ok-spans.ensures c.in_ok-numbers.ensures.numbering

use Rattle.std.proofs.Common.{◌≡◌, true, false, get_or, refl, sym, ap, ◌∙◌}
use Rattle.std.specs.Str.{bytes_eq}
use Rattle.printed_graphs.specs.Names.{work_text}
use Rattle.printed_graphs.specs.GraphReading.{is_work, works}
use Rattle.printed_graphs.specs.declared.dataflow.Work.TheVariants.{Load}
use Rattle.printed_graphs.proofs.Loops.{none_so_far, found_here}
use Rattle.printed_graphs.proofs.words.work_of.Goals as goal

pub loop-work-init : goal.loop-work-init
unfolding is_work
loop-work-init c = refl

pub loop-work-preserved : goal.loop-work-preserved
loop-work-preserved c =
    let i = c.loop-work.work-index in
    let word = c.args.word.now in
    let differs : bytes_eq (work_text (get_or works i Load)) word ≡ false =
    ap (λ text. bytes_eq text word) (sym (c.as_bytes.ensures.value ∙ c.work_name.ensures)) ∙ sym c.eq.ensures ∙ c.if-eq.false in
    none_so_far (λ work. bytes_eq (work_text work) word) works i Load (is_work word) c.loop-work-test.true differs c.loop-work.invariant

pub returns-then-eq-clause-variant : goal.returns-then-eq-clause-variant
returns-then-eq-clause-variant c =
    let i = c.loop-work.work-index in
    let word = c.args.word.now in
    let same : bytes_eq (work_text (get_or works i Load)) word ≡ true =
    ap (λ text. bytes_eq text word) (sym (c.as_bytes.ensures.value ∙ c.work_name.ensures)) ∙ sym c.eq.ensures ∙ c.if-eq.true in
    found_here (λ work. bytes_eq (work_text work) word) works i Load (is_work word) c.loop-work-test.true same c.loop-work.invariant

use Rattle.std.proofs.Common.{◌≡◌, false, get_or, refl, sym, ap, ◌∙◌}
use Rattle.std.specs.Str.{bytes_eq}
use Rattle.printed_graphs.specs.Names.{kind_text}
use Rattle.printed_graphs.specs.Reading.{is_kind, kinds}
use Rattle.printed_graphs.specs.declared.flow.PieceKind.TheVariants.{Start}
use Rattle.printed_graphs.proofs.Loops.{none_so_far}
use Rattle.printed_graphs.proofs.words.kind_of.Goals as goal

pub loop-kind-init : goal.loop-kind-init
unfolding is_kind
loop-kind-init c = refl

pub loop-kind-preserved : goal.loop-kind-preserved
loop-kind-preserved c =
    let i = c.loop-kind.kind-index in
    let word = c.args.word.now in
    let differs : bytes_eq (kind_text (get_or kinds i Start)) word ≡ false =
    ap (λ text. bytes_eq text word) (sym (c.as_bytes.ensures.value ∙ c.kind_name.ensures)) ∙ sym c.eq.ensures ∙ c.if-eq.false in
    none_so_far (λ kind. bytes_eq (kind_text kind) word) kinds i Start (is_kind word) c.loop-kind-test.true differs c.loop-kind.invariant

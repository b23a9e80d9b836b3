use Rattle.std.proofs.Common.{◌≡◌, false, get_or, refl, sym, ap, ◌∙◌}
use Rattle.std.specs.Str.{bytes_eq}
use Rattle.printed_graphs.specs.Names.{trap_text}
use Rattle.printed_graphs.specs.GraphReading.{is_trap, traps}
use Rattle.op_table.specs.declared.Trap.TheVariants.{Divide}
use Rattle.printed_graphs.proofs.Loops.{none_so_far}
use Rattle.printed_graphs.proofs.words.trap_of.Goals as goal

pub loop-trap-init : goal.loop-trap-init
unfolding is_trap
loop-trap-init c = refl

pub loop-trap-preserved : goal.loop-trap-preserved
loop-trap-preserved c =
    let i = c.loop-trap.trap-index in
    let word = c.args.word.now in
    let differs : bytes_eq (trap_text (get_or traps i Divide)) word ≡ false =
    ap (λ text. bytes_eq text word) (sym (c.as_bytes.ensures.value ∙ c.trap_name.ensures)) ∙ sym c.eq.ensures ∙ c.if-eq.false in
    none_so_far (λ trap. bytes_eq (trap_text trap) word) traps i Divide (is_trap word) c.loop-trap-test.true differs c.loop-trap.invariant

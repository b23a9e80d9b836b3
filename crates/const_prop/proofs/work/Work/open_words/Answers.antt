use Rattle.std.proofs.Common.{◌≡◌, ◌<◌, ℕ, true, false, rules, sym, subst, ◌∙◌, inl, inr, arith}
use Rattle.std.proofs.lemmas.List.{get_or_read}
use Rattle.closed_walks.specs.Graph.{edge_count}
use Rattle.f77_tree.specs.Value.{word_at}
use Rattle.alias_classes.specs.Classes.{class_of_word}
use Rattle.dep_routing.specs.Routing.{next_at}
use Rattle.dep_routing.specs.Touch.{touches_in}
use Rattle.const_prop.specs.declared.known.Known.{Known}
use Rattle.const_prop.specs.declared.known.Known.TheVariants.{One}
use Rattle.const_prop.specs.Closed.{IsClosed, is_one_word}
use Rattle.const_prop.specs.Known.{AtMost, IsNotOne}
use Rattle.const_prop.specs.Table.{Knowns}
use Rattle.const_prop.specs.Work.{so_far, no_line, no_piece}
use Rattle.const_prop.proofs.Opening.{words-more}
use Rattle.const_prop.proofs.Settling.{settling-rises-from}
use Rattle.const_prop.proofs.Under.{class_below}
use Rattle.const_prop.proofs.Uses.{setting-covered}
use Rattle.const_prop.proofs.work.Work.open_words.Goals as goal
use Rattle.const_prop.proofs.work.Work.open_words.Goals.{then-index, else-index}

pub raise-requires : goal.raise-requires
raise-requires g c =
    let r = c.args.s.now.lines.now in
    let p = c.args.s.now.program.now in
    let word = c.loop-word.word in
    let line = c.of_word-line.result in
    let in_w : word < p.words = c.loop-word-test.true in
    let inside : line < r.lines = (let below = class_below p c.args.s.now.flow.now c.args.s.now.classes.now (touches_in c.args.s.now.touch.now) r.lines (setting-covered c.args.s.now.program.now c.args.s.now.flow.now c.args.s.now.classes.now c.args.s.now.touch.now c.args.s.now.lines.now c.requires.setting.program c.requires.setting.lines) word in omega (arith, below, c.of_word-line.ensures)) in
    let tell : c.index.result.now ≡ is_one_word c.args.s.now.classes.now line =
    get_or_read c.args.s.now.one_word.items line c.index.result.now (omega (arith, inside, c.requires.setting.tell.size)) c.index.ensures false ∙ c.requires.setting.tell.tells line inside in
    let one : is_one_word c.args.s.now.classes.now line ≡ true = sym tell ∙ c.if-index.true in
    let led = c.requires.setting.lines.next line 1 inside c.requires.setting.program.shape.two_edges in
    let one_here : is_one_word c.args.s.now.classes.now (class_of_word c.args.s.now.classes.now word) ≡ true = subst (λ (n : ℕ). is_one_word c.args.s.now.classes.now n ≡ true) c.of_word-line.ensures one in
    let edge : c.next_wire.result < edge_count c.args.s.now.flow.now.graph = omega (arith, led, c.next_wire.ensures) in
    let due : (b : Knowns) → IsClosed p c.args.s.now.flow.now c.args.s.now.classes.now (touches_in c.args.s.now.touch.now) r b → AtMost c.first_word-first.result (b.value line c.next_wire.result) = λ b closed. subst (λ (k : Known). AtMost k (b.value line c.next_wire.result)) (sym c.first_word-first.ensures)
    (subst (λ (n : ℕ). AtMost (One (word_at p.initial word)) (b.value line n)) (sym c.next_wire.ensures)
    (subst (λ (n : ℕ). AtMost (One (word_at p.initial word)) (b.value n (next_at r n 1))) (sym c.of_word-line.ensures) (closed.initial word in_w one_here))) in
    let several : is_one_word c.args.s.now.classes.now line ≡ false → IsNotOne c.first_word-first.result = λ several. let clash : true ≡ false = sym one ∙ several in absurd cc in
    search (rules, c.loop-word.invariant.sized, c.loop-word.invariant.found, inside, edge, due, several)

pub loop-word-preserved : goal.loop-word-preserved
loop-word-preserved g c =
    let r = c.args.s.now.lines.now in
    let p = c.args.s.now.program.now in
    let word = c.loop-word.word in
    let line = c.of_word-line.result in
    let in_w : word < p.words = c.loop-word-test.true in
    let inside : line < r.lines = (let below = class_below p c.args.s.now.flow.now c.args.s.now.classes.now (touches_in c.args.s.now.touch.now) r.lines (setting-covered c.args.s.now.program.now c.args.s.now.flow.now c.args.s.now.classes.now c.args.s.now.touch.now c.args.s.now.lines.now c.requires.setting.program c.requires.setting.lines) word in omega (arith, below, c.of_word-line.ensures)) in
    let tell : c.index.result.now ≡ is_one_word c.args.s.now.classes.now line =
    get_or_read c.args.s.now.one_word.items line c.index.result.now (omega (arith, inside, c.requires.setting.tell.size)) c.index.ensures false ∙ c.requires.setting.tell.tells line inside in
    elim c.if-index.branch [
      | then-index w ↦
          rw w.self-is (words-more c.args.s.now.program.now c.args.s.now.flow.now c.args.s.now.classes.now (touches_in c.args.s.now.touch.now) c.args.s.now.lines.now word r.lines w.raise.new.self
          (inr (subst (λ (n : ℕ). AtMost (One (word_at p.initial word)) ((so_far w.raise.new.self).value n (next_at r n 1))) c.of_word-line.ensures
          (subst (λ (n : ℕ). AtMost (One (word_at p.initial word)) ((so_far w.raise.new.self).value line n)) w.next_wire.ensures
          (subst (λ (k : Known). AtMost k ((so_far w.raise.new.self).value line w.next_wire.result)) w.first_word-first.ensures w.raise.ensures.reached))))
          (settling-rises-from c.args.s.now.program.now c.args.s.now.flow.now c.args.s.now.classes.now (touches_in c.args.s.now.touch.now) c.args.s.now.lines.now (setting-covered c.args.s.now.program.now c.args.s.now.flow.now c.args.s.now.classes.now c.args.s.now.touch.now c.args.s.now.lines.now c.requires.setting.program c.requires.setting.lines) c.requires.setting.program.shape.two_edges c.requires.setting.lines.next c.loop-word.self w.raise.new.self w.raise.ensures.rises w.raise.ensures.found word r.lines no_line no_piece c.loop-word.invariant))
      | else-index w ↦
          rw w.self-is (words-more c.args.s.now.program.now c.args.s.now.flow.now c.args.s.now.classes.now (touches_in c.args.s.now.touch.now) c.args.s.now.lines.now word r.lines c.loop-word.self (inl (subst (λ (n : ℕ). is_one_word c.args.s.now.classes.now n ≡ false) c.of_word-line.ensures (sym tell ∙ w.if-index.false))) c.loop-word.invariant)
    ]

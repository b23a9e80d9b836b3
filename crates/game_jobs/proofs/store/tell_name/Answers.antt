use Rattle.std.proofs.Common.{◌∷◌, ℤ, FitsSigned, ap, ◌∙◌, arith, rules}
use Rattle.std.specs.Int.{w32}
use Rattle.std.proofs.lemmas.Int.{to_z-of_z}
use Rattle.op_net.specs.NetView.{marking_of}
use Rattle.program_nets.specs.Game.{store_in}
use Rattle.game_jobs.specs.StoreText.{word_text}
use Rattle.game_jobs.proofs.Items.{fault_at_head, word_told, fault_at_word, name_told, fault_after_words}
use Rattle.graph_texts.proofs.Texts.{on_error, then_on_error, then_on_ok}
use Rattle.game_jobs.proofs.store.tell_name.Goals as goal

pub returns-in_err-write_all-clause-prefix : goal.returns-in_err-write_all-clause-prefix
returns-in_err-write_all-clause-prefix g c =
    on_error c.from_residual.result
    (fault_at_head (store_in (marking_of c.args.net.now)) c.args.info.now c.as_bytes.result.now (g.K.Sink.got c.args.sink.now) (g.K.Sink.got c.write_all.new.sink)
    c.as_bytes.ensures c.in_err-write_all.ensures.prefix)

pub returns-in_err-write_all-2-clause-prefix : goal.returns-in_err-write_all-2-clause-prefix
returns-in_err-write_all-2-clause-prefix g c =
    let info = c.args.info.now in
    let fits : FitsSigned w32 c.word.result = search rules in
    let word = to_z-of_z w32 c.word.result fits ∙ c.word.ensures in
    let is = c.as_bytes-in-loop-k.ensures.value ∙ c.as_str.ensures.value ∙ c.word_text-text.ensures ∙ ap (λ (z : ℤ). 32 ∷ word_text info.kind z) word in
    on_error c.from_residual-in_err-write_all-2.result
    (fault_at_word (store_in (marking_of c.args.net.now)) info c.size.result c.size.ensures c.loop-k.k c.loop-k.invariant.from c.loop-k-test.true
    c.as_bytes-in-loop-k.result.now (g.K.Sink.got c.args.sink.now) (g.K.Sink.got c.loop-k.sink) (g.K.Sink.got c.write_all-in-loop-k.new.sink)
    is c.loop-k.invariant.written c.in_err-write_all-2.ensures.prefix)

pub loop-k-preserved : goal.loop-k-preserved
loop-k-preserved g c =
    let info = c.args.info.now in
    let fits : FitsSigned w32 c.word.result = search rules in
    let word = to_z-of_z w32 c.word.result fits ∙ c.word.ensures in
    let is = c.as_bytes-in-loop-k.ensures.value ∙ c.as_str.ensures.value ∙ c.word_text-text.ensures ∙ ap (λ (z : ℤ). 32 ∷ word_text info.kind z) word in
    record {
      from = omega (arith, c.loop-k.invariant.from);
      written = word_told (store_in (marking_of c.args.net.now)) info c.size.result c.size.ensures c.loop-k.k c.loop-k.invariant.from c.loop-k-test.true
          c.as_bytes-in-loop-k.result.now (g.K.Sink.got c.args.sink.now) (g.K.Sink.got c.loop-k.sink) (g.K.Sink.got c.write_all-in-loop-k.new.sink)
          is c.loop-k.invariant.written c.in_ok-write_all-2.ensures.all;
      later = omega (arith, c.loop-k.invariant.later, c.write_all-in-loop-k.ensures.later);
    }

pub returns-clause-all : goal.returns-clause-all
returns-clause-all g c =
    then_on_ok c.write_all-2.result
    (name_told (store_in (marking_of c.args.net.now)) c.args.info.now c.size.result c.size.ensures c.loop-k.k c.loop-k-test.false
    (g.K.Sink.got c.args.sink.now) (g.K.Sink.got c.loop-k.sink) (g.K.Sink.got c.write_all-2.new.sink) c.loop-k.invariant.written)
    c.write_all-2.ensures.all

pub returns-clause-prefix : goal.returns-clause-prefix
returns-clause-prefix g c =
    then_on_error c.write_all-2.result
    (fault_after_words (store_in (marking_of c.args.net.now)) c.args.info.now c.size.result c.size.ensures c.loop-k.k c.loop-k-test.false
    (g.K.Sink.got c.args.sink.now) (g.K.Sink.got c.loop-k.sink) (g.K.Sink.got c.write_all-2.new.sink) c.loop-k.invariant.written)
    c.write_all-2.ensures.prefix

use Rattle.std.proofs.Common.{List, ◌++◌, ◌∙◌, subst, arith}
use Rattle.std.specs.Io.KnownBytes.{Appends}
use Rattle.df_io.specs.Write.{AppendsPrefix}
use Rattle.f77_tree.specs.declared.programs.NameInfo.{NameInfo}
use Rattle.op_net.specs.NetView.{marking_of}
use Rattle.program_nets.specs.Game.{store_in}
use Rattle.game_jobs.specs.StoreText.{fired_line, name_line, store_text}
use Rattle.game_jobs.proofs.Items.{line_told, fault_at_line, store_told, fault_after_names}
use Rattle.graph_texts.proofs.Texts.{on_error, then_on_error, then_on_ok}
use Rattle.game_jobs.proofs.store.tell_store.Goals as goal

pub returns-in_err-tell_name-clause-prefix : goal.returns-in_err-tell_name-clause-prefix
returns-in_err-tell_name-clause-prefix g c =
    let store = store_in (marking_of c.args.net.now) in
    let line = fired_line c.args.firings in
    let items = c.as_slice-info-items.result.now in
    let s0 = g.K.Sink.got c.args.sink.now in
    let s1 = g.K.Sink.got c.loop-info.sink in
    let s2 = g.K.Sink.got c.tell_name.new.sink in
    let prefix = subst (λ (info : NameInfo). AppendsPrefix s1 s2 (name_line store info)) c.info-item.is c.in_err-tell_name.ensures.prefix in
    let fault = fault_at_line store items c.info-item.result s0 s1 s2 c.loop-info.info-index line c.loop-info-test.true c.loop-info.invariant.written prefix in
    on_error c.from_residual.result (subst (λ (names : List NameInfo). AppendsPrefix s0 s2 (store_text names store ++ line)) c.as_slice-info-items.ensures.items fault)

pub loop-info-preserved : goal.loop-info-preserved
loop-info-preserved g c =
    let store = store_in (marking_of c.args.net.now) in
    let items = c.as_slice-info-items.result.now in
    let s0 = g.K.Sink.got c.args.sink.now in
    let s1 = g.K.Sink.got c.loop-info.sink in
    let s2 = g.K.Sink.got c.tell_name.new.sink in
    let now = subst (λ (info : NameInfo). Appends s1 s2 (name_line store info)) c.info-item.is c.in_ok-tell_name.ensures.all in
    record {
      written = line_told store items c.info-item.result s0 s1 s2 c.loop-info.info-index c.loop-info-test.true c.loop-info.invariant.written now;
      later = omega (arith, c.loop-info.invariant.later, c.tell_name.ensures.later);
    }

pub returns-clause-all : goal.returns-clause-all
returns-clause-all g c =
    let store = store_in (marking_of c.args.net.now) in
    let line = fired_line c.args.firings in
    let items = c.as_slice-info-items.result.now in
    let s0 = g.K.Sink.got c.args.sink.now in
    let s1 = g.K.Sink.got c.loop-info.sink in
    let s2 = g.K.Sink.got c.write_all.new.sink in
    let is = c.as_bytes.ensures.value ∙ c.as_str.ensures.value ∙ c.fired_line-line.ensures in
    then_on_ok c.write_all.result
    (λ (all : Appends s1 s2 c.as_bytes.result.now).
    subst (λ (names : List NameInfo). Appends s0 s2 (store_text names store ++ line)) c.as_slice-info-items.ensures.items
    (store_told store items c.loop-info.info-index c.loop-info-test.false s0 s1 s2 c.loop-info.invariant.written line (subst (Appends s1 s2) is all)))
    c.write_all.ensures.all

pub returns-clause-prefix : goal.returns-clause-prefix
returns-clause-prefix g c =
    let store = store_in (marking_of c.args.net.now) in
    let line = fired_line c.args.firings in
    let items = c.as_slice-info-items.result.now in
    let s0 = g.K.Sink.got c.args.sink.now in
    let s1 = g.K.Sink.got c.loop-info.sink in
    let s2 = g.K.Sink.got c.write_all.new.sink in
    let is = c.as_bytes.ensures.value ∙ c.as_str.ensures.value ∙ c.fired_line-line.ensures in
    then_on_error c.write_all.result
    (λ (prefix : AppendsPrefix s1 s2 c.as_bytes.result.now).
    subst (λ (names : List NameInfo). AppendsPrefix s0 s2 (store_text names store ++ line)) c.as_slice-info-items.ensures.items
    (fault_after_names store items c.loop-info.info-index c.loop-info-test.false s0 s1 s2 c.loop-info.invariant.written line (subst (AppendsPrefix s1 s2) is prefix)))
    c.write_all.ensures.prefix

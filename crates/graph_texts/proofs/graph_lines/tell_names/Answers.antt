use Rattle.std.proofs.Common.{◌≤◌, List, [], ◌++◌, get_or, length, refl, subst, arith}
use Rattle.std.proofs.lemmas.List.{take_all}
use Rattle.std.proofs.lemmas.Slice.Zip.{length-zip}
use Rattle.std.specs.Prelude.{flat_map, zip}
use Rattle.alias_classes.specs.declared.TheConstants.{CLASS_WORDS}
use Rattle.class_set.specs.declared.ClassSet.{ClassSet}
use Rattle.df_io.specs.TextBuffer.{IsWrittenBut}
use Rattle.f77_tree.specs.declared.programs.NameInfo.{NameInfo}
use Rattle.graph_texts.specs.NameSets.{held_name}
use Rattle.graph_texts.proofs.LinesTold.{beside}
use Rattle.graph_texts.proofs.Telling.{item_told, fault_at_item}
use Rattle.graph_texts.proofs.Texts.{on_error}
use Rattle.graph_texts.proofs.graph_lines.tell_names.Goals as goal

pub returns-in_err-tell_name-clause-prefix : goal.returns-in_err-tell_name-clause-prefix
returns-in_err-tell_name-clause-prefix g c =
    let names = c.args.names.now in
    let sets = c.args.name_sets.now in
    let info = c.at.result.now in
    let none : ClassSet CLASS_WORDS = record { words = [] } in
    let pair : NameInfo × ClassSet CLASS_WORDS = (info, get_or sets c.loop-k.k none) in
    let at = beside names sets c.loop-k.k info none c.requires c.at.ensures.item in
    on_error c.from_residual.result
    (fault_at_item (held_name c.args.class) (zip names sets) c.loop-k.k pair c.args.buffer.now c.loop-k.buffer (held_name c.args.class pair)
    (g.K.Sink.got c.args.sink.now) (g.K.Sink.got c.loop-k.sink) (g.K.Sink.got c.tell_name.new.sink)
    at refl c.loop-k.invariant.written c.in_err-tell_name.ensures.prefix)

pub loop-k-preserved : goal.loop-k-preserved
loop-k-preserved g c =
    let names = c.args.names.now in
    let sets = c.args.name_sets.now in
    let info = c.at.result.now in
    let none : ClassSet CLASS_WORDS = record { words = [] } in
    let pair : NameInfo × ClassSet CLASS_WORDS = (info, get_or sets c.loop-k.k none) in
    let at = beside names sets c.loop-k.k info none c.requires c.at.ensures.item in
    record {
      written = item_told (held_name c.args.class) (zip names sets) c.loop-k.k pair c.args.buffer.now c.loop-k.buffer c.tell_name.new.buffer (held_name c.args.class pair)
          (g.K.Sink.got c.args.sink.now) (g.K.Sink.got c.loop-k.sink) (g.K.Sink.got c.tell_name.new.sink)
          at refl c.loop-k.invariant.written c.in_ok-tell_name.ensures.text;
      later = omega (arith, c.loop-k.invariant.later, c.tell_name.ensures.later);
    }

pub returns-clause-text : goal.returns-clause-text
returns-clause-text g c =
    let pairs = zip c.args.names.now c.args.name_sets.now in
    let total = length-zip c.args.names.now c.args.name_sets.now in
    let end : length pairs ≤ c.loop-k.k = omega (arith, total, c.loop-k-test.false, c.len-k-end.ensures) in
    subst (λ (told : List (NameInfo × ClassSet CLASS_WORDS)). IsWrittenBut c.loop-k.buffer (g.K.Sink.got c.args.sink.now) (g.K.Sink.got c.loop-k.sink) (c.args.buffer.now ++ flat_map (held_name c.args.class) told)) (take_all c.loop-k.k pairs end) c.loop-k.invariant.written

use Rattle.layout_rules.specs.Layout.{layout}
use Rattle.read_back.specs.SourceStatements.{statements_read}
use Rattle.read_back.specs.StorageRefusals.{IsOfStorage}
use Rattle.read_back.proofs.PrintedRefusals.{if_refused, refused_for_storage}
use Rattle.read_back.proofs.refusals.printed_programs_are_refused_for_storage_alone.Goals as goal

pub returns : goal.returns
returns c = λ q flat checked given. if_refused IsOfStorage (layout (statements_read q flat) checked) (refused_for_storage q flat given.text given.arrays checked)

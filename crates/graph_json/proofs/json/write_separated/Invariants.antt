use Rattle.std.proofs.Common.{◌≡◌, take}
use Rattle.graph_json.specs.Json.{separated}
use Rattle.view_output.specs.Told.{Adds, told}
use Rattle.graph_json.proofs.Rows.{words_at}
use Rattle.graph_json.proofs.json.write_separated.Given as goal

abbrev pub invariant-loop-value : goal.invariant-loop-value
invariant-loop-value g l = record {
  told : Adds (told g.K.Sink.got l.fn.output) (told g.K.Sink.got l.output) (separated l.first l.between g.T.Json.json_text (take l.value-index l.values));
  before : l.before ≡ words_at l.first l.between l.value-index;
}

use Rattle.net_board.proofs.net_laws.ground.Goals as goal

pub returns : goal.returns
returns c = record {
  strong = c.flow_graph_is_strong.ensures;
  shaped = c.flow_graph_has_shape.ensures;
  next_exists = c.next_edges.ensures.exists;
  are_classes = c.needs_are_numbered.ensures;
  values = c.reads_decide.ensures.values;
  reads = c.needs_cover_accesses.ensures.reads;
  decide = c.needs_are_a_frame.ensures.decide;
  keep = c.needs_are_a_frame.ensures.keep;
}

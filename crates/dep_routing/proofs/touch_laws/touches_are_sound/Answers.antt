use Rattle.dep_routing.specs.Leaving.{MarksTraps, MarksStays}
use Rattle.dep_routing.specs.Touches.{CanTrapAt, exec_at, exec_kind, piece_kind}
use Rattle.dep_routing.proofs.KnownRisks.{exec_known, known_needs}
use Rattle.dep_routing.proofs.touch_laws.touches_are_sound.Goals as goal

pub returns : goal.returns
returns c = λ p classes t touches is tree are.
    let traps : MarksTraps p touches = λ input n. c.traps_touch_output.ensures p classes touches input n is are in
    let marks : MarksStays p touches = c.quiet_regions_are_left.ensures.marks p classes touches are traps in
    record {
      classes = λ node n. c.touches_follow_needs.ensures.classes p classes touches node n are;
      must = λ node. c.touches_follow_needs.ensures.must p classes touches node are;
      may = λ node. c.touches_follow_needs.ensures.may p classes touches node are;
      known = λ node exists known_to. (are node 0 exists).1 (known_needs p classes node (CanTrapAt p (exec_at p node)) (exec_kind p node) (exec_known p.names (exec_kind p node)) (piece_kind p node) known_to);
      traps = traps;
      leaves = λ input n r. c.quiet_regions_are_left.ensures.leaves p t touches input n r is.execs tree marks;
    }

use Rattle.simplified_laws.proofs.OnePiece.{own-node}
use Rattle.simplified_laws.proofs.laws.own_pieces_stand_in_chains.Goals as goal

pub returns : goal.returns
returns c = λ p k exec reached. own-node p k exec reached.well.end reached.found (c.executables_have_own_pieces.ensures p.names p.execs p.loops k exec reached)

-- Flat statements make well-formed programs.
use Rattle.std.proofs.Common.{List, arith}
use Rattle.f77_tree.specs.declared.programs.NameInfo.{NameInfo}
use Rattle.f77_tree.specs.declared.programs.Program.{Program}
use Rattle.f77_tree.specs.WellFormed.{AreExecs, IsWellFormed}
use Rattle.flat_programs.specs.declared.statements.FlatLine.{FlatLine}
use Rattle.flat_programs.specs.Marks.{loop_count}
use Rattle.flat_programs.specs.Executables.{executables, program_of}
use Rattle.flat_programs.specs.FlatForm.{AreProper, HasFewStatements, IsFlat}
use Rattle.flat_programs.proofs.FlatSuccessors.{successors-exist}
use Rattle.flat_programs.proofs.FlatExecutables.{each-proper, ends-with-end, few-executables, few-targets}
use Rattle.flat_programs.proofs.FlatLoops.{are-loops}

pub are-execs : (names : List NameInfo) (flat : List FlatLine) → IsFlat flat → AreProper names flat → HasFewStatements flat → AreExecs names (executables flat) (loop_count flat)
are-execs names flat form proper few = record {
  end = ends-with-end flat form;
  successors = successors-exist flat form;
  each = each-proper names flat form proper;
  loops_nest = are-loops flat form;
  count = let size = few-executables flat in let most = few.statements in omega (arith, size, most);
  target_count = let same = few-targets flat in let most = few.choices in omega (arith, same, most);
}

pub program-well_formed : (q : Program) (flat : List FlatLine) → IsWellFormed q → IsFlat flat → AreProper q.names flat → HasFewStatements flat → IsWellFormed (program_of q flat)
program-well_formed q flat right form proper few = record {
  execs = are-execs q.names flat form proper few;
  declarations = right.declarations;
  word_count = right.word_count;
  initial_count = right.initial_count;
  places = right.places;
  initial = right.initial;
}

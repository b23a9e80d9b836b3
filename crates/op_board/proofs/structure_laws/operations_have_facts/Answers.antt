use Rattle.op_board.proofs.OperationPasses.{passes, traps, unchanged}
use Rattle.op_board.proofs.structure_laws.operations_have_facts.Goals as goal

pub returns : goal.returns
returns c = λ x is.
    let acts = c.pieces_run_executables.ensures.acts in
    let branches = c.pieces_run_executables.ensures.branches in
    let structure = c.pieces_have_operations.ensures in
    let lines = c.pieces_touch_needed_lines.ensures in
    record {
      lists = λ piece exists acting. structure.lists x piece is exists acting;
      decisions = λ piece i op exists at. structure.decisions x piece i op at;
      passes = λ piece m exists acting sizes words. passes x is acts branches piece m exists acting words;
      unchanged = λ piece at m new trap exists acting sizes words stops. unchanged x is acts branches piece at m new trap exists acting words stops;
      traps = λ piece at m new trap exists sizes words stops touched. traps x is (λ node there acting. structure.lists x node is there acting) piece at m new trap exists words stops touched;
      touched = λ piece i line exists inside needs. lines.touched x piece i line is exists inside needs;
      needed = λ piece line exists acting touched. lines.needed x piece line is exists acting touched;
      waits = λ piece i exists inside. lines.waits x piece i is exists inside;
      few = λ piece exists. structure.few x piece;
    }

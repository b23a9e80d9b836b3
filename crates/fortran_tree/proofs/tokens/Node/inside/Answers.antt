use Rattle.fortran_tree.proofs.Marks.{group_marks}
use Rattle.fortran_tree.proofs.tokens.Node.inside.Goals as goal

pub returns-in-Group-clause-inside : goal.returns-in-Group-clause-inside
returns-in-Group-clause-inside c =
    let group = c.in-Group in
    rw (group.is, c.as_slice.ensures.value) (group_marks group.inside group.field-1)

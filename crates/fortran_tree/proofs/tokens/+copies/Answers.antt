use Rattle.std.proofs.Common.{map, ap, sym, ◌∙◌}
use Rattle.fortran_tree.specs.Nodes.{marks}
use Rattle.fortran_tree.proofs.Marks.{marks_copied}
use Rattle.fortran_tree.proofs.tokens.+copies.Goals as goal

pub Node::copy-returns-in_ok-inside-in-Group : goal.Node::copy-returns-in_ok-inside-in-Group
Node::copy-returns-in_ok-inside-in-Group t c =
    let group = c.in-Group in
    let copied = c.in_ok-inside-in-Group in
    ap marks group.is ∙ marks_copied group.inside copied.inside group.place (ap (map marks) (sym c.as_slice.ensures.value) ∙ copied.ensures)

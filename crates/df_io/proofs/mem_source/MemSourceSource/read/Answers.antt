use Rattle.std.proofs.Common.{◌≡◌, ◌+◌, ◌<◌, ◌≤◌, ◌∙◌, ap, sym, length, rules, arith}
use Rattle.df_io.specs.MemSource.{SourceState}
use Rattle.df_io.proofs.MemLemmas.{read_taken, read_end, length-filled}
use Rattle.df_io.proofs.mem_source.MemSourceSource.read.Goals as goal

pub returns-clause-bytes : goal.returns-clause-bytes
returns-clause-bytes c =
    let bytes = c.self.inside.bytes.items in
    let into = c.args.into.now in
    let copied = c.copy_from_slice.new.self in
    let size : c.len.result ≡ length bytes = search rules in
    let at = c.self.inside.at in
    let placed : at ≤ length bytes = search rules in
    let count = c.min-n.ensures in
    let least = c.min.ensures in
    let within : at + c.min-n.result ≤ length bytes = omega arith in
    let first = read_taken bytes c.deref-2.result.now into copied at c.min-n.result c.deref-2.ensures.value c.copy_from_slice.ensures.after within in
    let some_piece : 0 < c.self.inside.piece = c.self.invariant.1 in
    let room = length-filled into copied c.min-n.result c.copy_from_slice.ensures.len in
    (ap (λ (s : SourceState). s.left) (sym c.self.view_is) ∙ first, λ none some. let end : length bytes ≤ at + c.min-n.result = omega arith in read_end bytes at c.min-n.result end)

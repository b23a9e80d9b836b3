use Rattle.std.proofs.Common.{◌≡◌, ◌+◌, ◌≤◌, ◌∙◌, sym, length, rules, arith}
use Rattle.df_io.proofs.MemLemmas.{read_taken, read_end, length-filled}
use Rattle.df_io.proofs.never_source.NeverSourceSource.read.Goals as goal

pub returns-clause-bytes : goal.returns-clause-bytes
returns-clause-bytes c =
    let bytes = c.self.inside.bytes.items in
    let into = c.args.into.now in
    let copied = c.copy_from_slice.new.self in
    let size : c.len.result ≡ length bytes = search rules in
    let at = c.self.inside.at in
    let placed : at ≤ length bytes = search rules in
    let least = c.min-n.ensures in
    let within : at + c.min-n.result ≤ length bytes = omega arith in
    let first = read_taken bytes c.deref.result.now into copied at c.min-n.result c.deref.ensures.value c.copy_from_slice.ensures.after within in
    let room = length-filled into copied c.min-n.result c.copy_from_slice.ensures.len in
    (sym c.self.view_is ∙ first, λ none some. let end : length bytes ≤ at + c.min-n.result = omega arith in read_end bytes at c.min-n.result end)

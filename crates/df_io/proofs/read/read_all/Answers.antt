use Rattle.std.proofs.Common.{rules, ◌+◌}
use Rattle.df_io.specs.Read.{TakesAtMost}
use Rattle.df_io.proofs.Transfers.{Takes-more, TakesAtMost-more}
use Rattle.df_io.proofs.read.read_all.Goals as goal

pub returns-then-n-room-clause-taken : goal.returns-then-n-room-clause-taken
returns-then-n-room-clause-taken g c =
    Takes-more _ _ _ c.loop-n.all.items c.read.new.into c.in-Ok.n (c.args.limit + 1) c.loop-n.invariant.taken c.in-Ok.ensures.bytes.0 (search rules) (search rules)

pub returns-in_err-extend_from_slice-clause-taken : goal.returns-in_err-extend_from_slice-clause-taken
returns-in_err-extend_from_slice-clause-taken g c =
    let taken : TakesAtMost (g.S.Source.left c.args.source.now) (g.S.Source.left c.read.new.self) c.args.limit =
    TakesAtMost-more _ _ _ c.loop-n.all.items c.read.new.into c.in-Ok.n c.args.limit c.loop-n.invariant.taken c.in-Ok.ensures.bytes.0 (search rules) (search rules)
    in search rules

use Rattle.std.proofs.Common.{refl, rules}
use Rattle.cfg_build.specs.Flow.{flow}
use Rattle.const_prop.proofs.table.Table.known_value.Goals as goal

pub known_value-requires : goal.known_value-requires
known_value-requires g c =
    let placed = (c.program_facts.ensures.program c.args.p.now (flow c.args.p.now.execs) c.requires.program refl).placed in
    (search rules, (search rules, (c.requires.program, (placed, (c.requires.classes, (search rules, (search rules, c.requires.expression)))))))

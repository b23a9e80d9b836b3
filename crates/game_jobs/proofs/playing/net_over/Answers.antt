use Rattle.std.proofs.Common.{refl, sym, ap, subst, ◌∙◌}
use Rattle.std.specs.Prelude.{All}
use Rattle.op_table.specs.Words.{IsWord}
use Rattle.cfg_build.specs.Flow.{flow}
use Rattle.dep_routing.specs.Touch.{touches_in}
use Rattle.net_board.specs.Nodes.{NetOf}
use Rattle.op_net.specs.NetView.{net_of}
use Rattle.program_nets.specs.Game.{IsNetOn}
use Rattle.program_nets.proofs.NetParts.{found_parts, found_ranges, net_on}
use Rattle.game_jobs.proofs.playing.net_over.Goals as goal

pub returns : goal.returns
returns c =
    let p = c.args.program.now in
    let input = c.args.input.now.items in
    let found = c.args.analysis.now in
    let touches = touches_in found.touch in
    let s = c.in_ok-net.net in
    let x = net_of s in
    let made = c.in_ok-net.ensures in
    let own : IsNetOn p input x =
    net_on p input touches found.lines x made.net
    (subst (λ (n : NetOf). All IsWord n.input) made.net made.is_net.is_net.input_words)
    (found_parts p found (flow p.execs) refl c.requires.program c.requires.analysis)
    (found_ranges p found c.requires.analysis)
    c.requires.analysis.rows made.is_net made.outside_pieces made.outside_operations in
    record {
      is_net = own;
      can = record {
        own = ap (λ (n : NetOf). n.program) made.net;
        sound = made.sound;
        in_step = made.in_step;
        control = λ lost. let e = sym made.place ∙ lost in absurd cc;
      };
      marking = made.marking;
      place = made.place;
    }

use Rattle.std.proofs.Common.{◌≡◌, [], refl, ap, ◌∙◌}
use Rattle.std.proofs.lemmas.List.Elements.{All-nil}
use Rattle.op_table.specs.Words.{IsWord}
use Rattle.cfg_build.specs.Flow.{flow}
use Rattle.dep_routing.specs.Touch.{touches_in}
use Rattle.f77_meaning.specs.Stepper.{program_of}
use Rattle.firing.specs.Play.{moment}
use Rattle.net_board.specs.NetParts.{net_with}
use Rattle.net_board.specs.Nodes.{NetOf}
use Rattle.op_board.specs.OperationCourse.{operation_course}
use Rattle.op_board.specs.OperationTokens.{operation_moves}
use Rattle.op_net.specs.NetView.{marking_of, net_of}
use Rattle.sample_jobs.specs.DueSamples.{IsSampleDue}
use Rattle.program_nets.specs.Game.{IsNetOn}
use Rattle.program_nets.specs.Playing.{way_by}
use Rattle.sample_jobs.specs.Samples.{AreBothOf, IsAfter, sizes_text}
use Rattle.job_terms.proofs.AnswersTold.{answers_more}
use Rattle.program_nets.proofs.NetParts.{found_parts, found_ranges, net_on}
use Rattle.sample_jobs.proofs.SamplesMade.{sample_due}
use Rattle.sample_jobs.proofs.sample.with_analysis.Goals as goal

pub tell_all-requires-clause-own : goal.tell_all-requires-clause-own
tell_all-requires-clause-own g c = ap (λ (n : NetOf). n.routing) c.in-Ok.ensures.net

pub returns-in-Ok-clause-due : goal.returns-in-Ok-clause-due
returns-in-Ok-clause-due g c =
    let p = c.args.program.now in
    let found = c.args.analysis.now in
    let touches = touches_in found.touch in
    let lines = found.lines in
    let x = net_of c.in-Ok.net in
    let made = c.in-Ok.ensures in
    let same : x.net ≡ net_with p [] touches lines = made.net ∙ ap (λ xs. net_with p xs touches lines) c.new-input.ensures.items in
    let own : IsNetOn p [] x =
    net_on p [] touches lines x same (All-nil IsWord)
    (found_parts p found (flow p.execs) refl c.requires.program c.requires.analysis)
    (found_ranges p found c.requires.analysis)
    c.requires.analysis.rows made.is_net made.outside_pieces made.outside_operations in
    let s = c.args.sample in
    let form = program_of c.args.run.now in
    answers_more
    (IsAfter (sizes_text s.number s.bytes found.flow found.edge_classes.items found.tree x) (AreBothOf (way_by (operation_moves x) (operation_course x) []) (moment (marking_of c.in-Ok.net) c.in-Ok.net.control) s.limit form))
    (IsSampleDue s.number s.bytes s.limit p) (g.K.Sink.got c.args.sink.now) (g.K.Sink.got c.tell_all.new.sink) c.tell_all.result
    (sample_due s.number s.bytes s.limit p found x (marking_of c.in-Ok.net) c.in-Ok.net.control form c.requires.analysis own made.marking made.place c.requires.rewritten)
    c.tell_all.ensures.due

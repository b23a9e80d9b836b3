use Rattle.std.proofs.Common.{◌≡◌, ℕ, List, Some, length, slice_get, slice_index, refl, ap, sym, ◌∙◌, arith}
use Rattle.std.proofs.lemmas.Option.{slice_get_read}
use Rattle.f77_tree.specs.declared.programs.Exec.{Exec}
use Rattle.cfg_build.specs.Flow.{flow}
use Rattle.f77_meaning.specs.Storage.{memory_of}
use Rattle.token_net.specs.PieceRuns.{told}
use Rattle.net_tables.specs.PartsView.{net_in}
use Rattle.token_net.proofs.RunLemmas.{has_room, may_choose, piece_told, act_told, chosen_told, trap_told}
use Rattle.token_net.proofs.pieces_run.run.Goals as goal

pub act-requires-clause-room : goal.act-requires-clause-room
act-requires-clause-room g c =
    let runs : slice_get c.args.plan.now.program.now.execs c.piece-piece.result.exec ≡ Some c.in-Some.exec.now = ap (λ (xs : List Exec). slice_get xs c.piece-piece.result.exec) (sym c.as_slice.ensures.items) ∙ slice_get_read c.as_slice.result.now (length c.as_slice.result.now) c.piece-piece.result.exec c.in-Some.exec.now refl c.in-Some.ensures.lookup.3.0 c.in-Some.ensures.lookup.1 in
    let enough = has_room c.args.plan.now.program.now.execs c.piece-piece.result.exec c.in-Some.exec.now runs in
    omega (arith, enough, c.requires.room)

pub choice-requires-clause-expressions : goal.choice-requires-clause-expressions
choice-requires-clause-expressions g c =
    let runs : slice_get c.args.plan.now.program.now.execs c.piece-piece.result.exec ≡ Some c.in-Some.exec.now = ap (λ (xs : List Exec). slice_get xs c.piece-piece.result.exec) (sym c.as_slice.ensures.items) ∙ slice_get_read c.as_slice.result.now (length c.as_slice.result.now) c.piece-piece.result.exec c.in-Some.exec.now refl c.in-Some.ensures.lookup.3.0 c.in-Some.ensures.lookup.1 in
    may_choose c.args.plan.now.program.now _ c.in-Some.exec.now.kind c.requires.sizes.counts (c.requires.can_run.executes c.piece-piece.result.exec c.in-Some.exec.now runs)

pub returns-in-Act-clause-pass : goal.returns-in-Act-clause-pass
returns-in-Act-clause-pass g c =
    let net = net_in c.args.plan.now in
    let runs : slice_get net.program.execs c.piece-piece.result.exec ≡ Some c.in-Some.exec.now = ap (λ (xs : List Exec). slice_get xs c.piece-piece.result.exec) (sym c.as_slice.ensures.items) ∙ slice_get_read c.as_slice.result.now (length c.as_slice.result.now) c.piece-piece.result.exec c.in-Some.exec.now refl c.in-Some.ensures.lookup.3.0 c.in-Some.ensures.lookup.1 in
    let stands = piece_told c.args.plan.now.flow.now (flow net.program.execs) c.args.piece c.piece-piece.result c.args.plan.now.own_flow c.piece-piece.ensures in
    act_told net c.args.piece c.piece-piece.result c.in-Some.exec.now (memory_of c.args.storage.now) stands runs c.out_at-in-Act.result (told c.act.result (memory_of c.act.new.storage) c.act.new.draft.items) c.in-Act.is
    (c.out_at-in-Act.ensures ∙ ap (λ (es : List ℕ). slice_index es 0) c.requires.outs) c.act.ensures.pass

pub returns-in-Ok-clause-pass : goal.returns-in-Ok-clause-pass
returns-in-Ok-clause-pass g c =
    let net = net_in c.args.plan.now in
    let runs : slice_get net.program.execs c.piece-piece.result.exec ≡ Some c.in-Some.exec.now = ap (λ (xs : List Exec). slice_get xs c.piece-piece.result.exec) (sym c.as_slice.ensures.items) ∙ slice_get_read c.as_slice.result.now (length c.as_slice.result.now) c.piece-piece.result.exec c.in-Some.exec.now refl c.in-Some.ensures.lookup.3.0 c.in-Some.ensures.lookup.1 in
    let stands = piece_told c.args.plan.now.flow.now (flow net.program.execs) c.args.piece c.piece-piece.result c.args.plan.now.own_flow c.piece-piece.ensures in
    chosen_told net c.args.piece c.piece-piece.result c.in-Some.exec.now (memory_of c.args.storage.now) stands runs c.in-Ok.i c.out_at-in-Ok.result c.in-Branch.is (sym c.in-Ok.ensures)
    (c.out_at-in-Ok.ensures ∙ ap (λ (es : List ℕ). slice_index es c.in-Ok.i) c.requires.outs)

pub returns-in-Err-clause-pass : goal.returns-in-Err-clause-pass
returns-in-Err-clause-pass g c =
    let net = net_in c.args.plan.now in
    let runs : slice_get net.program.execs c.piece-piece.result.exec ≡ Some c.in-Some.exec.now = ap (λ (xs : List Exec). slice_get xs c.piece-piece.result.exec) (sym c.as_slice.ensures.items) ∙ slice_get_read c.as_slice.result.now (length c.as_slice.result.now) c.piece-piece.result.exec c.in-Some.exec.now refl c.in-Some.ensures.lookup.3.0 c.in-Some.ensures.lookup.1 in
    let stands = piece_told c.args.plan.now.flow.now (flow net.program.execs) c.args.piece c.piece-piece.result c.args.plan.now.own_flow c.piece-piece.ensures in
    trap_told net c.args.piece c.piece-piece.result c.in-Some.exec.now (memory_of c.args.storage.now) stands runs c.in-Err.trap c.in-Branch.is (sym c.in-Err.ensures)

use Rattle.std.proofs.Common.{◌≡◌, ◌<◌, ◌+◌, ◌==◌, ℕ, true, length, refl, subst, sym, ◌∙◌, arith}
use Rattle.op_board.specs.OperationNets.{needed}
use Rattle.operation_tables.specs.BoardView.{operation_net_on}
use Rattle.operation_places.specs.PlacesView.{IsAheadBy, MakesUp, standing}
use Rattle.operation_tables.specs.Waits.{node_total, one_if, waits}
use Rattle.operation_places.proofs.CountedAhead.{ahead_after, less_marks, less_right, less_some}
use Rattle.operation_places.proofs.CountsKept.{keeps_more}
use Rattle.op_net.proofs.MadeUp.{ahead_left, ahead_less, makes_more}
use Rattle.operation_tables.proofs.NodeNames.{IsOperationAt, operation_at_node}
use Rattle.op_net.proofs.OperatedNets.{ahead_other}
use Rattle.op_net.proofs.PlacesKept.{dropped_kept, same_kept}
use Rattle.op_net.proofs.RowReads.{row_edge, row_edge_exists}
use Rattle.op_net.proofs.net_firing.stop.Goals as goal

pub drop_needed-requires : goal.drop_needed-requires
drop_needed-requires g c =
    let x = operation_net_on c.args.board.now in
    let n : IsOperationAt x c.args.k c.args.piece c.args.i = operation_at_node x c.args.k c.args.piece c.args.i c.requires.node c.requires.name in
    let lines = length (needed x c.args.piece c.args.i) in
    let ahead = subst (λ (j : ℕ). ∥ IsAheadBy x c.args.places.now j lines ∥₁) n.number (ahead_less x c.args.k c.args.places.now lines 1 (ahead_other x c.args.places.now c.args.k (1 + lines) (lines + 1) (omega arith) c.requires.ahead)) in
    (omega arith, (c.requires.piece, (c.requires.operation, (c.requires.places, (ahead, c.requires.stand)))))

pub wait_less-requires : goal.wait_less-requires
wait_less-requires g c =
    let x = operation_net_on c.args.board.now in
    let k = c.args.k in
    let n : IsOperationAt x k c.args.piece c.args.i = operation_at_node x k c.args.piece c.args.i c.requires.node c.requires.name in
    let lines = length (needed x c.args.piece c.args.i) in
    let s = c.args.places.now in
    let t = c.drop_needed.new.places in
    let dropped = subst (λ (j : ℕ). MakesUp x s t j lines) (sym n.number) c.drop_needed.ensures.counted in
    let ahead = ahead_left x k s t lines 1 (ahead_other x s k (1 + lines) (lines + 1) (omega arith) c.requires.ahead) dropped in
    let same : t.counted ≡ true → (j : ℕ) → j < node_total x → waits x (standing t) j + one_if (j == k) ≡ waits x (standing t) j + one_if (j == k) = λ asked j below. refl in
    record { some = less_some x t k (standing t) k same ahead; right = λ inside some free. less_right x t k (standing t) k same ahead inside free; marks = less_marks x t k (standing t) k same ahead }

pub returns-clause-standing : goal.returns-clause-standing
returns-clause-standing g c = c.wait_less.ensures.standing ∙ c.drop_needed.ensures.standing

pub returns-clause-counted : goal.returns-clause-counted
returns-clause-counted g c =
    let x = operation_net_on c.args.board.now in
    let k = c.args.k in
    let n : IsOperationAt x k c.args.piece c.args.i = operation_at_node x k c.args.piece c.args.i c.requires.node c.requires.name in
    let lines = length (needed x c.args.piece c.args.i) in
    let s = c.args.places.now in
    let t = c.drop_needed.new.places in
    let u = c.wait_less.new.self in
    let dropped = subst (λ (j : ℕ). MakesUp x s t j lines) (sym n.number) c.drop_needed.ensures.counted in
    let less : MakesUp x t u k 1 = ahead_after x t k (standing t) k (λ asked j below. refl) u c.wait_less.ensures.kept.counted c.wait_less.ensures.kept.apart c.wait_less.ensures.standing c.wait_less.ensures.none c.wait_less.ensures.counts c.wait_less.ensures.leads in
    subst (λ (a : ℕ). MakesUp x s u k a) (let e : lines + 1 ≡ 1 + lines = omega arith in e) (makes_more x k s t u lines 1 dropped less)

pub returns-clause-kept : goal.returns-clause-kept
returns-clause-kept g c = keeps_more c.args.places.now c.drop_needed.new.places c.wait_less.new.self c.drop_needed.ensures.kept c.wait_less.ensures.kept

pub returns-clause-places : goal.returns-clause-places
returns-clause-places g c =
    same_kept c.args.board.now c.drop_needed.new.places c.wait_less.new.self
    (dropped_kept c.args.board.now c.args.places.now c.drop_needed.new.places c.requires.places c.drop_needed.ensures.kept c.args.piece c.args.i c.drop_needed.ensures.standing)
    c.wait_less.ensures.kept c.wait_less.ensures.standing

pub returns-clause-edge : goal.returns-clause-edge
returns-clause-edge g c = row_edge (operation_net_on c.args.board.now) c.args.piece c.args.i c.args.row.now c.requires.row

pub returns-clause-exists : goal.returns-clause-exists
returns-clause-exists g c = row_edge_exists c.args.board.now c.args.piece c.args.i c.args.row.now c.requires.row

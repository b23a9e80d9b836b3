use Rattle.std.proofs.Common.{◌<◌, ◌∷◌, [], ℕ, Some, All, slice_set, zero, suc, ap, arith}
use Rattle.net_tables.proofs.TokenLineLemmas.{leads_stand}
use Rattle.operation_places.proofs.piece_lines.lead_one.Goals as goal

one_inside : (line bound : ℕ) → line < bound → All (λ (n : ℕ). n < bound) (line ∷ [])
one_inside line bound low zero d here = low
one_inside line bound low (suc k) d here = absurd (omega (arith, here))

pub returns-clause-stand : goal.returns-clause-stand
returns-clause-stand g c = λ stand.
    let plan = c.args.board.now.plan in
    let old = c.args.lines.now.items in
    leads_stand plan c.args.edge (c.args.line ∷ []) old (slice_set old c.args.line (Some c.next_wire.result)) (one_inside c.args.line plan.routes.now.lines c.requires.line) c.requires.edge
    (ap (λ (e : ℕ). slice_set old c.args.line (Some e)) c.next_wire.ensures) stand

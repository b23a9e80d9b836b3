use Rattle.std.proofs.Common.{◌≡◌, ◌+◌, ◌∙◌, ◌++◌, List, ℕ, ◌*◌, length, sym, ap, subst, arith}
use Rattle.std.specs.List.{slice_range}
use Rattle.shared_rows.specs.Blocks.{AreKept, rows}
use Rattle.shared_rows.specs.Table.{Table, row_at, with_row}
use Rattle.shared_rows.proofs.Standing.{few_rows, is_row}
use Rattle.shared_rows.proofs.Pushing.{copied_kept, copied_rows, copied_size, part, part_within}
use Rattle.shared_rows.proofs.rows.SharedRows.push_copy.Goals as goal

pub place-first-requires : goal.place-first-requires
place-first-requires c =
    let d = c.self.inside in
    let within = part_within d c.self.invariant c.args.row (is_row d c.args.self.now c.self.view_is c.args.row c.requires) in
    omega (arith, within, d.numbers.ok.0)

pub overflow_add-first : goal.overflow_add-first
overflow_add-first c =
    let d = c.self.inside in
    let within = part_within d c.self.invariant c.args.row (is_row d c.args.self.now c.self.view_is c.args.row c.requires) in
    let at = c.place-first.ensures in
    omega (arith, within, at, d.numbers.ok.0)

pub overflow_add-self : goal.overflow_add-self
overflow_add-self c =
    let d = c.self.inside in
    let row = is_row d c.args.self.now c.self.view_is c.args.row c.requires in
    let items : c.extend_from_within.new.self.items ≡ d.numbers.items ++ part d c.self.invariant c.args.row row = c.in_ok-extend_from_within.ensures.items ∙ ap (λ i. d.numbers.items ++ slice_range d.numbers.items i (i + d.blocks)) c.place-first.ensures in
    let size = few_rows d c.self.invariant (d.count + 1) c.extend_from_within.new.self.items (ap length items ∙ copied_size d c.self.invariant c.args.row row) in
    omega (arith, size, c.extend_from_within.new.self.ok.0)

pub extend_from_within-requires-clause-in_bounds : goal.extend_from_within-requires-clause-in_bounds
extend_from_within-requires-clause-in_bounds c =
    let row = is_row c.self.inside c.args.self.now c.self.view_is c.args.row c.requires in
    let within = part_within c.self.inside c.self.invariant c.args.row row in
    let at = c.place-first.ensures in
    omega (arith, within, at)

pub invariant_of-self-2 : goal.invariant_of-self-2
invariant_of-self-2 c =
    let d = c.self.inside in
    let row = is_row d c.args.self.now c.self.view_is c.args.row c.requires in
    let items : c.extend_from_within.new.self.items ≡ d.numbers.items ++ part d c.self.invariant c.args.row row = c.in_ok-extend_from_within.ensures.items ∙ ap (λ i. d.numbers.items ++ slice_range d.numbers.items i (i + d.blocks)) c.place-first.ensures in
    record {
      wide = c.self.invariant.wide;
      size = subst (λ (xs : List ℕ). length xs ≡ (d.count + 1) * d.blocks) (sym items) (copied_size d c.self.invariant c.args.row row);
      blocks = subst (λ n. AreKept d.pool.items c.extend_from_within.new.self.items n) (sym (c.len-self-inside.ensures ∙ d.pool.ok.0)) (subst (λ (xs : List ℕ). AreKept d.pool.items xs (length d.pool.items)) (sym items) (copied_kept d c.self.invariant c.args.row row));
    }

pub returns-clause-ok : goal.returns-clause-ok
returns-clause-ok c =
    let d = c.self.inside in
    let row = is_row d c.args.self.now c.self.view_is c.args.row c.requires in
    let items : c.extend_from_within.new.self.items ≡ d.numbers.items ++ part d c.self.invariant c.args.row row = c.in_ok-extend_from_within.ensures.items ∙ ap (λ i. d.numbers.items ++ slice_range d.numbers.items i (i + d.blocks)) c.place-first.ensures in
    ap (λ (xs : List (List ℕ)). record { width = d.width; rows = xs })
    (ap (λ (ns : List ℕ). rows d.pool.items ns d.blocks d.width (d.count + 1)) items ∙ copied_rows d c.self.invariant c.args.row row)
    ∙ ap (λ (t : Table). with_row t (row_at t c.args.row)) c.self.view_is

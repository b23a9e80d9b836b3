use Rattle.std.proofs.Common.{◌≡◌, ◌+◌, ◌∙◌, ◌++◌, List, ℕ, ◌*◌, length, replicate, sym, ap, subst, arith}
use Rattle.shared_rows.specs.Blocks.{AreKept, rows}
use Rattle.shared_rows.specs.Table.{Table, with_row}
use Rattle.shared_rows.proofs.Pushing.{filled, filled_kept, filled_rows, filled_size, filled_up}
use Rattle.shared_rows.proofs.Standing.{few_rows}
use Rattle.shared_rows.proofs.rows.SharedRows.push_filled.Goals as goal

pub overflow_add-self : goal.overflow_add-self
overflow_add-self c =
    let d = c.self.inside in
    let pushed = c.in_ok-block.ensures.ok in
    let items : c.resize.new.self.items ≡ d.numbers.items ++ filled d c.self.invariant c.args.number =
    filled_up d.numbers.items c.reserve.new.self.items c.resize.new.self.items c.len.result c.reserve.new.self.len d.blocks c.in_ok-block.block (length d.pool.items)
    c.in_ok-resize.ensures.items c.reserve.ensures.items c.len.ensures c.reserve.new.self.ok.0 pushed.0 in
    let size = few_rows d c.self.invariant (d.count + 1) c.resize.new.self.items (ap length items ∙ filled_size d c.self.invariant c.args.number) in
    omega (arith, size, c.resize.new.self.ok.0)

pub invariant_of-self-2 : goal.invariant_of-self-2
invariant_of-self-2 c =
    let d = c.self.inside in
    let pushed = c.in_ok-block.ensures.ok in
    let items : c.resize.new.self.items ≡ d.numbers.items ++ filled d c.self.invariant c.args.number =
    filled_up d.numbers.items c.reserve.new.self.items c.resize.new.self.items c.len.result c.reserve.new.self.len d.blocks c.in_ok-block.block (length d.pool.items)
    c.in_ok-resize.ensures.items c.reserve.ensures.items c.len.ensures c.reserve.new.self.ok.0 pushed.0 in
    let now : c.len-self-inside.result ≡ length c.push_block.new.pool.items = c.len-self-inside.ensures ∙ c.push_block.new.pool.ok.0 in
    record {
      wide = c.self.invariant.wide;
      size = subst (λ (xs : List ℕ). length xs ≡ (d.count + 1) * d.blocks) (sym items) (filled_size d c.self.invariant c.args.number);
      blocks = subst (λ (xs : List ℕ). AreKept c.push_block.new.pool.items xs c.len-self-inside.result) (sym items)
          (subst (λ (p : List (List ℕ)). AreKept p (d.numbers.items ++ filled d c.self.invariant c.args.number) c.len-self-inside.result) (sym pushed.1)
          (filled_kept d c.self.invariant c.args.number c.len-self-inside.result (now ∙ ap length pushed.1)));
    }

pub returns-clause-ok : goal.returns-clause-ok
returns-clause-ok c =
    let d = c.self.inside in
    let pushed = c.in_ok-block.ensures.ok in
    let items : c.resize.new.self.items ≡ d.numbers.items ++ filled d c.self.invariant c.args.number =
    filled_up d.numbers.items c.reserve.new.self.items c.resize.new.self.items c.len.result c.reserve.new.self.len d.blocks c.in_ok-block.block (length d.pool.items)
    c.in_ok-resize.ensures.items c.reserve.ensures.items c.len.ensures c.reserve.new.self.ok.0 pushed.0 in
    ap (λ (xs : List (List ℕ)). record { width = d.width; rows = xs })
    (ap (λ (ns : List ℕ). rows c.push_block.new.pool.items ns d.blocks d.width (d.count + 1)) items
    ∙ ap (λ (p : List (List ℕ)). rows p (d.numbers.items ++ filled d c.self.invariant c.args.number) d.blocks d.width (d.count + 1)) pushed.1
    ∙ filled_rows d c.self.invariant c.args.number)
    ∙ ap (λ (t : Table). with_row t (replicate t.width c.args.number)) c.self.view_is

use Rattle.std.proofs.Common.{◌≡◌, ◌≤◌, ◌<◌, ℕ, ◌+◌, ◌-◌, ◌++◌, List, length, drop, get_or, slice_get, Some, inl, inr, sym, ap, subst, ◌∙◌, arith}
use Rattle.f77_tree.specs.declared.statements.Labelled.{Labelled}
use Rattle.std.specs.Prelude.{OnOk}
use Rattle.std.proofs.lemmas.Option.{slice_get-get_or}
use Rattle.inlined_copies.specs.Changes.{change_by, changes_of}
use Rattle.inlined_copies.specs.PutCopies.{copies_of, pieces_of}
use Rattle.inlined_copies.proofs.PuttingSteps.{labels-split, put-next, put-end, put-nothing, put-deep}
use Rattle.inlined_copies.proofs.unit_table.CopyTables.+putting.Goals as goal

pub put_pieces-put_piece-requires : goal.put_pieces-put_piece-requires
put_pieces-put_piece-requires t c =
    let tables = c.args.self.now in
    let split = labels-split tables.units.us.now tables.units.counts.now c.args.k c.args.stmts.now c.loop-s.s-index c.s-item.result c.loop-s-test.true c.s-item.is in
    let labels = c.loop-s.invariant.labels in
    let room = c.requires in
    omega (arith, split, labels, room)

pub put_pieces-loop-s-preserved : goal.put_pieces-loop-s-preserved
put_pieces-loop-s-preserved t c =
    let tables = c.args.self.now in
    let us = tables.units.us.now in
    let counts = tables.units.counts.now in
    let k = c.args.k in
    let stmts = c.args.stmts.now in
    let i = c.loop-s.s-index in
    let s = c.s-item.result in
    let change = changes_of c.args.copy.now in
    let body = copies_of tables c.args.depth in
    let split = labels-split us counts k stmts i s c.loop-s-test.true c.s-item.is in
    let before = c.loop-s.invariant.labels in
    let here = c.labels-stood.ensures in
    record {
      labels = omega (arith, split, before, here);
      put = ap (λ (n : ℕ). c.put_piece.new.out.items ++ pieces_of tables c.args.depth k change n (drop (i + 1) stmts)) (ap (λ (n : ℕ). c.loop-s.stood + n) here)
          ∙ put-next us counts k stmts i s c.loop-s-test.true c.s-item.is body change c.loop-s.stood c.loop-s.out.items c.put_piece.new.out.items c.in_ok-put_piece.ensures
          ∙ c.loop-s.invariant.put;
    }

pub put_pieces-returns : goal.put_pieces-returns
put_pieces-returns t c =
    let tables = c.args.self.now in
    put-end tables.units.us.now tables.units.counts.now c.args.k (copies_of tables c.args.depth) (changes_of c.args.copy.now) c.loop-s.stood c.args.stmts.now c.loop-s.s-index c.loop-s.out.items
    (c.args.out.now.items ++ pieces_of tables c.args.depth c.args.k (changes_of c.args.copy.now) c.args.before c.args.stmts.now) c.loop-s-test.false c.loop-s.invariant.put

pub put_copy-returns-then-depth-eq0 : goal.put_copy-returns-then-depth-eq0
put_copy-returns-then-depth-eq0 t c =
    let tables = c.args.self.now in
    let e : c.args.depth ≡ 0 = omega arith in
    put-nothing tables.units.us.now tables.units.counts.now tables.tables.now c.args.k c.args.arguments.now c.args.base c.args.depth c.args.out.now.items (inl e)

pub put_copy-returns-then-k-self : goal.put_copy-returns-then-k-self
put_copy-returns-then-k-self t c =
    let tables = c.args.self.now in
    let past : length tables.tables.now ≤ c.args.k = c.if-k-self.true in
    put-nothing tables.units.us.now tables.units.counts.now tables.tables.now c.args.k c.args.arguments.now c.args.base c.args.depth c.args.out.now.items (inr past)

pub put_copy-returns : goal.put_copy-returns
put_copy-returns t c =
    let tables = c.args.self.now in
    let us = tables.units.us.now in
    let counts = tables.units.counts.now in
    let k = c.args.k in
    let table = get_or tables.tables.now k c.index-self-k.result in
    let names = c.args.arguments.now in
    let base = c.args.base in
    let stands : slice_get tables.tables.now k ≡ Some table = slice_get-get_or tables.tables.now k c.index-self-k.result c.if-k-self.false in
    let some : 0 < c.args.depth = omega (arith, c.if-depth-eq0.false) in
    let body : List Labelled → List Labelled = λ stmts. pieces_of tables (c.args.depth - 1) k (change_by table names base) base stmts in
    subst (λ (xs : List Labelled). OnOk c.put_pieces.result (c.put_pieces.new.out.items ≡ c.args.out.now.items ++ xs))
    (ap body c.at.ensures.statements ∙ sym (put-deep us counts tables.tables.now k names base c.args.depth table some stands))
    c.put_pieces.ensures

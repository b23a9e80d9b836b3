use Rattle.std.proofs.Common.{◌≡◌, ℕ, ◌+◌, ◌*◌, ◌<◌, ◌≤◌, [], List, length, get_or, sym, subst, ap, ◌∙◌, arith}
use Rattle.std.specs.Prelude.{◌↔◌, true, false, Some, slice_get, slice_set}
use Rattle.class_set.specs.declared.ClassSet.{ClassSet}
use Rattle.class_set.specs.ClassSet.{holds}
use Rattle.alias_classes.specs.Needs.{ExprNeeds}
use Rattle.closed_walks.specs.Graph.{Graph}
use Rattle.closed_walks.specs.Region.{IsFlowGraph}
use Rattle.f77_tree.specs.declared.expressions.Expr.{Expr}
use Rattle.redundancy.specs.Available.{IsOnAllWalks}
use Rattle.redundancy.specs.Fitting.{WritesAt}
use Rattle.redundancy.specs.Killing.{Meet}
use Rattle.redundancy.specs.Noted.{AreRows}
use Rattle.redundancy.specs.Solving.{bit, HasBit}
use Rattle.std.proofs.lemmas.List.{get_or_default}
use Rattle.redundancy.proofs.Rounds.{first_node}
use Rattle.redundancy.proofs.Orders.{candidates_distinct}
use Rattle.redundancy.proofs.Solutions.{AreSolved, solved_more, solved_none, all_solved, get-part, kept_rows, row_told}
use Rattle.redundancy.proofs.avail.available.Goals as goal

-- what was read of a row that is still the first one
row_read : (old rows : List (List ℕ)) (k : ℕ) (row slice : List ℕ) → k < length rows → get_or rows k [] ≡ get_or old k [] → row ≡ get_or rows k row → slice ≡ row → slice ≡ get_or old k []
row_read old rows k row slice within kept read is = is ∙ read ∙ sym (get_or_default rows k [] row within) ∙ kept

pub candidates_of-requires-clause-some : goal.candidates_of-requires-clause-some
candidates_of-requires-clause-some g c =
    let strong : IsFlowGraph c.args.f.now.graph = subst (λ x. IsFlowGraph x.graph) (sym c.requires.flow) (c.flow_graph_is_strong.ensures c.args.p.now.names c.args.p.now.execs c.args.p.now.loops c.requires.program.execs) in
    let some = first_node c.args.f.now.graph strong in
    omega (arith, some, c.pieces-pieces.ensures.count, c.pieces-pieces.ensures.nodes)

pub missing_row-requires-clause-flow : goal.missing_row-requires-clause-flow
missing_row-requires-clause-flow g c =
    let strong : IsFlowGraph c.args.f.now.graph = subst (λ x. IsFlowGraph x.graph) (sym c.requires.flow) (c.flow_graph_is_strong.ensures c.args.p.now.names c.args.p.now.execs c.args.p.now.loops c.requires.program.execs) in
    subst (λ (x : Graph). IsFlowGraph x) (sym c.graph.ensures) strong

pub missing_row-requires-clause-computes : goal.missing_row-requires-clause-computes
missing_row-requires-clause-computes g c =
    let old = c.in_ok-table.field-0.rows.items in
    let rows = c.loop-k.rows.items in
    let k = c.loop-k.k in
    let within : k < length old = omega (arith, c.loop-k-test.true, c.len-k-end.ensures) in
    let inside : k < length rows = omega (arith, within, c.loop-k.invariant.count) in
    let row = row_read old rows k c.index.result.now c.as_slice-in-loop-k.result.now inside (c.loop-k.invariant.rest k (omega arith)) c.index.ensures c.as_slice-in-loop-k.ensures in
    ap length row ∙ c.in_ok-table.ensures.rows.each k within ∙ sym c.pieces-pieces.ensures.count ∙ c.pieces-pieces.ensures.nodes ∙ ap (λ (x : Graph). x.nodes) (sym c.graph.ensures)

pub missing_row-requires-clause-kills : goal.missing_row-requires-clause-kills
missing_row-requires-clause-kills g c =
    ap length c.as_slice-in-loop-k-2.ensures.value ∙ c.in_ok-kills.ensures.count ∙ ap length c.as_slice.ensures.value ∙ c.in_ok-writes.ensures.pieces ∙ sym c.pieces-pieces.ensures.count ∙ c.pieces-pieces.ensures.nodes ∙ ap (λ (x : Graph). x.nodes) (sym c.graph.ensures)

pub loop-k-init : goal.loop-k-init
loop-k-init g c = solved_none c.args.p.now c.args.f.now c.args.c.now c.in_ok-table.field-0.table.exprs.items c.args.f.now.graph.nodes c.in_ok-table.field-0.rows.items

pub loop-k-preserved : goal.loop-k-preserved
loop-k-preserved g c =
    let p = c.args.p.now in
    let f = c.args.f.now in
    let graph = f.graph in
    let old = c.in_ok-table.field-0.rows.items in
    let rows = c.loop-k.rows.items in
    let k = c.loop-k.k in
    let candidates = c.in_ok-table.field-0.table.exprs.items in
    let part = c.part.result.now in
    let needs = c.deref.result.now in
    let writes = c.as_slice.result.now in
    let strong : IsFlowGraph graph = subst (λ x. IsFlowGraph x.graph) (sym c.requires.flow) (c.flow_graph_is_strong.ensures p.names p.execs p.loops c.requires.program.execs) in
    let pieces : length f.pieces ≡ graph.nodes = sym c.pieces-pieces.ensures.count ∙ c.pieces-pieces.ensures.nodes in
    let within : k < length old = omega (arith, c.loop-k-test.true, c.len-k-end.ensures) in
    let inside : k < length rows = omega (arith, within, c.loop-k.invariant.count) in
    let computes = row_read old rows k c.index.result.now c.as_slice-in-loop-k.result.now inside (c.loop-k.invariant.rest k (omega arith)) c.index.ensures c.as_slice-in-loop-k.ensures in
    let kills = c.as_slice-in-loop-k-2.result.now in
    let value = c.as_slice-in-loop-k-2.ensures.value in
    let row = c.in_ok-row.row.items in
    let killed : (x b : ℕ) (d : ClassSet g.row.W) → x < length writes → b < length needs → HasBit kills b x ↔ Meet (get_or needs b d) (get_or writes x d) = λ x b d less few. (
      λ has. (c.in_ok-kills.ensures.bits x b d less few).0 (subst (λ (z : List ℕ). HasBit z b x) value has),
      λ m. subst (λ (z : List ℕ). HasBit z b x) (sym value) ((c.in_ok-kills.ensures.bits x b d less few).1 m),
    ) in
    let written = c.as_slice.ensures.value in
    let count : length writes ≡ length f.pieces = ap length written ∙ c.in_ok-writes.ensures.pieces in
    let write : (x n : ℕ) (d : ClassSet g.row.W) → x < length f.pieces → (holds (get_or writes x d) n ≡ true) ↔ WritesAt c.args.c.now p.execs f.pieces x n = λ x n d less. (
      λ h. (c.in_ok-writes.ensures.writes x n d less).0 (subst (λ (z : List (ClassSet g.row.W)). holds (get_or z x d) n ≡ true) written h),
      λ w. subst (λ (z : List (ClassSet g.row.W)). holds (get_or z x d) n ≡ true) (sym written) ((c.in_ok-writes.ensures.writes x n d less).1 w),
    ) in
    let needed = c.deref.ensures.value in
    let need : (j n : ℕ) (e : Expr) (d : ClassSet g.row.W) → slice_get part j ≡ Some e → (holds (get_or needs j d) n ≡ true) ↔ ExprNeeds c.args.c.now e n = λ j n e d is. (
      λ h. (c.in_ok-needs.ensures.needs j n e d is).0 (subst (λ (z : List (ClassSet g.row.W)). holds (get_or z j d) n ≡ true) needed h),
      λ w. subst (λ (z : List (ClassSet g.row.W)). holds (get_or z j d) n ≡ true) (sym needed) ((c.in_ok-needs.ensures.needs j n e d is).1 w),
    ) in
    let item : (j : ℕ) → j < 64 → slice_get part j ≡ slice_get candidates (64 * k + j) = λ j few. ap (λ (z : List Expr). slice_get z j) c.part.ensures.part ∙ get-part candidates (64 * k) 64 j few in
    let solved : (node b : ℕ) → node < graph.nodes → b < 64 → (bit row b node ≡ false) ↔ IsOnAllWalks graph (HasBit c.as_slice-in-loop-k.result.now b) (HasBit kills b) node =
    subst (λ (x : Graph). (node b : ℕ) → node < x.nodes → b < 64 → (bit row b node ≡ false) ↔ IsOnAllWalks x (HasBit c.as_slice-in-loop-k.result.now b) (HasBit kills b) node) c.graph.ensures c.in_ok-row.ensures.missing in
    let told = row_told p f c.args.c.now candidates part old needs writes k c.as_slice-in-loop-k.result.now kills row strong.sound pieces
    c.in_ok-table.ensures.computed computes killed item (ap length needed ∙ c.in_ok-needs.ensures.count) need count write solved in
    solved_more p f c.args.c.now candidates graph.nodes k old rows (slice_set rows k c.of.result) row c.loop-k.invariant inside (c.in_ok-row.ensures.nodes ∙ ap (λ (x : Graph). x.nodes) c.graph.ensures) told (ap (slice_set rows k) c.of.ensures)

pub invariant_of-result : goal.invariant_of-result
invariant_of-result g c =
    let f = c.args.f.now in
    let candidates = c.in_ok-table.field-0.table.exprs.items in
    let rows = c.in_ok-table.field-0.rows.items in
    let done : c.loop-k.k ≡ length rows = omega (arith, c.loop-k-test.false, c.loop-k.auto.k-end, c.len-k-end.ensures) in
    let nodes : f.graph.nodes ≡ c.pieces-pieces.result = sym c.pieces-pieces.ensures.nodes in
    record {
      rows = kept_rows (record { candidates = candidates; pieces = c.pieces-pieces.result; missing = c.loop-k.rows.items }) rows c.loop-k.k c.args.p.now f c.args.c.now
          (subst (λ n. AreRows n (length candidates) rows) (sym c.pieces-pieces.ensures.count) c.in_ok-table.ensures.rows) done
          (subst (λ n. AreSolved c.args.p.now f c.args.c.now candidates n c.loop-k.k rows c.loop-k.rows.items) nodes c.loop-k.invariant);
      numbers = c.in_ok-table.ensures.table;
      distinct = candidates_distinct c.args.p.now f candidates c.in_ok-table.ensures.candidates;
    }

pub returns : goal.returns
returns g c =
    let f = c.args.f.now in
    let rows = c.in_ok-table.field-0.rows.items in
    let done : length rows ≤ c.loop-k.k = omega (arith, c.loop-k-test.false, c.len-k-end.ensures) in
    all_solved c.args.p.now f c.args.c.now (record { candidates = c.in_ok-table.field-0.table.exprs.items; pieces = c.pieces-pieces.result; missing = c.loop-k.rows.items }) (length rows) c.loop-k.k c.pieces-pieces.ensures.nodes done c.in_ok-table.ensures.rows.covers c.in_ok-table.ensures.candidates rows c.loop-k.invariant

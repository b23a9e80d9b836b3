use Rattle.std.proofs.Common.{◌≡◌, ◌<◌, ℕ, Some, None, length, set, get_or, slice_index_or, sym, ap, ◌∙◌, subst, arith, rules, if◌then◌else◌}
use Rattle.std.proofs.lemmas.List.{get_or-set_same, get_or-set_other, get_or_read, length-set}
use Rattle.operation_tables.specs.declared.hops.Hop.{Hop}
use Rattle.operation_tables.specs.ScratchLines.{first_at, linked}
use Rattle.operation_tables.proofs.HopFronts.{front_end}
use Rattle.operation_tables.proofs.HopLinks.{firsts_more, line_of, lines_apart, next_hop, next_linked}
use Rattle.operation_tables.proofs.hops.link_hops.Goals as goal

pub index-requires-in-loop-j : goal.index-requires-in-loop-j
index-requires-in-loop-j c =
    let old = c.args.hops.now.items in
    let is = next_hop c.args.scratch.now old c.loop-j.hops.items c.loop-j.j c.loop-j.invariant.hops c.index.result.now c.index.ensures in
    let low : line_of (get_or old c.loop-j.j c.index.result.now) < length c.args.scratch.now.first.items = c.requires.exist c.loop-j.j c.index.result.now (search rules) in
    let own : c.index.result.now.line < length c.args.scratch.now.first.items = subst (λ (h : Hop). h.line < length c.args.scratch.now.first.items) (sym is) low in
    let same = c.loop-j.invariant.all in
    let size = c.loop-j.scratch.first.ok.0 in
    omega (arith, own, same, size)

pub index_mut-requires-in-loop-j : goal.index_mut-requires-in-loop-j
index_mut-requires-in-loop-j c =
    let old = c.args.hops.now.items in
    let is = next_hop c.args.scratch.now old c.loop-j.hops.items c.loop-j.j c.loop-j.invariant.hops c.index.result.now c.index.ensures in
    let low : line_of (get_or old c.loop-j.j c.index.result.now) < length c.args.scratch.now.first.items = c.requires.exist c.loop-j.j c.index.result.now (search rules) in
    let own : c.index.result.now.line < length c.args.scratch.now.first.items = subst (λ (h : Hop). h.line < length c.args.scratch.now.first.items) (sym is) low in
    let same = c.loop-j.invariant.all in
    let size = c.loop-j.scratch.first.ok.0 in
    omega (arith, own, same, size)

pub loop-j-preserved : goal.loop-j-preserved
loop-j-preserved c =
    let s = c.args.scratch.now in
    let old = c.args.hops.now.items in
    let hops = c.loop-j.hops.items in
    let j = c.loop-j.j in
    let inv = c.loop-j.invariant in
    let firsts = c.loop-j.scratch.first.items in
    let hop = c.index.result.now in
    let low : j < length old = search rules in
    let is : hop ≡ get_or old j hop = next_hop s old hops j inv.hops hop c.index.ensures in
    let line_is : hop.line ≡ line_of (get_or old j hop) = ap line_of is in
    let exists : line_of (get_or old j hop) < length s.first.items = c.requires.exist j hop low in
    let inside : hop.line < length firsts = let all = inv.all in omega (arith, line_is, exists, all) in
    let other = c.index_mut.result.now in
    let other_is : other ≡ get_or old j other = next_hop s old hops j inv.hops other c.index_mut.ensures.value in
    let same_line : hop.line ≡ other.line = ap line_of (get_or_read old j hop low is other ∙ sym other_is) in
    let mid : c.index-in-loop-j.result.now ≡ first_at c.loop-j.scratch hop.line = get_or_read firsts hop.line c.index-in-loop-j.result.now inside c.index-in-loop-j.ensures None in
    let next : c.index-in-loop-j.result.now ≡ first_at s other.line =
    mid ∙ inv.first hop.line
    ∙ ap (λ b. if b then Some c.args.i else first_at s hop.line) (ap (λ (n : ℕ). Rattle.std.specs.List.list_any (λ (h : Hop). Rattle.std.specs.Bool.◌==◌ h.line n) (Rattle.std.proofs.Common.take j old)) line_is ∙ lines_apart old j hop low c.requires.rising)
    ∙ ap (first_at s) same_line in
    record {
      hops = next_linked s old hops j inv.hops other c.index-in-loop-j.result.now low c.index_mut.ensures.value next;
      first = firsts_more old j hop low (Some c.args.i) (first_at s) (first_at c.loop-j.scratch) (λ line. slice_index_or (set firsts hop.line (Some c.args.i)) line None) inv.first
          (ap (λ n. slice_index_or (set firsts hop.line (Some c.args.i)) n None) (sym line_is) ∙ get_or-set_same firsts hop.line (Some c.args.i) None inside)
          (λ line apart. get_or-set_other firsts hop.line line (Some c.args.i) None (λ same. apart (same ∙ line_is)));
      all = length-set firsts hop.line (Some c.args.i) ∙ inv.all;
      before = inv.before;
    }

pub returns-clause-hops : goal.returns-clause-hops
returns-clause-hops c = c.loop-j.invariant.hops ∙ front_end (linked c.args.scratch.now) c.loop-j.j c.args.hops.now.items (search rules)

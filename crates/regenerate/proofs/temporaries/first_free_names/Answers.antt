use Rattle.std.proofs.Common.{◌≡◌, ◌+◌, ◌-◌, ◌<◌, false, length, take, ap, sym, ◌∙◌, arith}
use Rattle.std.proofs.lemmas.List.{get_or_read, take_all}
use Rattle.shared_forms.specs.Temporaries.{free_up_to, last_number, temporary_name}
use Rattle.shared_forms.proofs.TemporaryLemmas.{few-more, free-first, free_more, last_number-is}
use Rattle.regenerate.proofs.temporaries.first_free_names.Goals as goal

pub used_numbers-requires : goal.used_numbers-requires
used_numbers-requires c = omega (arith, c.requires, last_number-is)

pub loop-k-preserved : goal.loop-k-preserved
loop-k-preserved c =
    let k = c.loop-k.k in
    let used = c.in_ok-used.used.items in
    let is_used = c.index-is_used.result.now in
    let less : k + 1 < c.args.last + 1 = omega (arith, c.loop-k-test.true) in
    let read = get_or_read used (k + 1) is_used (omega (arith, c.in_ok-used.ensures.size, less)) c.index-is_used.ensures false in
    let more = few-more is_used c.loop-k.free.items c.append_free.new.free.items (temporary_name (k + 1)) c.in_ok-append_free.ensures in
    record {
      free = free_more c.args.names.now k c.loop-k.free.items c.append_free.new.free.items is_used (read ∙ c.in_ok-used.ensures.entry (k + 1) less) c.loop-k.invariant.free c.in_ok-append_free.ensures;
      few = omega (arith, more, c.loop-k.invariant.few, c.len.ensures, c.if-len-count.false);
    }

pub returns-then-len-count : goal.returns-then-len-count
returns-then-len-count c =
    let k = c.loop-k.k in
    let e : k + (last_number - k) ≡ last_number = omega (arith, c.loop-k-test.true, c.requires) in
    let first = free-first c.args.names.now c.loop-k.free.items k (last_number - k) c.args.count c.loop-k.invariant.free (omega (arith, c.len.ensures, c.if-len-count.true)) in
    first ∙ ap (λ n. take c.args.count (free_up_to c.args.names.now n)) e

pub returns : goal.returns
returns c =
    let end : c.loop-k.k ≡ last_number = omega (arith, c.requires) in
    let all = c.loop-k.invariant.free ∙ ap (free_up_to c.args.names.now) end in
    let size = ap length all in
    all ∙ sym (take_all c.args.count (free_up_to c.args.names.now last_number) (omega (arith, size, c.loop-k.invariant.few)))

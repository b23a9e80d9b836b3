use Rattle.std.proofs.Common.{◌≡◌, ◌-◌, length, filter, ap, ◌∙◌, arith}
use Rattle.std.specs.List.{range_with_len}
use Rattle.std.proofs.lemmas.List.{length-map}
use Rattle.program_units.specs.Names.{y_text}
use Rattle.program_units.specs.NewNames.{is_free_of}
use Rattle.entity_names.proofs.FreeTexts.{free-more, more-by-one}
use Rattle.entity_names.proofs.y_names.free_names.Goals as goal

pub loop-n-preserved : goal.loop-n-preserved
loop-n-preserved c =
    let some = c.loop-n.invariant.some in
    let few = c.loop-n.invariant.few in
    let more = more-by-one c.loop-n.names.items c.push_free.new.names.items (is_free_of c.args.used.now c.loop-n.n) c.loop-n.n c.in_ok-push_free.ensures in
    record {
      some = omega (arith, some);
      top = omega arith;
      few = omega (arith, few, more);
      free = free-more c.args.used.now c.loop-n.n c.loop-n.names.items c.push_free.new.names.items some c.loop-n.invariant.free c.in_ok-push_free.ensures;
    }

pub returns-then-len-count : goal.returns-then-len-count
returns-then-len-count c =
    let top = c.loop-n.invariant.top in
    record {
      tried = c.loop-n.n - 1;
      few = omega (arith, top);
      free = c.loop-n.invariant.free;
      as_many = omega arith;
    }

pub returns : goal.returns
returns c =
    let names = c.loop-n.names.items in
    let n = c.loop-n.n in
    let some = c.loop-n.invariant.some in
    let top = c.loop-n.invariant.top in
    let few = c.loop-n.invariant.few in
    let last : n - 1 ≡ 99999 = omega (arith, top) in
    let found = ap length c.loop-n.invariant.free ∙ length-map (filter (is_free_of c.args.used.now) (range_with_len 1 (n - 1))) y_text ∙ ap (λ m. length (filter (is_free_of c.args.used.now) (range_with_len 1 m))) last in
    let enough = c.requires in
    record {
      tried = n - 1;
      few = omega (arith, top);
      free = c.loop-n.invariant.free;
      as_many = omega (arith, few, found, enough);
    }

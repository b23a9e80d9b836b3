use Rattle.std.proofs.Common.{◌≡◌, pos, ◌≤◌, length, ap, ◌∙◌, arith}
use Rattle.f77_tree.specs.Value.{dims_of}
use Rattle.f77_tree.specs.Declarations.{member_index}
use Rattle.layout_rules.specs.Storage.{equated, distance_of}
use Rattle.storage_association.proofs.Coming.{told-equation, difference-is}
use Rattle.storage_association.proofs.equations.equate.Goals as goal

pub returns : goal.returns
returns c = record {
  links = λ firsts all held.
      let names = c.args.names.now in
      let first = c.args.first.now in
      let other = c.args.other.now in
      let m = distance_of (dims_of names (member_index names first)) first.subs in
      let n = distance_of (dims_of names (member_index names other)) other.subs in
      let is_m : c.distance_of.result ≡ m = c.distance_of.ensures.value ∙ ap (λ dims. distance_of dims c.as_slice.result.now) (c.dims.ensures ∙ ap (dims_of names) c.index-a.ensures) ∙ ap (distance_of (dims_of names (member_index names first))) c.as_slice.ensures.items in
      let is_n : c.distance_of-2.result ≡ n = c.distance_of-2.ensures.value ∙ ap (λ dims. distance_of dims c.as_slice-2.result.now) (c.dims-2.ensures ∙ ap (dims_of names) c.index-b.ensures) ∙ ap (distance_of (dims_of names (member_index names other))) c.as_slice-2.ensures.items in
      let is_p : c.from-distance_a.result ≡ pos m = c.from-distance_a.ensures ∙ ap pos is_m in
      let is_q : c.from-distance_b.result ≡ pos n = c.from-distance_b.ensures ∙ ap pos is_n in
      let few_m : m ≤ 262145 = omega (arith, is_m, c.distance_of.ensures.within) in
      let few_n : n ≤ 262145 = omega (arith, is_n, c.distance_of-2.ensures.within) in
      told-equation (length names) firsts all c.join.new.self c.index-a.result c.index-b.result _ (equated names first other) (c.join.ensures (length names) firsts all held) c.index-a.ensures c.index-b.ensures (difference-is c.from-distance_a.result c.from-distance_b.result m n is_p is_q few_m few_n);
}

use Rattle.std.proofs.Common.{◌≡◌, ℕ, Bool, filter, length, ap, subst, ◌∙◌, arith}
use Rattle.std.specs.List.{range_with_len}
use Rattle.program_units.specs.Names.{used_names, y_entities}
use Rattle.program_units.specs.NewNames.{AreFree, is_free_of}
use Rattle.entity_names.proofs.FewPlaces.{passing-few}
use Rattle.entity_names.proofs.FreeTexts.{free-names}
use Rattle.entity_names.proofs.GreatNames.{enough-small, same-free}
use Rattle.entity_names.proofs.new_names.NewNames.of.Goals as goal

pub free_names-requires : goal.free_names-requires
free_names-requires c =
    let text = c.args.text.now in
    let us = text.us.now in
    let many : c.len.result ≡ length (y_entities us) = c.len.ensures ∙ ap length text.all_own in
    let few = enough-small (used_names us) c.requires.named.short (length (y_entities us)) c.requires.small in
    let same : is_free_of c.in_ok-used.used ≡ is_free_of (used_names us) = ap is_free_of c.in_ok-used.ensures ∙ same-free (used_names us) in
    let all = ap (λ (test : ℕ → Bool). length (filter test (range_with_len 1 99999))) same in
    omega (arith, many, few, all)

pub invariant_of-result : goal.invariant_of-result
invariant_of-result c =
    let text = c.args.text.now in
    let us = text.us.now in
    let many : c.len.result ≡ length (y_entities us) = c.len.ensures ∙ ap length text.all_own in
    let few = enough-small (used_names us) c.requires.named.short (length (y_entities us)) c.requires.small in
    let own = c.in_ok-names.ensures.as_many in
    let most = passing-few (is_free_of (used_names us)) 1 99999 in
    record {
      as_many = c.in_ok-names.ensures.as_many ∙ many;
      few = omega (arith, own, many, few, most);
      named = c.requires.named;
      all_named = free-names us c.in_ok-used.used c.in_ok-names.names.items c.in_ok-used.ensures (subst (λ (n : ℕ). AreFree c.in_ok-used.used n c.in_ok-names.names.items) many c.in_ok-names.ensures);
    }

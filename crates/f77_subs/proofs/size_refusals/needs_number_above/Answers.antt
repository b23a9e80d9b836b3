use Rattle.std.proofs.Common.{◌≡◌, ℕ, List, length, nat_lt, take, ap, ◌∙◌}
use Rattle.std.specs.List.{list_any}
use Rattle.program_units.specs.declared.entity.Entity.{Entity}
use Rattle.program_units.specs.Names.{free_numbers, used_names, y_entities}
use Rattle.f77_subs.proofs.size_refusals.needs_number_above.Goals as goal

pub returns : goal.returns
returns c =
    let us = c.args.text.now.us.now in
    let most = c.args.most in
    let count : c.len.result ≡ length (y_entities us) = c.len.ensures ∙ ap (λ (es : List Entity). length es) c.args.text.now.all_own in
    c.in_ok-above.ensures (used_names us) c.in_ok-used.ensures c.requires.short ∙ ap (λ (n : ℕ). list_any (nat_lt most) (take n (free_numbers us n))) count

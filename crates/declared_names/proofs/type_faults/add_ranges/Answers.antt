use Rattle.std.proofs.Common.{rules, ◌≡◌, ℕ, ◌+◌, ◌==◌, ◌++◌, List, true, false, get_or, drop, sym, ap, ◌∙◌}
use Rattle.std.specs.Prelude.{flat_map}
use Rattle.f77_tree.specs.declared.declarations.Kind.TheVariants.{Integer}
use Rattle.f77_tree.specs.declared.declarations.LetterRange.{LetterRange}
use Rattle.layout_rules.specs.Faults.{has_repeat}
use Rattle.layout_rules.proofs.FirstLine.{item-is}
use Rattle.layout_rules.proofs.FlatParts.{flat_map_left}
use Rattle.layout_rules.specs.TypeFaults.{letters_of_range}
use Rattle.declared_names.proofs.Repeats.{repeats_within, repeats_after, more_of_them}
use Rattle.declared_names.proofs.type_faults.add_ranges.Goals as goal

abbrev no_range : LetterRange
no_range = record { kind = Integer; from = 0; to = 0 }

pub returns-then-branch-clause-again : goal.returns-then-branch-clause-again
returns-then-branch-clause-again c =
    let ranges = c.args.ranges.now in
    let i = c.loop-range.range-index in
    let letters = letters_of_range (get_or ranges i no_range) in
    let seen = c.loop-range.implied.keys in
    let there : has_repeat (λ x b. x == b) seen letters ≡ true = search rules in
    sym (c.loop-range.invariant.again ∙ repeats_within (λ x b. x == b) seen (flat_map letters_of_range (drop i ranges)) letters (flat_map letters_of_range (drop (i + 1) ranges)) (flat_map_left letters_of_range ranges i (get_or ranges i no_range) c.loop-range-test.true (item-is ranges i no_range c.loop-range-test.true)) there)

pub loop-range-preserved : goal.loop-range-preserved
loop-range-preserved c =
    let ranges = c.args.ranges.now in
    let i = c.loop-range.range-index in
    let letters = letters_of_range (get_or ranges i no_range) in
    let seen = c.loop-range.implied.keys in
    let rest = flat_map letters_of_range (drop (i + 1) ranges) in
    let absent : has_repeat (λ x b. x == b) seen letters ≡ false = search rules in
    let keys : c.add_letters.new.implied.keys ≡ seen ++ letters = search rules in
    let next = flat_map_left letters_of_range ranges i (get_or ranges i no_range) c.loop-range-test.true (item-is ranges i no_range c.loop-range-test.true) in
    record {
      again = c.loop-range.invariant.again ∙ repeats_after (λ x b. x == b) seen (flat_map letters_of_range (drop i ranges)) letters rest next absent ∙ ap (λ (ks : List ℕ). has_repeat (λ x b. x == b) ks rest) (sym keys);
      more = ap (λ (ks : List ℕ). ks ++ rest) keys ∙ more_of_them (λ x b. x == b) seen (flat_map letters_of_range (drop i ranges)) letters rest next ∙ c.loop-range.invariant.more;
    }

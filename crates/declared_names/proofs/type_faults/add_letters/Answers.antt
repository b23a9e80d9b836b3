use Rattle.std.proofs.Common.{rules, ◌≡◌, ℕ, ◌-◌, ◌+◌, ◌==◌, ◌∷◌, ◌++◌, [], List, true, false, refl, sym, ap, ◌∙◌}
use Rattle.std.specs.List.{list_any, range_with_len}
use Rattle.std.proofs.lemmas.Bool.{or_left, or_from}
use Rattle.layout_rules.specs.Faults.{has_repeat}
use Rattle.declared_names.proofs.Repeats.{repeats_within, repeats_after, more_of_them, range_next}
use Rattle.declared_names.proofs.type_faults.add_letters.Goals as goal

pub returns-then-not-branch-clause-again : goal.returns-then-not-branch-clause-again
returns-then-not-branch-clause-again c =
    let a = c.loop-letter.letter in
    let end = c.from-end.result + 1 in
    let seen = c.loop-letter.implied.keys in
    let there : list_any (λ b. a == b) seen ≡ true = search rules in
    sym (c.loop-letter.invariant.again ∙ repeats_within (λ x b. x == b) seen (range_with_len a (end - a)) (a ∷ []) (range_with_len (a + 1) (end - (a + 1))) (range_next a end c.loop-letter-test.true) (or_left (list_any (λ b. a == b) seen) false there))

pub loop-letter-preserved : goal.loop-letter-preserved
loop-letter-preserved c =
    let a = c.loop-letter.letter in
    let end = c.from-end.result + 1 in
    let seen = c.loop-letter.implied.keys in
    let rest = range_with_len (a + 1) (end - (a + 1)) in
    let absent : list_any (λ b. a == b) seen ≡ false = search rules in
    let keys : c.insert.new.self.keys ≡ seen ++ a ∷ [] = search rules in
    let next = range_next a end c.loop-letter-test.true in
    record {
      again = c.loop-letter.invariant.again ∙ repeats_after (λ x b. x == b) seen (range_with_len a (end - a)) (a ∷ []) rest next (or_from (list_any (λ b. a == b) seen) false absent refl) ∙ ap (λ (ks : List ℕ). has_repeat (λ x b. x == b) ks rest) (sym keys);
      more = ap (λ (ks : List ℕ). ks ++ rest) keys ∙ more_of_them (λ x b. x == b) seen (range_with_len a (end - a)) (a ∷ []) rest next ∙ c.loop-letter.invariant.more;
    }

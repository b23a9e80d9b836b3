use Rattle.closed_walks.specs.Region.{IsInside}
use Rattle.std.proofs.Common.{◌≡◌, ◌↔◌, ℕ, subst, sym}
use Rattle.region_tree.specs.Tree.{IsNumbered, exit_of}
use Rattle.region_tree.proofs.laws.passed_nodes_are_regions.Goals as goal

pub returns : goal.returns
returns c = λ g t node a b flow s p away.
    let f = c.region_facts.ensures g flow in
    let there : IsNumbered t a b = s.regions.complete a b (f.passed_region node a b p away) in
    record {
      number = there.number;
      exists = there.exists;
      entry = there.entry;
      exit = there.exit;
      holds = λ n.
          subst (λ (x : ℕ). IsInside g x (exit_of t there.number) n ↔ (n ≡ node)) (sym there.entry)
          (subst (λ (y : ℕ). IsInside g a y n ↔ (n ≡ node)) (sym there.exit) (f.passed_inside node a b n p));
    }

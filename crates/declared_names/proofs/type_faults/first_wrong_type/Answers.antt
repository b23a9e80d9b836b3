use Rattle.std.proofs.Common.{rules, ◌≡◌, ◌||◌, true, false, not, take, sym, ap, ◌∙◌}
use Rattle.std.proofs.lemmas.Bool.{or_right, or_from}
use Rattle.layout_rules.specs.Types.{is_well_kinded}
use Rattle.layout_rules.specs.TypeFaults.{has_wrong_type}
use Rattle.declared_names.specs.KindsGiven.{gives_again, GivesMore}
use Rattle.layout_rules.proofs.FirstLine.{first_after-here, first_after-next}
use Rattle.declared_names.proofs.KindsGiven.{given-fault, given-next}
use Rattle.declared_names.proofs.type_faults.first_wrong_type.Goals as goal
use Rattle.declared_names.proofs.type_faults.first_wrong_type.Goals.{then-branch-via-then-branch, then-branch-via-else-branch+then-not-is_well_kinded}

pub returns-then-branch : goal.returns-then-branch
returns-then-branch c =
    let names = c.args.names.now in
    let stmts = c.args.stmts.now in
    let i = c.loop-s.s-index in
    let s = c.s-item.result in
    let given = c.loop-s.given in
    let fault : (gives_again given s.stmt || not (is_well_kinded names s.stmt)) ≡ true = elim c.then-branch.branch [
      | then-branch-via-then-branch w ↦ let again : gives_again given s.stmt ≡ true = search rules in ap (λ b. b || not (is_well_kinded names s.stmt)) again
      | then-branch-via-else-branch+then-not-is_well_kinded w ↦
          let good : is_well_kinded names s.stmt ≡ false = search rules in
          or_right (gives_again given s.stmt) (not (is_well_kinded names s.stmt)) (ap not good)
    ] in
    sym (c.loop-s.invariant.first ∙ first_after-here (has_wrong_type names) stmts i s c.loop-s-test.true c.s-item.is (given-fault names (take i stmts) given s c.loop-s.invariant.given ∙ fault))

pub loop-s-preserved : goal.loop-s-preserved
loop-s-preserved c =
    let names = c.args.names.now in
    let stmts = c.args.stmts.now in
    let i = c.loop-s.s-index in
    let s = c.s-item.result in
    let given = c.loop-s.given in
    let again : gives_again given s.stmt ≡ false = search rules in
    let good : is_well_kinded names s.stmt ≡ true = search rules in
    let more : GivesMore given s.stmt c.add.new.self = search rules in
    let none = given-fault names (take i stmts) given s c.loop-s.invariant.given ∙ or_from (gives_again given s.stmt) (not (is_well_kinded names s.stmt)) again (ap not good) in
    record {
      first = c.loop-s.invariant.first ∙ first_after-next (has_wrong_type names) stmts i s c.loop-s-test.true c.s-item.is none;
      given = given-next stmts i s given c.add.new.self c.loop-s-test.true c.s-item.is c.loop-s.invariant.given more;
    }

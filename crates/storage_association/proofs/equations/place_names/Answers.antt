use Rattle.std.proofs.Common.{◌≡◌, ℕ, ◌+◌, ◌++◌, true, false, List, length, refl, sym, ap, subst, ◌∙◌, arith}
use Rattle.std.specs.Prelude.{flat_map}
use Rattle.f77_tree.specs.declared.declarations.Member.{Member}
use Rattle.f77_tree.specs.declared.statements.Labelled.{Labelled}
use Rattle.f77_tree.specs.Places.{Equation}
use Rattle.layout_rules.specs.Declarations.{all_commons, groups_of}
use Rattle.layout_rules.specs.Storage.{standings, group_equations}
use Rattle.storage_association.specs.Storages.{AreStorages}
use Rattle.layout_rules.specs.Standings.{AreGroupsKnown, firsts_of}
use Rattle.storage_association.specs.CommonStorages.{StayRight, equations_to}
use Rattle.storage_association.proofs.Placings.{equations-start, equations-next, equations-all, right-next, stands-here}
use Rattle.storage_association.proofs.WrongPlaces.{first-wrong, none-wrong}
use Rattle.storage_association.proofs.equations.place_names.Goals as goal
use Rattle.storage_association.proofs.equations.place_names.Goals.{else-is_equivalence-via-then-is_equivalence+else-not-are_right, else-is_equivalence-via-else-is_equivalence}

pub loop-s-init : goal.loop-s-init
loop-s-init c =
    let names = c.args.names.now in
    let stmts = c.args.stmts.now in
    record {
      held = subst (λ (es : List Equation). AreStorages (length names) (firsts_of (standings names (all_commons stmts))) es c.in_ok-storages.storages) (sym (equations-start names stmts)) c.in_ok-storages.ensures;
      right = λ j s lt stands equates. absurd (omega (arith, lt));
    }

pub equate_groups-requires : goal.equate_groups-requires
equate_groups-requires c =
    let names = c.args.names.now in
    let held = c.loop-s.invariant.held in
    let known : AreGroupsKnown names (groups_of c.s-item.result.stmt) = subst (λ (s : Labelled). AreGroupsKnown names (groups_of s.stmt)) (sym c.s-item.is) (c.requires c.loop-s.s-index c.s-item.result c.loop-s-test.true).1 in
    record {
      some = record { count = _; firsts = _; all = _; held = held };
      names = held.parts;
      known = subst (λ (gs : List (List Member)). AreGroupsKnown names gs) (sym c.groups_of.ensures) known;
    }

pub loop-s-preserved : goal.loop-s-preserved
loop-s-preserved c =
    let names = c.args.names.now in
    let stmts = c.args.stmts.now in
    let i = c.loop-s.s-index in
    let s = c.s-item.result in
    let firsts = firsts_of (standings names (all_commons stmts)) in
    let came = c.equate_groups.ensures.links firsts (equations_to names stmts i) c.loop-s.invariant.held in
    let next : equations_to names stmts i ++ flat_map (group_equations names) c.groups_of.result.now ≡ equations_to names stmts (i + 1) = ap (λ (gs : List (List Member)). equations_to names stmts i ++ flat_map (group_equations names) gs) c.groups_of.ensures ∙ equations-next names stmts i s c.loop-s-test.true c.s-item.is in
    let held : AreStorages (length names) firsts (equations_to names stmts (i + 1)) c.equate_groups.new.storages = subst (λ (es : List Equation). AreStorages (length names) firsts es c.equate_groups.new.storages) next came in
    record {
      held = held;
      right = right-next names stmts i s c.loop-s-test.true c.s-item.is c.loop-s.invariant.right
          (λ equates. elim c.else-is_equivalence.branch [
            | else-is_equivalence-via-then-is_equivalence+else-not-are_right w ↦ (w.are_right.ensures (length names) firsts (equations_to names stmts (i + 1)) held).0 w.if-not-are_right.false
            | else-is_equivalence-via-else-is_equivalence w ↦ let impossible : true ≡ false = sym equates ∙ sym c.is_equivalence.ensures ∙ w.if-is_equivalence.false in absurd cc
          ]);
    }

pub returns : goal.returns
returns c =
    let names = c.args.names.now in
    let stmts = c.args.stmts.now in
    let all = equations-all names stmts c.loop-s.s-index c.loop-s-test.false in
    let done : c.loop-s.s-index ≡ length stmts = omega arith in
    record {
      storages = subst (λ (es : List Equation). AreStorages (length names) (firsts_of (standings names (all_commons stmts))) es c.loop-s.storages) all c.loop-s.invariant.held;
      none = none-wrong names stmts (subst (λ (n : ℕ). StayRight names stmts n) done c.loop-s.invariant.right);
    }

pub returns-then-not-are_right : goal.returns-then-not-are_right
returns-then-not-are_right c =
    let names = c.args.names.now in
    let stmts = c.args.stmts.now in
    let i = c.loop-s.s-index in
    let s = c.s-item.result in
    let firsts = firsts_of (standings names (all_commons stmts)) in
    let came = c.equate_groups.ensures.links firsts (equations_to names stmts i) c.loop-s.invariant.held in
    let next : equations_to names stmts i ++ flat_map (group_equations names) c.groups_of.result.now ≡ equations_to names stmts (i + 1) = ap (λ (gs : List (List Member)). equations_to names stmts i ++ flat_map (group_equations names) gs) c.groups_of.ensures ∙ equations-next names stmts i s c.loop-s-test.true c.s-item.is in
    let held : AreStorages (length names) firsts (equations_to names stmts (i + 1)) c.equate_groups.new.storages = subst (λ (es : List Equation). AreStorages (length names) firsts es c.equate_groups.new.storages) next came in
    first-wrong names stmts s.line (record {
      place = i;
      statement = s;
      stands = stands-here stmts i s c.loop-s-test.true c.s-item.is;
      equates = sym c.is_equivalence.ensures ∙ c.if-is_equivalence.true;
      line_is = refl;
      wrong = λ right. let impossible : true ≡ false = sym ((c.are_right.ensures (length names) firsts (equations_to names stmts (i + 1)) held).1 right) ∙ c.if-not-are_right.true in absurd cc;
      above = c.loop-s.invariant.right;
    })

use Rattle.std.proofs.Common.{rules, ◌≡◌, ◌≢◌, ℕ, ◌+◌, ◌-◌, ◌<◌, true, false, Some, length, get_or, set, refl, sym, ap, subst, ◌∙◌, arith, ⊎_elim, length-set, get_or-set_same, get_or-set_other}
use Rattle.std.specs.Prelude.{slice_get, slice_index}
use Rattle.std.proofs.lemmas.Bool.{cases_eq}
use Rattle.std.proofs.lemmas.List.{get_or_read}
use Rattle.std.proofs.lemmas.Option.{slice_get_read}
use Rattle.layout_rules.specs.Labels.{is_arm, is_executable}
use Rattle.layout_rules.specs.Jumps.{end_of_block}
use Rattle.layout_rules.specs.Executables.{met}
use Rattle.control_structure.proofs.Meeting.{met-arm, met-own, met-passed, end_of_block-within}
use Rattle.executable_lists.proofs.flow.met_executables.Goals as goal
use Rattle.executable_lists.proofs.flow.met_executables.Goals.{then-is_arm, else-is_arm+then-is_executable, else-is_arm+else-is_executable}

pub bounds-first-end_of_block : goal.bounds-first-end_of_block
bounds-first-end_of_block c =
    let stmts = c.args.stmts.now in
    let k = c.loop-place.place - 1 in
    let inside : k < length stmts = omega arith in
    omega (arith, c.end_of_block.ensures.end, end_of_block-within stmts k inside, c.requires.first.size)

pub loop-place-preserved : goal.loop-place-preserved
loop-place-preserved c =
    let stmts = c.args.stmts.now in
    let old = c.loop-place.met.items in
    let k = c.loop-place.place - 1 in
    let s = c.index-stmts-place.result in
    let inside : k < length stmts = omega arith in
    let at : slice_get stmts k ≡ Some s = slice_get_read stmts (length stmts) k s refl inside c.index-stmts-place.is in
    let v = c.if-is_arm.executable in
    let v_is : v ≡ met stmts k =
    elim c.if-is_arm.branch [
      | then-is_arm w ↦
          let arm : is_arm s.stmt ≡ true = search rules in
          let end : w.end_of_block.result ≡ end_of_block stmts k = w.end_of_block.ensures.end in
          let e : v ≡ slice_index c.args.first.now w.end_of_block.result = w.executable-is in
          let there : end_of_block stmts k < length stmts + 1 = omega (arith, end_of_block-within stmts k inside) in
          e ∙ ap (λ (i : ℕ). slice_index c.args.first.now i) end ∙ c.requires.first.entry (end_of_block stmts k) there ∙ sym (met-arm stmts k s at arm)
      | else-is_arm+then-is_executable w ↦
          let arm : is_arm s.stmt ≡ false = search rules in
          let own : is_executable s.stmt ≡ true = search rules in
          let e : v ≡ slice_index c.args.first.now k = w.executable-is in
          e ∙ c.requires.first.entry k (omega arith) ∙ sym (met-own stmts k s at arm own)
      | else-is_arm+else-is_executable w ↦
          let arm : is_arm s.stmt ≡ false = search rules in
          let own : is_executable s.stmt ≡ false = search rules in
          let there : k + 1 < length old = omega (arith, c.loop-place.invariant.size) in
          let e : v ≡ w.index.result.now = w.executable-is in
          e ∙ get_or_read old (k + 1) w.index.result.now there w.index.ensures 0 ∙ c.loop-place.invariant.entry (k + 1) (omega arith) (omega arith) ∙ sym (met-passed stmts k s at arm own)
    ]
    in
    record {
      size = length-set old k v ∙ c.loop-place.invariant.size;
      entry = λ j above below. ⊎_elim
          (λ (e : j ≡ k). subst (λ (i : ℕ). get_or (set old k v) i 0 ≡ met stmts i) (sym e) (get_or-set_same old k v 0 (omega (arith, c.loop-place.invariant.size)) ∙ v_is))
          (λ (ne : j ≢ k). get_or-set_other old k j v 0 ne ∙ c.loop-place.invariant.entry j (omega arith) below)
          (cases_eq j k);
    }

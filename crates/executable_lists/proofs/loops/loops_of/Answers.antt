use Rattle.std.proofs.Common.{rules, ◌≡◌, ℕ, ◌+◌, ◌==◌, ◌∷◌, ◌++◌, [], List, Some, length, cond, arith, refl, sym, ◌∙◌, ap, subst}
use Rattle.std.specs.Prelude.{slice_get}
use Rattle.std.proofs.lemmas.Option.{slice_get_read}
use Rattle.executable_lists.specs.Listed.{listed}
use Rattle.layout_rules.specs.Tables.{IsTable, AreLoops, rank}
use Rattle.executable_lists.proofs.Tables.{IsTable-push}
use Rattle.control_structure.proofs.LoopTables.{AreLoops-enter, AreLoops-pass, rank-enter, rank-pass, loops_above-few}
use Rattle.executable_lists.proofs.loops.loops_of.Goals as goal
use Rattle.executable_lists.proofs.loops.loops_of.Goals.{in-Do+in_ok-rank, in_default}

pub enter-requires : goal.enter-requires
enter-requires c =
    let stmts = c.args.stmts.now in
    let place = c.loop-place.place in
    let are = c.loop-place.invariant.by_label c.in-Do.label in
    omega (arith, ap (λ (xs : List ℕ). length xs) are, loops_above-few stmts c.in-Do.label place)

pub loop-place-preserved : goal.loop-place-preserved
loop-place-preserved c =
    let stmts = c.args.stmts.now in
    let place = c.loop-place.place in
    let s = c.index-stmts-place.result in
    let are = c.loop-place.invariant.by_label in
    let at : slice_get stmts place ≡ Some s = slice_get_read stmts (length stmts) place s refl c.loop-place-test.true c.index-stmts-place.is in
    let ranks_are : c.push.new.self.items ≡ c.loop-place.ranks.items ++ c.match-s.rank ∷ [] = search rules in
    elim c.match-s.branch [
      | in-Do+in_ok-rank w ↦
          let terminal = w.in-Do.label in
          let entered : (label : ℕ) → listed c.match-s.by_label label ≡ listed c.loop-place.by_label label ++ cond (terminal == label) (place ∷ []) [] = λ label. ap (λ (lists : List (ℕ × List ℕ)). listed lists label) w.by_label-is ∙ w.in_ok-rank.ensures.lists label in
          let found : c.match-s.rank ≡ length (listed c.loop-place.by_label terminal) = w.rank-is ∙ w.in_ok-rank.ensures.rank in
          record {
            by_label = AreLoops-enter stmts place s at terminal _ _ _ _ w.in-Do.is (listed c.loop-place.by_label) (listed c.match-s.by_label) entered are;
            ranks = subst (λ (t : List ℕ). IsTable (rank stmts) (place + 1) t) (sym ranks_are) (IsTable-push (rank stmts) place c.match-s.rank c.loop-place.ranks.items c.loop-place.invariant.ranks (found ∙ ap (λ (xs : List ℕ). length xs) (are terminal) ∙ sym (rank-enter stmts place s at terminal _ _ _ _ w.in-Do.is)));
          }
      | in_default w ↦
          record {
            by_label = subst (λ (lists : List (ℕ × List ℕ)). AreLoops stmts (place + 1) (listed lists)) (sym w.by_label-is) (AreLoops-pass stmts place s at (listed c.loop-place.by_label) w.in_default.not-Do are);
            ranks = subst (λ (t : List ℕ). IsTable (rank stmts) (place + 1) t) (sym ranks_are) (IsTable-push (rank stmts) place c.match-s.rank c.loop-place.ranks.items c.loop-place.invariant.ranks (w.rank-is ∙ sym (rank-pass stmts place s at w.in_default.not-Do)));
          }
    ]

use Rattle.std.proofs.Common.{rules, ◌≡◌, ◌+◌, sym, ap, ◌∙◌, arith, Some}
use Rattle.std.specs.Prelude.{slice_get}
use Rattle.flat_programs.specs.Marks.{mark_at, is_end}
use Rattle.flat_programs.specs.Executables.{first_of, width_by}
use Rattle.flat_programs.proofs.FlowLemmas.{first_of-next, width_by-most}
use Rattle.flat_programs.proofs.flow.first_executables.Goals as goal

pub loop-place-preserved : goal.loop-place-preserved
loop-place-preserved c =
    let flat = c.args.flat.now in
    let place = c.loop-place.place in
    let l = c.at.result.now in
    let at : slice_get flat place ≡ Some l = c.at.ensures.item in
    let w : c.width-index.result ≡ width_by (is_end flat (mark_at flat place)) l.stmt = c.width-index.ensures ∙ ap (λ b. width_by b l.stmt) c.ends_there-is_end.ensures in
    let kept = c.loop-place.invariant in
    record {
      first = search rules;
      index = ap (λ n. n + c.width-index.result) kept.index ∙ ap (λ n. first_of flat place + n) w ∙ sym (first_of-next flat place l at);
      few = let most = width_by-most (is_end flat (mark_at flat place)) l.stmt in omega (arith, kept.few, w, most);
    }

use Rattle.std.proofs.Common.{rules, ◌≡◌, ℕ, ◌+◌, ◌++◌, ◌∷◌, [], List, map, sym, ap, ◌∙◌, arith}
use Rattle.std.specs.List.{range_with_len}
use Rattle.list_laws.proofs.Counts.{bit}
use Rattle.flat_programs.specs.Recovered.{is_mark_at}
use Rattle.flat_programs.proofs.MarkLemmas.{bit-most}
use Rattle.flat_programs.proofs.RecoveredLemmas.{passed, passed-more, values-more}
use Rattle.flat_programs.proofs.recovery.mark_counts.Goals as goal

pub loop-k-preserved : goal.loop-k-preserved
loop-k-preserved c =
    let k = c.loop-k.k in
    let p = is_mark_at c.args.execs.now in
    let one : c.from-count.result ≡ bit (p k) = search rules in
    let most = bit-most (p k) in
    let more = passed-more p k in
    let kept = c.loop-k.invariant in
    let count : c.loop-k.count + c.from-count.result ≡ passed p (k + 1) = omega (arith, one, more, kept.count) in
    let pushed : c.push.new.self.items ≡ c.loop-k.counts.items ++ (c.loop-k.count + c.from-count.result) ∷ [] = search rules in
    record {
      counts = pushed ∙ ap (λ (ns : List ℕ). ns ++ (c.loop-k.count + c.from-count.result) ∷ []) kept.counts ∙ ap (λ n. map (λ k. passed p (k + 1)) (range_with_len 0 k) ++ n ∷ []) count ∙ sym (values-more (λ k. passed p (k + 1)) k);
      count = count;
      few = omega (arith, one, most, kept.few);
    }

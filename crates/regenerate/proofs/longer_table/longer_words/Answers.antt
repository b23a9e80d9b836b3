use Rattle.std.proofs.Common.{◌∷◌, [], ◌++◌, ℤ, List, pos, replicate, ap, ◌∙◌, append_assoc}
use Rattle.std.proofs.lemmas.List.{replicate_more}
use Rattle.regenerate.proofs.longer_table.longer_words.Goals as goal

pub loop-k-preserved : goal.loop-k-preserved
loop-k-preserved c =
    let words = c.args.words.now in
    let k = c.loop-k.k in
    record {
      all = c.in_ok-push.ensures.ok
          ∙ ap (λ (xs : List ℤ). xs ++ pos 0 ∷ []) c.loop-k.invariant.all
          ∙ append_assoc words (replicate k (pos 0)) (pos 0 ∷ [])
          ∙ ap (λ (xs : List ℤ). words ++ xs) (replicate_more k (pos 0));
    }

-- Texts that are appended one after another.
use Rattle.std.proofs.Common.{◌≡◌, ℕ, suc, ◌+◌, List, [], ◌++◌, sym, ap, ◌∙◌, arith, append_assoc}
use Rattle.sample_texts.specs.SampleText.{block_lines, blocks_to}

-- what is appended first stands before what is appended to it
pub before : (old first new a rest : List ℕ) → first ≡ old ++ a → new ≡ first ++ rest → new ≡ old ++ (a ++ rest)
before old first new a rest is more = more ∙ ap (λ t. t ++ rest) is ∙ append_assoc old a rest

-- one block more
pub block_next : (begun old new : List ℕ) (block : ℕ) → old ≡ begun ++ blocks_to block → new ≡ old ++ block_lines (block + 1) → new ≡ begun ++ blocks_to (block + 1)
block_next begun old new block is more =
    let next : block + 1 ≡ suc block = omega arith in
    before begun old new (blocks_to block) (block_lines (block + 1)) is more
    ∙ ap (λ k. begun ++ (blocks_to block ++ block_lines k)) next
    ∙ ap (λ k. begun ++ blocks_to k) (sym next)

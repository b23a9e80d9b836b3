use Rattle.std.proofs.Common.{ℕ, ◌+◌, ◌*◌, ◌<◌, ◌∙◌, Fits, w64, get_or, subst, sym, arith, rules}
use Rattle.firing.specs.BlockCounts.{before, ones_of}
use Rattle.firing.proofs.CountLemmas.{block_few, starts, starts_first, found}
use Rattle.firing.proofs.WordLemmas.{length_ones, length_seen, word_counts_of}
use Rattle.firing.proofs.ready_set.ReadySet.word.Goals as goal

pub scan_words-requires-clause-some : goal.scan_words-requires-clause-some
scan_words-requires-clause-some c = grind (arith, word_counts_of, length_ones, starts_first 64)

pub returns-then-self-le-LOW : goal.returns-then-self-le-LOW
returns-then-self-le-LOW c =
    let s = c.self.inside in
    let words = c.as_slice-words.result.now in
    let set = c.args.self.now in
    let small : (b : ℕ) → Fits w64 (get_or words b 0) = search rules in
    let are = word_counts_of words s.words.items s.room set c.as_slice-words.ensures.value c.self.view_is c.self.invariant.0 (λ b. let h = small b in omega (arith, h)) in
    let did = c.scan_words.ensures in
    found 64 (ones_of words) set are c.args.place c.requires c.scan_words.result.0 c.scan_words.result.1 (subst (λ n. c.scan_words.result.0 < n) (sym (length_ones words)) did.within) (omega (arith, did.same)) did.short

pub low_block-b-requires-clause-many : goal.low_block-b-requires-clause-many
low_block-b-requires-clause-many c = grind (arith, length_seen)

pub overflow_mul-b : goal.overflow_mul-b
overflow_mul-b c =
    grind (arith, block_few c.args.self.now 1024 c.args.place c.low_block-b.result.0 c.low_block-b.result.1 c.requires c.low_block-b.ensures, length_seen)

pub scan_words-requires-2-clause-inside : goal.scan_words-requires-2-clause-inside
scan_words-requires-2-clause-inside c =
    let s = c.self.inside in
    let words = c.as_slice-words.result.now in
    let set = c.args.self.now in
    let are = word_counts_of words s.words.items s.room set c.as_slice-words.ensures.value c.self.view_is c.self.invariant.0 (λ b. let h = c.type_inv.words b in omega (arith, h)) in
    let start = starts 64 (ones_of words) set are c.args.place c.requires 16 c.low_block-b.result.0 c.low_block-b.result.1 c.low_block-b.ensures in
    let inside = start.inside in
    let many = length_ones words in
    omega (arith, inside, many)

pub scan_words-requires-2-clause-some : goal.scan_words-requires-2-clause-some
scan_words-requires-2-clause-some c =
    let s = c.self.inside in
    let words = c.as_slice-words.result.now in
    let set = c.args.self.now in
    let are = word_counts_of words s.words.items s.room set c.as_slice-words.ensures.value c.self.view_is c.self.invariant.0 (λ b. let h = c.type_inv.words b in omega (arith, h)) in
    let start = starts 64 (ones_of words) set are c.args.place c.requires 16 c.low_block-b.result.0 c.low_block-b.result.1 c.low_block-b.ensures in
    subst (λ n. before (ones_of words) (16 * c.low_block-b.result.0) + c.low_block-b.result.1 < before (ones_of words) n) (length_ones words) start.some

pub returns : goal.returns
returns c =
    let s = c.self.inside in
    let words = c.as_slice-words.result.now in
    let set = c.args.self.now in
    let small : (b : ℕ) → Fits w64 (get_or words b 0) = search rules in
    let are = word_counts_of words s.words.items s.room set c.as_slice-words.ensures.value c.self.view_is c.self.invariant.0 (λ b. let h = small b in omega (arith, h)) in
    let start = starts 64 (ones_of words) set are c.args.place c.requires 16 c.low_block-b.result.0 c.low_block-b.result.1 c.low_block-b.ensures in
    let did = c.scan_words-2.ensures in
    found 64 (ones_of words) set are c.args.place c.requires c.scan_words-2.result.0 c.scan_words-2.result.1 (subst (λ n. c.scan_words-2.result.0 < n) (sym (length_ones words)) did.within) (did.same ∙ start.same) did.short

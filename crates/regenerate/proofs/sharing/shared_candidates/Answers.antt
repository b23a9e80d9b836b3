use Rattle.std.proofs.Common.{◌||◌, ◌&&◌, ℕ, Bool, sym, ap, ◌∙◌}
use Rattle.shared_forms.specs.Numbered.{number_of}
use Rattle.shared_forms.specs.Shared.{computed, is_available, is_one_of}
use Rattle.shared_forms.proofs.SharingLemmas.{list_any-range_more}
use Rattle.regenerate.proofs.sharing.shared_candidates.Goals as goal

pub loop-k-preserved : goal.loop-k-preserved
loop-k-preserved c =
    let q = c.args.q.now in
    let a = c.args.a.now in
    let k = c.loop-k.k in
    let here : ℕ → ℕ → Bool = λ n j. is_one_of (computed q a (number_of a) j) n && is_available q a (number_of a) j n in
    record {
      size = c.in_ok-note_executable.ensures.size;
      noted = λ n less.
          c.in_ok-note_executable.ensures.noted n less
          ∙ ap (λ b. b || here n k) (c.loop-k.invariant.noted n less)
          ∙ sym (list_any-range_more (here n) k);
    }

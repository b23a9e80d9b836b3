use Rattle.std.proofs.Common.{◌||◌, take, ap, sym, ◌∙◌, arith}
use Rattle.std.specs.Prelude.{bytes_eq}
use Rattle.shared_forms.specs.Temporaries.{is_in_use, temporary_name}
use Rattle.shared_forms.proofs.TemporaryLemmas.{in_use-more}
use Rattle.regenerate.proofs.temporaries.used_numbers.Goals as goal

pub loop-info-preserved : goal.loop-info-preserved
loop-info-preserved c =
    let infos = c.as_slice-info-items.result.now in
    let i = c.loop-info.info-index in
    let info = c.info-item.result in
    let size = c.loop-info.invariant.size in
    record {
      size = c.note_name.ensures.size ∙ size;
      used = λ n less.
          c.note_name.ensures.noted n (omega (arith, less, size))
          ∙ ap (λ b. b || bytes_eq c.as_bytes.result.now (temporary_name n)) (c.loop-info.invariant.used n less)
          ∙ ap (λ name. is_in_use (take i infos) (temporary_name n) || bytes_eq name (temporary_name n)) c.as_bytes.ensures
          ∙ sym (in_use-more infos i info (temporary_name n) c.loop-info-test.true c.info-item.is);
    }

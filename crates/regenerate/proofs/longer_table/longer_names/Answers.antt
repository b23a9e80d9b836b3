use Rattle.std.proofs.Common.{◌≡◌, ◌+◌, ◌<◌, [], List, ℕ, length, get_or, take, subst, ap, sym, ◌∙◌, arith}
use Rattle.std.specs.Prelude.{slice_get}
use Rattle.std.proofs.lemmas.List.{get_or_read, length_push}
use Rattle.std.proofs.lemmas.Option.{slice_get-get_or}
use Rattle.shared_forms.specs.Numbered.{number_of}
use Rattle.shared_forms.specs.Shared.{shared}
use Rattle.shared_forms.specs.Temporaries.{free_names}
use Rattle.shared_forms.proofs.LongerTableLemmas.{info-is, temporaries-next, shared-below}
use Rattle.regenerate.proofs.longer_table.longer_names.Goals as goal

pub temporary_info-info-requires-clause-n : goal.temporary_info-info-requires-clause-n
temporary_info-info-requires-clause-n c =
    let q = c.args.q.now in
    let a = c.args.a.now in
    let j = c.loop-j.j in
    let less : j < length (shared q a (number_of a)) = omega (arith, c.loop-j-test.true, ap length c.requires.shared) in
    subst (λ (xs : List ℕ). get_or xs j 0 < length a.candidates) (sym c.requires.shared) (shared-below q a j 0 less)

pub loop-j-preserved : goal.loop-j-preserved
loop-j-preserved c =
    let q = c.args.q.now in
    let a = c.args.a.now in
    let j = c.loop-j.j in
    let of = c.args.shared.now in
    let n = get_or of j 0 in
    let info = c.temporary_info-info.result in
    let less : j < length (shared q a (number_of a)) = omega (arith, c.loop-j-test.true, ap length c.requires.shared) in
    let at : slice_get (shared q a (number_of a)) j ≡ _ = ap (λ (xs : List ℕ). slice_get xs j) (sym c.requires.shared) ∙ slice_get-get_or of j 0 (omega arith) in
    let are = c.requires.free ∙ ap (λ (xs : List ℕ). take (length xs) (free_names q.names)) c.requires.shared in
    let named = c.in_ok-name.ensures ∙ get_or_read c.args.free.now j c.index-free-j.result (omega arith) c.index-free-j.is [] in
    let is = info-is q a j n c.in_ok-name.name c.args.free.now info are less named c.temporary_info-info.ensures in
    let few : length c.push.new.self ≡ length c.loop-j.names + 1 = ap length c.in_ok-push.ensures.ok ∙ length_push c.loop-j.names info in
    record {
      few = omega (arith, few, c.loop-j.invariant.few);
      names = temporaries-next q a j n info c.loop-j.names c.push.new.self c.loop-j.invariant.names at is c.in_ok-push.ensures.ok;
    }

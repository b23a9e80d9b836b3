use Rattle.std.proofs.Common.{◌<◌, ◌++◌, ℕ, List, inl, inr, flat_map, length, refl, sym, ap, ◌∙◌, arith}
use Rattle.std.proofs.lemmas.List.{append-nil}
use Rattle.std.specs.Prelude.{slice_index_or, false}
use Rattle.f77_subs.specs.MergedStorage.{unit_storage}
use Rattle.unit_laws.proofs.ManyBlocks.{run-all}
use Rattle.entity_names.proofs.PutLists.{run-put}
use Rattle.f77_subs.proofs.merging.Merging.put_storage.Goals as goal

pub loop-k-init : goal.loop-k-init
loop-k-init c = record { some = omega arith; most = inr refl; put = sym (append-nil c.args.out.now.items) }

pub loop-k-preserved : goal.loop-k-preserved
loop-k-preserved c =
    let us = c.args.self.now.new.now.text.now.us.now in
    let k = c.loop-k.k in
    let some = c.loop-k.invariant.some in
    let inside : k < length us = omega arith in
    record {
      some = omega (arith, some);
      most = inl (omega (arith, inside));
      put = run-put us (unit_storage c.args.kind us) k (slice_index_or c.args.self.now.runs.now k false) c.args.out.now.items c.loop-k.out.items c.put_storage_if.new.out.items some (sym (c.args.self.now.told k inside)) c.loop-k.invariant.put c.in_ok-put_storage_if.ensures;
    }

pub returns : goal.returns
returns c =
    let us = c.args.self.now.new.now.text.now.us.now in
    c.loop-k.invariant.put
    ∙ ap (λ (ks : List ℕ). c.args.out.now.items ++ flat_map (unit_storage c.args.kind us) ks) (run-all us c.loop-k.k c.loop-k.invariant.some (omega arith) c.loop-k.invariant.most)

use Rattle.std.proofs.Common.{◌<◌, ℕ, List, inl, inr, length, refl, sym, ap, ◌∙◌, arith}
use Rattle.std.specs.List.{list_any}
use Rattle.std.specs.Prelude.{slice_index_or, false}
use Rattle.f77_tree.specs.Places.{same_block}
use Rattle.program_units.specs.Names.{has_block}
use Rattle.program_units.specs.Units.{unit_at}
use Rattle.unit_laws.proofs.ManyBlocks.{blocks-more, run-all}
use Rattle.f77_subs.proofs.merged_blocks.running_blocks.Goals as goal

pub loop-k-init : goal.loop-k-init
loop-k-init c = record { some = omega arith; most = inr refl; told = λ x. ap (list_any (same_block x)) c.new-blocks.ensures }

pub loop-k-preserved : goal.loop-k-preserved
loop-k-preserved c =
    let us = c.args.us.now in
    let k = c.loop-k.k in
    let some = c.loop-k.invariant.some in
    let inside : k < length us = omega arith in
    record {
      some = omega (arith, some);
      most = inl (omega (arith, inside));
      told = λ x. blocks-more us k (slice_index_or c.args.runs.now k false) c.at.result.now c.loop-k.blocks c.add_if.new.blocks x some (sym (c.requires.told k inside)) c.at.ensures.statements (c.loop-k.invariant.told x) c.in_ok-add_if.ensures;
    }

pub returns : goal.returns
returns c = λ x.
    c.loop-k.invariant.told x
    ∙ ap (λ (ks : List ℕ). list_any (λ j. has_block (unit_at c.args.us.now j) x) ks) (run-all c.args.us.now c.loop-k.k c.loop-k.invariant.some (omega arith) c.loop-k.invariant.most)

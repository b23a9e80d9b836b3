use Rattle.std.proofs.Common.{◌≡◌, ℕ, List, Option, Some, ap, sym, ◌∙◌}
use Rattle.std.specs.Prelude.{slice_get}
use Rattle.program_units.specs.Expansion.{blocks, common_of}
use Rattle.program_units.specs.Merged.{is_merged}
use Rattle.entity_names.proofs.PutLists.{kept-more}
use Rattle.f77_subs.proofs.merging.Merging.put_commons.Goals as goal

pub loop-i-preserved : goal.loop-i-preserved
loop-i-preserved c =
    let us = c.args.self.now.new.now.text.now.us.now in
    let there : slice_get (blocks us) c.loop-i.i ≡ Some c.at.result.now = ap (λ (bs : List (Option (List ℕ))). slice_get bs c.loop-i.i) (sym c.args.self.now.all_blocks) ∙ c.at.ensures in
    kept-more (common_of us c.args.self.now.line) (is_merged us) (blocks us) c.loop-i.i c.at.result.now c.args.out.now.items c.loop-i.out.items c.put_common.new.out.items there c.loop-i.invariant c.in_ok-put_common.ensures

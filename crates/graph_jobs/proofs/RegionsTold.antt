-- The text of regions, part after part.
use Rattle.std.proofs.Common.{◌≡◌, ℕ, List, [], ◌++◌, Option, ap, subst, ◌∙◌}
use Rattle.closed_walks.specs.Numbering.{IsNumbering}
use Rattle.cfg_build.specs.Joined.{FlowGraph}
use Rattle.df_io.specs.TextBuffer.{IsWrittenBut}
use Rattle.df_io.specs.Write.{AppendsPrefix}
use Rattle.df_io.proofs.Prefixes.{AppendsPrefix-longer}
use Rattle.df_io.proofs.LongTexts.{fault_at_piece}
use Rattle.f77_tree.specs.declared.programs.Program.{Program}
use Rattle.region_tree.specs.Tree.{IsRegionTree}
use Rattle.graph_jobs.specs.declared.regions.Found.{Found}
use Rattle.graph_jobs.specs.Found.{IsFoundOf, text_of}
use Rattle.graph_jobs.specs.Regions.{counts_line, regions_text, TellsRegions}

-- the first part, after an empty buffer
pub told_first : (a b : Option (List ℕ)) (empty held bytes part : List ℕ) → empty ≡ [] → bytes ≡ part → IsWrittenBut held a b (empty ++ bytes) → IsWrittenBut held a b part
told_first a b empty held bytes part none is now = subst (IsWrittenBut held a b) (ap (λ prefix. prefix ++ bytes) none ∙ is) now

-- a fault at the first part, before three others
pub fault_first : (a b : Option (List ℕ)) (empty bytes part second third last : List ℕ) → empty ≡ [] → bytes ≡ part → AppendsPrefix a b (empty ++ bytes) → AppendsPrefix a b (part ++ second ++ third ++ last)
fault_first a b empty bytes part second third last none is prefix =
    AppendsPrefix-longer a b (part ++ second ++ third) last (AppendsPrefix-longer a b (part ++ second) third (AppendsPrefix-longer a b part second
    (subst (AppendsPrefix a b) (ap (λ prefix. prefix ++ bytes) none ∙ is) prefix)))

-- a fault at a part, before two others
pub fault_before_two : (a b c : Option (List ℕ)) (held text part next last : List ℕ) → IsWrittenBut held a b text → AppendsPrefix b c (held ++ part) → AppendsPrefix a c (text ++ part ++ next ++ last)
fault_before_two a b c held text part next last before prefix =
    AppendsPrefix-longer a c (text ++ part ++ next) last (AppendsPrefix-longer a c (text ++ part) next (fault_at_piece a b c held text part before prefix))

-- a fault at a part, before another one
pub fault_before_one : (a b c : Option (List ℕ)) (held text part last : List ℕ) → IsWrittenBut held a b text → AppendsPrefix b c (held ++ part) → AppendsPrefix a c (text ++ part ++ last)
fault_before_one a b c held text part last before prefix =
    AppendsPrefix-longer a c (text ++ part) last (fault_at_piece a b c held text part before prefix)

-- the line of counts depends on the counts alone
pub counts_same : (p p' e e' k k' r r' : ℕ) → p ≡ p' → e ≡ e' → k ≡ k' → r ≡ r' → counts_line p e k r ≡ counts_line p' e' k' r'
counts_same p p' e e' k k' r r' one two three four =
    ap (λ n. counts_line n e k r) one ∙ ap (λ n. counts_line p' n k r) two ∙ ap (λ n. counts_line p' e' n r) three ∙ ap (counts_line p' e' k') four

-- the text of what was found tells the regions
pub found_tells : (p : Program) (found : Found) → IsFoundOf p found → TellsRegions p (text_of found)
found_tells p found is = record {
  classes = found.classes.items;
  numbering = subst (λ (f : FlowGraph). IsNumbering f.graph found.classes.items) is.flow is.classes;
  tree = found.tree;
  regions = subst (λ (f : FlowGraph). IsRegionTree f.graph found.tree) is.flow is.tree;
  is = ap (λ (f : FlowGraph). regions_text f found.classes.items found.tree) is.flow;
}

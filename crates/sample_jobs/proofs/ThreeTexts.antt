-- Three texts that are written one after another.
use Rattle.std.proofs.Common.{◌≡◌, ℕ, List, ◌++◌, Option, ap, subst, ◌∙◌, length}
use Rattle.std.proofs.KnownBytes.{Appends-trans}
use Rattle.std.specs.Io.KnownBytes.{Appends}
use Rattle.df_io.specs.Write.{AppendsPrefix}
use Rattle.df_io.proofs.Prefixes.{AppendsPrefix-after, AppendsPrefix-longer}
use Rattle.op_board.specs.OperationNets.{OperationNet, all_operation_nodes}
use Rattle.std.specs.Prelude.{[], ◌∷◌, codes}
use Rattle.std.specs.Fmt.{decimal}
use Rattle.graph_texts.specs.GraphText.{size_line}

module _ (a b c d : Option (List ℕ)) (x y z t u v : List ℕ) (is_t : x ≡ t) (is_u : y ≡ u) (is_v : z ≡ v) where
  pub fault_first : AppendsPrefix a b x → AppendsPrefix a b (t ++ u ++ v)
  fault_first prefix = AppendsPrefix-longer a b (t ++ u) v (AppendsPrefix-longer a b t u (subst (AppendsPrefix a b) is_t prefix))

  pub fault_second : Appends a b x → AppendsPrefix b c y → AppendsPrefix a c (t ++ u ++ v)
  fault_second one prefix = AppendsPrefix-longer a c (t ++ u) v (AppendsPrefix-after a b c t u (subst (Appends a b) is_t one) (subst (AppendsPrefix b c) is_u prefix))

  two : Appends a b x → Appends b c y → Appends a c (t ++ u)
  two one next = Appends-trans a b c t u (subst (Appends a b) is_t one) (subst (Appends b c) is_u next)

  pub fault_third : Appends a b x → Appends b c y → AppendsPrefix c d z → AppendsPrefix a d (t ++ u ++ v)
  fault_third one next prefix = AppendsPrefix-after a c d (t ++ u) v (two one next) (subst (AppendsPrefix c d) is_v prefix)

  pub all_three : Appends a b x → Appends b c y → Appends c d z → Appends a d (t ++ u ++ v)
  all_three one next last = Appends-trans a c d (t ++ u) v (two one next) (subst (Appends c d) is_v last)

-- the first line of the text of a net
abbrev pub size_of : (lines nodes : ℕ) → List ℕ
size_of lines nodes = codes "LINES " ++ decimal lines ++ codes " NODES " ++ decimal nodes ++ 10 ∷ []

pub size_same : (x : OperationNet) (lines nodes : ℕ) → lines ≡ x.net.routing.lines → nodes ≡ length (all_operation_nodes x) → size_of lines nodes ≡ size_line x
size_same x lines nodes all count = ap (λ n. size_of n nodes) all ∙ ap (size_of x.net.routing.lines) count

-- The rewritten form of a program is of the dialect of the program.
use Rattle.std.proofs.Common.{Bool, All, sym, subst}
use Rattle.f77_tree.specs.declared.programs.Program.{Program}
use Rattle.f77_tree.specs.Dialects.{IsOfDialect}
use Rattle.cfg_build.specs.Flow.{flow}
use Rattle.shared_forms.specs.Shared.{shared_flat}
use Rattle.rewriting.specs.Rewritten.{IsRewritten, IsSharedOf, IsSimplifiedOf}
use Rattle.rewritten_texts.proofs.FlatDialects.{StandFirst, AreOnly, LineHasDialect, ExecIsOfDialect, flat-dialect, executables-dialect}
use Rattle.rewritten_texts.proofs.SimplifiedDialects.{simplified-dialect}
use Rattle.rewritten_texts.proofs.SharedDialects.{candidates-dialect, shared-dialect}

module _ (first : StandFirst) (only : AreOnly) (checked : Bool) where
  simplified_dialect : (p q : Program) → IsOfDialect checked p → IsSimplifiedOf p checked q → IsOfDialect checked q
  simplified_dialect p q all is =
      let s = is.simplified in
      let are = s.simplified in
      let lines = subst (All (LineHasDialect checked)) (sym are.are) (simplified-dialect checked p is.classes is.table are.is_item all) in
      subst (IsOfDialect checked) (sym s.is) (executables-dialect checked s.statements only lines)

  shared_dialect : (q s : Program) → IsOfDialect checked q → IsSharedOf q s → IsOfDialect checked s
  shared_dialect q s all is =
      let a = is.table in
      let h = is.shared in
      let own = subst (All (ExecIsOfDialect checked)) (sym h.sharing.statements.execs) all in
      let each = candidates-dialect checked q (flow q.execs) all a.candidates is.available.available.candidates in
      let lines = shared-dialect checked q a h.number each h.flat (flat-dialect checked h.flat first own) in
      subst (IsOfDialect checked) (sym h.is) (executables-dialect checked (shared_flat q a h.number h.flat) only lines)

  pub rewritten_dialect : (p s : Program) → IsOfDialect checked p → IsRewritten p checked s → IsOfDialect checked s
  rewritten_dialect p s all is = shared_dialect is.form s (simplified_dialect p is.form all is.simplified) is.shared

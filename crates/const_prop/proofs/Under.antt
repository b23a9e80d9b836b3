-- What pieces write and decide grows as what comes to them grows.
use Rattle.std.proofs.Common.{◌≡◌, ◌<◌, ◌+◌, ℕ, zero, suc, ℤ, pos, Bool, true, false, ◌&&◌, cond, List, length, Option, Some, None, refl, sym, subst, ◌∙◌, inl, inr, ⊎_elim, arith}
use Rattle.std.proofs.lemmas.Bool.{cases_Bool}
use Rattle.op_table.specs.Operators.{which_of_three, picked}
use Rattle.op_table.specs.Trips.{at_least_zero}
use Rattle.op_table.specs.Words.{is_true}
use Rattle.closed_walks.specs.Graph.{IsGraph, edge_count, to}
use Rattle.f77_tree.specs.declared.programs.ExecKind.{ExecKind}
use Rattle.f77_tree.specs.declared.programs.ExecKind.TheVariants as exec
use Rattle.f77_tree.specs.declared.programs.NameInfo.{NameInfo}
use Rattle.f77_tree.specs.declared.programs.Program.{Program}
use Rattle.alias_classes.specs.Classes.{ClassTable, IsClasses, class_of_word, class_count}
use Rattle.cfg_build.specs.declared.pieces.PieceKind.{PieceKind}
use Rattle.cfg_build.specs.declared.pieces.PieceKind.TheVariants.{Start, Act, Pass, Branch, Join, Hold, End}
use Rattle.cfg_build.specs.Flow.{flow}
use Rattle.cfg_build.specs.Joined.{FlowGraph}
use Rattle.dep_routing.specs.Touches.{KindNeeds}
use Rattle.const_prop.specs.declared.known.Known.{Known}
use Rattle.const_prop.specs.declared.known.Known.TheVariants.{Nothing, One, Any}
use Rattle.const_prop.specs.Closed.{is_switch, is_one_word, is_sure, words_on, KindWrites, WritesAfter, written, written_after, decided, decided_after, kind_after, exec_after}
use Rattle.const_prop.specs.Known.{AtMost, IsSomething, IsNotOne, one_of}
use Rattle.const_prop.specs.Right.{CoverNeeds}
use Rattle.const_prop.specs.Table.{Knowns}
use Rattle.const_prop.proofs.Order.{one-below}
use Rattle.const_prop.proofs.Counting.{one_word-zero}
use Rattle.const_prop.proofs.Foreseen.{Covers, as_known-less, as_index-less}

if_any : (b : Bool) (j k : Known) → AtMost j k → AtMost (cond b j Any) (cond b k Any)
if_any true j k a = a
if_any false j k a = tt

module _ (names : List NameInfo) (c : ClassTable) (same : c.names ≡ names) (few many : ℕ → Option ℤ) where
  pub decided-under : (kind : PieceKind) (x : ExecKind) → is_switch kind ≡ true → Covers names c same few many (KindNeeds c kind x) → AtMost (decided names many kind x) (decided names few kind x)
  decided-under Branch (exec.Test e a b) s covers = as_index-less names c same few many (λ z. cond (is_true z) 0 1) e covers
  decided-under Branch (exec.Sign e a b d) s covers = as_index-less names c same few many (λ z. at_least_zero (which_of_three z)) e covers
  decided-under Branch (exec.Pick e targets other) s covers = as_index-less names c same few many (λ z. at_least_zero (picked z (pos (length targets)))) e covers
  decided-under Branch (exec.Assign target e next) s covers = tt
  decided-under Branch (exec.Print items next) s covers = tt
  decided-under Branch (exec.Pass next) s covers = tt
  decided-under Branch (exec.DoStart loop_no var first last step body exit) s covers = tt
  decided-under Branch (exec.DoNext loop_no var body exit) s covers = tt
  decided-under Branch exec.End s covers = tt
  decided-under Hold x s covers = refl
  decided-under Start x s covers = absurd cc
  decided-under Act x s covers = absurd cc
  decided-under Pass x s covers = absurd cc
  decided-under Join x s covers = absurd cc
  decided-under End x s covers = absurd cc

  pub written-under : (kind : PieceKind) (x : ExecKind) (line : ℕ) → KindWrites c kind x line → Covers names c same few many (KindNeeds c kind x) → AtMost (written names c many x line) (written names c few x line)
  written-under Act (exec.Assign target e next) line is covers = if_any (is_sure names target && is_one_word c line) _ _ (as_known-less names c same few many e (λ word z needs. covers word z (inr needs)))
  written-under Act (exec.DoStart loop_no var first last step body exit) line is covers = if_any (is_one_word c line) _ _ (as_known-less names c same few many first (λ word z needs. covers word z (inl (inl needs))))
  written-under Act (exec.DoNext loop_no var body exit) line is covers = tt
  written-under Act (exec.Print items next) line is covers = tt
  written-under Act (exec.Pass next) line is covers = tt
  written-under Act (exec.Test e a b) line is covers = tt
  written-under Act (exec.Sign e a b d) line is covers = tt
  written-under Act (exec.Pick e targets other) line is covers = tt
  written-under Act exec.End line is covers = tt
  written-under Start x line is covers = absurd is
  written-under Pass x line is covers = absurd is
  written-under Branch x line is covers = absurd is
  written-under Join x line is covers = absurd is
  written-under Hold x line is covers = absurd is
  written-under End x line is covers = absurd is

-- what comes to a piece by an edge, in one table no more than in another, which knows one value of one-word classes alone
pub record IsUnder (c : ClassTable) (f : FlowGraph) (touches : ℕ → ℕ → Bool) (lines : ℕ) (t u : Knowns) (e : ℕ) : Type 0 where
  pub under : (line : ℕ) → line < lines → touches (to f.graph e) line ≡ true → AtMost (t.value line e) (u.value line e)
  pub some : (line : ℕ) → line < lines → touches (to f.graph e) line ≡ true → IsSomething (t.value line e)
  pub one : (line : ℕ) → line < lines → is_one_word c line ≡ false → IsNotOne (u.value line e)

-- what is asked of the touches
pub record AreCovered (p : Program) (f : FlowGraph) (c : ClassTable) (touches : ℕ → ℕ → Bool) (lines : ℕ) : Type 0 where
  pub classes : IsClasses p c
  pub lines_are : lines ≡ class_count c + 1
  pub is : f ≡ flow p.execs
  pub sound : IsGraph f.graph
  pub needs : CoverNeeds p c touches

module _ (p : Program) (f : FlowGraph) (c : ClassTable) (touches : ℕ → ℕ → Bool) (lines : ℕ) (a : AreCovered p f c touches lines) where
  -- what a piece needs it touches
  pub needed-touched : (e n : ℕ) → e < edge_count f.graph → KindNeeds c (kind_after f e) (exec_after p f e) (suc n) → touches (to f.graph e) (suc n) ≡ true
  needed-touched =
      let P : FlowGraph → Type 0 = λ g. IsGraph g.graph → (e n : ℕ) → e < edge_count g.graph → KindNeeds c (kind_after g e) (exec_after p g e) (suc n) → touches (to g.graph e) (suc n) ≡ true in
      let at : P (flow p.execs) = λ sound e n l needs. a.needs (to (flow p.execs).graph e) n (sound.ends e l) needs in
      subst P (sym a.is) at a.sound

  pub class_below : (word : ℕ) → class_of_word c word < lines
  class_below word = let most = a.classes.numbering.most word in let is = a.lines_are in omega (arith, most, is)

  not_one : (k : Known) (z : ℤ) → one_of k ≡ Some z → IsNotOne k → ⊥
  not_one Nothing z e n = let no' : None ≡ Some z = e in absurd cc
  not_one (One v) z e n = n
  not_one Any z e n = let no' : None ≡ Some z = e in absurd cc

  module _ (t u : Knowns) (e : ℕ) (edge : e < edge_count f.graph) (h : IsUnder c f touches lines t u e) where
    covers : Covers p.names c a.classes.names (words_on c u e) (words_on c t e) (KindNeeds c (kind_after f e) (exec_after p f e))
    covers word z needs is = ⊎_elim
        (λ (one : is_one_word c (class_of_word c word) ≡ true). by (class_of_word c word) refl one)
        (λ (several : is_one_word c (class_of_word c word) ≡ false). absurd (not_one (u.value (class_of_word c word) e) z is (h.one (class_of_word c word) (class_below word) several)))
        (cases_Bool (is_one_word c (class_of_word c word)))
      where
        by : (n : ℕ) → class_of_word c word ≡ n → is_one_word c (class_of_word c word) ≡ true → one_of (t.value (class_of_word c word) e) ≡ Some z
        by zero class one = let no' : true ≡ false = sym one ∙ one_word-zero c (class_of_word c word) class in absurd cc
        by (suc n) class one =
            let touched : touches (to f.graph e) (class_of_word c word) ≡ true =
            subst (λ (m : ℕ). touches (to f.graph e) m ≡ true) (sym class) (needed-touched e n edge (subst (λ (m : ℕ). KindNeeds c (kind_after f e) (exec_after p f e) m) class needs)) in
            one-below (t.value (class_of_word c word) e) (u.value (class_of_word c word) e) z (h.under (class_of_word c word) (class_below word) touched) (h.some (class_of_word c word) (class_below word) touched) is

    pub decided-less : is_switch (kind_after f e) ≡ true → AtMost (decided_after p f c t e) (decided_after p f c u e)
    decided-less s = decided-under p.names c a.classes.names (words_on c u e) (words_on c t e) (kind_after f e) (exec_after p f e) s covers

    pub written-less : (line : ℕ) → WritesAfter p f c e line → AtMost (written_after p f c t e line) (written_after p f c u e line)
    written-less line is = written-under p.names c a.classes.names (words_on c u e) (words_on c t e) (kind_after f e) (exec_after p f e) line is covers

-- Which executables are items.
use Rattle.std.proofs.Common.{◌≡◌, ℕ, ◌<◌, ◌≤◌, Bool, true, false, List, length, Some, None, ◌↔◌, refl, sym, ap, subst, ◌∙◌, ⊎_elim, arith}
use Rattle.std.specs.Prelude.{slice_get, slice_index_or}
use Rattle.std.proofs.lemmas.Bool.{cases_lt}
use Rattle.std.proofs.lemmas.List.{get_or_past}
use Rattle.std.proofs.lemmas.Option.{slice_get_cases}
use Rattle.f77_tree.specs.declared.programs.Exec.{Exec}
use Rattle.f77_tree.specs.declared.programs.ExecKind.{ExecKind}
use Rattle.f77_tree.specs.declared.programs.ExecKind.TheVariants.{Assign, Print, Pass, Test, Sign, Pick, DoStart, DoNext, End}
use Rattle.f77_tree.specs.declared.programs.Program.{Program}
use Rattle.f77_tree.specs.Loops.{do_start}
use Rattle.closed_walks.specs.Graph.{Graph, IsGraph, edge_count, to}
use Rattle.cfg_build.specs.Flow.{flow}
use Rattle.cfg_build.specs.Passes.{kind_in}
use Rattle.const_prop.specs.Live.{IsLive}
use Rattle.const_prop.specs.Table.{Knowns}
use Rattle.simplified_forms.specs.Items.{own_piece, kind_at, IsEnteredPiece, IsKeptKind, IsItem}
use Rattle.simplified_forms.specs.Plans.{answer, keeps, keeps_kind, AreKept}
use Rattle.simplified_forms.specs.Tables.{AreAnswers}
use Rattle.simplified_forms.proofs.Entering.{Enters, AreNoted}

-- the pieces to which edges are noted that are live
pub entered-tells : (p : Program) (t : Knowns) (g : Graph) (live noted : List Bool) (n bound : ℕ) → g ≡ (flow p.execs).graph → IsGraph g → n ≡ edge_count g → ((e : ℕ) → e < n → (slice_index_or live e false ≡ true) ↔ IsLive p t e) → bound ≡ n → AreNoted (to g) live g.nodes bound noted → (node : ℕ) → (answer noted node ≡ true) ↔ IsEnteredPiece p t node
entered-tells p t g live noted n bound same sound count tells whole are node = (
  λ (is : answer noted node ≡ true).
      ⊎_elim
      (λ (less : node < g.nodes). entered-by ((are.each node less).0 is))
      (λ past. let no : false ≡ true = sym (get_or_past noted node false (omega (arith, past, are.size))) ∙ is in absurd cc)
      (cases_lt node g.nodes),
  λ (by : IsEnteredPiece p t node).
      let inside : by.edge < edge_count g = subst (λ (h : Graph). by.edge < edge_count h) (sym same) by.live.edge in
      let leads : to g by.edge ≡ node = ap (λ h. to h by.edge) same ∙ by.ends in
      let ends = sound.ends by.edge inside in
      (are.each node (omega (arith, ends, leads))).1 (record { edge = by.edge; below = omega (arith, inside, count, whole); counts = (tells by.edge (omega (arith, inside, count))).1 by.live; leads = leads }),
)
  where
    entered-by : Enters (to g) live bound node → IsEnteredPiece p t node
    entered-by by = record { edge = by.edge; live = (tells by.edge (omega (arith, by.below, whole))).0 by.counts; ends = ap (λ h. to h by.edge) (sym same) ∙ by.leads }

module _ (p : Program) (t : Knowns) (entered : ℕ → Bool) (tells : (node : ℕ) → (entered node ≡ true) ↔ IsEnteredPiece p t node) where
  keeps_kind-tells : (k : ℕ) (kind : ExecKind) → (keeps_kind p entered k kind ≡ true) ↔ IsKeptKind p t k kind
  keeps_kind-tells k End = (λ is. tt, λ is. refl)
  keeps_kind-tells k (DoNext loop_no var body exit) = tells (own_piece p (do_start p.execs loop_no))
  keeps_kind-tells k (Assign target value next) = tells (own_piece p k)
  keeps_kind-tells k (Print items next) = tells (own_piece p k)
  keeps_kind-tells k (Pass next) = tells (own_piece p k)
  keeps_kind-tells k (Test c if_true if_false) = tells (own_piece p k)
  keeps_kind-tells k (Sign value below at above) = tells (own_piece p k)
  keeps_kind-tells k (Pick value targets other) = tells (own_piece p k)
  keeps_kind-tells k (DoStart loop_no var first last step body exit) = tells (own_piece p k)

  -- an executable that there is
  item-there : (k : ℕ) (exec : Exec) → slice_get p.execs k ≡ Some exec → (keeps p entered k ≡ true) ↔ IsItem p t k
  item-there k exec found =
      let kind : kind_at p k ≡ exec.kind = ap kind_in found in
      let tells = keeps_kind-tells k exec.kind in (
        λ is. record { exec = exec; found = found; kept = tells.0 (sym (ap (keeps_kind p entered k) kind) ∙ is) },
        λ item.
            let same : Some item.exec ≡ Some exec = sym item.found ∙ found in
            let one : item.exec ≡ exec = cc in
            ap (keeps_kind p entered k) kind ∙ tells.1 (subst (λ (x : Exec). IsKeptKind p t k x.kind) one item.kept),
      )

  answer-past : (table : List Bool) → AreAnswers (keeps p entered) (length p.execs) table → (k : ℕ) → length p.execs ≤ k → slice_get p.execs k ≡ None → (answer table k ≡ true) ↔ IsItem p t k
  answer-past table are k past none = (
    λ (is : answer table k ≡ true). let no : false ≡ true = sym (get_or_past table k false (omega (arith, past, are.size))) ∙ is in absurd cc,
    λ (item : IsItem p t k). let no : None ≡ Some item.exec = sym none ∙ item.found in absurd cc,
  )

  answer-there : (table : List Bool) → AreAnswers (keeps p entered) (length p.execs) table → (k : ℕ) → k < length p.execs → (exec : Exec) → slice_get p.execs k ≡ Some exec → (answer table k ≡ true) ↔ IsItem p t k
  answer-there table are k less exec found =
      let entry = are.entry k less in
      let tells = item-there k exec found in
      (λ is. tells.0 (sym entry ∙ is), λ item. entry ∙ tells.1 item)

  pub kept-tell : (table : List Bool) → AreAnswers (keeps p entered) (length p.execs) table → AreKept p t table
  kept-tell table are =
      record {
        size = are.size;
        items = λ k.
            ⊎_elim
            (λ there. answer-there table are k there.1 there.0 there.2)
            (λ past. answer-past table are k past.0 past.1)
            (slice_get_cases p.execs k).1;
      }

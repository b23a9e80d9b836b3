-- The executables end with END, and no other of them is END.
use Rattle.std.proofs.Common.{◌≡◌, ℕ, ◌+◌, ◌-◌, ◌<◌, Bool, true, false, ◌||◌, ◌&&◌, ◌==◌, ◌⊎◌, inl, inr, List, [], ◌∷◌, length, get_or, take, Some, None, All, refl, sym, ap, ◌∙◌, arith}
use Rattle.std.specs.Prelude.{slice_get, nat_lt}
use Rattle.std.specs.List.{list_any}
use Rattle.std.proofs.lemmas.Bool.{or_parts, cases_eq}
use Rattle.std.proofs.lemmas.List.{get_or-take, length-take-le}
use Rattle.std.proofs.lemmas.Option.{slice_get_within, get_or_from_slice_get}
use Rattle.f77_tree.specs.declared.programs.Exec.{Exec}
use Rattle.f77_tree.specs.declared.programs.ExecKind.{ExecKind}
use Rattle.f77_tree.specs.declared.programs.ExecKind.TheVariants.{End as Ended}
use Rattle.f77_tree.specs.declared.programs.NameInfo.{NameInfo}
use Rattle.f77_tree.specs.declared.statements.Labelled.{Labelled}
use Rattle.f77_tree.specs.declared.statements.RawExpr.{RawExpr}
use Rattle.f77_tree.specs.declared.statements.Stmt.{Stmt, more_of-Stmt}
use Rattle.f77_tree.specs.declared.statements.Stmt.TheVariants.{Take, ThenIf', End}
use Rattle.f77_tree.specs.Control.{EndsWithEnd}
use Rattle.layout_rules.specs.Faults.{first_line}
use Rattle.layout_rules.specs.Source.{IsSource}
use Rattle.layout_rules.specs.Order.{rank, is_out_of_order}
use Rattle.layout_rules.specs.Executables.{own_kinds, own_executables, taking, beyond, first_of, executables}
use Rattle.layout_rules.specs.Labels.{is_labelled_twice, lacks_label}
use Rattle.layout_rules.specs.Nesting.{first_unnested}
use Rattle.layout_rules.specs.Tables.{has_simple_inner, IsUsable}
use Rattle.layout_rules.proofs.FlatParts.{list_any-none_at}
use Rattle.control_structure.proofs.LabelLemmas.{faultless}
use Rattle.control_structure.proofs.Usable.{usable as all_usable}
use Rattle.control_laws.proofs.LoopPlaces.{first-next, length-executables, usable-at, own-at}
use Rattle.control_laws.proofs.LoopBegins.{OwnAt, EndAt, comes, simple-is}
use Rattle.control_laws.proofs.SuccessorLaws.{is_last, no_loops-end}

abbrev is_end : ExecKind → Bool
is_end Ended = true
is_end _ = false

module _ (names : List NameInfo) (checked : Bool) (whole : List Labelled) (place : ℕ) where
  no_end-taking : (index next : ℕ) (targets : List RawExpr) → list_any is_end (taking names checked index next targets) ≡ false
  no_end-taking index next [] = refl
  no_end-taking index next (target ∷ []) = refl
  no_end-taking index next (target ∷ another ∷ rest) = no_end-taking (index + 1) next (another ∷ rest)

  no_end-own : (index next : ℕ) (stmt : Stmt) → has_simple_inner stmt ≡ true → (stmt ≡ End → ⊥) → list_any is_end (own_kinds names checked whole place index next stmt) ≡ false
  no_end-own index next (Take targets) e other = no_end-taking index next targets
  no_end-own index next (ThenIf' condition shape (more_of-Stmt stmt rest)) e other = let is = simple-is stmt e in no_end-own (index + 1) next stmt is.0 is.3
  no_end-own index next End e other = absurd (other refl)
  no_end-own index next _ e other = refl

-- ---- one END after others

module _ (stmts : List Labelled) (source : IsSource stmts) (ordered : first_line is_out_of_order stmts ≡ None) where
  -- no statement above the last one is END
  no_end-above : (i : ℕ) (s : Labelled) → i + 1 < length stmts → slice_get stmts i ≡ Some s → s.stmt ≡ End → ⊥
  no_end-above i s below at is =
      let m = length stmts - 1 in
      let p : Labelled → Bool = λ a. nat_lt (rank source.ended.last.stmt) (rank a.stmt) || (rank a.stmt == 0 && rank source.ended.last.stmt == 0) || rank a.stmt == 4 in
      let none : list_any p (take m stmts) ≡ false = faultless is_out_of_order [] stmts ordered m source.ended.last source.ended.stands in
      let there : s ≡ get_or (take m stmts) i s = sym (get_or-take m stmts i s (omega (arith, below)) ∙ get_or_from_slice_get stmts i s s at) in
      let passes : p s ≡ false = list_any-none_at p (take m stmts) i s (omega (arith, below, length-take-le m stmts (omega arith))) there none in
      let parts = or_parts (nat_lt (rank source.ended.last.stmt) (rank s.stmt) || (rank s.stmt == 0 && rank source.ended.last.stmt == 0)) (rank s.stmt == 4) passes in
      let four : (rank s.stmt == 4) ≡ true = ap (λ stmt. rank stmt == 4) is in
      let h : true ≡ false = sym four ∙ parts.1 in
      absurd cc

  module _ (once : first_line is_labelled_twice stmts ≡ None) (labelled : first_line (lacks_label stmts) stmts ≡ None) (nested : first_unnested [] stmts ≡ None) (names : List NameInfo) (checked : Bool) where
    abbrev usable : All (IsUsable stmts) stmts
    usable = all_usable stmts source labelled

    abbrev execs : List Exec
    execs = executables names checked stmts

    abbrev m : ℕ
    m = length stmts - 1

    -- END is the last executable
    last-index : first_of stmts m + 1 ≡ length execs
    last-index =
        let last = source.ended.last in
        let own : own_executables last.stmt ≡ 1 = ap own_executables source.ended.is in
        let none = ap (λ (ds : List ℕ). length ds) (no_loops-end stmts source once nested last source.ended.stands) in
        let end : m + 1 ≡ length stmts = omega (arith, slice_get_within stmts m last source.ended.stands) in
        omega (arith, first-next stmts m last source.ended.stands, own, none, ap (first_of stmts) end, length-executables names checked stmts usable)

    last-is : slice_get execs (first_of stmts m + 0) ≡ Some (record { line = source.ended.last.line; kind = Ended })
    last-is = own-at names checked stmts usable m 0 source.ended.last Ended source.ended.stands (ap (λ (t : Stmt). slice_get (own_kinds names checked stmts m (first_of stmts m) (beyond stmts m source.ended.last) t) 0) source.ended.is)

    -- an executable that is END is the last one
    end-last : (k : ℕ) (kind : ExecKind) → kind ≡ Ended → OwnAt names checked stmts k kind ⊎ EndAt names stmts k kind → k ≡ first_of stmts m
    end-last k kind is from = elim from as (λ _. k ≡ first_of stmts m) [
      | inl own ↦ elim (cases_eq own.place m) as (λ _. k ≡ first_of stmts m) [
        | inl same ↦
            let single : own_executables own.s.stmt ≡ 1 = ap own_executables (is_last stmts source nested own.s (sym (ap (slice_get stmts) same) ∙ own.stands)) in
            omega (arith, own.at, own.own, single, ap (first_of stmts) same)
        | inr apart ↦
            let index = first_of stmts own.place in
            let kinds = own_kinds names checked stmts own.place index (beyond stmts own.place own.s) own.s.stmt in
            let above = no_end-above own.place own.s (omega (arith, slice_get_within stmts own.place own.s own.stands, apart)) own.stands in
            let none = no_end-own names checked stmts own.place index (beyond stmts own.place own.s) own.s.stmt (usable-at names checked stmts usable own.place own.s own.stands).inner above in
            let other = list_any-none_at is_end kinds own.j kind (slice_get_within kinds own.j kind own.got) (sym (get_or_from_slice_get kinds own.j kind kind own.got)) none in
            let h : false ≡ true = sym other ∙ ap is_end is in
            absurd cc
      ]
      | inr end ↦ let h : false ≡ true = sym (ap is_end end.is) ∙ ap is_end is in absurd cc
    ]

-- the last executable of a source without refusals is END, and no other is
pub ends_with_end : (stmts : List Labelled) (source : IsSource stmts) (once : first_line is_labelled_twice stmts ≡ None) (nested : first_unnested [] stmts ≡ None) (names : List NameInfo) (checked : Bool) → first_line is_out_of_order stmts ≡ None → first_line (lacks_label stmts) stmts ≡ None → EndsWithEnd (executables names checked stmts)
ends_with_end stmts source once nested names checked ordered labelled =
    let index = last-index stmts source ordered once labelled nested names checked in
    let end = last-is stmts source ordered once labelled nested names checked in
    record {
      some = omega (arith, index);
      last = λ k exec at. (
        (λ is. let there = end-last stmts source ordered once labelled nested names checked k exec.kind is (comes names checked stmts (all_usable stmts source labelled) k exec at) in omega (arith, there, index)),
        (λ e.
            let there : first_of stmts (length stmts - 1) + 0 ≡ k = omega (arith, e, index) in
            let both : Some exec ≡ Some (record { line = source.ended.last.line; kind = Ended }) = sym at ∙ ap (slice_get (executables names checked stmts)) (sym there) ∙ end in
            let same : exec ≡ record { line = source.ended.last.line; kind = Ended } = cc in
            ap (λ (x : Exec). x.kind) same),
      );
    }

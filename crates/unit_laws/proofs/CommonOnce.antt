-- In a unit that can be laid out no name stands twice in COMMON.
use Rattle.std.proofs.Common.{◌≡◌, ℕ, Bool, false, ◌||◌, List, [], ◌∷◌, ◌++◌, flat_map, Option, Some, None, refl, sym, ap, ◌∙◌}
use Rattle.std.specs.Prelude.{bytes_eq}
use Rattle.std.specs.List.{slice_get}
use Rattle.std.proofs.lemmas.Bool.{or_parts}
use Rattle.std.proofs.lemmas.List.Concat.{flat_map-cons}
use Rattle.f77_tree.specs.declared.declarations.CommonPart.{CommonPart}
use Rattle.f77_tree.specs.declared.programs.NameInfo.{NameInfo}
use Rattle.f77_tree.specs.declared.statements.Labelled.{Labelled}
use Rattle.f77_tree.specs.declared.statements.Stmt.{Stmt, more_of-Stmt}
use Rattle.f77_tree.specs.declared.statements.Stmt.TheVariants.{Program, Implicit, ImplicitNone, TypeOf, Dimension, Common, Equivalence, Init, Assign, Print, Take, Continue, Stop, GoTo, PickGoTo, SignIf, ThenIf', BlockIf, ElseIf, Else, EndIf, Do, Sub, CallTo, Back, End}
use Rattle.layout_rules.specs.declared.layout_end.LayoutEnd.TheVariants.{LayoutWrong}
use Rattle.layout_rules.specs.Declarations.{all_commons, parts_of}
use Rattle.layout_rules.specs.Faults.{first_answer, first_line, has_repeat}
use Rattle.layout_rules.specs.Layout.{at_line, names_of, placed_names, refusals}
use Rattle.layout_rules.specs.LowestLines.{lower_line, lowest_line}
use Rattle.layout_rules.specs.StorageFaults.{common_names, has_dims_twice, has_wrong_dims, has_wrong_places, is_common_twice}
use Rattle.layout_rules.specs.StorageLines.{declares_wrongly, groups_wrongly, initializes_wrongly, storage_line}
use Rattle.storage_laws.proofs.DeclaredCommon.{common_names-all}
use Rattle.layout_rules.proofs.DeclaredOnce.{once_in_all}
use Rattle.program_units.specs.Refusals.{form_refusals}
use Rattle.program_units.specs.Units.{stand_in, standing_in, unit_at, unit_or_none, units}
use Rattle.unit_laws.proofs.MainNames.{decl_names}
use Rattle.unit_laws.proofs.NoAnswer.{answer-none, formed-laid, line-none, none-at}

-- ---- what stands in for a unit has its blocks

parts-same : (s : Stmt) → parts_of (stand_in s) ≡ parts_of s
parts-same Program = refl
parts-same (Implicit a) = refl
parts-same ImplicitNone = refl
parts-same (TypeOf a b) = refl
parts-same (Dimension a) = refl
parts-same (Common a) = refl
parts-same (Equivalence a) = refl
parts-same (Init a) = refl
parts-same (Assign a b) = refl
parts-same (Print a) = refl
parts-same (Take a) = refl
parts-same Continue = refl
parts-same Stop = refl
parts-same (GoTo a) = refl
parts-same (PickGoTo a b) = refl
parts-same (SignIf a b c d) = refl
parts-same (ThenIf' a b (more_of-Stmt c d)) = refl
parts-same (BlockIf a) = refl
parts-same (ElseIf a) = refl
parts-same Else = refl
parts-same EndIf = refl
parts-same (Do a b c d e) = refl
parts-same (Sub a b) = refl
parts-same (CallTo a b) = refl
parts-same Back = refl
parts-same End = refl

pub commons-same : (u : List Labelled) → all_commons (standing_in u) ≡ all_commons u
commons-same [] = refl
commons-same (s ∷ u) =
    flat_map-cons (λ (a : Labelled). parts_of a.stmt) (record s { stmt = stand_in s.stmt }) (standing_in u)
    ∙ ap (λ (parts : List CommonPart). parts ++ all_commons (standing_in u)) (parts-same s.stmt)
    ∙ ap (λ (parts : List CommonPart). parts_of s.stmt ++ parts) (commons-same u)
    ∙ sym (flat_map-cons (λ (a : Labelled). parts_of a.stmt) s u)

-- ---- no fault of storage

lower-none : (a b : Option ℕ) → lower_line a b ≡ None → a ≡ None
lower-none None b none = refl
lower-none (Some line) b none = absurd cc

declared-right : (names placed : List NameInfo) (stmts : List Labelled) → storage_line names placed stmts ≡ None → first_line (declares_wrongly names) stmts ≡ None
declared-right names placed stmts none =
    lower-none (first_line (declares_wrongly names) stmts) (first_line (has_wrong_places names stmts) stmts)
    (answer-none (lower_line (first_line (declares_wrongly names) stmts) (first_line (has_wrong_places names stmts) stmts)) (lowest_line (initializes_wrongly names placed) stmts) none).0

common-right : (names : List NameInfo) (above : List Labelled) (s : Labelled) → declares_wrongly names above s ≡ false → is_common_twice above s ≡ false
common-right names above s right =
    (or_parts (has_dims_twice above s || has_wrong_dims s) (is_common_twice above s) (or_parts (has_dims_twice above s || has_wrong_dims s || is_common_twice above s) (groups_wrongly names s) right).0).1

once-in : (names placed : List NameInfo) (stmts : List Labelled) → storage_line names placed stmts ≡ None → has_repeat bytes_eq [] (flat_map (λ (part : CommonPart). decl_names part.decls) (all_commons stmts)) ≡ false
once-in names placed stmts none =
    ap (has_repeat bytes_eq []) (common_names-all stmts)
    ∙ once_in_all bytes_eq (declares_wrongly names) (λ s. common_names s.stmt) (common-right names) [] stmts (declared-right names placed stmts none)

-- ---- a unit of a text whose form nothing refuses

module _ (stmts : List Labelled) (checked : Bool) (formed : first_answer (λ r. r) (form_refusals stmts (units stmts) checked) ≡ None) where
  pub common-once : (k : ℕ) → has_repeat bytes_eq [] (flat_map (λ (part : CommonPart). decl_names part.decls) (all_commons (unit_at (units stmts) k))) ≡ false
  common-once k = by (slice_get (units stmts) k) refl
    where
      by : (o : Option (List Labelled)) → slice_get (units stmts) k ≡ o → has_repeat bytes_eq [] (flat_map (λ (part : CommonPart). decl_names part.decls) (all_commons (unit_or_none o))) ≡ false
      by None here = refl
      by (Some u) here =
          let stood : List Labelled = standing_in u in
          let line : Option ℕ = storage_line (names_of stood) (placed_names stood) stood in
          let none : line ≡ None = line-none LayoutWrong line (none-at (refusals stood checked) 3 (at_line LayoutWrong line) (formed-laid stmts checked formed k u here) refl) in
          ap (λ (parts : List CommonPart). has_repeat bytes_eq [] (flat_map (λ (part : CommonPart). decl_names part.decls) parts)) (sym (commons-same u)) ∙ once-in (names_of stood) (placed_names stood) stood none

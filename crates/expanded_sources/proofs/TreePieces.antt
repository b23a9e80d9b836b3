-- Each statement of the list of a text is a tree.
use Rattle.std.proofs.Common.{◌≡◌, ℕ, zero, suc, ◌+◌, ◌<◌, ◌≤◌, Bool, All, List, length, map, Some, None, refl, ap, subst, ◌∙◌, arith}
use Rattle.std.specs.Prelude.{Ok}
use Rattle.std.specs.List.{slice_get}
use Rattle.std.proofs.lemmas.List.FromFn.{length-range_with_len}
use Rattle.f77_tree.proofs.AllLemmas.{All-nil}
use Rattle.f77_tree.specs.declared.statements.Labelled.{Labelled}
use Rattle.f77_tree.specs.declared.statements.Stmt.TheVariants.{Continue, EndIf}
use Rattle.layout_rules.specs.Labels.{IsLabel}
use Rattle.layout_rules.specs.ReadDeclarations.{IsReadDecl, IsReadGroup, IsReadInit, IsReadPart}
use Rattle.layout_rules.specs.StatementTrees.{IsTree}
use Rattle.program_units.specs.Copies.{Context, changes, number_at}
use Rattle.program_units.specs.Entities.{stands_for}
use Rattle.program_units.specs.Expansion.{main_context, whole_list}
use Rattle.program_units.specs.Refusals.{expansion, unit_refusal}
use Rattle.program_units.specs.Texts.{IsText}
use Rattle.program_units.specs.Units.{Call, call_in, unit_at, unit_of, units}
use Rattle.program_units.specs.Widths.{body_labels, labels_written}
use Rattle.unit_laws.proofs.PieceLabels.{whole-labels}
use Rattle.unit_laws.proofs.UnitSources.{all-of}
use Rattle.expanded_sources.proofs.ChangedTrees.{changed-tree, head-tree}
use Rattle.expanded_sources.proofs.ContextLabels.{HasFewLabels, called-few, has-labels}
use Rattle.expanded_sources.proofs.ContextNames.{AreArguments, called-arguments, main-arguments}
use Rattle.expanded_sources.proofs.HeldPieces.{CanCome, Holds, list-holds, whole-each}
use Rattle.expanded_sources.proofs.Labelling.{HasLabels}
use Rattle.expanded_sources.proofs.ListedSources.{fits, none-refuses, written-few}
use Rattle.expanded_sources.proofs.PlainPieces.{no-sub}
use Rattle.expanded_sources.proofs.PutTrees.{put-trees}

-- ---- labels and ends of blocks

continue-tree : IsTree Continue
continue-tree = record {
  declares = record { decls = All-nil IsReadDecl; parts = All-nil IsReadPart; groups = All-nil IsReadGroup; inits = All-nil IsReadInit };
  reads = tt;
  labels = All-nil IsLabel;
  takes = λ targets is. absurd cc;
  names = λ arrays. refl;
  inner = refl;
}

end-tree : IsTree EndIf
end-tree = record {
  declares = record { decls = All-nil IsReadDecl; parts = All-nil IsReadPart; groups = All-nil IsReadGroup; inits = All-nil IsReadInit };
  reads = tt;
  labels = All-nil IsLabel;
  takes = λ targets is. absurd cc;
  names = λ arrays. refl;
  inner = refl;
}

-- ---- a text

module _ (stmts list : List Labelled) (checked : Bool) (text : IsText stmts) (made : expansion stmts checked ≡ Ok list) where
  abbrev us : List (List Labelled)
  us = units stmts

  told : (unit_refusal stmts checked ≡ None) × (whole_list us ≡ list)
  told = none-refuses (unit_refusal stmts checked) (whole_list us) list made

  -- how many labels the list has
  abbrev total : ℕ
  total = body_labels us (suc (length us)) 0

  room : total + 1 < 100000
  room =
      let long : length (labels_written (whole_list us)) ≡ total = ap length (whole-labels us) ∙ length-range_with_len 1 total in
      low 100000 (length (labels_written (whole_list us))) (length (whole_list us)) long (written-few (whole_list us)) (fits stmts list checked text made 100000 (omega arith))
    where
      low : (top n most : ℕ) → n ≡ total → n ≤ most → most + 1 < top → total + 1 < top
      low top n most same few fits = omega (arith, same, few, fits)

  -- a context that comes
  record Comes (c : Context) : Type 0 where
    arguments : AreArguments us c.unit c.arguments
    labels : HasFewLabels us total c

  labelled : (c : Context) → Comes c → HasLabels (changes us c)
  labelled c comes = has-labels us c total comes.labels room

  calls-come : (c : Context) (place : ℕ) (s : Labelled) (call : Call) → Comes c → slice_get (unit_at us c.unit) place ≡ Some s → call_in s.stmt ≡ Some call
      → CanCome Comes c.depth (unit_of us call.name) (map (stands_for us c.unit c.arguments) call.arguments) (number_at us c.depth c.unit c.base place)
  calls-come c place s call comes here is = by c.depth refl
    where
      by : (depth : ℕ) → c.depth ≡ depth → CanCome Comes depth (unit_of us call.name) (map (stands_for us c.unit c.arguments) call.arguments) (number_at us c.depth c.unit c.base place)
      by zero deep = tt
      by (suc depth) deep = record {
        arguments = called-arguments stmts checked text told.0 c.unit c.arguments s call comes.arguments (record { place = place; here = here }) is;
        labels = record { few = called-few us c total comes.labels place depth s call deep here is };
      }

  held : Holds us IsTree Comes
  held = record {
    labels_too = continue-tree;
    ends = end-tree;
    statements = λ c s comes inside kept none. changed-tree stmts checked text told.0 c s comes.arguments inside (labelled c comes) (no-sub stmts list checked text made c.unit s inside kept) none;
    heads = λ c s condition comes inside is. head-tree stmts checked text told.0 c s comes.arguments inside (labelled c comes) condition is;
    calls = λ c place s call comes here kept is. calls-come c place s call comes here is;
  }

  main-comes : Comes (main_context us)
  main-comes = record { arguments = main-arguments stmts checked text told.0; labels = record { few = omega arith } }

  pub list-trees : All (λ s. IsTree s.stmt) list
  list-trees = subst (λ (xs : List Labelled). All (λ s. IsTree s.stmt) xs) told.1 (all-of (λ s. IsTree s.stmt) (whole_list us) (whole-each IsTree (whole_list us) (list-holds us IsTree Comes held main-comes (put-trees stmts checked text told.0))))

-- The places of the program that a text comes to are a placing of its entities.
use Rattle.std.proofs.Common.{◌≡◌, ℕ, Bool, false, List, map, flat_map, filter, take, drop, ◌++◌, Option, Some, None, ◌∙◌}
use Rattle.std.specs.Prelude.{Ok}
use Rattle.std.specs.List.{list_any, range_with_len, slice_get}
use Rattle.f77_tree.specs.declared.programs.NameInfo.{NameInfo}
use Rattle.f77_tree.specs.declared.programs.Program.{Program}
use Rattle.f77_tree.specs.declared.statements.Labelled.{Labelled}
use Rattle.f77_tree.specs.Places.{IsWordOf, Linked, equations}
use Rattle.f77_tree.specs.WellFormed.{IsWellFormed}
use Rattle.layout_rules.proofs.NameTable.{dims_in_table}
use Rattle.layout_rules.specs.declared.layout_end.LayoutEnd.{LayoutEnd}
use Rattle.layout_rules.specs.Declarations.{all_commons, all_groups, dims_of, groups_of}
use Rattle.layout_rules.specs.Layout.{layout, names_of, program, refusal, unless_refused}
use Rattle.layout_rules.specs.Types.{dims_named}
use Rattle.program_units.specs.declared.entity.Entity.{Entity}
use Rattle.program_units.specs.declared.entity.Entity.TheVariants.{InBlock}
use Rattle.program_units.specs.Entities.{block_list, entity_of}
use Rattle.program_units.specs.Expansion.{block_size, blocks, common_decl, declared_first, declared_in, members_for, merged, units_but_main, whole_list}
use Rattle.program_units.specs.Names.{name_for}
use Rattle.program_units.specs.Merged.{is_merged}
use Rattle.program_units.specs.Refusals.{has_wrong_dummy, is_mismatched_part, unit_refusal}
use Rattle.program_units.specs.Storage.{Declares, Distance, IsOfRun}
use Rattle.program_units.specs.Units.{unit_at, units}
use Rattle.called_runs.specs.PairedWords.{IsPlacing, listed_spot}
use Rattle.called_runs.proofs.DeclaredAlike.{blocks-even, dummies-right, own-declared}
use Rattle.called_runs.proofs.LinkedEntities.{linked-apart}
use Rattle.called_runs.proofs.ListedBlocks.{place-back, place-there}
use Rattle.called_runs.proofs.ListedParts.{members-same, part-back, part-there}
use Rattle.called_runs.proofs.KnownEnds.{IsKnown, both-known}
use Rattle.called_runs.proofs.PlacedEntities.{distance}

-- the program is the one that the statements make
pub laid-program : (stmts : List Labelled) (checked : Bool) (p : Program) → layout stmts checked ≡ Ok p → program stmts checked ≡ p
laid-program stmts checked p laid = by (refusal stmts checked) laid
  where
    by : (o : Option LayoutEnd) → unless_refused o (program stmts checked) ≡ Ok p → program stmts checked ≡ p
    by None is = cc
    by (Some end) is = absurd cc

module _ (stmts : List Labelled) (checked : Bool) (accepted : unit_refusal stmts checked ≡ None) where
  abbrev us : List (List Labelled)
  us = units stmts

  abbrev list : List Labelled
  list = whole_list us

  abbrev names : List NameInfo
  names = (program list checked).names

  module _ (same_dims : (x : List ℕ) → dims_named names x ≡ dims_named (names_of list) x)
      (formed : IsWellFormed (program list checked))
      (shares : (x y word : ℕ) → IsWordOf names x word → IsWordOf names y word → Linked (equations names (all_commons list) (all_groups list)) x y)
      (kept : (x : List ℕ) → name_for us (entity_of us 0 x) ≡ x)
      (once : (k : ℕ) (block : Option (List ℕ)) (i : ℕ) (x : List ℕ) → slice_get (block_list (unit_at us k) block) i ≡ Some x → entity_of us k x ≡ InBlock block i)
      (apart : (e f : Entity) → IsOfRun us e → IsOfRun us f → name_for us e ≡ name_for us f → e ≡ f)
      (dims : (e : Entity) → IsOfRun us e → dims_of list (name_for us e) ≡ dims_of (declared_in us e).0 (declared_in us e).1)
      (commons : all_commons list ≡ all_commons (take (declared_first (unit_at us 0)) (unit_at us 0)) ++ (all_commons (merged us) ++ all_commons (drop (declared_first (unit_at us 0)) (unit_at us 0))))
      (groups : all_groups list ≡ all_groups (take (declared_first (unit_at us 0)) (unit_at us 0)) ++ (all_groups (merged us) ++ all_groups (drop (declared_first (unit_at us 0)) (unit_at us 0))))
      (added_commons : all_commons (merged us) ≡ map (λ block. record { block = block; decls = map (common_decl us block) (range_with_len 0 (block_size us block)) }) (filter (is_merged us) (blocks us)))
      (added_groups : all_groups (merged us) ≡ flat_map (λ k. map (members_for us k) (all_groups (unit_at us k))) (units_but_main us)) where
    table : (x : List ℕ) → dims_named names x ≡ dims_of list x
    table x = same_dims x ∙ dims_in_table list x

    even : (k : ℕ) → list_any (is_mismatched_part us (unit_at us k)) (all_commons (unit_at us k)) ≡ false
    even = blocks-even stmts checked accepted

    own : (k : ℕ) (x : List ℕ) → dims_of (unit_at us k) x ≡ dims_of (declared_in us (entity_of us k x)).0 (declared_in us (entity_of us k x)).1
    own k x = (own-declared us k x (even k)).dims

    right : (k place : ℕ) (s : Labelled) → slice_get (unit_at us k) place ≡ Some s → has_wrong_dummy (unit_at us k) s.stmt ≡ false
    right = dummies-right stmts checked accepted

    pub placing : IsPlacing us names (listed_spot us names)
    placing = record {
      distances = distance us names table dims own right once (λ k block i x run there. place-there us block commons added_commons even k i x run there) (part-there us groups_of (members_for us) (members-same us kept) groups added_groups) formed.places.equal;
      apart = linked-apart us names table dims own right once (λ block i n there. place-back us block commons added_commons even i n there) (part-back us groups_of (members_for us) (members-same us kept) groups added_groups) formed.declarations.common formed.declarations.equivalence apart shares;
    }

    pub ends-known : (d : Distance) → Declares us d → IsKnown us names d.from × IsKnown us names d.to
    ends-known = both-known us names once (λ k block i x run there. place-there us block commons added_commons even k i x run there) (part-there us groups_of (members_for us) (members-same us kept) groups added_groups) formed.declarations.common formed.declarations.equivalence

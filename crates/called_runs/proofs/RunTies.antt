-- Words and names of frames and of the program, as a run beside the program needs them.
use Rattle.std.proofs.Common.{◌≡◌, ℕ, ◌<◌, Bool, List, length, None, ℤ, subst}
use Rattle.f77_tree.specs.declared.programs.Program.{Program}
use Rattle.f77_tree.specs.declared.statements.Labelled.{Labelled}
use Rattle.f77_tree.specs.Value.{ArePlaced}
use Rattle.f77_tree.specs.WellFormed.{IsWellFormed}
use Rattle.copied_values.specs.ChangedTables.{AreChangedTables}
use Rattle.copied_values.specs.SideBySide.{IsPairing}
use Rattle.program_units.specs.Contexts.{IsReached}
use Rattle.program_units.specs.Copies.{Context, change_in, changes}
use Rattle.program_units.specs.declared.entity.Entity.{Entity}
use Rattle.program_units.specs.Layouts.{own_program}
use Rattle.program_units.specs.Refusals.{unit_refusal}
use Rattle.program_units.specs.Storage.{IsStorage, placed}
use Rattle.program_units.specs.Texts.{IsText}
use Rattle.program_units.specs.Units.{unit_at, units}
use Rattle.called_runs.specs.Expanded.{IsExpanded}
use Rattle.called_runs.specs.PairedWords.{IsPaired, listed_spot}
use Rattle.called_runs.proofs.RunGrounds.{table_of}

module _ (stmts : List Labelled) (checked : Bool) (p : Program) (expanded : IsExpanded stmts checked p) (spot : Entity → ℕ) where
  abbrev pub Paired : ℕ → ℕ → Type 0
  Paired = IsPaired (units stmts) p.names spot (listed_spot (units stmts) p.names)

  -- ---- of a context

  pub ties-tables : ((ss : List Labelled) (ch : Bool) (q : Program) → IsExpanded ss ch q → (at : Entity → ℕ) (k : ℕ) (arguments : List Entity) (depth base : ℕ) → AreChangedTables (placed (units ss) at k arguments (own_program (unit_at (units ss) k) ch).names) q.names (change_in (units ss) depth k base arguments))
      → (c : Context) → AreChangedTables (table_of (units stmts) checked spot c) p.names (changes (units stmts) c)
  ties-tables law c = law stmts checked p expanded spot c.unit c.arguments c.depth c.base

  -- ---- of a storage

  module _ (words : ℕ) (opening : List ℤ) (storage : IsStorage (units stmts) checked spot words opening) where
    pub ties-frame : ((ss : List Labelled) (ch : Bool) → IsText ss → unit_refusal ss ch ≡ None → (spot : Entity → ℕ) (words : ℕ) (opening : List ℤ) → IsStorage (units ss) ch spot words opening → (c : Context) (at : ℕ → ℕ) → IsReached (units ss) c at → ArePlaced (placed (units ss) spot c.unit c.arguments (own_program (unit_at (units ss) c.unit) ch).names) words)
        → (c : Context) (at : ℕ → ℕ) → IsReached (units stmts) c at → ArePlaced (table_of (units stmts) checked spot c) words
    ties-frame law c at reached = law stmts checked expanded.text expanded.accepted spot words opening storage c at reached

    pub ties-pairing : ((ss : List Labelled) (ch : Bool) (q : Program) → IsExpanded ss ch q → (spot : Entity → ℕ) (words : ℕ) (opening : List ℤ) → IsStorage (units ss) ch spot words opening → IsPairing (IsPaired (units ss) q.names spot (listed_spot (units ss) q.names))) → IsPairing Paired
    ties-pairing law = law stmts checked p expanded spot words opening storage

    pub ties-inside : ((ss : List Labelled) (ch : Bool) (q : Program) → IsExpanded ss ch q → (spot : Entity → ℕ) (words : ℕ) (opening : List ℤ) → IsStorage (units ss) ch spot words opening → (v w : ℕ) → IsPaired (units ss) q.names spot (listed_spot (units ss) q.names) v w → (v < length opening) × (w < length q.initial))
        → IsWellFormed p → (v w : ℕ) → Paired v w → (v < words) × (w < p.words)
    ties-inside law formed v w pair =
        let room = law stmts checked p expanded spot words opening storage v w pair in
        (subst (λ (n : ℕ). v < n) storage.as_many room.0, subst (λ (n : ℕ). w < n) formed.initial_count room.1)

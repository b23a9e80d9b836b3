-- What holds of the lines of a text holds of those of its expansion: each statement has the line of one of the text.
use Rattle.std.proofs.Common.{ℕ, zero, suc, ◌+◌, List, [], ◌∷◌, map, flat_map, length, Option, Some, None}
use Rattle.f77_tree.specs.declared.statements.Labelled.{Labelled}
use Rattle.f77_tree.specs.declared.statements.RawExpr.{RawExpr}
use Rattle.f77_tree.specs.declared.statements.Stmt.{Stmt}
use Rattle.f77_tree.specs.declared.statements.Stmt.TheVariants.{Equivalence, Init}
use Rattle.layout_rules.specs.Layout.{last_line}
use Rattle.program_units.specs.Copies.{Change, Context, Copying, around, changes, copy, piece_by, pieces}
use Rattle.program_units.specs.declared.entity.Entity.{Entity}
use Rattle.program_units.specs.Entities.{stands_for}
use Rattle.program_units.specs.Expansion.{data_for, equivalence_for, main_context, main_pieces, merged, whole_list}
use Rattle.program_units.specs.Units.{Call, guard_of, unit_at, unit_of}
use Rattle.program_units.specs.Widths.{body_labels, labels}
use Rattle.refusal_laws.proofs.Elements.{each-all, each-append, each-drop, each-flat, each-if, each-map, each-take}
use Rattle.refusal_laws.proofs.LaidLines.{Stand}

module _ (P : ℕ → Type 0) where
  abbrev At : Labelled → Type 0
  At s = P s.line

  abbrev Any : {A : Type 0} → A → Type 0
  Any a = Unit {0}

  around-stands : (c : Change) (a b line : ℕ) (guard : Option RawExpr) (body : List Labelled) → P line → Stand P body → Stand P (around c a b line guard body)
  around-stands c a b line None body at all = search (each-append At, at, all)
  around-stands c a b line (Some condition) body at all = search (each-append At, at, all)

  module _ (us : List (List Labelled)) (units : (k : ℕ) → Stand P (unit_at us k)) where
    piece-stands : (body : Copying) → ((k : ℕ) (arguments : List Entity) (base : ℕ) → Stand P (body k arguments base)) → (c : Context) (m : ℕ) (s : Labelled) → P s.line → (call : Option Call) → Stand P (piece_by body us c m s call)
    piece-stands body copied c m s at None = (at, tt)
    piece-stands body copied c m s at (Some call) =
        let passed : List Entity = map (stands_for us c.unit c.arguments) call.arguments in
        around-stands (changes us c) m (m + body_labels us c.depth (unit_of us call.name) + 1) s.line (guard_of s.stmt) (body (unit_of us call.name) passed m) at (copied (unit_of us call.name) passed m)

    pieces-stand : (body : Copying) → ((k : ℕ) (arguments : List Entity) (base : ℕ) → Stand P (body k arguments base)) → (c : Context) (before : ℕ) (stmts : List Labelled) → Stand P stmts → Stand P (pieces body us c before stmts)
    pieces-stand body copied c before [] all = tt
    pieces-stand body copied c before (s ∷ rest) all = search (each-append At, each-if At, piece-stands body copied c, pieces-stand body copied c (before + labels (body_labels us c.depth) us c.unit s) rest)

    copy-stands : (depth k : ℕ) (arguments : List Entity) (base : ℕ) → Stand P (copy us depth k arguments base)
    copy-stands zero k arguments base = tt
    copy-stands (suc depth) k arguments base = pieces-stand (copy us depth) (copy-stands depth) (record { depth = depth; unit = k; arguments = arguments; base = base }) 0 (unit_at us k) (units k)

    main-stands : (before : ℕ) (stmts : List Labelled) → Stand P stmts → Stand P (main_pieces us before stmts)
    main-stands before stmts all = pieces-stand (copy us (length us)) (copy-stands (length us)) (main_context us) before stmts all

    ties-stand : (k : ℕ) (s : Labelled) → P s.line → Stand P (equivalence_for us k s)
    ties-stand k s at = by s.label s.line s.stmt at
      where
        by : (label line : ℕ) (stmt : Stmt) → P line → Stand P (equivalence_for us k (record { label = label; line = line; stmt = stmt }))
        by label line (Equivalence groups) at = (at, tt)
        by label line _ at = tt

    datas-stand : (k : ℕ) (s : Labelled) → P s.line → Stand P (data_for us k s)
    datas-stand k s at = by s.label s.line s.stmt at
      where
        by : (label line : ℕ) (stmt : Stmt) → P line → Stand P (data_for us k (record { label = label; line = line; stmt = stmt }))
        by label line (Init parts) at = (at, tt)
        by label line _ at = tt

    -- made for each statement of each unit that a copy may stand for
    put-stands : (f : ℕ → Labelled → List Labelled) → ((k : ℕ) (s : Labelled) → P s.line → Stand P (f k s)) → (ks : List ℕ) → Stand P (flat_map (λ k. flat_map (f k) (unit_at us k)) ks)
    put-stands f puts ks = each-flat Any At (λ k. flat_map (f k) (unit_at us k)) (λ k any. each-flat At At (f k) (puts k) (unit_at us k) (units k)) ks (each-all Any (λ k. tt) ks)

    made-stands : {A : Type 0} (f : A → Labelled) → ((a : A) → P (f a).line) → (xs : List A) → Stand P (map f xs)
    made-stands f made xs = each-map Any At f (λ a any. made a) xs (each-all Any (λ a. tt) xs)

    module _ (end : P (last_line (unit_at us 0))) where
      merged-stands : Stand P (merged us)
      merged-stands = search (each-append At, made-stands, put-stands, ties-stand, datas-stand, end)

      pub whole-stands : Stand P (whole_list us)
      whole-stands = search (each-append At, main-stands, merged-stands, each-take At, each-drop At, units)

-- Whole pieces, as they are read.
use Rattle.std.proofs.Common.{◌≡◌, ℕ, Bool, false, cond, List, [], ◌∷◌, Some, None, Result, Err, refl, sym, ap, subst, ◌∙◌}
use Rattle.std.proofs.lemmas.Bool.{or_parts}
use Rattle.f77_tree.specs.declared.statements.RawExpr.{RawExpr}
use Rattle.f77_tree.specs.declared.statements.RawExpr.TheVariants.{Call, Apply}
use Rattle.op_table.specs.declared.Op.TheVariants.{Neg, Not}
use Rattle.f77_tree.specs.Grammar.{Written, Arguments, IsWritten, reading, readings, number_of, has_great_number, have_great_number}
use Rattle.f77_expr.specs.declared.parsed.ReadEnd.{ReadEnd}
use Rattle.f77_expr.specs.declared.parsed.ReadEnd.TheVariants.{NoForm, NoMemory}
use Rattle.f77_expr.specs.declared.parsed.ReadExpr.{ReadExpr}
use Rattle.f77_expr.specs.Parsing.{IsReadWhole, IsPieceRead}
use Rattle.f77_expr.specs.Reader.{expression_at}
use Rattle.f77_expr.specs.Answers.{kept_number, kept, kept_arguments, IsRead, Answers}
use Rattle.f77_expr.proofs.Readings.{read-written, written-read}

-- ---- what is kept is what is read, where no number is too great

mutual
  pub kept-reading : (w : Written) → has_great_number w ≡ false → kept w ≡ reading w
  kept-reading (Written.number digits) small = ap (λ b. kept_number (cond b None (Some (number_of digits)))) small
  kept-reading (Written.truth b) small = refl
  kept-reading (Written.name n) small = refl
  kept-reading (Written.call n arguments) small = ap (λ es. Call n es) (kept-readings arguments small)
  kept-reading (Written.bracketed w) small = kept-reading w small
  kept-reading (Written.plus w) small = kept-reading w small
  kept-reading (Written.minus w) small = ap (λ e. Apply Neg (e ∷ [])) (kept-reading w small)
  kept-reading (Written.negation w) small = ap (λ e. Apply Not (e ∷ [])) (kept-reading w small)
  kept-reading (Written.binary op a b) small =
      let parts = or_parts (has_great_number a) (has_great_number b) small in
      ap (λ e. Apply op (e ∷ kept b ∷ [])) (kept-reading a parts.0) ∙ ap (λ e. Apply op (reading a ∷ e ∷ [])) (kept-reading b parts.1)

  kept-readings : (arguments : Arguments) → have_great_number arguments ≡ false → kept_arguments arguments ≡ readings arguments
  kept-readings (Arguments.last w) small = ap (λ e. e ∷ []) (kept-reading w small)
  kept-readings (Arguments.before w more) small =
      let parts = or_parts (has_great_number w) (have_great_number more) small in
      ap (λ e. e ∷ kept_arguments more) (kept-reading w parts.0) ∙ ap (λ es. reading w ∷ es) (kept-readings more parts.1)

-- ---- pieces

-- what is no expression
pub nothing_written : (piece : List ℕ) → expression_at 0 piece ≡ None → (w : Written) → IsWritten piece w → ⊥
nothing_written piece none w is = let some = written-read piece w is in absurd cc

-- nor is what has more after an expression
pub more_written : (piece : List ℕ) (great : Bool) (e : RawExpr) (rest : List ℕ) (great_now : Bool) → IsRead piece great (expression_at 0 piece) e rest great_now → (rest ≡ [] → ⊥) → (w : Written) → IsWritten piece w → ⊥
more_written piece great e rest great_now i some w is =
    let read = i.is_read in
    let whole = written-read piece w is in
    let end : Written × List ℕ = (i.written, rest) in
    let prefix : Written × List ℕ = (w, []) in
    let same : end ≡ prefix = cc in
    some (ap (λ (p : Written × List ℕ). p.1) same)

module _ (piece : List ℕ) (e : RawExpr) (rest : List ℕ) (great_now : Bool) (i : IsRead piece false (expression_at 0 piece) e rest great_now) (whole : rest ≡ []) where
  spells : IsWritten piece i.written
  spells = read-written piece i.written (i.is_read ∙ ap (λ tail. Some (i.written, tail)) whole)

  -- an expression that is the whole piece
  pub whole_written : IsReadWhole piece e great_now
  whole_written = record { written = i.written; spells = spells; is_great = i.is_great; is_kept = i.is_kept; is = λ small. sym (i.is_kept ∙ kept-reading i.written small) }

-- an error of the reader
pub piece_fails : {A : Type 0} (P : A → Type 0) (piece : List ℕ) (from : ℕ) (part : Result A ReadEnd) (whole : Result ReadExpr ReadEnd) (e : ReadEnd) → part ≡ Err e → whole ≡ Err e → Answers P (expression_at 0 piece ≡ None) part → IsPieceRead piece from whole
piece_fails {A = A} P piece from part whole e part_is whole_is h =
    subst (λ (r : Result ReadExpr ReadEnd). IsPieceRead piece from r) (sym whole_is) (by e (subst (λ (r : Result A ReadEnd). Answers P (expression_at 0 piece ≡ None) r) part_is h))
  where
    by : (end : ReadEnd) → Answers P (expression_at 0 piece ≡ None) (Err end) → IsPieceRead piece from (Err end)
    by NoForm none = nothing_written piece none
    by NoMemory h = tt

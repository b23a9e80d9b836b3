-- The end is the last piece of the joined graph.
use Rattle.std.proofs.Common.{◌≡◌, ◌+◌, List, [], ◌∷◌, length, get_or, flat_map, sum_by, refl, sym, ap, ◌∙◌, arith}
use Rattle.std.proofs.lemmas.Bool.{cond-false}
use Rattle.std.proofs.lemmas.List.{get_or_push, length_push, take_at}
use Rattle.std.proofs.lemmas.List.Sums.{position_or_len_is, sum_by_push}
use Rattle.std.specs.List.{position_or_len, range_with_len}
use Rattle.f77_tree.specs.declared.programs.Exec.{Exec}
use Rattle.f77_tree.specs.Control.{EndsWithEnd}
use Rattle.cfg_build.specs.declared.parts.Part.{Part}
use Rattle.cfg_build.specs.declared.parts.Target.TheVariants.{First}
use Rattle.cfg_build.specs.Parts.{parts, reached_parts, start_part, end_part, last_of}
use Rattle.cfg_build.specs.Joined.{is_same, is_joined, width, rows, finish}
use Rattle.cfg_build.proofs.PartOrder.{parts_apart, is_same_itself}
use Rattle.cfg_build.proofs.PieceNumbers.{length_rows}
use Rattle.cfg_build.proofs.ReachedPieces.{end_not_joined}

module _ (execs : List Exec) (end : EndsWithEnd execs) where
  abbrev before : List Part
  before = start_part ∷ flat_map (reached_parts execs) (range_with_len 0 (length execs))

  end_at : (d : Part) → get_or (parts execs) (length before) d ≡ end_part execs
  end_at d = get_or_push before (end_part execs) d (length before) refl

  end_position : position_or_len (λ part. is_same (First (last_of execs)) part.own) (parts execs) ≡ length before
  end_position =
      let all : length (parts execs) ≡ length before + 1 = length_push before (end_part execs) in
      position_or_len_is (λ (part : Part). is_same (First (last_of execs)) part.own) (parts execs) (length before) start_part (omega (arith, all))
      (λ k less. ap (λ (p : Part). is_same p.own (get_or (parts execs) k start_part).own) (sym (end_at start_part)) ∙ parts_apart execs end k (length before) less (omega (arith, all)))
      (λ h. ap (λ (p : Part). is_same (First (last_of execs)) p.own) (end_at start_part) ∙ is_same_itself (First (last_of execs)))

  finish_is : finish execs ≡ sum_by (width (parts execs)) before
  finish_is = grind (arith, sum_by (width (parts execs)), end_position, take_at before (end_part execs ∷ []) (length before))

  -- there is no piece after the end
  pub end_is_last : length (rows (parts execs)) ≡ finish execs + 1
  end_is_last =
      let all : length (rows (parts execs)) ≡ sum_by (width (parts execs)) (parts execs) = length_rows (parts execs) in
      let sum : sum_by (width (parts execs)) (parts execs) ≡ sum_by (width (parts execs)) before + width (parts execs) (end_part execs) = sum_by_push (width (parts execs)) before (end_part execs) in
      let one : width (parts execs) (end_part execs) ≡ 1 = cond-false (is_joined (parts execs) (end_part execs)) 2 1 (end_not_joined (parts execs) (end_part execs) refl) in
      omega (arith, all, sum, one, finish_is)

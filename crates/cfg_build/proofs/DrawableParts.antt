-- The parts of a program can be drawn: what `AreParts` asks of them.
use Rattle.std.proofs.Common.{◌≡◌, ℕ, suc, ◌+◌, ◌*◌, ◌<◌, ◌≤◌, ◌⊎◌, false, List, [], ◌∷◌, ◌++◌, length, get_or, flat_map, Some, refl, sym, ap, ◌∙◌, subst, ⊎_elim, arith, length-append}
use Rattle.std.proofs.lemmas.List.{length-map, length_push}
use Rattle.std.proofs.lemmas.List.Sums.{sum_by-append, sum_by-cons}
use Rattle.std.proofs.lemmas.Option.{slice_get_within}
use Rattle.std.specs.Prelude.{slice_get}
use Rattle.std.specs.List.{sum_by, range_with_len}
use Rattle.f77_tree.specs.declared.programs.Exec.{Exec}
use Rattle.f77_tree.specs.declared.programs.ExecKind.{ExecKind}
use Rattle.f77_tree.specs.declared.programs.NameInfo.{NameInfo}
use Rattle.f77_tree.specs.Control.{targets_of, EndsWithEnd}
use Rattle.f77_tree.specs.WellFormed.{AreExecs}
use Rattle.cfg_build.specs.declared.parts.Part.{Part}
use Rattle.cfg_build.specs.declared.parts.Target.{Target}
use Rattle.cfg_build.specs.declared.parts.Target.TheVariants.{Start, First}
use Rattle.cfg_build.specs.Parts.{parts, parts_of, reached_parts, start_part, end_part}
use Rattle.cfg_build.specs.Joined.{is_same}
use Rattle.cfg_build.specs.Tables.{IsOf, AreParts}
use Rattle.cfg_build.proofs.BuildingParts.{reached_parts-yes, reached_parts-no}
use Rattle.cfg_build.proofs.JoinedGraph.{IsPartAt, place_of_part}
use Rattle.list_laws.specs.Member.{Member}
use Rattle.list_laws.proofs.Members.{Member-at}
use Rattle.cfg_build.proofs.PartOrder.{parts_apart, length_is}
use Rattle.cfg_build.proofs.PartsFound.{IsWay, ways_in, IsExecPart, cases_part, way_leads}
use Rattle.cfg_build.proofs.PieceNumbers.{part_at}
use Rattle.cfg_build.proofs.ReachedNodes.{IsTold}

-- ---- targets

way_is_other : (execs : List Exec) (k : ℕ) (kind : ExecKind) (t : Target) → IsWay execs k kind t → is_same Start t ≡ false
way_is_other execs k kind t h = grind arith

-- no way leads to the start
out_is_other : (execs : List Exec) (p : Part) (t : Target) → Member (parts execs) p → Member p.outs t → is_same Start t ≡ false
out_is_other execs p t among m =
    ⊎_elim
    (λ (same : start_part ≡ p). ⊎_elim (λ (h : First 0 ≡ t). ap (is_same Start) (sym h)) (λ h. absurd h) (subst (λ (q : Part). Member q.outs t) (sym same) m))
    (λ (r : IsExecPart execs p ⊎ (end_part execs ≡ p)). ⊎_elim
    (λ (ep : IsExecPart execs p). way_is_other execs ep.at ep.exec.kind t (ways_in execs ep.at ep.exec.line ep.exec.kind p t ep.among m))
    (λ (same : end_part execs ≡ p). absurd (subst (λ (q : Part). Member q.outs t) (sym same) m))
    r)
    (cases_part execs p among)

-- the target of a part of an executable is that executable's
own_in : (execs : List Exec) (k line n : ℕ) (kind : ExecKind) (p : Part) → k < n → Member (parts_of execs k line kind) p → IsOf n p.own
own_in execs k line n h p l none = grind arith

own_of : (execs : List Exec) (p : Part) → EndsWithEnd execs → Member (parts execs) p → IsOf (length execs) p.own
own_of execs p end among =
    ⊎_elim
    (λ (same : start_part ≡ p). subst (λ (q : Part). IsOf (length execs) q.own) same tt)
    (λ (r : IsExecPart execs p ⊎ (end_part execs ≡ p)). ⊎_elim
    (λ (ep : IsExecPart execs p). own_in execs ep.at ep.exec.line (length execs) ep.exec.kind p (slice_get_within execs ep.at ep.exec ep.found) ep.among)
    (λ (same : end_part execs ≡ p). subst (λ (q : Part). IsOf (length execs) q.own) same (let l = length_is execs end in omega (arith, l)))
    r)
    (cases_part execs p among)

-- ---- how many parts there are, and how many ways

abbrev pub way_count : List Part → ℕ
way_count ps = sum_by (λ part. length part.outs) ps

few_parts_of : (execs : List Exec) (k line : ℕ) (kind : ExecKind) → length (parts_of execs k line kind) ≤ 2
few_parts_of execs k line h = grind arith

few_ways_of : (execs : List Exec) (k line : ℕ) (kind : ExecKind) → way_count (parts_of execs k line kind) ≤ 3 + length (targets_of kind)
few_ways_of execs k line h = grind (arith, length-map, length_push)

-- of the parts of an executable that control can't come to there are none
pub record IsFew (execs : List Exec) (k : ℕ) (exec : Exec) : Type 0 where
  pub parts : length (reached_parts execs k) ≤ 2
  pub ways : way_count (reached_parts execs k) ≤ 3 + length (targets_of exec.kind)

few_reached : (execs : List Exec) (k : ℕ) (exec : Exec) → slice_get execs k ≡ Some exec → IsFew execs k exec
few_reached execs k exec found = grind (arith, reached_parts-yes, few_parts_of, few_ways_of, reached_parts-no)

-- the parts of the executables from one on
pub record AreFew (execs : List Exec) (a : ℕ) (rest : List Exec) : Type 0 where
  pub parts : length (flat_map (reached_parts execs) (range_with_len a (length rest))) ≤ 2 * length rest
  pub ways : way_count (flat_map (reached_parts execs) (range_with_len a (length rest))) ≤ 3 * length rest + sum_by (λ exec. length (targets_of exec.kind)) rest

few_from : (execs : List Exec) (a : ℕ) (rest : List Exec) → ((k : ℕ) → slice_get execs (a + k) ≡ slice_get rest k) → AreFew execs a rest
few_from execs a [] same = record { parts = omega arith; ways = omega arith }
few_from execs a (exec ∷ rest) same =
    let at : a + 0 ≡ a = omega arith in
    let here : IsFew execs a exec = few_reached execs a exec (ap (slice_get execs) (sym at) ∙ same 0) in
    let there : AreFew execs (a + 1) rest = few_from execs (a + 1) rest (λ k. let e : a + 1 + k ≡ a + suc k = omega arith in ap (slice_get execs) e ∙ same (suc k)) in
    let more = flat_map (reached_parts execs) (range_with_len (a + 1) (length rest)) in
    record {
      parts = omega (arith, here.parts, there.parts, length-append (reached_parts execs a) more);
      ways = omega (arith, here.ways, there.ways, sum_by-append (λ (part : Part). length part.outs) (reached_parts execs a) more, sum_by-cons (λ (x : Exec). length (targets_of x.kind)) exec rest);
    }

few_all : (execs : List Exec) → AreFew execs 0 execs
few_all execs = few_from execs 0 execs (λ k. let e : 0 + k ≡ k = omega arith in ap (slice_get execs) e)

-- ---- all

pub are_parts : IsTold → (names : List NameInfo) (execs : List Exec) (loops : ℕ) → AreExecs names execs loops → AreParts (length execs) (parts execs)
are_parts told names execs loops well =
    let ps : List Part = parts execs in
    let middle = flat_map (reached_parts execs) (range_with_len 0 (length execs)) in
    let few : AreFew execs 0 execs = few_all execs in
    record {
      some = omega arith;
      start = refl;
      apart = parts_apart execs well.end;
      owns = λ j l. own_of execs (part_at ps j) well.end (Member-at ps j start_part l);
      leads = λ j i l m.
          let p : Part = part_at ps j in
          let t : Target = get_or p.outs i Start in
          let among : Member ps p = Member-at ps j start_part l in
          let out : Member p.outs t = Member-at p.outs i Start m in
          let at : IsPartAt ps t = place_of_part ps t (way_leads told names execs loops well p t among out) in
          record { place = at.place; exists = at.exists; own = at.own; other = out_is_other execs p t among out };
      few_parts = omega (arith, few.parts, well.count, length-append middle (end_part execs ∷ []));
      few_ways = omega (arith, few.ways, well.count, well.target_count, sum_by-cons (λ (part : Part). length part.outs) start_part (middle ++ end_part execs ∷ []), sum_by-append (λ (part : Part). length part.outs) middle (end_part execs ∷ []));
    }

-- The range of a DO is entered from its test alone, and its increment leads back to that.
use Rattle.std.proofs.Common.{◌≡◌, ◌≢◌, ℕ, zero, suc, ◌+◌, ◌<◌, ◌≤◌, Bool, true, false, cond, nat_lt, ◌&&◌, List, [], ◌∷◌, length, get_or, Contains, Option, Some, None, slice_get, refl, sym, ap, ◌∙◌, subst, inl, inr, ⊎_elim, arith}
use Rattle.std.proofs.lemmas.Bool.{cases_Bool, cases_lt, cond-false, false≢true}
use Rattle.closed_walks.specs.Graph.{edge_count, from, to}
use Rattle.f77_tree.specs.declared.programs.Exec.{Exec}
use Rattle.f77_tree.specs.declared.programs.ExecKind.{ExecKind}
use Rattle.f77_tree.specs.declared.programs.ExecKind.TheVariants.{Assign, Print, Pass, Test as Testing, Sign, Pick, DoStart, DoNext, End}
use Rattle.f77_tree.specs.declared.programs.NameInfo.{NameInfo}
use Rattle.f77_tree.specs.Control.{successors, successors_in, LeadsTo}
use Rattle.f77_tree.specs.Loops.{Loop, begun, begun_in, begun_at, incremented, incremented_in, incremented_at, do_start, do_next, InRange, IsLoop, Holds, ShareNone}
use Rattle.f77_tree.specs.WellFormed.{AreExecs}
use Rattle.cfg_build.specs.declared.parts.Part.{Part}
use Rattle.cfg_build.specs.declared.parts.Target.{Target}
use Rattle.cfg_build.specs.declared.parts.Target.TheVariants.{Start, First, Test}
use Rattle.cfg_build.specs.declared.pieces.Piece.{Piece}
use Rattle.cfg_build.specs.declared.pieces.PieceKind.{PieceKind}
use Rattle.cfg_build.specs.declared.pieces.PieceKind.TheVariants as piece
use Rattle.cfg_build.specs.Parts.{part, parts, parts_of, start_part, end_part}
use Rattle.cfg_build.specs.Joined.{rows, finish, is_joined, is_end, ways_to, number}
use Rattle.cfg_build.specs.Holds.{is_join}
use Rattle.cfg_build.specs.Flow.{flow}
use Rattle.cfg_build.specs.Passes.{out, kind_in}
use Rattle.cfg_build.specs.Shape.{kind_at, IsShaped}
use Rattle.cfg_build.specs.Zones.{exec_at, IsInBody, IsTest, IsPlain, IsWayIn, IsAtTest}
use Rattle.list_laws.specs.Member.{Member}
use Rattle.list_laws.proofs.Members.{Member-at, Contains-from_Member}
use Rattle.cfg_build.proofs.ReachedNodes.{IsTold}
use Rattle.cfg_build.proofs.Lowest.{IsMet}
use Rattle.cfg_build.proofs.JoinedGraph.{IsPartAt, place_of_part, number_of}
use Rattle.cfg_build.proofs.EndNumber.{end_is_last}
use Rattle.cfg_build.proofs.InDegrees.{same_first}
use Rattle.cfg_build.proofs.OutEdges.{first_out}
use Rattle.cfg_build.proofs.PieceKinds.{piece_of_join, piece_of_part}
use Rattle.cfg_build.proofs.PieceNumbers.{part_at, first_piece, own_piece, joins, own_below, first_below, IsPieceOf, piece_of}
use Rattle.cfg_build.proofs.PartsFound.{IsWay, To, Begins, Increments, ways_in, IsExecPart, cases_part, test_part, HasPart}
use Rattle.cfg_build.proofs.ReachedPieces.{apart, leads}
use Rattle.cfg_build.proofs.PartRoutes.{own_plain, old_kind}
use Rattle.cfg_build.proofs.LastPieces.{own_out}
use Rattle.cfg_build.proofs.Shaped.{shaped}
use Rattle.cfg_build.proofs.Strong.{flow_graph}
use Rattle.cfg_build.proofs.PlainEdges.{plain_old, IsOldWay, Back, Joins, Way, old_way}

-- ---- parts of an executable

-- the executable of a target
abbrev exec_of : Target → ℕ
exec_of Start = 0
exec_of (First k) = k
exec_of (Test k) = k

abbrev is_test : Target → Bool
is_test (Test k) = true
is_test _ = false

-- a part has the executable of its target, and branches where that is a test
record IsProper (p : Part) : Type 0 where
  exec : p.piece.exec ≡ exec_of p.own
  tests : is_test p.own ≡ true → p.piece.kind ≡ piece.Branch

abbrev IsOf : ℕ → Part → Type 0
IsOf k p = IsProper p × (exec_of p.own ≡ k)

as_first : (kind : PieceKind) (line k : ℕ) (outs : List Target) (p : Part) → part (First k) kind line k outs ≡ p → IsOf k p
as_first kind line k outs p same = subst (λ (x : Part). IsOf k x) same (record { exec = refl; tests = λ h. absurd (false≢true h) }, refl)

as_test : (line k : ℕ) (outs : List Target) (p : Part) → part (Test k) piece.Branch line k outs ≡ p → IsOf k p
as_test line k outs p same = subst (λ (x : Part). IsOf k x) same (record { exec = refl; tests = λ h. refl }, refl)

proper_in : (execs : List Exec) (k line : ℕ) (kind : ExecKind) (p : Part) → Member (parts_of execs k line kind) p → IsOf k p
proper_in execs k line h p none = grind (arith, as_first, as_test)

proper_part : (execs : List Exec) (p : Part) → Member (parts execs) p → IsProper p
proper_part execs p m = ⊎_elim
    (λ (h : start_part ≡ p). subst (λ (x : Part). IsProper x) h (record { exec = refl; tests = λ h. absurd (false≢true h) }))
    (⊎_elim
    (λ (r : IsExecPart execs p). (proper_in execs r.at r.exec.line r.exec.kind p r.among).0)
    (λ (h : end_part execs ≡ p). subst (λ (x : Part). IsProper x) h (record { exec = refl; tests = λ h. absurd (false≢true h) })))
    (cases_part execs p m)

-- ---- the ways of a DO

-- a way to an executable leaves the test of a DO that begins
tested : (execs : List Exec) (k line : ℕ) (kind : ExecKind) (loop : Loop) (p : Part) (i s : ℕ) → begun kind ≡ Some loop → Member (parts_of execs k line kind) p → i < length p.outs → get_or p.outs i (First 0) ≡ First s → test_part k line loop ≡ p
tested execs k line h loop p i s begins m some is = grind (arith, test_part)

-- an increment has one part, which leads to the test of its DO
incremented_outs : (execs : List Exec) (k line : ℕ) (kind : ExecKind) (loop : Loop) (p : Part) → incremented kind ≡ Some loop → Member (parts_of execs k line kind) p → p.outs ≡ Test (do_start execs loop.number) ∷ []
incremented_outs execs k line h loop p increments m = grind arith

-- ---- pieces after holds

module _ (told : IsTold) (met : IsMet) (names : List NameInfo) (execs : List Exec) (loops : ℕ) (well : AreExecs names execs loops) where
  abbrev ps : List Part
  ps = parts execs

  among : (j : ℕ) → j < length ps → Member ps (part_at ps j)
  among j some = Member-at ps j start_part some

  exec_own : (j : ℕ) → j < length ps → exec_at (flow execs) (own_piece ps j) ≡ exec_of (part_at ps j).own
  exec_own j some =
      grind (arith, old_kind told met names execs loops well (own_piece ps j) (own_below ps j some), own_piece ps j, own_below ps j some, piece_of_part ps j some, proper_part execs (part_at ps j) (among j some), part_at ps j, among j some)

  own_of_single : (j : ℕ) → is_joined ps (part_at ps j) ≡ false → first_piece ps j ≡ own_piece ps j
  own_of_single j single = let none : joins ps (part_at ps j) ≡ 0 = cond-false (is_joined ps (part_at ps j)) 1 0 single in omega (arith, none)

  exec_first : (j : ℕ) → j < length ps → exec_at (flow execs) (first_piece ps j) ≡ exec_of (part_at ps j).own
  exec_first j some = ⊎_elim
      (λ (joined : is_joined ps (part_at ps j) ≡ true).
      ap (λ (q : Piece). q.exec) (old_kind told met names execs loops well (first_piece ps j) (first_below ps j some) ∙ piece_of_join ps j some joined)
      ∙ (proper_part execs (part_at ps j) (among j some)).exec)
      (λ (single : is_joined ps (part_at ps j) ≡ false). ap (λ x. exec_at (flow execs) x) (own_of_single j single) ∙ exec_own j some)
      (cases_Bool (is_joined ps (part_at ps j)))

  -- the executable of the piece to which a way leads
  exec_led : (j i : ℕ) → j < length ps → i < length (part_at ps j).outs → exec_at (flow execs) (number ps (get_or (part_at ps j).outs i (First 0))) ≡ exec_of (get_or (part_at ps j).outs i (First 0))
  exec_led j i some within =
      let t : Target = get_or (part_at ps j).outs i (First 0) in
      let r : IsPartAt ps t = place_of_part ps t (leads told names execs loops well (part_at ps j) t (among j some) (Member-at (part_at ps j).outs i (First 0) within)) in
      ap (λ x. exec_at (flow execs) x) (number_of ps (finish execs) (apart told names execs loops well) r.place t r.exists r.own)
      ∙ exec_first r.place r.exists ∙ ap exec_of r.own

  kind_own : (j : ℕ) → j < length ps → kind_at (flow execs) (own_piece ps j) ≡ (part_at ps j).piece.kind
  kind_own j some = ap (λ (q : Piece). q.kind) (old_kind told met names execs loops well (own_piece ps j) (own_below ps j some) ∙ piece_of_part ps j some)

  -- the own piece of a test
  and_yes : (b c : Bool) → c ≡ true → (b && c) ≡ b
  and_yes true c h = h
  and_yes false c h = refl

  own_test : (n j : ℕ) → j < length ps → (part_at ps j).own ≡ Test (do_start execs n) → IsTest execs n (own_piece ps j)
  own_test n j some own =
      let p : Part = part_at ps j in
      let kind : p.piece.kind ≡ piece.Branch = (proper_part execs p (among j some)).tests (ap is_test own) in
      let first : number ps (Test (do_start execs n)) ≡ first_piece ps j = number_of ps (finish execs) (apart told names execs loops well) j (Test (do_start execs n)) some own in
      let joined : is_joined ps p ≡ nat_lt 1 (ways_to ps (Test (do_start execs n))) =
      ap (λ t. nat_lt 1 (ways_to ps t) && cond (is_end p.piece.kind) false true) own
      ∙ and_yes (nat_lt 1 (ways_to ps (Test (do_start execs n)))) (cond (is_end p.piece.kind) false true) (ap (λ k. cond (is_end k) false true) kind) in
      record {
        at = ap (λ x. x + joins ps p) (sym first) ∙ ap (λ b. number ps (Test (do_start execs n)) + cond b 1 0) joined;
        kind = kind_own j some ∙ kind;
        exec = exec_own j some ∙ ap exec_of own;
      }

  -- ---- into a range

  strong_begins : (e : ℕ) → e < edge_count (flow execs).graph → from (flow execs).graph e < (flow execs).graph.nodes
  strong_begins = (flow_graph told met names execs loops well).sound.begins

  shape : IsShaped (flow execs) (finish execs)
  shape = shaped told met names execs loops well

  zero_outside : (n : ℕ) → InRange execs n 0 → ⊥
  zero_outside n r = omega (arith, r.after_start)

  module _ (n : ℕ) (few : n < loops) where
    loop_is : IsLoop execs n
    loop_is = well.loops_nest.each n few

    -- a DO that begins in a range is incremented in it
    inner_next : (loop : Loop) (k : ℕ) → incremented_at execs k ≡ Some loop → InRange execs n (do_start execs loop.number) → InRange execs n k
    inner_next loop k increments inside =
        let m : ℕ = loop.number in
        let m_few : m < loops = well.loops_nest.nexts k loop increments in
        let l : IsLoop execs m = well.loops_nest.each m m_few in
        let here : k ≡ do_next execs m = l.one_next k loop increments (λ _. loop.number) in
        let body : InRange execs m (suc (do_start execs m)) = record { after_start = omega arith; up_to_next = omega (arith, l.later) } in
        let next : InRange execs m k = record { after_start = omega (arith, here, l.later); up_to_next = omega (arith, here) } in
        ⊎_elim
        (λ (holds : Holds execs n m). holds k next)
        (⊎_elim
        (λ (holds : Holds execs m n). let r : InRange execs m (do_start execs m) = holds (do_start execs m) inside in absurd (omega (arith, r.after_start)))
        (λ (none : ShareNone execs n m).
        let apart : do_start execs m ≢ do_next execs n = λ (same : do_start execs m ≡ do_next execs n). both (slice_get execs (do_next execs n)) l.loop loop_is.loop (ap (λ x. begun_at execs x) (sym same) ∙ l.begins) loop_is.increments in
        let within : InRange execs n (suc (do_start execs m)) = record { after_start = omega (arith, inside.after_start); up_to_next = up inside.up_to_next apart } in
        absurd (none (suc (do_start execs m)) within body)))
        (well.loops_nest.nested n m few m_few)
      where
        up : {a b : ℕ} → a ≤ b → a ≢ b → suc a ≤ b
        up less apart = grind (arith, less, apart)

        both_kinds : (kind : ExecKind) (a b : Loop) → begun kind ≡ Some a → incremented kind ≡ Some b → ⊥
        both_kinds (Assign target value next) a b x y = cc
        both_kinds (Print items next) a b x y = cc
        both_kinds (Pass next) a b x y = cc
        both_kinds (Testing c d e) a b x y = cc
        both_kinds (Sign v c d e) a b x y = cc
        both_kinds (Pick v c d) a b x y = cc
        both_kinds (DoStart loop_no var first last step body exit) a b x y = cc
        both_kinds (DoNext loop_no var body exit) a b x y = cc
        both_kinds End a b x y = cc

        both : (exec : Option Exec) (a b : Loop) → begun_in exec ≡ Some a → incremented_in exec ≡ Some b → ⊥
        both None a b x y = cc
        both (Some exec) a b x y = both_kinds exec.kind a b x y

    module _ (e : ℕ) (outside : IsInBody execs n (from (flow execs).graph e) → ⊥) (inside : IsInBody execs n (to (flow execs).graph e)) where
      same_exec : exec_at (flow execs) (from (flow execs).graph e) ≡ exec_at (flow execs) (to (flow execs).graph e) → ⊥
      same_exec same = outside (subst (λ k. InRange execs n k) (sym same) inside)

      module _ (j i : ℕ) (some : j < length ps) (within : i < length (part_at ps j).outs) (begins : from (flow execs).graph e ≡ own_piece ps j) (ends : to (flow execs).graph e ≡ number ps (get_or (part_at ps j).outs i (First 0))) (at : e ≡ first_out ps (finish execs) (own_piece ps j) + i) where
        abbrev p : Part
        p = part_at ps j

        abbrev t : Target
        t = get_or (part_at ps j).outs i (First 0)

        led_in : InRange execs n (exec_of t)
        led_in = subst (λ k. InRange execs n k) (ap (λ x. exec_at (flow execs) x) ends ∙ exec_led j i some within) inside

        not_from : (k : ℕ) → exec_of p.own ≡ k → InRange execs n k → ⊥
        not_from k is r = outside (subst (λ m. InRange execs n m) (sym (ap (λ x. exec_at (flow execs) x) begins ∙ exec_own j some ∙ is)) r)

        by_test : (r : IsExecPart execs p) (s : ℕ) → t ≡ First s → Member (successors r.exec.kind) s → IsWayIn execs n e
        by_test r s is m =
            let k : ℕ = r.at in
            let own : exec_of p.own ≡ k = (proper_in execs k r.exec.line r.exec.kind p r.among).1 in
            let lead : LeadsTo execs k s = subst (λ e. Contains (successors_in e) s) (sym r.found) (Contains-from_Member (successors r.exec.kind) s m) in
            let led : InRange execs n s = subst (λ x. InRange execs n (exec_of x)) is led_in in
            let start : k ≡ do_start execs n = (well.loops_nest.entered n few k s (not_from k own) lead led).0 in
            let begins_kind : begun r.exec.kind ≡ Some loop_is.loop = ap begun_in (sym r.found) ∙ ap (λ x. begun_at execs x) start ∙ loop_is.begins in
            let part_is : test_part k r.exec.line loop_is.loop ≡ p = tested execs k r.exec.line r.exec.kind loop_is.loop p i s begins_kind r.among within is in
            let target : p.own ≡ Test (do_start execs n) = ap (λ (x : Part). x.own) (sym part_is) ∙ ap Test start in
            let two : length p.outs ≡ 2 = ap (λ (x : Part). length x.outs) (sym part_is) in
            let second : out (flow execs).graph (own_piece ps j) 1 ≡ first_out ps (finish execs) (own_piece ps j) + 1 =
            own_out told met names execs loops well p (record { place = j; exists = some; is = λ _. p }) 1 (omega (arith, two)) in
            record {
              test = subst (λ x. IsTest execs n x) (sym begins) (own_test n j some target);
              not_exit = λ (same : e ≡ out (flow execs).graph (from (flow execs).graph e) 1).
                  let e1 : e ≡ first_out ps (finish execs) (own_piece ps j) + 1 = same ∙ ap (λ x. out (flow execs).graph x 1) begins ∙ second in
                  let one : i ≡ 1 = omega (arith, e1, at) in
                  let exit : t ≡ First loop_is.loop.exit = ap (λ (x : Part). get_or x.outs i (First 0)) (sym part_is) ∙ ap (λ x. get_or (First loop_is.loop.body ∷ First loop_is.loop.exit ∷ []) x (First 0)) one in
                  loop_is.exit (subst (λ x. InRange execs n (exec_of x)) exit led_in);
            }

        by_way : (r : IsExecPart execs p) → IsWay execs r.at r.exec.kind t → IsWayIn execs n e
        by_way r (To s m is) = by_test r s is m
        by_way r (Begins loop begins is) =
            absurd (not_from r.at (proper_in execs r.at r.exec.line r.exec.kind p r.among).1 (subst (λ x. InRange execs n (exec_of x)) is led_in))
        by_way r (Increments loop increments is) =
            let inner : InRange execs n (do_start execs loop.number) = subst (λ x. InRange execs n (exec_of x)) is led_in in
            absurd (not_from r.at (proper_in execs r.at r.exec.line r.exec.kind p r.among).1 (inner_next loop r.at (ap incremented_in r.found ∙ increments) inner))

        by_part : IsWayIn execs n e
        by_part = ⊎_elim
            (λ (h : start_part ≡ p). absurd (zero_outside n (only i (subst (λ (x : Part). i < length x.outs) (sym h) within) (subst (λ (x : Part). InRange execs n (exec_of (get_or x.outs i (First 0)))) (sym h) led_in))))
            (⊎_elim
            (λ (r : IsExecPart execs p). by_way r (ways_in execs r.at r.exec.line r.exec.kind p t r.among (Member-at p.outs i (First 0) within)))
            (λ (h : end_part execs ≡ p). absurd (none (subst (λ (x : Part). i < length x.outs) (sym h) within))))
            (cases_part execs p (among j some))
          where
            only : (i : ℕ) → i < 1 → InRange execs n (exec_of (get_or (First 0 ∷ []) i (First 0))) → InRange execs n 0
            only zero some r = r
            only (suc i) some r = absurd (omega (arith, some))

            none : i < 0 → ⊥
            none h = omega (arith, h)

      by_old : IsOldWay told met names execs loops well e → IsWayIn execs n e
      by_old (Back begins ends) = grind (arith, exec_first 0, zero_outside n)
      by_old (Joins j some joined begins ends) = grind (arith, same_exec, exec_first j some, exec_own j some)
      by_old (Way j i some within begins ends at) = by_part j i some within begins ends at

    pub enters : (e : ℕ) → IsPlain (flow execs) e → (IsInBody execs n (from (flow execs).graph e) → ⊥) → IsInBody execs n (to (flow execs).graph e) → IsWayIn execs n e
    enters e plain outside inside = by_old e outside inside (old_way told met names execs loops well e (plain_old told met names execs loops well strong_begins e plain))

  -- ---- back to the test

  abbrev is_act : PieceKind → Bool
  is_act piece.Act = true
  is_act _ = false

  plain_way : (e : ℕ) → IsPlain (flow execs) e → IsOldWay told met names execs loops well e
  plain_way e plain = old_way told met names execs loops well e (plain_old told met names execs loops well strong_begins e plain)

  finish_kind : kind_at (flow execs) (finish execs) ≡ piece.End
  finish_kind = (shape.end (finish execs) shape.end_exists).1 (λ _. finish execs)

  join_own : (j : ℕ) → j < length ps → is_joined ps (part_at ps j) ≡ true → kind_at (flow execs) (first_piece ps j) ≡ piece.Join
  join_own j some joined = ap (λ (q : Piece). q.kind) (old_kind told met names execs loops well (first_piece ps j) (first_below ps j some) ∙ piece_of_join ps j some joined)

  own_not_join : (j : ℕ) → j < length ps → is_join (kind_at (flow execs) (own_piece ps j)) ≡ false
  own_not_join j some = ap (λ (q : Piece). is_join q.kind) (old_kind told met names execs loops well (own_piece ps j) (own_below ps j some)) ∙ own_plain told met names execs loops well j some

  join_leads : (n j : ℕ) → j < length ps → is_joined ps (part_at ps j) ≡ true → (part_at ps j).own ≡ Test (do_start execs n) → (e : ℕ) → IsOldWay told met names execs loops well e → from (flow execs).graph e ≡ first_piece ps j → IsTest execs n (to (flow execs).graph e)
  join_leads n j some joined own e (Back begins ends) at = grind (arith, finish_kind, join_own j some joined)
  join_leads n j some joined own e (Joins i i_some i_joined begins ends) at =
      grind (arith, same_first ps i j i_some some, own_piece ps, own_test n j some own)
  join_leads n j some joined own e (Way i nth i_some within begins ends place) at = grind (arith, own_not_join i i_some, join_own j some joined)

  at_test : (n j : ℕ) → j < length ps → (part_at ps j).own ≡ Test (do_start execs n) → IsAtTest execs n (first_piece ps j)
  at_test n j some own = ⊎_elim
      (λ (joined : is_joined ps (part_at ps j) ≡ true). inr (record {
        kind = join_own j some joined;
        leads = λ e plain at. join_leads n j some joined own e (plain_way e plain) at;
      }))
      (λ (single : is_joined ps (part_at ps j) ≡ false). inl (subst (λ x. IsTest execs n x) (sym (own_of_single j single)) (own_test n j some own)))
      (cases_Bool (is_joined ps (part_at ps j)))

  target_at_test : (n : ℕ) → HasPart ps (Test (do_start execs n)) → IsAtTest execs n (number ps (Test (do_start execs n)))
  target_at_test n h =
      let r : IsPartAt ps (Test (do_start execs n)) = place_of_part ps (Test (do_start execs n)) h in
      subst (λ x. IsAtTest execs n x) (sym (number_of ps (finish execs) (apart told names execs loops well) r.place (Test (do_start execs n)) r.exists r.own)) (at_test n r.place r.exists r.own)

  back_way : (e : ℕ) (loop : Loop) → kind_at (flow execs) (from (flow execs).graph e) ≡ piece.Act → incremented_at execs (exec_at (flow execs) (from (flow execs).graph e)) ≡ Some loop → IsOldWay told met names execs loops well e → IsAtTest execs loop.number (to (flow execs).graph e)
  back_way e loop acts increments (Back begins ends) = absurd (false≢true (ap is_act (sym finish_kind ∙ ap (λ x. kind_at (flow execs) x) (sym begins) ∙ acts)))
  back_way e loop acts increments (Joins j some joined begins ends) = absurd (false≢true (ap is_act (sym (join_own j some joined) ∙ ap (λ x. kind_at (flow execs) x) (sym begins) ∙ acts)))
  back_way e loop acts increments (Way j i some within begins ends at) =
      let p : Part = part_at ps j in
      let kind : p.piece.kind ≡ piece.Act = sym (kind_own j some) ∙ ap (λ x. kind_at (flow execs) x) (sym begins) ∙ acts in
      ⊎_elim
      (λ (h : start_part ≡ p). absurd (false≢true (ap (λ (x : Part). is_act x.piece.kind) h ∙ ap is_act kind)))
      (⊎_elim
      (λ (r : IsExecPart execs p).
      let k : exec_at (flow execs) (from (flow execs).graph e) ≡ r.at = ap (λ x. exec_at (flow execs) x) begins ∙ exec_own j some ∙ (proper_in execs r.at r.exec.line r.exec.kind p r.among).1 in
      let inc : incremented r.exec.kind ≡ Some loop = ap incremented_in (sym r.found) ∙ ap (λ x. incremented_at execs x) (sym k) ∙ increments in
      let outs : p.outs ≡ Test (do_start execs loop.number) ∷ [] = incremented_outs execs r.at r.exec.line r.exec.kind loop p inc r.among in
      let one : length p.outs ≡ 1 = ap (λ (ts : List Target). length ts) outs in
      let zeroth : i ≡ 0 = omega (arith, one, within) in
      let target : get_or p.outs i (First 0) ≡ Test (do_start execs loop.number) = ap (λ (ts : List Target). get_or ts i (First 0)) outs ∙ ap (λ x. get_or (Test (do_start execs loop.number) ∷ []) x (First 0)) zeroth in
      let has : HasPart ps (Test (do_start execs loop.number)) = leads told names execs loops well p (Test (do_start execs loop.number)) (among j some) (subst (λ (ts : List Target). Member ts (Test (do_start execs loop.number))) (sym outs) (inl refl)) in
      subst (λ x. IsAtTest execs loop.number x) (sym (ends ∙ ap (λ t. number ps t) target)) (target_at_test loop.number has))
      (λ (h : end_part execs ≡ p). absurd (false≢true (ap (λ (x : Part). is_act x.piece.kind) h ∙ ap is_act kind))))
      (cases_part execs p (among j some))

  pub returns : (e : ℕ) (loop : Loop) → IsPlain (flow execs) e → kind_at (flow execs) (from (flow execs).graph e) ≡ piece.Act → incremented_at execs (exec_at (flow execs) (from (flow execs).graph e)) ≡ Some loop → IsAtTest execs loop.number (to (flow execs).graph e)
  returns e loop plain acts increments = back_way e loop acts increments (plain_way e plain)

  -- ---- acts

  not_for_end : (execs : List Exec) (k line : ℕ) (kind : ExecKind) (p : Part) → Member (parts_of execs k line kind) p → kind ≡ End → ⊥
  not_for_end execs k line kind p m is = subst (λ x. Member (parts_of execs k line x) p) is m

  act_part : (j : ℕ) → j < length ps → (part_at ps j).piece.kind ≡ piece.Act → kind_in (slice_get execs (exec_of (part_at ps j).own)) ≡ End → ⊥
  act_part j some acts ends = ⊎_elim
      (λ (h : start_part ≡ part_at ps j). false≢true (ap (λ (x : Part). is_act x.piece.kind) h ∙ ap is_act acts))
      (⊎_elim
      (λ (r : IsExecPart execs (part_at ps j)).
      let own : exec_of (part_at ps j).own ≡ r.at = (proper_in execs r.at r.exec.line r.exec.kind (part_at ps j) r.among).1 in
      let kind : kind_in (slice_get execs (exec_of (part_at ps j).own)) ≡ r.exec.kind = ap (λ k. kind_in (slice_get execs k)) own ∙ ap kind_in r.found in
      not_for_end execs r.at r.exec.line r.exec.kind (part_at ps j) r.among (sym kind ∙ ends))
      (λ (h : end_part execs ≡ part_at ps j). false≢true (ap (λ (x : Part). is_act x.piece.kind) h ∙ ap is_act acts)))
      (cases_part execs (part_at ps j) (among j some))

  pub act_goes_on : (node : ℕ) → node < (flow execs).graph.nodes → kind_at (flow execs) node ≡ piece.Act → kind_in (slice_get execs (exec_at (flow execs) node)) ≢ End
  act_goes_on node below acts ends = ⊎_elim
      (λ (old : node < length (rows ps)).
      let r : IsPieceOf ps node = piece_of ps node old in
      ⊎_elim
      (λ (own : node ≡ own_piece ps r.part).
      act_part r.part r.exists (sym (kind_own r.part r.exists) ∙ ap (λ x. kind_at (flow execs) x) (sym own) ∙ acts)
      (ap (λ k. kind_in (slice_get execs k)) (sym (ap (λ x. exec_at (flow execs) x) own ∙ exec_own r.part r.exists)) ∙ ends))
      (λ (join : (is_joined ps (part_at ps r.part) ≡ true) × (node ≡ first_piece ps r.part)).
      false≢true (ap is_act (sym (join_own r.part r.exists join.0) ∙ ap (λ x. kind_at (flow execs) x) (sym join.1) ∙ acts)))
      r.which)
      (λ (h : length (rows ps) ≤ node).
      let last : length (rows ps) ≡ finish execs + 1 = end_is_last execs well.end in
      let hold : kind_at (flow execs) node ≡ piece.Hold = (shape.holds node below).1 (omega (arith, h, last)) in
      false≢true (ap is_act (sym hold ∙ acts)))
      (cases_lt node (length (rows ps)))

-- The chain of each executable that control can come to.
use Rattle.std.proofs.Common.{◌≡◌, ℕ, suc, ◌≤◌, true, false, List, [], ◌∷◌, ◌++◌, length, map, Option, Some, None, slice_get, unwrap_or, refl, sym, ap, ◌∙◌, subst, inl, arith}
use Rattle.std.proofs.lemmas.Bool.{false≢true}
use Rattle.f77_tree.specs.declared.programs.Exec.{Exec}
use Rattle.f77_tree.specs.declared.programs.ExecKind.{ExecKind}
use Rattle.f77_tree.specs.declared.programs.ExecKind.TheVariants.{Assign, Print, Pass, Test as Testing, Sign, Pick, DoStart, DoNext, End}
use Rattle.f77_tree.specs.declared.programs.NameInfo.{NameInfo}
use Rattle.f77_tree.specs.Control.{successors}
use Rattle.f77_tree.specs.Loops.{Loop, begun, begun_in, begun_at, incremented, incremented_in, incremented_at, do_start, do_next, IsLoop}
use Rattle.f77_tree.specs.WellFormed.{AreExecs}
use Rattle.cfg_build.specs.Control.{is_reached}
use Rattle.cfg_build.specs.declared.parts.Part.{Part}
use Rattle.cfg_build.specs.declared.parts.Target.TheVariants.{First, Test}
use Rattle.cfg_build.specs.declared.pieces.PieceKind.TheVariants as piece
use Rattle.cfg_build.specs.Parts.{part, parts, parts_of, end_part, last_of, line_in}
use Rattle.cfg_build.specs.Flow.{flow}
use Rattle.cfg_build.specs.Chains.{entry, has_test, following, chain}
use Rattle.cfg_build.specs.Routes.{holds_in, last_kind, owner, AreChain}
use Rattle.list_laws.specs.Member.{Member}
use Rattle.cfg_build.proofs.ReachedNodes.{IsTold}
use Rattle.cfg_build.proofs.Lowest.{IsMet}
use Rattle.cfg_build.proofs.PartOrder.{length_is}
use Rattle.cfg_build.proofs.PartsFound.{member_part, member_end, test_part, test_in, start_reached}
use Rattle.cfg_build.proofs.PartChains.{IsOneChain, one_chain}
use Rattle.cfg_build.proofs.TestChains.{IsTwoChain, two_chain}
use Rattle.std.proofs.lemmas.Grind.{elements}

own_owner : (execs : List Exec) (k : ℕ) (kind : ExecKind) → has_test kind ≡ false → owner execs k kind ≡ k
own_owner execs k h h2 = grind arith

-- the only part of an executable
record IsOnly (execs : List Exec) (k line : ℕ) (kind : ExecKind) : Type 0 where
  one : Part
  among : Member (parts_of execs k line kind) one
  own : one.own ≡ First k
  kind_is : one.piece.kind ≡ last_kind kind
  exec_is : one.piece.exec ≡ k
  line_is : one.piece.line ≡ line
  outs : one.outs ≡ map First (successors kind)

only_part : (execs : List Exec) (k line : ℕ) (kind : ExecKind) → has_test kind ≡ false → (kind ≡ End → ⊥) → IsOnly execs k line kind
only_part execs k line (Assign target value next) h other = record { one = part (First k) piece.Act line k (First next ∷ []); among = inl refl; own = refl; kind_is = refl; exec_is = refl; line_is = refl; outs = refl }
only_part execs k line (Print items next) h other = record { one = part (First k) piece.Act line k (First next ∷ []); among = inl refl; own = refl; kind_is = refl; exec_is = refl; line_is = refl; outs = refl }
only_part execs k line (Pass next) h other = record { one = part (First k) piece.Pass line k (First next ∷ []); among = inl refl; own = refl; kind_is = refl; exec_is = refl; line_is = refl; outs = refl }
only_part execs k line (Testing c a b) h other = record { one = part (First k) piece.Branch line k (First a ∷ First b ∷ []); among = inl refl; own = refl; kind_is = refl; exec_is = refl; line_is = refl; outs = refl }
only_part execs k line (Sign e a b c) h other = record { one = part (First k) piece.Branch line k (First a ∷ First b ∷ First c ∷ []); among = inl refl; own = refl; kind_is = refl; exec_is = refl; line_is = refl; outs = refl }
only_part execs k line (Pick e targets o) h other = record { one = part (First k) piece.Branch line k (map First (targets ++ o ∷ [])); among = inl refl; own = refl; kind_is = refl; exec_is = refl; line_is = refl; outs = refl }
only_part execs k line (DoStart loop_no var first last step body exit) h other = absurd (false≢true (sym h))
only_part execs k line (DoNext loop_no var body exit) h other = absurd (false≢true (sym h))
only_part execs k line End h other = absurd (other refl)

-- the act of a DO
record IsDoAct (execs : List Exec) (k line : ℕ) (kind : ExecKind) : Type 0 where
  one : Part
  among : Member (parts_of execs k line kind) one
  own : one.own ≡ First k
  kind_is : one.piece.kind ≡ piece.Act
  exec_is : one.piece.exec ≡ k
  line_is : one.piece.line ≡ line
  outs : one.outs ≡ Test (owner execs k kind) ∷ []

do_act : (execs : List Exec) (k line : ℕ) (kind : ExecKind) → has_test kind ≡ true → IsDoAct execs k line kind
do_act execs k line (DoStart loop_no var first last step body exit) h = record { one = part (First k) piece.Act line k (Test k ∷ []); among = inl refl; own = refl; kind_is = refl; exec_is = refl; line_is = refl; outs = refl }
do_act execs k line (DoNext loop_no var body exit) h = record { one = part (First k) piece.Act line k (Test (do_start execs loop_no) ∷ []); among = inl refl; own = refl; kind_is = refl; exec_is = refl; line_is = refl; outs = refl }
do_act execs k line (Assign target value next) h = absurd (false≢true h)
do_act execs k line (Print items next) h = absurd (false≢true h)
do_act execs k line (Pass next) h = absurd (false≢true h)
do_act execs k line (Testing c a b) h = absurd (false≢true h)
do_act execs k line (Sign e a b c) h = absurd (false≢true h)
do_act execs k line (Pick e targets other) h = absurd (false≢true h)
do_act execs k line End h = absurd (false≢true h)

some_loop : (a b : Loop) → Some a ≡ Some b → a ≡ b
some_loop a b same = ap (λ (o : Option Loop). unwrap_or o a) same

-- the DO of the test
pub record IsTested (execs : List Exec) (k : ℕ) (kind : ExecKind) : Type 0 where
  pub loop : Loop
  pub begins : begun_at execs (owner execs k kind) ≡ Some loop
  pub reached : is_reached execs (owner execs k kind) ≡ true
  pub outs : First loop.body ∷ First loop.exit ∷ [] ≡ map First (successors kind)

module _ (told : IsTold) (met : IsMet) (names : List NameInfo) (execs : List Exec) (loops : ℕ) (well : AreExecs names execs loops) where
  pub tested_by : (k : ℕ) (kind : ExecKind) → is_reached execs k ≡ true → ((loop : Loop) → begun kind ≡ Some loop → begun_at execs k ≡ Some loop) → ((loop : Loop) → incremented kind ≡ Some loop → incremented_at execs k ≡ Some loop) → has_test kind ≡ true → IsTested execs k kind
  tested_by k (DoStart loop_no var first last step body exit) reached begins increments h =
      let loop : Loop = record { number = loop_no; variable = var; body = body; exit = exit } in
      record { loop = loop; begins = begins loop refl; reached = reached; outs = refl }
  tested_by k (DoNext loop_no var body exit) reached begins increments h =
      let loop : Loop = record { number = loop_no; variable = var; body = body; exit = exit } in
      let is : IsLoop execs loop_no = well.loops_nest.each loop_no (well.loops_nest.nexts k loop (increments loop refl)) in
      let here : k ≡ do_next execs loop_no = is.one_next k loop (increments loop refl) refl in
      let same : is.loop ≡ loop = some_loop is.loop loop (sym is.increments ∙ ap (λ n. incremented_at execs n) (sym here) ∙ increments loop refl) in
      record { loop = loop; begins = is.begins ∙ ap (λ (l : Loop). Some l) same; reached = start_reached told names execs loops well k loop reached (increments loop refl); outs = refl }
  tested_by k (Assign target value next) reached begins increments h = absurd (false≢true h)
  tested_by k (Print items next) reached begins increments h = absurd (false≢true h)
  tested_by k (Pass next) reached begins increments h = absurd (false≢true h)
  tested_by k (Testing c a b) reached begins increments h = absurd (false≢true h)
  tested_by k (Sign e a b c) reached begins increments h = absurd (false≢true h)
  tested_by k (Pick e targets other) reached begins increments h = absurd (false≢true h)
  tested_by k End reached begins increments h = absurd (false≢true h)

  test_at : (d : ℕ) (loop : Loop) (exec : Option Exec) → slice_get execs d ≡ exec → begun_in exec ≡ Some loop → is_reached execs d ≡ true → Member (parts execs) (test_part d (line_in exec) loop)
  test_at d loop None found begins reached = absurd cc
  test_at d loop (Some exec) found begins reached = search (member_part, test_part, test_in, arith)

  -- its pieces are as they are said to be, all that can be followed, one hold among them at most
  pub record IsFound (k : ℕ) (kind : ExecKind) : Type 0 where
    pub are : AreChain (flow execs) (entry execs) execs k (has_test kind) kind (chain execs k)
    pub whole : (most : ℕ) → 5 ≤ most → following most execs (entry execs k) ≡ chain execs k
    pub one : holds_in (flow execs) (chain execs k) ≤ 1

  module _ (k : ℕ) (exec : Exec) (found : slice_get execs k ≡ Some exec) (reached : is_reached execs k ≡ true) where
    line_found : exec.line ≡ line_in (slice_get execs k)
    line_found = ap line_in (sym found)

    of_two : has_test exec.kind ≡ true → IsFound k exec.kind
    of_two two =
        let act : IsDoAct execs k exec.line exec.kind = do_act execs k exec.line exec.kind two in
        let t : IsTested execs k exec.kind = tested_by k exec.kind reached (λ loop begins. ap (λ e. begun_in e) found ∙ begins) (λ loop increments. ap (λ e. incremented_in e) found ∙ increments) two in
        let d : ℕ = owner execs k exec.kind in
        let test : Part = test_part d (line_in (slice_get execs d)) t.loop in
        let c : IsTwoChain told met names execs loops well k exec.kind =
        two_chain told met names execs loops well k exec found two act.one test (record {
          act_in = member_part execs act.one (record { at = k; exec = exec; found = found; reached = reached; among = act.among });
          test_in = test_at d t.loop (slice_get execs d) refl t.begins t.reached;
          first = act.own;
          acts = act.kind_is;
          act_exec = act.exec_is;
          act_line = act.line_is ∙ line_found;
          leads = act.outs;
          tests = refl;
          test_exec = refl;
          test_line = refl;
          outs = t.outs;
        }) in
        record { are = subst (λ b. AreChain (flow execs) (entry execs) execs k b exec.kind (chain execs k)) (sym two) c.is; whole = c.whole; one = c.one }

    as_one : has_test exec.kind ≡ false → IsOneChain told met names execs loops well k exec.kind → IsFound k exec.kind
    as_one single c = record { are = subst (λ b. AreChain (flow execs) (entry execs) execs k b exec.kind (chain execs k)) (sym single) c.is; whole = c.whole; one = c.one }

    of_end : has_test exec.kind ≡ false → exec.kind ≡ End → IsFound k exec.kind
    of_end single ends =
        let here : suc k ≡ length execs = (well.end.last k exec found).0 ends in
        let all : length execs ≡ suc (last_of execs) = length_is execs well.end in
        let is : last_of execs ≡ k = omega (arith, here, all) in
        as_one single (one_chain told met names execs loops well k exec found single (own_owner execs k exec.kind single) (end_part execs) (member_end execs)
        (ap First is) (ap last_kind (sym ends)) is (ap (λ n. line_in (slice_get execs n)) is) (ap (λ kind. map First (successors kind)) (sym ends)))

    of_other : has_test exec.kind ≡ false → (exec.kind ≡ End → ⊥) → IsFound k exec.kind
    of_other single other =
        let p : IsOnly execs k exec.line exec.kind = only_part execs k exec.line exec.kind single other in
        as_one single (one_chain told met names execs loops well k exec found single (own_owner execs k exec.kind single) p.one
        (member_part execs p.one (record { at = k; exec = exec; found = found; reached = reached; among = p.among })) p.own p.kind_is p.exec_is (p.line_is ∙ line_found) p.outs)

    pub chain_found : IsFound k exec.kind
    chain_found = grind (arith, elements, of_two, of_end, of_other)

-- In a scan the next edge of a class is the next one from the start.
use Rattle.std.proofs.Common.{◌≡◌, ◌≢◌, ℕ, ◌<◌, ◌⊎◌, List, [], ◌∷◌, ◌++◌, Option, Some, None, length, take, get_or, refl, sym, ap, ◌∙◌, subst, inl, inr, ⊎_elim, arith, append_assoc, length-append}
use Rattle.std.proofs.lemmas.Bool.{cases_eq, eq-eqb, ne_eqb}
use Rattle.std.proofs.Math.Seq.{take-append_seam, get_or-append_seam}
use Rattle.closed_walks.specs.Graph.{Graph, edge_count, from}
use Rattle.closed_walks.specs.Walk.{Holds}
use Rattle.closed_walks.specs.Cycle.{AllDiffer}
use Rattle.closed_walks.specs.Numbering.{IsNumbering}
use Rattle.closed_walks.specs.Region.{IsPair, IsBefore, IsInside, IsRegion}
use Rattle.region_tree.specs.Classes.{first_of, next_of}
use Rattle.region_tree.specs.Scan.{IsScan}
use Rattle.region_tree.specs.Facts.{RegionFacts, HasSides}
use Rattle.closed_walks.proofs.Held.{Holds-right, Holds-append, AllDiffer-apart, AllDiffer-right, IsSplitAt, split_at}

pub option_cases : (v : Option ℕ) → (v ≡ None) ⊎ ((y : ℕ) × (v ≡ Some y))
option_cases None = inl refl
option_cases (Some y) = inr (y, refl)

-- the first edge of a class, what stands before it, and what after it
record IsFirst (classes : List ℕ) (class : ℕ) (edges : List ℕ) (y : ℕ) : Type 0 where
  pub between : List ℕ
  pub rest : List ℕ
  pub parts : edges ≡ between ++ y ∷ rest
  pub same : get_or classes y 0 ≡ class
  pub none : (c : ℕ) → Holds between c → get_or classes c 0 ≢ class

module _ (classes : List ℕ) (class : ℕ) where
  first_some : (edges : List ℕ) (y : ℕ) → first_of classes class edges ≡ Some y → IsFirst classes class edges y
  first_some [] y is = absurd cc
  first_some (e ∷ edges) y is = ⊎_elim
      (λ (same : get_or classes e 0 ≡ class).
      let here : Some e ≡ Some y = rw (eq-eqb (get_or classes e 0) class same) at is in
      let e_is_y : e ≡ y = cc in
      record { between = []; rest = edges; parts = ap (λ x. x ∷ edges) e_is_y; same = subst (λ x. get_or classes x 0 ≡ class) e_is_y same; none = λ c h. absurd h })
      (λ (apart : get_or classes e 0 ≢ class).
      let later : first_of classes class edges ≡ Some y = rw (ne_eqb (get_or classes e 0) class apart) at is in
      let f : IsFirst classes class edges y = first_some edges y later in
      record {
        between = e ∷ f.between;
        rest = f.rest;
        parts = ap (λ xs. e ∷ xs) f.parts;
        same = f.same;
        none = λ c h. ⊎_elim (λ (is_e : e ≡ c). subst (λ x. get_or classes x 0 ≢ class) is_e apart) (λ old. f.none c old) h;
      })
      (cases_eq (get_or classes e 0) class)

  first_none : (edges : List ℕ) → first_of classes class edges ≡ None → (c : ℕ) → Holds edges c → get_or classes c 0 ≢ class
  first_none [] is c h = absurd h
  first_none (e ∷ edges) is c h = ⊎_elim
      (λ (same : get_or classes e 0 ≡ class). let here : Some e ≡ None = rw (eq-eqb (get_or classes e 0) class same) at is in absurd cc)
      (λ (apart : get_or classes e 0 ≢ class).
      let later : first_of classes class edges ≡ None = rw (ne_eqb (get_or classes e 0) class apart) at is in
      ⊎_elim (λ (is_e : e ≡ c). subst (λ x. get_or classes x 0 ≢ class) is_e apart) (λ old. first_none edges later c old) h)
      (cases_eq (get_or classes e 0) class)

-- the next edge is the first after the edge
record IsAfter (classes edges : List ℕ) (e : ℕ) : Type 0 where
  pub prefix : List ℕ
  pub back : List ℕ
  pub parts : edges ≡ prefix ++ e ∷ back
  pub is : next_of classes e edges ≡ first_of classes (get_or classes e 0) back

beyond : (classes edges : List ℕ) (e : ℕ) → Holds edges e → IsAfter classes edges e
beyond classes [] e h = absurd h
beyond classes (f ∷ edges) e h = ⊎_elim
    (λ (same : f ≡ e). record { prefix = []; back = edges; parts = ap (λ x. x ∷ edges) same; is = rw (eq-eqb f e same) (ap (λ x. first_of classes (get_or classes x 0) edges) same) })
    (λ (apart : f ≢ e).
    let b : IsAfter classes edges e = beyond classes edges e (⊎_elim (λ same. absurd (apart same)) (λ rest. rest) h) in
    record { prefix = f ∷ b.prefix; back = b.back; parts = ap (λ xs. f ∷ xs) b.parts; is = rw (ne_eqb f e apart) b.is })
    (cases_eq f e)

pub pair_back : (g : Graph) (a b : ℕ) → IsPair g a b → IsPair g b a
pair_back g a b p = record { first = p.second; second = p.first; apart = λ same. p.apart (sym same); same = record { forth = p.same.back; back = p.same.forth } }

module _ (g : Graph) (f : RegionFacts g) (edges : List ℕ) (scan : IsScan g edges) where
  -- of two edges of a class the one that stands before the other is met before it
  stands_before : (a b : ℕ) (prefix back : List ℕ) → edges ≡ prefix ++ a ∷ back → Holds back b → IsPair g a b → IsBefore g a b
  stands_before a b prefix back parts held p = ⊎_elim
      (λ before. before)
      (λ (after : IsBefore g b a).
      let sides : HasSides g b a = f.sides b a (pair_back g a b p) in
      let long = length-append prefix (a ∷ back) in
      let within : length prefix < length edges = rw parts (omega (arith, long)) in
      let at : get_or edges (length prefix) 0 ≡ a = rw parts (get_or-append_seam prefix a back 0) in
      let inside : IsInside g b a (from g (get_or edges (length prefix) 0)) = rw at ((sides.1 (from g a)).0 sides.2.exit_tail) in
      let first : Holds (take (length prefix) edges) b = f.grown b a edges (pair_back g a b p) after scan.grown (length prefix) within inside in
      let seam : take (length prefix) edges ≡ prefix = rw parts (take-append_seam prefix (a ∷ back)) in
      absurd (AllDiffer-apart prefix (a ∷ back) b (subst (λ xs. AllDiffer xs) parts scan.once) (subst (λ xs. Holds xs b) seam first) (inr held)))
      (f.either a b p)

  module _ (classes : List ℕ) (numbering : IsNumbering g classes) where
    pair_of : (a b : ℕ) → a < edge_count g → b < edge_count g → a ≢ b → get_or classes a 0 ≡ get_or classes b 0 → IsPair g a b
    pair_of a b in_a in_b apart same = record { first = in_a; second = in_b; apart = apart; same = (numbering.same a b in_a in_b).0 same }

    -- the edge and the next one of its class are a region
    pub next_region : (a b : ℕ) → a < edge_count g → next_of classes a edges ≡ Some b → IsRegion g a b
    next_region a b edge is =
        let held : IsAfter classes edges a = beyond classes edges a (scan.all a edge) in
        let first : IsFirst classes (get_or classes a 0) held.back b = first_some classes (get_or classes a 0) held.back b (sym held.is ∙ is) in
        let once : AllDiffer (held.prefix ++ a ∷ held.back) = subst (λ xs. AllDiffer xs) held.parts scan.once in
        let there : Holds held.back b = subst (λ xs. Holds xs b) (sym first.parts) (Holds-right first.between (b ∷ first.rest) b (inl refl)) in
        let apart : a ≢ b = λ same. (AllDiffer-right held.prefix (a ∷ held.back) once).0 (subst (λ x. Holds held.back x) (sym same) there) in
        let exists : b < edge_count g = scan.exist b (subst (λ xs. Holds xs b) (sym held.parts) (Holds-right held.prefix (a ∷ held.back) b (inr there))) in
        let p : IsPair g a b = pair_of a b edge exists apart (sym first.same) in
        let later : edges ≡ (held.prefix ++ a ∷ first.between) ++ b ∷ first.rest = held.parts ∙ (ap (λ xs. held.prefix ++ a ∷ xs) first.parts ∙ sym (append_assoc held.prefix (a ∷ first.between) (b ∷ first.rest))) in
        record {
          pair = p;
          before = stands_before a b held.prefix held.back held.parts there p;
          next = λ c in_c not_a not_b same.
              let class_same : get_or classes a 0 ≡ get_or classes c 0 = (numbering.same a c edge in_c).1 same in
              ⊎_elim
              (λ (l : Holds held.prefix c).
              let s : IsSplitAt held.prefix c = split_at held.prefix c l in
              let parts : edges ≡ s.prefix ++ c ∷ (s.back ++ a ∷ held.back) = held.parts ∙ (ap (λ xs. xs ++ a ∷ held.back) s.parts ∙ append_assoc s.prefix (c ∷ s.back) (a ∷ held.back)) in
              inl (stands_before c a s.prefix (s.back ++ a ∷ held.back) parts (Holds-right s.back (a ∷ held.back) a (inl refl)) (pair_of c a in_c edge not_a (sym class_same))))
              (⊎_elim
              (λ (is_a : a ≡ c). absurd (not_a (sym is_a)))
              (λ (r : Holds held.back c). ⊎_elim
              (λ (m : Holds first.between c). absurd (first.none c m (sym class_same)))
              (⊎_elim
              (λ (is_b : b ≡ c). absurd (not_b (sym is_b)))
              (λ (n : Holds first.rest c). inr (stands_before b c (held.prefix ++ a ∷ first.between) first.rest later n (pair_of b c exists in_c (λ is_c. not_b (sym is_c)) (first.same ∙ class_same)))))
              (Holds-append first.between (b ∷ first.rest) c (subst (λ xs. Holds xs c) first.parts r))))
              (Holds-append held.prefix (a ∷ held.back) c (subst (λ xs. Holds xs c) held.parts (scan.all c in_c)));
        }

    -- and each region is so
    pub region_next : (a b : ℕ) → IsRegion g a b → next_of classes a edges ≡ Some b
    region_next a b r = ⊎_elim
        (λ (none : next_of classes a edges ≡ None).
        let held : IsAfter classes edges a = beyond classes edges a (scan.all a r.pair.first) in
        let none_after = first_none classes (get_or classes a 0) held.back (sym held.is ∙ none) in
        let class_same : get_or classes a 0 ≡ get_or classes b 0 = (numbering.same a b r.pair.first r.pair.second).1 r.pair.same in
        absurd (⊎_elim
        (λ (l : Holds held.prefix b).
        let s : IsSplitAt held.prefix b = split_at held.prefix b l in
        let parts : edges ≡ s.prefix ++ b ∷ (s.back ++ a ∷ held.back) = held.parts ∙ (ap (λ xs. xs ++ a ∷ held.back) s.parts ∙ append_assoc s.prefix (b ∷ s.back) (a ∷ held.back)) in
        f.not_both a b r.pair r.before (stands_before b a s.prefix (s.back ++ a ∷ held.back) parts (Holds-right s.back (a ∷ held.back) a (inl refl)) (pair_back g a b r.pair)))
        (⊎_elim
        (λ (is_b : a ≡ b). r.pair.apart is_b)
        (λ (n : Holds held.back b). none_after b n (sym class_same)))
        (Holds-append held.prefix (a ∷ held.back) b (subst (λ xs. Holds xs b) held.parts (scan.all b r.pair.second)))))
        (λ (some : (y : ℕ) × (next_of classes a edges ≡ Some y)).
        some.1 ∙ ap Some (f.one_exit a some.0 b (next_region a some.0 r.pair.first some.1) r))
        (option_cases (next_of classes a edges))

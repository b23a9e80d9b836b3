-- How many edges come to a part's own piece in the graph of rows.
use Rattle.std.proofs.Common.{◌≡◌, ℕ, ◌+◌, ◌<◌, ◌≤◌, Bool, true, false, cond, ◌==◌, List, [], ◌∷◌, length, map, flat_map, sum_by, count_by, refl, sym, ap, ◌∙◌, ⊎_elim, arith}
use Rattle.std.proofs.lemmas.Bool.{cases_order, cases_eq, cond-true, cond-false, eq-eqb, ne_eqb}
use Rattle.std.proofs.lemmas.List.{map-append}
use Rattle.std.proofs.lemmas.List.Sums.{sum_by-cons, sum_by-append}
use Rattle.cfg_build.specs.declared.parts.Part.{Part}
use Rattle.cfg_build.specs.declared.parts.Target.{Target}
use Rattle.cfg_build.specs.Parts.{start_part}
use Rattle.cfg_build.specs.Joined.{Row, is_same, is_joined, width, number, ways_to, rows_of}
use Rattle.cfg_build.specs.Degrees.{in_degree}
use Rattle.cfg_build.specs.Control.{fan}
use Rattle.list_laws.specs.Member.{Member}
use Rattle.list_laws.proofs.Members.{at_of, Member-at}
use Rattle.cfg_build.proofs.Places.{begins_before}
use Rattle.cfg_build.proofs.PartOrder.{AreApart, is_same_itself, not_same}
use Rattle.cfg_build.proofs.PartsFound.{HasPart}
use Rattle.cfg_build.proofs.PieceNumbers.{part_at, first_piece, number_is, some_width}
use Rattle.cfg_build.proofs.JoinedGraph.{heads_in, row_graph, IsPartAt, place_of_part, number_of}
use Rattle.list_laws.proofs.Counts.{bit, bit_true, bit_false, count-cons, count_same, count_zero, count-map, count-flat_map, sum_same, sum_at}
use Rattle.cfg_build.proofs.FanCounts.{comes_to, heads_to, heads_of_fan}

module _ (ps : List Part) (y : ℕ) where
  -- how many edges come to y from the pieces of a part
  abbrev pub edges_from : Part → ℕ
  edges_from p = cond (is_joined ps p) (bit (number ps p.own + 1 == y)) 0 + count_by (λ t. number ps t == y) p.outs

  from_rows_of : (p : Part) → sum_by (heads_to y) (map (λ (row : Row). row.heads) (rows_of ps p)) ≡ edges_from p
  from_rows_of p =
      grind (arith, heads_to, count_by, count-map, cond-true, sum_by, heads_to y, sum_by (heads_to y), sum_by-cons (heads_to y), bit, count-cons, cond-false)

  from_rows_on : (qs : List Part) → sum_by (heads_to y) (map (λ (row : Row). row.heads) (flat_map (rows_of ps) qs)) ≡ sum_by edges_from qs
  from_rows_on [] = refl
  from_rows_on (q ∷ qs) =
      grind (arith, flat_map (rows_of ps) qs, map-append, sum_by, heads_to y, sum_by (heads_to y), sum_by-append (heads_to y), sum_by edges_from qs, sum_by-cons edges_from q qs, from_rows_of q, from_rows_on qs)

  pub in_degree_is : (finish : ℕ) → in_degree (row_graph ps finish) y ≡ bit (0 == y) + sum_by edges_from ps
  in_degree_is finish =
      grind (arith, row_graph ps finish, bit (0 == y), count_by (comes_to y) (fan 0 (heads_in ps)), comes_to y, heads_in ps, count-cons (comes_to y) (finish, 0) (fan 0 (heads_in ps)), count_by, sum_by (heads_to y) (heads_in ps), heads_to y, heads_of_fan y 0 (heads_in ps), sum_by, sum_by edges_from ps, from_rows_on ps)

-- ---- numbers of different parts

module _ (ps : List Part) where
  first_rises : (i j : ℕ) → i < j → j ≤ length ps → first_piece ps i + width ps (part_at ps i) ≤ first_piece ps j
  first_rises i j less within = begins_before (width ps) ps i j start_part less within

  pub same_first : (i j : ℕ) → i < length ps → j < length ps → first_piece ps i ≡ first_piece ps j → i ≡ j
  same_first i j some other same = ⊎_elim
      (λ (h : i ≡ j). h)
      (⊎_elim
      (λ (l : i < j). let r : first_piece ps i + width ps (part_at ps i) ≤ first_piece ps j = first_rises i j l (omega (arith, other)) in let w : 1 ≤ width ps (part_at ps i) = some_width ps (part_at ps i) in absurd (omega (arith, r, w, same)))
      (λ (l : j < i). let r : first_piece ps j + width ps (part_at ps j) ≤ first_piece ps i = first_rises j i l (omega (arith, some)) in let w : 1 ≤ width ps (part_at ps j) = some_width ps (part_at ps j) in absurd (omega (arith, r, w, same))))
      (cases_order i j)

  -- no part begins where a joined one has its own piece
  pub none_between : (i j : ℕ) → i < length ps → j < length ps → is_joined ps (part_at ps j) ≡ true → first_piece ps i ≡ first_piece ps j + 1 → ⊥
  none_between i j some other joined same =
      let wide : width ps (part_at ps j) ≡ 2 = cond-true (is_joined ps (part_at ps j)) 2 1 joined in
      ⊎_elim
      (λ (h : i ≡ j). let e : first_piece ps i ≡ first_piece ps j = ap (λ n. first_piece ps n) h in omega (arith, e, same))
      (⊎_elim
      (λ (l : i < j). let r : first_piece ps i + width ps (part_at ps i) ≤ first_piece ps j = first_rises i j l (omega (arith, other)) in omega (arith, r, same))
      (λ (l : j < i). let r : first_piece ps j + width ps (part_at ps j) ≤ first_piece ps i = first_rises j i l (omega (arith, some)) in omega (arith, r, wide, same)))
      (cases_order i j)

module _ (ps : List Part) (finish : ℕ) (apart : AreApart ps) (leads : (p : Part) (t : Target) → Member ps p → Member p.outs t → HasPart ps t) where
  none_first : (y : ℕ) → (j : ℕ) → j < length ps → y ≡ first_piece ps j → (p : Part) → Member ps p → cond (is_joined ps p) (bit (number ps p.own + 1 == y)) 0 ≡ 0
  none_first y j some is p m = grind (arith, at_of, first_piece, number_of, part_at, cond-true, bit, bit_false, ne_eqb, none_between, cond-false)

  same_number : (y j : ℕ) → j < length ps → y ≡ first_piece ps j → (t : Target) → HasPart ps t → (number ps t == y) ≡ is_same (part_at ps j).own t
  same_number y j some is t has =
      let r : IsPartAt ps t = place_of_part ps t has in
      let n : number ps t ≡ first_piece ps r.place = number_of ps finish apart r.place t r.exists r.own in
      ⊎_elim
      (λ (h : r.place ≡ j).
      let own : (part_at ps j).own ≡ t = ap (λ k. (part_at ps k).own) (sym h) ∙ r.own in
      eq-eqb (number ps t) y (n ∙ ap (λ k. first_piece ps k) h ∙ sym is) ∙ sym (ap (λ s. is_same s t) own ∙ is_same_itself t))
      (λ (h : r.place ≡ j → ⊥).
      ne_eqb (number ps t) y (λ (e : number ps t ≡ y). h (same_first ps r.place j r.exists some (sym n ∙ e ∙ is)))
      ∙ sym (not_same (part_at ps j).own t (λ (e : (part_at ps j).own ≡ t). h (same_first ps r.place j r.exists some (sym n ∙ ap (number ps) (sym e) ∙ number_is ps j apart some)))))
      (cases_eq r.place j)

  -- as many edges come to a part's first piece as ways lead to its target
  pub in_degree_first : (y j : ℕ) → j < length ps → y ≡ first_piece ps j → in_degree (row_graph ps finish) y ≡ bit (0 == y) + ways_to ps (part_at ps j).own
  in_degree_first y j some is =
      let own : Target = (part_at ps j).own in
      let e : in_degree (row_graph ps finish) y ≡ bit (0 == y) + sum_by (edges_from ps y) ps = in_degree_is ps y finish in
      let s : sum_by (edges_from ps y) ps ≡ sum_by (λ p. count_by (is_same own) p.outs) ps = sum_same (edges_from ps y) (λ (p : Part). count_by (is_same own) p.outs) ps
      (λ p m.
      let none : cond (is_joined ps p) (bit (number ps p.own + 1 == y)) 0 ≡ 0 = none_first y j some is p m in
      let same : count_by (λ t. number ps t == y) p.outs ≡ count_by (is_same own) p.outs = count_same (λ t. number ps t == y) (is_same own) p.outs (λ t out. same_number y j some is t (leads p t m out)) in
      omega (arith, none, same)) in
      let w : ways_to ps own ≡ sum_by (λ p. count_by (is_same own) p.outs) ps = count-flat_map (is_same own) (λ (p : Part). p.outs) ps in
      omega (arith, e, s, w)

  -- one edge comes to a part after a join
  pub in_degree_joined : (y j : ℕ) → j < length ps → is_joined ps (part_at ps j) ≡ true → y ≡ first_piece ps j + 1 → in_degree (row_graph ps finish) y ≡ 1
  in_degree_joined y j some joined is =
      let e : in_degree (row_graph ps finish) y ≡ bit (0 == y) + sum_by (edges_from ps y) ps = in_degree_is ps y finish in
      let b : bit (0 == y) ≡ 0 = bit_false (0 == y) (ne_eqb 0 y (λ (h : 0 ≡ y). omega (arith, h, is))) in
      let no_out : (p : Part) → Member ps p → count_by (λ t. number ps t == y) p.outs ≡ 0 = λ p m.
      count_zero (λ t. number ps t == y) p.outs (λ t out.
      let r : IsPartAt ps t = place_of_part ps t (leads p t m out) in
      let n : number ps t ≡ first_piece ps r.place = number_of ps finish apart r.place t r.exists r.own in
      ne_eqb (number ps t) y (λ (h : number ps t ≡ y). none_between ps r.place j r.exists some joined (sym n ∙ h ∙ is))) in
      let s : sum_by (edges_from ps y) ps ≡ edges_from ps y (part_at ps j) = sum_at (edges_from ps y) ps j start_part some
      (λ i other apart_ij.
      let p : Part = part_at ps i in
      let none : count_by (λ t. number ps t == y) p.outs ≡ 0 = no_out p (Member-at ps i start_part other) in
      let n : number ps p.own ≡ first_piece ps i = number_is ps i apart other in
      let off : (number ps p.own + 1 == y) ≡ false = ne_eqb (number ps p.own + 1) y (λ (h : number ps p.own + 1 ≡ y). apart_ij (same_first ps i j other some (omega (arith, h, n, is)))) in
      let c : cond (is_joined ps p) (bit (number ps p.own + 1 == y)) 0 ≡ 0 = zero_either (is_joined ps p) (bit (number ps p.own + 1 == y)) (bit_false (number ps p.own + 1 == y) off) in
      omega (arith, none, c)) in
      let n : number ps (part_at ps j).own ≡ first_piece ps j = number_is ps j apart some in
      let on : (number ps (part_at ps j).own + 1 == y) ≡ true = eq-eqb (number ps (part_at ps j).own + 1) y (omega (arith, n, is)) in
      let c : cond (is_joined ps (part_at ps j)) (bit (number ps (part_at ps j).own + 1 == y)) 0 ≡ 1 = cond-true (is_joined ps (part_at ps j)) (bit (number ps (part_at ps j).own + 1 == y)) 0 joined ∙ bit_true (number ps (part_at ps j).own + 1 == y) on in
      let none : count_by (λ t. number ps t == y) (part_at ps j).outs ≡ 0 = no_out (part_at ps j) (Member-at ps j start_part some) in
      omega (arith, e, b, s, c, none)
    where
      zero_either : (b : Bool) (n : ℕ) → n ≡ 0 → cond b n 0 ≡ 0
      zero_either true n h = h
      zero_either false n h = refl

-- Cutting a text into units, statement by statement.
use Rattle.std.proofs.Common.{◌≡◌, ◌≤◌, ◌<◌, ◌+◌, ◌-◌, ℕ, Bool, true, false, List, [], ◌∷◌, ◌++◌, length, get_or, take, drop, refl, sym, ap, subst, ◌∙◌, ⊎_elim, arith, append_assoc, append-nil, length-drop, length-take}
use Rattle.std.specs.List.{slice_range}
use Rattle.std.specs.Prelude.{if◌then◌else◌, All}
use Rattle.std.proofs.lemmas.Bool.{cases_lt, lt-ltb, le-ltb}
use Rattle.std.proofs.lemmas.List.Elements.{All-push}
use Rattle.std.proofs.lemmas.List.{map-append, get_or-drop, take_more, drop_more, drop_all}
use Rattle.f77_tree.specs.declared.statements.Labelled.{Labelled}
use Rattle.program_units.specs.declared.splitting.Span.{Span}
use Rattle.program_units.specs.Cuts.{part, parts, span_if, IsSpanOf}
use Rattle.program_units.specs.Units.{is_end, in_first, units}

-- statements in front of the first of these units
abbrev pub joined : List Labelled → List (List Labelled) → List (List Labelled)
joined [] us = us
joined (s ∷ open_part) us = in_first s (joined open_part us)

joined-end : (begun : List Labelled) (s : Labelled) (us : List (List Labelled)) → joined begun ((s ∷ []) ∷ us) ≡ (begun ++ s ∷ []) ∷ us
joined-end [] s us = refl
joined-end (x ∷ begun) s us = ap (in_first x) (joined-end begun s us)

joined-other : (begun : List Labelled) (s : Labelled) (us : List (List Labelled)) → joined begun (in_first s us) ≡ joined (begun ++ s ∷ []) us
joined-other [] s us = refl
joined-other (x ∷ begun) s us = ap (in_first x) (joined-other begun s us)

joined-none : (x : Labelled) (begun : List Labelled) → joined (x ∷ begun) [] ≡ (x ∷ begun) ∷ []
joined-none x [] = refl
joined-none x (y ∷ begun) = ap (in_first x) (joined-none y begun)

-- one item more
slice_more : (xs : List Labelled) (from i n : ℕ) (d : Labelled) → from + n ≡ i → i < length xs → take (i + 1 - from) (drop from xs) ≡ take (i - from) (drop from xs) ++ get_or xs i d ∷ []
slice_more xs from i n d e inside =
    let short : n < length (drop from xs) = omega (arith, length-drop from xs) in
    let more : i + 1 - from ≡ n + 1 = omega arith in
    let same : i - from ≡ n = omega arith in
    ap (λ (m : ℕ). take m (drop from xs)) more
    ∙ take_more (drop from xs) n d short
    ∙ ap (λ (x : Labelled). take n (drop from xs) ++ x ∷ []) (get_or-drop from xs n d ∙ ap (λ (m : ℕ). get_or xs m d) e)
    ∙ ap (λ (m : ℕ). take m (drop from xs) ++ get_or xs i d ∷ []) (sym same)

-- the text cut as far as a place, where the last part may be begun
pub record IsCut (stmts : List Labelled) (spans : List Span) (from i : ℕ) : Type 0 where
  pub rising : from ≤ i
  pub inside : All (IsSpanOf stmts) spans
  pub same : units stmts ≡ parts spans stmts ++ joined (slice_range stmts from i) (units (drop i stmts))

units-end : (s : Labelled) (rest : List Labelled) → is_end s.stmt ≡ true → units (s ∷ rest) ≡ (s ∷ []) ∷ units rest
units-end s rest is = ap (λ (b : Bool). if b then (s ∷ []) ∷ units rest else in_first s (units rest)) is

units-other : (s : Labelled) (rest : List Labelled) → is_end s.stmt ≡ false → units (s ∷ rest) ≡ in_first s (units rest)
units-other s rest is = ap (λ (b : Bool). if b then (s ∷ []) ∷ units rest else in_first s (units rest)) is

module _ (stmts : List Labelled) (spans : List Span) (from i : ℕ) (s : Labelled) (cut : IsCut stmts spans from i) (inside : i < length stmts) (stands : s ≡ get_or stmts i s) where
  here : drop i stmts ≡ s ∷ drop (i + 1) stmts
  here = drop_more stmts i s inside ∙ ap (λ (x : Labelled). x ∷ drop (i + 1) stmts) (sym stands)

  longer : slice_range stmts from i ++ s ∷ [] ≡ slice_range stmts from (i + 1)
  longer =
      let sum : from + (i - from) ≡ i = let h = cut.rising in omega arith in
      ap (λ (x : Labelled). slice_range stmts from i ++ x ∷ []) stands ∙ sym (slice_more stmts from i (i - from) s sum inside)

  pub cut-other : is_end s.stmt ≡ false → IsCut stmts spans from (i + 1)
  cut-other is =
      let rest = units (drop (i + 1) stmts) in
      record {
        rising = let h = cut.rising in omega arith;
        inside = cut.inside;
        same =
            cut.same
            ∙ ap (λ (left : List Labelled). parts spans stmts ++ joined (slice_range stmts from i) (units left)) here
            ∙ ap (λ (us : List (List Labelled)). parts spans stmts ++ joined (slice_range stmts from i) us) (units-other s (drop (i + 1) stmts) is)
            ∙ ap (λ (us : List (List Labelled)). parts spans stmts ++ us) (joined-other (slice_range stmts from i) s rest)
            ∙ ap (λ (begun : List Labelled). parts spans stmts ++ joined begun rest) longer;
      }

  abbrev pub whole : Span
  whole = record { from = from; to = i + 1 }

  is_whole : IsSpanOf stmts whole
  is_whole = record { rising = let h = cut.rising in omega arith; inside = omega arith }

  nothing : (n : ℕ) → slice_range stmts n n ≡ []
  nothing n = ap (λ (m : ℕ). take m (drop n stmts)) (let e : n - n ≡ 0 = omega arith in e)

  pub cut-end : is_end s.stmt ≡ true → IsCut stmts (spans ++ whole ∷ []) (i + 1) (i + 1)
  cut-end is =
      let rest = units (drop (i + 1) stmts) in
      record {
        rising = omega arith;
        inside = All-push (IsSpanOf stmts) spans whole cut.inside is_whole;
        same =
            cut.same
            ∙ ap (λ (left : List Labelled). parts spans stmts ++ joined (slice_range stmts from i) (units left)) here
            ∙ ap (λ (us : List (List Labelled)). parts spans stmts ++ joined (slice_range stmts from i) us) (units-end s (drop (i + 1) stmts) is)
            ∙ ap (λ (us : List (List Labelled)). parts spans stmts ++ us) (joined-end (slice_range stmts from i) s rest)
            ∙ ap (λ (begun : List Labelled). parts spans stmts ++ begun ∷ rest) longer
            ∙ sym (append_assoc (parts spans stmts) (part stmts whole ∷ []) rest)
            ∙ ap (λ (us : List (List Labelled)). us ++ rest) (sym (map-append (part stmts) spans (whole ∷ [])))
            ∙ ap (λ (begun : List Labelled). parts (spans ++ whole ∷ []) stmts ++ joined begun rest) (sym (nothing (i + 1)));
      }

-- all of a text, cut
pub record AreCut (stmts : List Labelled) (spans : List Span) : Type 0 where
  pub inside : All (IsSpanOf stmts) spans
  pub same : parts spans stmts ≡ units stmts

joined-all : (begun : List Labelled) → 0 < length begun → joined begun [] ≡ begun ∷ []
joined-all [] some = absurd (omega arith)
joined-all (x ∷ begun) some = joined-none x begun

module _ (stmts : List Labelled) (spans : List Span) (from : ℕ) (cut : IsCut stmts spans from (length stmts)) where
  abbrev rest_of : List Labelled
  rest_of = slice_range stmts from (length stmts)

  over : units stmts ≡ parts spans stmts ++ joined rest_of []
  over = cut.same ∙ ap (λ (left : List Labelled). parts spans stmts ++ joined rest_of (units left)) (drop_all (length stmts) stmts (omega arith))

  rest_length : length rest_of ≡ length stmts - from
  rest_length = length-take (length stmts - from) (drop from stmts) ∙ (let h = length-drop from stmts in omega (arith, h))

  abbrev pub last : Span
  last = record { from = from; to = length stmts }

  cut-all-more : from < length stmts → AreCut stmts (spans ++ last ∷ [])
  cut-all-more more = record {
    inside = All-push (IsSpanOf stmts) spans last cut.inside (record { rising = omega arith; inside = omega arith });
    same = map-append (part stmts) spans (last ∷ []) ∙ ap (λ (us : List (List Labelled)). parts spans stmts ++ us) (sym (joined-all rest_of (omega (arith, rest_length)))) ∙ sym over;
  }

  nothing_left : length stmts ≤ from → rest_of ≡ []
  nothing_left h = ap (λ (m : ℕ). take m (drop from stmts)) (let e : length stmts - from ≡ 0 = omega arith in e)

  cut-all-done : length stmts ≤ from → AreCut stmts spans
  cut-all-done h = record {
    inside = cut.inside;
    same = sym (over ∙ ap (λ (begun : List Labelled). parts spans stmts ++ joined begun []) (nothing_left h) ∙ append-nil (parts spans stmts));
  }

  pub cut-all : AreCut stmts (spans ++ span_if from (length stmts))
  cut-all = ⊎_elim
      (λ (h : from < length stmts). subst (λ (b : Bool). AreCut stmts (spans ++ (if b then last ∷ [] else []))) (sym (lt-ltb from (length stmts) h)) (cut-all-more h))
      (λ (h : length stmts ≤ from). subst (λ (b : Bool). AreCut stmts (spans ++ (if b then last ∷ [] else []))) (sym (le-ltb from (length stmts) h)) (subst (λ (found : List Span). AreCut stmts found) (sym (append-nil spans)) (cut-all-done h)))
      (cases_lt from (length stmts))

-- The beginnings and ends of boxes, one after another.
use Rattle.std.proofs.Common.{arith, ◌≡◌, ◌∙◌, ◌<◌, ◌≤◌, ◌+◌, ◌-◌, ℕ, zero, suc, List, [], ◌∷◌, ◌++◌, ap, append_assoc, append-nil, map, refl, reverse, sym}
use Rattle.std.proofs.lemmas.List.{map-append, reverse-append, reverse-reverse}
use Rattle.printed_graphs.specs.declared.flow.PrintedFlow.{PrintedFlow}
use Rattle.graph_pictures.specs.FlowDot.{nested, regions_in, within}
use Rattle.graph_pictures.specs.Groups.{members_in}
use Rattle.graph_pictures.specs.declared.boxes.Step.{Step}
use Rattle.graph_pictures.specs.declared.boxes.Step.TheVariants as step
use Rattle.graph_pictures.specs.declared.groups.Groups.{Groups}

map-reverse : (xs : List ℕ) → map step.Open (reverse xs) ≡ reverse (map step.Open xs)
map-reverse [] = refl
map-reverse (x ∷ xs) =
    ap (map step.Open) (reverse-append (x ∷ []) xs)
    ∙ map-append step.Open (reverse xs) (x ∷ [])
    ∙ ap (λ (l : List Step). l ++ step.Open x ∷ []) (map-reverse xs)
    ∙ sym (reverse-append (step.Open x ∷ []) (map step.Open xs))

-- the end of a box, and the boxes within it
pub opened : (regions : ℕ → List ℕ) (region : ℕ) (old : List Step) → (old ++ step.Close ∷ []) ++ map step.Open (reverse (regions region)) ≡ old ++ reverse (within regions (step.Open region))
opened regions region old =
    append_assoc old (step.Close ∷ []) (map step.Open (reverse (regions region)))
    ∙ ap (λ (l : List Step). old ++ step.Close ∷ l) (map-reverse (regions region))
    ∙ ap (λ (l : List Step). old ++ l) (sym (reverse-append (map step.Open (regions region)) (step.Close ∷ [])))

-- the first boxes
pub first_steps : (xs : List ℕ) → reverse (map step.Open (reverse xs)) ≡ map step.Open xs
first_steps xs = ap reverse (map-reverse xs) ∙ reverse-reverse (map step.Open xs)

same_within : (f g : ℕ → List ℕ) (s : Step) → ((n : ℕ) → f n ≡ g n) → within f s ≡ within g s
same_within f g (step.Open region) same = ap (λ (l : List ℕ). map step.Open l ++ step.Close ∷ []) (same region)
same_within f g step.Close same = refl

none_left : (flow : PrintedFlow) (n : ℕ) → nested flow n [] ≡ []
none_left flow zero = refl
none_left flow (suc n) = refl

module _ (flow : PrintedFlow) (count k : ℕ) (steps waiting whole : List Step) where
  -- one beginning or end more
  pub one_step : (below next : List Step) (s : Step) (inner : Groups) → k < count → waiting ≡ below ++ s ∷ [] → ((n : ℕ) → members_in inner n ≡ regions_in flow n) → next ≡ below ++ reverse (within (members_in inner) s) → steps ++ nested flow (count - k) (reverse waiting) ≡ whole → (steps ++ s ∷ []) ++ nested flow (count - (k + 1)) (reverse next) ≡ whole
  one_step below next s inner more is same goes before =
      let n = count - (k + 1) in
      let one : count - k ≡ suc n = omega (arith, more) in
      let first : reverse waiting ≡ s ∷ reverse below = ap reverse is ∙ reverse-append below (s ∷ []) in
      let rest : reverse next ≡ within (regions_in flow) s ++ reverse below =
      ap reverse goes ∙ reverse-append below (reverse (within (members_in inner) s)) ∙ ap (λ (l : List Step). l ++ reverse below) (reverse-reverse (within (members_in inner) s) ∙ same_within (members_in inner) (regions_in flow) s same) in
      append_assoc steps (s ∷ []) (nested flow n (reverse next))
      ∙ ap (λ (l : List Step). steps ++ s ∷ nested flow n l) rest
      ∙ sym (ap (λ (l : List Step). steps ++ nested flow (suc n) l) first)
      ∙ sym (ap (λ m. steps ++ nested flow m (reverse waiting)) one)
      ∙ before

  -- none is left
  pub no_step : waiting ≡ [] → steps ++ nested flow (count - k) (reverse waiting) ≡ whole → steps ≡ whole
  no_step is before = sym (append-nil steps) ∙ sym (ap (λ (l : List Step). steps ++ l) (ap (λ (l : List Step). nested flow (count - k) (reverse l)) is ∙ none_left flow (count - k))) ∙ before

  -- there are as many as there may be
  pub last_step : count ≤ k → steps ++ nested flow (count - k) (reverse waiting) ≡ whole → steps ≡ whole
  last_step all before =
      let none : count - k ≡ 0 = omega (arith, all) in
      sym (append-nil steps) ∙ sym (ap (λ m. steps ++ nested flow m (reverse waiting)) none) ∙ before

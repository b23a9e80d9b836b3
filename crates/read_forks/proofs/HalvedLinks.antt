-- The link of a node for a line is found by halves, since the lines of its links rise.
use Rattle.std.proofs.Common.{◌≡◌, ◌<◌, ◌≤◌, ◌⊎◌, inl, inr, ⊎_elim, ℕ, ◌+◌, ◌-◌, List, length, get_or, refl, ap, subst, arith}
use Rattle.std.proofs.lemmas.Option.{slice_get_read}
use Rattle.op_board.proofs.ValueTaking.{below_or_not}
use Rattle.read_forks.specs.RisingLinks.{AreRising, HasLine, line_at, line_in}
use Rattle.read_forks.specs.declared.steps.Link.{Link}
use Rattle.read_forks.specs.declared.steps.Step.{Step}

-- between these two places is one that is for the line
pub record IsAmid (links : List Link) (step : Step) (line low high : ℕ) : Type 0 where
  pub from : step.first ≤ low
  pub to : high ≤ step.first + step.count
  pub here : HasLine links line low high

module _ (links : List Link) (step : Step) (line : ℕ) (rise : AreRising links step) where
  rising : (a b : ℕ) → step.first ≤ a → a < b → b < step.first + step.count → line_at links a < line_at links b
  rising a b from less below =
      let one : step.first + (a - step.first) ≡ a = omega (arith, from) in
      let two : step.first + (b - step.first) ≡ b = omega (arith, from, less) in
      let r = rise (a - step.first) (b - step.first) (omega (arith, from, less)) (omega (arith, from, less, below)) in
      subst (λ (n : ℕ). line_at links n < line_at links b) one (subst (λ (n : ℕ). line_at links (step.first + (a - step.first)) < line_at links n) two r)

  module _ (low high middle : ℕ) (amid : IsAmid links step line low high) (above : low < middle) (below : middle < high) where
    pub upper_half : line_at links middle ≤ line → IsAmid links step line middle high
    upper_half less = record { from = let f = amid.from in omega (arith, f, above); to = amid.to; here = record { place = h.place; from = ⊎_elim (λ (under : h.place < middle). absurd (contrary under)) (λ (over : middle ≤ h.place). over) (below_or_not h.place middle); below = h.below; is = h.is } }
      where
        h : HasLine links line low high
        h = amid.here

        contrary : h.place < middle → ⊥
        contrary under =
            let from = amid.from in
            let to = amid.to in
            let at = h.from in
            let is = h.is in
            let r = rising h.place middle (omega (arith, from, at)) under (omega (arith, below, to)) in
            absurd (omega (arith, r, is, less))

    pub lower_half : line < line_at links middle → IsAmid links step line low middle
    lower_half more = record { from = amid.from; to = let t = amid.to in omega (arith, t, below); here = record { place = h.place; from = h.from; below = ⊎_elim (λ (under : h.place < middle). under) (λ (over : middle ≤ h.place). absurd (contrary over)) (below_or_not h.place middle); is = h.is } }
      where
        h : HasLine links line low high
        h = amid.here

        same_or_less : middle ≤ h.place → (middle ≡ h.place) ⊎ (middle < h.place)
        same_or_less over = ⊎_elim (λ (l : middle < h.place). inr l) (λ (g : h.place ≤ middle). inl (omega (arith, g, over))) (below_or_not middle h.place)

        later : middle < h.place → ⊥
        later less =
            let from = amid.from in
            let to = amid.to in
            let under = h.below in
            let is = h.is in
            let r = rising middle h.place (omega (arith, from, above)) less (omega (arith, under, to)) in
            absurd (omega (arith, r, is, more))

        contrary : middle ≤ h.place → ⊥
        contrary over = ⊎_elim (λ (same : middle ≡ h.place). let is = h.is in let e = ap (line_at links) same in absurd (omega (arith, e, is, more))) (λ (less : middle < h.place). later less) (same_or_less over)

-- the line of a link that is read
pub line_read_at : (links : List Link) (n : ℕ) (link : Link) → n < length links → link ≡ get_or links n link → line_at links n ≡ link.line
line_read_at links n link inside at = ap line_in (slice_get_read links (length links) n link refl inside at)

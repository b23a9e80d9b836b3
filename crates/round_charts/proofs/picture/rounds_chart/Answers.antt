use Rattle.std.proofs.Common.{◌∙◌, List, ap, length, map, min, subst}
use Rattle.std.specs.List.Sorted.{IsPermutation}
use Rattle.printed_graphs.specs.declared.trace.Firing.{Firing}
use Rattle.round_charts.specs.Grid.{key_in, keys_from}
use Rattle.round_charts.proofs.picture.rounds_chart.Goals as goal

pub returns : goal.returns
returns c = record {
  picture = c.in_ok-picture.picture;
  each = rw c.in_ok-picture.ensures.each (subst (λ (fs : List Firing). IsPermutation (keys_from 500 0 fs c.args.rounds.now) (map key_in c.in_ok-grid.grid.cells.items)) c.as_slice-firings.ensures.value c.in_ok-grid.ensures.each);
  inside = c.in_ok-picture.ensures.inside;
  firings_told = c.in_ok-picture.ensures.firings ∙ c.in_ok-grid.ensures.firings ∙ ap (λ (fs : List Firing). min (length fs) (length c.args.rounds.now)) c.as_slice-firings.ensures.value;
  drawn = c.in_ok-text.ensures.ok;
}

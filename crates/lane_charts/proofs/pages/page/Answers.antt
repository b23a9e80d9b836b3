use Rattle.std.proofs.Common.{◌∙◌, ap, string_bytes}
use Rattle.lane_charts.specs.Sections.{page_html}
use Rattle.lane_charts.proofs.pages.page.Goals as goal

pub returns : goal.returns
returns c = record {
  chart = string_bytes c.in_ok-chart.chart;
  shows = c.in_ok-chart.ensures;
  sections = c.in_ok-sections.sections.items;
  each = rw (← c.as_str.ensures.value) c.in_ok-sections.ensures;
  written = c.in_ok-text.ensures.ok ∙ ap page_html c.as_slice.ensures.value;
}

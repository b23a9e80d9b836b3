use Rattle.std.proofs.Common.{◌∙◌, ap, map}
use Rattle.lane_layout.specs.Rows.{line_of}
use Rattle.lane_layout.proofs.layout.drawn.Goals as goal

pub returns : goal.returns
returns c = record {
  statements = c.in_ok-statements.ensures.each ∙ ap (map line_of) c.as_slice-5.ensures.value ∙ c.requires;
  places = record {
    width = c.in_ok-page.page.width;
    height = c.in_ok-page.page.height;
    across = c.as_slice-2.result;
    colours = c.as_slice-3.result;
    down = c.as_slice-4.result;
  };
  marks = c.in_ok-marks_of.ensures.each;
  inside = record {
    statements = c.in_ok-statements.ensures.inside;
    frames = c.in_ok-frames.ensures;
    notes = c.in_ok-notes_on.ensures;
    ways = c.in_ok-ways.ensures;
    names = c.in_ok-names_on.ensures;
    marks = c.in_ok-marks_of.ensures.inside;
  };
}

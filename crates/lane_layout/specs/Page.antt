-- What stands on a page.
use Rattle.std.specs.Prelude.{◌≤◌, ◌+◌, ◌-◌, ℕ}
use Rattle.lane_parts.specs.declared.grounds.Frame.{Frame}
use Rattle.lane_parts.specs.declared.grounds.Name.{Name}
use Rattle.lane_parts.specs.declared.grounds.Note.{Note}
use Rattle.lane_parts.specs.declared.grounds.Statement.{Statement}
use Rattle.lane_parts.specs.declared.ways.Side.{Side}
use Rattle.lane_parts.specs.declared.ways.Side.TheVariants as side
use Rattle.lane_parts.specs.declared.ways.Way.{Way}
use Rattle.lane_layout.specs.declared.page.Page.{Page}

abbrev pub line_in : Statement → ℕ
line_in s = s.source.line

-- a place on a page
abbrev pub IsPlaceOn : Page → (x y : ℕ) → Type 0
IsPlaceOn page x y = (x ≤ page.width) × (y ≤ page.height)

abbrev pub IsStatementOn : Page → Statement → Type 0
IsStatementOn page s = IsPlaceOn page s.end s.rule × IsPlaceOn page s.source.x s.source.y

abbrev pub IsFrameOn : Page → Frame → Type 0
IsFrameOn page f = IsPlaceOn page (f.square.x + f.square.width) (f.square.y + f.square.height)

abbrev pub IsNoteOn : Page → Note → Type 0
IsNoteOn page n = IsPlaceOn page n.place.0 n.place.1

abbrev pub IsNameOn : Page → Name → Type 0
IsNameOn page n = IsPlaceOn page n.place.0 n.place.1

-- the room at the side of a lane on which a way runs
abbrev pub room_at : Side → (x width : ℕ) → ℕ
room_at side.Straight x width = width - x
room_at side.Back x width = width - x
room_at side.Past x width = x
room_at side.Out x width = x

abbrev pub IsWayOn : Page → Way → Type 0
IsWayOn page w = (w.x ≤ page.width) × (w.reach ≤ room_at w.side w.x page.width) × (w.from ≤ page.height) × (w.to ≤ page.height)

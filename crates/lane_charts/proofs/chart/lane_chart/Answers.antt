use Rattle.lane_charts.proofs.chart.lane_chart.Goals as goal

pub returns : goal.returns
returns c = record { chart = c.in_ok-chart.chart; laid_out = c.in_ok-chart.ensures; drawn = c.in_ok-text.ensures.ok }

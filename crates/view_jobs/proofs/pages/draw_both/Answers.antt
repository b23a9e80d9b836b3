use Rattle.view_jobs.proofs.Drawn.{page_of_two}
use Rattle.view_jobs.proofs.pages.draw_both.Goals as goal

pub returns : goal.returns
returns g c = page_of_two c.args.runs.now c.in_ok-draw_page.ensures c.in_ok-in_order.ensures c.in_ok-by_picks.ensures

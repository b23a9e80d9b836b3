use Rattle.std.proofs.Common.{inl, refl}
use Rattle.view_jobs.proofs.pages.show_page.Goals as goal

pub returns-in_ok-write_both-in-Ok : goal.returns-in_ok-write_both-in-Ok
returns-in_ok-write_both-in-Ok g c = inl (record { runs = c.in-Ok.runs; are = c.in-Ok.ensures; page = c.in_ok-write_both-in-Ok.ensures; status_is = refl }, refl)

use Rattle.std.proofs.Common.{rules}
use Rattle.view_jobs.proofs.pages.named.Goals as goal

pub returns : goal.returns
returns c = record {
  trace = c.in_ok-trace_of.field-0.now;
  trace_is = search rules;
  holds = record { name_is = search rules; trace_is = search rules; rounds_are = search rules; printed_is = search rules };
}

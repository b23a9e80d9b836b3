use Rattle.std.proofs.Common.{List, ℕ, refl, sym, subst, append-nil}
use Rattle.std.specs.Io.KnownBytes.{Appends}
use Rattle.df_io.specs.Write.{AppendsPrefix}
use Rattle.job_terms.specs.Due.{done}
use Rattle.graph_jobs.specs.Found.{text_of}
use Rattle.graph_jobs.proofs.RegionsTold.{found_tells}
use Rattle.graph_jobs.proofs.regions.tell_regions.Goals as goal

pub returns-in-Ok-tell-clause-due : goal.returns-in-Ok-tell-clause-due
returns-in-Ok-tell-clause-due g c =
    let text = text_of c.in-Ok.found in
    record {
      due = done text;
      is = record { text = found_tells c.args.program.now c.in-Ok.found c.in-Ok.ensures; done = refl };
      same = refl;
      written = subst (λ (bytes : List ℕ). Appends (g.K.Sink.got c.args.sink.now) (g.K.Sink.got c.tell.new.sink) bytes) (sym (append-nil text)) c.in-Ok-tell.ensures.all;
    }

pub returns-in-Ok-clause-due : goal.returns-in-Ok-clause-due
returns-in-Ok-clause-due g c =
    let text = text_of c.in-Ok.found in
    record {
      due = done text;
      is = record { text = found_tells c.args.program.now c.in-Ok.found c.in-Ok.ensures; done = refl };
      prefix = subst (λ (bytes : List ℕ). AppendsPrefix (g.K.Sink.got c.args.sink.now) (g.K.Sink.got c.tell.new.sink) bytes) (sym (append-nil text)) c.in-Err-tell.ensures.prefix;
    }

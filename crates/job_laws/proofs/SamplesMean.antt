-- What samples mean: their parts mean what the jobs promise that owe them.
use Rattle.std.proofs.Common.{◌≡◌, ◌⊎◌, inl, inr, ℕ, ◌<◌, ◌≤◌, false, List, [], ◌++◌, refl, sym, ap, ◌∙◌, ⊎_elim, append_assoc, append-nil, arith}
use Rattle.f77_tree.specs.declared.programs.Program.{Program}
use Rattle.f77_tree.specs.Run as runs
use Rattle.f77_tree.specs.Run.{EndsIn, Mark, out}
use Rattle.firing.specs.declared.playing.PlayEnd.{PlayEnd}
use Rattle.firing.specs.declared.playing.PlayEnd.TheVariants.{Rest, Trapped, Limit, WriteFault}
use Rattle.job_terms.specs.declared.status.Status.{Status}
use Rattle.job_terms.specs.declared.status.Status.TheVariants as status
use Rattle.job_terms.specs.declared.task.Told.TheVariants.{Output}
use Rattle.job_terms.specs.Due.{Due, all_due, done}
use Rattle.game_jobs.specs.DueGames.{IsDueBy}
use Rattle.form_jobs.specs.DueForms.{IsDueLimit, due_by_mark}
use Rattle.sample_jobs.specs.DueSamples.{IsDueSample, IsSampleDue, TellsSizes, after_text, first_line, followed, followed_by, sample_line, up_to}
use Rattle.program_nets.specs.Game.{operation_game}
use Rattle.job_laws.specs.Headline.{MeansEnd, MeansOn, MeansRest, MeansSample, MeansTwice, bound_of, run_bound}
use Rattle.job_laws.specs.SourceRuns.{run_of}
use Rattle.job_terms.specs.Tasks.{Regions, Graph, Play, Run}
use Rattle.job_laws.proofs.FormsMean.{refused}

-- ---- parts, one after another

-- two parts are done only where both are
record AreDone (first second : Due) : Type 0 where
  one : first.status ≡ status.Done
  next : second.status ≡ status.Done

both_done : (s : Status) (first second : Due) → first.status ≡ s → (followed s first second).status ≡ status.Done → AreDone first second
both_done status.Done first second is told = record { one = is; next = told }
both_done status.Usage first second is told = let e : status.Usage ≡ status.Done = sym is ∙ told in absurd cc
both_done status.Refused first second is told = let e : status.Refused ≡ status.Done = sym is ∙ told in absurd cc
both_done status.Trapped first second is told = let e : status.Trapped ≡ status.Done = sym is ∙ told in absurd cc
both_done status.Limit first second is told = let e : status.Limit ≡ status.Done = sym is ∙ told in absurd cc
both_done status.ReadFault first second is told = let e : status.ReadFault ≡ status.Done = sym is ∙ told in absurd cc
both_done status.WriteFault first second is told = let e : status.WriteFault ≡ status.Done = sym is ∙ told in absurd cc
both_done status.NoMemory first second is told = let e : status.NoMemory ≡ status.Done = sym is ∙ told in absurd cc

-- where the first part is done, the second one follows it
then_second : (first second : Due) → first.status ≡ status.Done → followed_by first second ≡ after_text (all_due first) second
then_second first second is = ap (λ (s : Status). followed s first second) is

-- a game that is done has no last line
no_last : (end : PlayEnd) (limit : ℕ) (text : List ℕ) (due : Due) → IsDueBy end limit text due → due.status ≡ status.Done → due.last ≡ []
no_last (Rest n) limit text due is told = ap (λ (d : Due). d.last) is
no_last (Trapped trap line) limit text due is told = let e : status.Trapped ≡ status.Done = sym (ap (λ (d : Due). d.status) is) ∙ told in absurd cc
no_last Limit limit text due is told = let e : status.Limit ≡ status.Done = sym (ap (λ (d : Due). d.status) is) ∙ told in absurd cc
no_last (WriteFault n) limit text due is told = absurd is

-- what is due of a run is no refusal
not_refused : (mark : Mark) (text : List ℕ) (limit : ℕ) → (due_by_mark mark text limit).status ≡ status.Refused → ⊥
not_refused runs.Running text limit is = let e : status.Limit ≡ status.Refused = is in absurd cc
not_refused runs.Ended text limit is = let e : status.Done ≡ status.Refused = is in absurd cc
not_refused (runs.Trapped trap line) text limit is = let e : status.Trapped ≡ status.Refused = is in absurd cc

module _ (n bytes limit : ℕ) (p : Program) (regions : MeansOn Regions false p (run_of p)) (graph : MeansOn Graph false p (run_of p)) (fired : MeansOn (Play Output (up_to limit)) false p (run_of p)) (ran : MeansOn (Run limit []) false p (run_of p)) where
  -- ---- one sample

  one_size : (a b : List ℕ) → TellsSizes n bytes p a → TellsSizes n bytes p b → a ≡ b
  one_size a b is also =
      let tree : done is.regions ≡ done also.regions = regions.one (done is.regions) (done also.regions) (record { text = is.tells_regions; done = refl }) (record { text = also.tells_regions; done = refl }) in
      let net : done is.graph ≡ done also.graph = graph.one (done is.graph) (done also.graph) (record { text = is.tells_graph; done = refl }) (record { text = also.tells_graph; done = refl }) in
      is.is
      ∙ ap (λ (d : Due). sample_line n bytes ++ first_line d.text ++ first_line is.graph) tree
      ∙ ap (λ (d : Due). sample_line n bytes ++ first_line also.regions ++ first_line d.text) net
      ∙ sym also.is

  one_program : (a b : Due) → IsSampleDue n bytes limit p a → IsSampleDue n bytes limit p b → a ≡ b
  one_program a b is also =
      let sizes = one_size is.sizes also.sizes is.tells_sizes also.tells_sizes in
      let game = fired.one is.fired also.fired is.is_fired also.is_fired in
      let run = ran.one is.ran also.ran (inl is.is_ran) (inl also.is_ran) in
      is.is
      ∙ ap (λ text. after_text text (followed_by is.fired is.ran)) sizes
      ∙ ap (λ (d : Due). after_text also.sizes (followed_by d is.ran)) game
      ∙ ap (λ (d : Due). after_text also.sizes (followed_by also.fired d)) run
      ∙ sym also.is

  -- a rewriting that passes a limit leaves nothing to run
  not_both : (a b : Due) → IsSampleDue n bytes limit p a → IsDueLimit p false b → ⊥
  not_both a b is also =
      let same : is.ran ≡ b = ran.one is.ran b (inl is.is_ran) (inr also) in
      not_refused _ _ limit (ap (λ (d : Due). d.status) (sym is.is_ran.ran.is ∙ same) ∙ refused also.end b also.is)

  one : (a b : Due) → IsDueSample n bytes limit p a → IsDueSample n bytes limit p b → a ≡ b
  one a b is also =
      ⊎_elim
      (λ (x : IsSampleDue n bytes limit p a). ⊎_elim
      (λ (y : IsSampleDue n bytes limit p b). one_program a b x y)
      (λ (y : IsDueLimit p false b). absurd (not_both a b x y))
      also)
      (λ (x : IsDueLimit p false a). ⊎_elim
      (λ (y : IsSampleDue n bytes limit p b). absurd (not_both b a y x))
      (λ (y : IsDueLimit p false b). ran.one a b (inr x) (inr y))
      also)
      is

  -- ---- what is done

  same_steps : (m k : ℕ) → EndsIn p [] m → EndsIn p [] k → m ≡ k
  same_steps m k a b =
      let low : m < k → ⊥ = λ (less : m < k). let e : runs.Ended ≡ runs.Running = sym a.reached ∙ b.before m less in absurd cc in
      let high : k < m → ⊥ = λ (less : k < m). let e : runs.Ended ≡ runs.Running = sym b.reached ∙ a.before k less in absurd cc in
      between m k low high
    where
      between : (m k : ℕ) → (m < k → ⊥) → (k < m → ⊥) → m ≡ k
      between m k low high = grind (arith, low, high)

  twice_on : (due : Due) → IsSampleDue n bytes limit p due → due.status ≡ status.Done → MeansTwice n bytes p due.text
  twice_on due is told =
      let parts : AreDone is.fired is.ran = both_done is.fired.status is.fired is.ran refl (sym (ap (λ (d : Due). d.status) is.is) ∙ told) in
      let rest : MeansRest operation_game Output (up_to limit) p (run_of p []) is.fired = (fired.means is.fired is.is_fired).rests parts.one in
      let end : MeansEnd [] p (run_of p []) is.ran.text = (ran.means is.ran (inl is.is_ran)).ends parts.next in
      let last : is.fired.last ≡ [] = no_last is.is_fired.played.played.end limit _ is.fired is.is_fired.played.played.is parts.one in
      let first : all_due is.fired ≡ out p [] rest.steps = ap (λ text. is.fired.text ++ text) last ∙ append-nil is.fired.text ∙ rest.told in
      let second : is.ran.text ≡ out p [] rest.steps = end.output ∙ ap (out p []) (same_steps end.steps rest.steps end.ends rest.ends) in
      record {
        steps = rest.steps;
        ends = rest.ends;
        sizes = is.sizes;
        tells_sizes = is.tells_sizes;
        output =
            ap (λ (d : Due). d.text) (is.is ∙ ap (after_text is.sizes) (then_second is.fired is.ran parts.one))
            ∙ ap (λ text. is.sizes ++ (text ++ is.ran.text)) first
            ∙ ap (λ text. is.sizes ++ (out p [] rest.steps ++ text)) second
            ∙ sym (append_assoc is.sizes (out p [] rest.steps) (out p [] rest.steps));
      }

  twice : (due : Due) → IsDueSample n bytes limit p due → due.status ≡ status.Done → MeansTwice n bytes p due.text
  twice due is told =
      ⊎_elim
      (λ (x : IsSampleDue n bytes limit p due). twice_on due x told)
      (λ (x : IsDueLimit p false due). let e : status.Refused ≡ status.Done = sym (refused x.end due x.is) ∙ told in absurd cc)
      is

  finishes_on : (due : Due) (steps : ℕ) → IsSampleDue n bytes limit p due → EndsIn p [] steps → bound_of p steps ≤ limit → run_bound p steps ≤ limit → (due.status ≡ status.Done) ⊎ (due.status ≡ status.Refused)
  finishes_on due steps is ends firings makes =
      let game : is.fired.status ≡ status.Done = (fired.means is.fired is.is_fired).ends steps ends firings in
      let same : due.status ≡ is.ran.status = ap (λ (d : Due). d.status) (is.is ∙ ap (after_text is.sizes) (then_second is.fired is.ran game)) in
      ⊎_elim
      (λ (e : is.ran.status ≡ status.Done). inl (same ∙ e))
      (λ (e : is.ran.status ≡ status.Refused). inr (same ∙ e))
      ((ran.means is.ran (inl is.is_ran)).finishes steps ends makes)

  finishes : (due : Due) (steps : ℕ) → IsDueSample n bytes limit p due → EndsIn p [] steps → bound_of p steps ≤ limit → run_bound p steps ≤ limit → (due.status ≡ status.Done) ⊎ (due.status ≡ status.Refused)
  finishes due steps is ends firings makes =
      ⊎_elim
      (λ (x : IsSampleDue n bytes limit p due). finishes_on due steps x ends firings makes)
      (λ (x : IsDueLimit p false due). inr (refused x.end due x.is))
      is

  pub sample_means : MeansSample n bytes limit p
  sample_means = record { one = one; regions = regions; graph = graph; fired = fired; ran = ran; twice = twice; finishes = finishes }

use Rattle.std.proofs.Common.{rules, ◌≡◌, ◌++◌, ◌∷◌, []}
use Rattle.crossbeam_queue.specs.Passes.{view}
use Rattle.job_queue.specs.Counts.{IsDrained}
use Rattle.job_queue.specs.Passes.{AreTogether}
use Rattle.job_queue.proofs.Gathered.{all_last, together}
use Rattle.job_queue.proofs.jobs.Jobs.close.Goals as goal

pub returns-clause-together : goal.returns-clause-together
returns-clause-together g c jobs all = rw items (rw (← same) shown)
  where
    items : c.args.passes.items ≡ c.pop.new.self.items ++ c.in-Some.last ∷ []
    items = search rules

    same : c.in-Some.last.jobs ≡ jobs
    same = all_last (λ p. p.jobs ≡ jobs) c.pop.new.self.items c.in-Some.last (rw items at all)

    drained : IsDrained (view c.gather-raw.result.0) c.drain-left.result
    drained = search rules

    shown : AreTogether c.in-Some.last.jobs (c.pop.new.self.items ++ c.in-Some.last ∷ []) c.drain-left.result
    shown = together (view c.last.inside.raw) (view c.gather-raw.result.0) c.pop.new.self.items c.in-Some.last
        c.drain-left.result (search rules) (search rules) c.gather-raw.ensures.gathered drained

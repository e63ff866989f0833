use Rattle.std.proofs.Common.{rules, ◌≡◌, ◌++◌, ◌∷◌, []}
use Rattle.std.proofs.lemmas.List.{length-append}
use Rattle.worker_gate.proofs.Crews.{all_more}
use Rattle.worker_gate.proofs.prepared.make_workers.Goals as goal

pub loop-pass-preserved : goal.loop-pass-preserved
loop-pass-preserved g c =
    let more = length-append c.loop-pass.yielded (c.in-Some.pass ∷ []) in (
      search (rules, more),
      search (rules, more),
      all_more (λ w. w.pass.queue ≡ c.args.queue.now) c.loop-pass.workers.items c.push.new.self.items
          c.in_ok-make_worker.field-0 pushed (search rules)
          c.in_ok-make_worker.ensures,
    )
  where
    pushed : c.push.new.self.items ≡ c.loop-pass.workers.items ++ c.in_ok-make_worker.field-0 ∷ []
    pushed = search rules

use Rattle.std.proofs.Common.{rules, ◌≡◌, ◌+◌, ◌*◌, ◌≤◌, ◌++◌, ◌∷◌, [], length, sum_by, arith}
use Rattle.std.proofs.lemmas.List.{length-append}
use Rattle.cut_model.specs.declared.network.TheConstants.{MOST_ROUTERS}
use Rattle.crossbeam_queue.specs.Passes.{view}
use Rattle.job_queue.specs.Counts.{IsGathered}
use Rattle.job_queue.specs.Rule.{joined}
use Rattle.job_queue.proofs.Gathered.{gathered_more, taken_more}
use Rattle.job_queue.proofs.Moves.{merges}
use Rattle.job_queue.proofs.jobs.gather.Goals as goal

pub absorb-requires-clause-rule : goal.absorb-requires-clause-rule
absorb-requires-clause-rule c = merges _ _ _ _ (search rules) (search rules)

pub loop-pass-preserved : goal.loop-pass-preserved
loop-pass-preserved c = (search rules, search rules, gathered, counted, bounded)
  where
    -- The pass that the loop takes is seen as what it knows.
    known_more : IsGathered (view c.args.raw) (c.loop-pass.yielded ++ c.in-Some.pass ∷ [])
        (joined (view c.loop-pass.raw) (view c.pass.inside.raw))
    known_more = rw (← c.pass.view_is)
        (gathered_more (view c.args.raw) (view c.loop-pass.raw) (view c.pass.inside.raw) c.loop-pass.yielded
        c.pass.inside.raw.table_id c.pass.inside.count c.pass.inside.ended (search rules) (search rules))

    gathered : IsGathered (view c.args.raw) (c.loop-pass.yielded ++ c.in-Some.pass ∷ []) (view c.absorb.new.pass)
    gathered = rw c.absorb.ensures.rule known_more

    more : sum_by (λ p. length p.taken) (c.loop-pass.yielded ++ c.in-Some.pass ∷ [])
        ≡ sum_by (λ p. length p.taken) c.loop-pass.yielded + c.pass.inside.count
    more = rw (← c.pass.view_is)
        (taken_more (view c.pass.inside.raw) c.loop-pass.yielded c.pass.inside.raw.table_id c.pass.inside.count
        c.pass.inside.ended (search rules))

    counted : c.loop-pass.taken + c.pass.inside.count
        ≡ c.args.count + sum_by (λ p. length p.taken) (c.loop-pass.yielded ++ c.in-Some.pass ∷ [])
    counted = let before = c.loop-pass.invariant.3 in let now = more in omega arith

    bounded : c.loop-pass.taken + c.pass.inside.count
        ≤ MOST_ROUTERS + MOST_ROUTERS * length (c.loop-pass.yielded ++ c.in-Some.pass ∷ [])
    bounded =
        let before = c.loop-pass.invariant.4 in
        let few = (c.pass.invariant.1).few_taken in
        omega (arith, length-append c.loop-pass.yielded (c.in-Some.pass ∷ []))

-- What the passes took, put together.
use Rattle.std.proofs.Common.{◌≡◌, ℕ, suc, ◌+◌, Bool, true, false, List, [], ◌∷◌, ◌++◌, length, sum_by, All, sym}
use Rattle.std.proofs.Common.{refl, ap, ◌∙◌, ◌||◌, arith}
use Rattle.std.specs.List.{list_any}
use Rattle.std.proofs.Math.Bool.{or_assoc}
use Rattle.std.proofs.lemmas.List.{append_assoc, append-nil, length-append}
use Rattle.std.proofs.lemmas.List.Sums.{sum_by-append}
use Rattle.job_queue.specs.declared.known.Known.{Known}
use Rattle.job_queue.specs.Counts.{IsCounted, IsDrained, IsGathered}
use Rattle.job_queue.specs.Passes.{QueueId, PassView, all_taken, pass_of, AreTogether}
use Rattle.job_queue.specs.Rule.{joined}
use Rattle.job_queue.specs.Weights.{weigh}
use Rattle.job_queue.proofs.Weights.{weigh-append}

pub all_taken-snoc : (passes : List PassView) (p : PassView) →
    all_taken (passes ++ p ∷ []) ≡ all_taken passes ++ p.taken
all_taken-snoc [] p = append-nil p.taken
all_taken-snoc (q ∷ passes) p =
    ap (λ taken. q.taken ++ taken) (all_taken-snoc passes p) ∙ sym (append_assoc q.taken (all_taken passes) p.taken)

-- Whether a pass of a list found the end, with one pass more.
any_ended-snoc : (passes : List PassView) (p : PassView) →
    list_any (λ (q : PassView). q.ended) (passes ++ p ∷ []) ≡ (list_any (λ (q : PassView). q.ended) passes || p.ended)
any_ended-snoc [] p = by p.ended
  where
    by : (b : Bool) → (b || false) ≡ b
    by true = refl
    by false = refl
any_ended-snoc (q ∷ passes) p =
    ap (λ ended. q.ended || ended) (any_ended-snoc passes p)
    ∙ sym (or_assoc q.ended (list_any (λ (q : PassView). q.ended) passes) p.ended)

-- One pass more is put together with these.
pub gathered_more : (v w u : Known) (others : List PassView) (queue : QueueId) (count : ℕ) (ended : Bool) →
    IsGathered v others w → IsCounted u count ended →
    IsGathered v (others ++ pass_of queue u ended ∷ []) (joined w u)
gathered_more v w u others queue count ended gathered counted = record {
  parts = let all = gathered.parts in let one = counted.part in omega (arith, length-append others (p ∷ []));
  passes = gathered.passes;
  jobs = gathered.jobs;
  taken =
      ap (λ taken. taken ++ u.taken) gathered.taken
      ∙ append_assoc v.taken (all_taken others) u.taken
      ∙ ap (λ taken. v.taken ++ taken) (sym (all_taken-snoc others p));
  ended =
      ap (λ b. b || u.ended) gathered.ended
      ∙ or_assoc v.ended (list_any (λ (q : PassView). q.ended) others) u.ended
      ∙ ap (λ b. v.ended || (list_any (λ (q : PassView). q.ended) others || b)) counted.told
      ∙ ap (λ b. v.ended || b) (sym (any_ended-snoc others p));
}
  where
    p : PassView
    p = pass_of queue u ended

-- What the first pass and the others took and what is left are together the jobs.
pub together : (v w : Known) (others : List PassView) (last : PassView) (left : ℕ) →
    v.taken ≡ last.taken → v.jobs ≡ last.jobs → IsGathered v others w → IsDrained w left →
    AreTogether last.jobs (others ++ last ∷ []) left
together v w others last left taken jobs gathered drained = record {
  rest = drained.rest;
  counted = drained.counted;
  each_once = λ weight.
      let e = drained.each_once weight in
      let j = ap (weigh weight) (gathered.jobs ∙ jobs) in
      let t = ap (weigh weight) gathered.taken in
      let l = ap (weigh weight) taken in
      let s = ap (weigh weight) (all_taken-snoc others last) in
      let a = weigh-append weight w.taken drained.rest in
      let b = weigh-append weight v.taken (all_taken others) in
      let c = weigh-append weight (all_taken others) last.taken in
      let d = weigh-append weight (all_taken (others ++ last ∷ [])) drained.rest in
      omega arith;
}

-- It took so many more.
pub taken_more : (u : Known) (others : List PassView) (queue : QueueId) (count : ℕ) (ended : Bool) →
    IsCounted u count ended →
    sum_by (λ (p : PassView). length p.taken) (others ++ pass_of queue u ended ∷ [])
    ≡ sum_by (λ (p : PassView). length p.taken) others + count
taken_more u others queue count ended counted =
    let more = sum_by-append (λ (p : PassView). length p.taken) others (pass_of queue u ended ∷ []) in
    let one = counted.taken in
    omega arith

-- What holds of each member of a list holds of its last one.
pub all_last : {X : Type 0} (F : X → Type 0) (xs : List X) (last : X) → All F (xs ++ last ∷ []) → F last
all_last F [] last all = all 0 last (omega arith)
all_last F (x ∷ xs) last all = all_last F xs last (λ k d below. all (suc k) d (omega arith))

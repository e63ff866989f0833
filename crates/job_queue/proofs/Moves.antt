-- Each kind of step keeps the rule.
use Rattle.std.proofs.Common.{◌≡◌, ◌≢◌, ℕ, suc, ◌-◌, ◌≤◌, ◌<◌, true, false, true≢false, List, [], ◌∷◌, ◌++◌}
use Rattle.std.proofs.Common.{length, set, sym, refl, ap, ◌∙◌, subst, ◌⊎◌, ⊎_elim, arith}
use mathlib.Core.Option.{some}
use lib.ListN.{get_elem?}
use Rattle.crossbeam_queue.specs.Fifo.{Pushes, Pops, Forks, Merges, Learns}
use Rattle.crossbeam_queue.proofs.Lists.{at_set, at_snoc}
use Rattle.job_queue.specs.declared.item.Item.{Item}
use Rattle.job_queue.specs.declared.item.Item.TheVariants.{Job, End}
use Rattle.job_queue.specs.declared.known.Known.{Known}
use Rattle.job_queue.specs.Counts.{IsAlone}
use Rattle.job_queue.specs.Rule.{known, of_job, one, mark, IsRight, IsKept, MayFollow, Puts, Takes, TakesJob, Leaves}
use Rattle.job_queue.specs.Rule.{Knows, giving, given, joined, spent}
use Rattle.job_queue.specs.Weights.{weigh}
use Rattle.job_queue.proofs.Views.{all_set, either_true, not_true, others_none, sole_weigh}
use Rattle.job_queue.proofs.Weights.{contains_just, just, just-self, le_weigh, tailed_jobless, tailed_mark}
use Rattle.job_queue.proofs.Weights.{tailed_unmarked, weigh-append, weigh-snoc, weigh_one, weigh_set, zero_from}

-- Nothing is known of a spent pass but that it is spent.
spent_right : (jobs : List ℕ) (passes : ℕ) (items : List Item) → IsRight jobs passes items spent
spent_right jobs passes items = record {
  jobs = λ part. absurd (omega arith);
  passes = λ part. absurd (omega arith);
  ended = λ ended. absurd (true≢false (sym ended));
  spent = λ _. record { taken = refl; due = refl; ended = refl };
}

-- Where a mark is due the queue isn't empty.
pub leaves : (place : ℕ) (v : Known) → Learns IsKept place v (Leaves v)
leaves place v items views kept at = by items kept.marks (le_weigh (λ (u : Known). u.due) views place v at)
  where
    by : (xs : List Item) → weigh (λ (u : Known). u.due) views ≡ weigh mark xs →
        v.due ≤ weigh (λ (u : Known). u.due) views → 0 < v.due → 0 < length xs
    by [] marks most due = omega arith
    by (x ∷ xs) marks most due = omega arith

-- What a pass knows stays right when an item leaves.
right_popped : (jobs : List ℕ) (passes : ℕ) (x : Item) (items : List Item) (v : Known) →
    IsRight jobs passes (x ∷ items) v → IsRight jobs passes items v
right_popped jobs passes x items v right = record {
  jobs = right.jobs;
  passes = right.passes;
  ended = λ ended. let none = right.ended ended in omega arith;
  spent = right.spent;
}

-- A pass that has every part has as many as all passes together.
whole : (items : List Item) (views : List Known) (kept : IsKept items views) (place : ℕ) (v : Known) →
    get_elem? views place ≡ some v → 0 < v.parts → v.parts ≡ v.passes → weigh (λ u. u.parts) views ≡ v.parts
whole items views kept place v at part all = kept.parts ∙ sym (all ∙ (kept.right place v at).passes part)

-- All marks are due to such a pass.
marks_are : (items : List Item) (views : List Known) (kept : IsKept items views) (place : ℕ) (v : Known) →
    get_elem? views place ≡ some v → weigh (λ u. u.parts) views ≡ v.parts → v.due ≡ weigh mark items
marks_are items views kept place v at all =
    sym (sole_weigh (λ (u : Known). u.due) views place v at all
    (λ j u there none. ((kept.right j u there).spent none).due))
    ∙ kept.marks

-- A job at the front goes to the pass that pops it.
takes_job : (place : ℕ) (v : Known) → 0 < v.parts → (x : ℕ) (items : List Item) (views : List Known) →
    IsKept (Job x ∷ items) views → get_elem? views place ≡ some v →
    (w : Known) × IsKept items (set views place w) × TakesJob v x w
takes_job place v part x items views kept at = (w, now, took)
  where
    mine : IsRight kept.jobs kept.passes (Job x ∷ items) v
    mine = kept.right place v at

    w : Known
    w = known v.parts v.passes v.due v.ended v.jobs (v.taken ++ x ∷ [])

    unended : v.ended ≡ false
    unended = not_true v.ended (λ ended. let none = mine.ended ended in absurd (omega arith))

    now : IsKept items (set views place w)
    now = record {
      jobs = kept.jobs;
      passes = kept.passes;
      parts = let s = weigh_set (λ (u : Known). u.parts) views place v w at in let p = kept.parts in omega arith;
      each_once = λ weight.
          let s = weigh_set (λ (u : Known). weigh weight u.taken) views place v w at in
          let k = kept.each_once weight in
          omega (arith, weigh-snoc weight v.taken x);
      marks = let s = weigh_set (λ (u : Known). u.due) views place v w at in let k = kept.marks in omega arith;
      tailed = kept.tailed;
      right = all_set (IsRight kept.jobs kept.passes items) views place w
          (record {
            jobs = λ _. mine.jobs part;
            passes = λ _. mine.passes part;
            ended = λ ended. absurd (true≢false (sym ended ∙ unended));
            spent = λ none. absurd (omega arith);
          })
          (λ j u other there. right_popped kept.jobs kept.passes (Job x) items u (kept.right j u there));
    }

    took : TakesJob v x w
    took = record {
      is = refl;
      job = contains_just v.jobs x
          (let k = kept.each_once (just x) in rw (mine.jobs part) (omega (arith, just-self x)));
      unended = unended;
      few =
          let k = kept.each_once one in
          let l = le_weigh (λ (u : Known). weigh one u.taken) views place v at in
          let e = rw (← mine.jobs part) at k in
          let n = weigh_one v.jobs in
          let m = weigh_one w.taken in
          let p = weigh-snoc one v.taken x in
          omega arith;
    }

-- A mark at the front goes to the pass that pops it, and behind it is no job.
takes_mark : (place : ℕ) (v : Known) → (0 < v.due) ⊎ (v.parts ≡ v.passes) → 0 < v.parts →
    (items : List Item) (views : List Known) → IsKept (End ∷ items) views → get_elem? views place ≡ some v →
    (w : Known) × IsKept items (set views place w) × Takes v End w
takes_mark place v due part items views kept at = (w, now, refl)
  where
    mine : IsRight kept.jobs kept.passes (End ∷ items) v
    mine = kept.right place v at

    w : Known
    w = known v.parts v.passes (v.due - 1) true v.jobs v.taken

    due_now : 0 < v.due
    due_now = ⊎_elim (λ (due : 0 < v.due). due)
        (λ (all : v.parts ≡ v.passes).
        let m = marks_are (End ∷ items) views kept place v at (whole (End ∷ items) views kept place v at part all) in
        omega arith)
        due

    jobless : weigh (of_job one) items ≡ 0
    jobless = zero_from _ kept.tailed

    now : IsKept items (set views place w)
    now = record {
      jobs = kept.jobs;
      passes = kept.passes;
      parts = let s = weigh_set (λ (u : Known). u.parts) views place v w at in let p = kept.parts in omega arith;
      each_once = λ weight.
          let s = weigh_set (λ (u : Known). weigh weight u.taken) views place v w at in
          let k = kept.each_once weight in
          omega arith;
      marks =
          let s = weigh_set (λ (u : Known). u.due) views place v w at in
          let k = kept.marks in
          let d = due_now in
          omega arith;
      tailed = tailed_jobless items jobless;
      right = all_set (IsRight kept.jobs kept.passes items) views place w
          (record {
            jobs = λ _. mine.jobs part;
            passes = λ _. mine.passes part;
            ended = λ _. jobless;
            spent = λ none. absurd (omega arith);
          })
          (λ j u other there. right_popped kept.jobs kept.passes End items u (kept.right j u there));
    }

-- A pop by a pass that a mark is due to, or by one that has every part.
pub takes : (place : ℕ) (v : Known) → (0 < v.due) ⊎ (v.parts ≡ v.passes) → 0 < v.parts → Pops IsKept place v (Takes v)
takes place v due part (Job x) items views kept at = takes_job place v part x items views kept at
takes place v due part End items views kept at = takes_mark place v due part items views kept at

-- A pass gives a part and a mark to a new one.
pub forks : (place : ℕ) (v : Known) → 1 < v.parts → 0 < v.due → Forks IsKept place v (giving v) (given v)
forks place v two due items views kept at = record {
  jobs = kept.jobs;
  passes = kept.passes;
  parts =
      let s = weigh_set (λ (u : Known). u.parts) views place v (giving v) at in
      let p = kept.parts in
      omega (arith, weigh-snoc (λ (u : Known). u.parts) (set views place (giving v)) (given v));
  each_once = λ weight.
      let s = weigh_set (λ (u : Known). weigh weight u.taken) views place v (giving v) at in
      let k = kept.each_once weight in
      omega (arith, weigh-snoc (λ (u : Known). weigh weight u.taken) (set views place (giving v)) (given v));
  marks =
      let s = weigh_set (λ (u : Known). u.due) views place v (giving v) at in
      let k = kept.marks in
      omega (arith, weigh-snoc (λ (u : Known). u.due) (set views place (giving v)) (given v));
  tailed = kept.tailed;
  right = λ j u there. ⊎_elim (λ old. olds j u old)
      (λ (is : given v ≡ u). subst (IsRight kept.jobs kept.passes items) is new)
      (at_snoc (set views place (giving v)) (given v) u j there);
}
  where
    mine : IsRight kept.jobs kept.passes items v
    mine = kept.right place v at

    new : IsRight kept.jobs kept.passes items (given v)
    new = record {
      jobs = λ _. mine.jobs (omega arith);
      passes = λ _. mine.passes (omega arith);
      ended = λ ended. absurd (true≢false (sym ended));
      spent = λ none. absurd (omega arith);
    }

    olds : (j : ℕ) (u : Known) → get_elem? (set views place (giving v)) j ≡ some u →
        IsRight kept.jobs kept.passes items u
    olds = all_set (IsRight kept.jobs kept.passes items) views place (giving v)
        (record {
          jobs = λ _. mine.jobs (omega arith);
          passes = λ _. mine.passes (omega arith);
          ended = mine.ended;
          spent = λ none. absurd (omega arith);
        })
        (λ j u other there. kept.right j u there)

-- Two passes are put together.
pub merges : (place : ℕ) (v : Known) (other : ℕ) (w : Known) → 0 < v.parts → 0 < w.parts →
    Merges IsKept place v other w (joined v w) spent
merges place v other w part more items views kept at two at' = record {
  jobs = kept.jobs;
  passes = kept.passes;
  parts =
      let s = weigh_set (λ (u : Known). u.parts) views place v (joined v w) at in
      let t = weigh_set (λ (u : Known). u.parts) (set views place (joined v w)) other w spent at' in
      let p = kept.parts in
      omega arith;
  each_once = λ weight.
      let s = weigh_set (λ (u : Known). weigh weight u.taken) views place v (joined v w) at in
      let t = weigh_set (λ (u : Known). weigh weight u.taken) (set views place (joined v w)) other w spent at' in
      let k = kept.each_once weight in
      omega (arith, weigh-append weight v.taken w.taken);
  marks =
      let s = weigh_set (λ (u : Known). u.due) views place v (joined v w) at in
      let t = weigh_set (λ (u : Known). u.due) (set views place (joined v w)) other w spent at' in
      let k = kept.marks in
      omega arith;
  tailed = kept.tailed;
  right = all_set (IsRight kept.jobs kept.passes items) (set views place (joined v w)) other spent
      (spent_right kept.jobs kept.passes items) (λ j u apart there. firsts j u there);
}
  where
    mine : IsRight kept.jobs kept.passes items v
    mine = kept.right place v at

    was : get_elem? views other ≡ some w
    was = ⊎_elim (λ x. absurd (two x.0)) (λ x. x.1) (at_set views place other (joined v w) w at')

    theirs : IsRight kept.jobs kept.passes items w
    theirs = kept.right other w was

    firsts : (j : ℕ) (u : Known) → get_elem? (set views place (joined v w)) j ≡ some u →
        IsRight kept.jobs kept.passes items u
    firsts = all_set (IsRight kept.jobs kept.passes items) views place (joined v w)
        (record {
          jobs = λ _. mine.jobs part;
          passes = λ _. mine.passes part;
          ended = λ ended. ⊎_elim mine.ended theirs.ended (either_true v.ended w.ended ended);
          spent = λ none. absurd (omega arith);
        })
        (λ j u apart there. kept.right j u there)

-- The pass with every part knows what became of each job.
pub knows : (place : ℕ) (v : Known) → 0 < v.parts → v.parts ≡ v.passes → Learns IsKept place v (Knows v)
knows place v part all items views kept at = λ weight.
    let s = sole_weigh (λ (u : Known). weigh weight u.taken) views place v at
    (whole items views kept place v at part all)
    (λ j u there none. ap (weigh weight) ((kept.right j u there).spent none).taken) in
    rw ((kept.right place v at).jobs part) (rw s at (kept.each_once weight))

-- A push by the one pass that has every part: of a job, where no mark was pushed yet, or of a mark.
pub puts : (n place : ℕ) (v : Known) (x : Item) → IsAlone v → v.ended ≡ false → MayFollow v x →
    Pushes IsKept n place v x (Puts v x)
puts n place v x alone unended order items views room kept at = by x order
  where
    mine : IsRight kept.jobs kept.passes items v
    mine = kept.right place v at

    all : weigh (λ (u : Known). u.parts) views ≡ v.parts
    all = whole items views kept place v at alone.some alone.whole

    due_is : v.due ≡ weigh mark items
    due_is = marks_are items views kept place v at all

    -- Each other pass is spent, and stays right whatever comes.
    others : (jobs : List ℕ) (passes : ℕ) (more : List Item) (j : ℕ) (u : Known) → j ≢ place →
        get_elem? views j ≡ some u → IsRight jobs passes more u
    others jobs passes more j u other there =
        let none = others_none views place v at all j u other there in
        let idle = (kept.right j u there).spent none in
        record {
          jobs = λ part. absurd (omega arith);
          passes = λ part. absurd (omega arith);
          ended = λ ended. absurd (true≢false (sym ended ∙ idle.ended));
          spent = λ _. idle;
        }

    by : (x : Item) → MayFollow v x → (w : Known) × IsKept (items ++ x ∷ []) (set views place w) × Puts v x w
    by (Job x) order =
        let w : Known = known v.parts v.passes v.due v.ended (v.jobs ++ x ∷ []) v.taken in (
          w,
          record {
            jobs = kept.jobs ++ x ∷ [];
            passes = kept.passes;
            parts = let s = weigh_set (λ (u : Known). u.parts) views place v w at in let p = kept.parts in omega arith;
            each_once = λ weight.
                let s = weigh_set (λ (u : Known). weigh weight u.taken) views place v w at in
                let k = kept.each_once weight in
                let a = weigh-snoc (of_job weight) items (Job x) in
                omega (arith, weigh-snoc weight kept.jobs x);
            marks =
                let s = weigh_set (λ (u : Known). u.due) views place v w at in
                let k = kept.marks in
                omega (arith, weigh-snoc mark items (Job x));
            tailed = tailed_unmarked (items ++ Job x ∷ [])
                (let d = due_is in let o : v.due ≡ 0 = order in omega (arith, weigh-snoc mark items (Job x)));
            right = all_set (IsRight (kept.jobs ++ x ∷ []) kept.passes (items ++ Job x ∷ [])) views place w
                (record {
                  jobs = λ _. ap (λ jobs. jobs ++ x ∷ []) (mine.jobs alone.some);
                  passes = λ _. mine.passes alone.some;
                  ended = λ ended. absurd (true≢false (sym ended ∙ unended));
                  spent = λ none. let some = alone.some in absurd (omega arith);
                })
                (others (kept.jobs ++ x ∷ []) kept.passes (items ++ Job x ∷ []));
          },
          refl,
        )
    by End order =
        let w : Known = known (suc v.due) (suc v.due) (suc v.due) v.ended v.jobs v.taken in (
          w,
          record {
            jobs = kept.jobs;
            passes = suc v.due;
            parts = let s = weigh_set (λ (u : Known). u.parts) views place v w at in let p = all in omega arith;
            each_once = λ weight.
                let s = weigh_set (λ (u : Known). weigh weight u.taken) views place v w at in
                let k = kept.each_once weight in
                omega (arith, weigh-snoc (of_job weight) items End);
            marks =
                let s = weigh_set (λ (u : Known). u.due) views place v w at in
                let k = kept.marks in
                omega (arith, weigh-snoc mark items End);
            tailed = tailed_mark items kept.tailed;
            right = all_set (IsRight kept.jobs (suc v.due) (items ++ End ∷ [])) views place w
                (record {
                  jobs = λ _. mine.jobs alone.some;
                  passes = λ _. refl;
                  ended = λ ended. absurd (true≢false (sym ended ∙ unended));
                  spent = λ none. absurd (omega arith);
                })
                (others kept.jobs (suc v.due) (items ++ End ∷ []));
          },
          refl,
        )

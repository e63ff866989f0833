-- What a pass keeps at run time of what it knows, and what becomes of it at the end.
use Rattle.std.specs.Prelude.{◌≡◌, ℕ, ◌+◌, ◌<◌, ◌≤◌, ◌||◌, ◌++◌, Bool, true, false, List, length}
use Rattle.std.specs.List.{list_any}
use Rattle.cut_model.specs.declared.network.TheConstants.{MOST_ROUTERS}
use Rattle.job_queue.specs.declared.jobs.TheConstants.{MOST_WORKERS}
use Rattle.job_queue.specs.declared.known.Known.{Known}
use Rattle.job_queue.specs.Passes.{PassView, all_taken}
use Rattle.job_queue.specs.Weights.{HoldSame}

-- It has one part, it counts what it took, and where it found no end a mark is due to it. There are few jobs and
-- passes.
pub record IsCounted (v : Known) (count : ℕ) (ended : Bool) : Type 0 where
  pub part : v.parts ≡ 1
  pub taken : length v.taken ≡ count
  pub told : v.ended ≡ ended
  pub due : ended ≡ false → 0 < v.due
  pub few_jobs : length v.jobs < MOST_ROUTERS
  pub few_taken : count < MOST_ROUTERS
  pub few_passes : v.passes ≤ MOST_WORKERS

-- A pass that has every part: no other pass has one.
pub record IsAlone (v : Known) : Type 0 where
  pub some : 0 < v.parts
  pub whole : v.parts ≡ v.passes

-- A pass with which all these were put together.
pub record IsGathered (v : Known) (others : List PassView) (w : Known) : Type 0 where
  pub parts : w.parts ≡ v.parts + length others
  pub passes : w.passes ≡ v.passes
  pub jobs : w.jobs ≡ v.jobs
  pub taken : w.taken ≡ v.taken ++ all_taken others
  pub ended : w.ended ≡ (v.ended || list_any (λ p. p.ended) others)

-- A pass that goes on popping until the queue is empty finds so many jobs.
pub record IsDrained (v : Known) (left : ℕ) : Type 0 where
  pub rest : List ℕ
  pub counted : length rest ≡ left
  pub each_once : HoldSame v.jobs (v.taken ++ rest)
  pub ended : v.ended ≡ true → left ≡ 0

-- A pass that has every part went on popping, and found so many jobs till now.
pub record IsDraining (v : Known) (left : ℕ) (w : Known) : Type 0 where
  pub alone : IsAlone w
  pub jobs : w.jobs ≡ v.jobs
  pub rest : List ℕ
  pub counted : length rest ≡ left
  pub taken : w.taken ≡ v.taken ++ rest
  pub told : v.ended ≡ true → w.ended ≡ true
  pub ended : v.ended ≡ true → left ≡ 0

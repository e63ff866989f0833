-- What contracts see of a pass.
use Rattle.std.specs.Prelude.{◌≡◌, ℕ, Bool, true, false, List, [], ◌∷◌, ◌++◌, length}
use Rattle.atomic_table.specs.Seated.{TableId}
use Rattle.job_queue.specs.declared.known.Known.{Known}
use Rattle.job_queue.specs.Weights.{HoldSame}

-- Which queue it is.
abbrev pub QueueId : Type 0
QueueId = TableId

-- The queue that it is a pass of, the jobs of that queue, how many passes that queue has, the jobs that this pass took,
-- in their order, and whether it found the queue empty.
pub record PassView : Type 0 where
  pub queue : QueueId
  pub jobs : List ℕ
  pub passes : ℕ
  pub taken : List ℕ
  pub ended : Bool

-- What is seen of a pass by what it knows.
abbrev pub pass_of : QueueId → Known → Bool → PassView
pass_of queue v ended =
    record { queue = queue; jobs = v.jobs; passes = v.passes; taken = v.taken; ended = ended }

-- A pass that took nothing yet.
abbrev pub new_pass : QueueId → List ℕ → ℕ → PassView
new_pass queue jobs passes =
    record { queue = queue; jobs = jobs; passes = passes; taken = []; ended = false }

-- The pass after it took x.
abbrev pub with_job : PassView → ℕ → PassView
with_job pass x = record pass { taken = pass.taken ++ x ∷ [] }

-- The pass after it found the queue empty.
abbrev pub at_end : PassView → PassView
at_end pass = record pass { ended = true }

-- What all passes took, one pass after the other.
abbrev pub all_taken : List PassView → List ℕ
all_taken [] = []
all_taken (pass ∷ passes) = pass.taken ++ all_taken passes

-- What the passes took and so many numbers more are together the jobs, each as often as it is one of them.
pub record AreTogether (jobs : List ℕ) (passes : List PassView) (left : ℕ) : Type 0 where
  pub rest : List ℕ
  pub counted : length rest ≡ left
  pub each_once : HoldSame jobs (all_taken passes ++ rest)

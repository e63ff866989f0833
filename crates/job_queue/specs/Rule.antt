-- The rule of the queue: what it holds, and what each pass knows of it.
use Rattle.std.specs.Prelude.{◌≡◌, ℕ, suc, ◌+◌, ◌-◌, ◌<◌, ◌≤◌, Bool, true, false, ◌||◌, nat_eq, List, [], ◌∷◌, ◌++◌}
use Rattle.std.specs.Prelude.{length, Contains, ⊤}
use mathlib.Core.Option.{some}
use lib.ListN.{get_elem?}
use Rattle.job_queue.specs.Weights.{weigh}
use Rattle.job_queue.specs.declared.item.Item.{Item}
use Rattle.job_queue.specs.declared.item.Item.TheVariants.{Job, End}
use Rattle.job_queue.specs.declared.known.Known.{Known}

abbrev pub known : ℕ → ℕ → ℕ → Bool → List ℕ → List ℕ → Known
known parts passes due ended jobs taken =
    record { parts = parts; passes = passes; due = due; ended = ended; jobs = jobs; taken = taken }

-- The weight of a job, and none of an end mark.
abbrev pub of_job : (ℕ → ℕ) → Item → ℕ
of_job weight (Job x) = weight x
of_job weight End = 0

-- Each job counts one, and each end mark counts one.
abbrev pub one : ℕ → ℕ
one _ = 1

abbrev pub mark : Item → ℕ
mark (Job _) = 0
mark End = 1

-- Behind an end mark there is no job.
abbrev pub tailed_by : Item → Bool → List Item → Bool
tailed_by (Job _) rest items = rest
tailed_by End rest items = nat_eq (weigh (of_job one) items) 0

abbrev pub is_tailed : List Item → Bool
is_tailed [] = true
is_tailed (x ∷ items) = tailed_by x (is_tailed items) items

-- A pass that was joined to another one has nothing.
pub record IsSpent (v : Known) : Type 0 where
  pub taken : v.taken ≡ []
  pub due : v.due ≡ 0
  pub ended : v.ended ≡ false

-- What one pass knows is right: the jobs that were pushed and the number of passes, and that no job is left where it
-- found none.
pub record IsRight (pushed : List ℕ) (all : ℕ) (items : List Item) (v : Known) : Type 0 where
  pub jobs : 0 < v.parts → v.jobs ≡ pushed
  pub passes : 0 < v.parts → v.passes ≡ all
  pub ended : v.ended ≡ true → weigh (of_job one) items ≡ 0
  pub spent : v.parts ≡ 0 → IsSpent v

-- Each job that was pushed was taken by one pass or is in the queue. The parts of all passes are the number of passes,
-- and each pass is still to take as many end marks as are due to it.
pub record IsKept (items : List Item) (views : List Known) : Type 0 where
  pub jobs : List ℕ
  pub passes : ℕ
  pub parts : weigh (λ v. v.parts) views ≡ passes
  pub each_once : (weight : ℕ → ℕ) →
      weigh weight jobs ≡ weigh (λ v. weigh weight v.taken) views + weigh (of_job weight) items
  pub marks : weigh (λ v. v.due) views ≡ weigh mark items
  pub tailed : is_tailed items ≡ true
  pub right : (place : ℕ) (v : Known) → get_elem? views place ≡ some v → IsRight jobs passes items v

-- A push of a job, by the one pass that there is; or of an end mark, after which there are as many parts as marks.
abbrev pub Puts : Known → Item → Known → Type 0
Puts v (Job x) w = w ≡ known v.parts v.passes v.due v.ended (v.jobs ++ x ∷ []) v.taken
Puts v End w = w ≡ known (suc v.due) (suc v.due) (suc v.due) v.ended v.jobs v.taken

-- No job is pushed behind a mark.
abbrev pub MayFollow : Known → Item → Type 0
MayFollow v (Job _) = v.due ≡ 0
MayFollow v End = ⊤

-- A pop of a job: it is one of those that were pushed, and no pass found the queue empty.
pub record TakesJob (v : Known) (x : ℕ) (w : Known) : Type 0 where
  pub is : w ≡ known v.parts v.passes v.due v.ended v.jobs (v.taken ++ x ∷ [])
  pub job : Contains v.jobs x
  pub unended : v.ended ≡ false
  pub few : length w.taken ≤ length v.jobs

-- A pop of a job, or of an end mark: then no job is left.
abbrev pub Takes : Known → Item → Known → Type 0
Takes v (Job x) w = TakesJob v x w
Takes v End w = w ≡ known v.parts v.passes (v.due - 1) true v.jobs v.taken

-- Where a mark is due the queue isn't empty.
abbrev pub Leaves : Known → List Item → Type 0
Leaves v items = 0 < v.due → 0 < length items

-- What the pass with every part knows: each job was taken by it or is in the queue.
abbrev pub Knows : Known → List Item → Type 0
Knows v items = (weight : ℕ → ℕ) → weigh weight v.jobs ≡ weigh weight v.taken + weigh (of_job weight) items

-- A pass gives one part and one mark to a new pass.
abbrev pub giving : Known → Known
giving v = known (v.parts - 1) v.passes (v.due - 1) v.ended v.jobs v.taken

abbrev pub given : Known → Known
given v = known 1 v.passes 1 false v.jobs []

-- Two passes are put together.
abbrev pub joined : Known → Known → Known
joined v w = known (v.parts + w.parts) v.passes (v.due + w.due) (v.ended || w.ended) v.jobs (v.taken ++ w.taken)

abbrev pub spent : Known
spent = known 0 0 0 false [] []

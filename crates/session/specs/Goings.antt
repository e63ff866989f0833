-- Work as two stretches: up to the last beginning of an item, and from there on.
use Rattle.std.specs.Prelude.{◌≡◌, ◌≤◌, ◌⊎◌, ℕ, List, [], ◌++◌, Bool, false, length, None}
use Rattle.session.specs.Points.{Point, IsIdle, Stretch}
use Rattle.text_forms.specs.Items.{Item}
use Rattle.tree_versions.specs.Records.{RecordView}

-- Nothing was taken, and no reply is in work.
pub record IsFresh {R C : Type 0} (a : Point R C) : Type 0 where
  pub idle : IsIdle a.work
  pub rest : a.rest ≡ record { taken = 0; over = false; open_text = None; bytes = [] }

-- The work up to a point at which nothing was owed, and from there on the work on one item at most; or no item was
-- begun.
pub record Going {R C : Type 0} (Line : List RecordView → R → ℕ → C → List ℕ → C → Type 0) (alone : Bool)
    (a b : Point R C) : Type 0 where
  pub mid : Point R C
  pub earlier : List Item
  pub last : List Item
  pub begun : IsIdle mid.work ⊎ ((earlier ≡ []) × (last ≡ []))
  pub first : Stretch Line alone a mid earlier
  pub second : Stretch Line alone mid b last
  pub one : length last ≤ 1

-- A put failed: a front of the run was written then.
pub record GoingBroken {R C : Type 0} (Line : List RecordView → R → ℕ → C → List ℕ → C → Type 0) (alone : Bool)
    (a b : Point R C) : Type 0 where
  pub front : List ℕ
  pub run : List ℕ
  pub split : b.work.run ≡ front ++ run
  pub on : Going Line alone a (record b { work = record b.work { run = run } })

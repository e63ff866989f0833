-- The path of two terminals in a cut tree, its least edge, and the weakest edge of the tree.
use Rattle.std.specs.Prelude.{◌≡◌, ◌≢◌, ℕ, ◌≤◌, true, false, if◌then◌else◌}
use Rattle.cut_model.specs.Net.{Net}
use Rattle.cut_model.specs.Cuts.{RouterSet, differ, cut_value}
use Rattle.cut_model.specs.Crossing.{outside}
use Rattle.cut_model.specs.Terminals.{IsTerminal}
use Rattle.tree_state.specs.Tables.{Table, below}

-- Whether exactly one of a and b is below c.
abbrev pub parts : ℕ → Table → ℕ → ℕ → RouterSet
parts n up a b c = differ (below n up c a) (below n up c b)

-- A terminal c is on the path of a and b: the edge above it parts the two.
pub record IsOnPath (net : Net) (up : Table) (a b c : ℕ) : Type 0 where
  pub terminal : IsTerminal net c
  pub parting : parts net.routers up a b c ≡ true

-- The least edge of the path, named by its lower end: of the smallest width, and among these of the smallest number.
pub record IsLeastEdge (net : Net) (up width : Table) (a b c : ℕ) : Type 0 where
  pub on_path : IsOnPath net up a b c
  pub least : (e : ℕ) → IsOnPath net up a b e → width c ≤ width e
  pub first : (e : ℕ) → IsOnPath net up a b e → width e ≡ width c → c ≤ e

-- The side of the edge above c that holds a: what is below c, or all other routers.
abbrev pub side_for : ℕ → Table → ℕ → ℕ → RouterSet
side_for n up a c = if below n up c a then below n up c else outside (below n up c)

-- The weakest edge of the tree, named by its lower end: of the smallest width, and among these of the smallest number.
pub record IsWeakest (net : Net) (root : ℕ) (width : Table) (c : ℕ) : Type 0 where
  pub terminal : IsTerminal net c
  pub not_root : c ≢ root
  pub least : (e : ℕ) → IsTerminal net e → e ≢ root → width c ≤ width e
  pub first : (e : ℕ) → IsTerminal net e → e ≢ root → width e ≡ width c → c ≤ e

-- A set holds one terminal and lacks another.
pub record PartsTerminals (net : Net) (X : RouterSet) : Type 0 where
  pub inner : ℕ
  pub inner_is : IsTerminal net inner
  pub holds : X inner ≡ true
  pub outer : ℕ
  pub outer_is : IsTerminal net outer
  pub lacks : X outer ≡ false

-- A set that parts terminals, of a cost that no other such set undercuts.
pub record IsGlobalCut (net : Net) (X : RouterSet) (k : ℕ) : Type 0 where
  pub parting : PartsTerminals net X
  pub value : cut_value net X ≡ k
  pub least : (Y : RouterSet) → PartsTerminals net Y → k ≤ cut_value net Y

-- Where a way up ends.
use Rattle.std.proofs.Common.{◌≡◌, ◌≢◌, inl, inr, ℕ, zero, suc, ◌-◌, ◌<◌, ◌≤◌, get_or, sym, arith, refl, subst}
use Rattle.std.specs.Prelude.{slice_index}
use Rattle.std.proofs.lemmas.Bool.{cases_eq}
use Rattle.tree_state.specs.Tables.{Table, way_up}
use Rattle.tree_state.proofs.Forest.{IsForest}

-- the way up of the root ends at the root
last-root : (up : Table) (root : ℕ) → up root ≡ root → (k : ℕ) → get_or (way_up up (suc k) root) k 0 ≡ root
last-root up root top zero = refl
last-root up root top (suc k) =
    subst (λ (j : ℕ). get_or (way_up up (suc k) j) k 0 ≡ root) (sym top) (last-root up root top k)

-- a way up of more routers than its first lies deep ends at the root
last_up : (root : ℕ) (up depth : Table) → IsForest root up depth → (k i : ℕ) → depth i ≤ k
    → get_or (way_up up (suc k) i) k 0 ≡ root
last_up root up depth forest zero i low = grind (arith, cases_eq i root, forest.step i)
last_up root up depth forest (suc k) i low = elim (cases_eq i root) [
  | inl e ↦
      subst (λ (j : ℕ). get_or (way_up up (suc (suc k)) j) (suc k) 0 ≡ root) (sym e)
      (last-root up root forest.top (suc k))
  | inr ne ↦ last_up root up depth forest k (up i) (omega (arith, forest.step i ne))
]

-- so one of n routers does, from the root or a router that lies less than n deep
pub ends_at_root : (root : ℕ) (up depth : Table) → IsForest root up depth → (n i : ℕ) → 0 < n
    → (i ≢ root → depth i < n) → slice_index (way_up up n i) (n - 1) ≡ root
ends_at_root root up depth forest zero i some low = absurd (omega arith)
ends_at_root root up depth forest (suc k) i some low =
    let e : suc k - 1 ≡ k = omega arith in
    subst (λ (j : ℕ). get_or (way_up up (suc k) i) j 0 ≡ root) (sym e)
    (elim (cases_eq i root) [
      | inl top ↦
          subst (λ (j : ℕ). get_or (way_up up (suc k) j) k 0 ≡ root) (sym top) (last-root up root forest.top k)
      | inr ne ↦ last_up root up depth forest k i (omega (arith, low ne))
    ])

-- Tables whose ways up end at a root, and the routers whose way up meets a set.
use Rattle.std.proofs.Common.{◌≡◌, ◌≢◌, inl, inr, ℕ, zero, suc, ◌<◌, ◌≤◌, Bool, true, false, ◌||◌}
use Rattle.std.proofs.Common.{sym, ◌∙◌, ap, arith, refl}
use Rattle.std.proofs.lemmas.Bool.{cases_Bool, cases_eq}
use Rattle.cut_model.specs.Cuts.{RouterSet}
use Rattle.tree_state.specs.Tables.{Table, some_up}
use mathlib.Core.Path.{fun_ext}

-- Every way up ends at the root: each router but the root is one deeper than the router above it.
pub record IsForest (root : ℕ) (up depth : Table) : Type 0 where
  pub top : up root ≡ root
  pub step : (i : ℕ) → i ≢ root → depth i ≡ suc (depth (up i))

-- a way up of no router meets nothing
pub some_up-zero : (P : RouterSet) (up : Table) (i : ℕ) → some_up P up zero i ≡ false
unfolding some_up
some_up-zero P up i = refl

-- one router more: the first is in the set, or the others meet it
pub some_up-suc : (P : RouterSet) (up : Table) (n i : ℕ) → some_up P up (suc n) i ≡ (P i || some_up P up n (up i))
unfolding some_up
some_up-suc P up n i = refl

-- the way up of the root meets no set without the root
pub some_up-root : (P : RouterSet) (up : Table) (root n : ℕ) → up root ≡ root → P root ≡ false
    → some_up P up n root ≡ false
some_up-root P up root zero top lacks = some_up-zero P up root
some_up-root P up root (suc n) top lacks =
    rw (some_up-suc P up n root, lacks, top) (some_up-root P up root n top lacks)

-- a way up that is long enough to reach the root meets no more if it goes on
some_up-longer : (P : RouterSet) (root : ℕ) (up depth : Table) → IsForest root up depth → P root ≡ false → (n i : ℕ)
    → depth i ≤ n → some_up P up (suc n) i ≡ some_up P up n i
some_up-longer P root up depth forest lacks zero i short =
    let e : i ≡ root = grind (arith, cases_eq i root, forest.step i) in
    rw e (some_up-root P up root 1 forest.top lacks ∙ sym (some_up-root P up root 0 forest.top lacks))
some_up-longer P root up depth forest lacks (suc n) i short = elim (cases_eq i root) [
  | inl e ↦ rw e (
      some_up-root P up root (suc (suc n)) forest.top lacks ∙ sym (some_up-root P up root (suc n) forest.top lacks))
  | inr ne ↦ (let above : depth (up i) ≤ n = omega (arith, forest.step i ne) in
      rw (some_up-suc P up (suc n) i, some_up-suc P up n i)
      (ap (λ (b : Bool). P i || b) (some_up-longer P root up depth forest lacks n (up i) above)))
]

-- so whether it meets the set is told by its first router and the way up of the next
pub some_up_is : (P : RouterSet) (root : ℕ) (up depth : Table) → IsForest root up depth → P root ≡ false → (n i : ℕ)
    → depth i ≤ n → some_up P up n i ≡ (P i || some_up P up n (up i))
some_up_is P root up depth forest lacks n i short =
    sym (some_up-longer P root up depth forest lacks n i short) ∙ some_up-suc P up n i

-- any set that is told in the same way is the set of the routers whose way up meets P
pub some_up-only : (P : RouterSet) (root : ℕ) (up depth : Table) → IsForest root up depth → P root ≡ false → (n : ℕ)
    → ((i : ℕ) → depth i ≤ n) → (B : RouterSet) → B root ≡ false
    → ((i : ℕ) → i ≢ root → B i ≡ (P i || B (up i))) → some_up P up n ≡ B
some_up-only P root up depth forest lacks n short B B_lacks B_is = fun_ext (λ i. same (depth i) i (omega arith))
  where
    same : (m i : ℕ) → depth i ≤ m → some_up P up n i ≡ B i
    same zero i low =
        let e : i ≡ root = grind (arith, cases_eq i root, forest.step i) in
        rw (e, B_lacks) (some_up-root P up root n forest.top lacks)
    same (suc m) i low = elim (cases_eq i root) [
      | inl e ↦ rw (e, B_lacks) (some_up-root P up root n forest.top lacks)
      | inr ne ↦ (let above : depth (up i) ≤ m = omega (arith, forest.step i ne) in
          some_up_is P root up depth forest lacks n i (short i)
          ∙ ap (λ (b : Bool). P i || b) (same m (up i) above)
          ∙ sym (B_is i ne))
    ]

-- a way up meets no set whose routers all lie deeper than its first
pub some_up-deeper : (P : RouterSet) (root : ℕ) (up depth : Table) → IsForest root up depth → (m : ℕ)
    → ((j : ℕ) → P j ≡ true → m < depth j) → (n i : ℕ) → depth i ≤ m → some_up P up n i ≡ false
some_up-deeper P root up depth forest m deep zero i low = some_up-zero P up i
some_up-deeper P root up depth forest m deep (suc n) i low =
    let here : P i ≡ false = grind (arith, cases_Bool (P i), deep i) in
    let above : depth (up i) ≤ m = elim (cases_eq i root) [
      | inl e ↦ rw (e, forest.top) (rw e at low)
      | inr ne ↦ omega (arith, forest.step i ne)
    ] in
    rw (some_up-suc P up n i, here) (some_up-deeper P root up depth forest m deep n (up i) above)

-- The part of the tree under t is t, what hangs from it, and its branches. There, the uncrossed side is what moves.
use Rattle.std.proofs.Common.{◌≡◌, ◌≢◌, ◌⊎◌, inl, inr, ℕ, zero, suc, ◌<◌, ◌≤◌, true, false, ◌||◌}
use Rattle.std.proofs.Common.{sym, ◌∙◌, ap, arith, refl, subst}
use Rattle.std.specs.Prelude.{◌==◌}
use Rattle.std.proofs.lemmas.Bool.{cases_Bool, cases_eq, false≢true, eq-eqb, ne_eqb}
use Rattle.cut_model.specs.Cuts.{RouterSet}
use Rattle.cut_model.specs.Crossing.{◌∩◌}
use Rattle.tree_state.proofs.Stages.{Stage, Commit, under, under_is, under-root, under-self, under-deeper, deeper}
use Rattle.tree_state.proofs.Stages.{above-done}
use Rattle.tree_state.proofs.NextTables.{movers, movers-below-t, movers-none}
use Rattle.tree_state.proofs.Moved.{moved, moved-only}
use Rattle.tree_state.proofs.Uncross.{heads, head-done, head-up, head-from, head-not_root, uncross, uncross-none}
use Rattle.tree_state.proofs.Uncross.{uncross-branch, uncross-elsewhere, uncross-high, uncross-hanging}

-- ---- the part of the tree under t

-- t and all that is under it, and all routers where t is the root.
pub region : (g : Stage) → Commit g → RouterSet
region g c i = (c.t == g.root) || under g c.t i

-- under the root lies everything
pub region-root : (g : Stage) (c : Commit g) (i : ℕ) → c.t ≡ g.root → region g c i ≡ true
unfolding region
region-root g c i e = rw (eq-eqb c.t g.root e) refl

-- elsewhere it is what is under t
pub region-other : (g : Stage) (c : Commit g) (i : ℕ) → c.t ≢ g.root → region g c i ≡ under g c.t i
unfolding region
region-other g c i not_root = rw (ne_eqb c.t g.root not_root) refl

-- a router other than t is in it along with the router above it
region_is : (g : Stage) (c : Commit g) (i : ℕ) → i ≢ c.t → region g c i ≡ region g c (g.up i)
region_is g c i not_t = elim (cases_eq c.t g.root) [
  | inl e ↦ region-root g c i e ∙ sym (region-root g c (g.up i) e)
  | inr not_root ↦
      region-other g c i not_root
      ∙ rw (under_is g c.t i not_root, ne_eqb i c.t not_t) (sym (region-other g c (g.up i) not_root))
]

-- t is in it
region-t : (g : Stage) (c : Commit g) → region g c c.t ≡ true
region-t g c = elim (cases_eq c.t g.root) [
  | inl e ↦ region-root g c c.t e
  | inr not_root ↦ region-other g c c.t not_root ∙ under-self g c.t not_root
]

-- and so is what hangs from t
region-hanging : (g : Stage) (c : Commit g) (i : ℕ) → i ≢ c.t → g.up i ≡ c.t → region g c i ≡ true
region-hanging g c i not_t hangs = region_is g c i not_t ∙ ap (region g c) hangs ∙ region-t g c

-- ---- its branches

-- A router is in a branch that hangs from t.
pub record IsInBranch (g : Stage) (c : Commit g) (i : ℕ) : Type 0 where
  pub head : ℕ
  pub is_head : heads g c head ≡ true
  pub below : under g head i ≡ true

-- a router of the part of t that is neither t nor hangs from it is in a branch, by induction over its depth
branch_of : (g : Stage) (c : Commit g) (k i : ℕ) → g.depth i ≤ k → i ≢ g.root → i ≢ c.t → g.up i ≢ c.t
    → region g c i ≡ true → IsInBranch g c i
branch_of g c zero i low not_root not_t not_hanging inside = absurd (omega (arith, deeper g i not_root))
branch_of g c (suc k) i low not_root not_t not_hanging inside =
    elim (cases_eq (g.up (g.up i)) c.t) [
      | inl hangs ↦ record {
        head = g.up i;
        is_head = head-from g c (g.up i) (above-done g i up_not_root) hangs;
        below = rw (under_is g (g.up i) i up_not_root, under-self g (g.up i) up_not_root)
            (grind (arith, cases_Bool (i == g.up i)));
      }
      | inr not_either ↦ (let above : IsInBranch g c (g.up i) = branch_of g c k (g.up i)
          (omega (arith, deeper g i not_root)) up_not_root not_hanging not_either up_inside in
          record {
            head = above.head;
            is_head = above.is_head;
            below = rw (under_is g above.head i (head-not_root g c above.head above.is_head), above.below)
                (grind (arith, cases_Bool (i == above.head)));
          })
    ]
  where
    up_inside : region g c (g.up i) ≡ true
    up_inside = sym (region_is g c i not_t) ∙ inside

    up_not_root : g.up i ≢ g.root
    up_not_root e = elim (cases_eq c.t g.root) [
      | inl top ↦ not_hanging (e ∙ sym top)
      | inr t_not_root ↦ false≢true
          (sym (region-other g c (g.up i) t_not_root ∙ rw e (under-root g c.t t_not_root)) ∙ up_inside)
    ]

-- two routers that are in the same branches are in the uncrossed side together, once one of these is passed
uncross-alike : (g : Stage) (c : Commit g) (i j : ℕ)
    → ((r : ℕ) → heads g c r ≡ true → under g r i ≡ under g r j)
    → (r : ℕ) → heads g c r ≡ true → under g r i ≡ true → (m : ℕ) → r < m → uncross g c m i ≡ uncross g c m j
uncross-alike g c i j alike r head below zero passed = absurd (omega arith)
uncross-alike g c i j alike r head below (suc m) passed = elim (cases_eq r m) [
  | inl e ↦ same_branch (rw e at head) (rw e at below)
  | inr ne ↦ (let before : uncross g c m i ≡ uncross g c m j
      = uncross-alike g c i j alike r head below m (omega arith) in
      elim (cases_Bool (heads g c m)) [
        | inr none ↦ rw (uncross-none g c m none) before
        | inl is_head ↦ elim (cases_Bool (under g m i)) [
          | inl inside ↦ same_branch is_head inside
          | inr elsewhere ↦
              uncross-elsewhere g c m i elsewhere ∙ before
              ∙ sym (uncross-elsewhere g c m j (sym (alike m is_head) ∙ elsewhere))
        ]
      ])
]
  where
    same_branch : heads g c m ≡ true → under g m i ≡ true → uncross g c (suc m) i ≡ uncross g c (suc m) j
    same_branch is_head inside =
        uncross-branch g c m i is_head inside ∙ sym (uncross-branch g c m j is_head (sym (alike m is_head) ∙ inside))

-- ---- what moves

-- The uncrossed side, as far as the part under t goes.
abbrev pub uncrossed : (g : Stage) → Commit g → RouterSet
uncrossed g c = uncross g c g.routers ∩ region g c

-- t isn't in it
uncrossed-t : (g : Stage) (c : Commit g) → uncrossed g c c.t ≡ false
uncrossed-t g c = rw (uncross-high g c c.t (omega arith) g.routers, c.lacks) refl

-- nor is the root
uncrossed-root : (g : Stage) (c : Commit g) → uncrossed g c g.root ≡ false
uncrossed-root g c = elim (cases_eq c.t g.root) [
  | inl e ↦ subst (λ (r : ℕ). uncrossed g c r ≡ false) e (uncrossed-t g c)
  | inr not_root ↦
      rw (region-other g c g.root not_root, under-root g c.t not_root)
      (grind (arith, cases_Bool (uncross g c g.routers g.root)))
]

-- nor the parent of t
uncrossed-parent : (g : Stage) (c : Commit g) → c.t ≢ g.root → uncrossed g c (g.up c.t) ≡ false
uncrossed-parent g c not_root =
    rw (region-other g c (g.up c.t) not_root, under-deeper g c.t (g.up c.t) (deeper g c.t not_root))
    (grind (arith, cases_Bool (uncross g c g.routers (g.up c.t))))

-- a router of a branch, but for the head, is in it along with the router above it
uncrossed-branch : (g : Stage) (c : Commit g) (i : ℕ) → i ≢ g.root → i ≢ c.t → g.up i ≢ c.t → region g c i ≡ true
    → uncross g c g.routers i ≡ uncross g c g.routers (g.up i)
uncrossed-branch g c i not_root not_t not_hanging inside =
    uncross-alike g c i (g.up i) alike branch.head branch.is_head branch.below g.routers
    (g.shape.within branch.head (head-done g c branch.head branch.is_head))
  where
    branch : IsInBranch g c i
    branch = branch_of g c (g.depth i) i (omega arith) not_root not_t not_hanging inside

    alike : (r : ℕ) → heads g c r ≡ true → under g r i ≡ under g r (g.up i)
    alike r head =
        under_is g r i (head-not_root g c r head)
        ∙ rw (ne_eqb i r (λ e. not_hanging (ap g.up e ∙ head-up g c r head))) refl

-- so it is told as the set that moves is told: what moves is the uncrossed side, as far as the part under t goes
pub moved-uncrossed : (g : Stage) (c : Commit g) → moved g c ≡ uncrossed g c
moved-uncrossed g c =
    moved-only g c (uncrossed g c) (uncrossed-root g c)
    (λ i not_root. told i not_root (cases_eq i c.t) (cases_eq (g.up i) c.t))
  where
    told : (i : ℕ) → i ≢ g.root → (i ≡ c.t) ⊎ (i ≢ c.t) → (g.up i ≡ c.t) ⊎ (g.up i ≢ c.t)
        → uncrossed g c i ≡ (movers g c i || uncrossed g c (g.up i))
    told i not_root (inl e) _ =
        rw (e, uncrossed-t g c, movers-none g c c.t (inr c.lacks), uncrossed-parent g c (λ h. not_root (e ∙ h))) refl
    told i not_root (inr not_t) (inl hangs) =
        rw (
          movers-below-t g c i hangs,
          uncross-hanging g c i hangs g.routers,
          region-hanging g c i not_t hangs,
          hangs,
          uncrossed-t g c,
        )
        (grind (arith, cases_Bool (c.X i)))
    told i not_root (inr not_t) (inr not_hanging) = elim (cases_Bool (region g c i)) [
      | inr out ↦
          rw (movers-none g c i (inl not_hanging), out, ← region_is g c i not_t, out)
          (grind (arith, cases_Bool (uncross g c g.routers i), cases_Bool (uncross g c g.routers (g.up i))))
      | inl inside ↦
          rw (
            movers-none g c i (inl not_hanging),
            uncrossed-branch g c i not_root not_t not_hanging inside,
            region_is g c i not_t,
          )
          refl
    ]

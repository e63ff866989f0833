-- A set that parts two terminals of a tree parts, on their path, a terminal from the one that it hangs from.
use Rattle.std.proofs.Common.{◌≡◌, ◌≢◌, inl, inr, ℕ, zero, suc, ◌+◌, ◌≤◌, Bool, true, false}
use Rattle.std.proofs.Common.{sym, ◌∙◌, ap, arith, refl}
use Rattle.std.proofs.lemmas.Bool.{cases_Bool, cases_eq, cases_lt, false≢true, ne_eqb}
use Rattle.cut_model.specs.Net.{Net}
use Rattle.cut_model.specs.Cuts.{RouterSet, differ}
use Rattle.cut_model.specs.Terminals.{IsTerminal}
use Rattle.tree_state.specs.Paths.{parts, IsOnPath}
use Rattle.tree_state.proofs.Trees.{Tree, tree_below, tree_below_is, tree_below-self, tree_below-high, tree_below-up}

-- A terminal on the path of a and b that Y parts from the one above it.
pub record IsCrossedAt (net : Net) (t : Tree net) (Y : RouterSet) (a b c : ℕ) : Type 0 where
  pub on_path : IsOnPath net t.up a b c
  pub not_root : c ≢ t.root
  pub crossed : differ (Y c) (Y (t.up c)) ≡ true

-- ---- truth values that differ

-- differing goes both ways
pub differ_comm : (p q : Bool) → differ p q ≡ differ q p
differ_comm p q = grind (arith, cases_Bool p, cases_Bool q)

-- no value differs from itself
pub differ-same : (p : Bool) → differ p p ≡ false
differ-same true = refl
differ-same false = refl

-- routers that a set parts are two
pub differ-apart : (Y : RouterSet) (a b : ℕ) → differ (Y a) (Y b) ≡ true → b ≢ a
differ-apart Y a b parted e = false≢true (sym (differ-same (Y a)) ∙ (rw e at parted))

-- ---- one step up the path

-- the path from b to a is that from a to b
crossed_turned : (net : Net) (t : Tree net) (Y : RouterSet) (a b c : ℕ) → IsCrossedAt net t Y a b c
    → IsCrossedAt net t Y b a c
crossed_turned net t Y a b c at_c = record {
  on_path = record {
    terminal = at_c.on_path.terminal;
    parting = differ_comm (tree_below net t c b) (tree_below net t c a) ∙ at_c.on_path.parting;
  };
  not_root = at_c.not_root;
  crossed = at_c.crossed;
}

-- of two terminals that differ, the deeper one isn't the root
pub deeper-not_root : (net : Net) (t : Tree net) (a b : ℕ) → IsTerminal net b → t.depth b ≤ t.depth a → b ≢ a
    → a ≢ t.root
deeper-not_root net t a b terminal low apart e =
    let top : t.depth a ≡ 0 = ap t.depth e ∙ t.depth_root in
    apart (elim (cases_eq b t.root) [
      | inl b_top ↦ b_top ∙ sym e
      | inr b_low ↦ absurd (omega (arith, t.step b terminal b_low))
    ])

-- the deeper one is on the path
pub on_path-deeper : (net : Net) (t : Tree net) (a b : ℕ) → IsTerminal net a → IsTerminal net b
    → t.depth b ≤ t.depth a → b ≢ a → a ≢ t.root → IsOnPath net t.up a b a
on_path-deeper net t a b a_is b_is low apart not_root = record {
  terminal = a_is;
  parting = rw (tree_below-self net t a not_root a_is, tree_below-high net t a b not_root b_is low apart) refl;
}

-- and what is on the path from the router above the deeper one is on the path from it
pub on_path-up : (net : Net) (t : Tree net) (a b c : ℕ) → IsTerminal net a → IsTerminal net b → t.depth b ≤ t.depth a
    → b ≢ a → a ≢ t.root → c ≢ t.root → IsOnPath net t.up (t.up a) b c → IsOnPath net t.up a b c
on_path-up net t a b c a_is b_is low apart not_root c_not_root above = record {
  terminal = above.terminal;
  parting = elim (cases_eq a c) [
    | inr other ↦ rw (tree_below_is net t c a c_not_root a_is, ne_eqb a c other) above.parting
    | inl e ↦ absurd (false≢true (sym (neither e) ∙ above.parting))
  ];
}
  where
    neither : a ≡ c → parts net.routers t.up (t.up a) b c ≡ false
    neither e =
        rw (← e, tree_below-up net t a not_root a_is, tree_below-high net t a b not_root b_is low apart) refl

-- so Y crosses the path at the deeper one, or further on
one_up : (net : Net) (t : Tree net) (Y : RouterSet) (a b : ℕ) → IsTerminal net a → IsTerminal net b
    → t.depth b ≤ t.depth a → b ≢ a → a ≢ t.root
    → (differ (Y (t.up a)) (Y b) ≡ true → (c : ℕ) × IsCrossedAt net t Y (t.up a) b c)
    → differ (Y a) (Y b) ≡ true → (c : ℕ) × IsCrossedAt net t Y a b c
one_up net t Y a b a_is b_is low apart not_root further parted = elim (cases_Bool (differ (Y a) (Y (t.up a)))) [
  | inl crossed ↦ (
    a,
    record {
      on_path = on_path-deeper net t a b a_is b_is low apart not_root;
      not_root = not_root;
      crossed = crossed;
    },
  )
  | inr alike ↦ (
      let above : (c : ℕ) × IsCrossedAt net t Y (t.up a) b c
      = further (grind (arith, cases_Bool (Y a), cases_Bool (Y b), cases_Bool (Y (t.up a)))) in (
        above.0,
        record {
          on_path = on_path-up net t a b above.0 a_is b_is low apart not_root above.1.not_root above.1.on_path;
          not_root = above.1.not_root;
          crossed = above.1.crossed;
        },
      ))
]

-- ---- all the way

-- by induction over the sum of the two depths, one step up from the deeper one at a time
crossed_within : (net : Net) (t : Tree net) (Y : RouterSet) (k a b : ℕ) → t.depth a + t.depth b ≤ k
    → IsTerminal net a → IsTerminal net b → differ (Y a) (Y b) ≡ true → (c : ℕ) × IsCrossedAt net t Y a b c
crossed_within net t Y zero a b sum a_is b_is parted =
    let apart : b ≢ a = differ-apart Y a b parted in
    let not_root : a ≢ t.root = deeper-not_root net t a b b_is (omega arith) apart in
    absurd (omega (arith, t.step a a_is not_root))
crossed_within net t Y (suc k) a b sum a_is b_is parted = elim (cases_lt (t.depth a) (t.depth b)) [
  | inr b_high ↦ (
      let apart : b ≢ a = differ-apart Y a b parted in
      let not_root : a ≢ t.root = deeper-not_root net t a b b_is b_high apart in
      one_up net t Y a b a_is b_is b_high apart not_root
      (λ p. crossed_within net t Y k (t.up a) b (omega (arith, t.step a a_is not_root)) (t.up_is a a_is) b_is p) parted)
  | inl a_high ↦ (
      let turned : differ (Y b) (Y a) ≡ true = differ_comm (Y b) (Y a) ∙ parted in
      let apart : a ≢ b = differ-apart Y b a turned in
      let not_root : b ≢ t.root = deeper-not_root net t b a a_is (omega arith) apart in
      let found : (c : ℕ) × IsCrossedAt net t Y b a c
      = one_up net t Y b a b_is a_is (omega arith) apart not_root
      (λ p. crossed_within net t Y k (t.up b) a (omega (arith, t.step b b_is not_root)) (t.up_is b b_is) a_is p)
      turned in
      (found.0, crossed_turned net t Y b a found.0 found.1))
]

-- a set that parts two terminals crosses their path
pub path_crossed : (net : Net) (t : Tree net) (Y : RouterSet) (a b : ℕ) → IsTerminal net a → IsTerminal net b
    → differ (Y a) (Y b) ≡ true → (c : ℕ) × IsCrossedAt net t Y a b c
path_crossed net t Y a b a_is b_is parted =
    crossed_within net t Y (t.depth a + t.depth b) a b (omega arith) a_is b_is parted

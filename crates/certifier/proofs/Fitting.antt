-- What has to be carried to a place of a layout.
use Rattle.std.proofs.Common.{◌≡◌, ℕ, ◌+◌, ◌*◌, ◌<◌, ◌≤◌, List, length, arith, inl, inr, subst}
use Rattle.std.proofs.lemmas.Bool.{cases_lt}
use Rattle.std.proofs.Math.Nat.{mul-le-mul_right}
use Rattle.std.specs.Prelude.{slice_index}
use Rattle.cut_model.specs.Net.{Net}
use Rattle.tree_state.specs.Views.{TreeView}
use Rattle.certifier.specs.Blocks.{Carried, CarriesFlow, Fits, Layout, back_place}
use Rattle.certifier.specs.Blocks.{block_place, block_size, layout_size}
use Rattle.certifier.specs.Blocks.{witness_layout}

-- A block ends before a later one begins.
pub block_ends : (size b c : ℕ) → b < c → b * size + size ≤ c * size
block_ends size b c low = let more = mul-le-mul_right size low in omega (arith, more)

-- A place is in one block.
pub one_block : (size b k c j : ℕ) → k < size → j < size → b * size + k ≡ c * size + j → b ≡ c
one_block size b k c j of_b of_c same =
    elim (cases_lt b c) [
      | inl before ↦ absurd (omega (arith, block_ends size b c before, same, of_b))
      | inr not_before ↦ elim (cases_lt c b) [
        | inl behind ↦ absurd (omega (arith, block_ends size c b behind, same, of_c))
        | inr not_behind ↦ omega (arith, not_before, not_behind)
      ]
    ]

-- A block whose line stands before some end begins before it.
pub block_within : (size b k n place : ℕ) → place ≡ b * size + k → place < n * size → b < n
block_within size b k n place is low =
    elim (cases_lt b n) [
      | inl within ↦ within
      | inr past ↦ absurd (omega (arith, mul-le-mul_right size past, is, low))
    ]

module _ (tree : TreeView) (layout : Layout) (place : ℕ) (carry : Carried) where
  -- Behind a line of a block the flow of its edge does.
  pub fits_in_block : (b k : ℕ) → place ≡ block_place tree.net layout b k → k < block_size tree.net
      → CarriesFlow tree (slice_index layout.children b) carry → Fits tree layout (place + 1) carry
  fits_in_block b k is of_block carries block link within of_link next =
      let same : b ≡ block = one_block (block_size tree.net) b k block link of_block (omega (arith, of_link))
      (omega (arith, is, next)) in
      subst (λ (at : ℕ). CarriesFlow tree (slice_index layout.children at) carry) same carries

  -- Behind a line in front of all blocks anything does,
  pub fits_in_front : place < length layout.front → Fits tree layout (place + 1) carry
  fits_in_front front block link within of_link next = absurd (omega (arith, front, next))

  -- and so it does behind the last block.
  pub fits_behind : back_place tree.net layout ≤ place → Fits tree layout (place + 1) carry
  fits_behind back block link within of_link next =
      let end = block_ends (block_size tree.net) block (length layout.children) within in
      absurd (omega (arith, back, next, end, of_link))

-- Where a place is in no block of a layout, it stands behind all of them.
pub back_behind : (net : Net) (layout : Layout) (block k place : ℕ) → place ≡ block_place net layout block k
    → length layout.children ≤ block → back_place net layout ≤ place
back_behind net layout block k place is past =
    let more = mul-le-mul_right (block_size net) past in omega (arith, is, more)

-- A place of a witness is in one of its blocks,
pub witness_within : (net : Net) (children : List ℕ) (block k place : ℕ)
    → place ≡ block_place net (witness_layout children) block k → place < layout_size net (witness_layout children)
    → block < length children
witness_within net children block k place is low =
    block_within (block_size net) block k (length children) place (omega (arith, is)) (omega (arith, low))

-- and each place of a block is one of a layout.
pub place_below : (net : Net) (layout : Layout) (block k place : ℕ) → place ≡ block_place net layout block k
    → k < block_size net → block < length layout.children → place < layout_size net layout
place_below net layout block k place is of_block within =
    let end = block_ends (block_size net) block (length layout.children) within in
    omega (arith, is, end, of_block)

-- Each place of a layout holds one line: of what stands in front, of a block, or of what stands behind.
use Rattle.std.proofs.Common.{◌≡◌, ℕ, suc, ◌+◌, ◌*◌, ◌≤◌, ◌<◌, List, length, ap, arith, inl, inr}
use Rattle.std.proofs.Math.Nat.{mul-le-mul, suc-mul}
use Rattle.std.proofs.lemmas.Bool.{cases_lt}
use Rattle.std.specs.Prelude.{slice_index}
use Rattle.cut_model.specs.Net.{Net}
use Rattle.reply_lines.specs.Tails.{KnownLine}
use Rattle.tree_state.specs.Views.{TreeView}
use Rattle.certifier.specs.Blocks.{BlockLine, Carried, Layout, LayoutLine, back_place}
use Rattle.certifier.specs.Blocks.{block_place, block_size}

-- What is in a block before another one stands before it.
block_before : (size b b2 k : ℕ) → k < size → b < b2 → b * size + k < b2 * size
block_before size b b2 k low before =
    let next : suc b ≤ b2 = omega arith in
    let same : size ≤ size = omega arith in
    let all : suc b * size ≤ b2 * size = mul-le-mul next same in
    omega (arith, all, suc-mul b size)

-- Two places in blocks are the same only where block and place in it are the same.
pub blocks_apart : (size b b2 k k2 : ℕ) → k < size → k2 < size → b * size + k ≡ b2 * size + k2
    → (b ≡ b2) × (k ≡ k2)
blocks_apart size b b2 k k2 low low2 same = elim (cases_lt b b2) [
  | inl before ↦ absurd (omega (arith, block_before size b b2 k low before))
  | inr behind ↦ elim (cases_lt b2 b) [
    | inl before2 ↦ absurd (omega (arith, block_before size b2 b k2 low2 before2))
    | inr behind2 ↦ (
        let one : b ≡ b2 = omega arith in (one, omega (arith, same, ap (λ x. x * size) one)))
  ]
]

-- Behind a block the next one begins.
pub next_block : (net : Net) (layout : Layout) (b : ℕ)
    → block_place net layout b (block_size net) ≡ block_place net layout (suc b) 0
next_block net layout b = omega (arith, suc-mul b (block_size net))

-- A place of a block stands before what is behind the blocks.
pub before_back : (net : Net) (layout : Layout) (b k : ℕ) → b < length layout.children → k < block_size net
    → block_place net layout b k < back_place net layout
before_back net layout b k within low =
    omega (arith, block_before (block_size net) b (length layout.children) k low within)

-- At a place in front stands a line of the front.
pub front_line : {names : List (List ℕ)} {tree : TreeView} {layout : Layout} {place : ℕ} {carry carry2 : Carried}
    {line : List ℕ} → place < length layout.front → LayoutLine names tree layout place carry line carry2
    → KnownLine Carried layout.front place carry line carry2
front_line within (inl front) = front.known
front_line within (inr (inl block)) = let at = block.place_is in absurd (omega arith)
front_line within (inr (inr back)) = let at = back.place_is in absurd (omega arith)

-- At a place of a block stands the line of that place of the block,
pub block_line : {names : List (List ℕ)} {tree : TreeView} {layout : Layout} {carry carry2 : Carried} {line : List ℕ}
    (b k : ℕ) → b < length layout.children → k < block_size tree.net
    → LayoutLine names tree layout (block_place tree.net layout b k) carry line carry2
    → BlockLine layout.word names tree (slice_index layout.children b) k carry line carry2
block_line b k within low (inl front) = let before = front.within in absurd (omega arith)
block_line {tree = tree} {layout = layout} b k within low (inr (inl block)) =
    let place = block.place_is in
    let same = blocks_apart (block_size tree.net) b block.block k block.k low block.of_block (omega arith) in
    rw (same.0, same.1) block.told
block_line {tree = tree} {layout = layout} b k within low (inr (inr back)) =
    let place = back.place_is in
    absurd (omega (arith, before_back tree.net layout b k within low))

-- and behind the blocks what stands behind.
pub back_line : {names : List (List ℕ)} {tree : TreeView} {layout : Layout} {carry carry2 : Carried} {line : List ℕ}
    (j : ℕ) → j < length layout.back
    → LayoutLine names tree layout (back_place tree.net layout + j) carry line carry2
    → KnownLine Carried layout.back j carry line carry2
back_line {tree = tree} {layout = layout} j within (inl front) = let before = front.within in absurd (omega arith)
back_line {tree = tree} {layout = layout} j within (inr (inl block)) =
    let place = block.place_is in
    absurd (omega (arith, before_back tree.net layout block.block block.k block.within block.of_block))
back_line {tree = tree} {layout = layout} j within (inr (inr back)) =
    let place = back.place_is in
    let same : j ≡ back.j = omega arith in rw same back.known

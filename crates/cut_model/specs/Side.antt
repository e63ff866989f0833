-- A set of routers: truth values, one for each router, and the words of 64 bits that hold them.
use Rattle.std.specs.Prelude.{◌≡◌, ℕ, ◌*◌, ◌/◌, ◌%◌, ◌^◌, ◌<◌, ◌≤◌, Bool}
use Rattle.std.specs.Prelude.{false, ◌==◌, List, map, take, drop, length, slice_index}
use Rattle.std.specs.Int.{bit_at}
use Rattle.std.specs.List.{range_with_len}
use lib.Lanes.{mask_l}
use Rattle.cut_model.specs.declared.network.TheConstants.{MOST_ROUTERS}

-- the truth value of a router: a bit of the words
abbrev pub bit_of : List ℕ → ℕ → Bool
bit_of words r = bit_at (slice_index words (r / 64)) (r % 64) == 1

-- the truth values of the routers below n
unfoldable pub bits_of : List ℕ → ℕ → List Bool
bits_of words n = map (bit_of words) (range_with_len 0 n)

-- the i-th word, the lowest bit first
abbrev pub word_of : List Bool → ℕ → ℕ
word_of bits i = mask_l (take 64 (drop (64 * i) bits))

-- the sixteen words
unfoldable pub words_of : List Bool → List ℕ
words_of bits = map (word_of bits) (range_with_len 0 16)

-- sixteen words hold a truth value for each router that a network may have, and no bit beyond them is set
pub record IsHeld (words : List ℕ) (n : ℕ) : Type 0 where
  pub limit : n ≤ MOST_ROUTERS
  pub sixteen : length words ≡ 16
  pub fit : (i : ℕ) → slice_index words i < 2 ^ 64
  pub rest : (r : ℕ) → n ≤ r → bit_of words r ≡ false

-- the 64 bits of a word are these truth values, the lowest bit first
abbrev pub HasBits : ℕ → (ℕ → Bool) → Type 0
HasBits word bits = (i : ℕ) → i < 64 → (bit_at word i == 1) ≡ bits i

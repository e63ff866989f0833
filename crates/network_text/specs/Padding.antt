-- A name in as many bytes as a name may have, with its length.
use Rattle.std.specs.Prelude.{◌≡◌, ℕ, ◌≤◌, ◌-◌, List, ◌++◌, length, take, drop, replicate, IsTrue}
use Rattle.std.proofs.Common.{◌∙◌, ap, sym, arith}
use Rattle.std.proofs.lemmas.List.{take-append-drop, length-take-le}
use Rattle.text_forms.specs.Names.{is_name}
use Rattle.text_forms.specs.declared.names.TheConstants.{MOST_NAME_BYTES}

-- The bytes up to the length are a name, and those past it are zeros.
pub record IsPadded (len : ℕ) (bytes : List ℕ) : Type 0 where
  pub short : len ≤ MOST_NAME_BYTES
  pub size : length bytes ≡ MOST_NAME_BYTES
  pub zeros : drop len bytes ≡ replicate (MOST_NAME_BYTES - len) 0
  pub named : IsTrue (is_name (take len bytes))

-- The bytes of which these are the front, with zeros behind them.
abbrev pub padded : List ℕ → List ℕ
padded bytes = bytes ++ replicate (MOST_NAME_BYTES - length bytes) 0

-- The front has the length.
pub length-front : (len : ℕ) (bytes : List ℕ) → IsPadded len bytes → length (take len bytes) ≡ len
length-front len bytes h = length-take-le len bytes (let short = h.short in let size = h.size in omega arith)

-- The front tells all bytes.
pub padded-front : (len : ℕ) (bytes : List ℕ) → IsPadded len bytes → padded (take len bytes) ≡ bytes
padded-front len bytes h =
    rw (length-front len bytes h) (ap (λ rest. take len bytes ++ rest) (sym h.zeros) ∙ take-append-drop len bytes)

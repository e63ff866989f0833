-- The links that were touched.
use Rattle.std.specs.Prelude.{ℕ, ◌∷◌, [], ◌++◌, Bool, true, nat_lt, List, length, if◌then◌else◌}

-- Whether all links are taken as touched, the links that are listed, and how many there is room to list.
pub record Touches : Type 0 where
  pub room : ℕ
  pub all : Bool
  pub links : List ℕ

-- With one link more at the end of the list, or with all links taken as touched where the list is full.
abbrev pub noted : Touches → ℕ → Touches
noted touches link =
    if nat_lt (length touches.links) touches.room
    then record touches { links = touches.links ++ link ∷ [] }
    else record touches { all = true }

-- The same, or unchanged where nothing new is to be noted.
abbrev pub noted_if : Bool → Touches → ℕ → Touches
noted_if is_new touches link = if is_new then noted touches link else touches

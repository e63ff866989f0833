-- The names of routers.
use Rattle.std.specs.Prelude.{ℕ, List, Bool, ◌==◌, ◌&&◌, ◌||◌, nat_lt, nat_le, length}
use Rattle.std.specs.List.{list_all}
use Rattle.text_forms.specs.declared.names.TheConstants.{MOST_NAME_BYTES}

-- an ASCII letter, a digit, `.`, `_` or `-`
abbrev pub is_name_byte : ℕ → Bool
is_name_byte b =
    (nat_le 97 b && nat_le b 122) || (nat_le 65 b && nat_le b 90) || (nat_le 48 b && nat_le b 57)
    || (b == 46) || (b == 95) || (b == 45)

-- one of these bytes or more, and not too many
abbrev pub is_name : List ℕ → Bool
is_name bytes = nat_lt 0 (length bytes) && nat_le (length bytes) MOST_NAME_BYTES && list_all is_name_byte bytes

-- The six routers over which the rule is tried by call.
use Rattle.std.specs.Prelude.{[], ◌∷◌}
use Rattle.cut_model.specs.Net.{Net}

-- Six routers with nine links.
abbrev pub six_routers : Net
six_routers = record {
  routers = 6;
  links =
      record { a = 0; b = 1; cap = 1 } ∷ record { a = 0; b = 2; cap = 7 } ∷ record { a = 1; b = 2; cap = 1 }
      ∷ record { a = 1; b = 3; cap = 3 } ∷ record { a = 1; b = 4; cap = 2 } ∷ record { a = 2; b = 4; cap = 4 }
      ∷ record { a = 3; b = 4; cap = 1 } ∷ record { a = 3; b = 5; cap = 6 } ∷ record { a = 4; b = 5; cap = 2 } ∷ [];
}

-- Two routers with a link.
abbrev pub two_routers : Net
two_routers = record { routers = 2; links = record { a = 0; b = 1; cap = 5 } ∷ [] }

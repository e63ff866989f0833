-- How sets of routers lie to each other.
use Rattle.std.specs.Prelude.{◌≡◌, ℕ, true}
use Rattle.cut_model.specs.Cuts.{RouterSet}

-- Each router of the one set is in the other.
abbrev pub IsPartOf : RouterSet → RouterSet → Type 0
IsPartOf small large = (router : ℕ) → small router ≡ true → large router ≡ true

-- What it is to send flow from one router to another.
use Rattle.std.specs.Prelude.{◌≡◌, ℕ, ℤ, pos, ◌+ℤ◌, ◌-ℤ◌, ◌==◌, List, if◌then◌else◌}
use Rattle.cut_model.specs.declared.network.Link.{Link}
use Rattle.cut_model.specs.Flow.{out}

-- The amount if the two routers are one, and else 0.
abbrev pub only_at : ℕ → ℕ → ℕ → ℤ
only_at router r amount = if router == r then pos amount else pos 0

-- From the one flow to the other, router `from` sends out an amount more, router `to` sends out that
-- amount less, and every other router sends out as much as before.
abbrev pub SendsMore : List Link → List ℤ → List ℤ → ℕ → ℕ → ℕ → Type 0
SendsMore links before after from to amount =
    (r : ℕ) → out r links after ≡ ((out r links before +ℤ only_at from r amount) -ℤ only_at to r amount)

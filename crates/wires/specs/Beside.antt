-- What an object is beside a source, or beside a sink.
use Rattle.std.specs.Prelude.{ℕ, [], List, Bool, false, Some}
use Rattle.std.specs.declared.option.Option.{Option}

-- what a half of a peer shows: the bytes left or written, where they are told, whether the end was met,
-- a count of faults, and whether puts of so many bytes together surely succeed
pub record Half : Type 0 where
  pub bytes : Option (List ℕ)
  pub met : Bool
  pub faults : ℕ
  pub takes : ℕ → Bool

-- nothing; or what the other half of a peer shows, and what the peer is beside its two halves;
-- or one or two references, by their ghost names, with what the object behind each is beside
pub data Beside : Type 0 where
  Nothing : Beside
  Other : Half → Beside → Beside
  One : ℕ → Beside → Beside
  Two : ℕ → Beside → ℕ → Beside → Beside

-- what an object is that is nothing else
abbrev pub nothing_beside : Beside
nothing_beside = Nothing

-- a half that shows nothing
abbrev pub no_half : Half
no_half = record { bytes = Some []; met = false; faults = 0; takes = λ _. false }

-- what a source shows
abbrev pub source_half : Option (List ℕ) → Bool → ℕ → Half
source_half left ended faults = record { bytes = left; met = ended; faults = faults; takes = λ _. false }

-- what a sink shows
abbrev pub sink_half : Option (List ℕ) → ℕ → (ℕ → Bool) → Half
sink_half written faults takes = record { bytes = written; met = false; faults = faults; takes = takes }

-- the half that is beside
abbrev pub other_of : Beside → Half
other_of Nothing = no_half
other_of (Other half rest) = half
other_of (One peer beside_peer) = no_half
other_of (Two source beside_source sink beside_sink) = no_half

-- what is beside the two halves
abbrev pub rest_of : Beside → Beside
rest_of Nothing = Nothing
rest_of (Other half rest) = rest
rest_of (One peer beside_peer) = Nothing
rest_of (Two source beside_source sink beside_sink) = Nothing

-- Clients that come through a door, and who of them came back.
use Rattle.std.specs.Prelude.{◌≡◌, ℕ, List, [], ◌∷◌, ◌++◌, Bool, true, false, Result, Ok, Err, None, Some, ⊤}
use Rattle.std.specs.declared.option.Option.{Option}

-- a client's beginning: what it showed when it was given. These are the bytes that were left and those that were
-- written, where they are told, and how often a read and a put had failed
pub record Beginning : Type 0 where
  pub left : Option (List ℕ)
  pub written : Option (List ℕ)
  pub read_faults : ℕ
  pub write_faults : ℕ

-- that beginning
abbrev pub begun : Option (List ℕ) → Option (List ℕ) → ℕ → ℕ → Beginning
begun left written read_faults write_faults = record {
  left = left;
  written = written;
  read_faults = read_faults;
  write_faults = write_faults;
}

-- this is the beginning that is told, where one is
abbrev pub Tells : Option Beginning → Beginning → Type 0
Tells None beginning = ⊤
Tells (Some told) beginning = told ≡ beginning

-- a client is out, and this is its beginning
abbrev pub IsOut : Option (Option Beginning) → Beginning → Type 0
IsOut None beginning = ⊥
IsOut (Some told) beginning = Tells told beginning

-- who is out behind an answer of a door: the client that it gave, and else nobody
abbrev pub GivesOut : {C E : Type 0} → (C → Beginning) → Result (Option C) E → Option (Option Beginning) → Type 0
GivesOut beginning_of (Ok (Some client)) out = IsOut out (beginning_of client)
GivesOut beginning_of (Ok None) out = out ≡ None
GivesOut beginning_of (Err e) out = out ≡ None

-- a client comes only through a door that hadn't ended, and none only where it has ended
abbrev pub EndsDoor : {C E : Type 0} → Result (Option C) E → Bool → Bool → Type 0
EndsDoor (Ok (Some client)) before now = before ≡ false
EndsDoor (Ok None) before now = now ≡ true
EndsDoor (Err e) before now = ⊤

-- the clients that came back, and then these, where they are told
abbrev pub with_visits : {C : Type 0} → List (Beginning × C) → Option (List (Beginning × C))
    → Option (List (Beginning × C))
with_visits visits None = None
with_visits visits (Some served) = Some (served ++ visits)

-- the client that is out came back: where those that came back are told, so is its beginning, and it is one more
abbrev pub AddsServed : {C : Type 0} → Option (Option Beginning) → C → Option (List (Beginning × C))
    → Option (List (Beginning × C)) → Type 0
AddsServed out client None now = now ≡ None
AddsServed out client (Some served) now =
    (beginning : Beginning) × (out ≡ Some (Some beginning)) × (now ≡ Some (served ++ (beginning, client) ∷ []))

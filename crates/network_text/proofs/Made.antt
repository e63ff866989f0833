-- Sheets made of the names and links of a text.
use Rattle.std.proofs.Common.{◌≡◌, ℕ, ◌<◌, List, Bool, true, false, IsTrue, zero, suc, None, length, refl, arith}
use Rattle.std.specs.List.{IsDistinct}
use Rattle.std.proofs.lemmas.Map.Made.{AllPairs-from_IsDistinct}
use Rattle.std.proofs.lemmas.Slice.Eq.{bytes_eq-Decides}
use Rattle.std.specs.Str.{bytes_eq}
use Rattle.cut_model.specs.declared.network.Link.{Link}
use Rattle.cut_model.specs.Net.{Net, IsInLimits, net_fault}
use Rattle.cut_model.proofs.Faults.{faultless_if_in_limits}
use Rattle.network_text.specs.Sheets.{IsSheet}
use Rattle.network_text.specs.Readings.{IsWithinLimits}

-- What isn't empty has an element.
pub some-element : (count : ℕ) (empty : Bool) → (count ≡ 0 → IsTrue empty) → empty ≡ false → 0 < count
some-element zero empty h filled = absurd (let yes : empty ≡ true = h refl in cc)
some-element (suc count) empty h filled = omega arith

-- Names and links within the limits are a network, if there is a name.
pub limits-whole : (names : List (List ℕ)) (links : List Link) → IsWithinLimits names links → 0 < length names
    → IsInLimits (record { routers = length names; links = links })
limits-whole names links small some = record {
  some = some;
  few_routers = small.few_names;
  few_links = small.few_links;
  within = small.within;
}

-- No fault is found in them,
pub faultless : (names : List (List ℕ)) (links : List Link) (routers : ℕ)
    → IsWithinLimits names links → 0 < length names → routers ≡ length names → net_fault routers links ≡ None
faultless names links routers small some same =
    rw same (faultless_if_in_limits (length names) links (limits-whole names links small some))

-- and with the names they are a sheet.
pub IsSheet-whole : (names : List (List ℕ)) (links : List Link) (routers : ℕ) (net : Net)
    → IsWithinLimits names links → 0 < length names → IsDistinct bytes_eq names → routers ≡ length names
    → net ≡ record { routers = routers; links = links } → IsSheet names net
IsSheet-whole names links routers net small some distinct count same = rw (same, count) record {
  distinct = AllPairs-from_IsDistinct bytes_eq-Decides names distinct;
  named = small.named;
  numbered = refl;
  limits = limits-whole names links small some;
}

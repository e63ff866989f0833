-- Small sheets as texts, and what texts as bytes say, by computing.
use Rattle.std.proofs.Common.{◌≡◌, [], ◌∷◌, Ok, Err, refl, codes}
use Rattle.std.specs.Fmt.{digits}
use Rattle.network_text.specs.Sheets.{SheetView}
use Rattle.network_text.specs.Writing.{sheet_text, verdict_in}
use Rattle.network_text.specs.declared.fault.TextKind.TheVariants.{EndedEarly, NoTerminal}

-- Two routers, a and b, with a link of 5 and one of b with itself.
abbrev sheet : SheetView
sheet = record {
  names = codes "a" ∷ codes "b" ∷ [];
  net = record { routers = 2; links = record { a = 0; b = 1; cap = 5 } ∷ record { a = 1; b = 1; cap = 0 } ∷ [] };
}

-- The routers come first, and END last.
text : sheet_text sheet ≡ codes "router a\nrouter b\nlink a b 5\nlink b b 0\nEND\n"
unfolding digits sheet_text
text = refl

-- What was written has the sheet again.
same_sheet : verdict_in (codes "router a\nrouter b\nlink a b 5\nlink b b 0\nEND\n") ≡ Ok sheet
same_sheet = refl

-- What stands behind END isn't read, and the line feed behind it may be missing at the end of the input.
behind_end : verdict_in (codes "link a b 05\nlink b b 0\nEND\nrouter") ≡ Ok sheet
behind_end = refl

open_end : verdict_in (codes "link a b 5\r\n\n# b itself\nlink b b 0\nEND") ≡ Ok sheet
open_end = refl

-- The END would be the third line.
ended_early : verdict_in (codes "router a\nrouter b\n") ≡ Err record { kind = EndedEarly; line = 3 }
ended_early = refl

-- No router is named before the END in the second line.
no_router : verdict_in (codes "# none\nEND\nrouter a\n") ≡ Err record { kind = NoTerminal; line = 2 }
no_router = refl

-- What a request line asks for.
use Rattle.std.specs.Prelude.{◌≢◌, ℕ, ◌≤◌, nat_lt, List, [], ◌∷◌, ◌==◌, if◌then◌else◌, codes, Bool, true, false}
use Rattle.std.specs.Prelude.{Some, None, Result, Ok, Err, IsFalse}
use Rattle.std.specs.Str.{bytes_eq}
use Rattle.std.specs.declared.option.Option.{Option}
use Rattle.cut_model.specs.Terminals.{IsTerminal, terminal_count}
use Rattle.text_forms.specs.Lines.{is_long}
use Rattle.text_forms.specs.Words.{line_words, is_remark}
use Rattle.network_text.specs.Sheets.{SheetView, number_of}
use Rattle.query_lang.specs.declared.request.Request.{Request}
use Rattle.query_lang.specs.declared.request.Request.TheVariants.{Nothing, Load, Cut, Path, Tree, Run, Net}
use Rattle.query_lang.specs.declared.request.Request.TheVariants.{Weakest, Witness, Certificate, Bye}
use Rattle.query_lang.specs.declared.request.RequestFault.{RequestFault}
use Rattle.query_lang.specs.declared.request.RequestFault.TheVariants.{UnknownWord, LineTooLong, WrongCount}
use Rattle.query_lang.specs.declared.request.RequestFault.TheVariants.{UnknownRouter, SameRouter, NoNetwork}
use Rattle.query_lang.specs.declared.request.RequestFault.TheVariants.{OneRouter}

-- The number by which a client is told of a fault.
abbrev pub fault_number : RequestFault → ℕ
fault_number UnknownWord = 1
fault_number LineTooLong = 2
fault_number WrongCount = 3
fault_number UnknownRouter = 4
fault_number SameRouter = 5
fault_number NoNetwork = 6
fault_number OneRouter = 8

-- Whether a request asks for something of a record: of a network, its tree, or the run that made it. To begin a network
-- text, to end the session, and an empty line don't.
abbrev pub needs_record : Request → Bool
needs_record Nothing = false
needs_record Load = false
needs_record Bye = false
needs_record request = true

-- Whether a record alone settles the text of the reply. It leaves open which flows of a width are told, so the requests
-- for flows aren't among these.
abbrev pub is_report : Request → Bool
is_report (Witness a b) = false
is_report Certificate = false
is_report request = needs_record request

-- A request of one word, by the words behind it: one that needs a record is refused where there is none.
abbrev pub of_one_word : Request → Option SheetView → List (List ℕ) → Result Request RequestFault
of_one_word request sheet (word ∷ words) = Err WrongCount
of_one_word request None [] = if needs_record request then Err NoNetwork else Ok request
of_one_word request (Some sheet) [] = Ok request

-- Two routers, where they are known and differ.
abbrev pub ends_between : Option ℕ → Option ℕ → Result (ℕ × ℕ) RequestFault
ends_between None second = Err UnknownRouter
ends_between (Some a) None = Err UnknownRouter
ends_between (Some a) (Some b) = if a == b then Err SameRouter else Ok (a, b)

-- The same by names in the network that there is.
abbrev pub ends_named : Option SheetView → List ℕ → List ℕ → Result (ℕ × ℕ) RequestFault
ends_named None first second = Err NoNetwork
ends_named (Some sheet) first second = ends_between (number_of sheet.names first) (number_of sheet.names second)

-- The words behind `CUT`, `PATH` and `WITNESS` are two names.
abbrev pub ends_of : Option SheetView → List (List ℕ) → Result (ℕ × ℕ) RequestFault
ends_of sheet (first ∷ second ∷ []) = ends_named sheet first second
ends_of sheet _ = Err WrongCount

-- A request about two routers, where they were found.
abbrev pub about : (ℕ → ℕ → Request) → Result (ℕ × ℕ) RequestFault → Result Request RequestFault
about request (Ok ends) = Ok (request ends.0 ends.1)
about request (Err fault) = Err fault

-- `WEAKEST` is a request of one word, and refused where the network has one terminal alone.
abbrev pub weakest_of : Option SheetView → List (List ℕ) → Result Request RequestFault
weakest_of (Some sheet) [] = if nat_lt (terminal_count sheet.net) 2 then Err OneRouter else Ok Weakest
weakest_of sheet words = of_one_word Weakest sheet words

-- The first word says what is asked for.
abbrev pub words_ask : Option SheetView → List (List ℕ) → Result Request RequestFault
words_ask sheet [] = Ok Nothing
words_ask sheet (word ∷ words) =
    if bytes_eq word (codes "LOAD") then of_one_word Load sheet words
    else if bytes_eq word (codes "CUT") then about Cut (ends_of sheet words)
    else if bytes_eq word (codes "PATH") then about Path (ends_of sheet words)
    else if bytes_eq word (codes "TREE") then of_one_word Tree sheet words
    else if bytes_eq word (codes "RUN") then of_one_word Run sheet words
    else if bytes_eq word (codes "NET") then of_one_word Net sheet words
    else if bytes_eq word (codes "WEAKEST") then weakest_of sheet words
    else if bytes_eq word (codes "WITNESS") then about Witness (ends_of sheet words)
    else if bytes_eq word (codes "CERTIFICATE") then of_one_word Certificate sheet words
    else if bytes_eq word (codes "BYE") then of_one_word Bye sheet words
    else Err UnknownWord

-- What a line asks for with the network that there is, or the first fault: too long, an unknown word, another number
-- of words, no network, an unknown router, the same router twice, only one terminal.
abbrev pub request_of : Option SheetView → List ℕ → Result Request RequestFault
request_of sheet line =
    if is_long line then Err LineTooLong
    else if is_remark (line_words line) then Ok Nothing
    else words_ask sheet (line_words line)

-- Two different terminals of a sheet's network.
abbrev pub AreEnds : SheetView → ℕ → ℕ → Type 0
AreEnds sheet a b = (a ≢ b) × IsTerminal sheet.net a × IsTerminal sheet.net b

-- The same of the network that there is.
abbrev pub HasEnds : Option SheetView → ℕ → ℕ → Type 0
HasEnds None a b = ⊥
HasEnds (Some sheet) a b = AreEnds sheet a b

-- A request fits the network that there is: one that needs a record has one, CUT, PATH and WITNESS tell two different
-- terminals of it, and WEAKEST is asked where there are two terminals or more.
abbrev pub IsOf : Option SheetView → Request → Type 0
IsOf None request = IsFalse (needs_record request)
IsOf (Some sheet) (Cut a b) = AreEnds sheet a b
IsOf (Some sheet) (Path a b) = AreEnds sheet a b
IsOf (Some sheet) (Witness a b) = AreEnds sheet a b
IsOf (Some sheet) Weakest = 2 ≤ terminal_count sheet.net
IsOf (Some sheet) request = Unit {0}

-- The definitions on small texts, by computing.
use Rattle.std.proofs.Common.{◌≡◌, ℕ, [], ◌∷◌, ◌++◌, true, false, Some, None, Result, Ok, Err, refl, codes, replicate}
use Rattle.network_text.specs.Sheets.{SheetView, number_of}
use Rattle.network_text.specs.Texts.{Draft, link_line, router_line, with_line, verdict_of}
use Rattle.network_text.specs.declared.fault.TextFault.{TextFault}
use Rattle.network_text.specs.declared.fault.TextKind.{TextKind}
use Rattle.network_text.specs.declared.fault.TextKind.TheVariants.{UnknownWord, BadName, WrongCount, LineTooLong}
use Rattle.network_text.specs.declared.fault.TextKind.TheVariants.{BadNumber, CapTooLarge, TooManyRouters}
use Rattle.network_text.specs.declared.fault.TextKind.TheVariants.{TooManyLinks, NoTerminal, EndedEarly}

-- The verdict that a text has this fault in this line.
abbrev fault_in : ℕ → TextKind → Result SheetView TextFault
fault_in line kind = Err record { kind = kind; line = line }

-- This many names and links, among which no name but `a` is.
abbrev draft_with : ℕ → ℕ → Draft
draft_with names links = record {
  names = replicate names (codes "a");
  links = replicate links record { a = 0; b = 0; cap = 0 };
}

-- Names are numbered in order of appearance, a remark and an empty line are passed over, and links
-- between the same routers or of a router with itself stay.
small_text : verdict_of (codes "# a remark" ∷ [] ∷ codes "link a b 2\r" ∷ codes "link b a 03"
    ∷ codes "link c c 0" ∷ []) true
    ≡ Ok record {
      names = codes "a" ∷ codes "b" ∷ codes "c" ∷ [];
      net = record {
        routers = 3;
        links = record { a = 0; b = 1; cap = 2 } ∷ record { a = 1; b = 0; cap = 3 }
            ∷ record { a = 2; b = 2; cap = 0 } ∷ [];
      };
    }
small_text = refl

-- A text of routers alone has a sheet without links, and a name that is there already names no other router.
routers_alone : verdict_of (codes "router b" ∷ codes "router a" ∷ codes "router b" ∷ codes "router B" ∷ []) true
    ≡ Ok record {
      names = codes "b" ∷ codes "a" ∷ codes "B" ∷ [];
      net = record { routers = 3; links = [] };
    }
routers_alone = refl

-- A `router` line may number routers before their links do.
router_before_link : verdict_of (codes "router b" ∷ codes "link\ta  b 7" ∷ []) true
    ≡ Ok record {
      names = codes "b" ∷ codes "a" ∷ [];
      net = record { routers = 2; links = record { a = 1; b = 0; cap = 7 } ∷ [] };
    }
router_before_link = refl

-- A line of another word is unknown.
unknown_word : verdict_of (codes "transit a" ∷ []) true ≡ fault_in 1 UnknownWord
unknown_word = refl

-- Letters of the other case make another word.
unknown_letters : verdict_of (codes "router a" ∷ codes "LINK a b 2" ∷ []) true ≡ fault_in 2 UnknownWord
unknown_letters = refl

-- A name has no slash.
bad_name : verdict_of (codes "router a/b" ∷ []) true ≡ fault_in 1 BadName
bad_name = refl

-- The second name of a link may be bad too.
bad_second_name : verdict_of (codes "link a b/ 2" ∷ []) true ≡ fault_in 1 BadName
bad_second_name = refl

-- A `router` line has one name and no word more.
missing_name : verdict_of (codes "router" ∷ []) true ≡ fault_in 1 WrongCount
missing_name = refl

further_name : verdict_of (codes "router a b" ∷ []) true ≡ fault_in 1 WrongCount
further_name = refl

-- A `link` line has two names, a number and no word more.
missing_number : verdict_of (codes "link a b" ∷ []) true ≡ fault_in 1 WrongCount
missing_number = refl

further_number : verdict_of (codes "link a b 2 2" ∷ []) true ≡ fault_in 1 WrongCount
further_number = refl

-- END with further words ends no text.
end_and_more : verdict_of (codes "router a" ∷ codes "END END" ∷ []) false ≡ fault_in 2 WrongCount
end_and_more = refl

-- A number has digits alone.
bad_number : verdict_of (codes "link a b +2" ∷ []) true ≡ fault_in 1 BadNumber
bad_number = refl

-- Zeros may lead a number, and it may have any count of digits.
leading_zeros : verdict_of ((codes "link a a " ++ replicate 400 48 ++ codes "7") ∷ []) true
    ≡ Ok record {
      names = codes "a" ∷ [];
      net = record { routers = 1; links = record { a = 0; b = 0; cap = 7 } ∷ [] };
    }
leading_zeros = refl

many_digits : verdict_of ((codes "link a a " ++ replicate 400 57) ∷ []) true ≡ fault_in 1 CapTooLarge
many_digits = refl

-- Capacities go up to 10^12.
largest_capacity : verdict_of (codes "link a a 1000000000000" ∷ []) true
    ≡ Ok record {
      names = codes "a" ∷ [];
      net = record { routers = 1; links = record { a = 0; b = 0; cap = 1000000000000 } ∷ [] };
    }
largest_capacity = refl

too_large_capacity : verdict_of (codes "link a b 1000000000001" ∷ []) true ≡ fault_in 1 CapTooLarge
too_large_capacity = refl

-- A line has up to 512 bytes, a remark too.
longest_remark : verdict_of (replicate 512 35 ∷ codes "router a" ∷ []) true
    ≡ Ok record { names = codes "a" ∷ []; net = record { routers = 1; links = [] } }
longest_remark = refl

too_long_remark : verdict_of (replicate 513 35 ∷ codes "router a" ∷ []) true ≡ fault_in 1 LineTooLong
too_long_remark = refl

-- The word END in a line that is too long is no END.
too_long_end : verdict_of ((codes "END" ++ replicate 510 32) ∷ []) false ≡ fault_in 1 LineTooLong
too_long_end = refl

-- There are up to 1,024 routers; among so many a name that is there may still stand in lines.
known_router : router_line (draft_with 1024 0) (codes "a" ∷ []) ≡ Ok (draft_with 1024 0)
known_router = refl

too_many_routers : router_line (draft_with 1024 0) (codes "b" ∷ []) ≡ Err TooManyRouters
too_many_routers = refl

-- Of a link's two new names the second may be the one too many.
second_too_many : link_line (draft_with 1023 0) (codes "b" ∷ codes "c" ∷ codes "2" ∷ []) ≡ Err TooManyRouters
second_too_many = refl

-- There are up to 8,192 links.
too_many_links : link_line (draft_with 1 8192) (codes "a" ∷ codes "a" ∷ codes "2" ∷ []) ≡ Err TooManyLinks
too_many_links = refl

-- Of several faults in a line the first in order is told: length, first word, number of words, names, number, its size,
-- routers, links.
length_before_word : with_line (draft_with 0 0) (replicate 513 120) ≡ Err LineTooLong
length_before_word = refl

word_before_count : with_line (draft_with 0 0) (codes "routers a/ b/") ≡ Err UnknownWord
word_before_count = refl

count_before_name : with_line (draft_with 0 0) (codes "link a/ x") ≡ Err WrongCount
count_before_name = refl

name_before_number : with_line (draft_with 0 0) (codes "link a b/ x") ≡ Err BadName
name_before_number = refl

number_before_routers : with_line (draft_with 1024 0) (codes "link a b x") ≡ Err BadNumber
number_before_routers = refl

size_before_routers : with_line (draft_with 1024 0) (codes "link a b 1000000000001") ≡ Err CapTooLarge
size_before_routers = refl

routers_before_links : with_line (draft_with 1024 8192) (codes "link a b 2") ≡ Err TooManyRouters
routers_before_links = refl

-- Empty lines and remarks count in the numbers of lines.
counted_remarks : verdict_of (codes "# one" ∷ [] ∷ codes "router a" ∷ codes "  # four" ∷ codes "router" ∷ []) true
    ≡ fault_in 5 WrongCount
counted_remarks = refl

-- Of two faulty lines the first decides.
first_of_two : verdict_of (codes "router a" ∷ codes "link a b x" ∷ codes "router" ∷ []) true ≡ fault_in 2 BadNumber
first_of_two = refl

-- A fault goes before the end: it is told where no END comes too, and where no router was named.
fault_before_end : verdict_of (codes "router" ∷ []) false ≡ fault_in 1 WrongCount
fault_before_end = refl

-- A text in which no router is named is told with the line of its END.
empty_text : verdict_of [] true ≡ fault_in 1 NoTerminal
empty_text = refl

remarks_alone : verdict_of (codes "# nothing" ∷ [] ∷ []) true ≡ fault_in 3 NoTerminal
remarks_alone = refl

-- Where the input ends first, the line after the last is told, whether a router was named or not.
ended_early : verdict_of (codes "router a" ∷ []) false ≡ fault_in 2 EndedEarly
ended_early = refl

ended_at_once : verdict_of [] false ≡ fault_in 1 EndedEarly
ended_at_once = refl

-- Letters of different case are different.
letters : number_of (codes "a" ∷ codes "A" ∷ []) (codes "A") ≡ Some 1
letters = refl

no_router : number_of (codes "a" ∷ codes "b" ∷ []) (codes "ab") ≡ None
no_router = refl

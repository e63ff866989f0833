-- The numbers of the faults of texts.
use Rattle.std.specs.Prelude.{ℕ}
use Rattle.network_text.specs.declared.fault.TextKind.{TextKind}
use Rattle.network_text.specs.declared.fault.TextKind.TheVariants.{UnknownWord, BadName, WrongCount, LineTooLong}
use Rattle.network_text.specs.declared.fault.TextKind.TheVariants.{BadNumber, CapTooLarge, TooManyRouters}
use Rattle.network_text.specs.declared.fault.TextKind.TheVariants.{TooManyLinks, NoTerminal, EndedEarly, Memory}

-- The number by which a client is told of a fault.
abbrev pub kind_number : TextKind → ℕ
kind_number UnknownWord = 10
kind_number BadName = 11
kind_number WrongCount = 12
kind_number LineTooLong = 13
kind_number BadNumber = 14
kind_number CapTooLarge = 15
kind_number TooManyRouters = 16
kind_number TooManyLinks = 17
kind_number NoTerminal = 18
kind_number EndedEarly = 19
kind_number Memory = 90

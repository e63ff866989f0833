use Rattle.std.proofs.Common.{◌≡◌, map, take}
use Rattle.std.specs.String.{string_bytes}
use Rattle.planner_server.specs.Options.{given_in}
use Rattle.planner_server.proofs.options.OptionName.given_in.Given as goal

-- what the words so far give to the option
abbrev pub invariant-loop-word : goal.invariant-loop-word
invariant-loop-word l = l.given ≡ given_in l.self (map string_bytes (take l.word-index l.words))

use Rattle.std.proofs.Common.{◌≡◌, ◌-◌, ◌^◌, min, take}
use Rattle.text_forms.specs.Numbers.{value_of_digits}
use Rattle.text_forms.proofs.numbers.capped_value.Given as goal

abbrev pub invariant-loop-byte : goal.invariant-loop-byte
invariant-loop-byte l = l.value ≡ min (2 ^ 64 - 1) (value_of_digits (take l.byte-index l.digits))

use Rattle.std.proofs.Common.{◌*◌, ◌≤◌, length, take}
use Rattle.network_text.specs.NameTexts.{IsTextOf}
use Rattle.network_text.proofs.name_text.NameText.make.Given as goal

-- The names so far are a text, of at most 33 bytes a name.
abbrev pub invariant-loop-name : goal.invariant-loop-name
invariant-loop-name l = record {
  text : IsTextOf (take l.name-index l.names) l.text.bytes.items l.text.begins.items;
  few : length l.text.bytes.items ≤ 33 * l.name-index;
}

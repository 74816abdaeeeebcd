use Rattle.std.proofs.Common.{◌≡◌, ◌++◌, drop}
use Rattle.gp_json.specs.Strings.{characters_text}
use Rattle.gp_json.proofs.string.put_characters.Given as goal

abbrev pub invariant-loop-byte : goal.invariant-loop-byte
invariant-loop-byte l = l.text.items ++ characters_text (drop l.byte-index l.bytes) ≡ l.initial.text.items ++ characters_text l.bytes

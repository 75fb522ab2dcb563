use Rattle.std.proofs.Common.{◌≡◌, map, string_bytes, take}
use Rattle.ts_core.proofs.settings.copies.try_clone_strings.Given as goal

abbrev pub invariant-loop-text : goal.invariant-loop-text
invariant-loop-text g l = map string_bytes l.all.items ≡ map string_bytes (take l.text-index l.texts)

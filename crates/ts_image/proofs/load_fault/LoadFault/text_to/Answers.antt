use Rattle.std.proofs.Common.{[], ◌++◌, ◌≡◌, ◌≤◌, ◌+◌, length, String, string_bytes, string_len, string_capacity, Result, Ok, Err, IsOk, is_ok, cond, sym, ◌∙◌, append-nil, refl}
use Rattle.ts_core.specs.facts.Facts.{Text}
use Rattle.ts_core.specs.text.FaultTexts.{IsAppended, memory_text}
use Rattle.ts_image.specs.ImageFaultTexts.{load_fault_text}
use Rattle.ts_image.proofs.load_fault.LoadFault.text_to.Goals as goal

pushed : {A T E : Type 0} (text : Text) (old new : String A) (r : Result T E) → string_bytes new ≡ cond (is_ok r) (string_bytes old ++ text) (string_bytes old)
    → (string_len old + length text ≤ string_capacity old → IsOk r) → string_capacity old ≤ string_capacity new → IsAppended text old new r
pushed text old new (Ok x) bytes buffer capacity = record { ok = bytes; err = tt; spare = buffer; capacity = capacity }
pushed text old new (Err e) bytes buffer capacity = record {
  ok = tt;
  err = record { written = []; missing = text; stands = bytes ∙ sym (append-nil (string_bytes old)); whole = refl };
  spare = buffer;
  capacity = capacity;
}

pub returns-in-OutOfMemory : goal.returns-in-OutOfMemory
unfolding load_fault_text
returns-in-OutOfMemory g c = rw c.in-OutOfMemory.is (pushed memory_text c.args.text.now c.push_str.new.self c.push_str.result c.push_str.ensures.bytes c.push_str.ensures.succeeds c.push_str.ensures.capacity)

-- The same blocks, at other offsets or in longer bytes.
use Rattle.std.proofs.Common.{◌≡◌, length, vec_len, take, sym, subst, ◌∙◌}
use Rattle.ts_raw.specs.declared.coded_blocks.CodedBlocks.{CodedBlocks}
use Rattle.ts_raw.specs.CodedPoints.{AreApart}
use Rattle.ts_raw.specs.CodedBlocks.{AreLaid, AreSame, KeepsCounts}
use Rattle.ts_raw.proofs.BlockLists.{stays}

pub same_twice : {A : Type 0} (a b c : CodedBlocks A) → AreSame a b → AreSame b c → AreSame a c
same_twice a b c h k = record { laid = k.laid; blocks = k.blocks ∙ h.blocks; counts = (k.counts.0 ∙ h.counts.0, k.counts.1 ∙ h.counts.1) }

-- bytes that begin with the old ones
pub same_longer : {A : Type 0} (old new : CodedBlocks A) → AreLaid old → vec_len old.bytes ≡ length old.bytes.items → take (vec_len old.bytes) new.bytes.items ≡ old.bytes.items → new.handles.items ≡ old.handles.items → KeepsCounts old new → AreSame old new
same_longer old new h size front items counts =
    let both = stays old.bytes.items new.bytes.items old.handles.items new.handles.items (vec_len old.bytes) size front items h.marked in
    record { laid = record { marked = both.0; apart = subst AreApart (sym items) h.apart }; blocks = both.1; counts = counts }

-- Several appends to a write buffer in a row.
use Rattle.std.proofs.Common.{◌≡◌, ◌+◌, ◌++◌, [], Option, Result, Ok, Err, sym, ap, ◌∙◌, subst, append_assoc, append-nil, arith}
use Rattle.std.specs.Io.KnownBytes.{Appends}
use Rattle.std.proofs.KnownBytes.{Appends-trans, Appends-nil}
use Rattle.ts_core.specs.facts.Facts.{Text}
use Rattle.ts_core.specs.declared.io.sink.Refused.{Refused}
use Rattle.ts_core.specs.io.Devices.{Output, AppendsFront, IsPut}
use Rattle.ts_core.specs.io.OutputBuffering.{AreWrittenBut, IsBuffered}

-- two puts: the bytes of both are written but for the buffered ones
pub two_puts : (old mid new : Option Text) (before buffered bytes buffered' : Text) → AreWrittenBut old mid before buffered → AreWrittenBut mid new (buffered ++ bytes) buffered' → AreWrittenBut old new (before ++ bytes) buffered'
two_puts old mid new before buffered bytes buffered' a b = record {
  sent = a.sent ++ b.sent;
  bytes_are = ap (λ l. l ++ bytes) a.bytes_are ∙ append_assoc a.sent buffered bytes ∙ ap (λ l. a.sent ++ l) b.bytes_are ∙ sym (append_assoc a.sent b.sent buffered');
  written = Appends-trans old mid new a.sent b.sent a.written b.written;
}

-- two puts of which the second is refused
pub second_refused : (old mid new : Option Text) (before buffered bytes : Text) → AreWrittenBut old mid before buffered → AppendsFront mid new (buffered ++ bytes) → AppendsFront old new (before ++ bytes)
second_refused old mid new before buffered bytes a w = (
  a.sent ++ w.0,
  w.1,
  ap (λ l. l ++ bytes) a.bytes_are ∙ append_assoc a.sent buffered bytes ∙ ap (λ l. a.sent ++ l) w.2 ∙ sym (append_assoc a.sent w.0 w.1),
  Appends-trans old mid new a.sent w.0 a.written w.3,
)

-- all bytes are written if none is buffered
pub all_written : (old new : Option Text) (bytes buffered : Text) → buffered ≡ [] → AreWrittenBut old new bytes buffered → Appends old new bytes
all_written old new bytes buffered none w = subst (λ (l : Text). Appends old new l) (sym (w.bytes_are ∙ ap (λ l. w.sent ++ l) none ∙ append-nil w.sent)) w.written

-- a refused flush is a refused put of more bytes
pub refused_flush : (old new : Option Text) (buffered bytes : Text) → AppendsFront old new (buffered ++ []) → AppendsFront old new (buffered ++ bytes)
refused_flush old new buffered bytes w = (
  w.0,
  w.1 ++ bytes,
  ap (λ l. l ++ bytes) (sym (append-nil buffered) ∙ w.2) ∙ append_assoc w.0 w.1 bytes,
  w.3,
)

-- a flush that leaves no byte has written all
flushed_all : (buffered none sent : Text) → none ≡ [] → buffered ++ [] ≡ sent ++ none → buffered ≡ sent
flushed_all buffered none sent e p = sym (append-nil buffered) ∙ p ∙ ap (λ l. sent ++ l) e ∙ append-nil sent

-- bytes written right after a flush
flushed_then : (old mid new : Option Text) (buffered bytes none : Text) → none ≡ [] → AreWrittenBut old mid (buffered ++ []) none → Appends mid new bytes → AreWrittenBut old new (buffered ++ bytes) none
flushed_then old mid new buffered bytes none e a w = record {
  sent = a.sent ++ bytes;
  bytes_are = ap (λ l. l ++ bytes) (flushed_all buffered none a.sent e a.bytes_are) ∙ sym (append-nil (a.sent ++ bytes)) ∙ ap (λ l. (a.sent ++ bytes) ++ l) (sym e);
  written = Appends-trans old mid new a.sent bytes a.written w;
}

-- the same for bytes whose write is refused
flushed_refused : (old mid new : Option Text) (buffered bytes none : Text) → none ≡ [] → AreWrittenBut old mid (buffered ++ []) none → AppendsFront mid new bytes → AppendsFront old new (buffered ++ bytes)
flushed_refused old mid new buffered bytes none e a w = (
  a.sent ++ w.0,
  w.1,
  ap (λ l. l ++ bytes) (flushed_all buffered none a.sent e a.bytes_are) ∙ ap (λ l. a.sent ++ l) w.2 ∙ sym (append_assoc a.sent w.0 w.1),
  Appends-trans old mid new a.sent w.0 a.written w.3,
)

-- a flush, then a write around the buffer
pub put_around : {T E : Type 0} (old mid new : Output) (buffered bytes none : Text) (r : Result T E) → none ≡ [] → AreWrittenBut old.contents mid.contents (buffered ++ []) none → mid.failures ≡ old.failures + 0 → IsPut mid r bytes new → IsBuffered old buffered r bytes new none
put_around old mid new buffered bytes none (Ok x) e a f p = record {
  ok = flushed_then old.contents mid.contents new.contents buffered bytes none e a p.ok;
  err = tt;
  lost = tt;
  failures = omega (arith, f, p.failures);
}
put_around old mid new buffered bytes none (Err x) e a f p = record {
  ok = tt;
  err = flushed_refused old.contents mid.contents new.contents buffered bytes none e a p.err;
  lost = e;
  failures = omega (arith, f, p.failures);
}

-- ---- one put after another, as one put

-- the two results
abbrev pub done : Result (Unit {0}) Refused
done = Ok tt

abbrev pub refused : Refused → Result (Unit {0}) Refused
refused e = Err e

-- two puts are one of both texts
pub puts_join : (a b c : Output) (k l m : Text) (r : Result (Unit {0}) Refused) (bytes more : Text) → IsBuffered a k done bytes b l → IsBuffered b l r more c m → IsBuffered a k r (bytes ++ more) c m
puts_join a b c k l m (Ok y) bytes more p q = record {
  ok = subst (λ (t : Text). AreWrittenBut a.contents c.contents t m) (append_assoc k bytes more) (two_puts a.contents b.contents c.contents (k ++ bytes) l more m p.ok q.ok);
  err = tt;
  lost = tt;
  failures = let f = p.failures in let g = q.failures in omega (arith, f, g);
}
puts_join a b c k l m (Err y) bytes more p q = record {
  ok = tt;
  err = subst (λ (t : Text). AppendsFront a.contents c.contents t) (append_assoc k bytes more) (second_refused a.contents b.contents c.contents (k ++ bytes) l more p.ok q.err);
  lost = q.lost;
  failures = let f = p.failures in let g = q.failures in omega (arith, f, g);
}

-- a refused put is a refused put of more bytes
pub refused_part : (a c : Output) (k m : Text) (e d : Refused) (bytes more : Text) → IsBuffered a k (refused e) bytes c m → IsBuffered a k (refused d) (bytes ++ more) c m
refused_part a c k m e d bytes more p = record {
  ok = tt;
  err = let w = p.err in (w.0, w.1 ++ more, sym (append_assoc k bytes more) ∙ ap (λ l. l ++ more) w.2 ∙ append_assoc w.0 w.1 more, w.3);
  lost = p.lost;
  failures = p.failures;
}

-- no put
pub no_put : (a : Output) (k : Text) → IsBuffered a k done [] a k
no_put a k = record {
  ok = record { sent = []; bytes_are = append-nil k; written = Appends-nil a.contents };
  err = tt;
  lost = tt;
  failures = omega arith;
}

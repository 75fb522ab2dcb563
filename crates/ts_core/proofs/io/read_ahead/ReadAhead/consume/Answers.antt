use Rattle.std.proofs.Common.{rules, ◌≡◌, ℕ, zero, suc, ◌+◌, ◌-◌, ◌≤◌, List, [], ◌∷◌, ◌++◌, length, take, drop, slice_range, Option, None, Some, sym, ap, ◌∙◌, subst, arith, append_assoc, length-drop, refl}
use Rattle.std.proofs.lemmas.List.{drop-drop, drop-take, take-append-drop}
use Rattle.std.proofs.Math.ListN.{length-take}
use Rattle.std.proofs.Math.Seq.{take-add}
use Rattle.std.specs.Io.KnownBytes.{Consumes, IsAtEnd, prepend_known}
use Rattle.ts_core.specs.io.ReadingAhead.{Ahead, pending, weight}
use Rattle.ts_core.proofs.io.read_ahead.ReadAhead.consume.Goals as goal

-- the beginning of a beginning
shorter : (k n : ℕ) (items : List ℕ) → k ≤ n → take k (take n items) ≡ take k items
shorter (suc k) zero items le = absurd (omega (arith, le))
shorter (suc k) (suc n) (x ∷ items) le = ap (λ (xs : List ℕ). x ∷ xs) (shorter k n items (omega (arith, le)))
shorter _ n items le = refl

-- a part of a list without its first k
later : (items : List ℕ) (at end k : ℕ) (part : List ℕ) → slice_range items at end ≡ part → k ≤ length part → slice_range items (at + k) end ≡ drop k part
later items at end k part e h =
    let fits : k ≤ end - at = omega (arith, ap length e, length-take (end - at) (drop at items)) in
    let split : end - at ≡ k + (end - (at + k)) = omega arith in
    sym (ap (drop k) (sym e) ∙ ap (λ (n : ℕ). drop k (take n (drop at items))) split ∙ drop-take k (end - (at + k)) (drop at items) ∙ ap (take (end - (at + k))) (drop-drop k at items))

used_more : (items : List ℕ) (at end k : ℕ) (part : List ℕ) → slice_range items at end ≡ part → k ≤ length part → take (at + k) items ≡ take at items ++ take k part
used_more items at end k part e h =
    let fits : k ≤ end - at = omega (arith, ap length e, length-take (end - at) (drop at items)) in
    take-add at k items ∙ ap (λ (xs : List ℕ). take at items ++ xs) (sym (shorter k (end - at) (drop at items) fits) ∙ ap (take k) e)

-- the bytes to come, without the first k buffered ones
consumed : (buffered : List ℕ) (k : ℕ) (remaining : Option (List ℕ)) → Consumes (prepend_known buffered remaining) (prepend_known (drop k buffered) remaining) (take k buffered)
consumed buffered k None = tt
consumed buffered k (Some xs) = rw (← append_assoc) (rw take-append-drop)

-- nothing to come stays nothing
none_left : (buffered : List ℕ) (k : ℕ) (remaining : Option (List ℕ)) → IsAtEnd (prepend_known buffered remaining) → IsAtEnd (prepend_known (drop k buffered) remaining)
none_left buffered k None end = tt
none_left [] zero (Some xs) end = end
none_left [] (suc k) (Some xs) end = end
none_left (b ∷ bs) k (Some xs) end = absurd cc

weighs_less : (old new : Ahead) (count : ℕ) → new.limit ≡ old.limit → new.reads ≡ old.reads → new.buffered ≡ drop count old.buffered → count ≤ length old.buffered → weight new + count ≡ weight old
weighs_less old new count limit reads rest some = omega (arith, ap length rest, length-drop count old.buffered)

pub returns : goal.returns
returns g c =
    let s = c.self.inside in
    let old = c.args.self.now in
    let rest : slice_range s.buffer.items (s.at + c.args.count) s.end ≡ drop c.args.count old.buffered =
    later s.buffer.items s.at s.end c.args.count old.buffered (ap (λ (a : Ahead). a.buffered) c.self.view_is) c.requires in
    let new : Ahead = record { used = take (s.at + c.args.count) s.buffer.items; buffered = slice_range s.buffer.items (s.at + c.args.count) s.end; reads = s.reads; limit = s.limit; ended = s.ended } in
    record {
      used = used_more s.buffer.items s.at s.end c.args.count old.buffered (ap (λ (a : Ahead). a.buffered) c.self.view_is) c.requires ∙ ap (λ (a : Ahead). a.used ++ take c.args.count old.buffered) c.self.view_is;
      buffered = rest;
      reads = search rules;
      limit = search rules;
      ended = search rules;
      within = search rules;
      bytes = λ input.
          subst (λ (l : List ℕ). Consumes (pending old input) (prepend_known l input.remaining) (take c.args.count old.buffered)) (sym rest) (consumed old.buffered c.args.count input.remaining);
      end = λ input ends ended.
          subst (λ (l : List ℕ). IsAtEnd (prepend_known l input.remaining)) (sym rest)
          (none_left old.buffered c.args.count input.remaining (ends (ap (λ (a : Ahead). a.ended) (sym c.self.view_is) ∙ ended)));
      less = weighs_less old new c.args.count (search rules) (search rules) rest c.requires;
    }

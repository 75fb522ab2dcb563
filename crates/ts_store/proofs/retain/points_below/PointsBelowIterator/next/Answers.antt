use Rattle.std.proofs.Common.{rules, ◌≡◌, ◌∙◌, ℤ, ◌<ℤ◌, ◌≤ℤ◌, int_lt, false, cond, List, [], ◌∷◌, ap, sym, subst, arith}
use Rattle.std.proofs.lemmas.Int.{ints}
use Rattle.std.specs.Cmp.{int_cmp_total}
use Rattle.ts_core.proofs.lists.Places.{both_of, below_at}
use Rattle.ts_core.specs.moves.StoreMoves.{points_below}
use Rattle.ts_raw.specs.PlainColumns.{IsRising}
use Rattle.ts_raw.proofs.CutLemmas.{after_too}
use Rattle.ts_store.proofs.retain.points_below.PointsBelowIterator.next.Goals as goal

later : (p q : ℤ × ℤ) (ps : List (ℤ × ℤ)) → IsRising (p ∷ q ∷ ps) → p.0 <ℤ q.0
later p q ps s = let e = below_at int_cmp_total p.0 (q ∷ ps) (both_of _ _ s).0 0 q (omega arith) in grind (arith, ints)

not_below : (t mark : ℤ) → mark ≤ℤ t → int_lt t mark ≡ false
not_below t mark l = grind (arith, ints)

-- none after one that isn't below the mark
none_below : (mark : ℤ) (p : ℤ × ℤ) (ps : List (ℤ × ℤ)) → IsRising (p ∷ ps) → int_lt p.0 mark ≡ false → points_below mark (p ∷ ps) ≡ []
none_below mark p [] s e = ap (λ b. cond b (p ∷ []) []) e
none_below mark p (q ∷ ps) s e =
    let rest : List (ℤ × ℤ) = points_below mark (q ∷ ps) in
    ap (λ b. cond b (p ∷ rest) rest) e ∙ none_below mark q ps (both_of _ _ s).1 (after_too p.0 q.0 mark (later p q ps s) e)

-- nor among those after it
none_left : (mark : ℤ) (p : ℤ × ℤ) (ps : List (ℤ × ℤ)) → IsRising (p ∷ ps) → int_lt p.0 mark ≡ false → points_below mark ps ≡ []
none_left mark p ps s e =
    let rest : List (ℤ × ℤ) = points_below mark ps in
    ap (λ b. cond b (p ∷ rest) rest) (sym e) ∙ none_below mark p ps s e

pub returns-then-ge-clause-steps : goal.returns-then-ge-clause-steps
returns-then-ge-clause-steps c =
    let p : ℤ × ℤ = (c.in_ok-time.time, c.in_ok-time.value) in
    let rest : List (ℤ × ℤ) = c.next.new.self in
    let mark : ℤ = c.self.inside.mark in
    let reached : mark ≤ℤ p.0 = search rules in
    let left : c.self.inside.left ≡ p ∷ rest = c.in_ok-time.ensures.steps in
    let rising : IsRising (p ∷ rest) = subst IsRising left c.self.invariant in
    let after : int_lt p.0 mark ≡ false = not_below p.0 mark reached in
    (sym c.self.view_is ∙ ap (points_below mark) left ∙ none_below mark p rest rising after, none_left mark p rest rising after)

-- A test that some buckets are the walk of a plan, if no rule before the chosen one has a valid bucket.
use Rattle.std.proofs.Common.{◌≡◌, ℕ, ℤ, ◌+◌, ◌+ℤ◌, ◌<ℤ◌, int_lt, int_le, arith, refl, sym, ap, ◌∙◌, suc, subst, List, [], ◌∷◌, Some, Bool, true, false, cond, ◌&&◌, not, true≢false, zero-add}
use Rattle.std.specs.Prelude.{slice_get}
use Rattle.std.specs.Ordering.{int_eq}
use Rattle.std.proofs.lemmas.Bool.Decides.{Decides-int_eq}
use Rattle.std.proofs.lemmas.Bool.{and_parts}
use Rattle.ts_core.specs.facts.Facts.{Text, same_text}
use Rattle.ts_core.specs.plans.Pieces.{Source, Raw, Rollup, Piece, MarkedRule, QueryContext, IsValidPiece}
use Rattle.ts_core.specs.plans.Faults.{piece_fault}
use Rattle.ts_core.specs.plans.Plans.{ReachesEnd, rollup_piece, LeadsOn, NoneBefore, IsFirstToReach, Steps, IsWalk, is_faultless}
use Rattle.ts_core.proofs.settings.Intervals.{IsWide}
use Rattle.ts_core.proofs.lists.Comparisons.{lt_from, le_from}
use Rattle.ts_core.proofs.facts.Ids.{same_text-eq}
use Rattle.ts_core.proofs.plans.Validity.{source_from, source_none}
use Rattle.ts_core.proofs.plans.Walks.{walk_valid, faultless_none}
use Rattle.ts_core.proofs.plans.Plannable.{leads_of, one_more, StandFrom}

-- the bucket of the rule at p has no fault
abbrev is_open : QueryContext → MarkedRule → ℤ → Bool
is_open t r p = is_faultless (piece_fault t (rollup_piece r.rule.name p (p +ℤ r.rule.interval)))

-- the rule of this name comes first of those with an open bucket at p, and its bucket ends at e
abbrev takes_first : QueryContext → List MarkedRule → Text → ℤ → ℤ → Bool
takes_first t [] name p e = false
takes_first t (r ∷ rs) name p e =
    cond (same_text r.rule.name name) (is_open t r p && int_eq e (p +ℤ r.rule.interval)) (not (is_open t r p) && takes_first t rs name p e)

abbrev is_last : List Piece → Bool
is_last [] = true
is_last (b ∷ bs) = false

abbrev is_step : QueryContext → Source → ℤ → ℤ → List Piece → Bool
is_step t Raw p e bs = int_le t.mark p && (int_eq e t.query.to && is_last bs)
is_step t (Rollup name) p e bs = int_lt p t.mark && takes_first t t.rules name p e

abbrev pub is_walk : QueryContext → ℤ → List Piece → Bool
is_walk t p [] = int_eq p t.query.to
is_walk t p (b ∷ bs) = int_lt p t.query.to && (int_eq b.from p && (is_step t b.source p b.to bs && is_walk t b.to bs))

last_none : (bs : List Piece) → is_last bs ≡ true → bs ≡ []
last_none [] h = refl
last_none (b ∷ bs) h = absurd (true≢false (sym h))

not_open : (t : QueryContext) (r : MarkedRule) (n : ℕ) (p : ℤ) → slice_get t.rules n ≡ Some r → not (is_open t r p) ≡ true → (d : ℤ) → LeadsOn t n p d → ⊥
not_open t r n p at h d l =
    let k = (leads_of t n r p d at l).valid in
    let e = source_none t (rollup_piece r.rule.name p (p +ℤ r.rule.interval)).source p (p +ℤ r.rule.interval) k in
    let f : true ≡ false = sym h ∙ ap (λ o. not (is_faultless o)) e in
    true≢false f

first_found : (t : QueryContext) (p e : ℤ) (name : Text) (rs : List MarkedRule) (n : ℕ) → StandFrom t n rs → NoneBefore t p n → ReachesEnd t e → takes_first t rs name p e ≡ true → IsFirstToReach t name p e
first_found t p e name [] n at b g h = absurd (true≢false (sym h))
first_found t p e name (r ∷ rs) n at b g h =
    let here : slice_get t.rules n ≡ Some r = ap (slice_get t.rules) (omega arith) ∙ at 0 in
    let rest : StandFrom t (n + 1) rs = λ m. ap (slice_get t.rules) (omega arith) ∙ at (suc m) in
    elim (same_text r.rule.name name) as (λ z. same_text r.rule.name name ≡ z → cond z (is_open t r p && int_eq e (p +ℤ r.rule.interval)) (not (is_open t r p) && takes_first t rs name p e) ≡ true → IsFirstToReach t name p e) [
      | true ↦ λ s k.
          let c = and_parts (is_open t r p) _ k in
          let q : e ≡ p +ℤ r.rule.interval = (Decides-int_eq e (p +ℤ r.rule.interval)).0 c.1 in
          let w : IsValidPiece t (rollup_piece r.rule.name p (p +ℤ r.rule.interval)) = source_from t (rollup_piece r.rule.name p (p +ℤ r.rule.interval)).source p (p +ℤ r.rule.interval) (faultless_none _ c.0) in
          record { n = n; leads = record { rule = r; there = here; one = q; valid = subst (λ z. IsValidPiece t (rollup_piece r.rule.name p z)) (sym q) w; good = g }; named = same_text-eq r.rule.name name s; first = b }
      | false ↦ λ s k.
          let c = and_parts (not (is_open t r p)) _ k in
          first_found t p e name rs (n + 1) rest (one_more t p n b (not_open t r n p here c.0)) g c.1
    ] refl h

step_is : (t : QueryContext) (p : ℤ) (b : Piece) (src : Source) (bs : List Piece) → IsWide t → p <ℤ t.query.to → b.from ≡ p → b.source ≡ src → is_step t src p b.to bs ≡ true → IsWalk t b.to bs → IsWalk t p (b ∷ bs)
step_is t p b Raw bs s l f e h w =
    let c = and_parts (int_le t.mark p) _ h in
    let d = and_parts (int_eq b.to t.query.to) _ c.1 in
    (l, f, subst (λ z. Steps t p b.to z bs (IsWalk t b.to bs)) (sym e) (le_from t.mark p c.0, (Decides-int_eq b.to t.query.to).0 d.0, last_none bs d.1))
step_is t p b (Rollup name) bs s l f e h w =
    let c = and_parts (int_lt p t.mark) _ h in
    let g : ReachesEnd t b.to = (bs, walk_valid t b.to bs s w) in
    let first = first_found t p b.to name t.rules 0 (λ m. ap (slice_get t.rules) (zero-add m)) (λ m d k x. absurd (omega arith)) g c.1 in
    (l, f, subst (λ z. Steps t p b.to z bs (IsWalk t b.to bs)) (sym e) (lt_from p t.mark c.0, first, w))

-- buckets that pass the test are the walk
pub is_walk-IsWalk : (t : QueryContext) (p : ℤ) (bs : List Piece) → IsWide t → is_walk t p bs ≡ true → IsWalk t p bs
is_walk-IsWalk t p [] s h = (Decides-int_eq p t.query.to).0 h
is_walk-IsWalk t p (b ∷ bs) s h =
    let c = and_parts (int_lt p t.query.to) _ h in
    let d = and_parts (int_eq b.from p) _ c.1 in
    let k = and_parts (is_step t b.source p b.to bs) _ d.1 in
    step_is t p b b.source bs s (lt_from p t.query.to c.0) ((Decides-int_eq b.from p).0 d.0) refl k.0 (is_walk-IsWalk t b.to bs s k.1)

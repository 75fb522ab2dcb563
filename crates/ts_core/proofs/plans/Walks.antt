-- The plan of a query: valid, unique, and existing if some list of pieces is valid.
use Rattle.std.proofs.lemmas.Option.{same_Some}
use Rattle.std.proofs.Common.{◌≡◌, ℕ, ℤ, pos, ◌<◌, ◌+ℤ◌, ◌≤ℤ◌, ◌<ℤ◌, arith, refl, sym, ap, ap₂, ◌∙◌, subst, List, [], ◌∷◌, Option, Some, None, Bool, true, false, cond, ◌&&◌, true≢false}
use Rattle.std.specs.Prelude.{slice_get}
use Rattle.std.proofs.lemmas.Int.{ints, by_lt_z}
use Rattle.std.specs.List.{AllByRecursion}
use Rattle.std.proofs.lemmas.Bool.{and_parts}
use Rattle.ts_core.specs.facts.Facts.{Text}
use Rattle.ts_core.specs.plans.Pieces.{Source, Raw, Rollup, Piece, MarkedRule, QueryContext, SourceServes, IsValidPiece, Covers, IsValidFrom}
use Rattle.ts_core.specs.plans.Faults.{PieceFault, piece_fault}
use Rattle.ts_core.specs.plans.Plans.{IsFirstToReach, Steps, IsWalk, is_same_rule, is_faultless, extended, merged_onto, joined, IsPlanOf}
use Rattle.ts_core.proofs.settings.Intervals.{IsWide}
use Rattle.ts_core.proofs.plans.Validity.{source_from}
use Rattle.ts_core.proofs.plans.GoodPlaces.{rule_wide, good_within}

-- ---- the walk is valid, and stays so where it is joined

steps_valid : (t : QueryContext) (p : ℤ) (b : Piece) (src : Source) (bs : List Piece) (more : Type 0) → IsWide t → b.source ≡ src → p <ℤ t.query.to → b.from ≡ p → (more → IsValidFrom t b.to bs) → Steps t p b.to src bs more → IsValidFrom t p (b ∷ bs)
steps_valid t p b Raw bs more s e l f v k =
    let to : b.to ≡ t.query.to = k.1 in
    let has : SourceServes t b.source b.from b.to = subst (λ z. SourceServes t z b.from b.to) (sym e) (subst (λ z. t.mark ≤ℤ z) (sym f) k.0) in
    record { covers = (f, omega (arith, ints), omega (arith, ints), subst (λ z. Covers b.to t.query.to z) (sym k.2) to); each = (has, subst (λ z. AllByRecursion (IsValidPiece t) z) (sym k.2) tt) }
steps_valid t p b (Rollup name) bs more s e l f v k =
    let lead = k.1.leads in
    let one = lead.one in
    let wide = rule_wide t.rules k.1.n lead.rule s.rules lead.there in
    let rest = v k.2 in
    let in' = good_within t b.to lead.good in
    let here : SourceServes t (Rollup name) p b.to = subst (λ z. SourceServes t (Rollup z) p b.to) k.1.named lead.valid in
    let has : SourceServes t b.source b.from b.to = subst (λ z. SourceServes t z b.from b.to) (sym e) (subst (λ z. SourceServes t (Rollup name) z b.to) (sym f) here) in
    record { covers = (f, omega (arith, ints), in', rest.covers); each = (has, rest.each) }

pub walk_valid : (t : QueryContext) (p : ℤ) (bs : List Piece) → IsWide t → IsWalk t p bs → IsValidFrom t p bs
walk_valid t p [] s w = record { covers = w; each = tt }
walk_valid t p (b ∷ bs) s w = steps_valid t p b b.source bs (IsWalk t b.to bs) s refl w.0 w.1 (walk_valid t b.to bs s) w.2

pub faultless_none : (o : Option PieceFault) → is_faultless o ≡ true → o ≡ None
faultless_none None h = refl
faultless_none (Some f) h = absurd (true≢false (sym h))

abbrev joins : QueryContext → Piece → Piece → Bool
joins t p b = is_same_rule p.source b.source && is_faultless (piece_fault t (extended p b))

pub joined_valid : (t : QueryContext) (a : ℤ) (p : Piece) (bs : List Piece) → IsValidFrom t a (p ∷ bs) → IsValidFrom t a (merged_onto t p bs)
joined_valid t a p [] v = v
joined_valid t a p (b ∷ bs) v =
    elim (joins t p b) as (λ z. joins t p b ≡ z → IsValidFrom t a (cond z (merged_onto t (extended p b) bs) (p ∷ merged_onto t b bs))) [
      | true ↦ λ e.
          let none = faultless_none (piece_fault t (extended p b)) (and_parts (is_same_rule p.source b.source) _ e).1 in
          let c = v.covers in
          let c0 = c.0 in
          let c1 = c.1 in
          let c3 = c.3.0 in
          let c4 = c.3.1 in
          joined_valid t a (extended p b) bs (record { covers = (c0, omega (arith, ints), c.3.2, c.3.3); each = (source_from t p.source p.from b.to none, v.each.1.1) })
      | false ↦ λ e.
          let rest = joined_valid t p.to b bs (record { covers = v.covers.3; each = v.each.1 }) in
          record { covers = (v.covers.0, v.covers.1, v.covers.2, rest.covers); each = (v.each.0, rest.each) }
    ] refl

walk_joined : (t : QueryContext) (p : ℤ) (bs : List Piece) → IsWide t → IsWalk t p bs → IsValidFrom t p (joined t bs)
walk_joined t p [] s w = walk_valid t p [] s w
walk_joined t p (b ∷ bs) s w = joined_valid t p b bs (walk_valid t p (b ∷ bs) s w)

-- a plan is valid
pub plan_valid : (t : QueryContext) (ps : List Piece) → IsWide t → IsPlanOf t ps → IsValidFrom t t.query.from ps
plan_valid t ps s k = subst (IsValidFrom t t.query.from) (sym k.2) (walk_joined t t.query.from k.0 s k.1)

-- ---- and it is one alone

by_order : {P : Type 0} (m n : ℕ) → (m < n → P) → (n < m → P) → (m ≡ n → P) → P
by_order m n f g h = by_lt_z (pos m) (pos n) (λ l. f (omega (arith, ints))) (λ l. by_lt_z (pos n) (pos m) (λ k. g (omega (arith, ints))) (λ k. h (omega (arith, ints))))

record Alike (s u : Source) (d e : ℤ) (bs cs : List Piece) : Type 0 where
  source : s ≡ u
  end : d ≡ e
  rest : bs ≡ cs

first_alike : (t : QueryContext) (p d e : ℤ) (name other : Text) (bs cs : List Piece) → (d ≡ e → bs ≡ cs) → IsFirstToReach t name p d → IsFirstToReach t other p e → Alike (Rollup name) (Rollup other) d e bs cs
first_alike t p d e name other bs cs f a b =
    by_order a.n b.n
    (λ l. absurd (b.first a.n d l a.leads))
    (λ l. absurd (a.first b.n e l b.leads))
    (λ q.
    let r : a.leads.rule ≡ b.leads.rule = same_Some a.leads.rule b.leads.rule (sym a.leads.there ∙ ap (slice_get t.rules) q ∙ b.leads.there) in
    let z : d ≡ e = a.leads.one ∙ ap (λ (x : MarkedRule). p +ℤ x.rule.interval) r ∙ sym b.leads.one in
    let n : name ≡ other = sym a.named ∙ ap (λ (x : MarkedRule). x.rule.name) r ∙ b.named in
    record { source = ap Rollup n; end = z; rest = f z })

steps_same : (t : QueryContext) (p d e : ℤ) (s u : Source) (bs cs : List Piece) (w v : Type 0) → (d ≡ e → w → v → bs ≡ cs) → Steps t p d s bs w → Steps t p e u cs v → Alike s u d e bs cs
steps_same t p d e Raw Raw bs cs w v f a b = record { source = refl; end = a.1 ∙ sym b.1; rest = a.2 ∙ sym b.2 }
steps_same t p d e (Rollup m) (Rollup n) bs cs w v f a b = first_alike t p d e m n bs cs (λ z. f z a.2 b.2) a.1 b.1
steps_same t p d e _ _ bs cs w v f a b = absurd (let x = a.0 in let y = b.0 in omega (arith, ints))

pub same_piece : (a b : Piece) → a.source ≡ b.source → a.from ≡ b.from → a.to ≡ b.to → a ≡ b
same_piece a b p q r = λ i. record { source = p i; from = q i; to = r i }

pub walk_same : (t : QueryContext) (p : ℤ) (bs cs : List Piece) → IsWalk t p bs → IsWalk t p cs → bs ≡ cs
walk_same t p [] [] w v = refl
walk_same t p [] (c ∷ cs) w v = absurd (let x = v.0 in omega (arith, ints))
walk_same t p (b ∷ bs) [] w v = absurd (let x = w.0 in omega (arith, ints))
walk_same t p (b ∷ bs) (c ∷ cs) w v =
    let k = steps_same t p b.to c.to b.source c.source bs cs (IsWalk t b.to bs) (IsWalk t c.to cs) (λ e x y. walk_same t c.to bs cs (subst (λ z. IsWalk t z bs) e x) y) w.2 v.2 in
    ap₂ (λ x (xs : List Piece). x ∷ xs) (same_piece b c k.source (w.1 ∙ sym v.1) k.end) k.rest

pub plan_same : (t : QueryContext) (ps qs : List Piece) → IsPlanOf t ps → IsPlanOf t qs → ps ≡ qs
plan_same t ps qs a b = a.2 ∙ ap (joined t) (walk_same t t.query.from a.0 b.0 a.1 b.1) ∙ sym b.2

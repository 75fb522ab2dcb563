-- The buckets of a rule one after another, and the times from which valid pieces lead to the end.
use Rattle.ts_core.proofs.lists.Permutations.{pick}
use Rattle.ts_core.proofs.lists.NumberedLemmas.{at_among}
use Rattle.std.proofs.Common.{◌≡◌, ℕ, ℤ, pos, ◌+ℤ◌, ◌-ℤ◌, ◌≤ℤ◌, ◌<ℤ◌, arith, refl, sym, ap, ◌∙◌, suc, subst, List, [], ◌∷◌, Some, None, ◌⊎◌, inl, inr, true, false, cond}
use Rattle.std.specs.Prelude.{slice_get}
use Rattle.std.specs.Int.Signed.{≤ℤ_refl}
use Rattle.std.proofs.lemmas.Int.{ints, by_lt_z}
use Rattle.std.specs.List.{AllByRecursion}
use Rattle.ts_core.specs.facts.Facts.{Text, same_text}
use Rattle.ts_core.specs.settings.Settings.{Rule}
use Rattle.ts_core.specs.queries.Queries.{Query}
use Rattle.ts_core.specs.store.Marks.{index_of}
use Rattle.ts_core.specs.plans.Pieces.{Source, Raw, Rollup, Piece, MarkedRule, QueryContext, rule_named, start_of, IsBoundary, IsAligned, IsInOneBucket, RuleServes, SourceServes, IsValidPiece, Covers}
use Rattle.ts_core.specs.plans.Plans.{ReachesEnd, rollup_piece, LeadsOn}
use Rattle.ts_core.proofs.settings.Intervals.{IsWide}
use Rattle.ts_core.proofs.aggregates.BucketsOrder.{one_more, times_le, bucket_le, bucket_of-start}
use Rattle.ts_core.proofs.facts.Ids.{same_text-eq}

-- ---- rules by number and by name

pub rule_wide : (rs : List MarkedRule) (n : ℕ) (r : MarkedRule) → AllByRecursion (λ (x : MarkedRule). pos 1 ≤ℤ x.rule.interval) rs → slice_get rs n ≡ Some r → pos 1 ≤ℤ r.rule.interval
rule_wide rs n r a e = pick (λ (x : MarkedRule). pos 1 ≤ℤ x.rule.interval) r rs a (at_among rs n r e)

pub record NumberOf (rs : List MarkedRule) (name : Text) (r : MarkedRule) : Type 0 where
  pub n : ℕ
  pub there : slice_get rs n ≡ Some r
  pub named : r.rule.name ≡ name

-- the rule of a name is one of the rules
pub number_of : (rs : List MarkedRule) (name : Text) (r : MarkedRule) → rule_named name rs ≡ Some r → NumberOf rs name r
number_of [] name r e = absurd (let q : None ≡ Some r = e in cc)
number_of (x ∷ rs) name r e =
    elim (same_text x.rule.name name) as (λ b. same_text x.rule.name name ≡ b → cond b (Some x) (rule_named name rs) ≡ Some r → NumberOf (x ∷ rs) name r) [
      | true ↦ λ t q. let k : x ≡ r = cc in record { n = 0; there = q; named = ap (λ (y : MarkedRule). y.rule.name) (sym k) ∙ same_text-eq x.rule.name name t }
      | false ↦ λ t q. let s = number_of rs name r q in record { n = suc s.n; there = s.there; named = s.named }
    ] refl e

-- ---- one bucket after another

pub index_of-start : (r : Rule) (k : ℤ) → pos 1 ≤ℤ r.interval → index_of r (start_of r k) ≡ k
index_of-start r k h = bucket_of-start k r.interval r.offset h

pub start_more : (r : Rule) (k : ℤ) → start_of r (k +ℤ pos 1) ≡ start_of r k +ℤ r.interval
start_more r k = let e = one_more k r.interval in omega (arith, ints)

-- from one boundary to a later one is a bucket at least
pub to_next : (r : Rule) (a b : ℤ) → pos 1 ≤ℤ r.interval → IsBoundary r a → IsBoundary r b → a <ℤ b → (a +ℤ r.interval) ≤ℤ b
to_next r a b h p q l =
    let j : ℤ = index_of r a in
    let k : ℤ = index_of r b in
    by_lt_z j k
    (λ m. let n : (j +ℤ pos 1) ≤ℤ k = omega (arith, ints) in let x = times_le (j +ℤ pos 1) k r.interval h n in let e = one_more j r.interval in omega (arith, ints))
    (λ m. let x = times_le k j r.interval h m in absurd (omega (arith, ints)))

pub next_index : (r : Rule) (a : ℤ) → pos 1 ≤ℤ r.interval → IsBoundary r a → index_of r (a +ℤ r.interval) ≡ index_of r a +ℤ pos 1
next_index r a h p =
    let e : a +ℤ r.interval ≡ start_of r (index_of r a +ℤ pos 1) = ap (λ x. x +ℤ r.interval) (sym p) ∙ sym (start_more r (index_of r a)) in
    ap (index_of r) e ∙ index_of-start r (index_of r a +ℤ pos 1) h

pub next_boundary : (r : Rule) (a : ℤ) → pos 1 ≤ℤ r.interval → IsBoundary r a → IsBoundary r (a +ℤ r.interval)
next_boundary r a h p = ap (start_of r) (next_index r a h p) ∙ start_more r (index_of r a) ∙ ap (λ x. x +ℤ r.interval) p

-- a part of one bucket of the query is in one
pub part_in_one : (q : Query) (a c d b : ℤ) → pos 1 ≤ℤ q.interval → a ≤ℤ c → c <ℤ d → d ≤ℤ b → IsInOneBucket q a b → IsInOneBucket q c d
part_in_one q a c d b s x y z e =
    let i = q.interval in
    let o = q.offset in
    let l1 = bucket_le a c i o s x in
    let l2 = bucket_le c (d -ℤ pos 1) i o s (omega (arith, ints)) in
    let l3 = bucket_le (d -ℤ pos 1) (b -ℤ pos 1) i o s (omega (arith, ints)) in
    omega (arith, ints)

fits_part : (q : Query) (r : Rule) (a c d b : ℤ) → pos 1 ≤ℤ q.interval → a ≤ℤ c → c <ℤ d → d ≤ℤ b → IsAligned r q ⊎ IsInOneBucket q a b → IsAligned r q ⊎ IsInOneBucket q c d
fits_part q r a c d b s x y z (inl e) = inl e
fits_part q r a c d b s x y z (inr e) = inr (part_in_one q a c d b s x y z e)

-- of a stretch of buckets that serves the first bucket serves
pub first_serves : (q : Query) (r : MarkedRule) (a b : ℤ) → pos 1 ≤ℤ q.interval → pos 1 ≤ℤ r.rule.interval → a <ℤ b → RuleServes q r a b → RuleServes q r a (a +ℤ r.rule.interval)
first_serves q r a b s h l v =
    let n = to_next r.rule a b h v.starts v.ends l in
    record { measurement = v.measurement; starts = v.starts; ends = next_boundary r.rule a h v.starts; whole = v.whole; fits = fits_part q r.rule a a (a +ℤ r.rule.interval) b s (≤ℤ_refl a) (omega (arith, ints)) n v.fits; tags = v.tags }

-- and so do the others
pub rest_serves : (q : Query) (r : MarkedRule) (a b : ℤ) → pos 1 ≤ℤ q.interval → pos 1 ≤ℤ r.rule.interval → (a +ℤ r.rule.interval) <ℤ b → RuleServes q r a b → RuleServes q r (a +ℤ r.rule.interval) b
rest_serves q r a b s h l v =
    let w = v.whole in
    let n = next_index r.rule a h v.starts in
    let low : r.low ≤ℤ index_of r.rule (a +ℤ r.rule.interval) = omega (arith, ints) in
    record { measurement = v.measurement; starts = next_boundary r.rule a h v.starts; ends = v.ends; whole = low; fits = fits_part q r.rule a (a +ℤ r.rule.interval) b b s (omega (arith, ints)) l (≤ℤ_refl b) v.fits; tags = v.tags }

-- ---- what is good

pub covers_within : (a b : ℤ) (ps : List Piece) → Covers a b ps → a ≤ℤ b
covers_within a b [] c = omega (arith, ints)
covers_within a b (p ∷ ps) c = let f = c.0 in let l = c.1 in let u = c.2 in omega (arith, ints)

pub good_within : (t : QueryContext) (p : ℤ) → ReachesEnd t p → p ≤ℤ t.query.to
good_within t p g = covers_within p t.query.to g.0 g.1.covers

pub record SomeLead (t : QueryContext) (p : ℤ) : Type 0 where
  pub n : ℕ
  pub end : ℤ
  pub leads : LeadsOn t n p end

-- below the mark, an instant that reaches the end has a rule that leads on
from_piece : (t : QueryContext) (src : Source) (a b : ℤ) (ps : List Piece) → IsWide t → a <ℤ t.mark → a <ℤ b → b ≤ℤ t.query.to → Covers b t.query.to ps → SourceServes t src a b → AllByRecursion (IsValidPiece t) ps → SomeLead t a
from_piece t Raw a b ps s m l u c v w = absurd (omega (arith, ints))
from_piece t (Rollup name) a b ps s m l u c v w =
    let r = v.0 in
    let k = number_of t.rules name r v.1 in
    let h = rule_wide t.rules k.n r s.rules k.there in
    let e : ℤ = a +ℤ r.rule.interval in
    let x = to_next r.rule a b h v.2.starts v.2.ends l in
    let valid : IsValidPiece t (rollup_piece r.rule.name a e) = (r, subst (λ z. rule_named z t.rules ≡ Some r) (sym k.named) v.1, first_serves t.query r a b s.query h l v.2) in
    let good : ReachesEnd t e = by_lt_z e b
    (λ m2. (rollup_piece name e b ∷ ps, record { covers = (refl, m2, u, c); each = ((r, v.1, rest_serves t.query r a b s.query h m2 v.2), w) }))
    (λ m2. let q : b ≡ e = omega (arith, ints) in (ps, record { covers = subst (λ z. Covers z t.query.to ps) q c; each = w })) in
    record { n = k.n; end = e; leads = record { rule = r; there = k.there; one = refl; valid = valid; good = good } }

pub good_leads : (t : QueryContext) (p : ℤ) → IsWide t → p <ℤ t.mark → p <ℤ t.query.to → ReachesEnd t p → SomeLead t p
good_leads t p s m l ([], v) = let c = v.covers in absurd (omega (arith, ints))
good_leads t p s m l (q ∷ ps, v) =
    let c = v.covers in
    let f : q.from ≡ p = c.0 in
    let g = from_piece t q.source q.from q.to ps s (omega (arith, ints)) c.1 c.2 c.3 v.each.0 v.each.1 in
    subst (SomeLead t) f g

-- Existence of a plan, exactly if some list of pieces is valid: otherwise no rule leads on from where the walk ends.
use Rattle.std.proofs.Common.{◌≡◌, ◌↔◌, ℕ, ℤ, pos, ◌+◌, ◌+ℤ◌, ◌-ℤ◌, ◌≤ℤ◌, ◌<ℤ◌, arith, refl, sym, ap, ◌∙◌, suc, zero, subst, unsigned_abs, List, [], ◌∷◌, Some, None, ◌⊎◌, inl, inr, zero-add}
use Rattle.std.specs.Prelude.{slice_get}
use Rattle.std.specs.Int.Signed.{yes_non_neg, pos-nat_abs}
use Rattle.std.proofs.lemmas.Int.{ints, by_lt_z}
use Rattle.std.specs.List.{AllByRecursion}
use Rattle.ts_core.specs.settings.Settings.{Settings}
use Rattle.ts_core.specs.settings.SettingsFaults.{settings_fault}
use Rattle.ts_core.specs.store.Marks.{Marks}
use Rattle.ts_core.specs.queries.Queries.{Query, IsQuery}
use Rattle.ts_core.specs.plans.Pieces.{Raw, Piece, MarkedRule, QueryContext, query_context, IsValidPiece, IsValid}
use Rattle.ts_core.specs.plans.Faults.{piece_fault}
use Rattle.ts_core.specs.plans.Plans.{ReachesEnd, rollup_piece, LeadsOn, NoneBefore, IsWalk, joined, IsPlan}
use Rattle.ts_core.proofs.settings.Intervals.{IsWide, asked_wide}
use Rattle.ts_core.proofs.plans.Validity.{source_from, source_none}
use Rattle.ts_core.proofs.plans.GoodPlaces.{good_leads, good_within}
use Rattle.ts_core.proofs.plans.Walks.{walk_valid, plan_valid, plan_same}

-- a walk from p, or p isn't good
abbrev Decided : QueryContext → ℤ → Type 0
Decided t p = ((bs : List Piece) × IsWalk t p bs) ⊎ (ReachesEnd t p → ⊥)

-- rule n of the list leads by a valid bucket to an instant that reaches the end
pub record Leads (t : QueryContext) (r : MarkedRule) (p : ℤ) : Type 0 where
  pub valid : IsValidPiece t (rollup_piece r.rule.name p (p +ℤ r.rule.interval))
  pub good : ReachesEnd t (p +ℤ r.rule.interval)

pub leads_of : (t : QueryContext) (n : ℕ) (r : MarkedRule) (p d : ℤ) → slice_get t.rules n ≡ Some r → LeadsOn t n p d → Leads t r p
leads_of t n r p d e l =
    let q : Some l.rule ≡ Some r = sym l.there ∙ e in
    let k : l.rule ≡ r = cc in
    let v : IsValidPiece t (rollup_piece l.rule.rule.name p (p +ℤ l.rule.rule.interval)) = subst (λ z. IsValidPiece t (rollup_piece l.rule.rule.name p z)) l.one l.valid in
    let g : ReachesEnd t (p +ℤ l.rule.rule.interval) = subst (ReachesEnd t) l.one l.good in
    subst (λ (x : MarkedRule). Leads t x p) k (record { valid = v; good = g })

valid_or_not : (t : QueryContext) (b : Piece) → IsValidPiece t b ⊎ (IsValidPiece t b → ⊥)
valid_or_not t b =
    elim (piece_fault t b) as (λ o. piece_fault t b ≡ o → IsValidPiece t b ⊎ (IsValidPiece t b → ⊥)) [
      | None ↦ λ e. inl (source_from t b.source b.from b.to e)
      | Some f ↦ λ e. inr (λ v. let q : Some f ≡ None = sym e ∙ source_none t b.source b.from b.to v in absurd cc)
    ] refl

pub one_more : (t : QueryContext) (p : ℤ) (n : ℕ) → NoneBefore t p n → ((d : ℤ) → LeadsOn t n p d → ⊥) → NoneBefore t p (n + 1)
one_more t p n b h m d l k =
    by_lt_z (pos m) (pos n)
    (λ x. b m d (omega (arith, ints)) k)
    (λ x. let e : m ≡ n = omega (arith, ints) in h d (subst (λ z. LeadsOn t z p d) e k))

-- the rules rs have the numbers from n on
abbrev pub StandFrom : QueryContext → ℕ → List MarkedRule → Type 0
StandFrom t n rs = (m : ℕ) → slice_get t.rules (n + m) ≡ slice_get rs m

none_leads : (t : QueryContext) (p : ℤ) (n : ℕ) → IsWide t → p <ℤ t.mark → p <ℤ t.query.to → StandFrom t n [] → NoneBefore t p n → ReachesEnd t p → ⊥
none_leads t p n s a l at b g =
    let k = good_leads t p s a l g in
    by_lt_z (pos k.n) (pos n)
    (λ x. b k.n k.end (omega (arith, ints)) k.leads)
    (λ x.
    let z : ℤ = pos k.n -ℤ pos n in
    let e : pos (unsigned_abs z) ≡ z = pos-nat_abs z (yes_non_neg (omega (arith, ints))) in
    let q : k.n ≡ n + unsigned_abs z = omega (arith, ints) in
    let f : Some k.leads.rule ≡ None = sym k.leads.there ∙ ap (slice_get t.rules) q ∙ at (unsigned_abs z) in
    absurd cc)

found : (t : QueryContext) (p : ℤ) (n : ℕ) (r : MarkedRule) → p <ℤ t.mark → p <ℤ t.query.to → IsWide t → NoneBefore t p n → slice_get t.rules n ≡ Some r
    → IsValidPiece t (rollup_piece r.rule.name p (p +ℤ r.rule.interval)) → (bs : List Piece) → IsWalk t (p +ℤ r.rule.interval) bs → Decided t p
found t p n r a l s b at v bs w =
    let e : ℤ = p +ℤ r.rule.interval in
    let leads : LeadsOn t n p e = record { rule = r; there = at; one = refl; valid = v; good = (bs, walk_valid t e bs s w) } in
    inl (rollup_piece r.rule.name p e ∷ bs, (l, refl, (a, record { n = n; leads = leads; named = refl; first = b }, w)))

first_lead : (t : QueryContext) (p : ℤ) (rs : List MarkedRule) (n : ℕ) → IsWide t → AllByRecursion (λ (r : MarkedRule). pos 1 ≤ℤ r.rule.interval) rs → p <ℤ t.mark → p <ℤ t.query.to
    → ((e : ℤ) → p <ℤ e → Decided t e) → StandFrom t n rs → NoneBefore t p n → Decided t p
first_lead t p [] n s w a l more at b = inr (none_leads t p n s a l at b)
first_lead t p (r ∷ rs) n s w a l more at b =
    let e : ℤ = p +ℤ r.rule.interval in
    let wide = w.0 in
    let here : slice_get t.rules n ≡ Some r = ap (slice_get t.rules) (omega arith) ∙ at 0 in
    let rest : StandFrom t (n + 1) rs = λ m. ap (slice_get t.rules) (omega arith) ∙ at (suc m) in
    let on : ((d : ℤ) → LeadsOn t n p d → ⊥) → Decided t p = λ h. first_lead t p rs (n + 1) s w.1 a l more rest (one_more t p n b h) in
    elim (valid_or_not t (rollup_piece r.rule.name p e)) as (λ _. Decided t p) [
      | inl v ↦ elim (more e (omega (arith, ints))) as (λ _. Decided t p) [
        | inl k ↦ found t p n r a l s b here v k.0 k.1
        | inr bad ↦ on (λ d x. bad (leads_of t n r p d here x).good)
      ]
      | inr bad ↦ on (λ d x. bad (leads_of t n r p d here x).valid)
    ]

at_end : (t : QueryContext) (p : ℤ) → t.query.to ≤ℤ p → Decided t p
at_end t p l =
    by_lt_z t.query.to p
    (λ m. inr (λ g. let k = good_within t p g in absurd (omega (arith, ints))))
    (λ m. inl ([], omega (arith, ints)))

decided : (t : QueryContext) → IsWide t → (fuel : ℕ) (p : ℤ) → t.query.to ≤ℤ (p +ℤ pos fuel) → Decided t p
decided t s zero p f = at_end t p (omega (arith, ints))
decided t s (suc n) p f =
    by_lt_z p t.query.to
    (λ l. by_lt_z p t.mark
    (λ a. first_lead t p t.rules 0 s s.rules a l (λ e m. decided t s n e (omega (arith, ints))) (λ m. ap (slice_get t.rules) (zero-add m)) (λ m d k x. absurd (omega arith)))
    (λ a. inl (record { source = Raw; from = p; to = t.query.to } ∷ [], (l, refl, (a, refl, refl)))))
    (λ l. at_end t p l)

walk_there : (t : QueryContext) (p : ℤ) → IsWide t → ReachesEnd t p → (bs : List Piece) × IsWalk t p bs
walk_there t p s g =
    let l = good_within t p g in
    let z : ℤ = t.query.to -ℤ p in
    let e : pos (unsigned_abs z) ≡ z = pos-nat_abs z (yes_non_neg (omega (arith, ints))) in
    elim (decided t s (unsigned_abs z) p (omega (arith, ints))) as (λ _. (bs : List Piece) × IsWalk t p bs) [ inl k ↦ k | inr bad ↦ absurd (bad g) ]

-- ---- the laws of plans

-- a plan is valid
pub IsPlan-valid : (s : Settings) (m : Marks) (q : Query) (ps : List Piece) → settings_fault s ≡ None → IsQuery q → IsPlan s m q ps → IsValid s m q ps
IsPlan-valid s m q ps well is k = plan_valid (query_context s m q) ps (asked_wide s m q well is) k

-- two plans of a query are the same
pub IsPlan-same : (s : Settings) (m : Marks) (q : Query) (ps ns : List Piece) → IsPlan s m q ps → IsPlan s m q ns → ps ≡ ns
IsPlan-same s m q ps ns a b = plan_same (query_context s m q) ps ns a b

-- and there is one exactly where some list of pieces is valid
pub IsPlan-there : (s : Settings) (m : Marks) (q : Query) → settings_fault s ≡ None → IsQuery q → ((ps : List Piece) × IsPlan s m q ps) ↔ ((ps : List Piece) × IsValid s m q ps)
IsPlan-there s m q well is = (
  λ k. (k.0, IsPlan-valid s m q k.0 well is k.1),
  λ g. let w = walk_there (query_context s m q) q.from (asked_wide s m q well is) g in (joined (query_context s m q) w.0, (w.0, w.1, refl)),
)

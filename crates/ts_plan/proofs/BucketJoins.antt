-- The remaining tests of a bucket, if its rule and its ends are known to be right.
use Rattle.std.proofs.Common.{◌≡◌, ℕ, ℤ, int_le, refl, sym, ap, ◌∙◌, subst, Some, None, Bool, true, false, ◌&&◌, ◌||◌, nat_eq, true≢false, arith}
use Rattle.std.specs.Prelude.{slice_get}
use Rattle.std.specs.List.{list_all}
use Rattle.std.proofs.lemmas.Bool.{and_parts, and_from}
use Rattle.std.proofs.lemmas.Bool.Decides.{Decides-int_eq}
use Rattle.ts_core.specs.facts.Facts.{Text, same_text}
use Rattle.ts_core.specs.queries.Queries.{Query}
use Rattle.ts_core.specs.store.Marks.{index_of}
use Rattle.ts_core.specs.settings.Settings.{Rule}
use Rattle.ts_core.specs.settings.SettingsFaults.{unless}
use Rattle.ts_core.specs.plans.Pieces.{MarkedRule, QueryContext, rule_named, start_of, IsBoundary, RuleServes, tags_of}
use Rattle.ts_core.specs.declared.plans.fault.PieceFault.{PieceFault}
use Rattle.ts_core.specs.plans.Faults.{is_boundary, is_aligned, is_in_one_bucket, keeps, rule_fault, piece_fault}
use Rattle.ts_core.specs.plans.Plans.{is_same_rule, is_faultless, extended}
use Rattle.ts_core.proofs.facts.Ids.{same_text-eq}
use Rattle.ts_core.proofs.settings.RuleNames.{name_of, rule_named-at}
use Rattle.ts_core.proofs.lists.Comparisons.{le_true, same_text-from_eq, among_all}
use Rattle.ts_core.proofs.plans.Validity.{serves_from, serves_none, source_from}
use Rattle.ts_core.proofs.plans.Walks.{faultless_none}
use Rattle.ts_plan.specs.declared.steps.Step.{Step}
use Rattle.ts_plan.specs.declared.walk.PendingPiece.{PendingPiece}
use Rattle.ts_plan.specs.Steps.{IsPlannable, IsStep, matches_query, is_usable, name_or_none, bucket_piece}
use Rattle.ts_plan.specs.Joins.{pending_piece, joins, IsPendingPiece}
use Rattle.ts_plan.proofs.RuleNumbers.{same_number, same_rule}

six : (a b c d e f : Bool) (u v w x y z : PieceFault) → a ≡ true → b ≡ true → c ≡ true → f ≡ true → (d && e) ≡ is_faultless (unless a u (unless b v (unless c w (unless d x (unless e y (unless f z None))))))
six true true true true true true u v w x y z p q r s = refl
six true true true true false f u v w x y z p q r s = refl
six true true true false e f u v w x y z p q r s = refl
six true true true true true false u v w x y z p q r s = sym s
six true true false d e f u v w x y z p q r s = absurd (let k : false ≡ true = r in cc)
six true false c d e f u v w x y z p q r s = absurd (let k : false ≡ true = q in cc)
six false b c d e f u v w x y z p q r s = absurd (let k : false ≡ true = p in cc)

boundary_true : (r : Rule) (p : ℤ) → IsBoundary r p → is_boundary r p ≡ true
boundary_true r p h = (Decides-int_eq (start_of r (index_of r p)) p).1 h

-- where the rule has the columns and both ends are boundaries
short_test : (q : Query) (r : MarkedRule) (a b : ℤ) → matches_query q r.rule ≡ true → IsBoundary r.rule a → IsBoundary r.rule b → is_usable q r a b ≡ is_faultless (rule_fault q (Some r) a b)
short_test q r a b h s e =
    let c = and_parts (same_text r.rule.measurement q.measurement) (list_all (keeps r.rule) (tags_of q)) h in
    six (same_text r.rule.measurement q.measurement) (is_boundary r.rule a) (is_boundary r.rule b) (int_le r.low (index_of r.rule a)) (is_aligned r.rule q || is_in_one_bucket q a b) (list_all (keeps r.rule) (tags_of q)) _ _ _ _ _ _ c.0 (boundary_true r.rule a s) (boundary_true r.rule b e) c.1

pub test_serves : (q : Query) (r : MarkedRule) (a b : ℤ) → matches_query q r.rule ≡ true → IsBoundary r.rule a → IsBoundary r.rule b → is_usable q r a b ≡ true → RuleServes q r a b
test_serves q r a b h s e w = serves_from q r a b (faultless_none (rule_fault q (Some r) a b) (sym (short_test q r a b h s e) ∙ w))

-- a rule that serves somewhere has the columns
pub serves_columns : (q : Query) (r : MarkedRule) (a b : ℤ) → RuleServes q r a b → matches_query q r.rule ≡ true
serves_columns q r a b v = and_from _ _ (same_text-from_eq r.rule.measurement q.measurement v.measurement) (among_all (tags_of q) r.rule.kept_tags v.tags)

pub serves_test : (q : Query) (r : MarkedRule) (a b : ℤ) → RuleServes q r a b → is_usable q r a b ≡ true
serves_test q r a b v = short_test q r a b (serves_columns q r a b v) v.starts v.ends ∙ ap is_faultless (serves_none q r a b v)

-- ---- a bucket joins a valid piece of its rule where the drawn piece fits

fits_test : (t : QueryContext) (r : MarkedRule) (a c d b : ℤ) (aligned : Bool) → aligned ≡ is_aligned r.rule t.query → RuleServes t.query r a c → RuleServes t.query r d b → (aligned || is_in_one_bucket t.query a b) ≡ is_faultless (rule_fault t.query (Some r) a b)
fits_test t r a c d b aligned e v w =
    ap (λ z. z || is_in_one_bucket t.query a b) e
    ∙ ap (λ z. z && (is_aligned r.rule t.query || is_in_one_bucket t.query a b)) (sym (le_true r.low (index_of r.rule a) v.whole))
    ∙ short_test t.query r a b (serves_columns t.query r a c v) v.starts w.ends

pub not_same : (a b : Bool) → (b ≡ true → a ≡ true) → a ≡ false → b ≡ false
not_same a true h e = absurd (true≢false (sym (h refl) ∙ e))
not_same a false h e = refl

nat_eq_from : (m n : ℕ) → nat_eq m n ≡ true → m ≡ n
nat_eq_from m n h = grind arith

pub nat_eq_true : (m n : ℕ) → m ≡ n → nat_eq m n ≡ true
nat_eq_true m n h = grind arith

pub nat_eq_false : (m n : ℕ) → (m ≡ n → ⊥) → nat_eq m n ≡ false
nat_eq_false m n h = elim (nat_eq m n) as (λ b. nat_eq m n ≡ b → b ≡ false) [ true ↦ λ e. absurd (h (nat_eq_from m n e)) | false ↦ λ e. refl ] refl

abbrev name_at : QueryContext → ℕ → Text
name_at t n = name_or_none (slice_get t.rules n)

found : (t : QueryContext) (h : PendingPiece) → IsPlannable t → (pending : IsPendingPiece t h) → rule_named (name_at t h.rule) t.rules ≡ Some pending.rule
found t h k pending = subst (λ z. rule_named (name_or_none z) t.rules ≡ Some pending.rule) (sym pending.there) (rule_named-at t.rules h.rule pending.rule k.named pending.there)

-- of one number
same_join : (t : QueryContext) (h : PendingPiece) (s : Step) → IsPlannable t → IsPendingPiece t h → IsStep t s → h.rule ≡ s.rule → (h.aligned || is_in_one_bucket t.query h.from s.to) ≡ joins t (pending_piece t h) (bucket_piece t s)
same_join t h s k pending i e =
    let r = pending.rule in
    let same : i.rule ≡ r = same_rule t.rules h.rule s.rule r i.rule e pending.there i.there in
    let w : RuleServes t.query r s.from s.to = subst (λ (x : MarkedRule). RuleServes t.query x s.from s.to) same i.serves in
    let names : name_at t h.rule ≡ name_at t s.rule = ap (name_at t) e in
    fits_test t r h.from h.to s.from s.to h.aligned pending.aligned pending.serves w
    ∙ ap (λ o. is_faultless (rule_fault t.query o h.from s.to)) (sym (found t h k pending))
    ∙ ap (λ z. z && is_faultless (piece_fault t (extended (pending_piece t h) (bucket_piece t s)))) (sym (same_text-from_eq (name_at t h.rule) (name_at t s.rule) names))

-- of two numbers
other_join : (t : QueryContext) (h : PendingPiece) (s : Step) → IsPlannable t → IsPendingPiece t h → IsStep t s → nat_eq h.rule s.rule ≡ false → false ≡ joins t (pending_piece t h) (bucket_piece t s)
other_join t h s k pending i e =
    let apart : same_text (name_at t h.rule) (name_at t s.rule) ≡ false = not_same (nat_eq h.rule s.rule) (same_text (name_at t h.rule) (name_at t s.rule)) (λ q.
    let names : name_of pending.rule ≡ name_of i.rule = sym (ap name_or_none pending.there) ∙ same_text-eq (name_at t h.rule) (name_at t s.rule) q ∙ ap name_or_none i.there in
    nat_eq_true h.rule s.rule (same_number t.rules h.rule s.rule pending.rule i.rule k.named pending.there i.there names)) e in
    ap (λ z. z && is_faultless (piece_fault t (extended (pending_piece t h) (bucket_piece t s)))) (sym apart)

pub join_is : (t : QueryContext) (h : PendingPiece) (s : Step) → IsPlannable t → IsPendingPiece t h → IsStep t s → (nat_eq h.rule s.rule && (h.aligned || is_in_one_bucket t.query h.from s.to)) ≡ joins t (pending_piece t h) (bucket_piece t s)
join_is t h s k pending i =
    elim (nat_eq h.rule s.rule) as (λ z. nat_eq h.rule s.rule ≡ z → (z && (h.aligned || is_in_one_bucket t.query h.from s.to)) ≡ joins t (pending_piece t h) (bucket_piece t s)) [
      | true ↦ λ e. same_join t h s k pending i (nat_eq_from h.rule s.rule e)
      | false ↦ λ e. other_join t h s k pending i e
    ] refl

-- a pending piece and a bucket that join are a pending piece
pub join_pending : (t : QueryContext) (h d : PendingPiece) (s : Step) → IsPlannable t → IsPendingPiece t h → d ≡ record { rule = h.rule; aligned = h.aligned; from = h.from; to = s.to } → joins t (pending_piece t h) (bucket_piece t s) ≡ true → IsPendingPiece t d
join_pending t h d s k pending e j =
    let none = faultless_none (piece_fault t (extended (pending_piece t h) (bucket_piece t s))) (and_parts (is_same_rule (pending_piece t h).source (bucket_piece t s).source) _ j).1 in
    let v = source_from t (pending_piece t h).source h.from s.to none in
    let q : v.0 ≡ pending.rule = (let f : Some v.0 ≡ Some pending.rule = sym v.1 ∙ found t h k pending in cc) in
    subst (IsPendingPiece t) (sym e) (record { rule = pending.rule; there = pending.there; spelled = pending.spelled; aligned = pending.aligned; serves = subst (λ (x : MarkedRule). RuleServes t.query x h.from s.to) q v.2 })

-- Validity of pieces, exactly if they have no fault.
use Rattle.ts_core.proofs.settings.SettingsLaws.{well}
use Rattle.std.proofs.Common.{◌≡◌, ◌↔◌, ℕ, ℤ, pos, ◌+◌, ◌-ℤ◌, int_le, int_lt, refl, sym, ap, ap₂, ◌∙◌, List, [], ◌∷◌, Option, Some, None, ◌⊎◌, Bool, true, cond, ◌&&◌, ◌||◌, inl, inr}
use Rattle.std.specs.Ordering.{int_eq}
use Rattle.std.specs.Int.{int_rem_euclid}
use Rattle.std.proofs.lemmas.Bool.Decides.{Decides-int_eq}
use Rattle.std.specs.List.{AllByRecursion}
use Rattle.std.proofs.lemmas.Bool.{and_parts, and_from, or_cases, or_left, or_right, cond-true}
use Rattle.ts_core.specs.settings.Settings.{Rule, Settings}
use Rattle.ts_core.specs.aggregates.Buckets.{bucket_of}
use Rattle.ts_core.specs.store.Marks.{Marks, index_of}
use Rattle.ts_core.specs.queries.Queries.{Query}
use Rattle.ts_core.specs.plans.Pieces.{Source, Raw, Rollup, Piece, MarkedRule, QueryContext, query_context, rule_named, start_of, IsAligned, IsInOneBucket, tags_of, RuleServes, SourceServes, IsValidPiece, Covers, IsValidFrom, IsValid}
use Rattle.ts_core.specs.settings.SettingsFaults.{unless}
use Rattle.ts_core.specs.plans.Faults.{PieceFault, Gap, NoSuchRule, is_aligned, is_in_one_bucket, rule_fault, source_fault, piece_fault, gap_at, or_fault, pieces_fault, or_gap, fault_from, first_fault}
use Rattle.ts_core.proofs.lists.Comparisons.{le_from, le_true, lt_from, lt_true, same_text-from_eq, all_among, among_all}
use Rattle.ts_core.proofs.facts.Ids.{same_text-eq}

well_none : (b : Bool) (f : PieceFault) (next : Option PieceFault) → b ≡ true → next ≡ None → unless b f next ≡ None
well_none b f next h k = cond-true b next (Some f) h ∙ k

fits_from : (r : Rule) (q : Query) (a b : ℤ) → (is_aligned r q || is_in_one_bucket q a b) ≡ true → IsAligned r q ⊎ IsInOneBucket q a b
fits_from r q a b h =
    elim (or_cases (is_aligned r q) (is_in_one_bucket q a b) h) as (λ _. IsAligned r q ⊎ IsInOneBucket q a b) [
      | inl d ↦ let p = and_parts (int_eq (int_rem_euclid q.interval r.interval) (pos 0)) _ d in inl (record { interval = (Decides-int_eq (int_rem_euclid q.interval r.interval) (pos 0)).0 p.0; offset = (Decides-int_eq (int_rem_euclid (q.offset -ℤ r.offset) r.interval) (pos 0)).0 p.1 })
      | inr d ↦ inr ((Decides-int_eq (bucket_of a q.interval q.offset) (bucket_of (b -ℤ pos 1) q.interval q.offset)).0 d)
    ]

fits_true : (r : Rule) (q : Query) (a b : ℤ) → IsAligned r q ⊎ IsInOneBucket q a b → (is_aligned r q || is_in_one_bucket q a b) ≡ true
fits_true r q a b (inl d) = or_left _ _ (and_from _ _ ((Decides-int_eq (int_rem_euclid q.interval r.interval) (pos 0)).1 d.interval) ((Decides-int_eq (int_rem_euclid (q.offset -ℤ r.offset) r.interval) (pos 0)).1 d.offset))
fits_true r q a b (inr d) = or_right (is_aligned r q) _ ((Decides-int_eq (bucket_of a q.interval q.offset) (bucket_of (b -ℤ pos 1) q.interval q.offset)).1 d)

-- ---- one piece

pub serves_from : (q : Query) (r : MarkedRule) (a b : ℤ) → rule_fault q (Some r) a b ≡ None → RuleServes q r a b
serves_from q r a b h =
    let p1 = well _ _ _ h in
    let p2 = well _ _ _ p1.1 in
    let p3 = well _ _ _ p2.1 in
    let p4 = well _ _ _ p3.1 in
    let p5 = well _ _ _ p4.1 in
    let p6 = well _ _ _ p5.1 in
    record {
      measurement = same_text-eq r.rule.measurement q.measurement p1.0;
      starts = (Decides-int_eq (start_of r.rule (index_of r.rule a)) a).0 p2.0;
      ends = (Decides-int_eq (start_of r.rule (index_of r.rule b)) b).0 p3.0;
      whole = le_from r.low (index_of r.rule a) p4.0;
      fits = fits_from r.rule q a b p5.0;
      tags = all_among (tags_of q) r.rule.kept_tags p6.0;
    }

pub serves_none : (q : Query) (r : MarkedRule) (a b : ℤ) → RuleServes q r a b → rule_fault q (Some r) a b ≡ None
serves_none q r a b v =
    well_none _ _ _ (same_text-from_eq r.rule.measurement q.measurement v.measurement)
    (well_none _ _ _ ((Decides-int_eq (start_of r.rule (index_of r.rule a)) a).1 v.starts)
    (well_none _ _ _ ((Decides-int_eq (start_of r.rule (index_of r.rule b)) b).1 v.ends)
    (well_none _ _ _ (le_true r.low (index_of r.rule a) v.whole)
    (well_none _ _ _ (fits_true r.rule q a b v.fits)
    (well_none _ _ _ (among_all (tags_of q) r.rule.kept_tags v.tags) refl)))))

rule_from : (q : Query) (o : Option MarkedRule) (a b : ℤ) → rule_fault q o a b ≡ None → (r : MarkedRule) × (o ≡ Some r) × RuleServes q r a b
rule_from q None a b h = absurd (let e : Some NoSuchRule ≡ None = h in cc)
rule_from q (Some r) a b h = (r, refl, serves_from q r a b h)

pub source_from : (t : QueryContext) (s : Source) (a b : ℤ) → source_fault t s a b ≡ None → SourceServes t s a b
source_from t Raw a b h = le_from t.mark a (well _ _ _ h).0
source_from t (Rollup name) a b h = rule_from t.query (rule_named name t.rules) a b h

pub source_none : (t : QueryContext) (s : Source) (a b : ℤ) → SourceServes t s a b → source_fault t s a b ≡ None
source_none t Raw a b h = well_none _ _ _ (le_true t.mark a h) refl
source_none t (Rollup name) a b h = ap (λ o. rule_fault t.query o a b) h.1 ∙ serves_none t.query h.0 a b h.2

-- ---- the whole list

or_none : (n : ℕ) (f : Option PieceFault) (next : Option (PieceFault × ℕ)) → or_fault n f next ≡ None → (f ≡ None) × (next ≡ None)
or_none n None next h = (refl, h)
or_none n (Some f) next h = absurd (let q : Some (f, n) ≡ None = h in cc)

each_from : (t : QueryContext) (n : ℕ) (ps : List Piece) → pieces_fault t n ps ≡ None → AllByRecursion (IsValidPiece t) ps
each_from t n [] h = tt
each_from t n (p ∷ ps) h = let k = or_none n (piece_fault t p) (pieces_fault t (n + 1) ps) h in (source_from t p.source p.from p.to k.0, each_from t (n + 1) ps k.1)

each_none : (t : QueryContext) (n : ℕ) (ps : List Piece) → AllByRecursion (IsValidPiece t) ps → pieces_fault t n ps ≡ None
each_none t n [] h = refl
each_none t n (p ∷ ps) h = ap (λ f. or_fault n f (pieces_fault t (n + 1) ps)) (source_none t p.source p.from p.to h.0) ∙ each_none t (n + 1) ps h.1

pub covers_from : (n : ℕ) (a b : ℤ) (ps : List Piece) → gap_at n a b ps ≡ None → Covers a b ps
covers_from n a b [] h = (Decides-int_eq a b).0 (well (int_eq a b) n None h).0
covers_from n a b (p ∷ ps) h =
    let s = well (int_eq p.from a && (int_lt p.from p.to && int_le p.to b)) n (gap_at (n + 1) p.to b ps) h in
    let first = and_parts (int_eq p.from a) _ s.0 in
    let others = and_parts (int_lt p.from p.to) _ first.1 in
    ((Decides-int_eq p.from a).0 first.0, lt_from p.from p.to others.0, le_from p.to b others.1, covers_from (n + 1) p.to b ps s.1)

pub covers_none : (n : ℕ) (a b : ℤ) (ps : List Piece) → Covers a b ps → gap_at n a b ps ≡ None
covers_none n a b [] h = ap (λ t. cond t None (Some n)) ((Decides-int_eq a b).1 h)
covers_none n a b (p ∷ ps) h =
    cond-true _ (gap_at (n + 1) p.to b ps) (Some n) (and_from _ _ ((Decides-int_eq p.from a).1 h.0) (and_from _ _ (lt_true p.from p.to h.1) (le_true p.to b h.2)))
    ∙ covers_none (n + 1) p.to b ps h.3

no_gap : (g : Option ℕ) (f : Option (PieceFault × ℕ)) → or_gap g f ≡ None → (g ≡ None) × (f ≡ None)
no_gap None f h = (refl, h)
no_gap (Some n) f h = absurd (let q : Some (Gap, n) ≡ None = h in cc)

pub valid_from : (t : QueryContext) (a : ℤ) (ps : List Piece) → fault_from t a ps ≡ None → IsValidFrom t a ps
valid_from t a ps h = let s = no_gap (gap_at 0 a t.query.to ps) (pieces_fault t 0 ps) h in record { covers = covers_from 0 a t.query.to ps s.0; each = each_from t 0 ps s.1 }

pub valid_none : (t : QueryContext) (a : ℤ) (ps : List Piece) → IsValidFrom t a ps → fault_from t a ps ≡ None
valid_none t a ps v = ap₂ or_gap (covers_none 0 a t.query.to ps v.covers) (each_none t 0 ps v.each)

-- pieces are valid exactly where they have no first fault
pub first_fault-valid : (s : Settings) (m : Marks) (q : Query) (ps : List Piece) → (first_fault s m q ps ≡ None) ↔ IsValid s m q ps
first_fault-valid s m q ps = (valid_from (query_context s m q) q.from ps, valid_none (query_context s m q) q.from ps)

-- and with a fault they aren't
pub first_fault-not_valid : (s : Settings) (m : Marks) (q : Query) (ps : List Piece) (e : PieceFault × ℕ) → first_fault s m q ps ≡ Some e → IsValid s m q ps → ⊥
first_fault-not_valid s m q ps e h v = let n : Some e ≡ None = sym h ∙ valid_none (query_context s m q) q.from ps v in absurd cc

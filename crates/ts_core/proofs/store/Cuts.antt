-- Aggregates of facts in two parts, when the cut between the parts moves.
use Rattle.std.proofs.Common.{◌≡◌, ℤ, Bool, true, false, cond, not, ◌&&◌, List, [], ◌∷◌, filter, refl, sym, ◌∙◌, ap, ap₂, inl, inr, true≢false}
use Rattle.std.proofs.lemmas.Bool.{and_parts}
use Rattle.ts_core.specs.lists.Members.{Among, AllDistinct}
use Rattle.ts_core.specs.facts.Facts.{Column, Fact}
use Rattle.ts_core.specs.settings.Settings.{Rule}
use Rattle.ts_core.specs.aggregates.Aggregates.{Aggregate, empty_aggregate, aggregate_of_one, merged, aggregate_of}
use Rattle.ts_core.specs.store.RawFacts.{is_kept}
use Rattle.ts_core.specs.store.Cells.{Cell, is_in_cell, total_of, frozen_of, live_of}
use Rattle.ts_core.specs.aggregates.MergeLaws.{aggregate_laws}
use Rattle.ts_core.proofs.aggregates.Folds.{fold-same, merge-left_comm}
use Rattle.ts_core.proofs.lists.MembersLemmas.{AllDistinct-filter, Among-filter_passes, Among-filter_was, Among-filter_stays}

abbrev pub one_fact : Fact → Aggregate
one_fact f = aggregate_of_one f.time f.value

-- of the facts that pass a test
abbrev pub aggregate_where : (Fact → Bool) → List Fact → Aggregate
aggregate_where p fs = aggregate_of (filter p fs)

-- tests that agree on the list's members
pub filter-agree : {X : Type 0} (p q : X → Bool) (xs : List X) → ((x : X) → Among x xs → p x ≡ q x) → filter p xs ≡ filter q xs
filter-agree p q [] h = refl
filter-agree p q (x ∷ xs) h =
    ap (λ b. cond b (x ∷ filter p xs) (filter p xs)) (h x (inl refl)) ∙ ap (λ zs. cond (q x) (x ∷ zs) zs) (filter-agree p q xs (λ y k. h y (inr k)))

pub aggregate_where-agree : (p q : Fact → Bool) (fs : List Fact) → ((f : Fact) → Among f fs → p f ≡ q f) → aggregate_where p fs ≡ aggregate_where q fs
aggregate_where-agree p q fs h = ap aggregate_of (filter-agree p q fs h)

-- ---- a test in two parts

-- two tests that part a third
abbrev pub Part : Bool → Bool → Bool → Type 0
Part true false true = Unit {0}
Part false true true = Unit {0}
Part false false false = Unit {0}
Part true true r = ⊥
Part true false false = ⊥
Part false true false = ⊥
Part false false true = ⊥

part_step : (x u v w : Aggregate) (p q r : Bool) → Part p q r → w ≡ merged u v → cond r (merged x w) w ≡ merged (cond p (merged x u) u) (cond q (merged x v) v)
part_step x u v w true false true h e = ap (merged x) e ∙ sym (aggregate_laws.assoc x u v)
part_step x u v w false true true h e = ap (merged x) e ∙ merge-left_comm aggregate_laws one_fact x u v
part_step x u v w false false false h e = e
part_step x u v w _ _ r h e = absurd h

into : (b : Bool) (f : Fact) (fs : List Fact) → aggregate_of (cond b (f ∷ fs) fs) ≡ cond b (merged (one_fact f) (aggregate_of fs)) (aggregate_of fs)
into true f fs = refl
into false f fs = refl

pub aggregate_where-part : (p q r : Fact → Bool) → ((f : Fact) → Part (p f) (q f) (r f)) → (fs : List Fact) → aggregate_where r fs ≡ merged (aggregate_where p fs) (aggregate_where q fs)
aggregate_where-part p q r h [] = sym (aggregate_laws.unit empty_aggregate)
aggregate_where-part p q r h (f ∷ fs) =
    into (r f) f (filter r fs)
    ∙ part_step (one_fact f) (aggregate_where p fs) (aggregate_where q fs) (aggregate_where r fs) (p f) (q f) (r f) (h f) (aggregate_where-part p q r h fs)
    ∙ sym (ap₂ merged (into (p f) f (filter p fs)) (into (q f) f (filter q fs)))

part_by : (a b : Bool) → Part (a && not b) (a && b) a
part_by true true = tt
part_by _ _ = tt

-- the total is the two parts together, wherever the cut
pub total_of-parts : (cut : Column → ℤ) (r : Rule) (k : Cell) (fs : List Fact) → total_of r k fs ≡ merged (frozen_of cut r k fs) (live_of cut r k fs)
total_of-parts cut r k fs =
    aggregate_where-part (λ (f : Fact). is_in_cell r k f && not (is_kept cut f)) (λ (f : Fact). is_in_cell r k f && is_kept cut f) (is_in_cell r k)
    (λ f. part_by (is_in_cell r k f) (is_kept cut f)) fs

-- ---- two cuts

-- the cuts keep the same of the facts there are
abbrev pub CutsAgree : (Column → ℤ) → (Column → ℤ) → List Fact → Type 0
CutsAgree cut next fs = (f : Fact) → Among f fs → is_kept cut f ≡ is_kept next f

pub frozen_of-agree : (cut next : Column → ℤ) (fs : List Fact) → CutsAgree cut next fs → (r : Rule) (k : Cell) → frozen_of cut r k fs ≡ frozen_of next r k fs
frozen_of-agree cut next fs h r k = aggregate_where-agree _ _ fs (λ f a. ap (λ b. is_in_cell r k f && not b) (h f a))

pub live_of-agree : (cut next : Column → ℤ) (fs : List Fact) → CutsAgree cut next fs → (r : Rule) (k : Cell) → live_of cut r k fs ≡ live_of next r k fs
live_of-agree cut next fs h r k = aggregate_where-agree _ _ fs (λ f a. ap (λ b. is_in_cell r k f && b) (h f a))

-- the second cut keeps no more than the first
abbrev pub CutRises : (Column → ℤ) → (Column → ℤ) → Type 0
CutRises cut next = (f : Fact) → is_kept next f ≡ true → is_kept cut f ≡ true

-- kept by the first cut and not by the second
abbrev pub is_passed : (Column → ℤ) → (Column → ℤ) → Fact → Bool
is_passed cut next f = is_kept cut f && not (is_kept next f)

abbrev pub passed_of : (Column → ℤ) → (Column → ℤ) → Rule → Cell → List Fact → Aggregate
passed_of cut next r k fs = aggregate_where (λ (f : Fact). is_in_cell r k f && is_passed cut next f) fs

part_frozen : (a b c : Bool) → (c ≡ true → b ≡ true) → Part (a && not b) (a && (b && not c)) (a && not c)
part_frozen true false true h = absurd (true≢false (sym (h refl)))
part_frozen true true true h = tt
part_frozen _ b c h = tt

-- a cut that rises: the frozen part gains what the live part loses
pub frozen_of-gains : (cut next : Column → ℤ) → CutRises cut next → (r : Rule) (k : Cell) (fs : List Fact) → frozen_of next r k fs ≡ merged (frozen_of cut r k fs) (passed_of cut next r k fs)
frozen_of-gains cut next h r k fs = aggregate_where-part _ _ _ (λ f. part_frozen (is_in_cell r k f) (is_kept cut f) (is_kept next f) (h f)) fs

-- ---- the facts that are kept from a cut on

-- they are exactly the latest ones, each once
pub record Holds (cut : Column → ℤ) (fs held : List Fact) : Type 0 where
  pub once : AllDistinct held
  pub all : (f : Fact) → Among f fs → is_kept cut f ≡ true → Among f held
  pub only : (f : Fact) → Among f held → Among f fs × (is_kept cut f ≡ true)

pub aggregate_where-held : (cut : Column → ℤ) (fs held : List Fact) → Holds cut fs held → AllDistinct fs → (p : Fact → Bool)
    → aggregate_where (λ (f : Fact). p f && is_kept cut f) fs ≡ aggregate_where p held
aggregate_where-held cut fs held s d p =
    fold-same aggregate_laws one_fact (filter (λ (f : Fact). p f && is_kept cut f) fs) (filter p held)
    (AllDistinct-filter _ fs d) (AllDistinct-filter p _ s.once)
    (λ f a. let t = and_parts (p f) (is_kept cut f) (Among-filter_passes (λ (g : Fact). p g && is_kept cut g) f fs a) in
    Among-filter_stays p f held (s.all f (Among-filter_was (λ (g : Fact). p g && is_kept cut g) f fs a) t.1) t.0)
    (λ f a. let n = s.only f (Among-filter_was p f held a) in
    Among-filter_stays (λ (g : Fact). p g && is_kept cut g) f fs n.0 (ap₂ (λ x y. x && y) (Among-filter_passes p f held a) n.1))

-- so the live part of a cell is the aggregate of its facts that are kept
pub live_of-held : (cut : Column → ℤ) (fs held : List Fact) → Holds cut fs held → AllDistinct fs → (r : Rule) (k : Cell) → live_of cut r k fs ≡ aggregate_where (is_in_cell r k) held
live_of-held cut fs held s d r k = aggregate_where-held cut fs held s d (is_in_cell r k)

-- the facts in columns stay, if the cuts agree
pub Holds-agree : (cut next : Column → ℤ) (fs held : List Fact) → CutsAgree cut next fs → Holds cut fs held → Holds next fs held
Holds-agree cut next fs held h s = record {
  once = s.once;
  all = λ f a k. s.all f a (h f a ∙ k);
  only = λ f a. let n = s.only f a in (n.0, sym (h f n.0) ∙ n.1);
}

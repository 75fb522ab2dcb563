-- The frozen part of a pictured cell: the aggregate of the cell's facts from before the raw mark, so its image passes
-- the tests.
use Rattle.std.proofs.Common.{◌≡◌, ℤ, ◌≤ℤ◌, ◌<ℤ◌, Bool, true, false, cond, not, ◌&&◌, List, [], ◌∷◌, length, filter, sym, ◌∙◌, ap, subst, inl, inr, ◌⊎◌, ⊎_elim, true≢false, arith}
use Rattle.std.specs.List.{AllByRecursion}
use Rattle.std.specs.Int.Signed.{≤ℤ_refl}
use Rattle.std.proofs.lemmas.Int.{ints, by_lt_z}
use Rattle.std.proofs.lemmas.Bool.{and_parts, not-true}
use Rattle.std.proofs.lemmas.List.{length-map}
use Rattle.ts_core.specs.lists.Members.{Among}
use Rattle.ts_core.specs.facts.Times.{IsTime}
use Rattle.ts_core.specs.facts.Facts.{Column, Fact}
use Rattle.ts_core.specs.facts.Tags.{tag_value}
use Rattle.ts_core.specs.settings.Settings.{Rule, Settings}
use Rattle.ts_core.specs.store.History.{History, Line, Begin, Step, AddRule, DropRule, accepted, put_before, raw_mark, MayBeTaken, IsLawful}
use Rattle.ts_core.specs.facts.Latest.{latest_of}
use Rattle.ts_core.specs.aggregates.Aggregates.{points_of, IsSound, AreExtremesOf, IsAggregateOf}
use Rattle.ts_core.specs.store.RawFacts.{is_kept, is_waiting, earlier_mark, kept_from}
use Rattle.ts_core.specs.store.Cells.{Cell, cell_of, is_rolled, is_in_cell, same_cell, frozen_of}
use Rattle.ts_core.proofs.aggregates.AggregatesLemmas.{aggregate_of-is}
use Rattle.ts_core.proofs.moves.LiveWays.{facts_possible}
use Rattle.ts_core.proofs.lists.Comparisons.{le_true}
use Rattle.ts_core.proofs.facts.Latests.{latest-was}
use Rattle.ts_core.proofs.lists.MembersLemmas.{Among-filter_was, Among-filter_passes, map_back}
use Rattle.ts_core.proofs.plans.PieceCells.{same_cell-eq}
use Rattle.ts_core.proofs.store.StateLemmas.{earlier_mark-le, le_trans}
use Rattle.ts_image.specs.Images.{ImageRule, ImageCell}
use Rattle.ts_image.specs.ImageTests.{IsKeyName, IsFrozenTime, IsImageCell, rule_in}
use Rattle.ts_image.specs.Pictures.{cell_part_of}

-- ---- accepted facts have valid times

valid_before : (P : Fact → Type 0) (fs older : List Fact) → AllByRecursion P fs → ((f : Fact) → Among f older → P f) → (f : Fact) → Among f (put_before fs older) → P f
valid_before P [] older h k f a = k f a
valid_before P (g ∷ gs) older h k f a = valid_before P gs (g ∷ older) h.1 (λ x b. ⊎_elim {C = P x} (λ e. subst P (sym e) h.0) (k x) b) f a

all_as : (mark : ℤ) (fs : List Fact) → AllByRecursion (MayBeTaken mark) fs → AllByRecursion (λ (f : Fact). IsTime f.time) fs
all_as mark [] h = tt
all_as mark (f ∷ fs) h = (h.0.valid, all_as mark fs h.1)

pub accepted_valid : (opening : Settings) (h : History) → IsLawful opening h → (f : Fact) → Among f (accepted h) → IsTime f.time
accepted_valid opening [] l f a = absurd a
accepted_valid opening (Line facts ∷ h) l f a = valid_before (λ (x : Fact). IsTime x.time) facts (accepted h) (all_as (raw_mark opening h) facts l.1) (accepted_valid opening h l.0) f a
accepted_valid opening (Begin now ∷ h) l f a = accepted_valid opening h l.0 f a
accepted_valid opening (Step ended ∷ h) l f a = accepted_valid opening h l f a
accepted_valid opening (AddRule rule ∷ h) l f a = accepted_valid opening h l.0 f a
accepted_valid opening (DropRule name ∷ h) l f a = accepted_valid opening h l.0 f a

pub latest_valid : (opening : Settings) (h : History) → IsLawful opening h → (f : Fact) → Among f (latest_of h) → IsTime f.time
latest_valid opening h l f a = accepted_valid opening h l f (latest-was (accepted h) f a)

-- ---- what isn't kept lies below the raw mark

below : (x y : ℤ) → (x ≤ℤ y → ⊥) → y <ℤ x
below x y h = by_lt_z y x (λ l. l) (λ n. absurd (h n))

pub not_kept : (opening : Settings) (h : History) (waiting : List Column) (f : Fact) → is_kept (kept_from opening h waiting) f ≡ false → f.time <ℤ raw_mark opening h
not_kept opening h waiting f e =
    below (raw_mark opening h) f.time (λ m.
    let cut : ℤ = kept_from opening h waiting f.column in
    let low : cut ≤ℤ raw_mark opening h = elim (is_waiting waiting f.column) as (λ b. cond b (earlier_mark opening h) (raw_mark opening h) ≤ℤ raw_mark opening h) [ true ↦ earlier_mark-le opening h | false ↦ ≤ℤ_refl (raw_mark opening h) ] in
    true≢false (sym (le_true cut f.time (le_trans cut (raw_mark opening h) f.time low m)) ∙ e))

-- ---- a frozen part

-- the facts of a frozen part
abbrev pub frozen_facts : (Column → ℤ) → Rule → Cell → List Fact → List Fact
frozen_facts cut r k fs = filter (λ (f : Fact). is_in_cell r k f && not (is_kept cut f)) fs

-- a fact of it
pub record IsFrozenFact (opening : Settings) (h : History) (r : Rule) (k : Cell) (f : Fact) : Type 0 where
  pub there : Among f (latest_of h)
  pub rolled : is_rolled r f ≡ true
  pub cell : cell_of r f ≡ k
  pub before : f.time <ℤ raw_mark opening h

pub frozen_fact : (opening : Settings) (h : History) (waiting : List Column) (r : Rule) (k : Cell) (f : Fact) → Among f (frozen_facts (kept_from opening h waiting) r k (latest_of h)) → IsFrozenFact opening h r k f
frozen_fact opening h waiting r k f a =
    let cut : Column → ℤ = kept_from opening h waiting in
    let test : Fact → Bool = λ g. is_in_cell r k g && not (is_kept cut g) in
    let both = and_parts (is_in_cell r k f) (not (is_kept cut f)) (Among-filter_passes test f (latest_of h) a) in
    let inside = and_parts (is_rolled r f) (same_cell (cell_of r f) k) both.0 in
    record {
      there = Among-filter_was test f (latest_of h) a;
      rolled = inside.0;
      cell = same_cell-eq (cell_of r f) k inside.1;
      before = not_kept opening h waiting f (not-true (is_kept cut f) both.1);
    }

-- the time of a frozen fact
frozen_time : (opening : Settings) (h : History) (r : ImageRule) (k : Cell) → IsLawful opening h → (fs : List Fact) → ((f : Fact) → Among f fs → IsFrozenFact opening h (rule_in r) k f)
    → (p : ℤ × ℤ) → Among p (points_of fs) → IsFrozenTime (raw_mark opening h) r k.index p.0
frozen_time opening h r k lawful fs each p a =
    let s = map_back (λ (f : Fact). (f.time, f.value)) fs p a in
    let f = each s.0 s.1 in
    let time : s.0.time ≡ p.0 = ap (λ (q : ℤ × ℤ). q.0) s.2 in
    subst (IsFrozenTime (raw_mark opening h) r k.index) time (record { valid = latest_valid opening h lawful s.0 f.there; bucket = ap (λ (c : Cell). c.index) f.cell; frozen = f.before })

first_upto : (a b : ℤ) (v w : ℤ) → (a <ℤ b) ⊎ ((a ≡ b) × (v ≤ℤ w)) → a ≤ℤ b
first_upto a b v w (inl l) = omega (arith, ints)
first_upto a b v w (inr e) = let q = e.0 in omega (arith, ints)

-- some fact is there
pub frozen_some : (opening : Settings) (h : History) (waiting : List Column) (r : Rule) (c : ImageCell) → cell_part_of c ≡ frozen_of (kept_from opening h waiting) r c.cell (latest_of h) → (f : Fact) × IsFrozenFact opening h r c.cell f
frozen_some opening h waiting r c e =
    let fs : List Fact = frozen_facts (kept_from opening h waiting) r c.cell (latest_of h) in
    let is : IsAggregateOf fs (cell_part_of c) = subst (IsAggregateOf fs) (sym e) (aggregate_of-is fs) in
    let s = map_back (λ (f : Fact). (f.time, f.value)) fs c.extremes.first is.extremes.reached.first in
    (s.0, frozen_fact opening h waiting r c.cell s.0 s.1)

pub frozen_cell : (opening : Settings) (h : History) (waiting : List Column) (r : ImageRule) (low : ℤ) (c : ImageCell) → IsLawful opening h → low ≤ℤ c.cell.index → IsKeyName c.cell.field
    → cell_part_of c ≡ frozen_of (kept_from opening h waiting) (rule_in r) c.cell (latest_of h) → IsImageCell (raw_mark opening h) r low c
frozen_cell opening h waiting r low c lawful kept name e =
    let fs : List Fact = frozen_facts (kept_from opening h waiting) (rule_in r) c.cell (latest_of h) in
    let is : IsAggregateOf fs (cell_part_of c) = subst (IsAggregateOf fs) (sym e) (aggregate_of-is fs) in
    let sound : IsSound (cell_part_of c) = subst IsSound (sym e) (facts_possible fs) in
    let ends : AreExtremesOf (points_of fs) c.extremes = is.extremes in
    let each : (f : Fact) → Among f fs → IsFrozenFact opening h (rule_in r) c.cell f = λ f a. frozen_fact opening h waiting (rule_in r) c.cell f a in
    let first = ends.within c.extremes.first ends.reached.first in
    let last = ends.within c.extremes.last ends.reached.last in
    record {
      kept = kept;
      field = name;
      group = (let some = frozen_some opening h waiting (rule_in r) c e in sym (ap (λ (x : Cell). length x.group) some.1.cell) ∙ length-map r.kept_tags (tag_value some.0.column.series));
      spread = sound;
      values = le_trans c.extremes.min c.extremes.first.1 c.extremes.max first.min first.max;
      first = frozen_time opening h r c.cell lawful fs each c.extremes.first ends.reached.first;
      last = frozen_time opening h r c.cell lawful fs each c.extremes.last ends.reached.last;
      order = first_upto c.extremes.first.0 c.extremes.last.0 c.extremes.last.1 c.extremes.first.1 last.first;
      first_value = (first.min, first.max);
      last_value = (last.min, last.max);
    }

-- Facts of a query's row: exactly those whose cell is in it, in a range where the rule's cells fit the query.
use Rattle.std.proofs.lemmas.Bool.{and_right, and_parts}
use Rattle.std.proofs.Common.{◌≡◌, ℤ, pos, Bool, true, false, cond, not, ◌&&◌, List, [], ◌∷◌, ◌++◌, map, zip, refl, sym, ap, ap₂, ◌∙◌, ⊎_elim, ◌≤ℤ◌, ◌<ℤ◌, true≢false, arith}
use Rattle.std.proofs.lemmas.Int.{ints}
use Rattle.std.specs.List.{AllByRecursion, list_all}
use Rattle.std.specs.Ordering.{int_eq}
use Rattle.ts_core.specs.lists.Members.{Among}
use Rattle.ts_core.specs.facts.Facts.{Text, same_text, Series, Column, Fact, is_of, is_within}
use Rattle.ts_core.specs.settings.Settings.{Rule}
use Rattle.ts_core.specs.facts.Tags.{value_among, tag_value, tag_values}
use Rattle.ts_core.specs.queries.Queries.{Condition, Query, meets, is_selected, matches, group_of}
use Rattle.ts_core.specs.plans.Pieces.{MarkedRule, RuleServes}
use Rattle.ts_core.specs.store.Cells.{cell_of, is_rolled}
use Rattle.ts_core.specs.queries.Answers.{same_group, is_in_row}
use Rattle.ts_core.specs.plans.Assembly.{representative, in_part}
use Rattle.ts_core.proofs.facts.Ids.{same_text-eq}
use Rattle.ts_core.proofs.lists.Comparisons.{le_true, lt_true, same_text-refl}
use Rattle.ts_core.proofs.queries.Boundaries.{cell_start, within_cell, within_parts, one_bucket}

-- ---- tags

-- a kept tag has the value that the series has
kept_value : (s : Series) (kept : List Text) (tag : Text) → Among tag kept → value_among (zip kept (tag_values kept s)) tag ≡ tag_value s tag
kept_value s [] tag m = absurd m
kept_value s (x ∷ xs) tag m =
    let rest : Text = value_among (zip xs (tag_values xs s)) tag in
    elim (same_text x tag) as (λ b. same_text x tag ≡ b → cond b (tag_value s x) rest ≡ tag_value s tag) [
      | true ↦ λ e. ap (tag_value s) (same_text-eq x tag e)
      | false ↦ λ e. ⊎_elim {C = rest ≡ tag_value s tag}
          (λ k. absurd (true≢false (sym (ap (λ y. same_text x y) k ∙ same_text-refl x) ∙ e)))
          (λ k. kept_value s xs tag k) m
    ] refl

abbrev kept_series : Rule → Fact → Series
kept_series r f = record { measurement = r.measurement; tags = zip r.kept_tags (tag_values r.kept_tags f.column.series) }

same_values : (r : Rule) (f : Fact) (tags : List Text) → AllByRecursion (λ tag. Among tag r.kept_tags) tags → tag_values tags f.column.series ≡ tag_values tags (kept_series r f)
same_values r f [] a = refl
same_values r f (tag ∷ tags) a = ap₂ (λ x xs. x ∷ xs) (sym (kept_value f.column.series r.kept_tags tag a.0)) (same_values r f tags a.1)

same_meeting : (r : Rule) (f : Fact) (cs : List Condition) → AllByRecursion (λ tag. Among tag r.kept_tags) (map (λ (c : Condition). c.tag) cs) → list_all (meets f.column.series) cs ≡ list_all (meets (kept_series r f)) cs
same_meeting r f [] a = refl
same_meeting r f (c ∷ cs) a =
    ap₂ (λ x y. x && y) (ap (λ x. cond c.negated (not (same_text x c.value)) (same_text x c.value)) (sym (kept_value f.column.series r.kept_tags c.tag a.0))) (same_meeting r f cs a.1)

pub all_parts : {X : Type 0} (P : X → Type 0) (xs ys : List X) → AllByRecursion P (xs ++ ys) → AllByRecursion P xs × AllByRecursion P ys
all_parts P [] ys a = (tt, a)
all_parts P (x ∷ xs) ys a = let r = all_parts P xs ys a.1 in ((a.0, r.0), r.1)

-- ---- tests

-- in a range, tests that agree there
in_range : (x x' w w' : Bool) → w ≡ w' → (w ≡ true → x ≡ x') → x && w ≡ x' && w'
in_range x x' true w' c d = ap₂ (λ y z. y && z) (d refl) c
in_range x x' false w' c d = and_right x false refl ∙ sym (and_right x' _ (sym c))

pub wider : (a b c d t : ℤ) → c ≤ℤ a → b ≤ℤ d → is_within a b t ≡ true → is_within c d t ≡ true
wider a b c d t h k w =
    let p = within_parts a b t w in
    let x : c ≤ℤ t = let m = p.0 in omega (arith, ints) in
    let y : t <ℤ d = let m = p.1 in omega (arith, ints) in
    ap₂ (λ u v. u && v) (le_true c t x) (lt_true t d y)

-- ---- facts and their cells

module _ (q : Query) (r : MarkedRule) (a b : ℤ) (v : pos 1 ≤ℤ q.interval) (w : pos 1 ≤ℤ r.rule.interval) (s : RuleServes q r a b) (h : q.from ≤ℤ a) (l : b ≤ℤ q.to) (f : Fact) (m : is_rolled r.rule f ≡ true) where
  abbrev u : ℤ
  u = cell_start r.rule f.time

  abbrev cell_column : Column
  cell_column = record { series = kept_series r.rule f; field = f.column.field }

  tags_kept : AllByRecursion (λ tag. Among tag r.rule.kept_tags) q.group_tags × AllByRecursion (λ tag. Among tag r.rule.kept_tags) (map (λ (c : Condition). c.tag) q.conditions)
  tags_kept = all_parts (λ tag. Among tag r.rule.kept_tags) q.group_tags (map (λ (c : Condition). c.tag) q.conditions) s.tags

  selected : is_selected q f.column ≡ is_selected q cell_column
  selected =
      ap₂ (λ x y. x && y) (ap (λ z. same_text z q.measurement && same_text f.column.field q.field) (same_text-eq f.column.series.measurement r.rule.measurement m))
      (same_meeting r.rule f q.conditions tags_kept.1)

  range : is_within a b f.time ≡ is_within a b u
  range = within_cell r.rule a b f.time w s.starts s.ends

  in_query : is_within a b f.time ≡ true → is_within q.from q.to f.time ≡ is_within q.from q.to u
  in_query e = wider a b q.from q.to f.time h l e ∙ sym (wider a b q.from q.to u h l (sym range ∙ e))

  -- they are of one group
  pub same_group_of : group_of q f ≡ group_of q (representative r.rule (cell_of r.rule f))
  same_group_of = same_values r.rule f q.group_tags tags_kept.0

  -- they match alike
  pub same_match : in_part (matches q) a b f ≡ in_part (matches q) a b (representative r.rule (cell_of r.rule f))
  same_match = in_range (matches q f) (is_selected q cell_column && is_within q.from q.to u) (is_within a b f.time) (is_within a b u) range (λ e. ap₂ (λ x y. x && y) selected (in_query e))

  -- they are in the same rows
  pub same_row : (g : List Text) (k : ℤ) → in_part (is_in_row q g k) a b f ≡ in_part (is_in_row q g k) a b (representative r.rule (cell_of r.rule f))
  same_row g k =
      in_range (is_in_row q g k f) (is_in_row q g k (representative r.rule (cell_of r.rule f))) (is_within a b f.time) (is_within a b u) range
      (λ e. let p = within_parts a b f.time e in
      ap₂ (λ x y. x && y) (ap₂ (λ x y. x && y) selected (in_query e)) (ap₂ (λ x y. x && y) (ap (λ z. same_group z g) same_group_of) (ap (λ z. int_eq z k) (one_bucket r.rule q a b f.time w v s.starts s.fits p.0 p.1))))

-- a matching fact is of the query's measurement
pub matches-measurement : (q : Query) (f : Fact) → matches q f ≡ true → same_text f.column.series.measurement q.measurement ≡ true
matches-measurement q f match =
    let chosen : is_selected q f.column ≡ true = (and_parts (is_selected q f.column) (is_within q.from q.to f.time) match).0 in
    let of : is_of q.measurement q.field f.column ≡ true = (and_parts (is_of q.measurement q.field f.column) _ chosen).0 in
    (and_parts (same_text f.column.series.measurement q.measurement) _ of).0

pub in_row-matches : (q : Query) (g : List Text) (k : ℤ) (f : Fact) → is_in_row q g k f ≡ true → matches q f ≡ true
in_row-matches q g k f h = (and_parts (matches q f) _ h).0

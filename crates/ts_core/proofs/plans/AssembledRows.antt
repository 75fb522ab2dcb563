-- The row of valid pieces: the aggregate over all latest facts, as if none had ever been dropped.
use Rattle.std.proofs.lemmas.Bool.{and_right, and_parts}
use Rattle.std.proofs.Common.{◌≡◌, ℤ, pos, Bool, true, false, ◌&&◌, List, [], ◌∷◌, filter, refl, sym, ap, ap₂, ◌∙◌, subst, inl, inr, ◌≤ℤ◌, ◌<ℤ◌, int_le, int_lt, arith, Option}
use Rattle.std.proofs.lemmas.Int.{ints, by_lt_z}
use Rattle.std.specs.List.{AllByRecursion}
use Rattle.std.specs.Ordering.{int_eq}
use Rattle.ts_core.specs.lists.Members.{Among}
use Rattle.ts_core.specs.facts.Facts.{Text, Fact, is_within}
use Rattle.ts_core.specs.aggregates.Partials.{fold_by}
use Rattle.ts_core.specs.aggregates.Aggregates.{Aggregate, empty_aggregate, merged, aggregate_of}
use Rattle.ts_core.specs.aggregates.MergeLaws.{aggregate_laws}
use Rattle.ts_core.specs.settings.Settings.{Rule, Settings}
use Rattle.ts_core.specs.store.History.{History, accepted}
use Rattle.ts_core.specs.facts.Latest.{latest_of}
use Rattle.ts_core.specs.queries.Queries.{Query, is_selected, group_of}
use Rattle.ts_core.specs.queries.Answers.{same_group, is_in_row, bucket_in}
use Rattle.ts_core.specs.plans.Pieces.{Source, Raw, Rollup, Piece, query_context, SourceServes, IsValidPiece, Covers, IsValid}
use Rattle.ts_core.specs.store.Cells.{Cell, same_cell, cell_of, is_rolled, is_in_cell}
use Rattle.ts_core.specs.store.StoreStates.{facts_of, RuleCells}
use Rattle.ts_core.specs.store.Views.{ViewState, Shows, shown_total}
use Rattle.ts_core.specs.plans.Assembly.{in_part, representative, rule_shown, totals_given, aggregate_given, assembled}
use Rattle.ts_core.proofs.settings.Intervals.{IsWide}
use Rattle.ts_core.proofs.lists.MembersLemmas.{AllDistinct-filter, Among-filter_passes, Among-filter_was, Among-filter_stays, filter-none}
use Rattle.ts_core.proofs.aggregates.Folds.{fold-same}
use Rattle.ts_core.proofs.aggregates.Groups.{fold-groups}
use Rattle.ts_core.proofs.facts.Latests.{latest-distinct}
use Rattle.ts_core.proofs.lists.Comparisons.{same_bool}
use Rattle.ts_core.proofs.store.Cuts.{one_fact, aggregate_where, filter-agree, aggregate_where-agree, Part, aggregate_where-part}
use Rattle.ts_core.proofs.store.StateLemmas.{le_trans}
use Rattle.ts_core.proofs.queries.Boundaries.{within_parts}
use Rattle.ts_core.proofs.queries.CellsInRows.{same_row, in_row-matches}
use Rattle.ts_core.proofs.plans.Covered.{within_below, within_above}
use Rattle.ts_core.proofs.plans.PieceCells.{same_cell-eq, same_cell-refl, Serving, serving, index_of-high, start_of-high, is_rolled-matches}
use Rattle.ts_core.proofs.queries.AnswersLaws.{filter_both}

-- ---- a piece of raw points

raw_piece : (opening : Settings) (h : History) (seen : ViewState) → Shows opening h seen → (p : Fact → Bool) → ((f : Fact) → p f ≡ true → seen.marks.raw ≤ℤ f.time)
    → aggregate_where p (facts_of seen.columns) ≡ aggregate_where p (latest_of h)
raw_piece opening h seen s p above =
    let shown : List Fact = facts_of seen.columns in
    let all : List Fact = latest_of h in
    fold-same aggregate_laws one_fact (filter p shown) (filter p all) (AllDistinct-filter p shown s.once) (AllDistinct-filter p all (latest-distinct (accepted h)))
    (λ f k. let t = Among-filter_passes p f shown k in Among-filter_stays p f all ((s.raw f (above f t)).0 (Among-filter_was p f shown k)) t)
    (λ f k. let t = Among-filter_passes p f all k in Among-filter_stays p f shown ((s.raw f (above f t)).1 (Among-filter_was p f all k)) t)

-- ---- a piece of cells

-- a fold of what agrees on the members
fold-agree : {X : Type 0} (one two : X → Aggregate) (xs : List X) → ((x : X) → Among x xs → one x ≡ two x) → fold_by empty_aggregate merged one xs ≡ fold_by empty_aggregate merged two xs
fold-agree one two [] h = refl
fold-agree one two (x ∷ xs) h = ap₂ merged (h x (inl refl)) (fold-agree one two xs (λ y a. h y (inr a)))

-- the facts that pass are grouped by their cells
cells_piece : (q : Query) (g : List Text) (k : ℤ) (a b : ℤ) (fs : List Fact) (o : Option RuleCells) → pos 1 ≤ℤ q.interval → Serving fs q o a b → q.from ≤ℤ a → b ≤ℤ q.to
    → totals_given o (in_part (is_in_row q g k) a b) ≡ aggregate_where (in_part (is_in_row q g k) a b) fs
cells_piece q g k a b fs o v s h l =
    let y : RuleCells = s.shown in
    let rule : Rule = y.rule in
    let test : Fact → Bool = in_part (is_in_row q g k) a b in
    let xs : List Fact = filter test fs in
    let parts : (f : Fact) → test f ≡ true → (is_in_row q g k f ≡ true) × (is_within a b f.time ≡ true) = λ f p. and_parts (is_in_row q g k f) (is_within a b f.time) p in
    let rolled : (f : Fact) → test f ≡ true → is_rolled rule f ≡ true = λ f p. is_rolled-matches s f (in_row-matches q g k f (parts f p).0) in
    let alike : (f : Fact) → is_rolled rule f ≡ true → test f ≡ test (representative rule (cell_of rule f)) = λ f m. same_row q (record { rule = rule; low = y.low }) a b v s.wide s.serves h l f m g k in
    let passes : Cell → Bool = λ c. test (representative rule c) in
    let ks : List Cell = filter passes y.cells in
    let inside : (f : Fact) → Among f xs → Among (cell_of rule f) ks = λ f m.
    let p : test f ≡ true = Among-filter_passes test f fs m in
    Among-filter_stays passes (cell_of rule f) y.cells (s.totals.there f (Among-filter_was test f fs m) (rolled f p) (index_of-high s f.time (parts f p).1)) (sym (alike f (rolled f p)) ∙ p) in
    let each : (c : Cell) → Among c ks → shown_total y c ≡ aggregate_of (filter (λ f. same_cell (cell_of rule f) c) xs) = λ c m.
    let p : test (representative rule c) ≡ true = Among-filter_passes passes c y.cells m in
    let agree : (f : Fact) → (is_rolled rule f && same_cell (cell_of rule f) c) ≡ (test f && same_cell (cell_of rule f) c) = λ f.
    elim (same_cell (cell_of rule f) c) as (λ z. same_cell (cell_of rule f) c ≡ z → (is_rolled rule f && z) ≡ (test f && z)) [
      | true ↦ λ e. ap (λ z. z && true) (same_bool (is_rolled rule f) (test f) (λ m. alike f m ∙ ap (λ z. test (representative rule z)) (same_cell-eq (cell_of rule f) c e) ∙ p) (rolled f))
      | false ↦ λ e. and_right (is_rolled rule f) false refl ∙ sym (and_right (test f) false refl)
    ] refl in
    s.totals.totals c (start_of-high s c.index (parts (representative rule c) p).1)
    ∙ ap aggregate_of (filter-agree (is_in_cell rule c) (λ f. test f && same_cell (cell_of rule f) c) fs (λ f m. agree f) ∙ sym (filter_both (λ f. same_cell (cell_of rule f) c) test fs)) in
    ap (λ x. totals_given x test) s.is
    ∙ fold-agree (shown_total y) (λ c. aggregate_of (filter (λ f. same_cell (cell_of rule f) c) xs)) ks each
    ∙ sym (fold-groups aggregate_laws one_fact (cell_of rule) same_cell same_cell-eq same_cell-refl ks (AllDistinct-filter passes y.cells s.totals.once) xs inside)

-- ---- a range in two parts

part_left : (x : Bool) → Part x false x
part_left true = tt
part_left false = tt

part_right : (x : Bool) → Part false x x
part_right true = tt
part_right false = tt

pub within-part : (a c b t : ℤ) → a ≤ℤ c → c ≤ℤ b → Part (is_within a c t) (is_within c b t) (is_within a b t)
within-part a c b t l m =
    by_lt_z t c
    (λ before.
    let p : is_within a c t ≡ int_le a t = grind (arith, ints) in
    let o : is_within c b t ≡ false = grind (arith, ints) in
    let n : is_within a b t ≡ int_le a t = grind (arith, ints) in
    rw (p, o, n) (part_left (int_le a t)))
    (λ after.
    let p : is_within a c t ≡ false = grind (arith, ints) in
    let o : is_within c b t ≡ int_lt t b = grind (arith, ints) in
    let n : is_within a b t ≡ int_lt t b = grind (arith, ints) in
    rw (p, o, n) (part_right (int_lt t b)))

pub part_under : (y x z w : Bool) → Part x z w → Part (y && x) (y && z) (y && w)
part_under true x z w p = p
part_under false x z w p = tt

-- no time is within an empty range
pub never_within : (a t : ℤ) → is_within a a t ≡ false
never_within a t = by_lt_z t a (within_below a a t) (within_above a a t)

and_again : (s w t : Bool) → ((s && w) && t) && w ≡ (s && w) && t
and_again true true true = refl
and_again _ w t = refl

-- ---- all pieces

module _ (opening : Settings) (h : History) (seen : ViewState) (q : Query) (shows : Shows opening h seen) (wide : IsWide (query_context seen.settings seen.marks q)) (g : List Text) (k : ℤ) where
  abbrev row : Fact → Bool
  row = is_in_row q g k

  one_piece : (source : Source) (a b : ℤ) → SourceServes (query_context seen.settings seen.marks q) source a b → q.from ≤ℤ a → b ≤ℤ q.to → aggregate_given seen source (in_part row a b) ≡ aggregate_where (in_part row a b) (latest_of h)
  one_piece Raw a b s l m = raw_piece opening h seen shows (in_part row a b) (λ f t. le_trans seen.marks.raw a f.time s (within_parts a b f.time (and_parts (row f) (is_within a b f.time) t).1).0)
  one_piece (Rollup name) a b s l m = cells_piece q g k a b (latest_of h) (rule_shown name seen.rules) wide.query (serving opening h seen q shows wide name a b s) l m

  all_pieces : (a : ℤ) (ps : List Piece) → q.from ≤ℤ a → Covers a q.to ps → AllByRecursion (IsValidPiece (query_context seen.settings seen.marks q)) ps → assembled seen q ps g k ≡ aggregate_where (in_part row a q.to) (latest_of h)
  all_pieces a [] l c e =
      let none : (f : Fact) → in_part row a q.to f ≡ false = λ f. ap (λ x. row f && is_within a x f.time) (sym c) ∙ and_right (row f) _ (never_within a f.time) in
      sym (ap aggregate_of (filter-none (in_part row a q.to) (latest_of h) (λ f o. none f)))
  all_pieces a (p ∷ ps) l c e =
      let at : p.from ≡ a = c.0 in
      let up : p.from <ℤ p.to = c.1 in
      let from : q.from ≤ℤ p.from = subst (λ x. q.from ≤ℤ x) (sym at) l in
      let to : q.from ≤ℤ p.to = omega (arith, ints) in
      let here : p.from ≤ℤ p.to = omega (arith, ints) in
      ap₂ merged (one_piece p.source p.from p.to e.0 from c.2) (all_pieces p.to ps to c.3 e.1)
      ∙ sym (aggregate_where-part (in_part row p.from p.to) (in_part row p.to q.to) (in_part row p.from q.to) (λ f. part_under (row f) _ _ _ (within-part p.from p.to q.to f.time here c.2)) (latest_of h))
      ∙ ap (λ x. aggregate_where (in_part row x q.to) (latest_of h)) at

  -- valid pieces give each row over all latest facts
  pub assembled-row : (ps : List Piece) → IsValid seen.settings seen.marks q ps → assembled seen q ps g k ≡ aggregate_of (filter (is_in_row q g k) (latest_of h))
  assembled-row ps valid =
      all_pieces q.from ps (let e : q.from ≤ℤ q.from = omega (arith, ints) in e) valid.covers valid.each
      ∙ aggregate_where-agree (in_part row q.from q.to) row (latest_of h) (λ f o. and_again (is_selected q f.column) (is_within q.from q.to f.time) (same_group (group_of q f) g && int_eq (bucket_in q f.time) k))

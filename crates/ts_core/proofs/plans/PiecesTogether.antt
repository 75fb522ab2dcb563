-- Pieces of a row joined: each fact of the row is in exactly one of the valid pieces.
use Rattle.std.proofs.lemmas.Bool.{and_left, and_right}
use Rattle.std.proofs.Common.{◌≡◌, ℤ, ◌≤ℤ◌, int_lt, Bool, true, false, ◌&&◌, not, List, [], ◌∷◌, filter, refl, sym, ◌∙◌, ap, ap₂, arith}
use Rattle.std.proofs.lemmas.Int.{ints, by_lt_z}
use Rattle.std.specs.Ordering.{int_eq}
use Rattle.ts_core.specs.facts.Facts.{Text, Fact}
use Rattle.ts_core.specs.settings.Settings.{Settings}
use Rattle.ts_core.specs.store.Marks.{Marks}
use Rattle.ts_core.specs.aggregates.Partials.{fold_by}
use Rattle.ts_core.specs.aggregates.Aggregates.{Aggregate, aggregate_of, aggregate_of_one, empty_aggregate, merged}
use Rattle.ts_core.specs.aggregates.MergeLaws.{aggregate_laws}
use Rattle.ts_core.specs.queries.Queries.{Query, is_selected, matches, group_of}
use Rattle.ts_core.specs.queries.Answers.{bucket_in, same_group, is_in_row, row_of}
use Rattle.ts_core.specs.plans.Pieces.{Piece, Covers, IsValid}
use Rattle.ts_core.proofs.lists.MembersLemmas.{filter-none}
use Rattle.ts_core.proofs.aggregates.Folds.{fold-split}
use Rattle.ts_core.proofs.plans.Covered.{within_above, within_below}
use Rattle.ts_core.proofs.queries.AnswersLaws.{over_range, filter_both, filter_same, first_half, second_half}

-- the aggregate of the facts of a row in a part of the range
abbrev pub part_of_row : Query → List Fact → List Text → ℤ → ℤ → ℤ → Aggregate
part_of_row q fs g k a b = aggregate_of (filter (is_in_row (over_range q a b) g k) fs)

abbrev row_test : Query → List Text → ℤ → Fact → Bool
row_test q g k f = same_group (group_of q f) g && int_eq (bucket_in q f.time) k

pub last_first : (x y z : Bool) → ((x && y) && z) ≡ ((x && z) && y)
last_first true true true = refl
last_first true false true = refl
last_first _ y z = refl

-- the row of a range is that of its two halves
pub part_of_row-halves : (q : Query) (fs : List Fact) (g : List Text) (k a c b : ℤ) → a ≤ℤ c → c ≤ℤ b
    → part_of_row q fs g k a b ≡ merged (part_of_row q fs g k a c) (part_of_row q fs g k c b)
part_of_row-halves q fs g k a c b l u =
    let early : Fact → Bool = λ f. int_lt f.time c in
    let all : Fact → Bool = is_in_row (over_range q a b) g k in
    let left : filter early (filter all fs) ≡ filter (is_in_row (over_range q a c) g k) fs =
    filter_both early all fs ∙ filter_same _ _ (λ f. last_first (matches (over_range q a b) f) (row_test q g k f) (early f) ∙ ap (λ x. x && row_test q g k f) (first_half (is_selected q f.column) a c b f.time u)) fs in
    let right : filter (λ f. not (early f)) (filter all fs) ≡ filter (is_in_row (over_range q c b) g k) fs =
    filter_both (λ f. not (early f)) all fs ∙ filter_same _ _ (λ f. last_first (matches (over_range q a b) f) (row_test q g k f) (not (early f)) ∙ ap (λ x. x && row_test q g k f) (second_half (is_selected q f.column) a c b f.time l)) fs in
    fold-split aggregate_laws (λ (f : Fact). aggregate_of_one f.time f.value) early (filter all fs)
    ∙ ap₂ merged (ap aggregate_of left) (ap aggregate_of right)

-- nothing is in an empty range
nothing_at : (q : Query) (fs : List Fact) (g : List Text) (k a b : ℤ) → a ≡ b → part_of_row q fs g k a b ≡ empty_aggregate
nothing_at q fs g k a b e =
    ap aggregate_of (filter-none (is_in_row (over_range q a b) g k) fs (λ f h.
    and_left _ _ (and_right (is_selected q f.column) _ (by_lt_z f.time a (λ l. within_below a b f.time l) (λ l. within_above a b f.time (omega (arith, ints)))))))

-- and that of pieces which cover it
pub part_of_row-pieces : (q : Query) (fs : List Fact) (g : List Text) (k a b : ℤ) (ps : List Piece) → Covers a b ps
    → part_of_row q fs g k a b ≡ fold_by empty_aggregate merged (λ (p : Piece). part_of_row q fs g k p.from p.to) ps
part_of_row-pieces q fs g k a b [] c = nothing_at q fs g k a b c
part_of_row-pieces q fs g k a b (p ∷ ps) c =
    let f = c.0 in
    let l = c.1 in
    part_of_row-halves q fs g k a p.to b (omega (arith, ints)) c.2
    ∙ ap₂ merged (ap (λ z. part_of_row q fs g k z p.to) (sym f)) (part_of_row-pieces q fs g k p.to b ps c.3)

-- a row of the answer is what valid pieces hold of it, put together
pub row_of-pieces : (s : Settings) (m : Marks) (q : Query) (ps : List Piece) → IsValid s m q ps → (fs : List Fact) (g : List Text) (k : ℤ)
    → (row_of q fs g k).aggregate ≡ fold_by empty_aggregate merged (λ (p : Piece). part_of_row q fs g k p.from p.to) ps
row_of-pieces s m q ps v fs g k = part_of_row-pieces q fs g k q.from q.to ps v.covers

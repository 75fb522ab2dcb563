-- A count capped at 2^64 - 1, one column, cell or piece after another.
use Rattle.std.proofs.Common.{◌≡◌, ℕ, ◌+◌, ◌<◌, ◌≤◌, min, ℤ, true, false, cond, List, [], ◌∷◌, ◌++◌, map, filter, length, get_or, drop, sym, ◌∙◌, ap, arith}
use Rattle.std.proofs.lemmas.List.{drop_more}
use Rattle.std.specs.List.{list_all}
use Rattle.ts_core.specs.facts.Facts.{Text}
use Rattle.ts_core.specs.settings.Settings.{Rule}
use Rattle.ts_core.specs.store.Marks.{index_of}
use Rattle.ts_core.specs.queries.Queries.{Query, meets}
use Rattle.ts_core.specs.plans.Pieces.{Piece}
use Rattle.ts_core.specs.store.StoreStates.{ColumnPoints, RuleCells, total_in}
use Rattle.ts_core.specs.store.Views.{ViewState}
use Rattle.ts_core.specs.plans.Assembly.{rule_shown}
use Rattle.ts_store.specs.read.ViewResults.{ColumnRef, points_at, SeenCell, no_rule, cells_within, view_cells_at}
use Rattle.ts_exec.specs.GroupTables.{is_cell_taken}
use Rattle.ts_exec.specs.Shares.{Share, points_of_shares, column_ref_shares, column_refs_shares, cell_share, rule_shares, source_shares, pieces_shares}
use Rattle.ts_exec.proofs.NamedRules.{IsShownAt}
use Rattle.ts_exec.proofs.PointCounts.{column_ref-points, points-append}

-- the points already counted and those still to be counted
abbrev pub counted : ℕ → List Share → ℕ
counted n ss = min (points_of_shares ss + n) 18446744073709551615

more : (m n k r c : ℕ) → m ≡ n + k → c ≡ min (r + n) 18446744073709551615 → min (k + c) 18446744073709551615 ≡ min (m + r) 18446744073709551615
more m n k r c e f = omega arith

-- shares of which some have been counted
pub counted-more : (n new : ℕ) (xs ys : List Share) → new ≡ min (n + points_of_shares xs) 18446744073709551615 → counted new ys ≡ counted n (xs ++ ys)
counted-more n new xs ys e = more (points_of_shares (xs ++ ys)) (points_of_shares xs) (points_of_shares ys) n new (points-append xs ys) e

-- a column that meets the conditions
pub counted-column_ref : (q : Query) (cs : List ColumnPoints) (a b : ℤ) (s : ColumnRef) (ss : List ColumnRef) (n new : ℕ)
    → list_all (meets s.series) q.conditions ≡ true → new ≡ min (n + length (points_at cs s.number a b)) 18446744073709551615
    → counted new (column_refs_shares q cs a b ss) ≡ counted n (column_refs_shares q cs a b (s ∷ ss))
counted-column_ref q cs a b s ss n new met e =
    let own : points_of_shares (column_ref_shares q cs a b s) ≡ length (points_at cs s.number a b) = column_ref-points q cs a b s ∙ ap (λ z. cond z (length (points_at cs s.number a b)) 0) met in
    counted-more n new (column_ref_shares q cs a b s) (column_refs_shares q cs a b ss) (e ∙ ap (λ k. min (n + k) 18446744073709551615) (sym own))

-- a cell
abbrev pub taken_shares : Query → Rule → ℤ → ℤ → List SeenCell → List Share
taken_shares q r a b cs = map (cell_share q r) (filter (is_cell_taken q r a b) cs)

pub counted-cell : (q : Query) (r : Rule) (a b : ℤ) (c : SeenCell) (cs : List SeenCell) (n new : ℕ)
    → new ≡ min (n + cond (is_cell_taken q r a b c) (total_in c.parts).count 0) 18446744073709551615 → counted new (taken_shares q r a b cs) ≡ counted n (taken_shares q r a b (c ∷ cs))
counted-cell q r a b c cs n new e =
    elim (is_cell_taken q r a b c) as (λ z. new ≡ min (n + cond z (total_in c.parts).count 0) 18446744073709551615 → counted new (taken_shares q r a b cs) ≡ counted n (map (cell_share q r) (cond z (c ∷ filter (is_cell_taken q r a b) cs) (filter (is_cell_taken q r a b) cs)))) [
      | true ↦ λ f. more ((total_in c.parts).count + points_of_shares (taken_shares q r a b cs)) (total_in c.parts).count (points_of_shares (taken_shares q r a b cs)) n new (omega arith) f
      | false ↦ λ f. more (points_of_shares (taken_shares q r a b cs)) 0 (points_of_shares (taken_shares q r a b cs)) n new (omega arith) f
    ] e

-- a piece
pub counted-piece : (seen : ViewState) (q : Query) (ps : List Piece) (i : ℕ) (p : Piece) (n new : ℕ)
    → i < length ps → p ≡ get_or ps i p → new ≡ min (n + min (points_of_shares (source_shares seen q p.source p.from p.to)) 18446744073709551615) 18446744073709551615
    → counted new (pieces_shares seen q (drop (i + 1) ps)) ≡ counted n (pieces_shares seen q (drop i ps))
counted-piece seen q ps i p n new below at e =
    let next : drop i ps ≡ p ∷ drop (i + 1) ps = drop_more ps i p below ∙ ap (λ x. x ∷ drop (i + 1) ps) (sym at) in
    let f : new ≡ min (n + points_of_shares (source_shares seen q p.source p.from p.to)) 18446744073709551615 = omega arith in
    counted-more n new (source_shares seen q p.source p.from p.to) (pieces_shares seen q (drop (i + 1) ps)) f
    ∙ ap (λ xs. counted n (pieces_shares seen q xs)) (sym next)

-- none are left
pub counted-all : (n : ℕ) → n ≤ 18446744073709551615 → n ≡ counted n []
counted-all n few = omega arith

-- none is counted
pub counted-none : (ss : List Share) → counted 0 ss ≡ min (points_of_shares ss) 18446744073709551615
counted-none ss = omega arith

-- the cells of a rule that is shown
pub found-shares : (q : Query) (a b : ℤ) (name : Text) (shown : List RuleCells) (number : ℕ) (rule : Rule) → IsShownAt name shown number rule
    → taken_shares q rule a b (view_cells_at shown number (index_of rule a) (index_of rule b)) ≡ rule_shares q a b (rule_shown name shown)
found-shares q a b name shown number rule s =
    sym (ap (rule_shares q a b) s.found ∙ ap (λ r. taken_shares q r a b (cells_within (get_or shown number no_rule) (index_of r a) (index_of r b))) s.is)

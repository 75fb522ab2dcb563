-- The groups of a valid plan's joined pieces, if each row has room and each cell is small: those of the pieces one after
-- another.
use Rattle.std.proofs.Common.{◌≡◌, ℕ, zero, suc, ◌<◌, ◌^◌, ℤ, pos, ◌≤ℤ◌, true, false, cond, ◌||◌, Bool, List, [], ◌∷◌, map, length, get_or, replicate, Some, None, is_some, refl, sym, ◌∙◌, ap, ap₂, subst, ⊎_elim, ltb-true, arith}
use Rattle.std.proofs.lemmas.Bool.{and_parts}
use Rattle.std.proofs.lemmas.List.{length-replicate, get_or-replicate, same_lists}
use Rattle.std.specs.List.{list_any, list_all, AllByRecursion}
use Rattle.std.specs.FinMap.{find}
use Rattle.std.specs.FinMap.Entries.{same_entries}
use Rattle.ts_core.specs.declared.queries.value.Function.{Function}
use Rattle.ts_core.specs.facts.Facts.{Text, same_text}
use Rattle.ts_core.specs.settings.Settings.{Rule}
use Rattle.ts_core.specs.aggregates.Partials.{fold_by}
use Rattle.ts_core.specs.aggregates.Aggregates.{Aggregate, empty_aggregate}
use Rattle.ts_core.specs.queries.Queries.{Query}
use Rattle.ts_core.specs.queries.Answers.{group_cmp, same_group}
use Rattle.ts_core.specs.queries.Fills.{filled}
use Rattle.ts_core.specs.plans.Pieces.{Source, Piece, MarkedRule, marked_rules, query_context, rule_named, SourceServes, IsValidPiece, IsValid, IsBoundary}
use Rattle.ts_core.specs.plans.Assembly.{rule_shown}
use Rattle.ts_core.specs.store.StoreStates.{RuleCells, rule_of}
use Rattle.ts_core.specs.store.Views.{ViewState}
use Rattle.ts_core.proofs.queries.GroupsInOrder.{groups_total, exact_groups}
use Rattle.ts_raw.proofs.TagLemmas.{same_member}
use Rattle.ts_exec.specs.declared.aggregate_parts.AggregateParts.{AggregateParts}
use Rattle.ts_exec.specs.declared.aggregate_parts.AggregateParts.TheVariants.{Whole}
use Rattle.ts_exec.specs.GroupTables.{Table, rows_or, rows_for, width, group_with, with_pieces, given}
use Rattle.ts_exec.specs.JoinedPieces.{joined_onto, joined_pieces, has_room, have_room, have_small_parts, AreGroupsOf}
use Rattle.ts_exec.specs.Selections.{suffice, HaveSameValues}
use Rattle.ts_exec.specs.Shares.{Share, with_shares, pieces_shares}
use Rattle.ts_exec.proofs.Entries.{shown_some}
use Rattle.ts_exec.proofs.Joining.{HasBoundaries, HaveBoundaries, joined_same, joined_held}
use Rattle.ts_exec.proofs.Linked.{pieces-put}
use Rattle.ts_exec.proofs.PartsTaken.{selected-values, whole-room}
use Rattle.ts_exec.proofs.Shares.{shares-table, rows-after, length-rows_after, held_at, held-after, found-after}

-- ---- rows that have room

row_room : (rows : List Aggregate) (j : ℕ) → list_all has_room rows ≡ true → (get_or rows j empty_aggregate).count < 2 ^ 61
row_room [] j h = omega arith
row_room (a ∷ rows) zero h = ltb-true a.count (2 ^ 61) (and_parts (has_room a) (list_all has_room rows) h).0
row_room (a ∷ rows) (suc j) h = row_room rows j (and_parts (has_room a) (list_all has_room rows) h).1

room_at : (n : ℕ) (g : List Text) (j : ℕ) (t : Table) → j < n → have_room t ≡ true → (get_or (rows_for n g t) j empty_aggregate).count < 2 ^ 61
room_at n g j [] l h = subst (λ (a : Aggregate). a.count < 2 ^ 61) (sym (get_or-replicate n j empty_aggregate empty_aggregate l)) (omega arith)
room_at n g j (e ∷ t) l h =
    let both = and_parts (list_all has_room e.1) (have_room t) h in
    elim (same_group g e.0) as (λ b. (get_or (rows_or n (cond b (Some e.1) (find group_cmp g t))) j empty_aggregate).count < 2 ^ 61) [
      | true ↦ row_room e.1 j both.0
      | false ↦ room_at n g j t l both.1
    ]

-- ---- tables of shares

module _ (n : ℕ) (g : List Text) where
  rows_length : (ss : List Share) → length (rows_for n g (with_shares n ss [])) ≡ n
  rows_length ss = ap length (rows-after n g ss []) ∙ length-rows_after g ss (replicate n empty_aggregate) ∙ length-replicate n empty_aggregate

  row_held : (j : ℕ) (ss : List Share) → j < n → get_or (rows_for n g (with_shares n ss [])) j empty_aggregate ≡ held_at g j ss empty_aggregate
  row_held j ss l =
      ap (λ xs. get_or xs j empty_aggregate) (rows-after n g ss [])
      ∙ held-after g j ss (replicate n empty_aggregate) (subst (λ m. j < m) (sym (length-replicate n empty_aggregate)) l)
      ∙ ap (held_at g j ss) (get_or-replicate n j empty_aggregate empty_aggregate l)

  same_rows : (xs ys : List Share) → ((j : ℕ) → j < n → held_at g j xs empty_aggregate ≡ held_at g j ys empty_aggregate) → rows_for n g (with_shares n xs []) ≡ rows_for n g (with_shares n ys [])
  same_rows xs ys h =
      same_lists (rows_for n g (with_shares n xs [])) (rows_for n g (with_shares n ys [])) (rows_length xs ∙ sym (rows_length ys)) (λ j d l.
      let m : j < n = subst (λ k. j < k) (rows_length xs) l in
      let k : j < length (rows_for n g (with_shares n ys [])) = subst (λ i. j < i) (sym (rows_length ys)) m in
      same_member (rows_for n g (with_shares n xs [])) j d empty_aggregate l
      ∙ row_held j xs m ∙ h j m ∙ sym (row_held j ys m)
      ∙ same_member (rows_for n g (with_shares n ys [])) j empty_aggregate d k)

-- shares of the same groups, with the same buckets
same_tables : (n : ℕ) (xs ys : List Share) → ((g : List Text) → list_any (λ (s : Share). same_group g s.group) xs ≡ list_any (λ (s : Share). same_group g s.group) ys)
    → ((g : List Text) (j : ℕ) → j < n → held_at g j xs empty_aggregate ≡ held_at g j ys empty_aggregate) → with_shares n xs [] ≡ with_shares n ys []
same_tables n xs ys groups held =
    let t : Table = with_shares n xs [] in
    let u : Table = with_shares n ys [] in
    same_entries group_cmp groups_total exact_groups t u (shares-table n xs [] tt) (shares-table n ys [] tt) (λ g.
    let there : is_some (find group_cmp g t) ≡ is_some (find group_cmp g u) = found-after n g xs [] ∙ ap (λ b. b || false) (groups g) ∙ sym (found-after n g ys []) in
    shown_some n (find group_cmp g t)
    ∙ ap₂ (λ (b : Bool) (rows : List Aggregate). cond b (Some rows) None) there (same_rows n g xs ys (held g))
    ∙ sym (shown_some n (find group_cmp g u)))

-- ---- joined pieces

any_is : (g : List Text) (ss : List Share) → list_any (λ (s : Share). same_group g s.group) ss ≡ fold_by false (λ x y. x || y) (λ (s : Share). same_group g s.group) ss
any_is g [] = refl
any_is g (s ∷ ss) = ap (λ b. same_group g s.group || b) (any_is g ss)

or_comm : (x y : Bool) → (x || y) ≡ (y || x)
or_comm true true = refl
or_comm true false = refl
or_comm false true = refl
or_comm false false = refl

or_assoc : (x y z : Bool) → ((x || y) || z) ≡ (x || (y || z))
or_assoc true y z = refl
or_assoc false y z = refl

module _ (seen : ViewState) (q : Query) where
  same_groups : (p : Piece) (bs : List Piece) → HaveBoundaries seen (p ∷ bs) → (g : List Text) → list_any (λ (s : Share). same_group g s.group) (pieces_shares seen q (joined_onto p bs)) ≡ list_any (λ (s : Share). same_group g s.group) (pieces_shares seen q (p ∷ bs))
  same_groups p bs bounds g =
      any_is g (pieces_shares seen q (joined_onto p bs))
      ∙ joined_same false (λ x y. x || y) (λ x. refl) or_comm or_assoc (λ (s : Share). same_group g s.group) seen q p bs bounds
      ∙ sym (any_is g (pieces_shares seen q (p ∷ bs)))

  joined-whole : (ps : List Piece) → HaveBoundaries seen ps → have_room (with_pieces Whole seen q (joined_pieces ps) []) ≡ true → have_small_parts seen (joined_pieces ps) ≡ true → with_pieces Whole seen q (joined_pieces ps) [] ≡ with_pieces Whole seen q ps []
  joined-whole [] bounds h small = refl
  joined-whole (p ∷ bs) bounds h small =
      let n : ℕ = width q in
      let joint : List Share = pieces_shares seen q (joined_onto p bs) in
      let put = pieces-put seen q (joined_onto p bs) [] tt in
      let room : have_room (with_shares n joint []) ≡ true = subst (λ t. have_room t ≡ true) put h in
      put
      ∙ same_tables n joint (pieces_shares seen q (p ∷ bs)) (same_groups p bs bounds) (λ g j l.
      joined_held g j seen q p bs empty_aggregate bounds small (subst (λ (a : Aggregate). a.count < 2 ^ 61) (row_held n g j joint l) (room_at n g j (with_shares n joint []) l room)))
      ∙ sym (pieces-put seen q (p ∷ bs) [] tt)

-- ---- the pieces of a valid plan start and end at boundaries of their rules

abbrev IsWideRule : Rule → Type 0
IsWideRule r = pos 1 ≤ℤ r.interval

record IsShown (rs : List RuleCells) (name : Text) (m : MarkedRule) : Type 0 where
  shown : RuleCells
  is : rule_shown name rs ≡ Some shown
  same : m.rule ≡ shown.rule
  wide : IsWideRule shown.rule

none_named : (m : MarkedRule) → None ≡ Some m → ⊥
none_named m e = cc

one_named : (x m : MarkedRule) → Some x ≡ Some m → x ≡ m
one_named x m e = cc

named_shown : (name : Text) (rs : List RuleCells) (lows : List ℤ) (m : MarkedRule) → AllByRecursion IsWideRule (map rule_of rs) → rule_named name (marked_rules (map rule_of rs) lows) ≡ Some m → IsShown rs name m
named_shown name [] lows m wide e = absurd (none_named m e)
named_shown name (y ∷ ys) [] m wide e = absurd (none_named m e)
named_shown name (y ∷ ys) (low ∷ lows) m wide e =
    let first : MarkedRule = record { rule = y.rule; low = low } in
    elim (same_text y.rule.name name) as (λ b. same_text y.rule.name name ≡ b → cond b (Some first) (rule_named name (marked_rules (map rule_of ys) lows)) ≡ Some m → IsShown (y ∷ ys) name m) [
      | true ↦ λ t k. record { shown = y; is = ap (λ b. cond b (Some y) (rule_shown name ys)) t; same = ap (λ (x : MarkedRule). x.rule) (sym (one_named first m k)); wide = wide.0 }
      | false ↦ λ t k.
          let found = named_shown name ys lows m wide.1 k in
          record { shown = found.shown; is = ap (λ b. cond b (Some y) (rule_shown name ys)) t ∙ found.is; same = found.same; wide = found.wide }
    ] refl e

module _ (seen : ViewState) (q : Query) (rules : map rule_of seen.rules ≡ seen.settings.rules) (wide : AllByRecursion IsWideRule seen.settings.rules) where
  serves_boundaries : (s : Source) (a b : ℤ) → SourceServes (query_context seen.settings seen.marks q) s a b → HasBoundaries seen s a b
  serves_boundaries s a b serves name e =
      let by = subst (λ (z : Source). SourceServes (query_context seen.settings seen.marks q) z a b) e serves in
      let named : rule_named name (marked_rules (map rule_of seen.rules) seen.marks.lows) ≡ Some by.0 = ap (λ rs. rule_named name (marked_rules rs seen.marks.lows)) rules ∙ by.1 in
      let found = named_shown name seen.rules seen.marks.lows by.0 (subst (AllByRecursion IsWideRule) (sym rules) wide) named in
      let starts = subst (λ (r : Rule). IsBoundary r a) found.same by.2.starts in
      let ends = subst (λ (r : Rule). IsBoundary r b) found.same by.2.ends in
      (found.shown, found.is, record { wide = found.wide; starts = starts; ends = ends })

  valid_boundaries : (ps : List Piece) → AllByRecursion (IsValidPiece (query_context seen.settings seen.marks q)) ps → HaveBoundaries seen ps
  valid_boundaries [] each = tt
  valid_boundaries (p ∷ ps) each = (serves_boundaries p.source p.from p.to each.0, valid_boundaries ps each.1)

  -- ---- the groups that are given

  pub groups-whole : (ps : List Piece) (t : Table) → IsValid seen.settings seen.marks q ps → AreGroupsOf Whole seen q ps t → t ≡ with_pieces Whole seen q ps []
  groups-whole ps t valid h =
      ⊎_elim {C = t ≡ with_pieces Whole seen q ps []} (λ e. e)
      (λ e. e.0 ∙ joined-whole seen q ps (valid_boundaries ps valid.each) (subst (λ u. have_room u ≡ true) e.0 e.1) e.2)
      h

  pub groups-values : (parts : AggregateParts) (fs : List Function) → list_all (suffice parts) fs ≡ true → (ps : List Piece) (t : Table) → IsValid seen.settings seen.marks q ps → AreGroupsOf parts seen q ps t → HaveSameValues fs (map (group_with q) t) (given seen q ps)
  groups-values parts fs enough ps t valid h =
      ⊎_elim {C = HaveSameValues fs (map (group_with q) t) (given seen q ps)}
      (λ e fill. ap (λ (u : Table). filled fill fs (map (group_with q) u)) e ∙ selected-values parts fs enough seen q ps fill)
      (λ e fill.
      ap (λ (u : Table). filled fill fs (map (group_with q) u)) e.0
      ∙ selected-values parts fs enough seen q (joined_pieces ps) fill
      ∙ ap (λ (u : Table). filled fill fs (map (group_with q) u)) (joined-whole seen q ps (valid_boundaries ps valid.each) (whole-room parts seen q (joined_pieces ps) (subst (λ u. have_room u ≡ true) e.0 e.1)) e.2))
      h

-- The effect of freezing a column's points on each cell.
use Rattle.ts_core.proofs.lists.MembersLemmas.{filter-none, map_back}
use Rattle.ts_core.proofs.lists.Comparisons.{and_true}
use Rattle.std.proofs.lemmas.Bool.{and_right, false_from_ne_true}
use Rattle.std.proofs.Common.{◌≡◌, ℤ, ◌+◌, ◌≤◌, ◌^◌, Bool, true, false, cond, not, ◌&&◌, ◌||◌, List, [], ◌∷◌, ◌++◌, length, filter, map, refl, sym, ◌∙◌, ap, ap₂, subst, inl, inr, ⊎_elim, int_le, int_lt, arith, Option, Some, None, is_some, is_eq, T, Less, Equal, Greater}
use Rattle.std.proofs.lemmas.Int.{ints}
use Rattle.std.specs.FinMap as finmap
use Rattle.std.specs.FinMap.{find, put, is_sorted, get-insert, entries-insert, get-entries}
use Rattle.std.proofs.lemmas.Option.{none-some}
use Rattle.ts_core.proofs.aggregates.AggregatesLemmas.{merged_within-fits}
use Rattle.ts_core.proofs.lists.Places.{both_of, less_of}
use Rattle.std.specs.FinMap.Entries.{by_order, below_all}
use Rattle.std.proofs.lemmas.List.{append-nil}
use Rattle.ts_core.specs.lists.Members.{Among, AllDistinct}
use Rattle.ts_core.specs.facts.Facts.{Column, Fact}
use Rattle.ts_core.specs.settings.Settings.{Rule}
use Rattle.ts_core.specs.aggregates.Aggregates.{Aggregate, empty_aggregate, merged, aggregate_of_one, aggregate_of_points, merged_within}
use Rattle.ts_core.specs.aggregates.MergeLaws.{aggregate_laws}
use Rattle.ts_core.specs.store.RawFacts.{same_column}
use Rattle.ts_core.specs.store.Cells.{Cell, cell_cmp, same_cell, cell_of, total_of}
use Rattle.ts_core.specs.store.StoreStates.{ColumnPoints, CellParts, fact_at, column_of, facts_at, facts_of}
use Rattle.ts_core.proofs.plans.PieceCells.{cells_total, same_cell-eq}
use Rattle.ts_core.proofs.store.Moves.{is_left}
use Rattle.ts_core.proofs.store.RunSteps.{filter-append}
use Rattle.ts_core.proofs.store.ColumnFacts.{column_there}
use Rattle.ts_core.proofs.store.StateLemmas.{same_column-refl, same_column-eq}
use Rattle.std.specs.List.{list_any}
use Rattle.ts_core.specs.store.TwoParts.{in_frozen, with_live}
use Rattle.ts_core.specs.lists.Changes.{changed, with_change, or_else}
use Rattle.ts_core.specs.store.StoreData.{CellMap, no_parts}
use Rattle.ts_core.specs.moves.StoreMoves.{frozen_points, refolded, refolded_points, points_below}

-- ---- maps

pub changed_here : (m : CellMap) (q k : Cell) (f : CellParts → CellParts) (a : CellParts) → same_cell k q ≡ true → finmap.get m k ≡ Some a → finmap.get (changed m q f) k ≡ Some (f a)
changed_here m q k f a e g =
    let there : finmap.get m q ≡ Some a = ap (finmap.get m) (sym (same_cell-eq k q e)) ∙ g in
    ap (λ o. finmap.get (with_change m q f o) k) there ∙ get-insert cells_total m q (f a) k ∙ ap (λ b. cond b (Some (f a)) (finmap.get m k)) e

pub changed_else : (m : CellMap) (q k : Cell) (f : CellParts → CellParts) → same_cell k q ≡ false → finmap.get (changed m q f) k ≡ finmap.get m k
changed_else m q k f e =
    elim (finmap.get m q) as (λ o. finmap.get (with_change m q f o) k ≡ finmap.get m k) [
      | None ↦ refl
      | Some x ↦ get-insert cells_total m q (f x) k ∙ ap (λ b. cond b (Some (f x)) (finmap.get m k)) e
    ]

pub changed_none : (m : CellMap) (q k : Cell) (f : CellParts → CellParts) → finmap.get m k ≡ None → finmap.get (changed m q f) k ≡ None
changed_none m q k f g =
    elim (same_cell k q) as (λ b. same_cell k q ≡ b → finmap.get (changed m q f) k ≡ None) [
      | true ↦ λ e. ap (λ o. finmap.get (with_change m q f o) k) (ap (finmap.get m) (sym (same_cell-eq k q e)) ∙ g) ∙ g
      | false ↦ λ e. changed_else m q k f e ∙ g
    ] refl

-- a changed map has the same keys
find_before : (k x : Cell) (es : List (Cell × CellParts)) → T (below_all cell_cmp x es) → cell_cmp k x ≡ Less → find cell_cmp k es ≡ None
find_before k x [] b l = refl
find_before k x (e ∷ es) b l =
    let p = both_of _ _ b in
    ap (λ o. cond (is_eq o) (Some e.1) (find cell_cmp k es)) (cells_total.trans k x e.0 l (less_of _ p.0)) ∙ find_before k x es p.1 l

put_keys : (k : Cell) (v : CellParts) (es : List (Cell × CellParts)) (a : CellParts) → find cell_cmp k es ≡ Some a → T (is_sorted cell_cmp es) → map (λ (e : Cell × CellParts). e.0) (put cell_cmp k v es) ≡ map (λ (e : Cell × CellParts). e.0) es
put_keys k v [] a h s = absurd (none-some a h)
put_keys k v (e ∷ es) a h s =
    elim (cell_cmp k e.0) as (λ o. cell_cmp k e.0 ≡ o → map (λ (x : Cell × CellParts). x.0) (by_order o ((k, v) ∷ e ∷ es) ((e.0, v) ∷ es) (e ∷ put cell_cmp k v es)) ≡ e.0 ∷ map (λ (x : Cell × CellParts). x.0) es) [
      | Less ↦ λ q. absurd (none-some a (sym (ap (λ o. cond (is_eq o) (Some e.1) (find cell_cmp k es)) q ∙ find_before k e.0 es (both_of _ _ s).0 q) ∙ h))
      | Equal ↦ λ q. refl
      | Greater ↦ λ q. ap (λ ks. e.0 ∷ ks) (put_keys k v es a (sym (ap (λ o. cond (is_eq o) (Some e.1) (find cell_cmp k es)) q) ∙ h) (both_of _ _ s).1)
    ] refl

pub keys_changed : (m : CellMap) (q : Cell) (f : CellParts → CellParts) → finmap.keys (changed m q f) ≡ finmap.keys m
keys_changed m q f =
    elim (finmap.get m q) as (λ o. finmap.get m q ≡ o → finmap.keys (with_change m q f o) ≡ finmap.keys m) [
      | None ↦ λ e. refl
      | Some x ↦ λ e. ap (map (λ (y : Cell × CellParts). y.0)) (entries-insert cells_total m q (f x)) ∙ put_keys q (f x) (finmap.entries m) x (sym (get-entries m q) ∙ e) (finmap.entries_sorted m)
    ] refl

-- what a choice of maps has, if both have it
pub cond_as : {X : Type 0} (read : CellMap → X) (b : Bool) (n m : CellMap) → read n ≡ read m → read (cond b n m) ≡ read m
cond_as read true n m e = e
cond_as read false n m e = refl

-- ---- points

abbrev pub in_points : Rule → Column → Cell → ℤ × ℤ → Bool
in_points r c k p = same_cell k (cell_of r (fact_at c p))

pub frozen_gives : (r : Rule) (c : Column) (k : Cell) (ps : List (ℤ × ℤ)) (m : CellMap) (a : CellParts) → finmap.get m k ≡ Some a → a.frozen.count + length (filter (in_points r c k) ps) ≤ 2 ^ 62
    → finmap.get (frozen_points r c ps m) k ≡ Some (record { frozen = merged a.frozen (aggregate_of_points (filter (in_points r c k) ps)); live = a.live })
frozen_gives r c k [] m a g h =
    let e : a.frozen ≡ merged a.frozen empty_aggregate = sym (aggregate_laws.unit a.frozen) ∙ aggregate_laws.comm empty_aggregate a.frozen in
    g ∙ ap Some (λ i. record { frozen = e i; live = a.live })
frozen_gives r c k (p ∷ ps) m a g h =
    let q : Cell = cell_of r (fact_at c p) in
    let part : Aggregate = aggregate_of_one p.0 p.1 in
    let f : CellParts → CellParts = in_frozen (merged_within part) in
    let m' : CellMap = changed m q f in
    let rest : List (ℤ × ℤ) = filter (in_points r c k) ps in
    elim (same_cell k q) as (λ b. same_cell k q ≡ b → a.frozen.count + length (cond b (p ∷ rest) rest) ≤ 2 ^ 62
    → finmap.get (frozen_points r c ps m') k ≡ Some (record { frozen = merged a.frozen (aggregate_of_points (cond b (p ∷ rest) rest)); live = a.live })) [
      | true ↦ λ e few.
          let fits : merged_within part a.frozen ≡ merged a.frozen part = merged_within-fits part a.frozen (omega arith) in
          let here : finmap.get m' k ≡ Some (record { frozen = merged a.frozen part; live = a.live }) = changed_here m q k f a e g ∙ ap Some (λ i. record { frozen = fits i; live = a.live }) in
          let together = aggregate_laws.assoc a.frozen part (aggregate_of_points rest) in
          frozen_gives r c k ps m' (record { frozen = merged a.frozen part; live = a.live }) here (omega arith)
          ∙ ap Some (λ i. record { frozen = together i; live = a.live })
      | false ↦ λ e few. frozen_gives r c k ps m' a (changed_else m q k f e ∙ g) few
    ] refl h

pub frozen_none : (r : Rule) (c : Column) (k : Cell) (ps : List (ℤ × ℤ)) (m : CellMap) → finmap.get m k ≡ None → finmap.get (frozen_points r c ps m) k ≡ None
frozen_none r c k [] m g = g
frozen_none r c k (p ∷ ps) m g =
    let f : CellParts → CellParts = in_frozen (merged_within (aggregate_of_one p.0 p.1)) in
    frozen_none r c k ps (changed m (cell_of r (fact_at c p)) f) (changed_none m (cell_of r (fact_at c p)) k f g)

-- what no change of a frozen part touches
frozen_as : {X : Type 0} (read : CellMap → X) → ((m : CellMap) (q : Cell) (part : Aggregate) → read (changed m q (in_frozen (merged_within part))) ≡ read m) → (r : Rule) (c : Column) (ps : List (ℤ × ℤ)) (m : CellMap)
    → read (frozen_points r c ps m) ≡ read m
frozen_as read same r c [] m = refl
frozen_as read same r c (p ∷ ps) m =
    let q : Cell = cell_of r (fact_at c p) in
    let part : Aggregate = aggregate_of_one p.0 p.1 in
    frozen_as read same r c ps (changed m q (in_frozen (merged_within part))) ∙ same m q part

pub keys_frozen : (r : Rule) (c : Column) (ps : List (ℤ × ℤ)) (m : CellMap) → finmap.keys (frozen_points r c ps m) ≡ finmap.keys m
keys_frozen = frozen_as finmap.keys (λ m q part. keys_changed m q (in_frozen (merged_within part)))

-- ---- live parts

abbrev pub frozen_in : Option CellParts → Aggregate
frozen_in o = (or_else no_parts o).frozen

abbrev pub live_in : Option CellParts → Aggregate
live_in o = (or_else no_parts o).live

-- the cell of one of the points is this one
abbrev pub any_in : Rule → Column → Cell → List (ℤ × ℤ) → Bool
any_in r c k ps = list_any (in_points r c k) ps

-- a part that a change leaves alone
pub changed_as : {X : Type 0} (read : Option CellParts → X) (f : CellParts → CellParts) → ((a : CellParts) → read (Some (f a)) ≡ read (Some a)) → (m : CellMap) (q k : Cell)
    → read (finmap.get (changed m q f) k) ≡ read (finmap.get m k)
changed_as read f same m q k =
    elim (finmap.get m k) as (λ o. finmap.get m k ≡ o → read (finmap.get (changed m q f) k) ≡ read o) [
      | None ↦ λ e. ap read (changed_none m q k f e)
      | Some a ↦ λ e. elim (same_cell k q) as (λ b. same_cell k q ≡ b → read (finmap.get (changed m q f) k) ≡ read (Some a)) [
        | true ↦ λ s. ap read (changed_here m q k f a s e) ∙ same a
        | false ↦ λ s. ap read (changed_else m q k f s ∙ e)
      ] refl
    ] refl

-- the live parts stay
pub frozen_live : (r : Rule) (c : Column) (k : Cell) (ps : List (ℤ × ℤ)) (m : CellMap) → live_in (finmap.get (frozen_points r c ps m) k) ≡ live_in (finmap.get m k)
frozen_live r c k = frozen_as (λ m. live_in (finmap.get m k)) (λ m q part. changed_as live_in (in_frozen (merged_within part)) (λ a. refl) m q k) r c

-- and each cell is there or not, as it was
pub frozen_some : (r : Rule) (c : Column) (k : Cell) (ps : List (ℤ × ℤ)) (m : CellMap) → is_some (finmap.get (frozen_points r c ps m) k) ≡ is_some (finmap.get m k)
frozen_some r c k = frozen_as (λ m. is_some (finmap.get m k)) (λ m q part. changed_as is_some (in_frozen (merged_within part)) (λ a. refl) m q k) r c

-- a refolding leaves the frozen parts, and which cells there are
pub refolded_frozen : (r : Rule) (c : Column) (k : Cell) (facts : List Fact) (ps : List (ℤ × ℤ)) (m : CellMap) → frozen_in (finmap.get (refolded_points r c ps facts m) k) ≡ frozen_in (finmap.get m k)
refolded_frozen r c k facts [] m = refl
refolded_frozen r c k facts (p ∷ ps) m =
    let q : Cell = cell_of r (fact_at c p) in
    refolded_frozen r c k facts ps (refolded r q facts m) ∙ changed_as frozen_in (with_live (total_of r q facts)) (λ a. refl) m q k

pub keys_refolded : (r : Rule) (c : Column) (facts : List Fact) (ps : List (ℤ × ℤ)) (m : CellMap) → finmap.keys (refolded_points r c ps facts m) ≡ finmap.keys m
keys_refolded r c facts [] m = refl
keys_refolded r c facts (p ∷ ps) m =
    let q : Cell = cell_of r (fact_at c p) in
    keys_refolded r c facts ps (refolded r q facts m) ∙ keys_changed m q (with_live (total_of r q facts))

-- the cell of one of the points gets what is left, and another keeps what it has
pub refolded_live : (r : Rule) (c : Column) (k : Cell) (facts : List Fact) (ps : List (ℤ × ℤ)) (m : CellMap)
    → (any_in r c k ps ≡ true → finmap.get m k ≡ None → ⊥) → (any_in r c k ps ≡ false → live_in (finmap.get m k) ≡ total_of r k facts)
    → live_in (finmap.get (refolded_points r c ps facts m) k) ≡ total_of r k facts
refolded_live r c k facts [] m there else_same = else_same refl
refolded_live r c k facts (p ∷ ps) m there else_same =
    let q : Cell = cell_of r (fact_at c p) in
    let f : CellParts → CellParts = with_live (total_of r q facts) in
    elim (same_cell k q) as (λ b. same_cell k q ≡ b → (b || any_in r c k ps ≡ true → finmap.get m k ≡ None → ⊥) → (b || any_in r c k ps ≡ false → live_in (finmap.get m k) ≡ total_of r k facts)
    → live_in (finmap.get (refolded_points r c ps facts (changed m q f)) k) ≡ total_of r k facts) [
      | true ↦ λ s t u. elim (finmap.get m k) as (λ o. finmap.get m k ≡ o → live_in (finmap.get (refolded_points r c ps facts (changed m q f)) k) ≡ total_of r k facts) [
        | None ↦ λ g. absurd (t refl g)
        | Some a ↦ λ g.
            let now = changed_here m q k f a s g in
            refolded_live r c k facts ps (changed m q f) (λ y n. none-some (f a) (sym n ∙ now)) (λ y. ap live_in now ∙ ap (λ (x : Cell). total_of r x facts) (sym (same_cell-eq k q s)))
      ] refl
      | false ↦ λ s t u.
          let now = changed_else m q k f s in
          refolded_live r c k facts ps (changed m q f) (λ y n. t y (sym now ∙ n)) (λ y. ap live_in now ∙ u y)
    ] refl there else_same

-- ---- the facts removed, of all that are kept

not_same : (c d : Column) → (c ≡ d → ⊥) → same_column c d ≡ false
not_same c d n = false_from_ne_true (same_column c d) (λ e. n (same_column-eq c d e))

module _ (c : Column) (mark : ℤ) (p : Fact → Bool) where
  abbrev goes : Fact → Bool
  goes f = p f && not (is_left c mark f)

  other_stays : (d : Column) (ps : List (ℤ × ℤ)) → same_column d c ≡ false → filter goes (facts_at d ps) ≡ []
  other_stays d ps e =
      filter-none goes (facts_at d ps) (λ f a. let at : same_column f.column c ≡ false = ap (λ (g : Fact). same_column g.column c) (sym (map_back (fact_at d) ps f a).2) ∙ e in
      and_right (p f) _ (ap (λ b. not (not b || int_le mark f.time)) at))

  own_goes : (ps : List (ℤ × ℤ)) → filter goes (facts_at c ps) ≡ filter p (facts_at c (points_below mark ps))
  own_goes [] = refl
  own_goes (x ∷ ps) =
      let f : Fact = fact_at c x in
      let rest : List (ℤ × ℤ) = points_below mark ps in
      ap₂ (λ b zs. cond b (f ∷ zs) zs) (ap (λ b. p f && not (not b || int_le mark x.0)) (same_column-refl c) ∙ ap (λ b. p f && b) (let n : not (int_le mark x.0) ≡ int_lt x.0 mark = grind (arith, ints) in n)) (own_goes ps)
      ∙ elim (int_lt x.0 mark) as (λ b. cond (p f && b) (f ∷ filter p (facts_at c rest)) (filter p (facts_at c rest)) ≡ filter p (facts_at c (cond b (x ∷ rest) rest))) [
        | true ↦ ap (λ b. cond b (f ∷ filter p (facts_at c rest)) (filter p (facts_at c rest))) (and_true (p f))
        | false ↦ ap (λ b. cond b (f ∷ filter p (facts_at c rest)) (filter p (facts_at c rest))) (and_right (p f) false refl)
      ]

  others_stay : (ss : List ColumnPoints) → (Among c (map column_of ss) → ⊥) → filter goes (facts_of ss) ≡ []
  others_stay [] n = refl
  others_stay (s ∷ ss) n =
      filter-append goes (facts_at s.column s.points) (facts_of ss)
      ∙ ap₂ (λ xs ys. xs ++ ys) (other_stays s.column s.points (not_same s.column c (λ e. n (inl (sym e))))) (others_stay ss (λ a. n (inr a)))

  -- of all facts that are kept, those of the column below the mark are removed
  pub gone_held : (ss : List ColumnPoints) (ps : List (ℤ × ℤ)) → AllDistinct (map column_of ss) → Among (record { column = c; points = ps }) ss
      → filter goes (facts_of ss) ≡ filter p (facts_at c (points_below mark ps))
  gone_held [] ps d a = absurd a
  gone_held (s ∷ ss) ps d a =
      filter-append goes (facts_at s.column s.points) (facts_of ss)
      ∙ ⊎_elim {C = filter goes (facts_at s.column s.points) ++ filter goes (facts_of ss) ≡ filter p (facts_at c (points_below mark ps))}
      (λ e.
      let own : filter goes (facts_at s.column s.points) ≡ filter p (facts_at c (points_below mark ps)) =
      ap (λ (x : ColumnPoints). filter goes (facts_at x.column x.points)) (sym e) ∙ own_goes ps in
      ap₂ (λ xs ys. xs ++ ys) own (others_stay ss (subst (λ (x : ColumnPoints). Among x.column (map column_of ss) → ⊥) (sym e) d.0)) ∙ append-nil _)
      (λ b. ap₂ (λ xs ys. xs ++ ys) (other_stays s.column s.points (not_same s.column c (λ e. d.0 (subst (λ x. Among x (map column_of ss)) (sym e) (column_there ss (record { column = c; points = ps }) b))))) (gone_held ss ps d.1 b)) a

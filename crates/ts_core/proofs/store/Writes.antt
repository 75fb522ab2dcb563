-- The effect of an accepted fact: on the points of one column, and on the live part of one cell of each rule.
use Rattle.std.proofs.lemmas.Bool.{and_right, not_from_false, false_from_ne_true}
use Rattle.std.proofs.Common.{◌≡◌, ℤ, Bool, true, false, cond, not, ◌&&◌, List, [], ◌∷◌, filter, map, refl, sym, ◌∙◌, ap, ap₂, subst, inl, inr, ◌⊎◌, ⊎_elim, true≢false, int_le, ◌≤ℤ◌, length, ◌+◌, add-one}
use Rattle.std.specs.List.{AllZip}
use Rattle.ts_core.specs.lists.Members.{Among}
use Rattle.ts_core.specs.facts.Facts.{Series, Column, Fact, Id, id_of, same_id}
use Rattle.ts_core.specs.settings.Settings.{Rule, Settings}
use Rattle.ts_core.specs.store.History.{History, Line, accepted, IsLawful}
use Rattle.ts_core.specs.facts.Latest.{others, latest}
use Rattle.ts_core.specs.aggregates.Aggregates.{aggregate_of}
use Rattle.ts_core.specs.store.RawFacts.{kept_from, is_kept}
use Rattle.ts_core.specs.store.Cells.{Cell, cell_of, is_rolled, is_in_cell, frozen_of, live_of}
use Rattle.ts_core.specs.store.StoreStates.{ColumnPoints, RuleCells, StoreState, StandsFor, HasCells, column_of, rule_of, lowest_of, facts_of}
use Rattle.ts_core.proofs.lists.MembersLemmas.{Among-filter_passes, Among-filter_was, Among-filter_stays, filter-filter}
use Rattle.ts_core.proofs.facts.Ids.{same_id-eq}
use Rattle.ts_core.proofs.facts.Latests.{latest-distinct}
use Rattle.ts_core.proofs.store.Cuts.{aggregate_where, Holds, live_of-held}
use Rattle.ts_core.proofs.store.Moves.{FactsToo, ColumnsToo, IsWritten, written}
use Rattle.ts_core.proofs.store.StateLemmas.{AllZip-all, AllZip-maps, is_kept-above, Holds-raw_of, StandsFor-Holds, HasCells-as}

-- a test of the id alone
abbrev pub OfId : (Fact → Bool) → Type 0
OfId p = (f g : Fact) → id_of f ≡ id_of g → p f ≡ p g

abbrev pub is_other : Fact → Fact → Bool
is_other f g = not (same_id (id_of g) (id_of f))

-- where the fact fails a test of its id, new or replaced, the aggregate of what is latest stays
pub aggregate_where-untouched : (p : Fact → Bool) (fs : List Fact) (f : Fact) → OfId p → p f ≡ false → aggregate_where p (latest (f ∷ fs)) ≡ aggregate_where p (latest fs)
aggregate_where-untouched p fs f o e =
    ap (λ b. aggregate_of (cond b (f ∷ filter p (others f (latest fs))) (filter p (others f (latest fs))))) e
    ∙ ap aggregate_of (filter-filter p (is_other f) (λ g t.
    not_from_false _ (false_from_ne_true _ (λ s. true≢false (sym t ∙ o g f (same_id-eq (id_of g) (id_of f) s) ∙ e)))) (latest fs))

is_kept-id : (cut : Column → ℤ) → OfId (is_kept cut)
is_kept-id cut f g e = ap (λ (i : Id). int_le (cut i.column) i.time) e

and-id : (p q : Fact → Bool) → OfId p → OfId q → OfId (λ (f : Fact). p f && q f)
and-id p q a b f g e = ap₂ (λ x y. x && y) (a f g e) (b f g e)

is_in_cell-id : (r : Rule) (k : Cell) → OfId (is_in_cell r k)
is_in_cell-id r k f g e = ap (λ (i : Id). is_in_cell r k (record { column = i.column; time = i.time; value = f.value })) e

-- a raw fact leaves each frozen part
pub frozen_of-stays : (cut : Column → ℤ) (fs : List Fact) (f : Fact) → is_kept cut f ≡ true → (r : Rule) (k : Cell) → frozen_of cut r k (latest (f ∷ fs)) ≡ frozen_of cut r k (latest fs)
frozen_of-stays cut fs f e r k =
    aggregate_where-untouched (λ (g : Fact). is_in_cell r k g && not (is_kept cut g)) fs f
    (and-id (is_in_cell r k) (λ (g : Fact). not (is_kept cut g)) (is_in_cell-id r k) (λ g k e. ap not (is_kept-id cut g k e))) (and_right (is_in_cell r k f) _ (ap not e))

-- and each live part but that of its own cell
pub live_of-stays : (cut : Column → ℤ) (fs : List Fact) (f : Fact) (r : Rule) (k : Cell) → is_in_cell r k f ≡ false → live_of cut r k (latest (f ∷ fs)) ≡ live_of cut r k (latest fs)
live_of-stays cut fs f r k e =
    aggregate_where-untouched (λ (g : Fact). is_in_cell r k g && is_kept cut g) fs f
    (and-id (is_in_cell r k) (is_kept cut) (is_in_cell-id r k) (is_kept-id cut)) (ap (λ x. x && is_kept cut f) e)

-- the facts in columns after a write
pub Holds-written : (cut : Column → ℤ) (fs before after : List Fact) (f : Fact) → is_kept cut f ≡ true
    → FactsToo before after f (is_other f) → Holds cut (latest fs) before → Holds cut (latest (f ∷ fs)) after
Holds-written cut fs before after f t too s = record {
  once = too.once;
  all = λ g a k. ⊎_elim {C = Among g after}
      (λ e. subst (λ x. Among x after) (sym e) too.new)
      (λ q. too.stays g (s.all g (Among-filter_was (is_other f) g (latest fs) q) k) (Among-filter_passes (is_other f) g (latest fs) q))
      a;
  only = λ g a. ⊎_elim {C = ((g ≡ f) ⊎ Among g (others f (latest fs))) × (is_kept cut g ≡ true)}
      (λ e. (inl e, ap (is_kept cut) e ∙ t))
      (λ q. let n = s.only g q.0 in (inr (Among-filter_stays (is_other f) g (latest fs) n.0 q.1), n.1))
      (too.only g a);
}

written_cells : (cut : Column → ℤ) (fs : List Fact) (f : Fact) (after : List ColumnPoints) → is_kept cut f ≡ true → Holds cut (latest (f ∷ fs)) (facts_of after)
    → (r y : RuleCells) → IsWritten f after r y → HasCells cut (latest fs) r → HasCells cut (latest (f ∷ fs)) y
written_cells cut fs f after raw held r y t p =
    HasCells-as cut (latest (f ∷ fs)) r y t.rule t.low (record {
      once = t.once;
      there = λ g a m l. ⊎_elim {C = Among (cell_of r.rule g) y.cells}
          (λ e. subst (λ x. Among (cell_of r.rule x) y.cells) (sym e) (t.new (ap (is_rolled r.rule) (sym e) ∙ m) (subst (λ x. r.low ≤ℤ (cell_of r.rule x).index) e l)))
          (λ q. t.stays (cell_of r.rule g) (p.there g (Among-filter_was (is_other f) g (latest fs) q) m l)) a;
      frozen = λ k l. t.frozen k l ∙ p.frozen k l ∙ sym (frozen_of-stays cut fs f raw r.rule k);
      live = λ k l. elim (is_in_cell r.rule k f) as (λ b. is_in_cell r.rule k f ≡ b → (y.parts k).live ≡ live_of cut r.rule k (latest (f ∷ fs))) [
        | true ↦ λ e. t.live_here k l e ∙ sym (live_of-held cut (latest (f ∷ fs)) (facts_of after) held (latest-distinct (f ∷ fs)) r.rule k)
        | false ↦ λ e. t.live_elsewhere k l e ∙ p.live k l ∙ sym (live_of-stays cut fs f r.rule k e)
      ] refl;
    })

-- a line of one fact
pub write_stands : (opening : Settings) (h : History) (s : StoreState) (f : Fact) (series : List Series) (columns : List ColumnPoints) (rules : List RuleCells) → StandsFor opening h s
    → IsLawful opening (Line (f ∷ []) ∷ h) → ColumnsToo s.columns columns f → ((c : Column) → Among c (map column_of columns) → Among c.series series)
    → FactsToo (facts_of s.columns) (facts_of columns) f (is_other f) → AllZip (IsWritten f columns) s.rules rules
    → StandsFor opening (Line (f ∷ []) ∷ h) (written series columns rules s)
write_stands opening h s f series columns rules st lawful there registered too t =
    let cut : Column → ℤ = kept_from opening h s.waiting in
    let fs : List Fact = accepted h in
    let raw : is_kept cut f ≡ true = is_kept-above opening h s.waiting f lawful.1.0.raw in
    let held : Holds cut (latest (f ∷ fs)) (facts_of columns) = Holds-written cut fs (facts_of s.columns) (facts_of columns) f raw too (StandsFor-Holds opening h s st) in
    record {
      lawful = lawful;
      settings = st.settings;
      marks = st.marks;
      accepted = ap (λ n. n + 1) st.accepted ∙ add-one (length (accepted h));
      running = st.running;
      waiting_once = st.waiting_once;
      waiting_there = λ c a. there.stays c (st.waiting_there c a);
      idle = st.idle;
      columns_once = there.once;
      columns_there = λ g a. ⊎_elim {C = Among g.column (map column_of columns)}
          (λ e. subst (λ (x : Fact). Among x.column (map column_of columns)) (sym e) there.new)
          (λ q. there.stays g.column (st.columns_there g (Among-filter_was (is_other f) g (latest fs) q))) a;
      registered = registered;
      once = held.once;
      raw = λ g. Holds-raw_of opening (Line (f ∷ []) ∷ h) s.waiting (facts_of columns) held g;
      rules = sym (AllZip-maps (IsWritten f columns) rule_of rule_of (λ r y k. k.rule) s.rules rules t) ∙ st.rules;
      lows = sym (AllZip-maps (IsWritten f columns) lowest_of lowest_of (λ r y k. k.low) s.rules rules t) ∙ st.lows;
      rolled = AllZip-all (IsWritten f columns) (HasCells cut (latest fs)) (HasCells cut (latest (f ∷ fs))) (λ r y k p. written_cells cut fs f columns raw held r y k p) s.rules rules t st.rolled;
    }

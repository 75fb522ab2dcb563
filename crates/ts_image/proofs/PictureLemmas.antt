-- A store created from the picture of another: it is that store read back.
use Rattle.std.proofs.Common.{◌≡◌, ◌↔◌, ℕ, zero, suc, ℤ, ◌≤ℤ◌, ◌<◌, Bool, true, false, List, [], ◌∷◌, map, refl, sym, ◌∙◌, ap, subst, arith, inl, inr, ◌⊎◌, ⊎_elim}
use Rattle.ts_core.specs.lists.Members.{Among}
use Rattle.ts_core.specs.facts.Facts.{Fact}
use Rattle.ts_core.specs.settings.Settings.{Rule, Settings}
use Rattle.ts_core.specs.store.Marks.{Marks}
use Rattle.ts_core.specs.store.Cells.{Cell}
use Rattle.ts_core.specs.store.StoreStates.{ColumnPoints, facts_of}
use Rattle.ts_core.specs.store.StoreData.{CellMap, RuleData, StoreData, store_settings, store_marks, StaysFor}
use Rattle.ts_core.proofs.store.StateLemmas.{same_head, same_rest, cons_not}
use Rattle.ts_core.specs.io.ReadingAhead.{bit}
use Rattle.ts_store.specs.image.Building.{HasCellsOf, HaveCells}
use Rattle.ts_image.specs.Images.{ImageCell, ImageData}
use Rattle.ts_image.specs.Pictures.{part_at, PicturesCells, PictureCells, IsPictureOf, IsMadeOf}
use Rattle.ts_image.specs.Reloading.{HaveSameParts, IsReloaded}
use Rattle.ts_image.proofs.ReloadLemmas.{facts_same, reloads}

-- some or none
none_or_some : (n : ℕ) → (n ≡ 0) ⊎ (0 < n)
none_or_some zero = inl refl
none_or_some (suc n) = inr (omega arith)

-- the pictured part of a cell is that of both
same_part : (low : ℤ) (m n : CellMap) (cells : List ImageCell) → PicturesCells low m cells → PicturesCells low n cells → (k : Cell) → low ≤ℤ k.index → part_at n k ≡ part_at m k
same_part low m n cells p q k l =
    ⊎_elim {C = part_at n k ≡ part_at m k}
    (λ none.
    ⊎_elim {C = part_at n k ≡ part_at m k}
    (λ neither. q.sound k l neither ∙ sym (p.sound k l none))
    (λ some. let c = q.all k l some in sym (ap (part_at n) c.2) ∙ q.each c.0 c.1 ∙ sym (p.each c.0 c.1) ∙ ap (part_at m) c.2)
    (none_or_some (part_at n k).count))
    (λ some. let c = p.all k l some in sym (ap (part_at n) c.2) ∙ q.each c.0 c.1 ∙ sym (p.each c.0 c.1) ∙ ap (part_at m) c.2)
    (none_or_some (part_at m k).count)

same_parts : (facts facts' : List Fact) (rs ss : List RuleData) (cs : List (List ImageCell)) → ((f : Fact) → Among f facts → Among f facts') → map (λ (a : RuleData). a.rule) ss ≡ map (λ (a : RuleData). a.rule) rs → map (λ (a : RuleData). a.low) ss ≡ map (λ (a : RuleData). a.low) rs
    → PictureCells rs cs → PictureCells ss cs → HaveCells facts' ss → HaveSameParts facts rs ss
same_parts facts facts' [] [] [] into rules lows p q h = tt
same_parts facts facts' (x ∷ rs) (y ∷ ss) (c ∷ cs) into rules lows p q h =
    let names : RuleData → Rule = λ a. a.rule in
    let firsts : RuleData → ℤ = λ a. a.low in
    let rule : y.rule ≡ x.rule = same_head y.rule x.rule (map names ss) (map names rs) rules in
    let low : y.low ≡ x.low = same_head y.low x.low (map firsts ss) (map firsts rs) lows in
    let there = subst (λ (z : RuleData). HasCellsOf facts' z.rule z.low y.cells) (λ i. record { rule = rule i; low = low i; cells = y.cells }) h.0 in (
      (rule, low, record { parts = same_part x.low x.cells y.cells c p.0 (subst (λ (z : ℤ). PicturesCells z y.cells c) low q.0); there = λ f a. there f (into f a) }),
      same_parts facts facts' rs ss cs into (same_rest y.rule x.rule (map names ss) (map names rs) rules) (same_rest y.low x.low (map firsts ss) (map firsts rs) lows) p.1 q.1 h.1,
    )
same_parts facts facts' [] (y ∷ ss) cs into rules lows p q h = absurd (cons_not rules)
same_parts facts facts' (x ∷ rs) [] cs into rules lows p q h = absurd (cons_not (sym rules))
same_parts facts facts' [] [] (c ∷ cs) into rules lows p q h = absurd p
same_parts facts facts' (x ∷ rs) (y ∷ ss) [] into rules lows p q h = absurd p

same_bit : (a b : Bool) → bit a ≡ bit b → a ≡ b
same_bit true true e = refl
same_bit false false e = refl
same_bit true false e = absurd (omega arith)
same_bit false true e = absurd (omega arith)

-- through the picture there and back
through : {X Y Z : Type 0} → (X ↔ Y) → (X ↔ Z) → (Z ↔ Y)
through a b = (λ z. a.0 (b.1 z), λ y. b.0 (a.1 y))

pub read_back : (k n : StoreData) (d : ImageData) → IsPictureOf k d → IsMadeOf d n → IsReloaded k n
read_back k n d p m =
    let q = m.picture in
    let settings : store_settings n ≡ store_settings k = sym q.settings ∙ p.settings in
    let marks : store_marks n ≡ store_marks k = sym q.marks ∙ p.marks in
    let columns : (c : ColumnPoints) → Among c n.columns ↔ Among c k.columns = λ c. through (p.columns c) (q.columns c) in
    record {
      settings = settings;
      marks = marks;
      running = same_bit n.running k.running (sym q.runs ∙ p.runs);
      accepted = sym q.accepted ∙ p.accepted;
      waiting_once = m.waiting_once;
      waiting = λ c. through (p.waiting c) (q.waiting c);
      series = λ s a. (q.series s).0 ((p.series s).1 a);
      columns_once = m.columns_once;
      columns = columns;
      cells = same_parts (facts_of k.columns) (facts_of n.columns) k.rules n.rules d.cells (facts_same k.columns n.columns (λ c a. (columns c).1 a)) (ap (λ (x : Settings). x.rules) settings) (ap (λ (x : Marks). x.lows) marks) p.cells q.cells m.has_cells;
      live = m.live;
    }

-- so it represents each history that the other one represented
pub pictured_stands : (k n : StoreData) (d : ImageData) → IsPictureOf k d → IsMadeOf d n → StaysFor k n
pictured_stands k n d p m = reloads k n (read_back k n d p m)

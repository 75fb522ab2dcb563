-- Texts of replies, part by part.
use Rattle.std.proofs.Common.{◌≡◌, ℕ, ◌+◌, Bool, true, nat_lt, List, [], ◌∷◌, ◌++◌, length, map, codes, Result, Ok, Err, is_ok, OnOk, if◌then◌else◌, refl, sym, ap, false, ◌∙◌, subst, append_assoc, append-nil, arith}
use Rattle.std.proofs.lemmas.Bool.{lt-ltb}
use Rattle.std.proofs.lemmas.Grind.{flat_map-append}
use Rattle.std.specs.Fmt.{decimal}
use Rattle.std.specs.List.{flat_map}
use Rattle.serde_json.proofs.OnLiterals.{serde_json_on_literals}
use Rattle.serde_json.specs.Data.{Data, array, Items, no_items, item}
use Rattle.serde_json.specs.View.{items_of}
use Rattle.serde_json.specs.Written.{comma_if, compact_text, items_text}
use Rattle.ts_core.specs.facts.Facts.{Text}
use Rattle.ts_core.specs.queries.Fills.{FilledGroup}
use Rattle.ts_ql.specs.Selects.{Select}
use Rattle.ts_reply.specs.AppendedData.{AppendsData, AppendsItems, IsArray}
use Rattle.ts_reply.specs.declared.epoch.Epoch.{Epoch}
use Rattle.ts_reply.specs.Outcomes.{Outcome, Rows}
use Rattle.ts_reply.specs.Replies.{AreEach, IsSeriesData, IsResultData, AreResults, TellsOutcomes, results_data, result_of}
use Rattle.ts_reply.proofs.Each.{each_more}

-- a text that was pushed, where it was
pub if_pushed : {T E : Type 0} (r : Result T E) (new pushed old : Text) → new ≡ (if is_ok r then pushed else old) → OnOk r (new ≡ pushed)
if_pushed (Ok x) new pushed old e = e
if_pushed (Err x) new pushed old e = tt

-- ---- items

-- each after a comma
abbrev pub behind_commas : List Data → Text
behind_commas ds = flat_map (λ (d : Data). 44 ∷ compact_text d) ds

items_closed : (ds : List Data) → items_text true (items_of ds) ≡ behind_commas ds ++ 93 ∷ []
items_closed [] = refl
items_closed (d ∷ ds) = ap (λ (t : Text). 44 ∷ (compact_text d ++ t)) (items_closed ds) ∙ ap (λ (t : Text). 44 ∷ t) (sym (append_assoc (compact_text d) (behind_commas ds) (93 ∷ [])))

-- of all elements some are left, and the text of the others was appended
pub record IsTold {X : Type 0} (Is : X → Data → Type 0) (all left : List X) (old new : Text) : Type 0 where
  pub done : List X
  pub told : List Data
  pub parts : done ++ left ≡ all
  pub each : AreEach Is done (items_of told)
  pub appended : new ≡ old ++ behind_commas told

pub none_told : {X : Type 0} (Is : X → Data → Type 0) (all left : List X) (old : Text) → left ≡ all → IsTold Is all left old old
none_told Is all left old e = record { done = []; told = []; parts = e; each = tt; appended = sym (append-nil old) }

comma_regrouped : (o t c : Text) → ((o ++ t) ++ codes ",") ++ c ≡ o ++ (t ++ ((44 ∷ c) ++ []))
comma_regrouped o t c = simp (append_assoc, append-nil)

pub one_more_told : {X : Type 0} (Is : X → Data → Type 0) (all : List X) (x : X) (left : List X) (old new comma newer : Text)
    → IsTold Is all (x ∷ left) old new → comma ≡ new ++ codes "," → AppendsData (Is x) comma newer → IsTold Is all left old newer
one_more_told {X} Is all x left old new comma newer t e a = record {
  done = t.done ++ x ∷ [];
  told = t.told ++ a.told ∷ [];
  parts = append_assoc t.done (x ∷ []) left ∙ t.parts;
  each = each_more Is t.done t.told x a.told t.each a.is;
  appended = a.appended ∙ ap (λ (y : Text). y ++ compact_text a.told) (e ∙ ap (λ (y : Text). y ++ codes ",") t.appended)
      ∙ comma_regrouped old (behind_commas t.told) (compact_text a.told) ∙ ap (λ (y : Text). old ++ y) (sym (flat_map-append (λ (d : Data). 44 ∷ compact_text d) t.told (a.told ∷ [])));
}

pub all_told : {X : Type 0} (Is : X → Data → Type 0) (all : List X) (old new newer : Text) → IsTold Is all [] old new → newer ≡ new ++ codes "]" → AppendsItems (AreEach Is all) true old newer
all_told {X} Is all old new newer t e = record {
  told = items_of t.told;
  are = subst (λ (xs : List X). AreEach Is xs (items_of t.told)) (sym (append-nil t.done) ∙ t.parts) t.each;
  appended = e ∙ ap (λ (y : Text). y ++ codes "]") t.appended ∙ append_assoc old (behind_commas t.told) (codes "]") ∙ ap (λ (y : Text). old ++ y) (sym (items_closed t.told));
}

pub bracket_regrouped : (o c t : Text) → ((o ++ codes "[") ++ c) ++ t ≡ o ++ (91 ∷ (c ++ t))
bracket_regrouped o c t = simp append_assoc

pub array_appended : {X : Type 0} (Is : X → Data → Type 0) (x : X) (xs : List X) (old a b new : Text)
    → a ≡ old ++ codes "[" → AppendsData (Is x) a b → AppendsItems (AreEach Is xs) true b new
    → AppendsData (IsArray (AreEach Is (x ∷ xs))) old new
array_appended Is x xs old a b new e first others = record {
  told = array (item first.told others.told);
  is = record { items = item first.told others.told; are = (first.is, others.are); is = refl };
  appended = others.appended ∙ ap (λ (y : Text). y ++ items_text true others.told) (first.appended ∙ ap (λ (y : Text). y ++ compact_text first.told) e)
      ∙ bracket_regrouped old (compact_text first.told) (items_text true others.told);
}

pub no_items_appended : {X : Type 0} (Is : X → Data → Type 0) (all : List X) (old new : Text) → all ≡ [] → new ≡ old ++ codes "[]" → AppendsData (IsArray (AreEach Is all)) old new
no_items_appended {X} Is all old new none e = record {
  told = array no_items;
  is = record { items = no_items; are = subst (λ (xs : List X). AreEach Is xs no_items) (sym none) tt; is = refl };
  appended = e;
}

-- ---- results

with_series : (d : Data) (n : ℕ) → compact_text (result_of (codes "series") d n) ≡ codes "{\"series\":" ++ (compact_text d ++ (codes ",\"statement_id\":" ++ (decimal n ++ codes "}")))
unfolding serde_json_on_literals
with_series d n = refl

rows_regrouped : (o p q r s t : Text) → ((((o ++ p) ++ q) ++ r) ++ s) ++ t ≡ o ++ (p ++ (q ++ (r ++ (s ++ t))))
rows_regrouped o p q r s t = simp append_assoc

pub rows_appended : (epoch : Epoch) (n : ℕ) (s : Select) (g : FilledGroup) (gs : List FilledGroup) (old a b c d new : Text)
    → a ≡ old ++ codes "{\"series\":" → AppendsData (IsArray (AreEach (IsSeriesData epoch s) (g ∷ gs))) a b
    → c ≡ b ++ codes ",\"statement_id\":" → d ≡ c ++ decimal n → new ≡ d ++ codes "}" → AppendsData (IsResultData epoch n (Rows s (g ∷ gs))) old new
rows_appended epoch n s g gs old a b c d new ea series ec ed e = record {
  told = result_of (codes "series") series.told n;
  is = (series.is.items, series.is.are, ap (λ (x : Data). result_of (codes "series") x n) series.is.is);
  appended = e ∙ ap (λ (x : Text). x ++ codes "}") (ed ∙ ap (λ (x : Text). x ++ decimal n) (ec ∙ ap (λ (x : Text). x ++ codes ",\"statement_id\":") (series.appended ∙ ap (λ (x : Text). x ++ compact_text series.told) ea)))
      ∙ rows_regrouped old (codes "{\"series\":") (compact_text series.told) (codes ",\"statement_id\":") (decimal n) (codes "}") ∙ ap (λ (x : Text). old ++ x) (sym (with_series series.told n));
}

pub none_appended : {X : Type 0} (told : X → Outcome) (epoch : Epoch) (n : ℕ) (later : Bool) (xs : List X) (old new : Text)
    → length xs ≡ 0 → new ≡ old ++ codes "]" → AppendsItems (AreResults epoch n (map told xs)) later old new
none_appended told epoch n later [] old new none e = record { told = no_items; are = tt; appended = e }
none_appended told epoch n later (x ∷ xs) old new none e = absurd (omega (arith, none))

later_true : (n : ℕ) → nat_lt 0 (n + 1) ≡ true
later_true n = lt-ltb 0 (n + 1) (omega arith)

result_regrouped : (o k c t : Text) → ((o ++ k) ++ c) ++ t ≡ o ++ (k ++ (c ++ t))
result_regrouped o k c t = simp append_assoc

pub one_more_appended : (epoch : Epoch) (n : ℕ) (o : Outcome) (os : List Outcome) (old comma new newer : Text)
    → comma ≡ old ++ comma_if (nat_lt 0 n) → AppendsData (IsResultData epoch n o) comma new → AppendsItems (AreResults epoch (n + 1) os) (nat_lt 0 (n + 1)) new newer
    → AppendsItems (AreResults epoch n (o ∷ os)) (nat_lt 0 n) old newer
one_more_appended epoch n o os old comma new newer e first others = record {
  told = item first.told others.told;
  are = (first.is, others.are);
  appended = others.appended ∙ ap (λ (later : Bool). new ++ items_text later others.told) (later_true n) ∙ ap (λ (x : Text). x ++ items_text true others.told) (first.appended ∙ ap (λ (x : Text). x ++ compact_text first.told) e)
      ∙ result_regrouped old (comma_if (nat_lt 0 n)) (compact_text first.told) (items_text true others.told);
}

reply_closed : (ds : Items) → compact_text (results_data ds) ≡ (codes "{\"results\":[" ++ items_text false ds) ++ codes "}"
unfolding serde_json_on_literals
reply_closed ds = refl

pub reply_told : (epoch : Epoch) (os : List Outcome) (a b new : Text) → a ≡ codes "{\"results\":[" → AppendsItems (AreResults epoch 0 os) false a b → new ≡ b ++ codes "}" → TellsOutcomes epoch os new
reply_told epoch os a b new ea results e =
    (results.told, results.are, e ∙ ap (λ (x : Text). x ++ codes "}") (results.appended ∙ ap (λ (x : Text). x ++ items_text false results.told) ea) ∙ sym (reply_closed results.told))

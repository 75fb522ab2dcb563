use Rattle.std.proofs.Common.{◌≡◌, ℕ, List, [], ◌∷◌, ◌++◌, length, cond, is_ok, Result, inl, inr, refl, sym, ◌∙◌, ap, subst, rules}
use Rattle.std.proofs.lemmas.Result.{err_from_is_err_and}
use Rattle.ts_core.specs.lists.Members.{Among}
use Rattle.ts_core.specs.facts.Facts.{Text, Series}
use Rattle.ts_core.specs.text.Texts.{borrowed_pairs}
use Rattle.ts_raw.specs.Hashes.{hash_of_series}
use Rattle.ts_raw.specs.Registering.{IsRegistered}
use Rattle.ts_raw.specs.TagChains.{IsSeriesTable, AllLead}
use Rattle.ts_raw.proofs.TagLemmas.{tagged_still, tagged_more}
use Rattle.ts_raw.specs.declared.index.fault.IndexFault.{IndexFault}
use Rattle.ts_core.specs.lists.Numbered.{IsAt}
use Rattle.ts_core.specs.lists.Tables.{IsTable}
use Rattle.ts_core.proofs.lists.NumberedLemmas.{at_among, at_end}
use Rattle.ts_core.proofs.lists.TableLemmas.{table_more}
use Rattle.ts_raw.proofs.index.series.SeriesTable.register_by_hash.Given.{Over}
use Rattle.ts_raw.proofs.index.series.SeriesTable.register_by_hash.Goals as goal

pub returns-in-Some-clause-registered : goal.returns-in-Some-clause-registered
returns-in-Some-clause-registered g c =
    let found : IsAt c.args.self.now c.in-Some.series c.args.key.now =
    subst (λ (xs : List Series). IsAt xs c.in-Some.series c.args.key.now) (c.as_slice.ensures.value ∙ c.self.view_is) c.in-Some.ensures.found in
    record {
      number = search rules;
      gains = inl (at_among c.args.self.now c.in-Some.series c.args.key.now found, refl);
      known = search rules;
      kept = search rules;
    }

pub returns-in-Some-clause-full : goal.returns-in-Some-clause-full
returns-in-Some-clause-full g c =
    let key : Series = c.args.key.now in
    let found : IsAt c.args.self.now c.in-Some.series key =
    subst (λ (xs : List Series). IsAt xs c.in-Some.series key) (c.as_slice.ensures.value ∙ c.self.view_is) c.in-Some.ensures.found in
    (λ e. absurd (cc), λ p. absurd (p.1 (at_among c.args.self.now c.in-Some.series key found)))

-- the key is after the others
pushed : (g : Over) (c : goal.After-unwrap-2 g) → c.push-2.new.self.items ≡ c.self.inside.keys.items ++ c.args.key.now ∷ []
pushed g c =
    let before : List Series = c.self.inside.keys.items in
    c.push-2.ensures.items ∙ ap (λ r. cond (is_ok r) (c.reserve.new.self.items ++ c.in_ok-copy.copy ∷ []) c.reserve.new.self.items) c.unwrap.ensures
    ∙ ap (λ (xs : List Series). xs ++ c.in_ok-copy.copy ∷ []) c.in_ok-reserve.ensures.items ∙ ap (λ (x : Series). before ++ x ∷ []) c.in_ok-copy.ensures

pub invariant_of-self-in_err-push : goal.invariant_of-self-in_err-push
invariant_of-self-in_err-push g c =
    let before : List Series = c.self.inside.keys.items in
    subst (λ (xs : List Series). IsSeriesTable c.self.inside.seed xs c.push.new.self c.push_all.new.self) (sym c.in_ok-reserve.ensures.items)
    (subst (λ (hs : List ℕ). IsSeriesTable c.self.inside.seed before hs c.push_all.new.self) (sym c.in_err-push.ensures.err)
    record { table = c.self.invariant.table; tagged = tagged_still c.self.inside.seed before c.self.inside.tags c.push_all.new.self c.self.invariant.tagged c.in_ok-push_all.ensures.kept })

pub invariant_of-self-2 : goal.invariant_of-self-2
invariant_of-self-2 g c =
    let key : Series = c.args.key.now in
    let before : List Series = c.self.inside.keys.items in
    let hashes : List ℕ = c.self.inside.chains in
    let absent : Among key before → ⊥ = subst (λ (xs : List Series). Among key xs → ⊥) c.as_slice.ensures.value c.in_default.ensures.absent in
    let hashed : c.push.new.self ≡ hashes ++ hash_of_series c.self.inside.seed key ∷ [] = c.in_ok-push.ensures.ok ∙ ap (λ n. hashes ++ n ∷ []) c.hash_series-hash.ensures in
    let number : c.in_ok-number.number ≡ length before = search rules in
    let lead : AllLead c.self.inside.seed c.push_all.new.self key.measurement key.tags (length before) =
    subst (λ n. AllLead c.self.inside.seed c.push_all.new.self key.measurement key.tags n) number
    (subst (λ (ts : List (Text × Text)). AllLead c.self.inside.seed c.push_all.new.self key.measurement ts c.in_ok-number.number) c.tags.ensures
    (subst (λ (m : Text). AllLead c.self.inside.seed c.push_all.new.self m (borrowed_pairs c.tags.result.now) c.in_ok-number.number) c.measurement.ensures c.in_ok-push_all.ensures.ok)) in
    subst (λ (xs : List Series). IsSeriesTable c.self.inside.seed xs c.push.new.self c.push_all.new.self) (sym (pushed g c)) (record {
      table = subst (IsTable (hash_of_series c.self.inside.seed) (before ++ key ∷ [])) (sym hashed) (table_more (hash_of_series c.self.inside.seed) before hashes key c.self.invariant.table absent);
      tagged = tagged_more c.self.inside.seed before c.self.inside.tags c.push_all.new.self c.self.invariant.tagged c.in_ok-push_all.ensures.kept key lead;
    })

pub returns-in_err-push-clause-registered : goal.returns-in_err-push-clause-registered
returns-in_err-push-clause-registered g c =
    let before : List Series = c.args.self.now in
    let p = err_from_is_err_and c.from_residual-in_err-push.result c.from_residual-in_err-push.ensures.1 in
    subst (λ (r : Result ℕ IndexFault). IsRegistered before c.reserve.new.self.items r c.args.key.now) (sym p.1) (record {
      number = tt;
      gains = tt;
      known = λ there. absurd (subst (λ (xs : List Series). Among c.args.key.now xs → ⊥) (c.as_slice.ensures.value ∙ c.self.view_is) c.in_default.ensures.absent there);
      kept = c.in_ok-reserve.ensures.items ∙ c.self.view_is;
    })

pub returns-clause-registered : goal.returns-clause-registered
returns-clause-registered g c =
    let key : Series = c.args.key.now in
    let before : List Series = c.self.inside.keys.items in
    let number : c.in_ok-number.number ≡ length before = search rules in
    record {
      number = subst (λ (xs : List Series). IsAt xs c.in_ok-number.number key) (sym (pushed g c)) (subst (λ n. IsAt (before ++ key ∷ []) n key) (sym number) (at_end before key));
      gains = inr (subst (λ (xs : List Series). Among key xs → ⊥) (c.as_slice.ensures.value ∙ c.self.view_is) c.in_default.ensures.absent, pushed g c ∙ ap (λ (xs : List Series). xs ++ key ∷ []) c.self.view_is);
      known = search rules;
      kept = search rules;
    }

pub returns-clause-once : goal.returns-clause-once
returns-clause-once g c = (invariant_of-self-2 g c).table.once

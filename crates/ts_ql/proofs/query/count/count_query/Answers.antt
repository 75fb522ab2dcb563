use Rattle.std.proofs.Common.{◌≡◌, ◌∙◌, ap, sym, ℤ, pos, ◌-ℤ◌, ◌≤ℤ◌, [], to_z, of_z, w64, FitsSigned, arith, rules, subst}
use Rattle.std.proofs.lemmas.Int.{ints}
use Rattle.ts_core.specs.declared.queries.fill.Fill.TheVariants as fills
use Rattle.ts_ql.specs.Selects.{texts}
use Rattle.ts_ql.proofs.CountingLemmas.{one_limited}
use Rattle.ts_ql.proofs.QueryLemmas.{same, read, none_sorted, one_count}
use Rattle.ts_ql.proofs.query.count.count_query.Given.{Over}
use Rattle.ts_ql.proofs.query.count.count_query.Goals.{After-new-2}
use Rattle.ts_ql.proofs.query.count.count_query.Goals as goal

apart : (i b a to from : ℤ) → FitsSigned w64 (b -ℤ a) → i ≡ b -ℤ a → b ≡ to → a ≡ from → to_z w64 (of_z w64 i) ≡ to -ℤ from
apart i b a to from f e eb ea = read i (to -ℤ from) (subst (FitsSigned w64) (sym e) f) (e ∙ (λ k. eb k -ℤ ea k))

no_longer : (i : ℤ) → FitsSigned w64 i → i ≤ℤ pos 9223372036854775807
no_longer i f = omega (arith, ints)

-- a range, as the numbers of a query tell it
record IsRange (from to a b i o : ℤ) : Type 0 where
  start : a ≡ from
  end : b ≡ to
  interval : i ≡ to -ℤ from
  offset : o ≡ from
  fits : FitsSigned w64 (to -ℤ from)

range : (g : Over) (c : After-new-2 g)
    → IsRange c.args.from c.args.to (to_z w64 (of_z w64 c.nanos-3.result)) (to_z w64 (of_z w64 c.nanos-4.result)) (to_z w64 (of_z w64 c.in-Some.interval)) (to_z w64 (of_z w64 c.nanos-5.result))
range g c =
    let to = read c.nanos.result c.args.to (search rules) c.nanos.ensures.value in
    let from = read c.nanos-2.result c.args.from (search rules) c.nanos-2.ensures.value in
    record {
      start = read c.nanos-3.result c.args.from (search rules) c.nanos-3.ensures.value;
      end = read c.nanos-4.result c.args.to (search rules) c.nanos-4.ensures.value;
      interval = apart c.in-Some.interval _ _ c.args.to c.args.from c.in-Some.ensures.0 c.in-Some.ensures.1 to from;
      offset = read c.nanos-5.result c.args.from (search rules) c.nanos-5.ensures.value;
      fits = rw (to, from) at c.in-Some.ensures.0;
    }

pub new-requires-3 : goal.new-requires-3
new-requires-3 g c =
    let r = range g (goal.at.new-requires-3 g c).After-new-2 in
    record {
      columns = one_count _ c.in_ok-count_column.ensures;
      tags = none_sorted _ (ap texts c.new-2.ensures.items);
      limits = one_limited _ (record { some = rw (r.start, r.end) c.requires; interval = r.interval ∙ sym (λ k. r.end k -ℤ r.start k); offset = r.offset ∙ sym r.start })
          (rw (r.start, ← c.nanos-3.ensures.value) c.nanos-3.ensures.valid.not_before);
    }

pub returns : goal.returns
returns g c =
    let r = range g (goal.at.returns g c).After-new-2 in
    let conditions : c.new.result.items ≡ [] = c.new.ensures.items in
    let tags : texts c.new-2.result.items ≡ [] = ap texts c.new-2.ensures.items in (
      c.new-3.ensures ∙ same fills.Null _ _ _ _ _ _ _ _ _ _ _ _ _ _ _ _ _ _ c.in_ok-count_column.ensures c.in_ok-from_str.ensures.ok c.in_ok-from_str-2.ensures.ok conditions r.start r.end r.interval r.offset tags,
      no_longer _ r.fits,
    )

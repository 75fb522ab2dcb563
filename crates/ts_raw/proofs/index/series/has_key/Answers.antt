use Rattle.std.proofs.Common.{sym, ◌∙◌}
use Rattle.ts_raw.proofs.SeriesLemmas.{same_series, is_same_series}
use Rattle.ts_raw.proofs.index.series.has_key.Goals as goal

pub returns : goal.returns
returns g c = (
  λ same. same_series c.args.series.now c.args.key.now c.compare.result c.compare.ensures (sym c.eq.ensures ∙ same),
  λ e. c.eq.ensures ∙ is_same_series c.args.series.now c.args.key.now c.compare.result c.compare.ensures e,
)

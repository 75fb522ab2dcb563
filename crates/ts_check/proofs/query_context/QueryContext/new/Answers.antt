use Rattle.ts_core.proofs.settings.Intervals.{wide_of}
use Rattle.ts_check.proofs.query_context.QueryContext.new.Goals as goal

pub returns-clause-intervals : goal.returns-clause-intervals
returns-clause-intervals g c =
    let wide = wide_of c.args.settings.now c.args.marks.now c.args.query.now.query c.rules-rules.ensures.valid.intervals c.interval-interval.ensures.some in
    record { query = wide.query; rules = wide.rules }

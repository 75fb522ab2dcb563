use Rattle.std.proofs.Common.{refl}
use Rattle.ts_image.specs.ImageReading.{image_of}
use Rattle.ts_image.proofs.check.image.is_rest_possible.Goals as goal

pub returns-then-not-is_small : goal.returns-then-not-is_small
returns-then-not-is_small g c = (λ e. absurd cc, λ k. c.if-not-is_small.ensures.1 (record { mark = k.mark; runs = k.runs; few = k.few; accepted = k.accepted }))

pub returns-then-not-are_series_possible : goal.returns-then-not-are_series_possible
returns-then-not-are_series_possible g c = (λ e. absurd cc, λ k. c.if-not-are_series_possible.ensures.1 (record { series = k.series; rising = k.rising; points = k.points }))

pub returns : goal.returns
returns g c =
    let d = image_of c.args.parts.now in
    let s = c.if-not-is_small.ensures.0 refl in
    let t = c.if-not-are_series_possible.ensures.0 refl in (
      λ h.
          let r = c.are_rules_possible.ensures.0 h in
          record {
            settings = c.requires.settings;
            mark = s.mark;
            lows = r.lows;
            runs = s.runs;
            few = s.few;
            series = t.series;
            rising = t.rising;
            each = r.each;
            cells = r.cells;
            accepted = s.accepted;
            points = t.points;
            counted = r.counted;
          },
      λ k. c.are_rules_possible.ensures.1 (record { lows = k.lows; each = k.each; cells = k.cells; counted = k.counted }),
    )

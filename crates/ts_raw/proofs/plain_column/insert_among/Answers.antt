use Rattle.std.proofs.Common.{ℕ, ℤ, List, length, ◌<◌, ◌≤◌, Ok, Err, ◌∙◌, ap, subst, insert, is_ok, if◌then◌else◌}
use Rattle.ts_raw.specs.PlainColumns.{IsIndexOf}
use Rattle.ts_raw.proofs.PointMaps.{put_there, put_new}
use Rattle.ts_raw.proofs.plain_column.insert_among.Goals as goal

pub returns-in-Ok : goal.returns-in-Ok
returns-in-Ok g c =
    let points : List (ℤ × ℤ) = c.args.points.now.items in
    let point : ℤ × ℤ = c.args.point in
    let at : ℕ = c.in-Ok.at in
    let index : IsIndexOf point.0 points (Ok at) = subst (λ xs. IsIndexOf point.0 xs (Ok at)) c.as_slice.ensures.value c.in-Ok.ensures.index in
    let bound : at < length points = subst (λ (xs : List (ℤ × ℤ)). at < length xs) c.as_slice.ensures.value c.in-Ok.ensures.bound in
    put_there points c.requires.rising point at bound index

pub returns-in-Err : goal.returns-in-Err
returns-in-Err g c =
    let points : List (ℤ × ℤ) = c.args.points.now.items in
    let point : ℤ × ℤ = c.args.point in
    let at : ℕ = c.in-Err.at in
    let index : IsIndexOf point.0 points (Err at) = subst (λ xs. IsIndexOf point.0 xs (Err at)) c.as_slice.ensures.value c.in-Err.ensures.index in
    let bound : at ≤ length points = subst (λ (xs : List (ℤ × ℤ)). at ≤ length xs) c.as_slice.ensures.value c.in-Err.ensures.bound in
    c.insert.ensures.items ∙ ap (λ r. if is_ok r then insert points at point else points) c.unwrap.ensures ∙ put_new points point at bound index

use Rattle.std.proofs.Common.{◌≡◌, ◌-◌, List, [], ◌∷◌, ◌++◌, ℤ, length, get_or, is_ok, if◌then◌else◌, ap, subst, sym, ◌∙◌}
use Rattle.ts_raw.proofs.PointMaps.{put_last, less_is}
use Rattle.ts_raw.proofs.plain_column.insert_point.Goals as goal

pub returns-in-Some : goal.returns-in-Some
returns-in-Some g c =
    let points : List (ℤ × ℤ) = c.args.points.now.items in
    let point : ℤ × ℤ = c.args.point in
    let last : ℤ × ℤ = c.in-Some.last.now in
    let there : last ≡ get_or points (length points - 1) last = subst (λ (xs : List (ℤ × ℤ)). last ≡ get_or xs (length xs - 1) last) c.deref.ensures.value c.in-Some.ensures.item.1 in
    c.push.ensures.items ∙ ap (λ r. if is_ok r then points ++ point ∷ [] else points) c.unwrap.ensures ∙ put_last points c.requires.rising point last there (less_is _ (sym c.lt.ensures ∙ c.if-lt.true))

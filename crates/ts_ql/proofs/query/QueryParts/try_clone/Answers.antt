use Rattle.std.proofs.Common.{rules, ◌≡◌, ◌∙◌, ap, map, string_bytes, to_z, of_z, w64}
use Rattle.ts_ql.proofs.QueryLemmas.{same}
use Rattle.ts_ql.proofs.query.QueryParts.try_clone.Goals as goal

pub returns : goal.returns
returns g c =
    let q = c.self.inside in
    let columns = c.in_ok-try_clone_projections.ensures ∙ c.as_slice.ensures.value in
    let measurement = c.in_ok-from_str.ensures.ok ∙ c.as_str.ensures.value in
    let field = c.in_ok-from_str-2.ensures.ok ∙ c.as_str-2.ensures.value in
    let conditions = c.in_ok-try_clone_conditions.ensures ∙ c.as_slice-2.ensures.value in
    let tags = c.in_ok-try_clone_strings.ensures ∙ ap (map string_bytes) c.as_slice-3.ensures.value in
    let from : to_z w64 (of_z w64 q.from) ≡ q.from = search rules in
    let to : to_z w64 (of_z w64 q.to) ≡ q.to = search rules in
    let interval : to_z w64 (of_z w64 q.interval) ≡ q.interval = search rules in
    let offset : to_z w64 (of_z w64 q.offset) ≡ q.offset = search rules in
    same q.fill _ _ _ _ _ _ _ _ _ _ _ _ _ _ _ _ _ _ columns measurement field conditions from to interval offset tags ∙ c.self.view_is

use Rattle.std.proofs.Common.{◌∙◌, sym}
use Rattle.form_urlencoded.specs.Parse.{raw_pairs_left}
use Rattle.ts_http.proofs.ParameterLemmas.{found_first}
use Rattle.ts_http.proofs.parameters.first_named.Goals as goal

pub returns-then-branch : goal.returns-then-branch
returns-then-branch g c =
    found_first c.args.name.now c.in-Some.raw_name.now c.in-Some.raw_value.now _ (raw_pairs_left c.loop-raw_name.pairs) (raw_pairs_left c.next.new.self) _ c.loop-raw_name.invariant c.in-Some.ensures.steps (sym c.if-branch.true ∙ c.in_ok-is_name.ensures) c.in_ok-decode.ensures.value.2

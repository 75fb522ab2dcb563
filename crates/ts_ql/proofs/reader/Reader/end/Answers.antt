use Rattle.std.proofs.Common.{◌≡◌, ◌∙◌, ap, sym, List, ◌∷◌, [], ◌++◌, Ok}
use Rattle.ts_ql.specs.declared.state.State.{State}
use Rattle.ts_ql.specs.declared.token.Kind.{Kind}
use Rattle.ts_ql.specs.Builders.{BuilderState, builder_state, empty_builder, meaning}
use Rattle.ts_ql.specs.Reading.{Progress, progress, after_end, ended_with}
use Rattle.ts_ql.specs.Selects.{Select}
use Rattle.ts_ql.specs.Statements.{query_of}
use Rattle.ts_ql.proofs.reader.Reader.end.Goals as goal

ends_so : (kind : Kind) (s : Progress) (q : Select) (state : State) (builder : BuilderState) (queries : List Select) → state ≡ after_end kind → builder ≡ empty_builder → queries ≡ s.queries ++ q ∷ []
    → ended_with kind s (Ok q) ≡ Ok (let p : Progress = record s { state = state; builder = builder; queries = queries } in p)
ends_so kind s q state builder queries e1 e2 e3 = sym (λ k. Ok (let p : Progress = record s { state = e1 k; builder = e2 k; queries = e3 k } in p))

pub returns-clause-value : goal.returns-clause-value
returns-clause-value g c =
    let s : Progress = progress c.args.self.now in
    let b = c.in_ok-buckets.buckets in
    let span = c.in_ok-buckets.span in
    let q = query_of (meaning s.builder) b span in
    let added = c.push.ensures ∙ ap (λ d. s.queries ++ query_of (meaning (builder_state d)) b span ∷ []) c.replace-builder.ensures.value in
    ap (ended_with c.args.kind s) c.in_ok-buckets.ensures.value
    ∙ ends_so c.args.kind s q c.after_end-state.result _ _ c.after_end-state.ensures (ap builder_state c.replace-builder.ensures.after ∙ c.new.ensures) added

use Rattle.std.proofs.Common.{rules, ◌≡◌, ◌∙◌, ◌++◌, ◌∷◌, List, ℕ, sym, ap, lit<, string_bytes}
use Rattle.std.proofs.lemmas.Str.Pattern.{split_parts}
use Rattle.ts_script.specs.ScriptCertificates.{with_line_feeds}
use Rattle.ts_script.proofs.CertificateTextLemmas.{none_there, first_there, one_more}
use Rattle.ts_script.proofs.certificate_text.with_line_feeds.Goals as goal

pub loop-line-preserved : goal.loop-line-preserved
loop-line-preserved c =
    let p = split_parts 59 c.loop-line.rest.now c.split_once.result c.split_once.ensures.cases (lit< tt) in
    let parts = rw c.in-Some.is at p in
    let first : with_line_feeds c.loop-line.rest.now ≡ c.in-Some.line.now ++ (10 ∷ with_line_feeds c.in-Some.others.now) = first_there c.loop-line.rest.now c.in-Some.line.now c.in-Some.others.now parts.0 parts.1 in (
      search rules,
      one_more (string_bytes c.loop-line.lines) c.in-Some.line.now (string_bytes c.push_str.new.self) (string_bytes c.push_str-in-Some.new.self) (with_line_feeds c.in-Some.others.now) (with_line_feeds c.loop-line.rest.now) (with_line_feeds c.args.text.now)
          c.in_ok-push_str.ensures.bytes c.in_ok-push_str-2.ensures.bytes first c.loop-line.invariant.1,
    )

pub returns : goal.returns
returns c =
    let p = split_parts 59 c.loop-line.rest.now c.split_once.result c.split_once.ensures.cases (lit< tt) in
    let none = rw c.in_default.is at p in
    let same = none_there c.loop-line.rest.now none in
    c.in_ok-push_str-3.ensures.bytes ∙ ap (λ (t : List ℕ). string_bytes c.loop-line.lines ++ t) (sym same) ∙ c.loop-line.invariant.1

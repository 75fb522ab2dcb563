use Rattle.std.proofs.Common.{rules, ◌≡◌, true, ◌++◌, codes, string_bytes}
use Rattle.std.proofs.lemmas.Result.{on_ok_weaker}
use Rattle.std.specs.List.{list_all}
use Rattle.json.specs.Run.{is_plain}
use Rattle.ts_reply.proofs.Appended.{if_pushed}
use Rattle.ts_reply.proofs.PlainTexts.{quoted_alone}
use Rattle.ts_reply.proofs.text.push_quoted.Goals as goal

pub returns : goal.returns
returns c =
    let old = string_bytes c.args.text.now in
    let opened = string_bytes c.push_str.new.self in
    let told = string_bytes c.push_str-2.new.self in
    let plain : list_all is_plain c.args.word.now ≡ true = search rules in
    let begun : opened ≡ old ++ codes "\"" = search rules in
    let word : told ≡ opened ++ c.args.word.now = search rules in
    on_ok_weaker c.push_str-3.result (quoted_alone old opened told (string_bytes c.push_str-3.new.self) c.args.word.now plain begun word) (if_pushed c.push_str-3.result _ _ _ c.push_str-3.ensures.bytes)

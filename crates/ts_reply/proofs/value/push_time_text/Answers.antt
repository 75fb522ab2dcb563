use Rattle.std.proofs.Common.{rules, ◌≡◌, ◌++◌, string_bytes, OnOk}
use Rattle.std.proofs.lemmas.Result.{on_ok_weaker}
use Rattle.json.specs.Print.{quoted}
use Rattle.ts_reply.specs.Replies.{is_valid_time}
use Rattle.ts_reply.proofs.Times.{text_appended}
use Rattle.ts_reply.proofs.value.push_time_text.Goals as goal

pub returns-in_ok-words-in-Some : goal.returns-in_ok-words-in-Some
returns-in_ok-words-in-Some c =
    let old = string_bytes c.args.text.now in
    let new = string_bytes c.push_quoted.new.text in
    let words = string_bytes c.in_ok-words-in-Some.words in
    let pushed : OnOk c.push_quoted.result (new ≡ old ++ quoted words) = search rules in
    on_ok_weaker c.push_quoted.result
    (text_appended (is_valid_time c.args.nanos.now) c.args.nanos.now c.in-Some.time words old new c.in-Some.ensures.0 c.in-Some.ensures.1 c.in_ok-words-in-Some.ensures.text) pushed

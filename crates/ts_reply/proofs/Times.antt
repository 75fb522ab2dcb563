-- The text of a time.
use Rattle.std.proofs.Common.{◌≡◌, ℤ, Bool, true, false, ◌++◌, subst, sym, refl, true≢false}
use Rattle.json.specs.Print.{quoted}
use Rattle.serde_json.specs.Data.{Data, string}
use Rattle.ts_core.specs.facts.Facts.{Text}
use Rattle.ts_reply.specs.AppendedData.{AppendsData}
use Rattle.ts_reply.specs.Replies.{IsTextOrCount}
use Rattle.ts_reply.specs.TimeTexts.{IsTimeText}

text_told : (valid : Bool) (t time : ℤ) (text : Text) (d : Data) → time ≡ t → valid ≡ true → IsTimeText time text → d ≡ string text → IsTextOrCount valid t d
text_told true t time text d e v h is = (text, subst (λ (z : ℤ). IsTimeText z text) e h, is)
text_told false t time text d e v h is = absurd (true≢false (sym v))

pub text_appended : (valid : Bool) (t time : ℤ) (words old new : Text) → time ≡ t → valid ≡ true → IsTimeText time words → new ≡ old ++ quoted words → AppendsData (IsTextOrCount valid t) old new
text_appended valid t time words old new e v h is = record { told = string words; is = text_told valid t time words (string words) e v h refl; appended = is }

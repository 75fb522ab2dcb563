-- Rules and settings of equal parts.
use Rattle.std.proofs.Common.{◌≡◌, ℤ, List}
use Rattle.std.specs.Prelude.{unsigned_abs}
use Rattle.ts_core.specs.facts.Facts.{Text}
use Rattle.ts_core.specs.settings.Settings.{Rule, Settings}
use Rattle.ts_image.specs.Images.{ImageRule}

pub same_rule : {n n' m m' : Text} {i i' o o' d d' : ℤ} {t t' : List Text} → n ≡ n' → m ≡ m' → i ≡ i' → o ≡ o' → d ≡ d' → t ≡ t'
    → (let a : ImageRule = record { name = n; measurement = m; interval = i; offset = o; duration = d; kept_tags = t } in let b : ImageRule = record { name = n'; measurement = m'; interval = i'; offset = o'; duration = d'; kept_tags = t' } in a ≡ b)
same_rule a b c d e f i = record { name = a i; measurement = b i; interval = c i; offset = d i; duration = e i; kept_tags = f i }

pub same_settings : {d d' : ℤ} {rs rs' : List Rule} → d ≡ d' → rs ≡ rs' → (let a : Settings = record { raw_duration = unsigned_abs d; rules = rs } in let b : Settings = record { raw_duration = unsigned_abs d'; rules = rs' } in a ≡ b)
same_settings a b i = record { raw_duration = unsigned_abs (a i); rules = b i }

-- A time as text: RFC 3339 in UTC, such as 1970-01-01T00:00:01.5Z.
-- (InfluxData 1.8, API reference: /query, timestamps are returned in RFC 3339 format. Own rule: trailing zeros of the
-- fraction are left out, and so is a fraction of 0 with its point.)
use Rattle.std.specs.Prelude.{◌≡◌, ℤ, ◌++◌, codes}
use Rattle.jiff.specs.Names.{iso_datetime_text}
use Rattle.jiff_core.specs.DateTime.{civil_nanos}
use Rattle.jiff_core.specs.declared.civil.datetime.DateTime.{DateTime}
use Rattle.ts_core.specs.facts.Facts.{Text}

-- the date and time of day in UTC, followed by Z
pub record IsTimeText (t : ℤ) (text : Text) : Type 0 where
  pub clock : DateTime
  pub shows : civil_nanos clock ≡ t
  pub written : text ≡ iso_datetime_text clock ++ codes "Z"

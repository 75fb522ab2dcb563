-- Images of version 1: their low indices are at most those of the raw mark, so they pass its tests and are loaded.
use Rattle.std.proofs.Common.{◌≡◌, ℕ, ℤ, pos, ◌+ℤ◌, ◌≤ℤ◌, Bool, true, false, List, [], ◌∷◌, length, map, refl, sym, ◌∙◌, ap, subst, inl, arith, Option, Some, Result, Ok, Err, MatchResult}
use Rattle.std.specs.Prelude.{IfSome, IfOk, IfErr, replicate}
use Rattle.std.specs.Int.Signed.{≤ℤ_refl}
use Rattle.std.specs.List.{AllByRecursion}
use Rattle.std.proofs.lemmas.Int.{ints}
use Rattle.ts_core.specs.facts.Facts.{Column}
use Rattle.ts_core.specs.facts.Times.{least_time}
use Rattle.ts_core.specs.io.Devices.{Input}
use Rattle.ts_core.specs.io.ReadingAhead.{bit}
use Rattle.ts_core.specs.settings.Settings.{Rule, Settings, Outlasts}
use Rattle.ts_core.specs.settings.SettingsFaults.{settings_fault}
use Rattle.ts_core.specs.store.History.{History, Line, Begin, Step, AddRule, DropRule, raw_mark}
use Rattle.ts_core.specs.store.Marks.{Marks, index_of, low_of, start_of_rule}
use Rattle.ts_core.specs.store.RawFacts.{is_waiting}
use Rattle.ts_core.specs.store.StoreStates.{StandsFor}
use Rattle.ts_core.specs.store.StoreData.{StoreData, state_of}
use Rattle.ts_core.proofs.aggregates.BucketsOrder.{bucket_le}
use Rattle.ts_core.proofs.settings.Intervals.{settings_faultless}
use Rattle.ts_core.proofs.settings.SettingsLaws.{settings_are}
use Rattle.ts_core.proofs.store.LowIndices.{raw_mark-is, low_of-le, low_of-near}
use Rattle.ts_core.proofs.store.StateLemmas.{raw_duration_of}
use Rattle.ts_store.specs.image.SavedContent.{SavedColumn, SavedSeries}
use Rattle.ts_image.specs.declared.load_fault.LoadFault.{LoadFault}
use Rattle.ts_image.specs.declared.version.Version.TheVariants.{V1, V2}
use Rattle.ts_image.specs.Formats.{Format, along}
use Rattle.ts_image.specs.FormatLaws.{AreBytes}
use Rattle.ts_image.specs.Images.{ImageRule, ImageColumn, ImageSeries, ImageData, image_column, image_series, image, image_text}
use Rattle.ts_image.specs.ImageFaults.{IsImageOf, IsFaultOf, IsOfBytes}
use Rattle.ts_image.specs.ImageLoading.{IsLoadedStore}
use Rattle.ts_image.specs.ImageTests.{rule_in, settings_of_image, AreLows, IsPossible}
use Rattle.ts_image.specs.Pictures.{IsPictureOf}
use Rattle.ts_image.specs.Saving.{image_column_of, image_series_of, store_image}
use Rattle.ts_image.specs.FirstVersion.{HasNoAddedRule, FirstImagesArePossible, FirstImagesFit, FirstImagesAreLoaded}
use Rattle.ts_image.proofs.ImageBytes.{image_bytes}
use Rattle.ts_image.proofs.PictureLemmas.{pictured_stands}
use Rattle.ts_image.proofs.SavedImages.{saved_possible}
use Rattle.ts_image.proofs.Unambiguous.{are_unambiguous}
use Rattle.ts_image.proofs.WrittenPictures.{written_picture, written_orderly}

-- ---- low indices

-- a rule that wasn't added starts with the bucket of the least time
starts_first : (opening : Settings) (h : History) (r : Rule) → HasNoAddedRule h → start_of_rule opening h r ≡ index_of r least_time
starts_first opening [] r n = refl
starts_first opening (Line facts ∷ h) r n = starts_first opening h r n
starts_first opening (Begin now ∷ h) r n = starts_first opening h r n
starts_first opening (Step ended ∷ h) r n = starts_first opening h r n
starts_first opening (AddRule rule ∷ h) r n = absurd n
starts_first opening (DropRule name ∷ h) r n = starts_first opening h r n

no_further : (a b : ℤ) → a ≤ℤ b → a ≤ℤ (b +ℤ pos 0)
no_further a b l = omega (arith, ints)

low_most : (opening : Settings) (h : History) (r : Rule) → HasNoAddedRule h → pos 1 ≤ℤ r.interval → Outlasts r.duration opening.raw_duration → low_of opening h r ≤ℤ (index_of r (raw_mark opening h) +ℤ pos 0)
low_most opening h r n wide lasting =
    let mark : ℤ = raw_mark opening h in
    let least : least_time ≤ℤ mark = (raw_mark-is opening h).none_greater least_time (inl refl) in
    let start : start_of_rule opening h r ≤ℤ index_of r mark = subst (λ x. x ≤ℤ index_of r mark) (sym (starts_first opening h r n)) (bucket_le least_time mark r.interval r.offset wide least) in
    no_further (low_of opening h r) (index_of r mark) (low_of-le opening h r mark wide lasting (≤ℤ_refl mark) start)

lows_most : (opening : Settings) (h : History) → HasNoAddedRule h → (rs : List ImageRule) → AllByRecursion (λ (r : Rule). pos 1 ≤ℤ r.interval) (map rule_in rs) → AllByRecursion (λ (r : Rule). Outlasts r.duration opening.raw_duration) (map rule_in rs)
    → AreLows V1 (raw_mark opening h) rs (map (low_of opening h) (map rule_in rs))
lows_most opening h n [] wide lasting = tt
lows_most opening h n (r ∷ rs) wide lasting =
    (record { least = (low_of-near opening h (rule_in r) wide.0 lasting.0).0; most = low_most opening h (rule_in r) n wide.0 lasting.0 }, lows_most opening h n rs wide.1 lasting.1)

lows_possible : (opening : Settings) (h : History) (k : StoreData) (d : ImageData) → StandsFor opening h (state_of k) → HasNoAddedRule h → IsPictureOf k d → AreLows V1 d.marks.raw d.settings.rules d.marks.lows
lows_possible opening h k d st n p =
    let settings = p.settings ∙ st.settings in
    let are = settings_are (settings_of_image d.settings) (ap settings_fault settings ∙ settings_faultless opening h st.lawful) in
    let raw : (settings_of_image d.settings).raw_duration ≡ opening.raw_duration = ap (λ (s : Settings). s.raw_duration) settings ∙ raw_duration_of opening h in
    let lasting : AllByRecursion (λ (r : Rule). Outlasts r.duration opening.raw_duration) (map rule_in d.settings.rules) = subst (λ (m : ℕ). AllByRecursion (λ (r : Rule). Outlasts r.duration m) (map rule_in d.settings.rules)) raw are.lasting in
    let mark : d.marks.raw ≡ raw_mark opening h = ap (λ (m : Marks). m.raw) (p.marks ∙ st.marks) in
    let lows : d.marks.lows ≡ map (low_of opening h) (map rule_in d.settings.rules) =
    ap (λ (m : Marks). m.lows) (p.marks ∙ st.marks) ∙ ap (λ (s : Settings). map (low_of opening h) s.rules) (sym settings) in
    subst (λ (m : ℤ). AreLows V1 m d.settings.rules d.marks.lows) (sym mark)
    (subst (AreLows V1 (raw_mark opening h) d.settings.rules) (sym lows) (lows_most opening h n d.settings.rules are.intervals lasting))

-- every other test is that of version 2
pub first_possible : FirstImagesArePossible
first_possible opening h k d f p o =
    let q = saved_possible opening h k d f.stands f.formed p o in
    record {
      settings = q.settings;
      mark = q.mark;
      lows = lows_possible opening h k d f.stands f.opened p;
      runs = q.runs;
      few = q.few;
      series = q.series;
      rising = q.rising;
      each = q.each;
      cells = q.cells;
      accepted = q.accepted;
      points = q.points;
      counted = q.counted;
    }

-- ---- the form: without an open run all flags are 0

abbrev IsUnflagged : ImageSeries → Type 0
IsUnflagged s = AllByRecursion (λ (c : ImageColumn). c.waits ≡ 0) s.columns

unflagged_columns : (k : StoreData) → ((c : Column) → is_waiting k.waiting c ≡ false) → (cs : List SavedColumn) → AllByRecursion (λ (c : ImageColumn). c.waits ≡ 0) (map (image_column_of k) cs)
unflagged_columns k none [] = tt
unflagged_columns k none (c ∷ cs) = (ap bit (none _), unflagged_columns k none cs)

unflagged_series : (k : StoreData) → ((c : Column) → is_waiting k.waiting c ≡ false) → (order : List SavedSeries) → AllByRecursion IsUnflagged (map (image_series_of k) order)
unflagged_series k none [] = tt
unflagged_series k none (s ∷ order) = (unflagged_columns k none s.columns, unflagged_series k none order)

each_fits : {X : Type 0} (f g : Format X) (P : X → Type 0) → ((x : X) → P x → f.fits x → g.fits x) → (ns : List ℕ) (xs : List X) → AllByRecursion P xs → (along (λ (i : ℕ). f) ns).fits xs → (along (λ (i : ℕ). g) ns).fits xs
each_fits f g P h [] [] u w = tt
each_fits f g P h [] (x ∷ xs) u w = absurd w
each_fits f g P h (n ∷ ns) [] u w = absurd w
each_fits f g P h (n ∷ ns) (x ∷ xs) u w = (h x u.0 w.0, each_fits f g P h ns xs u.1 w.1)

series_fits : (s : ImageSeries) → IsUnflagged s → (image_series V2).fits s → (image_series V1).fits s
series_fits s u f = (f.0, (f.1.0, each_fits (image_column V2) (image_column V1) (λ (c : ImageColumn). c.waits ≡ 0) (λ c e w. (w.0, (e, w.1.1))) (replicate (length s.columns) 0) s.columns u f.1.1))

data_fits : (d : ImageData) → d.runs ≡ 0 → AllByRecursion IsUnflagged d.series → (image V2).fits d → (image V1).fits d
data_fits d e u f = (f.0, (f.1.0, (e, (f.1.1.1.0, ((f.1.1.1.1.0.0, each_fits (image_series V2) (image_series V1) IsUnflagged series_fits (replicate (length d.series) 0) d.series u f.1.1.1.1.0.1), f.1.1.1.1.1)))))

idle_bit : (b : Bool) → (b ≡ true → ⊥) → bit b ≡ 0
idle_bit true n = absurd (n refl)
idle_bit false n = refl

pub first_fits : FirstImagesFit
first_fits opening h k order f fits =
    let none : (c : Column) → is_waiting k.waiting c ≡ false = λ c. ap (λ ws. is_waiting ws c) (f.stands.idle f.idle) in
    data_fits (store_image k order) (idle_bit k.running (λ e. f.idle (f.stands.running.0 e))) (unflagged_series k none order) fits

-- ---- loading

known : (P : List ℕ → Type 0) (bytes : List ℕ) (o : Option (List ℕ)) → o ≡ Some bytes → IfSome o P → P bytes
known P bytes o e p = subst (λ (x : Option (List ℕ)). IfSome x P) e p

answered : (opening : Settings) (h : History) (k : StoreData) (d : ImageData) (bytes : List ℕ) (source : Input) → StandsFor opening h (state_of k) → IsPictureOf k d → IsPossible V1 d → IsImageOf V1 d bytes → AreBytes bytes → source.remaining ≡ Some bytes
    → (result : Result StoreData LoadFault) → IfOk result (IsLoadedStore source) → IfErr result (λ e. IfSome source.remaining (λ bs. AreBytes bs → IsFaultOf bs e))
    → MatchResult result (λ n. StandsFor opening h (state_of n)) (λ e. IsOfBytes e → ⊥)
answered opening h k d bytes source st p possible is are e (Ok n) ok err =
    let same : ok.image ≡ d = ((are_unambiguous V1 d bytes is possible).1 ok.version ok.image (known (λ bs. AreBytes bs → IsImageOf ok.version ok.image bs) bytes source.remaining e ok.bytes are)).1 in
    pictured_stands k n ok.image (subst (IsPictureOf k) (sym same) p) ok.store.made opening h st
answered opening h k d bytes source st p possible is are e (Err fault) ok err = λ o. (are_unambiguous V1 d bytes is possible).0 fault o (known (λ bs. AreBytes bs → IsFaultOf bs fault) bytes source.remaining e err are)

pub first_loaded : FirstImagesAreLoaded
first_loaded opening h k order f w fits source source' reads result e loads =
    let d : ImageData = store_image k order in
    let picture = written_picture opening h k order f.stands w in
    let possible = first_possible opening h k d f picture (written_orderly opening h k order f.stands f.formed w) in
    answered opening h k d (image_text V1 d) source f.stands picture possible (record { fits = fits; text = refl }) (image_bytes V1 d fits) e result loads.ok loads.err

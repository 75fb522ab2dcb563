-- A store that is loaded from the image of another: it represents the same history, and the machine's state is the
-- reloaded one.
use Rattle.std.proofs.Common.{◌≡◌, List, ℕ, map, filter, Option, Some, IfSome, refl, sym, ◌∙◌, ap, subst}
use Rattle.std.proofs.lemmas.Simd.{map-map}
use Rattle.ts_core.specs.facts.Facts.{Series, Column}
use Rattle.ts_core.specs.settings.Settings.{Settings}
use Rattle.ts_core.specs.store.Marks.{Marks}
use Rattle.ts_core.specs.store.History.{History}
use Rattle.ts_core.specs.store.RawFacts.{is_waiting}
use Rattle.ts_core.specs.text.FaultTexts.{memory_text}
use Rattle.ts_core.specs.store.StoreStates.{ColumnPoints, StandsFor, column_of}
use Rattle.ts_core.specs.store.StoreData.{StoreData, store_settings, store_marks, state_of}
use Rattle.ts_core.specs.io.Devices.{Input}
use Rattle.ts_store.specs.write.LineTexts.{with_series}
use Rattle.ts_store.specs.store.SizedStores.{IsSized}
use Rattle.ts_store.specs.store.Inventories.{Inventory, inventory_of}
use Rattle.ts_image.specs.declared.version.Version.TheVariants.{V2}
use Rattle.ts_image.specs.Images.{ImageData}
use Rattle.ts_image.specs.Saving.{store_image, image_series_of}
use Rattle.ts_image.specs.StoresMade.{key_in, IsStoreOf}
use Rattle.ts_image.specs.FormatLaws.{AreBytes}
use Rattle.ts_image.specs.ImageFaults.{IsImageOf}
use Rattle.ts_image.specs.ImageLoading.{IsLoadedStore}
use Rattle.ts_image.proofs.ImageBytes.{image_bytes}
use Rattle.ts_image.proofs.PictureLemmas.{pictured_stands}
use Rattle.ts_image.proofs.Unambiguous.{are_unambiguous}
use Rattle.ts_image.proofs.WrittenPictures.{written_picture}
use Rattle.ts_store.specs.store.WholeStates.{rules_in, lows_in}
use Rattle.ts_script.specs.Commands.{Reload}
use Rattle.ts_script.specs.Machine.{with_store, whole_state, IsReload, reloads, reloads_no_memory}
use Rattle.ts_script.specs.ReloadResults.{IsImageIn, IsReloadOf}
use Rattle.ts_script.specs.Reloads.{Reloaded, saved_columns}
use Rattle.ts_script.specs.ScriptReplies.{line, reloaded_text}
use Rattle.ts_script.specs.MachineState.{MachineState, keeping, IsMachineIn, TransitionTo}
use Rattle.ts_script.specs.Machine.{State}
use Rattle.ts_script.proofs.ReloadLemmas.{all_named, all_waiting}
use Rattle.ts_script.proofs.ReloadedCells.{all_filled}

module _ (opening : Settings) (h : History) (k n : StoreData) (old : StandsFor opening h (state_of k)) (r : IsReloadOf k n) where
  pub stands : StandsFor opening h (state_of n)
  stands = pictured_stands k n (store_image k r.order) (written_picture opening h k r.order old r.ordered) r.made.made opening h old

  columns : map column_of n.columns ≡ saved_columns r.order
  columns = ap (λ (cs : List ColumnPoints). map column_of cs) r.made.columns ∙ all_named k r.order

  pub reloaded_as : Reloaded h (store_settings k).rules (store_marks k).lows k.series (inventory_of k) n.series (inventory_of n)
  reloaded_as = record {
    order = r.order;
    saved = r.ordered;
    series = r.made.series ∙ map-map key_in (image_series_of k) r.order;
    columns = columns;
    waiting = r.made.waiting ∙ all_waiting k r.order r.ordered.columns ∙ ap (λ (cs : List Column). filter (is_waiting k.waiting) cs) (sym columns);
    cells = all_filled opening h k n r.order old stands r.made;
  }

-- ---- the machine

pub was_reloaded : (s : State) (m : MachineState) (k : StoreData) → IsMachineIn s m → IsReloadOf m.kept k → TransitionTo Reload s reloaded_text (keeping k m)
was_reloaded s m k i r =
    let now = reloaded_as s.store.opening s.store.history m.kept k i.store.stands r in
    let is : IsReload s k.series (inventory_of k) =
    subst (λ (z : Inventory). Reloaded s.store.history (rules_in (whole_state s)) (lows_in (whole_state s)) s.store.series z k.series (inventory_of k)) i.inventory
    (subst (λ (z : List Series). Reloaded s.store.history (rules_in (whole_state s)) (lows_in (whole_state s)) z (inventory_of m.kept) k.series (inventory_of k)) i.store.series
    (subst (λ (z : Marks). Reloaded s.store.history (rules_in (whole_state s)) z.lows m.kept.series (inventory_of m.kept) k.series (inventory_of k)) i.store.stands.marks
    (subst (λ (z : Settings). Reloaded s.store.history z.rules (store_marks m.kept).lows m.kept.series (inventory_of m.kept) k.series (inventory_of k)) i.store.stands.settings now))) in (
      with_store (with_series k.series s.store) (inventory_of k) s,
      reloads k.series (inventory_of k) is,
      record {
        moment = i.moment;
        precision = i.precision;
        epoch = i.epoch;
        fresh = i.fresh;
        certificate = i.certificate;
        store = record { stands = stands s.store.opening s.store.history m.kept k i.store.stands r; series = refl };
        inventory = refl;
      },
    )

pub reloaded_no_memory : (s : State) (m : MachineState) → IsMachineIn s m → TransitionTo Reload s (line memory_text) m
reloaded_no_memory s m i = (s, reloads_no_memory, i)

-- a store that was loaded from the image of another has its contents
pub loaded_back : (k n : StoreData) (bytes : List ℕ) (source : Input) → source.remaining ≡ Some bytes → IsImageIn k bytes → IsSized k → IsLoadedStore source n → IsReloadOf k n
loaded_back k n bytes source known is sized l =
    let d : ImageData = store_image k is.order in
    let are : AreBytes bytes = subst AreBytes (sym is.text) (image_bytes V2 d is.fits) in
    let had : IsImageOf l.version l.image bytes = subst (λ (o : Option (List ℕ)). IfSome o (λ bs. AreBytes bs → IsImageOf l.version l.image bs)) known l.bytes are in
    let same = (are_unambiguous l.version l.image bytes had l.possible).1 V2 d (record { fits = is.fits; text = is.text }) in
    record { order = is.order; ordered = is.ordered; sized = sized; made = subst (λ (x : ImageData). IsStoreOf x n) (sym same.1) l.store }

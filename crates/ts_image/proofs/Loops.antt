-- Values of one format that are read one after another, as a loop does.
use Rattle.std.proofs.Common.{◌≡◌, ℕ, suc, List, [], ◌∷◌, ◌++◌, replicate, subst}
use Rattle.ts_core.specs.io.Devices.{Input}
use Rattle.ts_core.specs.io.ReadingAhead.{EndIsEnd}
use Rattle.ts_image.specs.declared.field_fault.FieldFault.{FieldFault}
use Rattle.ts_image.specs.declared.field_fault.FieldFault.TheVariants.{OutOfMemory}
use Rattle.ts_image.specs.Formats.{Format, times}
use Rattle.ts_image.specs.FieldReading.{FieldsRead, ReadsField}
use Rattle.ts_image.proofs.Alongs.{HasReadAlong, along_starts, along_goes_on, along_breaks, along_no_memory, along_finishes}
use Rattle.ts_image.proofs.Reading.{fine, faulty}

-- of n values some were read: these and the remaining ones are all
abbrev pub HasRead : {X : Type 0} → Format X → ℕ → ℕ → List X → FieldsRead → Input → FieldsRead → Input → Type 0
HasRead f count left = HasReadAlong (λ (i : ℕ). f) (replicate count 0) (replicate left 0)

module _ {Y : Type 0} (f : Format Y) (count : ℕ) (a : FieldsRead) (s : Input) where
  pub starts : (k : ℕ) (xs : List Y) → k ≡ count → xs ≡ [] → EndIsEnd a.ahead s → HasRead f count k xs a s a s
  starts k xs all none end = rw (all, none) (along_starts (λ (i : ℕ). f) (replicate count 0) a s end)

  module _ {X : Type 0} (view : X → Y) (k left : ℕ) (more : k ≡ suc left) (xs : List Y) (b c : FieldsRead) (t u : Input) (so_far : HasRead f count k xs a s b t) where
    before : HasRead f count (suc left) xs a s b t
    before = subst (λ (n : ℕ). HasRead f count n xs a s b t) more so_far

    pub goes_on : (x : X) (ys : List Y) → ys ≡ xs ++ view x ∷ [] → ReadsField f view b t (fine x) c u → HasRead f count left ys a s c u
    goes_on x ys pushed r = rw pushed (along_goes_on (λ (i : ℕ). f) (replicate count 0) a s view 0 (replicate left 0) xs b c t u before x r)

    pub breaks : {Z : Type 0} (views : Z → List Y) (e : FieldFault) → ReadsField f view b t (faulty X e) c u → ReadsField (times count f) views a s (faulty Z e) c u
    breaks views e r = along_breaks (λ (i : ℕ). f) (replicate count 0) a s view 0 (replicate left 0) xs b c t u before views e r

    -- there is no capacity for the value that was read
    pub no_memory_left : {Z : Type 0} (views : Z → List Y) (x : X) → ReadsField f view b t (fine x) c u → ReadsField (times count f) views a s (faulty Z OutOfMemory) c u
    no_memory_left views x r = along_no_memory (λ (i : ℕ). f) (replicate count 0) a s view 0 (replicate left 0) xs b c t u before views x r

  pub finishes : {Z : Type 0} (k : ℕ) → k ≡ 0 → (xs : List Y) (b : FieldsRead) (t : Input) (views : Z → List Y) (z : Z) → HasRead f count k xs a s b t → views z ≡ xs → ReadsField (times count f) views a s (fine z) b t
  finishes k none xs b t views z so_far e = along_finishes (λ (i : ℕ). f) (replicate count 0) a s xs b t views z (subst (λ (n : ℕ). HasRead f count n xs a s b t) none so_far) e

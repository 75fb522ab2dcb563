use Rattle.std.proofs.Common.{◌∙◌, ap, sym, subst, List, Ok}
use Rattle.ts_core.specs.facts.Facts.{Fact}
use Rattle.ts_core.specs.store.StoreData.{store_settings, store_marks}
use Rattle.ts_store.specs.store.Inventories.{inventory_of, facts_of_text, InventoryGrows, GrowsInPart}
use Rattle.ts_store.specs.write.LineTexts.{parts_in, WritesText, RunsOutOfMemory}
use Rattle.ts_store.proofs.write.LineTextLemmas.{refused_same, wrote_accepted, wrote_refused, left_without_memory, wrote_without_memory}
use Rattle.ts_store.proofs.write.InventoriesGrown.{grown, grown_in_part, not_grown}
use Rattle.ts_store.proofs.store.Store.write_text.Goals as goal

-- ---- a line

pub returns-in-Ok-clause-written : goal.returns-in-Ok-clause-written
returns-in-Ok-clause-written g c =
    wrote_accepted c.args.precision c.args.now c.args.text.now c.in-Ok-Some.line c.args.self.now c.write.new.self (c.in-Ok-Some.ensures.value ∙ ap Ok c.in-Ok-Some.field-0-is) c.in-Ok.ensures.ok c.in-Ok.ensures.refused

pub returns-in-Ok-clause-inventory : goal.returns-in-Ok-clause-inventory
returns-in-Ok-clause-inventory g c =
    subst (λ (facts : List Fact). InventoryGrows (store_settings c.args.self.now).rules (store_marks c.args.self.now).lows facts (inventory_of c.args.self.now) (inventory_of c.write.new.self)) (sym (ap facts_of_text (c.in-Ok-Some.ensures.value ∙ ap Ok c.in-Ok-Some.field-0-is)))
    (grown c.args.self.now c.write.new.self c.in-Ok-Some.line c.in-Ok.ensures.ok)

pub returns-in-OutOfMemory-clause-written : goal.returns-in-OutOfMemory-clause-written
returns-in-OutOfMemory-clause-written g c =
    wrote_without_memory c.in-Ok-Some.line c.args.self.now c.write.new.self c.in-Err.fault c.in-Err.ensures.refused c.in-Err.ensures.taken c.in-OutOfMemory.is c.args.precision c.args.now c.args.text.now (c.in-Ok-Some.ensures.value ∙ ap Ok c.in-Ok-Some.field-0-is)

pub returns-in-OutOfMemory-clause-inventory : goal.returns-in-OutOfMemory-clause-inventory
returns-in-OutOfMemory-clause-inventory g c =
    subst (λ (facts : List Fact). GrowsInPart (store_settings c.args.self.now).rules (store_marks c.args.self.now).lows facts (inventory_of c.args.self.now) (inventory_of c.write.new.self)) (sym (ap facts_of_text (c.in-Ok-Some.ensures.value ∙ ap Ok c.in-Ok-Some.field-0-is)))
    (grown_in_part c.args.self.now c.write.new.self c.in-Ok-Some.line (left_without_memory c.in-Ok-Some.line c.args.self.now c.write.new.self c.in-Err.fault c.in-Err.ensures.refused c.in-Err.ensures.taken c.in-OutOfMemory.is))

pub returns-in-Ok-Some : goal.returns-in-Ok-Some
returns-in-Ok-Some g c =
    let same = refused_same c.in-Ok-Some.line c.args.self.now c.write.new.self c.in-Err.fault c.in-Err.ensures.refused c.in-Err.ensures.taken c.in_default.not-OutOfMemory in
    record {
      written = wrote_refused c.in-Ok-Some.line c.args.self.now c.write.new.self c.in-Err.fault c.in-Err.ensures.refused c.in-Err.ensures.taken c.in_default.not-OutOfMemory c.args.precision c.args.now c.args.text.now
          (c.in-Ok-Some.ensures.value ∙ ap Ok c.in-Ok-Some.field-0-is);
      inventory = ap inventory_of same;
      unchanged = λ other. same;
    }

-- ---- no line

pub returns-in-Ok-None-clause-written : goal.returns-in-Ok-None-clause-written
returns-in-Ok-None-clause-written g c = λ s i. (s, WritesText.passes_over (c.in-Ok-None.ensures.value ∙ ap Ok c.in-Ok-None.field-0-is), i)

pub returns-in-Err-Fault-clause-written : goal.returns-in-Err-Fault-clause-written
returns-in-Err-Fault-clause-written g c = λ s i. (s, WritesText.misreads c.in-Err-Fault.fault (rw c.in-Err-Fault.field-0-is at c.in-Err-Fault.ensures.value), i)

pub returns-clause-written : goal.returns-clause-written
returns-clause-written g c = λ s i. (s, RunsOutOfMemory.in_parsing (rw c.in-Err-OutOfMemory.field-0-is at c.in-Err-OutOfMemory.ensures.memory), i)

pub returns-clause-inventory : goal.returns-clause-inventory
returns-clause-inventory g c = not_grown (facts_of_text (parts_in c.args.precision c.args.now c.args.text.now)) c.args.self.now

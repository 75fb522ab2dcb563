use Rattle.std.proofs.Common.{◌≡◌, ℕ, ◌≤◌, List, length, map, string_bytes, sym, ap, subst, ◌∙◌, arith, Bor}
use Rattle.std.proofs.lemmas.List.{length-map}
use Rattle.std.specs.Prelude.{String, IfOk, OnOk}
use Rattle.ts_core.specs.facts.Facts.{Text, Series}
use Rattle.ts_core.specs.lists.Members.{Among}
use Rattle.ts_core.specs.lists.Numbered.{IsAt}
use Rattle.ts_core.specs.text.Texts.{borrowed_pairs, borrowed_series}
use Rattle.ts_line.specs.Names.{IsStatable}
use Rattle.ts_store.specs.image.Building.{with_built_series}
use Rattle.ts_image.specs.declared.read.series.KeyParts.{KeyParts}
use Rattle.ts_image.specs.SeriesParts.{tag_of, key_of}
use Rattle.ts_image.proofs.NamedKeys.{series_named}
use Rattle.ts_image.proofs.SeriesMaking.{same_key}
use Rattle.ts_image.proofs.build.store.add_key.Goals as goal

borrowed : {A : Type 0} (k : KeyParts A) (m : Text) (ts us : List (Bor Text × Bor Text)) (ps : List (String A × String A)) → m ≡ string_bytes k.measurement → ts ≡ us → borrowed_pairs us ≡ map tag_of ps → ps ≡ k.tags.items
    → borrowed_series m ts ≡ key_of k
borrowed {A} k m ts us ps e f g h = same_key e (ap (λ (xs : List (Bor Text × Bor Text)). borrowed_pairs xs) f ∙ g ∙ ap (λ (xs : List (String A × String A)). map tag_of xs) h)

pub borrow_tags-requires-clause-few : goal.borrow_tags-requires-clause-few
borrow_tags-requires-clause-few g c =
    let few : length (map tag_of c.args.key.now.tags.items) ≤ 64 = c.requires.key.few in
    let n = length-map c.args.key.now.tags.items (tag_of {A = g.row.A.Denot}) in
    let e = ap length c.deref.ensures.value in
    omega (arith, few, n, e)

pub register-requires-clause-absent : goal.register-requires-clause-absent
register-requires-clause-absent g c a =
    let e = borrowed c.args.key.now c.as_str.result.now c.deref-2.result.now c.borrow_tags.new.borrowed.items c.deref.result.now c.as_str.ensures.value c.deref-2.ensures.0 c.borrow_tags.ensures c.deref.ensures.value in
    c.requires.absent (subst (λ (s : Series). Among s c.args.builder.now.series) e a)

pub register-requires-clause-named : goal.register-requires-clause-named
register-requires-clause-named g c =
    let e = borrowed c.args.key.now c.as_str.result.now c.deref-2.result.now c.borrow_tags.new.borrowed.items c.deref.result.now c.as_str.ensures.value c.deref-2.ensures.0 c.borrow_tags.ensures c.deref.ensures.value in
    subst IsStatable (sym e) (series_named (key_of c.args.key.now) c.requires.key)

pub returns : goal.returns
returns g c =
    let e = borrowed c.args.key.now c.as_str.result.now c.deref-2.result.now c.borrow_tags.new.borrowed.items c.deref.result.now c.as_str.ensures.value c.deref-2.ensures.0 c.borrow_tags.ensures c.deref.ensures.value in
    record {
      number = subst (λ (s : Series). IfOk c.register.result (λ (n : ℕ). IsAt c.register.new.builder.series n s)) e c.register.ensures.number;
      ok = subst (λ (s : Series). OnOk c.register.result (c.register.new.builder ≡ with_built_series s c.args.builder.now)) e c.register.ensures.ok;
    }

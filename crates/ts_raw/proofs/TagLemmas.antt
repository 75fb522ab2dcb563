-- Series by their tags: a walk along the chain of a hash, and one more series.
use Rattle.std.proofs.Common.{◌≡◌, ℕ, zero, suc, ◌+◌, ◌<◌, nat_lt, nat_eq, true, false, cond, List, [], ◌∷◌, ◌++◌, length, get_or, Option, Some, None, unwrap_or, refl, sym, ◌∙◌, ap, subst, inl, inr, ⊎_elim, arith, eq-eqb, lt-ltb, eqb-true, ltb-true, ◌⊎◌, Result, Ok, Err, IfOk}
use Rattle.std.proofs.lemmas.Option.{slice_get-get_or, same_Some}
use Rattle.std.specs.declared.hash.RandomState.{RandomState}
use Rattle.ts_core.specs.lists.Members.{Among}
use Rattle.ts_core.specs.lists.Numbered.{IsAt}
use Rattle.ts_core.specs.facts.Facts.{Text, Series}
use Rattle.ts_raw.specs.declared.index.tags.TagLink.{TagLink}
use Rattle.ts_raw.specs.TagChains.{TagChains, head_of, no_link, next_of, Leads, LeadsTo, AreHeadsWithin, KeepLeads, AllLead, AreTagged, AreAmongTagged, hash_of_tag}

-- an upper bound on the links that a walk still visits
abbrev pub links_left : Option ℕ → ℕ
links_left None = 0
links_left (Some i) = i + 1

abbrev pub IsWithin : List TagLink → Option ℕ → Type 0
IsWithin links next = (i : ℕ) → next ≡ Some i → i < length links

-- the series of the chain are found, or are those of the links from the next on
pub record IsGathered (links : List TagLink) (head : Option ℕ) (found : List ℕ) (next : Option ℕ) : Type 0 where
  pub within : IsWithin links next
  pub rest : (n : ℕ) → (k : ℕ) × Leads links k head n → Among n found ⊎ ((k : ℕ) × Leads links k next n)

-- the default for a missing member doesn't matter
pub same_member : {X : Type 0} (xs : List X) (i : ℕ) (d e : X) → i < length xs → get_or xs i d ≡ get_or xs i e
same_member xs i d e l = same_Some (get_or xs i d) (get_or xs i e) (sym (slice_get-get_or xs i d l) ∙ slice_get-get_or xs i e l)

pub among_end : {X : Type 0} (xs : List X) (x : X) → Among x (xs ++ x ∷ [])
among_end [] x = inl refl
among_end (y ∷ ys) x = inr (among_end ys x)

pub among_before : {X : Type 0} (xs ys : List X) (x : X) → Among x xs → Among x (xs ++ ys)
among_before [] ys x h = absurd h
among_before (z ∷ zs) ys x h = ⊎_elim {C = Among x (z ∷ zs ++ ys)} (λ e. inl e) (λ k. inr (among_before zs ys x k)) h

next_below : (l : TagLink) (i j : ℕ) → next_of l i ≡ Some j → j < i
next_below l i j e =
    elim (nat_lt l.older i) as (λ v. nat_lt l.older i ≡ v → cond v (Some l.older) None ≡ Some j → j < i) [
      | true ↦ λ t s. subst (λ m. m < i) (same_Some l.older j s) (ltb-true l.older i t)
      | false ↦ λ t s. absurd (cc)
    ] refl e

pub links_fall : (l : TagLink) (i : ℕ) → links_left (next_of l i) < i + 1
links_fall l i = fall (next_of l i) refl
  where
    fall : (o : Option ℕ) → next_of l i ≡ o → links_left o < i + 1
    fall None e = omega arith
    fall (Some j) e = let below = next_below l i j e in omega (arith, below)

module _ (links : List TagLink) (head : Option ℕ) where
  pub gathered_none : IsWithin links head → IsGathered links head [] head
  gathered_none w = record { within = w; rest = λ n leads. inr leads }

  module _ (found : List ℕ) where
    pub gathered_on : (i : ℕ) → IsGathered links head found (Some i) → IsGathered links head (found ++ (get_or links i no_link).series ∷ []) (next_of (get_or links i no_link) i)
    unfolding Leads
    gathered_on i s =
        let l : TagLink = get_or links i no_link in
        let all : List ℕ = found ++ l.series ∷ [] in
        record {
          within = λ j e. let below = next_below l i j e in let at : i < length links = s.within i refl in omega (arith, below, at);
          rest = λ n leads.
              ⊎_elim {C = Among n all ⊎ ((k : ℕ) × Leads links k (next_of l i) n)} (λ a. inl (among_before found (l.series ∷ []) n a))
              (λ t. on n t.0 t.1) (s.rest n leads);
        }
      where
        on : (n k : ℕ) → Leads links k (Some i) n → Among n (found ++ (get_or links i no_link).series ∷ []) ⊎ ((m : ℕ) × Leads links m (next_of (get_or links i no_link) i) n)
        on n zero leads = absurd leads
        on n (suc k) leads =
            ⊎_elim {C = Among n (found ++ (get_or links i no_link).series ∷ []) ⊎ ((m : ℕ) × Leads links m (next_of (get_or links i no_link) i) n)}
            (λ (e : (get_or links i no_link).series ≡ n). inl (subst (λ m. Among m (found ++ (get_or links i no_link).series ∷ [])) e (among_end found (get_or links i no_link).series)))
            (λ later. inr (k, later)) leads

    pub gathered_all : IsGathered links head found None → (n k : ℕ) → Leads links k head n → Among n found
    unfolding Leads
    gathered_all s n k leads = ⊎_elim {C = Among n found} (λ a. a) (λ t. absurd t.1) (s.rest n (k, leads))

-- ---- one more link

get_or_before : {X : Type 0} (xs ys : List X) (i : ℕ) (d : X) → i < length xs → get_or (xs ++ ys) i d ≡ get_or xs i d
get_or_before [] ys i d l = absurd (omega (arith, l))
get_or_before (x ∷ xs) ys zero d l = refl
get_or_before (x ∷ xs) ys (suc i) d l = get_or_before xs ys i d (omega (arith, l))

get_or_end : {X : Type 0} (xs : List X) (x d : X) → get_or (xs ++ x ∷ []) (length xs) d ≡ x
get_or_end [] x d = refl
get_or_end (y ∷ ys) x d = get_or_end ys x d

module _ (links : List TagLink) (link : TagLink) where
  leads_still : (k : ℕ) (next : Option ℕ) (n : ℕ) → IsWithin links next → Leads links k next n → Leads (links ++ link ∷ []) k next n
  unfolding Leads
  leads_still k None n w leads = leads
  leads_still zero (Some i) n w leads = leads
  leads_still (suc k) (Some i) n w leads =
      let at : i < length links = w i refl in
      let l : TagLink = get_or links i no_link in
      subst (λ (x : TagLink). (x.series ≡ n) ⊎ Leads (links ++ link ∷ []) k (next_of x i) n) (sym (get_or_before links (link ∷ []) i no_link at))
      (⊎_elim {C = (l.series ≡ n) ⊎ Leads (links ++ link ∷ []) k (next_of l i) n} (λ e. inl e)
      (λ later. inr (leads_still k (next_of l i) n (λ j e. let below = next_below l i j e in omega (arith, below, at)) later)) leads)

module _ (newest newest' : List (ℕ × ℕ)) (links : List TagLink) (hash series older count : ℕ) (heads : AreHeadsWithin (record { newest = newest; links = links }))
    (moved : (q : ℕ) → head_of newest' q ≡ cond (nat_eq hash q) (Some (length links)) (head_of newest q)) where
  abbrev more : List TagLink
  more = links ++ record { series = series; older = older; count = count } ∷ []

  at_end : get_or more (length links) no_link ≡ record { series = series; older = older; count = count }
  at_end = get_or_end links (record { series = series; older = older; count = count }) no_link

  pub pushed_leads : LeadsTo (record { newest = newest'; links = more }) hash series
  unfolding Leads
  pushed_leads =
      let is : head_of newest' hash ≡ Some (length links) = moved hash ∙ ap (λ v. cond v (Some (length links)) (head_of newest hash)) (eq-eqb hash hash refl) in
      (1, subst (λ head. Leads more 1 head series) (sym is) (inl (ap (λ (l : TagLink). l.series) at_end)))

  pub pushed_kept : older ≡ unwrap_or (head_of newest hash) (length links) → KeepLeads (record { newest = newest; links = links }) (record { newest = newest'; links = more })
  unfolding Leads
  pushed_kept is q n leads =
      elim (nat_eq hash q) as (λ v. nat_eq hash q ≡ v → head_of newest' q ≡ cond v (Some (length links)) (head_of newest q) → (k : ℕ) × Leads more k (head_of newest' q) n) [
        | true ↦ λ e s. let same : hash ≡ q = eqb-true hash q e in newer (head_of newest hash) refl q s (subst (λ h. Leads links leads.0 (head_of newest h) n) (sym same) leads.1)
        | false ↦ λ e s. (leads.0, subst (λ head. Leads more leads.0 head n) (sym s) (leads_still links (record { series = series; older = older; count = count }) leads.0 (head_of newest q) n (λ i e. heads q i e) leads.1))
      ] refl (moved q)
    where
      newer : (head : Option ℕ) → head_of newest hash ≡ head → (q : ℕ) → head_of newest' q ≡ Some (length links) → Leads links leads.0 (head_of newest hash) n → (k : ℕ) × Leads more k (head_of newest' q) n
      newer None e q s l = absurd (subst (λ head. Leads links leads.0 head n) e l)
      newer (Some i) e q s l =
          let below : i < length links = heads hash i e in
          let own : older ≡ i = is ∙ ap (λ head. unwrap_or head (length links)) e in
          let before : next_of (get_or more (length links) no_link) (length links) ≡ Some i =
          ap (λ (x : TagLink). next_of x (length links)) at_end ∙ ap (λ m. next_of (record { series = series; older = m; count = count }) (length links)) own
          ∙ ap (λ v. cond v (Some i) None) (lt-ltb i (length links) below) in
          let still : Leads more leads.0 (Some i) n =
          leads_still links (record { series = series; older = older; count = count }) leads.0 (Some i) n (λ j f. subst (λ m. m < length links) (same_Some i j f) below) (subst (λ head. Leads links leads.0 head n) e l) in
          (suc leads.0, subst (λ head. Leads more (suc leads.0) head n) (sym s) (inr (subst (λ head. Leads more leads.0 head n) (sym before) still)))

-- ---- one more series

pub if_ok : {X E : Type 0} {P Q : X → Type 0} (r : Result X E) → ((x : X) → P x → Q x) → IfOk r P → IfOk r Q
if_ok (Ok x) f p = f x p
if_ok (Err e) f p = tt

at_push : {X : Type 0} (xs : List X) (x : X) (n : ℕ) (y : X) → IsAt (xs ++ x ∷ []) n y → IsAt xs n y ⊎ ((n ≡ length xs) × (y ≡ x))
at_push [] x zero y h = inr (refl, sym (same_Some x y h))
at_push [] x (suc n) y h = absurd (cc)
at_push (z ∷ zs) x zero y h = inl h
at_push (z ∷ zs) x (suc n) y h = ⊎_elim {C = IsAt (z ∷ zs) (suc n) y ⊎ ((suc n ≡ length (z ∷ zs)) × (y ≡ x))} (λ k. inl k) (λ e. inr (ap suc e.0, e.1)) (at_push zs x n y h)

module _ (seed : RandomState) (series : List Series) (chains chains' : TagChains) (tagged : AreTagged seed series chains) (kept : KeepLeads chains chains') where
  pub tagged_still : AreTagged seed series chains'
  tagged_still n s at t a = kept (hash_of_tag seed s.measurement t) n (tagged n s at t a)

  pub tagged_more : (key : Series) → AllLead seed chains' key.measurement key.tags (length series) → AreTagged seed (series ++ key ∷ []) chains'
  tagged_more key lead n s at =
      ⊎_elim {C = AllLead seed chains' s.measurement s.tags n} (λ before. tagged_still n s before)
      (λ e. subst (λ m. AllLead seed chains' s.measurement s.tags m) (sym e.0) (subst (λ (x : Series). AllLead seed chains' x.measurement x.tags (length series)) (sym e.1) lead))
      (at_push series key n s at)

-- the series of a measurement with a tag are among those that its hash leads to
pub among_led : (seed : RandomState) (series : List Series) (chains : TagChains) → AreTagged seed series chains → (measurement : Text) (tag : Text × Text) (hash : ℕ) → hash ≡ hash_of_tag seed measurement tag → (found : List ℕ)
    → ((n : ℕ) → LeadsTo chains hash n → Among n found) → AreAmongTagged series measurement tag found
among_led seed series chains tagged measurement tag hash is found all n s at of has =
    all n (subst (λ h. LeadsTo chains h n) (sym is) (subst (λ m. LeadsTo chains (hash_of_tag seed m tag) n) of (tagged n s at tag has)))

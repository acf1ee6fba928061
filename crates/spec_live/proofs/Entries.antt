-- What holds of each touch of an entry holds of each entry along a path. What isn't there yet counts as blank.
use Rattle.std.proofs.Common.{◌≡◌, ℕ, ◌≤◌, List, [], ◌∷◌, ◌++◌, Option, Some, None, inl, inr, refl, sym, ◌∙◌, ap, subst, length, length-append, arith, Bool, true, false}
use Rattle.std.proofs.lemmas.Bool.{cases_eq, false≢true}
use Rattle.std.proofs.lemmas.Option.{slice_get-map}
use Rattle.std.specs.List.{slice_get}
use Rattle.std.specs.Prelude.{unwrap_or}
use Rattle.std.specs.Option.{option_map, option_and_then}
use Rattle.muck_laws.proofs.Mapped.{length_map}
use Rattle.muck_laws.proofs.Places.{read_more}
use Rattle.spec_live.specs.Objects.{Entry, mark_in, due, changed_at}
use Rattle.spec_live.specs.Saving.{relinked}
use Rattle.spec_live.specs.Making.{blank_entry}
use Rattle.spec_live.proofs.Keeping.{Order, Path, along}
use Rattle.spec_live.proofs.Lists.{length_changed, get_changed_same, get_changed_other}
use Rattle.spec_live.proofs.Savings.{due_where, links_differ, get_relinked, length_relinked}
use Rattle.spec_live.proofs.Steps.{Lines, Gone, Told, May, Touch, lines, vanishes, tells, dues, Part, each, at, grows, Step, parts, settles, Walk}

abbrev pub seen : Option Entry → Entry
seen o = unwrap_or o blank_entry

abbrev pub Each : (Entry → Entry → Type 0) → List Entry → List Entry → Type 0
Each R es fs = (k : ℕ) → R (seen (slice_get es k)) (seen (slice_get fs k))

pub each_order : {R : Entry → Entry → Type 0} → Order R → Order (Each R)
each_order o = record { itself = λ es k. o.itself _; both = λ es fs gs p q k. o.both _ _ _ (p k) (q k) }

-- each touch that may be is in R
abbrev pub Holds : May → (Entry → Entry → Type 0) → Type 0
Holds may R = (listing : Bool) (e g : Entry) → Touch may listing e g → R e g

seen_by : {R : Entry → Entry → Type 0} → Order R → (f : Entry → Entry) (o q : Option Entry) → ((e : Entry) → o ≡ Some e → R e (f e)) → q ≡ option_map f o → R (seen o) (seen q)
seen_by {R} r f o q h e = subst (λ z. R (seen o) (seen z)) (sym e) (by_cases o h)
  where
    by_cases : (o : Option Entry) → ((e : Entry) → o ≡ Some e → R e (f e)) → R (seen o) (seen (option_map f o))
    by_cases None h = r.itself _
    by_cases (Some x) h = h x refl

seen_as : {R : Entry → Entry → Type 0} → Order R → (o q : Option Entry) → seen q ≡ seen o → R (seen o) (seen q)
seen_as {R} r o q e = subst (λ z. R (seen o) z) (sym e) (r.itself _)

-- a fact of entries, along a path that writes lists or not
module _ {R : Entry → Entry → Type 0} (may : May) (listing : Bool) (r : Order R) (h : (e g : Entry) → Touch may listing e g → R e g) where
  each_part : (es fs : List Entry) → Part may listing es fs → Each R es fs
  each_part _ _ (each f es t) k = seen_by r f _ _ (λ e _. along r h e (f e) (t e)) (slice_get-map f es k)
  each_part _ _ (at n f es t) k = elim (cases_eq k n) [
    | inl e ↦
        let P : ℕ → Type 0 = λ j. R (seen (slice_get es j)) (seen (slice_get (changed_at n f es) j)) in
        subst P (sym e) (seen_by r f _ _ (λ x s. along r h x (f x) (t x s)) (get_changed_same es n f))
    | inr e ↦ seen_as r (slice_get es k) (slice_get (changed_at n f es) k) (ap (λ z. seen z) (get_changed_other es n k f e))
  ]
  each_part _ _ (grows es m) k = seen_as r (slice_get es k) (slice_get (es ++ blank_entry ∷ []) k) (read_more (λ z. seen z) es blank_entry k refl)

  pub each_parts : (es fs : List Entry) → Path (Part may listing) es fs → Each R es fs
  each_parts es fs p = along (each_order r) each_part es fs p

each_settled : {R : Entry → Entry → Type 0} (may : May) → Order R → Holds may R → (before fs : List Entry) → Each R fs (relinked before fs)
each_settled {R} may r h before fs k = seen_by r (due_where (links_differ before fs k)) _ _ (λ e _. by_cases (links_differ before fs k) e) (get_relinked before fs k)
  where
    by_cases : (b : Bool) (e : Entry) → R e (due_where b e)
    by_cases true e = h true e (due e) (dues e refl)
    by_cases false e = r.itself e

-- an order, and a line a touch
pub each_walk : {R : Entry → Entry → Type 0} (may : May) → Order R → Holds may R → (es fs : List Entry) → Walk may es fs → Each R es fs
each_walk {R} may r h es fs p = along (each_order r) step es fs p
  where
    step : (es fs : List Entry) → Step may es fs → Each R es fs
    step _ _ (parts es fs p) = each_parts may false r (h false) es fs p
    step _ _ (settles es fs l p) = (each_order r).both _ _ _ (each_parts may true r (h true) es fs p) (each_settled may r h es fs)

-- No number goes away.

abbrev pub NoFewer : List Entry → List Entry → Type 0
NoFewer es fs = length es ≤ length fs

pub fewer_order : Order NoFewer
fewer_order = record { itself = λ es. omega arith; both = λ es fs gs p q. omega (arith, p, q) }

fewer_part : (may : May) (listing : Bool) (es fs : List Entry) → Part may listing es fs → NoFewer es fs
fewer_part may listing _ _ (each f es t) = omega (arith, length_map f es)
fewer_part may listing _ _ (at n f es t) = omega (arith, length_changed es n f)
fewer_part may listing _ _ (grows es m) = omega (arith, length-append es (blank_entry ∷ []))

pub fewer_walk : (may : May) (es fs : List Entry) → Walk may es fs → NoFewer es fs
fewer_walk may es fs p = along fewer_order step es fs p
  where
    step : (es fs : List Entry) → Step may es fs → NoFewer es fs
    step _ _ (parts es fs p) = along fewer_order (fewer_part may false) es fs p
    step _ _ (settles es fs l p) = omega (arith, along fewer_order (fewer_part may true) es fs p, length_relinked es fs)

-- What is to be told is what was, where none of the labels Lines, Gone and Told may be touched.

pub mark_read : (es : List Entry) (n : ℕ) → mark_in es n ≡ (seen (slice_get es n)).mark
unfolding mark_in blank_entry
mark_read es n = by_cases (slice_get es n)
  where
    by_cases : (q : Option Entry) → option_and_then (λ (e : Entry). e.mark) q ≡ (seen q).mark
    by_cases None = refl
    by_cases (Some e) = refl

abbrev SameMark : Entry → Entry → Type 0
SameMark e g = g.mark ≡ e.mark

mark_touch : (may : May) → may Lines ≡ false → may Gone ≡ false → may Told ≡ false → Holds may SameMark
mark_touch may l g t _ _ _ (lines ls e h) = absurd (false≢true (sym l ∙ h))
mark_touch may l g t _ _ _ (vanishes e h i) = absurd (false≢true (sym g ∙ h))
mark_touch may l g t _ _ _ (tells e h) = absurd (false≢true (sym t ∙ h))
mark_touch may l g t _ _ _ touch = refl

pub mark_walk : (may : May) → may Lines ≡ false → may Gone ≡ false → may Told ≡ false → (es fs : List Entry) → Walk may es fs → (n : ℕ) → mark_in fs n ≡ mark_in es n
mark_walk may l g t es fs p n = mark_read fs n ∙ each_walk may (record { itself = λ e. refl; both = λ d e f r s. s ∙ r }) (mark_touch may l g t) es fs p n ∙ sym (mark_read es n)

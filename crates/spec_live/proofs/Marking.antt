-- What changes becomes due: each path on which no dump begins leaves an object due or as it was.
use Rattle.std.proofs.Common.{◌≡◌, ℕ, List, [], Option, Some, None, refl, sym, ◌∙◌, ap, subst, Bool, true, false, cond, not}
use Rattle.std.proofs.lemmas.Bool.{false≢true, or_parts}
use Rattle.std.specs.List.{slice_get}
use Rattle.std.specs.Option.{option_map, option_map_or}
use Rattle.spec_live.specs.declared.saving.Saving.{Saving}
use Rattle.spec_live.specs.declared.saving.Saving.TheVariants.{Due}
use Rattle.spec_live.specs.Objects.{Entry, dbref_of, same, object_in, entry_list, list_in}
use Rattle.spec_live.specs.Saving.{saving_in, is_due, Links, links_in, same_links, IsAsBefore, Marked}
use Rattle.spec_live.specs.Making.{blank_entry}
use Rattle.spec_live.specs.Recycling.{without_ties, is_tied_to_number, gone_entry}
use Rattle.spec_live.proofs.Keeping.{Order, along}
use Rattle.spec_live.proofs.Savings.{object_relinked, saving_relinked}
use Rattle.spec_live.proofs.Dues.{links_alike, links_relinked, same_equal}
use Rattle.spec_live.proofs.Steps.{Begun, May, Touch, unties, vanishes, lists, tells, resaves, begins, stills, Step, parts, settles, Walk}
use Rattle.spec_live.proofs.Entries.{seen, Each, Holds, each_parts}

pub marked_itself : (es : List Entry) → Marked es es
marked_itself es = λ k early. record { early = early; object = refl; links = refl }

pub marked_both : (es fs gs : List Entry) → Marked es fs → Marked fs gs → Marked es gs
marked_both es fs gs p q = λ k early.
    let b : IsAsBefore fs gs k = q k early in
    let a : IsAsBefore es fs k = p k b.early in
    record { early = a.early; object = b.object ∙ a.object; links = b.links ∙ a.links }

pub marked_order : Order Marked
marked_order = record { itself = marked_itself; both = marked_both }

pub marked_as : (es fs gs : List Entry) → gs ≡ fs → Marked es fs → Marked es gs
marked_as es fs gs e m = let P : List Entry → Type 0 = λ z. Marked es z in subst P (sym e) m

-- One entry: what isn't due wasn't, and has the same fields.

record HasEntry (e g : Entry) : Type 0 where
  early : is_due e.saving ≡ false
  object : g.object ≡ e.object

abbrev KeepsEntry : Entry → Entry → Type 0
KeepsEntry e g = is_due g.saving ≡ false → HasEntry e g

entry_order : Order KeepsEntry
entry_order = record {
  itself = λ e early. record { early = early; object = refl };
  both = λ e f g p q early. let b : HasEntry f g = q early in let a : HasEntry e f = p b.early in record { early = a.early; object = b.object ∙ a.object };
}

untied_by : (d : ℕ) (e : Entry) (b : Bool) → is_tied_to_number d e.object ≡ b → is_due (cond b Due e.saving) ≡ false → (is_due e.saving ≡ false) × (without_ties d e.object ≡ e.object)
untied_by d e true h early = absurd (false≢true (sym early))
untied_by d e false h early = let both : (same e.object.home (dbref_of d) ≡ false) × (same e.object.link (dbref_of d) ≡ false) = or_parts _ _ h in (early, rw (both.0, both.1) refl)

entry_touch : (may : May) → may Begun ≡ false → Holds may KeepsEntry
unfolding gone_entry
entry_touch may n b _ _ (unties d e h) early = let u = untied_by d e (is_tied_to_number d e.object) refl early in record { early = u.0; object = u.1 }
entry_touch may n b _ _ (lists cs xs e h) early = record { early = early; object = refl }
entry_touch may n b _ _ (tells e h) early = record { early = early; object = refl }
entry_touch may n b _ _ (resaves f e h s) early = record { early = s e.saving early; object = refl }
entry_touch may n b _ _ (begins e h) early = absurd (false≢true (sym n ∙ h))
entry_touch may n b _ _ (stills e h) early = record { early = early; object = refl }
entry_touch may n b _ _ touch early = absurd (false≢true (sym early))

-- its lists, where none is written
abbrev SameLists : Entry → Entry → Type 0
SameLists e g = (v : Bool) → entry_list v g ≡ entry_list v e

lists_order : Order SameLists
lists_order = record { itself = λ e v. refl; both = λ e f g p q v. q v ∙ p v }

lists_touch : (may : May) (b : Bool) → b ≡ false → (e g : Entry) → Touch may b e g → SameLists e g
lists_touch may b n _ _ (vanishes e h l) v = absurd (false≢true (sym n ∙ l))
lists_touch may b n _ _ (lists cs xs e l) v = absurd (false≢true (sym n ∙ l))
lists_touch may b n _ _ touch v = refl

-- All of them.

record HasFields (es fs : List Entry) (k : ℕ) : Type 0 where
  early : is_due (saving_in es k) ≡ false
  object : object_in fs k ≡ object_in es k

saving_seen : (o : Option Entry) → option_map_or (λ (e : Entry). e.saving) o Due ≡ (seen o).saving
unfolding blank_entry
saving_seen None = refl
saving_seen (Some e) = refl

list_seen : (v : Bool) (o : Option Entry) → option_map_or (entry_list v) o [] ≡ entry_list v (seen o)
unfolding blank_entry
list_seen true None = refl
list_seen false None = refl
list_seen v (Some e) = refl

fields_by : (o q : Option Entry) → KeepsEntry (seen o) (seen q) → is_due (seen q).saving ≡ false → (is_due (seen o).saving ≡ false) × (option_map (λ (x : Entry). x.object) q ≡ option_map (λ (x : Entry). x.object) o)
unfolding blank_entry
fields_by o None h late = absurd (false≢true (sym late))
fields_by None (Some g) h late = absurd (false≢true (sym (h late).early))
fields_by (Some e) (Some g) h late = let a : HasEntry e g = h late in (a.early, ap (λ z. Some z) a.object)

fields : (es fs : List Entry) → Each KeepsEntry es fs → (k : ℕ) → is_due (saving_in fs k) ≡ false → HasFields es fs k
unfolding saving_in object_in
fields es fs h k early =
    let a = fields_by (slice_get es k) (slice_get fs k) (h k) (ap (λ s. is_due s) (sym (saving_seen (slice_get fs k))) ∙ early) in
    record { early = ap (λ s. is_due s) (saving_seen (slice_get es k)) ∙ a.0; object = a.1 }

lists_kept : (es fs : List Entry) → Each SameLists es fs → (v : Bool) (p : ℕ) → list_in v fs p ≡ list_in v es p
unfolding list_in
lists_kept es fs h v p = list_seen v (slice_get fs p) ∙ h p v ∙ sym (list_seen v (slice_get es p))

-- what is linked otherwise is due
same_by : (b : Bool) (s : Saving) → is_due (cond (not b) Due s) ≡ false → (b ≡ true) × (is_due s ≡ false)
same_by true s h = (refl, h)
same_by false s h = absurd (false≢true (sym h))

marked_step : (may : May) → may Begun ≡ false → (es fs : List Entry) → Step may es fs → Marked es fs
marked_step may n _ _ (parts es fs p) k early =
    let a : HasFields es fs k = fields es fs (each_parts may false entry_order (entry_touch may n false) es fs p) k early in
    record { early = a.early; object = a.object; links = links_alike es fs k a.object (lists_kept es fs (each_parts may false lists_order (lists_touch may false refl) es fs p)) }
marked_step may n _ _ (settles es fs l p) k early =
    let a : Links = links_in es k in
    let b : Links = links_in fs k in
    let late : (same_links a b ≡ true) × (is_due (saving_in fs k) ≡ false) = same_by (same_links a b) (saving_in fs k) (ap (λ s. is_due s) (sym (saving_relinked es fs k)) ∙ early) in
    let was : HasFields es fs k = fields es fs (each_parts may true entry_order (entry_touch may n true) es fs p) k late.1 in
    record { early = was.early; object = object_relinked es fs k ∙ was.object; links = links_relinked es fs k ∙ sym (same_equal a b late.0) }

pub marked_walk : (may : May) → may Begun ≡ false → (es fs : List Entry) → Walk may es fs → Marked es fs
marked_walk may n es fs p = along marked_order (marked_step may n) es fs p

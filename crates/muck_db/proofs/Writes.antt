-- Writes of whole slots, seen as changes of entries.
use Rattle.std.proofs.Common.{◌≡◌, ℕ, ◌+◌, ◌<◌, ◌≤◌, List, [], ◌∷◌, ◌++◌, Option, Some, None, inl, inr, refl, sym, ◌∙◌, ap, subst, length, arith, length-append, Bool, true, false, map}
use Rattle.std.proofs.lemmas.Bool.{cases_eq, cases_lt, ne_eqb, eq-eqb, false≢true}
use Rattle.std.proofs.lemmas.Option.{slice_get-map, slice_get_past}
use Rattle.std.specs.List.{slice_get}
use Rattle.std.specs.Option.{option_map, option_map_or, option_and_then}
use Rattle.muck_laws.proofs.Mapped.{length_map}
use Rattle.muck_laws.proofs.Options.{kept_then}
use Rattle.muck_laws.proofs.Places.{get_ext, get_more, got_last, read_more}
use Rattle.spec_live.specs.declared.object.Object.{Object}
use Rattle.spec_live.specs.declared.mark.Mark.{Mark}
use Rattle.spec_live.specs.declared.saving.Saving.TheVariants.{Due}
use Rattle.spec_live.specs.Chain.{walk, IsChain, Ends}
use Rattle.spec_live.specs.Objects.{Entry, changed_at, is_garbage, garbage, on_object, with_object, object_in, mark_in}
use Rattle.spec_live.specs.Making.{blank_entry, objects_grown}
use Rattle.spec_live.specs.Saving.{saving_in}
use Rattle.spec_live.proofs.Chains.{ends_from}
use Rattle.spec_live.proofs.Lists.{length_changed, get_changed_same, get_changed_other, read_kept}
use Rattle.spec_live.proofs.Dues.{saving_past, saving_here, saving_elsewhere, saving_more as entry_more}
use Rattle.spec_live.proofs.Readers.{entries_ext, object_named, object_unnamed, list_named, mark_named}
use Rattle.spec_live.proofs.Tracing.{stood_named, stood_more as stood_blank}
use Rattle.spec_live.proofs.Orders.{chain_wider}
use Rattle.spec_live.proofs.CreationLaws.{object_more, list_more, grown_same, grown_more}
use Rattle.muck_db.specs.declared.slot.Slot.{Slot}
use Rattle.muck_db.specs.inner.Slots.{shown, object_at, kept_at, next_at, first_of, first_at, mark_at, saving_at, stood_at, kind_at, list_at, on_slot, with_mark, with_kept, new_slot, object_put, entry_of, entries_of}
use Rattle.muck_db.proofs.Readers.{length-entries_of, object_in-entries_of, list_in-entries_of, mark_in-entries_of, saving_in-entries_of, stood_in-entries_of}
use Rattle.muck_db.proofs.Linked.{chain_over}
use Rattle.muck_db.proofs.Bridge.{list_is, walk_same}

-- the same slot in another table with the same links
entry_over : (old new : List Slot) (s : Slot) → length new ≡ length old → ((x : ℕ) → next_at new x ≡ next_at old x) → entry_of new s ≡ entry_of old s
unfolding entry_of
entry_over old new s n h =
    let make : List ℕ → List ℕ → Entry = λ c x. record { object = shown s; contents = c; exits = x; mark = s.mark; saving = s.saving; stood = s.stood } in
    let at : (o : Option ℕ) → walk (length new) (next_at new) o ≡ walk (length old) (next_at old) o = λ o. rw n (walk_same (length old) (next_at old) (next_at new) o h) in
    ap (λ c. make c (walk (length new) (next_at new) s.first_exit)) (at s.first_content) ∙ ap (λ x. make (walk (length old) (next_at old) s.first_content) x) (at s.first_exit)

next_kept : (n k : ℕ) (f : Slot → Slot) (slots : List Slot) → ((s : Slot) → (f s).next ≡ s.next) → next_at (changed_at n f slots) k ≡ next_at slots k
unfolding next_at
next_kept n k f slots h = read_kept (λ (s : Slot). s.next) slots n k f h

-- a write of one slot that leaves its link, as a change of one entry
pub entries_changed : (n : ℕ) (f : Slot → Slot) (g : Entry → Entry) (slots : List Slot) → ((s : Slot) → (f s).next ≡ s.next)
    → ((s : Slot) → slice_get slots n ≡ Some s → entry_of slots (f s) ≡ g (entry_of slots s)) → entries_of (changed_at n f slots) ≡ changed_at n g (entries_of slots)
unfolding entries_of
entries_changed n f g slots links same = get_ext (map (entry_of (changed_at n f slots)) (changed_at n f slots)) (changed_at n g (map (entry_of slots) slots)) (λ k.
    slice_get-map (entry_of (changed_at n f slots)) (changed_at n f slots) k ∙ over (slice_get (changed_at n f slots) k) ∙ elim (cases_eq k n) [
      | inl e ↦ rw e (ap (λ (o : Option Slot). option_map (entry_of slots) o) (get_changed_same slots n f) ∙ by_cases (slice_get slots n) refl ∙ sym (get_changed_same (map (entry_of slots) slots) n g ∙ ap (λ (o : Option Entry). option_map g o) (slice_get-map (entry_of slots) slots n)))
      | inr e ↦ ap (λ (o : Option Slot). option_map (entry_of slots) o) (get_changed_other slots n k f e) ∙ sym (get_changed_other (map (entry_of slots) slots) n k g e ∙ slice_get-map (entry_of slots) slots k)
    ])
  where
    over : (o : Option Slot) → option_map (entry_of (changed_at n f slots)) o ≡ option_map (entry_of slots) o
    over None = refl
    over (Some s) = ap (λ (e : Entry). Some e) (entry_over slots (changed_at n f slots) s (length_changed slots n f) (λ x. next_kept n x f slots links))

    by_cases : (o : Option Slot) → slice_get slots n ≡ o → option_map (entry_of slots) (option_map f o) ≡ option_map g (option_map (entry_of slots) o)
    by_cases None e = refl
    by_cases (Some s) e = ap (λ (x : Entry). Some x) (same s e)

-- a write of one slot that leaves the chains
pub ends_changed : (n : ℕ) (f : Slot → Slot) (old new : List Slot) → new ≡ changed_at n f old → ((s : Slot) → (f s).next ≡ s.next) → ((v : Bool) (s : Slot) → first_of v (f s) ≡ first_of v s)
    → ((v : Bool) (p : ℕ) → Ends (length old) (next_at old) (first_at v old p)) → (v : Bool) (p : ℕ) → Ends (length new) (next_at new) (first_at v new p)
unfolding Ends first_at
ends_changed n f old new is links firsts ends v p =
    let s : Option ℕ = option_and_then (first_of v) (slice_get old p) in
    ends_from (length new) (next_at new) (option_and_then (first_of v) (slice_get new p)) (walk (length old) (next_at old) s)
    (chain_over (length old) (length new) (next_at old) (next_at new) s (option_and_then (first_of v) (slice_get new p)) _ _ (rw is (length_changed old n f)) (rw is (read_kept (first_of v) old n p f (firsts v))) refl (λ x m. rw is (next_kept n x f old links)) (ends v p))

-- what is no garbage is kept in its slot
pub alive_slot : (slots : List Slot) (n : ℕ) (s : Slot) → slice_get slots n ≡ Some s → is_garbage (kind_at slots n) ≡ false → (o : Object) × (s.object ≡ Some o)
unfolding kind_at object_at garbage
alive_slot slots n s e alive = by_cases s.object refl
  where
    by_cases : (q : Option Object) → s.object ≡ q → (o : Object) × (s.object ≡ Some o)
    by_cases None h = absurd (false≢true (sym alive ∙ rw (e, h) refl))
    by_cases (Some o) h = (o, h)

pub alive_kept : (slots : List Slot) (n : ℕ) → is_garbage (kind_at slots n) ≡ false → object_at slots n ≡ kept_at slots n
unfolding object_at kept_at
alive_kept slots n alive = by_cases (slice_get slots n) refl
  where
    by_cases : (o : Option Slot) → slice_get slots n ≡ o → option_map shown o ≡ option_and_then (λ (s : Slot). s.object) o
    by_cases None e = refl
    by_cases (Some s) e = let q : (o : Object) × (s.object ≡ Some o) = alive_slot slots n s e alive in rw q.1 refl

on_slot_entry : (f : Object → Object) (slots : List Slot) (s : Slot) → (o : Object) × (s.object ≡ Some o) → entry_of slots (on_slot f s) ≡ on_object f (entry_of slots s)
unfolding entry_of
on_slot_entry f slots s q = rw q.1 refl

-- a change of an object that is no garbage
pub entries_on_slot : (n : ℕ) (f : Object → Object) (slots : List Slot) → is_garbage (kind_at slots n) ≡ false → entries_of (changed_at n (on_slot f) slots) ≡ changed_at n (on_object f) (entries_of slots)
entries_on_slot n f slots alive = entries_changed n (on_slot f) (on_object f) slots (λ s. refl) (λ s e. on_slot_entry f slots s (alive_slot slots n s e alive))

pub on_slot_first : (f : Object → Object) (v : Bool) (s : Slot) → first_of v (on_slot f s) ≡ first_of v s
on_slot_first f true s = refl
on_slot_first f false s = refl

pub ends_on_slot : (n : ℕ) (f : Object → Object) (old new : List Slot) → new ≡ changed_at n (on_slot f) old
    → ((v : Bool) (p : ℕ) → Ends (length old) (next_at old) (first_at v old p)) → (v : Bool) (p : ℕ) → Ends (length new) (next_at new) (first_at v new p)
ends_on_slot n f old new is ends = ends_changed n (on_slot f) old new is (λ s. refl) (on_slot_first f) ends

with_mark_entry : (mark : Option Mark) (slots : List Slot) (s : Slot) → entry_of slots (with_mark mark s) ≡ record (entry_of slots s) { mark = mark }
unfolding entry_of
with_mark_entry mark slots s = refl

-- a mark alone
pub entries_with_mark : (n : ℕ) (mark : Option Mark) (slots : List Slot) → entries_of (changed_at n (with_mark mark) slots) ≡ changed_at n (λ e. record e { mark = mark }) (entries_of slots)
entries_with_mark n mark slots = entries_changed n (with_mark mark) (λ e. record e { mark = mark }) slots (λ s. refl) (λ s e. with_mark_entry mark slots s)

with_mark_first : (mark : Option Mark) (v : Bool) (s : Slot) → first_of v (with_mark mark s) ≡ first_of v s
with_mark_first mark true s = refl
with_mark_first mark false s = refl

pub ends_with_mark : (n : ℕ) (mark : Option Mark) (old new : List Slot) → new ≡ changed_at n (with_mark mark) old
    → ((v : Bool) (p : ℕ) → Ends (length old) (next_at old) (first_at v old p)) → (v : Bool) (p : ℕ) → Ends (length new) (next_at new) (first_at v new p)
ends_with_mark n mark old new is ends = ends_changed n (with_mark mark) old new is (λ s. refl) (with_mark_first mark) ends

-- a new object
with_kept_entry : (o : Object) (slots : List Slot) (s : Slot) → entry_of slots (with_kept o s) ≡ with_object o (entry_of slots s)
unfolding entry_of
with_kept_entry o slots s = refl

with_kept_first : (o : Object) (v : Bool) (s : Slot) → first_of v (with_kept o s) ≡ first_of v s
with_kept_first o true s = refl
with_kept_first o false s = refl

next_more : (o : Object) (slots : List Slot) (k : ℕ) → next_at (slots ++ new_slot (Some o) None ∷ []) k ≡ next_at slots k
unfolding next_at
next_more o slots k = read_more (λ (z : Option Slot). option_and_then (λ (s : Slot). s.next) z) slots (new_slot (Some o) None) k refl

first_more : (v : Bool) (o : Object) (slots : List Slot) (k : ℕ) → first_at v (slots ++ new_slot (Some o) None ∷ []) k ≡ first_at v slots k
unfolding first_at
first_more true o slots k = read_more (λ (z : Option Slot). option_and_then (first_of true) z) slots (new_slot (Some o) None) k refl
first_more false o slots k = read_more (λ (z : Option Slot). option_and_then (first_of false) z) slots (new_slot (Some o) None) k refl

mark_more : (o : Object) (slots : List Slot) (k : ℕ) → mark_at (slots ++ new_slot (Some o) None ∷ []) k ≡ mark_at slots k
unfolding mark_at
mark_more o slots k = read_more (λ (z : Option Slot). option_and_then (λ (s : Slot). s.mark) z) slots (new_slot (Some o) None) k refl

saving_more : (o : Object) (slots : List Slot) (k : ℕ) → saving_at (slots ++ new_slot (Some o) None ∷ []) k ≡ saving_at slots k
unfolding saving_at
saving_more o slots k = read_more (λ (z : Option Slot). option_map_or (λ (s : Slot). s.saving) z Due) slots (new_slot (Some o) None) k refl

stood_more : (o : Object) (slots : List Slot) (k : ℕ) → stood_at (slots ++ new_slot (Some o) None ∷ []) k ≡ stood_at slots k
unfolding stood_at
stood_more o slots k = read_more (λ (z : Option Slot). option_and_then (λ (s : Slot). s.stood) z) slots (new_slot (Some o) None) k refl

-- one that wasn't there is due as it was
saving_put : (o : Object) (es : List Entry) (k : ℕ) → saving_in (changed_at (length es) (with_object o) (es ++ blank_entry ∷ [])) k ≡ saving_in es k
saving_put o es k = elim (cases_eq k (length es)) [
  | inl e ↦
      ap (λ z. saving_in (changed_at (length es) (with_object o) (es ++ blank_entry ∷ [])) z) e ∙ saving_here (length es) (with_object o) (es ++ blank_entry ∷ []) (λ x. refl)
      ∙ sym (saving_past es k (omega (arith, e)))
  | inr ne ↦ saving_elsewhere (length es) k (with_object o) (es ++ blank_entry ∷ []) ne ∙ entry_more es k
]

chain_put : (o : Object) (slots : List Slot) → ((v : Bool) (p : ℕ) → Ends (length slots) (next_at slots) (first_at v slots p)) → (v : Bool) (p : ℕ)
    → IsChain (length (slots ++ new_slot (Some o) None ∷ [])) (next_at (slots ++ new_slot (Some o) None ∷ [])) (first_at v (slots ++ new_slot (Some o) None ∷ []) p) (list_at v slots p)
unfolding list_at Ends
chain_put o slots ends v p =
    let new : List Slot = slots ++ new_slot (Some o) None ∷ [] in
    chain_over (length new) (length new) (next_at slots) (next_at new) (first_at v slots p) (first_at v new p) _ _ refl (first_more v o slots p) refl (λ x m. next_more o slots x)
    (chain_wider (length slots) (length new) (next_at slots) (first_at v slots p) (walk (length slots) (next_at slots) (first_at v slots p)) (omega (arith, length-append slots (new_slot (Some o) None ∷ []))) (ends v p))

object_put_other : (o : Object) (slots : List Slot) (k : ℕ) → (k ≡ length slots → ⊥) → object_at (slots ++ new_slot (Some o) None ∷ []) k ≡ object_at slots k
unfolding object_at
object_put_other o slots k ne = ap (λ (z : Option Slot). option_map shown z) (get_more slots (new_slot (Some o) None) k ne)

object_put_last : (o : Object) (slots : List Slot) → object_at (slots ++ new_slot (Some o) None ∷ []) (length slots) ≡ Some o
unfolding object_at
object_put_last o slots = ap (λ (z : Option Slot). option_map shown z) (got_last slots (new_slot (Some o) None))

length_put : (es : List Entry) (o : Object) → length (changed_at (length es) (with_object o) (es ++ blank_entry ∷ [])) ≡ length es + 1
length_put es o = length_changed (es ++ blank_entry ∷ []) (length es) (with_object o) ∙ length-append es (blank_entry ∷ [])

last_put : (es : List Entry) (o : Object) (k : ℕ) → k ≡ length es → object_in (changed_at (length es) (with_object o) (es ++ blank_entry ∷ [])) k ≡ Some o
last_put es o k e = rw e (object_named (length es) o (es ++ blank_entry ∷ []) (omega (arith, length-append es (blank_entry ∷ []))))

pub mark_blank : (es : List Entry) (k : ℕ) → mark_in (es ++ blank_entry ∷ []) k ≡ mark_in es k
unfolding mark_in blank_entry
mark_blank es k = read_more (λ (z : Option Entry). option_and_then (λ (e : Entry). e.mark) z) es blank_entry k refl

entries_appended : (o : Object) (slots : List Slot) → ((v : Bool) (p : ℕ) → Ends (length slots) (next_at slots) (first_at v slots p))
    → entries_of (slots ++ new_slot (Some o) None ∷ []) ≡ changed_at (length (entries_of slots)) (with_object o) (entries_of slots ++ blank_entry ∷ [])
entries_appended o slots ends =
    let new : List Slot = slots ++ new_slot (Some o) None ∷ [] in
    let es : List Entry = entries_of slots in
    entries_ext (entries_of new) (changed_at (length es) (with_object o) (es ++ blank_entry ∷ []))
    (omega (arith, length-entries_of new, length-entries_of slots, length-append slots (new_slot (Some o) None ∷ []), length_put es o))
    (λ k. object_in-entries_of new k ∙ elim (cases_eq k (length slots)) [
      | inl e ↦ ap (λ z. object_at new z) e ∙ object_put_last o slots ∙ sym (last_put es o k (e ∙ sym (length-entries_of slots)))
      | inr e ↦
          let other : k ≡ length es → ⊥ = λ q. e (q ∙ length-entries_of slots) in
          object_put_other o slots k e ∙ sym (object_in-entries_of slots k) ∙ sym (object_unnamed (length es) k o (es ++ blank_entry ∷ []) other ∙ object_more es k other)
    ])
    (λ v k. list_in-entries_of v new k ∙ list_is v new k (list_at v slots k) (chain_put o slots ends v k) ∙ sym (list_in-entries_of v slots k) ∙ sym (list_named v (length es) k o (es ++ blank_entry ∷ []) ∙ list_more v es k))
    (λ k. mark_in-entries_of new k ∙ mark_more o slots k ∙ sym (mark_in-entries_of slots k) ∙ sym (mark_named (length es) k o (es ++ blank_entry ∷ []) ∙ mark_blank es k))
    (λ k. saving_in-entries_of new k ∙ saving_more o slots k ∙ sym (saving_in-entries_of slots k) ∙ sym (saving_put o es k))
    (λ k. stood_in-entries_of new k ∙ stood_more o slots k ∙ sym (stood_in-entries_of slots k) ∙ sym (stood_named (length es) o (es ++ blank_entry ∷ []) k ∙ stood_blank es k))

put_more : (n : ℕ) (o : Object) (slots : List Slot) → n ≡ length slots → object_put n o slots ≡ slots ++ new_slot (Some o) None ∷ []
unfolding object_put
put_more n o slots e = rw (eq-eqb n (length slots) e) refl

put_same : (n : ℕ) (o : Object) (slots : List Slot) → (n ≡ length slots → ⊥) → object_put n o slots ≡ changed_at n (with_kept o) slots
unfolding object_put
put_same n o slots ne = rw (ne_eqb n (length slots) ne) refl

-- an object that is put at a number of garbage or at the next one
pub entries_put : (n : ℕ) (o : Object) (slots : List Slot) → ((v : Bool) (p : ℕ) → Ends (length slots) (next_at slots) (first_at v slots p))
    → entries_of (object_put n o slots) ≡ changed_at n (with_object o) (objects_grown n (entries_of slots))
entries_put n o slots ends =
    let es : List Entry = entries_of slots in
    elim (cases_eq n (length slots)) [
      | inl e ↦
          let same : n ≡ length es = e ∙ sym (length-entries_of slots) in
          let P : ℕ → Type 0 = λ z. entries_of (slots ++ new_slot (Some o) None ∷ []) ≡ changed_at z (with_object o) (es ++ blank_entry ∷ []) in
          ap (λ (z : List Slot). entries_of z) (put_more n o slots e) ∙ subst P (sym same) (entries_appended o slots ends) ∙ ap (λ (z : List Entry). changed_at n (with_object o) z) (sym (grown_more n es same))
      | inr e ↦
          ap (λ (z : List Slot). entries_of z) (put_same n o slots e) ∙ entries_changed n (with_kept o) (with_object o) slots (λ s. refl) (λ s q. with_kept_entry o slots s)
          ∙ ap (λ (z : List Entry). changed_at n (with_object o) z) (sym (grown_same n es (λ q. e (q ∙ length-entries_of slots))))
    ]

pub ends_put : (n : ℕ) (o : Object) (slots : List Slot) → ((v : Bool) (p : ℕ) → Ends (length slots) (next_at slots) (first_at v slots p))
    → (v : Bool) (p : ℕ) → Ends (length (object_put n o slots)) (next_at (object_put n o slots)) (first_at v (object_put n o slots) p)
ends_put n o slots ends v p = elim (cases_eq n (length slots)) [
  | inl e ↦
      let P : List Slot → Type 0 = λ z. Ends (length z) (next_at z) (first_at v z p) in
      let new : List Slot = slots ++ new_slot (Some o) None ∷ [] in
      subst P (sym (put_more n o slots e)) (ends_from (length new) (next_at new) (first_at v new p) (list_at v slots p) (chain_put o slots ends v p))
  | inr e ↦ ends_changed n (with_kept o) slots (object_put n o slots) (put_same n o slots e) (λ s. refl) (with_kept_first o) ends v p
]

-- A change of every slot that leaves the links.

next_mapped : (k : ℕ) (f : Slot → Slot) (slots : List Slot) → ((s : Slot) → (f s).next ≡ s.next) → next_at (map f slots) k ≡ next_at slots k
unfolding next_at
next_mapped k f slots h = ap (λ (o : Option Slot). option_and_then (λ (s : Slot). s.next) o) (slice_get-map f slots k) ∙ kept_then (λ (s : Slot). s.next) f (slice_get slots k) h

pub entries_mapped : (f : Slot → Slot) (g : Entry → Entry) (slots : List Slot) → ((s : Slot) → (f s).next ≡ s.next) → ((s : Slot) → entry_of slots (f s) ≡ g (entry_of slots s)) → entries_of (map f slots) ≡ map g (entries_of slots)
unfolding entries_of
entries_mapped f g slots links same = get_ext (map (entry_of (map f slots)) (map f slots)) (map g (map (entry_of slots) slots)) (λ k.
    slice_get-map (entry_of (map f slots)) (map f slots) k ∙ ap (λ (o : Option Slot). option_map (entry_of (map f slots)) o) (slice_get-map f slots k) ∙ by_cases (slice_get slots k)
    ∙ sym (slice_get-map g (map (entry_of slots) slots) k ∙ ap (λ (o : Option Entry). option_map g o) (slice_get-map (entry_of slots) slots k)))
  where
    by_cases : (o : Option Slot) → option_map (entry_of (map f slots)) (option_map f o) ≡ option_map g (option_map (entry_of slots) o)
    by_cases None = refl
    by_cases (Some s) = ap (λ (e : Entry). Some e) (entry_over slots (map f slots) (f s) (length_map f slots) (λ x. next_mapped x f slots links) ∙ same s)

pub ends_mapped : (f : Slot → Slot) (old new : List Slot) → new ≡ map f old → ((s : Slot) → (f s).next ≡ s.next) → ((v : Bool) (s : Slot) → first_of v (f s) ≡ first_of v s)
    → ((v : Bool) (p : ℕ) → Ends (length old) (next_at old) (first_at v old p)) → (v : Bool) (p : ℕ) → Ends (length new) (next_at new) (first_at v new p)
unfolding Ends first_at
ends_mapped f old new is links firsts ends v p =
    let s : Option ℕ = option_and_then (first_of v) (slice_get old p) in
    let same : option_and_then (first_of v) (slice_get new p) ≡ s =
    ap (λ (z : List Slot). option_and_then (first_of v) (slice_get z p)) is ∙ ap (λ (o : Option Slot). option_and_then (first_of v) o) (slice_get-map f old p) ∙ kept_then (first_of v) f (slice_get old p) (firsts v) in
    ends_from (length new) (next_at new) (option_and_then (first_of v) (slice_get new p)) (walk (length old) (next_at old) s)
    (chain_over (length old) (length new) (next_at old) (next_at new) s (option_and_then (first_of v) (slice_get new p)) _ _ (rw is (length_map f old)) same refl (λ x m. rw is (next_mapped x f old links)) (ends v p))

-- A pass over all slots, as far as it has come.
pub record Passed (f : Slot → Slot) (i : ℕ) (old cur : List Slot) : Type 0 where
  pub same_length : length cur ≡ length old
  pub done : (k : ℕ) → k < i → slice_get cur k ≡ option_map f (slice_get old k)
  pub left : (k : ℕ) → i ≤ k → slice_get cur k ≡ slice_get old k

pub passed_none : (f : Slot → Slot) (old : List Slot) → Passed f 0 old old
passed_none f old = record { same_length = refl; done = λ k lt. absurd (omega arith); left = λ k le. refl }

pub passed_more : (f : Slot → Slot) (i : ℕ) (old cur new : List Slot) → new ≡ changed_at i f cur → Passed f i old cur → Passed f (i + 1) old new
passed_more f i old cur new is p = record {
  same_length = ap (λ (z : List Slot). length z) is ∙ length_changed cur i f ∙ p.same_length;
  done = λ k lt. ap (λ (z : List Slot). slice_get z k) is ∙ elim (cases_eq k i) [
    | inl e ↦ rw (e, get_changed_same cur i f) (ap (λ (o : Option Slot). option_map f o) (p.left i (omega arith)))
    | inr e ↦ get_changed_other cur i k f e ∙ p.done k (omega arith)
  ];
  left = λ k le. ap (λ (z : List Slot). slice_get z k) is ∙ get_changed_other cur i k f (λ e. omega (arith, e)) ∙ p.left k (omega arith);
}

pub passed_all : (f : Slot → Slot) (i : ℕ) (old cur : List Slot) → length old ≤ i → Passed f i old cur → cur ≡ map f old
passed_all f i old cur le p = get_ext cur (map f old) (λ k. elim (cases_lt k i) [
  | inl lt ↦ p.done k lt ∙ sym (slice_get-map f old k)
  | inr more ↦ slice_get_past cur k (omega (arith, p.same_length)) ∙ sym (slice_get_past (map f old) k (omega (arith, length_map f old)))
])

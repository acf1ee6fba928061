-- A primitive that passes its tests gives one item for those that it takes.
use Rattle.std.proofs.Common.{◌≡◌, ◌∙◌, ap, sym, ℕ, ◌+◌, ◌≤◌, Bool, true, false, List, [], ◌∷◌, ◌++◌, length, take, drop, refl, arith}
use Rattle.std.specs.Prelude.{Option, Some, None, slice_get, pos, negsuc, nat_lt, if◌then◌else◌}
use Rattle.muf_model.specs.declared.fault.MufFault.{MufFault}
use Rattle.muf_model.specs.declared.fault.MufFault.TheVariants.{BadArgument, BadType, TooHeavy}
use Rattle.muf_model.specs.declared.value.MapKey.{MapKey}
use Rattle.muf_model.specs.declared.value.MapKey.TheVariants.{Number, Name}
use Rattle.muf_model.specs.Datum.{Datum, items, dict, data_of, pairs_of, entries_of, data_list}
use Rattle.muf_model.specs.Entries.{with_entry, without_key}
use Rattle.muf_model.specs.Values.{value_fits}
use Rattle.muf_model.specs.Answer.{Answer, gives, refuses, Scope, Made, makes, rejects, plain, items_put}
use Rattle.muf_model.specs.Needs.{takes_items, anything, a_key, a_list, a_collection}
use Rattle.muf_model.specs.ArrayRows.{valued, appended, appended_to, gone_from, held_and_key, item_held_and_key}
use Rattle.muf_model.specs.Rows.{primitive_used, primitive}
use Rattle.muf_model.specs.inner.Flat.{Flat}
use Rattle.muf_frame.specs.inner.Shown.{locked_by}
use Rattle.muf_array.specs.declared.changes.Change.{Change}
use Rattle.muf_array.specs.declared.changes.Change.TheVariants.{Set, Insert}
use Rattle.muf_frame.specs.inner.Moves.{scope_of}
use Rattle.muf_array.specs.declared.changers.Changer.{Changer}
use Rattle.muf_array.specs.declared.changers.Changer.TheVariants.{SetItem, InsertItem, AppendItem, DelItem}
use Rattle.muf_array.specs.inner.Shapes.{at_held, changed, refusal, key_in}
use Rattle.muf_array.specs.inner.Taken.{held_read, item_read, append_read, held_refused, item_refused, append_refused}
use Rattle.muf_array.specs.inner.Open.{prim_of, taken_by, IsOpen, CanChange, CanAppend, CanDelete}
use Rattle.muf_array.proofs.Taking.{item_used, held_used, append_used, enough}

-- one item is made, or none
abbrev Single : Made → Type 0
Single (makes (d ∷ [])) = Unit {0}
Single (makes _) = ⊥
Single (rejects f) = Unit {0}

fitting_single : (b : Bool) (d : Datum) → Single (if b then makes (d ∷ []) else rejects TooHeavy)
fitting_single true d = tt
fitting_single false d = tt

valued_single : (d : Datum) → Single (valued d)
valued_single d = fitting_single (value_fits d) d

between_single : (b : Bool) (d : Datum) → Single (if b then rejects BadArgument else valued d)
between_single true d = tt
between_single false d = valued_single d

changed_single : (c : Change) (x a : Datum) (k : MapKey) → Single (at_held (changed c x) a k)
changed_single Set x (items ds) (Number (pos n)) = between_single (nat_lt (length (data_list ds)) n) (items (data_of (take n (data_list ds) ++ x ∷ drop (n + 1) (data_list ds))))
changed_single Set x (items ds) (Number (negsuc n)) = tt
changed_single Set x (items ds) (Name t) = tt
changed_single Set x (dict ps) k = valued_single (dict (pairs_of (with_entry k x (entries_of ps))))
changed_single Insert x (items ds) (Number (pos n)) = between_single (nat_lt (length (data_list ds)) n) (items (data_of (take n (data_list ds) ++ x ∷ drop n (data_list ds))))
changed_single Insert x (items ds) (Number (negsuc n)) = tt
changed_single Insert x (items ds) (Name t) = tt
changed_single Insert x (dict ps) k = valued_single (dict (pairs_of (with_entry k x (entries_of ps))))
changed_single c x _ k = tt

appended_single : (a x : Datum) → Single (appended_to a x)
appended_single (items ds) x = valued_single (items (data_of (data_list ds ++ x ∷ [])))
appended_single _ x = tt

gone_single : (a : Datum) (k : MapKey) → Single (at_held gone_from a k)
gone_single (items ds) (Number (pos n)) = tt
gone_single (items ds) (Number (negsuc n)) = tt
gone_single (items ds) (Name t) = tt
gone_single (dict ps) k = tt
gone_single _ k = tt

-- that item takes the place of what was taken
abbrev Given : List Datum → Answer → Type 0
Given rest a = (x : Datum) × (a ≡ gives (x ∷ rest))

three_put : (m : Made) (rest : List Datum) → Single m → refusal m ≡ None → Given rest (items_put 3 m rest)
three_put (makes []) rest h e = absurd h
three_put (makes (d ∷ [])) rest h e = (d, refl)
three_put (makes (d ∷ x ∷ ds)) rest h e = absurd h
three_put (rejects f) rest h e = absurd (let no : Some f ≡ None = e in cc)

two_put : (m : Made) (rest : List Datum) → Single m → refusal m ≡ None → Given rest (items_put 2 m rest)
two_put (makes []) rest h e = absurd h
two_put (makes (d ∷ [])) rest h e = (d, refl)
two_put (makes (d ∷ x ∷ ds)) rest h e = absurd h
two_put (rejects f) rest h e = absurd (let no : Some f ≡ None = e in cc)

item_given : (c : Change) (k : MapKey) (a x : Option Datum) (rest : List Datum) → item_refused (changed c) k a x ≡ None → Given rest (item_read (changed c) (Some k) a x rest)
item_given c k (Some a) (Some x) rest e = three_put (at_held (changed c x) a k) rest (changed_single c x a k) e
item_given c k (Some a) None rest e = absurd (let no : Some BadType ≡ None = e in cc)
item_given c k None x rest e = absurd (let no : Some BadType ≡ None = e in cc)

held_given : (k : MapKey) (a : Option Datum) (rest : List Datum) → held_refused gone_from k a ≡ None → Given rest (held_read gone_from (Some k) a rest)
held_given k (Some a) rest e = two_put (at_held gone_from a k) rest (gone_single a k) e
held_given k None rest e = absurd (let no : Some BadType ≡ None = e in cc)

append_given : (a x : Option Datum) (rest : List Datum) → append_refused a x ≡ None → Given rest (append_read a x rest)
append_given (Some a) (Some x) rest e = two_put (appended_to a x) rest (appended_single a x) e
append_given (Some a) None rest e = absurd (let no : Some BadType ≡ None = e in cc)
append_given None x rest e = absurd (let no : Some BadType ≡ None = e in cc)

-- the row, where the tests are passed
item_row : (c : Change) (f : Flat) (k : MapKey) (s : Scope) → locked_by f.marks + 3 ≤ length f.stack → key_in 0 f.stack ≡ Some k → s.locked ≡ locked_by f.marks → primitive_used 1 (takes_items (a_key ∷ a_collection ∷ anything ∷ [])) (Some (plain (item_held_and_key (changed c)))) s f.stack ≡ item_read (changed c) (Some k) (slice_get f.stack 1) (slice_get f.stack 2) (drop 3 f.stack)
item_row c f k s h g e =
    let l : s.locked + 3 ≤ length f.stack = omega (arith, h, e) in
    item_used (changed c) 1 s f.stack
    ∙ enough 3 s.locked f.stack _ l
    ∙ ap (λ o. item_read (changed c) o (slice_get f.stack 1) (slice_get f.stack 2) (drop 3 f.stack)) g

held_row : (f : Flat) (k : MapKey) (s : Scope) → locked_by f.marks + 2 ≤ length f.stack → key_in 0 f.stack ≡ Some k → s.locked ≡ locked_by f.marks → primitive_used 1 (takes_items (a_key ∷ a_collection ∷ [])) (Some (plain (held_and_key gone_from))) s f.stack ≡ held_read gone_from (Some k) (slice_get f.stack 1) (drop 2 f.stack)
held_row f k s h g e =
    let l : s.locked + 2 ≤ length f.stack = omega (arith, h, e) in
    held_used gone_from 1 s f.stack
    ∙ enough 2 s.locked f.stack _ l
    ∙ ap (λ o. held_read gone_from o (slice_get f.stack 1) (drop 2 f.stack)) g

append_row : (f : Flat) (s : Scope) → locked_by f.marks + 2 ≤ length f.stack → s.locked ≡ locked_by f.marks → primitive_used 1 (takes_items (a_list ∷ anything ∷ [])) (Some (plain appended)) s f.stack ≡ append_read (slice_get f.stack 0) (slice_get f.stack 1) (drop 2 f.stack)
append_row f s h e =
    let l : s.locked + 2 ≤ length f.stack = omega (arith, h, e) in
    append_used 1 s f.stack ∙ enough 2 s.locked f.stack _ l

pub set_opens : (f : Flat) → CanChange Set f → IsOpen SetItem f
set_opens f h =
    let g = item_given Set h.0 (slice_get f.stack 1) (slice_get f.stack 2) (drop 3 f.stack) h.3 in
    record { enough = h.1; made = g.0; done = λ s e. item_row Set f h.0 s h.1 h.2 e ∙ g.1 }

pub insert_opens : (f : Flat) → CanChange Insert f → IsOpen InsertItem f
insert_opens f h =
    let g = item_given Insert h.0 (slice_get f.stack 1) (slice_get f.stack 2) (drop 3 f.stack) h.3 in
    record { enough = h.1; made = g.0; done = λ s e. item_row Insert f h.0 s h.1 h.2 e ∙ g.1 }

pub append_opens : (f : Flat) → CanAppend f → IsOpen AppendItem f
append_opens f h =
    let g = append_given (slice_get f.stack 0) (slice_get f.stack 1) (drop 2 f.stack) h.1 in
    record { enough = h.0; made = g.0; done = λ s e. append_row f s h.0 e ∙ g.1 }

pub delete_opens : (f : Flat) → CanDelete f → IsOpen DelItem f
delete_opens f h =
    let g = held_given h.0 (slice_get f.stack 1) (drop 2 f.stack) h.3 in
    record { enough = h.1; made = g.0; done = λ s e. held_row f h.0 s h.1 h.2 e ∙ g.1 }

-- it isn't refused
pub never_refused : (c : Changer) (f : Flat) (words : ℕ) (e : MufFault) → IsOpen c f → primitive (prim_of c) (scope_of words f) f.stack ≡ refuses e → ⊥
never_refused c f words e h r = let no : gives (h.made ∷ drop (taken_by c) f.stack) ≡ refuses e = sym (h.done (scope_of words f) refl) ∙ r in cc

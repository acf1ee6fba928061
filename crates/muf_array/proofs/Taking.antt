-- The rows of lists and dictionaries, by the items at the top.
use Rattle.std.proofs.Common.{◌≡◌, ◌∙◌, ap, ℕ, ◌+◌, ◌≤◌, List, [], ◌∷◌, length, take, drop, refl}
use Rattle.std.proofs.lemmas.Bool.{cond-false, le-ltb}
use Rattle.std.specs.Prelude.{Option, Some, None, slice_get}
use Rattle.std.proofs.lemmas.List.{length-map}
use Rattle.muf_model.specs.declared.fault.MufFault.{MufFault}
use Rattle.muf_model.specs.declared.fault.MufFault.TheVariants.{BadType}
use Rattle.muf_model.specs.declared.value.MapKey.{MapKey}
use Rattle.muf_model.specs.Datum.{Datum, int, text, items, dict}
use Rattle.muf_model.specs.Answer.{Answer, refuses, Scope, Made, makes, rejects, plain, items_put, answer_unless, needing}
use Rattle.muf_model.specs.Needs.{takes_items, anything, a_text, a_key, a_list, a_collection}
use Rattle.muf_model.specs.Rows.{primitive_used}
use Rattle.muf_model.specs.ArrayRows.{map_key_of, one_held, held_and_key, item_held_and_key, appended, joins}
use Rattle.muf_frame.specs.inner.Answers.{text_at}
use Rattle.muf_frame.proofs.Ladders.{kinds, used_plain}
use Rattle.muf_array.specs.inner.Shapes.{at_held, refusal, key_in}
use Rattle.muf_array.specs.inner.Taken.{one_read, held_read, item_read, append_read, joins_read, held_refused, item_refused, append_refused}

one_reads : (f : Datum → Made) (stack : List Datum) → answer_unless (kinds (a_collection ∷ []) stack) (items_put 1 (one_held f (take 1 stack)) (drop 1 stack)) ≡ one_read f (slice_get stack 0) (drop 1 stack)
one_reads f (items ds ∷ rest) = refl
one_reads f (dict ps ∷ rest) = refl
one_reads f _ = refl

pub one_used : (f : Datum → Made) (level : ℕ) (s : Scope) (stack : List Datum) → primitive_used level (takes_items (a_collection ∷ [])) (Some (plain (one_held f))) s stack ≡ needing 1 s.locked stack (one_read f (slice_get stack 0) (drop 1 stack))
one_used f level s stack = used_plain level a_collection [] (one_held f) s stack ∙ ap (needing 1 s.locked stack) (one_reads f stack)

held_reads : (f : Datum → MapKey → Made) (stack : List Datum) → answer_unless (kinds (a_key ∷ a_collection ∷ []) stack) (items_put 2 (held_and_key f (take 2 stack)) (drop 2 stack)) ≡ held_read f (key_in 0 stack) (slice_get stack 1) (drop 2 stack)
held_reads f (int n ∷ items ds ∷ rest) = refl
held_reads f (int n ∷ dict ps ∷ rest) = refl
held_reads f (text t ∷ items ds ∷ rest) = refl
held_reads f (text t ∷ dict ps ∷ rest) = refl
held_reads f _ = refl

pub held_used : (f : Datum → MapKey → Made) (level : ℕ) (s : Scope) (stack : List Datum) → primitive_used level (takes_items (a_key ∷ a_collection ∷ [])) (Some (plain (held_and_key f))) s stack ≡ needing 2 s.locked stack (held_read f (key_in 0 stack) (slice_get stack 1) (drop 2 stack))
held_used f level s stack = used_plain level a_key (a_collection ∷ []) (held_and_key f) s stack ∙ ap (needing 2 s.locked stack) (held_reads f stack)

three_reads : (f : Datum → Datum → MapKey → Made) (k a x : Datum) (rest : List Datum) → answer_unless (kinds (a_key ∷ a_collection ∷ anything ∷ []) (k ∷ a ∷ x ∷ rest)) (items_put 3 (item_held_and_key f (k ∷ a ∷ x ∷ [])) rest) ≡ item_read f (map_key_of k) (Some a) (Some x) rest
three_reads f (int n) (items ds) x rest = refl
three_reads f (int n) (dict ps) x rest = refl
three_reads f (text t) (items ds) x rest = refl
three_reads f (text t) (dict ps) x rest = refl
three_reads f _ _ x rest = refl

two_reads : (f : Datum → Datum → MapKey → Made) (k a : Datum) → answer_unless (kinds (a_key ∷ a_collection ∷ anything ∷ []) (k ∷ a ∷ [])) (items_put 3 (item_held_and_key f (k ∷ a ∷ [])) []) ≡ item_read f (map_key_of k) (Some a) None []
two_reads f (int n) (items ds) = refl
two_reads f (int n) (dict ps) = refl
two_reads f (text t) (items ds) = refl
two_reads f (text t) (dict ps) = refl
two_reads f _ _ = refl

one_key_reads : (f : Datum → Datum → MapKey → Made) (k : Datum) → answer_unless (kinds (a_key ∷ a_collection ∷ anything ∷ []) (k ∷ [])) (items_put 3 (item_held_and_key f (k ∷ [])) []) ≡ item_read f (map_key_of k) None None []
one_key_reads f (int n) = refl
one_key_reads f (text t) = refl
one_key_reads f _ = refl

item_reads : (f : Datum → Datum → MapKey → Made) (stack : List Datum) → answer_unless (kinds (a_key ∷ a_collection ∷ anything ∷ []) stack) (items_put 3 (item_held_and_key f (take 3 stack)) (drop 3 stack)) ≡ item_read f (key_in 0 stack) (slice_get stack 1) (slice_get stack 2) (drop 3 stack)
item_reads f [] = refl
item_reads f (k ∷ []) = one_key_reads f k
item_reads f (k ∷ a ∷ []) = two_reads f k a
item_reads f (k ∷ a ∷ x ∷ rest) = three_reads f k a x rest

pub item_used : (f : Datum → Datum → MapKey → Made) (level : ℕ) (s : Scope) (stack : List Datum) → primitive_used level (takes_items (a_key ∷ a_collection ∷ anything ∷ [])) (Some (plain (item_held_and_key f))) s stack ≡ needing 3 s.locked stack (item_read f (key_in 0 stack) (slice_get stack 1) (slice_get stack 2) (drop 3 stack))
item_used f level s stack = used_plain level a_key (a_collection ∷ anything ∷ []) (item_held_and_key f) s stack ∙ ap (needing 3 s.locked stack) (item_reads f stack)

both_reads : (a x : Datum) (rest : List Datum) → answer_unless (kinds (a_list ∷ anything ∷ []) (a ∷ x ∷ rest)) (items_put 2 (appended (a ∷ x ∷ [])) rest) ≡ append_read (Some a) (Some x) rest
both_reads (items ds) x rest = refl
both_reads _ x rest = refl

lone_reads : (a : Datum) → answer_unless (kinds (a_list ∷ anything ∷ []) (a ∷ [])) (items_put 2 (appended (a ∷ [])) []) ≡ append_read (Some a) None []
lone_reads (items ds) = refl
lone_reads _ = refl

append_reads : (stack : List Datum) → answer_unless (kinds (a_list ∷ anything ∷ []) stack) (items_put 2 (appended (take 2 stack)) (drop 2 stack)) ≡ append_read (slice_get stack 0) (slice_get stack 1) (drop 2 stack)
append_reads [] = refl
append_reads (a ∷ []) = lone_reads a
append_reads (a ∷ x ∷ rest) = both_reads a x rest

pub append_used : (level : ℕ) (s : Scope) (stack : List Datum) → primitive_used level (takes_items (a_list ∷ anything ∷ [])) (Some (plain appended)) s stack ≡ needing 2 s.locked stack (append_read (slice_get stack 0) (slice_get stack 1) (drop 2 stack))
append_used level s stack = used_plain level a_list (anything ∷ []) appended s stack ∙ ap (needing 2 s.locked stack) (append_reads stack)

joins_reads : (stack : List Datum) → answer_unless (kinds (a_text ∷ a_collection ∷ []) stack) (items_put 2 (joins (take 2 stack)) (drop 2 stack)) ≡ joins_read (text_at 0 stack) (slice_get stack 1) (drop 2 stack)
joins_reads (text t ∷ items ds ∷ rest) = refl
joins_reads (text t ∷ dict ps ∷ rest) = refl
joins_reads _ = refl

pub joins_used : (level : ℕ) (s : Scope) (stack : List Datum) → primitive_used level (takes_items (a_text ∷ a_collection ∷ [])) (Some (plain joins)) s stack ≡ needing 2 s.locked stack (joins_read (text_at 0 stack) (slice_get stack 1) (drop 2 stack))
joins_used level s stack = used_plain level a_text (a_collection ∷ []) joins s stack ∙ ap (needing 2 s.locked stack) (joins_reads stack)

-- what is refused

put_refuses : (n : ℕ) (m : Made) (rest : List Datum) (e : MufFault) → refusal m ≡ Some e → items_put n m rest ≡ refuses e
put_refuses n (makes ds) rest e h = absurd (let no : None ≡ Some e = h in cc)
put_refuses n (rejects f) rest e h = let q : f ≡ e = cc in ap refuses q

pub held_refuses : (f : Datum → MapKey → Made) (k : MapKey) (a : Option Datum) (rest : List Datum) (e : MufFault) → held_refused f k a ≡ Some e → held_read f (Some k) a rest ≡ refuses e
held_refuses f k (Some a) rest e h = put_refuses 2 (at_held f a k) rest e h
held_refuses f k None rest e h = let q : BadType ≡ e = cc in ap refuses q

pub item_refuses : (f : Datum → Datum → MapKey → Made) (k : MapKey) (a x : Option Datum) (rest : List Datum) (e : MufFault) → item_refused f k a x ≡ Some e → item_read f (Some k) a x rest ≡ refuses e
item_refuses f k (Some a) (Some x) rest e h = put_refuses 3 (at_held (f x) a k) rest e h
item_refuses f k (Some a) None rest e h = let q : BadType ≡ e = cc in ap refuses q
item_refuses f k None x rest e h = let q : BadType ≡ e = cc in ap refuses q

pub append_refuses : (a x : Option Datum) (rest : List Datum) (e : MufFault) → append_refused a x ≡ Some e → append_read a x rest ≡ refuses e
append_refuses (Some a) (Some x) rest e h = put_refuses 2 _ rest e h
append_refuses (Some a) None rest e h = let q : BadType ≡ e = cc in ap refuses q
append_refuses None x rest e h = let q : BadType ≡ e = cc in ap refuses q

-- enough items stand above the locked part
pub enough : (n locked : ℕ) (stack : List Datum) (a : Answer) → locked + n ≤ length stack → needing n locked stack a ≡ a
enough n locked stack a h = cond-false _ _ _ (le-ltb (length stack) (locked + n) h)

pub item_fault : (f : Datum → Datum → MapKey → Made) (level : ℕ) (s : Scope) (stack : List Datum) (k : MapKey) (e : MufFault) → s.locked + 3 ≤ length stack → key_in 0 stack ≡ Some k → item_refused f k (slice_get stack 1) (slice_get stack 2) ≡ Some e → primitive_used level (takes_items (a_key ∷ a_collection ∷ anything ∷ [])) (Some (plain (item_held_and_key f))) s stack ≡ refuses e
item_fault f level s stack k e h g r =
    item_used f level s stack
    ∙ enough 3 s.locked stack _ h
    ∙ ap (λ o. item_read f o (slice_get stack 1) (slice_get stack 2) (drop 3 stack)) g
    ∙ item_refuses f k (slice_get stack 1) (slice_get stack 2) (drop 3 stack) e r

pub held_fault : (f : Datum → MapKey → Made) (level : ℕ) (s : Scope) (stack : List Datum) (k : MapKey) (e : MufFault) → s.locked + 2 ≤ length stack → key_in 0 stack ≡ Some k → held_refused f k (slice_get stack 1) ≡ Some e → primitive_used level (takes_items (a_key ∷ a_collection ∷ [])) (Some (plain (held_and_key f))) s stack ≡ refuses e
held_fault f level s stack k e h g r =
    held_used f level s stack
    ∙ enough 2 s.locked stack _ h
    ∙ ap (λ o. held_read f o (slice_get stack 1) (drop 2 stack)) g
    ∙ held_refuses f k (slice_get stack 1) (drop 2 stack) e r

pub ruleset held_steps = (one_used, held_used, item_used, append_used, joins_used, held_refuses, item_refuses, append_refuses, length-map)

pub ruleset fault_steps = (length-map)

pub ruleset top_steps = (length-map)

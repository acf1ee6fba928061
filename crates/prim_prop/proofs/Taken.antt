-- Rows, by what stands on the stack.
use Rattle.std.proofs.Common.{◌≡◌, ℕ, zero, suc, ◌+◌, List, [], ◌∷◌, take, drop, Option, Some, None, refl, ap, sym, ◌∙◌, add-one}
use Rattle.std.specs.Prelude.{ℤ}
use Rattle.std.specs.Option.{option_map_or}
use Rattle.std.proofs.lemmas.Option.{same_Some}
use Rattle.muck_prop.specs.declared.value.PropValue.{PropValue}
use Rattle.muck_prop.specs.declared.value.PropValue.TheVariants.{Text, Number}
use Rattle.muck_prop.specs.Paths.{path_fault, path_text, segments_of}
use Rattle.spec_live.specs.declared.object.Object.{Object}
use Rattle.spec_live.specs.Lives.{Live}
use Rattle.spec_live.specs.Seen.{places_of}
use Rattle.spec_rights.specs.declared.act.Actor.{Actor}
use Rattle.spec_rights.specs.Changing.{unstored}
use Rattle.muf_model.specs.Datum.{Datum, int, text, object}
use Rattle.muf_frame.specs.inner.Answers.{int_at, text_at, object_at}
use Rattle.spec_prims.specs.Asking.{object_numbered}
use Rattle.spec_prims.specs.Row.{gives}
use Rattle.spec_prims.specs.PropRows.{row_at_path, property_seen_at, property_looked_at, first_holder, property_sought, next_read, listing_begins, directory_fault, properties_walked, written_at, property_put_at, property_put, text_or, property_added, removed}
use Rattle.prim_prop.specs.inner.Asked.{named_in, stored_by, added_by}

-- what stands there, by its parts

abbrev both : Option (List ℕ) → Option ℤ → Option (ℤ × List ℕ)
both (Some t) (Some d) = Some (d, t)
both t d = None

named_at : (n : ℕ) (stack : List Datum) → named_in (drop n stack) ≡ both (text_at n stack) (object_at (suc n) stack)
named_at zero [] = refl
named_at zero (text t ∷ []) = refl
named_at zero (text t ∷ object d ∷ rest) = refl
named_at zero (text t ∷ _ ∷ rest) = refl
named_at zero (_ ∷ []) = refl
named_at zero (_ ∷ object d ∷ rest) = refl
named_at zero (_ ∷ _ ∷ rest) = refl
named_at (suc n) [] = refl
named_at (suc n) (x ∷ xs) = named_at n xs

pub named_none : (n : ℕ) (stack : List Datum) → text_at n stack ≡ None → named_in (drop n stack) ≡ None
named_none n stack e = named_at n stack ∙ ap (λ t. both t (object_at (suc n) stack)) e

unowned : (t : Option (List ℕ)) → both t None ≡ None
unowned (Some t) = refl
unowned None = refl

pub named_alone : (n k : ℕ) (stack : List Datum) → object_at k stack ≡ None → k ≡ n + 1 → named_in (drop n stack) ≡ None
named_alone n k stack e same =
    let next : object_at (suc n) stack ≡ None = ap (λ m. object_at m stack) (sym (add-one n) ∙ sym same) ∙ e in
    named_at n stack ∙ ap (both (text_at n stack)) next ∙ unowned (text_at n stack)

pub named_both : (n k : ℕ) (stack : List Datum) (t : List ℕ) (d : ℤ) → text_at n stack ≡ Some t → object_at k stack ≡ Some d → k ≡ n + 1 → named_in (drop n stack) ≡ Some (d, t)
named_both n k stack t d e f same =
    let next : object_at (suc n) stack ≡ Some d = ap (λ m. object_at m stack) (sym (add-one n) ∙ sym same) ∙ f in
    named_at n stack ∙ ap (λ o. both o (object_at (suc n) stack)) e ∙ ap (both (Some t)) next

pub ruleset named_steps = (named_none, named_alone, named_both)

-- a text upon an object

pub looked_at : (look : Option Object → List (List ℕ) → Datum) (a : Actor) (stack : List Datum) (w : Live) (d : ℤ) (t : List ℕ) → named_in stack ≡ Some (d, t) → property_looked_at look a (take 2 stack) w ≡ row_at_path (path_fault t) (property_seen_at look a (segments_of t) (object_numbered d) w)
looked_at look a (text u ∷ object o ∷ rest) w d t e =
    ap (λ (q : ℤ × List ℕ). row_at_path (path_fault q.1) (property_seen_at look a (segments_of q.1) (object_numbered q.0) w)) (same_Some (o, u) (d, t) e)
looked_at look a stack w d t e = absurd (cc)

pub sought_at : (shown : Option PropValue → Datum) (a : Actor) (stack : List Datum) (w : Live) (d : ℤ) (t : List ℕ) → named_in stack ≡ Some (d, t) →
    property_sought shown a (take 2 stack) w ≡ row_at_path (path_fault t) (first_holder shown a (segments_of t) (object_numbered d ∷ places_of w.objects (object_numbered d)) w)
sought_at shown a (text u ∷ object o ∷ rest) w d t e =
    ap (λ (q : ℤ × List ℕ). row_at_path (path_fault q.1) (first_holder shown a (segments_of q.1) (object_numbered q.0 ∷ places_of w.objects (object_numbered q.0)) w)) (same_Some (o, u) (d, t) e)
sought_at shown a stack w d t e = absurd (cc)

pub walked_at : (a : Actor) (stack : List Datum) (w : Live) (d : ℤ) (t : List ℕ) → named_in stack ≡ Some (d, t) →
    properties_walked a (take 2 stack) w ≡ row_at_path (directory_fault t) (gives (text (option_map_or path_text (next_read a (object_numbered d) (listing_begins t) w) []) ∷ []) w)
walked_at a (text u ∷ object o ∷ rest) w d t e =
    ap (λ (q : ℤ × List ℕ). row_at_path (directory_fault q.1) (gives (text (option_map_or path_text (next_read a (object_numbered q.0) (listing_begins q.1) w) []) ∷ []) w)) (same_Some (o, u) (d, t) e)
walked_at a stack w d t e = absurd (cc)

pub removed_at : (a : Actor) (stack : List Datum) (w : Live) (d : ℤ) (t : List ℕ) → named_in stack ≡ Some (d, t) →
    removed a (take 2 stack) w ≡ row_at_path (path_fault t) (written_at a (segments_of t) (object_numbered d) (unstored (object_numbered d) (segments_of t)) w)
removed_at a (text u ∷ object o ∷ rest) w d t e =
    ap (λ (q : ℤ × List ℕ). row_at_path (path_fault q.1) (written_at a (segments_of q.1) (object_numbered q.0) (unstored (object_numbered q.0) (segments_of q.1)) w)) (same_Some (o, u) (d, t) e)
removed_at a stack w d t e = absurd (cc)

-- what is stored upon these

pub stored_int : (stack : List Datum) (n : ℤ) → int_at 0 stack ≡ Some n → stored_by stack ≡ Some (Number n)
stored_int (int m ∷ rest) n e = ap (λ k. Some (Number k)) (same_Some m n e)
stored_int stack n e = absurd (cc)

pub stored_text : (stack : List Datum) (t : List ℕ) → text_at 0 stack ≡ Some t → stored_by stack ≡ Some (Text t)
stored_text (text u ∷ rest) t e = ap (λ k. Some (Text k)) (same_Some u t e)
stored_text stack t e = absurd (cc)

pub stored_none : (stack : List Datum) → int_at 0 stack ≡ None → text_at 0 stack ≡ None → stored_by stack ≡ None
stored_none (int m ∷ rest) e f = absurd (cc)
stored_none (text u ∷ rest) e f = absurd (cc)
stored_none [] e f = refl
stored_none (_ ∷ rest) e f = refl

pub ruleset stored_steps = (stored_int, stored_text, stored_none)

pub put_so : (a : Actor) (stack : List Datum) (w : Live) (v : PropValue) (d : ℤ) (t : List ℕ) → stored_by stack ≡ Some v → named_in (drop 1 stack) ≡ Some (d, t) → property_put a (take 3 stack) w ≡ property_put_at a t d v w
put_so a (int n ∷ text u ∷ object o ∷ rest) w v d t f e =
    ap (λ (q : ℤ × List ℕ). property_put_at a q.1 q.0 (Number n) w) (same_Some (o, u) (d, t) e) ∙ ap (λ x. property_put_at a t d x w) (same_Some (Number n) v f)
put_so a (text y ∷ text u ∷ object o ∷ rest) w v d t f e =
    ap (λ (q : ℤ × List ℕ). property_put_at a q.1 q.0 (Text y) w) (same_Some (o, u) (d, t) e) ∙ ap (λ x. property_put_at a t d x w) (same_Some (Text y) v f)
put_so a stack w v d t f e = absurd (cc)

-- an integer and a text upon them

pub added_so : (a : Actor) (stack : List Datum) (w : Live) (n : ℤ) (u : List ℕ) (d : ℤ) (t : List ℕ) → added_by stack ≡ Some (n, u) → named_in (drop 2 stack) ≡ Some (d, t) → property_added a (take 4 stack) w ≡ property_put_at a t d (text_or u n) w
added_so a (int m ∷ text v ∷ text s ∷ object o ∷ rest) w n u d t f e =
    ap (λ (q : ℤ × List ℕ). property_put_at a q.1 q.0 (text_or v m) w) (same_Some (o, s) (d, t) e) ∙ ap (λ (q : ℤ × List ℕ). property_put_at a t d (text_or q.1 q.0) w) (same_Some (m, v) (n, u) f)
added_so a stack w n u d t f e = absurd (cc)

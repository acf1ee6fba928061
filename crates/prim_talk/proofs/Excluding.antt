-- What NOTIFY_EXCLUDE takes: a text, a count, so many objects and a place.
use Rattle.std.proofs.Common.{◌≡◌, ◌+◌, ℕ, zero, suc, pos, List, [], ◌∷◌, ◌++◌, length, take, drop, filter_map, slice_get, Option, Some, None, refl, sym, ap, ◌∙◌, arith}
use Rattle.std.specs.Prelude.{ℤ}
use Rattle.std.specs.List.{cons_option}
use Rattle.std.specs.Option.{option_and_then, option_map_or}
use Rattle.muck_laws.proofs.Places.{get_drop}
use Rattle.muck_model.specs.declared.dbref.Dbref.{Dbref}
use Rattle.spec_live.specs.Lives.{Live, tell_but}
use Rattle.spec_rights.specs.declared.act.Actor.{Actor}
use Rattle.muf_model.specs.declared.fault.MufFault.TheVariants.{BadType}
use Rattle.muf_model.specs.declared.prims.Primitive.TheVariants.{NotifyExclude}
use Rattle.muf_model.specs.Datum.{Datum, int, text, object}
use Rattle.muf_model.specs.Needs.{one_there, a_near_one}
use Rattle.muf_model.specs.Ladder.{times}
use Rattle.muf_frame.specs.inner.Answers.{object_at, as_object}
use Rattle.spec_prims.specs.Asking.{object_numbered}
use Rattle.spec_prims.specs.Row.{gives, refuses}
use Rattle.spec_prims.specs.Shared.{items_taken}
use Rattle.spec_prims.specs.Talk.{item_object, told_but, notified_but}
use Rattle.prim_talk.specs.inner.Told.{counted_in}

-- so many objects, gathered one by one

kept_behind : (o : Option Dbref) (xs ys zs : List Dbref) → xs ≡ ys ++ zs → cons_option o xs ≡ cons_option o ys ++ zs
kept_behind None xs ys zs e = e
kept_behind (Some d) xs ys zs e = ap (λ us. d ∷ us) e

kept_same : (o : Option Dbref) (xs ys : List Dbref) → xs ≡ ys → cons_option o xs ≡ cons_option o ys
kept_same o xs ys e = ap (cons_option o) e

next_object : (n : ℕ) (xs : List Datum) (d : Dbref) → object_at n xs ≡ Some d.0 → filter_map item_object (take (suc n) xs) ≡ filter_map item_object (take n xs) ++ d ∷ []
next_object n [] d e = absurd cc
next_object zero (object z ∷ xs) d e = let same : z ≡ d.0 = cc in ap (λ k. object_numbered k ∷ []) same
next_object zero (_ ∷ xs) d e = absurd cc
next_object (suc n) (x ∷ xs) d e = kept_behind (item_object x) _ _ _ (next_object n xs d e)

next_other : (n : ℕ) (xs : List Datum) → object_at n xs ≡ None → filter_map item_object (take (suc n) xs) ≡ filter_map item_object (take n xs)
next_other zero [] e = refl
next_other (suc n) [] e = refl
next_other zero (object z ∷ xs) e = absurd cc
next_other zero (_ ∷ xs) e = refl
next_other (suc n) (x ∷ xs) e = kept_same (item_object x) _ _ (next_other n xs e)

below : (n : ℕ) (stack : List Datum) (o : Option ℤ) → object_at (2 + n) stack ≡ o → object_at n (drop 2 stack) ≡ o
below n stack o e = ap (option_and_then as_object) (get_drop 2 n stack) ∙ e

pub gathered : (n : ℕ) (stack : List Datum) (d : Dbref) (ds : List Dbref) → ds ≡ filter_map item_object (take n (drop 2 stack)) → object_at (2 + n) stack ≡ Some d.0 → ds ++ d ∷ [] ≡ filter_map item_object (take (n + 1) (drop 2 stack))
gathered n stack d ds h e =
    let next : suc n ≡ n + 1 = omega arith in
    ap (λ xs. xs ++ d ∷ []) h ∙ sym (next_object n (drop 2 stack) d (below n stack _ e)) ∙ ap (λ k. filter_map item_object (take k (drop 2 stack))) next

pub passed_by : (n : ℕ) (stack : List Datum) (ds : List Dbref) → ds ≡ filter_map item_object (take n (drop 2 stack)) → object_at (2 + n) stack ≡ None → ds ≡ filter_map item_object (take (n + 1) (drop 2 stack))
passed_by n stack ds h e =
    let next : suc n ≡ n + 1 = omega arith in
    h ∙ sym (next_other n (drop 2 stack) (below n stack _ e)) ∙ ap (λ k. filter_map item_object (take k (drop 2 stack))) next

-- the row, by what stands on the stack

need_count : (n : ℕ) → length (times n (one_there ∷ []) ++ a_near_one ∷ []) ≡ suc n
need_count zero = refl
need_count (suc n) = ap suc (need_count n)

taken_count : (t : List ℕ) (n : ℕ) (rest : List Datum) → items_taken NotifyExclude (text t ∷ int (pos n) ∷ rest) ≡ suc (suc (suc n))
taken_count t n rest = ap (λ k. suc (suc k)) (need_count n)

take_within : (n : ℕ) (xs : List Datum) → take n (take (suc n) xs) ≡ take n xs
take_within zero xs = refl
take_within (suc n) [] = refl
take_within (suc n) (x ∷ xs) = ap (λ ys. x ∷ ys) (take_within n xs)

drop_within : (n : ℕ) (xs : List Datum) → drop n (take (suc n) xs) ≡ take 1 (drop n xs)
drop_within zero xs = refl
drop_within (suc n) [] = refl
drop_within (suc n) (x ∷ xs) = drop_within n xs

row_of_taken : (a : Actor) (t : List ℕ) (n : ℕ) (rest : List Datum) (w : Live) →
    notified_but a (take (items_taken NotifyExclude (text t ∷ int (pos n) ∷ rest)) (text t ∷ int (pos n) ∷ rest)) w ≡ told_but t (filter_map item_object (take n rest)) (take 1 (drop n rest)) w
row_of_taken a t n rest w =
    ap (λ k. notified_but a (take k (text t ∷ int (pos n) ∷ rest)) w) (taken_count t n rest)
    ∙ ap (λ xs. told_but t (filter_map item_object xs) (drop n (take (suc n) rest)) w) (take_within n rest)
    ∙ ap (λ xs. told_but t (filter_map item_object (take n rest)) xs w) (drop_within n rest)

told_place : (t : List ℕ) (but : List Dbref) (xs : List Datum) (d : Dbref) (w : Live) → object_at 0 xs ≡ Some d.0 → told_but t but (take 1 xs) w ≡ gives [] (tell_but d but t w)
told_place t but [] d w e = absurd cc
told_place t but (object z ∷ xs) d w e = let same : z ≡ d.0 = cc in ap (λ k. gives [] (tell_but (object_numbered k) but t w)) same
told_place t but (_ ∷ xs) d w e = absurd cc

told_nowhere : (t : List ℕ) (but : List Dbref) (xs : List Datum) (w : Live) → object_at 0 xs ≡ None → told_but t but (take 1 xs) w ≡ refuses BadType
told_nowhere t but [] w e = refl
told_nowhere t but (object z ∷ xs) w e = absurd cc
told_nowhere t but (_ ∷ xs) w e = refl

at_place : (n : ℕ) (rest : List Datum) (o : Option ℤ) → object_at n rest ≡ o → object_at 0 (drop n rest) ≡ o
at_place n rest o e = ap (option_and_then as_object) (get_drop n 0 rest ∙ ap (slice_get rest) (omega arith)) ∙ e

pub row_told : (a : Actor) (stack : List Datum) (t : List ℕ) (n : ℕ) (d : Dbref) (w : Live) → counted_in stack ≡ Some (t, n) → object_at (2 + n) stack ≡ Some d.0 →
    notified_but a (take (items_taken NotifyExclude stack) stack) w ≡ gives [] (tell_but d (filter_map item_object (take n (drop 2 stack))) t w)
row_told a (text u ∷ int (pos m) ∷ rest) t n d w e o =
    let same_text : u ≡ t = ap (λ o. option_map_or (λ (p : List ℕ × ℕ). p.0) o u) e in
    let same_count : m ≡ n = ap (λ o. option_map_or (λ (p : List ℕ × ℕ). p.1) o m) e in
    row_of_taken a u m rest w
    ∙ ap (λ k. told_but u (filter_map item_object (take k rest)) (take 1 (drop k rest)) w) same_count
    ∙ told_place u (filter_map item_object (take n rest)) (drop n rest) d w (at_place n rest _ (below n (text u ∷ int (pos m) ∷ rest) _ o))
    ∙ ap (λ v. gives [] (tell_but d (filter_map item_object (take n rest)) v w)) same_text
row_told a _ t n d w e o = absurd cc

pub row_nowhere : (a : Actor) (stack : List Datum) (t : List ℕ) (n : ℕ) (w : Live) → counted_in stack ≡ Some (t, n) → object_at (2 + n) stack ≡ None → notified_but a (take (items_taken NotifyExclude stack) stack) w ≡ refuses BadType
row_nowhere a (text u ∷ int (pos m) ∷ rest) t n w e o =
    let same_count : m ≡ n = ap (λ o. option_map_or (λ (p : List ℕ × ℕ). p.1) o m) e in
    row_of_taken a u m rest w
    ∙ ap (λ k. told_but u (filter_map item_object (take k rest)) (take 1 (drop k rest)) w) same_count
    ∙ told_nowhere u (filter_map item_object (take n rest)) (drop n rest) w (at_place n rest _ (below n (text u ∷ int (pos m) ∷ rest) _ o))
row_nowhere a _ t n w e o = absurd cc

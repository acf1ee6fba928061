-- The user's objects of a name, one number after another.
use Rattle.std.proofs.Common.{◌≡◌, ℕ, ◌+◌, ◌<◌, ◌≤◌, suc, Bool, true, false, cond, List, [], ◌∷◌, ◌++◌, length, drop, get_or, Option, Some, None, refl, sym, ◌∙◌, ap, add-one, drop-cons, append_assoc, append-nil}
use Rattle.std.proofs.lemmas.Bool.{cond-true, cond-false}
use Rattle.std.proofs.lemmas.List.{drop_all}
use Rattle.std.proofs.lemmas.Option.{get_or_from_slice_get}
use Rattle.std.specs.List.{slice_get}
use Rattle.std.specs.Option.{option_map_or, option_and_then}
use Rattle.muck_laws.proofs.Places.{some_at}
use Rattle.muck_model.specs.declared.dbref.Dbref.{Dbref}
use Rattle.muck_model.specs.declared.dbref.Kind.{Kind}
use Rattle.muck_model.specs.declared.dbref.Kind.TheVariants.{Room, Thing, Exit, Player, Program, Garbage}
use Rattle.spec_live.specs.declared.object.Object.{Object}
use Rattle.spec_live.specs.Objects.{Entry, dbref_of, is_garbage, kind_in, object_in, number_in, object_at}
use Rattle.spec_commands.specs.Building.{owned_named}
use Rattle.cmd_build.specs.inner.Owned.{is_wanted, wanted_at}

-- what isn't garbage
abbrev there : Object → Option Object
there o = cond (is_garbage o.kind) None (Some o)

abbrev with_kind : Kind → Entry → Entry
with_kind kind e = record e { object = record e.object { kind = kind } }

at_kind : (user : Dbref) (part : List ℕ) (n : ℕ) (kind : Kind) (e : Entry) (es : List Entry) →
    owned_named user part n (with_kind kind e ∷ es) ≡ cond (option_map_or (is_wanted user part) (there (with_kind kind e).object) false) (dbref_of n ∷ owned_named user part (n + 1) es) (owned_named user part (n + 1) es)
unfolding owned_named
at_kind user part n Room e es = refl
at_kind user part n Thing e es = refl
at_kind user part n Exit e es = refl
at_kind user part n Player e es = refl
at_kind user part n Program e es = refl
at_kind user part n Garbage e es = refl

object_there : (es : List Entry) (n : ℕ) (e : Entry) → slice_get es n ≡ Some e → object_at (dbref_of n) es ≡ there e.object
unfolding object_at number_in kind_in object_in
object_there es n e h = rw h (by_case (is_garbage e.object.kind))
  where
    by_case : (b : Bool) → option_and_then (object_in es) (cond b None (Some n)) ≡ cond b None (Some e.object)
    by_case true = refl
    by_case false = rw h refl

split_at : (es : List Entry) (n : ℕ) (e : Entry) → n < length es → slice_get es n ≡ Some e → drop n es ≡ e ∷ drop (n + 1) es
split_at es n e h is = let first : get_or es n e ≡ e = get_or_from_slice_get es n e e is in rw (add-one, drop-cons es n e h) (ap (λ x. x ∷ drop (suc n) es) first)

-- one number more
owned_next : (user : Dbref) (part : List ℕ) (n : ℕ) (es : List Entry) → n < length es →
    owned_named user part n (drop n es) ≡ cond (wanted_at user part (dbref_of n) es) (dbref_of n ∷ owned_named user part (n + 1) (drop (n + 1) es)) (owned_named user part (n + 1) (drop (n + 1) es))
owned_next user part n es h =
    let s : (e : Entry) × (slice_get es n ≡ Some e) = some_at es n h in
    let rest : List Dbref = owned_named user part (n + 1) (drop (n + 1) es) in
    ap (owned_named user part n) (split_at es n s.0 h s.1)
    ∙ (at_kind user part n s.0.object.kind s.0 (drop (n + 1) es)
    ∙ ap (λ o. cond (option_map_or (is_wanted user part) o false) (dbref_of n ∷ rest) rest) (sym (object_there es n s.0 s.1)))

-- what was found so far, and what the rest holds, are the whole

pub found_here : (user : Dbref) (part : List ℕ) (n : ℕ) (es : List Entry) (xs whole : List Dbref) → n < length es → wanted_at user part (dbref_of n) es ≡ true →
    xs ++ owned_named user part n (drop n es) ≡ whole → (xs ++ dbref_of n ∷ []) ++ owned_named user part (n + 1) (drop (n + 1) es) ≡ whole
found_here user part n es xs whole h is e =
    let next : owned_named user part n (drop n es) ≡ dbref_of n ∷ owned_named user part (n + 1) (drop (n + 1) es) = owned_next user part n es h ∙ cond-true _ _ _ is in
    append_assoc xs (dbref_of n ∷ []) _ ∙ (ap (λ ys. xs ++ ys) (sym next) ∙ e)

pub not_here : (user : Dbref) (part : List ℕ) (n : ℕ) (es : List Entry) (xs whole : List Dbref) → n < length es → wanted_at user part (dbref_of n) es ≡ false →
    xs ++ owned_named user part n (drop n es) ≡ whole → xs ++ owned_named user part (n + 1) (drop (n + 1) es) ≡ whole
not_here user part n es xs whole h isnt e =
    let next : owned_named user part n (drop n es) ≡ owned_named user part (n + 1) (drop (n + 1) es) = owned_next user part n es h ∙ cond-false _ _ _ isnt in
    ap (λ ys. xs ++ ys) (sym next) ∙ e

pub found_all : (user : Dbref) (part : List ℕ) (n : ℕ) (es : List Entry) (xs whole : List Dbref) → length es ≤ n → xs ++ owned_named user part n (drop n es) ≡ whole → xs ≡ whole
unfolding owned_named
found_all user part n es xs whole h e =
    let none : owned_named user part n (drop n es) ≡ [] = ap (owned_named user part n) (drop_all n es h) in
    sym (append-nil xs) ∙ (ap (λ ys. xs ++ ys) (sym none) ∙ e)

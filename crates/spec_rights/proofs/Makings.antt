-- What is made keeps to the licence.
use Rattle.std.proofs.Common.{◌≡◌, ℕ, ◌==◌, suc, Bool, true, false, cond, List, [], ◌∷◌, ◌++◌, length, refl, sym, ◌∙◌, ap, subst, Option, Some, None, inl, inr}
use Rattle.muck_laws.proofs.Numbers.{least_at_most}
use Rattle.muck_laws.proofs.Places.{read_more}
use Rattle.muck_laws.proofs.Truths.{and_all, and_three}
use Rattle.muck_model.proofs.Dbrefs.{same_eq}
use Rattle.std.specs.Prelude.{Ok, Err, nat_lt, slice_get, min, nat_le, ◌||◌}
use Rattle.std.specs.Option.{option_map, option_and_then, option_map_or}
use Rattle.std.proofs.lemmas.Bool.{cases_eq, or_right}
use Rattle.muck_model.specs.declared.dbref.Dbref.{Dbref}
use Rattle.muck_model.specs.declared.dbref.Kind.{Kind}
use Rattle.muck_model.specs.declared.dbref.Kind.TheVariants.{Room, Thing, Exit, Player, Program, Garbage}
use Rattle.spec_live.specs.declared.object.Object.{Object}
use Rattle.spec_live.specs.Flags.{builder, jump, link}
use Rattle.spec_live.specs.Objects.{Entry, dbref_of, nothing, home, same, is_garbage, object_in, list_in, kind_in, number_in, object_at, changed_at, on_object, with_object, garbage}
use Rattle.spec_live.specs.Moving.{moved, with_place}
use Rattle.spec_live.specs.Making.{free_in, blank_entry, objects_grown, new_object, created, may_make, make_judged, objects_most, owner_judged, create_check}
use Rattle.spec_live.specs.declared.fault.DbFault.TheVariants.{NoSuchObject, WrongKind, WorldFull}
use Rattle.spec_live.specs.Setting.{set_at, with_home, with_link, with_level}
use Rattle.spec_live.specs.Lives.{Live}
use Rattle.spec_live.proofs.Keeping.{join}
use Rattle.spec_live.proofs.Steps.{Touches}
use Rattle.spec_live.proofs.Walks.{walk_at, walk_created}
use Rattle.spec_live.proofs.Lives.{goes_objects}
use Rattle.spec_live.proofs.Lists.{get_changed_same}
use Rattle.spec_live.proofs.Readers.{object_changed, object_unchanged, object_elsewhere, object_moved, object_unmoved, list_changed, list_named}
use Rattle.spec_live.proofs.CreationLaws.{list_more, free_garbage}
use Rattle.spec_rights.specs.declared.act.Actor.{Actor}
use Rattle.spec_rights.specs.declared.act.Act.TheVariants.{NewRoom, NewThing, NewExit, NewProgram, Wizard}
use Rattle.spec_rights.specs.Levels.{level_at, flag_at}
use Rattle.spec_rights.specs.Verdict.{verdict, is_master, controls, controls_or}
use Rattle.spec_rights.specs.Changing.{created_so}
use Rattle.spec_rights.specs.Licence.{Freedom, Judge, IsNew, Differs, Reordered, as_before, front_open, SameLists, place_open}
use Rattle.spec_rights.proofs.Lookups.{alive, seen_at, number_is}
use Rattle.spec_rights.proofs.Listing.{reordered_moved}
use Rattle.spec_rights.proofs.Walking.{silent}
use Rattle.spec_rights.proofs.Rights.{SameRights, same_level}
use Rattle.spec_rights.proofs.Licences.{judge, changed_same, End}
use Rattle.spec_rights.proofs.Allowed.{room_allowed, thing_allowed, exit_allowed, program_allowed, wizard_allowed}
use Rattle.spec_rights.proofs.Changes.{end_objects}

-- Nothing is there at the free number.
free_dead : (es : List Entry) → option_and_then alive (object_in es (free_in es)) ≡ None
unfolding object_in free_in
free_dead [] = refl
free_dead (e ∷ es) = at (is_garbage e.object.kind) refl (free_dead es)
  where
    at : (b : Bool) → is_garbage e.object.kind ≡ b → option_and_then alive (object_in es (free_in es)) ≡ None → option_and_then alive (option_map (λ (x : Entry). x.object) (slice_get (e ∷ es) (cond b 0 (suc (free_in es))))) ≡ None
    at true h more = ap (λ b. cond b None (Some e.object)) h
    at false h more = more

-- One more of garbage is nothing.
grown_same : (k n : ℕ) (es : List Entry) → option_and_then alive (object_in (objects_grown k es) n) ≡ option_and_then alive (object_in es n)
unfolding object_in objects_grown blank_entry garbage
grown_same k n es = at (k == length es)
  where
    at : (b : Bool) → option_and_then alive (option_map (λ (x : Entry). x.object) (slice_get (cond b (es ++ blank_entry ∷ []) es) n)) ≡ option_and_then alive (option_map (λ (x : Entry). x.object) (slice_get es n))
    at true = read_more (λ (q : Option Entry). option_and_then alive (option_map (λ (x : Entry). x.object) q)) es blank_entry n refl
    at false = refl

list_grown : (v : Bool) (k i : ℕ) (es : List Entry) → list_in v (objects_grown k es) i ≡ list_in v es i
unfolding objects_grown
list_grown v k i es = at (k == length es)
  where
    at : (b : Bool) → list_in v (cond b (es ++ blank_entry ∷ []) es) i ≡ list_in v es i
    at true = list_more v es i
    at false = refl

object_put : (k : ℕ) (o : Object) (es : List Entry) → object_in (changed_at k (with_object o) es) k ≡ option_map (λ (x : Object). o) (object_in es k)
unfolding object_in
object_put k o es = rw (get_changed_same es k (with_object o)) (by_cases o (slice_get es k))
  where
    by_cases : (o : Object) (q : Option Entry) → option_map (λ (e : Entry). e.object) (option_map (with_object o) q) ≡ option_map (λ (x : Object). o) (option_map (λ (e : Entry). e.object) q)
    by_cases o None = refl
    by_cases o (Some e) = refl

abbrev made_in : Kind → List ℕ → Dbref → (Object → Object) → ℕ → List Entry → List Entry
made_in kind name owner finished to es = set_at finished (free_in es) (created (free_in es) kind name owner to es)

abbrev pub new_in : Kind → List ℕ → Dbref → (Object → Object) → ℕ → ℕ → Object
new_in kind name owner finished k to = finished (with_place to (new_object k kind name owner))

made_here : (kind : Kind) (name : List ℕ) (owner : Dbref) (finished : Object → Object) (to : ℕ) (es : List Entry) →
    object_in (made_in kind name owner finished to es) (free_in es) ≡ option_map (λ (x : Object). new_in kind name owner finished (free_in es) to) (object_in (objects_grown (free_in es) es) (free_in es))
unfolding created
made_here kind name owner finished to es =
    let k : ℕ = free_in es in
    let g : List Entry = objects_grown k es in
    let one : List Entry = changed_at k (with_object (new_object k kind name owner)) g in
    object_changed k finished (moved k to one)
    ∙ ap (λ (q : Option Object). option_map finished q) (object_moved one k to ∙ ap (λ (q : Option Object). option_map (with_place to) q) (object_put k (new_object k kind name owner) g))
    ∙ by_cases (object_in g k)
  where
    by_cases : (q : Option Object) → option_map finished (option_map (with_place to) (option_map (λ (x : Object). new_object (free_in es) kind name owner) q)) ≡ option_map (λ (x : Object). new_in kind name owner finished (free_in es) to) q
    by_cases None = refl
    by_cases (Some o) = refl

made_there : (kind : Kind) (name : List ℕ) (owner : Dbref) (finished : Object → Object) (to : ℕ) (es : List Entry) (n : ℕ) → (n ≡ free_in es → ⊥) → object_in (made_in kind name owner finished to es) n ≡ object_in (objects_grown (free_in es) es) n
unfolding created
made_there kind name owner finished to es n ne =
    let k : ℕ = free_in es in
    let g : List Entry = objects_grown k es in
    let one : List Entry = changed_at k (with_object (new_object k kind name owner)) g in
    object_unchanged k n finished (moved k to one) ne ∙ object_unmoved one k to n ne ∙ object_elsewhere k n (with_object (new_object k kind name owner)) g ne

differs_same : (j : Judge) (x : Dbref) (p q : Option Object) → q ≡ p → Differs j x p q
differs_same j x p q e = let P : Option Object → Type 0 = λ t. Differs j x p t in subst P (sym e) (at p)
  where
    at : (p : Option Object) → Differs j x p p
    at None = tt
    at (Some o) = changed_same j x o

differs_new : (j : Judge) (x : Dbref) (new : Object) (q : Option Object) → IsNew j x new → Differs j x None (option_and_then alive (option_map (λ (o : Object). new) q))
differs_new j x new None h = tt
differs_new j x new (Some o) h = elim (is_garbage new.kind) as (λ b. Differs j x None (cond b None (Some new))) [ true ↦ tt | false ↦ h ]

differs_made : (j : Judge) (kind : Kind) (name : List ℕ) (owner : Dbref) (finished : Object → Object) (to : ℕ) (es : List Entry) → IsNew j (dbref_of (free_in es)) (new_in kind name owner finished (free_in es) to) →
    (n : ℕ) → Differs j (dbref_of n) (object_at (dbref_of n) es) (object_at (dbref_of n) (made_in kind name owner finished to es))
differs_made j kind name owner finished to es h n =
    let fs : List Entry = made_in kind name owner finished to es in
    let k : ℕ = free_in es in
    rw (seen_at es n, seen_at fs n) (elim (cases_eq n k) [
      | inl e ↦
          let P : ℕ → Type 0 = λ m. Differs j (dbref_of m) (option_and_then alive (object_in es m)) (option_and_then alive (object_in fs m)) in
          let Q : Option Object → Option Object → Type 0 = λ p q. Differs j (dbref_of k) p (option_and_then alive q) in
          let new : Q None (option_map (λ (x : Object). new_in kind name owner finished k to) (object_in (objects_grown k es) k)) = differs_new j (dbref_of k) (new_in kind name owner finished k to) (object_in (objects_grown k es) k) h in
          let Here : Option Object → Type 0 = λ q. Q None q in
          let Dead : Option Object → Type 0 = λ p. Q p (object_in fs k) in
          subst P (sym e) (subst Dead (sym (free_dead es)) (subst Here (sym (made_here kind name owner finished to es)) new))
      | inr e ↦ differs_same j (dbref_of n) _ _ (ap (λ (q : Option Object). option_and_then alive q) (made_there kind name owner finished to es n e) ∙ grown_same k n es)
    ])

-- it comes to the front of a list of its place
lists_made : (j : Judge) (kind : Kind) (name : List ℕ) (owner : Dbref) (finished : Object → Object) (to : ℕ) (es : List Entry) → SameLists j es (made_in kind name owner finished to es)
unfolding created
lists_made j kind name owner finished to es v i =
    let k : ℕ = free_in es in
    let g : List Entry = objects_grown k es in
    let one : List Entry = changed_at k (with_object (new_object k kind name owner)) g in
    let may : ℕ → Bool = front_open j es i in
    let nobody : option_map_or (λ (o : Object). false) (object_at (dbref_of k) es) true ≡ true = ap (λ (q : Option Object). option_map_or (λ (o : Object). false) q true) (seen_at es k ∙ free_dead es) in
    let Q : List ℕ → Type 0 = λ l. Reordered may (list_in v es i) l in
    let before : Q (list_in v one i) = subst Q (sym (list_named v k i (new_object k kind name owner) g ∙ list_grown v k i es)) as_before in
    subst Q (sym (list_changed v k i finished (moved k to one))) (reordered_moved may (list_in v es i) v k to i one (λ e. or_right (place_open j (dbref_of k) (dbref_of i)) _ nobody) before)

-- what a check that passes says
made_by : (kind : Kind) (owned : Bool) (to : ℕ) (es : List Entry) (p : ℕ × ℕ) → make_judged kind owned to es ≡ Ok p → (p.0 ≡ free_in es) × (p.1 ≡ to)
unfolding make_judged
made_by kind owned to es p e = at (may_make kind owned to es) (nat_lt (free_in es) objects_most) e
  where
    at : (b c : Bool) → cond b (cond c (Ok (free_in es, to)) (Err WorldFull)) (Err WrongKind) ≡ Ok p → (p.0 ≡ free_in es) × (p.1 ≡ to)
    at true true e = let k : p ≡ (free_in es, to) = cc in (ap (λ (t : ℕ × ℕ). t.0) k, ap (λ (t : ℕ × ℕ). t.1) k)
    at true false e = absurd (cc)
    at false c e = absurd (cc)

made_checked : (kind : Kind) (owner place : Dbref) (es : List Entry) (p : ℕ × ℕ) → create_check kind owner place es ≡ Ok p → (p.0 ≡ free_in es) × (number_in es place ≡ Some p.1)
unfolding create_check
made_checked kind owner place es p e = at (owner_judged kind owner es) (number_in es place) refl e
  where
    at : (o : Option Bool) (q : Option ℕ) → number_in es place ≡ q → option_map_or (λ owned. option_map_or (λ to. make_judged kind owned to es) q (Err NoSuchObject)) o (Err NoSuchObject) ≡ Ok p → (p.0 ≡ free_in es) × (number_in es place ≡ Some p.1)
    at None q f e = absurd (cc)
    at (Some owned) None f e = absurd (cc)
    at (Some owned) (Some to) f e = let k = made_by kind owned to es p e in (k.0, f ∙ ap Some (sym k.1))

-- an object that is made where the check passed
pub end_created : (j : Judge) (kind : Kind) (name : List ℕ) (owner place : Dbref) (finished : Object → Object) (w : Live) (p : ℕ × ℕ) → create_check kind owner place w.objects ≡ Ok p → ((e : Entry) → Touches silent false e (on_object finished e)) →
    ((k t : ℕ) → place ≡ dbref_of t → IsNew j (dbref_of k) (new_in kind name owner finished k t)) → End j w (created_so p.0 kind name owner p.1 finished w)
unfolding created_so
end_created j kind name owner place finished w p e touch h =
    let k = made_checked kind owner place w.objects p e in
    let D : ℕ → Type 0 = λ m. (n : ℕ) → Differs j (dbref_of n) (object_at (dbref_of n) w.objects) (object_at (dbref_of n) (set_at finished m (created m kind name owner p.1 w.objects))) in
    let L : ℕ → Type 0 = λ m. SameLists j w.objects (set_at finished m (created m kind name owner p.1 w.objects)) in
    let new = h (free_in w.objects) p.1 (number_is w.objects place p.1 k.1) in
    let free : kind_in w.objects p.0 ≡ Garbage = ap (kind_in w.objects) k.0 ∙ free_garbage w.objects in
    end_objects j w (created_so p.0 kind name owner p.1 finished w) refl (subst D (sym k.0) (differs_made j kind name owner finished p.1 w.objects new)) (subst L (sym k.0) (lists_made j kind name owner finished p.1 w.objects))
    (goes_objects silent w _ (join (walk_created silent p.0 kind name owner p.1 w.objects free refl refl refl) (walk_at silent p.0 (on_object finished) _ (λ x _. touch x))))

-- The kinds.

abbrev Builds : Actor → List Entry → Type 0
Builds a start = (nat_le 3 a.level || flag_at builder start a.user) ≡ true

room_new : (a : Actor) (free : Freedom) (start : List Entry) (name : List ℕ) (k t : ℕ) → Builds a start → controls_or link start a (dbref_of t) ≡ true → IsNew (judge a free start) (dbref_of k) (new_in Room name a.user (λ o. o) k t)
unfolding new_object
room_new a free start name k t b h = record { kind = and_all _ _ _ (same_eq a.user a.user refl) b h; flags = refl; link = refl; lines = refl }

thing_new : (a : Actor) (free : Freedom) (start : List Entry) (name : List ℕ) (at : Dbref) (k t : ℕ) → Builds a start → (nat_le 3 a.level || controls_or jump start a (dbref_of t)) ≡ true → IsNew (judge a free start) (dbref_of k) (new_in Thing name a.user (with_home at) k t)
unfolding new_object
thing_new a free start name at k t b h = record { kind = and_all _ _ _ (same_eq a.user a.user refl) b h; flags = refl; link = refl; lines = refl }

exit_new : (a : Actor) (free : Freedom) (start : List Entry) (name : List ℕ) (to : Dbref) (k t : ℕ) → Builds a start → controls start a (dbref_of t) ≡ true → (same to nothing || (same to home || controls_or link start a to)) ≡ true →
    IsNew (judge a free start) (dbref_of k) (new_in Exit name a.user (with_link to) k t)
unfolding new_object
exit_new a free start name to k t b h l = record { kind = and_all _ _ _ (same_eq a.user a.user refl) b h; flags = refl; link = l; lines = refl }

program_new : (a : Actor) (free : Freedom) (start : List Entry) (name : List ℕ) (level k t : ℕ) → nat_le 1 (level_at start a.user) ≡ true → nat_le level (level_at start a.user) ≡ true → IsNew (judge a free start) (dbref_of k) (new_in Program name a.user (with_level level) k t)
unfolding new_object
program_new a free start name level k t b h = record { kind = and_three _ _ _ (same_eq a.user a.user refl) b h; flags = refl; link = refl; lines = refl }

player_new : (a : Actor) (free : Freedom) (start : List Entry) (name : List ℕ) (owner : Dbref) (k t : ℕ) → is_master a ≡ true → IsNew (judge a free start) (dbref_of k) (new_in Player name owner (λ o. o) k t)
unfolding new_object
player_new a free start name owner k t h = record { kind = and_three _ _ _ h refl (same_eq (dbref_of k) (dbref_of k) refl); flags = refl; link = refl; lines = refl }

-- What is new by an act that is allowed.

pub room_open : (a : Actor) (free : Freedom) (start es : List Entry) (name : List ℕ) (place : Dbref) (k t : ℕ) → SameRights start es → verdict es a (NewRoom place) ≡ None → place ≡ dbref_of t → IsNew (judge a free start) (dbref_of k) (new_in Room name a.user (λ o. o) k t)
room_open a free start es name place k t s g e =
    let p = room_allowed a start es place s g in
    room_new a free start name k t p.0 (ap (controls_or link start a) (sym e) ∙ p.1)

pub thing_open : (a : Actor) (free : Freedom) (start es : List Entry) (name : List ℕ) (place at : Dbref) (k t : ℕ) → SameRights start es → verdict es a (NewThing place) ≡ None → place ≡ dbref_of t → IsNew (judge a free start) (dbref_of k) (new_in Thing name a.user (with_home at) k t)
thing_open a free start es name place at k t s g e =
    let p = thing_allowed a start es place s g in
    thing_new a free start name at k t p.0 (ap (λ d. nat_le 3 a.level || controls_or jump start a d) (sym e) ∙ p.1)

pub exit_open : (a : Actor) (free : Freedom) (start es : List Entry) (name : List ℕ) (place to : Dbref) (k t : ℕ) → SameRights start es → verdict es a (NewExit place to) ≡ None → place ≡ dbref_of t → IsNew (judge a free start) (dbref_of k) (new_in Exit name a.user (with_link to) k t)
exit_open a free start es name place to k t s g e =
    let p = exit_allowed a start es place to s g in
    exit_new a free start name to k t p.0 (ap (controls start a) (sym e) ∙ p.1) p.2

-- at its owner's level, at most 3
pub program_open : (a : Actor) (free : Freedom) (start es : List Entry) (name : List ℕ) (level k t : ℕ) → SameRights start es → verdict es a NewProgram ≡ None → level ≡ min (level_at es a.user) 3 → IsNew (judge a free start) (dbref_of k) (new_in Program name a.user (with_level level) k t)
program_open a free start es name level k t s g e =
    let h : nat_le (min (level_at es a.user) 3) (level_at start a.user) ≡ true = least_at_most (level_at es a.user) (level_at start a.user) (sym (same_level a.user start es s)) in
    program_new a free start name level k t (program_allowed a start es s g) (ap (λ n. nat_le n (level_at start a.user)) e ∙ h)

-- a player belongs to itself, whoever is given as its owner
pub player_open : (a : Actor) (free : Freedom) (start es : List Entry) (name : List ℕ) (owner : Dbref) (k t : ℕ) → verdict es a Wizard ≡ None → IsNew (judge a free start) (dbref_of k) (new_in Player name owner (λ o. o) k t)
player_open a free start es name owner k t g = player_new a free start name owner k t (wizard_allowed es a g)

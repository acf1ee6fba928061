-- Recycling keeps to the licence, with all that it brings with it.
use Rattle.std.proofs.Common.{◌≡◌, ℕ, ◌==◌, Bool, true, false, cond, List, [], ◌∷◌, refl, sym, ◌∙◌, ap, subst, Option, Some, None, inl, inr, arith}
use Rattle.muck_model.proofs.Dbrefs.{same_eq, eq_same}
use Rattle.std.specs.Prelude.{is_some, Result, Ok, Err, map, ◌⊎◌, ◌||◌, not, slice_get}
use Rattle.std.specs.Option.{option_map, option_and_then, option_map_or}
use Rattle.std.specs.List.{list_any}
use Rattle.std.proofs.lemmas.Bool.{cases_eq, false≢true, and_parts, or_parts, not-true, or_left, or_right, and_from}
use Rattle.std.proofs.lemmas.Bool.Decides.{nat_tests}
use Rattle.std.proofs.lemmas.Option.{slice_get-map}
use Rattle.muck_model.specs.declared.dbref.Dbref.{Dbref}
use Rattle.muck_model.specs.declared.dbref.Kind.{Kind}
use Rattle.muck_model.specs.declared.dbref.Kind.TheVariants.{Room, Thing, Exit, Player, Program, Garbage}
use Rattle.spec_live.specs.declared.object.Object.{Object}
use Rattle.std.specs.FinMap.{get}
use Rattle.spec_live.specs.Flags.{has_flag, wizard}
use Rattle.spec_live.specs.Chain.{Member}
use Rattle.spec_live.specs.Objects.{Entry, dbref_of, nothing, same, index_of, is_exit, is_player, is_garbage, object_in, entry_list, list_in, mark_in, kind_in, owner_in, home_in, number_in, object_at, changed_at, garbage}
use Rattle.spec_live.specs.Moving.{left_out, moved, with_place}
use Rattle.spec_live.specs.Recycling.{untied, exits_gone, vanished, without_exits, without_ties, untie, wished_home, may_go, way_home, sent_home, gone_entry, is_exit_of, exit_gone, taken_away, recycled, recycle_check}
use Rattle.spec_live.specs.declared.fault.DbFault.{DbFault}
use Rattle.spec_live.specs.declared.fault.DbFault.TheVariants.{NoSuchObject, WrongKind}
use Rattle.spec_live.specs.Setting.{checked}
use Rattle.spec_live.specs.Lives.{Live}
use Rattle.spec_live.specs.Seen.{listed_in}
use Rattle.spec_live.proofs.Lists.{get_changed_same}
use Rattle.spec_live.proofs.Readers.{object_elsewhere, object_left, object_moved, object_unmoved, kind_is}
use Rattle.spec_live.proofs.Steps.{May, Gone, Place, Lists, kept, sets, lines, makes, vanishes, tells as unmarks}
use Rattle.spec_live.proofs.Walks.{walk_recycled}
use Rattle.spec_live.proofs.Entries.{Holds, each_walk, mark_read}
use Rattle.spec_live.proofs.Lives.{Goes, goes_objects, fewer_along}
use Rattle.spec_live.proofs.Tracing.{traced_along}
use Rattle.spec_live.proofs.Savings.{object_relinked, list_relinked}
use Rattle.spec_rights.specs.declared.act.Actor.{Actor}
use Rattle.spec_rights.specs.declared.act.Act.TheVariants.{Recycle}
use Rattle.spec_rights.specs.Levels.{is_player_at}
use Rattle.spec_rights.specs.Verdict.{verdict, controls}
use Rattle.spec_rights.specs.Changing.{recycled_now}
use Rattle.spec_rights.specs.Licence.{Freedom, Open, Judge, Changed, Differs, Reordered, as_before, empties, front_open, SameLists, is_emptied, is_way_home, place_open, link_open, home_open, gone_open, may_recycle}
use Rattle.spec_live.proofs.HomeLaws.{list_untied}
use Rattle.spec_rights.proofs.Listing.{reordered_all, reordered_one, reordered_left, reordered_moved}
use Rattle.spec_rights.proofs.Lookups.{Row, alive, seen_at, number_is}
use Rattle.spec_rights.proofs.Walking.{acts}
use Rattle.spec_rights.proofs.Telling.{lives, there_read}
use Rattle.spec_rights.proofs.Licences.{judge, MarkOpen, SameMarks, ties_itself, stay_itself, stay_end, end_proper, Proper}
use Rattle.spec_rights.proofs.Allowed.{recycle_allowed}

-- one object is recycled, of that number
abbrev judged : Actor → Freedom → ℕ → List Entry → Judge
judged a free d es = record { actor = a; free = free; gone = Some (dbref_of d); objects = es }

-- Where an object is sent that stands in the contents.
record Went (j : Judge) (n : ℕ) (o : Object) (place : Dbref) : Type 0 where
  emptied : is_emptied j (dbref_of n) ≡ true
  way : is_way_home j (dbref_of n) place ≡ true
  exit : is_exit o.kind ≡ true → place ≡ dbref_of 0

-- what has become of an object on the way: it lost its ties, and stands where it stood or was sent home
record Homeward (j : Judge) (d n : ℕ) (o p : Object) : Type 0 where
  place : Dbref
  same : p ≡ record (without_ties d o) { place = place }
  way : (place ≡ o.place) ⊎ Went j n o place

abbrev Rows : Judge → ℕ → List Entry → List Entry → Type 0
Rows j d es fs = (n : ℕ) → Row (Homeward j d n) (object_in es n) (object_in fs n)

-- What is read on the way.

kind_on_way : (j : Judge) (d n : ℕ) (q r : Option Object) → Row (Homeward j d n) q r → option_map_or (λ (o : Object). o.kind) r Garbage ≡ option_map_or (λ (o : Object). o.kind) q Garbage
kind_on_way j d n None None h = refl
kind_on_way j d n None (Some p) h = absurd h
kind_on_way j d n (Some o) None h = absurd h
kind_on_way j d n (Some o) (Some p) h = ap (λ (x : Object). x.kind) h.same

owner_on_way : (j : Judge) (d n : ℕ) (q r : Option Object) → Row (Homeward j d n) q r → option_and_then (λ (o : Object). index_of o.owner) r ≡ option_and_then (λ (o : Object). index_of o.owner) q
owner_on_way j d n None None h = refl
owner_on_way j d n None (Some p) h = absurd h
owner_on_way j d n (Some o) None h = absurd h
owner_on_way j d n (Some o) (Some p) h = ap (λ (x : Object). index_of x.owner) h.same

home_on_way : (j : Judge) (d n t : ℕ) (q r : Option Object) → Row (Homeward j d n) q r → option_and_then (λ (o : Object). index_of o.home) r ≡ Some t → (t ≡ 0) ⊎ (option_and_then (λ (o : Object). index_of o.home) q ≡ Some t)
home_on_way j d n t None None h e = inr e
home_on_way j d n t None (Some p) h e = absurd h
home_on_way j d n t (Some o) None h e = absurd h
home_on_way j d n t (Some o) (Some p) h e = at (same o.home (dbref_of d)) (ap (λ (x : Object). index_of x.home) (sym h.same) ∙ e)
  where
    at : (b : Bool) → index_of (cond b (dbref_of 0) o.home) ≡ Some t → (t ≡ 0) ⊎ (index_of o.home ≡ Some t)
    at true e = inl (cc)
    at false e = inr e

kinds_same : (j : Judge) (d : ℕ) (es fs : List Entry) → Rows j d es fs → (n : ℕ) → kind_in fs n ≡ kind_in es n
unfolding kind_in
kinds_same j d es fs r n = kind_on_way j d n _ _ (r n)

owners_same : (j : Judge) (d : ℕ) (es fs : List Entry) → Rows j d es fs → (n : ℕ) → owner_in fs n ≡ owner_in es n
unfolding owner_in
owners_same j d es fs r n = owner_on_way j d n _ _ (r n)

homes_tell : (j : Judge) (d : ℕ) (es fs : List Entry) → Rows j d es fs → (n t : ℕ) → home_in fs n ≡ Some t → (t ≡ 0) ⊎ (home_in es n ≡ Some t)
unfolding home_in
homes_tell j d es fs r n t e = home_on_way j d n t _ _ (r n) e

-- an object wishes to go where it wished to, or to `#0`
wish_tells : (j : Judge) (d : ℕ) (es fs : List Entry) → Rows j d es fs → (y t : ℕ) (k : Kind) → wished_home y fs k ≡ Some t → (t ≡ 0) ⊎ (wished_home y es k ≡ Some t)
unfolding wished_home
wish_tells j d es fs r y t Thing e = homes_tell j d es fs r y t e
wish_tells j d es fs r y t Player e = homes_tell j d es fs r y t e
wish_tells j d es fs r y t Program e =
    let P : Option ℕ → Type 0 = λ q. option_and_then (home_in fs) q ≡ Some t in
    at (owner_in es y) (subst P (owners_same j d es fs r y) e)
  where
    at : (q : Option ℕ) → option_and_then (home_in fs) q ≡ Some t → (t ≡ 0) ⊎ (option_and_then (home_in es) q ≡ Some t)
    at None e = inr e
    at (Some u) e = homes_tell j d es fs r u t e
wish_tells j d es fs r y t Room e = absurd (cc)
wish_tells j d es fs r y t Exit e = absurd (cc)
wish_tells j d es fs r y t Garbage e = absurd (cc)

-- and goes there or to `#0`
way_tells : (j : Judge) (d : ℕ) (es fs : List Entry) → Rows j d es fs → (y : ℕ) → (way_home y fs ≡ 0) ⊎ (wished_home y es (kind_in es y) ≡ Some (way_home y fs))
unfolding way_home
way_tells j d es fs r y =
    let P : Kind → Type 0 = λ k. (t : ℕ) → wished_home y fs k ≡ Some t → (t ≡ 0) ⊎ (wished_home y es (kind_in es y) ≡ Some t) in
    let tells : P (kind_in fs y) = subst P (sym (kinds_same j d es fs r y)) (λ t. wish_tells j d es fs r y t (kind_in es y)) in
    at (wished_home y fs (kind_in fs y)) tells
  where
    at : (q : Option ℕ) → ((t : ℕ) → q ≡ Some t → (t ≡ 0) ⊎ (wished_home y es (kind_in es y) ≡ Some t)) →
        (option_map_or (λ to. cond (may_go y to fs) to 0) q 0 ≡ 0) ⊎ (wished_home y es (kind_in es y) ≡ Some (option_map_or (λ to. cond (may_go y to fs) to 0) q 0))
    at None tells = inl refl
    at (Some t) tells = elim (may_go y t fs) as (λ b. (cond b t 0 ≡ 0) ⊎ (wished_home y es (kind_in es y) ≡ Some (cond b t 0))) [ true ↦ tells t refl | false ↦ inl refl ]

-- Sending home.

way_open : (a : Actor) (free : Freedom) (d : ℕ) (es : List Entry) (y t : ℕ) → (t ≡ 0) ⊎ (wished_home y es (kind_in es y) ≡ Some t) → is_way_home (judged a free d es) (dbref_of y) (dbref_of t) ≡ true
way_open a free d es y t (inl e) = or_left _ _ (same_eq (dbref_of t) (dbref_of 0) (ap dbref_of e))
way_open a free d es y t (inr e) = or_right (same (dbref_of t) (dbref_of 0)) _ (ap (λ (q : Option ℕ). option_map_or (λ u. same (dbref_of t) (dbref_of u)) q false) e ∙ same_eq (dbref_of t) (dbref_of t) refl)

exits_stay : (es : List Entry) (y t : ℕ) (k : Kind) → is_exit k ≡ true → (t ≡ 0) ⊎ (wished_home y es k ≡ Some t) → dbref_of t ≡ dbref_of 0
unfolding wished_home
exits_stay es y t k h (inl e) = ap dbref_of e
exits_stay es y t Exit h (inr e) = absurd (cc)
exits_stay es y t Room h (inr e) = absurd (cc)
exits_stay es y t Thing h (inr e) = absurd (cc)
exits_stay es y t Player h (inr e) = absurd (cc)
exits_stay es y t Program h (inr e) = absurd (cc)
exits_stay es y t Garbage h (inr e) = absurd (cc)

went_row : (j : Judge) (d y t : ℕ) (q r : Option Object) → ((o : Object) → q ≡ Some o → Went j y o (dbref_of t)) → Row (Homeward j d y) q r → Row (Homeward j d y) q (option_map (with_place t) r)
went_row j d y t None None w h = tt
went_row j d y t None (Some p) w h = absurd h
went_row j d y t (Some o) None w h = absurd h
went_row j d y t (Some o) (Some p) w h = record { place = dbref_of t; same = ap (λ (x : Object). with_place t x) h.same; way = inr (w o refl) }

step_home : (a : Actor) (free : Freedom) (d y : ℕ) (es fs : List Entry) → is_emptied (judged a free d es) (dbref_of y) ≡ true → Rows (judged a free d es) d es fs → Rows (judged a free d es) d es (moved y (way_home y fs) fs)
step_home a free d y es fs h r n =
    let j : Judge = judged a free d es in
    let t : ℕ = way_home y fs in
    let way : (t ≡ 0) ⊎ (wished_home y es (kind_in es y) ≡ Some t) = way_tells j d es fs r y in
    elim (cases_eq n y) [
      | inl e ↦
          let P : ℕ → Type 0 = λ m. Row (Homeward j d m) (object_in es m) (object_in (moved y t fs) m) in
          let Q : Option Object → Type 0 = λ q. Row (Homeward j d y) (object_in es y) q in
          let K : Kind → Type 0 = λ k. (t ≡ 0) ⊎ (wished_home y es k ≡ Some t) in
          let went : (o : Object) → object_in es y ≡ Some o → Went j y o (dbref_of t) =
          λ o f. record { emptied = h; way = way_open a free d es y t way; exit = λ x. exits_stay es y t o.kind x (subst K (kind_is es y o f) way) } in
          subst P (sym e) (subst Q (sym (object_moved fs y t)) (went_row j d y t (object_in es y) (object_in fs y) went (r y)))
      | inr e ↦
          let Q : Option Object → Type 0 = λ q. Row (Homeward j d n) (object_in es n) q in
          subst Q (sym (object_unmoved fs y t n e)) (r n)
    ]

all_home : (a : Actor) (free : Freedom) (d : ℕ) (es : List Entry) (ys : List ℕ) → ((y : ℕ) → Member y ys → is_emptied (judged a free d es) (dbref_of y) ≡ true) → (fs : List Entry) →
    Rows (judged a free d es) d es fs → Rows (judged a free d es) d es (sent_home ys fs)
unfolding sent_home Member
all_home a free d es [] h fs r = r
all_home a free d es (y ∷ ys) h fs r = all_home a free d es ys (λ z m. h z (inr m)) (moved y (way_home y fs) fs) (step_home a free d y es fs (h y (inl refl)) r)

-- Losing ties.
untied_rows : (j : Judge) (d : ℕ) (es : List Entry) → Rows j d es (untied d es)
unfolding object_in untied
untied_rows j d es n = rw (slice_get-map (untie d) es n) (by_cases (slice_get es n))
  where
    by_cases : (q : Option Entry) → Row (Homeward j d n) (option_map (λ (e : Entry). e.object) q) (option_map (λ (e : Entry). e.object) (option_map (untie d) q))
    by_cases None = tt
    by_cases (Some e) = record { place = e.object.place; same = refl; way = inl refl }

-- The contents are those of what is recycled.
member_listed : (y : ℕ) (xs : List ℕ) → Member y xs → list_any (same (dbref_of y)) (map dbref_of xs) ≡ true
unfolding Member
member_listed y [] m = elim m [ ]
member_listed y (x ∷ xs) m = elim m [
  | inl e ↦ or_left _ _ (same_eq (dbref_of y) (dbref_of x) (ap dbref_of e))
  | inr r ↦ or_right (same (dbref_of y) (dbref_of x)) _ (member_listed y xs r)
]

contents_emptied : (a : Actor) (free : Freedom) (d : ℕ) (es : List Entry) → number_in es (dbref_of d) ≡ Some d → (y : ℕ) → Member y (list_in false es d) → is_emptied (judged a free d es) (dbref_of y) ≡ true
unfolding listed_in
contents_emptied a free d es e y m =
    ap (λ (q : Option ℕ). list_any (same (dbref_of y)) (option_map_or (λ n. map dbref_of (list_in false es n)) q [])) e ∙ member_listed y (list_in false es d) m

-- What is lost.

exits_at : (d n : ℕ) (es : List Entry) → object_in (map (exit_gone d) es) n ≡ option_map (λ (p : Object). cond (is_exit_of d p) garbage p) (object_in es n)
unfolding object_in gone_entry
exits_at d n es = rw (slice_get-map (exit_gone d) es n) (by_cases (slice_get es n))
  where
    one : (b : Bool) (e : Entry) → (cond b (gone_entry e) e).object ≡ cond b garbage e.object
    one true e = refl
    one false e = refl

    by_cases : (q : Option Entry) → option_map (λ (e : Entry). e.object) (option_map (exit_gone d) q) ≡ option_map (λ (p : Object). cond (is_exit_of d p) garbage p) (option_map (λ (e : Entry). e.object) q)
    by_cases None = refl
    by_cases (Some e) = ap (λ (x : Object). Some x) (one (is_exit_of d e.object) e)

gone_at : (d : ℕ) (es : List Entry) → object_in (changed_at d gone_entry es) d ≡ option_map (λ (p : Object). garbage) (object_in es d)
unfolding object_in gone_entry
gone_at d es = rw (get_changed_same es d gone_entry) (by_cases (slice_get es d))
  where
    by_cases : (q : Option Entry) → option_map (λ (e : Entry). e.object) (option_map gone_entry q) ≡ option_map (λ (p : Object). garbage) (option_map (λ (e : Entry). e.object) q)
    by_cases None = refl
    by_cases (Some e) = refl

recycled_there : (d n : ℕ) (es : List Entry) → (n ≡ d → ⊥) →
    object_in (recycled d es) n ≡ option_map (λ (p : Object). cond (is_exit_of d p) garbage p) (object_in (sent_home (list_in false es d) (untied d es)) n)
unfolding recycled taken_away vanished exits_gone
recycled_there d n es ne =
    let em : List Entry = sent_home (list_in false es d) (untied d es) in
    let lost : List Entry = changed_at d without_exits (map (exit_gone d) em) in
    object_relinked em (vanished d (exits_gone d em)) n ∙ object_elsewhere d n gone_entry (map (left_out d) lost) ne ∙ object_left d n lost ∙ object_elsewhere d n without_exits (map (exit_gone d) em) ne ∙ exits_at d n em

recycled_here : (d : ℕ) (es : List Entry) → (q : Option Object) × (object_in (recycled d es) d ≡ option_map (λ (p : Object). garbage) q)
unfolding recycled taken_away vanished
recycled_here d es =
    let home : List Entry = sent_home (list_in false es d) (untied d es) in
    let lost : List Entry = exits_gone d home in
    (object_in (map (left_out d) lost) d, object_relinked home (vanished d lost) d ∙ gone_at d (map (left_out d) lost))

-- What differs where an object is still there.

read_at : {X : Type 0} (f : Object → X) (none : X) (x : Dbref) (es : List Entry) (o : Object) → object_at x es ≡ Some o → option_map_or f (object_at x es) none ≡ f o
read_at f none x es o e = ap (λ q. option_map_or f q none) e

changed_home : (a : Actor) (free : Freedom) (d n : ℕ) (es : List Entry) (o p : Object) → object_at (dbref_of n) es ≡ Some o → Homeward (judged a free d es) d n o p → Changed (judged a free d es) (dbref_of n) o p
changed_home a free d n es o p there h = record {
  kind = ap (λ (x : Object). x.kind) h.same;
  name = inl (ap (λ (x : Object). x.name) h.same);
  owner = inl (ap (λ (x : Object). x.owner) h.same);
  place = place h.way;
  link = link (same o.link (dbref_of d)) refl (ap (λ (x : Object). x.link) h.same);
  home = home (same o.home (dbref_of d)) refl (ap (λ (x : Object). x.home) h.same);
  flags = inl (ap (λ (x : Object). x.flags) h.same);
  wizard = inl (ap (λ (x : Object). has_flag wizard x.flags) h.same);
  level = inl (ap (λ (x : Object). x.level) h.same);
  props = λ path. inl (ap (λ (x : Object). get x.props path) h.same);
  lines = inl (ap (λ (x : Object). x.lines) h.same);
  digest = inl (ap (λ (x : Object). x.digest) h.same);
}
  where
    place : (h.place ≡ o.place) ⊎ Went (judged a free d es) n o h.place → Open (place_open (judged a free d es) (dbref_of n)) o.place p.place
    place (inl e) = inl (ap (λ (x : Object). x.place) h.same ∙ e)
    place (inr w) = inr (ap (λ (x : Object). place_open (judged a free d es) (dbref_of n) x.place) h.same ∙ or_right (free.moves (dbref_of n)) _ (or_left _ _ (and_from _ _ w.emptied w.way)))

    link : (b : Bool) → same o.link (dbref_of d) ≡ b → p.link ≡ cond b nothing o.link → Open (link_open (judged a free d es) (dbref_of n)) o.link p.link
    link true t e = inr (ap (link_open (judged a free d es) (dbref_of n)) e ∙ or_right _ _ (ap (λ (y : Dbref). same y (dbref_of d)) (read_at (λ (x : Object). x.link) nothing (dbref_of n) es o there) ∙ t))
    link false t e = inl e

    home : (b : Bool) → same o.home (dbref_of d) ≡ b → p.home ≡ cond b (dbref_of 0) o.home → Open (home_open (judged a free d es) (dbref_of n)) o.home p.home
    home true t e = inr (ap (home_open (judged a free d es) (dbref_of n)) e ∙ or_right _ _ (ap (λ (y : Dbref). same y (dbref_of d)) (read_at (λ (x : Object). x.home) nothing (dbref_of n) es o there) ∙ t))
    home false t e = inl e

not_zero : (d : ℕ) → (d == 0) ≡ false → same (dbref_of 0) (dbref_of d) ≡ true → ⊥
not_zero d e h = let z : dbref_of 0 ≡ dbref_of d = eq_same (dbref_of 0) (dbref_of d) h in let n : d ≡ 0 = cc in absurd (grind (arith, nat_tests))

exit_open : (a : Actor) (free : Freedom) (d n : ℕ) (es : List Entry) (o p : Object) → (d == 0) ≡ false → Homeward (judged a free d es) d n o p → is_exit_of d p ≡ true → gone_open (judged a free d es) (dbref_of n) o ≡ true
exit_open a free d n es o p some h e =
    let exit : is_exit o.kind ≡ true = ap (λ (x : Object). is_exit x.kind) (sym h.same) ∙ (and_parts _ _ e).0 in
    let place : same h.place (dbref_of d) ≡ true = ap (λ (x : Object). same x.place (dbref_of d)) (sym h.same) ∙ (and_parts _ _ e).1 in
    or_right (same (dbref_of n) (dbref_of d)) _ (and_from _ _ exit (elim h.way [
      | inl k ↦ ap (λ (y : Dbref). same y (dbref_of d)) (sym k) ∙ place
      | inr w ↦ absurd (not_zero d some (ap (λ (y : Dbref). same y (dbref_of d)) (sym (w.exit exit)) ∙ place))
    ]))

differs_there : (a : Actor) (free : Freedom) (d n : ℕ) (es : List Entry) → (d == 0) ≡ false → (q r : Option Object) → object_in es n ≡ q → Row (Homeward (judged a free d es) d n) q r →
    Differs (judged a free d es) (dbref_of n) (option_and_then alive q) (option_and_then alive (option_map (λ (p : Object). cond (is_exit_of d p) garbage p) r))
unfolding garbage
differs_there a free d n es some None None e h = tt
differs_there a free d n es some None (Some p) e h = absurd h
differs_there a free d n es some (Some o) None e h = absurd h
differs_there a free d n es some (Some o) (Some p) e h = at (is_garbage o.kind) (is_exit_of d p) refl refl
  where
    at : (b c : Bool) → is_garbage o.kind ≡ b → is_exit_of d p ≡ c → Differs (judged a free d es) (dbref_of n) (cond b None (Some o)) (option_and_then alive (Some (cond c garbage p)))
    at true true g x = tt
    at true false g x =
        let P : Bool → Type 0 = λ k. Differs (judged a free d es) (dbref_of n) None (cond k None (Some p)) in
        subst P (sym (ap (λ (x : Object). is_garbage x.kind) h.same ∙ g)) tt
    at false true g x = exit_open a free d n es o p some h x
    at false false g x =
        let P : Bool → Type 0 = λ k. Differs (judged a free d es) (dbref_of n) (Some o) (cond k None (Some p)) in
        let there : object_at (dbref_of n) es ≡ Some o = seen_at es n ∙ ap (λ (q : Option Object). option_and_then alive q) e ∙ ap (λ (k : Bool). cond k None (Some o)) g in
        subst P (sym (ap (λ (x : Object). is_garbage x.kind) h.same ∙ g)) (changed_home a free d n es o p there h)

differs_here : (a : Actor) (free : Freedom) (d : ℕ) (es : List Entry) (q r : Option Object) → Differs (judged a free d es) (dbref_of d) (option_and_then alive q) (option_and_then alive (option_map (λ (p : Object). garbage) r))
unfolding garbage
differs_here a free d es None None = tt
differs_here a free d es None (Some p) = tt
differs_here a free d es (Some o) r = at (is_garbage o.kind) r
  where
    at : (b : Bool) (r : Option Object) → Differs (judged a free d es) (dbref_of d) (cond b None (Some o)) (option_and_then alive (option_map (λ (p : Object). garbage) r))
    at true None = tt
    at true (Some p) = tt
    at false None = or_left _ _ (same_eq (dbref_of d) (dbref_of d) refl)
    at false (Some p) = or_left _ _ (same_eq (dbref_of d) (dbref_of d) refl)

differs_recycled : (a : Actor) (free : Freedom) (d : ℕ) (es : List Entry) → number_in es (dbref_of d) ≡ Some d → (d == 0) ≡ false → (n : ℕ) →
    Differs (judged a free d es) (dbref_of n) (object_at (dbref_of n) es) (object_at (dbref_of n) (recycled d es))
differs_recycled a free d es known some n =
    let j : Judge = judged a free d es in
    let fs : List Entry = recycled d es in
    let em : List Entry = sent_home (list_in false es d) (untied d es) in
    let rows : Rows j d es em = all_home a free d es (list_in false es d) (contents_emptied a free d es known) (untied d es) (untied_rows j d es) in
    rw (seen_at es n, seen_at fs n) (elim (cases_eq n d) [
      | inl e ↦
          let P : ℕ → Type 0 = λ m. Differs j (dbref_of m) (option_and_then alive (object_in es m)) (option_and_then alive (object_in fs m)) in
          let Q : Option Object → Type 0 = λ q. Differs j (dbref_of d) (option_and_then alive (object_in es d)) (option_and_then alive q) in
          let here = recycled_here d es in
          subst P (sym e) (subst Q (sym here.1) (differs_here a free d es (object_in es d) here.0))
      | inr e ↦
          let Q : Option Object → Type 0 = λ q. Differs j (dbref_of n) (option_and_then alive (object_in es n)) (option_and_then alive q) in
          subst Q (sym (recycled_there d n es e)) (differs_there a free d n es some (object_in es n) (object_in em n) refl (rows n))
    ])

-- The lists.

lists_home : (a : Actor) (free : Freedom) (d : ℕ) (es : List Entry) (ys : List ℕ) → ((y : ℕ) → Member y ys → is_emptied (judged a free d es) (dbref_of y) ≡ true) → (fs : List Entry) →
    Rows (judged a free d es) d es fs → (xs : List ℕ) (v : Bool) (k : ℕ) → Reordered (front_open (judged a free d es) es k) xs (list_in v fs k) → Reordered (front_open (judged a free d es) es k) xs (list_in v (sent_home ys fs) k)
unfolding sent_home Member
lists_home a free d es [] h fs r xs v k t = t
lists_home a free d es (y ∷ ys) h fs r xs v k t =
    let j : Judge = judged a free d es in
    let to : ℕ = way_home y fs in
    let gone : is_emptied j (dbref_of y) ≡ true = h y (inl refl) in
    let open_there : place_open j (dbref_of y) (dbref_of to) ≡ true = or_right (free.moves (dbref_of y)) _ (or_left _ _ (and_from _ _ gone (way_open a free d es y to (way_tells j d es fs r y)))) in
    let may : k ≡ to → front_open j es k y ≡ true = λ e. or_left _ _ (ap (λ (m : ℕ). place_open j (dbref_of y) (dbref_of m)) e ∙ open_there) in
    lists_home a free d es ys (λ z m. h z (inr m)) (moved y to fs) (step_home a free d y es fs gone r) xs v k (reordered_moved (front_open j es k) xs v y to k fs may t)

exit_kept : (may : ℕ → Bool) (xs : List ℕ) (v b : Bool) (e : Entry) → Reordered may xs (entry_list v e) → Reordered may xs (entry_list v (cond b (gone_entry e) e))
unfolding gone_entry
exit_kept may xs v false e r = r
exit_kept may xs true true e r = empties r
exit_kept may xs false true e r = empties r

without_kept : (may : ℕ → Bool) (xs : List ℕ) (v : Bool) (e : Entry) → Reordered may xs (entry_list v e) → Reordered may xs (entry_list v (without_exits e))
without_kept may xs true e r = empties r
without_kept may xs false e r = r

lists_recycled : (a : Actor) (free : Freedom) (d : ℕ) (es : List Entry) → number_in es (dbref_of d) ≡ Some d → SameLists (judged a free d es) es (recycled d es)
unfolding recycled taken_away vanished exits_gone
lists_recycled a free d es there v k =
    let j : Judge = judged a free d es in
    let may : ℕ → Bool = front_open j es k in
    let xs : List ℕ = list_in v es k in
    let loose : List Entry = untied d es in
    let home : List Entry = sent_home (list_in false es d) loose in
    let lost : List Entry = map (exit_gone d) home in
    let apart : List Entry = changed_at d without_exits lost in
    let Q : List ℕ → Type 0 = λ l. Reordered may xs l in
    let first : Q (list_in v loose k) = subst Q (sym (list_untied v d k es)) as_before in
    let sent : Q (list_in v home k) = lists_home a free d es (list_in false es d) (contents_emptied a free d es there) loose (untied_rows j d es) xs v k first in
    let second : Q (list_in v lost k) = reordered_all may xs v k (exit_gone d) home (λ e r. exit_kept may xs v (is_exit_of d e.object) e r) sent in
    let third : Q (list_in v apart k) = reordered_one may xs v d k without_exits lost (λ q e r. without_kept may xs v e r) second in
    let gone : Q (list_in v (vanished d apart) k) = reordered_one may xs v d k gone_entry (map (left_out d) apart) (λ q e r. exit_kept may xs v true e r) (reordered_left may xs v d k apart third) in
    subst Q (sym (list_relinked v home (vanished d apart) k)) gone

-- What is to be told: what is gone, of which nothing is there any more.

lost_at : (d : ℕ) (es : List Entry) → object_at (dbref_of d) (recycled d es) ≡ None
unfolding garbage
lost_at d es = seen_at (recycled d es) d ∙ ap (λ q. option_and_then alive q) (recycled_here d es).1 ∙ at (recycled_here d es).0
  where
    at : (q : Option Object) → option_and_then alive (option_map (λ (p : Object). garbage) q) ≡ None
    at None = refl
    at (Some o) = refl

-- an entry keeps its mark on the way, or nothing is there any more
abbrev Silent : Entry → Entry → Type 0
Silent e g = ((g.mark ≡ e.mark) ⊎ (lives g ≡ false)) × (lives e ≡ false → lives g ≡ false)

silent_both : (e f g : Entry) → Silent e f → Silent f g → Silent e g
silent_both e f g p q = (at p.0 q.0, λ h. q.1 (p.1 h))
  where
    at : (f.mark ≡ e.mark) ⊎ (lives f ≡ false) → (g.mark ≡ f.mark) ⊎ (lives g ≡ false) → (g.mark ≡ e.mark) ⊎ (lives g ≡ false)
    at m (inr k) = inr k
    at (inl m) (inl n) = inl (n ∙ m)
    at (inr k) (inl n) = inr (q.1 k)

-- what a recycling touches
abbrev leaving : May
leaving Gone = true
leaving Place = true
leaving Lists = true
leaving _ = false

silent_touch : Holds leaving Silent
unfolding gone_entry garbage
silent_touch _ _ _ (vanishes e h l) = (inr refl, λ k. refl)
silent_touch _ _ _ (lines ls e h) = absurd (false≢true h)
silent_touch _ _ _ (makes o e h g l) = absurd (false≢true h)
silent_touch _ _ _ (unmarks e h) = absurd (false≢true h)
silent_touch _ _ _ (sets kept e h) = absurd (false≢true h)
silent_touch _ _ _ touch = (inl refl, λ k. k)

marks_recycled : (j : Judge) (d : ℕ) (es : List Entry) → SameMarks j es (recycled d es)
marks_recycled j d es n = at (object_at (dbref_of n) (recycled d es)) refl
  where
    at : (q : Option Object) → object_at (dbref_of n) (recycled d es) ≡ q → MarkOpen j (dbref_of n) (mark_in es n) (mark_in (recycled d es) n) q
    at None e = tt
    at (Some o) e = elim (each_walk leaving (record { itself = λ x. (inl refl, λ k. k); both = silent_both }) silent_touch es (recycled d es) (walk_recycled leaving d es refl refl refl) n).0 [
      | inl m ↦ inl (mark_read (recycled d es) n ∙ m ∙ sym (mark_read es n))
      | inr k ↦ absurd (false≢true (sym k ∙ sym (there_read (recycled d es) n) ∙ ap is_some e))
    ]

-- The whole change.

-- what isn't there or stays because it is a player or `#0`
nothing_recycled : (a : Actor) (free : Freedom) (w : Live) → Proper a free w w
nothing_recycled a free w = let j = judge a free w.objects in end_proper a free w w (stay_end j w w (stay_itself j w))

no_player : (es : List Entry) (d : ℕ) → is_player (kind_in es d) ≡ false → is_player_at es (dbref_of d) ≡ false
unfolding is_player_at kind_in
no_player es d e = ap (λ (q : Option Object). option_map_or (λ (o : Object). is_player o.kind) q false) (seen_at es d) ∙ at (object_in es d) e
  where
    at : (q : Option Object) → is_player (option_map_or (λ (o : Object). o.kind) q Garbage) ≡ false → option_map_or (λ (o : Object). is_player o.kind) (option_and_then alive q) false ≡ false
    at None e = refl
    at (Some o) e = elim (is_garbage o.kind) as (λ b. option_map_or (λ (x : Object). is_player x.kind) (cond b None (Some o)) false ≡ false) [ true ↦ refl | false ↦ e ]

same_zero : (d : ℕ) (b : Bool) → (d == 0) ≡ false → same (dbref_of d) (dbref_of 0) ≡ b → b ≡ false
same_zero d false some e = refl
same_zero d true some e =
    let z : dbref_of d ≡ dbref_of 0 = eq_same (dbref_of d) (dbref_of 0) e in
    let n : d ≡ 0 = cc in
    absurd (grind (arith, nat_tests))

may : (a : Actor) (es : List Entry) (x : Dbref) (d : ℕ) → x ≡ dbref_of d → (d == 0) ≡ false → is_player (kind_in es d) ≡ false → controls es a x ≡ true → may_recycle es a x ≡ true
may a es x d e some other c =
    let P : Dbref → Type 0 = λ y. controls es a y ≡ true → may_recycle es a y ≡ true in
    let at : P (dbref_of d) = λ h. rw (h, no_player es d other, same_zero d _ some refl) refl in
    subst P (sym e) at c

there : (a : Actor) (free : Freedom) (x : Dbref) (w : Live) → controls w.objects a x ≡ true → (d : ℕ) → number_in w.objects x ≡ Some d → not (d == 0 || is_player (kind_in w.objects d)) ≡ true →
    Proper a free w (record w { objects = recycled d w.objects })
there a free x w h d e t =
    let known : x ≡ dbref_of d = number_is w.objects x d e in
    let k : ((d == 0) ≡ false) × (is_player (kind_in w.objects d) ≡ false) = or_parts _ _ (not-true _ t) in
    let path : Goes acts w (record w { objects = recycled d w.objects }) = goes_objects acts w _ (walk_recycled acts d w.objects refl refl refl) in
    record {
      licensed = record {
        gone = Some (dbref_of d);
        recycled = λ y f. let same : x ≡ y = known ∙ cc in ap (may_recycle w.objects a) (sym same) ∙ may a w.objects x d known k.0 k.1 h;
        vanished = λ y f. let same : y ≡ dbref_of d = cc in ap (λ z. object_at z (recycled d w.objects)) same ∙ lost_at d w.objects;
        objects = differs_recycled a free d w.objects (ap (number_in w.objects) (sym known) ∙ e) k.0;
        no_fewer = fewer_along acts w _ path;
        traced = traced_along acts refl refl w _ path;
        lists = lists_recycled a free d w.objects (ap (number_in w.objects) (sym known) ∙ e);
        connections = ties_itself a w.board.connections;
        tune = inl refl;
      };
      marks = marks_recycled (judge a free w.objects) d w.objects;
      goes = path;
      tune = refl;
    }

-- an object is recycled where the check passes
pub recycled_proper : (a : Actor) (free : Freedom) (x : Dbref) (w : Live) (n : ℕ) → verdict w.objects a (Recycle x) ≡ None → recycle_check x w.objects ≡ Ok n → Proper a free w (recycled_now x w)
unfolding recycled_now recycle_check checked
recycled_proper a free x w n g e = at (number_in w.objects x) refl e
  where
    passed : (d n : ℕ) (b : Bool) → ◌≡◌ {A = Result ℕ DbFault} (cond b (Ok d) (Err WrongKind)) (Ok n) → b ≡ true
    passed d n true e = refl
    passed d n false e = absurd (cc)

    at : (q : Option ℕ) → number_in w.objects x ≡ q → option_map_or (λ (d : ℕ). cond (not (d == 0 || is_player (kind_in w.objects d))) (Ok d) (Err WrongKind)) q (Err NoSuchObject) ≡ Ok n →
        Proper a free w (record w { objects = option_map_or (λ (d : ℕ). recycled d w.objects) q w.objects })
    at None f e = nothing_recycled a free w
    at (Some d) f e = there a free x w (recycle_allowed w.objects a x g) d f (passed d n (not (d == 0 || is_player (kind_in w.objects d))) e)

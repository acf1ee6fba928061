-- Untying from an object, and sending home what it holds.
use Rattle.std.proofs.Common.{◌≡◌, ℕ, ◌<◌, List, [], ◌∷◌, Option, Some, None, inl, inr, refl, sym, ◌∙◌, ap, subst, length, arith, Bool, true, false, cond, not}
use Rattle.muck_laws.proofs.Mapped.{length_map}
use Rattle.muck_laws.proofs.Numbers.{way_not_by}
use Rattle.muck_laws.proofs.Places.{read_mapped}
use Rattle.muck_model.proofs.Dbrefs.{eq_same, same_eq}
use Rattle.std.proofs.lemmas.Bool.{cases_lt, false≢true, and_parts, not-true}
use Rattle.std.proofs.lemmas.Option.{slice_get-map}
use Rattle.std.specs.List.{slice_get}
use Rattle.std.specs.Option.{option_map, option_and_then, option_map_or}
use Rattle.muck_model.specs.declared.dbref.Dbref.{Dbref}
use Rattle.muck_model.specs.declared.dbref.Kind.{Kind}
use Rattle.muck_model.specs.declared.dbref.Kind.TheVariants.{Room, Thing, Player, Program, Garbage}
use Rattle.spec_live.specs.declared.object.Object.{Object}
use Rattle.spec_live.specs.Flags.{no_flags}
use Rattle.spec_live.specs.Chain.{Member, IsApart, has, without_number}
use Rattle.spec_live.specs.Objects.{Entry, dbref_of, nothing, same, index_of, is_exit, is_player, is_garbage, may_stand, garbage, object_in, entry_list, list_in, mark_in, kind_in, flags_in, place_in, owner_in, home_in, is_vehicle_in, fits_in, places_from}
use Rattle.spec_live.specs.Moving.{moved}
use Rattle.spec_live.specs.Setting.{may_link, may_live}
use Rattle.spec_live.specs.Recycling.{without_ties, untie, untied, wished_home, may_go, way_home, sent_home}
use Rattle.spec_live.specs.Consistent.{HasLink, HasHome, IsTied, IsOrdered, IsConsistent, StandsIn, MayMove}
use Rattle.spec_live.proofs.Chains.{member_later, member_none, without_first, apart_first}
use Rattle.spec_live.proofs.Lists.{put_other, has_not}
use Rattle.spec_live.proofs.KindLaws.{none_in_garbage, stands_still, stands_in_room, garbage_in_none}
use Rattle.spec_live.proofs.Readers.{kind_past, list_moved, kind_moved, length_moved}
use Rattle.spec_live.proofs.Orders.{ordered_alike, ordered_moved}
use Rattle.spec_live.proofs.Ties.{SameTies, home_alike, owner_alike, mapped, moved_from, consistent_moved}
use Rattle.spec_live.proofs.Checks.{index_only}

-- Untying, reader by reader.

pub object_untied : (d k : ℕ) (es : List Entry) → object_in (untied d es) k ≡ option_map (without_ties d) (object_in es k)
unfolding object_in untied
object_untied d k es = rw (slice_get-map (untie d) es k) (by_cases (slice_get es k))
  where
    by_cases : (o : Option Entry) → option_map (λ (e : Entry). e.object) (option_map (untie d) o) ≡ option_map (without_ties d) (option_map (λ (e : Entry). e.object) o)
    by_cases None = refl
    by_cases (Some e) = refl

pub list_untied : (v : Bool) (d k : ℕ) (es : List Entry) → list_in v (untied d es) k ≡ list_in v es k
unfolding list_in untied
list_untied true d k es = read_mapped (λ o. option_map_or (entry_list true) o []) (untie d) es k (λ e. refl)
list_untied false d k es = read_mapped (λ o. option_map_or (entry_list false) o []) (untie d) es k (λ e. refl)

pub mark_untied : (d k : ℕ) (es : List Entry) → mark_in (untied d es) k ≡ mark_in es k
unfolding mark_in untied
mark_untied d k es = read_mapped (λ o. option_and_then (λ (e : Entry). e.mark) o) (untie d) es k (λ e. refl)

pub length_untied : (d : ℕ) (es : List Entry) → length (untied d es) ≡ length es
unfolding untied
length_untied d es = length_map (untie d) es

pub kind_untied : (d k : ℕ) (es : List Entry) → kind_in (untied d es) k ≡ kind_in es k
unfolding kind_in object_in untied
kind_untied d k es = read_mapped (λ o. option_map_or (λ (x : Object). x.kind) (option_map (λ (e : Entry). e.object) o) Garbage) (untie d) es k (λ e. refl)

pub flags_untied : (d k : ℕ) (es : List Entry) → flags_in (untied d es) k ≡ flags_in es k
unfolding flags_in object_in untied
flags_untied d k es = read_mapped (λ o. option_map_or (λ (x : Object). x.flags) (option_map (λ (e : Entry). e.object) o) no_flags) (untie d) es k (λ e. refl)

pub place_untied : (d k : ℕ) (es : List Entry) → place_in (untied d es) k ≡ place_in es k
unfolding place_in object_in untied
place_untied d k es = read_mapped (λ o. option_and_then (λ (x : Object). index_of x.place) (option_map (λ (e : Entry). e.object) o)) (untie d) es k (λ e. refl)

pub fits_untied : (d x p : ℕ) (es : List Entry) → fits_in (untied d es) x p ≡ fits_in es x p
unfolding fits_in is_vehicle_in
fits_untied d x p es = rw (kind_untied d x es, kind_untied d p es, flags_untied d p es) refl

pub ordered_untied : (es : List Entry) (d : ℕ) → IsOrdered es → IsOrdered (untied d es)
ordered_untied es d c =
    ordered_alike es (untied d es) (omega (arith, length_untied d es, c.few)) (omega (arith, length_untied d es)) (λ x. place_untied d x es) (λ v p. list_untied v d p es) (λ x. inr (kind_untied d x es))
    (λ x p h. fits_untied d x p es ∙ c.kinds x p h) (kind_untied d 0 es) c

-- nothing lives in d or leads to it
pub record IsUntied (d : ℕ) (es : List Entry) : Type 0 where
  pub home : (k : ℕ) (o : Object) → object_in es k ≡ Some o → o.home ≡ dbref_of d → ⊥
  pub link : (k : ℕ) (o : Object) → object_in es k ≡ Some o → o.link ≡ dbref_of d → ⊥

untied_from : (d k : ℕ) (es : List Entry) (p : Object) → object_in (untied d es) k ≡ Some p → (o : Object) × (object_in es k ≡ Some o) × (p ≡ without_ties d o)
untied_from d k es p h = mapped (without_ties d) (object_in es k) p (sym (object_untied d k es) ∙ h)

number_same : (a b : ℕ) → dbref_of a ≡ dbref_of b → a ≡ b
number_same a b e = cc (ap (λ z. z.0) e)

pub not_nothing : (d : ℕ) → nothing ≡ dbref_of d → ⊥
not_nothing d e = cc (ap (λ z. z.0) e)

other_by : (a b c : Dbref) (t : Bool) → same a b ≡ t → (c ≡ b → ⊥) → cond t c a ≡ b → ⊥
other_by a b c true e ne h = ne h
other_by a b c false e ne h = false≢true (sym e ∙ same_eq a b h)

pub is_untied : (es : List Entry) (d : ℕ) → (d ≡ 0 → ⊥) → IsUntied d (untied d es)
is_untied es d low = record {
  home = λ k p h e.
      let was : (o : Object) × (object_in es k ≡ Some o) × (p ≡ without_ties d o) = untied_from d k es p h in
      other_by was.0.home (dbref_of d) (dbref_of 0) (same was.0.home (dbref_of d)) refl (λ q. low (sym (number_same 0 d q))) (sym (ap (λ z. z.home) was.2) ∙ e);
  link = λ k p h e.
      let was : (o : Object) × (object_in es k ≡ Some o) × (p ≡ without_ties d o) = untied_from d k es p h in
      other_by was.0.link (dbref_of d) nothing (same was.0.link (dbref_of d)) refl (not_nothing d) (sym (ap (λ z. z.link) was.2) ∙ e);
}

link_untied : (es fs : List Entry) (d : ℕ) (o : Object) (t : Bool) → ((n : ℕ) → kind_in fs n ≡ kind_in es n) → HasLink es o → HasLink fs (record o { link = cond t nothing o.link })
link_untied es fs d o true kinds h = inl refl
link_untied es fs d o false kinds h = elim h [ inl a ↦ inl a | inr b ↦ elim b [ inl a ↦ inr (inl a) | inr a ↦ inr (inr (a.0, a.1, ap (λ z. may_link o.kind z) (kinds a.0) ∙ a.2)) ] ]

home_untied : (es fs : List Entry) (d : ℕ) (o : Object) (k : Kind) (t : Bool) → same o.home (dbref_of d) ≡ t → ((n : ℕ) → kind_in fs n ≡ kind_in es n) → kind_in fs 0 ≡ Room → HasHome es (record o { kind = k })
    → HasHome fs (record o { kind = k; home = cond t (dbref_of 0) o.home })
home_untied es fs d o Thing true e kinds room h = (0, refl, ap (λ z. may_live Thing z) room)
home_untied es fs d o Player true e kinds room h = (0, refl, ap (λ z. may_live Player z) room)
home_untied es fs d o Thing false e kinds room h = (h.0, h.1, ap (λ z. may_live Thing z) (kinds h.0) ∙ h.2)
home_untied es fs d o Player false e kinds room h = (h.0, h.1, ap (λ z. may_live Player z) (kinds h.0) ∙ h.2)
home_untied es fs d o k true e kinds room h = absurd (not_nothing d (sym h ∙ eq_same o.home (dbref_of d) e))
home_untied es fs d o k false e kinds room h = h

tied_untied : (es : List Entry) (d : ℕ) (o : Object) → kind_in es 0 ≡ Room → IsTied es o → IsTied (untied d es) (without_ties d o)
tied_untied es d o room t =
    let fs : List Entry = untied d es in
    let kinds : (n : ℕ) → kind_in fs n ≡ kind_in es n = λ n. kind_untied d n es in
    let link : HasLink fs (record o { link = cond (same o.link (dbref_of d)) nothing o.link }) = link_untied es fs d o (same o.link (dbref_of d)) kinds t.link in
    let homes : HasHome fs (record o { home = cond (same o.home (dbref_of d)) (dbref_of 0) o.home }) = home_untied es fs d o o.kind (same o.home (dbref_of d)) refl kinds (kinds 0 ∙ room) t.home in
    record {
      owner = owner_alike es fs o (without_ties d o) refl (λ n e h. ap (λ z. is_player z) (kinds n) ∙ h) t.owner;
      link = link;
      home = homes_over fs o (without_ties d o) refl refl homes;
    }
  where
    homes_over : (fs : List Entry) (o p : Object) → p.kind ≡ o.kind → p.home ≡ (cond (same o.home (dbref_of d)) (dbref_of 0) o.home) → HasHome fs (record o { home = cond (same o.home (dbref_of d)) (dbref_of 0) o.home }) → HasHome fs p
    homes_over fs o p k e h = home_alike fs fs (record o { home = cond (same o.home (dbref_of d)) (dbref_of 0) o.home }) p k e (λ n q r. r) h

garbage_untied : (d : ℕ) → without_ties d garbage ≡ garbage
unfolding garbage
garbage_untied d = refl

pub consistent_untied : (es : List Entry) (d : ℕ) → IsConsistent es → IsConsistent (untied d es)
consistent_untied es d c = record {
  ordered = ordered_untied es d c.ordered;
  placed = λ x none. elim (c.placed x (sym (place_untied d x es) ∙ none)) [ inl q ↦ inl q | inr q ↦ inr (kind_untied d x es ∙ q) ];
  tied = λ k p h.
      let was : (o : Object) × (object_in es k ≡ Some o) × (p ≡ without_ties d o) = untied_from d k es p h in
      let P : Object → Type 0 = λ z. IsTied (untied d es) z in
      subst P (sym was.2) (tied_untied es d was.0 c.ordered.room (c.tied k was.0 was.1));
  blank = λ k p h g.
      let was : (o : Object) × (object_in es k ≡ Some o) × (p ≡ without_ties d o) = untied_from d k es p h in
      was.2 ∙ ap (λ z. without_ties d z) (c.blank k was.0 was.1 (ap (λ z. is_garbage z.kind) (sym was.2) ∙ g)) ∙ garbage_untied d;
  first = kind_untied d 1 es ∙ c.first;
}

-- The way home.

-- what it may be: a place where x may go
pub record GoesTo (es : List Entry) (x to : ℕ) : Type 0 where
  pub fits : fits_in es x to ≡ true
  pub free : Member x (places_from es to) → ⊥

fit_known : (es : List Entry) (x p : ℕ) → fits_in es x p ≡ true → p < length es
unfolding fits_in
fit_known es x p h = elim (cases_lt p (length es)) [
  | inl lt ↦ lt
  | inr le ↦ absurd (none_in_garbage (kind_in es x) (is_vehicle_in es p) (let P : Kind → Type 0 = λ z. may_stand (kind_in es x) z (is_vehicle_in es p) ≡ true in subst P (kind_past es p le) h))
]

fit_alive : (es : List Entry) (x p : ℕ) → fits_in es x p ≡ true → x < length es
unfolding fits_in
fit_alive es x p h = elim (cases_lt x (length es)) [
  | inl lt ↦ lt
  | inr le ↦ absurd (garbage_in_none (kind_in es p) (is_vehicle_in es p) (let P : Kind → Type 0 = λ z. may_stand z (kind_in es p) (is_vehicle_in es p) ≡ true in subst P (kind_past es x le) h))
]

may_from : (es : List Entry) (x to : ℕ) → (x ≡ 0 → ⊥) → GoesTo es x to → MayMove es x to
may_from es x to lower g = record { known = fit_alive es x to g.fits; place = fit_known es x to g.fits; lower = lower; fits = g.fits; free = g.free }

room_fits : (k : Kind) (s t : Bool) → may_stand k Room s ≡ true → may_stand k Room t ≡ true
room_fits k s t h = stands_still k Room s t (λ p q. absurd (cc (q))) h

zero_fits : (es : List Entry) (x : ℕ) (s : Bool) → kind_in es 0 ≡ Room → may_stand (kind_in es x) Room s ≡ true → fits_in es x 0 ≡ true
unfolding fits_in
zero_fits es x s room h = rw room (room_fits (kind_in es x) s (is_vehicle_in es 0) h)

zero_free : (es : List Entry) (x : ℕ) → IsOrdered es → 0 < length es → (x ≡ 0 → ⊥) → Member x (places_from es 0) → ⊥
unfolding places_from
zero_free es x c lt lower h =
    member_none (length es) (place_in es) None x refl (member_later (length es) (place_in es) (Some 0) None 0 x refl (sym c.top) (c.up 0 lt) (λ e. lower (sym e)) h)

goes_zero : (es : List Entry) (x : ℕ) (s : Bool) → IsOrdered es → (x ≡ 0 → ⊥) → may_stand (kind_in es x) Room s ≡ true → GoesTo es x 0
goes_zero es x s c lower h =
    let fits : fits_in es x 0 ≡ true = zero_fits es x s c.room h in
    record { fits = fits; free = zero_free es x c (fit_known es x 0 fits) lower }

goes_by : (es : List Entry) (x to : ℕ) → may_go x to es ≡ true → GoesTo es x to
unfolding may_go
goes_by es x to h =
    let both : (fits_in es x to ≡ true) × (not (has x (places_from es to)) ≡ true) = and_parts (fits_in es x to) (not (has x (places_from es to))) h in
    record { fits = both.0; free = has_not x (places_from es to) (not-true (has x (places_from es to)) both.1) }

way_by : (es : List Entry) (x to : ℕ) (b : Bool) → may_go x to es ≡ b → GoesTo es x 0 → GoesTo es x (cond b to 0)
way_by es x to true h zeroth = goes_by es x to h
way_by es x to false h zeroth = zeroth

way_from : (es : List Entry) (x : ℕ) (o : Option ℕ) → GoesTo es x 0 → GoesTo es x (option_map_or (λ to. cond (may_go x to es) to 0) o 0)
way_from es x None zeroth = zeroth
way_from es x (Some to) zeroth = way_by es x to (may_go x to es) refl zeroth

-- what may be in a room may go home
pub home_may : (es : List Entry) (x : ℕ) (s : Bool) → IsOrdered es → (x ≡ 0 → ⊥) → may_stand (kind_in es x) Room s ≡ true → MayMove es x (way_home x es)
unfolding way_home
home_may es x s c lower h = may_from es x _ lower (way_from es x (wished_home x es (kind_in es x)) (goes_zero es x s c lower h))

-- Nobody's home is d, and so nobody goes there.

home_not : (es : List Entry) (d x : ℕ) → IsUntied d es → home_in es x ≡ Some d → ⊥
unfolding home_in
home_not es d x u h = by_cases (object_in es x) refl h
  where
    by_cases : (o : Option Object) → object_in es x ≡ o → option_and_then (λ (z : Object). index_of z.home) o ≡ Some d → ⊥
    by_cases None e q = cc (q)
    by_cases (Some o) e q = u.home x o e (index_only o.home d q)

owner_not : (es : List Entry) (d : ℕ) (o : Option ℕ) → IsUntied d es → option_and_then (home_in es) o ≡ Some d → ⊥
owner_not es d None u h = cc (h)
owner_not es d (Some x) u h = home_not es d x u h

wished_not : (es : List Entry) (d x : ℕ) (k : Kind) → IsUntied d es → wished_home x es k ≡ Some d → ⊥
unfolding wished_home
wished_not es d x Program u h = owner_not es d (owner_in es x) u h
wished_not es d x Thing u h = home_not es d x u h
wished_not es d x Player u h = home_not es d x u h
wished_not es d x k u h = absurd (cc (h))

way_not_from : (es : List Entry) (d x : ℕ) (o : Option ℕ) → (d ≡ 0 → ⊥) → (o ≡ Some d → ⊥) → option_map_or (λ to. cond (may_go x to es) to 0) o 0 ≡ d → ⊥
way_not_from es d x None low ne h = low (sym h)
way_not_from es d x (Some to) low ne h = way_not_by d to (may_go x to es) low (λ e. ne (ap (λ z. Some z) e)) h

pub way_not : (es : List Entry) (d x : ℕ) → IsUntied d es → (d ≡ 0 → ⊥) → way_home x es ≡ d → ⊥
unfolding way_home
way_not es d x u low h = way_not_from es d x (wished_home x es (kind_in es x)) low (wished_not es d x (kind_in es x) u) h

-- One turn of sending home.

pub untied_moved : (es : List Entry) (d x to : ℕ) → IsUntied d es → IsUntied d (moved x to es)
untied_moved es d x to u = record {
  home = λ k p h e. let was : (o : Object) × (object_in es k ≡ Some o) × SameTies o p = moved_from es x to k p h in u.home k was.0 was.1 (sym was.2.home ∙ e);
  link = λ k p h e. let was : (o : Object) × (object_in es k ≡ Some o) × SameTies o p = moved_from es x to k p h in u.link k was.0 was.1 (sym was.2.link ∙ e);
}

pub record HomeStep (es : List Entry) (d x : ℕ) (xs : List ℕ) : Type 0 where
  pub may : MayMove es x (way_home x es)
  pub other : way_home x es ≡ d → ⊥
  pub rest : list_in false (moved x (way_home x es) es) d ≡ xs
  pub untied : IsUntied d (moved x (way_home x es) es)
  pub sent : sent_home (x ∷ xs) es ≡ sent_home xs (moved x (way_home x es) es)

first_in : (es : List Entry) (d x : ℕ) (xs : List ℕ) → list_in false es d ≡ x ∷ xs → Member x (list_in false es d)
unfolding Member
first_in es d x xs e = let P : List ℕ → Type 0 = λ l. Member x l in let k : Member x (x ∷ xs) = inl refl in subst P (sym e) k

-- the list behind a move of its first
pub rest_moved : (es : List Entry) (d x to : ℕ) (xs : List ℕ) → IsOrdered es → list_in false es d ≡ x ∷ xs → to < length es → (to ≡ d → ⊥) → list_in false (moved x to es) d ≡ xs
rest_moved es d x to xs c e lt ne =
    let P : List ℕ → Type 0 = λ l. IsApart l in
    list_moved false es x to d lt
    ∙ put_other (is_exit (kind_in es x)) to x false d (without_number x (list_in false es d)) (λ _ q. ne (sym q))
    ∙ ap (λ l. without_number x l) e ∙ without_first x xs (apart_first x xs (subst P e (c.once false d)))

sent_first : (es : List Entry) (x : ℕ) (xs : List ℕ) → sent_home (x ∷ xs) es ≡ sent_home xs (moved x (way_home x es) es)
unfolding sent_home
sent_first es x xs = refl

pub home_step : (es : List Entry) (d x : ℕ) (xs : List ℕ) → IsOrdered es → IsUntied d es → (d ≡ 0 → ⊥) → list_in false es d ≡ x ∷ xs → HomeStep es d x xs
unfolding fits_in
home_step es d x xs c u low e =
    let s : StandsIn es false d x = c.stands false d x (first_in es d x xs e) in
    let lower : x ≡ 0 → ⊥ = λ q. cc (ap (λ z. place_in es z) q, s.place, c.top) in
    let may : MayMove es x (way_home x es) = home_may es x true c lower (stands_in_room (kind_in es x) (kind_in es d) (is_vehicle_in es d) true (c.kinds x d s.place) s.kind) in
    let other : way_home x es ≡ d → ⊥ = way_not es d x u low in
    record {
      may = may;
      other = other;
      rest = rest_moved es d x (way_home x es) xs c e may.place other;
      untied = untied_moved es d x (way_home x es) u;
      sent = sent_first es x xs;
    }

-- All that d holds is sent home.

pub record IsSent (es : List Entry) (d : ℕ) : Type 0 where
  pub empty : list_in false es d ≡ []
  pub untied : IsUntied d es

sent_nothing : (es : List Entry) → sent_home [] es ≡ es
unfolding sent_home
sent_nothing es = refl

pub is_sent : (es : List Entry) (d : ℕ) (xs : List ℕ) → IsOrdered es → IsUntied d es → (d ≡ 0 → ⊥) → list_in false es d ≡ xs → IsSent (sent_home xs es) d
is_sent es d [] c u low e = let P : List Entry → Type 0 = λ z. IsSent z d in subst P (sym (sent_nothing es)) (record { empty = e; untied = u })
is_sent es d (x ∷ xs) c u low e =
    let s : HomeStep es d x xs = home_step es d x xs c u low e in
    let P : List Entry → Type 0 = λ z. IsSent z d in
    subst P (sym s.sent) (is_sent (moved x (way_home x es) es) d xs (ordered_moved es x (way_home x es) s.may c) s.untied low s.rest)

pub consistent_sent_home : (es : List Entry) (d : ℕ) (xs : List ℕ) → IsConsistent es → IsUntied d es → (d ≡ 0 → ⊥) → list_in false es d ≡ xs → IsConsistent (sent_home xs es)
consistent_sent_home es d [] c u low e = let P : List Entry → Type 0 = λ z. IsConsistent z in subst P (sym (sent_nothing es)) c
consistent_sent_home es d (x ∷ xs) c u low e =
    let s : HomeStep es d x xs = home_step es d x xs c.ordered u low e in
    let P : List Entry → Type 0 = λ z. IsConsistent z in
    subst P (sym s.sent) (consistent_sent_home (moved x (way_home x es) es) d xs (consistent_moved es x (way_home x es) s.may c) s.untied low s.rest)

pub kind_sent_home : (es : List Entry) (xs : List ℕ) (k : ℕ) → kind_in (sent_home xs es) k ≡ kind_in es k
kind_sent_home es [] k = ap (λ z. kind_in z k) (sent_nothing es)
kind_sent_home es (x ∷ xs) k = ap (λ z. kind_in z k) (sent_first es x xs) ∙ kind_sent_home (moved x (way_home x es) es) xs k ∙ kind_moved es x (way_home x es) k

pub length_sent_home : (es : List Entry) (xs : List ℕ) → length (sent_home xs es) ≡ length es
length_sent_home es [] = ap (λ z. length z) (sent_nothing es)
length_sent_home es (x ∷ xs) = ap (λ z. length z) (sent_first es x xs) ∙ length_sent_home (moved x (way_home x es) es) xs ∙ length_moved es x (way_home x es)

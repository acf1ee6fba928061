-- Where the note of the links stands.
use Rattle.std.proofs.Common.{◌≡◌, ℕ, zero, suc, ◌+◌, ◌<◌, ◌==◌, arith, Bool, true, false, not, ◌&&◌, ◌||◌, List, [], ◌∷◌, ◌++◌, refl, sym, ap, ◌∙◌, subst, ne_eqb, eqb-true, Option, Some, None}
use Rattle.std.specs.Prelude.{is_some, slice_get}
use Rattle.std.proofs.lemmas.Option.{none-some}
use Rattle.std.proofs.lemmas.Bool.Decides.{nat_tests}
use Rattle.muck_laws.proofs.Numbers.{is_zero}
use Rattle.muck_laws.proofs.Truths.{all_true, is_due, none_due, not_all, or_false}
use Rattle.atomic_table.proofs.Lists.{at_longer}
use Rattle.turn_lock.specs.Histories.{StartsWith, own_of, entry_kept}
use Rattle.muck_links.specs.Sessions.{LinksTold}
use Rattle.muck_model.specs.declared.event.Entry.{Entry}
use Rattle.muck_model.specs.declared.note.Counted.{Counted}
use Rattle.spec_events.specs.declared.logged.Logged.{Logged}
use Rattle.spec_events.specs.World.{World}
use Rattle.spec_events.specs.Steps.{effect}
use Rattle.spec_events.specs.Histories.{after}
use Rattle.spec_events.specs.Logged.{logged_by, entries_of, placed_count, count_from}
use Rattle.spec_serve.specs.Marks.{LinksNote, ActsStopping, IsLinksNote}
use Rattle.muck_work.specs.inner.Seats.{AllOrderly}
use Rattle.muck_work.proofs.Seating.{none_or_more, others_none, orderly_back}
use Rattle.muck_porter.specs.inner.Notes.{first_note, note_in}
use Rattle.muck_porter.specs.inner.Turns.{Marked}
use Rattle.muck_porter.specs.Noted.{AllNoted}

-- the note of the links of a history in order is that of the porter's own items
pub note_own : (ls : List Logged) → AllOrderly ls → note_in ls ≡ note_in (own_of logged_by 0 ls)
note_own [] all = refl
note_own (l ∷ ls) all = from (l.entry.party == 0) refl (note_own ls (λ i x at. all (suc i) x at))
  where
    other : (n : ℕ) → (n == 0) ≡ false → ¬ (n ≡ 0)
    other n is same = grind (arith, nat_tests)

    from : (t : Bool) → (l.entry.party == 0) ≡ t → note_in ls ≡ note_in (own_of logged_by 0 ls) → first_note l.counted (note_in ls) ≡ note_in (entry_kept t l (own_of logged_by 0 ls))
    from true is ih = ap (first_note l.counted) ih
    from false is ih = ap (λ (o : LinksNote). first_note o (note_in ls)) ((all 0 l refl).counted (other l.entry.party is)) ∙ ih

pub orderly_front : (a b : List Logged) → AllOrderly (a ++ b) → AllOrderly a
orderly_front a b all i l at = all i l (at_longer a b i l at)

noted_on : (b : Bool) (o later : LinksNote) → (b || is_some (first_note o later)) ≡ ((b || is_some o) || is_some later)
noted_on true o later = refl
noted_on false None later = refl
noted_on false (Some cs) later = refl

pub noted_append : (b : Bool) (w : World) (xs ys : List Logged) → AllNoted b w xs → AllNoted (b || is_some (note_in xs)) (after w (entries_of xs)) ys → AllNoted b w (xs ++ ys)
noted_append b w [] ys n m = subst (λ (t : Bool). AllNoted t w ys) (or_false b) m
noted_append b w (l ∷ ls) ys n m =
    (n.0, noted_append (b || is_some l.counted) (effect w l.entry) ls ys n.1 (subst (λ (t : Bool). AllNoted t (after (effect w l.entry) (entries_of ls)) ys) (noted_on b l.counted (note_in ls)) m))

-- whose the first item isn't, and of the rest none
not_first : (l : Logged) (ls : List Logged) → own_of logged_by 0 (l ∷ ls) ≡ [] → (¬ (l.entry.party ≡ 0)) × (own_of logged_by 0 ls ≡ [])
not_first l ls none = from (l.entry.party == 0) refl none
  where
    other : (n : ℕ) → (n == 0) ≡ false → ¬ (n ≡ 0)
    other n is same = grind (arith, nat_tests)

    from : (t : Bool) → (l.entry.party == 0) ≡ t → entry_kept t l (own_of logged_by 0 ls) ≡ [] → (¬ (l.entry.party ≡ 0)) × (own_of logged_by 0 ls ≡ [])
    from true is e = absurd (none_or_more l (own_of logged_by 0 ls) e)
    from false is e = (other l.entry.party is, e)

-- others have none
pub noted_others : (b : Bool) (w : World) (ls : List Logged) → AllOrderly ls → own_of logged_by 0 ls ≡ [] → AllNoted b w ls
noted_others b w [] all none = tt
noted_others b w (l ∷ ls) all none =
    let two = not_first l ls none in
    let bare : l.counted ≡ None = (all 0 l refl).counted two.0 in
    let same : (b || is_some l.counted) ≡ b = ap (λ (o : LinksNote). b || is_some o) bare ∙ or_false b in (
      ap is_some bare ∙ sym (ap (λ (t : Bool). t && (not b && (w.stopping && not w.dead))) (ne_eqb l.entry.party 0 two.0)),
      subst (λ (t : Bool). AllNoted t (effect w l.entry) ls) (sym same) (noted_others b (effect w l.entry) ls (λ i x at. all (suc i) x at) two.1),
    )

-- what is longer by others' items alone
pub noted_same : (w : World) (front ls : List Logged) → AllOrderly ls → StartsWith ls front → own_of logged_by 0 ls ≡ own_of logged_by 0 front → AllNoted false w front → AllNoted false w ls
noted_same w front ls all (rest, is) own n =
    subst (AllNoted false w) (sym is)
    (noted_append false w front rest n
    (noted_others (false || is_some (note_in front)) (after w (entries_of front)) rest (orderly_back front rest (subst AllOrderly is all)) (others_none 0 front rest (sym (ap (own_of logged_by 0) is) ∙ own))))

-- An item that the porter makes.

marked_so : (noted noted' : Bool) (k : LinksTold) (w : World) (counted : LinksNote) → Marked noted noted' k w counted → is_some counted ≡ (not noted && (w.stopping && not w.dead))
marked_so noted noted' k w counted (Marked.kept same none free) = ap is_some none ∙ sym (none_due noted w.stopping w.dead free)
marked_so noted noted' k w counted (Marked.made was now_is stopping alive is) = ap is_some is ∙ sym (is_due noted w.stopping w.dead was stopping alive)

pub noted_turned : (noted noted' : Bool) (k : LinksTold) (w : World) (ls : List Logged) (l : Logged) → AllNoted false w ls → noted ≡ is_some (note_in ls) → (l.entry.party == 0) ≡ true
    → Marked noted noted' k (after w (entries_of ls)) l.counted → AllNoted false w (ls ++ l ∷ [])
noted_turned noted noted' k w ls l n known mine marked =
    let v = after w (entries_of ls) in
    noted_append false w ls (l ∷ []) n
    (subst (λ (t : Bool). AllNoted t v (l ∷ [])) known
    (marked_so noted noted' k v l.counted marked ∙ sym (ap (λ (t : Bool). t && (not noted && (v.stopping && not v.dead))) mine), tt))

-- Where that leads.

-- places counted from so many on
abbrev LinksNoteFrom : ℕ → Option Counted → World → List Entry → Type 0
LinksNoteFrom n None w tale = IsLinksNote None w tale
LinksNoteFrom n (Some c) w tale = (k : ℕ) × (c.entries ≡ n + k) × ActsStopping w tale k × ((place : ℕ) → place < k → ¬ (ActsStopping w tale place))

acts_on : (w : World) (e : Entry) (es : List Entry) (k : ℕ) → ActsStopping (effect w e) es k → ActsStopping w (e ∷ es) (suc k)
acts_on w e es k a = record { entry = a.entry; here = a.here; porter = a.porter; stopping = a.stopping; alive = a.alive }

acts_back : (w : World) (e : Entry) (es : List Entry) (k : ℕ) → ActsStopping w (e ∷ es) (suc k) → ActsStopping (effect w e) es k
acts_back w e es k a = record { entry = a.entry; here = a.here; porter = a.porter; stopping = a.stopping; alive = a.alive }

note_behind : (n : ℕ) (o : Option Counted) (w : World) (e : Entry) (es : List Entry) → ¬ (ActsStopping w (e ∷ es) 0) → LinksNoteFrom (suc n) o (effect w e) es → LinksNoteFrom n o w (e ∷ es)
note_behind n None w e es free ih = never
  where
    never : (place : ℕ) → ¬ (ActsStopping w (e ∷ es) place)
    never zero a = free a
    never (suc place) a = ih place (acts_back w e es place a)
note_behind n (Some c) w e es free ih = (suc ih.0, (let is = ih.1 in omega arith), acts_on w e es ih.0 ih.2, before)
  where
    before : (place : ℕ) → place < suc ih.0 → ¬ (ActsStopping w (e ∷ es) place)
    before zero less a = free a
    before (suc place) less a = ih.3 place (omega arith) (acts_back w e es place a)

first_of : (w : World) (e : Entry) (es : List Entry) (a : ActsStopping w (e ∷ es) 0) → e.party ≡ 0
first_of w e es a = ap (λ (x : Entry). x.party) (same e a.entry a.here) ∙ a.porter
  where
    same : (x y : Entry) → slice_get (x ∷ es) 0 ≡ Some y → x ≡ y
    same x y h = cc

note_from : (n : ℕ) (w : World) (ls : List Logged) → AllNoted false w ls → LinksNoteFrom n (count_from n ls) w (entries_of ls)
note_from n w [] all = λ place a. none-some a.entry a.here
note_from n w (l ∷ ls) all = from l.counted refl all.0 (λ same. note_from (suc n) (effect w l.entry) ls (subst (λ (t : Bool). AllNoted t (effect w l.entry) ls) same all.1))
  where
    from : (o : LinksNote) → l.counted ≡ o → is_some l.counted ≡ (l.entry.party == 0 && (true && (w.stopping && not w.dead)))
        → (is_some l.counted ≡ false → LinksNoteFrom (suc n) (count_from (suc n) ls) (effect w l.entry) (entries_of ls))
        → LinksNoteFrom n (placed_count n o (count_from (suc n) ls)) w (l.entry ∷ entries_of ls)
    from None is so ih =
        note_behind n (count_from (suc n) ls) w l.entry (entries_of ls)
        (λ a. not_all (l.entry.party == 0) w.stopping w.dead (sym (ap is_some is) ∙ so) (is_zero l.entry.party (first_of w l.entry (entries_of ls) a)) a.stopping a.alive)
        (ih (ap is_some is))
    from (Some cs) is so ih =
        let three = all_true (l.entry.party == 0) w.stopping w.dead (sym (ap is_some is) ∙ so) in
        (0, omega arith, record { entry = l.entry; here = refl; porter = eqb-true l.entry.party 0 three.0; stopping = three.1; alive = three.2 }, λ place less a. absurd (omega arith))

-- So the note of a whole history is what it has to be.
pub links_note : (w : World) (ls : List Logged) → AllNoted false w ls → IsLinksNote (count_from 0 ls) w (entries_of ls)
links_note w ls all = from (count_from 0 ls) (note_from 0 w ls all)
  where
    from : (o : Option Counted) → LinksNoteFrom 0 o w (entries_of ls) → IsLinksNote o w (entries_of ls)
    from None h = h
    from (Some c) h =
        let is = h.1 in
        let at : h.0 ≡ c.entries = omega arith in
        (subst (ActsStopping w (entries_of ls)) at h.2, λ place less. h.3 place (subst (λ (n : ℕ). place < n) (sym at) less))

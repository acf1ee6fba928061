-- Who stands elsewhere than when the event began.
use Rattle.std.proofs.Common.{◌≡◌, ◌⊎◌, ℕ, ◌+◌, ◌<◌, ◌≤◌, zero, suc, List, [], ◌∷◌, ◌++◌, Option, Some, None, inl, inr, refl, sym, ◌∙◌, ap, subst, length, drop, map, arith, Bool, true, false, not, cond}
use Rattle.std.proofs.lemmas.Bool.{cases_eq, cases_lt, false≢true, not-false}
use Rattle.std.proofs.lemmas.List.{append-nil}
use Rattle.std.proofs.lemmas.Option.{slice_get-map, slice_get_past, same_Some}
use Rattle.std.proofs.Common.{append_assoc}
use Rattle.std.specs.List.{slice_get, slice_set}
use Rattle.std.specs.Option.{option_map}
use Rattle.muck_laws.proofs.Places.{get_elsewhere, get_more}
use Rattle.muck_model.specs.declared.dbref.Dbref.{Dbref}
use Rattle.muck_model.proofs.Dbrefs.{same_eq, eq_same}
use Rattle.spec_live.specs.declared.moved.Move.{Move}
use Rattle.spec_live.specs.Objects.{Entry, dbref_of, is_player, kind_in}
use Rattle.spec_live.specs.Consistent.{IsConsistent}
use Rattle.spec_live.specs.Stood.{standing, still, stilled, move_of, moves_from}
use Rattle.spec_live.proofs.Tracing.{mark_stilled, kind_stilled, consistent_stilled}
use Rattle.muck_db.specs.declared.slot.Slot.{Slot}
use Rattle.muck_db.specs.declared.stood.Moves.{Moves}
use Rattle.muck_db.specs.declared.ties.Tied.{Tied}
use Rattle.muck_db.specs.inner.Limits.{IsWithinLimits}
use Rattle.muck_db.specs.inner.Slots.{shown, first_of, entry_of, entries_of, IsKept}
use Rattle.muck_db.specs.inner.Moves.{is_where, has_moved, rested, none_moved, NoneMoved, AreWithin, AreBefore, AreNoted}
use Rattle.muck_db.specs.inner.Ties.{IsHeld}
use Rattle.muck_db.proofs.LimitLaws.{limits_stilled}
use Rattle.muck_db.proofs.Readers.{kind_in-entries_of, mark_in-entries_of}
use Rattle.muck_db.proofs.Tying.{ties_rested}
use Rattle.muck_db.proofs.Writes.{entries_mapped, ends_mapped, Passed, passed_none, passed_all}

-- What was written last is looked at.

pub noted_none : (m : Moves) (slots : List Slot) → m.last ≡ None → AreNoted m slots → AreWithin m.low m.high slots
noted_none m slots none noted k s at moved = elim (noted k s at moved) [ inl e ↦ absurd (cc (e, none)) | inr w ↦ w ]

pub noted_still : (m : Moves) (slots : List Slot) (n : ℕ) → m.last ≡ Some n → ((s : Slot) → slice_get slots n ≡ Some s → has_moved s ≡ false) → AreNoted m slots → AreWithin m.low m.high slots
noted_still m slots n is stays noted k s at moved = elim (noted k s at moved) [
  | inl e ↦
      let same : k ≡ n = same_Some k n (sym e ∙ is) in
      absurd (false≢true (sym (stays s (ap (slice_get slots) (sym same) ∙ at)) ∙ moved))
  | inr w ↦ w
]

pub noted_moved : (m : Moves) (low high n : ℕ) (slots : List Slot) → m.last ≡ Some n → low ≤ m.low → low ≤ n → m.high ≤ high → n ≤ high → AreNoted m slots → AreWithin low high slots
noted_moved m low high n slots is a b c d noted k s at moved = elim (noted k s at moved) [
  | inl e ↦ let same : k ≡ n = same_Some k n (sym e ∙ is) in (omega (arith, b, same), omega (arith, d, same))
  | inr w ↦ (omega (arith, a, w.0), omega (arith, c, w.1))
]

-- another one is written
pub noted_written : (m : Moves) (slots : List Slot) (n : ℕ) (w : Slot) → m.last ≡ Some n → AreWithin m.low m.high slots → AreNoted m (slice_set slots n w)
noted_written m slots n w is within k s at moved = elim (cases_eq k n) [
  | inl e ↦ inl (is ∙ ap Some (sym e))
  | inr ne ↦ inr (within k s (sym (get_elsewhere slots n k w ne) ∙ at) moved)
]

pub noted_as : (m r : Moves) (slots : List Slot) (n : ℕ) (w : Slot) → r ≡ record m { last = Some n } → AreWithin m.low m.high slots → AreNoted r (slice_set slots n w)
noted_as m r slots n w is within = subst (λ (x : Moves). AreNoted x (slice_set slots n w)) (sym is) (noted_written (record m { last = Some n }) slots n w refl within)

pub noted_pushed : (m : Moves) (slots : List Slot) (w : Slot) → m.last ≡ Some (length slots) → AreWithin m.low m.high slots → AreNoted m (slots ++ w ∷ [])
noted_pushed m slots w is within k s at moved = elim (cases_eq k (length slots)) [
  | inl e ↦ inl (is ∙ ap Some (sym e))
  | inr ne ↦ inr (within k s (sym (get_more slots w k ne) ∙ at) moved)
]

pub pushed_as : (m r : Moves) (slots : List Slot) (n : ℕ) (w : Slot) → r ≡ record m { last = Some n } → n ≡ length slots → AreWithin m.low m.high slots → AreNoted r (slots ++ w ∷ [])
pushed_as m r slots n w is many within = subst (λ (x : Moves). AreNoted x (slots ++ w ∷ [])) (sym (is ∙ ap (λ z. record m { last = Some z }) many)) (noted_pushed (record m { last = Some (length slots) }) slots w refl within)

pub noted_within : (m : Moves) (slots : List Slot) → AreWithin m.low m.high slots → AreNoted m slots
noted_within m slots within k s at moved = inr (within k s at moved)

pub kept_as : (m r : Moves) (slots : List Slot) (n : ℕ) → r ≡ record m { last = Some n } → AreWithin m.low m.high slots → AreNoted r slots
kept_as m r slots n is within = subst (λ (x : Moves). AreNoted x slots) (sym is) (noted_within (record m { last = Some n }) slots within)

pub noted_rest : (slots : List Slot) → NoneMoved slots → AreNoted none_moved slots
noted_rest slots none k s at moved = absurd (false≢true (sym (none k s at) ∙ moved))

pub noted_nothing : AreNoted none_moved []
noted_nothing k s at moved = absurd (cc at)

-- Who moved is between these.

inside : (slots : List Slot) (k : ℕ) (s : Slot) → slice_get slots k ≡ Some s → k < length slots
inside slots k s at = elim (cases_lt k (length slots)) [ inl lt ↦ lt | inr le ↦ absurd (cc (at, slice_get_past slots k le)) ]

pub before_end : (low high first end : ℕ) (slots : List Slot) → AreWithin low high slots → first ≤ low → (high < end) ⊎ (end ≡ length slots) → AreBefore first end slots
before_end low high first end slots within le ends k s at moved = let w = within k s at moved in (omega (arith, le, w.0), elim ends [ inl lt ↦ omega (arith, lt, w.1) | inr e ↦ omega (arith, e, inside slots k s at) ])

-- An event begins.

where_same : (a b : Option Dbref) → is_where a b ≡ true → a ≡ b
where_same None None h = refl
where_same (Some a) (Some b) h = ap Some (eq_same a b h)
where_same None (Some b) h = absurd (false≢true h)
where_same (Some a) None h = absurd (false≢true h)

rests_same : (s : Slot) → has_moved s ≡ false → rested s ≡ s
rests_same s h = ap (λ (x : Option Dbref). record s { stood = x }) (sym (where_same s.stood (standing (shown s)) (not-false _ h)))

where_itself : (a : Option Dbref) → not (is_where a a) ≡ false
where_itself None = refl
where_itself (Some a) = ap not (same_eq a a refl)

rested_is : (s : Slot) → has_moved (rested s) ≡ false
rested_is s = where_itself (standing (shown s))

-- those that have not moved are passed over
pub rested_by : (i j : ℕ) (old cur : List Slot) → i ≤ j → ((k : ℕ) (s : Slot) → i ≤ k → k < j → slice_get old k ≡ Some s → has_moved s ≡ false) → Passed rested i old cur → Passed rested j old cur
rested_by i j old cur le stays p = record {
  same_length = p.same_length;
  done = λ k lt. elim (cases_lt k i) [
    | inl less ↦ p.done k less
    | inr more ↦ p.left k more ∙ unchanged (slice_get old k) (λ s at. stays k s more lt at)
  ];
  left = λ k more. p.left k (omega (arith, le, more));
}
  where
    unchanged : (o : Option Slot) → ((s : Slot) → o ≡ Some s → has_moved s ≡ false) → o ≡ option_map rested o
    unchanged None h = refl
    unchanged (Some s) h = ap Some (sym (rests_same s (h s refl)))

stays_out : (low end : ℕ) (slots : List Slot) (k : ℕ) (s : Slot) → AreBefore low end slots → slice_get slots k ≡ Some s → (k < low) ⊎ (end ≤ k) → has_moved s ≡ false
stays_out low end slots k s before at out = at_test (has_moved s) refl
  where
    at_test : (b : Bool) → has_moved s ≡ b → has_moved s ≡ false
    at_test false e = e
    at_test true e = let w = before k s at e in elim out [ inl lt ↦ absurd (omega (arith, lt, w.0)) | inr le ↦ absurd (omega (arith, le, w.1)) ]

pub rested_first : (low end : ℕ) (slots : List Slot) → AreBefore low end slots → Passed rested low slots slots
rested_first low end slots before = rested_by 0 low slots slots (omega arith) (λ k s le lt at. stays_out low end slots k s before at (inl lt)) (passed_none rested slots)

pub rested_last : (low end i : ℕ) (old cur : List Slot) → AreBefore low end old → end ≤ i → Passed rested i old cur → cur ≡ map rested old
rested_last low end i old cur before le p =
    passed_all rested (i + length old) old cur (omega arith)
    (rested_by i (i + length old) old cur (omega arith) (λ k s more lt at. stays_out low end old k s before at (inr (omega (arith, le, more)))) p)

pub none_left : (old new : List Slot) → new ≡ map rested old → NoneMoved new
none_left old new is k s at = by_cases (slice_get old k) (sym (ap (λ (z : List Slot). slice_get z k) is ∙ slice_get-map rested old k) ∙ at)
  where
    by_cases : (o : Option Slot) → option_map rested o ≡ Some s → has_moved s ≡ false
    by_cases None e = absurd (cc e)
    by_cases (Some x) e = subst (λ (z : Slot). has_moved z ≡ false) (same_Some (rested x) s e) (rested_is x)

-- The entries then.

rested_entry : (slots : List Slot) (s : Slot) → entry_of slots (rested s) ≡ still (entry_of slots s)
unfolding entry_of
rested_entry slots s = refl

rested_links : (v : Bool) (s : Slot) → first_of v (rested s) ≡ first_of v s
rested_links true s = refl
rested_links false s = refl

pub entries_rested : (old new : List Slot) → new ≡ map rested old → entries_of new ≡ stilled (entries_of old)
unfolding stilled
entries_rested old new is = ap (λ (z : List Slot). entries_of z) is ∙ entries_mapped rested still old (λ s. refl) (rested_entry old)

pub kept_rested : (old new : List Slot) (lowest told : ℕ) (players : List ℕ) → new ≡ map rested old → IsKept old lowest told players → IsKept new lowest told players
kept_rested old new lowest told players is kept =
    let es : List Entry = entries_of old in
    let entries : entries_of new ≡ stilled es = entries_rested old new is in
    let C : List Entry → Type 0 = λ z. IsConsistent z in
    record {
      sound = record {
        ends = ends_mapped rested old new is (λ s. refl) rested_links kept.sound.ends;
        world = subst C (sym entries) (consistent_stilled es kept.sound.world);
        limits = subst IsWithinLimits (sym entries) (limits_stilled es kept.sound.limits);
      };
      full = λ k lt. rw (← kind_in-entries_of new k, entries, kind_stilled es k, kind_in-entries_of old k) (kept.full k lt);
      unmarked = λ k lt. rw (← mark_in-entries_of new k, entries, mark_stilled es k, mark_in-entries_of old k) (kept.unmarked k lt);
      listed = λ k h. kept.listed k (ap is_player (sym (kind_in-entries_of old k) ∙ sym (kind_stilled es k) ∙ ap (λ (z : List Entry). kind_in z k) (sym entries) ∙ kind_in-entries_of new k) ∙ h);
    }

pub held_rested : (old new : List Slot) (lowest told : ℕ) (players : List ℕ) (ties : List Tied) → new ≡ map rested old → IsHeld old lowest told players ties → IsHeld new lowest told players ties
held_rested old new lowest told players ties is held = record { kept = kept_rested old new lowest told players is held.kept; tied = ties_rested old new ties is held.tied }

pub rests_all : (old new : List Slot) (es : List Entry) → entries_of old ≡ es → new ≡ map rested old → entries_of new ≡ stilled es
rests_all old new es e is = entries_rested old new is ∙ ap (λ (z : List Entry). stilled z) e

-- Who moved.

no_move : (n : ℕ) (s : Slot) → has_moved s ≡ false → move_of n s.stood (standing (shown s)) ≡ []
no_move n s h = ap (λ (x : Option Dbref). move_of n x (standing (shown s))) (where_same s.stood (standing (shown s)) (not-false _ h)) ∙ none (standing (shown s))
  where
    none : (o : Option Dbref) → move_of n o o ≡ []
    none None = refl
    none (Some a) = ap (λ b. cond b [] (record { player = dbref_of n; from = a; to = a } ∷ [])) (same_eq a a refl)

abbrev move_at : ℕ → Entry → List Move
move_at n e = move_of n e.stood (standing e.object)

pub moves_past : (n : ℕ) (es : List Entry) → ((k : ℕ) (e : Entry) → slice_get es k ≡ Some e → move_at (n + k) e ≡ []) → moves_from n es ≡ []
unfolding moves_from
moves_past n [] none = refl
moves_past n (e ∷ es) none =
    ap (λ l. l ++ moves_from (suc n) es) (subst (λ m. move_at m e ≡ []) (let z : n + 0 ≡ n = omega arith in z) (none 0 e refl))
    ∙ moves_past (suc n) es (λ k x at. subst (λ m. move_at m x ≡ []) (let z : n + suc k ≡ suc n + k = omega arith in z) (none (suc k) x at))

moves_over : (n i : ℕ) (es : List Entry) → ((k : ℕ) (e : Entry) → k < i → slice_get es k ≡ Some e → move_at (n + k) e ≡ []) → moves_from n es ≡ moves_from (n + i) (drop i es)
unfolding moves_from
moves_over n zero es none = ap (λ m. moves_from m es) (let z : n ≡ n + 0 = omega arith in z)
moves_over n (suc i) [] none = refl
moves_over n (suc i) (e ∷ es) none =
    ap (λ l. l ++ moves_from (suc n) es) (subst (λ m. move_at m e ≡ []) (let z : n + 0 ≡ n = omega arith in z) (none 0 e (omega arith) refl))
    ∙ moves_over (suc n) i es (λ k x lt at. subst (λ m. move_at m x ≡ []) (let z : n + suc k ≡ suc n + k = omega arith in z) (none (suc k) x (omega (arith, lt)) at))
    ∙ ap (λ m. moves_from m (drop i es)) (let z : suc n + i ≡ n + suc i = omega arith in z)

entry_at : (slots : List Slot) (k : ℕ) (e : Entry) → slice_get (entries_of slots) k ≡ Some e → (s : Slot) × (slice_get slots k ≡ Some s) × (e ≡ entry_of slots s)
unfolding entries_of
entry_at slots k e at = by_cases (slice_get slots k) refl (sym (slice_get-map (entry_of slots) slots k) ∙ at)
  where
    by_cases : (o : Option Slot) → slice_get slots k ≡ o → option_map (entry_of slots) o ≡ Some e → (s : Slot) × (slice_get slots k ≡ Some s) × (e ≡ entry_of slots s)
    by_cases None q h = absurd (cc h)
    by_cases (Some s) q h = (s, q, sym (same_Some (entry_of slots s) e h))

entry_move : (n : ℕ) (slots : List Slot) (s : Slot) → move_at n (entry_of slots s) ≡ move_of n s.stood (standing (shown s))
unfolding entry_of
entry_move n slots s = refl

unmoved_at : (low end m : ℕ) (slots : List Slot) (k : ℕ) (e : Entry) → AreBefore low end slots → slice_get (entries_of slots) k ≡ Some e → (k < low) ⊎ (end ≤ k) → move_at m e ≡ []
unmoved_at low end m slots k e before at out =
    let found = entry_at slots k e at in
    ap (λ (x : Entry). move_at m x) found.2 ∙ entry_move m slots found.0 ∙ no_move m found.0 (stays_out low end slots k found.0 before found.1 out)

-- none below the first number, and none from the end on
pub moves_first : (told : List Move) (low end : ℕ) (slots : List Slot) → told ≡ [] → AreBefore low end slots → told ++ moves_from low (drop low (entries_of slots)) ≡ moves_from 0 (entries_of slots)
moves_first told low end slots none before =
    ap (λ l. l ++ moves_from low (drop low (entries_of slots))) none ∙ ap (λ m. moves_from m (drop low (entries_of slots))) (let z : low ≡ 0 + low = omega arith in z)
    ∙ sym (moves_over 0 low (entries_of slots) (λ k e lt at. unmoved_at low end (0 + k) slots k e before at (inl lt)))

get-drop : (i k : ℕ) (es : List Entry) → slice_get es (i + k) ≡ slice_get (drop i es) k
get-drop zero k es = ap (slice_get es) (let e : 0 + k ≡ k = omega arith in e)
get-drop (suc i) k [] = refl
get-drop (suc i) k (x ∷ es) = ap (slice_get (x ∷ es)) (let e : suc i + k ≡ suc (i + k) = omega arith in e) ∙ get-drop i k es

pub moves_last : (told : List Move) (low end i : ℕ) (slots : List Slot) → AreBefore low end slots → end ≤ i → told ++ moves_from i (drop i (entries_of slots)) ≡ moves_from 0 (entries_of slots) → told ≡ moves_from 0 (entries_of slots)
moves_last told low end i slots before le so =
    sym (append-nil told)
    ∙ ap (λ l. told ++ l) (sym (moves_past i (drop i (entries_of slots)) (λ k e at. unmoved_at low end (i + k) slots (i + k) e before (get-drop i k (entries_of slots) ∙ at) (inr (omega (arith, le))))))
    ∙ so

there : (slots : List Slot) (i : ℕ) (s : Slot) → slice_get slots i ≡ Some s → slice_get (entries_of slots) i ≡ Some (entry_of slots s)
unfolding entries_of
there slots i s at = slice_get-map (entry_of slots) slots i ∙ ap (λ (o : Option Slot). option_map (entry_of slots) o) at

pub moves_more : (told : List Move) (i : ℕ) (slots : List Slot) (s : Slot) → slice_get slots i ≡ Some s → told ++ moves_from i (drop i (entries_of slots)) ≡ moves_from 0 (entries_of slots)
    → (told ++ move_of i s.stood (standing (shown s))) ++ moves_from (i + 1) (drop (i + 1) (entries_of slots)) ≡ moves_from 0 (entries_of slots)
unfolding moves_from entry_of
moves_more told i slots s at so =
    let es : List Entry = entries_of slots in
    append_assoc told (move_of i s.stood (standing (shown s))) (moves_from (i + 1) (drop (i + 1) es))
    ∙ ap (λ l. told ++ l) (ap (λ m. move_of i s.stood (standing (shown s)) ++ moves_from m (drop m es)) (let z : i + 1 ≡ suc i = omega arith in z) ∙ sym (ap (moves_from i) (dropped i es (entry_of slots s) (there slots i s at))))
    ∙ so
  where
    dropped : (i : ℕ) (es : List Entry) (e : Entry) → slice_get es i ≡ Some e → drop i es ≡ e ∷ drop (suc i) es
    dropped zero [] e h = absurd (cc h)
    dropped zero (x ∷ es) e h = ap (λ (z : Entry). z ∷ es) (same_Some x e h)
    dropped (suc i) [] e h = absurd (cc h)
    dropped (suc i) (x ∷ es) e h = dropped i es e h

pub moves_on : (told new : List Move) (i : ℕ) (slots : List Slot) (s : Slot) (to : Option Dbref) → slice_get slots i ≡ Some s → new ≡ told ++ move_of i s.stood to → to ≡ standing (shown s) →
    told ++ moves_from i (drop i (entries_of slots)) ≡ moves_from 0 (entries_of slots) → new ++ moves_from (i + 1) (drop (i + 1) (entries_of slots)) ≡ moves_from 0 (entries_of slots)
moves_on told new i slots s to at is where_to so =
    ap (λ l. l ++ moves_from (i + 1) (drop (i + 1) (entries_of slots))) (is ∙ ap (λ x. told ++ move_of i s.stood x) where_to) ∙ moves_more told i slots s at so

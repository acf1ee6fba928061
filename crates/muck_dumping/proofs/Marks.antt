-- Dumps by the marks of the objects.
use Rattle.std.proofs.Common.{◌≡◌, ℕ, ◌≤◌, Bool, true, false, List, [], ◌∷◌, ◌++◌, length, take, refl, sym, ap, ◌∙◌, subst, arith, Option, Some, None}
use Rattle.std.specs.Prelude.{if◌then◌else◌}
use Rattle.std.proofs.lemmas.List.{take-append-le}
use Rattle.std.proofs.lemmas.Bool.{both_ways}
use Rattle.muck_model.specs.declared.event.Entry.{Entry}
use Rattle.muck_model.specs.declared.event.Event.TheVariants.{Cut}
use Rattle.muck_model.specs.declared.note.Note.{Note}
use Rattle.muck_model.specs.declared.tune.Tune.{Tune}
use Rattle.muck_model.specs.Parameters.{tune_fits}
use Rattle.muck_model.proofs.Parameters.{fits_in_range}
use Rattle.muck_codec.specs.declared.stored.Stored.{Stored}
use Rattle.muck_db.specs.inner.Limits.{IsWithinLimits}
use Rattle.spec_live.specs.declared.saving.Saving.{Saving}
use Rattle.spec_live.specs.Lives.{Live}
use Rattle.spec_live.specs.Objects.{Entry as Object}
use Rattle.spec_live.specs.Saving.{pending, all_saving}
use Rattle.spec_live.proofs.Savings.{object_resaved, length_resaved}
use Rattle.spec_live.proofs.Resaved.{consistent_resaved}
use Rattle.muck_store.specs.inner.Changes.{LeavesOut, KeepsUndue}
use Rattle.muck_store.specs.Forms.{persist}
use Rattle.muck_store.proofs.Undue.{persist_resaved}
use Rattle.muck_log.specs.World.{StoredWorld as Kept, laid}
use Rattle.muck_log.specs.Store.{LogState, opens_new, target}
use Rattle.muck_log.specs.Append.{IsNext, base_of, payload_of}
use Rattle.spec_events.specs.World.{World}
use Rattle.spec_events.specs.Histories.{History, now, after, entered, noted}
use Rattle.spec_events.specs.Logged.{is_cut}
use Rattle.spec_dumps.specs.Fronts.{front_behind_cut, last_cut, at_cut}
use Rattle.spec_dumps.specs.inner.Holding.{Quietly}
use Rattle.spec_dumps.proofs.Fronts.{last_cut_short, at_cut_quiet}
use Rattle.spec_dumps.proofs.Undue.{kept_undue}
use Rattle.muck_dumping.specs.declared.parts.Pending.{Pending}
use Rattle.muck_dumping.specs.inner.Dumps.{by, ending_event}
use Rattle.muck_dumping.specs.inner.Between.{IsBatchOf, IsBatchOfWorld, IsBatchAtCut, HoldsThese, GoesByMarks, base_in}
use Rattle.muck_dumping.proofs.Appending.{two_there}
use Rattle.muck_dumping.proofs.Mounting.{one_log}
use Rattle.muck_dumping.proofs.Steps.{cut_live}

-- Nothing is said where dumps don't go by marks, or where no log is mounted.

none_some : (o : Option LogState) (x : LogState) → o ≡ None → o ≡ Some x → ⊥
none_some o x e g = cc

pub unmounted_holds : (marks : Bool) (o : Option LogState) (es : List Object) → o ≡ None → HoldsThese marks o es
unmounted_holds marks o es none = λ on x is. absurd (none_some o x none is)

pub unmarked_holds : (marks : Bool) (o : Option LogState) (es : List Object) → marks ≡ false → HoldsThese marks o es
unmarked_holds marks o es off = λ on x is. absurd (both_ways marks off on)

-- The next dump goes by them.

-- it may leave out what the world was at its last Cut
pub base_marked : (marks : Bool) (o : Option LogState) (x : LogState) (h : History) → o ≡ Some x → marks ≡ true → opens_new x.chosen.held ≡ false → GoesByMarks marks o h → base_in o ≡ persist (at_cut h.start h.entries).live.objects
unfolding base_of
base_marked marks o x h is on goes_on goes = ap base_in is ∙ ap (λ b. if b then [] else x.chosen.held.world.objects) goes_on ∙ goes on x is

-- of which it keeps what isn't due
pub keeps_undue : (base : List Stored) (h : History) → base ≡ persist (at_cut h.start h.entries).live.objects → KeepsUndue base (now h).live.objects
unfolding now
keeps_undue base h is = kept_undue h.start h.entries base is

-- The batch of a world is that of the world behind its Cut, in which only the marks differ.

limits_resaved : (f : Saving → Saving) (es : List Object) → IsWithinLimits es → IsWithinLimits (all_saving f es)
limits_resaved f es within = λ k o is. within k o (sym (object_resaved f k es) ∙ is)

batch_resaved : (f : Saving → Saving) (base : List Stored) (es : List Object) (tune : Tune) (p : Pending) → IsBatchOf base es tune p → IsBatchOf base (all_saving f es) tune p
batch_resaved f base es tune p b = record {
  records = subst (λ (os : List Stored). LeavesOut base os p.batch.records) (sym (persist_resaved f es)) b.records;
  storable = b.storable;
  tuning = b.tuning;
  size = b.size ∙ sym (length_resaved f es);
  consistent = consistent_resaved f es b.consistent;
  limits = limits_resaved f es b.limits;
  tuned = b.tuned;
}

pub batch_at_cut : (base : List Stored) (h k : History) (note : Note) (party n : ℕ) (p : Pending) → k ≡ entered (noted h note) (by party (Cut n)) → IsBatchOfWorld base (now h) p → IsBatchAtCut base k p
batch_at_cut base h k note party n p is b =
    subst (λ (l : Live). IsBatchOf base l.objects l.board.tune p) (sym (cut_live h k note party n is)) (batch_resaved pending base (now h).live.objects (now h).live.board.tune p b)

-- What was written is kept.

same_world : (x y : Kept) → Some x ≡ Some y → x ≡ y
same_world x y e = cc

pub appended_holds : (marks : Bool) (o : Option LogState) (log new : LogState) (p : Pending) (es : List Object) (tune : Tune) → o ≡ Some log → IsBatchOf (base_in o) es tune p → length log.chosen.held.world.objects ≤ p.size →
    (LeavesOut (base_of log) (persist es) p.batch.records → p.batch.tune ≡ tune → tune_fits tune ≡ true → 2 ≤ length es → length log.chosen.held.world.objects ≤ length es →
    laid (payload_of log p.batch) (target log.chosen).held.world ≡ Some (record { objects = persist es; tune = tune })) →
    IsNext log new (payload_of log p.batch) → HoldsThese marks (Some new) es
appended_holds marks o log new p es tune is b covers whole next = λ on x same.
    let left : LeavesOut (base_of log) (persist es) p.batch.records = subst (λ (y : Option LogState). LeavesOut (base_in y) (persist es) p.batch.records) is b.records in
    let wrote = whole left b.tuning (fits_in_range tune b.tuned) (two_there es b.consistent) (omega (arith, covers, b.size)) in
    ap (λ (l : LogState). l.chosen.held.world.objects) (one_log (Some new) x new same refl)
    ∙ ap (λ (w : Kept). w.objects) (same_world new.chosen.held.world (record { objects = persist es; tune = tune }) (sym next.makes ∙ wrote))

-- It stays so while no Cut comes.

last_cut_past : (h : List Entry) (e : Entry) → is_cut e.event ≡ false → last_cut (h ++ e ∷ []) ≡ last_cut h
unfolding last_cut
last_cut_past [] e other = ap (λ b. if b then 1 else 0) other
last_cut_past (x ∷ h) e other = ap (λ n. front_behind_cut n (is_cut x.event)) (last_cut_past h e other)

pub at_cut_past : (w : World) (h : List Entry) (e : Entry) → is_cut e.event ≡ false → at_cut w (h ++ e ∷ []) ≡ at_cut w h
at_cut_past w h e other = ap (λ n. after w (take n (h ++ e ∷ []))) (last_cut_past h e other) ∙ ap (after w) (take-append-le (last_cut h) h (e ∷ []) (last_cut_short h))

module _ (marks : Bool) (log : Option LogState) (h k : History) where
  pub goes_entered : (e : Entry) → is_cut e.event ≡ false → k ≡ entered h e → GoesByMarks marks log h → GoesByMarks marks log k
  goes_entered e other is goes =
      subst (λ (x : History). GoesByMarks marks log x) (sym is) (subst (λ (w : World). HoldsThese marks log w.live.objects) (sym (at_cut_past h.start h.entries e other)) goes)

  pub goes_noted : (note : Note) (e : Entry) → is_cut e.event ≡ false → k ≡ entered (noted h note) e → GoesByMarks marks log h → GoesByMarks marks log k
  goes_noted note e other is goes =
      subst (λ (x : History). GoesByMarks marks log x) (sym is) (subst (λ (w : World). HoldsThese marks log w.live.objects) (sym (at_cut_past h.start h.entries e other)) goes)

  pub goes_quiet : Quietly h k → GoesByMarks marks log h → GoesByMarks marks log k
  goes_quiet q goes =
      let same : at_cut k.start k.entries ≡ at_cut h.start h.entries =
      ap (λ (w : World). at_cut w k.entries) q.grew.start ∙ ap (at_cut h.start) q.grew.entries ∙ at_cut_quiet h.start h.entries q.entries q.none
      in
      subst (λ (w : World). HoldsThese marks log w.live.objects) (sym same) goes

-- the end of a dump is no Cut
pub ending_other : (n : ℕ) (done : Bool) → is_cut (ending_event n done) ≡ false
ending_other n true = refl
ending_other n false = refl

-- The entries of a dump.
use Rattle.std.proofs.Common.{◌≡◌, ℕ, Bool, true, false, [], ◌∷◌, refl, sym, ap, subst, ◌∙◌, None}
use Rattle.std.proofs.lemmas.Bool.{cond-false, eq-eqb, and_from}
use Rattle.muck_model.specs.declared.event.Event.{Event}
use Rattle.muck_model.specs.declared.event.Event.TheVariants.{Cut, Stored, DumpFailed}
use Rattle.muck_model.specs.declared.note.Note.{Note}
use Rattle.spec_live.specs.Saving.{pending}
use Rattle.spec_events.specs.World.{World, runs_dump}
use Rattle.spec_events.specs.Dumping.{resaved}
use Rattle.spec_events.specs.Steps.{effect, is_lawful, is_died, makes_dumps, may_cut}
use Rattle.spec_events.specs.Histories.{History, after, now, entered, noted, Longer}
use Rattle.spec_events.proofs.Living.{dead-effect}
use Rattle.spec_events.proofs.Runs.{longer_noted, now-longer, now-noted}
use Rattle.spec_dumps.specs.Fronts.{at_cut}
use Rattle.spec_dumps.proofs.Cutting.{at_cut_end}
use Rattle.muck_dumping.specs.inner.Dumps.{by, ending_event}

-- A party that makes dumps may begin one where none runs, and end the one that runs.

pub cut_lawful : (h : History) (note : Note) (party k : ℕ) → (now h).dead ≡ false → may_cut (now h) party ≡ true → is_lawful (now (noted h note)) (by party (Cut k)) ≡ true
unfolding is_lawful
cut_lawful h note party k alive may = ap (λ (w : World). is_lawful w (by party (Cut k))) (now-noted h note) ∙ cond-false _ _ _ alive ∙ may

pub end_lawful : (h : History) (note : Note) (party k : ℕ) (b : Bool) → (now h).dead ≡ false → makes_dumps party ≡ true → runs_dump k (now h).dumps ≡ true → is_lawful (now (noted h note)) (by party (ending_event k b)) ≡ true
unfolding is_lawful
end_lawful h note party k true alive makes runs = ap (λ (w : World). is_lawful w (by party (Stored k))) (now-noted h note) ∙ cond-false _ _ _ alive ∙ and_from (makes_dumps party) (runs_dump k (now h).dumps) makes runs
end_lawful h note party k false alive makes runs = ap (λ (w : World). is_lawful w (by party (DumpFailed k))) (now-noted h note) ∙ cond-false _ _ _ alive ∙ and_from (makes_dumps party) (runs_dump k (now h).dumps) makes runs

-- a note changes nothing of the world
pub at_note : (P : World → Type 0) (h k : History) (note : Note) → k ≡ noted h note → P (now k) → P (now h)
at_note P h k note is p = subst P (ap now is ∙ now-noted h note) p

pub noted_lives : (h : History) (note : Note) → (now h).dead ≡ false → (now (noted h note)).dead ≡ false
noted_lives h note alive = ap (λ (w : World). w.dead) (now-noted h note) ∙ alive

lives : (h k : History) (party : ℕ) (event : Event) → Longer h k (by party event ∷ []) → is_died event ≡ false → (now h).dead ≡ false → (now k).dead ≡ false
lives h k party event is other alive = ap (λ (w : World). w.dead) (now-longer h k (by party event ∷ []) is) ∙ dead-effect (now h) (by party event) other ∙ alive

pub cut_lives : (h k : History) (note : Note) (party n : ℕ) → k ≡ entered (noted h note) (by party (Cut n)) → (now h).dead ≡ false → (now k).dead ≡ false
cut_lives h k note party n is alive = lives h k party (Cut n) (longer_noted h k note (by party (Cut n)) is) refl alive

pub cut_runs : (h k : History) (note : Note) (party n : ℕ) → k ≡ entered (noted h note) (by party (Cut n)) → runs_dump n (now k).dumps ≡ true
unfolding effect
cut_runs h k note party n is = ap (λ (w : World). runs_dump n w.dumps) (now-longer h k (by party (Cut n) ∷ []) (longer_noted h k note (by party (Cut n)) is)) ∙ eq-eqb n n refl

pub ended_idle : (h k : History) (note : Note) (party n : ℕ) (b : Bool) → k ≡ entered (noted h note) (by party (ending_event n b)) → (now k).dumps.running ≡ None
unfolding effect
ended_idle h k note party n true is = ap (λ (w : World). w.dumps.running) (now-longer h k (by party (Stored n) ∷ []) (longer_noted h k note (by party (Stored n)) is))
ended_idle h k note party n false is = ap (λ (w : World). w.dumps.running) (now-longer h k (by party (DumpFailed n) ∷ []) (longer_noted h k note (by party (DumpFailed n)) is))

-- The world at its Cut is the one before, in which what was due is pending.

pub now_is : (h : History) → now h ≡ after h.start h.entries
unfolding now
now_is h = refl

pub at_cut_now : (h k : History) (note : Note) (party n : ℕ) → k ≡ entered (noted h note) (by party (Cut n)) → at_cut k.start k.entries ≡ now k
at_cut_now h k note party n is =
    ap (λ (x : History). at_cut x.start x.entries) is
    ∙ at_cut_end h.start h.entries party n
    ∙ sym (now_is (entered (noted h note) (by party (Cut n))))
    ∙ ap now (sym is)

pub cut_live : (h k : History) (note : Note) (party n : ℕ) → k ≡ entered (noted h note) (by party (Cut n)) → (at_cut k.start k.entries).live ≡ resaved pending (now h).live
unfolding effect
cut_live h k note party n is =
    ap (λ (w : World). w.live) (at_cut_now h k note party n is) ∙ ap (λ (w : World). w.live) (now-longer h k (by party (Cut n) ∷ []) (longer_noted h k note (by party (Cut n)) is))

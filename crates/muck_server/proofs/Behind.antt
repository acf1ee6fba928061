-- Entries behind a history that tell nothing of a connection, stop no run, and for which the clock isn't asked: what links and clock told stays true.
use Rattle.std.proofs.Common.{◌≡◌, inl, inr, ℕ, ◌≤◌, Bool, true, false, List, [], ◌∷◌, ◌++◌, sym, ap, ◌∙◌, subst, append_assoc, Option}
use Rattle.std.specs.Prelude.{if◌then◌else◌}
use Rattle.std.proofs.lemmas.List.{append-nil}
use Rattle.muck_links.specs.Sessions.{Session}
use Rattle.muck_model.specs.declared.event.Entry.{Entry}
use Rattle.spec_events.specs.World.{World}
use Rattle.spec_events.specs.Steps.{effect}
use Rattle.spec_events.specs.Histories.{after, by_porter}
use Rattle.muck_model.specs.declared.event.Event.TheVariants.{StopSeen}
use Rattle.spec_talks.specs.Parties.{worlds_at, is_halt}
use Rattle.spec_talks.specs.Talks.{Talk, talked, talks}
use Rattle.spec_talks.proofs.Histories.{worlds_one}
use Rattle.spec_talks.proofs.Talking.{talks_one}
use Rattle.spec_serve.specs.Marks.{LinksNote}
use Rattle.spec_serve.specs.Promises.{Tally, HaltCause, Promised, PromisedOf}
use Rattle.muck_crew.specs.PeerMoves.{IsUntimed}
use Rattle.muck_crew.specs.inner.Kept.{Account}
use Rattle.muck_crew.specs.Times.{Timely}
use Rattle.muck_crew.proofs.Rising.{rose_since}
use Rattle.muck_crew.specs.Shared.{LeavesWorkedOff}

pub record TellsNothing (e : Entry) : Type 0 where
  pub silent : (w : World) (ts : List Talk) → talked w e.event ts ≡ ts
  pub goes_on : is_halt e ≡ false
  pub untimed : IsUntimed e.event

abbrev pub AllTellNothing : List Entry → Type 0
AllTellNothing [] = Unit {0}
AllTellNothing (e ∷ es) = TellsNothing e × AllTellNothing es

talks_behind : (w : World) (h es : List Entry) → AllTellNothing es → talks w (h ++ es) ≡ talks w h
talks_behind w h [] all = ap (talks w) (append-nil h)
talks_behind w h (e ∷ es) all = ap (talks w) (sym (append_assoc h (e ∷ []) es)) ∙ talks_behind w (h ++ e ∷ []) es all.1 ∙ talks_one w h e ∙ all.0.silent (after w h) (talks w h)

halts_behind : (w : World) (h es : List Entry) → AllTellNothing es → worlds_at is_halt w (h ++ es) ≡ worlds_at is_halt w h
halts_behind w h [] all = ap (worlds_at is_halt w) (append-nil h)
halts_behind w h (e ∷ es) all =
    ap (worlds_at is_halt w) (sym (append_assoc h (e ∷ []) es)) ∙ halts_behind w (h ++ e ∷ []) es all.1 ∙ worlds_one is_halt w h e
    ∙ ap (λ (t : Bool). worlds_at is_halt w h ++ (if t then after w h ∷ [] else [])) all.0.goes_on ∙ append-nil (worlds_at is_halt w h)

promised_behind : (counted : LinksNote) (b : Tally) (w : World) (h es : List Entry) (k : Tally) → AllTellNothing es → PromisedOf counted b w h k → PromisedOf counted b w (h ++ es) k
promised_behind counted b w h es k all promise =
    subst (λ (ts : List Talk). Promised counted b ts (worlds_at is_halt w (h ++ es)) k) (sym (talks_behind w h es all))
    (subst (λ (hs : List World). Promised counted b (talks w h) hs k) (sym (halts_behind w h es all)) promise)

untimed_all : (a a' : Option (List ℕ)) (w : World) (es : List Entry) → AllTellNothing es → a' ≡ a → Timely a a' w es
untimed_all a a' w [] all still = still
untimed_all a a' w (e ∷ es) all still = (a, all.0.untimed w a, untimed_all a a' (effect w e) es all.1 still)

timely_behind : (a a' : Option (List ℕ)) (w : World) (h es : List Entry) → AllTellNothing es → Timely a a' w h → Timely a a' w (h ++ es)
timely_behind a a' w [] es all still = untimed_all a a' w es all still
timely_behind a a' w (e ∷ h) es all t = (t.0, t.1, timely_behind t.0 a' (effect w e) h es all t.2)

worked_behind : (counted : LinksNote) (w : World) (h es : List Entry) (k : Tally) → LeavesWorkedOff counted w h k → LeavesWorkedOff counted w (h ++ es) k
worked_behind counted w h es k (front, rest, is, off) = (front, rest ++ es, ap (λ (x : List Entry). x ++ es) is ∙ append_assoc front (by_porter StopSeen ∷ rest) es, off)

-- What links and clock told, against a history; and where it was stopped, that each connection is worked off.
pub record Heard (shows : Bool) (before now : Account) (stopped : Type 0) (counted : LinksNote) (w : World) (tale : List Entry) : Type 0 where
  pub promised : shows ≡ true → PromisedOf counted before.links w tale now.links
  pub timely : Timely before.answers now.answers w tale
  pub worked_off : shows ≡ true → stopped → LeavesWorkedOff counted w tale now.links

module _ (shows : Bool) (before now : Account) (stopped : Type 0) (counted : LinksNote) (w : World) where
  pub heard_behind : (h es : List Entry) → AllTellNothing es → Heard shows before now stopped counted w h → Heard shows before now stopped counted w (h ++ es)
  heard_behind h es all x = record {
    promised = λ on. promised_behind counted before.links w h es now.links all (x.promised on);
    timely = timely_behind before.answers now.answers w h es all x.timely;
    worked_off = λ on stop. worked_behind counted w h es now.links (x.worked_off on stop);
  }

-- What was told since listening began is so since before it.

halt_since : (b b' k : Tally) (w : World) → b.listening ≤ b'.listening → HaltCause b' k w → HaltCause b k w
halt_since b b' k w later (inl rose) = inl (rose_since b.listening b'.listening k.listening later rose)
halt_since b b' k w later (inr over) = inr over

pub promised_since : (counted : LinksNote) (b b' : Tally) (w : World) (h : List Entry) (k : Tally) → b'.told.sessions ≡ b.told.sessions → b.listening ≤ b'.listening → PromisedOf counted b' w h k → PromisedOf counted b w h k
promised_since counted b b' w h k same later p = record {
  mine = p.mine;
  extra = p.extra;
  whole = p.whole ∙ ap (λ (ss : List Session). p.extra ++ (p.mine ++ ss)) same;
  single = p.single;
  agree = p.agree;
  counts = p.counts;
  halts = λ i v at. halt_since b b' k v later (p.halts i v at);
}

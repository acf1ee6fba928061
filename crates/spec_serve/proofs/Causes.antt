-- What is seen of a link and of the world, against the account: from what is kept to the causes.
use Rattle.std.proofs.Common.{◌≡◌, ℕ, ◌≤◌, true, false, List, [], ◌++◌, length, sym, ap, ◌∙◌, subst, inl, inr}
use Rattle.std.specs.Prelude.{◌&&◌, not, is_some}
use Rattle.std.proofs.lemmas.List.{append-nil}
use Rattle.muck_laws.proofs.Lists.{none_long}
use Rattle.muck_links.specs.Sessions.{Session}
use Rattle.muck_links.proofs.Cuts.{cut_is_lines}
use Rattle.muck_model.specs.declared.event.Event.TheVariants.{Input}
use Rattle.muck_queue.specs.Queues.{has_process_tied}
use Rattle.spec_live.specs.Connections.{is_ready}
use Rattle.spec_events.specs.World.{World, queue_of, is_leaving}
use Rattle.spec_events.specs.Steps.{passes, is_lawful}
use Rattle.spec_events.specs.Histories.{by_porter}
use Rattle.spec_talks.specs.Talks.{Talk}
use Rattle.spec_serve.specs.Marks.{LinksNote, noted}
use Rattle.spec_serve.specs.Accounts.{HeardAll, WorkedOff, Cause}
use Rattle.spec_serve.specs.inner.Keeping.{Peer, Keeps}
use Rattle.spec_serve.proofs.Marks.{marked, passed}

all_written : (counted : LinksNote) (p : Peer) (t : Talk) (s : Session) → p.unsent ≡ [] → Keeps counted p t s → s.written ≡ t.sent
all_written counted p t s none_kept k = sym (append-nil s.written) ∙ ap (λ (l : List ℕ). s.written ++ l) (sym none_kept) ∙ sym k.bytes

-- Nothing is left to do.

pub worked_done : (counted : LinksNote) (p : Peer) (w : World) → (passes is_ready p.number w && not w.stopping) ≡ false → length (queue_of p.number w) ≤ 0 → p.unsent ≡ []
    → (t : Talk) (s : Session) → Keeps counted p t s → WorkedOff counted w t s
worked_done counted p w idle queue none_kept t s k =
    WorkedOff.done
    (subst (λ (n : ℕ). (passes is_ready n w && not w.stopping) ≡ false) (sym k.talk_number) idle)
    (ap (λ (n : ℕ). queue_of n w) k.talk_number ∙ none_long (queue_of p.number w) queue)
    (all_written counted p t s none_kept k)

pub worked_refused : (counted : LinksNote) (p : Peer) (w : World) → p.refused ≡ true → (t : Talk) (s : Session) → Keeps counted p t s → WorkedOff counted w t s
worked_refused counted p w is t s k = let h = passed p.ended p.refused s.ended s.refused is k.ended in WorkedOff.refused h.0 h.1 h.2

pub worked_stalled : (counted : LinksNote) (p : Peer) (w : World) → p.stalled ≡ true → w.stopping ≡ true → (t : Talk) (s : Session) → Keeps counted p t s → WorkedOff counted w t s
worked_stalled counted p w is stopping t s k =
    let h = passed (is_some counted) p.stalled (noted s.number counted) s.refused is k.stalled in
    WorkedOff.stalled stopping h.0 (ap (λ (n : ℕ). noted n counted) (k.talk_number ∙ sym k.link_number) ∙ h.1) h.2

-- Each whole line was entered.

pub heard_none : (counted : LinksNote) (p : Peer) (w : World) → p.cut.ready ≡ [] → (t : Talk) (s : Session) → Keeps counted p t s → HeardAll w t s
heard_none counted p w none_ready t s k =
    inl (sym (append-nil t.entered) ∙ ap (λ (l : List (List ℕ)). t.entered ++ l) (sym none_ready) ∙ k.lines ∙ cut_is_lines s.read)

pub heard_not : (counted : LinksNote) (p : Peer) (w : World) → ((line : List ℕ) → is_lawful w (by_porter (Input p.number line)) ≡ false) → (t : Talk) (s : Session) → Keeps counted p t s → HeardAll w t s
heard_not counted p w not_now t s k = inr (λ line. subst (λ (n : ℕ). is_lawful w (by_porter (Input n line)) ≡ false) (sym k.talk_number) (not_now line))

-- Causes.

pub cause_fault : (counted : LinksNote) (p : Peer) (w : World) → p.faulted ≡ true → (t : Talk) (s : Session) → Keeps counted p t s → Cause counted w t s
cause_fault counted p w is t s k = Cause.faulted (k.faulted is)

pub cause_left : (counted : LinksNote) (p : Peer) (w : World) → is_leaving p.number w ≡ true → length (queue_of p.number w) ≤ 0 → p.unsent ≡ []
    → (t : Talk) (s : Session) → Keeps counted p t s → Cause counted w t s
cause_left counted p w is queue none_kept t s k =
    Cause.left
    (subst (λ (n : ℕ). is_leaving n w ≡ true) (sym k.talk_number) is)
    (ap (λ (n : ℕ). queue_of n w) k.talk_number ∙ none_long (queue_of p.number w) queue)
    (all_written counted p t s none_kept k)

pub cause_tied : (counted : LinksNote) (p : Peer) (w : World) → p.ended ≡ true → has_process_tied p.number w.queue ≡ true → ((t : Talk) (s : Session) → Keeps counted p t s → HeardAll w t s)
    → (t : Talk) (s : Session) → Keeps counted p t s → Cause counted w t s
cause_tied counted p w is tied heard t s k =
    let h = marked p.ended p.refused s.ended s.refused is k.ended in
    Cause.tied h.0 h.1 (heard t s k) (subst (λ (n : ℕ). has_process_tied n w.queue ≡ true) (sym k.talk_number) tied)

pub cause_ended : (counted : LinksNote) (p : Peer) (w : World) → p.ended ≡ true → ((t : Talk) (s : Session) → Keeps counted p t s → HeardAll w t s)
    → ((t : Talk) (s : Session) → Keeps counted p t s → WorkedOff counted w t s) → (t : Talk) (s : Session) → Keeps counted p t s → Cause counted w t s
cause_ended counted p w is heard worked t s k =
    let h = marked p.ended p.refused s.ended s.refused is k.ended in
    Cause.ended h.0 h.1 (heard t s k) (worked t s k)

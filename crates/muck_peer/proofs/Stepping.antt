-- The steps of one link.
use Rattle.std.proofs.Common.{◌≡◌, ℕ, ◌≤◌, Bool, true, false, List, [], ◌∷◌, take, drop, length, refl, sym, ap, ◌∙◌, subst, arith}
use Rattle.std.specs.Prelude.{if◌then◌else◌, not, ◌&&◌, is_some}
use Rattle.muck_links.specs.inner.Cutting.{Cut, Rest, fed}
use Rattle.muck_links.specs.Sessions.{LinksTold, on_session, with_read, with_end, with_fault, with_written, with_refusal}
use Rattle.muck_model.specs.declared.event.Event.TheVariants.{Input, Closed, Take}
use Rattle.spec_live.specs.Connections.{is_ready}
use Rattle.spec_events.specs.World.{World, queue_of}
use Rattle.spec_events.specs.Steps.{passes, is_lawful}
use Rattle.spec_events.specs.Histories.{by_porter}
use Rattle.spec_serve.specs.Marks.{LinksNote}
use Rattle.spec_serve.specs.inner.Keeping.{Peer}
use Rattle.spec_serve.proofs.Accounting.{keeps_read, keeps_end, keeps_fault, keeps_written, keeps_refusal, agrees_read}
use Rattle.spec_serve.proofs.Causes.{worked_done}
use Rattle.muck_peer.specs.declared.steps.Want.{Want}
use Rattle.muck_peer.specs.declared.steps.Want.TheVariants.{Close, Time}
use Rattle.muck_peer.specs.Moves.{LinkStep, LinkLoss, PeerStep, IsWorkedOff, HasCause, IsWanted}

-- Calls of the links.

pub link_same : (counted : LinksNote) (p : Peer) (k k' : LinksTold) → k' ≡ on_session p.number (λ s. s) k → LinkStep counted p p k k'
link_same counted p k k' is = record { change = λ s. s; told = is; link = λ s. refl; refuses = λ s. omega arith; number = refl; keeps = λ t s h. h }

pub link_read : (counted : LinksNote) (v p p' : Peer) (k k' : LinksTold) (bytes : List ℕ) (c : Cut) → v ≡ p → k' ≡ on_session v.number (with_read bytes) k → c ≡ fed v.cut bytes → p' ≡ record v { cut = c }
    → LinkStep counted p p' k k'
link_read counted v p p' k k' bytes c view is cut same = subst (λ (q : Peer). LinkStep counted q p' k k') view (subst (λ (q : Peer). LinkStep counted v q k k') (sym same)
    (record { change = with_read bytes; told = is; link = λ s. refl; refuses = λ s. omega arith; number = refl; keeps = λ t s h. keeps_read counted v t s bytes c cut h }))

pub link_end : (counted : LinksNote) (v p p' : Peer) (k k' : LinksTold) → v ≡ p → k' ≡ on_session v.number with_end k → p' ≡ record v { ended = true } → LinkStep counted p p' k k'
link_end counted v p p' k k' view is same = subst (λ (q : Peer). LinkStep counted q p' k k') view (subst (λ (q : Peer). LinkStep counted v q k k') (sym same)
    (record { change = with_end; told = is; link = λ s. refl; refuses = λ s. omega arith; number = refl; keeps = λ t s h. keeps_end counted v t s h }))

pub link_fault : (counted : LinksNote) (v p p' : Peer) (k k' : LinksTold) → v ≡ p → k' ≡ on_session v.number with_fault k → p' ≡ record v { faulted = true } → LinkStep counted p p' k k'
link_fault counted v p p' k k' view is same = subst (λ (q : Peer). LinkStep counted q p' k k') view (subst (λ (q : Peer). LinkStep counted v q k k') (sym same)
    (record { change = with_fault; told = is; link = λ s. refl; refuses = λ s. omega arith; number = refl; keeps = λ t s h. keeps_fault counted v t s h }))

pub link_written : (counted : LinksNote) (v p p' : Peer) (k k' : LinksTold) (n : ℕ) → v ≡ p → k' ≡ on_session v.number (with_written (take n v.unsent)) k → p' ≡ record v { unsent = drop n v.unsent }
    → LinkStep counted p p' k k'
link_written counted v p p' k k' n view is same = subst (λ (q : Peer). LinkStep counted q p' k k') view (subst (λ (q : Peer). LinkStep counted v q k k') (sym same)
    (record { change = with_written (take n v.unsent); told = is; link = λ s. refl; refuses = λ s. omega arith; number = refl; keeps = λ t s h. keeps_written counted v t s n h }))

pub link_refused : (counted : LinksNote) (noted : Bool) (v p p' : Peer) (k k' : LinksTold) → is_some counted ≡ noted → v ≡ p → k' ≡ on_session v.number with_refusal k
    → p' ≡ record v { refused = v.ended; stalled = noted } → LinkStep counted p p' k k'
link_refused counted noted v p p' k k' marks view is same =
    subst (λ (q : Peer). LinkStep counted q p' k k') view (subst (λ (q : Peer). LinkStep counted v q k k') (sym (same ∙ ap (λ (b : Bool). let q : Peer = record v { refused = v.ended; stalled = b } in q) (sym marks)))
    (record { change = with_refusal; told = is; link = λ s. refl; refuses = λ s. omega arith; number = refl; keeps = λ t s h. keeps_refusal counted v t s h }))

pub link_lost : (counted : LinksNote) (v p : Peer) (k k' : LinksTold) (bytes : List ℕ) → v ≡ p → k' ≡ on_session v.number (with_read bytes) k → LinkLoss counted p k k'
link_lost counted v p k k' bytes view is = subst (λ (q : Peer). LinkLoss counted q k k') view (record { change = with_read bytes; told = is; link = λ s. refl; refuses = λ s. omega arith; agrees = λ t s h. agrees_read counted v t s bytes h })

-- Bytes that are kept.

-- Entries.

pub step_taken : (v p p' : Peer) (w : World) (n : ℕ) → v ≡ p → p.unsent ≡ [] → p' ≡ record v { unsent = take n (queue_of v.number w) } → PeerStep p p' w (Take v.number n)
step_taken v p p' w n view none_kept same =
    subst (λ (q : Peer). PeerStep q p' w (Take v.number n)) view (PeerStep.taken n refl (ap (λ (q : Peer). q.unsent) view ∙ none_kept) same)

pub step_heard : (v p p' : Peer) (w : World) (line : List ℕ) (c : Cut) → v ≡ p → v.cut.ready ≡ line ∷ c.ready → c.rest ≡ v.cut.rest → p' ≡ record v { cut = c } → PeerStep p p' w (Input v.number line)
step_heard v p p' w line c view ready rest same =
    subst (λ (q : Peer). PeerStep q p' w (Input v.number line)) view
    (PeerStep.heard line c.ready refl ready (same ∙ ap (λ (r : Rest). let q : Peer = record v { cut = record { ready = c.ready; rest = r } } in q) rest))

-- Tests.

-- What is worked off.

pub off_stopping : (p : Peer) (w : World) → w.stopping ≡ true → length (queue_of p.number w) ≤ 0 → p.unsent ≡ [] → IsWorkedOff p w
off_stopping p w stopping queue none_kept counted = worked_done counted p w (from (passes is_ready p.number w) w.stopping stopping) queue none_kept
  where
    from : (a b : Bool) → b ≡ true → (a && not b) ≡ false
    from true b e = ap not e
    from false b e = refl

pub off_idle : (p : Peer) (w : World) → passes is_ready p.number w ≡ false → length (queue_of p.number w) ≤ 0 → p.unsent ≡ [] → IsWorkedOff p w
off_idle p w idle queue none_kept counted = worked_done counted p w (ap (λ (b : Bool). b && not w.stopping) idle) queue none_kept

-- where there is a cause to close it
pub ending_wanted : (there : Bool) (p : Peer) (w : World) → is_lawful w (by_porter (Closed p.number)) ≡ there → HasCause p w → IsWanted (if there then Close else Time) p w
ending_wanted true p w is cause = (is, cause)
ending_wanted false p w is cause = tt

-- what is wanted, by another name
pub wanted_as : (want other : Want) (p : Peer) (w : World) → want ≡ other → IsWanted want p w → IsWanted other p w
wanted_as want other p w is i = subst (λ (x : Want). IsWanted x p w) is i

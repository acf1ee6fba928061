-- Lines of a script that close a connection, or let time pass; and that no line does what a dump does.
use Rattle.std.proofs.Common.{◌≡◌, ℕ, Bool, true, false, cond, List, [], refl, sym, ◌∙◌, ap, Option, Result}
use Rattle.std.specs.Prelude.{is_some}
use Rattle.std.proofs.lemmas.Bool.{cond-true, cond-false}
use Rattle.muck_model.specs.declared.event.Event.{Event}
use Rattle.muck_model.specs.declared.event.Event.TheVariants.{Closed, Moment}
use Rattle.spec_events.specs.Logged.{is_dump}
use Rattle.spec_dumps.specs.inner.Holding.{Quietly}
use Rattle.spec_dumps.proofs.Quiet.{quiet_nothing, quiet_one}
use Rattle.spec_events.specs.World.{World, connection, is_leaving}
use Rattle.spec_events.specs.Steps.{is_lawful}
use Rattle.spec_events.specs.Histories.{History, now, entered, by_porter}
use Rattle.spec_events.proofs.Reached.{close_lawful}
use Rattle.muck_script.specs.declared.act.Act.TheVariants.{Close, Wait}
use Rattle.muck_script.specs.Story.{Dumped, plain_part, if_lawful, acted, moment_later, connection_parted, event_told}
use Rattle.muck_run.specs.declared.playing.RunFault.{RunFault}
use Rattle.muck_run.specs.inner.Plays.{Plays, PlaysOrBreaks}
use Rattle.muck_run.proofs.Parts.{appends_nothing, plays_nothing, plays_one, plays_as}

closed_silent : (d : ℕ) (w : World) → is_leaving d w ≡ false → event_told w (Closed d) ≡ []
unfolding event_told
closed_silent d w e = cond-false _ _ _ e

moment_silent : (t : ℕ) (w : World) → event_told w (Moment t) ≡ []
unfolding event_told
moment_silent t w = refl

-- a connection may be closed where it is there
pub closed_where : (w : World) (d : ℕ) → w.dead ≡ false → is_lawful w (by_porter (Closed d)) ≡ is_some (connection d w)
unfolding is_lawful
closed_where w d alive = cond-false _ _ _ alive

pub plays_wait : (h k : History) (o : Option (List ℕ)) (seconds t : ℕ) → t ≡ moment_later seconds (now h) → (now h).dead ≡ false → is_lawful (now h) (by_porter (Moment t)) ≡ true →
    k ≡ entered h (by_porter (Moment t)) → Plays (plain_part (acted (Wait seconds))) h k o o
plays_wait h k o seconds t is alive lawful step =
    plays_one (plain_part (acted (Wait seconds))) h k o o (Moment t) [] (λ os. ap (λ u. if_lawful (Moment u) (now h)) (sym is) ∙ cond-true _ _ _ lawful)
    step refl alive (sym (moment_silent t (now h))) (appends_nothing o)

-- one that stays is closed, and nothing is written
pub plays_close : (h k : History) (o : Option (List ℕ)) (d : ℕ) → (now h).dead ≡ false → is_leaving d (now h) ≡ false → is_lawful (now h) (by_porter (Closed d)) ≡ true →
    k ≡ entered h (by_porter (Closed d)) → Plays (plain_part (acted (Close d))) h k o o
plays_close h k o d alive stays lawful step =
    plays_one (plain_part (acted (Close d))) h k o o (Closed d) [] (λ os. cond-true _ _ _ lawful) step refl alive (sym (closed_silent d (now h) stays)) (appends_nothing o)

-- there is none
pub plays_no_close : (h : History) (o : Option (List ℕ)) (d : ℕ) → (now h).dead ≡ false → is_some (connection d (now h)) ≡ false → Plays (plain_part (acted (Close d))) h h o o
plays_no_close h o d alive gone =
    plays_nothing (plain_part (acted (Close d))) h h o (λ os. cond-false _ _ _ (closed_where (now h) d alive ∙ gone)) refl alive

-- one that is leaving is closed as it would be anyway
pub plays_parting : {T : Type 0} (h k : History) (a b : Option (List ℕ)) (r : Result T RunFault) (d : ℕ) → (now h).dead ≡ false → is_leaving d (now h) ≡ true →
    PlaysOrBreaks (plain_part (connection_parted d)) h k a b r → PlaysOrBreaks (plain_part (acted (Close d))) h k a b r
plays_parting h k a b r d alive leaving =
    plays_as (plain_part (connection_parted d)) (plain_part (acted (Close d))) h k a b r
    (λ (os : List Dumped). cond-true _ _ _ (close_lawful (now h) d alive leaving) ∙ sym (cond-true _ _ _ leaving))

-- an event that may be unlawful
pub quiet_if : (event : Event) (h k : History) (may : Bool) → is_dump event ≡ false → k ≡ cond may (entered h (by_porter event)) h → Quietly h k
quiet_if event h k true other is = quiet_one h k (by_porter event) other is
quiet_if event h k false other is = quiet_nothing h k is

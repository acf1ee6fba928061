-- What `append` makes of what it prepared.
use Rattle.std.proofs.Common.{◌≡◌, ℕ, ◌≤◌, Bool, true, false, cond, List, length, Some, Ok, sym, ◌∙◌, ap, subst, arith}
use Rattle.muck_disk.specs.Images.{Only}
use Rattle.muck_log.specs.World.{StoredWorld, laid}
use Rattle.muck_log.specs.File.{after_number}
use Rattle.muck_log.specs.Store.{Chosen, LogState, IsMounted, MayBeAt, IsDone, store_of, must_close, opens_new, target, next_body, after_batch, framed, pick}
use Rattle.muck_log.specs.Append.{IsEither, IsTarget, IsReady, IsFinished, IsNext, more_of}
use Rattle.muck_log.specs.declared.log.Target.{Target}
use Rattle.muck_log.specs.declared.log.Ready.{Ready}
use Rattle.muck_log.proofs.Files.{body_length}
use Rattle.muck_log.proofs.Stores.{Fits}
use Rattle.muck_log.proofs.Mounted.{laid_long, number_fits, within_target, close_target, may_stored, done_stored, close_after, other_after}

pub place_within : (log : LogState) (a b : List ℕ) (t : Target) → IsTarget log t → store_of a b ≡ Ok log.chosen → t.place ≤ length (pick t.second a b)
place_within log a b t goes e = subst (λ at. t.place ≤ length (pick at a b)) (sym goes.second) (omega (arith, goes.place, within_target a b log.chosen e))

pub close_is : (log : LogState) (a b : List ℕ) (t : Target) → IsTarget log t → log.close ≡ must_close log.chosen.place (pick log.chosen.second a b) → log.other_close ≡ must_close 0 (pick log.chosen.second b a)
    → t.close ≡ must_close t.place (pick t.second a b)
close_is log a b t goes close other =
    goes.close ∙ close_target a b log.chosen log.close log.other_close close other
    ∙ ap (λ k. must_close k (pick (target log.chosen).second a b)) (sym goes.place) ∙ ap (λ at. must_close t.place (pick at a b)) (sym goes.second)

pub fits_ready : (old new : LogState) (payload : List ℕ) (ready : Ready) (w : StoredWorld) → IsReady old new payload ready → laid payload (target old.chosen).held.world ≡ Some w → Fits (target old.chosen) old.chosen payload w
unfolding more_of next_body
fits_ready old new payload ready w r e = record {
  generation = omega (arith, r.goes.generation, r.wide);
  number = number_fits old.chosen.held.number;
  long = laid_long payload (target old.chosen).held.world w e;
  short = omega (arith, r.room, r.small, body_length (target old.chosen).held.generation (after_number old.chosen.held.number) payload);
  makes = e;
}

pub may_ready : (old new : LogState) (payload : List ℕ) (ready : Ready) (w : StoredWorld) (a b c d : List ℕ) → IsReady old new payload ready → laid payload (target old.chosen).held.world ≡ Some w → store_of a b ≡ Ok old.chosen
    → MayBeAt ready.target.second ready.target.place ready.tail.items a b c d → IsEither old.chosen (after_batch old.chosen payload w) (store_of c d)
may_ready old new payload ready w a b c d r e load may =
    may_stored a b old.chosen load payload w (fits_ready old new payload ready w r e) c d
    (subst (λ at. MayBeAt at (target old.chosen).place (framed (next_body old.chosen payload)) a b c d) r.goes.second
    (subst (λ k. MayBeAt ready.target.second k (framed (next_body old.chosen payload)) a b c d) r.goes.place
    (subst (λ l. MayBeAt ready.target.second ready.target.place l a b c d) r.tail may)))

pub chosen_is : (old new last : LogState) (payload : List ℕ) (ready : Ready) → IsReady old new payload ready → IsFinished new last ready.target ready.number ready.size
    → last.chosen ≡ after_batch old.chosen payload new.chosen.held.world
unfolding after_batch
chosen_is old new last payload ready r fin =
    let c = ap (λ (l : LogState). l.chosen) fin in
    let e1 = r.goes.second in
    let e2 = r.goes.place in
    let e3 = r.goes.generation in
    let e4 = r.goes.count in
    let e5 = r.number in
    let e6 = r.size in
    cc

pub next_after : (old new last : LogState) (payload : List ℕ) (ready : Ready) → IsReady old new payload ready → IsFinished new last ready.target ready.number ready.size → IsNext old last payload
next_after old new last payload ready r fin =
    let world : new.chosen.held.world ≡ last.chosen.held.world = sym (ap (λ (l : LogState). l.chosen.held.world) fin) in
    record {
      makes = r.lays.world ∙ ap (λ w. Some w) world;
      chosen = chosen_is old new last payload ready r fin ∙ ap (after_batch old.chosen payload) world;
      fresh = ap (λ (l : LogState). l.stale) fin ∙ ap (λ (l : LogState). l.stale) r.lays.rest ∙ r.fresh;
      limit = ap (λ (l : LogState). l.most) fin ∙ ap (λ (l : LogState). l.most) r.lays.rest;
    }

module _ {D : Type 0} (seen : D → List ℕ) (moment : D → ℕ) (images : D → ℕ → List ℕ → Type 0) where
  pub mounted_after : (old new last : LogState) (payload : List ℕ) (ready : Ready) (first second first' second' : D) → IsReady old new payload ready → IsFinished new last ready.target ready.number ready.size
      → IsMounted seen moment images old first second
      → IsDone ready.target.place ready.tail.items (pick ready.target.second (seen first) (seen second)) (pick ready.target.second (seen first') (seen second'))
      → pick ready.target.second second' first' ≡ pick ready.target.second second first
      → Only (seen first') (images first' (moment first')) → Only (seen second') (images second' (moment second'))
      → IsMounted seen moment images last first' second'
  mounted_after old new last payload ready first second first' second' r fin m did other first_durable second_durable =
      let w = new.chosen.held.world in
      let a = seen first in
      let b = seen second in
      let c = seen first' in
      let d = seen second' in
      let s = old.chosen in
      let is : last.chosen ≡ after_batch s payload w = chosen_is old new last payload ready r fin in
      let did_there : IsDone (target s).place (framed (next_body s payload)) (pick (target s).second a b) (pick (target s).second c d) =
      subst (λ at. IsDone (target s).place (framed (next_body s payload)) (pick at a b) (pick at c d)) r.goes.second
      (subst (λ k. IsDone k (framed (next_body s payload)) (pick ready.target.second a b) (pick ready.target.second c d)) r.goes.place
      (subst (λ l. IsDone ready.target.place l (pick ready.target.second a b) (pick ready.target.second c d)) r.tail did)) in
      let same : pick (target s).second d c ≡ pick (target s).second b a = subst (λ at. pick at d c ≡ pick at b a) r.goes.second (same_seen ready.target.second first second first' second' other) in
      let rest : new.other_close ≡ old.other_close = ap (λ (l : LogState). l.other_close) r.lays.rest in
      record {
        fresh = ap (λ (l : LogState). l.stale) fin ∙ ap (λ (l : LogState). l.stale) r.lays.rest ∙ r.fresh;
        load = done_stored a b s m.load payload w (fits_ready old new payload ready w r r.lays.world) c d did_there same ∙ ap (λ (x : Chosen). Ok x) (sym is);
        close = ap (λ (l : LogState). l.close) fin ∙ close_after a b s payload w m.load c d did_there ∙ ap (λ (x : Chosen). must_close x.place (pick x.second c d)) (sym is);
        other_close = ap (λ (l : LogState). l.other_close) fin ∙ ap (λ t. cond t true new.other_close) r.goes.opens ∙ ap (cond (opens_new s.held) true) rest
            ∙ other_after a b s payload w old.other_close m.load c d m.other_close same ∙ ap (λ (x : Chosen). must_close 0 (pick x.second d c)) (sym is);
        first_durable = first_durable;
        second_durable = second_durable;
      }
    where
      same_seen : (at : Bool) (f s f' s' : D) → pick at s' f' ≡ pick at s f → pick at (seen s') (seen f') ≡ pick at (seen s) (seen f)
      same_seen true f s f' s' e = ap seen e
      same_seen false f s f' s' e = ap seen e

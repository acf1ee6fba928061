-- What the log answers to a batch that makes a whole world.
use Rattle.std.proofs.Common.{◌≡◌, ◌⊎◌, inl, inr, ℕ, ◌+◌, ◌≤◌, List, [], ◌∷◌, length, sym, ap, subst, ◌∙◌, arith, Option, Some, None, Result, Ok, Err}
use Rattle.muck_codec.specs.declared.stored.Batch.{Batch}
use Rattle.muck_log.specs.World.{StoredWorld as Kept, laid}
use Rattle.muck_log.specs.Store.{Chosen, LogState, LeavesBoth, IsMounted, target, after_batch, store_of}
use Rattle.muck_log.specs.Append.{IsAppended, IsNext, IsTouching, LoadsEither, more_of, payload_of}
use Rattle.muck_log.specs.declared.fault.LogFault.{LogFault}
use Rattle.muck_log.specs.declared.fault.LogFault.TheVariants.{NoMemory, DiskFault, Damaged, StoreFull, Stale}
use Rattle.spec_live.specs.Objects.{Entry, object_in, kind_in}
use Rattle.spec_live.specs.Consistent.{IsConsistent}
use Rattle.muck_dumping.specs.inner.Dumps.{Appended}

-- a consistent world has Room Zero and One
pub two_there : (es : List Entry) → IsConsistent es → 2 ≤ length es
unfolding kind_in object_in
two_there [] is = let first = is.first in cc
two_there (e ∷ []) is = let first = is.first in cc
two_there (e ∷ f ∷ es) is = omega arith

module _ {D : Type 0} (seen : D → List ℕ) (moment : D → ℕ) (images : D → ℕ → List ℕ → Type 0) where
  -- nothing was called: what a crash leaves loads as the store that was mounted
  stays : (log : LogState) (f s : D) (x : Chosen) → IsMounted seen moment images log f s → LeavesBoth moment images f s f s (LoadsEither log.chosen x)
  stays log f s x m = record {
    first_later = omega arith;
    second_later = omega arith;
    first_kept = λ t c low left. left;
    second_kept = λ t c low left. left;
    first_stays = λ t c low left. left;
    second_stays = λ t c low left. left;
    each = λ t u c d t_low t_high u_low u_high left_c left_d. inl (loads c d (at t c t_low t_high left_c) (at_second u d u_low u_high left_d));
  }
    where
      at : (t : ℕ) (c : List ℕ) → moment f ≤ t → t ≤ moment f → images f t c → images f (moment f) c
      at t c low high left = let same : t ≡ moment f = omega arith in rw (← same) left

      at_second : (t : ℕ) (c : List ℕ) → moment s ≤ t → t ≤ moment s → images s t c → images s (moment s) c
      at_second t c low high left = let same : t ≡ moment s = omega arith in rw (← same) left

      loads : (c d : List ℕ) → images f (moment f) c → images s (moment s) d → store_of c d ≡ Ok log.chosen
      loads c d left_c left_d = ap (λ x. store_of x d) (m.first_durable c left_c) ∙ ap (λ y. store_of (seen f) y) (m.second_durable d left_d) ∙ m.load

  stays_as : (log : LogState) (f s f' s' : D) (x : Chosen) → IsMounted seen moment images log f s → f' ≡ f → s' ≡ s → LeavesBoth moment images f s f' s' (LoadsEither log.chosen x)
  stays_as log f s f' s' x m e g =
      subst (λ (a : D). LeavesBoth moment images f s a s' (LoadsEither log.chosen x)) (sym e)
      (subst (λ (b : D). LeavesBoth moment images f s f b (LoadsEither log.chosen x)) (sym g) (stays log f s x m))

  module _ (log new : LogState) (f s f' s' : D) (batch : Batch) (made : Kept) (m : IsMounted seen moment images log f s)
      (any : (w : Kept) → laid (payload_of log batch) (target log.chosen).held.world ≡ Some w → LeavesBoth moment images f s f' s' (LoadsEither log.chosen (after_batch log.chosen (payload_of log batch) w)))
      (payload : List ℕ) (same : payload_of log batch ≡ payload) where
    abbrev Said : List ℕ → Option LogState → Result (Unit {0}) LogFault → Type 0
    Said bytes left r = Appended seen moment images bytes made log left f s f' s' r

    abbrev Made : Type 0
    Made = laid (payload_of log batch) (target log.chosen).held.world ≡ Some made

    pub appended_ok : (left : Option LogState) → left ≡ Some new → Made → IsNext log new (payload_of log batch) → IsMounted seen moment images new f' s' → (target log.chosen).place + more_of log (payload_of log batch) ≤ log.most → Said payload left (Ok tt)
    appended_ok left is makes next there fits =
        let said : Said (payload_of log batch) left (Ok tt) = record { any = any made makes; answer = (new, is, next, there, makes, fits) } in
        subst (λ bytes. Said bytes left (Ok tt)) same said

    untouched : (fault : LogFault) → (IsTouching (Err fault) → ⊥) → IsTouching (Err fault) ⊎ ((f' ≡ f) × (s' ≡ s)) → LeavesBoth moment images f s f' s' (LoadsEither log.chosen (after_batch log.chosen (payload_of log batch) made))
    untouched fault none e = elim e [ inl touched ↦ absurd (none touched) | inr same ↦ stays_as log f s f' s' _ m same.0 same.1 ]

    -- it still stands on the disks
    still : (fault : LogFault) → (IsTouching (Err fault) → ⊥) → IsTouching (Err fault) ⊎ ((f' ≡ f) × (s' ≡ s)) → IsMounted seen moment images log f' s'
    still fault none e = elim e [
      | inl touched ↦ absurd (none touched)
      | inr same ↦ subst (λ (x : D). IsMounted seen moment images log x s') (sym same.0) (subst (λ (y : D). IsMounted seen moment images log f y) (sym same.1) m)
    ]

    refused : (fault : LogFault) (left : Option LogState) → left ≡ None → IsAppended log new batch (Err fault) → IsTouching (Err fault) ⊎ ((f' ≡ f) × (s' ≡ s)) → (IsTouching (Err fault) → Made) → Said (payload_of log batch) left (Err fault)
    refused NoMemory left is said e makes = record { any = untouched NoMemory (λ t. t) e; answer = is }
    refused DiskFault left is said e makes = record { any = any made (makes tt); answer = is }
    refused (Damaged second at) left is said e makes = absurd said
    refused (StoreFull end more) left is said e makes = record { any = untouched (StoreFull end more) (λ t. t) e; answer = (is, said.1, said.2, said.3, still (StoreFull end more) (λ t. t) e) }
    refused Stale left is said e makes = let fresh = m.fresh in let stale = said.0 in cc

    pub appended_err : (fault : LogFault) (left : Option LogState) → left ≡ None → IsAppended log new batch (Err fault) → IsTouching (Err fault) ⊎ ((f' ≡ f) × (s' ≡ s)) → (IsTouching (Err fault) → Made) → Said payload left (Err fault)
    appended_err fault left is said e makes = subst (λ bytes. Said bytes left (Err fault)) same (refused fault left is said e makes)

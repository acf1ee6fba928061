-- Who did what, where a party does one thing more.
use Rattle.std.proofs.Common.{◌≡◌, ◌⊎◌, inl, inr, ℕ, zero, suc, Bool, true, false, List, [], ◌∷◌, ◌++◌, map, refl, sym, ap, ◌∙◌, subst, arith, append_assoc, eq-eqb, eqb-true, Option, Some, None}
use Rattle.std.specs.Prelude.{◌==◌, if◌then◌else◌, slice_get, is_some}
use Rattle.std.specs.Option.{option_and_then}
use Rattle.std.proofs.lemmas.List.{append-nil}
use Rattle.std.proofs.lemmas.Option.{none-some, same_Some}
use Rattle.muck_laws.proofs.Truths.{not_so}
use Rattle.turn_lock.specs.Histories.{entry_kept, own_of}
use Rattle.turn_lock.proofs.Parts.{own_append}
use Rattle.muck_model.specs.declared.event.Entry.{Entry}
use Rattle.muck_model.specs.declared.event.Event.{Event}
use Rattle.muck_model.specs.declared.event.Event.TheVariants.{Cut, Stored, DumpFailed, StopSeen, Died}
use Rattle.spec_events.specs.Histories.{by_porter}
use Rattle.spec_events.specs.Own.{Stage, next_stage, stage_of, IsWellFormed, is_last, IsPartyOver}
use Rattle.spec_events.proofs.Owning.{stage_one, stage_more, well_formed, over_with, over_stop}
use Rattle.spec_talks.specs.Parties.{party_of}
use Rattle.muck_crew.specs.inner.Dumps.{by}
use Rattle.muck_crew.specs.Shared.{IsParty, events_done_by, IsShared, IsThrough, AllOver, EndsStopped}
use Rattle.muck_server.specs.Served.{IsLast}

-- What each party did, with one entry more.

events_append : (xs ys : List Entry) → map (λ (e : Entry). e.event) (xs ++ ys) ≡ map (λ (e : Entry). e.event) xs ++ map (λ (e : Entry). e.event) ys
events_append [] ys = refl
events_append (x ∷ xs) ys = ap (λ (l : List Event). x.event ∷ l) (events_append xs ys)

done_one : (q p : ℕ) (tale : List Entry) (event : Event) → events_done_by q (tale ++ by p event ∷ []) ≡ events_done_by q tale ++ map (λ (e : Entry). e.event) (entry_kept (p == q) (by p event) [])
done_one q p tale event =
    ap (λ (es : List Entry). map (λ (e : Entry). e.event) es) (own_append party_of q tale (by p event ∷ []))
    ∙ events_append (own_of party_of q tale) (entry_kept (p == q) (by p event) [])

pub done_same : (p : ℕ) (tale : List Entry) (event : Event) → events_done_by p (tale ++ by p event ∷ []) ≡ events_done_by p tale ++ event ∷ []
done_same p tale event = done_one p p tale event ∙ ap (λ (b : Bool). events_done_by p tale ++ map (λ (e : Entry). e.event) (entry_kept b (by p event) [])) (eq-eqb p p refl)

done_other : (q p : ℕ) (tale : List Entry) (event : Event) → (p == q) ≡ false → events_done_by q (tale ++ by p event ∷ []) ≡ events_done_by q tale
done_other q p tale event other =
    done_one q p tale event ∙ ap (λ (b : Bool). events_done_by q tale ++ map (λ (e : Entry). e.event) (entry_kept b (by p event) [])) other ∙ append-nil (events_done_by q tale)

known_one : (workers : ℕ) (tale : List Entry) (e : Entry) → IsParty workers e.party → ((i : ℕ) (x : Entry) → slice_get tale i ≡ Some x → IsParty workers x.party)
    → (i : ℕ) (x : Entry) → slice_get (tale ++ e ∷ []) i ≡ Some x → IsParty workers x.party
known_one workers [] e is all zero x at = subst (λ (y : Entry). IsParty workers y.party) (same_Some e x at) is
known_one workers [] e is all (suc i) x at = absurd (none-some x at)
known_one workers (t ∷ tale) e is all zero x at = all 0 x at
known_one workers (t ∷ tale) e is all (suc i) x at = known_one workers tale e is (λ j y there. all (suc j) y there) i x at

-- The history is shared so far, and this is what that party did last.
pub record At (workers p : ℕ) (stage : Stage) (tale : List Entry) : Type 0 where
  pub shared : IsShared workers tale
  pub stage_is : stage_of p (events_done_by p tale) ≡ Some stage

shared_one : (workers p : ℕ) (tale : List Entry) (event : Event) → IsParty workers p → IsWellFormed p (events_done_by p tale ++ event ∷ []) → IsShared workers tale → IsShared workers (tale ++ by p event ∷ [])
shared_one workers p tale event is formed s = record {
  known = known_one workers tale (by p event) is s.known;
  own = λ q q_is. from q q_is (p == q) refl;
}
  where
    from : (q : ℕ) → IsParty workers q → (b : Bool) → (p == q) ≡ b → IsWellFormed q (events_done_by q (tale ++ by p event ∷ []))
    from q q_is true e = subst (λ (r : ℕ). IsWellFormed r (events_done_by r (tale ++ by p event ∷ []))) (eqb-true p q e) (subst (IsWellFormed p) (sym (done_same p tale event)) formed)
    from q q_is false e = subst (IsWellFormed q) (sym (done_other q p tale event e)) (s.own q q_is)

pub at_more : (workers p : ℕ) (tale : List Entry) (event : Event) (stage later : Stage) → IsParty workers p → next_stage p stage event ≡ Some later → At workers p stage tale → At workers p later (tale ++ by p event ∷ [])
at_more workers p tale event stage later is may a =
    let goes = stage_more p (events_done_by p tale) event stage later a.stage_is may in record {
      shared = shared_one workers p tale event is (well_formed p (events_done_by p tale ++ event ∷ []) later goes) a.shared;
      stage_is = ap (stage_of p) (done_same p tale event) ∙ goes;
    }

-- What was done is over.

pub through_same : (q p : ℕ) (tale : List Entry) (event : Event) → (p == q) ≡ false → IsThrough q tale → IsThrough q (tale ++ by p event ∷ [])
through_same q p tale event other t = subst (λ (es : List Event). (es ≡ []) ⊎ IsPartyOver q es) (sym (done_other q p tale event other)) t

-- what all others than that party did
abbrev pub OthersOver : ℕ → ℕ → List Entry → Type 0
OthersOver workers p tale = (q : ℕ) → IsParty workers q → (p == q) ≡ false → IsThrough q tale

pub others_more : (workers p : ℕ) (tale : List Entry) (event : Event) → OthersOver workers p tale → OthersOver workers p (tale ++ by p event ∷ [])
others_more workers p tale event others q is other = through_same q p tale event other (others q is other)

pub all_over : (workers p : ℕ) (stage : Stage) (tale : List Entry) → At workers p stage tale → is_last stage ≡ true → OthersOver workers p tale → AllOver workers tale
all_over workers p stage tale a last others q is = from (p == q) refl
  where
    from : (b : Bool) → (p == q) ≡ b → IsThrough q tale
    from true e = subst (λ (r : ℕ). IsThrough r tale) (eqb-true p q e) (inr (over_with p (events_done_by p tale) stage a.stage_is last))
    from false e = others q is e

-- each party saw the stop
pub stopped_over : (workers : ℕ) (tale : List Entry) → IsShared workers tale → ((party : ℕ) → IsParty workers party → EndsStopped party tale) → AllOver workers tale
stopped_over workers tale s last q is =
    let e = last q is in
    inr (subst (IsPartyOver q) (sym e.1) (over_stop q e.0 (subst (IsWellFormed q) e.1 (s.own q is))))

-- nothing was done yet
pub at_first : (workers p : ℕ) → At workers p Stage.unbound []
unfolding stage_of
at_first workers p = record { shared = record { known = λ i x at. absurd (none-some x at); own = λ q q_is. refl }; stage_is = refl }

pub none_first : (workers p : ℕ) → OthersOver workers p []
none_first workers p q is other = inl refl

-- The stop.

porter_stop : (stage : Option Stage) → is_some (option_and_then (λ s. next_stage 0 s StopSeen) stage) ≡ true → option_and_then (λ s. next_stage 0 s StopSeen) stage ≡ Some Stage.stopped
porter_stop None h = not_so h
porter_stop (Some Stage.unbound) h = refl
porter_stop (Some Stage.timed) h = refl
porter_stop (Some (Stage.claimed pid)) h = not_so h
porter_stop (Some (Stage.dumping k)) h = not_so h
porter_stop (Some Stage.stopped) h = not_so h
porter_stop (Some Stage.finished) h = not_so h
porter_stop (Some Stage.ended) h = not_so h

dumper_stop : (stage : Option Stage) → is_some (option_and_then (λ s. next_stage 9 s StopSeen) stage) ≡ true → option_and_then (λ s. next_stage 9 s StopSeen) stage ≡ Some Stage.stopped
dumper_stop None h = not_so h
dumper_stop (Some Stage.unbound) h = refl
dumper_stop (Some Stage.timed) h = not_so h
dumper_stop (Some (Stage.claimed pid)) h = not_so h
dumper_stop (Some (Stage.dumping k)) h = not_so h
dumper_stop (Some Stage.stopped) h = not_so h
dumper_stop (Some Stage.finished) h = not_so h
dumper_stop (Some Stage.ended) h = not_so h

stop_from : (workers p : ℕ) (tale : List Entry) → ((stage : Option Stage) → is_some (option_and_then (λ s. next_stage p s StopSeen) stage) ≡ true → option_and_then (λ s. next_stage p s StopSeen) stage ≡ Some Stage.stopped)
    → IsParty workers p → IsShared workers tale → EndsStopped p tale → At workers p Stage.stopped tale
stop_from workers p tale stops is s (own, ends) = record {
  shared = s;
  stage_is = ap (stage_of p) ends ∙ stage_one p own StopSeen ∙ stops (stage_of p own) (sym (ap is_some (ap (stage_of p) ends ∙ stage_one p own StopSeen)) ∙ s.own p is);
}

-- whoever is the first party, or the dumper
pub first_is : (workers : ℕ) → IsParty workers 0
first_is workers = inl (omega arith)

pub dumper_is : (workers : ℕ) → IsParty workers 9
dumper_is workers = inr refl

pub porter_stopped : (workers : ℕ) (tale : List Entry) → IsShared workers tale → EndsStopped 0 tale → At workers 0 Stage.stopped tale
porter_stopped workers tale = stop_from workers 0 tale porter_stop (first_is workers)

pub dumper_stopped : (workers : ℕ) (tale : List Entry) → IsShared workers tale → EndsStopped 9 tale → At workers 9 Stage.stopped tale
dumper_stopped workers tale = stop_from workers 9 tale dumper_stop (dumper_is workers)

-- The last dump.

ends_dump : (k : ℕ) (done : Bool) → next_stage 0 (Stage.dumping k) (if done then Stored k else DumpFailed k) ≡ Some Stage.finished
ends_dump k true = ap (λ (b : Bool). if b then Some Stage.finished else None) (eq-eqb k k refl)
ends_dump k false = ap (λ (b : Bool). if b then Some Stage.finished else None) (eq-eqb k k refl)

-- the history is shared, and over
abbrev pub EndsShared : ℕ → List Entry → Type 0
EndsShared workers tale = IsShared workers tale × AllOver workers tale

module _ (workers : ℕ) (tale : List Entry) (stopped : At workers 0 Stage.stopped tale) (others : OthersOver workers 0 tale) where
  cut : (k : ℕ) → At workers 0 (Stage.dumping k) (tale ++ by_porter (Cut k) ∷ [])
  cut k = at_more workers 0 tale (Cut k) Stage.stopped (Stage.dumping k) (first_is workers) refl stopped

  -- one entry more, behind which nothing is open
  ended : (front : List Entry) (event : Event) (stage last : Stage) → At workers 0 stage front → OthersOver workers 0 front → next_stage 0 stage event ≡ Some last → is_last last ≡ true → EndsShared workers (front ++ by_porter event ∷ [])
  ended front event stage last a rest may over =
      let b = at_more workers 0 front event stage last (first_is workers) may a in
      (b.shared, all_over workers 0 last (front ++ by_porter event ∷ []) b over (others_more workers 0 front event rest))

  behind_cut : (k : ℕ) (event : Event) (last : Stage) → next_stage 0 (Stage.dumping k) event ≡ Some last → is_last last ≡ true → EndsShared workers (tale ++ by_porter (Cut k) ∷ by_porter event ∷ [])
  behind_cut k event last may over =
      subst (EndsShared workers) (append_assoc tale (by_porter (Cut k) ∷ []) (by_porter event ∷ []))
      (ended (tale ++ by_porter (Cut k) ∷ []) event (Stage.dumping k) last (cut k) (others_more workers 0 tale (Cut k) others) may over)

  pub last_shared : (es : List Entry) → IsLast es → EndsShared workers (tale ++ es)
  last_shared es (inl (k, done, is)) =
      subst (λ (x : List Entry). EndsShared workers (tale ++ x)) (sym is) (behind_cut k (if done then Stored k else DumpFailed k) Stage.finished (ends_dump k done) refl)
  last_shared es (inr (inl is)) = subst (λ (x : List Entry). EndsShared workers (tale ++ x)) (sym is) (ended tale Died Stage.stopped Stage.ended stopped others refl refl)
  last_shared es (inr (inr (k, is))) = subst (λ (x : List Entry). EndsShared workers (tale ++ x)) (sym is) (behind_cut k Died Stage.ended refl refl)

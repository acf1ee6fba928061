-- What a last dump leaves of a history: its entries by its answer, which tell nothing of a connection.
use Rattle.std.proofs.Common.{◌≡◌, ◌⊎◌, inl, inr, ℕ, Bool, true, false, List, [], ◌∷◌, ◌++◌, refl, sym, ap, ◌∙◌, subst, append_assoc, Option, Some, None, Result, Ok, Err}
use Rattle.std.specs.Prelude.{if◌then◌else◌}
use Rattle.std.proofs.lemmas.List.{append-nil}
use Rattle.muck_log.specs.declared.fault.LogFault.{LogFault}
use Rattle.muck_model.specs.declared.event.Entry.{Entry}
use Rattle.muck_model.specs.declared.event.Event.TheVariants.{Cut, Stored, DumpFailed, Died}
use Rattle.muck_model.specs.declared.memory.NoMemory.{NoMemory as Wanting}
use Rattle.muck_model.specs.declared.note.Note.{Note}
use Rattle.spec_events.specs.World.{World}
use Rattle.spec_events.specs.Steps.{effect}
use Rattle.spec_events.specs.Histories.{History, after, entered, noted, Longer, by_porter}
use Rattle.spec_events.proofs.Runs.{after-append, longer_one, longer_noted, longer_on}
use Rattle.muck_crew.specs.inner.Dumps.{by, HasDumped, Dies, first as died_first, begun as died_begun, cut as died_cut, ending as died_ending}
use Rattle.muck_server.specs.Served.{last_dump, IsLast}
use Rattle.muck_server.proofs.Behind.{TellsNothing, AllTellNothing}

-- k is the history h, and then these entries, with some notes
pub record Behind (h k : History) (es : List Entry) : Type 0 where
  pub longer : Longer h k es
  pub since : List Note
  pub noted : k.notes ≡ h.notes ++ since
  pub counted : k.counted ≡ h.counted

pub behind_one : (h k : History) (e : Entry) → k ≡ entered h e → Behind h k (e ∷ [])
behind_one h k e is = record { longer = longer_one h k e is; since = []; noted = ap (λ (x : History). x.notes) is ∙ sym (append-nil h.notes); counted = ap (λ (x : History). x.counted) is }

behind_noted : (h k : History) (note : Note) (e : Entry) → k ≡ entered (noted h note) e → Behind h k (e ∷ [])
behind_noted h k note e is = record { longer = longer_noted h k note e is; since = note ∷ []; noted = ap (λ (x : History). x.notes) is; counted = ap (λ (x : History). x.counted) is }

pub behind_on : (h k m : History) (es fs : List Entry) → Behind h k es → Behind k m fs → Behind h m (es ++ fs)
behind_on h k m es fs p q = record {
  longer = longer_on h k m es fs p.longer q.longer;
  since = p.since ++ q.since;
  noted = q.noted ∙ ap (λ (ns : List Note). ns ++ q.since) p.noted ∙ append_assoc h.notes p.since q.since;
  counted = q.counted ∙ p.counted;
}

-- The entries of a last dump, by its answer.
abbrev pub LastBy : Result (Option LogFault) Wanting → List Entry → Type 0
LastBy (Ok None) es = (k : ℕ) × (es ≡ last_dump k true)
LastBy (Ok (Some fault)) es = (k : ℕ) × (es ≡ last_dump k false)
LastBy (Err e) es = (es ≡ by_porter Died ∷ []) ⊎ ((k : ℕ) × (es ≡ by_porter (Cut k) ∷ by_porter Died ∷ []))

pub is_last : (answer : Result (Option LogFault) Wanting) (es : List Entry) → LastBy answer es → IsLast es
is_last (Ok None) es (k, is) = inl (k, true, is)
is_last (Ok (Some fault)) es (k, is) = inl (k, false, is)
is_last (Err e) es is = inr is

-- What a dump of the first party made.
pub record Made (answer : Result (Option LogFault) Wanting) (h k : History) : Type 0 where
  pub entries : List Entry
  pub behind : Behind h k entries
  pub by_answer : LastBy answer entries

abbrev cut_behind : History → Note → ℕ → History
cut_behind h a n = entered (noted h a) (by_porter (Cut n))

pub made_of : (answer : Result (Option LogFault) Wanting) (h k : History) → HasDumped 0 h k answer → Made answer h k
made_of (Ok None) h k (n, a, b, is) = record {
  entries = last_dump n true;
  behind = behind_on h (cut_behind h a n) k (by_porter (Cut n) ∷ []) (by_porter (Stored n) ∷ []) (behind_noted h (cut_behind h a n) a (by_porter (Cut n)) refl) (behind_noted (cut_behind h a n) k b (by_porter (Stored n)) is);
  by_answer = (n, refl);
}
made_of (Ok (Some fault)) h k (n, a, b, is) = record {
  entries = last_dump n false;
  behind = behind_on h (cut_behind h a n) k (by_porter (Cut n) ∷ []) (by_porter (DumpFailed n) ∷ []) (behind_noted h (cut_behind h a n) a (by_porter (Cut n)) refl) (behind_noted (cut_behind h a n) k b (by_porter (DumpFailed n)) is);
  by_answer = (n, refl);
}
made_of (Err e) h k dies = from dies
  where
    from : Dies 0 h k → Made (Err e) h k
    from (died_first is) = record { entries = by_porter Died ∷ []; behind = behind_one h k (by_porter Died) is; by_answer = inl refl }
    from (died_begun a is) = record { entries = by_porter Died ∷ []; behind = behind_noted h k a (by_porter Died) is; by_answer = inl refl }
    from (died_cut n a is) = record {
      entries = by_porter (Cut n) ∷ by_porter Died ∷ [];
      behind = behind_on h (cut_behind h a n) k (by_porter (Cut n) ∷ []) (by_porter Died ∷ []) (behind_noted h (cut_behind h a n) a (by_porter (Cut n)) refl) (behind_one (cut_behind h a n) k (by_porter Died) is);
      by_answer = inr (n, refl);
    }
    from (died_ending n a b is) = record {
      entries = by_porter (Cut n) ∷ by_porter Died ∷ [];
      behind = behind_on h (cut_behind h a n) k (by_porter (Cut n) ∷ []) (by_porter Died ∷ []) (behind_noted h (cut_behind h a n) a (by_porter (Cut n)) refl) (behind_noted (cut_behind h a n) k b (by_porter Died) is);
      by_answer = inr (n, refl);
    }

-- They tell nothing of a connection.

pub tells_died : (p : ℕ) → TellsNothing (by p Died)
tells_died p = record { silent = λ w ts. refl; goes_on = refl; untimed = λ w a. refl }

pub last_tells_nothing : (es : List Entry) → IsLast es → AllTellNothing es
last_tells_nothing es (inl (k, done, is)) = subst AllTellNothing (sym is) (tells_cut k, (tells_ending k done, tt))
  where
    tells_cut : (k : ℕ) → TellsNothing (by_porter (Cut k))
    tells_cut k = record { silent = λ w ts. refl; goes_on = refl; untimed = λ w a. refl }

    tells_ending : (k : ℕ) (done : Bool) → TellsNothing (by_porter (if done then Stored k else DumpFailed k))
    tells_ending k true = record { silent = λ w ts. refl; goes_on = refl; untimed = λ w a. refl }
    tells_ending k false = record { silent = λ w ts. refl; goes_on = refl; untimed = λ w a. refl }
last_tells_nothing es (inr (inl is)) = subst AllTellNothing (sym is) (tells_died 0, tt)
last_tells_nothing es (inr (inr (k, is))) = subst AllTellNothing (sym is) (record { silent = λ w ts. refl; goes_on = refl; untimed = λ w a. refl }, (tells_died 0, tt))

-- a world in which memory was wanted is dead
pub dead_behind : (w : World) (front : List Entry) (p : ℕ) → (after w (front ++ by p Died ∷ [])).dead ≡ true
unfolding effect
dead_behind w front p = ap (λ (v : World). v.dead) (after-append front (by p Died ∷ []) w)

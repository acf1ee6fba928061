-- What a store knows of the history, from one dump to the next.
use Rattle.std.proofs.Common.{◌≡◌, ℕ, false, sym, ap, subst, Some, None}
use Rattle.std.specs.Prelude.{IsSome}
use Rattle.std.specs.Option.{option_map_or}
use Rattle.muck_log.specs.File.{after_number}
use Rattle.muck_log.specs.Store.{LogState}
use Rattle.spec_events.specs.Histories.{History}
use Rattle.spec_dumps.specs.Fronts.{at_cut}
use Rattle.spec_dumps.specs.inner.Holding.{Quietly, FailedLast}
use Rattle.spec_dumps.proofs.Quiet.{failed_quiet}
use Rattle.muck_dumping.specs.declared.store.Store.{Store}
use Rattle.muck_dumping.specs.inner.Between.{GoesByMarks, Knows, next_number}
use Rattle.muck_dumping.proofs.Marks.{goes_quiet, unmarked_holds, unmounted_holds}
use Rattle.muck_dumping.proofs.AtOnce.{some_not_none}

-- The number of the next dump.

pub next_mounted : (store : Store) (log : LogState) → store.log ≡ Some log → next_number store ≡ after_number log.chosen.held.number
next_mounted store log is = ap (λ o. option_map_or (λ (x : LogState). after_number x.chosen.held.number) o store.number) is

pub next_unmounted : (store : Store) → store.log ≡ None → next_number store ≡ store.number
next_unmounted store none = ap (λ o. option_map_or (λ (x : LogState). after_number x.chosen.held.number) o store.number) none

-- It knows nothing yet where its log was just mounted.
pub knows_new : (store : Store) (log : LogState) (h : History) → store.log ≡ Some log → store.marks ≡ false → Knows store h
knows_new store log h is off = record { marks = unmarked_holds store.marks store.log (at_cut h.start h.entries).live.objects off; number = λ none. cc }

-- It knows the same while others go on.
pub knows_quiet : (store : Store) (h k : History) → Quietly h k → Knows store h → Knows store k
knows_quiet store h k q v = record { marks = goes_quiet store.marks store.log h k q v.marks; number = λ none. failed_quiet h k q store.number (v.number none) }

-- Behind a dump that was stored, and behind one that failed.

pub knows_stored : (store : Store) (k : History) → IsSome store.log → GoesByMarks store.marks store.log k → Knows store k
knows_stored store k some goes = record { marks = goes; number = λ none. absurd (some_not_none store.log some none) }

pub knows_failed : (store : Store) (k : History) (n : ℕ) → store.log ≡ None → store.number ≡ n → FailedLast n k → Knows store k
knows_failed store k n none number failed = record {
  marks = unmounted_holds store.marks store.log (at_cut k.start k.entries).live.objects none;
  number = λ is. subst (λ i. FailedLast i k) (sym number) failed;
}

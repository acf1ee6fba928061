-- A whole run of a server, with its last dump.
use Rattle.std.specs.Prelude.{ℕ, Bool, List, Option}
use Rattle.muck_log.specs.Store.{LogState}
use Rattle.spec_events.specs.Histories.{History}
use Rattle.muck_porter.specs.inner.Kept.{Account}
use Rattle.muck_crew.specs.declared.serving.Way.{Way}
use Rattle.muck_why.specs.declared.why.Why.{Why}
use Rattle.muck_crew.specs.inner.Finished.{IsFinish}
use Rattle.muck_crew.specs.inner.Runs.{HasRun}

-- All parts made the history h of the world, and then it came to its end: it is k now.
pub record HasServed {D : Type 0} (tells : Bool) (seen : D → List ℕ) (moment : D → ℕ) (images : D → ℕ → List ℕ → Type 0) (faults : D → ℕ) (shows : Bool) (before after : Account) (workers : ℕ) (why : Why)
    (log : Option LogState) (first second first' second' : D) (world k : History) : Type 0 where
  pub way : Way
  pub h : History
  pub log1 : Option LogState
  pub first1 : D
  pub second1 : D
  pub run : HasRun tells seen moment images faults shows before after workers way log log1 first second first1 second1 world h
  pub finish : IsFinish tells seen moment images faults way log1 first1 second1 first' second' h k why

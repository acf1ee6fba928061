-- What a call for `run` comes to, and one for `drill`, by the answer.
use Rattle.std.specs.Prelude.{◌≡◌, ◌⊎◌, ℕ, Bool, true, List, Option, Ok, Err}
use Rattle.muck_io.specs.Faults.{Rose}
use Rattle.muck_model.specs.declared.event.Entry.{Entry}
use Rattle.muck_model.specs.declared.note.Note.{Note}
use Rattle.muck_log.specs.Store.{Chosen, store_of}
use Rattle.muck_run.specs.Drill.{HasDrilled}
use Rattle.muck_run.specs.Outcome.{EndsAs, EndsFull, HasBegun, IsFirstOutsideScript, IsScriptLeft, IsUnbegun}
use Rattle.muck_why.specs.declared.why.Why.{Why}
use Rattle.muck_why.specs.declared.why.Why.TheVariants.{Fine, Usage, BadScript, NoMemory, ReadFault, WriteFault, DiskFault, Damaged, StoreFull}

-- A call for `run`, by its answer.
pub record RunDone {S K D : Type 0} (left : S → Option (List ℕ)) (faults : S → ℕ) (written : K → Option (List ℕ)) (breaks : K → ℕ)
    (tells : Bool) (attached : D → Option (List ℕ)) (seen : D → List ℕ) (moment : D → ℕ) (images : D → ℕ → List ℕ → Type 0) (fails : D → ℕ) (store : List ℕ) (why : Why)
    (s t : S) (k l : K) (first second first' second' : D) (tale : List Entry) (notes : List Note) : Type 0 where
  -- Either nothing happened, and nothing was written, to the sink or to a file; or one history happened, from the world that the two files held: by the lines of the script, lawfully, and with leave.
  -- It says what was written, how the last dump came out, and what the files hold, whatever a crash leaves of them. The answer says which of the two, but for want of memory and faults of the store,
  -- which may come before the run and in it.
  pub ends : EndsAs why (IsUnbegun tells seen moment images k l first second first' second' tale) (HasBegun left faults written breaks tells attached seen moment images fails store why s t k l first second first' second' tale notes)
  -- each answer but `Fine` and want of memory has its cause
  pub usage : why ≡ Usage → ⊥
  pub bad_script : (line : ℕ) → why ≡ BadScript line → IsFirstOutsideScript (left s) line
  pub read_fault : why ≡ ReadFault → Rose (faults s) (faults t)
  pub write_fault : why ≡ WriteFault → Rose (breaks k) (breaks l)
  pub disk_fault : why ≡ DiskFault → Rose (fails first) (fails first') ⊎ Rose (fails second) (fails second')
  pub damaged : (file : Bool) (at : ℕ) → tells ≡ true → why ≡ Damaged file at → store_of (seen first) (seen second) ≡ Err (record { second = file; at = at })
  -- the first cause stands: no other fault of the source or the sink came, and the store was mounted before the script was read
  pub source_stands : (why ≡ ReadFault → ⊥) → faults t ≡ faults s
  pub sink_stands : (why ≡ WriteFault → ⊥) → breaks l ≡ breaks k
  pub unread : (file : Bool) (at : ℕ) → tells ≡ true → why ≡ Damaged file at → t ≡ s
  pub loads : tells ≡ true → (why ≡ ReadFault) ⊎ ((line : ℕ) × (why ≡ BadScript line)) → (chosen : Chosen) × (store_of (seen first) (seen second) ≡ Ok chosen)
  -- where a store loads, the script is inside the grammar and no count rose, the work was done, or memory was wanted, or the last dump would pass what a file may have, on what the files hold
  pub complete : (chosen : Chosen) → tells ≡ true → store_of (seen first) (seen second) ≡ Ok chosen → IsScriptLeft (left s) → (Rose (faults s) (faults t) → ⊥) → (Rose (breaks k) (breaks l) → ⊥)
      → (Rose (fails first) (fails first') → ⊥) → (Rose (fails second) (fails second') → ⊥)
      → (why ≡ Fine) ⊎ ((why ≡ NoMemory) ⊎ ((end more : ℕ) × (why ≡ StoreFull end more) × EndsFull tells seen 0 first second first' second' tale notes end more))

-- A call for `drill` of so many rounds, by its answer: what was written, and that nothing was read or touched besides.
pub record DrillDone {S K D : Type 0} (written : K → Option (List ℕ)) (breaks : K → ℕ) (rounds : ℕ) (why : Why) (s t : S) (k l : K) (first second first' second' : D) (tale : List Entry) : Type 0 where
  pub ends : HasDrilled written breaks rounds why k l tale
  pub source : t ≡ s
  pub first_file : first' ≡ first
  pub second_file : second' ≡ second

-- What a call answers, from where it ended.
use Rattle.std.proofs.Common.{◌≡◌, ◌⊎◌, inl, inr, ℕ, ◌≤◌, Bool, true, List, refl, sym, ap, subst, ◌∙◌, arith, Option, Some, None, Result, Ok, Err}
use Rattle.std.specs.Prelude.{codes, ◌++◌}
use Rattle.muck_io.specs.Faults.{Rose}
use Rattle.muck_model.specs.declared.event.Entry.{Entry}
use Rattle.muck_model.specs.declared.note.Note.{Note}
use Rattle.muck_log.specs.Store.{Chosen, Damage, LogState, store_of}
use Rattle.muck_log.specs.World.{IsFine}
use Rattle.muck_log.specs.inner.Mount.{IsMountedAs, IsMountFault}
use Rattle.muck_log.specs.declared.fault.LogFault.{LogFault}
use Rattle.muck_log.specs.declared.fault.LogFault.TheVariants.{NoMemory as LogMemory, DiskFault as LogDisk, Damaged as LogDamaged, StoreFull as LogFull, Stale}
use Rattle.spec_dumps.specs.Fronts.{file_most}
use Rattle.muck_script.specs.declared.act.Act.{Act}
use Rattle.muck_run.specs.Done.{RunDone}
use Rattle.muck_run.specs.Outcome.{HasReadScript, HasBegun, IsUnbegun, IsUntouched, EndsAs, EndsFull, IsScriptLeft, IsFirstOutsideScript}
use Rattle.muck_run.specs.inner.Ends.{refusal_of, MayNotOpen, IsMountWhy, MayRefuse, IsScriptWhy, HasPlayed, NeverPlayed, MayEnd, MayEndDump, booted_from}
use Rattle.muck_why.specs.declared.why.Why.{Why}
use Rattle.muck_why.specs.declared.why.Why.TheVariants.{Fine, Usage, BadScript, NoMemory, ReadFault, WriteFault, DiskFault, Damaged, StoreFull}
use Rattle.muck_why.specs.Causes.{end_of}
use Rattle.muck_why.proofs.Causes.{began_run, dumps_run}
use Rattle.muck_run.proofs.Started.{licensed_from, sourced_from, denials_from, origins_from, seats_from, stops_from, there_from, known_from}
use Rattle.muck_run.proofs.Untouched.{untouched_still, untouched_on}

-- Files that aren't opened, and stores that aren't mounted.

pub opens_told : (a b : List ℕ) (why : Why) → MayNotOpen why → IsMountWhy a b why
opens_told a b NoMemory may = tt
opens_told a b DiskFault may = tt
opens_told a b why may = absurd may

pub opens_may : (why : Why) → MayNotOpen why → MayRefuse why
opens_may NoMemory may = tt
opens_may DiskFault may = tt
opens_may why may = absurd may

pub mount_told : (a b : List ℕ) (fault : LogFault) → IsMountFault a b fault → IsMountWhy a b (refusal_of fault)
mount_told a b LogMemory told = tt
mount_told a b LogDisk told = tt
mount_told a b (LogDamaged second at) told = told
mount_told a b (LogFull end more) told = absurd told
mount_told a b Stale told = absurd told

-- How a call ends: it wasn't begun where no store was mounted and where no script was read.

pub refused_ends : (why : Why) (U B : Type 0) → MayRefuse why → U → EndsAs why U B
refused_ends (Damaged second at) U B may u = inl u
refused_ends NoMemory U B may u = inl u
refused_ends DiskFault U B may u = inl u
refused_ends why U B may u = absurd may

pub unread_ends : (left : Option (List ℕ)) (why : Why) (U B : Type 0) → IsScriptWhy left why → U → EndsAs why U B
unread_ends left (BadScript line) U B is u = u
unread_ends left NoMemory U B is u = inl u
unread_ends left ReadFault U B is u = u
unread_ends left why U B is u = absurd is

pub wanted_ends : (why : Why) (U B : Type 0) → why ≡ NoMemory → U → EndsAs why U B
wanted_ends why U B is u = subst (λ x. EndsAs x U B) (sym is) (inl u)

pub began_ends : (tells : Bool) (why : Why) (U B : Type 0) → MayEnd tells why → B → EndsAs why U B
began_ends tells (Damaged second at) U B may b = inr b
began_ends tells why U B may b = began_run why U B may b

pub dump_may : (tells : Bool) (why : Why) → MayEndDump tells why → MayEnd tells why
dump_may tells (Damaged second at) may = may
dump_may tells why may = dumps_run (end_of why) may

-- the last dump of a run doesn't hide that the sink failed
pub not_write : (tells : Bool) (why : Why) → MayEndDump tells why → why ≡ WriteFault → ⊥
not_write tells why may e = subst (MayEndDump tells) e may

-- a count that rose after another call did since before it
pub rose_since : (a b c : ℕ) → a ≤ b → Rose b c → Rose a c
rose_since a b c le rose = omega (arith, le, rose)

pub either_since : (a b c x y z : ℕ) → a ≤ b → x ≤ y → Rose b c ⊎ Rose y z → Rose a c ⊎ Rose x z
either_since a b c x y z le ge rose = elim rose [
  | inl r ↦ inl (rose_since a b c le r)
  | inr r ↦ inr (rose_since x y z ge r)
]

-- Two files that nothing was written to hold the same store.
module _ {D : Type 0} (seen : D → List ℕ) (moment : D → ℕ) (images : D → ℕ → List ℕ → Type 0) (first second first' second' : D) (a : IsUntouched seen moment images first first') (b : IsUntouched seen moment images second second') where
  pub holds_still : (r : Result Chosen Damage) → store_of (seen first') (seen second') ≡ r → store_of (seen first) (seen second) ≡ r
  holds_still r is = ap (λ x. store_of x (seen second)) (sym a.gives) ∙ ap (λ y. store_of (seen first') y) (sym b.gives) ∙ is

-- memory was wanted before the run began
module _ {K D : Type 0} (tells : Bool) (seen : D → List ℕ) (moment : D → ℕ) (images : D → ℕ → List ℕ → Type 0) (why : Why) (k l : K) (first second first' second' first'' second'' : D) (tale : List Entry) where
  pub never_begun : (tells ≡ true → IsUntouched seen moment images first first') → (tells ≡ true → IsUntouched seen moment images second second') → NeverPlayed why k l first' second' first'' second'' tale
      → IsUnbegun tells seen moment images k l first second first'' second'' tale
  never_begun a b never = record {
    empty = never.empty;
    sink = never.sink;
    first_file = λ on. untouched_on seen moment images first first' first'' (a on) (untouched_still seen moment images first' first'' never.first_file);
    second_file = λ on. untouched_on seen moment images second second' second'' (b on) (untouched_still seen moment images second' second'' never.second_file);
  }

-- A run that was played has begun, on the log that the files held.
module _ {S K D : Type 0} (left : S → Option (List ℕ)) (faults : S → ℕ) (written : K → Option (List ℕ)) (breaks : K → ℕ) (tells : Bool) (attached : D → Option (List ℕ)) (seen : D → List ℕ) (moment : D → ℕ) (images : D → ℕ → List ℕ → Type 0) (fails : D → ℕ) (store : List ℕ)
    (log : LogState) (why : Why) (acts : List Act) (s t : S) (k l : K) (first second first' second' first'' second'' : D) (tale : List Entry) (notes : List Note) where
  unfoldable pub has_begun : (tells ≡ true → IsMountedAs seen moment images file_most log first' second') → IsFine log.chosen.held.world
      → (tells ≡ true → attached first' ≡ Some (store ++ codes ".a")) → (tells ≡ true → attached second' ≡ Some (store ++ codes ".b"))
      → attached first'' ≡ attached first' → attached second'' ≡ attached second'
      → (tells ≡ true → IsUntouched seen moment images first first') → (tells ≡ true → IsUntouched seen moment images second second') → fails first ≤ fails first' → fails second ≤ fails second' → HasReadScript left faults s t acts
      → HasPlayed written breaks tells seen moment images fails log why acts k l first' second' first'' second'' tale notes
      → HasBegun left faults written breaks tells attached seen moment images fails store why s t k l first second first'' second'' tale notes
  has_begun mounted fine name_a name_b still_a still_b a b later_a later_b read p = record {
    start = booted_from log.chosen.held.world;
    mounted = log.chosen.held.number;
    begins = record {
      kept = log.chosen.held.world;
      fine = fine;
      boots = refl;
      holds = λ on. (log.chosen, holds_still seen moment images first second first' second' (a on) (b on) (Ok log.chosen) (mounted on).mounted.load, refl, refl);
    };
    happened = record {
      lawful = p.lawful;
      licensed = licensed_from 0 log.chosen.held.world tale;
      sourced = sourced_from 0 log.chosen.held.world tale;
      denials = denials_from 0 log.chosen.held.world tale;
      origins = origins_from 0 log.chosen.held.world tale;
      seats = seats_from 0 log.chosen.held.world tale p.lawful;
      stops = stops_from 0 log.chosen.held.world tale;
      there = there_from 0 log.chosen.held.world tale p.lawful;
      passwords = known_from 0 log.chosen.held.world tale p.lawful;
      acts = acts;
      read = read;
      run = p.run;
    };
    opened = record {
      mounted_first = first';
      mounted_second = second';
      first_name = name_a;
      second_name = name_b;
      first_now = λ on. still_a ∙ name_a on;
      second_now = λ on. still_b ∙ name_b on;
      first_file = a;
      second_file = b;
      first_later = later_a;
      second_later = later_b;
      note = p.noted.note;
      others = p.noted.others;
      noted = p.noted.noted;
      first_moment = p.noted.is.first_moment;
      second_moment = p.noted.is.second_moment;
      first_faults = p.noted.is.first_faults;
      second_faults = p.noted.is.second_faults;
    };
    safe = p.safe;
    whole = p.whole;
    full = p.full;
    failed = p.failed;
  }

-- Where nothing stood in the way of a run, the work is done.

grammar_stands : (left : Option (List ℕ)) (line : ℕ) → IsScriptLeft left → IsFirstOutsideScript left line → ⊥
grammar_stands None line is outside = is
grammar_stands (Some bytes) line is outside = let both = sym is.1 ∙ outside in cc

pub completes : (r : Result Chosen Damage) (s : Chosen) (U B : Type 0) (why : Why) → EndsAs why U B → (why ≡ Usage → ⊥) → ((line : ℕ) → why ≡ BadScript line → ⊥) → (why ≡ ReadFault → ⊥) → (why ≡ WriteFault → ⊥) → (why ≡ DiskFault → ⊥)
    → ((file : Bool) (at : ℕ) → why ≡ Damaged file at → r ≡ Err (record { second = file; at = at })) → r ≡ Ok s
    → (F : ℕ → ℕ → Type 0) → ((end more : ℕ) → why ≡ StoreFull end more → B → F end more) → (why ≡ Fine) ⊎ ((why ≡ NoMemory) ⊎ ((end more : ℕ) × (why ≡ StoreFull end more) × F end more))
completes r s U B Fine ends usage bad read write disk damaged ok F full = inl refl
completes r s U B (BadScript line) ends usage bad read write disk damaged ok F full = absurd (bad line refl)
completes r s U B NoMemory ends usage bad read write disk damaged ok F full = inr (inl refl)
completes r s U B ReadFault ends usage bad read write disk damaged ok F full = absurd (read refl)
completes r s U B WriteFault ends usage bad read write disk damaged ok F full = absurd (write refl)
completes r s U B DiskFault ends usage bad read write disk damaged ok F full = absurd (disk refl)
completes r s U B (Damaged file at) ends usage bad read write disk damaged ok F full = let both = sym ok ∙ damaged file at refl in cc
completes r s U B (StoreFull end more) ends usage bad read write disk damaged ok F full = inr (inr (end, more, refl, full end more refl ends))
completes r s U B why ends usage bad read write disk damaged ok F full = absurd ends

-- What a call for `run` comes to: where nothing stood in its way follows from the causes of its answers.
module _ {S K D : Type 0} (left : S → Option (List ℕ)) (faults : S → ℕ) (written : K → Option (List ℕ)) (breaks : K → ℕ) (tells : Bool) (attached : D → Option (List ℕ)) (seen : D → List ℕ) (moment : D → ℕ) (images : D → ℕ → List ℕ → Type 0) (fails : D → ℕ) (store : List ℕ)
    (why : Why) (s t : S) (k l : K) (first second first' second' : D) (tale : List Entry) (notes : List Note) where
  abbrev Begun : Type 0
  Begun = HasBegun left faults written breaks tells attached seen moment images fails store why s t k l first second first' second' tale notes

  ends_full : tells ≡ true → (end more : ℕ) → why ≡ StoreFull end more → Begun → EndsFull tells seen 0 first second first' second' tale notes end more
  ends_full on end more is b = record { start = b.start; mounted = b.mounted; begins = b.begins; full = b.full end more on is }

  pub run_done : EndsAs why (IsUnbegun tells seen moment images k l first second first' second' tale) Begun
      → (why ≡ Usage → ⊥)
      → ((line : ℕ) → why ≡ BadScript line → IsFirstOutsideScript (left s) line)
      → (why ≡ ReadFault → Rose (faults s) (faults t))
      → (why ≡ WriteFault → Rose (breaks k) (breaks l))
      → (why ≡ DiskFault → Rose (fails first) (fails first') ⊎ Rose (fails second) (fails second'))
      → ((file : Bool) (at : ℕ) → tells ≡ true → why ≡ Damaged file at → store_of (seen first) (seen second) ≡ Err (record { second = file; at = at }))
      → ((why ≡ ReadFault → ⊥) → faults t ≡ faults s)
      → ((why ≡ WriteFault → ⊥) → breaks l ≡ breaks k)
      → ((file : Bool) (at : ℕ) → tells ≡ true → why ≡ Damaged file at → t ≡ s)
      → (tells ≡ true → (why ≡ ReadFault) ⊎ ((line : ℕ) × (why ≡ BadScript line)) → (chosen : Chosen) × (store_of (seen first) (seen second) ≡ Ok chosen))
      → RunDone left faults written breaks tells attached seen moment images fails store why s t k l first second first' second' tale notes
  run_done ends usage bad_script read_fault write_fault disk_fault damaged source_stands sink_stands unread loads = record {
    ends = ends;
    usage = usage;
    bad_script = bad_script;
    read_fault = read_fault;
    write_fault = write_fault;
    disk_fault = disk_fault;
    damaged = damaged;
    source_stands = source_stands;
    sink_stands = sink_stands;
    unread = unread;
    loads = loads;
    complete = λ chosen on ok grammar source sink a b.
        completes _ chosen _ _ why ends usage (λ line e. grammar_stands (left s) line grammar (bad_script line e)) (λ e. source (read_fault e)) (λ e. sink (write_fault e))
        (λ e. elim (disk_fault e) [
          | inl rose ↦ a rose
          | inr rose ↦ b rose
        ])
        (λ file at e. damaged file at on e) ok _ (ends_full on);
  }

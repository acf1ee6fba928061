-- Of which source the built forms are, and the programs that run.
use Rattle.std.specs.Prelude.{◌≡◌, ◌⊎◌, ℕ, List, [], ◌∷◌, Option, Some, None, Ok}
use Rattle.muck_model.specs.declared.dbref.Dbref.{Dbref}
use Rattle.muck_model.specs.declared.event.Entry.{Entry}
use Rattle.muck_model.specs.declared.event.Event.{Event}
use Rattle.muck_model.specs.declared.event.Event.TheVariants.{Slice}
use Rattle.spec_live.specs.Objects.{Entry as Kept}
use Rattle.muf_model.specs.Tree.{Tree}
use Rattle.muf_model.specs.Source.{Program, Source}
use Rattle.muf_model.specs.Chains.{programs_of}
use Rattle.spec_prims.specs.Asking.{object_numbered}
use Rattle.muck_library.specs.Library.{Library, form_at}
use Rattle.muck_library.specs.Programs.{source_in, built_tree}
use Rattle.muck_queue.specs.declared.process.Process.{Process}
use Rattle.spec_events.specs.World.{World}
use Rattle.spec_events.specs.Slices.{Taken, units_of}
use Rattle.spec_events.specs.Steps.{happened, effect}

abbrev pub Each : {X : Type 0} → (X → Type 0) → List X → Type 0
Each P [] = Unit {0}
Each P (x ∷ xs) = P x × Each P xs

-- At one of these moments the object had these source lines, and the tree is what reading and compiling gave of them then, with the definitions that objects lent.
abbrev pub BuiltOf : (List Kept → Type 0) → Dbref → List (List ℕ) → Tree → Type 0
BuiltOf Stood d lines tree = (es : List Kept) × Stood es × (source_in es d ≡ lines) × (built_tree es d ≡ Ok tree)

-- a program on the call stack of a process is so of the source that it has
abbrev pub OfSource : (Dbref → List (List ℕ) → Tree → Type 0) → List Kept → Program → Type 0
OfSource B es p = B (object_numbered p.number) (source_in es (object_numbered p.number)) p.tree

abbrev pub Standing : (Program → Type 0) → Option Source → Type 0
Standing P None = Unit {0}
Standing P (Some s) = Each P (programs_of s)

-- each form that is kept, and each program that is on the call stack of a process
pub record AreSourced (B : Dbref → List (List ℕ) → Tree → Type 0) (es : List Kept) (library : Library) (ps : List Process) : Type 0 where
  pub forms : (d : Dbref) (tree : Tree) → form_at d library ≡ Some tree → B d (source_in es d) tree
  pub processes : Each (λ p. Standing (OfSource B es) p.running) ps

abbrev pub Sourced : (Dbref → List (List ℕ) → Tree → Type 0) → World → Type 0
Sourced B w = AreSourced B w.live.objects w.library w.queue.processes

-- The moments at which something is built: behind a line that was done, behind an event by what is hooked to it, or before a unit of a slice.

abbrev pub BeforeOne : List Taken → List Kept → Type 0
BeforeOne [] es = ⊥
BeforeOne (t ∷ ts) es = (es ≡ t.before.live.objects) ⊎ BeforeOne ts es

abbrev pub BeforeUnit : Event → World → List Kept → Type 0
BeforeUnit (Slice pid) w es = BeforeOne (units_of pid w) es
BeforeUnit event w es = ⊥

abbrev pub StoodAt : World → Entry → List Kept → Type 0
StoodAt w entry es = (es ≡ (happened w entry.party entry.event).live.objects) ⊎ ((es ≡ (effect w entry).live.objects) ⊎ BeforeUnit entry.event w es)

-- What runs.

-- each program on the call stack of the process whose unit it is
abbrev pub RunsSourced : (Dbref → List (List ℕ) → Tree → Type 0) → Taken → Type 0
RunsSourced B t = Each (OfSource B t.before.live.objects) (programs_of t.state)

abbrev pub UnitsSourced : (Dbref → List (List ℕ) → Tree → Type 0) → Event → World → Type 0
UnitsSourced B (Slice pid) w = Each (RunsSourced B) (units_of pid w)
UnitsSourced B event w = Unit {0}

-- these moments, and those of the entry
abbrev pub Until : (List Kept → Type 0) → World → Entry → List Kept → Type 0
Until Stood w entry es = Stood es ⊎ StoodAt w entry es

-- Behind each entry what is kept and what stands on a call stack is of the source that its program has there, by a moment of the entries until then, or by one of those
-- that stood before; and so is what each unit of a slice runs, where it runs.
abbrev pub SourcedSince : (List Kept → Type 0) → World → List Entry → Type 0
SourcedSince Stood w [] = Unit {0}
SourcedSince Stood w (entry ∷ entries) =
    UnitsSourced (BuiltOf (Until Stood w entry)) entry.event w × Sourced (BuiltOf (Until Stood w entry)) (effect w entry) × SourcedSince (Until Stood w entry) (effect w entry) entries

-- where these entries are the first
abbrev pub AllSourced : World → List Entry → Type 0
AllSourced w entries = SourcedSince (λ es. ⊥) w entries

-- What evaluating a message comes to.
use Rattle.std.proofs.Common.{◌≡◌, ℕ, List, refl, sym, ◌∙◌, ap, subst}
use Rattle.std.specs.Prelude.{Result, Ok, Err, IfOk, codes}
use Rattle.std.specs.Fmt.{digits}
use Rattle.muck_model.specs.declared.dbref.Dbref.{Dbref}
use Rattle.muck_model.specs.declared.memory.NoMemory.{NoMemory as Wanted}
use Rattle.spec_rights.specs.Licence.{Licensed, nobody}
use Rattle.mpi.specs.declared.fault.MpiFault.{MpiFault}
use Rattle.mpi.specs.declared.fault.MpiFault.TheVariants.{Unclosed, UnknownFunction, BadCount, BadValue, TooManyCommands, TooLong, Denied, NoMemory}
use Rattle.mpi.specs.Hosting.{Means, IfMemory}
use Rattle.mpi.specs.Variables.{Variables}
use Rattle.mpi.specs.Meaning.{evaluated, scene_of, Evaluates}
use Rattle.muck_perm.specs.declared.guard.Guard.{Guard}
use Rattle.muck_perm.specs.inner.Guards.{world_of, Same, Did}
use Rattle.spec_mpi.specs.Stages.{MpiStage}
use Rattle.spec_mpi.specs.Doing.{powers}
use Rattle.spec_mpi.specs.Telling.{MpiAnswer}
use Rattle.spec_mpi.specs.Messages.{formula_heard, answer_shown, message_spoken, variables_of}
use Rattle.spec_mpi.specs.Touching.{TouchesNotes}
use Rattle.spec_mpi.proofs.Leave.{heard_open, heard_touches, same_actor}
use Rattle.muck_mpi.specs.inner.Seeing.{stage_of}
use Rattle.muck_mpi.specs.inner.Showing.{IsShown}

pub memory_then : {A : Type 0} (r : Result A MpiFault) (P Q : Type 0) → (P → Q) → IfMemory r P → IfMemory r Q
memory_then (Ok x) P Q f h = f h
memory_then (Err NoMemory) P Q f h = tt
memory_then (Err Unclosed) P Q f h = f h
memory_then (Err UnknownFunction) P Q f h = f h
memory_then (Err BadCount) P Q f h = f h
memory_then (Err BadValue) P Q f h = f h
memory_then (Err TooManyCommands) P Q f h = f h
memory_then (Err TooLong) P Q f h = f h
memory_then (Err (Denied rule)) P Q f h = f h

-- the world after it, and who acts

abbrev Met : Dbref → List ℕ → Variables → Guard → Guard → Type 0
Met this text vars old new = (evaluated (scene_of powers this) text (record { variables = vars; left = 0 }, stage_of old)).1.1 ≡ stage_of new

world_met : (this : Dbref) (text : List ℕ) (vars : Variables) (old new : Guard) → Met this text vars old new → world_of new ≡ (formula_heard old.actor this text vars (world_of old)).1
unfolding formula_heard
world_met this text vars old new e = ap (λ (s : MpiStage). s.live) (sym e)

actor_met : (this : Dbref) (text : List ℕ) (vars : Variables) (old new : Guard) → Met this text vars old new → new.actor ≡ old.actor
actor_met this text vars old new e = ap (λ (s : MpiStage). s.actor) (sym e) ∙ same_actor this text vars (stage_of old)

pub world_heard : (this : Dbref) (text : List ℕ) (vars after : Variables) (old new : Guard) (r : Result (List ℕ) MpiFault) → Evaluates (scene_of powers this) text vars (stage_of old) after (stage_of new) r → IfMemory r (world_of new ≡ (formula_heard old.actor this text vars (world_of old)).1)
world_heard this text vars after old new r h = memory_then r _ _ (world_met this text vars old new) h.1.1

pub actor_heard : (this : Dbref) (text : List ℕ) (vars after : Variables) (old new : Guard) (r : Result (List ℕ) MpiFault) → Evaluates (scene_of powers this) text vars (stage_of old) after (stage_of new) r → IfMemory r (new.actor ≡ old.actor)
actor_heard this text vars after old new r h = memory_then r _ _ (actor_met this text vars old new) h.1.1

pub open_heard : (this : Dbref) (text : List ℕ) (vars : Variables) (old new : Guard) (r : Result (List ℕ) MpiFault) → IfMemory r (world_of new ≡ (formula_heard old.actor this text vars (world_of old)).1) → IfMemory r (Licensed old.actor nobody (world_of old) (world_of new))
open_heard this text vars old new r h = memory_then r _ _ (λ e. subst (Licensed old.actor nobody (world_of old)) (sym e) (heard_open old.actor this text vars (world_of old))) h

pub touches_heard : (this : Dbref) (text : List ℕ) (vars : Variables) (old new : Guard) (r : Result (List ℕ) MpiFault) → IfMemory r (world_of new ≡ (formula_heard old.actor this text vars (world_of old)).1) → IfMemory r (TouchesNotes (world_of old) (world_of new))
touches_heard this text vars old new r h = memory_then r _ _ (λ e. subst (TouchesNotes (world_of old)) (sym e) (heard_touches old.actor this text vars (world_of old))) h

-- What is shown.

-- where something is shown, it is what was meant
shown_met : (meant answer : MpiAnswer) (line : List ℕ) → Means meant answer → IsShown answer (Ok line) → line ≡ answer_shown meant
shown_met meant (Ok x) line m s = s ∙ ap answer_shown (sym m)
shown_met meant (Err NoMemory) line m s = absurd s
shown_met meant (Err Unclosed) line m s = s ∙ ap answer_shown (sym m)
shown_met meant (Err UnknownFunction) line m s = s ∙ ap answer_shown (sym m)
shown_met meant (Err BadCount) line m s = s ∙ ap answer_shown (sym m)
shown_met meant (Err BadValue) line m s = s ∙ ap answer_shown (sym m)
shown_met meant (Err TooManyCommands) line m s = s ∙ ap answer_shown (sym m)
shown_met meant (Err TooLong) line m s = s ∙ ap answer_shown (sym m)
shown_met meant (Err (Denied rule)) line m s = s ∙ ap answer_shown (sym m)

-- and memory wasn't wanted
memory_met : (answer : MpiAnswer) (line : List ℕ) (W : Type 0) → IfMemory answer W → IsShown answer (Ok line) → W
memory_met (Ok x) line W w s = w
memory_met (Err NoMemory) line W w s = absurd s
memory_met (Err Unclosed) line W w s = w
memory_met (Err UnknownFunction) line W w s = w
memory_met (Err BadCount) line W w s = w
memory_met (Err BadValue) line W w s = w
memory_met (Err TooManyCommands) line W w s = w
memory_met (Err TooLong) line W w s = w
memory_met (Err (Denied rule)) line W w s = w

pub speak_shown : (this : Dbref) (how cmd arg text : List ℕ) (vars : Variables) (old : Guard) (answer : MpiAnswer) (result : Result (List ℕ) Wanted) → vars ≡ variables_of how cmd arg →
    Means (formula_heard old.actor this text vars (world_of old)).0 answer → IsShown answer result → IfOk result (λ line. line ≡ (message_spoken old.actor this how cmd arg text (world_of old)).0)
unfolding message_spoken
speak_shown this how cmd arg text vars old answer (Ok line) v m s = shown_met _ answer line m s ∙ ap (λ vs. answer_shown (formula_heard old.actor this text vs (world_of old)).0) v
speak_shown this how cmd arg text vars old answer (Err e) v m s = tt

pub speak_did : (this : Dbref) (how cmd arg text : List ℕ) (vars : Variables) (old new : Guard) (answer : MpiAnswer) (result : Result (List ℕ) Wanted) → vars ≡ variables_of how cmd arg →
    IfMemory answer (world_of new ≡ (formula_heard old.actor this text vars (world_of old)).1) → IfMemory answer (new.actor ≡ old.actor) → Same old new → IsShown answer result → Did (λ w. (message_spoken old.actor this how cmd arg text w).1) old new result
unfolding message_spoken
speak_did this how cmd arg text vars old new answer (Ok line) v w a same s =
    (memory_met answer line _ w s ∙ ap (λ vs. (formula_heard old.actor this text vs (world_of old)).1) v, (memory_met answer line _ a s, same))
speak_did this how cmd arg text vars old new answer (Err e) v w a same s = same

-- What is shown of each fault.

pub shown_as : (fault : MpiFault) (text : List ℕ) (r : Result (List ℕ) Wanted) → IsShown (Err fault) (Ok text) → IfOk r (λ line. line ≡ text) → IsShown (Err fault) r
shown_as fault text (Ok line) s e = subst (λ t. IsShown (Err fault) (Ok t)) (sym e) s
shown_as fault text (Err x) s e = tt

pub unclosed : IsShown (Err Unclosed) (Ok (codes "MPI error 60."))
unfolding answer_shown digits
unclosed = refl

pub unknown : IsShown (Err UnknownFunction) (Ok (codes "MPI error 61."))
unfolding answer_shown digits
unknown = refl

pub bad_count : IsShown (Err BadCount) (Ok (codes "MPI error 62."))
unfolding answer_shown digits
bad_count = refl

pub bad_value : IsShown (Err BadValue) (Ok (codes "MPI error 63."))
unfolding answer_shown digits
bad_value = refl

pub too_many : IsShown (Err TooManyCommands) (Ok (codes "MPI error 64."))
unfolding answer_shown digits
too_many = refl

pub too_long : IsShown (Err TooLong) (Ok (codes "MPI error 65."))
unfolding answer_shown digits
too_long = refl

pub denied : (rule : ℕ) → IsShown (Err (Denied rule)) (Ok (codes "MPI error 66."))
unfolding answer_shown digits
denied rule = refl

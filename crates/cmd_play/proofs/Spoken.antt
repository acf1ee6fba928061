-- What follows a message that was spoken, or that isn't there.
use Rattle.std.proofs.Common.{ℕ, List, Some, None, Result, Ok, Err, sym, ◌∙◌, subst}
use Rattle.muck_model.specs.declared.dbref.Dbref.{Dbref}
use Rattle.muck_model.specs.declared.memory.NoMemory.{NoMemory}
use Rattle.spec_live.specs.Lives.{Change}
use Rattle.spec_rights.specs.declared.act.Actor.{Actor}
use Rattle.spec_commands.specs.declared.typed.Typed.{Typed}
use Rattle.spec_live.specs.declared.message.Message.{Message}
use Rattle.std.specs.Prelude.{IfOk}
use Rattle.std.proofs.Common.{◌≡◌, ap}
use Rattle.spec_mpi.specs.Messages.{message_spoken as said_of}
use Rattle.spec_commands.specs.Messages.{text_spoken, with_message}
use Rattle.muck_perm.specs.declared.guard.Guard.{Guard}
use Rattle.muck_perm.specs.inner.Guards.{Same, Did, Done, world_of}
use Rattle.muck_perm.proofs.Worlds.{kept_after, same_after}
use Rattle.cmd_play.specs.inner.Speaking.{Speaks, Says}

pub was_said : (a : Actor) (x : Dbref) (how : List ℕ) (typed : Typed) (text : List ℕ) (old new : Guard) (r : Result (List ℕ) NoMemory) →
    IfOk r (λ line. line ≡ (said_of a x how typed.word typed.rest text (world_of old)).0) → Did (λ w. (said_of a x how typed.word typed.rest text w).1) old new r → Speaks (text_spoken a x how typed text) old new r
unfolding text_spoken
was_said a x how typed text old new (Ok line) e h = (h.1, λ go. ap (λ t. go t (said_of a x how typed.word typed.rest text (world_of old)).1) (sym e) ∙ ap (go line) (sym h.0))
was_said a x how typed text old new (Err fault) e h = h

pub was_spoken : {X : Type 0} (a : Actor) (typed : Typed) (m : Message) (x : Dbref) (otherwise : Change) (go : List ℕ → Change) (old mid new : Guard) (text : List ℕ) (r : Result X NoMemory) →
    Says (with_message a typed m x) old mid (Ok (Some text)) → Did (go text) mid new r → Did (with_message a typed m x otherwise go) old new r
was_spoken a typed m x otherwise go old mid new text (Ok y) s e = (e.0 ∙ sym (s.1 otherwise go), kept_after old mid new s.0 e.1)
was_spoken a typed m x otherwise go old mid new text (Err fault) s e = same_after old mid new s.0.1 e

pub was_not_there : {X : Type 0} (a : Actor) (typed : Typed) (m : Message) (x : Dbref) (otherwise : Change) (go : List ℕ → Change) (old mid new : Guard) (r : Result X NoMemory) →
    Says (with_message a typed m x) old mid (Ok None) → Did otherwise mid new r → Did (with_message a typed m x otherwise go) old new r
was_not_there a typed m x otherwise go old mid new (Ok y) s e =
    let there : Done otherwise old new = subst (λ g. Done otherwise g new) s.0 e in
    (there.0 ∙ sym (s.1 otherwise go), there.1)
was_not_there a typed m x otherwise go old mid new (Err fault) s e = subst (λ g. Same g new) s.0 e

pub ruleset saying = (was_spoken, was_not_there)

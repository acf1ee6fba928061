-- What evaluating a formula makes.
use Rattle.std.proofs.Common.{◌≡◌, ℕ, ℤ, List, [], ◌∷◌, take, drop, Some, refl, sym, ap, ◌∙◌, subst}
use Rattle.std.specs.Prelude.{Result, Ok, Err}
use Rattle.std.proofs.lemmas.Option.{same_Some}
use Rattle.muck_model.specs.declared.dbref.Dbref.{Dbref}
use Rattle.spec_live.specs.Lives.{Live}
use Rattle.spec_rights.specs.declared.act.Actor.{Actor}
use Rattle.spec_commands.specs.Finding.{actor_of}
use Rattle.mpi.specs.declared.fault.MpiFault.TheVariants.{Unclosed, UnknownFunction, BadCount, BadValue, TooManyCommands, TooLong, Denied, NoMemory as WantsMemory}
use Rattle.mpi.specs.Hosting.{Means, IfMemory}
use Rattle.mpi.specs.Variables.{Variables}
use Rattle.spec_mpi.specs.Telling.{MpiAnswer}
use Rattle.spec_mpi.specs.Messages.{formula_heard, variables_of}
use Rattle.muf_model.specs.Datum.{Datum, int, text, object}
use Rattle.muf_frame.specs.declared.fault.PrimFault.{PrimFault}
use Rattle.muf_frame.specs.declared.fault.PrimFault.TheVariants.{Fault, NoMemory}
use Rattle.muck_perm.specs.declared.guard.Guard.{Guard}
use Rattle.muck_perm.specs.inner.Guards.{Same, objects_of, world_of}
use Rattle.spec_prims.specs.Formulas.{formula_answered, formula_parsed, parse_done}
use Rattle.prim_common.specs.inner.Applied.{Makes}
use Rattle.prim_common.specs.declared.made.Made.{Made}
use Rattle.prim_common.proofs.Applying.{wants}
use Rattle.prim_prop.specs.inner.Asked.{named_in, added_by}
use Rattle.prim_prop.specs.inner.Parsed.{IsAnswered}

-- what was meant is made, and its world is there
answered_so : (meant answer : MpiAnswer) (v : Live) (old new : Guard) (result : Result Made PrimFault) → Means meant answer → IfMemory answer (world_of new ≡ v) → new.actor ≡ old.actor → Same old new → IsAnswered answer result →
    Makes (formula_answered meant v) old new result
answered_so meant answer v old new (Err NoMemory) m w a same s = wants (formula_answered meant v) old new same
answered_so meant (Ok value) v old new (Ok made) m w a same s = subst (λ x. Makes (formula_answered x v) old new (Ok made)) (sym m) (s, w, (a, same))
answered_so meant (Ok value) v old new (Err (Fault f)) m w a same s = absurd s
answered_so meant (Err WantsMemory) v old new (Ok made) m w a same s = absurd s
answered_so meant (Err WantsMemory) v old new (Err (Fault f)) m w a same s = absurd s
answered_so meant (Err Unclosed) v old new (Ok made) m w a same s = absurd s
answered_so meant (Err Unclosed) v old new (Err (Fault f)) m w a same s = subst (λ x. Makes (formula_answered x v) old new (Err (Fault f))) (sym m) (s, w, (a, same))
answered_so meant (Err UnknownFunction) v old new (Ok made) m w a same s = absurd s
answered_so meant (Err UnknownFunction) v old new (Err (Fault f)) m w a same s = subst (λ x. Makes (formula_answered x v) old new (Err (Fault f))) (sym m) (s, w, (a, same))
answered_so meant (Err BadCount) v old new (Ok made) m w a same s = absurd s
answered_so meant (Err BadCount) v old new (Err (Fault f)) m w a same s = subst (λ x. Makes (formula_answered x v) old new (Err (Fault f))) (sym m) (s, w, (a, same))
answered_so meant (Err BadValue) v old new (Ok made) m w a same s = absurd s
answered_so meant (Err BadValue) v old new (Err (Fault f)) m w a same s = subst (λ x. Makes (formula_answered x v) old new (Err (Fault f))) (sym m) (s, w, (a, same))
answered_so meant (Err TooManyCommands) v old new (Ok made) m w a same s = absurd s
answered_so meant (Err TooManyCommands) v old new (Err (Fault f)) m w a same s = subst (λ x. Makes (formula_answered x v) old new (Err (Fault f))) (sym m) (s, w, (a, same))
answered_so meant (Err TooLong) v old new (Ok made) m w a same s = absurd s
answered_so meant (Err TooLong) v old new (Err (Fault f)) m w a same s = subst (λ x. Makes (formula_answered x v) old new (Err (Fault f))) (sym m) (s, w, (a, same))
answered_so meant (Err (Denied rule)) v old new (Ok made) m w a same s = absurd s
answered_so meant (Err (Denied rule)) v old new (Err (Fault f)) m w a same s = subst (λ x. Makes (formula_answered x v) old new (Err (Fault f))) (sym m) (s, w, (a, same))

-- A formula that was evaluated for the player in the place of the program. Before that the guard is as it was, and behind it the
-- program acts again.
pub evaluated_so : (old after new : Guard) (this : Dbref) (how formula : List ℕ) (vars : Variables) (answer : MpiAnswer) (result : Result Made PrimFault) → vars ≡ variables_of how [] [] →
    Means (formula_heard (actor_of (objects_of old) old.actor.player) this formula vars (world_of old)).0 answer → IfMemory answer (world_of after ≡ (formula_heard (actor_of (objects_of old) old.actor.player) this formula vars (world_of old)).1) →
    Same old after → new ≡ record after { actor = old.actor } → IsAnswered answer result → Makes (formula_parsed old.actor how formula this.0 (world_of old)) old new result
unfolding formula_parsed
evaluated_so old after new this how formula vars answer result v m w same is s =
    let a : Actor = actor_of (objects_of old) old.actor.player in
    let fresh : Guard = record after { actor = old.actor } in
    let there : Makes (formula_answered (formula_heard a this formula vars (world_of old)).0 (formula_heard a this formula vars (world_of old)).1) old fresh result =
    answered_so (formula_heard a this formula vars (world_of old)).0 answer (formula_heard a this formula vars (world_of old)).1 old fresh result m w refl same s in
    subst (λ (g : Guard). Makes (formula_answered (formula_heard a this formula (variables_of how [] []) (world_of old)).0 (formula_heard a this formula (variables_of how [] []) (world_of old)).1) old g result) (sym is)
    (subst (λ (vs : Variables). Makes (formula_answered (formula_heard a this formula vs (world_of old)).0 (formula_heard a this formula vs (world_of old)).1) old fresh result) v there)

pub parsed_so : (a : Actor) (stack : List Datum) (w : Live) (n : ℤ) (how : List ℕ) (d : ℤ) (formula : List ℕ) → added_by stack ≡ Some (n, how) → named_in (drop 2 stack) ≡ Some (d, formula) → parse_done a (take 4 stack) w ≡ formula_parsed a how formula d w
parsed_so a (int m ∷ text u ∷ text s ∷ object o ∷ rest) w n how d formula f e =
    ap (λ (q : ℤ × List ℕ). formula_parsed a u q.1 q.0 w) (same_Some (o, s) (d, formula) e) ∙ ap (λ (q : ℤ × List ℕ). formula_parsed a q.1 formula d w) (same_Some (m, u) (n, how) f)
parsed_so a stack w n how d formula f e = absurd (cc)

pub ruleset parsing_steps = (evaluated_so, parsed_so)

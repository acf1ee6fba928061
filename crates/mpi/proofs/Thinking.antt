-- How thoughts are put together.
use Rattle.std.proofs.Common.{◌≡◌, sym, subst}
use Rattle.std.specs.Prelude.{Result, Ok, Err}
use Rattle.mpi.specs.declared.fault.MpiFault.{MpiFault}
use Rattle.mpi.specs.declared.fault.MpiFault.TheVariants.{Unclosed, UnknownFunction, BadCount, BadValue, TooManyCommands, TooLong, Denied, NoMemory}
use Rattle.mpi.specs.declared.mind.Mind.{Mind}
use Rattle.mpi.specs.Hosting.{Means}
use Rattle.mpi.specs.Thoughts.{MindState, Thought, Comes, Thinks, carried, thought_followed, answers_with, on_mind, OnMind}

-- what equals what comes, comes
pub comes_by : {S A : Type 0} (v w : Result A MpiFault × MindState S) (new : MindState S) (r : Result A MpiFault) → v ≡ w → Comes w new r → Comes v new r
comes_by v w new r e h = subst (λ x. Comes x new r) (sym e) h

-- behind the first one the second is thought
pub then_ok : {S A B : Type 0} (m : Thought S A) (k : A → Thought S B) (old mid new : MindState S) (x : A) (r : Result B MpiFault)
    → Thinks m old mid (Ok x) → Thinks (k x) mid new r → Thinks (thought_followed m k) old new r
unfolding thought_followed
then_ok m k old mid new x r e h = comes_by (thought_followed m k old) (k x mid) new r (λ i. carried k (e i).0 (e i).1) h

-- a fault of the first ends both
pub then_err : {S A B : Type 0} (m : Thought S A) (k : A → Thought S B) (old mid : MindState S) (f : MpiFault)
    → Thinks m old mid (Err f) → Thinks (thought_followed m k) old mid (Err f)
unfolding thought_followed
then_err m k old mid NoMemory h = tt
then_err m k old mid Unclosed h = λ i. carried k (h i).0 (h i).1
then_err m k old mid UnknownFunction h = λ i. carried k (h i).0 (h i).1
then_err m k old mid BadCount h = λ i. carried k (h i).0 (h i).1
then_err m k old mid BadValue h = λ i. carried k (h i).0 (h i).1
then_err m k old mid TooManyCommands h = λ i. carried k (h i).0 (h i).1
then_err m k old mid TooLong h = λ i. carried k (h i).0 (h i).1
then_err m k old mid (Denied rule) h = λ i. carried k (h i).0 (h i).1

-- an answer that is known
pub known : {S A : Type 0} (meant r : Result A MpiFault) (old : MindState S) → Means meant r → Thinks (answers_with meant) old old r
known meant (Ok x) old h = λ i. (h i, old)
known meant (Err NoMemory) old h = tt
known meant (Err Unclosed) old h = λ i. (h i, old)
known meant (Err UnknownFunction) old h = λ i. (h i, old)
known meant (Err BadCount) old h = λ i. (h i, old)
known meant (Err BadValue) old h = λ i. (h i, old)
known meant (Err TooManyCommands) old h = λ i. (h i, old)
known meant (Err TooLong) old h = λ i. (h i, old)
known meant (Err (Denied rule)) old h = λ i. (h i, old)

-- what is made of the variables alone leaves the world
pub of_mind : {S A : Type 0} (f : Mind → Result A MpiFault × Mind) (old new : Mind) (w : S) (r : Result A MpiFault) → OnMind f old new r → Thinks (on_mind f) (old, w) (new, w) r
of_mind f old new w (Ok x) h = λ i. ((h i).0, ((h i).1, w))
of_mind f old new w (Err NoMemory) h = tt
of_mind f old new w (Err Unclosed) h = λ i. ((h i).0, ((h i).1, w))
of_mind f old new w (Err UnknownFunction) h = λ i. ((h i).0, ((h i).1, w))
of_mind f old new w (Err BadCount) h = λ i. ((h i).0, ((h i).1, w))
of_mind f old new w (Err BadValue) h = λ i. ((h i).0, ((h i).1, w))
of_mind f old new w (Err TooManyCommands) h = λ i. ((h i).0, ((h i).1, w))
of_mind f old new w (Err TooLong) h = λ i. ((h i).0, ((h i).1, w))
of_mind f old new w (Err (Denied rule)) h = λ i. ((h i).0, ((h i).1, w))

pub ruleset thinking = (then_ok, then_err, known, of_mind)

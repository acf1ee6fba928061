-- What evaluating is: from variables, commands that are left and the world to an answer or a fault, and to these after it.
use Rattle.std.specs.Prelude.{◌≡◌, ℕ, ◌-◌, ◌==◌, if◌then◌else◌, List, Option, Some, None, Result, Ok, Err}
use Rattle.std.specs.FinMap.{get, insert}
use Rattle.mpi.specs.declared.fault.MpiFault.{MpiFault}
use Rattle.mpi.specs.declared.fault.MpiFault.TheVariants.{BadValue, TooManyCommands, NoMemory}
use Rattle.mpi.specs.declared.mind.Mind.{Mind}
use Rattle.mpi.specs.Made.{text_or_long}
use Rattle.mpi.specs.Variables.{given_back}

abbrev pub MindState : Type 0 → Type 0
MindState S = Mind × S

abbrev pub Thought : Type 0 → Type 0 → Type 0
Thought S A = MindState S → Result A MpiFault × MindState S

-- the variable with this value
abbrev pub with_value : List ℕ → List ℕ → Mind → Mind
with_value name value m = record m { variables = insert m.variables name value }

-- the variable as it was before
abbrev pub given_back_in : List ℕ → Option (List ℕ) → Mind → Mind
given_back_in name old m = record m { variables = given_back name old m.variables }

-- a value that may be lacking
abbrev pub found_or_bad : {A : Type 0} → Option A → Result A MpiFault
found_or_bad (Some x) = Ok x
found_or_bad None = Err BadValue

-- what is made of variables and commands that are left; want of memory alone is free
abbrev pub OnMind : {A : Type 0} → (Mind → Result A MpiFault × Mind) → Mind → Mind → Result A MpiFault → Type 0
OnMind f old new (Ok x) = f old ≡ (Ok x, new)
OnMind f old new (Err NoMemory) = Unit {0}
OnMind f old new (Err fault) = f old ≡ (Err fault, new)

-- one command, where one is left
abbrev pub one_less : Mind → Result (Unit {0}) MpiFault × Mind
one_less m = if m.left == 0 then (Err TooManyCommands, m) else (Ok tt, record m { left = m.left - 1 })

module _ {S : Type 0} where
  abbrev pub gives : {A : Type 0} → A → Thought S A
  gives x s = (Ok x, s)

  abbrev pub fails : {A : Type 0} → MpiFault → Thought S A
  fails fault s = (Err fault, s)

  abbrev pub carried : {A B : Type 0} → (A → Thought S B) → Result A MpiFault → MindState S → Result B MpiFault × MindState S
  carried next (Ok x) s = next x s
  carried next (Err fault) s = (Err fault, s)

  -- the second is done with what the first one gives; a fault of the first ends both
  unfoldable pub thought_followed : {A B : Type 0} → Thought S A → (A → Thought S B) → Thought S B
  thought_followed first next s = carried next (first s).0 (first s).1

  -- an answer that is known
  abbrev pub answers_with : {A : Type 0} → Result A MpiFault → Thought S A
  answers_with answer s = (answer, s)

  -- a value that may be lacking
  abbrev pub found_or_fault : {A : Type 0} → Option A → Thought S A
  found_or_fault value = answers_with (found_or_bad value)

  -- what is made of the variables alone
  abbrev pub on_mind : {A : Type 0} → (Mind → Result A MpiFault × Mind) → Thought S A
  on_mind f s = ((f s.0).0, ((f s.0).1, s.1))

  -- a text that isn't too long
  unfoldable pub text_sized : List ℕ → Thought S (List ℕ)
  text_sized text = answers_with (text_or_long text)

  -- what is one command
  unfoldable pub command_counted : {A : Type 0} → Thought S A → Thought S A
  command_counted thought = thought_followed (on_mind one_less) (λ done. thought)

  -- gives a variable a value, which is also the answer
  unfoldable pub keeps : List ℕ → List ℕ → Thought S (List ℕ)
  keeps name value s = (Ok value, (with_value name value s.0, s.1))

  -- the value of a variable
  unfoldable pub variable : List ℕ → Thought S (List ℕ)
  variable name s = found_or_fault (get s.0.variables name) s

  -- behind a thought the variable of that name is as it was before, also where it fails
  abbrev back : List ℕ → Option (List ℕ) → MindState S → MindState S
  back name old s = (given_back_in name old s.0, s.1)

  unfoldable pub scoped : {A : Type 0} → List ℕ → Thought S A → Thought S A
  scoped name thought s = ((thought s).0, back name (get s.0.variables name) (thought s).1)

  -- the answer and the state after it are these; want of memory alone is free
  abbrev pub Comes : {A : Type 0} → Result A MpiFault × MindState S → MindState S → Result A MpiFault → Type 0
  Comes meant new (Ok x) = meant ≡ (Ok x, new)
  Comes meant new (Err NoMemory) = Unit {0}
  Comes meant new (Err fault) = meant ≡ (Err fault, new)

  -- they are what the thought makes of the state before
  abbrev pub Thinks : {A : Type 0} → Thought S A → MindState S → MindState S → Result A MpiFault → Type 0
  Thinks thought old new answer = Comes (thought old) new answer

-- What functions make of their arguments, once these are evaluated.
use Rattle.std.proofs.Common.{◌≡◌, ℕ, List, refl, sym, subst}
use Rattle.std.specs.Prelude.{Result, Ok, Err, Option, Some, None}
use Rattle.mpi.specs.declared.fault.MpiFault.{MpiFault}
use Rattle.mpi.specs.declared.fault.MpiFault.TheVariants.{Unclosed, UnknownFunction, BadCount, BadValue, TooManyCommands, TooLong, Denied, NoMemory}
use Rattle.mpi.specs.declared.functions.Function.{Function}
use Rattle.mpi.specs.declared.functions.Group.TheVariants as group
use Rattle.mpi.specs.declared.host.Ask.{Ask}
use Rattle.mpi.specs.declared.host.Deed.{Deed}
use Rattle.mpi.specs.declared.mind.Mind.{Mind}
use Rattle.mpi.specs.Hosting.{Means, Meant}
use Rattle.mpi.specs.Made.{found_text}
use Rattle.mpi.specs.Thoughts.{MindState, Thinks, thought_followed, found_or_fault, found_or_bad, answers_with, text_sized}
use Rattle.mpi.specs.Values.{function_text}
use Rattle.mpi.specs.Meaning.{Scene, acted_by, doing, text_unless, deed_of, ask_of, given_by}
use Rattle.mpi.proofs.Thinking.{then_ok, then_err, known, comes_by}

module _ {S : Type 0} (scene : Scene S) where
  done_ok : (d : Deed) (m : Mind) (w v : S) → scene.powers.does d w ≡ (None, v) → doing scene d (m, w) ≡ (Ok (given_by d), (m, v))
  unfolding doing
  done_ok d m w v h = λ i. (text_unless (given_by d) (h i).0, (m, (h i).1))

  done_err : (d : Deed) (m : Mind) (w v : S) (f : MpiFault) → scene.powers.does d w ≡ (Some f, v) → doing scene d (m, w) ≡ (Err f, (m, v))
  unfolding doing
  done_err d m w v f h = λ i. (text_unless (given_by d) (h i).0, (m, (h i).1))

  doing_fails : (d : Deed) (m : Mind) (w v : S) (f : MpiFault) → Meant {A = Unit {0}} (scene.powers.does d w) v (Err f) → Thinks (doing scene d) (m, w) (m, v) (Err f)
  doing_fails d m w v NoMemory h = tt
  doing_fails d m w v Unclosed h = done_err d m w v Unclosed h
  doing_fails d m w v UnknownFunction h = done_err d m w v UnknownFunction h
  doing_fails d m w v BadCount h = done_err d m w v BadCount h
  doing_fails d m w v BadValue h = done_err d m w v BadValue h
  doing_fails d m w v TooManyCommands h = done_err d m w v TooManyCommands h
  doing_fails d m w v TooLong h = done_err d m w v TooLong h
  doing_fails d m w v (Denied rule) h = done_err d m w v (Denied rule) h

  -- a deed that is done
  pub deed_done : (f : Function) (values : List (List ℕ)) (m : Mind) (w v : S) (d : Deed) (given : List ℕ) → Means (found_or_bad (deed_of f scene values w)) (Ok d)
      → given ≡ given_by d → Meant {A = Unit {0}} (scene.powers.does d w) v (Ok tt) → Thinks (acted_by group.Deed f scene values) (m, w) (m, v) (Ok given)
  unfolding acted_by
  deed_done f values m w v d given h e k =
      then_ok (found_or_fault (deed_of f scene values w)) (doing scene) (m, w) (m, w) (m, v) d (Ok given)
      (known (found_or_bad (deed_of f scene values w)) (Ok d) (m, w) h)
      (subst (λ text. doing scene d (m, w) ≡ (Ok text, (m, v))) (sym e) (done_ok d m w v k))

  -- a deed with a fault
  pub deed_fails : (f : Function) (values : List (List ℕ)) (m : Mind) (w v : S) (d : Deed) (fault : MpiFault) → Means (found_or_bad (deed_of f scene values w)) (Ok d)
      → Meant {A = Unit {0}} (scene.powers.does d w) v (Err fault) → Thinks (acted_by group.Deed f scene values) (m, w) (m, v) (Err fault)
  unfolding acted_by
  deed_fails f values m w v d fault h k =
      then_ok (found_or_fault (deed_of f scene values w)) (doing scene) (m, w) (m, w) (m, v) d (Err fault)
      (known (found_or_bad (deed_of f scene values w)) (Ok d) (m, w) h)
      (doing_fails d m w v fault k)

  -- a deed whose object isn't there
  pub deed_lacks : (f : Function) (values : List (List ℕ)) (s : MindState S) (fault : MpiFault) → Means (found_or_bad (deed_of f scene values s.1)) (Err fault)
      → Thinks (acted_by group.Deed f scene values) s s (Err fault)
  unfolding acted_by
  deed_lacks f values s fault h =
      then_err (found_or_fault (deed_of f scene values s.1)) (doing scene) s s fault (known (found_or_bad (deed_of f scene values s.1)) (Err fault) s h)

  -- a question that is answered
  pub ask_answers : (f : Function) (values : List (List ℕ)) (s : MindState S) (a : Ask) (r : Result (List ℕ) MpiFault) → Means (found_or_bad (ask_of f scene values s.1)) (Ok a)
      → Means (scene.powers.tells a s.1) r → Thinks (acted_by group.Ask f scene values) s s r
  unfolding acted_by
  ask_answers f values s a r h k =
      then_ok (found_or_fault (ask_of f scene values s.1)) (λ question. answers_with (scene.powers.tells question s.1)) s s s a r
      (known (found_or_bad (ask_of f scene values s.1)) (Ok a) s h)
      (known (scene.powers.tells a s.1) r s k)

  pub ask_lacks : (f : Function) (values : List (List ℕ)) (s : MindState S) (fault : MpiFault) → Means (found_or_bad (ask_of f scene values s.1)) (Err fault)
      → Thinks (acted_by group.Ask f scene values) s s (Err fault)
  unfolding acted_by
  ask_lacks f values s fault h =
      then_err (found_or_fault (ask_of f scene values s.1)) (λ question. answers_with (scene.powers.tells question s.1)) s s fault (known (found_or_bad (ask_of f scene values s.1)) (Err fault) s h)

  text_is : (o : Option (List ℕ)) (s : MindState S) → thought_followed (found_or_fault o) text_sized s ≡ (found_text o, s)
  unfolding thought_followed text_sized
  text_is None s = refl
  text_is (Some text) s = refl

  -- a text that is made
  pub text_made : (f : Function) (values : List (List ℕ)) (s : MindState S) (r : Result (List ℕ) MpiFault) → Means (found_text (function_text f values)) r → Thinks (acted_by group.Text f scene values) s s r
  unfolding acted_by
  text_made f values s r h =
      comes_by (thought_followed (found_or_fault (function_text f values)) text_sized s) (found_text (function_text f values), s) s r (text_is (function_text f values) s) (known (found_text (function_text f values)) r s h)

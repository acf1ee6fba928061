-- What stands between brackets comes to, and what functions that evaluate their arguments themselves come to.
use Rattle.std.proofs.Common.{◌≡◌, ℕ, ◌-◌, ◌<◌, zero, suc, true, false, cond, List, [], refl, sym, subst, ap, ◌∙◌, arith}
use Rattle.std.specs.Prelude.{Result, Ok, Err, Option, Some, None, ℤ, ◌==◌}
use Rattle.std.specs.FinMap.{get}
use Rattle.muck_laws.proofs.Numbers.{not_zero}
use Rattle.mpi.specs.declared.fault.MpiFault.{MpiFault}
use Rattle.mpi.specs.declared.fault.MpiFault.TheVariants.{TooManyCommands, NoMemory}
use Rattle.mpi.specs.declared.functions.Function.{Function}
use Rattle.mpi.specs.declared.functions.Group.{Group}
use Rattle.mpi.specs.declared.functions.How.{How}
use Rattle.mpi.specs.declared.functions.How.TheVariants.{First, Lazy}
use Rattle.mpi.specs.declared.functions.Way.{Way}
use Rattle.mpi.specs.declared.functions.Way.TheVariants.{Literal, If, All, Any, While, With}
use Rattle.mpi.specs.declared.functions.Scope.{Scope}
use Rattle.mpi.specs.declared.functions.Scope.TheVariants.{Once, Numbers, Items}
use Rattle.mpi.specs.declared.functions.Keep.{Keep}
use Rattle.mpi.specs.declared.mind.Mind.{Mind}
use Rattle.mpi.specs.Functions.{row_of_function}
use Rattle.mpi.specs.Gathering.{gathered_text}
use Rattle.mpi.specs.Hosting.{Means}
use Rattle.mpi.specs.Thoughts.{MindState, Thought, Comes, Thinks, carried, thought_followed, found_or_bad, answers_with, command_counted, variable, one_less}
use Rattle.mpi.specs.Values.{nth, number_or_zero, items}
use Rattle.mpi.specs.Meaning.{Scene, meaning, body_entered, function_called, called_as, called_ahead, variable_in, prepared, performed, lazily, branch_chosen, branch_at, argument_texts, each_value, until_wanted, while_true, turns_while, in_scope, bodies_in_scope, text_with, turns_for, each_item, acted_by}
use Rattle.mpi.proofs.Thinking.{then_ok, then_err, known, comes_by}
use Rattle.mpi.proofs.Turns.{counted_first}

-- want of memory
pub refused : {S A : Type 0} (v : Result A MpiFault × MindState S) (s : MindState S) (r : Result A MpiFault) → r ≡ Err NoMemory → Comes v s r
refused v s r e = subst (λ x. Comes v s x) (sym e) tt

one_less_is : (m : Mind) → 0 < m.left → one_less m ≡ (Ok tt, record m { left = m.left - 1 })
one_less_is m h = ap (λ t. cond t (Err TooManyCommands, m) (Ok tt, record m { left = m.left - 1 })) (not_zero m.left h)

none_less : (m : Mind) → m.left ≡ 0 → one_less m ≡ (Err TooManyCommands, m)
none_less m e = ap (λ n. cond (n == 0) (Err TooManyCommands, m) (Ok tt, record m { left = m.left - 1 })) e

module _ {S : Type 0} (scene : Scene S) where
  -- no function may stand so deep
  pub too_deep : (n : ℕ) (body : List ℕ) (s : MindState S) → n ≡ 0 → body_entered scene n body s ≡ (Err TooManyCommands, s)
  unfolding body_entered
  too_deep zero body s e = refl
  too_deep (suc n) body s e = absurd (omega (arith, e))

  uncounted : (thought : Thought S (List ℕ)) (s : MindState S) → s.0.left ≡ 0 → command_counted thought s ≡ (Err TooManyCommands, s)
  unfolding command_counted thought_followed
  uncounted thought s e = let h = none_less s.0 e in λ i. carried (λ done. thought) (h i).0 ((h i).1, s.1)

  -- no command is left
  pub none_left : (n : ℕ) (body : List ℕ) (s : MindState S) → s.0.left ≡ 0 → body_entered scene n body s ≡ (Err TooManyCommands, s)
  unfolding body_entered
  none_left zero body s e = refl
  none_left (suc n) body s e = uncounted (function_called scene (meaning scene n) body) s e

  -- a command that is entered
  pub entered_is : (n : ℕ) (body : List ℕ) (s t : MindState S) (r : Result (List ℕ) MpiFault) → 0 < n → 0 < s.0.left
      → Thinks (function_called scene (meaning scene (n - 1)) body) (record s.0 { left = s.0.left - 1 }, s.1) t r → Thinks (body_entered scene n body) s t r
  unfolding body_entered
  entered_is zero body s t r h k thinks = absurd (omega (arith, h))
  entered_is (suc n) body s t r h k thinks =
      let less : Mind = record s.0 { left = s.0.left - 1 } in
      let same : suc n - 1 ≡ n = omega arith in
      comes_by (body_entered scene (suc n) body s) (function_called scene (meaning scene n) body (less, s.1)) t r (counted_first (function_called scene (meaning scene n) body) s less (one_less_is s.0 k))
      (subst (λ m. Thinks (function_called scene (meaning scene m) body) (less, s.1) t r) same thinks)

  module _ (go : List ℕ → Thought S (List ℕ)) where
    -- the value of a variable
    pub variable_comes : (body name : List ℕ) (m : Mind) (w : S) (r : Result (List ℕ) MpiFault) → variable_in body ≡ Some name → Means (found_or_bad (get m.variables name)) r
        → Thinks (function_called scene go body) (m, w) (m, w) r
    unfolding function_called variable
    variable_comes body name m w r e h =
        comes_by (function_called scene go body (m, w)) (variable name (m, w)) (m, w) r (λ i. called_as scene go body (e i) (m, w))
        (known (found_or_bad (get m.variables name)) r (m, w) h)

    abbrev of_found : Function × Option (List ℕ) → Thought S (List ℕ)
    of_found found = performed (row_of_function found.0).how scene go found.0 found.1

    -- what isn't a function, or hasn't so many arguments
    pub prepared_fails : (body : List ℕ) (s : MindState S) (f : MpiFault) → variable_in body ≡ None → Means (prepared body) (Err f) → Thinks (function_called scene go body) s s (Err f)
    unfolding function_called called_ahead
    prepared_fails body s f e h =
        comes_by (function_called scene go body s) (called_ahead scene go body s) s (Err f) (λ i. called_as scene go body (e i) s)
        (then_err (answers_with (prepared body)) of_found s s f (known (prepared body) (Err f) s h))

    -- a function that was found
    pub prepared_comes : (body : List ℕ) (f : Function) (behind : Option (List ℕ)) (s t : MindState S) (r : Result (List ℕ) MpiFault) → variable_in body ≡ None → prepared body ≡ Ok (f, behind)
        → Thinks (performed (row_of_function f).how scene go f behind) s t r → Thinks (function_called scene go body) s t r
    unfolding function_called called_ahead
    prepared_comes body f behind s t r e found h =
        comes_by (function_called scene go body s) (called_ahead scene go body s) t r (λ i. called_as scene go body (e i) s)
        (then_ok (answers_with (prepared body)) of_found s s t (f, behind) r (λ i. (found i, s)) h)

    -- an argument that fails
    pub first_fails : (how : How) (group : Group) (f : Function) (behind : Option (List ℕ)) (texts : List (List ℕ)) (s t : MindState S) (fault : MpiFault) → First group ≡ how
        → texts ≡ argument_texts behind → Thinks (each_value go [] texts) s t (Err fault) → Thinks (performed how scene go f behind) s t (Err fault)
    first_fails how group f behind texts s t fault e same h =
        subst (λ k. Thinks (performed k scene go f behind) s t (Err fault)) e
        (then_err (each_value go [] (argument_texts behind)) (acted_by group f scene) s t fault (subst (λ xs. Thinks (each_value go [] xs) s t (Err fault)) same h))

    -- what a function makes of its arguments
    pub first_comes : (how : How) (group : Group) (f : Function) (behind : Option (List ℕ)) (texts values : List (List ℕ)) (s t u : MindState S) (r : Result (List ℕ) MpiFault) → First group ≡ how
        → texts ≡ argument_texts behind → each_value go [] texts s ≡ (Ok values, t) → Thinks (acted_by group f scene values) t u r → Thinks (performed how scene go f behind) s u r
    first_comes how group f behind texts values s t u r e same h acts =
        subst (λ k. Thinks (performed k scene go f behind) s u r) e
        (then_ok (each_value go [] (argument_texts behind)) (acted_by group f scene) s t u values r (subst (λ xs. each_value go [] xs s ≡ (Ok values, t)) same h) acts)

    -- a function that evaluates its arguments itself
    pub lazy_comes : (how : How) (way : Way) (f : Function) (behind : Option (List ℕ)) (s t : MindState S) (r : Result (List ℕ) MpiFault) → Lazy way ≡ how
        → Thinks (lazily way go behind) s t r → Thinks (performed how scene go f behind) s t r
    lazy_comes how way f behind s t r e h = subst (λ k. Thinks (performed k scene go f behind) s t r) e h

module _ {S : Type 0} (go : List ℕ → Thought S (List ℕ)) where
  pub literal_comes : (way : Way) (behind : Option (List ℕ)) (text : List ℕ) (s : MindState S) → way ≡ Literal → text ≡ gathered_text behind → lazily way go behind s ≡ (Ok text, s)
  unfolding lazily
  literal_comes way behind text s is e = ap (λ w. lazily w go behind s) is ∙ (λ i. (Ok (sym e i), s))

  pub if_fails : (way : Way) (behind : Option (List ℕ)) (texts : List (List ℕ)) (first : List ℕ) (s t : MindState S) (f : MpiFault) → way ≡ If → texts ≡ argument_texts behind → first ≡ nth 0 texts
      → Thinks (go first) s t (Err f) → Thinks (lazily way go behind) s t (Err f)
  unfolding lazily
  if_fails way behind texts first s t f is e at h =
      subst (λ w. Thinks (lazily w go behind) s t (Err f)) (sym is)
      (subst (λ xs. Thinks (branch_chosen go xs) s t (Err f)) e
      (then_err (go (nth 0 texts)) (λ value. go (nth (branch_at value) texts)) s t f (subst (λ x. Thinks (go x) s t (Err f)) at h)))

  pub if_comes : (way : Way) (behind : Option (List ℕ)) (texts : List (List ℕ)) (first second value : List ℕ) (s t u : MindState S) (r : Result (List ℕ) MpiFault) → way ≡ If → texts ≡ argument_texts behind
      → first ≡ nth 0 texts → go first s ≡ (Ok value, t) → second ≡ nth (branch_at value) texts → Thinks (go second) t u r → Thinks (lazily way go behind) s u r
  unfolding lazily
  if_comes way behind texts first second value s t u r is e at h next k =
      subst (λ w. Thinks (lazily w go behind) s u r) (sym is)
      (subst (λ xs. Thinks (branch_chosen go xs) s u r) e
      (then_ok (go (nth 0 texts)) (λ value. go (nth (branch_at value) texts)) s t u value r (subst (λ x. go x s ≡ (Ok value, t)) at h) (subst (λ x. Thinks (go x) t u r) next k)))

  pub all_comes : (way : Way) (behind : Option (List ℕ)) (texts : List (List ℕ)) (s t : MindState S) (r : Result (List ℕ) MpiFault) → way ≡ All → texts ≡ argument_texts behind
      → Thinks (until_wanted false go texts) s t r → Thinks (lazily way go behind) s t r
  unfolding lazily
  all_comes way behind texts s t r is e h = subst (λ w. Thinks (lazily w go behind) s t r) (sym is) (subst (λ xs. Thinks (until_wanted false go xs) s t r) e h)

  pub any_comes : (way : Way) (behind : Option (List ℕ)) (texts : List (List ℕ)) (s t : MindState S) (r : Result (List ℕ) MpiFault) → way ≡ Any → texts ≡ argument_texts behind
      → Thinks (until_wanted true go texts) s t r → Thinks (lazily way go behind) s t r
  unfolding lazily
  any_comes way behind texts s t r is e h = subst (λ w. Thinks (lazily w go behind) s t r) (sym is) (subst (λ xs. Thinks (until_wanted true go xs) s t r) e h)

  pub while_comes : (way : Way) (behind : Option (List ℕ)) (texts : List (List ℕ)) (s t : MindState S) (r : Result (List ℕ) MpiFault) → way ≡ While → texts ≡ argument_texts behind
      → Thinks (while_true go texts) s t r → Thinks (lazily way go behind) s t r
  unfolding lazily
  while_comes way behind texts s t r is e h = subst (λ w. Thinks (lazily w go behind) s t r) (sym is) (subst (λ xs. Thinks (while_true go xs) s t r) e h)

  pub with_comes : (way : Way) (scope : Scope) (behind : Option (List ℕ)) (texts : List (List ℕ)) (s t : MindState S) (r : Result (List ℕ) MpiFault) → way ≡ With scope → texts ≡ argument_texts behind
      → Thinks (in_scope scope go texts) s t r → Thinks (lazily way go behind) s t r
  unfolding lazily
  with_comes way scope behind texts s t r is e h = subst (λ w. Thinks (lazily w go behind) s t r) (sym is) (subst (λ xs. Thinks (in_scope scope go xs) s t r) e h)

  pub once_comes : (scope : Scope) (values : List (List ℕ)) (name value body : List ℕ) (s t : MindState S) (r : Result (List ℕ) MpiFault) → scope ≡ Once → name ≡ nth 0 values → value ≡ nth 1 values
      → Thinks (text_with go name value body) s t r → Thinks (bodies_in_scope scope go values body) s t r
  unfolding bodies_in_scope
  once_comes scope values name value body s t r is e f h =
      subst (λ k. Thinks (bodies_in_scope k go values body) s t r) (sym is)
      (subst (λ n. Thinks (text_with go n (nth 1 values) body) s t r) e (subst (λ v. Thinks (text_with go name v body) s t r) f h))

  pub numbers_come : (scope : Scope) (values : List (List ℕ)) (name body : List ℕ) (from end step : ℤ) (s t : MindState S) (r : Result (List ℕ) MpiFault) → scope ≡ Numbers → name ≡ nth 0 values
      → from ≡ number_or_zero (nth 1 values) → end ≡ number_or_zero (nth 2 values) → step ≡ number_or_zero (nth 3 values)
      → Thinks (turns_for (suc s.0.left) go name body end step (Some from) []) s t r → Thinks (bodies_in_scope scope go values body) s t r
  unfolding bodies_in_scope
  numbers_come scope values name body from end step s t r is e f g k h =
      subst (λ x. Thinks (bodies_in_scope x go values body) s t r) (sym is)
      (comes_by (bodies_in_scope Numbers go values body s) (turns_for (suc s.0.left) go name body end step (Some from) [] s) t r
      (λ i. turns_for (suc s.0.left) go (sym e i) body (sym g i) (sym k i) (Some (sym f i)) [] s) h)

  pub items_come : (scope : Scope) (keep : Keep) (values : List (List ℕ)) (name list body : List ℕ) (s t : MindState S) (r : Result (List ℕ) MpiFault) → scope ≡ Items keep → name ≡ nth 0 values
      → list ≡ nth 1 values → Thinks (each_item keep go name body None (items list)) s t r → Thinks (bodies_in_scope scope go values body) s t r
  unfolding bodies_in_scope
  items_come scope keep values name list body s t r is e f h =
      subst (λ k. Thinks (bodies_in_scope k go values body) s t r) (sym is)
      (subst (λ n. Thinks (each_item keep go n body None (items (nth 1 values))) s t r) e (subst (λ l. Thinks (each_item keep go name body None (items l)) s t r) f h))

  -- turns over numbers, and over items, where nothing was turned yet
  pub turns_begin : (texts : List (List ℕ)) (last : List ℕ) (s : MindState S) (n : ℕ) → n ≡ suc s.0.left → last ≡ [] → while_true go texts s ≡ turns_while n go (nth 0 texts) (nth 1 texts) last s
  unfolding while_true
  turns_begin texts last s n e f = λ i. turns_while (sym e i) go (nth 0 texts) (nth 1 texts) (sym f i) s

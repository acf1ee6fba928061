-- What is so between each world and the one after a deed, or after a random word, is so between the world before a formula and the one
-- after it, where it is so of a world and itself, and goes from one step to the next.
use Rattle.std.proofs.Common.{ℕ, zero, suc, Bool, true, false, cond, List, [], ◌∷◌, ◌++◌, take, Option, Some, None}
use Rattle.std.specs.Prelude.{not, Result, Ok, Err, ℤ, int_lt, pos, codes}
use Rattle.std.specs.Fmt.{signed_decimal}
use Rattle.mpi.specs.declared.fault.MpiFault.{MpiFault}
use Rattle.mpi.specs.declared.fault.MpiFault.TheVariants.{Unclosed, TooManyCommands, TooLong}
use Rattle.mpi.specs.declared.functions.Function.{Function}
use Rattle.mpi.specs.declared.functions.Group.{Group}
use Rattle.mpi.specs.declared.functions.Group.TheVariants.{Variable, Test, Number, Text, Chance, Reference}
use Rattle.mpi.specs.declared.functions.Group.TheVariants as group
use Rattle.mpi.specs.declared.functions.How.{How}
use Rattle.mpi.specs.declared.functions.How.TheVariants.{First, Lazy}
use Rattle.mpi.specs.declared.functions.Way.{Way}
use Rattle.mpi.specs.declared.functions.Way.TheVariants.{Literal, If, All, Any, While, With}
use Rattle.mpi.specs.declared.functions.Scope.{Scope}
use Rattle.mpi.specs.declared.functions.Scope.TheVariants.{Once, Numbers, Items}
use Rattle.mpi.specs.declared.functions.Keep.{Keep}
use Rattle.mpi.specs.declared.host.Deed.{Deed}
use Rattle.mpi.specs.Brackets.{FormulaPiece, byte, call, formula_pieces, balances, scan_begun}
use Rattle.mpi.specs.Functions.{row_of_function}
use Rattle.mpi.specs.Gathering.{gathered_text, kept_item}
use Rattle.mpi.specs.Made.{is_long}
use Rattle.mpi.specs.Thoughts.{MindState, Thought, gives, fails, carried, thought_followed, answers_with, found_or_fault, on_mind, one_less, text_sized, command_counted, keeps, variable, scoped}
use Rattle.mpi.specs.Values.{nth, alike, is_true_text, truth_text, number_or_zero, function_text, items}
use Rattle.mpi.specs.Meaning.{Scene, is_within, next_number, argument_texts, prepared, variable_in, branch_at, before_body, ask_of, deed_of, doing, drawn, diced, acted_by, each_value, branch_chosen, until_wanted, turns_while, while_true, text_with, turns_for, each_item, bodies_in_scope, in_scope, lazily, performed, called_ahead, called_as, function_called, spelled, body_entered, meaning, nesting_most, evaluated}
use Rattle.spec_live.proofs.Keeping.{Order}

module _ {S : Type 0} (R : S → S → Type 0) (order : Order R) where
  -- it is so between the world before a thought and the one after it
  pub record Sound {A : Type 0} (thought : Thought S A) : Type 0 where
    pub law : (s : MindState S) → R s.1 (thought s).1.1

  answering : {A : Type 0} (answer : Result A MpiFault) → Sound (answers_with answer)
  answering answer = record { law = λ s. order.itself s.1 }

  carrying : {A B : Type 0} (next : A → Thought S B) → ((x : A) → Sound (next x)) → (r : Result A MpiFault) (t : MindState S) → R t.1 (carried next r t).1.1
  carrying next q (Ok x) t = (q x).law t
  carrying next q (Err fault) t = order.itself t.1

  following : {A B : Type 0} (first : Thought S A) (next : A → Thought S B) → Sound first → ((x : A) → Sound (next x)) → Sound (thought_followed first next)
  unfolding thought_followed
  following first next p q = record { law = λ s. order.both s.1 (first s).1.1 _ (p.law s) (carrying next q (first s).0 (first s).1) }

  either : {A : Type 0} (b : Bool) (f g : Thought S A) → Sound f → Sound g → Sound (cond b f g)
  either true f g p q = p
  either false f g p q = q

  one_command : Sound (on_mind one_less)
  one_command = record { law = λ s. order.itself s.1 }

  sizing : (text : List ℕ) → Sound (text_sized text)
  unfolding text_sized
  sizing text = record { law = λ s. order.itself s.1 }

  counting : {A : Type 0} (thought : Thought S A) → Sound thought → Sound (command_counted thought)
  unfolding command_counted
  counting thought p = following (on_mind one_less) (λ done. thought) one_command (λ done. p)

  keeping : (name value : List ℕ) → Sound (keeps name value)
  unfolding keeps
  keeping name value = record { law = λ s. order.itself s.1 }

  reading : (name : List ℕ) → Sound (variable name)
  unfolding variable
  reading name = record { law = λ s. order.itself s.1 }

  scoping : {A : Type 0} (name : List ℕ) (thought : Thought S A) → Sound thought → Sound (scoped name thought)
  unfolding scoped
  scoping name thought p = record { law = λ s. p.law s }

  module _ (scene : Scene S) (does : (d : Deed) (w : S) → R w (scene.powers.does d w).1) (draws : (w : S) → R w (scene.powers.draws w).1) where
    doing_one : (d : Deed) → Sound (doing scene d)
    unfolding doing
    doing_one d = record { law = λ s. does d s.1 }

    dicing : (n : ℤ) → Sound (diced scene n)
    unfolding diced
    dicing n = either (int_lt n (pos 1)) (gives (codes "0")) (drawn scene n) (answering (Ok (codes "0"))) (record { law = λ s. draws s.1 })

    acting_law : (g : Group) (f : Function) (values : List (List ℕ)) (s : MindState S) → R s.1 (acted_by g f scene values s).1.1
    unfolding acted_by
    acting_law Variable f values s = order.itself s.1
    acting_law Test f values s = order.itself s.1
    acting_law Number f values s = order.itself s.1
    acting_law Text f values s = (following (found_or_fault (function_text f values)) text_sized (answering _) sizing).law s
    acting_law Chance f values s = (dicing (number_or_zero (nth 0 values))).law s
    acting_law Reference f values s = order.itself s.1
    acting_law group.Same f values s = order.itself s.1
    acting_law group.Ask f values s = (following (found_or_fault (ask_of f scene values s.1)) (λ question. answers_with (scene.powers.tells question s.1)) (answering _) (λ question. answering _)).law s
    acting_law group.Deed f values s = (following (found_or_fault (deed_of f scene values s.1)) (doing scene) (answering _) doing_one).law s

    acting : (g : Group) (f : Function) (values : List (List ℕ)) → Sound (acted_by g f scene values)
    acting g f values = record { law = acting_law g f values }

    module _ (go : List ℕ → Thought S (List ℕ)) (goes : (text : List ℕ) → Sound (go text)) where
      each : (values texts : List (List ℕ)) → Sound (each_value go values texts)
      unfolding each_value
      each values [] = answering (Ok values)
      each values (text ∷ more) = following (go text) _ (goes text) (λ value. each (values ++ value ∷ []) more)

      choosing : (texts : List (List ℕ)) → Sound (branch_chosen go texts)
      choosing texts = following (go (nth 0 texts)) _ (goes (nth 0 texts)) (λ value. goes (nth (branch_at value) texts))

      untiling : (wanted : Bool) (texts : List (List ℕ)) → Sound (until_wanted wanted go texts)
      unfolding until_wanted
      untiling wanted [] = answering (Ok (truth_text (not wanted)))
      untiling wanted (text ∷ more) =
          following (go text) _ (goes text) (λ value. either (alike (is_true_text value) wanted) (gives (truth_text wanted)) (until_wanted wanted go more) (answering (Ok (truth_text wanted))) (untiling wanted more))

      whiling : (n : ℕ) (test body last : List ℕ) → Sound (turns_while n go test body last)
      unfolding turns_while
      whiling zero test body last = answering (Err TooManyCommands)
      whiling (suc n) test body last =
          following (go test) _ (goes test) (λ value. either (is_true_text value) _ (gives last)
          (following (command_counted (go body)) _ (counting (go body) (goes body)) (λ text. whiling n test body text)) (answering (Ok last)))

      whiles : (texts : List (List ℕ)) → Sound (while_true go texts)
      unfolding while_true
      whiles texts = record { law = λ s. (whiling (suc s.0.left) (nth 0 texts) (nth 1 texts) []).law s }

      withing : (name value body : List ℕ) → Sound (text_with go name value body)
      unfolding text_with
      withing name value body = following (keeps name value) (λ x. go body) (keeping name value) (λ x. goes body)

      foring : (n : ℕ) (name body : List ℕ) (end step : ℤ) (number : Option ℤ) (last : List ℕ) → Sound (turns_for n go name body end step number last)
      unfolding turns_for
      foring zero name body end step number last = answering (Err TooManyCommands)
      foring (suc n) name body end step None last = answering (Ok last)
      foring (suc n) name body end step (Some i) last =
          either (is_within i end step) _ (gives last)
          (following (command_counted (text_with go name (signed_decimal i) body)) _ (counting (text_with go name (signed_decimal i) body) (withing name (signed_decimal i) body)) (λ text. foring n name body end step (next_number i step) text))
          (answering (Ok last))

      eaching : (keep : Keep) (name body : List ℕ) (list : Option (List ℕ)) (xs : List (List ℕ)) → Sound (each_item keep go name body list xs)
      unfolding each_item
      eaching keep name body list [] = answering (Ok (gathered_text list))
      eaching keep name body list (item ∷ more) =
          following (text_with go name item body) _ (withing name item body) (λ text. either (is_long (gathered_text (kept_item keep list item text))) (fails TooLong) _ (answering (Err TooLong)) (eaching keep name body (kept_item keep list item text) more))

      body_law : (scope : Scope) (values : List (List ℕ)) (body : List ℕ) (s : MindState S) → R s.1 (bodies_in_scope scope go values body s).1.1
      unfolding bodies_in_scope
      body_law Once values body s = (withing (nth 0 values) (nth 1 values) body).law s
      body_law Numbers values body s = (foring (suc s.0.left) (nth 0 values) body (number_or_zero (nth 2 values)) (number_or_zero (nth 3 values)) (Some (number_or_zero (nth 1 values))) []).law s
      body_law (Items keep) values body s = (eaching keep (nth 0 values) body None (items (nth 1 values))).law s

      scopes : (scope : Scope) (texts : List (List ℕ)) → Sound (in_scope scope go texts)
      unfolding in_scope
      scopes scope texts =
          following (each_value go [] (take (before_body scope) texts)) _ (each [] (take (before_body scope) texts)) (λ values.
          scoping (nth 0 values) (bodies_in_scope scope go values (nth (before_body scope) texts)) (record { law = body_law scope values (nth (before_body scope) texts) }))

      lazy : (way : Way) (behind : Option (List ℕ)) → Sound (lazily way go behind)
      unfolding lazily
      lazy Literal behind = answering (Ok (gathered_text behind))
      lazy If behind = choosing (argument_texts behind)
      lazy All behind = untiling false (argument_texts behind)
      lazy Any behind = untiling true (argument_texts behind)
      lazy While behind = whiles (argument_texts behind)
      lazy (With scope) behind = scopes scope (argument_texts behind)

      performing : (how : How) (f : Function) (behind : Option (List ℕ)) → Sound (performed how scene go f behind)
      performing (First g) f behind = following (each_value go [] (argument_texts behind)) (acted_by g f scene) (each [] (argument_texts behind)) (λ values. acting g f values)
      performing (Lazy way) f behind = lazy way behind

      ahead : (body : List ℕ) → Sound (called_ahead scene go body)
      unfolding called_ahead
      ahead body = following (answers_with (prepared body)) _ (answering (prepared body)) (λ found. performing (row_of_function found.0).how found.0 found.1)

      calling_as : (body : List ℕ) (name : Option (List ℕ)) → Sound (called_as scene go body name)
      calling_as body (Some name) = reading name
      calling_as body None = ahead body

      calling : (body : List ℕ) → Sound (function_called scene go body)
      unfolding function_called
      calling body = calling_as body (variable_in body)

      spelling : (text : List ℕ) (ps : List FormulaPiece) → Sound (spelled go text ps)
      unfolding spelled
      spelling text [] = answering (Ok text)
      spelling text (byte b ∷ more) = either (is_long (text ++ b ∷ [])) (fails TooLong) _ (answering (Err TooLong)) (spelling (text ++ b ∷ []) more)
      spelling text (call body ∷ more) =
          following (go body) _ (goes body) (λ value. either (is_long (text ++ value)) (fails TooLong) _ (answering (Err TooLong)) (spelling (text ++ value) more))

    entering : (n : ℕ) (body : List ℕ) → Sound (body_entered scene n body)
    unfolding body_entered
    entering zero body = answering (Err TooManyCommands)
    entering (suc n) body =
        counting _ (calling (λ text. spelled (body_entered scene n) [] (formula_pieces text)) (λ text. spelling (body_entered scene n) (entering n) [] (formula_pieces text)) body)

    -- the world after a text is so to the one before it
    pub evaluated_sound : (text : List ℕ) (s : MindState S) → R s.1 (evaluated scene text s).1.1
    unfolding evaluated
    evaluated_sound text s =
        elim (balances scan_begun text) as (λ b. R s.1 (cond b (meaning scene nesting_most text (record s.0 { left = scene.powers.most s.1 }, s.1)) (Err Unclosed, s)).1.1) [
          | true ↦ (spelling (body_entered scene nesting_most) (entering nesting_most) [] (formula_pieces text)).law (record s.0 { left = scene.powers.most s.1 }, s.1)
          | false ↦ order.itself s.1
        ]

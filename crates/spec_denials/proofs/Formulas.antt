-- A formula that is denied something is so by the last thing that it asked for, in the world that it leaves. Two evaluations whose denials are numbered otherwise go alike up to the first
-- denial, which ends them.
use Rattle.std.proofs.Common.{◌≡◌, ℕ, zero, suc, Bool, true, false, cond, List, [], ◌∷◌, ◌++◌, take, Option, Some, None, refl, ap, ap₂, subst, ◌∙◌}
use Rattle.std.specs.Prelude.{not, Result, Ok, Err, ℤ, int_lt, pos, codes, length, ◌==◌, slice_get}
use Rattle.std.specs.Fmt.{signed_decimal}
use Rattle.std.specs.FinMap.{get}
use Rattle.std.specs.Option.{option_map, option_and_then}
use Rattle.std.specs.Result.{result_map_both}
use Rattle.muck_model.specs.declared.dbref.Dbref.{Dbref}
use Rattle.spec_live.specs.Lives.{Live}
use Rattle.spec_rights.specs.declared.act.Actor.{Actor}
use Rattle.mpi.specs.declared.fault.MpiFault.{MpiFault}
use Rattle.mpi.specs.declared.fault.MpiFault.TheVariants.{Unclosed, BadCount, TooManyCommands, TooLong, Denied}
use Rattle.mpi.specs.declared.functions.Function.{Function}
use Rattle.mpi.specs.declared.functions.Function.TheVariants as function
use Rattle.mpi.specs.declared.functions.Group.{Group}
use Rattle.mpi.specs.declared.functions.Group.TheVariants.{Variable, Test, Number, Text, Chance, Reference}
use Rattle.mpi.specs.declared.functions.Group.TheVariants as group
use Rattle.mpi.specs.declared.functions.How.{How}
use Rattle.mpi.specs.declared.functions.How.TheVariants.{First, Lazy}
use Rattle.mpi.specs.declared.functions.Way.{Way}
use Rattle.mpi.specs.declared.functions.Way.TheVariants.{Literal, If, All, Any, While, With}
use Rattle.mpi.specs.declared.functions.Scope.{Scope}
use Rattle.mpi.specs.declared.functions.Scope.TheVariants.{Once, Numbers, Items}
use Rattle.mpi.specs.declared.functions.Keep.{Keep}
use Rattle.mpi.specs.declared.host.Ask.{Ask}
use Rattle.mpi.specs.declared.host.Ask.TheVariants as ask
use Rattle.mpi.specs.declared.host.Deed.{Deed}
use Rattle.mpi.specs.declared.host.Deed.TheVariants as deed
use Rattle.mpi.specs.Brackets.{FormulaPiece, byte, call, formula_pieces, balances, scan_begun}
use Rattle.mpi.specs.Functions.{row_of_function, function_named, takes_so_many}
use Rattle.mpi.specs.Gathering.{gathered_text, kept_item}
use Rattle.mpi.specs.Hosting.{Powers}
use Rattle.mpi.specs.Made.{is_long}
use Rattle.mpi.specs.Thoughts.{MindState, Thought, gives, fails, carried, thought_followed, answers_with, found_or_bad, found_or_fault, on_mind, one_less, text_sized, command_counted, keeps, variable, scoped, given_back_in}
use Rattle.mpi.specs.Values.{nth, alike, is_true_text, truth_text, number_or_zero, function_text, items}
use Rattle.mpi.specs.Variables.{Variables}
use Rattle.mpi.specs.Meaning.{Scene, scene_of, is_within, next_number, reference, same_object as same_texts, given_by, argument_texts, function_with_count, prepared, behind_name, variable_in, branch_at, before_body, from_old, variable_row, text_unless, object_or, object_argument, ask_of, deed_of, both_objects, doing, drawn, diced, acted_by, each_value, branch_chosen, until_wanted, turns_while, while_true, text_with, turns_for, each_item, bodies_in_scope, in_scope, lazily, performed, called_ahead, called_as, function_called, spelled, body_entered, meaning, nesting_most, evaluated}
use Rattle.spec_mpi.specs.Stages.{MpiStage}
use Rattle.spec_mpi.specs.Telling.{MpiAnswer, tells_in}
use Rattle.spec_mpi.specs.Doing.{Done, does_in, powers}
use Rattle.spec_mpi.specs.Messages.{formula_heard}
use Rattle.spec_mpi.proofs.Leave.{same_actor}
use Rattle.spec_denials.specs.Notes.{Request, question, action, denies, AnswerNames, Numbering, renumbered, powers_by, Formula, formula, FormulaNames}
use Rattle.spec_denials.proofs.Requests.{DoneNames, does_names, tells_names}

-- the world as it is, and as denials are numbered otherwise
abbrev powers_at : Option Numbering → Powers MpiStage
powers_at None = powers
powers_at (Some number) = powers_by number

-- a thought in each of these
abbrev Thoughts : Type 0 → Type 0
Thoughts A = Option Numbering → Thought MpiStage A

abbrev End : Type 0 → Type 0
End A = Result A MpiFault × MindState MpiStage

-- How all of them end, by how the first does: so; or by a request that is denied, each by its number.
abbrev EndsBy : {A : Type 0} → Result A MpiFault → MindState MpiStage → (Numbering → End A) → Type 0
EndsBy (Err (Denied n)) t others = (request : Request) × (denies t.1.actor t.1.live.objects request ≡ Some n) × ((number : Numbering) → others number ≡ (Err (Denied (number request t.1)), t))
EndsBy r t others = (number : Numbering) → others number ≡ (r, t)

record Sound {A : Type 0} (thoughts : Thoughts A) : Type 0 where
  pub law : (s : MindState MpiStage) → EndsBy (thoughts None s).0 (thoughts None s).1 (λ number. thoughts (Some number) s)

changed_by : {A : Type 0} (r : Result A MpiFault) (t : MindState MpiStage) (u v : Numbering → End A) → ((number : Numbering) → v number ≡ u number) → EndsBy r t u → EndsBy r t v
changed_by (Err (Denied n)) t u v e (request, names, h) = (request, names, λ number. e number ∙ h number)
changed_by _ t u v e h = λ number. e number ∙ h number

-- What ends by no denial.

abbrev Fine : {A : Type 0} → Result A MpiFault → Type 0
Fine (Err (Denied n)) = ⊥
Fine r = Unit {0}

fine_ends : {A : Type 0} (r : Result A MpiFault) (t : MindState MpiStage) (u : Numbering → End A) → Fine r → ((number : Numbering) → u number ≡ (r, t)) → EndsBy r t u
fine_ends (Err (Denied n)) t u h e = absurd h
fine_ends _ t u h e = e

alone : {A : Type 0} (thought : Thought MpiStage A) → ((s : MindState MpiStage) → Fine (thought s).0) → Sound (λ k. thought)
alone thought h = record { law = λ s. fine_ends (thought s).0 (thought s).1 (λ number. thought s) (h s) (λ number. refl) }

giving : {A : Type 0} (x : A) → Sound (λ k. gives x)
giving x = alone (gives x) (λ s. tt)

long : Sound (λ k. fails {A = List ℕ} TooLong)
long = alone (fails TooLong) (λ s. tt)

found_fine : {A : Type 0} (o : Option A) → Fine (found_or_bad o)
found_fine None = tt
found_fine (Some x) = tt

finding : {A : Type 0} (o : Option A) → Sound (λ k. found_or_fault o)
finding o = alone (found_or_fault o) (λ s. found_fine o)

one_fine : (s : MindState MpiStage) (b : Bool) → (s.0.left == 0) ≡ b → Fine (one_less s.0).0
one_fine s true e = rw e tt
one_fine s false e = rw e tt

sizing : (text : List ℕ) → Sound (λ k. text_sized text)
unfolding text_sized
sizing text = alone (text_sized text) (λ s. at (is_long text))
  where
    at : (b : Bool) → Fine (cond b (Err TooLong) (Ok text))
    at true = tt
    at false = tt

prepared_fine : (body : List ℕ) → Fine (prepared body)
unfolding prepared
prepared_fine body = at (behind_name body) (function_named _)
  where
    in_count : (f : Function) (text : Option (List ℕ)) (b : Bool) → Fine {A = Function × Option (List ℕ)} (cond b (Ok (f, text)) (Err BadCount))
    in_count f text true = tt
    in_count f text false = tt

    at : (text : Option (List ℕ)) (o : Option Function) → Fine (function_with_count text o)
    at text None = tt
    at text (Some f) = in_count f text (takes_so_many f (length (argument_texts text)))

row_fine : (f : Function) (name value : List ℕ) (s : MindState MpiStage) → Fine (variable_row f name value s.0).0
unfolding variable_row
row_fine f name value s = at f (get s.0.variables name)
  where
    at : (f : Function) (o : Option (List ℕ)) → Fine (from_old f name value o s.0).0
    at f None = tt
    at function.Set (Some old) = tt
    at function.Increase (Some old) = tt
    at function.Decrease (Some old) = tt
    at _ (Some old) = tt

-- How thoughts are put together.

carrying : {A B : Type 0} (next : Option Numbering → A → Thought MpiStage B) → ((x : A) → Sound (λ k. next k x)) → (r : Result A MpiFault) (t : MindState MpiStage) (u : Numbering → End A) → EndsBy r t u →
    EndsBy (carried (next None) r t).0 (carried (next None) r t).1 (λ number. carried (next (Some number)) (u number).0 (u number).1)
carrying next q (Ok x) t u h =
    changed_by (next None x t).0 (next None x t).1 (λ number. next (Some number) x t) (λ number. carried (next (Some number)) (u number).0 (u number).1)
    (λ number. ap (λ (p : End _). carried (next (Some number)) p.0 p.1) (h number)) ((q x).law t)
carrying next q (Err (Denied n)) t u (request, names, h) = (request, names, λ number. ap (λ (p : End _). carried (next (Some number)) p.0 p.1) (h number))
carrying next q _ t u h = λ number. ap (λ (p : End _). carried (next (Some number)) p.0 p.1) (h number)

following : {A B : Type 0} (first : Thoughts A) (next : Option Numbering → A → Thought MpiStage B) → Sound first → ((x : A) → Sound (λ k. next k x)) → Sound (λ k. thought_followed (first k) (next k))
unfolding thought_followed
following first next p q = record { law = λ s. carrying next q (first None s).0 (first None s).1 (λ number. first (Some number) s) (p.law s) }

either : {A : Type 0} (b : Bool) (f g : Thoughts A) → Sound f → Sound g → Sound (λ k. cond b (f k) (g k))
either true f g p q = p
either false f g p q = q

counting : {A : Type 0} (f : Thoughts A) → Sound f → Sound (λ k. command_counted (f k))
unfolding command_counted
counting f p = following (λ k. on_mind one_less) (λ k x. f k) (alone (on_mind one_less) (λ s. one_fine s (s.0.left == 0) refl)) (λ x. p)

keeping : (name value : List ℕ) → Sound (λ k. keeps name value)
unfolding keeps
keeping name value = alone (keeps name value) (λ s. tt)

reading : (name : List ℕ) → Sound (λ k. variable name)
unfolding variable
reading name = alone (variable name) (λ s. found_fine (get s.0.variables name))

scoping : {A : Type 0} (name : List ℕ) (f : Thoughts A) → Sound f → Sound (λ k. scoped name (f k))
unfolding scoped
scoping {A} name f p = record { law = λ s. at (get s.0.variables name) (f None s).0 (f None s).1 (λ number. f (Some number) s) (p.law s) }
  where
    back : Option (List ℕ) → MindState MpiStage → MindState MpiStage
    back old t = (given_back_in name old t.0, t.1)

    at : (old : Option (List ℕ)) (r : Result A MpiFault) (t : MindState MpiStage) (u : Numbering → End A) → EndsBy r t u → EndsBy r (back old t) (λ number. ((u number).0, back old (u number).1))
    at old (Err (Denied n)) t u (request, names, h) = (request, names, λ number. ap (λ (p : End A). (p.0, back old p.1)) (h number))
    at old _ t u h = λ number. ap (λ (p : End A). (p.0, back old p.1)) (h number)

-- What the world is asked.

told_ends : (q : Ask) (s : MindState MpiStage) (r : MpiAnswer) → AnswerNames (denies s.1.actor s.1.live.objects (question q)) r → EndsBy r s (λ number. (result_map_both (λ value. value) (renumbered (number (question q) s.1)) r, s))
told_ends q s (Err (Denied n)) h = (question q, h, λ number. refl)
told_ends q s _ h = λ number. refl

done_ends : (text : List ℕ) (d : Deed) (s : MindState MpiStage) (x : Done) → DoneNames (denies s.1.actor s.1.live.objects (action d)) s.1 x →
    EndsBy (text_unless text x.0) (s.0, x.1) (λ number. (text_unless text (option_map (renumbered (number (action d) s.1)) x.0), (s.0, x.1)))
done_ends text d s (Some (Denied n), v) h =
    let names : denies v.actor v.live.objects (action d) ≡ Some n = subst (λ (x : MpiStage). denies x.actor x.live.objects (action d) ≡ Some n) h.1 h.0 in
    (action d, names, λ number. ap (λ (x : MpiStage). (Err (Denied (number (action d) x)), (s.0, v))) h.1)
done_ends text d s _ h = λ number. refl

module _ (this : Dbref) where
  abbrev scene : Option Numbering → Scene MpiStage
  scene k = scene_of (powers_at k) this

  -- what a text names is the same
  or_same : (default : Dbref) (o : Option (List ℕ)) (w : MpiStage) (number : Numbering) → object_or default (scene (Some number)) o w ≡ object_or default (scene None) o w
  or_same default None w number = refl
  or_same default (Some text) w number = refl

  object_same : (default : Dbref) (at : ℕ) (values : List (List ℕ)) (w : MpiStage) (number : Numbering) → object_argument default at (scene (Some number)) values w ≡ object_argument default at (scene None) values w
  unfolding object_argument
  object_same default at values w number = or_same default (slice_get values at) w number

  about_same : {A : Type 0} (f : Dbref → A) (default : Dbref) (at : ℕ) (values : List (List ℕ)) (w : MpiStage) (number : Numbering) →
      option_map f (object_argument default at (scene (Some number)) values w) ≡ option_map f (object_argument default at (scene None) values w)
  about_same f default at values w number = ap (option_map f) (object_same default at values w number)

  both_same : {A : Type 0} (f : Dbref → Dbref → A) (values : List (List ℕ)) (w : MpiStage) (number : Numbering) → both_objects f (scene (Some number)) values w ≡ both_objects f (scene None) values w
  both_same f values w number = ap₂ (λ x y. option_and_then (λ o. option_map (f o) y) x) (object_same this 0 values w number) (object_same this 1 values w number)

  asks_same : (f : Function) (values : List (List ℕ)) (w : MpiStage) (number : Numbering) → ask_of f (scene (Some number)) values w ≡ ask_of f (scene None) values w
  asks_same function.Name values w number = about_same (λ o. ask.Name o) this 0 values w number
  asks_same function.Loc values w number = about_same (λ o. ask.Loc o) this 0 values w number
  asks_same function.Owner values w number = about_same (λ o. ask.Owner o) this 0 values w number
  asks_same function.Kind values w number = about_same (λ o. ask.Kind o) this 0 values w number
  asks_same function.Flags values w number = about_same (λ o. ask.Flags o) this 0 values w number
  asks_same function.Contents values w number = about_same (λ o. ask.Contents o) this 0 values w number
  asks_same function.Exits values w number = about_same (λ o. ask.Exits o) this 0 values w number
  asks_same function.Controls values w number = about_same (λ o. ask.Controls o) this 0 values w number
  asks_same function.Holds values w number = both_same (λ o p. ask.Holds o p) values w number
  asks_same function.Prop values w number = about_same (λ o. ask.Prop (nth 0 values) o) this 1 values w number
  asks_same function.PropHere values w number = about_same (λ o. ask.PropHere (nth 0 values) o) this 1 values w number
  asks_same function.PropDir values w number = about_same (λ o. ask.PropDir (nth 0 values) o) this 1 values w number
  asks_same _ values w number = refl

  deeds_same : (f : Function) (values : List (List ℕ)) (w : MpiStage) (number : Numbering) → deed_of f (scene (Some number)) values w ≡ deed_of f (scene None) values w
  deeds_same function.Store values w number = about_same (λ o. deed.Store (nth 0 values) (nth 1 values) o) this 2 values w number
  deeds_same function.DelProp values w number = about_same (λ o. deed.DelProp (nth 0 values) o) this 1 values w number
  deeds_same function.Tell values w number = about_same (λ o. deed.Tell (nth 0 values) o) (powers.player w) 1 values w number
  deeds_same function.Otell values w number = about_same (λ o. deed.Otell (nth 0 values) o) (powers.place w) 1 values w number
  deeds_same _ values w number = refl

  doing_one : (d : Deed) → Sound (λ k. doing (scene k) d)
  unfolding doing
  doing_one d = record { law = λ s. done_ends (given_by d) d s (does_in d s.1) (does_names d s.1) }

  dicing : (n : ℤ) → Sound (λ k. diced (scene k) n)
  unfolding diced
  dicing n = either (int_lt n (pos 1)) (λ k. gives (codes "0")) (λ k. drawn (scene k) n) (giving (codes "0")) (record { law = λ s number. refl })

  -- a question, where an object is there
  asked : (o : Option Ask) (s : MindState MpiStage) →
      EndsBy (carried (λ q. answers_with (tells_in q s.1)) (found_or_bad o) s).0 (carried (λ q. answers_with (tells_in q s.1)) (found_or_bad o) s).1 (λ number. carried (λ q. answers_with ((powers_by number).tells q s.1)) (found_or_bad o) s)
  asked None s = λ number. refl
  asked (Some q) s = told_ends q s (tells_in q s.1) (tells_names q s.1)

  asking : (f : Function) (values : List (List ℕ)) → Sound (λ k. acted_by group.Ask f (scene k) values)
  unfolding acted_by thought_followed
  asking f values = record {
    law = λ s.
        changed_by _ _ (λ number. carried (λ q. answers_with ((powers_by number).tells q s.1)) (found_or_bad (ask_of f (scene None) values s.1)) s) _
        (λ number. ap (λ o. carried (λ q. answers_with ((powers_by number).tells q s.1)) (found_or_bad o) s) (asks_same f values s.1 number)) (asked (ask_of f (scene None) values s.1) s);
  }

  acting_deed : (f : Function) (values : List (List ℕ)) → Sound (λ k. acted_by group.Deed f (scene k) values)
  unfolding acted_by
  acting_deed f values = record {
    law = λ s.
        changed_by _ _ (λ number. thought_followed (found_or_fault (deed_of f (scene None) values s.1)) (doing (scene (Some number))) s) _
        (λ number. ap (λ o. thought_followed (found_or_fault o) (doing (scene (Some number))) s) (deeds_same f values s.1 number))
        ((following (λ k. found_or_fault (deed_of f (scene None) values s.1)) (λ k. doing (scene k)) (finding (deed_of f (scene None) values s.1)) doing_one).law s);
  }

  -- what is the same for all, and no denial
  found_same : {A : Type 0} (f : Option Numbering → MindState MpiStage → Option A) → ((s : MindState MpiStage) (number : Numbering) → f (Some number) s ≡ f None s) → Sound (λ k s. found_or_fault (f k s) s)
  found_same f e = record { law = λ s. fine_ends (found_or_bad (f None s)) s (λ number. found_or_fault (f (Some number) s) s) (found_fine (f None s)) (λ number. ap (λ o. (found_or_bad o, s)) (e s number)) }

  acting : (g : Group) (f : Function) (values : List (List ℕ)) → Sound (λ k. acted_by g f (scene k) values)
  unfolding acted_by
  acting Variable f values = alone (on_mind (variable_row f (nth 0 values) (nth 1 values))) (λ s. row_fine f (nth 0 values) (nth 1 values) s)
  acting Test f values = record { law = λ s number. refl }
  acting Number f values = record { law = λ s number. refl }
  acting Text f values = record { law = λ s. (following (λ k. found_or_fault (function_text f values)) (λ k. text_sized) (finding (function_text f values)) sizing).law s }
  acting Chance f values = record { law = λ s. (dicing (number_or_zero (nth 0 values))).law s }
  acting Reference f values = found_same (λ k s. option_map reference (object_argument this 0 (scene k) values s.1)) (λ s number. about_same reference this 0 values s.1 number)
  acting group.Same f values = found_same (λ k s. both_objects same_texts (scene k) values s.1) (λ s number. both_same same_texts values s.1 number)
  acting group.Ask f values = asking f values
  acting group.Deed f values = acting_deed f values

  -- Texts, where what they mean is so.

  module _ (go : Option Numbering → List ℕ → Thought MpiStage (List ℕ)) (goes : (text : List ℕ) → Sound (λ k. go k text)) where
    each : (values texts : List (List ℕ)) → Sound (λ k. each_value (go k) values texts)
    unfolding each_value
    each values [] = giving values
    each values (text ∷ more) = following (λ k. go k text) (λ k value. each_value (go k) (values ++ value ∷ []) more) (goes text) (λ value. each (values ++ value ∷ []) more)

    choosing : (texts : List (List ℕ)) → Sound (λ k. branch_chosen (go k) texts)
    choosing texts = following (λ k. go k (nth 0 texts)) (λ k value. go k (nth (branch_at value) texts)) (goes (nth 0 texts)) (λ value. goes (nth (branch_at value) texts))

    untiling : (wanted : Bool) (texts : List (List ℕ)) → Sound (λ k. until_wanted wanted (go k) texts)
    unfolding until_wanted
    untiling wanted [] = giving (truth_text (not wanted))
    untiling wanted (text ∷ more) =
        following (λ k. go k text) (λ k value. cond (alike (is_true_text value) wanted) (gives (truth_text wanted)) (until_wanted wanted (go k) more)) (goes text)
        (λ value. either (alike (is_true_text value) wanted) (λ k. gives (truth_text wanted)) (λ k. until_wanted wanted (go k) more) (giving (truth_text wanted)) (untiling wanted more))

    whiling : (n : ℕ) (test body last : List ℕ) → Sound (λ k. turns_while n (go k) test body last)
    unfolding turns_while
    whiling zero test body last = alone (fails TooManyCommands) (λ s. tt)
    whiling (suc n) test body last =
        following (λ k. go k test) (λ k value. cond (is_true_text value) (thought_followed (command_counted (go k body)) (λ text. turns_while n (go k) test body text)) (gives last)) (goes test)
        (λ value. either (is_true_text value) (λ k. thought_followed (command_counted (go k body)) (λ text. turns_while n (go k) test body text)) (λ k. gives last)
        (following (λ k. command_counted (go k body)) (λ k text. turns_while n (go k) test body text) (counting (λ k. go k body) (goes body)) (λ text. whiling n test body text)) (giving last))

    whiles : (texts : List (List ℕ)) → Sound (λ k. while_true (go k) texts)
    unfolding while_true
    whiles texts = record { law = λ s. (whiling (suc s.0.left) (nth 0 texts) (nth 1 texts) []).law s }

    withing : (name value body : List ℕ) → Sound (λ k. text_with (go k) name value body)
    unfolding text_with
    withing name value body = following (λ k. keeps name value) (λ k x. go k body) (keeping name value) (λ x. goes body)

    foring : (n : ℕ) (name body : List ℕ) (end step : ℤ) (number : Option ℤ) (last : List ℕ) → Sound (λ k. turns_for n (go k) name body end step number last)
    unfolding turns_for
    foring zero name body end step number last = alone (fails TooManyCommands) (λ s. tt)
    foring (suc n) name body end step None last = giving last
    foring (suc n) name body end step (Some i) last =
        either (is_within i end step) (λ k. thought_followed (command_counted (text_with (go k) name (signed_decimal i) body)) (λ text. turns_for n (go k) name body end step (next_number i step) text)) (λ k. gives last)
        (following (λ k. command_counted (text_with (go k) name (signed_decimal i) body)) (λ k text. turns_for n (go k) name body end step (next_number i step) text)
        (counting (λ k. text_with (go k) name (signed_decimal i) body) (withing name (signed_decimal i) body)) (λ text. foring n name body end step (next_number i step) text))
        (giving last)

    eaching : (keep : Keep) (name body : List ℕ) (list : Option (List ℕ)) (xs : List (List ℕ)) → Sound (λ k. each_item keep (go k) name body list xs)
    unfolding each_item
    eaching keep name body list [] = giving (gathered_text list)
    eaching keep name body list (item ∷ more) =
        following (λ k. text_with (go k) name item body)
        (λ k text. cond (is_long (gathered_text (kept_item keep list item text))) (fails TooLong) (each_item keep (go k) name body (kept_item keep list item text) more)) (withing name item body)
        (λ text. either (is_long (gathered_text (kept_item keep list item text))) (λ k. fails TooLong) (λ k. each_item keep (go k) name body (kept_item keep list item text) more) long (eaching keep name body (kept_item keep list item text) more))

    body_sound : (scope : Scope) (values : List (List ℕ)) (body : List ℕ) → Sound (λ k. bodies_in_scope scope (go k) values body)
    unfolding bodies_in_scope
    body_sound Once values body = record { law = λ s. (withing (nth 0 values) (nth 1 values) body).law s }
    body_sound Numbers values body = record { law = λ s. (foring (suc s.0.left) (nth 0 values) body (number_or_zero (nth 2 values)) (number_or_zero (nth 3 values)) (Some (number_or_zero (nth 1 values))) []).law s }
    body_sound (Items keep) values body = record { law = λ s. (eaching keep (nth 0 values) body None (items (nth 1 values))).law s }

    scopes : (scope : Scope) (texts : List (List ℕ)) → Sound (λ k. in_scope scope (go k) texts)
    unfolding in_scope
    scopes scope texts =
        following (λ k. each_value (go k) [] (take (before_body scope) texts)) (λ k values. scoped (nth 0 values) (bodies_in_scope scope (go k) values (nth (before_body scope) texts))) (each [] (take (before_body scope) texts))
        (λ values. scoping (nth 0 values) (λ k. bodies_in_scope scope (go k) values (nth (before_body scope) texts)) (body_sound scope values (nth (before_body scope) texts)))

    lazy : (way : Way) (behind : Option (List ℕ)) → Sound (λ k. lazily way (go k) behind)
    unfolding lazily
    lazy Literal behind = giving (gathered_text behind)
    lazy If behind = choosing (argument_texts behind)
    lazy All behind = untiling false (argument_texts behind)
    lazy Any behind = untiling true (argument_texts behind)
    lazy While behind = whiles (argument_texts behind)
    lazy (With scope) behind = scopes scope (argument_texts behind)

    performing : (how : How) (f : Function) (behind : Option (List ℕ)) → Sound (λ k. performed how (scene k) (go k) f behind)
    performing (First g) f behind = following (λ k. each_value (go k) [] (argument_texts behind)) (λ k. acted_by g f (scene k)) (each [] (argument_texts behind)) (λ values. acting g f values)
    performing (Lazy way) f behind = lazy way behind

    ahead : (body : List ℕ) → Sound (λ k. called_ahead (scene k) (go k) body)
    unfolding called_ahead
    ahead body =
        following (λ k. answers_with (prepared body)) (λ k found. performed (row_of_function found.0).how (scene k) (go k) found.0 found.1) (alone (answers_with (prepared body)) (λ s. prepared_fine body))
        (λ found. performing (row_of_function found.0).how found.0 found.1)

    calling_as : (body : List ℕ) (name : Option (List ℕ)) → Sound (λ k. called_as (scene k) (go k) body name)
    calling_as body (Some name) = reading name
    calling_as body None = ahead body

    calling : (body : List ℕ) → Sound (λ k. function_called (scene k) (go k) body)
    unfolding function_called
    calling body = calling_as body (variable_in body)

    spelling : (text : List ℕ) (ps : List FormulaPiece) → Sound (λ k. spelled (go k) text ps)
    unfolding spelled
    spelling text [] = giving text
    spelling text (byte b ∷ more) = either (is_long (text ++ b ∷ [])) (λ k. fails TooLong) (λ k. spelled (go k) (text ++ b ∷ []) more) long (spelling (text ++ b ∷ []) more)
    spelling text (call body ∷ more) =
        following (λ k. go k body) (λ k value. cond (is_long (text ++ value)) (fails TooLong) (spelled (go k) (text ++ value) more)) (goes body)
        (λ value. either (is_long (text ++ value)) (λ k. fails TooLong) (λ k. spelled (go k) (text ++ value) more) long (spelling (text ++ value) more))

  entering : (n : ℕ) (body : List ℕ) → Sound (λ k. body_entered (scene k) n body)
  unfolding body_entered
  entering zero body = alone (fails TooManyCommands) (λ s. tt)
  entering (suc n) body =
      counting (λ k. function_called (scene k) (λ text. spelled (body_entered (scene k) n) [] (formula_pieces text)) body)
      (calling (λ k text. spelled (body_entered (scene k) n) [] (formula_pieces text)) (λ text. spelling (λ k. body_entered (scene k) n) (entering n) [] (formula_pieces text)) body)

  evaluating : (text : List ℕ) → Sound (λ k. evaluated (scene k) text)
  unfolding evaluated
  evaluating text = record { law = λ s. at s (balances scan_begun text) }
    where
      started : MindState MpiStage → MindState MpiStage
      started s = (record s.0 { left = powers.most s.1 }, s.1)

      at : (s : MindState MpiStage) (b : Bool) →
          EndsBy (cond b (meaning (scene None) nesting_most text (started s)) (Err Unclosed, s)).0 (cond b (meaning (scene None) nesting_most text (started s)) (Err Unclosed, s)).1
          (λ number. cond b (meaning (scene (Some number)) nesting_most text (started s)) (Err Unclosed, s))
      at s true = (spelling (λ k. body_entered (scene k) nesting_most) (entering nesting_most) [] (formula_pieces text)).law (started s)
      at s false = λ number. refl

-- the formula of a message, or of a program
names_ended : (a : Actor) (run : Formula) (r : MpiAnswer) → (run powers).1.1.actor ≡ a → EndsBy r (run powers).1 (λ number. run (powers_by number)) → FormulaNames a run r
names_ended a run (Err (Denied n)) e (request, names, ends) =
    record { request = request; names = subst (λ x. denies x (run powers).1.1.live.objects request ≡ Some n) e names; ends = ends }
names_ended a run _ e h = tt

pub heard_names : (a : Actor) (this : Dbref) (text : List ℕ) (vars : Variables) (w : Live) → FormulaNames a (formula a this text vars w) (formula_heard a this text vars w).0
unfolding formula_heard
heard_names a this text vars w =
    let before : MpiStage = record { actor = a; live = w } in
    names_ended a (formula a this text vars w) _ (same_actor this text vars before) ((evaluating this text).law (record { variables = vars; left = 0 }, before))

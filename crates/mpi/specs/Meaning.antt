-- What a text means: its pieces, from left to right; a function evaluates its arguments, which are texts, one nesting deeper.
use Rattle.std.specs.Prelude.{◌≡◌, ℕ, zero, suc, Bool, true, false, not, ◌==◌, if◌then◌else◌, List, [], ◌∷◌, ◌++◌, length, take, drop, Option, Some, None, option_map, bytes_eq, slice_get, codes, Result, Ok, Err, ℤ, pos, negsuc, int_lt, int_le, ◌+ℤ◌}
use Rattle.std.specs.List.{before_first, position}
use Rattle.std.specs.Option.{option_and_then}
use Rattle.std.specs.Fmt.{signed_decimal}
use Rattle.std.specs.Ordering.{int_eq}
use Rattle.std.specs.Int.{w32, int_wrapping_add, int_wrapping_sub}
use Rattle.muck_model.specs.declared.dbref.Dbref.{Dbref}
use Rattle.mpi.specs.declared.fault.MpiFault.{MpiFault}
use Rattle.mpi.specs.declared.fault.MpiFault.TheVariants.{Unclosed, UnknownFunction, BadCount, BadValue, TooManyCommands, TooLong}
use Rattle.mpi.specs.declared.functions.Function.{Function}
use Rattle.mpi.specs.declared.functions.Function.TheVariants as function
use Rattle.mpi.specs.declared.functions.Group.{Group}
use Rattle.mpi.specs.declared.functions.Group.TheVariants.{Variable, Test, Number, Text, Chance, Reference}
use Rattle.mpi.specs.declared.functions.Group.TheVariants as group
use Rattle.mpi.specs.declared.functions.How.{How}
use Rattle.mpi.specs.declared.functions.How.TheVariants.{First, Lazy}
use Rattle.mpi.specs.declared.functions.Way.{Way}
use Rattle.mpi.specs.declared.functions.Way.TheVariants.{Literal, If, All, Any, While, With}
use Rattle.mpi.specs.declared.functions.Scope.{Scope}
use Rattle.mpi.specs.declared.functions.Scope.TheVariants.{Once, Numbers, Items}
use Rattle.mpi.specs.declared.functions.Keep.{Keep}
use Rattle.std.specs.FinMap.{get}
use Rattle.mpi.specs.declared.mind.Mind.{Mind}
use Rattle.mpi.specs.declared.host.Ask.{Ask}
use Rattle.mpi.specs.declared.host.Ask.TheVariants as ask
use Rattle.mpi.specs.declared.host.Deed.{Deed}
use Rattle.mpi.specs.declared.host.Deed.TheVariants as deed
use Rattle.mpi.specs.Brackets.{FormulaPiece, byte, call, formula_pieces, arguments, balances, scan_begun}
use Rattle.mpi.specs.Functions.{row_of_function, function_named, takes_so_many}
use Rattle.mpi.specs.Hosting.{Powers, Means, IfMemory}
use Rattle.mpi.specs.Variables.{Variables}
use Rattle.mpi.specs.Made.{is_long}
use Rattle.mpi.specs.Gathering.{gathered_text, kept_item}
use Rattle.mpi.specs.Thoughts.{Thought, gives, fails, thought_followed, found_or_fault, answers_with, text_sized, command_counted, keeps, variable, scoped, with_value, on_mind}
use Rattle.mpi.specs.Values.{nth, alike, is_true_text, truth_text, number_or_zero, lowered, test_of, computed, function_text, items, rolled}

-- what else a text is evaluated with: the host's powers, and the object that carries it
pub record Scene (S : Type 0) : Type 0 where
  pub powers : Powers S
  pub this : Dbref

abbrev pub scene_of : {S : Type 0} → Powers S → Dbref → Scene S
scene_of powers this = record { powers = powers; this = this }

-- how many functions may stand one in another
unfoldable pub nesting_most : ℕ
nesting_most = 64

-- a positive step goes up to the end, any other one down to it
abbrev pub is_within : ℤ → ℤ → ℤ → Bool
is_within i end step = if int_lt (pos 0) step then int_le i end else int_le end i

-- the next number, unless it is past the end or there is none
abbrev pub inside : Option ℤ → ℤ → ℤ → Option ℤ
inside None end step = None
inside (Some i) end step = if is_within i end step then Some i else None

-- the next number; there is none outside 32 bits
abbrev pub next_number : ℤ → ℤ → Option ℤ
next_number i step = if int_le (negsuc 2147483647) (i +ℤ step) then (if int_le (i +ℤ step) (pos 2147483647) then Some (i +ℤ step) else None) else None

-- what stands below 0 is no object
abbrev pub there : Dbref → Option Dbref
there d = if int_lt d.0 (pos 0) then None else Some d

-- the number of an object
abbrev pub reference : Dbref → List ℕ
reference d = 35 ∷ signed_decimal d.0

-- whether two are one object
abbrev pub same_object : Dbref → Dbref → List ℕ
same_object o p = truth_text (int_eq o.0 p.0)

-- what a deed gives: the text, and nothing where a property is taken away
abbrev pub given_by : Deed → List ℕ
given_by (deed.Store text path object) = text
given_by (deed.DelProp path object) = []
given_by (deed.Tell text object) = text
given_by (deed.Otell text object) = text

abbrev pub is_colon : ℕ → Bool
is_colon b = b == 58

-- what stands behind the `:` of a function
abbrev pub behind_name : List ℕ → Option (List ℕ)
behind_name body = option_map (λ n. drop (suc n) body) (position is_colon body)

-- the texts of the arguments: none without a `:`, and one at least behind it
abbrev pub argument_texts : Option (List ℕ) → List (List ℕ)
argument_texts None = []
argument_texts (Some text) = arguments text

abbrev pub function_with_count : Option (List ℕ) → Option Function → Result (Function × Option (List ℕ)) MpiFault
function_with_count text None = Err UnknownFunction
function_with_count text (Some f) = if takes_so_many f (length (argument_texts text)) then Ok (f, text) else Err BadCount

-- the function that stands between brackets, and what stands behind its name
unfoldable pub prepared : List ℕ → Result (Function × Option (List ℕ)) MpiFault
prepared body = function_with_count (behind_name body) (function_named (before_first is_colon body))

-- the name of a variable, behind a `&`
abbrev pub variable_in : List ℕ → Option (List ℕ)
variable_in [] = None
variable_in (b ∷ more) = if b == 38 then Some more else None

-- which text stands for a value: the second where it is true, else the third
abbrev pub branch_at : List ℕ → ℕ
branch_at value = if is_true_text value then 1 else 2

-- how many arguments stand before the one that is evaluated with a new variable
abbrev pub before_body : Scope → ℕ
before_body Once = 2
before_body Numbers = 4
before_body (Items keep) = 2

abbrev pub variable_stored : List ℕ → List ℕ → Mind → Result (List ℕ) MpiFault × Mind
variable_stored name value m = (Ok value, with_value name value m)

abbrev pub from_old : Function → List ℕ → List ℕ → Option (List ℕ) → Mind → Result (List ℕ) MpiFault × Mind
from_old f name value None m = (Err BadValue, m)
from_old function.Set name value (Some old) m = variable_stored name value m
from_old function.Increase name value (Some old) m = variable_stored name (signed_decimal (int_wrapping_add w32 (number_or_zero old) (pos 1))) m
from_old function.Decrease name value (Some old) m = variable_stored name (signed_decimal (int_wrapping_sub w32 (number_or_zero old) (pos 1))) m
from_old _ name value (Some old) m = (Ok old, m)

-- the functions of a variable that is there
unfoldable pub variable_row : Function → List ℕ → List ℕ → Mind → Result (List ℕ) MpiFault × Mind
variable_row f name value m = from_old f name value (get m.variables name) m

-- what a deed gives, unless it has a fault
abbrev pub text_unless : List ℕ → Option MpiFault → Result (List ℕ) MpiFault
text_unless text None = Ok text
text_unless text (Some fault) = Err fault

module _ {S : Type 0} where
  ----------------------------------------------------------------------------------------------------------------------------
  -- Objects.

  -- `this` in any case, else what the host finds; home is no object
  abbrev pub object_named : Scene S → List ℕ → S → Option Dbref
  object_named scene text w =
      if bytes_eq (lowered text) (codes "this") then Some scene.this
      else option_and_then there (scene.powers.finds text w)

  abbrev pub object_or : Dbref → Scene S → Option (List ℕ) → S → Option Dbref
  object_or default scene None w = Some default
  object_or default scene (Some text) w = object_named scene text w

  -- the object that the argument at that place names; left out it is the default
  unfoldable pub object_argument : Dbref → ℕ → Scene S → List (List ℕ) → S → Option Dbref
  object_argument default at scene values w = object_or default scene (slice_get values at) w

  -- of the object at that place, or `this`
  abbrev pub about : (Dbref → Ask) → ℕ → Scene S → List (List ℕ) → S → Option Ask
  about f at scene values w = option_map f (object_argument scene.this at scene values w)

  -- of two objects
  abbrev pub both_objects : {A : Type 0} → (Dbref → Dbref → A) → Scene S → List (List ℕ) → S → Option A
  both_objects f scene values w =
      option_and_then (λ o. option_map (f o) (object_argument scene.this 1 scene values w)) (object_argument scene.this 0 scene values w)

  -- what is asked of the host; None where an object isn't there
  abbrev pub ask_of : Function → Scene S → List (List ℕ) → S → Option Ask
  ask_of function.Name scene values w = about (λ o. ask.Name o) 0 scene values w
  ask_of function.Loc scene values w = about (λ o. ask.Loc o) 0 scene values w
  ask_of function.Owner scene values w = about (λ o. ask.Owner o) 0 scene values w
  ask_of function.Kind scene values w = about (λ o. ask.Kind o) 0 scene values w
  ask_of function.Flags scene values w = about (λ o. ask.Flags o) 0 scene values w
  ask_of function.Contents scene values w = about (λ o. ask.Contents o) 0 scene values w
  ask_of function.Exits scene values w = about (λ o. ask.Exits o) 0 scene values w
  ask_of function.Controls scene values w = about (λ o. ask.Controls o) 0 scene values w
  ask_of function.Holds scene values w = both_objects (λ o p. ask.Holds o p) scene values w
  ask_of function.Prop scene values w = about (λ o. ask.Prop (nth 0 values) o) 1 scene values w
  ask_of function.PropHere scene values w = about (λ o. ask.PropHere (nth 0 values) o) 1 scene values w
  ask_of function.PropDir scene values w = about (λ o. ask.PropDir (nth 0 values) o) 1 scene values w
  ask_of _ scene values w = None

  -- what the host is to do; None where an object isn't there
  abbrev pub deed_of : Function → Scene S → List (List ℕ) → S → Option Deed
  deed_of function.Store scene values w = option_map (λ o. deed.Store (nth 0 values) (nth 1 values) o) (object_argument scene.this 2 scene values w)
  deed_of function.DelProp scene values w = option_map (λ o. deed.DelProp (nth 0 values) o) (object_argument scene.this 1 scene values w)
  deed_of function.Tell scene values w = option_map (λ o. deed.Tell (nth 0 values) o) (object_argument (scene.powers.player w) 1 scene values w)
  deed_of function.Otell scene values w = option_map (λ o. deed.Otell (nth 0 values) o) (object_argument (scene.powers.place w) 1 scene values w)
  deed_of _ scene values w = None

  ----------------------------------------------------------------------------------------------------------------------------
  -- Functions whose arguments are evaluated.

  -- a deed, and the text that it gives
  unfoldable pub doing : Scene S → Deed → Thought S (List ℕ)
  doing scene d s = (text_unless (given_by d) (scene.powers.does d s.1).0, (s.0, (scene.powers.does d s.1).1))

  -- a random number up to n; none is drawn where n is below 1
  abbrev pub drawn : Scene S → ℤ → Thought S (List ℕ)
  drawn scene n s = (Ok (signed_decimal (rolled n (scene.powers.draws s.1).0)), (s.0, (scene.powers.draws s.1).1))

  unfoldable pub diced : Scene S → ℤ → Thought S (List ℕ)
  diced scene n = if int_lt n (pos 1) then gives (codes "0") else drawn scene n

  -- what a function makes of its arguments, by what it needs beside them
  unfoldable pub acted_by : Group → Function → Scene S → List (List ℕ) → Thought S (List ℕ)
  acted_by Variable f scene values s = on_mind (variable_row f (nth 0 values) (nth 1 values)) s
  acted_by Test f scene values s = gives (truth_text (test_of f (nth 0 values) (nth 1 values))) s
  acted_by Number f scene values s = gives (signed_decimal (computed f values)) s
  acted_by Text f scene values s = thought_followed (found_or_fault (function_text f values)) text_sized s
  acted_by Chance f scene values s = diced scene (number_or_zero (nth 0 values)) s
  acted_by Reference f scene values s = found_or_fault (option_map reference (object_argument scene.this 0 scene values s.1)) s
  acted_by group.Same f scene values s = found_or_fault (both_objects same_object scene values s.1) s
  acted_by group.Ask f scene values s = thought_followed (found_or_fault (ask_of f scene values s.1)) (λ question. answers_with (scene.powers.tells question s.1)) s
  acted_by group.Deed f scene values s = thought_followed (found_or_fault (deed_of f scene values s.1)) (doing scene) s

  ----------------------------------------------------------------------------------------------------------------------------
  -- Functions that evaluate their arguments as they say, over what a text means there.

  -- the values of the arguments, from left to right, behind those that are known
  unfoldable pub each_value : (List ℕ → Thought S (List ℕ)) → List (List ℕ) → List (List ℕ) → Thought S (List (List ℕ))
  each_value go values [] = gives values
  each_value go values (text ∷ more) = thought_followed (go text) (λ value. each_value go (values ++ value ∷ []) more)

  -- the second text where the first is true, else the third, or nothing
  abbrev pub branch_chosen : (List ℕ → Thought S (List ℕ)) → List (List ℕ) → Thought S (List ℕ)
  branch_chosen go texts = thought_followed (go (nth 0 texts)) (λ value. go (nth (branch_at value) texts))

  -- the texts up to the first that is true, or that is false; that is then the answer
  unfoldable pub until_wanted : Bool → (List ℕ → Thought S (List ℕ)) → List (List ℕ) → Thought S (List ℕ)
  until_wanted wanted go [] = gives (truth_text (not wanted))
  until_wanted wanted go (text ∷ more) =
      thought_followed (go text) (λ value. if alike (is_true_text value) wanted then gives (truth_text wanted) else until_wanted wanted go more)

  -- at most so many turns, each a command: the second text while the first is true; the last one is the answer
  unfoldable pub turns_while : ℕ → (List ℕ → Thought S (List ℕ)) → List ℕ → List ℕ → List ℕ → Thought S (List ℕ)
  turns_while zero go test body last = fails TooManyCommands
  turns_while (suc n) go test body last =
      thought_followed (go test) (λ value.
      if is_true_text value
      then thought_followed (command_counted (go body)) (λ text. turns_while n go test body text)
      else gives last)

  -- a turn is a command, so no more turns than one past the commands that are left are ever begun
  unfoldable pub while_true : (List ℕ → Thought S (List ℕ)) → List (List ℕ) → Thought S (List ℕ)
  while_true go texts s = turns_while (suc s.0.left) go (nth 0 texts) (nth 1 texts) [] s

  -- a text with the variable at a value
  unfoldable pub text_with : (List ℕ → Thought S (List ℕ)) → List ℕ → List ℕ → List ℕ → Thought S (List ℕ)
  text_with go name value body = thought_followed (keeps name value) (λ x. go body)

  -- at most so many turns, each a command, with the variable at the number; the last one is the answer
  unfoldable pub turns_for : ℕ → (List ℕ → Thought S (List ℕ)) → List ℕ → List ℕ → ℤ → ℤ → Option ℤ → List ℕ → Thought S (List ℕ)
  turns_for zero go name body end step number last = fails TooManyCommands
  turns_for (suc n) go name body end step None last = gives last
  turns_for (suc n) go name body end step (Some i) last =
      if is_within i end step
      then thought_followed (command_counted (text_with go name (signed_decimal i) body)) (λ text. turns_for n go name body end step (next_number i step) text)
      else gives last

  -- the body for each item, with the variable at the item
  unfoldable pub each_item : Keep → (List ℕ → Thought S (List ℕ)) → List ℕ → List ℕ → Option (List ℕ) → List (List ℕ) → Thought S (List ℕ)
  each_item keep go name body list [] = gives (gathered_text list)
  each_item keep go name body list (item ∷ more) =
      thought_followed (text_with go name item body) (λ text.
      if is_long (gathered_text (kept_item keep list item text)) then fails TooLong
      else each_item keep go name body (kept_item keep list item text) more)

  -- the body with the variable at each value that the scope gives it; no more turns than one past the commands that are left are
  -- ever begun
  unfoldable pub bodies_in_scope : Scope → (List ℕ → Thought S (List ℕ)) → List (List ℕ) → List ℕ → Thought S (List ℕ)
  bodies_in_scope Once go values body s = text_with go (nth 0 values) (nth 1 values) body s
  bodies_in_scope Numbers go values body s =
      turns_for (suc s.0.left) go (nth 0 values) body (number_or_zero (nth 2 values)) (number_or_zero (nth 3 values)) (Some (number_or_zero (nth 1 values))) [] s
  bodies_in_scope (Items keep) go values body s = each_item keep go (nth 0 values) body None (items (nth 1 values)) s

  -- the body with a new variable: the arguments before it are its name and what its values are
  unfoldable pub in_scope : Scope → (List ℕ → Thought S (List ℕ)) → List (List ℕ) → Thought S (List ℕ)
  in_scope scope go texts =
      thought_followed (each_value go [] (take (before_body scope) texts)) (λ values.
      scoped (nth 0 values) (bodies_in_scope scope go values (nth (before_body scope) texts)))

  unfoldable pub lazily : Way → (List ℕ → Thought S (List ℕ)) → Option (List ℕ) → Thought S (List ℕ)
  lazily Literal go behind = gives (gathered_text behind)
  lazily If go behind = branch_chosen go (argument_texts behind)
  lazily All go behind = until_wanted false go (argument_texts behind)
  lazily Any go behind = until_wanted true go (argument_texts behind)
  lazily While go behind = while_true go (argument_texts behind)
  lazily (With scope) go behind = in_scope scope go (argument_texts behind)

  ----------------------------------------------------------------------------------------------------------------------------
  -- Functions and texts.

  -- a function whose count of arguments is right
  abbrev pub performed : How → Scene S → (List ℕ → Thought S (List ℕ)) → Function → Option (List ℕ) → Thought S (List ℕ)
  performed (First group) scene go f behind = thought_followed (each_value go [] (argument_texts behind)) (acted_by group f scene)
  performed (Lazy way) scene go f behind = lazily way go behind

  -- a function by its name
  unfoldable pub called_ahead : Scene S → (List ℕ → Thought S (List ℕ)) → List ℕ → Thought S (List ℕ)
  called_ahead scene go body = thought_followed (answers_with (prepared body)) (λ found. performed (row_of_function found.0).how scene go found.0 found.1)

  abbrev pub called_as : Scene S → (List ℕ → Thought S (List ℕ)) → List ℕ → Option (List ℕ) → Thought S (List ℕ)
  called_as scene go body (Some name) = variable name
  called_as scene go body None = called_ahead scene go body

  -- what stands between brackets: the value of a variable behind `&`, or a function by its name
  unfoldable pub function_called : Scene S → (List ℕ → Thought S (List ℕ)) → List ℕ → Thought S (List ℕ)
  function_called scene go body = called_as scene go body (variable_in body)

  -- pieces behind what is there; a text that would be too long is refused where it grows
  abbrev pub text_grown : (List ℕ → Thought S (List ℕ)) → List ℕ → Thought S (List ℕ)
  text_grown rest text = if is_long text then fails TooLong else rest text

  unfoldable pub spelled : (List ℕ → Thought S (List ℕ)) → List ℕ → List FormulaPiece → Thought S (List ℕ)
  spelled go text [] = gives text
  spelled go text (byte b ∷ more) = text_grown (λ longer. spelled go longer more) (text ++ b ∷ [])
  spelled go text (call body ∷ more) = thought_followed (go body) (λ value. text_grown (λ longer. spelled go longer more) (text ++ value))

  -- what stands between brackets where functions may nest so deeply: entering it is a command, and its arguments are texts one
  -- nesting deeper
  unfoldable pub body_entered : Scene S → ℕ → List ℕ → Thought S (List ℕ)
  body_entered scene zero body = fails TooManyCommands
  body_entered scene (suc n) body = command_counted (function_called scene (λ text. spelled (body_entered scene n) [] (formula_pieces text)) body)

  -- what a text means there
  abbrev pub meaning : Scene S → ℕ → List ℕ → Thought S (List ℕ)
  meaning scene n text = spelled (body_entered scene n) [] (formula_pieces text)

  -- What a text means: there are as many commands as the host allows. A text that doesn't balance is refused before anything is
  -- evaluated.
  unfoldable pub evaluated : Scene S → List ℕ → Thought S (List ℕ)
  evaluated scene text s =
      if balances scan_begun text
      then meaning scene nesting_most text (record s.0 { left = scene.powers.most s.1 }, s.1)
      else (Err Unclosed, s)

-- What a text means is what it gives, or its fault, and what stands after it; want of memory alone is free.
abbrev pub Evaluates : {S : Type 0} → Scene S → List ℕ → Variables → S → Variables → S → Result (List ℕ) MpiFault → Type 0
Evaluates scene text vars w after now result =
    Means (evaluated scene text (record { variables = vars; left = 0 }, w)).0 result
    × (IfMemory result ((evaluated scene text (record { variables = vars; left = 0 }, w)).1.0.variables ≡ after)
    × IfMemory result ((evaluated scene text (record { variables = vars; left = 0 }, w)).1.1 ≡ now))

-- What loops and the functions that evaluate their arguments come to, a step after another.
use Rattle.std.proofs.Common.{◌≡◌, ℕ, suc, Bool, true, false, cond, List, [], ◌∷◌, ◌++◌, take, refl, sym, subst, ap, ◌∙◌}
use Rattle.std.specs.Prelude.{Result, Ok, Err, Option, Some, None, not, if◌then◌else◌, ℤ}
use Rattle.std.specs.FinMap.{get}
use Rattle.std.specs.Fmt.{signed_decimal}
use Rattle.mpi.specs.declared.fault.MpiFault.{MpiFault}
use Rattle.mpi.specs.declared.fault.MpiFault.TheVariants.{Unclosed, UnknownFunction, BadCount, BadValue, TooManyCommands, TooLong, Denied, NoMemory}
use Rattle.mpi.specs.declared.functions.Keep.{Keep}
use Rattle.mpi.specs.declared.functions.Scope.{Scope}
use Rattle.mpi.specs.declared.mind.Mind.{Mind}
use Rattle.mpi.specs.Made.{is_long}
use Rattle.mpi.specs.Gathering.{gathered_text, kept_item, list_or_long}
use Rattle.mpi.specs.Hosting.{Means}
use Rattle.mpi.specs.Thoughts.{MindState, Thought, Comes, Thinks, OnMind, carried, thought_followed, gives, fails, command_counted, keeps, scoped, on_mind, one_less, with_value, given_back_in}
use Rattle.mpi.specs.Values.{nth, is_true_text, truth_text, alike}
use Rattle.mpi.specs.Meaning.{each_value, until_wanted, turns_while, text_with, turns_for, each_item, before_body, bodies_in_scope, in_scope, inside, is_within, next_number}
use Rattle.mpi.proofs.Thinking.{then_ok, then_err, of_mind, comes_by}

-- the first of two that are thought one behind the other is known
pub known_first : {S A B : Type 0} (m : Thought S A) (k : A → Thought S B) (s t : MindState S) (x : A) → m s ≡ (Ok x, t) → thought_followed m k s ≡ k x t
unfolding thought_followed
known_first m k s t x h = λ i. carried k (h i).0 (h i).1

-- a variable is kept
pub kept_is : {S : Type 0} (name value : List ℕ) (s : MindState S) → keeps name value s ≡ (Ok value, (with_value name value s.0, s.1))
unfolding keeps
kept_is name value s = refl

-- one command
pub counted_first : {S A : Type 0} (thought : Thought S A) (s : MindState S) (m : Mind) → OnMind one_less s.0 m (Ok tt) → command_counted thought s ≡ thought (m, s.1)
unfolding command_counted
counted_first thought s m h = known_first (on_mind one_less) (λ done. thought) s (m, s.1) tt (λ i. ((h i).0, ((h i).1, s.1)))

pub counted_fails : {S A : Type 0} (thought : Thought S A) (s : MindState S) (m : Mind) (f : MpiFault) → OnMind one_less s.0 m (Err f) → Thinks (command_counted thought) s (m, s.1) (Err f)
unfolding command_counted
counted_fails thought s m f h = then_err (on_mind one_less) (λ done. thought) s (m, s.1) f (of_mind one_less s.0 m s.1 (Err f) h)

-- what is given back is what was there before
pub scoped_comes : {S A : Type 0} (name : List ℕ) (m : Thought S A) (s t u : MindState S) (r : Result A MpiFault) → Thinks m s t r
    → u ≡ (given_back_in name (get s.0.variables name) t.0, t.1) → Thinks (scoped name m) s u r
unfolding scoped
scoped_comes name m s t u (Ok x) h e = subst (λ v. scoped name m s ≡ (Ok x, v)) (sym e) (λ i. ((h i).0, (given_back_in name (get s.0.variables name) (h i).1.0, (h i).1.1)))
scoped_comes name m s t u (Err NoMemory) h e = tt
scoped_comes name m s t u (Err Unclosed) h e = subst (λ v. scoped name m s ≡ (Err Unclosed, v)) (sym e) (λ i. ((h i).0, (given_back_in name (get s.0.variables name) (h i).1.0, (h i).1.1)))
scoped_comes name m s t u (Err UnknownFunction) h e = subst (λ v. scoped name m s ≡ (Err UnknownFunction, v)) (sym e) (λ i. ((h i).0, (given_back_in name (get s.0.variables name) (h i).1.0, (h i).1.1)))
scoped_comes name m s t u (Err BadCount) h e = subst (λ v. scoped name m s ≡ (Err BadCount, v)) (sym e) (λ i. ((h i).0, (given_back_in name (get s.0.variables name) (h i).1.0, (h i).1.1)))
scoped_comes name m s t u (Err BadValue) h e = subst (λ v. scoped name m s ≡ (Err BadValue, v)) (sym e) (λ i. ((h i).0, (given_back_in name (get s.0.variables name) (h i).1.0, (h i).1.1)))
scoped_comes name m s t u (Err TooManyCommands) h e = subst (λ v. scoped name m s ≡ (Err TooManyCommands, v)) (sym e) (λ i. ((h i).0, (given_back_in name (get s.0.variables name) (h i).1.0, (h i).1.1)))
scoped_comes name m s t u (Err TooLong) h e = subst (λ v. scoped name m s ≡ (Err TooLong, v)) (sym e) (λ i. ((h i).0, (given_back_in name (get s.0.variables name) (h i).1.0, (h i).1.1)))
scoped_comes name m s t u (Err (Denied rule)) h e = subst (λ v. scoped name m s ≡ (Err (Denied rule), v)) (sym e) (λ i. ((h i).0, (given_back_in name (get s.0.variables name) (h i).1.0, (h i).1.1)))

-- a value that is too long ends the thought
judged_fails : {S A B : Type 0} (t : Bool) (x : A) (m : Thought S B) (u : MindState S) (f : MpiFault) → Means (cond t (Err TooLong) (Ok x)) (Err f)
    → Comes (cond t (fails TooLong) m u) u (Err f)
judged_fails t x m u NoMemory h = tt
judged_fails true x m u TooLong h = refl
judged_fails false x m u TooLong h = absurd (let e : Ok x ≡ Err TooLong = h in cc)
judged_fails true x m u Unclosed h = absurd (let e : Err TooLong ≡ Err Unclosed = h in cc)
judged_fails true x m u UnknownFunction h = absurd (let e : Err TooLong ≡ Err UnknownFunction = h in cc)
judged_fails true x m u BadCount h = absurd (let e : Err TooLong ≡ Err BadCount = h in cc)
judged_fails true x m u BadValue h = absurd (let e : Err TooLong ≡ Err BadValue = h in cc)
judged_fails true x m u TooManyCommands h = absurd (let e : Err TooLong ≡ Err TooManyCommands = h in cc)
judged_fails true x m u (Denied rule) h = absurd (let e : Err TooLong ≡ Err (Denied rule) = h in cc)
judged_fails false x m u Unclosed h = absurd (let e : Ok x ≡ Err Unclosed = h in cc)
judged_fails false x m u UnknownFunction h = absurd (let e : Ok x ≡ Err UnknownFunction = h in cc)
judged_fails false x m u BadCount h = absurd (let e : Ok x ≡ Err BadCount = h in cc)
judged_fails false x m u BadValue h = absurd (let e : Ok x ≡ Err BadValue = h in cc)
judged_fails false x m u TooManyCommands h = absurd (let e : Ok x ≡ Err TooManyCommands = h in cc)
judged_fails false x m u (Denied rule) h = absurd (let e : Ok x ≡ Err (Denied rule) = h in cc)

module _ {S : Type 0} (go : List ℕ → Thought S (List ℕ)) where
  pub value_end : (known rest : List (List ℕ)) (s : MindState S) → rest ≡ [] → each_value go known rest s ≡ (Ok known, s)
  unfolding each_value
  value_end known rest s e = ap (λ texts. each_value go known texts s) e

  pub value_more : (known rest more : List (List ℕ)) (text value : List ℕ) (s t : MindState S) → rest ≡ text ∷ more → go text s ≡ (Ok value, t)
      → each_value go known rest s ≡ each_value go (known ++ value ∷ []) more t
  unfolding each_value
  value_more known rest more text value s t e h =
      ap (λ texts. each_value go known texts s) e ∙ known_first (go text) (λ v. each_value go (known ++ v ∷ []) more) s t value h

  pub value_fails : (known rest more : List (List ℕ)) (text : List ℕ) (s t : MindState S) (f : MpiFault) → rest ≡ text ∷ more → Thinks (go text) s t (Err f)
      → Thinks (each_value go known rest) s t (Err f)
  unfolding each_value
  value_fails known rest more text s t f e h =
      comes_by (each_value go known rest s) (each_value go known (text ∷ more) s) t (Err f) (ap (λ texts. each_value go known texts s) e)
      (then_err (go text) (λ v. each_value go (known ++ v ∷ []) more) s t f h)

  abbrev behind_test : Bool → List (List ℕ) → List ℕ → Thought S (List ℕ)
  behind_test wanted more value = if alike (is_true_text value) wanted then gives (truth_text wanted) else until_wanted wanted go more

  pub until_end : (wanted : Bool) (rest : List (List ℕ)) (s : MindState S) → rest ≡ [] → until_wanted wanted go rest s ≡ (Ok (truth_text (not wanted)), s)
  unfolding until_wanted
  until_end wanted rest s e = ap (λ texts. until_wanted wanted go texts s) e

  until_first : (wanted : Bool) (rest more : List (List ℕ)) (text value : List ℕ) (s t : MindState S) → rest ≡ text ∷ more → go text s ≡ (Ok value, t)
      → until_wanted wanted go rest s ≡ behind_test wanted more value t
  unfolding until_wanted
  until_first wanted rest more text value s t e h =
      ap (λ texts. until_wanted wanted go texts s) e ∙ known_first (go text) (behind_test wanted more) s t value h

  pub until_more : (wanted : Bool) (rest more : List (List ℕ)) (text value : List ℕ) (s t : MindState S) → rest ≡ text ∷ more → go text s ≡ (Ok value, t)
      → alike (is_true_text value) wanted ≡ false → until_wanted wanted go rest s ≡ until_wanted wanted go more t
  until_more wanted rest more text value s t e h other = until_first wanted rest more text value s t e h ∙ ap (λ b. cond b (gives (truth_text wanted)) (until_wanted wanted go more) t) other

  pub until_known : (wanted : Bool) (rest more : List (List ℕ)) (text value : List ℕ) (s t : MindState S) → rest ≡ text ∷ more → go text s ≡ (Ok value, t)
      → alike (is_true_text value) wanted ≡ true → until_wanted wanted go rest s ≡ (Ok (truth_text wanted), t)
  until_known wanted rest more text value s t e h same = until_first wanted rest more text value s t e h ∙ ap (λ b. cond b (gives (truth_text wanted)) (until_wanted wanted go more) t) same

  pub until_fails : (wanted : Bool) (rest more : List (List ℕ)) (text : List ℕ) (s t : MindState S) (f : MpiFault) → rest ≡ text ∷ more → Thinks (go text) s t (Err f)
      → Thinks (until_wanted wanted go rest) s t (Err f)
  unfolding until_wanted
  until_fails wanted rest more text s t f e h =
      comes_by (until_wanted wanted go rest s) (until_wanted wanted go (text ∷ more) s) t (Err f) (ap (λ texts. until_wanted wanted go texts s) e)
      (then_err (go text) (behind_test wanted more) s t f h)

  ----------------------------------------------------------------------------------------------------------------------------
  -- Turns while a text is true.

  abbrev behind_body : ℕ → List ℕ → List ℕ → List ℕ → Thought S (List ℕ)
  behind_body n test body text = turns_while n go test body text

  abbrev turn : ℕ → List ℕ → List ℕ → List ℕ → List ℕ → Thought S (List ℕ)
  turn n test body last value = if is_true_text value then thought_followed (command_counted (go body)) (behind_body n test body) else gives last

  turn_true : (n : ℕ) (test body last value : List ℕ) (s : MindState S) → is_true_text value ≡ true → turn n test body last value s ≡ thought_followed (command_counted (go body)) (behind_body n test body) s
  turn_true n test body last value s h = ap (λ b. cond b (thought_followed (command_counted (go body)) (behind_body n test body)) (gives last) s) h

  while_first : (n : ℕ) (test body last value : List ℕ) (s t : MindState S) → go test s ≡ (Ok value, t) → turns_while (suc n) go test body last s ≡ turn n test body last value t
  unfolding turns_while
  while_first n test body last value s t h = known_first (go test) (turn n test body last) s t value h

  pub while_stops : (n : ℕ) (test body last value : List ℕ) (s t : MindState S) → go test s ≡ (Ok value, t) → is_true_text value ≡ false
      → turns_while (suc n) go test body last s ≡ (Ok last, t)
  while_stops n test body last value s t h fails_it = while_first n test body last value s t h ∙ ap (λ b. cond b (thought_followed (command_counted (go body)) (behind_body n test body)) (gives last) t) fails_it

  pub while_turns : (n : ℕ) (test body last value text : List ℕ) (s t u : MindState S) (m : Mind) → go test s ≡ (Ok value, t) → is_true_text value ≡ true
      → OnMind one_less t.0 m (Ok tt) → go body (m, t.1) ≡ (Ok text, u) → turns_while (suc n) go test body last s ≡ turns_while n go test body text u
  while_turns n test body last value text s t u m h holds less b =
      while_first n test body last value s t h ∙ turn_true n test body last value t holds
      ∙ known_first (command_counted (go body)) (behind_body n test body) t u text (counted_first (go body) t m less ∙ b)

  pub while_test_fails : (n : ℕ) (test body last : List ℕ) (s t : MindState S) (f : MpiFault) → Thinks (go test) s t (Err f) → Thinks (turns_while (suc n) go test body last) s t (Err f)
  unfolding turns_while
  while_test_fails n test body last s t f h = then_err (go test) (turn n test body last) s t f h

  pub while_count_fails : (n : ℕ) (test body last value : List ℕ) (s t : MindState S) (m : Mind) (f : MpiFault) → go test s ≡ (Ok value, t) → is_true_text value ≡ true
      → OnMind one_less t.0 m (Err f) → Thinks (turns_while (suc n) go test body last) s (m, t.1) (Err f)
  while_count_fails n test body last value s t m f h holds less =
      comes_by (turns_while (suc n) go test body last s) (thought_followed (command_counted (go body)) (behind_body n test body) t) (m, t.1) (Err f)
      (while_first n test body last value s t h ∙ turn_true n test body last value t holds)
      (then_err (command_counted (go body)) (behind_body n test body) t (m, t.1) f (counted_fails (go body) t m f less))

  pub while_body_fails : (n : ℕ) (test body last value : List ℕ) (s t u : MindState S) (m : Mind) (f : MpiFault) → go test s ≡ (Ok value, t) → is_true_text value ≡ true
      → OnMind one_less t.0 m (Ok tt) → Thinks (go body) (m, t.1) u (Err f) → Thinks (turns_while (suc n) go test body last) s u (Err f)
  while_body_fails n test body last value s t u m f h holds less b =
      comes_by (turns_while (suc n) go test body last s) (thought_followed (command_counted (go body)) (behind_body n test body) t) u (Err f)
      (while_first n test body last value s t h ∙ turn_true n test body last value t holds)
      (then_err (command_counted (go body)) (behind_body n test body) t u f (comes_by (command_counted (go body) t) (go body (m, t.1)) u (Err f) (counted_first (go body) t m less) b))

  -- there are no turns left
  pub while_ends : (n : ℕ) (test body last : List ℕ) (s : MindState S) → n ≡ 0 → turns_while n go test body last s ≡ (Err TooManyCommands, s)
  unfolding turns_while
  while_ends n test body last s e = ap (λ k. turns_while k go test body last s) e

  pub for_ends : (n : ℕ) (name body : List ℕ) (end step : ℤ) (number : Option ℤ) (last : List ℕ) (s : MindState S) → n ≡ 0 → turns_for n go name body end step number last s ≡ (Err TooManyCommands, s)
  unfolding turns_for
  for_ends n name body end step number last s e = ap (λ k. turns_for k go name body end step number last s) e

  ----------------------------------------------------------------------------------------------------------------------------
  -- A text with a variable.

  pub with_is : (name value body : List ℕ) (s t u : MindState S) (r : Result (List ℕ) MpiFault) → t ≡ (with_value name value s.0, s.1) → Thinks (go body) t u r
      → Thinks (text_with go name value body) s u r
  unfolding text_with
  with_is name value body s t u r e h =
      comes_by (text_with go name value body s) (go body t) u r
      (known_first (keeps name value) (λ x. go body) s t value (kept_is name value s ∙ ap (λ x. (Ok value, x)) (sym e))) h

  ----------------------------------------------------------------------------------------------------------------------------
  -- Turns over numbers.

  abbrev number_turn : List ℕ → List ℕ → ℤ → Thought S (List ℕ)
  number_turn name body i = command_counted (text_with go name (signed_decimal i) body)

  abbrev behind_number : ℕ → List ℕ → List ℕ → ℤ → ℤ → ℤ → List ℕ → Thought S (List ℕ)
  behind_number n name body end step i text = turns_for n go name body end step (next_number i step) text

  for_first : (n : ℕ) (name body : List ℕ) (end step : ℤ) (number : Option ℤ) (i : ℤ) (last : List ℕ) (s : MindState S) → inside number end step ≡ Some i
      → turns_for (suc n) go name body end step number last s ≡ thought_followed (number_turn name body i) (behind_number n name body end step i) s
  unfolding turns_for
  for_first n name body end step None i last s h = absurd (let e : None ≡ Some i = h in cc)
  for_first n name body end step (Some j) i last s h =
      elim (is_within j end step) as (λ t. cond t (Some j) None ≡ Some i → cond t (thought_followed (number_turn name body j) (behind_number n name body end step j)) (gives last) s ≡ thought_followed (number_turn name body i) (behind_number n name body end step i) s) [
        | true ↦ λ e. let k : j ≡ i = let same : Some j ≡ Some i = e in cc in ap (λ x. thought_followed (number_turn name body x) (behind_number n name body end step x) s) k
        | false ↦ λ e. absurd (let k : None ≡ Some i = e in cc)
      ] h

  pub for_stops : (n : ℕ) (name body : List ℕ) (end step : ℤ) (number : Option ℤ) (last : List ℕ) (s : MindState S) → inside number end step ≡ None
      → turns_for (suc n) go name body end step number last s ≡ (Ok last, s)
  unfolding turns_for
  for_stops n name body end step None last s h = refl
  for_stops n name body end step (Some j) last s h =
      elim (is_within j end step) as (λ t. cond t (Some j) None ≡ None → cond t (thought_followed (number_turn name body j) (behind_number n name body end step j)) (gives last) s ≡ (Ok last, s)) [
        | true ↦ λ e. absurd (let k : Some j ≡ None = e in cc)
        | false ↦ λ e. refl
      ] h

  pub for_turns : (n : ℕ) (name body : List ℕ) (end step : ℤ) (number : Option ℤ) (i : ℤ) (last text : List ℕ) (s u : MindState S) (m : Mind) → inside number end step ≡ Some i
      → OnMind one_less s.0 m (Ok tt) → text_with go name (signed_decimal i) body (m, s.1) ≡ (Ok text, u)
      → turns_for (suc n) go name body end step number last s ≡ turns_for n go name body end step (next_number i step) text u
  for_turns n name body end step number i last text s u m at less b =
      for_first n name body end step number i last s at
      ∙ known_first (number_turn name body i) (behind_number n name body end step i) s u text (counted_first (text_with go name (signed_decimal i) body) s m less ∙ b)

  pub for_count_fails : (n : ℕ) (name body : List ℕ) (end step : ℤ) (number : Option ℤ) (i : ℤ) (last : List ℕ) (s : MindState S) (m : Mind) (f : MpiFault) → inside number end step ≡ Some i
      → OnMind one_less s.0 m (Err f) → Thinks (turns_for (suc n) go name body end step number last) s (m, s.1) (Err f)
  for_count_fails n name body end step number i last s m f at less =
      comes_by (turns_for (suc n) go name body end step number last s) (thought_followed (number_turn name body i) (behind_number n name body end step i) s) (m, s.1) (Err f)
      (for_first n name body end step number i last s at)
      (then_err (number_turn name body i) (behind_number n name body end step i) s (m, s.1) f (counted_fails (text_with go name (signed_decimal i) body) s m f less))

  pub for_body_fails : (n : ℕ) (name body : List ℕ) (end step : ℤ) (number : Option ℤ) (i : ℤ) (last : List ℕ) (s u : MindState S) (m : Mind) (f : MpiFault) → inside number end step ≡ Some i
      → OnMind one_less s.0 m (Ok tt) → Thinks (text_with go name (signed_decimal i) body) (m, s.1) u (Err f)
      → Thinks (turns_for (suc n) go name body end step number last) s u (Err f)
  for_body_fails n name body end step number i last s u m f at less b =
      comes_by (turns_for (suc n) go name body end step number last s) (thought_followed (number_turn name body i) (behind_number n name body end step i) s) u (Err f)
      (for_first n name body end step number i last s at)
      (then_err (number_turn name body i) (behind_number n name body end step i) s u f
      (comes_by (number_turn name body i s) (text_with go name (signed_decimal i) body (m, s.1)) u (Err f) (counted_first (text_with go name (signed_decimal i) body) s m less) b))

  ----------------------------------------------------------------------------------------------------------------------------
  -- The items of a list.

  abbrev pub behind_item : Keep → List ℕ → List ℕ → Option (List ℕ) → List ℕ → List (List ℕ) → List ℕ → Thought S (List ℕ)
  behind_item keep name body list item more text = if is_long (gathered_text (kept_item keep list item text)) then fails TooLong else each_item keep go name body (kept_item keep list item text) more

  pub item_first : (keep : Keep) (name body : List ℕ) (list : Option (List ℕ)) (rest more : List (List ℕ)) (item text : List ℕ) (s u : MindState S) → rest ≡ item ∷ more
      → text_with go name item body s ≡ (Ok text, u) → each_item keep go name body list rest s ≡ behind_item keep name body list item more text u
  unfolding each_item
  item_first keep name body list rest more item text s u e b =
      ap (λ items. each_item keep go name body list items s) e
      ∙ known_first (text_with go name item body) (behind_item keep name body list item more) s u text b

  pub item_end : (keep : Keep) (name body : List ℕ) (list : Option (List ℕ)) (rest : List (List ℕ)) (s : MindState S) → rest ≡ [] → each_item keep go name body list rest s ≡ (Ok (gathered_text list), s)
  unfolding each_item
  item_end keep name body list rest s e = ap (λ items. each_item keep go name body list items s) e

  pub item_more : (keep : Keep) (name body : List ℕ) (list new : Option (List ℕ)) (rest more : List (List ℕ)) (item text : List ℕ) (s u : MindState S) → rest ≡ item ∷ more
      → text_with go name item body s ≡ (Ok text, u) → list_or_long (kept_item keep list item text) ≡ Ok new
      → each_item keep go name body list rest s ≡ each_item keep go name body new more u
  item_more keep name body list new rest more item text s u e b h =
      let k = kept_item keep list item text in
      item_first keep name body list rest more item text s u e b
      ∙ (elim (is_long (gathered_text k)) as (λ t. cond t (Err TooLong) (Ok k) ≡ Ok new → cond t (fails TooLong) (each_item keep go name body k more) u ≡ each_item keep go name body new more u) [
        | true ↦ λ h. absurd (let e : Err TooLong ≡ Ok new = h in cc)
        | false ↦ λ h. let same : k ≡ new = let e : Ok k ≡ Ok new = h in cc in ap (λ x. each_item keep go name body x more u) same
      ] h)

  pub item_long : (keep : Keep) (name body : List ℕ) (list : Option (List ℕ)) (rest more : List (List ℕ)) (item text : List ℕ) (s u : MindState S) (f : MpiFault) → rest ≡ item ∷ more
      → text_with go name item body s ≡ (Ok text, u) → Means (list_or_long (kept_item keep list item text)) (Err f) → Thinks (each_item keep go name body list rest) s u (Err f)
  item_long keep name body list rest more item text s u f e b h =
      let k = kept_item keep list item text in
      comes_by (each_item keep go name body list rest s) (behind_item keep name body list item more text u) u (Err f)
      (item_first keep name body list rest more item text s u e b)
      (judged_fails (is_long (gathered_text k)) k (each_item keep go name body k more) u f h)

  pub item_fails : (keep : Keep) (name body : List ℕ) (list : Option (List ℕ)) (rest more : List (List ℕ)) (item : List ℕ) (s u : MindState S) (f : MpiFault) → rest ≡ item ∷ more
      → Thinks (text_with go name item body) s u (Err f) → Thinks (each_item keep go name body list rest) s u (Err f)
  unfolding each_item
  item_fails keep name body list rest more item s u f e b =
      comes_by (each_item keep go name body list rest s) (each_item keep go name body list (item ∷ more) s) u (Err f) (ap (λ items. each_item keep go name body list items s) e)
      (then_err (text_with go name item body) (behind_item keep name body list item more) s u f b)

  ----------------------------------------------------------------------------------------------------------------------------
  -- A new variable.

  abbrev behind_values : Scope → List (List ℕ) → List (List ℕ) → Thought S (List ℕ)
  behind_values scope texts values = scoped (nth 0 values) (bodies_in_scope scope go values (nth (before_body scope) texts))

  pub scope_fails : (scope : Scope) (texts before : List (List ℕ)) (s t : MindState S) (f : MpiFault) → before ≡ take (before_body scope) texts
      → Thinks (each_value go [] before) s t (Err f) → Thinks (in_scope scope go texts) s t (Err f)
  unfolding in_scope
  scope_fails scope texts before s t f e h =
      then_err (each_value go [] (take (before_body scope) texts)) (behind_values scope texts) s t f (subst (λ xs. Thinks (each_value go [] xs) s t (Err f)) e h)

  pub scope_comes : (scope : Scope) (texts before values : List (List ℕ)) (s t u v : MindState S) (r : Result (List ℕ) MpiFault) → before ≡ take (before_body scope) texts
      → each_value go [] before s ≡ (Ok values, t) → Thinks (bodies_in_scope scope go values (nth (before_body scope) texts)) t u r
      → v ≡ (given_back_in (nth 0 values) (get t.0.variables (nth 0 values)) u.0, u.1) → Thinks (in_scope scope go texts) s v r
  unfolding in_scope
  scope_comes scope texts before values s t u v r e h b back =
      then_ok (each_value go [] (take (before_body scope) texts)) (behind_values scope texts) s t v values r
      (subst (λ xs. each_value go [] xs s ≡ (Ok values, t)) e h)
      (scoped_comes (nth 0 values) (bodies_in_scope scope go values (nth (before_body scope) texts)) t u v r b back)

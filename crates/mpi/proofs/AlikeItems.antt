-- Loops over items whose text is the same for each: what they give, and that nothing else is changed by them.
use Rattle.std.proofs.Common.{◌≡◌, ℕ, ◌+◌, ◌<◌, ◌≤◌, zero, suc, Bool, true, false, cond, List, [], ◌∷◌, ◌++◌, length, take, drop, refl, sym, subst, ap, ◌∙◌, arith, append_assoc, length-append}
use Rattle.std.specs.Prelude.{Result, Ok, Err, Option, Some, None, option_map, not, ◌&&◌, if◌then◌else◌, ◌==◌}
use Rattle.std.specs.Cmp.Lexicographic.{nat_list_cmp_total}
use Rattle.std.specs.FinMap.{get, insert, get-insert, get-remove, get_tied, same_map}
use Rattle.std.specs.List.{slice_split, join_with_byte}
use Rattle.std.specs.Ordering.{eq_by_cmp, is_eq}
use Rattle.std.specs.declared.cmp.Ordering.TheVariants.{Less, Equal, Greater}
use Rattle.std.proofs.lemmas.Bool.{false≢true}
use Rattle.std.proofs.lemmas.List.{append-nil}
use Rattle.std.proofs.lemmas.List.Splits.{slice_split-cons_yes, slice_split-cons_no, length-slice_split, join_with_byte-slice_split}
use Rattle.muck_laws.proofs.Lists.{behind_byte, short_ahead}
use Rattle.muck_laws.proofs.Tests.{all_head, all_tail}
use Rattle.muck_laws.proofs.Texts.{behind_onto, join_grown, join_longer}
use Rattle.mpi.specs.declared.fault.MpiFault.{MpiFault}
use Rattle.mpi.specs.declared.fault.MpiFault.TheVariants.{Unclosed, UnknownFunction, BadCount, BadValue, TooManyCommands, TooLong, Denied, NoMemory}
use Rattle.mpi.specs.declared.functions.Keep.{Keep}
use Rattle.mpi.specs.declared.functions.Keep.TheVariants as keep
use Rattle.mpi.specs.declared.functions.Scope.{Scope}
use Rattle.mpi.specs.declared.functions.Scope.TheVariants.{Once, Numbers, Items}
use Rattle.mpi.specs.Brackets.{FormulaPiece, byte, call, first_piece, formula_pieces, pieces_up_to}
use Rattle.mpi.specs.Gathering.{gathered_text, kept_item, longer}
use Rattle.mpi.specs.Hosting.{Means}
use Rattle.mpi.specs.Made.{is_long}
use Rattle.mpi.specs.Meaning.{Scene, meaning, body_entered, spelled, each_value, text_with, each_item, before_body, bodies_in_scope, in_scope}
use Rattle.mpi.specs.Thoughts.{MindState, Thought, Thinks, fails, keeps, with_value, given_back_in}
use Rattle.mpi.specs.Values.{nth, is_true_text, items}
use Rattle.mpi.specs.Variables.{Variables, name_cmp, given_back}
use Rattle.mpi.specs.inner.Alike.{said, alike_items, answer_alike, transposed}
use Rattle.muck_model.specs.Bytes.{text_fault, text_most}
use Rattle.mpi.specs.inner.Written.{is_plain_byte, is_plain}
use Rattle.mpi.proofs.Inside.{text_short}
use Rattle.mpi.proofs.Items.{items_some}
use Rattle.mpi.proofs.Lengths.{is_short}
use Rattle.mpi.proofs.Maps.{name_cmp_same}
use Rattle.mpi.proofs.Pieces.{pieces_ahead}
use Rattle.mpi.proofs.Thinking.{known}
use Rattle.mpi.proofs.Turns.{known_first, kept_is, item_first, scope_comes}

------------------------------------------------------------------------------------------------------------------------------
-- A text without functions.

said_ahead : (first : ℕ) (more rest : List ℕ) (p : FormulaPiece) → (p, rest) ≡ first_piece first more → said (formula_pieces (first ∷ more)) ≡ said (p ∷ formula_pieces rest)
said_ahead first more rest p e = ap said (pieces_ahead first more ∙ (λ i. (sym e i).0 ∷ formula_pieces (sym e i).1))

pub said_end : said (formula_pieces []) ≡ Some []
unfolding said pieces_up_to
said_end = refl

pub said_call : (first : ℕ) (more rest body : List ℕ) → (call body, rest) ≡ first_piece first more → said (formula_pieces (first ∷ more)) ≡ None
unfolding said
said_call first more rest body e = said_ahead first more rest (call body) e

pub said_byte : (out : List ℕ) (first : ℕ) (more rest : List ℕ) (b : ℕ) → (byte b, rest) ≡ first_piece first more
    → option_map (λ xs. out ++ xs) (said (formula_pieces (first ∷ more))) ≡ option_map (λ xs. (out ++ b ∷ []) ++ xs) (said (formula_pieces rest))
unfolding said
said_byte out first more rest b e = ap (option_map (λ xs. out ++ xs)) (said_ahead first more rest (byte b) e) ∙ behind_byte out b (said (formula_pieces rest))

first_short : (n : ℕ) (p : FormulaPiece) (rest said_text : List ℕ) → ((xs : List ℕ) → said (pieces_up_to n rest) ≡ Some xs → length xs ≤ n) → said (p ∷ pieces_up_to n rest) ≡ Some said_text → length said_text ≤ suc n
unfolding said
first_short n (byte b) rest said_text next e = short_ahead n rest said_text b (said (pieces_up_to n rest)) next e
first_short n (call body) rest said_text next e = absurd (let f : None ≡ Some said_text = e in cc)

said_up_to : (n : ℕ) (text said_text : List ℕ) → said (pieces_up_to n text) ≡ Some said_text → length said_text ≤ n
unfolding said pieces_up_to
said_up_to zero text said_text e = let f : Some [] ≡ Some said_text = e in let is : [] ≡ said_text = cc in omega (arith, ap length is)
said_up_to (suc n) [] said_text e = let f : Some [] ≡ Some said_text = e in let is : [] ≡ said_text = cc in omega (arith, ap length is)
said_up_to (suc n) (b ∷ more) said_text e = first_short n (first_piece b more).0 (first_piece b more).1 said_text (λ rest f. said_up_to n (first_piece b more).1 rest f) e

said_short : (text said_text : List ℕ) → text_fault text ≡ None → said (formula_pieces text) ≡ Some said_text → length said_text ≤ text_most
said_short text said_text short e = omega (arith, text_short text short, said_up_to (length text) text said_text e)

byte_within : (out : List ℕ) (b : ℕ) (o : Option (List ℕ)) (text : List ℕ) → option_map (λ xs. b ∷ xs) o ≡ Some text → length (out ++ text) ≤ text_most → length (out ++ b ∷ []) ≤ text_most
byte_within out b None text e le = absurd (let f : None ≡ Some text = e in cc)
byte_within out b (Some rest) text e le =
    let f : Some (b ∷ rest) ≡ Some text = e in
    let is : b ∷ rest ≡ text = cc in
    let more : suc (length rest) ≡ length text = ap length is in
    omega (arith, le, more, length-append out text, length-append out (b ∷ []))

module _ {S : Type 0} (go : List ℕ → Thought S (List ℕ)) where
  fits : (out value : List ℕ) (ps : List FormulaPiece) (s : MindState S) → is_long (out ++ value) ≡ false
      → cond (is_long (out ++ value)) (fails TooLong) (spelled go (out ++ value) ps) s ≡ spelled go (out ++ value) ps s
  fits out value ps s short = ap (λ t. cond t (fails TooLong) (spelled go (out ++ value) ps) s) short

  means_byte : (out : List ℕ) (b : ℕ) (more : List FormulaPiece) (o : Option (List ℕ)) (text : List ℕ) (s : MindState S)
      → ((rest : List ℕ) → o ≡ Some rest → length ((out ++ b ∷ []) ++ rest) ≤ text_most → spelled go (out ++ b ∷ []) more s ≡ (Ok ((out ++ b ∷ []) ++ rest), s))
      → option_map (λ xs. b ∷ xs) o ≡ Some text → length (out ++ text) ≤ text_most → spelled go (out ++ b ∷ []) more s ≡ (Ok (out ++ text), s)
  means_byte out b more None text s next e le = absurd (let f : None ≡ Some text = e in cc)
  means_byte out b more (Some rest) text s next e le =
      let f : Some (b ∷ rest) ≡ Some text = e in
      let is : b ∷ rest ≡ text = cc in
      let same : (out ++ b ∷ []) ++ rest ≡ out ++ text = append_assoc out (b ∷ []) rest ∙ ap (λ xs. out ++ xs) is in
      next rest refl (subst (λ xs. length xs ≤ text_most) (sym same) le) ∙ (λ i. (Ok (same i), s))

  -- what is said without functions is meant, whatever the state
  said_spells : (ps : List FormulaPiece) (out text : List ℕ) (s : MindState S) → said ps ≡ Some text → length (out ++ text) ≤ text_most → spelled go out ps s ≡ (Ok (out ++ text), s)
  unfolding said spelled
  said_spells [] out text s e le =
      let f : Some [] ≡ Some text = e in
      let is : [] ≡ text = cc in
      let same : out ≡ out ++ text = sym (append-nil out) ∙ ap (λ xs. out ++ xs) is in
      λ i. (Ok (same i), s)
  said_spells (byte b ∷ more) out text s e le =
      fits out (b ∷ []) more s (is_short (out ++ b ∷ []) (byte_within out b (said more) text e le))
      ∙ means_byte out b more (said more) text s (λ rest f short. said_spells more (out ++ b ∷ []) rest s f short) e le
  said_spells (call body ∷ more) out text s e le = absurd (let f : None ≡ Some text = e in cc)

------------------------------------------------------------------------------------------------------------------------------
-- A variable that is given back.

tied : (v : Variables) (name q : List ℕ) → eq_by_cmp name_cmp q name ≡ true → get v name ≡ get v q
tied v name q h =
    elim (name_cmp q name) as (λ r. name_cmp q name ≡ r → is_eq r ≡ true → get v name ≡ get v q) [
      | Less ↦ λ e f. absurd (false≢true f)
      | Equal ↦ λ e f. get_tied nat_list_cmp_total v q name e
      | Greater ↦ λ e f. absurd (false≢true f)
    ] refl h

-- what a variable was between makes no difference
back_again : (name x : List ℕ) (old : Option (List ℕ)) (v : Variables) → given_back name old (insert v name x) ≡ given_back name old v
unfolding given_back
back_again name x None v =
    same_map nat_list_cmp_total name_cmp_same _ _ (λ q.
    get-remove nat_list_cmp_total (insert v name x) name q
    ∙ ap (cond (eq_by_cmp name_cmp q name) None) (get-insert nat_list_cmp_total v name x q)
    ∙ (elim (eq_by_cmp name_cmp q name) as (λ t. cond t None (cond t (Some x) (get v q)) ≡ cond t None (get v q)) [ true ↦ refl | false ↦ refl ])
    ∙ sym (get-remove nat_list_cmp_total v name q))
back_again name x (Some old) v =
    same_map nat_list_cmp_total name_cmp_same _ _ (λ q.
    get-insert nat_list_cmp_total (insert v name x) name old q
    ∙ ap (cond (eq_by_cmp name_cmp q name) (Some old)) (get-insert nat_list_cmp_total v name x q)
    ∙ (elim (eq_by_cmp name_cmp q name) as (λ t. cond t (Some old) (cond t (Some x) (get v q)) ≡ cond t (Some old) (get v q)) [ true ↦ refl | false ↦ refl ])
    ∙ sym (get-insert nat_list_cmp_total v name old q))

-- what a variable is may be given back to it
back_at_once : (name : List ℕ) (old : Option (List ℕ)) (v : Variables) → get v name ≡ old → given_back name old v ≡ v
unfolding given_back
back_at_once name None v h =
    same_map nat_list_cmp_total name_cmp_same _ _ (λ q.
    get-remove nat_list_cmp_total v name q
    ∙ (elim (eq_by_cmp name_cmp q name) as (λ t. eq_by_cmp name_cmp q name ≡ t → cond t None (get v q) ≡ get v q) [
      | true ↦ λ e. sym h ∙ tied v name q e
      | false ↦ λ e. refl
    ] refl))
back_at_once name (Some old) v h =
    same_map nat_list_cmp_total name_cmp_same _ _ (λ q.
    get-insert nat_list_cmp_total v name old q
    ∙ (elim (eq_by_cmp name_cmp q name) as (λ t. eq_by_cmp name_cmp q name ≡ t → cond t (Some old) (get v q) ≡ get v q) [
      | true ↦ λ e. sym h ∙ tied v name q e
      | false ↦ λ e. refl
    ] refl))

abbrev back : {S : Type 0} → List ℕ → Option (List ℕ) → MindState S → MindState S
back name old s = (given_back_in name old s.0, s.1)

back_set : {S : Type 0} (name x : List ℕ) (old : Option (List ℕ)) (s : MindState S) → back name old (with_value name x s.0, s.1) ≡ back name old s
back_set name x old s = λ i. (record s.0 { variables = back_again name x old s.0.variables i }, s.1)

------------------------------------------------------------------------------------------------------------------------------
-- A loop whose text is the same for each item.

module _ {S : Type 0} (go : List ℕ → Thought S (List ℕ)) (name body text : List ℕ) (same : (s : MindState S) → go body s ≡ (Ok text, s)) where
  text_same : (item : List ℕ) (s : MindState S) → text_with go name item body s ≡ (Ok text, (with_value name item s.0, s.1))
  unfolding text_with
  text_same item s = known_first (keeps name item) (λ x. go body) s (with_value name item s.0, s.1) item (kept_is name item s) ∙ same (with_value name item s.0, s.1)

  abbrev ended : Option (List ℕ) → Result (List ℕ) MpiFault × MindState S → Result (List ℕ) MpiFault × MindState S
  ended old v = (v.0, back name old v.1)

  -- what it gives; and behind it only the variable may be another
  items_alike : (keep : Keep) (old list : Option (List ℕ)) (rest : List (List ℕ)) (s : MindState S)
      → ended old (each_item keep go name body list rest s) ≡ (alike_items keep text list rest, back name old s)
  unfolding each_item alike_items
  items_alike keep old list [] s = refl
  items_alike keep old list (item ∷ more) s =
      let k = kept_item keep list item text in
      ap (ended old) (item_first go keep name body list (item ∷ more) more item text s (with_value name item s.0, s.1) refl (text_same item s))
      ∙ (elim (is_long (gathered_text k)) as (λ t. ended old (cond t (fails TooLong) (each_item keep go name body k more) (with_value name item s.0, s.1)) ≡ (cond t (Err TooLong) (alike_items keep text k more), back name old s)) [
        | true ↦ λ i. (Err TooLong, back_set name item old s i)
        | false ↦ items_alike keep old k more (with_value name item s.0, s.1) ∙ (λ i. (alike_items keep text k more, back_set name item old s i))
      ])

alike_comes : {S : Type 0} (go : List ℕ → Thought S (List ℕ)) (keep : Keep) (texts before values : List (List ℕ)) (body text : List ℕ) (s t : MindState S) (r : Result (List ℕ) MpiFault)
    → before ≡ take 2 texts → each_value go [] before s ≡ (Ok values, t) → body ≡ nth 2 texts
    → ((u : MindState S) → go body u ≡ (Ok text, u)) → Means (alike_items keep text None (items (nth 1 values))) r → Thinks (in_scope (Items keep) go texts) s t r
unfolding bodies_in_scope
alike_comes go keep texts before values body text s t r e h at same means =
    let name = nth 0 values in
    let old = get t.0.variables name in
    let b = each_item keep go name body None (items (nth 1 values)) t in
    let whole : ended go name body text same old b ≡ (alike_items keep text None (items (nth 1 values)), back name old t) = items_alike go name body text same keep old None (items (nth 1 values)) t in
    let answer : Thinks (λ u. b) t b.1 r = known b.0 r b.1 (subst (λ x. Means x r) (λ i. (sym whole i).0) means) in
    let restored : back name old t ≡ t = λ i. (record t.0 { variables = back_at_once name old t.0.variables refl i }, t.1) in
    scope_comes go (Items keep) texts before values s t b.1 t r e h
    (subst (λ x. Thinks (each_item keep go name x None (items (nth 1 values))) t b.1 r) at answer)
    (sym ((λ i. (whole i).1) ∙ restored))

-- an answer that is known, and the fault of one
one_known : {A : Type 0} (o : Option (Result A MpiFault)) (x : A) → transposed o ≡ Ok (Some x) → o ≡ Some (Ok x)
one_known None x h = absurd (let e : Ok None ≡ Ok (Some x) = h in cc)
one_known (Some (Ok y)) x h = let e : Ok (Some y) ≡ Ok (Some x) = h in let is : y ≡ x = cc in ap (λ z. Some (Ok z)) is
one_known (Some (Err f)) x h = absurd (let e : Err f ≡ Ok (Some x) = h in cc)

fault_known : {A : Type 0} (o : Option (Result A MpiFault)) (f : MpiFault) → transposed o ≡ Err f → o ≡ Some (Err f)
fault_known None f h = absurd (let e : Ok None ≡ Err f = h in cc)
fault_known (Some (Ok y)) f h = absurd (let e : Ok (Some y) ≡ Err f = h in cc)
fault_known (Some (Err k)) f h = let e : Err k ≡ Err f = h in let is : k ≡ f = cc in ap (λ z. Some (Err z)) is

module _ {S : Type 0} (scene : Scene S) (n : ℕ) where
  text_comes : (keep : Keep) (texts before values : List (List ℕ)) (body : List ℕ) (o : Option (List ℕ)) (s t : MindState S) (answer r : Result (List ℕ) MpiFault)
      → said (formula_pieces body) ≡ o → before ≡ take 2 texts → each_value (meaning scene n) [] before s ≡ (Ok values, t) → body ≡ nth 2 texts
      → ((text : List ℕ) → o ≡ Some text → length text ≤ text_most)
      → option_map (λ text. alike_items keep text None (items (nth 1 values))) o ≡ Some answer → Means answer r → Thinks (in_scope (Items keep) (meaning scene n) texts) s t r
  text_comes keep texts before values body None s t answer r e f h at short is means = absurd (let k : None ≡ Some answer = is in cc)
  text_comes keep texts before values body (Some text) s t answer r e f h at short is means =
      let k : Some (alike_items keep text None (items (nth 1 values))) ≡ Some answer = is in
      let same : alike_items keep text None (items (nth 1 values)) ≡ answer = cc in
      alike_comes (meaning scene n) keep texts before values body text s t r f h at
      (λ u. said_spells (body_entered scene n) (formula_pieces body) [] text u e (short text refl))
      (subst (λ x. Means x r) (sym same) means)

  scope_known : (scope : Scope) (texts before values : List (List ℕ)) (body : List ℕ) (s t : MindState S) (answer r : Result (List ℕ) MpiFault)
      → before ≡ take (before_body scope) texts → each_value (meaning scene n) [] before s ≡ (Ok values, t) → body ≡ nth (before_body scope) texts → text_fault body ≡ None
      → answer_alike scope values body ≡ Some answer → Means answer r → Thinks (in_scope scope (meaning scene n) texts) s t r
  scope_known Once texts before values body s t answer r e h at short is means = absurd (let k : None ≡ Some answer = is in cc)
  scope_known Numbers texts before values body s t answer r e h at short is means = absurd (let k : None ≡ Some answer = is in cc)
  scope_known (Items keep) texts before values body s t answer r e h at short is means =
      text_comes keep texts before values body (said (formula_pieces body)) s t answer r refl e h at (λ text said_is. said_short body text short said_is) is means

  -- the answer of such a loop, and its fault
  pub alike_answers : (scope : Scope) (texts before values : List (List ℕ)) (body answer : List ℕ) (s t : MindState S)
      → before ≡ take (before_body scope) texts → each_value (meaning scene n) [] before s ≡ (Ok values, t) → body ≡ nth (before_body scope) texts → text_fault body ≡ None
      → transposed (answer_alike scope values body) ≡ Ok (Some answer) → Thinks (in_scope scope (meaning scene n) texts) s t (Ok answer)
  alike_answers scope texts before values body answer s t e h at short is =
      scope_known scope texts before values body s t (Ok answer) (Ok answer) e h at short (one_known (answer_alike scope values body) answer is) refl

  pub alike_fails : (scope : Scope) (texts before values : List (List ℕ)) (body : List ℕ) (f : MpiFault) (s t : MindState S)
      → before ≡ take (before_body scope) texts → each_value (meaning scene n) [] before s ≡ (Ok values, t) → body ≡ nth (before_body scope) texts → text_fault body ≡ None
      → Means (transposed (answer_alike scope values body)) (Err f) → Thinks (in_scope scope (meaning scene n) texts) s t (Err f)
  alike_fails scope texts before values body NoMemory s t e h at short is = tt
  alike_fails scope texts before values body Unclosed s t e h at short is = scope_known scope texts before values body s t (Err Unclosed) (Err Unclosed) e h at short (fault_known (answer_alike scope values body) Unclosed is) refl
  alike_fails scope texts before values body UnknownFunction s t e h at short is = scope_known scope texts before values body s t (Err UnknownFunction) (Err UnknownFunction) e h at short (fault_known (answer_alike scope values body) UnknownFunction is) refl
  alike_fails scope texts before values body BadCount s t e h at short is = scope_known scope texts before values body s t (Err BadCount) (Err BadCount) e h at short (fault_known (answer_alike scope values body) BadCount is) refl
  alike_fails scope texts before values body BadValue s t e h at short is = scope_known scope texts before values body s t (Err BadValue) (Err BadValue) e h at short (fault_known (answer_alike scope values body) BadValue is) refl
  alike_fails scope texts before values body TooManyCommands s t e h at short is = scope_known scope texts before values body s t (Err TooManyCommands) (Err TooManyCommands) e h at short (fault_known (answer_alike scope values body) TooManyCommands is) refl
  alike_fails scope texts before values body TooLong s t e h at short is = scope_known scope texts before values body s t (Err TooLong) (Err TooLong) e h at short (fault_known (answer_alike scope values body) TooLong is) refl
  alike_fails scope texts before values body (Denied rule) s t e h at short is = scope_known scope texts before values body s t (Err (Denied rule)) (Err (Denied rule)) e h at short (fault_known (answer_alike scope values body) (Denied rule) is) refl

------------------------------------------------------------------------------------------------------------------------------
-- What such a loop gives, by what is kept.

pub no_items : (keep : Keep) (text list : List ℕ) → length list ≡ 0 → alike_items keep text None (items list) ≡ Ok []
unfolding alike_items items
no_items keep text [] h = refl
no_items keep text (x ∷ xs) h = absurd (omega (arith, h))

some_items : (list : List ℕ) → 0 < length list → 0 < length (items list)
some_items list h = let n = length-slice_split (λ c. c == 13) list in let e = ap length (items_some list h) in omega (arith, n, e)

last_of : (text : List ℕ) (list : Option (List ℕ)) (parts : List (List ℕ)) → is_long text ≡ false → 0 < length parts → alike_items keep.Last text list parts ≡ Ok text
unfolding alike_items
last_of text list [] short some = absurd (omega (arith, some))
last_of text list (item ∷ []) short some = ap (λ t. cond t (Err TooLong) (Ok text)) short
last_of text list (item ∷ next ∷ more) short some =
    ap (λ t. cond t (Err TooLong) (alike_items keep.Last text (Some text) (next ∷ more))) short ∙ last_of text (Some text) (next ∷ more) short (omega arith)

none_of : (text : List ℕ) (parts : List (List ℕ)) → is_true_text text ≡ false → alike_items keep.Items text None parts ≡ Ok []
unfolding alike_items
none_of text [] isnt = refl
none_of text (item ∷ more) isnt =
    (λ i. cond (is_long (gathered_text (cond (isnt i) (Some item) None))) (Err TooLong) (alike_items keep.Items text (cond (isnt i) (Some item) None) more))
    ∙ ap (λ t. cond t (Err TooLong) (alike_items keep.Items text None more)) (is_short [] (omega arith)) ∙ none_of text more isnt

all_behind : (text list : List ℕ) (parts : List (List ℕ)) → is_true_text text ≡ true → length (join_with_byte 13 (list ∷ parts)) ≤ text_most
    → alike_items keep.Items text (Some list) parts ≡ Ok (join_with_byte 13 (list ∷ parts))
unfolding alike_items
all_behind text list [] holds le = refl
all_behind text list (item ∷ more) holds le =
    let grown : List ℕ = list ++ 13 ∷ item in
    let same : join_with_byte 13 (grown ∷ more) ≡ list ++ 13 ∷ join_with_byte 13 (item ∷ more) = join_grown list item more in
    let within : length (join_with_byte 13 (grown ∷ more)) ≤ text_most = subst (λ xs. length xs ≤ text_most) (sym same) le in
    (λ i. cond (is_long (gathered_text (cond (holds i) (Some grown) (Some list)))) (Err TooLong) (alike_items keep.Items text (cond (holds i) (Some grown) (Some list)) more))
    ∙ ap (λ t. cond t (Err TooLong) (alike_items keep.Items text (Some grown) more)) (is_short grown (omega (arith, join_longer grown more, within)))
    ∙ all_behind text grown more holds within ∙ ap Ok same

all_of : (text : List ℕ) (parts : List (List ℕ)) → is_true_text text ≡ true → 0 < length parts → length (join_with_byte 13 parts) ≤ text_most → alike_items keep.Items text None parts ≡ Ok (join_with_byte 13 parts)
unfolding alike_items
all_of text [] holds some le = absurd (omega (arith, some))
all_of text (item ∷ more) holds some le =
    (λ i. cond (is_long (gathered_text (cond (holds i) (Some item) None))) (Err TooLong) (alike_items keep.Items text (cond (holds i) (Some item) None) more))
    ∙ ap (λ t. cond t (Err TooLong) (alike_items keep.Items text (Some item) more)) (is_short item (omega (arith, join_longer item more, le)))
    ∙ all_behind text item more holds le

pub last_is : (text list : List ℕ) → length text ≤ text_most → 0 < length list → alike_items keep.Last text None (items list) ≡ Ok text
last_is text list short some = last_of text None (items list) (is_short text short) (some_items list some)

pub none_is : (text list : List ℕ) → is_true_text text ≡ false → alike_items keep.Items text None (items list) ≡ Ok []
none_is text list isnt = none_of text (items list) isnt

pub all_is : (text list : List ℕ) → is_true_text text ≡ true → 0 < length list → length list ≤ text_most → alike_items keep.Items text None (items list) ≡ Ok list
all_is text list holds some short =
    let joined : join_with_byte 13 (items list) ≡ list = ap (join_with_byte 13) (items_some list some) ∙ join_with_byte-slice_split 13 list in
    all_of text (items list) holds (some_items list some) (subst (λ xs. length xs ≤ text_most) (sym joined) short) ∙ ap Ok joined

-- the list of the text for what is left of the items, of which another begins behind each byte 13
unfoldable pub texts_behind : List ℕ → List ℕ → List ℕ → Result (List ℕ) MpiFault
texts_behind text bytes [] = Ok bytes
texts_behind text bytes (x ∷ xs) =
    if x == 13
    then (if is_long (bytes ++ 13 ∷ text) then Err TooLong else texts_behind text (bytes ++ 13 ∷ text) xs)
    else texts_behind text bytes xs

next_text : (text bytes : List ℕ) (parts : List (List ℕ)) → 0 < length parts
    → alike_items keep.Texts text (Some bytes) parts ≡ cond (is_long (bytes ++ 13 ∷ text)) (Err TooLong) (alike_items keep.Texts text (Some (bytes ++ 13 ∷ text)) (drop 1 parts))
unfolding alike_items
next_text text bytes [] some = absurd (omega (arith, some))
next_text text bytes (part ∷ parts) some = refl

behind_first : (text bytes xs : List ℕ) → alike_items keep.Texts text (Some bytes) (drop 1 (slice_split (λ c. c == 13) xs)) ≡ texts_behind text bytes xs
unfolding alike_items texts_behind
behind_first text bytes [] = refl
behind_first text bytes (x ∷ xs) =
    elim (x == 13) as (λ t. x == 13 ≡ t → alike_items keep.Texts text (Some bytes) (drop 1 (slice_split (λ c. c == 13) (x ∷ xs)))
    ≡ cond t (cond (is_long (bytes ++ 13 ∷ text)) (Err TooLong) (texts_behind text (bytes ++ 13 ∷ text) xs)) (texts_behind text bytes xs)) [
      | true ↦ λ e.
          let some : 0 < length (slice_split (λ c. c == 13) xs) = omega (arith, length-slice_split (λ c. c == 13) xs) in
          ap (λ parts. alike_items keep.Texts text (Some bytes) (drop 1 parts)) (slice_split-cons_yes (λ c. c == 13) x xs e)
          ∙ next_text text bytes (slice_split (λ c. c == 13) xs) some
          ∙ ap (cond (is_long (bytes ++ 13 ∷ text)) (Err TooLong)) (behind_first text (bytes ++ 13 ∷ text) xs)
      | false ↦ λ e.
          ap (λ parts. alike_items keep.Texts text (Some bytes) (drop 1 parts)) (slice_split-cons_no (λ c. c == 13) x xs e)
          ∙ ap (alike_items keep.Texts text (Some bytes)) (behind_onto x (slice_split (λ c. c == 13) xs))
          ∙ behind_first text bytes xs
    ] refl

first_text : (text : List ℕ) (parts : List (List ℕ)) → is_long text ≡ false → 0 < length parts → alike_items keep.Texts text None parts ≡ alike_items keep.Texts text (Some text) (drop 1 parts)
unfolding alike_items
first_text text [] short some = absurd (omega (arith, some))
first_text text (part ∷ parts) short some = ap (λ t. cond t (Err TooLong) (alike_items keep.Texts text (Some text) parts)) short

pub texts_begin : (text list bytes : List ℕ) → length text ≤ text_most → 0 < length list → bytes ≡ text → alike_items keep.Texts text None (items list) ≡ texts_behind text bytes list
texts_begin text list bytes short some is =
    first_text text (items list) (is_short text short) (some_items list some)
    ∙ ap (λ parts. alike_items keep.Texts text (Some text) (drop 1 parts)) (items_some list some)
    ∙ behind_first text text list ∙ (λ i. texts_behind text (sym is i) list)

pub texts_end : (text bytes rest : List ℕ) → rest ≡ [] → texts_behind text bytes rest ≡ Ok bytes
unfolding texts_behind
texts_end text bytes rest e = ap (texts_behind text bytes) e

pub texts_other : (text bytes rest more : List ℕ) (x : ℕ) → rest ≡ x ∷ more → x == 13 ≡ false → texts_behind text bytes rest ≡ texts_behind text bytes more
unfolding texts_behind
texts_other text bytes rest more x e h =
    ap (texts_behind text bytes) e
    ∙ ap (λ t. cond t (cond (is_long (bytes ++ 13 ∷ text)) (Err TooLong) (texts_behind text (bytes ++ 13 ∷ text) more)) (texts_behind text bytes more)) h

pub texts_next : (text bytes rest more : List ℕ) (x : ℕ) → rest ≡ x ∷ more → x == 13 ≡ true
    → texts_behind text bytes rest ≡ cond (is_long (bytes ++ 13 ∷ text)) (Err TooLong) (texts_behind text (bytes ++ 13 ∷ text) more)
unfolding texts_behind
texts_next text bytes rest more x e h =
    ap (texts_behind text bytes) e
    ∙ ap (λ t. cond t (cond (is_long (bytes ++ 13 ∷ text)) (Err TooLong) (texts_behind text (bytes ++ 13 ∷ text) more)) (texts_behind text bytes more)) h

-- a text more that is too long, and one that isn't
pub next_fails : (t : Bool) (whole : List ℕ) (rest : Result (List ℕ) MpiFault) (f : MpiFault) → Means (cond t (Err TooLong) (Ok whole)) (Err f) → Means (cond t (Err TooLong) rest) (Err f)
next_fails true whole rest NoMemory h = h
next_fails false whole rest NoMemory h = tt
next_fails true whole rest Unclosed h = h
next_fails false whole rest Unclosed h = absurd (let e : Ok whole ≡ Err Unclosed = h in cc)
next_fails true whole rest UnknownFunction h = h
next_fails false whole rest UnknownFunction h = absurd (let e : Ok whole ≡ Err UnknownFunction = h in cc)
next_fails true whole rest BadCount h = h
next_fails false whole rest BadCount h = absurd (let e : Ok whole ≡ Err BadCount = h in cc)
next_fails true whole rest BadValue h = h
next_fails false whole rest BadValue h = absurd (let e : Ok whole ≡ Err BadValue = h in cc)
next_fails true whole rest TooManyCommands h = h
next_fails false whole rest TooManyCommands h = absurd (let e : Ok whole ≡ Err TooManyCommands = h in cc)
next_fails true whole rest TooLong h = h
next_fails false whole rest TooLong h = absurd (let e : Ok whole ≡ Err TooLong = h in cc)
next_fails true whole rest (Denied rule) h = h
next_fails false whole rest (Denied rule) h = absurd (let e : Ok whole ≡ Err (Denied rule) = h in cc)

pub next_fits : (t : Bool) (whole new : List ℕ) (k : List ℕ → Result (List ℕ) MpiFault) → cond t (Err TooLong) (Ok whole) ≡ Ok new → cond t (Err TooLong) (k whole) ≡ k new
next_fits true whole new k h = absurd (let e : Err TooLong ≡ Ok new = h in cc)
next_fits false whole new k h = let e : Ok whole ≡ Ok new = h in let is : whole ≡ new = cc in ap k is

pub ruleset alike_steps = (no_items, last_is, none_is, all_is)

------------------------------------------------------------------------------------------------------------------------------
-- A text that stands for itself.

plain_first : (b : ℕ) (more : List ℕ) (x y : Bool) → b == 92 ≡ x → b == 123 ≡ y → not x && not y ≡ true → first_piece b more ≡ (byte b, more)
plain_first b more true y e f h = absurd (false≢true h)
plain_first b more false true e f h = absurd (false≢true h)
plain_first b more false false e f h = rw (e, f) refl

pub plain_said : (text : List ℕ) → is_plain text ≡ true → said (formula_pieces text) ≡ Some text
unfolding said pieces_up_to
plain_said [] h = refl
plain_said (b ∷ more) h =
    let first : first_piece b more ≡ (byte b, more) = plain_first b more (b == 92) (b == 123) refl refl (all_head is_plain_byte b more h) in
    ap said (pieces_ahead b more ∙ (λ i. (first i).0 ∷ formula_pieces (first i).1)) ∙ ap (option_map (λ xs. b ∷ xs)) (plain_said more (all_tail is_plain_byte b more h))

-- its meaning
pub plain_means : {S : Type 0} (scene : Scene S) (n : ℕ) (text value : List ℕ) (s : MindState S) → text_fault text ≡ None → said (formula_pieces text) ≡ Some text → value ≡ text → meaning scene n text s ≡ (Ok value, s)
plain_means scene n text value s short e is =
    said_spells (body_entered scene n) (formula_pieces text) [] text s e (text_short text short) ∙ (λ i. (Ok (sym is i), s))

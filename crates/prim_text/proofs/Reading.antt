-- The rows of texts, by the items at the top.
use Rattle.std.proofs.Common.{◌≡◌, ◌∙◌, ap, ℕ, List, [], ◌∷◌, take, drop, refl}
use Rattle.std.specs.Prelude.{ℤ, Option, Some, None}
use Rattle.std.proofs.lemmas.List.{length-map}
use Rattle.muf_model.specs.declared.fault.MufFault.TheVariants.{BadType}
use Rattle.muf_model.specs.Datum.{Datum, int, text, object}
use Rattle.muf_model.specs.Answer.{Answer, refuses, Scope, Made, plain, items_put, answer_unless, needing}
use Rattle.muf_model.specs.Needs.{takes_items, a_text, an_int, int_or_object}
use Rattle.muf_model.specs.Rows.{primitive_used}
use Rattle.muf_model.specs.TextRows.{one_text, two_texts, three_texts, text_and_int, texts_and_int, text_and_ints, one_integer, one_number}
use Rattle.muf_frame.specs.inner.Answers.{int_at, object_at, text_at}
use Rattle.muf_frame.proofs.Ladders.{kinds, used_plain}
use Rattle.prim_text.specs.inner.Made.{number_at_top}

abbrev one_text_read : (List ℕ → Made) → Option (List ℕ) → List Datum → Answer
one_text_read f (Some s) rest = items_put 1 (f s) rest
one_text_read f _ rest = refuses BadType

one_text_reads : (f : List ℕ → Made) (stack : List Datum) → answer_unless (kinds (a_text ∷ []) stack) (items_put 1 (one_text f (take 1 stack)) (drop 1 stack)) ≡ one_text_read f (text_at 0 stack) (drop 1 stack)
one_text_reads f (text s ∷ rest) = refl
one_text_reads f _ = refl

pub one_text_used : (f : List ℕ → Made) (level : ℕ) (s : Scope) (stack : List Datum) → primitive_used level (takes_items (a_text ∷ [])) (Some (plain (one_text f))) s stack ≡ needing 1 s.locked stack (one_text_read f (text_at 0 stack) (drop 1 stack))
one_text_used f level s stack = used_plain level a_text [] (one_text f) s stack ∙ ap (needing 1 s.locked stack) (one_text_reads f stack)

abbrev two_texts_read : (List ℕ → List ℕ → Made) → Option (List ℕ) → Option (List ℕ) → List Datum → Answer
two_texts_read f (Some t) (Some s) rest = items_put 2 (f s t) rest
two_texts_read f _ _ rest = refuses BadType

two_texts_reads : (f : List ℕ → List ℕ → Made) (stack : List Datum) → answer_unless (kinds (a_text ∷ a_text ∷ []) stack) (items_put 2 (two_texts f (take 2 stack)) (drop 2 stack)) ≡ two_texts_read f (text_at 0 stack) (text_at 1 stack) (drop 2 stack)
two_texts_reads f (text t ∷ text s ∷ rest) = refl
two_texts_reads f _ = refl

pub two_texts_used : (f : List ℕ → List ℕ → Made) (level : ℕ) (s : Scope) (stack : List Datum) → primitive_used level (takes_items (a_text ∷ a_text ∷ [])) (Some (plain (two_texts f))) s stack ≡ needing 2 s.locked stack (two_texts_read f (text_at 0 stack) (text_at 1 stack) (drop 2 stack))
two_texts_used f level s stack = used_plain level a_text (a_text ∷ []) (two_texts f) s stack ∙ ap (needing 2 s.locked stack) (two_texts_reads f stack)

abbrev three_texts_read : (List ℕ → List ℕ → List ℕ → Made) → Option (List ℕ) → Option (List ℕ) → Option (List ℕ) → List Datum → Answer
three_texts_read f (Some u) (Some t) (Some s) rest = items_put 3 (f s t u) rest
three_texts_read f _ _ _ rest = refuses BadType

three_texts_reads : (f : List ℕ → List ℕ → List ℕ → Made) (stack : List Datum) → answer_unless (kinds (a_text ∷ a_text ∷ a_text ∷ []) stack) (items_put 3 (three_texts f (take 3 stack)) (drop 3 stack)) ≡ three_texts_read f (text_at 0 stack) (text_at 1 stack) (text_at 2 stack) (drop 3 stack)
three_texts_reads f (text u ∷ text t ∷ text s ∷ rest) = refl
three_texts_reads f _ = refl

pub three_texts_used : (f : List ℕ → List ℕ → List ℕ → Made) (level : ℕ) (s : Scope) (stack : List Datum) → primitive_used level (takes_items (a_text ∷ a_text ∷ a_text ∷ [])) (Some (plain (three_texts f))) s stack ≡ needing 3 s.locked stack (three_texts_read f (text_at 0 stack) (text_at 1 stack) (text_at 2 stack) (drop 3 stack))
three_texts_used f level s stack = used_plain level a_text (a_text ∷ a_text ∷ []) (three_texts f) s stack ∙ ap (needing 3 s.locked stack) (three_texts_reads f stack)

abbrev text_and_int_read : (List ℕ → ℤ → Made) → Option ℤ → Option (List ℕ) → List Datum → Answer
text_and_int_read f (Some n) (Some s) rest = items_put 2 (f s n) rest
text_and_int_read f _ _ rest = refuses BadType

text_and_int_reads : (f : List ℕ → ℤ → Made) (stack : List Datum) → answer_unless (kinds (an_int ∷ a_text ∷ []) stack) (items_put 2 (text_and_int f (take 2 stack)) (drop 2 stack)) ≡ text_and_int_read f (int_at 0 stack) (text_at 1 stack) (drop 2 stack)
text_and_int_reads f (int n ∷ text s ∷ rest) = refl
text_and_int_reads f _ = refl

pub text_and_int_used : (f : List ℕ → ℤ → Made) (level : ℕ) (s : Scope) (stack : List Datum) → primitive_used level (takes_items (an_int ∷ a_text ∷ [])) (Some (plain (text_and_int f))) s stack ≡ needing 2 s.locked stack (text_and_int_read f (int_at 0 stack) (text_at 1 stack) (drop 2 stack))
text_and_int_used f level s stack = used_plain level an_int (a_text ∷ []) (text_and_int f) s stack ∙ ap (needing 2 s.locked stack) (text_and_int_reads f stack)

abbrev texts_and_int_read : (List ℕ → List ℕ → ℤ → Made) → Option ℤ → Option (List ℕ) → Option (List ℕ) → List Datum → Answer
texts_and_int_read f (Some n) (Some t) (Some s) rest = items_put 3 (f s t n) rest
texts_and_int_read f _ _ _ rest = refuses BadType

texts_and_int_reads : (f : List ℕ → List ℕ → ℤ → Made) (stack : List Datum) → answer_unless (kinds (an_int ∷ a_text ∷ a_text ∷ []) stack) (items_put 3 (texts_and_int f (take 3 stack)) (drop 3 stack)) ≡ texts_and_int_read f (int_at 0 stack) (text_at 1 stack) (text_at 2 stack) (drop 3 stack)
texts_and_int_reads f (int n ∷ text t ∷ text s ∷ rest) = refl
texts_and_int_reads f _ = refl

pub texts_and_int_used : (f : List ℕ → List ℕ → ℤ → Made) (level : ℕ) (s : Scope) (stack : List Datum) → primitive_used level (takes_items (an_int ∷ a_text ∷ a_text ∷ [])) (Some (plain (texts_and_int f))) s stack ≡ needing 3 s.locked stack (texts_and_int_read f (int_at 0 stack) (text_at 1 stack) (text_at 2 stack) (drop 3 stack))
texts_and_int_used f level s stack = used_plain level an_int (a_text ∷ a_text ∷ []) (texts_and_int f) s stack ∙ ap (needing 3 s.locked stack) (texts_and_int_reads f stack)

abbrev text_and_ints_read : (List ℕ → ℤ → ℤ → Made) → Option ℤ → Option ℤ → Option (List ℕ) → List Datum → Answer
text_and_ints_read f (Some n) (Some p) (Some s) rest = items_put 3 (f s p n) rest
text_and_ints_read f _ _ _ rest = refuses BadType

text_and_ints_reads : (f : List ℕ → ℤ → ℤ → Made) (stack : List Datum) → answer_unless (kinds (an_int ∷ an_int ∷ a_text ∷ []) stack) (items_put 3 (text_and_ints f (take 3 stack)) (drop 3 stack)) ≡ text_and_ints_read f (int_at 0 stack) (int_at 1 stack) (text_at 2 stack) (drop 3 stack)
text_and_ints_reads f (int n ∷ int p ∷ text s ∷ rest) = refl
text_and_ints_reads f _ = refl

pub text_and_ints_used : (f : List ℕ → ℤ → ℤ → Made) (level : ℕ) (s : Scope) (stack : List Datum) → primitive_used level (takes_items (an_int ∷ an_int ∷ a_text ∷ [])) (Some (plain (text_and_ints f))) s stack ≡ needing 3 s.locked stack (text_and_ints_read f (int_at 0 stack) (int_at 1 stack) (text_at 2 stack) (drop 3 stack))
text_and_ints_used f level s stack = used_plain level an_int (an_int ∷ a_text ∷ []) (text_and_ints f) s stack ∙ ap (needing 3 s.locked stack) (text_and_ints_reads f stack)

abbrev one_integer_read : (ℤ → Made) → Option ℤ → List Datum → Answer
one_integer_read f (Some i) rest = items_put 1 (f i) rest
one_integer_read f _ rest = refuses BadType

one_integer_reads : (f : ℤ → Made) (stack : List Datum) → answer_unless (kinds (an_int ∷ []) stack) (items_put 1 (one_integer f (take 1 stack)) (drop 1 stack)) ≡ one_integer_read f (int_at 0 stack) (drop 1 stack)
one_integer_reads f (int i ∷ rest) = refl
one_integer_reads f _ = refl

pub one_integer_used : (f : ℤ → Made) (level : ℕ) (s : Scope) (stack : List Datum) → primitive_used level (takes_items (an_int ∷ [])) (Some (plain (one_integer f))) s stack ≡ needing 1 s.locked stack (one_integer_read f (int_at 0 stack) (drop 1 stack))
one_integer_used f level s stack = used_plain level an_int [] (one_integer f) s stack ∙ ap (needing 1 s.locked stack) (one_integer_reads f stack)

abbrev one_number_read : (ℤ → Made) → Option ℤ → List Datum → Answer
one_number_read f (Some i) rest = items_put 1 (f i) rest
one_number_read f _ rest = refuses BadType

one_number_reads : (f : ℤ → Made) (stack : List Datum) → answer_unless (kinds (int_or_object ∷ []) stack) (items_put 1 (one_number f (take 1 stack)) (drop 1 stack)) ≡ one_number_read f (number_at_top stack) (drop 1 stack)
one_number_reads f (int i ∷ rest) = refl
one_number_reads f (object d ∷ rest) = refl
one_number_reads f _ = refl

pub one_number_used : (f : ℤ → Made) (level : ℕ) (s : Scope) (stack : List Datum) → primitive_used level (takes_items (int_or_object ∷ [])) (Some (plain (one_number f))) s stack ≡ needing 1 s.locked stack (one_number_read f (number_at_top stack) (drop 1 stack))
one_number_used f level s stack = used_plain level int_or_object [] (one_number f) s stack ∙ ap (needing 1 s.locked stack) (one_number_reads f stack)

abbrev either_number : Option ℤ → Option ℤ → Option ℤ
either_number (Some i) o = Some i
either_number None o = o

pub number_read_at : (stack : List Datum) → number_at_top stack ≡ either_number (int_at 0 stack) (object_at 0 stack)
number_read_at (int i ∷ rest) = refl
number_read_at (object d ∷ rest) = refl
number_read_at _ = refl

pub ruleset number_steps = (number_read_at)

pub ruleset text_steps = (one_text_used, two_texts_used, three_texts_used, text_and_int_used, texts_and_int_used, text_and_ints_used, one_integer_used, one_number_used, length-map)

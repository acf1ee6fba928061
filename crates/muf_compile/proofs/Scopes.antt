-- What is known of names, and which names are in scope.
use Rattle.std.proofs.Common.{◌≡◌, ℕ, zero, suc, ◌+◌, List, [], ◌∷◌, ◌++◌, length, Bool, true, false, cond, refl, sym, ap, subst, ◌∙◌, length-append}
use Rattle.std.specs.Prelude.{Option, Some, None, is_some, option_map, find, codes}
use Rattle.std.specs.Str.{bytes_eq}
use Rattle.std.specs.Map.{lookup}
use Rattle.std.specs.Option.{option_or}
use Rattle.muck_laws.proofs.Texts.{bytes_equal_itself, same_bytes}
use Rattle.indexmap.specs.IndexMap.{insert_entry}
use Rattle.muf_model.specs.declared.code.VarId.{VarId}
use Rattle.muf_model.specs.declared.code.Word.{Word}
use Rattle.muf_model.specs.declared.code.Word.TheVariants as item
use Rattle.muf_model.specs.declared.prims.Primitive.{Primitive}
use Rattle.muf_model.specs.Prims.{named_in_any_case}
use Rattle.muf_compile.specs.declared.fault.CompileKind.TheVariants.{DoubleName, BadHeader}
use Rattle.muf_compile.specs.declared.control.Control.{Control}
use Rattle.muf_compile.specs.declared.control.Control.TheVariants as control
use Rattle.muf_compile.specs.declared.names.Meaning.{Meaning}
use Rattle.muf_compile.specs.declared.names.Meaning.TheVariants as meaning
use Rattle.muf_compile.specs.Names.{control_words, control_of, standing_of}
use Rattle.muf_compile.specs.Reading.{Known, item_of, item_named, word_number_in, word_number, is_unfit, new_name_fault}
use Rattle.muf_compile.specs.inner.Grammar.{Scope, IsNth, process_names, Names, of_word, of_process, of_program, of_local, of_primitive, IsFree}

-- ---- lists and tables

nth_front : (names : List (List ℕ)) (new name : List ℕ) (n : ℕ) → IsNth n names name → IsNth n (names ++ new ∷ []) name
nth_front [] new name n e = cc
nth_front (x ∷ names) new name zero e = e
nth_front (x ∷ names) new name (suc n) e = nth_front names new name n e

nth_last : (names : List (List ℕ)) (new : List ℕ) → IsNth (length names) (names ++ new ∷ []) new
nth_last [] new = refl
nth_last (x ∷ names) new = nth_last names new

-- a name among these and one more is among these, or is that one
nth_either : {P : Type 0} → (names : List (List ℕ)) (new name : List ℕ) (n : ℕ) → IsNth n (names ++ new ∷ []) name → (IsNth n names name → P) → (name ≡ new → P) → P
nth_either [] new name zero e old last = last (let h : new ≡ name = cc in sym h)
nth_either [] new name (suc n) e old last = cc
nth_either (x ∷ names) new name zero e old last = old e
nth_either (x ∷ names) new name (suc n) e old last = nth_either names new name n e old last

module _ {X : Type 0} where
  absent_last : (es : List (List ℕ × X)) (new : List ℕ) (v : X) (name : List ℕ) → lookup (bytes_eq name) (es ++ (new, v) ∷ []) ≡ None → (lookup (bytes_eq name) es ≡ None) × (name ≡ new → ⊥)
  absent_last [] new v name e = (refl, λ h. differs h e)
    where
      differs : name ≡ new → cond (bytes_eq name new) (Some v) None ≡ None → ⊥
      differs h e = let t : bytes_eq name new ≡ true = subst (λ x. bytes_eq name x ≡ true) h (bytes_equal_itself name) in cc
  absent_last (x ∷ es) new v name e = by (bytes_eq name x.0) e (absent_last es new v name)
    where
      by : (b : Bool) → cond b (Some x.1) (lookup (bytes_eq name) (es ++ (new, v) ∷ [])) ≡ None → (lookup (bytes_eq name) (es ++ (new, v) ∷ []) ≡ None → (lookup (bytes_eq name) es ≡ None) × (name ≡ new → ⊥)) → (cond b (Some x.1) (lookup (bytes_eq name) es) ≡ None) × (name ≡ new → ⊥)
      by true e rest = cc
      by false e rest = rest e

  -- what is found among these and one more is found among these, or is that one
  found_either : {P : Type 0} → (es : List (List ℕ × X)) (new : List ℕ) (v : X) (name : List ℕ) (m : X) → lookup (bytes_eq name) (es ++ (new, v) ∷ []) ≡ Some m → (lookup (bytes_eq name) es ≡ Some m → P) → (new ≡ name → v ≡ m → P) → P
  found_either {P} [] new v name m e old last = by (bytes_eq name new) refl e
    where
      by : (b : Bool) → bytes_eq name new ≡ b → cond b (Some v) None ≡ Some m → P
      by true t e = last (sym (same_bytes name new t)) (let h : v ≡ m = cc in h)
      by false t e = cc
  found_either {P} (x ∷ es) new v name m e old last = by (bytes_eq name x.0) e old (λ f g. found_either es new v name m f g last)
    where
      by : (b : Bool) → cond b (Some x.1) (lookup (bytes_eq name) (es ++ (new, v) ∷ [])) ≡ Some m → (cond b (Some x.1) (lookup (bytes_eq name) es) ≡ Some m → P) → (lookup (bytes_eq name) (es ++ (new, v) ∷ []) ≡ Some m → (lookup (bytes_eq name) es ≡ Some m → P) → P) → P
      by true e old rest = old e
      by false e old rest = rest e old

  -- a new name goes last
  inserted : (es : List (List ℕ × X)) (name : List ℕ) (v : X) → lookup (bytes_eq name) es ≡ None → insert_entry bytes_eq es name v ≡ es ++ (name, v) ∷ []
  inserted [] name v e = refl
  inserted (x ∷ es) name v e = by (bytes_eq name x.0) e (inserted es name v)
    where
      by : (b : Bool) → cond b (Some x.1) (lookup (bytes_eq name) es) ≡ None → (lookup (bytes_eq name) es ≡ None → insert_entry bytes_eq es name v ≡ es ++ (name, v) ∷ []) → cond b ((x.0, v) ∷ es) (x ∷ insert_entry bytes_eq es name v) ≡ x ∷ (es ++ (name, v) ∷ [])
      by true e rest = cc
      by false e rest = ap (λ l. x ∷ l) (rest e)

-- ---- the names of a program and of a word

-- The entries are these words and these variables.
pub data Entered : List (List ℕ × Meaning) → List (List ℕ) → List (List ℕ) → Type 0 where
  no_names : Entered [] [] []
  word_more : {es : List (List ℕ × Meaning)} {ws vs : List (List ℕ)} (name : List ℕ) → Entered es ws vs → Entered (es ++ (name, meaning.Word (length ws)) ∷ []) (ws ++ name ∷ []) vs
  variable_more : {es : List (List ℕ × Meaning)} {ws vs : List (List ℕ)} (name : List ℕ) → Entered es ws vs → Entered (es ++ (name, meaning.Variable (record { 0 = 4 + length vs })) ∷ []) ws (vs ++ name ∷ [])

-- The entries are a word's variables of these names.
pub data Owned : List (List ℕ × VarId) → List (List ℕ) → Type 0 where
  no_locals : Owned [] []
  local_more : {es : List (List ℕ × VarId)} {ls : List (List ℕ)} (name : List ℕ) → Owned es ls → Owned (es ++ (name, record { 0 = 68 + length ls }) ∷ []) (ls ++ name ∷ [])

-- what a name of the program means is what it names
means : {es : List (List ℕ × Meaning)} {ws vs : List (List ℕ)} → Entered es ws vs → (ls : List (List ℕ)) (name : List ℕ) (m : Meaning) → lookup (bytes_eq name) es ≡ Some m → Names (record { words = ws; variables = vs; locals = ls }) name (item_of m)
means no_names ls name m e = cc
means (word_more {es} {ws} {vs} new h) ls name m e =
    found_either es new _ name m e
    (λ old. wider (item_of m) (means h ls name m old))
    (λ i j. subst (λ x. Names (record { words = ws ++ new ∷ []; variables = vs; locals = ls }) name (item_of x)) j (of_word (length ws) (subst (λ x. IsNth (length ws) (ws ++ new ∷ []) x) i (nth_last ws new))))
  where
    wider : (w : Word) → Names (record { words = ws; variables = vs; locals = ls }) name w → Names (record { words = ws ++ new ∷ []; variables = vs; locals = ls }) name w
    wider w (of_word n i) = of_word n (nth_front ws new name n i)
    wider w (of_process n i) = of_process n i
    wider w (of_program n i) = of_program n i
    wider w (of_local n i) = of_local n i
    wider w (of_primitive i) = of_primitive i
means (variable_more {es} {ws} {vs} new h) ls name m e =
    found_either es new _ name m e
    (λ old. wider (item_of m) (means h ls name m old))
    (λ i j. subst (λ x. Names (record { words = ws; variables = vs ++ new ∷ []; locals = ls }) name (item_of x)) j (of_program (length vs) (subst (λ x. IsNth (length vs) (vs ++ new ∷ []) x) i (nth_last vs new))))
  where
    wider : (w : Word) → Names (record { words = ws; variables = vs; locals = ls }) name w → Names (record { words = ws; variables = vs ++ new ∷ []; locals = ls }) name w
    wider w (of_word n i) = of_word n i
    wider w (of_process n i) = of_process n i
    wider w (of_program n i) = of_program n (nth_front vs new name n i)
    wider w (of_local n i) = of_local n i
    wider w (of_primitive i) = of_primitive i

-- the number of a word is its place
pub numbered : {es : List (List ℕ × Meaning)} {ws vs : List (List ℕ)} → Entered es ws vs → (name : List ℕ) (n : ℕ) → lookup (bytes_eq name) es ≡ Some (meaning.Word n) → IsNth n ws name
numbered no_names name n e = cc
numbered (word_more {es} {ws} new h) name n e =
    found_either es new _ name (meaning.Word n) e (λ old. nth_front ws new name n (numbered h name n old)) (λ i j. let k : length ws ≡ n = cc in subst (λ x. IsNth x (ws ++ new ∷ []) name) k (subst (λ x. IsNth (length ws) (ws ++ new ∷ []) x) i (nth_last ws new)))
numbered (variable_more {es} {ws} new h) name n e = found_either es new _ name (meaning.Word n) e (numbered h name n) (λ i j. cc)

owns : {es : List (List ℕ × VarId)} {ls : List (List ℕ)} → Owned es ls → (name : List ℕ) (v : VarId) → lookup (bytes_eq name) es ≡ Some v → (n : ℕ) × IsNth n ls name × (record { 0 = 68 + n } ≡ v)
owns no_locals name v e = cc
owns (local_more {es} {ls} new h) name v e =
    found_either es new _ name v e
    (λ old. let i = owns h name v old in (i.0, nth_front ls new name i.0 i.1, i.2))
    (λ i j. (length ls, subst (λ x. IsNth (length ls) (ls ++ new ∷ []) x) i (nth_last ls new), j))

-- a name that isn't found is none of these
no_word : {es : List (List ℕ × Meaning)} {ws vs : List (List ℕ)} → Entered es ws vs → (name : List ℕ) (n : ℕ) → lookup (bytes_eq name) es ≡ None → IsNth n ws name → ⊥
no_word no_names name n e i = cc
no_word (word_more {es} {ws} new h) name n e i = let a = absent_last es new _ name e in nth_either ws new name n i (no_word h name n a.0) a.1
no_word (variable_more {es} new h) name n e i = no_word h name n (absent_last es new _ name e).0 i

no_variable : {es : List (List ℕ × Meaning)} {ws vs : List (List ℕ)} → Entered es ws vs → (name : List ℕ) (n : ℕ) → lookup (bytes_eq name) es ≡ None → IsNth n vs name → ⊥
no_variable no_names name n e i = cc
no_variable (variable_more {es} {ws} {vs} new h) name n e i = let a = absent_last es new _ name e in nth_either vs new name n i (no_variable h name n a.0) a.1
no_variable (word_more {es} new h) name n e i = no_variable h name n (absent_last es new _ name e).0 i

no_local : {es : List (List ℕ × VarId)} {ls : List (List ℕ)} → Owned es ls → (name : List ℕ) (n : ℕ) → lookup (bytes_eq name) es ≡ None → IsNth n ls name → ⊥
no_local no_locals name n e i = cc
no_local (local_more {es} {ls} new h) name n e i = let a = absent_last es new _ name e in nth_either ls new name n i (no_local h name n a.0) a.1

pub as_many_owned : {es : List (List ℕ × VarId)} {ls : List (List ℕ)} → Owned es ls → length es ≡ length ls
as_many_owned no_locals = refl
as_many_owned (local_more {es} {ls} new h) = length-append es _ ∙ ap (λ n. n + 1) (as_many_owned h) ∙ sym (length-append ls _)

-- the variables of the process
standing : (name : List ℕ) (v : VarId) → standing_of name ≡ Some v → (n : ℕ) × IsNth n process_names name × (record { 0 = n } ≡ v)
unfolding standing_of
standing name v e = by (bytes_eq name (codes "me")) (bytes_eq name (codes "loc")) (bytes_eq name (codes "trigger")) (bytes_eq name (codes "command")) refl refl refl refl e
  where
    by : (a b c d : Bool) → bytes_eq name (codes "me") ≡ a → bytes_eq name (codes "loc") ≡ b → bytes_eq name (codes "trigger") ≡ c → bytes_eq name (codes "command") ≡ d
        → cond a (Some (record { 0 = 0 })) (cond b (Some (record { 0 = 1 })) (cond c (Some (record { 0 = 2 })) (cond d (Some (record { 0 = 3 })) None))) ≡ Some v
        → (n : ℕ) × IsNth n process_names name × (record { 0 = n } ≡ v)
    by true b c d ha hb hc hd e = (0, ap Some (sym (same_bytes name _ ha)), let h : record { 0 = 0 } ≡ v = cc in h)
    by false true c d ha hb hc hd e = (1, ap Some (sym (same_bytes name _ hb)), let h : record { 0 = 1 } ≡ v = cc in h)
    by false false true d ha hb hc hd e = (2, ap Some (sym (same_bytes name _ hc)), let h : record { 0 = 2 } ≡ v = cc in h)
    by false false false true ha hb hc hd e = (3, ap Some (sym (same_bytes name _ hd)), let h : record { 0 = 3 } ≡ v = cc in h)
    by false false false false ha hb hc hd e = cc

no_process : (name : List ℕ) (n : ℕ) → standing_of name ≡ None → IsNth n process_names name → ⊥
unfolding standing_of
no_process name zero e i = let h : codes "me" ≡ name = cc in let f = subst (λ x. standing_of x ≡ None) (sym h) e in cc
no_process name (suc zero) e i = let h : codes "loc" ≡ name = cc in let f = subst (λ x. standing_of x ≡ None) (sym h) e in cc
no_process name (suc (suc zero)) e i = let h : codes "trigger" ≡ name = cc in let f = subst (λ x. standing_of x ≡ None) (sym h) e in cc
no_process name (suc (suc (suc zero))) e i = let h : codes "command" ≡ name = cc in let f = subst (λ x. standing_of x ≡ None) (sym h) e in cc
no_process name (suc (suc (suc (suc n)))) e i = cc

-- ---- what a name stands for

module _ (k : Known) (ws vs ls : List (List ℕ)) (entered : Entered k.names ws vs) (owned : Owned k.locals ls) (name : List ℕ) where
  scope : Scope
  scope = record { words = ws; variables = vs; locals = ls }

  word_in : (a : Option VarId) (b : Option Meaning) (c : Option VarId) (d : Option Primitive) → Option Word
  word_in a b c d = option_or (option_map item.Variable a) (option_or (option_map item_of b) (option_or (option_map item.Variable c) (option_map item.Primitive d)))

  -- a word that has a meaning names it
  pub named_by : (w : Word) → item_named name k ≡ Some w → Names (record { words = ws; variables = vs; locals = ls }) name w
  unfolding item_named scope word_in
  named_by w e = by (lookup (bytes_eq name) k.locals) (lookup (bytes_eq name) k.names) (standing_of name) (named_in_any_case name) refl refl refl refl e
    where
      by : (a : Option VarId) (b : Option Meaning) (c : Option VarId) (d : Option Primitive) → lookup (bytes_eq name) k.locals ≡ a → lookup (bytes_eq name) k.names ≡ b → standing_of name ≡ c → named_in_any_case name ≡ d → word_in a b c d ≡ Some w → Names scope name w
      by (Some v) b c d ha hb hc hd e =
          let o = owns owned name v ha in
          let h : item.Variable v ≡ w = cc in
          subst (λ x. Names scope name x) h (subst (λ x. Names scope name (item.Variable x)) o.2 (of_local o.0 o.1))
      by None (Some m) c d ha hb hc hd e = let h : item_of m ≡ w = cc in subst (λ x. Names scope name x) h (means entered ls name m hb)
      by None None (Some v) d ha hb hc hd e =
          let o = standing name v hc in
          let h : item.Variable v ≡ w = cc in
          subst (λ x. Names scope name x) h (subst (λ x. Names scope name (item.Variable x)) o.2 (of_process o.0 o.1))
      by None None None (Some p) ha hb hc hd e = let h : item.Primitive p ≡ w = cc in subst (λ x. Names scope name x) h (of_primitive hd)
      by None None None None ha hb hc hd e = cc

  -- a name that can be declared is found nowhere, and names nothing
  free_by : new_name_fault name k ≡ None → (lookup (bytes_eq name) k.locals ≡ None) × (lookup (bytes_eq name) k.names ≡ None) × IsFree (record { words = ws; variables = vs; locals = ls }) name
  unfolding new_name_fault item_named scope word_in
  free_by e = by (is_unfit name) (lookup (bytes_eq name) k.locals) (lookup (bytes_eq name) k.names) (standing_of name) (named_in_any_case name) refl refl refl refl refl e
    where
      none_named : lookup (bytes_eq name) k.locals ≡ None → lookup (bytes_eq name) k.names ≡ None → standing_of name ≡ None → named_in_any_case name ≡ None → (w : Word) → Names scope name w → ⊥
      none_named ha hb hc hd w (of_word n i) = no_word entered name n hb i
      none_named ha hb hc hd w (of_process n i) = no_process name n hc i
      none_named ha hb hc hd w (of_program n i) = no_variable entered name n hb i
      none_named ha hb hc hd w (of_local n i) = no_local owned name n ha i
      none_named ha hb hc hd w (of_primitive i) = cc

      by : (u : Bool) (a : Option VarId) (b : Option Meaning) (c : Option VarId) (d : Option Primitive) → is_unfit name ≡ u → lookup (bytes_eq name) k.locals ≡ a → lookup (bytes_eq name) k.names ≡ b → standing_of name ≡ c → named_in_any_case name ≡ d
          → cond u (Some BadHeader) (cond (is_some (word_in a b c d)) (Some DoubleName) None) ≡ None
          → (a ≡ None) × (b ≡ None) × IsFree scope name
      by true a b c d hu ha hb hc hd e = cc
      by false None None None None hu ha hb hc hd e = (refl, refl, record { fit = hu; new = none_named ha hb hc hd })
      by false (Some v) b c d hu ha hb hc hd e = cc
      by false None (Some m) c d hu ha hb hc hd e = cc
      by false None None (Some v) d hu ha hb hc hd e = cc
      by false None None None (Some p) hu ha hb hc hd e = cc

  pub free : new_name_fault name k ≡ None → IsFree (record { words = ws; variables = vs; locals = ls }) name
  free e = (free_by e).2

  -- it goes last
  pub entered_last : new_name_fault name k ≡ None → (m : Meaning) → insert_entry bytes_eq k.names name m ≡ k.names ++ (name, m) ∷ []
  entered_last e m = inserted k.names name m (free_by e).1

  pub owned_last : new_name_fault name k ≡ None → (v : VarId) → insert_entry bytes_eq k.locals name v ≡ k.locals ++ (name, v) ∷ []
  owned_last e v = inserted k.locals name v (free_by e).0

  pub numbered_by : (n : ℕ) → word_number name k ≡ Some n → IsNth n ws name
  numbered_by n e = by (lookup (bytes_eq name) k.names) refl e
    where
      by : (m : Option Meaning) → lookup (bytes_eq name) k.names ≡ m → word_number_in m ≡ Some n → IsNth n ws name
      by (Some (meaning.Word i)) h e = let j : i ≡ n = cc in subst (λ x. IsNth x ws name) j (numbered entered name i h)
      by (Some (meaning.Variable v)) h e = cc
      by None h e = cc

-- ---- the words of the structure

-- how a word of the structure is written
abbrev pub written_as : Control → List ℕ
written_as control.Colon = codes ":"
written_as control.Semicolon = codes ";"
written_as control.Var = codes "var"
written_as control.VarStore = codes "var!"
written_as control.LVar = codes "lvar"
written_as control.Public = codes "public"
written_as control.WizCall = codes "wizcall"
written_as control.If = codes "if"
written_as control.Else = codes "else"
written_as control.Then = codes "then"
written_as control.Try = codes "try"
written_as control.Catch = codes "catch"
written_as control.EndCatch = codes "endcatch"
written_as control.Exit = codes "exit"
written_as control.Begin = codes "begin"
written_as control.For = codes "for"
written_as control.ForEach = codes "foreach"
written_as control.Repeat = codes "repeat"
written_as control.Until = codes "until"
written_as control.While = codes "while"
written_as control.Break = codes "break"
written_as control.Continue = codes "continue"

abbrev AllWritten : List (List ℕ × Control) → Type 0
AllWritten [] = Unit {0}
AllWritten (r ∷ rs) = (r.0 ≡ written_as r.1) × AllWritten rs

all_written : AllWritten control_words
unfolding control_words
all_written = (refl, (refl, (refl, (refl, (refl, (refl, (refl, (refl, (refl, (refl, (refl, (refl, (refl, (refl, (refl, (refl, (refl, (refl, (refl, (refl, (refl, (refl, tt))))))))))))))))))))))

in_rows : (name : List ℕ) (c : Control) (rows : List (List ℕ × Control)) → AllWritten rows → option_map (λ r. r.1) (find (λ r. bytes_eq r.0 name) rows) ≡ Some c → name ≡ written_as c
in_rows name c [] h e = cc
in_rows name c (r ∷ rs) h e = by (bytes_eq r.0 name) refl e (in_rows name c rs h.1)
  where
    by : (b : Bool) → bytes_eq r.0 name ≡ b → option_map (λ r. r.1) (cond b (Some r) (find (λ r. bytes_eq r.0 name) rs)) ≡ Some c → (option_map (λ r. r.1) (find (λ r. bytes_eq r.0 name) rs) ≡ Some c → name ≡ written_as c) → name ≡ written_as c
    by true t e rest = let k : r.1 ≡ c = cc in sym (same_bytes r.0 name t) ∙ h.0 ∙ ap written_as k
    by false t e rest = rest e

pub control_written : (name : List ℕ) (c : Control) → control_of name ≡ Some c → name ≡ written_as c
unfolding control_of
control_written name c e = in_rows name c control_words all_written e

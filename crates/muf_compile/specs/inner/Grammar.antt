-- How a program is written: its declarations one behind the other, the rules of a header, and what each word of a source
-- says by itself, wherever it stands.
use Rattle.std.specs.Prelude.{◌≡◌, ℕ, zero, suc, ◌+◌, ◌<◌, false, true, List, [], ◌∷◌, ◌++◌, length, map, Some, slice_get, ℤ, codes}
use Rattle.muck_model.specs.declared.dbref.Dbref.{Dbref}
use Rattle.muf_model.specs.declared.code.Offer.TheVariants.{Nobody, Wizards, All}
use Rattle.muf_model.specs.declared.code.Literal.TheVariants as literal
use Rattle.muf_model.specs.declared.code.Word.{Word}
use Rattle.muf_model.specs.declared.code.Word.TheVariants as item
use Rattle.muf_model.specs.declared.prims.Primitive.{Primitive}
use Rattle.muf_model.specs.Prims.{named_in_any_case}
use Rattle.muf_model.specs.Tree.{Block, Definition, Tree}
use Rattle.muf_token.specs.declared.token.Token.{Token}
use Rattle.muf_token.specs.declared.token.TokenKind.{TokenKind}
use Rattle.muf_token.specs.declared.token.TokenKind.TheVariants as token
use Rattle.muf_compile.specs.declared.act.Opening.TheVariants as opening
use Rattle.muf_compile.specs.declared.act.Act.{Act}
use Rattle.muf_compile.specs.declared.act.Act.TheVariants as act
use Rattle.muf_compile.specs.declared.act.Reading.{Reading}
use Rattle.muf_compile.specs.Reading.{is_unfit, may_use}
use Rattle.muf_compile.specs.Growth.{offered_in}
use Rattle.muf_compile.specs.inner.Spells.{at_line, Spells}

-- The names that are in scope: of the program's words, in their order, with the word that is being written as the last;
-- of the program's variables; and of that word's variables, its arguments first.
pub record Scope : Type 0 where
  pub words : List (List ℕ)
  pub variables : List (List ℕ)
  pub locals : List (List ℕ)

-- a name stands in a list at this number
abbrev pub IsNth : ℕ → List (List ℕ) → List ℕ → Type 0
IsNth n names name = slice_get names n ≡ Some name

-- the variables that each process has
abbrev pub process_names : List (List ℕ)
process_names = codes "me" ∷ codes "loc" ∷ codes "trigger" ∷ codes "command" ∷ []

-- what a name stands for: the word that has it, a variable of the process, of the program or of the word, or the
-- primitive of that name
pub data Names (s : Scope) (name : List ℕ) : Word → Type 0 where
  of_word : (n : ℕ) → IsNth n s.words name → Names s name (item.Call n)
  of_process : (n : ℕ) → IsNth n process_names name → Names s name (item.Variable (record { 0 = n }))
  of_program : (n : ℕ) → IsNth n s.variables name → Names s name (item.Variable (record { 0 = 4 + n }))
  of_local : (n : ℕ) → IsNth n s.locals name → Names s name (item.Variable (record { 0 = 68 + n }))
  of_primitive : {p : Primitive} → named_in_any_case name ≡ Some p → Names s name (item.Primitive p)

-- a name that may be declared: it can be a name, and stands for nothing yet
pub record IsFree (s : Scope) (name : List ℕ) : Type 0 where
  pub fit : is_unfit name ≡ false
  pub new : (w : Word) → Names s name w → ⊥

-- the words of the structure that stand among the items, and what they say
abbrev pub structure : List (List ℕ × Act)
structure =
    (codes "if", act.Open opening.If) ∷
    (codes "else", act.Else) ∷
    (codes "then", act.Then) ∷
    (codes "try", act.Open opening.Try) ∷
    (codes "catch", act.Catch) ∷
    (codes "endcatch", act.EndCatch) ∷
    (codes "begin", act.Open opening.Begin) ∷
    (codes "for", act.Open opening.For) ∷
    (codes "foreach", act.Open opening.Each) ∷
    (codes "repeat", act.Repeat) ∷
    (codes "until", act.Until) ∷
    (codes "while", act.Jump item.While) ∷
    (codes "break", act.Jump item.Break) ∷
    (codes "continue", act.Jump item.Continue) ∷
    (codes "exit", act.Item item.Exit) ∷
    []

-- What a word among the items says: a text, a number and an object are pushed as they are, `'name` pushes the address of
-- the word of that name, and a name stands for what it names, where programs may use that.
pub data Says (s : Scope) : TokenKind → Act → Type 0 where
  text : {bytes : List ℕ} → Says s (token.Text bytes) (act.Item (item.Literal (literal.Text bytes)))
  integer : {n : ℤ} → Says s (token.Number n) (act.Item (item.Literal (literal.Int n)))
  object : {d : Dbref} → Says s (token.Ref d) (act.Item (item.Literal (literal.Object d)))
  address : {name : List ℕ} (n : ℕ) → IsNth n s.words name → Says s (token.Address name) (act.Item (item.Address n))
  structural : {name : List ℕ} {a : Act} (row : ℕ) → slice_get structure row ≡ Some (name, a) → Says s (token.Word name) a
  named : {name : List ℕ} {w : Word} → Names s name w → may_use w ≡ true → Says s (token.Word name) (act.Item w)

-- a word at a line
abbrev pub at : ℕ → List ℕ → Token
at line name = record { line = line; kind = token.Word name }

-- the names of arguments in a header
pub data Arguments (words variables : List (List ℕ)) : List Token → List (List ℕ) → Type 0 where
  no_arguments : Arguments words variables [] []
  one_argument : {ts : List Token} {names : List (List ℕ)} {name : List ℕ} (line : ℕ) → Arguments words variables ts names → IsFree (record { words = words; variables = variables; locals = names }) name → (name ≡ codes "]" → ⊥) → (name ≡ codes "--" → ⊥) → Arguments words variables (ts ++ at line name ∷ []) (names ++ name ∷ [])

-- the words of a header that are passed over, behind its `--`
pub data Passed : List Token → Type 0 where
  none_passed : Passed []
  one_passed : {ts : List Token} (t : Token) → Passed ts → (t.kind ≡ token.Word (codes "]") → ⊥) → Passed (ts ++ t ∷ [])

-- the binding of so many arguments by a header whose `:` stands at a line
abbrev pub bindings : ℕ → ℕ → List Reading
bindings line zero = []
bindings line (suc n) = at_line line (act.Item (item.Bind (suc n))) ∷ []

-- how a word of this name begins: `: name`, `: name[ arguments ]` or `: name[ arguments -- results ]`
pub data Header (words variables : List (List ℕ)) (name : List ℕ) : List Token → List (List ℕ) → List Reading → Type 0 where
  bare : (first line : ℕ) → ((front : List ℕ) → name ≡ front ++ codes "[" → ⊥) → Header words variables name (at first (codes ":") ∷ at line name ∷ []) [] []
  with_arguments : (first line last : ℕ) {ts : List Token} {names : List (List ℕ)} → Arguments words variables ts names → Header words variables name (at first (codes ":") ∷ at line (name ++ codes "[") ∷ (ts ++ at last (codes "]") ∷ [])) names (bindings first (length names))
  with_results : (first line mid last : ℕ) {ts us : List Token} {names : List (List ℕ)} → Arguments words variables ts names → Passed us → Header words variables name (at first (codes ":") ∷ at line (name ++ codes "[") ∷ (ts ++ at mid (codes "--") ∷ (us ++ at last (codes "]") ∷ []))) names (bindings first (length names))

-- A word of this name up to a place, with its variables there and what its words say: its header, then words that say
-- something each, `var name`, and `var! name`, which stores into the new variable.
pub data Opened (words variables : List (List ℕ)) (name : List ℕ) : List Token → List (List ℕ) → List Reading → Type 0 where
  begun : {ts : List Token} {names : List (List ℕ)} {rs : List Reading} → Header words variables name ts names rs → Opened words variables name ts names rs
  says : {ts : List Token} {names : List (List ℕ)} {rs : List Reading} {kind : TokenKind} {a : Act} (line : ℕ) → Opened words variables name ts names rs → Says (record { words = words; variables = variables; locals = names }) kind a → Opened words variables name (ts ++ record { line = line; kind = kind } ∷ []) names (rs ++ at_line line a ∷ [])
  own_variable : {ts : List Token} {names : List (List ℕ)} {rs : List Reading} {new : List ℕ} (first line : ℕ) → Opened words variables name ts names rs → IsFree (record { words = words; variables = variables; locals = names }) new → Opened words variables name (ts ++ at first (codes "var") ∷ at line new ∷ []) (names ++ new ∷ []) rs
  stored_variable : {ts : List Token} {names : List (List ℕ)} {rs : List Reading} {new : List ℕ} (first line : ℕ) → Opened words variables name ts names rs → IsFree (record { words = words; variables = variables; locals = names }) new → Opened words variables name (ts ++ at first (codes "var!") ∷ at line new ∷ []) (names ++ new ∷ []) (rs ++ at_line first (act.Item (item.Store (record { 0 = 68 + length names }))) ∷ [])

abbrev pub names_of : List Definition → List (List ℕ)
names_of ds = map (λ d. d.name) ds

-- what is in scope between words
abbrev pub outside : List Definition → List (List ℕ) → Scope
outside ds variables = record { words = names_of ds; variables = variables; locals = [] }

-- A program up to a place between its words, with these words and the names of these variables: a variable is declared, a
-- word is offered, or a word is defined, whose items are spelled by what its words say.
pub data Declares : List Token → List Definition → List (List ℕ) → Type 0 where
  nothing_declared : Declares [] [] []
  shared_variable : {ts : List Token} {ds : List Definition} {vs : List (List ℕ)} {name : List ℕ} (first line : ℕ) → Declares ts ds vs → IsFree (outside ds vs) name → Declares (ts ++ at first (codes "var") ∷ at line name ∷ []) ds (vs ++ name ∷ [])
  local_variable : {ts : List Token} {ds : List Definition} {vs : List (List ℕ)} {name : List ℕ} (first line : ℕ) → Declares ts ds vs → IsFree (outside ds vs) name → Declares (ts ++ at first (codes "lvar") ∷ at line name ∷ []) ds (vs ++ name ∷ [])
  offered_to_all : {ts : List Token} {ds : List Definition} {vs : List (List ℕ)} {name : List ℕ} (first line n : ℕ) → Declares ts ds vs → IsNth n (names_of ds) name → Declares (ts ++ at first (codes "public") ∷ at line name ∷ []) (offered_in n All ds) vs
  offered_to_wizards : {ts : List Token} {ds : List Definition} {vs : List (List ℕ)} {name : List ℕ} (first line n : ℕ) → Declares ts ds vs → IsNth n (names_of ds) name → Declares (ts ++ at first (codes "wizcall") ∷ at line name ∷ []) (offered_in n Wizards ds) vs
  word_defined : {ts us : List Token} {ds : List Definition} {vs names : List (List ℕ)} {name : List ℕ} {rs : List Reading} {body : Block} (last : ℕ) → Declares ts ds vs → IsFree (outside ds vs) name → Opened (names_of ds ++ name ∷ []) vs name us names rs → Spells false body rs → Declares (ts ++ (us ++ at last (codes ";") ∷ [])) (ds ++ record { name = name; offer = Nobody; variables = length names; body = body; last = last } ∷ []) vs

-- these words of a source are written as a program that has this tree
pub record IsProgram (ts : List Token) (tree : Tree) : Type 0 where
  pub names : List (List ℕ)
  pub declares : Declares ts tree.words names
  pub variables : tree.variables ≡ length names
  pub word : 0 < length tree.words
